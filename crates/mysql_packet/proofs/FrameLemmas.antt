-- A payload's frame, part by part from its front, and its length.
use Rattle.std.proofs.Common.{append_assoc, ◌≡◌, ℕ, zero, suc, ◌+◌, ◌*◌, ◌/◌, ◌%◌, ◌<◌, ◌≤◌, List, [], ◌∷◌, ◌++◌, length, take, drop, ap, ◌∙◌, sym, arith}
use Rattle.std.proofs.lemmas.List.{append-nil, length-append, length-drop, length-take}
use Rattle.mysql_packet.specs.Frames.{full, split_off, parts_of, packet, packets, frame, number_after}

-- a short payload is one packet
pub parts_of-short : (bytes : List ℕ) → length bytes < full → parts_of bytes ≡ bytes ∷ []
parts_of-short bytes short = let none : length bytes / full ≡ 0 = omega arith in ap (λ k. split_off k bytes) none

pub frame-short : (first : ℕ) (bytes : List ℕ) → length bytes < full → frame first bytes ≡ packet first bytes
frame-short first bytes short = ap (packets first) (parts_of-short bytes short) ∙ append-nil (packet first bytes)

pub number_after-short : (first : ℕ) (bytes : List ℕ) → length bytes < full → number_after first bytes ≡ (first + 1) % 256
number_after-short first bytes short = let none : length bytes / full ≡ 0 = omega arith in rw none (omega arith)

-- a longer one begins with a full part
pub parts_of-long : (bytes : List ℕ) → full ≤ length bytes → parts_of bytes ≡ take full bytes ∷ parts_of (drop full bytes)
parts_of-long bytes long =
    let more : length bytes / full ≡ suc (length (drop full bytes) / full) = omega (arith, length-drop full bytes) in
    ap (λ k. split_off k bytes) more

pub frame-long : (first : ℕ) (bytes : List ℕ) → full ≤ length bytes → frame first bytes ≡ packet first (take full bytes) ++ frame ((first + 1) % 256) (drop full bytes)
frame-long first bytes long = ap (packets first) (parts_of-long bytes long)

wraps : (first k : ℕ) → ((first + suc k) % 256 + 1) % 256 ≡ (((first + 1) % 256 + k) % 256 + 1) % 256
wraps first k = omega arith

pub number_after-long : (first : ℕ) (bytes : List ℕ) → full ≤ length bytes → number_after first bytes ≡ number_after ((first + 1) % 256) (drop full bytes)
number_after-long first bytes long =
    let more : length bytes / full ≡ suc (length (drop full bytes) / full) = omega (arith, length-drop full bytes) in
    rw more (wraps first (length (drop full bytes) / full))

length-split_off : (first k : ℕ) (bytes : List ℕ) → length (packets first (split_off k bytes)) ≡ length bytes + 4 * (k + 1)
length-split_off first zero bytes = simp length-append (omega arith)
length-split_off first (suc k) bytes =
    simp length-append (omega (arith, length-split_off ((first + 1) % 256) k (drop full bytes), length-drop full bytes, length-take full bytes))

pub length-frame : (first : ℕ) (bytes : List ℕ) → length (frame first bytes) ≡ length bytes + 4 * (length bytes / full + 1)
length-frame first bytes = length-split_off first (length bytes / full) bytes

-- In a loop over a payload's parts: what is written so far and the frame of the rest are all of it, and there is room for the rest.
pub record StillPuts (total : List ℕ) (after size : ℕ) (items : List ℕ) (spare number : ℕ) (rest : List ℕ) : Type 0 where
  pub whole : items ++ frame number rest ≡ total
  pub next : number_after number rest ≡ after
  pub room : length (frame number rest) ≤ spare
  pub capacity : size ≤ length items + spare

-- room for the next full part
pub part_fits : (number spare : ℕ) (rest part : List ℕ) → full ≤ length rest → part ≡ take full rest → length (frame number rest) ≤ spare → length part + 4 ≤ spare
part_fits number spare rest part long e room = omega (arith, length-frame number rest, ap length e, length-take full rest)

module _ {total : List ℕ} {after size : ℕ} where
  pub puts_part : (items : List ℕ) (spare number : ℕ) (rest part more items' : List ℕ) (spare' : ℕ)
      → full ≤ length rest → part ≡ take full rest → more ≡ drop full rest → items' ≡ items ++ packet number part → spare' + 4 + length part ≡ spare
      → StillPuts total after size items spare number rest → StillPuts total after size items' spare' ((number + 1) % 256) more
  puts_part items spare number rest part more items' spare' long is_part is_more is_new left still =
      let parts : frame number rest ≡ packet number part ++ frame ((number + 1) % 256) more =
      frame-long number rest long ∙ ap (λ p. packet number p ++ frame ((number + 1) % 256) (drop full rest)) (sym is_part) ∙ ap (λ m. packet number part ++ frame ((number + 1) % 256) m) (sym is_more)
      in
      let lengths : length (frame number rest) ≡ length part + 4 + length (frame ((number + 1) % 256) more) =
      ap length parts ∙ simp length-append (omega arith) in
      record {
        whole = rw is_new (append_assoc items (packet number part) _ ∙ sym (ap (λ (l : List ℕ). items ++ l) parts) ∙ still.whole);
        next = ap (number_after ((number + 1) % 256)) is_more ∙ sym (number_after-long number rest long) ∙ still.next;
        room = omega (arith, still.room, lengths);
        capacity = omega (arith, still.capacity, ap length is_new, length-append items (packet number part));
      }
