-- Streams that are cut into chunks.
use Rattle.std.proofs.Common.{◌≡◌, ℕ, ◌<◌, ◌≤◌, ◌/◌, ◌%◌, List, [], ◌∷◌, ◌++◌, length, ◌+◌, ◌-◌, append_assoc, append-nil, ap, sym, subst, refl, ◌∙◌, arith, add_comm}
use Rattle.std.specs.List.{concat}
use Rattle.std.proofs.lemmas.List.{length-append, set_at}
use Rattle.mysql_packet.specs.Frames.{packet}
use Rattle.std.proofs.lemmas.List.Folds.{concat-append}
use Rattle.resultset.specs.Chunks.{IsChunk, AreChunks}
use Rattle.std.proofs.Math.ListN.{set}
use Rattle.resultset.specs.inner.Parts.{open_packet}
use Rattle.resultset.proofs.Lists.{all_push}

pub one_more : (full : List (List ℕ)) (last : List ℕ) → AreChunks full → 0 < length last → length last ≤ 16384 → AreChunks (full ++ last ∷ [])
one_more full last each some most = all_push IsChunk full last each (some, most)

pub all_of_both : (xs ys : List (List ℕ)) → AreChunks xs → AreChunks ys → AreChunks (xs ++ ys)
all_of_both [] ys a b = b
all_of_both (x ∷ xs) ys a b = (a.0, all_of_both xs ys a.1 b)

pub concat_push : (full : List (List ℕ)) (last : List ℕ) → concat (full ++ last ∷ []) ≡ concat full ++ last
concat_push full last = concat-append full (last ∷ []) ∙ ap (λ (l : List ℕ). concat full ++ l) (append-nil last)

-- The stream where its last chunk is filled by a front of the rest, and another begins.
pub filled : (full : List (List ℕ)) (last front more rest : List ℕ) → front ++ more ≡ rest
    → (concat (full ++ (last ++ front) ∷ []) ++ []) ++ more ≡ (concat full ++ last) ++ rest
filled full last front more rest e =
    ap (λ (l : List ℕ). l ++ more) (append-nil _ ∙ concat_push full (last ++ front) ∙ sym (append_assoc (concat full) last front))
    ∙ append_assoc (concat full ++ last) front more ∙ ap (λ (l : List ℕ). (concat full ++ last) ++ l) e

pub filled_next : (full full' : List (List ℕ)) (last chunk last' front more rest : List ℕ) → AreChunks full → length last ≤ 16384
    → front ++ more ≡ rest → length front + length last ≡ 16384 → chunk ≡ last ++ front → full' ≡ full ++ chunk ∷ [] → last' ≡ []
    → AreChunks full' × (length last' ≤ 16384) × ((concat full' ++ last') ++ more ≡ (concat full ++ last) ++ rest)
filled_next full full' last chunk last' front more rest each most e len is is_full is_last = (
  subst AreChunks (sym is_full) (one_more full chunk each (omega (arith, sizes)) (omega (arith, sizes))),
  subst (λ (l : List ℕ). length l ≤ 16384) (sym is_last) (omega arith),
  ap (λ (l : List ℕ). (concat full' ++ l) ++ more) is_last
      ∙ ap (λ (f : List (List ℕ)). (concat f ++ []) ++ more) (is_full ∙ ap (λ (c : List ℕ). full ++ c ∷ []) is)
      ∙ filled full last front more rest e,
)
  where
    sizes : length chunk ≡ 16384
    sizes = ap length is ∙ length-append last front ∙ add_comm _ _ ∙ len

-- All chunks, where the last has bytes, and where it has none.
pub with_last : (full chunks : List (List ℕ)) (last chunk : List ℕ) → chunks ≡ full ++ chunk ∷ [] → chunk ≡ last → concat chunks ≡ concat full ++ last
with_last full chunks last chunk e is = ap concat e ∙ concat_push full chunk ∙ ap (λ (l : List ℕ). concat full ++ l) is

pub without_last : (full : List (List ℕ)) (last : List ℕ) → last ≡ [] → concat full ≡ concat full ++ last
without_last full last is = sym (append-nil (concat full)) ∙ ap (λ (l : List ℕ). concat full ++ l) (sym is)

pub joined : (old more all : List (List ℕ)) (bytes : List ℕ) → all ≡ old ++ more → concat more ≡ bytes → concat all ≡ concat old ++ bytes
joined old more all bytes e is = ap concat e ∙ concat-append old more ∙ ap (λ (l : List ℕ). concat old ++ l) is

-- The length of a payload is written into the header in front of it.
closed : (front payload : List ℕ) (number low high n m : ℕ) → length front ≡ n → m ≡ n + 1
    → set (set (front ++ open_packet number payload) n low) m high ≡ front ++ low ∷ high ∷ 0 ∷ number ∷ payload
closed front payload number low high n m len is =
    let first : set (front ++ 0 ∷ 0 ∷ 0 ∷ number ∷ payload) n low ≡ front ++ low ∷ 0 ∷ 0 ∷ number ∷ payload = set_at front 0 (0 ∷ 0 ∷ number ∷ payload) low n len in
    let size : length (front ++ low ∷ []) ≡ m = length-append front (low ∷ []) ∙ ap (λ k. k + 1) len ∙ sym is in
    let second : set ((front ++ low ∷ []) ++ 0 ∷ 0 ∷ number ∷ payload) m high ≡ (front ++ low ∷ []) ++ high ∷ 0 ∷ number ∷ payload = set_at (front ++ low ∷ []) 0 (0 ∷ number ∷ payload) high m size in
    ap (λ (l : List ℕ). set l m high) (first ∙ sym (append_assoc front (low ∷ []) (0 ∷ 0 ∷ number ∷ payload))) ∙ second
    ∙ append_assoc front (low ∷ []) (high ∷ 0 ∷ number ∷ payload)

pub closed_packet : (old opened new payload : List ℕ) (number start size : ℕ) → opened ≡ old ++ open_packet number payload → length old ≡ start
    → size ≡ length payload → size < 16384 → new ≡ set (set opened start (size % 256)) (start + 1) (size / 256) → new ≡ old ++ packet number payload
closed_packet old opened new payload number start size is_open len is short is_new =
    let middle : size / 256 ≡ length payload / 256 % 256 = omega arith in
    let high : 0 ≡ length payload / 256 / 256 % 256 = omega arith in
    is_new ∙ ap (λ (l : List ℕ). set (set l start (size % 256)) (start + 1) (size / 256)) is_open
    ∙ closed old payload number (size % 256) (size / 256) start (start + 1) len refl
    ∙ ap (λ (x : ℕ). old ++ x % 256 ∷ size / 256 ∷ 0 ∷ number ∷ payload) is
    ∙ ap (λ (x : ℕ). old ++ length payload % 256 ∷ x ∷ 0 ∷ number ∷ payload) middle
    ∙ ap (λ (x : ℕ). old ++ length payload % 256 ∷ length payload / 256 % 256 ∷ x ∷ number ∷ payload) high

-- The size of what stands behind a header.
pub payload_size : (old opened payload : List ℕ) (number start end : ℕ) → opened ≡ old ++ open_packet number payload → length old ≡ start → end ≡ length opened
    → end - start - 4 ≡ length payload
payload_size old opened payload number start end is_open len is =
    let whole : length opened ≡ length old + length (open_packet number payload) = ap length is_open ∙ length-append old (open_packet number payload) in
    omega (arith, whole)
