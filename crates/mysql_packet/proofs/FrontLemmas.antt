-- What stands at the front of a stream, as its headers are read one after another.
use Rattle.std.proofs.Common.{◌≡◌, ℕ, zero, suc, ◌+◌, ◌*◌, ◌%◌, ◌<◌, ◌≤◌, ◌==◌, ◌&&◌, Bool, true, false, not, cond, nat_lt, List, [], ◌∷◌, ◌++◌, length, take, drop, Some, None, inr, refl, ap, ◌∙◌, sym, append_assoc, arith}
use Rattle.std.specs.List.{AllByRecursion}
use Rattle.std.proofs.lemmas.Bool.{eqb-true, ltb-false}
use Rattle.std.proofs.lemmas.List.{append-nil, length-append, length-drop, length-take, take-append-drop}
use Rattle.vt_value.specs.declared.refusal.Refusal.{Refusal}
use Rattle.vt_value.specs.declared.refusal.Refusal.TheVariants.{PacketTooLarge, PacketsOutOfOrder}
use Rattle.mysql_packet.specs.Frames.{full, parts_of, packet, packets, frame, header, header_fault, AreBegun, IsPartial}
use Rattle.mysql_packet.specs.inner.Reading.{size_of, payload_at, HasPayload, HasFault, IsNextHeader}
use Rattle.mysql_packet.proofs.PartsLemmas.{whole}
use Rattle.mysql_packet.proofs.FrameLemmas.{parts_of-short, parts_of-long}

pub take_seam : (n : ℕ) (xs ys : List ℕ) → length xs ≡ n → take n (xs ++ ys) ≡ xs
take_seam n [] ys e = let z : n ≡ 0 = omega (arith, e) in ap (λ k. take k ys) z
take_seam zero (x ∷ xs) ys e = absurd (omega (arith, e))
take_seam (suc n) (x ∷ xs) ys e = ap (λ (l : List ℕ). x ∷ l) (take_seam n xs ys (omega (arith, e)))

pub drop_seam : (n : ℕ) (xs ys : List ℕ) → length xs ≡ n → drop n (xs ++ ys) ≡ ys
drop_seam n [] ys e = let z : n ≡ 0 = omega (arith, e) in ap (λ k. drop k ys) z
drop_seam zero (x ∷ xs) ys e = absurd (omega (arith, e))
drop_seam (suc n) (x ∷ xs) ys e = drop_seam n xs ys (omega (arith, e))

abbrev pub AreFull : List (List ℕ) → Type 0
AreFull parts = AllByRecursion (λ part. length part ≡ full) parts

pub length-whole : (parts : List (List ℕ)) → AreFull parts → length (whole parts) ≡ length parts * full
length-whole [] all = refl
length-whole (p ∷ parts) all = omega (arith, length-append p (whole parts), all.0, length-whole parts all.1)

pub length-packets : (first : ℕ) (parts : List (List ℕ)) → AreFull parts → length (packets first parts) ≡ length parts * (full + 4)
length-packets first [] all = refl
length-packets first (p ∷ parts) all =
    omega (arith, length-append p (packets ((first + 1) % 256) parts), all.0, length-packets ((first + 1) % 256) parts all.1)

pub packets-snoc : (first : ℕ) (parts : List (List ℕ)) (last : List ℕ) → first < 256 → packets first (parts ++ last ∷ []) ≡ packets first parts ++ packet ((first + length parts) % 256) last
packets-snoc first [] last small = let e : (first + 0) % 256 ≡ first = omega arith in append-nil (packet first last) ∙ ap (λ n. packet n last) (sym e)
packets-snoc first (p ∷ parts) last small =
    let e : ((first + 1) % 256 + length parts) % 256 ≡ (first + suc (length parts)) % 256 = omega arith in
    ap (λ (l : List ℕ). packet first p ++ l) (packets-snoc ((first + 1) % 256) parts last (omega arith) ∙ ap (λ n. packets ((first + 1) % 256) parts ++ packet n last) e)
    ∙ sym (append_assoc (packet first p) (packets ((first + 1) % 256) parts) _)

pub parts_of-whole : (parts : List (List ℕ)) (last : List ℕ) → AreFull parts → length last < full → parts_of (whole parts ++ last) ≡ parts ++ last ∷ []
parts_of-whole [] last all short = parts_of-short last short
parts_of-whole (p ∷ parts) last all short =
    ap parts_of (append_assoc p (whole parts) last)
    ∙ parts_of-long (p ++ (whole parts ++ last)) (omega (arith, length-append p (whole parts ++ last), all.0))
    ∙ ap (λ (q : List ℕ). q ∷ parts_of (drop full (p ++ (whole parts ++ last)))) (take_seam full p (whole parts ++ last) all.0)
    ∙ ap (λ (q : List ℕ). p ∷ parts_of q) (drop_seam full p (whole parts ++ last) all.0)
    ∙ ap (λ (q : List (List ℕ)). p ∷ q) (parts_of-whole parts last all.1 short)

pub frame-whole : (first : ℕ) (parts : List (List ℕ)) (last : List ℕ) → first < 256 → AreFull parts → length last < full
    → frame first (whole parts ++ last) ≡ packets first parts ++ packet ((first + length parts) % 256) last
frame-whole first parts last small all short = ap (packets first) (parts_of-whole parts last all short) ∙ packets-snoc first parts last small

joined-packet : (first k len : ℕ) (p tail : List ℕ) → length p ≡ full → payload_at (suc k) len (packet first p ++ tail) ≡ p ++ payload_at k len tail
unfolding payload_at
joined-packet first k len p tail e =
    ap (λ (l : List ℕ). l ++ payload_at k len (drop full (p ++ tail))) (take_seam full p tail e)
    ∙ ap (λ (l : List ℕ). p ++ payload_at k len l) (drop_seam full p tail e)

joined-last : (number len : ℕ) (last more : List ℕ) → length last ≡ len → payload_at 0 len (packet number last ++ more) ≡ last
unfolding payload_at
joined-last number len last more e = take_seam len last more e

pub joined-packets : (first number len : ℕ) (parts : List (List ℕ)) (last more : List ℕ) → AreFull parts → length last ≡ len
    → payload_at (length parts) len (packets first parts ++ (packet number last ++ more)) ≡ whole parts ++ last
joined-packets first number len [] last more all e = joined-last number len last more e
joined-packets first number len (p ∷ parts) last more all e =
    let tail : List ℕ = packets ((first + 1) % 256) parts ++ (packet number last ++ more) in
    ap (payload_at (suc (length parts)) len) (append_assoc (packet first p) (packets ((first + 1) % 256) parts) (packet number last ++ more))
    ∙ joined-packet first (length parts) len p tail all.0 ∙ ap (λ (l : List ℕ). p ++ l) (joined-packets ((first + 1) % 256) number len parts last more all.1 e)
    ∙ sym (append_assoc p (whole parts) last)

-- a header that isn't refused follows the part before, within the limit
pub not_refused : (limit first come len number : ℕ) → header_fault limit first come len number ≡ None
    → (0 < come → number ≡ (first + come) % 256) × (full * come + len ≤ limit)
not_refused limit first come len number e = go (nat_lt 0 come) (number == (first + come) % 256) (nat_lt limit (full * come + len)) refl refl refl e
  where
    go : (b c d : Bool) → nat_lt 0 come ≡ b → (number == (first + come) % 256) ≡ c → nat_lt limit (full * come + len) ≡ d
        → cond (b && not c) (Some PacketsOutOfOrder) (cond d (Some PacketTooLarge) None) ≡ None
        → (0 < come → number ≡ (first + come) % 256) × (full * come + len ≤ limit)
    go b true false p q r h = ((λ _. eqb-true number ((first + come) % 256) q), ltb-false limit (full * come + len) r)
    go false false false p q r h = ((λ some. absurd (omega (arith, some, ltb-false 0 come p))), ltb-false limit (full * come + len) r)
    go true false d p q r h = absurd cc
    go true true true p q r h = absurd cc
    go false true true p q r h = absurd cc
    go false false true p q r h = absurd cc

-- In a loop over the headers: so many full parts, and then the rest.
pub record StillReads (limit : ℕ) (bytes : List ℕ) (first come : ℕ) (rest : List ℕ) : Type 0 where
  pub parts : List (List ℕ)
  pub whole_is : bytes ≡ packets first parts ++ rest
  pub all : AreFull parts
  pub come_is : length parts ≡ come
  pub within : full * come ≤ limit
  pub small : first < 256

-- before the first part any number may be the first
pub renumbers : {limit : ℕ} {bytes rest : List ℕ} {first come number other : ℕ} → number < 256 → (come ≡ 0 → other ≡ number) → (0 < come → other ≡ first) → StillReads limit bytes first come rest
    → StillReads limit bytes other come rest
renumbers {limit} {bytes} {rest} {first} {come} {number} {other} small begins goes still = go still.parts still.whole_is still.all still.come_is
  where
    go : (parts : List (List ℕ)) → bytes ≡ packets first parts ++ rest → AreFull parts → length parts ≡ come → StillReads limit bytes other come rest
    go [] is all count =
        record { parts = []; whole_is = is; all = tt; come_is = count; within = still.within; small = omega (arith, begins (sym count), small) }
    go (p ∷ parts) is all count =
        let same : other ≡ first = goes (omega (arith, count)) in
        record {
          parts = p ∷ parts;
          whole_is = is ∙ ap (λ k. packets k (p ∷ parts) ++ rest) (sym same);
          all = all;
          come_is = count;
          within = still.within;
          small = omega (arith, same, still.small);
        }

begun : {limit : ℕ} {bytes rest : List ℕ} {first come : ℕ} → (s : StillReads limit bytes first come rest) → AreBegun limit s.parts
begun s = (s.all, omega (arith, s.within, ap (λ n. full * n) s.come_is))

AreFull-snoc : (parts : List (List ℕ)) (part : List ℕ) → AreFull parts → length part ≡ full → AreFull (parts ++ part ∷ [])
AreFull-snoc [] part all e = (e, tt)
AreFull-snoc (p ∷ parts) part all e = (all.0, AreFull-snoc parts part all.1 e)

module _ {limit : ℕ} {bytes rest body : List ℕ} {first come len number : ℕ} (n : IsNextHeader len number body rest) (s : StillReads limit bytes first come rest) where
  at_parts : header_fault limit first (length s.parts) len number ≡ header_fault limit first come len number
  at_parts = ap (λ k. header_fault limit first k len number) s.come_is

  parsed : bytes ≡ packets first s.parts ++ (header len number ++ body)
  parsed = s.whole_is ∙ ap (λ (l : List ℕ). packets first s.parts ++ l) n.spelled

  pub is_refused : (refusal : Refusal) → header_fault limit first come len number ≡ Some refusal → HasFault limit (record { refusal = refusal; number = number }) bytes
  is_refused refusal e =
      record { first = first; parts = s.parts; len = len; more = body; whole = parsed ∙ sym (append_assoc (packets first s.parts) (header len number) body); begun = begun s; refused = at_parts ∙ e; in_range = (s.small, n.len_small, n.number_small) }

  pub waits_part : header_fault limit first come len number ≡ None → length body < len → IsPartial limit bytes
  waits_part e short =
      (first, s.parts, header len number ++ body, s.small, begun s, parsed, inr (len, number, body, n.len_small, refl, short, at_parts ∙ e))

  module _ (e : header_fault limit first come len number ≡ None) (begins : come ≡ 0 → first ≡ number) (enough : len ≤ length body) where
    ok : (0 < come → number ≡ (first + come) % 256) × (full * come + len ≤ limit)
    ok = not_refused limit first come len number e

    number_is : number ≡ (first + come) % 256
    number_is = go come refl
      where
        go : (k : ℕ) → come ≡ k → number ≡ (first + come) % 256
        go zero z = omega (arith, begins z, z, s.small)
        go (suc k) z = ok.0 (omega (arith, z))

    part_is : length (take len body) ≡ len
    part_is = omega (arith, length-take len body, enough)

    -- the next packet and the bytes after it
    split : bytes ≡ packets first s.parts ++ (packet ((first + length s.parts) % 256) (take len body) ++ drop len body)
    split =
        parsed
        ∙ ap (λ (l : List ℕ). packets first s.parts ++ (header len number ++ l)) (sym (take-append-drop len body))
        ∙ ap (λ k. packets first s.parts ++ (header k number ++ (take len body ++ drop len body))) (sym part_is)
        ∙ ap (λ k. packets first s.parts ++ (packet k (take len body) ++ drop len body)) (number_is ∙ ap (λ k. (first + k) % 256) (sym s.come_is))

    pub goes_on : full ≤ len → StillReads limit bytes first (come + 1) (drop len body)
    goes_on long =
        let is_full : length (take len body) ≡ full = omega (arith, part_is, n.len_small, long) in
        record {
          parts = s.parts ++ take len body ∷ [];
          whole_is = split ∙ sym (append_assoc (packets first s.parts) (packet ((first + length s.parts) % 256) (take len body)) (drop len body))
              ∙ ap (λ (l : List ℕ). l ++ drop len body) (sym (packets-snoc first s.parts (take len body) s.small));
          all = AreFull-snoc s.parts (take len body) s.all is_full;
          come_is = omega (arith, s.come_is, length-append s.parts (take len body ∷ []));
          within = omega (arith, ok.1, long);
          small = s.small;
        }

    pub is_whole : len < full → HasPayload limit first come len bytes
    is_whole short =
        let parts = s.parts in
        let last : List ℕ = take len body in
        let more : List ℕ = drop len body in
        let next : ℕ = (first + length parts) % 256 in
        let payload : payload_at come len bytes ≡ whole parts ++ last =
        ap (λ k. payload_at k len bytes) (sym s.come_is) ∙ ap (payload_at (length parts) len) split ∙ joined-packets first next len parts last more s.all part_is in
        let front : bytes ≡ (packets first parts ++ packet next last) ++ more = split ∙ sym (append_assoc (packets first parts) (packet next last) more) in
        let size : length (packets first parts ++ packet next last) ≡ size_of come len =
        omega (arith, length-append (packets first parts) (packet next last), length-packets first parts s.all, part_is, s.come_is) in
        let trailing : drop (size_of come len) bytes ≡ more = ap (drop (size_of come len)) front ∙ drop_seam (size_of come len) (packets first parts ++ packet next last) more size in
        let framed : frame first (payload_at come len bytes) ≡ packets first parts ++ packet next last =
        ap (frame first) payload ∙ frame-whole first parts last s.small s.all (omega (arith, part_is, short)) in
        record {
          whole = front ∙ ap (λ (l : List ℕ). l ++ more) (sym framed) ∙ ap (λ (l : List ℕ). frame first (payload_at come len bytes) ++ l) (sym trailing);
          length_is = omega (arith, ap length payload, length-append (whole parts) last, length-whole parts s.all, part_is, s.come_is);
          fits = omega (arith, ap length front, length-append (packets first parts ++ packet next last) more, size);
          within = omega (arith, ok.1);
          in_range = (s.small, short);
        }

-- In a loop over the parts: what was joined, and what is left to join.
pub record StillJoins (total : List ℕ) (come len counter : ℕ) (payload rest : List ℕ) : Type 0 where
  pub left : ℕ
  pub left_is : left + counter ≡ come
  pub all : payload ++ payload_at left len rest ≡ total
  pub fits : size_of left len ≤ length rest

pub starts_join : (come len : ℕ) (bytes payload : List ℕ) → payload ≡ [] → size_of come len ≤ length bytes → StillJoins (payload_at come len bytes) come len 0 payload bytes
starts_join come len bytes payload none fits = record { left = come; left_is = omega arith; all = ap (λ (l : List ℕ). l ++ payload_at come len bytes) none; fits = fits }

module _ (total : List ℕ) (come len counter : ℕ) (payload rest : List ℕ) (s : StillJoins total come len counter payload rest) where
  pub joins_part : (part after payload' : List ℕ) → counter < come → part ≡ take full (drop 4 rest) → after ≡ drop full (drop 4 rest) → payload' ≡ payload ++ part → StillJoins total come len (counter + 1) payload' after
  unfolding payload_at
  joins_part part after payload' some is_part is_after is_new = go s.left s.left_is s.all s.fits
    where
      go : (left : ℕ) → left + counter ≡ come → payload ++ payload_at left len rest ≡ total → size_of left len ≤ length rest → StillJoins total come len (counter + 1) payload' after
      go zero e all fits = absurd (omega (arith, e, some))
      go (suc left) e all fits =
          record {
            left = left;
            left_is = omega (arith, e);
            all = ap (λ (l : List ℕ). l ++ payload_at left len after) is_new ∙ append_assoc payload part (payload_at left len after)
                ∙ ap (λ (l : List ℕ). payload ++ (l ++ payload_at left len after)) is_part ∙ ap (λ (l : List ℕ). payload ++ (take full (drop 4 rest) ++ payload_at left len l)) is_after ∙ all;
            fits = omega (arith, fits, ap length is_after, length-drop full (drop 4 rest), length-drop 4 rest);
          }

  pub joins_last : (part payload' : List ℕ) → come ≤ counter → part ≡ take len (drop 4 rest) → payload' ≡ payload ++ part → payload' ≡ total
  unfolding payload_at
  joins_last part payload' done is_part is_new = go s.left s.left_is s.all
    where
      go : (left : ℕ) → left + counter ≡ come → payload ++ payload_at left len rest ≡ total → payload' ≡ total
      go zero e all = is_new ∙ ap (λ (l : List ℕ). payload ++ l) is_part ∙ all
      go (suc left) e all = absurd (omega (arith, e, done))
