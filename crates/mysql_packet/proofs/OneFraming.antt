-- A stream is these payloads and no others: one reading of its front, which each description of it agrees with.
use Rattle.std.proofs.Common.{◌≡◌, ℕ, zero, suc, ◌+◌, ◌*◌, ◌/◌, ◌%◌, ◌^◌, ◌-◌, ◌<◌, ◌≤◌, ◌==◌, ◌&&◌, Bool, true, false, not, cond, nat_lt, List, [], ◌∷◌, ◌++◌, length, take, drop, Option, Some, None, inl, inr, refl, ap, ◌∙◌, sym, append_assoc, arith}
use Rattle.std.specs.List.{AllByRecursion}
use Rattle.std.proofs.lemmas.Bool.{lt-ltb, le-ltb, eq-eqb}
use Rattle.std.specs.Prelude.{◌⊎◌}
use Rattle.std.proofs.lemmas.List.{append-nil, length-append, length-drop, length-take, take-append-drop}
use Rattle.vt_value.specs.declared.refusal.Refusal.{Refusal}
use Rattle.vt_value.specs.declared.refusal.Refusal.TheVariants.{PacketTooLarge, PacketsOutOfOrder}
use Rattle.mysql_packet.specs.declared.framer.Payload.{Payload}
use Rattle.mysql_packet.specs.declared.framer.HeaderFault.{HeaderFault}
use Rattle.mysql_packet.specs.Frames.{full, split_off, packet, packets, frame, header, header_fault, stream_of, AreBegun, IsPartial, IsTaken, Splits, IsRefusedAfter}
use Rattle.mysql_packet.proofs.PartsLemmas.{whole}
use Rattle.mysql_packet.proofs.FrontLemmas.{AreFull, length-whole, take_seam, drop_seam, length-packets, packets-snoc}

-- what stands at the front: less than a payload, a header that is refused, or a payload and the rest
data Front : Type 0 where
  waits : Front
  refuses : HeaderFault → Front
  takes : Payload → List ℕ → Front

abbrev decide : Option Refusal → Bool → Bool → ℕ → Front → Front → Front
decide (Some refusal) short last number whole next = refuses (record { refusal = refusal; number = number })
decide None true last number whole next = waits
decide None false true number whole next = whole
decide None false false number whole next = next

-- a part of len bytes begins, where so many full parts have come, and these bytes in them
abbrev read_part : ℕ → ℕ → ℕ → List ℕ → List ℕ → ℕ → (List ℕ → List ℕ → Front) → ℕ → Front
read_part limit first come front body number next len =
    decide (header_fault limit first come len number) (nat_lt (length body) len) (nat_lt len full) number
    (takes (record { first = first; last = (first + come) % 256; bytes = front ++ take len body }) (drop len body)) (next (front ++ take len body) (drop len body))

scan : ℕ → ℕ → ℕ → ℕ → List ℕ → List ℕ → Front
scan zero limit first come front bytes = waits
scan (suc n) limit first come front (low ∷ middle ∷ high ∷ number ∷ body) = read_part limit first come front body number (scan n limit first (come + 1)) (low + 256 * middle + 65536 * high)
scan (suc n) limit first come front _ = waits

scan-header : (n limit first come : ℕ) (front body : List ℕ) (len number : ℕ) → len < 2 ^ 24
    → scan (suc n) limit first come front (header len number ++ body) ≡ read_part limit first come front body number (scan n limit first (come + 1)) len
unfolding scan
scan-header n limit first come front body len number bound =
    let spelled : len % 256 + 256 * (len / 256 % 256) + 65536 * (len / 256 / 256 % 256) ≡ len = omega arith in
    ap (read_part limit first come front body number (scan n limit first (come + 1))) spelled

scan-zero : (limit first come : ℕ) (front bytes : List ℕ) → scan zero limit first come front bytes ≡ waits
unfolding scan
scan-zero limit first come front bytes = refl

scan-short : (n limit first come : ℕ) (front bytes : List ℕ) → length bytes < 4 → scan n limit first come front bytes ≡ waits
unfolding scan
scan-short zero limit first come front bytes short = refl
scan-short (suc n) limit first come front (a ∷ b ∷ c ∷ d ∷ bytes) short = absurd (omega (arith, short))
scan-short (suc n) limit first come front _ short = refl

decide-refuses : (refusal : Refusal) (o : Option Refusal) (short last : Bool) (number : ℕ) (whole next : Front) → o ≡ Some refusal → decide o short last number whole next ≡ refuses (record { refusal = refusal; number = number })
decide-refuses refusal o short last number whole next e = rw e refl

decide-waits : (o : Option Refusal) (short last : Bool) (number : ℕ) (whole next : Front) → o ≡ None → short ≡ true → decide o short last number whole next ≡ waits
decide-waits o short last number whole next e f = rw (e, f) refl

decide-whole : (o : Option Refusal) (short last : Bool) (number : ℕ) (whole next : Front) → o ≡ None → short ≡ false → last ≡ true → decide o short last number whole next ≡ whole
decide-whole o short last number whole next e f g = rw (e, f, g) refl

decide-next : (o : Option Refusal) (short last : Bool) (number : ℕ) (whole next : Front) → o ≡ None → short ≡ false → last ≡ false → decide o short last number whole next ≡ next
decide-next o short last number whole next e f g = rw (e, f, g) refl

-- a header that follows the part before, within the limit, isn't refused
accepted : (limit first come len number : ℕ) → number ≡ (first + come) % 256 → full * come + len ≤ limit → header_fault limit first come len number ≡ None
accepted limit first come len number follows within = go (nat_lt 0 come) (number == (first + come) % 256) (nat_lt limit (full * come + len)) (eq-eqb number ((first + come) % 256) follows) (le-ltb limit (full * come + len) within)
  where
    go : (some same over : Bool) → same ≡ true → over ≡ false → cond (some && not same) (Some PacketsOutOfOrder) (cond over (Some PacketTooLarge) None) ≡ None
    go true true false p q = refl
    go false true false p q = refl
    go some false over p q = absurd cc
    go some same true p q = absurd cc

module _ (limit first : ℕ) where
  waits-at : (n come : ℕ) (front tail : List ℕ)
      → ((length tail < 4) ⊎ ((len number : ℕ) × (part : List ℕ) × (len < 2 ^ 24) × (tail ≡ header len number ++ part) × (length part < len) × (header_fault limit first come len number ≡ None)))
      → scan n limit first come front tail ≡ waits
  waits-at n come front tail (inl short) = scan-short n limit first come front tail short
  waits-at zero come front tail (inr h) = scan-zero limit first come front tail
  waits-at (suc n) come front tail (inr h) =
      ap (scan (suc n) limit first come front) h.4 ∙ scan-header n limit first come front h.2 h.0 h.1 h.3 ∙ decide-waits _ _ _ _ _ _ h.6 (lt-ltb (length h.2) h.0 h.5)

  refuses-at : (n come : ℕ) (front more : List ℕ) (len number : ℕ) (refusal : Refusal) → len < 2 ^ 24 → header_fault limit first come len number ≡ Some refusal
      → scan (suc n) limit first come front (header len number ++ more) ≡ refuses (record { refusal = refusal; number = number })
  refuses-at n come front more len number refusal bound e = scan-header n limit first come front more len number bound ∙ decide-refuses refusal _ _ _ _ _ _ e

  module _ (n come number : ℕ) (front part rest : List ℕ) (follows : number ≡ (first + come) % 256) (within : full * come + length part ≤ limit) where
    enough : nat_lt (length (part ++ rest)) (length part) ≡ false
    enough = le-ltb (length (part ++ rest)) (length part) (omega (arith, length-append part rest))

    -- the last part
    takes-at : length part < full → scan (suc n) limit first come front (packet number part ++ rest) ≡ takes (record { first = first; last = (first + come) % 256; bytes = front ++ part }) rest
    takes-at short =
        scan-header n limit first come front (part ++ rest) (length part) number (omega (arith, short))
        ∙ decide-whole _ _ _ _ _ _ (accepted limit first come (length part) number follows within) enough (lt-ltb (length part) full short)
        ∙ ap (λ (l : List ℕ). takes (record { first = first; last = (first + come) % 256; bytes = front ++ l }) (drop (length part) (part ++ rest))) (take_seam (length part) part rest refl)
        ∙ ap (λ (l : List ℕ). takes (record { first = first; last = (first + come) % 256; bytes = front ++ part }) l) (drop_seam (length part) part rest refl)

    -- a full part
    goes-on : length part ≡ full → scan (suc n) limit first come front (packet number part ++ rest) ≡ scan n limit first (come + 1) (front ++ part) rest
    goes-on long =
        scan-header n limit first come front (part ++ rest) (length part) number (omega (arith, long))
        ∙ decide-next _ _ _ _ _ _ (accepted limit first come (length part) number follows within) enough (le-ltb (length part) full (omega (arith, long)))
        ∙ ap (λ (l : List ℕ). scan n limit first (come + 1) (front ++ l) (drop (length part) (part ++ rest))) (take_seam (length part) part rest refl)
        ∙ ap (scan n limit first (come + 1) (front ++ part)) (drop_seam (length part) part rest refl)

  scan-parts : (parts : List (List ℕ)) (m n come come' number : ℕ) (front tail : List ℕ) → AreFull parts → m ≡ length parts + n → come' ≡ come + length parts → number ≡ (first + come) % 256
      → full * (come + length parts) ≤ limit → scan m limit first come front (packets number parts ++ tail) ≡ scan n limit first come' (front ++ whole parts) tail
  scan-parts [] m n come come' number front tail all fuel count follows within =
      let e : m ≡ n = omega (arith, fuel) in
      let f : come ≡ come' = omega (arith, count) in
      let g : front ≡ front ++ [] = sym (append-nil front) in
      ap (λ k. scan k limit first come front tail) e ∙ ap (λ k. scan n limit first k front tail) f ∙ ap (λ (l : List ℕ). scan n limit first come' l tail) g
  scan-parts (p ∷ parts) zero n come come' number front tail all fuel count follows within = absurd (omega (arith, fuel))
  scan-parts (p ∷ parts) (suc m) n come come' number front tail all fuel count follows within =
      ap (scan (suc m) limit first come front) (append_assoc (packet number p) (packets ((number + 1) % 256) parts) tail)
      ∙ goes-on m come number front p (packets ((number + 1) % 256) parts ++ tail) follows (omega (arith, within, all.0)) all.0
      ∙ scan-parts parts m n (come + 1) come' ((number + 1) % 256) (front ++ p) tail all.1 (omega (arith, fuel)) (omega (arith, count)) (omega (arith, follows)) (omega (arith, within))
      ∙ ap (λ (l : List ℕ). scan n limit first come' l tail) (append_assoc front p (whole parts))

fourth : List ℕ → ℕ
fourth (a ∷ b ∷ c ∷ number ∷ bytes) = number
fourth _ = 0

-- what stands at the front of these bytes
at : ℕ → List ℕ → Front
at limit bytes = scan (length bytes) limit (fourth bytes) 0 [] bytes

-- full parts within the limit
at-parts : (limit first n : ℕ) (parts : List (List ℕ)) (tail : List ℕ) → first < 256 → AreBegun limit parts → fourth (packets first parts ++ tail) ≡ first → length (packets first parts ++ tail) ≡ length parts + n
    → at limit (packets first parts ++ tail) ≡ scan n limit first (length parts) (whole parts) tail
unfolding at
at-parts limit first n parts tail small begun is fuel =
    ap (λ k. scan (length (packets first parts ++ tail)) limit k 0 [] (packets first parts ++ tail)) is
    ∙ scan-parts limit first parts (length (packets first parts ++ tail)) n 0 (length parts) first [] tail begun.0 fuel (omega arith) (omega (arith, small)) (omega (arith, begun.1))

-- how many steps are left after the full parts
size-trailing : (first : ℕ) (parts : List (List ℕ)) (tail : List ℕ) → AreFull parts → length parts + length tail ≤ length (packets first parts ++ tail)
size-trailing first parts tail all = omega (arith, length-append (packets first parts) tail, length-packets first parts all)

abbrev IsWaiting : ℕ → ℕ → ℕ → List ℕ → Type 0
IsWaiting limit first come tail =
    (length tail < 4) ⊎ ((len number : ℕ) × (part : List ℕ) × (len < 2 ^ 24) × (tail ≡ header len number ++ part) × (length part < len) × (header_fault limit first come len number ≡ None))

at-partial : (limit : ℕ) (bytes : List ℕ) → IsPartial limit bytes → at limit bytes ≡ waits
unfolding at fourth
at-partial limit bytes h = ap (at limit) h.5 ∙ go h.1 h.4 h.6
  where
    go : (parts : List (List ℕ)) → AreBegun limit parts → IsWaiting limit h.0 (length parts) h.2 → at limit (packets h.0 parts ++ h.2) ≡ waits
    go [] begun ends = waits-at limit (fourth h.2) (length h.2) 0 [] h.2 ends
    go (p ∷ parts) begun ends =
        let n : ℕ = length (packets h.0 (p ∷ parts) ++ h.2) - length (p ∷ parts) in
        at-parts limit h.0 n (p ∷ parts) h.2 h.3 begun refl (omega (arith, size-trailing h.0 (p ∷ parts) h.2 begun.0))
        ∙ waits-at limit h.0 n (length (p ∷ parts)) (whole (p ∷ parts)) h.2 ends

at-refused : (limit first len number : ℕ) (parts : List (List ℕ)) (more : List ℕ) (refusal : Refusal) → first < 256 → len < 2 ^ 24 → AreBegun limit parts
    → header_fault limit first (length parts) len number ≡ Some refusal
    → at limit (packets first parts ++ (header len number ++ more)) ≡ refuses (record { refusal = refusal; number = number })
unfolding at fourth
at-refused limit first len number [] more refusal small bound begun e = refuses-at limit number _ 0 [] more len number refusal bound e
at-refused limit first len number (p ∷ parts) more refusal small bound begun e =
    let tail : List ℕ = header len number ++ more in
    let n : ℕ = length (packets first (p ∷ parts) ++ tail) - suc (length (p ∷ parts)) in
    at-parts limit first (suc n) (p ∷ parts) tail small begun refl (omega (arith, size-trailing first (p ∷ parts) tail begun.0))
    ∙ refuses-at limit first n (length (p ∷ parts)) (whole (p ∷ parts)) more len number refusal bound e

-- a payload as full parts and a shorter one
record LastPart (k : ℕ) (bytes : List ℕ) : Type 0 where
  parts : List (List ℕ)
  last : List ℕ
  all : AreFull parts
  short : length last < full
  are : split_off k bytes ≡ parts ++ last ∷ []
  joined : whole parts ++ last ≡ bytes
  count : length parts ≡ k

last_part : (k : ℕ) (bytes : List ℕ) → k * full ≤ length bytes → length bytes < k * full + full → LastPart k bytes
last_part zero bytes low high = record { parts = []; last = bytes; all = tt; short = omega (arith, high); are = refl; joined = refl; count = refl }
last_part (suc k) bytes low high =
    let r = last_part k (drop full bytes) (omega (arith, length-drop full bytes, low)) (omega (arith, length-drop full bytes, low, high)) in
    record {
      parts = take full bytes ∷ r.parts;
      last = r.last;
      all = (omega (arith, length-take full bytes, low), r.all);
      short = r.short;
      are = ap (λ (l : List (List ℕ)). take full bytes ∷ l) r.are;
      joined = append_assoc (take full bytes) (whole r.parts) r.last ∙ ap (λ (l : List ℕ). take full bytes ++ l) r.joined ∙ take-append-drop full bytes;
      count = omega (arith, r.count);
    }

fourth-front : (first : ℕ) (parts : List (List ℕ)) (last rest : List ℕ) → first < 256 → fourth (packets first parts ++ (packet ((first + length parts) % 256) last ++ rest)) ≡ first
unfolding fourth
fourth-front first [] last rest small = omega arith
fourth-front first (p ∷ parts) last rest small = refl

-- full parts and a shorter one, within the limit
at-last : (limit first n number : ℕ) (parts : List (List ℕ)) (last rest : List ℕ) → first < 256 → AreFull parts → number ≡ (first + length parts) % 256 → length last < full
    → full * length parts + length last ≤ limit → length (packets first parts ++ (packet number last ++ rest)) ≡ length parts + suc n
    → at limit (packets first parts ++ (packet number last ++ rest)) ≡ takes (record { first = first; last = (first + length parts) % 256; bytes = whole parts ++ last }) rest
at-last limit first n number parts last rest small all follows short within fuel =
    at-parts limit first (suc n) parts (packet number last ++ rest) small (all, omega (arith, within)) (ap (λ k. fourth (packets first parts ++ (packet k last ++ rest))) follows ∙ fourth-front first parts last rest small) fuel
    ∙ takes-at limit first n (length parts) number (whole parts) last rest follows within short

at-whole : (limit : ℕ) (p : Payload) (rest : List ℕ) → IsTaken limit p → at limit (frame p.first p.bytes ++ rest) ≡ takes p rest
at-whole limit p rest t = let r = last_part (length p.bytes / full) p.bytes (omega arith) (omega arith) in go (length p.bytes / full) refl r.parts r.last r.all r.short r.are r.joined r.count
  where
    go : (k : ℕ) → length p.bytes / full ≡ k → (parts : List (List ℕ)) (last : List ℕ) → AreFull parts → length last < full → split_off k p.bytes ≡ parts ++ last ∷ [] → whole parts ++ last ≡ p.bytes → length parts ≡ k
        → at limit (packets p.first (split_off k p.bytes) ++ rest) ≡ takes p rest
    go k e parts last all short are joined count =
        let number : ℕ = (p.first + length parts) % 256 in
        let size : length p.bytes ≡ length parts * full + length last = omega (arith, ap length joined, length-append (whole parts) last, length-whole parts all) in
        let n : ℕ = length (packets p.first parts ++ (packet number last ++ rest)) - suc (length parts) in
        ap (λ (l : List (List ℕ)). at limit (packets p.first l ++ rest)) are
        ∙ ap (λ (l : List ℕ). at limit (l ++ rest)) (packets-snoc p.first parts last t.0.0)
        ∙ ap (at limit) (append_assoc (packets p.first parts) (packet number last) rest)
        ∙ at-last limit p.first n number parts last rest t.0.0 all refl short (omega (arith, size, t.1)) (omega (arith, size-trailing p.first parts (packet number last ++ rest) all))
        ∙ ap (λ (l : List ℕ). takes (record { first = p.first; last = number; bytes = l }) rest) joined
        ∙ ap (λ m. takes (record { first = p.first; last = m; bytes = p.bytes }) rest) (ap (λ m. (p.first + m) % 256) (count ∙ sym e) ∙ sym t.0.1)

-- no payload stands at the front
abbrev IsEnd : ℕ → List ℕ → Type 0
IsEnd limit bytes = (p : Payload) (rest : List ℕ) → at limit bytes ≡ takes p rest → ⊥

one_end : (limit : ℕ) (ps qs : List Payload) (r s : List ℕ) → AllByRecursion (IsTaken limit) ps → AllByRecursion (IsTaken limit) qs → IsEnd limit r → IsEnd limit s
    → stream_of ps ++ r ≡ stream_of qs ++ s → (ps ≡ qs) × (r ≡ s)
one_end limit [] [] r s a b m n e = (refl, e)
one_end limit [] (q ∷ qs) r s a b m n e =
    absurd (m q (stream_of qs ++ s) (ap (at limit) (e ∙ append_assoc (frame q.first q.bytes) (stream_of qs) s) ∙ at-whole limit q (stream_of qs ++ s) b.0))
one_end limit (p ∷ ps) [] r s a b m n e =
    absurd (n p (stream_of ps ++ r) (ap (at limit) (sym e ∙ append_assoc (frame p.first p.bytes) (stream_of ps) r) ∙ at-whole limit p (stream_of ps ++ r) a.0))
one_end limit (p ∷ ps) (q ∷ qs) r s a b m n e =
    let same : frame p.first p.bytes ++ (stream_of ps ++ r) ≡ frame q.first q.bytes ++ (stream_of qs ++ s) =
    sym (append_assoc (frame p.first p.bytes) (stream_of ps) r) ∙ e ∙ append_assoc (frame q.first q.bytes) (stream_of qs) s in
    let both : takes p (stream_of ps ++ r) ≡ takes q (stream_of qs ++ s) = sym (at-whole limit p (stream_of ps ++ r) a.0) ∙ ap (at limit) same ∙ at-whole limit q (stream_of qs ++ s) b.0 in
    let first : p ≡ q = cc both in
    let more = one_end limit ps qs r s a.1 b.1 m n (cc both) in
    (cc (first, more.0), more.1)

waits-end : (limit : ℕ) (r : List ℕ) → at limit r ≡ waits → IsEnd limit r
waits-end limit r e p rest f = let g : waits ≡ takes p rest = sym e ∙ f in absurd (cc g)

refuses-end : (limit : ℕ) (r : List ℕ) (fault : HeaderFault) → at limit r ≡ refuses fault → IsEnd limit r
refuses-end limit r fault e p rest f = let g : refuses fault ≡ takes p rest = sym e ∙ f in absurd (cc g)

-- the refused header and what is before it in its payload, and what is after
record RefusedEnd (limit : ℕ) (bytes : List ℕ) (ps : List Payload) (fault : HeaderFault) : Type 0 where
  rest : List ℕ
  whole_is : bytes ≡ stream_of ps ++ rest
  each : AllByRecursion (IsTaken limit) ps
  read : at limit rest ≡ refuses fault

refused_end : (limit : ℕ) (bytes : List ℕ) (ps : List Payload) (fault : HeaderFault) → IsRefusedAfter limit bytes ps fault → RefusedEnd limit bytes ps fault
refused_end limit bytes ps fault h = record {
  rest = packets h.first h.parts ++ (header h.len fault.number ++ h.more);
  whole_is = h.whole ∙ ap (λ (l : List ℕ). l ++ h.more) (append_assoc (stream_of ps) (packets h.first h.parts) (header h.len fault.number))
      ∙ append_assoc (stream_of ps) (packets h.first h.parts ++ header h.len fault.number) h.more
      ∙ ap (λ (l : List ℕ). stream_of ps ++ l) (append_assoc (packets h.first h.parts) (header h.len fault.number) h.more);
  each = h.each;
  read = at-refused limit h.first h.len fault.number h.parts h.more fault.refusal h.in_range.0 h.in_range.1 h.begun h.refused;
}

pub one_split : (limit : ℕ) (bytes : List ℕ) (ps qs : List Payload) (r s : List ℕ) → Splits limit bytes ps r → Splits limit bytes qs s → (ps ≡ qs) × (r ≡ s)
one_split limit bytes ps qs r s a b =
    one_end limit ps qs r s a.each b.each (waits-end limit r (at-partial limit r a.partial)) (waits-end limit s (at-partial limit s b.partial)) (sym a.whole ∙ b.whole)

pub one_refused : (limit : ℕ) (bytes : List ℕ) (ps qs : List Payload) (f g : HeaderFault) → IsRefusedAfter limit bytes ps f → IsRefusedAfter limit bytes qs g → (ps ≡ qs) × (f ≡ g)
one_refused limit bytes ps qs f g a b =
    let x = refused_end limit bytes ps f a in
    let y = refused_end limit bytes qs g b in
    let e = one_end limit ps qs x.rest y.rest x.each y.each (refuses-end limit x.rest f x.read) (refuses-end limit y.rest g y.read) (sym x.whole_is ∙ y.whole_is) in
    let h : refuses f ≡ refuses g = sym x.read ∙ ap (at limit) e.1 ∙ y.read in
    (e.0, cc h)

pub split_or_refused : (limit : ℕ) (bytes : List ℕ) (ps qs : List Payload) (r : List ℕ) (f : HeaderFault) → Splits limit bytes ps r → IsRefusedAfter limit bytes qs f → ⊥
split_or_refused limit bytes ps qs r f a b =
    let y = refused_end limit bytes qs f b in
    let w = at-partial limit r a.partial in
    let e = one_end limit ps qs r y.rest a.each y.each (waits-end limit r w) (refuses-end limit y.rest f y.read) (sym a.whole ∙ y.whole_is) in
    let h : waits ≡ refuses f = sym w ∙ ap (at limit) e.1 ∙ y.read in
    absurd (cc h)
