-- A stream's payloads, as they are taken off its front piece by piece.
use Rattle.std.proofs.Common.{◌≡◌, ℕ, ◌+◌, ◌*◌, ◌/◌, ◌^◌, ◌<◌, List, [], ◌∷◌, ◌++◌, length, drop, Option, Some, None, inl, inr, refl, subst, ap, ◌∙◌, sym, append_assoc, arith}
use Rattle.std.specs.Prelude.{◌⊎◌, IsNone, MatchOption}
use Rattle.std.specs.List.{AllByRecursion}
use Rattle.std.proofs.lemmas.Grind.{flat_map-append}
use Rattle.mysql_packet.specs.declared.framer.Payload.{Payload}
use Rattle.mysql_packet.specs.declared.framer.HeaderFault.{HeaderFault}
use Rattle.mysql_packet.specs.Frames.{full, packets, frame, header, header_fault, stream_of, IsPartial, IsTaken, Splits, IsRefusedAfter}
use Rattle.mysql_packet.specs.Framing.{Framing, HasFramed}
use Rattle.mysql_packet.proofs.FrontLemmas.{length-packets, not_refused}
use Rattle.std.proofs.lemmas.List.{append-nil, length-append}

pub stream_of-append : (ps qs : List Payload) → stream_of (ps ++ qs) ≡ stream_of ps ++ stream_of qs
stream_of-append ps qs = flat_map-append (λ p. frame p.first p.bytes) ps qs

pub all-append : (P : Payload → Type 0) (ps qs : List Payload) → AllByRecursion P ps → AllByRecursion P qs → AllByRecursion P (ps ++ qs)
all-append P [] qs all more = more
all-append P (p ∷ ps) qs all more = (all.0, all-append P ps qs all.1 more)

-- In a loop over a stream: its payloads so far, and the rest.
pub record StillTakes (limit : ℕ) (bytes : List ℕ) (payloads : List Payload) (rest : List ℕ) : Type 0 where
  pub whole_is : bytes ≡ stream_of payloads ++ rest
  pub each : AllByRecursion (IsTaken limit) payloads

-- a further piece
module _ (limit : ℕ) (stream : List ℕ) (before : List Payload) (rest piece : List ℕ) (s : Splits limit stream before rest) where
  joined_stream : (more : List Payload) (tail : List ℕ) → rest ++ piece ≡ stream_of more ++ tail → stream ++ piece ≡ stream_of (before ++ more) ++ tail
  joined_stream more tail e =
      ap (λ (l : List ℕ). l ++ piece) s.whole ∙ append_assoc (stream_of before) rest piece ∙ ap (λ (l : List ℕ). stream_of before ++ l) e
      ∙ sym (append_assoc (stream_of before) (stream_of more) tail) ∙ ap (λ (l : List ℕ). l ++ tail) (sym (stream_of-append before more))

  pub splits_on : (more : List Payload) (rest' : List ℕ) → Splits limit (rest ++ piece) more rest' → Splits limit (stream ++ piece) (before ++ more) rest'
  splits_on more rest' t = record { whole = joined_stream more rest' t.whole; each = all-append (IsTaken limit) before more s.each t.each; partial = t.partial }

-- what a framer has read, once the payloads were taken off the bytes it held and the piece
pub reads_on : (old : Framing) (piece bytes rest : List ℕ) (used : ℕ) (payloads : List Payload) (fault : Option HeaderFault) → bytes ≡ old.rest ++ piece → rest ≡ drop used bytes
    → MatchOption fault (Splits old.limit bytes payloads (drop used bytes)) (IsRefusedAfter old.limit bytes payloads) → IsNone fault
    → (stream : List ℕ) (before : List Payload) → HasFramed old stream before
    → HasFramed (record { limit = old.limit; rest = rest; fault = fault }) (stream ++ piece) (before ++ payloads)
reads_on old piece bytes rest used payloads None is is_rest taken none stream before read = record {
  no_fault = refl;
  splits = splits_on old.limit stream before old.rest piece read.splits payloads rest
      (subst (λ (l : List ℕ). Splits old.limit l payloads rest) is (subst (Splits old.limit bytes payloads) (sym is_rest) taken));
}
reads_on old piece bytes rest used payloads (Some f) is is_rest taken none stream before read = absurd cc

-- less than a payload and its headers
pub rest_bound : (limit : ℕ) (rest : List ℕ) → IsPartial limit rest → length rest < limit + 4 * (limit / full + 1)
rest_bound limit rest h = go h.6
  where
    size : length rest ≡ length h.1 * (full + 4) + length h.2
    size = ap length h.5 ∙ length-append (packets h.0 h.1) h.2 ∙ ap (λ n. n + length h.2) (length-packets h.0 h.1 h.4.0)

    go : (length h.2 < 4) ⊎ ((len number : ℕ) × (part : List ℕ) × (len < 2 ^ 24) × (h.2 ≡ header len number ++ part) × (length part < len) × (header_fault limit h.0 (length h.1) len number ≡ None))
        → length rest < limit + 4 * (limit / full + 1)
    go (inl short) = omega (arith, size, short, h.4.1)
    go (inr p) = omega (arith, size, ap length p.4, p.5, (not_refused limit h.0 (length h.1) p.0 p.1 p.6).1, h.4.1)

pub reads_back : (limit : ℕ) (ps : List Payload) → AllByRecursion (IsTaken limit) ps → Splits limit (stream_of ps) ps []
reads_back limit ps each = record {
  whole = sym (append-nil (stream_of ps));
  each = each;
  partial = (0, [], [], omega arith, (tt, omega arith), refl, inl (omega arith));
}
