-- What a device takes, write by write.
use Rattle.std.proofs.Common.{◌≡◌, ◌<◌, ◌≤◌, ◌⊎◌, ◌&&◌, ℕ, zero, suc, nat_lt, nat_eq, Bool, true, false, List, [], ◌++◌, length, take, drop, Option, Some, None, refl, sym, ◌∙◌, ap, subst, inl, inr, arith}
use Rattle.std.proofs.lemmas.List.{append-nil, take-append-drop, length-take-le}
use Rattle.std.specs.Io.KnownBytes.{Appends, Keeps}
use Rattle.std.proofs.KnownBytes.{Appends-nil, Appends-trans}
use Rattle.std.proofs.lemmas.Bool.Decides.{nat_tests}
use Rattle.jiff.specs.Types.{Timestamp}
use Rattle.program_log.specs.lines.Writing as w
use Rattle.program_log.specs.lines.Writing.{IsReport, mended, TakesPart, TakesPartOfReport, IsLost}

abbrev Known : Type 0
Known = Option (List ℕ)

-- a write that took nothing, and one after such
pub nothing_kept : (a b : Known) → Keeps a b → Appends a b []
nothing_kept None b p = tt
nothing_kept (Some xs) None p = absurd p
nothing_kept (Some xs) (Some ys) p = p ∙ sym (append-nil xs)

pub nothing_then : (a b c : Known) (bytes : List ℕ) → Appends a b [] → Appends b c bytes → Appends a c bytes
nothing_then a b c bytes first then = Appends-trans a b c [] bytes first then

pub nothing_more : (a b c : Known) → Appends a b [] → Keeps b c → Appends a c []
nothing_more a b c first then = Appends-trans a b c [] [] first (nothing_kept b c then)

and_true : (b : Bool) → (b && true) ≡ b
and_true true = refl
and_true false = refl

pub mended-append : (torn : Bool) (xs ys : List ℕ) → mended torn xs ++ ys ≡ mended torn (xs ++ ys)
mended-append true xs ys = refl
mended-append false xs ys = refl

-- a break where one was needed, and then a line
pub line_after : (torn : Bool) (a b c : Known) (bytes : List ℕ) → Appends a b (mended torn []) → Appends b c bytes → Appends a c (mended torn bytes)
line_after torn a b c bytes first then =
    subst (Appends a c) (mended-append torn [] bytes) (Appends-trans a b c (mended torn []) bytes first then)

-- a break where one was needed, and then less than the whole line
pub part_after : (torn after : Bool) (line bytes : List ℕ) (a b c : Known) (n : ℕ) → bytes ≡ line → n ≤ length bytes → nat_eq n (length bytes) ≡ false
    → after ≡ (nat_lt 0 n && nat_lt n (length bytes)) → Appends a b (mended torn []) → Appends b c (take n bytes)
    → (taken : List ℕ) × TakesPart torn line taken after × Appends a c taken
part_after torn after line bytes a b c n same bound differ is first then =
    let below : n < length bytes = grind (arith, nat_tests) in
    let small : nat_lt n (length bytes) ≡ true = grind (arith, nat_tests) in
    let shorter : n < length line = rw (← same) below in
    let len : length (take n line) ≡ n = length-take-le n line (omega arith) in
    let mark : after ≡ nat_lt 0 n = is ∙ (ap (λ (b : Bool). nat_lt 0 n && b) small ∙ and_true (nat_lt 0 n)) in
    let less : length (take n line) < length line = rw len shorter in
    let marked : after ≡ nat_lt 0 (length (take n line)) = rw len mark in
    let taken : Appends b c (take n line) = subst (λ (l : List ℕ). Appends b c (take n l)) same then in (
      mended torn (take n line),
      inr (take n line, (drop n line, take-append-drop n line), less, refl, marked),
      line_after torn a b c (take n line) first taken,
    )

-- a report, and then a line
pub both : (torn : Bool) (a b c : Known) (report line : List ℕ) → Appends a b (mended torn report) → Appends b c line → Appends a c (mended torn (report ++ line))
both torn a b c report line first then =
    subst (Appends a c) (mended-append torn report line) (Appends-trans a b c (mended torn report) line first then)

-- a line that is lost after others of which a report was written, if there were any
pub lost_after : (lost : ℕ) (torn mid after : Bool) (t : Timestamp) (line : List ℕ) (a b c : Known) → (lost ≡ 0 → (mid ≡ torn) × (b ≡ a))
    → (0 < lost → (bytes : List ℕ) × IsReport t lost bytes × (mid ≡ false) × Appends a b (mended torn bytes))
    → (part : List ℕ) → TakesPart mid line part after → Appends b c part
    → (taken : List ℕ) × IsLost t lost torn line 1 taken after × Appends a c taken
lost_after zero torn mid after t line a b c none report part takes more =
    let n = none refl in (
      part,
      w.alone refl refl (subst (λ (m : Bool). TakesPart m line part after) n.0 takes),
      subst (λ (k : Known). Appends k c part) n.1 more,
    )
lost_after (suc n) torn mid after t line a b c none report part takes more =
    let r = report (omega arith) in (
      mended torn r.0 ++ part,
      w.reported r.0 part (omega arith) refl r.1 (subst (λ (m : Bool). TakesPart m line part after) r.2 takes) refl,
      Appends-trans a b c (mended torn r.0) part r.3 more,
    )

-- a report that wasn't written whole, for whichever cause
pub part_of_report : (lost : ℕ) (torn after : Bool) (t : Timestamp) (bytes : List ℕ) (a c : Known) → IsReport t lost bytes
    → (taken : List ℕ) × TakesPart torn bytes taken after × Appends a c taken
    → (taken : List ℕ) × TakesPartOfReport t lost torn taken after × Appends a c taken
part_of_report lost torn after t bytes a c is part = (part.0, inr (bytes, is, part.1), part.2)

pub no_report : (lost : ℕ) (torn after : Bool) (t : Timestamp) (a c : Known) → after ≡ torn → c ≡ a
    → (taken : List ℕ) × TakesPartOfReport t lost torn taken after × Appends a c taken
no_report lost torn after t a c same kept = ([], inl (refl, same), subst (λ (k : Known). Appends a k []) (sym kept) (Appends-nil a))
