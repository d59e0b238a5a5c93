-- The parts of SUM.
use Rattle.std.proofs.Common.{◌≡◌, ℕ, ◌+◌, ◌<◌, ◌≤◌, ◌^◌, ◌-◌, nat_lt, Bool, true, false, if◌then◌else◌, ℤ, pos, negsuc, ◌+ℤ◌, List, [], ◌∷◌, Option, Some, None, refl, sym, ap, ◌∙◌, arith, suc}
use Rattle.std.specs.Prelude.{IfSome, FitsSigned, unsigned_abs}
use Rattle.std.specs.Int.{w128}
use Rattle.std.proofs.Math.IntN.{+ℤ_assoc, +ℤ_comm, +ℤ_idl}
use Rattle.std.proofs.lemmas.Int.{fits_signed_from_abs}
use Rattle.std.proofs.lemmas.List.Sums.{sum_by-cons}
use Rattle.vt_value.specs.declared.value.Value.{Value}
use Rattle.vt_value.specs.declared.value.Value.TheVariants.{Null, Int, Bytes}
use Rattle.aggregate.specs.Aggregates.{present, number_in, size, total, sizes, sum_of, IsHeld}
use Rattle.aggregate.specs.Laws.{PartLaws}
use Rattle.aggregate.specs.Parts.{gathered, join_options, present_number, part_value}
use Rattle.aggregate.specs.inner.PartLemmas.{gathered-laws, options_monoid}

pub sum_laws : PartLaws (gathered (join_options ◌+ℤ◌) None present_number) (join_options ◌+ℤ◌)
sum_laws = gathered-laws (options_monoid ◌+ℤ◌ +ℤ_assoc +ℤ_comm) present_number

abbrev pub total_kept : List Value → Option ℤ
total_kept [] = None
total_kept (v ∷ vs) = Some (total (v ∷ vs))

one_more : (v : Value) (vs : List Value) → join_options ◌+ℤ◌ (Some (number_in v)) (total_kept vs) ≡ total_kept (v ∷ vs)
one_more v [] = ap Some (sym (+ℤ_comm (number_in v) (pos 0) ∙ +ℤ_idl (number_in v)))
one_more v (w ∷ vs) = refl

pub total_is : (vs : List Value) → gathered (join_options ◌+ℤ◌) None present_number vs ≡ total_kept (present vs)
total_is [] = refl
total_is (Null ∷ vs) = total_is vs
total_is (Int n ∷ vs) = ap (join_options ◌+ℤ◌ (Some n)) (total_is vs) ∙ one_more (Int n) (present vs)
total_is (Bytes t ∷ vs) = ap (join_options ◌+ℤ◌ (Some (pos 0))) (total_is vs) ∙ one_more (Bytes t) (present vs)

value_kept : (vs : List Value) → part_value (total_kept vs) ≡ sum_of vs
value_kept [] = refl
value_kept (v ∷ vs) = refl

pub sum_is : (vs : List Value) → part_value (gathered (join_options ◌+ℤ◌) None present_number vs) ≡ sum_of (present vs)
sum_is vs = ap part_value (total_is vs) ∙ value_kept (present vs)

apart : (a b : ℕ) (t : Bool) → unsigned_abs (if t then negsuc (suc b - suc a) else pos (a - suc b)) ≤ a + suc b
apart a b true = omega arith
apart a b false = omega arith

abs_add : (a b : ℤ) → unsigned_abs (a +ℤ b) ≤ unsigned_abs a + unsigned_abs b
abs_add (pos a) (pos b) = omega arith
abs_add (pos a) (negsuc b) = apart a b (nat_lt a (suc b))
abs_add (negsuc a) (pos b) = omega (arith, apart b a (nat_lt b (suc a)))
abs_add (negsuc a) (negsuc b) = omega arith

-- a total is at most as large as its numbers are together
pub total_within : (vs : List Value) → unsigned_abs (total vs) ≤ sizes vs
total_within [] = omega arith
total_within (v ∷ vs) = omega (arith, abs_add (number_in v) (total vs), total_within vs, sum_by-cons size v vs)

pub present_within : (vs : List Value) → sizes (present vs) ≤ sizes vs
present_within [] = omega arith
present_within (Null ∷ vs) = omega (arith, present_within vs, sum_by-cons size Null vs)
present_within (Int n ∷ vs) = omega (arith, present_within vs, sum_by-cons size (Int n) vs, sum_by-cons size (Int n) (present vs))
present_within (Bytes t ∷ vs) = omega (arith, present_within vs, sum_by-cons size (Bytes t) vs, sum_by-cons size (Bytes t) (present vs))

kept_fits : (vs : List Value) → sizes vs < 2 ^ 127 → IfSome (total_kept vs) (λ n. FitsSigned w128 n)
kept_fits [] h = tt
kept_fits (v ∷ vs) h = fits_signed_from_abs w128 (total (v ∷ vs)) (omega (arith, total_within (v ∷ vs)))

-- the part of numbers that are below 2^127 together fits
pub sum_fits : (vs : List Value) → sizes vs < 2 ^ 127 →
    IfSome (gathered (join_options ◌+ℤ◌) None present_number vs) (λ n. FitsSigned w128 n)
sum_fits vs h = rw (total_is vs) (kept_fits (present vs) (omega (arith, present_within vs)))

pub sum_holds : (vs : List Value) → IsHeld vs → IfSome (gathered (join_options ◌+ℤ◌) None present_number vs) (λ n. FitsSigned w128 n)
sum_holds vs held = sum_fits vs held.1
