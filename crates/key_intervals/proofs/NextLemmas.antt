-- The next value after a value: nothing lies between them.
use Rattle.std.proofs.Common.{◌≡◌, ℕ, true, List, [], ◌∷◌, ◌++◌, arith, suc, zero, refl, sym, ap, ◌∙◌}
use Rattle.std.specs.Prelude.{ℤ, pos, ◌+ℤ◌, ◌<ℤ◌}
use Rattle.std.specs.Ordering.{ordering_then, int_cmp, nat_cmp}
use Rattle.std.specs.Cmp.Lexicographic.{slice_cmp}
use Rattle.std.specs.declared.cmp.Ordering.{Ordering}
use Rattle.std.specs.declared.cmp.Ordering.TheVariants.{Less, Equal, Greater}
use Rattle.std.proofs.lemmas.Cmp.{int_ranked}
use Rattle.vt_value.specs.declared.value.Value.{Value}
use Rattle.vt_value.specs.declared.value.Value.TheVariants.{Null, Int, Bytes}
use Rattle.vt_value.specs.declared.value.Comparison.TheVariants.{Gt, Ge}
use Rattle.vt_value.specs.Values.{value_cmp, fits_order}

-- the text with a zero byte more
from_zero : (b : ℕ) (t : List ℕ) → fits_order Ge (slice_cmp nat_cmp (b ∷ t) (0 ∷ [])) ≡ true
from_zero zero [] = refl
from_zero zero (c ∷ t) = refl
from_zero (suc b) t = grind arith

text_next : (t s : List ℕ) → fits_order Gt (slice_cmp nat_cmp t s) ≡ fits_order Ge (slice_cmp nat_cmp t (s ++ 0 ∷ []))
text_next [] [] = refl
text_next [] (a ∷ s) = refl
text_next (b ∷ t) [] = sym (from_zero b t)
text_next (b ∷ t) (a ∷ s) = by (nat_cmp b a) (text_next t s)
  where
    by : (o : Ordering) → fits_order Gt (slice_cmp nat_cmp t s) ≡ fits_order Ge (slice_cmp nat_cmp t (s ++ 0 ∷ []))
        → fits_order Gt (ordering_then o (slice_cmp nat_cmp t s)) ≡ fits_order Ge (ordering_then o (slice_cmp nat_cmp t (s ++ 0 ∷ [])))
    by Less ih = refl
    by Equal ih = ih
    by Greater ih = refl

pub above_text : (x : Value) (s : List ℕ) → fits_order Gt (value_cmp x (Bytes s)) ≡ fits_order Ge (value_cmp x (Bytes (s ++ 0 ∷ [])))
above_text Null s = refl
above_text (Int n) s = refl
above_text (Bytes t) s = text_next t s

-- the next number
number_next : (m n : ℤ) → fits_order Gt (int_cmp m n) ≡ fits_order Ge (int_cmp m (n +ℤ pos 1))
number_next m n = by (int_cmp m n) (int_cmp m (n +ℤ pos 1)) refl refl
  where
    by : (o p : Ordering) → int_cmp m n ≡ o → int_cmp m (n +ℤ pos 1) ≡ p → fits_order Gt (int_cmp m n) ≡ fits_order Ge (int_cmp m (n +ℤ pos 1))
    by Less Less t u = ap (fits_order Gt) t ∙ sym (ap (fits_order Ge) u)
    by Less Equal t u = let a : m <ℤ n = int_ranked m n Less (sym t) in let b : m ≡ (n +ℤ pos 1) = int_ranked m (n +ℤ pos 1) Equal (sym u) in grind (arith, a, b)
    by Less Greater t u = let a : m <ℤ n = int_ranked m n Less (sym t) in let b : (n +ℤ pos 1) <ℤ m = int_ranked m (n +ℤ pos 1) Greater (sym u) in grind (arith, a, b)
    by Equal Less t u = ap (fits_order Gt) t ∙ sym (ap (fits_order Ge) u)
    by Equal Equal t u = let a : m ≡ n = int_ranked m n Equal (sym t) in let b : m ≡ (n +ℤ pos 1) = int_ranked m (n +ℤ pos 1) Equal (sym u) in grind (arith, a, b)
    by Equal Greater t u = let a : m ≡ n = int_ranked m n Equal (sym t) in let b : (n +ℤ pos 1) <ℤ m = int_ranked m (n +ℤ pos 1) Greater (sym u) in grind (arith, a, b)
    by Greater Less t u = let a : n <ℤ m = int_ranked m n Greater (sym t) in let b : m <ℤ (n +ℤ pos 1) = int_ranked m (n +ℤ pos 1) Less (sym u) in grind (arith, a, b)
    by Greater Equal t u = ap (fits_order Gt) t ∙ sym (ap (fits_order Ge) u)
    by Greater Greater t u = ap (fits_order Gt) t ∙ sym (ap (fits_order Ge) u)

pub above_number : (x : Value) (n : ℤ) → fits_order Gt (value_cmp x (Int n)) ≡ fits_order Ge (value_cmp x (Int (n +ℤ pos 1)))
above_number Null n = refl
above_number (Int m) n = number_next m n
above_number (Bytes t) n = refl
