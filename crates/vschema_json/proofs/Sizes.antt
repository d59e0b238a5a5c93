-- The value of digits, and what sizes they say.
use Rattle.std.proofs.Common.{◌≡◌, ℕ, ◌+◌, ◌-◌, ◌*◌, ◌<◌, ◌≤◌, List, [], ◌∷◌, Some, None, Bool, true, false, ◌&&◌, nat_le, arith, refl, sym, ◌∙◌, if◌then◌else◌}
use Rattle.std.proofs.lemmas.Bool.Decides.{nat_tests}
use Rattle.std.specs.List.{list_all}
use Rattle.sql_tree.specs.Lexemes.{is_digit, digits_onto}
use Rattle.vschema_json.specs.Documents.{begins_above_zero, column_length}

pub digits_grow : (high : ℕ) (digits : List ℕ) → high ≤ digits_onto high digits
digits_grow high [] = omega arith
digits_grow high (d ∷ digits) = omega (arith, digits_grow (high * 10 + (d - 48)) digits)

unless_all : (a b c : Bool) (v : ℕ) → b && c ≡ false → None ≡ (if a && b && c then Some v else None)
unless_all true true c v e = rw e refl
unless_all true false c v e = refl
unless_all false b c v e = refl

-- what isn't all digits has no size
pub no_digits : (digits : List ℕ) → list_all is_digit digits ≡ false → None ≡ column_length digits
no_digits digits e =
    let test : list_all is_digit digits && nat_le (digits_onto 0 digits) 255 ≡ false = rw e refl in
    unless_all (begins_above_zero digits) (list_all is_digit digits) (nat_le (digits_onto 0 digits) 255) (digits_onto 0 digits) test

too_large : (b c : Bool) → c ≡ false → b && c ≡ false
too_large true c e = e
too_large false c e = refl

-- a digit that makes the number too large
pub past_255 : (so_far d : ℕ) (more digits : List ℕ) → 255 < so_far * 10 + (d - 48) → digits_onto so_far (d ∷ more) ≡ digits_onto 0 digits → None ≡ column_length digits
past_255 so_far d more digits h e =
    let grown : 255 < digits_onto 0 digits = omega (arith, digits_grow (so_far * 10 + (d - 48)) more, e) in
    let test : nat_le (digits_onto 0 digits) 255 ≡ false = grind (arith, nat_tests) in
    unless_all (begins_above_zero digits) (list_all is_digit digits) (nat_le (digits_onto 0 digits) 255) (digits_onto 0 digits) (too_large (list_all is_digit digits) (nat_le (digits_onto 0 digits) 255) test)

unstopped : (b : Bool) (so_far d : ℕ) (more digits : List ℕ) → is_digit d ≡ b → (is_digit d ≡ true → 255 < so_far * 10 + (d - 48)) → list_all is_digit (d ∷ more) ≡ list_all is_digit digits
    → digits_onto so_far (d ∷ more) ≡ digits_onto 0 digits → None ≡ column_length digits
unstopped true so_far d more digits is stops all value = past_255 so_far d more digits (stops is) value
unstopped false so_far d more digits is stops all value = no_digits digits (sym all ∙ rw is refl)

-- where reading stops there is no size
pub stopped : (so_far d : ℕ) (more digits : List ℕ) → (is_digit d ≡ true → 255 < so_far * 10 + (d - 48)) → list_all is_digit (d ∷ more) ≡ list_all is_digit digits
    → digits_onto so_far (d ∷ more) ≡ digits_onto 0 digits → None ≡ column_length digits
stopped so_far d more digits stops all value = unstopped _ so_far d more digits refl stops all value

-- where all digits are read the number is the size
pub sized : (digits : List ℕ) (n : ℕ) → begins_above_zero digits ≡ true → true ≡ list_all is_digit digits → n ≡ digits_onto 0 digits → n ≤ 255 → Some n ≡ column_length digits
sized digits n begins all value small =
    let test : nat_le n 255 ≡ true = grind (arith, nat_tests) in
    rw (begins, sym all, sym value, test) refl
