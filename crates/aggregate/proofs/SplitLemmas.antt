-- What an aggregate gives over several bags together is the join of what it gives over each.
use Rattle.std.proofs.Common.{◌≡◌, ℕ, ◌+◌, ℤ, pos, ◌+ℤ◌, List, [], ◌∷◌, ◌++◌, length, map, flat_map, Option, Some, None, Bool, true, false, refl, sym, ap, ◌∙◌, unwrap_or, IfSome, if◌then◌else◌, length-append}
use Rattle.std.specs.Ordering.{is_lt}
use Rattle.std.proofs.Math.IntN.{+ℤ_assoc, +ℤ_idl}
use Rattle.vt_value.specs.declared.value.Value.{Value}
use Rattle.vt_value.specs.declared.value.Value.TheVariants.{Null, Int, Bytes}
use Rattle.vt_value.specs.Values.{value_cmp}
use Rattle.operators.specs.Item.{Item}
use Rattle.operators.specs.Item.TheVariants.{Column, CountRows, Count, Sum, Min, Max}
use Rattle.aggregate.specs.Aggregates.{present, total, sum_of, least_of, greatest_of, count_of, lesser, greater}
use Rattle.aggregate.specs.inner.Columns.{total_part, least_part, greatest_part}
use Rattle.aggregate.specs.Groups.{joined_part}
use Rattle.aggregate.specs.Laws.{PartLaws}
use Rattle.aggregate.specs.Parts.{gathered, join_options, present_value, present_number, part_value}
use Rattle.aggregate.specs.inner.CountLemmas.{count_laws, count_is}
use Rattle.aggregate.specs.inner.ExtremeLemmas.{min_laws, max_laws, min_is, max_is}
use Rattle.aggregate.specs.inner.SumLemmas.{sum_laws, sum_is}

-- what an aggregate gives over a bag of a column's values; COUNT(*) over as many rows
abbrev pub whole : Item ℕ → List Value → Value
whole (Column c) vs = Null
whole CountRows vs = count_of vs
whole (Count c) vs = count_of (present vs)
whole (Sum c) vs = sum_of (present vs)
whole (Min c) vs = least_of (present vs)
whole (Max c) vs = greatest_of (present vs)

abbrev pub together : List (List Value) → List Value
together bags = flat_map (λ bag. bag) bags

-- counts are added
counts_join : (count : List Value → ℕ) → count [] ≡ 0 → ((vs ws : List Value) → count (vs ++ ws) ≡ count vs + count ws) → (bags : List (List Value)) →
    total (present (map (λ bag. Int (pos (count bag))) bags)) ≡ pos (count (together bags))
counts_join count none more [] = ap pos (sym none)
counts_join count none more (bag ∷ bags) =
    ap (λ (n : ℤ). pos (count bag) +ℤ n) (counts_join count none more bags) ∙ ap pos (sym (more bag (together bags)))

present_length : (vs ws : List Value) → length (present (vs ++ ws)) ≡ length (present vs) + length (present ws)
present_length vs ws =
    sym (count_is (vs ++ ws)) ∙ count_laws.splits vs ws ∙ (λ i. count_is vs i + count_is ws i)

-- the part of values that are given as parts are
module _ {P : Type 0} (joined : P → P → P) (nothing : P) (one : Value → P) (laws : PartLaws (gathered joined nothing one) joined) (shown : P → Value)
    (again : (vs : List Value) → one (shown (gathered joined nothing one vs)) ≡ gathered joined nothing one vs) where
  abbrev part : List Value → P
  part = gathered joined nothing one

  pub parts_join : (bags : List (List Value)) → part (map (λ bag. shown (part bag)) bags) ≡ part (together bags)
  parts_join [] = refl
  parts_join (bag ∷ bags) =
      (λ i. joined (again bag i) (parts_join bags i)) ∙ sym (laws.splits bag (together bags))

pub number_again : (p : Option ℤ) → present_number (part_value p) ≡ p
number_again None = refl
number_again (Some n) = refl

-- a value that is kept isn't NULL
abbrev AreKept : Option Value → Type 0
AreKept p = IfSome p (λ v. present_value v ≡ Some v)

one_kept : (v : Value) → AreKept (present_value v)
one_kept Null = tt
one_kept (Int n) = refl
one_kept (Bytes t) = refl

module _ (op : Value → Value → Value) (picks : (a b : Value) → present_value a ≡ Some a → present_value b ≡ Some b → present_value (op a b) ≡ Some (op a b)) where
  both_kept : (p q : Option Value) → AreKept p → AreKept q → AreKept (join_options op p q)
  both_kept None q h k = k
  both_kept (Some a) None h k = h
  both_kept (Some a) (Some b) h k = picks a b h k

  all_kept : (vs : List Value) → AreKept (gathered (join_options op) None present_value vs)
  all_kept [] = tt
  all_kept (v ∷ vs) = both_kept (present_value v) (gathered (join_options op) None present_value vs) (one_kept v) (all_kept vs)

  kept_again : (p : Option Value) → AreKept p → present_value (unwrap_or p Null) ≡ p
  kept_again None h = refl
  kept_again (Some v) h = h

either : (t : Bool) (a b : Value) → present_value a ≡ Some a → present_value b ≡ Some b → present_value (if t then b else a) ≡ Some (if t then b else a)
either true a b h k = k
either false a b h k = h

lesser_picks : (a b : Value) → present_value a ≡ Some a → present_value b ≡ Some b → present_value (lesser a b) ≡ Some (lesser a b)
lesser_picks a b = either (is_lt (value_cmp b a)) a b

greater_picks : (a b : Value) → present_value a ≡ Some a → present_value b ≡ Some b → present_value (greater a b) ≡ Some (greater a b)
greater_picks a b = either (is_lt (value_cmp a b)) a b

module _ (meaning shown : List Value → Value) (same : (vs : List Value) → shown vs ≡ meaning vs) where
  each_same : (bags : List (List Value)) → map meaning bags ≡ map shown bags
  each_same [] = refl
  each_same (bag ∷ bags) = (λ i. sym (same bag) i ∷ each_same bags i)

pub sums_join : (bags : List (List Value)) → sum_of (present (map (λ bag. sum_of (present bag)) bags)) ≡ sum_of (present (together bags))
sums_join bags =
    ap (λ parts. sum_of (present parts)) (each_same (λ bag. sum_of (present bag)) (λ bag. part_value (total_part bag)) sum_is bags)
    ∙ sym (sum_is (map (λ bag. part_value (total_part bag)) bags))
    ∙ ap part_value (parts_join (join_options ◌+ℤ◌) None present_number sum_laws part_value (λ vs. number_again (total_part vs)) bags) ∙ sum_is (together bags)

pub leasts_join : (bags : List (List Value)) → least_of (present (map (λ bag. least_of (present bag)) bags)) ≡ least_of (present (together bags))
leasts_join bags =
    ap (λ parts. least_of (present parts)) (each_same (λ bag. least_of (present bag)) (λ bag. unwrap_or (least_part bag) Null) min_is bags)
    ∙ sym (min_is (map (λ bag. unwrap_or (least_part bag) Null) bags))
    ∙ ap (λ p. unwrap_or p Null)
    (parts_join (join_options lesser) None present_value min_laws (λ p. unwrap_or p Null) (λ vs. kept_again lesser lesser_picks (least_part vs) (all_kept lesser lesser_picks vs)) bags)
    ∙ min_is (together bags)

pub greatests_join : (bags : List (List Value)) → greatest_of (present (map (λ bag. greatest_of (present bag)) bags)) ≡ greatest_of (present (together bags))
greatests_join bags =
    ap (λ parts. greatest_of (present parts)) (each_same (λ bag. greatest_of (present bag)) (λ bag. unwrap_or (greatest_part bag) Null) max_is bags)
    ∙ sym (max_is (map (λ bag. unwrap_or (greatest_part bag) Null) bags))
    ∙ ap (λ p. unwrap_or p Null)
    (parts_join (join_options greater) None present_value max_laws (λ p. unwrap_or p Null) (λ vs. kept_again greater greater_picks (greatest_part vs) (all_kept greater greater_picks vs)) bags)
    ∙ max_is (together bags)

-- the shards' parts, joined, are what the aggregate gives over all values
pub whole_joined : (a : Item ℕ) (bags : List (List Value)) → joined_part a (map (whole a) bags) ≡ whole a (together bags)
whole_joined (Column c) bags = refl
whole_joined CountRows bags = ap Int (counts_join length refl (λ vs ws. length-append vs ws) bags)
whole_joined (Count c) bags = ap Int (counts_join (λ vs. length (present vs)) refl present_length bags)
whole_joined (Sum c) bags = sums_join bags
whole_joined (Min c) bags = leasts_join bags
whole_joined (Max c) bags = greatests_join bags

pub total_join : (vs ws : List Value) → total (present (vs ++ ws)) ≡ total (present vs) +ℤ total (present ws)
total_join [] ws = sym (+ℤ_idl (total (present ws)))
total_join (Null ∷ vs) ws = total_join vs ws
total_join (Int n ∷ vs) ws = ap (λ (m : ℤ). n +ℤ m) (total_join vs ws) ∙ sym (+ℤ_assoc n (total (present vs)) (total (present ws)))
total_join (Bytes t ∷ vs) ws = ap (λ (m : ℤ). pos 0 +ℤ m) (total_join vs ws) ∙ sym (+ℤ_assoc (pos 0) (total (present vs)) (total (present ws)))

totals_join : (bags : List (List Value)) → total (present (map (λ bag. Int (total (present bag))) bags)) ≡ total (present (together bags))
totals_join [] = refl
totals_join (bag ∷ bags) = ap (λ (n : ℤ). total (present bag) +ℤ n) (totals_join bags) ∙ sym (total_join bag (together bags))

-- parts that are joined again
pub joined_again : (a : Item ℕ) (bags : List (List Value)) → joined_part a (map (joined_part a) bags) ≡ joined_part a (together bags)
joined_again (Column c) bags = refl
joined_again CountRows bags = ap Int (totals_join bags)
joined_again (Count c) bags = ap Int (totals_join bags)
joined_again (Sum c) bags = sums_join bags
joined_again (Min c) bags = leasts_join bags
joined_again (Max c) bags = greatests_join bags
