-- What the parts of a group's rows give, one row more at a time.
use Rattle.std.proofs.Common.{◌≡◌, ℕ, ◌+◌, ◌<◌, ◌≤◌, ◌^◌, zero, suc, ℤ, pos, ◌+ℤ◌, List, [], ◌∷◌, ◌++◌, map, drop, length, Some, Bool, true, false, refl, sym, ap, ◌∙◌, subst, arith, sum_by, if◌then◌else◌, add-one, unwrap_or, IfSome, FitsSigned, IsPermutation}
use Rattle.std.specs.Int.{w128}
use Rattle.std.proofs.Math.IntN.{+ℤ_comm, +ℤ_idl}
use Rattle.std.proofs.Math.Seq.{drop-nil}
use Rattle.std.proofs.lemmas.Int.{fits_signed_from_abs}
use Rattle.std.proofs.lemmas.List.{map-append}
use Rattle.std.proofs.lemmas.List.Sums.{sum_by-cons, sum_by-append}
use Rattle.vt_value.specs.declared.value.Value.{Value}
use Rattle.vt_value.specs.declared.value.Value.TheVariants.{Null, Int, Bytes}
use Rattle.vt_value.specs.Values.{Row, value_at, same_row}
use Rattle.operators.specs.Item.{Item}
use Rattle.operators.specs.Item.TheVariants.{Column, CountRows, Count, Sum, Min, Max}
use Rattle.aggregate.specs.Aggregates.{present, size, sizes, total, sum_of}
use Rattle.aggregate.specs.Parts.{join_options, present_number, part_value}
use Rattle.aggregate.specs.inner.Columns.{total_part, with_values, FitTogether, CanJoin, CanJoinAll}
use Rattle.aggregate.specs.Groups.{joined_part, joined_parts, of_group, column_size}
use Rattle.aggregate.specs.inner.ExtremeLemmas.{min_laws, max_laws, min_is, max_is}
use Rattle.aggregate.specs.inner.SumLemmas.{sum_laws, sum_is, sum_fits, total_is, total_kept, total_within, present_within}
use Rattle.aggregate.proofs.SplitLemmas.{sums_join, leasts_join, greatests_join, total_join, number_again}

n_and_none : (n : ℤ) → n +ℤ pos 0 ≡ n
n_and_none n = +ℤ_comm n (pos 0) ∙ +ℤ_idl n

-- what one value alone gives is as good as it
alone : (s v : Value) → sum_of (present (s ∷ v ∷ [])) ≡ sum_of (present (s ∷ sum_of (present (v ∷ [])) ∷ []))
alone s Null = refl
alone s (Int n) = ap (λ (m : ℤ). sum_of (present (s ∷ Int m ∷ []))) (sym (n_and_none n))
alone Null (Bytes t) = refl
alone (Int n) (Bytes t) = refl
alone (Bytes u) (Bytes t) = refl

-- one value more
pub column_more : (a : Item ℕ) (vs : List Value) (v : Value) → joined_part a (joined_part a vs ∷ v ∷ []) ≡ joined_part a (vs ++ v ∷ [])
column_more (Column c) vs v = refl
column_more CountRows vs v = ap Int (sym (total_join vs (v ∷ [])))
column_more (Count c) vs v = ap Int (sym (total_join vs (v ∷ [])))
column_more (Sum c) vs v = alone (sum_of (present vs)) v ∙ sums_join (vs ∷ (v ∷ []) ∷ [])
column_more (Min c) vs Null = leasts_join (vs ∷ (Null ∷ []) ∷ [])
column_more (Min c) vs (Int n) = leasts_join (vs ∷ (Int n ∷ []) ∷ [])
column_more (Min c) vs (Bytes t) = leasts_join (vs ∷ (Bytes t ∷ []) ∷ [])
column_more (Max c) vs Null = greatests_join (vs ∷ (Null ∷ []) ∷ [])
column_more (Max c) vs (Int n) = greatests_join (vs ∷ (Int n ∷ []) ∷ [])
column_more (Max c) vs (Bytes t) = greatests_join (vs ∷ (Bytes t ∷ []) ∷ [])

number_kept : (vs : List Value) → unwrap_or (total_kept vs) (pos 0) ≡ total vs
number_kept [] = refl
number_kept (v ∷ vs) = refl

counted : (vs : List Value) → Int (unwrap_or (total_part vs) (pos 0)) ≡ Int (total (present vs))
counted vs = ap (λ p. Int (unwrap_or p (pos 0))) (total_is vs) ∙ ap Int (number_kept (present vs))

-- the order of parts says nothing
pub column_permuted : (a : Item ℕ) (vs ws : List Value) → IsPermutation vs ws → joined_part a vs ≡ joined_part a ws
column_permuted (Column c) vs ws h = refl
column_permuted CountRows vs ws h = sym (counted vs) ∙ ap (λ p. Int (unwrap_or p (pos 0))) (sum_laws.bag vs ws h) ∙ counted ws
column_permuted (Count c) vs ws h = sym (counted vs) ∙ ap (λ p. Int (unwrap_or p (pos 0))) (sum_laws.bag vs ws h) ∙ counted ws
column_permuted (Sum c) vs ws h = sym (sum_is vs) ∙ ap part_value (sum_laws.bag vs ws h) ∙ sum_is ws
column_permuted (Min c) vs ws h = sym (min_is vs) ∙ ap (λ p. unwrap_or p Null) (min_laws.bag vs ws h) ∙ min_is ws
column_permuted (Max c) vs ws h = sym (max_is vs) ∙ ap (λ p. unwrap_or p Null) (max_laws.bag vs ws h) ∙ max_is ws

pub first_past : (n : ℕ) (row : Row) → value_at (drop n row) 0 ≡ value_at row n
first_past n [] = ap (λ r. value_at r 0) (drop-nil {A = Value} n)
first_past zero (v ∷ row) = refl
first_past (suc n) (v ∷ row) = first_past n row

rest_after : (n : ℕ) (row : Row) → drop 1 (drop n row) ≡ drop (suc n) row
rest_after n [] = ap (drop 1) (drop-nil {A = Value} n)
rest_after zero (v ∷ row) = refl
rest_after (suc n) (v ∷ row) = rest_after n row

column_push : (n : ℕ) (rows : List Row) (row : Row) → map (λ r. value_at r n) rows ++ value_at row n ∷ [] ≡ map (λ r. value_at r n) (rows ++ row ∷ [])
column_push n rows row = sym (map-append (λ (r : Row). value_at r n) rows (row ∷ []))

-- the parts of rows, with the values of one row more
pub parts_more : (aggregates : List (Item ℕ)) (n : ℕ) (rows : List Row) (row : Row) → with_values aggregates (joined_parts aggregates n rows) (drop n row) ≡ joined_parts aggregates n (rows ++ row ∷ [])
parts_more [] n rows row = refl
parts_more (a ∷ aggregates) n rows row =
    let vs = map (λ (r : Row). value_at r n) rows in
    let head : joined_part a (joined_part a vs ∷ value_at (drop n row) 0 ∷ []) ≡ joined_part a (map (λ (r : Row). value_at r n) (rows ++ row ∷ [])) =
    ap (λ (v : Value). joined_part a (joined_part a vs ∷ v ∷ [])) (first_past n row) ∙ column_more a vs (value_at row n) ∙ ap (joined_part a) (column_push n rows row) in
    let trailing : drop 1 (drop n row) ≡ drop (n + 1) row = rw add-one (rest_after n row) in
    let tail : with_values aggregates (joined_parts aggregates (n + 1) rows) (drop 1 (drop n row)) ≡ joined_parts aggregates (n + 1) (rows ++ row ∷ []) =
    ap (with_values aggregates (joined_parts aggregates (n + 1) rows)) trailing ∙ parts_more aggregates (n + 1) rows row in
    (λ i. head i ∷ tail i)

-- the parts of no rows, wherever they stand
pub no_parts : (aggregates : List (Item ℕ)) (n : ℕ) → map (λ a. joined_part a []) aggregates ≡ joined_parts aggregates n []
no_parts [] n = refl
no_parts (a ∷ aggregates) n = ap (λ parts. joined_part a [] ∷ parts) (no_parts aggregates (n + 1))

-- there are as many as aggregates
pub parts_length : (aggregates : List (Item ℕ)) (n : ℕ) (rows : List Row) → length (joined_parts aggregates n rows) ≡ length aggregates
parts_length [] n rows = refl
parts_length (a ∷ aggregates) n rows = ap suc (parts_length aggregates (n + 1) rows)

-- the sum of values that are below 2^127 together fits
total_fits : (vs : List Value) → sizes vs < 2 ^ 127 → FitsSigned w128 (total (present vs))
total_fits vs h = fits_signed_from_abs w128 (total (present vs)) (omega (arith, total_within (present vs), present_within vs))

count_fits : (vs : List Value) (v : Value) → sizes (vs ++ v ∷ []) < 2 ^ 127 → FitTogether (Int (total (present vs))) v
count_fits vs Null h = total_fits vs (omega (arith, sum_by-append size vs (Null ∷ [])))
count_fits vs (Int n) h =
    subst (FitsSigned w128) (total_join vs (Int n ∷ []) ∙ ap (λ (m : ℤ). total (present vs) +ℤ m) (n_and_none n)) (total_fits (vs ++ Int n ∷ []) h)
count_fits vs (Bytes t) h = subst (FitsSigned w128) (total_join vs (Bytes t ∷ [])) (total_fits (vs ++ Bytes t ∷ []) h)

alone_kept : (v : Value) → total_part (v ∷ []) ≡ present_number v
alone_kept Null = refl
alone_kept (Int n) = refl
alone_kept (Bytes t) = refl

sum_kept : (vs : List Value) (v : Value) → total_part (vs ++ v ∷ []) ≡ join_options ◌+ℤ◌ (present_number (sum_of (present vs))) (present_number v)
sum_kept vs v =
    sum_laws.splits vs (v ∷ []) ∙ (λ i. join_options ◌+ℤ◌ (sym (number_again (total_part vs)) i) (alone_kept v i))
    ∙ ap (λ (p : Value). join_options ◌+ℤ◌ (present_number p) (present_number v)) (sum_is vs)

pub column_holds : (a : Item ℕ) (vs : List Value) (v : Value) → sizes (vs ++ v ∷ []) < 2 ^ 127 → CanJoin a (joined_part a vs) v
column_holds (Column c) vs v h = tt
column_holds CountRows vs v h = count_fits vs v h
column_holds (Count c) vs v h = count_fits vs v h
column_holds (Sum c) vs v h = subst (λ p. IfSome p (λ n. FitsSigned w128 n)) (sum_kept vs v) (sum_fits (vs ++ v ∷ []) h)
column_holds (Min c) vs v h = tt
column_holds (Max c) vs v h = tt

pub size_is : (n : ℕ) (rows : List Row) → sum_by size (map (λ r. value_at r n) rows) ≡ column_size n rows
size_is n [] = refl
size_is n (row ∷ rows) =
    sum_by-cons size (value_at row n) (map (λ (r : Row). value_at r n) rows) ∙ ap (λ k. size (value_at row n) + k) (size_is n rows)
    ∙ sym (sum_by-cons (λ (r : Row). size (value_at r n)) row rows)

-- the parts of numbers that are below 2^127 together fit
pub parts_hold : (aggregates : List (Item ℕ)) (n : ℕ) (rows : List Row) (row : Row) → ((m : ℕ) → n ≤ m → column_size m (rows ++ row ∷ []) < 2 ^ 127) →
    CanJoinAll aggregates (joined_parts aggregates n rows) (drop n row)
parts_hold [] n rows row h = tt
parts_hold (a ∷ aggregates) n rows row h =
    let vs = map (λ (r : Row). value_at r n) rows in
    let here : column_size n (rows ++ row ∷ []) < 2 ^ 127 = h n (omega arith) in
    let sized : sizes (vs ++ value_at row n ∷ []) < 2 ^ 127 = omega (arith, ap sizes (column_push n rows row), size_is n (rows ++ row ∷ [])) in
    let trailing : drop 1 (drop n row) ≡ drop (n + 1) row = rw add-one (rest_after n row) in (
      subst (CanJoin a (joined_part a vs)) (sym (first_past n row)) (column_holds a vs (value_at row n) sized),
      subst (CanJoinAll aggregates (joined_parts aggregates (n + 1) rows)) (sym trailing) (parts_hold aggregates (n + 1) rows row (λ m le. h m (omega arith))),
    )

kept_by : (f : Row → ℕ) (t : Bool) (row : Row) (kept rows : List Row) → sum_by f kept ≤ sum_by f rows → sum_by f (if t then row ∷ kept else kept) ≤ sum_by f (row ∷ rows)
kept_by f true row kept rows h = omega (arith, sum_by-cons f row kept, sum_by-cons f row rows)
kept_by f false row kept rows h = omega (arith, sum_by-cons f row rows)

-- the numbers of a group are some of all
pub group_size : (w m : ℕ) (k : Row) (rows : List Row) → column_size m (of_group w k rows) ≤ column_size m rows
group_size w m k [] = omega arith
group_size w m k (row ∷ rows) =
    kept_by (λ r. size (value_at r m)) (same_row k (Rattle.std.proofs.Common.take w row)) row (of_group w k rows) rows (group_size w m k rows)
