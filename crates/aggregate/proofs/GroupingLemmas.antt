-- The groups of rows, with one row more.
use Rattle.std.proofs.Common.{◌≡◌, ℕ, ◌+◌, ◌*◌, ◌<◌, ◌≤◌, ◌^◌, Bool, true, false, List, [], ◌∷◌, ◌++◌, map, flat_map, take, drop, length, Some, zero, suc, refl, sym, ap, ◌∙◌, subst, arith, if◌then◌else◌, slice_get}
use Rattle.std.specs.Prelude.{sum_by}
use Rattle.std.specs.List.{IsDistinct}
use Rattle.std.specs.Option.{option_map}
use Rattle.std.proofs.lemmas.List.Sums.{sum_by-append, sum_by-cons}
use Rattle.std.proofs.Math.Dec.{eqb-suc-zero}
use Rattle.std.proofs.lemmas.List.{append-nil, length-map, flat_map_more, take_at, drop_at}
use Rattle.std.proofs.lemmas.Option.{slice_get-map}
use Rattle.indexmap.specs.IndexSet.{insert_key}
use Rattle.vt_value.specs.declared.value.Value.{Value}
use Rattle.vt_value.specs.Values.{Row, value_at, same_row}
use Rattle.operators.specs.Item.{Item}
use Rattle.aggregate.specs.inner.Columns.{with_values, CanJoinAll, AreGroups}
use Rattle.aggregate.specs.Aggregates.{size}
use Rattle.aggregate.specs.inner.Grouping.{has_row, group_at, with_group, finished_rows}
use Rattle.aggregate.specs.Groups.{of_group, group_keys, joined_part, joined_parts, joined_rows, column_size, AreSummable}
use Rattle.aggregate.proofs.DistinctLemmas.{group_keys_more, no_group, of_group_more, of_group_stays, one_changes}
use Rattle.aggregate.proofs.FlatLemmas.{joined, joined_map, joined_at, joined_set, ends_within, Each}
use Rattle.aggregate.proofs.PartsOfRows.{parts_more, no_parts, parts_length, parts_hold, group_size}

-- what the parts of the group with these values give
abbrev pub parts_of : List (Item ℕ) → ℕ → List Row → Row → List Value
parts_of aggregates width rows key = joined_parts aggregates width (of_group width key rows)

opened_by : (t : Bool) (f : Row → List Value) (keys : List Row) (k : Row) (empty : List Value) → (t ≡ false → empty ≡ f k) →
    (if t then flat_map f keys else flat_map f keys ++ empty) ≡ flat_map f (if t then keys else keys ++ k ∷ [])
opened_by true f keys k empty same = refl
opened_by false f keys k empty same = ap (λ p. flat_map f keys ++ p) (same refl) ∙ flat_map_more f [] keys k

-- the parts of all groups, once the row's group is there
pub opened : (aggregates : List (Item ℕ)) (width : ℕ) (rows : List Row) (row : Row) (keys : List Row) → keys ≡ group_keys width rows →
    (if has_row (take width row) keys then flat_map (parts_of aggregates width rows) keys else flat_map (parts_of aggregates width rows) keys ++ map (λ a. joined_part a []) aggregates)
    ≡ flat_map (parts_of aggregates width rows) (insert_key same_row keys (take width row))
opened aggregates width rows row keys same =
    opened_by (has_row (take width row) keys) (parts_of aggregates width rows) keys (take width row) (map (λ a. joined_part a []) aggregates)
    (λ e. no_parts aggregates width ∙ ap (joined_parts aggregates width) (sym (no_group width rows row (ap (has_row (take width row)) (sym same) ∙ e))))

pub within_ordinal : {A : Type 0} (keys : List A) (i : ℕ) (k : A) → slice_get keys i ≡ Some k → i < length keys
within_ordinal [] i k at = cc
within_ordinal (x ∷ keys) zero k at = omega arith
within_ordinal (x ∷ keys) (suc i) k at = omega (arith, within_ordinal keys i k at)

-- each group has as many parts as there are aggregates
even : (aggregates : List (Item ℕ)) (width : ℕ) (rows keys : List Row) → Each (length aggregates) (map (parts_of aggregates width rows) keys)
even aggregates width rows [] = tt
even aggregates width rows (k ∷ keys) = (parts_length aggregates width (of_group width k rows), even aggregates width rows keys)

-- the row's values fit to the parts of its group
pub can_add : (aggregates : List (Item ℕ)) (width : ℕ) (rows : List Row) (row : Row) → AreSummable width (rows ++ row ∷ []) →
    CanJoinAll aggregates (parts_of aggregates width rows (take width row)) (drop width row)
can_add aggregates width rows row summable =
    let more = of_group width (take width row) rows ++ row ∷ [] in
    let smaller : (m : ℕ) → width ≤ m → column_size m more < 2 ^ 127 = λ m le.
    omega (arith, summable m le, group_size width m (take width row) (rows ++ row ∷ []), ap (column_size m) (of_group_more width row rows)) in
    parts_hold aggregates width (of_group width (take width row) rows) row smaller

-- the group of the row has it, and the others stay
pub grown : (aggregates : List (Item ℕ)) (width : ℕ) (rows : List Row) (row : Row) (keys : List Row) (i : ℕ) → slice_get keys i ≡ Some (take width row) → IsDistinct same_row keys →
    with_group (length aggregates) i (with_values aggregates (parts_of aggregates width rows (take width row)) (drop width row)) (flat_map (parts_of aggregates width rows) keys)
    ≡ flat_map (parts_of aggregates width (rows ++ row ∷ [])) keys
grown aggregates width rows row keys i at distinct =
    let f = parts_of aggregates width rows in
    let g = parts_of aggregates width (rows ++ row ∷ []) in
    let k = take width row in
    let new : with_values aggregates (f k) (drop width row) ≡ g k =
    parts_more aggregates width (of_group width k rows) row ∙ ap (joined_parts aggregates width) (sym (of_group_more width row rows)) in
    (λ j. with_group (length aggregates) i (new j) (joined_map f keys j))
    ∙ joined_set (length aggregates) (map f keys) i (g k) (even aggregates width rows keys) (omega (arith, within_ordinal keys i k at, length-map keys f))
    ∙ ap joined (sym (one_changes f g k (λ q other. ap (joined_parts aggregates width) (of_group_stays width q row rows other)) keys i at distinct))
    ∙ sym (joined_map g keys)

-- without group values there is one group of no rows
pub starts_one : (aggregates : List (Item ℕ)) (width : ℕ) (k : Row) (keys new : List Row) (parts more : List Value) → width ≡ 0 → k ≡ [] → keys ≡ [] → parts ≡ [] →
    new ≡ insert_key same_row keys k → more ≡ (if has_row k keys then parts else parts ++ map (λ a. joined_part a []) aggregates) → AreGroups aggregates width [] new more
starts_one aggregates width k keys new parts more none empty no_keys nothing made kept =
    let one : new ≡ [] ∷ [] = made ∙ (λ i. insert_key same_row (no_keys i) (empty i)) in (
      one ∙ ap (λ w. group_keys w []) (sym none),
      kept ∙ (λ i. if has_row (empty i) (no_keys i) then nothing i else nothing i ++ map (λ a. joined_part a []) aggregates)
          ∙ no_parts aggregates width ∙ sym (append-nil (joined_parts aggregates width [])) ∙ ap (flat_map (parts_of aggregates width [])) (sym one),
    )

-- and with group values there is none
no_keys_of : (width : ℕ) → (width ≡ 0 → ⊥) → [] ≡ group_keys width []
no_keys_of zero n = absurd (n refl)
no_keys_of (suc w) n = rw eqb-suc-zero

pub starts_none : (aggregates : List (Item ℕ)) (width : ℕ) (keys : List Row) (parts : List Value) → (width ≡ 0 → ⊥) → keys ≡ [] → parts ≡ [] → AreGroups aggregates width [] keys parts
starts_none aggregates width keys parts some no_keys nothing =
    (no_keys ∙ no_keys_of width some, nothing ∙ ap (flat_map (parts_of aggregates width [])) (sym no_keys))

module _ (aggregates : List (Item ℕ)) (width : ℕ) (rows : List Row) (row k : Row) (same : k ≡ take width row) where
  pub all_opened : (keys new : List Row) (parts more : List Value) → AreGroups aggregates width rows keys parts → new ≡ insert_key same_row keys k →
      more ≡ (if has_row k keys then parts else parts ++ map (λ a. joined_part a []) aggregates) → more ≡ flat_map (parts_of aggregates width rows) new
  all_opened keys new parts more groups made kept =
      kept ∙ (λ i. if has_row (same i) keys then groups.1 i else groups.1 i ++ map (λ a. joined_part a []) aggregates) ∙ opened aggregates width rows row keys groups.0
      ∙ ap (λ q. flat_map (parts_of aggregates width rows) (insert_key same_row keys q)) (sym same) ∙ ap (flat_map (parts_of aggregates width rows)) (sym made)

  module _ (keys : List Row) (parts : List Value) (all : parts ≡ flat_map (parts_of aggregates width rows) keys) (ordinal : ℕ) (at : slice_get keys ordinal ≡ Some k)
      (vs : Row) (trailing : vs ≡ drop width row) where
    abbrev lists : List (List Value)
    lists = map (parts_of aggregates width rows) keys

    here : group_at (length aggregates) ordinal parts ≡ parts_of aggregates width rows (take width row)
    here =
        ap (group_at (length aggregates) ordinal) (all ∙ joined_map (parts_of aggregates width rows) keys)
        ∙ joined_at (length aggregates) lists ordinal (parts_of aggregates width rows (take width row)) (even aggregates width rows keys)
        (slice_get-map (parts_of aggregates width rows) keys ordinal ∙ ap (option_map (parts_of aggregates width rows)) (at ∙ ap Some same))

    pub within_parts : ordinal * length aggregates + length aggregates ≤ length parts
    within_parts =
        subst (λ (l : List Value). ordinal * length aggregates + length aggregates ≤ length l) (sym (all ∙ joined_map (parts_of aggregates width rows) keys))
        (ends_within (length aggregates) lists ordinal (even aggregates width rows keys) (omega (arith, within_ordinal keys ordinal k at, length-map keys (parts_of aggregates width rows))))

    pub can_add_at : AreSummable width (rows ++ row ∷ []) → CanJoinAll aggregates (group_at (length aggregates) ordinal parts) vs
    can_add_at summable = subst (λ (p : List Value × Row). CanJoinAll aggregates p.0 p.1) (λ i. (sym here i, sym trailing i)) (can_add aggregates width rows row summable)

    pub grown_at : (old new : List Row) (more : List Value) → old ≡ group_keys width rows → keys ≡ insert_key same_row old k → IsDistinct same_row keys → new ≡ keys →
        more ≡ with_group (length aggregates) ordinal (with_values aggregates (group_at (length aggregates) ordinal parts) vs) parts → AreGroups aggregates width (rows ++ row ∷ []) new more
    grown_at old new more first made distinct stay kept = (
      stay ∙ made ∙ (λ i. insert_key same_row (first i) (same i)) ∙ sym (group_keys_more width rows row),
      kept ∙ (λ i. with_group (length aggregates) ordinal (with_values aggregates (here i) (trailing i)) (all i)) ∙ grown aggregates width rows row keys ordinal (at ∙ ap Some same) distinct
          ∙ ap (flat_map (parts_of aggregates width (rows ++ row ∷ []))) (sym stay),
    )

given : (n : ℕ) (f : Row → List Value) (keys : List Row) → Each n (map f keys) → finished_rows n keys (flat_map f keys) ≡ map (λ key. key ++ f key) keys
given n f [] each = refl
given n f (k ∷ keys) each =
    (λ i. (k ++ take_at (f k) (flat_map f keys) n each.0 i) ∷ finished_rows n keys (drop_at (f k) (flat_map f keys) n each.0 i))
    ∙ ap (λ r. (k ++ f k) ∷ r) (given n f keys each.1)

-- the rows of the groups are the joined rows
pub rows_given : (aggregates : List (Item ℕ)) (width : ℕ) (rows keys : List Row) (parts : List Value) → AreGroups aggregates width rows keys parts →
    finished_rows (length aggregates) keys parts ≡ joined_rows aggregates width rows
rows_given aggregates width rows keys parts groups =
    ap (finished_rows (length aggregates) keys) groups.1 ∙ given (length aggregates) (parts_of aggregates width rows) keys (even aggregates width rows keys)
    ∙ ap (map (λ key. key ++ parts_of aggregates width rows key)) groups.0

-- the first rows of some whose numbers fit
pub begin_fits : (width : ℕ) (rows rest all : List Row) (row : Row) → rows ++ row ∷ rest ≡ all → AreSummable width all → AreSummable width (rows ++ row ∷ [])
begin_fits width rows rest all row e summable = λ m le.
    (let f : Row → ℕ = λ r. size (value_at r m) in
    omega (arith, summable m le, ap (sum_by f) e, sum_by-append f rows (row ∷ rest), sum_by-append f rows (row ∷ []), sum_by-cons f row rest, sum_by-cons f row []))
