-- A transaction's list of changes, and the positions of those of a table.
use Rattle.std.proofs.Common.{◌≡◌, ℕ, zero, suc, ◌+◌, ◌-◌, ◌<◌, ◌≤◌, Bool, true, false, cond, ◌||◌, ◌&&◌, ◌==◌, ◌⊎◌, inl, inr, List, [], ◌∷◌, ◌++◌, length, take, drop, set, get_or, filter, Option, Some, None, is_some, slice_get, refl, sym, ap, ◌∙◌, subst, arith, IsSorted, nat_cmp, position}
use Rattle.std.specs.Prelude.{nat_lt}
use Rattle.std.specs.List.{list_any}
use Rattle.std.specs.List.Sorted.{IsNonDecreasingBy}
use Rattle.std.proofs.Math.Seq.{drop-cons}
use Rattle.std.proofs.lemmas.Bool.{false≢true, true≢false, eqb-true, eq-eqb, ltb-true, ltb-false}
use Rattle.std.proofs.lemmas.List.{take_more, take_all, drop_all, get_or-drop, get_or_default, get_or_push, length-append, length-drop, length-take-le}
use Rattle.std.proofs.lemmas.List.Folds.{list_any-append}
use Rattle.std.proofs.lemmas.List.Quantifiers.{position-Some}
use Rattle.std.proofs.lemmas.List.Sorted.{IsNonDecreasingBy-from_sort}
use Rattle.std.proofs.lemmas.Option.{slice_get_within, get_or_from_slice_get, slice_get_past, slice_get_cases}
use Rattle.vt_value.specs.Values.{Row}
use Rattle.vschema.specs.declared.changes.RowChange.{RowChange}
use Rattle.vschema.specs.declared.changes.RowChange.TheVariants.{Added, Replaced, Removed}
use Rattle.vschema.specs.Checks.{has_number}
use Rattle.vschema.specs.Database.{Database, rows_of, without, all_applied, changed_table}
use Rattle.shard_store.specs.Tables.{key_at}
use Rattle.shard_contents.specs.inner.Stores.{row_after}
use Rattle.shard_contents.specs.inner.OwnChanges.{ByKeyView, has_position, is_positioned, IsPositioned, ArePositioned, ArePositionedFrom, HaveMore, concerns, HasPositions, IsDoneAt}
use Rattle.shard_contents.proofs.OneTable.{is_of, next_here, next_other}
use Rattle.shard_contents.proofs.KeyPositions.{yes_or, or_yes, both_yes, two_yes}
use Rattle.shard_contents.proofs.Wanted.{after_same, unwanted_added, unwanted_removed}

-- ---- lists

or_else : RowChange → Option RowChange → RowChange
or_else d None = d
or_else d (Some x) = x

some_is : (x y : RowChange) → Some x ≡ Some y → x ≡ y
unfolding or_else
some_is x y e = ap (or_else x) e

none_is : (y : RowChange) → None ≡ Some y → ⊥
none_is y e = false≢true (ap is_some e)

pub any_weaker : {X : Type 0} (p q : X → Bool) → ((x : X) → p x ≡ true → q x ≡ true) → (xs : List X) → list_any p xs ≡ true → list_any q xs ≡ true
any_weaker p q h [] e = e
any_weaker p q h (x ∷ xs) e = by (any_weaker p q h xs) (p x) refl e
  where
    by : (list_any p xs ≡ true → list_any q xs ≡ true) → (b : Bool) → p x ≡ b → (b || list_any p xs) ≡ true → (q x || list_any q xs) ≡ true
    by ih true t f = or_yes (q x) (list_any q xs) (h x t)
    by ih false t f = yes_or (q x) (list_any q xs) (ih f)

-- where one that passes is
pub any_at : {X : Type 0} (p : X → Bool) (xs : List X) → list_any p xs ≡ true → (n : ℕ) × (x : X) × (slice_get xs n ≡ Some x) × (p x ≡ true)
any_at p [] e = absurd (false≢true e)
any_at {X = X} p (x ∷ xs) e = by (any_at p xs) (p x) refl e
  where
    by : (list_any p xs ≡ true → (n : ℕ) × (y : X) × (slice_get xs n ≡ Some y) × (p y ≡ true)) → (b : Bool) → p x ≡ b → (b || list_any p xs) ≡ true
        → (n : ℕ) × (y : X) × (slice_get (x ∷ xs) n ≡ Some y) × (p y ≡ true)
    by ih true t f = (0, x, refl, t)
    by ih false t f = let at = ih f in (suc at.0, at.1, at.2, at.3)

pub set_kept : {X : Type 0} (p : X → Bool) (xs : List X) (i : ℕ) (v : X) → ((d : X) → p (get_or xs i d) ≡ true → p v ≡ true)
    → list_any p xs ≡ true → list_any p (set xs i v) ≡ true
set_kept p [] i v h e = e
set_kept p (x ∷ xs) zero v h e = by (p x) refl e
  where
    by : (b : Bool) → p x ≡ b → (b || list_any p xs) ≡ true → (p v || list_any p xs) ≡ true
    by true t f = or_yes (p v) (list_any p xs) (h x t)
    by false t f = yes_or (p v) (list_any p xs) f
set_kept p (x ∷ xs) (suc i) v h e = by (set_kept p xs i v h) (p x) e
  where
    by : (list_any p xs ≡ true → list_any p (set xs i v) ≡ true) → (b : Bool) → (b || list_any p xs) ≡ true → (b || list_any p (set xs i v)) ≡ true
    by ih true f = refl
    by ih false f = ih f

pub set_there : {X : Type 0} (p : X → Bool) (xs : List X) (i : ℕ) (v : X) → i < length xs → p v ≡ true → list_any p (set xs i v) ≡ true
set_there p [] i v within h = absurd (omega (arith, within))
set_there p (x ∷ xs) zero v within h = or_yes (p v) (list_any p xs) h
set_there p (x ∷ xs) (suc i) v within h = yes_or (p x) (list_any p (set xs i v)) (set_there p xs i v (omega (arith, within)) h)

-- an element of two lists is one of the first, or one of the second
pub get_append : {X : Type 0} (xs ys : List X) (n : ℕ) (c : X) → slice_get (xs ++ ys) n ≡ Some c
    → (slice_get xs n ≡ Some c) ⊎ ((m : ℕ) × (length xs + m ≡ n) × (slice_get ys m ≡ Some c))
get_append [] ys n c h = inr (n, omega arith, h)
get_append (x ∷ xs) ys zero c h = inl h
get_append (x ∷ xs) ys (suc n) c h =
    elim (get_append xs ys n c h) [
      | inl e ↦ inl e
      | inr e ↦ inr (e.0, (let at = e.1 in omega (arith, at)), e.2)
    ]

-- ---- positions of changes

-- the table that is found is there
pub table_found : (views : List ByKeyView) (table n : ℕ) → position (λ (v : ByKeyView). v.table == table) views ≡ Some n
    → (n < length views) × ((d : ByKeyView) → (get_or views n d).table ≡ table)
table_found views table n is =
    let at = λ (d : ByKeyView). position-Some (λ (v : ByKeyView). v.table == table) views n d is in
    ((at no_view).0, λ d. eqb-true (get_or views n d).table table (at d).1)
  where
    no_view : ByKeyView
    no_view = record { table = 0; columns = []; positions = [] }

-- and so is one that is pushed
pub table_pushed : (views pushed : List ByKeyView) (view : ByKeyView) (table n : ℕ) → pushed ≡ views ++ view ∷ [] → view.table ≡ table → n ≡ length views
    → (n < length pushed) × ((d : ByKeyView) → (get_or pushed n d).table ≡ table)
table_pushed views pushed view table n is table_is at =
    let long = ap length is ∙ length-append views (view ∷ []) in (
      omega (arith, long, at),
      λ d. ap (λ (v : ByKeyView). v.table) (ap (λ (l : List ByKeyView). get_or l n d) is ∙ get_or_push views view d n (sym at)) ∙ table_is,
    )

pub positioned_kept : (old new : ByKeyView) → new.table ≡ old.table → new.columns ≡ old.columns
    → ((key : Row) (n : ℕ) → has_position old key n ≡ true → has_position new key n ≡ true)
    → (n table : ℕ) (row : Row) → is_positioned n table row old ≡ true → is_positioned n table row new ≡ true
positioned_kept old new table_is columns_are kept n table row h =
    let t = two_yes (old.table == table) (has_position old (key_at old.columns row) n) h in
    both_yes (new.table == table) (has_position new (key_at new.columns row) n) (ap (λ m. m == table) table_is ∙ t.0)
    (ap (λ (cs : List ℕ). has_position new (key_at cs row) n) columns_are ∙ kept (key_at old.columns row) n t.1)

pub positioned_now : (old new : ByKeyView) (n table : ℕ) (row : Row) → new.table ≡ table → new.columns ≡ old.columns
    → has_position new (key_at old.columns row) n ≡ true → is_positioned n table row new ≡ true
positioned_now old new n table row table_is columns_are h =
    both_yes (new.table == table) (has_position new (key_at new.columns row) n) (eq-eqb new.table table table_is)
    (ap (λ (cs : List ℕ). has_position new (key_at cs row) n) columns_are ∙ h)

pub pushed_more : (views : List ByKeyView) (view : ByKeyView) → HaveMore views (views ++ view ∷ [])
pushed_more views view = λ n table row h.
    list_any-append (is_positioned n table row) views (view ∷ []) ∙ or_yes (list_any (is_positioned n table row) views) (list_any (is_positioned n table row) (view ∷ [])) h

pub set_more : (views : List ByKeyView) (i : ℕ) (view : ByKeyView)
    → ((d : ByKeyView) (n table : ℕ) (row : Row) → is_positioned n table row (get_or views i d) ≡ true → is_positioned n table row view ≡ true)
    → HaveMore views (set views i view)
set_more views i view h = λ n table row e. set_kept (is_positioned n table row) views i view (λ d. h d n table row) e

pub more_positioned : (views more : List ByKeyView) → HaveMore views more → (n : ℕ) (c : RowChange) → IsPositioned views n c → IsPositioned more n c
more_positioned views more h n (Added table row) e = h n table row e
more_positioned views more h n (Replaced table old new) e = (h n table old e.0, h n table new e.1)
more_positioned views more h n (Removed table row) e = h n table row e

-- and where a row's position is added to that of its table
module _ (views : List ByKeyView) (i : ℕ) (old view : ByKeyView) (within : i < length views) (is : old ≡ get_or views i old) (columns_are : view.columns ≡ old.columns) where
  pub row_kept : view.table ≡ old.table → ((key : Row) (n : ℕ) → has_position old key n ≡ true → has_position view key n ≡ true) → HaveMore views (set views i view)
  row_kept table_is kept =
      set_more views i view (λ d n table row h.
      positioned_kept old view table_is columns_are kept n table row
      (subst (λ (v : ByKeyView). is_positioned n table row v ≡ true) (get_or_default views i d old within ∙ sym is) h))

  pub row_there : (n table : ℕ) (row : Row) → view.table ≡ old.table → ((d : ByKeyView) → (get_or views i d).table ≡ table)
      → has_position view (key_at old.columns row) n ≡ true → list_any (is_positioned n table row) (set views i view) ≡ true
  row_there n table row table_is at h =
      set_there (is_positioned n table row) views i view within
      (positioned_now old view n table row (table_is ∙ ap (λ (v : ByKeyView). v.table) is ∙ at old) columns_are h)

-- one more change is positioned
pub one_positioned : (first : ℕ) (views more : List ByKeyView) (changes : List RowChange) (i : ℕ) (c : RowChange) → i < length changes
    → c ≡ get_or changes i c → HaveMore views more → ArePositionedFrom first views (take i changes) → IsPositioned more (first + i) c
    → ArePositionedFrom first more (take (i + 1) changes)
one_positioned first views more changes i c within is kept before here = λ n d e.
    let f : slice_get (take i changes ++ c ∷ []) n ≡ Some d =
    subst (λ (l : List RowChange). slice_get l n ≡ Some d) (take_more changes i c within ∙ ap (λ x. take i changes ++ x ∷ []) (sym is)) e in
    elim (get_append (take i changes) (c ∷ []) n d f) [
      | inl g ↦ more_positioned views more kept (first + n) d (before n d g)
      | inr g ↦ last n d g.0 g.1 g.2
    ]
  where
    long : length (take i changes) ≡ i
    long = length-take-le i changes (omega (arith, within))

    last : (n : ℕ) (d : RowChange) (m : ℕ) → length (take i changes) + m ≡ n → slice_get (c ∷ []) m ≡ Some d → IsPositioned more (first + n) d
    last n d zero at g =
        let same : i ≡ n = omega (arith, long, at) in
        subst (λ k. IsPositioned more (first + k) d) same (subst (λ (x : RowChange). IsPositioned more (first + i) x) (some_is c d g) here)
    last n d (suc m) at g = absurd (none_is d g)

pub appended_positioned : (views more : List ByKeyView) (changes others : List RowChange) → HaveMore views more → ArePositioned views changes
    → ArePositionedFrom (length changes) more others → ArePositioned more (changes ++ others)
appended_positioned views more changes others kept before trailing = record {
  at = λ n c e.
      elim (get_append changes others n c e) [
        | inl g ↦ more_positioned views more kept n c (before.at n c g)
        | inr g ↦ subst (λ k. IsPositioned more k c) g.1 (trailing g.0 c g.2)
      ];
}

pub kept_positioned : (views more : List ByKeyView) (changes : List RowChange) → HaveMore views more → ArePositioned views changes → ArePositioned more changes
kept_positioned views more changes kept before = record { at = λ n c e. more_positioned views more kept n c (before.at n c e) }

-- a table that has no positions has no changes
pub none_changed : (views : List ByKeyView) (changes : List RowChange) (table : ℕ) → ArePositioned views changes
    → list_any (λ (v : ByKeyView). v.table == table) views ≡ false → list_any (is_of table) changes ≡ false
none_changed views changes table all none = by (list_any (is_of table) changes) refl
  where
    some : (n : ℕ) (m : ℕ) (row : Row) → (m == table) ≡ true → list_any (is_positioned n m row) views ≡ true → list_any (λ (v : ByKeyView). v.table == table) views ≡ true
    some n m row e h =
        any_weaker (is_positioned n m row) (λ (v : ByKeyView). v.table == table)
        (λ v t. ap (λ k. v.table == k) (sym (eqb-true m table e)) ∙ (two_yes (v.table == m) (has_position v (key_at v.columns row) n) t).0) views h

    one : (n : ℕ) (c : RowChange) → is_of table c ≡ true → IsPositioned views n c → list_any (λ (v : ByKeyView). v.table == table) views ≡ true
    one n (Added m row) e h = some n m row e h
    one n (Replaced m old new) e h = some n m old e h.0
    one n (Removed m row) e h = some n m row e h

    by : (b : Bool) → list_any (is_of table) changes ≡ b → list_any (is_of table) changes ≡ false
    by true t =
        let at = any_at (is_of table) changes t in
        absurd (true≢false (sym (one at.0 at.1 at.3 (all.at at.0 at.1 at.2)) ∙ none))
    by false t = t

-- positions among which are those of rows that pass have those of the changes
pub positions_found : (p : Row → Bool) (table : ℕ) (views : List ByKeyView) (changes : List RowChange) (found : List ℕ) → ArePositioned views changes
    → ((row : Row) (n : ℕ) → p row ≡ true → n ≤ length changes → list_any (is_positioned n table row) views ≡ true → has_number found n ≡ true)
    → HasPositions p table changes found
positions_found p table views changes found all h = λ n c e t. one n c (within n c e) t (all.at n c e)
  where
    within : (n : ℕ) (c : RowChange) → slice_get changes n ≡ Some c → n ≤ length changes
    within n c e = let l = slice_get_within changes n c e in omega (arith, l)

    row_found : (n m : ℕ) (row : Row) → n ≤ length changes → (m == table) ≡ true → p row ≡ true → list_any (is_positioned n m row) views ≡ true → has_number found n ≡ true
    row_found n m row l e t g = h row n t l (subst (λ k. list_any (is_positioned n k row) views ≡ true) (eqb-true m table e) g)

    either : (n m : ℕ) (old new : Row) → n ≤ length changes → (m == table) ≡ true → (b : Bool) → p old ≡ b → (b || p new) ≡ true
        → list_any (is_positioned n m old) views ≡ true → list_any (is_positioned n m new) views ≡ true → has_number found n ≡ true
    either n m old new l e true t f g k = row_found n m old l e t g
    either n m old new l e false t f g k = row_found n m new l e f k

    one : (n : ℕ) (c : RowChange) → n ≤ length changes → concerns p table c ≡ true → IsPositioned views n c → has_number found n ≡ true
    one n (Added m row) l t g = let s = two_yes (m == table) (p row) t in row_found n m row l s.0 s.1 g
    one n (Replaced m old new) l t g =
        let s = two_yes (m == table) (p old || p new) t in
        either n m old new l s.0 (p old) refl s.1 g.0 g.1
    one n (Removed m row) l t g = let s = two_yes (m == table) (p row) t in row_found n m row l s.0 s.1 g

-- ---- positions in order

module _ (positions : List ℕ) (k q n : ℕ) (within : k < length positions) (is : q ≡ get_or positions k q) where
  rest_has : (n ≡ q → ⊥) → has_number (drop k positions) n ≡ true → has_number (drop (k + 1) positions) n ≡ true
  rest_has differ h =
      let e : drop k positions ≡ q ∷ drop (suc k) positions = drop-cons positions k q within ∙ ap (λ m. m ∷ drop (suc k) positions) (sym is) in
      let f : has_number (q ∷ drop (suc k) positions) n ≡ true = subst (λ (l : List ℕ). has_number l n ≡ true) e h in
      let one : suc k ≡ k + 1 = omega arith in
      subst (λ m. has_number (drop m positions) n ≡ true) one (by (q == n) refl f)
    where
      by : (b : Bool) → (q == n) ≡ b → (b || has_number (drop (suc k) positions) n) ≡ true → has_number (drop (suc k) positions) n ≡ true
      by true t g = absurd (differ (sym (eqb-true q n t)))
      by false t g = g

  least : IsSorted nat_cmp positions → has_number (drop (k + 1) positions) n ≡ true → q ≤ n
  least sorted h =
      let up = IsNonDecreasingBy-from_sort (λ m. m) positions sorted in
      let at = any_at (λ m. m == n) (drop (k + 1) positions) h in
      let e = get_or_from_slice_get (drop (k + 1) positions) at.0 at.1 q at.2 in
      let f = get_or-drop (k + 1) positions at.0 q in
      let l = slice_get_within (drop (k + 1) positions) at.0 at.1 at.2 in
      let long = length-drop (k + 1) positions in
      let le = up k (k + 1 + at.0) q (omega arith) (omega (arith, l, long)) in
      (let same = eqb-true at.1 n at.3 in omega (arith, le, is, e, f, same))

-- ---- changes of rows that don't pass

no_and : (a b : Bool) → a ≡ true → (a && b) ≡ false → b ≡ false
no_and true b t h = h
no_and false b t h = absurd (false≢true t)

neither : (a b : Bool) → (a || b) ≡ false → (a ≡ false) × (b ≡ false)
neither true b h = absurd (true≢false h)
neither false b h = (refl, h)

module _ (p : Row → Bool) (table : ℕ) where
  unconcerned : (c : RowChange) (rows : List Row) → is_of table c ≡ true → concerns p table c ≡ false → filter p (row_after c rows) ≡ filter p rows
  unconcerned (Added m row) rows of h = sym (unwanted_added p row rows (no_and (m == table) (p row) of h))
  unconcerned (Replaced m old new) rows of h =
      let s = neither (p old) (p new) (no_and (m == table) (p old || p new) of h) in
      sym (unwanted_removed p old rows s.0 ∙ unwanted_added p new (without old rows) s.1)
  unconcerned (Removed m row) rows of h = sym (unwanted_removed p row rows (no_and (m == table) (p row) of h))

  module _ (changes : List RowChange) (db : Database) (there : table < length db) where
    abbrev so_far : ℕ → List Row
    so_far n = rows_of (all_applied (take n changes) db) table

    one_passed : (n : ℕ) → ((c : RowChange) → slice_get changes n ≡ Some c → concerns p table c ≡ false) → filter p (so_far (n + 1)) ≡ filter p (so_far n)
    one_passed n h = elim (slice_get_cases changes n).1 [
      | inl e ↦ by e.0 e.1 e.3 (h e.0 e.2) (is_of table e.0) refl
      | inr e ↦
          let over = e.0 in
          ap (λ (l : List RowChange). filter p (rows_of (all_applied l db) table)) (take_all (n + 1) changes (omega (arith, over)) ∙ sym (take_all n changes over))
    ]
      where
        by : (c : RowChange) → n < length changes → get_or changes n c ≡ c → concerns p table c ≡ false → (b : Bool) → is_of table c ≡ b
            → filter p (so_far (n + 1)) ≡ filter p (so_far n)
        by c within at g true t = ap (filter p) (next_here changes n c db table there within (sym at) t) ∙ unconcerned c (so_far n) t g
        by c within at g false t = ap (filter p) (next_other changes n c db table there within (sym at) t)

    passed : (next gap : ℕ) → ((n : ℕ) (c : RowChange) → next ≤ n → n < next + gap → slice_get changes n ≡ Some c → concerns p table c ≡ false)
        → filter p (so_far (next + gap)) ≡ filter p (so_far next)
    passed next zero h = ap (λ n. filter p (so_far n)) (let e : next + 0 ≡ next = omega arith in e)
    passed next (suc gap) h =
        ap (λ n. filter p (so_far n)) (let e : next + suc gap ≡ (next + gap) + 1 = omega arith in e)
        ∙ one_passed (next + gap) (λ c e. h (next + gap) c (omega arith) (omega arith) e)
        ∙ passed next gap (λ n c low high e. h n c low (omega (arith, high)) e)

    -- no change from one position up to another is of a row that passes
    all_passed : (next position : ℕ) → next ≤ position
        → ((n : ℕ) (c : RowChange) → next ≤ n → n < position → slice_get changes n ≡ Some c → concerns p table c ≡ false)
        → filter p (so_far position) ≡ filter p (so_far next)
    all_passed next position low h =
        let e : next + (position - next) ≡ position = omega (arith, low) in
        ap (λ n. filter p (so_far n)) (sym e) ∙ passed next (position - next) (λ n c from most g. h n c from (omega (arith, most, e)) g)

-- ---- a change at a position

module _ (table : ℕ) (changes : List RowChange) (next position : ℕ) (rows : List Row) where
  pub done_before : position < next → IsDoneAt table changes next position rows rows next
  done_before below = record { past = λ b. (refl, refl); none = λ e. (refl, refl); here = λ c low e. absurd (omega (arith, below, low)) }

  pub done_none : slice_get changes position ≡ None → IsDoneAt table changes next position rows rows next
  done_none e = record { past = λ b. (refl, refl); none = λ f. (refl, refl); here = λ c low g. absurd (none_is c (sym e ∙ g)) }

  pub done_here : (c : RowChange) (after : List Row) (passed : ℕ) → next ≤ position → slice_get changes position ≡ Some c
      → after ≡ cond (changed_table c == table) (row_after c rows) rows → passed ≡ position + 1 → IsDoneAt table changes next position rows after passed
  done_here c after passed low e is at = record {
    past = λ below. absurd (omega (arith, below, low));
    none = λ f. absurd (none_is c (sym f ∙ e));
    here = λ d l g. (subst (λ (x : RowChange). after ≡ cond (changed_table x == table) (row_after x rows) rows) (some_is c d (sym e ∙ g)) is, at);
  }

-- of the rows that pass, these have those that the changes before the next one leave; the positions of later ones of such rows are still to come
pub record IsSoFar (p : Row → Bool) (table : ℕ) (changes : List RowChange) (db : Database) (positions : List ℕ) (k next : ℕ) (rows : List Row) : Type 0 where
  pub done : filter p rows ≡ filter p (rows_of (all_applied (take next changes) db) table)
  pub left : (n : ℕ) (c : RowChange) → next ≤ n → slice_get changes n ≡ Some c → concerns p table c ≡ true → has_number (drop k positions) n ≡ true

pub begun : (p : Row → Bool) (table : ℕ) (changes : List RowChange) (db : Database) (positions : List ℕ) (rows : List Row)
    → HasPositions p table changes positions → rows ≡ rows_of db table → IsSoFar p table changes db positions 0 0 rows
begun p table changes db positions rows h is = record { done = ap (filter p) is; left = λ n c low e t. h n c e t }

module _ (p : Row → Bool) (table : ℕ) (changes : List RowChange) (db : Database) (there : table < length db) (positions : List ℕ) where
  pub ended : (k next : ℕ) (rows : List Row) → length positions ≤ k → IsSoFar p table changes db positions k next rows
      → filter p rows ≡ filter p (rows_of (all_applied changes db) table)
  ended k next rows past h =
      h.done ∙ sym (all_passed p table changes db there next (next + length changes) (omega arith) (λ n c low most e. none n c low e))
      ∙ ap (λ (l : List RowChange). filter p (rows_of (all_applied l db) table)) (take_all (next + length changes) changes (omega arith))
    where
      none : (n : ℕ) (c : RowChange) → next ≤ n → slice_get changes n ≡ Some c → concerns p table c ≡ false
      none n c low e = by (concerns p table c) refl
        where
          by : (b : Bool) → concerns p table c ≡ b → concerns p table c ≡ false
          by true t =
              let f : has_number [] n ≡ true =
              subst (λ (l : List ℕ). has_number l n ≡ true) (drop_all k positions past) (h.left n c low e t) in
              absurd (false≢true f)
          by false t = t

  pub one_done : (k q next passed : ℕ) (rows after : List Row) → IsSorted nat_cmp positions → k < length positions → q ≡ get_or positions k q
      → IsSoFar p table changes db positions k next rows → IsDoneAt table changes next q rows after passed
      → IsSoFar p table changes db positions (k + 1) passed after
  one_done k q next passed rows after sorted within is h done = by (nat_lt q next) refl
    where
      stays : (after ≡ rows) × (passed ≡ next) → ((n : ℕ) (c : RowChange) → next ≤ n → slice_get changes n ≡ Some c → n ≡ q → ⊥)
          → IsSoFar p table changes db positions (k + 1) passed after
      stays same differ = record {
        done = ap (filter p) same.0 ∙ h.done ∙ ap (λ n. filter p (rows_of (all_applied (take n changes) db) table)) (sym same.1);
        left = λ n c low e t.
            let low' : next ≤ n = subst (λ m. m ≤ n) same.1 low in
            rest_has positions k q n within is (differ n c low' e) (h.left n c low' e t);
      }

      skipped : next ≤ q → (n : ℕ) (c : RowChange) → next ≤ n → n < q → slice_get changes n ≡ Some c → concerns p table c ≡ false
      skipped low n c least_is below e = to (concerns p table c) refl
        where
          to : (b : Bool) → concerns p table c ≡ b → concerns p table c ≡ false
          to true t =
              let g = rest_has positions k q n within is (λ same. omega (arith, below, same)) (h.left n c least_is e t) in
              let l = least positions k q n within is sorted g in
              absurd (omega (arith, l, below))
          to false t = t

      goes : next ≤ q → (c : RowChange) → q < length changes → slice_get changes q ≡ Some c → c ≡ get_or changes q c
          → IsSoFar p table changes db positions (k + 1) passed after
      goes low c inside e at = record {
        done = ap (filter p) now.0 ∙ to (is_of table c) refl ∙ ap (λ n. filter p (rows_of (all_applied (take n changes) db) table)) (sym now.1);
        left = λ n d from f t.
            let from' : q + 1 ≤ n = subst (λ m. m ≤ n) now.1 from in
            rest_has positions k q n within is (λ same. omega (arith, from', same)) (h.left n d (omega (arith, from', low)) f t);
      }
        where
          now : (after ≡ cond (is_of table c) (row_after c rows) rows) × (passed ≡ q + 1)
          now = done.here c low e

          before : filter p rows ≡ filter p (rows_of (all_applied (take q changes) db) table)
          before = h.done ∙ sym (all_passed p table changes db there next q low (skipped low))

          to : (b : Bool) → is_of table c ≡ b
              → filter p (cond (is_of table c) (row_after c rows) rows) ≡ filter p (rows_of (all_applied (take (q + 1) changes) db) table)
          to true t =
              ap (λ d. filter p (cond d (row_after c rows) rows)) t ∙ after_same p c rows (rows_of (all_applied (take q changes) db) table) before
              ∙ ap (filter p) (sym (next_here changes q c db table there inside at t))
          to false t = ap (λ d. filter p (cond d (row_after c rows) rows)) t ∙ before ∙ ap (filter p) (sym (next_other changes q c db table there inside at t))

      by : (b : Bool) → nat_lt q next ≡ b → IsSoFar p table changes db positions (k + 1) passed after
      by true t =
          let below = ltb-true q next t in
          stays (done.past below) (λ n c low e same. omega (arith, below, low, same))
      by false t = elim (slice_get_cases changes q).1 [
        | inl e ↦ goes (ltb-false q next t) e.0 e.1 e.2 (sym e.3)
        | inr e ↦
            let over = e.0 in
            stays (done.none e.1) (λ n c low f same. let l = slice_get_within changes n c f in omega (arith, l, over, same))
      ]

-- a position of another table is none here
pub other_table : (view : ByKeyView) (n table : ℕ) (row : Row) (C : Type 0) → (view.table ≡ table → ⊥) → is_positioned n table row view ≡ true → C
other_table view n table row C differs h =
    absurd (differs (eqb-true view.table table (two_yes (view.table == table) (has_position view (key_at view.columns row) n) h).0))

pub position_here : (view : ByKeyView) (n table : ℕ) (row : Row) → is_positioned n table row view ≡ true → has_position view (key_at view.columns row) n ≡ true
position_here view n table row h = (two_yes (view.table == table) (has_position view (key_at view.columns row) n) h).1
