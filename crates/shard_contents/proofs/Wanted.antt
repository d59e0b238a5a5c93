-- The rows that a statement looks at, of those that changes leave.
use Rattle.std.proofs.Common.{◌≡◌, ℕ, ◌+◌, ◌<◌, ◌≤◌, Bool, true, false, cond, ◌||◌, List, [], ◌∷◌, ◌++◌, length, filter, map, refl, sym, ap, ◌∙◌, subst, arith, IsPermutation}
use Rattle.std.specs.List.{list_any}
use Rattle.std.proofs.lemmas.List.{length-append}
use Rattle.std.proofs.lemmas.List.Elements.{filter-append}
use Rattle.vt_value.specs.Values.{Row}
use Rattle.vschema.specs.declared.schema.Query.{Query}
use Rattle.vschema.specs.declared.changes.RowChange.{RowChange}
use Rattle.vschema.specs.declared.changes.RowChange.TheVariants.{Added, Replaced, Removed}
use Rattle.vschema.specs.Checks.{is_aggregated}
use Rattle.vschema.specs.Database.{Database, rows_of, same_row, without, applied, all_applied}
use Rattle.shard_store.specs.Conditions.{is_kept}
use Rattle.shard_store.specs.Queries.{Keyed, keyed_row, keyed_groups, kept_rows, IsAnswer}
use Rattle.shard_store.proofs.Rows.{filter-without_in, filter-without_out}
use Rattle.shard_law.proofs.Databases.{length-applied}
use Rattle.shard_contents.specs.inner.Stores.{row_after}
use Rattle.shard_contents.proofs.OneTable.{is_of, after_one, other_kept}

-- ---- lists that have the same of the wanted rows

module _ (p : Row → Bool) where
  pub added_same : (row : Row) (xs ys : List Row) → filter p xs ≡ filter p ys → filter p (xs ++ row ∷ []) ≡ filter p (ys ++ row ∷ [])
  added_same row xs ys e =
      filter-append p xs (row ∷ []) ∙ ap (λ (z : List Row). z ++ filter p (row ∷ [])) e ∙ sym (filter-append p ys (row ∷ []))

  pub without_same : (row : Row) (xs ys : List Row) → filter p xs ≡ filter p ys → filter p (without row xs) ≡ filter p (without row ys)
  without_same row xs ys e = by (p row) refl
    where
      by : (b : Bool) → p row ≡ b → filter p (without row xs) ≡ filter p (without row ys)
      by true t = filter-without_in p row t xs ∙ ap (without row) e ∙ sym (filter-without_in p row t ys)
      by false t = filter-without_out p row t xs ∙ e ∙ sym (filter-without_out p row t ys)

  pub after_same : (c : RowChange) (xs ys : List Row) → filter p xs ≡ filter p ys → filter p (row_after c xs) ≡ filter p (row_after c ys)
  after_same (Added n row) xs ys e = added_same row xs ys e
  after_same (Replaced n old new) xs ys e = added_same new (without old xs) (without old ys) (without_same old xs ys e)
  after_same (Removed n row) xs ys e = without_same row xs ys e

  append_nothing : (xs : List Row) → xs ++ [] ≡ xs
  append_nothing [] = refl
  append_nothing (x ∷ xs) = ap (λ (z : List Row). x ∷ z) (append_nothing xs)

  -- a row that isn't wanted
  pub unwanted_added : (row : Row) (xs : List Row) → p row ≡ false → filter p xs ≡ filter p (xs ++ row ∷ [])
  unwanted_added row xs h =
      sym (filter-append p xs (row ∷ []) ∙ ap (λ b. filter p xs ++ cond b (row ∷ []) []) h ∙ append_nothing (filter p xs))

  pub unwanted_removed : (row : Row) (xs : List Row) → p row ≡ false → filter p xs ≡ filter p (without row xs)
  unwanted_removed row xs h = sym (filter-without_out p row h xs)

-- ---- answers

kept_same : (q : Query) (xs ys : List Row) → filter (is_kept q.filter) xs ≡ filter (is_kept q.filter) ys → kept_rows q xs ≡ kept_rows q ys
kept_same q xs ys e = ap (λ (rows : List Row). cond (is_aggregated q) (keyed_groups q rows) (map (keyed_row q) rows)) e

-- an answer over rows is one over others of which the same are kept
pub answer_same : (q : Query) (xs ys list : List Row) → filter (is_kept q.filter) xs ≡ filter (is_kept q.filter) ys → IsAnswer q xs list → IsAnswer q ys list
answer_same q xs ys list e (arranged, all, sorted, is) =
    (arranged, subst (λ (rows : List Keyed). IsPermutation rows arranged) (kept_same q xs ys e) all, sorted, is)

-- ---- keys

turned_over : (a b c : Bool) → ((a || b) || c) ≡ (a || (b || c))
turned_over true b c = refl
turned_over false b c = refl

module _ (f : Row → Row → Bool) where
  abbrev pub any_of : List Row → Row → Bool
  any_of new x = list_any (λ n. f n x) new

  abbrev pub any_pair : List Row → List Row → Bool
  any_pair xs new = list_any (λ n. list_any (f n) xs) new

  -- whether a row is wanted tells whether there is one that passes
  pub any_wanted : (xs ys new : List Row) → filter (any_of new) xs ≡ filter (any_of new) ys → any_pair xs new ≡ any_pair ys new
  any_wanted xs ys new e = whole new (λ n x h. h) e
    where
      found : (n : Row) (p : Row → Bool) → ((x : Row) → f n x ≡ true → p x ≡ true) → (xs : List Row) → list_any (f n) (filter p xs) ≡ list_any (f n) xs
      found n p h xs = Rattle.shard_store.proofs.Overlaid.any_kept (f n) p h xs

      either : (a b : Bool) → b ≡ true → (a || b) ≡ true
      either true b h = refl
      either false b h = h

      one : (n : Row) (new : List Row) (x : Row) → f n x ≡ true → any_of (n ∷ new) x ≡ true
      one n new x h = ap (λ b. b || any_of new x) h

      whole : (some : List Row) → ((n : Row) (x : Row) → any_of some x ≡ true → any_of new x ≡ true)
          → filter (any_of new) xs ≡ filter (any_of new) ys → any_pair xs some ≡ any_pair ys some
      whole [] h e = refl
      whole (n ∷ some) h e =
          let here : list_any (f n) xs ≡ list_any (f n) ys =
          sym (found n (any_of new) (λ x t. h n x (one n some x t)) xs) ∙ ap (list_any (f n)) e ∙ found n (any_of new) (λ x t. h n x (one n some x t)) ys in
          let rest = whole some (λ m x t. h m x (either (f n x) (any_of some x) t)) e in
          ap (λ b. b || any_pair xs some) here ∙ ap (λ b. list_any (f n) ys || b) rest

-- ---- lengths

shorter : (row : Row) (xs : List Row) → length (without row xs) ≤ length xs
shorter row [] = omega arith
shorter row (x ∷ xs) = by (shorter row xs) (same_row row x) refl
  where
    by : length (without row xs) ≤ length xs → (b : Bool) → same_row row x ≡ b → length (without row (x ∷ xs)) ≤ length (x ∷ xs)
    by ih true t = simp t (omega arith)
    by ih false t = simp t (omega (arith, ih))

one_longer : (c : RowChange) (xs : List Row) → length (row_after c xs) ≤ length xs + 1
one_longer (Added n row) xs = let e = length-append xs (row ∷ []) in omega (arith, e)
one_longer (Replaced n old new) xs =
    let e = length-append (without old xs) (new ∷ []) in
    let s = shorter old xs in
    omega (arith, e, s)
one_longer (Removed n row) xs = let s = shorter row xs in omega (arith, s)

-- a table has at most one row more for each change
pub longer : (changes : List RowChange) (db : Database) (n : ℕ) → n < length db
    → length (rows_of (all_applied changes db) n) ≤ length (rows_of db n) + length changes
longer [] db n there = omega arith
longer (c ∷ changes) db n there =
    by (is_of n c) refl (longer changes (applied c db) n (subst (λ k. n < k) (sym (length-applied c db)) there))
  where
    by : (b : Bool) → is_of n c ≡ b → length (rows_of (all_applied changes (applied c db)) n) ≤ length (rows_of (applied c db) n) + length changes
        → length (rows_of (all_applied (c ∷ changes) db) n) ≤ length (rows_of db n) + length (c ∷ changes)
    by true t rest =
        let e = ap length (after_one c db n there t) in
        let s = one_longer c (rows_of db n) in
        omega (arith, rest, e, s)
    by false t rest =
        let e = ap length (other_kept c db n t) in
        omega (arith, rest, e)
