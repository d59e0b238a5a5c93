-- What is read of the rows that a condition keeps, or of those that have a key, is what is read of all rows.
use Rattle.std.proofs.Common.{◌≡◌, ℕ, zero, suc, ◌+◌, ◌<◌, ◌≤◌, Bool, true, false, cond, ◌||◌, List, [], ◌∷◌, ◌++◌, length, get_or, map, filter, flat_map, take, Ok, Err, Option, refl, sym, ap, ◌∙◌, subst, arith}
use Rattle.std.specs.Prelude.{sum_by}
use Rattle.std.specs.List.{list_any}
use Rattle.std.proofs.lemmas.Bool.{false≢true}
use Rattle.std.proofs.lemmas.List.Sums.{sum_by-cons}
use Rattle.vt_value.specs.Values.{Row}
use Rattle.vt_value.specs.declared.refusal.Refusal.TheVariants.{DuplicateKey}
use Rattle.sql_tree.specs.declared.Assignment.{Assignment}
use Rattle.sql_tree.specs.declared.Condition.{Condition}
use Rattle.sql_eval.specs.Query.{Query}
use Rattle.sql_eval.specs.Table.{Table}
use Rattle.sql_eval.specs.Write.{Write}
use Rattle.sql_eval.specs.Write.TheVariants.{Insert, Update, Delete}
use Rattle.sql_eval.specs.RowChange.{RowChange}
use Rattle.sql_eval.specs.RowChange.TheVariants.{Added, Replaced, Removed}
use Rattle.sql_eval.specs.Schema.{key_of}
use Rattle.sql_eval.specs.Checks.{is_aggregated}
use Rattle.sql_eval.specs.Database.{Database, same_row}
use Rattle.sql_eval.specs.Conditions.{is_kept}
use Rattle.sql_eval.specs.Queries.{keyed_row, keyed_groups, kept_rows, IsAnswer}
use Rattle.sql_eval.specs.Writes.{has_duplicate, assigned, row_updates, changes_over}
use Rattle.sql_eval.proofs.RowLemmas.{has_key}
use Rattle.shard_store.specs.Tables.{key_at}
use Rattle.shard_store.specs.Stores.{RowsView}

-- ---- conditions

pub filter_weaker : {X : Type 0} (p q : X → Bool) → ((x : X) → p x ≡ true → q x ≡ true) → (xs : List X) → filter p (filter q xs) ≡ filter p xs
filter_weaker p q h [] = refl
filter_weaker p q h (x ∷ xs) = by (filter_weaker p q h xs) (q x) refl (p x) refl
  where
    by : filter p (filter q xs) ≡ filter p xs → (b : Bool) → q x ≡ b → (d : Bool) → p x ≡ d
        → filter p (cond (q x) (x ∷ filter q xs) (filter q xs)) ≡ cond (p x) (x ∷ filter p xs) (filter p xs)
    by ih true t true u = simp (t, u, ih)
    by ih true t false u = simp (t, u, ih)
    by ih false t true u = absurd (false≢true (sym t ∙ h x u))
    by ih false t false u = simp (t, u, ih)

-- tests that are the same of what is kept keep the same of it
pub filter_alike : {X : Type 0} (k p q : X → Bool) → ((x : X) → k x ≡ true → p x ≡ q x) → (xs : List X) → filter k (filter p xs) ≡ filter k (filter q xs)
filter_alike k p q h [] = refl
filter_alike {X = X} k p q h (x ∷ xs) = by (k x) refl (p x) refl (q x) refl (filter_alike k p q h xs)
  where
    by : (a : Bool) → k x ≡ a → (b : Bool) → p x ≡ b → (c : Bool) → q x ≡ c → filter k (filter p xs) ≡ filter k (filter q xs)
        → filter k (cond (p x) (x ∷ filter p xs) (filter p xs)) ≡ filter k (cond (q x) (x ∷ filter q xs) (filter q xs))
    by a s true t true u ih = rw (t, u) (ap (λ (l : List X). cond (k x) (x ∷ l) l) ih)
    by a s false t false u ih = rw (t, u) ih
    by true s true t false u ih = absurd (false≢true (sym u ∙ sym (h x s) ∙ t))
    by true s false t true u ih = absurd (false≢true (sym t ∙ h x s ∙ u))
    by false s true t false u ih = rw (t, u, s) ih
    by false s false t true u ih = rw (t, u, s) ih

pub filter_twice : {X : Type 0} (p : X → Bool) (xs : List X) → filter p (filter p xs) ≡ filter p xs
filter_twice p xs = filter_weaker p p (λ x e. e) xs

kept_twice : (q : Query) (rows : List Row) → kept_rows q (filter (is_kept q.filter) rows) ≡ kept_rows q rows
kept_twice q rows =
    ap (λ (xs : List Row). cond (is_aggregated q) (keyed_groups q xs) (map (keyed_row q) xs)) (filter_twice (is_kept q.filter) rows)

pub answer_of_kept : (q : Query) (rows list : List Row) → IsAnswer q (filter (is_kept q.filter) rows) list → IsAnswer q rows list
answer_of_kept q rows list (arranged, all, sorted, is) =
    (arranged, subst (λ l. Rattle.std.proofs.Common.IsPermutation l arranged) (kept_twice q rows) all, sorted, is)

updates_kept : (n : ℕ) (assignments : List (Assignment ℕ)) (condition : Option (Condition ℕ)) (rows : List Row)
    → flat_map (row_updates n assignments condition) (filter (is_kept condition) rows) ≡ flat_map (row_updates n assignments condition) rows
updates_kept n assignments condition [] = refl
updates_kept n assignments condition (row ∷ rows) = by (updates_kept n assignments condition rows) (is_kept condition row) refl
  where
    by : flat_map (row_updates n assignments condition) (filter (is_kept condition) rows) ≡ flat_map (row_updates n assignments condition) rows
        → (b : Bool) → is_kept condition row ≡ b
        → flat_map (row_updates n assignments condition) (filter (is_kept condition) (row ∷ rows)) ≡ flat_map (row_updates n assignments condition) (row ∷ rows)
    by ih true t = simp t (ap (λ (l : List RowChange). cond (same_row row (assigned assignments row)) [] (Replaced n row (assigned assignments row) ∷ []) ++ l) ih)
    by ih false t = simp t ih

-- rows of which the same are kept get the same updates
pub updates_alike : (n : ℕ) (assignments : List (Assignment ℕ)) (condition : Option (Condition ℕ)) (rows others : List Row) → filter (is_kept condition) rows ≡ filter (is_kept condition) others
    → flat_map (row_updates n assignments condition) rows ≡ flat_map (row_updates n assignments condition) others
updates_alike n assignments condition rows others same =
    sym (updates_kept n assignments condition rows) ∙ (ap (flat_map (row_updates n assignments condition)) same ∙ updates_kept n assignments condition others)

pub update_of_kept : (t : Table) (w : Write) (n : ℕ) (assignments : List (Assignment ℕ)) (condition : Option (Condition ℕ)) → w ≡ Update n assignments condition
    → (rows : List Row) → changes_over t w (filter (is_kept condition) rows) ≡ changes_over t w rows
update_of_kept t w n assignments condition is rows =
    subst (λ (w : Write). changes_over t w (filter (is_kept condition) rows) ≡ changes_over t w rows) (sym is) (ap Ok (updates_kept n assignments condition rows))

pub delete_of_kept : (t : Table) (w : Write) (n : ℕ) (condition : Option (Condition ℕ)) → w ≡ Delete n condition
    → (rows : List Row) → changes_over t w (filter (is_kept condition) rows) ≡ changes_over t w rows
delete_of_kept t w n condition is rows =
    subst (λ (w : Write). changes_over t w (filter (is_kept condition) rows) ≡ changes_over t w rows) (sym is)
    (ap (λ (l : List Row). Ok (map (Removed n) l)) (filter_twice (is_kept condition) rows))

-- ---- new rows

abbrev any_key : Table → List Row → List Row → Bool
any_key t rows new = list_any (λ n. list_any (λ r. same_row (key_of t n) (key_of t r)) rows) new

or_assoc : (a b c d : Bool) → ((a || b) || (c || d)) ≡ ((a || c) || (b || d))
or_assoc true b true d = refl
or_assoc true b false d = refl
or_assoc false true true d = refl
or_assoc false true false d = refl
or_assoc false false c d = refl

-- the rows, and the new rows before
pub duplicates_split : (t : Table) (rows seen new : List Row) → has_duplicate t (seen ++ rows) new ≡ (any_key t rows new || has_duplicate t seen new)
duplicates_split t rows seen [] = refl
duplicates_split t rows seen (n ∷ new) =
    ap (λ z. z || has_duplicate t (n ∷ (seen ++ rows)) new) (Rattle.sql_eval.proofs.RowLemmas.has_key-append t seen rows n ∙ turn (has_key t seen n) (has_key t rows n))
    ∙ (ap (λ z. (has_key t rows n || has_key t seen n) || z) (duplicates_split t rows (n ∷ seen) new)
    ∙ or_assoc (has_key t rows n) (has_key t seen n) (any_key t rows new) (has_duplicate t (n ∷ seen) new))
  where
    turn : (a b : Bool) → (a || b) ≡ (b || a)
    turn true true = refl
    turn true false = refl
    turn false true = refl
    turn false false = refl

module _ (t : Table) (w : Write) (n : ℕ) (new rows : List Row) (is : w ≡ Insert n new) where
  pub insert_refused : list_any (λ m. list_any (λ r. same_row (key_of t m) (key_of t r)) rows) new ≡ true → changes_over t w rows ≡ Err DuplicateKey
  insert_refused any =
      let e : has_duplicate t rows new ≡ true = duplicates_split t rows [] new ∙ ap (λ z. z || has_duplicate t [] new) any in
      ap (λ (x : Write). changes_over t x rows) is ∙ ap (λ b. cond b (Err DuplicateKey) (Ok (map (Added n) new))) e

  pub insert_of_none : list_any (λ m. list_any (λ r. same_row (key_of t m) (key_of t r)) rows) new ≡ false → changes_over t w [] ≡ changes_over t w rows
  insert_of_none none =
      let e : has_duplicate t rows new ≡ has_duplicate t [] new = duplicates_split t rows [] new ∙ ap (λ z. z || has_duplicate t [] new) none in
      ap (λ (x : Write). changes_over t x []) is ∙ ap (λ b. cond b (Err DuplicateKey) (Ok (map (Added n) new))) (sym e)
      ∙ sym (ap (λ (x : Write). changes_over t x rows) is)

pub none_any : {X : Type 0} (f : X → Bool) → ((x : X) → f x ≡ false) → (xs : List X) → list_any f xs ≡ false
none_any f h [] = refl
none_any f h (x ∷ xs) = ap (λ b. b || list_any f xs) (h x) ∙ none_any f h xs

-- the rows with a key, by the places of the stored keys
pub keys_same : (ordinals : List ℕ) (t : Table) (row : Row) (values : Row) → values ≡ key_at ordinals row
    → ((a b : Row) → same_row (key_at ordinals a) (key_at ordinals b) ≡ same_row (key_of t a) (key_of t b))
    → (xs : List Row) → list_any (Rattle.shard_store.specs.Tables.has_key ordinals values) xs ≡ list_any (λ r. same_row (key_of t row) (key_of t r)) xs
keys_same ordinals t row values at h [] = refl
keys_same ordinals t row values at h (x ∷ xs) =
    ap (λ b. b || list_any (Rattle.shard_store.specs.Tables.has_key ordinals values) xs) (ap (λ vs. same_row vs (key_at ordinals x)) at ∙ h row x)
    ∙ ap (λ b. same_row (key_of t row) (key_of t x) || b) (keys_same ordinals t row values at h xs)

pub nil_of : {X : Type 0} (xs : List X) (n : ℕ) → n ≡ length xs → n ≡ 0 → xs ≡ []
nil_of [] n e z = refl
nil_of (x ∷ xs) n e z = absurd (omega (arith, e, z))

-- ---- counts

pub sum_next : (ts : List RowsView) (db : Database) (i : ℕ) (t : RowsView) → map (λ (u : RowsView). u.rows) ts ≡ db → i < length ts → t ≡ get_or ts i t
    → sum_by length (take (i + 1) db) ≡ sum_by length (take i db) + length t.rows
sum_next ts db i t is l e = subst (λ (d : Database). sum_by length (take (i + 1) d) ≡ sum_by length (take i d) + length t.rows) is (at ts i l e)
  where
    at : (ts : List RowsView) (i : ℕ) → i < length ts → t ≡ get_or ts i t
        → sum_by length (take (i + 1) (map (λ (u : RowsView). u.rows) ts)) ≡ sum_by length (take i (map (λ (u : RowsView). u.rows) ts)) + length t.rows
    at [] i l e = absurd (omega (arith, l))
    at (u ∷ ts) zero l e =
        let h = sum_by-cons length u.rows [] in
        let g = ap (λ (x : RowsView). length x.rows) e in
        omega (arith, h, g)
    at (u ∷ ts) (suc i) l e =
        let h = sum_by-cons length u.rows (take (i + 1) (map (λ (u : RowsView). u.rows) ts)) in
        let g = sum_by-cons length u.rows (take i (map (λ (u : RowsView). u.rows) ts)) in
        let rest = at ts i (omega (arith, l)) e in
        let same : suc i + 1 ≡ suc (i + 1) = omega arith in
        subst (λ k. sum_by length (take k (map (λ (u : RowsView). u.rows) (u ∷ ts))) ≡ sum_by length (take (suc i) (map (λ (u : RowsView). u.rows) (u ∷ ts))) + length t.rows) (sym same)
        (omega (arith, h, g, rest))

pub sum_front : (db : Database) (i : ℕ) → sum_by length (take i db) ≤ sum_by length db
sum_front [] zero = omega arith
sum_front [] (suc i) = omega arith
sum_front (rows ∷ db) zero = omega arith
sum_front (rows ∷ db) (suc i) =
    let h = sum_by-cons length rows (take i db) in
    let g = sum_by-cons length rows db in
    let rest = sum_front db i in
    omega (arith, h, g, rest)
