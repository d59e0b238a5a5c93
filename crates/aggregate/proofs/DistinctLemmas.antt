-- The groups' values, one row more at a time.
use Rattle.std.proofs.Common.{◌≡◌, ℕ, zero, suc, Bool, true, false, not, ◌||◌, List, [], ◌∷◌, ◌++◌, map, filter, take, set, Some, refl, sym, ap, ◌∙◌, if◌then◌else◌, true≢false, slice_get}
use Rattle.std.specs.List.{IsDistinct, AllByRecursion}
use Rattle.std.proofs.Math.Dec.{eqb-suc-zero}
use Rattle.std.proofs.lemmas.List.{map-append, append-nil}
use Rattle.indexmap.specs.IndexSet.{insert_key}
use Rattle.vt_value.specs.Values.{Row, same_row}
use Rattle.aggregate.specs.inner.Grouping.{has_row}
use Rattle.aggregate.specs.Groups.{distinct, of_group, group_keys}
use Rattle.aggregate.specs.inner.KeyLemmas.{same_row-equiv, same_row-same}

-- the others than x
abbrev others : Row → List Row → List Row
others x keys = filter (λ other. not (same_row x other)) keys

kept_by : (k x y : Row) (keys : List Row) (t : Bool) → same_row x y ≡ t → same_row k x ≡ false → has_row k (others x keys) ≡ has_row k keys →
    has_row k (if not t then y ∷ others x keys else others x keys) ≡ (same_row k y || has_row k keys)
kept_by k x y keys true e n ih = ih ∙ ap (λ (s : Bool). s || has_row k keys) (sym n ∙ ap (same_row k) (same_row-same x y e))
kept_by k x y keys false e n ih = ap (λ (s : Bool). same_row k y || s) ih

-- a key that isn't x is among the others where it is there
pub kept_any : (k x : Row) (keys : List Row) → same_row k x ≡ false → has_row k (others x keys) ≡ has_row k keys
kept_any k x [] n = refl
kept_any k x (y ∷ keys) n = kept_by k x y keys (same_row x y) refl n (kept_any k x keys n)

first_or : (k x : Row) (keys : List Row) (t : Bool) → same_row k x ≡ t → has_row k (distinct keys) ≡ has_row k keys →
    (t || has_row k (others x (distinct keys))) ≡ (t || has_row k keys)
first_or k x keys true e ih = refl
first_or k x keys false e ih = kept_any k x (distinct keys) e ∙ ih

pub has_distinct : (k : Row) (keys : List Row) → has_row k (distinct keys) ≡ has_row k keys
has_distinct k [] = refl
has_distinct k (x ∷ keys) = first_or k x keys (same_row k x) refl (has_distinct k keys)

-- a filter of a list with one more
more_by : {X : Type 0} (t : Bool) (x : X) (before after new : List X) → after ≡ before ++ new → (if t then x ∷ after else after) ≡ (if t then x ∷ before else before) ++ new
more_by true x before after new e = ap (λ r. x ∷ r) e
more_by false x before after new e = e

filter_push : (x k : Row) (keys : List Row) → others x (keys ++ k ∷ []) ≡ others x keys ++ (if not (same_row x k) then k ∷ [] else [])
filter_push x k [] = refl
filter_push x k (y ∷ keys) = more_by (not (same_row x y)) y (others x keys) (others x (keys ++ k ∷ [])) _ (filter_push x k keys)

pushed : (k x : Row) (keys : List Row) (u : Bool) → same_row k x ≡ u → others x (keys ++ k ∷ []) ≡ others x keys ++ (if not u then k ∷ [] else [])
pushed k x keys u e = filter_push x k keys ∙ ap (λ (s : Bool). others x keys ++ (if not s then k ∷ [] else [])) (same_row-equiv.symm x k ∙ e)

-- the first key, and the others of those with one more
inserted : (k x : Row) (keys : List Row) (u t : Bool) → same_row k x ≡ u → has_row k keys ≡ t →
    x ∷ others x (if t then keys else keys ++ k ∷ [])
    ≡ (if u || has_row k (others x keys) then x ∷ others x keys else x ∷ others x keys ++ k ∷ [])
inserted k x keys true true e h = refl
inserted k x keys true false e h = ap (λ r. x ∷ r) (pushed k x keys true e ∙ append-nil (others x keys))
inserted k x keys false true e h = ap (λ (s : Bool). if s then x ∷ others x keys else x ∷ others x keys ++ k ∷ []) (sym h ∙ sym (kept_any k x keys e))
inserted k x keys false false e h =
    ap (λ r. x ∷ r) (pushed k x keys false e)
    ∙ ap (λ (s : Bool). if s then x ∷ others x keys else x ∷ others x keys ++ k ∷ []) (sym h ∙ sym (kept_any k x keys e))

pub distinct_more : (keys : List Row) (k : Row) → distinct (keys ++ k ∷ []) ≡ insert_key same_row (distinct keys) k
distinct_more [] k = refl
distinct_more (x ∷ keys) k =
    ap (λ d. x ∷ others x d) (distinct_more keys k) ∙ inserted k x (distinct keys) (same_row k x) (has_row k (distinct keys)) refl refl

pub group_keys_more : (width : ℕ) (rows : List Row) (row : Row) → group_keys width (rows ++ row ∷ []) ≡ insert_key same_row (group_keys width rows) (take width row)
group_keys_more zero rows row = refl
group_keys_more (suc w) rows row =
    rw eqb-suc-zero (ap distinct (map-append (take (suc w)) rows (row ∷ [])) ∙ distinct_more (map (take (suc w)) rows) (take (suc w) row))

none_by : (k : Row) (w : ℕ) (row : Row) (rows : List Row) (t : Bool) → (t || has_row k (map (take w) rows)) ≡ false →
    (has_row k (map (take w) rows) ≡ false → of_group w k rows ≡ []) → (if t then row ∷ of_group w k rows else of_group w k rows) ≡ []
none_by k w row rows true e ih = absurd (true≢false e)
none_by k w row rows false e ih = ih e

pub none_of : (k : Row) (w : ℕ) (rows : List Row) → has_row k (map (take w) rows) ≡ false → of_group w k rows ≡ []
none_of k w [] h = refl
none_of k w (row ∷ rows) h = none_by k w row rows (same_row k (take w row)) h (none_of k w rows)

-- a group that isn't there has no rows
pub no_group : (width : ℕ) (rows : List Row) (row : Row) → has_row (take width row) (group_keys width rows) ≡ false → of_group width (take width row) rows ≡ []
no_group zero rows row h = absurd (true≢false h)
no_group (suc w) rows row h =
    none_of (take (suc w) row) (suc w) rows (sym (has_distinct (take (suc w) row) (map (take (suc w)) rows)) ∙ rw eqb-suc-zero at h)

push_by : (k : Row) (w : ℕ) (row : Row) (rows : List Row) → of_group w k (rows ++ row ∷ []) ≡ of_group w k rows ++ (if same_row k (take w row) then row ∷ [] else [])
push_by k w row [] = refl
push_by k w row (r ∷ rows) = more_by (same_row k (take w r)) r (of_group w k rows) (of_group w k (rows ++ row ∷ [])) _ (push_by k w row rows)

-- a row more is one of its own group, and of no other
pub of_group_more : (w : ℕ) (row : Row) (rows : List Row) → of_group w (take w row) (rows ++ row ∷ []) ≡ of_group w (take w row) rows ++ row ∷ []
of_group_more w row rows =
    push_by (take w row) w row rows ∙ ap (λ (t : Bool). of_group w (take w row) rows ++ (if t then row ∷ [] else [])) (same_row-equiv.refl (take w row))

pub of_group_stays : (w : ℕ) (k row : Row) (rows : List Row) → same_row k (take w row) ≡ false → of_group w k (rows ++ row ∷ []) ≡ of_group w k rows
of_group_stays w k row rows n =
    push_by k w row rows ∙ ap (λ (t : Bool). of_group w k rows ++ (if t then row ∷ [] else [])) n ∙ append-nil (of_group w k rows)

module _ {X : Type 0} (before after : Row → X) (k : Row) (stays : (q : Row) → same_row q k ≡ false → after q ≡ before q) where
  all_stay : (q : Row) (keys : List Row) → q ≡ k → AllByRecursion (λ other. same_row q other ≡ false) keys → map after keys ≡ map before keys
  all_stay q [] e h = refl
  all_stay q (y ∷ keys) e h =
      (λ i. stays y (ap (same_row y) (sym e) ∙ same_row-equiv.symm y q ∙ h.0) i ∷ all_stay q keys e h.1 i)

  other_key : (q : Row) (keys : List Row) (i : ℕ) → slice_get keys i ≡ Some k → AllByRecursion (λ other. same_row q other ≡ false) keys → same_row q k ≡ false
  other_key q [] i at h = cc
  other_key q (y ∷ keys) zero at h = let same : y ≡ k = cc in sym (ap (same_row q) same) ∙ h.0
  other_key q (y ∷ keys) (suc i) at h = other_key q keys i at h.1

  -- of distinct keys one changes
  pub one_changes : (keys : List Row) (i : ℕ) → slice_get keys i ≡ Some k → IsDistinct same_row keys → map after keys ≡ set (map before keys) i (after k)
  unfolding IsDistinct
  one_changes [] i at h = cc
  one_changes (q ∷ keys) zero at h = let same : q ≡ k = cc in (λ i. after (same i) ∷ all_stay q keys same h.0 i)
  one_changes (q ∷ keys) (suc i) at h = (λ j. stays q (other_key q keys i at h.0) j ∷ one_changes keys i at h.1 j)
