-- The pairs that a condition keeps, of the first rows that can have such pairs.
use Rattle.std.proofs.Common.{◌≡◌, ℕ, ◌+◌, ◌<◌, Bool, true, false, ◌&&◌, cond, nat_lt, List, [], ◌∷◌, ◌++◌, map, filter, IsPermutation, Option, Some, None, Bor, refl, sym, ap, ◌∙◌, subst, arith}
use Rattle.std.proofs.lemmas.Bool.{false≢true, ltb-true}
use Rattle.std.specs.List.{AllByRecursion, list_all}
use Rattle.std.proofs.lemmas.List.Elements.{filter-append, All-from_recursion, recursion_from_All}
use Rattle.std.proofs.lemmas.List.Sorted.{IsPermutation-refl, IsPermutation-sym, All-permutation, length_permutation}
use Rattle.std.specs.Ordering.{is_eq}
use Rattle.vt_value.specs.declared.value.Value.{Value}
use Rattle.vt_value.specs.declared.value.Value.TheVariants.{Null}
use Rattle.vt_value.specs.declared.value.Comparison.TheVariants.{Eq}
use Rattle.vt_value.specs.Values.{Row, value_at, compare, is_true}
use Rattle.sql_tree.specs.declared.Condition.{Condition}
use Rattle.sql_eval.specs.Join.{Join}
use Rattle.sql_eval.specs.Query.{Query}
use Rattle.sql_eval.specs.Checks.{is_aggregated}
use Rattle.sql_eval.specs.Sources.{is_pair, paired, pairs_of}
use Rattle.sql_eval.specs.Conditions.{is_kept}
use Rattle.sql_eval.specs.Queries.{Keyed, keyed_row, keyed_groups, kept_rows, IsAnswer}
use Rattle.sql_eval.proofs.PairValues.{left_at, right_at}
use Rattle.shard_store.specs.Slots.{rows_in}
use Rattle.shard_store.specs.Tables.{TableView, key_at}
use Rattle.key_intervals.specs.Conjuncts.{passes}
use Rattle.shard_store.specs.inner.Joined.{has_value, StoredBy, stored_rows, stored_with, rows_lent}
use Rattle.sql_eval.specs.Groups.{CanBeSummed}
use Rattle.sql_eval.proofs.DistinctRows.{filter_true}
use Rattle.sql_eval.proofs.Pairs.{pairs_permuted}
use Rattle.key_intervals.proofs.FixedLemmas.{same_cmp}
use Rattle.shard_store.proofs.KeptRows.{filter_twice}

pub no_seconds : (j : Join) (firsts : List Row) → pairs_of j firsts [] ≡ []
no_seconds j [] = refl
no_seconds j (a ∷ firsts) = no_seconds j firsts

none_kept : (k : Row → Bool) (j : Join) (a : Row) → ((b : Row) → is_pair j a b ≡ true → k (paired j a b) ≡ false) → (seconds : List Row)
    → filter k (map (paired j a) (filter (is_pair j a) seconds)) ≡ []
none_kept k j a h [] = refl
none_kept k j a h (b ∷ seconds) = by (none_kept k j a h seconds) (is_pair j a b) refl
  where
    by : filter k (map (paired j a) (filter (is_pair j a) seconds)) ≡ [] → (t : Bool) → is_pair j a b ≡ t
        → filter k (map (paired j a) (cond (is_pair j a b) (b ∷ filter (is_pair j a) seconds) (filter (is_pair j a) seconds))) ≡ []
    by ih true e = let out = h b e in simp (e, out, ih)
    by ih false e = simp (e, ih)

-- no pair is lost with first rows that have none that is kept
pub kept_of_firsts : (k p : Row → Bool) (j : Join) → ((a b : Row) → is_pair j a b ≡ true → k (paired j a b) ≡ true → p a ≡ true) → (firsts seconds : List Row)
    → filter k (pairs_of j (filter p firsts) seconds) ≡ filter k (pairs_of j firsts seconds)
kept_of_firsts k p j h [] seconds = refl
kept_of_firsts k p j h (a ∷ firsts) seconds = by (kept_of_firsts k p j h firsts seconds) (p a) refl
  where
    here : List Row
    here = map (paired j a) (filter (is_pair j a) seconds)

    out : p a ≡ false → (b : Row) → is_pair j a b ≡ true → k (paired j a b) ≡ false
    out e b pair = which (k (paired j a b)) refl
      where
        which : (t : Bool) → k (paired j a b) ≡ t → t ≡ false
        which true t = absurd (false≢true (sym e ∙ h a b pair t))
        which false t = refl

    by : filter k (pairs_of j (filter p firsts) seconds) ≡ filter k (pairs_of j firsts seconds) → (t : Bool) → p a ≡ t
        → filter k (pairs_of j (cond (p a) (a ∷ filter p firsts) (filter p firsts)) seconds)
        ≡ filter k (map (paired j a) (filter (is_pair j a) seconds) ++ pairs_of j firsts seconds)
    by ih true e =
        rw e (filter-append k (map (paired j a) (filter (is_pair j a) seconds)) (pairs_of j (filter p firsts) seconds)
        ∙ ap (λ (l : List Row). filter k (map (paired j a) (filter (is_pair j a) seconds)) ++ l) ih
        ∙ sym (filter-append k (map (paired j a) (filter (is_pair j a) seconds)) (pairs_of j firsts seconds)))
    by ih false e =
        rw e (ih ∙ ap (λ (l : List Row). l ++ filter k (pairs_of j firsts seconds)) (sym (none_kept k j a (out e) seconds))
        ∙ sym (filter-append k (map (paired j a) (filter (is_pair j a) seconds)) (pairs_of j firsts seconds)))

pub kept_of_chosen : (k p : Row → Bool) (j : Join) → ((a b : Row) → is_pair j a b ≡ true → k (paired j a b) ≡ true → p a ≡ true)
    → (chosen rows others seconds : List Row) → chosen ≡ filter p rows
    → filter k (pairs_of j (chosen ++ others) seconds) ≡ filter k (pairs_of j (rows ++ others) seconds)
kept_of_chosen k p j h chosen rows others seconds is =
    sym (kept_of_firsts k p j h (chosen ++ others) seconds) ∙ ap (λ (l : List Row). filter k (pairs_of j l seconds)) same
    ∙ kept_of_firsts k p j h (rows ++ others) seconds
  where
    same : filter p (chosen ++ others) ≡ filter p (rows ++ others)
    same =
        filter-append p chosen others ∙ ap (λ (l : List Row). l ++ filter p others) (ap (filter p) is ∙ filter_twice p rows)
        ∙ sym (filter-append p rows others)

-- the pairs of a permutation of the second rows
pub seconds_permuted : (j : Join) (firsts us vs : List Row) → IsPermutation us vs → IsPermutation (pairs_of j firsts us) (pairs_of j firsts vs)
seconds_permuted j firsts us vs same = pairs_permuted j firsts firsts us vs (IsPermutation-refl firsts) same

all_permuted : (P : Row → Type 0) (xs ys : List Row) → IsPermutation xs ys → AllByRecursion P ys → AllByRecursion P xs
all_permuted P xs ys same all = recursion_from_All P xs (All-permutation P ys xs (IsPermutation-sym xs ys same) (All-from_recursion P ys all))

pub summed_permuted : (xs ys : List Row) → IsPermutation xs ys → CanBeSummed ys → CanBeSummed xs
summed_permuted xs ys same (few, all) =
    let n = length_permutation xs ys same in
    (omega (arith, n, few), all_permuted _ xs ys same all)

-- without conditions of its own, each first row passes
pub all_pass : (j : Join) (own : List (Bor (Condition ℕ))) (firsts seconds rows : List Row) → rows ≡ pairs_of j (filter (passes own) firsts) seconds → own ≡ []
    → rows ≡ pairs_of j firsts seconds
all_pass j own firsts seconds rows is none =
    is ∙ ap (λ (own : List (Bor (Condition ℕ))). pairs_of j (filter (passes own) firsts) seconds) none
    ∙ ap (λ (l : List Row). pairs_of j l seconds) (filter_true firsts)

-- an answer sees only the rows that are kept
pub answer_of_same_kept : (q : Query) (xs ys list : List Row) → filter (is_kept q.filter) xs ≡ filter (is_kept q.filter) ys → IsAnswer q xs list → IsAnswer q ys list
answer_of_same_kept q xs ys list same (arranged, all, sorted, is) =
    (arranged, subst (λ (l : List Keyed). IsPermutation l arranged) kept all, sorted, is)
  where
    kept : kept_rows q xs ≡ kept_rows q ys
    kept = ap (λ (rows : List Row). cond (is_aggregated q) (keyed_groups q rows) (map (keyed_row q) rows)) same

-- an answer over the pairs of the first rows that pass is one over all pairs
pub answer_of_firsts : (q : Query) (j : Join) (own : Row → Bool) (firsts seconds rows list : List Row) → rows ≡ pairs_of j (filter own firsts) seconds
    → ((a b : Row) → is_kept q.filter (paired j a b) ≡ true → own a ≡ true) → IsAnswer q rows list → IsAnswer q (pairs_of j firsts seconds) list
answer_of_firsts q j own firsts seconds rows list is passed answer =
    answer_of_same_kept q rows (pairs_of j firsts seconds) list
    (ap (filter (is_kept q.filter)) is ∙ kept_of_firsts (is_kept q.filter) own j (λ a b pair kept. passed a b kept) firsts seconds) answer

-- rows are found by their value among those in slots and among the others
pub all_found : (column : ℕ) (v : Value) (stored : Option (Bor TableView)) (sorted others : List (Bor Row)) (slots : List Row) → StoredBy column stored
    → slots ≡ stored_with v stored → rows_lent others ≡ filter (has_value column v) (rows_lent sorted)
    → slots ++ rows_lent others ≡ filter (has_value column v) (stored_rows stored ++ rows_lent sorted)
all_found column v stored sorted others slots by is more =
    (λ i. is i ++ more i) ∙ ap (λ (l : List Row). l ++ filter (has_value column v) (rows_lent sorted)) (here stored by)
    ∙ sym (filter-append (has_value column v) (stored_rows stored) (rows_lent sorted))
  where
    here : (stored : Option (Bor TableView)) → StoredBy column stored → stored_with v stored ≡ filter (has_value column v) (stored_rows stored)
    here None by = refl
    here (Some t) by = ap (λ n. filter (has_value n v) (rows_in t.now.slots)) by.1

-- ---- the columns of ON

-- the second row of a pair has the value of the first
pub partner_has : (j : Join) (c : ℕ) (a b : Row) → j.first < j.width → j.second ≡ j.width + c → is_pair j a b ≡ true → has_value c (value_at a j.first) b ≡ true
partner_has j c a b first second pair =
    let e : is_true (compare Eq (value_at a j.first) (value_at b c)) ≡ true =
    subst (λ (v : Value). is_true (compare Eq (value_at a j.first) v) ≡ true) (right_at j.width a b c j.second second)
    (subst (λ (v : Value). is_true (compare Eq v (value_at (paired j a b) j.second)) ≡ true) (left_at j.width a b j.first first) pair) in
    ap is_eq (same_cmp (value_at a j.first) (value_at b c) e)

-- NULL is a pair with nothing
pub null_is_alone : (j : Join) (a : Row) → j.first < j.width → value_at a j.first ≡ Null → (rows : List Row) → [] ≡ filter (is_pair j a) rows
null_is_alone j a first null [] = refl
null_is_alone j a first null (b ∷ rows) =
    let value : value_at (paired j a b) j.first ≡ Null = left_at j.width a b j.first first ∙ null in
    let alone : is_pair j a b ≡ false = ap (λ (v : Value). is_true (compare Eq v (value_at (paired j a b) j.second))) value in
    rw alone (null_is_alone j a first null rows)

-- the key of a pair is that of its first row, if its columns are all that row's
pub key_of_first : (j : Join) (a b : Row) (cs : List ℕ) → list_all (λ n. nat_lt n j.width) cs ≡ true → key_at cs (paired j a b) ≡ key_at cs a
key_of_first j a b [] h = refl
key_of_first j a b (c ∷ cs) h = by (key_of_first j a b cs) (nat_lt c j.width) refl h
  where
    by : (list_all (λ n. nat_lt n j.width) cs ≡ true → key_at cs (paired j a b) ≡ key_at cs a) → (t : Bool) → nat_lt c j.width ≡ t
        → (nat_lt c j.width && list_all (λ n. nat_lt n j.width) cs) ≡ true → key_at (c ∷ cs) (paired j a b) ≡ key_at (c ∷ cs) a
    by ih true e g =
        let rest : list_all (λ n. nat_lt n j.width) cs ≡ true = sym (ap (λ t. t && list_all (λ n. nat_lt n j.width) cs) e) ∙ g in
        let first : value_at (paired j a b) c ≡ value_at a c = left_at j.width a b c (ltb-true c j.width e) in
        let others : key_at cs (paired j a b) ≡ key_at cs a = ih rest in
        (λ i. first i ∷ others i)
    by ih false e g = absurd (false≢true (sym (ap (λ t. t && list_all (λ n. nat_lt n j.width) cs) e) ∙ g))
