-- What changes do to the rows of one table: those on other tables nothing, and else what they do to its rows alone.
use Rattle.std.proofs.Common.{take, ◌≡◌, ◌≢◌, ℕ, ◌+◌, ◌<◌, ◌≤◌, Bool, true, false, ◌||◌, ◌==◌, List, [], ◌∷◌, ◌++◌, length, get_or, flat_map, refl, sym, ap, ◌∙◌, subst, arith}
use Rattle.std.specs.Prelude.{nat_lt}
use Rattle.std.specs.List.{list_any}
use Rattle.std.proofs.lemmas.Bool.{eqb-false, eqb-true, true≢false, ltb-true, ltb-false}
use Rattle.std.proofs.lemmas.List.{get_or-set_other, get_or-set_same, get_or_past, take_more}
use Rattle.std.proofs.lemmas.List.Folds.{list_any-append}
use Rattle.vschema.specs.declared.changes.RowChange.{RowChange}
use Rattle.vschema.specs.declared.changes.RowChange.TheVariants.{Added, Replaced, Removed}
use Rattle.vschema.specs.Database.{Database, rows_of, without, applied, all_applied, changed_table}
use Rattle.shard_law.proofs.Databases.{length-applied, length-all_applied}
use Rattle.shard_contents.specs.inner.Stores.{row_after}
use Rattle.shard_contents.proofs.Commits.{applied-append}
use Rattle.shard_contents.proofs.Counts.{one_applied}

pub no_or : (a b : Bool) → (a || b) ≡ false → (a ≡ false) × (b ≡ false)
no_or true b h = absurd (true≢false h)
no_or false b h = (refl, h)

abbrev pub is_of : ℕ → RowChange → Bool
is_of n c = changed_table c == n

not_equal : (m n : ℕ) → (m == n) ≡ false → n ≢ m
not_equal m n h e = eqb-false m n h (sym e)

pub other_kept : (c : RowChange) (db : Database) (n : ℕ) → is_of n c ≡ false → rows_of (applied c db) n ≡ rows_of db n
other_kept (Added m row) db n h = get_or-set_other db m n (get_or db m [] ++ row ∷ []) [] (not_equal m n h)
other_kept (Replaced m old new) db n h = get_or-set_other db m n (without old (get_or db m []) ++ new ∷ []) [] (not_equal m n h)
other_kept (Removed m row) db n h = get_or-set_other db m n (without row (get_or db m [])) [] (not_equal m n h)

-- changes of other tables leave the rows of this one
pub others_kept : (changes : List RowChange) (db : Database) (n : ℕ) → list_any (is_of n) changes ≡ false → rows_of (all_applied changes db) n ≡ rows_of db n
others_kept [] db n h = refl
others_kept (c ∷ changes) db n h =
    let p = no_or (is_of n c) (list_any (is_of n) changes) h in
    others_kept changes (applied c db) n p.1 ∙ other_kept c db n p.0

pub after_one : (c : RowChange) (db : Database) (n : ℕ) → n < length db → is_of n c ≡ true → rows_of (applied c db) n ≡ row_after c (rows_of db n)
after_one c db n there e =
    ap (λ d. rows_of d n) (one_applied c db n (eqb-true (changed_table c) n e)) ∙ get_or-set_same db n (row_after c (get_or db n [])) [] there

same_after_one : (c : RowChange) (a b : Database) (n : ℕ) → n < length a → n < length b → rows_of a n ≡ rows_of b n
    → rows_of (applied c a) n ≡ rows_of (applied c b) n
same_after_one c a b n in_a in_b same = by (is_of n c) refl
  where
    by : (d : Bool) → is_of n c ≡ d → rows_of (applied c a) n ≡ rows_of (applied c b) n
    by true e = after_one c a n in_a e ∙ ap (row_after c) same ∙ sym (after_one c b n in_b e)
    by false e = other_kept c a n e ∙ same ∙ sym (other_kept c b n e)

same_within : (changes : List RowChange) (a b : Database) (n : ℕ) → n < length a → n < length b → rows_of a n ≡ rows_of b n
    → rows_of (all_applied changes a) n ≡ rows_of (all_applied changes b) n
same_within [] a b n in_a in_b same = same
same_within (c ∷ changes) a b n in_a in_b same =
    same_within changes (applied c a) (applied c b) n (subst (λ k. n < k) (sym (length-applied c a)) in_a) (subst (λ k. n < k) (sym (length-applied c b)) in_b)
    (same_after_one c a b n in_a in_b same)

-- two databases with the same rows of a table have the same rows of it after the same changes
pub same_after : (changes : List RowChange) (a b : Database) (n : ℕ) → length a ≡ length b → rows_of a n ≡ rows_of b n
    → rows_of (all_applied changes a) n ≡ rows_of (all_applied changes b) n
same_after changes a b n long same = by (nat_lt n (length a)) refl
  where
    past : (db : Database) → length db ≤ n → rows_of (all_applied changes db) n ≡ []
    past db over = get_or_past (all_applied changes db) n [] (let e = length-all_applied changes db in omega (arith, e, over))

    by : (d : Bool) → nat_lt n (length a) ≡ d → rows_of (all_applied changes a) n ≡ rows_of (all_applied changes b) n
    by true e = let l = ltb-true n (length a) e in same_within changes a b n l (omega (arith, l, long)) same
    by false e = let l = ltb-false n (length a) e in past a (omega (arith, l)) ∙ sym (past b (omega (arith, l, long)))

-- no change of any of these lists is of the table
pub none_of : {X : Type 0} (f : X → List RowChange) (xs : List X) (n : ℕ) → list_any (λ x. list_any (is_of n) (f x)) xs ≡ false
    → list_any (is_of n) (flat_map f xs) ≡ false
none_of f [] n h = refl
none_of f (x ∷ xs) n h =
    let p = no_or (list_any (is_of n) (f x)) (list_any (λ x. list_any (is_of n) (f x)) xs) h in
    let first = p.0 in
    let rest = none_of f xs n p.1 in
    list_any-append (is_of n) (f x) (flat_map f xs) ∙ ap (λ b. b || list_any (is_of n) (flat_map f xs)) first ∙ rest

push_applied : (changes : List RowChange) (c : RowChange) (db : Database) → all_applied (changes ++ c ∷ []) db ≡ applied c (all_applied changes db)
push_applied changes c db = applied-append changes (c ∷ []) db

module _ (changes : List RowChange) (i : ℕ) (c : RowChange) (db : Database) (n : ℕ) (there : n < length db) (within : i < length changes)
    (is : c ≡ get_or changes i c) where
  next_is : rows_of (all_applied (take (i + 1) changes) db) n ≡ rows_of (applied c (all_applied (take i changes) db)) n
  next_is =
      ap (λ l. rows_of (all_applied l db) n) (take_more changes i c within ∙ ap (λ x. take i changes ++ x ∷ []) (sym is))
      ∙ ap (λ d. rows_of d n) (push_applied (take i changes) c db)

  -- one more change of the table, and one of another
  pub next_here : is_of n c ≡ true → rows_of (all_applied (take (i + 1) changes) db) n ≡ row_after c (rows_of (all_applied (take i changes) db) n)
  next_here e =
      next_is ∙ after_one c (all_applied (take i changes) db) n (subst (λ k. n < k) (sym (length-all_applied (take i changes) db)) there) e

  pub next_other : is_of n c ≡ false → rows_of (all_applied (take (i + 1) changes) db) n ≡ rows_of (all_applied (take i changes) db) n
  next_other e = next_is ∙ other_kept c (all_applied (take i changes) db) n e
