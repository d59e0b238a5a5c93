-- Rows have the same stored key where they have the same primary key.
use Rattle.std.proofs.Common.{◌≡◌, ℕ, Bool, true, false, not, ◌&&◌, ◌==◌, List, [], ◌∷◌, ◌++◌, filter, Option, Some, None, refl, sym, ap, ◌∙◌, subst}
use Rattle.std.proofs.lemmas.Bool.{eqb-true}
use Rattle.std.specs.List.{list_all}
use Rattle.std.specs.Ordering.{is_eq}
use Rattle.vt_value.specs.Values.{Row, value_at, value_cmp}
use Rattle.sql_eval.specs.Table.{Table}
use Rattle.sql_eval.specs.ColumnVindex.{ColumnVindex}
use Rattle.sql_eval.specs.Schema.{key_of}
use Rattle.sql_eval.specs.Database.{same_row}
use Rattle.sql_eval.specs.Checks.{has_number}
use Rattle.sql_eval.proofs.RowLemmas.{same_row-map}
use Rattle.shard_store.specs.Tables.{key_at}
use Rattle.shard_store.specs.Places.{vindex_ordinals, key_ordinals, right_by, is_vindex_in_key}

-- the others pass, where this one does
others_pass : (p : ℕ → Bool) (v : ℕ) → p v ≡ true → (ns : List ℕ) → list_all p (filter (λ n. not (has_number (v ∷ []) n)) ns) ≡ list_all p ns
others_pass p v passed [] = refl
others_pass p v passed (n ∷ ns) = by (others_pass p v passed ns) (v == n) refl
  where
    by : list_all p (filter (λ n. not (has_number (v ∷ []) n)) ns) ≡ list_all p ns → (b : Bool) → (v == n) ≡ b
        → list_all p (filter (λ n. not (has_number (v ∷ []) n)) (n ∷ ns)) ≡ list_all p (n ∷ ns)
    by ih true t =
        let g : p n ≡ true = subst (λ (m : ℕ). p m ≡ true) (eqb-true v n t) passed in
        simp (t, g, ih)
    by ih false t = simp (t, ih)

-- one that is there and does not pass
one_fails : (p : ℕ → Bool) (v : ℕ) → p v ≡ false → (ns : List ℕ) → has_number ns v ≡ true → list_all p ns ≡ false
one_fails p v fails [] there = absurd (cc there)
one_fails p v fails (n ∷ ns) there = by (one_fails p v fails ns) (n == v) refl (p n) refl
  where
    by : (has_number ns v ≡ true → list_all p ns ≡ false) → (b : Bool) → (n == v) ≡ b → (d : Bool) → p n ≡ d → list_all p (n ∷ ns) ≡ false
    by ih b t false u = simp u
    by ih true t true u =
        let g : p v ≡ true = subst (λ (m : ℕ). p m ≡ true) (eqb-true n v t) u in
        absurd (cc (sym g ∙ fails))
    by ih false t true u =
        let f : has_number ns v ≡ true = rw t at there in
        let g = ih f in
        simp (u, g)

first_and_others : (p : ℕ → Bool) (v : ℕ) (ns : List ℕ) → has_number ns v ≡ true
    → (p v && list_all p (filter (λ n. not (has_number (v ∷ []) n)) ns)) ≡ list_all p ns
first_and_others p v ns there = by (p v) refl
  where
    by : (b : Bool) → p v ≡ b → (p v && list_all p (filter (λ n. not (has_number (v ∷ []) n)) ns)) ≡ list_all p ns
    by true t = let g = others_pass p v t ns in simp (t, g)
    by false t = let g = one_fails p v t ns there in simp (t, g)

filter_all : (ns : List ℕ) → filter (λ n. not (has_number [] n)) ns ≡ ns
filter_all [] = refl
filter_all (n ∷ ns) = ap (λ (l : List ℕ). n ∷ l) (filter_all ns)

module _ (a b : Row) where
  abbrev same_at : ℕ → Bool
  same_at n = is_eq (value_cmp (value_at a n) (value_at b n))

  same_by : (v : Option ColumnVindex) (ns : List ℕ) → right_by v ns ≡ true
      → list_all same_at (vindex_ordinals v ++ filter (λ n. not (has_number (vindex_ordinals v) n)) ns) ≡ list_all same_at ns
  same_by None ns right = ap (list_all same_at) (filter_all ns)
  same_by (Some v) ns right = first_and_others same_at v.column ns right

  pub same_keys : (t : Table) → is_vindex_in_key t ≡ true → same_row (key_at (key_ordinals t) a) (key_at (key_ordinals t) b) ≡ same_row (key_of t a) (key_of t b)
  same_keys t right =
      sym (same_row-map (value_at a) (value_at b) (key_ordinals t))
      ∙ (same_by t.vindex t.primary_key right ∙ same_row-map (value_at a) (value_at b) t.primary_key)
