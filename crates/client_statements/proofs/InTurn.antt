-- Loops that add what each item gives, in turn.
use Rattle.std.proofs.Common.{◌≡◌, ℕ, zero, suc, arith, ◌+◌, ◌<◌, ◌≤◌, Bool, true, false, cond, List, [], ◌∷◌, ◌++◌, length, map, drop, get_or, Option, refl, sym, ap, ◌∙◌, append_assoc, add-one, drop-cons}
use Rattle.std.specs.Prelude.{◌==◌, filter, IsSorted}
use Rattle.std.specs.Ordering.{nat_cmp, is_lt}
use Rattle.std.specs.Fn.{Called}
use Rattle.std.specs.Cmp.Lexicographic.{slice_cmp}
use Rattle.std.specs.List.Sorted.{IsSortedByClosure}
use Rattle.std.specs.declared.cmp.Ordering.{Ordering}
use Rattle.std.proofs.lemmas.List.{append-nil}
use Rattle.std.proofs.lemmas.Fn.{always_returns_same}
use Rattle.std.proofs.lemmas.Cmp.{nat_list_cmp_total}
use Rattle.std.proofs.lemmas.List.MinMax.{ranks_by}
use denote.Param.Members.{Mut}
use denote.Ref.{Bor}
use Rattle.vt_value.specs.Values.{Row}
use Rattle.vschema.specs.Column.{Column}
use Rattle.vschema.specs.declared.schema.Keyspace.{Keyspace}
use Rattle.vschema.specs.declared.schema.Table.{Table}
use Rattle.client_statements.specs.declared.variable.Variable.{Variable}
use Rattle.client_statements.specs.Variables.{variable_name}
use Rattle.client_statements.specs.Answers.{fits_pattern, names_in, column_row, column_rows, variable_row, variable_rows}

-- a sort by a closure that compares bytes
pub sorted_by_bytes : {F : Type 0} {g : Mut F (Bor (List ℕ) × (Bor (List ℕ) × Unit {0})) Ordering} {f : F} (names : List (List ℕ)) → IsSortedByClosure g f names
    → ((a : Bor (List ℕ) × (Bor (List ℕ) × Unit {0})) (r : Ordering) (f' : F) → Called g f a r f' → (r ≡ slice_cmp nat_cmp a.0.now a.1.0.now) × (f' ≡ f))
    → IsSorted (slice_cmp nat_cmp) names
sorted_by_bytes {g = g} {f = f} names up h = up (λ a b. is_lt (slice_cmp nat_cmp a b)) (ranks_by nat_list_cmp_total (λ r. r))
    (always_returns_same g (λ a r. is_lt r ≡ is_lt (slice_cmp nat_cmp a.0.now a.1.0.now)) f (λ a r f' k. (ap is_lt (h a r f' k).0, (h a r f' k).1)))

-- what one item and those after it give is what it gives, and then what they do
module _ {A B : Type 0} (F : ℕ → List A → List B) (cut : (n : ℕ) (x : A) (rest : List A) → F n (x ∷ rest) ≡ F n (x ∷ []) ++ F (suc n) rest) where
  one_more : (xs : List A) (i : ℕ) (x : A) (out new whole : List B) → i < length xs → x ≡ get_or xs i x → out ++ F i (drop i xs) ≡ whole
      → new ≡ out ++ F i (x ∷ []) → new ++ F (i + 1) (drop (i + 1) xs) ≡ whole
  one_more xs i x out new whole here is held more =
      let rest = drop (suc i) xs in
      let front : drop i xs ≡ x ∷ rest = drop-cons xs i x here ∙ ap (λ (y : A). y ∷ rest) (sym is) in
      let next : new ++ F (suc i) rest ≡ whole =
      ap (λ (ys : List B). ys ++ F (suc i) rest) more ∙ append_assoc out (F i (x ∷ [])) (F (suc i) rest)
      ∙ ap (λ (ys : List B). out ++ ys) (sym (cut i x rest) ∙ ap (F i) (sym front)) ∙ held in
      simp add-one next

same_item : {A : Type 0} (xs : List A) (i : ℕ) (d e : A) → i < length xs → get_or xs i d ≡ get_or xs i e
same_item [] i d e here = absurd (omega arith)
same_item (x ∷ xs) zero d e here = refl
same_item (x ∷ xs) (suc i) d e here = same_item xs i d e (omega arith)

none_left : {A : Type 0} (xs : List A) (i : ℕ) → length xs ≤ i → drop i xs ≡ []
none_left [] zero end = refl
none_left [] (suc i) end = refl
none_left (x ∷ xs) zero end = absurd (omega arith)
none_left (x ∷ xs) (suc i) end = none_left xs i (omega arith)

filter_cut : {A : Type 0} (p : A → Bool) (x : A) (rest : List A) → filter p (x ∷ rest) ≡ filter p (x ∷ []) ++ filter p rest
filter_cut {A} p x rest = go (p x)
  where
    go : (b : Bool) → cond b (x ∷ filter p rest) (filter p rest) ≡ cond b (x ∷ []) [] ++ filter p rest
    go true = refl
    go false = refl

module _ (like : Option (List ℕ)) where
  pub one_more_keyspace : (xs : List Keyspace) (i : ℕ) (x : Keyspace) (out new whole : List (List ℕ)) → i < length xs → x ≡ get_or xs i x
      → out ++ filter (fits_pattern like) (map (λ k. k.name) (drop i xs)) ≡ whole → new ≡ out ++ filter (fits_pattern like) (x.name ∷ [])
      → new ++ filter (fits_pattern like) (map (λ k. k.name) (drop (i + 1) xs)) ≡ whole
  one_more_keyspace = one_more (λ (n : ℕ) (ks : List Keyspace). filter (fits_pattern like) (map (λ k. k.name) ks))
      (λ (n : ℕ) (k : Keyspace) (ks : List Keyspace). filter_cut (fits_pattern like) k.name (map (λ k. k.name) ks))

  module _ (ordinal : ℕ) where
    tables_cut : (t : Table) (rest : List Table) → filter (fits_pattern like) (names_in ordinal (t ∷ rest))
        ≡ filter (fits_pattern like) (names_in ordinal (t ∷ [])) ++ filter (fits_pattern like) (names_in ordinal rest)
    tables_cut t rest = go (t.keyspace == ordinal)
      where
        names : List Table → List (List ℕ)
        names ts = map (λ t. t.name) ts

        go : (b : Bool) → filter (fits_pattern like) (names (cond b (t ∷ filter (λ t. t.keyspace == ordinal) rest) (filter (λ t. t.keyspace == ordinal) rest)))
            ≡ filter (fits_pattern like) (names (cond b (t ∷ []) [])) ++ filter (fits_pattern like) (names_in ordinal rest)
        go true = filter_cut (fits_pattern like) t.name (names_in ordinal rest)
        go false = refl

    pub one_more_table : (xs : List Table) (i : ℕ) (x : Table) (out new whole : List (List ℕ)) → i < length xs → x ≡ get_or xs i x
        → out ++ filter (fits_pattern like) (names_in ordinal (drop i xs)) ≡ whole → new ≡ out ++ filter (fits_pattern like) (names_in ordinal (x ∷ []))
        → new ++ filter (fits_pattern like) (names_in ordinal (drop (i + 1) xs)) ≡ whole
    one_more_table = one_more (λ (n : ℕ) (ts : List Table). filter (fits_pattern like) (names_in ordinal ts)) (λ (n : ℕ). tables_cut)

  module _ (full : Bool) (t : Table) where
    columns_cut : (n : ℕ) (c : Column) (rest : List Column) → column_rows full like t n (c ∷ rest) ≡ column_rows full like t n (c ∷ []) ++ column_rows full like t (suc n) rest
    columns_cut n c rest = go (fits_pattern like c.name)
      where
        row : Row
        row = column_row full t n c

        go : (b : Bool) → cond b (row ∷ column_rows full like t (suc n) rest) (column_rows full like t (suc n) rest)
            ≡ cond b (row ∷ []) [] ++ column_rows full like t (suc n) rest
        go true = refl
        go false = refl

    pub one_more_column : (xs : List Column) (i : ℕ) (x : Column) (out new whole : List Row) → i < length xs → x ≡ get_or xs i x
        → out ++ column_rows full like t i (drop i xs) ≡ whole → new ≡ out ++ column_rows full like t i (x ∷ [])
        → new ++ column_rows full like t (i + 1) (drop (i + 1) xs) ≡ whole
    one_more_column = one_more (column_rows full like t) columns_cut

  module _ (on : Bool) where
    variables_cut : (v : Variable) (rest : List Variable) → variable_rows on like (v ∷ rest) ≡ variable_rows on like (v ∷ []) ++ variable_rows on like rest
    unfolding variable_rows
    variables_cut v rest = go (fits_pattern like (variable_name v))
      where
        go : (b : Bool) → map (variable_row on) (cond b (v ∷ filter (λ v. fits_pattern like (variable_name v)) rest) (filter (λ v. fits_pattern like (variable_name v)) rest))
            ≡ map (variable_row on) (cond b (v ∷ []) []) ++ map (variable_row on) (filter (λ v. fits_pattern like (variable_name v)) rest)
        go true = refl
        go false = refl

    no_variables : variable_rows on like [] ≡ []
    unfolding variable_rows
    no_variables = refl

    pub all_variables : (xs : List Variable) (i : ℕ) (out whole : List Row) → length xs ≤ i → out ++ variable_rows on like (drop i xs) ≡ whole → out ≡ whole
    all_variables xs i out whole end held =
        sym (append-nil out)
        ∙ ap (λ (ys : List Row). out ++ ys) (sym no_variables ∙ ap (λ (vs : List Variable). variable_rows on like vs) (sym (none_left xs i end))) ∙ held

    one_more_variable : (xs : List Variable) (i : ℕ) (x : Variable) (out new whole : List Row) → i < length xs → x ≡ get_or xs i x
        → out ++ variable_rows on like (drop i xs) ≡ whole → new ≡ out ++ variable_rows on like (x ∷ [])
        → new ++ variable_rows on like (drop (i + 1) xs) ≡ whole
    one_more_variable = one_more (λ (n : ℕ) (vs : List Variable). variable_rows on like vs) (λ (n : ℕ). variables_cut)

    pub next_variable : (xs : List Variable) (i : ℕ) (d : Variable) (out new whole : List Row) → i < length xs → out ++ variable_rows on like (drop i xs) ≡ whole
        → new ≡ out ++ variable_rows on like (get_or xs i d ∷ []) → new ++ variable_rows on like (drop (i + 1) xs) ≡ whole
    next_variable xs i d out new whole here = one_more_variable xs i (get_or xs i d) out new whole here (same_item xs i d (get_or xs i d) here)
