-- The first table by name that a target hasn't wholly copied, found table by table.
use Rattle.std.proofs.Common.{◌≡◌, ◌⊎◌, inl, inr, ℕ, zero, suc, ◌+◌, ◌<◌, ◌≤◌, Bool, true, false, not, cond, ◌&&◌, ◌==◌, List, length, Option, Some, None, refl, sym, ap, ◌∙◌, subst, arith}
use Rattle.std.specs.Prelude.{MatchOption, IfSome}
use Rattle.std.specs.Ordering.{is_lt, nat_cmp}
use Rattle.std.specs.Cmp.{IsTotalOrder}
use Rattle.std.specs.Cmp.Lexicographic.{slice_cmp}
use Rattle.std.specs.declared.cmp.Ordering.{Ordering}
use Rattle.std.specs.declared.cmp.Ordering.TheVariants.{Less, Equal, Greater}
use Rattle.std.proofs.lemmas.Bool.{false≢true, eqb-true, eq-eqb, and_parts}
use Rattle.std.proofs.lemmas.Cmp.{nat_list_cmp_total}
use Rattle.vschema.specs.Ranges.{is_before}
use Rattle.shard_run.specs.declared.ShardRecord.{ShardRecord}
use Rattle.shard_run.specs.Runs.{Run, Opening}
use Rattle.shard_run.specs.Copies.{table_at, has_copied_all}
use Rattle.shard_contents.specs.Legal.{IsTableOf}
use Rattle.shard_contents.specs.Copying.{HasCopiedAll, IsNextTable}
use Rattle.shard_contents.specs.inner.Rowed.{first_named}

is_less : (o : Ordering) → is_lt o ≡ true → o ≡ Less
is_less Less e = refl
is_less Equal e = absurd (false≢true e)
is_less Greater e = absurd (false≢true e)

before_before : (a b c : List ℕ) → is_before a b ≡ true → is_before b c ≡ true → is_before a c ≡ true
before_before a b c h g = ap is_lt (nat_list_cmp_total.trans a b c (is_less (slice_cmp nat_cmp a b) h) (is_less (slice_cmp nat_cmp b c) g))

not_before_itself : (a : List ℕ) → is_before a a ≡ true → ⊥
not_before_itself a h =
    let e = is_less (slice_cmp nat_cmp a a) h in
    let r = nat_list_cmp_total.antisymm a a in
    absurd (cc (e, r ∙ ap Rattle.std.specs.Ordering.ordering_reverse e))

module _ (o : Opening) (run : Run) (t : ShardRecord) (source : ℕ) where
  -- this is the first so far
  pub record IsFound (n k : ℕ) : Type 0 where
    pub table : IsTableOf o.schema t.place.keyspace k
    pub unfinished : has_copied_all run t.slot source k ≡ false
    pub first : (m : ℕ) → m < n → IsTableOf o.schema t.place.keyspace m
        → is_before (table_at o.schema m).name (table_at o.schema k).name ≡ true → has_copied_all run t.slot source m ≡ true

  abbrev pub SoFar : ℕ → Option ℕ → Type 0
  SoFar n found =
      MatchOption found ((m : ℕ) → m < n → IsTableOf o.schema t.place.keyspace m → has_copied_all run t.slot source m ≡ true) (IsFound n)

  abbrev pub is_unfinished : ℕ → Bool
  is_unfinished n = ((table_at o.schema n).keyspace == t.place.keyspace) && not (has_copied_all run t.slot source n)

  pub none_found : SoFar 0 None
  none_found = λ m l of_table. absurd (omega (arith, l))

  earlier_or : (m n : ℕ) → m < n + 1 → (m < n) ⊎ (m ≡ n)
  earlier_or zero zero l = inr refl
  earlier_or zero (suc n) l = inl (omega arith)
  earlier_or (suc m) zero l = absurd (omega (arith, l))
  earlier_or (suc m) (suc n) l = by (earlier_or m n (omega (arith, l)))
    where
      by : (m < n) ⊎ (m ≡ n) → (suc m < suc n) ⊎ (suc m ≡ suc n)
      by (inl k) = inl (omega (arith, k))
      by (inr e) = inr (ap suc e)

  not-not : (b : Bool) → not b ≡ true → b ≡ false
  not-not true e = absurd (false≢true e)
  not-not false e = refl

  pub found_within : (n : ℕ) (found : Option ℕ) → SoFar n found → IfSome found (λ m. m < length o.schema.tables)
  found_within n None h = tt
  found_within n (Some k) h = h.table.0

  pub found_next : (n : ℕ) (found : Option ℕ) → n < length o.schema.tables → is_unfinished n ≡ true → SoFar n found → SoFar (n + 1) (Some (first_named o.schema n found))
  found_next n None there u h =
      let p = and_parts ((table_at o.schema n).keyspace == t.place.keyspace) (not (has_copied_all run t.slot source n)) u in
      record {
        table = (there, eqb-true (table_at o.schema n).keyspace t.place.keyspace p.0);
        unfinished = not-not (has_copied_all run t.slot source n) p.1;
        first = λ m l of_table before. by m of_table before (earlier_or m n l);
      }
    where
      by : (m : ℕ) → IsTableOf o.schema t.place.keyspace m → is_before (table_at o.schema m).name (table_at o.schema n).name ≡ true
          → (m < n) ⊎ (m ≡ n) → has_copied_all run t.slot source m ≡ true
      by m of_table before (inl l) = h m l of_table
      by m of_table before (inr e) =
          absurd (not_before_itself (table_at o.schema n).name
          (subst (λ k. is_before (table_at o.schema k).name (table_at o.schema n).name ≡ true) e before))
  found_next n (Some k) there u h = at (is_before (table_at o.schema n).name (table_at o.schema k).name) refl
    where
      p : (((table_at o.schema n).keyspace == t.place.keyspace) ≡ true) × (not (has_copied_all run t.slot source n) ≡ true)
      p = and_parts ((table_at o.schema n).keyspace == t.place.keyspace) (not (has_copied_all run t.slot source n)) u

      earlier : is_before (table_at o.schema n).name (table_at o.schema k).name ≡ true → (m : ℕ) → IsTableOf o.schema t.place.keyspace m
          → is_before (table_at o.schema m).name (table_at o.schema n).name ≡ true → (m < n) ⊎ (m ≡ n) → has_copied_all run t.slot source m ≡ true
      earlier i m of_table before (inl l) =
          h.first m l of_table (before_before (table_at o.schema m).name (table_at o.schema n).name (table_at o.schema k).name before i)
      earlier i m of_table before (inr e) =
          absurd (not_before_itself (table_at o.schema n).name
          (subst (λ k. is_before (table_at o.schema k).name (table_at o.schema n).name ≡ true) e before))

      later : is_before (table_at o.schema n).name (table_at o.schema k).name ≡ false → (m : ℕ) → IsTableOf o.schema t.place.keyspace m
          → is_before (table_at o.schema m).name (table_at o.schema k).name ≡ true → (m < n) ⊎ (m ≡ n) → has_copied_all run t.slot source m ≡ true
      later i m of_table before (inl l) = h.first m l of_table before
      later i m of_table before (inr e) =
          absurd (false≢true (sym i ∙ subst (λ j. is_before (table_at o.schema j).name (table_at o.schema k).name ≡ true) e before))

      at : (b : Bool) → is_before (table_at o.schema n).name (table_at o.schema k).name ≡ b → IsFound (n + 1) (cond b n k)
      at true i = record {
        table = (there, eqb-true (table_at o.schema n).keyspace t.place.keyspace p.0);
        unfinished = not-not (has_copied_all run t.slot source n) p.1;
        first = λ m l of_table before. earlier i m of_table before (earlier_or m n l);
      }
      at false i = record {
        table = h.table;
        unfinished = h.unfinished;
        first = λ m l of_table before. later i m of_table before (earlier_or m n l);
      }

  -- a table that isn't unfinished is copied
  copied-if : (n : ℕ) → is_unfinished n ≡ false → IsTableOf o.schema t.place.keyspace n → has_copied_all run t.slot source n ≡ true
  copied-if n u of_table = by (has_copied_all run t.slot source n) refl
    where
      by : (b : Bool) → has_copied_all run t.slot source n ≡ b → has_copied_all run t.slot source n ≡ true
      by true i = i
      by false i =
          let e : ((table_at o.schema n).keyspace == t.place.keyspace) ≡ true = eq-eqb (table_at o.schema n).keyspace t.place.keyspace of_table.1 in
          let w : is_unfinished n ≡ true = simp (e, i) in
          absurd (false≢true (sym u ∙ w))

  pub found_same : (n : ℕ) (found : Option ℕ) → is_unfinished n ≡ false → SoFar n found → SoFar (n + 1) found
  found_same n None u h = λ m l of_table. by m of_table (earlier_or m n l)
    where
      by : (m : ℕ) → IsTableOf o.schema t.place.keyspace m → (m < n) ⊎ (m ≡ n) → has_copied_all run t.slot source m ≡ true
      by m of_table (inl k) = h m k of_table
      by m of_table (inr e) = copied-if m (ap is_unfinished e ∙ u) of_table
  found_same n (Some k) u h = record {
    table = h.table;
    unfinished = h.unfinished;
    first = λ m l of_table before. by m of_table before (earlier_or m n l);
  }
    where
      by : (m : ℕ) → IsTableOf o.schema t.place.keyspace m → is_before (table_at o.schema m).name (table_at o.schema k).name ≡ true
          → (m < n) ⊎ (m ≡ n) → has_copied_all run t.slot source m ≡ true
      by m of_table before (inl l) = h.first m l of_table before
      by m of_table before (inr e) = copied-if m (ap is_unfinished e ∙ u) of_table

  -- once all tables were looked at
  pub found_all : (n : ℕ) (found : Option ℕ) → length o.schema.tables ≤ n → SoFar n found
      → MatchOption found (HasCopiedAll o run t source) (IsNextTable o run t source)
  found_all n None all h = λ m of_table. let l = of_table.0 in h m (omega (arith, all, l)) of_table
  found_all n (Some k) all h = record {
    table = h.table;
    unfinished = h.unfinished;
    first = λ m of_table before. let l = of_table.0 in h.first m (omega (arith, all, l)) of_table before;
  }
