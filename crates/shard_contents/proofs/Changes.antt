-- The changes of one write: of which table they are, and why there are none.
use Rattle.std.proofs.Common.{◌≡◌, ◌⊎◌, inl, inr, ℕ, ◌<◌, Bool, true, false, cond, List, [], ◌∷◌, length, get_or, map, filter, flat_map, Result, Ok, Err, refl, sym, ap, ◌∙◌, subst, arith}
use Rattle.std.specs.Prelude.{IfOk, IfErr}
use Rattle.std.specs.List.{AllByRecursion}
use Rattle.std.proofs.lemmas.List.{get_or_default}
use Rattle.vt_value.specs.declared.refusal.Refusal.{Refusal}
use Rattle.vt_value.specs.declared.refusal.Refusal.TheVariants.{OutOfMemory, DuplicateKey, ShardFull}
use Rattle.vt_value.specs.Values.{Row}
use Rattle.vschema.specs.declared.schema.Table.{Table}
use Rattle.vschema.specs.declared.schema.VSchema.{VSchema}
use Rattle.vschema.specs.declared.changes.Write.{Write}
use Rattle.vschema.specs.declared.changes.Write.TheVariants.{Insert, Update, Delete}
use Rattle.vschema.specs.declared.changes.RowChange.{RowChange}
use Rattle.vschema.specs.declared.changes.RowChange.TheVariants.{Added, Replaced, Removed}
use Rattle.vschema.specs.Schema.{no_table}
use Rattle.vschema.specs.Database.{Database, rows_of, same_row, changed_table}
use Rattle.shard_store.specs.Conditions.{is_kept}
use Rattle.shard_store.specs.Writes.{has_duplicate, assigned, row_updates, written_table, changes_over, changes_of}
use Rattle.shard_store.proofs.ChangeLemmas.{ok_is}
use Rattle.shard_law.proofs.Lists.{all-flat_map, all-each}
use Rattle.shard_law.specs.declared.limits.Limits.{Limits}
use Rattle.shard_contents.specs.inner.Commits.{has_room, IsUnprepared, no_memory, duplicate, full}

abbrev Changes : Type 0
Changes = Result (List RowChange) Refusal

refusal_or : Refusal → Changes → Refusal
refusal_or r (Ok changes) = r
refusal_or r (Err e) = e

err_is : (a b : Refusal) → ◌≡◌ {A = Changes} (Err a) (Err b) → a ≡ b
unfolding refusal_or
err_is a b e = ap (refusal_or a) e

-- a write is refused for a primary key alone
pub refused_is : (t : Table) (w : Write) (rows : List Row) (r : Refusal) → changes_over t w rows ≡ Err r → r ≡ DuplicateKey
refused_is t (Insert n new) rows r e = by (has_duplicate t rows new) e
  where
    by : (b : Bool) → cond b (Err DuplicateKey) (Ok (map (Added n) new)) ≡ Err r → r ≡ DuplicateKey
    by true e = sym (err_is DuplicateKey r e)
    by false e = absurd (cc e)
refused_is t (Update n assignments condition) rows r e = absurd (cc e)
refused_is t (Delete n condition) rows r e = absurd (cc e)

module _ (schema : VSchema) (limits : Limits) (entries stored : ℕ) (db : Database) (w : Write) (t : Table) (rows : List Row)
    (table : t ≡ get_or schema.tables (written_table w) no_table) (there : rows ≡ rows_of db (written_table w)) where
  over : changes_of schema w db ≡ changes_over t w rows
  over = ap (λ t. changes_over t w (rows_of db (written_table w))) (sym table) ∙ ap (changes_over t w) (sym there)

  pub unprepared : (r : Refusal) → ((r ≡ OutOfMemory) ⊎ (changes_over t w rows ≡ Err r)) → IsUnprepared schema limits entries stored db w r
  unprepared r (inl is) = subst (IsUnprepared schema limits entries stored db w) (sym is) no_memory
  unprepared r (inr is) =
      let key = refused_is t w rows r is in
      subst (IsUnprepared schema limits entries stored db w) (sym key) (duplicate (over ∙ is ∙ ap Err key))

  pub no_room : (changes : List RowChange) → changes_over t w rows ≡ Ok changes → has_room limits entries stored
      (Rattle.shard_law.specs.Openings.row_count db) w ≡ false → IsUnprepared schema limits entries stored db w ShardFull
  no_room changes is h = full changes (over ∙ is) h

  pub changed : (changes : List RowChange) → changes_over t w rows ≡ Ok changes → changes_of schema w db ≡ Ok changes
  changed changes is = over ∙ is

all_map : {X : Type 0} (P : RowChange → Type 0) (f : X → RowChange) → ((x : X) → P (f x)) → (xs : List X) → AllByRecursion P (map f xs)
all_map P f h [] = tt
all_map P f h (x ∷ xs) = (h x, all_map P f h xs)

abbrev pub AreOf : ℕ → List RowChange → Type 0
AreOf n changes = AllByRecursion (λ c. changed_table c ≡ n) changes

-- all changes of a write are of its table
pub of_table : (t : Table) (w : Write) (rows : List Row) (changes : List RowChange) → changes_over t w rows ≡ Ok changes → AreOf (written_table w) changes
of_table t (Insert n new) rows changes e = by (has_duplicate t rows new) e
  where
    by : (b : Bool) → cond b (Err DuplicateKey) (Ok (map (Added n) new)) ≡ Ok changes → AreOf n changes
    by true e = absurd (cc e)
    by false e = subst (AreOf n) (ok_is (map (Added n) new) changes e) (all_map (λ c. changed_table c ≡ n) (Added n) (λ row. refl) new)
of_table t (Update n assignments condition) rows changes e =
    subst (AreOf n) (ok_is (flat_map (row_updates n assignments condition) rows) changes e)
    (all-flat_map (λ c. changed_table c ≡ n) (row_updates n assignments condition) rows
    (all-each (λ row. AreOf n (row_updates n assignments condition row)) (λ row. by row (is_kept condition row) (same_row row (assigned assignments row))) rows))
  where
    by : (row : Row) (b c : Bool) → AreOf n (cond b (cond c [] (Replaced n row (assigned assignments row) ∷ [])) [])
    by row true true = tt
    by row true false = (refl, tt)
    by row false c = tt
of_table t (Delete n condition) rows changes e =
    subst (AreOf n) (ok_is (map (Removed n) (filter (is_kept condition) rows)) changes e)
    (all_map (λ c. changed_table c ≡ n) (Removed n) (λ row. refl) (filter (is_kept condition) rows))

-- and so all are of tables that are there
pub there_all : (n least : ℕ) (changes : List RowChange) → AreOf n changes → n < least → AllByRecursion (λ c. changed_table c < least) changes
there_all n least [] of l = tt
there_all n least (c ∷ changes) of l = (let h = of.0 in omega (arith, h, l), there_all n least changes of.1 l)

-- a table that was read from a list is the one at the write's place
pub table_read : (schema : VSchema) (n m : ℕ) (ts : List Table) (t : Table) → n ≡ m → ts ≡ schema.tables → m < length schema.tables
    → t ≡ get_or ts n t → t ≡ get_or schema.tables m no_table
table_read schema n m ts t at same within is =
    is ∙ ap (λ l. get_or l n t) same ∙ ap (λ k. get_or schema.tables k t) at ∙ get_or_default schema.tables m t no_table within

-- the same of a write's changes over the rows of its table, and over the database
module _ (schema : VSchema) (w : Write) (db : Database) (t : Table) (rows : List Row) (table : t ≡ get_or schema.tables (written_table w) no_table)
    (there : rows ≡ rows_of db (written_table w)) where
  whole : changes_of schema w db ≡ changes_over t w rows
  whole = ap (λ t. changes_over t w (rows_of db (written_table w))) (sym table) ∙ ap (changes_over t w) (sym there)

  pub whole_changes : (r : Result (List RowChange) Refusal) → IfOk r (λ changes. changes_over t w rows ≡ Ok changes)
      → IfOk r (λ changes. changes_of schema w db ≡ Ok changes)
  whole_changes r h = subst (λ (x : Changes). IfOk r (λ changes. x ≡ Ok changes)) (sym whole) h

  pub whole_refused : (r : Result (List RowChange) Refusal) → IfErr r (λ e. (e ≡ OutOfMemory) ⊎ (changes_over t w rows ≡ Err e))
      → IfErr r (λ e. (e ≡ OutOfMemory) ⊎ ((e ≡ DuplicateKey) × (changes_of schema w db ≡ Err DuplicateKey)))
  whole_refused (Ok changes) h = tt
  whole_refused (Err e) (inl is) = inl is
  whole_refused (Err e) (inr is) = let key = refused_is t w rows e is in inr (key, whole ∙ is ∙ ap Err key)
