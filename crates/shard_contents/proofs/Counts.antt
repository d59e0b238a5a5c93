-- How many rows a write leaves.
use Rattle.std.proofs.Common.{◌⊎◌, inl, inr, ◌≡◌, ℕ, ◌+◌, ◌<◌, ◌≤◌, Bool, true, false, cond, List, [], ◌∷◌, ◌++◌, length, get_or, set, map, filter, flat_map, Ok, Err, refl, sym, ap, ◌∙◌, subst, arith, length-append, Option}
use Rattle.std.specs.List.{AllByRecursion}
use Rattle.std.proofs.lemmas.Bool.{false≢true, and_parts, and_from, ltb-true, leb-true, lt-ltb, le-leb}
use Rattle.std.specs.Prelude.{nat_lt, nat_le, ◌&&◌, ◌^◌}
use Rattle.std.proofs.lemmas.List.{append-nil, append_assoc, set-get_or}
use Rattle.std.proofs.lemmas.List.Sums.{sum_by-set}
use Rattle.std.specs.declared.cmp.Ordering.TheVariants.{Equal}
use Rattle.std.proofs.lemmas.Cmp.{tied_itself, int_cmp_total, nat_list_cmp_total}
use Rattle.vt_value.specs.declared.value.Value.{Value}
use Rattle.vt_value.specs.declared.value.Value.TheVariants.{Null, Int, Bytes}
use Rattle.vt_value.specs.Values.{Row, value_cmp}
use Rattle.sql_tree.specs.declared.Assignment.{Assignment}
use Rattle.sql_tree.specs.declared.Condition.{Condition}
use Rattle.vschema.specs.declared.schema.Table.{Table}
use Rattle.vschema.specs.declared.changes.Write.{Write}
use Rattle.vschema.specs.declared.changes.Write.TheVariants.{Insert, Update, Delete}
use Rattle.vschema.specs.declared.changes.RowChange.{RowChange}
use Rattle.vschema.specs.declared.changes.RowChange.TheVariants.{Added, Replaced, Removed}
use Rattle.vschema.specs.declared.schema.VSchema.{VSchema}
use Rattle.vschema.specs.Schema.{no_table}
use Rattle.vschema.specs.Database.{Database, SameRows, same_row, without, applied, all_applied, changed_table}
use Rattle.shard_store.specs.Conditions.{is_kept}
use Rattle.shard_store.specs.Writes.{has_duplicate, assigned, row_updates, written_table, changes_over, changes_of}
use Rattle.shard_store.proofs.ChangeLemmas.{ok_is}
use Rattle.shard_law.proofs.Rows.{row_is, nil_is}
use Rattle.shard_law.proofs.Lists.{AllByRecursion-push}
use Rattle.vt_value.specs.declared.refusal.Refusal.TheVariants.{DuplicateKey}
use Rattle.shard_law.specs.ShardRecord.{ShardRecord}
use Rattle.shard_law.specs.ShardRunRuns.{Opening, Run, shard_rows, entries_on, stored_on}
use Rattle.shard_law.specs.Openings.{row_count}
use Rattle.shard_law.specs.declared.limits.Limits.{Limits}
use Rattle.shard_contents.specs.Commits.{inserted_rows, HasRoom}
use Rattle.shard_contents.specs.inner.Commits.{has_room}
use Rattle.shard_contents.specs.inner.Stores.{row_after}
use Rattle.shard_contents.proofs.Bags.{row_count-same, all_applied-same}
use Rattle.shard_contents.proofs.Changes.{AreOf, of_table}
use Rattle.shard_contents.proofs.Stores.{taken-put}

-- changes of one table, over its rows
abbrev pub rows_after : List RowChange → List Row → List Row
rows_after [] rows = rows
rows_after (c ∷ changes) rows = rows_after changes (row_after c rows)

pub one_applied : (c : RowChange) (db : Database) (n : ℕ) → changed_table c ≡ n → applied c db ≡ set db n (row_after c (get_or db n []))
one_applied (Added m row) db n e = ap (λ k. set db k (get_or db k [] ++ row ∷ [])) e
one_applied (Replaced m old new) db n e = ap (λ k. set db k (without old (get_or db k []) ++ new ∷ [])) e
one_applied (Removed m row) db n e = ap (λ k. set db k (without row (get_or db k []))) e

table_applied : (changes : List RowChange) (db : Database) (n : ℕ) → AreOf n changes
    → all_applied changes db ≡ set db n (rows_after changes (get_or db n []))
table_applied [] db n of = sym (set-get_or db n [])
table_applied (c ∷ changes) db n of =
    ap (all_applied changes) (one_applied c db n of.0)
    ∙ table_applied changes (set db n (row_after c (get_or db n []))) n of.1 ∙ taken-put db n (row_after c) (rows_after changes)

-- only the table's rows count
pub count_after : (changes : List RowChange) (db : Database) (n : ℕ) → AreOf n changes → n < length db
    → row_count (all_applied changes db) + length (get_or db n []) ≡ row_count db + length (rows_after changes (get_or db n []))
count_after changes db n of within =
    ap (λ d. row_count d + length (get_or db n [])) (table_applied changes db n of)
    ∙ sum_by-set length db n (rows_after changes (get_or db n [])) [] within

-- ---- INSERT

added_count : (n : ℕ) (new rows : List Row) → length (rows_after (map (Added n) new) rows) ≡ length rows + length new
added_count n [] rows = omega arith
added_count n (row ∷ new) rows =
    let h = added_count n new (rows ++ row ∷ []) in
    let k = length-append rows (row ∷ []) in
    omega (arith, h, k)

-- ---- DELETE

without_count : (r : Row) (rows : List Row) → length (without r rows) ≤ length rows
without_count r [] = omega arith
without_count r (x ∷ rows) = by (same_row r x) (without_count r rows)
  where
    by : (b : Bool) → length (without r rows) ≤ length rows → length (cond b rows (x ∷ without r rows)) ≤ length (x ∷ rows)
    by true h = omega arith
    by false h = omega (arith, h)

removed_count : (n : ℕ) (old rows : List Row) → length (rows_after (map (Removed n) old) rows) ≤ length rows
removed_count n [] rows = omega arith
removed_count n (r ∷ old) rows =
    let h = removed_count n old (without r rows) in
    let k = without_count r rows in
    omega (arith, h, k)

-- ---- UPDATE

value_itself : (v : Value) → value_cmp v v ≡ Equal
value_itself Null = refl
value_itself (Int n) = tied_itself int_cmp_total n
value_itself (Bytes t) = tied_itself nat_list_cmp_total t

row_itself : (r : Row) → same_row r r ≡ true
row_itself [] = refl
row_itself (v ∷ r) = let e = value_itself v in simp e (row_itself r)

-- no row of the list is the one
abbrev NoneIs : Row → List Row → Type 0
NoneIs r rows = AllByRecursion (λ x. same_row r x ≡ false) rows

without_here : (r : Row) (front back : List Row) → NoneIs r front → same_row r r ≡ true → without r (front ++ r ∷ back) ≡ front ++ back
without_here r [] back none same = simp same
without_here r (x ∷ front) back none same = let f = none.0 in simp f (ap (λ z. x ∷ z) (without_here r front back none.1 same))

module _ (n : ℕ) (assignments : List (Assignment ℕ)) (condition : Option (Condition ℕ)) where
  abbrev updates : Row → List RowChange
  updates row = row_updates n assignments condition row

  abbrev AreLeft : List Row → Type 0
  AreLeft rows = AllByRecursion (λ x. updates x ≡ []) rows

  -- a row that is changed is not among those that are left
  none_is : (r : Row) (c : RowChange) (rows : List Row) → updates r ≡ c ∷ [] → AreLeft rows → NoneIs r rows
  none_is r c [] e left = tt
  none_is r c (x ∷ rows) e left = (by (same_row r x) refl, none_is r c rows e left.1)
    where
      by : (b : Bool) → same_row r x ≡ b → same_row r x ≡ false
      by true is = nil_is (sym (sym e ∙ (ap updates (row_is r x is) ∙ left.0)))
      by false is = is

  left_push : (front : List Row) (x : Row) → AreLeft front → updates x ≡ [] → AreLeft (front ++ x ∷ [])
  left_push front x left e = AllByRecursion-push (λ x. updates x ≡ []) front x left e

  abbrev Keeps : List Row → List RowChange → Type 0
  Keeps rows changes = length (rows_after changes rows) ≡ length rows

  -- the first row, where the others keep the count
  module _ (x : Row) (rest : List Row)
      (more : (front back : List Row) → AreLeft front → Keeps (front ++ (rest ++ back)) (flat_map updates rest)) (front back : List Row) (left : AreLeft front) where
    abbrev new : Row
    new = assigned assignments x

    skipped : updates x ≡ [] → Keeps (front ++ (x ∷ rest ++ back)) (flat_map updates (x ∷ rest))
    skipped e =
        let h = more (front ++ x ∷ []) back (left_push front x left e) in
        let same : (front ++ x ∷ []) ++ (rest ++ back) ≡ front ++ (x ∷ rest ++ back) = append_assoc front (x ∷ []) (rest ++ back) in
        simp e (subst (λ rows. Keeps rows (flat_map updates rest)) same h)

    counts : length (front ++ (rest ++ (back ++ new ∷ []))) ≡ length (front ++ (x ∷ rest ++ back))
    counts = omega (arith, length-append front (rest ++ (back ++ new ∷ [])), length-append rest (back ++ new ∷ []), length-append back (new ∷ []), length-append front (x ∷ rest ++ back), length-append rest back)

    changed : updates x ≡ Replaced n x new ∷ [] → Keeps (front ++ (x ∷ rest ++ back)) (flat_map updates (x ∷ rest))
    changed e =
        let cut : without x (front ++ (x ∷ rest ++ back)) ≡ front ++ (rest ++ back) =
        without_here x front (rest ++ back) (none_is x (Replaced n x new) front e left) (row_itself x) in
        let same : (front ++ (rest ++ back)) ++ new ∷ [] ≡ front ++ (rest ++ (back ++ new ∷ [])) =
        append_assoc front (rest ++ back) (new ∷ []) ∙ ap (λ z. front ++ z) (append_assoc rest back (new ∷ [])) in
        let here : without x (front ++ (x ∷ rest ++ back)) ++ new ∷ [] ≡ front ++ (rest ++ (back ++ new ∷ [])) = ap (λ z. z ++ new ∷ []) cut ∙ same in
        ap (λ changes. length (rows_after (changes ++ flat_map updates rest) (front ++ (x ∷ rest ++ back)))) e
        ∙ ap (λ rows. length (rows_after (flat_map updates rest) rows)) here ∙ more front (back ++ new ∷ []) left ∙ counts

    either : Keeps (front ++ (x ∷ rest ++ back)) (flat_map updates (x ∷ rest))
    either = by (is_kept condition x) refl (same_row x new) refl
      where
        by : (b : Bool) → is_kept condition x ≡ b → (c : Bool) → same_row x new ≡ c → Keeps (front ++ (x ∷ rest ++ back)) (flat_map updates (x ∷ rest))
        by true i true j = skipped (simp (i, j))
        by true i false j = changed (simp (i, j))
        by false i c j = skipped (simp i)

  updated_count : (rest front back : List Row) → AreLeft front → Keeps (front ++ (rest ++ back)) (flat_map updates rest)
  updated_count [] front back left = refl
  updated_count (x ∷ rest) front back left = either x rest (updated_count rest) front back left

-- ---- all writes

-- a write leaves at most the rows that it adds more
write_count : (t : Table) (w : Write) (rows : List Row) (changes : List RowChange) → changes_over t w rows ≡ Ok changes
    → length (rows_after changes rows) ≤ length rows + length (inserted_rows w)
write_count t (Insert n new) rows changes e = by (has_duplicate t rows new) e
  where
    by : (b : Bool) → cond b (Err DuplicateKey) (Ok (map (Added n) new)) ≡ Ok changes → length (rows_after changes rows) ≤ length rows + length new
    by true e = absurd (cc e)
    by false e =
        let h = added_count n new rows in
        subst (λ l. length (rows_after l rows) ≤ length rows + length new) (ok_is (map (Added n) new) changes e) (omega (arith, h))
write_count t (Update n assignments condition) rows changes e =
    let h = updated_count n assignments condition rows [] [] tt in
    let k = append-nil rows in
    let g : length (rows_after (flat_map (row_updates n assignments condition) rows) rows) ≡ length rows =
    subst (λ l. length (rows_after (flat_map (row_updates n assignments condition) rows) l) ≡ length l) k h in
    subst (λ l. length (rows_after l rows) ≤ length rows + 0) (ok_is (flat_map (row_updates n assignments condition) rows) changes e) (omega (arith, g))
write_count t (Delete n condition) rows changes e =
    let h = removed_count n (filter (is_kept condition) rows) rows in
    subst (λ l. length (rows_after l rows) ≤ length rows + 0) (ok_is (map (Removed n) (filter (is_kept condition) rows)) changes e) (omega (arith, h))

-- no fewer, where it adds some
insert_count : (t : Table) (w : Write) (rows : List Row) (changes : List RowChange) → changes_over t w rows ≡ Ok changes
    → (length (inserted_rows w) ≡ 0) ⊎ (length (rows_after changes rows) ≡ length rows + length (inserted_rows w))
insert_count t (Insert n new) rows changes e = by (has_duplicate t rows new) e
  where
    by : (b : Bool) → cond b (Err DuplicateKey) (Ok (map (Added n) new)) ≡ Ok changes
        → (length new ≡ 0) ⊎ (length (rows_after changes rows) ≡ length rows + length new)
    by true e = absurd (cc e)
    by false e = inr (subst (λ l. length (rows_after l rows) ≡ length rows + length new) (ok_is (map (Added n) new) changes e) (added_count n new rows))
insert_count t (Update n assignments condition) rows changes e = inl refl
insert_count t (Delete n condition) rows changes e = inl refl

-- how many rows the changes of a write leave
counted : (schema : VSchema) (w : Write) (changes : List RowChange) (db : Database) → changes_of schema w db ≡ Ok changes → written_table w < length db
    → row_count (all_applied changes db) + length (get_or db (written_table w) []) ≡ row_count db + length (rows_after changes (get_or db (written_table w) []))
counted schema w changes db is there =
    let n = written_table w in
    count_after changes db n (of_table (get_or schema.tables n no_table) w (get_or db n []) changes is) there

module _ (schema : VSchema) (limits : Limits) (o : Opening) (s : ShardRecord) (run : Run) (w : Write) (changes : List RowChange) where
  abbrev n : ℕ
  n = written_table w

  abbrev table : Table
  table = get_or schema.tables n no_table

  -- the quick test, over the same rows in some order, says that there is room
  pub room_from : (db : Database) → SameRows db (shard_rows o run s) → changes_of schema w db ≡ Ok changes → n < length db
      → has_room limits (length (entries_on s.slot run)) (length (stored_on s.slot run)) (row_count (shard_rows o run s)) w ≡ true → HasRoom o limits s run changes
  room_from db same is there h =
      let e = length (entries_on s.slot run) in
      let k = length (stored_on s.slot run) in
      let many = row_count (shard_rows o run s) in
      let a = and_parts (nat_lt e (2 ^ 40) && nat_lt k limits.stored) (nat_le (many + length (inserted_rows w)) limits.rows) h in
      let b = and_parts (nat_lt e (2 ^ 40)) (nat_lt k limits.stored) a.0 in
      let l = leb-true (many + length (inserted_rows w)) limits.rows a.1 in
      let c = counted schema w changes db is there in
      let d = write_count table w (get_or db n []) changes is in
      let before = row_count-same db (shard_rows o run s) same in
      let after = row_count-same (all_applied changes db) (all_applied changes (shard_rows o run s)) (all_applied-same changes db (shard_rows o run s) same) in
      record {
        rows = omega (arith, l, c, d, before, after);
        stored = ltb-true k limits.stored b.1;
        entries = ltb-true e (2 ^ 40) b.0;
      }

  -- and that there is none
  pub no_room_from : changes_of schema w (shard_rows o run s) ≡ Ok changes → n < length (shard_rows o run s) → row_count (shard_rows o run s) ≤ limits.rows
      → has_room limits (length (entries_on s.slot run)) (length (stored_on s.slot run)) (row_count (shard_rows o run s)) w ≡ false
      → HasRoom o limits s run changes → ⊥
  no_room_from is there within h room =
      let e = length (entries_on s.slot run) in
      let k = length (stored_on s.slot run) in
      let all : row_count (shard_rows o run s) + length (inserted_rows w) ≤ limits.rows = by (insert_count table w (get_or (shard_rows o run s) n []) changes is) in
      false≢true (sym h ∙ and_from (nat_lt e (2 ^ 40) && nat_lt k limits.stored) (nat_le (row_count (shard_rows o run s) + length (inserted_rows w)) limits.rows)
      (and_from (nat_lt e (2 ^ 40)) (nat_lt k limits.stored) (lt-ltb e (2 ^ 40) room.entries) (lt-ltb k limits.stored room.stored))
      (le-leb (row_count (shard_rows o run s) + length (inserted_rows w)) limits.rows all))
    where
      by : (length (inserted_rows w) ≡ 0)
          ⊎ (length (rows_after changes (get_or (shard_rows o run s) n [])) ≡ length (get_or (shard_rows o run s) n []) + length (inserted_rows w))
          → row_count (shard_rows o run s) + length (inserted_rows w) ≤ limits.rows
      by (inl none) = omega (arith, within, none)
      by (inr exact) = let c = counted schema w changes (shard_rows o run s) is there in let r = room.rows in omega (arith, c, r, exact)
