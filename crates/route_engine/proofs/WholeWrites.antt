-- What a write does on the one shard that it needs by a partition, it does to the one database: no other row of its table has to do with it.
use Rattle.std.proofs.Common.{◌≡◌, ℕ, zero, suc, ◌<◌, Bool, true, false, cond, ◌&&◌, ◌||◌, ◌==◌, List, [], ◌∷◌, ◌++◌, length, get_or, filter, map, flat_map, slice_get, Option, Some, None, Result, Ok, Err, refl, sym, ap, subst, ◌∙◌, inl, inr, arith}
use Rattle.std.specs.List.{AllByRecursion, list_any, list_all}
use Rattle.std.proofs.lemmas.Bool.{false≢true, and_parts, and_from, eqb-true, eq-eqb}
use Rattle.vt_value.specs.declared.refusal.Refusal.{Refusal}
use Rattle.vt_value.specs.declared.refusal.Refusal.TheVariants.{DuplicateKey}
use Rattle.vt_value.specs.Values.{Row, value_at}
use Rattle.sql_tree.specs.declared.Assignment.{Assignment}
use Rattle.sql_tree.specs.declared.Condition.{Condition}
use Rattle.keyrange.specs.Ranges.{has_id}
use Rattle.vschema.specs.declared.schema.ColumnVindex.{ColumnVindex}
use Rattle.vschema.specs.declared.schema.Place.{Place}
use Rattle.vschema.specs.declared.schema.Table.{Table}
use Rattle.vschema.specs.declared.schema.VSchema.{VSchema}
use Rattle.vschema.specs.declared.changes.Write.{Write}
use Rattle.vschema.specs.declared.changes.Write.TheVariants.{Insert, Update, Delete}
use Rattle.vschema.specs.declared.changes.RowChange.{RowChange}
use Rattle.vschema.specs.declared.changes.RowChange.TheVariants.{Added, Removed}
use Rattle.vschema.specs.Checks.{has_number}
use Rattle.vschema.specs.Schema.{key_of, row_id, no_table}
use Rattle.vschema.specs.Storable.{is_storable}
use Rattle.vschema.specs.TypedWrites.{IsTypedWrite}
use Rattle.vschema.specs.WellFormed.{is_vschema, is_table, is_vindex_right, is_in_keyspace, is_sharded_at}
use Rattle.vschema.specs.Database.{rows_of, lies_in, restrict, same_row}
use Rattle.shard_contents.specs.Conditions.{is_kept}
use Rattle.shard_contents.specs.Writes.{written_table, has_duplicate, row_updates, changes_over, changes_of}
use Rattle.shard_calls.specs.Routes.{table_at, takes, keys_of, route_of, insert_route}
use Rattle.shard_calls.proofs.Placed.{IsHome, rows_home}
use Rattle.shard_calls.proofs.Skips.{skipped}
use Rattle.shard_run.specs.declared.ShardRecord.{ShardRecord}
use Rattle.shard_run.specs.Runs.{Run, Opening, database}
use Rattle.shard_contents.specs.Legal.{Legal}
use Rattle.shard_run.specs.Openings.{IsOpening}
use Rattle.shard_contents.proofs.Fitting.{fits-from_typed}
use Rattle.shard_contents.proofs.Lists.{In, In-all, In-filter, In-map, all-from_In, all-from_list_all, filter-filter_weaker, filter-none}
use Rattle.shard_contents.proofs.Rows.{row_is}
use Rattle.shard_contents.proofs.Typed.{table_there}
use Rattle.serving.specs.Partitions.{Seat, IsPartition}
use Rattle.shard_calls.specs.Seats.{seat_of}
use Rattle.shard_calls.specs.Answers.{needed, needed_by, WritesAlone}
use Rattle.route_engine.proofs.Everywhere.{rows_restricted}
use Rattle.route_engine.proofs.Moments.{placed_at}
use Rattle.route_engine.proofs.Placing.{row_taken, only_one}
use Rattle.route_engine.proofs.Trying.{home_in, placed}

-- ---- rows of which only some have to do with a write

-- rows that give nothing may be left out
flat_some : {X A : Type 0} (p : X → Bool) (f : X → List A) (xs : List X) → AllByRecursion (λ x. p x ≡ false → f x ≡ []) xs → flat_map f (filter p xs) ≡ flat_map f xs
flat_some p f [] h = refl
flat_some p f (x ∷ xs) h = by (p x) refl (flat_some p f xs h.1)
  where
    by : (b : Bool) → p x ≡ b → flat_map f (filter p xs) ≡ flat_map f xs → flat_map f (cond b (x ∷ filter p xs) (filter p xs)) ≡ f x ++ flat_map f xs
    by true e rest = ap (λ l. f x ++ l) rest
    by false e rest = rest ∙ ap (λ l. l ++ flat_map f xs) (sym (h.0 e))

-- rows that fail a test may be left out of a search for one that passes it
any_some : {X : Type 0} (p q : X → Bool) (xs : List X) → AllByRecursion (λ x. q x ≡ true → p x ≡ true) xs → list_any q (filter p xs) ≡ list_any q xs
any_some p q [] h = refl
any_some p q (x ∷ xs) h = by (p x) refl (q x) refl (any_some p q xs h.1)
  where
    by : (b : Bool) → p x ≡ b → (c : Bool) → q x ≡ c → list_any q (filter p xs) ≡ list_any q xs
        → list_any q (cond b (x ∷ filter p xs) (filter p xs)) ≡ (c || list_any q xs)
    by true e true f rest = ap (λ c. c || list_any q (filter p xs)) f
    by true e false f rest = ap (λ c. c || list_any q (filter p xs)) f ∙ rest
    by false e true f rest = absurd (false≢true (sym e ∙ h.0 f))
    by false e false f rest = rest

updates_none : (n : ℕ) (assignments : List (Assignment ℕ)) (c : Option (Condition ℕ)) (row : Row) → is_kept c row ≡ false → row_updates n assignments c row ≡ []
updates_none n assignments c row e =
    ap (λ b. cond b (cond (same_row row (Rattle.shard_contents.specs.Writes.assigned assignments row)) []
    (Rattle.vschema.specs.declared.changes.RowChange.TheVariants.Replaced n row (Rattle.shard_contents.specs.Writes.assigned assignments row) ∷ [])) []) e

unkept : (kept lies : Bool) → (kept ≡ true → lies ≡ true) → lies ≡ false → kept ≡ false
unkept true lies h e = absurd (false≢true (sym e ∙ h refl))
unkept false lies h e = refl

-- ---- rows with one primary key have one keyspace id

same_at : {X A : Type 0} (f g : X → A) (xs : List X) → map f xs ≡ map g xs → (x : X) → In x xs → f x ≡ g x
same_at f g [] e x h = absurd h
same_at f g (y ∷ ys) e x (inl i) = ap f (sym i) ∙ Rattle.shard_contents.proofs.Rows.head_is e ∙ ap g i
same_at f g (y ∷ ys) e x (inr h) = same_at f g ys (Rattle.shard_contents.proofs.Rows.tail_is e) x h

number_in : (ns : List ℕ) (n : ℕ) → has_number ns n ≡ true → In n ns
number_in [] n e = absurd (false≢true e)
number_in (m ∷ ns) n e = by (m == n) refl (number_in ns n) e
  where
    by : (b : Bool) → (m == n) ≡ b → (has_number ns n ≡ true → In n ns) → (b || has_number ns n) ≡ true → In n (m ∷ ns)
    by true i rest f = inl (eqb-true m n i)
    by false i rest f = inr (rest f)

one_id : (t : Table) (sharded : Bool) (a b : Row) → is_vindex_right t sharded t.vindex ≡ true → same_row (key_of t a) (key_of t b) ≡ true → row_id t a ≡ row_id t b
one_id t sharded a b right same = by t.vindex refl right
  where
    by : (v : Option ColumnVindex) → t.vindex ≡ v → is_vindex_right t sharded v ≡ true → row_id (record t { vindex = v }) a ≡ row_id (record t { vindex = v }) b
    by None e r = refl
    by (Some v) e r =
        ap (Rattle.shard_contents.specs.KeyspaceIds.keyspace_id v.vindex)
        (same_at (value_at a) (value_at b) t.primary_key (row_is (key_of t a) (key_of t b) same) v.column
        (number_in t.primary_key v.column (and_parts (sharded && Rattle.vschema.specs.WellFormed.fits_vindex v (slice_get t.columns v.column) && Rattle.vschema.specs.WellFormed.is_needed t v.column)
        (has_number t.primary_key v.column) r).1))

-- a table's vindex column is in its primary key
at_place : {X : Type 0} (P : X → Type 0) (xs : List X) (n : ℕ) (d : X) → AllByRecursion P xs → n < length xs → P (get_or xs n d)
at_place P [] n d all there = absurd (omega (arith, there))
at_place P (x ∷ xs) zero d all there = all.0
at_place P (x ∷ xs) (suc n) d all there = at_place P xs n d all.1 (omega (arith, there))

record IsRight (t : Table) : Type 0 where
  sharded : Bool
  right : is_vindex_right t sharded t.vindex ≡ true

right_at : (t : Table) (sharded : Option Bool) → is_in_keyspace t sharded ≡ true → IsRight t
right_at t None e = absurd (false≢true e)
right_at t (Some sharded) e = record { sharded = sharded; right = e }

vindex_right : (schema : VSchema) → is_vschema schema ≡ true → (n : ℕ) → n < length schema.tables → IsRight (table_at schema n)
vindex_right schema e n there =
    let tables = all-from_list_all (is_table schema.keyspaces) schema.tables (and_parts _ (list_all (is_table schema.keyspaces) schema.tables) e).1 in
    let t : Table = table_at schema n in
    let is = at_place (λ x. is_table schema.keyspaces x ≡ true) schema.tables n no_table tables there in
    right_at t (is_sharded_at schema.keyspaces t.keyspace) (and_parts _ (is_in_keyspace t (is_sharded_at schema.keyspaces t.keyspace)) is).1

module _ (o : Opening) (opens : IsOpening o) (formed : is_vschema o.schema ≡ true) (run : Run) (legal : Legal o run) (n : ℕ) (there : n < length o.schema.tables)
    (seats : List Seat) (partition : IsPartition seats) where
  abbrev pub t : Table
  t = table_at o.schema n

  abbrev pub rows : List Row
  rows = rows_of (database o run) n

  -- the place of a seat
  abbrev pub ordinal_of : Seat → Place
  ordinal_of seat = record { keyspace = t.keyspace; range = seat.1 }

  -- each row lies in a seat, and one that a condition keeps in one that the condition's route takes
  pub record Home (c : Option (Condition ℕ)) (row : Row) : Type 0 where
    pub seat : Seat
    pub inside : In seat seats
    pub needs : takes t (route_of t None c) seat.1 ≡ true
    pub lies : lies_in (ordinal_of seat) t row ≡ true

  kept_home : (c : Option (Condition ℕ)) (row : Row) → In row rows → is_kept c row ≡ true → Home c row
  kept_home c row h kept =
      let w = home_in seats partition (row_id t row) in
      let place : Place = ordinal_of w.0 in
      let lies : lies_in place t row ≡ true = and_from (t.keyspace == t.keyspace) (has_id w.0.1 (row_id t row)) (eq-eqb t.keyspace t.keyspace refl) w.2 in
      let within : In row (rows_of (restrict o.schema place (database o run)) n) =
      subst (In row) (sym (rows_restricted o.schema.tables place (database o run) n there)) (In-filter (lies_in place t) row lies rows h) in
      let home : IsHome t (keys_of t None) (w.0.1, restrict o.schema place (database o run)) row =
      In-all (IsHome t (keys_of t None) (w.0.1, restrict o.schema place (database o run))) row (rows_of (restrict o.schema place (database o run)) n)
      (rows_home o.schema n (w.0.1, restrict o.schema place (database o run)) (placed_at o opens t.keyspace (n ∷ []) w.0.1 run legal)) within in
      record {
        seat = w.0;
        inside = w.1;
        needs = taken (w.0.1, restrict o.schema place (database o run)) home (takes t (route_of t None c) w.0.1) refl;
        lies = lies;
      }
    where
      taken : (shard : Rattle.shard_calls.specs.Plans.ShardRows) → IsHome t (keys_of t None) shard row → (b : Bool) → takes t (route_of t None c) shard.0 ≡ b → takes t (route_of t None c) shard.0 ≡ true
      taken shard home true e = e
      taken shard home false e = absurd (false≢true (sym (skipped t None shard c row home e) ∙ kept))

  abbrev pub Keeps : Option (Condition ℕ) → (Row → Bool) → Type 0
  Keeps c p = AllByRecursion (λ row. is_kept c row ≡ true → p row ≡ true) rows

  -- the rows that a condition keeps lie in the one seat that it needs, and none is kept where it needs none
  pub kept_here : (c : Option (Condition ℕ)) (seat : Seat) → needed t (route_of t None c) seats ≡ seat ∷ [] → Keeps c (lies_in (ordinal_of seat) t)
  kept_here c seat alone =
      all-from_In (λ row. is_kept c row ≡ true → lies_in (ordinal_of seat) t row ≡ true) rows
      (λ row h kept. let w = kept_home c row h kept in
      subst (λ (u : Seat). lies_in (ordinal_of u) t row ≡ true)
      (only_one w.seat seat (needed t (route_of t None c) seats) alone (In-filter (λ u. takes t (route_of t None c) u.1) w.seat w.needs seats w.inside)) w.lies)

  pub kept_nowhere : (c : Option (Condition ℕ)) → needed t (route_of t None c) seats ≡ [] → Keeps c (λ row. false)
  kept_nowhere c none =
      all-from_In (λ row. is_kept c row ≡ true → false ≡ true) rows
      (λ row h kept. let w = kept_home c row h kept in
      absurd (subst (In w.seat) none (In-filter (λ u. takes t (route_of t None c) u.1) w.seat w.needs seats w.inside)))

  updates_over : (assignments : List (Assignment ℕ)) (c : Option (Condition ℕ)) (p : Row → Bool) → Keeps c p
      → flat_map (row_updates n assignments c) (filter p rows) ≡ flat_map (row_updates n assignments c) rows
  updates_over assignments c p keeps =
      flat_some p (row_updates n assignments c) rows
      (Rattle.shard_contents.proofs.Lists.all-weaker (λ row. is_kept c row ≡ true → p row ≡ true) (λ row. p row ≡ false → row_updates n assignments c row ≡ [])
      (λ row h off. updates_none n assignments c row (unkept (is_kept c row) (p row) h off)) rows keeps)

  pub kept_over : (c : Option (Condition ℕ)) (p : Row → Bool) → Keeps c p → filter (is_kept c) (filter p rows) ≡ filter (is_kept c) rows
  kept_over c p keeps = filter-filter_weaker p (is_kept c) rows keeps

  pub filter_false : (xs : List Row) → filter (λ row. false) xs ≡ []
  filter_false [] = refl
  filter_false (x ∷ xs) = filter_false xs

  -- a row with the primary key of one that lies in a place lies there too
  duplicates : (place : Place) (xs new : List Row) → list_all (lies_in place t) new ≡ true
      → has_duplicate t (filter (lies_in place t) xs) new ≡ has_duplicate t xs new
  duplicates place xs [] lie = refl
  duplicates place xs (x ∷ new) lie =
      let h = and_parts (lies_in place t x) (list_all (lies_in place t) new) lie in
      let first = h.0 in
      let rest : has_duplicate t (x ∷ filter (lies_in place t) xs) new ≡ has_duplicate t (x ∷ xs) new = rw first at (duplicates place (x ∷ xs) new h.1) in
      ap (λ b. b || has_duplicate t (x ∷ filter (lies_in place t) xs) new)
      (any_some (lies_in place t) (λ row. same_row (key_of t x) (key_of t row)) xs
      (Rattle.shard_contents.proofs.Lists.all-each (λ row. same_row (key_of t x) (key_of t row) ≡ true → lies_in place t row ≡ true)
      (λ row same. ap (λ (id : List ℕ). (t.keyspace == place.keyspace) && has_id place.range id) (sym (one_id t (vindex_right o.schema formed n there).sharded x row (vindex_right o.schema formed n there).right same)) ∙ first) xs))
      ∙ ap (λ b. list_any (λ row. same_row (key_of t x) (key_of t row)) xs || b) rest

module _ (o : Opening) (opens : IsOpening o) (formed : is_vschema o.schema ≡ true) (run : Run) (legal : Legal o run) where
  abbrev over : Write → List Row → Result (List RowChange) Refusal
  over w rows = changes_over (table_at o.schema (written_table w)) w rows

  -- the place of a seat of the written table's keyspace
  abbrev there_at : Write → Seat → Place
  there_at w seat = record { keyspace = (table_at o.schema (written_table w)).keyspace; range = seat.1 }

  module _ (seats : List Seat) (partition : IsPartition seats) where
    over_here : (w : Write) → IsTypedWrite o.schema w → written_table w < length o.schema.tables → (seat : Seat) → needed_by o w seats ≡ seat ∷ []
        → over w (filter (lies_in (there_at w seat) (table_at o.schema (written_table w))) (rows_of (database o run) (written_table w))) ≡ over w (rows_of (database o run) (written_table w))
    over_here (Insert n new) typed there seat alone =
        ap (λ b. cond b (Err DuplicateKey) (Ok (map (Added n) new)))
        (duplicates o opens formed run legal n there seats partition (there_at (Insert n new) seat) (rows_of (database o run) n) new (placed o (Insert n new) typed seats partition seat alone))
    over_here (Update n assignments c) typed there seat alone =
        ap (λ (l : List RowChange). Ok l)
        (updates_over o opens formed run legal n there seats partition assignments c (lies_in (there_at (Update n assignments c) seat) (table_at o.schema n))
        (kept_here o opens formed run legal n there seats partition c seat alone))
    over_here (Delete n c) typed there seat alone =
        ap (λ (l : List Row). Ok (map (Removed n) l))
        (kept_over o opens formed run legal n there seats partition c (lies_in (there_at (Delete n c) seat) (table_at o.schema n))
        (kept_here o opens formed run legal n there seats partition c seat alone))

    -- each row of an INSERT needs a seat
    some_needed : (n : ℕ) (x : Row) (new : List Row) → is_storable (table_at o.schema n) x ≡ true → needed_by o (Insert n (x ∷ new)) seats ≡ [] → ⊥
    some_needed n x new fits none =
        let t : Table = table_at o.schema n in
        let w = home_in seats partition (row_id t x) in
        subst (In w.0) none
        (In-filter (λ u. takes t (insert_route t (x ∷ new)) u.1) w.0 (row_taken t (x ∷ new) x (inl refl) fits w.0.1 w.2) seats w.1)

    none_changed : (w : Write) → IsTypedWrite o.schema w → written_table w < length o.schema.tables → needed_by o w seats ≡ [] → changes_of o.schema w (database o run) ≡ Ok []
    none_changed (Insert n []) typed there none = refl
    none_changed (Insert n (x ∷ new)) typed there none = absurd (some_needed n x new (fits-from_typed o.schema (Insert n (x ∷ new)) typed).0 none)
    none_changed (Update n assignments c) typed there none =
        ap (λ (l : List RowChange). Ok l)
        (sym (updates_over o opens formed run legal n there seats partition assignments c (λ row. false) (kept_nowhere o opens formed run legal n there seats partition c none))
        ∙ ap (flat_map (row_updates n assignments c)) (filter_false o opens formed run legal n there seats partition (rows_of (database o run) n)))
    none_changed (Delete n c) typed there none =
        ap (λ (l : List Row). Ok (map (Removed n) l))
        (sym (kept_over o opens formed run legal n there seats partition c (λ row. false) (kept_nowhere o opens formed run legal n there seats partition c none))
        ∙ ap (filter (is_kept c)) (filter_false o opens formed run legal n there seats partition (rows_of (database o run) n)))

    -- a write that needs no shard changes nothing
    pub no_changes : (w : Write) → IsTypedWrite o.schema w → needed_by o w seats ≡ [] → changes_of o.schema w (database o run) ≡ Ok []
    no_changes w typed none = none_changed w typed (table_there o.schema w typed) none

  whole_at : (w : Write) → IsTypedWrite o.schema w → (seats : List Seat) → IsPartition seats → (seat : Seat) → needed_by o w seats ≡ seat ∷ []
      → changes_of o.schema w (restrict o.schema (there_at w seat) (database o run)) ≡ changes_of o.schema w (database o run)
  whole_at w typed seats partition seat alone =
      ap (over w) (rows_restricted o.schema.tables (there_at w seat) (database o run) (written_table w) (table_there o.schema w typed))
      ∙ over_here seats partition w typed (table_there o.schema w typed) seat alone

  -- the changes on the one shard are those of the whole database
  pub whole_changes : (w : Write) → IsTypedWrite o.schema w → (s : ShardRecord) → WritesAlone o w s
      → changes_of o.schema w (restrict o.schema s.place (database o run)) ≡ changes_of o.schema w (database o run)
  whole_changes w typed s alone =
      ap (λ (k : ℕ). changes_of o.schema w (restrict o.schema (record { keyspace = k; range = s.place.range }) (database o run))) alone.keyspace
      ∙ whole_at w typed alone.seats alone.partition (seat_of s) alone.only
