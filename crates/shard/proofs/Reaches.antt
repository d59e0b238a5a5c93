-- What the last Copy from a source tells, since a target copies its tables in the order of their names.
use Rattle.std.proofs.Common.{◌≡◌, ◌≢◌, ◌⊎◌, inl, inr, ℕ, zero, suc, ◌<◌, Bool, true, false, not, ◌&&◌, ◌||◌, ◌==◌, List, [], ◌∷◌, ◌++◌, length, map, filter, get_or, flat_map, Option, Some, None, bytes_eq, refl, sym, ap, ◌∙◌, subst, arith}
use Rattle.std.specs.Prelude.{if◌then◌else◌, nat_lt, nat_le}
use Rattle.std.specs.List.{AllByRecursion, list_any, list_all}
use Rattle.std.specs.Ordering.{is_lt, nat_cmp}
use Rattle.std.specs.Cmp.Lexicographic.{slice_cmp, texts_ties}
use Rattle.std.specs.declared.cmp.Ordering.{Ordering}
use Rattle.std.specs.declared.cmp.Ordering.TheVariants.{Less, Equal, Greater}
use Rattle.std.proofs.lemmas.Bool.{false≢true, eqb-true, eq-eqb, ne_eqb, and_parts, or_parts}
use Rattle.std.proofs.lemmas.Cmp.{nat_list_cmp_total}
use Rattle.std.proofs.lemmas.List.{append-nil, append_assoc}
use Rattle.std.proofs.lemmas.List.Folds.{list_any-append}
use Rattle.vt_value.specs.Values.{Row}
use Rattle.sql_tree.specs.Lexemes.{is_word}
use Rattle.vschema.specs.WriteChecks.{has_twice}
use Rattle.vschema.specs.declared.schema.Table.{Table}
use Rattle.vschema.specs.declared.schema.VSchema.{VSchema}
use Rattle.vschema.specs.Formed.{is_table}
use Rattle.vschema.specs.Schema.{no_table}
use Rattle.shard_run.specs.declared.ShardRecord.{ShardRecord}
use Rattle.shard_run.specs.declared.Copied as C
use Rattle.shard_run.specs.declared.Event.{Event}
use Rattle.shard_run.specs.declared.Event.TheVariants.{Commit, Follow, Copy, Freeze, Thaw, Retire, Serve}
use Rattle.shard_run.specs.declared.Entry.{Entry}
use Rattle.shard_run.specs.Runs.{Run, Opening, is_on}
use Rattle.shard_run.specs.Copies.{table_at, has_copied_all, is_copied, is_last}
use Rattle.shard_run.specs.Openings.{IsOpening}
use Rattle.shard_contents.specs.Legal.{Legal, LegalFrom, IsOnItsSlot, May, IsTableOf}
use Rattle.shard_contents.specs.Law.{rows_copied}
use Rattle.shard_contents.proofs.Runs.{entries-off}
use Rattle.shard_contents.specs.declared.target_steps.TargetStep.{TargetStep}
use Rattle.shard_contents.specs.declared.target_steps.TargetStep.TheVariants.{Followed, Copied}
use Rattle.shard_contents.specs.Progress.{last_row, steps_of, steps_on}
use Rattle.shard_contents.specs.Kept.{is_copy_from}
use Rattle.shard_contents.specs.inner.Rowed.{row_of}
use Rattle.shard_contents.proofs.Progress.{is_last_copy_of, steps-push, copied_is, last_copy, last_copy-push}
use Rattle.shard_contents.specs.Copying.{IsNextTable, is_reached}
use Rattle.shard_contents.proofs.CopySteps.{later, row_last, row_last-push, row_is, copied_tells}
use Rattle.shard.specs.inner.Reached.{is_named_before, HasReached, Tells, IsLastCopy, is_whole}
use Rattle.shard.specs.inner.Reached as reached

-- ---- the order of names

is_less : (o : Ordering) → is_lt o ≡ true → o ≡ Less
is_less Less e = refl
is_less Equal e = absurd (false≢true e)
is_less Greater e = absurd (false≢true e)

none_at : (name : List ℕ) (ts : List Table) (i : ℕ) → i < length ts → list_any (bytes_eq name) (map (λ t. t.name) ts) ≡ false
    → bytes_eq name (get_or ts i no_table).name ≡ false
none_at name [] i within none = absurd (omega (arith, within))
none_at name (t ∷ ts) zero within none = (or_parts (bytes_eq name t.name) (list_any (bytes_eq name) (map (λ t. t.name) ts)) none).0
none_at name (t ∷ ts) (suc i) within none =
    none_at name ts i (omega (arith, within)) (or_parts (bytes_eq name t.name) (list_any (bytes_eq name) (map (λ t. t.name) ts)) none).1

tables_apart : (ts : List Table) (i j : ℕ) → i < length ts → j < length ts → has_twice (map (λ t. t.name) ts) ≡ false
    → bytes_eq (get_or ts i no_table).name (get_or ts j no_table).name ≡ true → bytes_eq (get_or ts j no_table).name (get_or ts i no_table).name ≡ true → i ≡ j
tables_apart [] i j within inside once same back = absurd (omega (arith, within))
tables_apart (t ∷ ts) zero zero within inside once same back = refl
tables_apart (t ∷ ts) zero (suc j) within inside once same back =
    let parts = or_parts (list_any (bytes_eq t.name) (map (λ t. t.name) ts)) (has_twice (map (λ t. t.name) ts)) once in
    absurd (false≢true (sym (none_at t.name ts j (omega (arith, inside)) parts.0) ∙ same))
tables_apart (t ∷ ts) (suc i) zero within inside once same back =
    let parts = or_parts (list_any (bytes_eq t.name) (map (λ t. t.name) ts)) (has_twice (map (λ t. t.name) ts)) once in
    absurd (false≢true (sym (none_at t.name ts i (omega (arith, within)) parts.0) ∙ back))
tables_apart (t ∷ ts) (suc i) (suc j) within inside once same back =
    let parts = or_parts (list_any (bytes_eq t.name) (map (λ t. t.name) ts)) (has_twice (map (λ t. t.name) ts)) once in
    ap suc (tables_apart ts i j (omega (arith, within)) (omega (arith, inside)) parts.1 same back)

seventh : (a b c d e f g h : Bool) → (a && b && c && d && e && f && g && h) ≡ true → g ≡ true
seventh a b c d e f g h is = (and_parts (a && b && c && d && e && f) g (and_parts (a && b && c && d && e && f && g) h is).0).1

not_so : (b : Bool) → not b ≡ true → b ≡ false
not_so true e = absurd (false≢true e)
not_so false e = refl

module _ (schema : VSchema) where
  names_once : has_twice (map (λ t. t.name) schema.tables) ≡ false
  names_once =
      not_so (has_twice (map (λ t. t.name) schema.tables))
      (seventh (nat_le 1 (length schema.keyspaces)) (nat_le (length (filter (λ k. k.sharded) schema.keyspaces)) 1)
      (nat_le (length (filter (λ k. not k.sharded) schema.keyspaces)) 1) (list_all (λ k. is_word k.name) schema.keyspaces)
      (not (has_twice (map (λ k. k.name) schema.keyspaces))) (nat_le (length schema.tables) 256) (not (has_twice (map (λ t. t.name) schema.tables)))
      (list_all (is_table schema.keyspaces) schema.tables) schema.formed)

  before_before : (a b c : ℕ) → is_named_before schema a b ≡ true → is_named_before schema b c ≡ true → is_named_before schema a c ≡ true
  before_before a b c h g =
      let x = (table_at schema a).name in
      let y = (table_at schema b).name in
      let z = (table_at schema c).name in
      ap is_lt (nat_list_cmp_total.trans x y z (is_less (slice_cmp nat_cmp x y) h) (is_less (slice_cmp nat_cmp y z) g))

  data Order (m n : ℕ) : Type 0 where
    equal : m ≡ n → Order m n
    below : is_named_before schema m n ≡ true → Order m n
    above : is_named_before schema n m ≡ true → Order m n

  order : (m n : ℕ) → m < length schema.tables → n < length schema.tables → Order m n
  order m n within inside = by (slice_cmp nat_cmp x y) refl
    where
      x : List ℕ
      x = (table_at schema m).name

      y : List ℕ
      y = (table_at schema n).name

      by : (r : Ordering) → slice_cmp nat_cmp x y ≡ r → Order m n
      by Less e = below (ap is_lt e)
      by Greater e =
          above (ap is_lt (nat_list_cmp_total.antisymm y x ∙ ap Rattle.std.specs.Ordering.ordering_reverse e))
      by Equal e =
          let back : slice_cmp nat_cmp y x ≡ Equal = nat_list_cmp_total.antisymm y x ∙ ap Rattle.std.specs.Ordering.ordering_reverse e in
          equal (tables_apart schema.tables m n within inside names_once (texts_ties x y ∙ ap Rattle.std.specs.Ordering.is_eq e)
          (texts_ties y x ∙ ap Rattle.std.specs.Ordering.is_eq back))

-- ---- what it tells

module _ (schema : VSchema) (keyspace source : ℕ) where
  pub tells-same : (whole whole' : ℕ → Bool) (ends ends' : ℕ → Option Row) → ((m : ℕ) → whole' m ≡ whole m) → ((m : ℕ) → ends' m ≡ ends m) → (step : Option TargetStep)
      → Tells schema keyspace source whole ends step → Tells schema keyspace source whole' ends' step
  tells-same whole whole' ends ends' same rows _ (reached.none clear empty) =
      reached.none (λ m. same m ∙ clear m) (λ m. rows m ∙ empty m)
  tells-same whole whole' ends ends' same rows _ (reached.copied n place last row is) =
      reached.copied n place last row (record {
        table = is.table;
        here = same n ∙ is.here;
        end = λ e. rows n ∙ is.end e;
        earlier = λ m of_table before. same m ∙ is.earlier m of_table before;
        among = λ m all. is.among m (sym (same m) ∙ all);
        nothing = λ m other e. rows m ∙ is.nothing m other (sym (same m) ∙ e);
      })

  -- one more Copy, of the first table by name that isn't wholly copied
  module _ (whole : ℕ → Bool) (ends : ℕ → Option Row) (n place : ℕ) (last : Bool) (row : Option Row) (is_table : IsTableOf schema keyspace n) (unfinished : whole n ≡ false)
      (first : (m : ℕ) → IsTableOf schema keyspace m → is_named_before schema m n ≡ true → whole m ≡ true) (full : last ≡ false → (old : Option Row) → later row old ≡ row)
      (whole' : ℕ → Bool) (ends' : ℕ → Option Row) (here : whole' n ≡ last) (other : (m : ℕ) → m ≢ n → whole' m ≡ whole m)
      (row_here : ends' n ≡ later row (ends n)) (row_other : (m : ℕ) → m ≢ n → ends' m ≡ ends m) where
    not_itself : (m : ℕ) → whole m ≡ true → m ≢ n
    not_itself m all e = false≢true (sym unfinished ∙ ap whole (sym e) ∙ all)

    still : (m : ℕ) → whole m ≡ true → whole' m ≡ true
    still m all = other m (not_itself m all) ∙ all

    copied-next : ((m : ℕ) → whole m ≡ true → IsTableOf schema keyspace m × (is_named_before schema m n ≡ true))
        → ((m : ℕ) → m ≢ n → whole m ≡ false → ends m ≡ None) → Tells schema keyspace source whole' ends' (Some (Copied source n place last row))
    copied-next among nothing =
        reached.copied n place last row (record {
          table = is_table;
          here = here;
          end = λ e. row_here ∙ full e (ends n);
          earlier = λ m of_table before. still m (first m of_table before);
          among = λ m all. by m all (m == n) refl;
          nothing = λ m away e. row_other m away ∙ nothing m away (sym (other m away) ∙ e);
        })
      where
        by : (m : ℕ) → whole' m ≡ true → (b : Bool) → (m == n) ≡ b → (m ≡ n) ⊎ (IsTableOf schema keyspace m × (is_named_before schema m n ≡ true))
        by m all true e = inl (eqb-true m n e)
        by m all false e =
            let away : m ≢ n = λ same. false≢true (sym e ∙ eq-eqb m n same) in
            inr (among m (sym (other m away) ∙ all))

    pub one_copy : (step : Option TargetStep) → Tells schema keyspace source whole ends step → Tells schema keyspace source whole' ends' (Some (Copied source n place last row))
    one_copy _ (reached.none clear empty) =
        copied-next (λ m all. absurd (false≢true (sym (clear m) ∙ all))) (λ m away e. empty m)
    one_copy _ (reached.copied k at done end is) = copied-next among nothing
      where
        -- the table that was reached before is this one or before it
        on : Order schema k n → k ≢ n → is_named_before schema k n ≡ true
        on (equal e) away = absurd (away e)
        on (below e) away = e
        on (above e) away = absurd (false≢true (sym unfinished ∙ is.earlier n is_table e))

        before : (m : ℕ) → whole m ≡ true → IsTableOf schema keyspace m → Order schema m n → (m ≡ k) ⊎ (is_named_before schema m k ≡ true)
            → is_named_before schema m n ≡ true
        before m all of_table (equal e) w = absurd (not_itself m all e)
        before m all of_table (below e) w = e
        before m all of_table (above e) (inl r) =
            absurd (false≢true (sym unfinished ∙ is.earlier n is_table (subst (λ x. is_named_before schema n x ≡ true) r e)))
        before m all of_table (above e) (inr r) = absurd (false≢true (sym unfinished ∙ is.earlier n is_table (before_before schema n m k e r)))

        among : (m : ℕ) → whole m ≡ true → IsTableOf schema keyspace m × (is_named_before schema m n ≡ true)
        among m all = by (is.among m all)
          where
            by : (m ≡ k) ⊎ (IsTableOf schema keyspace m × (is_named_before schema m k ≡ true)) → IsTableOf schema keyspace m × (is_named_before schema m n ≡ true)
            by (inl e) =
                let of_table : IsTableOf schema keyspace m = subst (IsTableOf schema keyspace) (sym e) is.table in
                (of_table, before m all of_table (order schema m n of_table.0 is_table.0) (inl e))
            by (inr w) = (w.0, before m all w.0 (order schema m n w.0.0 is_table.0) (inr w.1))

        nothing : (m : ℕ) → m ≢ n → whole m ≡ false → ends m ≡ None
        nothing m away e = by (m == k) refl
          where
            by : (b : Bool) → (m == k) ≡ b → ends m ≡ None
            by false d = is.nothing m (λ same. false≢true (sym d ∙ eq-eqb m k same)) e
            by true d =
                let same = eqb-true m k d in
                let here : is_named_before schema k n ≡ true = on (order schema k n is.table.0 is_table.0) (λ r. away (same ∙ r)) in
                absurd (false≢true (sym e ∙ ap whole same ∙ first k is.table here))

-- ---- over the steps of a run

module _ (o : Opening) (target : ShardRecord) (source : ℕ) where
  abbrev whole_in : List TargetStep → ℕ → Bool
  whole_in steps m = list_any (is_last_copy_of source m) steps

  abbrev ends_in : List TargetStep → ℕ → Option Row
  ends_in steps m = row_last source m None steps

  abbrev TellsIn : List TargetStep → Option TargetStep → Type 0
  TellsIn steps step = Tells o.schema target.place.keyspace source (whole_in steps) (ends_in steps) step

  Told : List TargetStep → Type 0
  Told steps = TellsIn steps (last_copy source None steps)

  or_last : (steps : List TargetStep) (x : TargetStep) (m : ℕ) (b : Bool) → is_last_copy_of source m x ≡ b → whole_in (steps ++ x ∷ []) m ≡ (whole_in steps m || b)
  or_last steps x m b e =
      list_any-append (is_last_copy_of source m) steps (x ∷ [])
      ∙ ap (λ c. whole_in steps m || c) (or_false (is_last_copy_of source m x) ∙ e)
    where
      or_false : (c : Bool) → (c || false) ≡ c
      or_false true = refl
      or_false false = refl

  or_none : (b : Bool) → (b || false) ≡ b
  or_none true = refl
  or_none false = refl

  row_then : (steps : List TargetStep) (x : TargetStep) (m : ℕ) (r : Option Row) → row_of source m x ≡ r → ends_in (steps ++ x ∷ []) m ≡ later r (ends_in steps m)
  row_then steps x m r e = row_last-push source m None steps x ∙ ap (λ q. later q (ends_in steps m)) e

  -- a step that copies nothing from there changes nothing
  another : (steps : List TargetStep) (x : TargetStep) → is_copy_from source x ≡ false → Told steps → Told (steps ++ x ∷ [])
  unfolding Told
  another steps x away told =
      subst (TellsIn (steps ++ x ∷ []))
      (sym (last_copy-push source None steps x ∙ ap (λ b. if b then Some x else last_copy source None steps) away))
      (tells-same o.schema target.place.keyspace source (whole_in steps) (whole_in (steps ++ x ∷ [])) (ends_in steps) (ends_in (steps ++ x ∷ []))
      (λ m. or_last steps x m false (not_last x m away) ∙ or_none (whole_in steps m)) (λ m. row_then steps x m None (no_row x m away))
      (last_copy source None steps) told)
    where
      not_last : (x : TargetStep) (m : ℕ) → is_copy_from source x ≡ false → is_last_copy_of source m x ≡ false
      not_last (Followed from place) m e = refl
      not_last (Copied from of place last row) m e = ap (λ b. (b && (of == m)) && last) e

      no_row : (x : TargetStep) (m : ℕ) → is_copy_from source x ≡ false → row_of source m x ≡ None
      no_row (Followed from place) m e = refl
      no_row (Copied from of place last row) m e = ap (λ b. if b && (of == m) then row else None) e

  some_row : (rows : List Row) → nat_lt (length rows) 100 ≡ false → (old : Option Row) → later (last_row rows) old ≡ last_row rows
  some_row [] few old = absurd (false≢true (sym few))
  some_row (r ∷ rows) few old = by r rows
    where
      by : (r : Row) (rows : List Row) → later (last_row (r ∷ rows)) old ≡ last_row (r ∷ rows)
      by r [] = refl
      by r (s ∷ rows) = by s rows

  -- a Copy from there that may come
  one_more : (steps : List TargetStep) (c : C.Copied) → c.source ≡ source → IsTableOf o.schema target.place.keyspace c.table → whole_in steps c.table ≡ false
      → ((m : ℕ) → IsTableOf o.schema target.place.keyspace m → is_named_before o.schema m c.table ≡ true → whole_in steps m ≡ true) → Told steps
      → Told (steps ++ Copied c.source c.table c.log_position (is_last c) (last_row c.rows) ∷ [])
  unfolding Told
  one_more steps c from of_table unfinished first told =
      subst (TellsIn (steps ++ x ∷ []))
      (sym (last_copy-push source None steps x ∙ ap (λ b. if b then Some x else last_copy source None steps) (eq-eqb c.source source from)
      ∙ ap (λ s. Some (Copied s c.table c.log_position (is_last c) (last_row c.rows))) from))
      (one_copy o.schema target.place.keyspace source (whole_in steps) (ends_in steps) c.table c.log_position (is_last c) (last_row c.rows) of_table unfinished first
      (some_row c.rows) (whole_in (steps ++ x ∷ [])) (ends_in (steps ++ x ∷ []))
      (or_last steps x c.table (is_last c) (ap (λ b. (b && (c.table == c.table)) && is_last c) is_from ∙ ap (λ b. b && is_last c) (eq-eqb c.table c.table refl))
      ∙ ap (λ b. b || is_last c) unfinished)
      (λ m away.
      or_last steps x m false (ap (λ b. (b && (c.table == m)) && is_last c) is_from ∙ ap (λ b. b && is_last c) (ne_eqb c.table m (λ e. away (sym e))))
      ∙ or_none (whole_in steps m))
      (row_then steps x c.table (last_row c.rows)
      (ap (λ b. if b && (c.table == c.table) then last_row c.rows else None) is_from ∙ ap (λ b. if b then last_row c.rows else None) (eq-eqb c.table c.table refl)))
      (λ m away.
      row_then steps x m None (ap (λ b. if b && (c.table == m) then last_row c.rows else None) is_from
      ∙ ap (λ b. if b then last_row c.rows else None) (ne_eqb c.table m (λ e. away (sym e)))))
      (last_copy source None steps) told)
    where
      x : TargetStep
      x = Copied c.source c.table c.log_position (is_last c) (last_row c.rows)

      is_from : (c.source == source) ≡ true
      is_from = eq-eqb c.source source from

  -- the entries of a run
  one_entry : (run : Run) (e : Entry) → (e.shard.slot ≡ target.slot → e.shard ≡ target) → May o run e.shard e.event → Told (steps_on target.slot run)
      → Told (steps_on target.slot (run ++ e ∷ []))
  one_entry run e same may told = by (is_on target.slot e) refl
    where
      by : (b : Bool) → is_on target.slot e ≡ b → Told (steps_on target.slot (run ++ e ∷ []))
      by false off = subst Told (sym (ap (flat_map (λ (x : Entry). steps_of x.event)) (entries-off run e target.slot off))) told
      by true on =
          subst Told (sym (steps-push run e target.slot on))
          (this e.event (subst (λ s. May o run s e.event) (same (eqb-true e.shard.slot target.slot on)) may))
        where
          nothing : Told (steps_on target.slot run ++ [])
          nothing = subst Told (sym (append-nil (steps_on target.slot run))) told

          this : (ev : Event) → May o run target ev → Told (steps_on target.slot run ++ steps_of ev)
          this (Commit c) is = nothing
          this (Follow f) is = another (steps_on target.slot run) (Followed f.source f.log_position) refl told
          this (Copy c) is = at (c.source == source) refl
            where
              at : (b : Bool) → (c.source == source) ≡ b → Told (steps_on target.slot run ++ steps_of (Copy c))
              at false away = another (steps_on target.slot run) (Copied c.source c.table c.log_position (is_last c) (last_row c.rows)) away told
              at true from =
                  let here = eqb-true c.source source from in
                  one_more (steps_on target.slot run) c here is.table
                  (sym (copied_is run target.slot source c.table) ∙ ap (λ s. has_copied_all run target.slot s c.table) (sym here) ∙ is.unfinished)
                  (λ m of_table before.
                  sym (copied_is run target.slot source m) ∙ ap (λ s. has_copied_all run target.slot s m) (sym here) ∙ is.first m of_table before) told
          this Freeze is = nothing
          this Thaw is = nothing
          this (Retire targets) is = nothing
          this Serve is = nothing

  along : (before run : Run) → AllByRecursion (λ e. e.shard.slot ≡ target.slot → e.shard ≡ target) run → Told (steps_on target.slot before)
      → LegalFrom o before run → Told (steps_on target.slot (before ++ run))
  along before [] all told legal = subst (λ r. Told (steps_on target.slot r)) (sym (append-nil before)) told
  along before (e ∷ run) all told legal =
      subst (λ r. Told (steps_on target.slot r)) (append_assoc before (e ∷ []) run)
      (along (before ++ e ∷ []) run all.1 (one_entry before e all.0 legal.1 told) legal.2)

  told_at_first : Told []
  unfolding Told
  told_at_first = reached.none (λ m. refl) (λ m. refl)

  -- the last Copy of a legal run tells
  pub last_copy_tells : (run : Run) → Legal o run → IsOnItsSlot o run target → IsLastCopy o run target source (last_copy source None (steps_on target.slot run))
  unfolding Told
  last_copy_tells run legal stands =
      tells-same o.schema target.place.keyspace source (whole_in (steps_on target.slot run)) (has_copied_all run target.slot source) (ends_in (steps_on target.slot run))
      (λ n. last_row (rows_copied run target.slot source n)) (copied_is run target.slot source) (row_is run target.slot source)
      (last_copy source None (steps_on target.slot run)) (along [] run stands.same told_at_first legal)

-- ---- what follows from it

module _ (schema : VSchema) (keyspace source : ℕ) (whole : ℕ → Bool) (ends : ℕ → Option Row) where
  -- a table is wholly copied
  pub whole_told : (n : ℕ) (last : Bool) (row : Option Row) → HasReached schema keyspace whole ends n last row → (m : ℕ) → m < length schema.tables
      → whole m ≡ is_whole schema keyspace n last m
  whole_told n last row is m there = by (m == n) refl
    where
      by : (b : Bool) → (m == n) ≡ b → whole m ≡ (if b then last else (((table_at schema m).keyspace == keyspace) && is_named_before schema m n))
      by true e = ap whole (eqb-true m n e) ∙ is.here
      by false e = at (whole m) refl
        where
          at : (w : Bool) → whole m ≡ w → whole m ≡ (((table_at schema m).keyspace == keyspace) && is_named_before schema m n)
          at true all = with_it (is.among m all)
            where
              with_it : (m ≡ n) ⊎ (IsTableOf schema keyspace m × (is_named_before schema m n ≡ true))
                  → whole m ≡ (((table_at schema m).keyspace == keyspace) && is_named_before schema m n)
              with_it (inl same) = absurd (false≢true (sym e ∙ eq-eqb m n same))
              with_it (inr w) =
                  all ∙ sym (ap (λ b. b && is_named_before schema m n) (eq-eqb (table_at schema m).keyspace keyspace w.0.1) ∙ w.1)
          at false left = with_it (((table_at schema m).keyspace == keyspace) && is_named_before schema m n) refl
            where
              with_it : (b : Bool) → (((table_at schema m).keyspace == keyspace) && is_named_before schema m n) ≡ b
                  → whole m ≡ (((table_at schema m).keyspace == keyspace) && is_named_before schema m n)
              with_it false d = left ∙ sym d
              with_it true d =
                  let parts = and_parts ((table_at schema m).keyspace == keyspace) (is_named_before schema m n) d in
                  absurd (false≢true (sym left ∙ is.earlier m (there, eqb-true (table_at schema m).keyspace keyspace parts.0) parts.1))

  -- where the table isn't wholly copied, the Copy's row is the last
  pub row_told : (n place : ℕ) (last : Bool) (row : Option Row) → HasReached schema keyspace whole ends n last row → (m : ℕ) → whole m ≡ false
      → ends m ≡ row_of source m (Copied source n place last row)
  row_told n place last row is m left = by (n == m) refl
    where
      from : (source == source) ≡ true
      from = eq-eqb source source refl

      by : (b : Bool) → (n == m) ≡ b → ends m ≡ (if (source == source) && (n == m) then row else None)
      by true e =
          let same = eqb-true n m e in
          ap ends (sym same) ∙ is.end (sym is.here ∙ ap whole same ∙ left)
          ∙ sym (ap (λ b. if b && (n == m) then row else None) from ∙ ap (λ b. if b then row else None) e)
      by false e =
          is.nothing m (λ same. false≢true (sym e ∙ eq-eqb n m (sym same))) left
          ∙ sym (ap (λ b. if b && (n == m) then row else None) from ∙ ap (λ b. if b then row else None) e)

module _ (o : Opening) (run : Run) (target : ShardRecord) (source : ℕ) where
  -- a table that was begun comes next
  pub begun_next : (from n place : ℕ) (last : Bool) (row : Option Row) → IsLastCopy o run target source (Some (Copied from n place last row)) → last ≡ false
      → IsNextTable o run target source n
  begun_next _ n place last row (reached.copied _ _ _ _ is) more = record { table = is.table; unfinished = is.here ∙ more; first = is.earlier }

  -- what is copied of a table, once the last row of one that isn't wholly copied is known
  pub by_last : IsOpening o → Legal o run → (n : ℕ) (row : Row) (end : Option Row)
      → (has_copied_all run target.slot source n ≡ false → last_row (rows_copied run target.slot source n) ≡ end)
      → is_copied o.schema run target.slot source n row
      ≡ (has_copied_all run target.slot source n || is_reached (table_at o.schema n) end row)
  by_last opens legal n row end told = by (has_copied_all run target.slot source n) refl
    where
      tells : is_copied o.schema run target.slot source n row
          ≡ (has_copied_all run target.slot source n || is_reached (table_at o.schema n) (last_row (rows_copied run target.slot source n)) row)
      tells = copied_tells o opens run legal target.slot source n row

      by : (b : Bool) → has_copied_all run target.slot source n ≡ b
          → is_copied o.schema run target.slot source n row
          ≡ (has_copied_all run target.slot source n || is_reached (table_at o.schema n) end row)
      by true e =
          tells ∙ ap (λ b. b || is_reached (table_at o.schema n) (last_row (rows_copied run target.slot source n)) row) e
          ∙ sym (ap (λ b. b || is_reached (table_at o.schema n) end row) e)
      by false e = tells ∙ ap (λ r. has_copied_all run target.slot source n || is_reached (table_at o.schema n) r row) (told e)

  pub end_by : (x : TargetStep) → IsLastCopy o run target source (Some x) → (n : ℕ) → has_copied_all run target.slot source n ≡ false
      → last_row (rows_copied run target.slot source n) ≡ row_of source n x
  end_by _ (reached.copied k place last row is) n left =
      row_told o.schema target.place.keyspace source (has_copied_all run target.slot source) (λ m. last_row (rows_copied run target.slot source m)) k place last
      row is n left

  pub end_none : IsLastCopy o run target source None → (n : ℕ) → last_row (rows_copied run target.slot source n) ≡ None
  end_none (reached.none clear empty) n = empty n

  -- the table of the last Copy is one
  pub reached_within : (from n place : ℕ) (last : Bool) (row : Option Row) → IsLastCopy o run target source (Some (Copied from n place last row))
      → n < length o.schema.tables
  reached_within _ n place last row (reached.copied _ _ _ _ is) = is.table.0

  pub whole_by : (from n place : ℕ) (last : Bool) (row : Option Row) → IsLastCopy o run target source (Some (Copied from n place last row)) → (m : ℕ)
      → m < length o.schema.tables → has_copied_all run target.slot source m ≡ is_whole o.schema target.place.keyspace n last m
  whole_by _ n place last row (reached.copied _ _ _ _ is) m there =
      whole_told o.schema target.place.keyspace source (has_copied_all run target.slot source) (λ m. last_row (rows_copied run target.slot source m)) n last row is
      m there

  -- without one nothing is wholly copied
  pub none_whole : (step : Option TargetStep) → IsLastCopy o run target source step
      → ((from n place : ℕ) (last : Bool) (row : Option Row) → step ≡ Some (Copied from n place last row) → ⊥) → (m : ℕ)
      → has_copied_all run target.slot source m ≡ false
  none_whole _ (reached.none clear empty) other m = clear m
  none_whole _ (reached.copied n place last row is) other m = absurd (other source n place last row refl)
