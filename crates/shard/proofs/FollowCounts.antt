-- A Follow takes only rows that are there, so that the target's rows after it are as many as counts tell.
use Rattle.std.proofs.Common.{◌≡◌, ◌⊎◌, inl, inr, ℕ, zero, suc, ◌+◌, ◌-◌, ◌<◌, ◌≤◌, Bool, true, false, not, cond, ◌&&◌, ◌==◌, List, [], ◌∷◌, ◌++◌, length, get_or, map, filter, slice_get, Option, Some, None, refl, sym, ap, ◌∙◌, subst, arith, length-append}
use Rattle.std.specs.Prelude.{count_by, Contains}
use Rattle.std.specs.List.{AllByRecursion, sum_by}
use Rattle.std.proofs.lemmas.Bool.{true≢false, false≢true, and_parts, and_from, eq-eqb, eqb-true, not_from_false}
use Rattle.std.proofs.lemmas.List.Elements.{filter-append}
use Rattle.std.proofs.lemmas.List.Sums.{sum_by-cons, sum_by-set}
use Rattle.vt_value.specs.Values.{Row}
use Rattle.vschema.specs.declared.schema.VSchema.{VSchema}
use Rattle.vschema.specs.declared.schema.Table.{Table}
use Rattle.vschema.specs.declared.schema.Place.{Place}
use Rattle.vschema.specs.Ranges.{has_id}
use Rattle.vschema.specs.declared.changes.Write.{Write}
use Rattle.vschema.specs.declared.changes.RowChange.{RowChange}
use Rattle.vschema.specs.declared.changes.RowChange.TheVariants.{Added, Replaced, Removed}
use Rattle.vschema.specs.Schema.{no_table}
use Rattle.vschema.specs.Database.{Database, SameRows, rows_of, without, applied, all_applied, changed_table, lies_in, restrict, change_lies_in, restricted_changes}
use Rattle.shard_contents.specs.Writes.{written_table}
use Rattle.shard_contents.proofs.ChangeLemmas.{rows-same}
use Rattle.shard_run.specs.declared.ShardRecord.{ShardRecord}
use Rattle.shard_run.specs.declared.Follow as F
use Rattle.shard_run.specs.declared.Commit as C
use Rattle.shard_run.specs.declared.Mode.{Mode}
use Rattle.shard_run.specs.declared.Mode.TheVariants.{Following, Serving}
use Rattle.shard_run.specs.declared.Event.{Event}
use Rattle.shard_run.specs.declared.Event.TheVariants.{Commit, Follow, Copy, Freeze, Thaw, Retire, Serve}
use Rattle.shard_run.specs.declared.Entry.{Entry}
use Rattle.shard_run.specs.Openings.{IsOpening, row_count}
use Rattle.shard_run.specs.Runs.{Run, Opening, database, shard_rows, first_rows, mode, mode_from, mode_after, opening_rows, opening_part, is_opening, answers_queries, is_on, is_stored, stored_on, stored_changes, entries_on, IsShardOf}
use Rattle.shard_run.specs.Copies.{position, position_from, table_at, has_copied, is_copied, change_is_copied}
use Rattle.shard_contents.specs.Legal.{Legal, May, MayCommit, MayFollowSource, Had, AreChangesOf, IsOnItsSlot}
use Rattle.shard_contents.specs.Law.{SourcesApart, IsApartFrom, taken_rows, copied_rows}
use Rattle.shard_contents.proofs.Databases.{length-applied}
use Rattle.shard_contents.proofs.Rows.{head_is, tail_is}
use Rattle.shard_contents.proofs.Lists.{In, In-map, In-all, In-from_filter, Contains-from_In, slice_get-In, all-filter, all-passed, all-weaker}
use Rattle.shard_contents.proofs.Keeps.{IsKept}
use Rattle.shard_contents.proofs.Runs.{log, log-on, Of, of-later, Live, Slots, IsFit, IsInside, held_stored}
use Rattle.shard_contents.proofs.AtOneId.{not_following, still_follows}
use Rattle.shard_contents.proofs.Has.{of_shard, of-longer, restricted-longer}
use Rattle.shard_contents.proofs.Holds.{holds_its_part}
use Rattle.shard_contents.proofs.ShardLawCopying.{copies_its_part, within_parts, held_long}
use Rattle.shard_contents.proofs.Stands.{is_shard, stands_where_it_served}
use Rattle.shard_contents.proofs.Law as law
use Rattle.shard_contents.proofs.ShardLawCounts.{count, once, effect, tally, tally-cons, tally-none, count_at, count-applied, count-all_applied, count-filter_in, count-permuted, Test, Keeps, passes, other_row, effect-away}
use Rattle.shard_contents.specs.Limits.{Limits}
use Rattle.shard_contents.specs.Commits.{is_added, is_removed}
use Rattle.shard_contents.specs.inner.Stores.{row_after}
use Rattle.shard_contents.proofs.Bags.{length-same}
use Rattle.shard_contents.proofs.Changes.{AreOf, of_table}
use Rattle.shard_contents.proofs.Counts.{one_applied}
use Rattle.shard_contents.proofs.Commits.{applied-append}
use Rattle.shard.proofs.Totals.{takes, AreTaken, once-itself, without-length, write_taken, permuted_taken, permuted_of, by-cons}

-- ---- changes that take only rows that are there

module _ (r : Row) (n : ℕ) where
  -- how often a change takes the row away from the table n
  abbrev pub taken_at : RowChange → ℕ
  taken_at (Added m row) = 0
  taken_at (Replaced m old new) = cond (m == n) (once r old) 0
  taken_at (Removed m row) = cond (m == n) (once r row) 0

  -- where the row stands so often there, no change takes it away where it is not
  abbrev pub AreThere : List RowChange → ℕ → Type 0
  AreThere [] v = Unit {0}
  AreThere (c ∷ changes) v = (taken_at c ≤ v) × AreThere changes (effect r n c v)

  pub there_then : (a b : List RowChange) (v : ℕ) → AreThere a v → AreThere b (tally r n a v) → AreThere (a ++ b) v
  there_then [] b v first rest = subst (AreThere b) (tally-none r n v) rest
  there_then (c ∷ a) b v first rest = (first.0, there_then a b (effect r n c v) first.1 (subst (AreThere b) (tally-cons r n c a v) rest))

  few_taken : (c : RowChange) (v : ℕ) → v ≤ effect r n c v + taken_at c
  few_taken (Added m row) v = by (m == n)
    where
      by : (b : Bool) → v ≤ cond b (v + once r row) v + 0
      by true = omega arith
      by false = omega arith
  few_taken (Replaced m old new) v = by (m == n)
    where
      by : (b : Bool) → v ≤ cond b ((v - once r old) + once r new) v + cond b (once r old) 0
      by true = omega arith
      by false = omega arith
  few_taken (Removed m row) v = by (m == n)
    where
      by : (b : Bool) → v ≤ cond b (v - once r row) v + cond b (once r row) 0
      by true = omega arith
      by false = omega arith

  -- no more are taken than are there
  there_by_sum : (changes : List RowChange) (v : ℕ) → sum_by taken_at changes ≤ v → AreThere changes v
  there_by_sum [] v h = tt
  there_by_sum (c ∷ changes) v h =
      let s = sum_by-cons taken_at c changes in
      let k = few_taken c v in
      (omega (arith, h, s), there_by_sum changes (effect r n c v) (omega (arith, h, s, k)))

  -- the changes of one table
  takes_here : (changes : List RowChange) (m : ℕ) → AreOf m changes → (m == n) ≡ true → sum_by taken_at changes ≡ sum_by (takes r) changes
  takes_here [] m of e = refl
  takes_here (c ∷ changes) m of e =
      let s = sum_by-cons taken_at c changes in
      let t = sum_by-cons (takes r) c changes in
      let rest = takes_here changes m of.1 e in
      let here = database c of.0 in
      omega (arith, s, t, rest, here)
    where
      database : (c : RowChange) → changed_table c ≡ m → taken_at c ≡ takes r c
      database (Added k row) i = refl
      database (Replaced k old new) i = ap (λ b. cond b (once r old) 0) (ap (λ z. z == n) i ∙ e)
      database (Removed k row) i = ap (λ b. cond b (once r row) 0) (ap (λ z. z == n) i ∙ e)

  takes_away : (changes : List RowChange) (m : ℕ) → AreOf m changes → (m == n) ≡ false → sum_by taken_at changes ≡ 0
  takes_away [] m of e = refl
  takes_away (c ∷ changes) m of e =
      let s = sum_by-cons taken_at c changes in
      let rest = takes_away changes m of.1 e in
      let here = database c of.0 in
      omega (arith, s, rest, here)
    where
      database : (c : RowChange) → changed_table c ≡ m → taken_at c ≡ 0
      database (Added k row) i = refl
      database (Replaced k old new) i = ap (λ b. cond b (once r old) 0) (ap (λ z. z == n) i ∙ e)
      database (Removed k row) i = ap (λ b. cond b (once r row) 0) (ap (λ z. z == n) i ∙ e)

  -- those of writes
  pub written_there : (schema : VSchema) (writes : List Write) (db : Database) (changes : List RowChange) → AreChangesOf schema writes db changes → n < length db
      → AreThere changes (count_at r n db)
  written_there schema [] db changes are there = subst (λ l. AreThere l (count_at r n db)) (sym are) tt
  written_there schema (w ∷ writes) db changes (first, rest, split, (exact, is, of), are) there =
      let m = written_table w in
      let t : Table = get_or schema.tables m no_table in
      let rows = rows_of db m in
      let own = permuted_of m exact first of (of_table t w rows exact is) in
      let taken = permuted_taken exact first rows of (write_taken t w rows exact is) in
      let same = Rattle.shard_contents.proofs.Databases.length-all_applied first db in
      let more = written_there schema writes (all_applied first db) rest are (omega (arith, there, same)) in
      subst (λ l. AreThere l (count_at r n db)) (sym split)
      (there_then first rest (count_at r n db) (there_by_sum first (count_at r n db) (few first m own taken (m == n) refl))
      (subst (AreThere rest) (count-all_applied r n first db there) more))
    where
      few : (first : List RowChange) (m : ℕ) → AreOf m first → AreTaken first (rows_of db m) → (b : Bool) → (m == n) ≡ b → sum_by taken_at first ≤ count_at r n db
      few first m own taken true e =
          let a = takes_here first m own e in
          let t = taken r in
          let s = ap (λ k. count r (get_or db k [])) (eqb-true m n e) in
          omega (arith, a, t, s)
      few first m own taken false e = let a = takes_away first m own e in omega (arith, a)

  -- a change that doesn't pass a test takes no row away that does
  taken_away : (p : Test) → p n r ≡ true → (c : RowChange) → Keeps p c → passes p c ≡ false → taken_at c ≡ 0
  taken_away p passed (Added m row) k f = refl
  taken_away p passed (Replaced m old new) k f = by (m == n) refl
    where
      by : (b : Bool) → (m == n) ≡ b → cond b (once r old) 0 ≡ 0
      by true e = other_row r n p passed m old e (k ∙ f)
      by false e = refl
  taken_away p passed (Removed m row) k f = by (m == n) refl
    where
      by : (b : Bool) → (m == n) ≡ b → cond b (once r row) 0 ≡ 0
      by true e = other_row r n p passed m row e f
      by false e = refl

  -- of the changes those that pass, where the row passes
  pub there_filter : (p : Test) → p n r ≡ true → (changes : List RowChange) → AllByRecursion (Keeps p) changes → (v : ℕ) → AreThere changes v
      → AreThere (filter (passes p) changes) v
  there_filter p passed [] k v h = tt
  there_filter p passed (c ∷ changes) k v h = by (passes p c) refl (there_filter p passed changes k.1)
    where
      by : (b : Bool) → passes p c ≡ b → ((v : ℕ) → AreThere changes v → AreThere (filter (passes p) changes) v)
          → AreThere (cond b (c ∷ filter (passes p) changes) (filter (passes p) changes)) v
      by true e more = (h.0, more (effect r n c v) h.1)
      by false e more = more v (subst (AreThere changes) (effect-away r n p passed c k.0 e v) h.1)

  -- changes of which none passes, where the row does
  pub there_away : (p : Test) → p n r ≡ true → (changes : List RowChange) → AllByRecursion (Keeps p) changes → AllByRecursion (λ c. passes p c ≡ false) changes
      → (v : ℕ) → AreThere changes v
  there_away p passed [] k f v = tt
  there_away p passed (c ∷ changes) k f v =
      let z = taken_away p passed c k.0 f.0 in
      (omega (arith, z), there_away p passed changes k.1 f.1 (effect r n c v))

-- ---- as many rows as counts tell

abbrev AllThere : List RowChange → Database → Type 0
AllThere changes db = (r : Row) (n : ℕ) → n < length db → AreThere r n changes (count_at r n db)

one_exact : (c : RowChange) (db : Database) → changed_table c < length db → ((r : Row) → taken_at r (changed_table c) c ≤ count_at r (changed_table c) db)
    → length (row_after c (get_or db (changed_table c) [])) + cond (is_removed c) 1 0 ≡ length (get_or db (changed_table c) []) + cond (is_added c) 1 0
one_exact (Added m row) db within h = let l = length-append (get_or db m []) (row ∷ []) in omega (arith, l)
one_exact (Replaced m old new) db within h =
    let e = ap (λ b. cond b (once old old) 0) (eq-eqb m m refl) in
    let o = once-itself old in
    let t = h old in
    let database = without-length old (get_or db m []) (omega (arith, e, o, t)) in
    let l = length-append (without old (get_or db m [])) (new ∷ []) in
    omega (arith, database, l)
one_exact (Removed m row) db within h =
    let e = ap (λ b. cond b (once row row) 0) (eq-eqb m m refl) in
    let o = once-itself row in
    let t = h row in
    let database = without-length row (get_or db m []) (omega (arith, e, o, t)) in
    omega (arith, database)

pub total_there : (changes : List RowChange) (db : Database) → AllByRecursion (λ c. changed_table c < length db) changes → AllThere changes db
    → row_count (all_applied changes db) + count_by is_removed changes ≡ row_count db + count_by is_added changes
total_there [] db within h = refl
total_there (c ∷ changes) db within h =
    let n = changed_table c in
    let same = length-applied c db in
    let rest = total_there changes (applied c db) (subst (λ (k : ℕ). AllByRecursion (λ c. changed_table c < k) changes) (sym same) within.1)
    (λ r m l.
    let k : m < length db = omega (arith, l, same) in
    subst (AreThere r m changes) (sym (count-applied r m c db k)) (h r m k).1) in
    let database = ap row_count (one_applied c db n refl) in
    let all = sum_by-set length db n (row_after c (get_or db n [])) [] within.0 in
    let exact = one_exact c db within.0 (λ r. (h r n within.0).0) in
    let a = by-cons is_added c changes (is_added c) refl in
    let d = by-cons is_removed c changes (is_removed c) refl in
    omega (arith, rest, database, all, exact, a, d)

-- ---- the run up to a stored entry

same_some : {X : Type 0} (x y : X) → Some x ≡ Some y → x ≡ y
same_some {X} x y e = ap or e
  where
    or : Option X → X
    or None = x
    or (Some z) = z

record Nth {X : Type 0} (p : X → Bool) (xs : List X) (k : ℕ) (x : X) : Type 0 where
  pub front : List X
  pub back : List X
  pub is : xs ≡ front ++ x ∷ back
  pub count : length (filter p front) ≡ k
  pub passes_it : p x ≡ true

nth_kept : {X : Type 0} (p : X → Bool) (xs : List X) (k : ℕ) (x : X) → slice_get (filter p xs) k ≡ Some x → Nth p xs k x
nth_kept p [] k x e = absurd (cc e)
nth_kept {X} p (y ∷ xs) k x e = by (p y) refl k e (λ j h. nth_kept p xs j x h)
  where
    by : (b : Bool) → p y ≡ b → (k : ℕ) → slice_get (cond b (y ∷ filter p xs) (filter p xs)) k ≡ Some x
        → ((j : ℕ) → slice_get (filter p xs) j ≡ Some x → Nth p xs j x) → Nth p (y ∷ xs) k x
    by true i zero e more =
        let same = same_some y x e in
        record { front = []; back = xs; is = ap (λ z. z ∷ xs) same; count = refl; passes_it = ap p (sym same) ∙ i }
    by true i (suc j) e more =
        let m = more j e in
        let c : length (filter p (y ∷ m.front)) ≡ suc j = ap (λ b. length (cond b (y ∷ filter p m.front) (filter p m.front))) i ∙ ap suc m.count in
        record { front = y ∷ m.front; back = m.back; is = ap (λ l. y ∷ l) m.is; count = c; passes_it = m.passes_it }
    by false i j e more =
        let m = more j e in
        let c : length (filter p (y ∷ m.front)) ≡ j = ap (λ b. length (cond b (y ∷ filter p m.front) (filter p m.front))) i ∙ m.count in
        record { front = y ∷ m.front; back = m.back; is = ap (λ l. y ∷ l) m.is; count = c; passes_it = m.passes_it }

-- a beginning with no more kept items than are before an item that is kept lies before it
earlier_cut : {X : Type 0} (p : X → Bool) (a x b y : List X) (e : X) → a ++ x ≡ b ++ e ∷ y → p e ≡ true → length (filter p a) ≤ length (filter p b)
    → (mid : List X) × (b ≡ a ++ mid)
earlier_cut p [] x b y e same kept few = (b, refl)
earlier_cut p (z ∷ a) x [] y e same kept few =
    let i : p z ≡ true = ap p (head_is same) ∙ kept in
    let c : length (filter p (z ∷ a)) ≡ suc (length (filter p a)) = ap (λ b. length (cond b (z ∷ filter p a) (filter p a))) i in
    absurd (omega (arith, few, c))
earlier_cut {X} p (z ∷ a) x (w ∷ b) y e same kept few =
    let i = head_is same in
    let h = earlier_cut p a x b y e (tail_is same) kept (by (p z) refl (p w) (ap p (sym i)) few) in
    (h.0, ap (λ v. v ∷ b) (sym i) ∙ ap (λ l. z ∷ l) h.1)
  where
    by : (c : Bool) → p z ≡ c → (d : Bool) → d ≡ p z
        → length (cond c (z ∷ filter p a) (filter p a)) ≤ length (cond d (w ∷ filter p b) (filter p b)) → length (filter p a) ≤ length (filter p b)
    by true i true j l = omega (arith, l)
    by false i false j l = l
    by true i false j l = absurd (false≢true (j ∙ i))
    by false i true j l = absurd (true≢false (j ∙ i))

still_from : (m : Mode) (run : Run) → mode_from m run ≡ Following → m ≡ Following
still_from m [] h = h
still_from m (e ∷ run) h = still_follows m e.event (still_from (mode_after m e.event) run h)

back_from : (m : Mode) (a b : Run) → mode_from m (a ++ b) ≡ Following → mode_from m a ≡ Following
back_from m [] b h = still_from m b h
back_from m (e ∷ a) b h = back_from (mode_after m e.event) a b h

-- a shard that follows has followed before
follows_back : (o : Opening) (a b : Run) (slot : ℕ) → mode o (a ++ b) slot ≡ Following → mode o a slot ≡ Following
follows_back o a b slot h =
    let first : Mode = cond (is_opening o slot) Serving Following in
    back_from first (entries_on slot a) (entries_on slot b) (sym (ap (mode_from first) (filter-append (is_on slot) a b)) ∙ h)

-- ---- a Follow that may come next

module _ (o : Opening) (opens : IsOpening o) (run : Run) (legal : Legal o run) (t : ShardRecord) (stands : IsOnItsSlot o run t) (f : F.Follow)
    (m : MayFollowSource o run t f) (apart : SourcesApart o run t) where
  abbrev stored_there : Entry → Bool
  stored_there x = is_on f.source x && is_stored x.event

  abbrev u : ShardRecord
  u = m.entry.shard

  abbrev changes : List RowChange
  changes = stored_changes m.entry.event

  in_run : In m.entry run × ((is_on f.source m.entry && is_stored m.entry.event) ≡ true)
  in_run = In-from_filter (λ e. is_on f.source e && is_stored e.event) m.entry run (slice_get-In (stored_on f.source run) f.log_position m.entry m.stored)

  z : u.slot ≡ f.source
  z = eqb-true m.entry.shard.slot f.source (and_parts (is_on f.source m.entry) (is_stored m.entry.event) in_run.1).0

  at : Nth (λ x. is_on f.source x && is_stored x.event) run f.log_position m.entry
  at = nth_kept (λ x. is_on f.source x && is_stored x.event) run f.log_position m.entry m.stored

  legal_cut : Legal o (at.front ++ m.entry ∷ at.back)
  legal_cut = subst (Legal o) at.is legal

  legal_front : Legal o at.front
  legal_front = law.beginnings o at.front (m.entry ∷ at.back) legal_cut

  may : May o at.front u m.entry.event
  may = (law.legal_back o at.front (m.entry ∷ at.back) [] legal_cut).1

  slots : Slots o run
  slots = law.slots o opens run legal

  stood : (db : Database) × Had o run f.source f.log_position db
  stood = stands_where_it_served o opens run legal t.slot f.source f.log_position m.next

  earlier : (mid : Run) × (at.front ≡ stood.1.front ++ mid)
  earlier =
      let a = stood.1.stored in
      let b = at.count in
      earlier_cut (λ x. is_on f.source x && is_stored x.event) stood.1.front stood.1.back at.front at.back m.entry (sym stood.1.is ∙ at.is) at.passes_it
      (omega (arith, a, b))

  not_followed : mode o at.front u.slot ≡ Following → ⊥
  not_followed h =
      not_following (mode o stood.1.front f.source) stood.1.serves
      (follows_back o stood.1.front earlier.0 f.source (ap (λ r. mode o r f.source) (sym earlier.1) ∙ ap (mode o at.front) (sym z) ∙ h))

  of_front : Of o at.front stood.1.shard
  of_front =
      subst (λ r. Of o r stood.1.shard) (sym earlier.1)
      (of-longer o earlier.0 stood.1.front stood.1.shard (of_shard o stood.1.front stood.1.shard stood.1.of_run))

  u_of : Of o run u
  u_of = inr (In-map (λ e. e.shard) m.entry run in_run.0)

  same_shard : stood.1.shard ≡ u
  same_shard =
      slots.unique stood.1.shard u
      (subst (λ r. Of o r stood.1.shard) (sym at.is) (of-longer o (m.entry ∷ at.back) at.front stood.1.shard of_front)) u_of (stood.1.on ∙ sym z)

  target_of : IsShardOf o run t
  target_of = by (entries_on t.slot run) refl
    where
      by : (es : Run) → entries_on t.slot run ≡ es → IsShardOf o run t
      by [] e =
          let none : position run t.slot f.source ≡ None = ap (position_from f.source None) e in
          absurd (cc (none, m.next))
      by (x ∷ es) e =
          let there = In-from_filter (is_on t.slot) x run (subst (In x) (sym e) (inl refl)) in
          let same : x.shard ≡ t = In-all (λ e. e.shard.slot ≡ t.slot → e.shard ≡ t) x run stands.same there.0 (eqb-true x.shard.slot t.slot there.1) in
          inr (subst (λ s. Contains (map (λ e. e.shard) run) s) same (Contains-from_In x.shard (map (λ e. e.shard) run) (In-map (λ e. e.shard) x run there.0)))

  source_of : IsShardOf o run u
  source_of = is_shard o run u u_of

  apart_here : IsApartFrom o run t u
  apart_here other other_of i overlap = apart other u other_of source_of i (subst (Contains t.sources) (sym z) m.of_source) overlap

  kept : AllByRecursion (IsKept o.schema) (stored_changes m.entry.event)
  kept = held_stored (IsKept o.schema) m.entry.event (In-all (IsFit o) m.entry run slots.fit in_run.0)

  inside : AllByRecursion (λ c. change_lies_in o.schema m.entry.shard.place c ≡ true) (stored_changes m.entry.event)
  inside = held_stored (λ c. change_lies_in o.schema m.entry.shard.place c ≡ true) m.entry.event (In-all (IsInside o) m.entry run slots.inside in_run.0)

  -- tests of rows
  abbrev lies : Place → Test
  lies place k row = lies_in place (table_at o.schema k) row

  abbrev copied : Test
  copied k row = is_copied o.schema run t.slot f.source k row

  module _ (r : Row) (n : ℕ) where
    keeps_lies : (place : Place) → (l : List RowChange) → AllByRecursion (IsKept o.schema) l → AllByRecursion (Keeps (lies place)) l
    keeps_lies place l h = all-weaker (IsKept o.schema) (Keeps (lies place)) database l h
      where
        database : (c : RowChange) → IsKept o.schema c → Keeps (lies place) c
        database (Added k row) e = tt
        database (Replaced k old new) e = ap (λ z. ((table_at o.schema k).keyspace == place.keyspace) && has_id place.range z) e.0
        database (Removed k row) e = tt

    keeps_copied : (l : List RowChange) → AllByRecursion (IsKept o.schema) l → AllByRecursion (Keeps copied) l
    keeps_copied l h = all-weaker (IsKept o.schema) (Keeps copied) database l h
      where
        database : (c : RowChange) → IsKept o.schema c → Keeps copied c
        database (Added k row) e = tt
        database (Replaced k old new) e = ap (has_copied o.schema run t.slot f.source k) e.1
        database (Removed k row) e = tt

    abbrev opposite : Test → Test
    opposite p k row = not (p k row)

    keeps_opposite : (p : Test) (l : List RowChange) → AllByRecursion (Keeps p) l → AllByRecursion (Keeps (opposite p)) l
    keeps_opposite p l h = all-weaker (Keeps p) (Keeps (opposite p)) database l h
      where
        database : (c : RowChange) → Keeps p c → Keeps (opposite p) c
        database (Added k row) e = tt
        database (Replaced k old new) e = ap not e
        database (Removed k row) e = tt

    -- where all changes pass a test that the row doesn't
    none_taken : (p : Test) → p n r ≡ false → (l : List RowChange) → AllByRecursion (Keeps p) l → AllByRecursion (λ c. passes p c ≡ true) l → (v : ℕ)
        → AreThere r n l v
    none_taken p out l k h v =
        there_away r n (opposite p) (not_from_false (p n r) out) l (keeps_opposite p l k)
        (all-weaker (λ c. passes p c ≡ true) (λ c. passes (opposite p) c ≡ false) (λ c e. ap not e) l h) v

    abbrev in_place : List RowChange
    in_place = restricted_changes o.schema t.place (stored_changes m.entry.event)

    kept_in : AllByRecursion (IsKept o.schema) in_place
    kept_in = all-filter (IsKept o.schema) (change_lies_in o.schema t.place) (stored_changes m.entry.event) kept

    abbrev taken : List RowChange
    taken = filter (change_is_copied o.schema run t.slot f.source) in_place

    kept_taken : AllByRecursion (IsKept o.schema) taken
    kept_taken = all-filter (IsKept o.schema) (change_is_copied o.schema run t.slot f.source) in_place kept_in

    all_taken : (P : RowChange → Type 0) → AllByRecursion P in_place → AllByRecursion P taken
    all_taken P h = all-filter P (change_is_copied o.schema run t.slot f.source) in_place h

    -- the source's commit took only rows that were there
    module _ (c : C.Commit) (is : m.entry.event ≡ Commit c) where
      mc : MayCommit o at.front u c
      mc = subst (May o at.front u) is may

      of_u : Of o at.front u
      of_u = subst (Of o at.front) same_shard of_front

      live : Live o at.front u
      live = record { of_run = of_u; answers = ap answers_queries mc.serving }

      had : Had o run u.slot f.log_position (shard_rows o at.front u)
      had = record {
        front = at.front;
        back = m.entry ∷ at.back;
        is = at.is;
        shard = u;
        of_run = is_shard o at.front u of_u;
        on = refl;
        serves = ap answers_queries mc.serving;
        stored = ap (λ s. length (stored_on s at.front)) z ∙ at.count;
        rows = refl;
      }

      part : SameRows (shard_rows o at.front u) (restrict o.schema u.place (database o at.front))
      part = holds_its_part o opens at.front legal_front u live

      there_before : n < length (shard_rows o run t) → AreThere r n (stored_changes m.entry.event) (count_at r n (shard_rows o at.front u))
      there_before l =
          let long = held_long o opens run t in
          let parts = within_here (within_parts o opens n) (omega (arith, l, long)) in
          let here = restricted-longer u.place o.schema.tables (opening_rows o) n parts.0 parts.1 in
          let held_u = held_long o opens at.front u in
          let same = length-same (shard_rows o at.front u) (restrict o.schema u.place (database o at.front)) part in
          let count_same : count_at r n (restrict o.schema u.place (database o at.front)) ≡ count_at r n (shard_rows o at.front u) =
          count-permuted r (rows_of (shard_rows o at.front u) n) (rows_of (restrict o.schema u.place (database o at.front)) n)
          (rows-same (shard_rows o at.front u) (restrict o.schema u.place (database o at.front)) part n) in
          subst (λ v. AreThere r n (stored_changes m.entry.event) v) count_same
          (subst (λ l. AreThere r n l (count_at r n (restrict o.schema u.place (database o at.front)))) (sym (ap stored_changes is))
          (written_there r n o.schema c.statements (restrict o.schema u.place (database o at.front)) c.changes mc.meant (omega (arith, here, held_u, same))))
        where
          within_here : ((n < length o.schema.tables) × (n < length (opening_rows o))) ⊎ ((s : ShardRecord) → length (opening_part o s) ≤ n)
              → n < length (opening_part o t) → (n < length o.schema.tables) × (n < length (opening_rows o))
          within_here (inl h) l = h
          within_here (inr g) l = let k = g t in absurd (omega (arith, k, l))

      same_count : lies t.place n r ≡ true → copied n r ≡ true → lies u.place n r ≡ true → count_at r n (shard_rows o run t) ≡ count_at r n (shard_rows o at.front u)
      same_count a b d =
          sym (count-filter_in r (lies_in u.place (table_at o.schema n)) d (rows_of (shard_rows o run t) n))
          ∙ sym (count-permuted r (taken_rows o run t u n) (copied_rows o run t u n (shard_rows o at.front u))
          (copies_its_part o opens run legal t u target_of source_of m.following apart_here f.log_position
          (subst (λ s. position run t.slot s ≡ Some f.log_position) (sym z) m.next) (shard_rows o at.front u) had n))
          ∙ count-filter_in r (λ row. lies_in t.place (table_at o.schema n) row && is_copied o.schema run t.slot u.slot n row)
          (and_from (lies_in t.place (table_at o.schema n) r) (is_copied o.schema run t.slot u.slot n r) a
          (ap (λ s. is_copied o.schema run t.slot s n r) z ∙ b)) (rows_of (shard_rows o at.front u) n)

      pub there : n < length (shard_rows o run t) → AreThere r n f.changes (count_at r n (shard_rows o run t))
      there l = subst (λ x. AreThere r n x (count_at r n (shard_rows o run t))) (sym m.filtered) (by (lies t.place n r) refl (copied n r) refl (lies u.place n r) refl)
        where
          by : (a : Bool) → lies t.place n r ≡ a → (b : Bool) → copied n r ≡ b → (d : Bool) → lies u.place n r ≡ d
              → AreThere r n (filter (change_is_copied o.schema run t.slot f.source) (restricted_changes o.schema t.place (stored_changes m.entry.event))) (count_at r n (shard_rows o run t))
          by true i true j true k =
              let v = count_at r n (shard_rows o run t) in
              let first : AreThere r n (stored_changes m.entry.event) v =
              subst (λ v. AreThere r n (stored_changes m.entry.event) v) (sym (same_count i j k)) (there_before l) in
              there_filter r n copied j in_place (keeps_copied in_place kept_in) v
              (there_filter r n (lies t.place) i (stored_changes m.entry.event) (keeps_lies t.place (stored_changes m.entry.event) kept) v first)
          by false i b j d k =
              none_taken (lies t.place) i taken (keeps_lies t.place taken kept_taken)
              (all_taken (λ c. change_lies_in o.schema t.place c ≡ true) (all-passed (change_lies_in o.schema t.place) (stored_changes m.entry.event)))
              (count_at r n (shard_rows o run t))
          by true i false j d k =
              none_taken copied j taken (keeps_copied taken kept_taken) (all-passed (change_is_copied o.schema run t.slot f.source) in_place)
              (count_at r n (shard_rows o run t))
          by true i true j false k =
              none_taken (lies u.place) k taken (keeps_lies u.place taken kept_taken)
              (all_taken (λ c. change_lies_in o.schema m.entry.shard.place c ≡ true)
              (all-filter (λ c. change_lies_in o.schema m.entry.shard.place c ≡ true) (change_lies_in o.schema t.place) (stored_changes m.entry.event) inside))
              (count_at r n (shard_rows o run t))

    there_all : n < length (shard_rows o run t) → AreThere r n f.changes (count_at r n (shard_rows o run t))
    there_all l = by m.entry.event refl
      where
        by : (ev : Event) → m.entry.event ≡ ev → AreThere r n f.changes (count_at r n (shard_rows o run t))
        by (Commit c) e = there c e l
        by (Follow g) e = absurd (not_followed (subst (May o at.front u) e may).following)
        by (Copy g) e = absurd (false≢true (ap is_stored (sym e) ∙ (and_parts (is_on f.source m.entry) (is_stored m.entry.event) in_run.1).1))
        by Freeze e = absurd (false≢true (ap is_stored (sym e) ∙ (and_parts (is_on f.source m.entry) (is_stored m.entry.event) in_run.1).1))
        by Thaw e = absurd (false≢true (ap is_stored (sym e) ∙ (and_parts (is_on f.source m.entry) (is_stored m.entry.event) in_run.1).1))
        by (Retire targets) e = absurd (false≢true (ap is_stored (sym e) ∙ (and_parts (is_on f.source m.entry) (is_stored m.entry.event) in_run.1).1))
        by Serve e = absurd (false≢true (ap is_stored (sym e) ∙ (and_parts (is_on f.source m.entry) (is_stored m.entry.event) in_run.1).1))

  -- the target's rows after a Follow are just as many as counts tell
  pub follow_count : AllByRecursion (λ c. changed_table c < length (shard_rows o run t)) f.changes
      → row_count (all_applied f.changes (shard_rows o run t)) + count_by is_removed f.changes ≡ row_count (shard_rows o run t) + count_by is_added f.changes
  follow_count within = total_there f.changes (shard_rows o run t) within (λ r n l. there_all r n l)

-- after a Follow the target has no more rows than it may, where counts tell so
module _ (o : Opening) (most : Limits) (opens : IsOpening o) (run : Run) (legal : Legal o run) (t : ShardRecord) (f : F.Follow)
    (may : IsOnItsSlot o run t × MayFollowSource o run t f) where
  abbrev e : Entry
  e = record { shard = t; event = Follow f }

  pub follow_within : (seen : Run) → seen ≡ run ++ e ∷ [] → SourcesApart o seen t → AllByRecursion (λ c. changed_table c < length (shard_rows o run t)) f.changes
      → row_count (shard_rows o run t) + count_by is_added f.changes ≤ most.rows + count_by is_removed f.changes → row_count (shard_rows o seen t) ≤ most.rows
  follow_within seen is apart within few =
      let on : is_on t.slot e ≡ true = eq-eqb t.slot t.slot refl in
      let now : shard_rows o seen t ≡ all_applied f.changes (shard_rows o run t) =
      ap (λ r. shard_rows o r t) is ∙ ap (λ (l : List RowChange). all_applied l (first_rows o t)) (log-on run e t.slot on)
      ∙ applied-append (log t.slot run) f.changes (first_rows o t) in
      let rows = ap row_count now in
      let count = follow_count o opens run legal t may.0 f may.1 (λ a b a_of b_of i j overlap. apart a b (later a a_of) (later b b_of) i j overlap) within in
      omega (arith, few, rows, count)
    where
      later : (s : ShardRecord) → IsShardOf o run s → IsShardOf o seen s
      later s h = subst (λ r. IsShardOf o r s) (sym is) (is_shard o (run ++ e ∷ []) s (of-later o run e s (of_shard o run s h)))
