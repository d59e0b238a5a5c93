-- A commit of one write is lawful, leaves the state as the run says, and is refused for its written causes.
use Rattle.std.proofs.Common.{◌≡◌, ℕ, ◌+◌, ◌<◌, ◌≤◌, ◌^◌, Bool, true, false, not, cond, ◌&&◌, ◌==◌, List, [], ◌∷◌, ◌++◌, map, length, get_or, filter, flat_map, Some, Ok, refl, sym, ap, ◌∙◌, subst, arith, IsPermutation, length-append}
use Rattle.std.specs.Prelude.{nat_lt}
use Rattle.std.specs.List.{AllByRecursion, list_all}
use Rattle.std.proofs.lemmas.Bool.{eq-eqb, and_from, lt-ltb}
use Rattle.std.proofs.lemmas.List.{append-nil}
use Rattle.std.proofs.lemmas.List.Elements.{recursion_from_All}
use Rattle.std.proofs.lemmas.List.Sorted.{IsPermutation-sym, length_permutation}
use mathlib.Core.List.{IsPrefix}
use Rattle.vt_value.specs.declared.refusal.Refusal.{Refusal}
use Rattle.vschema.specs.declared.schema.VSchema.{VSchema}
use Rattle.vschema.specs.declared.changes.Write.{Write}
use Rattle.vschema.specs.declared.changes.RowChange.{RowChange}
use Rattle.vschema.specs.Schema.{no_table}
use Rattle.vschema.specs.Database.{Database, SameRows, rows_of, restrict, applied, all_applied}
use Rattle.vschema.specs.TypedWrites.{IsTypedWrite}
use Rattle.shard_store.specs.Writes.{written_table, changes_of, change}
use Rattle.shard_store.proofs.ChangeLemmas.{SameChanges, same_changes, rows-same}
use Rattle.shard_law.specs.Runs.{IsLegal, NumbersBelow, by_session, number_of}
use Rattle.shard_law.specs.Views.{SeatView, PassView}
use Rattle.shard_law.specs.ShardRecord.{ShardRecord}
use Rattle.shard_law.specs.Mode.TheVariants.{Serving}
use Rattle.shard_law.specs.Event.{Event}
use Rattle.shard_law.specs.Event.TheVariants.{Commit, Follow, Copy, Freeze, Thaw, Retire, Serve}
use Rattle.shard_law.specs.Entry.{Entry}
use Rattle.shard_law.specs.ShardRunRuns.{Run, Opening, database, shard_rows, mode, answers_queries, first_rows, entries_on, stored_on, is_on, is_stored}
use Rattle.shard_law.specs.Legal.{is_late, IsOnItsSlot}
use Rattle.shard_law.specs.Openings.{row_count}
use Rattle.shard_law.proofs.Databases.{length-all_applied}
use Rattle.shard_law.proofs.Runs.{log, log-on, mode-on}
use Rattle.shard_law.proofs.Typed.{keeps_keys-from_typed, table_there}
use Rattle.shard_law.specs.declared.limits.Limits.{Limits}
use Rattle.shard_contents.specs.declared.contents.Contents.{Contents}
use Rattle.shard_law.specs.Entries.{MayFollow, HasLooked, commit_of}
use Rattle.shard_contents.specs.Shards.{Holds, holds, IsAfter, beyond}
use Rattle.shard_contents.specs.Commits.{IsPlaced, commit_entry, HasRoom, HasCommitted, IsCommitRefusal}
use Rattle.shard_contents.specs.inner.Commits.{has_room, IsUnprepared}
use Rattle.shard_contents.specs.inner.Commits as commits
use Rattle.shard_contents.specs.Commits as refusals
use Rattle.shard_contents.specs.Transactions.{entry_of}
use Rattle.shard_contents.specs.Progress.{steps_of, steps_on}
use Rattle.shard_contents.specs.Kept.{kept_from, kept_on}
use Rattle.shard_contents.proofs.Progress.{steps-push}
use Rattle.shard_contents.proofs.Bags.{same_through, length-same, row_count-same, all_applied-same}
use Rattle.shard_contents.specs.KeptEntries.{kept_of, entries_kept}
use Rattle.shard_contents.proofs.KeptStored.{length-kept, kept_push}
use Rattle.shard_contents.specs.inner.StoredLogs.{count_of, HasStored, HasStoredNext}
use Rattle.shard_contents.proofs.StoredLogs.{count-stored, same_log, stored_next}
use Rattle.shard_contents.proofs.States.{held-same, mode-same, stored-same, holds_of, lives_if, entries-on}
use Rattle.shard_contents.proofs.Legality.{stands-same, stands-next, part_held}
use Rattle.shard_contents.proofs.Places.{rows_lie, changes_in}
use Rattle.shard_contents.proofs.Counts.{room_from, no_room_from}

pub applied-append : (first rest : List RowChange) (db : Database) → all_applied (first ++ rest) db ≡ all_applied rest (all_applied first db)
applied-append [] rest db = refl
applied-append (c ∷ first) rest db = applied-append first rest (applied c db)

-- no commit of the session has this number or a greater one
abbrev pub Below : ℕ → Entry → Type 0
Below number e = number_of (commit_of e) < number

pub rises_by : (session number : ℕ) (run : Run) → AllByRecursion (Below number) (filter (by_session commit_of session) run)
    → list_all (λ e. not (is_late session number e.event)) run ≡ true
rises_by session number [] all = refl
rises_by session number (e ∷ run) all = at e.event (rises_by session number run) all
  where
    at : (ev : Event) → (AllByRecursion (Below number) (filter (by_session commit_of session) run) → list_all (λ e. not (is_late session number e.event)) run ≡ true)
        → AllByRecursion (Below number) (filter (by_session commit_of session) (record e { event = ev } ∷ run))
        → list_all (λ e. not (is_late session number e.event)) (record e { event = ev } ∷ run) ≡ true
    at (Commit c) rest all = by (c.session == session) all
      where
        by : (b : Bool)
            → AllByRecursion (Below number) (cond b (record e { event = Commit c } ∷ filter (by_session commit_of session) run) (filter (by_session commit_of session) run))
            → (not (b && not (nat_lt c.number number)) && list_all (λ e. not (is_late session number e.event)) run) ≡ true
        by true all =
            let low : nat_lt c.number number ≡ true = lt-ltb c.number number all.0 in
            and_from (not (not (nat_lt c.number number))) (list_all (λ e. not (is_late session number e.event)) run) (ap (λ b. not (not b)) low) (rest all.1)
        by false all = rest all
    at (Follow f) rest all = rest all
    at (Copy c) rest all = rest all
    at Freeze rest all = rest all
    at Thaw rest all = rest all
    at (Retire targets) rest all = rest all
    at Serve rest all = rest all

module _ (o : Opening) (most : Limits) (seat : SeatView Entry) (c : Contents) (is : IsAfter o most seat c)
    (serving : mode o seat.seen c.shard.slot ≡ Serving) where
  pub has : Holds o most seat.seen c
  has = holds_of o most seat.seen c is.keeps (lives_if (mode o seat.seen c.shard.slot) (ap answers_queries serving))

  abbrev s : ShardRecord
  s = c.shard

  abbrev schema : VSchema
  schema = o.schema

  -- a run that has no more entries on the slot
  module _ (run : Run) (legal : IsLegal (MayFollow o) run) (alone : entries_on seat.slot run ≡ entries_on seat.slot seat.seen) where
    abbrev restricted : Database
    restricted = restrict schema s.place (database o run)

    pub here : entries_on s.slot run ≡ entries_on s.slot seat.seen
    here = subst (λ (i : ℕ). entries_on i run ≡ entries_on i seat.seen) is.slot alone

    pub rows : SameRows c.store.rows (shard_rows o run s)
    rows = subst (SameRows c.store.rows) (sym (held-same o seat.seen run s here)) has.rows

    pub counted : row_count c.store.rows ≡ row_count (shard_rows o run s)
    counted = row_count-same c.store.rows (shard_rows o run s) rows

    pub serves : mode o run s.slot ≡ Serving
    serves = mode-same o seat.seen run s here ∙ serving

    pub stands : IsOnItsSlot o run s
    stands = stands-same o seat.seen run s here is.stands

    part : SameRows (shard_rows o run s) restricted
    part = part_held o is.opens run s stands (ap answers_queries serves) legal

    -- so are the rows with the seat those of the one database in the shard's place
    alongside : SameRows c.store.rows restricted
    alongside = same_through c.store.rows (shard_rows o run s) restricted rows part

    over_same : (w : Write) (db : Database) → SameRows c.store.rows db
        → SameChanges (get_or schema.tables (written_table w) no_table) w (rows_of c.store.rows (written_table w)) (rows_of db (written_table w))
    over_same w db is =
        let n = written_table w in
        same_changes (get_or schema.tables n no_table) w (rows_of c.store.rows n) (rows_of db n) (rows-same c.store.rows db is n)

    -- ---- the entry

    module _ (w : Write) (changes : List RowChange) (changed : changes_of schema w c.store.rows ≡ Ok changes) where
      pub over_one : (exact : List RowChange) × (changes_of schema w restricted ≡ Ok exact) × IsPermutation changes exact
      over_one = (over_same w restricted alongside).changed changes changed

      pub lawful : (session number : ℕ) → IsTypedWrite schema w → IsPlaced schema s.place w → NumbersBelow commit_of session number run
          → MayFollow o run (commit_entry s session number w changes)
      lawful session number typed placed low = (
        stands,
        record {
          serving = serves;
          inside =
              changes_in schema s.place w c.store.rows changes (keeps_keys-from_typed schema w typed) placed
              (rows_lie schema s.place c.store.rows (database o run) alongside (written_table w)) changed;
          typed = (typed, tt);
          meant = (
            changes,
            [],
            sym (append-nil changes),
            (over_one.0, over_one.1, IsPermutation-sym changes over_one.0 over_one.2),
            refl,
          );
          rises = rises_by session number run (recursion_from_All (Below number) (filter (by_session commit_of session) run) low);
        },
      )

    -- ---- the limits

    pub stored_here : HasStored c.stored.log (entries_kept s.slot run)
    stored_here = same_log _ _ _ _ refl (ap (map kept_of) (sym (stored-same o seat.seen run s here))) has.stored

    pub count_here : count_of c.stored.log ≡ length (stored_on s.slot run)
    count_here = count-stored _ _ stored_here ∙ length-kept s.slot run

    tested : (entries stored : ℕ) (w : Write) → entries ≡ length (entries_on seat.slot seat.seen) → stored ≡ count_of c.stored.log
        → has_room c.limits entries stored (row_count c.store.rows) w
        ≡ has_room most (length (entries_on s.slot run)) (length (stored_on s.slot run)) (row_count (shard_rows o run s)) w
    tested entries stored w es ss =
        let e : entries ≡ length (entries_on s.slot run) = es ∙ ap length (ap (λ (i : ℕ). entries_on i seat.seen) is.slot) ∙ ap length (sym here) in
        let k : stored ≡ length (stored_on s.slot run) = ss ∙ count_here in
        ap (λ l. has_room l entries stored (row_count c.store.rows) w) is.limits ∙ ap (λ n. has_room most n stored (row_count c.store.rows) w) e
        ∙ ap (λ n. has_room most (length (entries_on s.slot run)) n (row_count c.store.rows) w) k
        ∙ ap (λ n. has_room most (length (entries_on s.slot run)) (length (stored_on s.slot run)) n w) counted

    there : (w : Write) → IsTypedWrite schema w → written_table w < length c.store.rows
    there w typed = let h = table_there schema w typed in let k = has.tables in omega (arith, h, k)

    there_held : (w : Write) → IsTypedWrite schema w → written_table w < length (shard_rows o run s)
    there_held w typed = let h = there w typed in let l = length-same c.store.rows (shard_rows o run s) rows in omega (arith, h, l)

    pub has_room_now : (entries stored : ℕ) (w : Write) (changes : List RowChange) → entries ≡ length (entries_on seat.slot seat.seen)
        → stored ≡ count_of c.stored.log → IsTypedWrite schema w → changes_of schema w c.store.rows ≡ Ok changes
        → has_room c.limits entries stored (row_count c.store.rows) w ≡ true → HasRoom o most s run changes
    has_room_now entries stored w changes es ss typed changed h =
        room_from schema most o s run w changes c.store.rows rows changed (there w typed) (sym (tested entries stored w es ss) ∙ h)

    -- ---- the refusals

    pub refused : (v : VSchema) (entries stored : ℕ) (w : Write) (r : Refusal) → v ≡ schema → entries ≡ length (entries_on seat.slot seat.seen)
        → stored ≡ count_of c.stored.log → IsTypedWrite schema w → IsUnprepared v c.limits entries stored c.store.rows w r
        → IsCommitRefusal o most s run w r
    refused v entries stored w r vs es ss typed (commits.no_memory) = refusals.no_memory
    refused v entries stored w r vs es ss typed (commits.duplicate e) =
        refusals.duplicate ((over_same w restricted alongside).refused (ap (λ v. changes_of v w c.store.rows) (sym vs) ∙ e))
    refused v entries stored w r vs es ss typed (commits.full changes e h) =
        let exact = (over_same w (shard_rows o run s) rows).changed changes (ap (λ v. changes_of v w c.store.rows) (sym vs) ∙ e) in
        let few : row_count (shard_rows o run s) ≤ most.rows = subst (λ n. n ≤ most.rows) counted (has.within (ap answers_queries serving)) in
        refusals.full exact.0 exact.1
        (no_room_from schema most o s run w exact.0 exact.1 (there_held w typed) few (sym (tested entries stored w es ss) ∙ h))

    -- ---- what the commit leaves

    pub committed : (p looked now : PassView Entry) (w : Write) (changes : List RowChange) (session count : ℕ)
        → changes_of schema w c.store.rows ≡ Ok changes → HasLooked o s.slot p looked → IsPrefix looked.seen run
        → ((n : ℕ) → p.session ≡ Some n → filter (by_session commit_of n) run ≡ filter (by_session commit_of n) p.seen)
        → p.session ≡ Some session → now.seen ≡ run ++ commit_entry s session p.statements w changes ∷ [] → IsLegal (MayFollow o) now.seen
        → HasRoom o most s run changes → count ≡ length changes → now ≡ record looked { seen = now.seen }
        → HasCommitted o most s p w count now
    committed p looked now w changes session count changed look later own mine seen legal_now room counts pass =
        let database' = over_one w changes changed in
        record {
          looked = looked;
          look = look;
          before = run;
          later = later;
          own = own;
          session = session;
          of_session = mine;
          changes = changes;
          seen = seen;
          legal = legal_now;
          room = room;
          after = all_applied database'.0 restricted;
          counted = told database'.0 database'.1 ∙ ap (λ n. Ok (all_applied database'.0 restricted, n)) (length_permutation changes database'.0 database'.2 ∙ sym counts);
          pass = pass;
        }
      where
        told : (exact : List RowChange) → changes_of schema w restricted ≡ Ok exact → change schema w restricted ≡ Ok (all_applied exact restricted, length exact)
        told exact e = rw e refl

    pub still_serves : (seat' : SeatView Entry) (c' : Contents) (session number : ℕ) (writes : List Write) (changes : List RowChange)
        → seat'.seen ≡ run ++ entry_of s session number writes changes ∷ [] → c'.shard ≡ s → mode o seat'.seen c'.shard.slot ≡ Serving
    still_serves seat' c' session number writes changes seen shard_is =
        let e : Entry = entry_of s session number writes changes in
        ap (λ (r : Run). mode o r c'.shard.slot) seen ∙ ap (λ (t : ShardRecord). mode o (run ++ e ∷ []) t.slot) shard_is
        ∙ mode-on o run e s.slot (eq-eqb s.slot s.slot refl) ∙ serves

    pub after : (seat' : SeatView Entry) (c' : Contents) (session number : ℕ) (writes : List Write) (changes : List RowChange)
        → seat'.slot ≡ seat.slot → seat'.seen ≡ run ++ entry_of s session number writes changes ∷ [] → HasRoom o most s run changes
        → c'.shard ≡ s → SameRows c'.store.rows (all_applied changes c.store.rows)
        → HasStoredNext c.stored.log changes c'.stored.log → c'.steps.items ≡ c.steps.items → c'.mode ≡ c.mode → c'.limits ≡ c.limits
        → IsAfter o most seat' c'
    after seat' c' session number writes changes slots seen room shard_is rows_are stored_are came mode_is limits_are =
        let e : Entry = entry_of s session number writes changes in
        let on : is_on s.slot e ≡ true = eq-eqb s.slot s.slot refl in
        let left : shard_rows o (run ++ e ∷ []) s ≡ all_applied changes (shard_rows o run s) =
        ap (λ l. all_applied l (first_rows o s)) (log-on run e s.slot on) ∙ applied-append (log s.slot run) changes (first_rows o s) in
        let now : SameRows c'.store.rows (shard_rows o (run ++ e ∷ []) s) =
        subst (SameRows c'.store.rows) (sym left)
        (same_through c'.store.rows (all_applied changes c.store.rows) (all_applied changes (shard_rows o run s)) rows_are (all_applied-same changes c.store.rows (shard_rows o run s) rows)) in
        let logged : filter (λ e. is_on s.slot e && is_stored e.event) (e ∷ []) ≡ e ∷ [] = simp on in
        let more : length (entries_on s.slot (run ++ e ∷ [])) ≡ length (entries_on s.slot run) + 1 =
        ap length (entries-on run e s.slot on) ∙ length-append (entries_on s.slot run) (e ∷ []) in
        let still : mode o (run ++ e ∷ []) s.slot ≡ Serving = mode-on o run e s.slot on ∙ serves in
        record {
          opens = is.opens;
          slot = slots ∙ is.slot ∙ ap (λ (t : ShardRecord). t.slot) (sym shard_is);
          stands = subst (λ r. IsOnItsSlot o r c'.shard) (sym seen) (subst (IsOnItsSlot o (run ++ e ∷ [])) (sym shard_is) (stands-next o run s e.event stands));
          keeps = holds (record {
            rows = subst (SameRows c'.store.rows) (ap (λ t. shard_rows o (run ++ e ∷ []) t) (sym shard_is) ∙ ap (λ r. shard_rows o r c'.shard) (sym seen)) now;
            tables = length-same c'.store.rows (all_applied changes c.store.rows) rows_are ∙ length-all_applied changes c.store.rows ∙ has.tables;
            mode =
                mode_is ∙ has.mode ∙ serving ∙ sym still ∙ ap (λ (t : ShardRecord). mode o (run ++ e ∷ []) t.slot) (sym shard_is)
                ∙ ap (λ r. mode o r c'.shard.slot) (sym seen);
            stored =
                same_log _ _ _ _ refl
                (sym (kept_push run e s.slot logged) ∙ ap (λ (t : ShardRecord). entries_kept t.slot (run ++ e ∷ [])) (sym shard_is)
                ∙ ap (entries_kept c'.shard.slot) (sym seen))
                (stored_next c.stored.log c'.stored.log (entries_kept s.slot run) changes stored_here stored_are);
            steps =
                came ∙ has.steps ∙ ap (kept_from []) (ap (flat_map (λ (x : Entry). steps_of x.event)) (sym here) ∙ sym (steps-push run e s.slot on ∙ append-nil (steps_on s.slot run)))
                ∙ ap (λ (t : ShardRecord). kept_on t.slot (run ++ e ∷ [])) (sym shard_is) ∙ ap (λ r. kept_on c'.shard.slot r) (sym seen);
            within = λ serves. subst (λ n. n ≤ most.rows) (sym (row_count-same c'.store.rows (shard_rows o (run ++ e ∷ []) s) now ∙ ap row_count left)) room.rows;
          });
          entries =
              subst (λ r. length (entries_on c'.shard.slot r) ≤ 2 ^ 40 + beyond (mode o r c'.shard.slot)) (sym seen)
              (subst (λ (t : ShardRecord). length (entries_on t.slot (run ++ e ∷ [])) ≤ 2 ^ 40 + beyond (mode o (run ++ e ∷ []) t.slot)) (sym shard_is)
              (let h = room.entries in let k = ap beyond still in omega (arith, more, h, k)));
          limits = limits_are ∙ is.limits;
          most_rows = is.most_rows;
        }
