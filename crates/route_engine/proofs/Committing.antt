-- One try to commit a write on the one shard that it needs by a partition, and what it means over the one database.
use Rattle.std.proofs.Common.{◌≡◌, ℕ, ◌≤◌, true, false, List, [], ◌∷◌, ◌++◌, length, refl, sym, ap, subst, ◌∙◌, inl}
use Rattle.std.specs.List.{AllByRecursion}
use Rattle.std.proofs.lemmas.List.Sorted.{length_permutation}
use Rattle.vt_value.specs.declared.refusal.Refusal.{Refusal}
use Rattle.vt_value.specs.declared.refusal.Refusal.TheVariants.{SeveralShards}
use Rattle.keyrange.specs.declared.KeyRange.{KeyRange}
use Rattle.vschema.specs.declared.schema.Place.{Place}
use Rattle.vschema.specs.declared.schema.Table.{Table}
use Rattle.vschema.specs.declared.schema.Typed.TheVariants as typed
use Rattle.vschema.specs.declared.changes.Write.{Write}
use Rattle.vschema.specs.Database.{Database, restrict, all_applied}
use Rattle.vschema.specs.TypedWrites.{IsTypedWrite}
use Rattle.vschema.specs.WellFormed.{is_vschema}
use Rattle.shard_contents.specs.Writes.{written_table}
use Rattle.shard_calls.specs.Route.{Route}
use Rattle.shard_calls.specs.Routes.{table_at, write_route}
use Rattle.journal.specs.Runs.{IsLegal}
use Rattle.journal.specs.Views.{PassView}
use Rattle.journal.proofs.Fronts.{prefix_self, legal_front}
use Rattle.shard_run.specs.declared.ShardRecord.{ShardRecord}
use Rattle.shard_run.specs.declared.Mode.TheVariants.{Following, Serving}
use Rattle.shard_run.specs.declared.Entry.{Entry}
use Rattle.shard_run.specs.Runs.{Opening, database, mode}
use Rattle.shard_run.specs.Openings.{IsOpening}
use Rattle.shard_contents.specs.Legal.{IsOnItsSlot, IsChangeOf}
use Rattle.shard_contents.proofs.Lists.{In, Contains-from_In}
use Rattle.serving.specs.Partitions.{Seat, IsPartition, AreOf}
use Rattle.shard_contents.specs.Limits.{Limits}
use Rattle.shard_contents.specs.declared.outcomes.CommitOutcome.{CommitOutcome}
use Rattle.shard_contents.specs.Entries.{MayFollow, HasLooked}
use Rattle.shard_contents.specs.Commits as c
use Rattle.shard_contents.specs.Commits.{IsPlaced, HasCommitted, HasAnswered, IsCommitRefusal, commit_entry}
use Rattle.shard_contents.proofs.Legality.{legal_is}
use Rattle.shard_calls.specs.Seats.{place_at}
use Rattle.shard_calls.specs.declared.reply.Answer.TheVariants.{Count}
use Rattle.shard_calls.specs.declared.reply.Tried.TheVariants.{Done}
use Rattle.shard_calls.specs.Alone as over
use Rattle.shard_calls.specs.Alone.{GivesOver}
use Rattle.shard_calls.specs.Answers as a
use Rattle.shard_calls.specs.Answers.{needed, needed_by, WritesAlone, HasGone, HasServed, WasFound, IsHeldUp, IsShardRefusal, MayWriteRefuse, is_writable}
use Rattle.shard_calls.specs.inner.Scatter.{IsTried, written, again, tried}
use Rattle.shard_calls.proofs.Finding.{served_at}
use Rattle.shard_calls.proofs.Gathers.{stays}
use Rattle.route_engine.proofs.Over.{one_push, legal_last, only_changes, count_is, nowhere_over}
use Rattle.route_engine.proofs.Trying.{placed, gone_by, not_writable}
use Rattle.route_engine.proofs.WholeWrites.{whole_changes}

abbrev seat_at : ℕ → Place → Seat
seat_at n q = (n, q.range, q.keyspace)

module _ (o : Opening) (opens : IsOpening o) (formed : is_vschema o.schema ≡ true) (limits : Limits) (w : Write) (is_typed : IsTypedWrite o.schema w) (t : Table)
    (t_is : t ≡ table_at o.schema (written_table w)) (r : Route) (r_is : r ≡ write_route o.schema w) (seats : List Seat) (is : IsPartition seats)
    (p : PassView Entry) (legal : IsLegal (MayFollow o) p.seen) where
  needed_is : needed t r seats ≡ needed_by o w seats
  needed_is = ap (λ (x : Table). needed x r seats) t_is ∙ ap (λ (x : Route). needed (table_at o.schema (written_table w)) x seats) r_is

  pub nowhere : needed t r seats ≡ [] → IsTried o limits seats p w (Done 0) p
  nowhere none =
      written (a.nowhere seats is (sym needed_is ∙ none) ([], stays o p legal)
      (nowhere_over o opens formed p.seen (legal_is o p.seen legal) w is_typed seats is (sym needed_is ∙ none)))

  pub several : AreOf t.keyspace seats → (now : PassView Entry) → AllByRecursion (WasFound o p.seen now.seen) seats → HasGone o p now
      → 2 ≤ length (needed t r seats) → MayWriteRefuse o limits p w SeveralShards now
  several home now found gone more =
      a.several seats (record { partition = is; home = subst (λ (x : Table). AreOf x.keyspace seats) t_is home; found = found })
      (subst (λ (l : List Seat). 2 ≤ length l) needed_is more) gone

  module _ (seat : Seat) (one_is : needed t r seats ≡ seat ∷ []) (home : seat.2 ≡ t.keyspace) where
    abbrev range : KeyRange
    range = seat.1

    abbrev place : Place
    place = record { keyspace = t.keyspace; range = range }

    at_home : place_at seat ≡ place
    at_home = ap (λ (k : ℕ). record { keyspace = k; range = seat.1 }) home

    pub placed_there : IsPlaced o.schema (place_at seat) w
    placed_there =
        subst (λ (q : Place). IsPlaced o.schema q w) (sym at_home)
        (subst (λ (x : Table). IsPlaced o.schema (record { keyspace = x.keyspace; range = range }) w) (sym t_is)
        (placed o w is_typed seats is seat (sym needed_is ∙ one_is)))

    module _ (s : ShardRecord) (on_slot : s.slot ≡ seat.0) (at_place : s.place ≡ place_at seat) (now : PassView Entry) (stands : IsOnItsSlot o now.seen s)
        (past : mode o now.seen seat.0 ≡ Following → ⊥) where
      in_place : s.place ≡ place
      in_place = at_place ∙ at_home

      alone : WritesAlone o w s
      alone = record {
        seats = seats;
        partition = is;
        keyspace = ap (λ (x : Place). x.keyspace) in_place ∙ ap (λ (x : Table). x.keyspace) t_is;
        only =
            sym needed_is ∙ one_is ∙ ap (λ (i : ℕ). seat_at i (place_at seat) ∷ []) (sym on_slot)
            ∙ ap (λ (x : Place). seat_at s.slot x ∷ []) (sym at_place);
      }

      served : HasServed o now.seen s
      served = served_at o now.seen s seat.0 stands on_slot past

      held_up : HasLooked o s.slot p now → is_writable (mode o now.seen s.slot) ≡ false
          → IsHeldUp o (table_at o.schema (written_table w)) (write_route o.schema w) is_writable p.seen now.seen seats
      held_up look off = record {
        seat = seat;
        needed = Contains-from_In seat (needed_by o w seats) (subst (In seat) (sym one_is ∙ needed_is) (inl refl));
        run = now.seen;
        since = look.later;
        until = prefix_self now.seen;
        shard = s;
        served = served;
        on_slot = on_slot;
        in_place = in_place ∙ ap (λ (x : Table). record { keyspace = x.keyspace; range = range }) t_is;
        held_up = off;
      }

      -- what is committed means that over the one database right before its entry
      means_over : (count : ℕ) (h : HasCommitted o limits s p w count now) → GivesOver o.schema (database o h.before) (typed.Write w) (Count count) (database o now.seen)
      means_over count h =
          let e : Entry = commit_entry s h.session p.statements w h.changes in
          let there : IsLegal (MayFollow o) (h.before ++ e ∷ []) = subst (IsLegal (MayFollow o)) h.seen h.legal in
          let may = (legal_last o [] h.before e there).1 in
          let part : Database = restrict o.schema s.place (database o h.before) in
          let first = only_changes o.schema w part h.changes may.meant in
          let whole = whole_changes o opens formed h.before (legal_is o h.before (legal_front (MayFollow o) [] h.before (e ∷ []) there)) w is_typed s alone in
          let counts : length h.changes ≡ count =
          length_permutation first.0 h.changes first.2 ∙ count_is o.schema w part h.after first.0 count first.1 h.counted in
          let left : database o now.seen ≡ all_applied h.changes (database o h.before) = ap (database o) h.seen ∙ one_push o h.before e in
          let of : IsChangeOf o.schema w (database o h.before) h.changes = (first.0, sym whole ∙ first.1, first.2) in
          subst (λ (db : Database). GivesOver o.schema (database o h.before) (typed.Write w) (Count count) db) (sym left)
          (subst (λ (n : ℕ). GivesOver o.schema (database o h.before) (typed.Write w) (Count n) (all_applied h.changes (database o h.before))) counts
          (over.writes h.changes of))

      pub answered : (r : CommitOutcome) → HasAnswered o limits s p w r now → IsTried o limits seats p w (tried r) now
      answered _ (c.committed {count} h) = written (a.wrote s alone ([], stays o p legal) h (means_over count h))
      answered _ (c.frozen look m) = again (gone_by o s.slot p now look) (held_up look (ap is_writable m))
      answered _ (c.not_serving look m) = again (gone_by o s.slot p now look) (held_up look (not_writable (mode o now.seen s.slot) m))

      -- nor is it refused for another cause than over all of it
      why_over : HasLooked o s.slot p now → (e : Refusal) → IsCommitRefusal o limits s now.seen w e → IsShardRefusal o limits s now.seen w e
      why_over look _ c.no_memory = a.no_memory
      why_over look _ (c.duplicate twice) =
          a.duplicate (sym (whole_changes o opens formed now.seen (legal_is o now.seen look.legal) w is_typed s alone) ∙ twice)
      why_over look _ (c.full changes are room) = a.full changes are room

      pub refused : (e : Refusal) → HasLooked o seat.0 p now → mode o now.seen seat.0 ≡ Serving → IsCommitRefusal o limits s now.seen w e
          → MayWriteRefuse o limits p w e now
      refused e look serves why =
          let there : HasLooked o s.slot p now = subst (λ i. HasLooked o i p now) (sym on_slot) look in
          a.refused s alone ([], stays o p legal) there served (subst (λ i. mode o now.seen i ≡ Serving) (sym on_slot) serves) (why_over there e why)
