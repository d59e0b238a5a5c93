-- What a transaction's statements gave over its shard's rows, they give over the one database.
use Rattle.std.proofs.Common.{◌≡◌, ℕ, true, List, [], ◌∷◌, ◌++◌, length, sym, ap, subst, ◌∙◌, Some}
use Rattle.vt_value.specs.Values.{Row}
use Rattle.vschema.specs.declared.schema.Query.{Query}
use Rattle.vschema.specs.declared.schema.Typed.TheVariants as typed
use Rattle.vschema.specs.declared.changes.Write.{Write}
use Rattle.vschema.specs.declared.changes.RowChange.{RowChange}
use Rattle.vschema.specs.Database.{Database, SameRows, restrict, all_applied}
use Rattle.vschema.specs.Sources.{source_rows, SourcesThere, JoinsInPlace}
use Rattle.vschema.specs.TypedWrites.{IsTypedWrite}
use Rattle.vschema.specs.WellFormed.{is_vschema}
use Rattle.shard_contents.specs.Queries.{Allowed}
use Rattle.shard_contents.proofs.SameAnswers.{same_allowed}
use Rattle.shard_calls.specs.Routes.{table_at}
use Rattle.journal.specs.Runs.{IsLegal, NumbersBelow}
use Rattle.shard_run.specs.declared.Mode.TheVariants.{Serving}
use Rattle.shard_run.specs.declared.ShardRecord.{ShardRecord}
use Rattle.shard_run.specs.declared.Entry.{Entry}
use Rattle.shard_run.specs.Runs.{Run, Opening, database, shard_rows, mode, answers_queries}
use Rattle.shard_contents.specs.Legal.{IsOnItsSlot, IsChangeOf}
use Rattle.shard_run.specs.Openings.{IsOpening}
use Rattle.shard_contents.specs.declared.touched_table.Touch.{Touch}
use Rattle.shard_contents.specs.Entries.{MayFollow, commit_of}
use Rattle.shard_contents.specs.Commits.{IsPlaced}
use Rattle.shard_contents.specs.Transactions.{entry_of}
use Rattle.shard_contents.proofs.Commits.{applied-append}
use Rattle.shard_calls.proofs.Inside.{change_same}
use Rattle.shard_contents.proofs.Legality.{legal_is, part_held}
use Rattle.shard_calls.proofs.Pendings.{may_nothing, may_next, legal_then, stands_then, held_then, one_then, serves_then}
use Rattle.shard_calls.specs.declared.reply.Answer.TheVariants.{Rows, Count}
use Rattle.shard_calls.specs.Seats.{seat_of}
use Rattle.shard_calls.specs.Answers.{WritesAlone}
use Rattle.shard_calls.specs.Alone as over
use Rattle.shard_calls.specs.Alone.{GivesOver}
use Rattle.shard_calls.specs.Transactions.{TransactionStatement, GiveOver, ReadsAlone}
use Rattle.shard_calls.specs.Pendings as p
use Rattle.shard_calls.specs.Pendings.{GaveOnShard, IsAnywhere}
use Rattle.route_engine.proofs.SeatRows.{answers_kept_of, kept_alone}
use Rattle.route_engine.proofs.Trying.{placed}
use Rattle.route_engine.proofs.WholeWrites.{whole_changes}

-- the rows that a write adds lie in the place of the one shard that it needs
pub placed_on : (o : Opening) (w : Write) → IsTypedWrite o.schema w → (s : ShardRecord) → WritesAlone o w s → IsPlaced o.schema s.place w
placed_on o w is s alone =
    subst (λ (k : ℕ). IsPlaced o.schema (record { keyspace = k; range = s.place.range }) w) (sym alone.keyspace)
    (placed o w is alone.seats alone.partition (seat_of s) alone.only)

module _ (o : Opening) (opens : IsOpening o) (formed : is_vschema o.schema ≡ true) (s : ShardRecord) where
  -- a query over the rows of the one shard that it needs
  pub read_over : (run : Run) → IsOnItsSlot o run s → IsLegal (MayFollow o) run → mode o run s.slot ≡ Serving → (q : Query)
      → SourcesThere (length o.schema.tables) q → JoinsInPlace o.schema q → ReadsAlone o q s → (list : List Row) → Allowed q (shard_rows o run s) list
      → Allowed q (database o run) list
  read_over run stands legal serves q there joins alone list allowed =
      let here : Database = restrict o.schema s.place (database o run) in
      let part : SameRows (shard_rows o run s) here = part_held o opens run s stands (ap answers_queries serves) legal in
      let over_here : Allowed q here list = same_allowed q (shard_rows o run s) here list part allowed in
      let over_place : Allowed q (restrict o.schema (record { keyspace = (table_at o.schema q.table).keyspace; range = s.place.range }) (database o run)) list =
      subst (λ (k : ℕ). Allowed q (restrict o.schema (record { keyspace = k; range = s.place.range }) (database o run)) list) alone.keyspace over_here in
      answers_kept_of q (source_rows q (restrict o.schema (record { keyspace = (table_at o.schema q.table).keyspace; range = s.place.range }) (database o run)))
      (source_rows q (database o run)) list
      (kept_alone o opens run (legal_is o run legal) q there joins alone.seats alone.partition (seat_of s) alone.only) over_place

  -- a write over the rows of the one shard that it needs
  pub wrote_over : (run : Run) → IsOnItsSlot o run s → IsLegal (MayFollow o) run → mode o run s.slot ≡ Serving → (w : Write)
      → IsTypedWrite o.schema w → WritesAlone o w s → (more : List RowChange) → IsChangeOf o.schema w (shard_rows o run s) more
      → IsChangeOf o.schema w (database o run) more
  wrote_over run stands legal serves w is alone more changed =
      let here : Database = restrict o.schema s.place (database o run) in
      let part : SameRows (shard_rows o run s) here = part_held o opens run s stands (ap answers_queries serves) legal in
      let of = change_same o.schema w (shard_rows o run s) here more part changed in
      let whole = whole_changes o opens formed run (legal_is o run legal) w is s alone in
      (of.0, sym whole ∙ of.1, of.2)

  module _ (run : Run) (stands : IsOnItsSlot o run s) (legal : IsLegal (MayFollow o) run) (serves : mode o run s.slot ≡ Serving) (session number : ℕ)
      (low : NumbersBelow commit_of session number run) (touched : List Touch) where
    -- the statements over the one database, and the entry that their writes would make
    pub record Lifted (steps : List TransactionStatement) (writes : List Write) (changes : List RowChange) : Type 0 where
      pub may : MayFollow o run (entry_of s session number writes changes)
      pub over : GiveOver o.schema (database o run) steps (all_applied changes (database o run))

    pub lifted : (steps : List TransactionStatement) (writes : List Write) (changes : List RowChange) → GaveOnShard o s run touched steps writes changes
        → Lifted steps writes changes
    lifted _ _ _ p.none = record { may = may_nothing o opens s run stands legal serves session number low; over = over.none }
    lifted _ writes changes (p.anywhere {steps} step told is) =
        let rest = lifted steps writes changes told in
        let e : Entry = entry_of s session number writes changes in
        let then = legal_then o opens s run stands legal serves session number low writes changes rest.may in
        let one_is = one_then o opens s run stands legal serves session number low writes changes rest.may in
        record {
          may = rest.may;
          over =
              over.next step rest.over
              (subst (λ (d : Database). GivesOver o.schema d step.typed step.answer d) one_is (is.same (run ++ e ∷ []) then));
        }
    lifted _ writes changes (p.read {steps} q selected seen told alone there joins on table join items qualified allowed) =
        let rest = lifted steps writes changes told in
        let e : Entry = entry_of s session number writes changes in
        let then = legal_then o opens s run stands legal serves session number low writes changes rest.may in
        let slot_then = stands_then o opens s run stands legal serves session number low writes changes rest.may in
        let one_is = one_then o opens s run stands legal serves session number low writes changes rest.may in
        let held_is = held_then o opens s run stands legal serves session number low writes changes rest.may in
        let serving = serves_then o opens s run stands legal serves session number low writes changes rest.may in
        let answer =
        read_over (run ++ e ∷ []) slot_then then serving q there joins alone selected.rows
        (subst (λ (d : Database). Allowed q d selected.rows) (sym held_is) allowed) in
        record {
          may = rest.may;
          over =
              over.next (record { typed = typed.Select q; answer = Rows selected; on = Some s; seen = seen }) rest.over
              (over.selects table join items qualified (subst (λ (d : Database). Allowed q d selected.rows) one_is answer));
        }
    lifted _ _ _ (p.wrote {steps} {writes} {changes} w more seen told alone is on changed) =
        let rest = lifted steps writes changes told in
        let e : Entry = entry_of s session number writes changes in
        let then = legal_then o opens s run stands legal serves session number low writes changes rest.may in
        let slot_then = stands_then o opens s run stands legal serves session number low writes changes rest.may in
        let one_is = one_then o opens s run stands legal serves session number low writes changes rest.may in
        let held_is = held_then o opens s run stands legal serves session number low writes changes rest.may in
        let serving = serves_then o opens s run stands legal serves session number low writes changes rest.may in
        let of =
        wrote_over (run ++ e ∷ []) slot_then then serving w is alone more (subst (λ (d : Database). IsChangeOf o.schema w d more) (sym held_is) changed) in
        record {
          may = may_next o opens s run stands legal serves session number low writes changes rest.may w more is (placed_on o w is s alone) changed;
          over =
              subst (GiveOver o.schema (database o run) (steps ++ record { typed = typed.Write w; answer = Count (length more); on = Some s; seen = seen } ∷ []))
              (sym (applied-append changes more (database o run)))
              (over.next (record { typed = typed.Write w; answer = Count (length more); on = Some s; seen = seen }) rest.over
              (over.writes more (subst (λ (d : Database). IsChangeOf o.schema w d more) one_is of)));
        }
