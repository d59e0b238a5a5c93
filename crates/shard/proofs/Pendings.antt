-- A transaction that isn't committed is an entry that could come next: each of its writes makes one that could come next too.
use Rattle.std.proofs.Common.{◌≡◌, ℕ, true, List, [], ◌∷◌, ◌++◌, filter, refl, ap, ◌∙◌}
use Rattle.std.specs.List.{AllByRecursion}
use Rattle.std.proofs.lemmas.Bool.{eq-eqb}
use Rattle.std.proofs.lemmas.List.Elements.{recursion_from_All}
use Rattle.vschema.specs.declared.schema.VSchema.{VSchema}
use Rattle.vschema.specs.declared.changes.Write.{Write}
use Rattle.vschema.specs.declared.changes.RowChange.{RowChange}
use Rattle.vschema.specs.Database.{Database, SameRows, restrict, all_applied, change_lies_in}
use Rattle.vschema.specs.TypedWrites.{IsTypedWrite}
use Rattle.journal.specs.Runs.{IsLegal, NumbersBelow, by_session}
use Rattle.journal.proofs.Fronts.{legal_snoc}
use Rattle.shard_run.specs.declared.ShardRecord.{ShardRecord}
use Rattle.shard_run.specs.declared.Mode.TheVariants.{Serving}
use Rattle.shard_run.specs.declared.Entry.{Entry}
use Rattle.shard_run.specs.Runs.{Run, Opening, database, shard_rows, mode, answers_queries, first_rows, opening_rows, is_on}
use Rattle.shard_contents.specs.Legal.{IsOnItsSlot, IsChangeOf, AreChangesOf}
use Rattle.shard_run.specs.Openings.{IsOpening}
use Rattle.shard_contents.proofs.Lists.{AllByRecursion-push, all-append, all-from_list_all}
use Rattle.shard_contents.proofs.Runs.{log, log-on, mode-on, commits, commits-push}
use Rattle.shard_contents.specs.Entries.{MayFollow, commit_of}
use Rattle.shard_contents.specs.Commits.{IsPlaced}
use Rattle.shard_contents.specs.Transactions.{entry_of}
use Rattle.shard_contents.proofs.Bags.{all_applied-same}
use Rattle.shard_contents.proofs.Commits.{applied-append, rises_by, Below}
use Rattle.shard.proofs.Inside.{change_same, changes_same, snoc, Lie, lie_after, change_inside, all_inside}
use Rattle.shard_contents.proofs.Legality.{stands-next, part_held}
use Rattle.shard_contents.proofs.Places.{rows_lie, list_all_from}

module _ (o : Opening) (opens : IsOpening o) (s : ShardRecord) (run : Run) (stands : IsOnItsSlot o run s) (legal : IsLegal (MayFollow o) run)
    (serves : mode o run s.slot ≡ Serving) where
  abbrev schema : VSchema
  schema = o.schema

  abbrev here : Database
  here = restrict schema s.place (database o run)

  part : SameRows (shard_rows o run s) here
  part = part_held o opens run s stands (ap answers_queries serves) legal

  lie : Lie schema s.place (shard_rows o run s)
  lie = rows_lie schema s.place (shard_rows o run s) (database o run) part

  module _ (session number : ℕ) (low : NumbersBelow commit_of session number run) where
    rises : AllByRecursion (Below number) (filter (by_session commit_of session) run)
    rises = recursion_from_All (Below number) (filter (by_session commit_of session) run) low

    -- Writes and their changes over the shard's rows: their entry may come next.
    pub may_all : (writes : List Write) (changes : List RowChange) → AreChangesOf schema writes (shard_rows o run s) changes
        → AllByRecursion (IsTypedWrite schema) writes → AllByRecursion (IsPlaced schema s.place) writes
        → MayFollow o run (entry_of s session number writes changes)
    may_all writes changes are typed placed = (
      stands,
      record {
        serving = serves;
        inside = list_all_from (change_lies_in schema s.place) changes (all_inside schema s.place writes (shard_rows o run s) changes typed placed lie are);
        typed = typed;
        meant = changes_same schema writes (shard_rows o run s) here changes part are;
        rises = rises_by session number run rises;
      },
    )

    -- a transaction that has written nothing
    pub may_nothing : MayFollow o run (entry_of s session number [] [])
    may_nothing = may_all [] [] refl tt tt

    module _ (writes : List Write) (changes : List RowChange) (may : MayFollow o run (entry_of s session number writes changes)) where
      abbrev e : Entry
      e = entry_of s session number writes changes

      on : is_on s.slot e ≡ true
      on = eq-eqb s.slot s.slot refl

      -- the run that would be, if it were committed here
      pub legal_then : IsLegal (MayFollow o) (run ++ e ∷ [])
      legal_then = legal_snoc (MayFollow o) [] run e legal may

      pub stands_then : IsOnItsSlot o (run ++ e ∷ []) s
      stands_then = stands-next o run s e.event stands

      pub held_then : shard_rows o (run ++ e ∷ []) s ≡ all_applied changes (shard_rows o run s)
      held_then = ap (λ l. all_applied l (first_rows o s)) (log-on run e s.slot on) ∙ applied-append (log s.slot run) changes (first_rows o s)

      pub one_then : database o (run ++ e ∷ []) ≡ all_applied changes (database o run)
      one_then = ap (λ l. all_applied l (opening_rows o)) (commits-push run e) ∙ applied-append (commits run) changes (opening_rows o)

      pub serves_then : mode o (run ++ e ∷ []) s.slot ≡ Serving
      serves_then = mode-on o run e s.slot on ∙ serves

      pub part_then : SameRows (shard_rows o (run ++ e ∷ []) s) (restrict schema s.place (database o (run ++ e ∷ [])))
      part_then = part_held o opens (run ++ e ∷ []) s stands_then (ap answers_queries serves_then) legal_then

      -- one more write
      pub may_next : (w : Write) (more : List RowChange) → IsTypedWrite schema w → IsPlaced schema s.place w
          → IsChangeOf schema w (all_applied changes (shard_rows o run s)) more
          → MayFollow o run (entry_of s session number (writes ++ w ∷ []) (changes ++ more))
      may_next w more typed placed changed =
          let inside = all-from_list_all (change_lies_in schema s.place) changes may.1.inside in
          let lie_now = lie_after schema s.place changes (shard_rows o run s) inside lie in
          let same = all_applied-same changes (shard_rows o run s) here part in (
            may.0,
            record {
              serving = serves;
              inside =
                  list_all_from (change_lies_in schema s.place) (changes ++ more)
                  (all-append (λ c. change_lies_in schema s.place c ≡ true) changes more inside
                  (change_inside schema s.place w (all_applied changes (shard_rows o run s)) more typed placed lie_now changed));
              typed = AllByRecursion-push (IsTypedWrite schema) writes w may.1.typed typed;
              meant =
                  snoc schema writes w here changes more may.1.meant
                  (change_same schema w (all_applied changes (shard_rows o run s)) (all_applied changes here) more same changed);
              rises = may.1.rises;
            },
          )
