-- Where no other session commits meanwhile, what is printed for a statement is what one database gives.
use Rattle.std.proofs.Common.{◌≡◌, ◌⊎◌, true, ℕ, List, Option, Some, None, sym, subst, inl, inr}
use Rattle.vt_value.specs.declared.refusal.Refusal.{Refusal}
use Rattle.vschema.specs.Database.{Database}
use Rattle.vschema.specs.WellFormed.{is_vschema}
use Rattle.journal.specs.Runs.{IsLegal}
use Rattle.journal.specs.Views.{PassView}
use Rattle.shard_run.specs.declared.Entry.{Entry}
use Rattle.shard_run.specs.Runs.{Opening, database}
use Rattle.shard_run.specs.Openings.{IsOpening}
use Rattle.shard_law.specs.Entries.{MayFollow, most_limits}
use Rattle.vtgate_clients.specs.ShardCallsAlone.{NoOthers}
use Rattle.vtgate_clients.specs.Transactions.{PassAndTx}
use Rattle.vtgate_clients.specs.Pendings.{OpenView, Represents}
use Rattle.admin.proofs.NoOthers.{one_still}
use Rattle.vtgate_clients.specs.Alone.{AnsweredStatement}
use Rattle.vtgate_clients.specs.Among.{told_in}
use Rattle.vtgate_clients.specs.TypedSteps.{AreTyped}
use Rattle.vtgate_clients.specs.Means.{PassAndTransaction}
use Rattle.vtgate_clients.proofs.Among.{Left, answer_among, refused_at}
use Rattle.vtgate_serve.specs.script.Scripted as s
use Rattle.vtgate_serve.specs.script.Scripted.{Prints, PrintsAmong}

module _ (o : Opening) (opens : IsOpening o) (formed : is_vschema o.schema ≡ true) (sql : List ℕ) where
  abbrev Printed : PassAndTx → List ℕ → PassAndTx → Type 0
  Printed st text now = PrintsAmong o (database o st.pass.seen) (told_in st.tx) sql text (database o now.pass.seen) (told_in now.tx)

  refused_among : (st now : PassAndTx) (e : Refusal) → Left o opens formed most_limits sql st e now
      → Printed st (Rattle.vtgate_lines.specs.Printed.refusal_text e) now
  refused_among st now e left =
      subst (λ (db : Database). PrintsAmong o (database o st.pass.seen) (told_in st.tx) sql (Rattle.vtgate_lines.specs.Printed.refusal_text e) db (told_in now.tx))
      (sym (one_still o st.pass.seen now.pass.seen left.still)) (by left.tx)
    where
      by : (told_in now.tx ≡ told_in st.tx) ⊎ ((told : List AnsweredStatement) × (told_in st.tx ≡ Some told) × (told_in now.tx ≡ None))
          → PrintsAmong o (database o st.pass.seen) (told_in st.tx) sql (Rattle.vtgate_lines.specs.Printed.refusal_text e) (database o st.pass.seen) (told_in now.tx)
      by (inl same) =
          subst (λ (told : Option (List AnsweredStatement)). PrintsAmong o (database o st.pass.seen) (told_in st.tx) sql (Rattle.vtgate_lines.specs.Printed.refusal_text e) (database o st.pass.seen) told) (sym same)
          (s.refused e left.why)
      by (inr (told, was, none)) =
          subst (λ (told : Option (List AnsweredStatement)). PrintsAmong o (database o st.pass.seen) (told_in st.tx) sql (Rattle.vtgate_lines.specs.Printed.refusal_text e) (database o st.pass.seen) told) (sym none)
          (s.ends e was)

  pub prints_among : (st now : PassAndTransaction) (text : List ℕ) (q q' : PassView Entry) (v w : Option OpenView) → IsLegal (MayFollow o) st.pass.seen
      → NoOthers st.pass now.pass → Represents o q v st.tx → Represents o q' w now.tx → AreTyped o st.tx → Prints o st sql text now → Printed st text now
  prints_among st now _ q q' v w legal others kept after typed_all (s.answered reply is) =
      s.answered reply.answer (answer_among o opens formed most_limits sql st now reply q q' v w legal others kept after typed_all is)
  prints_among st now _ q q' v w legal others kept after typed_all (s.untold reply is rows) =
      s.untold reply.answer (answer_among o opens formed most_limits sql st now reply q q' v w legal others kept after typed_all is) rows
  prints_among st now _ q q' v w legal others kept after typed_all (s.refused {r} why) =
      refused_among st now r (refused_at o opens formed most_limits sql st now r others why)
