-- The writes of a transaction are what statements mean.
use Rattle.std.proofs.Common.{◌≡◌, ℕ, List, [], ◌∷◌, Option, Some, None, Ok, ap, ◌∙◌}
use Rattle.std.specs.List.{AllByRecursion}
use Rattle.vt_value.specs.declared.refusal.Refusal.{Refusal}
use Rattle.sql_tree.specs.declared.Statement.{Statement}
use Rattle.vschema.specs.declared.schema.Typed.{Typed}
use Rattle.vschema.specs.TypedStatement.{typed_statement}
use Rattle.journal.specs.Views.{PassView}
use Rattle.shard_run.specs.declared.Entry.{Entry}
use Rattle.shard_run.specs.Runs.{Run, Opening}
use Rattle.shard_run.specs.declared.ShardRecord.{ShardRecord}
use Rattle.route_engine.proofs.Lists.{all-append}
use Rattle.route_engine.specs.Limits.{Limits}
use Rattle.route_engine.specs.Answer.{Answer}
use Rattle.route_engine.specs.Reply.{Reply}
use Rattle.route_engine.specs.Transactions as x
use Rattle.route_engine.specs.Transactions.{Transaction, PassAndTx, with_step, GivesIn, GivesAt, IsReplyTo, IsRefusedIn, IsRefusedBy, IsRefusedNow, IsRefusedAt}
use Rattle.route_engine.proofs.Sessions.{is_typed}
use Rattle.session.specs.inner.TypedSteps.{IsTypedStep, AreTyped}

module _ (o : Opening) (l : Limits) where
  one_more : (tx : Transaction) (tree : Statement) (t : Typed) (answer : Answer) (on : Option ShardRecord) (seen : Run) → typed_statement o.schema tree ≡ Ok t
      → AllByRecursion (IsTypedStep o) tx.steps → AllByRecursion (IsTypedStep o) (with_step tx.steps t answer on seen)
  one_more tx tree t answer on seen is all =
      all-append (IsTypedStep o) tx.steps (record { typed = t; answer = answer; on = on; seen = seen } ∷ []) all
      ((λ w e. is_typed o.schema tree w (is ∙ ap Ok e)), tt)

  gives_in : (p : PassView Entry) (tx : Transaction) (t : Typed) (reply : Reply) (now : PassAndTx) (tree : Statement) → typed_statement o.schema tree ≡ Ok t
      → AllByRecursion (IsTypedStep o) tx.steps → GivesIn o l p tx t reply now → AreTyped o now.tx
  gives_in p tx _ _ _ tree is all (x.nowhere {typed} {answer} none over) = one_more tx tree typed answer None p.seen is all
  gives_in p tx _ _ _ tree is all (x.on_shard {typed} {answer} {now} s seats needs same looked serves clear over) = one_more tx tree typed answer (Some s) now.seen is all
  gives_in p tx _ _ _ tree is all (x.commits_nothing none) = tt
  gives_in p tx _ _ _ tree is all (x.commits_reads s uses none looked serves clear over) = tt
  gives_in p tx _ _ _ tree is all (x.commits_writes s uses some c) = tt
  gives_in p tx _ _ _ tree is all x.rolls_back = tt

  gives_at : (p : PassView Entry) (tx : Option Transaction) (t : Typed) (reply : Reply) (now : PassAndTx) (tree : Statement) → typed_statement o.schema tree ≡ Ok t
      → AreTyped o tx → GivesAt o l p tx t reply now → AreTyped o now.tx
  gives_at p _ t reply _ tree is all (x.alone gives) = tt
  gives_at p _ _ _ _ tree is all x.begins = tt
  gives_at p _ _ _ _ tree is all x.commits = tt
  gives_at p _ _ _ _ tree is all x.rolls_back = tt
  gives_at p _ t reply now tree is all (x.within {tx} gives) = gives_in p tx t reply now tree is all gives

  refused_in : (p : PassView Entry) (tx : Transaction) (t : Typed) (e : Refusal) (now : PassAndTx) → AllByRecursion (IsTypedStep o) tx.steps → IsRefusedIn o l p tx t e now
      → AreTyped o now.tx
  refused_in p tx _ _ _ all (x.no_memory gone) = all
  refused_in p tx _ _ _ all x.open_twice = all
  refused_in p tx _ _ _ all (x.several k seats none of found two gone) = all
  refused_in p tx _ _ _ all (x.another k u uses kept home partition seated of some other) = all
  refused_in p tx _ _ _ all (x.elsewhere k seats u uses of away partition some) = all
  refused_in p tx _ _ _ all (x.moved s its looked mode) = tt
  refused_in p tx _ _ _ all (x.conflict s its looked serves conflict) = tt
  refused_in p tx _ _ _ all (x.duplicate s after its at give twice) = all
  refused_in p tx _ _ _ all (x.full s changes its at wrote made give room) = tt

  refused_by : (p : PassView Entry) (tx : Option Transaction) (t : Typed) (e : Refusal) (now : PassAndTx) → AreTyped o tx → IsRefusedBy o l p tx t e now → AreTyped o now.tx
  refused_by p _ _ e _ all (x.not_read why) = tt
  refused_by p _ _ e _ all (x.not_written why) = tt
  refused_by p _ t e now all (x.within {tx} why) = refused_in p tx t e now all why

  refused_now : (st now : PassAndTx) (text : List ℕ) (e : Refusal) → AreTyped o st.tx → IsRefusedNow o l st text e now → AreTyped o now.tx
  refused_now st _ text _ all x.no_memory = all
  refused_now st _ text _ all (x.no_tree none) = all
  refused_now st _ text e all (x.not_typed tree reads is) = all
  refused_now st now text e all (x.refused tree t reads is why) = refused_by st.pass st.tx t e now all why

  pub refused_at : (st now : PassAndTx) (text : List ℕ) (e : Refusal) → AreTyped o st.tx → IsRefusedAt o l st text e now → AreTyped o now.tx
  refused_at st _ text _ all (x.used_up many) = tt
  refused_at st now text e all (x.refused why) = refused_now (x.numbered st) now text e all why

  pub answered_at : (st now : PassAndTx) (text : List ℕ) (reply : Reply) → AreTyped o st.tx → IsReplyTo o l st text reply now → AreTyped o now.tx
  answered_at st now text reply all is = gives_at (x.numbered st).pass st.tx is.typed reply now is.statement is.resolved all is.gives
