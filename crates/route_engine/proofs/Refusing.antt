-- Why a statement of an open transaction is refused, from what its shard told.
use Rattle.std.proofs.Common.{true, ◌≡◌, ◌≢◌, ℕ, List, [], refl, sym, subst, ◌∙◌}
use Rattle.std.specs.Prelude.{Contains}
use Rattle.vt_value.specs.declared.refusal.Refusal.{Refusal}
use Rattle.vt_value.specs.declared.refusal.Refusal.TheVariants.{ShardFull}
use Rattle.vschema.specs.declared.schema.Typed.{Typed}
use Rattle.vschema.specs.declared.schema.Typed.TheVariants as typed
use Rattle.vschema.specs.declared.changes.Write.{Write}
use Rattle.vschema.specs.Database.{all_applied}
use Rattle.vschema.specs.TypedWrites.{IsTypedWrite}
use Rattle.vschema.specs.WellFormed.{is_vschema}
use Rattle.journal.specs.Runs.{NumbersBelow}
use Rattle.journal.specs.Views.{PassView}
use Rattle.journal.proofs.Fronts.{prefix_self}
use Rattle.shard_run.specs.declared.ShardRecord.{ShardRecord}
use Rattle.shard_run.specs.declared.Entry.{Entry}
use Rattle.shard_run.specs.Runs.{Opening, database, shard_rows}
use Rattle.shard_contents.specs.Legal.{AreChangesOf}
use Rattle.shard_run.specs.Openings.{IsOpening}
use Rattle.shard_contents.specs.Limits.{Limits}
use Rattle.shard_contents.specs.Entries.{commit_of}
use Rattle.shard_contents.specs.Transactions as tx
use Rattle.shard_contents.specs.Transactions.{PendingView, IsClear, IsStopped, IsReadRefusal, IsWriteRefusal, IsCommitAllRefusal}
use Rattle.shard_calls.specs.Answers.{WritesAlone, HasServed}
use Rattle.shard_calls.specs.Transactions as t
use Rattle.shard_calls.specs.Transactions.{Transaction, PassAndTx, IsFor, IsItsShard, IsUndisturbed, IsRefusedIn, used, writes_in}
use Rattle.shard_calls.specs.inner.InTransactions.{left_by}
use Rattle.route_engine.proofs.Anywhere.{duplicate_in}
use Rattle.route_engine.proofs.Causes.{cause}
use Rattle.route_engine.proofs.Clearing.{no_conflict}
use Rattle.route_engine.proofs.Going as g
use Rattle.route_engine.proofs.InTransaction.{ReadyOn}
use Rattle.route_engine.proofs.Trying.{gone_by}

module _ (o : Opening) (limits : Limits) (s : ShardRecord) (p now : PassView Entry) (v : PendingView) (tr : Transaction) (ready : ReadyOn o s p now v tr)
    (served : HasServed o now.seen s) where
  abbrev left : Refusal → PassAndTx
  left e = record { pass = now; tx = left_by e tr }

  its : (typed : Typed) → IsFor o tr typed s → IsItsShard o tr typed now.seen s
  its typed for = record { for = for; alone = ready.alone; served = served }

  undisturbed : IsClear o s now.seen v → IsUndisturbed o p tr s now
  undisturbed clear = record {
    looked = ready.looked;
    serves = clear.serving;
    clear = no_conflict o s now.seen p.session tr.steps v.touched ready.trailing clear.unchanged;
  }

  stopped : (typed : Typed) → IsFor o tr typed s → (e : Refusal) → IsStopped o s now.seen v e → IsRefusedIn o limits p tr typed e (left e)
  stopped typed for _ (tx.moved fault) = t.moved s (its typed for) ready.looked fault
  stopped typed for _ (tx.conflict serving is) =
      t.conflict s (its typed for) ready.looked serving
      (cause o s now.seen now.seen (prefix_self now.seen) ready.looked.legal ready.on_slot p.session (λ n mine. refl) tr.steps v.touched ready.touches is)

  pub not_read_in : (typed : Typed) → IsFor o tr typed s → (e : Refusal) → IsReadRefusal o s now.seen v e → IsRefusedIn o limits p tr typed e (left e)
  not_read_in typed for _ tx.no_memory = t.no_memory (gone_by o s.slot p now ready.looked)
  not_read_in typed for e (tx.stopped why) = stopped typed for e why

  module _ (opens : IsOpening o) (formed : is_vschema o.schema ≡ true) (session number : ℕ) (low : NumbersBelow commit_of session number now.seen) where
    pub not_written_in : (w : Write) → IsTypedWrite o.schema w → IsFor o tr (typed.Write w) s → WritesAlone o w s → (e : Refusal)
        → IsWriteRefusal o s now.seen v w e → IsRefusedIn o limits p tr (typed.Write w) e (left e)
    not_written_in w is for alone _ tx.no_memory = t.no_memory (gone_by o s.slot p now ready.looked)
    not_written_in w is for alone e (tx.stopped why) = stopped (typed.Write w) for e why
    not_written_in w is for alone _ (tx.duplicate clear twice) =
        let at = ready.at clear in
        t.duplicate s (all_applied v.changes (database o now.seen)) (its (typed.Write w) for) (undisturbed clear)
        (g.at_over o s opens formed now.seen v tr.steps at ready.on_slot clear.serving session number low)
        (duplicate_in o opens formed s now.seen v tr.steps at ready.on_slot clear.serving session number low w is alone twice)

    pub not_committed_in : Contains (used tr.steps) s → (e : Refusal) → (e ≡ ShardFull → v.writes ≢ []) → IsCommitAllRefusal o limits s now.seen v e
        → IsRefusedIn o limits p tr typed.Commit e (left e)
    not_committed_in uses _ wrote tx.no_memory = t.no_memory (gone_by o s.slot p now ready.looked)
    not_committed_in uses e wrote (tx.stopped why) = stopped typed.Commit uses e why
    not_committed_in uses _ wrote (tx.full clear no_room) =
        let at = ready.at clear in
        let own : writes_in tr.steps ≡ v.writes = g.told_writes o s now.seen v.touched tr.steps v.writes v.changes at.told in
        t.full s v.changes (its typed.Commit uses) (undisturbed clear) (λ none. wrote refl (sym own ∙ none))
        (subst (λ (l : List Write). AreChangesOf o.schema l (shard_rows o now.seen s) v.changes) (sym own) at.pending.made)
        (g.at_over o s opens formed now.seen v tr.steps at ready.on_slot clear.serving session number low) no_room
