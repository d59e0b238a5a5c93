-- A transaction on the small shard, from call to call.
use Rattle.std.proofs.Common.{◌≡◌, ℕ, Result, Ok, Err, sym, subst, ◌∙◌}
use Rattle.std.specs.Prelude.{MatchResult}
use mathlib.Core.List.{IsPrefix}
use Rattle.vt_value.specs.declared.refusal.Refusal.{Refusal}
use Rattle.vschema.specs.declared.schema.Place.{Place}
use Rattle.vschema.specs.declared.schema.Query.{Query}
use Rattle.vschema.specs.declared.changes.Write.{Write}
use Rattle.vschema.specs.TypedWrites.{IsTypedWrite}
use Rattle.journal.specs.Runs.{IsLegal}
use Rattle.journal.specs.Views.{PassView}
use Rattle.journal.proofs.Fronts.{prefix_self, prefix_trans}
use Rattle.shard_run.specs.declared.Entry.{Entry}
use Rattle.shard_run.specs.declared.ShardRecord.{ShardRecord}
use Rattle.shard_contents.specs.Legal.{IsOnItsSlot}
use Rattle.shard_contents.specs.declared.outcomes.Reading.{Reading}
use Rattle.shard_contents.specs.Entries.{MayFollow, HasLooked}
use Rattle.shard_contents.specs.Commits.{IsPlaced}
use Rattle.shard_contents.specs.Transactions.{PendingView, nothing_done, IsPending, HasReadIn, HasWrittenIn, IsReadRefusal, IsWriteRefusal}
use Rattle.shard_calls.proofs.Moves.{pending_nothing, pending_read, pending_written, pending_same}
use Rattle.test_engine.specs.shard_limits.SmallWorld.{small_schema, small_shard, small_opening}
use Rattle.test_engine.specs.shard_limits.inner.SmallWorld.{IsHere}

pub here_begins : (p : PassView Entry) → IsLegal (MayFollow small_opening) p.seen → IsHere nothing_done p
here_begins p legal s slot place = (p.seen, prefix_self p.seen, pending_nothing small_opening s p.seen legal)

pub here_later : (tx : PendingView) (p q : PassView Entry) → IsPrefix p.seen q.seen → IsHere tx p → IsHere tx q
here_later tx p q later here s slot place =
    let h = here s slot place in
    (h.0, prefix_trans h.0 p.seen q.seen h.1 later, h.2)

pub here_same : (tx : PendingView) (p q : PassView Entry) → q.seen ≡ p.seen → IsHere tx p → IsHere tx q
here_same tx p q same here s slot place =
    let h = here s slot place in
    (h.0, subst (IsPrefix h.0) (sym same) h.1, h.2)

-- one shard there stands for each
each : (tx : PendingView) (p : PassView Entry) (s : ShardRecord) → s.slot ≡ 0 → s.place ≡ small_shard.place → IsPending small_opening s p.seen tx → IsHere tx p
each tx p s slot place is u slot' place' =
    (p.seen, prefix_self p.seen, pending_same small_opening s u p.seen tx (slot ∙ sym slot') (place ∙ sym place') is)

module _ (tx new : PendingView) (p now : PassView Entry) (at : Place) (at_is : at ≡ small_shard.place) (here : IsHere tx p) where
  pub here_written : (w : Write) (r : Result ℕ Refusal) → IsTypedWrite small_schema w → IsPlaced small_schema small_shard.place w
      → ((s : ShardRecord) × IsOnItsSlot small_opening now.seen s × (s.slot ≡ 0) × (s.place ≡ at) × HasLooked small_opening 0 p now
      × MatchResult r (λ count. HasWrittenIn small_opening s tx now.seen w count new) (λ e. IsWriteRefusal small_opening s now.seen tx w e × (new ≡ tx)))
      → IsHere new now
  here_written w (Ok count) typed placed (s, stands, slot, place, look, has) =
      let where' : s.place ≡ small_shard.place = place ∙ at_is in
      each new now s slot where'
      (pending_written small_opening s p now.seen tx new (here s slot where') look.later look.legal w count has typed
      (subst (λ (x : Place). IsPlaced small_schema x w) (sym where') placed))
  here_written w (Err e) typed placed (s, stands, slot, place, look, has) =
      subst (λ (x : PendingView). IsHere x now) (sym has.1) (here_later tx p now look.later here)

  pub here_read : (q : Query) (r : Result Reading Refusal)
      → ((s : ShardRecord) × IsOnItsSlot small_opening now.seen s × (s.slot ≡ 0) × (s.place ≡ at) × HasLooked small_opening 0 p now
      × MatchResult r (λ x. HasReadIn small_opening s tx now.seen q x.rows x.entries new) (λ e. IsReadRefusal small_opening s now.seen tx e × (new ≡ tx)))
      → IsHere new now
  here_read q (Ok x) (s, stands, slot, place, look, has) =
      let where' : s.place ≡ small_shard.place = place ∙ at_is in
      each new now s slot where' (pending_read small_opening s p now.seen tx new (here s slot where') look.later look.legal q x.rows x.entries has)
  here_read q (Err e) (s, stands, slot, place, look, has) =
      subst (λ (x : PendingView). IsHere x now) (sym has.1) (here_later tx p now look.later here)
