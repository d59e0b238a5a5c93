use denote.Param.Send.{sendable}
use Rattle.std.proofs.Common.{◌≡◌, ◌<◌, List, [], ◌∙◌, sym, ap, subst, length, get_or, map, Contains}
use Rattle.shard_run.proofs.Sent.{entry_send}
use Rattle.vschema.specs.declared.schema.Table.{Table}
use Rattle.shard_run.specs.declared.ShardRecord.{ShardRecord}
use Rattle.shard_run.specs.Runs.{Opening, first_rows}
use Rattle.route_engine.specs.Entries.{opening_shards}
use Rattle.shard_run.specs.opening.Empty.{empty_shards}
use Rattle.admin.proofs.router.Empty.{opening_is, first_rows_are, on_own_slots}
use Rattle.admin.proofs.router.setup.opened_seats.Goals as goal

pub named-requires-send-L-Entry : goal.named-requires-send-L-Entry
named-requires-send-L-Entry g c κs within = search (entry_send, sendable)

pub held_and_served-made-requires-clause-rows : goal.held_and_served-made-requires-clause-rows
held_and_served-made-requires-clause-rows g c = λ s there.
    subst (λ (o : Opening). Contains (opening_shards o) s → first_rows o s ≡ map (λ t. []) c.as_slice-tables.result.now) (sym c.requires.opening)
    (λ h. first_rows_are c.args.schema.now c.args.ranges.now s h ∙ ap (λ (ts : List Table). map (λ t. []) ts) (sym c.as_slice-tables.ensures)) there

pub held_and_served-made-requires-clause-slots : goal.held_and_served-made-requires-clause-slots
held_and_served-made-requires-clause-slots g c = λ i d below.
    let e : c.as_slice.result.now ≡ empty_shards c.args.schema.now c.args.ranges.now =
    c.as_slice.ensures ∙ c.in_ok-shards.ensures.shards ∙ opening_is c.args.schema.now c.args.ranges.now in
    subst (λ (xs : List ShardRecord). i < length xs → (get_or xs i d).slot ≡ i) (sym e) (on_own_slots c.args.schema.now c.args.ranges.now i d) below
