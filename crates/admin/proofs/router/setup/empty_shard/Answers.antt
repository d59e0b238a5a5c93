use Rattle.std.proofs.Common.{Bool, [], length, ap, sym, ◌∙◌, arith}
use Rattle.std.specs.Prelude.{if◌then◌else◌}
use Rattle.shard_run.specs.declared.ShardRecord.{ShardRecord}
use Rattle.shard_run.specs.declared.Mode.TheVariants.{Following, Serving}
use Rattle.shard_run.specs.Runs.{is_opening}
use Rattle.shard_run.specs.Openings.{row_count}
use Rattle.route_engine.proofs.Legality.{on_its_slot, opening_slot, tables_held}
use Rattle.admin.proofs.router.Empty.{none_counted}
use Rattle.admin.proofs.router.setup.empty_shard.Goals as goal

pub new-state-requires-clause-stands : goal.new-state-requires-clause-stands
new-state-requires-clause-stands g c =
    rw (c.requires.seat, c.in_ok-copy.ensures.ok) (on_its_slot g.W.World.opening c.requires.opens c.args.shard.now c.requires.opening [] tt)

pub new-state-requires-clause-first_mode : goal.new-state-requires-clause-first_mode
new-state-requires-clause-first_mode g c =
    ap (λ (b : Bool). if b then Serving else Following)
    (sym (ap (λ (s : ShardRecord). is_opening g.W.World.opening s.slot) c.in_ok-copy.ensures.ok
    ∙ opening_slot g.W.World.opening c.requires.opens c.args.shard.now c.requires.opening))

pub new-state-requires-clause-tables : goal.new-state-requires-clause-tables
new-state-requires-clause-tables g c =
    ap length (c.in_ok-store.ensures.ok ∙ sym c.requires.rows) ∙ tables_held g.W.World.opening c.requires.opens c.args.shard.now c.requires.opening []

pub new-state-requires-clause-within : goal.new-state-requires-clause-within
new-state-requires-clause-within g c =
    let none = ap row_count c.in_ok-store.ensures.ok ∙ none_counted c.args.tables.now in
    omega (arith, none)
