use Rattle.std.proofs.Common.{ℕ, Option, Some, length, map, ap, sym, subst, ◌∙◌, arith}
use Rattle.std.specs.List.{AllByRecursion}
use Rattle.journal.specs.Views.{SeatView}
use Rattle.shard_run.specs.declared.Entry.{Entry}
use Rattle.shard_run.specs.Runs.{Opening}
use Rattle.reshard.specs.Workflows.{WorkflowView}
use Rattle.reshard.specs.Configs.{IsFree}
use Rattle.shard_run.specs.opening.Empty.{empty_shards, opening_of}
use Rattle.admin.specs.Idle.{idle, idle_in, free_slots}
use Rattle.admin.proofs.Free.{free_after, ordinal_below, their_slots}
use Rattle.admin.proofs.setup.idle_administrator.Goals as goal

pub new-requires-clause-config : goal.new-requires-clause-config
new-requires-clause-config g c = record {
  keyspace =
      let is = sym c.sharded_keyspace.ensures ∙ c.in-Some.is in
      let below = ordinal_below (λ k. k.sharded) 0 c.args.schema.now.keyspaces c.in-Some.keyspace is in
      let many = ap (λ (o : Opening). length o.schema.keyspaces) c.requires.opening in
      omega (arith, below, many);
  limits = sym c.requires.limits;
  rows = c.requires.most_rows;
  stored = c.requires.most_stored;
}

pub new-requires-clause-free : goal.new-requires-clause-free
new-requires-clause-free g c =
    subst (λ (o : Opening). AllByRecursion (IsFree o) c.args.free.items) (sym c.requires.opening)
    (subst (AllByRecursion (IsFree (opening_of c.args.schema.now c.args.ranges.now))) (sym c.requires.free) (free_after c.args.schema.now c.args.ranges.now))

pub returns-in-Some : goal.returns-in-Some
returns-in-Some g c =
    let free = free_slots c.args.schema.now c.args.ranges.now in
    let is = sym c.sharded_keyspace.ensures ∙ c.in-Some.is in
    let slots = ap (map (λ (s : SeatView Entry). s.slot)) c.requires.free ∙ their_slots (length (empty_shards c.args.schema.now c.args.ranges.now)) in
    c.new-in-Some.ensures ∙ ap (λ (w : WorkflowView). Some w) (c.new.ensures ∙ ap (idle c.in-Some.keyspace) slots)
    ∙ ap (λ (o : Option ℕ). idle_in o free) (sym is)
