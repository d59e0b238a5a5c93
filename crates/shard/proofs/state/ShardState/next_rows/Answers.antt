use Rattle.std.proofs.Common.{sym, ap, ◌∙◌}
use Rattle.shard_run.specs.Copies.{table_at}
use Rattle.shard_contents.specs.Copying.{is_reached}
use Rattle.shard_contents.proofs.CopySteps.{copied_as}
use Rattle.std.specs.Prelude.{option_copied}
use Rattle.shard.proofs.state.ShardState.next_rows.Goals as goal

pub returns : goal.returns
returns g c = record {
  next = (let o = g.W.World.opening in
      let v = c.args.self.now in
      let n = c.in-Some.table in (
        c.in-Some.ensures,
        λ row.
            copied_as o v.seen v.shard.slot c.args.source n row (option_copied c.last_copied.result) (c.last_copied.ensures row) c.in-Some.ensures.unfinished
            ∙ ap (λ r. is_reached (table_at o.schema n) r row) (sym c.in_ok-after.ensures.ok),
      ));
}
