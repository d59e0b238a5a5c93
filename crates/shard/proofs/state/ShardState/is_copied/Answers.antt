use Rattle.std.proofs.Common.{◌<◌, List, length, sym, ap, subst, ◌∙◌}
use Rattle.std.specs.Prelude.{option_copied}
use Rattle.vschema.specs.declared.schema.Table.{Table}
use Rattle.vschema.specs.declared.schema.VSchema.{VSchema}
use Rattle.shard_run.specs.Copies.{table_at}
use Rattle.shard_contents.specs.Copying.{is_reached}
use Rattle.shard_contents.proofs.CopySteps.{copied_all, copied_as, table_is}
use Rattle.shard.proofs.state.ShardState.is_copied.Goals as goal

pub returns-then-has_copied : goal.returns-then-has_copied
returns-then-has_copied g c =
    let v = c.args.self.now in
    c.if-has_copied.true
    ∙ sym (copied_all g.W.World.opening v.seen v.shard.slot c.args.source c.args.n c.args.row.now (option_copied c.last_copied-last.result)
    (c.last_copied-last.ensures c.args.row.now) (sym c.has_copied.ensures ∙ c.if-has_copied.true))

pub returns-else-has_copied : goal.returns-else-has_copied
returns-else-has_copied g c =
    let v = c.args.self.now in
    let n = c.args.n in
    let last = option_copied c.last_copied-last.result in
    let there : n < length c.as_slice.result.now = subst (λ (l : List Table). n < length l) (sym c.as_slice.ensures) c.requires.there in
    let table = table_is c.args.schema.now c.as_slice.result.now c.as_slice.ensures n c.index-as_slice-n.result there c.index-as_slice-n.is
    ∙ ap (λ (s : VSchema). table_at s n) c.requires.schema in
    c.is_reached.ensures ∙ ap (λ (t : Table). is_reached t last c.args.row.now) table
    ∙ sym (copied_as g.W.World.opening v.seen v.shard.slot c.args.source n c.args.row.now last (c.last_copied-last.ensures c.args.row.now)
    (sym c.has_copied.ensures ∙ c.if-has_copied.false))
