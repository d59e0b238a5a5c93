use Rattle.std.proofs.Common.{ℕ, sym, ap, ◌∙◌}
use Rattle.std.specs.Prelude.{nat_le}
use Rattle.shard_run.specs.Runs.{mode, shard_rows}
use Rattle.shard_run.specs.Openings.{row_count}
use Rattle.shard_contents.specs.Limits.{Limits}
use Rattle.shard_contents.specs.Entries.{ShardView}
use Rattle.shard_contents.proofs.Bags.{row_count-same}
use Rattle.shard_contents.proofs.States.{holds_of}
use Rattle.shard.proofs.state.ShardState.fits.Goals as goal

pub returns : goal.returns
returns g c =
    let o = g.W.World.opening in
    let had = c.self.inside.contents in
    let seen = c.self.inside.seat.seen in
    let is = c.self.invariant.0 in
    let has = holds_of o g.W.World.limits seen had is.keeps
    (λ retired. c.requires.lives (ap (λ (v : ShardView). mode o v.seen v.shard.slot) (sym c.self.view_is) ∙ retired)) in
    c.has_at_most.ensures
    ∙ ap (λ (n : ℕ). nat_le n had.limits.rows)
    (row_count-same had.store.rows (shard_rows o seen had.shard) has.rows ∙ ap (λ (v : ShardView). row_count (shard_rows o v.seen v.shard)) c.self.view_is)
    ∙ ap (λ (l : Limits). nat_le (row_count (shard_rows o c.args.self.now.seen c.args.self.now.shard)) l.rows) is.limits
