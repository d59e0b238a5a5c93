use Rattle.reshard_cutover.proofs.Turns.{looked_at}
use Rattle.reshard_create.proofs.reopening.found_shards.look_at.Goals as goal

pub returns-in_err-which-clause-looked : goal.returns-in_err-which-clause-looked
returns-in_err-which-clause-looked g c = looked_at c.args.pass.now c.look.new.pass c.args.state.now.shard.slot _ _ c.look.ensures.pass

pub returns-in_err-named-clause-looked : goal.returns-in_err-named-clause-looked
returns-in_err-named-clause-looked g c = looked_at c.args.pass.now c.look.new.pass c.args.state.now.shard.slot _ _ c.look.ensures.pass

pub returns-clause-looked : goal.returns-clause-looked
returns-clause-looked g c = looked_at c.args.pass.now c.look.new.pass c.args.state.now.shard.slot _ _ c.look.ensures.pass
