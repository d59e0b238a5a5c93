use Rattle.std.proofs.Common.{refl}
use Rattle.shard_contents.proofs.Earlier.{all_had_none}
use Rattle.shard_contents.proofs.States.{unfollowed_contents}
use Rattle.shard.proofs.Views.{given_up_view}
use Rattle.shard.proofs.state.ShardState.unfollow.Goals as goal

pub invariant_of-self : goal.invariant_of-self
invariant_of-self g c = (
  unfollowed_contents _ _ _ c.self.inside.contents _ c.self.invariant.0 refl refl refl c.unfollow.ensures refl refl,
  c.self.invariant.1,
  all_had_none _ _ _ c.clear.ensures,
)

pub returns : goal.returns
returns g c = given_up_view _ c.self.inside.contents (record c.self.inside.contents { stored = c.unfollow.new.self }) _ c.self.view_is refl c.unfollow.ensures refl
