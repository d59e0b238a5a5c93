use Rattle.std.proofs.Common.{[]}
use Rattle.vtgate_serve.proofs.script.Knowing.{same_way, none_yet}
use Rattle.vtgate_serve.proofs.script.sessions.Sessions.new.Goals as goal

pub invariant_of-result : goal.invariant_of-result
invariant_of-result g c = same_way g.W.World.opening 0 _ [] _ [] _ c.requires.opener c.requires.pass c.new.ensures.items (none_yet g.W.World.opening)
