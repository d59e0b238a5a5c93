use Rattle.std.proofs.Common.{Option, None, sym, subst}
use Rattle.shard_calls.specs.Pendings as stands
use Rattle.shard_calls.specs.Pendings.{OpenView, Represents}
use Rattle.test_engine.proofs.router.session.none_open.Goals as goal

-- no transaction is open
pub returns : goal.returns
returns g c = (None, subst (λ (v : Option OpenView). Represents g.W.World.opening c.args.pass.now v None) (sym c.new.ensures) stands.closed)
