use Rattle.std.proofs.Common.{sym}
use Rattle.aggregate.proofs.RowLemmas.{other_length}
use Rattle.aggregate.proofs.keys.same.Goals as goal

pub returns-then-a-b : goal.returns-then-a-b
returns-then-a-b c = sym (other_length c.args.a.now c.args.b.now c.if-a-b.true)
