use Rattle.std.proofs.Common.{ℕ, ap, length, arith, length-append}
use Rattle.vtgate_serve.proofs.admin_client.put.Goals as goal

pub returns-in-Ok-clause-few : goal.returns-in-Ok-clause-few
returns-in-Ok-clause-few c = omega (arith, ap length c.in-Ok.ensures.items, length-append {A = ℕ}, c.in-Some.ensures, c.len.ensures)
