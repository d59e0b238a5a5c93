use Rattle.std.proofs.Common.{ap}
use Rattle.vtgate_clients.specs.setup.ServeArgs.{ServeArgsView}
use Rattle.vtgate_clients.proofs.admission.Admission.nonce.Goals as goal

pub returns : goal.returns
returns c = ap (λ (a : ServeArgsView). a.nonce) c.asked.view_is
