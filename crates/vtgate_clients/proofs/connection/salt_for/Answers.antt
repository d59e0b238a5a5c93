use Rattle.vtgate_clients.proofs.Handshake.{handshake_is}
use Rattle.vtgate_clients.proofs.connection.salt_for.Goals as goal

pub returns : goal.returns
returns c =
    handshake_is c.args.admission.now.access c.salt_of.result c.nonce.result.now c.args.number c.from.result c.args.admission.now.asked.now
    c.args.admission.now.user c.args.admission.now.stage2 c.salt_of.ensures c.from.ensures c.nonce.ensures
