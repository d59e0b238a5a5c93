use Rattle.mysql_packet.proofs.StreamLemmas.{rest_bound}
use Rattle.mysql_packet.proofs.laws.bounded_rest.Goals as goal

pub returns : goal.returns
returns c = λ limit bytes ps rest split. rest_bound limit rest split.partial
