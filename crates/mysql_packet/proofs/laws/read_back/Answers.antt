use Rattle.mysql_packet.proofs.StreamLemmas.{reads_back}
use Rattle.mysql_packet.proofs.laws.read_back.Goals as goal

pub returns : goal.returns
returns c = reads_back
