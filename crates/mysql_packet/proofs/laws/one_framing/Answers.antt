use Rattle.mysql_packet.proofs.OneFraming.{one_split, one_refused, split_or_refused}
use Rattle.mysql_packet.proofs.laws.one_framing.Goals as goal

pub returns-clause-split : goal.returns-clause-split
returns-clause-split c = one_split

pub returns-clause-refused : goal.returns-clause-refused
returns-clause-refused c = one_refused

pub returns-clause-apart : goal.returns-clause-apart
returns-clause-apart c = split_or_refused
