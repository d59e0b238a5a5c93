use Rattle.key_intervals.proofs.KeyLemmas.{every_inside}
use Rattle.key_intervals.proofs.keys.key_interval.Goals as goal

pub returns-in-None : goal.returns-in-None
returns-in-None c = λ row kept. every_inside c.new-known.result _ c.new-known.ensures
