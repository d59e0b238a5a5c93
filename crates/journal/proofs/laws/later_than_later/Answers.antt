use Rattle.journal.proofs.Public.{later_trans}
use Rattle.journal.proofs.laws.later_than_later.Goals as goal

pub returns : goal.returns
returns g c = λ s t p q run first slots seen sessions then. later_trans _ _ _ s t p q run first slots seen sessions then
