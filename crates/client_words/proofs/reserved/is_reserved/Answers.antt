use Rattle.client_words.specs.Reserved.{is_reserved}
use Rattle.client_words.proofs.reserved.is_reserved.Goals as goal

pub returns : goal.returns
unfolding is_reserved
returns c = c.is_one_of.ensures
