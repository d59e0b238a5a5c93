use Rattle.client_words.proofs.Sayings.{one_said}
use Rattle.client_words.proofs.saying.one_saying.Goals as goal

pub returns : goal.returns
returns c = λ schema text a b names others is is_too. one_said schema text a b names others (c.one_lexing.ensures text) is is_too
