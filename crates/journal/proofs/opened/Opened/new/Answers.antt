use Rattle.std.proofs.Common.{refl}
use Rattle.journal.proofs.Opening.{opening_kept, zeros}
use Rattle.journal.proofs.opened.Opened.new.Goals as goal

pub of_words-requires : goal.of_words-requires
of_words-requires g c = opening_kept _ _ _ _ refl zeros
