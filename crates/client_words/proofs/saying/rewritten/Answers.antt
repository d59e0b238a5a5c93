use Rattle.std.proofs.Common.{sym, ◌∙◌}
use Rattle.client_words.proofs.Sayings.{whole_written, no_words}
use Rattle.client_words.proofs.saying.rewritten.Goals as goal

pub returns : goal.returns
returns c =
    rw c.from_vec.ensures
    (whole_written _ _ _ _ (no_words c.args.text.now c.loop-rest.rest.now (sym c.is_empty.ensures ∙ c.loop-rest-test.false)) c.loop-rest.invariant)
