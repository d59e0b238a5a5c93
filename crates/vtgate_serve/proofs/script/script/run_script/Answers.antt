use Rattle.std.proofs.Common.{sym, ◌∙◌}
use Rattle.vtgate_serve.proofs.script.script.run_script.Goals as goal

pub returns-in-Err-clause-scripted : goal.returns-in-Err-clause-scripted
returns-in-Err-clause-scripted g c = λ done. absurd (c.refuse.ensures.failed done)

pub returns-in-Err-clause-untouched : goal.returns-in-Err-clause-untouched
returns-in-Err-clause-untouched g c = λ none. (c.scripted.ensures.untouched none).0

pub returns-in-Err-clause-cause : goal.returns-in-Err-clause-cause
returns-in-Err-clause-cause g c = λ two. c.in-Err.ensures.fault (sym c.refuse.ensures.status ∙ two)

pub returns-clause-untouched : goal.returns-clause-untouched
returns-clause-untouched g c = λ none. (c.scripted.ensures.untouched none).0
