use Rattle.std.proofs.Common.{◌∙◌, ap, sym, subst}
use Rattle.std.specs.Result.{result_ok}
use Rattle.std.specs.Str.{IsUtf8}
use Rattle.resultset.proofs.Digits.{wide_utf8, wide_parse}
use Rattle.resultset.proofs.values.number_of.Goals as goal

pub returns-in-Ok : goal.returns-in-Ok
returns-in-Ok c = λ n wide e. c.ok.ensures.value ∙ ap result_ok (wide_parse n c.in-Ok.digits.now c.parse.result wide (c.in-Ok.ensures.cases.0 ∙ e) c.parse.ensures.value.0)

pub returns-in-Err : goal.returns-in-Err
returns-in-Err c = λ n wide e. absurd (c.in-Err.ensures.cases.0 (subst IsUtf8 (sym e) (wide_utf8 n wide)))
