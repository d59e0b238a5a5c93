use Rattle.std.proofs.Common.{Option, IfSome, subst}
use Rattle.std.proofs.lemmas.Result.{IfOk-weaker}
use Rattle.program_log.specs.lines.Lines.{LogEntry, TellsAt}
use Rattle.program_log.proofs.lines.Tellings.{recorded, whole_line}
use Rattle.program_log.proofs.lines.line.line_of.Goals as goal

pub returns-clause-text : goal.returns-clause-text
returns-clause-text g c =
    let output = g.D.Display.output in
    let pairs = g.K.Source.pairs in
    let scopes = g.S.Spans.scopes in
    IfOk-weaker c.ended.result _ _
    (λ line e.
    subst (λ (o : Option LogEntry). IfSome o (λ entry. TellsAt c.args.instant entry line))
    (recorded output pairs scopes c.args.told.now c.level.result c.args-2.result.now c.key_values.result.now c.spans.result.now c.level.ensures c.args-2.ensures c.key_values.ensures c.spans.ensures)
    (whole_line c.args.instant c.level.result (output c.args-2.result.now) (scopes c.spans.result.now) (pairs c.key_values.result.now)
    c.in_ok-draft.draft c.add_spans.new.self c.add_pairs.new.self line c.in_ok-draft.ensures c.in_ok-add_spans.ensures c.in_ok-add_pairs.ensures e))
    c.ended.ensures
