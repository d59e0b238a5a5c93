use Rattle.std.proofs.Common.{◌∙◌, arith, sym, subst}
use Rattle.std.proofs.lemmas.List.{length-map}
use Rattle.std.proofs.lemmas.Result.{err_from_is_err_and}
use Rattle.sql_lexer.specs.Lexemes.{lexemes_of}
use Rattle.sql_lexer.specs.inner.Results.{Fails}
use Rattle.sql_parser.specs.Grammar.{ReadsAssignment}
use Rattle.sql_parser.specs.inner.Reading.{assignment_at, is_comma}
use Rattle.sql_parser.proofs.Loops.{goes_on, fails, is_done, after_shorter, listed_from}
use Rattle.sql_parser.proofs.Sound.{shrinks}
use Rattle.sql_parser.proofs.WriteLaws.{assignment_sound}
use Rattle.sql_parser.proofs.writes.assignments.Goals as goal

pub returns-in_err-next : goal.returns-in_err-next
returns-in_err-next c =
    let text = c.args.text.now in
    let rest = lexemes_of text c.loop-after.rest.now in
    let after = lexemes_of text c.in-Some.after.now in
    let p = err_from_is_err_and c.from_residual-in_err-next.result c.from_residual-in_err-next.ensures.1 in
    let one = rw c.new-assignments.ensures at c.in_ok-push.ensures.ok in
    let all = listed_from assignment_at (lexemes_of text c.args.tokens.now) c.in_ok-first.first (lexemes_of text c.in_ok-first.rest.now)
    c.push.new.self c.in_ok-first.ensures one in
    let fails_here = fails is_comma assignment_at _ _ c.in_err-next.field-0.0 rest after (sym (c.in-Some.ensures text)) c.in_err-next.ensures c.loop-after.invariant in
    rw (p.1, p.2) (subst (Fails c.in_err-next.field-0.0) (sym all) fails_here)

pub loop-after-smaller : goal.loop-after-smaller
loop-after-smaller c =
    let text = c.args.text.now in
    let rest = lexemes_of text c.loop-after.rest.now in
    let after = lexemes_of text c.in-Some.after.now in
    let a = after_shorter is_comma rest after (sym (c.in-Some.ensures text)) in
    let b = shrinks ReadsAssignment _ _ (assignment_sound after _ c.in_ok-next.ensures) in
    let m = simp length-map at a in
    let n = simp length-map at b in
    omega (arith, m, n)

pub loop-after-preserved : goal.loop-after-preserved
loop-after-preserved c =
    let text = c.args.text.now in
    let rest = lexemes_of text c.loop-after.rest.now in
    let after = lexemes_of text c.in-Some.after.now in
    let trailing = lexemes_of text c.in_ok-next.after.now in
    let b = shrinks ReadsAssignment _ _ (assignment_sound after _ c.in_ok-next.ensures) in
    rw c.in_ok-push-2.ensures.ok
    (goes_on is_comma assignment_at _ _ rest after c.in_ok-next.next trailing (sym (c.in-Some.ensures text)) c.in_ok-next.ensures b c.loop-after.invariant)

pub returns : goal.returns
returns c =
    let text = c.args.text.now in
    let rest = lexemes_of text c.loop-after.rest.now in
    let one = rw c.new-assignments.ensures at c.in_ok-push.ensures.ok in
    let all = listed_from assignment_at (lexemes_of text c.args.tokens.now) c.in_ok-first.first (lexemes_of text c.in_ok-first.rest.now)
    c.push.new.self c.in_ok-first.ensures one in
    all ∙ is_done is_comma assignment_at _ _ rest (sym (c.in_default.ensures text)) c.loop-after.invariant
