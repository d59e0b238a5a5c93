use Rattle.std.proofs.Common.{arith, sym}
use Rattle.std.proofs.lemmas.List.{length-map}
use Rattle.std.proofs.lemmas.Result.{err_from_is_err_and}
use Rattle.sql_lexer.specs.Lexemes.{lexemes_of}
use Rattle.sql_parser.specs.Grammar.{ReadsNot}
use Rattle.sql_parser.specs.inner.Reading.{ReadsAnd}
use Rattle.sql_parser.specs.inner.Reading.{is_and, is_or, not_at, and_at}
use Rattle.sql_parser.proofs.Loops.{goes_on, fails, is_done, after_shorter}
use Rattle.sql_parser.proofs.Sound.{shrinks}
use Rattle.sql_parser.proofs.ConditionsSound.{not_sound, and_sound}
use Rattle.sql_parser.proofs.conditions.+condition.Goals as goal

pub ands-returns-in_err-next : goal.ands-returns-in_err-next
ands-returns-in_err-next n c =
    let text = c.args.text.now in
    let rest = lexemes_of text c.loop-after.rest.now in
    let after = lexemes_of text c.in-Some.after.now in
    let p = err_from_is_err_and c.from_residual-in_err-next.result c.from_residual-in_err-next.ensures.1 in
    rw (p.1, p.2)
    (fails is_and (not_at c.args.depth) _ _ c.in_err-next.field-0.0 rest after (sym (c.in-Some.ensures text)) c.in_err-next.ensures c.loop-after.invariant)

pub ands-loop-after-smaller : goal.ands-loop-after-smaller
ands-loop-after-smaller n c =
    let text = c.args.text.now in
    let rest = lexemes_of text c.loop-after.rest.now in
    let after = lexemes_of text c.in-Some.after.now in
    let a = after_shorter is_and rest after (sym (c.in-Some.ensures text)) in
    let b = shrinks (ReadsNot c.args.depth) _ _ (not_sound c.args.depth after _ c.in_ok-next.ensures) in
    let m = simp length-map at a in
    let n = simp length-map at b in
    omega (arith, m, n)

pub ands-loop-after-preserved : goal.ands-loop-after-preserved
ands-loop-after-preserved n c =
    let text = c.args.text.now in
    let rest = lexemes_of text c.loop-after.rest.now in
    let after = lexemes_of text c.in-Some.after.now in
    let trailing = lexemes_of text c.in_ok-next.after.now in
    let b = shrinks (ReadsNot c.args.depth) _ _ (not_sound c.args.depth after _ c.in_ok-next.ensures) in
    rw c.in_ok-push-2.ensures.ok
    (goes_on is_and (not_at c.args.depth) _ _ rest after c.in_ok-next.next trailing (sym (c.in-Some.ensures text)) c.in_ok-next.ensures b c.loop-after.invariant)

pub ands-returns : goal.ands-returns
ands-returns n c =
    let text = c.args.text.now in
    is_done is_and (not_at c.args.depth) _ _ (lexemes_of text c.loop-after.rest.now) (sym (c.in_default.ensures text)) c.loop-after.invariant

pub ors-returns-in_err-next : goal.ors-returns-in_err-next
ors-returns-in_err-next n c =
    let text = c.args.text.now in
    let rest = lexemes_of text c.loop-after.rest.now in
    let after = lexemes_of text c.in-Some.after.now in
    let p = err_from_is_err_and c.from_residual-in_err-next.result c.from_residual-in_err-next.ensures.1 in
    rw (p.1, p.2)
    (fails is_or (and_at c.args.depth) _ _ c.in_err-next.field-0.0 rest after (sym (c.in-Some.ensures text)) c.in_err-next.ensures c.loop-after.invariant)

pub ors-loop-after-smaller : goal.ors-loop-after-smaller
ors-loop-after-smaller n c =
    let text = c.args.text.now in
    let rest = lexemes_of text c.loop-after.rest.now in
    let after = lexemes_of text c.in-Some.after.now in
    let a = after_shorter is_or rest after (sym (c.in-Some.ensures text)) in
    let b = shrinks (ReadsAnd c.args.depth) _ _ (and_sound c.args.depth after _ c.in_ok-next.ensures) in
    let m = simp length-map at a in
    let n = simp length-map at b in
    omega (arith, m, n)

pub ors-loop-after-preserved : goal.ors-loop-after-preserved
ors-loop-after-preserved n c =
    let text = c.args.text.now in
    let rest = lexemes_of text c.loop-after.rest.now in
    let after = lexemes_of text c.in-Some.after.now in
    let trailing = lexemes_of text c.in_ok-next.after.now in
    let b = shrinks (ReadsAnd c.args.depth) _ _ (and_sound c.args.depth after _ c.in_ok-next.ensures) in
    rw c.in_ok-push-2.ensures.ok
    (goes_on is_or (and_at c.args.depth) _ _ rest after c.in_ok-next.next trailing (sym (c.in-Some.ensures text)) c.in_ok-next.ensures b c.loop-after.invariant)

pub ors-returns : goal.ors-returns
ors-returns n c =
    let text = c.args.text.now in
    is_done is_or (and_at c.args.depth) _ _ (lexemes_of text c.loop-after.rest.now) (sym (c.in_default.ensures text)) c.loop-after.invariant
