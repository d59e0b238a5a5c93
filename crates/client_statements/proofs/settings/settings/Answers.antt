use Rattle.std.proofs.Common.{◌≡◌, ◌+◌, ◌-◌, ◌<◌, ◌∙◌, ℕ, Option, Bool, Some, suc, length, subst, sym, ap, arith}
use Rattle.std.proofs.lemmas.List.{length-map}
use Rattle.std.proofs.lemmas.Bool.{eqb-true}
use Rattle.std.proofs.lemmas.Bool.Decides.{nat_tests}
use Rattle.std.proofs.lemmas.Result.{err_from_is_err_and}
use Rattle.sql_lexer.specs.inner.Results.{Fails}
use Rattle.client_statements.specs.tokens.Pieces.{lexemes_of}
use Rattle.client_statements.specs.Grammar.{settings_at}
use Rattle.client_statements.proofs.Lists.{setting_fails, last_setting, comma_fails, more_settings, no_settings}
use Rattle.client_statements.proofs.settings.settings.Goals as goal

pub returns-in_err-on : goal.returns-in_err-on
returns-in_err-on c =
    let n = length c.args.tokens.now - c.loop.counter in
    let rest = lexemes_of c.args.text.now c.loop.rest.now in
    let p = err_from_is_err_and c.from_residual.result c.from_residual.ensures.1 in
    rw (p.1, p.2) (subst (Fails c.in_err-on.field-0.0) c.loop.invariant
    (setting_fails c.loop.autocommit rest n c.in_err-on.field-0.0 c.in_err-on.ensures))

pub returns-then-is_empty : goal.returns-then-is_empty
returns-then-is_empty c =
    let n = length c.args.tokens.now - c.loop.counter in
    let m = length c.args.tokens.now - (c.loop.counter + 1) in
    let one : n ≡ suc m = omega arith in
    let rest = lexemes_of c.args.text.now c.loop.rest.now in
    let after = lexemes_of c.args.text.now c.in_ok-on.after.now in
    let empty : length c.in_ok-on.after.now ≡ 0 = eqb-true _ _ (sym c.is_empty.ensures ∙ c.if-is_empty.true) in
    let none : length after ≡ 0 = rw length-map empty in
    sym c.loop.invariant ∙ last_setting c.loop.autocommit rest n m c.in_ok-on.on after one c.in_ok-on.ensures none
    ∙ ap (λ (x : Option Bool). Some x) (sym c.or-autocommit.ensures)

pub returns-in_err-rest : goal.returns-in_err-rest
returns-in_err-rest c =
    let n = length c.args.tokens.now - c.loop.counter in
    let rest = lexemes_of c.args.text.now c.loop.rest.now in
    let after = lexemes_of c.args.text.now c.in_ok-on.after.now in
    let p = err_from_is_err_and c.from_residual-in_err-rest.result c.from_residual-in_err-rest.ensures.1 in
    let filled : 0 < length c.in_ok-on.after.now = grind (arith, nat_tests) in
    let some : 0 < length after = rw length-map filled in
    rw (p.1, p.2) (subst (Fails c.in_err-rest.field-0.0) c.loop.invariant
    (comma_fails c.loop.autocommit rest c.in_ok-on.on n after c.in_err-rest.field-0.0 c.in_ok-on.ensures some (c.in_err-rest.ensures c.args.text.now)))

pub loop-preserved : goal.loop-preserved
loop-preserved c =
    let n = length c.args.tokens.now - c.loop.counter in
    let m = length c.args.tokens.now - (c.loop.counter + 1) in
    let one : n ≡ suc m = omega arith in
    let rest = lexemes_of c.args.text.now c.loop.rest.now in
    let after = lexemes_of c.args.text.now c.in_ok-on.after.now in
    let next = lexemes_of c.args.text.now c.in_ok-rest.rest.now in
    let filled : 0 < length c.in_ok-on.after.now = grind (arith, nat_tests) in
    let some : 0 < length after = rw length-map filled in
    rw c.or-autocommit.ensures
    (sym (more_settings c.loop.autocommit rest c.in_ok-on.on n m after next one c.in_ok-on.ensures some (c.in_ok-rest.ensures c.args.text.now))
    ∙ c.loop.invariant)

pub returns : goal.returns
returns c =
    let n = length c.args.tokens.now - c.loop.counter in
    let none : n ≡ 0 = omega arith in
    let rest = lexemes_of c.args.text.now c.loop.rest.now in
    sym c.loop.invariant ∙ ap (λ (k : ℕ). settings_at k c.loop.autocommit rest) none ∙ no_settings c.loop.autocommit rest
