use Rattle.std.proofs.Common.{◌≡◌, true, false, Some, None, drop, sym, arith}
use Rattle.std.proofs.lemmas.List.{length-drop, drop-drop}
use Rattle.sql_lexer.specs.Lexemes.{is_blank}
use Rattle.sql_lexer.specs.inner.Scanning.{first_passes, token_at}
use Rattle.sql_lexer.proofs.Lexes.{token_within}
use Rattle.sql_lexer.proofs.Loop.{skips, goes_on, no_token, is_done}
use Rattle.sql_lexer.proofs.lexing.tokens.Goals as goal

pub loop-at-preserved-then-begins_blank : goal.loop-at-preserved-then-begins_blank
loop-at-preserved-then-begins_blank c =
    let rest = drop c.loop-at.at c.args.text.now in
    let blank : first_passes is_blank rest ≡ true = rw (← c.rest_from-rest.ensures) (sym c.if-begins_blank.ensures) in
    record {
      within = omega arith;
      reads = rw (← drop-drop 1 c.loop-at.at c.args.text.now) (skips _ _ c.loop-at.at rest blank c.loop-at.invariant.reads);
    }

pub returns-in_default : goal.returns-in_default
returns-in_default c =
    let rest = drop c.loop-at.at c.args.text.now in
    let plain : first_passes is_blank rest ≡ false = rw (← c.rest_from-rest.ensures) (sym c.if-begins_blank.ensures) in
    let none : token_at rest ≡ None = rw (← c.rest_from-rest.ensures) (sym c.in_default.ensures) in
    no_token _ _ c.loop-at.at rest (omega (arith, length-drop c.loop-at.at c.args.text.now)) plain none c.loop-at.invariant.reads

pub overflow_add-end : goal.overflow_add-end
overflow_add-end c =
    let rest = drop c.loop-at.at c.args.text.now in
    let read : token_at rest ≡ Some (c.in-Some.kind, c.in-Some.length) = rw (← c.rest_from-rest.ensures) (sym c.in-Some.ensures) in
    let size = token_within rest (c.in-Some.kind, c.in-Some.length) read in
    omega (arith, size.0, size.1, length-drop c.loop-at.at c.args.text.now)

pub loop-at-smaller : goal.loop-at-smaller
loop-at-smaller c =
    let rest = drop c.loop-at.at c.args.text.now in
    let read : token_at rest ≡ Some (c.in-Some.kind, c.in-Some.length) = rw (← c.rest_from-rest.ensures) (sym c.in-Some.ensures) in
    let size = token_within rest (c.in-Some.kind, c.in-Some.length) read in
    omega (arith, size.0, size.1, length-drop c.loop-at.at c.args.text.now)

pub loop-at-preserved : goal.loop-at-preserved
loop-at-preserved c =
    let rest = drop c.loop-at.at c.args.text.now in
    let plain : first_passes is_blank rest ≡ false = rw (← c.rest_from-rest.ensures) (sym c.if-begins_blank.ensures) in
    let read : token_at rest ≡ Some (c.in-Some.kind, c.in-Some.length) = rw (← c.rest_from-rest.ensures) (sym c.in-Some.ensures) in
    let size = token_within rest (c.in-Some.kind, c.in-Some.length) read in
    record {
      within = omega (arith, size.0, size.1, length-drop c.loop-at.at c.args.text.now);
      reads = rw (c.in_ok-push.ensures.items, ← drop-drop c.in-Some.length c.loop-at.at c.args.text.now)
          (goes_on _ _ c.loop-at.at rest (c.in-Some.kind, c.in-Some.length) plain read c.loop-at.invariant.reads);
    }

pub returns : goal.returns
returns c =
    let rest = drop c.loop-at.at c.args.text.now in
    is_done _ _ c.loop-at.at rest (omega (arith, length-drop c.loop-at.at c.args.text.now)) c.loop-at.invariant.reads
