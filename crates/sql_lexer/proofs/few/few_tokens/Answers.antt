use Rattle.std.proofs.Common.{rules, ◌≡◌, ◌<◌, ◌+◌, true, false, List, [], ◌∷◌, Some, None, length, take, drop, sym, ◌∙◌, arith}
use Rattle.std.proofs.lemmas.List.{length-append, length-drop, length-take, drop-drop, take_more_set}
use Rattle.sql_lexer.specs.declared.token.Token.{Token}
use Rattle.sql_lexer.specs.Lexemes.{is_blank}
use Rattle.sql_lexer.specs.inner.Scanning.{first_passes, token_at}
use Rattle.sql_lexer.proofs.Lexes.{token_of, token_within}
use Rattle.sql_lexer.proofs.Loop.{skips, goes_on, no_token, no_fewer, is_done}
use Rattle.sql_lexer.proofs.few.few_tokens.Goals as goal

pub loop-at-preserved-then-begins_blank : goal.loop-at-preserved-then-begins_blank
loop-at-preserved-then-begins_blank c =
    let rest = drop c.loop-at.at c.args.text.now in
    let blank : first_passes is_blank rest ≡ true = rw (← c.rest_from-rest.ensures) (sym c.if-begins_blank.ensures) in
    record {
      within = omega arith;
      room = c.loop-at.invariant.room;
      reads = rw (← drop-drop 1 c.loop-at.at c.args.text.now) (skips _ _ c.loop-at.at rest blank c.loop-at.invariant.reads);
    }

pub returns-in_default-clause-none : goal.returns-in_default-clause-none
returns-in_default-clause-none c = λ _ tokens whole.
    let rest = drop c.loop-at.at c.args.text.now in
    let plain : first_passes is_blank rest ≡ false = rw (← c.rest_from-rest.ensures) (sym c.if-begins_blank.ensures) in
    let none : token_at rest ≡ None = rw (← c.rest_from-rest.ensures) (sym c.in_default.ensures) in
    let unread = no_token _ _ c.loop-at.at rest (omega (arith, length-drop c.loop-at.at c.args.text.now)) plain none c.loop-at.invariant.reads in
    absurd cc

pub returns-then-count-room-clause-none : goal.returns-then-count-room-clause-none
returns-then-count-room-clause-none c = λ _ tokens whole.
    let rest = drop c.loop-at.at c.args.text.now in
    let plain : first_passes is_blank rest ≡ false = rw (← c.rest_from-rest.ensures) (sym c.if-begins_blank.ensures) in
    let read : token_at rest ≡ Some (c.in-Some.kind, c.in-Some.length) = rw (← c.rest_from-rest.ensures) (sym c.in-Some.ensures) in
    let front = take c.loop-at.count c.loop-at.room in
    let next = goes_on _ _ c.loop-at.at rest (c.in-Some.kind, c.in-Some.length) plain read c.loop-at.invariant.reads in
    let many = no_fewer _ _ (c.loop-at.at + c.in-Some.length) (drop c.in-Some.length rest) tokens whole next in
    omega (arith, length-append front (token_of c.loop-at.at (c.in-Some.kind, c.in-Some.length) ∷ []), length-take c.loop-at.count c.loop-at.room, c.loop-at.auto.room)

pub overflow_add-end : goal.overflow_add-end
overflow_add-end c =
    let rest = drop c.loop-at.at c.args.text.now in
    let read : token_at rest ≡ Some (c.in-Some.kind, c.in-Some.length) = rw (← c.rest_from-rest.ensures) (sym c.in-Some.ensures) in
    let size = token_within rest (c.in-Some.kind, c.in-Some.length) read in
    omega (arith, size.0, size.1, length-drop c.loop-at.at c.args.text.now)

pub loop-at-smaller : goal.loop-at-smaller
loop-at-smaller c =
    let rest = drop c.loop-at.at c.args.text.now in
    let read : token_at rest ≡ Some (c.in-Some.kind, c.in-Some.length) = rw (← c.rest_from-rest.ensures) (sym c.in-Some.ensures) in
    let size = token_within rest (c.in-Some.kind, c.in-Some.length) read in
    omega (arith, size.0, size.1, length-drop c.loop-at.at c.args.text.now)

pub loop-at-preserved : goal.loop-at-preserved
loop-at-preserved c =
    let rest = drop c.loop-at.at c.args.text.now in
    let plain : first_passes is_blank rest ≡ false = rw (← c.rest_from-rest.ensures) (sym c.if-begins_blank.ensures) in
    let read : token_at rest ≡ Some (c.in-Some.kind, c.in-Some.length) = rw (← c.rest_from-rest.ensures) (sym c.in-Some.ensures) in
    let size = token_within rest (c.in-Some.kind, c.in-Some.length) read in
    record {
      within = omega (arith, size.0, size.1, length-drop c.loop-at.at c.args.text.now);
      room = search (rules, c.if-count-room.false);
      reads = rw (take_more_set c.loop-at.room c.loop-at.count _ c.if-count-room.false, ← drop-drop c.in-Some.length c.loop-at.at c.args.text.now)
          (goes_on _ _ c.loop-at.at rest (c.in-Some.kind, c.in-Some.length) plain read c.loop-at.invariant.reads);
    }

pub returns-clause-read : goal.returns-clause-read
returns-clause-read c =
    let rest = drop c.loop-at.at c.args.text.now in
    is_done _ _ c.loop-at.at rest (omega (arith, length-drop c.loop-at.at c.args.text.now)) c.loop-at.invariant.reads
