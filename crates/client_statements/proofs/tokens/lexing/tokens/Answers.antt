use Rattle.std.proofs.Common.{◌≡◌, Some, None, drop, sym, arith}
use Rattle.std.proofs.lemmas.List.{length-drop, drop-drop}
use Rattle.client_statements.specs.tokens.inner.Scanning.{piece_at}
use Rattle.client_statements.proofs.tokens.Lexes.{piece_within}
use Rattle.client_statements.proofs.tokens.Loop.{goes_on, no_piece, is_done}
use Rattle.client_statements.proofs.tokens.lexing.tokens.Goals as goal

pub returns-in_default : goal.returns-in_default
returns-in_default c =
    let rest = drop c.loop-at.at c.args.text.now in
    let none : piece_at rest ≡ None = rw (← c.rest_from.ensures) (sym c.in_default.ensures) in
    no_piece _ _ c.loop-at.at rest (omega (arith, length-drop c.loop-at.at c.args.text.now)) none c.loop-at.invariant.reads

pub overflow_add-end : goal.overflow_add-end
overflow_add-end c =
    let rest = drop c.loop-at.at c.args.text.now in
    let read : piece_at rest ≡ Some (c.in-Some.what, c.in-Some.length) = rw (← c.rest_from.ensures) (sym c.in-Some.ensures) in
    let size = piece_within rest (c.in-Some.what, c.in-Some.length) read in
    omega (arith, size.0, size.1, length-drop c.loop-at.at c.args.text.now)

pub loop-at-smaller : goal.loop-at-smaller
loop-at-smaller c =
    let rest = drop c.loop-at.at c.args.text.now in
    let read : piece_at rest ≡ Some (c.in-Some.what, c.in-Some.length) = rw (← c.rest_from.ensures) (sym c.in-Some.ensures) in
    let size = piece_within rest (c.in-Some.what, c.in-Some.length) read in
    omega (arith, size.0, size.1, length-drop c.loop-at.at c.args.text.now)

pub loop-at-preserved : goal.loop-at-preserved
loop-at-preserved c =
    let rest = drop c.loop-at.at c.args.text.now in
    let read : piece_at rest ≡ Some (c.in-Some.what, c.in-Some.length) = rw (← c.rest_from.ensures) (sym c.in-Some.ensures) in
    let size = piece_within rest (c.in-Some.what, c.in-Some.length) read in
    record {
      within = omega (arith, size.0, size.1, length-drop c.loop-at.at c.args.text.now);
      reads = rw (c.in_ok-push_piece.ensures, ← drop-drop c.in-Some.length c.loop-at.at c.args.text.now)
          (goes_on _ _ c.loop-at.at rest (c.in-Some.what, c.in-Some.length) read c.loop-at.invariant.reads);
    }

pub returns : goal.returns
returns c =
    let rest = drop c.loop-at.at c.args.text.now in
    is_done _ _ c.loop-at.at rest (omega (arith, length-drop c.loop-at.at c.args.text.now)) c.loop-at.invariant.reads
