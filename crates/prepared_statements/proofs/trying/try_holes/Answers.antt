use Rattle.std.proofs.Common.{◌∙◌}
use Rattle.std.proofs.lemmas.Bool.{iff_false}
use Rattle.std.proofs.lemmas.Result.{IfOk-weaker, MatchResult-weaker}
use Rattle.prepared_statements.specs.inner.Cutting.{literal_of}
use Rattle.prepared_statements.proofs.Tryings.{tried_last_is, tried_next, some_piece, all_tried}
use Rattle.prepared_statements.proofs.trying.try_holes.Goals as goal

pub returns-then-is_none-clause-found : goal.returns-then-is_none-clause-found
returns-then-is_none-clause-found c =
    IfOk-weaker c.after_last.result _ _
    (λ x h. tried_last_is (literal_of c.args.tried) c.args.pieces.now c.loop-piece.left.now c.in-Some.more.now c.loop-piece.values x c.in-Some.piece.now h.1.0
    c.loop-piece.invariant c.in-Some.ensures.some (c.is_none.ensures.0 c.if-is_none.true) h.1.1 h.0)
    c.after_last.ensures.found

pub returns-then-is_none-clause-only : goal.returns-then-is_none-clause-only
returns-then-is_none-clause-only c = λ values tries.
    let a =
    all_tried (literal_of c.args.tried) c.args.pieces.now c.loop-piece.left.now c.in-Some.more.now c.loop-piece.values values c.in-Some.piece.now c.loop-piece.invariant
    c.in-Some.ensures.some (c.is_none.ensures.0 c.if-is_none.true) tries
    in
    MatchResult-weaker c.after_last.result (c.after_last.ensures.only a.0 a.1) (λ x p. p ∙ a.2) (λ y q. q)

pub loop-piece-preserved : goal.loop-piece-preserved
loop-piece-preserved c =
    let more = some_piece c.in-Some.more.now (iff_false c.is_none.ensures c.if-is_none.false) in
    tried_next (literal_of c.args.tried) c.args.pieces.now c.loop-piece.left.now c.in-Some.more.now c.loop-piece.values c.push.new.self c.in-Some.piece.now more.0 more.1
    c.in-Ok.value c.loop-piece.invariant c.in-Some.ensures.some more.2 c.in-Ok.ensures.found c.in-Ok.ensures.only c.in_ok-push-in-Ok.ensures.ok
