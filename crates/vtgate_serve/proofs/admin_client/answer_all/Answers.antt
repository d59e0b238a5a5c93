use Rattle.std.proofs.Common.{◌∙◌, refl, [], ◌++◌}
use Rattle.std.proofs.KnownBytes.{Consumes-nil, Consumes-trans}
use Rattle.vtgate_serve.proofs.Conversing.{nothing_yet, piece_told, piece_broke, on_err}
use Rattle.vtgate_serve.proofs.admin_client.answer_all.Goals as goal

pub loop-init : goal.loop-init
loop-init g c = record {
  run = (
    [],
    Consumes-nil _,
    nothing_yet g.W.World.opening g.W.World.limits _ _ _ c.requires.none,
  );
  keyspace = refl;
}

pub loop-preserved : goal.loop-preserved
loop-preserved g c =
    let so = c.loop.invariant.run in
    let piece = c.in_ok-answer_next.ensures.told in
    record {
      run = (
        so.0 ++ piece.0,
        Consumes-trans _ _ _ so.0 piece.0 so.1 piece.1,
        piece_told g.W.World.opening g.W.World.limits _ (record { pass = c.loop.pass; workflow = c.loop.administrator }) _ so.0 _ piece.0 _ _ _ _ so.2 piece.2,
      );
      keyspace = c.answer_next.ensures.keyspace ∙ c.loop.invariant.keyspace;
    }

pub returns-then-not-branch-clause-talked : goal.returns-then-not-branch-clause-talked
returns-then-not-branch-clause-talked g c =
    let so = c.loop.invariant.run in
    let piece = c.in_ok-answer_next.ensures.told in
    record {
      came = so.0 ++ piece.0;
      rest = c.answer_next.new.front.items;
      consumed = Consumes-trans _ _ _ so.0 piece.0 so.1 piece.1;
      end = c.in_ok-answer_next.ensures.end c.if-not-branch.true;
      told = piece_told g.W.World.opening g.W.World.limits _ (record { pass = c.loop.pass; workflow = c.loop.administrator }) _ so.0 _ piece.0 _ _ _ _ so.2 piece.2;
    }

pub returns-in_err-answer_next-clause-broke : goal.returns-in_err-answer_next-clause-broke
returns-in_err-answer_next-clause-broke g c =
    let so = c.loop.invariant.run in
    let piece = c.in_err-answer_next.ensures.broke in
    on_err c.from_residual.result _ (record {
      came = so.0 ++ piece.0;
      consumed = Consumes-trans _ _ _ so.0 piece.0 so.1 piece.1;
      broke = piece_broke g.W.World.opening g.W.World.limits _ (record { pass = c.loop.pass; workflow = c.loop.administrator }) _ so.0 _ piece.0 _ _ _ so.2 piece.2;
    })
