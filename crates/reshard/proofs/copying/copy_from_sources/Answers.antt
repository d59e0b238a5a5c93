use Rattle.std.proofs.Common.{◌≡◌, inl, [], ◌∷◌, map, rules, refl, subst, arith}
use Rattle.reshard_create.specs.Step.TheVariants.{Followed, Level}
use Rattle.reshard_create.specs.FirstMoves.{HasMovedFirst, IsOneStepFirst, IsNoStepFirst}
use Rattle.reshard_create.proofs.Moving.{with_after}
use Rattle.reshard_create.proofs.Onward.{still, onward_trans}
use Rattle.reshard.specs.Cutover as cut
use Rattle.reshard.proofs.AllCopied.{level_one, counted_none, counted_more, outrun}
use Rattle.reshard.proofs.Switches.{on_refusal}
use Rattle.reshard.proofs.copying.copy_from_sources.Goals as goal

pub loop-init : goal.loop-init
loop-init g c = record {
  next = tt;
  finite = tt;
  onward = still g.W.World.opening c.args.pass.now c.requires.legal;
  come = cut.unmoved;
  counted =
      counted_none g.W.World.opening (c.args.target.now.member.which, map (λ s. s.which) c.args.target.now.sources.items) c.args.pass.now c.args.pass.now
      c.most_followed-left.result (still g.W.World.opening c.args.pass.now c.requires.legal) c.most_followed-left.ensures;
}

pub returns-in-Level-clause-copied : goal.returns-in-Level-clause-copied
returns-in-Level-clause-copied g c =
    let o = g.W.World.opening in
    let t = c.args.target.now in
    inl (with_after o (map (λ s. s.which) t.sources.items) t.member.which c.args.pass.now c.loop.pass c.move_first.new.pass c.loop.invariant.onward Level
    (level_one o (t.member.which, map (λ s. s.which) t.sources.items) c.loop.pass c.move_first.new.pass c.in_ok-move_first.field-0 c.in-Level.is
    (subst (λ l. HasMovedFirst g.W.World.opening (map (λ t. (t.member.which, map (λ s. s.which) t.sources.items)) l) c.loop.pass c.move_first.new.pass c.in_ok-move_first.field-0)
    c.from_ref-one.ensures.value c.in_ok-move_first.ensures.moved)))

pub returns-in-Level-clause-come : goal.returns-in-Level-clause-come
returns-in-Level-clause-come g c =
    cut.moved c.loop.invariant.come
    (subst (λ l. IsOneStepFirst (map (λ t. (t.member.which, map (λ s. s.which) t.sources.items)) l) c.loop.pass c.move_first.new.pass c.in_ok-move_first.field-0)
    c.from_ref-one.ensures.value c.in_ok-move_first.ensures.once)

pub returns-then-left-le1-clause-copied : goal.returns-then-left-le1-clause-copied
returns-then-left-le1-clause-copied g c =
    outrun g.W.World.opening (c.args.target.now.member.which, map (λ s. s.which) c.args.target.now.sources.items) c.args.pass.now c.loop.pass c.move_first.new.pass
    c.loop.left c.loop.invariant.counted c.if-left-le1.true c.move_first.ensures.onward c.in_ok-move_first.field-0 c.in-Followed.is
    (subst (λ l. HasMovedFirst g.W.World.opening (map (λ t. (t.member.which, map (λ s. s.which) t.sources.items)) l) c.loop.pass c.move_first.new.pass c.in_ok-move_first.field-0)
    c.from_ref-one.ensures.value c.in_ok-move_first.ensures.moved)
    (subst (λ l. IsOneStepFirst (map (λ t. (t.member.which, map (λ s. s.which) t.sources.items)) l) c.loop.pass c.move_first.new.pass c.in_ok-move_first.field-0)
    c.from_ref-one.ensures.value c.in_ok-move_first.ensures.once)

pub returns-then-left-le1-clause-come : goal.returns-then-left-le1-clause-come
returns-then-left-le1-clause-come g c =
    cut.moved c.loop.invariant.come
    (subst (λ l. IsOneStepFirst (map (λ t. (t.member.which, map (λ s. s.which) t.sources.items)) l) c.loop.pass c.move_first.new.pass c.in_ok-move_first.field-0)
    c.from_ref-one.ensures.value c.in_ok-move_first.ensures.once)

pub loop-preserved-in-Copied : goal.loop-preserved-in-Copied
loop-preserved-in-Copied g c = record {
  next = tt;
  finite = tt;
  onward =
      onward_trans g.W.World.opening c.args.pass.now c.loop.pass c.move_first.new.pass c.loop.invariant.onward c.move_first.ensures.onward;
  come =
      cut.moved c.loop.invariant.come
      (subst (λ l. IsOneStepFirst (map (λ t. (t.member.which, map (λ s. s.which) t.sources.items)) l) c.loop.pass c.move_first.new.pass c.in_ok-move_first.field-0)
      c.from_ref-one.ensures.value c.in_ok-move_first.ensures.once);
  counted =
      counted_none g.W.World.opening (c.args.target.now.member.which, map (λ s. s.which) c.args.target.now.sources.items) c.args.pass.now c.move_first.new.pass _
      (onward_trans g.W.World.opening c.args.pass.now c.loop.pass c.move_first.new.pass c.loop.invariant.onward c.move_first.ensures.onward)
      (omega arith);
}

pub loop-preserved : goal.loop-preserved
loop-preserved g c =
    let a = c.if-left-le1.false in
    record {
      next = tt;
      finite = tt;
      onward =
          onward_trans g.W.World.opening c.args.pass.now c.loop.pass c.move_first.new.pass c.loop.invariant.onward c.move_first.ensures.onward;
      come =
          cut.moved c.loop.invariant.come
          (subst (λ l. IsOneStepFirst (map (λ t. (t.member.which, map (λ s. s.which) t.sources.items)) l) c.loop.pass c.move_first.new.pass c.in_ok-move_first.field-0)
          c.from_ref-one.ensures.value c.in_ok-move_first.ensures.once);
      counted =
          counted_more g.W.World.opening (c.args.target.now.member.which, map (λ s. s.which) c.args.target.now.sources.items) c.args.pass.now c.loop.pass
          c.move_first.new.pass c.loop.left _ c.loop.invariant.counted (omega (arith, a)) c.in_ok-move_first.field-0 c.in-Followed.is
          (subst (λ l. HasMovedFirst g.W.World.opening (map (λ t. (t.member.which, map (λ s. s.which) t.sources.items)) l) c.loop.pass c.move_first.new.pass c.in_ok-move_first.field-0)
          c.from_ref-one.ensures.value c.in_ok-move_first.ensures.moved)
          (subst (λ l. IsOneStepFirst (map (λ t. (t.member.which, map (λ s. s.which) t.sources.items)) l) c.loop.pass c.move_first.new.pass c.in_ok-move_first.field-0)
          c.from_ref-one.ensures.value c.in_ok-move_first.ensures.once);
    }

pub returns-in_err-move_first-clause-until : goal.returns-in_err-move_first-clause-until
returns-in_err-move_first-clause-until g c =
    on_refusal c.from_residual.result _
    (record {
      last = c.loop.pass;
      moves = c.loop.invariant.come;
      refused =
          subst (λ l. IsNoStepFirst (map (λ t. (t.member.which, map (λ s. s.which) t.sources.items)) l) c.loop.pass c.move_first.new.pass)
          c.from_ref-one.ensures.value c.in_err-move_first.ensures.nothing;
    })
