use Rattle.std.proofs.Common.{[], ◌∙◌, rules, refl, subst}
use Rattle.serving.specs.Partitions.{Seat}
use Rattle.shard.proofs.Progress.{take_whole}
use Rattle.shard.specs.Seats.{seat_of}
use Rattle.reshard_create.specs.reopening.Rebuilt.{FoundView}
use Rattle.reshard_cutover.specs.Turns.{HasLookedAt}
use Rattle.reshard_cutover.proofs.Turns.{unlooked}
use Rattle.reshard_cutover.proofs.Thaws.{look_next}
use Rattle.reshard_cutover.proofs.Onward.{still, onward_trans}
use Rattle.reshard_create.specs.Looked.{slots_of}
use Rattle.reshard_create.proofs.Looking.{looked_last, along_all}
use Rattle.reshard_create.proofs.split.Lists.{map_twice}
use Rattle.reshard_create.proofs.reopening.Founds.{found_next, seen_next}
use Rattle.reshard_create.proofs.reopening.found_shards.find_all.Goals as goal

pub loop-part-init : goal.loop-part-init
loop-part-init g c =
    let none : HasLookedAt [] c.args.pass.now c.args.pass.now = unlooked c.args.pass.now c.args.pass.now refl in
    let on = still g.W.World.opening c.args.pass.now c.requires.legal in
    search (rules, none, on)

pub loop-part-preserved : goal.loop-part-preserved
loop-part-preserved g c =
    let o = g.W.World.opening in
    record {
      onward = onward_trans o c.args.pass.now c.loop-part.pass c.find.new.pass c.loop-part.invariant.onward c.find.ensures.onward;
      seats =
          seen_next (λ f. seat_of f.member.which) c.args.parts.now c.loop-part.part-index c.part-item.result c.loop-part.found.items c.push.new.self.items
          c.in_ok-find.field-0 c.loop-part-test.true c.part-item.is c.in_ok-push.ensures.items c.loop-part.invariant.seats c.in_ok-find.ensures.seat;
      shards =
          seen_next (λ f. f.member.shard.value) c.args.parts.now c.loop-part.part-index c.part-item.result c.loop-part.found.items c.push.new.self.items
          c.in_ok-find.field-0 c.loop-part-test.true c.part-item.is c.in_ok-push.ensures.items c.loop-part.invariant.shards c.in_ok-find.ensures.shard;
      looked =
          look_next (λ (s : Seat). s.0) c.args.parts.now c.loop-part.part-index c.part-item.result c.loop-part-test.true c.part-item.is c.args.pass.now
          c.loop-part.pass c.find.new.pass c.loop-part.invariant.looked c.find.ensures.looked;
      each =
          found_next o (λ f. (f.member.which, f.mode, f.named)) c.args.pass.now c.loop-part.pass c.find.new.pass c.loop-part.found.items c.push.new.self.items
          c.in_ok-find.field-0 c.loop-part.invariant.onward.later c.find.ensures.onward.later c.in_ok-push.ensures.items c.loop-part.invariant.each
          c.in_ok-find.ensures.found;
    }

pub returns-clause-found : goal.returns-clause-found
returns-clause-found g c = record {
  seats =
      map_twice (λ (f : FoundView). seat_of f.0) (λ f. (f.member.which, f.mode, f.named)) c.loop-part.found.items ∙ c.loop-part.invariant.seats
      ∙ take_whole c.loop-part.part-index c.args.parts.now c.loop-part-test.false;
  each = c.loop-part.invariant.each;
}

pub returns-in_err-find-clause-looked : goal.returns-in_err-find-clause-looked
returns-in_err-find-clause-looked g c =
    looked_last c.args.parts.now c.loop-part.part-index c.part-item.result c.loop-part-test.true c.part-item.is c.args.pass.now c.loop-part.pass c.find.new.pass
    c.loop-part.invariant.looked c.find.ensures.looked

pub returns-in_err-push-clause-looked : goal.returns-in_err-push-clause-looked
returns-in_err-push-clause-looked g c =
    looked_last c.args.parts.now c.loop-part.part-index c.part-item.result c.loop-part-test.true c.part-item.is c.args.pass.now c.loop-part.pass c.find.new.pass
    c.loop-part.invariant.looked c.find.ensures.looked

pub returns-clause-all : goal.returns-clause-all
returns-clause-all g c =
    subst (λ l. HasLookedAt (slots_of l) c.args.pass.now c.loop-part.pass) (take_whole c.loop-part.part-index c.args.parts.now c.loop-part-test.false)
    c.loop-part.invariant.looked

pub returns-clause-looked : goal.returns-clause-looked
returns-clause-looked g c = along_all (slots_of c.args.parts.now) c.args.pass.now c.loop-part.pass (returns-clause-all g c)
