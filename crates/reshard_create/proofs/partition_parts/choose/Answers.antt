use Rattle.std.proofs.Common.{◌≡◌, ◌∙◌, ◌++◌, ◌∷◌, [], ap, subst, sym, Bool, true, false}
use Rattle.std.specs.Prelude.{Contains}
use Rattle.serving.specs.Partitions.{Seat}
use Rattle.reshard_create.proofs.Named.{named_next, taken_among_next, among_next}
use Rattle.reshard_create.proofs.partition_parts.choose.Goals as goal

pub loop-part-preserved : goal.loop-part-preserved
loop-part-preserved g c =
    let b : Bool = c.is_among-named.result in
    let taken = c.loop-part.chosen.taken.items in
    let rest = c.loop-part.chosen.rest.items in
    let x : Seat = c.part-item.result in
    let one : b ≡ true → (c.add.new.self.taken.items ≡ taken ++ x ∷ []) × (c.add.new.self.rest.items ≡ rest) =
    λ e. (let w = c.in_ok-add.ensures.named e in (w.0 ∙ ap (λ (y : Seat). taken ++ y ∷ []) c.in_ok-copy_part.ensures.ok, w.1)) in
    let other : b ≡ false → (c.add.new.self.taken.items ≡ taken) × (c.add.new.self.rest.items ≡ rest ++ x ∷ []) =
    λ e. (let w = c.in_ok-add.ensures.other e in (w.0, w.1 ∙ ap (λ (y : Seat). rest ++ y ∷ []) c.in_ok-copy_part.ensures.ok)) in
    record {
      are =
          named_next c.args.ranges.now c.args.parts.now c.loop-part.part-index x c.loop-part-test.true c.part-item.is taken rest c.loop-part.invariant.are b
          c.add.new.self.taken.items c.add.new.self.rest.items (λ e. subst (Contains c.args.ranges.now) c.range.ensures (c.is_among-named.ensures.yes e))
          (λ e h. c.is_among-named.ensures.no e (subst (Contains c.args.ranges.now) (sym c.range.ensures) h)) one other;
      from =
          taken_among_next c.args.parts.now c.loop-part.part-index x c.loop-part-test.true c.part-item.is taken c.add.new.self.taken.items b c.loop-part.invariant.from
          (λ e. (one e).0) (λ e. (other e).0);
      among =
          among_next c.args.parts.now c.loop-part.part-index x c.loop-part-test.true c.part-item.is rest c.add.new.self.rest.items b c.loop-part.invariant.among
          (λ e. (one e).1) (λ e. (other e).1);
    }
