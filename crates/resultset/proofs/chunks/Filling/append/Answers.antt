use Rattle.std.proofs.Common.{◌≡◌, ◌+◌, ◌++◌, length, ap, ◌∙◌, arith}
use Rattle.std.proofs.lemmas.List.{take-append-drop, length-append}
use Rattle.resultset.proofs.Cuts.{filled_next}
use Rattle.resultset.proofs.chunks.Filling.append.Goals as goal

pub loop-rest-preserved : goal.loop-rest-preserved
loop-rest-preserved c =
    let front_and_more : c.split_at.result.0.now ++ c.split_at.result.1.now ≡ c.loop-rest.rest.now = rw (c.split_at.ensures.front, c.split_at.ensures.back) (take-append-drop _ _) in
    let size : length c.split_at.result.0.now + length c.loop-rest.self-inside.last.items ≡ 16384 = omega arith in
    let chunk : c.in_ok-full.full ≡ c.loop-rest.self-inside.last.items ++ c.split_at.result.0.now = rw c.as_slice.ensures at c.in_ok-full.ensures ∙ c.in_ok-extend_from_slice.ensures.ok in
    let filled : length c.extend_from_slice.new.self.items ≡ length c.loop-rest.self-inside.last.items + length c.split_at.result.0.now = ap length c.in_ok-extend_from_slice.ensures.ok ∙ length-append _ _ in
    let next = filled_next _ _ _ _ _ _ _ _ c.loop-rest.invariant.each c.loop-rest.invariant.last front_and_more size chunk c.in_ok-push.ensures.items c.clear.ensures.items in
    record {
      each = next.0;
      last = next.1;
      room = omega (arith, filled, size, c.clear.ensures.spare);
      whole = next.2 ∙ c.loop-rest.invariant.whole;
    }
