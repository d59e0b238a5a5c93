use Rattle.std.proofs.Common.{◌∙◌, List, ap, sym, subst}
use Rattle.std.specs.List.{AllByRecursion}
use Rattle.std.specs.Prelude.{option_copied}
use Rattle.shard_store.specs.Slots.{Slot, rows_in}
use Rattle.shard_store.specs.Tables.{IsAtItsKey}
use Rattle.shard_store.specs.inner.Overlays.{left_of}
use Rattle.shard_store.proofs.Overlaid.{left_first, left_passed}
use Rattle.shard_store.proofs.left.next_of_all.Goals as goal

pub returns-then-not-is_gone-clause-row : goal.returns-then-not-is_gone-clause-row
returns-then-not-is_gone-clause-row c =
    let keyed = subst (AllByRecursion (IsAtItsKey c.args.gone.now.columns)) c.in-Some.ensures.steps c.loop-key.invariant.keyed in
    sym c.loop-key.invariant.left ∙ ap (λ (s : List Slot). left_of c.args.gone.now (rows_in s)) c.in-Some.ensures.steps
    ∙ left_first c.args.gone.now c.in-Some.key.now c.in-Some.slot.now c.in-Some-get.row.now c.next.new.self (sym c.get.ensures ∙ ap option_copied c.in-Some-get.is) keyed.0
    (sym c.is_gone.ensures.is ∙ c.if-not-is_gone.true)

pub loop-key-preserved-else-not-is_gone : goal.loop-key-preserved-else-not-is_gone
loop-key-preserved-else-not-is_gone c =
    let keyed = subst (AllByRecursion (IsAtItsKey c.args.gone.now.columns)) c.in-Some.ensures.steps c.loop-key.invariant.keyed in
    record {
      left = sym (ap (λ (s : List Slot). left_of c.args.gone.now (rows_in s)) c.in-Some.ensures.steps
          ∙ left_passed c.args.gone.now c.in-Some.key.now c.in-Some.slot.now c.in-Some-get.row.now c.next.new.self (sym c.get.ensures ∙ ap option_copied c.in-Some-get.is) keyed.0
          (sym c.is_gone.ensures.is ∙ c.if-not-is_gone.false))
          ∙ c.loop-key.invariant.left;
      keyed = keyed.1;
      gap = c.is_gone.ensures.gap;
    }
