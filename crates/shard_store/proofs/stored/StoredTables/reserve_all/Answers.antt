use Rattle.std.proofs.Common.{◌≡◌, ◌≤◌, length, subst, ap, arith, ◌∙◌, take}
use Rattle.std.specs.List.{AllByRecursion}
use Rattle.sql_eval.specs.Database.{changed_table}
use Rattle.shard_store.specs.declared.key.KeyedChange.{KeyedChange}
use Rattle.shard_store.specs.Stores.{room_of, change_in, HasReadySlot}
use Rattle.shard_store.proofs.Splits.{room_next, ready_next, room_for_all, take_all}
use Rattle.shard_store.proofs.stored.StoredTables.reserve_all.Goals as goal

pub loop-change-preserved : goal.loop-change-preserved
loop-change-preserved c =
    record {
      rows = c.reserve_for.ensures.rows ∙ c.loop-change.invariant.rows;
      ordinals = c.reserve_for.ensures.ordinals ∙ c.loop-change.invariant.ordinals;
      ready =
          ready_next c.loop-change.self c.reserve_for.new.self c.args.keyed.now c.loop-change.change-index c.change-item.result
          (omega (arith, c.loop-change-test.true)) c.change-item.is c.reserve_for.ensures.still c.in_ok-reserve_for.ensures.ready c.loop-change.invariant.ready;
      room =
          room_next c.loop-change.self c.reserve_for.new.self c.args.keyed.now c.loop-change.change-index c.change-item.result
          (omega (arith, c.loop-change-test.true)) c.change-item.is c.reserve_for.ensures.room c.in_ok-reserve_for.ensures.ok c.loop-change.invariant.room;
    }

pub returns-clause-ok : goal.returns-clause-ok
returns-clause-ok c =
    let past : c.loop-change.change-index ≡ length c.args.keyed.now = omega (arith, c.loop-change-test.false, c.loop-change.auto.change-index-end) in
    let whole = ap (λ n. take n c.args.keyed.now) past ∙ take_all c.args.keyed.now in
    room_for_all c.loop-change.self c.args.keyed.now
    (subst (AllByRecursion (λ (x : KeyedChange). length c.args.keyed.now ≤ room_of c.loop-change.self (changed_table (change_in x)))) whole c.loop-change.invariant.room)

pub returns-clause-ready : goal.returns-clause-ready
returns-clause-ready c =
    let past : c.loop-change.change-index ≡ length c.args.keyed.now = omega (arith, c.loop-change-test.false, c.loop-change.auto.change-index-end) in
    let whole = ap (λ n. take n c.args.keyed.now) past ∙ take_all c.args.keyed.now in
    subst (AllByRecursion (HasReadySlot c.loop-change.self)) whole c.loop-change.invariant.ready
