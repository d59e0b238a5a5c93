use Rattle.std.proofs.Common.{rules, ◌≡◌, ◌∙◌, List, [], refl, sym, subst}
use Rattle.std.specs.List.{AllByRecursion}
use Rattle.std.specs.Vec.Iter.{into_iter_items}
use Rattle.sql_eval.specs.Database.{Database, SameRows, all_applied}
use Rattle.shard_store.specs.declared.key.KeyedChange.{KeyedChange}
use Rattle.shard_store.specs.Stores.{changes_in, HasItsKey, HasRoomFor}
use Rattle.shard_store.proofs.Tabled.{Reached, reached_first, reached_next, reached_last, room-first, room-others, key_first, keys_others}
use Rattle.shard_store.proofs.KeptRows.{nil_of}
use Rattle.shard_store.proofs.stored.StoredTables.apply.Goals as goal

pub loop-change-init : goal.loop-change-init
loop-change-init c =
    let gives : into_iter_items c.into_iter-change-iterator.result ≡ c.args.changes.items = search rules in
    record {
      reached = subst (λ (l : List KeyedChange). Reached c.args.self.now.rows l (all_applied (changes_in c.args.changes.items) c.args.self.now.rows)) (sym gives)
          (reached_first c.args.self.now.rows c.args.changes.items);
      keys = subst (AllByRecursion (HasItsKey c.args.self.now)) (sym gives) c.requires.keys;
      room = subst (HasRoomFor c.args.self.now) (sym gives) c.requires.room;
      ordinals = refl;
    }

pub apply_one-requires-clause-key : goal.apply_one-requires-clause-key
apply_one-requires-clause-key c =
    key_first c.loop-change.self (into_iter_items c.loop-change.change-iterator) (into_iter_items c.next.new.self) c.in-Some.change
    c.in-Some.ensures.steps.0 c.loop-change.invariant.keys

pub apply_one-requires-clause-room : goal.apply_one-requires-clause-room
apply_one-requires-clause-room c =
    room-first c.loop-change.self (into_iter_items c.loop-change.change-iterator) (into_iter_items c.next.new.self) c.in-Some.change
    c.in-Some.ensures.steps.0 c.loop-change.invariant.room

pub loop-change-preserved : goal.loop-change-preserved
loop-change-preserved c = record {
  reached = reached_next c.loop-change.self.rows c.apply_one.new.self.rows c.in-Some.change (into_iter_items c.loop-change.change-iterator) (into_iter_items c.next.new.self)
      (all_applied (changes_in c.args.changes.items) c.args.self.now.rows) c.in-Some.ensures.steps.0 c.loop-change.invariant.reached c.apply_one.ensures.rows;
  keys = keys_others c.loop-change.self c.apply_one.new.self (into_iter_items c.loop-change.change-iterator) (into_iter_items c.next.new.self) c.in-Some.change
      c.in-Some.ensures.steps.0 c.apply_one.ensures.ordinals c.apply_one.ensures.still c.loop-change.invariant.keys;
  room = room-others c.loop-change.self c.apply_one.new.self (into_iter_items c.loop-change.change-iterator) (into_iter_items c.next.new.self) c.in-Some.change
      c.in-Some.ensures.steps.0 c.loop-change.invariant.room c.apply_one.ensures.room;
  ordinals = c.apply_one.ensures.ordinals ∙ c.loop-change.invariant.ordinals;
}

pub returns : goal.returns
returns c =
    let none : into_iter_items c.loop-change.change-iterator ≡ [] =
    nil_of (into_iter_items c.loop-change.change-iterator) _ c.loop-change.change-iterator.rest.ok.0 c.in-None.ensures.steps.0 in
    record {
      rows = subst (λ (db : Database). SameRows db (all_applied (changes_in c.args.changes.items) c.args.self.now.rows)) (sym c.sweep.ensures.rows)
          (reached_last c.loop-change.self.rows (into_iter_items c.loop-change.change-iterator) (all_applied (changes_in c.args.changes.items) c.args.self.now.rows) none
          c.loop-change.invariant.reached);
      ordinals = c.sweep.ensures.ordinals ∙ c.loop-change.invariant.ordinals;
    }
