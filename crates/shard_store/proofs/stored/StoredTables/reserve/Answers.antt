use Rattle.std.proofs.Common.{◌≤◌, IsSome, List, sym, ap, subst, ◌∙◌, arith}
use Rattle.std.proofs.lemmas.Result.{IfOk-weaker}
use Rattle.shard_store.specs.Slots.{Slot, slot_at}
use Rattle.shard_store.specs.Stores.{RowsView, StoreView}
use Rattle.shard_store.proofs.Tabled.{rows-within, same_set, room-after, room-set_at, ready-set_at, ready-after}
use Rattle.shard_store.proofs.stored.StoredTables.reserve.Goals as goal

pub returns-clause-rows : goal.returns-clause-rows
returns-clause-rows c =
    same_set (λ (t : RowsView). t.rows) c.self.inside.tables.items c.args.ordinal c.index_mut.result.now c.make_room.new.self c.index_mut.ensures.value c.make_room.ensures.rows
    ∙ ap (λ (s : StoreView). s.rows) c.self.view_is

pub returns-clause-ordinals : goal.returns-clause-ordinals
returns-clause-ordinals c =
    same_set (λ (t : RowsView). t.ordinals) c.self.inside.tables.items c.args.ordinal c.index_mut.result.now c.make_room.new.self c.index_mut.ensures.value c.make_room.ensures.ordinals
    ∙ ap (λ (s : StoreView). s.ordinals) c.self.view_is

pub returns-clause-ok : goal.returns-clause-ok
returns-clause-ok c =
    let within = rows-within c.self.inside.tables.items c.args.self.now.rows c.args.ordinal (ap (λ (s : StoreView). s.rows) c.self.view_is) c.requires in
    let room = room-set_at c.self.inside.tables.items c.args.ordinal c.make_room.new.self within in
    IfOk-weaker c.make_room.result _ _ (λ _ enough. subst (λ n. c.args.additional ≤ n) (sym room) enough) c.make_room.ensures.ok

pub returns-clause-room : goal.returns-clause-room
returns-clause-room c = λ n.
    let within = rows-within c.self.inside.tables.items c.args.self.now.rows c.args.ordinal (ap (λ (s : StoreView). s.rows) c.self.view_is) c.requires in
    let h = room-after c.self.inside.tables.items c.args.self.now c.args.ordinal c.index_mut.result.now c.make_room.new.self (λ _. 0)
    (ap (λ (s : StoreView). s.room) c.self.view_is) within c.index_mut.ensures.value (omega (arith, c.make_room.ensures.room)) n in
    omega (arith, h)

pub returns-clause-ready : goal.returns-clause-ready
returns-clause-ready c =
    let within = rows-within c.self.inside.tables.items c.args.self.now.rows c.args.ordinal (ap (λ (s : StoreView). s.rows) c.self.view_is) c.requires in
    let ready = ready-set_at c.self.inside.tables.items c.args.ordinal c.make_room.new.self within in
    IfOk-weaker c.make_room.result _ _ (λ _ has. subst (λ (r : List Slot). IsSome (slot_at r c.args.key.now)) (sym ready) has) c.make_room.ensures.ready

pub returns-clause-still : goal.returns-clause-still
returns-clause-still c =
    let within = rows-within c.self.inside.tables.items c.args.self.now.rows c.args.ordinal (ap (λ (s : StoreView). s.rows) c.self.view_is) c.requires in
    ready-after c.self.inside.tables.items c.args.self.now c.args.ordinal c.index_mut.result.now c.make_room.new.self (ap (λ (s : StoreView). s.ready) c.self.view_is) within c.index_mut.ensures.value c.make_room.ensures.still
