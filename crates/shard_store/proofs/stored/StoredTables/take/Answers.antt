use Rattle.std.proofs.Common.{◌<◌, ◌≤◌, ◌∙◌, ℕ, IsSome, List, [], length, get_or, set, sym, ap, subst, arith}
use Rattle.std.proofs.lemmas.List.{length-map}
use Rattle.sql_eval.specs.Database.{Database, SameRows, without}
use Rattle.shard_store.specs.Slots.{Slot, slot_at}
use Rattle.shard_store.specs.Tables.{key_at}
use Rattle.shard_store.specs.Stores.{RowsView, StoreView}
use Rattle.shard_store.proofs.Done.{SameRows-refl}
use Rattle.shard_store.proofs.Tabled.{rows_of_all, changed, unchanged, same_set, places-at, room-after, ready-at, ready-after}
use Rattle.shard_store.proofs.stored.StoredTables.take.Goals as goal

pub remove-requires-clause-key : goal.remove-requires-clause-key
remove-requires-clause-key c =
    let within : c.args.ordinal < length c.self.inside.tables.items = omega arith in
    c.requires.key
    ∙ ap (λ (ps : List ℕ). key_at ps c.args.row.now)
    (ap (λ (s : StoreView). get_or s.ordinals c.args.ordinal []) (sym c.self.view_is) ∙ places-at c.self.inside.tables.items c.args.ordinal c.index_mut.result.now within c.index_mut.ensures.value)

pub remove-requires-clause-ready : goal.remove-requires-clause-ready
remove-requires-clause-ready c =
    let within : c.args.ordinal < length c.self.inside.tables.items = omega arith in
    subst (λ (r : List Slot). IsSome (slot_at r c.args.key.now)) (ready-at c.self.inside.tables.items c.args.ordinal c.index_mut.result.now within c.index_mut.ensures.value)
    (subst (λ (s : StoreView). IsSome (slot_at (get_or s.ready c.args.ordinal []) c.args.key.now)) (sym c.self.view_is) c.requires.ready)

pub returns-then-ordinal-len-clause-still : goal.returns-then-ordinal-len-clause-still
returns-then-ordinal-len-clause-still c =
    let within : c.args.ordinal < length c.self.inside.tables.items = omega arith in
    ready-after c.self.inside.tables.items c.args.self.now c.args.ordinal c.index_mut.result.now c.remove.new.self (ap (λ (s : StoreView). s.ready) c.self.view_is) within c.index_mut.ensures.value c.remove.ensures.still

pub returns-then-ordinal-len-clause-rows : goal.returns-then-ordinal-len-clause-rows
returns-then-ordinal-len-clause-rows c =
    let within : c.args.ordinal < length c.self.inside.tables.items = omega arith in
    subst (λ (db : Database). SameRows (rows_of_all (set c.self.inside.tables.items c.args.ordinal c.remove.new.self)) (set db c.args.ordinal (without c.args.row.now (get_or db c.args.ordinal []))))
    (ap (λ (s : StoreView). s.rows) c.self.view_is)
    (changed c.self.inside.tables.items c.args.ordinal c.index_mut.result.now c.remove.new.self (without c.args.row.now) within c.index_mut.ensures.value c.remove.ensures.rows)

pub returns-then-ordinal-len-clause-ordinals : goal.returns-then-ordinal-len-clause-ordinals
returns-then-ordinal-len-clause-ordinals c =
    same_set (λ (t : RowsView). t.ordinals) c.self.inside.tables.items c.args.ordinal c.index_mut.result.now c.remove.new.self c.index_mut.ensures.value c.remove.ensures.ordinals
    ∙ ap (λ (s : StoreView). s.ordinals) c.self.view_is

pub returns-then-ordinal-len-clause-room : goal.returns-then-ordinal-len-clause-room
returns-then-ordinal-len-clause-room c = λ n.
    let within : c.args.ordinal < length c.self.inside.tables.items = omega arith in
    let h = room-after c.self.inside.tables.items c.args.self.now c.args.ordinal c.index_mut.result.now c.remove.new.self (λ (_ : ℕ). 0)
    (ap (λ (s : StoreView). s.room) c.self.view_is) within c.index_mut.ensures.value (omega (arith, c.remove.ensures.room)) n in
    omega (arith, h)

pub returns-else-ordinal-len-clause-rows : goal.returns-else-ordinal-len-clause-rows
returns-else-ordinal-len-clause-rows c =
    let n = length-map c.self.inside.tables.items (λ (t : RowsView). t.rows) in
    let m = ap (λ (s : StoreView). length s.rows) c.self.view_is in
    let past : length c.args.self.now.rows ≤ c.args.ordinal = omega (arith, n, m, c.if-ordinal-len.false, c.len.ensures) in
    subst (SameRows c.args.self.now.rows) (sym (unchanged c.args.self.now.rows c.args.ordinal (without c.args.row.now) past)) (SameRows-refl c.args.self.now.rows)
