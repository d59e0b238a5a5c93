use Rattle.std.proofs.Common.{ℕ, IsSome, ◌++◌, ◌∷◌, [], ◌==◌, ◌∙◌, List, cond, get_or, set, sym, ap, subst, arith, refl, eq-eqb}
use Rattle.vt_value.specs.Values.{Row}
use Rattle.sql_eval.specs.Database.{Database, SameRows, without}
use Rattle.shard_store.specs.Slots.{Slot, slot_at}
use Rattle.shard_store.specs.Tables.{key_at}
use Rattle.shard_store.specs.Stores.{RowsView, StoreView}
use Rattle.shard_store.proofs.Tabled.{ready-at, rows_of_all, changed, same_set, places-at, room-after, put-within, put-room, ready-after}
use Rattle.shard_store.proofs.stored.StoredTables.swap.Goals as goal

pub index_mut-requires : goal.index_mut-requires
index_mut-requires c =
    let h = put-within c.self.inside.tables.items c.args.self.now c.args.ordinal (ap (λ (s : StoreView). s.room) c.self.view_is) c.requires.room in
    omega (arith, h)

pub replace-requires-clause-old_key : goal.replace-requires-clause-old_key
replace-requires-clause-old_key c =
    let within = put-within c.self.inside.tables.items c.args.self.now c.args.ordinal (ap (λ (s : StoreView). s.room) c.self.view_is) c.requires.room in
    c.requires.old_key
    ∙ ap (λ (ps : List ℕ). key_at ps c.args.old.now)
    (ap (λ (s : StoreView). get_or s.ordinals c.args.ordinal []) (sym c.self.view_is) ∙ places-at c.self.inside.tables.items c.args.ordinal c.index_mut.result.now within c.index_mut.ensures.value)

pub replace-requires-clause-ready : goal.replace-requires-clause-ready
replace-requires-clause-ready c =
    let within = put-within c.self.inside.tables.items c.args.self.now c.args.ordinal (ap (λ (s : StoreView). s.room) c.self.view_is) c.requires.room in
    subst (λ (r : List Slot). IsSome (slot_at r c.args.key.now)) (ready-at c.self.inside.tables.items c.args.ordinal c.index_mut.result.now within c.index_mut.ensures.value)
    (subst (λ (s : StoreView). IsSome (slot_at (get_or s.ready c.args.ordinal []) c.args.key.now)) (sym c.self.view_is) c.requires.ready)

pub replace-requires-clause-new_key : goal.replace-requires-clause-new_key
replace-requires-clause-new_key c =
    let within = put-within c.self.inside.tables.items c.args.self.now c.args.ordinal (ap (λ (s : StoreView). s.room) c.self.view_is) c.requires.room in
    c.requires.new_key
    ∙ ap (λ (ps : List ℕ). key_at ps c.args.new)
    (ap (λ (s : StoreView). get_or s.ordinals c.args.ordinal []) (sym c.self.view_is) ∙ places-at c.self.inside.tables.items c.args.ordinal c.index_mut.result.now within c.index_mut.ensures.value)

pub replace-requires-clause-room : goal.replace-requires-clause-room
replace-requires-clause-room c =
    put-room c.self.inside.tables.items c.args.self.now c.args.ordinal c.index_mut.result.now (ap (λ (s : StoreView). s.room) c.self.view_is) c.requires.room c.index_mut.ensures.value

pub returns-clause-rows : goal.returns-clause-rows
returns-clause-rows c =
    let within = put-within c.self.inside.tables.items c.args.self.now c.args.ordinal (ap (λ (s : StoreView). s.room) c.self.view_is) c.requires.room in
    subst (λ (db : Database). SameRows (rows_of_all (set c.self.inside.tables.items c.args.ordinal c.replace.new.self)) (set db c.args.ordinal (without c.args.old.now (get_or db c.args.ordinal []) ++ c.args.new ∷ [])))
    (ap (λ (s : StoreView). s.rows) c.self.view_is)
    (changed c.self.inside.tables.items c.args.ordinal c.index_mut.result.now c.replace.new.self (λ (rows : List Row). without c.args.old.now rows ++ c.args.new ∷ []) within c.index_mut.ensures.value c.replace.ensures.rows)

pub returns-clause-ordinals : goal.returns-clause-ordinals
returns-clause-ordinals c =
    same_set (λ (t : RowsView). t.ordinals) c.self.inside.tables.items c.args.ordinal c.index_mut.result.now c.replace.new.self c.index_mut.ensures.value c.replace.ensures.ordinals
    ∙ ap (λ (s : StoreView). s.ordinals) c.self.view_is

pub returns-clause-room : goal.returns-clause-room
returns-clause-room c =
    room-after c.self.inside.tables.items c.args.self.now c.args.ordinal c.index_mut.result.now c.replace.new.self (λ (n : ℕ). cond (c.args.ordinal == n) 1 0)
    (ap (λ (s : StoreView). s.room) c.self.view_is)
    (put-within c.self.inside.tables.items c.args.self.now c.args.ordinal (ap (λ (s : StoreView). s.room) c.self.view_is) c.requires.room) c.index_mut.ensures.value
    (let k = ap (λ b. cond {A = ℕ} b 1 0) (eq-eqb c.args.ordinal c.args.ordinal refl) in omega (arith, k, c.replace.ensures.room))

pub returns-clause-still : goal.returns-clause-still
returns-clause-still c =
    let within = put-within c.self.inside.tables.items c.args.self.now c.args.ordinal (ap (λ (s : StoreView). s.room) c.self.view_is) c.requires.room in
    ready-after c.self.inside.tables.items c.args.self.now c.args.ordinal c.index_mut.result.now c.replace.new.self (ap (λ (s : StoreView). s.ready) c.self.view_is) within c.index_mut.ensures.value c.replace.ensures.still
