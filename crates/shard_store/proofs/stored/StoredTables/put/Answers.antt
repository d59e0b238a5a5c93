use Rattle.std.proofs.Common.{ℕ, ◌++◌, ◌∷◌, [], ◌==◌, ◌∙◌, List, cond, get_or, set, sym, ap, subst, arith, refl, eq-eqb}
use Rattle.vt_value.specs.Values.{Row}
use Rattle.sql_eval.specs.Database.{Database, SameRows}
use Rattle.shard_store.specs.Tables.{key_at}
use Rattle.shard_store.specs.Stores.{RowsView, StoreView}
use Rattle.shard_store.proofs.Tabled.{rows_of_all, changed, same_set, places-at, room-after, put-within, put-room, ready-after}
use Rattle.shard_store.proofs.stored.StoredTables.put.Goals as goal

pub index_mut-requires : goal.index_mut-requires
index_mut-requires c =
    let h = put-within c.self.inside.tables.items c.args.self.now c.args.ordinal (ap (λ (s : StoreView). s.room) c.self.view_is) c.requires.room in
    omega (arith, h)

pub add-requires-clause-key : goal.add-requires-clause-key
add-requires-clause-key c =
    let within = put-within c.self.inside.tables.items c.args.self.now c.args.ordinal (ap (λ (s : StoreView). s.room) c.self.view_is) c.requires.room in
    c.requires.key
    ∙ ap (λ (ps : List ℕ). key_at ps c.args.row)
    (ap (λ (s : StoreView). get_or s.ordinals c.args.ordinal []) (sym c.self.view_is) ∙ places-at c.self.inside.tables.items c.args.ordinal c.index_mut.result.now within c.index_mut.ensures.value)

pub add-requires-clause-room : goal.add-requires-clause-room
add-requires-clause-room c =
    put-room c.self.inside.tables.items c.args.self.now c.args.ordinal c.index_mut.result.now (ap (λ (s : StoreView). s.room) c.self.view_is) c.requires.room c.index_mut.ensures.value

pub returns-clause-rows : goal.returns-clause-rows
returns-clause-rows c =
    let within = put-within c.self.inside.tables.items c.args.self.now c.args.ordinal (ap (λ (s : StoreView). s.room) c.self.view_is) c.requires.room in
    subst (λ (db : Database). SameRows (rows_of_all (set c.self.inside.tables.items c.args.ordinal c.add.new.self)) (set db c.args.ordinal (get_or db c.args.ordinal [] ++ c.args.row ∷ [])))
    (ap (λ (s : StoreView). s.rows) c.self.view_is)
    (changed c.self.inside.tables.items c.args.ordinal c.index_mut.result.now c.add.new.self (λ (rows : List Row). rows ++ c.args.row ∷ []) within c.index_mut.ensures.value c.add.ensures.rows)

pub returns-clause-ordinals : goal.returns-clause-ordinals
returns-clause-ordinals c =
    same_set (λ (t : RowsView). t.ordinals) c.self.inside.tables.items c.args.ordinal c.index_mut.result.now c.add.new.self c.index_mut.ensures.value c.add.ensures.ordinals
    ∙ ap (λ (s : StoreView). s.ordinals) c.self.view_is

pub returns-clause-room : goal.returns-clause-room
returns-clause-room c =
    room-after c.self.inside.tables.items c.args.self.now c.args.ordinal c.index_mut.result.now c.add.new.self (λ (n : ℕ). cond (c.args.ordinal == n) 1 0)
    (ap (λ (s : StoreView). s.room) c.self.view_is)
    (put-within c.self.inside.tables.items c.args.self.now c.args.ordinal (ap (λ (s : StoreView). s.room) c.self.view_is) c.requires.room) c.index_mut.ensures.value
    (let k = ap (λ b. cond {A = ℕ} b 1 0) (eq-eqb c.args.ordinal c.args.ordinal refl) in omega (arith, k, c.add.ensures.room))

pub returns-clause-still : goal.returns-clause-still
returns-clause-still c =
    let within = put-within c.self.inside.tables.items c.args.self.now c.args.ordinal (ap (λ (s : StoreView). s.room) c.self.view_is) c.requires.room in
    ready-after c.self.inside.tables.items c.args.self.now c.args.ordinal c.index_mut.result.now c.add.new.self (ap (λ (s : StoreView). s.ready) c.self.view_is) within c.index_mut.ensures.value c.add.ensures.still
