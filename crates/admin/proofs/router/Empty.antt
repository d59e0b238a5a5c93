-- Fresh seats by their slots, the slots of the opening's shards, and the rows that they begin with.
use Rattle.std.proofs.Common.{◌≡◌, ℕ, zero, suc, ◌+◌, ◌-◌, ◌<◌, ◌≤◌, List, [], ◌∷◌, ◌++◌, length, get_or, map, Contains, Bool, true, false, filter, take, Option, Some, None, option_to_list, refl, sym, ap, ◌∙◌, subst, arith}
use Rattle.std.specs.Prelude.{if◌then◌else◌}
use Rattle.std.specs.List.{range_with_len}
use Rattle.std.proofs.lemmas.List.{append-nil, get_or-map, length-map, map-id, take_more}
use Rattle.std.proofs.lemmas.List.FromFn.{map-range_with_len_more}
use Rattle.std.proofs.lemmas.List.Elements.{filter-append}
use Rattle.route_engine.proofs.Gathers.{map-push}
use Rattle.route_engine.proofs.Lists.{In-from_Contains}
use Rattle.route_engine.proofs.Runs.{opening-is}
use Rattle.keyrange.specs.declared.KeyRange.{KeyRange}
use Rattle.vschema.specs.declared.schema.Place.{Place}
use Rattle.vschema.specs.declared.schema.Table.{Table}
use Rattle.vschema.specs.declared.schema.VSchema.{VSchema}
use Rattle.vschema.specs.Database.{Database, union, restricted}
use Rattle.journal.specs.Views.{SeatView}
use Rattle.shard_run.specs.declared.ShardRecord.{ShardRecord}
use Rattle.shard_run.specs.Runs.{Opening, all_rows, opening_part, first_rows}
use Rattle.shard_run.specs.Openings.{row_count}
use Rattle.route_engine.specs.Entries.{opening_shards}
use Rattle.shard_run.specs.opening.Empty.{unsharded_keyspace, sharded_keyspace, full_range, shards_from, keyspace_shards, empty_shards, no_rows, opening_of}

-- ---- seats

module _ {E : Type 0} where
  -- so many seats, on the slots from a number on
  abbrev pub seats_from : ℕ → ℕ → List (SeatView E)
  seats_from n zero = []
  seats_from n (suc k) = record { seen = []; slot = n } ∷ seats_from (n + 1) k

  -- the next of them is taken
  pub one_less : (n k : ℕ) (old new : List (SeatView E)) (found : Option (SeatView E)) (seat : SeatView E) → old ≡ seats_from n k → 0 < k
      → old ≡ option_to_list found ++ new → found ≡ Some seat → new ≡ seats_from (n + 1) (k - 1)
  one_less n zero old new found seat e l f i = absurd (omega (arith, l))
  one_less n (suc k) old new None seat e l f i = absurd (cc i)
  one_less n (suc k) old new (Some x) seat e l f i =
      let same : k ≡ suc k - 1 = omega arith in
      let rest : new ≡ seats_from (n + 1) k = cc (e, f) in
      rest ∙ ap (seats_from (n + 1)) same

module _ {E : Type 0} where
  pub first_seats : (n k most : ℕ) → k ≤ most → take k (seats_from {E = E} n most) ≡ seats_from n k
  first_seats n zero most l = refl
  first_seats n (suc k) zero l = absurd (omega (arith, l))
  first_seats n (suc k) (suc most) l = ap (λ (seats : List (SeatView E)). record { seen = []; slot = n } ∷ seats) (first_seats (n + 1) k most (omega (arith, l)))

-- ---- slots

slot_at : (n keyspace : ℕ) (ranges : List KeyRange) (i : ℕ) (d : ShardRecord) → i < length (shards_from n keyspace ranges)
    → (get_or (shards_from n keyspace ranges) i d).slot ≡ n + i
slot_at n keyspace [] i d l = absurd (omega (arith, l))
slot_at n keyspace (r ∷ ranges) zero d l = omega arith
slot_at n keyspace (r ∷ ranges) (suc i) d l =
    let e = slot_at (n + 1) keyspace ranges i d (omega (arith, l)) in omega (arith, e)

slot_of_both : (a b : Option ℕ) (ranges : List KeyRange) (i : ℕ) (d : ShardRecord)
    → i < length (keyspace_shards 0 a (full_range ∷ []) ++ keyspace_shards (length (keyspace_shards 0 a (full_range ∷ []))) b ranges)
    → (get_or (keyspace_shards 0 a (full_range ∷ []) ++ keyspace_shards (length (keyspace_shards 0 a (full_range ∷ []))) b ranges) i d).slot ≡ i
slot_of_both None None ranges i d l = absurd (omega (arith, l))
slot_of_both None (Some k) ranges i d l = let e = slot_at 0 k ranges i d l in omega (arith, e)
slot_of_both (Some j) None ranges zero d l = refl
slot_of_both (Some j) None ranges (suc i) d l = absurd (omega (arith, l))
slot_of_both (Some j) (Some k) ranges zero d l = refl
slot_of_both (Some j) (Some k) ranges (suc i) d l =
    let e = slot_at 1 k ranges i d (omega (arith, l)) in omega (arith, e)

-- each shard stands on the slot of its number
pub on_own_slots : (schema : VSchema) (ranges : List KeyRange) (i : ℕ) (d : ShardRecord) → i < length (empty_shards schema ranges)
    → (get_or (empty_shards schema ranges) i d).slot ≡ i
on_own_slots schema ranges = slot_of_both (unsharded_keyspace schema) (sharded_keyspace schema) ranges

-- ---- rows

abbrev empties : List Table → Database
empties tables = map (λ t. []) tables

pub none_counted : (tables : List Table) → row_count (map (λ t. []) tables) ≡ 0
none_counted [] = refl
none_counted (t ∷ tables) = none_counted tables

joined : (tables : List Table) → union (empties tables) (empties tables) ≡ empties tables
joined [] = refl
joined (t ∷ tables) = ap (λ (z : Database). [] ∷ z) (joined tables)

unjoined : (db : Database) → union db [] ≡ db
unjoined [] = refl
unjoined (rows ∷ db) = refl

inside : (place : Place) (tables : List Table) → restricted tables place (empties tables) ≡ empties tables
inside place [] = refl
inside place (t ∷ tables) = ap (λ (z : Database). [] ∷ z) (inside place tables)

all_empty : (tables : List Table) (s : ShardRecord) (shards : List ShardRecord)
    → all_rows (map (λ (s : ShardRecord). (s, empties tables)) (s ∷ shards)) ≡ empties tables
all_empty tables s [] = unjoined (empties tables)
all_empty tables s (t ∷ shards) = ap (union (empties tables)) (all_empty tables t shards) ∙ joined tables

shards_are : (db : Database) (shards : List ShardRecord) → map (λ (p : ShardRecord × Database). p.0) (map (λ (s : ShardRecord). (s, db)) shards) ≡ shards
shards_are db [] = refl
shards_are db (s ∷ shards) = ap (λ (z : List ShardRecord). s ∷ z) (shards_are db shards)

-- the opening's shards are those that were asked for
pub opening_is : (schema : VSchema) (ranges : List KeyRange) → opening_shards (opening_of schema ranges) ≡ empty_shards schema ranges
opening_is schema ranges = shards_are (no_rows schema) (empty_shards schema ranges)

-- each begins without rows
pub first_rows_are : (schema : VSchema) (ranges : List KeyRange) (s : ShardRecord) → Contains (opening_shards (opening_of schema ranges)) s
    → first_rows (opening_of schema ranges) s ≡ no_rows schema
first_rows_are schema ranges s there =
    ap (λ (b : Bool). if b then opening_part o s else map (λ rows. []) (opening_part o s))
    (opening-is s o.shards (In-from_Contains s (opening_shards o) there))
    ∙ by (empty_shards schema ranges) (subst (λ (z : List ShardRecord). Contains z s) (opening_is schema ranges) there)
  where
    o : Opening
    o = opening_of schema ranges

    by : (shards : List ShardRecord) → Contains shards s
        → restricted schema.tables s.place (all_rows (map (λ (s : ShardRecord). (s, no_rows schema)) shards)) ≡ no_rows schema
    by [] (k, l, e) = absurd (omega (arith, l))
    by (x ∷ shards) h = ap (restricted schema.tables s.place) (all_empty schema.tables x shards) ∙ inside s.place schema.tables

-- ---- the shards of a keyspace

module _ {X Y : Type 0} (f : X → Y) (p : X → Bool) (xs : List X) (i : ℕ) (x : X) (there : i < length xs) (is : x ≡ get_or xs i x) where
  more : filter p (take (i + 1) xs) ≡ filter p (take i xs) ++ filter p (x ∷ [])
  more =
      ap (filter p) (take_more xs i x there ∙ ap (λ y. take i xs ++ y ∷ []) (sym is))
      ∙ filter-append p (take i xs) (x ∷ [])

  pub kept_more : p x ≡ true → map f (filter p (take (i + 1) xs)) ≡ map f (filter p (take i xs)) ++ f x ∷ []
  kept_more e =
      let one : filter p (x ∷ []) ≡ x ∷ [] = simp e in
      ap (map f) (more ∙ ap (λ l. filter p (take i xs) ++ l) one) ∙ map-push f (filter p (take i xs)) x

  pub kept_same : p x ≡ false → map f (filter p (take (i + 1) xs)) ≡ map f (filter p (take i xs))
  kept_same e =
      let none : filter p (x ∷ []) ≡ [] = simp e in
      ap (map f) (more ∙ ap (λ l. filter p (take i xs) ++ l) none ∙ append-nil (filter p (take i xs)))

-- lists that are mapped to one have the same at each place
pub same_at : {X Y Z : Type 0} (f : X → Z) (g : Y → Z) (xs : List X) (ys : List Y) → map f xs ≡ map g ys → (i : ℕ) (x : X) (y : Y) → i < length ys
    → x ≡ get_or xs i x → y ≡ get_or ys i y → f x ≡ g y
same_at f g xs ys e i x y there at_x at_y =
    ap f at_x ∙ sym (get_or-map f xs i x (f x) within) ∙ ap (λ l. get_or l i (f x)) e ∙ get_or-map g ys i y (f x) there ∙ ap g (sym at_y)
  where
    within : i < length xs
    within = let a = length-map xs f in let b = length-map ys g in let c = ap length e in omega (arith, a, b, c, there)

-- ---- keyspaces

-- the numbers of one more
pub one_number_more : (n : ℕ) → range_with_len 0 (n + 1) ≡ range_with_len 0 n ++ n ∷ []
one_number_more n =
    sym (map-id (range_with_len 0 (n + 1))) ∙ map-range_with_len_more (λ (x : ℕ). x) 0 n n (omega arith) ∙ ap (λ (l : List ℕ). l ++ n ∷ []) (map-id (range_with_len 0 n))
