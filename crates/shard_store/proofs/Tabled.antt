-- What a change of one table of a store does to the store: to its rows, the places of its key columns and its room.
use Rattle.std.proofs.Common.{IsTrue, IsSome, count_by, ◌≡◌, ℕ, zero, suc, ◌+◌, ◌<◌, ◌≤◌, cond, List, [], ◌∷◌, ◌++◌, length, get_or, set, take, map, IsPermutation, refl, sym, ap, ◌∙◌, subst, arith}
use Rattle.std.specs.List.{AllByRecursion}
use Rattle.std.proofs.Math.Seq.{map-set_same}
use Rattle.std.proofs.lemmas.List.{get_or-map, length-map}
use Rattle.std.proofs.lemmas.List.Sorted.{IsPermutation-refl}
use Rattle.std.proofs.lemmas.List.Sums.{sum_by-cons}
use Rattle.vt_value.specs.Values.{Row}
use Rattle.sql_eval.specs.Database.{Database, SameRows, changed_table, applied, all_applied}
use Rattle.shard_store.specs.declared.key.KeyedChange.{KeyedChange}
use Rattle.shard_store.specs.declared.key.KeyedChange.TheVariants.{Put, Take, Swap}
use Rattle.shard_store.specs.declared.key.RowKey.{RowKey}
use Rattle.shard_store.specs.Slots.{Slot, slot_at}
use Rattle.shard_store.specs.Tables.{key_at}
use Rattle.shard_store.specs.Stores.{RowsView, StoreView, ready_of, room_of, key_in, change_in, changes_in, IsByItsKey, HasReadySlot, HasItsKey, puts_into, HasRoomFor}
use Rattle.shard_store.proofs.Bags.{applied-same}
use Rattle.shard_store.proofs.Done.{SameRows-refl, SameRows-trans}

abbrev pub rows_of_all : List RowsView → Database
rows_of_all ts = map (λ t. t.rows) ts

abbrev pub ordinals_in : List RowsView → List (List ℕ)
ordinals_in ts = map (λ t. t.ordinals) ts

abbrev pub room_in : List RowsView → List ℕ
room_in ts = map (λ t. t.room) ts

-- what is the same of the table at a place is the same of all
pub same_set : {X : Type 0} (f : RowsView → X) (ts : List RowsView) (i : ℕ) (old new : RowsView) → old ≡ get_or ts i old → f new ≡ f old
    → map f (set ts i new) ≡ map f ts
same_set f ts i old new e h = map-set_same f ts i new old (h ∙ ap f e)

pub places-at : (ts : List RowsView) (i : ℕ) (t : RowsView) → i < length ts → t ≡ get_or ts i t → get_or (ordinals_in ts) i [] ≡ t.ordinals
places-at ts i t l e = get_or-map (λ t. t.ordinals) ts i t [] l ∙ ap (λ (x : RowsView). x.ordinals) (sym e)

-- the rows of one table have changed, as bags
pub changed : (ts : List RowsView) (i : ℕ) (old new : RowsView) (f : List Row → List Row) → i < length ts → old ≡ get_or ts i old
    → IsPermutation new.rows (f old.rows) → SameRows (rows_of_all (set ts i new)) (set (rows_of_all ts) i (f (get_or (rows_of_all ts) i [])))
changed [] i old new f l e h = absurd (omega (arith, l))
changed (u ∷ ts) zero old new f l e h =
    (subst (λ (t : RowsView). IsPermutation new.rows (f t.rows)) e h, SameRows-refl (rows_of_all ts))
changed (u ∷ ts) (suc i) old new f l e h = (IsPermutation-refl u.rows, changed ts i old new f (omega (arith, l)) e h)

-- a table that is not there has not changed
pub unchanged : (db : Database) (i : ℕ) (f : List Row → List Row) → length db ≤ i → set db i (f (get_or db i [])) ≡ db
unchanged [] i f l = refl
unchanged (rows ∷ db) zero f l = absurd (omega (arith, l))
unchanged (rows ∷ db) (suc i) f l = ap (λ (z : Database). rows ∷ z) (unchanged db i f (omega (arith, l)))

pub rows-within : (ts : List RowsView) (db : Database) (i : ℕ) → rows_of_all ts ≡ db → i < length db → i < length ts
rows-within ts db i is l = omega (arith, l, ap length is, length-map ts (λ (t : RowsView). t.rows))

-- ---- room

pub room-at : (ts : List RowsView) (i : ℕ) (t : RowsView) → i < length ts → t ≡ get_or ts i t → get_or (room_in ts) i 0 ≡ t.room
room-at ts i t l e = get_or-map (λ t. t.room) ts i t 0 l ∙ ap (λ (x : RowsView). x.room) (sym e)

pub room-set_at : (ts : List RowsView) (i : ℕ) (t : RowsView) → i < length ts → get_or (room_in (set ts i t)) i 0 ≡ t.room
room-set_at [] i t l = absurd (omega (arith, l))
room-set_at (u ∷ ts) zero t l = refl
room-set_at (u ∷ ts) (suc i) t l = room-set_at ts i t (omega (arith, l))

pub room-within : (ts : List RowsView) (i : ℕ) → 0 < get_or (room_in ts) i 0 → i < length ts
room-within [] i h = absurd (omega (arith, h))
room-within (u ∷ ts) zero h = omega arith
room-within (u ∷ ts) (suc i) h = let l = room-within ts i h in omega (arith, l)

-- a table whose room falls by at most k
room-set : (ts : List RowsView) (i : ℕ) (old new : RowsView) → i < length ts → old ≡ get_or ts i old → (n k : ℕ)
    → (i ≡ n → old.room ≤ new.room + k) → get_or (room_in ts) n 0 ≤ get_or (room_in (set ts i new)) n 0 + k
room-set [] i old new l e n k h = absurd (omega (arith, l))
room-set (u ∷ ts) zero old new l e zero k h = let g = h refl in let f : old.room ≡ u.room = ap (λ (x : RowsView). x.room) e in omega (arith, f, g)
room-set (u ∷ ts) zero old new l e (suc n) k h = omega arith
room-set (u ∷ ts) (suc i) old new l e zero k h = omega arith
room-set (u ∷ ts) (suc i) old new l e (suc n) k h = room-set ts i old new (omega (arith, l)) e n k (λ is. h (ap suc is))

-- the room of one table falls by k at most
pub room-after : (ts : List RowsView) (s : StoreView) (i : ℕ) (old new : RowsView) (k : ℕ → ℕ) → room_in ts ≡ s.room → i < length ts
    → old ≡ get_or ts i old → old.room ≤ new.room + k i → (n : ℕ) → room_of s n ≤ get_or (room_in (set ts i new)) n 0 + k n
room-after ts s i old new k room l e h n =
    let f = room-set ts i old new l e n (k n) (λ is. subst (λ m. old.room ≤ new.room + k m) is h) in
    let g = ap (λ r. get_or r n 0) room in
    omega (arith, f, g)

-- a table with room is there
pub put-within : (ts : List RowsView) (s : StoreView) (i : ℕ) → room_in ts ≡ s.room → 0 < room_of s i → i < length ts
put-within ts s i room h = room-within ts i (let g = ap (λ r. get_or r i 0) room in omega (arith, g, h))

pub put-room : (ts : List RowsView) (s : StoreView) (i : ℕ) (t : RowsView) → room_in ts ≡ s.room → 0 < room_of s i → t ≡ get_or ts i t → 0 < t.room
put-room ts s i t room h e =
    let g = ap (λ r. get_or r i 0) room in
    let f = room-at ts i t (put-within ts s i room h) e in
    omega (arith, g, f, h)

count-cons : (n : ℕ) (c : KeyedChange) (changes : List KeyedChange) → count_by (puts_into n) (c ∷ changes) ≡ count_by (puts_into n) (c ∷ []) + count_by (puts_into n) changes
count-cons n c changes = let h = sum_by-cons (λ c. cond (puts_into n c) 1 0) c changes in omega (arith, h)

-- where there is room for all changes, there is room for the first, and after it for the others
pub room-first : (s : StoreView) (all changes : List KeyedChange) (c : KeyedChange) → all ≡ c ∷ changes → HasRoomFor s all
    → (n : ℕ) → IsTrue (puts_into n c) → 0 < room_of s n
room-first s all changes c is room n puts =
    let h = subst (λ l. count_by (puts_into n) l ≤ room_of s n) is (room n) in
    let e = count-cons n c changes in
    let one = ap (λ b. cond {A = ℕ} b 1 0) puts in
    omega (arith, h, e, one)

pub room-others : (s t : StoreView) (all changes : List KeyedChange) (c : KeyedChange) → all ≡ c ∷ changes → HasRoomFor s all
    → ((n : ℕ) → room_of s n ≤ room_of t n + count_by (puts_into n) (c ∷ [])) → HasRoomFor t changes
room-others s t all changes c is room falls n =
    let h = subst (λ l. count_by (puts_into n) l ≤ room_of s n) is (room n) in
    let e = count-cons n c changes in
    let f = falls n in
    omega (arith, h, e, f)

-- ---- changes one after the other

-- the rows stand so far that the changes that are left lead to these rows
pub record Reached (rows : Database) (left : List KeyedChange) (end : Database) : Type 0 where
  pub so_far : Database
  pub same : SameRows rows so_far
  pub ends : all_applied (changes_in left) so_far ≡ end

pub reached_first : (rows : Database) (left : List KeyedChange) → Reached rows left (all_applied (changes_in left) rows)
reached_first rows left = record { so_far = rows; same = SameRows-refl rows; ends = refl }

pub reached_next : (rows after : Database) (c : KeyedChange) (all left : List KeyedChange) (end : Database) → all ≡ c ∷ left → Reached rows all end
    → SameRows after (applied (change_in c) rows) → Reached after left end
reached_next rows after c all left end is r step =
    let ends = subst (λ (l : List KeyedChange). all_applied (changes_in l) r.so_far ≡ end) is r.ends in
    record {
      so_far = applied (change_in c) r.so_far;
      same = SameRows-trans after (applied (change_in c) rows) (applied (change_in c) r.so_far) step (applied-same (change_in c) rows r.so_far r.same);
      ends = ends;
    }

pub reached_last : (rows : Database) (left : List KeyedChange) (end : Database) → left ≡ [] → Reached rows left end → SameRows rows end
reached_last rows left end none r =
    let ends = subst (λ (l : List KeyedChange). all_applied (changes_in l) r.so_far ≡ end) none r.ends in
    subst (SameRows rows) ends r.same

-- ---- slots that are ready
abbrev pub ready_in : List RowsView → List (List Slot)
ready_in ts = map (λ t. t.ready) ts

-- what was ready is ready still
abbrev pub StaysReady : StoreView → StoreView → Type 0
StaysReady s t = (n : ℕ) (k : RowKey) → IsSome (slot_at (ready_of s n) k) → IsSome (slot_at (ready_of t n) k)

pub ready-at : (ts : List RowsView) (i : ℕ) (t : RowsView) → i < length ts → t ≡ get_or ts i t → get_or (ready_in ts) i [] ≡ t.ready
ready-at ts i t l e = get_or-map (λ t. t.ready) ts i t [] l ∙ ap (λ (x : RowsView). x.ready) (sym e)

pub ready-set_at : (ts : List RowsView) (i : ℕ) (t : RowsView) → i < length ts → get_or (ready_in (set ts i t)) i [] ≡ t.ready
ready-set_at [] i t l = absurd (omega (arith, l))
ready-set_at (u ∷ ts) zero t l = refl
ready-set_at (u ∷ ts) (suc i) t l = ready-set_at ts i t (omega (arith, l))

ready-set : (ts : List RowsView) (i : ℕ) (old new : RowsView) → i < length ts → old ≡ get_or ts i old → ((k : RowKey) → IsSome (slot_at old.ready k) → IsSome (slot_at new.ready k))
    → (n : ℕ) (k : RowKey) → IsSome (slot_at (get_or (ready_in ts) n []) k) → IsSome (slot_at (get_or (ready_in (set ts i new)) n []) k)
ready-set [] i old new l e f n k h = absurd (omega (arith, l))
ready-set (u ∷ ts) zero old new l e f zero k h = f k (subst (λ (x : RowsView). IsSome (slot_at x.ready k)) (sym e) h)
ready-set (u ∷ ts) zero old new l e f (suc n) k h = h
ready-set (u ∷ ts) (suc i) old new l e f zero k h = h
ready-set (u ∷ ts) (suc i) old new l e f (suc n) k h = ready-set ts i old new (omega (arith, l)) e f n k h

-- one table's slots that were ready are so still
pub ready-after : (ts : List RowsView) (s : StoreView) (i : ℕ) (old new : RowsView) → ready_in ts ≡ s.ready → i < length ts → old ≡ get_or ts i old
    → ((k : RowKey) → IsSome (slot_at old.ready k) → IsSome (slot_at new.ready k))
    → (n : ℕ) (k : RowKey) → IsSome (slot_at (ready_of s n) k) → IsSome (slot_at (get_or (ready_in (set ts i new)) n []) k)
ready-after ts s i old new is l e f n k h = ready-set ts i old new l e f n k (subst (λ (r : List (List Slot)). IsSome (slot_at (get_or r n []) k)) (sym is) h)

-- ---- tables that are made one after the other
pub as_many : {X : Type 0} (f : RowsView → X) (ts us : List RowsView) → map f ts ≡ map f us → length ts ≡ length us
as_many f ts us e = sym (length-map ts f) ∙ (ap length e ∙ length-map us f)

one_more : {X : Type 0} (xs : List X) (i : ℕ) (d : X) → i < length xs → take i xs ++ get_or xs i d ∷ [] ≡ take (suc i) xs
one_more [] i d l = absurd (omega (arith, l))
one_more (x ∷ xs) zero d l = refl
one_more (x ∷ xs) (suc i) d l = ap (λ (z : List _). x ∷ z) (one_more xs i d (omega (arith, l)))

map_push : {X : Type 0} (f : RowsView → X) (ts : List RowsView) (t : RowsView) → map f (ts ++ t ∷ []) ≡ map f ts ++ f t ∷ []
map_push f [] t = refl
map_push f (u ∷ ts) t = ap (λ (z : List _). f u ∷ z) (map_push f ts t)

-- a table more is made that shows what the one at its place does
pub made_next : {X : Type 0} (f : RowsView → X) (all now list : List RowsView) (old made : RowsView) (i : ℕ) → i < length now → old ≡ get_or now i old → map f now ≡ map f all
    → map f list ≡ take i (map f all) → f made ≡ f old → map f (list ++ made ∷ []) ≡ take (i + 1) (map f all)
made_next f all now list old made i l at same so is =
    let here : get_or (map f all) i (f old) ≡ f old = ap (λ (xs : List _). get_or xs i (f old)) (sym same) ∙ (get_or-map f now i old (f old) l ∙ ap f (sym at)) in
    let within : i < length (map f all) = omega (arith, l, as_many f now all same, length-map all f) in
    let next : suc i ≡ i + 1 = omega arith in
    map_push f list made
    ∙ (ap (λ (xs : List _). xs ++ f made ∷ []) so ∙ (ap (λ (x : _). take i (map f all) ++ x ∷ []) (is ∙ sym here) ∙ (one_more (map f all) i (f old) within ∙ ap (λ (n : ℕ). take n (map f all)) next)))

pub all_made : {X : Type 0} (f : RowsView → X) (all list : List RowsView) (i : ℕ) → length all ≤ i → map f list ≡ take i (map f all) → map f list ≡ map f all
all_made f all list i past so = so ∙ whole (map f all) i (omega (arith, past, length-map all f))
  where
    whole : {X : Type 0} (xs : List X) (i : ℕ) → length xs ≤ i → take i xs ≡ xs
    whole [] zero h = refl
    whole [] (suc i) h = refl
    whole (x ∷ xs) zero h = absurd (omega (arith, h))
    whole (x ∷ xs) (suc i) h = ap (λ (z : List _). x ∷ z) (whole xs i (omega (arith, h)))

-- keys are by the places alone
key_stays : (s t : StoreView) → t.ordinals ≡ s.ordinals → (c : KeyedChange) → IsByItsKey s c → IsByItsKey t c
key_stays s t e (Put n k) h = h ∙ ap (λ (ps : List (List ℕ)). key_at (get_or ps n []) k.row) (sym e)
key_stays s t e (Take n k) h = h ∙ ap (λ (ps : List (List ℕ)). key_at (get_or ps n []) k.row) (sym e)
key_stays s t e (Swap n k) h =
    (h.0 ∙ ap (λ (ps : List (List ℕ)). key_at (get_or ps n []) k.old) (sym e), h.1 ∙ ap (λ (ps : List (List ℕ)). key_at (get_or ps n []) k.new) (sym e))

pub ready_stays : (s t : StoreView) → StaysReady s t → (c : KeyedChange) → HasReadySlot s c → HasReadySlot t c
ready_stays s t f c h = f (changed_table (change_in c)) (key_in c) h

keys_stay : (s t : StoreView) → t.ordinals ≡ s.ordinals → StaysReady s t → (cs : List KeyedChange) → AllByRecursion (HasItsKey s) cs → AllByRecursion (HasItsKey t) cs
keys_stay s t e f [] h = tt
keys_stay s t e f (c ∷ cs) h = ((key_stays s t e c h.0.0, ready_stays s t f c h.0.1), keys_stay s t e f cs h.1)

-- keys whose slots have been made ready
pub keys_ready : (s t : StoreView) → t.ordinals ≡ s.ordinals → (cs : List KeyedChange) → AllByRecursion (IsByItsKey s) cs → AllByRecursion (HasReadySlot t) cs → AllByRecursion (HasItsKey t) cs
keys_ready s t e [] h r = tt
keys_ready s t e (c ∷ cs) h r = ((key_stays s t e c h.0, r.0), keys_ready s t e cs h.1 r.1)

pub key_first : (s : StoreView) (all left : List KeyedChange) (c : KeyedChange) → all ≡ c ∷ left → AllByRecursion (HasItsKey s) all → HasItsKey s c
key_first s all left c is h = (subst (AllByRecursion (HasItsKey s)) is h).0

pub keys_others : (s t : StoreView) (all left : List KeyedChange) (c : KeyedChange) → all ≡ c ∷ left → t.ordinals ≡ s.ordinals → StaysReady s t → AllByRecursion (HasItsKey s) all
    → AllByRecursion (HasItsKey t) left
keys_others s t all left c is e f h = keys_stay s t e f left (subst (AllByRecursion (HasItsKey s)) is h).1
