-- The slots that no shard of an opening stands on.
use Rattle.std.proofs.Common.{◌≡◌, ◌==◌, ℕ, zero, suc, ◌+◌, ◌<◌, ◌≤◌, List, [], ◌∷◌, length, get_or, map, drop, false, Bool, true, Some, ◌-◌, refl, sym, ap, ap₂, ◌∙◌, subst, arith}
use Rattle.std.specs.List.{AllByRecursion, list_any, range_with_len}
use Rattle.std.specs.Prelude.{if◌then◌else◌}
use Rattle.std.proofs.lemmas.Bool.{ne_eqb}
use Rattle.journal.specs.Views.{SeatView, fresh_seats}
use Rattle.vschema.specs.Database.{Database}
use Rattle.shard_run.specs.declared.ShardRecord.{ShardRecord}
use Rattle.shard_run.specs.declared.Entry.{Entry}
use Rattle.shard_run.specs.Runs.{is_opening, entries_on}
use Rattle.keyrange.specs.declared.KeyRange.{KeyRange}
use Rattle.vschema.specs.declared.schema.VSchema.{VSchema}
use Rattle.shard_run.specs.opening.Empty.{empty_shards, no_rows, opening_of}
use Rattle.reshard.specs.Configs.{IsFree}
use Rattle.vschema.specs.Schema.{ordinal_from}
use Rattle.admin.proofs.router.Empty.{on_own_slots, seats_from}

-- a seat of these slots, from which nothing was seen
pub record IsFreshFrom (n most : ℕ) (seat : SeatView Entry) : Type 0 where
  pub seen : seat.seen ≡ []
  pub from : n ≤ seat.slot
  pub below : seat.slot < most

all_from : (a m lo hi : ℕ) → lo ≤ a → a + m ≤ hi → AllByRecursion (IsFreshFrom lo hi) (seats_from a m)
all_from a zero lo hi l h = tt
all_from a (suc m) lo hi l h =
    (record { seen = refl; from = l; below = omega (arith, h) }, all_from (a + 1) m lo hi (omega (arith, l)) (omega (arith, h)))

fresh_from : (a k m lo hi : ℕ) → lo ≤ a + k → a + m ≤ hi → AllByRecursion (IsFreshFrom lo hi) (drop k (seats_from a m))
fresh_from a zero m lo hi l h = all_from a m lo hi (omega (arith, l)) h
fresh_from a (suc k) zero lo hi l h = tt
fresh_from a (suc k) (suc m) lo hi l h = fresh_from (a + 1) k m lo hi (omega (arith, l)) (omega (arith, h))

none_beyond : (shards : List ShardRecord) (db : Database) (k slot : ℕ) → ((i : ℕ) (d : ShardRecord) → i < length shards → (get_or shards i d).slot < k)
    → k ≤ slot → list_any (λ (p : ShardRecord × Database). p.0.slot == slot) (map (λ (s : ShardRecord). (s, db)) shards) ≡ false
none_beyond [] db k slot h l = refl
none_beyond (s ∷ shards) db k slot h l =
    let at = h 0 s (omega arith) in
    let first : (s.slot == slot) ≡ false = ne_eqb s.slot slot (λ e. absurd (omega (arith, at, l, e))) in
    let others = none_beyond shards db k slot (λ i d below. h (suc i) d (omega (arith, below))) l in
    rw first others

not_opening : (schema : VSchema) (ranges : List KeyRange) (slot : ℕ) → length (empty_shards schema ranges) ≤ slot
    → is_opening (opening_of schema ranges) slot ≡ false
not_opening schema ranges slot l =
    none_beyond (empty_shards schema ranges) (no_rows schema) (length (empty_shards schema ranges)) slot
    (λ i d below. let e = on_own_slots schema ranges i d below in omega (arith, e, below)) l

free_of : (schema : VSchema) (ranges : List KeyRange) (seat : SeatView Entry) → IsFreshFrom (length (empty_shards schema ranges)) 64 seat
    → IsFree (opening_of schema ranges) seat
free_of schema ranges seat h = record {
  below = h.below;
  fresh = subst (λ (seen : List Entry). entries_on seat.slot seen ≡ []) (sym h.seen) refl;
  not_opening = not_opening schema ranges seat.slot h.from;
}

all_free : (schema : VSchema) (ranges : List KeyRange) (seats : List (SeatView Entry))
    → AllByRecursion (IsFreshFrom (length (empty_shards schema ranges)) 64) seats → AllByRecursion (IsFree (opening_of schema ranges)) seats
all_free schema ranges [] h = tt
all_free schema ranges (s ∷ seats) h = (free_of schema ranges s h.0, all_free schema ranges seats h.1)

-- the seats after those of the opening's shards are free
pub free_after : (schema : VSchema) (ranges : List KeyRange)
    → AllByRecursion (IsFree (opening_of schema ranges)) (drop (length (empty_shards schema ranges)) (fresh_seats 64))
free_after schema ranges =
    let n = length (empty_shards schema ranges) in all_free schema ranges _ (fresh_from 0 n 64 n 64 (omega arith) (omega arith))

-- ---- their slots

all_slots : (n m : ℕ) → map (λ (s : SeatView Entry). s.slot) (seats_from n m) ≡ range_with_len n m
all_slots n zero = refl
all_slots n (suc m) = ap (λ (xs : List ℕ). n ∷ xs) (all_slots (n + 1) m)

slots_from : (n k m : ℕ) → map (λ (s : SeatView Entry). s.slot) (drop k (seats_from n m)) ≡ range_with_len (n + k) (m - k)
slots_from n zero m =
    let from : n ≡ n + 0 = omega arith in
    let many : m ≡ m - 0 = omega arith in
    all_slots n m ∙ ap₂ range_with_len from many
slots_from n (suc k) zero = let none : 0 ≡ 0 - suc k = omega arith in ap (range_with_len (n + suc k)) none
slots_from n (suc k) (suc m) =
    let from : (n + 1) + k ≡ n + suc k = omega arith in
    let many : m - k ≡ suc m - suc k = omega arith in
    slots_from (n + 1) k m ∙ ap₂ range_with_len from many

-- the slots of the seats after so many
pub their_slots : (n : ℕ) → map (λ (s : SeatView Entry). s.slot) (drop n (fresh_seats 64)) ≡ range_with_len n (64 - n)
their_slots n = let from : 0 + n ≡ n = omega arith in slots_from 0 n 64 ∙ ap (λ (x : ℕ). range_with_len x (64 - n)) from

-- ---- the sharded keyspace

pub ordinal_below : {X : Type 0} (test : X → Bool) (n : ℕ) (xs : List X) (k : ℕ) → ordinal_from test n xs ≡ Some k → k < n + length xs
ordinal_below test n [] k e = absurd (cc e)
ordinal_below {X} test n (x ∷ xs) k e = by (test x) e (λ h. ordinal_below test (n + 1) xs k h)
  where
    by : (b : Bool) → (if b then Some n else ordinal_from test (n + 1) xs) ≡ Some k → (ordinal_from test (n + 1) xs ≡ Some k → k < (n + 1) + length xs)
        → k < n + length (x ∷ xs)
    by true is later = let same : n ≡ k = cc is in omega (arith, same)
    by false is later = let below = later is in omega (arith, below)
