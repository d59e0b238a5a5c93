-- A target begins without rows, and stands alone on a slot of its own.
use Rattle.std.proofs.Common.{◌≡◌, ◌≢◌, ◌⊎◌, ℕ, zero, suc, ◌<◌, ◌==◌, Bool, true, false, cond, List, [], ◌∷◌, ◌++◌, length, filter, map, replicate, count_by, Option, Some, None, refl, sym, ap, ◌∙◌, subst, inl, inr, arith}
use Rattle.std.specs.Prelude.{IfSome, IsTrue}
use Rattle.std.specs.List.{AllByRecursion}
use Rattle.std.proofs.lemmas.Bool.{false≢true, eq-eqb}
use Rattle.keyrange.specs.declared.KeyRange.{KeyRange}
use Rattle.keyrange.specs.Ranges.{has_id, is_before_end, IsByteString}
use Rattle.keyrange.specs.Names.{IsNamed}
use Rattle.keyrange.proofs.Order as order
use Rattle.vt_value.specs.Values.{Row}
use Rattle.shard.specs.Place.{Place}
use Rattle.shard.specs.Table.{Table}
use Rattle.shard.specs.Database.{Database, union, restricted}
use Rattle.journal.specs.Views.{SeatView}
use Rattle.shard_run.specs.declared.ShardRecord.{ShardRecord}
use Rattle.shard_run.specs.declared.Mode.TheVariants.{Following, Serving}
use Rattle.shard_run.specs.declared.Entry.{Entry}
use Rattle.shard_run.specs.Runs.{Opening, Run, all_rows, is_opening, is_on, entries_on, opening_part, first_rows, mode}
use Rattle.shard_law.specs.Legal.{IsOnItsSlot}
use Rattle.shard_run.specs.Openings.{IsOpening, OpensWith, shards_in, row_count}
use Rattle.shard_law.proofs.First.{long}
use Rattle.reshard_create.specs.Configs.{IsFree}

-- ---- no rows

union_long : (n : ℕ) (a b : Database) → length a ≡ n → (b ≡ []) ⊎ (length b ≡ n) → length (union a b) ≡ n
union_long n [] b l (inl e) = ap length e ∙ l
union_long n [] b l (inr e) = e
union_long n (xs ∷ a) [] l h = l
union_long zero (xs ∷ a) (ys ∷ b) l h = absurd (omega (arith, l))
union_long (suc n) (xs ∷ a) (ys ∷ b) l (inl e) = absurd (cc e)
union_long (suc n) (xs ∷ a) (ys ∷ b) l (inr e) = let h = union_long n a b (omega (arith, l)) (inr (omega (arith, e))) in omega (arith, h)

rows_long : (tables : List Table) (o : Opening) → o.schema.tables ≡ tables → (shards : List (ShardRecord × Database)) → AllByRecursion (λ p. OpensWith o.schema p.0 p.1) shards
    → (all_rows shards ≡ []) ⊎ (length (all_rows shards) ≡ length o.schema.tables)
rows_long tables o is [] each = inl refl
rows_long tables o is (p ∷ shards) each =
    inr (union_long (length o.schema.tables) p.1 (all_rows shards) (long o.schema.tables p.1 each.0.rows) (rows_long tables o is shards each.1))

some_rows : (o : Opening) (p : ShardRecord × Database) (shards : List (ShardRecord × Database)) → AllByRecursion (λ p. OpensWith o.schema p.0 p.1) (p ∷ shards)
    → length (all_rows (p ∷ shards)) ≡ length o.schema.tables
some_rows o p shards each =
    union_long (length o.schema.tables) p.1 (all_rows shards) (long o.schema.tables p.1 each.0.rows) (rows_long o.schema.tables o refl shards each.1)

restricted_long : (place : Place) (tables : List Table) (db : Database) → length db ≡ length tables → length (restricted tables place db) ≡ length tables
restricted_long place [] db l = refl
restricted_long place (t ∷ tables) [] l = absurd (omega (arith, l))
restricted_long place (t ∷ tables) (rows ∷ db) l = let h = restricted_long place tables db (omega (arith, l)) in omega (arith, h)

blanks : (db : Database) → map {B = List Row} (λ rows. []) db ≡ replicate {A = List Row} (length db) []
blanks [] = refl
blanks (rows ∷ db) = ap (λ (l : Database). [] ∷ l) (blanks db)

pub no_rows : (n : ℕ) → row_count (replicate {A = List Row} n []) ≡ 0
no_rows zero = refl
no_rows (suc n) = no_rows n

-- an opening with a keyspace has a shard
opening_long : (o : Opening) → IsOpening o → (k : ℕ) → k < length o.schema.keyspaces → length (all_rows o.shards) ≡ length o.schema.tables
opening_long o is k within = by o.shards refl
  where
    by : (shards : List (ShardRecord × Database)) → o.shards ≡ shards → length (all_rows o.shards) ≡ length o.schema.tables
    by [] e =
        let one = is.ranges k within [] refl in
        let none : shards_in o k ≡ [] = ap (λ (l : List (ShardRecord × Database)). filter (λ (s : ShardRecord). s.place.keyspace == k) (map (λ p. p.0) l)) e in
        let zero_is : 0 ≡ 1 = ap (λ (l : List ShardRecord). count_by (λ r. has_id r []) (map (λ s. s.place.range) l)) (sym none) ∙ one in
        absurd (omega (arith, zero_is))
    by (p ∷ shards) e =
        ap (λ (l : List (ShardRecord × Database)). length (all_rows l)) e
        ∙ some_rows o p shards (subst (AllByRecursion (λ p. OpensWith o.schema p.0 p.1)) e is.each)

pub blank : (o : Opening) → IsOpening o → (k : ℕ) → k < length o.schema.keyspaces → (s : ShardRecord) → is_opening o s.slot ≡ false
    → first_rows o s ≡ replicate {A = List Row} (length o.schema.tables) []
blank o is k within s other =
    ap (λ b. cond b (opening_part o s) (map {B = List Row} (λ rows. []) (opening_part o s))) other ∙ blanks (opening_part o s)
    ∙ ap (λ n. replicate {A = List Row} n []) (restricted_long s.place o.schema.tables (all_rows o.shards) (opening_long o is k within))

-- ---- alone on its slot

none_on : (slot : ℕ) (s : ShardRecord) (run : Run) → entries_on slot run ≡ [] → s.slot ≡ slot → AllByRecursion (λ e. e.shard.slot ≡ s.slot → e.shard ≡ s) run
none_on slot s [] none is = tt
none_on slot s (e ∷ run) none is = by (is_on slot e) refl (none_on slot s run)
  where
    by : (b : Bool) → is_on slot e ≡ b → (entries_on slot run ≡ [] → s.slot ≡ slot → AllByRecursion (λ e. e.shard.slot ≡ s.slot → e.shard ≡ s) run)
        → AllByRecursion (λ e. e.shard.slot ≡ s.slot → e.shard ≡ s) (e ∷ run)
    by true i rest = absurd (cc (ap (λ c. cond c (e ∷ entries_on slot run) (entries_on slot run)) (sym i) ∙ none))
    by false i rest = (
      λ on. absurd (false≢true (sym i ∙ eq-eqb e.shard.slot slot (on ∙ is))),
      rest (ap (λ c. cond c (e ∷ entries_on slot run) (entries_on slot run)) (sym i) ∙ none) is,
    )

pub stands_free : (o : Opening) (seat : SeatView Entry) → IsFree o seat → (s : ShardRecord) → s.slot ≡ seat.slot → IsNamed s.place.range → s.sources ≢ []
    → IsOnItsSlot o seat.seen s
stands_free o seat free s is named some = record {
  slot = (let b = free.below in omega (arith, is, b));
  range = named;
  same = none_on seat.slot s seat.seen free.fresh is;
  opening = λ opens. absurd (false≢true (sym free.not_opening ∙ ap (is_opening o) (sym is) ∙ opens));
  target = λ other. some;
}

pub follows_first : (o : Opening) (seat : SeatView Entry) → IsFree o seat → (slot : ℕ) → slot ≡ seat.slot → Following ≡ mode o [] slot
follows_first o seat free slot is = ap (λ b. cond b Serving Following) (sym (ap (is_opening o) is ∙ free.not_opening))

-- ---- a range with a name isn't empty

pub begins_inside : (r : KeyRange) → IsNamed r → IsByteString r.begin × (has_id r r.begin ≡ true)
begins_inside r named = (named.0.0, order.within r r.begin (order.itself r.begin) (by r.end named.1))
  where
    by : (end : Option (List ℕ)) → IfSome end (λ end. Rattle.keyrange.specs.Names.IsEdge end × (end ≢ []) × IsTrue (Rattle.keyrange.specs.Ranges.is_before r.begin end))
        → is_before_end r.begin end ≡ true
    by None h = refl
    by (Some end) h = h.2

-- a copy of a target's shard, on the free slot
pub stands_copy : (o : Opening) (seat : SeatView Entry) → IsFree o seat → (which copy : ShardRecord) (slot : ℕ) → copy ≡ which → slot ≡ seat.slot → IsNamed which.place.range
    → (which.sources ≡ [] → ⊥) → IsOnItsSlot o seat.seen (record copy { slot = slot })
stands_copy o seat free which copy slot same is named some =
    stands_free o seat free (record copy { slot = slot }) is (subst (λ (s : ShardRecord). IsNamed s.place.range) (sym same) named)
    (subst (λ (s : ShardRecord). s.sources ≡ [] → ⊥) (sym same) some)

pub last_of : {X : Type 0} (P : X → Type 0) (xs : List X) (x : X) → AllByRecursion P (xs ++ x ∷ []) → P x
last_of P [] x all = all.0
last_of P (y ∷ xs) x all = last_of P xs x all.1
