-- The shards without rows are an opening.
use Rattle.std.proofs.Common.{◌≡◌, ◌≢◌, ℕ, zero, suc, ◌+◌, ◌^◌, ◌<◌, ◌≤◌, Bool, true, false, not, cond, ◌&&◌, ◌==◌, List, [], ◌∷◌, ◌++◌, length, map, filter, replicate, sum_by, slice_get, Option, Some, None, refl, sym, ap, ◌∙◌, subst, inl, arith}
use Rattle.std.specs.Prelude.{nat_le, IfSome}
use Rattle.std.specs.List.{AllByRecursion, list_all}
use Rattle.std.proofs.lemmas.Bool.{true≢false, and_parts, eq-eqb, eqb-true, leb-true, not-true}
use Rattle.std.proofs.lemmas.List.{append-nil}
use Rattle.std.proofs.lemmas.List.Elements.{filter-append}
use Rattle.vschema.specs.KeyRange.{KeyRange}
use Rattle.vschema.specs.Ranges.{Cover}
use Rattle.vschema.specs.Names.{IsNamed}
use Rattle.vschema.specs.declared.schema.Keyspace.{Keyspace}
use Rattle.vschema.specs.declared.schema.Place.{Place}
use Rattle.vschema.specs.declared.schema.Table.{Table}
use Rattle.vschema.specs.declared.schema.VSchema.{VSchema}
use Rattle.vschema.specs.Database.{Database, restricted}
use Rattle.vschema.specs.Storable.{is_database}
use Rattle.vschema.specs.WellFormed.{is_vschema, is_table}
use Rattle.vschema.specs.WriteChecks.{has_twice}
use Rattle.sql_lexer.specs.Lexemes.{is_word}
use Rattle.shard_run.specs.declared.ShardRecord.{ShardRecord}
use Rattle.shard_run.specs.Openings.{IsOpening, OpensWith, row_count}
use Rattle.shard_run.specs.opening.Empty.{unsharded_keyspace, sharded_keyspace, full_range, shards_from, keyspace_shards, unsharded_shards, empty_shards, no_rows, opening_of, FitRanges}
use Rattle.shard_run.proofs.opening.Lists.{ordinal_only, placed, all-append, Numbered, numbered-append, numbered-apart, numbered-below}

-- ---- shards and their rows

-- the shards of an opening are those that were asked for
pub shards_are : (db : Database) (shards : List ShardRecord) → map (λ (p : ShardRecord × Database). p.0) (map (λ s. (s, db)) shards) ≡ shards
shards_are db [] = refl
shards_are db (s ∷ shards) = ap (λ z. s ∷ z) (shards_are db shards)

-- the shards that were pushed are those of the opening
pub asked : (schema : VSchema) (ranges : List KeyRange) (first second : List ShardRecord)
    → first ≡ [] ++ keyspace_shards 0 (unsharded_keyspace schema) (full_range ∷ [])
    → second ≡ first ++ keyspace_shards (length first) (sharded_keyspace schema) ranges
    → second ≡ map (λ (p : ShardRecord × Database). p.0) (opening_of schema ranges).shards
asked schema ranges first second a b =
    b ∙ (ap (λ (z : List ShardRecord). z ++ keyspace_shards (length z) (sharded_keyspace schema) ranges) a
    ∙ sym (shards_are (no_rows schema) (empty_shards schema ranges)))

abbrev empties : List Table → Database
empties tables = map (λ t. []) tables

pub nothing_is : (tables : List Table) → empties tables ≡ replicate (length tables) []
nothing_is [] = refl
nothing_is (t ∷ tables) = ap (λ z. [] ∷ z) (nothing_is tables)

database : (tables : List Table) → is_database tables (empties tables) ≡ true
database [] = refl
database (t ∷ tables) = database tables

inside : (place : Place) (tables : List Table) → restricted tables place (empties tables) ≡ empties tables
inside place [] = refl
inside place (t ∷ tables) = ap (λ z. [] ∷ z) (inside place tables)

no_room : (tables : List Table) → row_count (empties tables) ≡ 0
no_room [] = refl
no_room (t ∷ tables) = no_room tables

-- ---- a keyspace's shards

numbered : (n keyspace : ℕ) (ranges : List KeyRange) → Numbered (λ s. s.slot) n (shards_from n keyspace ranges)
numbered n keyspace [] = tt
numbered n keyspace (r ∷ ranges) = (refl, numbered (n + 1) keyspace ranges)

numbered_shards : (n : ℕ) (keyspace : Option ℕ) (ranges : List KeyRange) → Numbered (λ s. s.slot) n (keyspace_shards n keyspace ranges)
numbered_shards n None ranges = tt
numbered_shards n (Some keyspace) ranges = numbered n keyspace ranges

-- a shard without sources, in a keyspace of the VSchema and on a range that has a name
abbrev IsPlain : VSchema → ShardRecord → Type 0
IsPlain schema s = (s.place.keyspace < length schema.keyspaces) × IsNamed s.place.range × (s.sources ≡ [])

plain : (schema : VSchema) (n keyspace : ℕ) (ranges : List KeyRange) → keyspace < length schema.keyspaces
    → AllByRecursion IsNamed ranges → AllByRecursion (IsPlain schema) (shards_from n keyspace ranges)
plain schema n keyspace [] l h = tt
plain schema n keyspace (r ∷ ranges) l h = ((l, h.0, refl), plain schema (n + 1) keyspace ranges l h.1)

in_keyspace : (n keyspace : ℕ) (ranges : List KeyRange)
    → map (λ s. s.place.range) (filter (λ s. s.place.keyspace == keyspace) (shards_from n keyspace ranges)) ≡ ranges
in_keyspace n keyspace [] = refl
in_keyspace n keyspace (r ∷ ranges) =
    let e : (keyspace == keyspace) ≡ true = eq-eqb keyspace keyspace refl in
    rw e (ap (λ z. r ∷ z) (in_keyspace (n + 1) keyspace ranges))

in_other : (n k keyspace : ℕ) (ranges : List KeyRange) → (k == keyspace) ≡ false
    → filter (λ s. s.place.keyspace == keyspace) (shards_from n k ranges) ≡ []
in_other n k keyspace [] e = refl
in_other n k keyspace (r ∷ ranges) e = rw e (in_other (n + 1) k keyspace ranges e)

named_full : IsNamed full_range
named_full = ((refl, omega arith, inl refl), tt)

cover_full : Cover (full_range ∷ [])
cover_full [] bytes = refl
cover_full (b ∷ id) bytes = refl

slice_get_below : {X : Type 0} (k : ℕ) (x : X) (xs : List X) → slice_get xs k ≡ Some x → k < length xs
slice_get_below k x xs e = Rattle.std.proofs.lemmas.Option.slice_get_within xs k x e

slice_get_there : {X : Type 0} (k : ℕ) (xs : List X) → k < length xs → (x : X) × (slice_get xs k ≡ Some x)
slice_get_there k [] l = absurd (omega (arith, l))
slice_get_there zero (x ∷ xs) l = (x, refl)
slice_get_there (suc k) (x ∷ xs) l = slice_get_there k xs (omega (arith, l))

some_same : {X : Type 0} (a b : X) → Some a ≡ Some b → a ≡ b
some_same {X} a b e = ap or e
  where
    or : Option X → X
    or None = a
    or (Some x) = x

-- ranges that have names, hold each keyspace id once, and fit
pub fit_from : (schema : VSchema) (ranges : List KeyRange) → AllByRecursion IsNamed ranges → Cover ranges
    → length (empty_shards schema ranges) ≤ 64 → FitRanges schema ranges
fit_from schema ranges named cover slots = record {
  named = by (AllByRecursion IsNamed ranges) named (sharded_keyspace schema);
  cover = by (Cover ranges) cover (sharded_keyspace schema);
  slots = slots;
}
  where
    by : (X : Type 0) → X → (k : Option ℕ) → IfSome k (λ k. X)
    by X x None = tt
    by X x (Some k) = x

module _ (schema : VSchema) (ranges : List KeyRange) (well : is_vschema schema ≡ true) (fit : FitRanges schema ranges) where
  -- at most one keyspace is sharded, and at most one isn't
  one_each : (length (filter (λ k. k.sharded) schema.keyspaces) ≤ 1) × (length (filter (λ k. not k.sharded) schema.keyspaces) ≤ 1)
  one_each = by
      (nat_le 1 (length schema.keyspaces)) (nat_le (length (filter (λ k. k.sharded) schema.keyspaces)) 1)
      (nat_le (length (filter (λ k. not k.sharded) schema.keyspaces)) 1) (list_all (λ k. is_word k.name) schema.keyspaces)
      (not (has_twice (map (λ k. k.name) schema.keyspaces))) (nat_le (length schema.tables) 256)
      (not (has_twice (map (λ t. t.name) schema.tables))) (list_all (is_table schema.keyspaces) schema.tables) refl refl well
    where
      by : (a b c d e f g h : Bool) → nat_le (length (filter (λ k. k.sharded) schema.keyspaces)) 1 ≡ b
          → nat_le (length (filter (λ k. not k.sharded) schema.keyspaces)) 1 ≡ c → (a && b && c && d && e && f && g && h) ≡ true
          → (length (filter (λ k. k.sharded) schema.keyspaces) ≤ 1) × (length (filter (λ k. not k.sharded) schema.keyspaces) ≤ 1)
      by a b c d e f g h i j w =
          let p = and_parts (a && b && c && d && e && f && g) h w in
          let q = and_parts (a && b && c && d && e && f) g p.0 in
          let r = and_parts (a && b && c && d && e) f q.0 in
          let s = and_parts (a && b && c && d) e r.0 in
          let t = and_parts (a && b && c) d s.0 in
          let u = and_parts (a && b) c t.0 in
          let v = and_parts a b u.0 in
          (le (length (filter (λ k. k.sharded) schema.keyspaces)) (i ∙ v.1), le (length (filter (λ k. not k.sharded) schema.keyspaces)) (j ∙ u.1))
        where
          le : (n : ℕ) → nat_le n 1 ≡ true → n ≤ 1
          le n e = leb-true n 1 e

  -- ---- each shard

  plain_whole : AllByRecursion (IsPlain schema) (unsharded_shards schema)
  plain_whole = by (unsharded_keyspace schema) refl
    where
      by : (k : Option ℕ) → unsharded_keyspace schema ≡ k → AllByRecursion (IsPlain schema) (keyspace_shards 0 k (full_range ∷ []))
      by None e = tt
      by (Some k) e =
          let p = placed (λ k. not k.sharded) 0 schema.keyspaces k e in
          let i = p.is in
          let l = slice_get_below p.k p.x schema.keyspaces p.there in
          plain schema 0 k (full_range ∷ []) (omega (arith, i, l)) (named_full, tt)

  plain_split : AllByRecursion (IsPlain schema) (keyspace_shards (length (unsharded_shards schema)) (sharded_keyspace schema) ranges)
  plain_split = by (sharded_keyspace schema) refl fit.named
    where
      by : (k : Option ℕ) → sharded_keyspace schema ≡ k → IfSome k (λ k. AllByRecursion IsNamed ranges)
          → AllByRecursion (IsPlain schema) (keyspace_shards (length (unsharded_shards schema)) k ranges)
      by None e h = tt
      by (Some k) e h =
          let p = placed (λ k. k.sharded) 0 schema.keyspaces k e in
          let i = p.is in
          let l = slice_get_below p.k p.x schema.keyspaces p.there in
          plain schema (length (unsharded_shards schema)) k ranges (omega (arith, i, l)) h

  all_plain : AllByRecursion (IsPlain schema) (empty_shards schema ranges)
  all_plain = all-append (IsPlain schema) (unsharded_shards schema)
      (keyspace_shards (length (unsharded_shards schema)) (sharded_keyspace schema) ranges) plain_whole plain_split

  all_numbered : Numbered (λ s. s.slot) 0 (empty_shards schema ranges)
  all_numbered = numbered-append (λ s. s.slot) 0 (unsharded_shards schema)
      (keyspace_shards (length (unsharded_shards schema)) (sharded_keyspace schema) ranges)
      (numbered_shards 0 (unsharded_keyspace schema) (full_range ∷ []))
      (subst (λ n. Numbered (λ s. s.slot) n split) zero_more (numbered_shards (length (unsharded_shards schema)) (sharded_keyspace schema) ranges))
    where
      split : List ShardRecord
      split = keyspace_shards (length (unsharded_shards schema)) (sharded_keyspace schema) ranges

      zero_more : length (unsharded_shards schema) ≡ 0 + length (unsharded_shards schema)
      zero_more = omega arith

  opens_each : (shards : List ShardRecord) → AllByRecursion (IsPlain schema) shards → AllByRecursion (λ s. s.slot < 0 + length (empty_shards schema ranges)) shards
      → AllByRecursion (λ (p : ShardRecord × Database). OpensWith schema p.0 p.1) (map (λ s. (s, no_rows schema)) shards)
  opens_each [] h l = tt
  opens_each (s ∷ shards) h l = (
    record {
      slot = let a = l.0 in let b = fit.slots in omega (arith, a, b);
      keyspace = h.0.0;
      range = h.0.1;
      no_sources = h.0.2;
      rows = database schema.tables;
      inside = inside s.place schema.tables;
      room = let e = no_room schema.tables in omega (arith, e);
    },
    opens_each shards h.1 l.1,
  )

  -- ---- the ranges of a keyspace

  keyspace_ranges : ℕ → List ShardRecord → List KeyRange
  keyspace_ranges keyspace shards = map (λ s. s.place.range) (filter (λ s. s.place.keyspace == keyspace) shards)

  map-append : (xs ys : List ShardRecord) → map (λ s. s.place.range) (xs ++ ys) ≡ map (λ s. s.place.range) xs ++ map (λ s. s.place.range) ys
  map-append [] ys = refl
  map-append (x ∷ xs) ys = ap (λ z. x.place.range ∷ z) (map-append xs ys)

  none_of : (n : ℕ) (k : Option ℕ) (keyspace : ℕ) (rs : List KeyRange) → ((m : ℕ) → k ≡ Some m → (m == keyspace) ≡ false)
      → filter (λ s. s.place.keyspace == keyspace) (keyspace_shards n k rs) ≡ []
  none_of n None keyspace rs h = refl
  none_of n (Some m) keyspace rs h = in_other n m keyspace rs (h m refl)

  -- a keyspace of one sort isn't of the other
  apart : (m keyspace : ℕ) (a : Bool) (x y : Keyspace) → slice_get schema.keyspaces m ≡ Some y → slice_get schema.keyspaces keyspace ≡ Some x
      → x.sharded ≡ a → y.sharded ≡ not a → (m == keyspace) ≡ false
  apart m keyspace a x y i j e f = by (m == keyspace) refl
    where
      never : (a : Bool) → a ≡ not a → ⊥
      never true e = true≢false e
      never false e = true≢false (sym e)

      by : (b : Bool) → (m == keyspace) ≡ b → (m == keyspace) ≡ false
      by true e' =
          let k : m ≡ keyspace = eqb-true m keyspace e' in
          let s : y ≡ x = some_same y x (sym i ∙ (ap (slice_get schema.keyspaces) k ∙ j)) in
          absurd (never a (sym e ∙ (ap (λ k. k.sharded) (sym s) ∙ f)))
      by false e' = e'

  in_both : (keyspace : ℕ) → map (λ s. s.place.range) (filter (λ s. s.place.keyspace == keyspace) (empty_shards schema ranges))
      ≡ map (λ s. s.place.range) (filter (λ s. s.place.keyspace == keyspace) (unsharded_shards schema))
      ++ map (λ s. s.place.range) (filter (λ s. s.place.keyspace == keyspace) (keyspace_shards (length (unsharded_shards schema)) (sharded_keyspace schema) ranges))
  in_both keyspace =
      let split = keyspace_shards (length (unsharded_shards schema)) (sharded_keyspace schema) ranges in
      ap (map (λ s. s.place.range)) (filter-append (λ s. s.place.keyspace == keyspace) (unsharded_shards schema) split)
      ∙ map-append (filter (λ s. s.place.keyspace == keyspace) (unsharded_shards schema)) (filter (λ s. s.place.keyspace == keyspace) split)

  covered : (keyspace : ℕ) (x : Keyspace) → slice_get schema.keyspaces keyspace ≡ Some x → (a : Bool) → x.sharded ≡ a
      → Cover (map (λ s. s.place.range) (filter (λ s. s.place.keyspace == keyspace) (empty_shards schema ranges)))
  covered keyspace x j true e =
      subst Cover (sym is) (subst (λ k. IfSome k (λ k. Cover ranges)) found fit.cover)
    where
      found : sharded_keyspace schema ≡ Some keyspace
      found = ordinal_only (λ k. k.sharded) 0 keyspace x schema.keyspaces j e one_each.0 ∙ ap Some (omega arith)

      none : filter (λ s. s.place.keyspace == keyspace) (unsharded_shards schema) ≡ []
      none = none_of 0 (unsharded_keyspace schema) keyspace (full_range ∷ []) each
        where
          each : (m : ℕ) → unsharded_keyspace schema ≡ Some m → (m == keyspace) ≡ false
          each m i =
              let p = placed (λ k. not k.sharded) 0 schema.keyspaces m i in
              let r = p.is in
              let q : m ≡ p.k = omega (arith, r) in
              apart m keyspace true x p.x (ap (slice_get schema.keyspaces) q ∙ p.there) j e (not-true p.x.sharded p.passes)

      is : map (λ s. s.place.range) (filter (λ s. s.place.keyspace == keyspace) (empty_shards schema ranges)) ≡ ranges
      is =
          let n = length (unsharded_shards schema) in
          in_both keyspace
          ∙ (ap (λ z. map (λ s. s.place.range) z
          ++ map (λ s. s.place.range) (filter (λ s. s.place.keyspace == keyspace) (keyspace_shards n (sharded_keyspace schema) ranges))) none
          ∙ (ap (λ k. map (λ s. s.place.range) (filter (λ s. s.place.keyspace == keyspace) (keyspace_shards n k ranges))) found
          ∙ in_keyspace n keyspace ranges))
  covered keyspace x j false e = subst Cover (sym is) cover_full
    where
      found : unsharded_keyspace schema ≡ Some keyspace
      found = ordinal_only (λ k. not k.sharded) 0 keyspace x schema.keyspaces j (ap not e) one_each.1 ∙ ap Some (omega arith)

      none : filter (λ s. s.place.keyspace == keyspace) (keyspace_shards (length (unsharded_shards schema)) (sharded_keyspace schema) ranges) ≡ []
      none = none_of (length (unsharded_shards schema)) (sharded_keyspace schema) keyspace ranges each
        where
          each : (m : ℕ) → sharded_keyspace schema ≡ Some m → (m == keyspace) ≡ false
          each m i =
              let p = placed (λ k. k.sharded) 0 schema.keyspaces m i in
              let r = p.is in
              let q : m ≡ p.k = omega (arith, r) in
              apart m keyspace false x p.x (ap (slice_get schema.keyspaces) q ∙ p.there) j e p.passes

      is : map (λ s. s.place.range) (filter (λ s. s.place.keyspace == keyspace) (empty_shards schema ranges)) ≡ full_range ∷ []
      is =
          in_both keyspace
          ∙ (ap (λ z. map (λ s. s.place.range) (filter (λ s. s.place.keyspace == keyspace) (unsharded_shards schema)) ++ map (λ s. s.place.range) z) none
          ∙ (append-nil (map (λ s. s.place.range) (filter (λ s. s.place.keyspace == keyspace) (unsharded_shards schema)))
          ∙ (ap (λ k. map (λ s. s.place.range) (filter (λ s. s.place.keyspace == keyspace) (keyspace_shards 0 k (full_range ∷ [])))) found
          ∙ in_keyspace 0 keyspace (full_range ∷ []))))

  pub opens : IsOpening (opening_of schema ranges)
  opens = record {
    each = opens_each (empty_shards schema ranges) all_plain (numbered-below (λ s. s.slot) 0 (empty_shards schema ranges) all_numbered);
    slots = subst (Rattle.std.proofs.Common.AllPairs (λ a b. a.slot ≢ b.slot)) (sym (shards_are (no_rows schema) (empty_shards schema ranges)))
        (numbered-apart (λ s. s.slot) (empty_shards schema ranges) all_numbered);
    ranges = λ keyspace below.
        let x = slice_get_there keyspace schema.keyspaces below in
        subst (λ shards. Cover (map (λ s. s.place.range) (filter (λ s. s.place.keyspace == keyspace) shards)))
        (sym (shards_are (no_rows schema) (empty_shards schema ranges))) (covered keyspace x.0 x.1 x.0.sharded refl);
  }
