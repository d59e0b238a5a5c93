-- What holds of an opening shard after a legal run.
use Rattle.std.proofs.Common.{◌≡◌, true, [], ◌∷◌, ◌++◌, length, map, refl, sym, ap, subst, inl, inr, ◌∙◌}
use Rattle.std.specs.Prelude.{Contains}
use Rattle.std.proofs.lemmas.Bool.{false≢true, eq-eqb}
use Rattle.vschema.specs.Database.{Database, SameRows, restrict}
use Rattle.shard_law.specs.Runs.{LegalAfter, IsLegal}
use Rattle.shard_law.specs.ShardRecord.{ShardRecord}
use Rattle.shard_law.specs.Mode.{Mode}
use Rattle.shard_law.specs.Mode.TheVariants.{Following}
use Rattle.shard_law.specs.Event.{Event}
use Rattle.shard_law.specs.Entry.{Entry}
use Rattle.shard_law.specs.ShardRunRuns.{Run, Opening, database, shard_rows, first_rows, mode, answers_queries, is_opening, is_on, entries_on, IsShardOf}
use Rattle.shard_law.specs.Legal.{Legal, LegalFrom, IsOnItsSlot}
use Rattle.shard_law.specs.Openings.{IsOpening, OpensWith}
use Rattle.shard_law.proofs.Databases.{length-all_applied}
use Rattle.shard_law.proofs.First.{long, first_rows_are}
use Rattle.shard_law.specs.Law.{Serves}
use Rattle.shard_law.proofs.Lists.{In, In-from_Contains, Contains-from_In, In-from_map, In-map, In-all, In-filter, In-from_filter, AllByRecursion-push, all-from_In}
use Rattle.shard_law.proofs.Runs.{Of, Live, is_of, log, opening-is}
use Rattle.shard_law.proofs.Law.{slots, distinct, known}
use Rattle.shard_law.proofs.Holds.{holds_its_part}
use Rattle.shard_law.specs.Entries.{MayFollow, opening_shards}

-- the journal's legal runs are the legal runs
legal_after : (o : Opening) (run before : Run) → LegalAfter (MayFollow o) before run → LegalFrom o before run
legal_after o [] before legal = tt
legal_after o (e ∷ run) before legal = (legal.0.0, legal.0.1, legal_after o run (before ++ e ∷ []) legal.1)

pub legal_is : (o : Opening) (run : Run) → IsLegal (MayFollow o) run → Legal o run
legal_is o run legal = legal_after o run [] legal

module _ (o : Opening) (opens : IsOpening o) (s : ShardRecord) (opening : Contains (opening_shards o) s) where
  there : In s (opening_shards o)
  there = In-from_Contains s (opening_shards o) opening

  -- the shard with its first rows
  record Given : Type 0 where
    db : Database
    is : In (s, db) o.shards
    with' : OpensWith o.schema s db

  given : Given
  given = by (In-from_map (λ p. p.0) s o.shards there)
    where
      by : (p : ShardRecord × Database) × In p o.shards × (p.0 ≡ s) → Given
      by w =
          let same : w.0 ≡ (s, w.0.1) = ap (λ t. (t, w.0.1)) w.2 in
          record {
            db = w.0.1;
            is = subst (λ (p : ShardRecord × Database). In p o.shards) same w.1;
            with' = subst (λ t. OpensWith o.schema t w.0.1) w.2 (In-all (λ p. OpensWith o.schema p.0 p.1) w.0 o.shards opens.each w.1);
          }

  -- a list of rows for each table
  pub tables_held : (run : Run) → length (shard_rows o run s) ≡ length o.schema.tables
  tables_held run =
      length-all_applied (log s.slot run) (first_rows o s) ∙ ap length (first_rows_are o opens s given.db given.is)
      ∙ long o.schema.tables given.db given.with'.rows

  pub opening_slot : is_opening o s.slot ≡ true
  opening_slot = opening-is s o.shards there

  module _ (run : Run) (legal : IsLegal (MayFollow o) run) where
    pub on_its_slot : IsOnItsSlot o run s
    on_its_slot = record {
      slot = given.with'.slot;
      range = given.with'.range;
      same = all-from_In (λ (e : Entry). e.shard.slot ≡ s.slot → e.shard ≡ s) run
          (λ e h is. (slots o opens run (legal_is o run legal)).unique e.shard s (inr (In-map (λ (e : Entry). e.shard) e run h)) (inl there) is);
      opening = λ _. opening;
      target = λ no. absurd (false≢true (sym no ∙ opening_slot));
    }

-- ---- any shard that stands on its slot

-- entries on other slots don't matter
pub stands-same : (o : Opening) (old new : Run) (s : ShardRecord) → entries_on s.slot new ≡ entries_on s.slot old → IsOnItsSlot o old s → IsOnItsSlot o new s
stands-same o old new s same is = record {
  slot = is.slot;
  range = is.range;
  same = all-from_In (λ (e : Entry). e.shard.slot ≡ s.slot → e.shard ≡ s) new (λ e h at.
      let there : In e (entries_on s.slot old) = subst (In e) same (In-filter (is_on s.slot) e (eq-eqb e.shard.slot s.slot at) new h) in
      In-all (λ (e : Entry). e.shard.slot ≡ s.slot → e.shard ≡ s) e old is.same (In-from_filter (is_on s.slot) e old there).0 at);
  opening = is.opening;
  target = is.target;
}

-- one more entry of the shard's own
pub stands-next : (o : Opening) (run : Run) (s : ShardRecord) (ev : Event) → IsOnItsSlot o run s → IsOnItsSlot o (run ++ record { shard = s; event = ev } ∷ []) s
stands-next o run s ev is = record {
  slot = is.slot;
  range = is.range;
  same = AllByRecursion-push (λ (e : Entry). e.shard.slot ≡ s.slot → e.shard ≡ s) run (record { shard = s; event = ev }) is.same (λ at. refl);
  opening = is.opening;
  target = is.target;
}

not_following : (m : Mode) → answers_queries m ≡ true → m ≡ Following → ⊥
not_following m serves is = false≢true (sym (ap answers_queries is) ∙ serves)

module _ (o : Opening) (opens : IsOpening o) (run : Run) (s : ShardRecord) (stands : IsOnItsSlot o run s) (serves : answers_queries (mode o run s.slot) ≡ true) where
  pub lives : Live o run s
  lives = record {
    of_run = is_of o (distinct o opens) run s stands (known o opens run s stands) (not_following (mode o run s.slot) serves);
    answers = serves;
  }

  -- it is a shard of the run
  pub of_run : IsShardOf o run s
  of_run = by lives.of_run
    where
      by : Of o run s → IsShardOf o run s
      by (inl h) = inl (Contains-from_In s (opening_shards o) h)
      by (inr h) = inr (Contains-from_In s (map (λ (e : Entry). e.shard) run) h)

  pub serves_now : Serves o run s
  serves_now = record { of_run = of_run; answers = serves }

  -- it holds the one database's rows of its place
  pub part_held : IsLegal (MayFollow o) run → SameRows (shard_rows o run s) (restrict o.schema s.place (database o run))
  part_held legal = holds_its_part o opens run (legal_is o run legal) s lives
