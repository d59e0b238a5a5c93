-- A target that serves has an entry that says so.
use Rattle.std.proofs.Common.{◌≡◌, ◌⊎◌, ℕ, Bool, true, false, cond, [], ◌∷◌, ◌++◌, map, refl, sym, ap, ◌∙◌, subst, inl, inr, append_assoc}
use Rattle.std.specs.Prelude.{Contains}
use Rattle.std.proofs.lemmas.Bool.{eqb-true}
use Rattle.std.proofs.lemmas.List.{append-nil}
use Rattle.shard_run.specs.declared.ShardRecord.{ShardRecord}
use Rattle.shard_run.specs.declared.Mode.TheVariants.{Following, Serving, Frozen}
use Rattle.shard_run.specs.declared.Event.{Event}
use Rattle.shard_run.specs.declared.Event.TheVariants.{Commit, Follow, Copy, Freeze, Thaw, Retire, Serve}
use Rattle.shard_run.specs.declared.Entry.{Entry}
use Rattle.shard_run.specs.Runs.{Run, Opening, mode, mode_after, is_on, is_opening}
use Rattle.shard_contents.specs.Legal.{Legal, LegalFrom, May, IsOnItsSlot}
use Rattle.shard_run.specs.Openings.{IsOpening, OpensWith}
use Rattle.shard_contents.proofs.Lists.{In, In-from_Contains, Contains-from_In, In-from_map, In-all, In-left, In-last}
use Rattle.shard_contents.proofs.Runs.{mode-on, mode-off}
use Rattle.reshard_cutover.specs.Steps.{HasEntry}

-- an entry by which the shard on the slot serves
record Served (run : Run) (slot : ℕ) : Type 0 where
  entry : Entry
  there : In entry run
  on : entry.shard.slot ≡ slot
  event : entry.event ≡ Serve

module _ (o : Opening) where
  abbrev Known : Run → Type 0
  Known run = (slot : ℕ) → is_opening o slot ≡ false → (mode o run slot ≡ Following → ⊥) → Served run slot

  prior : (run : Run) (s : ShardRecord) (ev : Event) → May o run s ev → (mode_after (mode o run s.slot) ev ≡ Following → ⊥)
      → (ev ≡ Serve) ⊎ (mode o run s.slot ≡ Following → ⊥)
  prior run s (Commit c) m n = inr (λ f. let e : Serving ≡ Following = sym m.serving ∙ f in absurd (cc e))
  prior run s (Follow f) m n = absurd (n m.following)
  prior run s (Copy c) m n = absurd (n m.following)
  prior run s Freeze m n = inr (λ f. let e : Serving ≡ Following = sym m ∙ f in absurd (cc e))
  prior run s Thaw m n = inr (λ f. let e : Frozen ≡ Following = sym m ∙ f in absurd (cc e))
  prior run s (Retire targets) m n = inr (λ f. let e : Frozen ≡ Following = sym m.frozen ∙ f in absurd (cc e))
  prior run s Serve m n = inl refl

  later : (run : Run) (e : Entry) (slot : ℕ) → Served run slot → Served (run ++ e ∷ []) slot
  later run e slot is = record { entry = is.entry; there = In-left is.entry run (e ∷ []) is.there; on = is.on; event = is.event }

  next : (run : Run) (e : Entry) → May o run e.shard e.event → Known run → Known (run ++ e ∷ [])
  next run e may known slot other not = by (is_on slot e) refl
    where
      by : (b : Bool) → is_on slot e ≡ b → Served (run ++ e ∷ []) slot
      by false off = later run e slot (known slot other (λ f. not (mode-off o run e slot off ∙ f)))
      by true here =
          let at : e.shard.slot ≡ slot = eqb-true e.shard.slot slot here in
          let n : mode_after (mode o run e.shard.slot) e.event ≡ Following → ⊥ =
          λ f. not (mode-on o run e slot here ∙ ap (λ (k : ℕ). mode_after (mode o run k) e.event) (sym at) ∙ f) in
          cases at (prior run e.shard e.event may n)
        where
          cases : e.shard.slot ≡ slot → (e.event ≡ Serve) ⊎ (mode o run e.shard.slot ≡ Following → ⊥) → Served (run ++ e ∷ []) slot
          cases at (inl serve) = record { entry = e; there = In-last e run; on = at; event = serve }
          cases at (inr n) = later run e slot (known slot other (λ f. n (ap (mode o run) at ∙ f)))

  known_from : (run before : Run) → LegalFrom o before run → Known before → Known (before ++ run)
  known_from [] before legal known = subst Known (sym (append-nil before)) known
  known_from (e ∷ run) before legal known =
      subst Known (append_assoc before (e ∷ []) run) (known_from run (before ++ e ∷ []) legal.2 (next before e legal.1 known))

  first : Known []
  first slot other not = absurd (not (ap (λ b. cond b Serving Following) other))

  not_opening : IsOpening o → (run : Run) (s : ShardRecord) → IsOnItsSlot o run s → (s.sources ≡ [] → ⊥) → is_opening o s.slot ≡ false
  not_opening opens run s stands some = by (is_opening o s.slot) refl
    where
      by : (b : Bool) → is_opening o s.slot ≡ b → is_opening o s.slot ≡ false
      by false e = e
      by true e =
          let w = In-from_map (λ p. p.0) s o.shards (In-from_Contains s (map (λ p. p.0) o.shards) (stands.opening e)) in
          let is = In-all (λ p. OpensWith o.schema p.0 p.1) w.0 o.shards opens.each w.1 in
          absurd (some (ap (λ (x : ShardRecord). x.sources) (sym w.2) ∙ is.no_sources))

  pub has_served : IsOpening o → (run : Run) → Legal o run → (s : ShardRecord) → IsOnItsSlot o run s → (s.sources ≡ [] → ⊥) → mode o run s.slot ≡ Serving
      → HasEntry run s Serve
  has_served opens run legal s stands some serving =
      let is = known_from run [] legal first s.slot (not_opening opens run s stands some)
      (λ f. let e : Serving ≡ Following = sym serving ∙ f in absurd (cc e)) in
      let same : is.entry.shard ≡ s = In-all (λ e. e.shard.slot ≡ s.slot → e.shard ≡ s) is.entry run stands.same is.there is.on in
      let whole : is.entry ≡ record { shard = s; event = Serve } =
      ap (λ (x : ShardRecord). record { shard = x; event = is.entry.event }) same ∙ ap (λ (v : Event). record { shard = s; event = v }) is.event in
      subst (λ (x : Entry). Contains run x) whole (Contains-from_In is.entry run is.there)
