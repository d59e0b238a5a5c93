-- A shard that doesn't follow is one of the run, and never follows again.
use Rattle.std.proofs.Common.{◌≡◌, ◌⊎◌, ℕ, Bool, true, false, cond, [], ◌∷◌, ◌++◌, map, refl, sym, ap, subst, ◌∙◌, inl, inr}
use Rattle.std.specs.Prelude.{Contains}
use Rattle.std.proofs.lemmas.Bool.{eqb-true}
use Rattle.std.proofs.lemmas.List.{append-nil, append_assoc}
use mathlib.Core.List.{IsPrefix}
use Rattle.shard_run.specs.declared.ShardRecord.{ShardRecord}
use Rattle.shard_run.specs.declared.Entry.{Entry}
use Rattle.shard_run.specs.declared.Mode.{Mode}
use Rattle.shard_run.specs.declared.Mode.TheVariants.{Following, Serving, Retired, Dropped}
use Rattle.shard_run.specs.Runs.{Run, Opening, IsShardOf, is_opening, is_on, entries_on, mode, mode_from}
use Rattle.shard_contents.specs.Legal.{IsOnItsSlot}
use Rattle.shard_contents.specs.Entries.{ShardView}
use Rattle.shard_contents.proofs.Lists.{In, Contains-from_In, In-all, In-from_filter, In-map}
use Rattle.shard_contents.proofs.Since.{not_again}

-- on a slot that isn't an opening one the shard has an entry
entered : (o : Opening) (run : Run) (s : ShardRecord) → IsOnItsSlot o run s → (mode o run s.slot ≡ Following → ⊥) → is_opening o s.slot ≡ false → (own : Run)
    → entries_on s.slot run ≡ own → Contains (map (λ e. e.shard) run) s
entered o run s stands lives closed [] none =
    absurd (lives (ap (λ b. mode_from (cond b Serving Following) (entries_on s.slot run)) closed ∙ ap (mode_from Following) none))
entered o run s stands lives closed (x ∷ own) is =
    let w = In-from_filter (is_on s.slot) x run (subst (In x) (sym is) (inl refl)) in
    let same : x.shard ≡ s = In-all (λ (y : Entry). y.shard.slot ≡ s.slot → y.shard ≡ s) x run stands.same w.0 (eqb-true x.shard.slot s.slot w.1) in
    Contains-from_In s (map (λ (y : Entry). y.shard) run)
    (subst (λ (y : ShardRecord). In y (map (λ (y : Entry). y.shard) run)) same (In-map (λ (y : Entry). y.shard) x run w.0))

pub of_run : (o : Opening) (run : Run) (s : ShardRecord) → IsOnItsSlot o run s → (mode o run s.slot ≡ Following → ⊥) → IsShardOf o run s
of_run o run s stands lives = by (is_opening o s.slot) refl
  where
    by : (b : Bool) → is_opening o s.slot ≡ b → IsShardOf o run s
    by true e = inl (stands.opening e)
    by false e = inr (entered o run s stands lives e (entries_on s.slot run) refl)

pub past_later : (o : Opening) (slot : ℕ) (old new : Run) → IsPrefix old new → (mode o old slot ≡ Following → ⊥) → mode o new slot ≡ Following → ⊥
past_later o slot old new (back, is) past = subst (λ (r : Run). mode o r slot ≡ Following → ⊥) is (by back old past)
  where
    by : (back front : Run) → (mode o front slot ≡ Following → ⊥) → mode o (front ++ back) slot ≡ Following → ⊥
    by [] front past = subst (λ (r : Run). mode o r slot ≡ Following → ⊥) (sym (append-nil front)) past
    by (e ∷ back) front past =
        subst (λ (r : Run). mode o r slot ≡ Following → ⊥) (append_assoc front (e ∷ []) back) (by back (front ++ e ∷ []) (not_again o slot front e past))

-- the mode that a state shows, by which it doesn't follow
pub shown : (m r : Mode) → (r ≡ m) ⊎ ((r ≡ Dropped) × (m ≡ Retired)) → (r ≡ Following → ⊥) → m ≡ Following → ⊥
shown m r (inl e) not is = not (e ∙ is)
shown m r (inr h) not is = absurd (cc (h.1, is))

-- what a state was at before is at later, as its pass tells
pub found_past : (o : Opening) (old v : ShardView) → old ≡ v → (mode o v.seen v.shard.slot ≡ Following → ⊥) → (slot : ℕ) → v.shard.slot ≡ slot → (now run : Run)
    → IsPrefix old.seen now → now ≡ run → mode o run slot ≡ Following → ⊥
found_past o old v same past slot at now run later seen =
    let there : IsPrefix v.seen run =
    subst (λ (x : ShardView). IsPrefix x.seen run) same (subst (IsPrefix old.seen) seen later) in
    past_later o slot v.seen run there (subst (λ (n : ℕ). mode o v.seen n ≡ Following → ⊥) at past)
