-- The steps that a state keeps tell how far it has come with each source.
use Rattle.std.proofs.Common.{◌≡◌, ℕ, zero, suc, ◌+◌, ◌≤◌, length, take, arith, Bool, true, false, ◌&&◌, ◌||◌, ◌==◌, List, [], ◌∷◌, ◌++◌, Option, Some, None, refl, sym, ap, ◌∙◌, flat_map, inl, inr}
use Rattle.std.specs.Prelude.{if◌then◌else◌}
use Rattle.std.specs.List.{list_any}
use Rattle.shard_law.specs.Event.{Event}
use Rattle.shard_law.specs.Event.TheVariants.{Commit, Follow, Copy, Freeze, Thaw, Retire, Serve}
use Rattle.shard_law.specs.Entry.{Entry}
use Rattle.shard_law.specs.Mode.TheVariants.{Retired}
use Rattle.shard_law.specs.ShardRunRuns.{Run, Opening, mode, is_on, entries_on}
use Rattle.shard_law.specs.Copies.{position, position_from, has_copied_all, is_copy_that, is_last}
use Rattle.shard_law.proofs.Lists.{flat_map-push}
use Rattle.shard_contents.specs.declared.target_steps.TargetStep.{TargetStep}
use Rattle.shard_contents.specs.declared.target_steps.TargetStep.TheVariants.{Followed, Copied}
use Rattle.shard_law.specs.declared.limits.Limits.{Limits}
use Rattle.shard_contents.specs.declared.contents.Contents.{Contents}
use Rattle.shard_law.specs.Entries.{ShardView}
use Rattle.shard_contents.specs.Shards.{Holds, Keeps, state_view}
use Rattle.shard_contents.specs.inner.Shards.{is_plain}
use Rattle.shard_contents.specs.Progress.{steps_of, steps_on, step_position}
use Rattle.shard_contents.specs.inner.Progress.{source_of}
use Rattle.shard_contents.specs.Kept.{is_copy_from, kept_from}
use Rattle.shard_contents.proofs.Kept.{walked, Settles, walk_told, same_source, no_copy}
use Rattle.shard_contents.proofs.Positions.{any_both}
use Rattle.shard_contents.proofs.States.{entries-on, holds_of}

pub steps-push : (run : Run) (e : Entry) (slot : ℕ) → is_on slot e ≡ true → steps_on slot (run ++ e ∷ []) ≡ steps_on slot run ++ steps_of e.event
steps-push run e slot on =
    ap (flat_map (λ (x : Entry). steps_of x.event)) (entries-on run e slot on)
    ∙ flat_map-push (λ (x : Entry). steps_of x.event) (entries_on slot run) e

-- an entry that changes a mode at most is no step
pub no_steps : (ev : Event) → is_plain ev ≡ true → steps_of ev ≡ []
no_steps (Commit c) plain = absurd (cc plain)
no_steps (Follow f) plain = absurd (cc plain)
no_steps (Copy c) plain = absurd (cc plain)
no_steps Freeze plain = refl
no_steps Thaw plain = refl
no_steps (Retire targets) plain = refl
no_steps Serve plain = refl

-- ---- the position

-- after the last of these steps that is with the source
abbrev pub after_last : ℕ → Option ℕ → List TargetStep → Option ℕ
after_last source p [] = p
after_last source p (step ∷ steps) = after_last source (if source_of step == source then Some (step_position step) else p) steps

after_last-run : (source : ℕ) (p : Option ℕ) (run : Run) → position_from source p run ≡ after_last source p (flat_map (λ (e : Entry). steps_of e.event) run)
after_last-run source p [] = refl
after_last-run source p (e ∷ run) = by e.event (λ q. after_last-run source q run)
  where
    by : (ev : Event) → ((q : Option ℕ) → position_from source q run ≡ after_last source q (flat_map (λ (x : Entry). steps_of x.event) run))
        → position_from source p (record e { event = ev } ∷ run)
        ≡ after_last source p (flat_map (λ (x : Entry). steps_of x.event) (record e { event = ev } ∷ run))
    by (Commit c) rest = rest p
    by (Follow f) rest = rest (if f.source == source then Some (f.log_position + 1) else p)
    by (Copy c) rest = rest (if c.source == source then Some c.log_position else p)
    by Freeze rest = rest p
    by Thaw rest = rest p
    by (Retire targets) rest = rest p
    by Serve rest = rest p

pub position_is : (run : Run) (slot source : ℕ) → position run slot source ≡ after_last source None (steps_on slot run)
position_is run slot source = after_last-run source None (entries_on slot run)

-- ---- tables that are wholly copied

-- the step has all that was left of the table from the source
abbrev pub is_last_copy_of : ℕ → ℕ → TargetStep → Bool
is_last_copy_of source table (Followed from place) = false
is_last_copy_of source table (Copied from of place last row) = ((from == source) && (of == table)) && last

copied_run : (source table : ℕ) (run : Run)
    → list_any (λ (e : Entry). is_copy_that is_last source table e.event) run
    ≡ list_any (is_last_copy_of source table) (flat_map (λ (e : Entry). steps_of e.event) run)
copied_run source table [] = refl
copied_run source table (e ∷ run) = by e.event (copied_run source table run)
  where
    by : (ev : Event)
        → list_any (λ (x : Entry). is_copy_that is_last source table x.event) run
        ≡ list_any (is_last_copy_of source table) (flat_map (λ (x : Entry). steps_of x.event) run)
        → list_any (λ (x : Entry). is_copy_that is_last source table x.event) (record e { event = ev } ∷ run)
        ≡ list_any (is_last_copy_of source table) (flat_map (λ (x : Entry). steps_of x.event) (record e { event = ev } ∷ run))
    by (Commit c) rest = rest
    by (Follow f) rest = rest
    by (Copy c) rest = ap (λ b. (((c.source == source) && (c.table == table)) && is_last c) || b) rest
    by Freeze rest = rest
    by Thaw rest = rest
    by (Retire targets) rest = rest
    by Serve rest = rest

pub copied_is : (run : Run) (slot source table : ℕ) → has_copied_all run slot source table ≡ list_any (is_last_copy_of source table) (steps_on slot run)
copied_is run slot source table =
    any_both (is_on slot) (λ (e : Entry). is_copy_that is_last source table e.event) run ∙ copied_run source table (entries_on slot run)

pub after_last-push : (source : ℕ) (p : Option ℕ) (steps : List TargetStep) (x : TargetStep)
    → after_last source p (steps ++ x ∷ []) ≡ (if source_of x == source then Some (step_position x) else after_last source p steps)
after_last-push source p [] x = refl
after_last-push source p (y ∷ steps) x = after_last-push source (if source_of y == source then Some (step_position y) else p) steps x

abbrev after_walk : ℕ → Option ℕ → TargetStep → Option ℕ
after_walk source p x = if source_of x == source then Some (step_position x) else p

after_walked : (source : ℕ) (p : Option ℕ) (steps : List TargetStep) → walked (after_walk source) p steps ≡ after_last source p steps
after_walked source p [] = refl
after_walked source p (x ∷ steps) = after_walked source (if source_of x == source then Some (step_position x) else p) steps

after_settles : (source : ℕ) (x : TargetStep) → Settles (after_walk source) x
after_settles source x = by (source_of x == source) refl
  where
    by : (b : Bool) → (source_of x == source) ≡ b → Settles (after_walk source) x
    by true i = inl (λ p q. ap (λ b. if b then Some (step_position x) else p) i ∙ sym (ap (λ b. if b then Some (step_position x) else q) i))
    by false i = inr (λ y is p. ap (λ b. if b then Some (step_position y) else p) (ap (λ m. m == source) (sym (same_source x y is)) ∙ i))

-- the steps that are kept tell the same position
after_kept : (source : ℕ) (steps : List TargetStep) → after_last source None (kept_from [] steps) ≡ after_last source None steps
after_kept source steps =
    sym (after_walked source None (kept_from [] steps)) ∙ walk_told (after_walk source) (after_settles source) None steps ∙ after_walked source None steps

-- ---- the last Copy

-- the last of these steps that is a Copy from the source
abbrev pub last_copy : ℕ → Option TargetStep → List TargetStep → Option TargetStep
last_copy source old [] = old
last_copy source old (x ∷ steps) = last_copy source (if is_copy_from source x then Some x else old) steps

pub last_copy-push : (source : ℕ) (old : Option TargetStep) (steps : List TargetStep) (x : TargetStep)
    → last_copy source old (steps ++ x ∷ []) ≡ (if is_copy_from source x then Some x else last_copy source old steps)
last_copy-push source old [] x = refl
last_copy-push source old (y ∷ steps) x = last_copy-push source (if is_copy_from source y then Some y else old) steps x

abbrev copy_walk : ℕ → Option TargetStep → TargetStep → Option TargetStep
copy_walk source old x = if is_copy_from source x then Some x else old

copy_walked : (source : ℕ) (old : Option TargetStep) (steps : List TargetStep) → walked (copy_walk source) old steps ≡ last_copy source old steps
copy_walked source old [] = refl
copy_walked source old (x ∷ steps) = copy_walked source (if is_copy_from source x then Some x else old) steps

copy_settles : (source : ℕ) (x : TargetStep) → Settles (copy_walk source) x
copy_settles source x = by (is_copy_from source x) refl
  where
    by : (b : Bool) → is_copy_from source x ≡ b → Settles (copy_walk source) x
    by true i = inl (λ p q. ap (λ b. if b then Some x else p) i ∙ sym (ap (λ b. if b then Some x else q) i))
    by false i = inr (λ y is old. ap (λ b. if b then Some y else old) (no_copy source x y i is))

-- the steps that are kept have the same
copy_kept : (source : ℕ) (steps : List TargetStep) → last_copy source None (kept_from [] steps) ≡ last_copy source None steps
copy_kept source steps =
    sym (copy_walked source None (kept_from [] steps)) ∙ walk_told (copy_walk source) (copy_settles source) None steps ∙ copy_walked source None steps

-- ---- what a state tells

module _ (o : Opening) (most : Limits) (seen : Run) (c : Contents) (v : ShardView) (keeps : Keeps o most seen c) (view : state_view seen c ≡ v)
    (lives : mode o v.seen v.shard.slot ≡ Retired → ⊥) where
  has : Holds o most seen c
  has = holds_of o most seen c keeps (λ retired. lives (ap (λ (x : ShardView). mode o x.seen x.shard.slot) (sym view) ∙ retired))

  pub position_told : (source : ℕ) → position v.seen v.shard.slot source ≡ after_last source None c.steps.items
  position_told source =
      ap (λ (x : ShardView). position x.seen x.shard.slot source) (sym view) ∙ position_is seen c.shard.slot source
      ∙ sym (after_kept source (steps_on c.shard.slot seen)) ∙ ap (after_last source None) (sym has.steps)

  pub copy_told : (source : ℕ) → last_copy source None (steps_on v.shard.slot v.seen) ≡ last_copy source None c.steps.items
  copy_told source =
      ap (λ (x : ShardView). last_copy source None (steps_on x.shard.slot x.seen)) (sym view) ∙ sym (copy_kept source (steps_on c.shard.slot seen))
      ∙ ap (last_copy source None) (sym has.steps)

pub take_whole : {X : Type 0} (n : ℕ) (xs : List X) → length xs ≤ n → take n xs ≡ xs
take_whole zero [] l = refl
take_whole zero (x ∷ xs) l = absurd (omega (arith, l))
take_whole (suc n) [] l = refl
take_whole (suc n) (x ∷ xs) l = ap (λ ys. x ∷ ys) (take_whole n xs (omega (arith, l)))
