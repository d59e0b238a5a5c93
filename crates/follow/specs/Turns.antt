-- Where a pass looks, and what is done one after the other.
use Rattle.std.specs.Prelude.{◌≡◌, ℕ, List, [], ◌∷◌, ◌++◌, map, length}
use mathlib.Core.List.{IsPrefix}
use Rattle.journal.specs.Views.{PassView}
use Rattle.shard_run.specs.declared.ShardRecord.{ShardRecord}
use Rattle.shard_run.specs.declared.Entry.{Entry}
use Rattle.follow.specs.declared.steps.Step.{Step}
use Rattle.follow.specs.declared.steps.Step.TheVariants.{Level}

-- the pass looked at the shards on these slots, in this order, and at no other
abbrev pub HasLookedAt : List ℕ → PassView Entry → PassView Entry → Type 0
HasLookedAt slots p now = map (λ l. l.0) now.looks ≡ map (λ l. l.0) p.looks ++ slots

-- the last that a pass did was a look, which saw all that it has seen: nothing was appended after it
pub record EndsInLook (now : PassView Entry) : Type 0 where
  pub slot : ℕ
  pub before : List (ℕ × ℕ)
  pub last : now.looks ≡ before ++ (slot, length now.seen) ∷ []

-- the pass looked at the shards on the first of these slots, as far as it came, and at no other, and nothing was appended after the last look
pub record IsCutShort (slots : List ℕ) (p now : PassView Entry) : Type 0 where
  pub first : List ℕ
  pub part : IsPrefix first slots
  pub looked : HasLookedAt first p now
  pub ends : EndsInLook now

-- each Copy and each Follow comes right after a look of its own at the target
abbrev pub looks_of : ℕ → Step → List ℕ
looks_of target Level = []
looks_of target _ = target ∷ []

-- The looks of one step of a target with a source: one at the target, one at the source, and one more at the target for an entry. If there
-- is none, nothing was appended after the last look. No two in a row are at one shard, as they are before each change of a shard's mode
-- (HasChangedMode), so there is none of these.
pub record IsOneStep (source target : ShardRecord) (p now : PassView Entry) (step : Step) : Type 0 where
  pub looked : HasLookedAt (target.slot ∷ source.slot ∷ looks_of target.slot step) p now
  pub still : step ≡ Level → EndsInLook now

-- The looks of a step of a target with a source that is refused: the first of those of a step with an entry, and nothing was appended after
-- the last.
abbrev pub IsNoStep : ShardRecord → ShardRecord → PassView Entry → PassView Entry → Type 0
IsNoStep source target p now = IsCutShort (target.slot ∷ source.slot ∷ target.slot ∷ []) p now

module _ {X : Type 0} where
  -- each of these does its part, one after the other
  pub data EachInTurn (Part : X → PassView Entry → PassView Entry → Type 0) : List X → PassView Entry → PassView Entry → Type 0 where
    none : {p : PassView Entry} → EachInTurn Part [] p p
    next : {before : List X} {x : X} {p q now : PassView Entry} → EachInTurn Part before p q → Part x q now → EachInTurn Part (before ++ x ∷ []) p now

  -- one after the other is level, until one moves
  pub data FirstInTurn (Part : X → PassView Entry → PassView Entry → Step → Type 0) (xs : List X) (p now : PassView Entry) : Step → Type 0 where
    one : {step : Step} (before after : List X) (x : X) (q : PassView Entry) → xs ≡ before ++ x ∷ after
        → EachInTurn (λ x p q. Part x p q Level) before p q → Part x q now step → FirstInTurn Part xs p now step
    all_level : EachInTurn (λ x p q. Part x p q Level) xs p now → FirstInTurn Part xs p now Level

  -- one after the other is level, until one is refused
  pub record RefusedInTurn (Part : X → PassView Entry → PassView Entry → Step → Type 0) (No : X → PassView Entry → PassView Entry → Type 0)
      (xs : List X) (p now : PassView Entry) : Type 0 where
    pub before : List X
    pub after : List X
    pub x : X
    pub among : xs ≡ before ++ x ∷ after
    pub levelled : PassView Entry
    pub level : EachInTurn (λ x p q. Part x p q Level) before p levelled
    pub refused : No x levelled now

-- one step of a target with the first of several sources that it isn't level with
abbrev pub IsOneStepWith : List ShardRecord → ShardRecord → PassView Entry → PassView Entry → Step → Type 0
IsOneStepWith sources target p now step = FirstInTurn (λ s. IsOneStep s target) sources p now step

-- a step of a target with several sources that is refused: with those before it was level, and the step with one of them is refused
abbrev pub IsNoStepWith : List ShardRecord → ShardRecord → PassView Entry → PassView Entry → Type 0
IsNoStepWith sources target p now = RefusedInTurn (λ s. IsOneStep s target) (λ s. IsNoStep s target) sources p now
