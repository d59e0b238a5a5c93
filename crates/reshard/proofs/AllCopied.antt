-- Targets copy all of their sources, one after the other.
use Rattle.std.proofs.Common.{◌≡◌, inl, inr, ◌<◌, ℕ, zero, suc, ◌+◌, ◌≤◌, List, [], ◌∷◌, ◌++◌, length, map, take, drop, get_or, refl, sym, ap, ◌∙◌, subst, arith, append_assoc, length-append}
use Rattle.std.specs.Prelude.{Contains}
use Rattle.std.specs.List.{AllByRecursion}
use Rattle.std.proofs.lemmas.List.{take_more, map-append, take-append-drop}
use Rattle.journal.specs.Views.{PassView}
use Rattle.shard_run.specs.declared.Entry.{Entry}
use Rattle.shard_run.specs.Runs.{Opening}
use Rattle.reshard_create.specs.Limits.{Limits}
use Rattle.reshard_create.specs.ReshardFault.{ReshardFault}
use Rattle.reshard_create.specs.FollowSteps.{IsOnward, HasMovedWith}
use Rattle.reshard_create.specs.Step.{Step}
use Rattle.reshard_create.specs.Step.TheVariants.{Followed, Level}
use Rattle.reshard_create.specs.Turns.{EachInTurn}
use Rattle.reshard_create.specs.Turns as turns
use Rattle.reshard_create.specs.TargetSources.{TargetWithSources}
use Rattle.reshard_create.specs.FirstMoves.{HasMovedFirst, IsMoveRefusal, IsOneStepFirst}
use Rattle.reshard_create.specs.FirstMoves as first_moves
use Rattle.reshard_create.proofs.Lists.{all-weaker}
use Rattle.reshard_create.proofs.Moving.{with_after, with_later}
use Rattle.reshard_create.proofs.Onward.{still, onward_trans}
use Rattle.reshard_create.proofs.Retiring.{all_map_next, map_at}
use Rattle.reshard.specs.Cutover.{HasFollowed, HasCopiedAllOf, HaveCome, HasMovedUntilRefused, HaveComeUntilRefused}
use Rattle.reshard.specs.Cutover as cut

-- the first of one target is this one
module _ (o : Opening) (t : TargetWithSources) (p now : PassView Entry) where
  only : (before after : List TargetWithSources) (x : TargetWithSources) (step : Step) → t ∷ [] ≡ before ++ x ∷ after → HasMovedWith o x.1 x.0 p now step
      → HasMovedWith o t.1 t.0 p now step
  only [] after x step is h = subst (λ (y : TargetWithSources). HasMovedWith o y.1 y.0 p now step) (sym (ap (λ (l : List TargetWithSources). get_or l 0 x) is)) h
  only (b ∷ before) after x step is h =
      let long = ap length is in
      let more = length-append before (x ∷ after) in
      absurd (omega (arith, long, more))

  pub level_one : (step : Step) → step ≡ Level → HasMovedFirst o (t ∷ []) p now step → HasMovedWith o t.1 t.0 p now Level
  level_one step at (first_moves.one before after x is all moved) =
      subst (HasMovedWith o t.1 t.0 p now) at (only before after x step is moved)
  level_one step at (first_moves.all_level all) = all.0

pub refused_one : (o : Opening) (most : Limits) (targets : List TargetWithSources) (t : TargetWithSources) (now : PassView Entry) (e : ReshardFault) → Contains targets t
    → IsMoveRefusal o most (t ∷ []) now e → IsMoveRefusal o most targets now e
refused_one o most targets t now _ there first_moves.no_memory = first_moves.no_memory
refused_one o most targets t now _ there (first_moves.full x (zero, within, is) full) =
    first_moves.full x (subst (Contains targets) is there) full
refused_one o most targets t now _ there (first_moves.full x (suc n, within, is) full) = absurd (omega (arith, within))

-- how many entries the target followed one after the other, and how many it may follow yet before it is outrun
pub record IsCounted (o : Opening) (t : TargetWithSources) (p now : PassView Entry) (left : ℕ) : Type 0 where
  pub first : PassView Entry
  pub since : IsOnward o p first
  pub count : ℕ
  pub enough : 65536 ≤ count + left
  pub followed : HasFollowed o (t ∷ []) first count now

module _ (o : Opening) (t : TargetWithSources) (p : PassView Entry) where
  pub counted_none : (now : PassView Entry) (left : ℕ) → IsOnward o p now → 65536 ≤ left → IsCounted o t p now left
  counted_none now left on enough = record { first = now; since = on; count = 0; enough = omega (arith, enough); followed = cut.unfollowed }

  pub counted_more : (q now : PassView Entry) (left rest : ℕ) → IsCounted o t p q left → left ≤ rest + 1 → (step : Step) → step ≡ Followed
      → HasMovedFirst o (t ∷ []) q now step → IsOneStepFirst (t ∷ []) q now step → IsCounted o t p now rest
  counted_more q now left rest is less step at moved once =
      let a = is.enough in
      record {
        first = is.first;
        since = is.since;
        count = is.count + 1;
        enough = omega (arith, a, less);
        followed =
            cut.followed_one is.followed (subst (HasMovedFirst o (t ∷ []) q now) at moved) (subst (IsOneStepFirst (t ∷ []) q now) at once);
      }

  pub outrun : (q now : PassView Entry) (left : ℕ) → IsCounted o t p q left → left ≤ 1 → IsOnward o q now → (step : Step) → step ≡ Followed
      → HasMovedFirst o (t ∷ []) q now step → IsOneStepFirst (t ∷ []) q now step → HasCopiedAllOf o p now t
  outrun q now left is last on step at moved once =
      let w = counted_more q now left 0 is last step at moved once in
      let a = w.enough in
      inr (record {
        first = w.first;
        since = w.since;
        count = w.count;
        many = omega (arith, a);
        last = now;
        followed = w.followed;
        later = still o now on.legal;
      })

-- what a target has copied it has copied in what the pass sees before and later
module _ (o : Opening) (t : TargetWithSources) (p q now : PassView Entry) where
  pub all_of_after : IsOnward o p q → HasCopiedAllOf o q now t → HasCopiedAllOf o p now t
  all_of_after on (inl level) = inl (with_after o t.1 t.0 p q now on Level level)
  all_of_after on (inr is) =
      inr (record {
        first = is.first;
        since = onward_trans o p q is.first on is.since;
        count = is.count;
        many = is.many;
        last = is.last;
        followed = is.followed;
        later = is.later;
      })

  pub all_of_later : IsOnward o q now → HasCopiedAllOf o p q t → HasCopiedAllOf o p now t
  all_of_later on (inl level) = inl (with_later o t.1 t.0 p q now on level)
  all_of_later on (inr is) =
      inr (record {
        first = is.first;
        since = is.since;
        count = is.count;
        many = is.many;
        last = is.last;
        followed = is.followed;
        later = onward_trans o is.last q now is.later on;
      })

-- one target more
module _ {T : Type 0} (f : T → TargetWithSources) (targets : List T) (n : ℕ) (t : T) (there : n < length targets) (is : t ≡ get_or targets n t) where
  pub among : Contains (map f targets) (f t)
  among = let w = map_at f targets n t there is in (n, w.0, sym w.1)

  pub copied_next : (o : Opening) (p q now : PassView Entry) → IsOnward o p q → IsOnward o q now → HasCopiedAllOf o q now (f t)
      → AllByRecursion (HasCopiedAllOf o p q) (map f (take n targets)) → AllByRecursion (HasCopiedAllOf o p now) (map f (take (n + 1) targets))
  copied_next o p q now before on one so_far =
      all_map_next (HasCopiedAllOf o p now) f targets n t there is
      (all-weaker (HasCopiedAllOf o p q) (HasCopiedAllOf o p now) (λ t h. all_of_later o t p q now on h) (map f (take n targets)) so_far)
      (all_of_after o (f t) p q now before one)

  pub turn_next : (Part : TargetWithSources → PassView Entry → PassView Entry → Type 0) (p q now : PassView Entry) → EachInTurn Part (map f (take n targets)) p q
      → Part (f t) q now → EachInTurn Part (map f (take (n + 1) targets)) p now
  turn_next Part p q now before part =
      let more = take_more targets n t there ∙ ap (λ x. take n targets ++ x ∷ []) (sym is) in
      subst (λ (l : List T). EachInTurn Part (map f l) p now) (sym more)
      (subst (λ (l : List TargetWithSources). EachInTurn Part l p now) (sym (map-append f (take n targets) (t ∷ []))) (turns.next before part))

  split : targets ≡ take n targets ++ t ∷ drop (n + 1) targets
  split =
      let more = take_more targets n t there ∙ ap (λ x. take n targets ++ x ∷ []) (sym is) in
      sym (take-append-drop (n + 1) targets) ∙ ap (λ (l : List T). l ++ drop (n + 1) targets) more
      ∙ append_assoc (take n targets) (t ∷ []) (drop (n + 1) targets)

  -- it is refused a step in its turn
  pub come_until : (p q now : PassView Entry) → HaveCome (map f (take n targets)) p q → HasMovedUntilRefused (f t ∷ []) q now
      → HaveComeUntilRefused (map f targets) p now
  come_until p q now before last =
      cut.coming (map f (take n targets)) (map f (drop (n + 1) targets)) (f t) q
      (ap (map f) split ∙ map-append f (take n targets) (t ∷ drop (n + 1) targets)) before last

pub all_of : {T : Type 0} (targets : List T) (n : ℕ) → length targets ≤ n → take n targets ≡ targets
all_of [] zero far = refl
all_of [] (suc n) far = refl
all_of (t ∷ targets) zero far = absurd (omega (arith, far))
all_of (t ∷ targets) (suc n) far = ap (λ l. t ∷ l) (all_of targets n (omega (arith, far)))
