-- Where a pass has looked, piece by piece, and what is done one after the other.
use Rattle.std.proofs.Common.{◌≡◌, ◌⊎◌, inl, inr, ℕ, ◌+◌, ◌<◌, ◌≤◌, List, [], ◌∷◌, ◌++◌, length, map, take, drop, get_or, refl, sym, ap, ◌∙◌, subst, append_assoc}
use Rattle.std.proofs.lemmas.List.{append-nil, map-append, take_more}
use Rattle.journal.specs.Runs.{IsLegal}
use Rattle.journal.specs.Views.{PassView}
use Rattle.shard_run.specs.declared.ShardRecord.{ShardRecord}
use Rattle.shard_run.specs.declared.Entry.{Entry}
use Rattle.shard_run.specs.declared.Event.{Event}
use Rattle.shard_run.specs.Runs.{Run, Opening}
use Rattle.shard.specs.Entries.{ShardView, MayFollow, HasLooked, HasAppended}
use Rattle.shard.proofs.Progress.{take_whole}
use Rattle.follow.specs.declared.steps.Step.{Step}
use Rattle.follow.specs.declared.steps.Step.TheVariants.{Level}
use Rattle.follow.specs.Turns.{HasLookedAt, EndsInLook, IsOneStep, IsNoStep, EachInTurn, FirstInTurn, RefusedInTurn}
use Rattle.follow.specs.Turns as turns
use Rattle.follow.specs.declared.steps.NextEntry.{NextEntry}
use Rattle.follow.specs.inner.NextEntries.{IsOneLook, HasTaken}
use Rattle.follow.specs.inner.NextEntries as taken
use Rattle.follow.specs.Steps.{HasStepped}
use Rattle.follow.proofs.Onward.{still, has_looked, stepped}
use Rattle.follow.proofs.Moves.{split_at}

-- ---- looks

pub unlooked : (p now : PassView Entry) → now ≡ p → HasLookedAt [] p now
unlooked p now same = ap (λ (x : PassView Entry). map (λ l. l.0) x.looks) same ∙ sym (append-nil (map (λ l. l.0) p.looks))

pub looked_at : (p now : PassView Entry) (slot : ℕ) (run : Run) (n : ℕ) → now ≡ record p { seen = run; looks = p.looks ++ (slot, n) ∷ [] }
    → HasLookedAt (slot ∷ []) p now
looked_at p now slot run n is = ap (λ (x : PassView Entry). map (λ l. l.0) x.looks) is ∙ map-append (λ l. l.0) p.looks ((slot, n) ∷ [])

pub looked_then : (a b : List ℕ) (p q now : PassView Entry) → HasLookedAt a p q → HasLookedAt b q now → HasLookedAt (a ++ b) p now
looked_then a b p q now first then' =
    then' ∙ ap (λ (l : List ℕ). l ++ b) first ∙ append_assoc (map (λ l. l.0) p.looks) a b

pub appended_since : (p now : PassView Entry) (run : Run) → now ≡ record p { seen = run } → HasLookedAt [] p now
appended_since p now run is = ap (λ (x : PassView Entry). map (λ l. l.0) x.looks) is ∙ sym (append-nil (map (λ l. l.0) p.looks))

-- an entry after a look of its own
pub look_and_append : (o : Opening) (v : ShardView) (ev : Event) (here slot : ℕ) (p looked now : PassView Entry) → here ≡ slot → HasLooked o here p looked
    → HasAppended o v ev looked now → HasLookedAt (slot ∷ []) p now
look_and_append o v ev here slot p looked now same look append =
    subst (λ (n : ℕ). HasLookedAt (n ∷ []) p now) same
    (looked_then (here ∷ []) [] p looked now (looked_at p looked here looked.seen (length looked.seen) look.pass) (appended_since looked now now.seen append.pass))

-- the step of a shard by a look and an entry
pub took : (o : Opening) (v : ShardView) (ev : Event) (p now : PassView Entry) → IsLegal (MayFollow o) p.seen
    → (looked : PassView Entry) × HasLooked o v.shard.slot p looked × HasAppended o (record v { seen = looked.seen }) ev looked now
    → HasStepped o v.shard ev p now × HasLookedAt (v.shard.slot ∷ []) p now
took o v ev p now legal w =
    let s = v.shard in (
      stepped o p w.0 now (record v { seen = w.0.seen }) s ev (has_looked o p p w.0 s.slot (still o p legal) w.1) w.2 refl,
      look_and_append o (record v { seen = w.0.seen }) ev s.slot s.slot p w.0 now refl w.1 w.2,
    )

-- one look, and nothing after it
pub one_look : (p now : PassView Entry) (slot : ℕ) (run : Run) → now ≡ record p { seen = run; looks = p.looks ++ (slot, length run) ∷ [] } → IsOneLook slot p now
one_look p now slot run is =
    ap (λ (x : PassView Entry). x.looks) is ∙ ap (λ (r : Run). p.looks ++ (slot, length r) ∷ []) (sym (ap (λ (x : PassView Entry). x.seen) is))

-- at this shard
pub one_look_here : (p now : PassView Entry) (here slot : ℕ) (run : Run) → here ≡ slot → now ≡ record p { seen = run; looks = p.looks ++ (here, length run) ∷ [] }
    → IsOneLook slot p now
one_look_here p now here slot run same is = subst (λ (n : ℕ). IsOneLook n p now) same (one_look p now here run is)

pub looked_once : (o : Opening) (slot : ℕ) (p now : PassView Entry) → HasLooked o slot p now → IsOneLook slot p now
looked_once o slot p now is = one_look p now slot now.seen is.pass

at_look : (p now : PassView Entry) (slot : ℕ) → IsOneLook slot p now → HasLookedAt (slot ∷ []) p now
at_look p now slot is = ap (map (λ l. l.0)) is ∙ map-append (λ l. l.0) p.looks ((slot, length now.seen) ∷ [])

ends : (p now : PassView Entry) (slot : ℕ) → IsOneLook slot p now → EndsInLook now
ends p now slot is = record { slot = slot; before = p.looks; last = is }

-- ---- one step

module _ (source target : ShardRecord) (p q : PassView Entry) (first : IsOneLook target.slot p q) where
  both : (r : PassView Entry) → IsOneLook source.slot q r → HasLookedAt (target.slot ∷ source.slot ∷ []) p r
  both r second = looked_then (target.slot ∷ []) (source.slot ∷ []) p q r (at_look p q target.slot first) (at_look q r source.slot second)

  -- what was taken over after a look at each is one step
  pub one_step : (o : Opening) (r now : PassView Entry) (g : NextEntry) (s : Step) → IsOneLook source.slot q r → HasTaken o target g r now s
      → IsOneStep source target p now s
  one_step o r now _ _ second (taken.entry f same stepped at) = record {
    looked = looked_then (target.slot ∷ source.slot ∷ []) (target.slot ∷ []) p r now (both r second) at;
    still = λ e. absurd (cc e);
  }
  one_step o r now _ _ second (taken.rows stepped at) = record {
    looked = looked_then (target.slot ∷ source.slot ∷ []) (target.slot ∷ []) p r now (both r second) at;
    still = λ e. absurd (cc e);
  }
  one_step o r now _ _ second taken.nothing = record { looked = both r second; still = λ e. ends q r source.slot second }

  -- it was refused after the first look
  pub refused_first : IsNoStep source target p q
  refused_first = record {
    first = target.slot ∷ [];
    part = (source.slot ∷ target.slot ∷ [], refl);
    looked = at_look p q target.slot first;
    ends = ends p q target.slot first;
  }

  pub refused_second : (r : PassView Entry) → IsOneLook source.slot q r → IsNoStep source target p r
  refused_second r second = record {
    first = target.slot ∷ source.slot ∷ [];
    part = (target.slot ∷ [], refl);
    looked = both r second;
    ends = ends q r source.slot second;
  }

  pub refused_last : (r now : PassView Entry) → IsOneLook source.slot q r → (now ≡ r) ⊎ IsOneLook target.slot r now → IsNoStep source target p now
  refused_last r now second (inl same) = subst (IsNoStep source target p) (sym same) (refused_second r second)
  refused_last r now second (inr third) = record {
    first = target.slot ∷ source.slot ∷ target.slot ∷ [];
    part = ([], refl);
    looked = looked_then (target.slot ∷ source.slot ∷ []) (target.slot ∷ []) p r now (both r second) (at_look r now target.slot third);
    ends = ends r now target.slot third;
  }

-- ---- turns

module _ {T X : Type 0} (f : T → X) (xs : List T) (i : ℕ) (t : T) (there : i < length xs) (is : t ≡ get_or xs i t) where
  pub one_more_turn : (Part : X → PassView Entry → PassView Entry → Type 0) (p q now : PassView Entry) → EachInTurn Part (map f (take i xs)) p q → Part (f t) q now
      → EachInTurn Part (map f (take (i + 1) xs)) p now
  one_more_turn Part p q now before part =
      let more = take_more xs i t there ∙ ap (λ x. take i xs ++ x ∷ []) (sym is) in
      subst (λ (l : List T). EachInTurn Part (map f l) p now) (sym more)
      (subst (λ (l : List X). EachInTurn Part l p now) (sym (map-append f (take i xs) (t ∷ []))) (turns.next before part))

  pub moves_in_turn : (Part : X → PassView Entry → PassView Entry → Step → Type 0) (p q now : PassView Entry) (step : Step)
      → EachInTurn (λ x p q. Part x p q Level) (map f (take i xs)) p q → Part (f t) q now step → FirstInTurn Part (map f xs) p now step
  moves_in_turn Part p q now step before part =
      turns.one (map f (take i xs)) (map f (drop (i + 1) xs)) (f t) q
      (ap (map f) (split_at xs i t there is) ∙ map-append f (take i xs) (t ∷ drop (i + 1) xs)) before part

  pub refused_in_turn : (Part : X → PassView Entry → PassView Entry → Step → Type 0) (No : X → PassView Entry → PassView Entry → Type 0) (p q now : PassView Entry)
      → EachInTurn (λ x p q. Part x p q Level) (map f (take i xs)) p q → No (f t) q now → RefusedInTurn Part No (map f xs) p now
  refused_in_turn Part No p q now before refused = record {
    before = map f (take i xs);
    after = map f (drop (i + 1) xs);
    x = f t;
    among = ap (map f) (split_at xs i t there is) ∙ map-append f (take i xs) (t ∷ drop (i + 1) xs);
    levelled = q;
    level = before;
    refused = refused;
  }

pub all_took_turns : {T X : Type 0} (f : T → X) (xs : List T) (i : ℕ) → length xs ≤ i → (Part : X → PassView Entry → PassView Entry → Type 0) (p now : PassView Entry)
    → EachInTurn Part (map f (take i xs)) p now → EachInTurn Part (map f xs) p now
all_took_turns {T} f xs i all Part p now h = subst (λ (l : List T). EachInTurn Part (map f l) p now) (take_whole i xs all) h
