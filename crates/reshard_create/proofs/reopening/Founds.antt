-- Shards of a workflow that stopped, found one after the other.
use Rattle.std.proofs.Common.{◌≡◌, ◌⊎◌, inl, inr, ℕ, ◌+◌, ◌<◌, List, [], ◌∷◌, ◌++◌, Bool, true, false, if◌then◌else◌, length, take, get_or, map, sym, ap, ◌∙◌, subst}
use Rattle.std.specs.List.{AllByRecursion}
use Rattle.std.proofs.lemmas.List.{take_more, map-append}
use mathlib.Core.List.{IsPrefix}
use Rattle.journal.specs.Views.{PassView}
use Rattle.journal.proofs.Fronts.{prefix_trans, prefix_self}
use Rattle.shard.specs.Place.{Place}
use Rattle.serving.specs.Partitions.{Seat, IsPartition}
use Rattle.shard_run.specs.declared.Entry.{Entry}
use Rattle.shard_run.specs.declared.ShardRecord.{ShardRecord}
use Rattle.shard_run.specs.declared.Mode.{Mode}
use Rattle.shard_run.specs.declared.Mode.TheVariants.{Following, Serving, Retired, Dropped}
use Rattle.shard_run.specs.declared.Event.{Event}
use Rattle.shard_run.specs.declared.Event.TheVariants.{Commit, Follow, Copy, Freeze, Thaw, Retire, Serve}
use Rattle.shard_run.specs.Runs.{Run, Opening, mode, mode_after, mode_from, entries_on, is_opening}
use Rattle.shard_law.proofs.Lists.{all-weaker, AllByRecursion-push}
use Rattle.vt_value.specs.declared.refusal.Refusal.{Refusal}
use Rattle.vt_value.specs.declared.refusal.Refusal.TheVariants.{OutOfMemory}
use Rattle.keyrange.specs.Names.{IsNamed}
use Rattle.reshard_cutover.specs.declared.fault.ReshardFault.TheVariants.{Refused, WrongState}
use Rattle.reshard_create.specs.reopening.Rebuilt.{FoundView, IsFound, AreFound, IsWorkflowAt, IsReopenRefusal, no_memory, through, given_up}
use Rattle.reshard_cutover.specs.Steps.{HasEntry}
use Rattle.reshard_create.specs.reopening.inner.Snapshots.{IsSnapshot}

-- no entry of a run makes a shard's rows go
not_gone_after : (m : Mode) (e : Event) → (m ≡ Dropped → ⊥) → mode_after m e ≡ Dropped → ⊥
not_gone_after m (Commit c) n is = n is
not_gone_after m (Follow f) n is = n is
not_gone_after m (Copy c) n is = n is
not_gone_after m Freeze n is = absurd (cc is)
not_gone_after m Thaw n is = absurd (cc is)
not_gone_after m (Retire targets) n is = absurd (cc is)
not_gone_after m Serve n is = absurd (cc is)

not_gone_from : (m : Mode) (run : Run) → (m ≡ Dropped → ⊥) → mode_from m run ≡ Dropped → ⊥
not_gone_from m [] n is = n is
not_gone_from m (e ∷ run) n is = not_gone_from (mode_after m e.event) run (not_gone_after m e.event n) is

pub not_gone : (o : Opening) (run : Run) (slot : ℕ) → mode o run slot ≡ Dropped → ⊥
not_gone o run slot = by (is_opening o slot)
  where
    by : (b : Bool) → mode_from (if b then Serving else Following) (entries_on slot run) ≡ Dropped → ⊥
    by true is = not_gone_from Serving (entries_on slot run) (λ e. absurd (cc e)) is
    by false is = not_gone_from Following (entries_on slot run) (λ e. absurd (cc e)) is

pub gone_is_retired : (o : Opening) (run : Run) (slot : ℕ) (r : Mode) → r ≡ Dropped → (r ≡ mode o run slot) ⊎ ((r ≡ Dropped) × (mode o run slot ≡ Retired))
    → Retired ≡ mode o run slot
gone_is_retired o run slot r is (inl same) = absurd (not_gone o run slot (sym same ∙ is))
gone_is_retired o run slot r is (inr both) = sym both.1

module _ (o : Opening) where
  pub found_later : (p q now : PassView Entry) (f : FoundView) → IsPrefix q.seen now.seen → IsFound o p q f → IsFound o p now f
  found_later p q now f later is = record {
    run = is.run;
    between = record { since = is.between.since; until = prefix_trans is.run q.seen now.seen is.between.until later };
    stands = is.stands;
    mode = is.mode;
    named = is.named;
  }

  pub found_since : (p q now : PassView Entry) (f : FoundView) → IsPrefix p.seen q.seen → IsFound o q now f → IsFound o p now f
  found_since p q now f since is = record {
    run = is.run;
    between = record { since = prefix_trans p.seen q.seen is.run since is.between.since; until = is.between.until };
    stands = is.stands;
    mode = is.mode;
    named = is.named;
  }

  pub all_later : (p q now : PassView Entry) (fs : List FoundView) → IsPrefix q.seen now.seen → AllByRecursion (IsFound o p q) fs → AllByRecursion (IsFound o p now) fs
  all_later p q now fs later all = all-weaker (IsFound o p q) (IsFound o p now) (λ f h. found_later p q now f later h) fs all

  pub all_since : (p q now : PassView Entry) (fs : List FoundView) → IsPrefix p.seen q.seen → AllByRecursion (IsFound o q now) fs → AllByRecursion (IsFound o p now) fs
  all_since p q now fs since all = all-weaker (IsFound o q now) (IsFound o p now) (λ f h. found_since p q now f since h) fs all

  pub all_named : {F : Type 0} (view : F → FoundView) (p now : PassView Entry) (fs : List F) → AllByRecursion (IsFound o p now) (map view fs)
      → AllByRecursion (λ f. IsNamed (view f).0.place.range) fs
  all_named view p now [] all = tt
  all_named view p now (f ∷ fs) all = (all.0.stands.range, all_named view p now fs all.1)

  pub reopen_memory : (p now : PassView Entry) (k : ℕ) (from into : List Seat) (e : Refusal) → e ≡ OutOfMemory → IsReopenRefusal o p now k from into (Refused e)
  reopen_memory p now k from into e is = subst (λ x. IsReopenRefusal o p now k from into (Refused x)) (sym is) no_memory

  -- a workflow that may be through, or given up, isn't made again
  pub over : (p now : PassView Entry) (k : ℕ) (parts from into : List Seat) (sources targets : List FoundView) (frozen retired served count : ℕ) → IsPartition parts
      → AreFound o p now from sources → AreFound o p now into targets → count ≡ length targets
      → IsWorkflowAt k parts from into sources targets frozen retired served → (served ≡ count) ⊎ (retired ≡ 0) → IsReopenRefusal o p now k from into WrongState
  over p now k parts from into sources targets frozen retired served count partition s t all at (inl is) =
      through parts sources targets frozen retired partition s t (subst (IsWorkflowAt k parts from into sources targets frozen retired) (is ∙ all) at)
  over p now k parts from into sources targets frozen retired served count partition s t all at (inr is) =
      given_up parts sources targets frozen served partition s t (subst (λ (n : ℕ). IsWorkflowAt k parts from into sources targets frozen n served) is at)

  pub found_next : {F : Type 0} (view : F → FoundView) (p q now : PassView Entry) (old new : List F) (f : F) → IsPrefix p.seen q.seen → IsPrefix q.seen now.seen
      → new ≡ old ++ f ∷ [] → AllByRecursion (IsFound o p q) (map view old) → IsFound o q now (view f) → AllByRecursion (IsFound o p now) (map view new)
  found_next view p q now old new f since later grown so_far one =
      subst (λ l. AllByRecursion (IsFound o p now) (map view l)) (sym grown)
      (subst (AllByRecursion (IsFound o p now)) (sym (map-append view old (f ∷ [])))
      (AllByRecursion-push (IsFound o p now) (map view old) (view f) (all_later p q now (map view old) later so_far) (found_since p q now (view f) since one)))

  pub found_at : (p now : PassView Entry) (slot : ℕ) (place : Place) (s w : ShardRecord) (m n : Mode) (ts us : List ShardRecord) → IsPrefix p.seen now.seen
      → IsSnapshot o now.seen slot place s m ts → w ≡ s → n ≡ m → us ≡ ts → IsFound o p now (w, n, us)
  found_at p now slot place s w m n ts us later is same same' same'' = record {
    run = now.seen;
    between = record { since = later; until = prefix_self now.seen };
    stands = subst (Rattle.shard_law.specs.Legal.IsOnItsSlot o now.seen) (sym same) is.stands;
    mode = same' ∙ is.in_mode ∙ ap (λ (x : ShardRecord). mode o now.seen x.slot) (sym same);
    named = λ retired.
        subst (λ (l : List ShardRecord). HasEntry now.seen w (Retire l)) (sym same'')
        (subst (λ (x : ShardRecord). HasEntry now.seen x (Retire ts)) (sym same) (is.names (sym same' ∙ retired)));
  }

-- the next one of a list that is seen as another
pub seen_next : {F X : Type 0} (view : F → X) (parts : List X) (i : ℕ) (x : X) (old new : List F) (f : F) → i < length parts → x ≡ get_or parts i x
    → new ≡ old ++ f ∷ [] → map view old ≡ take i parts → view f ≡ x → map view new ≡ take (i + 1) parts
seen_next {F} {X} view parts i x old new f there is grown so_far one =
    ap (map view) grown ∙ map-append view old (f ∷ []) ∙ ap (λ (l : List X). l ++ view f ∷ []) so_far ∙ ap (λ (y : X). take i parts ++ y ∷ []) (one ∙ is)
    ∙ sym (take_more parts i x there)

-- the next one of a list, which two maps see alike
pub mapped_next : {F Y X : Type 0} (view : F → X) (seen : Y → X) (parts : List Y) (i : ℕ) (y : Y) (old new : List F) (f : F) → i < length parts
    → y ≡ get_or parts i y → new ≡ old ++ f ∷ [] → map view old ≡ map seen (take i parts) → view f ≡ seen y → map view new ≡ map seen (take (i + 1) parts)
mapped_next {F} {Y} {X} view seen parts i y old new f there is grown so_far one =
    ap (map view) grown ∙ map-append view old (f ∷ []) ∙ ap (λ (l : List X). l ++ view f ∷ []) so_far ∙ ap (λ (x : X). map seen (take i parts) ++ x ∷ []) one
    ∙ sym (map-append seen (take i parts) (y ∷ [])) ∙ ap (map seen) (sym (take_more parts i y there ∙ ap (λ (x : Y). take i parts ++ x ∷ []) (sym is)))

pub pushed : {F Y : Type 0} (P : Y → Type 0) (view : F → Y) (old new : List F) (f : F) → new ≡ old ++ f ∷ [] → AllByRecursion P (map view old) → P (view f)
    → AllByRecursion P (map view new)
pushed {F} P view old new f grown all one =
    subst (λ (l : List F). AllByRecursion P (map view l)) (sym grown)
    (subst (AllByRecursion P) (sym (map-append view old (f ∷ []))) (AllByRecursion-push P (map view old) (view f) all one))
