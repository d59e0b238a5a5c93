-- A target of which nothing is stored, and that has no step, has no entry.
use Rattle.std.proofs.Common.{◌≡◌, ℕ, Bool, true, false, cond, List, [], ◌∷◌, ◌++◌, ◌&&◌, map, length, refl, sym, ap, subst, ◌∙◌}
use Rattle.std.proofs.lemmas.List.{nil_from_length}
use Rattle.journal.specs.Views.{SeatView}
use Rattle.shard_run.specs.declared.Mode.{Mode}
use Rattle.shard_run.specs.declared.Mode.TheVariants.{Following, Serving, Frozen, Retired}
use Rattle.shard_run.specs.declared.Event.{Event}
use Rattle.shard_run.specs.declared.Event.TheVariants.{Commit, Follow, Copy, Freeze, Thaw, Retire, Serve}
use Rattle.shard_run.specs.declared.Entry.{Entry}
use Rattle.shard_run.specs.Runs.{Run, Opening, is_on, is_stored, is_opening, entries_on, stored_on, mode, mode_from, mode_after}
use Rattle.shard_contents.specs.Limits.{Limits}
use Rattle.shard_contents.specs.declared.contents.Contents.{Contents}
use Rattle.shard_contents.specs.Progress.{steps_of, steps_on}
use Rattle.shard_contents.specs.Kept.{kept_from}
use Rattle.shard_contents.specs.KeptEntries.{kept_of, entries_kept}
use Rattle.shard_contents.specs.inner.StoredLogs.{count_of}
use Rattle.shard_contents.proofs.Kept.{kept_none}
use Rattle.shard_contents.proofs.KeptStored.{none_kept}
use Rattle.shard_contents.proofs.StoredLogs.{count-stored}
use Rattle.shard_contents.specs.Entries.{ShardView}
use Rattle.shard_contents.specs.Shards.{Holds, Keeps, holds, dropped, IsAfter, state_view}

-- what doesn't follow never follows again
stays : (m : Mode) (event : Event) → (m ≡ Following → ⊥) → mode_after m event ≡ Following → ⊥
stays m (Commit c) other is = other is
stays m (Follow f) other is = other is
stays m (Copy c) other is = other is
stays m Freeze other is = cc is
stays m Thaw other is = cc is
stays m (Retire targets) other is = cc is
stays m Serve other is = cc is

never : (m : Mode) (run : Run) → (m ≡ Following → ⊥) → mode_from m run ≡ Following → ⊥
never m [] other is = other is
never m (e ∷ run) other is = never (mode_after m e.event) run (stays m e.event other) is

none_before : {X : Type 0} (xs ys : List X) → xs ++ ys ≡ [] → xs ≡ []
none_before [] ys is = refl
none_before (x ∷ xs) ys is = absurd (cc is)

none_after : {X : Type 0} (xs ys : List X) → xs ++ ys ≡ [] → ys ≡ []
none_after [] ys is = is
none_after (x ∷ xs) ys is = absurd (cc is)

-- an entry that isn't stored and is no step takes a shard out of following
out : (m : Mode) (event : Event) (run : Run) → is_stored event ≡ false → steps_of event ≡ [] → mode_from (mode_after m event) run ≡ Following → ⊥
out m (Commit c) run stored steps is = cc stored
out m (Follow f) run stored steps is = cc stored
out m (Copy c) run stored steps is = cc steps
out m Freeze run stored steps is = never Frozen run (λ e. cc e) is
out m Thaw run stored steps is = never Serving run (λ e. cc e) is
out m (Retire targets) run stored steps is = never Retired run (λ e. cc e) is
out m Serve run stored steps is = never Serving run (λ e. cc e) is

no_entry : (m : Mode) (slot : ℕ) (run : Run) → mode_from m (entries_on slot run) ≡ Following → steps_on slot run ≡ [] → stored_on slot run ≡ [] → entries_on slot run ≡ []
no_entry m slot [] is steps stored = refl
no_entry m slot (e ∷ run) is steps stored = by (is_on slot e) refl (no_entry m slot run)
  where
    by : (b : Bool) → is_on slot e ≡ b
        → (mode_from m (entries_on slot run) ≡ Following → steps_on slot run ≡ [] → stored_on slot run ≡ [] → entries_on slot run ≡ [])
        → entries_on slot (e ∷ run) ≡ []
    by false i rest =
        let here : entries_on slot (e ∷ run) ≡ entries_on slot run = ap (λ c. cond c (e ∷ entries_on slot run) (entries_on slot run)) i in
        let kept : stored_on slot (e ∷ run) ≡ stored_on slot run = ap (λ c. cond (c && is_stored e.event) (e ∷ stored_on slot run) (stored_on slot run)) i in
        here ∙ rest (subst (λ (l : Run). mode_from m l ≡ Following) here is)
        (sym (ap (λ (l : Run). Rattle.std.specs.Prelude.flat_map (λ e. steps_of e.event) l) here) ∙ steps) (sym kept ∙ stored)
    by true i rest =
        let here : entries_on slot (e ∷ run) ≡ e ∷ entries_on slot run = ap (λ c. cond c (e ∷ entries_on slot run) (entries_on slot run)) i in
        let kept : stored_on slot (e ∷ run) ≡ cond (is_stored e.event) (e ∷ stored_on slot run) (stored_on slot run) =
        ap (λ c. cond (c && is_stored e.event) (e ∷ stored_on slot run) (stored_on slot run)) i in
        let no_step : steps_of e.event ++ steps_on slot run ≡ [] = sym (ap (λ (l : Run). Rattle.std.specs.Prelude.flat_map (λ e. steps_of e.event) l) here) ∙ steps in
        absurd (out m e.event (entries_on slot run) (not_stored (is_stored e.event) refl (sym kept ∙ stored)) (none_before (steps_of e.event) (steps_on slot run) no_step)
        (subst (λ (l : Run). mode_from m l ≡ Following) here is))
      where
        not_stored : (b : Bool) → is_stored e.event ≡ b → cond (is_stored e.event) (e ∷ stored_on slot run) (stored_on slot run) ≡ [] → is_stored e.event ≡ false
        not_stored false j none = j
        not_stored true j none = absurd (cc (sym (ap (λ c. cond c (e ∷ stored_on slot run) (stored_on slot run)) j) ∙ none))

still_holds : (o : Opening) (most : Limits) (run : Run) (c : Contents) → Keeps o most run c → c.mode ≡ Following → Holds o most run c
still_holds o most run c (holds h) is = h
still_holds o most run c (dropped gone m) is = absurd (cc (sym gone ∙ is))

first_follows : (b : Bool) → cond b Serving Following ≡ Following → b ≡ false
first_follows false is = refl
first_follows true is = absurd (cc is)

module _ (o : Opening) (most : Limits) (seat : SeatView Entry) (c : Contents) (v : ShardView) (after : IsAfter o most seat c)
    (view : state_view seat.seen c ≡ v) (follows : c.mode ≡ Following) (stored : count_of c.stored.log ≡ 0) (steps : c.steps.items ≡ []) where
  fresh_here : entries_on c.shard.slot seat.seen ≡ []
  fresh_here =
      let h = still_holds o most seat.seen c after.keeps follows in
      no_entry (cond (is_opening o c.shard.slot) Serving Following) c.shard.slot seat.seen (sym h.mode ∙ follows)
      (kept_none (steps_on c.shard.slot seat.seen) (sym h.steps ∙ steps)) (none_kept (stored_on c.shard.slot seat.seen)
      (nil_from_length (entries_kept c.shard.slot seat.seen) (sym (count-stored c.stored.log (entries_kept c.shard.slot seat.seen) h.stored) ∙ stored)))

  pub fresh : entries_on v.shard.slot v.seen ≡ []
  fresh = subst (λ (v : ShardView). entries_on v.shard.slot v.seen ≡ []) view fresh_here

  pub not_opening : is_opening o v.shard.slot ≡ false
  not_opening =
      let h = still_holds o most seat.seen c after.keeps follows in
      subst (λ (v : ShardView). is_opening o v.shard.slot ≡ false) view
      (first_follows (is_opening o c.shard.slot)
      (sym (ap (mode_from (cond (is_opening o c.shard.slot) Serving Following)) fresh_here) ∙ sym h.mode ∙ follows))

none_stored : (slot : ℕ) (run : Run) → entries_on slot run ≡ [] → stored_on slot run ≡ []
none_stored slot [] none = refl
none_stored slot (e ∷ run) none = by (is_on slot e) refl (none_stored slot run)
  where
    by : (b : Bool) → is_on slot e ≡ b → (entries_on slot run ≡ [] → stored_on slot run ≡ []) → stored_on slot (e ∷ run) ≡ []
    by false i rest =
        ap (λ c. cond (c && is_stored e.event) (e ∷ stored_on slot run) (stored_on slot run)) i
        ∙ rest (sym (ap (λ c. cond c (e ∷ entries_on slot run) (entries_on slot run)) i) ∙ none)
    by true i rest = absurd (cc (sym (ap (λ c. cond c (e ∷ entries_on slot run) (entries_on slot run)) i) ∙ none))

not_dropped : (o : Opening) (most : Limits) (run : Run) (c : Contents) → Keeps o most run c → mode o run c.shard.slot ≡ Following → Holds o most run c
not_dropped o most run c (holds h) is = h
not_dropped o most run c (dropped gone m) is = absurd (cc (sym m ∙ is))

-- a target without an entry follows, and has neither stored an entry nor made a step
module _ (o : Opening) (most : Limits) (seat : SeatView Entry) (c : Contents) (v : ShardView) (after : IsAfter o most seat c)
    (view : state_view seat.seen c ≡ v) (none : entries_on v.shard.slot v.seen ≡ []) (target : is_opening o v.shard.slot ≡ false) where
  none_here : entries_on c.shard.slot seat.seen ≡ []
  none_here = subst (λ (v : ShardView). entries_on v.shard.slot v.seen ≡ []) (sym view) none

  follows_here : mode o seat.seen c.shard.slot ≡ Following
  follows_here =
      ap (mode_from (cond (is_opening o c.shard.slot) Serving Following)) none_here
      ∙ ap (λ b. cond b Serving Following) (subst (λ (v : ShardView). is_opening o v.shard.slot ≡ false) (sym view) target)

  kept : Holds o most seat.seen c
  kept = not_dropped o most seat.seen c after.keeps follows_here

  pub follows : c.mode ≡ Following
  follows = kept.mode ∙ follows_here

  pub nothing_stored : count_of c.stored.log ≡ 0
  nothing_stored = count-stored _ _ kept.stored ∙ ap length (ap (map kept_of) (none_stored c.shard.slot seat.seen none_here))

  pub no_step : length c.steps.items ≡ 0
  no_step = ap length (kept.steps ∙ ap (λ (l : Run). kept_from [] (Rattle.std.specs.Prelude.flat_map (λ e. steps_of e.event) l)) none_here)
