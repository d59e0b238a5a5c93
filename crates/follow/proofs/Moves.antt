-- From what a target and its source had at two looks to the entry that the target appends.
use Rattle.std.proofs.Common.{◌≡◌, ◌⊎◌, inl, inr, ℕ, zero, suc, ◌+◌, ◌<◌, ◌≤◌, not, ◌&&◌, List, [], ◌∷◌, ◌++◌, length, map, take, drop, get_or, filter, Option, Some, None, IsTrue, refl, sym, ap, ◌∙◌, subst, arith}
use Rattle.std.specs.Prelude.{Contains, IsPermutation, MatchOption, IfSome, IfOk, IfErr, IsErrAnd, OnOk, OnErr, Result, Ok, Err}
use Rattle.std.specs.List.{AllByRecursion}
use Rattle.std.proofs.lemmas.List.Elements.{filter_agree}
use mathlib.Core.List.{IsPrefix}
use Rattle.vt_value.specs.declared.refusal.Refusal.{Refusal}
use Rattle.vt_value.specs.declared.refusal.Refusal.TheVariants.{OutOfMemory, ShardFull}
use Rattle.vt_value.specs.Values.{Row}
use Rattle.shard.specs.RowChange.{RowChange}
use Rattle.shard.specs.Database.{lies_in, rows_of, changed_table, change_lies_in}
use Rattle.journal.specs.Views.{PassView}
use Rattle.journal.proofs.Fronts.{prefix_trans, prefix_self}
use Rattle.shard_run.specs.declared.ShardRecord.{ShardRecord}
use Rattle.shard_run.specs.declared.Follow as F
use Rattle.shard_run.specs.declared.Copied as C
use Rattle.shard_run.specs.declared.Entry.{Entry}
use Rattle.shard_run.specs.declared.Event.TheVariants.{Follow, Copy}
use Rattle.shard.specs.Limits.{Limits}
use Rattle.shard_run.specs.Runs.{Run, Opening, shard_rows, entries_on, stored_on, stored_changes}
use Rattle.shard_run.specs.Copies.{position, table_at, is_copied, change_is_copied}
use Rattle.shard.specs.Legal.{Legal, Had, is_left}
use Rattle.shard_run.specs.Openings.{IsOpening}
use Rattle.shard.proofs.Law.{beginnings}
use Rattle.shard.proofs.Lists.{all-filter, all-weaker, AllByRecursion-push}
use Rattle.shard.specs.NextTable.{NextTable}
use Rattle.shard.specs.SourceProgress.{SourceProgress}
use Rattle.shard.specs.Entries.{MayFollow, ShardView}
use Rattle.shard.specs.Shards.{IsNext}
use Rattle.shard.specs.Copying.{PassesLimit, IsProgress, IsEntryFor, IsCopyFor, IsNextTable, IsNextCopy, HasCopiedAll, is_reached, is_left_to_copy}
use Rattle.shard.proofs.Follows.{none_left}
use Rattle.shard.proofs.CopySteps.{stored_there_now}
use Rattle.follow.specs.declared.steps.NextEntry.{NextEntry}
use Rattle.follow.specs.declared.steps.NextEntry.TheVariants as givens
use Rattle.follow.specs.declared.steps.Step.{Step}
use Rattle.follow.specs.inner.NextEntries.{IsNextForTarget, NoneLeft, IsNextEntry, IsTakeable, HasTaken, entry, rows, nothing}
use Rattle.follow.specs.inner.NextEntries as given
use Rattle.follow.specs.Steps.{IsOnward, IsRunBetween, IsLevel, HasMoved, copied, followed, level, HasMovedWith, one, all_level, IsFull}
use Rattle.follow.specs.Steps as full
use Rattle.follow.specs.declared.steps.Step.TheVariants.{Level}
use Rattle.shard.proofs.Progress.{take_whole}
use Rattle.std.proofs.lemmas.List.{take_more, map-append}
use Rattle.follow.proofs.Onward.{onward_trans, stepped_after}

pub match_as : {X : Type 0} (r : Result (Option X) Refusal) (P Q : Type 0) (A B : X → Type 0) → (P → Q) → ((x : X) → A x → B x)
    → IfOk r (λ o. MatchOption o P A) → IfOk r (λ o. MatchOption o Q B)
match_as (Ok None) P Q A B f h is = f is
match_as (Ok (Some x)) P Q A B f h is = h x is
match_as (Err e) P Q A B f h is = is

legal_front : (o : Opening) (early run : Run) → IsPrefix early run → Legal o run → Legal o early
legal_front o early run (rest, is) legal = beginnings o early rest (subst (Legal o) (sym is) legal)

-- the table that is next is there
pub next_there : (o : Opening) (run : Run) (target : ShardRecord) (source : ℕ) (p : SourceProgress) → IsProgress o run target source p
    → IfSome p.next (λ n. n.table < length o.schema.tables)
next_there o run target source p is = by p.next is.next
  where
    by : (next : Option NextTable) → MatchOption next (HasCopiedAll o run target source)
        (λ n. IsNextTable o run target source n.table × ((row : Row) → is_copied o.schema run target.slot source n.table row ≡ is_reached (table_at o.schema n.table) n.after row))
        → IfSome next (λ n. n.table < length o.schema.tables)
    by None h = tt
    by (Some n) h = h.0.table.0

-- the target is locked, and the pass has seen `run` by a look at the source
module _ (o : Opening) (opens : IsOpening o) (run : Run) (legal : Legal o run) (source : ShardRecord) (target : ShardView) (later : IsPrefix target.seen run)
    (of_source : Contains target.shard.sources source.slot) where
  -- where the source has stored no more, the target stands after all that it has
  level_at : (p : SourceProgress) → IsProgress o target.seen target.shard source.slot p → NoneLeft run source.slot p.stands_after → (n : ℕ)
      → position target.seen target.shard.slot source.slot ≡ Some n → n ≡ length (stored_on source.slot run)
  level_at p is none n at =
      none_left o opens target.seen run target.shard.slot source.slot (length (stored_on source.slot run)) n later (legal_front o target.seen run later legal) refl at
      (none n (is.stands_after ∙ at))

  place_at : (p : SourceProgress) → IsProgress o target.seen target.shard source.slot p → (c : C.Copied) → c.log_position ≡ length (stored_on source.slot run)
      → NoneLeft run source.slot p.stands_after → (b : Option ℕ) → p.stands_after ≡ b
      → (position target.seen target.shard.slot source.slot ≡ None) ⊎ (position target.seen target.shard.slot source.slot ≡ Some c.log_position)
  place_at p is c place none None e = inl (sym is.stands_after ∙ e)
  place_at p is c place none (Some m) e =
      let at = sym is.stands_after ∙ e in
      inr (at ∙ ap Some (level_at p is none m at ∙ sym place))

  had : (c : C.Copied) (after : Option Row) → IsCopyFor o run source target.shard.place after c → Had o run c.source c.log_position (shard_rows o run source)
  had c after e =
      let whole = prefix_self run in
      record {
        front = run;
        back = whole.0;
        is = sym whole.1;
        shard = source;
        of_run = e.of_run;
        on = sym e.of_source;
        serves = subst (λ s. IsTrue (Rattle.shard_run.specs.Runs.answers_queries (Rattle.shard_run.specs.Runs.mode o run s))) (sym e.of_source) e.serves;
        stored = subst (λ s. length (stored_on s run) ≡ c.log_position) (sym e.of_source) (sym e.place);
        rows = refl;
      }

  -- how far it has copied, by the table that is next
  told : (p : SourceProgress) (next : Option NextTable) → IsProgress o target.seen target.shard source.slot p → p.next ≡ next
      → MatchOption next (HasCopiedAll o target.seen target.shard source.slot)
      (λ n. IsNextTable o target.seen target.shard source.slot n.table
      × ((row : Row) → is_copied o.schema target.seen target.shard.slot source.slot n.table row ≡ is_reached (table_at o.schema n.table) n.after row))
  told p next is e =
      subst (λ (next : Option NextTable). MatchOption next (HasCopiedAll o target.seen target.shard source.slot)
      (λ n. IsNextTable o target.seen target.shard source.slot n.table
      × ((row : Row) → is_copied o.schema target.seen target.shard.slot source.slot n.table row ≡ is_reached (table_at o.schema n.table) n.after row))) e is.next

  pub takeable : (g : NextEntry) → IsNextForTarget o run source target g → IsTakeable o run target g
  takeable _ (entry f stands_after e) = given.entry (record {
    of_source = subst (Contains target.shard.sources) (sym e.of_source) of_source;
    next = subst (λ s. position target.seen target.shard.slot s ≡ Some f.log_position) (sym e.of_source) stands_after;
    given = subst (λ s. IsEntryFor o run s target.shard.place f) (sym e.of_source) e;
  })
  takeable _ (rows p c n is none next table e) =
      let at = told p (Some n) is next in
      let from : source.slot ≡ c.source = sym e.of_source in
      let reached = λ (row : Row). subst (λ s. is_copied o.schema target.seen target.shard.slot s c.table row ≡ is_reached (table_at o.schema c.table) n.after row) from
      (subst (λ m. is_copied o.schema target.seen target.shard.slot source.slot m row ≡ is_reached (table_at o.schema m) n.after row) (sym table) (at.1 row)) in
      given.rows (record {
        of_source = subst (Contains target.shard.sources) from of_source;
        next = subst (λ s. IsNextTable o target.seen target.shard s c.table) from (subst (IsNextTable o target.seen target.shard source.slot) (sym table) at.0);
        place =
            subst (λ s. (position target.seen target.shard.slot s ≡ None) ⊎ (position target.seen target.shard.slot s ≡ Some c.log_position)) from
            (place_at p is c e.place none p.stands_after refl);
        db = shard_rows o run source;
        had = had c n.after e;
        arranged = e.arranged;
        all =
            subst (λ (l : List Row). IsPermutation l e.arranged)
            (filter_agree (is_left_to_copy target.shard.place (table_at o.schema c.table) n.after) (is_left o target.seen target.shard c.source c.table)
            (λ row. ap (λ b. lies_in target.shard.place (table_at o.schema c.table) row && not b) (sym (reached row))) (rows_of (shard_rows o run source) c.table)) e.all;
        in_order = e.in_order;
        rows = e.rows;
      })
  takeable _ (nothing p is none next) = given.nothing

  -- what was taken over of what was given is what the step did
  pub moved : (before q now : PassView Entry) (g : NextEntry) (s : Step) → q.seen ≡ run → IsOnward o before q → IsPrefix before.seen target.seen
      → IsPrefix q.seen now.seen → IsOnward o before now → IsNextForTarget o run source target g → HasTaken o target.shard g q now s
      → HasMoved o source target.shard before now s
  moved before q now _ _ seen on since until whole (entry f stands_after e) (given.entry taken same stepped at) =
      followed taken (same ∙ e.of_source) (stepped_after o before q now target.shard _ on stepped)
  moved before q now _ _ seen on since until whole (rows p c n is none next table e) (given.rows stepped at) =
      copied c e.of_source run
      (record { since = prefix_trans before.seen target.seen run since later; until = subst (λ r. IsPrefix r now.seen) seen until }) e.place
      (stepped_after o before q now target.shard _ on stepped)
  moved before q now _ _ seen on since until whole (nothing p is none next) given.nothing =
      level whole target.seen run
      (record { since = since; until = prefix_trans target.seen run now.seen later (subst (λ r. IsPrefix r now.seen) seen until) })
      (record { since = prefix_trans before.seen target.seen run since later; until = subst (λ r. IsPrefix r now.seen) seen until })
      (record { copied = told p None is next; level = level_at p is none })

-- ---- under the target's lock

pub rows_next : (o : Opening) (run : Run) (target : ShardView) (c : C.Copied) → IsTakeable o run target (givens.Rows c) → IsNextCopy o run target c
rows_next o run target c (given.rows is) = is

module _ (o : Opening) (run : Run) (legal : Legal o run) (target : ShardView) (f : F.Follow) (is : IsNextEntry o run target f) where
  pub entry_there : AllByRecursion (λ c. changed_table c < length o.schema.tables) f.changes
  entry_there =
      subst (AllByRecursion (λ (c : RowChange). changed_table c < length o.schema.tables)) (sym is.given.changes)
      (all-filter (λ (c : RowChange). changed_table c < length o.schema.tables) (change_lies_in o.schema target.shard.place) (stored_changes is.given.entry.event)
      (stored_there_now o run legal f.source f.log_position is.given.entry is.given.stored))

  pub follow_next : (taken : F.Follow) → taken ≡ record f { changes = filter (change_is_copied o.schema target.seen target.shard.slot f.source) f.changes }
      → IsNext o run target taken
  follow_next taken taken_is = subst (λ (x : F.Follow). IsNext o run target x) (sym taken_is) (record {
    of_source = is.of_source;
    next = is.next;
    entry = is.given.entry;
    stored = is.given.stored;
    filtered = ap (filter (change_is_copied o.schema target.seen target.shard.slot f.source)) is.given.changes;
  })

-- ---- why a step is refused

module _ (o : Opening) (most : Limits) (run : Run) (s : ShardRecord) where
  pub full_follow : (f : F.Follow) (e : Refusal) → MayFollow o run (record { shard = s; event = Follow f })
      → (e ≡ OutOfMemory) ⊎ ((e ≡ ShardFull) × PassesLimit o most run s (Follow f)) → (e ≡ OutOfMemory) ⊎ ((e ≡ ShardFull) × IsFull o most s run)
  full_follow f e may (inl h) = inl h
  full_follow f e may (inr h) = inr (h.0, full.follow f may h.1)

  pub full_copy : (c : C.Copied) (e : Refusal) → MayFollow o run (record { shard = s; event = Copy c })
      → (e ≡ OutOfMemory) ⊎ ((e ≡ ShardFull) × PassesLimit o most run s (Copy c)) → (e ≡ OutOfMemory) ⊎ ((e ≡ ShardFull) × IsFull o most s run)
  full_copy c e may (inl h) = inl h
  full_copy c e may (inr h) = inr (h.0, full.copy c may h.1)

-- ---- steps before

module _ (o : Opening) (source target : ShardRecord) (p q now : PassView Entry) (on : IsOnward o p q) where
  widen : (run : Run) → IsRunBetween q now run → IsRunBetween p now run
  widen run b = record { since = prefix_trans p.seen q.seen run on.later b.since; until = b.until }

  -- what a later step did is what it does from here
  pub moved_after : (s : Step) → HasMoved o source target q now s → HasMoved o source target p now s
  moved_after _ (copied c of_source run between place stepped) =
      copied c of_source run (widen run between) place (stepped_after o p q now target _ on stepped)
  moved_after _ (followed f of_source stepped) = followed f of_source (stepped_after o p q now target _ on stepped)
  moved_after _ (level whole run looked a b is) = level (onward_trans o p q now on whole) run looked (widen run a) (widen looked b) is

-- ---- what a result tells in its arms

pub at_some : {X : Type 0} (P : Type 0) (A : X → Type 0) (r : Option X) (x : X) → r ≡ Some x → MatchOption r P A → A x
at_some P A r x e h = subst (λ o. MatchOption o P A) e h

pub at_not_some : {X : Type 0} (P : Type 0) (A : X → Type 0) (r : Option X) → ((x : X) → r ≡ Some x → ⊥) → MatchOption r P A → P
at_not_some P A None not h = h
at_not_some P A (Some x) not h = absurd (not x refl)

pub if_some : {X : Type 0} (A : X → Type 0) (r : Option X) (x : X) → r ≡ Some x → IfSome r A → A x
if_some A r x e h = subst (λ o. IfSome o A) e h

pub some_as : {X : Type 0} (r : Result (Option X) Refusal) (A B : X → Type 0) → ((x : X) → A x → B x) → IfOk r (λ o. IfSome o A) → IfOk r (λ o. IfSome o B)
some_as (Ok None) A B f is = is
some_as (Ok (Some x)) A B f is = f x is
some_as (Err e) A B f is = is

-- what `?` hands on is the error that came
pub err_as : {X : Type 0} (r : Result X Refusal) (e : Refusal) (P : Refusal → Type 0) → IsErrAnd r (λ f. f ≡ e) → P e → IfErr r P
err_as (Ok x) e P h is = tt
err_as (Err f) e P h is = subst P (sym h) is

pub on_err_as : {X E : Type 0} (r : Result X E) (P Q : Type 0) → (P → Q) → OnErr r P → OnErr r Q
on_err_as (Ok x) P Q f is = is
on_err_as (Err e) P Q f is = f is

pub on_ok_as : {X E : Type 0} (r : Result X E) (P Q : Type 0) → (P → Q) → OnOk r P → OnOk r Q
on_ok_as (Ok x) P Q f is = f is
on_ok_as (Err e) P Q f is = is

pub if_err_as : {X E : Type 0} (r : Result X E) (P : Type 0) (A B : E → Type 0) → ((e : E) → P → A e → B e) → OnErr r P → IfErr r A → IfErr r B
if_err_as (Ok x) P A B f on is = is
if_err_as (Err e) P A B f on is = f e on is

pub if_ok_as : {X E : Type 0} (r : Result X E) (A B : X → Type 0) → ((x : X) → A x → B x) → IfOk r A → IfOk r B
if_ok_as (Ok x) A B f is = f x is
if_ok_as (Err e) A B f is = is

-- whether it succeeds or is refused
pub either_way : {X E : Type 0} (r : Result X E) (P Q A : Type 0) → (P → A) → (Q → A) → OnOk r P → OnErr r Q → A
either_way (Ok x) P Q A f h ok err = f ok
either_way (Err e) P Q A f h ok err = h err

-- ---- several sources

pub split_at : {X : Type 0} (xs : List X) (n : ℕ) (x : X) → n < length xs → x ≡ get_or xs n x → xs ≡ take n xs ++ x ∷ drop (n + 1) xs
split_at [] n x l e = absurd (omega (arith, l))
split_at (y ∷ xs) zero x l e = ap (λ z. z ∷ xs) (sym e)
split_at (y ∷ xs) (suc n) x l at =
    let e : suc n + 1 ≡ suc (n + 1) = omega arith in
    let h : drop (suc n + 1) (y ∷ xs) ≡ drop (n + 1) xs = ap (λ (k : ℕ). drop k (y ∷ xs)) e in
    ap (λ l. y ∷ l) (split_at xs n x (omega (arith, l)) at ∙ ap (λ l. take n xs ++ x ∷ l) (sym h))

-- what was level stays so in what the pass sees later
pub level_later : (o : Opening) (source target : ShardRecord) (p q now : PassView Entry) → IsOnward o q now → HasMoved o source target p q Level
    → HasMoved o source target p now Level
level_later o source target p q now on (level whole run looked a b is) =
    level (onward_trans o p q now whole on) run looked (record { since = a.since; until = prefix_trans run q.seen now.seen a.until on.later })
    (record { since = b.since; until = prefix_trans looked q.seen now.seen b.until on.later }) is

module _ {M : Type 0} (which : M → ShardRecord) (o : Opening) (target : ShardRecord) (p : PassView Entry) where
  all_later : (q now : PassView Entry) → IsOnward o q now → (sources : List M) → AllByRecursion (λ m. HasMoved o (which m) target p q Level) sources
      → AllByRecursion (λ m. HasMoved o (which m) target p now Level) sources
  all_later q now on sources h =
      all-weaker (λ m. HasMoved o (which m) target p q Level) (λ m. HasMoved o (which m) target p now Level)
      (λ m k. level_later o (which m) target p q now on k) sources h

  all_mapped : (now : PassView Entry) (sources : List M) → AllByRecursion (λ m. HasMoved o (which m) target p now Level) sources
      → AllByRecursion (λ s. HasMoved o s target p now Level) (map which sources)
  all_mapped now [] h = tt
  all_mapped now (m ∷ sources) h = (h.0, all_mapped now sources h.1)

  module _ (sources : List M) (i : ℕ) (m : M) (there : i < length sources) (is : m ≡ get_or sources i m) (q now : PassView Entry) (before : IsOnward o p q)
      (on : IsOnward o q now) (so_far : AllByRecursion (λ m. HasMoved o (which m) target p q Level) (take i sources)) where
    -- the sources before were level, and the step is with this one
    pub moved_with : (step : Step) → HasMoved o (which m) target q now step → HasMovedWith o (map which sources) target p now step
    moved_with step moved =
        one (map which (take i sources)) (map which (drop (i + 1) sources)) (which m)
        (ap (map which) (split_at sources i m there is) ∙ map-append which (take i sources) (m ∷ drop (i + 1) sources))
        (all_mapped now (take i sources) (all_later q now on (take i sources) so_far)) (moved_after o (which m) target p q now before step moved)

    -- with this one too nothing is left
    pub level_with : HasMoved o (which m) target q now Level → AllByRecursion (λ m. HasMoved o (which m) target p now Level) (take (i + 1) sources)
    level_with moved =
        subst (AllByRecursion (λ m. HasMoved o (which m) target p now Level)) (sym (take_more sources i m there ∙ ap (λ x. take i sources ++ x ∷ []) (sym is)))
        (AllByRecursion-push (λ m. HasMoved o (which m) target p now Level) (take i sources) m (all_later q now on (take i sources) so_far)
        (moved_after o (which m) target p q now before Level moved))

  pub all_level_with : (sources : List M) (i : ℕ) (now : PassView Entry) → length sources ≤ i → IsOnward o p now
      → AllByRecursion (λ m. HasMoved o (which m) target p now Level) (take i sources) → HasMovedWith o (map which sources) target p now Level
  all_level_with sources i now all on h =
      all_level on (all_mapped now sources (subst (AllByRecursion (λ m. HasMoved o (which m) target p now Level)) (take_whole i sources all) h))
