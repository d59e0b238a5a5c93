-- What a run leaves on a shard depends on the entries on its slot alone.
use Rattle.std.proofs.Common.{◌≡◌, ℕ, Bool, true, false, ◌&&◌, List, [], ◌∷◌, ◌++◌, map, sym, ap, subst, ◌∙◌, refl, if◌then◌else◌, arith}
use Rattle.std.specs.Prelude.{flat_map, filter, length, ◌+◌, ◌≤◌, ◌^◌, Contains}
use Rattle.std.proofs.lemmas.Bool.{false≢true}
use Rattle.shard_law.specs.Openings.{row_count}
use Rattle.std.proofs.lemmas.List.{append-nil}
use Rattle.std.proofs.lemmas.List.Elements.{filter-append}
use mathlib.Core.List.{IsPrefix}
use Rattle.vschema.specs.declared.changes.RowChange.{RowChange}
use Rattle.vschema.specs.Database.{Database, SameRows, all_applied}
use Rattle.shard_law.specs.Views.{SeatView, PassView, IsLater}
use Rattle.shard_law.specs.Event.TheVariants.{Retire}
use Rattle.shard_law.proofs.Lists.{In-left, In-from_Contains, Contains-from_In}
use Rattle.shard_law.specs.ShardRecord.{ShardRecord}
use Rattle.shard_law.specs.Mode.{Mode}
use Rattle.shard_law.specs.Mode.TheVariants.{Following, Serving, Retired}
use Rattle.shard_law.specs.Entry.{Entry}
use Rattle.shard_law.specs.ShardRunRuns.{Opening, Run, mode, mode_from, shard_rows, stored_on, held_changes, is_stored, is_on, is_opening, first_rows, entries_on, answers_queries}
use Rattle.shard_law.specs.Legal.{IsOnItsSlot}
use Rattle.shard_law.specs.declared.limits.Limits.{Limits}
use Rattle.shard_contents.specs.declared.contents.Contents.{Contents}
use Rattle.shard_contents.specs.Progress.{steps_of}
use Rattle.shard_contents.specs.Kept.{kept_from, kept_on}
use Rattle.shard_contents.specs.KeptEntries.{kept_of, entries_kept}
use Rattle.shard_law.specs.Entries.{ShardView, slot_of, commit_of, MayFollow}
use Rattle.shard_contents.specs.Shards.{RetiredFor, Holds, Keeps, holds, dropped, IsAfter, beyond, state_view}
use Rattle.shard_contents.proofs.Legality.{stands-same}
use Rattle.shard_contents.specs.inner.StoredLogs.{given_up, HasStored}
use Rattle.shard_contents.proofs.StoredLogs.{same_log, followed, unfollowed}

filter_both : {X : Type 0} (f g : X → Bool) (xs : List X) → filter (λ x. f x && g x) xs ≡ filter g (filter f xs)
filter_both f g [] = refl
filter_both {X} f g (x ∷ xs) = cases (f x) (filter_both f g xs)
  where
    cases : (b : Bool) → filter (λ y. f y && g y) xs ≡ filter g (filter f xs)
        → (if b && g x then x ∷ filter (λ y. f y && g y) xs else filter (λ y. f y && g y) xs) ≡ filter g (if b then x ∷ filter f xs else filter f xs)
    cases true rest = ap (λ (ys : List X). if g x then x ∷ ys else ys) rest
    cases false rest = rest

pub stored_in : (slot : ℕ) (run : List Entry) → stored_on slot run ≡ filter (λ e. is_stored e.event) (entries_on slot run)
stored_in slot run = filter_both (is_on slot) (λ e. is_stored e.event) run

-- what two runs with the same entries on a slot leave there
module _ (o : Opening) (old new : Run) (s : ShardRecord) (same : entries_on s.slot new ≡ entries_on s.slot old) where
  pub held-same : shard_rows o new s ≡ shard_rows o old s
  held-same = ap (λ (es : List Entry). all_applied (flat_map (λ e. held_changes e.event) es) (first_rows o s)) same

  pub mode-same : mode o new s.slot ≡ mode o old s.slot
  mode-same = ap (λ (es : List Entry). mode_from (if is_opening o s.slot then Serving else Following) es) same

  pub stored-same : stored_on s.slot new ≡ stored_on s.slot old
  stored-same = stored_in s.slot new ∙ ap (λ (es : List Entry). filter (λ e. is_stored e.event) es) same ∙ sym (stored_in s.slot old)

module _ (o : Opening) (limits : Limits) (old new : Run) (c : Contents) (same : entries_on c.shard.slot new ≡ entries_on c.shard.slot old) where
  pub still_holds : Holds o limits old c → Holds o limits new c
  still_holds is = record {
    rows = subst (SameRows c.store.rows) (sym (held-same o old new c.shard same)) is.rows;
    tables = is.tables;
    mode = is.mode ∙ sym (mode-same o old new c.shard same);
    stored = same_log _ _ _ _ refl (ap (map kept_of) (sym (stored-same o old new c.shard same))) is.stored;
    steps = is.steps ∙ ap (λ (es : List Entry). kept_from [] (flat_map (λ (e : Entry). steps_of e.event) es)) (sym same);
    within = λ serves. is.within (ap answers_queries (sym (mode-same o old new c.shard same)) ∙ serves);
  }

  pub still_keeps : Keeps o limits old c → Keeps o limits new c
  still_keeps (holds h) = holds (still_holds h)
  still_keeps (dropped d r) = dropped d (mode-same o old new c.shard same ∙ r)

pub still_after : (o : Opening) (limits : Limits) (old new : SeatView Entry) (c : Contents)
    → new.slot ≡ old.slot → entries_on old.slot new.seen ≡ entries_on old.slot old.seen → IsAfter o limits old c → IsAfter o limits new c
still_after o limits old new c slot same is =
    let alone : entries_on c.shard.slot new.seen ≡ entries_on c.shard.slot old.seen =
    subst (λ (i : ℕ). entries_on i new.seen ≡ entries_on i old.seen) is.slot same in
    record {
      opens = is.opens;
      slot = slot ∙ is.slot;
      stands = stands-same o old.seen new.seen c.shard alone is.stands;
      keeps = still_keeps o limits old.seen new.seen c alone is.keeps;
      entries =
          let h = ap length alone in
          let k = ap beyond (mode-same o old.seen new.seen c.shard alone) in
          let l = is.entries in
          omega (arith, h, k, l);
      limits = is.limits;
      most_rows = is.most_rows;
    }

-- contents that say the same, of the same stored entries
alike : (o : Opening) (limits : Limits) (seat : SeatView Entry) (c d : Contents) → IsAfter o limits seat c → d.shard ≡ c.shard
    → d.store.rows ≡ c.store.rows → d.mode ≡ c.mode → ((all : List (List RowChange)) → HasStored c.stored.log all → HasStored d.stored.log all)
    → d.steps.items ≡ c.steps.items → d.limits ≡ c.limits → IsAfter o limits seat d
alike o limits seat c d is shards rows modes stores came most =
    record {
      opens = is.opens;
      slot = is.slot ∙ ap (λ (s : ShardRecord). s.slot) (sym shards);
      stands = subst (IsOnItsSlot o seat.seen) (sym shards) is.stands;
      keeps = by is.keeps;
      entries = subst (λ (s : ShardRecord). length (entries_on s.slot seat.seen) ≤ 2 ^ 40 + beyond (mode o seat.seen s.slot)) (sym shards) is.entries;
      limits = most ∙ is.limits;
      most_rows = is.most_rows;
    }
  where
    by : Keeps o limits seat.seen c → Keeps o limits seat.seen d
    by (holds h) = holds (record {
      rows =
          subst (λ (s : ShardRecord). SameRows d.store.rows (shard_rows o seat.seen s)) (sym shards)
          (subst (λ (db : Database). SameRows db (shard_rows o seat.seen c.shard)) (sym rows) h.rows);
      tables = ap length rows ∙ h.tables;
      mode = modes ∙ h.mode ∙ ap (λ (s : ShardRecord). mode o seat.seen s.slot) (sym shards);
      stored = subst (λ (s : ShardRecord). HasStored d.stored.log (entries_kept s.slot seat.seen)) (sym shards) (stores (entries_kept c.shard.slot seat.seen) h.stored);
      steps = came ∙ h.steps ∙ ap (λ (s : ShardRecord). kept_on s.slot seat.seen) (sym shards);
      within = λ serves.
          subst (λ (db : Database). row_count db ≤ limits.rows) (sym rows)
          (h.within (ap (λ (s : ShardRecord). answers_queries (mode o seat.seen s.slot)) (sym shards) ∙ serves));
    })
    by (dropped e r) = dropped (modes ∙ e) (ap (λ (s : ShardRecord). mode o seat.seen s.slot) shards ∙ r)

pub same_contents : (o : Opening) (limits : Limits) (seat : SeatView Entry) (c d : Contents) → IsAfter o limits seat c → d.shard ≡ c.shard
    → d.store.rows ≡ c.store.rows → d.mode ≡ c.mode → d.stored.log ≡ c.stored.log → d.steps.items ≡ c.steps.items → d.limits ≡ c.limits → IsAfter o limits seat d
same_contents o limits seat c d is shards rows modes stores came most =
    alike o limits seat c d is shards rows modes (λ all h. same_log c.stored.log d.stored.log all all stores refl h) came most

-- and that keep what is stored from now on
pub followed_contents : (o : Opening) (limits : Limits) (seat : SeatView Entry) (c d : Contents) → IsAfter o limits seat c → d.shard ≡ c.shard
    → d.store.rows ≡ c.store.rows → d.mode ≡ c.mode → d.stored.log ≡ record c.stored.log { is_followed = true } → d.steps.items ≡ c.steps.items
    → d.limits ≡ c.limits → IsAfter o limits seat d
followed_contents o limits seat c d is shards rows modes stores came most =
    alike o limits seat c d is shards rows modes (λ all h. followed c.stored.log d.stored.log all stores h) came most

-- and that keep nothing of what was stored
pub unfollowed_contents : (o : Opening) (limits : Limits) (seat : SeatView Entry) (c d : Contents) → IsAfter o limits seat c → d.shard ≡ c.shard
    → d.store.rows ≡ c.store.rows → d.mode ≡ c.mode → d.stored.log ≡ given_up c.stored.log → d.steps.items ≡ c.steps.items
    → d.limits ≡ c.limits → IsAfter o limits seat d
unfollowed_contents o limits seat c d is shards rows modes stores came most =
    alike o limits seat c d is shards rows modes (λ all h. unfollowed c.stored.log d.stored.log all stores h) came most

-- a shard that isn't retired holds what the run leaves on it
pub holds_of : (o : Opening) (limits : Limits) (run : Run) (c : Contents) → Keeps o limits run c → (mode o run c.shard.slot ≡ Retired → ⊥) → Holds o limits run c
holds_of o limits run c (holds h) lives = h
holds_of o limits run c (dropped d r) lives = absurd (lives r)

-- the mode with the seat, as far as it answers
pub serves_is : (o : Opening) (limits : Limits) (run : Run) (c : Contents) → Keeps o limits run c → answers_queries c.mode ≡ answers_queries (mode o run c.shard.slot)
serves_is o limits run c (holds h) = ap answers_queries h.mode
serves_is o limits run c (dropped d r) = ap answers_queries d ∙ sym (ap answers_queries r)

pub lives_if : (m : Mode) → answers_queries m ≡ true → m ≡ Retired → ⊥
lives_if m serves is = false≢true (sym (ap answers_queries is) ∙ serves)

-- ---- one more entry

pub entries-on : (run : Run) (e : Entry) (slot : ℕ) → is_on slot e ≡ true → entries_on slot (run ++ e ∷ []) ≡ entries_on slot run ++ e ∷ []
entries-on run e slot i =
    let f : filter (is_on slot) (e ∷ []) ≡ e ∷ [] = simp i in
    filter-append (is_on slot) run (e ∷ []) ∙ ap (λ (z : Run). entries_on slot run ++ z) f

pub entries-off : (run : Run) (e : Entry) (slot : ℕ) → is_on slot e ≡ false → entries_on slot (run ++ e ∷ []) ≡ entries_on slot run
entries-off run e slot i =
    let f : filter (is_on slot) (e ∷ []) ≡ [] = simp i in
    filter-append (is_on slot) run (e ∷ []) ∙ (ap (λ (z : Run). entries_on slot run ++ z) f ∙ append-nil (entries_on slot run))

-- what a beginning has, the run has
pub contains_later : {X : Type 0} (x : X) (old new : List X) → IsPrefix old new → Contains old x → Contains new x
contains_later x old new (rest, is) there =
    subst (λ l. Contains l x) is (Contains-from_In x (old ++ rest) (In-left x old rest (In-from_Contains x old there)))

pub still_names : (o : Opening) (old new : Run) (s : ShardRecord) (targets : List ShardRecord) → entries_on s.slot new ≡ entries_on s.slot old → IsPrefix old new
    → RetiredFor o old s targets → RetiredFor o new s targets
still_names o old new s targets same later named retired =
    contains_later (record { shard = s; event = Retire targets }) old new later (named (sym (mode-same o old new s same) ∙ retired))

pub names_none : (o : Opening) (run : Run) (s : ShardRecord) (targets : List ShardRecord) → (mode o run s.slot ≡ Retired → ⊥) → RetiredFor o run s targets
names_none o run s targets lives retired = absurd (lives retired)

-- what lies with a seat after a look
module _ (o : Opening) (limits : Limits) (old new : SeatView Entry) (p : PassView Entry) (c : Contents) (targets : List ShardRecord)
    (later : IsLater slot_of commit_of (MayFollow o) old p new.seen) (slot : new.slot ≡ old.slot) (is : IsAfter o limits old c) where
  pub after_look : IsAfter o limits new c
  after_look = still_after o limits old new c slot later.alone is

  pub alone_here : entries_on c.shard.slot new.seen ≡ entries_on c.shard.slot old.seen
  alone_here = subst (λ (i : ℕ). entries_on i new.seen ≡ entries_on i old.seen) is.slot later.alone

  pub mode_after_look : mode o new.seen c.shard.slot ≡ mode o old.seen c.shard.slot
  mode_after_look = mode-same o old.seen new.seen c.shard alone_here

  pub names_after_look : RetiredFor o old.seen c.shard targets → RetiredFor o new.seen c.shard targets
  names_after_look = still_names o old.seen new.seen c.shard targets alone_here later.seat

-- what lies with a seat once it has looked, whatever else the state keeps
pub record Looked (o : Opening) (most : Limits) (seat : SeatView Entry) (c : Contents) (targets : List ShardRecord) : Type 0 where
  pub is : IsAfter o most seat c
  pub names : RetiredFor o seat.seen c.shard targets

pub looked : {X : Type 0} (o : Opening) (most : Limits) (old new : SeatView Entry) (p : PassView Entry) (c : Contents) (targets : List ShardRecord)
    → IsLater slot_of commit_of (MayFollow o) old p new.seen → new ≡ record old { seen = new.seen }
    → IsAfter o most old c × RetiredFor o old.seen c.shard targets × X → Looked o most new c targets
looked o most old new p c targets later seat is = record {
  is = after_look o most old new p c targets later (ap (λ (s : SeatView Entry). s.slot) seat) is.0;
  names = names_after_look o most old new p c targets later (ap (λ (s : SeatView Entry). s.slot) seat) is.0 is.1;
}

-- and where it serves
pub record Served (o : Opening) (most : Limits) (seat : SeatView Entry) (c : Contents) : Type 0 where
  pub serves : answers_queries (mode o seat.seen c.shard.slot) ≡ true
  pub holds : Holds o most seat.seen c

pub served : {X : Type 0} (o : Opening) (most : Limits) (old new : SeatView Entry) (p : PassView Entry) (c : Contents) (targets : List ShardRecord)
    → IsLater slot_of commit_of (MayFollow o) old p new.seen → new ≡ record old { seen = new.seen }
    → IsAfter o most old c × RetiredFor o old.seen c.shard targets × X → (v : ShardView) → state_view old.seen c ≡ v
    → answers_queries (mode o v.seen v.shard.slot) ≡ true → Served o most new c
served o most old new p c targets later seat is v view serves =
    let at = ap (λ (s : SeatView Entry). s.slot) seat in
    let now = ap answers_queries (mode_after_look o most old new p c targets later at is.0)
    ∙ subst (λ (x : ShardView). answers_queries (mode o x.seen x.shard.slot) ≡ true) (sym view) serves in
    record {
      serves = now;
      holds = holds_of o most new.seen c (after_look o most old new p c targets later at is.0).keeps (lives_if (mode o new.seen c.shard.slot) now);
    }
