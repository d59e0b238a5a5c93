-- A controller's pass goes on, look by look and entry by entry.
use Rattle.std.proofs.Common.{◌≡◌, ℕ, Bool, true, false, cond, ◌&&◌, filter, List, [], ◌∷◌, ◌++◌, refl, sym, ap, ◌∙◌, subst}
use Rattle.std.proofs.lemmas.List.{append-nil}
use Rattle.std.proofs.lemmas.List.Elements.{filter-append}
use mathlib.Core.List.{IsPrefix}
use Rattle.journal.specs.Runs.{IsLegal}
use Rattle.journal.specs.Views.{SeatView, PassView, IsLater}
use Rattle.shard_run.specs.declared.ShardRecord.{ShardRecord}
use Rattle.shard_run.specs.declared.Event.{Event}
use Rattle.shard_run.specs.declared.Entry.{Entry}
use Rattle.shard_run.specs.Runs.{Run, Opening, entries_on, stored_on, is_on, is_stored}
use Rattle.shard_contents.specs.Legal.{Legal}
use Rattle.shard_contents.proofs.Law.{beginnings}
use Rattle.shard_contents.proofs.Runs.{stored_on-push}
use Rattle.shard_contents.specs.Entries.{slot_of, commit_of, MayFollow, HasLooked, HasAppended, ShardView}
use Rattle.shard_contents.proofs.States.{stored_in, stored-same, contains_later}
use Rattle.follow.specs.Steps.{IsOnward, HasStepped}
use Rattle.follow.specs.Modes.{HasChangedMode}
use Rattle.follow.proofs.Onward as follows
use Rattle.reshard_cutover.specs.Steps.{HasEntry}

pub still : (o : Opening) (p : PassView Entry) → IsLegal (MayFollow o) p.seen → IsOnward o p p
still o p legal = follows.still o p legal

pub onward_trans : (o : Opening) (p q r : PassView Entry) → IsOnward o p q → IsOnward o q r → IsOnward o p r
onward_trans o p q r a b = follows.onward_trans o p q r a b

pub looked : (o : Opening) (p q now : PassView Entry) (seat : SeatView Entry) (run : Run) (looks : List (ℕ × ℕ)) → IsOnward o p q
    → IsLater slot_of commit_of (MayFollow o) seat q run → now ≡ record q { seen = run; looks = looks } → IsOnward o p now
looked o p q now seat run looks on later is = follows.looked o p q now seat run looks on later is

-- the first look of a pass that has seen a legal run
pub looked_first : (o : Opening) (p now : PassView Entry) (seat : SeatView Entry) (run : Run) (looks : List (ℕ × ℕ)) → IsLegal (MayFollow o) p.seen
    → IsLater slot_of commit_of (MayFollow o) seat p run → now ≡ record p { seen = run; looks = looks } → IsOnward o p now
looked_first o p now seat run looks legal later is = looked o p p now seat run looks (still o p legal) later is

-- a look that is told by what it leaves
pub has_looked : (o : Opening) (p q now : PassView Entry) (slot : ℕ) → IsOnward o p q → HasLooked o slot q now → IsOnward o p now
has_looked o p q now slot on is = follows.has_looked o p q now slot on is

pub stepped : (o : Opening) (p q now : PassView Entry) (v : ShardView) (which : ShardRecord) (ev : Event) → IsOnward o p q → HasAppended o v ev q now
    → v.shard ≡ which → HasStepped o which ev p now
stepped o p q now v which ev on is same = follows.stepped o p q now v which ev on is same

pub stepped_after : (o : Opening) (p q now : PassView Entry) (which : ShardRecord) (ev : Event) → IsOnward o p q → HasStepped o which ev q now → HasStepped o which ev p now
stepped_after o p q now which ev on is = follows.stepped_after o p q now which ev on is

-- a mode that has changed
pub changed : (o : Opening) (p q now : PassView Entry) (v : ShardView) (which : ShardRecord) (ev : Event) → IsOnward o p q → HasChangedMode o v ev q now
    → v.shard ≡ which → HasStepped o which ev p now
changed o p q now v which ev on is same =
    let once = has_looked o p q is.twice.first v.shard.slot on is.twice.once in
    let again = has_looked o p is.twice.first is.looked v.shard.slot once is.twice.again in
    stepped o p is.looked now (record v { seen = is.looked.seen }) which ev again is.appended same

-- an entry that isn't stored leaves what is stored
pub stored_stays : (o : Opening) (v : ShardView) (ev : Event) (p now : PassView Entry) → HasAppended o v ev p now → is_stored ev ≡ false
    → stored_on v.shard.slot now.seen ≡ stored_on v.shard.slot v.seen
stored_stays o v ev p now is plain =
    let slot = v.shard.slot in
    let e : Entry = record { shard = v.shard; event = ev } in
    let none : filter (λ (x : Entry). is_on slot x && is_stored x.event) (e ∷ []) ≡ [] = by (is_on slot e) in
    ap (stored_on slot) is.seen ∙ stored_on-push is.before e slot ∙ ap (λ (l : Run). stored_on slot is.before ++ l) none ∙ append-nil (stored_on slot is.before)
    ∙ stored-same o v.seen is.before v.shard is.later.alone
  where
    by : (b : Bool) → cond {A = Run} (b && is_stored ev) (record { shard = v.shard; event = ev } ∷ []) [] ≡ []
    by true = ap (λ c. cond {A = Run} c (record { shard = v.shard; event = ev } ∷ []) []) plain
    by false = refl

-- an entry that isn't stored, and no other of the shard
pub stored_same : (slot : ℕ) (old new : Run) (e : Entry) → entries_on slot new ≡ entries_on slot old ++ e ∷ [] → is_stored e.event ≡ false
    → stored_on slot new ≡ stored_on slot old
stored_same slot old new e entry plain =
    let none : filter (λ (x : Entry). is_stored x.event) (e ∷ []) ≡ [] = simp plain in
    stored_in slot new ∙ ap (filter (λ (x : Entry). is_stored x.event)) entry ∙ filter-append (λ (x : Entry). is_stored x.event) (entries_on slot old) (e ∷ [])
    ∙ ap (λ (l : Run). filter (λ (x : Entry). is_stored x.event) (entries_on slot old) ++ l) none ∙ append-nil (filter (λ (x : Entry). is_stored x.event) (entries_on slot old))
    ∙ sym (stored_in slot old)

-- by a change of mode nothing is stored
pub stored_unchanged : (o : Opening) (v : ShardView) (ev : Event) (p now : PassView Entry) → HasChangedMode o v ev p now → is_stored ev ≡ false
    → stored_on v.shard.slot now.seen ≡ stored_on v.shard.slot v.seen
stored_unchanged o v ev p now is plain =
    let slot = v.shard.slot in
    stored_stays o (record v { seen = is.looked.seen }) ev is.looked now is.appended plain
    ∙ stored_in slot is.looked.seen ∙ ap (filter (λ (x : Entry). is_stored x.event)) is.alone ∙ sym (stored_in slot v.seen)

pub legal_front : (o : Opening) (early run : Run) → IsPrefix early run → Legal o run → Legal o early
legal_front o early run (rest, is) legal = beginnings o early rest (subst (Legal o) (sym is) legal)

-- ---- entries that the pass has seen

pub entry_later : (old new : Run) (s : ShardRecord) (ev : Event) → IsPrefix old new → HasEntry old s ev → HasEntry new s ev
entry_later old new s ev later h = contains_later (record { shard = s; event = ev }) old new later h
