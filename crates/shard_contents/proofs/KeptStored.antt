-- What is kept of the entries that a run has stored: as many, and of each what it changes.
use Rattle.std.proofs.Common.{◌≡◌, ℕ, zero, suc, ◌<◌, Bool, ◌&&◌, ◌||◌, List, [], ◌∷◌, ◌++◌, map, drop, length, get_or, filter, Some, refl, sym, ap, ◌∙◌, arith}
use Rattle.std.specs.Prelude.{slice_get}
use Rattle.std.specs.List.{list_any}
use Rattle.std.proofs.lemmas.List.{length-map, map-append}
use Rattle.vschema.specs.declared.changes.RowChange.{RowChange}
use Rattle.shard_law.specs.Entry.{Entry}
use Rattle.shard_law.specs.ShardRunRuns.{Run, stored_on, is_on, is_stored}
use Rattle.shard_law.proofs.Runs.{stored_on-push}
use Rattle.shard_contents.specs.declared.touched_table.Touch.{Touch}
use Rattle.shard_contents.specs.Transactions.{changes_table, is_changed, is_conflict}
use Rattle.shard_contents.specs.KeptEntries.{kept_of, entries_kept}
use Rattle.shard_contents.specs.inner.KeptConflicts.{keeps_table, is_conflict_since}

pub length-kept : (slot : ℕ) (run : Run) → length (entries_kept slot run) ≡ length (stored_on slot run)
length-kept slot run = length-map (stored_on slot run) kept_of

pub none_kept : (entries : List Entry) → map kept_of entries ≡ [] → entries ≡ []
none_kept [] none = refl
none_kept (e ∷ entries) none = absurd (cc none)

-- one more entry that is stored
pub kept_push : (run : Run) (e : Entry) (slot : ℕ) → filter (λ (x : Entry). is_on slot x && is_stored x.event) (e ∷ []) ≡ e ∷ []
    → entries_kept slot (run ++ e ∷ []) ≡ entries_kept slot run ++ kept_of e ∷ []
kept_push run e slot one =
    ap (map kept_of) (stored_on-push run e slot ∙ ap (λ (l : Run). stored_on slot run ++ l) one) ∙ map-append kept_of (stored_on slot run) (e ∷ [])

-- what is kept at a place is of the entry that is stored there
pub kept_at : (entries : List Entry) (at : ℕ) (changes : List RowChange) → at < length (map kept_of entries) → changes ≡ get_or (map kept_of entries) at changes
    → (e : Entry) × (slice_get entries at ≡ Some e) × (kept_of e ≡ changes)
kept_at [] at changes there is = absurd (omega (arith, there))
kept_at (e ∷ entries) zero changes there is = (e, refl, sym is)
kept_at (e ∷ entries) (suc at) changes there is = kept_at entries at changes (omega (arith, there)) is

-- ---- conflicts

any_kept : (n : ℕ) (entries : List Entry) → list_any (keeps_table n) (map kept_of entries) ≡ list_any (changes_table n) entries
any_kept n [] = refl
any_kept n (e ∷ entries) = ap (λ (b : Bool). keeps_table n (kept_of e) || b) (any_kept n entries)

changed_kept : (entries : List Entry) (n stored : ℕ) → list_any (keeps_table n) (drop stored (map kept_of entries)) ≡ list_any (changes_table n) (drop stored entries)
changed_kept [] n zero = refl
changed_kept [] n (suc stored) = refl
changed_kept (e ∷ entries) n zero = any_kept n (e ∷ entries)
changed_kept (e ∷ entries) n (suc stored) = changed_kept entries n stored

pub conflict_kept : (entries : List Entry) (touched : List Touch) → is_conflict_since (map kept_of entries) touched ≡ is_conflict entries touched
conflict_kept entries [] = refl
conflict_kept entries (t ∷ touched) =
    ap (λ (b : Bool). b || is_conflict_since (map kept_of entries) touched) (changed_kept entries t.table t.stored)
    ∙ ap (λ (b : Bool). is_changed entries t || b) (conflict_kept entries touched)
