-- What a shard still has of the entries that it has stored, while it stores more.
use Rattle.std.proofs.Common.{◌≡◌, ℕ, zero, suc, ◌+◌, ◌-◌, ◌<◌, ◌≤◌, nat_lt, Bool, true, false, ◌||◌, List, [], ◌∷◌, ◌++◌, if◌then◌else◌, drop, length, get_or, Some, refl, sym, ap, ◌∙◌, subst, arith}
use Rattle.std.specs.Prelude.{slice_get}
use Rattle.std.specs.List.{list_any}
use Rattle.std.proofs.lemmas.Bool.{le-ltb}
use Rattle.std.proofs.lemmas.List.{drop-append-le, drop_all, length_push, length-drop, get_or-drop}
use Rattle.std.proofs.lemmas.Option.{slice_get_within, get_or_from_slice_get}
use Rattle.vschema.specs.declared.changes.RowChange.{RowChange}
use Rattle.shard_contents.specs.declared.touched_table.Touch.{Touch}
use Rattle.shard_contents.specs.inner.KeptConflicts.{keeps_table, is_changed_since, is_conflict_since}
use Rattle.shard_contents.specs.inner.LastChanges.{last_change, tells_conflict, TellLastChanges}
use Rattle.shard_contents.specs.inner.StoredLogs.{StoredLog, nothing_stored, count_of, given_up, HasStored, HasStoredNext}
use Rattle.shard_contents.proofs.ChangesSince.{tell_next}

pub count-stored : (log : StoredLog) (all : List (List RowChange)) → HasStored log all → count_of log ≡ length all
count-stored log all h =
    let k = ap length h.kept in
    let l = length-drop log.first all in
    let w = h.within in
    omega (arith, k, l, w)

-- another log that says the same, of the same entries
pub same_log : (log now : StoredLog) (all entries : List (List RowChange)) → now ≡ log → all ≡ entries → HasStored log all → HasStored now entries
same_log log now all entries logs same h = subst (HasStored now) same (subst (λ (l : StoredLog). HasStored l all) (sym logs) h)

-- ---- no entry yet

none_changed : (n table : ℕ) → list_any (keeps_table table) (drop n []) ≡ nat_lt n 0
none_changed zero table = refl
none_changed (suc n) table = sym (le-ltb (suc n) 0 (omega arith))

never_changed : (n : ℕ) → last_change [] n ≡ 0
never_changed zero = refl
never_changed (suc n) = refl

nothing : HasStored nothing_stored []
nothing = record {
  within = omega arith;
  kept = refl;
  last = λ t. none_changed t.stored t.table ∙ ap (nat_lt t.stored) (sym (never_changed t.table));
}

pub nothing_is : (log : StoredLog) (all : List (List RowChange)) → log ≡ nothing_stored → all ≡ [] → HasStored log all
nothing_is log all logs none = same_log nothing_stored log [] all logs (sym none) nothing

-- ---- one more entry

pub first_next : (log now : StoredLog) (e : List RowChange) → HasStoredNext log e now → log.is_followed ≡ true → now.first ≡ log.first
first_next log now e next followed = next.first ∙ ap (λ (b : Bool). if b then log.first else count_of log + 1) followed

pub kept_next : (log now : StoredLog) (e : List RowChange) → HasStoredNext log e now → log.is_followed ≡ true → now.kept ≡ log.kept ++ e ∷ []
kept_next log now e next followed = next.kept ∙ ap (λ (b : Bool). if b then log.kept ++ e ∷ [] else []) followed

pub stored_next : (log now : StoredLog) (all : List (List RowChange)) (e : List RowChange) → HasStored log all → HasStoredNext log e now
    → HasStored now (all ++ e ∷ [])
stored_next log now all e h next = by log.is_followed refl
  where
    count : count_of log ≡ length all
    count = count-stored log all h

    last : TellLastChanges (all ++ e ∷ []) now.last
    last =
        tell_next all e log.last now.last h.last
        (λ n. next.last n ∙ ap (λ (k : ℕ). if keeps_table n e then k + 1 else last_change log.last n) count)

    by : (b : Bool) → log.is_followed ≡ b → HasStored now (all ++ e ∷ [])
    by true followed =
        let first = first_next log now e next followed in
        let l = length_push all e in
        let w = h.within in
        record {
          within = omega (arith, first, l, w);
          kept =
              kept_next log now e next followed
              ∙ ap (λ (x : List (List RowChange)). x ++ e ∷ []) h.kept
              ∙ sym (drop-append-le log.first all (e ∷ []) h.within)
              ∙ ap (λ (n : ℕ). drop n (all ++ e ∷ [])) (sym first);
          last = last;
        }
    by false alone =
        let first : now.first ≡ count_of log + 1 = next.first ∙ ap (λ (b : Bool). if b then log.first else count_of log + 1) alone in
        let kept : now.kept ≡ [] = next.kept ∙ ap (λ (b : Bool). if b then log.kept ++ e ∷ [] else []) alone in
        let l = length_push all e in
        record {
          within = omega (arith, first, l, count);
          kept = kept ∙ sym (drop_all now.first (all ++ e ∷ []) (omega (arith, first, l, count)));
          last = last;
        }

-- ---- from now on entries are kept

pub followed : (log now : StoredLog) (all : List (List RowChange)) → now ≡ record log { is_followed = true } → HasStored log all → HasStored now all
followed log now all is h =
    same_log (record log { is_followed = true }) now all all is refl (record { within = h.within; kept = h.kept; last = h.last })

-- none is kept any more
pub unfollowed : (log now : StoredLog) (all : List (List RowChange)) → now ≡ given_up log → HasStored log all → HasStored now all
unfollowed log now all is h =
    let count = count-stored log all h in
    same_log (given_up log) now all all is refl
    (record { within = omega (arith, count); kept = sym (drop_all (count_of log) all (omega (arith, count))); last = h.last })

-- ---- what the log tells

pub conflict_told : (all : List (List RowChange)) (last : List ℕ) → TellLastChanges all last → (touched : List Touch)
    → tells_conflict last touched ≡ is_conflict_since all touched
conflict_told all last tell [] = refl
conflict_told all last tell (t ∷ touched) =
    ap (λ (b : Bool). b || tells_conflict last touched) (sym (tell t))
    ∙ ap (λ (b : Bool). is_changed_since all t || b) (conflict_told all last tell touched)

-- an entry that is kept is the one that was stored at its place
pub kept_at_its_place : (all : List (List RowChange)) (first at : ℕ) (e : List RowChange) → first ≤ at → slice_get (drop first all) (at - first) ≡ Some e
    → (at < length all) × (e ≡ get_or all at e)
kept_at_its_place all first at e there is =
    let w = slice_get_within (drop first all) (at - first) e is in
    let l = length-drop first all in
    let same : first + (at - first) ≡ at = omega (arith, there) in (
      omega (arith, w, l, there),
      sym (get_or_from_slice_get (drop first all) (at - first) e e is) ∙ get_or-drop first all (at - first) e ∙ ap (λ (n : ℕ). get_or all n e) same,
    )
