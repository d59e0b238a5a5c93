-- Why a transaction is refused for a conflict: after one of its statements another session's commit has changed a row of that statement's table.
use Rattle.std.proofs.Common.{◌≡◌, inl, inr, ℕ, Bool, true, false, ◌||◌, ◌&&◌, List, [], ◌∷◌, ◌++◌, length, drop, filter, Option, Some, refl, sym, ap, subst, ◌∙◌}
use Rattle.std.proofs.Math.Seq.{drop-append_seam}
use Rattle.std.specs.List.{AllByRecursion, list_any}
use Rattle.std.proofs.lemmas.Bool.{false≢true, and_parts, eqb-true, eq-eqb}
use Rattle.std.proofs.lemmas.List.{append-nil, append_cancel_left}
use Rattle.std.proofs.lemmas.List.Elements.{filter-append}
use mathlib.Core.List.{IsPrefix}
use Rattle.journal.specs.Runs.{IsLegal, by_session}
use Rattle.journal.proofs.Fronts.{prefix_trans}
use Rattle.shard_contents.proofs.Has.{of_shard}
use Rattle.shard_contents.proofs.Law.{slots, legal_back}
use Rattle.shard_contents.proofs.Lists.{In, In-all, In-right, In-filter, In-from_filter, Contains-from_In}
use Rattle.shard_contents.proofs.Since.{not_again}
use Rattle.shard_run.specs.declared.Mode.TheVariants.{Following, Serving}
use Rattle.shard_run.specs.declared.ShardRecord.{ShardRecord}
use Rattle.shard_run.specs.declared.Entry.{Entry}
use Rattle.shard_run.specs.declared.Event.{Event}
use Rattle.shard_run.specs.declared.Event.TheVariants.{Commit, Follow, Copy, Freeze, Thaw, Retire, Serve}
use Rattle.shard_run.specs.Runs.{Run, Opening, mode, answers_queries, is_on, is_stored, stored_on}
use Rattle.shard_contents.specs.Legal.{LegalFrom, May, IsOnItsSlot}
use Rattle.shard_run.specs.Openings.{IsOpening}
use Rattle.shard_contents.specs.declared.touched_table.Touch.{Touch}
use Rattle.shard_contents.specs.Entries.{MayFollow, commit_of}
use Rattle.shard_contents.specs.Transactions.{changes_table, is_changed, is_conflict}
use Rattle.shard_calls.proofs.Conflicts.{stored_is}
use Rattle.shard_contents.proofs.Legality.{legal_is, of_run}
use Rattle.shard_calls.specs.Transactions.{TransactionStatement, IsConflict}
use Rattle.shard_calls.specs.Pendings.{IsTouchOf}
use Rattle.route_engine.proofs.NoOthers.{all_front}

-- ---- one shard on a slot

-- what stands on its slot stood there before
pub stands_early : (o : Opening) (old new : Run) (s : ShardRecord) → IsPrefix old new → IsOnItsSlot o new s → IsOnItsSlot o old s
stands_early o old new s later is = record {
  slot = is.slot;
  range = is.range;
  same =
      all_front (λ (e : Entry). e.shard.slot ≡ s.slot → e.shard ≡ s) old later.0
      (subst (AllByRecursion (λ (e : Entry). e.shard.slot ≡ s.slot → e.shard ≡ s)) (sym later.1) is.same);
  opening = is.opening;
  target = is.target;
}

pub one_on_slot : (o : Opening) → IsOpening o → (run : Run) → IsLegal (MayFollow o) run → (a b : ShardRecord) → IsOnItsSlot o run a → IsOnItsSlot o run b
    → mode o run a.slot ≡ Serving → a.slot ≡ b.slot → a ≡ b
one_on_slot o opens run legal a b on_a on_b serves same =
    (slots o opens run (legal_is o run legal)).unique a b (of_shard o run a (of_run o opens run a on_a (ap answers_queries serves)))
    (of_shard o run b (of_run o opens run b on_b (ap answers_queries (subst (λ n. mode o run n ≡ Serving) same serves)))) same

-- ---- what comes after a run at which a shard served

-- where an entry stands, the shard on the slot didn't follow
record Stood (o : Opening) (slot : ℕ) (e : Entry) : Type 0 where
  before : Run
  past : mode o before slot ≡ Following → ⊥
  may : May o before e.shard e.event

stood : (o : Opening) (slot : ℕ) (before run : Run) (e : Entry) → LegalFrom o before run → (mode o before slot ≡ Following → ⊥) → In e run → Stood o slot e
stood o slot before [] e legal past h = absurd h
stood o slot before (x ∷ run) e legal past (inl h) =
    record { before = before; past = past; may = subst (λ (y : Entry). May o before y.shard y.event) h legal.1 }
stood o slot before (x ∷ run) e legal past (inr h) = stood o slot (before ++ x ∷ []) run e legal.2 (not_again o slot before x past) h

pub found : {X : Type 0} (p : X → Bool) (xs : List X) → list_any p xs ≡ true → (x : X) × In x xs × (p x ≡ true)
found p [] h = absurd (false≢true h)
found {X} p (x ∷ xs) h = by (p x) refl h (found p xs)
  where
    by : (b : Bool) → p x ≡ b → (b || list_any p xs) ≡ true → (list_any p xs ≡ true → (y : X) × In y xs × (p y ≡ true)) → (y : X) × In y (x ∷ xs) × (p y ≡ true)
    by true e h rest = (x, inl refl, e)
    by false e h rest = let r = rest h in (r.0, inr r.1, r.2)

abbrev own : ℕ → Run → Run
own n run = filter (by_session commit_of n) run

-- a session without a commit after a run has none there
none_own : (n : ℕ) (front trailing now : Run) → now ≡ front ++ trailing → own n now ≡ own n front → (e : Entry) → In e trailing → by_session commit_of n e ≡ true → ⊥
none_own n front trailing now is same e h of =
    let none : own n trailing ≡ [] =
    append_cancel_left (own n front) (own n trailing) []
    (sym (filter-append (by_session commit_of n) front trailing) ∙ ap (own n) (sym is) ∙ same ∙ sym (append-nil (own n front))) in
    subst (In e) none (In-filter (by_session commit_of n) e of trailing h)

module _ (o : Opening) (s : ShardRecord) (at now : Run) (later : IsPrefix at now) (legal : IsLegal (MayFollow o) now) (stands : IsOnItsSlot o now s)
    (session : Option ℕ) (mine : (n : ℕ) → session ≡ Some n → own n now ≡ own n at) (steps : List TransactionStatement) (touched : List Touch)
    (touches : AllByRecursion (IsTouchOf o s session at steps) touched) where
  -- The cause of a conflict.
  pub cause : is_conflict (stored_on s.slot now) touched ≡ true → IsConflict o s session now steps
  cause h =
      let t = found (is_changed (stored_on s.slot now)) touched h in
      let of : IsTouchOf o s session at steps t.0 = In-all (IsTouchOf o s session at steps) t.0 touched touches t.1 in
      let front : IsPrefix of.step.seen now = prefix_trans of.step.seen at now of.before later in
      let cut : drop t.0.stored (stored_on s.slot now) ≡ stored_on s.slot front.0 =
      ap (λ k. drop k (stored_on s.slot now)) of.stored ∙ ap (drop (length (stored_on s.slot of.step.seen))) (stored_is o s of.step.seen now front)
      ∙ drop-append_seam (stored_on s.slot of.step.seen) (stored_on s.slot front.0) in
      let e = found (changes_table t.0.table) (stored_on s.slot front.0) (ap (list_any (changes_table t.0.table)) (sym cut) ∙ t.2) in
      let kept = In-from_filter (λ e. is_on s.slot e && is_stored e.event) e.0 front.0 e.1 in
      let is = and_parts (is_on s.slot e.0) (is_stored e.0.event) kept.1 in
      let on = eqb-true e.0.shard.slot s.slot is.0 in
      let inside : In e.0 now = subst (In e.0) front.1 (In-right e.0 of.step.seen front.0 kept.0) in
      let same : e.0.shard ≡ s = In-all (λ (x : Entry). x.shard.slot ≡ s.slot → x.shard ≡ s) e.0 now stands.same inside on in
      let back : LegalFrom o of.step.seen front.0 = legal_back o of.step.seen front.0 [] (subst (LegalFrom o []) (sym front.1) (legal_is o now legal)) in
      let past : mode o of.step.seen s.slot ≡ Following → ⊥ = λ f. let i = of.serves in absurd (cc (i, f)) in
      by t.0 of front e.0.shard e.0.event same is.1 on kept.0 (stood o s.slot of.step.seen front.0 e.0 back past kept.0) e.2
    where
      by : (x : Touch) (of : IsTouchOf o s session at steps x) (front : IsPrefix of.step.seen now) (sh : ShardRecord) (ev : Event) → sh ≡ s → is_stored ev ≡ true
          → sh.slot ≡ s.slot → In (record { shard = sh; event = ev }) front.0 → Stood o s.slot (record { shard = sh; event = ev })
          → changes_table x.table (record { shard = sh; event = ev }) ≡ true → IsConflict o s session now steps
      by x of front sh (Commit c) same stored on there stood changed =
          let trailing : In (record { shard = s; event = Commit c }) front.0 = subst (λ (u : ShardRecord). In (record { shard = u; event = Commit c }) front.0) same there in
          record {
            step = of.step;
            is = of.is;
            on = of.on;
            table = x.table;
            touched = of.table;
            trailing = front.0;
            since = sym front.1;
            commit = c;
            there = Contains-from_In (record { shard = s; event = Commit c }) front.0 trailing;
            other = λ e.
                none_own c.session of.step.seen front.0 now (sym front.1) (mine c.session e ∙ of.own c.session e) (record { shard = s; event = Commit c }) trailing
                (eq-eqb c.session c.session refl);
            changed = changed;
          }
      by x of front sh (Follow f) same stored on there stood changed = absurd (stood.past (ap (mode o stood.before) (sym on) ∙ stood.may.following))
      by x of front sh (Copy c) same stored on there stood changed = absurd (false≢true stored)
      by x of front sh Freeze same stored on there stood changed = absurd (false≢true stored)
      by x of front sh Thaw same stored on there stood changed = absurd (false≢true stored)
      by x of front sh (Retire targets) same stored on there stood changed = absurd (false≢true stored)
      by x of front sh Serve same stored on there stood changed = absurd (false≢true stored)
