-- Where no other session comes between, a pass that has made no commit has seen the one database that it had seen.
use Rattle.std.proofs.Common.{◌≡◌, ℕ, List, [], ◌∷◌, ◌++◌, filter, None, sym, refl, ap, subst, ◌∙◌, inl, append_assoc}
use Rattle.std.specs.List.{AllByRecursion}
use Rattle.std.proofs.lemmas.Bool.{eq-eqb}
use Rattle.std.proofs.lemmas.Grind.{flat_map-append}
use Rattle.std.proofs.lemmas.List.{append-nil, append_cancel_left}
use Rattle.std.proofs.lemmas.List.Elements.{filter-append}
use mathlib.Core.List.{IsPrefix}
use Rattle.vschema.specs.declared.changes.RowChange.{RowChange}
use Rattle.vschema.specs.declared.changes.Write.{Write}
use Rattle.vschema.specs.Database.{all_applied}
use Rattle.journal.specs.Runs.{by_session}
use Rattle.journal.specs.Views.{PassView}
use Rattle.journal.proofs.Fronts.{prefix_self, prefix_trans}
use Rattle.shard_run.specs.declared.ShardRecord.{ShardRecord}
use Rattle.shard_run.specs.declared.Event.{Event}
use Rattle.shard_run.specs.declared.Event.TheVariants.{Commit, Follow, Copy, Freeze, Thaw, Retire, Serve}
use Rattle.shard_run.specs.declared.Entry.{Entry}
use Rattle.shard_run.specs.Runs.{Run, Opening, opening_rows, database}
use Rattle.shard_contents.proofs.Runs.{commits}
use Rattle.shard_contents.proofs.Lists.{In, In-filter, all-append}
use Rattle.shard_contents.specs.Limits.{Limits}
use Rattle.shard_contents.specs.Entries.{commit_of, HasLooked}
use Rattle.shard_contents.specs.Commits.{HasCommitted}
use Rattle.shard_calls.specs.Answers.{HasGoneOn, HasGone}
use Rattle.shard_calls.specs.Alone.{IsNoOthers, NoOthers, NoCommits}

module _ {X : Type 0} where
  pub all_front : (P : X → Type 0) (xs ys : List X) → AllByRecursion P (xs ++ ys) → AllByRecursion P xs
  all_front P [] ys h = tt
  all_front P (x ∷ xs) ys h = (h.0, all_front P xs ys h.1)

  pub all_back : (P : X → Type 0) (xs ys : List X) → AllByRecursion P (xs ++ ys) → AllByRecursion P ys
  all_back P [] ys h = h
  all_back P (x ∷ xs) ys h = all_back P xs ys h.1

-- ---- entries that are no commits

abbrev IsNone : Entry → Type 0
IsNone e = commit_of e ≡ None

no_changes : (run : List Entry) → AllByRecursion IsNone run → commits run ≡ []
no_changes [] all = refl
no_changes (e ∷ run) all = by e.event all.0 (no_changes run all.1)
  where
    by : (event : Event) → commit_of (record { shard = e.shard; event = event }) ≡ None → commits run ≡ []
        → commits (record { shard = e.shard; event = event } ∷ run) ≡ []
    by (Commit c) none rest = absurd (cc none)
    by (Follow f) none rest = rest
    by (Copy c) none rest = rest
    by Freeze none rest = rest
    by Thaw none rest = rest
    by (Retire targets) none rest = rest
    by Serve none rest = rest

-- they leave the one database
pub one_still : (o : Opening) (before now : Run) → NoCommits before now → database o now ≡ database o before
one_still o before now still =
    let all : commits (before ++ still.added) ≡ commits before =
    flat_map-append (λ (e : Entry). Rattle.shard_run.specs.Runs.commit_changes e.event) before still.added
    ∙ ap (λ (l : List RowChange). commits before ++ l) (no_changes still.added still.none) ∙ append-nil (commits before) in
    ap (λ (l : List RowChange). all_applied l (opening_rows o)) (ap commits still.seen ∙ all)

pub still_self : (run : Run) → NoCommits run run
still_self run = record { added = []; seen = sym (append-nil run); none = tt }

pub still_trans : (a b c : Run) → NoCommits a b → NoCommits b c → NoCommits a c
still_trans a b c x y = record {
  added = x.added ++ y.added;
  seen = y.seen ∙ ap (λ (l : Run). l ++ y.added) x.seen ∙ append_assoc a x.added y.added;
  none = all-append IsNone x.added y.added x.none y.none;
}

-- a run between
pub still_between : (a mid b : Run) → IsPrefix a mid → IsPrefix mid b → NoCommits a b → NoCommits a mid
still_between a mid b before after still =
    let same : before.0 ++ after.0 ≡ still.added =
    append_cancel_left a (before.0 ++ after.0) still.added
    (sym (append_assoc a before.0 after.0) ∙ ap (λ (l : List Entry). l ++ after.0) before.1 ∙ after.1 ∙ still.seen) in
    record { added = before.0; seen = sym before.1; none = all_front IsNone before.0 after.0 (subst (AllByRecursion IsNone) (sym same) still.none) }

-- where no commit is another's and none is the session's there is none
quiet : (n : ℕ) (run : List Entry) → AllByRecursion (IsNoOthers n) run → filter (by_session commit_of n) run ≡ [] → AllByRecursion IsNone run
quiet n [] all none = tt
quiet n (e ∷ run) all none = by e.event all.0 none (quiet n run all.1)
  where
    by : (event : Event) → IsNoOthers n (record { shard = e.shard; event = event }) → filter (by_session commit_of n) (record { shard = e.shard; event = event } ∷ run) ≡ []
        → (filter (by_session commit_of n) run ≡ [] → AllByRecursion IsNone run)
        → AllByRecursion IsNone (record { shard = e.shard; event = event } ∷ run)
    by (Commit c) own none rest =
        let x : Entry = record { shard = e.shard; event = Commit c } in
        absurd (subst (In x) none (In-filter (by_session commit_of n) x (eq-eqb c.session n (own (c.session, c.number) refl)) (x ∷ run) (inl refl)))
    by (Follow f) own none rest = (refl, rest none)
    by (Copy c) own none rest = (refl, rest none)
    by Freeze own none rest = (refl, rest none)
    by Thaw own none rest = (refl, rest none)
    by (Retire targets) own none rest = (refl, rest none)
    by Serve own none rest = (refl, rest none)

-- ---- a pass with which no other session comes

module _ (p now : PassView Entry) (alone : NoOthers p now) where
  abbrev own : List Entry → List Entry
  own run = filter (by_session commit_of alone.session) run

  -- what was added up to a run between, and after it
  added_is : (mid : Run) (before : IsPrefix p.seen mid) (after : IsPrefix mid now.seen) → before.0 ++ after.0 ≡ alone.added
  added_is mid before after =
      append_cancel_left p.seen (before.0 ++ after.0) alone.added
      (sym (append_assoc p.seen before.0 after.0) ∙ ap (λ (l : List Entry). l ++ after.0) before.1 ∙ after.1 ∙ alone.seen)

  all_own : (mid : Run) (before : IsPrefix p.seen mid) (after : IsPrefix mid now.seen) → AllByRecursion (IsNoOthers alone.session) (before.0 ++ after.0)
  all_own mid before after = subst (AllByRecursion (IsNoOthers alone.session)) (sym (added_is mid before after)) alone.own

  -- a run between that has no more commits of the session
  pub unchanged : (mid : Run) → IsPrefix p.seen mid → IsPrefix mid now.seen → own mid ≡ own p.seen → NoCommits p.seen mid
  unchanged mid before after same =
      let whole : own p.seen ++ own before.0 ≡ own p.seen ++ [] =
      sym (filter-append (by_session commit_of alone.session) p.seen before.0) ∙ ap own before.1 ∙ same ∙ sym (append-nil (own p.seen)) in
      record {
        added = before.0;
        seen = sym before.1;
        none =
            quiet alone.session before.0 (all_front (IsNoOthers alone.session) before.0 after.0 (all_own mid before after))
            (append_cancel_left (own p.seen) (own before.0) [] whole);
      }

  -- no other session comes up to a pass between, and after it
  pub up_to : (mid : PassView Entry) → IsPrefix p.seen mid.seen → IsPrefix mid.seen now.seen → NoOthers p mid
  up_to mid before after = record {
    session = alone.session;
    of_session = alone.of_session;
    added = before.0;
    seen = sym before.1;
    own = all_front (IsNoOthers alone.session) before.0 after.0 (all_own mid.seen before after);
  }

  pub trailing : (mid : PassView Entry) → IsPrefix p.seen mid.seen → IsPrefix mid.seen now.seen → mid.session ≡ p.session → NoOthers mid now
  trailing mid before after same = record {
    session = alone.session;
    of_session = same ∙ alone.of_session;
    added = after.0;
    seen = sym after.1;
    own = all_back (IsNoOthers alone.session) before.0 after.0 (all_own mid.seen before after);
  }

  pub gone_unchanged : (o : Opening) (added : List (ℕ × ℕ)) → HasGoneOn o p added now → NoCommits p.seen now.seen
  gone_unchanged o added gone = unchanged now.seen gone.later (prefix_self now.seen) (gone.own alone.session alone.of_session)

  pub gone_same : (o : Opening) → HasGone o p now → NoCommits p.seen now.seen
  gone_same o gone = gone_unchanged o gone.0 gone.1

  pub looked_unchanged : (o : Opening) (slot : ℕ) → HasLooked o slot p now → NoCommits p.seen now.seen
  looked_unchanged o slot looked = unchanged now.seen looked.later (prefix_self now.seen) (looked.own alone.session alone.of_session)

  -- a commit's entry stands after what was seen, and no other commit between
  pub committed_at : (o : Opening) (l : Limits) (s : ShardRecord) (w : Write) (count : ℕ) (c : HasCommitted o l s p w count now) → NoCommits p.seen c.before
  committed_at o l s w count c =
      unchanged c.before (prefix_trans p.seen c.looked.seen c.before c.look.later c.later) (_, sym c.seen) (c.own alone.session alone.of_session)
