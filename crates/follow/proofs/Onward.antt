-- A controller's pass goes on, look by look and entry by entry.
use Rattle.std.proofs.Common.{◌≡◌, ℕ, List, [], ◌∷◌, ◌++◌, refl, sym, ap, ◌∙◌, subst}
use mathlib.Core.List.{IsPrefix}
use Rattle.journal.specs.Runs.{IsLegal}
use Rattle.journal.specs.Views.{SeatView, PassView, IsLater}
use Rattle.journal.proofs.Fronts.{prefix_trans, prefix_self}
use Rattle.shard_run.specs.declared.ShardRecord.{ShardRecord}
use Rattle.shard_run.specs.declared.Event.{Event}
use Rattle.shard_run.specs.declared.Entry.{Entry}
use Rattle.shard_run.specs.Runs.{Run, Opening}
use Rattle.shard.specs.Entries.{slot_of, commit_of, MayFollow, HasLooked, HasAppended, ShardView}
use Rattle.follow.specs.Steps.{IsOnward, HasStepped}

pub still : (o : Opening) (p : PassView Entry) → IsLegal (MayFollow o) p.seen → IsOnward o p p
still o p legal = record { legal = legal; later = prefix_self p.seen; session = refl }

pub onward_trans : (o : Opening) (p q r : PassView Entry) → IsOnward o p q → IsOnward o q r → IsOnward o p r
onward_trans o p q r a b = record {
  legal = b.legal;
  later = prefix_trans p.seen q.seen r.seen a.later b.later;
  session = b.session ∙ a.session;
}

pub looked : (o : Opening) (p q now : PassView Entry) (seat : SeatView Entry) (run : Run) (looks : List (ℕ × ℕ)) → IsOnward o p q
    → IsLater slot_of commit_of (MayFollow o) seat q run → now ≡ record q { seen = run; looks = looks } → IsOnward o p now
looked o p q now seat run looks on later is = record {
  legal = subst (λ (x : PassView Entry). IsLegal (MayFollow o) x.seen) (sym is) later.legal;
  later = subst (λ (x : PassView Entry). IsPrefix p.seen x.seen) (sym is) (prefix_trans p.seen q.seen run on.later later.pass);
  session = ap (λ (x : PassView Entry). x.session) is ∙ on.session;
}

-- a look that is told by what it leaves
pub has_looked : (o : Opening) (p q now : PassView Entry) (slot : ℕ) → IsOnward o p q → HasLooked o slot q now → IsOnward o p now
has_looked o p q now slot on is = record {
  legal = is.legal;
  later = prefix_trans p.seen q.seen now.seen on.later is.later;
  session = ap (λ (x : PassView Entry). x.session) is.pass ∙ on.session;
}

pub stepped : (o : Opening) (p q now : PassView Entry) (v : ShardView) (which : ShardRecord) (ev : Event) → IsOnward o p q → HasAppended o v ev q now
    → v.shard ≡ which → HasStepped o which ev p now
stepped o p q now v which ev on is same = record {
  onward = record {
    legal = is.legal;
    later = prefix_trans p.seen q.seen now.seen on.later (prefix_trans q.seen is.before now.seen is.later.pass (_, sym is.seen));
    session = ap (λ (x : PassView Entry). x.session) is.pass ∙ on.session;
  };
  before = is.before;
  since = prefix_trans p.seen q.seen is.before on.later is.later.pass;
  seen = is.seen ∙ ap (λ (s : ShardRecord). is.before ++ record { shard = s; event = ev } ∷ []) same;
}

pub stepped_after : (o : Opening) (p q now : PassView Entry) (which : ShardRecord) (ev : Event) → IsOnward o p q → HasStepped o which ev q now → HasStepped o which ev p now
stepped_after o p q now which ev on is = record {
  onward = onward_trans o p q now on is.onward;
  before = is.before;
  since = prefix_trans p.seen q.seen is.before on.later is.since;
  seen = is.seen;
}
