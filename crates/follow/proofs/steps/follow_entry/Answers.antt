use Rattle.std.proofs.Common.{◌<◌, inr, length, sym, ap, subst}
use Rattle.std.specs.List.{AllByRecursion}
use Rattle.shard.specs.VSchema.{VSchema}
use Rattle.shard.specs.RowChange.{RowChange}
use Rattle.shard.specs.Database.{changed_table}
use Rattle.shard.proofs.Legality.{legal_is}
use Rattle.shard_run.specs.declared.Follow as F
use Rattle.shard_run.specs.declared.Event.TheVariants.{Follow}
use Rattle.follow.specs.inner.NextEntries.{entry}
use Rattle.follow.proofs.Onward.{still, has_looked}
use Rattle.follow.proofs.Turns.{took, looked_once}
use Rattle.follow.proofs.Moves.{entry_there, follow_next, on_ok_as, on_err_as, if_err_as, either_way, full_follow}
use Rattle.follow.proofs.steps.follow_entry.Goals as goal

pub copied_changes-requires-clause-there : goal.copied_changes-requires-clause-there
copied_changes-requires-clause-there g c =
    let o = g.W.World.opening in
    subst (λ (s : VSchema). AllByRecursion (λ (x : RowChange). changed_table x < length s.tables) c.args.entry.now.changes) (sym c.requires.schema)
    (entry_there o c.args.pass.now.seen (legal_is o c.args.pass.now.seen c.requires.legal) c.args.state.now c.args.entry.now c.requires.next)

pub follow-requires-clause-next : goal.follow-requires-clause-next
follow-requires-clause-next g c =
    let o = g.W.World.opening in
    follow_next o c.args.pass.now.seen (legal_is o c.args.pass.now.seen c.requires.legal) c.args.state.now c.args.entry.now c.requires.next c.in_ok-taken.taken
    c.in_ok-taken.ensures.ok

pub returns-clause-taken : goal.returns-clause-taken
returns-clause-taken g c =
    on_ok_as c.follow.result _ _
    (λ w.
    let t = took g.W.World.opening c.args.state.now (Follow c.in_ok-taken.taken) c.args.pass.now c.follow.new.pass c.requires.legal w in
    entry c.in_ok-taken.taken (ap (λ (x : F.Follow). x.source) c.in_ok-taken.ensures.ok) t.0 t.1) c.follow.ensures.followed

pub returns-clause-refused : goal.returns-clause-refused
returns-clause-refused g c =
    on_err_as c.follow.result _ _ (λ h. inr (looked_once g.W.World.opening c.args.state.now.shard.slot c.args.pass.now c.follow.new.pass h)) c.follow.ensures.looked

pub returns-clause-onward : goal.returns-clause-onward
returns-clause-onward g c =
    let o = g.W.World.opening in
    let p = c.args.pass.now in
    let now = c.follow.new.pass in
    either_way c.follow.result _ _ _
    (λ w. (took o c.args.state.now (Follow c.in_ok-taken.taken) p now c.requires.legal w).0.onward)
    (λ h. has_looked o p p now c.args.state.now.shard.slot (still o p c.requires.legal) h) c.follow.ensures.followed c.follow.ensures.looked

pub returns-clause-err : goal.returns-clause-err
returns-clause-err g c =
    if_err_as c.follow.result _ _ _
    (λ e may is. full_follow g.W.World.opening g.W.World.limits c.follow.new.pass.seen c.args.state.now.shard c.in_ok-taken.taken e may is)
    c.follow.ensures.may c.follow.ensures.err
