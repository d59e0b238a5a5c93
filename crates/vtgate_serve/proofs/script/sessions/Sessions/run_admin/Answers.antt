use Rattle.std.proofs.Common.{ℕ, List, ap, ap₂, sym, subst, ◌∙◌}
use Rattle.std.specs.Io.KnownBytes.{Appends}
use Rattle.journal.specs.Views.{PassView}
use Rattle.shard_run.specs.declared.Entry.{Entry}
use Rattle.shard_run.specs.Runs.{Run}
use Rattle.shard_law.specs.declared.limits.Limits.{Limits}
use Rattle.vtgate_clients.specs.ShardCallsAlone.{NoCommits}
use Rattle.admin.specs.AdminAnswers.{IsAdminReply}
use Rattle.vtgate_serve.specs.script.inner.UnderWay.{KeptSession, KeptProgress}
use Rattle.vtgate_serve.proofs.script.Printing.{on_ok}
use Rattle.vtgate_serve.proofs.script.Places.{all_further}
use Rattle.vtgate_serve.proofs.script.Knowing.{same_way, known_after, nobody_commits}
use Rattle.vtgate_serve.proofs.script.sessions.Sessions.run_admin.Goals as goal

pub confirm_all-requires : goal.confirm_all-requires
confirm_all-requires g c =
    record {
      trailing = all_further g.W.World.opening c.self.inside.all.seen c.administer-reply.new.pass.seen c.self.inside.sessions.items
          c.administer-reply.ensures.onward.later c.self.invariant.1;
    }

pub invariant_of-self : goal.invariant_of-self
invariant_of-self g c =
    let seen = c.self.inside.all.seen in
    let then = c.administer-reply.new.pass.seen in
    let xs = c.self.inside.sessions.items in
    same_way g.W.World.opening _ _ _ _ _ _ c.confirm_all.ensures.opener (ap (λ (p : PassView Entry). p.seen) c.confirm_all.ensures.all) c.confirm_all.ensures.sessions (
      c.self.invariant.0,
      all_further g.W.World.opening seen then xs c.administer-reply.ensures.onward.later c.self.invariant.1,
      known_after c.self.inside.opener seen then xs c.self.invariant.0 c.self.invariant.2 c.confirm_all.ensures.own c.confirm_all.ensures.unopened,
    )

pub returns-clause-told : goal.returns-clause-told
returns-clause-told g c =
    let now = c.administer-reply.new.pass in
    let seen = c.self.inside.all.seen in
    let still =
    nobody_commits c.self.inside.opener seen now.seen c.self.inside.sessions.items c.self.invariant.0 c.self.invariant.2 c.confirm_all.ensures.own c.confirm_all.ensures.unopened
    c.administer-reply.ensures.onward.later in
    on_ok c.write_all.result c.write_all.ensures.written (λ h. (
      c.administer-reply.result,
      c.self.inside.all,
      now,
      subst (λ (t : List ℕ). Appends (g.O.Sink.taken c.args.output.now) (g.O.Sink.taken c.write_all.new.output) t) c.line.ensures h,
      ap (λ (k : KeptProgress). k.seen) c.self.view_is,
      subst (λ (r : Run). NoCommits r now.seen) (ap (λ (k : KeptProgress). k.seen) c.self.view_is) still,
      ap₂ (λ (ys : List KeptSession) (r : Run). let k : KeptProgress = record { sessions = ys; seen = r } in k) c.confirm_all.ensures.sessions
          (ap (λ (p : PassView Entry). p.seen) c.confirm_all.ensures.all)
          ∙ ap (λ (k : KeptProgress). record k { seen = now.seen }) c.self.view_is,
      subst (λ (l : Limits). IsAdminReply g.W.World.opening l c.args.words.now c.self.inside.all now c.administer-reply.result c.args.administrator.now
          c.administer-reply.new.administrator) c.requires.limits c.administer-reply.ensures.told,
    ))
