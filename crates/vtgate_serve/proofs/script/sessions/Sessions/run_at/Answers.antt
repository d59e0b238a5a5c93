use Rattle.std.proofs.Common.{◌≡◌, ◌<◌, length, List, ap, ap₂, sym, subst, ◌∙◌}
use Rattle.shard_run.specs.Runs.{Run}
use Rattle.vtgate_serve.specs.script.inner.UnderWay.{KeptState, KeptSession, KeptProgress}
use Rattle.vtgate_serve.proofs.script.Printing.{on_ok}
use Rattle.vtgate_serve.proofs.script.Knowing.{AreUnderWay, same_way, at_here, known_run, nobody_else, here_of}
use Rattle.vtgate_serve.proofs.script.Places.{keeps_all, prints_at, after_is}
use Rattle.vtgate_serve.proofs.script.sessions.Sessions.run_at.Goals as goal

pub confirm_all-requires : goal.confirm_all-requires
confirm_all-requires g c =
    let mine : KeptState = record { pass = c.session.inside.pass; tx = c.session.inside.tx } in
    let then : KeptState = record { pass = c.run_after-result.new.pass; tx = c.run_after-result.new.tx } in
    record {
      trailing = (keeps_all g.W.World.opening c.self.inside.sessions.items c.args.ordinal (subst (λ (s : KeptProgress). c.args.ordinal < length s.sessions) (sym c.self.view_is) c.requires.ordinal)
          c.session.inside.name mine then c.index_mut-session.result.now c.index_mut-session.ensures.value c.session.view_is c.self.inside.all.seen c.run_after-result.new.all.seen
          c.run_after-result.ensures.seen c.self.inside.opener (c.self.invariant.0, c.self.invariant.1) c.run_after-result.ensures.later c.run_after-result.ensures.session
          c.run_after-result.ensures.tx).1;
    }

pub invariant_of-self : goal.invariant_of-self
invariant_of-self g c =
    let mine : KeptState = record { pass = c.session.inside.pass; tx = c.session.inside.tx } in
    let then : KeptState = record { pass = c.run_after-result.new.pass; tx = c.run_after-result.new.tx } in
    let one : KeptSession = record { name = c.session.inside.name; kept = then } in
    let xs = c.self.inside.sessions.items in
    let below = subst (λ (s : KeptProgress). c.args.ordinal < length s.sessions) (sym c.self.view_is) c.requires.ordinal in
    let all =
    keeps_all g.W.World.opening xs c.args.ordinal below c.session.inside.name mine then c.index_mut-session.result.now c.index_mut-session.ensures.value c.session.view_is
    c.self.inside.all.seen c.run_after-result.new.all.seen c.run_after-result.ensures.seen c.self.inside.opener (c.self.invariant.0, c.self.invariant.1) c.run_after-result.ensures.later
    c.run_after-result.ensures.session c.run_after-result.ensures.tx in
    let at = at_here xs c.args.ordinal below c.index_mut-session.result.now (record { name = c.session.inside.name; kept = mine }) c.index_mut-session.ensures.value c.session.view_is in
    let known =
    known_run c.self.inside.opener c.self.inside.all.seen c.run_after-result.new.all.seen xs c.args.ordinal one c.self.invariant.0 below c.self.invariant.2
    (λ d. c.run_after-result.ensures.session ∙ sym (ap (λ (x : KeptSession). x.kept.pass.session) (at d))) c.confirm_all.ensures.own c.confirm_all.ensures.unopened in
    same_way g.W.World.opening _ _ _ _ _ _ c.confirm_all.ensures.opener (ap (λ p. p.seen) c.confirm_all.ensures.all) c.confirm_all.ensures.sessions (all.0, all.1, known)

pub returns : goal.returns
returns g c =
    let mine : KeptState = record { pass = c.session.inside.pass; tx = c.session.inside.tx } in
    let then : KeptState = record { pass = c.run_after-result.new.pass; tx = c.run_after-result.new.tx } in
    let one : KeptSession = record { name = c.session.inside.name; kept = then } in
    let xs = c.self.inside.sessions.items in
    let below = subst (λ (s : KeptProgress). c.args.ordinal < length s.sessions) (sym c.self.view_is) c.requires.ordinal in
    let at = at_here xs c.args.ordinal below c.index_mut-session.result.now (record { name = c.session.inside.name; kept = mine }) c.index_mut-session.ensures.value c.session.view_is in
    let others =
    nobody_else c.self.inside.opener c.self.inside.all.seen c.run_after-result.new.all.seen xs c.args.ordinal one c.self.invariant.0 below c.self.invariant.2
    (λ d. c.run_after-result.ensures.session ∙ sym (ap (λ (x : KeptSession). x.kept.pass.session) (at d))) c.confirm_all.ensures.own c.confirm_all.ensures.unopened
    c.session.inside.pass c.run_after-result.new.pass (sym (ap (λ (x : KeptSession). x.kept.pass.session) (at one))) (sym c.run_after-result.ensures.seen) c.run_after-result.ensures.later in
    on_ok c.run_after-result.result c.run_after-result.ensures.prints (λ h. (
      h.0,
      then,
      h.1,
      prints_at g.W.World.opening xs c.args.ordinal below c.session.inside.name mine then c.index_mut-session.result.now
          c.index_mut-session.ensures.value c.session.view_is c.self.inside.all.seen c.run_after-result.new.all.seen c.run_after-result.ensures.seen c.args.self.now c.self.view_is
          c.args.sql.now h.0
          (here_of g.W.World.opening c.run_after-result.ensures.opens c.run_after-result.ensures.formed c.self.inside.all.seen c.run_after-result.ensures.legal mine then others c.args.sql.now h.0 h.2),
      (λ d.
          ap₂ (λ (ys : List KeptSession) (r : Run). let k : KeptProgress = record { sessions = ys; seen = r } in k) c.confirm_all.ensures.sessions (ap (λ p. p.seen) c.confirm_all.ensures.all)
          ∙ after_is g.W.World.opening xs c.args.ordinal below c.session.inside.name mine then c.index_mut-session.result.now
          c.index_mut-session.ensures.value c.session.view_is c.self.inside.all.seen c.run_after-result.new.all.seen c.run_after-result.ensures.seen c.args.self.now c.self.view_is d),
    ))
