use Rattle.std.proofs.Common.{◌≡◌, ◌⊎◌, ◌≤◌, refl, sym, ap, subst, rules}
use Rattle.std.specs.Prelude.{Contains, IfOk, IfErr, OnErr}
use mathlib.Core.List.{IsPrefix}
use Rattle.journal.specs.Views.{PassView}
use Rattle.shard_run.specs.declared.ShardRecord.{ShardRecord}
use Rattle.shard_run.specs.declared.Entry.{Entry}
use Rattle.shard_run.specs.Runs.{Run, shard_rows}
use Rattle.shard_run.specs.Openings.{row_count}
use Rattle.shard.specs.Law.{SourcesApart}
use Rattle.vt_value.specs.declared.refusal.Refusal.TheVariants.{OutOfMemory, ShardFull}
use Rattle.shard.proofs.Legality.{legal_is}
use Rattle.follow.specs.declared.steps.Step.TheVariants.{Followed}
use Rattle.follow.specs.Steps.{HasMoved, IsFull}
use Rattle.follow.specs.inner.NextEntries.{HasTaken, IsOneLook}
use Rattle.follow.proofs.Onward.{still, looked, onward_trans}
use Rattle.follow.proofs.Moves.{takeable, moved, if_ok_as, on_err_as}
use Rattle.follow.proofs.Turns.{one_look, one_step, refused_first, refused_second, refused_last}
use Rattle.follow.proofs.steps.come_forward.Goals as goal

pub take-requires-clause-given : goal.take-requires-clause-given
take-requires-clause-given g c =
    let o = g.W.World.opening in
    let l = c.look.ensures in
    let run = c.next_from.new.pass.seen in
    let later = subst (λ (r : Run). IsPrefix r run) (ap (λ (x : PassView Entry). x.seen) l.pass) c.next_from.ensures.onward.later in
    let own = subst (λ (s : ShardRecord). Contains s.sources c.args.source.now.which.slot) (sym l.shard) c.requires.of_source in
    takeable o c.requires.opens run (legal_is o run c.next_from.ensures.onward.legal) c.args.source.now.which c.look.new.self later own c.in_ok-given.given
    c.in_ok-given.ensures.given

pub returns-clause-moved : goal.returns-clause-moved
returns-clause-moved g c =
    let o = g.W.World.opening in
    let l = c.look.ensures in
    let source = c.args.source.now.which in
    let p = c.args.pass.now in
    let q = c.next_from.new.pass in
    let now = c.take.new.pass in
    let later = subst (λ (r : Run). IsPrefix r q.seen) (ap (λ (x : PassView Entry). x.seen) l.pass) c.next_from.ensures.onward.later in
    let own = subst (λ (s : ShardRecord). Contains s.sources source.slot) (sym l.shard) c.requires.of_source in
    let on = onward_trans o p c.look.new.pass q (looked o p p c.look.new.pass _ _ _ (still o p c.requires.legal) l.seen l.pass) c.next_from.ensures.onward in
    subst (λ (s : ShardRecord). IfOk c.take.result (HasMoved o source s p now)) l.shard
    (if_ok_as c.take.result _ _
    (λ step t.
    moved o c.requires.opens q.seen (legal_is o q.seen c.next_from.ensures.onward.legal) source c.look.new.self later own p q now c.in_ok-given.given step refl on
    l.seen.pass c.take.ensures.onward.later (onward_trans o p q now on c.take.ensures.onward) c.in_ok-given.ensures.given t)
    c.take.ensures.taken)

pub returns-clause-once : goal.returns-clause-once
returns-clause-once g c =
    let o = g.W.World.opening in
    let l = c.look.ensures in
    let target = c.args.state.now.shard in
    let p = c.args.pass.now in
    let mid = c.look.new.pass in
    let q = c.next_from.new.pass in
    let now = c.take.new.pass in
    if_ok_as c.take.result _ _
    (λ step t.
    one_step c.args.source.now.which target p mid (one_look p mid target.slot _ l.pass) o q now c.in_ok-given.given step c.next_from.ensures.looked t)
    (subst (λ (s : ShardRecord). IfOk c.take.result (HasTaken o s c.in_ok-given.given q now)) l.shard c.take.ensures.taken)

pub returns-clause-nothing : goal.returns-clause-nothing
returns-clause-nothing g c =
    let l = c.look.ensures in
    let target = c.args.state.now.shard in
    let p = c.args.pass.now in
    let mid = c.look.new.pass in
    let q = c.next_from.new.pass in
    let now = c.take.new.pass in
    on_err_as c.take.result _ _
    (λ h. refused_last c.args.source.now.which target p mid (one_look p mid target.slot _ l.pass) q now c.next_from.ensures.looked h)
    (subst (λ (s : ShardRecord). OnErr c.take.result ((now ≡ q) ⊎ IsOneLook s.slot q now)) l.shard c.take.ensures.refused)

pub returns-clause-onward : goal.returns-clause-onward
returns-clause-onward g c =
    let o = g.W.World.opening in
    let l = c.look.ensures in
    let p = c.args.pass.now in
    let q = c.next_from.new.pass in
    onward_trans o p q c.take.new.pass
    (onward_trans o p c.look.new.pass q (looked o p p c.look.new.pass _ _ _ (still o p c.requires.legal) l.seen l.pass) c.next_from.ensures.onward)
    c.take.ensures.onward

pub returns-in_err-sort_ahead-clause-nothing : goal.returns-in_err-sort_ahead-clause-nothing
returns-in_err-sort_ahead-clause-nothing g c =
    let target = c.args.state.now.shard in
    let p = c.args.pass.now in
    let mid = c.look.new.pass in
    let none = refused_first c.args.source.now.which target p mid (one_look p mid target.slot _ c.look.ensures.pass) in
    search (rules, none)

pub returns-in_err-given-clause-nothing : goal.returns-in_err-given-clause-nothing
returns-in_err-given-clause-nothing g c =
    let target = c.args.state.now.shard in
    let p = c.args.pass.now in
    let mid = c.look.new.pass in
    let none = refused_second c.args.source.now.which target p mid (one_look p mid target.slot _ c.look.ensures.pass) c.next_from.new.pass c.next_from.ensures.looked in
    search (rules, none)

pub returns-clause-followed_within : goal.returns-clause-followed_within
returns-clause-followed_within g c =
    let o = g.W.World.opening in
    let run = c.take.new.pass.seen in
    subst (λ (s : ShardRecord). IfOk c.take.result (λ step. step ≡ Followed → SourcesApart o run s → row_count (shard_rows o run s) ≤ g.W.World.limits.rows)) c.look.ensures.shard
    c.take.ensures.followed_within

pub returns-clause-err : goal.returns-clause-err
returns-clause-err g c =
    let o = g.W.World.opening in
    subst (λ (s : ShardRecord). IfErr c.take.result (λ e. (e ≡ OutOfMemory) ⊎ ((e ≡ ShardFull) × IsFull o g.W.World.limits s c.take.new.pass.seen))) c.look.ensures.shard
    c.take.ensures.err
