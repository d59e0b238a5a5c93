use denote.Param.Send.{sendable}
use Rattle.shard_run.proofs.Sent.{entry_send}
use Rattle.std.proofs.Common.{◌≡◌, ◌<◌, ℕ, List, length, get_or, set, sym, ap, subst, ◌∙◌, arith, ⊎_elim}
use Rattle.std.proofs.lemmas.Bool.{cases_eq}
use mathlib.Core.List.{IsPrefix}
use Rattle.journal.specs.Views.{PassView}
use Rattle.shard_run.specs.declared.Entry.{Entry}
use Rattle.vtgate_serve.specs.script.inner.UnderWay.{KeptSession, KnowsOwn, HasSeenLess}
use Rattle.vtgate_serve.proofs.script.Places.{past_at}
use Rattle.vtgate_serve.proofs.script.Knowing.{same_set, knows_one_more}
use Rattle.vtgate_serve.proofs.script.sessions.confirm_all.Goals as goal

pub confirm-requires : goal.confirm-requires
confirm-requires g c =
    let inv = c.loop-i.invariant in
    let xs = c.args.sessions.now.items in
    let x = c.index_mut.result.now in
    let at : x ≡ get_or xs c.loop-i.i x = c.index_mut.ensures.value ∙ ap (λ (ys : List KeptSession). get_or ys c.loop-i.i x) inv.same in
    let same = ap (λ (ys : List KeptSession). length ys) inv.same in
    let low : c.loop-i.i < length xs = omega (arith, c.loop-i.sessions.ok.0, same) in
    let trailing = past_at g.W.World.opening c.args.all.now.seen xs c.loop-i.i x c.requires.trailing low in
    record { trailing = subst (λ (q : PassView Entry). IsPrefix x.kept.pass.seen q.seen) (sym inv.all) (subst (λ (s : KeptSession). IsPrefix s.kept.pass.seen c.args.all.now.seen) (sym at) trailing.1) }

pub loop-i-preserved : goal.loop-i-preserved
loop-i-preserved g c =
    let inv = c.loop-i.invariant in
    let xs = c.args.sessions.now.items in
    let x = c.index_mut.result.now in
    let at : x ≡ get_or xs c.loop-i.i x = c.index_mut.ensures.value ∙ ap (λ (ys : List KeptSession). get_or ys c.loop-i.i x) inv.same in
    let same = ap (λ (ys : List KeptSession). length ys) inv.same in
    let low : c.loop-i.i < length xs = omega (arith, c.loop-i.sessions.ok.0, same) in
    let known : KnowsOwn c.args.all.now.seen x =
    subst (λ (q : PassView Entry). KnowsOwn q.seen x) inv.all c.confirm.ensures.own in
    record {
      same = same_set c.loop-i.sessions.items xs c.loop-i.i x c.confirm.new.self inv.same at low c.confirm.ensures.same;
      all = c.confirm.ensures.all ∙ inv.all;
      long = inv.long;
      own = knows_one_more c.args.all.now.seen xs c.loop-i.i x at low inv.own known;
    }

pub confirm-requires-2-send-L-Entry : goal.confirm-requires-2-send-L-Entry
confirm-requires-2-send-L-Entry g c κs within = search (entry_send, sendable)

pub returns-clause-own : goal.returns-clause-own
returns-clause-own g c = λ k d low.
    let inv = c.loop-i.invariant in
    let same = ap (λ (ys : List KeptSession). length ys) inv.same in
    inv.own k d (omega (arith, c.loop-i.sessions.ok.0, same, low))
