use Rattle.std.proofs.Common.{ℕ, ◌-◌, List, [], get_or, not, sym, ap, ◌∙◌}
use Rattle.vschema_json.proofs.Repeats.{from_before, known_more, decided, twice_after}
use Rattle.vschema_json.proofs.twice.is_one_twice.Goals as goal
use denote.Ref.{Bor}

nothing : Bor (List ℕ)
nothing = record { ref_ptr = (0, 0); now = [] }

pub loop-i-preserved : goal.loop-i-preserved
unfolding nothing
loop-i-preserved c =
    let l = c.loop-i in
    let name = get_or c.args.names.now (l.i - 1) nothing in
    let trailing = from_before (λ n. n.now) c.args.names.now l.i nothing c.loop-i-test.true l.auto.i in
    record {
      known = λ q. c.in_ok-insert.ensures.updates.0 q ∙ known_more _ q.now _ _ _ trailing (l.invariant.known q);
      once = decided _ _ _ _ _ trailing c.in_ok-insert.ensures.added (l.invariant.known name) l.invariant.once ∙ ap not c.if-not-branch.false;
    }

pub returns-then-not-branch : goal.returns-then-not-branch
unfolding nothing
returns-then-not-branch c =
    let l = c.loop-i in
    let name = get_or c.args.names.now (l.i - 1) nothing in
    let trailing = from_before (λ n. n.now) c.args.names.now l.i nothing c.loop-i-test.true l.auto.i in
    let twice = decided _ _ _ _ _ trailing c.in_ok-insert.ensures.added (l.invariant.known name) l.invariant.once ∙ ap not c.if-not-branch.true in
    sym (twice_after (λ n. n.now) c.args.names.now _ twice)
