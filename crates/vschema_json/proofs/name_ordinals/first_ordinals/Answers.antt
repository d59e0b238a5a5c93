use Rattle.std.proofs.Common.{ℕ, List, [], ◌∙◌}
use Rattle.vschema_json.proofs.Named.{first_before}
use Rattle.vschema_json.proofs.name_ordinals.first_ordinals.Goals as goal
use denote.Ref.{Bor}

nothing : Bor (List ℕ)
nothing = record { ref_ptr = (0, 0); now = [] }

pub loop-i-preserved : goal.loop-i-preserved
unfolding nothing
loop-i-preserved c = λ q.
    c.in_ok-insert.ensures.updates.0 q
    ∙ first_before (λ (n : Bor (List ℕ)). n.now) c.args.names.now c.loop-i.i nothing q.now _ c.loop-i-test.true c.loop-i.auto.i (c.loop-i.invariant q)
