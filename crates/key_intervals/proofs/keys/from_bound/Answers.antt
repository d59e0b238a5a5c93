use Rattle.std.proofs.lemmas.Result.{IfOk-weaker}
use Rattle.key_intervals.proofs.KeyLemmas.{some_of, own_low, prefix_low, extended_low, prefix_from}
use Rattle.key_intervals.proofs.keys.from_bound.Goals as goal

pub returns-in-Some-clause-ok : goal.returns-in-Some-clause-ok
returns-in-Some-clause-ok c =
    IfOk-weaker c.extended.result _ _
    (λ from is x rest e. prefix_from c.args.known c.in-Some.value x rest from is (some_of _ c.in-Some.is c.in_ok-value.ensures.ok x e))
    c.extended.ensures.ok

pub returns-in-Some-clause-from : goal.returns-in-Some-clause-from
returns-in-Some-clause-from c =
    IfOk-weaker c.extended.result _ _ (λ from is. extended_low c.args.known from c.in-Some.value is) c.extended.ensures.ok

pub returns-in-None-clause-ok : goal.returns-in-None-clause-ok
returns-in-None-clause-ok c = λ x rest e. prefix_low c.args.known _

pub returns-in-None-clause-from : goal.returns-in-None-clause-from
returns-in-None-clause-from c = own_low c.args.known
