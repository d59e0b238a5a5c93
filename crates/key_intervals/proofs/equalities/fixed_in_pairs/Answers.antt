use Rattle.std.proofs.Common.{Option, Some, None}
use Rattle.std.specs.Prelude.{IfSome}
use Rattle.sql_eval.specs.Sources.{paired}
use Rattle.key_intervals.proofs.FixedLemmas.{fixed_of_first, fixed_of_second}
use Rattle.key_intervals.proofs.equalities.fixed_in_pairs.Goals as goal

some_weaker : {X : Type 0} (o : Option X) (P Q : X → Type 0) → ((x : X) → P x → Q x) → IfSome o P → IfSome o Q
some_weaker None P Q f h = h
some_weaker (Some x) P Q f h = f x h

pub returns-in-Some : goal.returns-in-Some
returns-in-Some c = λ first second pair kept.
    fixed_of_first c.args.join c.in-Some.values first second c.args.column c.requires (c.in-Some.ensures (paired c.args.join first second) kept)

pub returns-in-None : goal.returns-in-None
returns-in-None c =
    some_weaker c.fixed_values-in-None.result _ _
    (λ f h first second pair kept.
    fixed_of_second c.args.join f first second c.args.column c.requires c.if-column-join.true pair (h (paired c.args.join first second) kept))
    c.fixed_values-in-None.ensures
