use Rattle.std.proofs.Common.{◌≡◌, length, filter}
use Rattle.vschema.specs.Sources.{is_pair}
use Rattle.sql_eval.proofs.joins.partner.Given as goal

-- no partner was passed over
abbrev pub invariant-loop-second : goal.invariant-loop-second
invariant-loop-second l = filter (is_pair l.join l.first) l.rest ≡ filter (is_pair l.join l.first) l.fn.rest

abbrev pub decreases-loop-second : goal.decreases-loop-second
decreases-loop-second l = length l.rest
