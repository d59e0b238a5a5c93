use Rattle.std.proofs.Common.{◌≡◌, ◌-◌, [], length}
use Rattle.client_statements.specs.Grammar.{items_at}
use Rattle.client_statements.proofs.selects.items.Given as goal

abbrev pub invariant-loop : goal.invariant-loop
invariant-loop l = items_at (l.end - l.counter) l.text l.items l.rest ≡ items_at (length l.tokens) l.text [] l.tokens
