use Rattle.std.proofs.Common.{◌≡◌, []}
use Rattle.journal.specs.inner.Steps.{dealing_view}
use Rattle.journal.specs.Views.{fresh_seats}
use Rattle.journal.proofs.opened.Opened.dealt.Given as goal

abbrev pub invariant-loop-slot : goal.invariant-loop-slot
invariant-loop-slot g l = (l.from.table_id ≡ g.J.Naming.table) × (l.from.me ≡ (dealing_view l.slot, [])) × (l.seats.items ≡ fresh_seats l.slot)
