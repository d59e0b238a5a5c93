use Rattle.key_intervals.proofs.KeyLemmas.{some_of, floor_at, floor_past, floor_next}
use Rattle.key_intervals.proofs.keys.floor.Goals as goal

pub returns-in_ok-copy-in-Included : goal.returns-in_ok-copy-in-Included
returns-in_ok-copy-in-Included c =
    record { ok = floor_at c.args.low c.in-Included.value c.in_ok-copy-in-Included.field-0 c.in-Included.is c.in_ok-copy-in-Included.ensures.ok }

pub returns-in-Some : goal.returns-in-Some
returns-in-Some c =
    record { ok = floor_next c.args.low c.in-Excluded.value c.in-Some.next c.in-Excluded.is (some_of _ c.in-Some.is c.in_ok-next-in-Excluded.ensures.ok) }

pub returns-in_ok-copy-in-None : goal.returns-in_ok-copy-in-None
returns-in_ok-copy-in-None c =
    record { ok = floor_past c.args.low c.in-Excluded.value c.in_ok-copy-in-None.field-0 c.in-Excluded.is c.in_ok-copy-in-None.ensures.ok }
