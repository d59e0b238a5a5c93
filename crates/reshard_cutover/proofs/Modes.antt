-- A shard whose rows are dropped is retired in its run.
use Rattle.std.proofs.Common.{◌≡◌, ◌⊎◌, if◌then◌else◌, inl, inr, ℕ, Bool, true, false, [], ◌∷◌, refl, sym, ◌∙◌}
use Rattle.shard_run.specs.declared.Event.{Event}
use Rattle.shard_run.specs.declared.Event.TheVariants.{Commit, Follow, Copy, Freeze, Thaw, Retire, Serve}
use Rattle.shard_run.specs.declared.Mode.{Mode}
use Rattle.shard_run.specs.declared.Mode.TheVariants.{Following, Serving, Frozen, Retired, Dropped}
use Rattle.shard_run.specs.Runs.{Opening, Run, mode, mode_after, mode_from, is_opening, entries_on, answers_queries}

after : (m : Mode) → (m ≡ Dropped → ⊥) → (event : Event) → mode_after m event ≡ Dropped → ⊥
after m h (Commit c) e = h e
after m h (Follow f) e = h e
after m h (Copy c) e = h e
after m h Freeze e = absurd (cc e)
after m h Thaw e = absurd (cc e)
after m h (Retire targets) e = absurd (cc e)
after m h Serve e = absurd (cc e)

from : (m : Mode) → (m ≡ Dropped → ⊥) → (run : Run) → mode_from m run ≡ Dropped → ⊥
from m h [] e = h e
from m h (x ∷ run) e = from (mode_after m x.event) (after m h x.event) run e

-- no entry drops a shard
not_dropped : (o : Opening) (run : Run) (slot : ℕ) → mode o run slot ≡ Dropped → ⊥
not_dropped o run slot = by (is_opening o slot)
  where
    by : (b : Bool) → mode_from (if b then Serving else Following) (entries_on slot run) ≡ Dropped → ⊥
    by true = from Serving (λ e. absurd (cc e)) (entries_on slot run)
    by false = from Following (λ e. absurd (cc e)) (entries_on slot run)

pub out_of_use : (o : Opening) (run : Run) (slot : ℕ) (m : Mode) → (m ≡ mode o run slot) ⊎ ((m ≡ Dropped) × (mode o run slot ≡ Retired)) → m ≡ Dropped
    → mode o run slot ≡ Retired
out_of_use o run slot m (inl h) e = absurd (not_dropped o run slot (sym h ∙ e))
out_of_use o run slot m (inr h) e = h.1

-- and where the state shows another mode than serving, its run does too
pub not_serving : (m r : Mode) → (r ≡ m) ⊎ ((r ≡ Dropped) × (m ≡ Retired)) → (r ≡ Serving → ⊥) → m ≡ Serving → ⊥
not_serving m r (inl e) n is = n (e ∙ is)
not_serving m r (inr p) n is = absurd (cc (p.1, is))

-- a shard that answers queries and takes no commits is frozen
pub frozen_of : (m : Mode) → answers_queries m ≡ true → (m ≡ Serving → ⊥) → m ≡ Frozen
frozen_of Following answers not = absurd (cc answers)
frozen_of Serving answers not = absurd (not refl)
frozen_of Frozen answers not = refl
frozen_of Retired answers not = absurd (cc answers)
frozen_of Dropped answers not = absurd (cc answers)
