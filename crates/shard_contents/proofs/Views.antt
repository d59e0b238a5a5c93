-- How a shard's state is seen after a step.
use Rattle.std.proofs.Common.{◌≡◌, ℕ, Bool, true, false, List, length, Option, Some, None, if◌then◌else◌, refl, sym, ap, ◌∙◌}
use Rattle.vschema.specs.declared.changes.RowChange.{RowChange}
use Rattle.vschema.specs.Database.{Database, SameRows, all_applied}
use Rattle.shard_law.specs.ShardRecord.{ShardRecord}
use Rattle.shard_law.specs.ShardRunRuns.{Run}
use Rattle.shard_law.specs.Entries.{ShardView}
use Rattle.shard_law.proofs.Databases.{length-all_applied}
use Rattle.shard_contents.specs.declared.contents.Contents.{Contents}
use Rattle.shard_contents.specs.Shards.{first_kept, state_view}
use Rattle.shard_contents.specs.inner.StoredLogs.{StoredLog, HasStoredNext}
use Rattle.shard_contents.proofs.Bags.{length-same}
use Rattle.shard_contents.proofs.StoredLogs.{first_next}

-- from which entry on they are kept is as it was
first_kept_next : (log now : StoredLog) (e : List RowChange) → HasStoredNext log e now → first_kept now ≡ first_kept log
first_kept_next log now e next = by log.is_followed refl
  where
    by : (b : Bool) → log.is_followed ≡ b → first_kept now ≡ first_kept log
    by true on =
        ap (λ (b : Bool). if b then Some now.first else None) (next.is_followed ∙ on) ∙ ap Some (first_next log now e next on)
        ∙ ap (λ (b : Bool). if b then Some log.first else None) (sym on)
    by false off =
        ap (λ (b : Bool). if b then Some now.first else None) (next.is_followed ∙ off) ∙ ap (λ (b : Bool). if b then Some log.first else None) (sym off)

-- what it holds is kept, of whatever run
pub viewed : (seen run : Run) (c d : Contents) (v : ShardView) → state_view seen c ≡ v → d.shard ≡ c.shard
    → first_kept d.stored.log ≡ first_kept c.stored.log → length d.store.rows ≡ length c.store.rows → state_view run d ≡ record v { seen = run }
viewed seen run c d v view shards kept tables =
    ap (λ (s : ShardRecord). record { seen = run; shard = s; kept_from = first_kept d.stored.log; tables = length d.store.rows }) shards
    ∙ ap (λ (k : Option ℕ). record { seen = run; shard = c.shard; kept_from = k; tables = length d.store.rows }) kept
    ∙ ap (λ (n : ℕ). record { seen = run; shard = c.shard; kept_from = first_kept c.stored.log; tables = n }) tables
    ∙ ap (λ (x : ShardView). record x { seen = run }) view

-- nothing was stored
pub viewed_same : (seen run : Run) (c d : Contents) (v : ShardView) → state_view seen c ≡ v → d.shard ≡ c.shard → d.stored.log ≡ c.stored.log
    → d.store.rows ≡ c.store.rows → state_view run d ≡ record v { seen = run }
viewed_same seen run c d v view shards logs rows =
    viewed seen run c d v view shards (ap (λ (l : StoredLog). first_kept l) logs) (ap (λ (db : Database). length db) rows)

-- an entry was stored
pub viewed_next : (seen run : Run) (c d : Contents) (v : ShardView) (e changes : List RowChange) → state_view seen c ≡ v → d.shard ≡ c.shard
    → HasStoredNext c.stored.log e d.stored.log → SameRows d.store.rows (all_applied changes c.store.rows) → state_view run d ≡ record v { seen = run }
viewed_next seen run c d v e changes view shards next rows =
    viewed seen run c d v view shards (first_kept_next c.stored.log d.stored.log e next)
    (length-same d.store.rows (all_applied changes c.store.rows) rows ∙ length-all_applied changes c.store.rows)
