-- How a shard's state is seen once what it keeps for those who follow it has changed.
use Rattle.std.proofs.Common.{◌≡◌, ℕ, Bool, true, false, List, [], length, Option, Some, None, if◌then◌else◌, refl, sym, ap, subst, ◌∙◌}
use Rattle.std.specs.Prelude.{IsSome}
use Rattle.vschema.specs.declared.changes.RowChange.{RowChange}
use Rattle.vschema.specs.Database.{Database, SameRows, all_applied}
use Rattle.shard_run.specs.declared.ShardRecord.{ShardRecord}
use Rattle.shard_run.specs.Runs.{Run}
use Rattle.shard_contents.specs.Entries.{ShardView}
use Rattle.shard_contents.specs.Shards.{first_kept, state_view}
use Rattle.shard_contents.specs.declared.contents.Contents.{Contents}
use Rattle.shard_contents.specs.inner.StoredLogs.{StoredLog, nothing_stored, given_up}
use Rattle.shard_contents.proofs.Bags.{length-same}
use Rattle.shard_contents.proofs.Databases.{length-all_applied}
use Rattle.shard_contents.proofs.Views.{viewed}

pub held_view : (seen : Run) (c d : Contents) (v : ShardView) (k : Option ℕ) (n : ℕ) → state_view seen c ≡ v → d.shard ≡ c.shard
    → first_kept d.stored.log ≡ k → length d.store.rows ≡ n → state_view seen d ≡ record v { kept_from = k; tables = n }
held_view seen c d v k n view shards kept tables =
    ap (λ (s : ShardRecord). record { seen = seen; shard = s; kept_from = first_kept d.stored.log; tables = length d.store.rows }) shards
    ∙ ap (λ (x : Option ℕ). record { seen = seen; shard = c.shard; kept_from = x; tables = length d.store.rows }) kept
    ∙ ap (λ (x : ℕ). record { seen = seen; shard = c.shard; kept_from = k; tables = x }) tables
    ∙ ap (λ (x : ShardView). record x { kept_from = k; tables = n }) view

-- what is kept of the entries is given up
pub given_up_view : (seen : Run) (c d : Contents) (v : ShardView) → state_view seen c ≡ v → d.shard ≡ c.shard → d.stored.log ≡ given_up c.stored.log
    → d.store.rows ≡ c.store.rows → state_view seen d ≡ record v { kept_from = None }
given_up_view seen c d v view shards logs rows =
    held_view seen c d v None v.tables view shards (ap first_kept logs)
    (ap (λ (db : Database). length db) rows ∙ ap (λ (x : ShardView). x.tables) view)

-- and the rows
pub dropped_view : (seen : Run) (c d : Contents) (v : ShardView) → state_view seen c ≡ v → d.shard ≡ c.shard → d.stored.log ≡ nothing_stored
    → d.store.rows ≡ [] → state_view seen d ≡ record v { kept_from = None; tables = 0 }
dropped_view seen c d v view shards logs rows =
    held_view seen c d v None 0 view shards (ap first_kept logs) (ap (λ (db : Database). length db) rows)

-- entries are kept from now on
pub followed_view : (seen : Run) (c d : Contents) (v : ShardView) → state_view seen c ≡ v → d.shard ≡ c.shard → d.store.rows ≡ c.store.rows
    → state_view seen d ≡ record v { kept_from = first_kept d.stored.log }
followed_view seen c d v view shards rows =
    held_view seen c d v (first_kept d.stored.log) v.tables view shards refl
    (ap (λ (db : Database). length db) rows ∙ ap (λ (x : ShardView). x.tables) view)

-- rows were copied
pub copied_view : (seen run : Run) (c d : Contents) (v : ShardView) (changes : List RowChange) → state_view seen c ≡ v → d.shard ≡ c.shard
    → d.stored.log ≡ c.stored.log → SameRows d.store.rows (all_applied changes c.store.rows) → state_view run d ≡ record v { seen = run }
copied_view seen run c d v changes view shards logs rows =
    viewed seen run c d v view shards (ap first_kept logs)
    (length-same d.store.rows (all_applied changes c.store.rows) rows ∙ length-all_applied changes c.store.rows)

pub is_followed_now : (log now : StoredLog) → now ≡ record log { is_followed = true } → IsSome (first_kept now)
is_followed_now log now is = subst (λ (k : Option ℕ). IsSome k) (sym (ap first_kept is)) refl

pub kept_followed : (log now : StoredLog) → now ≡ record log { is_followed = true } → (n : ℕ) → first_kept log ≡ Some n → first_kept now ≡ Some n
kept_followed log now is n from = by log.is_followed refl
  where
    by : (b : Bool) → log.is_followed ≡ b → first_kept now ≡ Some n
    by true on = ap first_kept is ∙ ap (λ (b : Bool). if b then Some log.first else None) (sym on) ∙ from
    by false off = absurd (cc (ap (λ (b : Bool). if b then Some log.first else None) (sym off) ∙ from))

-- as the view tells it
pub kept_followed_as : (seen : Run) (c d : Contents) (v : ShardView) → state_view seen c ≡ v → d.stored.log ≡ record c.stored.log { is_followed = true }
    → (n : ℕ) → v.kept_from ≡ Some n → first_kept d.stored.log ≡ Some n
kept_followed_as seen c d v view is n from =
    kept_followed c.stored.log d.stored.log is n (ap (λ (x : ShardView). x.kept_from) view ∙ from)
