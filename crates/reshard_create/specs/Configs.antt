-- What is fixed for all workflows of a keyspace, and the slots that no shard was ever on.
use Rattle.std.specs.Prelude.{◌≡◌, ◌<◌, ◌≤◌, ◌^◌, false, [], length}
use Rattle.journal.specs.Views.{SeatView}
use Rattle.shard_run.specs.declared.Entry.{Entry}
use Rattle.shard_run.specs.Runs.{Opening, entries_on, is_opening}
use Rattle.shard_law.specs.declared.limits.Limits.{Limits}
use Rattle.reshard_create.specs.declared.config.ReshardConfig.{ReshardConfig}

-- what is fixed is that of the world, whose limits are those of a shard
pub record IsReshardConfig (o : Opening) (most : Limits) (g : ReshardConfig) : Type 0 where
  pub keyspace : g.keyspace < length o.schema.keyspaces
  pub limits : g.limits ≡ most
  pub rows : g.limits.rows ≤ 2 ^ 20
  pub stored : g.limits.stored ≤ 2 ^ 20

-- nothing has happened on the seat's slot, and no opening shard stands there
pub record IsFree (o : Opening) (seat : SeatView Entry) : Type 0 where
  pub below : seat.slot < 64
  pub fresh : entries_on seat.slot seat.seen ≡ []
  pub not_opening : is_opening o seat.slot ≡ false
