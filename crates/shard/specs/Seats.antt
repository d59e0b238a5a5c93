-- The seat of a shard in a partition: the slot that it is on, its range and its keyspace.
use Rattle.vschema.specs.declared.schema.Place.{Place}
use Rattle.serving.specs.Partitions.{Seat}
use Rattle.shard_run.specs.declared.ShardRecord.{ShardRecord}

abbrev pub seat_of : ShardRecord → Seat
seat_of s = (s.slot, s.place.range, s.place.keyspace)

-- the place of a seat's shard
abbrev pub place_at : Seat → Place
place_at seat = record { keyspace = seat.2; range = seat.1 }
