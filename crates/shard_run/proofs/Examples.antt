-- Short runs over the shards -80 and 80-, with the rows (1, NULL) and (2, NULL) of t.
use Rattle.std.proofs.Common.{◌≡◌, ℕ, List, [], ◌∷◌, refl, Some, None, Option, pos}
use Rattle.std.specs.Int.{reverse_bits_onto}
use Rattle.vschema.specs.Value.{Value}
use Rattle.vschema.specs.Value.TheVariants.{Null, Int}
use Rattle.vschema.specs.Values.{Row}
use Rattle.vschema.specs.declared.changes.Write.TheVariants.{Insert}
use Rattle.vschema.specs.declared.changes.RowChange.TheVariants.{Added}
use Rattle.vschema.proofs.Example.{schema}
use Rattle.shard_run.specs.declared.ShardRecord.{ShardRecord}
use Rattle.shard_run.specs.declared.Mode.TheVariants.{Serving, Retired}
use Rattle.shard_run.specs.declared.Event.{Event}
use Rattle.shard_run.specs.declared.Event.TheVariants.{Commit, Follow, Freeze, Retire, Serve}
use Rattle.shard_run.specs.declared.Entry.{Entry}
use Rattle.shard_run.specs.Runs.{Run, Opening, database, shard_rows, mode}

abbrev pub n : ℕ → Value
n k = Int (pos k)

abbrev pub shard : ℕ → List ℕ → Option (List ℕ) → List ℕ → ShardRecord
shard slot begin end sources = record {
  slot = slot;
  place = record { keyspace = 0; range = record { begin = begin; end = end } };
  sources = sources;
}

abbrev pub low : ShardRecord
low = shard 0 [] (Some (0x80 ∷ [])) []

abbrev pub high : ShardRecord
high = shard 1 (0x80 ∷ []) None []

-- the first target of a split of -80
abbrev pub lowest : ShardRecord
lowest = shard 2 [] (Some (0x40 ∷ [])) (0 ∷ [])

abbrev pub opening : Opening
opening = record {
  schema = schema;
  shards = (low, ((n 2 ∷ Null ∷ []) ∷ []) ∷ [] ∷ [] ∷ []) ∷ (high, ((n 1 ∷ Null ∷ []) ∷ []) ∷ [] ∷ [] ∷ []) ∷ [];
}

-- session 1 adds (7, 1), which lies on 80-, and (4, 1), which lies on -80 and then is followed
abbrev pub added : ℕ → ℕ → ShardRecord → Row → Entry
added session number s row = record {
  shard = s;
  event = Commit (record {
    session = session;
    number = number;
    statements = Insert 0 (row ∷ []) ∷ [];
    changes = Added 0 row ∷ [];
  });
}

abbrev pub seven : Entry
seven = added 1 1 high (n 7 ∷ n 1 ∷ [])

abbrev pub four : Entry
four = added 1 2 low (n 4 ∷ n 1 ∷ [])

abbrev pub follow_four : Entry
follow_four = record {
  shard = lowest;
  event = Follow (record { source = 0; log_position = 0; changes = Added 0 (n 4 ∷ n 1 ∷ []) ∷ [] });
}

abbrev pub event_on : ShardRecord → Event → Entry
event_on s e = record { shard = s; event = e }

abbrev pub run : Run
run = seven ∷ four ∷ follow_four ∷ event_on low Freeze ∷ event_on low (Retire (lowest ∷ [])) ∷ event_on lowest Serve ∷ []

one_database :
    database opening run
    ≡ ((n 2 ∷ Null ∷ []) ∷ (n 1 ∷ Null ∷ []) ∷ (n 7 ∷ n 1 ∷ []) ∷ (n 4 ∷ n 1 ∷ []) ∷ []) ∷ [] ∷ [] ∷ []
one_database = refl

high_holds : shard_rows opening run high ≡ ((n 1 ∷ Null ∷ []) ∷ (n 7 ∷ n 1 ∷ []) ∷ []) ∷ [] ∷ [] ∷ []
unfolding reverse_bits_onto
high_holds = refl

-- id 2 has the keyspace id 40.., which isn't in -40, and id 4 has 20..
target_holds : shard_rows opening run lowest ≡ ((n 4 ∷ n 1 ∷ []) ∷ []) ∷ [] ∷ [] ∷ []
unfolding reverse_bits_onto
target_holds = refl

source_mode : mode opening run 0 ≡ Retired
source_mode = refl

target_mode : mode opening run 2 ≡ Serving
target_mode = refl

other_mode : mode opening run 1 ≡ Serving
other_mode = refl
