-- A shard that is read alone, by the pass itself: that is a scatter over one shard, read by a pass that was split off.
use Rattle.std.specs.Prelude.{List, Contains, Ok, None, flat_map}
use Rattle.std.specs.List.{AllZip}
use Rattle.std.proofs.Common.{◌≡◌, ℕ, false, [], ◌∷◌, length, map, sym, refl, ap, subst, inl, ◌∙◌}
use Rattle.vschema.specs.declared.schema.Table.{Table}
use Rattle.vschema.specs.declared.schema.Query.{Query}
use Rattle.vschema.specs.declared.schema.Place.{Place}
use Rattle.planner.specs.declared.plans.Plan.{Plan}
use Rattle.planner.specs.Plans.{piece_of}
use Rattle.journal.specs.Runs.{IsLegal}
use Rattle.journal.specs.Views.{PassView}
use Rattle.journal.proofs.Fronts.{prefix_self}
use Rattle.shard.specs.ShardRecord.{ShardRecord}
use Rattle.shard.specs.Entry.{Entry}
use Rattle.shard.specs.Mode.TheVariants.{Following}
use Rattle.shard.specs.Runs.{Opening, mode, answers_queries}
use Rattle.shard.specs.Reading.{Reading}
use Rattle.shard.specs.ReadOutcome.{ReadOutcome}
use Rattle.shard.specs.ReadOutcome.TheVariants.{Rows, NotServing}
use Rattle.shard.specs.Shards as sh
use Rattle.shard.specs.Shards.{AnswersQuery}
use Rattle.shard.specs.Legal.{IsOnItsSlot}
use Rattle.shard.specs.Entries.{MayFollow, HasLooked}
use Rattle.shard.proofs.Lists.{Contains-from_In}
use Rattle.serving.specs.Partitions.{Seat}
use Rattle.shard.specs.Seats.{place_at}
use Rattle.shard_calls.specs.Answers.{needed, HasGoneOn, HasServed, IsHeldUp}
use Rattle.shard_calls.specs.inner.Scatter.{ShardReply, asked, IsReadingOf, IsGathered, IsScattered, IsPieceAlone}
use Rattle.shard_calls.proofs.Finding.{served_at}
use Rattle.shard_calls.proofs.Gathers.{stays}

-- a pass has gone on by a look
pub looked_once : (o : Opening) (slot : ℕ) (p now : PassView Entry) → HasLooked o slot p now → HasGoneOn o p ((slot, length now.seen) ∷ []) now
looked_once o slot p now is = record { legal = is.legal; later = is.later; own = is.own; pass = is.pass }

module _ (o : Opening) (t : Table) (plan : Plan) (seats : List Seat) (seat : Seat) (query : Query) (is : IsPieceAlone t plan seats seat query)
    (p now : PassView Entry) (s : ShardRecord) (stands : IsOnItsSlot o now.seen s) (on_slot : s.slot ≡ seat.0) (in_place : s.place ≡ place_at seat)
    (looked : HasLooked o seat.0 p now) (past : mode o now.seen seat.0 ≡ Following → ⊥) where
  served : HasServed o now.seen s
  served = served_at o now.seen s seat.0 stands on_slot past

  place : s.place ≡ record { keyspace = t.keyspace; range = seat.1 }
  place = in_place ∙ ap (λ (k : ℕ). record { keyspace = k; range = seat.1 }) is.keyspace

  -- the reading as a pass that was split off would have made it
  abbrev reply : ReadOutcome → ShardReply
  reply r = record { slot = seat.0; pass = record { seen = now.seen; looks = (seat.0, length now.seen) ∷ []; session = None; statements = 0 }; outcome = Ok r }

  reading : (r : ReadOutcome) → AnswersQuery o now.seen s query r → IsReadingOf o (asked t plan p.seen seat) (reply r)
  reading r answers = record {
    slot = refl;
    shard = s;
    stands = stands;
    served = served;
    on_slot = on_slot;
    in_place = place;
    looked = record { legal = looked.legal; later = looked.later; own = λ n mine. absurd (cc mine); pass = refl };
    read = subst (λ (q : Query). AnswersQuery o now.seen s q r) (sym is.piece) answers;
  }

  pub scattered_alone : (x : Reading) → IsLegal (MayFollow o) p.seen → AnswersQuery o now.seen s query (Rows x)
      → IsScattered o t plan p (x.rows ∷ []) (record { slot = seat.0; entries = x.entries } ∷ []) now
  scattered_alone x legal answers = record {
    seats = seats;
    partition = is.partition;
    since = p;
    gone = ([], stays o p legal);
    gs = reply (Rows x) ∷ [];
    given =
        subst (λ (l : List Seat). AllZip (IsReadingOf o) (map (asked t plan p.seen) l) (reply (Rows x) ∷ [])) (sym is.alone) (reading (Rows x) answers, tt);
    gathered = record { gone = looked_once o seat.0 p now looked; seen = (prefix_self now.seen, tt); answered = (refl, tt) };
    pieces_are = refl;
    reads_are = refl;
  }

  pub held_up_alone : AnswersQuery o now.seen s query NotServing → IsHeldUp o t plan.route answers_queries p.seen now.seen seats
  held_up_alone (sh.not_serving h) = record {
    seat = seat;
    needed = subst (λ (l : List Seat). Contains l seat) (sym is.alone) (Contains-from_In seat (seat ∷ []) (inl refl));
    run = now.seen;
    since = looked.later;
    until = prefix_self now.seen;
    shard = s;
    served = served;
    on_slot = on_slot;
    in_place = place;
    held_up = h;
  }
