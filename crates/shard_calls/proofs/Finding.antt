-- What looks at the shards of parts show.
use Rattle.std.proofs.Common.{◌≡◌, ℕ, Bool, ◌+◌, ◌<◌, List, [], ◌∷◌, ◌++◌, length, take, get_or, sym, ap, subst, ◌∙◌}
use Rattle.std.specs.List.{AllByRecursion}
use Rattle.std.proofs.lemmas.List.{append_assoc, take_more}
use mathlib.Core.List.{IsPrefix}
use Rattle.vschema.specs.declared.schema.Place.{Place}
use Rattle.vschema.specs.declared.schema.Table.{Table}
use Rattle.planner.specs.declared.routes.Route.{Route}
use Rattle.journal.specs.Views.{PassView}
use Rattle.journal.proofs.Fronts.{prefix_self, prefix_trans}
use Rattle.serving.specs.Partitions.{Seat}
use Rattle.shard.specs.ShardRecord.{ShardRecord}
use Rattle.shard.specs.Mode.{Mode}
use Rattle.shard.specs.Mode.TheVariants.{Following}
use Rattle.shard.specs.Entry.{Entry}
use Rattle.shard.specs.Runs.{Run, Opening, mode}
use Rattle.shard.specs.Legal.{IsOnItsSlot}
use Rattle.shard.proofs.Lists.{AllByRecursion-push, all-weaker}
use Rattle.shard.specs.Entries.{HasLooked}
use Rattle.shard.specs.Seats.{seat_of, place_at}
use Rattle.shard.proofs.Found.{of_run}
use Rattle.shard_calls.specs.Answers.{HasGone, HasGoneOn, HasServed, WasFound, IsFoundPartition, IsHeldUp, IsHeldUpBy}

-- a shard that stands on its slot and doesn't follow
pub served_at : (o : Opening) (run : Run) (s : ShardRecord) (slot : ℕ) → IsOnItsSlot o run s → s.slot ≡ slot → (mode o run slot ≡ Following → ⊥) → HasServed o run s
served_at o run s slot stands on_slot past =
    let here : mode o run s.slot ≡ Following → ⊥ = subst (λ (n : ℕ). mode o run n ≡ Following → ⊥) (sym on_slot) past in
    record { of_run = of_run o run s stands here; past = here }

-- one look more
pub look_gone : (o : Opening) (slot : ℕ) (p q now : PassView Entry) → HasGone o p q → HasLooked o slot q now → HasGone o p now
look_gone o slot p q now (added, gone) is = (
  added ++ (slot, length now.seen) ∷ [],
  record {
    legal = is.legal;
    later = prefix_trans p.seen q.seen now.seen gone.later is.later;
    own = λ n mine. is.own n (ap (λ (v : PassView Entry). v.session) gone.pass ∙ mine) ∙ gone.own n mine;
    pass =
        is.pass ∙ ap (λ (v : PassView Entry). record v { seen = now.seen; looks = v.looks ++ (slot, length now.seen) ∷ [] }) gone.pass
        ∙ ap (λ (l : List (ℕ × ℕ)). record p { seen = now.seen; looks = l }) (append_assoc p.looks added ((slot, length now.seen) ∷ []));
  },
)

module _ (o : Opening) where
  pub found_at : (seat : Seat) (p since now : PassView Entry) → IsPrefix p.seen since.seen → HasLooked o seat.0 since now → (s : ShardRecord)
      → IsOnItsSlot o now.seen s → s.slot ≡ seat.0 → s.place ≡ place_at seat → (mode o now.seen seat.0 ≡ Following → ⊥) → WasFound o p.seen now.seen seat
  found_at seat p since now before looked s stands on_slot at past = record {
    run = now.seen;
    since = prefix_trans p.seen since.seen now.seen before looked.later;
    until = prefix_self now.seen;
    shard = s;
    served = served_at o now.seen s seat.0 stands on_slot past;
    seated =
        ap (λ (n : ℕ). (n, s.place.range, s.place.keyspace)) on_slot ∙ ap (λ (q : Place). (seat.0, q.range, q.keyspace)) at;
  }

  found_until : (before old new : Run) → IsPrefix old new → (seat : Seat) → WasFound o before old seat → WasFound o before new seat
  found_until before old new later seat is = record {
    run = is.run;
    since = is.since;
    until = prefix_trans is.run old new is.until later;
    shard = is.shard;
    served = is.served;
    seated = is.seated;
  }

  pub all_until : (before old new : Run) → IsPrefix old new → (seats : List Seat) → AllByRecursion (WasFound o before old) seats
      → AllByRecursion (WasFound o before new) seats
  all_until before old new later seats all = all-weaker (WasFound o before old) (WasFound o before new) (found_until before old new later) seats all

  pub all_since : (early before now : Run) → IsPrefix early before → (seats : List Seat) → AllByRecursion (WasFound o before now) seats
      → AllByRecursion (WasFound o early now) seats
  all_since early before now later seats all =
      all-weaker (WasFound o before now) (WasFound o early now)
      (λ seat is. record {
        run = is.run;
        since = prefix_trans early before is.run later is.since;
        until = is.until;
        shard = is.shard;
        served = is.served;
        seated = is.seated;
      }) seats all

  pub partition_since : (early before now : Run) → IsPrefix early before → (keyspace : ℕ) (seats : List Seat) → IsFoundPartition o before now keyspace seats
      → IsFoundPartition o early now keyspace seats
  partition_since early before now later keyspace seats is =
      record { partition = is.partition; home = is.home; found = all_since early before now later seats is.found }

  -- what was so at a moment between two others was so between an earlier one and a later one
  pub held_between : (t : Table) (r : Route) (answers : Mode → Bool) (early before old now : Run) (seats : List Seat) → IsPrefix early before → IsPrefix old now
      → IsHeldUp o t r answers before old seats → IsHeldUp o t r answers early now seats
  held_between t r answers early before old now seats earlier later is = record {
    seat = is.seat;
    needed = is.needed;
    run = is.run;
    since = prefix_trans early before is.run earlier is.since;
    until = prefix_trans is.run old now is.until later;
    shard = is.shard;
    served = is.served;
    on_slot = is.on_slot;
    in_place = is.in_place;
    held_up = is.held_up;
  }

  pub held_up_since : (t : Table) (r : Route) (answers : Mode → Bool) (early before now : Run) → IsPrefix early before → IsHeldUpBy o t r answers before now
      → IsHeldUpBy o t r answers early now
  held_up_since t r answers early before now earlier is = record {
    seats = is.seats;
    found = partition_since early before now earlier t.keyspace is.seats is.found;
    held_up = held_between t r answers early before now now is.seats earlier (prefix_self now) is.held_up;
  }

  -- a statement that was held up by a partition, whose shards were then found
  pub held_up_by : (t : Table) (r : Route) (answers : Mode → Bool) (before tried now : Run) (seats : List Seat) → IsPrefix before tried → IsPrefix tried now
      → IsHeldUp o t r answers before tried seats → IsFoundPartition o tried now t.keyspace seats → IsHeldUpBy o t r answers before now
  held_up_by t r answers before tried now seats earlier later held found = record {
    seats = seats;
    found = partition_since before tried now earlier t.keyspace seats found;
    held_up = held_between t r answers before before tried now seats (prefix_self before) later held;
  }

  -- the parts so far were found
  pub found_next : (p q now : PassView Entry) (parts : List Seat) (i : ℕ) (part : Seat) → i < length parts → part ≡ get_or parts i part
      → IsPrefix p.seen q.seen → HasLooked o part.0 q now → (s : ShardRecord) → IsOnItsSlot o now.seen s → s.slot ≡ part.0 → s.place ≡ place_at part
      → (mode o now.seen part.0 ≡ Following → ⊥) → AllByRecursion (WasFound o p.seen q.seen) (take i parts)
      → AllByRecursion (WasFound o p.seen now.seen) (take (i + 1) parts)
  found_next p q now parts i part there is before looked s stands on_slot at past so_far =
      subst (AllByRecursion (WasFound o p.seen now.seen)) (sym (take_more parts i part there ∙ ap (λ (x : Seat). take i parts ++ x ∷ []) (sym is)))
      (AllByRecursion-push (WasFound o p.seen now.seen) (take i parts) part (all_until p.seen q.seen now.seen looked.later (take i parts) so_far)
      (found_at part p q now before looked s stands on_slot at past))
