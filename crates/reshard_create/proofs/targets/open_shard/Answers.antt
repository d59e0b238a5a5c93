use denote.Param.Send.{sendable}
use Rattle.std.proofs.Common.{ℕ, sym, ap, subst, ◌∙◌, ◌++◌, [], length, replicate}
use Rattle.shard.specs.VSchema.{VSchema}
use Rattle.std.specs.List.{AllByRecursion}
use Rattle.std.specs.Option.{option_to_list}
use Rattle.shard_run.proofs.Sent.{entry_send}
use Rattle.shard_run.specs.Runs.{is_opening, entries_on}
use Rattle.reshard_create.specs.Configs.{IsFree}
use Rattle.reshard_create.proofs.Blank.{blank, stands_copy, follows_first, last_of}
use Rattle.reshard_create.proofs.targets.open_shard.Goals as goal

free : (g : _) (c : goal.After-which-1 g) → IsFree g.W.World.opening c.unwrap-seat.result
free g c =
    last_of (IsFree g.W.World.opening) c.pop.new.self.items c.unwrap-seat.result
    (subst (AllByRecursion (IsFree g.W.World.opening))
    (c.pop.ensures.items ∙ ap (λ x. c.pop.new.self.items ++ option_to_list x) c.unwrap-seat.ensures) c.requires.free)

pub slot-slot-requires-send-L-Entry : goal.slot-slot-requires-send-L-Entry
slot-slot-requires-send-L-Entry g c κs within = search (entry_send, sendable)

pub new-state-requires-clause-fresh : goal.new-state-requires-clause-fresh
new-state-requires-clause-fresh g c =
    ap (λ (n : ℕ). entries_on n c.unwrap-seat.result.seen) c.slot-slot.ensures.slot ∙ (free g c).fresh

pub new-state-requires-clause-stands : goal.new-state-requires-clause-stands
new-state-requires-clause-stands g c =
    stands_copy g.W.World.opening c.unwrap-seat.result (free g c) c.args.which.now c.in_ok-copy.copy c.slot-slot.result c.in_ok-copy.ensures.ok
    c.slot-slot.ensures.slot c.requires.range c.requires.sources

pub new-state-requires-clause-first_mode : goal.new-state-requires-clause-first_mode
new-state-requires-clause-first_mode g c =
    follows_first g.W.World.opening c.unwrap-seat.result (free g c) c.slot-slot.result c.slot-slot.ensures.slot

pub new-state-requires-clause-rows : goal.new-state-requires-clause-rows
new-state-requires-clause-rows g c =
    c.in_ok-store.ensures.ok ∙ ap (λ (v : VSchema). replicate (length v.tables) []) c.requires.schema
    ∙ sym (blank g.W.World.opening c.requires.opens c.args.which.now.place.keyspace c.requires.keyspace (record c.in_ok-copy.copy { slot = c.slot-slot.result })
    (ap (is_opening g.W.World.opening) c.slot-slot.ensures.slot ∙ (free g c).not_opening))
