use Rattle.std.proofs.Common.{◌∙◌}
use Rattle.shard_calls.proofs.Looking.{read_so}
use Rattle.shard_calls.proofs.looks.leave.Goals as goal

pub returns : goal.returns
returns g c = λ a is. record {
  slot = is.slot;
  shard = is.shard;
  stands = is.stands;
  served = is.served;
  on_slot = is.on_slot;
  in_place = is.in_place;
  looked = is.looked;
  read = read_so g.W.World.opening c.args.looked.pass.seen is.shard c.args.looked.begun c.answer_unread-outcome.result _ a.query (c.get.ensures ∙ is.query)
      (c.answer_unread-outcome.ensures g.W.World.opening c.args.looked.pass.seen is.shard) is.begun;
}
