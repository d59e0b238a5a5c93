use denote.Param.{param}
use denote.Exit.{no}
use denote.Param.Send.{param_send, arg_send}
use Rattle.shard_calls.specs.contracts.looks.LookedJob as looked
use Rattle.shard_calls.specs.contracts.scatter.ReadResult as done
use Rattle.std.proofs.Common.{◌∙◌, sym}
use Rattle.shard_calls.proofs.Sent.{looked_send, done_send}
use Rattle.shard_calls.proofs.Workers.{pairs}
use Rattle.shard_calls.proofs.scatter.read_at_once.Goals as goal

pub map_vec-requires-send-J : goal.map_vec-requires-send-J
map_vec-requires-send-J g c κs within = param_send 1 _ (arg_send _ no (looked.the_row _ (param 1 g.row.W) (param 2 g.row.J) g.W.World g.J.Naming) (looked_send (param 1 g.row.W) (param 2 g.row.J) g.W.World g.J.Naming _))

pub map_vec-requires-send-X : goal.map_vec-requires-send-X
map_vec-requires-send-X g c κs within = param_send 2 _ (arg_send _ no (done.the_row (param 1 g.row.W) (param 2 g.row.J) g.W.World g.J.Naming) (done_send (param 1 g.row.W) (param 2 g.row.J) g.W.World g.J.Naming))

pub returns : goal.returns
returns g c =
    record {
      ok = pairs _ c.args.looked.items c.in_ok-done.done.items (sym c.in_ok-done.done.ok.0 ∙ c.in_ok-done.ensures.len ∙ c.args.looked.ok.0)
          (λ i d e h. let k = (c.in_ok-done.ensures.each i e h).1 in rw (k.job_is d) k.call.met);
    }
