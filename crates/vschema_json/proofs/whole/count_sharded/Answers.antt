use Rattle.std.proofs.Common.{rules, tests}
use Rattle.std.proofs.lemmas.Iterator.{YieldsList-from_slice}
use Rattle.std.proofs.lemmas.Iterator.Consumers.{YieldsList-from_filter, count_from_yields_List}
use Rattle.vschema_json.proofs.whole.count_sharded.Goals as goal

pub returns : goal.returns
returns c =
    count_from_yields_List c.filter.result _ c.count.ensures.ran
    (YieldsList-from_filter _ (λ k. k.sharded) (YieldsList-from_slice c.args.keyspaces.now (cc)) c.filter.ensures.closure (λ x r q k. search (rules, tests)))
