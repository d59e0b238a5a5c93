use Rattle.std.proofs.Common.{◌<◌, ◌∙◌, List, length, sym, subst}
use Rattle.std.specs.List.{AllByRecursion}
use Rattle.vschema.specs.declared.changes.RowChange.{RowChange}
use Rattle.vschema.specs.Database.{changed_table}
use Rattle.shard_store.specs.Stores.{IsReadyFor}
use Rattle.shard_contents.proofs.contents.Contents.make_room.Goals as goal

pub prepare-requires : goal.prepare-requires
prepare-requires c =
    subst (AllByRecursion (λ (x : RowChange). changed_table x < length c.args.self.now.store.rows)) (sym (c.changes.ensures ∙ c.in_ok-kept.ensures.ok)) c.requires

pub returns-clause-ready : goal.returns-clause-ready
returns-clause-ready c =
    subst (λ (l : List RowChange). IsReadyFor c.prepare.new.self l c.in_ok-keyed.keyed.items) (c.changes.ensures ∙ c.in_ok-kept.ensures.ok) c.in_ok-keyed.ensures.ready
