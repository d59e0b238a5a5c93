-- Nothing is kept where no transaction is open.
use Rattle.std.proofs.Common.{◌≡◌, Option, None, sym, subst}
use Rattle.journal.specs.Views.{PassView}
use Rattle.shard_run.specs.declared.Entry.{Entry}
use Rattle.shard_run.specs.Runs.{Opening}
use Rattle.route_engine.specs.Pendings as stands
use Rattle.route_engine.specs.Pendings.{OpenView, Represents, IsOf}

pub none_of : (o : Opening) (p : PassView Entry) (v : Option OpenView) → v ≡ None → IsOf o v p
none_of o p v none = (None, subst (λ (x : Option OpenView). Represents o p x None) (sym none) stands.closed)
