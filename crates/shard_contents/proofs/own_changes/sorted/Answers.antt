use Rattle.std.proofs.Common.{◌==◌, sym}
use Rattle.std.proofs.lemmas.List.Sorted.{list_any-IsPermutation}
use Rattle.shard_contents.proofs.own_changes.sorted.Goals as goal

pub returns-in-Ok-clause-same : goal.returns-in-Ok-clause-same
returns-in-Ok-clause-same c = λ n. sym (list_any-IsPermutation (λ m. m == n) c.args.positions.items c.sort.new.self.items c.sort.ensures.permutation)
