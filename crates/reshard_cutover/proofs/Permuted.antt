-- What holds of each element holds of each of a permutation.
use Rattle.std.proofs.Common.{List}
use Rattle.std.specs.Prelude.{IsPermutation}
use Rattle.std.specs.List.{AllByRecursion}
use Rattle.std.proofs.lemmas.List.Sorted.{Contains-permutation, IsPermutation-sym}
use Rattle.shard_contents.proofs.Lists.{In-from_Contains, Contains-from_In, In-all, all-from_In}

pub all_permuted : {X : Type 0} (P : X → Type 0) (xs ys : List X) → IsPermutation xs ys → AllByRecursion P xs → AllByRecursion P ys
all_permuted P xs ys perm all =
    all-from_In P ys (λ y h. In-all P y xs all (In-from_Contains y xs (Contains-permutation ys xs y (IsPermutation-sym xs ys perm) (Contains-from_In y ys h))))
