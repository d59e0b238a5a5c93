-- The ranges of parts that are named, and of the rest.
use Rattle.std.proofs.Common.{◌≡◌, ℕ, ◌+◌, ◌≤◌, Bool, List, ◌++◌, map, arith}
use Rattle.keyrange.specs.declared.KeyRange.{KeyRange}
use Rattle.keyrange.specs.Ranges.{has_id, IsByteString, Cover}
use Rattle.serving.specs.Partitions.{Seat}
use Rattle.reshard_create.specs.split.Choices.{holders, HoldTheSame}
use Rattle.reshard_create.proofs.split.Counting.{counted-append, counted-map}
use Rattle.reshard_create.specs.inner.Created.{AreNamed}

module _ (ranges : List KeyRange) (seats taken rest : List Seat) (are : AreNamed ranges seats taken rest) (targets : List KeyRange)
    (covers : Cover (map (λ s. s.1) seats)) where
  pub present : (id : List ℕ) → IsByteString id → holders id (map (λ s. s.1) taken) + holders id (map (λ s. s.1) rest) ≡ 1
  present id bytes =
      let p : KeyRange → Bool = λ r. has_id r id in
      let h = covers id bytes in
      let a = counted-map p (λ (s : Seat). s.1) seats in
      let b = counted-map p (λ (s : Seat). s.1) taken in
      let c = counted-map p (λ (s : Seat). s.1) rest in
      let d = are.all (λ s. has_id s.1 id) in
      omega (arith, h, a, b, c, d)

  -- the other ranges with the targets cover all exactly where the targets hold what the named ones do
  pub same_from_cover : Cover (map (λ s. s.1) rest ++ targets) → HoldTheSame targets (map (λ s. s.1) taken)
  same_from_cover next id bytes =
      let h = next id bytes in
      let k = present id bytes in
      let l = counted-append (λ r. has_id r id) (map (λ (s : Seat). s.1) rest) targets in
      omega (arith, h, k, l)

  pub cover_from_same : HoldTheSame targets (map (λ s. s.1) taken) → Cover (map (λ s. s.1) rest ++ targets)
  cover_from_same same id bytes =
      let h = same id bytes in
      let k = present id bytes in
      let l = counted-append (λ r. has_id r id) (map (λ (s : Seat). s.1) rest) targets in
      omega (arith, h, k, l)

  pub at_most_one : (id : List ℕ) → IsByteString id → holders id (map (λ s. s.1) taken) ≤ 1
  at_most_one id bytes = let k = present id bytes in omega (arith, k)
