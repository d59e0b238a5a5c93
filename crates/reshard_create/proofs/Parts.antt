-- The parts of a partition, told apart: those of the named ranges make one list with the names, and all of them one partition.
use Rattle.std.proofs.Common.{◌≡◌, ℕ, suc, ◌+◌, ◌<◌, ◌≤◌, ◌&&◌, Bool, true, List, [], ◌∷◌, ◌++◌, length, map, count_by, get_or, refl, sym, ap, ◌∙◌, subst, inl, inr, arith, ◌⊎◌}
use Rattle.std.specs.Prelude.{Contains, IsPermutation, remove}
use Rattle.std.specs.List.{AllByRecursion}
use Rattle.std.proofs.lemmas.Bool.{and_parts}
use Rattle.std.proofs.lemmas.List.{map-append, length-map}
use Rattle.std.proofs.lemmas.List.Sorted.{sum_by-IsPermutation, length_permutation, Contains-permutation, IsPermutation-refl, IsPermutation-cons, IsPermutation-trans, IsPermutation-remove}
use Rattle.keyrange.specs.declared.KeyRange.{KeyRange}
use Rattle.keyrange.specs.Ranges.{has_id, IsByteString}
use Rattle.keyrange.specs.Names.{IsNamed}
use Rattle.serving.specs.Partitions.{Seat, IsPartition, ranges}
use Rattle.shard_law.proofs.Lists.{In, In-from_Contains, Contains-from_In, In-all, In-map, all-from_In}
use Rattle.reshard_create.specs.split.Choices.{DoNotOverlap, holders}
use Rattle.reshard_create.specs.inner.Created.{AreToldApart}
use Rattle.reshard_create.proofs.Blank.{begins_inside}
use Rattle.reshard_create.proofs.split.Lists.{all_map, all_both}
use Rattle.reshard_create.proofs.split.Counting.{counted-cons, counted-among, counted-twice, counted-append}
use Rattle.reshard_create.proofs.NamedRanges.{present, at_most_one}

-- ids that lie in one of the ranges at most
abbrev pub LieOnce : List KeyRange → Type 0
LieOnce xs = (id : List ℕ) → IsByteString id → holders id xs ≤ 1

once_after : (x : KeyRange) (xs : List KeyRange) → LieOnce (x ∷ xs) → LieOnce xs
once_after x xs once id bytes =
    let a = once id bytes in
    let b = counted-cons (λ r. has_id r id) x xs in
    omega (arith, a, b)

-- the first of the ranges isn't among the others
other_than : (x : KeyRange) (xs : List KeyRange) → IsNamed x → LieOnce (x ∷ xs) → In x xs → ⊥
other_than x xs named once h =
    let w = begins_inside x named in
    let p : KeyRange → Bool = λ r. has_id r x.begin in
    let a = once x.begin w.0 in
    let b = counted-cons p x xs in
    let c = counted-among p x xs h w.1 in
    let d : Rattle.std.proofs.Common.cond {A = ℕ} (p x) 1 0 ≡ 1 = ap (λ (b : Bool). Rattle.std.proofs.Common.cond {A = ℕ} b 1 0) w.1 in
    omega (arith, a, b, c, d)

-- so many ranges, each of them among the names, and no two alike: they are the names
pub same_ranges : (ys xs : List KeyRange) → AllByRecursion IsNamed ys → LieOnce ys → AllByRecursion (Contains xs) ys → length ys ≡ length xs → IsPermutation xs ys
same_ranges [] [] named once among count = IsPermutation-refl []
same_ranges [] (x ∷ xs) named once among count = absurd (omega (arith, count))
same_ranges (y ∷ ys) xs named once among count =
    let k = among.0.0 in
    let left = remove xs k in
    let out : IsPermutation xs (y ∷ left) = IsPermutation-remove xs k y among.0.1 (sym among.0.2) in
    let a = length_permutation xs (y ∷ left) out in
    let others : AllByRecursion (Contains left) ys = all-from_In (Contains left) ys (λ z h. by z h
    (In-from_Contains z (y ∷ left) (Contains-permutation xs (y ∷ left) z out (In-all (Contains xs) z ys among.1 h)))) in
    IsPermutation-trans xs (y ∷ left) (y ∷ ys) out
    (IsPermutation-cons y left ys (same_ranges ys left named.1 (once_after y ys once) others (omega (arith, a, count))))
  where
    by : (z : KeyRange) → In z ys → In z (y ∷ remove xs among.0.0) → Contains (remove xs among.0.0) z
    by z h (inl e) = absurd (other_than y ys named.0 once (subst (λ (r : KeyRange). In r ys) (sym e) h))
    by z h (inr m) = Contains-from_In z (remove xs among.0.0) m

pub apart_from_once : (xs : List KeyRange) → LieOnce xs → DoNotOverlap xs
apart_from_once xs once i j d before within over =
    let id = over.0 in
    let p : KeyRange → Bool = λ r. has_id r id in
    let both = and_parts (p (get_or xs i d)) (p (get_or xs j d)) over.2 in
    let two = counted-twice p xs i j d before within both.0 both.1 in
    let one = once id over.1 in
    absurd (omega (arith, two, one))

pub once_permuted : (xs ys : List KeyRange) → IsPermutation xs ys → LieOnce ys → LieOnce xs
once_permuted xs ys perm once id bytes = subst (λ (n : ℕ). n ≤ 1) (held_permuted xs ys perm id) (once id bytes)
  where
    held_permuted : (xs ys : List KeyRange) → IsPermutation xs ys → (id : List ℕ) → holders id ys ≡ holders id xs
    held_permuted xs ys perm id = sum_by-IsPermutation _ xs ys perm

count_all : {X : Type 0} (xs : List X) → count_by (λ x. true) xs ≡ length xs
count_all [] = refl
count_all (x ∷ xs) =
    let a = counted-cons (λ x. true) x xs in
    let b = count_all xs in
    omega (arith, a, b)

module _ (k : ℕ) (from : List KeyRange) (seats taken rest : List Seat) (told : AreToldApart k from seats taken rest) where
  named_among : (some : List Seat) → AllByRecursion (Contains seats) some → AllByRecursion IsNamed (ranges some)
  named_among some among =
      all_map IsNamed (λ (s : Seat). s.1) some
      (all-from_In (λ (s : Seat). IsNamed s.1) some
      (λ s h. In-all IsNamed s.1 (ranges seats) told.partition.named
      (In-map (λ (s : Seat). s.1) s seats (In-from_Contains s seats (In-all (Contains seats) s some among h)))))

  pub taken_named : AllByRecursion IsNamed (ranges taken)
  taken_named = named_among taken told.taken_among

  pub taken_once : LieOnce (ranges taken)
  taken_once id bytes = at_most_one from seats taken rest told.are [] told.partition.whole id bytes

  -- as many parts as names: the parts have the names
  pub taken_are : length taken ≡ length from → IsPermutation from (ranges taken)
  taken_are count =
      same_ranges (ranges taken) from taken_named taken_once (all_map (Contains from) (λ (s : Seat). s.1) taken told.are.named)
      (length-map taken (λ (s : Seat). s.1) ∙ count)

  pub all_parts : IsPartition (taken ++ rest)
  all_parts =
      let same : ranges (taken ++ rest) ≡ ranges taken ++ ranges rest = map-append (λ (s : Seat). s.1) taken rest in
      record {
        named = subst (AllByRecursion IsNamed) (sym same) (all_both IsNamed (ranges taken) (ranges rest) taken_named (named_among rest told.rest_among));
        whole = λ id bytes.
            let a = ap (count_by (λ r. has_id r id)) same in
            let b = counted-append (λ r. has_id r id) (ranges taken) (ranges rest) in
            let c = present from seats taken rest told.are [] told.partition.whole id bytes in
            omega (arith, a, b, c);
        few =
            let a = told.are.all (λ s. true) in
            let b = count_all seats in
            let c = count_all taken in
            let d = count_all rest in
            let e = Rattle.std.proofs.Common.length-append taken rest in
            let f = told.partition.few in
            omega (arith, a, b, c, d, e, f);
      }
