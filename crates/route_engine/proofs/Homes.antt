-- The parts that are needed are of the partition's keyspace, and each keyspace's partitions lie at its place.
use Rattle.std.proofs.Common.{◌≡◌, ℕ, ◌+◌, ◌<◌, ◌≤◌, Bor, List, [], ◌∷◌, length, get_or, Option, Some, None, sym, ap, subst, ◌∙◌, refl, inl, arith}
use Rattle.std.specs.Prelude.{IsSome, IfSome}
use Rattle.std.specs.List.{range_with_len}
use Rattle.std.specs.Slice.{IsItemAt}
use Rattle.std.proofs.lemmas.Bool.{false≢true}
use Rattle.std.proofs.lemmas.List.FromFn.{length-range_with_len, get_or-range_with_len}
use Rattle.vschema.specs.declared.schema.Table.{Table}
use Rattle.shard_calls.specs.Route.{Route}
use Rattle.shard_calls.specs.Routes.{takes}
use Rattle.shard_contents.proofs.Lists.{In, In-all, In-from_filter}
use Rattle.shard_contents.proofs.Rows.{head_is}
use Rattle.serving.specs.Partitions.{Seat, IsPartition, AreOf}
use Rattle.shard_calls.specs.Answers.{needed}
use Rattle.shard_calls.specs.Pendings.{BoundView}
use Rattle.shard_calls.specs.inner.InTransactions.{IsSeatOf, NeedsOther}

-- ---- a part that is needed

module _ (t : Table) (r : Route) (parts seats : List Seat) (are : parts ≡ seats) (of : AreOf t.keyspace seats) (part : Seat)
    (alone : needed t r parts ≡ part ∷ []) where
  pub one : needed t r seats ≡ part ∷ []
  one = subst (λ (l : List Seat). needed t r l ≡ part ∷ []) are alone

  pub home : part.2 ≡ t.keyspace
  home =
      let h = In-from_filter (λ (s : Seat). takes t r s.1) part seats (subst (In part) (sym one) (inl refl)) in
      In-all (λ (s : Seat). s.2 ≡ t.keyspace) part seats of h.0

  module _ (is : IsPartition seats) (b : BoundView) (kept : b.keyspace ≡ t.keyspace → seats ≡ b.seats) where
    pub is_seat : (b.keyspace ≡ part.2) × (b.seat ≡ part) → IsSeatOf t r b
    is_seat same =
        let k : b.keyspace ≡ t.keyspace = same.0 ∙ home in
        record {
          keyspace = k;
          partition = subst IsPartition (kept k) is;
          only = subst (λ (l : List Seat). needed t r l ≡ b.seat ∷ []) (kept k) (one ∙ ap (λ (x : Seat). x ∷ []) (sym same.1));
        }

    pub is_other : ((b.keyspace ≡ part.2) × (b.seat ≡ part) → ⊥) → NeedsOther t r b
    is_other differs = record {
      seats = seats;
      partition = is;
      kept = kept;
      some = λ none. let wrong : part ∷ [] ≡ [] = sym one ∙ none in cc wrong;
      other = λ k only. differs (k ∙ sym home, head_is (sym only ∙ one));
    }

-- several parts that are needed
pub is_several : (t : Table) (r : Route) (parts seats : List Seat) → parts ≡ seats → IsPartition seats → (b : BoundView) → (b.keyspace ≡ t.keyspace → seats ≡ b.seats)
    → 2 ≤ length (needed t r parts) → NeedsOther t r b
is_several t r parts seats are is b kept more =
    let two : 2 ≤ length (needed t r seats) = subst (λ (l : List Seat). 2 ≤ length (needed t r l)) are more in
    record {
      seats = seats;
      partition = is;
      kept = kept;
      some = λ none. let l = ap length none in absurd (omega (arith, two, l));
      other = λ k only. let l = ap length only in absurd (omega (arith, two, l));
    }

-- ---- the partitions of a keyspace

module _ (keyspaces : List ℕ) (n k : ℕ) (each : keyspaces ≡ range_with_len 0 n) where
  long : length keyspaces ≡ n
  long = ap length each ∙ length-range_with_len 0 n

  pub at_its_ordinal : k < n → (x : ℕ) → x ≡ get_or keyspaces k x → x ≡ k
  at_its_ordinal below x is =
      let e : x ≡ 0 + k = is ∙ ap (λ (l : List ℕ). get_or l k x) each ∙ get_or-range_with_len 0 n k x below in omega (arith, e)

  pub is_there : (r : Option (Bor ℕ)) → IsItemAt keyspaces k r → (IsSome r → k < n) × (k < n → IsSome r)
  is_there None is = (λ h. absurd (false≢true h), λ below. let l = long in is.2 (omega (arith, below, l)))
  is_there (Some x) is = (λ h. let l = long in let b = is.3.0 in omega (arith, b, l), λ below. let l = long in is.2 (omega (arith, below, l)))

  pub is_own : (r : Option (Bor ℕ)) → IsItemAt keyspaces k r → IfSome r (λ x. x.now ≡ k)
  is_own None is = tt
  is_own (Some x) is = at_its_ordinal (let l = long in let b = is.3.0 in omega (arith, b, l)) x.now is.1
