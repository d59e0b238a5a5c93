-- Where a pass has looked, part by part.
use Rattle.std.proofs.Common.{◌≡◌, ℕ, ◌+◌, ◌<◌, ◌≤◌, List, [], ◌∷◌, ◌++◌, length, map, take, drop, get_or, refl, sym, ap, ◌∙◌, subst, append_assoc}
use Rattle.std.specs.Prelude.{IsPermutation}
use Rattle.std.specs.List.{AllByRecursion}
use Rattle.std.proofs.lemmas.List.{append-nil, map-append, take-append-drop}
use Rattle.std.proofs.lemmas.List.Sorted.{IsPermutation-map}
use mathlib.Core.List.{IsPrefix}
use Rattle.journal.specs.Views.{PassView}
use Rattle.journal.proofs.Fronts.{prefix_self, prefix_nil, prefix_more}
use Rattle.keyrange.specs.declared.KeyRange.{KeyRange}
use Rattle.serving.specs.Partitions.{Seat, IsPartition, AreOf}
use Rattle.shard_run.specs.declared.ShardRecord.{ShardRecord}
use Rattle.shard_run.specs.declared.Entry.{Entry}
use Rattle.shard_run.specs.Runs.{Opening}
use Rattle.shard_law.proofs.Lists.{all-weaker}
use Rattle.shard.proofs.Progress.{take_whole}
use Rattle.shard.specs.Seats.{seat_of}
use Rattle.reshard_cutover.specs.Turns.{HasLookedAt}
use Rattle.reshard_cutover.proofs.Turns.{unlooked, looked_then}
use Rattle.reshard_cutover.proofs.Thaws.{look_next}
use Rattle.reshard_create.specs.Begun.{IsNotFollowing}
use Rattle.reshard_create.specs.Looked.{slots_of, HasLookedAlong, HasLookedAtEach, HasLookedAtParts}
use Rattle.reshard_create.specs.inner.Created.{AreToldApart, HasSeen, HasLookedAtAll, HasLookedAlongParts}
use Rattle.reshard_create.proofs.split.Lists.{map_twice, all_both}
use Rattle.reshard_create.proofs.SeenShards.{shards_at, seen_next, has_since, has_until}
use Rattle.reshard_create.proofs.Parts.{all_parts}
use Rattle.reshard_create.proofs.Unfit.{taken_home, rest_home}

-- the last of the parts that were looked at
pub looked_last : (parts : List Seat) (i : ℕ) (part : Seat) → i < length parts → part ≡ get_or parts i part → (p q now : PassView Entry)
    → HasLookedAt (slots_of (take i parts)) p q → HasLookedAt (part.0 ∷ []) q now → HasLookedAlong (slots_of parts) p now
looked_last parts i part there is p q now before at = record {
  first = slots_of (take (i + 1) parts);
  part = (
    slots_of (drop (i + 1) parts),
    sym (map-append (λ (s : Seat). s.0) (take (i + 1) parts) (drop (i + 1) parts)) ∙ ap slots_of (take-append-drop (i + 1) parts),
  );
  looked = look_next (λ (s : Seat). s.0) parts i part there is p q now before at;
}

-- none was looked at, or all
pub along_none : (slots : List ℕ) (p now : PassView Entry) → now ≡ p → HasLookedAlong slots p now
along_none slots p now same = record { first = []; part = prefix_nil slots; looked = unlooked p now same }

pub along_all : (slots : List ℕ) (p now : PassView Entry) → HasLookedAt slots p now → HasLookedAlong slots p now
along_all slots p now looked = record { first = slots; part = prefix_self slots; looked = looked }

module _ (a b : List Seat) (p : PassView Entry) where
  as_one : slots_of a ++ slots_of b ≡ slots_of (a ++ b)
  as_one = sym (map-append (λ (s : Seat). s.0) a b)

  -- the first ones begin a longer list
  pub along_more : (now : PassView Entry) → HasLookedAlong (slots_of a) p now → HasLookedAlong (slots_of (a ++ b)) p now
  along_more now is =
      subst (λ (l : List ℕ). HasLookedAlong l p now) as_one
      (record { first = is.first; part = prefix_more is.first (slots_of a) (slots_of b) is.part; looked = is.looked })

  -- all of the first, and some of the second
  pub along_then : (q now : PassView Entry) → HasLookedAt (slots_of a) p q → HasLookedAlong (slots_of b) q now → HasLookedAlong (slots_of (a ++ b)) p now
  along_then q now before is =
      subst (λ (l : List ℕ). HasLookedAlong l p now) as_one
      (record {
        first = slots_of a ++ is.first;
        part = (is.part.0, append_assoc (slots_of a) is.first is.part.0 ∙ ap (λ (l : List ℕ). slots_of a ++ l) is.part.1);
        looked = looked_then (slots_of a) is.first p q now before is.looked;
      })

  -- all of both
  pub at_both : (q now : PassView Entry) → HasLookedAt (slots_of a) p q → HasLookedAt (slots_of b) q now → HasLookedAt (slots_of (a ++ b)) p now
  at_both q now before after =
      subst (λ (l : List ℕ). HasLookedAt l p now) as_one (looked_then (slots_of a) (slots_of b) p q now before after)

-- ---- parts that were found, too

module _ (o : Opening) (p : PassView Entry) (k : ℕ) (parts : List Seat) where
  pub none_yet : (now : PassView Entry) → now ≡ p → HasLookedAtAll o p now k []
  none_yet now same = record { seen = tt; looked = unlooked p now same }

  -- one more of them
  pub all_next : (i : ℕ) (part : Seat) → i < length parts → part ≡ get_or parts i part → (q now : PassView Entry) → IsPrefix p.seen q.seen → IsPrefix q.seen now.seen
      → HasSeen o q now k IsNotFollowing part → HasLookedAt (part.0 ∷ []) q now → HasLookedAtAll o p q k (take i parts)
      → HasLookedAtAll o p now k (take (i + 1) parts)
  all_next i part there is q now before later seen at so_far = record {
    seen = seen_next o p q now k IsNotFollowing parts i part there is before later seen so_far.seen;
    looked = look_next (λ (s : Seat). s.0) parts i part there is p q now so_far.looked at;
  }

  pub first_parts : (n : ℕ) (now : PassView Entry) → HasLookedAtAll o p now k (take n parts) → HasLookedAlongParts o p now k parts
  first_parts n now all = record { first = take n parts; others = drop n parts; are = take-append-drop n parts; looked = all }

  pub no_parts : (now : PassView Entry) → now ≡ p → HasLookedAlongParts o p now k parts
  no_parts now same = record { first = []; others = parts; are = refl; looked = none_yet now same }

  pub whole_parts : (n : ℕ) (now : PassView Entry) → length parts ≤ n → HasLookedAtAll o p now k (take n parts) → HasLookedAtAll o p now k parts
  whole_parts n now far all = subst (HasLookedAtAll o p now k) (take_whole n parts far) all

  pub all_parts_looked : (now : PassView Entry) → HasLookedAtAll o p now k parts → HasLookedAlongParts o p now k parts
  all_parts_looked now all = record { first = parts; others = []; are = append-nil parts; looked = all }

module _ (o : Opening) (p : PassView Entry) (k : ℕ) (a b : List Seat) where
  pub more_parts : (now : PassView Entry) → HasLookedAlongParts o p now k a → HasLookedAlongParts o p now k (a ++ b)
  more_parts now is = record {
    first = is.first;
    others = is.others ++ b;
    are = sym (append_assoc is.first is.others b) ∙ ap (λ (l : List Seat). l ++ b) is.are;
    looked = is.looked;
  }

  pub both_parts : (q now : PassView Entry) → IsPrefix p.seen q.seen → IsPrefix q.seen now.seen → HasLookedAtAll o p q k a → HasLookedAtAll o q now k b
      → HasLookedAtAll o p now k (a ++ b)
  both_parts q now before later first second = record {
    seen =
        all_both (HasSeen o p now k IsNotFollowing) a b
        (all-weaker (HasSeen o p q k IsNotFollowing) (HasSeen o p now k IsNotFollowing) (λ s h. has_until o p q now k IsNotFollowing s later h) a first.seen)
        (all-weaker (HasSeen o q now k IsNotFollowing) (HasSeen o p now k IsNotFollowing) (λ s h. has_since o p q now k IsNotFollowing s before h) b second.seen);
    looked = at_both a b p q now first.looked second.looked;
  }

first_of : (k : ℕ) (a b : List Seat) → AreOf k (a ++ b) → AreOf k a
first_of k [] b of = tt
first_of k (x ∷ a) b of = (of.0, first_of k a b of.1)

-- parts of a partition
pub at_parts : (o : Opening) (p now : PassView Entry) (k : ℕ) (parts : List Seat) → IsPartition parts → AreOf k parts → HasLookedAlongParts o p now k parts
    → HasLookedAtParts o k p now
at_parts o p now k parts partition home is =
    let of = subst (AreOf k) (sym is.are) home in
    let found = shards_at o p now k is.first (first_of k is.first is.others of) is.looked.seen in
    let same : is.first ++ is.others ≡ map seat_of found.0 ++ is.others = ap (λ (l : List Seat). l ++ is.others) (sym found.1.at) in
    record {
      shards = found.0;
      rest = is.others;
      partition = subst IsPartition (sym is.are ∙ same) partition;
      home = subst (AreOf k) same of;
      found = found.1.found;
      looked =
          subst (λ (l : List ℕ). HasLookedAt l p now) (ap slots_of (sym found.1.at) ∙ map_twice (λ (s : Seat). s.0) seat_of found.0) is.looked.looked;
    }

-- those that are told apart
pub at_told : (o : Opening) (p now : PassView Entry) (k : ℕ) (from : List KeyRange) (seats taken rest : List Seat) → AreToldApart k from seats taken rest
    → HasLookedAlongParts o p now k (taken ++ rest) → HasLookedAtParts o k p now
at_told o p now k from seats taken rest told is =
    at_parts o p now k (taken ++ rest) (all_parts k from seats taken rest told)
    (all_both (λ (s : Seat). s.2 ≡ k) taken rest (taken_home o k from [] seats taken rest told) (rest_home o k from [] seats taken rest told)) is

-- the sources in another order
pub at_each : {S : Type 0} (which : S → ShardRecord) (p now : PassView Entry) (found ordered : List S) (taken : List Seat) → IsPermutation found ordered
    → map {B = Seat} (λ s. ((which s).slot, (which s).place.range, (which s).place.keyspace)) found ≡ taken → HasLookedAt (slots_of taken) p now
    → HasLookedAtEach (map (λ (x : ShardRecord). x.slot) (map which ordered)) p now
at_each which p now found ordered taken order are looked =
    let same : slots_of taken ≡ map (λ (x : ShardRecord). x.slot) (map which found) =
    ap slots_of (sym are) ∙ map_twice (λ (x : Seat). x.0) (λ s. ((which s).slot, (which s).place.range, (which s).place.keyspace)) found
    ∙ sym (map_twice (λ (x : ShardRecord). x.slot) which found) in
    record {
      order = map (λ (x : ShardRecord). x.slot) (map which found);
      once = IsPermutation-map (λ (x : ShardRecord). x.slot) (map which found) (map which ordered) (IsPermutation-map which found ordered order);
      looked = subst (λ (l : List ℕ). HasLookedAt l p now) same looked;
    }
