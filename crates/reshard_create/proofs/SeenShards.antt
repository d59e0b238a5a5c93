-- What looks at the shards of a partition's parts show.
use Rattle.std.proofs.Common.{◌≡◌, ℕ, List, [], ◌∷◌, ◌++◌, map, take, length, get_or, ◌+◌, ◌<◌, refl, sym, ap, ◌∙◌, subst}
use Rattle.std.specs.List.{AllByRecursion}
use Rattle.std.proofs.lemmas.List.{take_more}
use mathlib.Core.List.{IsPrefix}
use Rattle.shard.specs.Place.{Place}
use Rattle.serving.specs.Partitions.{Seat, AreOf}
use Rattle.journal.specs.Views.{PassView}
use Rattle.journal.proofs.Fronts.{prefix_self, prefix_trans}
use Rattle.shard_run.specs.declared.ShardRecord.{ShardRecord}
use Rattle.shard_run.specs.declared.Entry.{Entry}
use Rattle.shard_run.specs.declared.Mode.{Mode}
use Rattle.shard_run.specs.Runs.{Opening, mode}
use Rattle.shard_law.proofs.Lists.{all-weaker, AllByRecursion-push}
use Rattle.shard.specs.Seats.{seat_of}
use Rattle.reshard_create.specs.Begun.{WasSeen, IsServing, IsNotFollowing}
use Rattle.reshard_create.specs.inner.Created.{IsSighted, IsSeenAt, HasSeen}

-- ---- what was seen

module _ (o : Opening) (p q now : PassView Entry) (Such : Mode → Type 0) (s : ShardRecord) where
  pub seen_since : IsPrefix p.seen q.seen → WasSeen o q now Such s → WasSeen o p now Such s
  seen_since before is = record {
    run = is.run;
    between = record { since = prefix_trans p.seen q.seen is.run before is.between.since; until = is.between.until };
    of_run = is.of_run;
    such = is.such;
  }

  pub seen_until : IsPrefix q.seen now.seen → WasSeen o p q Such s → WasSeen o p now Such s
  seen_until later is = record {
    run = is.run;
    between = record { since = is.between.since; until = prefix_trans is.run q.seen now.seen is.between.until later };
    of_run = is.of_run;
    such = is.such;
  }

pub seen_as : (o : Opening) (p now : PassView Entry) (Such Other : Mode → Type 0) → ((m : Mode) → Such m → Other m) → (s : ShardRecord) → WasSeen o p now Such s
    → WasSeen o p now Other s
seen_as o p now Such Other weaker s is = record { run = is.run; between = is.between; of_run = is.of_run; such = weaker (mode o is.run s.slot) is.such }

pub serves_not_follows : (m : Mode) → IsServing m → IsNotFollowing m
serves_not_follows m serves follows = cc (sym serves ∙ follows)

-- a shard as it was found with the last look
pub sighted_at : (o : Opening) (p now : PassView Entry) (k : ℕ) (Such : Mode → Type 0) (seat : Seat) (s : ShardRecord) → IsPrefix p.seen now.seen
    → IsSighted o now.seen seat.0 (record { keyspace = k; range = seat.1 }) Such s → IsSeenAt o p now k Such seat s
sighted_at o p now k Such seat s later is = record {
  slot = is.on;
  place = is.at;
  seen = record { run = now.seen; between = record { since = later; until = prefix_self now.seen }; of_run = is.of_run; such = is.such };
}

module _ (o : Opening) (p q now : PassView Entry) (k : ℕ) (Such : Mode → Type 0) (seat : Seat) where
  pub at_since : (s : ShardRecord) → IsPrefix p.seen q.seen → IsSeenAt o q now k Such seat s → IsSeenAt o p now k Such seat s
  at_since s before is = record { slot = is.slot; place = is.place; seen = seen_since o p q now Such s before is.seen }

  pub at_until : (s : ShardRecord) → IsPrefix q.seen now.seen → IsSeenAt o p q k Such seat s → IsSeenAt o p now k Such seat s
  at_until s later is = record { slot = is.slot; place = is.place; seen = seen_until o p q now Such s later is.seen }

  pub has_since : IsPrefix p.seen q.seen → HasSeen o q now k Such seat → HasSeen o p now k Such seat
  has_since before h = (h.0, at_since h.0 before h.1)

  pub has_until : IsPrefix q.seen now.seen → HasSeen o p q k Such seat → HasSeen o p now k Such seat
  has_until later h = (h.0, at_until h.0 later h.1)

-- the parts so far were seen
pub seen_next : (o : Opening) (p q now : PassView Entry) (k : ℕ) (Such : Mode → Type 0) (parts : List Seat) (i : ℕ) (part : Seat) → i < length parts
    → part ≡ get_or parts i part → IsPrefix p.seen q.seen → IsPrefix q.seen now.seen → HasSeen o q now k Such part → AllByRecursion (HasSeen o p q k Such) (take i parts)
    → AllByRecursion (HasSeen o p now k Such) (take (i + 1) parts)
seen_next o p q now k Such parts i part there is before later seen so_far =
    subst (AllByRecursion (HasSeen o p now k Such)) (sym (take_more parts i part there ∙ ap (λ (x : Seat). take i parts ++ x ∷ []) (sym is)))
    (AllByRecursion-push (HasSeen o p now k Such) (take i parts) part
    (all-weaker (HasSeen o p q k Such) (HasSeen o p now k Such) (λ seat h. has_until o p q now k Such seat later h) (take i parts) so_far)
    (has_since o p q now k Such part before seen))

-- the seat of a shard in its keyspace
pub seat_is : (o : Opening) (p now : PassView Entry) (k : ℕ) (Such : Mode → Type 0) (seat : Seat) (s : ShardRecord) → seat.2 ≡ k → IsSeenAt o p now k Such seat s → seat_of s ≡ seat
seat_is o p now k Such seat s here is =
    ap (λ (n : ℕ). (n, s.place.range, s.place.keyspace)) is.slot ∙ ap (λ (x : Place). (seat.0, x.range, x.keyspace)) is.place
    ∙ ap (λ (n : ℕ). (seat.0, seat.1, n)) (sym here)

-- the shards of seats that were seen
pub record AreShardsAt (o : Opening) (p now : PassView Entry) (k : ℕ) (seats : List Seat) (shards : List ShardRecord) : Type 0 where
  pub at : map seat_of shards ≡ seats
  pub here : AllByRecursion (λ s. s.place.keyspace ≡ k) shards
  pub found : AllByRecursion (WasSeen o p now IsNotFollowing) shards

pub shards_at : (o : Opening) (p now : PassView Entry) (k : ℕ) (seats : List Seat) → AreOf k seats → AllByRecursion (HasSeen o p now k IsNotFollowing) seats
    → (shards : List ShardRecord) × AreShardsAt o p now k seats shards
shards_at o p now k [] of seen = ([], record { at = refl; here = tt; found = tt })
shards_at o p now k (x ∷ seats) of seen =
    let s = seen.0.0 in
    let is = seen.0.1 in
    let rest = shards_at o p now k seats of.1 seen.1 in (
      s ∷ rest.0,
      record {
        at = ap (λ (l : List Seat). seat_of s ∷ l) rest.1.at ∙ ap (λ (y : Seat). y ∷ seats) (seat_is o p now k IsNotFollowing x s of.0 is);
        here = (ap (λ (y : Place). y.keyspace) is.place, rest.1.here);
        found = (is.seen, rest.1.found);
      },
    )

module _ (o : Opening) (p q now : PassView Entry) (k : ℕ) (seats : List Seat) (shards : List ShardRecord) where
  pub shards_since : IsPrefix p.seen q.seen → AreShardsAt o q now k seats shards → AreShardsAt o p now k seats shards
  shards_since before are = record {
    at = are.at;
    here = are.here;
    found =
        all-weaker (WasSeen o q now IsNotFollowing) (WasSeen o p now IsNotFollowing) (λ s h. seen_since o p q now IsNotFollowing s before h) shards are.found;
  }

  pub shards_until : IsPrefix q.seen now.seen → AreShardsAt o p q k seats shards → AreShardsAt o p now k seats shards
  shards_until later are = record {
    at = are.at;
    here = are.here;
    found =
        all-weaker (WasSeen o p q IsNotFollowing) (WasSeen o p now IsNotFollowing) (λ s h. seen_until o p q now IsNotFollowing s later h) shards are.found;
  }
