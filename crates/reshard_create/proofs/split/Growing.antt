-- Those of the sources that overlap a range, found one after the other.
use Rattle.std.proofs.Common.{◌≡◌, ◌⊎◌, ℕ, zero, suc, ◌+◌, ◌<◌, ◌≤◌, List, [], ◌∷◌, ◌++◌, length, take, get_or, map, sym, ap, ◌∙◌, subst, inl, inr, arith}
use Rattle.std.specs.Prelude.{Contains}
use Rattle.std.specs.List.{AllByRecursion}
use Rattle.std.proofs.lemmas.List.{take_more, map-append}
use Rattle.keyrange.specs.declared.KeyRange.{KeyRange}
use Rattle.keyrange.specs.Ranges.{Overlap}
use Rattle.shard_run.specs.declared.ShardRecord.{ShardRecord}
use Rattle.shard_law.proofs.Lists.{In, In-from_Contains, Contains-from_In, In-left, In-last, In-push, AllByRecursion-push}
use Rattle.reshard_create.specs.split.Splits.{AreOverlapped}
use Rattle.reshard_create.specs.split.inner.Grown.{HasGrown, added, left}

-- of the first sources the ones that overlap the range
pub record SoFar (sources : List ShardRecord) (n : ℕ) (range : KeyRange) (own : List ShardRecord) : Type 0 where
  pub among : AllByRecursion (Contains sources) own
  pub all : (s : ShardRecord) → In s (take n sources) → Overlap s.place.range range → Contains own s

item_in : {X : Type 0} (xs : List X) (i : ℕ) (x : X) → i < length xs → x ≡ get_or xs i x → Contains xs x
item_in xs i x there is = (i, there, sym is)

module _ (sources : List ShardRecord) (n : ℕ) (range : KeyRange) (own : List ShardRecord) (s : ShardRecord) (there : n < length sources) (is : s ≡ get_or sources n s)
    (was : SoFar sources n range own) where
  more : take (n + 1) sources ≡ take n sources ++ s ∷ []
  more = take_more sources n s there ∙ ap (λ (x : ShardRecord). take n sources ++ x ∷ []) (sym is)

  pub taken_so : SoFar sources (n + 1) range (own ++ s ∷ [])
  taken_so = record {
    among = AllByRecursion-push (Contains sources) own s was.among (item_in sources n s there is);
    all = λ x h over. by x (In-push x s (take n sources) (subst (In x) more h)) over;
  }
    where
      by : (x : ShardRecord) → In x (take n sources) ⊎ (s ≡ x) → Overlap x.place.range range → Contains (own ++ s ∷ []) x
      by x (inl h) over = Contains-from_In x (own ++ s ∷ []) (In-left x own (s ∷ []) (In-from_Contains x own (was.all x h over)))
      by x (inr e) over = subst (λ y. Contains (own ++ s ∷ []) y) e (Contains-from_In s (own ++ s ∷ []) (In-last s own))

  pub left_so : (Overlap s.place.range range → ⊥) → SoFar sources (n + 1) range own
  left_so apart = record {
    among = was.among;
    all = λ x h over. by x (In-push x s (take n sources) (subst (In x) more h)) over;
  }
    where
      by : (x : ShardRecord) → In x (take n sources) ⊎ (s ≡ x) → Overlap x.place.range range → Contains own x
      by x (inl h) over = was.all x h over
      by x (inr e) over = absurd (apart (subst (λ (y : ShardRecord). Overlap y.place.range range) (sym e) over))

pub begin_so : (sources : List ShardRecord) (range : KeyRange) → SoFar sources 0 range []
begin_so sources range = record { among = tt; all = λ x h over. absurd h }

pub all_so : (sources : List ShardRecord) (n : ℕ) (range : KeyRange) (own : List ShardRecord) → length sources ≤ n → SoFar sources n range own → AreOverlapped sources range own
all_so sources n range own l is = record {
  among = is.among;
  all = λ s h over. is.all s (subst (In s) (sym (Rattle.shard.proofs.Progress.take_whole n sources l)) (In-from_Contains s sources h)) over;
}

pub slots_next : (slots : List ℕ) (xs ys : List ShardRecord) (s : ShardRecord) → slots ≡ map (λ s. s.slot) xs → ys ≡ xs ++ s ∷ [] → slots ++ s.slot ∷ [] ≡ map (λ s. s.slot) ys
slots_next slots xs ys s is grown =
    ap (λ (l : List ℕ). l ++ s.slot ∷ []) is ∙ sym (map-append (λ (s : ShardRecord). s.slot) xs (s ∷ [])) ∙ ap (map (λ (s : ShardRecord). s.slot)) (sym grown)

pub grown_so : (sources : List ShardRecord) (n : ℕ) (range : KeyRange) (own new : List ShardRecord) (s : ShardRecord) → n < length sources → s ≡ get_or sources n s
    → SoFar sources n range own → HasGrown range s own new → SoFar sources (n + 1) range new
grown_so sources n range own new s there is was (added over e) = subst (SoFar sources (n + 1) range) (sym e) (taken_so sources n range own s there is was)
grown_so sources n range own new s there is was (left apart e) = subst (SoFar sources (n + 1) range) (sym e) (left_so sources n range own s there is was apart)

pub map_short : {X Y : Type 0} (f : X → Y) (xs : List X) (n : ℕ) → length xs ≤ n → length (map f xs) ≤ n
map_short f [] n l = omega arith
map_short f (x ∷ xs) zero l = absurd (omega (arith, l))
map_short f (x ∷ xs) (suc n) l = let h = map_short f xs n (omega (arith, l)) in omega (arith, h)
