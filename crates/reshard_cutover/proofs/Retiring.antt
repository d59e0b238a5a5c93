-- A target whose sources are retired for it, and which is level with them, may serve.
use Rattle.std.proofs.Common.{◌≡◌, ℕ, zero, suc, ◌+◌, ◌<◌, ◌==◌, ◌||◌, Bool, true, false, zip, List, [], ◌∷◌, ◌++◌, length, take, map, get_or, IsTrue, Some, inl, inr, arith, refl, sym, ap, ◌∙◌, subst}
use Rattle.std.specs.Prelude.{Contains}
use Rattle.std.specs.List.{AllByRecursion, list_any}
use Rattle.std.proofs.lemmas.Bool.{eq-eqb}
use Rattle.std.proofs.lemmas.List.{length-map, take_more, map-append}
use mathlib.Core.List.{IsPrefix}
use Rattle.shard_contents.specs.Place.{Place}
use Rattle.shard_run.specs.declared.ShardRecord.{ShardRecord}
use Rattle.shard_run.specs.declared.Mode.TheVariants.{Following, Retired}
use Rattle.shard_run.specs.declared.Event.TheVariants.{Retire}
use Rattle.shard_run.specs.Runs.{Run, Opening, mode, stored_on, entries_on}
use Rattle.shard_contents.specs.Legal.{Legal, MayServe, IsRetiredFor}
use Rattle.shard_run.specs.Copies.{position}
use Rattle.shard_run.specs.Openings.{IsOpening}
use Rattle.shard_contents.specs.Copying.{HasCopiedAll}
use Rattle.shard_contents.proofs.Lists.{In, In-from_Contains, In-map, In-from_map, In-all, all-weaker, AllByRecursion-push}
use Rattle.shard_contents.proofs.Law.{slots}
use Rattle.shard_contents.proofs.States.{stored-same}
use Rattle.shard_contents.proofs.Positions.{position-same, copied_all-same}
use Rattle.shard_contents.proofs.Modes.{retired_stays}
use Rattle.reshard_cutover.specs.Steps.{Looked, has_source, HasEntry, IsRetired, AreRetired, IsTargetOf}
use Rattle.reshard_cutover.specs.inner.Steps.{IsUpTo, AreFollowed}
use Rattle.reshard_cutover.proofs.Onward.{legal_front, entry_later}

-- ---- a retired source stays as it is

module _ (o : Opening) (opens : IsOpening o) (old new : Run) (later : IsPrefix old new) (legal : Legal o new) where
  gone : (s : ShardRecord) (targets : List ShardRecord) → HasEntry old s (Retire targets) → mode o old s.slot ≡ Retired
  gone s targets h =
      (slots o opens old (legal_front o old new later legal)).gone s targets (In-from_Contains (record { shard = s; event = Retire targets }) old h)

  pub stored_still : (s : ShardRecord) (targets : List ShardRecord) → HasEntry old s (Retire targets) → stored_on s.slot new ≡ stored_on s.slot old
  stored_still s targets h = stored-same o old new s (retired_stays o s.slot old new later legal (gone s targets h))

  pub retired_later : (source : Looked) (targets : List ShardRecord) → IsRetired old source targets → IsRetired new source targets
  retired_later source targets is = record {
    retired = entry_later old new source.0 (Retire targets) later is.retired;
    stored = is.stored ∙ ap length (sym (stored_still source.0 targets is.retired));
  }

  pub are_retired_later : (target : ShardRecord) (sources : List Looked) → AreRetired old target sources → AreRetired new target sources
  are_retired_later target sources are =
      all-weaker (λ s. IsTrue (has_source s.0.slot target) → (targets : List ShardRecord) × IsRetired old s targets × Contains targets target)
      (λ s. IsTrue (has_source s.0.slot target) → (targets : List ShardRecord) × IsRetired new s targets × Contains targets target)
      (λ s h own. let w = h own in (w.0, retired_later s w.0 w.1, w.2)) sources are

-- ---- it may serve

pub any_in : (slot : ℕ) (xs : List ℕ) → In slot xs → list_any (λ n. n == slot) xs ≡ true
any_in slot [] h = absurd h
any_in slot (x ∷ xs) (inl e) = let t : (x == slot) ≡ true = eq-eqb x slot e in ap (λ b. b || list_any (λ n. n == slot) xs) t
any_in slot (x ∷ xs) (inr h) = by (x == slot) (any_in slot xs h)
  where
    by : (b : Bool) → list_any (λ n. n == slot) xs ≡ true → (b || list_any (λ n. n == slot) xs) ≡ true
    by true rest = refl
    by false rest = rest

zip_all : (P : ℕ → Place → Type 0) (xs : List ShardRecord) → ((s : ShardRecord) → In s xs → P s.slot s.place)
    → AllByRecursion (λ p. P p.0 p.1) (zip (map (λ s. s.slot) xs) (map (λ s. s.place) xs))
zip_all P [] f = tt
zip_all P (x ∷ xs) f = (f x (inl refl), zip_all P xs (λ s h. f s (inr h)))

map_all : {X Y : Type 0} (P : Y → Type 0) (f : X → Y) (xs : List X) → ((x : X) → In x xs → P (f x)) → AllByRecursion P (map f xs)
map_all P f [] g = tt
map_all P f (x ∷ xs) g = (g x (inl refl), map_all P f xs (λ y h. g y (inr h)))

module _ (o : Opening) (opens : IsOpening o) (target : ShardRecord) (sources : List Looked) (old new : Run) (of : IsTargetOf (map (λ s. s.0) sources) target)
    (are : AreRetired old target sources) (level : AreFollowed o new target sources) (later : IsPrefix old new) (legal : Legal o new)
    (following : mode o new target.slot ≡ Following) where
  -- what is known of a source of the target
  record Known (s : ShardRecord) : Type 0 where
    stored : ℕ
    targets : List ShardRecord
    is : IsRetired new (s, stored) targets
    named : Contains targets target
    upto : IsUpTo o new target (s, stored)

  own : (s : ShardRecord) → In s of.own → IsTrue (has_source s.slot target)
  own s h =
      ap (list_any (λ n. n == s.slot)) of.are ∙ any_in s.slot (map (λ s. s.slot) of.own) (In-map (λ s. s.slot) s of.own h)

  known : (s : ShardRecord) → In s of.own → Known s
  known s h =
      let w = In-from_map (λ (l : Looked). l.0) s sources (In-from_Contains s (map (λ (l : Looked). l.0) sources) (In-all (Contains (map (λ (l : Looked). l.0) sources)) s of.own of.among h)) in
      let l = w.0 in
      let mine : IsTrue (has_source l.0.slot target) = subst (λ (x : ShardRecord). IsTrue (has_source x.slot target)) (sym w.2) (own s h) in
      let r = In-all (λ (s : Looked). IsTrue (has_source s.0.slot target) → (targets : List ShardRecord) × IsRetired new s targets × Contains targets target) l sources
      (are_retired_later o opens old new later legal target sources are) w.1 mine in
      let u = In-all (λ (s : Looked). IsTrue (has_source s.0.slot target) → IsUpTo o new target s) l sources level w.1 mine in
      let same : l ≡ (s, l.1) = ap (λ (x : ShardRecord). (x, l.1)) w.2 in
      record {
        stored = l.1;
        targets = r.0;
        is = subst (λ (x : Looked). IsRetired new x r.0) same r.1;
        named = r.2;
        upto = subst (IsUpTo o new target) same u;
      }

  copied : AllByRecursion (λ source. HasCopiedAll o new target source) target.sources
  copied =
      subst (AllByRecursion (λ source. HasCopiedAll o new target source)) (sym of.are)
      (map_all (λ source. HasCopiedAll o new target source) (λ (s : ShardRecord). s.slot) of.own (λ s h. (known s h).upto.copied))

  abbrev Level : ℕ → Type 0
  Level source = (n : ℕ) → position new target.slot source ≡ Some n → n ≡ length (stored_on source new)

  stands : AllByRecursion Level target.sources
  stands =
      subst (AllByRecursion Level) (sym of.are)
      (map_all Level (λ (s : ShardRecord). s.slot) of.own (λ s h n at. (known s h).upto.level n at ∙ (known s h).is.stored))

  retired_for : (s : ShardRecord) → In s of.own → IsRetiredFor new s.slot s.place target
  retired_for s h = record {
    retired = s;
    targets = (known s h).targets;
    there = (known s h).is.retired;
    is_source = refl;
    in_place = refl;
    named = (known s h).named;
  }

  pub may_serve : MayServe o new target
  may_serve = record {
    following = following;
    copied = copied;
    level = stands;
    places = map (λ s. s.place) of.own;
    retired =
        subst (λ (l : List ℕ). AllByRecursion (λ (p : ℕ × Place). IsRetiredFor new p.0 p.1 target) (zip l (map (λ s. s.place) of.own))) (sym of.are)
        (zip_all (λ slot place. IsRetiredFor new slot place target) of.own retired_for);
    each = length-map of.own (λ (s : ShardRecord). s.place) ∙ sym (length-map of.own (λ (s : ShardRecord). s.slot)) ∙ ap length (sym of.are);
    whole = of.inside;
  }

-- ---- every source

-- the next one of a list, seen through a map
pub all_map_next : {X Y : Type 0} (P : Y → Type 0) (f : X → Y) (xs : List X) (n : ℕ) (x : X) → n < length xs → x ≡ get_or xs n x
    → AllByRecursion P (map f (take n xs)) → P (f x) → AllByRecursion P (map f (take (n + 1) xs))
all_map_next {X} P f xs n x there is so_far one =
    let more = take_more xs n x there ∙ ap (λ (y : X). take n xs ++ y ∷ []) (sym is) in
    subst (λ (l : List X). AllByRecursion P (map f l)) (sym more)
    (subst (AllByRecursion P) (sym (map-append f (take n xs) (x ∷ []))) (AllByRecursion-push P (map f (take n xs)) (f x) so_far one))

-- the same of a state that is the target's
pub may_serve_looked : {S : Type 0} (which : S → ShardRecord) (stored : S → ℕ) (o : Opening) → IsOpening o → (target here : ShardRecord) → here ≡ target
    → (sources : List S) (old seen now : Run) → seen ≡ now → IsTargetOf (map which sources) target → AreRetired old target (map (λ s. (which s, stored s)) sources)
    → AreFollowed o seen here (map (λ s. (which s, stored s)) sources) → IsPrefix old seen → Legal o seen → mode o seen here.slot ≡ Following
    → MayServe o now here
may_serve_looked {S} which stored o opens target here same sources old seen now is of are level later legal following =
    subst (λ (r : Run). MayServe o r here) is
    (subst (MayServe o seen) (sym same)
    (may_serve o opens target (map (λ s. (which s, stored s)) sources) old seen (subst (λ (l : List ShardRecord). IsTargetOf l target) (sym (firsts sources)) of) are
    (subst (λ (t : ShardRecord). AreFollowed o seen t (map (λ s. (which s, stored s)) sources)) same level) later legal
    (subst (λ (t : ShardRecord). mode o seen t.slot ≡ Following) same following)))
  where
    firsts : (ss : List S) → map (λ (l : Looked). l.0) (map (λ s. (which s, stored s)) ss) ≡ map which ss
    firsts [] = refl
    firsts (s ∷ ss) = ap (λ (l : List ShardRecord). which s ∷ l) (firsts ss)

pub item_of : {X : Type 0} (P : X → Type 0) (xs : List X) (i : ℕ) (x : X) → i < length xs → x ≡ get_or xs i x → AllByRecursion P xs → P x
item_of P [] i x there is all = absurd (omega (arith, there))
item_of P (y ∷ xs) zero x there is all = subst P (sym is) all.0
item_of P (y ∷ xs) (suc i) x there is all = item_of P xs i x (omega (arith, there)) is all.1

pub map_at : {X Y : Type 0} (f : X → Y) (xs : List X) (i : ℕ) (x : X) → i < length xs → x ≡ get_or xs i x → (i < length (map f xs)) × (f x ≡ get_or (map f xs) i (f x))
map_at f [] i x there is = absurd (omega (arith, there))
map_at f (y ∷ xs) zero x there is = (omega arith, ap f is)
map_at f (y ∷ xs) (suc i) x there is = let w = map_at f xs i x (omega (arith, there)) is in let l = w.0 in (omega (arith, l), w.1)

-- ---- a look, which appends nothing on the target's slot

module _ (o : Opening) (old new : Run) (target : ShardRecord) (same : entries_on target.slot new ≡ entries_on target.slot old) where
  up_to-same : (s : Looked) → IsUpTo o old target s → IsUpTo o new target s
  up_to-same s is = record {
    copied = λ n of. subst (λ (b : Bool). IsTrue b) (sym (copied_all-same old new target.slot s.0.slot n same)) (is.copied n of);
    level = λ n at. is.level n (sym (position-same old new target.slot s.0.slot same) ∙ at);
  }

  pub followed-same : (sources : List Looked) → AreFollowed o old target sources → AreFollowed o new target sources
  followed-same [] all = tt
  followed-same (s ∷ sources) all = (λ own. up_to-same s (all.0 own), followed-same sources all.1)
