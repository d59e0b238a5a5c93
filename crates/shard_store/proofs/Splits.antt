-- Changes by keys: what they do, and the room that they need.
use Rattle.std.proofs.Common.{◌≡◌, ◌⊎◌, inl, inr, ℕ, zero, suc, ◌+◌, ◌<◌, ◌≤◌, Bool, true, false, cond, count_by, List, [], ◌∷◌, ◌++◌, length, get_or, set, take, refl, sym, ap, ◌∙◌, subst, arith}
use Rattle.std.specs.List.{AllByRecursion}
use Rattle.std.proofs.lemmas.Bool.{eqb-true}
use Rattle.std.proofs.lemmas.List.Sums.{sum_by-cons, count_by-le-length}
use Rattle.vt_value.specs.Values.{Row}
use Rattle.sql_eval.specs.RowChange.{RowChange}
use Rattle.sql_eval.specs.RowChange.TheVariants.{Added, Replaced, Removed}
use Rattle.sql_eval.specs.Database.{Database, without, changed_table, applied, all_applied}
use Rattle.shard_store.specs.declared.key.KeyedChange.{KeyedChange}
use Rattle.shard_store.specs.declared.key.KeyedChange.TheVariants.{Put, Take, Swap}
use Rattle.shard_store.specs.Stores.{StoreView, room_of, change_in, changes_in, IsByItsKey, HasReadySlot, puts_into, HasRoomFor}
use Rattle.shard_store.specs.inner.Stores.{DoTheSame}
use Rattle.shard_store.proofs.Tabled.{StaysReady, ready_stays}

-- a row is taken from a table, and another put in
taken-put : (db : Database) (n : ℕ) (f g : List Row → List Row)
    → set (set db n (f (get_or db n []))) n (g (get_or (set db n (f (get_or db n []))) n [])) ≡ set db n (g (f (get_or db n [])))
taken-put [] n f g = refl
taken-put (rows ∷ db) zero f g = refl
taken-put (rows ∷ db) (suc n) f g = ap (λ z. rows ∷ z) (taken-put db n f g)

all_join : {X : Type 0} (P : X → Type 0) (xs ys : List X) → AllByRecursion P xs → AllByRecursion P ys → AllByRecursion P (xs ++ ys)
all_join P [] ys a b = b
all_join P (x ∷ xs) ys a b = (a.0, all_join P xs ys a.1 b)

all_parts : {X : Type 0} (P : X → Type 0) (xs ys : List X) → AllByRecursion P (xs ++ ys) → AllByRecursion P xs × AllByRecursion P ys
all_parts P [] ys h = (tt, h)
all_parts P (x ∷ xs) ys h = let r = all_parts P xs ys h.1 in ((h.0, r.0), r.1)

-- ---- changes that do the same
applied_after : (xs ys : List RowChange) (db : Database) → all_applied (xs ++ ys) db ≡ all_applied ys (all_applied xs db)
applied_after [] ys db = refl
applied_after (c ∷ xs) ys db = applied_after xs ys (applied c db)

pub the_same : (xs ys : List RowChange) → xs ≡ ys → DoTheSame xs ys
the_same xs ys e = record { same = λ db. ap (λ (l : List RowChange). all_applied l db) e; there = λ n h. subst (AllByRecursion (λ c. changed_table c < n)) (sym e) h }

-- a row in another's place is its removal, and then the other's addition
pub same_two : (xs ys zs : List RowChange) (n : ℕ) (old new : Row) → ys ≡ xs ++ Removed n old ∷ [] → zs ≡ ys ++ Added n new ∷ [] → DoTheSame zs (xs ++ Replaced n old new ∷ [])
same_two xs ys zs n old new e f =
    let is : zs ≡ (xs ++ Removed n old ∷ []) ++ Added n new ∷ [] = f ∙ ap (λ (l : List RowChange). l ++ Added n new ∷ []) e in
    record {
      same = λ db.
          ap (λ (l : List RowChange). all_applied l db) is
          ∙ (applied_after (xs ++ Removed n old ∷ []) (Added n new ∷ []) db
          ∙ (ap (applied (Added n new)) (applied_after xs (Removed n old ∷ []) db)
          ∙ (taken-put (all_applied xs db) n (without old) (λ rows. rows ++ new ∷ [])
          ∙ sym (applied_after xs (Replaced n old new ∷ []) db))));
      there = λ m h.
          let parts = all_parts (λ c. changed_table c < m) xs (Replaced n old new ∷ []) h in
          subst (AllByRecursion (λ c. changed_table c < m)) (sym is)
          (all_join (λ c. changed_table c < m) (xs ++ Removed n old ∷ []) (Added n new ∷ []) (all_join (λ c. changed_table c < m) xs (Removed n old ∷ []) parts.0 (parts.1.0, tt)) (parts.1.0, tt));
    }

take_next : {X : Type 0} (xs : List X) (i : ℕ) (c : X) → i < length xs → c ≡ get_or xs i c → take i xs ++ c ∷ [] ≡ take (i + 1) xs
take_next [] i c l is = absurd (omega (arith, l))
take_next (x ∷ xs) zero c l is = ap (λ (y : _). y ∷ []) is
take_next (x ∷ xs) (suc i) c l is =
    let same : suc i + 1 ≡ suc (i + 1) = omega arith in
    ap (λ (z : List _). x ∷ z) (take_next xs i c (omega (arith, l)) is) ∙ ap (λ k. take k (x ∷ xs)) (sym same)

-- one change more
pub same_next : (all xs ys : List RowChange) (i : ℕ) (c : RowChange) → i < length all → c ≡ get_or all i c → DoTheSame xs (take i all) → DoTheSame ys (xs ++ c ∷ []) → DoTheSame ys (take (i + 1) all)
same_next all xs ys i c l is h g =
    let next = take_next all i c l is in
    record {
      same = λ db.
          g.same db
          ∙ (applied_after xs (c ∷ []) db
          ∙ (ap (applied c) (h.same db)
          ∙ (sym (applied_after (take i all) (c ∷ []) db) ∙ ap (λ (r : List RowChange). all_applied r db) next)));
      there = λ n a.
          let parts = all_parts (λ d. changed_table d < n) (take i all) (c ∷ []) (subst (AllByRecursion (λ d. changed_table d < n)) (sym next) a) in
          g.there n (all_join (λ d. changed_table d < n) xs (c ∷ []) (h.there n parts.0) parts.1);
    }

from_changes : (n : ℕ) (keyed : List KeyedChange) → AllByRecursion (λ d. changed_table d < n) (changes_in keyed)
    → AllByRecursion (λ c. changed_table (change_in c) < n) keyed
from_changes n [] h = tt
from_changes n (c ∷ keyed) h = (h.0, from_changes n keyed h.1)

pub keyed_there : (n : ℕ) (changes : List RowChange) (keyed : List KeyedChange) → DoTheSame (changes_in keyed) changes
    → AllByRecursion (λ d. changed_table d < n) changes → AllByRecursion (λ c. changed_table (change_in c) < n) keyed
keyed_there n changes keyed same h = from_changes n keyed (same.there n h)

pub keys_push : (s : StoreView) (keyed : List KeyedChange) (c : KeyedChange) → AllByRecursion (IsByItsKey s) keyed → IsByItsKey s c
    → AllByRecursion (IsByItsKey s) (keyed ++ c ∷ [])
keys_push s keyed c h g = all_join (IsByItsKey s) keyed (c ∷ []) h (g, tt)

pub changes_push : (keyed : List KeyedChange) (c : KeyedChange) → changes_in (keyed ++ c ∷ []) ≡ changes_in keyed ++ change_in c ∷ []
changes_push [] c = refl
changes_push (d ∷ keyed) c = ap (λ z. change_in d ∷ z) (changes_push keyed c)

-- ---- room

abbrev ordinal_of : KeyedChange → ℕ
ordinal_of c = changed_table (change_in c)

puts-own : (n m : ℕ) (c : KeyedChange) → ordinal_of c ≡ n → puts_into m c ≡ true → n ≡ m
puts-own n m (Put k row) is e = sym is ∙ eqb-true k m e
puts-own n m (Take k row) is e = absurd (cc e)
puts-own n m (Swap k swap) is e = sym is ∙ eqb-true k m e

all_weaker : {X : Type 0} (P Q : X → Type 0) → ((x : X) → P x → Q x) → (xs : List X) → AllByRecursion P xs → AllByRecursion Q xs
all_weaker P Q f [] h = tt
all_weaker P Q f (x ∷ xs) h = (f x h.0, all_weaker P Q f xs h.1)

all_take_next : {X : Type 0} (P : X → Type 0) (xs : List X) (n : ℕ) (d : X) → n < length xs → AllByRecursion P (take n xs) → P (get_or xs n d)
    → AllByRecursion P (take (suc n) xs)
all_take_next P [] n d within all one = absurd (omega (arith, within))
all_take_next P (x ∷ xs) zero d within all one = (one, tt)
all_take_next P (x ∷ xs) (suc n) d within all one = (all.0, all_take_next P xs n d (omega (arith, within)) all.1 one)

pub take_all : {X : Type 0} (xs : List X) → take (length xs) xs ≡ xs
take_all [] = refl
take_all (x ∷ xs) = ap (λ z. x ∷ z) (take_all xs)

pub room_next : (old new : StoreView) (changes : List KeyedChange) (n : ℕ) (c : KeyedChange) → n < length changes → c ≡ get_or changes n c
    → ((k : ℕ) → room_of old k ≤ room_of new k) → length changes ≤ room_of new (changed_table (change_in c))
    → AllByRecursion (λ c. length changes ≤ room_of old (changed_table (change_in c))) (take n changes)
    → AllByRecursion (λ c. length changes ≤ room_of new (changed_table (change_in c))) (take (n + 1) changes)
room_next old new changes n c within is more enough all =
    let P : KeyedChange → Type 0 = λ c. length changes ≤ room_of new (ordinal_of c) in
    let kept = all_weaker (λ c. length changes ≤ room_of old (ordinal_of c)) P (λ c h. let m = more (ordinal_of c) in omega (arith, h, m)) (take n changes) all in
    let next : AllByRecursion P (take (suc n) changes) = all_take_next P changes n c within kept (subst P is enough) in
    let same : suc n ≡ n + 1 = omega arith in
    subst (λ k. AllByRecursion P (take k changes)) same next

pub ready_next : (old new : StoreView) (changes : List KeyedChange) (n : ℕ) (c : KeyedChange) → n < length changes → c ≡ get_or changes n c → StaysReady old new → HasReadySlot new c
    → AllByRecursion (HasReadySlot old) (take n changes) → AllByRecursion (HasReadySlot new) (take (n + 1) changes)
ready_next old new changes n c within is still one all =
    let kept = all_weaker (HasReadySlot old) (HasReadySlot new) (λ d h. ready_stays old new still d h) (take n changes) all in
    let next : AllByRecursion (HasReadySlot new) (take (suc n) changes) = all_take_next (HasReadySlot new) changes n c within kept (subst (HasReadySlot new) is one) in
    let same : suc n ≡ n + 1 = omega arith in
    subst (λ k. AllByRecursion (HasReadySlot new) (take k changes)) same next

some_room : (s : StoreView) (least n : ℕ) (changes : List KeyedChange) → AllByRecursion (λ c. least ≤ room_of s (ordinal_of c)) changes
    → (count_by (puts_into n) changes ≡ 0) ⊎ (least ≤ room_of s n)
some_room s least n [] all = inl refl
some_room s least n (c ∷ changes) all = by (puts_into n c) refl (some_room s least n changes all.1)
  where
    by : (b : Bool) → puts_into n c ≡ b → (count_by (puts_into n) changes ≡ 0) ⊎ (least ≤ room_of s n)
        → (count_by (puts_into n) (c ∷ changes) ≡ 0) ⊎ (least ≤ room_of s n)
    by true i rest = inr (subst (λ k. least ≤ room_of s k) (puts-own (ordinal_of c) n c refl i) all.0)
    by false i (inl none) =
        let h = sum_by-cons (λ x. cond (puts_into n x) 1 0) c changes in
        let k : cond {A = ℕ} (puts_into n c) 1 0 ≡ 0 = simp i in
        inl (omega (arith, h, k, none))
    by false i (inr enough) = inr enough

pub room_for_all : (s : StoreView) (changes : List KeyedChange) → AllByRecursion (λ c. length changes ≤ room_of s (changed_table (change_in c))) changes → HasRoomFor s changes
room_for_all s changes all n = by (some_room s (length changes) n changes all)
  where
    by : (count_by (puts_into n) changes ≡ 0) ⊎ (length changes ≤ room_of s n) → count_by (puts_into n) changes ≤ room_of s n
    by (inl none) = omega (arith, none)
    by (inr enough) = let h = count_by-le-length (puts_into n) changes in omega (arith, h, enough)
