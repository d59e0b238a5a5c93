-- A key belongs into one chunk: what is done there is done to all entries.
use Rattle.std.proofs.Common.{◌≡◌, ℕ, zero, suc, ◌+◌, ◌<◌, ◌≤◌, length, Bool, true, false, not, cond, List, [], ◌∷◌, ◌++◌, Some, None, refl, sym, ap, ◌∙◌, set, get_or, take, ◌-◌, drop, arith}
use Rattle.std.proofs.lemmas.Bool.{false≢true}
use Rattle.std.proofs.lemmas.List.{take_rest, append-nil, append_assoc}
use Rattle.std.specs.Cmp.{IsTotalOrder}
use Rattle.std.specs.List.{AllByRecursion}
use Rattle.std.specs.List.Sorted.{IsStrictlySortedBy, IsPartitionedBy, IsPartitionPoint}
use Rattle.std.specs.Ordering.{is_gt, is_eq, match_ordering, ordering_reverse}
use Rattle.std.specs.declared.cmp.Ordering.{Ordering}
use Rattle.std.specs.declared.cmp.Ordering.TheVariants.{Less, Equal, Greater}
use Rattle.std.specs.Map.{lookup, set_value, remove_entry}
use Rattle.std.specs.BTreeMap.{insert_entry, is_at}
use Rattle.std.specs.BTreeMap.Range.{entries_below, entries_from, entries_between}
use Rattle.std.specs.declared.ops.Bound.TheVariants.{Included, Excluded, Unbounded}
use Rattle.row_chunks.specs.Chunks.{ChunkView, all_of, AreBelow, AreFrom, IsBefore, AreParted, IsShelf, span, spans}
use Rattle.row_chunks.specs.inner.Splits.{AreAbove, begun}

module _ {K : Type 0} {cmp : K → K → Ordering} (o : IsTotalOrder cmp) where
  -- ---- the order
  pub above_is : (x y : K) → is_gt (cmp x y) ≡ true → cmp y x ≡ Less
  above_is x y e = by (cmp x y) refl
    where
      by : (r : Ordering) → cmp x y ≡ r → cmp y x ≡ Less
      by Less t = absurd (false≢true (sym (ap is_gt t) ∙ e))
      by Equal t = absurd (false≢true (sym (ap is_gt t) ∙ e))
      by Greater t = o.antisymm y x ∙ ap ordering_reverse t

  pub at_most_below : (x y z : K) → is_gt (cmp x y) ≡ false → cmp y z ≡ Less → cmp x z ≡ Less
  at_most_below x y z e f = by (cmp x y) refl
    where
      by : (r : Ordering) → cmp x y ≡ r → cmp x z ≡ Less
      by Less t = o.trans x y z t f
      by Equal t = o.congr x y z t ∙ f
      by Greater t = absurd (false≢true (sym e ∙ ap is_gt t))

  pub below_at_most : (x y z : K) → cmp x y ≡ Less → is_gt (cmp y z) ≡ false → cmp x z ≡ Less
  below_at_most x y z f e = by (cmp y z) refl
    where
      by : (r : Ordering) → cmp y z ≡ r → cmp x z ≡ Less
      by Less t = o.trans x y z f t
      by Equal t = o.antisymm x z ∙ (ap ordering_reverse (sym (o.congr y z x t)) ∙ (sym (o.antisymm x y) ∙ f))
      by Greater t = absurd (false≢true (sym e ∙ ap is_gt t))

  pub below_differs : (k q : K) → cmp q k ≡ Less → is_eq (cmp k q) ≡ false
  below_differs k q e = ap is_eq (o.antisymm k q ∙ ap ordering_reverse e)

  pub itself : (k : K) → is_gt (cmp k k) ≡ false
  itself k = by (cmp k k) refl
    where
      by : (r : Ordering) → cmp k k ≡ r → is_gt (cmp k k) ≡ false
      by Less t = ap is_gt t
      by Equal t = ap is_gt t
      by Greater t = let g : Greater ≡ Less = sym t ∙ (o.antisymm k k ∙ ap ordering_reverse t) in absurd (false≢true (sym (ap is_gt g)))

  pub below_greater : (k q : K) → cmp q k ≡ Less → cmp k q ≡ Greater
  below_greater k q e = o.antisymm k q ∙ ap ordering_reverse e

  module _ {X : Type 0} where
    -- ---- what is done at a key, beside entries below it and above it
    pub record IsLocal (k : K) (op : List (K × X) → List (K × X)) : Type 0 where
      pub front : (es fs : List (K × X)) → AreAbove cmp k fs → op (es ++ fs) ≡ op es ++ fs
      pub back : (es fs : List (K × X)) → AreBelow cmp k es → op (es ++ fs) ≡ es ++ op fs

    insert_front : (k : K) (v : X) (es fs : List (K × X)) → AreAbove cmp k fs → insert_entry cmp (es ++ fs) k v ≡ insert_entry cmp es k v ++ fs
    insert_front k v [] [] h = refl
    insert_front k v [] (f ∷ fs) h = let t = h.0 in simp t
    insert_front k v (e ∷ es) fs h = by (insert_front k v es fs h) (cmp k e.0) refl
      where
        by : insert_entry cmp (es ++ fs) k v ≡ insert_entry cmp es k v ++ fs → (r : Ordering) → cmp k e.0 ≡ r
            → match_ordering (cmp k e.0) ((k, v) ∷ e ∷ (es ++ fs)) ((e.0, v) ∷ (es ++ fs)) (e ∷ insert_entry cmp (es ++ fs) k v)
            ≡ match_ordering (cmp k e.0) ((k, v) ∷ e ∷ es) ((e.0, v) ∷ es) (e ∷ insert_entry cmp es k v) ++ fs
        by ih Less t = simp t
        by ih Equal t = simp t
        by ih Greater t = simp (t, ih)

    insert_back : (k : K) (v : X) (es fs : List (K × X)) → AreBelow cmp k es → insert_entry cmp (es ++ fs) k v ≡ es ++ insert_entry cmp fs k v
    insert_back k v [] fs h = refl
    insert_back k v (e ∷ es) fs h = let t = below_greater k e.0 h.0 in let ih = insert_back k v es fs h.1 in simp (t, ih)

    pub insert_local : (k : K) (v : X) → IsLocal k (λ es. insert_entry cmp es k v)
    insert_local k v = record { front = insert_front k v; back = insert_back k v }

    set_none : (k : K) (v : X) (fs : List (K × X)) → AreAbove cmp k fs → set_value (is_at (cmp k)) fs v ≡ fs
    set_none k v [] h = refl
    set_none k v (f ∷ fs) h = let t = ap is_eq h.0 in let ih = set_none k v fs h.1 in simp (t, ih)

    set_front : (k : K) (v : X) (es fs : List (K × X)) → AreAbove cmp k fs → set_value (is_at (cmp k)) (es ++ fs) v ≡ set_value (is_at (cmp k)) es v ++ fs
    set_front k v [] fs h = set_none k v fs h
    set_front k v (e ∷ es) fs h = by (set_front k v es fs h) (is_eq (cmp k e.0)) refl
      where
        by : set_value (is_at (cmp k)) (es ++ fs) v ≡ set_value (is_at (cmp k)) es v ++ fs → (b : Bool) → is_eq (cmp k e.0) ≡ b
            → cond (is_eq (cmp k e.0)) ((e.0, v) ∷ (es ++ fs)) (e ∷ set_value (is_at (cmp k)) (es ++ fs) v)
            ≡ cond (is_eq (cmp k e.0)) ((e.0, v) ∷ es) (e ∷ set_value (is_at (cmp k)) es v) ++ fs
        by ih true t = simp t
        by ih false t = simp (t, ih)

    set_back : (k : K) (v : X) (es fs : List (K × X)) → AreBelow cmp k es → set_value (is_at (cmp k)) (es ++ fs) v ≡ es ++ set_value (is_at (cmp k)) fs v
    set_back k v [] fs h = refl
    set_back k v (e ∷ es) fs h = let t = below_differs k e.0 h.0 in let ih = set_back k v es fs h.1 in simp (t, ih)

    pub set_local : (k : K) (v : X) → IsLocal k (λ es. set_value (is_at (cmp k)) es v)
    set_local k v = record { front = set_front k v; back = set_back k v }

    remove_none : (k : K) (fs : List (K × X)) → AreAbove cmp k fs → remove_entry (is_at (cmp k)) fs ≡ fs
    remove_none k [] h = refl
    remove_none k (f ∷ fs) h = let t = ap is_eq h.0 in let ih = remove_none k fs h.1 in simp (t, ih)

    remove_front : (k : K) (es fs : List (K × X)) → AreAbove cmp k fs → remove_entry (is_at (cmp k)) (es ++ fs) ≡ remove_entry (is_at (cmp k)) es ++ fs
    remove_front k [] fs h = remove_none k fs h
    remove_front k (e ∷ es) fs h = by (remove_front k es fs h) (is_eq (cmp k e.0)) refl
      where
        by : remove_entry (is_at (cmp k)) (es ++ fs) ≡ remove_entry (is_at (cmp k)) es ++ fs → (b : Bool) → is_eq (cmp k e.0) ≡ b
            → cond (is_eq (cmp k e.0)) (es ++ fs) (e ∷ remove_entry (is_at (cmp k)) (es ++ fs))
            ≡ cond (is_eq (cmp k e.0)) es (e ∷ remove_entry (is_at (cmp k)) es) ++ fs
        by ih true t = simp t
        by ih false t = simp (t, ih)

    remove_back : (k : K) (es fs : List (K × X)) → AreBelow cmp k es → remove_entry (is_at (cmp k)) (es ++ fs) ≡ es ++ remove_entry (is_at (cmp k)) fs
    remove_back k [] fs h = refl
    remove_back k (e ∷ es) fs h = let t = below_differs k e.0 h.0 in let ih = remove_back k es fs h.1 in simp (t, ih)

    pub remove_local : (k : K) → IsLocal k (remove_entry (is_at (cmp k)))
    remove_local k = record { front = remove_front k; back = remove_back k }

    pub lookup_none : (k : K) (fs : List (K × X)) → AreAbove cmp k fs → lookup (is_at (cmp k)) fs ≡ None
    lookup_none k [] h = refl
    lookup_none k (f ∷ fs) h = let t = ap is_eq h.0 in let ih = lookup_none k fs h.1 in simp (t, ih)

    pub lookup_front : (k : K) (es fs : List (K × X)) → AreAbove cmp k fs → lookup (is_at (cmp k)) (es ++ fs) ≡ lookup (is_at (cmp k)) es
    lookup_front k [] fs h = lookup_none k fs h
    lookup_front k (e ∷ es) fs h = by (lookup_front k es fs h) (is_eq (cmp k e.0)) refl
      where
        by : lookup (is_at (cmp k)) (es ++ fs) ≡ lookup (is_at (cmp k)) es → (b : Bool) → is_eq (cmp k e.0) ≡ b
            → cond (is_eq (cmp k e.0)) (Some e.1) (lookup (is_at (cmp k)) (es ++ fs)) ≡ cond (is_eq (cmp k e.0)) (Some e.1) (lookup (is_at (cmp k)) es)
        by ih true t = simp t
        by ih false t = simp (t, ih)

    pub lookup_back : (k : K) (es fs : List (K × X)) → AreBelow cmp k es → lookup (is_at (cmp k)) (es ++ fs) ≡ lookup (is_at (cmp k)) fs
    lookup_back k [] fs h = refl
    lookup_back k (e ∷ es) fs h = let t = below_differs k e.0 h.0 in let ih = lookup_back k es fs h.1 in simp (t, ih)

    -- ---- the entries below a key, and the others
    pub below_all : (k : K) (es : List (K × X)) → AreBelow cmp k (entries_below (cmp k) es)
    below_all k [] = tt
    below_all k (e ∷ es) = by (below_all k es) (is_gt (cmp k e.0)) refl
      where
        by : AreBelow cmp k (entries_below (cmp k) es) → (b : Bool) → is_gt (cmp k e.0) ≡ b → AreBelow cmp k (entries_below (cmp k) (e ∷ es))
        by ih true t = rw t (above_is k e.0 t, ih)
        by ih false t = rw t ih

    pub from_all : (k : K) (es : List (K × X)) → AreFrom cmp k (entries_from (cmp k) es)
    from_all k [] = tt
    from_all k (e ∷ es) = by (from_all k es) (cmp k e.0) refl
      where
        by : AreFrom cmp k (entries_from (cmp k) es) → (r : Ordering) → cmp k e.0 ≡ r → AreFrom cmp k (entries_from (cmp k) (e ∷ es))
        by ih Less t = rw t (ap is_gt t, ih)
        by ih Equal t = rw t (ap is_gt t, ih)
        by ih Greater t = rw t ih

    pub between_front : (k : K) (es fs : List (K × X)) → AreAbove cmp k fs
        → entries_between cmp (Included k) Unbounded (es ++ fs) ≡ entries_between cmp (Included k) Unbounded es ++ fs
    between_front k [] [] h = refl
    between_front k [] (f ∷ fs) h = let t = h.0 in let ih = between_front k [] fs h.1 in simp (t, ih)
    between_front k (e ∷ es) fs h = by (between_front k es fs h) (cmp k e.0) refl
      where
        by : entries_between cmp (Included k) Unbounded (es ++ fs) ≡ entries_between cmp (Included k) Unbounded es ++ fs → (r : Ordering) → cmp k e.0 ≡ r
            → entries_between cmp (Included k) Unbounded (e ∷ (es ++ fs)) ≡ entries_between cmp (Included k) Unbounded (e ∷ es) ++ fs
        by ih Less t = simp (t, ih)
        by ih Equal t = simp (t, ih)
        by ih Greater t = simp (t, ih)

    pub between_back : (k : K) (es fs : List (K × X)) → AreBelow cmp k es
        → entries_between cmp (Included k) Unbounded (es ++ fs) ≡ entries_between cmp (Included k) Unbounded fs
    between_back k [] fs h = refl
    between_back k (e ∷ es) fs h = let t = below_greater k e.0 h.0 in let ih = between_back k es fs h.1 in simp (t, ih)

    -- ---- predicates of all entries
    pub every : {P Q : K × X → Type 0} → ((e : K × X) → P e → Q e) → (es : List (K × X)) → AllByRecursion P es → AllByRecursion Q es
    every f [] h = tt
    every f (e ∷ es) h = (f e h.0, every f es h.1)

    pub both : (P : K × X → Type 0) → (es fs : List (K × X)) → AllByRecursion P es → AllByRecursion P fs → AllByRecursion P (es ++ fs)
    both P [] fs h i = i
    both P (e ∷ es) fs h i = (h.0, both P es fs h.1 i)

    -- ---- chunks behind a key, and chunks before one
    -- where the first chunk begins above a key, all entries are above it
    pub all_above : (k : K) (chunks : List (ChunkView K X)) → AreParted cmp (spans chunks) → AllByRecursion (λ (c : ChunkView K X). cmp k c.from ≡ Less) chunks → AreAbove cmp k (all_of chunks)
    unfolding AreParted
    all_above k [] p h = tt
    all_above k (c ∷ chunks) p h = both (λ e. cmp k e.0 ≡ Less) c.entries (all_of chunks) (every (λ e f. below_at_most k c.from e.0 h.0 f) c.entries p.0) (all_above k chunks p.2 h.1)

    later : (k : K) (c : ChunkView K X) (chunks : List (ChunkView K X)) → cmp k c.from ≡ Less → AllByRecursion (IsBefore cmp (span c)) (spans chunks) → AllByRecursion (λ (d : ChunkView K X). cmp k d.from ≡ Less) chunks
    later k c [] e h = tt
    later k c (d ∷ chunks) e h = (o.trans k c.from d.from e h.0.0, later k c chunks e h.1)

    pub none_begun : (k : K) (chunks : List (ChunkView K X)) → AreParted cmp (spans chunks) → begun cmp k chunks ≡ 0 → AllByRecursion (λ (c : ChunkView K X). cmp k c.from ≡ Less) chunks
    unfolding AreParted
    none_begun k [] p h = tt
    none_begun k (c ∷ chunks) p h = by (is_gt (cmp c.from k)) refl
      where
        by : (b : Bool) → is_gt (cmp c.from k) ≡ b → AllByRecursion (λ (d : ChunkView K X). cmp k d.from ≡ Less) (c ∷ chunks)
        by true t = let e = above_is c.from k t in (e, later k c chunks e p.1)
        by false t = let g : begun cmp k chunks + 1 ≡ 0 = rw t at h in absurd (omega (arith, g))

    -- the chunks behind the first, where a key belongs into the first
    pub first_alone : (k : K) (c : ChunkView K X) (chunks : List (ChunkView K X)) → begun cmp k (c ∷ chunks) ≡ 1 → begun cmp k chunks ≡ 0
    first_alone k c chunks h = by (is_gt (cmp c.from k)) refl
      where
        by : (b : Bool) → is_gt (cmp c.from k) ≡ b → begun cmp k chunks ≡ 0
        by true t = let g : 0 ≡ 1 = rw t at h in absurd (omega (arith, g))
        by false t = let g : begun cmp k chunks + 1 ≡ 1 = rw t at h in omega (arith, g)

    pub first_begun : (k : K) (c : ChunkView K X) (chunks : List (ChunkView K X)) (n : ℕ) → begun cmp k (c ∷ chunks) ≡ suc n → is_gt (cmp c.from k) ≡ false
    first_begun k c chunks n h = by (is_gt (cmp c.from k)) refl
      where
        by : (b : Bool) → is_gt (cmp c.from k) ≡ b → is_gt (cmp c.from k) ≡ false
        by true t = let g : 0 ≡ suc n = rw t at h in absurd (omega (arith, g))
        by false t = t

    pub not_first : (k : K) (c : ChunkView K X) (chunks : List (ChunkView K X)) (n : ℕ) → begun cmp k (c ∷ chunks) ≡ suc (suc n) → begun cmp k chunks ≡ suc n
    not_first k c chunks n h = by (is_gt (cmp c.from k)) refl
      where
        by : (b : Bool) → is_gt (cmp c.from k) ≡ b → begun cmp k chunks ≡ suc n
        by true t = let g : 0 ≡ suc (suc n) = rw t at h in absurd (omega (arith, g))
        by false t = let g : begun cmp k chunks + 1 ≡ suc (suc n) = rw t at h in omega (arith, g)

    -- the first chunk's entries, where the key belongs into a later one
    pub all_below : (k : K) (c : ChunkView K X) (chunks : List (ChunkView K X)) (n : ℕ) → AllByRecursion (IsBefore cmp (span c)) (spans chunks) → begun cmp k chunks ≡ suc n → AreBelow cmp k c.entries
    all_below k c [] n p h = absurd (omega (arith, h))
    all_below k c (d ∷ chunks) n p h = every (λ e f. below_at_most e.0 d.from k f (first_begun k d chunks n h)) c.entries p.0.1

    -- ---- what is done in a key's chunk
    pub done_there : (k : K) (op : List (K × X) → List (K × X)) → IsLocal k op → (chunks : List (ChunkView K X)) (n : ℕ) (c d : ChunkView K X)
        → AreParted cmp (spans chunks) → begun cmp k chunks ≡ suc n → get_or chunks n c ≡ c → d.entries ≡ op c.entries → all_of (set chunks n d) ≡ op (all_of chunks)
    unfolding AreParted
    done_there k op l [] n c d p h at e = absurd (omega (arith, h))
    done_there k op l (b ∷ chunks) zero c d p h at e =
        let there = all_above k chunks p.2 (none_begun k chunks p.2 (first_alone k b chunks h)) in
        ap (λ (es : List (K × X)). es ++ all_of chunks) (e ∙ ap (λ (x : ChunkView K X). op x.entries) (sym at)) ∙ sym (l.front b.entries (all_of chunks) there)
    done_there k op l (b ∷ chunks) (suc n) c d p h at e =
        let on = not_first k b chunks n h in
        ap (λ (es : List (K × X)). b.entries ++ es) (done_there k op l chunks n c d p.2 on at e) ∙ sym (l.back b.entries (all_of chunks) (all_below k b chunks n p.1 on))

    -- what a list of some of each chunk's entries finds at a key, the key's chunk finds
    pub found_there : (k : K) (chunks : List (ChunkView K X)) (n : ℕ) (c : ChunkView K X) → AreParted cmp (spans chunks) → begun cmp k chunks ≡ suc n → get_or chunks n c ≡ c
        → lookup (is_at (cmp k)) (all_of chunks) ≡ lookup (is_at (cmp k)) c.entries
    unfolding AreParted
    found_there k [] n c p h at = absurd (omega (arith, h))
    found_there k (b ∷ chunks) zero c p h at =
        let there = all_above k chunks p.2 (none_begun k chunks p.2 (first_alone k b chunks h)) in
        lookup_front k b.entries (all_of chunks) there ∙ ap (λ (x : ChunkView K X). lookup (is_at (cmp k)) x.entries) at
    found_there k (b ∷ chunks) (suc n) c p h at =
        let on = not_first k b chunks n h in
        lookup_back k b.entries (all_of chunks) (all_below k b chunks n p.1 on) ∙ found_there k chunks n c p.2 on at

    pub found_nowhere : (k : K) (chunks : List (ChunkView K X)) → AreParted cmp (spans chunks) → begun cmp k chunks ≡ 0 → lookup (is_at (cmp k)) (all_of chunks) ≡ None
    found_nowhere k chunks p h = lookup_none k (all_of chunks) (all_above k chunks p (none_begun k chunks p h))

    -- ---- a search for a key's chunk
    at_place : (P : ChunkView K X → Type 0) (chunks : List (ChunkView K X)) (i : ℕ) (d : ChunkView K X) → AllByRecursion P chunks → i < length chunks → P (get_or chunks i d)
    at_place P [] i d h lt = absurd (omega (arith, lt))
    at_place P (c ∷ chunks) zero d h lt = h.0
    at_place P (c ∷ chunks) (suc i) d h lt = at_place P chunks i d h.1 (omega (arith, lt))

    abbrev pub starts_by : K → ChunkView K X → Bool
    starts_by k c = not (is_gt (cmp c.from k))

    starts : (k : K) (c : ChunkView K X) → starts_by k c ≡ true → is_gt (cmp c.from k) ≡ false
    starts k c h = by (is_gt (cmp c.from k)) refl
      where
        by : (b : Bool) → is_gt (cmp c.from k) ≡ b → is_gt (cmp c.from k) ≡ false
        by false t = t
        by true t = let g : false ≡ true = rw t at h in absurd (false≢true g)

    -- a chunk that begins before one that begins at the key or before it
    starts_too : (k : K) (c d : ChunkView K X) → cmp c.from d.from ≡ Less → starts_by k d ≡ true → starts_by k c ≡ true
    starts_too k c d e h = by (cmp c.from k) refl
      where
        by : (r : Ordering) → cmp c.from k ≡ r → starts_by k c ≡ true
        by Less t = ap (λ (x : Ordering). not (is_gt x)) t
        by Equal t = ap (λ (x : Ordering). not (is_gt x)) t
        by Greater t = absurd (false≢true (sym (ap is_gt (below_at_most c.from d.from k e (starts k d h))) ∙ ap is_gt t))

    pub parted_by : (k : K) (chunks : List (ChunkView K X)) → AreParted cmp (spans chunks) → IsPartitionedBy (starts_by k) chunks
    unfolding AreParted
    parted_by k [] p i j d le lt h = absurd (omega (arith, lt))
    parted_by k (c ∷ chunks) p zero zero d le lt h = h
    parted_by k (c ∷ chunks) p zero (suc j) d le lt h =
        starts_too k c (get_or chunks j d) (at_place (λ (x : ChunkView K X). cmp c.from x.from ≡ Less) chunks j d (rises c chunks p.1) (omega (arith, lt))) h
      where
        rises : (c : ChunkView K X) (cs : List (ChunkView K X)) → AllByRecursion (IsBefore cmp (span c)) (spans cs) → AllByRecursion (λ (x : ChunkView K X). cmp c.from x.from ≡ Less) cs
        rises c [] h = tt
        rises c (x ∷ cs) h = (h.0.0, rises c cs h.1)
    parted_by k (c ∷ chunks) p (suc i) zero d le lt h = absurd (omega (arith, le))
    parted_by k (c ∷ chunks) p (suc i) (suc j) d le lt h = parted_by k chunks p.2 i j d (omega (arith, le)) (omega (arith, lt)) h

    pub begun_is : (k : K) (chunks : List (ChunkView K X)) (i : ℕ) → i ≤ length chunks → IsPartitionPoint (λ c. starts_by k c ≡ true) (λ c. starts_by k c ≡ false) chunks i → begun cmp k chunks ≡ i
    begun_is k [] i le h = omega (arith, le)
    begun_is k (c ∷ chunks) zero le h =
        let t : is_gt (cmp c.from k) ≡ true = by (is_gt (cmp c.from k)) refl (h.1 0 c (omega arith) (omega arith)) in simp t
      where
        by : (b : Bool) → is_gt (cmp c.from k) ≡ b → not (is_gt (cmp c.from k)) ≡ false → is_gt (cmp c.from k) ≡ true
        by true t e = t
        by false t e = let g : true ≡ false = rw t at e in absurd (false≢true (sym g))
    begun_is k (c ∷ chunks) (suc i) le h =
        let t = starts k c (h.0 0 c (omega arith) (omega arith)) in
        let ih = begun_is k chunks i (omega (arith, le)) (λ j d lo hi. h.0 (suc j) d (omega arith) (omega (arith, hi)), λ j d lo hi. h.1 (suc j) d (omega (arith, lo)) (omega (arith, hi))) in
        simp (t, ih) (omega arith)

    pub begun_fits : (k : K) (chunks : List (ChunkView K X)) → begun cmp k chunks ≤ length chunks
    begun_fits k [] = omega arith
    begun_fits k (c ∷ chunks) = by (begun_fits k chunks) (is_gt (cmp c.from k)) refl
      where
        by : begun cmp k chunks ≤ length chunks → (b : Bool) → is_gt (cmp c.from k) ≡ b → begun cmp k (c ∷ chunks) ≤ length (c ∷ chunks)
        by ih true t = rw t (omega arith)
        by ih false t = rw t (omega (arith, ih))

    -- ---- a walk from a key on
    pub walked_there : (k : K) (chunks : List (ChunkView K X)) (n : ℕ) (c : ChunkView K X) → AreParted cmp (spans chunks) → begun cmp k chunks ≡ suc n → get_or chunks n c ≡ c
        → entries_between cmp (Included k) Unbounded (all_of chunks) ≡ entries_between cmp (Included k) Unbounded c.entries ++ all_of (drop (suc n) chunks)
    unfolding AreParted
    walked_there k [] n c p h at = absurd (omega (arith, h))
    walked_there k (b ∷ chunks) zero c p h at =
        let there = all_above k chunks p.2 (none_begun k chunks p.2 (first_alone k b chunks h)) in
        between_front k b.entries (all_of chunks) there ∙ ap (λ (x : ChunkView K X). entries_between cmp (Included k) Unbounded x.entries ++ all_of chunks) at
    walked_there k (b ∷ chunks) (suc n) c p h at =
        let on = not_first k b chunks n h in
        between_back k b.entries (all_of chunks) (all_below k b chunks n p.1 on) ∙ walked_there k chunks n c p.2 on at

    pub walked_all : (k : K) (chunks : List (ChunkView K X)) → AreParted cmp (spans chunks) → begun cmp k chunks ≡ 0
        → entries_between cmp (Included k) Unbounded (all_of chunks) ≡ all_of chunks
    walked_all k chunks p h = between_front k [] (all_of chunks) (all_above k chunks p (none_begun k chunks p h))

    -- ---- a walk of the entries below a key
    pub under_front : (k : K) (es fs : List (K × X)) → AreBelow cmp k es
        → entries_between cmp Unbounded (Excluded k) (es ++ fs) ≡ es ++ entries_between cmp Unbounded (Excluded k) fs
    under_front k [] fs h = refl
    under_front k (e ∷ es) fs h = let t = below_greater k e.0 h.0 in let ih = under_front k es fs h.1 in simp (t, ih)

    pub under_none : (k : K) (fs : List (K × X)) → AreAbove cmp k fs → entries_between cmp Unbounded (Excluded k) fs ≡ []
    under_none k [] h = refl
    under_none k (f ∷ fs) h = let t = h.0 in let ih = under_none k fs h.1 in simp (t, ih)

    pub under_back : (k : K) (es fs : List (K × X)) → AreAbove cmp k fs
        → entries_between cmp Unbounded (Excluded k) (es ++ fs) ≡ entries_between cmp Unbounded (Excluded k) es
    under_back k [] fs h = under_none k fs h
    under_back k (e ∷ es) fs h = by (under_back k es fs h) (cmp k e.0) refl
      where
        by : entries_between cmp Unbounded (Excluded k) (es ++ fs) ≡ entries_between cmp Unbounded (Excluded k) es → (r : Ordering) → cmp k e.0 ≡ r
            → entries_between cmp Unbounded (Excluded k) (e ∷ (es ++ fs)) ≡ entries_between cmp Unbounded (Excluded k) (e ∷ es)
        by ih Less t = simp (t, ih)
        by ih Equal t = simp (t, ih)
        by ih Greater t = simp (t, ih)

    pub under_there : (k : K) (chunks : List (ChunkView K X)) (n : ℕ) (c : ChunkView K X) → AreParted cmp (spans chunks) → begun cmp k chunks ≡ suc n → get_or chunks n c ≡ c
        → entries_between cmp Unbounded (Excluded k) (all_of chunks) ≡ all_of (take n chunks) ++ entries_between cmp Unbounded (Excluded k) c.entries
    unfolding AreParted
    under_there k [] n c p h at = absurd (omega (arith, h))
    under_there k (b ∷ chunks) zero c p h at =
        let there = all_above k chunks p.2 (none_begun k chunks p.2 (first_alone k b chunks h)) in
        under_back k b.entries (all_of chunks) there ∙ ap (λ (x : ChunkView K X). entries_between cmp Unbounded (Excluded k) x.entries) at
    under_there k (b ∷ chunks) (suc n) c p h at =
        let on = not_first k b chunks n h in
        under_front k b.entries (all_of chunks) (all_below k b chunks n p.1 on)
        ∙ (ap (λ (es : List (K × X)). b.entries ++ es) (under_there k chunks n c p.2 on at)
        ∙ sym (append_assoc b.entries (all_of (take n chunks)) (entries_between cmp Unbounded (Excluded k) c.entries)))

    pub under_all : (k : K) (chunks : List (ChunkView K X)) → AreParted cmp (spans chunks) → begun cmp k chunks ≡ 0
        → entries_between cmp Unbounded (Excluded k) (all_of chunks) ≡ []
    under_all k chunks p h = under_none k (all_of chunks) (all_above k chunks p (none_begun k chunks p h))

    pub all_last : (chunks : List (ChunkView K X)) (c : ChunkView K X) → all_of (chunks ++ c ∷ []) ≡ all_of chunks ++ c.entries
    all_last [] c = append-nil c.entries
    all_last (b ∷ chunks) c = ap (λ (es : List (K × X)). b.entries ++ es) (all_last chunks c) ∙ sym (append_assoc b.entries (all_of chunks) c.entries)

    pub left_after : (chunks : List (ChunkView K X)) (n : ℕ) → all_of (take (length chunks - (n + 1)) (drop (n + 1) chunks)) ≡ all_of (drop (suc n) chunks)
    left_after chunks n =
        let next : n + 1 ≡ suc n = omega arith in
        ap (λ (cs : List (ChunkView K X)). all_of cs) (take_rest chunks (n + 1) ∙ ap (λ (m : ℕ). drop m chunks) next)

    -- a walk without bounds is over all entries
    pub all_between : (es : List (K × X)) → entries_between cmp Unbounded Unbounded es ≡ es
    all_between [] = refl
    all_between (e ∷ es) = ap (λ (z : List (K × X)). e ∷ z) (all_between es)

    pub empty_shelf : IsShelf {X = X} cmp []
    unfolding AreParted IsStrictlySortedBy
    empty_shelf = record { parted = tt; sorted = tt }
