-- What a change of one chunk leaves of the others.
use Rattle.std.proofs.Common.{◌≡◌, ◌⊎◌, inl, inr, ℕ, zero, suc, ◌+◌, ◌<◌, ◌||◌, length, Bool, true, false, cond, List, [], ◌∷◌, ◌++◌, Option, Some, None, is_some, IsSome, IfSome, option_copied, Bor, refl, sym, ap, ◌∙◌, subst, set, get_or, flat_map, append_assoc, arith}
use Rattle.std.proofs.lemmas.Bool.{false≢true}
use Rattle.std.specs.Cmp.{IsTotalOrder}
use Rattle.std.specs.List.{AllByRecursion, insert}
use Rattle.std.specs.List.Sorted.{IsStrictlySortedBy}
use Rattle.std.specs.Ordering.{is_gt, match_ordering, ordering_reverse}
use Rattle.std.specs.declared.cmp.Ordering.{Ordering}
use Rattle.std.specs.declared.cmp.Ordering.TheVariants.{Less, Equal, Greater}
use Rattle.std.specs.Map.{keys_of, lookup, set_value, remove_entry}
use Rattle.std.specs.BTreeMap.{insert_entry, is_at}
use Rattle.std.specs.BTreeMap.Range.{entries_below, entries_from}
use Rattle.row_chunks.specs.Chunks.{ChunkView, all_of, open_of, changeable, AreBelow, AreFrom, IsBefore, AreParted, IsShelf, span, spans}
use Rattle.row_chunks.specs.inner.Splits.{AreAbove, IsSplit, begun}
use Rattle.std.proofs.lemmas.Map.{keys-set_value}
use Rattle.row_chunks.proofs.Shelf.{itself, found_there, empty_shelf, below_all, from_all, IsLocal, insert_local, set_local, remove_local, lookup_none, lookup_front, lookup_back, both, all_above, all_below, below_at_most, none_begun, first_alone, first_begun, not_first, done_there}

or_first : (a b : Bool) → a ≡ true → (a || b) ≡ true
or_first true b h = refl
or_first false b h = absurd (false≢true h)

or_second : (a b : Bool) → b ≡ true → (a || b) ≡ true
or_second true b h = refl
or_second false b h = h

or_more : (a b a' b' : Bool) → (a ≡ true → a' ≡ true) → (b ≡ true → b' ≡ true) → (a || b) ≡ true → (a' || b') ≡ true
or_more true b true b' f g h = refl
or_more true b false b' f g h = absurd (false≢true (f refl))
or_more false b true b' f g h = refl
or_more false b false b' f g h = g h

each : {Y : Type 0} {P Q : Y → Type 0} → ((y : Y) → P y → Q y) → (ys : List Y) → AllByRecursion P ys → AllByRecursion Q ys
each f [] h = tt
each f (y ∷ ys) h = (f y h.0, each f ys h.1)

pub copied_some : {T : Type 0} (o : Option (Bor T)) → is_some (option_copied o) ≡ is_some o
copied_some None = refl
copied_some (Some x) = refl

module _ {K X : Type 0} where
  -- ---- chunks that begin where others do, with the same entries
  pub all_same : (chunks others : List (ChunkView K X)) → spans chunks ≡ spans others → all_of chunks ≡ all_of others
  all_same chunks others e = from chunks ∙ (ap (flat_map (λ (s : K × List (K × X)). s.1)) e ∙ sym (from others))
    where
      from : (cs : List (ChunkView K X)) → all_of cs ≡ flat_map (λ (s : K × List (K × X)). s.1) (spans cs)
      from [] = refl
      from (c ∷ cs) = ap (λ es. c.entries ++ es) (from cs)

  pub spanned : (c d : ChunkView K X) → d.from ≡ c.from → d.entries ≡ c.entries → span d ≡ span c
  spanned c d f e = ap (λ (k : K). (k, d.entries)) f ∙ ap (λ (es : List (K × X)). (c.from, es)) e

  pub span_set : (chunks : List (ChunkView K X)) (n : ℕ) (c d : ChunkView K X) → get_or chunks n c ≡ c → span d ≡ span c → spans (set chunks n d) ≡ spans chunks
  span_set [] n c d at e = refl
  span_set (b ∷ chunks) zero c d at e = ap (λ (s : K × List (K × X)). s ∷ spans chunks) (e ∙ ap span (sym at))
  span_set (b ∷ chunks) (suc n) c d at e = ap (λ (ss : List (K × List (K × X))). span b ∷ ss) (span_set chunks n c d at e)

  -- ---- entries that can be changed
  some_either : (test : K → Bool) (es fs : List (K × X)) → is_some (lookup test (es ++ fs)) ≡ (is_some (lookup test es) || is_some (lookup test fs))
  some_either test [] fs = refl
  some_either test (e ∷ es) fs = by (some_either test es fs) (test e.0) refl
    where
      by : is_some (lookup test (es ++ fs)) ≡ (is_some (lookup test es) || is_some (lookup test fs)) → (b : Bool) → test e.0 ≡ b
          → is_some (cond (test e.0) (Some e.1) (lookup test (es ++ fs))) ≡ (is_some (cond (test e.0) (Some e.1) (lookup test es)) || is_some (lookup test fs))
      by ih true t = simp t
      by ih false t = simp (t, ih)

  more_either : (test : K → Bool) (es fs es' fs' : List (K × X)) → (IsSome (lookup test es) → IsSome (lookup test es')) → (IsSome (lookup test fs) → IsSome (lookup test fs'))
      → IsSome (lookup test (es ++ fs)) → IsSome (lookup test (es' ++ fs'))
  more_either test es fs es' fs' f g h =
      some_either test es' fs' ∙ or_more (is_some (lookup test es)) (is_some (lookup test fs)) (is_some (lookup test es')) (is_some (lookup test fs')) f g (sym (some_either test es fs) ∙ h)

  pub still_open : (test : K → Bool) (chunks : List (ChunkView K X)) (n : ℕ) (c d : ChunkView K X) → get_or chunks n c ≡ c
      → (IsSome (lookup test (changeable c)) → IsSome (lookup test (changeable d))) → IsSome (lookup test (open_of chunks)) → IsSome (lookup test (open_of (set chunks n d)))
  still_open test [] n c d at f h = h
  still_open test (b ∷ chunks) zero c d at f h =
      more_either test (changeable b) (open_of chunks) (changeable d) (open_of chunks) (λ i. f (subst (λ (x : ChunkView K X). IsSome (lookup test (changeable x))) at i)) (λ i. i) h
  still_open test (b ∷ chunks) (suc n) c d at f h =
      more_either test (changeable b) (open_of chunks) (changeable b) (open_of (set chunks n d)) (λ i. i) (still_open test chunks n c d at f) h

  -- ---- a chunk in two
  pub all_split : (cmp : K → K → Ordering) (chunks : List (ChunkView K X)) (n : ℕ) (c l u : ChunkView K X) → n < length chunks → get_or chunks n c ≡ c → c.entries ≡ l.entries ++ u.entries
      → all_of (insert (set chunks n l) (suc n) u) ≡ all_of chunks
  all_split cmp [] n c l u lt at e = absurd (omega (arith, lt))
  all_split cmp (b ∷ chunks) zero c l u lt at e =
      sym (append_assoc l.entries u.entries (all_of chunks)) ∙ ap (λ (es : List (K × X)). es ++ all_of chunks) (sym e ∙ ap (λ (x : ChunkView K X). x.entries) (sym at))
  all_split cmp (b ∷ chunks) (suc n) c l u lt at e = ap (λ (es : List (K × X)). b.entries ++ es) (all_split cmp chunks n c l u (omega (arith, lt)) at e)

  pub open_split : (chunks : List (ChunkView K X)) (n : ℕ) (c l u : ChunkView K X) → n < length chunks → get_or chunks n c ≡ c → changeable c ≡ changeable l ++ changeable u
      → open_of (insert (set chunks n l) (suc n) u) ≡ open_of chunks
  open_split [] n c l u lt at e = absurd (omega (arith, lt))
  open_split (b ∷ chunks) zero c l u lt at e =
      sym (append_assoc (changeable l) (changeable u) (open_of chunks)) ∙ ap (λ (es : List (K × X)). es ++ open_of chunks) (sym e ∙ ap (λ (x : ChunkView K X). changeable x) (sym at))
  open_split (b ∷ chunks) (suc n) c l u lt at e = ap (λ (es : List (K × X)). changeable b ++ es) (open_split chunks n c l u (omega (arith, lt)) at e)

  module _ {cmp : K → K → Ordering} (o : IsTotalOrder cmp) where
    front_of : (P : K × X → Type 0) (es fs : List (K × X)) → AllByRecursion P (es ++ fs) → AllByRecursion P es
    front_of P [] fs h = tt
    front_of P (e ∷ es) fs h = (h.0, front_of P es fs h.1)

    back_of : (P : K × X → Type 0) (es fs : List (K × X)) → AllByRecursion P (es ++ fs) → AllByRecursion P fs
    back_of P [] fs h = h
    back_of P (e ∷ es) fs h = back_of P es fs h.1

    -- a key that is found among entries below another is below that
    found_below : (k q : K) (es : List (K × X)) → IsSome (lookup (is_at (cmp k)) es) → AreBelow cmp q es → cmp k q ≡ Less
    found_below k q [] h b = absurd (false≢true h)
    found_below k q (e ∷ es) h b = by (λ g. found_below k q es g b.1) (cmp k e.0) refl
      where
        by : (IsSome (lookup (is_at (cmp k)) es) → cmp k q ≡ Less) → (r : Ordering) → cmp k e.0 ≡ r → cmp k q ≡ Less
        by ih Equal t = o.congr k e.0 q t ∙ b.0
        by ih Less t = ih (let g : IsSome (lookup (is_at (cmp k)) es) = rw t at h in g)
        by ih Greater t = ih (let g : IsSome (lookup (is_at (cmp k)) es) = rw t at h in g)

    -- what lies before a chunk lies before the two that it becomes
    before_split : (b : K × List (K × X)) (chunks : List (ChunkView K X)) (n : ℕ) (c l u : ChunkView K X) → n < length chunks → get_or chunks n c ≡ c → l.from ≡ c.from → cmp c.from u.from ≡ Less
        → AllByRecursion (IsBefore cmp b) (spans chunks) → AllByRecursion (IsBefore cmp b) (spans (insert (set chunks n l) (suc n) u))
    before_split b [] n c l u lt at f g h = absurd (omega (arith, lt))
    before_split b (a ∷ chunks) zero c l u lt at f g h =
        let here : IsBefore cmp b (span c) = subst (λ (x : ChunkView K X). IsBefore cmp b (span x)) at h.0 in (
          subst (λ (k : K). (cmp b.0 k ≡ Less) × AreBelow cmp k b.1) (sym f) here,
          ((o.trans b.0 c.from u.from here.0 g, each (λ (e : K × X) i. o.trans e.0 c.from u.from i g) b.1 here.1), h.1),
        )
    before_split b (a ∷ chunks) (suc n) c l u lt at f g h = (h.0, before_split b chunks n c l u (omega (arith, lt)) at f g h.1)

    split_here : (c l u : ChunkView K X) (rest : List (K × List (K × X))) → l.from ≡ c.from → IsSplit cmp c l u → AreParted cmp (span c ∷ rest) → AreParted cmp (span l ∷ span u ∷ rest)
    unfolding AreParted
    split_here c l u rest f s p =
        let whole : AreFrom cmp c.from (l.entries ++ u.entries) = subst (AreFrom cmp c.from) s.parts p.0 in
        let lows : (d : K × List (K × X)) → IsBefore cmp (span c) d → IsBefore cmp (span l) d = λ d h.
        (subst (λ (k : K). cmp k d.0 ≡ Less) (sym f) h.0, front_of (λ e. cmp e.0 d.0 ≡ Less) l.entries u.entries (subst (AreBelow cmp d.0) s.parts h.1)) in
        let highs : (d : K × List (K × X)) → IsBefore cmp (span c) d → IsBefore cmp (span u) d = λ d h.
        (found_below u.from d.0 c.entries s.there h.1, back_of (λ e. cmp e.0 d.0 ≡ Less) l.entries u.entries (subst (AreBelow cmp d.0) s.parts h.1)) in (
          subst (λ (k : K). AreFrom cmp k l.entries) (sym f) (front_of (λ e. is_gt (cmp c.from e.0) ≡ false) l.entries u.entries whole),
          ((subst (λ (k : K). cmp k u.from ≡ Less) (sym f) s.rises, s.below), each lows rest p.1),
          (s.above, each highs rest p.1, p.2),
        )

    pub parted_split : (chunks : List (ChunkView K X)) (n : ℕ) (c l u : ChunkView K X) → n < length chunks → get_or chunks n c ≡ c → l.from ≡ c.from → IsSplit cmp c l u
        → AreParted cmp (spans chunks) → AreParted cmp (spans (insert (set chunks n l) (suc n) u))
    unfolding AreParted
    parted_split [] n c l u lt at f s p = absurd (omega (arith, lt))
    parted_split (b ∷ chunks) zero c l u lt at f s p =
        split_here c l u (spans chunks) f s (subst (λ (x : ChunkView K X). AreParted cmp (span x ∷ spans chunks)) at p)
    parted_split (b ∷ chunks) (suc n) c l u lt at f s p =
        (p.0, before_split (span b) chunks n c l u (omega (arith, lt)) at f s.rises p.1, parted_split chunks n c l u (omega (arith, lt)) at f s p.2)

    -- ---- another key in its chunk
    before_set : (b : K × List (K × X)) (chunks : List (ChunkView K X)) (n : ℕ) (c d : ChunkView K X) → get_or chunks n c ≡ c → d.from ≡ c.from
        → AllByRecursion (IsBefore cmp b) (spans chunks) → AllByRecursion (IsBefore cmp b) (spans (set chunks n d))
    before_set b [] n c d at f h = tt
    before_set b (a ∷ chunks) zero c d at f h =
        (subst (λ (k : K). (cmp b.0 k ≡ Less) × AreBelow cmp k b.1) (ap (λ (x : ChunkView K X). x.from) at ∙ sym f) h.0, h.1)
    before_set b (a ∷ chunks) (suc n) c d at f h = (h.0, before_set b chunks n c d at f h.1)

    change_here : (k : K) (c d : ChunkView K X) (chunks : List (ChunkView K X)) → d.from ≡ c.from → (AreFrom cmp c.from c.entries → AreFrom cmp c.from d.entries)
        → ((q : K) → cmp k q ≡ Less → AreBelow cmp q c.entries → AreBelow cmp q d.entries) → AllByRecursion (λ (x : ChunkView K X). cmp k x.from ≡ Less) chunks
        → AreParted cmp (span c ∷ spans chunks) → AreParted cmp (span d ∷ spans chunks)
    unfolding AreParted
    change_here k c d chunks f low high above p =
        (subst (λ (q : K). AreFrom cmp q d.entries) (sym f) (low p.0), on chunks above p.1, p.2)
      where
        on : (cs : List (ChunkView K X)) → AllByRecursion (λ (x : ChunkView K X). cmp k x.from ≡ Less) cs → AllByRecursion (IsBefore cmp (span c)) (spans cs) → AllByRecursion (IsBefore cmp (span d)) (spans cs)
        on [] a h = tt
        on (x ∷ cs) a h = ((subst (λ (q : K). cmp q x.from ≡ Less) (sym f) h.0.0, high x.from a.0 h.0.1), on cs a.1 h.1)

    pub parted_there : (k : K) (chunks : List (ChunkView K X)) (n : ℕ) (c d : ChunkView K X) → AreParted cmp (spans chunks) → begun cmp k chunks ≡ suc n → get_or chunks n c ≡ c → d.from ≡ c.from
        → (AreFrom cmp c.from c.entries → AreFrom cmp c.from d.entries) → ((q : K) → cmp k q ≡ Less → AreBelow cmp q c.entries → AreBelow cmp q d.entries)
        → AreParted cmp (spans (set chunks n d))
    unfolding AreParted
    parted_there k [] n c d p h at f low high = absurd (omega (arith, h))
    parted_there k (b ∷ chunks) zero c d p h at f low high =
        change_here k c d chunks f low high (none_begun o k chunks p.2 (first_alone o k b chunks h)) (subst (λ (x : ChunkView K X). AreParted cmp (span x ∷ spans chunks)) at p)
    parted_there k (b ∷ chunks) (suc n) c d p h at f low high =
        (p.0, before_set (span b) chunks n c d at f p.1, parted_there k chunks n c d p.2 (not_first o k b chunks n h) at f low high)

    -- ---- a first chunk that begins lower
    pub lowered : (k : K) (c d : ChunkView K X) (chunks : List (ChunkView K X)) → d.from ≡ k → d.entries ≡ c.entries → begun cmp k (c ∷ chunks) ≡ 0
        → AreParted cmp (spans (c ∷ chunks)) → AreParted cmp (spans (d ∷ chunks))
    unfolding AreParted
    lowered k c d chunks f e h p =
        let above = none_begun o k (c ∷ chunks) p h in (
          subst (λ (es : List (K × X)). AreFrom cmp d.from es) (sym e) (subst (λ (q : K). AreFrom cmp q c.entries) (sym f)
              (each (λ (x : K × X) i. ap is_gt (below_at_most o k c.from x.0 above.0 i)) c.entries p.0)),
          on chunks above.1 p.1,
          p.2,
        )
      where
        on : (cs : List (ChunkView K X)) → AllByRecursion (λ (x : ChunkView K X). cmp k x.from ≡ Less) cs → AllByRecursion (IsBefore cmp (span c)) (spans cs) → AllByRecursion (IsBefore cmp (span d)) (spans cs)
        on [] a i = tt
        on (x ∷ cs) a i = ((subst (λ (q : K). cmp q x.from ≡ Less) (sym f) a.0, subst (AreBelow cmp x.from) (sym e) i.0.1), on cs a.1 i.1)

    -- ---- the order of all keys
    all_inserted : (P : K → Type 0) (k : K) (v : X) (es : List (K × X)) → AllByRecursion P (keys_of es) → P k → AllByRecursion P (keys_of (insert_entry cmp es k v))
    all_inserted P k v [] h p = (p, tt)
    all_inserted P k v (e ∷ es) h p = by (all_inserted P k v es h.1 p) (cmp k e.0) refl
      where
        by : AllByRecursion P (keys_of (insert_entry cmp es k v)) → (r : Ordering) → cmp k e.0 ≡ r
            → AllByRecursion P (keys_of (match_ordering (cmp k e.0) ((k, v) ∷ e ∷ es) ((e.0, v) ∷ es) (e ∷ insert_entry cmp es k v)))
        by ih Less t = rw t (p, h)
        by ih Equal t = rw t h
        by ih Greater t = rw t (h.0, ih)

    pub sorted_inserted : (k : K) (v : X) (es : List (K × X)) → IsStrictlySortedBy cmp (keys_of es) → IsStrictlySortedBy cmp (keys_of (insert_entry cmp es k v))
    unfolding IsStrictlySortedBy
    sorted_inserted k v [] h = (tt, tt)
    sorted_inserted k v (e ∷ es) h = by (sorted_inserted k v es h.1) (cmp k e.0) refl
      where
        by : IsStrictlySortedBy cmp (keys_of (insert_entry cmp es k v)) → (r : Ordering) → cmp k e.0 ≡ r
            → IsStrictlySortedBy cmp (keys_of (match_ordering (cmp k e.0) ((k, v) ∷ e ∷ es) ((e.0, v) ∷ es) (e ∷ insert_entry cmp es k v)))
        by ih Less t = rw t ((t, each (λ (y : K) i. o.trans k e.0 y t i) (keys_of es) h.0), h)
        by ih Equal t = rw t h
        by ih Greater t = rw t (all_inserted (λ (y : K). cmp e.0 y ≡ Less) k v es h.0 (o.antisymm e.0 k ∙ ap ordering_reverse t), ih)

    all_removed : (P : K → Type 0) (test : K → Bool) (es : List (K × X)) → AllByRecursion P (keys_of es) → AllByRecursion P (keys_of (remove_entry test es))
    all_removed P test [] h = tt
    all_removed P test (e ∷ es) h = by (all_removed P test es h.1) (test e.0) refl
      where
        by : AllByRecursion P (keys_of (remove_entry test es)) → (b : Bool) → test e.0 ≡ b → AllByRecursion P (keys_of (cond (test e.0) es (e ∷ remove_entry test es)))
        by ih true t = rw t h.1
        by ih false t = rw t (h.0, ih)

    pub sorted_removed : (test : K → Bool) (es : List (K × X)) → IsStrictlySortedBy cmp (keys_of es) → IsStrictlySortedBy cmp (keys_of (remove_entry test es))
    unfolding IsStrictlySortedBy
    sorted_removed test [] h = tt
    sorted_removed test (e ∷ es) h = by (sorted_removed test es h.1) (test e.0) refl
      where
        by : IsStrictlySortedBy cmp (keys_of (remove_entry test es)) → (b : Bool) → test e.0 ≡ b → IsStrictlySortedBy cmp (keys_of (cond (test e.0) es (e ∷ remove_entry test es)))
        by ih true t = rw t h.1
        by ih false t = rw t (all_removed (λ (y : K). cmp e.0 y ≡ Less) test es h.0, ih)

    -- ---- keys that stay in their chunk
    keys_of_all : (P : K → Type 0) (es : List (K × X)) → AllByRecursion (λ (e : K × X). P e.0) es → AllByRecursion P (keys_of es)
    keys_of_all P [] h = tt
    keys_of_all P (e ∷ es) h = (h.0, keys_of_all P es h.1)

    all_of_keys : (P : K → Type 0) (es : List (K × X)) → AllByRecursion P (keys_of es) → AllByRecursion (λ (e : K × X). P e.0) es
    all_of_keys P [] h = tt
    all_of_keys P (e ∷ es) h = (h.0, all_of_keys P es h.1)

    -- what is done at a key keeps what holds of the key and of all others
    pub record IsKind (k : K) (op : List (K × X) → List (K × X)) : Type 1 where
      pub local : IsLocal o k op
      pub keeps : (P : K → Type 0) (es : List (K × X)) → AllByRecursion P (keys_of es) → P k → AllByRecursion P (keys_of (op es))
      pub sorts : (es : List (K × X)) → IsStrictlySortedBy cmp (keys_of es) → IsStrictlySortedBy cmp (keys_of (op es))

    pub insert_kind : (k : K) (v : X) → IsKind k (λ es. insert_entry cmp es k v)
    insert_kind k v = record { local = insert_local o k v; keeps = λ P es. all_inserted P k v es; sorts = sorted_inserted k v }

    pub set_kind : (k : K) (v : X) → IsKind k (λ es. set_value (is_at (cmp k)) es v)
    set_kind k v = record {
      local = set_local o k v;
      keeps = λ P es h p. subst (AllByRecursion P) (sym (keys-set_value (is_at (cmp k)) es v)) h;
      sorts = λ es h. subst (IsStrictlySortedBy cmp) (sym (keys-set_value (is_at (cmp k)) es v)) h;
    }

    pub remove_kind : (k : K) → IsKind k (remove_entry (is_at (cmp k)))
    remove_kind k = record { local = remove_local o k; keeps = λ P es h p. all_removed P (is_at (cmp k)) es h; sorts = sorted_removed (is_at (cmp k)) }

    begun_at : (k : K) (chunks : List (ChunkView K X)) (n : ℕ) (c : ChunkView K X) → begun cmp k chunks ≡ suc n → get_or chunks n c ≡ c → is_gt (cmp c.from k) ≡ false
    begun_at k [] n c h at = absurd (omega (arith, h))
    begun_at k (b ∷ chunks) zero c h at = subst (λ (x : ChunkView K X). is_gt (cmp x.from k) ≡ false) at (first_begun o k b chunks zero h)
    begun_at k (b ∷ chunks) (suc n) c h at = begun_at k chunks n c (not_first o k b chunks n h) at

    pub shelf_changed : (k : K) (op : List (K × X) → List (K × X)) → IsKind k op → (chunks : List (ChunkView K X)) (n : ℕ) (c d : ChunkView K X) → IsShelf cmp chunks
        → begun cmp k chunks ≡ suc n → get_or chunks n c ≡ c → d.from ≡ c.from → d.entries ≡ op c.entries → IsShelf cmp (set chunks n d)
    shelf_changed k op kind chunks n c d s h at f e =
        let low : AreFrom cmp c.from c.entries → AreFrom cmp c.from d.entries = λ i.
        subst (AreFrom cmp c.from) (sym e) (all_of_keys (λ (y : K). is_gt (cmp c.from y) ≡ false) (op c.entries)
        (kind.keeps (λ (y : K). is_gt (cmp c.from y) ≡ false) c.entries (keys_of_all (λ (y : K). is_gt (cmp c.from y) ≡ false) c.entries i) (begun_at k chunks n c h at))) in
        let high : (q : K) → cmp k q ≡ Less → AreBelow cmp q c.entries → AreBelow cmp q d.entries = λ q t i.
        subst (AreBelow cmp q) (sym e) (all_of_keys (λ (y : K). cmp y q ≡ Less) (op c.entries)
        (kind.keeps (λ (y : K). cmp y q ≡ Less) c.entries (keys_of_all (λ (y : K). cmp y q ≡ Less) c.entries i) t)) in
        record {
          parted = parted_there k chunks n c d s.parted h at f low high;
          sorted = subst (λ (es : List (K × X)). IsStrictlySortedBy cmp (keys_of es)) (sym (done_there o k op kind.local chunks n c d s.parted h at e)) (kind.sorts (all_of chunks) s.sorted);
        }

    -- ---- chunks that are as they were
    pub shelf_same : (chunks others : List (ChunkView K X)) → spans others ≡ spans chunks → IsShelf cmp chunks → IsShelf cmp others
    shelf_same chunks others e s = record {
      parted = subst (AreParted cmp) (sym e) s.parted;
      sorted = subst (λ (es : List (K × X)). IsStrictlySortedBy cmp (keys_of es)) (sym (all_same others chunks e)) s.sorted;
    }

    pub shelf_split : (chunks : List (ChunkView K X)) (n : ℕ) (c l u : ChunkView K X) → IsShelf cmp chunks → n < length chunks → get_or chunks n c ≡ c → l.from ≡ c.from → IsSplit cmp c l u
        → IsShelf cmp (insert (set chunks n l) (suc n) u)
    shelf_split chunks n c l u s lt at f i = record {
      parted = parted_split chunks n c l u lt at f i s.parted;
      sorted = subst (λ (es : List (K × X)). IsStrictlySortedBy cmp (keys_of es)) (sym (all_split cmp chunks n c l u lt at i.parts)) s.sorted;
    }

    pub all_lowered : (chunks : List (ChunkView K X)) (c d : ChunkView K X) → get_or chunks 0 c ≡ c → d.entries ≡ c.entries → all_of (set chunks 0 d) ≡ all_of chunks
    all_lowered [] c d at e = refl
    all_lowered (b ∷ chunks) c d at e = ap (λ (es : List (K × X)). es ++ all_of chunks) (e ∙ ap (λ (x : ChunkView K X). x.entries) (sym at))

    pub open_lowered : (chunks : List (ChunkView K X)) (c d : ChunkView K X) → get_or chunks 0 c ≡ c → changeable d ≡ changeable c → open_of (set chunks 0 d) ≡ open_of chunks
    open_lowered [] c d at e = refl
    open_lowered (b ∷ chunks) c d at e = ap (λ (es : List (K × X)). es ++ open_of chunks) (e ∙ ap (λ (x : ChunkView K X). changeable x) (sym at))

    pub shelf_lowered : (k : K) (chunks : List (ChunkView K X)) (c d : ChunkView K X) → IsShelf cmp chunks → get_or chunks 0 c ≡ c → d.from ≡ k → d.entries ≡ c.entries → begun cmp k chunks ≡ 0
        → IsShelf cmp (set chunks 0 d)
    shelf_lowered k [] c d s at f e h = s
    shelf_lowered k (b ∷ chunks) c d s at f e h = record {
      parted = lowered k b d chunks f (e ∙ ap (λ (x : ChunkView K X). x.entries) (sym at)) h s.parted;
      sorted = subst (λ (es : List (K × X)). IsStrictlySortedBy cmp (keys_of es)) (sym (all_lowered (b ∷ chunks) c d at e)) s.sorted;
    }

    pub begun_lowered : (k : K) (chunks : List (ChunkView K X)) (d : ChunkView K X) → 0 < length chunks → d.from ≡ k → 0 < begun cmp k (set chunks 0 d)
    begun_lowered k [] d lt f = absurd (omega (arith, lt))
    begun_lowered k (b ∷ chunks) d lt f =
        let t : is_gt (cmp d.from k) ≡ false = subst (λ (q : K). is_gt (cmp q k) ≡ false) (sym f) (itself o k) in
        rw t (omega arith)

    pub shelf_of_one : (c : ChunkView K X) → c.entries ≡ [] → IsShelf cmp (c ∷ [])
    unfolding AreParted IsStrictlySortedBy
    shelf_of_one c e = record {
      parted = (subst (AreFrom cmp c.from) (sym e) tt, tt, tt);
      sorted = subst (λ (es : List (K × X)). IsStrictlySortedBy cmp (keys_of (es ++ []))) (sym e) tt;
    }

    pub begun_of_one : (k : K) (c : ChunkView K X) → c.from ≡ k → 0 < begun cmp k (c ∷ [])
    begun_of_one k c f =
        let t : is_gt (cmp c.from k) ≡ false = subst (λ (q : K). is_gt (cmp q k) ≡ false) (sym f) (itself o k) in
        rw t (omega arith)

    pub split_at : (c l u : ChunkView K X) → l.entries ≡ entries_below (cmp u.from) c.entries → u.entries ≡ entries_from (cmp u.from) c.entries → c.entries ≡ entries_below (cmp u.from) c.entries ++ entries_from (cmp u.from) c.entries
        → cmp c.from u.from ≡ Less → IsSome (lookup (is_at (cmp u.from)) c.entries) → IsSplit cmp c l u
    split_at c l u low high parts rises there = record {
      parts = parts ∙ (ap (λ (es : List (K × X)). es ++ entries_from (cmp u.from) c.entries) (sym low) ∙ ap (λ (es : List (K × X)). l.entries ++ es) (sym high));
      rises = rises;
      below = subst (AreBelow cmp u.from) (sym low) (below_all o u.from c.entries);
      above = subst (AreFrom cmp u.from) (sym high) (from_all o u.from c.entries);
      there = there;
    }

    -- ---- a chunk in two, in a list that has room for one more
    module _ (chunks new : List (ChunkView K X)) (n : ℕ) (c l u : ChunkView K X) (lt : n < length chunks) (at : get_or chunks n c ≡ c) (f : l.from ≡ c.from) (i : IsSplit cmp c l u)
        (is : new ≡ insert (set chunks n l) (n + 1) u) where
      made : new ≡ insert (set chunks n l) (suc n) u
      made = let next : n + 1 ≡ suc n = omega arith in is ∙ ap (λ (m : ℕ). insert (set chunks n l) m u) next

      pub shelf_parted : IsShelf cmp chunks → IsShelf cmp new
      shelf_parted s = subst (IsShelf cmp) (sym made) (shelf_split chunks n c l u s lt at f i)

      pub all_parted : all_of new ≡ all_of chunks
      all_parted = ap (λ (cs : List (ChunkView K X)). all_of cs) made ∙ all_split cmp chunks n c l u lt at i.parts

      pub open_parted : c.is_open ≡ true → l.is_open ≡ true → u.is_open ≡ true → open_of new ≡ open_of chunks
      open_parted a b d =
          let whole : changeable c ≡ changeable l ++ changeable u = rw (a, b, d) i.parts in
          ap (λ (cs : List (ChunkView K X)). open_of cs) made ∙ open_split chunks n c l u lt at whole

    -- ---- what can be changed at a key
    some_of : (P : K × X → Type 0) (c : ChunkView K X) → AllByRecursion P c.entries → AllByRecursion P (changeable c)
    some_of P c h = by c.is_open refl
      where
        by : (b : Bool) → c.is_open ≡ b → AllByRecursion P (changeable c)
        by true t = rw t h
        by false t = rw t tt

    open_above : (k : K) (chunks : List (ChunkView K X)) → AreAbove cmp k (all_of chunks) → AreAbove cmp k (open_of chunks)
    open_above k [] h = tt
    open_above k (c ∷ chunks) h =
        both o (λ e. cmp k e.0 ≡ Less) (changeable c) (open_of chunks) (some_of (λ e. cmp k e.0 ≡ Less) c (front_of (λ e. cmp k e.0 ≡ Less) c.entries (all_of chunks) h))
        (open_above k chunks (back_of (λ e. cmp k e.0 ≡ Less) c.entries (all_of chunks) h))

    pub found_open : (k : K) (chunks : List (ChunkView K X)) (n : ℕ) (c : ChunkView K X) → AreParted cmp (spans chunks) → begun cmp k chunks ≡ suc n → get_or chunks n c ≡ c
        → lookup (is_at (cmp k)) (open_of chunks) ≡ lookup (is_at (cmp k)) (changeable c)
    unfolding AreParted
    found_open k [] n c p h at = absurd (omega (arith, h))
    found_open k (b ∷ chunks) zero c p h at =
        let there = all_above o k chunks p.2 (none_begun o k chunks p.2 (first_alone o k b chunks h)) in
        lookup_front o k (changeable b) (open_of chunks) (open_above k chunks there) ∙ ap (λ (x : ChunkView K X). lookup (is_at (cmp k)) (changeable x)) at
    found_open k (b ∷ chunks) (suc n) c p h at =
        let on = not_first o k b chunks n h in
        lookup_back o k (changeable b) (open_of chunks) (some_of (λ e. cmp e.0 k ≡ Less) b (all_below o k b chunks n p.1 on)) ∙ found_open k chunks n c p.2 on at

    pub none_open : (k : K) (chunks : List (ChunkView K X)) → AreParted cmp (spans chunks) → begun cmp k chunks ≡ 0 → lookup (is_at (cmp k)) (open_of chunks) ≡ None
    none_open k chunks p h = lookup_none o k (open_of chunks) (open_above k chunks (all_above o k chunks p (none_begun o k chunks p h)))

    -- an entry that can be changed lies in a chunk that begins at its key or before it
    pub open_begun : (k : K) (chunks : List (ChunkView K X)) → AreParted cmp (spans chunks) → IsSome (lookup (is_at (cmp k)) (open_of chunks)) → 0 < begun cmp k chunks
    open_begun k chunks p h = by (begun cmp k chunks) refl
      where
        by : (n : ℕ) → begun cmp k chunks ≡ n → 0 < begun cmp k chunks
        by zero t = absurd (false≢true (sym (ap is_some (none_open k chunks p t)) ∙ h))
        by (suc n) t = omega (arith, t)

    open_is : (test : K → Bool) (c : ChunkView K X) → IsSome (lookup test (changeable c)) → c.is_open ≡ true
    open_is test c h = by c.is_open refl
      where
        by : (b : Bool) → c.is_open ≡ b → c.is_open ≡ true
        by true t = t
        by false t = let g : false ≡ true = rw t at h in absurd (false≢true g)

    pub open_chunk : (k : K) (chunks : List (ChunkView K X)) (n : ℕ) (c : ChunkView K X) → AreParted cmp (spans chunks) → IsSome (lookup (is_at (cmp k)) (open_of chunks))
        → begun cmp k chunks ≡ suc n → get_or chunks n c ≡ c → (c.is_open ≡ true) × IsSome (lookup (is_at (cmp k)) c.entries)
    open_chunk k chunks n c p h b at =
        let found : IsSome (lookup (is_at (cmp k)) (changeable c)) = subst (λ (x : Option X). IsSome x) (found_open k chunks n c p b at) h in
        let t = open_is (is_at (cmp k)) c found in
        let g : IsSome (lookup (is_at (cmp k)) c.entries) = rw t at found in
        (t, g)

    -- the value of an entry that can be changed is the entry's
    pub value_ready : (o : Option (Bor X)) (test : K → Bool) (c : ChunkView K X) (all : Option X) → option_copied o ≡ lookup test (changeable c) → all ≡ lookup test c.entries
        → IfSome o (λ v. all ≡ Some v.now)
    value_ready None test c all is at = tt
    value_ready (Some v) test c all is at = by c.is_open refl
      where
        by : (b : Bool) → c.is_open ≡ b → all ≡ Some v.now
        by true t = let g : Some v.now ≡ lookup test c.entries = rw t at is in at ∙ sym g
        by false t = let g : ◌≡◌ {A = Option X} (Some v.now) None = rw t at is in absurd (cc g)

    -- an entry at the head is found
    head_found : (k : K) (v : X) (es : List (K × X)) → IsSome (lookup (is_at (cmp k)) ((k, v) ∷ es))
    head_found k v es = by (cmp k k) refl
      where
        by : (r : Ordering) → cmp k k ≡ r → IsSome (lookup (is_at (cmp k)) ((k, v) ∷ es))
        by Less t = let g : Less ≡ Greater = sym t ∙ (o.antisymm k k ∙ ap ordering_reverse t) in absurd (false≢true (ap is_gt g))
        by Equal t = rw t refl
        by Greater t = absurd (false≢true (sym (itself o k) ∙ ap is_gt t))

    pub inserted_found : (k : K) (v : X) (es : List (K × X)) → IsSome (lookup (is_at (cmp k)) (insert_entry cmp es k v))
    inserted_found k v [] = head_found k v []
    inserted_found k v (e ∷ es) = by (head_found k v (e ∷ es)) (inserted_found k v es) (cmp k e.0) refl
      where
        by : IsSome (lookup (is_at (cmp k)) ((k, v) ∷ e ∷ es)) → IsSome (lookup (is_at (cmp k)) (insert_entry cmp es k v)) → (r : Ordering) → cmp k e.0 ≡ r
            → IsSome (lookup (is_at (cmp k)) (match_ordering (cmp k e.0) ((k, v) ∷ e ∷ es) ((e.0, v) ∷ es) (e ∷ insert_entry cmp es k v)))
        by here ih Less t = rw t here
        by here ih Equal t = rw t (rw t refl)
        by here ih Greater t = rw t (rw t ih)

    pub still_inserted : (test : K → Bool) (k : K) (v : X) (es : List (K × X)) → IsSome (lookup test es) → IsSome (lookup test (insert_entry cmp es k v))
    still_inserted test k v [] h = absurd (false≢true h)
    still_inserted test k v (e ∷ es) h = by (still_inserted test k v es) (cmp k e.0) refl (test e.0) refl
      where
        front : (b : Bool) → test k ≡ b → IsSome (lookup test ((k, v) ∷ e ∷ es))
        front true t = rw t refl
        front false t = rw t h

        by : (IsSome (lookup test es) → IsSome (lookup test (insert_entry cmp es k v))) → (r : Ordering) → cmp k e.0 ≡ r → (b : Bool) → test e.0 ≡ b
            → IsSome (lookup test (match_ordering (cmp k e.0) ((k, v) ∷ e ∷ es) ((e.0, v) ∷ es) (e ∷ insert_entry cmp es k v)))
        by ih Less t b u = rw t (front (test k) refl)
        by ih Equal t true u = rw (t, u) refl
        by ih Equal t false u = rw (t, u) (let g : IsSome (lookup test es) = rw u at h in g)
        by ih Greater t true u = rw (t, u) refl
        by ih Greater t false u = rw (t, u) (ih (let g : IsSome (lookup test es) = rw u at h in g))

    pub open_set : (test : K → Bool) (chunks : List (ChunkView K X)) (n : ℕ) (d : ChunkView K X) → n < length chunks → IsSome (lookup test (changeable d)) → IsSome (lookup test (open_of (set chunks n d)))
    open_set test [] n d lt h = absurd (omega (arith, lt))
    open_set test (b ∷ chunks) zero d lt h = some_either test (changeable d) (open_of chunks) ∙ or_first (is_some (lookup test (changeable d))) (is_some (lookup test (open_of chunks))) h
    open_set test (b ∷ chunks) (suc n) d lt h =
        some_either test (changeable b) (open_of (set chunks n d)) ∙ or_second (is_some (lookup test (changeable b))) (is_some (lookup test (open_of (set chunks n d)))) (open_set test chunks n d (omega (arith, lt)) h)

    open_found : (test : K → Bool) (c : ChunkView K X) → IsSome (lookup test (changeable c)) → IsSome (lookup test c.entries)
    open_found test c h = by c.is_open refl
      where
        by : (b : Bool) → c.is_open ≡ b → IsSome (lookup test c.entries)
        by true t = let g : IsSome (lookup test c.entries) = rw t at h in g
        by false t = let g : false ≡ true = rw t at h in absurd (false≢true g)

    pub open_entries : (test : K → Bool) (d : ChunkView K X) → d.is_open ≡ true → IsSome (lookup test d.entries) → IsSome (lookup test (changeable d))
    open_entries test d u h = rw u h

    -- a chunk that is opened, or is as it was
    pub open_more : (test : K → Bool) (c d : ChunkView K X) → d.entries ≡ c.entries → (d.is_open ≡ true) ⊎ (d ≡ c) → IsSome (lookup test (changeable c)) → IsSome (lookup test (changeable d))
    open_more test c d e (inl t) h = open_entries test d t (subst (λ (es : List (K × X)). IsSome (lookup test es)) (sym e) (open_found test c h))
    open_more test c d e (inr t) h = subst (λ (x : ChunkView K X). IsSome (lookup test (changeable x))) (sym t) h

    pub open_all : (test : K → Bool) (chunks : List (ChunkView K X)) → IsSome (lookup test (open_of chunks)) → IsSome (lookup test (all_of chunks))
    open_all test [] h = h
    open_all test (c ∷ chunks) h = more_either test (changeable c) (open_of chunks) c.entries (all_of chunks) (open_found test c) (open_all test chunks) h

    -- an entry of a chunk that is opened can be changed
    pub opened : (k : K) (chunks : List (ChunkView K X)) (n : ℕ) (c d : ChunkView K X) → AreParted cmp (spans chunks) → n < length chunks → get_or chunks n c ≡ c → d.entries ≡ c.entries → d.is_open ≡ true
        → begun cmp k chunks ≡ suc n → IsSome (lookup (is_at (cmp k)) (all_of chunks)) → IsSome (lookup (is_at (cmp k)) (open_of (set chunks n d)))
    opened k chunks n c d p lt at e t b h =
        let here : IsSome (lookup (is_at (cmp k)) c.entries) = subst (λ (x : Option X). IsSome x) (found_there o k chunks n c p b at) h in
        open_set (is_at (cmp k)) chunks n d lt (open_entries (is_at (cmp k)) d t (subst (λ (es : List (K × X)). IsSome (lookup (is_at (cmp k)) es)) (sym e) here))

    pub begun_same : (k : K) (chunks others : List (ChunkView K X)) → spans others ≡ spans chunks → begun cmp k others ≡ begun cmp k chunks
    begun_same k chunks others e = from others ∙ (ap (started k) e ∙ sym (from chunks))
      where
        started : K → List (K × List (K × X)) → ℕ
        started k [] = 0
        started k (s ∷ ss) = cond (is_gt (cmp s.0 k)) 0 (started k ss + 1)

        from : (cs : List (ChunkView K X)) → begun cmp k cs ≡ started k (spans cs)
        from [] = refl
        from (c ∷ cs) = ap (λ (n : ℕ). cond (is_gt (cmp c.from k)) 0 (n + 1)) (from cs)

    pub still_set : (test f : K → Bool) (v : X) (es : List (K × X)) → IsSome (lookup test es) → IsSome (lookup test (set_value f es v))
    still_set test f v [] h = h
    still_set test f v (e ∷ es) h = by (still_set test f v es) (f e.0) refl (test e.0) refl
      where
        by : (IsSome (lookup test es) → IsSome (lookup test (set_value f es v))) → (a : Bool) → f e.0 ≡ a → (b : Bool) → test e.0 ≡ b
            → IsSome (lookup test (cond (f e.0) ((e.0, v) ∷ es) (e ∷ set_value f es v)))
        by ih true t true u = rw (t, u) refl
        by ih true t false u = rw (t, u) (let g : IsSome (lookup test es) = rw u at h in g)
        by ih false t true u = rw (t, u) refl
        by ih false t false u = rw (t, u) (ih (let g : IsSome (lookup test es) = rw u at h in g))

    -- a chunk more at the end of none
    pub shelf_pushed : (old new : List (ChunkView K X)) (c : ChunkView K X) (b : Bool) → old ≡ [] → c.entries ≡ [] → new ≡ cond b (old ++ c ∷ []) old → IsShelf cmp new
    shelf_pushed old new c b none empty is = subst (IsShelf cmp) (sym (is ∙ ap (λ (l : List (ChunkView K X)). cond b (l ++ c ∷ []) l) none)) (by b)
      where
        by : (b : Bool) → IsShelf cmp (cond b (c ∷ []) [])
        by true = shelf_of_one c empty
        by false = empty_shelf o

    pub length_set : (test : K → Bool) (es : List (K × X)) (v : X) → length (set_value test es v) ≡ length es
    length_set test [] v = refl
    length_set test (e ∷ es) v = by (length_set test es v) (test e.0) refl
      where
        by : length (set_value test es v) ≡ length es → (b : Bool) → test e.0 ≡ b → length (cond (test e.0) ((e.0, v) ∷ es) (e ∷ set_value test es v)) ≡ length (e ∷ es)
        by ih true t = rw t refl
        by ih false t = rw t (omega (arith, ih))

    -- ---- how many
    pub length_inserted : (k : K) (v : X) (es : List (K × X)) → lookup (is_at (cmp k)) es ≡ None → length (insert_entry cmp es k v) ≡ length es + 1
    length_inserted k v [] h = refl
    length_inserted k v (e ∷ es) h = by (length_inserted k v es) (cmp k e.0) refl
      where
        by : (lookup (is_at (cmp k)) es ≡ None → length (insert_entry cmp es k v) ≡ length es + 1) → (r : Ordering) → cmp k e.0 ≡ r
            → length (match_ordering (cmp k e.0) ((k, v) ∷ e ∷ es) ((e.0, v) ∷ es) (e ∷ insert_entry cmp es k v)) ≡ length (e ∷ es) + 1
        by ih Less t = rw t (omega arith)
        by ih Equal t = let g : Some e.1 ≡ None = rw t at h in absurd (false≢true (sym (ap is_some g)))
        by ih Greater t = rw t (let i = ih (let g : lookup (is_at (cmp k)) es ≡ None = rw t at h in g) in omega (arith, i))

    pub length_removed : (test : K → Bool) (es : List (K × X)) → IsSome (lookup test es) → length (remove_entry test es) + 1 ≡ length es
    length_removed test [] h = absurd (false≢true h)
    length_removed test (e ∷ es) h = by (length_removed test es) (test e.0) refl
      where
        by : (IsSome (lookup test es) → length (remove_entry test es) + 1 ≡ length es) → (b : Bool) → test e.0 ≡ b → length (cond (test e.0) es (e ∷ remove_entry test es)) + 1 ≡ length (e ∷ es)
        by ih true t = rw t (omega arith)
        by ih false t = rw t (let i = ih (let g : IsSome (lookup test es) = rw t at h in g) in omega (arith, i))

    -- ---- an entry that is put in, or isn't
    pub shelf_maybe : (k : K) (v : X) (chunks : List (ChunkView K X)) (n : ℕ) (c d : ChunkView K X) → IsShelf cmp chunks → begun cmp k chunks ≡ suc n → get_or chunks n c ≡ c → d.from ≡ c.from
        → (d.entries ≡ insert_entry cmp c.entries k v) ⊎ (d.entries ≡ c.entries) → IsShelf cmp (set chunks n d)
    shelf_maybe k v chunks n c d s h at f (inl e) = shelf_changed k (λ es. insert_entry cmp es k v) (insert_kind k v) chunks n c d s h at f e
    shelf_maybe k v chunks n c d s h at f (inr e) = shelf_same chunks (set chunks n d) (span_set chunks n c d at (spanned c d f e)) s

    pub still_maybe : (k : K) (v : X) (test : K → Bool) (es fs : List (K × X)) → (fs ≡ insert_entry cmp es k v) ⊎ (fs ≡ es) → IsSome (lookup test es) → IsSome (lookup test fs)
    still_maybe k v test es fs (inl e) h = subst (λ (l : List (K × X)). IsSome (lookup test l)) (sym e) (still_inserted test k v es h)
    still_maybe k v test es fs (inr e) h = subst (λ (l : List (K × X)). IsSome (lookup test l)) (sym e) h

    pub open_grows : (test : K → Bool) (c d : ChunkView K X) → c.is_open ≡ true → d.is_open ≡ true → (IsSome (lookup test c.entries) → IsSome (lookup test d.entries))
        → IsSome (lookup test (changeable c)) → IsSome (lookup test (changeable d))
    open_grows test c d t u f h = rw u (f (let g : IsSome (lookup test c.entries) = rw t at h in g))
