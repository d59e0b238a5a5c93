-- An entry that gets another value, or is put in, where its key has none.
use Rattle.std.proofs.Common.{◌≡◌, ◌<◌, ◌⊎◌, inl, inr, ℕ, suc, Bool, true, false, List, length, [], ◌∷◌, get_or, unwrap_or, arith, set, Option, Some, None, Result, Ok, Err, IfOk, IsSome, is_some, if◌then◌else◌, refl, sym, ap, ◌∙◌, subst}
use Rattle.std.proofs.lemmas.Bool.{false≢true}
use Rattle.std.specs.Prelude.{OnOk, OnErr}
use Rattle.std.specs.Cmp.{IsTotalOrder}
use Rattle.std.specs.Ordering.{match_ordering}
use Rattle.std.specs.declared.cmp.Ordering.{Ordering}
use Rattle.std.specs.declared.cmp.Ordering.TheVariants.{Less, Equal, Greater}
use Rattle.std.specs.declared.sync.Arc.{Arc}
use Rattle.std.specs.Map.{lookup, set_value}
use Rattle.std.specs.BTreeMap.{insert_entry, is_at}
use Rattle.row_chunks.specs.Chunks.{ChunkView, AreParted, IsShelf, spans, all_of, open_of, content, changeable}
use Rattle.row_chunks.specs.inner.Splits.{begun}
use Rattle.row_chunks.proofs.Shelf.{done_there, insert_local}
use Rattle.row_chunks.proofs.Changes.{shelf_changed, shelf_same, set_kind, spanned, span_set, all_same, still_set, inserted_found, length_set}

some_is : {X : Type 0} {x y : X} → Some x ≡ Some y → x ≡ y
some_is {X = X} {x} {y} e = ap (λ (o : Option X). unwrap_or o x) e

module _ {K X : Type 0} {cmp : K → K → Ordering} (o : IsTotalOrder cmp) where
  pub shelf_exchanged : (k : K) (v : X) (chunks : List (ChunkView K X)) (n : ℕ) (c d : ChunkView K X) → IsShelf cmp chunks → begun cmp k chunks ≡ suc n → get_or chunks n c ≡ c → d.from ≡ c.from
      → (d.entries ≡ set_value (is_at (cmp k)) c.entries v) ⊎ (d.entries ≡ c.entries) → IsShelf cmp (set chunks n d)
  shelf_exchanged k v chunks n c d s h at f (inl e) = shelf_changed o k (λ es. set_value (is_at (cmp k)) es v) (set_kind o k v) chunks n c d s h at f e
  shelf_exchanged k v chunks n c d s h at f (inr e) = shelf_same o chunks (set chunks n d) (span_set chunks n c d at (spanned c d f e)) s

  pub still_exchanged : (test f : K → Bool) (v : X) (es fs : List (K × X)) → (fs ≡ set_value f es v) ⊎ (fs ≡ es) → IsSome (lookup test es) → IsSome (lookup test fs)
  still_exchanged test f v es fs (inl e) h = subst (λ (l : List (K × X)). IsSome (lookup test l)) (sym e) (still_set o test f v es h)
  still_exchanged test f v es fs (inr e) h = subst (λ (l : List (K × X)). IsSome (lookup test l)) (sym e) h

  -- what can be changed in a chunk still can
  pub still_changeable : (test : K → Bool) (c d : ChunkView K X) → d.is_open ≡ c.is_open → (IsSome (lookup test c.entries) → IsSome (lookup test d.entries))
      → IsSome (lookup test (changeable c)) → IsSome (lookup test (changeable d))
  still_changeable test c d same f h = by c.is_open refl
    where
      by : (b : Bool) → c.is_open ≡ b → IsSome (lookup test (changeable d))
      by true t =
          let u : d.is_open ≡ true = same ∙ t in
          rw u (f (let g : IsSome (lookup test c.entries) = rw t at h in g))
      by false t = let g : false ≡ true = rw t at h in absurd (false≢true g)

  -- an entry that is put in where it is already
  pub same_inserted : (k : K) (v : X) (es : List (K × X)) → length (insert_entry cmp es k v) ≡ length es → lookup (is_at (cmp k)) es ≡ Some v → insert_entry cmp es k v ≡ es
  same_inserted k v [] n h = absurd (false≢true (ap is_some h))
  same_inserted k v (e ∷ es) n h = by (same_inserted k v es) (cmp k e.0) refl
    where
      by : (length (insert_entry cmp es k v) ≡ length es → lookup (is_at (cmp k)) es ≡ Some v → insert_entry cmp es k v ≡ es) → (r : Ordering) → cmp k e.0 ≡ r
          → match_ordering (cmp k e.0) ((k, v) ∷ e ∷ es) ((e.0, v) ∷ es) (e ∷ insert_entry cmp es k v) ≡ e ∷ es
      by ih Less t =
          let m : length ((k, v) ∷ e ∷ es) ≡ length (e ∷ es) = rw t at n in
          absurd (omega (arith, m))
      by ih Equal t =
          let g : Some e.1 ≡ Some v = rw t at h in
          rw t (ap (λ (x : X). (e.0, x) ∷ es) (sym (some_is g)))
      by ih Greater t =
          let m : length (e ∷ insert_entry cmp es k v) ≡ length (e ∷ es) = rw t at n in
          let g : lookup (is_at (cmp k)) es ≡ Some v = rw t at h in
          rw t (ap (λ (l : List (K × X)). e ∷ l) (ih (omega (arith, m)) g))

  -- one of two, by what a result says
  pub either : {E : Type 0} (r : Result Bool E) (es fs gs : List (K × X)) → IfOk r (λ there. fs ≡ (if there then es else gs)) → OnErr r (fs ≡ es) → (fs ≡ gs) ⊎ (fs ≡ es)
  either (Ok true) es fs gs ok err = inr ok
  either (Ok false) es fs gs ok err = inl ok
  either (Err e) es fs gs ok err = inr err

  pub reserved_all : {E : Type 0} (r : Result Bool E) (k : K) (v : X) (chunks : List (ChunkView K X)) (n : ℕ) (c d : ChunkView K X) → AreParted cmp (spans chunks) → begun cmp k chunks ≡ suc n → get_or chunks n c ≡ c → d.from ≡ c.from
      → IfOk r (λ there. d.entries ≡ (if there then c.entries else insert_entry cmp c.entries k v))
      → IfOk r (λ there. all_of (set chunks n d) ≡ (if there then all_of chunks else insert_entry cmp (all_of chunks) k v))
  reserved_all (Ok true) k v chunks n c d p h at f e = all_same (set chunks n d) chunks (span_set chunks n c d at (spanned c d f e))
  reserved_all (Ok false) k v chunks n c d p h at f e = done_there o k (λ es. insert_entry cmp es k v) (insert_local o k v) chunks n c d p h at e
  reserved_all (Err x) k v chunks n c d p h at f e = tt

  pub reserved_found : {E : Type 0} (r : Result Bool E) (k : K) (v : X) (c d : ChunkView K X) → IfOk r (λ there. there ≡ is_some (lookup (is_at (cmp k)) c.entries))
      → IfOk r (λ there. d.entries ≡ (if there then c.entries else insert_entry cmp c.entries k v)) → OnOk r (IsSome (lookup (is_at (cmp k)) d.entries))
  reserved_found (Ok true) k v c d there e = subst (λ (l : List (K × X)). IsSome (lookup (is_at (cmp k)) l)) (sym e) (sym there)
  reserved_found (Ok false) k v c d there e = subst (λ (l : List (K × X)). IsSome (lookup (is_at (cmp k)) l)) (sym e) (inserted_found o k v c.entries)
  reserved_found (Err x) k v c d there e = tt

  -- a map has as many entries after an exchange
  pub count_exchanged : {E Z : Type 0} (r : Result X E) (own new : List (ChunkView K X)) (shared : Option (Arc (List (ChunkView K X)) Z)) (test : K → Bool) (v : X) (count : ℕ) → shared ≡ None
      → OnOk r (all_of new ≡ set_value test (all_of own) v) → OnErr r (all_of new ≡ all_of own) → count ≡ length (all_of (content own shared)) → count ≡ length (all_of (content new shared))
  count_exchanged (Ok x) own new None test v count n ok err is = is ∙ (sym (length_set o test (all_of own) v) ∙ ap (λ (es : List (K × X)). length es) (sym ok))
  count_exchanged (Err e) own new None test v count n ok err is = is ∙ ap (λ (es : List (K × X)). length es) (sym err)
  count_exchanged r own new (Some s) test v count n ok err is = absurd (false≢true (sym (ap is_some n)))
