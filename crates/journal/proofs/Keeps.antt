-- Each step keeps the rule.
use Rattle.std.proofs.Common.{◌≤◌, ◌≡◌, ◌≢◌, ◌⊎◌, ℕ, zero, suc, ◌+◌, ◌<◌, ◌^◌, ◌==◌, Bool, true, false, List, []}
use Rattle.std.proofs.Common.{◌∷◌, ◌++◌, length, set, get_or, Option, refl, ap, sym, ◌∙◌, subst, inl, inr, ⊎_elim, arith}
use Rattle.std.specs.Prelude.{slice_index, slice_set}
use Rattle.std.proofs.lemmas.List.{length-set, set-get_or, get_or-set_same, get_or-set_other}
use Rattle.std.proofs.lemmas.Bool.{eq-eqb, eqb-true}
use mathlib.Core.Option.{some, none, some-injective, some-ne-none}
use mathlib.Core.List.{IsPrefix}
use mathlib.Core.Logic.{dite}
use native.Mathlib.Decide.{ℕ_discrete}
use lib.ListN.{get_elem?}
use prog.Atomic.{either}
use Rattle.atomic_table.specs.Table.{State, Me, step, keeps, Allows, Splits, Joins}
use Rattle.atomic_table.proofs.Lists.{at_set}
use Rattle.journal.specs.declared.rule.View.{View}
use Rattle.journal.specs.Runs.{IsLegal}
use Rattle.journal.specs.Rules.{Key, slot, session, Owns, NoneLentIsOwn, knower, under, many, IsViewOf, IsRunOf, HasRun, Goes, Looks, Settles, Appends, IsCovered, Compares}
use Rattle.journal.proofs.Fronts.{prefix_self, prefix_nil, prefix_more, prefix_either, legal_prefix, legal_snoc}
use Rattle.journal.proofs.Counts.{bool_cases, count_prefix, count_between, count_yes, count_no}

at_end : {A : Type 0} (l : List A) (a b : A) (j : ℕ) → get_elem? (l ++ a ∷ []) j ≡ some b → (get_elem? l j ≡ some b) ⊎ ((j ≡ length l) × (a ≡ b))
at_end [] a b zero e = inr (refl, some-injective a b e)
at_end [] a b (suc j) e = absurd (some-ne-none b (sym e))
at_end (x ∷ xs) a b zero e = inl e
at_end (x ∷ xs) a b (suc j) e = ⊎_elim (λ h. inl h) (λ h. inr (ap suc h.0, h.1)) (at_end xs a b j e)

module _ {E : Type 0} where
  pub knower_owns : (run : List E) (looks : List (ℕ × ℕ)) (k : Key) → Owns (knower run looks) k → ⊥
  knower_owns run looks (slot i) h = omega (arith, h.1)
  knower_owns run looks (session n) h = ⊎_elim (λ (x : (0 ≤ n) × (n < 0)). absurd (omega (arith, x.1))) (λ (x : (0 ≤ n) × (n < 0)). absurd (omega (arith, x.1))) h

  pub knower_apart : (run : List E) (looks : List (ℕ × ℕ)) → NoneLentIsOwn (knower run looks)
  knower_apart run looks n a b = omega (arith, b.1)

  abbrev All : (ℕ → View E → Type 0) → List (View E) → Type 0
  All F views = (j : ℕ) (v : View E) → get_elem? views j ≡ some v → F j v

  abbrev Apart : List (View E) → Type 0
  Apart views = (j k : ℕ) (v w : View E) (key : Key) → get_elem? views j ≡ some v → get_elem? views k ≡ some w → Owns v key → Owns w key → j ≡ k

  all_set : (F : ℕ → View E → Type 0) (views : List (View E)) (id : ℕ) (w : View E) → F id w
      → ((j : ℕ) (u : View E) → j ≢ id → get_elem? views j ≡ some u → F j u) → All F (set views id w)
  all_set F views id w mine others j u e =
      ⊎_elim
      (λ (x : (j ≡ id) × (w ≡ u)). subst (λ (y : ℕ × View E). F y.0 y.1) (λ i. (sym x.0 i, x.1 i)) mine)
      (λ (x : (j ≢ id) × (get_elem? views j ≡ some u)). others j u x.0 x.1)
      (at_set views id j w u e)

  -- the old owner of a right that a view has after it changed at one place
  apart_set : (views : List (View E)) (id : ℕ) (v w : View E) → get_elem? views id ≡ some v → ((k : Key) → Owns w k → Owns v k) → Apart views → Apart (set views id w)
  apart_set views id v w at less apart j k x y key a b ox oy =
      let F : ℕ → View E → Type 0 = λ j u. Owns u key → (o : View E) × (get_elem? views j ≡ some o) × Owns o key in
      let old : All F (set views id w) = all_set F views id w (λ h. (v, at, less key h)) (λ j u _ e h. (u, e, h)) in
      let p = old j x a ox in
      let q = old k y b oy in
      apart j k p.0 q.0 key p.1 q.1 p.2 q.2

  apart_end : (views : List (View E)) (r : View E) → ((j : ℕ) (u : View E) (k : Key) → get_elem? views j ≡ some u → Owns u k → Owns r k → ⊥)
      → Apart views → Apart (views ++ r ∷ [])
  apart_end views r disjoint apart j k x y key a b ox oy =
      ⊎_elim
      (λ (p : get_elem? views j ≡ some x).
      ⊎_elim
      (λ (q : get_elem? views k ≡ some y). apart j k x y key p q ox oy)
      (λ (q : (k ≡ length views) × (r ≡ y)). absurd (disjoint j x key p ox (subst (λ (z : View E). Owns z key) (sym q.1) oy)))
      (at_end views r y k b))
      (λ (p : (j ≡ length views) × (r ≡ x)).
      ⊎_elim
      (λ (q : get_elem? views k ≡ some y). absurd (disjoint k y key q oy (subst (λ (z : View E). Owns z key) (sym p.1) ox)))
      (λ (q : (k ≡ length views) × (r ≡ y)). p.0 ∙ sym q.0)
      (at_end views r y k b))
      (at_end views r x j a)

module _ {E : Type 0} (slot_of : E → ℕ) (commit_of : E → Option (ℕ × ℕ)) (may : List E → E → Type 0) where
  abbrev M : Key → List E → ℕ
  M = many slot_of commit_of may

  abbrev U : Key → E → Bool
  U = under slot_of commit_of may

  abbrev F : List E → View E → Type 0
  F = IsViewOf slot_of commit_of may

  abbrev K : List ℕ → List (View E) → List E → Type 0
  K = IsRunOf slot_of commit_of may

  abbrev Holds : State E (View E) → Type 0
  Holds = HasRun slot_of commit_of may

  kept_set : (words : List ℕ) (views : List (View E)) (run : List E) (id : ℕ) (v w : View E) → K words views run → get_elem? views id ≡ some v
      → ((k : Key) → Owns w k → Owns v k) → F run w → K words (set views id w) run
  kept_set words views run id v w k at less fits = record {
    legal = k.legal;
    long = k.long;
    counts = k.counts;
    fits = all_set (λ _ u. F run u) views id w fits (λ j u _ e. k.fits j u e);
    apart = apart_set views id v w at less k.apart;
    unused = k.unused;
  }

  -- the view v, which has seen up to c
  abbrev up_to : View E → List E → View E
  up_to v c = record v { seen = c; told = [] }

  fits_up : (run c : List E) (v : View E) → F run v → IsPrefix v.seen c → IsPrefix c run → F run (up_to v c)
  fits_up run c v f p q = record {
    seen = q;
    told = prefix_nil run;
    covers = λ k o. count_between (U k) v.seen c run p q (f.covers k o);
    apart = f.apart;
    below = f.below;
  }

  goes_up : (run c : List E) (v : View E) → IsLegal may run → F run v → IsPrefix v.seen c → IsPrefix v.told c → IsPrefix c run → Goes slot_of commit_of may v c
  goes_up run c v legal f p t q = record {
    legal = legal_prefix may c run q legal;
    seen = p;
    told = t;
    covers = λ k o. count_between (U k) v.seen c run p q (f.covers k o) ∙ sym (f.covers k o);
  }

  pub looks : (slots id : ℕ) (me : Me E (View E)) (i : ℕ) → i < 64 → Allows Holds slots id me i (λ n. n) (Looks slot_of commit_of may (step slots i 0 0 none) me)
  looks slots id me i low s h len at fit =
      let run = h.0 in
      let k = h.1 in
      let v = me.0 in
      let f = k.fits id v at in
      let w = up_to v run in (
        w,
        keeps,
        tt,
        (run, subst (λ (ws : List ℕ). K ws (set s.views id w) run) (sym (set-get_or s.words i 0)) (kept_set s.words s.views run id v w k at (λ _ o. o) (fits_up run run v f f.seen (prefix_self run)))),
        (run, refl, goes_up run run v k.legal f f.seen f.told (prefix_self run), k.counts i low),
      )

  settles_at : (slots id : ℕ) (me : Me E (View E)) (i : ℕ) → i < 64 → (s : State E (View E)) → (h : Holds s) → get_elem? s.views id ≡ some me.0
      → (c : List E) → IsPrefix me.0.seen c → IsPrefix me.0.told c → IsPrefix c h.0 → ((c ≡ me.0.seen) ⊎ (c ≡ me.0.told))
      → (w : View E) × Holds (record { words = set s.words i (get_or s.words i 0); homes = s.homes; views = set s.views id w }) × Settles slot_of commit_of may (step slots i 0 0 none) me (get_or s.words i 0) (w, me.1)
  settles_at slots id me i low s h at c p t q one =
      let run = h.0 in
      let k = h.1 in
      let v = me.0 in
      let f = k.fits id v at in
      let w = up_to v c in (
        w,
        (run, subst (λ (ws : List ℕ). K ws (set s.views id w) run) (sym (set-get_or s.words i 0)) (kept_set s.words s.views run id v w k at (λ _ o. o) (fits_up run c v f p q))),
        (c, refl, goes_up run c v k.legal f p t q, one, (λ o. k.counts i low ∙ sym (count_between (U (slot i)) v.seen c run p q (f.covers (slot i) o))), f.apart),
      )

  pub settles : (slots id : ℕ) (me : Me E (View E)) (i : ℕ) → i < 64 → Allows Holds slots id me i (λ n. n) (Settles slot_of commit_of may (step slots i 0 0 none) me)
  settles slots id me i low s h len at fit =
      let run = h.0 in
      let f = h.1.fits id me.0 at in
      let a = ⊎_elim
      (λ (p : IsPrefix me.0.seen me.0.told). settles_at slots id me i low s h at me.0.told p (prefix_self me.0.told) f.told (inr refl))
      (λ (p : IsPrefix me.0.told me.0.seen). settles_at slots id me i low s h at me.0.seen (prefix_self me.0.seen) p f.seen (inl refl))
      (prefix_either me.0.seen me.0.told run f.seen f.told) in
      (a.0, keeps, tt, a.1, a.2)

  -- the view v, which was told nothing
  abbrev silent : View E → View E
  silent v = record v { told = [] }

  fits_silent : (run : List E) (v : View E) → F run v → F run (silent v)
  fits_silent run v f = record { seen = f.seen; told = prefix_nil run; covers = f.covers; apart = f.apart; below = f.below }

  unused_front : (xs run : List E) → IsPrefix xs run → ((n : ℕ) → 2 ^ 62 ≤ n → M (session n) run ≡ 0) → (n : ℕ) → 2 ^ 62 ≤ n → M (session n) xs ≡ 0
  unused_front xs run p unused n high = omega (arith, unused n high, count_prefix (U (session n)) xs run p)

  is_covered : (words : List ℕ) (views : List (View E)) (run : List E) (v : View E) → K words views run → F run v → IsCovered slot_of commit_of may v
  is_covered words views run v k f = record {
    either = prefix_either v.seen v.told run f.seen f.told;
    covers = λ key o. omega (arith, f.covers key o, count_prefix (U key) v.told run f.told);
    unused = unused_front v.told run f.told k.unused;
  }

  pub compares : (slots id : ℕ) (me : Me E (View E)) (i : ℕ) → i < 64 → Allows Holds slots id me i (λ n. n) (Compares slot_of commit_of may (step slots i 0 0 none) me)
  compares slots id me i low s h len at fit =
      let run = h.0 in
      let k = h.1 in
      let v = me.0 in
      let f = k.fits id v at in
      let w = silent v in (
        w,
        keeps,
        tt,
        (run, subst (λ (ws : List ℕ). K ws (set s.views id w) run) (sym (set-get_or s.words i 0)) (kept_set s.words s.views run id v w k at (λ _ o. o) (fits_silent run v f))),
        (refl, is_covered s.words s.views run v k f),
      )

  -- the entry's caller has the right to all that it is under
  abbrev pub Entitled : View E → E → Type 0
  Entitled v e = (k : Key) → U k e ≡ true → Owns v k

  -- no other view has a right to the entry
  not_theirs : (words : List ℕ) (views : List (View E)) (run : List E) (id j : ℕ) (v u : View E) (e : E) (key : Key) → K words views run
      → get_elem? views id ≡ some v → get_elem? views j ≡ some u → j ≢ id → Entitled v e → Owns u key → U key e ≡ false
  not_theirs words views run id j v u e key k at there other mine o =
      ⊎_elim (λ (y : U key e ≡ true). absurd (other (k.apart j id u v key there at o (mine key y)))) (λ (n : U key e ≡ false). n) (bool_cases (U key e))

  fits_more : (run : List E) (e : E) (u : View E) → ((k : Key) → Owns u k → U k e ≡ false) → F run u → F (run ++ e ∷ []) u
  fits_more run e u free f = record {
    seen = prefix_more u.seen run (e ∷ []) f.seen;
    told = prefix_more u.told run (e ∷ []) f.told;
    covers = λ k o. f.covers k o ∙ sym (count_no (U k) run e (free k o));
    apart = f.apart;
    below = f.below;
  }

  fits_whole : (run : List E) (v : View E) → NoneLentIsOwn v → ((n : ℕ) → Owns v (session n) → n < 2 ^ 62) → F run (up_to v run)
  fits_whole run v apart below =
      record { seen = prefix_self run; told = prefix_nil run; covers = λ k o. refl; apart = apart; below = below }

  counts_more : (words : List ℕ) (run : List E) (i n : ℕ) (e : E) → length words ≡ 64 → i < 64 → slot_of e ≡ i → n ≡ M (slot i) run
      → ((j : ℕ) → j < 64 → slice_index words j ≡ M (slot j) run)
      → (j : ℕ) → j < 64 → slice_index (slice_set words i (n + 1)) j ≡ M (slot j) (run ++ e ∷ [])
  counts_more words run i n e long low on is counts j below =
      dite (ℕ_discrete j i)
      (λ (same : j ≡ i). subst (λ (x : ℕ). slice_index (slice_set words i (n + 1)) x ≡ M (slot x) (run ++ e ∷ [])) (sym same)
      (get_or-set_same words i (n + 1) 0 (omega arith) ∙ ap (λ (x : ℕ). x + 1) is ∙ sym (count_yes (U (slot i)) run e (eq-eqb (slot_of e) i on))))
      (λ (other : j ≢ i).
      let not_on : U (slot j) e ≡ false =
      ⊎_elim (λ (y : U (slot j) e ≡ true). absurd (other (sym (eqb-true (slot_of e) j y) ∙ on))) (λ (y : U (slot j) e ≡ false). y)
      (bool_cases (U (slot j) e)) in
      get_or-set_other words i j (n + 1) 0 other ∙ counts j below ∙ sym (count_no (U (slot j)) run e not_on))

  -- the entry may follow each legal run that begins with what was seen and has no more entries that the seat has the right to
  abbrev pub MayCome : View E → E → Type 0
  MayCome v e = (run : List E) → Goes slot_of commit_of may v run → may run e

  -- no entry is of a number that none can have
  unused_more : (run : List E) (v : View E) (e : E) → Entitled v e → ((n : ℕ) → Owns v (session n) → n < 2 ^ 62)
      → ((n : ℕ) → 2 ^ 62 ≤ n → M (session n) run ≡ 0)
      → (n : ℕ) → 2 ^ 62 ≤ n → M (session n) (run ++ e ∷ []) ≡ 0
  unused_more run v e mine below unused n high =
      let other : U (session n) e ≡ false =
      ⊎_elim (λ (y : U (session n) e ≡ true). let low = below n (mine (session n) y) in absurd (omega (arith, low, high)))
      (λ (y : U (session n) e ≡ false). y)
      (bool_cases (U (session n) e)) in
      count_no (U (session n)) run e other ∙ unused n high

  appends_at : (slots id : ℕ) (me : Me E (View E)) (i n : ℕ) (e : E) → i < 64 → Owns me.0 (slot i) → slot_of e ≡ i → n ≡ M (slot i) me.0.seen
      → Entitled me.0 e → MayCome me.0 e
      → me.0.told ≡ []
      → (s : State E (View E)) → (h : Holds s) → get_elem? s.views id ≡ some me.0 → (x : ℕ) → x ≡ n + 1
      → (w : View E) × Holds (record { words = slice_set s.words i x; homes = s.homes; views = slice_set s.views id w }) × Appends slot_of commit_of may (step slots i n (n + 1) (some e)) me (slice_index s.words i) (w, me.1)
  appends_at slots id me i n e low right on is mine come empty s h at x x_is =
      let run = h.0 in
      let k = h.1 in
      let v = me.0 in
      let f = k.fits id v at in
      let goes = goes_up run run v k.legal f f.seen (subst (λ (t : List E). IsPrefix t run) (sym empty) (prefix_nil run)) (prefix_self run) in
      let legal : IsLegal may (run ++ e ∷ []) = legal_snoc may [] run e k.legal (come run goes) in
      let w = up_to v (run ++ e ∷ []) in
      let n_is : n ≡ M (slot i) run = is ∙ f.covers (slot i) right in
      let kept : K (slice_set s.words i (n + 1)) (slice_set s.views id w) (run ++ e ∷ []) = record {
        legal = legal;
        long = length-set s.words i (n + 1) ∙ k.long;
        counts = counts_more s.words run i n e k.long low on n_is k.counts;
        fits = all_set (λ _ u. F (run ++ e ∷ []) u) s.views id w (fits_whole (run ++ e ∷ []) v f.apart f.below)
            (λ j u other there. fits_more run e u (λ key o. not_theirs s.words s.views run id j v u e key k at there other mine o) (k.fits j u there));
        apart = apart_set s.views id v w at (λ _ o. o) k.apart;
        unused = unused_more run v e mine f.below k.unused;
      } in
      (w, (run ++ e ∷ [], subst (λ (y : ℕ). K (slice_set s.words i y) (slice_set s.views id w) (run ++ e ∷ [])) (sym x_is) kept), (run, e, refl, refl, goes, legal))

  pub appends : (slots id : ℕ) (me : Me E (View E)) (i n : ℕ) (e : E) → i < 64 → Owns me.0 (slot i) → slot_of e ≡ i → n ≡ M (slot i) me.0.seen
      → Entitled me.0 e → MayCome me.0 e → me.0.told ≡ []
      → Allows Holds slots id me i (λ w. either (w == n) (n + 1) w) (Appends slot_of commit_of may (step slots i n (n + 1) (some e)) me)
  appends slots id me i n e low right on is mine come empty s h len at fit =
      let f = h.1.fits id me.0 at in
      let found : slice_index s.words i ≡ n = h.1.counts i low ∙ sym (f.covers (slot i) right) ∙ sym is in
      let x_is : either (slice_index s.words i == n) (n + 1) (slice_index s.words i) ≡ n + 1 = ap (λ (b : Bool). either b (n + 1) (slice_index s.words i)) (eq-eqb (slice_index s.words i) n found) in
      let a = appends_at slots id me i n e low right on is mine come empty s h at (either (slice_index s.words i == n) (n + 1) (slice_index s.words i)) x_is in
      (a.0, keeps, tt, a.1, a.2)

  -- a view is cut in two that share no right
  pub splits : (id : ℕ) (v l r : View E) → l.seen ≡ v.seen → l.told ≡ v.told → r.seen ≡ v.seen → r.told ≡ [] → ((k : Key) → Owns l k → Owns v k)
      → ((k : Key) → Owns r k → Owns v k)
      → ((k : Key) → Owns l k → Owns r k → ⊥) → (NoneLentIsOwn v → NoneLentIsOwn l) → NoneLentIsOwn r → Splits Holds id v l r
  splits id v l r l_seen l_told r_seen r_told l_less r_less two l_apart r_apart s h at =
      let run = h.0 in
      let k = h.1 in
      let f = k.fits id v at in
      let left : F run l = record {
        seen = subst (λ (t : List E). IsPrefix t run) (sym l_seen) f.seen;
        told = subst (λ (t : List E). IsPrefix t run) (sym l_told) f.told;
        covers = λ key o. ap (M key) l_seen ∙ f.covers key (l_less key o);
        apart = l_apart f.apart;
        below = λ n o. f.below n (l_less (session n) o);
      } in
      let right : F run r = record {
        seen = subst (λ (t : List E). IsPrefix t run) (sym r_seen) f.seen;
        told = subst (λ (t : List E). IsPrefix t run) (sym r_told) (prefix_nil run);
        covers = λ key o. ap (M key) r_seen ∙ f.covers key (r_less key o);
        apart = r_apart;
        below = λ n o. f.below n (r_less (session n) o);
      } in
      let first = kept_set s.words s.views run id v l k at l_less left in
      let apart_from : (j : ℕ) (u : View E) (key : Key) → get_elem? (set s.views id l) j ≡ some u → Owns u key → Owns r key → ⊥ =
      λ j u key there o p.
      all_set (λ i y. Owns y key → ⊥) s.views id l (λ q. two key q p)
      (λ i y other e q. other (k.apart i id y v key e at q (r_less key p))) j u there o in (
        run,
        record {
          legal = k.legal;
          long = k.long;
          counts = k.counts;
          fits = λ j u there.
              ⊎_elim (λ (e : get_elem? (set s.views id l) j ≡ some u). first.fits j u e)
              (λ (e : (j ≡ length (set s.views id l)) × (r ≡ u)). subst (F run) e.1 right) (at_end (set s.views id l) r u j there);
          apart = apart_end (set s.views id l) r apart_from first.apart;
          unused = k.unused;
        },
      )

  -- a view takes in another's rights, or what it has seen
  pub joins : (id : ℕ) (v : View E) (other : ℕ) (w b : View E) → ((b.seen ≡ v.seen) ⊎ (b.seen ≡ w.seen)) → IsPrefix v.seen b.seen → ((b.told ≡ []) ⊎ (b.told ≡ w.seen))
      → ((k : Key) → Owns b k → (Owns v k) ⊎ (Owns w k × IsPrefix w.seen b.seen))
      → (NoneLentIsOwn v → ((k : Key) → Owns v k → Owns w k → ⊥) → NoneLentIsOwn b) → Joins Holds id v other w b (knower [] [])
  joins id v other w b b_seen longer b_told rights b_apart s h at two there =
      let run = h.0 in
      let k = h.1 in
      let nobody : View E = knower [] [] in
      let was : get_elem? s.views other ≡ some w =
      ⊎_elim (λ (x : (other ≡ id) × (b ≡ w)). absurd (two x.0)) (λ (x : (other ≢ id) × (get_elem? s.views other ≡ some w)). x.1)
      (at_set s.views id other b w there) in
      let f = k.fits id v at in
      let g = k.fits other w was in
      let begins : IsPrefix b.seen run =
      ⊎_elim (λ (e : b.seen ≡ v.seen). subst (λ (t : List E). IsPrefix t run) (sym e) f.seen)
      (λ (e : b.seen ≡ w.seen). subst (λ (t : List E). IsPrefix t run) (sym e) g.seen) b_seen in
      let both : F run b = record {
        seen = begins;
        told =
            ⊎_elim (λ (e : b.told ≡ []). subst (λ (t : List E). IsPrefix t run) (sym e) (prefix_nil run))
            (λ (e : b.told ≡ w.seen). subst (λ (t : List E). IsPrefix t run) (sym e) g.seen) b_told;
        covers = λ key o.
            ⊎_elim (λ (x : Owns v key). count_between (U key) v.seen b.seen run longer begins (f.covers key x))
            (λ (x : Owns w key × IsPrefix w.seen b.seen). count_between (U key) w.seen b.seen run x.1 begins (g.covers key x.0)) (rights key o);
        apart = b_apart f.apart (λ key o p. two (k.apart other id w v key was at p o));
        below = λ n o. ⊎_elim (λ (x : Owns v (session n)). f.below n x) (λ (x : Owns w (session n) × IsPrefix w.seen b.seen). g.below n x.0) (rights (session n) o);
      } in
      let spent : F run nobody =
      record {
        seen = prefix_nil run;
        told = prefix_nil run;
        covers = λ key o. absurd (knower_owns {E = E} [] [] key o);
        apart = knower_apart {E = E} [] [];
        below = λ n o. absurd (knower_owns {E = E} [] [] (session n) o);
      } in
      let Origin : Key → ℕ → View E → Type 0 =
      λ key j u. Owns u key → (o : ℕ) × (x : View E) × (get_elem? s.views o ≡ some x) × Owns x key × ((o ≡ j) ⊎ ((j ≡ id) × (o ≡ other))) × (j ≢ other) in
      let origin : (key : Key) → All (Origin key) (set (set s.views id b) other nobody) =
      λ key.
      all_set (Origin key) (set s.views id b) other nobody (λ o. absurd (knower_owns {E = E} [] [] key o))
      (λ j u away e. all_set (λ i y. i ≢ other → Origin key i y) s.views id b
      (λ far o. ⊎_elim (λ (x : Owns v key). (id, v, at, x, inl refl, far)) (λ (x : Owns w key × IsPrefix w.seen b.seen). (other, w, was, x.0, inr (refl, refl), far)) (rights key o))
      (λ i y _ e' far o. (i, y, e', o, inl refl, far)) j u e away) in (
        run,
        record {
          legal = k.legal;
          long = k.long;
          counts = k.counts;
          fits = all_set (λ _ u. F run u) (set s.views id b) other nobody spent (λ j u _ e. all_set (λ _ y. F run y) s.views id b both (λ i y _ e'. k.fits i y e') j u e);
          apart = λ j m x y key a c ox oy.
              let p = origin key j x a ox in
              let q = origin key m y c oy in
              let one : p.0 ≡ q.0 = k.apart p.0 q.0 p.1 q.1 key p.2 q.2 p.3 q.3 in
              ⊎_elim
              (λ (d : p.0 ≡ j). ⊎_elim (λ (z : q.0 ≡ m). sym d ∙ one ∙ z) (λ (z : (m ≡ id) × (q.0 ≡ other)). absurd (p.5 (sym d ∙ one ∙ z.1))) q.4)
              (λ (d : (j ≡ id) × (p.0 ≡ other)). ⊎_elim (λ (z : q.0 ≡ m). absurd (q.5 (sym z ∙ sym one ∙ d.1))) (λ (z : (m ≡ id) × (q.0 ≡ other)). d.0 ∙ sym z.0) q.4)
              p.4;
          unused = k.unused;
        },
      )
