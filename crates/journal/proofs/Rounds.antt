-- What several steps in a row tell together.
use Rattle.std.proofs.Common.{inl, ◌≡◌, ◌⊎◌, ℕ, ◌<◌, ◌≤◌, ◌^◌, true, List, [], ◌∷◌, ◌++◌, length, Option, refl, ap, ap₂, sym, ◌∙◌, subst, ⊎_elim, arith}
use Rattle.std.proofs.lemmas.Bool.{eqb-true}
use mathlib.Core.List.{IsPrefix}
use mathlib.Core.Option.{some, some-injective}
use Rattle.atomic_table.specs.Table.{Me, step}
use Rattle.journal.specs.declared.rule.View.{View}
use Rattle.journal.specs.Rules.{Key, slot, session, Owns, noted, look_noted, hears, hears_looks, seeing, without_sessions, sessions_of, holding}
use Rattle.journal.specs.Rules.{without_held, held_of, NoneLentIsOwn, first_session, borrows, returns, under, many, Goes, Appends}
use Rattle.journal.specs.inner.Steps.{Grows}
use Rattle.journal.specs.inner.Steps.{settled, looked, Agrees, LooksBoth, AppendsBoth, IsEntitled, MayPut, PutsEntry, IsPlain, NoneHeld, NoCommon}
use Rattle.journal.proofs.Fronts.{prefix_self, prefix_trans, prefix_both, prefix_more}

module _ {E : Type 0} where
  owns_hears : (v w : View E) (k : Key) → Owns v k → Owns (hears v w) k
  owns_hears v w (slot i) o = o
  owns_hears v w (session n) o = o

  owns_hears_looks : (v w : View E) (k : Key) → Owns v k → Owns (hears_looks v w) k
  owns_hears_looks v w (slot i) o = o
  owns_hears_looks v w (session n) o = o

module _ {E : Type 0} (slot_of : E → ℕ) (commit_of : E → Option (ℕ × ℕ)) (may : List E → E → Type 0) where
  abbrev G : View E → List E → Type 0
  G = Grows slot_of commit_of may

  abbrev O : View E → List E → Type 0
  O = Goes slot_of commit_of may

  abbrev S : ℕ → Me E (View E) → ℕ → Me E (View E) → Type 0
  S = settled slot_of commit_of may

  heard : (v w : View E) (run : List E) → O (hears v w) run → G v run
  heard v w run g = record { legal = g.legal; seen = g.seen; covers = λ k o. g.covers k (owns_hears v w k o) }

  heard_looks : (v w : View E) (run : List E) → O (hears_looks v w) run → G v run
  heard_looks v w run g = record { legal = g.legal; seen = g.seen; covers = λ k o. g.covers k (owns_hears_looks v w k o) }

  agrees_at : (i found' : ℕ) (a b n : Me E (View E)) (run : List E) → O (hears a.0 (noted b.0)) run → ((run ≡ a.0.seen) ⊎ (run ≡ b.0.seen))
      → S i (hears b.0 (noted (seeing a.0 run)), b.1) found' n
      → Agrees slot_of commit_of may a b (seeing a.0 run, a.1) n
  agrees_at i found' a b n run g one k =
      let t = k.0 in
      let same : t ≡ run = ⊎_elim
      (λ (e : t ≡ b.0.seen). prefix_both t run (subst (λ (x : List E). IsPrefix x run) (sym e) g.told) k.2.told)
      (λ (e : t ≡ run). e) k.3 in
      (run, refl, subst (λ (x : List E). n ≡ (seeing b.0 x, b.1)) same k.1, heard a.0 (noted b.0) run g, subst (λ (x : List E). G b.0 x) same (heard b.0 (noted (seeing a.0 run)) t k.2), one)

  pub agrees : (i found found' : ℕ) (a b a1 m b1 n : Me E (View E)) → a1 ≡ (hears a.0 (noted b.0), a.1) → S i a1 found m
      → b1 ≡ (hears b.0 (noted m.0), b.1) → S i b1 found' n → Agrees slot_of commit_of may a b m n
  agrees i found found' a b a1 m b1 n a_is x b_is y =
      let h = subst (λ (z : Me E (View E)). S i z found m) a_is x in
      let run = h.0 in
      let k = subst (λ (z : Me E (View E)). S i z found' n) (b_is ∙ ap (λ (z : Me E (View E)). let r : Me E (View E) = (hears b.0 (noted z.0), b.1) in r) h.1) y in
      subst (λ (z : Me E (View E)). Agrees slot_of commit_of may a b z n) (sym h.1) (agrees_at i found' a b n run h.2 h.3 k)

  pub agrees_found : (i found : ℕ) (a b a1 m : Me E (View E)) → a1 ≡ (hears a.0 (noted b.0), a.1) → S i a1 found m → Owns a.0 (slot i)
      → found ≡ many slot_of commit_of may (slot i) m.0.seen
  agrees_found i found a b a1 m a_is x o =
      let h = subst (λ (z : Me E (View E)). S i z found m) a_is x in
      h.4 o ∙ ap (λ (z : Me E (View E)). many slot_of commit_of may (slot i) z.0.seen) (sym h.1)

  looks_at : (i found found' : ℕ) (a b n : Me E (View E)) (run : List E) → O (hears a.0 (noted b.0)) run
      → found ≡ many slot_of commit_of may (slot i) run → S i (hears_looks b.0 (look_noted (seeing a.0 run)), b.1) found' n
      → LooksBoth slot_of commit_of may i a b found (seeing a.0 run, a.1) n
  looks_at i found found' a b n run g is k =
      let t = k.0 in
      let same : t ≡ run = ⊎_elim
      (λ (e : t ≡ b.0.seen). prefix_both t run (subst (λ (x : List E). IsPrefix x run) (sym e) g.told) k.2.told)
      (λ (e : t ≡ run). e) k.3 in
      let looks : List (ℕ × ℕ) = b.0.looks ++ (a.0.slot_from, length run) ∷ [] in
      (run, refl, subst (λ (x : List E). n ≡ (record b.0 { seen = x; told = []; looks = looks }, b.1)) same k.1, heard a.0 (noted b.0) run g, subst (λ (x : List E). G b.0 x) same (heard_looks b.0 (look_noted (seeing a.0 run)) t k.2), is)

  pub looks_both : (i found found' : ℕ) (a b a1 m b1 n : Me E (View E)) → a1 ≡ (hears a.0 (noted b.0), a.1)
      → looked slot_of commit_of may i a1 found m → b1 ≡ (hears_looks b.0 (look_noted m.0), b.1) → S i b1 found' n
      → LooksBoth slot_of commit_of may i a b found m n
  looks_both i found found' a b a1 m b1 n a_is x b_is y =
      let h = subst (λ (z : Me E (View E)). looked slot_of commit_of may i z found m) a_is x in
      let run = h.0 in
      let k =
      subst (λ (z : Me E (View E)). S i z found' n)
      (b_is ∙ ap (λ (z : Me E (View E)). let r : Me E (View E) = (hears_looks b.0 (look_noted z.0), b.1) in r) h.1) y in
      subst (λ (z : Me E (View E)). LooksBoth slot_of commit_of may i a b found z n) (sym h.1) (looks_at i found found' a b n run h.2 h.3 k)

  -- the seat's view while it has the pass's sessions
  abbrev joint : View E → View E → List E → View E
  joint a b run = borrows (seeing a run) (sessions_of (seeing b run))

  grows_seat : (a b : View E) (s run : List E) → (a.session_from ≡ 0) × (a.session_end ≡ 0) → (a.held_from ≡ 0) × (a.held_end ≡ 0) → G a s → O (joint a b s) run → G a run
  grows_seat a b s run empty free g o = record { legal = o.legal; seen = prefix_trans a.seen s run g.seen o.seen; covers = covers }
    where
      covers : (k : Key) → Owns a k → many slot_of commit_of may k run ≡ many slot_of commit_of may k a.seen
      covers (slot j) x = o.covers (slot j) x ∙ g.covers (slot j) x
      covers (session n) x = absurd (⊎_elim (λ y. absurd (omega (arith, y.1, empty.1))) (λ y. absurd (omega (arith, y.1, free.1))) x)

  grows_pass : (a b : View E) (s run : List E) → (b.slot_from ≡ 0) × (b.slot_end ≡ 0) → (b.held_from ≡ 0) × (b.held_end ≡ 0) → G b s → O (joint a b s) run → G b run
  grows_pass a b s run empty free g o = record { legal = o.legal; seen = prefix_trans b.seen s run g.seen o.seen; covers = covers }
    where
      covers : (k : Key) → Owns b k → many slot_of commit_of may k run ≡ many slot_of commit_of may k b.seen
      covers (slot j) x = absurd (omega (arith, x.1, empty.1))
      covers (session n) x = ⊎_elim (λ y. o.covers (session n) (inl y) ∙ g.covers (session n) (inl y)) (λ y. absurd (omega (arith, y.1, free.1))) x

  may_put : (i : ℕ) (e : E) (a b : View E) (s : List E) → IsEntitled slot_of commit_of may i e a b → G a s → G b s → MayPut slot_of commit_of may i e (joint a b s)
  may_put i e a b s t ga gb = record {
    told = refl;
    right = (omega (arith, t.slots.0), omega (arith, t.slots.1));
    here = t.here;
    entitled = entitled;
    lawful = λ run o. t.lawful run (grows_seat a b s run t.no_session t.no_held ga o) (grows_pass a b s run t.no_slot t.none_held gb o);
  }
    where
      entitled : (k : Key) → under slot_of commit_of may k e ≡ true → Owns (joint a b s) k
      entitled (slot j) x = let is : slot_of e ≡ j = eqb-true (slot_of e) j x in (omega (arith, t.slots.0, t.here, is), omega (arith, t.slots.1, t.here, is))
      entitled (session n) x = inl (t.session n x)

  pub may_put_after : (i : ℕ) (e : E) (a b a1 b1 a2 : Me E (View E)) → IsEntitled slot_of commit_of may i e a.0 b.0
      → Agrees slot_of commit_of may a b a1 b1 → a2 ≡ (borrows a1.0 (sessions_of b1.0), a1.1) → MayPut slot_of commit_of may i e a2.0
  may_put_after i e a b a1 b1 a2 t g is =
      let a2_is : a2 ≡ (joint a.0 b.0 g.0, a.1) = is ∙ ap₂ (λ (x y : Me E (View E)). let r : Me E (View E) = (borrows x.0 (sessions_of y.0), x.1) in r) g.1 g.2 in
      subst (λ (z : Me E (View E)). MayPut slot_of commit_of may i e z.0) (sym a2_is) (may_put i e a.0 b.0 g.0 t g.3 g.4)

  pub appends_both : (i : ℕ) (e : E) (a b a1 b1 a2 b2 a3 a4 b4 : Me E (View E)) → IsEntitled slot_of commit_of may i e a.0 b.0
      → Agrees slot_of commit_of may a b a1 b1 → b2 ≡ (without_sessions b1.0, b1.1) → a2 ≡ (borrows a1.0 (sessions_of b1.0), a1.1)
      → PutsEntry slot_of commit_of may e a2 a3 → a4 ≡ (without_sessions a3.0, a3.1) → b4 ≡ (returns b2.0 (sessions_of a3.0), b2.1)
      → AppendsBoth slot_of commit_of may e a b a4 b4
  appends_both i e a b a1 b1 a2 b2 a3 a4 b4 t g b2_eq a2_eq put a4_eq b4_eq =
      let s = g.0 in
      let a2_is : a2 ≡ (joint a.0 b.0 s, a.1) = a2_eq ∙ ap₂ (λ (x y : Me E (View E)). let r : Me E (View E) = (borrows x.0 (sessions_of y.0), x.1) in r) g.1 g.2 in
      let b2_is : b2 ≡ (without_sessions (seeing b.0 s), b.1) = b2_eq ∙ ap (λ (x : Me E (View E)). let r : Me E (View E) = (without_sessions x.0, x.1) in r) g.2 in
      let p = subst (λ (z : Me E (View E)). PutsEntry slot_of commit_of may e z a3) a2_is put in
      let run = p.0 in
      let all : List E = run ++ e ∷ [] in
      let a4_is : a4 ≡ (without_sessions (seeing (joint a.0 b.0 s) all), a.1) =
      a4_eq ∙ ap (λ (x : Me E (View E)). let r : Me E (View E) = (without_sessions x.0, x.1) in r) p.1 in
      let b4_is : b4 ≡ (
        record (seeing b.0 all) {
          held_from =
              0;
          held_end = 0;
        },
        b.1,
      ) = b4_eq ∙ ap₂ (λ (x y : Me E (View E)). let r : Me E (View E) = (returns x.0 (sessions_of y.0), x.1) in r) b2_is p.1 in
      let less : (without_sessions (seeing (joint a.0 b.0 s) all)) ≡ seeing a.0 all =
      λ j. record (seeing a.0 all)
      { session_from = sym t.no_session.0 j; session_end = sym t.no_session.1 j; held_from = sym t.no_held.0 j; held_end = sym t.no_held.1 j } in
      let free : record (seeing b.0 all) {
        held_from =
            0;
        held_end = 0;
      } ≡ seeing b.0 all = λ j. record (seeing b.0 all) { held_from = sym t.none_held.0 j; held_end = sym t.none_held.1 j } in (
        run,
        a4_is ∙ ap (λ (v : View E). let r : Me E (View E) = (v, a.1) in r) less,
        b4_is ∙ ap (λ (v : View E). let r : Me E (View E) = (v, b.1) in r) free,
        grows_seat a.0 b.0 s run t.no_session t.no_held g.3 p.2,
        grows_pass a.0 b.0 s run t.no_slot t.none_held g.4 p.2,
        p.3,
      )

  pub put_count : (i found : ℕ) (e : E) (a b a1 b1 a2 : Me E (View E)) → IsEntitled slot_of commit_of may i e a.0 b.0 → Agrees slot_of commit_of may a b a1 b1
      → ((a.0.slot_from ≤ i) × (i < a.0.slot_end) → found ≡ many slot_of commit_of may (slot i) a1.0.seen)
      → many slot_of commit_of may (slot i) a.0.seen < 2 ^ 63 → a2 ≡ (borrows a1.0 (sessions_of b1.0), a1.1)
      → (found ≡ many slot_of commit_of may (slot i) a2.0.seen) × (found < 2 ^ 63)
  put_count i found e a b a1 b1 a2 t g f low is =
      let owns : Owns a.0 (slot i) = (omega (arith, t.slots.0), omega (arith, t.slots.1)) in
      let here = f owns in
      let a1_seen : many slot_of commit_of may (slot i) a1.0.seen ≡ many slot_of commit_of may (slot i) g.0 =
      ap (λ (z : Me E (View E)). many slot_of commit_of may (slot i) z.0.seen) g.1 in
      let same : found ≡ many slot_of commit_of may (slot i) a.0.seen = here ∙ a1_seen ∙ g.3.covers (slot i) owns in
      (here ∙ ap (λ (z : Me E (View E)). many slot_of commit_of may (slot i) z.0.seen) (sym is), subst (λ (n : ℕ). n < 2 ^ 63) (sym same) low)

  pub returns_seen : (e : E) (a b a1 b1 a2 b2 a3 : Me E (View E)) → Agrees slot_of commit_of may a b a1 b1 → b2 ≡ (without_sessions b1.0, b1.1)
      → a2 ≡ (borrows a1.0 (sessions_of b1.0), a1.1) → PutsEntry slot_of commit_of may e a2 a3 → IsPrefix b2.0.seen a3.0.seen
  returns_seen e a b a1 b1 a2 b2 a3 g b2_eq a2_eq put =
      let seen : Me E (View E) → List E = λ z. z.0.seen in
      let same : a2.0.seen ≡ b2.0.seen = ap seen a2_eq ∙ ap seen g.1 ∙ sym (ap seen b2_eq ∙ ap seen g.2) in
      let all : IsPrefix a2.0.seen (put.0 ++ e ∷ []) = prefix_more a2.0.seen put.0 (e ∷ []) put.2.seen in
      subst (λ (x : List E). IsPrefix x a3.0.seen) same (subst (λ (x : List E). IsPrefix a2.0.seen x) (sym (ap seen put.1)) all)

  -- the exchange is told of the entry that it was called with
  pub puts : (slots i old new found : ℕ) (e : E) (m n : Me E (View E)) → Appends slot_of commit_of may (step slots i old new (some e)) m found n
      → PutsEntry slot_of commit_of may e m n
  puts slots i old new found e m n h =
      let same : e ≡ h.1 = some-injective e h.1 h.2 in
      subst (λ (x : E). PutsEntry slot_of commit_of may x m n) (sym same) (h.0, h.3, h.4, h.5)

  -- a seat that was opened has seen what its parent has
  pub opened : (i found : ℕ) (v p : View E) (m n : Me E (View E)) → v.seen ≡ [] → m ≡ (hears (first_session v) (noted p), []) → S i m found n
      → (n ≡ (seeing (first_session v) p.seen, [])) × G (first_session v) p.seen
  opened i found v p m n blank m_is x =
      let h = subst (λ (z : Me E (View E)). S i z found n) m_is x in
      let run = h.0 in
      let same : run ≡ p.seen = ⊎_elim
      (λ (e : run ≡ v.seen). let none : run ≡ [] = e ∙ blank in prefix_both run p.seen (subst (λ (r : List E). IsPrefix r p.seen) (sym none) (p.seen, refl)) h.2.told)
      (λ (e : run ≡ p.seen). e) h.3 in
      (subst (λ (r : List E). n ≡ (seeing (first_session v) r, [])) same h.1, subst (λ (r : List E). G (first_session v) r) same (heard (first_session v) (noted p) run h.2))

  -- a seat that was lent another's sessions was told that they aren't its own
  pub alongside : (i found : ℕ) (a b a1 a2 : Me E (View E)) → a1 ≡ (holding a.0 (sessions_of b.0), a.1) → S i a1 found a2
      → (a2 ≡ (holding a.0 (sessions_of b.0), a.1)) × NoneLentIsOwn (holding a.0 (sessions_of b.0))
  alongside i found a b a1 a2 is x =
      let h = subst (λ (z : Me E (View E)). S i z found a2) is x in
      let run = h.0 in
      let same : run ≡ a.0.seen = ⊎_elim
      (λ (e : run ≡ a.0.seen). e)
      (λ (e : run ≡ []). sym (prefix_both a.0.seen run h.2.seen (subst (λ (r : List E). IsPrefix r a.0.seen) (sym e) (a.0.seen, refl)))) h.3 in
      (subst (λ (r : List E). a2 ≡ (seeing (holding a.0 (sessions_of b.0)) r, a.1)) same h.1, h.5)

  pub lets_go_after : (i found : ℕ) (a b a1 a2 : Me E (View E)) → a1 ≡ (holding a.0 (sessions_of b.0), a.1) → S i a1 found a2 → NoneLentIsOwn a2.0
  lets_go_after i found a b a1 a2 is x = let h = alongside i found a b a1 a2 is x in subst (λ (z : Me E (View E)). NoneLentIsOwn z.0) (sym h.0) h.1

  pub let_go_seen : (i found : ℕ) (a b a1 a2 b1 r : Me E (View E)) → b.0.seen ≡ a.0.seen → b1 ≡ (without_sessions b.0, b.1)
      → a1 ≡ (holding a.0 (sessions_of b.0), a.1) → S i a1 found a2 → r ≡ (held_of a2.0, []) → IsPrefix b1.0.seen r.0.seen
  let_go_seen i found a b a1 a2 b1 r same b1_is is x r_is =
      let h = alongside i found a b a1 a2 is x in
      let seen : Me E (View E) → List E = λ z. z.0.seen in
      let all : b1.0.seen ≡ r.0.seen = ap seen b1_is ∙ same ∙ sym (ap seen r_is ∙ ap seen h.0) in
      subst (λ (l : List E). IsPrefix b1.0.seen l) all (prefix_self b1.0.seen)

  pub parted : (i found : ℕ) (a b a1 a2 a3 b1 b2 r : Me E (View E)) → IsPlain a.0 → IsPlain b.0 → b.0.seen ≡ a.0.seen
      → b1 ≡ (without_sessions b.0, b.1) → a1 ≡ (holding a.0 (sessions_of b.0), a.1) → S i a1 found a2 → r ≡ (held_of a2.0, [])
      → a3 ≡ (without_held a2.0, a2.1) → b2 ≡ (returns b1.0 r.0, b1.1) → (a3 ≡ a) × (b2 ≡ b) × NoCommon a.0 b.0
  parted i found a b a1 a2 a3 b1 b2 r pa pb same b1_is a1_is x r_is a3_is b2_is =
      let W : Type 0 = Me E (View E) in
      let h = alongside i found a b a1 a2 a1_is x in
      let a3_now : a3 ≡ (without_held (holding a.0 (sessions_of b.0)), a.1) = a3_is ∙ ap (λ (z : W). let m : W = (without_held z.0, z.1) in m) h.0 in
      let r_now : r ≡ (held_of (holding a.0 (sessions_of b.0)), []) = r_is ∙ ap (λ (z : W). let m : W = (held_of z.0, []) in m) h.0 in
      let b2_now : b2 ≡ (returns (without_sessions b.0) (held_of (holding a.0 (sessions_of b.0))), b.1) =
      b2_is ∙ ap₂ (λ (y z : W). let m : W = (returns y.0 z.0, y.1) in m) b1_is r_now in
      let a_back : without_held (holding a.0 (sessions_of b.0)) ≡ a.0 =
      λ j. record a.0 { told = sym pa.told j; held_from = sym pa.no_held.0 j; held_end = sym pa.no_held.1 j } in
      let b_back : returns (without_sessions b.0) (held_of (holding a.0 (sessions_of b.0))) ≡ b.0 =
      λ j. record b.0 { seen = sym same j; told = sym pb.told j; held_from = sym pb.no_held.0 j; held_end = sym pb.no_held.1 j } in (
        a3_now ∙ ap (λ (v : View E). let m : W = (v, a.1) in m) a_back,
        b2_now ∙ ap (λ (v : View E). let m : W = (v, b.1) in m) b_back,
        h.1,
      )

  pub plain_after : (a b a1 b1 : Me E (View E)) → NoneHeld a.0 → NoneHeld b.0 → Agrees slot_of commit_of may a b a1 b1
      → IsPlain a1.0 × IsPlain b1.0 × (b1.0.seen ≡ a1.0.seen)
  plain_after a b a1 b1 ha hb g =
      let W : Type 0 = Me E (View E) in
      let pa : IsPlain (seeing a.0 g.0) = record { told = refl; no_held = ha } in
      let pb : IsPlain (seeing b.0 g.0) = record { told = refl; no_held = hb } in
      let seen : W → List E = λ z. z.0.seen in
      (subst (λ (z : W). IsPlain z.0) (sym g.1) pa, subst (λ (z : W). IsPlain z.0) (sym g.2) pb, ap seen g.2 ∙ sym (ap seen g.1))

  pub apart_before : (a b a1 b1 : Me E (View E)) → Agrees slot_of commit_of may a b a1 b1 → NoCommon a1.0 b1.0 → NoCommon a.0 b.0
  apart_before a b a1 b1 g n =
      let W : Type 0 = Me E (View E) in
      subst (λ (z : W). NoCommon (seeing a.0 g.0) z.0) g.2 (subst (λ (z : W). NoCommon z.0 b1.0) g.1 n)

  pub agrees_still : (a b a1 b1 a2 b2 : Me E (View E)) → a2 ≡ a1 → b2 ≡ b1 → Agrees slot_of commit_of may a b a1 b1 → Agrees slot_of commit_of may a b a2 b2
  agrees_still a b a1 b1 a2 b2 p q g = (g.0, p ∙ g.1, q ∙ g.2, g.3, g.4, g.5)
