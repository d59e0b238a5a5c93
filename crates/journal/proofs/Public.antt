-- What the steps tell, in the words of the public clauses.
use Rattle.std.proofs.Math.Seq.{take-append_seam, get_or-append_seam}
use Rattle.std.proofs.Common.{◌≤◌, take, slice_index_or, length-append, zero, suc, ◌≡◌, ◌⊎◌, ℕ, ◌+◌, ◌<◌, ◌^◌, Bool, true, false, true≢false, List}
use Rattle.std.proofs.Common.{[], ◌∷◌, ◌++◌, length, Option, Some, None, refl, ap, sym, ◌∙◌, subst, inl, inr, ⊎_elim, arith}
use Rattle.std.specs.List.{All, filter, count_by}
use Rattle.std.proofs.lemmas.List.{append-nil}
use Rattle.std.proofs.lemmas.List.Elements.{filter-append, All-append, All-nil, All-cons}
use Rattle.std.proofs.lemmas.List.Sums.{length-filter}
use Rattle.std.proofs.lemmas.Bool.{eqb-true, cases_lt}
use mathlib.Core.List.{IsPrefix}
use Rattle.atomic_table.specs.Table.{Me}
use Rattle.journal.specs.declared.rule.View.{View}
use Rattle.journal.specs.Runs.{IsLegal, on_slot, of_session, number_of, by_session, NumbersBelow}
use Rattle.journal.specs.Rules.{slot, session, Owns, first_session, seeing, hears, noted, IsCovered}
use Rattle.journal.specs.inner.Steps.{Grows, looking}
use Rattle.journal.specs.Held.{OfNumber, IsPass, IsSeat, IsOpener, pass_view, seat_view}
use Rattle.journal.specs.inner.Steps.{IsEntitled}
use Rattle.journal.specs.Views.{PassView, SeatView, IsLater, IsLonger, fresh_seats}
use Rattle.journal.proofs.Counts.{count-append, count_prefix}
use Rattle.journal.proofs.Fronts.{prefix_trans}

module _ {A : Type 0} where
  option_cases : (o : Option A) → (o ≡ None) ⊎ ((a : A) × (o ≡ Some a))
  option_cases None = inl refl
  option_cases (Some a) = inr (a, refl)

  nothing_left : (xs : List A) → length xs ≡ 0 → xs ≡ []
  nothing_left [] e = refl
  nothing_left (x ∷ xs) e = absurd (omega arith)

  -- no more of them in the longer list
  pub filter_same : (p : A → Bool) (xs ys : List A) → IsPrefix xs ys → count_by p ys ≡ count_by p xs → filter p ys ≡ filter p xs
  filter_same p xs ys h same =
      let t = h.0 in
      let all : count_by p ys ≡ count_by p xs + count_by p t = ap (count_by p) (sym h.1) ∙ count-append p xs t in
      let none : length (filter p t) ≡ 0 = length-filter p t ∙ omega arith in
      ap (filter p) (sym h.1) ∙ filter-append p xs t ∙ ap (λ (l : List A). filter p xs ++ l) (nothing_left (filter p t) none) ∙ append-nil (filter p xs)

module _ {E : Type 0} (slot_of : E → ℕ) (commit_of : E → Option (ℕ × ℕ)) (may : List E → E → Type 0) where
  owns_number : (number : Option ℕ) (v : View E) (n : ℕ) → OfNumber number v → number ≡ Some n → Owns v (session n)
  owns_number number v n h e =
      let k : (v.session_from ≡ n) × (v.session_end ≡ n + 1) = subst (λ (o : Option ℕ). OfNumber o v) e h in
      inl (omega (arith, k.0), omega (arith, k.1))

  number_range : (number : Option ℕ) (v : View E) (n : ℕ) → OfNumber number v → number ≡ Some n → (v.session_from ≤ n) × (n < v.session_end)
  number_range number v n h e =
      let k : (v.session_from ≡ n) × (v.session_end ≡ n + 1) = subst (λ (o : Option ℕ). OfNumber o v) e h in
      (omega (arith, k.0), omega (arith, k.1))

  same_number : (number : Option ℕ) (v w : View E) → (w.session_from ≡ v.session_from) × (w.session_end ≡ v.session_end) → OfNumber number v → OfNumber number w
  same_number None v w e h = (e.0 ∙ h.0, e.1 ∙ h.1)
  same_number (Some n) v w e h = (e.0 ∙ h.0, e.1 ∙ h.1)

  owns_place : (place : ℕ) (a : Me E (View E)) → IsSeat may place a → Owns a.0 (slot place)
  owns_place place a s = (omega (arith, s.slots.0), omega (arith, s.slots.1))

  own_same : (statements : ℕ) (number : Option ℕ) (b : Me E (View E)) (run : List E) → IsPass commit_of may number statements b
      → Grows slot_of commit_of may b.0 run → (n : ℕ) → number ≡ Some n
      → filter (by_session commit_of n) run ≡ filter (by_session commit_of n) b.0.seen
  own_same statements number b run p g n e = filter_same (by_session commit_of n) b.0.seen run g.seen (g.covers (session n) (owns_number number b.0 n p.session e))

  pub is_later : (place statements : ℕ) (number : Option ℕ) (a b : Me E (View E)) (run : List E) → IsSeat may place a
      → IsPass commit_of may number statements b → Grows slot_of commit_of may a.0 run → Grows slot_of commit_of may b.0 run
      → IsLater slot_of commit_of may (seat_view place a) (pass_view number statements b) run
  is_later place statements number a b run s p ga gb = record {
    legal = ga.legal;
    seat = ga.seen;
    pass = gb.seen;
    alone = filter_same (on_slot slot_of place) a.0.seen run ga.seen (ga.covers (slot place) (owns_place place a s));
    own = own_same statements number b run p gb;
  }

  pub is_longer : (m n : ℕ) (number other : Option ℕ) (a b : Me E (View E)) (run : List E) → IsPass commit_of may number m a
      → IsPass commit_of may other n b → Grows slot_of commit_of may a.0 run → Grows slot_of commit_of may b.0 run
      → ((run ≡ a.0.seen) ⊎ (run ≡ b.0.seen))
      → IsLonger slot_of commit_of may (pass_view number m a) (pass_view other n b) run
  is_longer m n number other a b run p q ga gb one = record {
    legal = ga.legal;
    one = ga.seen;
    other = gb.seen;
    either = one;
    own = own_same m number a run p ga;
    theirs = own_same n other b run q gb;
  }

  pub is_entitled : (place statements : ℕ) (number : Option ℕ) (e : E) (a b : Me E (View E)) → IsSeat may place a
      → IsPass commit_of may number statements b → slot_of e ≡ place → ((c : ℕ × ℕ) → commit_of e ≡ Some c → number ≡ Some c.0)
      → ((run : List E) → IsLater slot_of commit_of may (seat_view place a) (pass_view number statements b) run → may run e)
      → IsEntitled slot_of commit_of may place e a.0 b.0
  is_entitled place statements number e a b s p here mine lawful = record {
    slots = s.slots;
    no_session = s.no_session;
    no_held = s.no_held;
    no_slot = p.no_slot;
    none_held = p.no_held;
    here = here;
    session = λ n is.
        ⊎_elim
        (λ (none : commit_of e ≡ None). absurd (true≢false (sym is ∙ ap (of_session n) none)))
        (λ (some : (c : ℕ × ℕ) × (commit_of e ≡ Some c)).
        let same : some.0.0 ≡ n = eqb-true some.0.0 n (sym (ap (of_session n) some.1) ∙ is) in
        number_range number b.0 n p.session (mine some.0 some.1 ∙ ap Some same))
        (option_cases (commit_of e));
    lawful = λ run ga gb. lawful run (is_later place statements number a b run s p ga gb);
  }

  -- the same from what a caller shows of the seat and the pass
  pub is_entitled_of : (place statements : ℕ) (number : Option ℕ) (e : E) (a b : Me E (View E)) (s : SeatView E) (p : PassView E)
      → seat_view place a ≡ s → pass_view number statements b ≡ p → IsSeat may place a → IsPass commit_of may number statements b
      → slot_of e ≡ s.slot → ((c : ℕ × ℕ) → commit_of e ≡ Some c → (p.session ≡ Some c.0) × (c.1 ≤ p.statements))
      → ((run : List E) → IsLater slot_of commit_of may s p run → may run e) → IsEntitled slot_of commit_of may place e a.0 b.0
  is_entitled_of place statements number e a b s p s_is p_is is_seat is_pass here mine lawful =
      is_entitled place statements number e a b is_seat is_pass (here ∙ sym (ap (λ (x : SeatView E). x.slot) s_is))
      (λ c at. ap (λ (x : PassView E). x.session) p_is ∙ (mine c at).0)
      (λ run later. lawful run (subst (λ (x : SeatView E). IsLater slot_of commit_of may x p run) s_is (subst (λ (x : PassView E). IsLater slot_of commit_of may (seat_view place a) x run) p_is later)))

  pub room_of : (place : ℕ) (a : Me E (View E)) (s : SeatView E) → seat_view place a ≡ s → length (filter (on_slot slot_of s.slot) s.seen) < 2 ^ 63
      → count_by (on_slot slot_of place) a.0.seen < 2 ^ 63
  room_of place a s is low =
      subst (λ (n : ℕ). n < 2 ^ 63)
      (sym (sym (length-filter (on_slot slot_of place) a.0.seen) ∙ ap (λ (x : SeatView E). length (filter (on_slot slot_of x.slot) x.seen)) is)) low

  -- no entry is of a session that was not opened before
  pub fresh_of : (next : ℕ) (v : View E) (run : List E) → v.seen ≡ [] → v.session_from ≡ next → Grows slot_of commit_of may (first_session v) run
      → filter (by_session commit_of next) run ≡ []
  fresh_of next v run blank from grows =
      let owns : Owns (first_session v) (session next) = inl (omega (arith, from), omega (arith, from)) in
      let p : E → Bool = by_session commit_of next in
      filter_same p v.seen run grows.seen (grows.covers (session next) owns) ∙ ap (filter p) blank

  -- nor is one of a session that isn't opened yet
  pub unopened : (next : ℕ) (a : Me E (View E)) (w : View E) (seen : List E) → IsOpener next a → w.seen ≡ seen
      → IsCovered slot_of commit_of may (hears a.0 (noted w)) → (n : ℕ) → next ≤ n → filter (by_session commit_of n) seen ≡ []
  unopened next a w seen is same covered n from =
      let p : E → Bool = by_session commit_of n in
      let none : count_by p w.seen ≡ 0 =
      ⊎_elim
      (λ (low : n < 2 ^ 62).
      let owns : Owns (hears a.0 (noted w)) (session n) = inl (omega (arith, is.sessions.0, from), omega (arith, is.sessions.1, low)) in
      let few = covered.covers (session n) owns in
      let blank : count_by p a.0.seen ≡ 0 = ap (count_by p) is.blank in omega (arith, few, blank))
      (λ (high : 2 ^ 62 ≤ n). covered.unused n high) (cases_lt n (2 ^ 62)) in
      nothing_left (filter p seen) (length-filter p seen ∙ ap (count_by p) (sym same) ∙ none)

  -- a pass that was told of a longer run was told of no more commits of its session
  pub own_confirmed : (statements : ℕ) (number : Option ℕ) (a : Me E (View E)) (w : View E) (mine theirs : List E) → IsPass commit_of may number statements a
      → a.0.seen ≡ mine → w.seen ≡ theirs
      → IsCovered slot_of commit_of may (hears a.0 (noted w)) → (n : ℕ) → number ≡ Some n → IsPrefix mine theirs
      → filter (by_session commit_of n) theirs ≡ filter (by_session commit_of n) mine
  own_confirmed statements number a w mine theirs is mine_is theirs_is covered n e longer =
      let p : E → Bool = by_session commit_of n in
      let owns : Owns (hears a.0 (noted w)) (session n) = owns_number number (hears a.0 (noted w)) n (same_number number a.0 (hears a.0 (noted w)) (refl, refl) is.session) e in
      let few : count_by p w.seen ≤ count_by p a.0.seen = covered.covers (session n) owns in
      let here : count_by p a.0.seen ≡ count_by p mine = ap (count_by p) mine_is in
      let there : count_by p w.seen ≡ count_by p theirs = ap (count_by p) theirs_is in
      filter_same p mine theirs longer (omega (arith, few, here, there, count_prefix p mine theirs longer))

  pub numbers_kept : (statements : ℕ) (number : Option ℕ) (b : Me E (View E)) (run : List E) → IsPass commit_of may number statements b
      → Grows slot_of commit_of may b.0 run → (n : ℕ) → number ≡ Some n → NumbersBelow commit_of n (statements + 1) run
  numbers_kept statements number b run p g n e =
      subst (λ (l : List E). All (λ x. number_of (commit_of x) < statements + 1) l) (sym (own_same statements number b run p g n e)) (p.numbers n e)

  -- at an entry whose number was given out
  numbers_one : (most n : ℕ) (e : E) → ((c : ℕ × ℕ) → commit_of e ≡ Some c → c.1 < most) → (b : Bool) → by_session commit_of n e ≡ b
      → All (λ x. number_of (commit_of x) < most) (filter (by_session commit_of n) (e ∷ []))
  numbers_one most n e low true is =
      let one : filter (by_session commit_of n) (e ∷ []) ≡ e ∷ [] = rw is refl in
      let here : number_of (commit_of e) < most =
      ⊎_elim
      (λ (none : commit_of e ≡ None). absurd (true≢false (sym is ∙ ap (of_session n) none)))
      (λ (some : (c : ℕ × ℕ) × (commit_of e ≡ Some c)). subst (λ (o : Option (ℕ × ℕ)). number_of o < most) (sym some.1) (low some.0 some.1))
      (option_cases (commit_of e)) in
      subst (λ (l : List E). All (λ x. number_of (commit_of x) < most) l) (sym one)
      (All-cons (λ (x : E). number_of (commit_of x) < most) e [] here (All-nil (λ (x : E). number_of (commit_of x) < most)))
  numbers_one most n e low false is =
      let none : filter (by_session commit_of n) (e ∷ []) ≡ [] = rw is refl in
      subst (λ (l : List E). All (λ x. number_of (commit_of x) < most) l) (sym none) (All-nil (λ (x : E). number_of (commit_of x) < most))

  pub numbers_more : (statements : ℕ) (number : Option ℕ) (e : E) (b : Me E (View E)) (run : List E) → IsPass commit_of may number statements b
      → Grows slot_of commit_of may b.0 run
      → ((c : ℕ × ℕ) → commit_of e ≡ Some c → c.1 ≤ statements) → (n : ℕ) → number ≡ Some n → NumbersBelow commit_of n (statements + 1) (run ++ e ∷ [])
  numbers_more statements number e b run p g low n is =
      let Q : E → Type 0 = λ x. number_of (commit_of x) < statements + 1 in
      let t : E → Bool = by_session commit_of n in
      let below : (c : ℕ × ℕ) → commit_of e ≡ Some c → c.1 < statements + 1 = λ c at. omega (arith, low c at) in
      subst (All Q) (sym (filter-append t run (e ∷ [])))
      (All-append Q (filter t run) (filter t (e ∷ [])) (numbers_kept statements number b run p g n is) (numbers_one (statements + 1) n e below (t e) refl))

  -- of a pass that has seen more, and of one that has seen an entry of its own
  pub pass_grown : (statements : ℕ) (number : Option ℕ) (b b' : Me E (View E)) (run : List E) (v : View E) → b' ≡ (v, b.1) → v.seen ≡ run
      → v.told ≡ [] → (v.slot_from ≡ b.0.slot_from) × (v.slot_end ≡ b.0.slot_end)
      → (v.session_from ≡ b.0.session_from) × (v.session_end ≡ b.0.session_end) × (v.held_from ≡ b.0.held_from) × (v.held_end ≡ b.0.held_end)
      → IsPass commit_of may number statements b → IsLegal may run → ((n : ℕ) → number ≡ Some n → NumbersBelow commit_of n (statements + 1) run)
      → IsPass commit_of may number statements b'
  pass_grown statements number b b' run v is seen told slots sessions p legal numbers =
      let F : Me E (View E) → Type 0 = IsPass commit_of may number statements in
      let made : IsPass commit_of may number statements (v, b.1) = record {
        legal = subst (IsLegal may) (sym seen) legal;
        told = told;
        none_out = p.none_out;
        no_slot = (slots.0 ∙ p.no_slot.0, slots.1 ∙ p.no_slot.1);
        session = same_number number b.0 v (sessions.0, sessions.1) p.session;
        no_held = (sessions.2 ∙ p.no_held.0, sessions.3 ∙ p.no_held.1);
        numbers = λ n e. subst (λ (l : List E). NumbersBelow commit_of n (statements + 1) l) (sym seen) (numbers n e);
      } in
      subst F (sym is) made

  pub seen_pass : (statements : ℕ) (number : Option ℕ) (b b' : Me E (View E)) (run : List E) → b' ≡ (seeing b.0 run, b.1)
      → IsPass commit_of may number statements b → Grows slot_of commit_of may b.0 run → IsPass commit_of may number statements b'
  seen_pass statements number b b' run is p g =
      pass_grown statements number b b' run (seeing b.0 run) is refl refl (refl, refl) (refl, refl, refl, refl) p g.legal
      (numbers_kept statements number b run p g)

  pub looked_pass : (statements i : ℕ) (number : Option ℕ) (b b' : Me E (View E)) (run : List E) → b' ≡ (looking b.0 i run, b.1)
      → IsPass commit_of may number statements b → Grows slot_of commit_of may b.0 run → IsPass commit_of may number statements b'
  looked_pass statements i number b b' run is p g =
      pass_grown statements number b b' run (looking b.0 i run) is refl refl (refl, refl) (refl, refl, refl, refl) p g.legal
      (numbers_kept statements number b run p g)

  pub absorbed_pass : (statements : ℕ) (number : Option ℕ) (looks : List (ℕ × ℕ)) (b b' : Me E (View E))
      → b' ≡ (record b.0 { told = []; looks = looks }, b.1) → IsPass commit_of may number statements b → IsPass commit_of may number statements b'
  absorbed_pass statements number looks b b' is p =
      pass_grown statements number b b' b.0.seen (record b.0 { told = []; looks = looks }) is refl refl (refl, refl) (refl, refl, refl, refl) p
      p.legal p.numbers

  pub appended_pass : (statements : ℕ) (number : Option ℕ) (e : E) (b b' : Me E (View E)) (run : List E) → b' ≡ (seeing b.0 (run ++ e ∷ []), b.1)
      → IsPass commit_of may number statements b → Grows slot_of commit_of may b.0 run → IsLegal may (run ++ e ∷ [])
      → ((c : ℕ × ℕ) → commit_of e ≡ Some c → c.1 ≤ statements) → IsPass commit_of may number statements b'
  appended_pass statements number e b b' run is p g legal low =
      pass_grown statements number b b' (run ++ e ∷ []) (seeing b.0 (run ++ e ∷ [])) is refl refl (refl, refl) (refl, refl, refl, refl) p legal
      (numbers_more statements number e b run p g low)

  pub opened_pass : (next : ℕ) (v : View E) (n : Me E (View E)) (run : List E) → v.seen ≡ [] → v.session_from ≡ next
      → n ≡ (seeing (first_session v) run, []) → Grows slot_of commit_of may (first_session v) run → IsPass commit_of may (Some next) 0 n
  opened_pass next v n run blank from is g =
      let fresh = fresh_of next v run blank from g in
      let made : IsPass commit_of may (Some next) 0 (seeing (first_session v) run, []) = record {
        legal = g.legal;
        told = refl;
        none_out = refl;
        no_slot = (refl, refl);
        session = (from, ap (λ (x : ℕ). x + 1) from);
        no_held = (refl, refl);
        numbers = λ m e.
            let same : next ≡ m = cc e in
            let none : filter (by_session commit_of m) run ≡ [] = subst (λ (x : ℕ). filter (by_session commit_of x) run ≡ []) same fresh in
            subst (λ (l : List E). All (λ x. number_of (commit_of x) < 1) l) (sym none) (All-nil (λ (x : E). number_of (commit_of x) < 1));
      } in
      subst (λ (m : Me E (View E)). IsPass commit_of may (Some next) 0 m) (sym is) made

  -- what comes later than a run that was seen comes later than what was seen before
  pub later_trans : (s s' : SeatView E) (p p' : PassView E) (run : List E) → IsLater slot_of commit_of may s p s'.seen → s'.slot ≡ s.slot
      → p'.seen ≡ s'.seen → p'.session ≡ p.session → IsLater slot_of commit_of may s' p' run → IsLater slot_of commit_of may s p run
  later_trans s s' p p' run a slots seen sessions b = record {
    legal = b.legal;
    seat = prefix_trans s.seen s'.seen run a.seat b.seat;
    pass = prefix_trans p.seen s'.seen run a.pass b.seat;
    alone = subst (λ (i : ℕ). filter (on_slot slot_of i) run ≡ filter (on_slot slot_of i) s'.seen) slots b.alone ∙ a.alone;
    own = λ n e. b.own n (sessions ∙ e) ∙ ap (filter (by_session commit_of n)) seen ∙ a.own n e;
  }

  -- a number above those of the session's commits that were seen stays above them in a later run
  pub numbers_later : (s : SeatView E) (p q : PassView E) (run : List E) (n k : ℕ) → q.session ≡ Some n → q.seen ≡ p.seen
      → NumbersBelow commit_of n k p.seen → IsLater slot_of commit_of may s q run → NumbersBelow commit_of n k run
  numbers_later s p q run n k mine same below later =
      let F : List E → List E = filter (by_session commit_of n) in
      subst (All (λ (x : E). number_of (commit_of x) < k)) (sym (later.own n mine ∙ ap F same)) below

module _ (E : Type 0) where
  pub length-fresh_seats : (n : ℕ) → length (fresh_seats {E = E} n) ≡ n
  length-fresh_seats zero = refl
  length-fresh_seats (suc n) = omega (arith, length-append (fresh_seats {E = E} n) (record { seen = []; slot = n } ∷ []), length-fresh_seats n)

  -- the last of the first seats, and the seats before it
  pub last_fresh : (n m : ℕ) (d : SeatView E) → m ≡ suc n → slice_index_or (fresh_seats {E = E} m) n d ≡ record { seen = []; slot = n }
  last_fresh n m d is =
      let one : SeatView E = record { seen = []; slot = n } in
      let xs : List (SeatView E) = fresh_seats n in
      subst (λ (k : ℕ). slice_index_or (fresh_seats {E = E} k) n d ≡ one) (sym is)
      (subst (λ (k : ℕ). slice_index_or (xs ++ one ∷ []) k d ≡ one) (length-fresh_seats n) (get_or-append_seam xs one [] d))

  pub take_fresh : (n m : ℕ) → m ≡ suc n → take n (fresh_seats {E = E} m) ≡ fresh_seats {E = E} n
  take_fresh n m is =
      let one : SeatView E = record { seen = []; slot = n } in
      let xs : List (SeatView E) = fresh_seats n in
      subst (λ (k : ℕ). take n (fresh_seats {E = E} k) ≡ xs) (sym is)
      (subst (λ (k : ℕ). take k (xs ++ one ∷ []) ≡ xs) (length-fresh_seats n) (take-append_seam xs (one ∷ [])))
