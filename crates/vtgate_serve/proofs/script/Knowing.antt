-- Each commit is of a session of the script whose pass has seen it: so none comes between that isn't of the session of the line.
use Rattle.std.proofs.Common.{◌≡◌, ◌⊎◌, ℕ, zero, suc, ◌+◌, ◌<◌, ◌≤◌, Bool, true, false, cond, List, [], ◌∷◌, ◌++◌, length, get_or, set, filter, Option, Some, None, refl, sym, ap, subst, ◌∙◌, inl, inr, ⊎_elim, arith}
use Rattle.std.specs.List.{AllByRecursion}
use Rattle.std.proofs.lemmas.Bool.{eq-eqb, cases_lt, cases_eq}
use Rattle.std.proofs.lemmas.List.{append-nil, append_cancel_left, length-append, length-set, get_or-set_same, get_or-set_other, get_or_default, set-get_or}
use Rattle.std.proofs.lemmas.List.Elements.{filter-append}
use mathlib.Core.List.{IsPrefix}
use Rattle.vschema.specs.WellFormed.{is_vschema}
use Rattle.journal.specs.Runs.{IsLegal, of_session, by_session}
use Rattle.journal.specs.Views.{PassView, new_pass}
use Rattle.shard_run.specs.declared.Entry.{Entry}
use Rattle.shard_run.specs.Runs.{Run, Opening}
use Rattle.shard_run.specs.Openings.{IsOpening}
use Rattle.shard_law.proofs.Lists.{In, In-filter}
use Rattle.shard_law.specs.Entries.{MayFollow, commit_of}
use Rattle.vtgate_clients.specs.ShardCallsAlone.{IsNoOthers, NoOthers, NoCommits}
use Rattle.vtgate_clients.specs.Pendings.{OpenView}
use Rattle.vtgate_clients.specs.Means.{PassAndTransaction}
use Rattle.vtgate_serve.specs.script.Scripted.{met}
use Rattle.vtgate_serve.specs.script.inner.UnderWay.{KeptState, KeptSession, PrintsFrom, PrintsHere, KnowsOwn, IsKnown, HasSeenLess}
use Rattle.vtgate_serve.proofs.script.Among.{prints_among}

abbrev of : ℕ → List Entry → List Entry
of n run = filter (by_session commit_of n) run

-- ---- what was added

-- of sessions with no more commits
none_added : (n : ℕ) (seen added then : Run) → then ≡ seen ++ added → of n then ≡ of n seen → of n added ≡ []
none_added n seen added then is same =
    append_cancel_left (of n seen) (of n added) []
    (sym (filter-append (by_session commit_of n) seen added) ∙ ap (of n) (sym is) ∙ same ∙ sym (append-nil (of n seen)))

is_of : (e : Entry) (c : ℕ × ℕ) → commit_of e ≡ Some c → by_session commit_of c.0 e ≡ true
is_of e c is = ap (of_session c.0) is ∙ eq-eqb c.0 c.0 refl

not_of : (e : Entry) (added : List Entry) (c : ℕ × ℕ) → commit_of e ≡ Some c → of c.0 (e ∷ added) ≡ [] → ⊥
not_of e added c is none = subst (In e) none (In-filter (by_session commit_of c.0) e (is_of e c is) (e ∷ added) (inl refl))

none_after : (n : ℕ) (e : Entry) (added : List Entry) → of n (e ∷ added) ≡ [] → of n added ≡ []
none_after n e added none = by (by_session commit_of n e) none
  where
    by : (b : Bool) → cond b (e ∷ of n added) (of n added) ≡ [] → of n added ≡ []
    by true some = absurd (cc some)
    by false rest = rest

no_others : (n : ℕ) (added : List Entry) → ((k : ℕ) → (k ≡ n → ⊥) → of k added ≡ []) → AllByRecursion (IsNoOthers n) added
no_others n [] none = tt
no_others n (e ∷ added) none = (
  (λ c is. ⊎_elim (λ (same : c.0 ≡ n). same) (λ (other : c.0 ≡ n → ⊥). absurd (not_of e added c is (none c.0 other))) (cases_eq c.0 n)),
  no_others n added (λ k other. none_after k e added (none k other)),
)

nothing : (added : List Entry) → ((k : ℕ) → of k added ≡ []) → AllByRecursion (λ e. commit_of e ≡ None) added
nothing [] none = tt
nothing (e ∷ added) none = (by (commit_of e) refl, nothing added (λ k. none_after k e added (none k)))
  where
    by : (c : Option (ℕ × ℕ)) → commit_of e ≡ c → commit_of e ≡ None
    by None is = is
    by (Some c) is = absurd (not_of e added c is (none c.0))

-- ---- a session is opened

at_push : {X : Type 0} (xs : List X) (x : X) (k : ℕ) (d : X) → k < length (xs ++ x ∷ [])
    → ((k < length xs) × (get_or (xs ++ x ∷ []) k d ≡ get_or xs k d)) ⊎ ((k ≡ length xs) × (get_or (xs ++ x ∷ []) k d ≡ x))
at_push [] x zero d low = inr (refl, refl)
at_push [] x (suc k) d low = absurd (omega (arith, low))
at_push (y ∷ xs) x zero d low = inl (omega arith, refl)
at_push {X} (y ∷ xs) x (suc k) d low =
    ⊎_elim
    (λ (h : (k < length xs) × (get_or (xs ++ x ∷ []) k d ≡ get_or xs k d)). let l = h.0 in inl (omega (arith, l), h.1))
    (λ (h : (k ≡ length xs) × (get_or (xs ++ x ∷ []) k d ≡ x)). inr (ap suc h.0, h.1))
    (at_push xs x k d (omega (arith, low)))

abbrev fresh : Run → ℕ → List ℕ → KeptSession
fresh seen number name = record { name = name; kept = record { pass = new_pass seen (Some number); tx = None } }

pub known_opened : (opened : ℕ) (seen : Run) (xs : List KeptSession) (name : List ℕ) → opened ≡ length xs → IsKnown opened seen xs
    → IsKnown (opened + 1) seen (xs ++ fresh seen opened name ∷ [])
known_opened opened seen xs name many known = record {
  numbered = λ k d low.
      ⊎_elim
      (λ (h : (k < length xs) × (get_or (xs ++ fresh seen opened name ∷ []) k d ≡ get_or xs k d)).
      ap (λ (x : KeptSession). x.kept.pass.session) h.1 ∙ known.numbered k d h.0)
      (λ (h : (k ≡ length xs) × (get_or (xs ++ fresh seen opened name ∷ []) k d ≡ fresh seen opened name)).
      ap (λ (x : KeptSession). x.kept.pass.session) h.1 ∙ ap (λ (n : ℕ). Some n) (many ∙ sym h.0))
      (at_push xs (fresh seen opened name) k d low);
  own = λ k d low.
      ⊎_elim
      (λ (h : (k < length xs) × (get_or (xs ++ fresh seen opened name ∷ []) k d ≡ get_or xs k d)). subst (KnowsOwn seen) (sym h.1) (known.own k d h.0))
      (λ (h : (k ≡ length xs) × (get_or (xs ++ fresh seen opened name ∷ []) k d ≡ fresh seen opened name)). subst (KnowsOwn seen) (sym h.1) (λ n e. refl))
      (at_push xs (fresh seen opened name) k d low);
  unopened = λ n high. known.unopened n (omega (arith, high));
}

-- ---- what the sessions of a script keep

abbrev pub AreUnderWay : Opening → ℕ → Run → List KeptSession → Type 0
AreUnderWay o opened seen xs = (opened ≡ length xs) × AllByRecursion (HasSeenLess o seen) xs × IsKnown opened seen xs

pub same_way : (o : Opening) (opened opened' : ℕ) (seen seen' : Run) (xs xs' : List KeptSession) → opened' ≡ opened → seen' ≡ seen → xs' ≡ xs
    → AreUnderWay o opened seen xs → AreUnderWay o opened' seen' xs'
same_way o opened opened' seen seen' xs xs' a b c h =
    subst (λ (n : ℕ). AreUnderWay o n seen' xs') (sym a)
    (subst (λ (r : Run). AreUnderWay o opened r xs') (sym b) (subst (λ (ys : List KeptSession). AreUnderWay o opened seen ys) (sym c) h))

pub none_yet : (o : Opening) → AreUnderWay o 0 [] []
none_yet o = (
  refl,
  tt,
  record { numbered = λ k d low. absurd (omega (arith, low)); own = λ k d low. absurd (omega (arith, low)); unopened = λ n high. refl },
)

pub at_here : (xs : List KeptSession) (k : ℕ) → k < length xs → (x v : KeptSession) → x ≡ get_or xs k x → v ≡ x → (d : KeptSession) → get_or xs k d ≡ v
at_here xs k below x v value view d = get_or_default xs k d x below ∙ (sym value ∙ sym view)

-- a session that has confirmed is the same
pub same_set : (ys xs : List KeptSession) (i : ℕ) (x y : KeptSession) → ys ≡ xs → x ≡ get_or xs i x → i < length xs → y ≡ x → set ys i y ≡ xs
same_set ys xs i x y same at low is =
    ap (λ (zs : List KeptSession). set zs i y) same
    ∙ ap (λ (z : KeptSession). set xs i z) (is ∙ at)
    ∙ set-get_or xs i x

-- one session more
pub knows_one_more : (seen : Run) (xs : List KeptSession) (i : ℕ) (x : KeptSession) → x ≡ get_or xs i x → i < length xs
    → ((k : ℕ) (d : KeptSession) → k < i → KnowsOwn seen (get_or xs k d)) → KnowsOwn seen x
    → (k : ℕ) (d : KeptSession) → k < i + 1 → KnowsOwn seen (get_or xs k d)
knows_one_more seen xs i x at low before one k d below =
    ⊎_elim
    (λ (e : k ≡ i).
    subst (λ (n : ℕ). KnowsOwn seen (get_or xs n d)) (sym e) (subst (KnowsOwn seen) (at ∙ get_or_default xs i x d low) one))
    (λ (other : k ≡ i → ⊥).
    before k d (⊎_elim (λ (l : k < i). l) (λ (h : i ≤ k). absurd (other (omega (arith, h, below)))) (cases_lt k i)))
    (cases_eq k i)

-- ---- a session has run a statement, and all have confirmed

module _ (opened : ℕ) (seen then : Run) (xs : List KeptSession) (ordinal : ℕ) (one : KeptSession) (many : opened ≡ length xs) (below : ordinal < length xs)
    (known : IsKnown opened seen xs) (same : (d : KeptSession) → one.kept.pass.session ≡ (get_or xs ordinal d).kept.pass.session)
    (own : (k : ℕ) (d : KeptSession) → k < length (set xs ordinal one) → KnowsOwn then (get_or (set xs ordinal one) k d))
    (unopened : (n : ℕ) → opened ≤ n → of n then ≡ []) where
  as_many : length (set xs ordinal one) ≡ length xs
  as_many = length-set xs ordinal one

  pub known_run : IsKnown opened then (set xs ordinal one)
  known_run = record {
    numbered = λ k d low.
        let lower : k < length xs = omega (arith, low, as_many) in
        ⊎_elim
        (λ (e : k ≡ ordinal).
        ap (λ (n : ℕ). (get_or (set xs ordinal one) n d).kept.pass.session) e
        ∙ ap (λ (x : KeptSession). x.kept.pass.session) (get_or-set_same xs ordinal one d below) ∙ same d ∙ known.numbered ordinal d below
        ∙ ap (λ (n : ℕ). Some n) (sym e))
        (λ (other : k ≡ ordinal → ⊥). ap (λ (x : KeptSession). x.kept.pass.session) (get_or-set_other xs ordinal k one d other) ∙ known.numbered k d lower)
        (cases_eq k ordinal);
    own = own;
    unopened = unopened;
  }

  pub others_stay : (n : ℕ) → (n ≡ ordinal → ⊥) → of n then ≡ of n seen
  others_stay n other =
      ⊎_elim
      (λ (low : n < opened).
      let here : n < length xs = omega (arith, low, many) in
      let there : n < length (set xs ordinal one) = omega (arith, here, as_many) in
      let at = get_or-set_other xs ordinal n one one other in
      let numbered = known.numbered n one here in
      subst (KnowsOwn then) at (own n one there) n numbered ∙ sym (known.own n one here n numbered))
      (λ (high : opened ≤ n). unopened n high ∙ sym (known.unopened n high)) (cases_lt n opened)

  pub nobody_else : (p q : PassView Entry) → p.session ≡ (get_or xs ordinal one).kept.pass.session → q.seen ≡ then → IsPrefix seen then
      → NoOthers (record p { seen = seen }) q
  nobody_else p q session is later = record {
    session = ordinal;
    of_session = session ∙ known.numbered ordinal one below;
    added = later.0;
    seen = is ∙ sym later.1;
    own = no_others ordinal later.0 (λ k other. none_added k seen later.0 then (sym later.1) (others_stay k other));
  }

-- the controller has run an admin line, and all have confirmed
module _ (opened : ℕ) (seen then : Run) (xs : List KeptSession) (many : opened ≡ length xs) (known : IsKnown opened seen xs)
    (own : (k : ℕ) (d : KeptSession) → k < length xs → KnowsOwn then (get_or xs k d)) (unopened : (n : ℕ) → opened ≤ n → of n then ≡ []) where
  pub known_after : IsKnown opened then xs
  known_after = record { numbered = known.numbered; own = own; unopened = unopened }

  all_stay : KeptSession → (n : ℕ) → of n then ≡ of n seen
  all_stay d n =
      ⊎_elim
      (λ (low : n < opened).
      let here : n < length xs = omega (arith, low, many) in
      let numbered = known.numbered n d here in own n d here n numbered ∙ sym (known.own n d here n numbered))
      (λ (high : opened ≤ n). unopened n high ∙ sym (known.unopened n high)) (cases_lt n opened)

  pub nobody_commits : IsPrefix seen then → NoCommits seen then
  nobody_commits later = record {
    added = later.0;
    seen = sym later.1;
    none = nothing later.0 (λ k. none_added k seen later.0 then (sym later.1) (all_stay (fresh [] 0 []) k));
  }

-- ---- and so what is printed is what one database gives

pub here_of : (o : Opening) → IsOpening o → is_vschema o.schema ≡ true → (seen : Run) → IsLegal (MayFollow o) seen → (k then : KeptState)
    → NoOthers (record k.pass { seen = seen }) then.pass → (sql text : List ℕ) → PrintsFrom o seen k sql text then → PrintsHere o seen k sql text then
here_of o opens formed seen legal k then others sql text prints = λ s held.
    let said = prints s held in
    let alone : NoOthers (met seen s).pass said.0.pass =
    subst (λ (q : PassView Entry). NoOthers (record s.pass { seen = seen }) q) (sym said.1.0.0)
    (subst (λ (q : PassView Entry). NoOthers (record q { seen = seen }) then.pass) (sym held.0.0) others) in (
      said.0,
      said.1,
      record {
        prints = said.2;
        others = alone;
        over = prints_among o opens formed sql (met seen s) said.0 text k.pass then.pass k.tx then.tx legal alone held.0.1 said.1.0.1 held.1 said.2;
      },
    )
