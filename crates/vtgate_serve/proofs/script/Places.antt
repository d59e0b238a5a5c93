-- The sessions of a script by their places.
use Rattle.std.proofs.Common.{◌≡◌, ◌≢◌, ℕ, zero, suc, ◌+◌, ◌<◌, Bool, true, false, cond, List, [], ◌∷◌, ◌++◌, length, get_or, set, take, drop, Option, Some, None, refl, sym, ap, subst, ◌∙◌, arith}
use Rattle.std.specs.Prelude.{position, bytes_eq, IsSome}
use Rattle.std.specs.List.{AllByRecursion, position_from}
use Rattle.std.proofs.lemmas.Iterator.Adapters.{position_from-zero}
use Rattle.std.proofs.lemmas.Slice.Eq.{bytes_eq-Decides}
use Rattle.std.proofs.lemmas.Bool.{true≢false}
use mathlib.Core.List.{IsPrefix}
use Rattle.std.proofs.lemmas.List.{get_or_default, length-append, length-set}
use Rattle.journal.proofs.Fronts.{prefix_self, prefix_trans}
use Rattle.journal.specs.Views.{PassView, new_pass}
use Rattle.shard_run.specs.declared.Entry.{Entry}
use Rattle.shard_run.specs.Runs.{Run, Opening}
use Rattle.vtgate_clients.specs.Pendings as stands
use Rattle.vtgate_clients.specs.Pendings.{OpenView, IsOf}
use Rattle.vtgate_clients.specs.Means.{PassAndTransaction, none_open}
use Rattle.vtgate_serve.specs.script.Scripted as s
use Rattle.vtgate_serve.specs.script.Scripted.{Session, ScriptProgress, PrintsAt, Runs, met}
use Rattle.vtgate_serve.proofs.script.Knowing.{known_opened}
use Rattle.vtgate_serve.specs.script.inner.UnderWay as u
use Rattle.vtgate_serve.specs.script.inner.UnderWay.{KeptState, KeptSession, KeptProgress, IsKeptOf, AreKept, IsProgressOf, PrintsHere, HasOpened, HasSeenLess, IsKnown}

module _ {X : Type 0} where
  parted : (xs : List X) (k : ℕ) (d : X) → k < length xs → xs ≡ take k xs ++ get_or xs k d ∷ drop (suc k) xs
  parted [] k d l = absurd (omega (arith, l))
  parted (x ∷ xs) zero d l = refl
  parted (x ∷ xs) (suc k) d l = ap (λ (z : List X). x ∷ z) (parted xs k d (omega (arith, l)))

  set_parted : (xs : List X) (k : ℕ) (y : X) → k < length xs → set xs k y ≡ take k xs ++ y ∷ drop (suc k) xs
  set_parted [] k y l = absurd (omega (arith, l))
  set_parted (x ∷ xs) zero y l = refl
  set_parted (x ∷ xs) (suc k) y l = ap (λ (z : List X). x ∷ z) (set_parted xs k y (omega (arith, l)))

  last_of : (xs : List X) (x d : X) → get_or (xs ++ x ∷ []) (length xs) d ≡ x
  last_of [] x d = refl
  last_of (y ∷ xs) x d = last_of xs x d

  set_last : (xs : List X) (x y : X) → set (xs ++ x ∷ []) (length xs) y ≡ xs ++ y ∷ []
  set_last [] x y = refl
  set_last (z ∷ xs) x y = ap (λ (w : List X). z ∷ w) (set_last xs x y)

-- ---- what is kept of sessions

module _ (o : Opening) where
  are_length : (ks : List KeptSession) (ss : List Session) → AreKept o ks ss → length ks ≡ length ss
  are_length [] [] h = refl
  are_length [] (s ∷ ss) h = absurd h
  are_length (k ∷ ks) [] h = absurd h
  are_length (k ∷ ks) (s ∷ ss) h = ap suc (are_length ks ss h.2)

  -- one of them
  record IsOne (k : KeptSession) (s : Session) : Type 0 where
    name : k.name ≡ s.name
    kept : IsKeptOf o k.kept s.state

  are_at : (ks : List KeptSession) (ss : List Session) (n : ℕ) (d : KeptSession) (e : Session) → AreKept o ks ss → n < length ks → IsOne (get_or ks n d) (get_or ss n e)
  are_at [] [] n d e h l = absurd (omega (arith, l))
  are_at [] (s ∷ ss) n d e h l = absurd h
  are_at (k ∷ ks) [] n d e h l = absurd h
  are_at (k ∷ ks) (s ∷ ss) zero d e h l = record { name = h.0; kept = h.1 }
  are_at (k ∷ ks) (s ∷ ss) (suc n) d e h l = are_at ks ss n d e h.2 (omega (arith, l))

  are_set : (ks : List KeptSession) (ss : List Session) (n : ℕ) (k : KeptSession) (s : Session) → AreKept o ks ss → IsOne k s → AreKept o (set ks n k) (set ss n s)
  are_set [] [] n k s h one = tt
  are_set [] (y ∷ ss) n k s h one = absurd h
  are_set (x ∷ ks) [] n k s h one = absurd h
  are_set (x ∷ ks) (y ∷ ss) zero k s h one = (one.name, one.kept, h.2)
  are_set (x ∷ ks) (y ∷ ss) (suc n) k s h one = (h.0, h.1, are_set ks ss n k s h.2 one)

  are_push : (ks : List KeptSession) (ss : List Session) (k : KeptSession) (s : Session) → AreKept o ks ss → IsOne k s → AreKept o (ks ++ k ∷ []) (ss ++ s ∷ [])
  are_push [] [] k s h one = (one.name, one.kept, tt)
  are_push [] (y ∷ ss) k s h one = absurd h
  are_push (x ∷ ks) [] k s h one = absurd h
  are_push (x ∷ ks) (y ∷ ss) k s h one = (h.0, h.1, are_push ks ss k s h.2 one)

  are_unnamed : (name : List ℕ) (ks : List KeptSession) (ss : List Session) → AreKept o ks ss → AllByRecursion (λ x. x.name ≢ name) ks
      → AllByRecursion (λ x. x.name ≢ name) ss
  are_unnamed name [] [] h all = tt
  are_unnamed name [] (s ∷ ss) h all = absurd h
  are_unnamed name (k ∷ ks) [] h all = absurd h
  are_unnamed name (k ∷ ks) (s ∷ ss) h all = ((λ e. all.0 (h.0 ∙ e)), are_unnamed name ks ss h.2 all.1)

-- what is kept, once the session at a place has run a statement
abbrev pub after_run : KeptProgress → ℕ → KeptSession → KeptState → KeptProgress
after_run mid ordinal d now =
    record { sessions = set mid.sessions ordinal (record { name = (get_or mid.sessions ordinal d).name; kept = now }); seen = now.pass.seen }

-- a session that was just opened
abbrev pub new_kept : KeptProgress → ℕ → KeptState
new_kept s ordinal = record { pass = new_pass s.seen (Some ordinal); tx = None }

-- none of them
no_kept : KeptSession
no_kept = record { name = []; kept = record { pass = new_pass [] (Some 0); tx = None } }

nobody : Session
nobody = record { name = []; state = none_open (new_pass [] (Some 0)) }

-- the session was there
module _ (o : Opening) (old : KeptProgress) (name sql text : List ℕ) (ordinal : ℕ) (now : KeptState) (below : ordinal < length old.sessions)
    (named : (d : KeptSession) → (get_or old.sessions ordinal d).name ≡ name)
    (prints : PrintsHere o old.seen (get_or old.sessions ordinal no_kept).kept sql text now) (p : ScriptProgress) (held : IsProgressOf o old p) where
  abbrev mine : KeptSession
  mine = get_or old.sessions ordinal no_kept

  abbrev theirs : Session
  theirs = get_or p.sessions ordinal nobody

  one_there : IsOne o mine theirs
  one_there = are_at o old.sessions p.sessions ordinal no_kept nobody held.sessions below

  abbrev Then : Type 0
  Then = (s : PassAndTransaction) × IsKeptOf o now s × PrintsAt o (met old.seen theirs.state) sql text s

  theirs_named : theirs.name ≡ name
  theirs_named = sym one_there.name ∙ named no_kept

  there_below : ordinal < length p.sessions
  there_below = let same = are_length o old.sessions p.sessions held.sessions in omega (arith, same, below)

  whole_there : p.sessions ≡ take ordinal p.sessions ++ record { name = name; state = theirs.state } ∷ drop (suc ordinal) p.sessions
  whole_there =
      parted p.sessions ordinal nobody there_below
      ∙ ap (λ (n : List ℕ). take ordinal p.sessions ++ record { name = n; state = theirs.state } ∷ drop (suc ordinal) p.sessions) theirs_named

  abbrev there_then : PassAndTransaction → ScriptProgress
  there_then s = record { sessions = take ordinal p.sessions ++ record { name = name; state = s } ∷ drop (suc ordinal) p.sessions; seen = s.pass.seen }

  runs_there : Then → (q : ScriptProgress) × IsProgressOf o (after_run old ordinal no_kept now) q × Runs o p name sql text q
  runs_there then =
      let printed = subst (λ (r : Run). PrintsAt o (met r theirs.state) sql text then.0) held.seen then.2 in
      let kept =
      are_set o old.sessions p.sessions ordinal (record { name = mine.name; kept = now }) (record { name = name; state = then.0 }) held.sessions
      (record { name = named no_kept; kept = then.1 }) in (
        there_then then.0,
        record {
          sessions =
              subst (λ (ss : List Session). AreKept o (set old.sessions ordinal (record { name = mine.name; kept = now })) ss)
              (set_parted p.sessions ordinal (record { name = name; state = then.0 }) there_below) kept;
          seen = ap (λ (q : PassView Entry). q.seen) (sym then.1.0.0);
        },
        s.again (take ordinal p.sessions) (drop (suc ordinal) p.sessions) theirs.state whole_there printed,
      )

-- it was opened
module _ (o : Opening) (old : KeptProgress) (name sql text : List ℕ) (now : KeptState) (none : AllByRecursion (λ x. x.name ≢ name) old.sessions)
    (prints : PrintsHere o old.seen (new_kept old (length old.sessions)) sql text now) (p : ScriptProgress) (held : IsProgressOf o old p) where
  abbrev opened_at : Run → ℕ → PassAndTransaction
  opened_at seen n = none_open (new_pass seen (Some n))

  runs_first : (q : ScriptProgress) × IsProgressOf o (record { sessions = old.sessions ++ record { name = name; kept = now } ∷ []; seen = now.pass.seen }) q
      × Runs o p name sql text q
  runs_first =
      let then = prints (opened_at old.seen (length old.sessions)) ((refl, stands.closed), tt) in
      let same = are_length o old.sessions p.sessions held.sessions in
      let numbered = subst (λ (n : ℕ). PrintsAt o (opened_at old.seen n) sql text then.0) same then.2 in
      let printed = subst (λ (r : Run). PrintsAt o (opened_at r (length p.sessions)) sql text then.0) held.seen numbered in (
        record { sessions = p.sessions ++ record { name = name; state = then.0 } ∷ []; seen = then.0.pass.seen },
        record {
          sessions =
              are_push o old.sessions p.sessions (record { name = name; kept = now }) (record { name = name; state = then.0 }) held.sessions
              (record { name = refl; kept = then.1 });
          seen = ap (λ (q : PassView Entry). q.seen) (sym then.1.0.0);
        },
        s.first (are_unnamed o name old.sessions p.sessions held.sessions none) printed,
      )

pub has_run : (o : Opening) (old mid after : KeptProgress) (name sql text : List ℕ) (ordinal : ℕ) (now : KeptState) → HasOpened old name ordinal mid
    → ((d : KeptSession) → PrintsHere o mid.seen (get_or mid.sessions ordinal d).kept sql text now)
    → ((d : KeptSession) → after ≡ after_run mid ordinal d now)
    → (p : ScriptProgress) → IsProgressOf o old p → (q : ScriptProgress) × IsProgressOf o after q × Runs o p name sql text q
has_run o old mid after name sql text ordinal now (u.was below named) prints is p held =
    let said = prints no_kept in
    let one = are_at o old.sessions p.sessions ordinal no_kept nobody held.sessions below in
    subst (λ (a : KeptProgress). (q : ScriptProgress) × IsProgressOf o a q × Runs o p name sql text q) (sym (is no_kept))
    (runs_there o old name sql text ordinal now below named said p held (said (get_or p.sessions ordinal nobody).state one.kept))
has_run o old mid after name sql text ordinal now (u.opened none at_end) prints is p held =
    let ks = old.sessions in
    let opened : KeptSession = record { name = name; kept = new_kept old ordinal } in
    let at : get_or (ks ++ opened ∷ []) ordinal no_kept ≡ opened = ap (λ n. get_or (ks ++ opened ∷ []) n no_kept) at_end ∙ last_of ks opened no_kept in
    let began : PrintsHere o old.seen (new_kept old ordinal) sql text now =
    subst (λ (x : KeptSession). PrintsHere o old.seen x.kept sql text now) at (prints no_kept) in
    let numbered = subst (λ n. PrintsHere o old.seen (new_kept old n) sql text now) at_end began in
    let then : after ≡ record { sessions = ks ++ record { name = name; kept = now } ∷ []; seen = now.pass.seen } =
    is no_kept
    ∙ (ap (λ (x : KeptSession). record { sessions = set (ks ++ opened ∷ []) ordinal (record { name = x.name; kept = now }); seen = now.pass.seen }) at
    ∙ (ap (λ n. record { sessions = set (ks ++ opened ∷ []) n (record { name = name; kept = now }); seen = now.pass.seen }) at_end
    ∙ ap (λ (xs : List KeptSession). record { sessions = xs; seen = now.pass.seen }) (set_last ks opened (record { name = name; kept = now })))) in
    subst (λ (a : KeptProgress). (q : ScriptProgress) × IsProgressOf o a q × Runs o p name sql text q) (sym then)
    (runs_first o old name sql text now none numbered p held)

-- ---- the session of a name

some_is : (m n : ℕ) → Some m ≡ Some n → m ≡ n
some_is m n e = ap or e
  where
    or : Option ℕ → ℕ
    or None = m
    or (Some k) = k

module _ {X : Type 0} (p : X → Bool) where
  -- what is found is there, and passes
  pub record Found (n : ℕ) (xs : List X) (ordinal : ℕ) : Type 0 where
    pub k : ℕ
    pub is : ordinal ≡ n + k
    pub below : k < length xs
    pub passes : (d : X) → p (get_or xs k d) ≡ true

  found_from : (n : ℕ) (xs : List X) (ordinal : ℕ) → position_from p n xs ≡ Some ordinal → Found n xs ordinal
  found_from n [] ordinal e = absurd (cc e)
  found_from n (x ∷ xs) ordinal e = by (p x) refl e (found_from (n + 1) xs ordinal)
    where
      by : (b : Bool) → p x ≡ b → cond b (Some n) (position_from p (n + 1) xs) ≡ Some ordinal
          → (position_from p (n + 1) xs ≡ Some ordinal → Found (n + 1) xs ordinal) → Found n (x ∷ xs) ordinal
      by true t e f =
          let i : n ≡ ordinal = some_is n ordinal e in
          record { k = zero; is = omega (arith, i); below = omega arith; passes = λ d. t }
      by false t e f =
          let g = f e in
          let i = g.is in
          let l = g.below in
          record { k = suc g.k; is = omega (arith, i); below = omega (arith, l); passes = g.passes }

  none_from : (n : ℕ) (xs : List X) → position_from p n xs ≡ None → AllByRecursion (λ x. p x ≡ false) xs
  none_from n [] e = tt
  none_from n (x ∷ xs) e = by (p x) refl e (none_from (n + 1) xs)
    where
      by : (b : Bool) → p x ≡ b → cond b (Some n) (position_from p (n + 1) xs) ≡ None
          → (position_from p (n + 1) xs ≡ None → AllByRecursion (λ x. p x ≡ false) xs) → AllByRecursion (λ x. p x ≡ false) (x ∷ xs)
      by true t e f = absurd (cc e)
      by false t e f = (t, f e)

unnamed : (name : List ℕ) (xs : List KeptSession) → AllByRecursion (λ x. bytes_eq x.name name ≡ false) xs → AllByRecursion (λ x. x.name ≢ name) xs
unnamed name [] h = tt
unnamed name (x ∷ xs) h = ((λ e. true≢false (sym ((bytes_eq-Decides x.name name).1 e) ∙ h.0)), unnamed name xs h.1)

pub was_there : (s : KeptProgress) (name : List ℕ) (ordinal : ℕ) → position (λ x. bytes_eq x.name name) s.sessions ≡ Some ordinal → HasOpened s name ordinal s
was_there s name ordinal e =
    let found = found_from (λ (x : KeptSession). bytes_eq x.name name) 0 s.sessions ordinal (sym (position_from-zero (λ (x : KeptSession). bytes_eq x.name name) s.sessions) ∙ e) in
    let i = found.is in
    let same : ordinal ≡ found.k = omega (arith, i) in
    let below = found.below in
    u.was (omega (arith, same, below))
    (λ d. (bytes_eq-Decides (get_or s.sessions ordinal d).name name).0 (ap (λ n. bytes_eq (get_or s.sessions n d).name name) same ∙ found.passes d))

pub is_opened : (s t : KeptProgress) (name : List ℕ) (ordinal : ℕ) → position (λ x. bytes_eq x.name name) s.sessions ≡ None → ordinal ≡ length s.sessions
    → t ≡ record s { sessions = s.sessions ++ record { name = name; kept = new_kept s (length s.sessions) } ∷ [] } → HasOpened s name ordinal t
is_opened s t name ordinal e at_end is =
    let none = none_from (λ (x : KeptSession). bytes_eq x.name name) 0 s.sessions (sym (position_from-zero (λ (x : KeptSession). bytes_eq x.name name) s.sessions) ∙ e) in
    subst (λ (q : KeptProgress). HasOpened s name ordinal q)
    (sym (is ∙ ap (λ n. record s { sessions = s.sessions ++ record { name = name; kept = new_kept s n } ∷ [] }) (sym at_end)))
    (u.opened (unnamed name s.sessions none) at_end)

-- ---- what each session has seen

further : (o : Opening) (seen then : Run) (s : KeptSession) → IsPrefix seen then → HasSeenLess o seen s → HasSeenLess o then s
further o seen then s later h = (h.0, prefix_trans s.kept.pass.seen seen then h.1 later, h.2)

pub all_further : (o : Opening) (seen then : Run) (xs : List KeptSession) → IsPrefix seen then → AllByRecursion (HasSeenLess o seen) xs → AllByRecursion (HasSeenLess o then) xs
all_further o seen then [] later h = tt
all_further o seen then (x ∷ xs) later h = (further o seen then x later h.0, all_further o seen then xs later h.1)

pub still_less : (o : Opening) (seen then : Run) (xs : List KeptSession) (k : ℕ) (s : KeptSession) → IsPrefix seen then → AllByRecursion (HasSeenLess o seen) xs
    → HasSeenLess o then s → AllByRecursion (HasSeenLess o then) (set xs k s)
still_less o seen then [] k s later h new = tt
still_less o seen then (x ∷ xs) zero s later h new = (new, all_further o seen then xs later h.1)
still_less o seen then (x ∷ xs) (suc k) s later h new = (further o seen then x later h.0, still_less o seen then xs k s later h.1 new)

pub past_at : (o : Opening) (seen : Run) (xs : List KeptSession) (k : ℕ) (d : KeptSession) → AllByRecursion (HasSeenLess o seen) xs → k < length xs
    → HasSeenLess o seen (get_or xs k d)
past_at o seen [] k d h l = absurd (omega (arith, l))
past_at o seen (x ∷ xs) zero d h l = h.0
past_at o seen (x ∷ xs) (suc k) d h l = past_at o seen xs k d h.1 (omega (arith, l))

-- a session that was just opened
pub opened_after : (o : Opening) (seen : Run) (xs : List KeptSession) (name : List ℕ) (number : ℕ) → AllByRecursion (HasSeenLess o seen) xs
    → AllByRecursion (HasSeenLess o seen) (xs ++ record { name = name; kept = record { pass = new_pass seen (Some number); tx = None } } ∷ [])
opened_after o seen [] name number h = ((refl, prefix_self seen, (None, stands.closed)), tt)
opened_after o seen (x ∷ xs) name number h = (h.0, opened_after o seen xs name number h.1)

pub keeps_opened : (o : Opening) (seen then : Run) (xs mid all : List KeptSession) (name : List ℕ) (pass : PassView Entry) (tx : Option OpenView) (opened next : ℕ)
    → (opened ≡ length xs) × AllByRecursion (HasSeenLess o seen) xs × IsKnown opened seen xs → pass ≡ new_pass seen (Some opened) → tx ≡ None → then ≡ seen
    → next ≡ opened + 1 → mid ≡ xs → all ≡ mid ++ record { name = name; kept = record { pass = pass; tx = tx } } ∷ []
    → (next ≡ length all) × AllByRecursion (HasSeenLess o then) all × IsKnown next then all
keeps_opened o seen then xs mid all name pass tx opened next kept is_pass is_tx later is_next same is =
    let one : KeptSession = record { name = name; kept = record { pass = pass; tx = tx } } in
    let fresh : KeptSession = record { name = name; kept = record { pass = new_pass seen (Some opened); tx = None } } in
    let is_one : one ≡ fresh =
    ap (λ (p : PassView Entry). record { name = name; kept = record { pass = p; tx = tx } }) is_pass
    ∙ ap (λ (t : Option OpenView). record { name = name; kept = record { pass = new_pass seen (Some opened); tx = t } }) is_tx in
    let whole : all ≡ xs ++ fresh ∷ [] =
    is ∙ (ap (λ (ys : List KeptSession). ys ++ one ∷ []) same ∙ ap (λ (s : KeptSession). xs ++ s ∷ []) is_one) in
    let longer = length-append xs (fresh ∷ []) in
    let many = kept.0 in
    let counted : next ≡ length (xs ++ fresh ∷ []) = omega (arith, longer, many, is_next) in
    let known : IsKnown next then (xs ++ fresh ∷ []) =
    subst (λ (n : ℕ). IsKnown n then (xs ++ fresh ∷ [])) (sym is_next)
    (subst (λ (r : Run). IsKnown (opened + 1) r (xs ++ fresh ∷ [])) (sym later) (known_opened opened seen xs name kept.0 kept.2)) in
    subst (λ (ys : List KeptSession). (next ≡ length ys) × AllByRecursion (HasSeenLess o then) ys × IsKnown next then ys) (sym whole)
    (counted, subst (λ (r : Run). AllByRecursion (HasSeenLess o r) (xs ++ fresh ∷ [])) (sym later) (opened_after o seen xs name opened kept.1), known)

-- The session at a place has run a statement.
module _ (o : Opening) (xs : List KeptSession) (k : ℕ) (below : k < length xs) (name : List ℕ) (p now : KeptState) (x : KeptSession) (value : x ≡ get_or xs k x)
    (view : record { name = name; kept = p } ≡ x) (seen then : Run) (same : then ≡ now.pass.seen) where
  at_place : (d : KeptSession) → get_or xs k d ≡ record { name = name; kept = p }
  at_place d = get_or_default xs k d x below ∙ (sym value ∙ sym view)

  pub comes_after : AllByRecursion (HasSeenLess o seen) xs → HasSeenLess o seen (record { name = name; kept = p })
  comes_after all = subst (HasSeenLess o seen) (at_place x) (past_at o seen xs k x all below)

  pub keeps_all : (opened : ℕ) → (opened ≡ length xs) × AllByRecursion (HasSeenLess o seen) xs → IsPrefix seen then → now.pass.session ≡ p.pass.session → IsOf o now.tx now.pass
      → (opened ≡ length (set xs k (record { name = name; kept = now }))) × AllByRecursion (HasSeenLess o then) (set xs k (record { name = name; kept = now }))
  keeps_all opened kept later session of =
      let old = comes_after kept.1 in
      let some : IsSome now.pass.session = subst (λ (n : Option ℕ). IsSome n) (sym session) old.0 in
      let whole : IsPrefix now.pass.seen then = subst (λ (r : Run). IsPrefix now.pass.seen r) (sym same) (prefix_self now.pass.seen) in (
        kept.0 ∙ sym (length-set xs k (record { name = name; kept = now })),
        still_less o seen then xs k (record { name = name; kept = now }) later kept.1 (some, whole, of),
      )

  module _ (s : KeptProgress) (is : record { sessions = xs; seen = seen } ≡ s) where
    pub prints_at : (sql text : List ℕ) → PrintsHere o seen p sql text now → (d : KeptSession) → PrintsHere o s.seen (get_or s.sessions k d).kept sql text now
    prints_at sql text h d =
        subst (λ (s : KeptProgress). PrintsHere o s.seen (get_or s.sessions k d).kept sql text now) is
        (subst (λ (y : KeptSession). PrintsHere o seen y.kept sql text now) (sym (at_place d)) h)

    pub after_is : (d : KeptSession) → record { sessions = set xs k (record { name = name; kept = now }); seen = then } ≡ after_run s k d now
    after_is d =
        subst (λ (s : KeptProgress). record { sessions = set xs k (record { name = name; kept = now }); seen = then } ≡ after_run s k d now) is
        (ap (λ (r : Run). record { sessions = set xs k (record { name = name; kept = now }); seen = r }) same
        ∙ ap (λ (y : KeptSession). record { sessions = set xs k (record { name = y.name; kept = now }); seen = now.pass.seen }) (sym (at_place d)))
