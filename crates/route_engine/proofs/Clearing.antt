-- Where a shard tells no conflict, no other session has changed a table of the transaction.
use Rattle.std.proofs.Common.{◌≡◌, ℕ, zero, suc, ◌≤◌, Bool, true, false, cond, ◌||◌, ◌&&◌, ◌==◌, List, [], ◌∷◌, ◌++◌, length, drop, Option, inl, inr, refl, sym, ap, subst, ◌∙◌, arith}
use Rattle.std.specs.Prelude.{Contains}
use Rattle.std.specs.List.{AllByRecursion, list_any}
use Rattle.std.proofs.lemmas.Bool.{false≢true, and_from, eqb-true, eq-eqb}
use Rattle.shard_contents.proofs.Lists.{In, In-left, In-right, In-last, In-all, In-filter, In-from_Contains, Contains-from_In, AllByRecursion-push, all-weaker}
use Rattle.shard_run.specs.declared.Event.TheVariants.{Commit}
use Rattle.shard_run.specs.declared.ShardRecord.{ShardRecord}
use Rattle.shard_run.specs.declared.Entry.{Entry}
use Rattle.shard_run.specs.Runs.{Run, Opening, is_on, is_stored, stored_on}
use Rattle.shard_contents.specs.declared.touched_table.Touch.{Touch}
use Rattle.shard_contents.specs.Transactions.{changes_table, is_changed, is_conflict, is_touched, touched_with, touched_all}
use Rattle.shard_calls.proofs.Conflicts.{stored_is}
use Rattle.shard_calls.proofs.Moves.{touch_of, all_touched}
use Rattle.shard_calls.specs.Transactions.{TransactionStatement, IsConflict, tables_of}
use Rattle.shard_calls.specs.Pendings.{HasTouched}
use Rattle.route_engine.proofs.Causes.{found}

any_from : {X : Type 0} (p : X → Bool) (x : X) (xs : List X) → In x xs → p x ≡ true → list_any p xs ≡ true
any_from p x [] h is = absurd h
any_from {X} p x (y ∷ ys) h is = by (p y) refl h (λ there. any_from p x ys there is)
  where
    by : (b : Bool) → p y ≡ b → In x (y ∷ ys) → (In x ys → list_any p ys ≡ true) → (b || list_any p ys) ≡ true
    by true e h rest = refl
    by false e (inl same) rest = absurd (false≢true (sym e ∙ ap p same ∙ is))
    by false e (inr there) rest = rest there

in_dropped : {X : Type 0} (x : X) (k : ℕ) (xs ys : List X) → k ≤ length xs → In x ys → In x (drop k (xs ++ ys))
in_dropped x zero xs ys l h = In-right x xs ys h
in_dropped x (suc k) [] ys l h = absurd (omega (arith, l))
in_dropped x (suc k) (y ∷ xs) ys l h = in_dropped x k xs ys (omega (arith, l)) h

module _ (o : Opening) (s : ShardRecord) (run : Run) (session : Option ℕ) (steps : List TransactionStatement) (touched : List Touch)
    (trailing : AllByRecursion (HasTouched s touched) steps) where
  pub no_conflict : is_conflict (stored_on s.slot run) touched ≡ false → IsConflict o s session run steps → ⊥
  no_conflict clear is =
      let was = In-all (HasTouched s touched) is.step steps trailing (In-from_Contains is.step steps is.is) is.table is.on is.touched in
      let e : Entry = record { shard = s; event = Commit is.commit } in
      let here : In e (stored_on s.slot is.trailing) =
      In-filter (λ (x : Entry). is_on s.slot x && is_stored x.event) e (and_from (s.slot == s.slot) true (eq-eqb s.slot s.slot refl) refl) is.trailing
      (In-from_Contains e is.trailing is.there) in
      let cut = stored_is o s is.step.seen run (is.trailing, sym is.since) in
      let there : In e (drop was.touch.stored (stored_on s.slot run)) =
      subst (λ (l : List Entry). In e (drop was.touch.stored l)) (sym cut)
      (in_dropped e was.touch.stored (stored_on s.slot is.step.seen) (stored_on s.slot is.trailing) was.stored here) in
      let one : is_changed (stored_on s.slot run) was.touch ≡ true =
      any_from (changes_table was.touch.table) e (drop was.touch.stored (stored_on s.slot run)) there (ap (λ (n : ℕ). changes_table n e) was.table ∙ is.changed) in
      false≢true
      (sym clear ∙ any_from (is_changed (stored_on s.slot run)) was.touch touched (In-from_Contains was.touch touched was.is) one)

-- ---- one more touch

kept : (touched : List Touch) (t x : Touch) → In x touched → In x (touched_with touched t)
kept touched t x h = by (is_touched touched t.table)
  where
    by : (b : Bool) → In x (cond b touched (touched ++ t ∷ []))
    by true = h
    by false = In-left x touched (t ∷ []) h

record Early (touched : List Touch) (t : Touch) : Type 0 where
  touch : Touch
  is : In touch (touched_with touched t)
  table : touch.table ≡ t.table
  stored : touch.stored ≤ t.stored

early : (touched : List Touch) (t : Touch) → AllByRecursion (λ x. x.stored ≤ t.stored) touched → Early touched t
early touched t all = by (is_touched touched t.table) refl (λ (x : Touch) h. h)
  where
    by : (b : Bool) → is_touched touched t.table ≡ b → ((x : Touch) → In x (cond b touched (touched ++ t ∷ [])) → In x (touched_with touched t)) → Early touched t
    by true e into =
        let f = found (λ (x : Touch). x.table == t.table) touched e in
        record { touch = f.0; is = kept touched t f.0 f.1; table = eqb-true f.0.table t.table f.2; stored = In-all (λ (x : Touch). x.stored ≤ t.stored) f.0 touched all f.1 }
    by false e into = record { touch = t; is = last e; table = refl; stored = omega arith }
      where
        last : is_touched touched t.table ≡ false → In t (touched_with touched t)
        last off = subst (λ (b : Bool). In t (cond b touched (touched ++ t ∷ []))) (sym off) (In-last t touched)

-- with several
kept_all : (touched : List Touch) (ns : List ℕ) (stored : ℕ) (x : Touch) → In x touched → In x (touched_all touched ns stored)
kept_all touched [] stored x h = h
kept_all touched (n ∷ ns) stored x h = kept_all (touched_with touched (touch_of stored n)) ns stored x (kept touched (touch_of stored n) x h)

record EarlyOf (touched : List Touch) (ns : List ℕ) (stored n : ℕ) : Type 0 where
  touch : Touch
  is : In touch (touched_all touched ns stored)
  table : touch.table ≡ n
  low : touch.stored ≤ stored

early_of : (touched : List Touch) (ns : List ℕ) (stored n : ℕ) → In n ns → AllByRecursion (λ x. x.stored ≤ stored) touched → EarlyOf touched ns stored n
early_of touched [] stored n h all = absurd h
early_of touched (m ∷ ns) stored n (inl same) all =
    let f = early touched (touch_of stored m) all in
    record { touch = f.touch; is = kept_all (touched_with touched (touch_of stored m)) ns stored f.touch f.is; table = f.table ∙ same; low = f.stored }
early_of touched (m ∷ ns) stored n (inr h) all =
    let f =
    early_of (touched_with touched (touch_of stored m)) ns stored n h
    (all_touched touched (touch_of stored m) (λ x. x.stored ≤ stored) all (omega arith)) in
    record { touch = f.touch; is = f.is; table = f.table; low = f.low }

-- a statement more, which touches its tables
pub touched_more : (s : ShardRecord) (touched : List Touch) (ns : List ℕ) (stored : ℕ) (steps : List TransactionStatement) (last : TransactionStatement) → AllByRecursion (HasTouched s touched) steps
    → AllByRecursion (λ x. x.stored ≤ stored) touched → ((n : ℕ) → Contains (tables_of last.typed) n → In n ns) → stored ≤ length (stored_on s.slot last.seen)
    → AllByRecursion (HasTouched s (touched_all touched ns stored)) (steps ++ last ∷ [])
touched_more s touched ns stored steps last trailing low tables before =
    AllByRecursion-push (HasTouched s (touched_all touched ns stored)) steps last
    (all-weaker (HasTouched s touched) (HasTouched s (touched_all touched ns stored))
    (λ step h n on of.
    let was = h n on of in
    record {
      touch = was.touch;
      is = Contains-from_In was.touch (touched_all touched ns stored) (kept_all touched ns stored was.touch (In-from_Contains was.touch touched was.is));
      table = was.table;
      stored = was.stored;
    }) steps trailing)
    (λ n on of.
    let f = early_of touched ns stored n (tables n of) low in
    let a = f.low in
    record {
      touch = f.touch;
      is = Contains-from_In f.touch (touched_all touched ns stored) f.is;
      table = f.table;
      stored = omega (arith, a, before);
    })
