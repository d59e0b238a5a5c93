-- Calls one after the other.
use Rattle.std.proofs.Common.{◌≡◌, ℕ, ◌+◌, ◌≤◌, ◌<◌, refl, sym, subst, zero, suc, arith, Bool, true, false, Option, Some, None, if◌then◌else◌, ◌==◌}
use Rattle.std.proofs.lemmas.Bool.{ne_eqb}
use Rattle.std.specs.Prelude.{OnErr}
use Rattle.std.specs.declared.result.Result.{Result}
use Rattle.std.specs.declared.result.Result.TheVariants.{Ok, Err}
use Rattle.sql_tree.specs.declared.LimitClause as sql
use Rattle.operators.specs.Calls.{Calls, CallsAtMost, most_calls}
use Rattle.operators.specs.declared.slicing.Limit.{Limit}
use Rattle.operators.specs.inner.Limits.{calls_left, Spends, LimitCall}

module _ {S : Type 0} (call : S → S → Type 0) where
  both : (m n : ℕ) (s t u : S) → Calls call m s t → Calls call n t u → Calls call (m + n) s u
  both zero n s t u e more = let none : 0 + n ≡ n = omega arith in rw none (subst (λ (x : S). Calls call n x u) (sym e) more)
  both (suc m) n s t u (v, one, rest) more = let first : suc m + n ≡ suc (m + n) = omega arith in rw first (v, one, both m n v t u rest more)

  pub at_most_both : (m n : ℕ) (s t u : S) → CallsAtMost call m s t → CallsAtMost call n t u → CallsAtMost call (m + n) s u
  at_most_both m n s t u a b = (a.0 + b.0, omega (arith, a.1, b.1), both a.0 b.0 s t u a.2 b.2)

  pub at_most_more : (m n : ℕ) (s t : S) → m ≤ n → CallsAtMost call m s t → CallsAtMost call n s t
  at_most_more m n s t h a = (a.0, omega (arith, a.1, h), a.2)

  pub no_calls : (s : S) → CallsAtMost call 0 s s
  no_calls s = (0, omega arith, refl)

  pub one_more : (m : ℕ) (s t u : S) → CallsAtMost call m s t → call t u → CallsAtMost call (m + 1) s u
  one_more m s t u a one = at_most_both m 1 s t u a (1, omega arith, (u, one, refl))

pub at_error : {T E P : Type 0} (r : Result T E) → P → OnErr r P
at_error (Ok x) p = tt
at_error (Err e) p = p

at_most_all : (l : sql.LimitClause) (none : Bool) → (if none then 0 else l.offset + l.count) ≤ l.offset + l.count
at_most_all l true = omega arith
at_most_all l false = omega arith

some_rows : (n : ℕ) → 0 < n → (n == 0) ≡ false
some_rows n h = ne_eqb n 0 (λ e. absurd (omega (arith, e)))

-- a limit passes over its offset's rows and then pulls one, or fails before
pub spends_row : (failed : Bool) (l : sql.LimitClause) (count : ℕ) → failed ≡ false → 0 < l.count → count + 1 ≤ l.count →
    Spends failed (Some l) (l.offset + 1) failed (Some (record { count = count; offset = 0 }))
spends_row failed l count stands some less = rw (stands, some_rows l.count some) (omega (arith, at_most_all (record { count = count; offset = 0 }) (count == 0), less))

pub spends_failing : (failed : Bool) (l : sql.LimitClause) (n : ℕ) → failed ≡ false → 0 < l.count → n ≤ l.offset + l.count → Spends failed (Some l) n true (Some l)
spends_failing failed l n stands some h = rw (stands, some_rows l.count some) (omega (arith, h))

pub fresh_calls : (rest : Option sql.LimitClause) (calls : ℕ) → calls_left false rest calls ≡ most_calls rest calls
fresh_calls None calls = refl
fresh_calls (Some l) calls = refl

-- however often a limit is called
module _ {O : Type 0} (call : O → O → Type 0) where
  left_then : (failed failed' : Bool) (rest rest' : Option sql.LimitClause) (n calls : ℕ) → Spends failed rest n failed' rest' →
      n + calls_left failed' rest' calls ≤ calls_left failed rest (suc calls)
  left_then failed failed' None None n calls spends = omega (arith, spends)
  left_then failed failed' None (Some l) n calls spends = absurd spends
  left_then failed failed' (Some l) None n calls spends = absurd spends
  left_then failed failed' (Some l) (Some l') n calls spends = spends

  pub limit_calls : (calls : ℕ) (s t : Limit O) → Calls (LimitCall call) calls s t → CallsAtMost call (calls_left s.failed s.rest calls) s.input t.input
  limit_calls zero s t e =
      subst (λ (u : Limit O). CallsAtMost call (calls_left s.failed s.rest 0) s.input u.input) e (at_most_more call 0 (calls_left s.failed s.rest 0) s.input s.input (omega arith) (no_calls call s.input))
  limit_calls (suc calls) s t (u, one, rest) =
      at_most_more call (one.0 + calls_left u.failed u.rest calls) (calls_left s.failed s.rest (suc calls)) s.input t.input
      (left_then s.failed u.failed s.rest u.rest one.0 calls one.2)
      (at_most_both call one.0 (calls_left u.failed u.rest calls) s.input u.input t.input one.1 (limit_calls calls u t rest))
