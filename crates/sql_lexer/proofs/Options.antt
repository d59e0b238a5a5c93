-- What it takes that a reading gives something.
use Rattle.std.proofs.Common.{◌≡◌, Bool, true, false, cond, Option, Some, None, Result, Ok, Err, refl, sym}
use Rattle.std.specs.Prelude.{MatchResult}
use Rattle.vt_value.specs.declared.refusal.Refusal.{Refusal}
use Rattle.vt_value.specs.declared.refusal.Refusal.TheVariants as r
use Rattle.sql_lexer.specs.inner.Results.{◌>>=◌, AgreesWith}

pub some_is : {A : Type 0} (x y : A) → ◌≡◌ {A = Option A} (Some x) (Some y) → x ≡ y
some_is x y e = cc

pub bind_some : {A B : Type 0} (r : Option A) (f : A → Option B) (y : B) → (r >>= f) ≡ Some y → (x : A) × (r ≡ Some x) × (f x ≡ Some y)
bind_some (Some x) f y e = (x, refl, e)
bind_some None f y e = absurd cc

-- what follows from each step of a reading that gave something
pub bound : {A B : Type 0} {P : Type 0} (r : Option A) (f : A → Option B) (y : B) → (r >>= f) ≡ Some y → ((x : A) → r ≡ Some x → f x ≡ Some y → P) → P
bound (Some x) f y e then = then x refl e
bound None f y e then = absurd cc

pub guard_some : {A : Type 0} (b : Bool) (x y : A) → cond b (Some x) None ≡ Some y → (b ≡ true) × (x ≡ y)
guard_some true x y e = (refl, cc)
guard_some false x y e = absurd cc

pub guard_none : {A : Type 0} (b : Bool) (x : A) → cond b (Some x) None ≡ None → b ≡ false
guard_none true x e = absurd cc
guard_none false x e = refl

pub unless_some : {A : Type 0} (b : Bool) (x y : A) → cond b None (Some x) ≡ Some y → (b ≡ false) × (x ≡ y)
unless_some false x y e = (refl, cc)
unless_some true x y e = absurd cc

-- what is read is given, unless memory ran out
pub given : {X Y : Type 0} (view : X → Y) (read : Y) (result : Result X Refusal) → AgreesWith view result (Some read)
    → MatchResult result (λ v. view v ≡ read) (λ e. e ≡ r.OutOfMemory)
given view read (Ok v) e = sym (some_is read (view v) e)
given view read (Err r.OutOfMemory) h = refl
given view read (Err r.SyntaxError) h = absurd cc
given view read (Err _) h = absurd h
