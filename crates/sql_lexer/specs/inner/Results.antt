-- What a reading function gives, and what the code that reads returns. No public clause cites this file.
use Rattle.std.specs.Prelude.{◌≡◌, Option, Some, None, Result, Ok, Err}
use Rattle.vt_value.specs.declared.refusal.Refusal.{Refusal}
use Rattle.vt_value.specs.declared.refusal.Refusal.TheVariants as R

infixl 10 ◌>>=◌
abbrev pub ◌>>=◌ : {A B : Type 0} → Option A → (A → Option B) → Option B
(Some x) >>= f = f x
None >>= f = None

-- What a function returned, seen by view, is what reading gives, unless memory ran out.
abbrev pub Fails : {Y : Type 0} → Refusal → Option Y → Type 0
Fails R.OutOfMemory read = Unit {0}
Fails R.SyntaxError read = read ≡ None
Fails _ read = ⊥

abbrev pub AgreesWith : {X Y : Type 0} → (X → Y) → Result X Refusal → Option Y → Type 0
AgreesWith view (Ok x) read = read ≡ Some (view x)
AgreesWith view (Err e) read = Fails e read
