-- A map whose keys and values are cloned by equal ones is cloned by an equal one.
use Rattle.std.proofs.Common.{◌≡◌, ◌⊎◌, inl, inr, Result, Ok, Err, IfOk}
use Rattle.std.specs.Prelude.{OnOk, OnErr}
use Rattle.std.specs.Prelude.{MatchResult}
use Rattle.std.specs.BTreeMap.{BTreeMap, IsClone}
use Rattle.std.proofs.lemmas.Map.Entries.{entries_from_clone}

pub copied : {K X E : Type 0} (C : K → K → Type 0) (D : X → X → Type 0) → ((x y : K) → C x y → y ≡ x) → ((v w : X) → D v w → w ≡ v)
    → (m : BTreeMap K X) (r : Result (BTreeMap K X) E) (Q : E → Type 0) → MatchResult r (IsClone C D m) Q → IfOk r (λ copy. copy.entries ≡ m.entries)
copied C D keys values m (Ok n) Q h = entries_from_clone C D keys values m.entries n.entries h
copied C D keys values m (Err e) Q h = tt

-- a value that is cloned by an equal one
pub same_clone : {K E : Type 0} (C : K → K → Type 0) → ((x y : K) → C x y → y ≡ x) → (k : K) (r : Result K E) (Q : E → Type 0) → MatchResult r (C k) Q → IfOk r (λ copy. copy ≡ k)
same_clone C same k (Ok x) Q h = same k x h
same_clone C same k (Err e) Q h = tt

-- ---- what a result says
pub on_ok : {A B X E : Type 0} → (r : Result X E) → (A → B) → OnOk r A → OnOk r B
on_ok (Ok x) f a = f a
on_ok (Err e) f a = tt

pub on_err : {A B X E : Type 0} → (r : Result X E) → (A → B) → OnErr r A → OnErr r B
on_err (Ok x) f a = tt
on_err (Err e) f a = f a

pub ok_or_err : {A B X E : Type 0} → (r : Result X E) → OnOk r A → OnErr r B → A ⊎ B
ok_or_err (Ok x) a b = inl a
ok_or_err (Err e) a b = inr b
