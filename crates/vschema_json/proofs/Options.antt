-- What a test or an option that is known says of its parts.
use Rattle.std.proofs.Common.{◌≡◌, List, [], ◌∷◌, map, Option, Some, None, option_map, option_and_then, unwrap_or, is_some, Bool, true, false, ◌&&◌, ◌||◌, not, refl, sym, ap, ◌∙◌, true≢false, cond, if◌then◌else◌}
use Rattle.std.specs.List.{list_all, list_any}
use Rattle.vschema_json.specs.Json.{all_some}

pub some_same : {A : Type 0} (x y : A) → Some x ≡ Some y → x ≡ y
some_same x y e = ap (λ o. unwrap_or o x) e

pub never : {A : Type 0} {P : Type 0} (x : A) → None ≡ Some x → P
never x e = absurd (true≢false (sym (ap is_some e)))

pub bound : {A B : Type 0} (o : Option A) (f : A → Option B) (y : B) → option_and_then f o ≡ Some y → (x : A) × (o ≡ Some x) × (f x ≡ Some y)
bound None f y e = never y e
bound (Some x) f y e = (x, refl, e)

pub mapped : {A B : Type 0} (o : Option A) (f : A → B) (y : B) → option_map f o ≡ Some y → (x : A) × (o ≡ Some x) × (f x ≡ y)
mapped None f y e = never y e
mapped (Some x) f y e = (x, refl, some_same (f x) y e)

pub tested : {A : Type 0} (b : Bool) (o : Option A) (x : A) → (if b then o else None) ≡ Some x → (b ≡ true) × (o ≡ Some x)
tested true o x e = (refl, e)
tested false o x e = never x e

pub both : (a b : Bool) → a && b ≡ true → (a ≡ true) × (b ≡ true)
both true b e = (refl, e)
both false b e = absurd (true≢false (sym e))

pub neither : (a b : Bool) → a || b ≡ false → (a ≡ false) × (b ≡ false)
neither true b e = absurd (true≢false e)
neither false b e = (refl, e)

pub join : {a b : Bool} → a ≡ true → b ≡ true → a && b ≡ true
join e f = rw (e, f) refl

pub turned : (b : Bool) → b ≡ false → not b ≡ true
turned b e = rw e refl

pub unturned : (b : Bool) → not b ≡ false → b ≡ true
unturned true e = refl
unturned false e = absurd (true≢false e)

pub unfound : {A : Type 0} (b : Bool) (x : A) (rest : Option A) → cond b (Some x) rest ≡ None → (b ≡ false) × (rest ≡ None)
unfound true x rest e = never x (sym e)
unfound false x rest e = (refl, e)

next_passes : {B : Type 0} (p : B → Bool) (o : Option B) (rest : Option (List B)) (bs : List B) → ((b : B) → o ≡ Some b → p b ≡ true)
    → ((cs : List B) → rest ≡ Some cs → list_all p cs ≡ true) → option_and_then (λ x. option_map (λ xs. x ∷ xs) rest) o ≡ Some bs → list_all p bs ≡ true
next_passes p None rest bs first later e = never bs e
next_passes p (Some b) None bs first later e = never bs e
next_passes p (Some b) (Some cs) bs first later e = ap (list_all p) (sym (some_same (b ∷ cs) bs e)) ∙ join (first b refl) (later cs refl)

-- a test that each element passes
pub all_pass : {A B : Type 0} (f : A → Option B) (p : B → Bool) → ((a : A) (b : B) → f a ≡ Some b → p b ≡ true) → (xs : List A) (bs : List B)
    → all_some (map f xs) ≡ Some bs → list_all p bs ≡ true
all_pass f p each [] bs e = ap (list_all p) (sym (some_same [] bs e))
all_pass f p each (x ∷ xs) bs e = next_passes p (f x) (all_some (map f xs)) bs (each x) (all_pass f p each xs) e

next_same : {B C : Type 0} (seen : B → C) (c : C) (cs : List C) (o : Option B) (rest : Option (List B)) (bs : List B) → ((b : B) → o ≡ Some b → seen b ≡ c)
    → ((ds : List B) → rest ≡ Some ds → map seen ds ≡ cs) → option_and_then (λ x. option_map (λ xs. x ∷ xs) rest) o ≡ Some bs → map seen bs ≡ c ∷ cs
next_same seen c cs None rest bs first later e = never bs e
next_same seen c cs (Some b) None bs first later e = never bs e
next_same seen c cs (Some b) (Some ds) bs first later e =
    ap (map seen) (sym (some_same (b ∷ ds) bs e)) ∙ ap (λ x. x ∷ map seen ds) (first b refl) ∙ ap (λ xs. c ∷ xs) (later ds refl)

-- what each element keeps
pub all_same : {A B C : Type 0} (f : A → Option B) (seen : B → C) (kept : A → C) → ((a : A) (b : B) → f a ≡ Some b → seen b ≡ kept a) → (xs : List A) (bs : List B)
    → all_some (map f xs) ≡ Some bs → map seen bs ≡ map kept xs
all_same f seen kept each [] bs e = ap (map seen) (sym (some_same [] bs e))
all_same f seen kept each (x ∷ xs) bs e = next_same seen (kept x) (map kept xs) (f x) (all_some (map f xs)) bs (each x) (all_same f seen kept each xs) e

pub any_never : {A : Type 0} (p : A → Bool) → ((x : A) → p x ≡ false) → (xs : List A) → list_any p xs ≡ false
any_never p none [] = refl
any_never p none (x ∷ xs) = rw (none x) (any_never p none xs)
