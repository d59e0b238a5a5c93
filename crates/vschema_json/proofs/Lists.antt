-- Lists that are read element by element, and JSON arrays and objects with the values that hold them.
use Rattle.std.proofs.Common.{◌≡◌, ℕ, List, [], ◌∷◌, ◌++◌, map, Option, Some, None, option_map, Bool, String, Global, string_bytes, string_cmp, nat_cmp, is_eq, Less, bytes_eq, false, refl, sym, ap, ◌∙◌, append_assoc}
use Rattle.std.proofs.lemmas.Map.Text.{is_eq-slice_cmp}
use Rattle.std.specs.Cmp.Lexicographic.{slice_cmp}
use Rattle.std.specs.List.{list_any, AllByRecursion}
use Rattle.std.specs.List.Sorted.{IsStrictlySortedBy}
use Rattle.std.specs.Map.{keys_of}
use Rattle.serde_json.specs.Data.{Data}
use Rattle.serde_json.specs.Find.{as_array}
use Rattle.serde_json.specs.View.{view, items_view, members_view}
use Rattle.serde_json.specs.declared.value.Value.{Value}
use Rattle.vschema_json.specs.Json.{all_some, array_of, elements, named_values}
use Rattle.vschema_json.specs.Twice.{has_twice}

pub list_any_map : {X Y : Type 0} (p : Y → Bool) (f : X → Y) (xs : List X) → list_any p (map f xs) ≡ list_any (λ x. p (f x)) xs
list_any_map p f [] = refl
list_any_map p f (x ∷ xs) = rw (list_any_map p f xs) refl

abbrev pub Entry : Type 0
Entry = String Global × Value

-- what a loop has read, and what is left
abbrev pub resumed : {A : Type 0} → List A → Option (List A) → Option (List A)
resumed found rest = option_map (λ xs. found ++ xs) rest

pub resumed_more : {A : Type 0} (found : List A) (x : A) (rest : Option (List A)) → resumed found (option_map (λ xs. x ∷ xs) rest) ≡ resumed (found ++ x ∷ []) rest
resumed_more found x None = refl
resumed_more found x (Some xs) = ap Some (sym (append_assoc found (x ∷ []) xs))

-- the next one is read
pub reads_more : {A B : Type 0} (f : A → Option B) (found : List B) (x : B) (a : A) (left : List A) → f a ≡ Some x
    → resumed found (all_some (map f (a ∷ left))) ≡ resumed (found ++ x ∷ []) (all_some (map f left))
reads_more f found x a left e = rw e (resumed_more found x (all_some (map f left)))

-- the next one isn't
pub reads_none : {A B : Type 0} (f : A → Option B) (found : List B) (a : A) (left : List A) → f a ≡ None → resumed found (all_some (map f (a ∷ left))) ≡ None
reads_none f found a left e = rw e refl

-- an object's members, each with its name
abbrev pub named : Entry → List ℕ × Data
named e = (string_bytes e.0, view e.1)

pub named_view : (es : List Entry) → named_values (members_view es) ≡ map named es
named_view [] = refl
named_view (e ∷ es) = ap (λ ms. named e ∷ ms) (named_view es)

-- a text isn't among the names that come after it
above : (name : List ℕ) (es : List Entry) → AllByRecursion (λ k. slice_cmp nat_cmp name (string_bytes k) ≡ Less) (keys_of es) → list_any (bytes_eq name) (map (λ m. m.0) (named_values (members_view es))) ≡ false
above name [] h = refl
above name (e ∷ es) h =
    let other : bytes_eq name (string_bytes e.0) ≡ false = sym (is_eq-slice_cmp name (string_bytes e.0)) ∙ ap is_eq h.0 in
    rw other (above name es h.1)

-- an object has each name once
pub names_once : (es : List Entry) → IsStrictlySortedBy string_cmp (keys_of es) → has_twice (map (λ m. m.0) (named_values (members_view es))) ≡ false
unfolding IsStrictlySortedBy
names_once [] h = refl
names_once (e ∷ es) h = rw (above (string_bytes e.0) es h.0) (names_once es h.1)

all_seen : {B : Type 0} (reads : Data → B) (vs : List Value) → map reads (elements (items_view vs)) ≡ map (λ v. reads (view v)) vs
all_seen reads [] = refl
all_seen reads (v ∷ vs) = ap (λ xs. reads (view v) ∷ xs) (all_seen reads vs)

pub array_seen : {B : Type 0} (reads : Data → Option B) (vs : List Value) (d : Data) → Some (items_view vs) ≡ as_array d → array_of reads d ≡ all_some (map (λ v. reads (view v)) vs)
array_seen reads vs d e = rw (sym e) (ap all_some (all_seen reads vs))
