-- Names that are found among others, by their places and by an ordered map.
use Rattle.std.proofs.Common.{◌≡◌, ℕ, ◌+◌, ◌-◌, ◌<◌, ◌≤◌, length, drop, get_or, Bool, true, false, cond, ◌||◌, List, [], ◌∷◌, map, bytes_eq, nat_cmp, is_eq, Option, Some, is_some, option_and_then, slice_get, ◌++◌, refl, sym, ap, ◌∙◌, arith, if◌then◌else◌, append_assoc, length-append}
use Rattle.std.proofs.lemmas.Map.Text.{is_eq-slice_cmp}
use Rattle.std.specs.Cmp.Lexicographic.{slice_cmp, nat_list_eq_equiv}
use Rattle.std.specs.List.{list_any, find}
use Rattle.vschema_json.specs.declared.document.DeclaredVindex.{DeclaredVindex}
use Rattle.vschema_json.specs.Places.{ordinal_from}
use Rattle.vschema_json.proofs.Repeats.{from_before}

placed_by : (b c : Bool) (rest : Option ℕ) (found : Bool) (k : ℕ) → b ≡ c → is_some rest ≡ found → is_some (if b then Some k else rest) ≡ c || found
placed_by true c rest found k same e = rw (sym same) refl
placed_by false c rest found k same e = rw (sym same) e

any_from : (name : List ℕ) (names : List (List ℕ)) (k : ℕ) → is_some (ordinal_from (λ n. bytes_eq n name) k names) ≡ list_any (bytes_eq name) names
any_from name [] k = refl
any_from name (n ∷ names) k =
    placed_by (bytes_eq n name) (bytes_eq name n) (ordinal_from (λ m. bytes_eq m name) (k + 1) names) (list_any (bytes_eq name) names) k
    (nat_list_eq_equiv.symm n name) (any_from name names (k + 1))

-- a name that has a place is among them
pub placed_any : (name : List ℕ) (names : List (List ℕ)) → is_some (ordinal_from (λ n. bytes_eq n name) 0 names) ≡ list_any (bytes_eq name) names
placed_any name names = any_from name names 0

mapped_from : {X : Type 0} (f : X → List ℕ) (name : List ℕ) (xs : List X) (k : ℕ) → ordinal_from (λ n. bytes_eq n name) k (map f xs) ≡ ordinal_from (λ x. bytes_eq (f x) name) k xs
mapped_from f name [] k = refl
mapped_from f name (x ∷ xs) k = rw (mapped_from f name xs (k + 1)) refl

pub ordinal_mapped : {X : Type 0} (f : X → List ℕ) (name : List ℕ) (xs : List X) → ordinal_from (λ n. bytes_eq n name) 0 (map f xs) ≡ ordinal_from (λ x. bytes_eq (f x) name) 0 xs
ordinal_mapped f name xs = mapped_from f name xs 0

-- with the text before a place
pub first_before : {X : Type 0} (f : X → List ℕ) (xs : List X) (i : ℕ) (d : X) (q : List ℕ) (later : Option ℕ) → 0 < i → i ≤ length xs
    → later ≡ ordinal_from (λ n. bytes_eq n q) i (map f (drop i xs))
    → cond (is_eq (slice_cmp nat_cmp (f (get_or xs (i - 1) d)) q)) (Some (i - 1)) later ≡ ordinal_from (λ n. bytes_eq n q) (i - 1) (map f (drop (i - 1) xs))
first_before f xs i d q later above within is =
    let same : i - 1 + 1 ≡ i = omega arith in
    rw (from_before f xs i d above within, same, is_eq-slice_cmp (f (get_or xs (i - 1) d)) q, is) refl

at_seam : {X : Type 0} (before : List X) (x : X) (xs : List X) → slice_get (before ++ x ∷ xs) (length before) ≡ Some x
at_seam [] x xs = refl
at_seam (y ∷ before) x xs = at_seam before x xs

seen_by : {X : Type 0} (b : Bool) (all : List X) (k : ℕ) (x : X) (rest : Option ℕ) (found : Option X) → slice_get all k ≡ Some x
    → option_and_then (slice_get all) rest ≡ found → option_and_then (slice_get all) (if b then Some k else rest) ≡ cond b (Some x) found
seen_by true all k x rest found here e = here
seen_by false all k x rest found here e = e

-- what stands at the place of the first that passes is the first that passes
found_from : {X : Type 0} (test : X → Bool) (before xs : List X) → option_and_then (slice_get (before ++ xs)) (ordinal_from test (length before) xs) ≡ find test xs
found_from test before [] = refl
found_from test before (x ∷ xs) =
    let more : length (before ++ x ∷ []) ≡ length before + 1 = length-append before (x ∷ []) in
    let later : option_and_then (slice_get (before ++ x ∷ xs)) (ordinal_from test (length before + 1) xs) ≡ find test xs =
    ap (λ l. option_and_then (slice_get l) (ordinal_from test (length before + 1) xs)) (sym (append_assoc before (x ∷ []) xs))
    ∙ ap (λ n. option_and_then (slice_get ((before ++ x ∷ []) ++ xs)) (ordinal_from test n xs)) (sym more) ∙ found_from test (before ++ x ∷ []) xs in
    seen_by (test x) (before ++ x ∷ xs) (length before) x (ordinal_from test (length before + 1) xs) (find test xs) (at_seam before x xs) later

-- the vindex at the place of a name
pub vindex_placed : (name : List ℕ) (vs : List DeclaredVindex)
    → option_and_then (λ v. v.kind) (option_and_then (slice_get vs) (ordinal_from (λ n. bytes_eq n name) 0 (map (λ v. v.name) vs))) ≡ option_and_then (λ v. v.kind) (find (λ v. bytes_eq v.name name) vs)
vindex_placed name vs =
    ap (λ ordinal. option_and_then (λ (v : DeclaredVindex). v.kind) (option_and_then (slice_get vs) ordinal)) (ordinal_mapped (λ (v : DeclaredVindex). v.name) name vs)
    ∙ ap (option_and_then (λ (v : DeclaredVindex). v.kind)) (found_from (λ (v : DeclaredVindex). bytes_eq v.name name) [] vs)
