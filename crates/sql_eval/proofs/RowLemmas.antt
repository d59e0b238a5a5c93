-- Equal rows and equal keys, value by value.
use Rattle.std.proofs.Common.{◌≡◌, ℕ, ◌+◌, ◌<◌, get_or, take, drop, Bool, true, false, ◌&&◌, ◌||◌, List, [], ◌∷◌, ◌++◌, length, map, zip, refl, sym, ap, ◌∙◌, arith}
use Rattle.std.specs.List.{list_all, list_any}
use Rattle.std.specs.Ordering.{is_eq, ordering_then}
use Rattle.std.specs.Cmp.Lexicographic.{slice_cmp}
use Rattle.std.proofs.lemmas.List.{at_drop_more, take_more}
use Rattle.std.proofs.lemmas.List.Folds.{list_any-append}
use Rattle.std.specs.declared.cmp.Ordering.{Ordering}
use Rattle.std.specs.declared.cmp.Ordering.TheVariants.{Less, Equal, Greater}
use Rattle.vt_value.specs.Values.{Row, value_cmp}
use Rattle.vschema.specs.declared.schema.Table.{Table}
use Rattle.vschema.specs.Schema.{key_of}
use Rattle.vschema.specs.Database.{same_row}
use Rattle.sql_eval.specs.Writes.{has_duplicate}

equal_then : (a b : Ordering) → is_eq (ordering_then a b) ≡ (is_eq a && is_eq b)
equal_then Less b = refl
equal_then Equal b = refl
equal_then Greater b = refl

-- rows of as many values
pub same_row-zip : (a b : Row) → length a ≡ length b → list_all (λ p. is_eq (value_cmp p.0 p.1)) (zip a b) ≡ same_row a b
same_row-zip [] [] e = refl
same_row-zip [] (y ∷ b) e = absurd (omega (arith, e))
same_row-zip (x ∷ a) [] e = absurd (omega (arith, e))
same_row-zip (x ∷ a) (y ∷ b) e =
    ap (λ z. is_eq (value_cmp x y) && z) (same_row-zip a b (omega (arith, e))) ∙ sym (equal_then (value_cmp x y) (slice_cmp value_cmp a b))

pub same_row-length : (a b : Row) → (length a ≡ length b → ⊥) → same_row a b ≡ false
same_row-length [] [] n = absurd (n refl)
same_row-length [] (y ∷ b) n = refl
same_row-length (x ∷ a) [] n = refl
same_row-length (x ∷ a) (y ∷ b) n = equal_then (value_cmp x y) (slice_cmp value_cmp a b) ∙ by (is_eq (value_cmp x y)) (same_row-length a b (λ e. n (omega (arith, e))))
  where
    by : (c : Bool) → same_row a b ≡ false → (c && same_row a b) ≡ false
    by true e = e
    by false e = refl

pub same_row-map : (f g : ℕ → Rattle.vt_value.specs.declared.value.Value.Value) (ns : List ℕ)
    → list_all (λ n. is_eq (value_cmp (f n) (g n))) ns ≡ same_row (map f ns) (map g ns)
same_row-map f g [] = refl
same_row-map f g (n ∷ ns) =
    ap (λ z. is_eq (value_cmp (f n) (g n)) && z) (same_row-map f g ns)
    ∙ sym (equal_then (value_cmp (f n) (g n)) (slice_cmp value_cmp (map f ns) (map g ns)))

-- a row of the list has this row's key
abbrev pub has_key : Table → List Row → Row → Bool
has_key t rows new = list_any (λ row. same_row (key_of t new) (key_of t row)) rows

-- which keys are there decides it alone
pub has_duplicate-same : (t : Table) (a b new : List Row) → ((row : Row) → has_key t a row ≡ has_key t b row) → has_duplicate t a new ≡ has_duplicate t b new
has_duplicate-same t a b [] h = refl
has_duplicate-same t a b (row ∷ new) h =
    ap (λ z. z || has_duplicate t (row ∷ a) new) (h row)
    ∙ ap (λ z. has_key t b row || z) (has_duplicate-same t (row ∷ a) (row ∷ b) new (λ r. ap (λ z. same_row (key_of t r) (key_of t row) || z) (h r)))

pub has_key-append : (t : Table) (a b : List Row) (row : Row) → has_key t (a ++ b) row ≡ (has_key t a row || has_key t b row)
has_key-append t a b row = list_any-append (λ r. same_row (key_of t row) (key_of t r)) a b

or_last : (k a b : Bool) → (k || (a || b)) ≡ (a || (b || (k || false)))
or_last true true b = refl
or_last true false true = refl
or_last true false false = refl
or_last false true b = refl
or_last false false true = refl
or_last false false false = refl

-- a new row whose key is not there and not before it is there for those after it
pub has_duplicate-next : (t : Table) (rows front : List Row) (row : Row) (back : List Row) → has_key t rows row ≡ false → has_key t front row ≡ false
    → has_duplicate t (rows ++ front) (row ∷ back) ≡ has_duplicate t (rows ++ (front ++ row ∷ [])) back
has_duplicate-next t rows front row back e f =
    ap (λ z. z || has_duplicate t (row ∷ (rows ++ front)) back) none
    ∙ has_duplicate-same t (row ∷ (rows ++ front)) (rows ++ (front ++ row ∷ [])) back same
  where
    none : has_key t (rows ++ front) row ≡ false
    none = has_key-append t rows front row ∙ simp (e, f)

    same : (r : Row) → has_key t (row ∷ (rows ++ front)) r ≡ has_key t (rows ++ (front ++ row ∷ [])) r
    same r =
        let k = same_row (key_of t r) (key_of t row) in
        ap (λ z. k || z) (has_key-append t rows front r) ∙ or_last k (has_key t rows r) (has_key t front r)
        ∙ ap (λ z. has_key t rows r || z) (sym (has_key-append t front (row ∷ []) r)) ∙ sym (has_key-append t rows (front ++ row ∷ []) r)

-- the same at the i-th new row
pub has_duplicate-step : (t : Table) (rows new : List Row) (i : ℕ) (row : Row) → i < length new → row ≡ get_or new i row → has_key t rows row ≡ false
    → has_key t (take i new) row ≡ false → has_duplicate t (rows ++ take i new) (drop i new) ≡ has_duplicate t (rows ++ take (i + 1) new) (drop (i + 1) new)
has_duplicate-step t rows new i row below is e f =
    at_drop_more (has_duplicate t (rows ++ take i new)) new i row below ∙ ap (λ r. has_duplicate t (rows ++ take i new) (r ∷ drop (i + 1) new)) (sym is)
    ∙ has_duplicate-next t rows (take i new) row (drop (i + 1) new) e f
    ∙ ap (λ z. has_duplicate t (rows ++ z) (drop (i + 1) new)) (ap (λ r. take i new ++ r ∷ []) is ∙ sym (take_more new i row below))
