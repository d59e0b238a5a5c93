-- The places of columns by name.
use Rattle.std.proofs.Common.{◌≡◌, ℕ, zero, suc, ◌+◌, ◌==◌, List, [], ◌∷◌, map, slice_get, Option, Some, None, option_map, option_and_then, unwrap_or, is_none, Bool, true, false, ◌||◌, bytes_eq, refl, sym, ap, ◌∙◌, true≢false, arith, eqb-true, eq-eqb, if◌then◌else◌}
use Rattle.std.proofs.lemmas.Slice.Eq.{bytes_eq-Decides}
use Rattle.std.specs.List.{list_all, list_any}
use Rattle.vschema_json.specs.declared.column.Column.{Column}
use Rattle.vschema.specs.declared.schema.Table.{Table}
use Rattle.vschema_json.specs.declared.document.DeclaredTable.{DeclaredTable}
use Rattle.vschema.specs.Schema.{ordinal_from}
use Rattle.vschema.specs.Resolved.{Name}
use Rattle.vschema.specs.Checks.{has_number}
use Rattle.vschema.specs.WriteChecks.{has_twice}
use Rattle.vschema.specs.WellFormed.{has_number_twice, is_needed}
use Rattle.vschema_json.specs.Faults.{ordinal_of, column_of, lacks_column, is_nullable}
use Rattle.vschema.specs.Meant.{ordinal_in}
use Rattle.vschema_json.proofs.Options.{some_same, never, neither, join}

-- an element that passes the test, at its place after a number
abbrev Found : {X : Type 0} → (X → Bool) → ℕ → List X → ℕ → Type 0
Found {X} test n xs p = (x : X) × (i : ℕ) × (p ≡ n + i) × (slice_get xs i ≡ Some x) × (test x ≡ true)

found_after : {X : Type 0} (test : X → Bool) (n : ℕ) (x : X) (xs : List X) (p : ℕ) (b : Bool) → test x ≡ b → (ordinal_from test (n + 1) xs ≡ Some p → Found test (n + 1) xs p)
    → (if b then Some n else ordinal_from test (n + 1) xs) ≡ Some p → Found test n (x ∷ xs) p
found_after test n x xs p true is later e = (x, zero, sym (some_same n p e) ∙ omega arith, refl, is)
found_after test n x xs p false is later e = let l = later e in (l.0, suc l.1, omega (arith, l.2), l.3, l.4)

found_at : {X : Type 0} (test : X → Bool) (n : ℕ) (xs : List X) (p : ℕ) → ordinal_from test n xs ≡ Some p → Found test n xs p
found_at test n [] p e = never p e
found_at test n (x ∷ xs) p e = found_after test n x xs p (test x) refl (found_at test (n + 1) xs p) e

pub present : {X : Type 0} (o : Option X) → is_none o ≡ false → (x : X) × (o ≡ Some x)
present None e = absurd (true≢false e)
present (Some x) e = (x, refl)

-- a column that a table has: it stands at its place, and is what its name finds
pub record HasColumn (t : DeclaredTable) (name : Name) (c : Column) : Type 0 where
  pub stands : slice_get t.columns (ordinal_in t name) ≡ Some c
  pub is_found : column_of t name ≡ Some c
  pub is_named : c.name ≡ name

pub has_column : (t : DeclaredTable) (name : Name) → lacks_column t name ≡ false → (c : Column) × HasColumn t name c
has_column t name e =
    let p = present (ordinal_of t name) e in
    let f = found_at (λ c. bytes_eq c.name name) 0 t.columns p.0 p.1 in
    let at : slice_get t.columns p.0 ≡ Some f.0 = ap (slice_get t.columns) (omega (arith, f.2)) ∙ f.3 in
    let ordinal : ordinal_in t name ≡ p.0 = ap (λ o. unwrap_or o 0) p.1 in (
      f.0,
      record {
        stands = ap (slice_get t.columns) ordinal ∙ at;
        is_found = ap (option_and_then (slice_get t.columns)) p.1 ∙ at;
        is_named = (bytes_eq-Decides f.0.name name).0 f.4;
      },
    )

-- names of one place are one name
pub same_name : (t : DeclaredTable) (a b : Name) → lacks_column t a ≡ false → lacks_column t b ≡ false → ordinal_in t a ≡ ordinal_in t b → a ≡ b
same_name t a b has_a has_b e =
    let x = has_column t a has_a in
    let y = has_column t b has_b in
    let same : x.0 ≡ y.0 = some_same x.0 y.0 (sym x.1.stands ∙ ap (slice_get t.columns) e ∙ y.1.stands) in
    sym x.1.is_named ∙ ap (λ c. c.name) same ∙ y.1.is_named

apart : (t : DeclaredTable) (a b : Name) (c : Bool) → lacks_column t a ≡ false → lacks_column t b ≡ false → bytes_eq a b ≡ false → (ordinal_in t b == ordinal_in t a) ≡ c → c ≡ false
apart t a b false has_a has_b other e = refl
apart t a b true has_a has_b other e =
    let same = same_name t a b has_a has_b (sym (eqb-true (ordinal_in t b) (ordinal_in t a) e)) in
    absurd (true≢false (sym ((bytes_eq-Decides a b).1 same) ∙ other))

ordinals : DeclaredTable → List Name → List ℕ
ordinals t names = map (ordinal_in t) names

ordinal_apart : (t : DeclaredTable) (a : Name) (names : List Name) → lacks_column t a ≡ false → list_any (lacks_column t) names ≡ false → list_any (bytes_eq a) names ≡ false
    → has_number (map (ordinal_in t) names) (ordinal_in t a) ≡ false
ordinal_apart t a [] has_a has other = refl
ordinal_apart t a (b ∷ names) has_a has other =
    let h = neither (lacks_column t b) (list_any (lacks_column t) names) has in
    let o = neither (bytes_eq a b) (list_any (bytes_eq a) names) other in
    rw (apart t a b (ordinal_in t b == ordinal_in t a) has_a h.0 o.0 refl) (ordinal_apart t a names has_a h.1 o.1)

pub ordinals_apart : (t : DeclaredTable) (names : List Name) → list_any (lacks_column t) names ≡ false → has_twice names ≡ false → has_number_twice (map (ordinal_in t) names) ≡ false
ordinals_apart t [] has once = refl
ordinals_apart t (a ∷ names) has once =
    let h = neither (lacks_column t a) (list_any (lacks_column t) names) has in
    let o = neither (list_any (bytes_eq a) names) (has_twice names) once in
    rw (ordinal_apart t a names h.0 h.1 o.0) (ordinals_apart t names h.1 o.1)

or_true : (x : Bool) {y : Bool} → y ≡ true → x || y ≡ true
or_true true e = refl
or_true false e = e

among : (t : DeclaredTable) (a b : Name) (names : List Name) (c : Bool) → bytes_eq a b ≡ c
    → (list_any (bytes_eq a) names ≡ true → has_number (map (ordinal_in t) names) (ordinal_in t a) ≡ true) → c || list_any (bytes_eq a) names ≡ true
    → has_number (map (ordinal_in t) (b ∷ names)) (ordinal_in t a) ≡ true
among t a b names true is later e = rw (eq-eqb (ordinal_in t b) (ordinal_in t a) (ap (ordinal_in t) (sym ((bytes_eq-Decides a b).0 is)))) refl
among t a b names false is later e = or_true (ordinal_in t b == ordinal_in t a) (later e)

-- a name among others has a place among theirs
pub ordinal_among : (t : DeclaredTable) (a : Name) (names : List Name) → list_any (bytes_eq a) names ≡ true → has_number (map (ordinal_in t) names) (ordinal_in t a) ≡ true
ordinal_among t a [] e = absurd (true≢false (sym e))
ordinal_among t a (b ∷ names) e = among t a b names (bytes_eq a b) refl (ordinal_among t a names) e

not_null : (t : DeclaredTable) (name : Name) (c : Column) → column_of t name ≡ Some c → is_nullable t name ≡ false → c.nullable ≡ false
not_null t name c e f = sym (ap (λ o. unwrap_or (option_map (λ c. c.nullable) o) false) e) ∙ f

pub needed : (t : DeclaredTable) (u : Table) (name : Name) → u.columns ≡ t.columns → lacks_column t name ≡ false → is_nullable t name ≡ false → is_needed u (ordinal_in t name) ≡ true
needed t u name same has null =
    let x = has_column t name has in
    rw (same, x.1.stands, not_null t name x.0 x.1.is_found null) refl

pub all_needed : (t : DeclaredTable) (u : Table) (names : List Name) → u.columns ≡ t.columns → list_any (lacks_column t) names ≡ false → list_any (is_nullable t) names ≡ false
    → list_all (is_needed u) (map (ordinal_in t) names) ≡ true
all_needed t u [] same has null = refl
all_needed t u (a ∷ names) same has null =
    let h = neither (lacks_column t a) (list_any (lacks_column t) names) has in
    let n = neither (is_nullable t a) (list_any (is_nullable t) names) null in
    join (needed t u a same h.0 n.0) (all_needed t u names same h.1 n.1)
