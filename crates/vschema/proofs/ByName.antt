-- A column's place by name, and columns whose names are apart.
use Rattle.std.proofs.Common.{◌≡◌, ℕ, suc, zero, ◌+◌, ◌<◌, length, take, get_or, false, List, [], ◌∷◌, map, Bool, bytes_eq, refl, ◌∙◌, arith}
use Rattle.std.specs.List.{list_any, position, position_from}
use Rattle.std.proofs.lemmas.Iterator.Adapters.{position_from-zero}
use Rattle.std.specs.Cmp.Lexicographic.{nat_list_eq_equiv}
use Rattle.vschema_json.specs.declared.column.Column.{Column}
use Rattle.vschema.specs.Schema.{ordinal_from}
use Rattle.vschema.specs.WriteChecks.{has_twice}
use Rattle.vschema_json.proofs.Options.{neither}

placed_from : {X : Type 0} (p q : X → Bool) → ((x : X) → p x ≡ q x) → (n : ℕ) (xs : List X) → position_from p n xs ≡ ordinal_from q n xs
placed_from p q e n [] = refl
placed_from p q e n (x ∷ xs) = rw (e x) (rw (placed_from p q e (n + 1) xs) refl)

pub ordinal_by_name : (name : List ℕ) (cs : List Column) → position (λ c. bytes_eq name c.name) cs ≡ ordinal_from (λ c. bytes_eq c.name name) 0 cs
ordinal_by_name name cs =
    position_from-zero (λ c. bytes_eq name c.name) cs
    ∙ placed_from (λ c. bytes_eq name c.name) (λ c. bytes_eq c.name name) (λ c. nat_list_eq_equiv.symm name c.name) 0 cs

abbrev pub names : List Column → List (List ℕ)
names cs = map (λ c. c.name) cs

-- none has the name that none of the names is
none_at : (name : List ℕ) (cs : List Column) (i : ℕ) (d : Column) → i < length cs → list_any (bytes_eq name) (names cs) ≡ false
    → bytes_eq name (get_or cs i d).name ≡ false
none_at name [] i d within none = absurd (omega arith)
none_at name (c ∷ cs) zero d within none = (neither (bytes_eq name c.name) (list_any (bytes_eq name) (names cs)) none).0
none_at name (c ∷ cs) (suc i) d within none =
    none_at name cs i d (omega arith) (neither (bytes_eq name c.name) (list_any (bytes_eq name) (names cs)) none).1

-- where no name is twice, no column before one has its name
pub none_before : (cs : List Column) (i : ℕ) (d : Column) → i < length cs → has_twice (names cs) ≡ false
    → list_any (λ c. bytes_eq (get_or cs i d).name c.name) (take i cs) ≡ false
none_before [] i d within once = absurd (omega arith)
none_before (c ∷ cs) zero d within once = refl
none_before (c ∷ cs) (suc i) d within once =
    let apart = neither (list_any (bytes_eq c.name) (names cs)) (has_twice (names cs)) once in
    let other = nat_list_eq_equiv.symm (get_or cs i d).name c.name ∙ none_at c.name cs i d (omega arith) apart.0 in
    rw other (none_before cs i d (omega arith) apart.1)
