-- The changes of a write: of each kind, and over the same rows in another order.
use Rattle.std.proofs.Common.{◌≡◌, ℕ, zero, suc, Bool, true, false, List, [], ◌∷◌, map, filter, flat_map, Option, Result, Ok, Err, refl, sym, ap, ◌∙◌, subst}
use Rattle.std.proofs.Common.{IsPermutation}
use Rattle.std.proofs.lemmas.List.Sorted.{IsPermutation-refl, IsPermutation-map, list_any-IsPermutation}
use Rattle.vt_value.specs.Values.{Row}
use Rattle.vt_value.specs.declared.refusal.Refusal.{Refusal}
use Rattle.vt_value.specs.declared.refusal.Refusal.TheVariants.{DuplicateKey}
use Rattle.sql_tree.specs.declared.Condition.{Condition}
use Rattle.vschema.specs.declared.schema.Table.{Table}
use Rattle.vschema.specs.declared.changes.Write.{Write}
use Rattle.vschema.specs.declared.changes.Write.TheVariants.{Insert, Update, Delete}
use Rattle.vschema.specs.declared.changes.RowChange.{RowChange}
use Rattle.vschema.specs.declared.changes.RowChange.TheVariants.{Added, Removed}
use Rattle.vschema.specs.Schema.{key_of}
use Rattle.vschema.specs.Database.{Database, SameRows, rows_of, same_row}
use Rattle.sql_eval.specs.Conditions.{is_kept}
use Rattle.sql_eval.specs.Writes.{has_duplicate, row_updates, changes_over}
use Rattle.sql_eval.proofs.RowLemmas.{has_duplicate-same}
use Rattle.sql_eval.proofs.Permutations.{IsPermutation-flat_map, IsPermutation-filter}

pub inserts : (t : Table) (w : Write) (n : ℕ) (new rows : List Row) (changes : List RowChange) → w ≡ Insert n new → has_duplicate t rows new ≡ false
    → changes ≡ map (Added n) new → changes_over t w rows ≡ Ok changes
inserts t w n new rows changes is none c = ap (λ w. changes_over t w rows) is ∙ simp (none, c)

pub deletes : (t : Table) (w : Write) (n : ℕ) (condition : Option (Condition ℕ)) (rows : List Row) (changes : List RowChange)
    → w ≡ Delete n condition → changes ≡ map (Removed n) (filter (is_kept condition) rows) → changes_over t w rows ≡ Ok changes
deletes t w n condition rows changes is c = ap (λ w. changes_over t w rows) is ∙ ap Ok (sym c)

-- over the same rows in another order: the same refusal, and the same changes in another order
pub record SameChanges (t : Table) (w : Write) (a b : List Row) : Type 0 where
  pub refused : changes_over t w a ≡ Err DuplicateKey → changes_over t w b ≡ Err DuplicateKey
  pub changed : (changes : List RowChange) → changes_over t w a ≡ Ok changes
      → (others : List RowChange) × (changes_over t w b ≡ Ok others) × IsPermutation changes others

abbrev Changes : Type 0
Changes = Result (List RowChange) Refusal

some_changes : Changes → List RowChange
some_changes (Ok changes) = changes
some_changes (Err r) = []

pub ok_is : (a b : List RowChange) → ◌≡◌ {A = Changes} (Ok a) (Ok b) → a ≡ b
unfolding some_changes
ok_is a b e = ap some_changes e

same_from : (t : Table) (w : Write) (a b : List Row) (x y : List RowChange) → changes_over t w a ≡ Ok x → changes_over t w b ≡ Ok y
    → IsPermutation x y → SameChanges t w a b
same_from t w a b x y e f h = record {
  refused = λ refused. let wrong : ◌≡◌ {A = Changes} (Ok x) (Err DuplicateKey) = sym e ∙ refused in absurd (cc wrong);
  changed = λ changes is. (y, f, subst (λ l. IsPermutation l y) (ok_is x changes (sym e ∙ is)) h);
}

pub same_changes : (t : Table) (w : Write) (a b : List Row) → IsPermutation a b → SameChanges t w a b
same_changes t (Insert n new) a b h = by (has_duplicate t a new) refl
  where
    same : has_duplicate t a new ≡ has_duplicate t b new
    same = has_duplicate-same t a b new (λ row. list_any-IsPermutation (λ r. same_row (key_of t row) (key_of t r)) a b h)

    by : (d : Bool) → has_duplicate t a new ≡ d → SameChanges t (Insert n new) a b
    by true e =
        let f : has_duplicate t b new ≡ true = sym same ∙ e in
        record {
          refused = λ _. simp f;
          changed = λ changes is. let wrong : ◌≡◌ {A = Changes} (Err DuplicateKey) (Ok changes) = rw e at is in absurd (cc wrong);
        }
    by false e =
        let f : has_duplicate t b new ≡ false = sym same ∙ e in
        same_from t (Insert n new) a b (map (Added n) new) (map (Added n) new) (simp e) (simp f) (IsPermutation-refl (map (Added n) new))
same_changes t (Update n assignments condition) a b h =
    same_from t (Update n assignments condition) a b (flat_map (row_updates n assignments condition) a) (flat_map (row_updates n assignments condition) b)
    refl refl (IsPermutation-flat_map (row_updates n assignments condition) a b h)
same_changes t (Delete n condition) a b h =
    same_from t (Delete n condition) a b (map (Removed n) (filter (is_kept condition) a)) (map (Removed n) (filter (is_kept condition) b))
    refl refl (IsPermutation-map (Removed n) (filter (is_kept condition) a) (filter (is_kept condition) b) (IsPermutation-filter (is_kept condition) a b h))

-- the rows of a table in databases with the same rows
pub rows-same : (a b : Database) → SameRows a b → (n : ℕ) → IsPermutation (rows_of a n) (rows_of b n)
rows-same [] [] h n = IsPermutation-refl []
rows-same [] (ys ∷ b) h n = absurd h
rows-same (xs ∷ a) [] h n = absurd h
rows-same (xs ∷ a) (ys ∷ b) h zero = h.0
rows-same (xs ∷ a) (ys ∷ b) h (suc n) = rows-same a b h.1 n
