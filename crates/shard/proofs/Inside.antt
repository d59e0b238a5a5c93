-- Writes over rows that lie in a place change rows that lie there alone.
use Rattle.std.proofs.Common.{◌≡◌, ℕ, zero, suc, Bool, true, false, cond, List, [], ◌∷◌, ◌++◌, get_or, set, refl, sym, ap, ◌∙◌, subst}
use Rattle.std.specs.List.{AllByRecursion}
use Rattle.std.proofs.lemmas.List.Elements.{All-from_recursion, recursion_from_All}
use Rattle.std.proofs.lemmas.List.Sorted.{IsPermutation-sym, IsPermutation-trans, All-permutation}
use Rattle.std.proofs.lemmas.List.{append-nil, append_assoc}
use Rattle.vt_value.specs.Values.{Row}
use Rattle.vschema.specs.declared.schema.Place.{Place}
use Rattle.vschema.specs.declared.schema.VSchema.{VSchema}
use Rattle.vschema.specs.declared.changes.Write.{Write}
use Rattle.vschema.specs.declared.changes.RowChange.{RowChange}
use Rattle.vschema.specs.declared.changes.RowChange.TheVariants.{Added, Replaced, Removed}
use Rattle.vschema.specs.Schema.{no_table}
use Rattle.vschema.specs.Database.{Database, SameRows, rows_of, same_row, without, lies_in, applied, all_applied, change_lies_in}
use Rattle.vschema.specs.TypedWrites.{IsTypedWrite}
use Rattle.shard_contents.specs.Writes.{written_table}
use Rattle.shard_contents.proofs.ChangeLemmas.{same_changes, rows-same}
use Rattle.shard_contents.specs.Legal.{IsChangeOf, AreChangesOf}
use Rattle.shard_contents.proofs.Lists.{all-append, all-from_list_all}
use Rattle.shard_contents.proofs.Typed.{keeps_keys-from_typed}
use Rattle.shard_contents.specs.Commits.{IsPlaced}
use Rattle.shard_contents.proofs.Bags.{all_applied-same}
use Rattle.shard_contents.proofs.Commits.{applied-append}
use Rattle.shard_contents.proofs.Places.{changes_in}

module _ (schema : VSchema) where
  -- the same rows in another order have the same changes
  pub change_same : (w : Write) (a b : Database) (changes : List RowChange) → SameRows a b → IsChangeOf schema w a changes → IsChangeOf schema w b changes
  change_same w a b changes same (exact, is, of) =
      let n = written_table w in
      let other = (same_changes (get_or schema.tables n no_table) w (rows_of a n) (rows_of b n) (rows-same a b same n)).changed exact is in
      (other.0, other.1, IsPermutation-trans other.0 exact changes (IsPermutation-sym exact other.0 other.2) of)

  pub changes_same : (writes : List Write) (a b : Database) (changes : List RowChange) → SameRows a b → AreChangesOf schema writes a changes
      → AreChangesOf schema writes b changes
  changes_same [] a b changes same are = are
  changes_same (w ∷ writes) a b changes same (first, rest, split, of, are) =
      (first, rest, split, change_same w a b first same of, changes_same writes (all_applied first a) (all_applied first b) rest (all_applied-same first a b same) are)

  -- one more write after others
  pub snoc : (writes : List Write) (w : Write) (db : Database) (changes more : List RowChange) → AreChangesOf schema writes db changes
      → IsChangeOf schema w (all_applied changes db) more → AreChangesOf schema (writes ++ w ∷ []) db (changes ++ more)
  snoc [] w db changes more are is =
      let at : IsChangeOf schema w db more = subst (λ l. IsChangeOf schema w (all_applied l db) more) are is in
      (more, [], ap (λ l. l ++ more) are ∙ sym (append-nil more), at, refl)
  snoc (v ∷ writes) w db changes more (first, rest, split, of, are) is =
      let at : IsChangeOf schema w (all_applied rest (all_applied first db)) more =
      subst (λ d. IsChangeOf schema w d more) (ap (λ l. all_applied l db) split ∙ applied-append first rest db) is in
      (first, rest ++ more, ap (λ l. l ++ more) split ∙ append_assoc first rest more, of, snoc writes w (all_applied first db) rest more are at)

module _ (schema : VSchema) (p : Place) where
  abbrev LiesIn : ℕ → Row → Type 0
  LiesIn n row = lies_in p (get_or schema.tables n no_table) row ≡ true

  -- all rows lie in the place
  abbrev pub Lie : Database → Type 0
  Lie db = (n : ℕ) → AllByRecursion (LiesIn n) (rows_of db n)

  abbrev IsIn : RowChange → Type 0
  IsIn c = change_lies_in schema p c ≡ true

  set_each : (P : ℕ → Row → Type 0) (db : Database) (n : ℕ) (rows : List Row) → ((m : ℕ) → AllByRecursion (P m) (get_or db m []))
      → AllByRecursion (P n) rows → (m : ℕ) → AllByRecursion (P m) (get_or (set db n rows) m [])
  set_each P [] n rows h g m = h m
  set_each P (x ∷ db) zero rows h g zero = g
  set_each P (x ∷ db) zero rows h g (suc m) = h (suc m)
  set_each P (x ∷ db) (suc n) rows h g zero = h zero
  set_each P (x ∷ db) (suc n) rows h g (suc m) = set_each (λ k. P (suc k)) db n rows (λ k. h (suc k)) g m

  all_without : (P : Row → Type 0) (r : Row) (rows : List Row) → AllByRecursion P rows → AllByRecursion P (without r rows)
  all_without P r [] h = tt
  all_without P r (x ∷ rows) h = by (same_row r x) (all_without P r rows h.1)
    where
      by : (b : Bool) → AllByRecursion P (without r rows) → AllByRecursion P (cond b rows (x ∷ without r rows))
      by true g = h.1
      by false g = (h.0, g)

  lie_applied : (c : RowChange) (db : Database) → IsIn c → Lie db → Lie (applied c db)
  lie_applied (Added n row) db is lie =
      set_each LiesIn db n (get_or db n [] ++ row ∷ []) lie (all-append (LiesIn n) (get_or db n []) (row ∷ []) (lie n) (is, tt))
  lie_applied (Replaced n old new) db is lie =
      set_each LiesIn db n (without old (get_or db n []) ++ new ∷ []) lie
      (all-append (LiesIn n) (without old (get_or db n [])) (new ∷ []) (all_without (LiesIn n) old (get_or db n []) (lie n)) (is, tt))
  lie_applied (Removed n row) db is lie =
      set_each LiesIn db n (without row (get_or db n [])) lie (all_without (LiesIn n) row (get_or db n []) (lie n))

  pub lie_after : (changes : List RowChange) (db : Database) → AllByRecursion IsIn changes → Lie db → Lie (all_applied changes db)
  lie_after [] db is lie = lie
  lie_after (c ∷ changes) db is lie = lie_after changes (applied c db) is.1 (lie_applied c db is.0 lie)

  pub change_inside : (w : Write) (db : Database) (changes : List RowChange) → IsTypedWrite schema w → IsPlaced schema p w → Lie db
      → IsChangeOf schema w db changes → AllByRecursion IsIn changes
  change_inside w db changes typed placed lie (exact, is, of) =
      recursion_from_All IsIn changes
      (All-permutation IsIn exact changes of
      (All-from_recursion IsIn exact
      (all-from_list_all (change_lies_in schema p) exact
      (changes_in schema p w db exact (keeps_keys-from_typed schema w typed) placed (lie (written_table w)) is))))

  pub all_inside : (writes : List Write) (db : Database) (changes : List RowChange) → AllByRecursion (IsTypedWrite schema) writes
      → AllByRecursion (IsPlaced schema p) writes → Lie db → AreChangesOf schema writes db changes → AllByRecursion IsIn changes
  all_inside [] db changes typed placed lie are = subst (AllByRecursion IsIn) (sym are) tt
  all_inside (w ∷ writes) db changes typed placed lie (first, rest, split, of, are) =
      let here = change_inside w db first typed.0 placed.0 lie of in
      subst (AllByRecursion IsIn) (sym split)
      (all-append IsIn first rest here (all_inside writes (all_applied first db) rest typed.1 placed.1 (lie_after first db here lie) are))
