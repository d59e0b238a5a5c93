-- A loop that prints members with a word between them.
use Rattle.std.proofs.Common.{◌≡◌, ℕ, ◌+◌, ◌<◌, List, [], ◌∷◌, ◌++◌, length, get_or, take, map, refl, append_assoc, arith}
use Rattle.std.proofs.lemmas.List.{append-nil, take_more, map_push, length-map, length-take}
use Rattle.sql_tree.specs.declared.Condition.{Condition}
use Rattle.sql_tree.specs.declared.ColumnName.{ColumnName}
use Rattle.sql_tree.specs.Printing.{following, joined, Printed, condition_printed}

following-push : (sep : List ℕ) (all : List (List ℕ)) (x : List ℕ) → following sep (all ++ x ∷ []) ≡ following sep all ++ (sep ++ x)
following-push sep [] x = simp append-nil
following-push sep (ts ∷ all) x = rw (following-push sep all x) (simp append_assoc)

joined-push : (sep : List ℕ) (all : List (List ℕ)) (x : List ℕ) → 0 < length all → joined sep (all ++ x ∷ []) ≡ joined sep all ++ (sep ++ x)
joined-push sep [] x h = absurd (omega arith)
joined-push sep (ts ∷ all) x h = rw (following-push sep all x) (simp append_assoc)

module _ (inside : Printed → List ℕ) (sep : List ℕ) (xs : List (Condition ColumnName)) where
  abbrev members : ℕ → List (List ℕ)
  members i = map inside (map condition_printed (take i xs))

  members-more : (i : ℕ) (x : Condition ColumnName) → i < length xs → x ≡ get_or xs i x → members (i + 1) ≡ members i ++ inside (condition_printed x) ∷ []
  members-more i x lt is =
      rw (
        take_more xs i x lt,
        ← is,
        map_push condition_printed (take i xs) x,
        map_push inside (map condition_printed (take i xs)) (condition_printed x),
      ) refl

  pub first_put : (i : ℕ) (x : Condition ColumnName) (start before last : List ℕ) → i < length xs → x ≡ get_or xs i x → i ≡ 0
      → before ≡ start ++ joined sep (members i)
      → last ≡ before ++ inside (condition_printed x) → last ≡ start ++ joined sep (members (i + 1))
  first_put i x start before last lt is e b l = rw (l, b, members-more i x lt is, e) (simp append-nil)

  pub next_put : (i : ℕ) (x : Condition ColumnName) (start before mid last : List ℕ) → i < length xs → x ≡ get_or xs i x → 0 < i
      → before ≡ start ++ joined sep (members i)
      → mid ≡ before ++ sep → last ≡ mid ++ inside (condition_printed x) → last ≡ start ++ joined sep (members (i + 1))
  next_put i x start before mid last lt is pos b m l =
      let some : 0 < length (members i) = simp (length-map, length-take) (omega arith) in
      rw (l, m, b, members-more i x lt is, joined-push sep (members i) (inside (condition_printed x)) some) (simp append_assoc)
