-- Orders and slices of the values NULL, NULL, 1, 7, 7, 9.
use Rattle.std.proofs.Common.{◌≡◌, ℕ, List, [], ◌∷◌, refl, Some, pos, Bool, true, false}
use Rattle.std.specs.declared.cmp.Ordering.TheVariants.{Less, Equal, Greater}
use Rattle.vt_value.specs.declared.value.Value.{Value}
use Rattle.vt_value.specs.declared.value.Value.TheVariants.{Null, Int}
use Rattle.sql_tree.specs.declared.Key.{Key}
use Rattle.operators.specs.Orders.{keys_cmp, row_cmp}
use Rattle.operators.specs.Slices.{sliced, columns_of}

abbrev n : ℕ → Value
n k = Int (pos k)

abbrev all : List Value
all = Null ∷ Null ∷ n 1 ∷ n 7 ∷ n 7 ∷ n 9 ∷ []

-- LIMIT 2 OFFSET 3, LIMIT 0, LIMIT 9 OFFSET 4
middle : sliced (Some (record { count = 2; offset = 3 })) all ≡ n 7 ∷ n 7 ∷ []
middle = refl

no_rows : sliced (Some (record { count = 0; offset = 0 })) all ≡ []
no_rows = refl

all_left : sliced (Some (record { count = 9; offset = 4 })) all ≡ n 7 ∷ n 9 ∷ []
all_left = refl

abbrev key : ℕ → Bool → Key ℕ
key ordinal down = record { column = ordinal; descending = down }

-- NULL first ascending, last descending
null_first : row_cmp (key 0 false ∷ []) (Null ∷ []) (n 0 ∷ []) ≡ Less
null_first = refl

null_last : row_cmp (key 0 true ∷ []) (Null ∷ []) (n 0 ∷ []) ≡ Greater
null_last = refl

-- the second key decides where the first doesn't, and a row has NULL after its end
second_key : row_cmp (key 1 false ∷ key 0 true ∷ []) (n 1 ∷ n 5 ∷ []) (n 2 ∷ n 5 ∷ []) ≡ Greater
second_key = refl

after_the_end : row_cmp (key 3 false ∷ []) (n 1 ∷ []) (n 2 ∷ n 5 ∷ []) ≡ Equal
after_the_end = refl

lists_of_values : keys_cmp (key 7 false ∷ key 9 false ∷ []) (n 1 ∷ n 2 ∷ []) (n 1 ∷ n 3 ∷ []) ≡ Less
lists_of_values = refl

shown : columns_of (1 ∷ 0 ∷ 0 ∷ 4 ∷ []) (n 7 ∷ n 8 ∷ []) ≡ n 8 ∷ n 7 ∷ n 7 ∷ Null ∷ []
shown = refl
