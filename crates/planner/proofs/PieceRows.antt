-- The rows of pieces: the shown columns, and after them those of the sort keys.
use Rattle.std.proofs.Common.{◌≡◌, ℕ, zero, suc, ◌+◌, ◌<◌, List, [], ◌∷◌, ◌++◌, length, get_or, drop, map, refl, ap, ◌∙◌, arith}
use Rattle.std.specs.Ordering.{ordering_then}
use Rattle.vt_value.specs.declared.value.Value.{Value}
use Rattle.vt_value.specs.declared.value.Value.TheVariants.{Null}
use Rattle.vt_value.specs.Values.{Row, value_at}
use Rattle.sql_tree.specs.declared.Item.{Item}
use Rattle.sql_tree.specs.declared.Key.{Key}
use Rattle.operators.specs.Orders.{value_order, keys_cmp, sort_values, row_cmp}
use Rattle.operators.specs.Slices.{columns_of}
use Rattle.operators.proofs.SliceLemmas.{drop_next}
use Rattle.vschema.specs.Resolved.{ordinals_from}
use Rattle.sql_eval.specs.Queries.{shown_value}
use Rattle.planner.specs.Plans.{key_item, keys_from}

pub ordinals_from-next : {X : Type 0} (xs : List X) (k n : ℕ) → n < length xs → ordinals_from k (drop n xs) ≡ k ∷ ordinals_from (k + 1) (drop (n + 1) xs)
ordinals_from-next [] k n h = absurd (omega (arith, h))
ordinals_from-next (x ∷ xs) k zero h = refl
ordinals_from-next (x ∷ xs) k (suc n) h = let e : suc n + 1 ≡ suc (n + 1) = omega arith in rw e (ordinals_from-next xs k n (omega (arith, h)))

at_drop : (row : Row) (n : ℕ) (v : Value) (rest : Row) → drop n row ≡ v ∷ rest → value_at row n ≡ v
at_drop [] zero v rest e = cc
at_drop [] (suc n) v rest e = cc
at_drop (w ∷ row) zero v rest e = ap (λ l. get_or l 0 Null) e
at_drop (w ∷ row) (suc n) v rest e = at_drop row n v rest e

join_map : {X Y : Type 0} (f : X → Y) (xs ys : List X) → map f (xs ++ ys) ≡ map f xs ++ map f ys
join_map f [] ys = refl
join_map f (x ∷ xs) ys = ap (λ l. f x ∷ l) (join_map f xs ys)

after_map : {X Y : Type 0} (f : X → Y) (xs : List X) (ys : List Y) → drop (length xs) (map f xs ++ ys) ≡ ys
after_map f [] ys = refl
after_map f (x ∷ xs) ys = after_map f xs ys

-- a row of a piece
abbrev pub wide : List (Item ℕ) → List (Key ℕ) → Row → Row
wide items keys row = map (shown_value row) (items ++ map key_item keys)

columns_at : (w : Row) (g : Item ℕ → Value) (items : List (Item ℕ)) (n : ℕ) (rest : Row) → drop n w ≡ map g items ++ rest
    → map (value_at w) (ordinals_from n items) ≡ map g items
columns_at w g [] n rest e = refl
columns_at w g (i ∷ items) n rest e =
    let first = at_drop w n (g i) (map g items ++ rest) e in
    let others = columns_at w g items (n + 1) rest (drop_next w (map g items ++ rest) (g i) n e) in
    λ k. first k ∷ others k

-- the first columns are those that the query shows
pub columns_wide : (items : List (Item ℕ)) (keys : List (Key ℕ)) (row : Row) → columns_of (ordinals_from 0 items) (wide items keys row) ≡ map (shown_value row) items
columns_wide items keys row =
    columns_at (wide items keys row) (shown_value row) items 0 (map (shown_value row) (map key_item keys)) (join_map (shown_value row) items (map key_item keys))

keys_at : (w row : Row) (keys : List (Key ℕ)) (n : ℕ) → drop n w ≡ map (shown_value row) (map key_item keys) → sort_values (keys_from n keys) w ≡ sort_values keys row
keys_at w row [] n e = refl
keys_at w row (k ∷ keys) n e =
    let first = at_drop w n (value_at row k.column) (map (shown_value row) (map key_item keys)) e in
    let others = keys_at w row keys (n + 1) (drop_next w (map (shown_value row) (map key_item keys)) (value_at row k.column) n e) in
    λ i. first i ∷ others i

keys_wide : (items : List (Item ℕ)) (keys : List (Key ℕ)) (row : Row) → sort_values (keys_from (length items) keys) (wide items keys row) ≡ sort_values keys row
keys_wide items keys row =
    keys_at (wide items keys row) row keys (length items)
    (ap (drop (length items)) (join_map (shown_value row) items (map key_item keys)) ∙ after_map (shown_value row) items (map (shown_value row) (map key_item keys)))

same_keys : (n : ℕ) (keys : List (Key ℕ)) (as' bs : List Value) → keys_cmp (keys_from n keys) as' bs ≡ keys_cmp keys as' bs
same_keys n [] as' bs = refl
same_keys n (k ∷ keys) as' bs =
    ap (ordering_then (value_order k (value_at as' 0) (value_at bs 0))) (same_keys (n + 1) keys (drop 1 as') (drop 1 bs))

-- rows of pieces are sorted as the rows that they show
pub cmp_wide : (items : List (Item ℕ)) (keys : List (Key ℕ)) (a b : Row) →
    row_cmp (keys_from (length items) keys) (wide items keys a) (wide items keys b) ≡ row_cmp keys a b
cmp_wide items keys a b =
    same_keys (length items) keys (sort_values (keys_from (length items) keys) (wide items keys a)) (sort_values (keys_from (length items) keys) (wide items keys b))
    ∙ (λ i. keys_cmp keys (keys_wide items keys a i) (keys_wide items keys b i))
