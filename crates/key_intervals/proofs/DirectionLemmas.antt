-- Keys whose first columns have one value, and sort keys.
use Rattle.std.proofs.Common.{◌≡◌, ℕ, Bool, true, false, cond, not, is_some, Option, Some, None, Bor, List, [], ◌∷◌, map, refl, sym, ap, subst, ◌∙◌}
use Rattle.std.specs.Prelude.{IfSome}
use Rattle.std.proofs.lemmas.Bool.{false≢true}
use Rattle.std.specs.Ordering.{ordering_reverse, ordering_then, is_lt}
use Rattle.std.specs.Cmp.Lexicographic.{slice_cmp}
use Rattle.std.specs.declared.cmp.Ordering.{Ordering}
use Rattle.std.specs.declared.cmp.Ordering.TheVariants.{Less, Equal, Greater}
use Rattle.std.proofs.lemmas.Cmp.{tied_itself}
use Rattle.vt_value.specs.declared.value.Value.{Value}
use Rattle.vt_value.specs.Values.{Row, value_at, value_cmp}
use Rattle.sql_tree.specs.declared.Key.{Key}
use Rattle.sql_eval.specs.Orders.{value_order, row_cmp}
use Rattle.sql_eval.proofs.OrderLemmas.{value_cmp-total}
use Rattle.key_intervals.specs.declared.column.Interval.{Interval}
use Rattle.key_intervals.specs.Intervals.{is_inside}
use Rattle.key_intervals.specs.declared.direction.Direction.{Direction}
use Rattle.key_intervals.specs.declared.direction.Direction.TheVariants.{Forward, Backward}
use Rattle.key_intervals.specs.Directions.{walked_cmp}
use Rattle.key_intervals.specs.inner.KeysOf.{is_of}

tied : (x y : Value) → x ≡ y → value_cmp x y ≡ Equal
tied x y e = subst (λ (z : Value). value_cmp x z ≡ Equal) e (tied_itself value_cmp-total x)

-- two values in an interval that has one are the same
pub lone_same : (i : Interval) (o : Option (Bor Value)) → is_some o ≡ true → IfSome o (λ v. (x : Value) → is_inside i x ≡ true → x ≡ v.now)
    → (x y : Value) → is_inside i x ≡ true → is_inside i y ≡ true → x ≡ y
lone_same i None e h x y p q = absurd (false≢true e)
lone_same i (Some v) e h x y p q = h x p ∙ sym (h y q)

abbrev key_order : List ℕ → Row → Row → Ordering
key_order columns a b = slice_cmp value_cmp (map (value_at a) columns) (map (value_at b) columns)

-- the first column decides, or the others
pub key_split : (columns others : List ℕ) (c : ℕ) (a b : Row) → columns ≡ c ∷ others
    → key_order columns a b ≡ ordering_then (value_cmp (value_at a c) (value_at b c)) (key_order others a b)
key_split columns others c a b is = ap (λ (l : List ℕ). key_order l a b) is

-- of which one that has one value says nothing
pub key_passed : (columns others : List ℕ) (c : ℕ) (a b : Row) → columns ≡ c ∷ others → value_at a c ≡ value_at b c → key_order columns a b ≡ key_order others a b
key_passed columns others c a b is same =
    key_split columns others c a b is ∙ ap (λ (o : Ordering). ordering_then o (key_order others a b)) (tied (value_at a c) (value_at b c) same)

order_tied : (k : Key ℕ) (x y : Value) → x ≡ y → value_order k x y ≡ Equal
order_tied k x y e = by k.descending
  where
    by : (d : Bool) → cond d (ordering_reverse (value_cmp x y)) (value_cmp x y) ≡ Equal
    by true = ap ordering_reverse (tied x y e)
    by false = tied x y e

row_passed : (k : Key ℕ) (others : List (Key ℕ)) (a b : Row) → value_at a k.column ≡ value_at b k.column → row_cmp (k ∷ others) a b ≡ row_cmp others a b
row_passed k others a b same = ap (λ (o : Ordering). ordering_then o (row_cmp others a b)) (order_tied k (value_at a k.column) (value_at b k.column) same)

-- a sort key whose column has one value says nothing
pub walked_passed : (d : Direction) (keys others : List (Key ℕ)) (k : Key ℕ) (a b : Row) → keys ≡ k ∷ others → value_at a k.column ≡ value_at b k.column
    → walked_cmp d others b a ≡ walked_cmp d keys b a
walked_passed d keys others k a b is same = by d ∙ ap (λ (l : List (Key ℕ)). walked_cmp d l b a) (sym is)
  where
    by : (d : Direction) → walked_cmp d others b a ≡ walked_cmp d (k ∷ others) b a
    by Forward = sym (row_passed k others b a (sym same))
    by Backward = sym (row_passed k others a b same)

pub none_walked : (d : Direction) (keys : List (Key ℕ)) (a b : Row) → keys ≡ [] → is_lt (walked_cmp d keys b a) ≡ false
none_walked d keys a b is = ap (λ (l : List (Key ℕ)). is_lt (walked_cmp d l b a)) is ∙ by d
  where
    by : (d : Direction) → is_lt (walked_cmp d [] b a) ≡ false
    by Forward = refl
    by Backward = refl

pub no_columns : (columns : List ℕ) (a b : Row) → columns ≡ [] → key_order columns a b ≡ Less → ⊥
no_columns columns a b is e = cc (sym (ap (λ (l : List ℕ). key_order l a b) is) ∙ e)

-- the first sort key decides as the key's column does, or the others
pub walked_next : (d : Direction) (keys others : List (Key ℕ)) (k : Key ℕ) (rest : Ordering) (a b : Row) → keys ≡ k ∷ others → is_of d k ≡ true
    → (rest ≡ Less → is_lt (walked_cmp d others b a) ≡ false)
    → ordering_then (value_cmp (value_at a k.column) (value_at b k.column)) rest ≡ Less → is_lt (walked_cmp d keys b a) ≡ false
walked_next d keys others k rest a b is of later e = ap (λ (l : List (Key ℕ)). is_lt (walked_cmp d l b a)) is ∙ by d of later (value_cmp x y) refl
  where
    x : Value
    x = value_at a k.column

    y : Value
    y = value_at b k.column

    back : (o : Ordering) → value_cmp x y ≡ o → value_cmp y x ≡ ordering_reverse o
    back o t = value_cmp-total.antisymm y x ∙ ap ordering_reverse t

    up : (t : Bool) → k.descending ≡ t → not t ≡ true → (o : Ordering) → value_cmp y x ≡ o → value_order k y x ≡ o
    up true s f o u = absurd cc
    up false s f o u = ap (λ t. cond t (ordering_reverse (value_cmp y x)) (value_cmp y x)) s ∙ u

    down : (o : Ordering) → k.descending ≡ true → value_cmp x y ≡ o → value_order k x y ≡ ordering_reverse o
    down o s u = ap (λ t. cond t (ordering_reverse (value_cmp x y)) (value_cmp x y)) s ∙ ap ordering_reverse u

    by : (d : Direction) → is_of d k ≡ true → (rest ≡ Less → is_lt (walked_cmp d others b a) ≡ false) → (o : Ordering) → value_cmp x y ≡ o
        → is_lt (walked_cmp d (k ∷ others) b a) ≡ false
    by Forward f h Less t = ap (λ (o : Ordering). is_lt (ordering_then o (row_cmp others b a))) (up k.descending refl f Greater (back Less t))
    by Forward f h Equal t =
        ap (λ (o : Ordering). is_lt (ordering_then o (row_cmp others b a))) (up k.descending refl f Equal (back Equal t))
        ∙ h (sym (ap (λ (o : Ordering). ordering_then o rest) t) ∙ e)
    by Forward f h Greater t = absurd (cc (sym (ap (λ (o : Ordering). ordering_then o rest) t) ∙ e))
    by Backward f h Less t = ap (λ (o : Ordering). is_lt (ordering_then o (row_cmp others a b))) (down Less f t)
    by Backward f h Equal t =
        ap (λ (o : Ordering). is_lt (ordering_then o (row_cmp others a b))) (down Equal f t) ∙ h (sym (ap (λ (o : Ordering). ordering_then o rest) t) ∙ e)
    by Backward f h Greater t = absurd (cc (sym (ap (λ (o : Ordering). ordering_then o rest) t) ∙ e))

pub some_weaker : {X : Type 0} (o : Option X) (P Q : X → Type 0) → ((x : X) → P x → Q x) → IfSome o P → IfSome o Q
some_weaker None P Q f h = h
some_weaker (Some x) P Q f h = f x h
