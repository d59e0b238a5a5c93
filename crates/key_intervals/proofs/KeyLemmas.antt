-- Keys that begin with the same values, between two lists of values.
use Rattle.std.proofs.Common.{◌≡◌, true, false, List, [], ◌∷◌, ◌++◌, append_assoc, map, ℕ, Bor, Option, Some, None, refl, sym, ap, subst, ◌∙◌}
use Rattle.std.specs.Prelude.{IfSome}
use Rattle.std.specs.declared.ops.Bound.{Bound}
use Rattle.std.specs.declared.ops.Bound.TheVariants.{Included, Excluded}
use Rattle.std.proofs.lemmas.Bool.{false≢true}
use Rattle.std.specs.Ordering.{ordering_reverse, ordering_then, is_lt, is_le}
use Rattle.std.specs.Cmp.Lexicographic.{slice_cmp}
use Rattle.std.specs.declared.cmp.Ordering.{Ordering}
use Rattle.std.specs.declared.cmp.Ordering.TheVariants.{Less, Equal, Greater}
use Rattle.std.specs.Cmp.{IsTotalOrder}
use Rattle.std.proofs.lemmas.Cmp.{tied_itself, lists_total}
use Rattle.vt_value.specs.declared.value.Value.{Value}
use Rattle.vt_value.specs.declared.value.Value.TheVariants.{Null, Int, Bytes}
use Rattle.vt_value.specs.declared.value.Comparison.TheVariants.{Lt, Le, Gt, Ge}
use Rattle.vt_value.specs.Values.{Row, value_at, value_cmp, fits_order}
use Rattle.sql_eval.proofs.OrderLemmas.{value_cmp-total}
use Rattle.key_intervals.specs.declared.column.Interval.{Interval}
use Rattle.key_intervals.specs.declared.keys.KeyInterval.{KeyInterval}
use Rattle.key_intervals.specs.Intervals.{is_above, is_under, is_inside, is_below, in_interval}
use Rattle.key_intervals.proofs.ColumnLemmas.{first_of, second_of, both_of}

pub some_of : {X : Type 0} {o : Option X} {x : X} (P : X → Type 0) → o ≡ Some x → IfSome o P → P x
some_of {X = X} P is h = subst (λ (o : Option X). IfSome o P) is h

-- ---- orders

-- what isn't after a second isn't after a third that isn't before that
pub le_trans : {X : Type 0} {R : X → X → Ordering} → IsTotalOrder R → (x y z : X) → is_le (R x y) ≡ true → is_le (R y z) ≡ true → is_le (R x z) ≡ true
le_trans {R = R} total x y z e f = by (R x y) refl (R y z) refl
  where
    by : (o : Ordering) → R x y ≡ o → (p : Ordering) → R y z ≡ p → is_le (R x z) ≡ true
    by Equal t p u = ap is_le (total.congr x y z t) ∙ f
    by Less t Less u = ap is_le (total.trans x y z t u)
    by Less t Equal u =
        let back : R y x ≡ R z x = total.congr y z x u in
        ap is_le (total.antisymm x z ∙ ap ordering_reverse (sym back) ∙ sym (total.antisymm x y) ∙ t)
    by Less t Greater u = absurd (false≢true (sym (ap is_le u) ∙ f))
    by Greater t p u = absurd (false≢true (sym (ap is_le t) ∙ e))

-- ---- bounds of one value

turned_le : (o : Ordering) → fits_order Ge o ≡ true → is_le (ordering_reverse o) ≡ true
turned_le Less e = cc
turned_le Equal e = refl
turned_le Greater e = refl

-- who is at a value isn't below it
pub at_least : (v x : Value) → fits_order Ge (value_cmp x v) ≡ true → is_le (value_cmp v x) ≡ true
at_least v x e = subst (λ (o : Ordering). is_le o ≡ true) (sym (value_cmp-total.antisymm v x)) (turned_le (value_cmp x v) e)

greater_ge : (o : Ordering) → fits_order Gt o ≡ true → fits_order Ge o ≡ true
greater_ge Less e = cc
greater_ge Equal e = cc
greater_ge Greater e = refl

-- who is past a value isn't below it
pub past_least : (v x : Value) → fits_order Gt (value_cmp x v) ≡ true → is_le (value_cmp v x) ≡ true
past_least v x e = at_least v x (greater_ge (value_cmp x v) e)

-- nor below the next one
pub next_least : (v w : Value) → ((x : Value) → fits_order Gt (value_cmp x v) ≡ fits_order Ge (value_cmp x w))
    → (x : Value) → fits_order Gt (value_cmp x v) ≡ true → is_le (value_cmp w x) ≡ true
next_least v w next x e = at_least w x (sym (next x) ∙ e)

-- a bound, and the least value above it
pub floor_at : (low : Bound (Bor Value)) (v : Bor Value) (w : Value) → low ≡ Included v → w ≡ v.now → (x : Value) → is_above low x ≡ true → is_le (value_cmp w x) ≡ true
floor_at low v w is same x e =
    ap (λ (y : Value). is_le (value_cmp y x)) same ∙ at_least v.now x (subst (λ (b : Bound (Bor Value)). is_above b x ≡ true) is e)

pub floor_past : (low : Bound (Bor Value)) (v : Bor Value) (w : Value) → low ≡ Excluded v → w ≡ v.now → (x : Value) → is_above low x ≡ true → is_le (value_cmp w x) ≡ true
floor_past low v w is same x e =
    ap (λ (y : Value). is_le (value_cmp y x)) same ∙ past_least v.now x (subst (λ (b : Bound (Bor Value)). is_above b x ≡ true) is e)

pub floor_next : (low : Bound (Bor Value)) (v : Bor Value) (w : Value) → low ≡ Excluded v
    → ((x : Value) → fits_order Gt (value_cmp x v.now) ≡ fits_order Ge (value_cmp x w)) → (x : Value) → is_above low x ≡ true → is_le (value_cmp w x) ≡ true
floor_next low v w is next x e = next_least v.now w next x (subst (λ (b : Bound (Bor Value)). is_above b x ≡ true) is e)

lt_fits : (o : Ordering) → fits_order Lt o ≡ true → is_lt o ≡ true
lt_fits Less e = refl
lt_fits Equal e = cc
lt_fits Greater e = cc

pub under_lt : (v x : Value) → fits_order Lt (value_cmp x v) ≡ true → is_lt (value_cmp x v) ≡ true
under_lt v x e = lt_fits (value_cmp x v) e

not_past : (o p : Ordering) → fits_order Gt o ≡ fits_order Ge p → fits_order Le o ≡ true → is_lt p ≡ true
not_past o Less e f = refl
not_past Less Equal e f = cc
not_past Equal Equal e f = cc
not_past Greater Equal e f = cc
not_past Less Greater e f = cc
not_past Equal Greater e f = cc
not_past Greater Greater e f = cc

-- who isn't past a value is below the next one
pub next_past : (v w : Value) → ((x : Value) → fits_order Gt (value_cmp x v) ≡ fits_order Ge (value_cmp x w))
    → (x : Value) → fits_order Le (value_cmp x v) ≡ true → is_lt (value_cmp x w) ≡ true
next_past v w next x e = not_past (value_cmp x v) (value_cmp x w) (next x) e

-- NULL alone isn't past NULL, and is below each number
pub null_past : (x : Value) (n : _) → fits_order Le (value_cmp x Null) ≡ true → is_lt (value_cmp x (Int n)) ≡ true
null_past Null n e = refl
null_past (Int m) n e = cc
null_past (Bytes t) n e = cc

-- ---- keys that begin with the same values

after_same : (v : Value) (a b : List Value) → slice_cmp value_cmp (v ∷ a) (v ∷ b) ≡ slice_cmp value_cmp a b
after_same v a b = let t = tied_itself value_cmp-total v in rw t refl

prefix_same : (p a b : List Value) → slice_cmp value_cmp (p ++ a) (p ++ b) ≡ slice_cmp value_cmp a b
prefix_same [] a b = refl
prefix_same (v ∷ p) a b = after_same v (p ++ a) (p ++ b) ∙ prefix_same p a b

low : (ks : List Value) → is_le (slice_cmp value_cmp [] ks) ≡ true
low [] = refl
low (x ∷ ks) = refl

-- a list isn't after one that begins with it
pub prefix_low : (p ks : List Value) → is_le (slice_cmp value_cmp p (p ++ ks)) ≡ true
prefix_low [] ks = low ks
prefix_low (v ∷ p) ks = ap is_le (after_same v p (p ++ ks)) ∙ prefix_low p ks

pub own_low : (p : List Value) → is_le (slice_cmp value_cmp p p) ≡ true
own_low [] = refl
own_low (v ∷ p) = ap is_le (after_same v p p) ∙ own_low p

pub extended_low : (p q : List Value) (v : Value) → q ≡ p ++ v ∷ [] → is_le (slice_cmp value_cmp p q) ≡ true
extended_low p q v is = ap (λ (l : List Value). is_le (slice_cmp value_cmp p l)) is ∙ prefix_low p (v ∷ [])

first_above : (w x : Value) (rest : List Value) → is_le (value_cmp w x) ≡ true → is_le (slice_cmp value_cmp (w ∷ []) (x ∷ rest)) ≡ true
first_above w x rest e = by (value_cmp w x) rest e
  where
    by : (o : Ordering) (rest : List Value) → is_le o ≡ true → is_le (ordering_then o (slice_cmp value_cmp [] rest)) ≡ true
    by Less rest e = refl
    by Equal [] e = refl
    by Equal (y ∷ ys) e = refl
    by Greater rest e = e

first_below : (x w : Value) (rest : List Value) → is_lt (value_cmp x w) ≡ true → is_lt (slice_cmp value_cmp (x ∷ rest) (w ∷ [])) ≡ true
first_below x w rest e = by (value_cmp x w) e
  where
    by : (o : Ordering) → is_lt o ≡ true → is_lt (ordering_then o (slice_cmp value_cmp rest [])) ≡ true
    by Less e = refl
    by Equal e = absurd cc
    by Greater e = absurd cc

-- a key whose next value isn't below w isn't before the list that ends with w
pub prefix_from : (p : List Value) (w x : Value) (rest from : List Value) → from ≡ p ++ w ∷ [] → is_le (value_cmp w x) ≡ true
    → is_le (slice_cmp value_cmp from (p ++ x ∷ rest)) ≡ true
prefix_from p w x rest from is e =
    ap (λ (l : List Value). is_le (slice_cmp value_cmp l (p ++ x ∷ rest))) is
    ∙ ap is_le (prefix_same p (w ∷ []) (x ∷ rest)) ∙ first_above w x rest e

-- and one whose next value is below w is before it
pub prefix_below : (p : List Value) (w x : Value) (rest below : List Value) → below ≡ p ++ w ∷ [] → is_lt (value_cmp x w) ≡ true
    → is_lt (slice_cmp value_cmp (p ++ x ∷ rest) below) ≡ true
prefix_below p w x rest below is e =
    ap (λ (l : List Value). is_lt (slice_cmp value_cmp (p ++ x ∷ rest) l)) is
    ∙ ap is_lt (prefix_same p (x ∷ rest) (w ∷ [])) ∙ first_below x w rest e

-- and it isn't after what isn't before one that begins with it
pub known_low : (p q : List Value) (v : Value) (from : List Value) → q ≡ p ++ v ∷ [] → is_le (slice_cmp value_cmp q from) ≡ true → is_le (slice_cmp value_cmp p from) ≡ true
known_low p q v from is e =
    le_trans (lists_total value_cmp-total) p q from (extended_low p q v is) e

-- one value more is known
pub known_more : (p q : List Value) (v : Value) (rest : List Value) → q ≡ p ++ v ∷ [] → q ++ rest ≡ p ++ v ∷ rest
known_more p q v rest is = ap (λ (l : List Value). l ++ rest) is ∙ append_assoc p (v ∷ []) rest

-- ---- intervals of keys

-- a key that begins with known values isn't before these
pub whole_inside : (p : List Value) (below : Option (List Value)) (rest : List Value) → is_below below (p ++ rest) ≡ true
    → in_interval (record { from = p; below = below }) (p ++ rest) ≡ true
whole_inside p below rest e = both_of (is_le (slice_cmp value_cmp p (p ++ rest))) (is_below below (p ++ rest)) (prefix_low p rest) e

-- without known values and bounds each key does
pub every_inside : (p key : List Value) → p ≡ [] → in_interval (record { from = p; below = None }) key ≡ true
every_inside p key is =
    subst (λ (q : List Value). in_interval (record { from = q; below = None }) key ≡ true) (sym is)
    (both_of (is_le (slice_cmp value_cmp [] key)) true (low key) refl)

-- one column's value is known
pub lone_inside : (i : Interval) (p q : List Value) (below lower : Option (List Value)) (v w : Value) (c : ℕ) (cs others : List ℕ) (keys : KeyInterval) (row : Row)
    → cs ≡ c ∷ others → w ≡ v → q ≡ p ++ w ∷ [] → ((x : Value) → is_inside i x ≡ true → x ≡ v)
    → ((x : Value) (rest : List Value) → is_under i.high x ≡ true → is_below below (p ++ x ∷ rest) ≡ true → is_below lower (p ++ x ∷ rest) ≡ true)
    → is_inside i (value_at row c) ≡ true
    → (is_below lower (q ++ map (value_at row) others) ≡ true → in_interval keys (q ++ map (value_at row) others) ≡ true)
    → is_below below (p ++ map (value_at row) cs) ≡ true → in_interval keys (p ++ map (value_at row) cs) ≡ true
lone_inside i p q below lower v w c cs others keys row is same more alone bound inside rest e =
    let values : List Value = map (value_at row) others in
    let split : p ++ map (value_at row) cs ≡ p ++ value_at row c ∷ values = ap (λ (l : List ℕ). p ++ map (value_at row) l) is in
    let known : q ++ values ≡ p ++ value_at row c ∷ values =
    known_more p q w values more ∙ ap (λ (x : Value). p ++ x ∷ values) (same ∙ sym (alone (value_at row c) inside)) in
    let under : is_below lower (p ++ value_at row c ∷ values) ≡ true =
    bound (value_at row c) values (second_of (is_above i.low (value_at row c)) (is_under i.high (value_at row c)) inside)
    (subst (λ (l : List Value). is_below below l ≡ true) split e) in
    subst (λ (l : List Value). in_interval keys l ≡ true) (known ∙ sym split)
    (rest (subst (λ (l : List Value). is_below lower l ≡ true) (sym known) under))

-- one column's value lies between two bounds
pub bounded_inside : (i : Interval) (p from : List Value) (below lower : Option (List Value)) (c : ℕ) (cs others : List ℕ) (row : Row)
    → cs ≡ c ∷ others
    → ((x : Value) (rest : List Value) → is_above i.low x ≡ true → is_le (slice_cmp value_cmp from (p ++ x ∷ rest)) ≡ true)
    → ((x : Value) (rest : List Value) → is_under i.high x ≡ true → is_below below (p ++ x ∷ rest) ≡ true → is_below lower (p ++ x ∷ rest) ≡ true)
    → is_inside i (value_at row c) ≡ true
    → is_below below (p ++ map (value_at row) cs) ≡ true → in_interval (record { from = from; below = lower }) (p ++ map (value_at row) cs) ≡ true
bounded_inside i p from below lower c cs others row is above bound inside e =
    let values : List Value = map (value_at row) others in
    let split : p ++ map (value_at row) cs ≡ p ++ value_at row c ∷ values = ap (λ (l : List ℕ). p ++ map (value_at row) l) is in
    let key : List Value = p ++ value_at row c ∷ values in
    let low : is_le (slice_cmp value_cmp from key) ≡ true =
    above (value_at row c) values (first_of (is_above i.low (value_at row c)) (is_under i.high (value_at row c)) inside) in
    let under : is_below lower key ≡ true =
    bound (value_at row c) values (second_of (is_above i.low (value_at row c)) (is_under i.high (value_at row c)) inside)
    (subst (λ (l : List Value). is_below below l ≡ true) split e) in
    subst (λ (l : List Value). in_interval (record { from = from; below = lower }) l ≡ true) (sym split)
    (both_of (is_le (slice_cmp value_cmp from key)) (is_below lower key) low under)
