-- The condition of a piece, in which the members of one IN are cut.
use Rattle.std.proofs.Common.{◌≡◌, ℕ, zero, suc, ◌+◌, ◌<◌, length, get_or, drop, arith, Bool, true, false, cond, List, [], ◌∷◌, ◌++◌, map, flat_map, refl, sym, ap, subst, ◌∙◌, append_assoc}
use Rattle.std.specs.Prelude.{◌||◌, ◌&&◌, not, is_some}
use Rattle.std.specs.List.{list_any}
use Rattle.vt_value.specs.declared.value.Value.{Value}
use Rattle.vt_value.specs.declared.value.Comparison.{Comparison}
use Rattle.sql_tree.specs.declared.Operand.{Operand}
use Rattle.sql_tree.specs.declared.Condition as N
use Rattle.sql_tree.specs.declared.Condition.{Condition, Condition-F, roll-Condition, map-Condition, fold-Condition, fold-roll-Condition}
use Rattle.sql_tree.specs.declared.Condition.TheVariants.{rolls-Compare, rolls-In, rolls-IsNull, rolls-Not, rolls-And, rolls-Or}
use Rattle.sql_tree.specs.declared.Condition.TheOpen.{Compare, In, IsNull, Not, And, Or}
use Rattle.sql_tree.specs.declared.Condition.TheFolds.{ind-Condition}
use Rattle.vschema.specs.ColumnType.{ColumnType}
use Rattle.planner.specs.declared.keys.Keys.{Keys}
use Rattle.planner.specs.Routes.{among, node_among, first_of}
use Rattle.planner.specs.Plans.{has_among, Cut, first_cut, cut_in, node_cut, cut_by, cut_of}

drop_at : {X : Type 0} (xs : List X) (n : ℕ) (x : X) → n < length xs → x ≡ get_or xs n x → drop n xs ≡ x ∷ drop (n + 1) xs
drop_at [] n x h e = absurd (omega (arith, h))
drop_at (y ∷ xs) zero x h e = λ i. sym e i ∷ xs
drop_at (y ∷ xs) (suc n) x h e = let f : suc n + 1 ≡ suc (n + 1) = omega arith in rw f (drop_at xs n x (omega (arith, h)) e)

pub among-And : (keys : Keys) (cs : List (Condition ℕ)) → among keys (N.And cs) ≡ flat_map (λ l. l) (map (among keys) cs)
among-And keys cs = ap (among keys) (sym (rolls-And cs)) ∙ fold-roll-Condition ℕ (List (ColumnType × List Value)) (node_among keys) (And cs)

some_first : {X : Type 0} (xs ys : List X) → is_some (first_of (xs ++ ys)) ≡ (is_some (first_of xs) || is_some (first_of ys))
some_first [] ys = refl
some_first (x ∷ xs) ys = refl

one_has : (keys : Keys) (cs : List (Condition ℕ)) → is_some (first_of (flat_map (λ l. l) (map (among keys) cs))) ≡ list_any (has_among keys) cs
one_has keys [] = refl
one_has keys (c ∷ cs) = some_first (among keys c) (flat_map (λ l. l) (map (among keys) cs)) ∙ ap (λ b. has_among keys c || b) (one_has keys cs)

pub has_among-And : (keys : Keys) (cs : List (Condition ℕ)) → has_among keys (N.And cs) ≡ list_any (has_among keys) cs
has_among-And keys cs = ap (λ l. is_some (first_of l)) (among-And keys cs) ∙ one_has keys cs

module _ (keys : Keys) (kept : ColumnType → Value → Bool) where
  abbrev IsWhole : Condition ℕ → Type 0
  IsWhole c = (cut_by keys kept c).whole ≡ c

  abbrev Wholes : Type 0
  Wholes = (c : Condition ℕ) × IsWhole c

  pub cut_by-roll : (x : Condition-F ℕ (Condition ℕ)) →
      cut_by keys kept (roll-Condition ℕ x) ≡ node_cut keys kept (map-Condition ℕ (Condition ℕ) Cut (cut_by keys kept) x)
  cut_by-roll x = fold-roll-Condition ℕ Cut (node_cut keys kept) x

  wholes : (es : List Wholes) → map (λ c. c.whole) (map (cut_by keys kept) (map (λ e. e.0) es)) ≡ map (λ e. e.0) es
  wholes [] = refl
  wholes (e ∷ es) = λ i. e.1 i ∷ wholes es i

  whole_node : (y : Condition-F ℕ Wholes) →
      (node_cut keys kept (map-Condition ℕ (Condition ℕ) Cut (cut_by keys kept) (map-Condition ℕ Wholes (Condition ℕ) (λ e. e.0) y))).whole
      ≡ roll-Condition ℕ (map-Condition ℕ Wholes (Condition ℕ) (λ e. e.0) y)
  whole_node (Compare op a b) = sym (rolls-Compare op a b)
  whole_node (In a members) = sym (rolls-In a members)
  whole_node (IsNull a) = sym (rolls-IsNull a)
  whole_node (Not e) = ap N.Not e.1 ∙ sym (rolls-Not e.0)
  whole_node (And es) = ap N.And (wholes es) ∙ sym (rolls-And (map (λ e. e.0) es))
  whole_node (Or es) = ap N.Or (wholes es) ∙ sym (rolls-Or (map (λ e. e.0) es))

  pub whole_is : (c : Condition ℕ) → (cut_by keys kept c).whole ≡ c
  whole_is =
      ind-Condition ℕ IsWhole (λ x y is.
      subst (λ z. IsWhole (roll-Condition ℕ z)) is
      (ap (λ (c : Cut). c.whole) (cut_by-roll (map-Condition ℕ Wholes (Condition ℕ) (λ e. e.0) y)) ∙ whole_node y))

  pub wholes_are : (cs : List (Condition ℕ)) → map (λ c. c.whole) (map (cut_by keys kept) cs) ≡ cs
  wholes_are [] = refl
  wholes_are (c ∷ cs) = λ i. whole_is c i ∷ wholes_are cs i

  -- the first member and the rest, with the members as they are
  pub first_cut-cons : (c : Condition ℕ) (cs : List (Condition ℕ)) →
      first_cut keys (map (cut_by keys kept) (c ∷ cs))
      ≡ cond (has_among keys c) (cut_of keys kept c ∷ cs) (c ∷ first_cut keys (map (cut_by keys kept) cs))
  first_cut-cons c cs =
      λ i. cond (has_among keys (whole_is c i)) (cut_of keys kept c ∷ wholes_are cs i) (whole_is c i ∷ first_cut keys (map (cut_by keys kept) cs))

  pub cut_of-Compare : (op : Comparison) (a b : Operand ℕ) → cut_of keys kept (N.Compare op a b) ≡ N.Compare op a b
  cut_of-Compare op a b = ap (cut_of keys kept) (sym (rolls-Compare op a b)) ∙ ap (λ (c : Cut). c.cut) (cut_by-roll (Compare op a b))

  pub cut_of-In : (a : Operand ℕ) (members : List Value) → cut_of keys kept (N.In a members) ≡ cut_in keys kept a members
  cut_of-In a members = ap (cut_of keys kept) (sym (rolls-In a members)) ∙ ap (λ (c : Cut). c.cut) (cut_by-roll (In a members))

  pub cut_of-IsNull : (a : Operand ℕ) → cut_of keys kept (N.IsNull a) ≡ N.IsNull a
  cut_of-IsNull a = ap (cut_of keys kept) (sym (rolls-IsNull a)) ∙ ap (λ (c : Cut). c.cut) (cut_by-roll (IsNull a))

  pub cut_of-Not : (c : Condition ℕ) → cut_of keys kept (N.Not c) ≡ N.Not c
  cut_of-Not c = ap (cut_of keys kept) (sym (rolls-Not c)) ∙ ap (λ (c : Cut). c.cut) (cut_by-roll (Not c)) ∙ ap N.Not (whole_is c)

  pub cut_of-And : (cs : List (Condition ℕ)) → cut_of keys kept (N.And cs) ≡ N.And (first_cut keys (map (cut_by keys kept) cs))
  cut_of-And cs = ap (cut_of keys kept) (sym (rolls-And cs)) ∙ ap (λ (c : Cut). c.cut) (cut_by-roll (And cs))

  pub cut_of-Or : (cs : List (Condition ℕ)) → cut_of keys kept (N.Or cs) ≡ N.Or cs
  cut_of-Or cs = ap (cut_of keys kept) (sym (rolls-Or cs)) ∙ ap (λ (c : Cut). c.cut) (cut_by-roll (Or cs)) ∙ ap N.Or (wholes_are cs)

  abbrev IsKept : Condition ℕ → Type 0
  IsKept c = ((a : Operand ℕ) (members : List Value) → c ≡ N.In a members → ⊥) → ((cs : List (Condition ℕ)) → c ≡ N.And cs → ⊥) → cut_of keys kept c ≡ c

  other_node : (x : Condition-F ℕ (Condition ℕ)) → IsKept (roll-Condition ℕ x)
  other_node (Compare op a b) f g = ap (cut_of keys kept) (rolls-Compare op a b) ∙ cut_of-Compare op a b ∙ sym (rolls-Compare op a b)
  other_node (In a members) f g = absurd (f a members (rolls-In a members))
  other_node (IsNull a) f g = ap (cut_of keys kept) (rolls-IsNull a) ∙ cut_of-IsNull a ∙ sym (rolls-IsNull a)
  other_node (Not c) f g = ap (cut_of keys kept) (rolls-Not c) ∙ cut_of-Not c ∙ sym (rolls-Not c)
  other_node (And cs) f g = absurd (g cs (rolls-And cs))
  other_node (Or cs) f g = ap (cut_of keys kept) (rolls-Or cs) ∙ cut_of-Or cs ∙ sym (rolls-Or cs)

  -- a condition that is no IN and no AND stays as it is
  pub cut_of-other : (c : Condition ℕ) → IsKept c
  cut_of-other = ind-Condition ℕ IsKept (λ x y is. other_node x)

  -- a member more: it is cut where it is the first that has an IN
  pub cut_step : (done : Bool) (list rest all : List (Condition ℕ)) (m : Condition ℕ)
      → list ++ cond done (m ∷ rest) (first_cut keys (map (cut_by keys kept) (m ∷ rest))) ≡ all
      → (list ++ cond (has_among keys m && not done) (cut_of keys kept m) m ∷ []) ++ cond (done || has_among keys m) rest (first_cut keys (map (cut_by keys kept) rest)) ≡ all
  cut_step done list rest all m e = by done (has_among keys m) refl e
    where
      by : (done has : Bool) → has_among keys m ≡ has → list ++ cond done (m ∷ rest) (first_cut keys (map (cut_by keys kept) (m ∷ rest))) ≡ all
          → (list ++ cond (has && not done) (cut_of keys kept m) m ∷ []) ++ cond (done || has) rest (first_cut keys (map (cut_by keys kept) rest)) ≡ all
      by true true h e = append_assoc list (m ∷ []) rest ∙ e
      by true false h e = append_assoc list (m ∷ []) rest ∙ e
      by false true h e =
          append_assoc list (cut_of keys kept m ∷ []) rest
          ∙ ap (λ l. list ++ l) (sym (first_cut-cons m rest ∙ ap (λ b. cond b (cut_of keys kept m ∷ rest) (m ∷ first_cut keys (map (cut_by keys kept) rest))) h)) ∙ e
      by false false h e =
          append_assoc list (m ∷ []) (first_cut keys (map (cut_by keys kept) rest))
          ∙ ap (λ l. list ++ l) (sym (first_cut-cons m rest ∙ ap (λ b. cond b (cut_of keys kept m ∷ rest) (m ∷ first_cut keys (map (cut_by keys kept) rest))) h)) ∙ e

  -- the same for the member at a place
  pub cut_next : (done has : Bool) (list ms all pushed : List (Condition ℕ)) (m copied : Condition ℕ) (n : ℕ) → n < length ms → m ≡ get_or ms n m
      → has ≡ has_among keys m → copied ≡ cond (has && not done) (cut_of keys kept m) m → pushed ≡ list ++ copied ∷ []
      → list ++ cond done (drop n ms) (first_cut keys (map (cut_by keys kept) (drop n ms))) ≡ all
      → pushed ++ cond (done || has) (drop (n + 1) ms) (first_cut keys (map (cut_by keys kept) (drop (n + 1) ms))) ≡ all
  cut_next done has list ms all pushed m copied n less is has_is copied_is pushed_is e =
      let rest = drop (n + 1) ms in
      let step =
      cut_step done list rest all m
      (subst (λ (l : List (Condition ℕ)). list ++ cond done l (first_cut keys (map (cut_by keys kept) l)) ≡ all) (drop_at ms n m less is) e)
      in
      subst (λ (p : List (Condition ℕ)). p ++ cond (done || has) rest (first_cut keys (map (cut_by keys kept) rest)) ≡ all)
      (sym (pushed_is ∙ ap (λ (x : Condition ℕ). list ++ x ∷ []) copied_is))
      (subst (λ (h : Bool). (list ++ cond (h && not done) (cut_of keys kept m) m ∷ []) ++ cond (done || h) rest (first_cut keys (map (cut_by keys kept) rest)) ≡ all) (sym has_is) step)
