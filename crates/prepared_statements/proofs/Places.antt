-- Where the statement of a number is.
use Rattle.std.proofs.Common.{◌≡◌, ℕ, zero, suc, ◌+◌, ◌-◌, ◌<◌, ◌≤◌, Bool, true, false, List, [], ◌∷◌, ◌++◌, length, drop, drop-cons, Option, Some, None, refl, ap, sym, subst, ◌∙◌, arith}
use Rattle.std.specs.Prelude.{◌==◌, slice_index_or, slice_set, remove, sum_by, if◌then◌else◌}
use Rattle.std.proofs.lemmas.Bool.{eq-eqb, ne_eqb, eqb-true}
use Rattle.std.proofs.lemmas.List.{length-append}
use Rattle.std.proofs.lemmas.Option.{none-some}
use Rattle.std.proofs.lemmas.List.Sums.{sum_by-set, sum_by-remove, sum_by_push}
use Rattle.prepared_statements.specs.declared.held.Prepared.{Prepared}
use Rattle.prepared_statements.specs.declared.held.Numbered.{Numbered}
use Rattle.prepared_statements.specs.Holes.{all_long}
use Rattle.prepared_statements.specs.Held.{HeldStatements, held_with, found_in, changed_in, closed_in, size_of, text_size, statement_long, max_statements}
use Rattle.prepared_statements.specs.inner.Keeping.{IsFirst, Grow, AreKept}
use Rattle.prepared_statements.specs.inner.Keeping as k

same_number : (n m : ℕ) → n ≡ m → n == m ≡ true
same_number n m e = eq-eqb n m e

-- ---- passing

-- what was passed has other numbers
pub record Passed (n : ℕ) (all left : List Numbered) (place : ℕ) : Type 0 where
  pub lifts : (k : ℕ) (s : Numbered) → IsFirst n left k s → IsFirst n all (place + k) s
  pub none : found_in left n ≡ None → found_in all n ≡ None

pub none_passed : (n : ℕ) (all : List Numbered) → Passed n all all 0
none_passed n all = record { lifts = λ j s f. subst (λ (i : ℕ). IsFirst n all i s) (omega arith) f; none = λ e. e }

-- the statement at a place, and those after it
at_place : (all : List Numbered) (place : ℕ) (s : Numbered) → place < length all → s ≡ slice_index_or all place s → drop place all ≡ s ∷ drop (suc place) all
at_place all place s lt is = drop-cons all place s lt ∙ ap (λ (x : Numbered). x ∷ drop (suc place) all) (sym is)

pub passes : (n : ℕ) (all : List Numbered) (place : ℕ) (s : Numbered) → Passed n all (drop place all) place → place < length all → s ≡ slice_index_or all place s
    → (s.number ≡ n → ⊥) → Passed n all (drop (place + 1) all) (place + 1)
passes n all place s passed lt is other =
    let off = ne_eqb s.number n other in
    let is_at = at_place all place s lt is in
    let next : Passed n all (drop (suc place) all) (suc place) = record {
      lifts = λ j t f.
          subst (λ (i : ℕ). IsFirst n all i t) (omega arith) (passed.lifts (suc j) t (subst (λ (l : List Numbered). IsFirst n l (suc j) t) (sym is_at) (k.later off f)));
      none = λ e. passed.none (ap (λ (l : List Numbered). found_in l n) is_at ∙ rw off e);
    } in
    subst (λ (i : ℕ). Passed n all (drop i all) i) (omega arith) next

pub is_here : (n : ℕ) (all : List Numbered) (place : ℕ) (s : Numbered) → Passed n all (drop place all) place → place < length all → s ≡ slice_index_or all place s
    → s.number ≡ n → IsFirst n all place s
is_here n all place s passed lt is e =
    subst (λ (i : ℕ). IsFirst n all i s) (omega arith)
    (passed.lifts 0 s (subst (λ (l : List Numbered). IsFirst n l 0 s) (sym (at_place all place s lt is)) (k.here e)))

past : (n : ℕ) (all : List Numbered) (place : ℕ) → length all ≤ place → found_in (drop place all) n ≡ None
past n [] zero le = refl
past n [] (suc place) le = refl
past n (s ∷ all) zero le = absurd (omega (arith, le))
past n (s ∷ all) (suc place) le = past n all place (omega (arith, le))

pub none_left : (n : ℕ) (all : List Numbered) (place : ℕ) → Passed n all (drop place all) place → length all ≤ place → found_in all n ≡ None
none_left n all place passed end = passed.none (past n all place end)

-- ---- what is there

pub first_within : (n : ℕ) (xs : List Numbered) (i : ℕ) (s : Numbered) → IsFirst n xs i s → i < length xs
first_within n _ _ s (k.here e) = omega arith
first_within n _ _ s (k.later other f) = omega (arith, first_within n _ _ s f)

pub first_found : (n : ℕ) (xs : List Numbered) (i : ℕ) (s : Numbered) → IsFirst n xs i s → found_in xs n ≡ Some s.statement
first_found n _ _ s (k.here e) = rw (same_number s.number n e) refl
first_found n _ _ s (k.later other f) = rw other (first_found n _ _ s f)

pub first_at : (n : ℕ) (xs : List Numbered) (i : ℕ) (s d : Numbered) → IsFirst n xs i s → slice_index_or xs i d ≡ s
first_at n _ _ s d (k.here e) = refl
first_at n _ _ s d (k.later other f) = first_at n _ _ s d f

-- what is read at the place is that statement
pub first_is : (n : ℕ) (xs : List Numbered) (i : ℕ) (s t : Numbered) → IsFirst n xs i s → t ≡ slice_index_or xs i t → t ≡ s
first_is n xs i s t f is = is ∙ first_at n xs i s t f

first_number : (n : ℕ) (xs : List Numbered) (i : ℕ) (s : Numbered) → IsFirst n xs i s → s.number ≡ n
first_number n _ _ s (k.here e) = e
first_number n _ _ s (k.later other f) = first_number n _ _ s f

pub first_set : (n : ℕ) (xs : List Numbered) (i : ℕ) (s : Numbered) (q : Prepared) → IsFirst n xs i s → slice_set xs i (record s { statement = q }) ≡ changed_in xs n q
first_set n _ _ s q (k.here e) = rw (same_number s.number n e) refl
first_set n _ _ s q (k.later {t = t} other f) = rw other (ap (λ (l : List Numbered). t ∷ l) (first_set n _ _ s q f))

pub first_removed : (n : ℕ) (xs : List Numbered) (i : ℕ) (s : Numbered) → IsFirst n xs i s → remove xs i ≡ closed_in xs n
first_removed n _ _ s (k.here e) = rw (same_number s.number n e) refl
first_removed n _ _ s (k.later {t = t} other f) = rw other (ap (λ (l : List Numbered). t ∷ l) (first_removed n _ _ s f))

-- without a statement of the number nothing is closed
pub none_closed : (n : ℕ) (xs : List Numbered) → found_in xs n ≡ None → closed_in xs n ≡ xs
none_closed n [] e = refl
none_closed n (s ∷ xs) e =
    by (s.number == n) (λ (o : found_in xs n ≡ None). ap (λ (l : List Numbered). s ∷ l) (none_closed n xs o)) e
  where
    by : (b : Bool) → (found_in xs n ≡ None → s ∷ closed_in xs n ≡ s ∷ xs) → (if b then Some s.statement else found_in xs n) ≡ None
        → (if b then xs else s ∷ closed_in xs n) ≡ s ∷ xs
    by true other e = absurd (none-some s.statement (sym e))
    by false other e = other e

-- ---- numbers that grow

lower : (low between high : ℕ) (xs : List Numbered) → low ≤ between → Grow between xs high → Grow low xs high
lower low between high [] le g = omega (arith, le, g)
lower low between high (s ∷ xs) le g = (omega (arith, le, g.0), g.1)

grow_last : (low high number : ℕ) (xs : List Numbered) (s : Numbered) → high < number → s.number ≡ number → Grow low xs high → Grow low (xs ++ s ∷ []) number
grow_last low high number [] s lt e g = (omega (arith, lt, e, g), omega (arith, e))
grow_last low high number (x ∷ xs) s lt e g = (g.0, grow_last x.number high number xs s lt e g.1)

grow_set : (low high : ℕ) (xs : List Numbered) (i : ℕ) (d t : Numbered) → i < length xs → t.number ≡ (slice_index_or xs i d).number → Grow low xs high
    → Grow low (slice_set xs i t) high
grow_set low high [] i d t lt e g = absurd (omega (arith, lt))
grow_set low high (x ∷ xs) zero d t lt e g =
    (subst (λ (n : ℕ). low < n) (sym e) g.0, subst (λ (n : ℕ). Grow n xs high) (sym e) g.1)
grow_set low high (x ∷ xs) (suc i) d t lt e g = (g.0, grow_set x.number high xs i d t (omega (arith, lt)) e g.1)

grow_removed : (low high : ℕ) (xs : List Numbered) (i : ℕ) → i < length xs → Grow low xs high → Grow low (remove xs i) high
grow_removed low high [] i lt g = absurd (omega (arith, lt))
grow_removed low high (x ∷ xs) zero lt g = lower low x.number high xs (omega (arith, g.0)) g.1
grow_removed low high (x ∷ xs) (suc i) lt g = (g.0, grow_removed x.number high xs i (omega (arith, lt)) g.1)

other_number : (n m : ℕ) → (n ≡ m → ⊥) → n == m ≡ false
other_number n m ne = ne_eqb n m ne

above : (n low high : ℕ) (xs : List Numbered) → n ≤ low → Grow low xs high → found_in xs n ≡ None
above n low high [] le g = refl
above n low high (s ∷ xs) le g =
    rw (other_number s.number n (λ e. omega (arith, e, g.0, le))) (above n s.number high xs (omega (arith, g.0, le)) g.1)

at_most : (low high : ℕ) (xs : List Numbered) → Grow low xs high → low ≤ high
at_most low high [] g = g
at_most low high (s ∷ xs) g = omega (arith, g.0, at_most s.number high xs g.1)

-- no statement has a number that wasn't given
pub beyond : (n low high : ℕ) (xs : List Numbered) → high < n → Grow low xs high → found_in xs n ≡ None
beyond n low high [] lt g = refl
beyond n low high (s ∷ xs) lt g =
    rw (other_number s.number n (λ e. omega (arith, e, lt, at_most s.number high xs g.1))) (beyond n s.number high xs lt g.1)

-- no statement has a number once that was closed
pub gone : (n low high : ℕ) (xs : List Numbered) → Grow low xs high → found_in (closed_in xs n) n ≡ None
gone n low high [] g = refl
gone n low high (s ∷ xs) g =
    by (s.number == n) (λ (e : s.number == n ≡ true). above n s.number high xs (omega (arith, eqb-true s.number n e)) g.1)
    (λ (e : s.number == n ≡ false). rw e (gone n s.number high xs g.1)) refl
  where
    by : (b : Bool) → (s.number == n ≡ true → found_in xs n ≡ None) → (s.number == n ≡ false → found_in (s ∷ closed_in xs n) n ≡ None) → s.number == n ≡ b
        → found_in (if b then xs else s ∷ closed_in xs n) n ≡ None
    by true here later e = here e
    by false here later e = later e

-- ---- what is kept

length_set : (xs : List Numbered) (i : ℕ) (s : Numbered) → length (slice_set xs i s) ≡ length xs
length_set [] i s = refl
length_set (x ∷ xs) zero s = refl
length_set (x ∷ xs) (suc i) s = ap suc (length_set xs i s)

length_removed : (xs : List Numbered) (i : ℕ) → i < length xs → length (remove xs i) + 1 ≡ length xs
length_removed [] i lt = absurd (omega (arith, lt))
length_removed (x ∷ xs) zero lt = omega arith
length_removed (x ∷ xs) (suc i) lt = omega (arith, length_removed xs i (omega (arith, lt)))

pub none_kept : AreKept 0 0 0 []
none_kept = record { few = omega arith; sizes = refl; longs = refl; grow = omega arith }

-- one statement has at most what all have
pub part_of : (f : Numbered → ℕ) (xs : List Numbered) (i : ℕ) (d : Numbered) → i < length xs → f (slice_index_or xs i d) ≤ sum_by f xs
part_of f xs i d lt = omega (arith, sum_by-remove f xs i d lt)

kept_changed : (size long long_after last : ℕ) (xs : List Numbered) (i : ℕ) (t : Numbered) (q : Prepared) → i < length xs → t ≡ slice_index_or xs i t
    → q.pieces ≡ t.statement.pieces → long_after + statement_long t ≡ long + all_long q.long → AreKept size long last xs
    → AreKept size long_after last (slice_set xs i (record { number = t.number; statement = q }))
kept_changed size long long_after last xs i t q lt at same is kept =
    let after : Numbered = record { number = t.number; statement = q } in
    let as_large : text_size after ≡ text_size t = ap size_of same in
    record {
      few = omega (arith, kept.few, length_set xs i after);
      sizes = omega (arith, kept.sizes, sum_by-set text_size xs i after t lt, ap text_size at, as_large);
      longs = omega (arith, kept.longs, sum_by-set statement_long xs i after t lt, ap statement_long at, is);
      grow = grow_set 0 last xs i t after lt (ap (λ (s : Numbered). s.number) at) kept.grow;
    }

pub kept_cleared : (size long last part : ℕ) (xs : List Numbered) (i : ℕ) (t : Numbered) (q : Prepared) → i < length xs → t ≡ slice_index_or xs i t
    → q.pieces ≡ t.statement.pieces → all_long q.long ≡ 0 → part ≡ all_long t.statement.long → AreKept size long last xs
    → AreKept size (long - part) last (slice_set xs i (record { number = t.number; statement = q }))
kept_cleared size long last part xs i t q lt at same none is kept =
    kept_changed size long (long - part) last xs i t q lt at same
    (omega (arith, none, is, kept.longs, part_of statement_long xs i t lt, ap statement_long at)) kept

pub kept_taken : (size long last part now : ℕ) (xs : List Numbered) (i : ℕ) (t : Numbered) (q : Prepared) → i < length xs → t ≡ slice_index_or xs i t
    → q.pieces ≡ t.statement.pieces → now ≡ all_long q.long → part ≡ all_long t.statement.long → AreKept size long last xs
    → AreKept size (long - part + now) last (slice_set xs i (record { number = t.number; statement = q }))
kept_taken size long last part now xs i t q lt at same taken is kept =
    kept_changed size long (long - part + now) last xs i t q lt at same
    (omega (arith, taken, is, kept.longs, part_of statement_long xs i t lt, ap statement_long at)) kept

pub kept_removed : (size long size_after long_after last : ℕ) (xs : List Numbered) (i : ℕ) (t : Numbered) → i < length xs → t ≡ slice_index_or xs i t
    → size_after ≡ size - text_size t → long_after ≡ long - statement_long t → AreKept size long last xs
    → AreKept size_after long_after last (remove xs i)
kept_removed size long size_after long_after last xs i t lt at is is_long kept = record {
  few = omega (arith, kept.few, length_removed xs i lt);
  sizes = omega (arith, kept.sizes, sum_by-remove text_size xs i t lt, ap text_size at, is);
  longs = omega (arith, kept.longs, sum_by-remove statement_long xs i t lt, ap statement_long at, is_long);
  grow = grow_removed 0 last xs i lt kept.grow;
}

pub kept_added : (size long size_after last : ℕ) (xs : List Numbered) (s : Numbered) → length xs < max_statements → size_after ≡ sum_by text_size xs + text_size s
    → statement_long s ≡ 0 → s.number ≡ last + 1 → AreKept size long last xs → AreKept size_after long (last + 1) (xs ++ s ∷ [])
kept_added size long size_after last xs s lt is none number kept = record {
  few = omega (arith, length-append xs (s ∷ []), lt);
  sizes = omega (arith, sum_by_push text_size xs s, is);
  longs = omega (arith, sum_by_push statement_long xs s, kept.longs, none);
  grow = grow_last 0 last (last + 1) xs s (omega arith) number kept.grow;
}

-- ---- the statements as contracts see them

pub set_is : (held : HeldStatements) (n place : ℕ) (s t : Numbered) (q : Prepared) → IsFirst n held.statements place s → t ≡ slice_index_or held.statements place t
    → record held { statements = slice_set held.statements place (record { number = t.number; statement = q }) } ≡ held_with held n q
set_is held n place s t q f at =
    ap (λ (l : List Numbered). record held { statements = l })
    (ap (λ (m : Numbered). slice_set held.statements place (record { number = m.number; statement = q })) (first_is n held.statements place s t f at)
    ∙ first_set n held.statements place s q f)
