-- The first of the least rows of a merge's inputs.
use Rattle.std.proofs.Common.{◌≡◌, ℕ, zero, suc, ◌+◌, ◌<◌, true, false, List, [], ◌∷◌, length, get_or, set, map, Option, Some, None, refl, sym, ap, subst, ◌∙◌, arith, ⊎_elim}
use Rattle.std.specs.Prelude.{MatchOption}
use Rattle.std.specs.Cmp.{IsStrictWeakOrder}
use Rattle.std.proofs.lemmas.Bool.{cases_order}
use Rattle.std.proofs.lemmas.List.{get_or-map, length-map, map-set, set-get_or}
use Rattle.std.proofs.lemmas.List.MinMax.{ranks_by}
use Rattle.sql_tree.specs.declared.Key.{Key}
use Rattle.vt_value.specs.Values.{Row}
use Rattle.operators.specs.declared.merging.Head.{Head}
use Rattle.operators.specs.Orders.{sort_values}
use Rattle.operators.specs.inner.Merges.{row_lt, head_row, rows_from, head_rows, earlier, all_merged, IsFirst}
use Rattle.operators.proofs.OrderLemmas.{keys_cmp-total}
use Rattle.operators.proofs.MergeLemmas.{first_of, all_taken, all_ended, earlier_then, earlier_than}

pub row_lt-order : (keys : List (Key ℕ)) → IsStrictWeakOrder (row_lt keys)
row_lt-order keys = ranks_by (keys_cmp-total keys) (sort_values keys)

begins : (row : Option Row) (rows : List Row) → first_of (rows_from row rows) ≡ row
begins None rows = refl
begins (Some x) rows = refl

module _ {O : Type 0} where
  -- the row of a head that was read
  pub row_read : (heads : List (Head O)) (ordinal : ℕ) (head : Head O) → ordinal < length heads → head_row heads ordinal ≡ (get_or heads ordinal head).row
  row_read heads ordinal head within = get_or-map (λ h. h.row) heads ordinal head None within

  -- what the rows of a head begin with
  pub rows_begin : (to_come : O → List Row) (heads : List (Head O)) (ordinal : ℕ) → first_of (get_or (map (head_rows to_come) heads) ordinal []) ≡ head_row heads ordinal
  rows_begin to_come [] ordinal = refl
  rows_begin to_come (head ∷ heads) zero = begins head.row (to_come head.input)
  rows_begin to_come (head ∷ heads) (suc ordinal) = rows_begin to_come heads ordinal

module _ {O : Type 0} (keys : List (Key ℕ)) (heads : List (Head O)) where
  abbrev pub FirstSoFar : ℕ → ℕ → Type 0
  FirstSoFar least ordinal =
      (least < ordinal)
      × ((j : ℕ) → j < least → earlier (row_lt keys) (head_row heads least) (head_row heads j) ≡ true)
      × ((j : ℕ) → least < j → j < ordinal → earlier (row_lt keys) (head_row heads j) (head_row heads least) ≡ false)

  pub stays : (least ordinal : ℕ) → FirstSoFar least ordinal → earlier (row_lt keys) (head_row heads ordinal) (head_row heads least) ≡ false → FirstSoFar least (ordinal + 1)
  stays least ordinal (less, before, trailing) later = (
    omega (arith, less),
    before,
    λ j more within. ⊎_elim
        (λ e. subst (λ (i : ℕ). earlier (row_lt keys) (head_row heads i) (head_row heads least) ≡ false) (sym e) later)
        (⊎_elim (trailing j more) (λ beyond. absurd (omega (arith, beyond, within))))
        (cases_order j ordinal),
  )

  pub turns : (least ordinal : ℕ) → FirstSoFar least ordinal → earlier (row_lt keys) (head_row heads ordinal) (head_row heads least) ≡ true → FirstSoFar ordinal (ordinal + 1)
  turns least ordinal (less, before, trailing) sooner = (
    omega arith,
    λ j below. ⊎_elim
        (λ e. subst (λ (i : ℕ). earlier (row_lt keys) (head_row heads ordinal) (head_row heads i) ≡ true) (sym e) sooner)
        (⊎_elim
        (λ lower. earlier_then (row_lt keys) (row_lt-order keys) (head_row heads ordinal) (head_row heads least) (head_row heads j) sooner (before j lower))
        (λ higher. earlier_than (row_lt keys) (row_lt-order keys) (head_row heads ordinal) (head_row heads least) (head_row heads j) sooner (trailing j higher below)))
        (cases_order j least),
    λ j more within. absurd (omega (arith, more, within)),
  )

-- what a call makes of a merge
module _ {O : Type 0} (keys : List (Key ℕ)) (to_come : O → List Row) (heads : List (Head O)) (ordinal : ℕ) (first : IsFirst (row_lt keys) heads ordinal) where
  abbrev rows : List (List Row)
  rows = map (head_rows to_come) heads

  at_place : (head : Head O) → head ≡ get_or heads ordinal head → (list : List Row) → head_rows to_come head ≡ list → get_or rows ordinal [] ≡ list
  at_place head is list same = get_or-map (head_rows to_come) heads ordinal head [] first.within ∙ ap (head_rows to_come) (sym is) ∙ same

  pub row_taken : (head head' : Head O) → head ≡ get_or heads ordinal head → (row : Row) → head_rows to_come head ≡ row ∷ head_rows to_come head'
      → all_merged (row_lt keys) rows ≡ row ∷ all_merged (row_lt keys) (map (head_rows to_come) (set heads ordinal head'))
  row_taken head head' is row same =
      let here = at_place head is (row ∷ head_rows to_come head') same in
      let begin : Some row ≡ head_row heads ordinal = ap first_of (sym here) ∙ rows_begin to_come heads ordinal in
      all_taken (row_lt keys) rows ordinal row (head_rows to_come head') here
      (λ j less. rw (begin, rows_begin to_come heads j) (first.before j less))
      (λ j more within. rw (begin, rows_begin to_come heads j) (first.trailing j more (omega (arith, within, length-map heads (head_rows to_come)))))
      ∙ ap (λ (lists : List (List Row)). row ∷ all_merged (row_lt keys) lists) (sym (map-set (head_rows to_come) heads ordinal head'))

  pub none_taken : (head head' : Head O) → head ≡ get_or heads ordinal head → head_rows to_come head ≡ [] → head_rows to_come head' ≡ []
      → (all_merged (row_lt keys) rows ≡ []) × (all_merged (row_lt keys) (map (head_rows to_come) (set heads ordinal head')) ≡ [])
  none_taken head head' is none still =
      let here = at_place head is [] none in
      let begin : None ≡ head_row heads ordinal = ap first_of (sym here) ∙ rows_begin to_come heads ordinal in
      let ended : all_merged (row_lt keys) rows ≡ [] =
      all_ended (row_lt keys) rows ordinal here
      (λ j less. subst (λ (b : Option Row). earlier (row_lt keys) b (first_of (get_or rows j [])) ≡ true) (sym begin) (rw (rows_begin to_come heads j) (first.before j less)))
      (λ j more within. subst (λ (b : Option Row). earlier (row_lt keys) (first_of (get_or rows j [])) b ≡ false) (sym begin) (rw (rows_begin to_come heads j) (first.trailing j more (omega (arith, within, length-map heads (head_rows to_come))))))
      in
      let same : map (head_rows to_come) (set heads ordinal head') ≡ rows =
      map-set (head_rows to_come) heads ordinal head' ∙ ap (set rows ordinal) (still ∙ sym here) ∙ set-get_or rows ordinal []
      in
      (ended, ap (all_merged (row_lt keys)) same ∙ ended)

pub whichever : {X A B : Type 0} {P Q : X → Type 0} (found : Option X) → (A → B) → ((x : X) → P x → Q x) → MatchOption found A P → MatchOption found B Q
whichever None f h a = f a
whichever (Some x) f h p = h x p
