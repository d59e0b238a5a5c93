-- The packets that tell of a prepared statement, one after another.
use Rattle.std.proofs.Common.{◌≡◌, ℕ, zero, suc, ◌+◌, ◌<◌, ◌≤◌, ◌/◌, ◌%◌, List, [], ◌∷◌, ◌++◌, length, map, Result, refl, ap, sym, subst, ◌∙◌, arith}
use Rattle.std.specs.Prelude.{OnOk, IfOk}
use Rattle.std.proofs.lemmas.List.{length_push}
use Rattle.mysql_packet.specs.Numbers.{little_endian}
use Rattle.mysql_packet.specs.Frames.{frame, frames_from, number_after, number_after_all}
use Rattle.mysql_message.specs.Messages.{prepared_payload}
use Rattle.resultset.specs.declared.Column.{Column}
use Rattle.resultset.specs.declared.SetEnd.{SetEnd}
use Rattle.resultset.specs.Encoding.{definition_payload, after_definitions}
use Rattle.resultset.specs.PreparedReplies.{hole_column, hole_columns, definitions, prepare_payloads}
use Rattle.resultset.proofs.Payloads.{HasPut, has_put_none, whole_more, next_more, more_ok, more_next}
use Rattle.resultset.proofs.Pulls.{head_ok}

holes_after : (n : ℕ) → hole_columns (suc n) ≡ hole_columns n ++ hole_column ∷ []
holes_after zero = refl
holes_after (suc n) = ap (λ (l : List Column). hole_column ∷ l) (holes_after n)

-- one more hole
pub holes_more : (n : ℕ) → hole_columns (n + 1) ≡ hole_columns n ++ hole_column ∷ []
holes_more n = let e : n + 1 ≡ suc n = omega arith in ap hole_columns e ∙ holes_after n

pub holes_pushed : (columns pushed : List Column) (hole : Column) → columns ≡ hole_columns (length columns) → hole ≡ hole_column → pushed ≡ columns ++ hole ∷ []
    → pushed ≡ hole_columns (length pushed)
holes_pushed columns pushed hole so_far is p =
    let len : length pushed ≡ length columns + 1 = ap length p ∙ length_push columns hole in
    p ∙ ap (λ (c : Column). columns ++ c ∷ []) is ∙ ap (λ (l : List Column). l ++ hole_column ∷ []) so_far ∙ sym (holes_more (length columns)) ∙ ap hole_columns (sym len)

pub holes_bound : (columns pushed : List Column) (hole : Column) (n : ℕ) → length columns < n → pushed ≡ columns ++ hole ∷ [] → length pushed ≤ n
holes_bound columns pushed hole n lt p =
    let len : length pushed ≡ length columns + 1 = ap length p ∙ length_push columns hole in
    omega (arith, len, lt)

-- only the low bytes of a number of columns are told
low : (n : ℕ) → little_endian 2 (n % 65536) ≡ little_endian 2 n
low n =
    let first : n % 65536 % 256 ≡ n % 256 = omega arith in
    let second : n % 65536 / 256 % 256 ≡ n / 256 % 256 = omega arith in
    rw (first, second) refl

told_low : (statement columns holes : ℕ) → prepared_payload statement (columns % 65536) holes ≡ prepared_payload statement columns holes
told_low statement columns holes = ap (λ (l : List ℕ). 0x00 ∷ little_endian 4 statement ++ l ++ little_endian 2 holes ++ 0x00 ∷ little_endian 2 0) (low columns)

module _ {E : Type 0} where
  pub listed_ok : (r : Result ℕ E) (end : SetEnd) (status : ℕ) (columns : List Column) (start first second : List ℕ) (n n' : ℕ) → (columns ≡ [] → ⊥)
      → first ≡ start ++ frames_from n (map definition_payload columns) → n' ≡ number_after_all n (map definition_payload columns)
      → OnOk r (second ≡ first ++ frames_from n' (after_definitions end status)) → OnOk r (second ≡ start ++ frames_from n (definitions end columns status))
  listed_ok r end status [] start first second n n' some a na b = absurd (some refl)
  listed_ok r end status (c ∷ columns) start first second n n' some a na b =
      let none : HasPut start n 0 [] start 0 n = has_put_none 0 (omega arith) in
      let more : HasPut start n 0 (map definition_payload (c ∷ columns)) first 0 n' =
      record { whole = whole_more [] (map definition_payload (c ∷ columns)) start first 0 n none a; next = next_more [] (map definition_payload (c ∷ columns)) start 0 n n' none na; capacity = omega arith } in
      more_ok r (map definition_payload (c ∷ columns)) (after_definitions end status) (definitions end (c ∷ columns) status) first second 0 n' more refl b

  pub listed_next : (r : Result ℕ E) (end : SetEnd) (status : ℕ) (columns : List Column) (start first : List ℕ) (n n' : ℕ) → (columns ≡ [] → ⊥)
      → first ≡ start ++ frames_from n (map definition_payload columns) → n' ≡ number_after_all n (map definition_payload columns)
      → IfOk r (λ x. x ≡ number_after_all n' (after_definitions end status)) → IfOk r (λ x. x ≡ number_after_all n (definitions end columns status))
  listed_next r end status [] start first n n' some a na b = absurd (some refl)
  listed_next r end status (c ∷ columns) start first n n' some a na b =
      let none : HasPut start n 0 [] start 0 n = has_put_none 0 (omega arith) in
      let more : HasPut start n 0 (map definition_payload (c ∷ columns)) first 0 n' =
      record { whole = whole_more [] (map definition_payload (c ∷ columns)) start first 0 n none a; next = next_more [] (map definition_payload (c ∷ columns)) start 0 n n' none na; capacity = omega arith } in
      more_next r (map definition_payload (c ∷ columns)) (after_definitions end status) (definitions end (c ∷ columns) status) first 0 n' more refl b

  pub told_ok : (r : Result ℕ E) (start first second third p : List ℕ) (n n' n'' statement columns holes : ℕ) (ds es : List (List ℕ))
      → p ≡ prepared_payload statement (columns % 65536) holes → first ≡ start ++ frame n p → n' ≡ number_after n p → second ≡ first ++ frames_from n' ds
      → n'' ≡ number_after_all n' ds → OnOk r (third ≡ second ++ frames_from n'' es)
      → OnOk r (third ≡ start ++ frames_from n (prepared_payload statement columns holes ∷ ds ++ es))
  told_ok r start first second third p n n' n'' statement columns holes ds es is a na b nb c =
      let e : p ≡ prepared_payload statement columns holes = is ∙ told_low statement columns holes in
      head_ok r start first second third n n' n'' (prepared_payload statement columns holes) ds es (a ∙ ap (λ (q : List ℕ). start ++ frame n q) e)
      (na ∙ ap (number_after n) e) b nb c

  pub told_all : (r : Result ℕ E) (end : SetEnd) (status : ℕ) (start first second third p : List ℕ) (n n' n'' statement holes : ℕ) (columns named : List Column)
      → p ≡ prepared_payload statement (length columns % 65536) holes → first ≡ start ++ frame n p → n' ≡ number_after n p → named ≡ hole_columns holes
      → second ≡ first ++ frames_from n' (definitions end named status) → n'' ≡ number_after_all n' (definitions end named status)
      → OnOk r (third ≡ second ++ frames_from n'' (definitions end columns status))
      → OnOk r (third ≡ start ++ frames_from n (prepare_payloads end statement columns holes status))
  told_all r end status start first second third p n n' n'' statement holes columns named is a na names b nb c =
      told_ok r start first second third p n n' n'' statement (length columns) holes (definitions end (hole_columns holes) status) (definitions end columns status) is a na
      (subst (λ (ns : List Column). second ≡ first ++ frames_from n' (definitions end ns status)) names b)
      (subst (λ (ns : List Column). n'' ≡ number_after_all n' (definitions end ns status)) names nb) c
