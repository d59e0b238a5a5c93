-- Where a line is split.
use Rattle.std.proofs.Common.{◌≡◌, ◌≢◌, ℕ, zero, suc, ◌-◌, ◌<◌, ◌≤◌, true, false, List, [], ◌∷◌, ◌++◌, length, take, drop, refl, sym, ap, subst, ◌∙◌, arith, take-append-drop, length-drop, append-nil, append_assoc, take_all}
use Rattle.std.specs.Prelude.{codes, slice_index}
use Rattle.std.specs.List.{list_all}
use Rattle.std.proofs.lemmas.Bool.{and_parts, true≢false}
use Rattle.std.proofs.Math.Seq.{drop-cons}
use Rattle.vtgate_lines.specs.Lines.{is_lower_letter, is_inner, IsStatementLine, IsNextLine, ended, last}

-- what comes after the front at n
pub at : (xs : List ℕ) (n : ℕ) → n < length xs → drop n xs ≡ slice_index xs n ∷ drop (suc n) xs
at xs n h = drop-cons xs n 0 h

-- one more is left out
drop_again : (xs : List ℕ) (n : ℕ) → drop 1 (drop n xs) ≡ drop (suc n) xs
drop_again xs zero = refl
drop_again [] (suc n) = refl
drop_again (x ∷ xs) (suc n) = drop_again xs n

pub next_ended : (input line rest more : List ℕ) (n : ℕ) → line ≡ take n input → rest ≡ drop n input → more ≡ take (length rest - 1) (drop 1 rest)
    → list_all is_inner (take n input) ≡ true
    → (n < length input → slice_index input n ≡ 10) → 0 < length rest → IsNextLine input line more
next_ended input line rest more n l r m inner end some =
    let within : n < length input = omega (arith, ap length r, length-drop n input, some) in
    let all : take (length rest - 1) (drop 1 rest) ≡ drop 1 rest = take_all (length rest - 1) (drop 1 rest) (omega (arith, length-drop 1 rest)) in
    let trailing : more ≡ drop (suc n) input = m ∙ (all ∙ (ap (drop 1) r ∙ drop_again input n)) in
    let whole : take n input ++ (10 ∷ drop (suc n) input) ≡ input =
    ap (λ (b : ℕ). take n input ++ (b ∷ drop (suc n) input)) (sym (end within)) ∙ (ap (λ (xs : List ℕ). take n input ++ xs) (sym (at input n within)) ∙ take-append-drop n input) in
    rw (l, trailing) (subst (λ (xs : List ℕ). IsNextLine xs (take n input) (drop (suc n) input)) whole (ended inner))

pub nothing : (xs : List ℕ) → length xs ≡ 0 → xs ≡ []
nothing [] h = refl
nothing (x ∷ xs) h = absurd (omega (arith, h))

pub next_last : (input line rest : List ℕ) (n : ℕ) → line ≡ take n input → rest ≡ drop n input → list_all is_inner (take n input) ≡ true
    → length rest ≡ 0 → 0 < length input → IsNextLine input line rest
next_last input line rest n l r inner none some =
    let empty : rest ≡ [] = nothing rest none in
    let whole : take n input ≡ input =
    sym (append-nil (take n input)) ∙ (ap (λ (xs : List ℕ). take n input ++ xs) (sym empty ∙ r) ∙ take-append-drop n input) in
    let not_empty : input ≢ [] = λ e. absurd (omega (arith, ap length e, some)) in
    rw (empty, l, whole) (last {line = input} (subst (λ (xs : List ℕ). list_all is_inner xs ≡ true) whole inner) not_empty)

-- a front of letters is split off in one way
letters_apart : (xs ys : List ℕ) (z : ℕ) (zs ws : List ℕ) → list_all is_lower_letter xs ≡ true → list_all is_lower_letter ys ≡ true → is_lower_letter z ≡ false
    → ((w : ℕ) (more : List ℕ) → ws ≡ w ∷ more → is_lower_letter w ≡ false) → xs ++ (z ∷ zs) ≡ ys ++ ws → (xs ≡ ys) × (z ∷ zs ≡ ws)
letters_apart [] [] z zs ws h g other trailing e = (refl, e)
letters_apart [] (y ∷ ys) z zs ws h g other trailing e =
    let p = and_parts (is_lower_letter y) (list_all is_lower_letter ys) g in
    let same : z ≡ y = cc in
    absurd (true≢false (sym p.0 ∙ (ap is_lower_letter (sym same) ∙ other)))
letters_apart (x ∷ xs) [] z zs ws h g other trailing e =
    let p = and_parts (is_lower_letter x) (list_all is_lower_letter xs) h in
    absurd (true≢false (sym p.0 ∙ trailing x (xs ++ (z ∷ zs)) (sym e)))
letters_apart (x ∷ xs) (y ∷ ys) z zs ws h g other trailing e =
    let p = and_parts (is_lower_letter x) (list_all is_lower_letter xs) h in
    let q = and_parts (is_lower_letter y) (list_all is_lower_letter ys) g in
    let w = letters_apart xs ys z zs ws p.1 q.1 other trailing (cc) in
    let same : x ≡ y = cc in
    (cc, w.1)

-- after as many letters as there are, another byte or nothing stands
other_after : (line : List ℕ) (n : ℕ) → n ≤ length line → (n < length line → is_lower_letter (slice_index line n) ≡ false)
    → (w : ℕ) (more : List ℕ) → drop n line ≡ w ∷ more → is_lower_letter w ≡ false
other_after line n bound end w more e =
    let within : n < length line = omega (arith, ap length e, length-drop n line) in
    let same : slice_index line n ≡ w = cc (at line n within) in
    ap is_lower_letter (sym same) ∙ end within

-- a statement's line is split at its name
pub at_name : (line name sql front rest : List ℕ) (n : ℕ) → IsStatementLine line name sql → front ≡ take n line → rest ≡ drop n line → n ≤ length line
    → list_all is_lower_letter (take n line) ≡ true → (n < length line → is_lower_letter (slice_index line n) ≡ false)
    → (front ≢ []) × (rest ≡ codes ": " ++ sql)
at_name line name sql front rest n s f r bound letters end =
    let colon : line ≡ name ++ (58 ∷ 32 ∷ sql) = s.1 ∙ append_assoc name (codes ": ") sql in
    let whole : name ++ (58 ∷ 32 ∷ sql) ≡ take n line ++ drop n line = sym colon ∙ sym (take-append-drop n line) in
    let p = letters_apart name (take n line) 58 (32 ∷ sql) (drop n line) s.0.0 letters refl (other_after line n bound end) whole in
    (λ none. s.0.1 (p.0 ∙ (sym f ∙ none)), r ∙ sym p.1)
