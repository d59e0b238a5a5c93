-- The parts of groups, taken one after another.
use Rattle.std.proofs.Common.{◌≡◌, ℕ, ◌+◌, ◌<◌, ◌≤◌, List, [], ◌∷◌, ◌++◌, length, get_or, take, drop, sym, ap, ◌∙◌, arith, length-drop}
use Rattle.std.proofs.lemmas.List.{take_more, drop_more, take_all, drop_all}
use Rattle.vt_value.specs.declared.value.Value.{Value}

-- the next part comes after those that came
pub next_part : (all old new : List Value) (i : ℕ) (v : Value) → old ≡ v ∷ new → old ≡ drop i all → (take i all ++ v ∷ [] ≡ take (i + 1) all) × (new ≡ drop (i + 1) all)
next_part all old new i v first left =
    let within : i < length all = omega (arith, ap length (sym first ∙ left), length-drop i all) in
    let split : v ∷ new ≡ get_or all i v ∷ drop (i + 1) all = sym first ∙ left ∙ drop_more all i v within in
    let same : v ≡ get_or all i v = cc in
    let rest : new ≡ drop (i + 1) all = cc in
    (ap (λ u. take i all ++ u ∷ []) same ∙ sym (take_more all i v within), rest)

-- no part is left
pub no_part : (all old new : List Value) (i : ℕ) → length old ≡ 0 → old ≡ new → old ≡ drop i all → (take i all ≡ take (i + 1) all) × (new ≡ drop (i + 1) all)
no_part all [] new i none same left =
    let past : length all ≤ i = omega (arith, ap length left, length-drop i all) in
    (take_all i all past ∙ sym (take_all (i + 1) all (omega (arith, past))), sym same ∙ sym (drop_all (i + 1) all (omega (arith, past))))
no_part all (v ∷ old) new i none same left = absurd (omega (arith, none))
