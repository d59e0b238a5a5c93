-- Each byte of a word, a field and a head is visible.
use Rattle.std.proofs.Common.{◌≡◌, ◌==◌, ◌<◌, ℕ, ◌%◌, ◌/◌, Bool, true, false, not, ◌&&◌, ◌||◌, if◌then◌else◌, List, [], ◌∷◌, ◌++◌, length, refl, arith}
use Rattle.std.specs.Prelude.{flat_map}
use Rattle.std.specs.List.{list_all}
use Rattle.std.proofs.lemmas.List.Folds.{list_all-append}
use Rattle.std.proofs.lemmas.Bool.Decides.{nat_tests}
use Rattle.program_log.specs.lines.Lines.{is_visible, low_digit, shown_byte, stands_bare, is_bare_word, log_word, log_field, log_head}

pub and_left : (a b : Bool) → (a && b) ≡ true → a ≡ true
and_left true b e = refl
and_left false b e = e

pub and_right : (a b : Bool) → (a && b) ≡ true → b ≡ true
and_right true b e = e
and_right false b e = cc

-- two lists whose bytes are all visible, one after the other
pub visible-append : (xs ys : List ℕ) → list_all is_visible xs ≡ true → list_all is_visible ys ≡ true → list_all is_visible (xs ++ ys) ≡ true
visible-append xs ys x y = rw (list_all-append is_visible xs ys, x) y

visible-cons : (b : ℕ) (bs : List ℕ) → is_visible b ≡ true → list_all is_visible bs ≡ true → list_all is_visible (b ∷ bs) ≡ true
visible-cons b bs x y = rw x y

visible-digit : (n : ℕ) → n < 16 → is_visible (low_digit n) ≡ true
visible-digit n below = grind (arith, nat_tests)

-- a visible byte, with a backslash before it or without
visible-plain : (b : ℕ) (quoted : Bool) → is_visible b ≡ true → list_all is_visible (if quoted then 0x5C ∷ b ∷ [] else b ∷ []) ≡ true
visible-plain b true e = visible-cons b [] e refl
visible-plain b false e = visible-cons b [] e refl

visible-shown_at : (b : ℕ) (v : Bool) → is_visible b ≡ v → list_all is_visible (shown_byte b) ≡ true
visible-shown_at b true e = rw e (visible-plain b ((b == 0x22) || (b == 0x5C)) e)
visible-shown_at b false e =
    rw e (visible-cons (low_digit (b / 16 % 16)) (low_digit (b % 16) ∷ []) (visible-digit (b / 16 % 16) (omega arith)) (visible-cons (low_digit (b % 16)) [] (visible-digit (b % 16) (omega arith)) refl))

visible-shown : (bs : List ℕ) → list_all is_visible (flat_map shown_byte bs) ≡ true
visible-shown [] = refl
visible-shown (b ∷ bs) = visible-append (shown_byte b) (flat_map shown_byte bs) (visible-shown_at b (is_visible b) refl) (visible-shown bs)

bare_is_visible : (b : ℕ) → stands_bare b ≡ true → is_visible b ≡ true
bare_is_visible b e =
    and_left (is_visible b) (not (b == 0x20))
    (and_left (is_visible b && not (b == 0x20)) (not (b == 0x22))
    (and_left (is_visible b && not (b == 0x20) && not (b == 0x22)) (not (b == 0x3D))
    (and_left (is_visible b && not (b == 0x20) && not (b == 0x22) && not (b == 0x3D)) (not (b == 0x5C)) e)))

visible-bare : (bs : List ℕ) → list_all stands_bare bs ≡ true → list_all is_visible bs ≡ true
visible-bare [] e = refl
visible-bare (b ∷ bs) e =
    visible-cons b bs (bare_is_visible b (and_left (stands_bare b) (list_all stands_bare bs) e)) (visible-bare bs (and_right (stands_bare b) (list_all stands_bare bs) e))

visible-word_at : (text : List ℕ) (bare : Bool) → is_bare_word text ≡ bare → list_all is_visible (log_word text) ≡ true
visible-word_at text true e = rw e (visible-bare text (and_right (not (length text == 0)) (list_all stands_bare text) e))
visible-word_at text false e = rw e (visible-append (flat_map shown_byte text) (0x22 ∷ []) (visible-shown text) refl)

pub visible-word : (text : List ℕ) → list_all is_visible (log_word text) ≡ true
visible-word text = visible-word_at text (is_bare_word text) refl

pub visible-field : (key value : List ℕ) → list_all is_visible (log_field (key, value)) ≡ true
visible-field key value = visible-append (log_word key) (0x3D ∷ log_word value) (visible-word key) (visible-word value)

pub visible-head : (time level event : List ℕ) → list_all is_visible (log_head time level event) ≡ true
visible-head time level event =
    visible-append (log_word time ++ 0x20 ∷ log_word level) (0x20 ∷ log_word event)
    (visible-append (log_word time) (0x20 ∷ log_word level) (visible-word time) (visible-word level)) (visible-word event)
