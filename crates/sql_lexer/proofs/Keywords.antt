-- Keywords in any case.
use Rattle.std.proofs.Common.{◌≡◌, ℕ, Bool, true, false, cond, eqb, leb, ◌&&◌, ◌||◌, List, [], ◌∷◌, length, map, Some, None, refl, sym, ap, subst, arith}
use Rattle.std.specs.List.{find, list_all, list_any}
use Rattle.std.specs.Str.{bytes_eq}
use Rattle.std.specs.Char.{to_ascii_lowercase}
use Rattle.std.proofs.lemmas.Bool.{leb-true, le-leb, and_parts, or_parts, or_from}
use Rattle.std.proofs.lemmas.Bool.Decides.{nat_tests}
use Rattle.std.proofs.lemmas.List.{length-map}
use Rattle.std.proofs.lemmas.Slice.Eq.{bytes_eq-Decides}
use Rattle.sql_lexer.specs.declared.token.Keyword.{Keyword}
use Rattle.sql_lexer.specs.declared.token.Keyword.TheVariants.{And}
use Rattle.sql_lexer.specs.Keywords.{keywords, keyword_text}
use Rattle.sql_lexer.specs.Lexemes.{is_letter, is_word_byte, upper_case, max_word, is_word, is_spelling_of, is_keyword}
use Rattle.sql_lexer.specs.inner.Scanning.{keyword_at}

abbrev is_upper : ℕ → Bool
is_upper b = leb 65 b && leb b 90

same_letter : (a b : ℕ) → is_upper b ≡ true → eqb (to_ascii_lowercase a) (to_ascii_lowercase b) ≡ eqb (upper_case a) b
same_letter a b h =
    let p = and_parts (leb 65 b) (leb b 90) h in
    let low = leb-true 65 b p.0 in
    let high = leb-true b 90 p.1 in
    grind (arith, nat_tests)

-- ignoring case is comparing with the upper case
pub same_case : (word text : List ℕ) → list_all is_upper text ≡ true
    → bytes_eq (map to_ascii_lowercase word) (map to_ascii_lowercase text) ≡ bytes_eq (map upper_case word) text
same_case [] [] h = refl
same_case [] (b ∷ text) h = refl
same_case (a ∷ word) [] h = refl
same_case (a ∷ word) (b ∷ text) h = let p = and_parts (is_upper b) (list_all is_upper text) h in rw (same_letter a b p.0, same_case word text p.1) refl

pub all_upper : (k : Keyword) → list_all is_upper (keyword_text k) ≡ true
all_upper And = refl
all_upper _ = refl

some_letters : (k : Keyword) → leb 1 (length (keyword_text k)) ≡ true
some_letters And = refl
some_letters _ = refl

few_letters : (k : Keyword) → leb (length (keyword_text k)) max_word ≡ true
few_letters And = refl
few_letters _ = refl

finds_itself : (k : Keyword) → find (λ j. bytes_eq (keyword_text k) (keyword_text j)) keywords ≡ Some k
finds_itself And = refl
finds_itself _ = refl

pub spelled : (word : List ℕ) (k : Keyword) → is_spelling_of word k ≡ true → map upper_case word ≡ keyword_text k
spelled word k h = (bytes_eq-Decides (map upper_case word) (keyword_text k)).0 h

letter_from_upper : (a : ℕ) → is_upper (upper_case a) ≡ true → is_letter a ≡ true
letter_from_upper a h = grind (arith, nat_tests)

letters : (word : List ℕ) → list_all is_upper (map upper_case word) ≡ true → list_all is_word_byte word ≡ true
letters [] h = refl
letters (a ∷ word) h =
    let p = and_parts (is_upper (upper_case a)) (list_all is_upper (map upper_case word)) h in
    rw (letter_from_upper a p.0, letters word p.1) refl

pub keyword_is_word : (word : List ℕ) (k : Keyword) → is_spelling_of word k ≡ true → is_word word ≡ true
keyword_is_word [] k h =
    let n = leb-true 1 _ (some_letters k) in
    absurd (omega (arith, n, ap length (spelled [] k h)))
keyword_is_word (a ∷ word) k h =
    let e = spelled (a ∷ word) k h in
    let u : list_all is_upper (map upper_case (a ∷ word)) ≡ true = subst (λ (t : List ℕ). list_all is_upper t ≡ true) (sym e) (all_upper k) in
    let p = and_parts (is_upper (upper_case a)) (list_all is_upper (map upper_case word)) u in
    let n = leb-true _ max_word (few_letters k) in
    let short : leb (length (a ∷ word)) max_word ≡ true = le-leb (length (a ∷ word)) max_word (omega (arith, n, simp length-map at (ap length e))) in
    rw (letter_from_upper a p.0, letters word p.1, short) refl

find_passes : {A : Type 0} (p : A → Bool) (xs : List A) (x : A) → find p xs ≡ Some x → p x ≡ true
find_passes p [] x e = absurd cc
find_passes {A} p (y ∷ ys) x e = go (p y) refl e (find_passes p ys x)
  where
    go : (b : Bool) → p y ≡ b → cond b (Some y) (find p ys) ≡ Some x → (find p ys ≡ Some x → p x ≡ true) → p x ≡ true
    go true is e rec = let same : y ≡ x = cc in subst (λ (z : A). p z ≡ true) same is
    go false is e rec = rec e

find_none : {A : Type 0} (p : A → Bool) (xs : List A) → find p xs ≡ None → list_any p xs ≡ false
find_none p [] e = refl
find_none p (y ∷ ys) e = go (p y) refl e (find_none p ys)
  where
    go : (b : Bool) → p y ≡ b → cond b (Some y) (find p ys) ≡ None → (find p ys ≡ None → list_any p ys ≡ false) → (p y || list_any p ys) ≡ false
    go true is e rec = absurd cc
    go false is e rec = or_from (p y) (list_any p ys) is (rec e)

none_found : {A : Type 0} (p : A → Bool) (xs : List A) → list_any p xs ≡ false → find p xs ≡ None
none_found p [] e = refl
none_found p (y ∷ ys) e = let q = or_parts (p y) (list_any p ys) e in rw q.0 (none_found p ys q.1)

-- ---- the keyword that a word is

pub keyword_again : (word : List ℕ) (k : Keyword) → is_spelling_of word k ≡ true → keyword_at word ≡ Some k
unfolding keyword_at
keyword_again word k h = subst (λ (t : List ℕ). find (λ j. bytes_eq t (keyword_text j)) keywords ≡ Some k) (sym (spelled word k h)) (finds_itself k)

pub keyword_sound : (word : List ℕ) (k : Keyword) → keyword_at word ≡ Some k → is_spelling_of word k ≡ true
unfolding keyword_at
keyword_sound word k e = find_passes (is_spelling_of word) keywords k e

pub no_keyword_sound : (word : List ℕ) → keyword_at word ≡ None → is_keyword word ≡ false
unfolding keyword_at
no_keyword_sound word e = find_none (is_spelling_of word) keywords e

pub no_keyword_again : (word : List ℕ) → is_keyword word ≡ false → keyword_at word ≡ None
unfolding keyword_at
no_keyword_again word e = none_found (is_spelling_of word) keywords e

-- ---- the keywords of a length

pub not_spelled : (word : List ℕ) (n : ℕ) → length word ≡ n → (k : Keyword) → eqb (length (keyword_text k)) n ≡ false → is_spelling_of word k ≡ false
not_spelled word n e k h = go (is_spelling_of word k) refl
  where
    go : (b : Bool) → is_spelling_of word k ≡ b → b ≡ false
    go false is = refl
    go true is =
        let same : length word ≡ length (keyword_text k) = simp length-map at (ap length (spelled word k is)) in
        grind (arith, nat_tests)

pub spelled_length : (word : List ℕ) (n : ℕ) → length word ≡ n → (k : Keyword) → is_spelling_of word k ≡ true → eqb (length (keyword_text k)) n ≡ true
spelled_length word n e k is =
    let same : length word ≡ length (keyword_text k) = simp length-map at (ap length (spelled word k is)) in
    grind (arith, nat_tests)
