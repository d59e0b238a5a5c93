-- The code of a word of at most 8 bytes is that of no other such word, but for the case of its letters.
use Rattle.std.proofs.Common.{◌≡◌, ◌∙◌, ℕ, zero, suc, ◌+◌, ◌-◌, ◌*◌, ◌/◌, ◌%◌, ◌^◌, ◌<◌, ◌≤◌, Bool, true, false, cond, eqb, leb, List, [], ◌∷◌, ◌++◌, length, map, take, Option, Some, None, refl, sym, ap, subst, append-nil, arith}
use Rattle.std.specs.List.{filter, find, list_all}
use Rattle.std.proofs.lemmas.Bool.{leb-true, lt-leb, ne_eqb, eqb-true, and_parts}
use Rattle.std.proofs.lemmas.Bool.Decides.{nat_tests}
use Rattle.std.proofs.lemmas.Nat.{div-mul-add, mod-mul-add}
use Rattle.std.proofs.Math.Nat.{mod-eq_of_lt}
use Rattle.std.proofs.lemmas.Slice.Eq.{bytes_eq-Decides}
use Rattle.sql_lexer.specs.declared.token.Keyword.{Keyword}
use Rattle.sql_lexer.specs.declared.token.Keyword.TheVariants.{And, Transaction}
use Rattle.sql_lexer.specs.Keywords.{keywords, keyword_text}
use Rattle.sql_lexer.specs.Lexemes.{is_word_byte, upper_case, is_spelling_of}
use Rattle.sql_lexer.specs.inner.Scanning.{run, keyword_at, code_with, code_from, has_code, short_keywords}
use Rattle.sql_lexer.proofs.Below.{passes_below, passes_at}
use Rattle.sql_lexer.proofs.Keywords.{spelled, spelled_length, not_spelled, keyword_sound}

-- ---- bytes

pub upper_bounds : (b : ℕ) → is_word_byte b ≡ true → (48 ≤ upper_case b) × (upper_case b < 256)
upper_bounds b h = (grind (arith, nat_tests), grind (arith, nat_tests))

-- ---- a code is in 64 bits as long as the word has at most 8 bytes

-- what a code is below if so many bytes are to come
bound : ℕ → ℕ
bound n = 2 ^ (64 - 8 * n)

bound_step : (n : ℕ) → n < 8 → bound (suc n) * 256 ≡ bound n
unfolding bound passes_below
bound_step n lt = eqb-true _ _ (passes_at (λ k. eqb (bound (suc k) * 256) (bound k)) 8 refl n lt)

bound_most : (n : ℕ) → n < 9 → bound n ≤ 2 ^ 64
unfolding bound passes_below
bound_most n lt = leb-true _ _ (passes_at (λ k. leb (bound k) (2 ^ 64)) 9 refl n lt)

bound_least : (n : ℕ) → n < 9 → 0 < bound n
unfolding bound passes_below
bound_least n lt = leb-true _ _ (passes_at (λ k. leb 1 (bound k)) 9 refl n lt)

-- the number that bytes in upper case are
number_onto : ℕ → List ℕ → ℕ
number_onto code [] = code
number_onto code (b ∷ bytes) = number_onto (code * 256 + upper_case b) bytes

with_fits : (code upper : ℕ) → code * 256 + upper < 2 ^ 64 → code_with code upper ≡ code * 256 + upper
with_fits code upper lt =
    let first : code * 256 % 2 ^ 64 ≡ code * 256 = mod-eq_of_lt (omega arith) in
    rw first (mod-eq_of_lt lt)

code_is_number : (bytes : List ℕ) (code : ℕ) → list_all is_word_byte bytes ≡ true → length bytes ≤ 8 → code < bound (length bytes) → code_from code bytes ≡ number_onto code bytes
unfolding number_onto
code_is_number [] code h le lt = refl
code_is_number (b ∷ bytes) code h le lt =
    let p = and_parts (is_word_byte b) (list_all is_word_byte bytes) h in
    let high = (upper_bounds b p.0).1 in
    let step = bound_step (length bytes) (omega arith) in
    let most = bound_most (length bytes) (omega arith) in
    let next : code * 256 + upper_case b < bound (length bytes) = omega arith in
    rw (p.0, with_fits code (upper_case b) (omega arith)) (code_is_number bytes (code * 256 + upper_case b) p.1 (omega arith) next)

-- ---- a number has one list of bytes

bytes_in : ℕ → ℕ → List ℕ → List ℕ
bytes_in zero number after = after
bytes_in (suc most) number after = cond (eqb number 0) after (bytes_in most (number / 256) (number % 256 ∷ after))

bytes_again : (bytes : List ℕ) (more code : ℕ) (after : List ℕ) → list_all is_word_byte bytes ≡ true
    → bytes_in (length bytes + more) (number_onto code bytes) after ≡ bytes_in more code (map upper_case bytes ++ after)
unfolding number_onto bytes_in
bytes_again [] more code after h = ap (λ n. bytes_in n code after) (omega arith)
bytes_again (b ∷ bytes) more code after h =
    let p = and_parts (is_word_byte b) (list_all is_word_byte bytes) h in
    let u = upper_bounds b p.0 in
    let number = code * 256 + upper_case b in
    let some : eqb number 0 ≡ false = ne_eqb number 0 (λ e. omega arith) in
    ap (λ n. bytes_in n (number_onto number bytes) after) (omega arith)
    ∙ bytes_again bytes (suc more) number after p.1
    ∙ rw (some, div-mul-add code 256 (upper_case b) u.1, mod-mul-add code 256 (upper_case b) u.1) refl

none_left : (more : ℕ) (after : List ℕ) → bytes_in more 0 after ≡ after
unfolding bytes_in
none_left zero after = refl
none_left (suc more) after = refl

-- the bytes of a word of at most 8 in upper case, by its code
bytes_of_code : (bytes : List ℕ) → list_all is_word_byte bytes ≡ true → length bytes ≤ 8 → bytes_in 8 (code_from 0 bytes) [] ≡ map upper_case bytes
bytes_of_code bytes h le =
    let more = 8 - length bytes in
    let size : 8 ≡ length bytes + more = omega arith in
    let least = bound_least (length bytes) (omega arith) in
    ap (λ n. bytes_in 8 n []) (code_is_number bytes 0 h le least)
    ∙ ap (λ n. bytes_in n (number_onto 0 bytes) []) size
    ∙ bytes_again bytes more 0 [] h
    ∙ none_left more (map upper_case bytes ++ [])
    ∙ append-nil (map upper_case bytes)

-- ---- keywords

short : Keyword → Bool
short k = leb (length (keyword_text k)) 8

of_word_bytes : (k : Keyword) → list_all is_word_byte (keyword_text k) ≡ true
of_word_bytes And = refl
of_word_bytes _ = refl

in_upper_case : (k : Keyword) → map upper_case (keyword_text k) ≡ keyword_text k
in_upper_case And = refl
in_upper_case _ = refl

-- a word with the code of a keyword is that keyword in some case
code_spells : (word : List ℕ) (k : Keyword) → list_all is_word_byte word ≡ true → length word ≤ 8 → short k ≡ true → code_from 0 (keyword_text k) ≡ code_from 0 word
    → is_spelling_of word k ≡ true
unfolding short
code_spells word k h le few e =
    let same : map upper_case word ≡ keyword_text k =
    sym (bytes_of_code word h le) ∙ ap (λ n. bytes_in 8 n []) (sym e) ∙ bytes_of_code (keyword_text k) (of_word_bytes k) (leb-true _ 8 few) ∙ in_upper_case k in
    (bytes_eq-Decides (map upper_case word) (keyword_text k)).1 same

upper_again : (b : ℕ) → upper_case (upper_case b) ≡ upper_case b
upper_again b = grind (arith, nat_tests)

word_again : (b : ℕ) → is_word_byte (upper_case b) ≡ is_word_byte b
word_again b = grind (arith, nat_tests)

code_of_upper : (bytes : List ℕ) (code : ℕ) → code_from code (map upper_case bytes) ≡ code_from code bytes
code_of_upper [] code = refl
code_of_upper (b ∷ bytes) code = rw (word_again b, upper_again b, code_of_upper bytes (code_with code (upper_case b))) refl

spells_code : (word : List ℕ) (k : Keyword) → is_spelling_of word k ≡ true → code_from 0 (keyword_text k) ≡ code_from 0 word
spells_code word k h = ap (code_from 0) (sym (spelled word k h)) ∙ code_of_upper word 0

eqb_same : (n : ℕ) → eqb n n ≡ true
eqb_same n = grind (arith, nat_tests)

-- the two tests are one
same_test : (word : List ℕ) (k : Keyword) → list_all is_word_byte word ≡ true → length word ≤ 8 → short k ≡ true → has_code (code_from 0 word) k ≡ is_spelling_of word k
same_test word k h le few = go (has_code (code_from 0 word) k) refl (is_spelling_of word k) refl
  where
    go : (a : Bool) → has_code (code_from 0 word) k ≡ a → (b : Bool) → is_spelling_of word k ≡ b → has_code (code_from 0 word) k ≡ is_spelling_of word k
    go true is true has = is ∙ sym has
    go false is false has = is ∙ sym has
    go true is false has = let yes = code_spells word k h le few (eqb-true _ _ is) in absurd cc
    go false is true has =
        let same : has_code (code_from 0 word) k ≡ true = rw (spells_code word k has) (eqb_same (code_from 0 word)) in
        absurd cc

long_not_spelled : (word : List ℕ) (k : Keyword) → length word ≤ 8 → short k ≡ false → is_spelling_of word k ≡ false
unfolding short
long_not_spelled word k le few = not_spelled word (length word) refl k (grind (arith, nat_tests))

find_short : (word : List ℕ) → list_all is_word_byte word ≡ true → length word ≤ 8 → (ks : List Keyword)
    → find (has_code (code_from 0 word)) (filter short ks) ≡ find (is_spelling_of word) ks
find_short word h le [] = refl
find_short word h le (k ∷ ks) = go (short k) refl (find_short word h le ks)
  where
    go : (b : Bool) → short k ≡ b → find (has_code (code_from 0 word)) (filter short ks) ≡ find (is_spelling_of word) ks
        → find (has_code (code_from 0 word)) (cond b (k ∷ filter short ks) (filter short ks)) ≡ cond (is_spelling_of word k) (Some k) (find (is_spelling_of word) ks)
    go true is rec = rw (same_test word k h le is, rec) refl
    go false is rec = rw (long_not_spelled word k le is) rec

-- a word of at most 8 bytes is looked for by its code
pub keyword_by_code : (word : List ℕ) → list_all is_word_byte word ≡ true → length word ≤ 8 → find (has_code (code_from 0 word)) short_keywords ≡ keyword_at word
unfolding keyword_at short
keyword_by_code word h le = find_short word h le keywords

-- ---- longer words

only_long : (k : Keyword) → short k ≡ false → k ≡ Transaction
unfolding short
only_long Transaction h = refl
only_long _ h = absurd cc

long_is_not_short : (k : Keyword) → 8 < length (keyword_text k) → short k ≡ false
unfolding short
long_is_not_short k lt = lt-leb (length (keyword_text k)) 8 lt

pub no_longer_keyword : (word : List ℕ) → 8 < length word → is_spelling_of word Transaction ≡ false → keyword_at word ≡ None
no_longer_keyword word lt other = go (keyword_at word) refl
  where
    go : (o : Option Keyword) → keyword_at word ≡ o → o ≡ None
    go None e = refl
    go (Some k) e =
        let spells = keyword_sound word k e in
        let size : length (keyword_text k) ≡ length word = eqb-true _ _ (spelled_length word (length word) refl k spells) in
        let is : k ≡ Transaction = only_long k (long_is_not_short k (omega arith)) in
        let spelling : is_spelling_of word Transaction ≡ true = subst (λ (j : Keyword). is_spelling_of word j ≡ true) is spells in
        absurd cc

-- ---- the word at the front

pub code_of_run : (bytes : List ℕ) (code : ℕ) → code_from code bytes ≡ code_from code (take (run is_word_byte bytes) bytes)
code_of_run [] code = refl
code_of_run (b ∷ bytes) code = go (is_word_byte b) refl (code_of_run bytes)
  where
    go : (t : Bool) → is_word_byte b ≡ t → ((code : ℕ) → code_from code bytes ≡ code_from code (take (run is_word_byte bytes) bytes))
        → cond t (code_from (code_with code (upper_case b)) bytes) code ≡ code_from code (take (cond t (suc (run is_word_byte bytes)) 0) (b ∷ bytes))
    go true is rec = rw (is, rec (code_with code (upper_case b))) refl
    go false is rec = refl
