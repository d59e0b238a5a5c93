-- Two lines that are one tell the same.
use Rattle.std.proofs.Common.{◌≡◌, ◌≢◌, ◌==◌, ◌<◌, ◌⊎◌, ℕ, ◌%◌, ◌/◌, nat_lt, if◌then◌else◌, Bool, true, false, not, List, [], ◌∷◌, ◌++◌, length, refl, sym, ap, ◌∙◌, append_assoc, inl, inr, arith}
use Rattle.std.specs.Prelude.{flat_map}
use Rattle.std.specs.List.{AllByRecursion, list_all}
use borrow.Author.Tests.{ltb-true}
use Rattle.std.proofs.lemmas.Bool.Decides.{nat_tests}
use Rattle.log.specs.Kv.{Pair}
use Rattle.log.specs.declared.level.Level.{Level}
use Rattle.log.specs.declared.level.Level.TheVariants.{Error, Warn, Info, Debug, Trace}
use Rattle.program_log.specs.lines.Lines.{is_visible, low_digit, shown_byte, stands_bare, is_bare_word, log_word, log_field, log_head, log_line, level_text, LogEntry}
use Rattle.program_log.specs.lines.Unforged.{AreBytes, HasBytes}
use Rattle.program_log.proofs.lines.Words.{and_left, and_right}

-- what follows a word: a byte that no bare word has
abbrev Stops : List ℕ → Type 0
Stops [] = ⊥
Stops (b ∷ bs) = stands_bare b ≡ false

clash : (b c : ℕ) → b ≡ c → stands_bare b ≡ true → stands_bare c ≡ false → ⊥
clash b c same bare stops = let z : true ≡ false = sym bare ∙ (ap stands_bare same ∙ stops) in cc

bare_ends : (a b x y : List ℕ) → list_all stands_bare a ≡ true → list_all stands_bare b ≡ true → Stops x → Stops y → a ++ x ≡ b ++ y → (a ≡ b) × (x ≡ y)
bare_ends [] [] x y p q s t e = (refl, e)
bare_ends [] (c ∷ b) [] y p q s t e = absurd s
bare_ends [] (c ∷ b) (d ∷ x) y p q s t e =
    let h : c ≡ d = cc in absurd (clash c d h (and_left (stands_bare c) (list_all stands_bare b) q) s)
bare_ends (c ∷ a) [] x [] p q s t e = absurd t
bare_ends (c ∷ a) [] x (d ∷ y) p q s t e =
    let h : c ≡ d = cc in absurd (clash c d h (and_left (stands_bare c) (list_all stands_bare a) p) t)
bare_ends (c ∷ a) (d ∷ b) x y p q s t e =
    let h : c ≡ d = cc in
    let g : a ++ x ≡ b ++ y = cc in
    let r : (a ≡ b) × (x ≡ y) = bare_ends a b x y (and_right (stands_bare c) (list_all stands_bare a) p) (and_right (stands_bare d) (list_all stands_bare b) q) s t g in
    let r0 = r.0 in (cc, r.1)

-- how a byte is shown
data Shows (p : ℕ) : List ℕ → Type 0 where
  plain : p ≢ 0x22 → p ≢ 0x5C → Shows p (p ∷ [])
  escaped : (p ≡ 0x22) ⊎ (p ≡ 0x5C) → Shows p (0x5C ∷ p ∷ [])
  coded : Shows p (0x5C ∷ 0x75 ∷ 0x30 ∷ 0x30 ∷ low_digit (p / 16 % 16) ∷ low_digit (p % 16) ∷ [])

shows_at : (p : ℕ) (v q r : Bool) → is_visible p ≡ v → (p == 0x22) ≡ q → (p == 0x5C) ≡ r → Shows p (shown_byte p)
shows_at p false q r ev eq er = rw ev coded
shows_at p true true r ev eq er = rw (ev, eq) (escaped (inl (grind (arith, nat_tests))))
shows_at p true false true ev eq er = rw (ev, eq, er) (escaped (inr (grind (arith, nat_tests))))
shows_at p true false false ev eq er = rw (ev, eq, er) (plain (grind (arith, nat_tests)) (grind (arith, nat_tests)))

shows : (p : ℕ) → Shows p (shown_byte p)
shows p = shows_at p (is_visible p) (p == 0x22) (p == 0x5C) refl refl refl

digit_same : (m n : ℕ) → m < 16 → n < 16 → low_digit m ≡ low_digit n → m ≡ n
digit_same m n a b e = grind (arith, nat_tests)

coded_same : (p q : ℕ) → p < 256 → q < 256 → low_digit (p / 16 % 16) ≡ low_digit (q / 16 % 16) → low_digit (p % 16) ≡ low_digit (q % 16) → p ≡ q
coded_same p q a b high low =
    let h : p / 16 % 16 ≡ q / 16 % 16 = digit_same (p / 16 % 16) (q / 16 % 16) (omega arith) (omega arith) high in
    let l : p % 16 ≡ q % 16 = digit_same (p % 16) (q % 16) (omega arith) (omega arith) low in
    omega arith

no_quoted : (p : ℕ) → (p ≡ 0x22) ⊎ (p ≡ 0x5C) → p ≡ 0x75 → ⊥
no_quoted p (inl h) e = omega arith
no_quoted p (inr h) e = omega arith

shown_same : (p q : ℕ) (s t x y : List ℕ) → p < 256 → q < 256 → Shows p s → Shows q t → s ++ x ≡ t ++ y → (p ≡ q) × (x ≡ y)
shown_same p q s t x y a b (plain n m) (plain k l) e = (cc, cc)
shown_same p q s t x y a b (plain n m) (escaped k) e = let h : p ≡ 0x5C = cc in absurd (m h)
shown_same p q s t x y a b (plain n m) coded e = let h : p ≡ 0x5C = cc in absurd (m h)
shown_same p q s t x y a b (escaped n) (plain k l) e = let h : q ≡ 0x5C = cc in absurd (l h)
shown_same p q s t x y a b (escaped n) (escaped k) e = (cc, cc)
shown_same p q s t x y a b (escaped n) coded e = let h : p ≡ 0x75 = cc in absurd (no_quoted p n h)
shown_same p q s t x y a b coded (plain k l) e = let h : q ≡ 0x5C = cc in absurd (l h)
shown_same p q s t x y a b coded (escaped k) e = let h : q ≡ 0x75 = cc in absurd (no_quoted q k h)
shown_same p q s t x y a b coded coded e =
    let high : low_digit (p / 16 % 16) ≡ low_digit (q / 16 % 16) = cc in
    let low : low_digit (p % 16) ≡ low_digit (q % 16) = cc in
    let rest : x ≡ y = cc in (coded_same p q a b high low, rest)

no_end : (p : ℕ) (s x y : List ℕ) → Shows p s → s ++ x ≡ 0x22 ∷ y → ⊥
no_end p s x y (plain n m) e = let h : p ≡ 0x22 = cc in n h
no_end p s x y (escaped n) e = let h : ◌≡◌ {A = ℕ} 0x5C 0x22 = cc in omega arith
no_end p s x y coded e = let h : ◌≡◌ {A = ℕ} 0x5C 0x22 = cc in omega arith

quoted_ends : (a b x y : List ℕ) → AreBytes a → AreBytes b → flat_map shown_byte a ++ 0x22 ∷ x ≡ flat_map shown_byte b ++ 0x22 ∷ y → (a ≡ b) × (x ≡ y)
quoted_ends [] [] x y f g e = (refl, cc)
quoted_ends [] (q ∷ b) x y f g e =
    absurd (no_end q (shown_byte q) (flat_map shown_byte b ++ 0x22 ∷ y) x (shows q) (sym (append_assoc (shown_byte q) (flat_map shown_byte b) (0x22 ∷ y)) ∙ sym e))
quoted_ends (p ∷ a) [] x y f g e =
    absurd (no_end p (shown_byte p) (flat_map shown_byte a ++ 0x22 ∷ x) y (shows p) (sym (append_assoc (shown_byte p) (flat_map shown_byte a) (0x22 ∷ x)) ∙ e))
quoted_ends (p ∷ a) (q ∷ b) x y f g e =
    let first = shown_same p q (shown_byte p) (shown_byte q) (flat_map shown_byte a ++ 0x22 ∷ x) (flat_map shown_byte b ++ 0x22 ∷ y) f.0 g.0 (shows p) (shows q)
    (sym (append_assoc (shown_byte p) (flat_map shown_byte a) (0x22 ∷ x)) ∙ (e ∙ append_assoc (shown_byte q) (flat_map shown_byte b) (0x22 ∷ y))) in
    let r = quoted_ends a b x y f.1 g.1 first.1 in
    let h : p ≡ q = first.0 in
    let r0 : a ≡ b = r.0 in (cc, r.1)

-- a bare word isn't one that begins with a quote
no_mixed : (a x y : List ℕ) → is_bare_word a ≡ true → a ++ x ≡ 0x22 ∷ y → ⊥
no_mixed [] x y p e = cc
no_mixed (c ∷ a) x y p e =
    let h : c ≡ 0x22 = cc in clash c 0x22 h (and_left (stands_bare c) (list_all stands_bare a) (and_right (not (length (c ∷ a) == 0)) (list_all stands_bare (c ∷ a)) p)) refl

word_ends_at : (a b x y : List ℕ) (v w : Bool) → is_bare_word a ≡ v → is_bare_word b ≡ w → AreBytes a → AreBytes b → Stops x → Stops y
    → log_word a ++ x ≡ log_word b ++ y → (a ≡ b) × (x ≡ y)
word_ends_at a b x y true true v w f g s t e =
    bare_ends a b x y (and_right (not (length a == 0)) (list_all stands_bare a) v) (and_right (not (length b == 0)) (list_all stands_bare b) w) s t (rw (v, w) at e)
word_ends_at a b x y true false v w f g s t e =
    absurd (no_mixed a x (flat_map shown_byte b ++ 0x22 ∷ y) v ((rw (v, w) at e) ∙ ap (λ (l : List ℕ). 0x22 ∷ l) (append_assoc (flat_map shown_byte b) (0x22 ∷ []) y)))
word_ends_at a b x y false true v w f g s t e =
    absurd (no_mixed b y (flat_map shown_byte a ++ 0x22 ∷ x) w (sym (rw (v, w) at e) ∙ ap (λ (l : List ℕ). 0x22 ∷ l) (append_assoc (flat_map shown_byte a) (0x22 ∷ []) x)))
word_ends_at a b x y false false v w f g s t e =
    let h : 0x22 ∷ (flat_map shown_byte a ++ 0x22 ∷ []) ++ x ≡ 0x22 ∷ (flat_map shown_byte b ++ 0x22 ∷ []) ++ y = rw (v, w) at e in
    let k : (flat_map shown_byte a ++ 0x22 ∷ []) ++ x ≡ (flat_map shown_byte b ++ 0x22 ∷ []) ++ y = cc in
    quoted_ends a b x y f g (sym (append_assoc (flat_map shown_byte a) (0x22 ∷ []) x) ∙ (k ∙ append_assoc (flat_map shown_byte b) (0x22 ∷ []) y))

word_ends : (a b x y : List ℕ) → AreBytes a → AreBytes b → Stops x → Stops y → log_word a ++ x ≡ log_word b ++ y → (a ≡ b) × (x ≡ y)
word_ends a b x y f g s t e = word_ends_at a b x y (is_bare_word a) (is_bare_word b) refl refl f g s t e

field_split : (k v rest : List ℕ) → log_field (k, v) ++ rest ≡ 0x20 ∷ (log_word k ++ (0x3D ∷ (log_word v ++ rest)))
field_split k v rest = ap (λ (l : List ℕ). 0x20 ∷ l) (append_assoc (log_word k) (0x3D ∷ log_word v) rest)

fields_stop : (fs : List Pair) → Stops (flat_map log_field fs ++ 0x0A ∷ [])
fields_stop [] = refl
fields_stop ((k, v) ∷ fs) = refl

abbrev AllBytes : List Pair → Type 0
AllBytes fs = AllByRecursion (λ (f : Pair). AreBytes f.0 × AreBytes f.1) fs

fields_end : (fs gs : List Pair) → AllBytes fs → AllBytes gs → flat_map log_field fs ++ 0x0A ∷ [] ≡ flat_map log_field gs ++ 0x0A ∷ [] → fs ≡ gs
fields_end [] [] p q e = refl
fields_end [] ((l, w) ∷ gs) p q e = let h : ◌≡◌ {A = ℕ} 0x0A 0x20 = cc in absurd (omega arith)
fields_end ((k, v) ∷ fs) [] p q e = let h : ◌≡◌ {A = ℕ} 0x20 0x0A = cc in absurd (omega arith)
fields_end ((k, v) ∷ fs) ((l, w) ∷ gs) p q e =
    let F = flat_map log_field fs ++ 0x0A ∷ [] in
    let G = flat_map log_field gs ++ 0x0A ∷ [] in
    let whole : 0x20 ∷ (log_word k ++ (0x3D ∷ (log_word v ++ F))) ≡ 0x20 ∷ (log_word l ++ (0x3D ∷ (log_word w ++ G))) =
    sym (field_split k v F) ∙ (sym (append_assoc (log_field (k, v)) (flat_map log_field fs) (0x0A ∷ [])) ∙ (e ∙ (append_assoc (log_field (l, w)) (flat_map log_field gs) (0x0A ∷ []) ∙ field_split l w G))) in
    let first : log_word k ++ (0x3D ∷ (log_word v ++ F)) ≡ log_word l ++ (0x3D ∷ (log_word w ++ G)) = cc in
    let key = word_ends k l (0x3D ∷ (log_word v ++ F)) (0x3D ∷ (log_word w ++ G)) p.0.0 q.0.0 refl refl first in
    let key_is : k ≡ l = key.0 in
    let trailing : 0x3D ∷ (log_word v ++ F) ≡ 0x3D ∷ (log_word w ++ G) = key.1 in
    let second : log_word v ++ F ≡ log_word w ++ G = cc in
    let value = word_ends v w F G p.0.1 q.0.1 (fields_stop fs) (fields_stop gs) second in
    let value_is : v ≡ w = value.0 in
    let rest : fs ≡ gs = fields_end fs gs p.1 q.1 value.1 in
    cc

line_split : (t level event rest : List ℕ) → log_head t level event ++ rest ≡ log_word t ++ (0x20 ∷ (log_word level ++ (0x20 ∷ (log_word event ++ rest))))
line_split t level event rest =
    append_assoc (log_word t ++ 0x20 ∷ log_word level) (0x20 ∷ log_word event) rest ∙ append_assoc (log_word t) (0x20 ∷ log_word level) (0x20 ∷ (log_word event ++ rest))

all_bytes : (bs : List ℕ) → list_all (λ b. nat_lt b 256) bs ≡ true → AreBytes bs
all_bytes [] e = tt
all_bytes (b ∷ bs) e =
    (ltb-true b 256 (and_left (nat_lt b 256) (list_all (λ c. nat_lt c 256) bs) e), all_bytes bs (and_right (nat_lt b 256) (list_all (λ c. nat_lt c 256) bs) e))

level_bytes : (l : Level) → AreBytes (level_text l)
level_bytes Error = all_bytes (level_text Error) refl
level_bytes Warn = all_bytes (level_text Warn) refl
level_bytes Info = all_bytes (level_text Info) refl
level_bytes Debug = all_bytes (level_text Debug) refl
level_bytes Trace = all_bytes (level_text Trace) refl

-- which level a word begins: the first byte tells
abbrev level_of_byte : List ℕ → Level
level_of_byte [] = Error
level_of_byte (b ∷ bs) = if b == 0x65 then Error else (if b == 0x77 then Warn else (if b == 0x69 then Info else (if b == 0x64 then Debug else Trace)))

level_back : (l : Level) → level_of_byte (level_text l) ≡ l
level_back Error = refl
level_back Warn = refl
level_back Info = refl
level_back Debug = refl
level_back Trace = refl

same_entry : (e f : LogEntry) → e.level ≡ f.level → e.event ≡ f.event → e.fields ≡ f.fields → e ≡ f
same_entry e f l v p =
    ap (λ (x : Level). record { level = x; event = e.event; fields = e.fields }) l
    ∙ (ap (λ (x : List ℕ). record { level = f.level; event = x; fields = e.fields }) v
    ∙ ap (λ (x : List Pair). record { level = f.level; event = f.event; fields = x }) p)

pub told_once : (t u : List ℕ) (e f : LogEntry) → AreBytes t → AreBytes u → HasBytes e → HasBytes f → log_line t e ≡ log_line u f → (t ≡ u) × (e ≡ f)
told_once t u e f tb ub eb fb same =
    let F = flat_map log_field e.fields ++ 0x0A ∷ [] in
    let G = flat_map log_field f.fields ++ 0x0A ∷ [] in
    let whole : log_word t ++ (0x20 ∷ (log_word (level_text e.level) ++ (0x20 ∷ (log_word e.event ++ F)))) ≡ log_word u ++ (0x20 ∷ (log_word (level_text f.level) ++ (0x20 ∷ (log_word f.event ++ G)))) =
    sym (line_split t (level_text e.level) e.event F)
    ∙ (sym (append_assoc (log_head t (level_text e.level) e.event) (flat_map log_field e.fields) (0x0A ∷ []))
    ∙ (same ∙ (append_assoc (log_head u (level_text f.level) f.event) (flat_map log_field f.fields) (0x0A ∷ []) ∙ line_split u (level_text f.level) f.event G))) in
    let first = word_ends t u (0x20 ∷ (log_word (level_text e.level) ++ (0x20 ∷ (log_word e.event ++ F)))) (0x20 ∷ (log_word (level_text f.level) ++ (0x20 ∷ (log_word f.event ++ G)))) tb ub refl refl whole in
    let trailing : 0x20 ∷ (log_word (level_text e.level) ++ (0x20 ∷ (log_word e.event ++ F))) ≡ 0x20 ∷ (log_word (level_text f.level) ++ (0x20 ∷ (log_word f.event ++ G))) = first.1 in
    let next : log_word (level_text e.level) ++ (0x20 ∷ (log_word e.event ++ F)) ≡ log_word (level_text f.level) ++ (0x20 ∷ (log_word f.event ++ G)) = cc in
    let level = word_ends (level_text e.level) (level_text f.level) (0x20 ∷ (log_word e.event ++ F)) (0x20 ∷ (log_word f.event ++ G)) (level_bytes e.level) (level_bytes f.level) refl refl next in
    let level_is : e.level ≡ f.level = sym (level_back e.level) ∙ (ap level_of_byte level.0 ∙ level_back f.level) in
    let after : 0x20 ∷ (log_word e.event ++ F) ≡ 0x20 ∷ (log_word f.event ++ G) = level.1 in
    let last : log_word e.event ++ F ≡ log_word f.event ++ G = cc in
    let event = word_ends e.event f.event F G eb.0 fb.0 (fields_stop e.fields) (fields_stop f.fields) last in
    (first.0, same_entry e f level_is event.0 (fields_end e.fields f.fields eb.1 fb.1 event.1))
