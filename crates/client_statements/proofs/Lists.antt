-- The loops over settings and over items, a step at a time.
use Rattle.std.proofs.Common.{◌≡◌, ℕ, zero, suc, ◌<◌, Bool, true, false, List, [], ◌∷◌, ◌++◌, length, drop, Option, Some, None, refl, ap, ◌∙◌, arith}
use Rattle.vt_value.specs.declared.refusal.Refusal.{Refusal}
use Rattle.vt_value.specs.declared.refusal.Refusal.TheVariants as R
use Rattle.sql_lexer.specs.inner.Results.{Fails}
use Rattle.client_statements.specs.declared.tokens.token.Token.{Token}
use Rattle.client_statements.specs.tokens.Pieces.{Lexeme, lexemes_of}
use Rattle.client_statements.specs.declared.statement.SelectItem.{SelectItem}
use Rattle.client_statements.specs.Grammar.{Lexemes, comma_at, setting_at, settings_at, later, item_at, ends_select, begins_with_comma, items_at}

module _ (whole : List ℕ) (front : List SelectItem) (tokens : List Token) where
  pub no_item : (n : ℕ) → item_at whole tokens ≡ None → items_at n whole front tokens ≡ None
  unfolding items_at
  no_item zero none = refl
  no_item (suc n) none = rw (none, items_at) refl

  pub item_fails : (n : ℕ) (e : Refusal) → Fails e (item_at whole tokens) → Fails e (items_at n whole front tokens)
  item_fails n R.OutOfMemory h = tt
  item_fails n R.SyntaxError h = no_item n h
  item_fails n _ h = absurd h

  module _ (x : SelectItem) (rest : List Token) (read : item_at whole tokens ≡ Some (x, rest)) where
    pub last_item : (n : ℕ) → 0 < n → ends_select (lexemes_of whole rest) ≡ true → items_at n whole front tokens ≡ Some (front ++ x ∷ [])
    unfolding items_at
    last_item zero some ends = absurd (omega arith)
    last_item (suc n) some ends = rw (read, ends, items_at) refl

    pub wrong_after_item : (n : ℕ) → ends_select (lexemes_of whole rest) ≡ false → begins_with_comma (lexemes_of whole rest) ≡ false
        → items_at n whole front tokens ≡ None
    unfolding items_at
    wrong_after_item zero ends comma = refl
    wrong_after_item (suc n) ends comma = rw (read, ends, comma, items_at) refl

    one_more_item : (m : ℕ) → ends_select (lexemes_of whole rest) ≡ false → begins_with_comma (lexemes_of whole rest) ≡ true
        → items_at (suc m) whole front tokens ≡ items_at m whole (front ++ x ∷ []) (drop 1 rest)
    unfolding items_at
    one_more_item m ends comma = rw (read, ends, comma, items_at) refl

    pub more_items : (n m : ℕ) → n ≡ suc m → ends_select (lexemes_of whole rest) ≡ false → begins_with_comma (lexemes_of whole rest) ≡ true
        → items_at n whole front tokens ≡ items_at m whole (front ++ x ∷ []) (drop 1 rest)
    more_items n m e ends comma = ap (λ (k : ℕ). items_at k whole front tokens) e ∙ one_more_item m ends comma

pub no_items : (whole : List ℕ) (front : List SelectItem) (tokens : List Token) → items_at 0 whole front tokens ≡ None
unfolding items_at
no_items whole front tokens = refl

module _ (before : Option Bool) (ts : Lexemes) where
  pub no_setting : (n : ℕ) → setting_at ts ≡ None → settings_at n before ts ≡ None
  unfolding settings_at
  no_setting zero none = refl
  no_setting (suc n) none = rw (none, settings_at) refl

  pub setting_fails : (n : ℕ) (e : Refusal) → Fails e (setting_at ts) → Fails e (settings_at n before ts)
  setting_fails n R.OutOfMemory h = tt
  setting_fails n R.SyntaxError h = no_setting n h
  setting_fails n _ h = absurd h

  last_one : (m : ℕ) (x : Option Bool) → setting_at ts ≡ Some (x, []) → settings_at (suc m) before ts ≡ Some (later before x)
  unfolding settings_at
  last_one m x read = rw (read, settings_at) refl

  pub last_setting : (n m : ℕ) (x : Option Bool) (us : Lexemes) → n ≡ suc m → setting_at ts ≡ Some (x, us) → length us ≡ 0
      → settings_at n before ts ≡ Some (later before x)
  last_setting n m x [] e read none = ap (λ (k : ℕ). settings_at k before ts) e ∙ last_one m x read
  last_setting n m x (t ∷ us) e read none = absurd (omega arith)

  module _ (x : Option Bool) where
    no_comma_after : (n : ℕ) (t : Lexeme) (us : Lexemes) → setting_at ts ≡ Some (x, t ∷ us) → comma_at (t ∷ us) ≡ None → settings_at n before ts ≡ None
    unfolding settings_at
    no_comma_after zero t us read comma = refl
    no_comma_after (suc n) t us read comma = rw (read, comma, settings_at) refl

    wrong_after_setting : (n : ℕ) (us : Lexemes) → setting_at ts ≡ Some (x, us) → 0 < length us → comma_at us ≡ None → settings_at n before ts ≡ None
    wrong_after_setting n [] read some comma = absurd (omega arith)
    wrong_after_setting n (t ∷ us) read some comma = no_comma_after n t us read comma

    pub comma_fails : (n : ℕ) (us : Lexemes) (e : Refusal) → setting_at ts ≡ Some (x, us) → 0 < length us → Fails e (comma_at us)
        → Fails e (settings_at n before ts)
    comma_fails n us R.OutOfMemory read some h = tt
    comma_fails n us R.SyntaxError read some h = wrong_after_setting n us read some h
    comma_fails n us _ read some h = absurd h

    one_more_setting : (m : ℕ) (t : Lexeme) (us rest : Lexemes) → setting_at ts ≡ Some (x, t ∷ us) → comma_at (t ∷ us) ≡ Some rest
        → settings_at (suc m) before ts ≡ settings_at m (later before x) rest
    unfolding settings_at
    one_more_setting m t us rest read comma = rw (read, comma, settings_at) refl

    pub more_settings : (n m : ℕ) (us rest : Lexemes) → n ≡ suc m → setting_at ts ≡ Some (x, us) → 0 < length us → comma_at us ≡ Some rest
        → settings_at n before ts ≡ settings_at m (later before x) rest
    more_settings n m [] rest e read some comma = absurd (omega arith)
    more_settings n m (t ∷ us) rest e read some comma = ap (λ (k : ℕ). settings_at k before ts) e ∙ one_more_setting m t us rest read comma

pub no_settings : (before : Option Bool) (ts : Lexemes) → settings_at 0 before ts ≡ None
unfolding settings_at
no_settings before ts = refl
