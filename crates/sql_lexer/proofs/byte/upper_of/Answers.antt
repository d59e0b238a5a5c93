-- The table is held against the definition at each of the 256 bytes, by computing.
use Rattle.std.proofs.Common.{◌≡◌, ◌≢◌, ◌∙◌, ℕ, ◌<◌, Bool, true, false, cond, eqb, get_or, List, Option, Some, None, refl, sym, arith}
use Rattle.std.proofs.lemmas.Bool.{eqb-true}
use Rattle.sql_lexer.specs.declared.byte.TheConstants.{UPPER}
use Rattle.sql_lexer.specs.Lexemes.{is_word_byte, upper_case}
use Rattle.sql_lexer.specs.inner.Scanning.{upper_at}
use Rattle.sql_lexer.proofs.Below.{passes_below, passes_at}
use Rattle.sql_lexer.proofs.Codes.{upper_bounds}
use Rattle.sql_lexer.proofs.byte.upper_of.Goals as goal

entry : ℕ → ℕ
entry b = cond (is_word_byte b) (upper_case b) 44

in_table : (table : List ℕ) (b : ℕ) → b < 256 → passes_below (λ k. eqb (get_or table k 0) (entry k)) 256 ≡ true → get_or table b 0 ≡ entry b
in_table table b lt h = eqb-true _ _ (passes_at _ 256 h b lt)

none_at : (b : ℕ) → entry b ≡ 44 → ◌≡◌ {A = Option ℕ} None (upper_at b)
unfolding entry
none_at b e = go (is_word_byte b) refl e
  where
    go : (t : Bool) → is_word_byte b ≡ t → cond t (upper_case b) 44 ≡ 44 → ◌≡◌ {A = Option ℕ} None (cond t (Some (upper_case b)) None)
    go true is e = let low = (upper_bounds b is).0 in absurd (omega arith)
    go false is e = refl

some_at : (b : ℕ) → entry b ≢ 44 → ◌≡◌ {A = Option ℕ} (Some (entry b)) (upper_at b)
unfolding entry
some_at b n = go (is_word_byte b) n
  where
    go : (t : Bool) → cond t (upper_case b) 44 ≢ 44 → ◌≡◌ {A = Option ℕ} (Some (cond t (upper_case b) 44)) (cond t (Some (upper_case b)) None)
    go true n = refl
    go false n = absurd (n refl)

pub returns-then-upper-eq44 : goal.returns-then-upper-eq44
unfolding entry passes_below
returns-then-upper-eq44 c = none_at c.args.byte (sym (in_table UPPER c.args.byte (omega arith) refl) ∙ c.if-upper-eq44.true)

pub returns-else-upper-eq44 : goal.returns-else-upper-eq44
unfolding entry passes_below
returns-else-upper-eq44 c =
    let is = in_table UPPER c.args.byte (omega arith) refl in
    rw is (some_at c.args.byte (λ e. c.if-upper-eq44.false (is ∙ e)))
