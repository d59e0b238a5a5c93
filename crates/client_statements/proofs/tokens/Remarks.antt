-- Comments end at the first `*/`.
use Rattle.std.proofs.Common.{◌≡◌, ℕ, suc, ◌+◌, Bool, true, false, cond, eqb, ◌&&◌, List, [], ◌∷◌, ◌++◌, length, Option, Some, None, refl, sym, ap, ◌∙◌, arith}
use Rattle.std.specs.Prelude.{option_map}
use Rattle.std.proofs.lemmas.Bool.{eqb-true, and_parts, or_parts}
use Rattle.sql_lexer.specs.inner.Scanning.{first_passes}
use Rattle.sql_lexer.proofs.Options.{some_is}
use Rattle.client_statements.specs.tokens.Pieces.{has_close}
use Rattle.client_statements.specs.tokens.inner.Scanning.{remark_len}

abbrev is_slash : ℕ → Bool
is_slash c = eqb c 0x2F

-- what is first does not depend on what follows it
same_first : (p : ℕ → Bool) (xs : List ℕ) (c : ℕ) (r s : List ℕ) → first_passes p (xs ++ c ∷ r) ≡ first_passes p (xs ++ c ∷ s)
same_first p [] c r s = refl
same_first p (x ∷ xs) c r s = refl

pub first_is : (p : ℕ → Bool) (bs : List ℕ) → first_passes p bs ≡ true → (c : ℕ) × (rest : List ℕ) × (bs ≡ c ∷ rest) × (p c ≡ true)
first_is p [] h = absurd cc
first_is p (b ∷ bs) h = (b, bs, refl, h)

-- a comment whose inside begins these bytes, and its length
pub record Remark (bs : List ℕ) (n : ℕ) : Type 0 where
  pub inside : List ℕ
  pub rest : List ℕ
  pub parts : bs ≡ inside ++ 0x2A ∷ 0x2F ∷ rest
  pub size : n ≡ length inside + 2
  pub unclosed : has_close (inside ++ 0x2A ∷ []) ≡ false

suc_some : (o : Option ℕ) (n : ℕ) → option_map suc o ≡ Some n → (m : ℕ) × (o ≡ Some m) × (n ≡ suc m)
suc_some None n e = absurd cc
suc_some (Some m) n e = (m, refl, sym (some_is (suc m) n e))

pub remark_sound : (bs : List ℕ) (n : ℕ) → remark_len bs ≡ Some n → Remark bs n
unfolding remark_len
remark_sound [] n e = absurd cc
remark_sound (b ∷ bs) n e = go (eqb b 0x2A && first_passes is_slash bs) refl e (remark_sound bs)
  where
    go : (t : Bool) → (eqb b 0x2A && first_passes is_slash bs) ≡ t → cond t (Some 2) (option_map suc (remark_len bs)) ≡ Some n
        → ((m : ℕ) → remark_len bs ≡ Some m → Remark bs m) → Remark (b ∷ bs) n
    go true is e rec =
        let p = and_parts (eqb b 0x2A) (first_passes is_slash bs) is in
        let f = first_is is_slash bs p.1 in
        let slash : f.0 ≡ 0x2F = eqb-true f.0 0x2F f.3 in
        let trailing : bs ≡ 0x2F ∷ f.1 = f.2 ∙ ap (λ (c : ℕ). c ∷ f.1) slash in
        record {
          inside = [];
          rest = f.1;
          parts = ap (λ (c : ℕ). c ∷ bs) (eqb-true b 0x2A p.0) ∙ ap (λ (cs : List ℕ). 0x2A ∷ cs) trailing;
          size = sym (some_is 2 n e);
          unclosed = refl;
        }
    go false is e rec =
        let s = suc_some (remark_len bs) n e in
        let r = rec s.0 s.1 in
        let first : first_passes is_slash (r.inside ++ 0x2A ∷ []) ≡ first_passes is_slash bs =
        same_first is_slash r.inside 0x2A [] (0x2F ∷ r.rest) ∙ ap (first_passes is_slash) (sym r.parts) in
        record {
          inside = b ∷ r.inside;
          rest = r.rest;
          parts = ap (λ (cs : List ℕ). b ∷ cs) r.parts;
          size = omega (arith, s.2, r.size);
          unclosed = rw (first, is, r.unclosed) refl;
        }

pub remark_again : (inside rest : List ℕ) → has_close (inside ++ 0x2A ∷ []) ≡ false → remark_len (inside ++ 0x2A ∷ 0x2F ∷ rest) ≡ Some (length inside + 2)
unfolding remark_len
remark_again [] rest h = refl
remark_again (b ∷ inside) rest h =
    let p = or_parts (eqb b 0x2A && first_passes is_slash (inside ++ 0x2A ∷ [])) (has_close (inside ++ 0x2A ∷ [])) h in
    let first : first_passes is_slash (inside ++ 0x2A ∷ 0x2F ∷ rest) ≡ first_passes is_slash (inside ++ 0x2A ∷ []) =
    same_first is_slash inside 0x2A (0x2F ∷ rest) [] in
    rw (first, p.0, remark_again inside rest p.1) (ap (λ (n : ℕ). Some n) (omega arith))

-- ---- the loop

pub at_close : (n b : ℕ) (bs : List ℕ) → (eqb b 0x2A && first_passes is_slash bs) ≡ true → option_map (λ m. n + m) (remark_len (b ∷ bs)) ≡ Some (n + 2)
unfolding remark_len
at_close n b bs is = rw is refl

pub past : (n b : ℕ) (bs : List ℕ) → (eqb b 0x2A && first_passes is_slash bs) ≡ false
    → option_map (λ m. n + m) (remark_len (b ∷ bs)) ≡ option_map (λ m. n + 1 + m) (remark_len bs)
unfolding remark_len
past n b bs is = rw is (go (remark_len bs))
  where
    go : (o : Option ℕ) → option_map (λ m. n + m) (option_map suc o) ≡ option_map (λ m. n + 1 + m) o
    go None = refl
    go (Some m) = ap (λ (k : ℕ). Some k) (omega arith)
