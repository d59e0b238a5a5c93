-- Holes that are tried one after another.
use Rattle.std.proofs.Common.{◌≡◌, ℕ, pos, Bool, true, false, List, [], ◌∷◌, ◌++◌, refl, ap, sym, subst, ◌∙◌, append_assoc, append-nil}
use Rattle.std.specs.Prelude.{if◌then◌else◌}
use Rattle.sql_lexer.specs.Value.{Value}
use Rattle.sql_lexer.specs.Value.TheVariants.{Int}
use Rattle.sql_lexer.specs.declared.token.Token.{Token}
use Rattle.sql_lexer.specs.Tokens.{Lexes}
use Rattle.sql_tree.specs.declared.Statement.{Statement}
use Rattle.prepared_statements.specs.Texts.{pieces_of, counts_after, TriesHole, Tries, ReadsTried}
use Rattle.prepared_statements.specs.Texts as t

-- Values tried so far: with those of the other pieces they are all, and all begin with them.
pub record TriedSoFar (literal : Value) (pieces : List (List ℕ)) (tried : List Value) (left : List (List ℕ)) : Type 0 where
  pub found : (values : List Value) → Tries literal left values → Tries literal pieces (tried ++ values)
  pub only : (all : List Value) → Tries literal pieces all → (values : List Value) × Tries literal left values × (all ≡ tried ++ values)

pub tried_none : (literal : Value) (pieces : List (List ℕ)) (tried : List Value) → tried ≡ [] → TriedSoFar literal pieces tried pieces
tried_none literal pieces tried is =
    subst (λ (w : List Value). TriedSoFar literal pieces w pieces) (sym is) (record { found = λ values h. h; only = λ all h. (all, h, refl) })

-- what a piece that isn't the last has
first_try : (literal : Value) (piece next : List ℕ) (more : List (List ℕ)) (all : List Value) → Tries literal (piece ∷ next ∷ more) all
    → (v : Value) × (values : List Value) × TriesHole literal piece v × Tries literal (next ∷ more) values × (all ≡ v ∷ values)
first_try literal piece next more _ (t.next {v = v} {values = values} hole others) = (v, values, hole, others, refl)

pub tried_next : (literal : Value) (pieces left more : List (List ℕ)) (tried pushed : List Value) (piece next : List ℕ) (others : List (List ℕ)) (v : Value)
    → TriedSoFar literal pieces tried left → left ≡ piece ∷ more → more ≡ next ∷ others → TriesHole literal piece v
    → ((w : Value) → TriesHole literal piece w → v ≡ w) → pushed ≡ tried ++ v ∷ [] → TriedSoFar literal pieces pushed more
tried_next literal pieces left more tried pushed piece next others v so_far is is_more hole one p =
    let here : TriedSoFar literal pieces tried (piece ∷ more) = subst (λ (l : List (List ℕ)). TriedSoFar literal pieces tried l) is so_far in
    let there : TriedSoFar literal pieces (tried ++ v ∷ []) more = record {
      found = λ values h. subst (λ (w : List Value). Tries literal pieces w) (sym (append_assoc tried (v ∷ []) values)) (here.found (v ∷ values) (t.next hole h));
      only = λ all h.
          let r = here.only all h in
          let f = first_try literal piece next others r.0 (subst (λ (l : List (List ℕ)). Tries literal (piece ∷ l) r.0) is_more r.1) in (
            f.1,
            subst (λ (l : List (List ℕ)). Tries literal l f.1) (sym is_more) f.3,
            r.2 ∙ ap (λ (w : List Value). tried ++ w) (f.4 ∙ ap (λ (w : Value). w ∷ f.1) (sym (one f.0 f.2))) ∙ sym (append_assoc tried (v ∷ []) f.1),
          );
    } in
    subst (λ (w : List Value). TriedSoFar literal pieces w more) (sym p) there

pub tried_last : (literal : Value) (pieces left more : List (List ℕ)) (tried : List Value) (piece : List ℕ) (tokens : List Token) → TriedSoFar literal pieces tried left
    → left ≡ piece ∷ more → more ≡ [] → Lexes piece tokens → Tries literal pieces tried
tried_last literal pieces left more tried piece tokens so_far is none lexes =
    let here : TriedSoFar literal pieces tried (piece ∷ []) =
    subst (λ (l : List (List ℕ)). TriedSoFar literal pieces tried (piece ∷ l)) none (subst (λ (l : List (List ℕ)). TriedSoFar literal pieces tried l) is so_far) in
    subst (λ (w : List Value). Tries literal pieces w) (append-nil tried) (here.found [] (t.last lexes))

pub tried_last_is : (literal : Value) (pieces left more : List (List ℕ)) (tried all : List Value) (piece : List ℕ) (tokens : List Token) → TriedSoFar literal pieces tried left
    → left ≡ piece ∷ more → more ≡ [] → Lexes piece tokens → all ≡ tried → Tries literal pieces all
tried_last_is literal pieces left more tried all piece tokens so_far is none lexes same =
    subst (λ (w : List Value). Tries literal pieces w) (sym same) (tried_last literal pieces left more tried piece tokens so_far is none lexes)

-- ---- one hole

pub tried_count : (literal : Value) (piece : List ℕ) (tokens : List Token) → Lexes piece tokens → counts_after tokens ≡ true → TriesHole literal piece (Int (pos 0))
tried_count literal piece tokens lexes is = subst (λ (b : Bool). TriesHole literal piece (if b then Int (pos 0) else literal)) is (t.tries lexes)

pub tried_literal : (literal : Value) (piece : List ℕ) (tokens : List Token) (v : Value) → Lexes piece tokens → counts_after tokens ≡ false → v ≡ literal
    → TriesHole literal piece v
tried_literal literal piece tokens v lexes is same =
    subst (λ (w : Value). TriesHole literal piece w) (sym same) (subst (λ (b : Bool). TriesHole literal piece (if b then Int (pos 0) else literal)) is (t.tries lexes))

-- ---- the last piece

pub some_piece : (pieces : List (List ℕ)) → (pieces ≡ [] → ⊥) → (first : List ℕ) × (more : List (List ℕ)) × (pieces ≡ first ∷ more)
some_piece [] none = absurd (none refl)
some_piece (p ∷ pieces) none = (p, pieces, refl)

no_pieces : (literal : Value) (values : List Value) → Tries literal [] values → ⊥
no_pieces literal values h = elim h [ ]

-- the last piece is whole tokens, and no hole comes after it
last_only : (literal : Value) (piece : List ℕ) (values : List Value) → Tries literal (piece ∷ []) values → (tokens : List Token) × Lexes piece tokens × (values ≡ [])
last_only literal piece _ (t.last {tokens = tokens} lexes) = (tokens, lexes, refl)
last_only literal piece _ (t.next {values = values} hole others) = absurd (no_pieces literal values others)

pub all_tried : (literal : Value) (pieces left more : List (List ℕ)) (tried all : List Value) (piece : List ℕ) → TriedSoFar literal pieces tried left → left ≡ piece ∷ more
    → more ≡ [] → Tries literal pieces all → (tokens : List Token) × Lexes piece tokens × (tried ≡ all)
all_tried literal pieces left more tried all piece so_far is none h =
    let here : TriedSoFar literal pieces tried (piece ∷ []) =
    subst (λ (l : List (List ℕ)). TriedSoFar literal pieces tried (piece ∷ l)) none (subst (λ (l : List (List ℕ)). TriedSoFar literal pieces tried l) is so_far) in
    let r = here.only all h in
    let o = last_only literal piece r.0 r.1 in
    (o.0, o.1, sym (r.2 ∙ ap (λ (w : List Value). tried ++ w) o.2 ∙ append-nil tried))

-- the pieces that were cut are those that are asked for
pub at_pieces : (literal : Value) (pieces cut lent : List (List ℕ)) (text : List ℕ) (statement : Statement) → pieces ≡ pieces_of text → cut ≡ pieces_of text → lent ≡ cut
    → ReadsTried literal pieces statement → ReadsTried literal lent statement
at_pieces literal pieces cut lent text statement is is_cut is_lent r = subst (λ (ps : List (List ℕ)). ReadsTried literal ps statement) (is ∙ sym is_cut ∙ sym is_lent) r
