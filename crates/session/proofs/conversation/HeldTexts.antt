-- Texts that say in other words what may be prepared.
use Rattle.std.proofs.Common.{◌≡◌, ◌⊎◌, inl, inr, ℕ, ◌≤◌, ◌<◌, negsuc, List, [], length, Result, Ok, Err, Option, Some, IfErr, refl, ap, sym, subst, ◌∙◌, arith}
use Rattle.std.specs.Prelude.{MatchResult}
use Rattle.vt_value.specs.declared.refusal.Refusal.{Refusal}
use Rattle.vt_value.specs.declared.refusal.Refusal.TheVariants as r
use Rattle.sql_lexer.specs.Value.{Value}
use Rattle.sql_lexer.specs.Value.TheVariants.{Int, Null}
use Rattle.sql_tree.specs.declared.Statement.{Statement}
use Rattle.sql_parser.specs.Grammar.{Reads}
use Rattle.vschema.specs.declared.schema.VSchema.{VSchema}
use Rattle.prepared_statements.specs.Texts.{pieces_of, TriedText, MayBePrepared}
use Rattle.client_words.specs.declared.saying.Said.{Said}
use Rattle.client_words.specs.Aliases.{Names}
use Rattle.client_words.specs.Sayings.{IsSaidAs}
use Rattle.session.specs.conversation.Prepared.{SaysStatement, SaysTried, MayBeHeld}
use Rattle.session.specs.conversation.Prepared as a

-- why nothing is found: there is no memory, or it is a syntax error of what isn't so
abbrev pub NotFound : Type 0 → Refusal → Type 0
NotFound none e = (e ≡ r.OutOfMemory) ⊎ ((e ≡ r.SyntaxError) × none)

syntax_is : (e : Refusal) → e ≡ r.SyntaxError → e ≡ r.OutOfMemory → ⊥
syntax_is e s m = let differs : r.SyntaxError ≡ r.OutOfMemory = sym s ∙ m in cc

abbrev pub SaysNone : VSchema → List ℕ → Type 0
SaysNone schema text = (statement : Statement) (names : Names) → SaysStatement schema text statement names → ⊥

abbrev pub TriesNone : VSchema → Value → List (List ℕ) → Type 0
TriesNone schema literal pieces = (statement : Statement) (names : Names) → SaysTried schema literal pieces statement names → ⊥

abbrev pub HeldNone : VSchema → List ℕ → Type 0
HeldNone schema text = (pieces : List (List ℕ)) (statement : Statement) (names : Names) → MayBeHeld schema text pieces statement names → ⊥

pub says_found : (schema : VSchema) (text : List ℕ) (said : Said) (statement : Statement) (names : Names) → IsSaidAs schema text said.text said.names
    → Reads said.text statement → names ≡ said.names → SaysStatement schema text statement names
says_found schema text said statement names is reads same = record {
  whole = said.text;
  says = subst (λ (ns : Names). IsSaidAs schema text said.text ns) (sym same) is;
  reads = reads;
}

same_said : (said : Said) (whole : List ℕ) (names : Names) → ◌≡◌ {A = Option Said} (Some said) (Some (record { text = whole; names = names })) → said.text ≡ whole
same_said said whole names e = cc

-- what it says has no tree
pub says_none : {A : Type 0} (found : Result A Refusal) (schema : VSchema) (text : List ℕ) (said : Said)
    → IfErr found (λ e. (e ≡ r.OutOfMemory) ⊎ (e ≡ r.SyntaxError))
    → ((statement : Statement) → Reads said.text statement → IfErr found (λ e. e ≡ r.OutOfMemory))
    → ((whole : List ℕ) (names : Names) → IsSaidAs schema text whole names → ◌≡◌ {A = Option Said} (Some said) (Some (record { text = whole; names = names })))
    → IfErr found (NotFound (SaysNone schema text))
says_none (Ok x) schema text said err only one = tt
says_none (Err e) schema text said (inl memory) only one = inl memory
says_none (Err e) schema text said (inr syntax) only one = inr (
  syntax,
  λ statement names says.
      let same = same_said said says.whole names (one says.whole names says.says) in
      syntax_is e syntax (only statement (subst (λ (w : List ℕ). Reads w statement) (sym same) says.reads)),
)

-- the tried text says none
pub tries_none : {A : Type 0} (found : Result A Refusal) (schema : VSchema) (literal : Value) (pieces : List (List ℕ)) (text : List ℕ)
    → ((other : List ℕ) → TriedText literal pieces other → text ≡ other) → IfErr found (NotFound (SaysNone schema text)) → IfErr found (NotFound (TriesNone schema literal pieces))
tries_none (Ok x) schema literal pieces text one err = tt
tries_none (Err e) schema literal pieces text one (inl memory) = inl memory
tries_none (Err e) schema literal pieces text one (inr (syntax, none)) = inr (
  syntax,
  λ statement names tried.
      none statement names (subst (λ (t : List ℕ). SaysStatement schema t statement names) (sym (one tried.text tried.tried)) tried.says),
)

-- its pieces aren't whole tokens
pub not_tried : (schema : VSchema) (literal : Value) (pieces : List (List ℕ)) (why : Refusal) → (why ≡ r.OutOfMemory) ⊎ (why ≡ r.SyntaxError)
    → ((text : List ℕ) → TriedText literal pieces text → why ≡ r.OutOfMemory) → NotFound (TriesNone schema literal pieces) why
not_tried schema literal pieces why (inl memory) only = inl memory
not_tried schema literal pieces why (inr syntax) only = inr (syntax, λ statement names tried. syntax_is why syntax (only tried.text tried.tried))

-- a text that isn't one as it is says none with -1 in its holes
pub none_held : (schema : VSchema) (text : List ℕ) (pieces : List (List ℕ)) (why : Refusal)
    → ((plain : List (List ℕ)) (tree : Statement) → MayBePrepared text plain tree → ⊥) → pieces ≡ pieces_of text
    → NotFound (TriesNone schema (Int (negsuc 0)) pieces) why → NotFound (HeldNone schema text) why
none_held schema text pieces why other cut (inl memory) = inl memory
none_held schema text pieces why other cut (inr (syntax, none)) = inr (syntax, no)
  where
    no : HeldNone schema text
    no ps statement names (a.read may) = other ps statement may
    no ps statement names (a.said {literals = l} {others = o} plain is few number null) =
        none l o (subst (λ (qs : List (List ℕ)). SaysTried schema (Int (negsuc 0)) qs l o) (is ∙ sym cut) number)

-- or with NULL
pub none_blank : {A : Type 0} (found : Result A Refusal) (schema : VSchema) (text : List ℕ) (pieces : List (List ℕ))
    → ((plain : List (List ℕ)) (tree : Statement) → MayBePrepared text plain tree → ⊥) → pieces ≡ pieces_of text
    → IfErr found (NotFound (TriesNone schema Null pieces)) → IfErr found (NotFound (HeldNone schema text))
none_blank (Ok x) schema text pieces other cut err = tt
none_blank (Err e) schema text pieces other cut (inl memory) = inl memory
none_blank (Err e) schema text pieces other cut (inr (syntax, none)) = inr (syntax, no)
  where
    no : HeldNone schema text
    no ps statement names (a.read may) = other ps statement may
    no ps statement names (a.said plain is few number null) =
        none statement names (subst (λ (qs : List (List ℕ)). SaysTried schema Null qs statement names) (is ∙ sym cut) null)

-- it has too many holes
pub too_many_holes : (schema : VSchema) (text : List ℕ) (why : Refusal) → ((plain : List (List ℕ)) (tree : Statement) → MayBePrepared text plain tree → ⊥)
    → (why ≡ r.OutOfMemory) ⊎ ((why ≡ r.SyntaxError) × (4097 < length (pieces_of text))) → NotFound (HeldNone schema text) why
too_many_holes schema text why other (inl memory) = inl memory
too_many_holes schema text why other (inr (syntax, many)) = inr (syntax, no)
  where
    no : HeldNone schema text
    no ps statement names (a.read may) = other ps statement may
    no ps statement names (a.said plain is few number null) =
        let short : length (pieces_of text) ≤ 4097 = subst (λ (qs : List (List ℕ)). length qs ≤ 4097) is few in absurd (omega (arith, short, many))

-- a text that has a syntax error isn't one as it is
pub not_plain : (text : List ℕ) → ((pieces : List (List ℕ)) (statement : Statement) → MayBePrepared text pieces statement → r.SyntaxError ≡ r.OutOfMemory)
    → (pieces : List (List ℕ)) (statement : Statement) → MayBePrepared text pieces statement → ⊥
not_plain text only pieces statement may = let differs = only pieces statement may in cc
