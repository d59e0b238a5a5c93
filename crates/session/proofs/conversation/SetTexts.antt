-- Texts whose first token is SET.
use Rattle.std.proofs.Common.{◌≡◌, ℕ, List, [], ◌∷◌, Option, Some, true, false, refl, sym, ap, subst, ◌∙◌}
use Rattle.client_statements.specs.declared.tokens.token.Keyword.TheVariants as k
use Rattle.client_statements.specs.declared.tokens.token.Token.{Token}
use Rattle.client_statements.specs.declared.tokens.token.TokenKind.{TokenKind}
use Rattle.client_statements.specs.declared.tokens.token.TokenKind.TheVariants.{Word}
use Rattle.client_statements.specs.tokens.Tokens.{HasTokens}
use Rattle.client_statements.specs.Asks.{IsSet}
use Rattle.client_statements.specs.Asks as a
use Rattle.session.specs.conversation.inner.Tellings.{is_set_kind, leads_set}

set_kind : (kind : TokenKind) → is_set_kind kind ≡ true → kind ≡ Word (Some k.Set)
set_kind (Word (Some k.Set)) is = refl
set_kind _ is = absurd (cc)

pub is_set : (text : List ℕ) (ts : List Token) → HasTokens text ts → leads_set ts ≡ true → IsSet text
is_set text [] has is = absurd (cc)
is_set text (t ∷ ts) has is = a.set has (set_kind t.kind is)

same_list : (ts us : List Token) → ◌≡◌ {A = Option (List Token)} (Some ts) (Some us) → ts ≡ us
same_list ts us e = cc

-- its tokens say so
pub set_leads : (text : List ℕ) (ts : List Token) → ((us : List Token) → HasTokens text us → ◌≡◌ {A = Option (List Token)} (Some ts) (Some us)) → leads_set ts ≡ false
    → IsSet text → ⊥
set_leads text ts only not (a.set {tokens = us} {first = t} has kind) =
    let same : ts ≡ t ∷ us = same_list ts (t ∷ us) (only (t ∷ us) has) in
    let is : leads_set ts ≡ true = ap leads_set same ∙ ap is_set_kind kind in
    cc

-- a text without tokens isn't one
pub no_set : (text : List ℕ) → ((us : List Token) → HasTokens text us → ⊥) → IsSet text → ⊥
no_set text none (a.set has kind) = none _ has
