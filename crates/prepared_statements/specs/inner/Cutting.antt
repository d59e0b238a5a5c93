-- A text that is cut from its front, after these pieces and the first bytes of the next.
use Rattle.std.specs.Prelude.{ℕ, negsuc, List, [], ◌∷◌, ◌++◌, if◌then◌else◌}
use Rattle.prepared_statements.specs.declared.cutting.Place.{Place}
use Rattle.prepared_statements.specs.declared.cutting.Place.TheVariants.{Outside}
use Rattle.sql_lexer.specs.Value.{Value}
use Rattle.sql_lexer.specs.Value.TheVariants as n
use Rattle.sql_lexer.specs.Value.TheVariants.{Int}
use Rattle.prepared_statements.specs.declared.trying.Tried.{Tried}
use Rattle.prepared_statements.specs.declared.trying.Tried.TheVariants.{MinusOne, Null}
use Rattle.statement_values.specs.declared.unread.Unread.{Unread}
use Rattle.statement_values.specs.declared.unread.Unread.TheVariants as u
use Rattle.prepared_statements.specs.declared.held.NotExecuted.{NotExecuted}
use Rattle.prepared_statements.specs.declared.held.NotExecuted.TheVariants as x
use Rattle.prepared_statements.specs.Texts.{is_hole, place_after}

abbrev pub cut_onto : List (List ℕ) → List ℕ → Place → List ℕ → List (List ℕ)
cut_onto done piece place [] = done ++ piece ∷ []
cut_onto done piece place (b ∷ bytes) =
    if is_hole place b then cut_onto (done ++ piece ∷ []) [] Outside bytes else cut_onto done (piece ++ b ∷ []) (place_after place b) bytes

-- a piece after others, whose first bytes come before it
abbrev pub put_before : List (List ℕ) → List ℕ → List (List ℕ) → List (List ℕ)
put_before done front [] = done ++ front ∷ []
put_before done front (p ∷ ps) = done ++ (front ++ p) ∷ ps

abbrev pub literal_of : Tried → Value
literal_of MinusOne = Int (negsuc 0)
literal_of Null = n.Null

abbrev pub not_read : Unread → NotExecuted
not_read u.OutOfMemory = x.OutOfMemory
not_read u.NotSupported = x.NotSupported
not_read u.Wrong = x.Wrong
