-- Where a reply lies, and what it tells.
use Rattle.std.specs.Prelude.{◌≡◌, ◌⊎◌, ℕ, List, ◌++◌, Option, Some, None}
use Rattle.std.specs.List.{concat}
use Rattle.vt_value.specs.declared.refusal.Refusal.TheVariants.{OutOfMemory}
use Rattle.resultset.specs.declared.Outcome.{Outcome}
use Rattle.resultset.specs.declared.Outcome.TheVariants.{Refused}
use Rattle.resultset.specs.declared.SetEnd.{SetEnd}
use Rattle.resultset.specs.Encoding.{encoded}
use Rattle.resultset.specs.BinaryRows.{binary_encoded}
use Rattle.session.specs.declared.conversation.reply.RowForm.{RowForm}
use Rattle.session.specs.declared.conversation.reply.RowForm.TheVariants.{Text, Binary}
use Rattle.session.specs.conversation.inner.Means.{IsRows}

-- what lies in the session's buffer, after the full chunks of rows
abbrev pub reply_bytes : Option (List (List ℕ)) → List ℕ → List ℕ
reply_bytes None buffer = buffer
reply_bytes (Some chunks) buffer = concat chunks ++ buffer

-- an outcome whose rows have this form
abbrev pub encoded_in : RowForm → SetEnd → Outcome → ℕ → ℕ → List ℕ
encoded_in Text end outcome number status = encoded end outcome number status
encoded_in Binary end outcome number status = binary_encoded end outcome number status

-- bytes that tell an outcome, or, of one with rows, that there was no memory for these
abbrev pub TellsOutcome : RowForm → SetEnd → Outcome → ℕ → ℕ → List ℕ → Type 0
TellsOutcome form end outcome number status bytes =
    (bytes ≡ encoded_in form end outcome number status) ⊎ (IsRows outcome × (bytes ≡ encoded_in form end (Refused OutOfMemory) number status))
