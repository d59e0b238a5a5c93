-- A session that has taken a piece has greeted its client.
use Rattle.std.proofs.Common.{◌≡◌, List, ℕ, Some}
use Rattle.mysql_packet.specs.declared.framer.Fed.{Fed}
use Rattle.resultset.specs.declared.Outcome.{Outcome}
use Rattle.session.specs.declared.conversation.end.End.{End}
use Rattle.session.specs.declared.conversation.connection_state.ConnectionState.{ConnectionState}
use Rattle.session.specs.declared.conversation.connection_state.ConnectionState.TheVariants.{New, At, Ended}
use Rattle.session.specs.conversation.ConnectionStates.{end_of, HasGreeted}
use Rattle.session.specs.conversation.Talk.{SessionContext}
use Rattle.session.specs.conversation.Sessions.{AnswersFed}
use Rattle.session.specs.conversation.Sessions as s

pub fed_begun : {S : Type 0} (context : SessionContext S) (May : S → List ℕ → Outcome → S → Type 0) (begin : ConnectionState) (first now : S) (fed : Fed) (out : List ℕ) (b : ConnectionState)
    → AnswersFed context May begin first fed out b now → HasGreeted b
fed_begun context May begin first _ fed _ _ (s.ended r) = tt
fed_begun context May begin first _ fed _ _ (s.goes_on no_fault r) = tt
fed_begun context May begin first _ fed _ _ (s.refused fault is r) = tt

pub ended_begun : (b : ConnectionState) (end : End) → end_of b ≡ Some end → HasGreeted b
ended_begun New end is = absurd cc
ended_begun (At phase) end is = tt
ended_begun (Ended e) end is = tt
