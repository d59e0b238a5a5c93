use Rattle.std.proofs.Common.{rules, ap, ◌∙◌}
use Rattle.session.specs.declared.conversation.connection_state.ConnectionState.TheVariants.{New}
use Rattle.session.proofs.TurnLemmas.{same_told, still_open, turn_ended, turn_starved}
use Rattle.session.proofs.turns.Conversation.listen.Goals as goal

pub invariant_of-self-in-Ok-End : goal.invariant_of-self-in-Ok-End
invariant_of-self-in-Ok-End g c =
    let is = still_open _ _ _ _ _ _ _ _ _ _ _ _ (ap (λ v. v.ended) c.self.view_is ∙ c.requires.open) c.self.invariant in
    let said = c.in-Ok-End.ensures.end c.in-Ok-End.field-0-is in
    let has = rw (← c.self.view_is) at c.requires.greeted in
    same_told _ _ _ _ _ _ _ _ _ _ _ _ _ c.fetch.ensures.taken
    (turn_ended _ _ _ _ _ _ _ _ _ _ _ _ _ _ is (ap (λ v. v.unfed) c.self.view_is ∙ c.requires.none_unfed) c.end_of_input.result c.in-Ok-End.ensures.read said.1 said.0
    (λ first s bytes out. c.end_of_input.ensures.whole has _ _ New first s bytes out))

pub invariant_of-self-in-Err-Memory : goal.invariant_of-self-in-Err-Memory
invariant_of-self-in-Err-Memory g c =
    let is = still_open _ _ _ _ _ _ _ _ _ _ _ _ (ap (λ v. v.ended) c.self.view_is ∙ c.requires.open) c.self.invariant in
    same_told _ _ _ _ _ _ _ _ _ _ _ _ _ c.fetch.ensures.taken
    (turn_starved _ _ _ _ _ _ _ _ _ _ _ _ _ _ is (ap (λ v. v.unfed) c.self.view_is ∙ c.requires.none_unfed) (ap (λ v. v.unsent) c.self.view_is ∙ c.requires.none_unsent)
    (c.in-Err-Memory.ensures.memory c.in-Err-Memory.field-0-is) (c.in-Err-Memory.ensures.dropped c.in-Err-Memory.field-0-is))
