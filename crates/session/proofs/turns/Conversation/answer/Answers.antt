use Rattle.std.proofs.Common.{rules, [], ap, ◌∙◌}
use Rattle.std.specs.Prelude.{Err}
use Rattle.session.specs.declared.conversation.connection_state.ConnectionState.TheVariants.{New}
use Rattle.session.proofs.conversation.KeptLemmas.{fed_front}
use Rattle.session.proofs.TurnLemmas.{same_handshake, still_open, with_ended, turn_fed, turn_over, turn_broken, turn_unread}
use Rattle.session.proofs.turns.Conversation.answer.Goals as goal

pub invariant_of-self : goal.invariant_of-self
invariant_of-self g c =
    let is = still_open _ _ _ _ _ _ _ _ _ _ _ _ (ap (λ v. v.ended) c.self.view_is ∙ c.requires.open) c.self.invariant in
    with_ended _ _ _ _ _ _ _ _ _ _ _ _ (ap (λ v. v.ended) c.self.view_is ∙ c.requires.open)
    (same_handshake _ _ _ _ _ _ _ _ _ _ _ _ _ c.in-Ok-None.ensures.next.handshake
    (turn_fed _ _ _ _ _ _ _ _ _ _ _ _ _ _ _ _ is (fed_front _ _ _ _ _ c.first_bytes-piece.ensures c.drop_first.ensures) c.in-Ok-None.ensures.next.limit (search rules) c.in-Ok-None.field-0
    c.in-Ok-None.field-0-is (c.in-Ok-None.ensures.talk New)))

pub invariant_of-self-in-Ok-Some : goal.invariant_of-self-in-Ok-Some
invariant_of-self-in-Ok-Some g c =
    let is = still_open _ _ _ _ _ _ _ _ _ _ _ _ (ap (λ v. v.ended) c.self.view_is ∙ c.requires.open) c.self.invariant in
    same_handshake _ _ _ _ _ _ _ _ _ _ _ _ _ c.in-Ok-Some.ensures.next.handshake
    (turn_over _ _ _ _ _ _ _ _ _ _ _ _ _ _ _ _ is (fed_front _ _ _ _ _ c.first_bytes-piece.ensures c.drop_first-in-Ok-Some.ensures) c.in-Ok-Some.ensures.next.limit (search rules) c.in-Ok-Some.field-0
    c.in-Ok-Some.end c.in-Ok-Some.field-0-is c.in-Ok-Some.ensures.by_command (c.in-Ok-Some.ensures.talk New))

pub invariant_of-self-in-Err-Memory : goal.invariant_of-self-in-Err-Memory
invariant_of-self-in-Err-Memory g c =
    let is = still_open _ _ _ _ _ _ _ _ _ _ _ _ (ap (λ v. v.ended) c.self.view_is ∙ c.requires.open) c.self.invariant in
    same_handshake _ _ _ _ _ _ _ _ _ _ _ _ _ c.in-Err-Memory.ensures.next.handshake
    (turn_unread _ _ _ _ _ _ _ _ _ _ _ _ [] _ _ _ is (fed_front _ _ _ _ _ c.first_bytes-piece.ensures c.drop_first-in-Err-Memory.ensures) c.in-Err-Memory.ensures.next.limit (search rules)
    (ap (λ v. v.unsent) c.self.view_is ∙ c.requires.none_unsent) _ (search rules) (c.in-Err-Memory.ensures.memory (ap Err c.in-Err-Memory.field-0-is)).0)

pub invariant_of-self-in-Err-Write : goal.invariant_of-self-in-Err-Write
invariant_of-self-in-Err-Write g c =
    let is = still_open _ _ _ _ _ _ _ _ _ _ _ _ (ap (λ v. v.ended) c.self.view_is ∙ c.requires.open) c.self.invariant in
    same_handshake _ _ _ _ _ _ _ _ _ _ _ _ _ c.in-Err-Write.ensures.next.handshake
    (turn_broken _ _ _ _ _ _ _ _ _ _ _ _ _ _ _ _ is (fed_front _ _ _ _ _ c.first_bytes-piece.ensures c.drop_first-in-Err-Write.ensures) c.in-Err-Write.ensures.next.limit (search rules)
    (ap (λ v. v.unsent) c.self.view_is ∙ c.requires.none_unsent) _ (search rules) (c.in-Err-Write.ensures.write (ap Err c.in-Err-Write.field-0-is) New))
