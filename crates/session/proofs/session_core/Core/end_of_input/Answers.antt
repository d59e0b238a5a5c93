use Rattle.std.proofs.Common.{◌∙◌}
use Rattle.session.proofs.conversation.Conversations.{whole_end, is_end}
use Rattle.session.proofs.session_core.Core.end_of_input.Goals as goal

pub returns-in-None-clause-whole : goal.returns-in-None-clause-whole
returns-in-None-clause-whole g c =
    rw (← c.self.view_is)
    (λ has o l begin first now bytes out before.
    let ends =
    is_end c.is_between_payloads.result c.is_in_commands-is_let_in.result c.self.inside.state.framer.rest c.end_between.result c.is_between_payloads.ensures c.end_between.ensures.between
    c.end_between.ensures.within c.end_between.ensures.before in
    whole_end _ _ _ c.self.inside.state.connection_state _ _ c.self.inside.state.framer.limit bytes out before.payloads c.self.inside.state.framer.rest _ has before.goes_on before.read.splits before.replies
    (λ is on. ends.0 is (c.is_in_commands-is_let_in.ensures ∙ on)) (λ is off. ends.1 is (c.is_in_commands-is_let_in.ensures ∙ off)) ends.2)
