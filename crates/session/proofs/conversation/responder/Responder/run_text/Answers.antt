use Rattle.std.proofs.Common.{◌≡◌, true, false, refl, subst}
use Rattle.std.specs.Prelude.{IsSome}
use Rattle.session.specs.conversation.Means.{context_of}
use Rattle.session.specs.conversation.GivesText as x
use Rattle.session.proofs.conversation.TextLemmas.{none_kept}
use Rattle.session.proofs.conversation.responder.Responder.run_text.Goals.{then-settings-via-then-settings, then-settings-via-else-settings+then-is_open}
use Rattle.session.proofs.conversation.responder.Responder.run_text.Goals as goal

pub returns-then-settings-clause-runs : goal.returns-then-settings-clause-runs
returns-then-settings-clause-runs g c = λ handshake s held.
    let next = c.outcome_of.ensures.means s held in
    let open_or_on : x.NeedsOne (context_of g.W.World.opening handshake) c.args.settings s → ⊥ = λ needs.
    elim c.then-settings.branch [
      | then-settings-via-then-settings w ↦ let on = w.if-settings.true in let off = needs.0 in cc
      | then-settings-via-else-settings+then-is_open w ↦ let none : false ≡ true = subst IsSome (none_kept _ _ _ s held needs.1) (w.if-is_open.ensures.0 refl) in cc
    ]
    in
    (next.0, next.1, x.alone (λ needs opens. open_or_on needs) next.2)
