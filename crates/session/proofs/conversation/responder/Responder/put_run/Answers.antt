use Rattle.std.proofs.Common.{◌≡◌, ◌∙◌, true, false, refl, sym, ap, Some}
use Rattle.session.specs.conversation.GivesText as x
use Rattle.session.specs.conversation.GivesText.{is_not_run}
use Rattle.session.proofs.conversation.RepliesLemmas.{then_leads}
use Rattle.session.proofs.conversation.TextLemmas.{given_asked, refused_is}
use Rattle.session.proofs.conversation.responder.Responder.put_run.Goals as goal

pub returns-in-None-clause-gives : goal.returns-in-None-clause-gives
returns-in-None-clause-gives g c =
    let bytes = rw (c.set_end_of-end.ensures, c.status_of-status.ensures) at c.put_outcome-rows.ensures.bytes in
    let run = c.in-None.ensures.run.0 refl in (
      c.run_text-outcome.result,
      (λ s held.
          let next = c.run_text-outcome.ensures.runs c.args.self.now.handshake.now s held in (
            next.0,
            next.1,
            x.run next.2 (λ e statement is_asked. let differs : false ≡ true = sym run ∙ e in cc)
                c.requires.held (λ e whole names is_said. let differs : false ≡ true = sym run ∙ e in cc),
          )),
      bytes,
    )

pub returns-in-Some-clause-gives : goal.returns-in-Some-clause-gives
returns-in-Some-clause-gives g c =
    let not_run = refused_is (Some c.in-Some.why) _ c.in-Some.why refl c.in-Some.ensures.run in
    let told = c.put_asked.ensures.answers in (
      told.0,
      then_leads _ _ _ _ _ _ _ _ _ _ (c.run_text-outcome.ensures.runs c.args.self.now.handshake.now) told.1
          (λ s mid now runs answers. given_asked _ _ _ s mid now _ _ _ _ _ runs not_run c.in-Some.ensures.refused answers),
      told.2,
    )
