use Rattle.session.proofs.conversation.prepared.named_shown.Goals as goal

pub returns-in_ok-named_list-in-Ok-clause-shows :
    goal.returns-in_ok-named_list-in-Ok-clause-shows
returns-in_ok-named_list-in-Ok-clause-shows c = record {
  shown = c.in-Ok.columns;
  shows = c.in-Ok.ensures.shows;
  named = c.in_ok-named_list-in-Ok.ensures;
}
