use Rattle.std.proofs.Common.{ap, sym, ◌∙◌}
use Rattle.std.specs.List.{list_any}
use Rattle.planner.specs.Plans.{has_among}
use Rattle.planner.proofs.Cuts.{has_among-And}
use Rattle.planner.proofs.pieces.+has.Goals as goal

pub has_among-returns-in-And : goal.has_among-returns-in-And
has_among-returns-in-And t c =
    c.one_has_among.ensures ∙ ap (list_any (has_among c.args.keys)) c.as_slice.ensures
    ∙ sym (has_among-And c.args.keys c.in-And.members) ∙ ap (has_among c.args.keys) (sym c.in-And.is)
