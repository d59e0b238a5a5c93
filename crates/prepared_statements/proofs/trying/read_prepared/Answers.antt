use Rattle.std.proofs.Common.{◌∙◌, sym}
use Rattle.prepared_statements.specs.inner.Cutting.{literal_of}
use Rattle.prepared_statements.specs.declared.trying.Tried.TheVariants as t
use Rattle.prepared_statements.proofs.Tryings.{at_pieces}
use Rattle.prepared_statements.proofs.trying.read_prepared.Goals as goal

pub returns-in-Err-clause-only : goal.returns-in-Err-clause-only
returns-in-Err-clause-only c = λ pieces statement m.
    c.in-Err.ensures.only m.literals
    (at_pieces (literal_of t.MinusOne) pieces c.in_ok-pieces.pieces c.as_slice.result.now c.args.text.now m.literals m.cut c.in_ok-pieces.ensures.ok c.as_slice.ensures m.places)

pub returns-in-Ok-read_tried-clause-only : goal.returns-in-Ok-read_tried-clause-only
returns-in-Ok-read_tried-clause-only c = λ pieces statement m. (
  c.in_ok-pieces.ensures.ok ∙ sym m.cut,
  c.in-Ok-read_tried.ensures.only statement
      (at_pieces (literal_of t.Null) pieces c.in_ok-pieces.pieces c.as_slice-2.result.now c.args.text.now statement m.cut c.in_ok-pieces.ensures.ok c.as_slice-2.ensures m.blank),
)

pub returns-in-Err-read_tried-clause-only : goal.returns-in-Err-read_tried-clause-only
returns-in-Err-read_tried-clause-only c = λ pieces statement m.
    c.in-Err-read_tried.ensures.only statement
    (at_pieces (literal_of t.Null) pieces c.in_ok-pieces.pieces c.as_slice-2.result.now c.args.text.now statement m.cut c.in_ok-pieces.ensures.ok c.as_slice-2.ensures m.blank)
