use Rattle.std.proofs.Common.{sym, length, ◌∙◌}
use Rattle.std.proofs.lemmas.Bool.{eqb-true}
use Rattle.vtgate_lines.proofs.LineFronts.{at_name, nothing}
use Rattle.vtgate_lines.proofs.lines.read_line.Goals as goal
use Rattle.vtgate_lines.proofs.lines.read_line.Goals.{in_default-bytes_after-via-in-Some-bytes_after+else-not-is_empty, in_default-bytes_after-via-in_default-bytes_after}

pub returns-in_default-bytes_after : goal.returns-in_default-bytes_after
returns-in_default-bytes_after c = (
  λ name sql s.
      let p = at_name c.args.line.now name sql c.split_at.result.0.now c.split_at.result.1.now c.name_len.result s c.split_at.ensures.front c.split_at.ensures.back
      c.name_len.ensures.bound c.name_len.ensures.front c.name_len.ensures.end in
      elim c.in_default-bytes_after.branch [
        | in_default-bytes_after-via-in-Some-bytes_after+else-not-is_empty w ↦ p.0 (nothing c.split_at.result.0.now (eqb-true (length c.split_at.result.0.now) 0 (sym w.is_empty.ensures ∙ w.if-not-is_empty.false)))
        | in_default-bytes_after-via-in_default-bytes_after w ↦ w.in_default-bytes_after.ensures sql p.1
      ],
  λ words is. c.in_default.ensures words is,
)
