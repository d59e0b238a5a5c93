use Rattle.std.proofs.Common.{◌∙◌, ap, sym}
use Rattle.vt_value.specs.declared.value.Value.{Value}
use Rattle.vt_value.specs.declared.value.Comparison.TheVariants.{Gt, Ge}
use Rattle.vt_value.specs.Values.{value_cmp, fits_order}
use Rattle.key_intervals.proofs.NextLemmas.{above_text}
use Rattle.key_intervals.proofs.next.next_value.Goals as goal

pub returns-in_ok-next-in-Bytes : goal.returns-in_ok-next-in-Bytes
returns-in_ok-next-in-Bytes c =
    record {
      ok = λ x.
          ap (λ (v : Value). fits_order Gt (value_cmp x v)) c.in-Bytes.is ∙ above_text x c.in-Bytes.text
          ∙ ap (λ (v : Value). fits_order Ge (value_cmp x v)) (sym c.in_ok-next-in-Bytes.ensures.ok);
    }
