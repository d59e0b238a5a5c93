use Rattle.std.proofs.Common.{◌≡◌, ◌∙◌, ◌++◌, ◌∷◌, [], refl, sym, ap, filter, append_assoc, append-nil}
use Rattle.std.proofs.lemmas.List.{take_at}
use Rattle.sql_eval.specs.Conditions.{is_kept}
use Rattle.sql_eval.specs.inner.Totals.{totals_of}
use Rattle.sql_eval.proofs.TotalLemmas.{front_summed}
use Rattle.sql_eval.proofs.totals.totals.Goals as goal

pub loop-row-init : goal.loop-row-init
loop-row-init g c = ([], refl, c.in_ok-totals.ensures.ok)

pub add_row-requires : goal.add_row-requires
add_row-requires g c =
    let seen = c.loop-row.invariant.0 in
    let more = filter (is_kept c.args.condition.now) (g.S.RowSource.to_come c.next_passing.new.rows) in
    let row = c.in-Some.row.now in
    let all = ap (λ l. seen ++ l) (sym c.in-Some.ensures) ∙ c.loop-row.invariant.1 in (
      seen,
      c.as_mut_slice.ensures.value ∙ c.loop-row.invariant.2,
      front_summed seen more _ row all c.requires,
    )

pub loop-row-preserved : goal.loop-row-preserved
loop-row-preserved g c =
    let seen = c.loop-row.invariant.0 in
    let more = filter (is_kept c.args.condition.now) (g.S.RowSource.to_come c.next_passing.new.rows) in
    let row = c.in-Some.row.now in (
      seen ++ row ∷ [],
      append_assoc seen (row ∷ []) more ∙ ap (λ l. seen ++ l) (sym c.in-Some.ensures) ∙ c.loop-row.invariant.1,
      take_at c.add_row.new.totals _ c.loop-row.totals.len (c.in_ok-add_row.ensures.each ∙ c.as_mut_slice.ensures.len)
          ∙ c.in_ok-add_row.ensures.ok seen (c.as_mut_slice.ensures.value ∙ c.loop-row.invariant.2),
    )

pub returns : goal.returns
returns g c =
    let seen = c.loop-row.invariant.0 in
    let all : seen ≡ filter (is_kept c.args.condition.now) (g.S.RowSource.to_come c.args.rows) =
    sym (append-nil seen) ∙ ap (λ l. seen ++ l) (sym c.in_default.ensures.0) ∙ c.loop-row.invariant.1 in
    record { ok = c.from_vec.ensures ∙ c.loop-row.invariant.2 ∙ ap (totals_of c.args.aggregates.now) all }
