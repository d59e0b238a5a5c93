use Rattle.std.proofs.Common.{◌≡◌, ◌==◌, List, get_or, sym, ap, subst, ◌∙◌}
use Rattle.std.proofs.lemmas.Bool.{eqb-true}
use Rattle.std.proofs.lemmas.List.Quantifiers.{position-Some}
use Rattle.shard_contents.specs.inner.Earlier.{EarlierTable, HadRows, AllHadRows}
use Rattle.shard_contents.proofs.Earlier.{all-at}
use Rattle.shard_contents.proofs.sorted.SortedTables.take.Goals as goal

pub returns-clause-taken : goal.returns-clause-taken
returns-clause-taken c =
    let all = c.as_slice.result.now in
    let t = c.remove.result in
    let at = position-Some (λ (x : EarlierTable). x.table == c.args.place) all c.in_ok-at.at t (sym c.ordinal_of.ensures ∙ c.in_ok-at.was) in
    let is : t ≡ get_or all c.in_ok-at.at t = c.remove.ensures.value ∙ ap (λ (l : List EarlierTable). get_or l c.in_ok-at.at t) (sym c.as_slice.ensures.value) in (
      eqb-true t.table c.args.place (ap (λ (x : EarlierTable). x.table == c.args.place) is ∙ at.1),
      λ log now had.
          subst (HadRows log now) (sym is)
          (all-at (HadRows log now) all c.in_ok-at.at t at.0
          (subst (AllHadRows log now) (sym c.self.view_is ∙ sym c.as_slice.ensures.value) had)),
    )
