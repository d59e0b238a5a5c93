use Rattle.std.proofs.Common.{◌++◌, List, sym, ap, ◌∙◌, subst, IsPermutation}
use Rattle.std.specs.Prelude.{Option}
use Rattle.vt_value.specs.Values.{Row}
use Rattle.shard_contents.specs.inner.Earlier.{EarlierTable, left_of}
use Rattle.shard_contents.proofs.RowsLeft.{had_as}
use Rattle.shard_contents.proofs.sorted.SortedTable.go_on.Goals as goal

pub returns-in_ok-self-inside-in-Some : goal.returns-in_ok-self-inside-in-Some
returns-in_ok-self-inside-in-Some c =
    let rows : List Row = c.put_some.new.rows.rows ++ left_of c.in_ok-self-inside-in-Some.field-0 in
    record {
      had = (λ now there had.
          had_as c.args.stored.now.log now c.args.self.now (record { table = c.self.inside.table; stored = c.self.inside.stored; rows = rows })
          (ap (λ (x : EarlierTable). x.table) c.self.view_is) (ap (λ (x : EarlierTable). x.stored) c.self.view_is)
          (subst (λ (x : EarlierTable). IsPermutation rows x.rows) c.self.view_is
          (subst (λ (l : Option (List Row)). IsPermutation rows (c.self.inside.rows.rows ++ left_of l)) (sym (sym c.take.ensures.value ∙ c.in-Some.is))
          c.in_ok-self-inside-in-Some.ensures.ok)) had);
    }
