use Rattle.std.proofs.Common.{◌∙◌, Bool, sym}
use Rattle.std.specs.List.{list_any}
use Rattle.std.proofs.lemmas.List.Sorted.{list_any-IsPermutation}
use Rattle.vt_value.specs.Values.{Row}
use Rattle.sql_eval.specs.Schema.{key_of}
use Rattle.sql_eval.specs.Database.{same_row}
use Rattle.shard_store.specs.inner.Joined.{rows_lent}
use Rattle.shard_store.proofs.Shared.{turned_two}
use Rattle.shard_store.proofs.overlay.Overlay.has_any_key.Goals as goal

pub returns : goal.returns
returns c =
    record {
      ok = (let t = c.args.table.now in
          let new = c.args.new.now in
          let rows = c.args.self.now.rows in
          let f : Row → Row → Bool = λ n r. same_row (key_of t n) (key_of t r) in
          let sorted = rows_lent c.in_ok-sorted.sorted.items in
          c.any_has_key_among.ensures
          ∙ (λ i. list_any (λ r. list_any (λ n. f n r) (rows_lent (c.as_slice.ensures.value i))) (c.all.ensures i))
          ∙ turned_two f rows sorted
          ∙ sym (list_any-IsPermutation (λ n. list_any (f n) rows) new sorted c.in_ok-sorted.ensures.permutation));
    }
