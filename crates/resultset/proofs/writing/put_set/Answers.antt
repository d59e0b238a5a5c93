use Rattle.std.proofs.Common.{◌+◌, [], length, map, arith}
use Rattle.resultset.specs.Encoding.{row_payload, after_rows}
use Rattle.resultset.specs.inner.Heads.{head_payloads}
use Rattle.resultset.proofs.Payloads.{has_put_none, puts_more, front_kept, on_err, last_ok, last_next, last_err, set_shape}
use Rattle.resultset.proofs.writing.put_set.Goals as goal

pub returns-in_err-number-2-clause-err : goal.returns-in_err-number-2-clause-err
returns-in_err-number-2-clause-err c = on_err _ (front_kept _ _ _ _ c.in_ok-number.ensures.ok c.in_err-number-2.ensures.err)

pub returns : goal.returns
returns c =
    let start = has_put_none {start = c.args.out.now.items} {first = c.args.number} {size = length c.args.out.now.items + c.args.out.now.spare} c.args.out.now.spare (omega arith) in
    let begun = puts_more [] (head_payloads c.args.end c.as_slice-columns.result.now c.args.status) _ _ _ _ _ _ start c.in_ok-number.ensures.ok c.in_ok-number.ensures.next c.put_head.ensures.capacity in
    let written = puts_more _ (map row_payload c.as_slice.result.now) _ _ _ _ _ _ begun c.in_ok-number-2.ensures.ok c.in_ok-number-2.ensures.next c.put_rows.ensures.capacity in
    let shape = set_shape c.args.end c.args.status _ _ _ _ c.as_slice-columns.ensures c.as_slice.ensures in
    record {
      ok = last_ok c.put_rows_end.result _ _ (after_rows c.args.end c.args.status) _ _ _ _ written shape c.put_rows_end.ensures.ok;
      next = last_next c.put_rows_end.result _ _ (after_rows c.args.end c.args.status) _ _ _ written shape c.put_rows_end.ensures.next;
      err = last_err c.put_rows_end.result _ _ _ _ _ written c.put_rows_end.ensures.err;
      capacity = omega (arith, written.capacity, c.put_rows_end.ensures.capacity);
    }
