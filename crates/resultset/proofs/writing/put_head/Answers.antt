use Rattle.std.proofs.Common.{◌≡◌, ◌+◌, [], ◌++◌, length, map, ap, ◌∙◌, arith}
use Rattle.mysql_packet.specs.Numbers.{length_encoded}
use Rattle.resultset.specs.Encoding.{definition_payload, after_definitions}
use Rattle.resultset.proofs.Payloads.{has_put_none, puts_one, puts_more, front_kept, on_err, more_ok, more_next, last_err, head_shape}
use Rattle.resultset.proofs.writing.put_head.Goals as goal

pub returns-in_err-number-2-clause-err : goal.returns-in_err-number-2-clause-err
returns-in_err-number-2-clause-err c = on_err _ (front_kept _ _ _ _ c.in_ok-number.ensures.ok c.in_err-number-2.ensures.err)

pub returns : goal.returns
returns c =
    let start = has_put_none {start = c.args.out.now.items} {first = c.args.number} {size = length c.args.out.now.items + c.args.out.now.spare} c.args.out.now.spare (omega arith) in
    let counted = puts_one [] _ _ _ _ _ _ _ start c.in_ok-number.ensures.ok c.in_ok-number.ensures.next c.put_payload.ensures.capacity in
    let defined = puts_more _ (map definition_payload c.args.columns.now) _ _ _ _ _ _ counted c.in_ok-number-2.ensures.ok c.in_ok-number-2.ensures.next c.put_definitions.ensures.capacity in
    let count : c.as_slice.result.now ≡ length_encoded (length c.args.columns.now) =
    c.as_slice.ensures ∙ c.in_ok-put_length_encoded.ensures.ok ∙ ap (λ l. l ++ length_encoded (length c.args.columns.now)) c.requires
    in
    let shape = head_shape c.args.end c.args.status c.args.columns.now c.as_slice.result.now count in
    record {
      ok = more_ok c.put_definitions_end.result _ (after_definitions c.args.end c.args.status) _ _ _ _ _ defined shape c.put_definitions_end.ensures.ok;
      next = more_next c.put_definitions_end.result _ (after_definitions c.args.end c.args.status) _ _ _ _ defined shape c.put_definitions_end.ensures.next;
      err = last_err c.put_definitions_end.result _ _ _ _ _ defined c.put_definitions_end.ensures.err;
      capacity = omega (arith, defined.capacity, c.put_definitions_end.ensures.capacity);
    }
