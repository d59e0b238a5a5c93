use Rattle.std.proofs.Common.{◌≡◌, length, ap, sym, ◌∙◌, arith}
use Rattle.std.proofs.lemmas.List.{take_at, length-set}
use Rattle.resultset.specs.inner.Parts.{part_payload}
use Rattle.resultset.proofs.Cuts.{closed_packet, payload_size}
use Rattle.resultset.proofs.chunks.put_within.Goals as goal

pub returns-else-end-gt-CHUNK_LIMIT-clause-put : goal.returns-else-end-gt-CHUNK_LIMIT-clause-put
returns-else-end-gt-CHUNK_LIMIT-clause-put c =
    let start : length c.args.out.now.items ≡ c.len-start.result = sym c.len-start.ensures.value in
    let size = payload_size c.args.out.now.items c.put_open-opened.new.out.items (part_payload c.args.part.now) c.args.number c.len-start.result c.len-end.result c.in-Ok.ensures.ok start c.len-end.ensures.value in
    let same : length c.set_length.new.bytes ≡ length c.put_open-opened.new.out.items = ap length c.set_length.ensures ∙ length-set _ _ _ ∙ length-set _ _ _ ∙ ap length c.as_mut_slice.ensures.value in
    take_at c.set_length.new.bytes _ _ same
    ∙ closed_packet c.args.out.now.items c.as_mut_slice.result.now c.set_length.new.bytes (part_payload c.args.part.now) c.args.number c.len-start.result _
    (c.as_mut_slice.ensures.value ∙ c.in-Ok.ensures.ok) start size (omega arith) c.set_length.ensures
