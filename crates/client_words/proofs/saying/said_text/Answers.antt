use Rattle.client_statements.specs.tokens.Pieces.{lexemes_of}
use Rattle.client_words.specs.inner.Parts.{parts_in}
use Rattle.client_words.proofs.Sayings.{put_all, whole_said}
use Rattle.client_words.proofs.saying.said_text.Goals as goal

pub returns : goal.returns
returns c =
    let front = rw c.as_slice-2.ensures at c.in_ok-put.ensures.ok in
    let groups = rw c.as_slice-3.ensures at c.in_ok-put_groups.ensures.ok in
    let tail = rw c.as_slice-4.ensures at c.in_ok-put-2.ensures.ok in
    whole_said (lexemes_of c.args.text.now c.args.tokens.now) (parts_in c.args.text.now c.in_ok-parts.parts) c.in_ok-table.table c.in_ok-front.front c.in_ok-tail.tail
    c.from_vec.result (c.in_ok-parts.ensures c.args.text.now) c.in_ok-table.ensures (rw c.as_slice.ensures at c.in_ok-front.ensures) c.in_ok-tail.ensures
    (put_all _ _ _ _ _ _ _ _ c.new-out.ensures.items front groups tail c.from_vec.ensures)
