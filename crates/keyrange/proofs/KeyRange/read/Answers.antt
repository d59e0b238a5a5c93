-- The range that a text names has the begin and the end that were read.
use Rattle.std.proofs.Common.{◌≡◌, ◌<◌, Some, None, length, ap, sym, ◌∙◌, arith}
use Rattle.std.proofs.lemmas.Bool.{true≢false, eqb-true}
use Rattle.keyrange.specs.Ranges.{is_before}
use Rattle.keyrange.proofs.Reading.{named_split, no_end, some_end, some_left, same_range}
use Rattle.keyrange.proofs.KeyRange.read.Goals as goal

pub returns-in_err-begin-clause-named : goal.returns-in_err-begin-clause-named
returns-in_err-begin-clause-named c range n =
    let s = named_split c.args.text.now range c.split_once.result c.split_once.ensures.cases n in
    absurd (rw c.in_err-begin.was at s)

pub returns-in_err-begin-2-clause-named : goal.returns-in_err-begin-2-clause-named
returns-in_err-begin-2-clause-named c range n =
    let s = named_split c.args.text.now range c.split_once.result c.split_once.ensures.cases n in
    let parts = rw c.in_ok-begin.was at s in
    let none = c.in_err-begin-2.ensures.spelled range.begin n.0.0 (sym parts.0 ∙ sym c.as_bytes.ensures.value) in
    cc

pub returns-then-is_empty-clause-named : goal.returns-then-is_empty-clause-named
returns-then-is_empty-clause-named c range n =
    let s = named_split c.args.text.now range c.split_once.result c.split_once.ensures.cases n in
    let parts = rw c.in_ok-begin.was at s in
    let begin = c.in_ok-begin-2.ensures.spelled range.begin n.0.0 (sym parts.0 ∙ sym c.as_bytes.ensures.value) in
    let empty : length c.in_ok-begin.end.now ≡ 0 = eqb-true (length c.in_ok-begin.end.now) 0 (cc) in
    same_range range c.in_ok-begin-2.begin None (cc) (no_end range n.0 (omega (arith, empty, ap length parts.1)))

pub returns-in_err-end-clause-named : goal.returns-in_err-end-clause-named
returns-in_err-end-clause-named c range n =
    let s = named_split c.args.text.now range c.split_once.result c.split_once.ensures.cases n in
    let parts = rw c.in_ok-begin.was at s in
    let some : 0 < length c.in_ok-begin.end.now = some_left (length c.in_ok-begin.end.now) (cc) in
    let end = some_end range c.in_ok-begin.end.now n.0 parts.1 some in
    let none = c.in_err-end.ensures.spelled end.0 end.1.edge (end.1.spelled ∙ sym c.as_bytes-2.ensures.value) in
    cc

pub returns-then-is_before-clause-named : goal.returns-then-is_before-clause-named
returns-then-is_before-clause-named c range n =
    let s = named_split c.args.text.now range c.split_once.result c.split_once.ensures.cases n in
    let parts = rw c.in_ok-begin.was at s in
    let some : 0 < length c.in_ok-begin.end.now = some_left (length c.in_ok-begin.end.now) (cc) in
    let end = some_end range c.in_ok-begin.end.now n.0 parts.1 some in
    let begin = c.in_ok-begin-2.ensures.spelled range.begin n.0.0 (sym parts.0 ∙ sym c.as_bytes.ensures.value) in
    let same = c.in_ok-end.ensures.spelled end.0 end.1.edge (end.1.spelled ∙ sym c.as_bytes-2.ensures.value) in
    same_range range c.in_ok-begin-2.begin (Some c.in_ok-end.end) (cc) (end.1.is ∙ sym same)

pub returns-else-is_before-clause-named : goal.returns-else-is_before-clause-named
returns-else-is_before-clause-named c range n =
    let s = named_split c.args.text.now range c.split_once.result c.split_once.ensures.cases n in
    let parts = rw c.in_ok-begin.was at s in
    let some : 0 < length c.in_ok-begin.end.now = some_left (length c.in_ok-begin.end.now) (cc) in
    let end = some_end range c.in_ok-begin.end.now n.0 parts.1 some in
    let begin = c.in_ok-begin-2.ensures.spelled range.begin n.0.0 (sym parts.0 ∙ sym c.as_bytes.ensures.value) in
    let same = c.in_ok-end.ensures.spelled end.0 end.1.edge (end.1.spelled ∙ sym c.as_bytes-2.ensures.value) in
    let b : c.as_slice.result.now ≡ range.begin = cc in
    let e : c.as_slice-2.result.now ≡ end.0 = cc in
    let before : c.is_before.result ≡ is_before range.begin end.0 = cc in
    absurd (true≢false (sym end.1.trailing ∙ sym before ∙ c.if-is_before.false))
