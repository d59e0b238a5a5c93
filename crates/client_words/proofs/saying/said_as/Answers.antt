use Rattle.client_words.proofs.Sayings.{found_said, same_said}
use Rattle.client_words.proofs.saying.said_as.Goals as goal

pub returns-clause-found : goal.returns-clause-found
returns-clause-found c =
    let has = rw c.in-Some.is at c.in_ok-tokens.ensures.found in
    let numbers = rw c.as_slice.ensures.value at c.in_ok-tokens-2.ensures in
    let is = rw numbers at c.in_ok-query.ensures in
    let becomes = rw c.as_slice-2.ensures at c.in_ok-text.ensures in
    found_said c.args.schema.now c.args.text.now c.in_ok-text.text _ _ _ has is becomes

pub returns-clause-only : goal.returns-clause-only
returns-clause-only c = λ whole names is_said.
    let has = rw c.in-Some.is at c.in_ok-tokens.ensures.found in
    let numbers = rw c.as_slice.ensures.value at c.in_ok-tokens-2.ensures in
    let is = rw numbers at c.in_ok-query.ensures in
    let becomes = rw c.as_slice-2.ensures at c.in_ok-text.ensures in
    let found = found_said c.args.schema.now c.args.text.now c.in_ok-text.text _ _ _ has is becomes in
    let both = c.one_saying.ensures c.args.schema.now c.args.text.now c.in_ok-text.text whole _ names found is_said in
    same_said c.in_ok-text.text whole _ names both.0 both.1
