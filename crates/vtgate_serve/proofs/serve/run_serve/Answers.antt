use Rattle.std.proofs.Common.{◌≡◌, ◌∙◌, ℕ, List, subst, sym}
use Rattle.keyrange.specs.declared.KeyRange.{KeyRange}
use Rattle.vtgate_lines.specs.Partitions.{NamesPartition}
use Rattle.vtgate_serve.proofs.serve.run_serve.Goals as goal

-- It has failed.

pub returns-in-Err-clause-serve : goal.returns-in-Err-clause-serve
returns-in-Err-clause-serve g c asking asks = λ done. absurd (c.refuse_plainly.ensures.failed done)

pub returns-in-Err-clause-unserved : goal.returns-in-Err-clause-unserved
returns-in-Err-clause-unserved g c asking asks none =
    let found = c.in-Some.ensures.found.words in
    let words = asks.words in
    let same : c.in-Some.asked.shards ≡ asking.shards = cc (found, words) in
    let none_there : (ranges : List KeyRange) → NamesPartition c.in-Some.asked.shards ranges → ⊥ =
    λ ranges p. none ranges (subst (λ (s : List ℕ). NamesPartition s ranges) same p) in (
      λ done. c.refuse_plainly.ensures.failed done,
      (c.served.ensures.untouched none_there).0,
    )

pub returns-in-Err-clause-cause : goal.returns-in-Err-clause-cause
returns-in-Err-clause-cause g c asking asks =
    let found = c.in-Some.ensures.found.words in
    let words = asks.words in
    let is : asking.shards ≡ c.in-Some.asked.shards = cc (found, words) in
    rw is (λ two. c.in-Err.ensures.fault (sym c.refuse_plainly.ensures.status ∙ two))

pub returns-in-Err-clause-wrong : goal.returns-in-Err-clause-wrong
returns-in-Err-clause-wrong g c none = absurd (none c.in-Some.asked c.in-Some.ensures.found)

-- It has served.

pub returns-clause-serve : goal.returns-clause-serve
returns-clause-serve g c asking asks =
    let found = c.in-Some.ensures.found.words in
    let words = asks.words in
    let is : asking.shards ≡ c.in-Some.asked.shards = cc (found, words) in
    rw is (λ done. c.in_default-served.ensures.ok)

pub returns-clause-unserved : goal.returns-clause-unserved
returns-clause-unserved g c asking asks none =
    let found = c.in-Some.ensures.found.words in
    let words = asks.words in
    let same : c.in-Some.asked.shards ≡ asking.shards = cc (found, words) in
    let none_there : (ranges : List KeyRange) → NamesPartition c.in-Some.asked.shards ranges → ⊥ =
    λ ranges p. none ranges (subst (λ (s : List ℕ). NamesPartition s ranges) same p) in
    let h = c.in_default-served.ensures.ok in absurd (none_there h.ranges h.partition)

pub returns-clause-cause : goal.returns-clause-cause
returns-clause-cause g c asking asks = λ two. absurd (cc two)

pub returns-clause-wrong : goal.returns-clause-wrong
returns-clause-wrong g c none = absurd (none c.in-Some.asked c.in-Some.ensures.found)
