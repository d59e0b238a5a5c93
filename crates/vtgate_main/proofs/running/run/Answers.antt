use Rattle.std.proofs.Common.{◌≡◌, ℕ, List, true, false, subst}
use Rattle.keyrange.specs.declared.KeyRange.{KeyRange}
use Rattle.vtgate_serve.specs.Partitions.{NamesPartition}
use Rattle.vtgate_main.proofs.Asking.{plan_asked, script_asked}
use Rattle.vtgate_main.proofs.running.run.Goals as goal

-- The words ask for a plan.

pub returns-in-Some-clause-plan : goal.returns-in-Some-clause-plan
returns-in-Some-clause-plan g c shards sql words =
    let found = c.in-Some.ensures.found in
    let is_shards : shards ≡ c.in-Some.shards.now = cc (found.texts, words.texts) in
    let is_sql : sql ≡ c.in-Some.sql.now = cc (found.bytes, words.bytes) in
    rw (is_shards, is_sql) (λ done. c.run_plan.ensures.planned done)

pub returns-in-Some-clause-plan_cause : goal.returns-in-Some-clause-plan_cause
returns-in-Some-clause-plan_cause g c shards sql words =
    let found = c.in-Some.ensures.found in
    let is_shards : shards ≡ c.in-Some.shards.now = cc (found.texts, words.texts) in
    rw is_shards (λ two. c.run_plan.ensures.cause two)

pub returns-in-Some-clause-untouched : goal.returns-in-Some-clause-untouched
returns-in-Some-clause-untouched g c shards sql words none =
    let found = c.in-Some.ensures.found in
    let same : c.in-Some.shards.now ≡ shards = cc (found.texts, words.texts) in
    let none_there : (ranges : List KeyRange) → NamesPartition c.in-Some.shards.now ranges → ⊥ =
    λ ranges p. none ranges (subst (λ (s : List ℕ). NamesPartition s ranges) same p) in (
      λ done. let h = c.run_plan.ensures.planned done in none_there h.planned.ranges h.planned.partition,
      c.run_plan.ensures.untouched none_there,
    )

pub returns-in-Some-clause-script : goal.returns-in-Some-clause-script
returns-in-Some-clause-script g c shards words = absurd (cc (c.in-Some.ensures.found.texts, words.texts))

pub returns-in-Some-clause-script_cause : goal.returns-in-Some-clause-script_cause
returns-in-Some-clause-script_cause g c shards words = absurd (cc (c.in-Some.ensures.found.texts, words.texts))

pub returns-in-Some-clause-unread : goal.returns-in-Some-clause-unread
returns-in-Some-clause-unread g c shards words = absurd (cc (c.in-Some.ensures.found.texts, words.texts))

pub returns-in-Some-clause-serve : goal.returns-in-Some-clause-serve
returns-in-Some-clause-serve g c asking asks = absurd (cc (c.in-Some.ensures.found.texts, asks.words))

pub returns-in-Some-clause-serve_cause : goal.returns-in-Some-clause-serve_cause
returns-in-Some-clause-serve_cause g c asking asks = absurd (cc (c.in-Some.ensures.found.texts, asks.words))

pub returns-in-Some-clause-unserved : goal.returns-in-Some-clause-unserved
returns-in-Some-clause-unserved g c asking asks = absurd (cc (c.in-Some.ensures.found.texts, asks.words))

pub returns-in-Some-clause-wrong : goal.returns-in-Some-clause-wrong
returns-in-Some-clause-wrong g c plan =
    let is : true ≡ false = cc (plan_asked c.args.words.now c.in-Some.shards.now c.in-Some.sql.now c.in-Some.ensures.found, plan) in
    absurd (cc is)

-- They ask for a script.

pub returns-in-Some-script_words-clause-script : goal.returns-in-Some-script_words-clause-script
returns-in-Some-script_words-clause-script g c shards words =
    let found = c.in-Some-script_words.ensures.found in
    let is_shards : shards ≡ c.in-Some-script_words.shards.now = cc (found.texts, words.texts) in
    rw is_shards (λ done. c.run_script.ensures.scripted done)

pub returns-in-Some-script_words-clause-script_cause : goal.returns-in-Some-script_words-clause-script_cause
returns-in-Some-script_words-clause-script_cause g c shards words =
    let found = c.in-Some-script_words.ensures.found in
    let is_shards : shards ≡ c.in-Some-script_words.shards.now = cc (found.texts, words.texts) in
    rw is_shards (λ two. c.run_script.ensures.cause two)

pub returns-in-Some-script_words-clause-unread : goal.returns-in-Some-script_words-clause-unread
returns-in-Some-script_words-clause-unread g c shards words none =
    let found = c.in-Some-script_words.ensures.found in
    let same : c.in-Some-script_words.shards.now ≡ shards = cc (found.texts, words.texts) in
    let none_there : (ranges : List KeyRange) → NamesPartition c.in-Some-script_words.shards.now ranges → ⊥ =
    λ ranges p. none ranges (subst (λ (s : List ℕ). NamesPartition s ranges) same p) in (
      λ done. let h = c.run_script.ensures.scripted done in none_there h.ranges h.partition,
      c.run_script.ensures.untouched none_there,
    )

pub returns-in-Some-script_words-clause-plan : goal.returns-in-Some-script_words-clause-plan
returns-in-Some-script_words-clause-plan g c shards sql words = absurd (cc (c.in-Some-script_words.ensures.found.texts, words.texts))

pub returns-in-Some-script_words-clause-plan_cause : goal.returns-in-Some-script_words-clause-plan_cause
returns-in-Some-script_words-clause-plan_cause g c shards sql words = absurd (cc (c.in-Some-script_words.ensures.found.texts, words.texts))

pub returns-in-Some-script_words-clause-untouched : goal.returns-in-Some-script_words-clause-untouched
returns-in-Some-script_words-clause-untouched g c shards sql words = absurd (cc (c.in-Some-script_words.ensures.found.texts, words.texts))

pub returns-in-Some-script_words-clause-serve : goal.returns-in-Some-script_words-clause-serve
returns-in-Some-script_words-clause-serve g c asking asks = absurd (cc (c.in-Some-script_words.ensures.found.texts, asks.words))

pub returns-in-Some-script_words-clause-serve_cause : goal.returns-in-Some-script_words-clause-serve_cause
returns-in-Some-script_words-clause-serve_cause g c asking asks = absurd (cc (c.in-Some-script_words.ensures.found.texts, asks.words))

pub returns-in-Some-script_words-clause-unserved : goal.returns-in-Some-script_words-clause-unserved
returns-in-Some-script_words-clause-unserved g c asking asks = absurd (cc (c.in-Some-script_words.ensures.found.texts, asks.words))

pub returns-in-Some-script_words-clause-wrong : goal.returns-in-Some-script_words-clause-wrong
returns-in-Some-script_words-clause-wrong g c plan script =
    let is : true ≡ false = cc (script_asked c.args.words.now c.in-Some-script_words.shards.now c.in-Some-script_words.ensures.found, script) in
    absurd (cc is)

-- They ask for serving, or are wrong.

pub returns-clause-plan : goal.returns-clause-plan
returns-clause-plan g c shards sql words =
    let is : true ≡ false = cc (plan_asked c.args.words.now shards sql words, c.in_default.ensures.none) in
    absurd (cc is)

pub returns-clause-plan_cause : goal.returns-clause-plan_cause
returns-clause-plan_cause g c shards sql words =
    let is : true ≡ false = cc (plan_asked c.args.words.now shards sql words, c.in_default.ensures.none) in
    absurd (cc is)

pub returns-clause-untouched : goal.returns-clause-untouched
returns-clause-untouched g c shards sql words =
    let is : true ≡ false = cc (plan_asked c.args.words.now shards sql words, c.in_default.ensures.none) in
    absurd (cc is)

pub returns-clause-script : goal.returns-clause-script
returns-clause-script g c shards words =
    let is : true ≡ false = cc (script_asked c.args.words.now shards words, c.in_default-script_words.ensures.none) in
    absurd (cc is)

pub returns-clause-script_cause : goal.returns-clause-script_cause
returns-clause-script_cause g c shards words =
    let is : true ≡ false = cc (script_asked c.args.words.now shards words, c.in_default-script_words.ensures.none) in
    absurd (cc is)

pub returns-clause-unread : goal.returns-clause-unread
returns-clause-unread g c shards words =
    let is : true ≡ false = cc (script_asked c.args.words.now shards words, c.in_default-script_words.ensures.none) in
    absurd (cc is)

pub returns-in-Some-clause-status : goal.returns-in-Some-clause-status
returns-in-Some-clause-status g c = c.run_plan.ensures.status

pub returns-in-Some-script_words-clause-status : goal.returns-in-Some-script_words-clause-status
returns-in-Some-script_words-clause-status g c = c.run_script.ensures.status

pub returns-clause-serve : goal.returns-clause-serve
returns-clause-serve g c = c.run_serve.ensures.serve

pub returns-clause-serve_cause : goal.returns-clause-serve_cause
returns-clause-serve_cause g c = c.run_serve.ensures.cause

pub returns-clause-unserved : goal.returns-clause-unserved
returns-clause-unserved g c = c.run_serve.ensures.unserved

pub returns-clause-status : goal.returns-clause-status
returns-clause-status g c = c.run_serve.ensures.status

pub returns-clause-wrong : goal.returns-clause-wrong
returns-clause-wrong g c plan script none = c.run_serve.ensures.wrong none
