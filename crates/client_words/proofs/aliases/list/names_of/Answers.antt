use Rattle.std.proofs.Common.{sym, ap, ◌∙◌, ◌++◌}
use Rattle.std.proofs.lemmas.Result.{IfOk-weaker}
use Rattle.client_words.specs.Aliases.{Names}
use Rattle.client_words.proofs.AliasLemmas.{from_name}
use Rattle.client_words.proofs.aliases.list.names_of.Goals as goal

pub returns-then-is_from : goal.returns-then-is_from
returns-then-is_from c =
    let is = sym (c.is_from.ensures c.args.text.now) ∙ c.if-is_from.true in
    let ends = from_name c.args.text.now c.loop-rest.name c.loop-rest.rest.now _ c.in-len1-up.len_at_least is in
    IfOk-weaker c.with_last-then-is_from.result _ _ (λ names e. e ∙ ap (λ (xs : Names). c.loop-rest.names ++ xs) (sym ends) ∙ c.loop-rest.invariant)
    c.with_last-then-is_from.ensures
