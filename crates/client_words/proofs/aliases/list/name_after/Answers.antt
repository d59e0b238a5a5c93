use Rattle.std.proofs.Common.{sym, ◌∙◌}
use Rattle.client_words.proofs.AliasLemmas.{aliased_name, kept_name}
use Rattle.client_words.proofs.aliases.list.name_after.Goals as goal

pub returns-then-is_aliased-clause-same : goal.returns-then-is_aliased-clause-same
returns-then-is_aliased-clause-same c =
    aliased_name c.args.text.now c.args.name _ _ c.args.after.now _ c.in-len1-up.len_at_least c.requires.more c.requires.stays
    (sym c.is_aliased.ensures ∙ c.if-is_aliased.true) c.in_ok-column_alias_of-in-len1-up.ensures

pub returns-else-is_aliased-clause-same : goal.returns-else-is_aliased-clause-same
returns-else-is_aliased-clause-same c =
    kept_name c.args.text.now c.args.name _ c.args.after.now _ c.in-len1-up.len_at_least c.requires.more c.requires.stays
    (sym c.is_aliased.ensures ∙ c.if-is_aliased.false)
