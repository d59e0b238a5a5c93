use Rattle.std.proofs.Common.{sym, ◌∙◌, [], ◌∷◌, None, append_assoc}
use Rattle.client_statements.specs.tokens.Pieces.{lexeme_of, lexemes_of}
use Rattle.client_words.specs.Aliases.{names_from}
use Rattle.client_words.proofs.AliasLemmas.{comma_name}
use Rattle.client_words.proofs.aliases.list.push_name.Goals as goal

pub returns-then-is_comma-clause-same : goal.returns-then-is_comma-clause-same
returns-then-is_comma-clause-same c =
    let ends = sym (c.is_comma.ensures c.args.text.now) ∙ c.if-is_comma.true in
    let rest = lexemes_of c.args.text.now c.args.after.now in
    rw (c.in_ok-push.ensures.ok, comma_name c.args.name (lexeme_of c.args.text.now c.args.first.now) rest c.requires.more ends)
    (append_assoc c.args.names.now (c.args.name ∷ []) (names_from None rest))
