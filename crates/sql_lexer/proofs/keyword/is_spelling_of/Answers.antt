use Rattle.std.proofs.Common.{map, ◌∙◌}
use Rattle.std.specs.Str.{bytes_eq}
use Rattle.std.specs.Char.{to_ascii_lowercase}
use Rattle.std.proofs.lemmas.Bool.Decides.{same_from_decides}
use Rattle.std.proofs.lemmas.Slice.Eq.{bytes_eq-Decides}
use Rattle.sql_lexer.specs.Keywords.{keyword_text}
use Rattle.sql_lexer.proofs.Keywords.{same_case, all_upper}
use Rattle.sql_lexer.proofs.keyword.is_spelling_of.Goals as goal

pub returns : goal.returns
returns c =
    let word = map to_ascii_lowercase c.args.word.now in
    let text = map to_ascii_lowercase (keyword_text c.args.keyword) in
    let same = rw (c.as_bytes.ensures.value, c.text_of.ensures) at c.eq_ignore_ascii_case.ensures.test in
    same_from_decides c.eq_ignore_ascii_case.result (bytes_eq word text) same (bytes_eq-Decides word text)
    ∙ same_case c.args.word.now (keyword_text c.args.keyword) (all_upper c.args.keyword)
