use Rattle.std.proofs.Common.{map}
use Rattle.std.specs.Str.{bytes_eq}
use Rattle.std.specs.Char.{to_ascii_lowercase}
use Rattle.std.proofs.lemmas.Bool.Decides.{same_from_decides}
use Rattle.std.proofs.lemmas.Slice.Eq.{bytes_eq-Decides}
use Rattle.client_statements.proofs.tokens.keyword.same_in_any_case.Goals as goal

pub returns : goal.returns
returns c =
    let word = map to_ascii_lowercase c.args.word.now in
    let other = map to_ascii_lowercase c.args.other.now in
    same_from_decides c.eq_ignore_ascii_case.result (bytes_eq word other) c.eq_ignore_ascii_case.ensures.test (bytes_eq-Decides word other)
