use Rattle.std.proofs.Common.{◌≡◌, ℕ, List, ◌++◌, ◌∷◌, sym, subst}
use Rattle.std.proofs.lemmas.Str.{IsUtf8-from_ascii}
use Rattle.vtgate_lines.proofs.Blanks.{AreAscii, lists_ascii}
use Rattle.vtgate_lines.proofs.admin_lines.read_create.Goals as goal

pub returns-in_default-from_utf8-clause-none : goal.returns-in_default-from_utf8-clause-none
returns-in_default-from_utf8-clause-none c = λ sources targets is.
    let split = rw c.in-Some.is at c.bytes_after.ensures in
    let written = is.written in
    let lists : c.in-Some.lists.now ≡ is.from ++ (32 ∷ is.into) = cc (split, written) in
    let ascii = subst (λ (t : List ℕ). AreAscii t) (sym lists) (lists_ascii is.from is.into sources targets is.named is.replaced_by) in
    let cases = rw c.in_default-from_utf8.is at c.from_utf8.ensures.cases in
    cases.0 (IsUtf8-from_ascii c.in-Some.lists.now ascii)
