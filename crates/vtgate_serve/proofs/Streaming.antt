-- What a stream has left and has taken, after tries that moved nothing.
use Rattle.std.proofs.Common.{◌≡◌, ℕ, List, [], Option, Some, None, ◌∙◌, append-nil, sym}
use Rattle.std.specs.Io.KnownBytes.{Appends, Consumes, Keeps}
use Rattle.std.proofs.KnownBytes.{Appends-trans, Consumes-nil, Consumes-kept, Consumes-trans}

abbrev Known : Type 0
Known = Option (List ℕ)

pub kept_on : (a b c : Known) → Keeps a b → Keeps b c → Keeps a c
kept_on None b c first then = tt
kept_on (Some xs) None c first then = absurd first
kept_on (Some xs) (Some ys) None first then = absurd then
kept_on (Some xs) (Some ys) (Some zs) first then = then ∙ first

pub kept_read : (a b c : Known) (bytes : List ℕ) → Keeps a b → Consumes b c bytes → Consumes a c bytes
kept_read a b c bytes kept read = Consumes-trans a b c [] bytes (Consumes-kept a a b [] (Consumes-nil a) kept) read

none_more : (a b : Known) → Keeps a b → Appends a b []
none_more None b kept = tt
none_more (Some xs) None kept = absurd kept
none_more (Some xs) (Some ys) kept = kept ∙ sym (append-nil xs)

pub kept_write : (a b c : Known) (bytes : List ℕ) → Keeps a b → Appends b c bytes → Appends a c bytes
kept_write a b c bytes kept more = Appends-trans a b c [] bytes (none_more a b kept) more
