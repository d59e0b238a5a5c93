-- What a reader has left, read by read.
use Rattle.std.proofs.Common.{ℕ, List, [], Option}
use Rattle.std.specs.Io.KnownBytes.{Consumes, Keeps}
use Rattle.std.proofs.KnownBytes.{Consumes-nil, Consumes-kept, Consumes-trans}

-- reads that took none, and one that took these
pub kept_read : (a b c : Option (List ℕ)) (bytes : List ℕ) → Keeps a b → Consumes b c bytes → Consumes a c bytes
kept_read a b c bytes kept read = Consumes-trans a b c [] bytes (Consumes-kept a a b [] (Consumes-nil a) kept) read
