-- The salt that a server greets a connection with.
use Rattle.std.specs.Prelude.{ℕ, ◌+◌, ◌%◌, List, ◌++◌, map}
use Rattle.std.specs.Int.{to_be_bytes, w64}
use Rattle.sha1.specs.Sha1.{sha1}

-- one of the 94 bytes from `!` to `~`
abbrev pub printable : ℕ → ℕ
printable b = 33 + b % 94

-- SHA-1 over the nonce and the connection's number in 8 bytes, the highest first, as printable bytes
abbrev pub salt_of : List ℕ → ℕ → List ℕ
salt_of nonce number = map printable (sha1 (nonce ++ to_be_bytes w64 number))
