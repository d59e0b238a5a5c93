-- The bytes of a keyspace id.
use Rattle.std.specs.Prelude.{ℕ, List}
use Rattle.vindex.specs.declared.ksid.Ksid.{Ksid}
use Rattle.vindex.specs.declared.ksid.Ksid.TheVariants.{Eight, Sixteen, Key}

abbrev pub ksid_bytes : Ksid → List ℕ
ksid_bytes (Eight bytes) = bytes
ksid_bytes (Sixteen bytes) = bytes
ksid_bytes (Key bytes) = bytes.now
