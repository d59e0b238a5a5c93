-- The bytes of a name, lent or its own.
use Rattle.std.specs.Prelude.{ℕ, List}
use Rattle.resultset.specs.declared.text.Holding.{Holding}
use Rattle.resultset.specs.declared.text.Holding.TheVariants.{Lent, Own}

abbrev pub bytes_in : Holding → List ℕ
bytes_in (Lent bytes) = bytes.now
bytes_in (Own bytes) = bytes
