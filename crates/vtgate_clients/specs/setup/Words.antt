-- A word of a command line.
use Rattle.std.specs.Prelude.{ℕ, List, Option, Some, None}
use Rattle.std.specs.String.{string_bytes}
use Rattle.vtgate_clients.specs.declared.setup.word.Word.{Word}
use Rattle.vtgate_clients.specs.declared.setup.word.Word.TheVariants.{Text, Bytes}

-- its bytes
abbrev pub word_bytes : Word → List ℕ
word_bytes (Text text) = string_bytes text
word_bytes (Bytes bytes) = bytes.items

-- the same, if it is UTF-8
abbrev pub word_text : Word → Option (List ℕ)
word_text (Text text) = Some (string_bytes text)
word_text (Bytes bytes) = None
