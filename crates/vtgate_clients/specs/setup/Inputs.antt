-- What a run reads of its VSchema.
use Rattle.std.specs.Prelude.{◌≡◌, ℕ, List, Option, Ok}
use Rattle.std.specs.Io.KnownBytes.{Consumes, IsAtEnd}
use Rattle.vschema.specs.declared.schema.VSchema.{VSchema}
use Rattle.vschema.specs.Meant.{contents, schema_read}

-- the bytes that a device has left or has taken, if they are known
abbrev pub Known : Type 0
Known = Option (List ℕ)

-- the input was read to its end, and declares the VSchema
pub record HasDeclared (unread rest : Known) (schema : VSchema) : Type 0 where
  pub text : List ℕ
  pub consumed : Consumes unread rest text
  pub end : IsAtEnd rest
  pub declared : schema_read text ≡ Ok (contents schema)
