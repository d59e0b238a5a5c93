-- The query that a shard is asked: the plan's, or one that was made for it.
use Rattle.std.specs.Prelude.{Option, None, Some}
use Rattle.vschema.specs.declared.schema.Query.{Query}

abbrev pub query_in : Query → Option Query → Query
query_in whole None = whole
query_in whole (Some own) = own
