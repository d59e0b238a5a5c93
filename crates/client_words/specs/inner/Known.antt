-- The tables that a text names, by what was found.
use Rattle.std.specs.Option.{option_copied}
use Rattle.client_words.specs.Numbers as n
use Rattle.client_words.specs.declared.columns.Known.{Known}

abbrev pub known_of : Known → n.Known
known_of x = record { first = option_copied x.first; second = option_copied x.second }
