use Rattle.sql_parser.proofs.PrintedStatements.{prints}
use Rattle.sql_parser.proofs.reading.print_reads.Goals as goal

pub returns : goal.returns
returns c = prints
