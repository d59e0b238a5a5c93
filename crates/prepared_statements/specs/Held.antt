-- The statements that a connection has prepared.
use Rattle.std.specs.Prelude.{◌≡◌, ℕ, ◌+◌, ◌-◌, ◌<◌, ◌^◌, ◌==◌, List, [], ◌∷◌, ◌++◌, ◌≤◌, length, sum_by, Option, Some, None, if◌then◌else◌}
use Rattle.sql_lexer.specs.Value.{Value}
use Rattle.mysql_packet.specs.Numbers.{little_endian}
use Rattle.statement_values.specs.declared.ParameterType.{ParameterType}
use Rattle.statement_values.specs.Executions.{Executes}
use Rattle.prepared_statements.specs.declared.held.Prepared.{Prepared}
use Rattle.prepared_statements.specs.declared.held.Numbered.{Numbered}
use Rattle.prepared_statements.specs.declared.long_data.LongFault.{LongFault}
use Rattle.prepared_statements.specs.declared.long_data.LongFault.TheVariants.{OutOfMemory, TooLarge, Wrong}
use Rattle.prepared_statements.specs.Texts.{filled}
use Rattle.prepared_statements.specs.Holes.{no_long, put_long, all_long, NamesHole}

-- What a connection holds: its statements with their numbers, the oldest first, and the last number that it gave to one.
pub record HeldStatements : Type 0 where
  pub last : ℕ
  pub statements : List Numbered

abbrev pub none_held : HeldStatements
none_held = record { last = 0; statements = [] }

-- ---- by numbers

abbrev pub found_in : List Numbered → ℕ → Option Prepared
found_in [] n = None
found_in (s ∷ more) n = if s.number == n then Some s.statement else found_in more n

-- with another statement under a number that one has
abbrev pub changed_in : List Numbered → ℕ → Prepared → List Numbered
changed_in [] n q = []
changed_in (s ∷ more) n q = if s.number == n then record s { statement = q } ∷ more else s ∷ changed_in more n q

-- without the statement of a number
abbrev pub closed_in : List Numbered → ℕ → List Numbered
closed_in [] n = []
closed_in (s ∷ more) n = if s.number == n then more else s ∷ closed_in more n

abbrev pub held_at : HeldStatements → ℕ → Option Prepared
held_at held n = found_in held.statements n

abbrev pub held_with : HeldStatements → ℕ → Prepared → HeldStatements
held_with held n q = record held { statements = changed_in held.statements n q }

abbrev pub held_without : HeldStatements → ℕ → HeldStatements
held_without held n = record held { statements = closed_in held.statements n }

-- ---- how much is held

abbrev pub max_statements : ℕ
max_statements = 1024

-- the last number that there is
abbrev pub max_number : ℕ
max_number = 4294967295

-- What a text counts that is cut into these pieces: its bytes, and 32 for each piece, for what is kept beside them.
abbrev pub size_of : List (List ℕ) → ℕ
size_of pieces = sum_by (λ p. length p + 32) pieces

abbrev pub text_size : Numbered → ℕ
text_size s = size_of s.statement.pieces

-- what all texts count that are held
abbrev pub held_size : HeldStatements → ℕ
held_size held = sum_by text_size held.statements

-- the most that they may count: a payload's limit
abbrev pub max_size : ℕ
max_size = 1048576

-- A text isn't held beside these: with it they would count too much, as many are held as may be, or each number was given.
pub data IsFull (held : HeldStatements) (pieces : List (List ℕ)) : Type 0 where
  too_large : max_size < held_size held + size_of pieces → IsFull held pieces
  too_many : max_statements ≤ length held.statements → IsFull held pieces
  used_up : max_number ≤ held.last → IsFull held pieces

-- One more statement is held, under the number after the last one that was given. So no number comes again, nor that of a statement that was closed.
pub data AddsHeld (held : HeldStatements) (q : Prepared) : ℕ → HeldStatements → Type 0 where
  adds : AddsHeld held q (held.last + 1)
      (record { last = held.last + 1; statements = held.statements ++ record { number = held.last + 1; statement = q } ∷ [] })

-- ---- long data

abbrev pub statement_long : Numbered → ℕ
statement_long s = all_long s.statement.long

-- how many bytes of long data are held
abbrev pub held_long : HeldStatements → ℕ
held_long held = sum_by statement_long held.statements

-- a statement whose long data isn't taken: nothing that came is kept
abbrev pub without_long : Prepared → LongFault → Prepared
without_long q why = record q { long = no_long q.long; fault = Some why }

-- What becomes of a statement to which long data is sent, if there is so much room for that. What isn't taken is told when the statement is executed;
-- until then nothing more is taken.
pub data TakesLong (room : ℕ) (q : Prepared) (bytes : List ℕ) : Prepared → Type 0 where
  takes : {hole : ℕ} {more : List ℕ} → q.fault ≡ None → NamesHole q.long bytes hole more → length more ≤ room
      → TakesLong room q bytes (record q { long = put_long q.long hole more })
  too_large : {hole : ℕ} {more : List ℕ} → q.fault ≡ None → NamesHole q.long bytes hole more → room < length more
      → TakesLong room q bytes (without_long q TooLarge)
  wrong : q.fault ≡ None → ((hole : ℕ) (more : List ℕ) → NamesHole q.long bytes hole more → ⊥) → TakesLong room q bytes (without_long q Wrong)
  no_memory : q.fault ≡ None → TakesLong room q bytes (without_long q OutOfMemory)
  faulty : {fault : LongFault} → q.fault ≡ Some fault → TakesLong room q bytes q

-- The bytes of SEND_LONG_DATA begin with a number, whose statement takes the rest if there is one.
pub data LongHeld (held : HeldStatements) (bytes : List ℕ) : HeldStatements → Type 0 where
  long_held : {n : ℕ} {rest : List ℕ} {q after : Prepared} → n < 2 ^ 32 → bytes ≡ little_endian 4 n ++ rest → held_at held n ≡ Some q
      → TakesLong (max_size - held_long held) q rest after → LongHeld held bytes (held_with held n after)
  none : ((n : ℕ) (rest : List ℕ) (q : Prepared) → n < 2 ^ 32 → bytes ≡ little_endian 4 n ++ rest → held_at held n ≡ Some q → ⊥) → LongHeld held bytes held

-- ---- executions

-- A statement that was executed keeps the types that its values had, and no long data.
abbrev pub after_execution : Prepared → List ParameterType → Prepared
after_execution q types = record q { types = types; long = no_long q.long }

-- One that was reset, or whose execution was refused, has no long data, and none that wasn't taken.
abbrev pub after_reset : Prepared → Prepared
after_reset q = record q { long = no_long q.long; fault = None }

-- The bytes execute the statement, whose long data was taken, by values of these types, with which its text is this one.
pub record RunOf (q : Prepared) (bytes text : List ℕ) (types : List ParameterType) : Type 0 where
  pub values : List Value
  pub sound : q.fault ≡ None
  pub executes : Executes q.types q.long bytes types values
  pub is : text ≡ filled q.pieces values

-- The bytes of EXECUTE execute a statement: the text that is run then, and what is held after.
pub data RunsHeld (held : HeldStatements) : List ℕ → List ℕ → HeldStatements → Type 0 where
  runs : {n : ℕ} {rest text : List ℕ} {q : Prepared} {types : List ParameterType} → n < 2 ^ 32 → held_at held n ≡ Some q → RunOf q rest text types
      → RunsHeld held (little_endian 4 n ++ rest) text (held_with held n (after_execution q types))

-- What is held after bytes of EXECUTE that are refused: what came for their statement, if there is one, was for this execution.
pub data UsesHeld (held : HeldStatements) (bytes : List ℕ) : HeldStatements → Type 0 where
  uses : {n : ℕ} {rest : List ℕ} {q : Prepared} → n < 2 ^ 32 → bytes ≡ little_endian 4 n ++ rest → held_at held n ≡ Some q
      → UsesHeld held bytes (held_with held n (after_reset q))
  none : ((n : ℕ) (rest : List ℕ) (q : Prepared) → n < 2 ^ 32 → bytes ≡ little_endian 4 n ++ rest → held_at held n ≡ Some q → ⊥) → UsesHeld held bytes held

-- The bytes of EXECUTE begin with the number of a statement whose long data was more than there was room for.
pub data WasTooLarge (held : HeldStatements) : List ℕ → Type 0 where
  was_too_large : {n : ℕ} {rest : List ℕ} {q : Prepared} → n < 2 ^ 32 → held_at held n ≡ Some q → q.fault ≡ Some TooLarge
      → WasTooLarge held (little_endian 4 n ++ rest)

-- ---- preparing and closing

-- a statement of these pieces, whose values haven't come
abbrev pub newly_prepared : List (List ℕ) → List (Option (List ℕ)) → Prepared
newly_prepared pieces long = record { pieces = pieces; types = []; long = long; fault = None }

-- The bytes of CLOSE are a number, whose statement is given up if there is one.
pub data ClosesHeld (held : HeldStatements) (bytes : List ℕ) : HeldStatements → Type 0 where
  closes : {n : ℕ} → n < 2 ^ 32 → bytes ≡ little_endian 4 n → ClosesHeld held bytes (held_without held n)
  none : ((n : ℕ) → n < 2 ^ 32 → bytes ≡ little_endian 4 n → ⊥) → ClosesHeld held bytes held

-- The bytes of RESET are the number of a statement, whose long data is given up.
pub data ResetsHeld (held : HeldStatements) (bytes : List ℕ) : HeldStatements → Type 0 where
  resets : {n : ℕ} {q : Prepared} → n < 2 ^ 32 → bytes ≡ little_endian 4 n → held_at held n ≡ Some q → ResetsHeld held bytes (held_with held n (after_reset q))
