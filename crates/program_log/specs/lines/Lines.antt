-- The text of a log line, in the form that is called logfmt: `time level event key=value ..`.
use Rattle.std.specs.Prelude.{◌≡◌, ℕ, ◌+◌, ◌/◌, ◌%◌, ◌==◌, nat_lt, nat_le, Bool, true, false, not, ◌&&◌, ◌||◌, if◌then◌else◌, List, [], ◌∷◌, ◌++◌, length, Option, Some, None, codes, flat_map}
use Rattle.std.specs.List.{list_all}
use Rattle.log.specs.declared.level.Level.{Level}
use Rattle.log.specs.declared.level.Level.TheVariants.{Error, Warn, Info, Debug, Trace}
use Rattle.log.specs.declared.record.Record.{Record}
use Rattle.log.specs.Kv.{Pair}
use Rattle.log.specs.Record.{metadata_level, record_metadata, record_args, record_key_values, record_spans}
use Rattle.log.specs.Span.{Scope}
use Rattle.jiff.specs.Types.{DateTime, Timestamp}
use Rattle.jiff.specs.Words.{civil_nanos, datetime_text}

-- a byte from 20 to 7E
abbrev pub is_visible : ℕ → Bool
is_visible b = nat_le 0x20 b && nat_le b 0x7E

-- a hexadecimal digit
abbrev pub low_digit : ℕ → ℕ
low_digit n = if nat_lt n 10 then 0x30 + n else 0x57 + n

-- a byte between quotes: a quote or a backslash has a backslash before it, and a byte outside 20 to 7E is `\u00` and two digits
abbrev pub shown_byte : ℕ → List ℕ
shown_byte b =
    if not (is_visible b) then 0x5C ∷ 0x75 ∷ 0x30 ∷ 0x30 ∷ low_digit (b / 16 % 16) ∷ low_digit (b % 16) ∷ []
    else (if (b == 0x22) || (b == 0x5C) then 0x5C ∷ b ∷ [] else b ∷ [])

-- a byte that a word may have without quotes: visible, and no blank, quote, `=` or backslash
abbrev pub stands_bare : ℕ → Bool
stands_bare b = is_visible b && not (b == 0x20) && not (b == 0x22) && not (b == 0x3D) && not (b == 0x5C)

-- a text that is a word without quotes
abbrev pub is_bare_word : List ℕ → Bool
is_bare_word text = not (length text == 0) && list_all stands_bare text

-- a text as one word: as it is, or between quotes
abbrev pub log_word : List ℕ → List ℕ
log_word text = if is_bare_word text then text else 0x22 ∷ flat_map shown_byte text ++ 0x22 ∷ []

-- ` key=value`
abbrev pub log_field : Pair → List ℕ
log_field (key, value) = 0x20 ∷ log_word key ++ 0x3D ∷ log_word value

abbrev pub level_text : Level → List ℕ
level_text Error = codes "error"
level_text Warn = codes "warn"
level_text Info = codes "info"
level_text Debug = codes "debug"
level_text Trace = codes "trace"

-- `time level event`
abbrev pub log_head : List ℕ → List ℕ → List ℕ → List ℕ
log_head time level event = log_word time ++ 0x20 ∷ log_word level ++ 0x20 ∷ log_word event

-- what a line tells besides its time
pub record LogEntry : Type 0 where
  pub level : Level
  pub event : List ℕ
  pub fields : List Pair

abbrev pub log_line : List ℕ → LogEntry → List ℕ
log_line time e = log_head time (level_text e.level) e.event ++ flat_map log_field e.fields ++ 0x0A ∷ []

-- the bytes are one line: the break stands at their end, and each other byte is visible
abbrev pub IsOneLine : List ℕ → Type 0
IsOneLine bytes = (text : List ℕ) × (bytes ≡ text ++ 0x0A ∷ []) × (list_all is_visible text ≡ true)

-- an instant's time in UTC with milliseconds, as RFC 3339 has it: `2026-11-27T22:46:05.120Z`
abbrev pub IsTimeText : Timestamp → List ℕ → Type 0
IsTimeText t time = (d : DateTime) × (civil_nanos d ≡ t.nanosecond) × (time ≡ datetime_text false 84 (Some 3) d ++ 90 ∷ [])

-- the bytes are the line that tells the entry at this instant
abbrev pub TellsAt : Timestamp → LogEntry → List ℕ → Type 0
TellsAt t e bytes = (time : List ℕ) × IsTimeText t time × (bytes ≡ log_line time e)

-- the fields of all spans, from the outermost on
abbrev pub span_pairs : List Scope → List Pair
span_pairs scopes = flat_map (λ (s : Scope). s.1) scopes

-- an entry whose parts are all known: the fields of the spans stand before those of the record
abbrev pub known_entry : Level → Option (List ℕ) → Option (List Scope) → Option (List Pair) → Option LogEntry
known_entry level None scopes pairs = None
known_entry level (Some event) None pairs = None
known_entry level (Some event) (Some scopes) None = None
known_entry level (Some event) (Some scopes) (Some pairs) =
    Some (record { level = level; event = event; fields = span_pairs scopes ++ pairs })

module _ {D K S : Type 0} where
  -- what a record tells, if the texts of its values are known; the first three arguments are the members of `D`, `K` and `S`
  abbrev pub recorded_entry : (D → Option (List ℕ)) → (K → Option (List Pair)) → (S → Option (List Scope)) → Record D K S → Option LogEntry
  recorded_entry output pairs scopes r =
      known_entry (metadata_level (record_metadata r)) (output (record_args r)) (scopes (record_spans r)) (pairs (record_key_values r))
