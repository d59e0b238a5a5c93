-- The payload of COM_STMT_EXECUTE after its byte and the statement's number: the values of the statement's holes.
use Rattle.std.specs.Prelude.{◌≡◌, ℕ, suc, ◌+◌, ◌<◌, ◌/◌, ◌%◌, ◌^◌, ◌==◌, Bool, true, false, List, [], ◌∷◌, ◌++◌, length, slice_index, Option, Some, None, Result, MatchResult, ◌⊎◌}
use Rattle.vt_value.specs.declared.value.Value.{Value}
use Rattle.vt_value.specs.declared.value.Value.TheVariants.{Null, Bytes}
use Rattle.statement_values.specs.declared.ParameterType.{ParameterType}
use Rattle.statement_values.specs.declared.unread.Unread.{Unread}
use Rattle.statement_values.specs.declared.unread.Unread.TheVariants.{OutOfMemory, NotSupported}
use Rattle.statement_values.specs.Values.{Spells, SpellsOther, type_named}

-- The bit of a hole in the bitmap: the lowest bit of the first byte is the first hole's.
abbrev pub has_bit : List ℕ → ℕ → Bool
has_bit bitmap n = slice_index bitmap (n / 8) / 2 ^ (n % 8) % 2 == 1

-- A hole's value: the long data that came before, if any did, whatever its bit says; NULL if its bit says so; or what the bytes spell by its type.
pub data BindsHole : Bool → Option (List ℕ) → ParameterType → List ℕ → Value → Type 0 where
  null : {t : ParameterType} → BindsHole true None t [] Null
  long : {is_null : Bool} {content : List ℕ} {t : ParameterType} → BindsHole is_null (Some content) t [] (Bytes content)
  sent : {t : ParameterType} {bytes : List ℕ} {v : Value} → Spells t bytes v → BindsHole false None t bytes v

-- the values of all holes from one on, whose bytes are these and no more
pub data Binds (bitmap : List ℕ) : ℕ → List (Option (List ℕ)) → List ParameterType → List ℕ → List Value → Type 0 where
  end : {n : ℕ} → Binds bitmap n [] [] [] []
  next : {n : ℕ} {sent : Option (List ℕ)} {long : List (Option (List ℕ))} {t : ParameterType} {types : List ParameterType} {front rest : List ℕ} {v : Value}
      {values : List Value} → BindsHole (has_bit bitmap n) sent t front v → Binds bitmap (n + 1) long types rest values
      → Binds bitmap n (sent ∷ long) (t ∷ types) (front ++ rest) (v ∷ values)

-- A hole's bytes have the form of its type, and spell no value that is taken.
pub data HoleIsOther : Bool → Option (List ℕ) → ParameterType → List ℕ → Type 0 where
  hole_is_other : {t : ParameterType} {bytes : List ℕ} → SpellsOther t bytes → HoleIsOther false None t bytes

-- that of a hole from one on, before which each has its value
pub data HoldsOther (bitmap : List ℕ) : ℕ → List (Option (List ℕ)) → List ParameterType → List ℕ → Type 0 where
  here : {n : ℕ} {sent : Option (List ℕ)} {long : List (Option (List ℕ))} {t : ParameterType} {types : List ParameterType} {front : List ℕ}
      (rest : List ℕ) → HoleIsOther (has_bit bitmap n) sent t front → HoldsOther bitmap n (sent ∷ long) (t ∷ types) (front ++ rest)
  later : {n : ℕ} {sent : Option (List ℕ)} {long : List (Option (List ℕ))} {t : ParameterType} {types : List ParameterType} {front rest : List ℕ} {v : Value}
      → BindsHole (has_bit bitmap n) sent t front v → HoldsOther bitmap (n + 1) long types rest → HoldsOther bitmap n (sent ∷ long) (t ∷ types) (front ++ rest)

-- so many types, of two bytes each, and the bytes after them
pub data TellsTypes : ℕ → List ℕ → List ParameterType → List ℕ → Type 0 where
  none : {bytes : List ℕ} → TellsTypes 0 bytes [] bytes
  more : {n t flags : ℕ} {bytes rest : List ℕ} {type : ParameterType} {types : List ParameterType} → type_named t flags ≡ Some type
      → TellsTypes n bytes types rest → TellsTypes (suc n) (t ∷ flags ∷ bytes) (type ∷ types) rest

-- The types that hold, by those that held before: a byte 0 keeps them, and after a byte 1 they are told anew; and the bytes after that.
pub data HoldTypes (kept : List ParameterType) (holes : ℕ) : List ℕ → List ParameterType → List ℕ → Type 0 where
  kept_on : {rest : List ℕ} → HoldTypes kept holes (0x00 ∷ rest) kept rest
  anew : {bytes rest : List ℕ} {types : List ParameterType} → TellsTypes holes bytes types rest → HoldTypes kept holes (0x01 ∷ bytes) types rest

-- the types of so many holes are told, and one of them isn't taken
pub record TellsForeign (holes : ℕ) (bytes : List ℕ) : Type 0 where
  pub before : ℕ
  pub types : List ParameterType
  pub named : ℕ
  pub flags : ℕ
  pub rest : List ℕ
  pub few : before < holes
  pub tells : TellsTypes before bytes types (named ∷ flags ∷ rest)
  pub foreign : type_named named flags ≡ None

-- after the NULL bitmap such types are told anew
pub record PartsForeign (holes : ℕ) (bytes : List ℕ) : Type 0 where
  pub bitmap : List ℕ
  pub told : List ℕ
  pub parts : bytes ≡ bitmap ++ 0x01 ∷ told
  pub size : length bitmap ≡ (holes + 7) / 8
  pub tells : TellsForeign holes told

-- no cursor is asked for, and the statement is executed once
abbrev pub once : List ℕ
once = 0x00 ∷ 0x01 ∷ 0x00 ∷ 0x00 ∷ 0x00 ∷ []

-- the NULL bitmap, the types and the values, with these types and values
pub record Parts (kept : List ParameterType) (long : List (Option (List ℕ))) (bytes : List ℕ) (types : List ParameterType) (values : List Value) : Type 0 where
  pub bitmap : List ℕ
  pub told : List ℕ
  pub rest : List ℕ
  pub parts : bytes ≡ bitmap ++ told
  pub size : length bitmap ≡ (length long + 7) / 8
  pub hold : HoldTypes kept (length long) told types rest
  pub bind : Binds bitmap 0 long types rest values

-- The bytes execute a statement for whose holes this long data came, with these types and values. Without holes nothing more is sent.
pub data Executes (kept : List ParameterType) (long : List (Option (List ℕ))) : List ℕ → List ParameterType → List Value → Type 0 where
  without : long ≡ [] → Executes kept long once kept []
  with_values : {bytes : List ℕ} {types : List ParameterType} {values : List Value} → Parts kept long bytes types values → Executes kept long (once ++ bytes) types values

-- the NULL bitmap, the types, and values of which one isn't taken
pub record PartsOther (kept : List ParameterType) (long : List (Option (List ℕ))) (bytes : List ℕ) : Type 0 where
  pub bitmap : List ℕ
  pub told : List ℕ
  pub types : List ParameterType
  pub rest : List ℕ
  pub parts : bytes ≡ bitmap ++ told
  pub size : length bitmap ≡ (length long + 7) / 8
  pub hold : HoldTypes kept (length long) told types rest
  pub other : HoldsOther bitmap 0 long types rest

-- The bytes ask for what isn't taken: a cursor, a value of another type, or a number that isn't whole.
pub data IsNotSupported (kept : List ParameterType) (long : List (Option (List ℕ))) : List ℕ → Type 0 where
  cursor : {flags : ℕ} {rest : List ℕ} → (flags ≡ 0 → ⊥) → IsNotSupported kept long (flags ∷ rest)
  foreign : {parts : List ℕ} → PartsForeign (length long) parts → IsNotSupported kept long (once ++ parts)
  other : {parts : List ℕ} → PartsOther kept long parts → IsNotSupported kept long (once ++ parts)

-- they are refused as not supported, or a growth was
abbrev pub IsRefusedSo : {A : Type 0} → Result A Unread → Type 0
IsRefusedSo result = MatchResult result (λ x. ⊥) (λ e. (e ≡ OutOfMemory) ⊎ (e ≡ NotSupported))
