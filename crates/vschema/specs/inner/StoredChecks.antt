-- Whether a value that is stored in a column fails a check.
use Rattle.std.specs.Prelude.{Bool, not, ◌&&◌, ◌||◌, Option, Some, None, Result, Ok, Err}
use Rattle.vt_value.specs.declared.value.Value.{Value}
use Rattle.vt_value.specs.declared.refusal.Refusal.{Refusal}
use Rattle.vt_value.specs.Values.{is_null}
use Rattle.vschema_json.specs.declared.column.Column.{Column}
use Rattle.vschema.specs.declared.changes.Write.{Write}
use Rattle.vschema.specs.declared.write_checks.StoredCheck.{StoredCheck}
use Rattle.vschema.specs.declared.write_checks.StoredCheck.TheVariants.{OtherKind, WrongNull, OutOfRange, TooLong, Unfit}
use Rattle.vschema.specs.Checks.{is_text_type, value_is_text, differ}
use Rattle.vschema.specs.WriteChecks.{is_out_of_range, is_too_long}

abbrev pub fails : StoredCheck → Column × Value → Bool
fails OtherKind p = differ (Some (is_text_type p.0.kind)) (value_is_text p.1)
fails WrongNull p = is_null p.1 && not p.0.nullable
fails OutOfRange p = is_out_of_range p.0.kind p.1
fails TooLong p = is_too_long p.0.kind p.1
fails Unfit p = (is_null p.1 && not p.0.nullable) || is_out_of_range p.0.kind p.1 || is_too_long p.0.kind p.1

-- the refusal, or the write if there is none
abbrev pub unless : Option Refusal → Write → Result Write Refusal
unless None w = Ok w
unless (Some r) w = Err r
