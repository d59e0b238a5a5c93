use Rattle.std.proofs.Common.{◌≡◌, ◌≤◌, drop}
use Rattle.std.specs.List.{list_all}
use Rattle.sql_tree.specs.Lexemes.{is_digit, digits_onto}
use Rattle.vschema_json.proofs.parts.size.Given as goal

abbrev pub invariant-loop-digit : goal.invariant-loop-digit
invariant-loop-digit l =
    (list_all is_digit (drop l.digit-index l.digits) ≡ list_all is_digit l.digits) × (digits_onto l.size (drop l.digit-index l.digits) ≡ digits_onto 0 l.digits) × (l.size ≤ 255)
