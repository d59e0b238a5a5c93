-- INSERT, UPDATE and DELETE on the tables t, b and u: what they mean, or their first refusals.
use Rattle.std.proofs.Common.{ℕ, List, [], ◌∷◌, ◌≡◌, refl, Option, Some, None, Ok, Err, pos, negsuc, true, false, rules}
use Rattle.std.specs.Prelude.{codes}
use Rattle.vt_value.specs.declared.value.Value.{Value}
use Rattle.vt_value.specs.declared.value.Value.TheVariants.{Null, Int, Bytes}
use Rattle.vt_value.specs.declared.value.Comparison.TheVariants.{Eq}
use Rattle.vt_value.specs.declared.refusal.Refusal.TheVariants.{UnknownTable, ColumnNamedTwice, WrongValueCount, UnknownColumn, NotSupported, NoDefaultValue, NullNotAllowed, OutOfRange, TooLong}
use Rattle.sql_tree.specs.declared.Operand.TheVariants.{Column, Literal}
use Rattle.sql_tree.specs.declared.Condition.{Condition, Compare, the_lemmas}
use Rattle.sql_tree.specs.declared.Insert as I
use Rattle.sql_tree.specs.declared.Update as U
use Rattle.vschema.specs.declared.changes.Write.TheVariants.{Insert, Update, Delete}
use Rattle.sql_tree.specs.declared.ColumnName.{ColumnName}
use Rattle.vschema.specs.Resolved.{Name}
use Rattle.vschema.specs.TypedWrites.{typed_insert, typed_update, typed_delete, IsTypedWrite}
use Rattle.vschema.specs.TypedWrites as typed
use Rattle.vschema.specs.Storable.{is_storable, has_unique_keys}
use Rattle.vschema.specs.WellFormed.{is_vschema, is_formed}
use Rattle.vschema.proofs.Example.{schema, t}

abbrev n : ℕ → Value
n k = Int (pos k)

abbrev insert : List Name → List Value → I.Insert
insert names values = record { table = codes "t"; columns = Some names; rows = values ∷ [] }

-- INSERT INTO t (id, id) VALUES (1)
twice : typed_insert schema (insert (codes "id" ∷ codes "id" ∷ []) (n 1 ∷ [])) ≡ Err ColumnNamedTwice
twice = refl

-- INSERT INTO t (id, zz) VALUES (1), and with a value for each
wrong_count : typed_insert schema (insert (codes "id" ∷ codes "zz" ∷ []) (n 1 ∷ [])) ≡ Err WrongValueCount
wrong_count = refl

unknown_column : typed_insert schema (insert (codes "id" ∷ codes "zz" ∷ []) (n 1 ∷ Null ∷ [])) ≡ Err UnknownColumn
unknown_column = refl

-- INSERT INTO t (id) VALUES ('x')
other_kind : typed_insert schema (insert (codes "id" ∷ []) (Bytes (codes "x") ∷ [])) ≡ Err NotSupported
other_kind = refl

-- INSERT INTO t (c) VALUES (1)
no_default : typed_insert schema (insert (codes "c" ∷ []) (n 1 ∷ [])) ≡ Err NoDefaultValue
no_default = refl

-- INSERT INTO t (id) VALUES (NULL)
null_key : typed_insert schema (insert (codes "id" ∷ []) (Null ∷ [])) ≡ Err NullNotAllowed
null_key = refl

-- INSERT INTO t (id) VALUES (-1), and of 2 ^ 64
below_range : typed_insert schema (insert (codes "id" ∷ []) (Int (negsuc 0) ∷ [])) ≡ Err OutOfRange
below_range = refl

above_range : typed_insert schema (insert (codes "id" ∷ []) (n 18446744073709551616 ∷ [])) ≡ Err OutOfRange
above_range = refl

-- INSERT INTO u VALUES (1, '33 bytes')
too_long :
    typed_insert schema (record {
      table = codes "u";
      columns = None;
      rows = (n 1 ∷ Bytes (codes "abcdefghijklmnopqrstuvwxyz0123456") ∷ []) ∷ [];
    })
    ≡ Err TooLong
too_long = refl

unknown_table : typed_insert schema (record { table = codes "x"; columns = None; rows = [] }) ≡ Err UnknownTable
unknown_table = refl

-- INSERT INTO t (c, id) VALUES (7, 2): the whole row in the table's order
taken :
    typed_insert schema (insert (codes "c" ∷ codes "id" ∷ []) (n 7 ∷ n 2 ∷ []))
    ≡ Ok (Insert 0 ((n 2 ∷ n 7 ∷ []) ∷ []))
taken = refl

-- INSERT INTO t (id) VALUES (2): NULL in the column that isn't named
filled_up : typed_insert schema (insert (codes "id" ∷ []) (n 2 ∷ [])) ≡ Ok (Insert 0 ((n 2 ∷ Null ∷ []) ∷ []))
filled_up = refl

is_meant : IsTypedWrite schema (Insert 0 ((n 2 ∷ Null ∷ []) ∷ []))
is_meant = typed.insert (insert (codes "id" ∷ []) (n 2 ∷ [])) refl

-- id = 5
abbrev bare : Name → ColumnName
bare name = record { table = None; name = name }

abbrev id_is_5 : Option (Condition ColumnName)
id_is_5 = Some (Compare Eq (Column (bare (codes "id"))) (Literal (n 5)))

abbrev update : List Name → Value → Option (Condition ColumnName) → U.Update
update names value filter' = record {
  table = codes "t";
  assignments = Rattle.std.proofs.Common.map (λ name. record { column = name; value = value }) names;
  filter = filter';
}

-- UPDATE t SET c = 1, c = 1
set_twice : typed_update schema (update (codes "c" ∷ codes "c" ∷ []) (n 1) None) ≡ Err ColumnNamedTwice
set_twice = refl

-- UPDATE t SET c = 1, zz = 1
set_unknown : typed_update schema (update (codes "c" ∷ codes "zz" ∷ []) (n 1) None) ≡ Err UnknownColumn
set_unknown = refl

-- UPDATE t SET id = 4: a key is never set
set_key : typed_update schema (update (codes "id" ∷ []) (n 4) None) ≡ Err NotSupported
set_key = refl

-- UPDATE t SET c = 'x'
set_text : typed_update schema (update (codes "c" ∷ []) (Bytes (codes "x")) None) ≡ Err NotSupported
set_text = refl

-- UPDATE t SET c = -1
set_below_range : typed_update schema (update (codes "c" ∷ []) (Int (negsuc 0)) None) ≡ Err OutOfRange
set_below_range = refl

-- UPDATE t SET c = 7 WHERE id = 5
set_one :
    typed_update schema (update (codes "c" ∷ []) (n 7) id_is_5)
    ≡ Ok (Update 0 (record { column = 1; value = n 7 } ∷ []) (Some (Compare Eq (Column 0) (Literal (n 5)))))
set_one = search (rules, the_lemmas)

-- DELETE FROM t WHERE id = 5, and FROM u, which has no such column
deleted :
    typed_delete schema (record { table = codes "t"; filter = id_is_5 })
    ≡ Ok (Delete 0 (Some (Compare Eq (Column 0) (Literal (n 5)))))
deleted = search (rules, the_lemmas)

delete_unknown : typed_delete schema (record { table = codes "u"; filter = id_is_5 }) ≡ Err UnknownColumn
delete_unknown = search (rules, the_lemmas)

-- DELETE FROM t WHERE id = 'x'
delete_mixed :
    typed_delete schema (record {
      table = codes "t";
      filter = Some (Compare Eq (Column (bare (codes "id"))) (Literal (Bytes (codes "x"))));
    })
    ≡ Err NotSupported
delete_mixed = search (rules, the_lemmas)

-- rows that t may hold, and some that it may not
row_fits : is_storable t (n 1 ∷ Null ∷ []) ≡ true
row_fits = refl

null_id_fits_not : is_storable t (Null ∷ n 1 ∷ []) ≡ false
null_id_fits_not = refl

short_row_fits_not : is_storable t (n 1 ∷ []) ≡ false
short_row_fits_not = refl

two_keys : has_unique_keys t ((n 1 ∷ Null ∷ []) ∷ (n 2 ∷ Null ∷ []) ∷ []) ≡ true
two_keys = refl

one_key_twice : has_unique_keys t ((n 1 ∷ Null ∷ []) ∷ (n 1 ∷ n 7 ∷ []) ∷ []) ≡ false
one_key_twice = refl

well_formed : is_vschema schema ≡ true
well_formed = refl

-- a table of a sharded keyspace has a vindex
without_vindex :
    is_formed schema.keyspaces (record t { vindex = None } ∷ []) ≡ false
without_vindex = refl
