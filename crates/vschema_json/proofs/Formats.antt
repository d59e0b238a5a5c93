-- What is known of the keyspaces that a JSON value declares: words, types, and each name once.
use Rattle.std.proofs.Common.{◌≡◌, ℕ, ◌-◌, ◌*◌, ◌+◌, ◌≤◌, List, [], ◌∷◌, map, codes, Option, Some, None, option_map, option_and_then, unwrap_or, Bool, true, false, true≢false, ◌&&◌, nat_le, bytes_eq, refl, sym, ap, ◌∙◌, arith, if◌then◌else◌}
use Rattle.std.proofs.lemmas.Bool.Decides.{nat_tests}
use Rattle.std.specs.List.{list_all}
use Rattle.serde_json.specs.Data.{Data}
use Rattle.serde_json.specs.Find.{get, as_bool, as_str, as_array, as_object}
use Rattle.sql_tree.specs.Lexemes.{is_word, is_digit, digits_onto}
use Rattle.vschema_json.specs.declared.column.Column.{Column}
use Rattle.vschema_json.specs.declared.column.ColumnType.{ColumnType}
use Rattle.vschema_json.specs.declared.column.ColumnType.TheVariants.{BigInt, BigIntUnsigned, VarBinary}
use Rattle.vschema_json.specs.declared.document.DeclaredVindex.{DeclaredVindex}
use Rattle.vschema_json.specs.declared.document.DeclaredKey.{DeclaredKey}
use Rattle.vschema_json.specs.declared.document.DeclaredTable.{DeclaredTable}
use Rattle.vschema_json.specs.declared.document.DeclaredKeyspace.{DeclaredKeyspace}
use Rattle.sql_tree.specs.Literals.{Name}
use Rattle.vschema_json.specs.Json.{all_some, array_of, object_of, elements, named_values, members_in, has_only, needed_member, optional}
use Rattle.vschema_json.specs.Documents.{if_word, word, begins_above_zero, column_length, varbinary, rest_after, before, column_type, column_from, column, key, table_from, table, vindex, keyspace_from, keyspace, document}
use Rattle.vschema_json.specs.ColumnTypes.{is_type}
use Rattle.vschema_json.specs.Twice.{has_twice}
use Rattle.vschema_json.proofs.Options.{some_same, never, bound, mapped, tested, both, join, all_pass, all_same}
use Rattle.vschema_json.proofs.Sizes.{digits_grow}

-- a declared column, table and keyspace with names and types that may be
abbrev pub good_column : Column → Bool
good_column c = is_word c.name && is_type c.kind

abbrev pub good_table : DeclaredTable → Bool
good_table t = is_word t.name && list_all good_column t.columns

abbrev pub good_keyspace : DeclaredKeyspace → Bool
good_keyspace k = is_word k.name && list_all good_table k.tables

word_if : (s name : Name) → if_word s ≡ Some name → is_word name ≡ true
word_if s name e = let t = tested (is_word s) (Some s) name e in ap is_word (sym (some_same s name t.1)) ∙ t.0

word_good : (d : Data) (name : Name) → word d ≡ Some name → is_word name ≡ true
word_good d name e = let s = bound (as_str d) if_word name e in word_if s.0 name s.2

above_zero : (digits : List ℕ) → begins_above_zero digits ≡ true → list_all is_digit digits ≡ true → 1 ≤ digits_onto 0 digits
above_zero [] b all = absurd (true≢false (sym b))
above_zero (d ∷ digits) b all =
    let first : is_digit d ≡ true = (both (is_digit d) (list_all is_digit digits) all).0 in
    let large : 49 ≤ d = grind (arith, nat_tests) in
    omega (arith, digits_grow (0 * 10 + (d - 48)) digits, large)

size_good : (digits : List ℕ) (n : ℕ) → column_length digits ≡ Some n → nat_le 1 n && nat_le n 255 ≡ true
size_good digits n e =
    let t = tested (begins_above_zero digits && list_all is_digit digits && nat_le (digits_onto 0 digits) 255) (Some (digits_onto 0 digits)) n e in
    let most = both (begins_above_zero digits && list_all is_digit digits) (nat_le (digits_onto 0 digits) 255) t.0 in
    let all = both (begins_above_zero digits) (list_all is_digit digits) most.0 in
    let is : digits_onto 0 digits ≡ n = some_same (digits_onto 0 digits) n t.1 in
    let least = above_zero digits all.0 all.1 in
    ap (λ m. nat_le 1 m && nat_le m 255) (sym is) ∙ join (grind (arith, nat_tests)) most.1

varbinary_good : (text : List ℕ) (kind : ColumnType) → varbinary text ≡ Some kind → is_type kind ≡ true
varbinary_good text kind e =
    let inside = option_and_then (before (codes ")")) (rest_after (codes "VARBINARY(") text) in
    let m = mapped (option_and_then column_length inside) VarBinary kind e in
    let s = bound inside column_length m.0 m.1 in
    ap is_type (sym m.2) ∙ size_good s.0 m.0 s.2

type_of : (a b : Bool) (o : Option ColumnType) (kind : ColumnType) → ((k : ColumnType) → o ≡ Some k → is_type k ≡ true)
    → (if a then Some BigInt else if b then Some BigIntUnsigned else o) ≡ Some kind → is_type kind ≡ true
type_of true b o kind others e = ap is_type (sym (some_same BigInt kind e))
type_of false true o kind others e = ap is_type (sym (some_same BigIntUnsigned kind e))
type_of false false o kind others e = others kind e

type_good : (text : List ℕ) (kind : ColumnType) → column_type text ≡ Some kind → is_type kind ≡ true
type_good text kind e =
    type_of (bytes_eq text (codes "BIGINT")) (bytes_eq text (codes "BIGINT UNSIGNED")) (varbinary text) kind (varbinary_good text) e

column_parts : (a : Option Name) (b : Option ColumnType) (n : Option (Option Bool)) (c : Column) → ((name : Name) → a ≡ Some name → is_word name ≡ true)
    → ((kind : ColumnType) → b ≡ Some kind → is_type kind ≡ true) → column_from a b n ≡ Some c → good_column c ≡ true
column_parts None b n c named typed e = never c e
column_parts (Some name) None n c named typed e = never c e
column_parts (Some name) (Some kind) None c named typed e = never c e
column_parts (Some name) (Some kind) (Some null) c named typed e =
    ap good_column (sym (some_same (record { name = name; kind = kind; nullable = unwrap_or null false }) c e)) ∙ join (named name refl) (typed kind refl)

needed_word : (member : List ℕ) (d : Data) (name : Name) → needed_member word member d ≡ Some name → is_word name ≡ true
needed_word member d name e = let v = bound (get member d) word name e in word_good v.0 name v.2

abbrev typed : Data → Option ColumnType
typed d = option_and_then column_type (as_str d)

needed_type : (member : List ℕ) (d : Data) (kind : ColumnType) → needed_member typed member d ≡ Some kind → is_type kind ≡ true
needed_type member d kind e =
    let v = bound (get member d) typed kind e in
    let s = bound (as_str v.0) column_type kind v.2 in
    type_good s.0 kind s.2

column_good : (d : Data) (c : Column) → column d ≡ Some c → good_column c ≡ true
column_good d c e =
    let t = tested (has_only (codes "name" ∷ codes "type" ∷ codes "null" ∷ []) d) _ c e in
    column_parts (needed_member word (codes "name") d) (needed_member typed (codes "type") d) (optional as_bool (codes "null") d) c (needed_word (codes "name") d) (needed_type (codes "type") d) t.1

array_good : {A : Type 0} (read : Data → Option A) (p : A → Bool) → ((d : Data) (x : A) → read d ≡ Some x → p x ≡ true) → (member : List ℕ) (d : Data) (xs : List A)
    → needed_member (array_of read) member d ≡ Some xs → list_all p xs ≡ true
array_good read p each member d xs e =
    let v = bound (get member d) (array_of read) xs e in
    let ds = bound (as_array v.0) (λ is. all_some (map read (elements is))) xs v.2 in
    all_pass read p each (elements ds.0) xs ds.2

table_parts : (name : Name) (a : Option (List Column)) (b : Option (List Name)) (n : Option (Option (List DeclaredKey))) (t : DeclaredTable) → is_word name ≡ true
    → ((columns : List Column) → a ≡ Some columns → list_all good_column columns ≡ true) → table_from name a b n ≡ Some t → good_table t ≡ true
table_parts name None b n t named good e = never t e
table_parts name (Some columns) None n t named good e = never t e
table_parts name (Some columns) (Some primary_key) None t named good e = never t e
table_parts name (Some columns) (Some primary_key) (Some keys) t named good e =
    ap good_table (sym (some_same (record { name = name; columns = columns; primary_key = primary_key; column_vindexes = keys }) t e)) ∙ join named (good columns refl)

table_good : (name : Name) (d : Data) (t : DeclaredTable) → table name d ≡ Some t → good_table t ≡ true
table_good name d t e =
    let only = has_only (codes "columns" ∷ codes "primary_key" ∷ codes "column_vindexes" ∷ []) d in
    let h = tested (is_word name && only) _ t e in
    table_parts name (needed_member (array_of column) (codes "columns") d) (needed_member (array_of word) (codes "primary_key") d) (optional (array_of key) (codes "column_vindexes") d) t
    (both (is_word name) only h.0).0 (array_good column good_column column_good (codes "columns") d) h.1

object_good : {A : Type 0} (read : Name → Data → Option A) (p : A → Bool) → ((name : Name) (d : Data) (x : A) → read name d ≡ Some x → p x ≡ true) → (member : List ℕ) (d : Data) (xs : List A)
    → needed_member (object_of read) member d ≡ Some xs → list_all p xs ≡ true
object_good read p each member d xs e =
    let v = bound (get member d) (object_of read) xs e in
    let ms = bound (as_object v.0) (λ ms. all_some (map (λ m. read m.0 m.1) (named_values ms))) xs v.2 in
    all_pass (λ m. read m.0 m.1) p (λ m x. each m.0 m.1 x) (named_values ms.0) xs ms.2

keyspace_parts : (name : Name) (a : Option Bool) (b : Option (Option (List DeclaredVindex))) (n : Option (List DeclaredTable)) (k : DeclaredKeyspace) → is_word name ≡ true
    → ((tables : List DeclaredTable) → n ≡ Some tables → list_all good_table tables ≡ true) → keyspace_from name a b n ≡ Some k → (good_keyspace k ≡ true) × (k.name ≡ name)
keyspace_parts name None b n k named good e = never k e
keyspace_parts name (Some sharded) None n k named good e = never k e
keyspace_parts name (Some sharded) (Some vindexes) None k named good e = never k e
keyspace_parts name (Some sharded) (Some vindexes) (Some tables) k named good e =
    let is = sym (some_same (record { name = name; sharded = sharded; vindexes = vindexes; tables = tables }) k e) in
    (ap good_keyspace is ∙ join named (good tables refl), ap (λ k. k.name) is)

keyspace_good : (name : Name) (d : Data) (k : DeclaredKeyspace) → keyspace name d ≡ Some k → (good_keyspace k ≡ true) × (k.name ≡ name)
keyspace_good name d k e =
    let only = has_only (codes "sharded" ∷ codes "vindexes" ∷ codes "tables" ∷ []) d in
    let h = tested (is_word name && only) _ k e in
    keyspace_parts name (needed_member as_bool (codes "sharded") d) (optional (object_of vindex) (codes "vindexes") d) (needed_member (object_of table) (codes "tables") d) k
    (both (is_word name) only h.0).0 (object_good table good_table table_good (codes "tables") d) h.1

pub document_good : (d : Data) (ks : List DeclaredKeyspace) → document d ≡ Some ks → list_all good_keyspace ks ≡ true
document_good d ks e =
    let h = tested (has_only (codes "keyspaces" ∷ []) d) (needed_member (object_of keyspace) (codes "keyspaces") d) ks e in
    object_good keyspace good_keyspace (λ name d k e. (keyspace_good name d k e).0) (codes "keyspaces") d ks h.1

-- keyspaces have the names of an object's members, each once
pub names_apart : (d : Data) (ks : List DeclaredKeyspace) → object_of keyspace d ≡ Some ks → has_twice (map (λ m. m.0) (members_in d)) ≡ false
    → has_twice (map (λ k. k.name) ks) ≡ false
names_apart d ks e once =
    let ms = bound (as_object d) (λ ms. all_some (map (λ m. keyspace m.0 m.1) (named_values ms))) ks e in
    let same = all_same (λ m. keyspace m.0 m.1) (λ k. k.name) (λ m. m.0) (λ m k e. (keyspace_good m.0 m.1 k e).1) (named_values ms.0) ks ms.2 in
    let members : members_in d ≡ named_values ms.0 = ap (λ o. unwrap_or (option_map named_values o) []) ms.1 in
    ap has_twice (same ∙ ap (map (λ m. m.0)) (sym members)) ∙ once
