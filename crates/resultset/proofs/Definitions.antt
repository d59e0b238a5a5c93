-- Column definitions are read again.
use Rattle.std.proofs.Common.{append_assoc, ◌≡◌, ℕ, List, ◌++◌, Bool, true, ap, subst, ◌∙◌}
use Rattle.std.specs.Prelude.{codes, IsTrue}
use Rattle.std.proofs.Math.Bool.{Bool-set}
use Rattle.mysql_packet.specs.Numbers.{length_encoded_string}
use Rattle.resultset.specs.declared.Column.{Column}
use Rattle.resultset.specs.declared.Kind.{Kind}
use Rattle.resultset.specs.inner.Flags.{flags_fit}
use Rattle.resultset.specs.Encoding.{name_fields}

-- what follows each of the names
abbrev pub past_name : Column → List ℕ → List ℕ
past_name c more = length_encoded_string c.org_name ++ more

abbrev pub past_tables : Column → List ℕ → List ℕ
past_tables c more = length_encoded_string c.name ++ past_name c more

abbrev pub past_table : Column → List ℕ → List ℕ
past_table c more = length_encoded_string c.table ++ past_tables c more

abbrev pub past_schema : Column → List ℕ → List ℕ
past_schema c more = length_encoded_string c.table ++ past_table c more

abbrev pub past_catalog : Column → List ℕ → List ℕ
past_catalog c more = length_encoded_string c.schema ++ past_schema c more

in_turn : (d s t u n o more : List ℕ) → (((((d ++ s) ++ t) ++ u) ++ n) ++ o) ++ more ≡ d ++ (s ++ (t ++ (u ++ (n ++ (o ++ more)))))
in_turn d s t u n o more = simp append_assoc

pub names_in_turn : (c : Column) (more : List ℕ) → name_fields c ++ more ≡ length_encoded_string (codes "def") ++ past_catalog c more
names_in_turn c more =
    in_turn (length_encoded_string (codes "def")) (length_encoded_string c.schema) (length_encoded_string c.table) (length_encoded_string c.table) (length_encoded_string c.name) (length_encoded_string c.org_name) more

allowed_once : (b : Bool) (p q : IsTrue b) → p ≡ q
allowed_once b = Bool-set b true

-- columns with the same names, kind and flags are the same
pub same_column : (x c : Column) → x.schema ≡ c.schema → x.table ≡ c.table → x.name ≡ c.name → x.org_name ≡ c.org_name → x.kind ≡ c.kind → x.flags ≡ c.flags → x ≡ c
same_column x c e1 e2 e3 e4 e5 e6 =
    let by_flags : (b : IsTrue (flags_fit x.kind c.flags)) → x ≡ record { schema = x.schema; table = x.table; name = x.name; org_name = x.org_name; kind = x.kind; flags = c.flags; allowed = b } =
    subst
    (λ (f : ℕ). (b : IsTrue (flags_fit x.kind f)) → x ≡ record { schema = x.schema; table = x.table; name = x.name; org_name = x.org_name; kind = x.kind; flags = f; allowed = b })
    e6
    (λ (b : IsTrue (flags_fit x.kind x.flags)). ap (λ (h : IsTrue (flags_fit x.kind x.flags)). let y : Column = record { schema = x.schema; table = x.table; name = x.name; org_name = x.org_name; kind = x.kind; flags = x.flags; allowed = h } in y) (allowed_once _ x.allowed b))
    in
    let by_kind : (b : IsTrue (flags_fit c.kind c.flags)) → x ≡ record { schema = x.schema; table = x.table; name = x.name; org_name = x.org_name; kind = c.kind; flags = c.flags; allowed = b } =
    subst
    (λ (k : Kind). (b : IsTrue (flags_fit k c.flags)) → x ≡ record { schema = x.schema; table = x.table; name = x.name; org_name = x.org_name; kind = k; flags = c.flags; allowed = b })
    e5 by_flags
    in
    by_kind c.allowed
    ∙ ap (λ (l : List ℕ). let y : Column = record { schema = l; table = x.table; name = x.name; org_name = x.org_name; kind = c.kind; flags = c.flags; allowed = c.allowed } in y) e1
    ∙ ap (λ (l : List ℕ). let y : Column = record { schema = c.schema; table = l; name = x.name; org_name = x.org_name; kind = c.kind; flags = c.flags; allowed = c.allowed } in y) e2
    ∙ ap (λ (l : List ℕ). let y : Column = record { schema = c.schema; table = c.table; name = l; org_name = x.org_name; kind = c.kind; flags = c.flags; allowed = c.allowed } in y) e3
    ∙ ap (λ (l : List ℕ). let y : Column = record { schema = c.schema; table = c.table; name = c.name; org_name = l; kind = c.kind; flags = c.flags; allowed = c.allowed } in y) e4
