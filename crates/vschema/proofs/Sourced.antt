-- The tables of a statement, found by their names and ordinals.
use Rattle.std.proofs.Common.{◌≡◌, ℕ, List, length, slice_get, Option, Some, None, Err, Bor, Result, ap, sym, subst, ◌∙◌, refl}
use Rattle.std.proofs.lemmas.Option.{slice_get_past, slice_get_read}
use Rattle.std.specs.Slice.{IsItemAt}
use Rattle.vt_value.specs.declared.refusal.Refusal.TheVariants.{UnknownTable}
use Rattle.sql_tree.specs.declared.Select.{Select}
use Rattle.vschema.specs.declared.schema.Table.{Table}
use Rattle.vschema.specs.Scopes.{Scope, both_of}
use Rattle.vt_value.specs.declared.refusal.Refusal.{Refusal}
use Rattle.vschema.specs.declared.schema.VSchema.{VSchema}
use Rattle.vschema.specs.declared.changes.Write.{Write}
use Rattle.vschema.specs.Schema.{table_ordinal}
use Rattle.vschema.specs.Resolved.{Name}
use Rattle.vschema.specs.TypedWrites.{on_table, on_place, on_name}
use Rattle.vschema.specs.TypedStatement.{checked, checked_pair}

pub beside : (s : Select) (n m : ℕ) (t u : Table) (other : Option Table) (scope : Scope) → other ≡ Some u → scope ≡ both_of t u
    → checked_pair s n m t other ≡ checked n (Some m) scope s
beside s n m t u other scope there is = ap (checked_pair s n m t) there ∙ ap (λ (f : Scope). checked n (Some m) f s) (sym is)

pub alone : (s : Select) (n m : ℕ) (t : Table) (other : Option Table) → other ≡ None → checked_pair s n m t other ≡ Err UnknownTable
alone s n m t other lacks = ap (checked_pair s n m t) lacks

-- what `get` lends is what stands there
pub lent : (ts us : List Table) (i : ℕ) (o : Option (Bor Table)) (x : Bor Table) → ts ≡ us → o ≡ Some x → IsItemAt ts i o → slice_get us i ≡ Some x.now
lent ts us i o x same is found =
    let here : IsItemAt ts i (Some x) = subst (λ r. IsItemAt ts i r) is found in
    ap (λ (l : List Table). slice_get l i) (sym same) ∙ slice_get_read ts (length ts) i x.now refl here.3.0 here.1

pub lacking : (ts us : List Table) (i : ℕ) (o : Option (Bor Table)) → ts ≡ us → o ≡ None → IsItemAt ts i o → slice_get us i ≡ None
lacking ts us i o same is found =
    let here : IsItemAt ts i None = subst (λ r. IsItemAt ts i r) is found in
    ap (λ (l : List Table). slice_get l i) (sym same) ∙ slice_get_past ts i here.3

-- a write on a table that is there
pub on_found : (schema : VSchema) (name : Name) (typed : ℕ → Table → Result Write Refusal) (n : ℕ) (t : Table) → table_ordinal schema name ≡ Some n
    → slice_get schema.tables n ≡ Some t → on_name schema name typed ≡ typed n t
on_found schema name typed n t named there = ap (on_place schema typed) named ∙ ap (on_table typed n) there
