-- An id that was made before is that of the value.
use Rattle.std.proofs.Common.{◌≡◌, ℕ, List, [], Some, true, sym, ap, ◌∙◌, if◌then◌else◌}
use Rattle.vt_value.specs.declared.value.Value.{Value}
use Rattle.vindex.specs.declared.AnyVindex.{AnyVindex}
use Rattle.vindex.specs.KeyspaceIds.{keyspace_id, is_key}
use Rattle.vschema.specs.declared.schema.Table.{Table}
use Rattle.vschema.specs.declared.schema.ColumnVindex.{ColumnVindex}
use Rattle.planner.specs.Routes.{id_by, id_of}
use Rattle.planner.specs.KnownIds.{known_bytes, IsIdOf}
use Rattle.planner.specs.declared.members.KnownId.{KnownId}

pub kept_id : (t : Table) (v : Value) (x : ColumnVindex) (y : AnyVindex) (id : KnownId) (bytes : List ℕ)
    → t.vindex ≡ Some x → x.vindex ≡ y → known_bytes id ≡ Some bytes → IsIdOf y v id → bytes ≡ id_of t v
kept_id t v x y id bytes has same known right =
    let told = right bytes known in
    sym (ap (λ o. id_by o v) has ∙ ap (λ z. if is_key z v then keyspace_id z v else []) same ∙ ap (λ b. if b then keyspace_id y v else []) told.0 ∙ told.1)
