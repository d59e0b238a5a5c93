use Rattle.std.proofs.Common.{ℕ, List, bytes_eq, slice_get, option_and_then, ap, ◌∙◌}
use Rattle.vschema_json.specs.declared.document.DeclaredVindex.{DeclaredVindex}
use Rattle.vschema_json.specs.declared.document.DeclaredKeyspace.{DeclaredKeyspace}
use Rattle.vschema_json.specs.Places.{ordinal_from}
use Rattle.vschema_json.specs.Faults.{vindexes, vindex_of}
use Rattle.vschema_json.proofs.Named.{vindex_placed}
use Rattle.vschema_json.proofs.indexes.KeyspaceIndex.vindex_of.Goals as goal

pub returns : goal.returns
returns c =
    let name = c.args.name.now in
    let vs = vindexes c.self.inside.keyspace.now in
    c.kind_at.ensures ∙ (λ i. option_and_then (λ (v : DeclaredVindex). v.kind) (option_and_then (slice_get (c.vindexes.ensures i)) (c.ordinal_of.ensures i)))
    ∙ ap (λ (names : List (List ℕ)). option_and_then (λ (v : DeclaredVindex). v.kind) (option_and_then (slice_get vs) (ordinal_from (λ (n : List ℕ). bytes_eq n name) 0 names))) c.self.invariant
    ∙ vindex_placed name vs ∙ ap (λ (k : DeclaredKeyspace). vindex_of k name) c.self.view_is
