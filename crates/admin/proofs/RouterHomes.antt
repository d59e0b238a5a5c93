-- The administrator is that of its router's sharded keyspace.
use Rattle.std.proofs.Common.{◌≡◌, ℕ, sym, ◌∙◌, List, refl, ap}
use Rattle.std.specs.Prelude.{Option, Some, None, IsSome, IfSome, MatchOption}
use Rattle.reshard.specs.Workflows.{WorkflowView}
use Rattle.admin.specs.AdminAnswers.{keyspace_of}
use Rattle.keyrange.specs.declared.KeyRange.{KeyRange}
use Rattle.vschema.specs.declared.schema.VSchema.{VSchema}
use Rattle.shard_run.specs.opening.Empty.{sharded_keyspace}
use Rattle.admin.specs.Idle.{idle_in, free_slots, opening_workflow}

module _ {S : Type 0} (now : S → ℕ) where
  pub found : (r : Option S) (k wanted : ℕ) → IsSome r → IfSome r (λ s. now s ≡ k) → k ≡ wanted → MatchOption r ⊥ (λ s. now s ≡ wanted)
  found None k wanted some is same = absurd (cc some)
  found (Some s) k wanted some is same = is ∙ same

  pub at_home : (r : Option S) (old : Option WorkflowView) (place : Option ℕ) → keyspace_of old ≡ place
      → ((k : ℕ) → place ≡ Some k → MatchOption r ⊥ (λ s. now s ≡ k)) → IfSome old (λ w. MatchOption r ⊥ (λ s. now s ≡ w.keyspace))
  at_home r None place same h = tt
  at_home r (Some w) place same h = h w.keyspace (sym same)

-- the one that a router begins with
of_idle : (place : Option ℕ) (free : List ℕ) → keyspace_of (idle_in place free) ≡ place
of_idle None free = refl
of_idle (Some keyspace) free = refl

pub begins_at_home : (schema engine : VSchema) (ranges : List KeyRange) (w : Option WorkflowView) → w ≡ opening_workflow schema ranges
    → engine ≡ schema → keyspace_of w ≡ sharded_keyspace engine
begins_at_home schema engine ranges w is same =
    ap keyspace_of is ∙ of_idle (sharded_keyspace schema) (free_slots schema ranges) ∙ ap (λ (s : VSchema). sharded_keyspace s) (sym same)
