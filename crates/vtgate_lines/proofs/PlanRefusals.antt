-- Why a text has no line, from why each step refuses.
use Rattle.std.proofs.Common.{◌≡◌, ◌⊎◌, inl, inr, List, ℕ, Err, sym, subst, ◌∙◌}
use Rattle.vt_value.specs.declared.refusal.Refusal.{Refusal}
use Rattle.vt_value.specs.declared.refusal.Refusal.TheVariants.{OutOfMemory, SyntaxError}
use Rattle.sql_tree.specs.declared.Statement.{Statement}
use Rattle.sql_parser.specs.Grammar.{Reads}
use Rattle.planner.specs.VSchema.{VSchema}
use Rattle.planner.specs.TypedStatement.{typed_statement}
use Rattle.vtgate_lines.specs.Plans.{IsPlanRefusal, no_memory, no_tree, not_typed}

module _ (schema : VSchema) (text : List ℕ) where
  pub from_memory : (e : Refusal) → e ≡ OutOfMemory → IsPlanRefusal schema text e
  from_memory e is = subst (IsPlanRefusal schema text) (sym is) no_memory

  pub from_parse : (e : Refusal) → ((e ≡ OutOfMemory) ⊎ (e ≡ SyntaxError)) → ((tree : Statement) → Reads text tree → e ≡ OutOfMemory)
      → IsPlanRefusal schema text e
  from_parse e (inl is) only = from_memory e is
  from_parse e (inr is) only =
      subst (IsPlanRefusal schema text) (sym is) (no_tree (λ tree reads. let wrong : SyntaxError ≡ OutOfMemory = sym is ∙ only tree reads in cc))

  pub from_resolve : (tree : Statement) (e : Refusal) → Reads text tree → ((e ≡ OutOfMemory) ⊎ (typed_statement schema tree ≡ Err e))
      → IsPlanRefusal schema text e
  from_resolve tree e reads (inl is) = from_memory e is
  from_resolve tree e reads (inr is) = not_typed tree reads is
