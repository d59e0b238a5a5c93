use Rattle.std.proofs.Common.{ap, sym, subst, ◌∙◌, ℕ}
use Rattle.std.proofs.lemmas.Result.{IfOk-weaker, IfErr-weaker}
use Rattle.prepared_statements.specs.declared.held.Numbered.{Numbered}
use Rattle.prepared_statements.specs.Held.{HeldStatements, RunOf}
use Rattle.prepared_statements.specs.inner.Keeping.{IsFirst}
use Rattle.prepared_statements.proofs.Places.{first_is}
use Rattle.prepared_statements.proofs.held.Held.run_at.Goals as goal

-- the statement that was read is the one in its place
pub returns-clause-found : goal.returns-clause-found
returns-clause-found c =
    IfOk-weaker c.run_of.result _ _
    (λ run r n s first.
    let same = first_is n c.self.inside.statements.items c.args.place s c.index.result.now
    (subst (λ (v : HeldStatements). IsFirst n v.statements c.args.place s) (sym c.self.view_is) first) c.index.ensures in
    subst (λ (t : Numbered). RunOf t.statement c.args.bytes.now run.text.items run.types) same r)
    c.run_of.ensures.found

pub returns-clause-large : goal.returns-clause-large
returns-clause-large c =
    IfErr-weaker c.run_of.result _ _
    (λ e l is n s first.
    let same = first_is n c.self.inside.statements.items c.args.place s c.index.result.now
    (subst (λ (v : HeldStatements). IsFirst n v.statements c.args.place s) (sym c.self.view_is) first) c.index.ensures in
    ap (λ (t : Numbered). t.statement.fault) (sym same) ∙ l is)
    c.run_of.ensures.large

pub returns-clause-refused : goal.returns-clause-refused
returns-clause-refused c =
    IfErr-weaker c.run_of.result _ _
    (λ e r known n s first text types run.
    let same = first_is n c.self.inside.statements.items c.args.place s c.index.result.now
    (subst (λ (v : HeldStatements). IsFirst n v.statements c.args.place s) (sym c.self.view_is) first) c.index.ensures in
    r known text types (subst (λ (t : Numbered). RunOf t.statement c.args.bytes.now text types) (sym same) run))
    c.run_of.ensures.refused
