use Rattle.std.proofs.Common.{◌≡◌, ℕ, ◌+◌, ◌++◌, ◌∷◌, [], List, length, ap, sym, subst, refl, ◌∙◌, arith}
use Rattle.prepared_statements.specs.declared.held.Numbered.{Numbered}
use Rattle.prepared_statements.specs.Held.{HeldStatements, none_held, held_at, held_size}
use Rattle.prepared_statements.specs.inner.Keeping.{AreKept}
use Rattle.prepared_statements.proofs.Places.{kept_added, beyond}
use Rattle.prepared_statements.proofs.HeldLaws.{adds}
use Rattle.prepared_statements.proofs.held.Held.put.Goals as goal

pub invariant_of-self-2 : goal.invariant_of-self-2
invariant_of-self-2 c =
    let s : Numbered = record { number = c.self.inside.last + 1; statement = c.args.statement } in
    subst (λ (l : List Numbered). AreKept c.args.size c.self.inside.long (c.self.inside.last + 1) l) (sym c.in_ok-push.ensures.items)
    (kept_added c.self.inside.size c.self.inside.long c.args.size c.self.inside.last c.self.inside.statements.items s
    (omega (arith, c.requires.few, ap (λ (v : HeldStatements). length v.statements) c.self.view_is)) (omega (arith, c.requires.size, ap held_size c.self.view_is)) c.requires.long refl
    c.self.invariant)

pub returns-clause-ok : goal.returns-clause-ok
returns-clause-ok c =
    let s : Numbered = record { number = c.self.inside.last + 1; statement = c.args.statement } in
    adds c.args.self.now _ c.args.statement (c.self.inside.last + 1) (ap (λ (v : HeldStatements). v.last + 1) c.self.view_is)
    (ap (λ (l : List Numbered). record none_held { last = c.self.inside.last + 1; statements = l })
    (c.in_ok-push.ensures.items ∙ ap (λ (v : HeldStatements). v.statements ++ s ∷ []) c.self.view_is))

pub returns-clause-unknown : goal.returns-clause-unknown
returns-clause-unknown c =
    ap (λ (v : HeldStatements). held_at v (c.self.inside.last + 1)) (sym c.self.view_is)
    ∙ beyond (c.self.inside.last + 1) 0 c.self.inside.last c.self.inside.statements.items (omega arith) c.self.invariant.grow
