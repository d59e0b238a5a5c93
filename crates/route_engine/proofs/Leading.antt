-- What a text leads to, from what its statement does with the session's transaction.
use Rattle.std.proofs.Common.{◌≡◌, ◌⊎◌, inl, inr, ℕ, Bool, true, false, cond, List, [], Option, Some, None, Result, Ok, Err, refl, sym, ap, subst, ◌∙◌}
use Rattle.std.specs.Prelude.{IfOk, IfErr, OnErr}
use Rattle.std.proofs.lemmas.Bool.{false≢true}
use Rattle.vt_value.specs.declared.refusal.Refusal.{Refusal}
use Rattle.vt_value.specs.declared.refusal.Refusal.TheVariants.{OutOfMemory, SyntaxError}
use Rattle.sql_tree.specs.declared.Statement.{Statement}
use Rattle.shard_calls.specs.Grammar.{Reads}
use Rattle.vschema.specs.declared.schema.VSchema.{VSchema}
use Rattle.vschema.specs.declared.schema.Query.{Query}
use Rattle.vschema.specs.declared.schema.Typed.{Typed}
use Rattle.vschema.specs.declared.schema.Typed.TheVariants as typed
use Rattle.vschema.specs.declared.changes.Write.{Write}
use Rattle.vschema.specs.TypedStatement.{typed_statement}
use Rattle.journal.specs.Runs.{IsLegal}
use Rattle.journal.specs.Views.{PassView}
use Rattle.shard_run.specs.declared.Entry.{Entry}
use Rattle.shard_run.specs.Runs.{Opening}
use Rattle.shard_contents.specs.Limits.{Limits}
use Rattle.shard_contents.specs.Entries.{MayFollow}
use Rattle.shard_contents.specs.Transactions.{PendingView, nothing_done}
use Rattle.shard_calls.specs.declared.reply.Answer.TheVariants.{Count}
use Rattle.shard_calls.specs.declared.reply.Reply.{Reply}
use Rattle.shard_calls.specs.Answers as a
use Rattle.shard_calls.specs.Answers.{Gives, HasRead, HasWritten, MayReadRefuse, MayWriteRefuse}
use Rattle.shard_calls.specs.Transactions as t
use Rattle.shard_calls.specs.Transactions.{Transaction, PassAndTx, GivesAt, IsRefusedBy, IsAnswerNow, IsRefusedNow}
use Rattle.shard_calls.specs.Pendings as stands
use Rattle.shard_calls.specs.Pendings.{BoundView, OpenView, Represents}
use Rattle.route_engine.specs.inner.Pendings.{Leads}
use Rattle.shard_calls.specs.inner.InTransactions.{ends, closes, left_by, kept_by, stays_open, GoesOnIn, IsRefusedStep}
use Rattle.route_engine.proofs.Stepping.{stands_left}

module _ (o : Opening) (limits : Limits) (p now : PassView Entry) where
  -- none is open
  pub closed_leads : (w : Option OpenView) (u : Option Transaction) (step : Option Transaction → Option Transaction → Type 0) → step None u → Represents o now w u
      → Leads o p None now w step
  closed_leads w u step is st = record { from = by }
    where
      by : (tr : Option Transaction) → Represents o p None tr → (u : Option Transaction) × step tr u × Represents o now w u
      by _ stands.closed = (u, is, st)

  -- one is open, and goes on
  pub goes_leads : (v : OpenView) (typed : Typed) (reply : Reply) (w : Option OpenView) → GoesOnIn o limits p v typed reply now w
      → Leads o p (Some v) now w (λ tr u. GivesAt o limits p tr typed reply (record { pass = now; tx = u }))
  goes_leads v typed reply w goes = record { from = by v goes }
    where
      by : (v : OpenView) → GoesOnIn o limits p v typed reply now w → (tr : Option Transaction) → Represents o p (Some v) tr
          → (u : Option Transaction) × GivesAt o limits p tr typed reply (record { pass = now; tx = u }) × Represents o now w u
      by _ goes _ (stands.unbound {t = tr} l all none) = let r = goes.from tr (stands.unbound l all none) in (r.0, t.within r.1, r.2)
      by v goes _ (stands.bound {t = tr} is) = let r = goes.from tr (stands.bound is) in (r.0, t.within r.1, r.2)

  -- or is refused
  pub refused_leads : (v : OpenView) (typed : Typed) (e : Refusal) → IsRefusedStep o limits p v typed e now
      → Leads o p (Some v) now (cond (ends e) None (Some v)) (λ tr u. IsRefusedBy o limits p tr typed e (record { pass = now; tx = u }))
  refused_leads v typed e step = record { from = by v step }
    where
      left : (v : OpenView) (tr : Transaction) (b : Bool) → Represents o now (Some v) (Some tr) → Represents o now (cond b None (Some v)) (cond b None (Some tr))
      left v tr true st = stands.closed
      left v tr false st = st

      by : (v : OpenView) → IsRefusedStep o limits p v typed e now → (tr : Option Transaction) → Represents o p (Some v) tr
          → (u : Option Transaction) × IsRefusedBy o limits p tr typed e (record { pass = now; tx = u }) × Represents o now (cond (ends e) None (Some v)) u
      by _ step _ (stands.unbound {t = tr} l all none) =
          let r = step.from tr (stands.unbound l all none) in
          (left_by e tr, t.within r, left _ tr (ends e) (stands_left o limits p _ tr typed e (record { pass = now; tx = left_by e tr }) r (stands.unbound l all none)))
      by v step _ (stands.bound {t = tr} is) =
          let r = step.from tr (stands.bound is) in
          (left_by e tr, t.within r, left v tr (ends e) (stands_left o limits p v tr typed e (record { pass = now; tx = left_by e tr }) r (stands.bound is)))

-- ---- without an open transaction

module _ (o : Opening) (limits : Limits) (p now : PassView Entry) (w : Option OpenView) (none : w ≡ None) where
  abbrev AnswersAlone : Typed → Reply → Type 0
  AnswersAlone ty reply = Leads o p None now w (λ tr u. GivesAt o limits p tr ty reply (record { pass = now; tx = u }))

  stands_none : Represents o now w None
  stands_none = subst (λ (x : Option OpenView). Represents o now x None) (sym none) stands.closed

  pub gives_alone : (ty : Typed) (reply : Reply) → Gives o limits p ty reply now → AnswersAlone ty reply
  gives_alone ty reply is =
      closed_leads o limits p now w None (λ tr u. GivesAt o limits p tr ty reply (record { pass = now; tx = u })) (t.alone is) stands_none

  pub refused_alone : (ty : Typed) (e : Refusal) → IsRefusedBy o limits p None ty e (record { pass = now; tx = None })
      → Leads o p None now w (λ tr u. IsRefusedBy o limits p tr ty e (record { pass = now; tx = u }))
  refused_alone ty e is =
      closed_leads o limits p now w None (λ tr u. IsRefusedBy o limits p tr ty e (record { pass = now; tx = u })) is stands_none

  -- a query, and a write
  pub selects_alone : (q : Query) (r : Result Reply Refusal) → IfOk r (λ reply. HasRead o p q reply now) → IfOk r (AnswersAlone (typed.Select q))
  selects_alone q (Ok reply) is = gives_alone (typed.Select q) reply (a.selects is)
  selects_alone q (Err e) is = tt

  pub not_selected_alone : (q : Query) (r : Result Reply Refusal) → IfErr r (λ e. MayReadRefuse o p q e now)
      → IfErr r (λ e. Leads o p None now w (λ tr u. IsRefusedBy o limits p tr (typed.Select q) e (record { pass = now; tx = u })))
  not_selected_alone q (Ok reply) is = tt
  not_selected_alone q (Err e) is = refused_alone (typed.Select q) e (t.not_read is)

  pub writes_alone : (wr : Write) (r : Result Reply Refusal) → IfOk r (λ reply. HasWritten o limits p wr reply now) → IfOk r (AnswersAlone (typed.Write wr))
  writes_alone wr (Ok reply) is = gives_alone (typed.Write wr) reply (a.writes is)
  writes_alone wr (Err e) is = tt

  pub not_written_alone : (wr : Write) (r : Result Reply Refusal) → IfErr r (λ e. MayWriteRefuse o limits p wr e now)
      → IfErr r (λ e. Leads o p None now w (λ tr u. IsRefusedBy o limits p tr (typed.Write wr) e (record { pass = now; tx = u })))
  not_written_alone wr (Ok reply) is = tt
  not_written_alone wr (Err e) is = refused_alone (typed.Write wr) e (t.not_written is)

module _ (o : Opening) (limits : Limits) (p : PassView Entry) (w : Option OpenView) where
  abbrev Counts : Typed → Option OpenView → Type 0
  Counts ty x = Leads o p None p x (λ tr u. GivesAt o limits p tr ty (record { answer = Count 0; reads = [] }) (record { pass = p; tx = u }))

  pub names_alone : w ≡ None → Counts typed.SetNames w
  names_alone none = gives_alone o limits p p w none typed.SetNames (record { answer = Count 0; reads = [] }) a.sets_names

  pub commits_alone : w ≡ None → Counts typed.Commit w
  commits_alone none =
      closed_leads o limits p p w None (λ tr u. GivesAt o limits p tr typed.Commit (record { answer = Count 0; reads = [] }) (record { pass = p; tx = u }))
      t.commits (stands_none o limits p p w none)

  pub rolls_back_alone : w ≡ None → Counts typed.Rollback w
  rolls_back_alone none =
      closed_leads o limits p p w None (λ tr u. GivesAt o limits p tr typed.Rollback (record { answer = Count 0; reads = [] }) (record { pass = p; tx = u }))
      t.rolls_back (stands_none o limits p p w none)

  -- a transaction begins
  pub begins_alone : IsLegal (MayFollow o) p.seen → w ≡ Some (record { bound = None; pending = nothing_done }) → Counts typed.Begin w
  begins_alone legal is =
      closed_leads o limits p p w (Some (record { at = p.seen; steps = []; kept = None }))
      (λ tr u. GivesAt o limits p tr typed.Begin (record { answer = Count 0; reads = [] }) (record { pass = p; tx = u })) t.begins
      (subst (λ (x : Option OpenView). Represents o p x (Some (record { at = p.seen; steps = []; kept = None }))) (sym is) (stands.unbound legal tt refl))

-- ---- what stays open

abbrev pub opened_with : Option BoundView → PendingView → OpenView
opened_with bound pending = record { bound = bound; pending = pending }

module _ (o : Opening) (limits : Limits) (p now : PassView Entry) (v w : OpenView) (ty : Typed) where
  kept : (b : Bool) → cond b false true ≡ true → cond b None (Some w) ≡ Some w
  kept true is = absurd (false≢true is)
  kept false is = refl

  gone : {X : Type 0} (x : X) (b : Bool) → cond b false true ≡ false → cond b None (Some x) ≡ None
  gone x true is = refl
  gone x false is = absurd (false≢true (sym is))

  unlike : (b : Bool) → cond b false true ≡ true → b ≡ false
  unlike true is = absurd (false≢true is)
  unlike false is = refl

  abbrev Answers : Option OpenView → Reply → Type 0
  Answers x reply = Leads o p (Some v) now x (λ tr u. GivesAt o limits p tr ty reply (record { pass = now; tx = u }))

  abbrev Refuses : Option OpenView → Refusal → Type 0
  Refuses x e = Leads o p (Some v) now x (λ tr u. IsRefusedBy o limits p tr ty e (record { pass = now; tx = u }))

  pub stays_answered : (given : Result Reply Refusal) → stays_open (closes ty) given ≡ true
      → IfOk given (λ reply. GoesOnIn o limits p v ty reply now (kept_by ty w)) → IfOk given (Answers (Some w))
  stays_answered (Ok reply) is goes =
      subst (λ (x : Option OpenView). Answers x reply) (kept (closes ty) is) (goes_leads o limits p now v ty reply (kept_by ty w) goes)
  stays_answered (Err e) is goes = tt

  pub stays_refused : (given : Result Reply Refusal) → stays_open (closes ty) given ≡ true
      → IfErr given (λ e. IsRefusedStep o limits p v ty e now) → OnErr given (w ≡ v) → IfErr given (Refuses (Some w))
  stays_refused (Ok reply) is fault same = tt
  stays_refused (Err e) is fault same =
      subst (λ (x : Option OpenView). Refuses x e)
      (ap (λ (b : Bool). cond b None (Some v)) (unlike (ends e) is) ∙ ap (λ (x : OpenView). Some x) (sym same)) (refused_leads o limits p now v ty e fault)

  pub ends_answered : (given : Result Reply Refusal) → stays_open (closes ty) given ≡ false
      → IfOk given (λ reply. GoesOnIn o limits p v ty reply now (kept_by ty w)) → IfOk given (Answers None)
  ends_answered (Ok reply) is goes =
      subst (λ (x : Option OpenView). Answers x reply) (gone w (closes ty) is) (goes_leads o limits p now v ty reply (kept_by ty w) goes)
  ends_answered (Err e) is goes = tt

  pub ends_refused : (given : Result Reply Refusal) → stays_open (closes ty) given ≡ false
      → IfErr given (λ e. IsRefusedStep o limits p v ty e now) → IfErr given (Refuses None)
  ends_refused (Ok reply) is fault = tt
  ends_refused (Err e) is fault =
      subst (λ (x : Option OpenView). Refuses x e) (gone v (ends e) is) (refused_leads o limits p now v ty e fault)

-- ---- texts

module _ (o : Opening) (limits : Limits) (p now : PassView Entry) (text : List ℕ) (v w : Option OpenView) (schema : VSchema) (served : schema ≡ o.schema)
    (tree : Statement) (reads : Reads text tree) (typed : Typed) (is : typed_statement schema tree ≡ Ok typed) where
  here : typed_statement o.schema tree ≡ Ok typed
  here = subst (λ (x : VSchema). typed_statement x tree ≡ Ok typed) served is

  pub means : (tree : Statement) × (typed_statement o.schema tree ≡ Ok typed)
  means = (tree, here)

  pub answered : (reply : Reply) → Leads o p v now w (λ tr u. GivesAt o limits p tr typed reply (record { pass = now; tx = u }))
      → Leads o p v now w (λ tr u. IsAnswerNow o limits (record { pass = p; tx = tr }) text reply (record { pass = now; tx = u }))
  answered reply leads = record {
    from = λ tr st.
        let r = leads.from tr st in
        (r.0, record { statement = tree; typed = typed; reads = reads; resolved = here; gives = r.1 }, r.2);
  }

  pub turned_down : (e : Refusal) → Leads o p v now w (λ tr u. IsRefusedBy o limits p tr typed e (record { pass = now; tx = u }))
      → Leads o p v now w (λ tr u. IsRefusedNow o limits (record { pass = p; tx = tr }) text e (record { pass = now; tx = u }))
  turned_down e leads = record {
    from = λ tr st. let r = leads.from tr st in (r.0, t.refused tree typed reads here r.1, r.2);
  }

  -- of what a call gave
  pub all_answered : (x : Option OpenView) → x ≡ v → (r : Result Reply Refusal)
      → IfOk r (λ reply. Leads o p x now w (λ tr u. GivesAt o limits p tr typed reply (record { pass = now; tx = u })))
      → IfOk r (λ reply. Leads o p v now w (λ tr u. IsAnswerNow o limits (record { pass = p; tx = tr }) text reply (record { pass = now; tx = u })))
  all_answered x same (Ok reply) leads =
      answered reply (subst (λ (y : Option OpenView). Leads o p y now w (λ tr u. GivesAt o limits p tr typed reply (record { pass = now; tx = u }))) same leads)
  all_answered x same (Err e) leads = tt

  pub all_turned_down : (x : Option OpenView) → x ≡ v → (r : Result Reply Refusal)
      → IfErr r (λ e. Leads o p x now w (λ tr u. IsRefusedBy o limits p tr typed e (record { pass = now; tx = u })))
      → IfErr r (λ e. Leads o p v now w (λ tr u. IsRefusedNow o limits (record { pass = p; tx = tr }) text e (record { pass = now; tx = u })))
  all_turned_down x same (Ok reply) leads = tt
  all_turned_down x same (Err e) leads =
      turned_down e (subst (λ (y : Option OpenView). Leads o p y now w (λ tr u. IsRefusedBy o limits p tr typed e (record { pass = now; tx = u }))) same leads)

module _ (o : Opening) (limits : Limits) (p : PassView Entry) (text : List ℕ) (v : Option OpenView) where
  same_leads : (e : Refusal) → ((tr : Option Transaction) → IsRefusedNow o limits (record { pass = p; tx = tr }) text e (record { pass = p; tx = tr }))
      → Leads o p v p v (λ tr u. IsRefusedNow o limits (record { pass = p; tx = tr }) text e (record { pass = p; tx = u }))
  same_leads e why = record { from = λ tr st. (tr, why tr, st) }

  pub from_parse : (e : Refusal) → ((e ≡ OutOfMemory) ⊎ (e ≡ SyntaxError)) → ((tree : Statement) → Reads text tree → e ≡ OutOfMemory)
      → Leads o p v p v (λ tr u. IsRefusedNow o limits (record { pass = p; tx = tr }) text e (record { pass = p; tx = u }))
  from_parse e (inl is) only =
      same_leads e (λ tr. subst (λ x. IsRefusedNow o limits (record { pass = p; tx = tr }) text x (record { pass = p; tx = tr })) (sym is) t.no_memory)
  from_parse e (inr is) only =
      same_leads e (λ tr. subst (λ x. IsRefusedNow o limits (record { pass = p; tx = tr }) text x (record { pass = p; tx = tr })) (sym is)
      (t.no_tree (λ tree reads. let wrong : SyntaxError ≡ OutOfMemory = sym is ∙ only tree reads in cc)))

  pub from_resolve : (schema : VSchema) (tree : Statement) (e : Refusal) → schema ≡ o.schema → Reads text tree
      → ((e ≡ OutOfMemory) ⊎ (typed_statement schema tree ≡ Err e))
      → Leads o p v p v (λ tr u. IsRefusedNow o limits (record { pass = p; tx = tr }) text e (record { pass = p; tx = u }))
  from_resolve schema tree e served reads (inl is) =
      same_leads e (λ tr. subst (λ x. IsRefusedNow o limits (record { pass = p; tx = tr }) text x (record { pass = p; tx = tr })) (sym is) t.no_memory)
  from_resolve schema tree e served reads (inr is) =
      same_leads e (λ tr. t.not_typed tree reads (subst (λ (x : VSchema). typed_statement x tree ≡ Err e) served is))
