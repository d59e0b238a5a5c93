-- What is printed of a statement's outcome.
use Rattle.std.proofs.Common.{◌≡◌, List, ℕ, filter, Option, Some, Result, Ok, Err, sym, ap, subst, ◌∙◌, inl, inr}
use Rattle.std.specs.Prelude.{IfOk, IfErr, OnOk}
use Rattle.vt_value.specs.declared.refusal.Refusal.{Refusal}
use mathlib.Core.List.{IsPrefix}
use Rattle.journal.specs.Runs.{by_session}
use Rattle.journal.specs.Views.{PassView, IsLonger}
use Rattle.shard_run.specs.declared.Entry.{Entry}
use Rattle.shard_run.specs.Runs.{Run, Opening}
use Rattle.shard_law.specs.declared.limits.Limits.{Limits}
use Rattle.shard_law.specs.Entries.{slot_of, commit_of, MayFollow, most_limits}
use Rattle.vtgate_clients.specs.Reply.{Reply}
use Rattle.vtgate_clients.specs.Transactions.{Transaction}
use Rattle.vtgate_clients.specs.Pendings.{OpenView, Represents, IsOf}
use Rattle.vtgate_clients.specs.Means.{PassAndTransaction}
use Rattle.admin.proofs.Anywhere.{stands_met}
use Rattle.vtgate_serve.specs.script.Scripted as s
use Rattle.vtgate_serve.specs.script.Scripted.{Prints, met}
use Rattle.vtgate_clients.specs.TypedSteps.{AreTyped}
use Rattle.vtgate_serve.specs.script.inner.UnderWay.{PrintsFrom, IsOutcomeShown}
use Rattle.vtgate_serve.proofs.script.Typing.{typed_then}
use Rattle.vtgate_serve.proofs.script.Passes.{Answered, Refused, goes_on, sees_all}

pub on_ok : {X E P Q : Type 0} (r : Result X E) → OnOk r P → (P → Q) → OnOk r Q
on_ok (Ok x) p f = f p
on_ok (Err e) p f = tt

module _ (o : Opening) (p now : PassView Entry) (v w : Option OpenView) (sql text : List ℕ) where
  abbrev Printed : Type 0
  Printed = (t : Option Transaction) → Represents o p v t
      → (u : Option Transaction) × Prints o (record { pass = p; tx = t }) sql text (record { pass = now; tx = u }) × Represents o now w u

  told : (outcome : Result Reply Refusal) → IfOk outcome (Answered o most_limits p now v w sql) → IfErr outcome (Refused o most_limits p now v w sql)
      → IsOutcomeShown outcome text → Printed
  told (Ok reply) is why (inl e) t stands =
      let said = is t stands in
      (said.0, subst (λ (x : List ℕ). Prints o (record { pass = p; tx = t }) sql x (record { pass = now; tx = said.0 })) (sym e) (s.answered reply said.1), said.2)
  told (Ok reply) is why (inr (rows, e)) t stands =
      let said = is t stands in
      (said.0, subst (λ (x : List ℕ). Prints o (record { pass = p; tx = t }) sql x (record { pass = now; tx = said.0 })) (sym e) (s.untold reply said.1 rows), said.2)
  told (Err r) is why e t stands =
      let said = why t stands in
      (said.0, subst (λ (x : List ℕ). Prints o (record { pass = p; tx = t }) sql x (record { pass = now; tx = said.0 })) (sym e) (s.refused said.1), said.2)

  is_printed : (l : Limits) → l ≡ most_limits → (outcome : Result Reply Refusal) → IfOk outcome (Answered o l p now v w sql)
      → IfErr outcome (Refused o l p now v w sql) → IsOutcomeShown outcome text → Printed
  is_printed l e outcome is why t =
      told outcome (subst (λ (m : Limits). IfOk outcome (Answered o m p now v w sql)) e is)
      (subst (λ (m : Limits). IfErr outcome (Refused o m p now v w sql)) e why) t

-- a pass that has seen the run
abbrev seen_by : Run → PassView Entry → PassView Entry
seen_by run p = record p { seen = run }

-- of a pass that has met another, and has then seen the run
pub kept_met : (o : Opening) (p q : PassView Entry) (v : Option OpenView) (run : Run) → q ≡ record p { seen = run } → IsPrefix p.seen run
    → ((n : ℕ) → p.session ≡ Some n → filter (by_session commit_of n) run ≡ filter (by_session commit_of n) p.seen) → IsOf o v p → IsOf o v q
kept_met o p q v run met more own kept =
    let seen : q.seen ≡ run = ap (λ (x : PassView Entry). x.seen) met in (
      kept.0,
      stands_met o p q v kept.0 (subst (λ (r : Run). IsPrefix p.seen r) (sym seen) more) (ap (λ (x : PassView Entry). x.session) met)
          (λ n mine. ap (λ (r : Run). filter (by_session commit_of n) r) seen ∙ own n mine) kept.1,
    )

-- A pass meets that of all lines, runs a statement, and they meet again.
module _ (o : Opening) (l : Limits) (sql text : List ℕ) (outcome : Result Reply Refusal) (p all p1 all1 p2 all2 p3 : PassView Entry) (v w : Option OpenView)
    (trailing : IsPrefix p.seen all.seen) (first : IsLonger slot_of commit_of (MayFollow o) p all p1.seen) (mine : p1 ≡ seen_by p1.seen p)
    (theirs : all1 ≡ seen_by p1.seen all) (is : IfOk outcome (Answered o l p1 p2 v w sql)) (why : IfErr outcome (Refused o l p1 p2 v w sql))
    (second : IsLonger slot_of commit_of (MayFollow o) all1 p2 all2.seen) (then : p3 ≡ seen_by all2.seen p2) (kept : IsOf o v p) where
  begun : p1 ≡ seen_by all.seen p
  begun = mine ∙ ap (λ run. seen_by run p) (sees_all slot_of commit_of (MayFollow o) p all p1.seen first trailing)

  -- what is kept stands for the transaction still
  still : (t : Option Transaction) → Represents o p v t → Represents o p1 v t
  still t stands = stands_met o p p1 v t first.one (ap (λ (q : PassView Entry). q.session) mine) first.own stands

  later : IsPrefix all1.seen p2.seen
  later = subst (λ (q : PassView Entry). IsPrefix q.seen p2.seen) (sym theirs) (goes_on o l p1 p2 v w sql outcome is why (kept.0, still kept.0 kept.1))

  ended : p3 ≡ p2
  ended = then ∙ ap (λ run. seen_by run p2) (sees_all slot_of commit_of (MayFollow o) all1 p2 all2.seen second later)

  pub prints_after : l ≡ most_limits → IsOutcomeShown outcome text → PrintsFrom o all.seen (record { pass = p; tx = v }) sql text (record { pass = p3; tx = w })
  prints_after e t = λ s held.
      let said = is_printed o p1 p2 v w sql text l e outcome is why t s.tx (still s.tx held.0.1) in
      let here : record { pass = p1; tx = s.tx } ≡ met all.seen s =
      ap (λ (q : PassView Entry). record { pass = q; tx = s.tx }) (begun ∙ ap (λ (q : PassView Entry). seen_by all.seen q) (sym held.0.0)) in
      let typed : AreTyped o said.0 = typed_then o (record { pass = p1; tx = s.tx }) (record { pass = p2; tx = said.0 }) sql text held.1 said.1 in (
        record { pass = p2; tx = said.0 },
        ((sym ended, subst (λ (q : PassView Entry). Represents o q w said.0) (sym ended) said.2), typed),
        subst (λ (x : PassAndTransaction). Prints o x sql text (record { pass = p2; tx = said.0 })) here said.1,
      )
