-- What a text leaves of a session: its pass's session, and what the program keeps of a transaction.
use Rattle.std.proofs.Common.{◌≡◌, ◌≤◌, ◌^◌, ℕ, List, Option, None, Result, Ok, Err, refl, sym, ap, subst, ◌∙◌}
use Rattle.std.specs.Prelude.{IfOk, IfErr}
use Rattle.vt_value.specs.declared.refusal.Refusal.{Refusal}
use Rattle.vt_value.specs.declared.refusal.Refusal.TheVariants.{ShardFull}
use Rattle.vschema.specs.declared.schema.Query.{Query}
use Rattle.vschema.specs.declared.schema.Typed.{Typed}
use Rattle.vschema.specs.declared.changes.Write.{Write}
use Rattle.journal.specs.Views.{PassView}
use Rattle.journal.proofs.Fronts.{prefix_self}
use Rattle.shard_run.specs.declared.Entry.{Entry}
use Rattle.shard_run.specs.Runs.{Opening}
use Rattle.shard_contents.specs.Limits.{Limits}
use Rattle.shard_calls.specs.declared.reply.Reply.{Reply}
use Rattle.shard_calls.specs.Answers as a
use Rattle.shard_calls.specs.Answers.{counted, MayReadRefuse, MayWriteRefuse}
use Rattle.shard_calls.specs.Transactions as t
use Rattle.shard_calls.specs.Transactions.{Transaction, PassAndTx, GivesIn, GivesAt, IsAnswerNow, IsReplyTo, IsRefusedBy, IsRefusedNow, IsRefusedAt}
use Rattle.shard_calls.specs.Pendings as stands
use Rattle.shard_calls.specs.Pendings.{OpenView, Represents, IsOf}
use Rattle.route_engine.specs.inner.Pendings.{Leads}
use Rattle.route_engine.proofs.Anywhere.{stands_met}
use Rattle.route_engine.proofs.Sessions.{looked_session, gone_session, gives_session}
use Rattle.route_engine.proofs.Stepping.{refused_session}

-- ---- the session

module _ (o : Opening) (l : Limits) (p : PassView Entry) where
  gives_in_session : (tr : Transaction) (ty : Typed) (reply : Reply) (now : PassAndTx) → GivesIn o l p tr ty reply now → now.pass.session ≡ p.session
  gives_in_session tr _ _ _ (t.nowhere none over) = refl
  gives_in_session tr _ _ _ (t.on_shard {now = now} s seats by alone looked serves clear over) = looked_session o s.slot p now looked
  gives_in_session tr _ _ _ (t.commits_nothing none) = refl
  gives_in_session tr _ _ _ (t.commits_reads {now = now} s uses none looked serves clear over) = looked_session o s.slot p now looked
  gives_in_session tr _ _ _ (t.commits_writes {now = now} s uses some done) =
      ap (λ (q : PassView Entry). q.session) done.pass ∙ looked_session o s.slot p done.looked done.look
  gives_in_session tr _ _ _ t.rolls_back = refl

  gives_at_session : (tr : Option Transaction) (ty : Typed) (reply : Reply) (now : PassAndTx) → GivesAt o l p tr ty reply now → now.pass.session ≡ p.session
  gives_at_session _ ty reply _ (t.alone {now = now} is) = gives_session o l p ty reply now is
  gives_at_session _ _ _ _ t.begins = refl
  gives_at_session _ _ _ _ t.commits = refl
  gives_at_session _ _ _ _ t.rolls_back = refl
  gives_at_session _ ty reply now (t.within {tx} is) = gives_in_session tx ty reply now is

  not_read_session : (q : Query) (e : Refusal) (now : PassView Entry) → MayReadRefuse o p q e now → now.session ≡ p.session
  not_read_session q _ now (a.no_memory gone) = gone_session o p now gone
  not_read_session q _ now (a.buffer_full gone held) = gone_session o p now gone

  not_written_session : (w : Write) (e : Refusal) (now : PassView Entry) → MayWriteRefuse o l p w e now → now.session ≡ p.session
  not_written_session w _ now (a.no_memory gone) = gone_session o p now gone
  not_written_session w _ now (a.several seats found more gone) = gone_session o p now gone
  not_written_session w _ now (a.buffer_full gone held) = gone_session o p now gone
  not_written_session w _ now (a.refused {since = since} s alone gone looked served serves why) = looked_session o s.slot since now looked ∙ gone_session o p since gone

  refused_by_session : (tr : Option Transaction) (ty : Typed) (e : Refusal) (now : PassAndTx) → IsRefusedBy o l p tr ty e now → now.pass.session ≡ p.session
  refused_by_session _ _ e _ (t.not_read {q} {now = now} why) = not_read_session q e now why
  refused_by_session _ _ e _ (t.not_written {w} {now = now} why) = not_written_session w e now why
  refused_by_session _ ty e now (t.within {tx} why) = refused_session o l p tx ty e now why

  refused_now_session : (tr : Option Transaction) (text : List ℕ) (e : Refusal) (now : PassAndTx) → IsRefusedNow o l (record { pass = p; tx = tr }) text e now
      → now.pass.session ≡ p.session
  refused_now_session tr text _ _ t.no_memory = refl
  refused_now_session tr text _ _ (t.no_tree none) = refl
  refused_now_session tr text _ _ (t.not_typed tree reads is) = refl
  refused_now_session tr text e now (t.refused tree ty reads is why) = refused_by_session tr ty e now why

-- ---- a text, from its numbered text

module _ (o : Opening) (l : Limits) (p q now : PassView Entry) (text : List ℕ) (v w : Option OpenView) (count : q ≡ counted p) where
  abbrev Answered : PassView Entry → Reply → Type 0
  Answered x reply = Leads o x v now w (λ tr u. IsAnswerNow o l (record { pass = x; tx = tr }) text reply (record { pass = now; tx = u }))

  abbrev TurnedDown : PassView Entry → Refusal → Type 0
  TurnedDown x e = Leads o x v now w (λ tr u. IsRefusedNow o l (record { pass = x; tx = tr }) text e (record { pass = now; tx = u }))

  -- what stands for a transaction before the statement is numbered does so after
  stands_counted : (tr : Option Transaction) → Represents o p v tr → Represents o (counted p) v tr
  stands_counted tr st = stands_met o p (counted p) v tr (prefix_self p.seen) refl (λ n mine. refl) st

  pub of_counted : IsOf o v p → IsOf o v q
  of_counted (tr, st) = subst (IsOf o v) (sym count) (tr, stands_counted tr st)

  pub all_answered : (r : Result Reply Refusal) → IfOk r (Answered q)
      → IfOk r (λ reply. (tr : Option Transaction) → Represents o p v tr → (u : Option Transaction)
      × IsReplyTo o l (record { pass = p; tx = tr }) text reply (record { pass = now; tx = u }) × Represents o now w u)
  all_answered (Ok reply) leads = λ tr st. (subst (λ (x : PassView Entry). Answered x reply) count leads).from tr (stands_counted tr st)
  all_answered (Err e) leads = tt

  pub all_turned_down : (r : Result Reply Refusal) → IfErr r (TurnedDown q)
      → IfErr r (λ e. (tr : Option Transaction) → Represents o p v tr → (u : Option Transaction)
      × IsRefusedAt o l (record { pass = p; tx = tr }) text e (record { pass = now; tx = u }) × Represents o now w u)
  all_turned_down (Ok reply) leads = tt
  all_turned_down (Err e) leads = λ tr st.
      let to = (subst (λ (x : PassView Entry). TurnedDown x e) count leads).from tr (stands_counted tr st) in (to.0, t.refused to.1, to.2)

  -- what the program keeps then stands for some transaction, of the same session
  pub all_of : IsOf o v p → (r : Result Reply Refusal) → IfOk r (Answered q) → IfErr r (TurnedDown q) → IsOf o w now
  all_of (tr, st) (Ok reply) leads fault =
      let to = (subst (λ (x : PassView Entry). Answered x reply) count leads).from tr (stands_counted tr st) in (to.0, to.2)
  all_of (tr, st) (Err e) leads fault =
      let to = (subst (λ (x : PassView Entry). TurnedDown x e) count fault).from tr (stands_counted tr st) in (to.0, to.2)

  pub all_session : IsOf o v p → (r : Result Reply Refusal) → IfOk r (Answered q) → IfErr r (TurnedDown q) → now.session ≡ p.session
  all_session (tr, st) (Ok reply) leads fault =
      let to = (subst (λ (x : PassView Entry). Answered x reply) count leads).from tr (stands_counted tr st) in
      gives_at_session o l (counted p) tr to.1.typed reply (record { pass = now; tx = to.0 }) to.1.gives
  all_session (tr, st) (Err e) leads fault =
      let to = (subst (λ (x : PassView Entry). TurnedDown x e) count fault).from tr (stands_counted tr st) in
      refused_now_session o l (counted p) tr text e (record { pass = now; tx = to.0 }) to.1

-- the statement numbers are used up
pub numbers_used_up : (o : Opening) (l : Limits) (p now : PassView Entry) (text : List ℕ) (e : Refusal) (v w : Option OpenView) → now ≡ p → w ≡ None
    → (e ≡ ShardFull) × (2 ^ 62 ≤ p.statements) → (tr : Option Transaction) → Represents o p v tr → (u : Option Transaction)
    × IsRefusedAt o l (record { pass = p; tx = tr }) text e (record { pass = now; tx = u }) × Represents o now w u
numbers_used_up o l p now text e v w same none (is, full) tr st =
    rw (same, none, is) (None, t.used_up full, stands.closed)

pub closed_of : (o : Opening) (p : PassView Entry) (w : Option OpenView) → w ≡ None → IsOf o w p
closed_of o p w is = subst (λ (x : Option OpenView). IsOf o x p) (sym is) (None, stands.closed)
