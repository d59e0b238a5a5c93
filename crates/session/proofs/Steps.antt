-- What a statement leaves of its session's pass, in a transaction or not: it goes on from what was seen, which stays legal, and stays its session's.
use Rattle.std.proofs.Common.{◌≡◌, ℕ, List, Option, Ok, Err, refl, sym, ap, ◌∙◌}
use mathlib.Core.List.{IsPrefix}
use Rattle.vt_value.specs.declared.refusal.Refusal.{Refusal}
use Rattle.sql_tree.specs.declared.Statement.{Statement}
use Rattle.sql_parser.specs.Grammar.{Reads}
use Rattle.vschema.specs.declared.schema.Typed.{Typed}
use Rattle.vschema.specs.TypedStatement.{typed_statement}
use Rattle.journal.specs.Runs.{IsLegal}
use Rattle.journal.specs.Views.{PassView}
use Rattle.journal.proofs.Fronts.{prefix_self, prefix_trans}
use Rattle.shard_run.specs.declared.Entry.{Entry}
use Rattle.shard_run.specs.declared.ShardRecord.{ShardRecord}
use Rattle.shard_run.specs.Runs.{Opening}
use Rattle.route_engine.specs.Limits.{Limits}
use Rattle.route_engine.specs.Entries.{MayFollow, HasLooked}
use Rattle.route_engine.specs.Reply.{Reply}
use Rattle.route_engine.specs.inner.Answers as a
use Rattle.route_engine.specs.Answers.{counted, HasGone}
use Rattle.route_engine.specs.inner.Answers.{IsReply, IsRefused}
use Rattle.route_engine.specs.Transactions as x
use Rattle.route_engine.specs.Transactions.{TransactionStatement, Transaction, PassAndTx, IsCommitted, GivesIn, GivesAt, IsReplyTo, IsRefusedIn, IsRefusedBy, IsRefusedNow, IsRefusedAt}
use Rattle.route_engine.proofs.Over.{reply_on, refusal_on}
use Rattle.route_engine.proofs.Sessions.{same_session}

pub record Follows (o : Opening) (p now : PassView Entry) : Type 0 where
  pub later : IsPrefix p.seen now.seen
  pub legal : IsLegal (MayFollow o) p.seen → IsLegal (MayFollow o) now.seen
  pub session : now.session ≡ p.session

module _ (o : Opening) (l : Limits) where
  pub stays : (p : PassView Entry) → Follows o p p
  stays p = record { later = prefix_self p.seen; legal = λ h. h; session = refl }

  -- of the numbered pass
  numbered : (p now : PassView Entry) → Follows o (counted p) now → Follows o p now
  numbered p now f = record { later = f.later; legal = f.legal; session = f.session }

  looked_on : (slot : ℕ) (p now : PassView Entry) → HasLooked o slot p now → Follows o p now
  looked_on slot p now looked =
      record { later = looked.later; legal = λ h. looked.legal; session = ap (λ (q : PassView Entry). q.session) looked.pass }

  gone_on : (p now : PassView Entry) → HasGone o p now → Follows o p now
  gone_on p now gone =
      record { later = gone.1.later; legal = λ h. gone.1.legal; session = ap (λ (q : PassView Entry). q.session) gone.1.pass }

  pub committed_later : (s : ShardRecord) (p : PassView Entry) (steps : List TransactionStatement) (now : PassView Entry) (c : IsCommitted o l s p steps now) → IsPrefix c.before now.seen
  committed_later s p steps now c = (_, sym c.seen)

  committed_on : (s : ShardRecord) (p : PassView Entry) (steps : List TransactionStatement) (now : PassView Entry) → IsCommitted o l s p steps now → Follows o p now
  committed_on s p steps now c = record {
    later = prefix_trans p.seen c.before now.seen (prefix_trans p.seen c.looked.seen c.before c.look.later c.later) (committed_later s p steps now c);
    legal = λ h. c.legal;
    session = ap (λ (q : PassView Entry). q.session) c.pass ∙ ap (λ (q : PassView Entry). q.session) c.look.pass;
  }

  gives_in_on : (p : PassView Entry) (tx : Transaction) (t : Typed) (reply : Reply) (now : PassAndTx) → GivesIn o l p tx t reply now → Follows o p now.pass
  gives_in_on p tx _ _ _ (x.nowhere none over) = stays p
  gives_in_on p tx _ _ _ (x.on_shard {now = now} s seats needs all looked serves clear over) = looked_on s.slot p now looked
  gives_in_on p tx _ _ _ (x.commits_nothing none) = stays p
  gives_in_on p tx _ _ _ (x.commits_reads {now} s used none looked serves clear over) = looked_on s.slot p now looked
  gives_in_on p tx _ _ _ (x.commits_writes {now} s used some c) = committed_on s p tx.steps now c
  gives_in_on p tx _ _ _ x.rolls_back = stays p

  module _ (text : List ℕ) where
    reply_follows : (p now : PassView Entry) (reply : Reply) → IsReply o l (counted p) text reply now → Follows o p now
    reply_follows p now reply is =
        let on = reply_on o l p now text reply is in
        record { later = on.later; legal = on.legal; session = same_session o l (counted p) now text (Ok reply) is tt }

    refused_follows : (p now : PassView Entry) (e : Refusal) → IsRefused o l (counted p) text e now → Follows o p now
    refused_follows p now e why =
        let on = refusal_on o l p text e now (a.numbered why) in
        record { later = on.later; legal = on.legal; session = same_session o l (counted p) now text (Err e) tt why }

    gives_at_on : (p : PassView Entry) (tx : Option Transaction) (t : Typed) (reply : Reply) (now : PassAndTx) (tree : Statement) → Reads text tree
        → typed_statement o.schema tree ≡ Ok t → GivesAt o l (counted p) tx t reply now → Follows o p now.pass
    gives_at_on p _ t reply _ tree reads is (x.alone {now} gives) =
        reply_follows p now reply (record { statement = tree; typed = t; reads = reads; resolved = is; gives = gives })
    gives_at_on p _ _ _ _ tree reads is x.begins = numbered p (counted p) (stays (counted p))
    gives_at_on p _ _ _ _ tree reads is x.commits = numbered p (counted p) (stays (counted p))
    gives_at_on p _ _ _ _ tree reads is x.rolls_back = numbered p (counted p) (stays (counted p))
    gives_at_on p _ _ _ _ tree reads is (x.within {tx} {t} {reply} {now} gives) = numbered p now.pass (gives_in_on (counted p) tx t reply now gives)

    pub answer_on : (s now : PassAndTx) (reply : Reply) → IsReplyTo o l s text reply now → Follows o s.pass now.pass
    answer_on s now reply is = gives_at_on s.pass s.tx is.typed reply now is.statement is.reads is.resolved is.gives

    refused_in_on : (p : PassView Entry) (tx : Transaction) (t : Typed) (e : Refusal) (now : PassAndTx) → IsRefusedIn o l p tx t e now → Follows o p now.pass
    refused_in_on p tx _ _ _ (x.no_memory {now} gone) = gone_on p now gone
    refused_in_on p tx _ _ _ x.open_twice = stays p
    refused_in_on p tx _ _ _ (x.several {now = now} k seats none of found more gone) = gone_on p now gone
    refused_in_on p tx _ _ _ (x.another k u uses kept home partition seated of some other) = stays p
    refused_in_on p tx _ _ _ (x.elsewhere k seats u uses of away partition some) = stays p
    refused_in_on p tx _ _ _ (x.moved {now = now} s its looked mode) = looked_on s.slot p now looked
    refused_in_on p tx _ _ _ (x.conflict {now = now} s its looked serves is) = looked_on s.slot p now looked
    refused_in_on p tx _ _ _ (x.duplicate {now = now} s after its at over twice) = looked_on s.slot p now at.looked
    refused_in_on p tx _ _ _ (x.full {now} s changes its at wrote made over room) = looked_on s.slot p now at.looked

    refused_by_on : (p : PassView Entry) (tx : Option Transaction) (t : Typed) (e : Refusal) (now : PassAndTx) (tree : Statement) → Reads text tree
        → typed_statement o.schema tree ≡ Ok t → IsRefusedBy o l (counted p) tx t e now → Follows o p now.pass
    refused_by_on p _ _ e _ tree reads is (x.not_read {q} {now} why) = refused_follows p now e (a.not_read tree q reads is why)
    refused_by_on p _ _ e _ tree reads is (x.not_written {w} {now} why) = refused_follows p now e (a.not_written tree w reads is why)
    refused_by_on p _ t e now tree reads is (x.within {tx} why) = numbered p now.pass (refused_in_on (counted p) tx t e now why)

    refused_now_on : (s now : PassAndTx) (e : Refusal) → IsRefusedNow o l (x.numbered s) text e now → Follows o s.pass now.pass
    refused_now_on s _ _ x.no_memory = numbered s.pass (counted s.pass) (stays (counted s.pass))
    refused_now_on s _ _ (x.no_tree none) = numbered s.pass (counted s.pass) (stays (counted s.pass))
    refused_now_on s _ _ (x.not_typed tree reads is) = numbered s.pass (counted s.pass) (stays (counted s.pass))
    refused_now_on s now e (x.refused tree t reads is why) = refused_by_on s.pass s.tx t e now tree reads is why

    pub refusal_at_on : (s now : PassAndTx) (e : Refusal) → IsRefusedAt o l s text e now → Follows o s.pass now.pass
    refusal_at_on s _ _ (x.used_up many) = stays s.pass
    refusal_at_on s now e (x.refused why) = refused_now_on s now e why
