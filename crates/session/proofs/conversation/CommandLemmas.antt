-- BEGIN, where no transaction is open, and COMMIT give no rows.
use Rattle.std.proofs.Common.{◌≡◌, ◌∙◌, ℕ, List, [], ◌∷◌, length, Option, Some, None, Ok, refl, sym, subst, arith, lit≤, inl, inr}
use Rattle.std.specs.Prelude.{codes, Result}
use Rattle.vt_value.specs.declared.refusal.Refusal.{Refusal}
use Rattle.sql_lexer.specs.declared.token.Token.{Token}
use Rattle.sql_lexer.specs.declared.token.TokenKind.TheVariants as kind
use Rattle.sql_lexer.specs.declared.token.Keyword.TheVariants as k
use Rattle.sql_lexer.specs.Lexemes.{lexemes_of}
use Rattle.sql_lexer.specs.Lexemes as lexeme
use Rattle.sql_lexer.specs.Tokens.{Lexes}
use Rattle.sql_lexer.specs.Tokens as lexes
use Rattle.sql_lexer.proofs.Lexes.{lex_again}
use Rattle.sql_lexer.proofs.Options.{some_is}
use Rattle.sql_tree.specs.declared.Statement.{Statement}
use Rattle.sql_tree.specs.declared.Statement.TheVariants.{Begin, Commit}
use Rattle.sql_parser.specs.Grammar.{Reads}
use Rattle.sql_parser.specs.Grammar as grammar
use Rattle.sql_parser.specs.inner.Reading.{text_at}
use Rattle.sql_parser.proofs.Statements.{text_again}
use Rattle.vschema.specs.declared.schema.Typed.{Typed}
use Rattle.vschema.specs.declared.schema.Typed.TheVariants as typed
use Rattle.vschema.specs.TypedStatement.{typed_statement}
use Rattle.resultset.specs.declared.Outcome.TheVariants as outcome
use Rattle.journal.specs.Views.{PassView}
use Rattle.shard_run.specs.declared.Entry.{Entry}
use Rattle.shard_run.specs.Runs.{Opening}
use Rattle.route_engine.specs.Limits.{Limits}
use Rattle.route_engine.specs.Answer.{Answer}
use Rattle.route_engine.specs.Answer.TheVariants.{Count}
use Rattle.route_engine.specs.Reply.{Reply}
use Rattle.route_engine.specs.Answers.{Gives}
use Rattle.route_engine.specs.Answers as alone
use Rattle.route_engine.specs.Transactions.{Transaction, PassAndTx, GivesIn, GivesAt, NeedsNone, statement_keyspace, IsReplyTo}
use Rattle.route_engine.specs.Transactions as x
use Rattle.route_engine.specs.Pendings.{OpenView, Represents}
use Rattle.route_engine.specs.Pendings as stands
use Rattle.session.specs.conversation.Means.{PassAndTransaction, Means, Shows}
use Rattle.session.specs.conversation.Means as q
use Rattle.session.specs.conversation.inner.Means.{GivesNoRows}

-- ---- their trees

same_tokens : (text : List ℕ) (ts us : List Token) → Lexes text ts → Lexes text us → ts ≡ us
same_tokens text ts us p r = some_is ts us (sym (lex_again p (length text) (omega arith)) ∙ lex_again r (length text) (omega arith))

one_tree : (text : List ℕ) (a b : Statement) → Reads text a → Reads text b → a ≡ b
one_tree text a b p r =
    let same = same_tokens text r.0 p.0 r.1 p.1 in
    let first = text_again (lexemes_of text p.0) a p.2 (p.3, p.4) in
    let second = text_again (lexemes_of text r.0) b r.2 (r.3, r.4) in
    some_is a b (sym first ∙ subst (λ ts. text_at (lexemes_of text ts) ≡ Some b) same second)

reads_begin : Reads (codes "BEGIN") Begin
reads_begin = (
  record { kind = kind.Keyword k.Begin; start = 0; end = 5 } ∷ [],
  lexes.token {bytes = codes "BEGIN"} (lexeme.keyword_word k.Begin refl) refl lexes.end,
  grammar.statement grammar.begin,
  lit≤ tt,
  refl,
)

reads_commit : Reads (codes "COMMIT") Commit
reads_commit = (
  record { kind = kind.Keyword k.Commit; start = 0; end = 6 } ∷ [],
  lexes.token {bytes = codes "COMMIT"} (lexeme.keyword_word k.Commit refl) refl lexes.end,
  grammar.statement grammar.commit,
  lit≤ tt,
  refl,
)

same_typed : (t u : Typed) → ◌≡◌ {A = Result Typed Refusal} (Ok t) (Ok u) → t ≡ u
same_typed t u e = cc

-- ---- what they give

module _ (o : Opening) (l : Limits) where
  no_begin : (p now : PassView Entry) (t : Typed) (reply : Reply) → Gives o l p t reply now → t ≡ typed.Begin → ⊥
  no_begin p _ _ _ (alone.selects is_read) is = cc
  no_begin p _ _ _ (alone.writes is_written) is = cc
  no_begin p _ _ _ alone.sets_names is = cc

  no_commit : (p now : PassView Entry) (t : Typed) (reply : Reply) → Gives o l p t reply now → t ≡ typed.Commit → ⊥
  no_commit p _ _ _ (alone.selects is_read) is = cc
  no_commit p _ _ _ (alone.writes is_written) is = cc
  no_commit p _ _ _ alone.sets_names is = cc

  begin_counts : (p : PassView Entry) (tx : Option Transaction) (t : Typed) (reply : Reply) (now : PassAndTx) → GivesAt o l p tx t reply now → tx ≡ None → t ≡ typed.Begin
      → reply.answer ≡ Count 0
  begin_counts p _ t reply _ (x.alone {now} gives) none is = absurd (no_begin p now t reply gives is)
  begin_counts p _ _ _ _ x.begins none is = refl
  begin_counts p _ _ _ _ x.commits none is = refl
  begin_counts p _ _ _ _ x.rolls_back none is = refl
  begin_counts p _ _ _ _ (x.within {tx} gives) none is = absurd (cc)

  commit_within : (p : PassView Entry) (tx : Transaction) (t : Typed) (reply : Reply) (now : PassAndTx) → GivesIn o l p tx t reply now → t ≡ typed.Commit
      → reply.answer ≡ Count 0
  commit_within p tx t _ _ (x.nowhere none over) is = absurd (subst (NeedsNone o) is none)
  commit_within p tx t _ _ (x.on_shard s seats needs all looked serves clear over) is =
      let none : statement_keyspace o typed.Commit ≡ Some s.place.keyspace = subst (λ (u : Typed). statement_keyspace o u ≡ Some s.place.keyspace) is needs.keyspace in
      absurd (cc)
  commit_within p tx _ _ _ (x.commits_nothing none) is = refl
  commit_within p tx _ _ _ (x.commits_reads s used none looked serves clear over) is = refl
  commit_within p tx _ _ _ (x.commits_writes s used some c) is = refl
  commit_within p tx _ _ _ x.rolls_back is = refl

  commit_counts : (p : PassView Entry) (tx : Option Transaction) (t : Typed) (reply : Reply) (now : PassAndTx) → GivesAt o l p tx t reply now → t ≡ typed.Commit
      → reply.answer ≡ Count 0
  commit_counts p _ t reply _ (x.alone {now} gives) is = absurd (no_commit p now t reply gives is)
  commit_counts p _ _ _ _ x.begins is = refl
  commit_counts p _ _ _ _ x.commits is = refl
  commit_counts p _ _ _ _ x.rolls_back is = refl
  commit_counts p _ t reply now (x.within {tx} gives) is = commit_within p tx t reply now gives is

  -- nothing is kept of a transaction, where none is open
  none_stands_for : (p : PassView Entry) (kept : Option OpenView) (t : Option Transaction) → Represents o p kept t → kept ≡ None → t ≡ None
  none_stands_for p _ _ stands.closed none = refl
  none_stands_for p _ _ (stands.unbound legal all kept) none = absurd (cc)
  none_stands_for p _ _ (stands.bound is) none = absurd (cc)

  answer_counts : (text : List ℕ) (kept : Option OpenView) (s now : PassAndTransaction) (reply : Reply) → GivesNoRows text kept → Represents o s.pass kept s.tx
      → IsReplyTo o l s text reply now → reply.answer ≡ Count 0
  answer_counts text kept s now reply (inl (is_begin, none)) held is =
      let reads : Reads (codes "BEGIN") is.statement = subst (λ (bytes : List ℕ). Reads bytes is.statement) is_begin is.reads in
      let tree : is.statement ≡ Begin = one_tree (codes "BEGIN") is.statement Begin reads reads_begin in
      let resolved : typed_statement o.schema Begin ≡ Ok is.typed = subst (λ (y : Statement). typed_statement o.schema y ≡ Ok is.typed) tree is.resolved in
      begin_counts (x.numbered s).pass s.tx is.typed reply now is.gives (none_stands_for s.pass kept s.tx held none) (same_typed is.typed typed.Begin (sym resolved))
  answer_counts text kept s now reply (inr is_commit) held is =
      let reads : Reads (codes "COMMIT") is.statement = subst (λ (bytes : List ℕ). Reads bytes is.statement) is_commit is.reads in
      let tree : is.statement ≡ Commit = one_tree (codes "COMMIT") is.statement Commit reads reads_commit in
      let resolved : typed_statement o.schema Commit ≡ Ok is.typed = subst (λ (y : Statement). typed_statement o.schema y ≡ Ok is.typed) tree is.resolved in
      commit_counts (x.numbered s).pass s.tx is.typed reply now is.gives (same_typed is.typed typed.Commit (sym resolved))

  -- so their outcome is a count of none
  pub counts_none : (text : List ℕ) (kept : Option OpenView) (s now : PassAndTransaction) (reply : Reply) → GivesNoRows text kept → Represents o s.pass kept s.tx
      → IsReplyTo o l s text reply now → Means o l s text (outcome.Count 0) now
  counts_none text kept s now reply command held is =
      q.answered reply is (subst (λ (a : Answer). Shows o.schema a (outcome.Count 0)) (sym (answer_counts text kept s now reply command held is)) q.count)
