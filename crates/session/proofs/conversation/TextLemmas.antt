-- What a text gives, by its parts.
use Rattle.std.proofs.Common.{◌≡◌, ℕ, Bool, true, false, List, Option, Some, None, refl, sym, ap, subst, ◌∙◌, ◌⊎◌, inl, inr}
use Rattle.std.specs.Prelude.{◌↔◌, IsTrue, IsSome, IsNone, is_some, not, Result, Ok, Err, IfOk, IfErr, MatchResult}
use Rattle.vt_value.specs.declared.refusal.Refusal.{Refusal}
use Rattle.vt_value.specs.declared.refusal.Refusal.TheVariants.{OutOfMemory}
use Rattle.vt_value.specs.declared.refusal.Refusal.TheVariants as refused
use Rattle.sql_tree.specs.declared.Statement.{Statement}
use Rattle.sql_parser.specs.Grammar.{Reads}
use Rattle.resultset.specs.declared.Outcome.{Outcome}
use Rattle.resultset.specs.declared.Outcome.TheVariants.{Refused}
use Rattle.client_statements.specs.declared.statement.ClientStatement.{ClientStatement}
use Rattle.client_statements.specs.declared.statement.ClientStatement.TheVariants.{Set, NotSupported}
use Rattle.client_statements.specs.Asks.{Asks, IsSet}
use Rattle.journal.specs.Views.{PassView}
use Rattle.shard_run.specs.declared.Entry.{Entry}
use Rattle.shard_run.specs.Runs.{Opening}
use Rattle.route_engine.specs.Pendings.{OpenView}
use Rattle.session.specs.declared.conversation.connection_state.Settings.{Settings}
use Rattle.session.specs.conversation.SessionContext.{SessionContext}
use Rattle.session.specs.conversation.Means.{PassAndTransaction, IsKept}
use Rattle.session.specs.conversation.GivesText.{opens_one, OpensOne, RunsText, GivesText, is_not_run}
use Rattle.session.specs.conversation.GivesText as g
use Rattle.session.specs.conversation.inner.Means.{AnswersAsked, opens_read}
use Rattle.session.specs.conversation.inner.Means as inner
use Rattle.session.specs.conversation.inner.Tellings.{turns_on}
use Rattle.session.proofs.conversation.RepliesLemmas.{kept_status}

-- ---- whether a transaction is open

is_none : (kept : Option OpenView) (b : Bool) → b ≡ false → IsTrue b ↔ IsSome kept → is_some kept ≡ false
is_none None b off is = refl
is_none (Some v) b off is = let on : b ≡ true = is.1 refl in absurd (cc)

pub none_open : (o : Opening) (p : PassView Entry) (kept : Option OpenView) (s : PassAndTransaction) (b : Bool) → IsKept o p kept s → b ≡ false → IsTrue b ↔ IsSome kept
    → is_some s.tx ≡ false
none_open o p kept s b held off is = sym (kept_status o p kept s held) ∙ is_none kept b off is

pub one_open : (o : Opening) (p : PassView Entry) (kept : Option OpenView) (s : PassAndTransaction) (b : Bool) → IsKept o p kept s → b ≡ true → IsTrue b ↔ IsSome kept
    → is_some s.tx ≡ true
one_open o p kept s b held on is = sym (kept_status o p kept s held) ∙ is.0 on

no_view : (kept : Option OpenView) → is_some kept ≡ false → kept ≡ None
no_view None none = refl
no_view (Some v) none = absurd (cc)

pub none_kept : (o : Opening) (p : PassView Entry) (kept : Option OpenView) (s : PassAndTransaction) → IsKept o p kept s → is_some s.tx ≡ false → kept ≡ None
none_kept o p kept s held none = no_view kept (kept_status o p kept s held ∙ none)

-- ---- a text that was read

module _ (text : List ℕ) where
  -- opens one if it has such a tree
  pub read_opens : (read : Result Statement Refusal) → IfOk read (λ tree. Reads text tree)
      → ((tree : Statement) → Reads text tree → MatchResult read (λ t. t ≡ tree) (λ e. e ≡ OutOfMemory))
      → IfOk (opens_read read) (λ opens. opens ≡ true ↔ OpensOne text)
  read_opens (Ok tree) found only =
      (λ is. (tree, found, is), λ opens. ap (λ (t : Statement). opens_one t) (only opens.0 opens.1) ∙ opens.2)
  read_opens (Err OutOfMemory) found only = tt
  read_opens (Err _) found only = (λ is. absurd (cc), λ opens. let full = only opens.0 opens.1 in absurd (cc))

pub read_full : (read : Result Statement Refusal) → IfErr (opens_read read) (λ why. why ≡ OutOfMemory)
read_full (Ok tree) = tt
read_full (Err OutOfMemory) = refl
read_full (Err _) = tt

-- ---- statements

is_off : (b : Bool) → not b ≡ true → b ≡ false
is_off false off = refl
is_off true off = absurd (cc)

-- what turns autocommit on
pub turning : (set : Settings) (statement : ClientStatement) → turns_on set statement ≡ true → (statement ≡ Set (Some true)) × (set.autocommit ≡ false)
turning set (Set (Some true)) is = (refl, is_off set.autocommit is)
turning set (Set (Some false)) is = cc
turning set (Set None) is = cc
turning set _ is = cc

-- a text that was refused and isn't run
pub refused_is : (found : Option Refusal) (outcome : Outcome) (why : Refusal) → found ≡ Some why → IsNone found ↔ (is_not_run outcome ≡ false) → is_not_run outcome ≡ true
refused_is found outcome why is tells = by (is_not_run outcome) refl
  where
    by : (b : Bool) → is_not_run outcome ≡ b → is_not_run outcome ≡ true
    by true e = e
    by false e = let none : ◌≡◌ {A = Bool} true false = subst IsNone is (tells.1 e) in absurd (cc)

module _ {S : Type 0} (context : SessionContext S) (May : S → List ℕ → Outcome → S → Type 0) (set : Settings) where
  pub given_asked : (s mid now : S) (text : List ℕ) (outcome : Outcome) (why : Refusal) (reply : Outcome) (then : Settings) → RunsText context May set s text outcome mid
      → is_not_run outcome ≡ true → outcome ≡ Refused why → AnswersAsked context May set mid text (Refused why) reply then now
      → GivesText context May set s text reply then now
  given_asked s mid _ text outcome why _ _ runs not_run is (inner.asked statement is_asked answers) = g.asked statement runs not_run is_asked answers
  given_asked s mid _ text outcome why _ _ runs not_run is (inner.nothing none unsaid) =
      g.run (subst (λ (x : Outcome). RunsText context May set s text x mid) is runs) (λ e statement is_asked. none statement is_asked)
      (λ sets is_asked. none NotSupported is_asked) (λ e. unsaid)
  given_asked s mid _ text outcome why _ _ runs not_run is (inner.said {reply} {now} whole names none is_said again) =
      g.said whole names runs not_run none is_said again
  given_asked s mid _ text outcome why _ _ runs not_run is inner.unread = g.unread runs not_run

  -- a text that is refused before it is run
  pub gives_refusal : (s : S) (text : List ℕ) (why : Refusal) → (why ≡ OutOfMemory) ⊎ ((why ≡ refused.NotSupported) × IsSet text × Asks text NotSupported)
      → GivesText context May set s text (Refused why) set s
  gives_refusal s text why (inl full) = subst (λ (x : Refusal). GivesText context May set s text (Refused x) set s) (sym full) g.not_looked
  gives_refusal s text why (inr (is, sets, is_asked)) = subst (λ (x : Refusal). GivesText context May set s text (Refused x) set s) (sym is) (g.not_held sets is_asked)
