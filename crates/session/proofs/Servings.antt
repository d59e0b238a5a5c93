-- What was read and written so far, piece by piece.
use Rattle.std.proofs.Common.{◌≡◌, ℕ, ◌≤◌, arith, lit<, inl, List, [], ◌++◌, Option, Some, None, refl, sym, subst, ◌∙◌}
use Rattle.std.specs.Prelude.{IfOk, Result, Ok, Err}
use Rattle.std.specs.Io.KnownBytes.{Appends, Consumes, Keeps}
use Rattle.std.proofs.KnownBytes.{Appends-trans, Consumes-trans, Consumes-kept}
use Rattle.resultset.specs.declared.Outcome.{Outcome}
use Rattle.session.specs.declared.conversation.end.End.{End}
use Rattle.session.specs.declared.conversation.end.SessionFault.{SessionFault}
use Rattle.session.specs.declared.conversation.connection_state.ConnectionState.{ConnectionState}
use Rattle.session.specs.declared.conversation.connection_state.ConnectionState.TheVariants as connection_state
use Rattle.journal.specs.Views.{PassView}
use Rattle.shard_run.specs.declared.Entry.{Entry}
use Rattle.shard_run.specs.Runs.{Opening}
use Rattle.route_engine.specs.Pendings as stands
use Rattle.route_engine.specs.Pendings.{OpenView, Represents}
use Rattle.session.specs.conversation.Means.{PassAndTransaction, IsKept, none_open}
use Rattle.session.specs.conversation.Faults.{HasBrokenOff, IsUnfinished}
use Rattle.session.specs.conversation.ConnectionStates.{end_of}
use Rattle.session.specs.conversation.Talk.{SessionContext, Talk}
use Rattle.session.specs.conversation.Talk as t
use Rattle.session.specs.conversation.Sessions.{SessionState, HasTalked, HasTalkedOn}

abbrev Known : Type 0
Known = Option (List ℕ)

le_zero : (n : ℕ) → 0 ≤ n
le_zero n = omega arith

-- what was read and written so far, of which this holds
abbrev pub SoFar : Known → Known → Known → Known → (List ℕ → List ℕ → Type 0) → Type 0
SoFar a b c d P = (read : List ℕ) × (written : List ℕ) × Consumes a b read × Appends c d written × P read written

pub served : {S : Type 0} (context : SessionContext S) (May : S → List ℕ → Outcome → S → Type 0) (Old New : S → Type 0) (old new : SessionState) (a b c d : Known) (piece : List ℕ) (r : Result (Option End) SessionFault) → Consumes a b piece
    → IfOk r (λ end. (begin : ConnectionState) (first s : S) (bytes out : List ℕ) → Old s → HasTalked context May begin old first bytes out s
    → (written : List ℕ) × Appends c d written × ((now : S) × New now × HasTalkedOn context May begin new first (bytes ++ piece) (out ++ written) end now))
    → IfOk r (λ end. (begin : ConnectionState) (first s : S) (bytes out : List ℕ) → Old s → HasTalked context May begin old first bytes out s
    → SoFar a b c d (λ read written. (now : S) × New now × HasTalkedOn context May begin new first (bytes ++ read) (out ++ written) end now))
served context May Old New old new a b c d piece (Ok end) takes said =
    λ begin first s bytes out held before. let q = said begin first s bytes out held before in (piece, q.0, takes, q.1, q.2)
served context May Old New old new a b c d piece (Err e) takes said = tt

module _ {S : Type 0} (context : SessionContext S) (May : S → List ℕ → Outcome → S → Type 0) (begin : ConnectionState) (first : S) where
  -- nothing has been read
  pub unstarted : (limit : ℕ) → IsUnfinished limit context May connection_state.New first [] [] first
  unstarted limit = record {
    payloads = [];
    rest = [];
    connection_state = connection_state.New;
    goes_on = refl;
    read = record { whole = refl; each = tt; partial = (0, [], [], lit< tt, (tt, le_zero limit), refl, inl (lit< tt)) };
    replies = t.new;
  }

  unfinished : (mid : S) (core : SessionState) (limit : ℕ) (bytes out : List ℕ) → core.framing.limit ≡ limit → HasTalked context May begin core first bytes out mid
      → IsUnfinished limit context May begin first bytes out mid
  unfinished mid core limit bytes out same talked =
      let L : ℕ → Type 0 = λ n. IsUnfinished n context May begin first bytes out mid in
      subst L same (record { payloads = talked.payloads; rest = core.framing.rest; connection_state = core.connection_state; goes_on = talked.goes_on; read = talked.read.splits; replies = talked.replies })

module _ {S : Type 0} (context : SessionContext S) (May : S → List ℕ → Outcome → S → Type 0) (begin : ConnectionState) (first : S) (New : S → Type 0) where
  pub still_goes_on : (new : SessionState) (a c d f : Known) (end : Option End) → end ≡ None
      → SoFar a c d f (λ read written. (now : S) × New now × HasTalkedOn context May begin new first read written end now)
      → SoFar a c d f (λ read written. (now : S) × New now × HasTalked context May begin new first read written now)
  still_goes_on new a c d f end is r =
      let P : Option End → Type 0 = λ o. HasTalkedOn context May begin new first r.0 r.1 o r.4.0 in
      (r.0, r.1, r.2, r.3, (r.4.0, r.4.1, subst P is r.4.2))

  pub has_ended : (new : SessionState) (a c d f : Known) (limit : ℕ) (o : Option End) (end : End) → o ≡ Some end → new.framing.limit ≡ limit
      → SoFar a c d f (λ read written. (now : S) × New now × HasTalkedOn context May begin new first read written o now)
      → SoFar a c d f (λ read written. (now : S) × New now × Talk limit context May begin first read written end now)
  has_ended new a c d f limit o end is same r =
      let P : Option End → Type 0 = λ x. HasTalkedOn context May begin new first r.0 r.1 x r.4.0 in
      let L : ℕ → Type 0 = λ n. Talk n context May begin first r.0 r.1 end r.4.0 in
      (r.0, r.1, r.2, r.3, (r.4.0, r.4.1, subst L same (subst P is r.4.2)))

  pub still_open : (new : SessionState) (a c d f : Known)
      → SoFar a c d f (λ read written. (now : S) × New now × HasTalked context May begin new first read written now) → end_of new.connection_state ≡ None
  still_open new a c d f r = r.4.2.goes_on

  -- ---- a fault

  -- the source failed, and the rest is as it was
  pub stopped : (core : SessionState) (limit : ℕ) (a b c d e f : Known) → core.framing.limit ≡ limit
      → SoFar a b d e (λ read written. (now : S) × New now × HasTalked context May begin core first read written now) → Keeps b c → f ≡ e
      → SoFar a c d f (λ read written. (now : S) × New now × IsUnfinished limit context May begin first read written now)
  stopped core limit a b c d e f same before kept sink = (
    before.0,
    before.1,
    Consumes-kept a b c before.0 before.2 kept,
    subst (λ (k : Known). Appends d k before.1) (sym sink) before.3,
    (before.4.0, before.4.1, unfinished context May begin first before.4.0 core limit before.0 before.1 same before.4.2),
  )

  -- a piece was read for which there is no memory
  pub starved : (core : SessionState) (limit : ℕ) (a b c d e f : Known) → core.framing.limit ≡ limit
      → SoFar a b d e (λ read written. (now : S) × New now × HasTalked context May begin core first read written now) → (piece : List ℕ) × Consumes b c piece → f ≡ e
      → (read : List ℕ) × (piece : List ℕ) × (written : List ℕ) × Consumes a c (read ++ piece) × Appends d f written
      × ((now : S) × New now × IsUnfinished limit context May begin first read written now)
  starved core limit a b c d e f same before piece sink = (
    before.0,
    piece.0,
    before.1,
    Consumes-trans a b c before.0 piece.0 before.2 piece.1,
    subst (λ (k : Known). Appends d k before.1) (sym sink) before.3,
    (before.4.0, before.4.1, unfinished context May begin first before.4.0 core limit before.0 before.1 same before.4.2),
  )

-- a piece more, in a session that greets as it did
module _ {S H : Type 0} (context : H → SessionContext S) (May : S → List ℕ → Outcome → S → Type 0) (begin : ConnectionState) (first : S) (Old New : S → Type 0) (k h : H) (same : h ≡ k) where
  talked_so : (core : SessionState) (bytes out : List ℕ) (mid : S) → HasTalked (context k) May begin core first bytes out mid
      → HasTalked (context h) May begin core first bytes out mid
  talked_so core bytes out mid talked = subst (λ (x : H). HasTalked (context x) May begin core first bytes out mid) (sym same) talked

  pub one_more : (old new : SessionState) (a b c d e f : Known) (end : Option End)
      → SoFar a b d e (λ read written. (now : S) × Old now × HasTalked (context k) May begin old first read written now)
      → ((begin : ConnectionState) (first s : S) (bytes out : List ℕ) → Old s → HasTalked (context h) May begin old first bytes out s
      → SoFar b c e f (λ read written. (now : S) × New now × HasTalkedOn (context h) May begin new first (bytes ++ read) (out ++ written) end now))
      → SoFar a c d f (λ read written. (now : S) × New now × HasTalkedOn (context k) May begin new first read written end now)
  one_more old new a b c d e f end before said =
      let next = said begin first before.4.0 before.0 before.1 before.4.1 (talked_so old before.0 before.1 before.4.0 before.4.2) in (
        before.0 ++ next.0,
        before.1 ++ next.1,
        Consumes-trans a b c before.0 next.0 before.2 next.2,
        Appends-trans d e f before.1 next.1 before.3 next.3,
        (next.4.0, next.4.1, subst (λ (x : H). HasTalkedOn (context x) May begin new first (before.0 ++ next.0) (before.1 ++ next.1) end next.4.0) same next.4.2),
      )

  -- the sink failed
  pub cut_short : (core : SessionState) (limit : ℕ) (a b c d e f : Known) → core.framing.limit ≡ limit
      → SoFar a b d e (λ read written. (now : S) × Old now × HasTalked (context k) May begin core first read written now)
      → ((begin : ConnectionState) (first s : S) (bytes out : List ℕ) → Old s → HasTalked (context h) May begin core first bytes out s
      → SoFar b c e f (λ read written. (now : S) × New now × HasBrokenOff core.framing.limit (context h) May begin first (bytes ++ read) (out ++ written) now))
      → SoFar a c d f (λ read written. (now : S) × New now × HasBrokenOff limit (context k) May begin first read written now)
  cut_short core limit a b c d e f same_limit before said =
      let next = said begin first before.4.0 before.0 before.1 before.4.1 (talked_so core before.0 before.1 before.4.0 before.4.2) in
      let bytes : List ℕ = before.0 ++ next.0 in
      let out : List ℕ = before.1 ++ next.1 in
      let now : S = next.4.0 in (
        bytes,
        out,
        Consumes-trans a b c before.0 next.0 before.2 next.2,
        Appends-trans d e f before.1 next.1 before.3 next.3,
        (
          now,
          next.4.1,
          subst (λ (n : ℕ). HasBrokenOff n (context k) May begin first bytes out now) same_limit
              (subst (λ (x : H). HasBrokenOff core.framing.limit (context x) May begin first bytes out now) same next.4.2),
        ),
      )

-- Of what is kept the pass alone is told.
module _ {S : Type 0} (New Pass : S → Type 0) (only : (s : S) → New s → Pass s) where
  pub told_pass : (P : S → Type 0) → (now : S) × New now × P now → (now : S) × Pass now × P now
  told_pass P r = (r.0, only r.0 r.1, r.2)

  pub told_passes : (P : List ℕ → List ℕ → S → Type 0) (a b c d : Known) → SoFar a b c d (λ read written. (now : S) × New now × P read written now)
      → SoFar a b c d (λ read written. (now : S) × Pass now × P read written now)
  told_passes P a b c d r = (r.0, r.1, r.2, r.3, told_pass (P r.0 r.1) r.4)

-- what is kept is of this pass
pub kept_pass : (o : Opening) (p q : PassView Entry) (kept : Option OpenView) → q ≡ p → (s : PassAndTransaction) → IsKept o p kept s → s.pass ≡ q
kept_pass o p q kept same s is = is.0 ∙ sym same

-- none is open
pub kept_none : (o : Opening) (p : PassView Entry) (kept : Option OpenView) → kept ≡ None → IsKept o p kept (none_open p)
kept_none o p kept none = (refl, subst (λ (k : Option OpenView). Represents o p k None) (sym none) stands.closed)
