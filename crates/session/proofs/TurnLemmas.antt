-- How a conversation goes from one of its steps to the next.
use Rattle.std.proofs.Common.{◌≡◌, ℕ, true, List, [], ◌∷◌, ◌++◌, Option, Some, None, refl, sym, ap, subst, ◌∙◌}
use Rattle.std.specs.Prelude.{Result, Ok, Err, IfOk, IfSome, IsSome}
use Rattle.std.specs.Io.KnownBytes.{Appends, Consumes, IsAtEnd, append_known, prepend_known}
use Rattle.std.proofs.KnownBytes.{Appends-nil, Appends-trans, Consumes-nil, Consumes-trans}
use mathlib.Core.List.{IsPrefix}
use Rattle.vschema.specs.WellFormed.{is_vschema}
use Rattle.journal.specs.Runs.{IsLegal}
use Rattle.journal.specs.Views.{PassView}
use Rattle.shard_run.specs.declared.Entry.{Entry}
use Rattle.shard_run.specs.Runs.{Opening}
use Rattle.shard_run.specs.Openings.{IsOpening}
use Rattle.route_engine.specs.Entries.{MayFollow}
use Rattle.route_engine.specs.Limits.{Limits}
use Rattle.route_engine.specs.Pendings.{IsOf}
use Rattle.session.specs.declared.session_core.TheConstants.{COMMAND_LIMIT}
use Rattle.session.specs.declared.conversation.access.Handshake.{Handshake}
use Rattle.session.specs.declared.conversation.connection_state.ConnectionState.{ConnectionState}
use Rattle.session.specs.declared.conversation.connection_state.ConnectionState.TheVariants.{New}
use Rattle.session.specs.declared.conversation.end.End.{End}
use Rattle.session.specs.declared.conversation.end.End.TheVariants.{Quit, Closed, Truncated, Broken, Denied}
use Rattle.session.specs.declared.conversation.end.SessionFault.{SessionFault}
use Rattle.session.specs.declared.conversation.end.SessionFault.TheVariants.{Read, Write, Memory}
use Rattle.session.specs.conversation.ConnectionStates.{end_of}
use Rattle.session.specs.conversation.Devices.{AppendsFront}
use Rattle.session.specs.conversation.inner.Kept.{HasSent, StillRead}
use Rattle.session.specs.conversation.Faults.{HasBrokenOff}
use Rattle.session.specs.conversation.Means.{PassAndTransaction, IsKept, Means, none_open, context_of}
use Rattle.session.specs.conversation.Sessions.{SessionState, HasTalked, HasTalkedOn}
use Rattle.session.specs.conversation.Talk.{Talk, IsByCommand, IsByInput}
use Rattle.session.specs.Served.{HasTalkedWhole, HasTalkedAlone, HasStoppedReading, HasStoppedForMemory, HasStoppedWriting}
use Rattle.session.specs.Alone.{alone_first}
use Rattle.session.specs.Turns.{IsUnderWay, IsOver, IsUnderWayOrOver, IsConversation}
use Rattle.session.proofs.Alone.{served_alone}
use Rattle.session.proofs.Servings.{kept_none}
use Rattle.session.proofs.BrokenOff.{broken_short, goes_broken, goes_unfinished, talk_broken}
use Rattle.session.proofs.conversation.KeptLemmas.{none_unfed, all_unfed, end_kept, end_left, unsent_on, none_unsent, all_unsent, sent_on, grown_on, grown_front, cut_on, nil_right}

abbrev Known : Type 0
Known = Option (List ℕ)

abbrev Ending : Type 0
Ending = Result End SessionFault

no_input : (end : End) → IsByCommand end → IsByInput end → ⊥
no_input Quit by is = is
no_input Broken by is = is
no_input Denied by is = is
no_input Closed by is = by
no_input Truncated by is = by

module _ (o : Opening) (limits : Limits) (h : Handshake) (p now : PassView Entry) (unread rest taken told : Known) where
  -- ---- what an end says

  pub over_talk : (r : Ending) → IsOver o limits h p now unread rest taken told r → HasTalkedWhole o limits h p now unread rest taken told r
  over_talk (Ok end) is = is.0
  over_talk (Err e) is = tt

  pub over_read : (r : Ending) → IsOver o limits h p now unread rest taken told r → HasStoppedReading o limits h p now unread rest taken told r
  over_read (Ok end) is = λ wrong. absurd cc
  over_read (Err Read) is = is
  over_read (Err Memory) is = λ wrong. absurd cc
  over_read (Err Write) is = λ wrong. absurd cc

  pub over_memory : (r : Ending) → IsOver o limits h p now unread rest taken told r → HasStoppedForMemory o limits h p now unread rest taken told r
  over_memory (Ok end) is = λ wrong. absurd cc
  over_memory (Err Read) is = λ wrong. absurd cc
  over_memory (Err Memory) is = is
  over_memory (Err Write) is = λ wrong. absurd cc

  pub over_write : (r : Ending) → IsOver o limits h p now unread rest taken told r → HasStoppedWriting o limits h p now unread rest taken told r
  over_write (Ok end) is = λ wrong. absurd cc
  over_write (Err Read) is = λ wrong. absurd cc
  over_write (Err Memory) is = λ wrong. absurd cc
  over_write (Err Write) is = is

  pub over_alone : IsOpening o → is_vschema o.schema ≡ true → IsLegal (MayFollow o) p.seen → (r : Ending) → IsOver o limits h p now unread rest taken told r
      → HasTalkedAlone o limits h p now unread rest taken told r
  over_alone opens formed legal (Ok end) is = λ others. served_alone o limits h opens formed (alone_first o p) COMMAND_LIMIT New now end unread rest taken told legal is.0 others
  over_alone opens formed legal (Err e) is = tt

  -- ---- the same bytes, of which the device took others

  module _ (then : Known) (so : (written : List ℕ) → Appends taken told written → Appends taken then written) where
    pub over_told : (r : Ending) → IsOver o limits h p now unread rest taken told r → IsOver o limits h p now unread rest taken then r
    over_told (Ok end) is = ((is.0.0, is.0.1, is.0.2, so is.0.1 is.0.3, is.0.4), is.1)
    over_told (Err Read) is = λ e. let w = is e in (w.0, w.1, w.2, so w.1 w.3, w.4)
    over_told (Err Memory) is = λ e. let w = is e in (w.0, w.1, w.2, w.3, so w.2 w.4, w.5)
    over_told (Err Write) is = λ e. let w = is e in (w.0, w.1, w.2, so w.1 w.3, w.4)

    pub either_told : (core : SessionState) (ended : Option Ending) → IsUnderWayOrOver o limits h p now unread rest taken told core ended
        → IsUnderWayOrOver o limits h p now unread rest taken then core ended
    either_told core None is = (is.0, is.1, is.2, so is.1 is.3, is.4)
    either_told core (Some r) is = over_told r is

  -- once nothing is unsent
  pub some_over : (P : Ending → Type 0) (core : SessionState) (ended : Option Ending) (unsent : List ℕ) → unsent ≡ []
      → IsUnderWayOrOver o limits h p now unread rest taken (append_known told unsent) core ended
      → ((r : Ending) → IsOver o limits h p now unread rest taken told r → P r) → IfSome ended P
  some_over P core None unsent none is all = tt
  some_over P core (Some r) unsent none is all = all r (either_so r is)
    where
      either_so : (r : Ending) → IsOver o limits h p now unread rest taken (append_known told unsent) r → IsOver o limits h p now unread rest taken told r
      either_so (Ok end) is = ((is.0.0, is.0.1, is.0.2, none_unsent taken told unsent is.0.1 none is.0.3, is.0.4), is.1)
      either_so (Err Read) is = λ e. let w = is e in (w.0, w.1, w.2, none_unsent taken told unsent w.1 none w.3, w.4)
      either_so (Err Memory) is = λ e. let w = is e in (w.0, w.1, w.2, w.3, none_unsent taken told unsent w.2 none w.4, w.5)
      either_so (Err Write) is = λ e. let w = is e in (w.0, w.1, w.2, none_unsent taken told unsent w.1 none w.3, w.4)

-- where nothing was left before its end
pub over_left : (o : Opening) (limits : Limits) (h : Handshake) (p now : PassView Entry) (unread taken told : Known) (unfed : List ℕ) (k : Known) (r : Ending)
    → IsOver o limits h p now unread (prepend_known unfed k) taken told r → IfOk r (λ end. IsByInput end → IsAtEnd k)
over_left o limits h p now unread taken told unfed k (Ok end) is = λ by. end_left unfed k (is.1 by)
over_left o limits h p now unread taken told unfed k (Err e) is = tt

-- one that goes on
pub still_open : (o : Opening) (limits : Limits) (h : Handshake) (p now : PassView Entry) (unread rest taken told : Known) (unsent : List ℕ) (core : SessionState) (ended : Option Ending) → ended ≡ None
    → IsConversation o limits h p now unread rest taken told unsent core ended → IsConversation o limits h p now unread rest taken told unsent core None
still_open o limits h p now unread rest taken told unsent core ended none is =
    subst (λ (x : Option Ending). IsConversation o limits h p now unread rest taken told unsent core x) none is

pub with_ended : (o : Opening) (limits : Limits) (h : Handshake) (p now : PassView Entry) (unread rest taken told : Known) (unsent : List ℕ) (core : SessionState) (ended : Option Ending) → ended ≡ None
    → IsConversation o limits h p now unread rest taken told unsent core None → IsConversation o limits h p now unread rest taken told unsent core ended
with_ended o limits h p now unread rest taken told unsent core ended none is =
    subst (λ (x : Option Ending). IsConversation o limits h p now unread rest taken told unsent core x) (sym none) is

-- of a session that greets as it did
pub same_handshake : (o : Opening) (limits : Limits) (h then : Handshake) (p now : PassView Entry) (unread rest taken told : Known) (unsent : List ℕ) (core : SessionState) (ended : Option Ending) → then ≡ h
    → IsConversation o limits h p now unread rest taken told unsent core ended → IsConversation o limits then p now unread rest taken told unsent core ended
same_handshake o limits h then p now unread rest taken told unsent core ended same is =
    subst (λ (x : Handshake). IsConversation o limits x p now unread rest taken told unsent core ended) (sym same) is

-- of a device that has taken what it had
pub same_told : (o : Opening) (limits : Limits) (h : Handshake) (p now : PassView Entry) (unread rest taken told then : Known) (unsent : List ℕ) (core : SessionState) (ended : Option Ending) → then ≡ told
    → IsConversation o limits h p now unread rest taken told unsent core ended → IsConversation o limits h p now unread rest taken then unsent core ended
same_told o limits h p now unread rest taken told then unsent core ended same is =
    subst (λ (x : Known). IsConversation o limits h p now unread rest taken x unsent core ended) (sym same) is

-- one that is new
pub turn_begins : (o : Opening) (limits : Limits) (p then : PassView Entry) (unread k taken t : Known) (unfed unsent : List ℕ) (core : SessionState) → then ≡ p → unread ≡ k → taken ≡ t
    → unfed ≡ [] → unsent ≡ [] → core.framing.limit ≡ COMMAND_LIMIT → core.tx ≡ None → IsSome p.session → IsLegal (MayFollow o) p.seen
    → ((o : Opening) (l : Limits) (s : PassAndTransaction) → HasTalked (context_of o core.handshake) (Means o l) New core s [] [] s)
    → IsConversation o limits core.handshake then p unread (prepend_known unfed k) taken t unsent core None
turn_begins o limits p then unread k taken t unfed unsent core same_pass same_unread same_taken none_yet nothing limit none session legal begins = record {
  limit = limit;
  legal = subst (λ (x : PassView Entry). IsLegal (MayFollow o) x.seen) (sym same_pass) legal;
  session = session;
  sent = ([], grown);
  silent = λ fault e. absurd cc;
  talked = (
    [],
    [],
    all_unfed unread k unfed [] none_yet (subst (λ (x : Known). Consumes x k []) (sym same_unread) (Consumes-nil k)),
    all_unsent taken t unsent [] nothing grown,
    (none_open then, (same_pass, (kept_none o p core.tx none).1), begins o limits (none_open then)),
  );
}
  where
    grown : Appends taken t []
    grown = subst (λ (x : Known). Appends x t []) (sym same_taken) (Appends-nil t)

-- ---- sending

module _ (o : Opening) (limits : Limits) (h : Handshake) (p now : PassView Entry) (unread taken told then : Known) (unfed unsent left : List ℕ) (k l : Known) (same : l ≡ k)
    (core : SessionState) where
  -- the device took a front of what was unsent
  pub turn_sent : (ended : Option Ending) → IsConversation o limits h p now unread (prepend_known unfed k) taken told unsent core ended → HasSent told then unsent left
      → IsConversation o limits h p now unread (prepend_known unfed l) taken then left core ended
  turn_sent ended is sent =
      subst (λ (x : Known). IsConversation o limits h p now unread (prepend_known unfed x) taken then left core ended) (sym same)
      (record {
        limit = is.limit;
        legal = is.legal;
        session = is.session;
        sent = grown_on taken told then unsent [] left sent is.sent;
        silent = λ fault e. nil_right sent.0 left (sym sent.1 ∙ is.silent fault e);
        talked = either_told o limits h p now unread (prepend_known unfed k) taken (append_known told unsent) (append_known then left)
            (λ written. sent_on taken told then unsent written left sent) core ended is.talked;
      })

  -- it failed
  pub turn_cut : (ended : Option Ending) → IsConversation o limits h p now unread (prepend_known unfed k) taken told unsent core ended → (unsent ≡ [] → ⊥)
      → AppendsFront told then unsent → left ≡ [] → IsConversation o limits h p now unread (prepend_known unfed l) taken then left core (Some (Err Write))
  turn_cut ended is some cut none =
      subst (λ (x : Known). IsConversation o limits h p now unread (prepend_known unfed x) taken then left core (Some (Err Write))) (sym same)
      (record {
        limit = is.limit;
        legal = is.legal;
        session = is.session;
        sent = grown_front taken told then unsent [] cut is.sent;
        silent = λ fault e. none;
        talked = λ e. stopped ended is.silent is.talked;
      })
    where
      front : (written : List ℕ) → Appends taken (append_known told unsent) written → AppendsFront taken then written
      front written took = cut_on taken told then unsent written is.sent cut took

      stopped : (ended : Option Ending) → ((fault : SessionFault) → ended ≡ Some (Err fault) → unsent ≡ [])
          → IsUnderWayOrOver o limits h p now unread (prepend_known unfed k) taken (append_known told unsent) core ended
          → (read : List ℕ) × (written : List ℕ) × Consumes unread (prepend_known unfed k) read × Appends taken (append_known then left) written
          × ((s : PassAndTransaction) × (s.pass ≡ now) × HasBrokenOff COMMAND_LIMIT (context_of o h) (Means o limits) New (none_open p) read written s)
      stopped None silent u =
          let f = front u.1 u.3 in
          (u.0, f.0, u.2, all_unsent taken then left f.0 none f.2, (u.4.0, u.4.1.0, goes_broken (context_of o h) (Means o limits) (none_open p) COMMAND_LIMIT core u.0 u.1 f.0 u.4.0 is.limit u.4.2 f.1))
      stopped (Some (Ok end)) silent u =
          let w = u.0 in
          let f = front w.1 w.3 in
          (w.0, f.0, w.2, all_unsent taken then left f.0 none f.2, (w.4.0, w.4.1, talk_broken (context_of o h) (Means o limits) (none_open p) COMMAND_LIMIT w.0 w.1 f.0 end w.4.0 w.4.2 f.1))
      stopped (Some (Err e)) silent u = absurd (some (silent e refl))

-- ---- reading

module _ (o : Opening) (limits : Limits) (h : Handshake) (p now : PassView Entry) (unread taken told : Known) (unfed then unsent : List ℕ) (k l : Known)
    (core : SessionState) (is : IsConversation o limits h p now unread (prepend_known unfed k) taken told unsent core None) (none : unfed ≡ []) where
  before : Consumes unread k is.talked.0
  before = none_unfed unread k unfed is.talked.0 none is.talked.2

  pub turn_read : StillRead k (prepend_known then l) → IsConversation o limits h p now unread (prepend_known then l) taken told unsent core None
  turn_read so = record {
    limit = is.limit;
    legal = is.legal;
    session = is.session;
    sent = is.sent;
    silent = is.silent;
    talked = (is.talked.0, is.talked.1, so unread is.talked.0 before, is.talked.3, is.talked.4);
  }

  module _ (silence : unsent ≡ []) where
    pub turn_failed : StillRead k (prepend_known then l) → IsConversation o limits h p now unread (prepend_known then l) taken told unsent core (Some (Err Read))
    turn_failed so = record {
      limit = is.limit;
      legal = is.legal;
      session = is.session;
      sent = is.sent;
      silent = λ fault e. silence;
      talked = λ e. (
        is.talked.0,
        is.talked.1,
        so unread is.talked.0 before,
        is.talked.3,
        (is.talked.4.0, is.talked.4.1.0, goes_unfinished (context_of o h) (Means o limits) (none_open p) COMMAND_LIMIT core is.talked.0 is.talked.1 is.talked.4.0 is.limit is.talked.4.2),
      );
    }

    pub turn_starved : (piece : List ℕ) × Consumes k l piece → then ≡ [] → IsConversation o limits h p now unread (prepend_known then l) taken told unsent core (Some (Err Memory))
    turn_starved piece nothing = record {
      limit = is.limit;
      legal = is.legal;
      session = is.session;
      sent = is.sent;
      silent = λ fault e. silence;
      talked = λ e. (
        is.talked.0,
        piece.0,
        is.talked.1,
        all_unfed unread l then (is.talked.0 ++ piece.0) nothing (Consumes-trans unread k l is.talked.0 piece.0 before piece.1),
        is.talked.3,
        (is.talked.4.0, is.talked.4.1.0, goes_unfinished (context_of o h) (Means o limits) (none_open p) COMMAND_LIMIT core is.talked.0 is.talked.1 is.talked.4.0 is.limit is.talked.4.2),
      );
    }

  pub turn_ended : (end : End) → StillRead k (prepend_known then l) → then ≡ [] → IsAtEnd l
      → ((first s : PassAndTransaction) (bytes out : List ℕ) → HasTalked (context_of o h) (Means o limits) New core first bytes out s
      → Talk core.framing.limit (context_of o h) (Means o limits) New first bytes out end s)
      → IsConversation o limits h p now unread (prepend_known then l) taken told unsent core (Some (Ok end))
  turn_ended end so nothing ends whole = record {
    limit = is.limit;
    legal = is.legal;
    session = is.session;
    sent = is.sent;
    silent = λ fault e. absurd cc;
    talked = (
      (
        is.talked.0,
        is.talked.1,
        so unread is.talked.0 before,
        is.talked.3,
        (
          is.talked.4.0,
          is.talked.4.1.0,
          subst (λ (n : ℕ). Talk n (context_of o h) (Means o limits) New (none_open p) is.talked.0 is.talked.1 end is.talked.4.0) is.limit
              (whole (none_open p) is.talked.4.0 is.talked.0 is.talked.1 is.talked.4.2),
        ),
      ),
      λ by. end_kept l then nothing ends,
    );
  }

-- ---- feeding

module _ (o : Opening) (limits : Limits) (h : Handshake) (p now after : PassView Entry) (unread rest then taken told : Known) (unsent left piece : List ℕ) (core next : SessionState)
    (is : IsConversation o limits h p now unread rest taken told unsent core None) (fed : Consumes rest then piece) where
  pub turn_kept : IsOf o core.tx now
  turn_kept = (is.talked.4.0.tx, is.talked.4.1.1)

  read_on : Consumes unread then (is.talked.0 ++ piece)
  read_on = Consumes-trans unread rest then is.talked.0 piece is.talked.2 fed

  module _ (limit : next.framing.limit ≡ core.framing.limit) (session : IsSome after.session) where
    abbrev Said : (List ℕ → List ℕ → PassAndTransaction → PassAndTransaction → Type 0) → Type 0
    Said P = (first s : PassAndTransaction) (bytes out : List ℕ) → IsKept o now core.tx s → HasTalked (context_of o h) (Means o limits) New core first bytes out s
        → (written : List ℕ) × (left ≡ unsent ++ written) × ((t : PassAndTransaction) × IsKept o after next.tx t × P (bytes ++ piece) (out ++ written) first t)

    wrote_on : (written : List ℕ) → left ≡ unsent ++ written → Appends taken (append_known told left) (is.talked.1 ++ written)
    wrote_on written more =
        Appends-trans taken (append_known told unsent) (append_known told left) is.talked.1 written is.talked.3 (unsent_on told unsent left written more)

    pub turn_fed : (end : Option End) → end ≡ None → Said (λ bytes out first t. HasTalkedOn (context_of o h) (Means o limits) New next first bytes out end t)
        → IsConversation o limits h p after unread then taken told left next None
    turn_fed end goes said = record {
      limit = limit ∙ is.limit;
      legal = is.legal;
      session = session;
      sent = is.sent;
      silent = λ fault e. absurd cc;
      talked =
          let w = said (none_open p) is.talked.4.0 is.talked.0 is.talked.1 is.talked.4.1 is.talked.4.2 in (
            is.talked.0 ++ piece,
            is.talked.1 ++ w.0,
            read_on,
            wrote_on w.0 w.1,
            (
              w.2.0,
              w.2.1,
              subst (λ (x : Option End). HasTalkedOn (context_of o h) (Means o limits) New next (none_open p) (is.talked.0 ++ piece) (is.talked.1 ++ w.0) x w.2.0) goes w.2.2,
            ),
          );
    }

    pub turn_over : (x : Option End) (end : End) → x ≡ Some end → (end_of core.connection_state ≡ None → IfSome x IsByCommand)
        → Said (λ bytes out first t. HasTalkedOn (context_of o h) (Means o limits) New next first bytes out x t)
        → IsConversation o limits h p after unread then taken told left next (Some (Ok end))
    turn_over x end ends by said =
        let w = said (none_open p) is.talked.4.0 is.talked.0 is.talked.1 is.talked.4.1 is.talked.4.2 in
        record {
          limit = limit ∙ is.limit;
          legal = is.legal;
          session = session;
          sent = is.sent;
          silent = λ fault e. absurd cc;
          talked = (
            (
              is.talked.0 ++ piece,
              is.talked.1 ++ w.0,
              read_on,
              wrote_on w.0 w.1,
              (
                w.2.0,
                w.2.1.0,
                subst (λ (n : ℕ). Talk n (context_of o h) (Means o limits) New (none_open p) (is.talked.0 ++ piece) (is.talked.1 ++ w.0) end w.2.0) (limit ∙ is.limit)
                    (subst (λ (y : Option End). HasTalkedOn (context_of o h) (Means o limits) New next (none_open p) (is.talked.0 ++ piece) (is.talked.1 ++ w.0) y w.2.0) ends w.2.2),
              ),
            ),
            λ input. absurd (no_input end (subst (λ (y : Option End). IfSome y IsByCommand) ends (by is.talked.4.2.goes_on)) input),
          );
        }

    module _ (silence : unsent ≡ []) (kept : List ℕ) (empty : kept ≡ []) where
      took : Appends taken told is.talked.1
      took = none_unsent taken told unsent is.talked.1 silence is.talked.3

      -- there was no memory for the reply: what the device has taken is a front of what was written
      pub turn_broken : Said (λ bytes out first t. HasBrokenOff core.framing.limit (context_of o h) (Means o limits) New first bytes out t)
          → IsConversation o limits h p after unread then taken told kept next (Some (Err Write))
      turn_broken said =
          let w = said (none_open p) is.talked.4.0 is.talked.0 is.talked.1 is.talked.4.1 is.talked.4.2 in
          record {
            limit = limit ∙ is.limit;
            legal = is.legal;
            session = session;
            sent = is.sent;
            silent = λ fault e. empty;
            talked = λ e. (
              is.talked.0 ++ piece,
              is.talked.1,
              read_on,
              all_unsent taken told kept is.talked.1 empty took,
              (
                w.2.0,
                w.2.1.0,
                broken_short (context_of o h) (Means o limits) (none_open p) COMMAND_LIMIT New (is.talked.0 ++ piece) (is.talked.1 ++ w.0) is.talked.1 w.2.0
                    (subst (λ (n : ℕ). HasBrokenOff n (context_of o h) (Means o limits) New (none_open p) (is.talked.0 ++ piece) (is.talked.1 ++ w.0) w.2.0) is.limit w.2.2)
                    (w.0, refl),
              ),
            );
          }

      -- there was none for the piece
      pub turn_unread : after ≡ now → IsConversation o limits h p after unread then taken told kept next (Some (Err Memory))
      turn_unread same = record {
        limit = limit ∙ is.limit;
        legal = is.legal;
        session = session;
        sent = is.sent;
        silent = λ fault e. empty;
        talked = λ e. (
          is.talked.0,
          piece,
          is.talked.1,
          read_on,
          all_unsent taken told kept is.talked.1 empty took,
          (
            is.talked.4.0,
            is.talked.4.1.0 ∙ sym same,
            goes_unfinished (context_of o h) (Means o limits) (none_open p) COMMAND_LIMIT core is.talked.0 is.talked.1 is.talked.4.0 is.limit is.talked.4.2,
          ),
        );
      }
