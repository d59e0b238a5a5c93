-- A conversation goes on: by the reply to one more payload, by the fault behind the payloads, by one more piece.
use Rattle.std.proofs.Common.{◌≡◌, ℕ, ◌+◌, ◌<◌, true, false, List, [], ◌∷◌, ◌++◌, length, take, drop, get_or, Option, Some, None, refl, sym, ap, subst, ◌∙◌, append_assoc}
use Rattle.std.proofs.lemmas.List.{take_more, take-append-drop}
use Rattle.std.specs.Prelude.{Bool, IsTrue, ◌↔◌, IsNone, IfSome, IfOk, OnErr, Result, Ok, Err}
use Rattle.std.specs.Io.KnownBytes.{Appends}
use Rattle.std.proofs.KnownBytes.{Appends-nil, Appends-trans}
use mathlib.Core.List.{IsPrefix}
use Rattle.journal.proofs.Fronts.{prefix_nil, prefix_more}
use Rattle.mysql_packet.specs.declared.framer.Payload.{Payload}
use Rattle.mysql_packet.specs.declared.framer.HeaderFault.{HeaderFault}
use Rattle.mysql_packet.specs.declared.framer.Fed.{Fed}
use Rattle.mysql_packet.specs.Framing.{Framing, HasFramed}
use Rattle.mysql_packet.specs.Frames.{Splits, IsRefusedAfter, frame}
use Rattle.resultset.specs.declared.Outcome.{Outcome}
use Rattle.session.specs.declared.conversation.end.End.{End}
use Rattle.session.specs.declared.conversation.end.SessionFault.{SessionFault}
use Rattle.session.specs.declared.conversation.end.End.TheVariants.{Quit, Closed, Truncated, Broken, Denied}
use Rattle.session.specs.declared.conversation.connection_state.Phase.{Phase}
use Rattle.session.specs.declared.conversation.connection_state.Phase.TheVariants.{Response}
use Rattle.mysql_handshake.specs.Handshakes.{greeting_payload}
use Rattle.session.specs.declared.conversation.connection_state.ConnectionState.{ConnectionState}
use Rattle.session.specs.declared.conversation.connection_state.ConnectionState.TheVariants.{New, At, Ended}
use Rattle.session.specs.conversation.Devices.{AppendsFront}
use Rattle.session.specs.conversation.Faults.{IsFrontOf, IsCutOff, HoldsPayloads, HasBrokenOff, IsUnfinished}
use Rattle.session.specs.conversation.Faults as f
use Rattle.mysql_handshake.specs.Native.{is_right}
use Rattle.vschema.specs.declared.schema.Keyspace.{Keyspace}
use Rattle.session.specs.declared.conversation.access.Handshake.{Handshake}
use Rattle.session.specs.declared.conversation.connection_state.PendingLogin.{PendingLogin}
use Rattle.session.specs.conversation.ConnectionStates.{end_of, HasGreeted, takes_commands, is_in_commands}
use Rattle.session.specs.conversation.Logins.{Admits, LogsIn, login_of}
use Rattle.session.specs.conversation.Logins as l
use Rattle.session.specs.conversation.Packets.{refusal_bytes, reply_number}
use Rattle.session.specs.conversation.Talk.{SessionContext, Greets, AnswersPayload, Replies, Conversation, Talk, IsByCommand, IsByInput, status_flags}
use Rattle.session.specs.conversation.Talk as t
use Rattle.session.specs.conversation.Sessions.{SessionState, HasTalked, HasTalkedOn, AnswersFed}
use Rattle.session.specs.conversation.inner.Sessions.{FedBy, command_payload, one_command}
use Rattle.session.specs.conversation.Sessions as s
use Rattle.session.proofs.conversation.RepliesLemmas.{go_on, talk_on, not_new, one_reply, stay_ended}

abbrev Known : Type 0
Known = Option (List ℕ)

pub on_err : {A E : Type 0} (r : Result A E) (P : Type 0) → P → OnErr r P
on_err (Ok x) P p = tt
on_err (Err e) P p = p

-- a fault that is passed on
pub same_fault : {A B : Type 0} (x y : SessionFault) → ◌≡◌ {A = Result A SessionFault} (Err x) (Err y) → ◌≡◌ {A = Result B SessionFault} (Err x) (Err y)
same_fault {A} {B} x y e =
    let same : x ≡ y = cc in subst (λ (f : SessionFault). ◌≡◌ {A = Result B SessionFault} (Err x) (Err f)) same refl

-- the device has taken some bytes, of which this holds
abbrev pub Written : Known → Known → (List ℕ → Type 0) → Type 0
Written a b P = (out : List ℕ) × Appends a b out × P out

prefix_after : {A : Type 0} (before xs ys : List A) → IsPrefix xs ys → IsPrefix (before ++ xs) (before ++ ys)
prefix_after before xs ys p = (p.0, append_assoc before xs p.0 ∙ ap (λ w. before ++ w) p.1)

front_after : (a b c : Known) (xs ys : List ℕ) → Appends a b xs → AppendsFront b c ys → AppendsFront a c (xs ++ ys)
front_after a b c xs ys p q = (xs ++ q.0, prefix_after xs q.0 ys q.1, Appends-trans a b c xs q.0 p q.2)

-- From each state of a kind, this leads to one of another.
abbrev pub Lead : {S : Type 0} → (S → Type 0) → (S → Type 0) → (S → S → Type 0) → Type 0
Lead {S} Old Now R = (s : S) → Old s → (now : S) × Now now × R s now

module _ {S : Type 0} where
  pub lead_so : (Old Now : S → Type 0) (R Q : S → S → Type 0) → ((s now : S) → R s now → Q s now) → Lead Old Now R → Lead Old Now Q
  lead_so Old Now R Q so leads = λ s is. let then = leads s is in (then.0, then.1, so s then.0 then.2)

  pub lead_on : (Old Mid Now : S → Type 0) (P Q R : S → S → Type 0) → ((s mid now : S) → P s mid → Q mid now → R s now)
      → Lead Old Mid P → Lead Mid Now Q → Lead Old Now R
  lead_on Old Mid Now P Q R so first second = λ s is.
      let mid = first s is in
      let then = second mid.0 mid.1 in
      (then.0, then.1, so s mid.0 then.0 mid.2 then.2)

module _ {S : Type 0} (context : SessionContext S) (May : S → List ℕ → Outcome → S → Type 0) (begin : Phase) where
  pub nothing_yet : (Old : S → Type 0) (a : Known) → Written a a (λ out. Lead Old Old (λ s now. Replies context May begin s [] out (At begin) now))
  nothing_yet Old a = ([], Appends-nil a, λ s is. (s, is, t.none))

  module _ (Old Mid Now : S → Type 0) (a b c : Known) (i : ℕ) (ps : List Payload) (p : Payload) (phase : Phase) (connection_state : ConnectionState) (lt : i < length ps)
      (is : p ≡ get_or ps i p) (before : Written a b (λ out. Lead Old Mid (λ s now. Replies context May begin s (take i ps) out (At phase) now))) where
    front : take i ps ++ p ∷ [] ≡ take (i + 1) ps
    front = ap (λ (x : Payload). take i ps ++ x ∷ []) is ∙ sym (take_more ps i p lt)

    both : (out : List ℕ) (s mid now : S) → Replies context May begin s (take i ps) before.0 (At phase) mid → AnswersPayload context May phase mid p out connection_state now
        → Replies context May begin s (take (i + 1) ps) (before.0 ++ out) connection_state now
    both out s mid now so answers =
        subst (λ (qs : List Payload). Replies context May begin s qs (before.0 ++ out) connection_state now) front
        (go_on context May begin phase s mid now (take i ps) (p ∷ []) before.0 out (At phase) connection_state refl so (one_reply context May phase mid now p out connection_state answers))

    with_next : (out : List ℕ) → Lead Mid Now (λ s now. AnswersPayload context May phase s p out connection_state now)
        → Lead Old Now (λ s now. Replies context May begin s (take (i + 1) ps) (before.0 ++ out) connection_state now)
    with_next out leads =
        lead_on Old Mid Now (λ s now. Replies context May begin s (take i ps) before.0 (At phase) now) (λ s now. AnswersPayload context May phase s p out connection_state now)
        (λ s now. Replies context May begin s (take (i + 1) ps) (before.0 ++ out) connection_state now) (both out) before.2 leads

    pub next_reply : Written b c (λ out. Lead Mid Now (λ s now. AnswersPayload context May phase s p out connection_state now))
        → Written a c (λ out. Lead Old Now (λ s now. Replies context May begin s (take (i + 1) ps) out connection_state now))
    next_reply q = (before.0 ++ q.0, Appends-trans a b c before.0 q.0 before.1 q.1, with_next q.0 q.2)

  abbrev Front : (Old Now : S → Type 0) → Known → Known → List Payload → Type 0
  Front Old Now a b ps = (done : List Payload) × (out : List ℕ) × (connection_state : ConnectionState) × IsPrefix done ps × AppendsFront a b out
      × Lead Old Now (λ s now. Replies context May begin s done out connection_state now)

  -- the sink failed at the reply to one payload
  pub cut_reply : (Old Mid Now : S → Type 0) (a b c : Known) (i : ℕ) (ps : List Payload) (p : Payload) (phase : Phase) → i < length ps → p ≡ get_or ps i p
      → Written a b (λ out. Lead Old Mid (λ s now. Replies context May begin s (take i ps) out (At phase) now))
      → (out : List ℕ) × (connection_state : ConnectionState) × AppendsFront b c out × Lead Mid Now (λ s now. AnswersPayload context May phase s p out connection_state now) → Front Old Now a c ps
  cut_reply Old Mid Now a b c i ps p phase lt is before cut = (
    take (i + 1) ps,
    before.0 ++ cut.0,
    cut.1,
    (drop (i + 1) ps, take-append-drop (i + 1) ps),
    front_after a b c before.0 cut.0 before.1 cut.2,
    with_next Old Mid Now a b c i ps p phase cut.1 lt is before cut.0 cut.3,
  )

  pub all_ended : (Old Now : S → Type 0) (a b : Known) (n : ℕ) (ps : List Payload) (connection_state : ConnectionState) (end : End) → connection_state ≡ Ended end
      → Written a b (λ out. Lead Old Now (λ s now. Replies context May begin s (take n ps) out connection_state now))
      → Written a b (λ out. Lead Old Now (λ s now. Replies context May begin s ps out (Ended end) now))
  all_ended Old Now a b n ps connection_state end is r =
      let so : (s now : S) → Replies context May begin s (take n ps) r.0 connection_state now → Replies context May begin s ps r.0 (Ended end) now =
      λ s now h.
      subst (λ (x : ConnectionState). Replies context May begin s ps r.0 x now) is
      (subst (λ (qs : List Payload). Replies context May begin s qs r.0 connection_state now) (take-append-drop n ps)
      (stay_ended context May begin s now (take n ps) (drop n ps) r.0 connection_state end is h)) in (
        r.0,
        r.1,
        lead_so Old Now (λ s now. Replies context May begin s (take n ps) r.0 connection_state now) (λ s now. Replies context May begin s ps r.0 (Ended end) now) so r.2,
      )

  pub connection_state_is : (Old Now : S → Type 0) (a b : Known) (ps : List Payload) (connection_state after : ConnectionState) → connection_state ≡ after
      → Written a b (λ out. Lead Old Now (λ s now. Replies context May begin s ps out connection_state now))
      → Written a b (λ out. Lead Old Now (λ s now. Replies context May begin s ps out after now))
  connection_state_is Old Now a b ps connection_state after is r =
      (r.0, r.1, subst (λ (x : ConnectionState). Lead Old Now (λ s now. Replies context May begin s ps r.0 x now)) is r.2)

-- a new session's greeting
module _ (handshake : Handshake) (begin : ConnectionState) (a b : Known) (bytes : List ℕ) (new : begin ≡ New) (is : bytes ≡ frame 0 (greeting_payload handshake.id handshake.salt)) where
  greets_so : Greets handshake begin bytes Response
  greets_so =
      subst (λ (x : ConnectionState). Greets handshake x bytes Response) (sym new) (subst (λ (front : List ℕ). Greets handshake New front Response) (sym is) t.greets)

  pub greeted : Appends a b bytes → Written a b (λ front. Greets handshake begin front Response)
  greeted taken = (bytes, taken, greets_so)

  pub greeted_front : AppendsFront a b bytes → (front : List ℕ) × (phase : Phase) × AppendsFront a b front × Greets handshake begin front phase
  greeted_front taken = (bytes, Response, taken, greets_so)

module _ {S : Type 0} (context : SessionContext S) (May : S → List ℕ → Outcome → S → Type 0) (begin : ConnectionState) (Old Now : S → Type 0) where
  -- the greeting, where there is one, and the replies behind it
  pub begun : (a b c : Known) (at : Phase) (ps : List Payload) (connection_state : ConnectionState) → Written a b (λ front. Greets context.handshake begin front at)
      → Written b c (λ out. Lead Old Now (λ s now. Replies context May at s ps out connection_state now))
      → Written a c (λ out. Lead Old Now (λ s now. Conversation context May begin s ps out connection_state now))
  begun a b c at ps connection_state g r = (
    g.0 ++ r.0,
    Appends-trans a b c g.0 r.0 g.1 r.1,
    lead_so Old Now (λ s now. Replies context May at s ps r.0 connection_state now) (λ s now. Conversation context May begin s ps (g.0 ++ r.0) connection_state now)
        (λ s now h. t.begun g.2 h) r.2,
  )

  connection_state_then : (a b : Known) (ps : List Payload) (connection_state after : ConnectionState) → connection_state ≡ after
      → Written a b (λ out. Lead Old Now (λ s now. Conversation context May begin s ps out connection_state now))
      → Written a b (λ out. Lead Old Now (λ s now. Conversation context May begin s ps out after now))
  connection_state_then a b ps connection_state after is r =
      (r.0, r.1, subst (λ (x : ConnectionState). Lead Old Now (λ s now. Conversation context May begin s ps r.0 x now)) is r.2)

  abbrev Talked : Known → Known → List Payload → ConnectionState → Type 0
  Talked a b ps connection_state = Written a b (λ out. Lead Old Now (λ s now. Conversation context May begin s ps out connection_state now))

  abbrev Fed_so : Known → Known → Fed → ConnectionState → Type 0
  Fed_so a b fed connection_state = Written a b (λ out. Lead Old Now (λ s now. AnswersFed context May begin s fed out connection_state now))

  pub fed_ended : (a b : Known) (fed : Fed) (connection_state : ConnectionState) (end : End) → connection_state ≡ Ended end → Talked a b fed.payloads connection_state → Fed_so a b fed (Ended end)
  fed_ended a b fed connection_state end is r =
      let q = connection_state_then a b fed.payloads connection_state (Ended end) is r in (
        q.0,
        q.1,
        lead_so Old Now (λ s now. Conversation context May begin s fed.payloads q.0 (Ended end) now) (λ s now. AnswersFed context May begin s fed q.0 (Ended end) now)
            (λ first now h. s.ended h) q.2,
      )

  pub fed_goes_on : (a b : Known) (fed : Fed) (connection_state : ConnectionState) (next : Phase) → connection_state ≡ At next → fed.fault ≡ None → Talked a b fed.payloads connection_state
      → Fed_so a b fed (At next)
  fed_goes_on a b fed connection_state next is no_fault r =
      let q = connection_state_then a b fed.payloads connection_state (At next) is r in (
        q.0,
        q.1,
        lead_so Old Now (λ s now. Conversation context May begin s fed.payloads q.0 (At next) now) (λ s now. AnswersFed context May begin s fed q.0 (At next) now)
            (λ first now h. s.goes_on no_fault h) q.2,
      )

  pub fed_refused : (a b c : Known) (fed : Fed) (fault : HeaderFault) (connection_state : ConnectionState) (next : Phase) → connection_state ≡ At next → fed.fault ≡ Some fault
      → Talked a b fed.payloads connection_state → Appends b c (refusal_bytes fault.number fault.refusal) → Fed_so a c fed (Ended Broken)
  fed_refused a b c fed fault connection_state next at is r told =
      let q = connection_state_then a b fed.payloads connection_state (At next) at r in
      let bytes : List ℕ = refusal_bytes fault.number fault.refusal in (
        q.0 ++ bytes,
        Appends-trans a b c q.0 bytes q.1 told,
        lead_so Old Now (λ s now. Conversation context May begin s fed.payloads q.0 (At next) now) (λ s now. AnswersFed context May begin s fed (q.0 ++ bytes) (Ended Broken) now)
            (λ first now h. s.refused fault is h) q.2,
      )

  answers_of : (at : Phase) (ps : List Payload) (greeting out : List ℕ) (connection_state : ConnectionState) (first now : S) → Greets context.handshake begin greeting at
      → Replies context May at first ps out connection_state now → AnswersFed context May begin first (record { payloads = ps; fault = None }) (greeting ++ out) connection_state now
  answers_of at ps greeting out New first now g r = absurd (not_new context May at first now ps out New refl r)
  answers_of at ps greeting out (At next) first now g r = s.goes_on refl (t.begun g r)
  answers_of at ps greeting out (Ended end) first now g r = s.ended (t.begun g r)

  -- the sink failed at the replies to the payloads, or at the refusal of the fault behind them
  pub fed_cut : (a b c : Known) (at : Phase) (fed : Fed) → Written a b (λ front. Greets context.handshake begin front at)
      → (done : List Payload) × (out : List ℕ) × (connection_state : ConnectionState) × IsPrefix done fed.payloads × AppendsFront b c out
      × Lead Old Now (λ s now. Replies context May at s done out connection_state now)
      → Written a c (λ written. Lead Old Now (λ s now. IsCutOff context May begin s fed written now))
  fed_cut a b c at fed g cut =
      let so : (s now : S) → Replies context May at s cut.0 cut.1 cut.2 now → IsCutOff context May begin s fed (g.0 ++ cut.4.0) now =
      λ first now h. record {
        part = record { payloads = cut.0; fault = None };
        told = g.0 ++ cut.1;
        connection_state = cut.2;
        front = f.some refl cut.3;
        answers = answers_of at cut.0 g.0 cut.1 cut.2 first now g.2 h;
        taken = prefix_after g.0 cut.4.0 cut.1 cut.4.1;
      } in (
        g.0 ++ cut.4.0,
        Appends-trans a b c g.0 cut.4.0 g.1 cut.4.2,
        lead_so Old Now (λ s now. Replies context May at s cut.0 cut.1 cut.2 now) (λ s now. IsCutOff context May begin s fed (g.0 ++ cut.4.0) now) so cut.5,
      )

  pub refusal_cut : (a b c : Known) (fed : Fed) (fault : HeaderFault) (connection_state : ConnectionState) (next : Phase) → connection_state ≡ At next → fed.fault ≡ Some fault
      → Talked a b fed.payloads connection_state → AppendsFront b c (refusal_bytes fault.number fault.refusal)
      → Written a c (λ written. Lead Old Now (λ s now. IsCutOff context May begin s fed written now))
  refusal_cut a b c fed fault connection_state next at is r cut =
      let q = connection_state_then a b fed.payloads connection_state (At next) at r in
      let so : (s now : S) → Conversation context May begin s fed.payloads q.0 (At next) now → IsCutOff context May begin s fed (q.0 ++ cut.0) now =
      λ first now h. record {
        part = fed;
        told = q.0 ++ refusal_bytes fault.number fault.refusal;
        connection_state = Ended Broken;
        front = f.all;
        answers = s.refused fault is h;
        taken = prefix_after q.0 cut.0 (refusal_bytes fault.number fault.refusal) cut.1;
      } in (
        q.0 ++ cut.0,
        Appends-trans a b c q.0 cut.0 q.1 cut.2,
        lead_so Old Now (λ s now. Conversation context May begin s fed.payloads q.0 (At next) now) (λ s now. IsCutOff context May begin s fed (q.0 ++ cut.0) now) so q.2,
      )

-- a payload that begins at 0
pub command_is : (p : Payload) (bytes : List ℕ) → p.first ≡ 0 → bytes ≡ p.bytes → command_payload p.last bytes ≡ p
command_is p bytes first is =
    ap (command_payload p.last) is ∙ ap (λ (n : ℕ). let q : Payload = record { first = n; last = p.last; bytes = p.bytes } in q) (sym first)

-- the reply to the one packet of a command, and where the sink failed at it
module _ {S : Type 0} (context : SessionContext S) (May : S → List ℕ → Outcome → S → Type 0) (at : Phase) (Old Now : S → Type 0) (bytes out : List ℕ) (connection_state : ConnectionState)
    (leads : Lead Old Now (λ s now. AnswersPayload context May at s (command_payload 0 bytes) out connection_state now)) where
  one_answers : (s now : S) → AnswersPayload context May at s (command_payload 0 bytes) out connection_state now
      → AnswersFed context May (At at) s (one_command bytes) out connection_state now
  one_answers s now a =
      answers_of context May (At at) Old Now at (command_payload 0 bytes ∷ []) [] out connection_state s now t.goes_on
      (one_reply context May at s now (command_payload 0 bytes) out connection_state a)

  pub one_answered : Lead Old Now (λ s now. AnswersFed context May (At at) s (one_command bytes) out connection_state now)
  one_answered =
      lead_so Old Now (λ s now. AnswersPayload context May at s (command_payload 0 bytes) out connection_state now)
      (λ s now. AnswersFed context May (At at) s (one_command bytes) out connection_state now) one_answers leads

  pub one_cut : (a b : Known) → AppendsFront a b out → Written a b (λ written. Lead Old Now (λ s now. IsCutOff context May (At at) s (one_command bytes) written now))
  one_cut a b cut =
      let so : (s now : S) → AnswersPayload context May at s (command_payload 0 bytes) out connection_state now → IsCutOff context May (At at) s (one_command bytes) cut.0 now =
      λ s now h. record {
        part = one_command bytes;
        told = out;
        connection_state = connection_state;
        front = f.all;
        answers = one_answers s now h;
        taken = cut.1;
      } in (
        cut.0,
        cut.2,
        lead_so Old Now (λ s now. AnswersPayload context May at s (command_payload 0 bytes) out connection_state now)
            (λ s now. IsCutOff context May (At at) s (one_command bytes) cut.0 now) so leads,
      )

-- the sink failed at the greeting
pub greeting_cut : {S : Type 0} (context : SessionContext S) (May : S → List ℕ → Outcome → S → Type 0) (begin : ConnectionState) (Old : S → Type 0) (a b : Known) (fed : Fed)
    → (front : List ℕ) × (phase : Phase) × AppendsFront a b front × Greets context.handshake begin front phase
    → Written a b (λ written. Lead Old Old (λ s now. IsCutOff context May begin s fed written now))
greeting_cut context May begin Old a b fed cut = (
  cut.2.0,
  cut.2.2,
  λ first is. (
    first,
    is,
    record {
      part = record { payloads = []; fault = None };
      told = cut.0 ++ [];
      connection_state = At cut.1;
      front = f.some refl (prefix_nil fed.payloads);
      answers = s.goes_on refl (t.begun cut.3 t.none);
      taken = prefix_more cut.2.0 cut.0 [] cut.2.1;
    },
  ),
)

module _ {S : Type 0} (context : SessionContext S) (May : S → List ℕ → Outcome → S → Type 0) (old new : SessionState) (piece : List ℕ) (fed : Fed)
    (by : FedBy old.framing new.framing piece fed) (begin : ConnectionState) (first mid now : S) (stream out : List ℕ)
    (before : HasTalked context May begin old first stream out mid) where
  abbrev payloads : List Payload
  payloads = before.payloads ++ fed.payloads

  joined : (more : List Payload) (written : List ℕ) (connection_state : ConnectionState) → Conversation context May old.connection_state mid more written connection_state now
      → Conversation context May begin first (before.payloads ++ more) (out ++ written) connection_state now
  joined more written connection_state r = talk_on context May begin old.connection_state connection_state first mid now before.payloads more out written before.replies r

  ended_by : (written : List ℕ) (e : End) → Conversation context May begin first payloads (out ++ written) (Ended e) now → (o : Option HeaderFault) → fed.fault ≡ o
      → Talk old.framing.limit context May begin first (stream ++ piece) (out ++ written) e now
  ended_by written e r None is =
      let read = by.payloads is stream before.payloads before.read in
      let L : ℕ → Type 0 = λ n. Splits n (stream ++ piece) payloads new.framing.rest in
      t.ended payloads new.framing.rest (subst L by.limit read.splits) r
  ended_by written e r (Some f) is = t.ended_before payloads f (by.fault f is stream before.payloads before.read) r

  abbrev Limited : ℕ → List ℕ → End → Type 0
  Limited n bytes e = Talk n context May begin first (stream ++ piece) bytes e now

  pub talked_on : (written : List ℕ) (connection_state : ConnectionState) → new.connection_state ≡ connection_state → AnswersFed context May old.connection_state mid fed written connection_state now
      → HasTalkedOn context May begin new first (stream ++ piece) (out ++ written) (end_of connection_state) now
  talked_on written _ is (s.ended {end = e} r) =
      let L : ℕ → Type 0 = λ n. Limited n (out ++ written) e in
      subst L (sym by.limit) (ended_by written e (joined fed.payloads written (Ended e) r) fed.fault refl)
  talked_on written _ is (s.goes_on {at = next} no_fault r) = record {
    payloads = payloads;
    goes_on = ap end_of is;
    read = by.payloads no_fault stream before.payloads before.read;
    replies = subst (λ (b : ConnectionState). Conversation context May begin first payloads (out ++ written) b now) (sym is) (joined fed.payloads written (At next) r);
  }
  talked_on _ _ is (s.refused {out = said} {at = next} f fault r) =
      let told : List ℕ = refusal_bytes f.number f.refusal in
      let L : ℕ → Type 0 = λ n. Limited n (out ++ (said ++ told)) Broken in
      let P : List ℕ → Type 0 = λ bytes. Limited old.framing.limit bytes Broken in
      subst L (sym by.limit)
      (subst P (append_assoc out said told) (t.refused payloads f (by.fault f fault stream before.payloads before.read) (joined fed.payloads said (At next) r)))

  -- ---- the sink failed

  held : HoldsPayloads old.framing.limit (stream ++ piece) (record { payloads = payloads; fault = fed.fault })
  held = record {
    whole =
        λ no_fault. (
          new.framing.rest,
          subst (λ (n : ℕ). Splits n (stream ++ piece) payloads new.framing.rest) by.limit (by.payloads no_fault stream before.payloads before.read).splits,
        );
    refused = λ fault is. by.fault fault is stream before.payloads before.read;
  }

  abbrev trailing : Fed → Fed
  trailing part = record { payloads = before.payloads ++ part.payloads; fault = part.fault }

  front_of : (part whole : Fed) → IsFrontOf part whole → IsFrontOf (trailing part) (trailing whole)
  front_of part whole (f.some none front) = f.some none (prefix_after before.payloads part.payloads whole.payloads front)
  front_of _ _ (f.all {fed = part}) = f.all

  answered : (part : Fed) (told : List ℕ) (connection_state : ConnectionState) → AnswersFed context May old.connection_state mid part told connection_state now
      → AnswersFed context May begin first (trailing part) (out ++ told) connection_state now
  answered part told _ (s.ended {end = e} r) = s.ended (joined part.payloads told (Ended e) r)
  answered part told _ (s.goes_on {at = next} no_fault r) = s.goes_on no_fault (joined part.payloads told (At next) r)
  answered part _ _ (s.refused {out = said} {at = next} f fault r) =
      let told : List ℕ = refusal_bytes f.number f.refusal in
      subst (λ (bs : List ℕ). AnswersFed context May begin first (trailing part) bs (Ended Broken) now) (append_assoc out said told)
      (s.refused f fault (joined part.payloads said (At next) r))

  pub broken_off : (written : List ℕ) → IsCutOff context May old.connection_state mid fed written now
      → HasBrokenOff old.framing.limit context May begin first (stream ++ piece) (out ++ written) now
  broken_off written cut = record {
    fed = trailing fed;
    holds = held;
    cut = record {
      part = trailing cut.part;
      told = out ++ cut.told;
      connection_state = cut.connection_state;
      front = front_of cut.part fed cut.front;
      answers = answered cut.part cut.told cut.connection_state cut.answers;
      taken = prefix_after out written cut.told cut.taken;
    };
  }

-- the end of the input: between two payloads, in the command phase or before it, or within one
pub whole_end : {S : Type 0} (context : SessionContext S) (May : S → List ℕ → Outcome → S → Type 0) (begin at : ConnectionState) (s now : S) (limit : ℕ) (bytes out : List ℕ) (payloads : List Payload) (rest : List ℕ) (end : End)
    → HasGreeted at → end_of at ≡ None → Splits limit bytes payloads rest → Conversation context May begin s payloads out at now
    → (rest ≡ [] → is_in_commands at ≡ true → end ≡ Closed) → (rest ≡ [] → is_in_commands at ≡ false → end ≡ Truncated) → ((rest ≡ [] → ⊥) → end ≡ Truncated)
    → Talk limit context May begin s bytes out end now
whole_end {S} context May begin New s now limit bytes out payloads rest end has goes splits replies closed cut truncated = absurd has
whole_end {S} context May begin (Ended e) s now limit bytes out payloads rest end has goes splits replies closed cut truncated = absurd cc
whole_end {S} context May begin (At at) s now limit bytes out payloads [] end has goes splits replies closed cut truncated = by (takes_commands at) refl
  where
    by : (b : Bool) → takes_commands at ≡ b → Talk limit context May begin s bytes out end now
    by true e = subst (λ (x : End). Talk limit context May begin s bytes out x now) (sym (closed refl e)) (t.closed payloads e splits replies)
    by false e = subst (λ (x : End). Talk limit context May begin s bytes out x now) (sym (cut refl e)) (t.cut_off payloads e splits replies)
whole_end {S} context May begin (At at) s now limit bytes out payloads (b ∷ rest) end has goes splits replies closed cut truncated =
    let P : End → Type 0 = λ e. Talk limit context May begin s bytes out e now in
    subst P (sym (truncated (λ e. cc))) (t.truncated payloads b rest splits replies)

-- what the clauses of the framer say, as equations
pub fed_by : (old new : Framing) (piece : List ℕ) (fed : Fed)
    → (IsNone fed.fault → (stream : List ℕ) (before : List Payload) → HasFramed old stream before → HasFramed new (stream ++ piece) (before ++ fed.payloads))
    → IfSome fed.fault (λ f. (stream : List ℕ) (before : List Payload) → HasFramed old stream before → IsRefusedAfter old.limit (stream ++ piece) (before ++ fed.payloads) f)
    → new.limit ≡ old.limit → FedBy old new piece fed
fed_by old new piece fed ok refused limit = record {
  payloads = λ is. ok (subst IsNone (sym is) refl);
  fault = λ f is. subst (λ (o : Option HeaderFault). IfSome o (λ f. (stream : List ℕ) (before : List Payload) → HasFramed old stream before → IsRefusedAfter old.limit (stream ++ piece) (before ++ fed.payloads) f)) is refused;
  limit = limit;
}

pub is_end : (between let_in : Bool) (rest : List ℕ) (end : End) → IsTrue between ↔ (rest ≡ []) → (between ≡ true → let_in ≡ true → end ≡ Closed)
    → (between ≡ false → end ≡ Truncated) → (let_in ≡ false → end ≡ Truncated)
    → (rest ≡ [] → let_in ≡ true → end ≡ Closed) × (rest ≡ [] → let_in ≡ false → end ≡ Truncated) × ((rest ≡ [] → ⊥) → end ≡ Truncated)
is_end true let_in rest end both closed truncated cut = (λ is on. closed refl on, λ is off. cut off, λ not. absurd (not (both.0 refl)))
is_end false let_in rest end both closed truncated cut = (
  λ is on. absurd (let wrong : IsTrue false = both.1 is in cc),
  λ is off. cut off,
  λ not. truncated refl,
)

-- replies end by a command
admits_ends : (status number : ℕ) (login : PendingLogin) (right : Bool) (out : List ℕ) (b : ConnectionState) → Admits status number login right out b → IfSome (end_of b) IsByCommand
admits_ends status number login right _ _ (l.denied is) = tt
admits_ends status number login right _ _ (l.unknown is none) = tt
admits_ends status number login right _ _ (l.admitted is known) = tt

logs_in_ends : (handshake : Handshake) (keyspaces : List Keyspace) (status : ℕ) (at : Phase) (p : Payload) (out : List ℕ) (b : ConnectionState)
    → LogsIn handshake keyspaces status at p out b → IfSome (end_of b) IsByCommand
logs_in_ends handshake keyspaces status _ _ _ _ (l.unreadable first none) = tt
logs_in_ends handshake keyspaces status _ _ _ _ (l.switches r first is other) = tt
logs_in_ends handshake keyspaces status _ p _ _ (l.responds {out} {connection_state} r first is other a) =
    admits_ends status (reply_number p) (login_of handshake keyspaces r) (is_right handshake.access.stage2 handshake.salt r.answer) out connection_state a
logs_in_ends handshake keyspaces status _ p _ _ (l.answers {out} {connection_state} {login} first a) =
    admits_ends status (reply_number p) login (is_right handshake.access.stage2 handshake.salt p.bytes) out connection_state a

answers_end : {S : Type 0} (context : SessionContext S) (May : S → List ℕ → Outcome → S → Type 0) (at : Phase) (s now : S) (p : Payload) (out : List ℕ) (b : ConnectionState)
    → AnswersPayload context May at s p out b now → IfSome (end_of b) IsByCommand
answers_end context May _ _ _ _ _ _ (t.out_of_order first) = tt
answers_end context May at s _ p _ _ (t.logs_in {out} {connection_state} l) = logs_in_ends context.handshake context.schema.keyspaces (status_flags true (context.is_open s)) at p out connection_state l
answers_end context May _ _ _ _ _ _ (t.quits first command) = tt
answers_end context May _ _ _ _ _ _ (t.unknown first command) = tt
answers_end context May _ _ _ _ _ _ (t.pinged first command) = tt
answers_end context May _ _ _ _ _ _ (t.selected name ordinal first command is) = tt
answers_end context May _ _ _ _ _ _ (t.unknown_keyspace name first command is) = tt
answers_end context May _ _ _ _ _ _ (t.queried text outcome first command gives) = tt
answers_end context May _ _ _ _ _ _ (t.told_statistics first command) = tt
answers_end context May _ _ _ _ _ _ (t.takes_one_statement first command) = tt
answers_end context May _ _ _ _ _ _ (t.takes_no_more first command) = tt
answers_end context May _ _ _ _ _ _ (t.reset_all first command) = tt
answers_end context May _ _ _ _ _ _ (t.executed bytes text outcome first command runs gives) = tt
answers_end context May _ _ _ _ _ _ (t.of_statement request first command answers) = tt

replies_end : {S : Type 0} (context : SessionContext S) (May : S → List ℕ → Outcome → S → Type 0) (at : Phase) (s now : S) (ps : List Payload) (out : List ℕ) (b : ConnectionState)
    → Replies context May at s ps out b now → IfSome (end_of b) IsByCommand
replies_end context May _ _ _ _ _ _ t.none = tt
replies_end context May _ _ _ _ _ _ (t.goes {next} {mid} {t = now} {more = ps} {rest} {connection_state} a r) = replies_end context May next mid now ps rest connection_state r
replies_end context May _ _ _ _ _ _ (t.ends {at} {s} {t = now} {p} {out} {end} a) = answers_end context May at s now p out (Ended end) a

talk_ends : {S : Type 0} (context : SessionContext S) (May : S → List ℕ → Outcome → S → Type 0) (begin : ConnectionState) (s now : S) (ps : List Payload) (out : List ℕ) (b : ConnectionState)
    → Conversation context May begin s ps out b now → IfSome (end_of b) IsByCommand
talk_ends context May _ _ _ _ _ _ t.new = tt
talk_ends context May _ _ _ _ _ _ (t.begun {connection_state = b} {at} {s} {t = now} {ps} {out} g r) = replies_end context May at s now ps out b r

pub fed_ends : {S : Type 0} (context : SessionContext S) (May : S → List ℕ → Outcome → S → Type 0) (at : ConnectionState) (mid now : S) (fed : Fed) (out : List ℕ) (connection_state : ConnectionState)
    → AnswersFed context May at mid fed out connection_state now → IfSome (end_of connection_state) IsByCommand
fed_ends context May at mid _ fed _ _ (s.ended {out} {end} {now} r) = talk_ends context May at mid now fed.payloads out (Ended end) r
fed_ends context May at mid _ fed _ _ (s.goes_on no_fault r) = tt
fed_ends context May at mid _ fed _ _ (s.refused fault is r) = tt

pub not_by_input : (X : Type 0) (r : Result (Option End) SessionFault) → IfOk r (λ end. IfSome end IsByCommand) → IfOk r (λ end. IfSome end (λ e. IsByInput e → X))
not_by_input X (Err e) by = tt
not_by_input X (Ok None) by = tt
not_by_input X (Ok (Some Quit)) by = λ is. absurd is
not_by_input X (Ok (Some Broken)) by = λ is. absurd is
not_by_input X (Ok (Some Denied)) by = λ is. absurd is
not_by_input X (Ok (Some Closed)) by = absurd by
not_by_input X (Ok (Some Truncated)) by = absurd by
