-- What is written in the connection phase.
use Rattle.prepared_statements.specs.Held.{none_held}
use Rattle.std.proofs.Common.{◌≡◌, ◌&&◌, ℕ, Bool, true, false, List, [], ◌∷◌, Some, None, refl, sym, subst, eq-eqb}
use Rattle.std.specs.Prelude.{Result, Err, IsOkAnd, is_some}
use Rattle.vt_value.specs.declared.refusal.Refusal.TheVariants.{AccessDenied, UnknownKeyspace, BadHandshake}
use Rattle.vschema.specs.declared.schema.Keyspace.{Keyspace}
use Rattle.mysql_packet.specs.declared.framer.Payload.{Payload}
use Rattle.mysql_packet.specs.Frames.{frame}
use Rattle.mysql_message.specs.Messages.{ok_payload, err_payload}
use Rattle.mysql_handshake.specs.Handshakes.{Answered, IsResponse, auth_switch_payload}
use Rattle.mysql_handshake.specs.Native.{is_right}
use Rattle.resultset.specs.declared.Outcome.{Outcome}
use Rattle.session.specs.declared.conversation.end.End.TheVariants.{Denied}
use Rattle.session.specs.declared.conversation.access.Handshake.{Handshake}
use Rattle.session.specs.declared.conversation.connection_state.PendingLogin.{PendingLogin}
use Rattle.session.specs.declared.conversation.connection_state.Phase.{Phase}
use Rattle.session.specs.declared.conversation.connection_state.Phase.TheVariants.{Response, Switch, Commands}
use Rattle.session.specs.declared.conversation.connection_state.ConnectionState.{ConnectionState}
use Rattle.session.specs.declared.conversation.connection_state.ConnectionState.TheVariants.{At, Ended}
use Rattle.session.specs.conversation.Logins.{Admits, LogsIn, is_known, is_other_plugin, keyspace_asked, keyspace_named, login_of}
use Rattle.session.specs.conversation.Logins as l
use Rattle.session.specs.conversation.Packets.{reply_number}
use Rattle.session.specs.conversation.ConnectionStates.{settings_at_first}
use Rattle.session.specs.conversation.Talk.{SessionContext, AnswersPayload, status_flags}
use Rattle.session.specs.conversation.Talk as t

pub known_empty : (keyspaces : List Keyspace) (name : List ℕ) → name ≡ [] → is_known keyspaces (Some name) ≡ true
known_empty keyspaces [] is = refl
known_empty keyspaces (b ∷ name) is = absurd cc

pub known_named : (keyspaces : List Keyspace) (name : List ℕ) → (name ≡ [] → ⊥) → is_known keyspaces (Some name) ≡ is_some (keyspace_named keyspaces name)
known_named keyspaces [] not = absurd (not refl)
known_named keyspaces (b ∷ name) not = refl

pub asked_empty : (keyspaces : List Keyspace) (name : List ℕ) → name ≡ [] → keyspace_asked keyspaces (Some name) ≡ None
asked_empty keyspaces [] is = refl
asked_empty keyspaces (b ∷ name) is = absurd cc

pub asked_named : (keyspaces : List Keyspace) (name : List ℕ) → (name ≡ [] → ⊥) → keyspace_asked keyspaces (Some name) ≡ keyspace_named keyspaces name
asked_named keyspaces [] not = absurd (not refl)
asked_named keyspaces (b ∷ name) not = refl

module _ (status number : ℕ) (login : PendingLogin) (right : Bool) (out : List ℕ) where
  pub is_denied : (login.is_user && right) ≡ false → out ≡ frame number (err_payload AccessDenied) → Admits status number login right out (Ended Denied)
  is_denied wrong e = subst (λ (bs : List ℕ). Admits status number login right bs (Ended Denied)) (sym e) (l.denied wrong)

  pub is_unknown : (login.is_user && right) ≡ true → login.is_database ≡ false → out ≡ frame number (err_payload UnknownKeyspace)
      → Admits status number login right out (Ended Denied)
  is_unknown is none e = subst (λ (bs : List ℕ). Admits status number login right bs (Ended Denied)) (sym e) (l.unknown is none)

  pub is_admitted : (login.is_user && right) ≡ true → login.is_database ≡ true → out ≡ frame number (ok_payload 0 status)
      → Admits status number login right out (At (Commands (settings_at_first login.capabilities login.keyspace) none_held))
  is_admitted is known e = subst (λ (bs : List ℕ). Admits status number login right bs (At (Commands (settings_at_first login.capabilities login.keyspace) none_held))) (sym e) (l.admitted is known)

module _ (handshake : Handshake) (keyspaces : List Keyspace) (status : ℕ) (p : Payload) (out : List ℕ) where
  pub not_read : {A E : Type 0} (f : A → Answered) (r : Result A E) (e : E) → r ≡ Err e → p.first ≡ 1
      → ((a : Answered) → IsResponse p.bytes a → IsOkAnd r (λ x. f x ≡ a)) → out ≡ frame (reply_number p) (err_payload BadHandshake)
      → LogsIn handshake keyspaces status Response p out (Ended Denied)
  not_read {A} {E} f r e is first only written =
      let none : (a : Answered) → IsResponse p.bytes a → ⊥ =
      λ a reads. subst (λ (x : Result A E). IsOkAnd x (λ y. f y ≡ a)) is (only a reads) in
      subst (λ (bs : List ℕ). LogsIn handshake keyspaces status Response p bs (Ended Denied)) (sym written) (l.unreadable (eq-eqb p.first 1 first) none)

  pub asked_again : (r : Answered) (login : PendingLogin) → p.first ≡ 1 → IsResponse p.bytes r → is_other_plugin r.plugin ≡ true → login ≡ login_of handshake keyspaces r
      → out ≡ frame (reply_number p) (auth_switch_payload handshake.salt) → LogsIn handshake keyspaces status Response p out (At (Switch login))
  asked_again r login first reads other is e =
      subst (λ (x : PendingLogin). LogsIn handshake keyspaces status Response p out (At (Switch x))) (sym is)
      (subst (λ (bs : List ℕ). LogsIn handshake keyspaces status Response p bs (At (Switch (login_of handshake keyspaces r)))) (sym e) (l.switches r (eq-eqb p.first 1 first) reads other))

  pub responded : (r : Answered) (login : PendingLogin) (right : Bool) (connection_state : ConnectionState) → p.first ≡ 1 → IsResponse p.bytes r → is_other_plugin r.plugin ≡ false
      → login ≡ login_of handshake keyspaces r → right ≡ is_right handshake.access.stage2 handshake.salt r.answer
      → Admits status (reply_number p) login right out connection_state → LogsIn handshake keyspaces status Response p out connection_state
  responded r login right connection_state first reads other is same a =
      l.responds r (eq-eqb p.first 1 first) reads other
      (subst (λ (x : PendingLogin). Admits status (reply_number p) x (is_right handshake.access.stage2 handshake.salt r.answer) out connection_state) is
      (subst (λ (x : Bool). Admits status (reply_number p) login x out connection_state) same a))

  pub answered : (login : PendingLogin) (right : Bool) (connection_state : ConnectionState) → p.first ≡ 3 → right ≡ is_right handshake.access.stage2 handshake.salt p.bytes
      → Admits status (reply_number p) login right out connection_state → LogsIn handshake keyspaces status (Switch login) p out connection_state
  answered login right connection_state first same a =
      l.answers (eq-eqb p.first 3 first) (subst (λ (x : Bool). Admits status (reply_number p) login x out connection_state) same a)

-- what is written for a payload of the connection phase
pub one_login : {S : Type 0} (context : SessionContext S) (May : S → List ℕ → Outcome → S → Type 0) (at then : Phase) (keyspaces : List Keyspace) (s : S) (p : Payload) (out : List ℕ) (connection_state : ConnectionState)
    → at ≡ then → keyspaces ≡ context.schema.keyspaces → LogsIn context.handshake keyspaces (status_flags true (context.is_open s)) then p out connection_state → AnswersPayload context May at s p out connection_state s
one_login {S} context May at then keyspaces s p out connection_state is served logs =
    subst (λ (x : Phase). AnswersPayload context May x s p out connection_state s) (sym is)
    (t.logs_in (subst (λ (ks : List Keyspace). LogsIn context.handshake ks (status_flags true (context.is_open s)) then p out connection_state) served logs))
