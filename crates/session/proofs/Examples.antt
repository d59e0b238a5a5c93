-- Conversations of documented examples: a ping and a quit, an order of packets that is wrong, a header that is too large, an empty
-- payload; and the reply to BEGIN.
use Rattle.prepared_statements.specs.Held.{none_held}
use Rattle.std.proofs.Common.{◌≡◌, ℕ, List, [], ◌∷◌, refl, lit<, lit≤, inl, Some, None}
use Rattle.std.specs.Prelude.{codes, is_some, true, false}
use Rattle.mysql_packet.specs.declared.framer.Payload.{Payload}
use Rattle.mysql_packet.specs.declared.framer.HeaderFault.{HeaderFault}
use Rattle.mysql_packet.specs.Frames.{IsPartial}
use Rattle.vt_value.specs.declared.refusal.Refusal.TheVariants.{PacketTooLarge}
use Rattle.resultset.specs.declared.Outcome.{Outcome}
use Rattle.resultset.specs.declared.Outcome.TheVariants.{Count}
use Rattle.resultset.specs.declared.SetEnd.TheVariants.{EofPackets}
use Rattle.resultset.specs.Encoding.{encoded}
use Rattle.route_engine.specs.Transactions.{Transaction}
use Rattle.session.specs.declared.conversation.end.End.TheVariants.{Quit, Closed, Broken}
use Rattle.session.specs.conversation.ConnectionStates.{settings_at_first}
use Rattle.session.specs.declared.conversation.connection_state.Settings.{Settings}
use Rattle.session.specs.declared.conversation.connection_state.Phase.TheVariants.{Commands}
use Rattle.session.specs.declared.conversation.connection_state.ConnectionState.TheVariants.{At}
use Rattle.vschema.specs.declared.schema.VSchema.{VSchema}
use Rattle.session.specs.conversation.SessionContext.{SessionContext, status_flags}
use Rattle.session.specs.conversation.Talk.{Talk}
use Rattle.session.specs.conversation.Talk as t

abbrev Never : Unit {0} → List ℕ → Outcome → Unit {0} → Type 0
Never s text outcome now = ⊥

abbrev plain : VSchema → SessionContext (Unit {0})
plain v = record { handshake = record { access = record { user = []; stage2 = None }; salt = []; id = 0 }; schema = v; is_open = λ s. false; dropped = λ s. s }

abbrev as_let_in : Settings
as_let_in = settings_at_first 0 None

abbrev payload : ℕ → List ℕ → Payload
payload number bytes = record { first = number; last = number; bytes = bytes }

nothing_left : IsPartial 1048576 []
nothing_left = (0, [], [], lit< tt, (tt, lit≤ tt), refl, inl (lit< tt))

ping_then_quit : (v : VSchema) → Talk 1048576 (plain v) Never (At (Commands as_let_in none_held)) tt (1 ∷ 0 ∷ 0 ∷ 0 ∷ 0x0E ∷ 1 ∷ 0 ∷ 0 ∷ 0 ∷ 1 ∷ []) (7 ∷ 0 ∷ 0 ∷ 1 ∷ 0 ∷ 0 ∷ 0 ∷ 2 ∷ 0 ∷ 0 ∷ 0 ∷ []) Quit tt
ping_then_quit v =
    t.ended (payload 0 (0x0E ∷ []) ∷ payload 0 (1 ∷ []) ∷ []) []
    (record { whole = refl; each = (((lit< tt, refl), lit≤ tt), (((lit< tt, refl), lit≤ tt), tt)); partial = nothing_left })
    (t.begun t.goes_on (t.goes (t.pinged refl refl) (t.ends (t.quits refl refl))))

-- a command whose first number is 1
wrong_number : (v : VSchema) → Talk 1048576 (plain v) Never (At (Commands as_let_in none_held)) tt (1 ∷ 0 ∷ 0 ∷ 1 ∷ 0x0E ∷ [])
    (0x1D ∷ 0 ∷ 0 ∷ 2 ∷ 0xFF ∷ 0x84 ∷ 0x04 ∷ 0x23 ∷ 0x30 ∷ 0x38 ∷ 0x53 ∷ 0x30 ∷ 0x31 ∷ codes "packets out of order") Broken tt
wrong_number v =
    t.ended (payload 1 (0x0E ∷ []) ∷ []) []
    (record { whole = refl; each = (((lit< tt, refl), lit≤ tt), tt); partial = nothing_left }) (t.begun t.goes_on (t.ends (t.out_of_order refl)))

-- a first header that tells 2 ^ 20 + 1 bytes
too_large : (v : VSchema) → Talk 1048576 (plain v) Never (At (Commands as_let_in none_held)) tt (1 ∷ 0 ∷ 0x10 ∷ 0 ∷ [])
    (0x19 ∷ 0 ∷ 0 ∷ 1 ∷ 0xFF ∷ 0x81 ∷ 0x04 ∷ 0x23 ∷ 0x30 ∷ 0x38 ∷ 0x53 ∷ 0x30 ∷ 0x31 ∷ codes "packet too large") Broken tt
too_large v =
    let fault : HeaderFault = record { refusal = PacketTooLarge; number = 0 } in
    t.refused [] fault
    (record {
      first = 0;
      parts = [];
      len = 1048577;
      more = [];
      whole = refl;
      each = tt;
      begun = (tt, lit≤ tt);
      refused = refl;
      in_range = (lit< tt, lit< tt, lit< tt);
    })
    (t.begun t.goes_on t.none)

-- an empty payload is an unknown command, and the session goes on
unknown : (v : VSchema) → Talk 1048576 (plain v) Never (At (Commands as_let_in none_held)) tt (0 ∷ 0 ∷ 0 ∷ 0 ∷ [])
    (0x18 ∷ 0 ∷ 0 ∷ 1 ∷ 0xFF ∷ 0x17 ∷ 0x04 ∷ 0x23 ∷ 0x30 ∷ 0x38 ∷ 0x53 ∷ 0x30 ∷ 0x31 ∷ codes "unknown command") Closed tt
unknown v =
    t.closed (payload 0 [] ∷ []) refl
    (record { whole = refl; each = (((lit< tt, refl), lit≤ tt), tt); partial = nothing_left }) (t.begun t.goes_on (t.goes (t.unknown refl refl) t.none))

-- the status tells that a transaction is open then
begins : (t : Transaction) → encoded EofPackets (Count 0) 1 (status_flags true (is_some (Some t))) ≡ 7 ∷ 0 ∷ 0 ∷ 1 ∷ 0 ∷ 0 ∷ 0 ∷ 3 ∷ 0 ∷ 0 ∷ 0 ∷ []
begins t = refl

-- COM_RESET_CONNECTION: nothing is open then, and each statement commits by itself again
resets : (v : VSchema) → Talk 1048576 (plain v) Never (At (Commands (record as_let_in { autocommit = false }) none_held)) tt (1 ∷ 0 ∷ 0 ∷ 0 ∷ 0x1F ∷ []) (7 ∷ 0 ∷ 0 ∷ 1 ∷ 0 ∷ 0 ∷ 0 ∷ 2 ∷ 0 ∷ 0 ∷ 0 ∷ []) Closed tt
resets v =
    t.closed (payload 0 (0x1F ∷ []) ∷ []) refl
    (record { whole = refl; each = (((lit< tt, refl), lit≤ tt), tt); partial = nothing_left }) (t.begun t.goes_on (t.goes (t.reset_all refl refl) t.none))
