-- A conversation of whose bytes a device took a front.
use Rattle.std.proofs.Common.{◌≡◌, ℕ, List, [], ◌∷◌, ◌++◌, Option, Some, None, refl, sym, subst}
use mathlib.Core.List.{IsPrefix}
use Rattle.journal.proofs.Fronts.{prefix_nil, prefix_trans}
use Rattle.mysql_packet.specs.declared.framer.Payload.{Payload}
use Rattle.mysql_packet.specs.declared.framer.HeaderFault.{HeaderFault}
use Rattle.mysql_packet.specs.declared.framer.Fed.{Fed}
use Rattle.mysql_packet.specs.Frames.{frame, Splits, IsRefusedAfter}
use Rattle.mysql_handshake.specs.Handshakes.{greeting_payload}
use Rattle.resultset.specs.declared.Outcome.{Outcome}
use Rattle.session.specs.declared.conversation.end.End.{End}
use Rattle.session.specs.declared.conversation.end.End.TheVariants.{Broken}
use Rattle.session.specs.declared.conversation.connection_state.Phase.TheVariants.{Response}
use Rattle.session.specs.declared.conversation.connection_state.ConnectionState.{ConnectionState}
use Rattle.session.specs.declared.conversation.connection_state.ConnectionState.TheVariants.{New, At, Ended}
use Rattle.session.specs.conversation.ConnectionStates.{end_of}
use Rattle.session.specs.conversation.Packets.{refusal_bytes}
use Rattle.session.specs.conversation.Faults.{IsCutOff, HoldsPayloads, HasBrokenOff, IsUnfinished}
use Rattle.session.specs.conversation.Faults as f
use Rattle.session.specs.conversation.Talk.{SessionContext, Conversation, Talk}
use Rattle.session.specs.conversation.Talk as t
use Rattle.session.specs.conversation.Sessions.{SessionState, HasTalked, AnswersFed}
use Rattle.session.specs.conversation.Sessions as s
use Rattle.session.proofs.conversation.RepliesLemmas.{not_new}

none_before : (front : List ℕ) (xs : List ℕ) → IsPrefix front [] → IsPrefix front xs
none_before [] xs p = (xs, refl)
none_before (x ∷ front) xs p = absurd (let e : x ∷ (front ++ p.0) ≡ [] = p.1 in cc)

module _ {S : Type 0} (context : SessionContext S) (May : S → List ℕ → Outcome → S → Type 0) (first : S) where
  -- a shorter front
  pub broken_short : (limit : ℕ) (begin : ConnectionState) (bytes written front : List ℕ) (now : S) → HasBrokenOff limit context May begin first bytes written now → IsPrefix front written
      → HasBrokenOff limit context May begin first bytes front now
  broken_short limit begin bytes written front now broken p = record {
    fed = broken.fed;
    holds = broken.holds;
    cut = record {
      part = broken.cut.part;
      told = broken.cut.told;
      connection_state = broken.cut.connection_state;
      front = broken.cut.front;
      answers = broken.cut.answers;
      taken = prefix_trans front written broken.cut.told p broken.cut.taken;
    };
  }

  -- ---- of a conversation that goes on

  greeting_cut : (ps : List Payload) (out front : List ℕ) (now : S) → Conversation context May New first ps out New now → IsPrefix front out
      → IsCutOff context May New first (record { payloads = ps; fault = None }) front now
  greeting_cut _ _ front _ t.new p = record {
    part = record { payloads = []; fault = None };
    told = frame 0 (greeting_payload context.handshake.id context.handshake.salt) ++ [];
    connection_state = At Response;
    front = f.all;
    answers = s.goes_on refl (t.begun t.greets t.none);
    taken = none_before front (frame 0 (greeting_payload context.handshake.id context.handshake.salt) ++ []) p;
  }
  greeting_cut _ _ front _ (t.begun {at} {t = now} {ps} {out} g r) p = absurd (not_new context May at first now ps out New refl r)

  goes_cut : (state : ConnectionState) (ps : List Payload) (out front : List ℕ) (now : S) → end_of state ≡ None → Conversation context May New first ps out state now → IsPrefix front out
      → IsCutOff context May New first (record { payloads = ps; fault = None }) front now
  goes_cut New ps out front now goes said p = greeting_cut ps out front now said p
  goes_cut (Ended e) ps out front now goes said p = absurd cc
  goes_cut (At at) ps out front now goes said p = record {
    part = record { payloads = ps; fault = None };
    told = out;
    connection_state = At at;
    front = f.all;
    answers = s.goes_on refl said;
    taken = p;
  }

  pub goes_broken : (limit : ℕ) (core : SessionState) (bytes out front : List ℕ) (now : S) → core.framing.limit ≡ limit → HasTalked context May New core first bytes out now → IsPrefix front out
      → HasBrokenOff limit context May New first bytes front now
  goes_broken limit core bytes out front now same talked p = record {
    fed = record { payloads = talked.payloads; fault = None };
    holds = record {
      whole = λ none. (core.framing.rest, subst (λ (n : ℕ). Splits n bytes talked.payloads core.framing.rest) same talked.read.splits);
      refused = λ fault is. absurd cc;
    };
    cut = goes_cut core.connection_state talked.payloads out front now talked.goes_on talked.replies p;
  }

  pub goes_unfinished : (limit : ℕ) (core : SessionState) (bytes out : List ℕ) (now : S) → core.framing.limit ≡ limit → HasTalked context May New core first bytes out now
      → IsUnfinished limit context May New first bytes out now
  goes_unfinished limit core bytes out now same talked = record {
    payloads = talked.payloads;
    rest = core.framing.rest;
    connection_state = core.connection_state;
    goes_on = talked.goes_on;
    read = subst (λ (n : ℕ). Splits n bytes talked.payloads core.framing.rest) same talked.read.splits;
    replies = talked.replies;
  }

  -- ---- of a whole one

  abbrev whole_fed : List Payload → Fed
  whole_fed ps = record { payloads = ps; fault = None }

  held : (limit : ℕ) (bytes : List ℕ) (ps : List Payload) (rest : List ℕ) → Splits limit bytes ps rest → HoldsPayloads limit bytes (whole_fed ps)
  held limit bytes ps rest splits = record { whole = λ none. (rest, splits); refused = λ fault is. absurd cc }

  abbrev refused_fed : List Payload → HeaderFault → Fed
  refused_fed ps fault = record { payloads = ps; fault = Some fault }

  held_refused : (limit : ℕ) (bytes : List ℕ) (ps : List Payload) (fault : HeaderFault) → IsRefusedAfter limit bytes ps fault → HoldsPayloads limit bytes (refused_fed ps fault)
  held_refused limit bytes ps fault refused = record {
    whole = λ none. absurd cc;
    refused = λ other is. let same : fault ≡ other = cc in subst (λ (x : HeaderFault). IsRefusedAfter limit bytes ps x) same refused;
  }

  all_answered : (fed : Fed) (out front : List ℕ) (state : ConnectionState) (now : S) → AnswersFed context May New first fed out state now → IsPrefix front out
      → IsCutOff context May New first fed front now
  all_answered fed out front state now answers p = record { part = fed; told = out; connection_state = state; front = f.all; answers = answers; taken = p }

  pub talk_broken : (limit : ℕ) (bytes out front : List ℕ) (end : End) (now : S) → Talk limit context May New first bytes out end now → IsPrefix front out
      → HasBrokenOff limit context May New first bytes front now
  talk_broken limit bytes _ front _ _ (t.ended {out} {end} {t = now} payloads rest splits said) p = record {
    fed = whole_fed payloads;
    holds = held limit bytes payloads rest splits;
    cut = all_answered (whole_fed payloads) out front (Ended end) now (s.ended said) p;
  }
  talk_broken limit bytes _ front _ _ (t.ended_before {out} {end} {t = now} payloads fault refused said) p = record {
    fed = refused_fed payloads fault;
    holds = held_refused limit bytes payloads fault refused;
    cut = all_answered (refused_fed payloads fault) out front (Ended end) now (s.ended said) p;
  }
  talk_broken limit bytes _ front _ _ (t.refused {out} {at} {t = now} payloads fault refused said) p = record {
    fed = refused_fed payloads fault;
    holds = held_refused limit bytes payloads fault refused;
    cut = all_answered (refused_fed payloads fault) (out ++ refusal_bytes fault.number fault.refusal) front (Ended Broken) now (s.refused fault refl said) p;
  }
  talk_broken limit bytes _ front _ _ (t.closed {out} {at} {t = now} payloads on splits said) p = record {
    fed = whole_fed payloads;
    holds = held limit bytes payloads [] splits;
    cut = all_answered (whole_fed payloads) out front (At at) now (s.goes_on refl said) p;
  }
  talk_broken limit bytes _ front _ _ (t.cut_off {out} {at} {t = now} payloads off splits said) p = record {
    fed = whole_fed payloads;
    holds = held limit bytes payloads [] splits;
    cut = all_answered (whole_fed payloads) out front (At at) now (s.goes_on refl said) p;
  }
  talk_broken limit bytes _ front _ _ (t.truncated {out} {at} {t = now} payloads b rest splits said) p = record {
    fed = whole_fed payloads;
    holds = held limit bytes payloads (b ∷ rest) splits;
    cut = all_answered (whole_fed payloads) out front (At at) now (s.goes_on refl said) p;
  }
