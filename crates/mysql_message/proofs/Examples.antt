-- Messages of documented examples.
use Rattle.std.proofs.Common.{[], ◌∷◌, ◌≡◌, refl, Some, None}
use Rattle.std.specs.Prelude.{codes}
use Rattle.vt_value.specs.declared.refusal.Refusal.TheVariants.{SyntaxError, DuplicateKey, PacketsOutOfOrder}
use Rattle.mysql_packet.specs.Frames.{frame}
use Rattle.mysql_message.specs.declared.command.StatementFault.TheVariants.{UnknownStatement}
use Rattle.mysql_message.specs.Messages.{quit, init_db, query, ping, prepare, close, fault_payload, prepared_payload, ok_payload, eof_payload, set_end_payload, err_payload, command_of}

ping_reply : frame 1 (ok_payload 0 2) ≡ 7 ∷ 0 ∷ 0 ∷ 1 ∷ 0 ∷ 0 ∷ 0 ∷ 2 ∷ 0 ∷ 0 ∷ 0 ∷ []
ping_reply = refl

insert_reply : frame 1 (ok_payload 1 2) ≡ 7 ∷ 0 ∷ 0 ∷ 1 ∷ 0 ∷ 1 ∷ 0 ∷ 2 ∷ 0 ∷ 0 ∷ 0 ∷ []
insert_reply = refl

begin_reply : frame 1 (ok_payload 0 3) ≡ 7 ∷ 0 ∷ 0 ∷ 1 ∷ 0 ∷ 0 ∷ 0 ∷ 3 ∷ 0 ∷ 0 ∷ 0 ∷ []
begin_reply = refl

syntax_reply : frame 1 (err_payload SyntaxError) ≡ 0x15 ∷ 0 ∷ 0 ∷ 1 ∷ 0xFF ∷ 0x28 ∷ 0x04 ∷ 0x23 ∷ 0x34 ∷ 0x32 ∷ 0x30 ∷ 0x30 ∷ 0x30 ∷ codes "syntax error"
syntax_reply = refl

duplicate_reply : frame 1 (err_payload DuplicateKey) ≡ 0x16 ∷ 0 ∷ 0 ∷ 1 ∷ 0xFF ∷ 0x26 ∷ 0x04 ∷ 0x23 ∷ 0x32 ∷ 0x33 ∷ 0x30 ∷ 0x30 ∷ 0x30 ∷ codes "duplicate key"
duplicate_reply = refl

out_of_order_reply : frame 2 (err_payload PacketsOutOfOrder)
    ≡ 0x1D ∷ 0 ∷ 0 ∷ 2 ∷ 0xFF ∷ 0x84 ∷ 0x04 ∷ 0x23 ∷ 0x30 ∷ 0x38 ∷ 0x53 ∷ 0x30 ∷ 0x31 ∷ codes "packets out of order"
out_of_order_reply = refl

last_packet : frame 48 (eof_payload 2) ≡ 5 ∷ 0 ∷ 0 ∷ 0x30 ∷ 0xFE ∷ 0 ∷ 0 ∷ 2 ∷ 0 ∷ []
last_packet = refl

end_of_one_row : frame 4 (set_end_payload 2) ≡ 7 ∷ 0 ∷ 0 ∷ 4 ∷ 0xFE ∷ 0 ∷ 0 ∷ 2 ∷ 0 ∷ 0 ∷ 0 ∷ []
end_of_one_row = refl

a_keyspace : command_of (0x02 ∷ codes "shop") ≡ Some (init_db (codes "shop"))
a_keyspace = refl

no_keyspace : command_of (0x02 ∷ []) ≡ Some (init_db [])
no_keyspace = refl

a_query : command_of (0x03 ∷ codes "SELECT 1") ≡ Some (query (codes "SELECT 1"))
a_query = refl

a_ping : command_of (0x0E ∷ 0x2A ∷ []) ≡ Some ping
a_ping = refl

a_quit : command_of (0x01 ∷ []) ≡ Some quit
a_quit = refl

no_payload : command_of [] ≡ None
no_payload = refl

no_command : command_of (0x1D ∷ []) ≡ None
no_command = refl

-- the worked example of the protocol's documentation: DO 1
a_prepare : command_of (0x16 ∷ codes "DO 1") ≡ Some (prepare (codes "DO 1"))
a_prepare = refl

a_close : command_of (0x19 ∷ 1 ∷ 0 ∷ 0 ∷ 0 ∷ []) ≡ Some (close (1 ∷ 0 ∷ 0 ∷ 0 ∷ []))
a_close = refl

-- the worked example of the protocol's documentation: the first statement, of one column and one hole
prepared_reply : frame 1 (prepared_payload 1 1 1) ≡ 0x0C ∷ 0 ∷ 0 ∷ 1 ∷ 0 ∷ 1 ∷ 0 ∷ 0 ∷ 0 ∷ 1 ∷ 0 ∷ 1 ∷ 0 ∷ 0 ∷ 0 ∷ 0 ∷ []
prepared_reply = refl

unknown_statement : frame 1 (fault_payload UnknownStatement)
    ≡ 0x23 ∷ 0 ∷ 0 ∷ 1 ∷ 0xFF ∷ 0xDB ∷ 0x04 ∷ 0x23 ∷ 0x48 ∷ 0x59 ∷ 0x30 ∷ 0x30 ∷ 0x30 ∷ codes "unknown prepared statement"
unknown_statement = refl
