-- What a connection is greeted with, and whom it lets in.
use Rattle.std.specs.Prelude.{ℕ}
use Rattle.vtgate_clients.specs.setup.ServeArgs.{ServeArgsView}
use Rattle.mysql_handshake.specs.Salts.{salt_of}
use Rattle.session.specs.declared.conversation.access.Handshake.{Handshake}

-- of the connection with the number, as the words ask
abbrev pub handshake_of : ServeArgsView → ℕ → Handshake
handshake_of asked number = record { access = record { user = asked.user; stage2 = asked.stage2 }; salt = salt_of asked.nonce number; id = number }
