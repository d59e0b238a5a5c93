-- What a connection is greeted with.
use Rattle.std.proofs.Common.{◌≡◌, ℕ, List, ap, ◌∙◌}
use Rattle.vtgate_clients.specs.setup.ServeArgs.{ServeArgsView}
use Rattle.mysql_handshake.specs.Salts.{salt_of}
use Rattle.session.specs.declared.conversation.access.Access.{Access}
use Rattle.session.specs.declared.conversation.access.Handshake.{Handshake}
use Rattle.vtgate_clients.specs.Admitted.{handshake_of}

pub handshake_is : (access : Access) (salt nonce : List ℕ) (number counted : ℕ) (asked : ServeArgsView) → access.user ≡ asked.user → access.stage2 ≡ asked.stage2
    → salt ≡ salt_of nonce counted → counted ≡ number → nonce ≡ asked.nonce
    → (let h : Handshake = record { access = access; salt = salt; id = number } in h ≡ handshake_of asked number)
handshake_is access salt nonce number counted asked user stage2 is same by =
    let all : salt ≡ salt_of asked.nonce number = is ∙ (ap (salt_of nonce) same ∙ ap (λ (n : List ℕ). salt_of n number) by) in
    λ i. record { access = record { user = user i; stage2 = stage2 i }; salt = all i; id = number }
