use Rattle.std.proofs.Common.{ℕ, List, ap, ◌∙◌}
use Rattle.mysql_handshake.specs.Native.{is_right}
use Rattle.session.proofs.conversation.LoginLemmas.{answered}
use Rattle.session.proofs.conversation.login.put_answer.Goals as goal

pub returns-clause-logs_in : goal.returns-clause-logs_in
returns-clause-logs_in c keyspaces =
    answered _ _ _ c.args.payload.now _ _ _ _ c.requires.number
    (c.verify_native-is_right.ensures ∙ ap (λ (bs : List ℕ). is_right c.args.handshake.now.access.stage2 c.args.handshake.now.salt bs) c.as_slice.ensures) c.admit.ensures.admits
