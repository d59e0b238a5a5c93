use Rattle.std.proofs.Common.{sym, ◌∙◌}
use Rattle.mysql_handshake.specs.Handshakes.{answered_of}
use Rattle.session.proofs.conversation.LoginLemmas.{not_read, asked_again, responded}
use Rattle.session.proofs.conversation.login.put_response.Goals as goal

pub returns-in-Err-clause-logs_in : goal.returns-in-Err-clause-logs_in
returns-in-Err-clause-logs_in c =
    let only = rw c.as_slice.ensures at c.read_response.ensures.only in
    not_read _ _ _ c.args.payload.now _ answered_of _ _ c.in-Err.is c.requires.number only c.put_refusal.ensures.bytes

pub returns-then-is_other_plugin-clause-logs_in : goal.returns-then-is_other_plugin-clause-logs_in
returns-then-is_other_plugin-clause-logs_in c =
    let reads = rw c.as_slice.ensures at c.in-Ok.ensures.found in
    asked_again _ _ _ c.args.payload.now _ (answered_of c.in-Ok.response) c.login_of-login.result c.requires.number reads
    (sym c.is_other_plugin.ensures ∙ c.if-is_other_plugin.true) c.login_of-login.ensures c.ask_again.ensures.bytes

pub returns-else-is_other_plugin-clause-logs_in : goal.returns-else-is_other_plugin-clause-logs_in
returns-else-is_other_plugin-clause-logs_in c =
    let reads = rw c.as_slice.ensures at c.in-Ok.ensures.found in
    responded _ _ _ c.args.payload.now _ (answered_of c.in-Ok.response) c.login_of-login.result c.verify_native-is_right.result _ c.requires.number reads
    (sym c.is_other_plugin.ensures ∙ c.if-is_other_plugin.false) c.login_of-login.ensures c.verify_native-is_right.ensures c.admit.ensures.admits
