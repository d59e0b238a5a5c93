use Rattle.mysql_handshake.specs.Handshakes.{connect_with_db, plugin_auth}
use Rattle.mysql_handshake.proofs.Responses.{has_field, same_response}
use Rattle.mysql_handshake.proofs.response.response_in.Goals as goal

pub returns-in_err-database-clause-only : goal.returns-in_err-database-clause-only
returns-in_err-database-clause-only c r h =
    let capabilities = c.in_ok-capabilities.ensures.only r.capabilities _ h.in_range.0 h.whole in
    let unread = c.in_ok-rest.ensures.only h.unread _ capabilities.1 h.in_range.2 in
    let user = c.in_ok-user.ensures.only r.user _ h.user_ends unread.1 in
    let answer = c.in_ok-answer.ensures.only r.answer _ user.1 in
    let has = has_field connect_with_db _ _ _ r.database capabilities.0 c.is_set-2.ensures h.has_database in
    absurd (c.in_err-database.ensures.only r.database _ has answer.1)

pub returns-in_err-plugin-clause-only : goal.returns-in_err-plugin-clause-only
returns-in_err-plugin-clause-only c r h =
    let capabilities = c.in_ok-capabilities.ensures.only r.capabilities _ h.in_range.0 h.whole in
    let unread = c.in_ok-rest.ensures.only h.unread _ capabilities.1 h.in_range.2 in
    let user = c.in_ok-user.ensures.only r.user _ h.user_ends unread.1 in
    let answer = c.in_ok-answer.ensures.only r.answer _ user.1 in
    let has_database = has_field connect_with_db _ _ _ r.database capabilities.0 c.is_set-2.ensures h.has_database in
    let database = c.in_ok-database.ensures.only r.database _ has_database answer.1 in
    let has_plugin = has_field plugin_auth _ _ _ r.plugin capabilities.0 c.is_set-3.ensures h.has_plugin in
    absurd (c.in_err-plugin.ensures.only r.plugin _ has_plugin database.1)

pub returns-clause-only : goal.returns-clause-only
returns-clause-only c r h =
    let capabilities = c.in_ok-capabilities.ensures.only r.capabilities _ h.in_range.0 h.whole in
    let unread = c.in_ok-rest.ensures.only h.unread _ capabilities.1 h.in_range.2 in
    let user = c.in_ok-user.ensures.only r.user _ h.user_ends unread.1 in
    let answer = c.in_ok-answer.ensures.only r.answer _ user.1 in
    let has_database = has_field connect_with_db _ _ _ r.database capabilities.0 c.is_set-2.ensures h.has_database in
    let database = c.in_ok-database.ensures.only r.database _ has_database answer.1 in
    let has_plugin = has_field plugin_auth _ _ _ r.plugin capabilities.0 c.is_set-3.ensures h.has_plugin in
    let plugin = c.in_ok-plugin.ensures.only r.plugin _ has_plugin database.1 in
    same_response _ r capabilities.0 user.0 answer.0 database.0 plugin.0
