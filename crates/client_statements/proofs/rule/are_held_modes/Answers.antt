use Rattle.std.proofs.Common.{◌≡◌, ◌∙◌, ◌<◌, true, false, length, take, sym, arith}
use Rattle.client_statements.specs.Settings.{is_held_mode}
use Rattle.client_statements.proofs.Modes.{held_whole, held_more, held_not}
use Rattle.client_statements.proofs.rule.are_held_modes.Goals as goal

pub returns-then-not-is_held_mode : goal.returns-then-not-is_held_mode
returns-then-not-is_held_mode c =
    let held : is_held_mode (take c.part_len-count.result c.loop-rest.rest.now) ≡ false = sym c.is_held_mode.ensures ∙ c.if-not-is_held_mode.true in
    sym (held_not c.loop-rest.rest.now c.part_len-count.result c.part_len-count.ensures.value held) ∙ c.loop-rest.invariant

pub returns-then-count-rest : goal.returns-then-count-rest
returns-then-count-rest c =
    let held : is_held_mode (take c.part_len-count.result c.loop-rest.rest.now) ≡ true = sym c.is_held_mode.ensures ∙ c.if-not-is_held_mode.false in
    let whole : c.part_len-count.result ≡ length c.loop-rest.rest.now = omega arith in
    sym (held_whole c.loop-rest.rest.now c.part_len-count.result c.part_len-count.ensures.value whole held) ∙ c.loop-rest.invariant

pub loop-rest-preserved : goal.loop-rest-preserved
loop-rest-preserved c =
    let held : is_held_mode (take c.part_len-count.result c.loop-rest.rest.now) ≡ true = sym c.is_held_mode.ensures ∙ c.if-not-is_held_mode.false in
    let some : c.part_len-count.result < length c.loop-rest.rest.now = omega arith in
    rw c.text_after-rest.ensures
    (sym (held_more c.loop-rest.rest.now c.part_len-count.result c.part_len-count.ensures.value some held) ∙ c.loop-rest.invariant)
