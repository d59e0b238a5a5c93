use Rattle.std.proofs.Common.{sym, ap, ◌∙◌, subst, drop, ◌≡◌}
use Rattle.mysql_packet.specs.Framing.{Framing, HasFramed}
use Rattle.mysql_packet.proofs.StreamLemmas.{reads_on}
use Rattle.mysql_packet.proofs.framer.Framer.feed.Goals as goal

pub returns-in-Ok-clause-payloads : goal.returns-in-Ok-clause-payloads
returns-in-Ok-clause-payloads c = λ none stream before read.
    let old : Framing = record { limit = c.self.inside.limit; rest = c.self.inside.pending.items; fault = c.self.inside.fault } in
    let is_old : old ≡ c.args.self.now = c.self.view_is in
    reads_on old c.args.piece.now c.deref.result.now c.drop_front.new.pending.items c.in-Ok.taken.used c.in-Ok.taken.payloads c.in-Ok.taken.fault
    (c.deref.ensures.value ∙ c.in_ok-extend_from_slice.ensures.items) (c.drop_front.ensures ∙ ap (drop c.in-Ok.taken.used) (sym c.deref.ensures.value))
    c.in-Ok.ensures.1 none stream before (subst (λ (f : Framing). HasFramed f stream before) (sym is_old) read)
