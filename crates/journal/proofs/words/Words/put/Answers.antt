use Rattle.std.proofs.Common.{arith, sym, ◌∙◌}
use Rattle.journal.proofs.Keeps.{appends}
use Rattle.journal.proofs.words.Words.put.Goals as goal

pub compare_exchange_with-requires : goal.compare_exchange_with-requires
compare_exchange_with-requires g c =
    let m = c.requires.may in (
      c.requires.table ∙ sym c.args.self.now.named,
      omega (arith, c.args.self.now.long, c.requires.slot),
      appends _ _ _ _ _ c.args.seat.now.me c.args.slot c.args.count c.args.entry.now c.requires.slot m.right m.here c.requires.count.0 m.entitled m.lawful m.told,
    )
