use Rattle.std.proofs.Common.{subst}
use Rattle.shard.specs.declared.snapshot.BegunRead.{BegunRead}
use Rattle.shard.specs.BegunReads.{HasBegunRead}
use Rattle.shard.proofs.BegunReads.{answered_so, selected_so}
use Rattle.shard.proofs.snapshot.BegunRead.finish.Goals as goal

pub returns-in-Answered : goal.returns-in-Answered
returns-in-Answered c =
    record {
      read = λ o run s has. (
          answered_so o run s c.args.query.now c.in-Answered.outcome (subst (λ (b : BegunRead). HasBegunRead o run s c.args.query.now b) c.in-Answered.is has)
          );
    }

pub returns-in_ok-reading-in-Begun : goal.returns-in_ok-reading-in-Begun
returns-in_ok-reading-in-Begun c =
    record {
      read = λ o run s has. (
          selected_so o run s c.args.query.now c.in-Begun.snapshot c.in_ok-reading-in-Begun.reading c.in_ok-reading-in-Begun.ensures.rows
          c.in_ok-reading-in-Begun.ensures.entries (subst (λ (b : BegunRead). HasBegunRead o run s c.args.query.now b) c.in-Begun.is has)
          );
    }
