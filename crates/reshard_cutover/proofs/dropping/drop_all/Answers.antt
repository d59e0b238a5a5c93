use Rattle.follow.proofs.Turns.{unlooked}
use Rattle.std.proofs.Common.{refl}
use Rattle.shard_run.specs.declared.ShardRecord.{ShardRecord}
use Rattle.reshard_cutover.proofs.Onward.{still, onward_trans}
use Rattle.reshard_cutover.proofs.Thaws.{out_next, look_next_of}
use Rattle.reshard_cutover.proofs.dropping.drop_all.Goals as goal

pub loop-source-init : goal.loop-source-init
loop-source-init g c =
    record { onward = still g.W.World.opening c.args.pass.now c.requires.legal; looked = unlooked c.args.pass.now c.args.pass.now refl; out = tt }

pub loop-source-preserved : goal.loop-source-preserved
loop-source-preserved g c =
    let o = g.W.World.opening in
    record {
      onward = onward_trans o c.args.pass.now c.loop-source.pass c.drop_rows.new.pass c.loop-source.invariant.onward c.drop_rows.ensures.onward;
      looked =
          look_next_of (λ s. s.member.which) (λ (s : ShardRecord). s.slot) c.args.sources.now c.loop-source.source-index c.source-item.result c.loop-source-test.true c.source-item.is
          c.args.pass.now c.loop-source.pass c.drop_rows.new.pass c.loop-source.invariant.looked c.drop_rows.ensures.looked;
      out =
          out_next (λ s. s.member.which) o c.args.pass.now c.loop-source.pass c.drop_rows.new.pass c.args.sources.now c.loop-source.source-index
          c.source-item.result c.loop-source-test.true c.source-item.is c.loop-source.invariant.onward c.drop_rows.ensures.onward c.drop_rows.ensures.out
          c.loop-source.invariant.out;
    }
