use Rattle.std.proofs.Common.{refl, ◌∙◌}
use Rattle.std.proofs.KnownBytes.{Appends-nil}
use Rattle.session.proofs.conversation.Conversations.{on_err}
use Rattle.session.proofs.conversation.Written.{next_chunk, chunk_cut}
use Rattle.session.proofs.conversation.answers.write_chunks.Goals as goal

pub loop-chunk-init : goal.loop-chunk-init
loop-chunk-init g c = record { taken = Appends-nil (g.S.Sink.taken c.args.sink.now); count = refl }

pub loop-chunk-preserved : goal.loop-chunk-preserved
loop-chunk-preserved g c = record {
  taken = next_chunk _ _ _ c.loop-chunk.chunk-index c.args.chunks.now c.chunk-item.result _ c.loop-chunk-test.true c.chunk-item.is c.as_slice.ensures c.loop-chunk.invariant.taken c.in_ok-write.ensures.bytes;
  count = c.in_ok-write.ensures.count ∙ c.loop-chunk.invariant.count;
}

pub returns-in_err-write-clause-front : goal.returns-in_err-write-clause-front
returns-in_err-write-clause-front g c =
    on_err _ _ (chunk_cut _ _ _ c.loop-chunk.chunk-index c.args.chunks.now c.chunk-item.result _ c.loop-chunk-test.true c.chunk-item.is c.as_slice.ensures c.loop-chunk.invariant.taken c.in_err-write.ensures.front)
