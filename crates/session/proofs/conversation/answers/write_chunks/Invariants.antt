use Rattle.std.proofs.Common.{◌≡◌, take}
use Rattle.std.specs.List.{concat}
use Rattle.std.specs.Io.KnownBytes.{Appends}
use Rattle.session.proofs.conversation.answers.write_chunks.Given as goal

abbrev pub invariant-loop-chunk : goal.invariant-loop-chunk
invariant-loop-chunk g l = record {
  taken : Appends (g.S.Sink.taken l.initial.sink) (g.S.Sink.taken l.sink) (concat (take l.chunk-index l.chunks));
  count : g.S.Sink.failures l.sink ≡ g.S.Sink.failures l.initial.sink;
}
