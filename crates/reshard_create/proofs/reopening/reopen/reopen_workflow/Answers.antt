use Rattle.std.proofs.Common.{◌≤◌, ◌++◌, length, map, sym, ap, subst, ◌∙◌, refl}
use Rattle.std.specs.Prelude.{IsPermutation}
use Rattle.std.proofs.lemmas.List.{length-map}
use Rattle.reshard_cutover.proofs.Residual.{residual}
use Rattle.vt_value.specs.declared.refusal.Refusal.TheVariants.{OutOfMemory}
use Rattle.reshard_create.proofs.reopening.Founds.{reopen_memory}
use Rattle.reshard_create.proofs.reopening.Refits.{retired_within}
use Rattle.reshard_create.proofs.reopening.reopen.reopen_workflow.Goals as goal

pub memory_of-requires-clause-few : goal.memory_of-requires-clause-few
memory_of-requires-clause-few g c =
    let again = c.in_ok-again.again in
    let made = c.in_ok-again.ensures.made in
    subst (λ n. again.progress.retired ≤ n) (length-map again.sources.items (λ s. s.member.which) ∙ ap length (sym c.as_slice-2.ensures.value))
    (retired_within (map (λ s. s.member.which) again.sources.items) made.found_sources made.found_targets again.progress.frozen again.progress.retired
    again.progress.served made.same_sources made.stopped.progress)

pub returns-in_err-memory-clause-refused : goal.returns-in_err-memory-clause-refused
returns-in_err-memory-clause-refused g c =
    residual c.from_residual-in_err-memory.result OutOfMemory _ c.from_residual-in_err-memory.ensures.1
    (reopen_memory g.W.World.opening c.args.pass.now c.find_again.new.pass c.args.keyspace c.args.from.now c.args.into.now OutOfMemory refl)

pub returns-clause-parts : goal.returns-clause-parts
returns-clause-parts g c =
    let again = c.in_ok-again.again in
    subst (λ l. IsPermutation (l ++ map (λ t. t.member.shard.value) again.targets.items) c.in_ok-memory.memory.next.value) c.as_slice.ensures.value
    (subst (λ l. IsPermutation (c.as_slice.result.now ++ map (λ t. t.member.shard.value) l) c.in_ok-memory.memory.next.value) c.as_slice-3.ensures.value
    c.in_ok-memory.ensures.parts)
