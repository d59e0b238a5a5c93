use Rattle.test_engine.proofs.shard_limits.playing.play.Given as goal

-- the journal that was just opened
abbrev pub ghosts-act_in : goal.ghosts-act_in
ghosts-act_in g a = record { table = a.opened }
