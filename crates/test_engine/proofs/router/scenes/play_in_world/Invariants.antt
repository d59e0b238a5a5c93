use Rattle.test_engine.proofs.router.scenes.play_in_world.Given as goal

-- the journal that was just opened
abbrev pub ghosts-play_over : goal.ghosts-play_over
ghosts-play_over g a = record { table = a.opened }
