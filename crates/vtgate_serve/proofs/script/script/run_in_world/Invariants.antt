use Rattle.vtgate_serve.proofs.script.script.run_in_world.Given as goal

-- the journal that was just opened
abbrev pub ghosts-run_opened : goal.ghosts-run_opened
ghosts-run_opened g a = record { table = a.opened }
