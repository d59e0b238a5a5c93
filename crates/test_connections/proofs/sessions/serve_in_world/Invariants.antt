use Rattle.test_connections.proofs.sessions.serve_in_world.Given as goal

-- the journal that was just opened
abbrev pub ghosts-serve_opened : goal.ghosts-serve_opened
ghosts-serve_opened g a = record { table = a.opened }
