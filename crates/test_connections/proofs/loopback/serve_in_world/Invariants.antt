use Rattle.test_connections.proofs.loopback.serve_in_world.Given as goal

-- the journal that was just opened
abbrev pub ghosts-serve_two : goal.ghosts-serve_two
ghosts-serve_two g a = record { table = a.opened }
