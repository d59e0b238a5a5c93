use Rattle.test_low.proofs.threads.runs.calls_answer.Given as goal

-- the table that was just opened
abbrev pub ghosts-answers : goal.ghosts-answers
ghosts-answers a = record { table = a.opened }
