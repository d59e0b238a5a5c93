use Rattle.test_low.proofs.threads.runs.four_threads_append_to_one_run.Given as goal

-- the table that was just opened
abbrev pub ghosts-count_by_four : goal.ghosts-count_by_four
ghosts-count_by_four g a = record { table = a.opened }
