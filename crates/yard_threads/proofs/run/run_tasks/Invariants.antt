use Rattle.yard_threads.proofs.run.run_tasks.Given as goal

abbrev pub ghosts-run_yard : goal.ghosts-run_yard
ghosts-run_yard g a = record { needs = a.graph.now; workers = 8 }
