use Rattle.yard_cases.proofs.script.open_yard.Given as goal

abbrev pub ghosts-run_script : goal.ghosts-run_script
ghosts-run_script a = record { needs = a.graph.now; workers = a.workers }
