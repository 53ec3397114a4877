use Rattle.worked_steps.proofs.steps.keys_are_found_in_few_steps.Given as goal

abbrev pub ghosts-both_texts : goal.ghosts-both_texts
ghosts-both_texts g a = record { name = a.blank.name; parts = a.blank.parts }
