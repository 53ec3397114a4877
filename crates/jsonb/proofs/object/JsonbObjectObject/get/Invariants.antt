use Rattle.jsonb.proofs.object.JsonbObjectObject.get.Given as goal

abbrev pub ghosts-get_in : goal.ghosts-get_in
ghosts-get_in a = record { name = a.blank.name; parts = a.blank.parts }
