use Rattle.clone_session.proofs.extract_answers.extracted.Given as goal

abbrev pub ghosts-refresh : goal.ghosts-refresh
ghosts-refresh g a = record { name = a.blank.name; parts = a.blank.parts }
