use Rattle.extract_names_changes.proofs.laws.extracted_packages_are_free_of_faults.Goals as goal

pub returns : goal.returns
returns c = λ old new h k e r it imported.
    c.packages_stay_free_of_faults.ensures old new h k e r (c.extracted_functions_have_bodies.ensures old new it) imported (c.extracted_functions_are_sound.ensures old new h k e r it)
