use Rattle.extract_names_changes.proofs.Sound.{all_sound}
use Rattle.extract_names_changes.proofs.laws.extracted_functions_are_sound.Goals as goal

pub returns : goal.returns
returns c = λ old new h k e r it.
    all_sound c.sites_are_faultless.ensures c.copies_are_faultless.ensures old new (c.functions_keep_their_numbers.ensures old new h k e)
    (c.functions_stay_in_their_files.ensures old new h k e) ((c.faults_are_those_of_functions.ensures old h (c.functions_have_names.ensures old h r)).apart r) it
