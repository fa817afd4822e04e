use Rattle.clone_window_added.proofs.Typeless.{adds_none}
use Rattle.clone_window_added.proofs.laws.appended_functions_add_no_right_sides.Goals as goal

pub returns : goal.returns
returns c k ss us h keeps old new a =
    adds_none k ss us h keeps old c.longer_files_tell_more.ensures c.names_stand_in_files.ensures c.empty_functions_declare_parameters.ensures
    (c.faultless_packages_are_resolved.ensures us new).complete c.functions_add_right_sides.ensures a
