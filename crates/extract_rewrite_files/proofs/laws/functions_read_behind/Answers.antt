use Rattle.extract_rewrite_files.proofs.Main.{functions_read_behind}
use Rattle.extract_rewrite_files.proofs.laws.functions_read_behind.Goals as goal

pub returns : goal.returns
returns c =
    functions_read_behind (record { subtrees = c.subtrees_stand.ensures; items = c.items_stand.ensures; runs = c.texts_end_well.ensures.run })
    c.texts_end_well.ensures.text c.fresh_names_are_enough.ensures c.changed_sites_keep_a_depth.ensures c.extracted_functions_read.ensures c.functions_have_places.ensures
