use Rattle.extract_rewrite_files.proofs.Main.{templates_are_parts}
use Rattle.extract_rewrite_files.proofs.laws.templates_are_parts.Goals as goal

pub returns : goal.returns
returns c =
    templates_are_parts (record { subtrees = c.subtrees_stand.ensures; items = c.items_stand.ensures; runs = c.texts_end_well.ensures.run })
    c.texts_end_well.ensures.text c.fresh_names_are_enough.ensures c.changed_sites_keep_a_depth.ensures c.functions_have_places.ensures
