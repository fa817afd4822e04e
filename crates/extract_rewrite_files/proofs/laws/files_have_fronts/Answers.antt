use Rattle.extract_rewrite_files.proofs.Main.{files_have_fronts}
use Rattle.extract_rewrite_files.proofs.laws.files_have_fronts.Goals as goal

pub returns : goal.returns
returns c =
    files_have_fronts
    (record {
      known = record { subtrees = c.subtrees_stand.ensures; items = c.items_stand.ensures; runs = c.texts_end_well.ensures.run };
      stay = c.other_bytes_stay.ensures;
      rewritten = c.extracted_files_are_rewritten.ensures;
      one_tree = c.called_files_have_one_tree.ensures;
    })
    c.edits_can_be_done.ensures c.unrefused_windows_are_apart.ensures c.functions_have_places.ensures
