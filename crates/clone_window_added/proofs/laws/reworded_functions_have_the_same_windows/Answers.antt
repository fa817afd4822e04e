use Rattle.std.proofs.Common.{◌∙◌}
use Rattle.clone_window_added.proofs.Classes.{in_tree}
use Rattle.clone_window_added.proofs.Reworded.{window_mass_kept, windows_kept}
use Rattle.clone_window_added.proofs.laws.reworded_functions_have_the_same_windows.Goals as goal

pub returns : goal.returns
returns c = record {
  windows = λ g r to bounds n root. windows_kept g r bounds (to n) 0 root ∙ in_tree to bounds n 0 root;
  masses = λ g r root w. window_mass_kept g r root w;
}
