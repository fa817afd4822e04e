use Rattle.clone_window.specs.Bodies.{are_same}
use Rattle.clone_window_added.specs.Reworded.{StaysThere, window_in}
use Rattle.clone_window_added.proofs.Classes.{classes_kept}
use Rattle.clone_window_added.proofs.Compared.{windows_same}
use Rattle.clone_window_added.proofs.laws.reworded_windows_make_the_same_classes.Goals as goal

pub returns : goal.returns
returns c = record {
  same = λ g r identical other fields names is to old new w v h k. windows_same g r identical other fields names is to old new w v h k;
  classes = λ g r identical other fields names is to old new ws h.
      classes_kept (window_in to) (are_same identical fields fields old old) (are_same other names names new new) (StaysThere g r to old new)
      (λ w v h k. windows_same g r identical other fields names is to old new w v h k) ws h;
}
