use Rattle.clone_window_added.proofs.Between.{stays_between}
use Rattle.clone_window_added.proofs.Extended.{Laws, keeps_function, keeps_types, known}
use Rattle.clone_window_added.proofs.Levels.{keeps_rights}
use Rattle.clone_window_added.proofs.Together.{keeps_classes}
use Rattle.clone_window_added.proofs.laws.windows_of_unchanged_functions_stay.Goals as goal

pub returns : goal.returns
returns c =
    let l : Laws = record {
      answers = c.answers_stay.ensures;
      objects = c.objects_keep_their_numbers.ensures;
      functions = c.typed_functions_stay.ensures;
      portions = c.portions_follow_from_functions.ensures;
      below = c.objects_name_types_of_the_package.ensures;
      added = c.functions_add_right_sides.ensures;
      more = c.functions_stand_behind_more_right_sides.ensures;
      bodies = c.unchanged_functions_keep_their_bodies.ensures;
      around = c.unchanged_functions_keep_their_fault.ensures;
      counted = c.functions_in_front_are_counted.ensures;
    } in
    record {
      windows = λ k ss ms us names others t z h n s. keeps_function k ss ms us names others t z h (known k ss ms us names others t z h l) n s;
      types = λ k ss ms us names others t z h n s e. keeps_types k ss ms us names others t z h (known k ss ms us names others t z h l) n s e;
      classes = λ k ss ms us names others t z h r.
          keeps_classes k ss ms us names others t z h (λ n s. keeps_types k ss ms us names others t z h (known k ss ms us names others t z h l) n s (r.in_front n s)) r.all;
      between = λ k ss ms us names others t z h own each. stays_between k ss ms us names others t z h (known k ss ms us names others t z h l) own each;
      rights = λ k ss ms us names others t z h own each. keeps_rights k ss ms us names others t z h (known k ss ms us names others t z h l) own each;
    }
