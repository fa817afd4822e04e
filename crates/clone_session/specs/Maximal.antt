-- Where windows lie among classes of some numbers.
use Rattle.std.specs.Prelude.{ℕ, List}
use Rattle.go_typed.specs.declared.window.Window.{Window}
use Rattle.clone_classes.specs.Classes.{Among}
use Rattle.clone_report.specs.Maximal.{LiesIn}
use Rattle.clone_replies.specs.Maximal.{members_at}

-- The window lies in a member of the class of one of these numbers, counted from 1.
pub record LiesInOneOf (classes : List (List Window)) (numbers : List ℕ) (w : Window) : Type 0 where
  pub number : ℕ
  pub listed : Among numbers number
  pub member : Window
  pub among : Among (members_at classes number) member
  pub lies : LiesIn w member
