-- Trees in which a node calls where it is a call that is no constant or a part calls, the element for a field stands for what its
-- value stands for, and holes have no call that is no constant.
use Rattle.std.specs.Prelude.{◌≡◌, Bool, true, false}
use Rattle.go_types.specs.Trees.{TypeTree}
use Rattle.go_typed.specs.declared.form.Form.{Form}
use Rattle.go_typed.specs.declared.form.Form.TheVariants as form
use Rattle.go_typed.specs.Trees.{Sort, Label, Typed, typed, Typeds, none, more, skip, sort_of}
use Rattle.clone_window.specs.Masses.{is_hole, is_inside}
use Rattle.extract_trees.specs.Numberings.{calls_over}

abbrev pub IsKeyed : Form → Sort TypeTree → Typeds TypeTree → Type 0
IsKeyed (form.Keyed n) s (more p ps) = s ≡ sort_of p
IsKeyed f s ps = Unit {0}

abbrev pub HasCalls : Form → Label TypeTree → Typeds TypeTree → Type 0
HasCalls f l ps = calls_over f l.sort l.calls ps ≡ l.calls

abbrev mutual
  pub IsQuiet : Bool → Typed TypeTree → Type 0
  IsQuiet a (typed f i j l ps) = (is_hole a f l ≡ true → l.calls ≡ false) × HasCalls f l ps × IsKeyed f l.sort ps × AreQuiet (is_inside a f l) ps

  pub AreQuiet : Bool → Typeds TypeTree → Type 0
  AreQuiet a none = Unit {0}
  AreQuiet a (more p ps) = IsQuiet a p × AreQuiet a ps
  AreQuiet a (skip ps) = AreQuiet a ps
