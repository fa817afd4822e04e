use Rattle.std.proofs.Common.{◌≡◌, ◌∙◌, Some, sym}
use Rattle.go_tree.specs.declared.object.Object.{Object}
use Rattle.go_tree.proofs.laws.objects_have_declarations_of_their_own.Goals as goal

some_is : (x y : Object) → Some x ≡ Some y → x ≡ y
some_is x y e = cc

pub returns : goal.returns
returns c u o p d h e f = some_is o p (sym (h.own o d e) ∙ h.own p d f)
