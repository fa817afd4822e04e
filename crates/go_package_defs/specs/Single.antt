-- A package has one answer.
use Rattle.std.specs.Prelude.{◌≡◌, List}
use Rattle.go_base.specs.declared.bytes.FileText.{FileText}
use Rattle.go_tree.specs.Failures.{Failure}
use Rattle.go_typed.specs.Contents.{Content}
use Rattle.go_package_defs.specs.Checked.{IsChecked, IsGood, IsReported}

-- At most one fault is reported, and of a good package none. With its types it is one package, up to the nodes that its files are
-- kept in.
pub record HasOneAnswer (texts : List FileText) : Type 0 where
  pub fault : (f g : Failure) → IsReported texts f → IsReported texts g → f ≡ g
  pub good : (f : Failure) → IsGood texts → IsReported texts f → ⊥
  pub content : (c d : Content) → IsChecked texts c → IsChecked texts d → record c { files = d.files } ≡ d
