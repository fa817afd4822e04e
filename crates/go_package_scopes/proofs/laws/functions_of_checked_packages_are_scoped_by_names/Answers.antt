use Rattle.std.specs.Prelude.{true}
use Rattle.go_typed.specs.Contents.{content}
use Rattle.go_package_scopes.proofs.Standing.{all_lexical}
use Rattle.go_package_scopes.proofs.laws.functions_of_checked_packages_are_scoped_by_names.Goals as goal

pub returns : goal.returns
returns c p h =
    all_lexical (λ named written declared rights x gone local s t. (c.covered_functions_are_scoped.ensures named written declared true rights x gone local s).0 t)
    (content p).functions (c.functions_of_checked_packages_have_shape.ensures p h) (c.branches_of_checked_packages_lead_somewhere.ensures p h)
