use Rattle.go_typed.specs.Contents.{content}
use Rattle.go_package_scopes.proofs.Runs.{all_runs}
use Rattle.go_package_scopes.proofs.laws.runs_of_checked_packages_are_scoped_by_tokens.Goals as goal

pub returns : goal.returns
returns c p h =
    all_runs
    (λ named written declared returns rights x gone local s r a b ps. (c.covered_functions_are_scoped.ensures named written declared returns rights x gone local s).1 r a b ps)
    (content p).uses (content p).functions (c.declared_names_of_checked_packages_have_room.ensures p h)
