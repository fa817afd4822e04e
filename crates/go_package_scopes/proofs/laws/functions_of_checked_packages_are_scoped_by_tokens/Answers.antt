use Rattle.go_typed.specs.Contents.{content}
use Rattle.go_package_scopes.proofs.Joined.{all_by_tokens}
use Rattle.go_package_scopes.proofs.laws.functions_of_checked_packages_are_scoped_by_tokens.Goals as goal

pub returns : goal.returns
returns c p h =
    all_by_tokens (content p).uses (content p).functions (c.declared_names_of_checked_packages_have_room.ensures p h) (c.functions_of_checked_packages_are_scoped_by_names.ensures p h)
