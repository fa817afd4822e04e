-- A type is assignable to itself.
use Rattle.std.proofs.Common.{◌≡◌, true, ap}
use Rattle.std.specs.Prelude.{◌&&◌, ◌||◌, not}
use Rattle.go_types.specs.Trees.{TypeTree, is_named}
use Rattle.go_types.specs.Relations.{Rights}
use Rattle.go_types_relations.specs.Identity.{is_identical}
use Rattle.go_types_relations.specs.Tests.{underlying_of, both_identical, is_assignable}

pub assignable_itself : (rights : Rights) (t : TypeTree) → is_identical t t ≡ true → is_assignable rights t t ≡ true
unfolding is_assignable
assignable_itself rights t e = ap (λ b. b || (both_identical (underlying_of rights t) (underlying_of rights t) && not (is_named t && is_named t))) e
