-- Families of untyped values and of the types that they take.
use Rattle.std.proofs.Common.{◌≡◌, true, Option, Some, None, refl, sym, ap}
use Rattle.go_types.specs.Trees.{TypeTree}
use Rattle.go_types.specs.Relations.{Rights}
use Rattle.go_types_relations.specs.Tests.{underlying_of}
use Rattle.go_exprs_rules.specs.declared.family.Family.{Family}
use Rattle.go_exprs_rules.specs.declared.family.Family.TheVariants as family
use Rattle.go_exprs_rules.specs.declared.family.OpenKind.{OpenKind}
use Rattle.go_exprs_rules.specs.Sorts.{is_family, same_family, family_of_type, family_of_open, suits}

-- a type that suits a kind is of its family
same_one : (f g : Family) → same_family f g ≡ true → f ≡ g
same_one family.Booleans family.Booleans e = refl
same_one family.Integers family.Integers e = refl
same_one family.Texts family.Texts e = refl
same_one family.Booleans family.Integers e = cc
same_one family.Booleans family.Texts e = cc
same_one family.Integers family.Booleans e = cc
same_one family.Integers family.Texts e = cc
same_one family.Texts family.Booleans e = cc
same_one family.Texts family.Integers e = cc

pub one_family : (f : Family) (o : Option Family) → is_family f o ≡ true → o ≡ Some f
one_family f None e = cc
one_family f (Some g) e = ap Some (sym (same_one f g e))

pub suited : (rights : Rights) (k : OpenKind) (t : TypeTree) → suits rights k t ≡ true → family_of_type (underlying_of rights t) ≡ Some (family_of_open k)
suited rights k t e = one_family (family_of_open k) (family_of_type (underlying_of rights t)) e
