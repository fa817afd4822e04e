-- The local that a name declares, by its form.
use Rattle.std.proofs.Common.{◌≡◌, Option, Some, None, refl}
use Rattle.go_tree.specs.declared.object.Object.{Object}
use Rattle.go_tree.specs.declared.object.Object.TheVariants as object
use Rattle.go_exprs_rules.specs.Names.{declared_form}
use Rattle.go_exprs_rules.specs.Scopes.{Scope}
use Rattle.go_stmts_defs.specs.Laying.{local_named}
use Rattle.go_stmts.specs.Signatures.{number_in}

pub declares_local : (s : Scope) (o : Option Object) → number_in (declared_form s o) ≡ local_named o
declares_local s None = refl
declares_local s (Some object.Import) = refl
declares_local s (Some (object.Predeclared b)) = refl
declares_local s (Some (object.Package n)) = refl
declares_local s (Some (object.Local f n)) = refl
