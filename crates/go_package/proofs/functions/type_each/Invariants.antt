use Rattle.std.proofs.Common.{drop, length}
use Rattle.std.specs.List.{AllByRecursion}
use Rattle.go_tree.specs.declared.context.Entity.TheVariants as entity
use Rattle.go_types.specs.Tables.{rights_of}
use Rattle.go_types_relations.specs.Extends.{Extends}
use Rattle.go_declarations.specs.Views.{seen_all}
use Rattle.go_package_defs.specs.Bodies.{those_of, functions_from}
use Rattle.go_stmts.specs.Bodies.{KnownFunction}
use Rattle.go_package.specs.Functions.{package_in, around_in, AreStanding}
use Rattle.go_package.proofs.Rows.{Told}
use Rattle.go_package.proofs.functions.type_each.Given as goal

abbrev pub invariant-loop-specification : goal.invariant-loop-specification
invariant-loop-specification l =
    let p = package_in l.files l.uses in
    let a = around_in l.fn.types l.env in
    record {
      extends : Extends l.fn.types l.types;
      known : AllByRecursion (KnownFunction (length l.types.shapes)) l.functions.items;
      standing : AreStanding p entity.Function (seen_all (drop l.specification-index l.specifications));
      told : Told p a (functions_from p a (rights_of l.fn.types) 0 (those_of entity.Function (seen_all l.specifications))) l.types l.functions.items l.number
          (those_of entity.Function (seen_all (drop l.specification-index l.specifications)));
    }
