use Rattle.std.proofs.Common.{◌≡◌, ◌++◌, drop, length, map}
use Rattle.std.specs.List.{AllByRecursion}
use Rattle.go_tree.specs.declared.context.Entity.TheVariants as entity
use Rattle.go_types.specs.Tables.{rights_of}
use Rattle.go_types_relations.specs.Extends.{Extends}
use Rattle.go_typed.specs.Views.{seen, Known}
use Rattle.go_declarations.specs.Views.{seen_all}
use Rattle.go_package_defs.specs.Bodies.{those_of, variables_of}
use Rattle.go_package.specs.Functions.{package_in, around_in, AreStanding, ArePlainVariables}
use Rattle.go_package.proofs.variables.type_each.Given as goal

abbrev pub invariant-loop-specification : goal.invariant-loop-specification
invariant-loop-specification l =
    let p = package_in l.files l.uses in
    let a = around_in l.fn.types l.env in
    record {
      extends : Extends l.fn.types l.types;
      rights : rights_of l.types ≡ rights_of l.fn.types;
      known : AllByRecursion (Known (length l.types.shapes)) l.variables.items;
      standing : AreStanding p entity.Variable (seen_all (drop l.specification-index l.specifications));
      plain : ArePlainVariables (seen_all (drop l.specification-index l.specifications));
      told : map (seen l.types) l.variables.items ++ variables_of p a (rights_of l.fn.types) (those_of entity.Variable (seen_all (drop l.specification-index l.specifications))) ≡ variables_of p a (rights_of l.fn.types)
          (those_of entity.Variable (seen_all l.specifications));
    }
