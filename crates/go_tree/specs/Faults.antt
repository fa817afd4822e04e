-- What is wrong with the names of a package.
--
-- The rules on clauses come first; only where none of them fails, the rules on names decide. Of several faults the one at the
-- least place is reported, and of those at one place the one with the least code.
use Rattle.std.specs.Prelude.{◌+◌, List, ◌++◌, length, Option}
use Rattle.go_base.specs.declared.fault.FaultCode.TheVariants as code
use Rattle.go_tree.specs.Units.{Unit}
use Rattle.go_tree.specs.Declarations.{Found, found, declarations}
use Rattle.go_tree.specs.Meanings.{meanings}
use Rattle.go_tree.specs.Failures.{Failure, failing, least, or_else}
use Rattle.go_tree.specs.Clauses.{package_names, imports, outside_declarations, missing_bodies}
use Rattle.go_tree.specs.Redeclared.{redeclared}
use Rattle.go_tree.specs.Lookups.{Asked, asked_from, undeclared, outside_names, outside_members, not_called, initialisers, unused_variables, unused_imports}
use Rattle.go_tree.specs.Duplicates.{duplicates}
use Rattle.go_tree.specs.Branches.{branches, limit}
use Rattle.go_tree.specs.Constants.{hidden_lists}
use Rattle.go_tree.specs.Needs.{cycles}

-- The argument ds has the declarations, with the names before each `:=`.
abbrev pub clause_faults_by : List Unit → List Found → List Failure
clause_faults_by us ds = failing code.PackageName (package_names us) ++ failing code.Outside (imports us) ++ failing code.Outside (outside_declarations ds) ++ failing code.Outside (missing_bodies ds us)

abbrev pub clause_faults : List Unit → List Failure
clause_faults us = clause_faults_by us (found us)

-- The arguments are the files, their declarations, and the names that are looked up.
abbrev pub lookup_faults : List Asked → List Failure
lookup_faults asks =
    failing code.Undeclared (undeclared asks) ++ failing code.Outside (outside_names asks) ++ failing code.Outside (outside_members asks)
    ++ failing code.NotAValue (not_called asks) ++ failing code.Initialiser (initialisers asks)

abbrev pub unused_faults : List Unit → List Found → List Asked → List Failure
unused_faults us ds asks = failing code.UnusedVariable (unused_variables asks ds) ++ failing code.UnusedImport (unused_imports asks us)

abbrev pub placed_faults : List Unit → List Failure
placed_faults us = failing code.Branch (branches us) ++ failing code.Duplicate (duplicates us) ++ failing code.Limit (limit us) ++ failing code.Outside (hidden_lists us)

abbrev pub cycle_faults : List Found → List Asked → List Failure
cycle_faults ds asks = failing code.Cycle (cycles asks (length ds + length ds) ds)

abbrev pub name_faults_by : List Unit → List Found → List Asked → List Failure
name_faults_by us ds asks = failing code.Redeclared (redeclared us ds) ++ lookup_faults asks ++ unused_faults us ds asks ++ placed_faults us ++ cycle_faults ds asks

abbrev pub name_faults : List Unit → List Failure
name_faults us = name_faults_by us (declarations us) (asked_from (meanings us) 0 us)

-- the fault that is reported, if any rule fails
abbrev pub reported : List Unit → Option Failure
reported us = or_else (least (clause_faults us)) (least (name_faults us))
