-- What the objects of a package stand for, or the fault that is reported of its declarations.
use Rattle.std.specs.Prelude.{ℕ, suc, Bool, true, false, ◌&&◌, not, List, [], ◌∷◌, ◌++◌, map, Option, Some, None, Result, Ok, Err, codes}
use Rattle.go_base.specs.declared.fault.FaultCode.TheVariants as code
use Rattle.go_tokens.specs.Spellings.{same_text}
use Rattle.go_tree.specs.declared.context.Entity.{Entity}
use Rattle.go_tree.specs.declared.context.Entity.TheVariants as entity
use Rattle.go_tree.specs.declared.object.Declared.{Declared}
use Rattle.go_tree.specs.Failures.{Failure, least}
use Rattle.go_tree.specs.Units.{bytes_of}
use Rattle.go_tree.specs.Uses.{UsesView}
use Rattle.go_types.specs.Trees.{function, none}
use Rattle.go_types.specs.Relations.{Rights}
use Rattle.go_typed.specs.Trees as sort
use Rattle.go_exprs_rules.specs.declared.fault.TypeFault.{TypeFault}
use Rattle.go_exprs_rules.specs.Faults.{fault_at}
use Rattle.go_exprs_rules.specs.Scopes.{at_once}
use Rattle.go_exprs_rules.specs.Sorts.{Stands}
use Rattle.go_package_defs.specs.Declarations.{Specification, in_file}
use Rattle.go_package_defs.specs.Sources.{Source, Package, package_of, rounds, text_at, tokens_in}
use Rattle.go_package_defs.specs.Knowledge.{Outline, outlines, State, state_of, is_sound, passes, rights_of}
use Rattle.go_package_defs.specs.Verdicts.{known, specification_faults, unblocked_faults}

-- what the objects of a package stand for, by their numbers, and the right sides of its declared types
pub record Environment : Type 0 where
  pub rights : Rights
  pub objects : List Stands

abbrev pub specifications : ℕ → List Source → List Specification
specifications n [] = []
specifications n (s ∷ ss) = in_file n s.tree ++ specifications (suc n) ss

-- ---- places

-- a fault at tokens of a file
abbrev pub failure_at : Package → ℕ → TypeFault → Failure
failure_at p n f = record { code = f.code; place = bytes_of n (tokens_in p n) f.first f.last }

abbrev pub failures_at : Package → ℕ → List TypeFault → List Failure
failures_at p n fs = map (failure_at p n) fs

-- ---- the function `main` of the package `main` (Go specification: Program execution)

abbrev pub is_procedure : Entity → Stands → Bool
is_procedure entity.Function (sort.Value (function none none)) = true
is_procedure e x = false

-- the package's name is that of the first file
abbrev pub is_main_package : Package → Bool
is_main_package p = same_text (text_at p 0 1) (codes "main")

abbrev pub is_main : Package → Declared → Bool
is_main p d = is_main_package p && same_text (text_at p d.file d.name) (codes "main")

abbrev pub fault_if : Bool → ℕ → List TypeFault
fault_if true t = fault_at code.Operands t (suc t)
fault_if false t = []

-- `main` has no parameters and no results; it is judged where it is free of faults
abbrev pub main_faults : Package → List Outline → List State → ℕ → Declared → List TypeFault
main_faults p os ss n d = fault_if (is_main p d && passes is_sound os ss at_once n && not (is_procedure d.entity (state_of ss n).stands)) d.name

abbrev pub mains_from : Package → List Outline → List State → ℕ → List Declared → List Failure
mains_from p os ss n [] = []
mains_from p os ss n (d ∷ ds) = failures_at p d.file (main_faults p os ss n d) ++ mains_from p os ss (suc n) ds

-- ---- the answer

abbrev pub all_failures : Package → List Outline → List State → List Specification → List Failure
all_failures p os ss [] = mains_from p os ss 0 p.uses.package_level
all_failures p os ss (d ∷ ds) = failures_at p d.file (specification_faults p os ss d) ++ all_failures p os ss ds

-- the rules that fail at specifications, whether or not they are blocked
abbrev pub hidden_failures : Package → List Outline → List State → List Specification → List Failure
hidden_failures p os ss [] = []
hidden_failures p os ss (d ∷ ds) = failures_at p d.file (unblocked_faults p os ss d) ++ hidden_failures p os ss ds

abbrev pub or_else : List Failure → List Failure → List Failure
or_else [] gs = gs
or_else (f ∷ fs) gs = f ∷ fs

-- Specifications that need one another in a ring are blocked by one another's faults, so that none of these would be told. Where
-- nothing else fails the faults of blocked specifications are told too.
abbrev pub package_failures : Package → List Outline → List State → List Specification → List Failure
package_failures p os ss ds = or_else (all_failures p os ss ds) (hidden_failures p os ss ds)

abbrev pub unless : {A : Type 0} → Option Failure → A → Result A Failure
unless None x = Ok x
unless (Some f) x = Err f

abbrev pub environment_of : Package → List State → Environment
environment_of p ss = record { rights = rights_of p ss; objects = map (λ s. s.stands) ss }

abbrev pub answer_on : Package → List Specification → List Outline → List State → Result Environment Failure
answer_on p ds os ss = unless (least (package_failures p os ss ds)) (environment_of p ss)

abbrev pub answer_with : Package → List Specification → List Outline → Result Environment Failure
answer_with p ds os = answer_on p ds os (known p os (rounds p))

abbrev pub answer_by : Package → List Specification → Result Environment Failure
answer_by p ds = answer_with p ds (outlines p ds)

-- What the objects of the package stand for; or, of all the rules that fail in its types, constants, variables and signatures, the
-- one at the least place, and at one place that with the least code.
abbrev pub package_answer : List Source → UsesView → Result Environment Failure
package_answer ss u = answer_by (package_of ss u) (specifications 0 ss)
