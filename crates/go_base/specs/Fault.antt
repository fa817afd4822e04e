-- Faults of a package, in one table: the number, the word and the phases of each code.
use Rattle.std.specs.Prelude.{ℕ, List, [], ◌∷◌, codes}
use Rattle.go_base.specs.declared.fault.FaultCode.{FaultCode}
use Rattle.go_base.specs.declared.fault.FaultCode.TheVariants as code
use Rattle.go_base.specs.declared.fault.Phase.{Phase}
use Rattle.go_base.specs.declared.fault.Phase.TheVariants as phase

-- the number of a phase; the earliest phase with a fault decides
abbrev pub phase_number : Phase → ℕ
phase_number phase.Encoding = 1
phase_number phase.Tokens = 2
phase_number phase.Trees = 3
phase_number phase.Clauses = 4
phase_number phase.Names = 5
phase_number phase.Declarations = 6
phase_number phase.Bodies = 7

-- the number of a code
abbrev pub code_number : FaultCode → ℕ
code_number code.Encoding = 1
code_number code.Lexical = 2
code_number code.Outside = 3
code_number code.Syntax = 4
code_number code.PackageName = 5
code_number code.Redeclared = 6
code_number code.Undeclared = 7
code_number code.UnusedVariable = 8
code_number code.UnusedImport = 9
code_number code.Operands = 10
code_number code.Assignable = 11
code_number code.Representable = 12
code_number code.ZeroDivisor = 13
code_number code.ConstIndex = 14
code_number code.Count = 15
code_number code.NotAValue = 16
code_number code.NotComparable = 17
code_number code.MissingReturn = 18
code_number code.Branch = 19
code_number code.Cycle = 20
code_number code.LeftSide = 21
code_number code.UnusedValue = 22
code_number code.Duplicate = 23
code_number code.Initialiser = 24
code_number code.Limit = 25

-- the word of a code, as a reply prints it
abbrev pub code_word : FaultCode → List ℕ
code_word code.Encoding = codes "encoding"
code_word code.Lexical = codes "lexical"
code_word code.Outside = codes "outside"
code_word code.Syntax = codes "syntax"
code_word code.PackageName = codes "packagename"
code_word code.Redeclared = codes "redeclared"
code_word code.Undeclared = codes "undeclared"
code_word code.UnusedVariable = codes "unusedvariable"
code_word code.UnusedImport = codes "unusedimport"
code_word code.Operands = codes "operands"
code_word code.Assignable = codes "assignable"
code_word code.Representable = codes "representable"
code_word code.ZeroDivisor = codes "zerodivisor"
code_word code.ConstIndex = codes "constindex"
code_word code.Count = codes "count"
code_word code.NotAValue = codes "notavalue"
code_word code.NotComparable = codes "notcomparable"
code_word code.MissingReturn = codes "missingreturn"
code_word code.Branch = codes "branch"
code_word code.Cycle = codes "cycle"
code_word code.LeftSide = codes "leftside"
code_word code.UnusedValue = codes "unusedvalue"
code_word code.Duplicate = codes "duplicate"
code_word code.Initialiser = codes "initialiser"
code_word code.Limit = codes "limit"

-- the phases in which a code comes
abbrev pub code_phases : FaultCode → List Phase
code_phases code.Encoding = phase.Encoding ∷ []
code_phases code.Lexical = phase.Tokens ∷ []
code_phases code.Outside = phase.Tokens ∷ phase.Clauses ∷ phase.Names ∷ []
code_phases code.Syntax = phase.Trees ∷ []
code_phases code.PackageName = phase.Clauses ∷ []
code_phases code.Redeclared = phase.Names ∷ []
code_phases code.Undeclared = phase.Names ∷ []
code_phases code.UnusedVariable = phase.Names ∷ []
code_phases code.UnusedImport = phase.Names ∷ []
code_phases code.Operands = phase.Declarations ∷ phase.Bodies ∷ []
code_phases code.Assignable = phase.Declarations ∷ phase.Bodies ∷ []
code_phases code.Representable = phase.Declarations ∷ phase.Bodies ∷ []
code_phases code.ZeroDivisor = phase.Declarations ∷ phase.Bodies ∷ []
code_phases code.ConstIndex = phase.Declarations ∷ phase.Bodies ∷ []
code_phases code.Count = phase.Declarations ∷ phase.Bodies ∷ []
code_phases code.NotAValue = phase.Names ∷ phase.Declarations ∷ phase.Bodies ∷ []
code_phases code.NotComparable = phase.Declarations ∷ phase.Bodies ∷ []
code_phases code.MissingReturn = phase.Bodies ∷ []
code_phases code.Branch = phase.Names ∷ []
code_phases code.Cycle = phase.Names ∷ []
code_phases code.LeftSide = phase.Bodies ∷ []
code_phases code.UnusedValue = phase.Bodies ∷ []
code_phases code.Duplicate = phase.Names ∷ []
code_phases code.Initialiser = phase.Names ∷ []
code_phases code.Limit = phase.Names ∷ phase.Declarations ∷ phase.Bodies ∷ []
