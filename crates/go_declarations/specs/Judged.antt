-- Types and values of specifications, as the program types them.
use Rattle.std.specs.Prelude.{ℕ, List, Option, Some, None}
use Rattle.go_grammar.specs.Trees.{Tree}
use Rattle.go_typed.specs.Views.{Known}
use Rattle.go_exprs_rules.specs.declared.fault.TypeFault.{TypeFault}
use Rattle.go_exprs_engine.specs.declared.survey_nodes.Survey.{Survey}
use Rattle.go_exprs_engine.specs.Literals.{AllRead}

-- the literals of a part that there may be read
abbrev pub PartRead : (ℕ → List ℕ) → Option Tree → Type 0
PartRead texts None = Unit {0}
PartRead texts (Some t) = AllRead texts t

-- the least fault of a part that there may be
abbrev pub fault_in : Option Survey → Option TypeFault
fault_in None = None
fault_in (Some w) = w.fault

abbrev pub KnownPart : ℕ → Option Survey → Type 0
KnownPart n None = Unit {0}
KnownPart n (Some w) = Known n w.node
