-- Faults placed by tokens, their order, and which of them is reported.
use Rattle.std.specs.Prelude.{ℕ, Bool, nat_lt, nat_eq, List, [], ◌∷◌, ◌++◌, Option, Some, None, Result, Ok, Err, if◌then◌else◌}
use Rattle.go_base.specs.declared.fault.FaultCode.{FaultCode}
use Rattle.go_base.specs.Fault.{code_number}
use Rattle.go_exprs_rules.specs.declared.fault.TypeFault.{TypeFault}
use Rattle.go_exprs_rules.specs.declared.fault.TypeError.{TypeError}
use Rattle.go_exprs_rules.specs.declared.fault.TypeError.TheVariants as errors

-- the lesser place, by first token and last, then the lesser code
abbrev pub before : TypeFault → TypeFault → Bool
before f g = if nat_eq f.first g.first then (if nat_eq f.last g.last then nat_lt (code_number f.code) (code_number g.code) else nat_lt f.last g.last) else nat_lt f.first g.first

unfoldable pub sooner : TypeFault → TypeFault → TypeFault
sooner f g = if before g f then g else f

abbrev pub earlier : Option TypeFault → Option TypeFault → Option TypeFault
earlier None o = o
earlier (Some f) None = Some f
earlier (Some f) (Some g) = Some (sooner f g)

-- the first of the faults of a node, by place and then by code
abbrev pub least : List TypeFault → Option TypeFault
least [] = None
least (f ∷ fs) = earlier (Some f) (least fs)

-- x, where no rule fails, and else the fault
abbrev pub judged : {A : Type 0} → Option TypeFault → A → Result A TypeFault
judged None x = Ok x
judged (Some f) x = Err f

-- These faults, or else those: the second rule has no meaning where the first fails. Where both rules are judged, the lists
-- stand one behind the other.
abbrev pub or_else : List TypeFault → List TypeFault → List TypeFault
or_else [] gs = gs
or_else (f ∷ fs) gs = f ∷ fs

-- a rule that fails at the tokens from i up to j
abbrev pub fault_at : FaultCode → ℕ → ℕ → List TypeFault
fault_at c i j = record { code = c; first = i; last = j } ∷ []

-- the reported fault: of the nodes, each with its rules that fail, the first that has one, and of its faults the least
abbrev pub reported : List (List TypeFault) → Option TypeFault
reported [] = None
reported ([] ∷ nodes) = reported nodes
reported ((f ∷ fs) ∷ nodes) = least (f ∷ fs)

-- the rules that fail at the nodes, in one list
abbrev pub joined : List (List TypeFault) → List TypeFault
joined [] = []
joined (fs ∷ nodes) = fs ++ joined nodes

-- the fault that an error names, or `None` where memory ran out
abbrev pub refusal_of : TypeError → Option TypeFault
refusal_of (errors.Fault f) = Some f
refusal_of errors.Memory = None
