-- Operands, where a variable stands in place of a constant: what they refuse.
use Rattle.std.proofs.Common.{◌≡◌, ◌∙◌, ℕ, Bool, true, false, List, [], ◌∷◌, ◌++◌, refl, ap}
use Rattle.std.specs.Prelude.{if◌then◌else◌}
use Rattle.go_base.specs.declared.fault.FaultCode.{FaultCode}
use Rattle.go_exprs_rules.specs.declared.fault.TypeFault.{TypeFault}
use Rattle.go_exprs_rules.specs.Faults.{fault_at, or_else}
pub use Rattle.go_exprs_variables.specs.Operands.{Operand}

-- ---- lists of faults

pub both_none : (fs gs : List TypeFault) → fs ++ gs ≡ [] → (fs ≡ []) × (gs ≡ [])
both_none [] gs e = (refl, e)
both_none (f ∷ fs) gs e = cc

pub none_of_both : (fs gs : List TypeFault) → fs ≡ [] → gs ≡ [] → fs ++ gs ≡ []
none_of_both fs gs e f = ap (λ hs. hs ++ gs) e ∙ f

pub neither : (fs gs : List TypeFault) → or_else fs gs ≡ [] → (fs ≡ []) × (gs ≡ [])
neither [] gs e = (refl, e)
neither (f ∷ fs) gs e = cc

pub of_neither : (fs gs : List TypeFault) → fs ≡ [] → gs ≡ [] → or_else fs gs ≡ []
of_neither fs gs e f = ap (λ hs. or_else hs gs) e ∙ f

-- a rule that holds unless a place fails
pub holds : (b : Bool) (fs : List TypeFault) (c : FaultCode) (i j : ℕ) → (if b then fs else fault_at c i j) ≡ [] → (b ≡ true) × (fs ≡ [])
holds true fs c i j e = (refl, e)
holds false fs c i j e = cc

pub held : (b : Bool) (fs : List TypeFault) (c : FaultCode) (i j : ℕ) → b ≡ true → fs ≡ [] → (if b then fs else fault_at c i j) ≡ []
held b fs c i j e f = ap (λ z. if z then fs else fault_at c i j) e ∙ f
