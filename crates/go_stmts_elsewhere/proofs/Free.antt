-- Nodes at which no rule fails.
use Rattle.std.proofs.Common.{◌≡◌, ◌⊎◌, inl, inr, List, [], ◌∷◌, ◌++◌, Option, Some, None, refl}
use Rattle.go_exprs_rules.specs.declared.fault.TypeFault.{TypeFault}
use Rattle.go_exprs_rules.specs.Faults.{earlier, least, reported}
use Rattle.go_stmts_defs.specs.Reading.{Found}
use Rattle.go_exprs_elsewhere.specs.Elsewhere.{Moves}
use Rattle.go_stmts_elsewhere.specs.Frames.{faults_placed}
use Rattle.go_stmts_elsewhere.specs.Replaced.{AreFree}

pub free_both : (fs gs : Found) → AreFree fs → AreFree gs → AreFree (fs ++ gs)
free_both [] gs a b = b
free_both ([] ∷ fs) gs a b = free_both fs gs a b
free_both ((f ∷ hs) ∷ fs) gs a b = absurd a

pub free_front : (fs gs : Found) → AreFree (fs ++ gs) → AreFree fs
free_front [] gs a = tt
free_front ([] ∷ fs) gs a = free_front fs gs a
free_front ((f ∷ hs) ∷ fs) gs a = absurd a

pub free_rest : (fs gs : Found) → AreFree (fs ++ gs) → AreFree gs
free_rest [] gs a = a
free_rest ([] ∷ fs) gs a = free_rest fs gs a
free_rest ((f ∷ hs) ∷ fs) gs a = absurd a

pub free_or_not : (fs : Found) → AreFree fs ⊎ (AreFree fs → ⊥)
free_or_not [] = inl tt
free_or_not ([] ∷ fs) = free_or_not fs
free_or_not ((f ∷ hs) ∷ fs) = inr (λ a. a)

pub nothing_found : (own : List TypeFault) → AreFree (own ∷ []) → own ≡ []
nothing_found [] a = refl
nothing_found (f ∷ fs) a = absurd a

pub found_nothing : (own : List TypeFault) → own ≡ [] → AreFree (own ∷ [])
found_nothing [] e = tt
found_nothing (f ∷ fs) e = cc

pub free_placed : (m : Moves) (fs : Found) → AreFree fs → AreFree (faults_placed m fs)
free_placed m [] a = tt
free_placed m ([] ∷ fs) a = free_placed m fs a
free_placed m ((f ∷ hs) ∷ fs) a = absurd a

-- ---- what is reported

least_there : (f : TypeFault) (o : Option TypeFault) → earlier (Some f) o ≡ None → ⊥
least_there f None e = cc
least_there f (Some g) e = cc

pub free_if_none : (fs : Found) → reported fs ≡ None → AreFree fs
free_if_none [] e = tt
free_if_none ([] ∷ fs) e = free_if_none fs e
free_if_none ((f ∷ gs) ∷ fs) e = absurd (least_there f (least gs) e)

pub none_if_free : (fs : Found) → AreFree fs → reported fs ≡ None
none_if_free [] a = refl
none_if_free ([] ∷ fs) a = none_if_free fs a
none_if_free ((f ∷ gs) ∷ fs) a = absurd a
