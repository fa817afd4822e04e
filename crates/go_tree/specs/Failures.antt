-- Faults of a package, and which of them is reported.
--
-- A rule is a list of places: those where it fails.
use Rattle.std.specs.Prelude.{ℕ, suc, Bool, true, false, if◌then◌else◌, nat_eq, nat_lt, List, [], ◌∷◌, ◌++◌, Option, Some, None}
use Rattle.go_base.specs.declared.fault.FaultCode.{FaultCode}
use Rattle.go_base.specs.Fault.{code_number}
use Rattle.go_tokens.specs.Tokens.{TokenList}
use Rattle.go_tree.specs.declared.event.Event.{Event}
use Rattle.go_tree.specs.Units.{Unit, Place}

-- which rule fails, and where
pub record Failure : Type 0 where
  pub code : FaultCode
  pub place : Place

abbrev pub fault : FaultCode → Place → Failure
fault c s = record { code = c; place = s }

-- the faults of a rule
abbrev pub failing : FaultCode → List Place → List Failure
failing c [] = []
failing c (s ∷ ss) = fault c s ∷ failing c ss

-- a place where the test holds, in front of others
abbrev pub place_if : Bool → Place → List Place → List Place
place_if true s ss = s ∷ ss
place_if false s ss = ss

-- a rule on the events of a file by themselves, at the files that are numbered from n on
abbrev pub of_files : (ℕ → TokenList → List Event → List Place) → ℕ → List Unit → List Place
of_files rule n [] = []
of_files rule n (u ∷ us) = rule n u.tokens u.events ++ of_files rule (suc n) us

-- Which of two faults is reported: by file, start and end, and then by code.
abbrev pub first_different : ℕ → ℕ → Bool → Bool
first_different x y b = if nat_eq x y then b else nat_lt x y

abbrev pub is_earlier : Failure → Failure → Bool
is_earlier f g = first_different f.place.file g.place.file (first_different f.place.start g.place.start (first_different f.place.end g.place.end (nat_lt (code_number f.code) (code_number g.code))))

abbrev pub earlier : Option Failure → Failure → Option Failure
earlier None g = Some g
earlier (Some f) g = if is_earlier g f then Some g else Some f

abbrev pub least_from : Option Failure → List Failure → Option Failure
least_from f [] = f
least_from f (g ∷ gs) = least_from (earlier f g) gs

abbrev pub least : List Failure → Option Failure
least fs = least_from None fs

abbrev pub or_else : Option Failure → Option Failure → Option Failure
or_else None g = g
or_else (Some f) g = Some f
