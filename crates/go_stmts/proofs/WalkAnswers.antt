-- Answers of the walk, by whether something was made.
use Rattle.std.proofs.Common.{◌≡◌, List, Some, Result, Ok, Err, refl, sym, subst}
use Rattle.std.specs.Prelude.{ℕ, OnOk}
use Rattle.go_base.specs.Gives.{Gives}
use Rattle.go_grammar.specs.Trees.{Tree}
use Rattle.go_types.specs.Tables.{Table}
use Rattle.go_typed.specs.declared.node.TypedNode.{TypedNode}
use Rattle.go_typed.specs.declared.sort.Sort as program
use Rattle.go_typed.specs.Views.{seen}
use Rattle.go_exprs_rules.specs.declared.fault.TypeFault.{TypeFault}
use Rattle.go_exprs_rules.specs.declared.fault.TypeError.{TypeError}
use Rattle.go_exprs_rules.specs.declared.fault.TypeError.TheVariants as errors
use Rattle.go_exprs_rules.specs.Faults.{reported, refusal_of}
use Rattle.go_exprs_rules.specs.Scopes.{Hint}
use Rattle.go_exprs_engine.proofs.Public.{judged_ok, judged_err}
use Rattle.go_stmts_defs.specs.Frames.{Frame}
use Rattle.go_stmts_defs.specs.Reading.{Reading, read, Readings, holding, held_faults, reading}
use Rattle.go_stmts.specs.Held.{held_answer}
use Rattle.go_stmts.specs.declared.state.Surroundings.{Surroundings}
use Rattle.go_stmts.specs.declared.state.State.{State}
use Rattle.go_stmts.specs.State.{Shows}
use Rattle.go_stmts.specs.declared.row.Row.{Row}
use Rattle.go_stmts.specs.Walks.{found_in, found_in_all, IsReading, AreReadings}

pub always : {A E P : Type 0} (r : Result A E) → P → OnOk r P
always (Ok x) p = p
always (Err e) p = tt

module _ (t : Table) (o : Surroundings) (k : State) (x : program.Sort) (rs : List ℕ) where
  held_by : (s : Frame) (h : Hint) (n : Tree) (r : Result TypedNode TypeError) → Shows t o k x rs s → Gives (seen t) refusal_of r (held_answer s h n) → IsReading t o k x rs r (read (holding s h n) (held_faults s h n) s)
  held_by s h n (Ok y) has g = let split = judged_ok (reported (held_faults s h n)) (holding s h n) (seen t y) g in record { sound = split.0; tree = sym split.1; behind = has }
  held_by s h n (Err errors.Memory) has g = tt
  held_by s h n (Err (errors.Fault f)) has g = judged_err (reported (held_faults s h n)) (holding s h n) f g

  -- a part without statements
  pub held_is : (s : Frame) (h : Hint) (n : Tree) (r : Result TypedNode TypeError) → Shows t o k x rs s → Gives (seen t) refusal_of r (held_answer s h n) → reading s h n ≡ read (holding s h n) (held_faults s h n) s → IsReading t o k x rs r (reading s h n)
  held_is s h n r has g e = subst (IsReading t o k x rs r) (sym e) (held_by s h n r has g)

  -- the fault of a node is that of its parts
  parts_err : (k2 : State) (rs2 : List ℕ) (e : TypeError) (all : Readings) (y : Reading) → ((f : TypeFault) → reported (found_in_all all) ≡ Some f → reported (found_in y) ≡ Some f) → AreReadings t o k2 rs2 (Err e) all → IsReading t o k x rs (Err e) y
  parts_err k2 rs2 errors.Memory all y h a = tt
  parts_err k2 rs2 (errors.Fault f) all y h a = h f a

  pub parts_failed : (k2 : State) (rs2 : List ℕ) (e : TypeError) (r : Result TypedNode TypeError) (all : Readings) (y : Reading) → ((f : TypeFault) → reported (found_in_all all) ≡ Some f → reported (found_in y) ≡ Some f) → AreReadings t o k2 rs2 (Err e) all → r ≡ Err e → IsReading t o k x rs r y
  parts_failed k2 rs2 e r all y h a re = subst (λ z. IsReading t o k x rs z y) (sym re) (parts_err k2 rs2 e all y h a)

module _ (t : Table) (o : Surroundings) (k : State) (rs : List ℕ) (due : Readings) where
  pub error_by : (e : TypeError) (r : Result Row TypeError) → ((f : TypeFault) → e ≡ errors.Fault f → reported (found_in_all due) ≡ Some f) → r ≡ Err e → AreReadings t o k rs r due
  error_by errors.Memory r h re = subst (λ z. AreReadings t o k rs z due) (sym re) tt
  error_by (errors.Fault f) r h re = subst (λ z. AreReadings t o k rs z due) (sym re) (h f refl)

pub fault_read : (t : Table) (o : Surroundings) (k : State) (x : program.Sort) (rs : List ℕ) (e : TypeError) (f : TypeFault) (y : Reading) → e ≡ errors.Fault f → IsReading t o k x rs (Err e) y → reported (found_in y) ≡ Some f
fault_read t o k x rs e f y is a = subst (λ z. IsReading t o k x rs (Err z) y) is a

pub fault_given : {X Y : Type 0} (see : X → Y) (e : TypeError) (f : TypeFault) (due : Result Y TypeFault) → e ≡ errors.Fault f → Gives see refusal_of (Err e) due → due ≡ Err f
fault_given see e f due is a = subst (λ z. Gives see refusal_of (Err z) due) is a
