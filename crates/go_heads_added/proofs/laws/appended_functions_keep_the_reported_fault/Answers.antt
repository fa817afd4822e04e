use Rattle.std.proofs.Common.{ℕ, ◌≤◌, arith}
use Rattle.go_heads_added.specs.Appended.{empty_function}
use Rattle.go_heads_added.proofs.SameFault.{keeps_reported}
use Rattle.go_heads_added.proofs.laws.appended_functions_keep_the_reported_fault.Goals as goal

same : (n : ℕ) → n ≤ n
same n = omega arith

pub returns : goal.returns
returns c k j end x y u v a b ts us ps s before behind place first later file front bytes h l blank q may =
    keeps_reported (λ ks t f. c.locals_stand_in_functions.ensures ks t f) (λ ks t f. c.files_are_orderly.ensures ks t f) k j end x y u v a b ts us ps s before behind place first later file front bytes h l blank
    (c.longer_files_import_the_same.ensures ts us 0 j j end a b ps (empty_function x y s u v) file (same j) h front) q may
