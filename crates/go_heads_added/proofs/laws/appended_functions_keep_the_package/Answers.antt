use Rattle.std.proofs.Common.{ℕ, ◌≤◌, arith}
use Rattle.go_heads_added.specs.Appended.{empty_function}
use Rattle.go_heads_added.proofs.Derived.{keeps_package}
use Rattle.go_heads_added.proofs.laws.appended_functions_keep_the_package.Goals as goal

same : (n : ℕ) → n ≤ n
same n = omega arith

pub returns : goal.returns
returns c k j end x y u v a b ts us ps s before behind place first later file names front h l blank q =
    keeps_package (λ ks t f. c.locals_stand_in_functions.ensures ks t f) k j end x y u v a b ts us ps s before behind place first later file names front h l blank
    (c.longer_files_import_the_same.ensures ts us 0 j j end a b ps (empty_function x y s u v) file (same j) h front) q
