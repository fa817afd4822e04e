-- Rows of answers, one for each hole or each name, joined member by member.
use Rattle.std.specs.Prelude.{ℕ, suc, Bool, false, ◌||◌, if◌then◌else◌, List, [], ◌∷◌, ◌++◌, map, Option, slice_get, unwrap_or}
use Rattle.go_constants.specs.declared.values.Const.{Const}
use Rattle.go_typed.specs.Trees.{Sort, Typeds}
use Rattle.param_choose.specs.Members.{Member, occurs_later, local_in}
use Rattle.param_choose.specs.Locals.{Variable, variable_at}
use Rattle.param_choose.specs.Holes.{Hole, differs_from, holes}
use Rattle.param_choose.specs.Choosing.{HoleParameter, parameter_of}

-- which of some values differ from those of holes, where the first one stands against the hole of the number n
abbrev pub differ_each : {T : Type 0} → List (Option Const) → ℕ → List (Hole T) → List Bool
differ_each [] n hs = []
differ_each (v ∷ vs) n hs = differs_from v (slice_get hs n) ∷ differ_each vs (suc n) hs

-- the one or the other, place by place, as long as the first
abbrev pub either_each : List Bool → List Bool → List Bool
either_each [] bs = []
either_each (l ∷ ls) [] = l ∷ either_each ls []
either_each (l ∷ ls) (b ∷ bs) = (l || b) ∷ either_each ls bs

-- the mark of some place, if it is there
abbrev pub mark_at : List Bool → ℕ → Bool
mark_at bs n = unwrap_or (slice_get bs n) false

-- the same, where the first one stands against the place n of the others
abbrev pub either_from : List Bool → ℕ → List Bool → List Bool
either_from [] n bs = []
either_from (l ∷ ls) n bs = (l || mark_at bs n) ∷ either_from ls (suc n) bs

-- which were marked, or differ in some member
abbrev pub differing : {T : Type 0} → List (Option Const) → List Bool → List (Member T) → List Bool
differing vs marks [] = marks
differing vs marks (m ∷ ms) = differing vs (either_each marks (differ_each vs 0 (holes m))) ms

-- which of some locals of statements have one that occurs later in a member
abbrev pub later_each : {T : Type 0} → Typeds T → List ℕ → Member T → List Bool
later_each ps ns m = map (λ n. occurs_later m (local_in ps m n)) ns

-- which were marked, or have one that occurs later in some member
abbrev pub needed : {T : Type 0} → Typeds T → List ℕ → List Bool → List (Member T) → List Bool
needed ps ns marks [] = marks
needed ps ns marks (m ∷ ms) = needed ps ns (either_each marks (later_each ps ns m)) ms

-- ---- by marks

-- The holes that are marked or pass a test, as parameters; the first of them has the number n, and the window's first node a number.
abbrev pub parameters_by : {T : Type 0} → (Hole T → Bool) → ℕ → List Bool → ℕ → List (Hole T) → List (HoleParameter T)
parameters_by outer start bs n [] = []
parameters_by outer start bs n (h ∷ hs) = (if mark_at bs n || outer h then parameter_of start n h else []) ++ parameters_by outer start bs (suc n) hs

-- the variables among the locals that are marked, the first of which has the place n
abbrev pub variables_by : {T : Type 0} → List (Sort T) → List Bool → ℕ → List ℕ → List (Variable T)
variables_by sorts bs n [] = []
variables_by sorts bs n (k ∷ ks) = (if mark_at bs n then variable_at sorts k else []) ++ variables_by sorts bs (suc n) ks
