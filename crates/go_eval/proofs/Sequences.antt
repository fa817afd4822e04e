-- What is run one after the other.
use Rattle.std.proofs.Common.{◌≡◌, ◌<◌, ◌≤◌, ◌+◌, ℕ, List, [], ◌∷◌, drop, length, refl, sym, ap, ◌∙◌, subst, arith, Result, Ok, Err}
use Rattle.std.specs.Prelude.{Bool, true, false, ◌&&◌, get_or}
use Rattle.std.proofs.lemmas.List.{drop_more}
use Rattle.std.specs.List.{list_all}
use Rattle.go_typed.specs.declared.node.TypedNode.{TypedNode}
use Rattle.go_typed.specs.Packages.{PackageView, Counts, is_below, is_known_tree, refers_to}
use Rattle.go_typed.specs.Trees.{every, every_form}
use Rattle.go_typed.specs.Views.{view, seen}
use Rattle.go_meaning.specs.Values as meant
use Rattle.go_meaning.specs.Computations.{Comp, Outcome, World, go_on, end_by, then_do, in_order}
use Rattle.go_meaning.specs.Meaning.{bounded}
use Rattle.go_eval_plans.specs.declared.exit.Exit.{Exit}
use Rattle.go_eval_plans.specs.declared.exit.Exit.TheVariants as exit
use Rattle.go_eval_plans.specs.declared.machine.Machine.{Machine}
use Rattle.go_eval_plans.specs.Machines.{outcome, IsLeft}
use Rattle.go_eval_plans.specs.Programs.{program_of}
use Rattle.go_eval.proofs.Calling.{known_tree}
use Rattle.go_eval.specs.Ends.{IsRun, RanOn, IsRan}
use Rattle.go_eval.specs.Runs.{depth, tree_run, in_turn, trees_run, AreKnown}

-- what isn't next stays so behind it
left_on : (e : Exit) (m : Machine) (o : Outcome) (k : List meant.Value → List meant.Value → World → ℕ → Outcome) → IsLeft e m o → IsLeft e m (go_on o k)
left_on (exit.Return vs) m o k h = ap (λ (q : Outcome). go_on q k) h
left_on exit.Break m o k h = ap (λ (q : Outcome). go_on q k) h
left_on exit.Continue m o k h = ap (λ (q : Outcome). go_on q k) h
left_on exit.Fallthrough m o k h = ap (λ (q : Outcome). go_on q k) h
left_on (exit.Panic p) m o k h = ap (λ (q : Outcome). go_on q k) h
left_on exit.Undecided m o k h = ap (λ (q : Outcome). go_on q k) h
left_on exit.Memory m o k h = tt

-- A computation and the one behind it, where that doesn't depend on what the first one gives
module _ (c1 c2 : ℕ → Comp) (old m : Machine) where
  pub then_left : (e : Exit) → IsRan {X = Unit {0}} (λ n k. outcome (c1 n) depth k) old (Err e) m → IsRan {X = Unit {0}} (λ n k. outcome (then_do (c1 n) (λ no. c2 n)) depth k) old (Err e) m
  unfolding then_do
  then_left (exit.Return vs) h = record { turns = h.turns; is = λ n lt. left_on (exit.Return vs) m (outcome (c1 n) depth old) (λ vs1 f w t. c2 n depth f w t) (h.is n lt) }
  then_left exit.Break h = record { turns = h.turns; is = λ n lt. left_on exit.Break m (outcome (c1 n) depth old) (λ vs1 f w t. c2 n depth f w t) (h.is n lt) }
  then_left exit.Continue h = record { turns = h.turns; is = λ n lt. left_on exit.Continue m (outcome (c1 n) depth old) (λ vs1 f w t. c2 n depth f w t) (h.is n lt) }
  then_left exit.Fallthrough h = record { turns = h.turns; is = λ n lt. left_on exit.Fallthrough m (outcome (c1 n) depth old) (λ vs1 f w t. c2 n depth f w t) (h.is n lt) }
  then_left (exit.Panic p) h = record { turns = h.turns; is = λ n lt. left_on (exit.Panic p) m (outcome (c1 n) depth old) (λ vs1 f w t. c2 n depth f w t) (h.is n lt) }
  then_left exit.Undecided h = record { turns = h.turns; is = λ n lt. left_on exit.Undecided m (outcome (c1 n) depth old) (λ vs1 f w t. c2 n depth f w t) (h.is n lt) }
  then_left exit.Memory h = tt

  -- it is what is left to do
  pub then_next : (u : Unit {0}) → IsRan (λ n k. outcome (c1 n) depth k) old (Ok u) m → (n : ℕ) → old.turns < n → outcome (then_do (c1 n) (λ no. c2 n)) depth old ≡ outcome (c2 n) depth m
  unfolding then_do
  then_next u h n lt = ap (λ (q : Outcome). go_on q (λ vs f w t. c2 n depth f w t)) (h.is n lt).1

-- what is run from an earlier state on
module _ (c c1 : ℕ → Machine → Outcome) (old m new : Machine) (le : m.turns ≤ old.turns) (e : (n : ℕ) → old.turns < n → c n old ≡ c1 n m) where
  earlier_on : (r : Result (Unit {0}) Exit) → RanOn c1 m r new → RanOn c old r new
  earlier_on r h = record { turns = omega (arith, h.turns, le); is = λ n lt. subst (IsRun r new) (sym (e n lt)) (h.is n (omega (arith, lt, le))) }

  pub earlier : (r : Result (Unit {0}) Exit) → IsRan c1 m r new → IsRan c old r new
  earlier (Ok x) h = earlier_on (Ok x) h
  earlier (Err (exit.Return vs)) h = earlier_on (Err (exit.Return vs)) h
  earlier (Err exit.Break) h = earlier_on (Err exit.Break) h
  earlier (Err exit.Continue) h = earlier_on (Err exit.Continue) h
  earlier (Err exit.Fallthrough) h = earlier_on (Err exit.Fallthrough) h
  earlier (Err (exit.Panic k)) h = earlier_on (Err (exit.Panic k)) h
  earlier (Err exit.Undecided) h = earlier_on (Err exit.Undecided) h
  earlier (Err exit.Memory) h = tt

-- the same computation
pub same_ran : (c c1 : ℕ → Machine → Outcome) (old new : Machine) → ((n : ℕ) → c n old ≡ c1 n old) → (r : Result (Unit {0}) Exit) → IsRan c1 old r new → IsRan c old r new
same_ran c c1 old new e r h = earlier c c1 old old new (omega arith) (λ n lt. e n) r h

-- ---- trees

pub at_front : (xs : List TypedNode) (i : ℕ) (x : TypedNode) → i < length xs → x ≡ get_or xs i x → drop i xs ≡ x ∷ drop (i + 1) xs
at_front xs i x lt e = drop_more xs i x lt ∙ ap (λ (y : TypedNode). y ∷ drop (i + 1) xs) (sym e)

-- What is left to do is these trees, in another state.
pub record Left (p : PackageView) (all : List TypedNode) (old : Machine) (xs : List TypedNode) (m : Machine) : Type 0 where
  pub turns : m.turns ≤ old.turns
  pub is : (n : ℕ) → old.turns < n → trees_run p all n old ≡ trees_run p xs n m

pub all_left : (p : PackageView) (all : List TypedNode) (m : Machine) → Left p all m all m
all_left p all m = record { turns = omega arith; is = λ n lt. refl }

module _ (p : PackageView) (all : List TypedNode) (old : Machine) (xs ys : List TypedNode) (x : TypedNode) (e : ys ≡ x ∷ xs) (m m1 : Machine) (h : Left p all old ys m) where
  step : (n : ℕ) → old.turns < n → trees_run p all n old ≡ outcome (then_do (bounded (program_of p 0) n (seen p.types x)) (λ no. in_turn p n xs)) depth m
  unfolding in_order
  step n lt = h.is n lt ∙ ap (λ (zs : List TypedNode). trees_run p zs n m) e

  -- one of them is run
  pub one_less : (u : Unit {0}) → IsRan (tree_run p x) m (Ok u) m1 → Left p all old xs m1
  one_less u g = record {
    turns = omega (arith, g.turns, h.turns);
    is = λ n lt. step n lt ∙ then_next (λ k. bounded (program_of p 0) k (seen p.types x)) (λ k. in_turn p k xs) m m1 u g n (omega (arith, lt, h.turns));
  }

  -- and nothing comes behind it
  pub one_left : (q : Exit) → IsRan {X = Unit {0}} (tree_run p x) m (Err q) m1 → IsRan {X = Unit {0}} (trees_run p all) old (Err q) m1
  one_left q g = earlier (trees_run p all) (λ n k. outcome (then_do (bounded (program_of p 0) n (seen p.types x)) (λ no. in_turn p n xs)) depth k) old m m1 h.turns step (Err q)
      (then_left (λ k. bounded (program_of p 0) k (seen p.types x)) (λ k. in_turn p k xs) m m1 q g)

-- nothing is left
pub none_left : (p : PackageView) (all : List TypedNode) (old : Machine) (xs : List TypedNode) (m : Machine) → xs ≡ [] → Left p all old xs m → IsRan {X = Unit {0}} (trees_run p all) old (Ok tt) m
unfolding in_order end_by
none_left p all old xs m e h = record { turns = h.turns; is = λ n lt. ([], h.is n lt ∙ ap (λ (zs : List TypedNode). trees_run p zs n m) e) }

-- ---- the types of a package's variables

and_first : (a b : Bool) → (a && b) ≡ true → a ≡ true
and_first true b e = refl
and_first false b e = absurd cc

and_second : (a b : Bool) → (a && b) ≡ true → b ≡ true
and_second true b e = e
and_second false b e = absurd cc

pub known_nodes : (c : Counts) (k : ℕ) (xs : List TypedNode) → list_all (λ n. is_known_tree c k (view n)) xs ≡ true → AreKnown k xs
known_nodes c k [] e = tt
known_nodes c k (x ∷ xs) e = (
  known_tree k (view x) (and_first (every (is_below k) (view x)) (every_form (refers_to c) (view x)) (and_first (is_known_tree c k (view x)) (list_all (λ n. is_known_tree c k (view n)) xs) e)),
  known_nodes c k xs (and_second (is_known_tree c k (view x)) (list_all (λ n. is_known_tree c k (view n)) xs) e),
)
