-- The example of a loop around a window: its premises are met.
use Rattle.std.proofs.Common.{◌≡◌, ℕ, zero, suc, inl, inr, List, [], ◌∷◌, refl, sym, subst, arith, Some}
use Rattle.std.specs.Prelude.{pos, Bool, true, false, slice_get}
use Rattle.go_ints.specs.declared.kinds.Kind.TheVariants as kind
use Rattle.go_ints.specs.declared.operators.Op.TheVariants as op
use Rattle.go_types.specs.Trees.{TypeTree}
use Rattle.go_typed.specs.Trees.{Typeds}
use Rattle.go_typed.specs.Trees as trees
use Rattle.go_meaning.specs.Values.{Value, Whole}
use Rattle.go_meaning.specs.Operations.{Compute, Print, Drop}
use Rattle.go_meaning.specs.Plans.{Give, Local, Perform, Skip, AssignTo}
use Rattle.go_meaning.specs.Builders.{int, num, local, define, returns, forever, row_of, code}
use Rattle.go_meaning_simulation.specs.Links.{Links, nowhere}
use Rattle.go_meaning_simulation.specs.Kin as kin
use Rattle.go_meaning_simulation.specs.Kin.{Chain, Statement}
use Rattle.go_meaning_simulation.specs.Locals as locals
use Rattle.go_meaning_simulation.specs.Locals.{Linked, Inside, InPairs, window_links}
use Rattle.go_meaning_simulation.specs.Mates.{MatesOrNone, missing, found}
use Rattle.go_meaning_numbers.specs.Laws.{Moves}
use Rattle.extract_call.specs.Calls as calls
use Rattle.extract_call.specs.Calls.{Passed, Given}
use Rattle.extract_call.specs.Members as members
use Rattle.extract_call.specs.Members.{Comes}
use Rattle.extract_call.specs.Extraction as extraction
use Rattle.extract_call.specs.Extraction.{Extraction, Extracts}
use Rattle.extract_call.specs.Examples.{a, one, two, steps, stepped, step, looped, looped_calls, last}
use Rattle.extract_call.proofs.Linking.{first, first_is, first_linked}

abbrev V : List Value → List Value → Type 0
V = Moves last

abbrev J : Linked
J = first_linked 1 1 (omega arith) (omega arith)

abbrev in_step : Linked
in_step = first_linked 1 2 (omega arith) (omega arith)

abbrev is_first : ℕ → Bool
is_first zero = true
is_first (suc i) = false

-- the second parameter of `step` holds z
abbrev inside : ℕ → Inside
inside z = record { locals = in_step; may = is_first; held = (Whole (pos z), 1) ∷ []; apart = apart }
  where
    apart : (v : Value) (p i : ℕ) → InPairs v p ((Whole (pos z), 1) ∷ []) → first i p ≡ true → ⊥
    apart v p i (inl e) x = let g = first_is i p x in omega (arith, e.1, g.1)
    apart v p i (inr e) x = e

steps_kin : (z : ℕ) → Chain (window_links V (inside z)) looped.rights looped_calls.rights nowhere (0 ∷ []) (0 ∷ []) 0 (row_of (steps (num (pos z)))) (row_of (steps (local int 1)))
steps_kin z =
    kin.next {s1 = 0 ∷ []} 0 0 (omega arith)
    (kin.does (λ i k. k) (kin.inner (AssignTo 1) refl refl refl (kin.more (kin.leaf (Local 0) (Local 0) refl refl (kin.changes (inl refl, refl) (refl, refl)))
    (kin.more (kin.inner (Perform (Compute kind.Int op.Add)) refl refl refl (kin.more (kin.leaf (Local 0) (Local 0) refl refl (kin.reads (inl refl, refl))) (kin.more (kin.leaf (Give (Whole (pos z))) (Local 1) refl refl (kin.holds (inl (refl, refl)))) kin.none))) kin.none))))
    (kin.next 0 0 (omega arith)
    (kin.does (λ i k. k) (kin.inner (Perform Drop) refl refl refl (kin.more (kin.inner (Perform Print) refl refl refl (kin.more (kin.leaf Skip Skip refl refl kin.nothing) (kin.more (kin.leaf (Local 0) (Local 0) refl refl (kin.reads (inl refl, refl))) kin.none))) kin.none))) kin.ends)

comes : (z : ℕ) → Comes J (inside z) (0 ∷ []) (Some 0 ∷ []) (0 ∷ []) []
comes z zero zero l = inr (0, refl, inl refl, inl (refl, refl, λ h. h))
comes z zero (suc j) l = absurd cc
comes z (suc i) j l = absurd cc

hole_apart : (i : ℕ) → first i 1 ≡ true → ⊥
hole_apart zero e = absurd cc
hole_apart (suc i) e = absurd cc

abbrev M : Type 0
M = extraction.Member V looped looped_calls (λ g. J) 2 step (row_of (steps (local int 1))) (0 ∷ [])

-- in the function g, with the constant z
abbrev member_with : ℕ → ℕ → M
member_with g z = record {
  function = g;
  inside = inside z;
  old = row_of (steps (num (pos z)));
  gap = row_of (stepped (num (pos z)) ∷ []);
  args = Passed 0 ∷ Given (Whole (pos z)) ∷ [];
  targets = Some 0 ∷ [];
  fresh = [];
  before = 0 ∷ [];
  behind = 0 ∷ [];
  is_gap = calls.assigns refl (calls.into refl (calls.source (calls.calls refl refl (calls.passed refl (calls.given refl calls.no_arguments)))));
  window = steps_kin z;
  bound = members.passes refl (λ h. h) refl (members.holds refl (omega arith) hole_apart (λ h. h) members.none);
  size = refl;
  count = refl;
  comes = comes z;
}

abbrev members_of : ℕ → M
members_of zero = member_with 0 1
members_of (suc j) = member_with 1 2

abbrev x : Extraction V looped looped_calls 2
x = record {
  some = omega arith;
  h = 2;
  new = step;
  there = refl;
  has = refl;
  statements = row_of (steps (local int 1));
  given = 0 ∷ [];
  is_body = calls.body {back = row_of (returns (a ∷ []) ∷ [])} refl refl (calls.gives_back refl (calls.passed refl calls.no_arguments));
  bodies = λ g. J;
  member = members_of;
}

abbrev L : ℕ → Links
L g = extraction.function_links V looped looped_calls 2 x g

abbrev IsWindow : ℕ → Typeds TypeTree → Typeds TypeTree → Type 0
IsWindow g = extraction.IsWindow V looped looped_calls 2 x g

main_kin : Statement (L 0) looped.rights looped_calls.rights nowhere tt tt 0 (code [] 1 (define int 0 one ∷ forever (steps one) ∷ [])).body (code [] 1 (define int 0 one ∷ forever (stepped one ∷ []) ∷ [])).body
main_kin =
    kin.sequence refl refl (kin.next 0 0 (omega arith) (kin.sequence refl refl
    (kin.next 0 0 (omega arith) (kin.defines refl refl (kin.declared refl refl refl (kin.values (kin.more (kin.leaf (Give (Whole (pos 1))) (Give (Whole (pos 1))) refl refl (kin.gives refl)) kin.none))))
    (kin.next 0 0 (omega arith) (kin.loops {mb = 1} kin.no_first kin.absent kin.no_first (kin.sequence refl refl
    (kin.window {ws = row_of (steps one)} {ws' = row_of (stepped one ∷ [])} {ts = trees.none} {ts' = trees.none} 0 (omega arith) (record { which = 0; function_is = refl; old_is = refl; gap_is = refl }) kin.ends) tt) (omega arith) tt) kin.ends)) tt) kin.ends) tt

g_kin : Statement (L 1) looped.rights looped_calls.rights nowhere tt tt 1 (code (Some 0 ∷ []) 1 (steps two)).body (code (Some 0 ∷ []) 1 (stepped two ∷ [])).body
g_kin =
    kin.sequence refl refl (kin.next 1 0 (omega arith) (kin.sequence refl refl
    (kin.window {ws = row_of (steps two)} {ws' = row_of (stepped two ∷ [])} {ts = trees.none} {ts' = trees.none} 0 (omega arith) (record { which = 1; function_is = refl; old_is = refl; gap_is = refl }) kin.ends) tt) kin.ends) tt

matched : (g : ℕ) → MatesOrNone V looped looped_calls J (IsWindow g) 2 (slice_get looped.functions g) (slice_get looped_calls.functions (last g))
matched zero = found (record { locals = refl; new_locals = refl; parameters = locals.nothing; bodies = refl; cost = 0; cheap = omega arith; tree = main_kin })
matched (suc zero) = found (record { locals = refl; new_locals = refl; parameters = locals.named refl locals.nothing; bodies = refl; cost = 1; cheap = omega arith; tree = g_kin })
matched (suc (suc g)) = missing

pub looped_extracts : Extracts last 2 looped looped_calls
looped_extracts = record {
  windows = x;
  fits = record {
    functions = λ g g' e. subst (λ n. MatesOrNone V looped looped_calls J (IsWindow g) 2 (slice_get looped.functions g) (slice_get looped_calls.functions n)) (sym e) (matched g);
    mains = refl;
    variables = kin.all_done;
  };
  count = refl;
}
