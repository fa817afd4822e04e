-- The example of a declared result that one member needs: its premises are met.
use Rattle.std.proofs.Common.{◌≡◌, ℕ, zero, suc, inl, inr, List, [], ◌∷◌, refl, sym, subst, arith, Some, None}
use Rattle.std.specs.Prelude.{pos, Bool, true, false, slice_get}
use Rattle.go_ints.specs.declared.kinds.Kind.TheVariants as kind
use Rattle.go_ints.specs.declared.operators.Op.TheVariants as op
use Rattle.go_grammar.specs.declared.kind.Arithmetic.TheVariants.{Add}
use Rattle.go_types.specs.Trees.{TypeTree}
use Rattle.go_typed.specs.Trees.{Typeds}
use Rattle.go_typed.specs.Trees as trees
use Rattle.go_types_relations.specs.Zeros.{number_zero}
use Rattle.go_meaning.specs.Values.{Value, Whole, Function}
use Rattle.go_meaning.specs.Operations.{Compute, Print, Drop}
use Rattle.go_meaning.specs.Plans.{Give, Local, Perform, Skip, AssignTo, Apply}
use Rattle.go_meaning.specs.Builders.{Tree, int, num, local, blank, call_of, does, println, sum, define, variable_of, assign, returns, forever, row_of, code}
use Rattle.go_meaning_simulation.specs.Links.{Links, nowhere}
use Rattle.go_meaning_simulation.specs.Kin as kin
use Rattle.go_meaning_simulation.specs.Kin.{Chain, Statement}
use Rattle.go_meaning_simulation.specs.Locals as locals
use Rattle.go_meaning_simulation.specs.Locals.{Linked, Inside, InPairs, window_links}
use Rattle.go_meaning_simulation.specs.Mates.{MatesOrNone, missing, found}
use Rattle.go_meaning_numbers.specs.Laws.{Moves}
use Rattle.extract_call.specs.Calls as calls
use Rattle.extract_call.specs.Calls.{Passed, Given}
use Rattle.extract_call.specs.Members as members
use Rattle.extract_call.specs.Members.{Comes}
use Rattle.extract_call.specs.Extraction as extraction
use Rattle.extract_call.specs.Extraction.{Extraction, Extracts}
use Rattle.extract_call.specs.Examples.{a, b, one, two, shows_next, next_of, next, declaring, declaring_calls, between}
use Rattle.extract_call.proofs.Linking.{first_linked, both, in_next, next_linked, next_are}

abbrev V : List Value → List Value → Type 0
V = Moves between

-- main has both locals still, the other function only its parameter
abbrev bodies : ℕ → Linked
bodies zero = both
bodies (suc g) = first_linked 2 1 (omega arith) (omega arith)

abbrev is_second : ℕ → Bool
is_second zero = false
is_second (suc zero) = true
is_second (suc (suc i)) = false

hole_apart : (i : ℕ) → next_linked i 1 ≡ true → ⊥
hole_apart i x = let e = next_are i 1 x in omega (arith, e.0)

apart : (z : ℕ) (v : Value) (p i : ℕ) → InPairs v p ((Whole (pos z), 1) ∷ []) → next_linked i p ≡ true → ⊥
apart z v p i (inl e) x = let g = next_are i p x in omega (arith, e.1, g.0)
apart z v p i (inr e) x = e

-- the second parameter of `next` holds z
abbrev inside : ℕ → Inside
inside z = record { locals = in_next; may = is_second; held = (Whole (pos z), 1) ∷ []; apart = apart z }

next_kin : (z : ℕ) → Chain (window_links V (inside z)) declaring.rights declaring_calls.rights nowhere (0 ∷ []) (1 ∷ 0 ∷ []) 0 (row_of (shows_next 1 (num (pos z)))) (row_of (shows_next 2 (local int 1)))
next_kin z =
    kin.next {s1 = 1 ∷ 0 ∷ []} 0 0 (omega arith)
    (kin.defines refl refl (kin.declared refl refl (refl, refl, λ k h. h) (kin.values (kin.more (kin.inner (Perform (Compute kind.Int op.Add)) refl refl refl (kin.more (kin.leaf (Local 0) (Local 0) refl refl (kin.reads (inl refl, refl)))
    (kin.more (kin.leaf (Give (Whole (pos z))) (Local 1) refl refl (kin.holds (inl (refl, refl)))) kin.none))) kin.none))))
    (kin.next 0 0 (omega arith)
    (kin.does (λ i k. k) (kin.inner (Perform Drop) refl refl refl (kin.more (kin.inner (Perform Print) refl refl refl (kin.more (kin.leaf Skip Skip refl refl kin.nothing) (kin.more (kin.leaf (Local 1) (Local 2) refl refl (kin.reads (inl refl, refl))) kin.none))) kin.none))) kin.ends)

main_comes : Comes both (inside 1) (1 ∷ 0 ∷ []) (Some 1 ∷ []) (2 ∷ []) (record { local = 1; zero = number_zero } ∷ [])
main_comes zero zero l = inl (λ h. absurd cc, λ h. elim h [ inl e ↦ omega (arith, e) | inr e ↦ e ], λ h. elim h [ inl e ↦ omega (arith, e) | inr e ↦ e ])
main_comes zero (suc j) l = absurd cc
main_comes (suc zero) zero l = absurd cc
main_comes (suc zero) (suc zero) l = inr (2, refl, inl refl, inl (refl, refl, λ h. h))
main_comes (suc zero) (suc (suc j)) l = absurd cc
main_comes (suc (suc i)) j l = absurd cc

g_comes : Comes (bodies 1) (inside 2) (1 ∷ 0 ∷ []) (None ∷ []) (2 ∷ []) []
g_comes zero zero l = inl (λ h. absurd cc, λ h. h, λ h. h)
g_comes zero (suc j) l = absurd cc
g_comes (suc i) j l = absurd cc

abbrev M : Type 0
M = extraction.Member V declaring declaring_calls bodies 1 next (row_of (shows_next 2 (local int 1))) (2 ∷ [])

abbrev main_gap : List Tree
main_gap = variable_of int 1 ∷ assign b (next_of one) ∷ []

abbrev g_gap : List Tree
g_gap = assign blank (next_of two) ∷ []

abbrev members_of : ℕ → M
members_of zero = record {
  function = 0;
  inside = inside 1;
  old = row_of (shows_next 1 one);
  gap = row_of main_gap;
  args = Passed 0 ∷ Given (Whole (pos 1)) ∷ [];
  targets = Some 1 ∷ [];
  fresh = record { local = 1; zero = number_zero } ∷ [];
  before = 0 ∷ [];
  behind = 1 ∷ 0 ∷ [];
  is_gap = calls.declares refl refl refl (calls.assigns refl (calls.into refl (calls.source (calls.calls refl refl (calls.passed refl (calls.given refl calls.no_arguments))))));
  window = next_kin 1;
  bound = members.passes refl (λ h. elim h [ inl e ↦ omega (arith, e) | inr e ↦ e ]) refl (members.holds refl (omega arith) hole_apart (λ h. h) members.none);
  size = refl;
  count = refl;
  comes = main_comes;
}
members_of (suc j) = record {
  function = 1;
  inside = inside 2;
  old = row_of (shows_next 1 two);
  gap = row_of g_gap;
  args = Passed 0 ∷ Given (Whole (pos 2)) ∷ [];
  targets = None ∷ [];
  fresh = [];
  before = 0 ∷ [];
  behind = 1 ∷ 0 ∷ [];
  is_gap = calls.assigns refl (calls.dropped refl (calls.source (calls.calls refl refl (calls.passed refl (calls.given refl calls.no_arguments)))));
  window = next_kin 2;
  bound = members.passes refl (λ h. h) refl (members.holds refl (omega arith) hole_apart (λ h. h) members.none);
  size = refl;
  count = refl;
  comes = g_comes;
}

abbrev x : Extraction V declaring declaring_calls 2
x = record {
  some = omega arith;
  h = 1;
  new = next;
  there = refl;
  has = refl;
  statements = row_of (shows_next 2 (local int 1));
  given = 2 ∷ [];
  is_body = calls.body {back = row_of (returns (local int 2 ∷ []) ∷ [])} refl refl (calls.gives_back refl (calls.passed refl calls.no_arguments));
  bodies = bodies;
  member = members_of;
}

abbrev L : ℕ → Links
L g = extraction.function_links V declaring declaring_calls 2 x g

abbrev IsWindow : ℕ → Typeds TypeTree → Typeds TypeTree → Type 0
IsWindow g = extraction.IsWindow V declaring declaring_calls 2 x g

-- `g(a)`, where g has another number
call_kin : Statement (L 0) declaring.rights declaring_calls.rights (record { breaks = Some tt; continues = Some tt; falls = None }) tt tt 0 (does (call_of 1 (a ∷ []))) (does (call_of 2 (a ∷ [])))
call_kin = kin.does tt (kin.inner (Perform Drop) refl refl refl (kin.more (kin.inner Apply refl refl refl (kin.more (kin.leaf (Give (Function 1)) (Give (Function 2)) refl refl (kin.gives refl)) (kin.more (kin.leaf (Local 0) (Local 0) refl refl (kin.reads refl)) kin.none))) kin.none))

main_kin : Statement (L 0) declaring.rights declaring_calls.rights nowhere tt tt 0 (code [] 2 (define int 0 one ∷ forever (does (call_of 1 (a ∷ [])) ∷ define int 1 (sum Add a one) ∷ println (b ∷ []) ∷ assign a b ∷ []) ∷ [])).body
    (code [] 2 (define int 0 one ∷ forever (does (call_of 2 (a ∷ [])) ∷ variable_of int 1 ∷ assign b (next_of one) ∷ assign a b ∷ []) ∷ [])).body
main_kin =
    kin.sequence refl refl (kin.next 0 0 (omega arith) (kin.sequence refl refl
    (kin.next 0 0 (omega arith) (kin.defines refl refl (kin.declared refl refl refl (kin.values (kin.more (kin.leaf (Give (Whole (pos 1))) (Give (Whole (pos 1))) refl refl (kin.gives refl)) kin.none))))
    (kin.next 0 0 (omega arith) (kin.loops {mb = 1} kin.no_first kin.absent kin.no_first (kin.sequence refl refl
    (kin.next 0 1 (omega arith) call_kin
    (kin.window {ws = row_of (shows_next 1 one)} {ws' = row_of main_gap} {ts = row_of (assign a b ∷ [])} {ts' = row_of (assign a b ∷ [])} 0 (omega arith) (record { which = 0; function_is = refl; old_is = refl; gap_is = refl })
    (kin.next 0 0 (omega arith) (kin.does tt (kin.inner (AssignTo 1) refl refl refl (kin.more (kin.leaf (Local 0) (Local 0) refl refl (kin.changes refl refl)) (kin.more (kin.leaf (Local 1) (Local 1) refl refl (kin.reads refl)) kin.none)))) kin.ends))) tt) (omega arith) tt) kin.ends)) tt) kin.ends) tt

g_kin : Statement (L 1) declaring.rights declaring_calls.rights nowhere tt tt 1 (code (Some 0 ∷ []) 2 (shows_next 1 two)).body (code (Some 0 ∷ []) 1 g_gap).body
g_kin =
    kin.sequence refl refl (kin.next 1 0 (omega arith) (kin.sequence refl refl
    (kin.window {ws = row_of (shows_next 1 two)} {ws' = row_of g_gap} {ts = trees.none} {ts' = trees.none} 0 (omega arith) (record { which = 1; function_is = refl; old_is = refl; gap_is = refl }) kin.ends) tt) kin.ends) tt

matched : (g : ℕ) → MatesOrNone V declaring declaring_calls (bodies g) (IsWindow g) 2 (slice_get declaring.functions g) (slice_get declaring_calls.functions (between g))
matched zero = found (record { locals = refl; new_locals = refl; parameters = locals.nothing; bodies = refl; cost = 0; cheap = omega arith; tree = main_kin })
matched (suc zero) = found (record { locals = refl; new_locals = refl; parameters = locals.named refl locals.nothing; bodies = refl; cost = 1; cheap = omega arith; tree = g_kin })
matched (suc (suc g)) = missing

pub declaring_extracts : Extracts between 2 declaring declaring_calls
declaring_extracts = record {
  windows = x;
  fits = record {
    functions = λ g g' e. subst (λ n. MatesOrNone V declaring declaring_calls (bodies g) (IsWindow g) 2 (slice_get declaring.functions g) (slice_get declaring_calls.functions n)) (sym e) (matched g);
    mains = refl;
    variables = kin.all_done;
  };
  count = refl;
}
