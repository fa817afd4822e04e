-- The worked package: its premises one by one.
use Rattle.std.proofs.Common.{◌≡◌, ◌∙◌, ℕ, zero, suc, ◌≤◌, arith, refl, sym, ap, inl, inr, [], ◌∷◌, Some, slice_get}
use Rattle.std.specs.Prelude.{pos, Bool, true, false, nat_eq, unwrap_or}
use Rattle.go_ints.specs.declared.kinds.Kind.TheVariants as kind
use Rattle.go_ints.specs.declared.operators.Op.TheVariants as op
use Rattle.go_types.specs.Trees.{TypeTree}
use Rattle.go_typed.specs.declared.form.Referent.{Referent}
use Rattle.go_typed.specs.declared.form.Referent.TheVariants as referent
use Rattle.go_typed.specs.Trees.{Typed, Typeds}
use Rattle.go_typed.specs.Trees as trees
use Rattle.go_meaning.specs.Values.{Value, Whole}
use Rattle.go_meaning.specs.Operations.{Compute}
use Rattle.go_meaning.specs.Plans.{Perform, AssignTo}
use Rattle.go_meaning_simulation.specs.Links.{nowhere}
use Rattle.go_meaning_simulation.specs.Locals.{Linked, Inside, InPairs, Hole}
use Rattle.go_meaning_simulation.specs.Locals as locals
use Rattle.extract_call.specs.Calls as calls
use Rattle.extract_call.specs.Calls.{Passed, Given}
use Rattle.extract_call.specs.Members as members
use Rattle.extract_call.specs.Members.{Comes}
use Rattle.extract_runs.specs.Quiet.{AreQuiet}
use Rattle.extract_runs.specs.Sound.{SoundChain, SoundStatement}
use Rattle.extract_runs.specs.Sound as sound
use Rattle.extract_runs.specs.Renumbering.{referent_moved}
use Rattle.extract_runs.specs.Holes.{never, no_hole, HaveHoles}
use Rattle.extract_runs.specs.Gaps.{Gapped}
use Rattle.extract_runs.specs.Gaps as gaps
use Rattle.extract_runs.specs.Lexical.{lexical_links, linked_locals}
use Rattle.extract_runs.specs.Laws.{IsBodySound, IsWindowSound}
use Rattle.extract_runs.specs.Packages.{TreeMember, TreeExtraction, IsTreeWindow, IsFilled, FilledOrNone, missing, found}
use Rattle.extract_runs.specs.Packages as packages
use Rattle.extract_runs.specs.PackageExamples.{body, third, small, past, referent_past, into_step, window, copy, return, step, called, gap, in_place, small_calls, PackageExamples}
use Rattle.extract_runs.proofs.Kept.{kept_types}
use Rattle.extract_runs.proofs.Examples.{all_itself}

-- ---- locals: the first one stands for the first one

abbrev linked : ℕ → ℕ → Bool
linked zero zero = true
linked i j = false

linked_are : (i j : ℕ) → linked i j ≡ true → (i ≡ 0) × (j ≡ 0)
linked_are zero zero e = (refl, refl)
linked_are zero (suc j) e = absurd cc
linked_are (suc i) j e = absurd cc

abbrev first_linked : (count new_count : ℕ) → 1 ≤ count → 1 ≤ new_count → Linked
first_linked count new_count some some' = record {
  linked = linked;
  count = count;
  new_count = new_count;
  one = λ i j k x y. (linked_are i j x).1 ∙ sym (linked_are i k y).1;
  back_one = λ i k j x y. (linked_are i j x).0 ∙ sym (linked_are k j y).0;
  in_old = λ i j x. let e = linked_are i j x in omega (arith, e.0, some);
  in_new = λ i j x. let e = linked_are i j x in omega (arith, e.1, some');
}

abbrev in_main : Linked
in_main = first_linked 1 1 (omega arith) (omega arith)

abbrev in_step : Linked
in_step = first_linked 1 2 (omega arith) (omega arith)

abbrev is_first : ℕ → Bool
is_first n = nat_eq n 0

apart : (v : Value) (p i : ℕ) → InPairs v p ((Whole (pos 2), 1) ∷ []) → linked i p ≡ true → ⊥
apart v p i (inl e) x = let g = linked_are i p x in omega (arith, e.1, g.1)
apart v p i (inr e) x = e

-- the second parameter of `step` holds 2
abbrev inside : Inside
inside = record { locals = in_step; may = is_first; held = (Whole (pos 2), 1) ∷ []; apart = apart }

referents : (r : Referent) → referent_past r ≡ referent_moved past r
referents (referent.Function n) = refl
referents r = refl

-- ---- the window

no_hole_here : {A : Type 0} → false ≡ true → A
no_hole_here e = absurd cc

quiet : AreQuiet false window
quiet = ((λ e. refl, refl, tt, ((λ e. refl, refl, tt, tt), ((λ e. refl, refl, tt, ((λ e. refl, refl, tt, tt), ((λ e. refl, refl, tt, tt), tt))), tt))), tt)

held_there : (p : ℕ) → Some 1 ≡ Some p → Hole inside (Whole (pos 2)) p
held_there p e = inl (refl, ap (λ o. unwrap_or o 0) (sym e))

holes : HaveHoles into_step (Hole inside) false window
holes =
    ((λ h. no_hole_here h, tt, ((λ h. no_hole_here h, tt, tt), ((λ h. no_hole_here h, tt, ((λ h. no_hole_here h, tt, tt), ((λ h p e. held_there p e, tt, tt), tt))), tt))), tt)

window_sound : IsWindowSound past [] [] inside into_step (0 ∷ []) (0 ∷ []) window copy
window_sound = record {
  renumbers = kept_types into_step past [] referents (λ n. refl);
  quiet = quiet;
  holes = holes;
  same = all_itself [] copy;
  own = never;
  here = 0 ∷ [];
  there = 0 ∷ [];
  none_here = refl;
  is_behind = refl;
  lexical = sound.next (λ out. sound.simple (sound.does (λ k h. h) (sound.inner (AssignTo 1) refl refl (sound.more (sound.changes refl (inl refl, (refl, inr (inl refl))) (refl, refl))
      (sound.more (sound.inner (Perform (Compute kind.Int op.Add)) refl refl (sound.more (sound.reads refl (inl refl, (refl, inr (inl refl)))) (sound.more (sound.gives refl) sound.none))) sound.none))))) sound.ends;
}

hole_apart : (i : ℕ) → linked i 1 ≡ true → ⊥
hole_apart i e = let g = linked_are i 1 e in omega (arith, g.1)

comes : Comes in_main inside (0 ∷ []) (Some 0 ∷ []) (0 ∷ []) []
comes zero zero l = inr (0, refl, inl refl, inl (refl, refl, λ h. h))
comes zero (suc j) l = absurd cc
comes (suc i) j l = absurd cc

abbrev member : TreeMember past 1 small small_calls (λ g. in_main) 1 step copy (0 ∷ [])
member = record {
  function = 0;
  inside = inside;
  old = window;
  gap = called;
  args = Passed 0 ∷ Given (Whole (pos 2)) ∷ [];
  targets = Some 0 ∷ [];
  fresh = [];
  before = 0 ∷ [];
  behind = 0 ∷ [];
  is_gap = calls.assigns refl (calls.into refl (calls.source (calls.calls refl refl (calls.passed refl (calls.given refl calls.no_arguments)))));
  numbering = into_step;
  window = window_sound;
  bound = members.passes refl (λ h. h) refl (members.holds refl (omega arith) hole_apart (λ h. h) members.none);
  size = refl;
  count = refl;
  comes = comes;
}

abbrev extraction : TreeExtraction past 1 small small_calls
extraction = record {
  some = omega arith;
  h = 1;
  new = step;
  there = refl;
  has = refl;
  statements = copy;
  given = 0 ∷ [];
  is_body = calls.body {back = return} refl refl (calls.gives_back refl (calls.passed refl calls.no_arguments));
  bodies = λ g. in_main;
  member = λ j. member;
}

-- ---- the function `main`

abbrev is_out : ℕ → Bool
is_out t = nat_eq t 7

abbrev Windows : Typeds TypeTree → Typeds TypeTree → Type 0
Windows = IsTreeWindow past 1 small small_calls extraction 0

gapped : Gapped in_place (gap ∷ []) no_hole Windows is_out 1 body
gapped =
    gaps.above refl tt (gaps.part 1 0 (omega arith) refl (gaps.list refl refl
    (gaps.next 0 1 (omega arith) refl refl refl (gaps.node refl refl refl refl tt tt (gaps.part 0 0 (omega arith) refl (gaps.node refl refl refl refl tt tt gaps.no_parts) (gaps.part 0 0 (omega arith) refl (gaps.node refl refl refl refl tt tt gaps.no_parts) gaps.no_parts)))
    (gaps.window {b = 0} {ws = trees.none} {ts = trees.more third trees.none} gap (omega arith) refl refl refl tt (record { which = 0; function_is = refl; old_is = refl; gap_is = refl })
    (gaps.next 0 0 (omega arith) refl refl refl (gaps.node refl refl refl refl tt tt (gaps.part 0 0 (omega arith) refl (gaps.node refl refl refl refl tt tt gaps.no_parts)
    (gaps.part 0 0 (omega arith) refl (gaps.node refl refl refl refl tt tt (gaps.part 0 0 (omega arith) refl (gaps.node refl refl refl refl tt tt gaps.no_parts)
    (gaps.part 0 0 (omega arith) refl (gaps.node refl refl refl refl tt tt gaps.no_parts) gaps.no_parts))) gaps.no_parts))) gaps.ends)))) gaps.no_parts)

in_window : {A : Type 0} → true ≡ false → A
in_window e = absurd cc

lexical : SoundStatement (lexical_links (linked_locals in_main in_place.local)) [] in_place.local is_out nowhere [] [] body
lexical =
    sound.sequence refl (sound.next {s1 = []} (λ out. sound.sequence refl
    (sound.next {s1 = 0 ∷ []} (λ out. sound.simple (sound.defines refl (sound.declared refl (refl, refl) (sound.values (sound.more (sound.gives refl) sound.none)))))
    (sound.next {s1 = 0 ∷ []} (λ out. in_window out)
    (sound.next {s1 = 0 ∷ []} (λ out. sound.simple (sound.does (λ k h. h) (sound.inner (AssignTo 1) refl refl (sound.more (sound.changes refl (inl refl, refl) refl)
    (sound.more (sound.inner (Perform (Compute kind.Int op.Mul)) refl refl (sound.more (sound.reads refl (inl refl, refl)) (sound.more (sound.gives refl) sound.none))) sound.none))))) sound.ends))) (λ k h. absurd h)) sound.ends) (λ k h. h)

main_sound : IsBodySound past [] [] in_main Windows in_place (gap ∷ []) 1 body
main_sound = record { renumbers = kept_types in_place past [] referents (λ n. refl); gone = is_out; gapped = gapped; before = []; behind = []; lexical = lexical }

functions : (g : ℕ) → FilledOrNone past 1 small small_calls extraction g (slice_get small.functions g) (slice_get small_calls.functions (past g))
functions zero = found (record { locals = refl; new_locals = refl; parameters = locals.nothing; bodies = refl; count = 1; few = omega arith; numbering = in_place; gaps = gap ∷ []; body = refl; sound = main_sound })
functions (suc g) = missing

pub package_examples : PackageExamples
package_examples = record { extracted = record { windows = extraction; functions = functions; mains = refl; variables = packages.none; count = refl } }
