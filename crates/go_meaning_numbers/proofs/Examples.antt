-- The example, computed.
use Rattle.std.proofs.Common.{ℕ, zero, suc, refl, sym, subst, arith}
use Rattle.std.specs.Prelude.{pos, slice_get}
use Rattle.std.specs.Char.{encode_utf8}
use Rattle.std.specs.Fmt.{digits}
use Rattle.std.specs.Str.{chars, is_utf8}
use Rattle.go_ints.specs.Wrapping.{wrapped}
use Rattle.go_types_relations.specs.Questions.{answers}
use Rattle.go_meaning.specs.Values.{Whole, Function}
use Rattle.go_meaning.specs.Computations.{undecided, end_by, then_do, looped, clause, read, write, spend, enter, each, in_order, falling, over}
use Rattle.go_meaning.specs.Operations.{Print, Drop, operate}
use Rattle.go_meaning.specs.Doings.{stores, matches, selected, act}
use Rattle.go_meaning.specs.Plans.{Give, Perform, Skip, Apply}
use Rattle.go_meaning_simulation.specs.Links.{Links, nowhere}
use Rattle.go_meaning_simulation.specs.Kin as kin
use Rattle.go_meaning_simulation.specs.Kin.{Statement}
use Rattle.go_meaning_simulation.specs.Locals.{no_locals, none_here, body_links}
use Rattle.go_meaning_simulation.specs.Locals as locals
use Rattle.go_meaning_simulation.specs.Mates.{MatesOrNone, missing, found}
use Rattle.go_meaning_numbers.specs.Laws.{Moves, AreNumberedAnew}
use Rattle.go_meaning_numbers.specs.Examples.{calls_it, prints, main_first, main_last, swapped, Examples}

abbrev L : Links
L = body_links (Moves swapped) no_locals none_here 1 1

main_kin : Statement L main_first.rights main_last.rights nowhere tt tt 0 (calls_it 1).body (calls_it 0).body
main_kin =
    kin.sequence refl refl (kin.next 0 0 (omega arith) (kin.sequence refl refl (kin.next 0 0 (omega arith)
    (kin.does tt (kin.inner (Perform Drop) refl refl refl (kin.more (kin.inner Apply refl refl refl (kin.more (kin.leaf (Give (Function 1)) (Give (Function 0)) refl refl (kin.gives refl)) kin.none)) kin.none))) kin.ends) tt) kin.ends) tt

prints_kin : Statement L main_first.rights main_last.rights nowhere tt tt 0 prints.body prints.body
prints_kin =
    kin.sequence refl refl (kin.next 0 0 (omega arith) (kin.sequence refl refl (kin.next 0 0 (omega arith)
    (kin.does tt (kin.inner (Perform Drop) refl refl refl (kin.more (kin.inner (Perform Print) refl refl refl (kin.more (kin.leaf Skip Skip refl refl kin.nothing)
    (kin.more (kin.leaf (Give (Whole (pos 1))) (Give (Whole (pos 1))) refl refl (kin.gives refl)) kin.none))) kin.none))) kin.ends) tt) kin.ends) tt

matched : (g : ℕ) → MatesOrNone (Moves swapped) main_first main_last no_locals none_here 0 (slice_get main_first.functions g) (slice_get main_last.functions (swapped g))
matched zero = found (record { locals = refl; new_locals = refl; parameters = locals.nothing; bodies = refl; cost = 0; cheap = omega arith; tree = main_kin })
matched (suc zero) = found (record { locals = refl; new_locals = refl; parameters = locals.nothing; bodies = refl; cost = 0; cheap = omega arith; tree = prints_kin })
matched (suc (suc g)) = missing

numbered_anew : AreNumberedAnew swapped main_first main_last
numbered_anew = record {
  bodies = λ g. no_locals;
  functions = λ g g' e. subst (λ n. MatesOrNone (Moves swapped) main_first main_last no_locals none_here 0 (slice_get main_first.functions g) (slice_get main_last.functions n)) (sym e) (matched g);
  mains = refl;
  variables = kin.all_done;
  count = refl;
}

pub worked : Examples
unfolding encode_utf8 digits chars is_utf8 answers wrapped undecided end_by then_do looped clause read write spend enter each in_order falling over operate stores matches selected act
worked = record { numbered = numbered_anew; old = refl; new = refl }
