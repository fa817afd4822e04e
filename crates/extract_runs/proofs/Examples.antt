-- The worked window and block.
use Rattle.std.proofs.Common.{◌≡◌, ◌∙◌, ℕ, zero, suc, ◌+◌, ◌<◌, arith, refl, sym, ap, inl, inr, [], ◌∷◌, Some, None}
use Rattle.std.specs.Prelude.{pos, Bool, true, false, nat_eq, unwrap_or}
use Rattle.go_ints.specs.declared.kinds.Kind.TheVariants as kind
use Rattle.go_ints.specs.declared.operators.Op.TheVariants as op
use Rattle.go_types.specs.Trees.{TypeTree}
use Rattle.go_types.specs.Relations.{Rights}
use Rattle.go_typed.specs.declared.form.Form.TheVariants as form
use Rattle.go_typed.specs.declared.form.Referent.{Referent}
use Rattle.go_typed.specs.declared.form.Referent.TheVariants as referent
use Rattle.go_typed.specs.Trees.{Typed, typed, Typeds}
use Rattle.go_typed.specs.Trees as trees
use Rattle.go_meaning.specs.Values.{Value, Whole}
use Rattle.go_meaning.specs.Operations.{Compute}
use Rattle.go_meaning.specs.Plans.{Perform, AssignTo}
use Rattle.go_meaning.specs.Planning.{sort_type, form_plan, sort_plan}
use Rattle.go_meaning_simulation.specs.Links.{nowhere}
use Rattle.go_meaning_simulation.specs.Locals.{Linked, Inside, InPairs, Hole}
use Rattle.extract_trees.specs.Examples.{statements, copies}
use Rattle.extract_runs.specs.Quiet.{AreQuiet}
use Rattle.extract_runs.specs.Sound.{SoundChain}
use Rattle.extract_runs.specs.Sound as sound
use Rattle.extract_runs.specs.Renumbering.{referent_moved}
use Rattle.extract_runs.specs.Holes.{never, HaveHoles}
use Rattle.extract_runs.specs.Lexical.{lexical_links, window_locals}
use Rattle.extract_runs.specs.Gaps as gaps
use Rattle.extract_runs.specs.Same.{IsSame, AreSame, alike, loop}
use Rattle.extract_runs.specs.Same as same
use Rattle.extract_runs.specs.Examples.{into_function, a_statement, Examples}
use Rattle.extract_runs.proofs.Kept.{kept_types}

-- ---- the same trees

mutual
  itself : (rights : Rights) (t : Typed TypeTree) → IsSame rights t t
  itself rights (typed form.For i j l ps) = loop (all_itself rights ps)
  itself rights (typed f i j l ps) = alike (sort_plan l.sort (form_plan rights f (sort_type l.sort) ps)) refl refl (all_itself rights ps)

  pub all_itself : (rights : Rights) (ps : Typeds TypeTree) → AreSame rights ps ps
  all_itself rights trees.none = same.none
  all_itself rights (trees.more p ps) = same.more (itself rights p) (all_itself rights ps)
  all_itself rights (trees.skip ps) = same.skip (all_itself rights ps)

-- ---- the locals of the window and of the function, where a parameter stands between them

abbrev linked : ℕ → ℕ → Bool
linked zero zero = true
linked (suc zero) (suc (suc zero)) = true
linked i j = false

linked_are : (i j : ℕ) → linked i j ≡ true → (j ≡ i + i) × (i < 2)
linked_are zero zero e = (refl, omega arith)
linked_are zero (suc j) e = absurd cc
linked_are (suc zero) zero e = absurd cc
linked_are (suc zero) (suc zero) e = absurd cc
linked_are (suc zero) (suc (suc zero)) e = (refl, omega arith)
linked_are (suc zero) (suc (suc (suc j))) e = absurd cc
linked_are (suc (suc i)) j e = absurd cc

abbrev locals : Linked
locals = record {
  linked = linked;
  count = 2;
  new_count = 3;
  one = λ i j k x y. (linked_are i j x).0 ∙ sym (linked_are i k y).0;
  back_one = λ i k j x y. let e = linked_are i j x in let g = linked_are k j y in omega (arith, e.0, g.0);
  in_old = λ i j x. (linked_are i j x).1;
  in_new = λ i j x. let e = linked_are i j x in omega (arith, e.0, e.1);
}

abbrev is_second : ℕ → Bool
is_second i = nat_eq i 1

apart : (v : Value) (p i : ℕ) → InPairs v p ((Whole (pos 1), 1) ∷ []) → linked i p ≡ true → ⊥
apart v p i (inl e) x = let g = linked_are i p x in omega (arith, e.1, g.0)
apart v p i (inr e) x = e

-- the parameter holds 1
abbrev inside : Inside
inside = record { locals = locals; may = is_second; held = (Whole (pos 1), 1) ∷ []; apart = apart }

-- ---- the window

referents : (r : Referent) → into_function.referent r ≡ referent_moved suc r
referents (referent.Function n) = omega_suc n
  where
    omega_suc : (m : ℕ) → referent.Function (m + 1) ≡ referent.Function (suc m)
    omega_suc m = ap referent.Function (omega arith)
referents r = refl

quiet : AreQuiet false statements
quiet = (
  (λ e. refl, refl, tt, ((λ e. refl, refl, tt, tt), ((λ e. refl, refl, tt, ((λ e. refl, refl, tt, tt), ((λ e. refl, refl, tt, tt), tt))), tt))),
  ((λ e. refl, refl, tt, ((λ e. refl, refl, tt, tt), ((λ e. refl, refl, tt, ((λ e. refl, refl, tt, tt), ((λ e. refl, refl, tt, tt), tt))), tt))), tt),
)

no_hole_here : {A : Type 0} → false ≡ true → A
no_hole_here e = absurd cc

no_parameter : {A : Type 0} (p : ℕ) → None ≡ Some p → A
no_parameter p e = absurd cc

held_there : (p : ℕ) → Some 1 ≡ Some p → Hole inside (Whole (pos 1)) p
held_there p e = inl (refl, ap (λ o. unwrap_or o 0) (sym e))

holes : HaveHoles into_function (Hole inside) false statements
holes = (
  (λ h. no_hole_here h, tt, ((λ h. no_hole_here h, tt, tt), ((λ h. no_hole_here h, tt, ((λ h. no_hole_here h, tt, tt), ((λ h p e. held_there p e, tt, tt), tt))), tt))),
  ((λ h. no_hole_here h, tt, ((λ h. no_hole_here h, tt, tt), ((λ h. no_hole_here h, tt, ((λ h. no_hole_here h, tt, tt), ((λ h p e. no_parameter p e, tt, tt), tt))), tt))), tt),
)

lexical : SoundChain (lexical_links (window_locals inside into_function.local is_second (0 ∷ []))) [] into_function.local never nowhere (0 ∷ []) (1 ∷ 0 ∷ []) statements
lexical =
    sound.next {s1 = 1 ∷ 0 ∷ []} (λ out. sound.simple (sound.defines refl (sound.declared refl ((refl, refl, refl), refl)
    (sound.values (sound.more (sound.inner (Perform (Compute kind.Int op.Add)) refl refl (sound.more (sound.reads refl (inl refl, (refl, inr (inl refl)))) (sound.more (sound.gives refl) sound.none))) sound.none)))))
    (sound.next (λ out. sound.simple (sound.does (λ k h. h) (sound.inner (AssignTo 1) refl refl (sound.more (sound.changes refl (inl refl, (refl, inl refl)) (refl, refl))
    (sound.more (sound.inner (Perform (Compute kind.Int op.Mul)) refl refl (sound.more (sound.reads refl (inl refl, (refl, inl refl))) (sound.more (sound.gives refl) sound.none))) sound.none))))) sound.ends)

pub worked : Examples
worked = record {
  window = (
    inside,
    record {
      renumbers = kept_types into_function suc [] referents (λ n. refl);
      quiet = quiet;
      holes = holes;
      same = all_itself [] copies;
      own = is_second;
      here = 0 ∷ [];
      there = 1 ∷ 0 ∷ [];
      none_here = refl;
      is_behind = refl;
      lexical = lexical;
    },
  );
  gapped = gaps.list refl refl (gaps.next 0 1 (omega arith) refl refl refl (gaps.node refl refl refl refl tt tt gaps.no_parts)
      (gaps.window {b = 0} {ws = trees.none} {ts = trees.more (a_statement 5) trees.none} _ (omega arith) refl refl refl tt (refl, refl) (gaps.next 0 0 (omega arith) refl refl refl (gaps.node refl refl refl refl tt tt gaps.no_parts) gaps.ends)));
  filled_block = refl;
}
