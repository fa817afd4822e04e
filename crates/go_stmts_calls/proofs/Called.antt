-- A call of a function of the package, typed.
use Rattle.std.proofs.Common.{◌≡◌, ◌∙◌, ℕ, suc, true, List, [], ◌∷◌, length, Some, refl, sym, ap, subst}
use Rattle.std.specs.Prelude.{◌&&◌, not, if◌then◌else◌, ◌==◌}
use Rattle.std.proofs.lemmas.Bool.{eq-eqb}
use Rattle.go_base.specs.declared.fault.FaultCode.TheVariants as code
use Rattle.go_grammar.specs.declared.kind.Kind.TheVariants as kind
use Rattle.go_grammar.specs.Trees.{Trees, last}
use Rattle.go_grammar.specs.Trees as trees
use Rattle.go_types.specs.Trees.{TypeTree, TypeRow, function}
use Rattle.go_types_relations.specs.Identity.{is_identical}
use Rattle.go_typed.specs.declared.form.Form.TheVariants as form
use Rattle.go_typed.specs.Trees as sort
use Rattle.go_exprs_rules.specs.Calls.{called, row_length, all_unassignable}
use Rattle.go_exprs_rules.specs.Faults.{fault_at, or_else}
use Rattle.go_exprs_rules.specs.Names.{place_failing}
use Rattle.go_exprs_rules.specs.Scopes.{Hint, Scope, callee}
use Rattle.go_exprs_rules.specs.Settling.{Part}
use Rattle.go_exprs_rules.specs.Tables.{Parts, present, no_faults, is_sound, made, own_faults, built_by, built, found}
use Rattle.go_exprs_rules.specs.Typing.{typing, typings, faults, faults_of_parts}
use Rattle.go_print_laws.specs.Calls.{Argument, arguments_trees, call_tree}
use Rattle.go_print_laws.specs.Reading.{LiteralsReadBack}
use Rattle.go_print_laws.specs.Trees.{name_at}
use Rattle.go_stmts_defs.specs.Frames.{Frame, rights_of, scope_of}
use Rattle.go_stmts_elsewhere.specs.Replaced.{AreFree}
use Rattle.go_stmts_calls.specs.Calls.{MeansFunction, ArgumentsFit, argument_parts, call_part}
use Rattle.go_stmts_calls.proofs.Arguments.{free_both, AreArguments, arguments, arguments_typed, arguments_clear}
use Rattle.go_stmts_calls.proofs.Named.{one_free, function_typed, function_free}

module _ (itself : (t : TypeTree) → is_identical t t ≡ true) (literals : LiteralsReadBack) (g : Frame) (h : Hint) (i number : ℕ) (gs : List Argument) (ps rs : TypeRow) (f : MeansFunction g i number ps rs)
    (w : ArgumentsFit g (suc (suc i)) gs ps) (place : (j : ℕ) → place_failing (rights_of g) h i j (called (function ps rs) rs) ≡ []) where
  abbrev s : Scope
  s = scope_of g

  abbrev j : ℕ
  j = last (call_tree i gs)

  abbrev function_part : Part
  function_part = made (form.Object (g.around.referents number)) i (suc i) (sort.Value (function ps rs)) [] []

  abbrev xs : Parts
  xs = argument_parts s (suc (suc i)) gs

  abbrev all : Trees
  all = trees.more (name_at i) (arguments_trees (suc (suc i)) gs)

  parts_typed : typings s kind.Call h all [] all ≡ Some function_part ∷ xs
  parts_typed =
      ap (λ z. typings s kind.Call h all (Some z ∷ []) (arguments_trees (suc (suc i)) gs)) (function_typed g i number ps rs f)
      ∙ arguments_typed itself literals g (function ps rs) function_part refl h all (suc (suc i)) gs

  as_arguments : AreArguments itself literals g ps xs
  as_arguments = arguments itself literals g (suc (suc i)) gs ps w

  none_fails : own_faults s kind.Call h i j (Some function_part ∷ xs) ≡ []
  none_fails =
      ap (λ b. if not b then or_else (if row_length ps == length (present xs) then all_unassignable (rights_of g) ps (present xs) else fault_at code.Count i j) (place_failing (rights_of g) h i j (called (function ps rs) rs)) else []) as_arguments.known
      ∙ ap (λ b. or_else (if b then all_unassignable (rights_of g) ps (present xs) else fault_at code.Count i j) (place_failing (rights_of g) h i j (called (function ps rs) rs))) (eq-eqb (row_length ps) (length (present xs)) as_arguments.many)
      ∙ ap (λ fs. or_else fs (place_failing (rights_of g) h i j (called (function ps rs) rs))) as_arguments.fits
      ∙ place j

  sound : is_sound kind.Call (Some function_part ∷ xs) (own_faults s kind.Call h i j (Some function_part ∷ xs)) ≡ true
  sound = ap (λ b. not b && no_faults (own_faults s kind.Call h i j (Some function_part ∷ xs))) as_arguments.known ∙ ap no_faults none_fails

  pub call_typed : typing s h (call_tree i gs) ≡ call_part g i number gs ps rs
  call_typed = ap (built s kind.Call h i j) parts_typed ∙ ap (built_by s kind.Call h i j (Some function_part ∷ xs)) sound

  parts_clear : AreFree (faults_of_parts s kind.Call h all [] all)
  parts_clear =
      free_both (faults s callee (name_at i)) (faults_of_parts s kind.Call h all (Some (typing s callee (name_at i)) ∷ []) (arguments_trees (suc (suc i)) gs)) (function_free g i number ps rs f)
      (subst (λ z. AreFree (faults_of_parts s kind.Call h all (Some z ∷ []) (arguments_trees (suc (suc i)) gs))) (sym (function_typed g i number ps rs f))
      (arguments_clear itself literals g (function ps rs) function_part refl h all (suc (suc i)) gs ps w))

  pub call_clear : AreFree (faults s h (call_tree i gs))
  call_clear = free_both (faults_of_parts s kind.Call h all [] all) (found s kind.Call h i j (typings s kind.Call h all [] all) ∷ []) parts_clear
      (one_free (found s kind.Call h i j (typings s kind.Call h all [] all)) (ap (found s kind.Call h i j) parts_typed ∙ none_fails))
