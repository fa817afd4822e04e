-- Arguments that have, or take, the types of the parameters.
use Rattle.std.proofs.Common.{◌≡◌, ◌∙◌, ℕ, suc, true, false, List, [], ◌∷◌, ◌++◌, length, Some, refl, sym, ap, subst, cond}
use Rattle.std.specs.Prelude.{◌||◌, ◌&&◌, not, if◌then◌else◌}
use Rattle.std.specs.List.{list_any}
use Rattle.std.proofs.lemmas.List.{append_assoc, append-nil}
use Rattle.go_grammar.specs.declared.kind.Kind.TheVariants as kind
use Rattle.go_grammar.specs.Trees.{Tree, Trees, last}
use Rattle.go_base.specs.declared.fault.FaultCode.TheVariants as code
use Rattle.go_types.specs.Trees.{TypeTree, is_named, TypeRow, none, more}
use Rattle.go_types.specs.Relations.{Rights}
use Rattle.go_types_relations.specs.Identity.{is_identical}
use Rattle.go_types_relations.specs.Tests.{underlying_of, both_identical, is_assignable}
use Rattle.go_constants.specs.declared.values.Const.{Const}
use Rattle.go_typed.specs.Trees.{typed, sort_of}
use Rattle.go_typed.specs.Trees as sort
use Rattle.go_exprs_rules.specs.declared.fault.TypeFault.{TypeFault}
use Rattle.go_exprs_rules.specs.Faults.{fault_at}
use Rattle.go_exprs_rules.specs.Calls.{row_length, all_unassignable}
use Rattle.go_exprs_rules.specs.Scopes.{Hint, value, type_place}
use Rattle.go_exprs_rules.specs.Settling.{Part, at_part, unrepresented, unrepresented_constant, all_unrepresented, unassignable_by, unassignable}
use Rattle.go_exprs_rules.specs.Sorts.{kind_of_const, is_unknown, constant_of, is_constant, is_open, suits, represents}
use Rattle.go_exprs_rules.specs.Tables.{Parts, is_lost, present, is_make, call_told}
use Rattle.go_exprs_rules.specs.Typing.{typing, typings, faults, faults_of_parts}
use Rattle.go_print_laws.specs.Calls.{Argument, variable, constant, argument_tree, further_trees, arguments_trees}
use Rattle.go_print_laws.specs.Literals.{literal_tree}
use Rattle.go_print_laws.specs.Reading.{unmarked, LiteralsReadBack}
use Rattle.go_stmts_defs.specs.Frames.{Frame, rights_of, scope_of}
use Rattle.go_stmts_elsewhere.specs.Replaced.{AreFree}
use Rattle.go_stmts_calls.specs.Calls.{ArgumentFits, FurtherFit, ArgumentsFit, further_parts, argument_parts}
use Rattle.go_stmts_calls.proofs.Named.{free_of_all, variable_typed, variable_free}

pub free_both : (fs gs : List (List TypeFault)) → AreFree fs → AreFree gs → AreFree (fs ++ gs)
free_both [] gs a b = b
free_both ([] ∷ fs) gs a b = free_both fs gs a b
free_both ((f ∷ hs) ∷ fs) gs a b = absurd a

-- ---- types

pub assignable_itself : (rights : Rights) (t : TypeTree) → is_identical t t ≡ true → is_assignable rights t t ≡ true
unfolding is_assignable
assignable_itself rights t e = ap (λ b. b || (both_identical (underlying_of rights t) (underlying_of rights t) && not (is_named t && is_named t))) e

-- ---- constants

module _ (rights : Rights) (t : TypeTree) (c : Const) (kind_fits : suits rights (kind_of_const c) t ≡ true) (range : represents rights t c ≡ true) where
  represented : (x : Part) → sort_of x ≡ sort.OpenConstant c → unrepresented rights t x ≡ []
  represented (typed f i j l ps) e =
      ap (λ z. cond (is_open z) (cond (is_constant z) (unrepresented_constant rights t i j (constant_of z)) (all_unrepresented rights t ps)) []) e
      ∙ ap (λ b. cond b [] (fault_at code.Representable i j)) range

  constant_fits : (x : Part) → sort_of x ≡ sort.OpenConstant c → unassignable rights t x ≡ []
  constant_fits x e =
      ap (λ z. unassignable_by rights t z x) e ∙ ap (λ b. if b then unrepresented rights t x else at_part code.Assignable x) kind_fits ∙ represented x e

-- ---- an argument

module _ (itself : (t : TypeTree) → is_identical t t ≡ true) (literals : LiteralsReadBack) (g : Frame) where
  -- it is known, no rule fails in it, and it is given to a variable of the type
  pub record IsArgument (i : ℕ) (a : Argument) (t : TypeTree) : Type 0 where
    pub known : is_unknown (sort_of (typing (scope_of g) value (argument_tree i a))) ≡ false
    pub clear : AreFree (faults (scope_of g) value (argument_tree i a))
    pub fits : unassignable (rights_of g) t (typing (scope_of g) value (argument_tree i a)) ≡ []

  argument : (i : ℕ) (a : Argument) (t : TypeTree) → ArgumentFits g i a t → IsArgument i a t
  argument i (variable w) t v = record {
    known = ap (λ x. is_unknown (sort_of x)) (variable_typed g i t v);
    clear = variable_free g i t v;
    fits = ap (unassignable (rights_of g) t) (variable_typed g i t v) ∙ ap (λ b. if b then [] else fault_at code.Assignable i (suc i)) (assignable_itself (rights_of g) t (itself t));
  }
  argument i (constant v) t w =
      let r = literals (scope_of g) i v w.read w.reads in
      record {
        known = ap is_unknown r.stands;
        clear = free_of_all (faults (scope_of g) value (literal_tree i v)) r.faultless;
        fits = constant_fits (rights_of g) t (unmarked v) w.kind w.range (typing (scope_of g) value (literal_tree i v)) r.stands;
      }

  -- ---- rows of arguments

  -- as many as types, each of its own
  pub record AreArguments (ts : TypeRow) (xs : Parts) : Type 0 where
    pub known : list_any is_lost xs ≡ false
    pub many : row_length ts ≡ length (present xs)
    pub fits : all_unassignable (rights_of g) ts (present xs) ≡ []

  in_front : (i : ℕ) (a : Argument) (t : TypeTree) (ts : TypeRow) (xs : Parts) → IsArgument i a t → AreArguments ts xs → AreArguments (more t ts) (Some (typing (scope_of g) value (argument_tree i a)) ∷ xs)
  in_front i a t ts xs one rest = record {
    known = ap (λ b. b || list_any is_lost xs) one.known ∙ rest.known;
    many = ap suc rest.many;
    fits = ap (λ fs. fs ++ all_unassignable (rights_of g) ts (present xs)) one.fits ∙ rest.fits;
  }

  further : (i : ℕ) (gs : List Argument) (ts : TypeRow) → FurtherFit g i gs ts → AreArguments ts (further_parts (scope_of g) i gs)
  further i [] none w = record { known = refl; many = refl; fits = refl }
  further i (a ∷ gs) (more t ts) w =
      in_front (suc i) a t ts (further_parts (scope_of g) (last (argument_tree (suc i) a)) gs) (argument (suc i) a t w.0) (further (last (argument_tree (suc i) a)) gs ts w.1)
  further i [] (more t ts) w = absurd w
  further i (a ∷ gs) none w = absurd w

  pub arguments : (i : ℕ) (gs : List Argument) (ts : TypeRow) → ArgumentsFit g i gs ts → AreArguments ts (argument_parts (scope_of g) i gs)
  arguments i [] none w = record { known = refl; many = refl; fits = refl }
  arguments i (a ∷ gs) (more t ts) w = in_front i a t ts (further_parts (scope_of g) (last (argument_tree i a)) gs) (argument i a t w.0) (further (last (argument_tree i a)) gs ts w.1)
  arguments i [] (more t ts) w = absurd w
  arguments i (a ∷ gs) none w = absurd w

  -- ---- behind the callee

  module _ (f : TypeTree) (c : Part) (value_there : sort_of c ≡ sort.Value f) (h : Hint) (all : Trees) where
    told_value : (ys : Parts) → call_told (Some c ∷ ys) ≡ value
    told_value [] = ap (λ x. if is_make x then type_place else value) value_there
    told_value (y ∷ ys) = refl

    one_more : (ys : Parts) (t : Tree) → (Some c ∷ ys) ++ Some (typing (scope_of g) (call_told (Some c ∷ ys)) t) ∷ [] ≡ Some c ∷ (ys ++ Some (typing (scope_of g) value t) ∷ [])
    one_more ys t = ap (λ z. Some c ∷ (ys ++ Some (typing (scope_of g) z t) ∷ [])) (told_value ys)

    further_typed : (i : ℕ) (gs : List Argument) (ys : Parts) → typings (scope_of g) kind.Call h all (Some c ∷ ys) (further_trees i gs) ≡ Some c ∷ (ys ++ further_parts (scope_of g) i gs)
    further_typed i [] ys = ap (λ zs. Some c ∷ zs) (sym (append-nil ys))
    further_typed i (a ∷ gs) ys =
        let t = argument_tree (suc i) a in
        ap (λ zs. typings (scope_of g) kind.Call h all zs (further_trees (last t) gs)) (one_more ys t)
        ∙ further_typed (last t) gs (ys ++ Some (typing (scope_of g) value t) ∷ [])
        ∙ ap (λ zs. Some c ∷ zs) (append_assoc ys (Some (typing (scope_of g) value t) ∷ []) (further_parts (scope_of g) (last t) gs))

    pub arguments_typed : (i : ℕ) (gs : List Argument) → typings (scope_of g) kind.Call h all (Some c ∷ []) (arguments_trees i gs) ≡ Some c ∷ argument_parts (scope_of g) i gs
    arguments_typed i [] = refl
    arguments_typed i (a ∷ gs) =
        let t = argument_tree i a in
        ap (λ zs. typings (scope_of g) kind.Call h all zs (further_trees (last t) gs)) (one_more [] t) ∙ further_typed (last t) gs (Some (typing (scope_of g) value t) ∷ [])

    further_clear : (i : ℕ) (gs : List Argument) (ts : TypeRow) → FurtherFit g i gs ts → (ys : Parts) → AreFree (faults_of_parts (scope_of g) kind.Call h all (Some c ∷ ys) (further_trees i gs))
    further_clear i [] none w ys = tt
    further_clear i (a ∷ gs) (more t ts) w ys =
        let x = argument_tree (suc i) a in
        subst (λ z. AreFree (faults (scope_of g) z x ++ faults_of_parts (scope_of g) kind.Call h all ((Some c ∷ ys) ++ Some (typing (scope_of g) z x) ∷ []) (further_trees (last x) gs))) (sym (told_value ys))
        (free_both (faults (scope_of g) value x) (faults_of_parts (scope_of g) kind.Call h all (Some c ∷ (ys ++ Some (typing (scope_of g) value x) ∷ [])) (further_trees (last x) gs))
        (argument (suc i) a t w.0).clear (further_clear (last x) gs ts w.1 (ys ++ Some (typing (scope_of g) value x) ∷ [])))
    further_clear i [] (more t ts) w ys = absurd w
    further_clear i (a ∷ gs) none w ys = absurd w

    pub arguments_clear : (i : ℕ) (gs : List Argument) (ts : TypeRow) → ArgumentsFit g i gs ts → AreFree (faults_of_parts (scope_of g) kind.Call h all (Some c ∷ []) (arguments_trees i gs))
    arguments_clear i [] none w = tt
    arguments_clear i (a ∷ gs) (more t ts) w =
        let x = argument_tree i a in
        subst (λ z. AreFree (faults (scope_of g) z x ++ faults_of_parts (scope_of g) kind.Call h all ((Some c ∷ []) ++ Some (typing (scope_of g) z x) ∷ []) (further_trees (last x) gs))) (sym (told_value []))
        (free_both (faults (scope_of g) value x) (faults_of_parts (scope_of g) kind.Call h all (Some c ∷ (Some (typing (scope_of g) value x) ∷ [])) (further_trees (last x) gs))
        (argument i a t w.0).clear (further_clear (last x) gs ts w.1 (Some (typing (scope_of g) value x) ∷ [])))
    arguments_clear i [] (more t ts) w = absurd w
    arguments_clear i (a ∷ gs) none w = absurd w
