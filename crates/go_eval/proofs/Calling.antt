-- What calls come to.
use Rattle.std.proofs.Common.{◌≡◌, ◌<◌, ℕ, zero, suc, List, [], ◌∷◌, ◌++◌, take, drop, length, refl, sym, ap, ◌∙◌, subst, arith, Option, Some, None, Ok, Err}
use Rattle.std.specs.Prelude.{Bool, true, false, ◌&&◌, nat_lt, map, slice_get}
use Rattle.std.specs.List.{list_all}
use Rattle.std.proofs.lemmas.Bool.{ltb-true}
use Rattle.std.specs.Option.{option_map, is_some, IsNone}
use Rattle.go_types.specs.Trees.{TypeTree}
use Rattle.go_typed.specs.Funcs.{FuncView, tree_of}
use Rattle.go_typed.specs.Packages.{PackageView, IsPackage, Counts, counts, is_below, is_known_tree, is_known_func, refers_to}
use Rattle.go_typed.specs.Trees.{Sort, IsType, Constant, Results, Typed, typed, Typeds, none, more, skip, Every, EveryPart, SortHas, sort_has, every, every_part, every_form}
use Rattle.go_typed.specs.Trees as trees
use Rattle.go_typed.specs.Views.{seen}
use Rattle.go_meaning.specs.Values.{Value, Function, nth}
use Rattle.go_meaning.specs.Computations.{World, Panics, NilCall, Comp, Undecided, undecided, end_by, spend, enter}
use Rattle.go_meaning.specs.Doings.{applied}
use Rattle.go_meaning.specs.Meaning as meaning
use Rattle.go_meaning.specs.Meaning.{Code, frame_of, has_body, called, bounded}
use Rattle.go_meaning.specs.Operations.{ReadByte}
use Rattle.go_meaning.proofs.Public.{bound_does_not_show}
use Rattle.go_eval_plans.specs.Programs.{code_of, program_of, calls, doing}
use Rattle.go_typed.specs.declared.node.TypedNode.{TypedNode}
use Rattle.go_eval_machine.specs.declared.task.What.TheVariants as what
use Rattle.go_eval_machine.specs.Rests.{Rest, before, then_rest, leaving}
use Rattle.go_eval_machine.specs.Tasks.{task_rest, first_above}
use Rattle.go_eval_machine.specs.declared.engine.Engine.{Engine}
use Rattle.go_eval_machine.specs.Engines.{Goes, IsKept, operates, works}
use Rattle.go_values.specs.Views.{views}
use Rattle.go_values.specs.declared.panic.Panic.TheVariants as panic
use Rattle.go_eval_plans.specs.Called.{IsCallee}
use Rattle.go_eval_plans.specs.Machines.{outcome, ends}
use Rattle.go_eval_plans.specs.declared.machine.Machine.{Machine}
use Rattle.go_eval_plans.specs.declared.exit.Exit.{Exit}
use Rattle.go_eval_plans.specs.declared.exit.Exit.TheVariants as exit
use Rattle.go_eval_machine.proofs.Public.{goes_written, Same, begins_body, same_before}
use Rattle.go_eval.specs.Called.{IsKnownBody, calls_it, enters, function_in}

pub get_map : {A B : Type 0} (f : A → B) (xs : List A) (k : ℕ) → slice_get (map f xs) k ≡ option_map f (slice_get xs k)
get_map f [] k = refl
get_map f (x ∷ xs) zero = refl
get_map f (x ∷ xs) (suc k) = get_map f xs k

module _ (p : PackageView) (n : ℕ) (r : Rest) (vs : List Value) where
  -- the function of this number
  pub applies : (x : TypedNode) (b g : ℕ) (o : Option FuncView) (us : List Value) → first_above b vs ≡ Function g → slice_get p.functions g ≡ o → us ≡ drop b vs → Same (works p x b what.Apply n r vs) (calls_it p o (drop 1 us) n r (take b vs))
  unfolding task_rest calls program_of
  applies x b g o us e h eu d f w t =
      ap (λ (v : Value). then_rest (applied (λ k ws. calls p n k ws) v (drop 1 (drop b vs))) r (take b vs) d f w t) e
      ∙ (ap (λ (c : Option Code). then_rest (called (bounded (program_of p 0) n) (drop 1 (drop b vs)) c) r (take b vs) d f w t) (get_map (code_of p.types) p.functions g ∙ ap (option_map (code_of p.types)) h)
      ∙ ap (λ (ws : List Value). then_rest (called (bounded (program_of p 0) n) (drop 1 ws) (option_map (code_of p.types) o)) r (take b vs) d f w t) (sym eu))

  pub no_function : (us : List Value) (d : ℕ) (f : List Value) (w : World) (t : ℕ) → calls_it p None us n r vs d f w t ≡ Undecided w.output
  unfolding before undecided
  no_function us d f w t = refl

  module _ (g : FuncView) (us : List Value) where
    abbrev entered_by : Bool → Comp
    entered_by q = meaning.entered q (frame_of (code_of p.types g) us) (bounded (program_of p 0) n (code_of p.types g).body)

    pub not_called : (d : ℕ) (f : List Value) (w : World) → calls_it p (Some g) us n r vs d f w 0 ≡ Undecided w.output
    unfolding before spend
    not_called d f w = refl

    pub body_called : has_body (code_of p.types g) ≡ true → (d : ℕ) (f : List Value) (w : World) (t : ℕ) → calls_it p (Some g) us n r vs d f w (suc t) ≡ enters p g us n r vs d f w t
    unfolding before spend code_of
    body_called e d f w t = ap (λ (q : Bool). then_rest (entered_by q) r vs d f w t) e

    pub byte_called : has_body (code_of p.types g) ≡ false → (d : ℕ) (f : List Value) (w : World) (t : ℕ) → calls_it p (Some g) us n r vs d f w (suc t) ≡ operates ReadByte n r vs d f w t
    unfolding before spend
    byte_called e d f w t = ap (λ (q : Bool). then_rest (entered_by q) r vs d f w t) e

    pub no_depth : (f : List Value) (w : World) (t : ℕ) → enters p g us n r vs 0 f w t ≡ Undecided w.output
    unfolding before enter
    no_depth f w t = refl

    -- its body in its frame, one deeper
    pub body_entered : (b : ℕ) → b ≡ length vs → (fr : List Value) → fr ≡ frame_of (code_of p.types g) us → (d : ℕ) (f : List Value) (w : World) (t : ℕ) → t < n →
        enters p g us n r vs (suc d) f w t ≡ then_rest (doing p n g.root).value (leaving b f r) vs d fr w t
    unfolding doing calls program_of
    body_entered b e fr ef d f w t lt =
        begins_body r vs b (frame_of (code_of p.types g) us) (bounded (program_of p 0) n (seen p.types g.root)) e d f w t
        ∙ (ap (λ (ws : List Value). then_rest (bounded (program_of p 0) n (seen p.types g.root)) (leaving b f r) vs d ws w t) (sym ef)
        ∙ same_before (bounded (program_of p 0) n (seen p.types g.root)) (doing p n g.root).value (leaving b f r) vs d fr w t (bound_does_not_show (program_of p 0) n (suc n) (seen p.types g.root) d fr w t lt (omega (arith, lt))))

-- ---- a nil function

pub there_or_not : {A : Type 0} (o : Option A) (x : A) → o ≡ Some x → IsNone o → ⊥
there_or_not o x e h = let there : is_some o ≡ true = ap is_some e in cc

pub no_number : (v : Value) (g : ℕ) → v ≡ Function g → function_in v ≡ None → ⊥
no_number v g e h = let there : function_in v ≡ Some g = ap function_in e in cc

module _ (p : PackageView) (x : TypedNode) (b : ℕ) (m m1 : Engine) (us : List Value) where
  called_nothing : (n d : ℕ) → us ≡ drop b (views m.values.items) → IsKept m m1 → ((call : ℕ → List Value → Comp) (ws : List Value) → applied call (nth us 0) ws ≡ end_by (Panics NilCall)) →
      outcome (applied (λ k ws. calls p n k ws) (first_above b (views m.values.items)) (drop 1 (drop b (views m.values.items)))) d m.machine ≡ ends (Panics NilCall) m1.machine
  unfolding end_by
  called_nothing n d e h nil = ap (λ (vs : List Value). outcome (applied (λ k ws. calls p n k ws) (nth vs 0) (drop 1 (drop b (views m.values.items)))) d m.machine) (sym e)
      ∙ (ap (λ (c : Comp). outcome c d m.machine) (nil (λ k ws. calls p n k ws) (drop 1 (drop b (views m.values.items)))) ∙ ap (λ (k : Machine). ends (Panics NilCall) k) (sym h.machine))

  apply_is : (n : ℕ) (s : Rest) → Same (works p x b what.Apply n s (views m.values.items)) (then_rest (applied (λ k ws. calls p n k ws) (first_above b (views m.values.items)) (drop 1 (drop b (views m.values.items)))) s (take b (views m.values.items)))
  unfolding task_rest
  apply_is n s d f w t = refl

  pub goes_to_nothing : (e : Exit) → us ≡ drop b (views m.values.items) → views m1.values.items ≡ take b (views m.values.items) → IsKept m m1 → IsCallee us (Err e) → Goes {X = Unit {0}} p (works p x b what.Apply) m (Err e) m1
  goes_to_nothing e eu v h nil = subst (λ (q : Exit). Goes {X = Unit {0}} p (works p x b what.Apply) m (Err q) m1) (sym nil.0)
      (goes_written p (works p x b what.Apply) (λ n. applied (λ k ws. calls p n k ws) (first_above b (views m.values.items)) (drop 1 (drop b (views m.values.items)))) m m1 (take b (views m.values.items)) h.tasks h.depth v (ap (λ (k : Machine). k.turns) h.machine) apply_is
      (Err (exit.Panic panic.NilCall)) (λ n. called_nothing n m.depth eu h nil.1))

-- ---- a function of the package

and_parts : (a b : Bool) → (a && b) ≡ true → (a ≡ true) × (b ≡ true)
and_parts true b e = (refl, e)
and_parts false b e = absurd cc

module _ (n : ℕ) where
  known_sort : (s : Sort ℕ) → sort_has (is_below n) s ≡ true → SortHas (λ t. t < n) s
  known_sort (IsType t) e = ltb-true t n e
  known_sort (trees.Value t) e = ltb-true t n e
  known_sort (Constant t c) e = ltb-true t n e
  known_sort (Results t) e = ltb-true t n e
  known_sort _ e = tt

  mutual
    pub known_tree : (x : Typed ℕ) → every (is_below n) x ≡ true → Every (λ t. t < n) x
    known_tree (typed f i j l ps) e = let h = and_parts (sort_has (is_below n) l.sort) (every_part (is_below n) ps) e in (known_sort l.sort h.0, known_row ps h.1)

    known_row : (ps : Typeds ℕ) → every_part (is_below n) ps ≡ true → EveryPart (λ t. t < n) ps
    known_row none e = tt
    known_row (more x ps) e = let h = and_parts (every (is_below n) x) (every_part (is_below n) ps) e in (known_tree x h.0, known_row ps h.1)
    known_row (skip ps) e = known_row ps e

  known_func : (c : Counts) (f : FuncView) → is_known_func c n f ≡ true → Every (λ t. t < n) (tree_of f)
  known_func c f e =
      let h = and_parts (nat_lt f.signature n && list_all (sort_has (is_below n)) f.locals) (is_known_tree c n (tree_of f)) e in
      known_tree (tree_of f) (and_parts (every (is_below n) (tree_of f)) (every_form (refers_to c) (tree_of f)) h.1).0

module _ (p : PackageView) where
  known_in : (fs : List FuncView) (g : ℕ) (o : Option FuncView) → list_all (is_known_func (counts p) (length p.types.shapes)) fs ≡ true → slice_get fs g ≡ o → IsKnownBody p o
  known_in [] g o a e = subst (IsKnownBody p) e tt
  known_in (f ∷ fs) zero o a e = subst (IsKnownBody p) e (known_func (length p.types.shapes) (counts p) f (and_parts (is_known_func (counts p) (length p.types.shapes) f) (list_all (is_known_func (counts p) (length p.types.shapes)) fs) a).0)
  known_in (f ∷ fs) (suc g) o a e = known_in fs g o (and_parts (is_known_func (counts p) (length p.types.shapes) f) (list_all (is_known_func (counts p) (length p.types.shapes)) fs) a).1 e

  pub known_body : (g : ℕ) (o : Option FuncView) → IsPackage p → slice_get p.functions g ≡ o → IsKnownBody p o
  known_body g o h e = known_in p.functions g o h.known_functions e
