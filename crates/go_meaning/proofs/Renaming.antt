-- Trees and packages with other numbers for locals do the same.
use Rattle.std.proofs.Common.{◌≡◌, ℕ, zero, suc, ◌<◌, List, [], ◌∷◌, refl, sym, ap, ◌∙◌, subst, arith, inl, inr, Option, Some, None, drop, map, replicate, get_or-set_same, get_or-set_other, length-set}
use Rattle.std.proofs.lemmas.List.{length-replicate}
use Rattle.std.proofs.lemmas.Bool.Decides.{eqb_tells}
use Rattle.std.specs.Prelude.{Bool, true, false, length, slice_set, slice_get, if◌then◌else◌}
use Rattle.std.specs.Option.{option_map}
use Rattle.go_grammar.specs.declared.kind.Operator.{Operator}
use Rattle.go_grammar.specs.declared.kind.Operator.TheVariants as operator
use Rattle.go_tree.specs.declared.object.Predeclared.{Predeclared}
use Rattle.go_tree.specs.declared.object.Predeclared.TheVariants as predeclared
use Rattle.go_types.specs.Trees.{TypeTree, array, slice}
use Rattle.go_types.specs.Relations.{Rights}
use Rattle.go_typed.specs.declared.form.Form.{Form}
use Rattle.go_typed.specs.declared.form.Form.TheVariants as form
use Rattle.go_typed.specs.declared.form.Referent.{Referent}
use Rattle.go_typed.specs.declared.form.Referent.TheVariants as referent
use Rattle.go_typed.specs.Trees.{Sort, Constant, OpenConstant, Label, Typed, typed, Typeds, form_of}
use Rattle.go_typed.specs.Trees as trees
use Rattle.go_typed.specs.Forms.{is_default}
use Rattle.go_meaning.specs.Values.{Value, NilFunction, nth}
use Rattle.go_meaning.specs.Computations.{World, Ending, Next, Return, Break, Continue, Fallthrough, Panics, Outcome, Ends, Undecided, output_of}
use Rattle.go_meaning.specs.Operations as does
use Rattle.go_meaning.specs.Plans.{Plan, Give, Local, Declare}
use Rattle.go_meaning.specs.Plans as plans
use Rattle.go_meaning.specs.Planning.{part_at, is_there, sort_type, type_there, sort_there, calls_there, shape_of, shape_at, zero_in, element_of, step_operation, operation, binary_plan, unary_operation, conversion, index_plan, place_of, places_from, places_of, composite_plan, builtin_plan, call_plan, object_plan, default_at, at_most_one, items_of, form_plan, sort_plan}
use Rattle.go_meaning.specs.Meaning.{Code, with_arguments, frame_of, Program, bounded, program, start, run}
use Rattle.go_meaning.specs.Laws.{IsPrefix, IsAlike}
use Rattle.go_meaning.specs.Renaming.{form_renamed, tree_renamed, trees_renamed, IsFormBelow, IsBelow, AreBelow, IsOneToOne, Agree, AreParametersBelow, IsRenamed, AreRenamed}
use Rattle.go_meaning.specs.Renaming as renaming
use Rattle.go_meaning.proofs.Following.{Frames, after}
use Rattle.go_meaning.proofs.Matching.{everywhere}
use Rattle.go_meaning.proofs.Kin.{PlanKin, gives, reads, declares, same, Kin, once, round, AllKin, none, more, skip, Room}
use Rattle.go_meaning.proofs.Programs.{Mate, Mates, neither, both, VariablesKin, ProgramsKin, bounded_follow, program_follows}
use Rattle.go_meaning.proofs.Equal.{EqualValues, first_is, equal, Meet, met_ends, meets_run, prefixes_equal, goes_both}
use Rattle.go_meaning.proofs.Clock.{same_room, kin_itself, program_itself}
use Rattle.go_meaning.proofs.Programs as programs

-- ---- a node's plan sees no numbers of locals among its parts

module _ (r : ℕ → ℕ) where
  part_renamed : (ps : Typeds TypeTree) (n : ℕ) → part_at (trees_renamed r ps) n ≡ option_map (tree_renamed r) (part_at ps n)
  part_renamed trees.none n = refl
  part_renamed (trees.more p ps) zero = refl
  part_renamed (trees.skip ps) zero = refl
  part_renamed (trees.more p ps) (suc n) = part_renamed ps n
  part_renamed (trees.skip ps) (suc n) = part_renamed ps n

  there_same : (o : Option (Typed TypeTree)) → is_there (option_map (tree_renamed r) o) ≡ is_there o
  there_same None = refl
  there_same (Some (typed f i j l ps)) = refl

  sort_same : (o : Option (Typed TypeTree)) → sort_there (option_map (tree_renamed r) o) ≡ sort_there o
  sort_same None = refl
  sort_same (Some (typed f i j l ps)) = refl

  type_same : (o : Option (Typed TypeTree)) → type_there (option_map (tree_renamed r) o) ≡ type_there o
  type_same None = refl
  type_same (Some (typed f i j l ps)) = refl

  calls_same : (o : Option (Typed TypeTree)) → calls_there (option_map (tree_renamed r) o) ≡ calls_there o
  calls_same None = refl
  calls_same (Some (typed f i j l ps)) = refl

  there_at : (ps : Typeds TypeTree) (n : ℕ) → is_there (part_at ps n) ≡ is_there (part_at (trees_renamed r ps) n)
  there_at ps n = sym (ap is_there (part_renamed ps n) ∙ there_same (part_at ps n))

  sort_at : (ps : Typeds TypeTree) (n : ℕ) → sort_there (part_at ps n) ≡ sort_there (part_at (trees_renamed r ps) n)
  sort_at ps n = sym (ap sort_there (part_renamed ps n) ∙ sort_same (part_at ps n))

  type_at : (ps : Typeds TypeTree) (n : ℕ) → type_there (part_at ps n) ≡ type_there (part_at (trees_renamed r ps) n)
  type_at ps n = sym (ap type_there (part_renamed ps n) ∙ type_same (part_at ps n))

  calls_at : (ps : Typeds TypeTree) (n : ℕ) → calls_there (part_at ps n) ≡ calls_there (part_at (trees_renamed r ps) n)
  calls_at ps n = sym (ap calls_there (part_renamed ps n) ∙ calls_same (part_at ps n))

  shape_same : (rights : Rights) (ps : Typeds TypeTree) (n : ℕ) → shape_at rights ps n ≡ shape_at rights (trees_renamed r ps) n
  shape_same rights ps n = ap (shape_of rights) (type_at ps n)

  default_form : (f : Form) → is_default (form_renamed r f) ≡ is_default f
  default_form form.Default = refl
  default_form f = refl

  default_same : (ps : Typeds TypeTree) → default_at (trees_renamed r ps) ≡ default_at ps
  default_same trees.none = refl
  default_same (trees.more (typed f i j l qs) ps) = ap (λ b. if b then 0 else suc (default_at (trees_renamed r ps))) (default_form f) ∙ ap (λ n. if is_default f then 0 else suc n) (default_same ps)
  default_same (trees.skip ps) = ap suc (default_same ps)

  place_form : (f : Form) (k : ℕ) → place_of (form_renamed r f) k ≡ place_of f k
  place_form (form.Keyed n) k = refl
  place_form f k = refl

  places_same : (k : ℕ) (ps : Typeds TypeTree) → places_from k (trees_renamed r ps) ≡ places_from k ps
  places_same k trees.none = refl
  places_same k (trees.more (typed f i j l qs) ps) = ap (λ n. n ∷ places_from (suc k) (trees_renamed r ps)) (place_form f k) ∙ ap (λ ns. place_of f k ∷ ns) (places_same (suc k) ps)
  places_same k (trees.skip ps) = places_same (suc k) ps

  all_places_same : (ps : Typeds TypeTree) → places_of ps ≡ places_of (trees_renamed r ps)
  all_places_same trees.none = refl
  all_places_same (trees.more p ps) = sym (places_same 0 ps)
  all_places_same (trees.skip ps) = sym (places_same 0 ps)

  composite_same : (rights : Rights) (t u : TypeTree) (ps : Typeds TypeTree) → composite_plan rights t u ps ≡ composite_plan rights t u (trees_renamed r ps)
  composite_same rights t (slice e) ps = refl
  composite_same rights t u ps = ap (λ ns. plans.Perform (does.Build (zero_in rights t) ns)) (all_places_same ps)

  builtin_same : (rights : Rights) (b : Predeclared) (ps : Typeds TypeTree) → builtin_plan rights b ps ≡ builtin_plan rights b (trees_renamed r ps)
  builtin_same rights predeclared.Make ps = ap (λ t. plans.Perform (does.MakeSlice (zero_in rights (element_of t)))) (shape_same rights ps 1)
  builtin_same rights predeclared.Append ps = ap (λ t. plans.Perform (does.Append (zero_in rights (element_of t)))) (shape_same rights ps 1)
  builtin_same rights b ps = refl

  call_by_sort : (rights : Rights) (s : Sort TypeTree) (ps : Typeds TypeTree) → call_plan rights s ps ≡ call_plan rights s (trees_renamed r ps)
  call_by_sort rights (trees.Builtin b) ps = builtin_same rights b ps
  call_by_sort rights s ps = refl

  plan_same : (rights : Rights) (f : Form) (t : TypeTree) (ps : Typeds TypeTree) → form_plan rights f t ps ≡ form_plan rights f t (trees_renamed r ps)
  plan_same rights (form.Step s) t ps = ap (λ u. plans.StepBy (step_operation s u)) (shape_same rights ps 0)
  plan_same rights (form.Operate o) t ps = ap (λ u. plans.OperateBy (operation o u)) (shape_same rights ps 0)
  plan_same rights (form.Specified n) t ps = ap (λ b. if b then plans.AssignTo n else plans.ZeroTo n (zero_in rights (type_there (part_at ps n)))) (there_at ps (suc n)) ∙ ap (λ u. if is_there (part_at (trees_renamed r ps) (suc n)) then plans.AssignTo n else plans.ZeroTo n (zero_in rights u)) (type_at ps n)
  plan_same rights form.Switch t ps = ap (λ b. plans.Select b (default_at ps)) (there_at ps 1) ∙ ap (plans.Select (is_there (part_at (trees_renamed r ps) 1))) (sym (default_same ps))
  plan_same rights (form.Range defines n) t ps = ap (λ b. plans.Iterate n (items_of (at_most_one n) b (shape_at rights ps n))) (calls_at ps n) ∙ ap (λ u. plans.Iterate n (items_of (at_most_one n) (calls_there (part_at (trees_renamed r ps) n)) u)) (shape_same rights ps n)
  plan_same rights form.Index t ps = ap index_plan (shape_same rights ps 0)
  plan_same rights form.Slice t ps = ap (λ b. plans.Perform (does.Cut b (is_there (part_at ps 2)))) (there_at ps 1) ∙ ap (λ b. plans.Perform (does.Cut (is_there (part_at (trees_renamed r ps) 1)) b)) (there_at ps 2)
  plan_same rights form.Call t ps = ap (λ s. call_plan rights s ps) (sort_at ps 0) ∙ call_by_sort rights (sort_there (part_at (trees_renamed r ps) 0)) ps
  plan_same rights form.Conversion t ps = ap (λ u. plans.Perform (conversion (shape_of rights t) u)) (shape_same rights ps 1)
  plan_same rights form.Composite t ps = composite_same rights t (shape_of rights t) ps
  plan_same rights (form.Unary s) t ps = ap (λ u. plans.Perform (unary_operation s u)) (shape_same rights ps 0)
  plan_same rights (form.Binary o) t ps = ap (binary_plan o) (shape_same rights ps 0)
  plan_same rights f t ps = refl

-- ---- plans that name no local

abbrev is_nameless : Plan → Bool
is_nameless (Local n) = false
is_nameless (Declare n) = false
is_nameless p = true

nameless_kin : {linked : ℕ → ℕ → Type 0} (p : Plan) → is_nameless p ≡ true → PlanKin EqualValues linked p p
nameless_kin (Give v) e = gives refl
nameless_kin (Local n) e = absurd cc
nameless_kin (Declare n) e = absurd cc
nameless_kin p e = same p refl

specified_nameless : (b : Bool) (p q : Plan) → is_nameless p ≡ true → is_nameless q ≡ true → is_nameless (if b then p else q) ≡ true
specified_nameless true p q h k = h
specified_nameless false p q h k = k

object_nameless : (rights : Rights) (o : Referent) (t : TypeTree) → is_nameless (object_plan rights o t) ≡ true
object_nameless rights (referent.Variable n) t = refl
object_nameless rights (referent.Function n) t = refl
object_nameless rights (referent.Constant n) t = refl
object_nameless rights (referent.Type n) t = refl
object_nameless rights referent.Println t = refl
object_nameless rights (referent.Predeclared predeclared.Nil) t = refl
object_nameless rights (referent.Predeclared b) t = refl

index_nameless : (t : TypeTree) → is_nameless (index_plan t) ≡ true
index_nameless (array n t) = refl
index_nameless (slice t) = refl
index_nameless t = refl

builtin_nameless : (rights : Rights) (b : Predeclared) (ps : Typeds TypeTree) → is_nameless (builtin_plan rights b ps) ≡ true
builtin_nameless rights predeclared.Len ps = refl
builtin_nameless rights b ps = refl

call_nameless : (rights : Rights) (s : Sort TypeTree) (ps : Typeds TypeTree) → is_nameless (call_plan rights s ps) ≡ true
call_nameless rights (trees.Builtin b) ps = builtin_nameless rights b ps
call_nameless rights s ps = refl

composite_nameless : (rights : Rights) (t u : TypeTree) (ps : Typeds TypeTree) → is_nameless (composite_plan rights t u ps) ≡ true
composite_nameless rights t (slice e) ps = refl
composite_nameless rights t u ps = refl

binary_nameless : (o : Operator) (t : TypeTree) → is_nameless (binary_plan o t) ≡ true
binary_nameless operator.Either t = refl
binary_nameless operator.Both t = refl
binary_nameless (operator.Compare c) t = refl
binary_nameless (operator.Compute o) t = refl

abbrev is_name : Form → Bool
is_name (form.Local i) = true
is_name (form.New i) = true
is_name (form.Declared i) = true
is_name f = false

plan_nameless : (rights : Rights) (f : Form) (t : TypeTree) (ps : Typeds TypeTree) → is_name f ≡ false → is_nameless (form_plan rights f t ps) ≡ true
plan_nameless rights (form.Local i) t ps e = absurd cc
plan_nameless rights (form.New i) t ps e = absurd cc
plan_nameless rights (form.Declared i) t ps e = absurd cc
plan_nameless rights (form.Specified n) t ps e = specified_nameless (is_there (part_at ps (suc n))) (plans.AssignTo n) (plans.ZeroTo n (zero_in rights (type_there (part_at ps n)))) refl refl
plan_nameless rights (form.Object o) t ps e = object_nameless rights o t
plan_nameless rights form.Index t ps e = index_nameless (shape_at rights ps 0)
plan_nameless rights form.Call t ps e = call_nameless rights (sort_there (part_at ps 0)) ps
plan_nameless rights form.Composite t ps e = composite_nameless rights t (shape_of rights t) ps
plan_nameless rights (form.Binary o) t ps e = binary_nameless o (shape_at rights ps 0)
plan_nameless rights f t ps e = refl

sort_kin : {linked : ℕ → ℕ → Type 0} {p p' : Plan} (s : Sort TypeTree) → PlanKin EqualValues linked p p' → PlanKin EqualValues linked (sort_plan s p) (sort_plan s p')
sort_kin (Constant t c) k = gives refl
sort_kin (OpenConstant c) k = gives refl
sort_kin s k = k

-- ---- trees

module _ (n : ℕ) (r : ℕ → ℕ) where
  abbrev pub Renames : ℕ → ℕ → Type 0
  Renames i j = (i < n) × (r i ≡ j)

  same_kin : (rights : Rights) (f : Form) (s : Sort TypeTree) (ps : Typeds TypeTree) → is_name f ≡ false → PlanKin EqualValues Renames (sort_plan s (form_plan rights f (sort_type s) ps)) (sort_plan s (form_plan rights f (sort_type s) (trees_renamed r ps)))
  same_kin rights f s ps e = sort_kin s (subst (PlanKin EqualValues Renames (form_plan rights f (sort_type s) ps)) (plan_same r rights f (sort_type s) ps) (nameless_kin (form_plan rights f (sort_type s) ps) (plan_nameless rights f (sort_type s) ps e)))

  module _ (rights : Rights) where
    mutual
      pub kin_renamed : (t : Typed TypeTree) → IsBelow n t → Kin EqualValues Renames rights rights t (tree_renamed r t)
      kin_renamed (typed form.For i j l ps) h = round (all_kin_renamed ps h.1)
      kin_renamed (typed (form.Local k) i j l ps) h = once (sort_plan l.sort (Local k)) (sort_plan l.sort (Local (r k))) refl refl (sort_kin l.sort (reads (h.0, refl))) (all_kin_renamed ps h.1)
      kin_renamed (typed (form.New k) i j l ps) h = once (sort_plan l.sort (Declare k)) (sort_plan l.sort (Declare (r k))) refl refl (sort_kin l.sort (declares (h.0, refl))) (all_kin_renamed ps h.1)
      kin_renamed (typed (form.Declared k) i j l ps) h = once (sort_plan l.sort (Declare k)) (sort_plan l.sort (Declare (r k))) refl refl (sort_kin l.sort (declares (h.0, refl))) (all_kin_renamed ps h.1)
      kin_renamed (typed f i j l ps) h = once (sort_plan l.sort (form_plan rights f (sort_type l.sort) ps)) (sort_plan l.sort (form_plan rights f (sort_type l.sort) (trees_renamed r ps))) refl refl (same_kin rights f l.sort ps refl) (all_kin_renamed ps h.1)

      pub all_kin_renamed : (ps : Typeds TypeTree) → AreBelow n ps → AllKin EqualValues Renames rights rights ps (trees_renamed r ps)
      all_kin_renamed trees.none h = none
      all_kin_renamed (trees.more p ps) h = more (kin_renamed p h.0) (all_kin_renamed ps h.1)
      all_kin_renamed (trees.skip ps) h = skip (all_kin_renamed ps h)

  -- ---- frames

  pub agree_write : IsOneToOne n r → (i j : ℕ) → Renames i j → (v v' : Value) → v ≡ v' → (f f' : List Value) → Agree n r f f' → Agree n r (slice_set f i v) (slice_set f' j v')
  agree_write one i j h v v' e f f' a = record {
    holds = omega (arith, a.holds, length-set f i v);
    fits = λ k lt. omega (arith, a.fits k lt, length-set f' j v');
    same = λ k lt. elim (eqb_tells k i) [ inl x ↦ at_it k x.1 | inr x ↦ elsewhere k lt x.1 ];
  }
    where
      in_old : i < length f
      in_old = omega (arith, h.0, a.holds)

      in_new : j < length f'
      in_new = subst (λ x. x < length f') h.1 (a.fits i h.0)

      at_it : (k : ℕ) → k ≡ i → nth (slice_set f i v) k ≡ nth (slice_set f' j v') (r k)
      at_it k x = ap (nth (slice_set f i v)) x ∙ get_or-set_same f i v NilFunction in_old ∙ e ∙ sym (get_or-set_same f' j v' NilFunction in_new) ∙ ap (nth (slice_set f' j v')) (sym h.1 ∙ ap r (sym x))

      elsewhere : (k : ℕ) → k < n → (k ≡ i → ⊥) → nth (slice_set f i v) k ≡ nth (slice_set f' j v') (r k)
      elsewhere k lt x = get_or-set_other f i k v NilFunction x ∙ a.same k lt ∙ sym (get_or-set_other f' j (r k) v' NilFunction (λ y. x (one k i lt h.0 (y ∙ sym h.1))))

  abbrev pub room : IsOneToOne n r → Room equal
  room one = record {
    linked = Renames;
    frames = Agree n r;
    reads = λ i j h f f' a. ap (λ v. v ∷ []) (a.same i h.0 ∙ ap (nth f') h.1);
    writes = λ i j h v v' e f f' a. agree_write one i j h v v' (first_is v v' e) f f' a;
  }

  with_agree : (one : IsOneToOne n r) (ps : List (Option ℕ)) (vs f f' : List Value) → AreParametersBelow n ps → Agree n r f f' → Agree n r (with_arguments ps vs f) (with_arguments (map (option_map r) ps) vs f')
  with_agree one [] vs f f' h a = a
  with_agree one (None ∷ ps) vs f f' h a = with_agree one ps (drop 1 vs) f f' h a
  with_agree one (Some i ∷ ps) vs f f' h a = with_agree one ps (drop 1 vs) (slice_set f i (nth vs 0)) (slice_set f' (r i) (nth vs 0)) h.1 (agree_write one i (r i) (h.0, refl) (nth vs 0) (nth vs 0) refl f f' a)

nothing_at : (n i : ℕ) → nth (replicate n NilFunction) i ≡ NilFunction
nothing_at zero i = refl
nothing_at (suc n) zero = refl
nothing_at (suc n) (suc i) = nothing_at n i

start_agree : (n n' : ℕ) (r : ℕ → ℕ) → ((i : ℕ) → i < n → r i < n') → Agree n r (replicate n NilFunction) (replicate n' NilFunction)
start_agree n n' r h = record {
  holds = omega (arith, length-replicate n NilFunction);
  fits = λ i lt. omega (arith, h i lt, length-replicate n' NilFunction);
  same = λ i lt. nothing_at n i ∙ sym (nothing_at n' (r i));
}

-- ---- the other way round

flip_plan : {linked : ℕ → ℕ → Type 0} {p p' : Plan} → PlanKin EqualValues linked p p' → PlanKin EqualValues (λ j i. linked i j) p' p
flip_plan (gives e) = gives (sym e)
flip_plan (reads e) = reads e
flip_plan (declares e) = declares e
flip_plan (same p e) = same p e

mutual
  pub flip_kin : {linked : ℕ → ℕ → Type 0} {rights rights' : Rights} {t t' : Typed TypeTree} → Kin EqualValues linked rights rights' t t' → Kin EqualValues (λ j i. linked i j) rights' rights t' t
  flip_kin (once p p' e e' k all) = once p' p e' e (flip_plan k) (flip_all all)
  flip_kin (round all) = round (flip_all all)

  pub flip_all : {linked : ℕ → ℕ → Type 0} {rights rights' : Rights} {ts ts' : Typeds TypeTree} → AllKin EqualValues linked rights rights' ts ts' → AllKin EqualValues (λ j i. linked i j) rights' rights ts' ts
  flip_all none = none
  flip_all (more h hs) = more (flip_kin h) (flip_all hs)
  flip_all (skip hs) = skip (flip_all hs)

abbrev pub flip_room : Room equal → Room equal
flip_room R = record {
  linked = λ j i. R.linked i j;
  frames = λ f' f. R.frames f f';
  reads = λ j i h f' f a. sym (R.reads i j h f f' a);
  writes = λ j i h v' v e f' f a. R.writes i j h v v' (sym e) f f' a;
}

-- ---- packages

mate_of : (P P' : Program) → P'.rights ≡ P.rights → (g g' : Code) → IsRenamed g g' → Mate equal P P' g g'
mate_of P P' e g g' h = record {
  room = room g.locals h.new h.one_to_one;
  bodies = subst (λ x. Kin EqualValues (Renames g.locals h.new) P.rights x g.body g'.body) (sym e) (subst (λ b. Kin EqualValues (Renames g.locals h.new) P.rights P.rights g.body b) (sym h.body) (kin_renamed g.locals h.new P.rights g.body h.body_below));
  frames = λ vs vs' v. subst (λ x. Agree g.locals h.new (frame_of g vs) (frame_of g' x)) v (subst (λ ps. Agree g.locals h.new (frame_of g vs) (with_arguments ps vs (replicate g'.locals NilFunction))) (sym h.parameters)
      (with_agree g.locals h.new h.one_to_one g.parameters vs (replicate g.locals NilFunction) (replicate g'.locals NilFunction) h.parameters_below (start_agree g.locals g'.locals h.new h.fits)));
}

flip_mate : {P P' : Program} {g g' : Code} → Mate equal P P' g g' → Mate equal P' P g' g
flip_mate m = record { room = flip_room m.room; bodies = flip_kin m.bodies; frames = λ vs' vs v. m.frames vs vs' (sym v) }

flip_mates : {P P' : Program} {o o' : Option Code} → Mates equal P P' o o' → Mates equal P' P o' o
flip_mates neither = neither
flip_mates (both m) = both (flip_mate m)

mates_at : (P P' : Program) → P'.rights ≡ P.rights → {gs gs' : List Code} → AreRenamed gs gs' → (g : ℕ) → Mates equal P P' (slice_get gs g) (slice_get gs' g)
mates_at P P' e renaming.nothing g = neither
mates_at P P' e (renaming.also x x' xs xs' h hs) zero = both (mate_of P P' e x x' h)
mates_at P P' e (renaming.also x x' xs xs' h hs) (suc g) = mates_at P P' e hs g

module _ (P : Program) (functions : List Code) (h : AreRenamed P.functions functions) where
  abbrev Other : Program
  Other = record P { functions = functions }

  there : ProgramsKin equal P Other
  there = record {
    outer = same_room;
    starts = refl;
    variables = variables_themselves_in P.variables;
    functions = λ g g' e. subst (λ k. Mates equal P Other (slice_get P.functions g) (slice_get functions k)) e (mates_at P Other refl h g);
    mains = mates_at P Other refl h P.main;
  }
    where
      variables_themselves_in : (ts : List (Typed TypeTree)) → VariablesKin equal same_room.linked P Other ts ts
      variables_themselves_in [] = programs.none
      variables_themselves_in (t ∷ ts) = programs.more (kin_itself (λ i j. i ≡ j) (λ i. refl) P.rights t) (variables_themselves_in ts)

  back : ProgramsKin equal Other P
  back = record {
    outer = same_room;
    starts = refl;
    variables = variables_themselves_in P.variables;
    functions = λ g g' e. subst (λ k. Mates equal Other P (slice_get functions g) (slice_get P.functions k)) e (flip_mates (mates_at P Other refl h g));
    mains = flip_mates (mates_at P Other refl h P.main);
  }
    where
      variables_themselves_in : (ts : List (Typed TypeTree)) → VariablesKin equal same_room.linked Other P ts ts
      variables_themselves_in [] = programs.none
      variables_themselves_in (t ∷ ts) = programs.more (kin_itself (λ i j. i ≡ j) (λ i. refl) P.rights t) (variables_themselves_in ts)

  -- each run is the same
  pub run_renamed : (input : List ℕ) (turns depth : ℕ) → run Other input turns depth ≡ run P input turns depth
  unfolding there back
  run_renamed input turns depth =
      let forward = program_follows equal 1 1 0 (omega arith) (omega arith) P Other there (suc turns) (suc turns) (omega arith) in
      let backward = program_follows equal 1 1 0 (omega arith) (omega arith) Other P back (suc turns) (suc turns) (omega arith) in
      sym (goes_both (run P input turns depth) (run Other input turns depth)
      (meets_run same_room.frames turns turns (program Other (suc turns) depth [] (start P input)) (program P (suc turns) depth [] (start P input) turns) (omega arith) (forward.by depth depth [] [] (start P input) (start P input) turns refl refl (omega arith)))
      (meets_run same_room.frames turns turns (program P (suc turns) depth [] (start P input)) (program Other (suc turns) depth [] (start P input) turns) (omega arith) (backward.by depth depth [] [] (start P input) (start P input) turns refl refl (omega arith))))

-- ---- one tree

alike_ends : (R : Frames) (e : Ending) (f f' : List Value) (w : World) (left : ℕ) (new : Outcome) → after R (everywhere equal 1 1 0 R) e f f' → new ≡ Ends e f' w left → IsAlike R (Ends e f w left) new
alike_ends R (Next vs) f f' w left new a h = (f', a, h)
alike_ends R (Return vs) f f' w left new a h = (f', a, h)
alike_ends R Break f f' w left new a h = (f', a, h)
alike_ends R Continue f f' w left new a h = (f', a, h)
alike_ends R Fallthrough f f' w left new a h = (f', a, h)
alike_ends R (Panics p) f f' w left new a h = (f', h)

abbrev left_of : Outcome → ℕ
left_of (Ends e f w left) = left
left_of (Undecided o) = 0

abbrev is_decided : Outcome → Bool
is_decided (Ends e f w left) = true
is_decided (Undecided o) = false

met_both_ways : (R : Frames) (t : ℕ) (new old : ℕ → Outcome) (a b : Outcome) → old t ≡ a → new t ≡ b → Meet R t new a → Meet (λ f' f. R f f') t old b → IsAlike R a b
met_both_ways R t new old (Ends e f w left) b p q h k =
    let x = met_ends R t t left e f w new (omega arith) h in
    let is : b ≡ Ends e x.0 w x.1 = sym q ∙ x.4 in
    let y = met_ends (λ f' f1. R f1 f') t t x.1 e x.0 w old (omega arith) (subst (Meet (λ f' f1. R f1 f') t old) is k) in
    let kept : left ≡ y.1 = ap left_of (sym p ∙ y.4) in
    let same_left : x.1 ≡ left = omega (arith, x.3, y.3, kept) in
    alike_ends R e f x.0 w left b x.2 (is ∙ ap (Ends e x.0 w) same_left)
met_both_ways R t new old (Undecided o) (Ends e f w left) p q h k =
    let y = met_ends (λ f' f1. R f1 f') t t left e f w old (omega arith) k in
    let wrong : false ≡ true = ap is_decided (sym p ∙ y.4) in
    absurd cc
met_both_ways R t new old (Undecided o) (Undecided o') p q h k =
    ap Undecided (sym (prefixes_equal o o' (subst (λ x. IsPrefix o (output_of x)) q (h t (omega arith))) (subst (λ x. IsPrefix o' (output_of x)) p (k t (omega arith)))))

pub tree_alike : (P : Program) (bound n : ℕ) (r : ℕ → ℕ) (t : Typed TypeTree) (d : ℕ) (f f' : List Value) (w : World) (turns : ℕ) → IsOneToOne n r → IsBelow n t → Agree n r f f' → IsAlike (Agree n r) (bounded P bound t d f w turns) (bounded P bound (tree_renamed r t) d f' w turns)
tree_alike P bound n r t d f f' w turns one below a =
    let kin = kin_renamed n r P.rights t below in
    let forward = bounded_follow equal 1 1 0 (omega arith) (omega arith) P P (program_itself P) bound bound (omega arith) (room n r one) t (tree_renamed r t) kin in
    let backward = bounded_follow equal 1 1 0 (omega arith) (omega arith) P P (program_itself P) bound bound (omega arith) (flip_room (room n r one)) (tree_renamed r t) t (flip_kin kin) in
    met_both_ways (Agree n r) turns (bounded P bound (tree_renamed r t) d f' w) (bounded P bound t d f w) (bounded P bound t d f w turns) (bounded P bound (tree_renamed r t) d f' w turns) refl refl
    (forward.by d d f f' w w turns refl a (omega arith)) (backward.by d d f' f w w turns refl a (omega arith))
