-- Expressions are lexically scoped where the locals that are read in them are in scope.
use Rattle.std.proofs.Common.{◌≡◌, ◌∙◌, ℕ, zero, suc, ◌⊎◌, inl, inr, Bool, true, false, List, refl, sym, ap, subst}
use Rattle.go_grammar.specs.declared.kind.Operator.{Operator}
use Rattle.go_grammar.specs.declared.kind.Operator.TheVariants as operator
use Rattle.go_tree.specs.declared.object.Predeclared.{Predeclared}
use Rattle.go_tree.specs.declared.object.Predeclared.TheVariants as predeclared
use Rattle.go_types.specs.Trees.{TypeTree, array, slice}
use Rattle.go_types.specs.Relations.{Rights}
use Rattle.go_typed.specs.declared.form.Form.{Form}
use Rattle.go_typed.specs.declared.form.Form.TheVariants as form
use Rattle.go_typed.specs.declared.form.Referent.{Referent}
use Rattle.go_typed.specs.declared.form.Referent.TheVariants as referent
use Rattle.go_typed.specs.Trees.{Sort, Constant, OpenConstant, Builtin, Println, Label, Typed, typed, Typeds}
use Rattle.go_typed.specs.Trees as trees
use Rattle.go_meaning.specs.Values.{Value, const_value}
use Rattle.go_meaning.specs.Plans.{Plan, Give, Once}
use Rattle.go_meaning.specs.Planning.{sort_type, shape_of, shape_at, sort_there, part_at, composite_plan, builtin_plan, call_plan, object_plan, binary_plan, index_plan, form_plan, sort_plan, plan}
use Rattle.go_meaning_simulation.specs.Kin.{is_inner, first_alone, modes}
use Rattle.go_meaning_simulation.specs.Locals.{In}
use Rattle.extract_runs.specs.Lexical.{Locals, lexical_links}
use Rattle.extract_runs.specs.Sound.{is_plain, SoundExpression, SoundExpressions}
use Rattle.extract_runs.specs.Sound as sound
use Rattle.go_stmts_scopes.specs.Runs.{is_leaf, holds_expressions, IsExpression, AreExpressions, is_given, Unless, LocalHas, EachRead, AllRead, is_array, is_part, PlaceHas, EachPlaced, FirstPlaced}

-- ---- plans

-- a constant
given_plan : (x : Sort TypeTree) (p : Plan) → is_given x ≡ true → (v : Value) × (sort_plan x p ≡ Give v)
given_plan (Constant t c) p e = (const_value c, refl)
given_plan (OpenConstant c) p e = (const_value c, refl)
given_plan x p e = absurd cc

pub open_plan : (x : Sort TypeTree) (p : Plan) → is_given x ≡ false → sort_plan x p ≡ p
open_plan (Constant t c) p e = absurd cc
open_plan (OpenConstant c) p e = absurd cc
open_plan x p e = refl

leaf_course : (rights : Rights) (f : Form) (l : Label TypeTree) (ps : Typeds TypeTree) → is_leaf f ≡ true → plan rights f l ps ≡ Once (sort_plan l.sort (form_plan rights f (sort_type l.sort) ps))
leaf_course rights form.For l ps e = absurd cc
leaf_course rights f l ps e = refl

inner_course : (rights : Rights) (f : Form) (l : Label TypeTree) (ps : Typeds TypeTree) → holds_expressions f ≡ true → plan rights f l ps ≡ Once (sort_plan l.sort (form_plan rights f (sort_type l.sort) ps))
inner_course rights form.For l ps e = absurd cc
inner_course rights f l ps e = refl

-- the modes of a plan that has no place among its parts
abbrev HasValues : Plan → Bool → Type 0
HasValues p b = (k : ℕ) → modes p b k ≡ false

-- how a plan runs the parts of an expression: not at all, all for their values, or the first as a place
data Runs (p : Plan) : Bool → Type 0 where
  nothing : {b : Bool} → is_plain p ≡ true → Runs p b
  values : {b : Bool} → is_inner p ≡ true → HasValues p true → HasValues p false → Runs p b
  first : is_inner p ≡ true → ((k : ℕ) → modes p true k ≡ first_alone true k) → HasValues p false → Runs p true

alone_none : (k : ℕ) → first_alone false k ≡ false
alone_none zero = refl
alone_none (suc k) = refl

by_composite : (rights : Rights) (t u : TypeTree) (ps : Typeds TypeTree) → Runs (composite_plan rights t u ps) false
by_composite rights t (slice e) ps = values refl (λ k. refl) (λ k. refl)
by_composite rights t u ps = values refl (λ k. refl) (λ k. refl)

by_builtin : (rights : Rights) (b : Predeclared) (ps : Typeds TypeTree) → Runs (builtin_plan rights b ps) false
by_builtin rights predeclared.Len ps = values refl (λ k. refl) (λ k. refl)
by_builtin rights predeclared.Cap ps = values refl (λ k. refl) (λ k. refl)
by_builtin rights predeclared.Make ps = values refl (λ k. refl) (λ k. refl)
by_builtin rights predeclared.Append ps = values refl (λ k. refl) (λ k. refl)
by_builtin rights predeclared.Copy ps = values refl (λ k. refl) (λ k. refl)
by_builtin rights predeclared.Min ps = values refl (λ k. refl) (λ k. refl)
by_builtin rights predeclared.Max ps = values refl (λ k. refl) (λ k. refl)
by_builtin rights predeclared.Panic ps = values refl (λ k. refl) (λ k. refl)
by_builtin rights b ps = nothing refl

by_call : (rights : Rights) (x : Sort TypeTree) (ps : Typeds TypeTree) → Runs (call_plan rights x ps) false
by_call rights Println ps = values refl (λ k. refl) (λ k. refl)
by_call rights (Builtin b) ps = by_builtin rights b ps
by_call rights x ps = values refl (λ k. refl) (λ k. refl)

by_operator : (o : Operator) (t : TypeTree) → Runs (binary_plan o t) false
by_operator operator.Either t = values refl (λ k. refl) (λ k. refl)
by_operator operator.Both t = values refl (λ k. refl) (λ k. refl)
by_operator (operator.Compare c) t = values refl (λ k. refl) (λ k. refl)
by_operator (operator.Compute o) t = values refl (λ k. refl) (λ k. refl)

-- of no place all parts are run for their values
as_place : (p : Plan) → Runs p false → Runs p true
as_place p (nothing e) = nothing e
as_place p (values e f g) = values e f g

-- what is run of an expression that holds others, and of a place that is a part of its first part
abbrev RunsBy : Bool → Plan → Type 0
RunsBy true p = (is_inner p ≡ true) × ((k : ℕ) → modes p true k ≡ first_alone true k) × HasValues p false
RunsBy false p = Runs p false

by_index : (t : TypeTree) → RunsBy (is_array t) (index_plan t)
by_index (array n t) = (refl, λ k. refl, alone_none)
by_index (slice t) = values refl (λ k. refl) (λ k. refl)
by_index t = values refl (λ k. refl) (λ k. refl)

by_form : (rights : Rights) (f : Form) (t : TypeTree) (ps : Typeds TypeTree) → holds_expressions f ≡ true → RunsBy (is_part rights f ps) (form_plan rights f t ps)
by_form rights form.Parenthesized t ps e = (refl, λ k. refl, alone_none)
by_form rights (form.Selector n) t ps e = (refl, λ k. refl, alone_none)
by_form rights form.Index t ps e = by_index (shape_at rights ps 0)
by_form rights form.Slice t ps e = values refl (λ k. refl) (λ k. refl)
by_form rights form.Call t ps e = by_call rights (sort_there (part_at ps 0)) ps
by_form rights form.Conversion t ps e = values refl (λ k. refl) (λ k. refl)
by_form rights form.Composite t ps e = by_composite rights t (shape_of rights t) ps
by_form rights (form.Unary o) t ps e = values refl (λ k. refl) (λ k. refl)
by_form rights (form.Binary o) t ps e = by_operator o (shape_at rights ps 0)
by_form rights (form.Keyed n) t ps e = (refl, λ k. refl, alone_none)
by_form rights f t ps e = absurd cc

-- for its value
run_value : (b : Bool) (p : Plan) → RunsBy b p → (is_plain p ≡ true) ⊎ ((is_inner p ≡ true) × HasValues p false)
run_value true p h = inr (h.0, h.2)
run_value false p (nothing e) = inl e
run_value false p (values e f g) = inr (e, g)

-- ---- what is declared outside

data Outer (p : Plan) : Type 0 where
  gives : (v : Value) → p ≡ Give v → Outer p
  plain : is_plain p ≡ true → Outer p

by_object : (rights : Rights) (r : Referent) (t : TypeTree) → Outer (object_plan rights r t)
by_object rights (referent.Variable n) t = plain refl
by_object rights (referent.Function n) t = gives _ refl
by_object rights (referent.Predeclared predeclared.Nil) t = gives _ refl
by_object rights (referent.Predeclared b) t = plain refl
by_object rights r t = plain refl

-- ---- scopes

module _ (n : Locals) (rights : Rights) (local : ℕ → ℕ) (gone : ℕ → Bool) (s : List ℕ) where
  abbrev IsSound : Bool → Typed TypeTree → Type 0
  IsSound = SoundExpression (lexical_links n) rights local gone s

  abbrev AreSound : (ℕ → Bool) → Typeds TypeTree → Type 0
  AreSound = SoundExpressions (lexical_links n) rights local gone s

  -- in scope
  abbrev pub Reads : ℕ → Type 0
  Reads k = In k s × n.named k

  leaf_open : (f : Form) (i j : ℕ) (l : Label TypeTree) (ps : Typeds TypeTree) → is_leaf f ≡ true → plan rights f l ps ≡ Once (form_plan rights f (sort_type l.sort) ps) → LocalHas Reads f → IsSound false (typed f i j l ps)
  leaf_open (form.Local k) i j l ps e d h = sound.reads d h
  leaf_open (form.Object r) i j l ps e d h = by (by_object rights r (sort_type l.sort))
    where
      by : Outer (object_plan rights r (sort_type l.sort)) → IsSound false (typed (form.Object r) i j l ps)
      by (gives v g) = sound.gives (d ∙ ap Once g)
      by (plain g) = sound.plain (object_plan rights r (sort_type l.sort)) d g
  leaf_open form.Blank i j l ps e d h = sound.plain _ d refl
  leaf_open form.Literal i j l ps e d h = sound.plain _ d refl
  leaf_open form.Type i j l ps e d h = sound.plain _ d refl
  leaf_open (form.Held k) i j l ps e d h = sound.plain _ d refl
  leaf_open f i j l ps e d h = absurd cc

  unless_open : (b : Bool) (T : Type 0) → b ≡ false → Unless b T → T
  unless_open true T e h = absurd cc
  unless_open false T e h = h

  inner_leaf : (f : Form) → holds_expressions f ≡ true → is_leaf f ≡ false
  inner_leaf form.Parenthesized e = refl
  inner_leaf (form.Selector k) e = refl
  inner_leaf form.Index e = refl
  inner_leaf form.Slice e = refl
  inner_leaf form.Call e = refl
  inner_leaf form.Conversion e = refl
  inner_leaf form.Composite e = refl
  inner_leaf (form.Unary o) e = refl
  inner_leaf (form.Binary o) e = refl
  inner_leaf (form.Keyed k) e = refl
  inner_leaf f e = absurd cc

  inner_open : (f : Form) (i j : ℕ) (l : Label TypeTree) (ps : Typeds TypeTree) → holds_expressions f ≡ true → plan rights f l ps ≡ Once (form_plan rights f (sort_type l.sort) ps)
      → ((m : ℕ → Bool) → ((k : ℕ) → m k ≡ false) → AreSound m ps) → IsSound false (typed f i j l ps)
  inner_open f i j l ps e d go = by (run_value (is_part rights f ps) (form_plan rights f (sort_type l.sort) ps) (by_form rights f (sort_type l.sort) ps e))
    where
      by : (is_plain (form_plan rights f (sort_type l.sort) ps) ≡ true) ⊎ ((is_inner (form_plan rights f (sort_type l.sort) ps) ≡ true) × HasValues (form_plan rights f (sort_type l.sort) ps) false) → IsSound false (typed f i j l ps)
      by (inl g) = sound.plain (form_plan rights f (sort_type l.sort) ps) d g
      by (inr g) = sound.inner (form_plan rights f (sort_type l.sort) ps) d g.0 (go (modes (form_plan rights f (sort_type l.sort) ps) false) g.1)

  mutual
    -- for its value
    pub value_scoped : (x : Typed TypeTree) → IsExpression x → EachRead Reads x → IsSound false x
    value_scoped (typed f i j l ps) (inl e) h = by (is_given l.sort) refl h
      where
        by : (b : Bool) → is_given l.sort ≡ b → Unless b (LocalHas Reads f × Unless (is_leaf f) (AllRead Reads ps)) → IsSound false (typed f i j l ps)
        by true g h = let x = given_plan l.sort (form_plan rights f (sort_type l.sort) ps) g in sound.gives (leaf_course rights f l ps e ∙ ap Once x.1)
        by false g h = leaf_open f i j l ps e (leaf_course rights f l ps e ∙ ap Once (open_plan l.sort (form_plan rights f (sort_type l.sort) ps) g)) h.0
    value_scoped (typed f i j l ps) (inr e) h = by (is_given l.sort) refl h (λ g m z. values_scoped m z ps e.1 g)
      where
        by : (b : Bool) → is_given l.sort ≡ b → Unless b (LocalHas Reads f × Unless (is_leaf f) (AllRead Reads ps)) → (AllRead Reads ps → (m : ℕ → Bool) → ((k : ℕ) → m k ≡ false) → AreSound m ps) → IsSound false (typed f i j l ps)
        by true g h go = let x = given_plan l.sort (form_plan rights f (sort_type l.sort) ps) g in sound.gives (inner_course rights f l ps e.0 ∙ ap Once x.1)
        by false g h go =
            inner_open f i j l ps e.0 (inner_course rights f l ps e.0 ∙ ap Once (open_plan l.sort (form_plan rights f (sort_type l.sort) ps) g)) (go (unless_open (is_leaf f) (AllRead Reads ps) (inner_leaf f e.0) h.1))

    pub values_scoped : (m : ℕ → Bool) → ((k : ℕ) → m k ≡ false) → (ps : Typeds TypeTree) → AreExpressions ps → AllRead Reads ps → AreSound m ps
    values_scoped m z trees.none e h = sound.none
    values_scoped m z (trees.more p ps) e h = sound.more (subst (λ b. IsSound b p) (sym (z 0)) (value_scoped p e.0 h.0)) (values_scoped (λ k. m (suc k)) (λ k. z (suc k)) ps e.1 h.1)
    values_scoped m z (trees.skip ps) e h = sound.skip (values_scoped (λ k. m (suc k)) (λ k. z (suc k)) ps e h)

  -- ---- places

  leaf_placed : (f : Form) (i j : ℕ) (l : Label TypeTree) (ps : Typeds TypeTree) → is_leaf f ≡ true → plan rights f l ps ≡ Once (form_plan rights f (sort_type l.sort) ps) → PlaceHas Reads n.written f → IsSound true (typed f i j l ps)
  leaf_placed (form.Local k) i j l ps e d h = sound.changes d h.0 h.1
  leaf_placed (form.Object (referent.Variable k)) i j l ps e d h = sound.plain _ d refl
  leaf_placed (form.Object r) i j l ps e d h = absurd h
  leaf_placed form.Blank i j l ps e d h = sound.plain _ d refl
  leaf_placed form.Literal i j l ps e d h = sound.plain _ d refl
  leaf_placed form.Type i j l ps e d h = sound.plain _ d refl
  leaf_placed (form.Held k) i j l ps e d h = sound.plain _ d refl
  leaf_placed f i j l ps e d h = absurd cc

  mutual
    -- as a place
    pub place_scoped : (x : Typed TypeTree) → IsExpression x → EachPlaced rights Reads n.written x → IsSound true x
    place_scoped (typed f i j l ps) (inl e) h = leaf_placed f i j l ps e (leaf_course rights f l ps e ∙ ap Once (open_plan l.sort (form_plan rights f (sort_type l.sort) ps) h.0)) h.1
    place_scoped (typed f i j l ps) (inr e) h =
        by (is_part rights f ps) (by_form rights f (sort_type l.sort) ps e.0) (first_scoped (is_part rights f ps) ps e.1 (unless_open (is_leaf f) (FirstPlaced rights Reads n.written (is_part rights f ps) ps) (inner_leaf f e.0) h.2))
      where
        course : plan rights f l ps ≡ Once (form_plan rights f (sort_type l.sort) ps)
        course = inner_course rights f l ps e.0 ∙ ap Once (open_plan l.sort (form_plan rights f (sort_type l.sort) ps) h.0)

        by : (b : Bool) → RunsBy b (form_plan rights f (sort_type l.sort) ps) → ((m : ℕ → Bool) → ((k : ℕ) → m k ≡ first_alone b k) → AreSound m ps) → IsSound true (typed f i j l ps)
        by true r go = sound.inner (form_plan rights f (sort_type l.sort) ps) course r.0 (go (modes (form_plan rights f (sort_type l.sort) ps) true) r.1)
        by false (nothing g) go = sound.plain (form_plan rights f (sort_type l.sort) ps) course g
        by false (values g x y) go = sound.inner (form_plan rights f (sort_type l.sort) ps) course g (go (modes (form_plan rights f (sort_type l.sort) ps) true) (λ k. x k ∙ sym (alone_none k)))

    first_scoped : (b : Bool) (ps : Typeds TypeTree) → AreExpressions ps → FirstPlaced rights Reads n.written b ps → (m : ℕ → Bool) → ((k : ℕ) → m k ≡ first_alone b k) → AreSound m ps
    first_scoped true trees.none e h m z = sound.none
    first_scoped true (trees.more p ps) e h m z = sound.more (subst (λ b. IsSound b p) (sym (z 0)) (place_scoped p e.0 h.0)) (values_scoped (λ k. m (suc k)) (λ k. z (suc k)) ps e.1 h.1)
    first_scoped true (trees.skip ps) e h m z = sound.skip (values_scoped (λ k. m (suc k)) (λ k. z (suc k)) ps e h)
    first_scoped false ps e h m z = values_scoped m (λ k. z k ∙ alone_none k) ps e h
