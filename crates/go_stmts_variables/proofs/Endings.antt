-- Statements with variables in them terminate where they did.
use Rattle.std.proofs.Common.{◌≡◌, ◌∙◌, ℕ, Bool, true, false, List, [], ◌∷◌, Option, Some, None, refl, sym, ap}
use Rattle.std.specs.Prelude.{◌&&◌, ◌||◌, not}
use Rattle.std.specs.List.{list_any, list_all}
use Rattle.go_types.specs.Trees.{TypeTree}
use Rattle.go_typed.specs.declared.form.Form.{Form}
use Rattle.go_typed.specs.declared.form.Form.TheVariants as form
use Rattle.go_typed.specs.Forms.{is_default}
use Rattle.go_typed.specs.Trees.{Label, typed, Typeds, form_of, list_of}
use Rattle.go_typed.specs.Trees as sort
use Rattle.go_exprs_rules.specs.Settling.{Part}
use Rattle.go_exprs_rules.specs.Tables.{Parts, on_one}
use Rattle.go_stmts_defs.specs.Ending.{is_break, lets_break, breaks, any_breaks, part_breaks, last_flag, is_fallthrough, is_fallthrough_part}
use Rattle.go_stmts_defs.specs.Ending.{last_falls, is_default_clause, loop_ends, branches_end, clauses_end, ends, terminates, which_terminate}
use Rattle.go_stmts_defs.specs.Targets.{is_panic_call}
use Rattle.clone_window.specs.Masses.{is_hole, is_inside, is_expression, is_constant, is_constant_expression}
use Rattle.go_exprs_variables.specs.Variables.{Standin, Standins, at_hole, put_over, put, all_put}

-- ---- expressions

two_true : (b c : Bool) → (b && c) ≡ true → (b ≡ true) × (c ≡ true)
two_true true c e = (refl, e)
two_true false c e = cc

expression_ends : (f : Form) (xs : Parts) (bs : List Bool) → is_expression f ≡ true → ends f xs bs ≡ false
expression_ends form.Return xs bs e = cc
expression_ends form.Expression xs bs e = cc
expression_ends form.Block xs bs e = cc
expression_ends form.If xs bs e = cc
expression_ends form.For xs bs e = cc
expression_ends form.Switch xs bs e = cc
expression_ends (form.Case n) xs bs e = cc
expression_ends form.Default xs bs e = cc
expression_ends f xs bs e = refl

expression_breaks : (f : Form) (b : Bool) → is_expression f ≡ true → (is_break f || (lets_break f && b)) ≡ false
expression_breaks form.Break b e = cc
expression_breaks form.Block b e = cc
expression_breaks form.If b e = cc
expression_breaks (form.Case n) b e = cc
expression_breaks form.Default b e = cc
expression_breaks f b e = refl

expression_default : (f : Form) → is_expression f ≡ true → is_default f ≡ false
expression_default form.Default e = cc
expression_default f e = refl

expression_falls : (f : Form) → is_expression f ≡ true → is_fallthrough f ≡ false
expression_falls form.Fallthrough e = cc
expression_falls f e = refl

-- a form that holds nothing that may be terminating
abbrev pub is_calm : Form → Bool
is_calm form.Expression = false
is_calm form.Block = false
is_calm form.If = false
is_calm form.Switch = false
is_calm (form.Case n) = false
is_calm form.Default = false
is_calm f = true

module _ (w : Standins) where
  is_there : (b : Bool) (i : ℕ) (v : Standin) → at_hole w b i ≡ Some v → b ≡ true
  is_there true i v e = refl
  is_there false i v e = cc

  hole_expression : (a : Bool) (f : Form) (l : Label TypeTree) (i : ℕ) (v : Standin) → at_hole w (is_hole a f l) i ≡ Some v → is_expression f ≡ true
  hole_expression a f l i v e =
      let first = two_true (not a && is_constant_expression f l) (not l.varies) (is_there (is_hole a f l) i v e) in
      let second = two_true (not a) (is_constant_expression f l) first.0 in
      (two_true (is_expression f) (is_constant l.sort) second.1).0

  -- ---- breaks, clauses and `fallthrough`

  break_over : (v : Option Standin) (a : Bool) (f : Form) (i j : ℕ) (l : Label TypeTree) (ps qs : Typeds TypeTree) → at_hole w (is_hole a f l) i ≡ v → any_breaks qs ≡ any_breaks ps
      → breaks (put_over v f i j l qs) ≡ breaks (typed f i j l ps)
  break_over (Some v) a f i j l ps qs at e = sym (expression_breaks f (any_breaks ps) (hole_expression a f l i v at))
  break_over None a f i j l ps qs at e = ap (λ b. is_break f || (lets_break f && b)) e

  mutual
    pub breaks_put : (a : Bool) (x : Part) → breaks (put w a x) ≡ breaks x
    breaks_put a (typed f i j l ps) = break_over (at_hole w (is_hole a f l) i) a f i j l ps (all_put w (is_inside a f l) ps) refl (all_break (is_inside a f l) ps)

    all_break : (a : Bool) (ps : Typeds TypeTree) → any_breaks (all_put w a ps) ≡ any_breaks ps
    all_break a sort.none = refl
    all_break a (sort.more p ps) = ap (λ b. b || any_breaks (all_put w a ps)) (breaks_put a p) ∙ ap (λ b. breaks p || b) (all_break a ps)
    all_break a (sort.skip ps) = all_break a ps

  default_over : (v : Option Standin) (a : Bool) (f : Form) (i j : ℕ) (l : Label TypeTree) (qs : Typeds TypeTree) → at_hole w (is_hole a f l) i ≡ v → is_default (form_of (put_over v f i j l qs)) ≡ is_default f
  default_over (Some v) a f i j l qs at = sym (expression_default f (hole_expression a f l i v at))
  default_over None a f i j l qs at = refl

  default_put : (a : Bool) (x : Part) → is_default (form_of (put w a x)) ≡ is_default (form_of x)
  default_put a (typed f i j l ps) = default_over (at_hole w (is_hole a f l) i) a f i j l (all_put w (is_inside a f l) ps) refl

  falls_over : (v : Option Standin) (a : Bool) (f : Form) (i j : ℕ) (l : Label TypeTree) (qs : Typeds TypeTree) → at_hole w (is_hole a f l) i ≡ v → is_fallthrough (form_of (put_over v f i j l qs)) ≡ is_fallthrough f
  falls_over (Some v) a f i j l qs at = sym (expression_falls f (hole_expression a f l i v at))
  falls_over None a f i j l qs at = refl

  falls_put : (a : Bool) (x : Part) → is_fallthrough (form_of (put w a x)) ≡ is_fallthrough (form_of x)
  falls_put a (typed f i j l ps) = falls_over (at_hole w (is_hole a f l) i) a f i j l (all_put w (is_inside a f l) ps) refl

  -- ---- rows

  abbrev part_put : Bool → Option Part → Option Part
  part_put a (Some x) = Some (put w a x)
  part_put a None = None

  abbrev parts_put : Bool → Parts → Parts
  parts_put a [] = []
  parts_put a (x ∷ xs) = part_put a x ∷ parts_put a xs

  list_put : (a : Bool) (ps : Typeds TypeTree) → list_of (all_put w a ps) ≡ parts_put a (list_of ps)
  list_put a sort.none = refl
  list_put a (sort.more p ps) = ap (λ xs. Some (put w a p) ∷ xs) (list_put a ps)
  list_put a (sort.skip ps) = ap (λ xs. None ∷ xs) (list_put a ps)

  part_break : (a : Bool) (x : Option Part) → part_breaks (part_put a x) ≡ part_breaks x
  part_break a None = refl
  part_break a (Some x) = breaks_put a x

  any_break : (a : Bool) (xs : Parts) → list_any part_breaks (parts_put a xs) ≡ list_any part_breaks xs
  any_break a [] = refl
  any_break a (x ∷ xs) = ap (λ b. b || list_any part_breaks (parts_put a xs)) (part_break a x) ∙ ap (λ b. part_breaks x || b) (any_break a xs)

  part_default : (a : Bool) (x : Option Part) → is_default_clause (part_put a x) ≡ is_default_clause x
  part_default a None = refl
  part_default a (Some x) = default_put a x

  any_default : (a : Bool) (xs : Parts) → list_any is_default_clause (parts_put a xs) ≡ list_any is_default_clause xs
  any_default a [] = refl
  any_default a (x ∷ xs) = ap (λ b. b || list_any is_default_clause (parts_put a xs)) (part_default a x) ∙ ap (λ b. is_default_clause x || b) (any_default a xs)

  part_falls : (a : Bool) (x : Option Part) → is_fallthrough_part (part_put a x) ≡ is_fallthrough_part x
  part_falls a None = refl
  part_falls a (Some x) = falls_put a x

  last_put : (a : Bool) (xs : Parts) → last_falls (parts_put a xs) ≡ last_falls xs
  last_put a [] = refl
  last_put a (x ∷ []) = part_falls a x
  last_put a (x ∷ y ∷ xs) = last_put a (y ∷ xs)

  loop_put : (a : Bool) (xs : Parts) → loop_ends (parts_put a xs) ≡ loop_ends xs
  loop_put a [] = refl
  loop_put a (x ∷ []) = refl
  loop_put a (x ∷ Some c ∷ xs) = refl
  loop_put a (x ∷ None ∷ []) = refl
  loop_put a (x ∷ None ∷ y ∷ []) = refl
  loop_put a (x ∷ None ∷ y ∷ b ∷ []) = ap not (part_break a b)
  loop_put a (x ∷ None ∷ y ∷ b ∷ z ∷ xs) = refl

  -- ---- what terminates

  -- a call is one of `panic` where it was
  abbrev pub CalmCall : Typeds TypeTree → Type 0
  CalmCall (sort.more x sort.none) = is_panic_call (put w false x) ≡ is_panic_call x
  CalmCall ps = Unit {0}

  abbrev mutual
    -- Its statements that may be terminating have calls of `panic` where they had them.
    pub Calm : Part → Type 0
    Calm (typed form.Expression i j l ps) = CalmCall ps
    Calm (typed form.Block i j l ps) = AllCalm ps
    Calm (typed form.If i j l ps) = CalmBehind ps
    Calm (typed form.Switch i j l ps) = CalmBehind ps
    Calm (typed (form.Case n) i j l ps) = AllCalm ps
    Calm (typed form.Default i j l ps) = AllCalm ps
    Calm (typed f i j l ps) = Unit {0}

    pub AllCalm : Typeds TypeTree → Type 0
    AllCalm sort.none = Unit {0}
    AllCalm (sort.more p ps) = Calm p × AllCalm ps
    AllCalm (sort.skip ps) = AllCalm ps

    -- of the parts behind the first two
    pub CalmBehind : Typeds TypeTree → Type 0
    CalmBehind (sort.more a ps) = CalmLater ps
    CalmBehind (sort.skip ps) = CalmLater ps
    CalmBehind sort.none = Unit {0}

    pub CalmLater : Typeds TypeTree → Type 0
    CalmLater (sort.more c ps) = AllCalm ps
    CalmLater (sort.skip ps) = AllCalm ps
    CalmLater sort.none = Unit {0}

  -- expressions terminate nothing
  pub calm_form : (x : Part) → is_calm (form_of x) ≡ true → Calm x
  calm_form (typed form.Expression i j l ps) e = cc
  calm_form (typed form.Block i j l ps) e = cc
  calm_form (typed form.If i j l ps) e = cc
  calm_form (typed form.Switch i j l ps) e = cc
  calm_form (typed (form.Case n) i j l ps) e = cc
  calm_form (typed form.Default i j l ps) e = cc
  calm_form (typed f i j l ps) e = tt

  branches_same : (x y u v : Bool) (bs : List Bool) → branches_end (x ∷ y ∷ bs) ≡ branches_end (u ∷ v ∷ bs)
  branches_same x y u v [] = refl
  branches_same x y u v (b ∷ []) = refl
  branches_same x y u v (b ∷ e ∷ []) = refl
  branches_same x y u v (b ∷ e ∷ z ∷ bs) = refl

  clauses_put : (ps : Typeds TypeTree) → which_terminate (all_put w false ps) ≡ which_terminate ps
      → (list_any is_default_clause (list_of (all_put w false ps)) && not (list_any part_breaks (list_of (all_put w false ps))) && list_all (λ x. x) (which_terminate (all_put w false ps)))
      ≡ (list_any is_default_clause (list_of ps) && not (list_any part_breaks (list_of ps)) && list_all (λ x. x) (which_terminate ps))
  clauses_put ps e =
      ap (λ xs. list_any is_default_clause xs && not (list_any part_breaks xs) && list_all (λ x. x) (which_terminate (all_put w false ps))) (list_put false ps)
      ∙ ap (λ b. b && not (list_any part_breaks (parts_put false (list_of ps))) && list_all (λ x. x) (which_terminate (all_put w false ps))) (any_default false (list_of ps))
      ∙ ap (λ b. list_any is_default_clause (list_of ps) && not b && list_all (λ x. x) (which_terminate (all_put w false ps))) (any_break false (list_of ps))
      ∙ ap (λ bs. list_any is_default_clause (list_of ps) && not (list_any part_breaks (list_of ps)) && list_all (λ x. x) bs) e

  -- a node terminates where it did if its parts do
  ends_over : (v : Option Standin) (f : Form) (i j : ℕ) (l : Label TypeTree) (ps : Typeds TypeTree) → at_hole w (is_hole false f l) i ≡ v
      → ends f (list_of (all_put w (is_inside false f l) ps)) (which_terminate (all_put w (is_inside false f l) ps)) ≡ ends f (list_of ps) (which_terminate ps)
      → terminates (put_over v f i j l (all_put w (is_inside false f l) ps)) ≡ terminates (typed f i j l ps)
  ends_over (Some v) f i j l ps at e = sym (expression_ends f (list_of ps) (which_terminate ps) (hole_expression false f l i v at))
  ends_over None f i j l ps at e = e

  clause_put : (ps : Typeds TypeTree) → which_terminate (all_put w false ps) ≡ which_terminate ps
      → (last_flag (which_terminate (all_put w false ps)) || last_falls (list_of (all_put w false ps))) ≡ (last_flag (which_terminate ps) || last_falls (list_of ps))
  clause_put ps e = ap (λ bs. last_flag bs || last_falls (list_of (all_put w false ps))) e ∙ ap (λ b. last_flag (which_terminate ps) || b) (ap last_falls (list_put false ps) ∙ last_put false (list_of ps))

  call_ends : (ps : Typeds TypeTree) → CalmCall ps → on_one false is_panic_call (list_of (all_put w false ps)) ≡ on_one false is_panic_call (list_of ps)
  call_ends sort.none h = refl
  call_ends (sort.skip ps) h = refl
  call_ends (sort.more x sort.none) h = h
  call_ends (sort.more x (sort.more y ps)) h = refl
  call_ends (sort.more x (sort.skip ps)) h = refl

  mutual
    -- A statement terminates where it did.
    pub terminates_put : (x : Part) → Calm x → terminates (put w false x) ≡ terminates x
    terminates_put (typed form.Expression i j l ps) h = ends_over (at_hole w (is_hole false form.Expression l) i) form.Expression i j l ps refl (call_ends ps h)
    terminates_put (typed form.Block i j l ps) h = ends_over (at_hole w (is_hole false form.Block l) i) form.Block i j l ps refl (ap last_flag (which_put ps h))
    terminates_put (typed form.If i j l ps) h = ends_over (at_hole w (is_hole false form.If l) i) form.If i j l ps refl (if_put ps h)
    terminates_put (typed form.For i j l ps) h = ends_over (at_hole w (is_hole false form.For l) i) form.For i j l ps refl (ap loop_ends (list_put false ps) ∙ loop_put false (list_of ps))
    terminates_put (typed form.Switch i j l ps) h = ends_over (at_hole w (is_hole false form.Switch l) i) form.Switch i j l ps refl (switch_put ps h)
    terminates_put (typed (form.Case n) i j l ps) h = ends_over (at_hole w (is_hole false (form.Case n) l) i) (form.Case n) i j l ps refl (clause_put ps (which_put ps h))
    terminates_put (typed form.Default i j l ps) h = ends_over (at_hole w (is_hole false form.Default l) i) form.Default i j l ps refl (clause_put ps (which_put ps h))
    terminates_put (typed f i j l ps) h = ends_over (at_hole w (is_hole false f l) i) f i j l ps refl refl

    which_put : (ps : Typeds TypeTree) → AllCalm ps → which_terminate (all_put w false ps) ≡ which_terminate ps
    which_put sort.none h = refl
    which_put (sort.skip ps) h = ap (λ bs. false ∷ bs) (which_put ps h)
    which_put (sort.more p ps) h = ap (λ b. b ∷ which_terminate (all_put w false ps)) (terminates_put p h.0) ∙ ap (λ bs. terminates p ∷ bs) (which_put ps h.1)

    if_put : (ps : Typeds TypeTree) → CalmBehind ps → branches_end (which_terminate (all_put w false ps)) ≡ branches_end (which_terminate ps)
    if_put sort.none h = refl
    if_put (sort.skip sort.none) h = refl
    if_put (sort.more a sort.none) h = refl
    if_put (sort.skip (sort.skip ps)) h = ap (λ bs. branches_end (false ∷ false ∷ bs)) (which_put ps h)
    if_put (sort.skip (sort.more c ps)) h = branches_same false (terminates (put w false c)) false (terminates c) (which_terminate (all_put w false ps)) ∙ ap (λ bs. branches_end (false ∷ terminates c ∷ bs)) (which_put ps h)
    if_put (sort.more a (sort.skip ps)) h = branches_same (terminates (put w false a)) false (terminates a) false (which_terminate (all_put w false ps)) ∙ ap (λ bs. branches_end (terminates a ∷ false ∷ bs)) (which_put ps h)
    if_put (sort.more a (sort.more c ps)) h =
        branches_same (terminates (put w false a)) (terminates (put w false c)) (terminates a) (terminates c) (which_terminate (all_put w false ps)) ∙ ap (λ bs. branches_end (terminates a ∷ terminates c ∷ bs)) (which_put ps h)

    switch_put : (ps : Typeds TypeTree) → CalmBehind ps → clauses_end (list_of (all_put w false ps)) (which_terminate (all_put w false ps)) ≡ clauses_end (list_of ps) (which_terminate ps)
    switch_put sort.none h = refl
    switch_put (sort.skip sort.none) h = refl
    switch_put (sort.more a sort.none) h = refl
    switch_put (sort.skip (sort.skip ps)) h = clauses_put ps (which_put ps h)
    switch_put (sort.skip (sort.more c ps)) h = clauses_put ps (which_put ps h)
    switch_put (sort.more a (sort.skip ps)) h = clauses_put ps (which_put ps h)
    switch_put (sort.more a (sort.more c ps)) h = clauses_put ps (which_put ps h)
