-- The induction over trees. What it needs of the kinds of nodes stands in one record.
use Rattle.std.proofs.Common.{◌≡◌, ◌∙◌, ◌⊎◌, inl, inr, ℕ, Bool, true, false, [], ◌∷◌, ◌++◌, Option, Some, None, refl, sym, ap, subst}
use Rattle.std.specs.Prelude.{◌&&◌, ◌||◌}
use Rattle.go_grammar.specs.declared.kind.Category.{Category}
use Rattle.go_grammar.specs.declared.kind.Kind.{Kind}
use Rattle.go_grammar.specs.declared.kind.Kind.TheVariants as kind
use Rattle.go_grammar.specs.Categories.{is_type_literal}
use Rattle.go_grammar.specs.Trees.{Tree, node, Trees, none, more, skip, kind_of}
use Rattle.go_typed.specs.Trees.{sort_of}
use Rattle.go_exprs_rules.specs.Scopes.{Scope, Hint}
use Rattle.go_exprs_rules.specs.Settling.{Part}
use Rattle.go_exprs_rules.specs.Tables.{Parts, hint, part_scope, built, found}
use Rattle.go_exprs_rules.specs.Typing.{typing, typings, faults, faults_of_parts}
use Rattle.clone_window.specs.Masses as masses
use Rattle.go_exprs_variables.specs.Shapes.{IsShaped}
use Rattle.go_exprs_variables.specs.Variables.{expresses, Standins, ends_at, may_be_constant, node_with, with_variables, all_with_variables, NameFree, PartsFree, ProperNode, Proper, AllProper, StandsIn, begun, WillFit, no_rule_fails, IsTypedWithVariables, is_naming}
use Rattle.go_exprs_variables.proofs.Agreeing.{EachAgrees, both_agree, typing_agrees}
use Rattle.go_exprs_variables.proofs.Away.{begun_nothing, clear_away}
use Rattle.go_exprs_variables.proofs.Constants.{constant_still}
use Rattle.go_exprs_variables.proofs.Holes.{all_of, of_all, nothing_found, found_nothing, hole_typed}
use Rattle.go_exprs_variables.proofs.Named.{is_named, named_rest}
use Rattle.go_exprs_variables.proofs.Same.{same_tree, typed_same, faults_kept}
use Rattle.go_exprs_variables.proofs.Standing.{Still}

-- ---- nodes that have expressions among their parts

-- nodes that only hold parts of the node above: bounds, and the values of elements with keys
abbrev pub holds : Kind → Bool
holds kind.Bounds = true
holds kind.BoundsFrom = true
holds kind.Keyed = true
holds k = false

abbrev pub walks : Kind → Bool
walks k = expresses k || holds k

module _ (w : Standins) where
  -- ---- parts

  -- typed parts, with variables in them
  abbrev pub new_part : Option Part → Option Part
  new_part (Some x) = Some (begun w false x)
  new_part None = None

  abbrev pub news : Parts → Parts
  news [] = []
  news (x ∷ xs) = new_part x ∷ news xs

  grown : (xs : Parts) (x : Option Part) → news xs ++ new_part x ∷ [] ≡ news (xs ++ x ∷ [])
  grown [] x = refl
  grown (y ∷ ys) x = ap (λ zs. new_part y ∷ zs) (grown ys x)

  abbrev pub told : Scope → Kind → Hint → Trees → Parts → Tree → Hint
  told s k h all xs p = hint s k h all xs (kind_of p)

  abbrev pub typed_part : Scope → Kind → Hint → Trees → Parts → Tree → Part
  typed_part s k h all xs p = typing (part_scope s k xs) (told s k h all xs p) p

  -- the tree has the kinds of a text of some category
  abbrev pub HasShape : Tree → Type 0
  HasShape x = (c : Category) × IsShaped c x

  abbrev pub FitsThere : Scope → Hint → Kind → Tree → Type 0
  FitsThere s h k x = (expresses k ≡ true) × (is_naming h ≡ false) × WillFit s.rights w false (typing s h x)

  abbrev mutual
    -- A part in which no variable stands, as a type or a key; or an expression that fits once its node has given it what it gives; or
    -- a node that only holds parts, which its own node gives what they take.
    pub Follows : Scope → Hint → Tree → Type 0
    Follows s h (node k i j ps) = HasShape (node k i j ps) × (Still w s h (node k i j ps) ⊎ FitsThere s h k (node k i j ps) ⊎ ((holds k ≡ true) × PartsFollow s k h ps [] ps))

    pub PartsFollow : Scope → Kind → Hint → Trees → Parts → Trees → Type 0
    PartsFollow s k h all xs none = Unit {0}
    PartsFollow s k h all xs (more p ps) = Follows (part_scope s k xs) (told s k h all xs p) p × PartsFollow s k h all (xs ++ Some (typed_part s k h all xs p) ∷ []) ps
    PartsFollow s k h all xs (skip ps) = PartsFollow s k h all (xs ++ None ∷ []) ps

  pub follows_shape : (s : Scope) (h : Hint) (p : Tree) → Follows s h p → HasShape p
  follows_shape s h (node k i j ps) f = f.0

  -- ---- what the induction needs

  pub record Rest : Type 0 where
    -- from a node that fits to its parts
    pub descends : (s : Scope) (h : Hint) (c : Category) (k : Kind) (i j : ℕ) (ps : Trees) → IsShaped c (node k i j ps) → expresses k ≡ true → PartsFree w k ps → AllProper w ps → masses.is_constant (sort_of (typing s h (node k i j ps))) ≡ false
        → is_named (sort_of (typing s h (node k i j ps))) ≡ false → found s k h i j (typings s k h ps [] ps) ≡ [] → WillFit s.rights w false (typing s h (node k i j ps)) → PartsFollow s k h ps [] ps
    -- parts are told what they were
    pub same_scope : (s t : Scope) (k : Kind) (xs : Parts) → StandsIn w s t → walks k ≡ true → StandsIn w (part_scope s k xs) (part_scope t k (news xs))
    pub same_told : (s t : Scope) (k : Kind) (h : Hint) (all : Trees) (xs : Parts) (p : Tree) → StandsIn w s t → walks k ≡ true → EachAgrees xs → hint t k h (all_with_variables w all) (news xs) (kind_of (with_variables w p)) ≡ told s k h all xs p
    -- the step: a node over parts with variables in them
    pub step : (s t : Scope) (h : Hint) (c : Category) (k : Kind) (i j : ℕ) (ps : Trees) → StandsIn w s t → IsShaped c (node k i j ps) → expresses k ≡ true → is_naming h ≡ false → NameFree w k i → PartsFree w k ps → AllProper w ps
        → masses.is_constant (sort_of (typing s h (node k i j ps))) ≡ false → is_named (sort_of (typing s h (node k i j ps))) ≡ false → found s k h i j (typings s k h ps [] ps) ≡ []
        → WillFit s.rights w false (typing s h (node k i j ps)) → (found t k h i j (news (typings s k h ps [] ps)) ≡ []) × (built t k h i j (news (typings s k h ps [] ps)) ≡ begun w false (built s k h i j (typings s k h ps [] ps)))
    -- the node that holds parts
    pub holder : (s t : Scope) (h : Hint) (c : Category) (k : Kind) (i j : ℕ) (ps : Trees) → StandsIn w s t → IsShaped c (node k i j ps) → holds k ≡ true → PartsFollow s k h ps [] ps → no_rule_fails (faults_of_parts s k h ps [] ps) ≡ true
        → (found t k h i j (news (typings s k h ps [] ps)) ≡ []) × (built t k h i j (news (typings s k h ps [] ps)) ≡ begun w false (built s k h i j (typings s k h ps [] ps)))

  holds_walks : (k : Kind) → holds k ≡ true → walks k ≡ true
  holds_walks kind.Bounds e = refl
  holds_walks kind.BoundsFrom e = refl
  holds_walks kind.Keyed e = refl
  holds_walks k e = cc

  -- ---- trees in which no variable stands

  pub still_typed : (s t : Scope) (h : Hint) (c : Category) (x : Tree) → IsShaped c x → StandsIn w s t → Still w s h x → no_rule_fails (faults s h x) ≡ true → IsTypedWithVariables w s t h x
  still_typed s t h c x e st still f = record {
    typed = ap (typing t h) (same_tree w x still.0) ∙ typed_same w s t h x st still.0 ∙ sym (begun_nothing w false (typing s h x) (typing_agrees s h c x e) still.1);
    failing = ap (λ z. no_rule_fails (faults t h z)) (same_tree w x still.0) ∙ ap no_rule_fails (faults_kept w s t h x st still.0) ∙ f;
  }

  -- ---- the induction

  -- the parts of a node
  pub record PartsTyped (s t : Scope) (k : Kind) (h : Hint) (all : Trees) (xs : Parts) (ps : Trees) : Type 0 where
    pub typed : typings t k h (all_with_variables w all) (news xs) (all_with_variables w ps) ≡ news (typings s k h all xs ps)
    pub failing : no_rule_fails (faults_of_parts t k h (all_with_variables w all) (news xs) (all_with_variables w ps)) ≡ true

  module _ (rest : Rest) where
    over_parts : (s t : Scope) (h : Hint) (k : Kind) (i j : ℕ) (ps : Trees) → (may_be_constant k && ends_at (w i) j) ≡ false → PartsTyped s t k h ps [] ps
        → (found t k h i j (news (typings s k h ps [] ps)) ≡ []) × (built t k h i j (news (typings s k h ps [] ps)) ≡ begun w false (built s k h i j (typings s k h ps [] ps))) → IsTypedWithVariables w s t h (node k i j ps)
    over_parts s t h k i j ps e under at =
        let tree : with_variables w (node k i j ps) ≡ node k i j (all_with_variables w ps) = ap (λ b. node_with b k i j (all_with_variables w ps)) e in
        record {
          typed = ap (typing t h) tree ∙ ap (built t k h i j) under.typed ∙ at.1;
          failing = ap (λ x. no_rule_fails (faults t h x)) tree
              ∙ of_all (faults_of_parts t k h (all_with_variables w ps) [] (all_with_variables w ps)) (found t k h i j (typings t k h (all_with_variables w ps) [] (all_with_variables w ps)) ∷ []) under.failing
              (found_nothing (found t k h i j (typings t k h (all_with_variables w ps) [] (all_with_variables w ps))) (ap (found t k h i j) under.typed ∙ at.0));
        }

    abbrev Under : Scope → Scope → Kind → Hint → Trees → Type 0
    Under s t k h ps = AllProper w ps → no_rule_fails (faults_of_parts s k h ps [] ps) ≡ true → PartsFollow s k h ps [] ps → PartsTyped s t k h ps [] ps

    -- a node that isn't constant: one that stands for no value, or another one
    plain_typed : (s t : Scope) (h : Hint) (c : Category) (k : Kind) (i j : ℕ) (ps : Trees) (b : Bool) → is_named (sort_of (typing s h (node k i j ps))) ≡ b → StandsIn w s t → IsShaped c (node k i j ps) → expresses k ≡ true → is_naming h ≡ false
        → (may_be_constant k && ends_at (w i) j) ≡ false → masses.is_constant (sort_of (typing s h (node k i j ps))) ≡ false → Proper w (node k i j ps) → NameFree w k i × PartsFree w k ps × AllProper w ps → no_rule_fails (faults s h (node k i j ps)) ≡ true
        → WillFit s.rights w false (typing s h (node k i j ps)) → Under s t k h ps → IsTypedWithVariables w s t h (node k i j ps)
    plain_typed s t h c k i j ps true m st shape walk naming e v proper inner f fits parts =
        let r = named_rest w s h c (node k i j ps) shape (ap (λ b. b || is_type_literal k) walk) e proper m in
        still_typed s t h c (node k i j ps) shape st (r.0, clear_away w false (typing s h (node k i j ps)) r.1) f
    plain_typed s t h c k i j ps false m st shape walk naming e v proper inner f fits parts =
        let both = all_of (faults_of_parts s k h ps [] ps) (found s k h i j (typings s k h ps [] ps) ∷ []) f in
        let none_found = nothing_found (found s k h i j (typings s k h ps [] ps)) both.1 in
        let follow = rest.descends s h c k i j ps shape walk inner.1 inner.2 v m none_found fits in
        let under = parts inner.2 both.0 follow in
        let at = rest.step s t h c k i j ps st shape walk naming inner.0 inner.1 inner.2 v m none_found fits in
        over_parts s t h k i j ps e under at

    -- by whether a variable stands there, and whether it is constant
    node_typed : (s t : Scope) (h : Hint) (c : Category) (k : Kind) (i j : ℕ) (ps : Trees) (b d : Bool) → StandsIn w s t → IsShaped c (node k i j ps) → expresses k ≡ true → is_naming h ≡ false → (may_be_constant k && ends_at (w i) j) ≡ b
        → masses.is_constant (sort_of (typing s h (node k i j ps))) ≡ d → Proper w (node k i j ps) → no_rule_fails (faults s h (node k i j ps)) ≡ true → WillFit s.rights w false (typing s h (node k i j ps)) → Under s t k h ps → IsTypedWithVariables w s t h (node k i j ps)
    node_typed s t h c k i j ps true d st shape walk naming e v proper f fits parts = hole_typed w s t h k i j ps st naming e f fits
    node_typed s t h c k i j ps false true st shape walk naming e v proper f fits parts = still_typed s t h c (node k i j ps) shape st (constant_still w s h c k i j ps shape walk proper e v fits) f
    node_typed s t h c k i j ps false false st shape walk naming e v proper f fits parts =
        let inner : ProperNode false w k i ps (AllProper w ps) = subst (λ b. ProperNode b w k i ps (AllProper w ps)) e proper in
        plain_typed s t h c k i j ps (is_named (sort_of (typing s h (node k i j ps)))) refl st shape walk naming e v proper inner f fits parts

    no_constant : (k : Kind) (b : Bool) → holds k ≡ true → (may_be_constant k && b) ≡ false
    no_constant kind.Bounds b e = refl
    no_constant kind.BoundsFrom b e = refl
    no_constant kind.Keyed b e = refl
    no_constant k b e = cc

    -- a node that only holds parts: no variable stands there
    holder_typed : (s t : Scope) (h : Hint) (c : Category) (k : Kind) (i j : ℕ) (ps : Trees) → StandsIn w s t → IsShaped c (node k i j ps) → holds k ≡ true → Proper w (node k i j ps) → no_rule_fails (faults s h (node k i j ps)) ≡ true → PartsFollow s k h ps [] ps
        → Under s t k h ps → IsTypedWithVariables w s t h (node k i j ps)
    holder_typed s t h c k i j ps st shape held proper f follow parts =
        let e = no_constant k (ends_at (w i) j) held in
        let inner : ProperNode false w k i ps (AllProper w ps) = subst (λ b. ProperNode b w k i ps (AllProper w ps)) e proper in
        let both = all_of (faults_of_parts s k h ps [] ps) (found s k h i j (typings s k h ps [] ps) ∷ []) f in
        over_parts s t h k i j ps e (parts inner.2 both.0 follow) (rest.holder s t h c k i j ps st shape held follow both.0)

    expresses_walks : (k : Kind) → expresses k ≡ true → walks k ≡ true
    expresses_walks k e = ap (λ c. c || holds k) e

    -- by why the node follows
    node_follows : (s t : Scope) (h : Hint) (k : Kind) (i j : ℕ) (ps : Trees) → StandsIn w s t → Follows s h (node k i j ps) → Proper w (node k i j ps) → no_rule_fails (faults s h (node k i j ps)) ≡ true → (walks k ≡ true → Under s t k h ps) → IsTypedWithVariables w s t h (node k i j ps)
    node_follows s t h k i j ps st (shape, inl still) proper f parts = still_typed s t h shape.0 (node k i j ps) shape.1 st still f
    node_follows s t h k i j ps st (shape, inr (inl fits)) proper f parts =
        node_typed s t h shape.0 k i j ps (may_be_constant k && ends_at (w i) j) (masses.is_constant (sort_of (typing s h (node k i j ps)))) st shape.1 fits.0 fits.1 refl refl proper f fits.2 (parts (expresses_walks k fits.0))
    node_follows s t h k i j ps st (shape, inr (inr held)) proper f parts = holder_typed s t h shape.0 k i j ps st shape.1 held.0 proper f held.1 (parts (holds_walks k held.0))

    one_more : (s t : Scope) (k : Kind) (h : Hint) (all : Trees) (xs : Parts) (p : Tree) (ps : Trees) → StandsIn w s t → walks k ≡ true → EachAgrees xs
        → IsTypedWithVariables w (part_scope s k xs) (part_scope t k (news xs)) (told s k h all xs p) p → PartsTyped s t k h all (xs ++ Some (typed_part s k h all xs p) ∷ []) ps → PartsTyped s t k h all xs (more p ps)
    one_more s t k h all xs p ps st walk done one left =
        let to = rest.same_told s t k h all xs p st walk done in
        let x = typed_part s k h all xs p in
        let is : typing (part_scope t k (news xs)) (hint t k h (all_with_variables w all) (news xs) (kind_of (with_variables w p))) (with_variables w p) ≡ begun w false x = ap (λ g. typing (part_scope t k (news xs)) g (with_variables w p)) to ∙ one.typed in
        let so : news xs ++ Some (typing (part_scope t k (news xs)) (hint t k h (all_with_variables w all) (news xs) (kind_of (with_variables w p))) (with_variables w p)) ∷ [] ≡ news (xs ++ Some x ∷ []) = ap (λ y. news xs ++ Some y ∷ []) is ∙ grown xs (Some x) in
        record {
          typed = ap (λ ys. typings t k h (all_with_variables w all) ys (all_with_variables w ps)) so ∙ left.typed;
          failing = of_all (faults (part_scope t k (news xs)) (hint t k h (all_with_variables w all) (news xs) (kind_of (with_variables w p))) (with_variables w p))
              (faults_of_parts t k h (all_with_variables w all) (news xs ++ Some (typing (part_scope t k (news xs)) (hint t k h (all_with_variables w all) (news xs) (kind_of (with_variables w p))) (with_variables w p)) ∷ []) (all_with_variables w ps))
              (ap (λ g. no_rule_fails (faults (part_scope t k (news xs)) g (with_variables w p))) to ∙ one.failing)
              (ap (λ ys. no_rule_fails (faults_of_parts t k h (all_with_variables w all) ys (all_with_variables w ps))) so ∙ left.failing);
        }

    grown_agrees : (s : Scope) (h : Hint) (p : Tree) (xs : Parts) → HasShape p → EachAgrees xs → EachAgrees (xs ++ Some (typing s h p) ∷ [])
    grown_agrees s h p xs shape each = both_agree xs (Some (typing s h p) ∷ []) each (typing_agrees s h shape.0 p shape.1, tt)

    mutual
      -- With variables in place of constants an expression is typed the same, with the variables in place of the holes.
      pub all_typed : (s t : Scope) (h : Hint) (x : Tree) → StandsIn w s t → Follows s h x → Proper w x → no_rule_fails (faults s h x) ≡ true → IsTypedWithVariables w s t h x
      all_typed s t h (node k i j ps) st follow proper f = node_follows s t h k i j ps st follow proper f (λ walk pr g fs. parts_typed s t k h ps [] ps st walk tt pr g fs)

      parts_typed : (s t : Scope) (k : Kind) (h : Hint) (all : Trees) (xs : Parts) (ps : Trees) → StandsIn w s t → walks k ≡ true → EachAgrees xs → AllProper w ps → no_rule_fails (faults_of_parts s k h all xs ps) ≡ true → PartsFollow s k h all xs ps → PartsTyped s t k h all xs ps
      parts_typed s t k h all xs none st walk done proper f follow = record { typed = refl; failing = refl }
      parts_typed s t k h all xs (skip ps) st walk done proper f follow =
          let left = parts_typed s t k h all (xs ++ None ∷ []) ps st walk (both_agree xs (None ∷ []) done tt) proper f follow in
          record {
            typed = ap (λ ys. typings t k h (all_with_variables w all) ys (all_with_variables w ps)) (grown xs None) ∙ left.typed;
            failing = ap (λ ys. no_rule_fails (faults_of_parts t k h (all_with_variables w all) ys (all_with_variables w ps))) (grown xs None) ∙ left.failing;
          }
      parts_typed s t k h all xs (more p ps) st walk done proper f follow =
          let both = all_of (faults (part_scope s k xs) (told s k h all xs p) p) (faults_of_parts s k h all (xs ++ Some (typed_part s k h all xs p) ∷ []) ps) f in
          let one = all_typed (part_scope s k xs) (part_scope t k (news xs)) (told s k h all xs p) p (rest.same_scope s t k xs st walk) follow.0 proper.0 both.0 in
          one_more s t k h all xs p ps st walk done one
          (parts_typed s t k h all (xs ++ Some (typed_part s k h all xs p) ∷ []) ps st walk
          (grown_agrees (part_scope s k xs) (told s k h all xs p) p xs (follows_shape (part_scope s k xs) (told s k h all xs p) p follow.0) done) proper.1 both.1 follow.1)

    -- the law as it is stated, of expressions
    pub variables_for_constants : (s t : Scope) (h : Hint) (c : Category) (x : Tree) → IsShaped c x → expresses (kind_of x) ≡ true → is_naming h ≡ false → StandsIn w s t → Proper w x → no_rule_fails (faults s h x) ≡ true → WillFit s.rights w false (typing s h x) → IsTypedWithVariables w s t h x
    variables_for_constants s t h c (node k i j ps) shape walk naming st proper f fits = all_typed s t h (node k i j ps) st ((c, shape), inr (inl (walk, naming, fits))) proper f
