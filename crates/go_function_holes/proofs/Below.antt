-- Paths from a node to the expressions below it that may become names.
use Rattle.std.proofs.Common.{◌≡◌, ◌∙◌, ℕ, zero, suc, Bool, true, false, List, [], ◌∷◌, Option, Some, None, refl, sym, ap, subst}
use Rattle.std.specs.Prelude.{◌&&◌}
use Rattle.go_grammar.specs.declared.kind.Category.{Category}
use Rattle.go_grammar.specs.declared.kind.Kind.{Kind}
use Rattle.go_grammar.specs.declared.kind.Kind.TheVariants as kind
use Rattle.go_grammar.specs.declared.kind.Level.TheVariants as level
use Rattle.go_grammar.specs.Categories.{place_of, is_expression}
use Rattle.go_grammar.specs.Grammar.{rule}
use Rattle.go_grammar.specs.Rules.{Rule}
use Rattle.go_grammar.specs.Trees.{Tree, node, Trees, none, more, skip, kind_of, first, last}
use Rattle.go_rewriting.specs.Replacing.{subtree_at, subtree_in, asked_at, asked_in, takes_level, next_category, next_rule}
use Rattle.go_rewriting.specs.Sites.{whole, is_clear, is_clear_in, may_change}
use Rattle.go_types.specs.Trees.{TypeTree}
use Rattle.go_typed.specs.Trees.{typed, Typeds, first_of, last_of, label_of, parts_of}
use Rattle.go_exprs_rules.specs.Settling.{Part}
use Rattle.clone_window.specs.Masses as masses
use Rattle.extract_names_derived.specs.Holes.{may_hold_holes, may_be_replaced, gives_operands, is_simple_part}
use Rattle.go_function_holes.specs.Ways.{may_be_named, part_named}
use Rattle.go_function_holes.proofs.Holed.{OfHole, Here, Holes, AllHoles, is_whole, differ, holes-weaker, all-weaker}

-- A path of one part at least leads from the node to an expression over these tokens; `operand` says of a list of expressions whether its
-- names are looked up only.
pub record Below (operand : Bool) (c : Category) (t : Tree) (i j : ℕ) : Type 0 where
  pub part : ℕ
  pub path : List ℕ
  pub stood : Tree
  pub category : Category
  pub at_path : subtree_at (part ∷ path) t ≡ Some stood
  pub asked : asked_at c (part ∷ path) t ≡ Some category
  pub takes : takes_level level.Primary category ≡ true
  pub expression : is_expression (kind_of stood) ≡ true
  pub begins : first stood ≡ i
  pub ends : last stood ≡ j
  pub clear : (new : Tree) → is_clear (part ∷ path) (whole new) t ≡ true
  pub named : may_be_named operand (part ∷ path) t ≡ true

-- ---- the parts of a node by their numbers

none-some : {A B : Type 0} (x : A) → (let o : Option A = None in o) ≡ Some x → B
none-some x e = absurd cc

some-same : {A : Type 0} (x y : A) → Some x ≡ Some y → x ≡ y
some-same x y e = cc

module _ (p : Tree) (path : List ℕ) where
  subtree-part : (n : ℕ) (ps : Trees) → subtree_in n [] ps ≡ Some p → subtree_in n path ps ≡ subtree_at path p
  subtree-part n none e = none-some p e
  subtree-part zero (more q ps) e = ap (subtree_at path) (some-same q p e)
  subtree-part (suc n) (more q ps) e = subtree-part n ps e
  subtree-part zero (skip ps) e = none-some p e
  subtree-part (suc n) (skip ps) e = subtree-part n ps e

  asked-part : (c : Category) (r : Rule) (n : ℕ) (ps : Trees) → subtree_in n [] ps ≡ Some p → asked_in r n [] ps ≡ Some c → asked_in r n path ps ≡ asked_at c path p
  asked-part c r n none e a = none-some p e
  asked-part c r zero (more q ps) e a = ap (asked_at (next_category r) path) (some-same q p e) ∙ ap (λ d. asked_at d path p) (some-same (next_category r) c a)
  asked-part c r (suc n) (more q ps) e a = asked-part c (next_rule r) n ps e a
  asked-part c r zero (skip ps) e a = none-some p e
  asked-part c r (suc n) (skip ps) e a = asked-part c (next_rule r) n ps e a

  clear-part : (new : Tree) (n : ℕ) (ps : Trees) → subtree_in n [] ps ≡ Some p → is_clear_in n path (whole new) ps ≡ is_clear path (whole new) p
  clear-part new n none e = none-some p e
  clear-part new zero (more q ps) e = ap (is_clear path (whole new)) (some-same q p e)
  clear-part new (suc n) (more q ps) e = clear-part new n ps e
  clear-part new zero (skip ps) e = none-some p e
  clear-part new (suc n) (skip ps) e = clear-part new n ps e

-- what is asked where the path ends at the part, and where it goes on
abbrev named_here : Bool → Kind → ℕ → List ℕ → Tree → Bool
named_here o k m [] p = may_be_replaced o k m && is_simple_part (kind_of p)
named_here o k m (l ∷ path) p = may_be_named (gives_operands k m) (l ∷ path) p

named-part : (p : Tree) (path : List ℕ) (o : Bool) (k : Kind) (m n : ℕ) (ps : Trees) → subtree_in n [] ps ≡ Some p → part_named o k m n path ps ≡ named_here o k m path p
named-part p path o k m n none e = none-some p e
named-part p [] o k m zero (more q ps) e = ap (λ t. may_be_replaced o k m && is_simple_part (kind_of t)) (some-same q p e)
named-part p (l ∷ path) o k m zero (more q ps) e = ap (may_be_named (gives_operands k m) (l ∷ path)) (some-same q p e)
named-part p path o k m (suc n) (more q ps) e = named-part p path o k m n ps e
named-part p path o k m zero (skip ps) e = none-some p e
named-part p path o k m (suc n) (skip ps) e = named-part p path o k m n ps e

both-true : (a b : Bool) → a ≡ true → b ≡ true → (a && b) ≡ true
both-true a b e f = ap (λ x. x && b) e ∙ f

-- an expression is simple where it is a part
simple : (k : Kind) → is_expression k ≡ true → is_simple_part k ≡ true
simple (kind.Specification s) e = absurd (differ e)
simple kind.Parameter e = absurd (differ e)
simple kind.Default e = absurd (differ e)
simple k e = refl

clear-whole : (new p : Tree) → is_clear [] (whole new) p ≡ true
clear-whole new (node k i j ps) = refl

-- the part with this number
pub record IsPart (c : Category) (k : Kind) (ps : Trees) (n : ℕ) (d : Category) (p : Tree) : Type 0 where
  pub there : subtree_in n [] ps ≡ Some p
  pub asked : asked_in (rule (place_of c) k) n [] ps ≡ Some d
  pub holds : may_hold_holes k ≡ true

module _ (o : Bool) (c : Category) (k : Kind) (a b : ℕ) (ps : Trees) (n : ℕ) (d : Category) (p : Tree) (at : IsPart c k ps n d p) where
  -- what is below the part
  pub deeper : (i j : ℕ) (h : Below (gives_operands k n) d p i j) → may_change k n (h.part ∷ h.path) ≡ true → Below o c (node k a b ps) i j
  deeper i j h m =
      let path : List ℕ = h.part ∷ h.path in
      record {
        part = n;
        path = path;
        stood = h.stood;
        category = h.category;
        at_path = subtree-part p path n ps at.there ∙ h.at_path;
        asked = asked-part p path d (rule (place_of c) k) n ps at.there at.asked ∙ h.asked;
        takes = h.takes;
        expression = h.expression;
        begins = h.begins;
        ends = h.ends;
        clear = λ new. both-true (may_change k n path) (is_clear_in n path (whole new) ps) m (clear-part p path new n ps at.there ∙ h.clear new);
        named = both-true (may_hold_holes k) (part_named o k n n path ps) at.holds (named-part p path o k n n ps at.there ∙ h.named);
      }

  -- by a path through the part
  pub deeper-path : (i j : ℕ) (h : Below (gives_operands k n) d p i j) (m : may_change k n (h.part ∷ h.path) ≡ true) → ((deeper i j h m).part ≡ n) × ((deeper i j h m).path ≡ h.part ∷ h.path)
  unfolding deeper
  deeper-path i j h m = (refl, refl)

  -- the part itself
  pub itself : is_expression (kind_of p) ≡ true → takes_level level.Primary d ≡ true → may_be_replaced o k n ≡ true → may_change k n [] ≡ true → Below o c (node k a b ps) (first p) (last p)
  itself e t r m = record {
    part = n;
    path = [];
    stood = p;
    category = d;
    at_path = at.there;
    asked = at.asked;
    takes = t;
    expression = e;
    begins = refl;
    ends = refl;
    clear = λ new. both-true (may_change k n []) (is_clear_in n [] (whole new) ps) m (clear-part p [] new n ps at.there ∙ clear-whole new p);
    named = both-true (may_hold_holes k) (part_named o k n n [] ps) at.holds (named-part p [] o k n n ps at.there ∙ both-true (may_be_replaced o k n) (is_simple_part (kind_of p)) r (simple (kind_of p) e));
  }

-- ---- expressions

-- Of a part without statements, whatever is told of its names.
pub record Operand (c : Category) (p : Tree) (x : Part) : Type 0 where
  pub begins : first_of x ≡ first p
  pub ends : last_of x ≡ last p
  pub itself : is_whole x ≡ true → (is_expression (kind_of p) ≡ true) × (takes_level level.Primary c ≡ true)
  pub inside : (o : Bool) → AllHoles (Below o c p) (parts_of x)

-- of an expression, by what it is itself and by its parts
pub holes-here : (P : OfHole) (x : Part) → (is_whole x ≡ true → (label_of x).varies ≡ false → P (first_of x) (last_of x)) → AllHoles P (parts_of x) → Holes P x
holes-here P (typed f i j l ps) g h = (by (masses.is_expression f && masses.is_constant l.sort) l.varies g, h) where
  by : (a v : Bool) → (a ≡ true → v ≡ false → P i j) → Here a v (P i j)
  by true false u = u refl refl
  by true true u = tt
  by false v u = tt

-- as a part of a node in which it may be replaced, or where it is no hole
module _ (o : Bool) (c : Category) (k : Kind) (a b : ℕ) (ps : Trees) (n : ℕ) (d : Category) (p : Tree) (at : IsPart c k ps n d p) (m : (path : List ℕ) → may_change k n path ≡ true) where
  pub inner : (x : Part) → Holes (Below (gives_operands k n) d p) x → Holes (Below o c (node k a b ps)) x
  inner x h = holes-weaker (Below (gives_operands k n) d p) (Below o c (node k a b ps)) (λ i j q. deeper o c k a b ps n d p at i j q (m (q.part ∷ q.path))) x h

  pub all-inner : (xs : Typeds TypeTree) → AllHoles (Below (gives_operands k n) d p) xs → AllHoles (Below o c (node k a b ps)) xs
  all-inner xs h = all-weaker (Below (gives_operands k n) d p) (Below o c (node k a b ps)) (λ i j q. deeper o c k a b ps n d p at i j q (m (q.part ∷ q.path))) xs h

  pub operand-part : (x : Part) → Operand d p x → (is_whole x ≡ true → (label_of x).varies ≡ false → may_be_replaced o k n ≡ true) → Holes (Below o c (node k a b ps)) x
  operand-part x h r =
      let P = Below o c (node k a b ps) in
      holes-here P x (λ e v. subst (λ i. P i (last_of x)) (sym h.begins) (subst (λ j. P (first p) j) (sym h.ends) (itself o c k a b ps n d p at (h.itself e).0 (h.itself e).1 (r e v) (m []))))
      (all-inner (parts_of x) (h.inside (gives_operands k n)))
