-- Trees whose tokens are counted from another one, and trees below a part of a tree: paths are the same.
use Rattle.std.proofs.Common.{◌≡◌, ◌∙◌, ℕ, zero, suc, ◌-◌, ◌<◌, ◌≤◌, List, [], ◌∷◌, Option, Some, None, refl, sym, ap, arith}
use Rattle.std.specs.Prelude.{◌&&◌}
use Rattle.go_grammar.specs.declared.kind.Category.{Category}
use Rattle.go_grammar.specs.Categories.{place_of}
use Rattle.go_grammar.specs.Grammar.{rule}
use Rattle.go_grammar.specs.Rules.{Rule}
use Rattle.go_grammar.specs.Trees.{Tree, node, Trees, none, more, skip, kind_of, first, last, parts}
use Rattle.go_rewriting.specs.Lists.{InOrder, Ordered}
use Rattle.go_rewriting.specs.Replacing.{subtree_at, subtree_in, asked_at, asked_in, next_category, next_rule}
use Rattle.go_rewriting.specs.Sites.{items, is_clear, is_clear_in, may_change}
use Rattle.go_stmts_defs.specs.Bodies.{based, all_based}
use Rattle.go_function_trees.specs.Lists.{parts_behind}

-- a subtree of the tree that is counted so
pub record BasedAt (b : ℕ) (o : Option Tree) (s : Tree) : Type 0 where
  pub tree : Tree
  pub there : o ≡ Some tree
  pub is : s ≡ based b tree

pub none-some : {A B : Type 0} (x : A) → (let o : Option A = None in o) ≡ Some x → B
none-some x e = absurd cc

pub some-same : {A : Type 0} (x y : A) → Some x ≡ Some y → x ≡ y
some-same x y e = cc

module _ (b : ℕ) where
  mutual
    pub subtree-based : (path : List ℕ) (t s : Tree) → subtree_at path (based b t) ≡ Some s → BasedAt b (subtree_at path t) s
    subtree-based [] t s e = record { tree = t; there = refl; is = sym (some-same (based b t) s e) }
    subtree-based (n ∷ path) (node k i j ps) s e = subtree-in-based n path ps s e

    subtree-in-based : (n : ℕ) (path : List ℕ) (ps : Trees) (s : Tree) → subtree_in n path (all_based b ps) ≡ Some s → BasedAt b (subtree_in n path ps) s
    subtree-in-based n path none s e = none-some s e
    subtree-in-based zero path (more p ps) s e = subtree-based path p s e
    subtree-in-based (suc n) path (more p ps) s e = subtree-in-based n path ps s e
    subtree-in-based zero path (skip ps) s e = none-some s e
    subtree-in-based (suc n) path (skip ps) s e = subtree-in-based n path ps s e

  mutual
    pub asked-based : (c : Category) (path : List ℕ) (t : Tree) → asked_at c path (based b t) ≡ asked_at c path t
    asked-based c [] t = refl
    asked-based c (n ∷ path) (node k i j ps) = asked-in-based (rule (place_of c) k) n path ps

    asked-in-based : (r : Rule) (n : ℕ) (path : List ℕ) (ps : Trees) → asked_in r n path (all_based b ps) ≡ asked_in r n path ps
    asked-in-based r n path none = refl
    asked-in-based r zero path (more p ps) = asked-based (next_category r) path p
    asked-in-based r (suc n) path (more p ps) = asked-in-based (next_rule r) n path ps
    asked-in-based r zero path (skip ps) = refl
    asked-in-based r (suc n) path (skip ps) = asked-in-based (next_rule r) n path ps

  module _ (f m : ℕ) (new : Trees) where
    mutual
      pub clear-based : (path : List ℕ) (t : Tree) → is_clear path (items f m new) (based b t) ≡ is_clear path (items f m new) t
      clear-based [] (node k i j ps) = refl
      clear-based (n ∷ path) (node k i j ps) = ap (λ z. may_change k n path && z) (clear-in-based n path ps)

      clear-in-based : (n : ℕ) (path : List ℕ) (ps : Trees) → is_clear_in n path (items f m new) (all_based b ps) ≡ is_clear_in n path (items f m new) ps
      clear-in-based n path none = refl
      clear-in-based zero path (more p ps) = clear-based path p
      clear-in-based (suc n) path (more p ps) = clear-in-based n path ps
      clear-in-based zero path (skip ps) = refl
      clear-in-based (suc n) path (skip ps) = clear-in-based n path ps

  pub behind-based : (n : ℕ) (ps : Trees) → parts_behind n (all_based b ps) ≡ all_based b (parts_behind n ps)
  behind-based zero ps = refl
  behind-based (suc n) none = refl
  behind-based (suc n) (more p ps) = behind-based n ps
  behind-based (suc n) (skip ps) = behind-based n ps

  pub based-kind : (t : Tree) → kind_of (based b t) ≡ kind_of t
  based-kind (node k i j ps) = refl

  pub based-first : (t : Tree) → first (based b t) ≡ first t - b
  based-first (node k i j ps) = refl

  pub based-last : (t : Tree) → last (based b t) ≡ last t - b
  based-last (node k i j ps) = refl

  pub based-parts : (t : Tree) → parts (based b t) ≡ all_based b (parts t)
  based-parts (node k i j ps) = refl

-- ---- from a part on

module _ (d : Tree) where
  module _ (path : List ℕ) where
    subtree-in-part : (n : ℕ) (ps : Trees) → subtree_in n [] ps ≡ Some d → subtree_in n path ps ≡ subtree_at path d
    subtree-in-part n none e = none-some d e
    subtree-in-part zero (more p ps) e = ap (subtree_at path) (some-same p d e)
    subtree-in-part (suc n) (more p ps) e = subtree-in-part n ps e
    subtree-in-part zero (skip ps) e = none-some d e
    subtree-in-part (suc n) (skip ps) e = subtree-in-part n ps e

    pub subtree-part : (n : ℕ) (t : Tree) → subtree_at (n ∷ []) t ≡ Some d → subtree_at (n ∷ path) t ≡ subtree_at path d
    subtree-part n (node k i j ps) e = subtree-in-part n ps e

    asked-in-part : (c : Category) (r : Rule) (n : ℕ) (ps : Trees) → subtree_in n [] ps ≡ Some d → asked_in r n [] ps ≡ Some c → asked_in r n path ps ≡ asked_at c path d
    asked-in-part c r n none e a = none-some d e
    asked-in-part c r zero (more p ps) e a = ap (asked_at (next_category r) path) (some-same p d e) ∙ ap (λ q. asked_at q path d) (some-same (next_category r) c a)
    asked-in-part c r (suc n) (more p ps) e a = asked-in-part c (next_rule r) n ps e a
    asked-in-part c r zero (skip ps) e a = none-some d e
    asked-in-part c r (suc n) (skip ps) e a = asked-in-part c (next_rule r) n ps e a

    pub asked-part : (c q : Category) (n : ℕ) (t : Tree) → subtree_at (n ∷ []) t ≡ Some d → asked_at c (n ∷ []) t ≡ Some q → asked_at c (n ∷ path) t ≡ asked_at q path d
    asked-part c q n (node k i j ps) e a = asked-in-part q (rule (place_of c) k) n ps e a

    module _ (f m : ℕ) (new : Trees) where
      pub clear-in-part : (n : ℕ) (ps : Trees) → subtree_in n [] ps ≡ Some d → is_clear_in n path (items f m new) ps ≡ is_clear path (items f m new) d
      clear-in-part n none e = none-some d e
      clear-in-part zero (more p ps) e = ap (is_clear path (items f m new)) (some-same p d e)
      clear-in-part (suc n) (more p ps) e = clear-in-part n ps e
      clear-in-part zero (skip ps) e = none-some d e
      clear-in-part (suc n) (skip ps) e = clear-in-part n ps e

-- ---- tokens

-- the parts that are there have no token in front of this one
abbrev pub From : ℕ → Trees → Type 0
From b none = Unit {0}
From b (more p ps) = (b ≤ first p) × (b ≤ last p) × From b ps
From b (skip ps) = From b ps

in-order : (p : Tree) → InOrder p → first p < last p
in-order (node k i j ps) h = h.0

pub ordered-from : (b i j : ℕ) (ps : Trees) → b ≤ i → Ordered i ps j → From b ps
ordered-from b i j none u h = tt
ordered-from b i j (more p ps) u h =
    let grows = in-order p h.1 in (omega (arith, u, h.0), omega (arith, u, h.0, grows), ordered-from b (last p) j ps (omega (arith, u, h.0, grows)) h.2)
ordered-from b i j (skip ps) u h = ordered-from b i j ps u h

pub behind-from : (b n : ℕ) (ps : Trees) → From b ps → From b (parts_behind n ps)
behind-from b zero ps h = h
behind-from b (suc n) none h = tt
behind-from b (suc n) (more p ps) h = behind-from b n ps h.2
behind-from b (suc n) (skip ps) h = behind-from b n ps h
