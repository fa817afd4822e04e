-- A hole of a statement whose tokens are counted from its function's first one, in the node that lists the statement.
use Rattle.std.proofs.Common.{◌≡◌, ◌∙◌, ℕ, zero, suc, ◌+◌, ◌-◌, ◌<◌, ◌≤◌, Bool, true, false, List, [], ◌∷◌, Option, Some, None, refl, sym, ap, arith}
use Rattle.std.specs.Prelude.{◌&&◌}
use Rattle.go_tokens.specs.declared.token.TokenKind.{TokenKind}
use Rattle.go_grammar.specs.declared.kind.Category.{Category}
use Rattle.go_grammar.specs.declared.kind.Category.TheVariants as category
use Rattle.go_grammar.specs.declared.kind.Kind.{Kind}
use Rattle.go_grammar.specs.declared.kind.Kind.TheVariants as kind
use Rattle.go_grammar.specs.Categories.{place_of, is_expression}
use Rattle.go_grammar.specs.Grammar.{rule}
use Rattle.go_grammar.specs.Rules.{Items, Rule, End, Then, Maybe, Unless, Many, item}
use Rattle.go_grammar.specs.Trees.{Tree, node, Trees, none, more, skip, kind_of, first, last}
use Rattle.go_rewriting.specs.Lists.{items_at}
use Rattle.go_rewriting.specs.Replacing.{subtree_at, subtree_in, asked_at, asked_in, next_category, next_rule}
use Rattle.go_rewriting.specs.Sites.{whole, is_clear, is_clear_in, may_change}
use Rattle.go_print_laws.specs.Calls.{AreStatements, of_block, of_clause}
use Rattle.go_stmts_defs.specs.Bodies.{based, all_based}
use Rattle.extract_names_derived.specs.Holes.{may_hold_holes, may_be_replaced, gives_operands, is_simple_part}
use Rattle.go_function_trees.specs.Lists.{statements_from}
use Rattle.go_function_holes.specs.Holes.{HoleStands}
use Rattle.go_function_holes.specs.Ways.{may_be_named, part_named}
use Rattle.go_function_holes.proofs.Public.{open-free}
use Rattle.go_function_holes_windows.specs.Statements.{StatementHole}

pub none-some : {A B : Type 0} (x : A) → (let o : Option A = None in o) ≡ Some x → B
none-some x e = absurd cc

pub some-same : {A : Type 0} (x y : A) → Some x ≡ Some y → x ≡ y
some-same x y e = cc

-- a subtree of the tree that is counted so
record BasedAt (b : ℕ) (o : Option Tree) (s : Tree) : Type 0 where
  tree : Tree
  there : o ≡ Some tree
  is : based b tree ≡ s

based-kind : (b : ℕ) (t : Tree) → kind_of (based b t) ≡ kind_of t
based-kind b (node k i j ps) = refl

based-first : (b : ℕ) (t : Tree) → first (based b t) ≡ first t - b
based-first b (node k i j ps) = refl

based-last : (b : ℕ) (t : Tree) → last (based b t) ≡ last t - b
based-last b (node k i j ps) = refl

module _ (b : ℕ) where
  mutual
    subtree-based : (path : List ℕ) (t s : Tree) → subtree_at path (based b t) ≡ Some s → BasedAt b (subtree_at path t) s
    subtree-based [] t s e = record { tree = t; there = refl; is = some-same (based b t) s e }
    subtree-based (n ∷ path) (node k i j ps) s e = subtree-in-based n path ps s e

    subtree-in-based : (n : ℕ) (path : List ℕ) (ps : Trees) (s : Tree) → subtree_in n path (all_based b ps) ≡ Some s → BasedAt b (subtree_in n path ps) s
    subtree-in-based n path none s e = none-some s e
    subtree-in-based zero path (more p ps) s e = subtree-based path p s e
    subtree-in-based (suc n) path (more p ps) s e = subtree-in-based n path ps s e
    subtree-in-based zero path (skip ps) s e = none-some s e
    subtree-in-based (suc n) path (skip ps) s e = subtree-in-based n path ps s e

  mutual
    asked-based : (c : Category) (path : List ℕ) (t : Tree) → asked_at c path (based b t) ≡ asked_at c path t
    asked-based c [] t = refl
    asked-based c (n ∷ path) (node k i j ps) = asked-in-based (rule (place_of c) k) n path ps

    asked-in-based : (r : Rule) (n : ℕ) (path : List ℕ) (ps : Trees) → asked_in r n path (all_based b ps) ≡ asked_in r n path ps
    asked-in-based r n path none = refl
    asked-in-based r zero path (more p ps) = asked-based (next_category r) path p
    asked-in-based r (suc n) path (more p ps) = asked-in-based (next_rule r) n path ps
    asked-in-based r zero path (skip ps) = refl
    asked-in-based r (suc n) path (skip ps) = asked-in-based (next_rule r) n path ps

  module _ (new : Tree) where
    mutual
      clear-based : (path : List ℕ) (t : Tree) → is_clear path (whole new) (based b t) ≡ is_clear path (whole new) t
      clear-based [] (node k i j ps) = refl
      clear-based (n ∷ path) (node k i j ps) = ap (λ z. may_change k n path && z) (clear-in-based n path ps)

      clear-in-based : (n : ℕ) (path : List ℕ) (ps : Trees) → is_clear_in n path (whole new) (all_based b ps) ≡ is_clear_in n path (whole new) ps
      clear-in-based n path none = refl
      clear-in-based zero path (more p ps) = clear-based path p
      clear-in-based (suc n) path (more p ps) = clear-in-based n path ps
      clear-in-based zero path (skip ps) = refl
      clear-in-based (suc n) path (skip ps) = clear-in-based n path ps

  mutual
    named-based : (o : Bool) (path : List ℕ) (t : Tree) → may_be_named o path (based b t) ≡ may_be_named o path t
    named-based o [] t = refl
    named-based o (n ∷ path) (node k i j ps) = ap (λ z. may_hold_holes k && z) (part-named-based o k n n path ps)

    part-named-based : (o : Bool) (k : Kind) (m n : ℕ) (path : List ℕ) (ps : Trees) → part_named o k m n path (all_based b ps) ≡ part_named o k m n path ps
    part-named-based o k m n path none = refl
    part-named-based o k m zero [] (more p ps) = ap (λ q. may_be_replaced o k m && is_simple_part q) (based-kind b p)
    part-named-based o k m zero (l ∷ path) (more p ps) = named-based (gives_operands k m) (l ∷ path) p
    part-named-based o k m (suc n) path (more p ps) = part-named-based o k m n path ps
    part-named-based o k m zero path (skip ps) = refl
    part-named-based o k m (suc n) path (skip ps) = part-named-based o k m n path ps

-- ---- one part of a node

module _ (p : Tree) (path : List ℕ) where
  subtree-part : (n : ℕ) (ps : Trees) → subtree_in n [] ps ≡ Some p → subtree_in n path ps ≡ subtree_at path p
  subtree-part n none e = none-some p e
  subtree-part zero (more q ps) e = ap (subtree_at path) (some-same q p e)
  subtree-part (suc n) (more q ps) e = subtree-part n ps e
  subtree-part zero (skip ps) e = none-some p e
  subtree-part (suc n) (skip ps) e = subtree-part n ps e

  asked-part : (c : Category) (r : Rule) (n : ℕ) (ps : Trees) → subtree_in n [] ps ≡ Some p → asked_in r n [] ps ≡ Some c → asked_in r n path ps ≡ asked_at c path p
  asked-part c r n none e a = none-some p e
  asked-part c r zero (more q ps) e a = ap (asked_at (next_category r) path) (some-same q p e) ∙ ap (λ d. asked_at d path p) (some-same (next_category r) c a)
  asked-part c r (suc n) (more q ps) e a = asked-part c (next_rule r) n ps e a
  asked-part c r zero (skip ps) e a = none-some p e
  asked-part c r (suc n) (skip ps) e a = asked-part c (next_rule r) n ps e a

  clear-part : (new : Tree) (n : ℕ) (ps : Trees) → subtree_in n [] ps ≡ Some p → is_clear_in n path (whole new) ps ≡ is_clear path (whole new) p
  clear-part new n none e = none-some p e
  clear-part new zero (more q ps) e = ap (is_clear path (whole new)) (some-same q p e)
  clear-part new (suc n) (more q ps) e = clear-part new n ps e
  clear-part new zero (skip ps) e = none-some p e
  clear-part new (suc n) (skip ps) e = clear-part new n ps e

-- the nodes that list statements change as they like
lists-change : (k : Kind) (f n : ℕ) (path : List ℕ) → statements_from k ≡ Some f → may_change k n path ≡ true
lists-change kind.Block f n path e = (open-free kind.Block refl refl).change n path
lists-change kind.Default f n path e = (open-free kind.Default refl refl).change n path
lists-change kind.Case f n path e = (open-free kind.Case refl refl).change n path
lists-change k f n path e = none-some f e

both-true : (a b : Bool) → a ≡ true → b ≡ true → (a && b) ≡ true
both-true a b e f = ap (λ x. x && b) e ∙ f

pub list-item : (l : Items) → AreStatements l → item l ≡ category.Statement
list-item l of_block = refl
list-item l of_clause = refl

many-asked : (n : ℕ) (ws : List TokenKind) (l : Items) (ps : Trees) (p : Tree) → subtree_in n [] ps ≡ Some p → asked_in (Many ws l) n [] ps ≡ Some (item l)
many-asked n ws l none p t = none-some p t
many-asked zero ws l (more q ps) p t = refl
many-asked (suc n) ws l (more q ps) p t = many-asked n ws l ps p t
many-asked zero ws l (skip ps) p t = none-some p t
many-asked (suc n) ws l (skip ps) p t = many-asked n ws l ps p t

-- what is asked for behind so many parts of a right side
pub items-asked : (f n : ℕ) (r : Rule) (l : Items) (ps : Trees) (p : Tree) → items_at f r ≡ Some l → f ≤ n → subtree_in n [] ps ≡ Some p → asked_in r n [] ps ≡ Some (item l)
items-asked f n (Many ws m) l ps p e u t = many-asked n ws m ps p t ∙ ap (λ x. Some (item x)) (some-same m l e)
items-asked f n (End ws) l ps p e u t = none-some l e
items-asked zero n (Then ws c r) l ps p e u t = none-some l e
items-asked zero n (Maybe ws c r) l ps p e u t = none-some l e
items-asked zero n (Unless ws c us r) l ps p e u t = none-some l e
items-asked (suc f) zero r l ps p e u t = absurd (omega (arith, u))
items-asked (suc f) (suc n) r l none p e u t = none-some p t
items-asked (suc f) (suc n) (Then ws c r) l (more q ps) p e u t = items-asked f n r l ps p e (omega (arith, u)) t
items-asked (suc f) (suc n) (Then ws c r) l (skip ps) p e u t = items-asked f n r l ps p e (omega (arith, u)) t
items-asked (suc f) (suc n) (Maybe ws c r) l (more q ps) p e u t = items-asked f n r l ps p e (omega (arith, u)) t
items-asked (suc f) (suc n) (Maybe ws c r) l (skip ps) p e u t = items-asked f n r l ps p e (omega (arith, u)) t
items-asked (suc f) (suc n) (Unless ws c us r) l (more q ps) p e u t = items-asked f n r l ps p e (omega (arith, u)) t
items-asked (suc f) (suc n) (Unless ws c us r) l (skip ps) p e u t = items-asked f n r l ps p e (omega (arith, u)) t

module _ (c : Category) (k : Kind) (i j : ℕ) (ps : Trees) (b f n : ℕ) (p : Tree) (lists : statements_from k ≡ Some f) (there : subtree_in n [] ps ≡ Some p) (is_asked : asked_in (rule (place_of c) k) n [] ps ≡ Some category.Statement)
    (inside : (path : List ℕ) (s : Tree) → subtree_at path p ≡ Some s → (b ≤ first s) × (first s < last s)) where
  -- it stands in the node
  pub hole-stands : (x y : ℕ) → StatementHole (based b p) x y → HoleStands c (node k i j ps) n (b + x) (b + y)
  hole-stands x y h =
      let path : List ℕ = h.part ∷ h.path in
      let at = subtree-based b path p h.stood h.at_path in
      let place = inside path at.tree at.there in
      let kinds : kind_of h.stood ≡ kind_of at.tree = ap kind_of (sym at.is) ∙ based-kind b at.tree in
      let begins : first at.tree - b ≡ x = sym (based-first b at.tree) ∙ (ap first at.is ∙ h.begins) in
      let ends : last at.tree - b ≡ y = sym (based-last b at.tree) ∙ (ap last at.is ∙ h.ends) in
      record {
        part = h.part;
        path = h.path;
        stood = at.tree;
        category = h.category;
        at_path = subtree-part p path n ps there ∙ at.there;
        asked = asked-part p path category.Statement (rule (place_of c) k) n ps there is_asked ∙ (sym (asked-based b category.Statement path p) ∙ h.asked);
        takes = h.takes;
        expression = ap is_expression (sym kinds) ∙ h.expression;
        begins = omega (arith, begins, place.0);
        ends = omega (arith, ends, place.0, place.1);
        clear = λ new. both-true (may_change k n path) (is_clear_in n path (whole new) ps) (lists-change k f n path lists) (clear-part p path new n ps there ∙ (sym (clear-based b new path p) ∙ h.clear new));
        top = p;
        at_statement = there;
        named = sym (named-based b false path p) ∙ h.named;
      }
