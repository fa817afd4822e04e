-- The nodes of a function that is read of a declaration in the tree of a file lie in order.
use Rattle.std.proofs.Common.{◌≡◌, ℕ, ◌-◌, false, List, [], ◌∷◌, Option, Some, zero, suc, refl, sym, ap, subst, arith}
use Rattle.go_tokens.specs.declared.token.TokenKind.{TokenKind}
use Rattle.go_tokens.specs.Tokens.{kinds}
use Rattle.go_grammar.specs.declared.kind.Category.{Category}
use Rattle.go_grammar.specs.declared.kind.Category.TheVariants as category
use Rattle.go_grammar.specs.declared.kind.Kind.{Kind}
use Rattle.go_grammar.specs.declared.kind.Kind.TheVariants as kind
use Rattle.go_grammar.specs.Categories.{place_of}
use Rattle.go_grammar.specs.Grammar.{rule, Derives, Spells, Goes}
use Rattle.go_grammar.specs.Rules.{Items, Rule, End, Then, Maybe, Unless, Many, item}
use Rattle.go_grammar.specs.Trees.{Tree, node, Trees, none, more, skip, kind_of, first, last}
use Rattle.go_rewriting.specs.Replacing.{subtree_at, subtree_in}
use Rattle.go_tree.specs.Views.{view}
use Rattle.go_types_relations.specs.Renaming.{renamed}
use Rattle.go_typed.specs.Contents.{Content, FuncContent}
use Rattle.go_typed.specs.declared.window.Window.{Window}
use Rattle.go_typed.specs.Windows.{Range}
use Rattle.clone_window.specs.Spans.{range_over}
use Rattle.clone_window.specs.Windows.{window_statements}
use Rattle.param_choose.specs.Holes.{holes_among}
use Rattle.go_exprs_rules.specs.Scopes.{Hint}
use Rattle.go_stmts_defs.specs.Bodies.{based}
use Rattle.go_stmts_defs.specs.Frames.{Frame}
use Rattle.go_stmts_defs.specs.Reading.{Reading, read, reading}
use Rattle.go_function_trees.specs.Functions.{HasTree}
use Rattle.go_function_trees.specs.Lists.{tree_in}
use Rattle.go_stmts_tokens.specs.Lying.{Lies, is_inner, ReadNodesLie}
use Rattle.go_function_holes.specs.Holes.{LieApart}
use Rattle.window_holes_apart.specs.Apart.{WindowHolesLie}
use Rattle.go_function_holes_apart.proofs.Windows.{lie_apart, mapped_lies}

-- ---- a part of a derivation is one

pub record Derived (ts : List TokenKind) (t : Tree) : Type 0 where
  pub category : Category
  pub derives : Derives ts category t

some_same : (t d : Tree) → (let x : Option Tree = Some t in x) ≡ Some d → t ≡ d
some_same t d e = cc

module _ (ts : List TokenKind) (d : Tree) where
  here : (c : Category) (p : Tree) → Derives ts c p → (let x : Option Tree = Some p in x) ≡ Some d → Derived ts d
  here c p h e = record { category = c; derives = subst (Derives ts c) (some_same p d e) h }

  goes_part : (n : ℕ) (l : Items) (i j : ℕ) (ps : Trees) → Goes ts l i ps j → subtree_in n [] ps ≡ Some d → Derived ts d
  goes_part n l i j none h e = absurd cc
  goes_part zero l i j (more p ps) h e = here (item l) p h.3 e
  goes_part (suc n) l i j (more p ps) h e = goes_part n l (last p) j ps h.4 e
  goes_part n l i j (skip ps) h e = absurd h

  spelled_part : (n : ℕ) (r : Rule) (i j : ℕ) (ps : Trees) → Spells ts r i ps j → subtree_in n [] ps ≡ Some d → Derived ts d
  spelled_part n r i j none h e = absurd cc
  spelled_part n (End ws) i j (more p ps) h e = absurd h
  spelled_part n (End ws) i j (skip ps) h e = absurd h
  spelled_part zero (Then ws c r) i j (more p ps) h e = here c p h.1 e
  spelled_part (suc n) (Then ws c r) i j (more p ps) h e = spelled_part n r (last p) j ps h.2 e
  spelled_part n (Then ws c r) i j (skip ps) h e = absurd h
  spelled_part zero (Maybe ws c r) i j (more p ps) h e = here c p h.1 e
  spelled_part (suc n) (Maybe ws c r) i j (more p ps) h e = spelled_part n r (last p) j ps h.2 e
  spelled_part zero (Maybe ws c r) i j (skip ps) h e = absurd cc
  spelled_part (suc n) (Maybe ws c r) i j (skip ps) h e = spelled_part n r h.0 j ps h.2 e
  spelled_part zero (Unless ws c us r) i j (more p ps) h e = here c p h.1 e
  spelled_part (suc n) (Unless ws c us r) i j (more p ps) h e = spelled_part n r (last p) j ps h.2 e
  spelled_part zero (Unless ws c us r) i j (skip ps) h e = absurd cc
  spelled_part (suc n) (Unless ws c us r) i j (skip ps) h e = spelled_part n r h.0 j ps h.3 e
  spelled_part zero (Many ws l) i j (more p ps) h e = here (item l) p h.3 e
  spelled_part (suc n) (Many ws l) i j (more p ps) h e = goes_part n l (last p) j ps h.4 e
  spelled_part n (Many ws l) i j (skip ps) h e = absurd h

  pub top_part : (c : Category) (n : ℕ) (t : Tree) → Derives ts c t → subtree_at (n ∷ []) t ≡ Some d → Derived ts d
  top_part c n (node k i j ps) h e = spelled_part n (rule (place_of c) k) i j ps h.1 e

-- ---- a function

function_inner : (k : Kind) → k ≡ kind.FunctionDeclaration → is_inner k ≡ false
function_inner k e = ap is_inner e

function_by : ReadNodesLie → (ts : List TokenKind) (d : Tree) (s : Frame) (h : Hint) (r : Reading) → Derived ts d → kind_of d ≡ kind.FunctionDeclaration → reading s h (based (first d) d) ≡ r
    → Lies (first d - first d) (last d - first d) (tree_in r)
function_by law ts d s h (read x fs z) g k e = law ts g.category d (first d) s h x fs z g.derives (omega arith) (function_inner (kind_of d) k) e

pub function_lies : ReadNodesLie → (c : Content) (n : ℕ) (f : FuncContent) (h : HasTree c n f) → Lies (first h.declaration - first h.declaration) (last h.declaration - first h.declaration) f.tree
function_lies law c n f h =
    let ts : List TokenKind = kinds h.file.tokens.tokens in
    let d : Tree = h.declaration in
    let a : ℕ = first d - first d in
    let b : ℕ = last d - first d in
    let q : Reading = reading h.read.frame h.read.hint (based (first d) d) in
    let part : Derived ts d = top_part ts d category.File h.part (view h.file.root) h.derived.derives h.at_path in
    let own : Lies a b (tree_in q) = function_by law ts d h.read.frame h.read.hint q part h.is_function refl in
    subst (Lies a b) (sym h.read.is) (mapped_lies (renamed h.name) a b (tree_in q) own)

pub function_holes : ReadNodesLie → WindowHolesLie → (c : Content) (w : Window) (f : FuncContent) (r : Range) → HasTree c w.func f → range_over (window_statements f.tree w) ≡ Some r
    → LieApart r.from (holes_among 0 false (window_statements f.tree w)) r.to
function_holes law windows c w f r h e =
    let d : Tree = h.declaration in
    lie_apart r.from r.to (holes_among 0 false (window_statements f.tree w)) (windows f.tree (first d - first d) (last d - first d) w r (function_lies law c w.func f h) e)
