-- The nodes of a typed expression or type lie as those of its tree do.
use Rattle.std.proofs.Common.{ℕ, ◌<◌, ◌≤◌, Bool, true, false, List, [], ◌∷◌, ◌++◌, Some, None, sym, subst, arith}
use Rattle.go_grammar.specs.declared.kind.Kind.{Kind}
use Rattle.go_grammar.specs.declared.kind.Kind.TheVariants as kind
use Rattle.go_grammar.specs.Trees.{Tree, node, Trees, kind_of, first, last}
use Rattle.go_grammar.specs.Trees as syntax
use Rattle.go_tree.specs.Views.{Tiles}
use Rattle.go_typed.specs.Trees.{row, last_of, sort_of}
use Rattle.go_exprs_rules.specs.Scopes.{Scope, Hint}
use Rattle.go_exprs_rules.specs.Settling.{Part, Take}
use Rattle.go_exprs_rules.specs.Tables.{Parts, is_make, hint, part_scope, held, cut, first_cut, call_parts, has_no_low, bounds_of, bracketed_parts, is_package, selector_parts}
use Rattle.go_exprs_rules.specs.Tables.{layout, takes, all_given, own_faults, is_sound, built_by}
use Rattle.go_exprs_rules.specs.Typing.{typing, typings}
use Rattle.go_stmts_tokens.specs.Lying.{Lies, AllLie}
use Rattle.go_stmts_tokens.proofs.Lying.{EachLie, either_parts, last_given, given_lies, wider, each_wider, each_order, append_lie, one_lies, row_lies, held_lie, all_held_lie, behind_lie, first_cut_lie}
use Rattle.go_stmts_tokens.proofs.Trees.{Set, AllSet, is_outer}

all_given_lie : (ks : List Take) (a b : ℕ) (xs : Parts) → EachLie a b xs → EachLie a b (all_given ks xs)
all_given_lie [] a b xs h = h
all_given_lie (k ∷ ks) a b [] h = h
all_given_lie (k ∷ ks) a b (None ∷ xs) h = all_given_lie ks a b xs h
all_given_lie (k ∷ ks) a b (Some x ∷ xs) h = (given_lies k a b x h.0, subst (λ m. EachLie m b (all_given ks xs)) (sym (last_given k x)) (all_given_lie ks (last_of x) b xs h.1))

-- ---- how parts are laid out

call_lie : (a b : ℕ) (xs : Parts) → EachLie a b xs → EachLie a b (call_parts xs)
call_lie a b [] h = h
call_lie a b (None ∷ xs) h = h
call_lie a b (Some f ∷ xs) h =
    either_parts (EachLie a b) (is_make (sort_of f)) (Some f ∷ first_cut xs) (cut (Some f) ∷ xs) (h.0, first_cut_lie (last_of f) b xs h.1) (first_cut_lie a b (Some f ∷ xs) h)

selector_lie : (a b : ℕ) (xs : Parts) → EachLie a b xs → EachLie a b (selector_parts xs)
selector_lie a b [] h = h
selector_lie a b (None ∷ xs) h = h
selector_lie a b (Some x ∷ []) h = either_parts (EachLie a b) (is_package (sort_of x)) [] (Some x ∷ []) (each_order a b (Some x ∷ []) h) h
selector_lie a b (Some x ∷ y ∷ xs) h = h

bounds_lie : (a b : ℕ) (x : Part) → Lies a b x → EachLie a b (bounds_of (Some x))
bounds_lie a b x h = either_parts (EachLie a b) (has_no_low (Some x)) (None ∷ held (Some x)) (held (Some x)) (held_lie a b x h) (held_lie a b x h)

bracketed_lie : (a b : ℕ) (xs : Parts) → EachLie a b xs → EachLie a b (bracketed_parts xs)
bracketed_lie a b [] h = h
bracketed_lie a b (x ∷ []) h = h
bracketed_lie a b (None ∷ None ∷ ys) h = each_order a b ys h
bracketed_lie a b (None ∷ Some y ∷ ys) h = bounds_lie a b y h.0
bracketed_lie a b (Some x ∷ None ∷ ys) h = (h.0, each_order (last_of x) b ys h.1)
bracketed_lie a b (Some x ∷ Some y ∷ ys) h = (h.0, bounds_lie (last_of x) b y h.1.0)

layout_lie : (k : Kind) (a b : ℕ) (xs : Parts) → EachLie a b xs → EachLie a b (layout k xs)
layout_lie kind.Selector a b xs h = selector_lie a b xs h
layout_lie kind.Bracketed a b xs h = bracketed_lie a b xs h
layout_lie kind.Call a b xs h = call_lie a b xs h
layout_lie kind.Composite a b xs h = first_cut_lie a b xs h
layout_lie kind.LiteralValue a b xs h = h
layout_lie kind.Keyed a b xs h = behind_lie a b xs h
layout_lie kind.Fields a b xs h = all_held_lie a b xs h
layout_lie kind.StructType a b xs h = all_held_lie a b xs h
layout_lie k a b xs h = h

-- ---- a node

-- over parts that lie among its tokens
pub node_lies : (i j : ℕ) (xs : Parts) → i < j → EachLie i j xs → (i ≤ i) × (i < j) × (j ≤ j) × AllLie i j (row xs)
node_lies i j xs u h = (omega arith, u, omega arith, row_lies i j xs h)

built_lies : (s : Scope) (k : Kind) (h : Hint) (i j : ℕ) (ys : Parts) (b : Bool) → i < j → EachLie i j ys → Lies i j (built_by s k h i j ys b)
built_lies s k h i j ys true u g = node_lies i j (all_given (takes s k h ys) ys) u (all_given_lie (takes s k h ys) i j ys g)
built_lies s k h i j ys false u g = node_lies i j ys u g

-- ---- trees

mutual
  pub typing_lies : (s : Scope) (h : Hint) (t : Tree) → Set t → Lies (first t) (last t) (typing s h t)
  typing_lies s h (node k i j ps) g =
      let ys : Parts = layout k (typings s k h ps [] ps) in
      let u : i ≤ i = omega arith in
      built_lies s k h i j ys (is_sound k ys (own_faults s k h i j ys)) g.0 (layout_lie k i j (typings s k h ps [] ps) (typings_lie (is_outer k) s k h ps [] ps i i j u g.1 g.3))

  typings_lie : (o : Bool) (s : Scope) (k : Kind) (h : Hint) (all : Trees) (xs : Parts) (ps : Trees) (a m j : ℕ) → EachLie a m xs → Tiles m j ps → AllSet o ps → EachLie a j (typings s k h all xs ps)
  typings_lie o s k h all xs syntax.none a m j g t u = each_wider a m a j xs (omega arith) t g
  typings_lie o s k h all xs (syntax.more p ps) a m j g t u =
      let x : Part = typing (part_scope s k xs) (hint s k h all xs (kind_of p)) p in
      let n : Lies (first p) (last p) x = typing_lies (part_scope s k xs) (hint s k h all xs (kind_of p)) p u.1 in
      let w : Lies m (last p) x = wider (first p) (last p) m (last p) x t.0 (omega arith) n in
      typings_lie o s k h all (xs ++ Some x ∷ []) ps a (last p) j (append_lie a m (last p) xs (Some x ∷ []) g (one_lies m (last p) x w)) t.2 u.2
  typings_lie o s k h all xs (syntax.skip ps) a m j g t u =
      let v : m ≤ m = omega arith in typings_lie o s k h all (xs ++ None ∷ []) ps a m j (append_lie a m m xs (None ∷ []) g v) t u
