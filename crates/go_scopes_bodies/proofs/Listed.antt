-- What a list of statements tells, statement by statement.
use Rattle.std.proofs.Common.{◌≡◌, ◌∙◌, ℕ, zero, suc, Bool, true, false, List, [], ◌∷◌, ◌++◌, Option, refl, sym, ap, append_assoc}
use Rattle.std.specs.Prelude.{◌&&◌, ◌||◌, not}
use Rattle.go_grammar.specs.declared.kind.Kind.{Kind}
use Rattle.go_grammar.specs.declared.kind.Kind.TheVariants as kind
use Rattle.go_grammar.specs.declared.kind.Sort.TheVariants as sort
use Rattle.go_grammar.specs.Trees.{Tree, node, Trees, none, more, skip, kind_of, onto}
use Rattle.go_grammar.specs.Grammar.{ends_named}
use Rattle.go_tree.specs.declared.context.Context.{Context}
use Rattle.go_tree.specs.declared.context.Role.TheVariants as role
use Rattle.go_tree.specs.declared.event.Event.{Event}
use Rattle.go_tree.specs.Contexts as contexts
use Rattle.go_tree.specs.Contexts.{block_in, end_in, role_in, site_in, specification_in, source_of, source_in, source_at, group_in, parameters_in, initial_in, typed_site, sequence_site, enter}
use Rattle.go_tree.specs.Events.{own_events, statement_events, is_more, pass, begin, events, events_of}
use Rattle.go_scopes_bodies.specs.Listed.{list_context, told_list, is_specification, AreStatements, TellsStatements}
use Rattle.go_scopes_bodies.proofs.Carried.{same_tokens, same_tests}

-- ---- the number of a part among its parent's is read of names alone

module _ (c : Context) (x : ℕ) where
  abbrev d : Context
  d = record c { column = x }

  role_column : (k : Kind) (i j : ℕ) (named : Bool) (n : ℕ) (p : Tree) → role_in d k i j named n p ≡ role_in c k i j named n p
  role_column (kind.Specification sort.Constant) i j named n p = refl
  role_column (kind.Specification sort.Variable) i j named n p = refl
  role_column kind.Define i j named n p = refl
  role_column kind.DefiningRange i j named n p = refl
  role_column kind.NameList i j named n p = refl
  role_column kind.NewNames i j named n p = refl
  role_column kind.ExpressionList i j named n p = refl
  role_column kind.Call i j named n p = refl
  role_column kind.Parenthesized i j named n p = refl
  role_column kind.Selector i j named n p = refl
  role_column kind.Fields i j named n p = refl
  role_column kind.Keyed i j named n p = refl
  role_column kind.Parameters i j named n p = refl
  role_column kind.Parameter i j named n p = refl
  role_column k i j named n p = refl

  typed_column : (n : ℕ) (p : Tree) → typed_site d n p ≡ typed_site c n p
  typed_column zero p = refl
  typed_column (suc n) p = refl

  sequence_column : (ps : Trees) (n : ℕ) → sequence_site d ps n ≡ sequence_site c ps n
  sequence_column ps zero = refl
  sequence_column ps (suc n) = refl

  site_column : (k : Kind) (i : ℕ) (ps : Trees) (n : ℕ) (p : Tree) → site_in d k i ps n p ≡ site_in c k i ps n p
  site_column (kind.Specification sort.Type) i ps n p = refl
  site_column (kind.Specification sort.Constant) i ps n p = refl
  site_column (kind.Specification sort.Variable) i ps n p = refl
  site_column kind.Values i ps n p = refl
  site_column kind.TypedValues i ps n p = typed_column n p
  site_column kind.ExpressionList i ps n p = refl
  site_column kind.FunctionDeclaration i ps n p = refl
  site_column kind.SequenceType i ps n p = sequence_column ps n
  site_column kind.FunctionType i ps n p = refl
  site_column k i ps n p = refl

  specification_column : (k : Kind) (i : ℕ) → specification_in d k i ≡ specification_in c k i
  specification_column (kind.Specification s) i = refl
  specification_column k i = refl

  source_column : (k : Kind) → source_in d k ≡ source_in c k
  source_column (kind.Declaration s) = refl
  source_column k = refl

  group_column : (k : Kind) (i : ℕ) → group_in d k i ≡ group_in c k i
  group_column kind.StructType i = refl
  group_column kind.Composite i = refl
  group_column kind.LiteralValue i = refl
  group_column kind.Parameters i = refl
  group_column k i = refl

  function_column : (j : ℕ) (ps : Trees) (n : ℕ) (p : Tree) → contexts.function_parameters d j ps n p ≡ contexts.function_parameters c j ps n p
  function_column j ps zero p = refl
  function_column j ps (suc n) p = refl

  parameters_column : (k : Kind) (j : ℕ) (ps : Trees) (n : ℕ) (p : Tree) → parameters_in d k j ps n p ≡ parameters_in c k j ps n p
  parameters_column kind.FunctionDeclaration j ps n p = function_column j ps n p
  parameters_column kind.FunctionType j ps n p = refl
  parameters_column k j ps n p = refl

  constant_column : (k : Kind) → contexts.constant_in d k ≡ contexts.constant_in c k
  constant_column (kind.Declaration s) = refl
  constant_column k = refl

  typed_initial_column : (n : ℕ) → contexts.typed_initial d n ≡ contexts.typed_initial c n
  typed_initial_column zero = refl
  typed_initial_column (suc n) = refl

  initial_column : (k : Kind) (n : ℕ) → initial_in d k n ≡ initial_in c k n
  initial_column kind.Values n = refl
  initial_column kind.TypedValues n = typed_initial_column n
  initial_column k n = refl

  breaks_column : (k : Kind) → contexts.breaks_in d k ≡ contexts.breaks_in c k
  breaks_column kind.For = refl
  breaks_column kind.Switch = refl
  breaks_column k = refl

  continues_column : (k : Kind) → contexts.continues_in d k ≡ contexts.continues_in c k
  continues_column kind.For = refl
  continues_column k = refl

  falls_column : (k : Kind) (b : Bool) → contexts.falls_in d k b ≡ contexts.falls_in c k b
  falls_column kind.Case b = refl
  falls_column kind.Default b = refl
  falls_column k b = refl

  enter_column : (k : Kind) (i j : ℕ) (ps : Trees) (named : Bool) (n : ℕ) (p : Tree) (b : Bool) → enter d k i j ps named n p b ≡ enter c k i j ps named n p b
  enter_column k i j ps named n p b =
      same_tokens (enter d k i j ps named n p b)
      (block_in d k i) (block_in c k i) (end_in d k j) (end_in c k j) (role_in d k i j named n p) (role_in c k i j named n p) (site_in d k i ps n p) (site_in c k i ps n p)
      (specification_in d k i) (specification_in c k i) (source_at d p) (source_at c p) (group_in d k i) (group_in c k i) (parameters_in d k j ps n p) (parameters_in c k j ps n p)
      refl refl (role_column k i j named n p) (site_column k i ps n p) (specification_column k i) refl (group_column k i) (parameters_column k j ps n p)
      ∙ same_tests (enter c k i j ps named n p b)
      (contexts.constant_in d k) (contexts.constant_in c k) (initial_in d k n) (initial_in c k n) (contexts.breaks_in d k) (contexts.breaks_in c k) (contexts.continues_in d k) (contexts.continues_in c k) (contexts.falls_in d k b) (contexts.falls_in c k b)
      (constant_column k) (initial_column k n) (breaks_column k) (continues_column k) (falls_column k b)

row_column : (c : Context) (x : ℕ) (k : Kind) (i j : ℕ) (ps : Trees) (n : ℕ) (qs : Trees) → events_of (record c { column = x }) k i j ps n qs ≡ events_of c k i j ps n qs
row_column c x k i j ps n none = refl
row_column c x k i j ps n (skip qs) = row_column c x k i j ps (suc n) qs
row_column c x k i j ps n (more q qs) =
    ap (λ z. events z q ++ events_of (pass (record c { column = x }) q) k i j ps (suc n) qs) (enter_column c x k i j ps (ends_named ps) n q (is_more qs))
    ∙ ap (λ es. events (enter c k i j ps (ends_named ps) n q (is_more qs)) q ++ es) (row_column (pass c q) x k i j ps (suc n) qs)

own_column : (c : Context) (x : ℕ) (k : Kind) (i j : ℕ) (ps : Trees) → own_events (record c { role = role.Operand; column = x }) k i j ps ≡ own_events (record c { role = role.Operand }) k i j ps
own_column c x kind.ImportPath i j ps = refl
own_column c x kind.FunctionDeclaration i j ps = refl
own_column c x (kind.Specification sort.Type) i j ps = refl
own_column c x (kind.Specification sort.Constant) i j ps = refl
own_column c x (kind.Specification sort.Variable) i j ps = refl
own_column c x kind.DeclaredName i j ps = refl
own_column c x kind.Name i j ps = refl
own_column c x kind.Switch i j ps = refl
own_column c x kind.Break i j ps = refl
own_column c x kind.Continue i j ps = refl
own_column c x kind.Fallthrough i j ps = refl
own_column c x k i j ps = refl

tree_column : (c : Context) (x : ℕ) (t : Tree) → events (record c { role = role.Operand; column = x }) t ≡ events (record c { role = role.Operand }) t
tree_column c x (node k i j ps) =
    let b : Context = record c { role = role.Operand } in
    ap (λ es. (statement_events c.listed i j ++ es) ++ events_of (begin (record b { column = x }) k) k i j ps 0 ps) (own_column c x k i j ps)
    ∙ ap (λ (z : Option ℕ). (statement_events c.listed i j ++ own_events b k i j ps) ++ events_of (record b { column = x; source = z }) k i j ps 0 ps) (source_column b x k)
    ∙ ap (λ es. (statement_events c.listed i j ++ own_events b k i j ps) ++ es) (row_column (begin b k) x k i j ps 0 ps)

-- ---- lists

no_source : (s : Option ℕ) (k : Kind) (i : ℕ) (ps : Trees) → is_specification k ≡ false → source_of s k i ps ≡ s
no_source s (kind.Specification x) i ps e = cc
no_source s k i ps e = refl

source_kept : (c : Context) (p : Tree) → is_specification (kind_of p) ≡ false → source_at c p ≡ c.source
source_kept c (node k i j ps) e = no_source c.source k i ps e

no_falls : (b c : Bool) → (b && false && c) ≡ false
no_falls true c = refl
no_falls false c = refl

-- a statement, wherever it stands in the list
abbrev statement_at : Context → ℕ → ℕ → Bool → Context
statement_at c i j falls = record (list_context c i j) { falls = falls }

block_row : (c : Context) (i j : ℕ) (ps : Trees) (n : ℕ) (qs : Trees) → AreStatements qs → events_of c kind.Block i j ps n qs ≡ told_list (list_context c i j) false qs
block_row c i j ps n none h = refl
block_row c i j ps n (skip qs) h = block_row c i j ps (suc n) qs h
block_row c i j ps n (more q qs) h =
    ap (λ (z : Option ℕ). events (record (statement_at c i j false) { column = n; source = z }) q ++ events_of (record c { source = z }) kind.Block i j ps (suc n) qs) (source_kept c q h.0)
    ∙ ap (λ es. es ++ events_of c kind.Block i j ps (suc n) qs) (tree_column (statement_at c i j false) n q)
    ∙ ap (λ es. events (statement_at c i j false) q ++ es) (block_row c i j ps (suc n) qs h.1)

default_row : (c : Context) (i j : ℕ) (ps : Trees) (n : ℕ) (qs : Trees) → AreStatements qs → events_of c kind.Default i j ps n qs ≡ told_list (list_context c i j) c.followed qs
default_row c i j ps n none h = refl
default_row c i j ps n (skip qs) h = default_row c i j ps (suc n) qs h
default_row c i j ps n (more q qs) h =
    ap (λ (z : Option ℕ). events (record (statement_at c i j (c.followed && not (is_more qs))) { column = n; source = z }) q ++ events_of (record c { source = z }) kind.Default i j ps (suc n) qs) (source_kept c q h.0)
    ∙ ap (λ es. es ++ events_of c kind.Default i j ps (suc n) qs) (tree_column (statement_at c i j (c.followed && not (is_more qs))) n q)
    ∙ ap (λ es. events (statement_at c i j (c.followed && not (is_more qs))) q ++ es) (default_row c i j ps (suc n) qs h.1)

case_row : (c : Context) (i j : ℕ) (ps : Trees) (n : ℕ) (qs : Trees) → AreStatements qs → events_of c kind.Case i j ps (suc n) qs ≡ told_list (list_context c i j) c.followed qs
case_row c i j ps n none h = refl
case_row c i j ps n (skip qs) h = case_row c i j ps (suc n) qs h
case_row c i j ps n (more q qs) h =
    ap (λ (z : Option ℕ). events (record (statement_at c i j (c.followed && not (is_more qs))) { column = suc n; source = z }) q ++ events_of (record c { source = z }) kind.Case i j ps (suc (suc n)) qs) (source_kept c q h.0)
    ∙ ap (λ es. es ++ events_of c kind.Case i j ps (suc (suc n)) qs) (tree_column (statement_at c i j (c.followed && not (is_more qs))) (suc n) q)
    ∙ ap (λ es. events (statement_at c i j (c.followed && not (is_more qs))) q ++ es) (case_row c i j ps (suc n) qs h.1)

nothing_behind : (xs : List Event) → xs ++ [] ≡ xs
nothing_behind [] = refl
nothing_behind (x ∷ xs) = ap (λ ys. x ∷ ys) (nothing_behind xs)

pub lists_tell : (c : Context) (i j : ℕ) (ps : Trees) → AreStatements ps → TellsStatements c i j ps
lists_tell c i j ps h = record {
  block = ap (λ es. es ++ events_of c kind.Block i j ps 0 ps) (nothing_behind (statement_events c.listed i j)) ∙ ap (λ es. statement_events c.listed i j ++ es) (block_row c i j ps 0 ps h);
  default = ap (λ es. es ++ events_of c kind.Default i j ps 0 ps) (nothing_behind (statement_events c.listed i j)) ∙ ap (λ es. statement_events c.listed i j ++ es) (default_row c i j ps 0 ps h);
  case =
      λ e f.
      let qs : Trees = more e ps in
      let first : List Event = events (enter c kind.Case i j qs (ends_named qs) 0 e (is_more ps)) e in
      ap (λ es. es ++ events_of c kind.Case i j qs 0 qs) (nothing_behind (statement_events c.listed i j))
      ∙ ap (λ (z : Option ℕ). statement_events c.listed i j ++ (first ++ events_of (record c { source = z }) kind.Case i j qs 1 ps)) (source_kept c e f)
      ∙ ap (λ es. statement_events c.listed i j ++ (first ++ es)) (case_row c i j qs 0 ps h);
}

-- ---- one list behind another

more_onto : (xs ys : Trees) → is_more (onto xs ys) ≡ (is_more xs || is_more ys)
more_onto none ys = refl
more_onto (more p xs) ys = refl
more_onto (skip xs) ys = more_onto xs ys

last_of : (f x y : Bool) → (f && not (x || y)) ≡ ((f && not y) && not x)
last_of true true true = refl
last_of true true false = refl
last_of true false true = refl
last_of true false false = refl
last_of false x y = refl

pub told_onto : (c : Context) (f : Bool) (xs ys : Trees) → told_list c f (onto xs ys) ≡ told_list c (f && not (is_more ys)) xs ++ told_list c f ys
told_onto c f none ys = refl
told_onto c f (skip xs) ys = told_onto c f xs ys
told_onto c f (more p xs) ys =
    ap (λ b. events (record c { falls = f && not b }) p ++ told_list c f (onto xs ys)) (more_onto xs ys)
    ∙ ap (λ b. events (record c { falls = b }) p ++ told_list c f (onto xs ys)) (last_of f (is_more xs) (is_more ys))
    ∙ ap (λ es. events (record c { falls = (f && not (is_more ys)) && not (is_more xs) }) p ++ es) (told_onto c f xs ys)
    ∙ sym (append_assoc (events (record c { falls = (f && not (is_more ys)) && not (is_more xs) }) p) (told_list c (f && not (is_more ys)) xs) (told_list c f ys))
