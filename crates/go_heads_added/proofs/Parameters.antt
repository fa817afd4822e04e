-- What a function with an empty body declares: itself, and its parameters.
use Rattle.std.proofs.Common.{◌≡◌, ◌∙◌, ℕ, zero, suc, ◌<◌, Bool, true, false, List, [], ◌∷◌, ◌++◌, Option, Some, None, refl, ap, append-nil}
use Rattle.std.specs.Prelude.{if◌then◌else◌, nat_lt}
use Rattle.std.proofs.lemmas.Bool.{lt-ltb}
use Rattle.go_tokens.specs.declared.token.TokenKind.{TokenKind}
use Rattle.go_grammar.specs.declared.kind.Kind.{Kind}
use Rattle.go_grammar.specs.declared.kind.Kind.TheVariants as kind
use Rattle.go_grammar.specs.declared.kind.Category.TheVariants as category
use Rattle.go_grammar.specs.Trees.{Tree, node, Trees, none, more, skip, kind_of, last}
use Rattle.go_grammar.specs.Grammar.{Derives, ends_named, is_name}
use Rattle.go_tree.specs.declared.context.Block.TheVariants as block
use Rattle.go_tree.specs.declared.context.Role.{Role}
use Rattle.go_tree.specs.declared.context.Role.TheVariants as role
use Rattle.go_tree.specs.declared.context.Scope.{Scope}
use Rattle.go_tree.specs.declared.context.Context.{Context}
use Rattle.go_tree.specs.declared.event.Declaration.{Declaration}
use Rattle.go_tree.specs.declared.event.Event.{Event}
use Rattle.go_tree.specs.Contexts.{is_called, called_in, if_name, if_first, field_role, key_role, parameter_role, entry_role, role_in, parameters_in, enter}
use Rattle.go_tree.specs.Events.{statement_events, own_events, name_events, function_declared, function_events, is_more, pass, begin, events, events_of}
use Rattle.go_scopes_events.specs.Orders.{EachDeclared}
use Rattle.go_scopes_events.proofs.Public.{Holding, IsPlain, ArePlain, derives_layered, each_append, layer, misplaced_each, second_each, statement_each}
use Rattle.go_heads_added.specs.Appended.{IsParameterOf, context_behind, empty_function}

module _ (s : Scope) where
  -- the parameters, if they have a scope, have this one
  abbrev Given : Option Scope → Type 0
  Given None = Unit {0}
  Given (Some x) = x ≡ s

  -- a name that declares at most a parameter of this scope
  abbrev Fine : Role → Type 0
  Fine (role.New d) = ⊥
  Fine (role.Parameter g x) = Given x
  Fine r = Unit {0}

  called_fine : (r : Role) → Fine (called_in r)
  called_fine role.Called = tt
  called_fine r = tt

  name_fine : (p : Tree) (r : Role) → Fine r → Fine (if_name p r)
  name_fine p r h = elim (is_name (kind_of p)) as (λ b. Fine (if b then r else role.Operand)) [ true ↦ h | false ↦ tt ]

  first_fine : (n : ℕ) (r : Role) → Fine r → Fine (if_first n r)
  first_fine zero r h = h
  first_fine (suc n) r h = tt

  field_fine : (g : Option ℕ) → Fine (field_role g)
  field_fine None = tt
  field_fine (Some g) = tt

  key_fine : (g : Option ℕ) → Fine (key_role g)
  key_fine None = tt
  key_fine (Some g) = tt

  parameter_fine : (g : Option ℕ) (x : Option Scope) → Given x → Fine (parameter_role g x)
  parameter_fine None x h = tt
  parameter_fine (Some g) x h = h

  entry_fine : (named : Bool) (p : Tree) (i : ℕ) (x : Option Scope) → Given x → Fine (entry_role named p i x)
  entry_fine true p i x h = name_fine p (role.Parameter i x) h
  entry_fine false p i x h = tt

  part_fine : (c : Context) (k : Kind) (i j : ℕ) (named : Bool) (n : ℕ) (p : Tree) → layer k ≡ Holding → Fine c.role → Given c.parameters → Fine (role_in c k i j named n p)
  part_fine c (kind.Specification x) i j named n p e r h = absurd cc
  part_fine c kind.Define i j named n p e r h = absurd cc
  part_fine c kind.DefiningRange i j named n p e r h = absurd cc
  part_fine c kind.FunctionDeclaration i j named n p e r h = absurd cc
  part_fine c kind.NameList i j named n p e r h = r
  part_fine c kind.NewNames i j named n p e r h = r
  part_fine c kind.Targets i j named n p e r h = tt
  part_fine c kind.ExpressionList i j named n p e r h = name_fine p c.role r
  part_fine c kind.Call i j named n p e r h = first_fine n role.Called tt
  part_fine c kind.Parenthesized i j named n p e r h = called_fine c.role
  part_fine c kind.Selector i j named n p e r h = name_fine p (role.Selected j (is_called c.role)) tt
  part_fine c kind.Fields i j named n p e r h = first_fine n (field_role c.group) (field_fine c.group)
  part_fine c kind.Keyed i j named n p e r h = first_fine n (key_role c.group) (key_fine c.group)
  part_fine c kind.Parameters i j named n p e r h = entry_fine named p i c.parameters h
  part_fine c kind.Parameter i j named n p e r h = first_fine n (parameter_role c.group c.parameters) (parameter_fine c.group c.parameters h)
  part_fine c k i j named n p e r h = tt

  given_in : (c : Context) (k : Kind) (j : ℕ) (ps : Trees) (n : ℕ) (p : Tree) → layer k ≡ Holding → Given c.parameters → Given (parameters_in c k j ps n p)
  given_in c kind.FunctionDeclaration j ps n p e h = absurd cc
  given_in c kind.FunctionType j ps n p e h = tt
  given_in c k j ps n p e h = h

  abbrev IsOwn : Declaration → Type 0
  IsOwn d = IsParameterOf s.from d

  name_own : (c : Context) (i : ℕ) (r : Role) → Fine r → EachDeclared IsOwn (name_events c i r)
  name_own c i (role.New d) h = absurd h
  name_own c i (role.Field g) h = tt
  name_own c i (role.Key g) h = tt
  name_own c i (role.Parameter g None) h = tt
  name_own c i (role.Parameter g (Some x)) h = (record { entity = refl; manner = refl; block = ap (λ (y : Scope). block.Local y.from) h; scope = ap (λ (y : Scope). y.from) h }, tt)
  name_own c i r h = tt

  own_own : (c : Context) (k : Kind) (i j : ℕ) (ps : Trees) → layer k ≡ Holding → Fine c.role → EachDeclared IsOwn (own_events c k i j ps)
  own_own c kind.FunctionDeclaration i j ps e r = absurd cc
  own_own c (kind.Specification x) i j ps e r = absurd cc
  own_own c kind.DeclaredName i j ps e r = name_own c i c.role r
  own_own c kind.Name i j ps e r = name_own c i c.role r
  own_own c kind.Switch i j ps e r = second_each IsOwn false ps
  own_own c kind.Break i j ps e r = misplaced_each IsOwn c.breaks i j
  own_own c kind.Continue i j ps e r = misplaced_each IsOwn c.continues i j
  own_own c kind.Fallthrough i j ps e r = misplaced_each IsOwn c.falls i j
  own_own c k i j ps e r = tt

  mutual
    -- all declarations of a plain tree are parameters
    tree_own : (c : Context) (t : Tree) → IsPlain t → Fine c.role → Given c.parameters → EachDeclared IsOwn (events c t)
    tree_own c (node k i j ps) h r g =
        each_append IsOwn (statement_events c.listed i j ++ own_events c k i j ps) (events_of (begin c k) k i j ps 0 ps)
        (each_append IsOwn (statement_events c.listed i j) (own_events c k i j ps) (statement_each IsOwn c.listed i j) (own_own c k i j ps h.0 r))
        (parts_own (begin c k) k i j ps 0 ps h.0 h.1 r g)

    parts_own : (c : Context) (k : Kind) (i j : ℕ) (all : Trees) (n : ℕ) (qs : Trees) → layer k ≡ Holding → ArePlain qs → Fine c.role → Given c.parameters → EachDeclared IsOwn (events_of c k i j all n qs)
    parts_own c k i j all n none e h r g = tt
    parts_own c k i j all n (skip qs) e h r g = parts_own c k i j all (suc n) qs e h r g
    parts_own c k i j all n (more p qs) e h r g =
        each_append IsOwn (events (enter c k i j all (ends_named all) n p (is_more qs)) p) (events_of (pass c p) k i j all (suc n) qs)
        (tree_own (enter c k i j all (ends_named all) n p (is_more qs)) p h.0 (part_fine c k i j (ends_named all) n p e r g) (given_in c k j all n p e g))
        (parts_own (pass c p) k i j all (suc n) qs e h.1 r g)

-- What a function with an empty body tells: that it is declared, and what its signature tells.
abbrev pub signature_context : ℕ → ℕ → ℕ → Tree → ℕ → ℕ → Trees → Context
signature_context end i j s a b ps =
    let d : Tree = empty_function i j s a b in
    let all : Trees = more s (more (node kind.Block a b none) none) in
    enter (begin (context_behind end ps d) kind.FunctionDeclaration) kind.FunctionDeclaration i j all (ends_named all) 0 s true

function_own : (i j : ℕ) (b : Bool) → b ≡ true → (if b then function_events i j true else []) ≡ function_declared i j ∷ []
function_own i j b e = ap (λ x. if x then function_events i j true else []) e

pub function_tells : (end i j : ℕ) (s : Tree) (a b : ℕ) (ps : Trees) → i < j
    → events (context_behind end ps (empty_function i j s a b)) (empty_function i j s a b) ≡ function_declared i j ∷ events (signature_context end i j s a b ps) s
function_tells end i j s a b ps l =
    let es : List Event = events (signature_context end i j s a b ps) s in
    ap (λ xs. xs ++ (es ++ [])) (function_own i j (nat_lt i j) (lt-ltb i j l)) ∙ ap (λ xs. function_declared i j ∷ xs) (append-nil es)

-- All that its signature declares are its parameters.
pub parameters_own : (ts : List TokenKind) (end i j : ℕ) (s : Tree) (a b : ℕ) (ps : Trees) → Derives ts category.Declaration (empty_function i j s a b) → EachDeclared (IsParameterOf (last s)) (events (signature_context end i j s a b ps) s)
parameters_own ts end i j s a b ps h =
    tree_own (record { from = last s; to = j }) (signature_context end i j s a b ps) s (derives_layered ts (empty_function i j s a b) category.Declaration h).0 tt refl
