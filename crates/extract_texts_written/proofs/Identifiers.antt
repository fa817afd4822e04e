-- Names that are declared stand at identifiers (Go specification: Declarations and scope).
use Rattle.std.proofs.Common.{ℕ, suc, Bool, true, false, List, [], ◌++◌, Some, None}
use Rattle.std.specs.Prelude.{nat_lt, if◌then◌else◌}
use Rattle.go_tokens.specs.declared.token.TokenKind.{TokenKind}
use Rattle.go_tokens.specs.declared.token.TokenKind.TheVariants as token
use Rattle.go_grammar.specs.declared.kind.Category.{Category}
use Rattle.go_grammar.specs.declared.kind.Kind.{Kind}
use Rattle.go_grammar.specs.declared.kind.Kind.TheVariants as kind
use Rattle.go_grammar.specs.declared.kind.Place.{Place}
use Rattle.go_grammar.specs.declared.kind.Sort.TheVariants as sort
use Rattle.go_grammar.specs.Categories.{place_of}
use Rattle.go_grammar.specs.Grammar.{rule, Derives, Spells, Goes, IsAt, ends_named}
use Rattle.go_grammar.specs.Rules.{Items, Rule, End, Then, Maybe, Unless, Many, item}
use Rattle.go_grammar.specs.Trees.{Tree, node, Trees, none, more, skip, last}
use Rattle.go_tree.specs.Views.{part_at}
use Rattle.go_tree.specs.declared.context.Context.{Context}
use Rattle.go_tree.specs.declared.context.Role.{Role}
use Rattle.go_tree.specs.declared.context.Role.TheVariants as role
use Rattle.go_tree.specs.declared.event.Declaration.{Declaration}
use Rattle.go_tree.specs.Contexts.{is_there, enter}
use Rattle.go_tree.specs.Events.{statement_events, own_events, name_events, function_events, is_more, pass, begin, events, events_of}
use Rattle.go_scopes_events.specs.Orders.{EachDeclared}
use Rattle.go_scopes_events.proofs.Public.{each_append, misplaced_each, second_each, statement_each}

module _ (ts : List TokenKind) where
  -- it is declared at an identifier
  abbrev pub IsNamed : Declaration → Type 0
  IsNamed d = IsAt ts d.name token.Identifier

  name_each : (c : Context) (i : ℕ) (r : Role) → IsAt ts i token.Identifier → EachDeclared IsNamed (name_events c i r)
  name_each c i (role.New d) h = (h, tt)
  name_each c i (role.Field group) h = tt
  name_each c i (role.Key group) h = tt
  name_each c i (role.Parameter group None) h = tt
  name_each c i (role.Parameter group (Some s)) h = (h, tt)
  name_each c i r h = tt

  function_each : (i j : ℕ) (b : Bool) → IsAt ts (suc i) token.Identifier → EachDeclared IsNamed (function_events i j b)
  function_each i j true h = (h, tt)
  function_each i j false h = (h, tt)

  declaration_each : (b : Bool) (i j : ℕ) (ps : Trees) → IsAt ts (suc i) token.Identifier → EachDeclared IsNamed (if b then function_events i j (is_there (part_at ps 1)) else [])
  declaration_each true i j ps h = function_each i j (is_there (part_at ps 1)) h
  declaration_each false i j ps h = tt

  own_each : (c : Context) (p : Place) (k : Kind) (i j : ℕ) (ps : Trees) → Spells ts (rule p k) i ps j → EachDeclared IsNamed (own_events c k i j ps)
  own_each c p kind.FunctionDeclaration i j none s = absurd s
  own_each c p kind.FunctionDeclaration i j (skip ps) s = absurd s
  own_each c p kind.FunctionDeclaration i j (more q ps) s = declaration_each (nat_lt i j) i j (more q ps) s.0.1.0
  own_each c p (kind.Specification sort.Type) i j none s = absurd s
  own_each c p (kind.Specification sort.Type) i j (skip ps) s = absurd s
  own_each c p (kind.Specification sort.Type) i j (more q ps) s = (s.0.0, tt)
  own_each c p kind.DeclaredName i j none s = name_each c i c.role s.0
  own_each c p kind.DeclaredName i j (more q ps) s = absurd s
  own_each c p kind.DeclaredName i j (skip ps) s = absurd s
  own_each c p kind.Name i j none s = name_each c i c.role s.0
  own_each c p kind.Name i j (more q ps) s = absurd s
  own_each c p kind.Name i j (skip ps) s = absurd s
  own_each c p kind.Switch i j ps s = second_each IsNamed false ps
  own_each c p kind.Break i j ps s = misplaced_each IsNamed c.breaks i j
  own_each c p kind.Continue i j ps s = misplaced_each IsNamed c.continues i j
  own_each c p kind.Fallthrough i j ps s = misplaced_each IsNamed c.falls i j
  own_each c p k i j ps s = tt

  part_each : (c : Context) (k : Kind) (i j : ℕ) (ps : Trees) (n : ℕ) (p : Tree) (qs : Trees) → EachDeclared IsNamed (events (enter c k i j ps (ends_named ps) n p (is_more qs)) p) → EachDeclared IsNamed (events_of (pass c p) k i j ps (suc n) qs)
      → EachDeclared IsNamed (events_of c k i j ps n (more p qs))
  part_each c k i j ps n p qs own rest = each_append IsNamed (events (enter c k i j ps (ends_named ps) n p (is_more qs)) p) (events_of (pass c p) k i j ps (suc n) qs) own rest

  mutual
    pub derives_each : (c : Context) (t : Tree) (g : Category) → Derives ts g t → EachDeclared IsNamed (events c t)
    derives_each c (node k i j ps) g h =
        each_append IsNamed (statement_events c.listed i j ++ own_events c k i j ps) (events_of (begin c k) k i j ps 0 ps)
        (each_append IsNamed (statement_events c.listed i j) (own_events c k i j ps) (statement_each IsNamed c.listed i j) (own_each c (place_of g) k i j ps h.1))
        (spells_each (begin c k) k i j ps 0 ps (rule (place_of g) k) i j h.1)

    spells_each : (c : Context) (k : Kind) (i j : ℕ) (ps : Trees) (n : ℕ) (qs : Trees) (r : Rule) (a b : ℕ) → Spells ts r a qs b → EachDeclared IsNamed (events_of c k i j ps n qs)
    spells_each c k i j ps n none r a b h = tt
    spells_each c k i j ps n (more p qs) (End ws) a b h = absurd h
    spells_each c k i j ps n (skip qs) (End ws) a b h = absurd h
    spells_each c k i j ps n (more p qs) (Then ws g r) a b h = part_each c k i j ps n p qs (derives_each (enter c k i j ps (ends_named ps) n p (is_more qs)) p g h.1) (spells_each (pass c p) k i j ps (suc n) qs r (last p) b h.2)
    spells_each c k i j ps n (skip qs) (Then ws g r) a b h = absurd h
    spells_each c k i j ps n (more p qs) (Maybe ws g r) a b h = part_each c k i j ps n p qs (derives_each (enter c k i j ps (ends_named ps) n p (is_more qs)) p g h.1) (spells_each (pass c p) k i j ps (suc n) qs r (last p) b h.2)
    spells_each c k i j ps n (skip qs) (Maybe ws g r) a b h = spells_each c k i j ps (suc n) qs r h.0 b h.2
    spells_each c k i j ps n (more p qs) (Unless ws g us r) a b h = part_each c k i j ps n p qs (derives_each (enter c k i j ps (ends_named ps) n p (is_more qs)) p g h.1) (spells_each (pass c p) k i j ps (suc n) qs r (last p) b h.2)
    spells_each c k i j ps n (skip qs) (Unless ws g us r) a b h = spells_each c k i j ps (suc n) qs r h.0 b h.3
    spells_each c k i j ps n (more p qs) (Many ws m) a b h = part_each c k i j ps n p qs (derives_each (enter c k i j ps (ends_named ps) n p (is_more qs)) p (item m) h.3) (goes_each (pass c p) k i j ps (suc n) qs m (last p) b h.4)
    spells_each c k i j ps n (skip qs) (Many ws m) a b h = absurd h

    goes_each : (c : Context) (k : Kind) (i j : ℕ) (ps : Trees) (n : ℕ) (qs : Trees) (m : Items) (a b : ℕ) → Goes ts m a qs b → EachDeclared IsNamed (events_of c k i j ps n qs)
    goes_each c k i j ps n none m a b h = tt
    goes_each c k i j ps n (more p qs) m a b h = part_each c k i j ps n p qs (derives_each (enter c k i j ps (ends_named ps) n p (is_more qs)) p (item m) h.3) (goes_each (pass c p) k i j ps (suc n) qs m (last p) b h.4)
    goes_each c k i j ps n (skip qs) m a b h = absurd h
