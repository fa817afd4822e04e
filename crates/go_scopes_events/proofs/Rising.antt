-- The names in what a tree tells stand in the order of their tokens.
use Rattle.std.proofs.Common.{ℕ, suc, ◌<◌, ◌≤◌, Bool, true, false, List, [], ◌∷◌, ◌++◌, Some, None, arith}
use Rattle.std.specs.Prelude.{nat_lt, ◌||◌, if◌then◌else◌}
use Rattle.go_tokens.specs.declared.token.TokenKind.{TokenKind}
use Rattle.go_grammar.specs.declared.kind.Kind.{Kind}
use Rattle.go_grammar.specs.declared.kind.Kind.TheVariants as kind
use Rattle.go_grammar.specs.declared.kind.Sort.TheVariants as sort
use Rattle.go_grammar.specs.declared.kind.Place.{Place}
use Rattle.go_grammar.specs.declared.kind.Category.{Category}
use Rattle.go_grammar.specs.Categories.{place_of}
use Rattle.go_grammar.specs.Rules.{Items, Rule, End, Then, Maybe, Unless, Many, item}
use Rattle.go_grammar.specs.Trees.{Tree, node, Trees, none, more, skip, kind_of, first, last}
use Rattle.go_grammar.specs.Grammar.{rule, Derives, Spells, Goes, ends_named}
use Rattle.go_grammar.proofs.Public.{words_order, gap_order, between_order, spells_order, goes_order, derives_grows}
use Rattle.go_tree.specs.Views.{part_at}
use Rattle.go_tree.specs.declared.context.Role.{Role}
use Rattle.go_tree.specs.declared.context.Role.TheVariants as role
use Rattle.go_tree.specs.declared.context.Context.{Context}
use Rattle.go_tree.specs.declared.event.Event.{Event}
use Rattle.go_tree.specs.declared.event.Event.TheVariants as event
use Rattle.go_tree.specs.Contexts.{is_there, enter}
use Rattle.go_tree.specs.Events.{statement_events, own_events, name_events, function_events, misplaced, is_default, default_events, second_defaults, is_more, pass, begin, events, events_of}
use Rattle.go_scopes_events.specs.Orders.{AreInOrder}

-- the token behind the words of a node that hold its name
abbrev pub behind_name : Kind → ℕ → ℕ
behind_name kind.FunctionDeclaration i = suc (suc i)
behind_name (kind.Specification sort.Type) i = suc i
behind_name kind.DeclaredName i = suc i
behind_name kind.Name i = suc i
behind_name k i = i

abbrev mutual
  -- each node has a token, and its parts lie one after the other behind its name
  pub IsLaidOut : Tree → Type 0
  IsLaidOut (node k i j ps) = (i < j) × LieIn (behind_name k i) j ps

  -- the parts lie one after the other from the token i up to j
  pub LieIn : ℕ → ℕ → Trees → Type 0
  LieIn i j none = i ≤ j
  LieIn i j (more p ps) = (i ≤ first p) × IsLaidOut p × LieIn (last p) j ps
  LieIn i j (skip ps) = LieIn i j ps

pub laid_grows : (t : Tree) → IsLaidOut t → first t < last t
laid_grows (node k i j ps) h = h.0

pub lie_order : (i j : ℕ) (ps : Trees) → LieIn i j ps → i ≤ j
lie_order i j none h = h
lie_order i j (more p ps) h = omega (arith, h.0, laid_grows p h.1, lie_order (last p) j ps h.2)
lie_order i j (skip ps) h = lie_order i j ps h

lie_from : (i k j : ℕ) (ps : Trees) → i ≤ k → LieIn k j ps → LieIn i j ps
lie_from i k j none le h = omega (arith, h)
lie_from i k j (more p ps) le h = (omega (arith, h.0), h.1, h.2)
lie_from i k j (skip ps) le h = lie_from i k j ps le h

module _ (ts : List TokenKind) where
  behind_words : (p : Place) (k : Kind) (ps : Trees) (i j : ℕ) → Spells ts (rule p k) i ps j → LieIn i j ps → LieIn (behind_name k i) j ps
  behind_words p kind.FunctionDeclaration none i j s h = absurd s
  behind_words p kind.FunctionDeclaration (more q ps) i j s h = (omega (arith, s.0.1.1), h.1, h.2)
  behind_words p kind.FunctionDeclaration (skip ps) i j s h = absurd s
  behind_words p (kind.Specification sort.Type) none i j s h = absurd s
  behind_words p (kind.Specification sort.Type) (more q ps) i j s h = (omega (arith, s.0.1), h.1, h.2)
  behind_words p (kind.Specification sort.Type) (skip ps) i j s h = absurd s
  behind_words p kind.DeclaredName none i j s h = omega (arith, s.1)
  behind_words p kind.DeclaredName (more q ps) i j s h = absurd s
  behind_words p kind.DeclaredName (skip ps) i j s h = absurd s
  behind_words p kind.Name none i j s h = omega (arith, s.1)
  behind_words p kind.Name (more q ps) i j s h = absurd s
  behind_words p kind.Name (skip ps) i j s h = absurd s
  behind_words p k ps i j s h = h

  mutual
    pub derives_laid : (t : Tree) (c : Category) → Derives ts c t → IsLaidOut t
    derives_laid (node k i j ps) c h = (derives_grows ts (node k i j ps) c h, behind_words (place_of c) k ps i j h.1 (spells_laid ps (rule (place_of c) k) i j h.1))

    spells_laid : (ps : Trees) (r : Rule) (i j : ℕ) → Spells ts r i ps j → LieIn i j ps
    spells_laid none r i j h = spells_order ts none r i j h
    spells_laid (more p ps) (End ws) i j h = absurd h
    spells_laid (skip ps) (End ws) i j h = absurd h
    spells_laid (more p ps) (Then ws c r) i j h = (words_order ts ws i (first p) h.0, derives_laid p c h.1, spells_laid ps r (last p) j h.2)
    spells_laid (skip ps) (Then ws c r) i j h = absurd h
    spells_laid (more p ps) (Maybe ws c r) i j h = (words_order ts ws i (first p) h.0, derives_laid p c h.1, spells_laid ps r (last p) j h.2)
    spells_laid (skip ps) (Maybe ws c r) i j h = lie_from i h.0 j ps (words_order ts ws i h.0 h.1) (spells_laid ps r h.0 j h.2)
    spells_laid (more p ps) (Unless ws c us r) i j h = (words_order ts ws i (first p) h.0, derives_laid p c h.1, spells_laid ps r (last p) j h.2)
    spells_laid (skip ps) (Unless ws c us r) i j h = lie_from i h.0 j ps (words_order ts ws i h.0 h.1) (spells_laid ps r h.0 j h.3)
    spells_laid (more p ps) (Many ws l) i j h = (omega (arith, words_order ts ws i h.0 h.1, gap_order ts l h.0 (first p) h.2), derives_laid p (item l) h.3, goes_laid ps l (last p) j h.4)
    spells_laid (skip ps) (Many ws l) i j h = absurd h

    goes_laid : (ps : Trees) (l : Items) (i j : ℕ) → Goes ts l i ps j → LieIn i j ps
    goes_laid none l i j h = goes_order ts none l i j h
    goes_laid (more p ps) l i j h = (omega (arith, between_order ts l i h.0 h.1, gap_order ts l h.0 (first p) h.2), derives_laid p (item l) h.3, goes_laid ps l (last p) j h.4)
    goes_laid (skip ps) l i j h = absurd h

-- names that begin later lie in the longer range too
order_from : (i k j : ℕ) (es : List Event) → i ≤ k → AreInOrder k j es → AreInOrder i j es
order_from i k j [] le h = omega (arith, h)
order_from i k j (event.Declaration d ∷ es) le h = (omega (arith, h.0), h.1)
order_from i k j (event.Use u ∷ es) le h = (omega (arith, h.0), h.1)
order_from i k j (e ∷ es) le h = order_from i k j es le h

order_append : (i k j : ℕ) (es fs : List Event) → AreInOrder i k es → AreInOrder k j fs → AreInOrder i j (es ++ fs)
order_append i k j [] fs h g = order_from i k j fs h g
order_append i k j (event.Declaration d ∷ es) fs h g = (h.0, order_append (suc d.name) k j es fs h.1 g)
order_append i k j (event.Use u ∷ es) fs h g = (h.0, order_append (suc u.name) k j es fs h.1 g)
order_append i k j (e ∷ es) fs h g = order_append i k j es fs h g

statement_order : (b : Bool) (i j : ℕ) → AreInOrder i i (statement_events b i j)
statement_order true i j = omega arith
statement_order false i j = omega arith

misplaced_order : (b : Bool) (i j : ℕ) → AreInOrder i i (misplaced b i j)
misplaced_order true i j = omega arith
misplaced_order false i j = omega arith

default_order : (d b : Bool) (i word : ℕ) → AreInOrder i i (default_events d b word)
default_order true true i word = omega arith
default_order true false i word = omega arith
default_order false b i word = omega arith

second_order : (b : Bool) (i : ℕ) (ps : Trees) → AreInOrder i i (second_defaults b ps)
second_order b i none = omega arith
second_order b i (skip ps) = second_order b i ps
second_order b i (more p ps) = order_append i i i (default_events (is_default (kind_of p)) b (first p)) (second_defaults (b || is_default (kind_of p)) ps) (default_order (is_default (kind_of p)) b i (first p)) (second_order (b || is_default (kind_of p)) i ps)

name_order : (c : Context) (i : ℕ) (r : Role) → AreInOrder i (suc i) (name_events c i r)
name_order c i (role.New d) = (omega arith, omega arith)
name_order c i (role.Field g) = omega arith
name_order c i (role.Key g) = omega arith
name_order c i (role.Parameter g None) = omega arith
name_order c i (role.Parameter g (Some s)) = (omega arith, omega arith)
name_order c i r = (omega arith, omega arith)

function_order : (i j : ℕ) (b : Bool) → AreInOrder i (suc (suc i)) (function_events i j b)
function_order i j true = (omega arith, omega arith)
function_order i j false = (omega arith, omega arith)

declaration_order : (b : Bool) (i j : ℕ) (ps : Trees) → AreInOrder i (suc (suc i)) (if b then function_events i j (is_there (part_at ps 1)) else [])
declaration_order true i j ps = function_order i j (is_there (part_at ps 1))
declaration_order false i j ps = omega arith

own_order : (c : Context) (k : Kind) (i j : ℕ) (ps : Trees) → AreInOrder i (behind_name k i) (own_events c k i j ps)
own_order c kind.FunctionDeclaration i j ps = declaration_order (nat_lt i j) i j ps
own_order c (kind.Specification sort.Type) i j ps = (omega arith, omega arith)
own_order c kind.DeclaredName i j ps = name_order c i c.role
own_order c kind.Name i j ps = name_order c i c.role
own_order c kind.Switch i j ps = second_order false i ps
own_order c kind.Break i j ps = misplaced_order c.breaks i j
own_order c kind.Continue i j ps = misplaced_order c.continues i j
own_order c kind.Fallthrough i j ps = misplaced_order c.falls i j
own_order c k i j ps = omega arith

mutual
  pub events_order : (c : Context) (t : Tree) → IsLaidOut t → AreInOrder (first t) (last t) (events c t)
  events_order c (node k i j ps) h =
      order_append i (behind_name k i) j (statement_events c.listed i j ++ own_events c k i j ps) (events_of (begin c k) k i j ps 0 ps)
      (order_append i i (behind_name k i) (statement_events c.listed i j) (own_events c k i j ps) (statement_order c.listed i j) (own_order c k i j ps))
      (parts_order (begin c k) k i j ps 0 ps (behind_name k i) h.1)

  pub parts_order : (c : Context) (k : Kind) (i j : ℕ) (ps : Trees) (n : ℕ) (qs : Trees) (a : ℕ) → LieIn a j qs → AreInOrder a j (events_of c k i j ps n qs)
  parts_order c k i j ps n none a h = h
  parts_order c k i j ps n (more p qs) a h =
      order_append a (last p) j (events (enter c k i j ps (ends_named ps) n p (is_more qs)) p) (events_of (pass c p) k i j ps (suc n) qs)
      (order_from a (first p) (last p) (events (enter c k i j ps (ends_named ps) n p (is_more qs)) p) h.0 (events_order (enter c k i j ps (ends_named ps) n p (is_more qs)) p h.1))
      (parts_order (pass c p) k i j ps (suc n) qs (last p) h.2)
  parts_order c k i j ps n (skip qs) a h = parts_order c k i j ps (suc n) qs a h
