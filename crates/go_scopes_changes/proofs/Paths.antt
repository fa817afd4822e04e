-- The paths of imports that a tree tells are those of its nodes, and none stands in a declaration.
use Rattle.std.proofs.Common.{◌≡◌, ◌∙◌, ℕ, suc, Bool, true, false, List, [], ◌∷◌, ◌++◌, Some, None, refl, ap}
use Rattle.std.specs.Prelude.{if◌then◌else◌, nat_le, nat_lt, ◌&&◌, ◌||◌}
use Rattle.go_tokens.specs.declared.token.TokenKind.{TokenKind}
use Rattle.go_grammar.specs.declared.kind.Kind.{Kind}
use Rattle.go_grammar.specs.declared.kind.Kind.TheVariants as kind
use Rattle.go_grammar.specs.declared.kind.Sort.TheVariants as sort
use Rattle.go_grammar.specs.declared.kind.Level.{Level}
use Rattle.go_grammar.specs.declared.kind.Level.TheVariants as level
use Rattle.go_grammar.specs.declared.kind.Place.{Place}
use Rattle.go_grammar.specs.declared.kind.Place.TheVariants as place
use Rattle.go_grammar.specs.declared.kind.Category.{Category}
use Rattle.go_grammar.specs.declared.kind.Category.TheVariants as category
use Rattle.go_grammar.specs.Operators.{rank}
use Rattle.go_grammar.specs.Categories.{within, place_of}
use Rattle.go_grammar.specs.Rules.{Items, Rule, End, Then, Maybe, Unless, Many, item}
use Rattle.go_grammar.specs.Trees.{Tree, node, Trees, none, more, skip, kind_of, first, last}
use Rattle.go_grammar.specs.Grammar.{rule, Derives, Spells, Goes, ends_named}
use Rattle.go_tree.specs.Views.{part_at}
use Rattle.go_tree.specs.declared.context.Role.{Role}
use Rattle.go_tree.specs.declared.context.Role.TheVariants as role
use Rattle.go_tree.specs.declared.context.Context.{Context}
use Rattle.go_tree.specs.declared.event.Event.{Event}
use Rattle.go_tree.specs.declared.event.Event.TheVariants as event
use Rattle.go_tree.specs.Contexts.{is_there, enter}
use Rattle.go_tree.specs.Events.{name_events, misplaced, is_default, default_events, second_defaults, function_events, own_events, statement_events, is_more, pass, begin, events, events_of}
use Rattle.go_scopes_events.proofs.Public.{true_false, and_both}

-- ---- the paths in what a tree tells are those of its nodes

abbrev pub paths : List Event → List ℕ
paths [] = []
paths (event.Import n ∷ es) = n ∷ paths es
paths (e ∷ es) = paths es

abbrev own_path : Kind → ℕ → List ℕ → List ℕ
own_path kind.ImportPath i ns = i ∷ ns
own_path k i ns = ns

abbrev mutual
  pub tree_paths : Tree → List ℕ
  tree_paths (node k i j ps) = own_path k i (row_paths ps)

  pub row_paths : Trees → List ℕ
  row_paths none = []
  row_paths (more t ts) = tree_paths t ++ row_paths ts
  row_paths (skip ts) = row_paths ts

paths_append : (es fs : List Event) → paths (es ++ fs) ≡ paths es ++ paths fs
paths_append [] fs = refl
paths_append (event.Import n ∷ es) fs = ap (λ ns. n ∷ ns) (paths_append es fs)
paths_append (e ∷ es) fs = paths_append es fs

statement_paths : (b : Bool) (i j : ℕ) → paths (statement_events b i j) ≡ []
statement_paths true i j = refl
statement_paths false i j = refl

misplaced_paths : (b : Bool) (i j : ℕ) → paths (misplaced b i j) ≡ []
misplaced_paths true i j = refl
misplaced_paths false i j = refl

default_paths : (d b : Bool) (word : ℕ) → paths (default_events d b word) ≡ []
default_paths true true word = refl
default_paths true false word = refl
default_paths false b word = refl

second_paths : (b : Bool) (ps : Trees) → paths (second_defaults b ps) ≡ []
second_paths b none = refl
second_paths b (skip ps) = second_paths b ps
second_paths b (more t ps) =
    paths_append (default_events (is_default (kind_of t)) b (first t)) (second_defaults (b || is_default (kind_of t)) ps)
    ∙ ap (λ xs. xs ++ paths (second_defaults (b || is_default (kind_of t)) ps)) (default_paths (is_default (kind_of t)) b (first t))
    ∙ second_paths (b || is_default (kind_of t)) ps

name_paths : (c : Context) (i : ℕ) (r : Role) → paths (name_events c i r) ≡ []
name_paths c i (role.Parameter g None) = refl
name_paths c i (role.Parameter g (Some s)) = refl
name_paths c i r = refl

function_paths : (b y : Bool) (i j : ℕ) → paths (if b then function_events i j y else []) ≡ []
function_paths true true i j = refl
function_paths true false i j = refl
function_paths false y i j = refl

own_paths : (c : Context) (k : Kind) (i j : ℕ) (ps : Trees) → paths (own_events c k i j ps) ≡ own_path k i []
own_paths c kind.FunctionDeclaration i j ps = function_paths (nat_lt i j) (is_there (part_at ps 1)) i j
own_paths c (kind.Specification sort.Type) i j ps = refl
own_paths c (kind.Specification sort.Constant) i j ps = refl
own_paths c (kind.Specification sort.Variable) i j ps = refl
own_paths c kind.DeclaredName i j ps = name_paths c i c.role
own_paths c kind.Name i j ps = name_paths c i c.role
own_paths c kind.Switch i j ps = second_paths false ps
own_paths c kind.Break i j ps = misplaced_paths c.breaks i j
own_paths c kind.Continue i j ps = misplaced_paths c.continues i j
own_paths c kind.Fallthrough i j ps = misplaced_paths c.falls i j
own_paths c k i j ps = refl

path_front : (k : Kind) (i : ℕ) (ns : List ℕ) → own_path k i [] ++ ns ≡ own_path k i ns
path_front kind.ImportPath i ns = refl
path_front k i ns = refl

mutual
  pub events_paths : (c : Context) (t : Tree) → paths (events c t) ≡ tree_paths t
  events_paths c (node k i j ps) =
      paths_append (statement_events c.listed i j ++ own_events c k i j ps) (events_of (begin c k) k i j ps 0 ps)
      ∙ ap (λ xs. xs ++ paths (events_of (begin c k) k i j ps 0 ps))
      (paths_append (statement_events c.listed i j) (own_events c k i j ps) ∙ ap (λ xs. xs ++ paths (own_events c k i j ps)) (statement_paths c.listed i j) ∙ own_paths c k i j ps)
      ∙ ap (λ xs. own_path k i [] ++ xs) (parts_paths (begin c k) k i j ps 0 ps)
      ∙ path_front k i (row_paths ps)

  parts_paths : (c : Context) (k : Kind) (i j : ℕ) (ps : Trees) (n : ℕ) (qs : Trees) → paths (events_of c k i j ps n qs) ≡ row_paths qs
  parts_paths c k i j ps n none = refl
  parts_paths c k i j ps n (more q qs) =
      paths_append (events (enter c k i j ps (ends_named ps) n q (is_more qs)) q) (events_of (pass c q) k i j ps (suc n) qs)
      ∙ ap (λ xs. xs ++ paths (events_of (pass c q) k i j ps (suc n) qs)) (events_paths (enter c k i j ps (ends_named ps) n q (is_more qs)) q)
      ∙ ap (λ xs. tree_paths q ++ xs) (parts_paths (pass c q) k i j ps (suc n) qs)
  parts_paths c k i j ps n (skip qs) = parts_paths c k i j ps (suc n) qs

-- ---- no path stands in a declaration

abbrev is_import : Kind → Bool
is_import kind.File = true
is_import kind.Imports = true
is_import kind.Import = true
is_import kind.ImportGroup = true
is_import kind.ImportPath = true
is_import k = false

-- the categories that hold none of these
abbrev lacks : Category → Bool
lacks category.File = false
lacks category.Imports = false
lacks category.Import = false
lacks category.ImportBody = false
lacks category.ImportPath = false
lacks c = true

abbrev all_lack : Rule → Bool
all_lack (End ws) = true
all_lack (Then ws c r) = lacks c && all_lack r
all_lack (Maybe ws c r) = lacks c && all_lack r
all_lack (Unless ws c us r) = lacks c && all_lack r
all_lack (Many ws l) = lacks (item l)

above_none : (l : Level) → nat_le (rank l) 0 ≡ false
above_none level.Either = refl
above_none level.Both = refl
above_none level.Comparison = refl
above_none level.Sum = refl
above_none level.Product = refl
above_none level.Unary = refl
above_none level.Primary = refl

no_file : (c : Category) → lacks c ≡ true → within c kind.File ≡ true → ⊥
no_file category.File e h = true_false false e refl
no_file (category.Expression l p) e h = true_false (nat_le (rank l) 0) h (above_none l)
no_file (category.LiteralType place.Free) e h = true_false false h refl
no_file (category.LiteralType place.Header) e h = true_false false h refl
no_file c e h = true_false false h refl

no_imports : (c : Category) → lacks c ≡ true → within c kind.Imports ≡ true → ⊥
no_imports category.Imports e h = true_false false e refl
no_imports (category.Expression l p) e h = true_false (nat_le (rank l) 0) h (above_none l)
no_imports (category.LiteralType place.Free) e h = true_false false h refl
no_imports (category.LiteralType place.Header) e h = true_false false h refl
no_imports c e h = true_false false h refl

no_import : (c : Category) → lacks c ≡ true → within c kind.Import ≡ true → ⊥
no_import category.Import e h = true_false false e refl
no_import (category.Expression l p) e h = true_false (nat_le (rank l) 0) h (above_none l)
no_import (category.LiteralType place.Free) e h = true_false false h refl
no_import (category.LiteralType place.Header) e h = true_false false h refl
no_import c e h = true_false false h refl

no_group : (c : Category) → lacks c ≡ true → within c kind.ImportGroup ≡ true → ⊥
no_group category.ImportBody e h = true_false false e refl
no_group (category.Expression l p) e h = true_false (nat_le (rank l) 0) h (above_none l)
no_group (category.LiteralType place.Free) e h = true_false false h refl
no_group (category.LiteralType place.Header) e h = true_false false h refl
no_group c e h = true_false false h refl

no_path : (c : Category) → lacks c ≡ true → within c kind.ImportPath ≡ true → ⊥
no_path category.ImportBody e h = true_false false e refl
no_path category.ImportPath e h = true_false false e refl
no_path (category.Expression l p) e h = true_false (nat_le (rank l) 0) h (above_none l)
no_path (category.LiteralType place.Free) e h = true_false false h refl
no_path (category.LiteralType place.Header) e h = true_false false h refl
no_path c e h = true_false false h refl

kind_lacks : (k : Kind) (c : Category) → lacks c ≡ true → within c k ≡ true → is_import k ≡ false
kind_lacks kind.File c e h = absurd (no_file c e h)
kind_lacks kind.Imports c e h = absurd (no_imports c e h)
kind_lacks kind.Import c e h = absurd (no_import c e h)
kind_lacks kind.ImportGroup c e h = absurd (no_group c e h)
kind_lacks kind.ImportPath c e h = absurd (no_path c e h)
kind_lacks k c e h = refl

rule_lacks : (p : Place) (k : Kind) → is_import k ≡ false → all_lack (rule p k) ≡ true
rule_lacks p kind.File e = cc
rule_lacks p kind.Imports e = cc
rule_lacks p kind.Import e = cc
rule_lacks p kind.ImportGroup e = cc
rule_lacks p (kind.Specification sort.Constant) e = refl
rule_lacks p (kind.Specification sort.Type) e = refl
rule_lacks p (kind.Specification sort.Variable) e = refl
rule_lacks p k e = refl

own_none : (k : Kind) (i : ℕ) (ns : List ℕ) → is_import k ≡ false → own_path k i ns ≡ ns
own_none kind.ImportPath i ns e = absurd (true_false true refl e)
own_none k i ns e = refl

two_none : (xs ys : List ℕ) → xs ≡ [] → ys ≡ [] → xs ++ ys ≡ []
two_none xs ys a b = ap (λ zs. zs ++ ys) a ∙ b

module _ (ts : List TokenKind) where
  mutual
    pub derives_none : (t : Tree) (c : Category) → lacks c ≡ true → Derives ts c t → tree_paths t ≡ []
    derives_none (node k i j ps) c e h =
        let plain : is_import k ≡ false = kind_lacks k c e h.0 in
        own_none k i (row_paths ps) plain ∙ spells_none ps (rule (place_of c) k) i j (rule_lacks (place_of c) k plain) h.1

    spells_none : (ps : Trees) (r : Rule) (i j : ℕ) → all_lack r ≡ true → Spells ts r i ps j → row_paths ps ≡ []
    spells_none none r i j e h = refl
    spells_none (more p ps) (End ws) i j e h = absurd h
    spells_none (skip ps) (End ws) i j e h = absurd h
    spells_none (more p ps) (Then ws c r) i j e h = let b = and_both (lacks c) (all_lack r) e in two_none (tree_paths p) (row_paths ps) (derives_none p c b.0 h.1) (spells_none ps r (last p) j b.1 h.2)
    spells_none (skip ps) (Then ws c r) i j e h = absurd h
    spells_none (more p ps) (Maybe ws c r) i j e h = let b = and_both (lacks c) (all_lack r) e in two_none (tree_paths p) (row_paths ps) (derives_none p c b.0 h.1) (spells_none ps r (last p) j b.1 h.2)
    spells_none (skip ps) (Maybe ws c r) i j e h = spells_none ps r h.0 j (and_both (lacks c) (all_lack r) e).1 h.2
    spells_none (more p ps) (Unless ws c us r) i j e h = let b = and_both (lacks c) (all_lack r) e in two_none (tree_paths p) (row_paths ps) (derives_none p c b.0 h.1) (spells_none ps r (last p) j b.1 h.2)
    spells_none (skip ps) (Unless ws c us r) i j e h = spells_none ps r h.0 j (and_both (lacks c) (all_lack r) e).1 h.3
    spells_none (more p ps) (Many ws l) i j e h = two_none (tree_paths p) (row_paths ps) (derives_none p (item l) e h.3) (goes_none ps l (last p) j e h.4)
    spells_none (skip ps) (Many ws l) i j e h = absurd h

    goes_none : (ps : Trees) (l : Items) (i j : ℕ) → lacks (item l) ≡ true → Goes ts l i ps j → row_paths ps ≡ []
    goes_none none l i j e h = refl
    goes_none (more p ps) l i j e h = two_none (tree_paths p) (row_paths ps) (derives_none p (item l) e h.3) (goes_none ps l (last p) j e h.4)
    goes_none (skip ps) l i j e h = absurd h
