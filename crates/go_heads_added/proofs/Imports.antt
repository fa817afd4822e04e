-- What a file with a function behind its declarations imports.
use Rattle.std.proofs.Common.{◌≡◌, ◌∙◌, ℕ, suc, ◌<◌, ◌≤◌, Bool, true, false, ◌&&◌, ◌||◌, List, [], ◌∷◌, ◌++◌, map, Some, None, refl, ap, arith}
use Rattle.std.specs.Prelude.{if◌then◌else◌, nat_le, nat_lt}
use Rattle.go_tokens.specs.Tokens.{TokenList}
use Rattle.go_tokens.specs.declared.token.TokenKind.{TokenKind}
use Rattle.go_grammar.specs.declared.kind.Kind.{Kind}
use Rattle.go_grammar.specs.declared.kind.Kind.TheVariants as kind
use Rattle.go_grammar.specs.declared.kind.Level.{Level}
use Rattle.go_grammar.specs.declared.kind.Level.TheVariants as level
use Rattle.go_grammar.specs.declared.kind.Place.{Place}
use Rattle.go_grammar.specs.declared.kind.Place.TheVariants as place
use Rattle.go_grammar.specs.declared.kind.Sort.TheVariants as sort
use Rattle.go_grammar.specs.declared.kind.Category.{Category}
use Rattle.go_grammar.specs.declared.kind.Category.TheVariants as category
use Rattle.go_grammar.specs.Operators.{rank}
use Rattle.go_grammar.specs.Categories.{within, place_of}
use Rattle.go_grammar.specs.Rules.{Items, Rule, End, Then, Maybe, Unless, Many, item}
use Rattle.go_grammar.specs.Trees.{Tree, node, Trees, none, more, skip, kind_of, first, last}
use Rattle.go_grammar.specs.Grammar.{rule, Derives, Spells, Goes, ends_named}
use Rattle.go_tree.specs.Views.{part_at}
use Rattle.go_tree.specs.declared.context.Role.{Role}
use Rattle.go_tree.specs.declared.context.Role.TheVariants as role
use Rattle.go_tree.specs.declared.context.Context.{Context}
use Rattle.go_tree.specs.declared.event.Event.{Event}
use Rattle.go_tree.specs.declared.event.Event.TheVariants as event
use Rattle.go_tree.specs.Contexts.{is_there, enter}
use Rattle.go_tree.specs.Events.{statement_events, own_events, name_events, function_events, misplaced, is_default, default_events, second_defaults, is_more, pass, begin, events, events_of}
use Rattle.go_tree.specs.Imports.{is_fmt_value, is_fmt_path, imports_fmt}
use Rattle.go_tree.specs.Units.{word}
use Rattle.go_scopes_events.proofs.Public.{IsLaidOut, LieIn, and_both, behind_name, lie_order}
use Rattle.go_heads_added.specs.Added.{reaching}

-- ---- what holds of each path

abbrev EachPath : (ℕ → Type 0) → List Event → Type 0
EachPath Q [] = Unit {0}
EachPath Q (event.Import p ∷ es) = Q p × EachPath Q es
EachPath Q (e ∷ es) = EachPath Q es

path_append : (Q : ℕ → Type 0) (es fs : List Event) → EachPath Q es → EachPath Q fs → EachPath Q (es ++ fs)
path_append Q [] fs h g = g
path_append Q (event.Import p ∷ es) fs h g = (h.0, path_append Q es fs h.1 g)
path_append Q (e ∷ es) fs h g = path_append Q es fs h g

statement_path : (Q : ℕ → Type 0) (b : Bool) (i j : ℕ) → EachPath Q (statement_events b i j)
statement_path Q true i j = tt
statement_path Q false i j = tt

misplaced_path : (Q : ℕ → Type 0) (b : Bool) (i j : ℕ) → EachPath Q (misplaced b i j)
misplaced_path Q true i j = tt
misplaced_path Q false i j = tt

default_path : (Q : ℕ → Type 0) (d b : Bool) (w : ℕ) → EachPath Q (default_events d b w)
default_path Q true true w = tt
default_path Q true false w = tt
default_path Q false b w = tt

second_path : (Q : ℕ → Type 0) (b : Bool) (ps : Trees) → EachPath Q (second_defaults b ps)
second_path Q b none = tt
second_path Q b (skip ps) = second_path Q b ps
second_path Q b (more p ps) = path_append Q (default_events (is_default (kind_of p)) b (first p)) (second_defaults (b || is_default (kind_of p)) ps) (default_path Q (is_default (kind_of p)) b (first p)) (second_path Q (b || is_default (kind_of p)) ps)

function_path : (Q : ℕ → Type 0) (b d : Bool) (i j : ℕ) → EachPath Q (if b then function_events i j d else [])
function_path Q true true i j = tt
function_path Q true false i j = tt
function_path Q false d i j = tt

name_path : (Q : ℕ → Type 0) (c : Context) (i : ℕ) (r : Role) → EachPath Q (name_events c i r)
name_path Q c i (role.New d) = tt
name_path Q c i (role.Field g) = tt
name_path Q c i (role.Key g) = tt
name_path Q c i (role.Parameter g None) = tt
name_path Q c i (role.Parameter g (Some s)) = tt
name_path Q c i r = tt

-- a node that imports
abbrev Imports : (ℕ → Type 0) → Kind → ℕ → Type 0
Imports Q kind.ImportPath i = Q i
Imports Q k i = Unit {0}

own_path : (Q : ℕ → Type 0) (c : Context) (k : Kind) (i j : ℕ) (ps : Trees) → Imports Q k i → EachPath Q (own_events c k i j ps)
own_path Q c kind.ImportPath i j ps h = (h, tt)
own_path Q c kind.FunctionDeclaration i j ps h = function_path Q (nat_lt i j) (is_there (part_at ps 1)) i j
own_path Q c (kind.Specification sort.Type) i j ps h = tt
own_path Q c kind.DeclaredName i j ps h = name_path Q c i c.role
own_path Q c kind.Name i j ps h = name_path Q c i c.role
own_path Q c kind.Switch i j ps h = second_path Q false ps
own_path Q c kind.Break i j ps h = misplaced_path Q c.breaks i j
own_path Q c kind.Continue i j ps h = misplaced_path Q c.continues i j
own_path Q c kind.Fallthrough i j ps h = misplaced_path Q c.falls i j
own_path Q c k i j ps h = tt

module _ (Q : ℕ → Type 0) where
  abbrev mutual
    -- what holds of the paths of a tree
    ImportsAll : Tree → Type 0
    ImportsAll (node k i j ps) = Imports Q k i × AllImport ps

    AllImport : Trees → Type 0
    AllImport none = Unit {0}
    AllImport (more p ps) = ImportsAll p × AllImport ps
    AllImport (skip ps) = AllImport ps

  mutual
    tree_path : (c : Context) (t : Tree) → ImportsAll t → EachPath Q (events c t)
    tree_path c (node k i j ps) h =
        path_append Q (statement_events c.listed i j ++ own_events c k i j ps) (events_of (begin c k) k i j ps 0 ps)
        (path_append Q (statement_events c.listed i j) (own_events c k i j ps) (statement_path Q c.listed i j) (own_path Q c k i j ps h.0))
        (parts_path (begin c k) k i j ps 0 ps h.1)

    parts_path : (c : Context) (k : Kind) (i j : ℕ) (all : Trees) (n : ℕ) (qs : Trees) → AllImport qs → EachPath Q (events_of c k i j all n qs)
    parts_path c k i j all n none h = tt
    parts_path c k i j all n (skip qs) h = parts_path c k i j all (suc n) qs h
    parts_path c k i j all n (more p qs) h =
        path_append Q (events (enter c k i j all (ends_named all) n p (is_more qs)) p) (events_of (pass c p) k i j all (suc n) qs)
        (tree_path (enter c k i j all (ends_named all) n p (is_more qs)) p h.0) (parts_path (pass c p) k i j all (suc n) qs h.1)

-- ---- paths inside

import_inside : (hi : ℕ) (k : Kind) (i : ℕ) → i < hi → Imports (λ p. p < hi) k i
import_inside hi kind.ImportPath i h = h
import_inside hi k i h = tt

mutual
  paths_inside : (hi : ℕ) (t : Tree) → IsLaidOut t → last t ≤ hi → ImportsAll (λ p. p < hi) t
  paths_inside hi (node k i j ps) l h = (import_inside hi k i (let a = l.0 in omega (arith, a, h)), all_inside hi (behind_name k i) j ps l.1 h)

  all_inside : (hi lo j : ℕ) (ps : Trees) → LieIn lo j ps → j ≤ hi → AllImport (λ p. p < hi) ps
  all_inside hi lo j none l h = tt
  all_inside hi lo j (skip ps) l h = all_inside hi lo j ps l h
  all_inside hi lo j (more p ps) l h = (paths_inside hi p l.1 (let o = lie_order (last p) j ps l.2 in omega (arith, o, h)), all_inside hi (last p) j ps l.2 h)

-- the paths of a tree stand in front of its end
pub paths_in : (hi : ℕ) (c : Context) (t : Tree) → IsLaidOut t → last t ≤ hi → EachPath (λ p. p < hi) (events c t)
paths_in hi c t l h = tree_path (λ p. p < hi) c t (paths_inside hi t l h)

-- ---- declarations import nothing

abbrev is_import : Kind → Bool
is_import kind.File = true
is_import kind.Imports = true
is_import kind.Import = true
is_import kind.ImportGroup = true
is_import kind.ImportPath = true
is_import k = false

abbrev no_import : Category → Bool
no_import category.File = false
no_import category.Imports = false
no_import category.Import = false
no_import category.ImportBody = false
no_import category.ImportPath = false
no_import c = true

abbrev none_imports : Rule → Bool
none_imports (End ws) = true
none_imports (Then ws c r) = no_import c && none_imports r
none_imports (Maybe ws c r) = no_import c && none_imports r
none_imports (Unless ws c us r) = no_import c && none_imports r
none_imports (Many ws l) = no_import (item l)

no_level : (l : Level) → nat_le (rank l) 0 ≡ true → ⊥
no_level level.Either h = cc
no_level level.Both h = cc
no_level level.Comparison h = cc
no_level level.Sum h = cc
no_level level.Product h = cc
no_level level.Unary h = cc
no_level level.Primary h = cc

within_no : (c : Category) (k : Kind) → no_import c ≡ true → is_import k ≡ true → within c k ≡ true → ⊥
within_no category.File k e g h = cc
within_no category.Imports k e g h = cc
within_no category.Import k e g h = cc
within_no category.ImportBody k e g h = cc
within_no category.ImportPath k e g h = cc
within_no (category.Expression l p) kind.File e g h = no_level l h
within_no (category.Expression l p) kind.Imports e g h = no_level l h
within_no (category.Expression l p) kind.Import e g h = no_level l h
within_no (category.Expression l p) kind.ImportGroup e g h = no_level l h
within_no (category.Expression l p) kind.ImportPath e g h = no_level l h
within_no (category.LiteralType place.Free) kind.File e g h = cc
within_no (category.LiteralType place.Free) kind.Imports e g h = cc
within_no (category.LiteralType place.Free) kind.Import e g h = cc
within_no (category.LiteralType place.Free) kind.ImportGroup e g h = cc
within_no (category.LiteralType place.Free) kind.ImportPath e g h = cc
within_no (category.LiteralType place.Header) kind.File e g h = cc
within_no (category.LiteralType place.Header) kind.Imports e g h = cc
within_no (category.LiteralType place.Header) kind.Import e g h = cc
within_no (category.LiteralType place.Header) kind.ImportGroup e g h = cc
within_no (category.LiteralType place.Header) kind.ImportPath e g h = cc
within_no c kind.File e g h = cc
within_no c kind.Imports e g h = cc
within_no c kind.Import e g h = cc
within_no c kind.ImportGroup e g h = cc
within_no c kind.ImportPath e g h = cc
within_no c k e g h = cc

rule_none : (p : Place) (k : Kind) → is_import k ≡ false → none_imports (rule p k) ≡ true
rule_none p kind.File e = cc
rule_none p kind.Imports e = cc
rule_none p kind.Import e = cc
rule_none p kind.ImportGroup e = cc
rule_none p kind.ImportPath e = cc
rule_none p (kind.Specification sort.Constant) e = refl
rule_none p (kind.Specification sort.Type) e = refl
rule_none p (kind.Specification sort.Variable) e = refl
rule_none p k e = refl

import_free : (k : Kind) (i : ℕ) → is_import k ≡ false → Imports (λ p. ⊥) k i
import_free kind.ImportPath i e = absurd cc
import_free k i e = tt

import_or : (c : Category) (k : Kind) → no_import c ≡ true → within c k ≡ true → is_import k ≡ false
import_or c k e h = by (is_import k) refl
  where
    by : (b : Bool) → is_import k ≡ b → is_import k ≡ false
    by true q = absurd (within_no c k e q h)
    by false q = q

module _ (ts : List TokenKind) where
  mutual
    free_tree : (t : Tree) (c : Category) → no_import c ≡ true → Derives ts c t → ImportsAll (λ p. ⊥) t
    free_tree (node k i j ps) c e h =
        let q : is_import k ≡ false = import_or c k e h.0 in
        (import_free k i q, free_parts ps (rule (place_of c) k) i j (rule_none (place_of c) k q) h.1)

    free_parts : (ps : Trees) (r : Rule) (i j : ℕ) → none_imports r ≡ true → Spells ts r i ps j → AllImport (λ p. ⊥) ps
    free_parts none r i j e h = tt
    free_parts (more p ps) (End ws) i j e h = absurd h
    free_parts (skip ps) (End ws) i j e h = absurd h
    free_parts (more p ps) (Then ws c r) i j e h = let b = and_both (no_import c) (none_imports r) e in (free_tree p c b.0 h.1, free_parts ps r (last p) j b.1 h.2)
    free_parts (skip ps) (Then ws c r) i j e h = absurd h
    free_parts (more p ps) (Maybe ws c r) i j e h = let b = and_both (no_import c) (none_imports r) e in (free_tree p c b.0 h.1, free_parts ps r (last p) j b.1 h.2)
    free_parts (skip ps) (Maybe ws c r) i j e h = free_parts ps r h.0 j (and_both (no_import c) (none_imports r) e).1 h.2
    free_parts (more p ps) (Unless ws c us r) i j e h = let b = and_both (no_import c) (none_imports r) e in (free_tree p c b.0 h.1, free_parts ps r (last p) j b.1 h.2)
    free_parts (skip ps) (Unless ws c us r) i j e h = free_parts ps r h.0 j (and_both (no_import c) (none_imports r) e).1 h.3
    free_parts (more p ps) (Many ws l) i j e h = (free_tree p (item l) e h.3, free_items ps l (last p) j e h.4)
    free_parts (skip ps) (Many ws l) i j e h = absurd h

    free_items : (ps : Trees) (l : Items) (i j : ℕ) → no_import (item l) ≡ true → Goes ts l i ps j → AllImport (λ p. ⊥) ps
    free_items none l i j e h = tt
    free_items (more p ps) l i j e h = (free_tree p (item l) e h.3, free_items ps l (last p) j e h.4)
    free_items (skip ps) l i j e h = absurd h

  -- a declaration imports nothing
  pub declaration_imports_nothing : (c : Context) (t : Tree) → Derives ts category.Declaration t → EachPath (λ p. ⊥) (events c t)
  declaration_imports_nothing c t h = tree_path (λ p. ⊥) c t (free_tree t category.Declaration refl h)

-- ---- what is imported

reaching_imports : (e : ℕ) (ts : TokenList) (es : List Event) → imports_fmt ts (map (reaching e) es) ≡ imports_fmt ts es
reaching_imports e ts [] = refl
reaching_imports e ts (event.Import p ∷ es) = ap (λ b. is_fmt_path ts p || b) (reaching_imports e ts es)
reaching_imports e ts (event.Declaration d ∷ es) = reaching_imports e ts es
reaching_imports e ts (event.Use u ∷ es) = reaching_imports e ts es
reaching_imports e ts (event.Member m g i ∷ es) = reaching_imports e ts es
reaching_imports e ts (event.Bodiless i j ∷ es) = reaching_imports e ts es
reaching_imports e ts (event.Statement i j ∷ es) = reaching_imports e ts es
reaching_imports e ts (event.Misplaced i j ∷ es) = reaching_imports e ts es
reaching_imports e ts (event.SecondDefault i ∷ es) = reaching_imports e ts es

none_behind : (ts : TokenList) (fs : List Event) → EachPath (λ p. ⊥) fs → imports_fmt ts fs ≡ false
none_behind ts [] h = refl
none_behind ts (event.Import p ∷ fs) h = absurd h.0
none_behind ts (event.Declaration d ∷ fs) h = none_behind ts fs h
none_behind ts (event.Use u ∷ fs) h = none_behind ts fs h
none_behind ts (event.Member m g i ∷ fs) h = none_behind ts fs h
none_behind ts (event.Bodiless i j ∷ fs) h = none_behind ts fs h
none_behind ts (event.Statement i j ∷ fs) h = none_behind ts fs h
none_behind ts (event.Misplaced i j ∷ fs) h = none_behind ts fs h
none_behind ts (event.SecondDefault i ∷ fs) h = none_behind ts fs h

or_assoc : (a b c : Bool) → a || (b || c) ≡ (a || b) || c
or_assoc true b c = refl
or_assoc false b c = refl

or_none : (a : Bool) → a || false ≡ a
or_none true = refl
or_none false = refl

imports_append : (ts : TokenList) (es fs : List Event) → imports_fmt ts (es ++ fs) ≡ imports_fmt ts es || imports_fmt ts fs
imports_append ts [] fs = refl
imports_append ts (event.Import p ∷ es) fs = ap (λ b. is_fmt_path ts p || b) (imports_append ts es fs) ∙ or_assoc (is_fmt_path ts p) (imports_fmt ts es) (imports_fmt ts fs)
imports_append ts (event.Declaration d ∷ es) fs = imports_append ts es fs
imports_append ts (event.Use u ∷ es) fs = imports_append ts es fs
imports_append ts (event.Member m g i ∷ es) fs = imports_append ts es fs
imports_append ts (event.Bodiless i j ∷ es) fs = imports_append ts es fs
imports_append ts (event.Statement i j ∷ es) fs = imports_append ts es fs
imports_append ts (event.Misplaced i j ∷ es) fs = imports_append ts es fs
imports_append ts (event.SecondDefault i ∷ es) fs = imports_append ts es fs

same_paths : (hi : ℕ) (a b : TokenList) (es : List Event) → ((t : ℕ) → t < hi → word b t ≡ word a t) → EachPath (λ p. p < hi) es → imports_fmt b es ≡ imports_fmt a es
same_paths hi a b [] w h = refl
same_paths hi a b (event.Import p ∷ es) w h = ap (λ x. is_fmt_value x || imports_fmt b es) (w p h.0) ∙ ap (λ x. is_fmt_path a p || x) (same_paths hi a b es w h.1)
same_paths hi a b (event.Declaration d ∷ es) w h = same_paths hi a b es w h
same_paths hi a b (event.Use u ∷ es) w h = same_paths hi a b es w h
same_paths hi a b (event.Member m g i ∷ es) w h = same_paths hi a b es w h
same_paths hi a b (event.Bodiless i j ∷ es) w h = same_paths hi a b es w h
same_paths hi a b (event.Statement i j ∷ es) w h = same_paths hi a b es w h
same_paths hi a b (event.Misplaced i j ∷ es) w h = same_paths hi a b es w h
same_paths hi a b (event.SecondDefault i ∷ es) w h = same_paths hi a b es w h

-- a longer file imports the same
pub imports_kept : (hi end : ℕ) (a b : TokenList) (es added : List Event) → ((t : ℕ) → t < hi → word b t ≡ word a t) → EachPath (λ p. p < hi) es → EachPath (λ p. ⊥) added
    → imports_fmt b (map (reaching end) es ++ added) ≡ imports_fmt a es
imports_kept hi end a b es added w h g =
    imports_append b (map (reaching end) es) added ∙ ap (λ x. imports_fmt b (map (reaching end) es) || x) (none_behind b added g) ∙ or_none (imports_fmt b (map (reaching end) es))
    ∙ reaching_imports end b es ∙ same_paths hi a b es w h
