-- The levels of the template's statements in the new function.
use Rattle.std.proofs.Common.{◌≡◌, ◌∙◌, ℕ, zero, suc, ◌+◌, ◌≤◌, ◌⊎◌, inl, inr, Bool, true, false, not, ◌&&◌, ◌||◌, List, [], ◌∷◌, Some, refl, sym, ap, subst, arith, eqb-true}
use Rattle.std.specs.Prelude.{nat_eq}
use Rattle.go_tokens.specs.declared.token.Token.{Token}
use Rattle.go_tokens.specs.declared.token.TokenKind.{TokenKind}
use Rattle.go_tokens.specs.declared.token.TokenKind.TheVariants as token
use Rattle.go_tokens.specs.Lexing.{width}
use Rattle.go_grammar.specs.declared.kind.Category.{Category}
use Rattle.go_grammar.specs.declared.kind.Category.TheVariants as category
use Rattle.go_grammar.specs.declared.kind.Kind.{Kind}
use Rattle.go_grammar.specs.declared.kind.Kind.TheVariants as kind
use Rattle.go_grammar.specs.declared.kind.Place.{Place}
use Rattle.go_grammar.specs.declared.kind.Place.TheVariants as place
use Rattle.go_grammar.specs.Categories.{is_expression, place_of, within}
use Rattle.go_grammar.specs.Grammar.{rule, Derives}
use Rattle.go_grammar.specs.Rules.{Items, Lines, Open, Each, Again, Rule, End, Then, Maybe, Unless, Many, item}
use Rattle.go_grammar.specs.Trees.{Tree, node, Trees, none, more, skip, depth, depths, kind_of, parts, weight}
use Rattle.go_grammar.proofs.Public.{all, kinds, kinds_at}
use Rattle.go_rewriting.specs.Lists.{Subtree, items_at, run_at, so_many}
use Rattle.go_rewriting.specs.Places.{Change, become, carry, carries, moved_by}
use Rattle.go_rewriting.specs.Replacing.{asked_at, asked_in, moved, subtree_at, subtree_in}
use Rattle.go_rewriting.specs.Sites.{AllWithin, Site, levels, levels_in, patch_of, whole}
use Rattle.go_print_laws.specs.Calls.{AreStatements, of_block, of_clause}
use Rattle.go_print_laws.specs.Trees.{name_at}
use Rattle.go_function_headers.proofs.Public.{carries_depth}
use Rattle.extract_files.specs.Holes.{AreHoles, Hole, name_sites, named, named_tree, path_of}
use Rattle.extract_rewrite_files.proofs.Splits.{same_some}

-- ---- below a node

mutual
  low : (path : List ℕ) (t s : Tree) → subtree_at path t ≡ Some s → depth s ≤ depth t
  low [] t s e = let same : t ≡ s = same_some t s e in omega (arith, ap depth same)
  low (n ∷ path) (node k a b ps) s e = let r = low_among n path ps s e in omega (arith, r)

  low_among : (n : ℕ) (path : List ℕ) (ps : Trees) (s : Tree) → subtree_in n path ps ≡ Some s → depth s ≤ depths ps
  low_among n path none s e = absurd cc
  low_among zero path (more p ps) s e = let r = low path p s e in omega (arith, r)
  low_among (suc n) path (more p ps) s e = let r = low_among n path ps s e in omega (arith, r)
  low_among zero path (skip ps) s e = absurd cc
  low_among (suc n) path (skip ps) s e = low_among n path ps s e

lower : (n : ℕ) (path : List ℕ) (t s : Tree) → subtree_at (n ∷ path) t ≡ Some s → weight (kind_of t) + depth s ≤ depth t
lower n path (node k a b ps) s e = let r = low_among n path ps s e in omega (arith, r)

-- the first step of a path
step : (n : ℕ) (path : List ℕ) (t s : Tree) → subtree_at (n ∷ path) t ≡ Some s → (p : Tree) × (subtree_at (n ∷ []) t ≡ Some p) × (subtree_at path p ≡ Some s)
step n path (node k a b ps) s e = among n ps e
  where
    among : (n : ℕ) (ps : Trees) → subtree_in n path ps ≡ Some s → (p : Tree) × (subtree_in n [] ps ≡ Some p) × (subtree_at path p ≡ Some s)
    among n none e = absurd cc
    among zero (more p ps) e = (p, refl, e)
    among (suc n) (more p ps) e = among n ps e
    among zero (skip ps) e = absurd cc
    among (suc n) (skip ps) e = among n ps e

-- ---- nodes that list statements

abbrev pub lists_statements : Kind → Bool
lists_statements kind.Block = true
lists_statements kind.Case = true
lists_statements kind.Default = true
lists_statements k = false

abbrev is_statement_category : Category → Bool
is_statement_category category.Statement = true
is_statement_category c = false

abbrev lists : Rule → Bool
lists (End ws) = false
lists (Then ws c r) = lists r
lists (Maybe ws c r) = lists r
lists (Unless ws c us r) = lists r
lists (Many ws (Lines b c s e)) = is_statement_category c
lists (Many ws (Open c s)) = true
lists (Many ws (Each c us vs)) = false
lists (Many ws (Again c s)) = false

lists_them : (l : Items) → AreStatements l → (r : Rule) (f : ℕ) → items_at f r ≡ Some l → lists r ≡ true
lists_them l s (End ws) f e = cc
lists_them l s (Then ws c r) zero e = cc
lists_them l s (Then ws c r) (suc f) e = lists_them l s r f e
lists_them l s (Maybe ws c r) zero e = cc
lists_them l s (Maybe ws c r) (suc f) e = lists_them l s r f e
lists_them l s (Unless ws c us r) zero e = cc
lists_them l s (Unless ws c us r) (suc f) e = lists_them l s r f e
lists_them l s (Many ws m) f e = subst (λ m. lists (Many ws m) ≡ true) (one l m (sym e)) (these l s)
  where
    one : (m l : Items) → Some m ≡ Some l → m ≡ l
    one m l e = cc

    these : (l : Items) → AreStatements l → lists (Many ws l) ≡ true
    these l of_block = refl
    these l of_clause = refl

or_not : (a b : Bool) → a ≡ true → (not a || b) ≡ true → b ≡ true
or_not true b e f = f
or_not false b e f = cc

both_not : (a b : Bool) → a ≡ true → b ≡ true → not (a && b) ≡ true → ⊥
both_not true b e f g = (let z : not b ≡ false = ap not f in cc)
both_not false b e f g = cc

abbrev listed : Place → Kind → Bool
listed p k = not (lists (rule p k)) || lists_statements k

free_listed : all (listed place.Free) kinds ≡ true
free_listed = refl

header_listed : all (listed place.Header) kinds ≡ true
header_listed = refl

listing : (p : Place) (k : Kind) → lists (rule p k) ≡ true → lists_statements k ≡ true
listing place.Free k l = or_not (lists (rule place.Free k)) _ l (kinds_at (listed place.Free) free_listed k)
listing place.Header k l = or_not (lists (rule place.Header k)) _ l (kinds_at (listed place.Header) header_listed k)

abbrev apart : Category → Kind → Bool
apart c k = not (lists_statements k && within c k)

abbrev one_level : Kind → Bool
one_level k = nat_eq (weight k) 1

abbrev light : Category → Kind → Bool
light c k = not (within c k) || one_level k

file_apart : all (apart category.File) kinds ≡ true
file_apart = refl

imports_apart : all (apart category.Imports) kinds ≡ true
imports_apart = refl

import_apart : all (apart category.Import) kinds ≡ true
import_apart = refl

declaration_apart : all (apart category.Declaration) kinds ≡ true
declaration_apart = refl

file_light : all (light category.File) kinds ≡ true
file_light = refl

import_light : all (light category.Import) kinds ≡ true
import_light = refl

declaration_light : all (light category.Declaration) kinds ≡ true
declaration_light = refl

abbrev list_light : Kind → Bool
list_light k = not (lists_statements k) || one_level k

lists_light : all list_light kinds ≡ true
lists_light = refl

no_list : (c : Category) → all (apart c) kinds ≡ true → (k : Kind) → lists_statements k ≡ true → within c k ≡ true → ⊥
no_list c h k l w = both_not (lists_statements k) (within c k) l w (kinds_at (apart c) h k)

level_of : (c : Category) → all (light c) kinds ≡ true → (k : Kind) → within c k ≡ true → weight k ≡ 1
level_of c h k w = eqb-true (weight k) 1 (or_not (within c k) _ w (kinds_at (light c) h k))

-- what lists statements adds one level
pub list_level : (k : Kind) → lists_statements k ≡ true → weight k ≡ 1
list_level k l = eqb-true (weight k) 1 (or_not (lists_statements k) _ l (kinds_at list_light lists_light k))

kind_within : (ts : List TokenKind) (c : Category) (t : Tree) → Derives ts c t → within c (kind_of t) ≡ true
kind_within ts c (node k a b ps) d = d.0

-- it lists statements where it has such items
pub lists_them_all : (c : Category) (t : Tree) (l : Items) (f : ℕ) → AreStatements l → items_at f (rule (place_of c) (kind_of t)) ≡ Some l → lists_statements (kind_of t) ≡ true
lists_them_all c t l f s e = listing (place_of c) (kind_of t) (lists_them l s (rule (place_of c) (kind_of t)) f e)

-- ---- two levels stand above it

file_kind : (k : Kind) → within category.File k ≡ true → k ≡ kind.File
file_kind kind.File h = refl
file_kind _ h = cc

imports_kind : (k : Kind) → within category.Imports k ≡ true → k ≡ kind.Imports
imports_kind kind.Imports h = refl
imports_kind _ h = cc

listed_items : (ws : List TokenKind) (l : Items) (n : ℕ) (ps : Trees) (c : Category) → asked_in (Many ws l) n [] ps ≡ Some c → item l ≡ c
listed_items ws l n none c e = absurd cc
listed_items ws l zero (more p ps) c e = same_some (item l) c e
listed_items ws l (suc n) (more p ps) c e = listed_items ws l n ps c e
listed_items ws l zero (skip ps) c e = absurd cc
listed_items ws l (suc n) (skip ps) c e = listed_items ws l n ps c e

-- the parts of a file are its imports and declarations
file_part : (n : ℕ) (ps : Trees) (c : Category) → asked_in (rule place.Free kind.File) n [] ps ≡ Some c → (category.Imports ≡ c) ⊎ (category.Declaration ≡ c)
file_part n none c e = absurd cc
file_part zero (more p ps) c e = inl (same_some category.Imports c e)
file_part (suc n) (more p ps) c e = inr (listed_items [] (Each category.Declaration (token.Semicolon ∷ []) []) n ps c e)
file_part zero (skip ps) c e = absurd cc
file_part (suc n) (skip ps) c e = inr (listed_items [] (Each category.Declaration (token.Semicolon ∷ []) []) n ps c e)

file_parts : (ts : List TokenKind) (n : ℕ) (t : Tree) (c : Category) → Derives ts category.File t → asked_at category.File (n ∷ []) t ≡ Some c → (category.Imports ≡ c) ⊎ (category.Declaration ≡ c)
file_parts ts n (node k a b ps) c d e = file_part n ps c (subst (λ x. asked_in (rule place.Free x) n [] ps ≡ Some c) (file_kind k d.0) e)

import_part : (n : ℕ) (ps : Trees) (c : Category) → asked_in (rule place.Free kind.Imports) n [] ps ≡ Some c → category.Import ≡ c
import_part n none c e = absurd cc
import_part zero (more p ps) c e = same_some category.Import c e
import_part (suc n) (more p ps) c e = listed_items (token.Semicolon ∷ []) (Each category.Import (token.Semicolon ∷ []) []) n ps c e
import_part zero (skip ps) c e = absurd cc
import_part (suc n) (skip ps) c e = listed_items (token.Semicolon ∷ []) (Each category.Import (token.Semicolon ∷ []) []) n ps c e

import_parts : (ts : List TokenKind) (n : ℕ) (t : Tree) (c : Category) → Derives ts category.Imports t → asked_at category.Imports (n ∷ []) t ≡ Some c → category.Import ≡ c
import_parts ts n (node k a b ps) c d e = import_part n ps c (subst (λ x. asked_in (rule place.Free x) n [] ps ≡ Some c) (imports_kind k d.0) e)

abbrev pub Subtrees : Type 0
Subtrees = (ts : List TokenKind) (c : Category) (t s : Tree) (path : List ℕ) → Derives ts c t → subtree_at path t ≡ Some s → Subtree ts c t path s

none_of : (ts : List TokenKind) (c : Category) → all (apart c) kinds ≡ true → (p s : Tree) → Derives ts c p → p ≡ s → lists_statements (kind_of s) ≡ true → ⊥
none_of ts c h p s d e l = no_list c h (kind_of s) l (kind_within ts c s (subst (Derives ts c) e d))

module _ (law : Subtrees) (ts : List TokenKind) where
  below_declaration : (path : List ℕ) (p s : Tree) → Derives ts category.Declaration p → subtree_at path p ≡ Some s → lists_statements (kind_of s) ≡ true → suc (depth s) ≤ depth p
  below_declaration [] p s d e l = absurd (none_of ts category.Declaration declaration_apart p s d (same_some p s e) l)
  below_declaration (n ∷ path) p s d e l = let r = lower n path p s e in let w = level_of category.Declaration declaration_light (kind_of p) (kind_within ts category.Declaration p d) in omega (arith, r, w)

  below_import : (path : List ℕ) (p s : Tree) → Derives ts category.Import p → subtree_at path p ≡ Some s → lists_statements (kind_of s) ≡ true → suc (depth s) ≤ depth p
  below_import [] p s d e l = absurd (none_of ts category.Import import_apart p s d (same_some p s e) l)
  below_import (n ∷ path) p s d e l = let r = lower n path p s e in let w = level_of category.Import import_light (kind_of p) (kind_within ts category.Import p d) in omega (arith, r, w)

  below_imports : (path : List ℕ) (p s : Tree) → Derives ts category.Imports p → subtree_at path p ≡ Some s → lists_statements (kind_of s) ≡ true → suc (depth s) ≤ depth p
  below_imports [] p s d e l = absurd (none_of ts category.Imports imports_apart p s d (same_some p s e) l)
  below_imports (n ∷ path) p s d e l =
      let q = step n path p s e in
      let sub = law ts category.Imports p q.0 (n ∷ []) d q.1 in
      let is = import_parts ts n p sub.category d sub.asked in
      let r = below_import path q.0 s (subst (λ c. Derives ts c q.0) (sym is) sub.derives) q.2 l in
      let a = lower n [] p q.0 q.1 in
      omega (arith, r, a)

  -- a node of a file that lists statements has two levels above it
  pub two_above : (path : List ℕ) (t s : Tree) → Derives ts category.File t → subtree_at path t ≡ Some s → lists_statements (kind_of s) ≡ true → suc (suc (depth s)) ≤ depth t
  two_above [] t s d e l = absurd (none_of ts category.File file_apart t s d (same_some t s e) l)
  two_above (n ∷ path) t s d e l =
      let q = step n path t s e in
      let sub = law ts category.File t q.0 (n ∷ []) d q.1 in
      let a = lower n [] t q.0 q.1 in
      let w = level_of category.File file_light (kind_of t) (kind_within ts category.File t d) in
      elim (file_parts ts n t sub.category d sub.asked) [
        | inl is ↦ (let r = below_imports path q.0 s (subst (λ c. Derives ts c q.0) (sym is) sub.derives) q.2 l in omega (arith, r, a, w))
        | inr is ↦ (let r = below_declaration path q.0 s (subst (λ c. Derives ts c q.0) (sym is) sub.derives) q.2 l in omega (arith, r, a, w))
      ]

-- ---- names in place of expressions

mutual
  levels_low : (path : List ℕ) (t old new : Tree) → subtree_at path t ≡ Some old → depth new ≤ depth old → levels path (whole new) t ≤ depth t
  levels_low [] t old new e le = let same : t ≡ old = same_some t old e in omega (arith, ap depth same, le)
  levels_low (n ∷ path) (node k a b ps) old new e le = let r = levels_among n path ps old new e le in omega (arith, r)

  levels_among : (n : ℕ) (path : List ℕ) (ps : Trees) (old new : Tree) → subtree_in n path ps ≡ Some old → depth new ≤ depth old → levels_in n path (whole new) ps ≤ depths ps
  levels_among n path none old new e le = absurd cc
  levels_among zero path (more p ps) old new e le = let r = levels_low path p old new e le in omega (arith, r)
  levels_among (suc n) path (more p ps) old new e le = let r = levels_among n path ps old new e le in omega (arith, r)
  levels_among zero path (skip ps) old new e le = absurd cc
  levels_among (suc n) path (skip ps) old new e le = levels_among n path ps old new e le

abbrev expression_light : Kind → Bool
expression_light k = not (is_expression k) || one_level k

expressions_light : all expression_light kinds ≡ true
expressions_light = refl

expression_deep : (t : Tree) → is_expression (kind_of t) ≡ true → 1 ≤ depth t
expression_deep (node k a b ps) is = let w : weight k ≡ 1 = eqb-true (weight k) 1 (or_not (is_expression k) _ is (kinds_at expression_light expressions_light k)) in omega (arith, w)

names_within : (ts : List Token) (c : Category) (t : Tree) (d at : ℕ) (xs : List Change) (hs : List Hole) → depth t ≤ d → AreHoles ts c t at hs → AllWithin d t (name_sites xs hs)
names_within ts c t d at xs [] le h = tt
names_within ts c t d at xs (x ∷ hs) le h =
    let r = levels_low (path_of x) t h.0.stood (carry (λ k. moved_by xs x.from + k) (name_at 0)) h.0.at_path (expression_deep h.0.stood h.0.expression) in
    (omega (arith, r, le), names_within ts c t d (at + width x.kept + width x.old) xs hs le h.1)

-- ---- parts of trees that are moved

so_many_low : (n : ℕ) (ps : Trees) → depths (so_many n ps) ≤ depths ps
so_many_low zero ps = omega arith
so_many_low (suc n) none = omega arith
so_many_low (suc n) (more p ps) = let r = so_many_low n ps in omega (arith, r)
so_many_low (suc n) (skip ps) = omega arith

run_low : (f n : ℕ) (ps : Trees) → depths (run_at f n ps) ≤ depths ps
run_low zero n ps = so_many_low (suc n) ps
run_low (suc f) n none = omega arith
run_low (suc f) n (more p ps) = let r = run_low f n ps in omega (arith, r)
run_low (suc f) n (skip ps) = run_low f n ps

parts_low : (t : Tree) (d : ℕ) → weight (kind_of t) ≡ 1 → depth t ≤ suc d → depths (parts t) ≤ d
parts_low (node k a b ps) d w le = omega (arith, w, le)

-- the node stays
top_stays : (m : ℕ → ℕ) (t : Tree) (xs : List Change) (hs : List Hole) → kind_of (become m t (patch_of (name_sites xs hs))) ≡ kind_of t
top_stays m (node k a b ps) xs [] = refl
top_stays m (node k a b ps) xs (x ∷ hs) = refl

abbrev pub KeepsDepth : Type 0
KeepsDepth = (m : ℕ → ℕ) (t : Tree) (ss : List Site) (d : ℕ) → depth t ≤ d → AllWithin d t ss → depth (become m t (patch_of ss)) ≤ d

-- the statements with their names
pub named_low : KeepsDepth → (ts : List Token) (c : Category) (t : Tree) (at from f n : ℕ) (hs : List Hole) → depth t ≤ 99 → lists_statements (kind_of t) ≡ true → AreHoles ts c t at hs
    → depths (carries (moved from 0) (run_at f n (parts (named_tree hs t)))) ≤ 98
named_low law ts c t at from f n hs le l h =
    let a : depth (named_tree hs t) ≤ 99 = law (moved_by (named hs)) t (name_sites (named hs) hs) 99 le (names_within ts c t 99 at (named hs) hs le h) in
    let k : kind_of (named_tree hs t) ≡ kind_of t = top_stays (moved_by (named hs)) t (named hs) hs in
    let w : weight (kind_of (named_tree hs t)) ≡ 1 = ap weight k ∙ list_level (kind_of t) l in
    let b = parts_low (named_tree hs t) 98 w (omega (arith, a)) in
    let r = run_low f n (parts (named_tree hs t)) in
    let same = carries_depth (moved from 0) (run_at f n (parts (named_tree hs t))) in
    omega (arith, b, r, same)
