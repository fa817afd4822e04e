-- Patches of functions that replace nothing but runs of statements (Go specification: Blocks, Statement lists).
use Rattle.std.specs.Prelude.{◌≡◌, ℕ, true, List, [], ◌∷◌, Some}
use Rattle.go_grammar.specs.declared.kind.Kind.{Kind}
use Rattle.go_grammar.specs.declared.kind.Kind.TheVariants as kind
use Rattle.go_grammar.specs.Trees.{Tree, node, Trees, none, more, skip, first}
use Rattle.go_rewriting.specs.Places.{Patch, Patches, keep, put, inside, done, part, run, has_items, items_behind, places}
use Rattle.go_rewriting.specs.Lists.{has_run}
use Rattle.go_rewriting.specs.Replacing.{subtree_at}
use Rattle.go_rewriting.specs.Sites.{Site, items, patch_of, site_ranges}
use Rattle.go_tree.specs.Events.{is_more}
use Rattle.go_scopes_bodies.specs.Listed.{AreStatements, holds_statements}
use Rattle.extract_names.specs.Pieces.{leads_to_lists}

abbrev mutual
  -- Runs are replaced in the lists of blocks and clauses alone, each by one statement at least.
  pub InLists : Tree → Patch → Type 0
  InLists t keep = Unit {0}
  InLists t (put s) = ⊥
  InLists (node kind.Block i j ps) (inside qs) = InList ps qs
  InLists (node kind.Default i j ps) (inside qs) = InList ps qs
  InLists (node kind.Case i j ps) (inside qs) = InCase ps qs
  InLists (node k i j ps) (inside qs) = (leads_to_lists k ≡ true) × InParts ps qs

  -- in the parts of a node
  pub InParts : Trees → Patches → Type 0
  InParts ps done = Unit {0}
  InParts none (part q qs) = Unit {0}
  InParts (more p ps) (part q qs) = InLists p q × InParts ps qs
  InParts (skip ps) (part q qs) = InParts ps qs
  InParts ps (run n new qs) = ⊥

  -- in the statements of a clause, behind its expressions
  pub InCase : Trees → Patches → Type 0
  InCase (more e ps) (part keep qs) = InList ps qs
  InCase ps qs = ⊥

  -- in a list of statements
  pub InList : Trees → Patches → Type 0
  InList ps done = Unit {0}
  InList none (part q qs) = Unit {0}
  InList (more p ps) (part q qs) = InLists p q × InList ps qs
  InList (skip ps) (part q qs) = InList ps qs
  InList none (run n new qs) = ⊥
  InList (more p ps) (run n new qs) = (has_items n ps ≡ true) × (is_more new ≡ true) × AreStatements new × InList (items_behind n ps) qs
  InList (skip ps) (run n new qs) = ⊥

-- ---- runs that paths lead to

-- how many parts of a node stand in front of its statements
abbrev pub in_front : Kind → ℕ
in_front kind.Case = 1
in_front k = 0

-- At the end of the path stands a block or a clause, of which one statement and so many more are replaced by statements, one at least.
pub record ReplacesRun (t : Tree) (x : Site) : Type 0 where
  pub kind : Kind
  pub first : ℕ
  pub last : ℕ
  pub parts : Trees
  pub number : ℕ
  pub new : Trees
  pub stood : subtree_at x.path t ≡ Some (node kind first last parts)
  pub list : holds_statements kind ≡ true
  pub change : x.change ≡ items (in_front kind) number new
  pub has : has_run (in_front kind) number parts ≡ true
  pub some : is_more new ≡ true
  pub statements : AreStatements new

abbrev pub ReplaceRuns : Tree → List Site → Type 0
ReplaceRuns t [] = Unit {0}
ReplaceRuns t (x ∷ xs) = ReplacesRun t x × ReplaceRuns t xs

-- These runs, in their order, as one patch: it replaces runs in lists alone, and its places are those of the runs.
pub record PatchesRuns (t : Tree) (xs : List Site) : Type 0 where
  pub lists : InLists t (patch_of xs)
  pub places : places t (patch_of xs) ≡ site_ranges t xs

-- ---- what holds of each run

abbrev mutual
  -- of the old token that it begins at, and the statements in its place
  pub EachRun : (ℕ → Trees → Type 0) → Tree → Patch → Type 0
  EachRun P t keep = Unit {0}
  EachRun P t (put s) = Unit {0}
  EachRun P (node k i j ps) (inside qs) = EachIn P ps qs

  pub EachIn : (ℕ → Trees → Type 0) → Trees → Patches → Type 0
  EachIn P ps done = Unit {0}
  EachIn P none (part q qs) = Unit {0}
  EachIn P (more p ps) (part q qs) = EachRun P p q × EachIn P ps qs
  EachIn P (skip ps) (part q qs) = EachIn P ps qs
  EachIn P none (run n new qs) = Unit {0}
  EachIn P (more p ps) (run n new qs) = P (first p) new × EachIn P (items_behind n ps) qs
  EachIn P (skip ps) (run n new qs) = Unit {0}
