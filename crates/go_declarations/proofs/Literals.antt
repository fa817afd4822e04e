-- Where the literals of a file may be read, so may those of its specifications.
use Rattle.std.proofs.Common.{◌≡◌, ℕ, zero, suc, List, [], ◌∷◌, ◌++◌, Option, Some, None, subst}
use Rattle.std.specs.Prelude.{slice_get}
use Rattle.std.specs.List.{AllByRecursion}
use Rattle.go_grammar.specs.declared.kind.Kind.TheVariants as kind
use Rattle.go_grammar.specs.declared.kind.Sort.{Sort}
use Rattle.go_grammar.specs.declared.kind.Sort.TheVariants as declaring
use Rattle.go_grammar.specs.Trees.{Tree, node, Trees, none, more, skip}
use Rattle.go_tree.specs.declared.context.Entity.{Entity}
use Rattle.go_tree.specs.declared.context.Entity.TheVariants as entity
use Rattle.go_exprs_engine.specs.Literals.{AllRead, PartsRead}
use Rattle.go_stmts_defs.specs.Reading.{part_source}
use Rattle.go_package_defs.specs.Declarations.{Specification, trees_of, listed_values, type_behind, values_behind, first_part, named_specification, specification_of, source_behind, grouped, declared, declaration, declarations, in_file}
use Rattle.go_declarations.specs.Judged.{PartRead}
use Rattle.go_declarations.specs.Reads.{SpecificationRead}

module _ (texts : ℕ → List ℕ) where
  abbrev AllTrees : List Tree → Type 0
  AllTrees ts = (c : ℕ) (t : Tree) → slice_get ts c ≡ Some t → AllRead texts t

  no_trees : AllTrees []
  no_trees c t e = absurd cc

  tree_more : (p : Tree) (ts : List Tree) → AllRead texts p → AllTrees ts → AllTrees (p ∷ ts)
  tree_more p ts h k zero t e = subst (AllRead texts) (let same : p ≡ t = cc in same) h
  tree_more p ts h k (suc c) t e = k c t e

  trees_read : (ps : Trees) → PartsRead texts ps → AllTrees (trees_of ps)
  trees_read none h = no_trees
  trees_read (more p ps) h = tree_more p (trees_of ps) h.0 (trees_read ps h.1)
  trees_read (skip ps) h = trees_read ps h

  listed_read : (ps : Trees) → PartsRead texts ps → AllTrees (listed_values ps)
  listed_read none h = no_trees
  listed_read (skip ps) h = no_trees
  listed_read (more (node k i j xs) ps) h = trees_read xs h.0.1

  type_read : (r : Option Tree) → PartRead texts r → PartRead texts (type_behind r)
  type_read None h = tt
  type_read (Some (node kind.Values i j ps)) h = tt
  type_read (Some (node kind.TypedValues i j (more t ps))) h = h.1.0
  type_read (Some (node kind.TypedValues i j none)) h = h
  type_read (Some (node kind.TypedValues i j (skip ps))) h = h
  type_read (Some (node k i j ps)) h = h

  values_read : (r : Option Tree) → PartRead texts r → AllTrees (values_behind r)
  values_read None h = no_trees
  values_read (Some (node kind.Values i j ps)) h = listed_read ps h.1
  values_read (Some (node kind.TypedValues i j (more t ps))) h = listed_read ps h.1.1
  values_read (Some (node kind.TypedValues i j none)) h = no_trees
  values_read (Some (node kind.TypedValues i j (skip ps))) h = no_trees
  values_read (Some (node k i j ps)) h = no_trees

  source_read : (ps : Trees) (r : Option Tree) → PartsRead texts ps → PartRead texts r → PartRead texts (part_source ps r)
  source_read none r h k = k
  source_read (skip ps) r h k = k
  source_read (more p none) r h k = k
  source_read (more p (skip ps)) r h k = k
  source_read (more p (more q none)) r h k = h.1.0
  source_read (more p (more q (more o ps))) r h k = k
  source_read (more p (more q (skip ps))) r h k = k

  first_read : (ps : Trees) → PartsRead texts ps → PartRead texts (first_part ps)
  first_read none h = tt
  first_read (skip ps) h = tt
  first_read (more p ps) h = h.0

  named_read : (n : ℕ) (e : Entity) (k : ℕ) (t : Tree) (i j : ℕ) (ps : Trees) (r : Option Tree) → PartRead texts r → SpecificationRead texts (named_specification n e k t i j ps r)
  named_read n e k t i j ps r h = record { of = type_read r h; values = values_read r h }

  specification_read : (n : ℕ) (s : Sort) (k : ℕ) (r : Option Tree) (t : Tree) → PartRead texts r → AllRead texts t → SpecificationRead texts (specification_of n s k r t)
  specification_read n declaring.Type k r (node l i j ps) h g = record { of = first_read ps g.1; values = no_trees }
  specification_read n declaring.Constant k r (node l i j ps) h g = named_read n entity.Constant k (node l i j ps) i j ps (part_source ps r) (source_read ps r g.1 h)
  specification_read n declaring.Variable k r (node l i j ps) h g = named_read n entity.Variable k (node l i j ps) i j ps (part_source ps r) (source_read ps r g.1 h)

  behind_read : (r : Option Tree) (t : Tree) → PartRead texts r → AllRead texts t → PartRead texts (source_behind r t)
  behind_read r (node k i j ps) h g = source_read ps r g.1 h

  abbrev AllSpecified : List Specification → Type 0
  AllSpecified ds = AllByRecursion (SpecificationRead texts) ds

  grouped_read : (n : ℕ) (s : Sort) (k : ℕ) (r : Option Tree) (ps : Trees) → PartRead texts r → PartsRead texts ps → AllSpecified (grouped n s k r ps)
  grouped_read n s k r none h g = tt
  grouped_read n s k r (more p ps) h g = (specification_read n s k r p h g.0, grouped_read n s (suc k) (source_behind r p) ps (behind_read r p h g.0) g.1)
  grouped_read n s k r (skip ps) h g = grouped_read n s k r ps h g

  declared_read : (n : ℕ) (s : Sort) (ps : Trees) → PartsRead texts ps → AllSpecified (declared n s ps)
  declared_read n s none g = tt
  declared_read n s (skip ps) g = grouped_read n s 0 None (skip ps) tt g
  declared_read n s (more (node (kind.Group x) i j qs) none) g = grouped_read n s 0 None qs tt g.0.1
  declared_read n s (more (node (kind.Group x) i j qs) (more q ps)) g = grouped_read n s 0 None (more (node (kind.Group x) i j qs) (more q ps)) tt g
  declared_read n s (more (node (kind.Group x) i j qs) (skip ps)) g = grouped_read n s 0 None (more (node (kind.Group x) i j qs) (skip ps)) tt g
  declared_read n s (more (node k i j qs) ps) g = grouped_read n s 0 None (more (node k i j qs) ps) tt g

  declaration_read : (n : ℕ) (t : Tree) → AllRead texts t → AllSpecified (declaration n t)
  declaration_read n (node (kind.Declaration s) i j ps) g = declared_read n s ps g.1
  declaration_read n (node kind.FunctionDeclaration i j ps) g = (record { of = first_read ps g.1; values = no_trees }, tt)
  declaration_read n (node k i j ps) g = tt

  both_read : (xs ys : List Specification) → AllSpecified xs → AllSpecified ys → AllSpecified (xs ++ ys)
  both_read [] ys h k = k
  both_read (x ∷ xs) ys h k = (h.0, both_read xs ys h.1 k)

  declarations_read : (n : ℕ) (ps : Trees) → PartsRead texts ps → AllSpecified (declarations n ps)
  declarations_read n none g = tt
  declarations_read n (more p ps) g = both_read (declaration n p) (declarations n ps) (declaration_read n p g.0) (declarations_read n ps g.1)
  declarations_read n (skip ps) g = declarations_read n ps g

  pub in_file_read : (n : ℕ) (t : Tree) → AllRead texts t → AllSpecified (in_file n t)
  in_file_read n (node k i j ps) g = declarations_read n ps g.1
