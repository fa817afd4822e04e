-- The declarations of a file whose names are spelled so.
use Rattle.std.proofs.Common.{◌≡◌, ℕ, suc, List, [], ◌∷◌, ◌++◌, Option, Some, None, refl}
use Rattle.std.specs.List.{AllByRecursion}
use Rattle.go_grammar.specs.declared.kind.Kind.{Kind}
use Rattle.go_grammar.specs.declared.kind.Kind.TheVariants as kind
use Rattle.go_grammar.specs.declared.kind.Sort.{Sort}
use Rattle.go_grammar.specs.declared.kind.Sort.TheVariants as sort
use Rattle.go_grammar.specs.Trees.{Tree, node, Trees, none, more, skip, first, last}
use Rattle.go_scopes_events.proofs.Public.{IsLaidOut, LieIn, behind_name}
use Rattle.go_package_defs.specs.Declarations.{Specification, trees_of, listed_values, type_behind, values_behind, first_part, specification_of, source_behind, grouped, declared, declaration, declarations, in_file}
use Rattle.go_stmts_defs.specs.Reading.{part_source}
use Rattle.go_stmts_written.specs.Named.{TreeIsNamed, TreesAreNamed}
use Rattle.go_stmts_written.proofs.Said.{MaybeTree, TreesNamed}

-- The declaration of a file stands at its tokens, its parts lie in order, and names in it are spelled so.
pub record IsPlaced (texts : ℕ → List ℕ) (d : Specification) : Type 0 where
  pub tree : Tree
  pub is : d.tree ≡ Some tree
  pub begins : first tree ≡ d.first
  pub ends : last tree ≡ d.last
  pub laid : IsLaidOut tree
  pub named : TreeIsNamed texts tree

pub record SpecificationIsNamed (texts : ℕ → List ℕ) (d : Specification) : Type 0 where
  pub type : MaybeTree texts d.type_tree
  pub values : TreesNamed texts d.values
  pub placed : IsPlaced texts d

module _ (texts : ℕ → List ℕ) where
  all_trees : (ps : Trees) → TreesAreNamed texts ps → TreesNamed texts (trees_of ps)
  all_trees none n = tt
  all_trees (more p ps) n = (n.0, all_trees ps n.1)
  all_trees (skip ps) n = all_trees ps n

  listed_named : (ps : Trees) → TreesAreNamed texts ps → TreesNamed texts (listed_values ps)
  listed_named (more (node k i j xs) ps) n = all_trees xs n.0.1
  listed_named none n = tt
  listed_named (skip ps) n = tt

  type_there : (o : Option Tree) → MaybeTree texts o → MaybeTree texts (type_behind o)
  type_there (Some (node kind.Values i j ps)) n = tt
  type_there (Some (node kind.TypedValues i j (more t ps))) n = n.1.0
  type_there o n = n

  values_there : (o : Option Tree) → MaybeTree texts o → TreesNamed texts (values_behind o)
  values_there (Some (node kind.Values i j ps)) n = listed_named ps n.1
  values_there (Some (node kind.TypedValues i j (more t ps))) n = listed_named ps n.1.1
  values_there o n = tt

  first_named : (ps : Trees) → TreesAreNamed texts ps → MaybeTree texts (first_part ps)
  first_named (more p ps) n = n.0
  first_named none n = tt
  first_named (skip ps) n = tt

  pub source_named : (ps : Trees) (o : Option Tree) → TreesAreNamed texts ps → MaybeTree texts o → MaybeTree texts (part_source ps o)
  source_named (more ns (more r none)) o n w = n.1.0
  source_named (more ns (more r (more q ps))) o n w = w
  source_named (more ns (more r (skip ps))) o n w = w
  source_named (more ns none) o n w = w
  source_named (more ns (skip ps)) o n w = w
  source_named none o n w = w
  source_named (skip ps) o n w = w

  behind_named : (r : Option Tree) (p : Tree) → TreeIsNamed texts p → MaybeTree texts r → MaybeTree texts (source_behind r p)
  behind_named r (node k i j ps) n w = source_named ps r n.1 w

  -- the declaration of the file m
  abbrev pub Stands : ℕ → Specification → Type 0
  Stands m d = (d.file ≡ m) × SpecificationIsNamed texts d

  one_named : (m : ℕ) (s : Sort) (k : ℕ) (r : Option Tree) (p : Tree) → IsLaidOut p → TreeIsNamed texts p → MaybeTree texts r → Stands m (specification_of m s k r p)
  one_named m sort.Type k r (node l i j ps) d n w = (
    refl,
    record {
      type = first_named ps n.1;
      values = tt;
      placed = record { tree = node l i j ps; is = refl; begins = refl; ends = refl; laid = d; named = n };
    },
  )
  one_named m sort.Constant k r (node l i j ps) d n w = (
    refl,
    record {
      type = type_there (part_source ps r) (source_named ps r n.1 w);
      values = values_there (part_source ps r) (source_named ps r n.1 w);
      placed = record { tree = node l i j ps; is = refl; begins = refl; ends = refl; laid = d; named = n };
    },
  )
  one_named m sort.Variable k r (node l i j ps) d n w = (
    refl,
    record {
      type = type_there (part_source ps r) (source_named ps r n.1 w);
      values = values_there (part_source ps r) (source_named ps r n.1 w);
      placed = record { tree = node l i j ps; is = refl; begins = refl; ends = refl; laid = d; named = n };
    },
  )

  grouped_named : (m : ℕ) (s : Sort) (k : ℕ) (r : Option Tree) (i j : ℕ) (ps : Trees) → LieIn i j ps → TreesAreNamed texts ps → MaybeTree texts r → AllByRecursion (Stands m) (grouped m s k r ps)
  grouped_named m s k r i j none d n w = tt
  grouped_named m s k r i j (more p ps) d n w = (one_named m s k r p d.1 n.0 w, grouped_named m s (suc k) (source_behind r p) (last p) j ps d.2 n.1 (behind_named r p n.0 w))
  grouped_named m s k r i j (skip ps) d n w = grouped_named m s k r i j ps d n w

  lone_named : (m : ℕ) (s : Sort) (k : Kind) (a b : ℕ) (qs : Trees) (i j : ℕ) → LieIn i j (more (node k a b qs) none) → TreesAreNamed texts (more (node k a b qs) none)
      → AllByRecursion (Stands m) (declared m s (more (node k a b qs) none))
  lone_named m s (kind.Group g) a b qs i j d n = grouped_named m s 0 None a b qs d.1.1 n.0.1 tt
  lone_named m s k a b qs i j d n = (one_named m s 0 None (node k a b qs) d.1 n.0 tt, tt)

  most_named : (m : ℕ) (s : Sort) (k : Kind) (a b : ℕ) (qs : Trees) (i j : ℕ) (p : Tree) (ps : Trees) → LieIn i j (more (node k a b qs) (more p ps)) → TreesAreNamed texts (more (node k a b qs) (more p ps))
      → AllByRecursion (Stands m) (declared m s (more (node k a b qs) (more p ps)))
  most_named m s (kind.Group g) a b qs i j p ps d n = grouped_named m s 0 None i j (more (node (kind.Group g) a b qs) (more p ps)) d n tt
  most_named m s k a b qs i j p ps d n = grouped_named m s 0 None i j (more (node k a b qs) (more p ps)) d n tt

  left_named : (m : ℕ) (s : Sort) (k : Kind) (a b : ℕ) (qs : Trees) (i j : ℕ) (ps : Trees) → LieIn i j (more (node k a b qs) (skip ps)) → TreesAreNamed texts (more (node k a b qs) (skip ps))
      → AllByRecursion (Stands m) (declared m s (more (node k a b qs) (skip ps)))
  left_named m s (kind.Group g) a b qs i j ps d n = grouped_named m s 0 None i j (more (node (kind.Group g) a b qs) (skip ps)) d n tt
  left_named m s k a b qs i j ps d n = grouped_named m s 0 None i j (more (node k a b qs) (skip ps)) d n tt

  declared_named : (m : ℕ) (s : Sort) (i j : ℕ) (ps : Trees) → LieIn i j ps → TreesAreNamed texts ps → AllByRecursion (Stands m) (declared m s ps)
  declared_named m s i j none d n = tt
  declared_named m s i j (skip ps) d n = grouped_named m s 0 None i j ps d n tt
  declared_named m s i j (more (node k a b qs) none) d n = lone_named m s k a b qs i j d n
  declared_named m s i j (more (node k a b qs) (more q ps)) d n = most_named m s k a b qs i j q ps d n
  declared_named m s i j (more (node k a b qs) (skip ps)) d n = left_named m s k a b qs i j ps d n

  declaration_named : (m : ℕ) (t : Tree) → IsLaidOut t → TreeIsNamed texts t → AllByRecursion (Stands m) (declaration m t)
  declaration_named m (node (kind.Declaration s) i j ps) d n = declared_named m s i j ps d.1 n.1
  declaration_named m (node kind.FunctionDeclaration i j ps) d n = (
    (
      refl,
      record {
        type = first_named ps n.1;
        values = tt;
        placed = record { tree = node kind.FunctionDeclaration i j ps; is = refl; begins = refl; ends = refl; laid = d; named = n };
      },
    ),
    tt,
  )
  declaration_named m t d n = tt

  both : (m : ℕ) (xs ys : List Specification) → AllByRecursion (Stands m) xs → AllByRecursion (Stands m) ys → AllByRecursion (Stands m) (xs ++ ys)
  both m [] ys h k = k
  both m (x ∷ xs) ys h k = (h.0, both m xs ys h.1 k)

  all_declared : (m i j : ℕ) (ps : Trees) → LieIn i j ps → TreesAreNamed texts ps → AllByRecursion (Stands m) (declarations m ps)
  all_declared m i j none d n = tt
  all_declared m i j (more p ps) d n = both m (declaration m p) (declarations m ps) (declaration_named m p d.1 n.0) (all_declared m (last p) j ps d.2 n.1)
  all_declared m i j (skip ps) d n = all_declared m i j ps d n

  pub file_named : (m : ℕ) (t : Tree) → IsLaidOut t → TreeIsNamed texts t → AllByRecursion (Stands m) (in_file m t)
  file_named m (node k i j ps) d n = all_declared m (behind_name k i) j ps d.1 n.1
