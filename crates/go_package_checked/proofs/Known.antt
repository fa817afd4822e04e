-- Names of the package block that stand as they may stand for something known, where the objects do that they mean.
use Rattle.std.proofs.Common.{◌≡◌, ℕ, [], ◌∷◌, ◌++◌, Option, Some, None, refl}
use Rattle.go_grammar.specs.declared.kind.Kind.{Kind}
use Rattle.go_grammar.specs.declared.kind.Kind.TheVariants as kind
use Rattle.go_grammar.specs.Trees.{Tree, node, Trees, none, more, skip, kind_of}
use Rattle.go_tree.specs.declared.object.Object.{Object}
use Rattle.go_tree.specs.declared.object.Object.TheVariants as object
use Rattle.go_exprs_rules.specs.Scopes.{in_full, Scope, Hint}
use Rattle.go_exprs_rules.specs.Tables.{Parts, hint, part_scope}
use Rattle.go_exprs_rules.specs.Typing.{typing}
use Rattle.go_package_laws.specs.Names.{NameHas, EachName, EachNameIn}
use Rattle.go_stmts_final_types.specs.Names.{Standing, NodeIsKnown, standing_in, ExpressionIsKnown, ExpressionsAreKnown}
use Rattle.go_stmts_final_types.specs.Placed.{NodeIsPlaced, ExpressionIsPlaced, ExpressionsArePlaced}
use Rattle.go_stmts_final_types.proofs.Public.{MeansGood, node_known}

module _ (count : ℕ) (Q : ℕ → Type 0) where
  -- what needs in full what it names, and what its names mean is good
  pub record IsScope (s : Scope) : Type 0 where
    pub full : s.needed ≡ in_full
    pub means : (i : ℕ) → Q i → MeansGood count [] s (s.objects i)

  part_same : (s : Scope) (o : Option Object) → MeansGood count [] s o → MeansGood count [] (part_scope s kind.SequenceType []) o
  part_same s None g = tt
  part_same s (Some object.Import) g = tt
  part_same s (Some (object.Predeclared b)) g = tt
  part_same s (Some (object.Package m)) g = g
  part_same s (Some (object.Local f n)) g = g

  part_is : (s : Scope) (k : Kind) (xs : Parts) → IsScope s → IsScope (part_scope s k xs)
  part_is s kind.SequenceType [] a = record { full = refl; means = λ i q. part_same s (s.objects i) (a.means i q) }
  part_is s kind.SequenceType (x ∷ xs) a = a
  part_is s k xs a = a

  one_known : (r : Standing) (s : Scope) (k : Kind) (h : Hint) (i : ℕ) → IsScope s → NameHas Q k i → NodeIsPlaced count [] k r s h i → NodeIsKnown k r s h i
  one_known r s kind.Name h i a q b = node_known count [] r s kind.Name h i a.full (a.means i q) b
  one_known r s k h i a q b = tt

  mutual
    pub expression_known : (r : Standing) (s : Scope) (h : Hint) (t : Tree) → IsScope s → EachName Q t → ExpressionIsPlaced count [] r s h t → ExpressionIsKnown r s h t
    expression_known r s h (node k i j ps) a q b = (one_known r s k h i a q.0 b.0, expressions_known r s k h ps [] ps a q.1 b.1)

    expressions_known : (r : Standing) (s : Scope) (k : Kind) (h : Hint) (all : Trees) (xs : Parts) (ps : Trees) → IsScope s → EachNameIn Q ps → ExpressionsArePlaced count [] r s k h all xs ps → ExpressionsAreKnown r s k h all xs ps
    expressions_known r s k h all xs none a q b = tt
    expressions_known r s k h all xs (more p ps) a q b =
        let t = part_scope s k xs in
        let g = hint s k h all xs (kind_of p) in
        (expression_known (standing_in r k xs (kind_of p)) t g p (part_is s k xs a) q.0 b.0, expressions_known r s k h all (xs ++ Some (typing t g p) ∷ []) ps a q.1 b.1)
    expressions_known r s k h all xs (skip ps) a q b = expressions_known r s k h all (xs ++ None ∷ []) ps a q b
