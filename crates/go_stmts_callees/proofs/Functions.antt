-- In a function without faults no constant is called, and none is a struct.
use Rattle.std.proofs.Common.{◌≡◌, ℕ, true, false, [], ◌∷◌, ◌++◌, Option, Some, None, Ok, refl, ap, subst}
use Rattle.go_grammar.specs.declared.kind.Category.{Category}
use Rattle.go_grammar.specs.declared.kind.Category.TheVariants as category
use Rattle.go_grammar.specs.declared.kind.Kind.{Kind}
use Rattle.go_grammar.specs.declared.kind.Kind.TheVariants as kind
use Rattle.go_grammar.specs.Categories.{within}
use Rattle.go_grammar.specs.Trees.{Tree, node, Trees, none, more, skip, kind_of, last}
use Rattle.go_tree.specs.declared.object.Object.{Object}
use Rattle.go_tree.specs.declared.object.Object.TheVariants as object
use Rattle.go_typed.specs.Contents.{FuncContent}
use Rattle.go_exprs_rules.specs.declared.fault.TypeFault.{TypeFault}
use Rattle.go_exprs_rules.specs.Faults.{judged, reported}
use Rattle.go_exprs_rules.specs.Scopes.{in_full, Scope, Hint, free}
use Rattle.go_exprs_rules.specs.Tables.{Parts, hint, part_scope}
use Rattle.go_exprs_rules.specs.Typing.{typing, faults}
use Rattle.go_stmts_defs.specs.Bodies.{start, signature_of, function_read, answer_of, body_answer}
use Rattle.go_stmts_defs.specs.Frames.{Locals}
use Rattle.go_stmts_defs.specs.Reading.{Reading, read, reading}
use Rattle.go_stmts_final_types.specs.Names.{Standing, NamesAreKnown, ExpressionIsKnown, ExpressionsAreKnown, standing_in, tree_in}
use Rattle.go_stmts_final_types.specs.Placed.{ObjectsAreGood, LocalsAreGood, ExpressionIsPlaced, ExpressionsArePlaced}
use Rattle.go_stmts_final_types.specs.Shapes.{IsShaped}
use Rattle.go_stmts_final_types.proofs.Public.{MeansGood, node_known}
use Rattle.go_stmts_tokens.specs.Lying.{is_inner}
use Rattle.go_stmts_callees.proofs.Uncalled.{differ, Free}
use Rattle.go_stmts_callees.proofs.Expressions.{typing_free}
use Rattle.go_stmts_callees.proofs.Nesting.{shaped_nested}
use Rattle.go_stmts_callees.proofs.Layouts.{Of}
use Rattle.go_stmts_callees.proofs.Readings.{found_in, reading_free}

-- ---- expressions whose names stand as they may

module _ (count : ℕ) (ls : Locals) where
  -- what needs in full what it names, and all that it may name is good
  record IsScope (s : Scope) : Type 0 where
    pub full : s.needed ≡ in_full
    pub means : (o : Option Object) → MeansGood count ls s o

  scope_is : (s : Scope) → s.needed ≡ in_full → ObjectsAreGood count s → LocalsAreGood ls s → IsScope s
  scope_is s f g l = record { full = f; means = by }
    where
      by : (o : Option Object) → MeansGood count ls s o
      by None = tt
      by (Some object.Import) = tt
      by (Some (object.Predeclared b)) = tt
      by (Some (object.Package m)) = λ q. g m q
      by (Some (object.Local f n)) = λ d. l f n d

  part_is : (s : Scope) (k : Kind) (xs : Parts) → IsScope s → IsScope (part_scope s k xs)
  part_is s kind.SequenceType [] a = record { full = refl; means = λ o. same o (a.means o) }
    where
      same : (o : Option Object) → MeansGood count ls s o → MeansGood count ls (part_scope s kind.SequenceType []) o
      same None g = tt
      same (Some object.Import) g = tt
      same (Some (object.Predeclared b)) g = tt
      same (Some (object.Package m)) g = g
      same (Some (object.Local f n)) g = g
  part_is s kind.SequenceType (x ∷ xs) a = a
  part_is s k xs a = a

  mutual
    expression_known : (r : Standing) (s : Scope) (h : Hint) (t : Tree) → IsScope s → ExpressionIsPlaced count ls r s h t → ExpressionIsKnown r s h t
    expression_known r s h (node k i j ps) a b = (node_known count ls r s k h i a.full (a.means (s.objects i)) b.0, expressions_known r s k h ps [] ps a b.1)

    expressions_known : (r : Standing) (s : Scope) (k : Kind) (h : Hint) (all : Trees) (xs : Parts) (ps : Trees) → IsScope s → ExpressionsArePlaced count ls r s k h all xs ps → ExpressionsAreKnown r s k h all xs ps
    expressions_known r s k h all xs none a b = tt
    expressions_known r s k h all xs (more p ps) a b =
        let t = part_scope s k xs in
        let g = hint s k h all xs (kind_of p) in
        (expression_known (standing_in r k xs (kind_of p)) t g p (part_is s k xs a) b.0, expressions_known r s k h all (xs ++ Some (typing t g p) ∷ []) ps a b.1)
    expressions_known r s k h all xs (skip ps) a b = expressions_known r s k h all (xs ++ None ∷ []) ps a b

  pub placed_free : (r : Standing) (s : Scope) (h : Hint) (c : Category) (t : Tree) → IsShaped c t → s.needed ≡ in_full → ObjectsAreGood count s → LocalsAreGood ls s → ExpressionIsPlaced count ls r s h t → reported (faults s h t) ≡ None
      → Free (typing s h t)
  placed_free r s h c t w f g l b e = typing_free r s h c t w (expression_known r s h t (scope_is s f g l) b) e

-- ---- functions

pub judged_ok : {A : Type 0} (o : Option TypeFault) (x y : A) → judged o x ≡ Ok y → (o ≡ None) × (x ≡ y)
judged_ok None x y e = (refl, cc)
judged_ok (Some f) x y e = absurd cc

answered : (s : Scope) (number : ℕ) (t : Tree) (r : Reading) (f : FuncContent) → answer_of s number t r ≡ Ok f → (reported (found_in r) ≡ None) × (tree_in r ≡ f.tree)
answered s number t (read x fs z) f e =
    let j = judged_ok (reported fs) (function_read s number (last t) (signature_of s t) x z) f e in (j.0, ap (λ (g : FuncContent). g.tree) j.1)

-- declarations stand in no other declaration
pub outermost : (t : Tree) → IsShaped category.Declaration t → is_inner (kind_of t) ≡ false
outermost (node k i j ps) w = by k w.0
  where
    by : (k : Kind) → within category.Declaration k ≡ true → is_inner k ≡ false
    by (kind.Declaration d) e = refl
    by kind.FunctionDeclaration e = refl
    by k e = differ e

pub function_free : (s : Scope) (number locals : ℕ) (types : ℕ → ℕ) (t : Tree) (f : FuncContent) → IsShaped category.Declaration t → body_answer s number locals types t ≡ Ok f → NamesAreKnown (start s locals types) free t → Free f.tree
function_free s number locals types t f w e n =
    let r : Reading = reading (start s locals types) free t in
    let a = answered s number t r f e in
    let own : Of (is_inner (kind_of t)) (tree_in r) = reading_free category.Declaration (start s locals types) free t w (shaped_nested category.Declaration t w) n a.0 in
    subst Free a.1 (subst (λ b. Of b (tree_in r)) (outermost t w) own)
