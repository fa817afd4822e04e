-- A body that meets all that the law on bodies asks.
--
-- func f(n D) { switch n { case 1: type T int } }, where D is a type of the package, with a variable in place of the 1 that nothing else
-- names.
use Rattle.std.specs.Prelude.{◌≡◌, nat_eq, if◌then◌else◌, true, false, List, [], ◌∷◌, ◌++◌, codes, Some, None}
use Rattle.go_grammar.specs.declared.kind.Category.TheVariants as category
use Rattle.go_grammar.specs.declared.kind.Kind.TheVariants as kind
use Rattle.go_grammar.specs.declared.kind.Sort.TheVariants as declaring
use Rattle.go_grammar.specs.Trees.{Tree, node, none, more}
use Rattle.go_tree.specs.declared.object.Object.TheVariants as object
use Rattle.go_tree.specs.declared.object.Predeclared.TheVariants as predeclared
use Rattle.go_types.specs.Trees.{TypeTree, declared}
use Rattle.go_typed.specs.Trees as sort
use Rattle.go_exprs_rules.specs.Scopes.{Scope, value}
use Rattle.go_exprs_rules.specs.Sentences.{Word, word, name, number}
use Rattle.go_exprs_rules.specs.Sentences as expressions
use Rattle.go_stmts_defs.specs.Frames.{Frame}
use Rattle.go_stmts_defs.specs.Reading.{reading}
use Rattle.go_stmts_defs.specs.Sentences.{one, two, block}
use Rattle.go_exprs_variables.specs.Shapes.{IsShaped}
use Rattle.go_exprs_variables.specs.Variables.{Standins, with_variables, Proper, Fits, no_rule_fails}
use Rattle.go_exprs_variables.specs.WorkedExpressions.{named, local}
use Rattle.go_stmts_variables.specs.Frames.{FramesStand}
use Rattle.go_stmts_variables.specs.Law.{IsBodyReadWithVariables}
use Rattle.go_stmts_variables.specs.Statements.{tree_in, found_in, Declares, Tagged}
use Rattle.go_stmts_variables.specs.Steady.{Steady}
use Rattle.go_stmts_variables.specs.WorkedFunctions.{variable_at}

abbrev pub words : List Word
words =
    word (codes "func") ∷ word (codes "f") ∷ word (codes "(") ∷ named (codes "n") (local 0) ∷ word (codes "D") ∷ word (codes ")") ∷
    word (codes "{") ∷ word (codes "switch") ∷ named (codes "n") (local 0) ∷ word (codes "{") ∷ word (codes "case") ∷ word (codes "1") ∷ word (codes ":") ∷
    word (codes "type") ∷ named (codes "T") (local 2) ∷ named (codes "int") (Some (object.Predeclared predeclared.Int)) ∷ word (codes "}") ∷ word (codes "}") ∷ []

abbrev pub switching : Tree → Tree
switching x = block 6 18 (more (node kind.Switch 7 17 (two (name 8) (node kind.Case 10 16 (two (node kind.ExpressionList 11 12 (one x))
    (node (kind.Declaration declaring.Type) 13 16 (one (node (kind.Specification declaring.Type) 14 16 (one (name 15))))))))) none)

abbrev pub body : Tree
body = switching (number 11)

-- D is the type 2, and T will be the type 5
abbrev pub named_type : TypeTree
named_type = declared 2

abbrev pub around : Scope
around = record (expressions.scope_of words) { rights = expressions.rights ++ None ∷ [] }

-- what is known behind the signature: the second local isn't declared, nor is T so far
abbrev pub before : Frame
before = record { around = around; locals = Some (sort.Value named_type) ∷ None ∷ None ∷ []; types = λ n. 5; source = None; tag = sort.Unknown; results = [] }

-- the variable is the second local, and stands at the token 11
abbrev pub standing : Standins
standing = variable_at 11 12 1 named_type

abbrev pub after : Frame
after = record {
  around = record around { objects = λ i. if nat_eq 11 i then local 1 else around.objects i };
  locals = Some (sort.Value named_type) ∷ Some (sort.Value named_type) ∷ None ∷ [];
  types = λ n. 5;
  source = None;
  tag = sort.Unknown;
  results = [];
}

-- All that the law asks holds of it, and so it is read with the variable.
pub record AskedIsMet : Type 0 where
  pub shaped : IsShaped category.Block body
  pub stand : FramesStand standing before after
  pub proper : Proper standing body
  pub declares : Declares standing body
  pub good : no_rule_fails (found_in (reading before value body)) ≡ true
  pub fits : Fits standing false (tree_in (reading before value body))
  pub tagged : Tagged (tree_in (reading before value body))
  pub steady : Steady before value body
  pub variables : with_variables standing body ≡ switching (name 11)
  pub read : IsBodyReadWithVariables standing before after value body
