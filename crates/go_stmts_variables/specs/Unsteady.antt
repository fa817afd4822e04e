-- Why the law asks that declared types leave the types of tags as they are: an example in which a clause declares the type of its tag, and a
-- rule fails with a variable in place of a constant that failed with none.
use Rattle.std.specs.Prelude.{◌≡◌, nat_eq, if◌then◌else◌, true, false, List, [], ◌∷◌, codes, Some, None}
use Rattle.go_grammar.specs.declared.kind.Arithmetic.TheVariants as arithmetic
use Rattle.go_grammar.specs.declared.kind.Kind.TheVariants as kind
use Rattle.go_grammar.specs.declared.kind.Operator.TheVariants as operator
use Rattle.go_grammar.specs.declared.kind.Sort.TheVariants as declaring
use Rattle.go_grammar.specs.Trees.{Tree, node}
use Rattle.go_tree.specs.declared.object.Predeclared.TheVariants as predeclared
use Rattle.go_types.specs.Trees.{declared}
use Rattle.go_typed.specs.Trees as sort
use Rattle.go_exprs_rules.specs.Scopes.{free}
use Rattle.go_exprs_rules.specs.Sentences.{Word, word, mark, predeclared_word, name, number, infix_of, n_word}
use Rattle.go_stmts_defs.specs.Frames.{Frame, with_local}
use Rattle.go_stmts_defs.specs.Reading.{Reading, reading}
use Rattle.go_stmts_defs.specs.Sentences.{one, two, frame_of, q_word, r_word, z_word}
use Rattle.go_exprs_variables.specs.Variables.{Standins, with_variables, no_rule_fails}
use Rattle.go_stmts_variables.specs.Statements.{found_in}

-- z, a local of the declared type 5, stands in place of the token 4
abbrev pub standing : Standins
standing i = if nat_eq i 4 then Some (record { upto = 5; function = 0; local = 24; type = declared 5 }) else None

-- switch q { case 1 << n: type r int }
abbrev pub switching : Tree
switching = node kind.Switch 0 12 (two (name 1) (node kind.Case 3 11 (two
    (node kind.ExpressionList 4 7 (one (infix_of (operator.Compute arithmetic.ShiftLeft) (number 4) (name 6))))
    (node (kind.Declaration declaring.Type) 8 11 (one (node (kind.Specification declaring.Type) 9 11 (one (name 10))))))))

abbrev pub words : Word → List Word
words z = mark ∷ q_word ∷ mark ∷ mark ∷ z ∷ mark ∷ n_word ∷ mark ∷ mark ∷ r_word ∷ predeclared_word predeclared.Int ∷ mark ∷ []

-- q is of the type r, which has no right side in front of its declaration
abbrev pub frame : Word → Frame
frame z = with_local 22 (sort.Value (declared 5)) (frame_of [] (words z))

abbrev pub before : Reading
before = reading (frame (word (codes "1"))) free switching

abbrev pub after : Reading
after = reading (with_local 24 (sort.Value (declared 5)) (frame z_word)) free (with_variables standing switching)

-- The case is judged where the type is an `int`, and read where nothing is known of it.
pub record TagsNeedSteadyTypes : Type 0 where
  pub constants : no_rule_fails (found_in before) ≡ true
  pub variable : no_rule_fails (found_in after) ≡ false
