-- Why the law asks that tags of switches have types: an example in which one has none, and a rule fails with a variable in place of a constant
-- that failed with none.
use Rattle.std.specs.Prelude.{◌≡◌, nat_eq, if◌then◌else◌, true, false, List, [], ◌∷◌, codes, Some, None}
use Rattle.go_grammar.specs.declared.kind.Arithmetic.TheVariants as arithmetic
use Rattle.go_grammar.specs.declared.kind.Kind.TheVariants as kind
use Rattle.go_grammar.specs.declared.kind.Operator.TheVariants as operator
use Rattle.go_grammar.specs.Trees.{Tree, node}
use Rattle.go_typed.specs.Trees as sort
use Rattle.go_exprs_rules.specs.Scopes.{free}
use Rattle.go_exprs_rules.specs.Sentences.{Word, fmt, word, mark, name, number, infix_of, n_word}
use Rattle.go_exprs_rules.specs.Sorts.{int}
use Rattle.go_stmts_defs.specs.Frames.{with_local}
use Rattle.go_stmts_defs.specs.Reading.{Reading, reading}
use Rattle.go_stmts_defs.specs.Sentences.{one, two, frame_of, z_word}
use Rattle.go_exprs_variables.specs.Variables.{Standins, with_variables, no_rule_fails}
use Rattle.go_stmts_variables.specs.Statements.{found_in}

-- z, a local of type `int`, stands in place of the token 10
abbrev pub standing : Standins
standing i = if nat_eq i 10 then Some (record { upto = 11; function = 0; local = 24; type = int }) else None

abbrev pub shift_of : Tree → Tree → Tree
shift_of x y = infix_of (operator.Compute arithmetic.ShiftLeft) x y

-- switch fmt.Println { case 1<<100 + 1<<n: }
abbrev pub switching : Tree
switching = node kind.Switch 0 15 (two (node kind.Selector 1 4 (one (name 1)))
    (node kind.Case 5 14 (one (node kind.ExpressionList 6 13 (one (infix_of (operator.Compute arithmetic.Add) (shift_of (number 6) (number 8)) (shift_of (number 10) (name 12))))))))

abbrev pub words : Word → List Word
words z =
    mark ∷ fmt ∷ mark ∷ word (codes "Println") ∷ mark ∷ mark ∷ word (codes "1") ∷ mark ∷ word (codes "100") ∷ mark ∷ z ∷ mark ∷ n_word ∷ mark ∷ mark ∷ []

abbrev pub before : Reading
before = reading (frame_of [] (words (word (codes "1")))) free switching

abbrev pub after : Reading
after = reading (with_local 24 (sort.Value int) (frame_of [] (words z_word))) free (with_variables standing switching)

-- `1<<100` isn't judged before, since the case is compared with nothing that is known. Beside a variable of type `int` it is.
pub record TagsNeedTypes : Type 0 where
  pub constants : no_rule_fails (found_in before) ≡ true
  pub variable : no_rule_fails (found_in after) ≡ false
