-- The worked functions compute.
use Rattle.std.proofs.Common.{◌≡◌, ◌∙◌, false, [], ◌∷◌, Some, None, refl, sym, ap}
use Rattle.std.specs.Prelude.{is_some}
use Rattle.std.specs.Char.{encode_utf8}
use Rattle.std.specs.Option.{option_map}
use Rattle.ucd_category.specs.GeneralCategory.{general_category}
use Rattle.ucd_category.specs.GeneralCategoryRows.{general_category_rows}
use Rattle.ucd_table.specs.Rows.{value_in}
use Rattle.go_grammar.specs.declared.kind.Arithmetic.TheVariants as arithmetic
use Rattle.go_grammar.specs.declared.kind.Comparison.TheVariants as comparison
use Rattle.go_grammar.specs.declared.kind.Kind.TheVariants as kind
use Rattle.go_grammar.specs.declared.kind.Operator.TheVariants as operator
use Rattle.go_grammar.specs.Trees.{Tree, Trees, node, none, more, skip}
use Rattle.go_tokens.specs.Characters.{is_white, is_letter, is_digit, is_in_word, is_in_run, is_exponent, is_power, is_sign, is_x, is_b, is_o}
use Rattle.go_tokens.specs.Lexing.{width, span}
use Rattle.go_tokens.specs.Literals.{letter_base, is_digit_of}
use Rattle.go_tokens.specs.Pieces.{begun_by, goes}
use Rattle.go_tokens.specs.Spellings.{keywords, punctuation, outside_operators, operators}
use Rattle.go_tokens.proofs.Public.{lexes_by_test}
use Rattle.go_types.specs.Trees.{boolean, text, array}
use Rattle.go_types_relations.specs.Questions.{answers}
use Rattle.go_types_relations.specs.Tests.{is_assignable}
use Rattle.go_typed.specs.Trees as sort
use Rattle.go_exprs_rules.specs.Faults.{sooner}
use Rattle.go_exprs_rules.specs.Sentences.{name, number, string, infix_of}
use Rattle.go_exprs_rules.specs.Sentences as expressions
use Rattle.go_exprs_rules.specs.Sorts.{int}
use Rattle.go_stmts_defs.specs.Frames.{Frame}
use Rattle.go_stmts_defs.specs.Sentences.{one, two, block}
use Rattle.go_exprs_variables.specs.Variables.{put}
use Rattle.go_exprs_variables.specs.WorkedExpressions.{Expression, int8, bytes}
use Rattle.go_stmts_variables.specs.WorkedFunctions as worked
use Rattle.go_stmts_variables.specs.WorkedFunctions.{WorkedFunctions, IsFunction, VariedBy, VariedFunction, variable_at, typed_function, typed_with_type}
use Rattle.go_stmts_variables.proofs.Functions.{function_at, function_typed}

case_before : IsFunction worked.case_before
unfolding width span begun_by is_white is_letter is_digit is_in_word is_in_run is_exponent is_power is_sign is_x is_b is_o is_digit_of letter_base goes operators punctuation outside_operators keywords general_category value_in general_category_rows encode_utf8
case_before = record { lexes = lexes_by_test 0 worked.case_before.pieces refl; kinds = refl; words = refl; tree = refl }

case_after : IsFunction worked.case_after
unfolding width span begun_by is_white is_letter is_digit is_in_word is_in_run is_exponent is_power is_sign is_x is_b is_o is_digit_of letter_base goes operators punctuation outside_operators keywords general_category value_in general_category_rows encode_utf8
case_after = record { lexes = lexes_by_test 0 worked.case_after.pieces refl; kinds = refl; words = refl; tree = refl }

case : VariedFunction (variable_at 14 15 1 int) worked.case_before worked.case_after
unfolding sooner answers is_assignable is_digit_of letter_base encode_utf8
case = record { before = case_before; after = case_after; tree = refl; good = refl; typed = refl }

declaring_before : IsFunction worked.declaring_before
unfolding width span begun_by is_white is_letter is_digit is_in_word is_in_run is_exponent is_power is_sign is_x is_b is_o is_digit_of letter_base goes operators punctuation outside_operators keywords general_category value_in general_category_rows encode_utf8
declaring_before = record { lexes = lexes_by_test 0 worked.declaring_before.pieces refl; kinds = refl; words = refl; tree = refl }

declaring_after : IsFunction worked.declaring_after
unfolding width span begun_by is_white is_letter is_digit is_in_word is_in_run is_exponent is_power is_sign is_x is_b is_o is_digit_of letter_base goes operators punctuation outside_operators keywords general_category value_in general_category_rows encode_utf8
declaring_after = record { lexes = lexes_by_test 0 worked.declaring_after.pieces refl; kinds = refl; words = refl; tree = refl }

declaring : VariedBy typed_with_type (variable_at 15 16 1 int) worked.declaring_before worked.declaring_after
unfolding sooner answers is_assignable is_digit_of letter_base encode_utf8
declaring = record { before = declaring_before; after = declaring_after; tree = refl; good = refl; typed = refl }

definition_before : IsFunction worked.definition_before
unfolding width span begun_by is_white is_letter is_digit is_in_word is_in_run is_exponent is_power is_sign is_x is_b is_o is_digit_of letter_base goes operators punctuation outside_operators keywords general_category value_in general_category_rows encode_utf8
definition_before = record { lexes = lexes_by_test 0 worked.definition_before.pieces refl; kinds = refl; words = refl; tree = refl }

definition_after : IsFunction worked.definition_after
unfolding width span begun_by is_white is_letter is_digit is_in_word is_in_run is_exponent is_power is_sign is_x is_b is_o is_digit_of letter_base goes operators punctuation outside_operators keywords general_category value_in general_category_rows encode_utf8
definition_after = record { lexes = lexes_by_test 0 worked.definition_after.pieces refl; kinds = refl; words = refl; tree = refl }

definition : VariedFunction (variable_at 10 11 0 int) worked.definition_before worked.definition_after
unfolding sooner answers is_assignable is_digit_of letter_base encode_utf8
definition = record { before = definition_before; after = definition_after; tree = refl; good = refl; typed = refl }

shift_before : IsFunction worked.shift_before
unfolding width span begun_by is_white is_letter is_digit is_in_word is_in_run is_exponent is_power is_sign is_x is_b is_o is_digit_of letter_base goes operators punctuation outside_operators keywords general_category value_in general_category_rows encode_utf8
shift_before = record { lexes = lexes_by_test 0 worked.shift_before.pieces refl; kinds = refl; words = refl; tree = refl }

shift_after : IsFunction worked.shift_after
unfolding width span begun_by is_white is_letter is_digit is_in_word is_in_run is_exponent is_power is_sign is_x is_b is_o is_digit_of letter_base goes operators punctuation outside_operators keywords general_category value_in general_category_rows encode_utf8
shift_after = record { lexes = lexes_by_test 0 worked.shift_after.pieces refl; kinds = refl; words = refl; tree = refl }

shift : VariedFunction (variable_at 12 13 1 int8) worked.shift_before worked.shift_after
unfolding sooner answers is_assignable is_digit_of letter_base encode_utf8
shift = record { before = shift_before; after = shift_after; tree = refl; good = refl; typed = refl }

compared_shifts_before : IsFunction worked.compared_shifts_before
unfolding width span begun_by is_white is_letter is_digit is_in_word is_in_run is_exponent is_power is_sign is_x is_b is_o is_digit_of letter_base goes operators punctuation outside_operators keywords general_category value_in general_category_rows encode_utf8
compared_shifts_before = record { lexes = lexes_by_test 0 worked.compared_shifts_before.pieces refl; kinds = refl; words = refl; tree = refl }

compared_shifts_after : IsFunction worked.compared_shifts_after
unfolding width span begun_by is_white is_letter is_digit is_in_word is_in_run is_exponent is_power is_sign is_x is_b is_o is_digit_of letter_base goes operators punctuation outside_operators keywords general_category value_in general_category_rows encode_utf8
compared_shifts_after = record { lexes = lexes_by_test 0 worked.compared_shifts_after.pieces refl; kinds = refl; words = refl; tree = refl }

-- what is known behind the signature
abbrev compared_shifts_frame : Expression → Frame
compared_shifts_frame e = record { around = expressions.scope_of e.words; locals = Some (sort.Value int) ∷ Some (sort.Value int) ∷ []; types = λ n. n; source = None; tag = sort.Unknown; results = boolean ∷ [] }

abbrev compared_shifts_signature : Trees
compared_shifts_signature = more (node kind.Parameters 2 9 (more (node kind.Parameter 3 5 (two (name 3) (name 4))) (more (node kind.Parameter 6 8 (two (name 6) (name 7))) none))) (more (name 9) none)

abbrev compared_shifts_old_body : Tree
compared_shifts_old_body = block 10 20 (more (node kind.Return 11 19 (one (node kind.ExpressionList 12 19 (one (infix_of (operator.Compare comparison.Equal)
    (infix_of (operator.Compute arithmetic.ShiftLeft) (number 12) (name 14)) (infix_of (operator.Compute arithmetic.ShiftLeft) (number 16) (name 18))))))) none)

abbrev compared_shifts_new_body : Tree
compared_shifts_new_body = block 10 20 (more (node kind.Return 11 19 (one (node kind.ExpressionList 12 19 (one (infix_of (operator.Compare comparison.Equal)
    (infix_of (operator.Compute arithmetic.ShiftLeft) (name 12) (name 14)) (infix_of (operator.Compute arithmetic.ShiftLeft) (number 16) (name 18))))))) none)

compared_shifts_old : typed_function worked.compared_shifts_before ≡ Some (function_at (compared_shifts_frame worked.compared_shifts_before) 0 20 compared_shifts_old_body)
unfolding sooner answers is_assignable is_digit_of letter_base encode_utf8
compared_shifts_old = function_typed (expressions.scope_of worked.compared_shifts_before.words) 2 (λ n. n) 0 20 2 10 compared_shifts_signature compared_shifts_old_body (compared_shifts_frame worked.compared_shifts_before) refl refl

compared_shifts_new : typed_function worked.compared_shifts_after ≡ Some (function_at (compared_shifts_frame worked.compared_shifts_after) 0 20 compared_shifts_new_body)
unfolding sooner answers is_assignable is_digit_of letter_base encode_utf8
compared_shifts_new = function_typed (expressions.scope_of worked.compared_shifts_after.words) 2 (λ n. n) 0 20 2 10 compared_shifts_signature compared_shifts_new_body (compared_shifts_frame worked.compared_shifts_after) refl refl

compared_shifts_same : function_at (compared_shifts_frame worked.compared_shifts_after) 0 20 compared_shifts_new_body
    ≡ put (variable_at 12 13 1 int) false (function_at (compared_shifts_frame worked.compared_shifts_before) 0 20 compared_shifts_old_body)
unfolding sooner answers is_assignable is_digit_of letter_base encode_utf8
compared_shifts_same = refl

compared_shifts : VariedFunction (variable_at 12 13 1 int) worked.compared_shifts_before worked.compared_shifts_after
compared_shifts = record {
  before = compared_shifts_before;
  after = compared_shifts_after;
  tree = refl;
  good = ap is_some compared_shifts_new;
  typed = compared_shifts_new ∙ ap Some compared_shifts_same ∙ sym (ap (option_map (put (variable_at 12 13 1 int) false)) compared_shifts_old);
}

index_before : IsFunction worked.index_before
unfolding width span begun_by is_white is_letter is_digit is_in_word is_in_run is_exponent is_power is_sign is_x is_b is_o is_digit_of letter_base goes operators punctuation outside_operators keywords general_category value_in general_category_rows encode_utf8
index_before = record { lexes = lexes_by_test 0 worked.index_before.pieces refl; kinds = refl; words = refl; tree = refl }

index_after : IsFunction worked.index_after
unfolding width span begun_by is_white is_letter is_digit is_in_word is_in_run is_exponent is_power is_sign is_x is_b is_o is_digit_of letter_base goes operators punctuation outside_operators keywords general_category value_in general_category_rows encode_utf8
index_after = record { lexes = lexes_by_test 0 worked.index_after.pieces refl; kinds = refl; words = refl; tree = refl }

-- what is known behind the signature
abbrev index_frame : Expression → Frame
index_frame e = record { around = expressions.scope_of e.words; locals = Some (sort.Value (array 3 int)) ∷ Some (sort.Value int) ∷ []; types = λ n. n; source = None; tag = sort.Unknown; results = int ∷ [] }

abbrev index_signature : Trees
index_signature = more (node kind.Parameters 2 12 (more (node kind.Parameter 3 8 (two (name 3) (node kind.SequenceType 4 8 (two (number 5) (name 7))))) (more (node kind.Parameter 9 11 (two (name 9) (name 10))) none))) (more (name 12) none)

abbrev index_old_body : Tree
index_old_body = block 13 20 (more (node kind.Return 14 19 (one (node kind.ExpressionList 15 19 (one (node kind.Bracketed 15 19 (two (name 15) (number 17))))))) none)

abbrev index_new_body : Tree
index_new_body = block 13 20 (more (node kind.Return 14 19 (one (node kind.ExpressionList 15 19 (one (node kind.Bracketed 15 19 (two (name 15) (name 17))))))) none)

index_old : typed_function worked.index_before ≡ Some (function_at (index_frame worked.index_before) 0 20 index_old_body)
unfolding sooner answers is_assignable is_digit_of letter_base encode_utf8
index_old = function_typed (expressions.scope_of worked.index_before.words) 2 (λ n. n) 0 20 2 13 index_signature index_old_body (index_frame worked.index_before) refl refl

index_new : typed_function worked.index_after ≡ Some (function_at (index_frame worked.index_after) 0 20 index_new_body)
unfolding sooner answers is_assignable is_digit_of letter_base encode_utf8
index_new = function_typed (expressions.scope_of worked.index_after.words) 2 (λ n. n) 0 20 2 13 index_signature index_new_body (index_frame worked.index_after) refl refl

index_same : function_at (index_frame worked.index_after) 0 20 index_new_body ≡ put (variable_at 17 18 1 int) false (function_at (index_frame worked.index_before) 0 20 index_old_body)
unfolding sooner answers is_assignable is_digit_of letter_base encode_utf8
index_same = refl

index : VariedFunction (variable_at 17 18 1 int) worked.index_before worked.index_after
index = record {
  before = index_before;
  after = index_after;
  tree = refl;
  good = ap is_some index_new;
  typed = index_new ∙ ap Some index_same ∙ sym (ap (option_map (put (variable_at 17 18 1 int) false)) index_old);
}

conjunction_before : IsFunction worked.conjunction_before
unfolding width span begun_by is_white is_letter is_digit is_in_word is_in_run is_exponent is_power is_sign is_x is_b is_o is_digit_of letter_base goes operators punctuation outside_operators keywords general_category value_in general_category_rows encode_utf8
conjunction_before = record { lexes = lexes_by_test 0 worked.conjunction_before.pieces refl; kinds = refl; words = refl; tree = refl }

conjunction_after : IsFunction worked.conjunction_after
unfolding width span begun_by is_white is_letter is_digit is_in_word is_in_run is_exponent is_power is_sign is_x is_b is_o is_digit_of letter_base goes operators punctuation outside_operators keywords general_category value_in general_category_rows encode_utf8
conjunction_after = record { lexes = lexes_by_test 0 worked.conjunction_after.pieces refl; kinds = refl; words = refl; tree = refl }

-- what is known behind the signature
abbrev conjunction_frame : Expression → Frame
conjunction_frame e = record { around = expressions.scope_of e.words; locals = Some (sort.Value boolean) ∷ Some (sort.Value boolean) ∷ []; types = λ n. n; source = None; tag = sort.Unknown; results = boolean ∷ [] }

abbrev conjunction_signature : Trees
conjunction_signature = more (node kind.Parameters 2 9 (more (node kind.Parameter 3 5 (two (name 3) (name 4))) (more (node kind.Parameter 6 8 (two (name 6) (name 7))) none))) (more (name 9) none)

abbrev conjunction_old_body : Tree
conjunction_old_body = block 10 16 (more (node kind.Return 11 15 (one (node kind.ExpressionList 12 15 (one (infix_of operator.Both (name 12) (name 14)))))) none)

abbrev conjunction_new_body : Tree
conjunction_new_body = block 10 16 (more (node kind.Return 11 15 (one (node kind.ExpressionList 12 15 (one (infix_of operator.Both (name 12) (name 14)))))) none)

conjunction_old : typed_function worked.conjunction_before ≡ Some (function_at (conjunction_frame worked.conjunction_before) 0 16 conjunction_old_body)
unfolding sooner answers is_assignable is_digit_of letter_base encode_utf8
conjunction_old = function_typed (expressions.scope_of worked.conjunction_before.words) 2 (λ n. n) 0 16 2 10 conjunction_signature conjunction_old_body (conjunction_frame worked.conjunction_before) refl refl

conjunction_new : typed_function worked.conjunction_after ≡ Some (function_at (conjunction_frame worked.conjunction_after) 0 16 conjunction_new_body)
unfolding sooner answers is_assignable is_digit_of letter_base encode_utf8
conjunction_new = function_typed (expressions.scope_of worked.conjunction_after.words) 2 (λ n. n) 0 16 2 10 conjunction_signature conjunction_new_body (conjunction_frame worked.conjunction_after) refl refl

conjunction_same : function_at (conjunction_frame worked.conjunction_after) 0 16 conjunction_new_body ≡ put (variable_at 12 13 1 boolean) false (function_at (conjunction_frame worked.conjunction_before) 0 16 conjunction_old_body)
unfolding sooner answers is_assignable is_digit_of letter_base encode_utf8
conjunction_same = refl

conjunction : VariedFunction (variable_at 12 13 1 boolean) worked.conjunction_before worked.conjunction_after
conjunction = record {
  before = conjunction_before;
  after = conjunction_after;
  tree = refl;
  good = ap is_some conjunction_new;
  typed = conjunction_new ∙ ap Some conjunction_same ∙ sym (ap (option_map (put (variable_at 12 13 1 boolean) false)) conjunction_old);
}

text_of_number_before : IsFunction worked.text_of_number_before
unfolding width span begun_by is_white is_letter is_digit is_in_word is_in_run is_exponent is_power is_sign is_x is_b is_o is_digit_of letter_base goes operators punctuation outside_operators keywords general_category value_in general_category_rows encode_utf8
text_of_number_before = record { lexes = lexes_by_test 0 worked.text_of_number_before.pieces refl; kinds = refl; words = refl; tree = refl }

text_of_number_after : IsFunction worked.text_of_number_after
unfolding width span begun_by is_white is_letter is_digit is_in_word is_in_run is_exponent is_power is_sign is_x is_b is_o is_digit_of letter_base goes operators punctuation outside_operators keywords general_category value_in general_category_rows encode_utf8
text_of_number_after = record { lexes = lexes_by_test 0 worked.text_of_number_after.pieces refl; kinds = refl; words = refl; tree = refl }

text_of_number : VariedFunction (variable_at 16 17 1 int) worked.text_of_number_before worked.text_of_number_after
unfolding sooner answers is_assignable is_digit_of letter_base encode_utf8
text_of_number = record { before = text_of_number_before; after = text_of_number_after; tree = refl; good = refl; typed = refl }

bytes_of_text_before : IsFunction worked.bytes_of_text_before
unfolding width span begun_by is_white is_letter is_digit is_in_word is_in_run is_exponent is_power is_sign is_x is_b is_o is_digit_of letter_base goes operators punctuation outside_operators keywords general_category value_in general_category_rows encode_utf8
bytes_of_text_before = record { lexes = lexes_by_test 0 worked.bytes_of_text_before.pieces refl; kinds = refl; words = refl; tree = refl }

bytes_of_text_after : IsFunction worked.bytes_of_text_after
unfolding width span begun_by is_white is_letter is_digit is_in_word is_in_run is_exponent is_power is_sign is_x is_b is_o is_digit_of letter_base goes operators punctuation outside_operators keywords general_category value_in general_category_rows encode_utf8
bytes_of_text_after = record { lexes = lexes_by_test 0 worked.bytes_of_text_after.pieces refl; kinds = refl; words = refl; tree = refl }

-- what is known behind the signature
abbrev bytes_of_text_frame : Expression → Frame
bytes_of_text_frame e = record { around = expressions.scope_of e.words; locals = Some (sort.Value text) ∷ None ∷ []; types = λ n. n; source = None; tag = sort.Unknown; results = bytes ∷ [] }

abbrev bytes_of_text_signature : Trees
bytes_of_text_signature = more (node kind.Parameters 2 6 (more (node kind.Parameter 3 5 (two (name 3) (name 4))) none)) (more (node kind.SequenceType 6 9 (skip (one (name 8)))) none)

abbrev bytes_of_text_old_body : Tree
bytes_of_text_old_body = block 9 18 (more (node kind.Return 10 17 (one (node kind.ExpressionList 11 17 (one (node kind.Call 11 17 (two (node kind.SequenceType 11 14 (skip (one (name 13)))) (string 15))))))) none)

abbrev bytes_of_text_new_body : Tree
bytes_of_text_new_body = block 9 18 (more (node kind.Return 10 17 (one (node kind.ExpressionList 11 17 (one (node kind.Call 11 17 (two (node kind.SequenceType 11 14 (skip (one (name 13)))) (name 15))))))) none)

bytes_of_text_old : typed_function worked.bytes_of_text_before ≡ Some (function_at (bytes_of_text_frame worked.bytes_of_text_before) 0 18 bytes_of_text_old_body)
unfolding sooner answers is_assignable is_digit_of letter_base encode_utf8
bytes_of_text_old = function_typed (expressions.scope_of worked.bytes_of_text_before.words) 2 (λ n. n) 0 18 2 9 bytes_of_text_signature bytes_of_text_old_body (bytes_of_text_frame worked.bytes_of_text_before) refl refl

bytes_of_text_new : typed_function worked.bytes_of_text_after ≡ Some (function_at (bytes_of_text_frame worked.bytes_of_text_after) 0 18 bytes_of_text_new_body)
unfolding sooner answers is_assignable is_digit_of letter_base encode_utf8
bytes_of_text_new = function_typed (expressions.scope_of worked.bytes_of_text_after.words) 2 (λ n. n) 0 18 2 9 bytes_of_text_signature bytes_of_text_new_body (bytes_of_text_frame worked.bytes_of_text_after) refl refl

bytes_of_text_same : function_at (bytes_of_text_frame worked.bytes_of_text_after) 0 18 bytes_of_text_new_body ≡ put (variable_at 15 16 0 text) false (function_at (bytes_of_text_frame worked.bytes_of_text_before) 0 18 bytes_of_text_old_body)
unfolding sooner answers is_assignable is_digit_of letter_base encode_utf8
bytes_of_text_same = refl

bytes_of_text : VariedFunction (variable_at 15 16 0 text) worked.bytes_of_text_before worked.bytes_of_text_after
bytes_of_text = record {
  before = bytes_of_text_before;
  after = bytes_of_text_after;
  tree = refl;
  good = ap is_some bytes_of_text_new;
  typed = bytes_of_text_new ∙ ap Some bytes_of_text_same ∙ sym (ap (option_map (put (variable_at 15 16 0 text) false)) bytes_of_text_old);
}

pub worked_functions : WorkedFunctions
worked_functions = record {
  case = case;
  declaring = declaring;
  definition = definition;
  shift = shift;
  compared_shifts = compared_shifts;
  index = index;
  conjunction = conjunction;
  text_of_number = text_of_number;
  bytes_of_text = bytes_of_text;
}
