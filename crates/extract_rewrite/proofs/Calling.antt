-- Calls at windows, and the new function, stand.
use Rattle.std.proofs.Common.{◌≡◌, ℕ, Bool, true, false, List, [], ◌∷◌, ◌++◌, length, map, codes, refl, sym, ap, subst}
use Rattle.std.specs.Prelude.{if◌then◌else◌}
use Rattle.std.specs.Char.{encode_utf8}
use Rattle.std.specs.Str.{chars}
use Rattle.std.proofs.lemmas.Str.{chars-encodes}
use Rattle.ucd_category.specs.GeneralCategory.{general_category}
use Rattle.ucd_category.specs.GeneralCategoryRows.{general_category_rows}
use Rattle.ucd_table.specs.Rows.{value_in}
use Rattle.go_tokens.specs.declared.token.TokenKind.TheVariants as token
use Rattle.go_tokens.specs.Characters.{is_white, is_letter, is_digit, is_in_word, is_in_run, is_exponent, is_power, is_sign, is_x}
use Rattle.go_tokens.specs.Spellings.{keywords, punctuation, outside_operators, operators}
use Rattle.go_tokens.specs.Pieces.{begun_by, goes}
use Rattle.go_types.specs.Trees.{TypeTree}
use Rattle.go_typed.specs.Trees.{Sort, Nothing, Unknown, Blank, Nil, Builtin, Println, Package, IsType, Value, Constant, Open, OpenConstant, Results}
use Rattle.clone_window.specs.Sameness.{sort_at}
use Rattle.go_print_laws.specs.Lexemes.{IsWord, IsName, AreNames}
use Rattle.go_print_laws.specs.Calls.{Argument, variable, ArgumentsCanBeWritten, CallsStand}
use Rattle.go_print_laws.specs.Headers.{header_text}
use Rattle.go_print_laws.specs.Functions.{FunctionsStand, FunctionStands, function_text, function_tree, function_words}
use Rattle.go_print_laws.specs.Functions as functions
use Rattle.param_choose.specs.Locals.{Variable, variable_of, variables_where}
use Rattle.param_choose.specs.Members.{Member, occurs_later}
use Rattle.escape_check.specs.Lookups.{locals_at}
use Rattle.escape_check.specs.Places.{Sources, local_text}
use Rattle.escape_check.specs.Types.{declared_text, hole_numbers}
use Rattle.extract_texts.specs.Texts.{call_of, constants_at, function_with, result_name, returning_text, variable_names}
use Rattle.extract_rewrite.specs.Sites.{AreNamed, CallsStandAtWindows, NewFunctionsStand, new_function}

-- ---- names

names_both : (xs ys : List (List ℕ)) → AreNames xs → AreNames ys → AreNames (xs ++ ys)
names_both [] ys a b = b
names_both (x ∷ xs) ys a b = (a.0, names_both xs ys a.1 b)

blank_word : IsWord token.Identifier (codes "_") (codes "_")
unfolding begun_by is_white is_letter is_digit is_in_word is_in_run is_exponent is_power is_sign is_x goes operators punctuation outside_operators keywords general_category value_in general_category_rows encode_utf8
blank_word = record { piece = refl; good = refl; token = refl; kind = refl; scalars = refl; plain = refl; encoded = refl }

blank_same : chars (codes "_") ≡ codes "_"
unfolding encode_utf8
blank_same = chars-encodes (codes "_") refl

blank_name : IsName (codes "_")
blank_name = subst (IsWord token.Identifier (codes "_")) (sym blank_same) blank_word

module _ (s : Sources) (m : Member TypeTree) where
  named : (ns : List ℕ) → AreNamed s m ns → AreNames (map (local_text s m) ns)
  named [] h = tt
  named (n ∷ ns) h = (h.0, named ns h.1)

  result_named : (n : ℕ) (b : Bool) → IsName (local_text s m n) → IsName (if b then local_text s m n else codes "_")
  result_named n true h = h
  result_named n false h = blank_name

  results_named : (ns : List ℕ) → AreNamed s m ns → AreNames (map (result_name s m) ns)
  results_named [] h = tt
  results_named (n ∷ ns) h = (result_named n (occurs_later m n) h.0, results_named ns h.1)

  one_named : (n : ℕ) (x : Sort TypeTree) (b : Bool) (rest : List (Variable TypeTree)) → IsName (local_text s m n) → AreNames (variable_names s m rest)
      → AreNames (variable_names s m ((if b then variable_of n x else []) ++ rest))
  one_named n x false rest h k = k
  one_named n Nothing true rest h k = k
  one_named n Unknown true rest h k = k
  one_named n Blank true rest h k = k
  one_named n Nil true rest h k = k
  one_named n (Builtin b) true rest h k = k
  one_named n Println true rest h k = k
  one_named n Package true rest h k = k
  one_named n (IsType t) true rest h k = k
  one_named n (Value t) true rest h k = (h, k)
  one_named n (Constant t v) true rest h k = k
  one_named n (Open u) true rest h k = k
  one_named n (OpenConstant v) true rest h k = k
  one_named n (Results t) true rest h k = k

  those_named : (test : ℕ → Bool) (ns : List ℕ) → AreNamed s m ns → AreNames (variable_names s m (variables_where m.locals test ns))
  those_named test [] h = tt
  those_named test (n ∷ ns) h = one_named n (sort_at m.locals n) (test n) (variables_where m.locals test ns) h.0 (those_named test ns h.1)

  arguments_named : (ns : List (List ℕ)) (gs : List Argument) → AreNames ns → ArgumentsCanBeWritten gs → ArgumentsCanBeWritten (map variable ns ++ gs)
  arguments_named [] gs h k = k
  arguments_named (n ∷ ns) gs h k = (h.0, arguments_named ns gs h.1 k)

-- ---- calls

pub calls_stand_at_windows : CallsStand → CallsStandAtWindows
calls_stand_at_windows law file items s name t h m statements w =
    law file items (declared_text s) (call_of (λ x. x) s name t h m) statements (record {
      declared = those_named s m (occurs_later m) (locals_at t m h.declared) w.declared;
      types = w.types;
      results = names_both (map (local_text s m) (locals_at t m h.assigned)) (map (result_name s m) (locals_at t m h.declared)) (named s m (locals_at t m h.assigned) w.assigned)
          (results_named s m (locals_at t m h.declared) w.declared);
      function = w.function;
      arguments = arguments_named s m (map (local_text s m) (locals_at t m h.free)) (constants_at (hole_numbers h.holes) m) (named s m (locals_at t m h.free) w.free) w.constants;
    })

-- ---- functions

returning_is : (xs : List (List ℕ)) → functions.returning_text xs ≡ returning_text xs
returning_is [] = refl
returning_is (x ∷ xs) = refl

pub new_functions_stand : FunctionsStand → NewFunctionsStand
new_functions_stand law file s name fresh t h ws new header returned body shallow =
    let f = new_function s name fresh t h in
    let text : function_text (declared_text s) f ≡ function_with (λ x. x) s name fresh t h =
    ap (λ r. codes "\n" ++ header_text (declared_text s) f.header ++ codes " {\n" ++ f.body ++ codes "\n" ++ r ++ codes "}\n") (returning_is f.returned) in
    subst (λ bytes. FunctionStands file bytes (function_words (declared_text s) f ws) (function_tree f (length ws) new)) text (law file (declared_text s) f ws new header returned body shallow)
