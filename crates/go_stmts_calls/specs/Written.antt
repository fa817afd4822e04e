-- What a call is read to be, told by what its tokens mean alone.
use Rattle.std.specs.Prelude.{◌≡◌, ℕ, suc, false, List, [], ◌∷◌, negsuc, Option, Some}
use Rattle.go_constants.specs.declared.values.Const.{Const}
use Rattle.go_constants.specs.declared.values.Const.TheVariants as const
use Rattle.go_grammar.specs.declared.kind.Sign.TheVariants as sign
use Rattle.go_grammar.specs.Trees.{last}
use Rattle.go_tree.specs.declared.object.Object.{Object}
use Rattle.go_tree.specs.declared.object.Object.TheVariants as object
use Rattle.go_types.specs.Trees.{TypeTree, TypeRow, more, function}
use Rattle.go_typed.specs.declared.form.Form.TheVariants as form
use Rattle.go_typed.specs.Trees.{typed}
use Rattle.go_typed.specs.Trees as sort
use Rattle.go_exprs_rules.specs.Calls.{called, all_as}
use Rattle.go_exprs_rules.specs.Names.{object_form, integer_constant}
use Rattle.go_exprs_rules.specs.Operators.{unary_take}
use Rattle.go_exprs_rules.specs.Scopes.{Scope}
use Rattle.go_exprs_rules.specs.Settling.{Part, stay, given}
use Rattle.go_exprs_rules.specs.Sorts.{Stands}
use Rattle.go_exprs_rules.specs.Tables.{Parts, made, all_given}
use Rattle.go_print_laws.specs.Calls.{Argument, variable, constant, argument_tree, names_end, call_tree}
use Rattle.go_print_laws.specs.Reading.{unmarked}
use Rattle.go_print_laws.specs.Trees.{type_tree}
use Rattle.go_stmts_elsewhere.specs.Replaced.{SaysAs}
use Rattle.go_stmts_defs.specs.Frames.{Frame}
use Rattle.go_stmts_calls.specs.Calls.{CallReads, call_parts, assignment_part}

-- ---- names, constants and types

-- a variable of the type that a token means, or the blank identifier
abbrev pub variable_in : Option Object → ℕ → TypeTree → Part
variable_in (Some (object.Local f n)) i t = made (form.Local n) i (suc i) (sort.Value t) [] []
variable_in o i t = made form.Blank i (suc i) sort.Blank [] []

-- the number that this text spells
abbrev pub number_in : ℕ → List ℕ → Part
number_in i digits = made form.Literal i (suc i) (sort.OpenConstant (integer_constant digits)) [] []

-- a number in front of which a minus stands
abbrev pub negative_in : ℕ → Const → Part → Part
negative_in i v x = made (form.Unary sign.Minus) i (suc (suc i)) (sort.OpenConstant v) (Some x ∷ []) (Some (given (unary_take (sort.sort_of x)) x) ∷ [])

abbrev pub constant_in : Scope → ℕ → Const → Part
constant_in t i (const.Bool b) = made (object_form t (t.objects i)) i (suc i) (sort.OpenConstant (const.Bool b)) [] []
constant_in t i (const.Int (negsuc n) rune) = negative_in i (const.Int (negsuc n) false) (number_in (suc i) (t.texts (suc i)))
constant_in t i v = made form.Literal i (suc i) (sort.OpenConstant (unmarked v)) [] []

abbrev pub type_in : ℕ → TypeTree → Part
type_in i t = typed form.Type i (last (type_tree i t)) (record { sort = sort.IsType t; varies = false; calls = false }) sort.none

-- ---- the call

abbrev pub argument_in : Scope → ℕ → Argument → TypeTree → Part
argument_in t i (variable w) u = variable_in (t.objects i) i u
argument_in t i (constant v) u = constant_in t i v

abbrev pub further_in : Scope → ℕ → List Argument → TypeRow → Parts
further_in t i (a ∷ gs) (more u us) = Some (argument_in t (suc i) a u) ∷ further_in t (last (argument_tree (suc i) a)) gs us
further_in t i gs us = []

abbrev pub arguments_in : Scope → ℕ → List Argument → TypeRow → Parts
arguments_in t i (a ∷ gs) (more u us) = Some (argument_in t i a u) ∷ further_in t (last (argument_tree i a)) gs us
arguments_in t i gs us = []

abbrev pub call_in : Scope → ℕ → ℕ → List Argument → TypeRow → TypeRow → Part
call_in t i number gs ps rs =
    let callee : Part = made (form.Object (t.referents number)) i (suc i) (sort.Value (function ps rs)) [] [] in
    let ys : Parts = Some callee ∷ arguments_in t (suc (suc i)) gs ps in
    made form.Call i (last (call_tree i gs)) (called (function ps rs) rs) ys (all_given (stay ∷ all_as ps) ys)

-- ---- statements

abbrev pub targets_in : Scope → ℕ → List (List ℕ) → TypeRow → Parts
targets_in t i (x ∷ xs) (more r rs) = Some (variable_in (t.objects (suc i)) (suc i) r) ∷ targets_in t (suc (suc i)) xs rs
targets_in t i xs rs = []

abbrev pub statement_in : Scope → ℕ → List (List ℕ) → ℕ → List Argument → TypeRow → TypeRow → Part
statement_in t i (x ∷ xs) number gs ps (more r rs) =
    let j : ℕ = suc (names_end (suc i) xs) in
    assignment_part i (last (call_tree j gs)) (Some (variable_in (t.objects i) i r) ∷ targets_in t (suc i) xs rs) (call_in t j number gs ps (more r rs))
statement_in t i xs number gs ps rs = let c : Part = call_in t i number gs ps rs in made form.Expression i (last (call_tree i gs)) sort.Nothing (Some c ∷ []) (Some c ∷ [])

-- `var y T`, where y is the local n
abbrev pub declaration_in : ℕ → ℕ → TypeTree → Part
declaration_in i n t =
    let j : ℕ = last (type_tree (suc (suc i)) t) in
    let name : Stands → Part = λ x. made (form.Declared n) (suc i) (suc (suc i)) x [] [] in
    let of_type : Part = type_in (suc (suc i)) t in
    let specified : Part = made (form.Specified 1) (suc i) j sort.Nothing (Some (name sort.Nothing) ∷ Some of_type ∷ []) (Some (name (sort.Value t)) ∷ Some of_type ∷ []) in
    made form.Variables i j sort.Nothing (Some specified ∷ []) (Some specified ∷ [])

abbrev pub written_parts : Scope → ℕ → List (List ℕ) → TypeRow → List ℕ → List (List ℕ) → ℕ → List Argument → TypeRow → TypeRow → Parts
written_parts t i (y ∷ ys) (more u us) (n ∷ ns) xs number gs ps rs = Some (declaration_in i n u) ∷ written_parts t (suc (last (type_tree (suc (suc i)) u))) ys us ns xs number gs ps rs
written_parts t i ys us ns xs number gs ps rs = Some (statement_in t i xs number gs ps rs) ∷ []

-- Wherever it is read, a call is read to be this.
abbrev pub CallsAreReadAlike : Type 0
CallsAreReadAlike = (t : Scope) (g : Frame) → SaysAs t g → (i : ℕ) (ys : List (List ℕ)) (us : TypeRow) (ns : List ℕ) (xs : List (List ℕ)) (number : ℕ) (gs : List Argument) (ps rs : TypeRow)
    (w : CallReads g i ys us ns xs number gs ps rs) → call_parts g i ys us ns xs number gs ps rs w ≡ written_parts t i ys us ns xs number gs ps rs
