-- A call in place of statements: what its tokens have to mean, and what it is read to be.
use Rattle.std.specs.Prelude.{◌≡◌, ℕ, suc, true, List, [], ◌∷◌, ◌++◌, length, Some, None}
use Rattle.go_grammar.specs.Trees.{last}
use Rattle.go_tree.specs.declared.object.Object.TheVariants as object
use Rattle.go_constants.specs.declared.values.Const.{Const}
use Rattle.go_types.specs.Trees.{TypeTree, TypeRow, none, more, function}
use Rattle.go_typed.specs.declared.form.Form.TheVariants as form
use Rattle.go_typed.specs.Trees as sort
use Rattle.go_exprs_rules.specs.Calls.{called, all_as}
use Rattle.go_exprs_rules.specs.Scopes.{Needed, Scope, value, type_place}
use Rattle.go_exprs_rules.specs.Settling.{Part, stay}
use Rattle.go_exprs_rules.specs.Sorts.{Stands, kind_of_const, suits, represents}
use Rattle.go_exprs_rules.specs.Tables.{Parts, leaf, made, all_given}
use Rattle.go_exprs_rules.specs.Typing.{typing}
use Rattle.go_print_laws.specs.Calls.{Argument, variable, constant, argument_tree, names_end, call_tree, statement_trees}
use Rattle.go_print_laws.specs.Reading.{ReadsType, IsWithin, ReadsLiteral, CanBeRead, unmarked}
use Rattle.go_print_laws.specs.Trees.{type_tree}
use Rattle.go_stmts_defs.specs.Frames.{Frame, local_stands, rights_of, scope_of, with_local}
use Rattle.go_stmts_elsewhere.specs.Gaps.{run, parts_in, found_in, behind}
use Rattle.go_stmts_elsewhere.specs.Replaced.{AreFree}

-- ---- what its tokens have to mean

-- the token means this local
abbrev pub MeansLocal : Frame → ℕ → ℕ → Type 0
MeansLocal g i n = (f : ℕ) × (g.around.objects i ≡ Some (object.Local f n))

-- it means a variable of the type
pub record MeansVariable (g : Frame) (i : ℕ) (t : TypeTree) : Type 0 where
  pub number : ℕ
  pub means : MeansLocal g i number
  pub stands : local_stands g.locals number ≡ sort.Value t

-- The printed constant has the type in its range, once it takes it.
pub record TakesType (g : Frame) (i : ℕ) (v : Const) (t : TypeTree) : Type 0 where
  pub read : CanBeRead v
  pub reads : ReadsLiteral (scope_of g) i v
  pub kind : suits (rights_of g) (kind_of_const (unmarked v)) t ≡ true
  pub range : represents (rights_of g) t (unmarked v) ≡ true

-- a variable of the type of a parameter, or a constant that takes it
abbrev pub ArgumentFits : Frame → ℕ → Argument → TypeTree → Type 0
ArgumentFits g i (variable w) t = MeansVariable g i t
ArgumentFits g i (constant v) t = TakesType g i v t

abbrev pub FurtherFit : Frame → ℕ → List Argument → TypeRow → Type 0
FurtherFit g i [] none = Unit {0}
FurtherFit g i (a ∷ gs) (more t ts) = ArgumentFits g (suc i) a t × FurtherFit g (last (argument_tree (suc i) a)) gs ts
FurtherFit g i gs ts = ⊥

-- as many arguments as parameters
abbrev pub ArgumentsFit : Frame → ℕ → List Argument → TypeRow → Type 0
ArgumentsFit g i [] none = Unit {0}
ArgumentsFit g i (a ∷ gs) (more t ts) = ArgumentFits g i a t × FurtherFit g (last (argument_tree i a)) gs ts
ArgumentsFit g i gs ts = ⊥

-- What a result is given to: the blank identifier, or a variable of its type.
pub data IsTarget (g : Frame) (i : ℕ) (t : TypeTree) : Type 0 where
  blank : g.around.objects i ≡ None → IsTarget g i t
  given : MeansVariable g i t → IsTarget g i t

-- one behind the other, with a comma between each two
abbrev pub FurtherTargets : Frame → ℕ → List (List ℕ) → TypeRow → Type 0
FurtherTargets g i [] none = Unit {0}
FurtherTargets g i (x ∷ xs) (more t ts) = IsTarget g (suc i) t × FurtherTargets g (suc (suc i)) xs ts
FurtherTargets g i xs ts = ⊥

-- the token means a function of the package with this number among its objects
pub record MeansFunction (g : Frame) (i number : ℕ) (ps rs : TypeRow) : Type 0 where
  pub means : g.around.objects i ≡ Some (object.Package number)
  pub stands : (n : Needed) → g.around.sorts n (object.Package number) ≡ sort.Value (function ps rs)

-- The statement from the token i on: a call alone, or an assignment of all its results.
abbrev pub StatementReads : Frame → ℕ → List (List ℕ) → ℕ → List Argument → TypeRow → TypeRow → Type 0
StatementReads g i [] number gs ps rs = MeansFunction g i number ps rs × ArgumentsFit g (suc (suc i)) gs ps
StatementReads g i (x ∷ xs) number gs ps none = ⊥
StatementReads g i (x ∷ xs) number gs ps (more r rs) =
    IsTarget g i r × FurtherTargets g (suc i) xs rs × MeansFunction g (suc (names_end (suc i) xs)) number ps (more r rs)
    × ArgumentsFit g (suc (suc (suc (names_end (suc i) xs)))) gs ps

-- `var y T` at the token i, where y is the local n
pub record DeclarationReads (g : Frame) (i n : ℕ) (t : TypeTree) : Type 0 where
  pub means : MeansLocal g (suc i) n
  pub reads : ReadsType (scope_of g) type_place (suc (suc i)) t
  pub within : IsWithin (scope_of g) t

-- the variables ns of the types ts are declared one behind the other, each behind those in front of it, and then the statement is read
abbrev pub CallReads : Frame → ℕ → List (List ℕ) → TypeRow → List ℕ → List (List ℕ) → ℕ → List Argument → TypeRow → TypeRow → Type 0
CallReads g i [] none [] xs number gs ps rs = StatementReads g i xs number gs ps rs
CallReads g i (y ∷ ys) (more t ts) (n ∷ ns) xs number gs ps rs =
    DeclarationReads g i n t × CallReads (with_local n (sort.Value t) g) (suc (last (type_tree (suc (suc i)) t))) ys ts ns xs number gs ps rs
CallReads g i ys ts ns xs number gs ps rs = ⊥

-- ---- what it is read to be

abbrev pub further_parts : Scope → ℕ → List Argument → Parts
further_parts s i [] = []
further_parts s i (a ∷ gs) = Some (typing s value (argument_tree (suc i) a)) ∷ further_parts s (last (argument_tree (suc i) a)) gs

-- the arguments, before they take the types of the parameters
abbrev pub argument_parts : Scope → ℕ → List Argument → Parts
argument_parts s i [] = []
argument_parts s i (a ∷ gs) = Some (typing s value (argument_tree i a)) ∷ further_parts s (last (argument_tree i a)) gs

-- the call of a function whose name is the token i
abbrev pub call_part : Frame → ℕ → ℕ → List Argument → TypeRow → TypeRow → Part
call_part g i number gs ps rs =
    let callee : Part = made (form.Object (g.around.referents number)) i (suc i) (sort.Value (function ps rs)) [] [] in
    let ys : Parts = Some callee ∷ argument_parts (scope_of g) (suc (suc i)) gs in
    made form.Call i (last (call_tree i gs)) (called (function ps rs) rs) ys (all_given (stay ∷ all_as ps) ys)

abbrev pub target_at : (g : Frame) (i : ℕ) (t : TypeTree) → IsTarget g i t → Part
target_at g i t (blank e) = made form.Blank i (suc i) sort.Blank [] []
target_at g i t (given v) = made (form.Local v.number) i (suc i) (sort.Value t) [] []

abbrev pub targets_at : (g : Frame) (i : ℕ) (xs : List (List ℕ)) (ts : TypeRow) → FurtherTargets g i xs ts → Parts
targets_at g i [] none w = []
targets_at g i (x ∷ xs) (more t ts) w = Some (target_at g (suc i) t w.0) ∷ targets_at g (suc (suc i)) xs ts w.1
targets_at g i xs ts w = absurd w

-- the assignment of the call to these targets
abbrev pub assignment_part : ℕ → ℕ → Parts → Part → Part
assignment_part i j ts c = made (form.Assign (length ts)) i j sort.Nothing (ts ++ Some c ∷ []) (ts ++ Some c ∷ [])

abbrev pub statement_part : (g : Frame) (i : ℕ) (xs : List (List ℕ)) (number : ℕ) (gs : List Argument) (ps rs : TypeRow) → StatementReads g i xs number gs ps rs → Part
statement_part g i [] number gs ps rs w = let c : Part = call_part g i number gs ps rs in made form.Expression i (last (call_tree i gs)) sort.Nothing (Some c ∷ []) (Some c ∷ [])
statement_part g i (x ∷ xs) number gs ps none w = absurd w
statement_part g i (x ∷ xs) number gs ps (more r rs) w =
    let j : ℕ = suc (names_end (suc i) xs) in
    assignment_part i (last (call_tree j gs)) (Some (target_at g i r w.0) ∷ targets_at g (suc i) xs rs w.1) (call_part g j number gs ps (more r rs))

-- `var y T`, where the type ends in front of the token j
abbrev pub declaration_part : Frame → ℕ → ℕ → TypeTree → Part
declaration_part g i n t =
    let j : ℕ = last (type_tree (suc (suc i)) t) in
    let name : Stands → Part = λ x. made (form.Declared n) (suc i) (suc (suc i)) x [] [] in
    let of_type : Part = leaf (typing (scope_of g) type_place (type_tree (suc (suc i)) t)) in
    let specified : Part = made (form.Specified 1) (suc i) j sort.Nothing (Some (name sort.Nothing) ∷ Some of_type ∷ []) (Some (name (sort.Value t)) ∷ Some of_type ∷ []) in
    made form.Variables i j sort.Nothing (Some specified ∷ []) (Some specified ∷ [])

abbrev pub call_parts : (g : Frame) (i : ℕ) (ys : List (List ℕ)) (ts : TypeRow) (ns : List ℕ) (xs : List (List ℕ)) (number : ℕ) (gs : List Argument) (ps rs : TypeRow) → CallReads g i ys ts ns xs number gs ps rs → Parts
call_parts g i [] none [] xs number gs ps rs w = Some (statement_part g i xs number gs ps rs w) ∷ []
call_parts g i (y ∷ ys) (more t ts) (n ∷ ns) xs number gs ps rs w =
    Some (declaration_part g i n t) ∷ call_parts (with_local n (sort.Value t) g) (suc (last (type_tree (suc (suc i)) t))) ys ts ns xs number gs ps rs w.1
call_parts g i ys ts ns xs number gs ps rs w = absurd w

-- the frame in which these locals are declared, one behind the other
abbrev pub with_variables : List ℕ → TypeRow → Frame → Frame
with_variables [] ts g = g
with_variables (n ∷ ns) none g = g
with_variables (n ∷ ns) (more t ts) g = with_variables ns ts (with_local n (sort.Value t) g)

-- ---- the law

pub record CallIsRead (g : Frame) (i : ℕ) (ys : List (List ℕ)) (ts : TypeRow) (ns : List ℕ) (xs : List (List ℕ)) (number : ℕ) (gs : List Argument) (ps rs : TypeRow) (w : CallReads g i ys ts ns xs number gs ps rs) : Type 0 where
  pub parts : parts_in (run g (statement_trees i ys ts xs gs)) ≡ call_parts g i ys ts ns xs number gs ps rs w
  pub found : AreFree (found_in (run g (statement_trees i ys ts xs gs)))
  pub frame : behind g (statement_trees i ys ts xs gs) ≡ with_variables ns ts g

abbrev pub CallsAreTyped : Type 0
CallsAreTyped = (g : Frame) (i : ℕ) (ys : List (List ℕ)) (ts : TypeRow) (ns : List ℕ) (xs : List (List ℕ)) (number : ℕ) (gs : List Argument) (ps rs : TypeRow) (w : CallReads g i ys ts ns xs number gs ps rs)
    → CallIsRead g i ys ts ns xs number gs ps rs w
