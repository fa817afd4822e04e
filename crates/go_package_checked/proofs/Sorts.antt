-- Specifications of files that are derived have types and values that are derived.
use Rattle.std.proofs.Common.{◌≡◌, ℕ, suc, true, List, [], ◌∷◌, ◌++◌, Option, Some, None, refl, sym, subst}
use Rattle.std.specs.Prelude.{is_some}
use Rattle.std.specs.List.{AllByRecursion}
use Rattle.go_tokens.specs.declared.token.TokenKind.TheVariants as token
use Rattle.go_tokens.specs.Tokens.{kinds}
use Rattle.go_grammar.specs.declared.kind.Category.TheVariants as category
use Rattle.go_grammar.specs.declared.kind.Kind.TheVariants as kind
use Rattle.go_grammar.specs.declared.kind.Place.TheVariants as place
use Rattle.go_grammar.specs.declared.kind.Sort.{Sort}
use Rattle.go_grammar.specs.declared.kind.Sort.TheVariants as declaring
use Rattle.go_grammar.specs.Grammar.{IsFile, any, rule}
use Rattle.go_grammar.specs.Rules.{Many, Each, Again}
use Rattle.go_grammar.specs.Trees.{Tree, node, Trees, none, more, skip}
use Rattle.go_tree.specs.declared.context.Entity.TheVariants as entity
use Rattle.go_stmts_defs.specs.Reading.{part_source}
use Rattle.go_package_defs.specs.Answer.{specifications}
use Rattle.go_package_defs.specs.Declarations.{Specification, trees_of, listed_values, named_specification, type_behind, values_behind, specification_of, source_behind, grouped, declared, declaration, declarations, in_file}
use Rattle.go_package_defs.specs.Sources.{Source}
use Rattle.go_stmts_final_types.specs.Shapes.{IsShaped, AreShaped}
use Rattle.go_package_checked.proofs.Derived.{MaybeShaped, IsDerived, IsDerivedIfNamed}
use Rattle.go_package_checked.proofs.Shapes.{Derivations}

both : (xs ys : List Specification) → AllByRecursion IsDerivedIfNamed xs → AllByRecursion IsDerivedIfNamed ys → AllByRecursion IsDerivedIfNamed (xs ++ ys)
both [] ys h g = g
both (x ∷ xs) ys h g = (h.0, both xs ys h.1 g)

-- ---- values

listed_shaped : (ps : Trees) → AreShaped (Many [] (Again (any place.Free) token.Comma)) ps → AllByRecursion (IsShaped (any place.Free)) (trees_of ps)
listed_shaped none w = tt
listed_shaped (more p ps) w = (w.0, listed_shaped ps w.1)
listed_shaped (skip ps) w = elim w [ ]

row_shaped : (ps : Trees) → AreShaped (rule place.Free kind.ExpressionList) ps → AllByRecursion (IsShaped (any place.Free)) (trees_of ps)
row_shaped none w = elim w [ ]
row_shaped (skip ps) w = elim w [ ]
row_shaped (more p ps) w = (w.0, listed_shaped ps w.1)

list_shaped : (l : Tree) (ps : Trees) → IsShaped (category.ExpressionList place.Free) l → AllByRecursion (IsShaped (any place.Free)) (listed_values (more l ps))
list_shaped (node kind.ExpressionList i j xs) ps w = row_shaped xs w.1
list_shaped (node k i j xs) ps w = let e = w.0 in cc

-- a list of expressions isn't empty
list_there : {X : Type 0} (l : Tree) (ps : Trees) → IsShaped (category.ExpressionList place.Free) l → listed_values (more l ps) ≡ [] → X
list_there (node kind.ExpressionList i j none) ps w e = elim w.1 [ ]
list_there (node kind.ExpressionList i j (skip xs)) ps w e = elim w.1 [ ]
list_there (node kind.ExpressionList i j (more p xs)) ps w e = cc
list_there (node k i j xs) ps w e = let f = w.0 in cc

-- ---- what stands behind the names

record RestIs (r : Option Tree) : Type 0 where
  of : MaybeShaped category.Type (type_behind r)
  values : AllByRecursion (IsShaped (any place.Free)) (values_behind r)
  parts : values_behind r ≡ [] → is_some r ≡ true → is_some (type_behind r) ≡ true

values_rest : (i j : ℕ) (ps : Trees) → AreShaped (rule place.Free kind.Values) ps → RestIs (Some (node kind.Values i j ps))
values_rest i j none w = elim w [ ]
values_rest i j (skip ps) w = elim w [ ]
values_rest i j (more l none) w = record { of = tt; values = list_shaped l none w.0; parts = λ e m. list_there l none w.0 e }
values_rest i j (more l (more q ps)) w = elim w.1 [ ]
values_rest i j (more l (skip ps)) w = elim w.1 [ ]

typed_rest : (i j : ℕ) (ps : Trees) → AreShaped (rule place.Free kind.TypedValues) ps → RestIs (Some (node kind.TypedValues i j ps))
typed_rest i j none w = elim w [ ]
typed_rest i j (skip ps) w = elim w [ ]
typed_rest i j (more t none) w = elim w.1 [ ]
typed_rest i j (more t (skip ps)) w = elim w.1 [ ]
typed_rest i j (more t (more l none)) w = record { of = w.0; values = list_shaped l none w.1.0; parts = λ e m. refl }
typed_rest i j (more t (more l (more q ps))) w = elim w.1.1 [ ]
typed_rest i j (more t (more l (skip ps))) w = elim w.1.1 [ ]

constant_rest : (r : Tree) → IsShaped category.ConstantRest r → RestIs (Some r)
constant_rest (node kind.Values i j ps) w = values_rest i j ps w.1
constant_rest (node kind.TypedValues i j ps) w = typed_rest i j ps w.1
constant_rest (node k i j ps) w = let e = w.0 in cc

variable_rest : (r : Tree) → IsShaped category.VariableRest r → RestIs (Some r)
variable_rest (node kind.Values i j ps) w = values_rest i j ps w.1
variable_rest (node kind.TypedValues i j ps) w = typed_rest i j ps w.1
variable_rest (node kind.Name i j ps) w = record { of = w; values = tt; parts = λ e m. refl }
variable_rest (node kind.ParenthesizedType i j ps) w = record { of = w; values = tt; parts = λ e m. refl }
variable_rest (node kind.SequenceType i j ps) w = record { of = w; values = tt; parts = λ e m. refl }
variable_rest (node kind.FunctionType i j ps) w = record { of = w; values = tt; parts = λ e m. refl }
variable_rest (node kind.StructType i j ps) w = record { of = w; values = tt; parts = λ e m. refl }
variable_rest (node k i j ps) w = let e = w.0 in cc

-- ---- constants

abbrev MaybeRest : Option Tree → Type 0
MaybeRest None = Unit {0}
MaybeRest (Some r) = IsShaped category.ConstantRest r

no_rest : RestIs None
no_rest = record { of = tt; values = tt; parts = λ e m. cc }

maybe_rest : (r : Option Tree) → MaybeRest r → RestIs r
maybe_rest None w = no_rest
maybe_rest (Some r) w = constant_rest r w

constant_parts : (r : Option Tree) (ps : Trees) → MaybeRest r → AreShaped (rule place.Free (kind.Specification declaring.Constant)) ps → MaybeRest (part_source ps r)
constant_parts r none m w = elim w [ ]
constant_parts r (skip ps) m w = elim w [ ]
constant_parts r (more ns none) m w = elim w.1 [ ]
constant_parts r (more ns (skip none)) m w = m
constant_parts r (more ns (skip (more q ps))) m w = elim w.1 [ ]
constant_parts r (more ns (skip (skip ps))) m w = elim w.1 [ ]
constant_parts r (more ns (more q none)) m w = w.1.0
constant_parts r (more ns (more q (more o ps))) m w = elim w.1.1 [ ]
constant_parts r (more ns (more q (skip ps))) m w = elim w.1.1 [ ]

constant_source : (r : Option Tree) (p : Tree) → MaybeRest r → IsShaped (category.Specification declaring.Constant) p → MaybeRest (source_behind r p)
constant_source r (node (kind.Specification declaring.Constant) i j ps) m w = constant_parts r ps m w.1
constant_source r (node (kind.Specification declaring.Variable) i j ps) m w = let e = w.0 in cc
constant_source r (node (kind.Specification declaring.Type) i j ps) m w = let e = w.0 in cc
constant_source r (node k i j ps) m w = let e = w.0 in cc

constant_derived : (n k : ℕ) (r : Option Tree) (p : Tree) → MaybeRest (source_behind r p) → IsDerivedIfNamed (specification_of n declaring.Constant k r p)
constant_derived n k r (node l i j ps) m = λ q. let x = maybe_rest (part_source ps r) m in record { sort = refl; of = x.of; values = x.values; parts = tt }

constants_derived : (n k : ℕ) (r : Option Tree) (ps : Trees) → MaybeRest r → AreShaped (rule place.Free (kind.Group declaring.Constant)) ps → AllByRecursion IsDerivedIfNamed (grouped n declaring.Constant k r ps)
constants_derived n k r none m w = tt
constants_derived n k r (more p ps) m w = let q = constant_source r p m w.0 in (constant_derived n k r p q, constants_derived n (suc k) (source_behind r p) ps q w.1)
constants_derived n k r (skip ps) m w = elim w [ ]

-- ---- variables

variable_parts : (ps : Trees) (r : Option Tree) → AreShaped (rule place.Free (kind.Specification declaring.Variable)) ps → (q : Tree) × (part_source ps r ≡ Some q) × IsShaped category.VariableRest q
variable_parts none r w = elim w [ ]
variable_parts (skip ps) r w = elim w [ ]
variable_parts (more ns none) r w = elim w.1 [ ]
variable_parts (more ns (skip ps)) r w = elim w.1 [ ]
variable_parts (more ns (more q none)) r w = (q, refl, w.1.0)
variable_parts (more ns (more q (more o ps))) r w = elim w.1.1 [ ]
variable_parts (more ns (more q (skip ps))) r w = elim w.1.1 [ ]

variable_by : (n k i j : ℕ) (t : Tree) (ps : Trees) (r : Option Tree) (q : Tree) → part_source ps r ≡ Some q → IsShaped category.VariableRest q → IsDerived (named_specification n entity.Variable k t i j ps (part_source ps r))
variable_by n k i j t ps r q e w =
    let x = variable_rest q w in subst (λ o. IsDerived (named_specification n entity.Variable k t i j ps o)) (sym e) (record { sort = refl; of = x.of; values = x.values; parts = λ m. x.parts m refl })

variable_derived : (n k : ℕ) (r : Option Tree) (p : Tree) → IsShaped (category.Specification declaring.Variable) p → IsDerivedIfNamed (specification_of n declaring.Variable k r p)
variable_derived n k r (node (kind.Specification declaring.Variable) i j ps) w = λ l. let q = variable_parts ps r w.1 in variable_by n k i j (node (kind.Specification declaring.Variable) i j ps) ps r q.0 q.1 q.2
variable_derived n k r (node (kind.Specification declaring.Constant) i j ps) w = let e = w.0 in cc
variable_derived n k r (node (kind.Specification declaring.Type) i j ps) w = let e = w.0 in cc
variable_derived n k r (node l i j ps) w = let e = w.0 in cc

variables_derived : (n k : ℕ) (r : Option Tree) (ps : Trees) → AreShaped (rule place.Free (kind.Group declaring.Variable)) ps → AllByRecursion IsDerivedIfNamed (grouped n declaring.Variable k r ps)
variables_derived n k r none w = tt
variables_derived n k r (more p ps) w = (variable_derived n k r p w.0, variables_derived n (suc k) (source_behind r p) ps w.1)
variables_derived n k r (skip ps) w = elim w [ ]

-- ---- types

type_derived : (n k : ℕ) (r : Option Tree) (p : Tree) → IsShaped (category.Specification declaring.Type) p → IsDerivedIfNamed (specification_of n declaring.Type k r p)
type_derived n k r (node (kind.Specification declaring.Type) i j none) w = elim w.1 [ ]
type_derived n k r (node (kind.Specification declaring.Type) i j (skip ps)) w = elim w.1 [ ]
type_derived n k r (node (kind.Specification declaring.Type) i j (more q ps)) w = λ l. record { sort = refl; of = w.1.0; values = tt; parts = tt }
type_derived n k r (node (kind.Specification declaring.Constant) i j ps) w = let e = w.0 in cc
type_derived n k r (node (kind.Specification declaring.Variable) i j ps) w = let e = w.0 in cc
type_derived n k r (node l i j ps) w = let e = w.0 in cc

types_derived : (n k : ℕ) (r : Option Tree) (ps : Trees) → AreShaped (rule place.Free (kind.Group declaring.Type)) ps → AllByRecursion IsDerivedIfNamed (grouped n declaring.Type k r ps)
types_derived n k r none w = tt
types_derived n k r (more p ps) w = (type_derived n k r p w.0, types_derived n (suc k) (source_behind r p) ps w.1)
types_derived n k r (skip ps) w = elim w [ ]

-- ---- declarations

constants_declared : (n : ℕ) (b : Tree) → IsShaped (category.DeclarationBody declaring.Constant) b → AllByRecursion IsDerivedIfNamed (declared n declaring.Constant (more b none))
constants_declared n (node (kind.Group declaring.Constant) i j ps) w = constants_derived n 0 None ps tt w.1
constants_declared n (node (kind.Specification declaring.Constant) i j ps) w =
    (constant_derived n 0 None (node (kind.Specification declaring.Constant) i j ps) (constant_parts None ps tt w.1), tt)
constants_declared n (node (kind.Group declaring.Variable) i j ps) w = let e = w.0 in cc
constants_declared n (node (kind.Group declaring.Type) i j ps) w = let e = w.0 in cc
constants_declared n (node (kind.Specification declaring.Variable) i j ps) w = let e = w.0 in cc
constants_declared n (node (kind.Specification declaring.Type) i j ps) w = let e = w.0 in cc
constants_declared n (node l i j ps) w = let e = w.0 in cc

variables_declared : (n : ℕ) (b : Tree) → IsShaped (category.DeclarationBody declaring.Variable) b → AllByRecursion IsDerivedIfNamed (declared n declaring.Variable (more b none))
variables_declared n (node (kind.Group declaring.Variable) i j ps) w = variables_derived n 0 None ps w.1
variables_declared n (node (kind.Specification declaring.Variable) i j ps) w = (variable_derived n 0 None (node (kind.Specification declaring.Variable) i j ps) w, tt)
variables_declared n (node (kind.Group declaring.Constant) i j ps) w = let e = w.0 in cc
variables_declared n (node (kind.Group declaring.Type) i j ps) w = let e = w.0 in cc
variables_declared n (node (kind.Specification declaring.Constant) i j ps) w = let e = w.0 in cc
variables_declared n (node (kind.Specification declaring.Type) i j ps) w = let e = w.0 in cc
variables_declared n (node l i j ps) w = let e = w.0 in cc

types_declared : (n : ℕ) (b : Tree) → IsShaped (category.DeclarationBody declaring.Type) b → AllByRecursion IsDerivedIfNamed (declared n declaring.Type (more b none))
types_declared n (node (kind.Group declaring.Type) i j ps) w = types_derived n 0 None ps w.1
types_declared n (node (kind.Specification declaring.Type) i j ps) w = (type_derived n 0 None (node (kind.Specification declaring.Type) i j ps) w, tt)
types_declared n (node (kind.Group declaring.Constant) i j ps) w = let e = w.0 in cc
types_declared n (node (kind.Group declaring.Variable) i j ps) w = let e = w.0 in cc
types_declared n (node (kind.Specification declaring.Constant) i j ps) w = let e = w.0 in cc
types_declared n (node (kind.Specification declaring.Variable) i j ps) w = let e = w.0 in cc
types_declared n (node l i j ps) w = let e = w.0 in cc

one_declared : (n : ℕ) (s : Sort) (b : Tree) → IsShaped (category.DeclarationBody s) b → AllByRecursion IsDerivedIfNamed (declared n s (more b none))
one_declared n declaring.Constant b w = constants_declared n b w
one_declared n declaring.Variable b w = variables_declared n b w
one_declared n declaring.Type b w = types_declared n b w

body_declared : (n : ℕ) (s : Sort) (ps : Trees) → AreShaped (rule place.Free (kind.Declaration s)) ps → AllByRecursion IsDerivedIfNamed (declared n s ps)
body_declared n s none w = elim w [ ]
body_declared n s (skip ps) w = elim w [ ]
body_declared n s (more b none) w = one_declared n s b w.0
body_declared n s (more b (more q ps)) w = elim w.1 [ ]
body_declared n s (more b (skip ps)) w = elim w.1 [ ]

function_derived : (n i j : ℕ) (ps : Trees) → AreShaped (rule place.Free kind.FunctionDeclaration) ps → AllByRecursion IsDerivedIfNamed (declaration n (node kind.FunctionDeclaration i j ps))
function_derived n i j none w = elim w [ ]
function_derived n i j (skip ps) w = elim w [ ]
function_derived n i j (more g ps) w = (λ l. record { sort = refl; of = w.0; values = tt; parts = refl }, tt)

declaration_derived : (n : ℕ) (t : Tree) → IsShaped category.Declaration t → AllByRecursion IsDerivedIfNamed (declaration n t)
declaration_derived n (node (kind.Declaration s) i j ps) w = body_declared n s ps w.1
declaration_derived n (node kind.FunctionDeclaration i j ps) w = function_derived n i j ps w.1
declaration_derived n (node k i j ps) w = tt

-- ---- files

all_derived : (n : ℕ) (ps : Trees) → AreShaped (Many [] (Each category.Declaration (token.Semicolon ∷ []) [])) ps → AllByRecursion IsDerivedIfNamed (declarations n ps)
all_derived n none w = tt
all_derived n (more p ps) w = both (declaration n p) (declarations n ps) (declaration_derived n p w.0) (all_derived n ps w.1)
all_derived n (skip ps) w = elim w [ ]

no_import : (n : ℕ) (p : Tree) → IsShaped category.Imports p → declaration n p ≡ []
no_import n (node kind.Imports i j ps) w = refl
no_import n (node k i j ps) w = let e = w.0 in cc

file_derived : (n : ℕ) (t : Tree) → IsShaped category.File t → AllByRecursion IsDerivedIfNamed (in_file n t)
file_derived n (node kind.File i j none) w = elim w.1 [ ]
file_derived n (node kind.File i j (more p ps)) w = both (declaration n p) (declarations n ps) (subst (AllByRecursion IsDerivedIfNamed) (sym (no_import n p w.1.0)) tt) (all_derived n ps w.1.1)
file_derived n (node kind.File i j (skip ps)) w = all_derived n ps w.1
file_derived n (node k i j ps) w = let e = w.0 in cc

pub files_derived : Derivations → (n : ℕ) (ss : List Source) → AllByRecursion (λ s. IsFile (kinds s.tokens.tokens) s.tree) ss → AllByRecursion IsDerivedIfNamed (specifications n ss)
files_derived derives n [] h = tt
files_derived derives n (s ∷ ss) h = both (in_file n s.tree) (specifications (suc n) ss) (file_derived n s.tree (derives (kinds s.tokens.tokens) category.File s.tree h.0.derives)) (files_derived derives (suc n) ss h.1)
