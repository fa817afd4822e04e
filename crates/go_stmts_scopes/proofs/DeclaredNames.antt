-- Names that a statement declares, as they are read.
use Rattle.std.proofs.Common.{◌≡◌, inl, inr, ℕ, zero, suc, Bool, true, false, List, [], ◌∷◌, ◌++◌, length, map, Option, Some, None, refl}
use Rattle.std.specs.Prelude.{if◌then◌else◌, take, replicate}
use Rattle.go_tree.specs.declared.object.Object.{Object}
use Rattle.go_tree.specs.declared.object.Object.TheVariants as object
use Rattle.go_types.specs.Trees.{TypeTree}
use Rattle.go_typed.specs.declared.form.Form.{Form}
use Rattle.go_typed.specs.declared.form.Form.TheVariants as form
use Rattle.go_typed.specs.Trees.{Label, typed, Typeds, row, sort_of}
use Rattle.go_typed.specs.Trees as sort
use Rattle.go_exprs_rules.specs.declared.family.OpenKind.{OpenKind}
use Rattle.go_exprs_rules.specs.Names.{declared_form}
use Rattle.go_exprs_rules.specs.Scopes.{Scope}
use Rattle.go_exprs_rules.specs.Settling.{Part, stay, default, as_type, settled, all_settled, defaulted}
use Rattle.go_exprs_rules.specs.Sorts.{Stands, takes_type, retyped, open_kind, default_type}
use Rattle.go_exprs_rules.specs.Tables.{Parts}
use Rattle.go_stmts_defs.specs.Assigning.{Taking, takes, stands, Wanted, type_or_default, first_known, variable, names_take, values_take}
use Rattle.go_stmts_defs.specs.Frames.{Locals, declared_type}
use Rattle.go_stmts_defs.specs.Laying.{new_or_known, new_form, with_form}
use Rattle.go_stmts_defs.specs.Rules.{given_part, all_given, rest, type_stands, elements_stand}
use Rattle.go_stmts_scopes.specs.Runs.{IsExpression, is_given}
use Rattle.go_stmts_scopes.specs.Shapes.{IsName, AreNames}
use Rattle.go_stmts_scopes.proofs.Typed.{AllRun, row_runs, settled_runs}
use Rattle.go_stmts_scopes.proofs.TypedStatements.{all_take}

-- ---- what they take

open_retyped : (t : TypeTree) (x : Stands) → is_given x ≡ false → is_given (retyped t x) ≡ false
open_retyped t (sort.OpenConstant c) e = cc
open_retyped t (sort.Constant u c) e = cc
open_retyped t x e = refl

-- an expression may stand in place of a name
expression_name : (f : Form) (i j : ℕ) (l : Label TypeTree) (ps : Typeds TypeTree) → IsExpression (typed f i j l ps) → IsName (typed f i j l ps)
expression_name (form.New k) i j l ps (inl e) = cc
expression_name (form.New k) i j l ps (inr e) = let z : false ≡ true = e.0 in cc
expression_name (form.Declared k) i j l ps (inl e) = cc
expression_name (form.Declared k) i j l ps (inr e) = let z : false ≡ true = e.0 in cc
expression_name f i j l ps h = h

pub other : (x : Part) → IsExpression x → IsName x
other (typed f i j l ps) h = expression_name f i j l ps h

settled_name : (t : TypeTree) (x : Part) → IsName x → IsName (settled t x)
settled_name t (typed (form.New k) i j l ps) h = by (takes_type l.sort)
  where
    by : (b : Bool) → IsName (if b then typed (form.New k) i j (record l { sort = retyped t l.sort }) (all_settled t ps) else typed (form.New k) i j l ps)
    by true = open_retyped t l.sort h
    by false = h
settled_name t (typed (form.Declared k) i j l ps) h = by (takes_type l.sort)
  where
    by : (b : Bool) → IsName (if b then typed (form.Declared k) i j (record l { sort = retyped t l.sort }) (all_settled t ps) else typed (form.Declared k) i j l ps)
    by true = open_retyped t l.sort h
    by false = h
settled_name t (typed f i j l ps) h = other (settled t (typed f i j l ps)) (settled_runs t (typed f i j l ps) h)

defaulted_name : (k : Option OpenKind) (x : Part) → IsName x → IsName (defaulted k x)
defaulted_name None x h = h
defaulted_name (Some k) x h = settled_name (default_type k) x h

-- what is given to a part says nothing that is constant
abbrev IsOpen : Taking → Type 0
IsOpen (takes k) = Unit {0}
IsOpen (stands x) = is_given x ≡ false

abbrev pub AreOpen : List Taking → Type 0
AreOpen [] = Unit {0}
AreOpen (k ∷ ks) = IsOpen k × AreOpen ks

pub part_name : (k : Taking) (x : Part) → IsOpen k → IsName x → IsName (given_part k x)
part_name (takes stay) x o h = h
part_name (takes default) x o h = defaulted_name (open_kind (sort_of x)) x h
part_name (takes (as_type t)) x o h = settled_name t x h
part_name (stands y) (typed (form.New k) i j l ps) o h = o
part_name (stands y) (typed (form.Declared k) i j l ps) o h = o
part_name (stands y) (typed f i j l ps) o h = h

-- names that are all there
abbrev pub AllNames : Parts → Type 0
AllNames [] = Unit {0}
AllNames (None ∷ xs) = ⊥
AllNames (Some x ∷ xs) = IsName x × AllNames xs

pub names_row : (ns vs : Parts) → AllNames ns → AllRun vs → AreNames (length ns) (row (ns ++ vs))
names_row [] vs h g = row_runs vs g
names_row (None ∷ ns) vs h g = absurd h
names_row (Some x ∷ ns) vs h g = (h.0, names_row ns vs h.1 g)

-- names with what they take, and values behind them
pub names_given : (ks : List Taking) (ns vs : Parts) → AreOpen ks → AllNames ns → AllRun vs → AreNames (length ns) (row (all_given ks (ns ++ vs)))
names_given [] ns vs o h g = names_row ns vs h g
names_given (k ∷ ks) [] vs o h g = row_runs (all_given (k ∷ ks) vs) (all_take (k ∷ ks) vs g)
names_given (k ∷ ks) (None ∷ ns) vs o h g = absurd h
names_given (k ∷ ks) (Some x ∷ ns) vs o h g = (part_name k x o.0 h.0, names_given ks ns vs o.1 h.1 g)

pub open_append : (xs ys : List Taking) → AreOpen xs → AreOpen ys → AreOpen (xs ++ ys)
open_append [] ys h g = g
open_append (x ∷ xs) ys h g = (h.0, open_append xs ys h.1 g)

open_variable : (o : Option TypeTree) → is_given (variable o) ≡ false
open_variable None = refl
open_variable (Some t) = refl

pub open_names : (ts us : Wanted) → AreOpen (names_take ts us)
open_names [] us = tt
open_names (t ∷ ts) [] = (open_variable t, open_names ts [])
open_names (t ∷ ts) (u ∷ us) = (open_variable (first_known t u), open_names ts us)

open_or_default : (t : Option TypeTree) → IsOpen (type_or_default t)
open_or_default None = tt
open_or_default (Some t) = tt

pub open_values : (ts : Wanted) (xs : List Part) → AreOpen (values_take ts xs)
open_values ts [] = tt
open_values [] (x ∷ xs) = (tt, open_values [] xs)
open_values (t ∷ ts) (x ∷ xs) = (open_or_default t, open_values ts xs)

pub open_rest : (n : ℕ) → AreOpen (rest n)
open_rest zero = tt
open_rest (suc n) = (tt, open_rest n)

open_types : (n : ℕ) (rs : List TypeTree) → AreOpen (take n (map type_stands rs))
open_types zero rs = tt
open_types (suc n) [] = tt
open_types (suc n) (r ∷ rs) = (refl, open_types n rs)

open_unknown : (n : ℕ) → AreOpen (replicate n (stands sort.Unknown))
open_unknown zero = tt
open_unknown (suc n) = (refl, open_unknown n)

pub open_elements : (n : ℕ) (o : Option (List TypeTree)) → AreOpen (elements_stand n o)
open_elements n None = open_unknown n
open_elements n (Some rs) = open_types n rs

-- ---- as they are typed

-- a name that is declared by `var`, and one that stands before `:=`
pub declared_name : (s : Scope) (o : Option Object) (x : Stands) (i j : ℕ) (b c : Bool) (ps : Typeds TypeTree) → is_given x ≡ false → IsName (typed (declared_form s o) i j (record { sort = x; varies = b; calls = c }) ps)
declared_name s None x i j b c ps e = inl refl
declared_name s (Some object.Import) x i j b c ps e = inl refl
declared_name s (Some (object.Predeclared p)) x i j b c ps e = inl refl
declared_name s (Some (object.Package n)) x i j b c ps e = inl refl
declared_name s (Some (object.Local f n)) x i j b c ps e = e

new_one : (n : ℕ) (o : Option TypeTree) (x : Stands) (i j : ℕ) (b c : Bool) (ps : Typeds TypeTree) → is_given x ≡ false → IsName (typed (new_or_known n o) i j (record { sort = x; varies = b; calls = c }) ps)
new_one n None x i j b c ps e = e
new_one n (Some t) x i j b c ps e = inl refl

pub new_declared : (ls : Locals) (s : Scope) (o : Option Object) (x : Stands) (i j : ℕ) (b c : Bool) (ps : Typeds TypeTree) → is_given x ≡ false
    → IsName (with_form (new_form ls) (typed (declared_form s o) i j (record { sort = x; varies = b; calls = c }) ps))
new_declared ls s None x i j b c ps e = inl refl
new_declared ls s (Some object.Import) x i j b c ps e = inl refl
new_declared ls s (Some (object.Predeclared p)) x i j b c ps e = inl refl
new_declared ls s (Some (object.Package n)) x i j b c ps e = inl refl
new_declared ls s (Some (object.Local f n)) x i j b c ps e = new_one n (declared_type ls n) x i j b c ps e
