-- What the names of a function stand for, where they are read.
use Rattle.std.specs.Prelude.{◌≡◌, ℕ, Bool, true, false, if◌then◌else◌, is_some, [], ◌∷◌, ◌++◌, Option, Some, None}
use Rattle.go_grammar.specs.declared.kind.Kind.{Kind}
use Rattle.go_grammar.specs.declared.kind.Kind.TheVariants as kind
use Rattle.go_grammar.specs.declared.kind.Sort.TheVariants as declaring
use Rattle.go_grammar.specs.Grammar.{is_name}
use Rattle.go_grammar.specs.Trees.{Tree, node, Trees, none, more, skip, kind_of}
use Rattle.go_types.specs.Relations.{Rights}
use Rattle.go_typed.specs.declared.form.Form.{Form}
use Rattle.go_typed.specs.Trees as sort
use Rattle.go_exprs_rules.specs.Calls.{keeps_value}
use Rattle.go_exprs_rules.specs.Names.{name_sort, name_form, declared_form}
use Rattle.go_exprs_rules.specs.Scopes.{Scope, Hint, value, declares, free}
use Rattle.go_exprs_rules.specs.Settling.{Part}
use Rattle.go_exprs_rules.specs.Sorts.{Stands}
use Rattle.go_exprs_rules.specs.Tables.{Parts, hint, part_scope, present, all_held}
use Rattle.go_exprs_rules.specs.Typing.{typing}
use Rattle.go_stmts_defs.specs.Frames.{Frame, rights_of, scope_of}
use Rattle.go_stmts_defs.specs.Laying.{told}
use Rattle.go_stmts_defs.specs.Reading.{Reading, read, Readings, all_read, reading, readings, holding, is_list, is_declared_name, is_statement, entering, beginning, left_out}
use Rattle.go_stmts_defs.specs.Rules.{range_types, last_part}
use Rattle.go_stmts_final_types.specs.Known.{is_object, is_package_variable, VariableIsTyped}

-- ---- one name

-- how an expression stands: by itself, as what is called, or as the package in front of a member that is called
pub data Standing : Type 0 where
  alone : Standing
  called : Standing
  selected : Standing

-- Whether an expression that stands so may stand for this: something that is known, for the package in front of a member alone, and
-- for that member where it is called.
abbrev pub is_fit : Standing → Stands → Bool
is_fit r sort.Unknown = false
is_fit r sort.Nothing = false
is_fit selected sort.Package = true
is_fit r sort.Package = false
is_fit called sort.Println = true
is_fit r sort.Println = false
is_fit r x = true

-- a constant of a type is of the type's family
abbrev pub KeepsFamily : Rights → Stands → Type 0
KeepsFamily rights (sort.Constant t c) = keeps_value rights t (Some c) ≡ true
KeepsFamily rights x = Unit {0}

-- a name of this form that is used stands for something known
pub record IsKnownName (r : Standing) (rights : Rights) (f : Form) (x : Stands) : Type 0 where
  pub fit : is_fit r x ≡ true
  pub family : KeepsFamily rights x
  pub typed : VariableIsTyped (is_package_variable f) x

-- The name at this token, which is declared there, or used. One that is declared is none that is declared outside.
abbrev pub NameIsKnown : Standing → Scope → Hint → ℕ → Type 0
NameIsKnown r s declares i = is_object (declared_form s (s.objects i)) ≡ false
NameIsKnown r s free i = Unit {0}
NameIsKnown r s h i = IsKnownName r s.rights (name_form s h i) (name_sort s h i)

abbrev pub NodeIsKnown : Kind → Standing → Scope → Hint → ℕ → Type 0
NodeIsKnown kind.Name r s h i = NameIsKnown r s h i
NodeIsKnown k r s h i = Unit {0}

-- ---- the names of an expression

-- what is called may stand in parentheses
abbrev pub called_in : Standing → Standing
called_in called = called
called_in r = alone

abbrev pub selected_in : Standing → Standing
selected_in called = selected
selected_in r = alone

-- how the next part of a node stands: from how the node does, from the parts in front of it, and from its kind
abbrev pub standing_in : Standing → Kind → Parts → Kind → Standing
standing_in r kind.Parenthesized xs n = called_in r
standing_in r kind.Call [] n = called
standing_in r kind.Selector xs n = if is_name n then selected_in r else alone
standing_in r k xs n = alone

abbrev mutual
  pub ExpressionIsKnown : Standing → Scope → Hint → Tree → Type 0
  ExpressionIsKnown r s h (node k i j ps) = NodeIsKnown k r s h i × ExpressionsAreKnown r s k h ps [] ps

  pub ExpressionsAreKnown : Standing → Scope → Kind → Hint → Trees → Parts → Trees → Type 0
  ExpressionsAreKnown r s k h all xs none = Unit {0}
  ExpressionsAreKnown r s k h all xs (more p ps) =
      ExpressionIsKnown (standing_in r k xs (kind_of p)) (part_scope s k xs) (hint s k h all xs (kind_of p)) p
      × ExpressionsAreKnown r s k h all (xs ++ Some (typing (part_scope s k xs) (hint s k h all xs (kind_of p)) p) ∷ []) ps
  ExpressionsAreKnown r s k h all xs (skip ps) = ExpressionsAreKnown r s k h all (xs ++ None ∷ []) ps

-- ---- the names of a part without statements

abbrev pub IsOneOf : Bool → Type 0 → Type 0 → Type 0
IsOneOf true T U = T
IsOneOf false T U = U

abbrev mutual
  pub HeldIsKnown : Frame → Hint → Tree → Type 0
  HeldIsKnown s h (node k i j ps) =
      IsOneOf (is_list k) (HeldAreKnown s k h ps [] ps) (IsOneOf (is_declared_name k) (is_object (declared_form s.around (s.around.objects i)) ≡ false) (ExpressionIsKnown alone (scope_of s) h (node k i j ps)))

  pub HeldAreKnown : Frame → Kind → Hint → Trees → Parts → Trees → Type 0
  HeldAreKnown s k h all xs none = Unit {0}
  HeldAreKnown s k h all xs (more p ps) = HeldIsKnown s (told k h all xs (kind_of p)) p × HeldAreKnown s k h all (xs ++ Some (holding s (told k h all xs (kind_of p)) p) ∷ []) ps
  HeldAreKnown s k h all xs (skip ps) = HeldAreKnown s k h all (xs ++ None ∷ []) ps

-- ---- the names of statements, each where it is read

abbrev pub tree_in : Reading → Part
tree_in (read x fs s) = x

abbrev pub frame_in : Reading → Frame
frame_in (read x fs s) = s

abbrev pub parts_in : Readings → Parts
parts_in (all_read xs fs s) = xs

abbrev pub frame_all : Readings → Frame
frame_all (all_read xs fs s) = s

-- the type and the values that a specification of constants repeats
abbrev pub SourceIsKnown : Frame → Option Tree → Type 0
SourceIsKnown s None = Unit {0}
SourceIsKnown s (Some r) = HeldIsKnown s value r

abbrev pub LeftOutIsKnown : Frame → Kind → Type 0
LeftOutIsKnown s (kind.Specification declaring.Constant) = SourceIsKnown s s.source
LeftOutIsKnown s k = Unit {0}

-- what a range clause that declares names is over has elements or numbers, where it is read
abbrev pub OperandIsKnown : Rights → Option Part → Type 0
OperandIsKnown rights None = Unit {0}
OperandIsKnown rights (Some x) = is_some (range_types rights x) ≡ true

abbrev pub RangeIsKnown : Kind → Frame → Parts → Type 0
RangeIsKnown kind.DefiningRange s xs = OperandIsKnown (rights_of s) (last_part (present (all_held xs)))
RangeIsKnown k s xs = Unit {0}

abbrev mutual
  -- Each name of a function stands for something known where it is read, and names that are declared are those of the function.
  pub NamesAreKnown : Frame → Hint → Tree → Type 0
  NamesAreKnown s h (node k i j ps) =
      let r = readings (beginning k i s) k h ps [] [] ps in
      IsOneOf (is_statement k) (RangeIsKnown k (frame_all r) (parts_in r) × AllNamesAreKnown (beginning k i s) k h ps [] ps) (HeldIsKnown s h (node k i j ps))

  pub AllNamesAreKnown : Frame → Kind → Hint → Trees → Parts → Trees → Type 0
  AllNamesAreKnown s k h all xs none = Unit {0}
  AllNamesAreKnown s k h all xs (more p ps) =
      let q = reading (entering k xs s) (told k h all xs (kind_of p)) p in
      NamesAreKnown (entering k xs s) (told k h all xs (kind_of p)) p × AllNamesAreKnown (frame_in q) k h all (xs ++ Some (tree_in q) ∷ []) ps
  AllNamesAreKnown s k h all xs (skip ps) = let t = entering k xs s in LeftOutIsKnown t k × AllNamesAreKnown t k h all (xs ++ left_out t k ∷ []) ps
