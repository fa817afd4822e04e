-- Statements in which the types that are declared don't change what the types of tags are.
--
-- The values of a case are read with the right sides that are known in front of its statements, and judged with those behind them. Where a
-- clause declares the type that the tag of its switch has, what a value takes is another type in front than behind.
use Rattle.std.specs.Prelude.{◌≡◌, Bool, true, false, ◌&&◌, not, [], ◌∷◌, ◌++◌, Option, Some, None}
use Rattle.go_grammar.specs.declared.kind.Kind.{Kind}
use Rattle.go_grammar.specs.declared.kind.Kind.TheVariants as kind
use Rattle.go_grammar.specs.declared.kind.Sort.TheVariants as declaring
use Rattle.go_grammar.specs.Trees.{Tree, node, Trees, none, more, skip, kind_of}
use Rattle.go_types.specs.Trees.{TypeTree}
use Rattle.go_types.specs.Relations.{Rights}
use Rattle.go_types_relations.specs.Tests.{underlying_of}
use Rattle.go_typed.specs.declared.form.Form.{Form}
use Rattle.go_typed.specs.declared.form.Form.TheVariants as form
use Rattle.go_exprs_rules.specs.Scopes.{Hint, value}
use Rattle.go_exprs_rules.specs.Settling.{Part, as_type}
use Rattle.go_exprs_rules.specs.Sorts.{own_type}
use Rattle.go_exprs_rules.specs.Tables.{Parts}
use Rattle.go_stmts_defs.specs.Assigning.{Taking, takes}
use Rattle.go_stmts_defs.specs.Frames.{Frame, rights_of}
use Rattle.go_stmts_defs.specs.Laying.{told, loop_form, loop_header}
use Rattle.go_stmts_defs.specs.Reading.{reading, beginning, entering, in_switch, left_out, tag_behind}
use Rattle.go_stmts_defs.specs.Rules.{operand_takes}
use Rattle.go_stmts_variables.specs.Statements.{tree_in, frame_in}

-- ---- types that are what they were

-- the type, if there is one, has the underlying type that it had
abbrev pub Keeps : Rights → Rights → Option TypeTree → Type 0
Keeps old new None = Unit {0}
Keeps old new (Some t) = underlying_of new t ≡ underlying_of old t

-- no clause changes what the type is
abbrev pub ClausesKeep : Option TypeTree → Frame → Trees → Type 0
ClausesKeep t f none = Unit {0}
ClausesKeep t f (more p ps) = Keeps (rights_of f) (rights_of (frame_in (reading f value p))) t × ClausesKeep t (frame_in (reading f value p)) ps
ClausesKeep t f (skip ps) = ClausesKeep t f ps

abbrev pub type_taken : Taking → Option TypeTree
type_taken (takes (as_type t)) = Some t
type_taken k = None

-- the type of a target that an untyped number takes over which a range clause goes
abbrev pub number_type : Form → Parts → Option TypeTree
number_type (form.Range d n) ys = type_taken (operand_takes n ys)
number_type f ys = None

abbrev pub range_type : Part → Option TypeTree
range_type x = number_type (loop_form (Some x)) (loop_header (Some x))

-- no range clause
abbrev pub is_clause : Kind → Bool
is_clause kind.Range = false
is_clause kind.AssigningRange = false
is_clause kind.DefiningRange = false
is_clause k = true

-- whether a loop goes over a value
abbrev pub goes_over : Trees → Bool
goes_over (more hd ps) = not (is_clause (kind_of hd))
goes_over ps = false

abbrev pub KeepsIf : Bool → Rights → Rights → Option TypeTree → Type 0
KeepsIf true old new t = Keeps old new t
KeepsIf false old new t = Unit {0}

-- Of a switch the type of the tag, and of a loop over an untyped number the type that this takes.
abbrev pub SteadyAt : Frame → Kind → Trees → Type 0
SteadyAt f kind.Switch (more hd cs) = ClausesKeep (own_type (tag_behind (Some (tree_in (reading f value hd))))) (in_switch (Some (tree_in (reading f value hd)) ∷ []) (frame_in (reading f value hd))) cs
SteadyAt f kind.For (more hd (more b none)) =
    KeepsIf (goes_over (more hd (more b none))) (rights_of (frame_in (reading f value hd))) (rights_of (frame_in (reading (frame_in (reading f value hd)) value b))) (range_type (tree_in (reading f value hd)))
SteadyAt f k ps = Unit {0}

abbrev mutual
  -- All switches and loops in a statement keep these types, each in what is known where it begins.
  pub Steady : Frame → Hint → Tree → Type 0
  Steady f h (node k i j ps) = SteadyAt f k ps × PartsSteady (beginning k i f) k h ps [] ps

  pub PartsSteady : Frame → Kind → Hint → Trees → Parts → Trees → Type 0
  PartsSteady f k h all xs none = Unit {0}
  PartsSteady f k h all xs (more p ps) =
      Steady (entering k xs f) (told k h all xs (kind_of p)) p
      × PartsSteady (frame_in (reading (entering k xs f) (told k h all xs (kind_of p)) p)) k h all (xs ++ Some (tree_in (reading (entering k xs f) (told k h all xs (kind_of p)) p)) ∷ []) ps
  PartsSteady f k h all xs (skip ps) = PartsSteady (entering k xs f) k h all (xs ++ left_out (entering k xs f) k ∷ []) ps

-- ---- where no types are declared

abbrev pub declares_type : Kind → Bool
declares_type (kind.Specification declaring.Type) = true
declares_type k = false

abbrev mutual
  -- no types are declared in the tree
  pub is_typeless : Tree → Bool
  is_typeless (node k i j ps) = not (declares_type k) && are_typeless ps

  pub are_typeless : Trees → Bool
  are_typeless none = true
  are_typeless (more p ps) = is_typeless p && are_typeless ps
  are_typeless (skip ps) = are_typeless ps

-- whether a switch has a part in front of its clauses
abbrev pub has_header : Trees → Bool
has_header (more hd cs) = true
has_header ps = false

abbrev pub TypelessIf : Bool → Trees → Type 0
TypelessIf true ps = are_typeless ps ≡ true
TypelessIf false ps = Unit {0}

abbrev pub HeadTypeless : Kind → Trees → Type 0
HeadTypeless kind.Switch ps = TypelessIf (has_header ps) ps
HeadTypeless kind.For ps = TypelessIf (goes_over ps) ps
HeadTypeless k ps = Unit {0}

abbrev mutual
  -- Switches that have a tag, or a statement in front of it, and loops that go over a value declare no types.
  pub Typeless : Tree → Type 0
  Typeless (node k i j ps) = HeadTypeless k ps × AllTypeless ps

  pub AllTypeless : Trees → Type 0
  AllTypeless none = Unit {0}
  AllTypeless (more p ps) = Typeless p × AllTypeless ps
  AllTypeless (skip ps) = AllTypeless ps

-- So are statements in which these declare none.
abbrev pub TypelessAreSteady : Type 0
TypelessAreSteady = (f : Frame) (h : Hint) (x : Tree) → Typeless x → Steady f h x
