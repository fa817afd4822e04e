-- How the names of a function stand: what they mean is declared in front of them (Go specification: Declarations and scope, Type
-- declarations, For statements with range clause). Nothing is asked of what they stand for.
use Rattle.std.specs.Prelude.{◌≡◌, ℕ, false, ◌++◌, [], ◌∷◌, Option, Some, None}
use Rattle.go_grammar.specs.declared.kind.Kind.{Kind}
use Rattle.go_grammar.specs.declared.kind.Kind.TheVariants as kind
use Rattle.go_grammar.specs.declared.kind.Sort.TheVariants as declaring
use Rattle.go_grammar.specs.Trees.{Tree, node, Trees, none, more, skip, kind_of}
use Rattle.go_types.specs.Trees.{TypeTree}
use Rattle.go_types.specs.Relations.{Rights, HasRight}
use Rattle.go_types_relations.specs.Tests.{underlying_of}
use Rattle.go_typed.specs.declared.form.Form.TheVariants as form
use Rattle.go_typed.specs.Trees.{typed, sort_of, list_of}
use Rattle.go_exprs_rules.specs.Names.{declared_form}
use Rattle.go_exprs_rules.specs.Scopes.{Hint, value}
use Rattle.go_exprs_rules.specs.Settling.{Part}
use Rattle.go_exprs_rules.specs.Sorts.{own_type}
use Rattle.go_exprs_rules.specs.Tables.{Parts, present}
use Rattle.go_stmts_defs.specs.Frames.{Frame, rights_of, scope_of}
use Rattle.go_stmts_defs.specs.Laying.{told, type_number}
use Rattle.go_stmts_defs.specs.Reading.{reading, readings, holding, is_list, is_declared_name, is_statement, entering, beginning, left_out}
use Rattle.go_stmts_defs.specs.Rules.{last_part}
use Rattle.go_stmts_final_types.specs.Known.{is_object}
use Rattle.go_stmts_final_types.specs.Names.{alone, IsOneOf, tree_in, frame_in, frame_all}
use Rattle.go_stmts_final_types.specs.Placed.{ExpressionIsPlaced}

-- ---- a part without statements

abbrev mutual
  -- the names of a part without statements, where so many objects of the package are known
  pub HeldIsPlaced : ℕ → Frame → Hint → Tree → Type 0
  HeldIsPlaced count s h (node k i j ps) =
      IsOneOf (is_list k) (HeldArePlaced count s k h ps [] ps)
      (IsOneOf (is_declared_name k) (is_object (declared_form s.around (s.around.objects i)) ≡ false) (ExpressionIsPlaced count s.locals alone (scope_of s) h (node k i j ps)))

  pub HeldArePlaced : ℕ → Frame → Kind → Hint → Trees → Parts → Trees → Type 0
  HeldArePlaced count s k h all xs none = Unit {0}
  HeldArePlaced count s k h all xs (more p ps) =
      HeldIsPlaced count s (told k h all xs (kind_of p)) p × HeldArePlaced count s k h all (xs ++ Some (holding s (told k h all xs (kind_of p)) p) ∷ []) ps
  HeldArePlaced count s k h all xs (skip ps) = HeldArePlaced count s k h all (xs ++ None ∷ []) ps

-- the type and the values that a specification of constants repeats
abbrev pub SourceIsPlaced : ℕ → Frame → Option Tree → Type 0
SourceIsPlaced count s None = Unit {0}
SourceIsPlaced count s (Some r) = HeldIsPlaced count s value r

abbrev pub LeftOutIsPlaced : ℕ → Frame → Kind → Type 0
LeftOutIsPlaced count s (kind.Specification declaring.Constant) = SourceIsPlaced count s s.source
LeftOutIsPlaced count s k = Unit {0}

-- ---- types

-- the declared type of this number has no right side so far
abbrev pub IsFree : Rights → Option ℕ → Type 0
IsFree rights None = Unit {0}
IsFree rights (Some n) = (r : TypeTree) → HasRight rights n r → ⊥

-- A local type is given one right side.
abbrev pub RightIsFree : Frame → Kind → ℕ → Type 0
RightIsFree s (kind.Specification declaring.Type) i = IsFree s.around.rights (type_number s i)
RightIsFree s k i = Unit {0}

-- the type, if there is one, has the underlying type that it had
abbrev pub TypeStays : Rights → Rights → Option TypeTree → Type 0
TypeStays old new None = Unit {0}
TypeStays old new (Some t) = underlying_of new t ≡ underlying_of old t

abbrev pub OperandStays : Rights → Rights → Option Part → Type 0
OperandStays old new None = Unit {0}
OperandStays old new (Some x) = TypeStays old new (own_type (sort_of x))

-- the operand of a range clause that declares names
abbrev pub RangeStays : Rights → Rights → Part → Type 0
RangeStays old new (typed (form.Held kind.DefiningRange) i j l ps) = OperandStays old new (last_part (present (list_of ps)))
RangeStays old new x = Unit {0}

-- What a loop goes over has behind its body, in the frame t, the type that it had in front of it.
abbrev pub LoopStays : Frame → Kind → Hint → Trees → Frame → Type 0
LoopStays s kind.For h (more p ps) t = let q = reading s (told kind.For h (more p ps) [] (kind_of p)) p in RangeStays (rights_of (frame_in q)) (rights_of t) (tree_in q)
LoopStays s k h ps t = Unit {0}

-- ---- statements

abbrev mutual
  -- Each name of a function means what is declared where it is read, or needs no declaration; names that are declared are those of the
  -- function, and local types are declared once.
  pub NamesArePlaced : ℕ → Frame → Hint → Tree → Type 0
  NamesArePlaced count s h (node k i j ps) =
      let r = readings (beginning k i s) k h ps [] [] ps in
      IsOneOf (is_statement k) (RightIsFree (frame_all r) k i × LoopStays s k h ps (frame_all r) × AllNamesArePlaced count (beginning k i s) k h ps [] ps) (HeldIsPlaced count s h (node k i j ps))

  pub AllNamesArePlaced : ℕ → Frame → Kind → Hint → Trees → Parts → Trees → Type 0
  AllNamesArePlaced count s k h all xs none = Unit {0}
  AllNamesArePlaced count s k h all xs (more p ps) =
      let q = reading (entering k xs s) (told k h all xs (kind_of p)) p in
      NamesArePlaced count (entering k xs s) (told k h all xs (kind_of p)) p × AllNamesArePlaced count (frame_in q) k h all (xs ++ Some (tree_in q) ∷ []) ps
  AllNamesArePlaced count s k h all xs (skip ps) = let t = entering k xs s in LeftOutIsPlaced count t k × AllNamesArePlaced count t k h all (xs ++ left_out t k ∷ []) ps
