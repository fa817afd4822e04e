-- The reading of a body: statements and declarations from left to right, over the tables.
--
-- A part is read in what is known where it begins, and hands on what is known behind it.
use Rattle.std.specs.Prelude.{ℕ, Bool, true, false, if◌then◌else◌, List, [], ◌∷◌, ◌++◌, length, Option, Some, None}
use Rattle.go_grammar.specs.declared.kind.Kind.{Kind}
use Rattle.go_grammar.specs.declared.kind.Kind.TheVariants as kind
use Rattle.go_grammar.specs.declared.kind.Sort.TheVariants as declaring
use Rattle.go_grammar.specs.Trees.{Tree, node, Trees, none, more, skip, kind_of}
use Rattle.go_types.specs.Trees.{TypeTree, boolean, declared}
use Rattle.go_types_relations.specs.Tests.{underlying_of}
use Rattle.go_typed.specs.declared.form.Form.{Form}
use Rattle.go_typed.specs.declared.form.Form.TheVariants as form
use Rattle.go_typed.specs.Forms.{local_of}
use Rattle.go_typed.specs.Trees.{Typed, typed, Typeds, form_of, sort_of, parts_of, list_of}
use Rattle.go_typed.specs.Trees as sort
use Rattle.go_exprs_rules.specs.declared.fault.TypeFault.{TypeFault}
use Rattle.go_exprs_rules.specs.Sorts.{Stands, open_kind, default_type, retyped}
use Rattle.go_exprs_rules.specs.declared.family.OpenKind.{OpenKind}
use Rattle.go_exprs_rules.specs.Settling.{Part}
use Rattle.go_exprs_rules.specs.Scopes.{Hint, value}
use Rattle.go_exprs_rules.specs.Names.{declared_form}
use Rattle.go_exprs_rules.specs.Calls.{results_of}
use Rattle.go_exprs_rules.specs.TypeNodes.{part_type, parts_in, entry_types, is_parameter}
use Rattle.go_exprs_rules.specs.Tables.{Parts, made}
use Rattle.go_exprs_rules.specs.Typing.{typing, faults}
use Rattle.go_stmts_defs.specs.Frames.{Frame, rights_of, scope_of, with_local, with_own_right, with_iota}
use Rattle.go_stmts_defs.specs.Assigning.{types_in}
use Rattle.go_stmts_defs.specs.Laying.{told, layout, form_by, local_named, type_number}
use Rattle.go_stmts_defs.specs.Rules.{own_faults, built_by}

-- for each node, in post-order, its rules that fail
abbrev pub Found : Type 0
Found = List (List TypeFault)

-- ---- nodes that only hold names or expressions

abbrev pub is_list : Kind → Bool
is_list kind.NameList = true
is_list kind.NewNames = true
is_list kind.Targets = true
is_list kind.ExpressionList = true
is_list kind.TypedValues = true
is_list kind.Values = true
is_list k = false

abbrev pub is_declared_name : Kind → Bool
is_declared_name kind.DeclaredName = true
is_declared_name k = false

abbrev pub list_node : Frame → Kind → ℕ → ℕ → Parts → Part
list_node s k i j ys = made (form.Held k) i j sort.Nothing ys ys

abbrev pub name_node : Frame → ℕ → ℕ → Part
name_node s i j = made (declared_form s.around (s.around.objects i)) i j sort.Nothing [] []

abbrev mutual
  -- the typed tree of a part without statements
  pub holding : Frame → Hint → Tree → Part
  holding s h (node k i j ps) =
      if is_list k then list_node s k i j (layout s k i (holdings s k h ps [] ps))
      else (if is_declared_name k then name_node s i j else typing (scope_of s) h (node k i j ps))

  pub holdings : Frame → Kind → Hint → Trees → Parts → Trees → Parts
  holdings s k h all xs none = xs
  holdings s k h all xs (more p ps) = holdings s k h all (xs ++ Some (holding s (told k h all xs (kind_of p)) p) ∷ []) ps
  holdings s k h all xs (skip ps) = holdings s k h all (xs ++ None ∷ []) ps

abbrev mutual
  -- its nodes with their rules that fail
  pub held_faults : Frame → Hint → Tree → Found
  held_faults s h (node k i j ps) = if is_list k then all_held_faults s k h ps [] ps else (if is_declared_name k then [] else faults (scope_of s) h (node k i j ps))

  pub all_held_faults : Frame → Kind → Hint → Trees → Parts → Trees → Found
  all_held_faults s k h all xs none = []
  all_held_faults s k h all xs (more p ps) =
      held_faults s (told k h all xs (kind_of p)) p
      ++ all_held_faults s k h all (xs ++ Some (holding s (told k h all xs (kind_of p)) p) ∷ []) ps
  all_held_faults s k h all xs (skip ps) = all_held_faults s k h all (xs ++ None ∷ []) ps

-- ---- what is known before a part

abbrev pub opened : Option OpenKind → Stands → Stands
opened (Some k) x = retyped (default_type k) x
opened None x = x

-- the tag that the part in front of the braces gives: an untyped one takes its default type, and one that is left out is `true`
abbrev pub tag_in : Stands → Stands
tag_in (sort.Value t) = sort.Value t
tag_in (sort.Constant t c) = sort.Constant t c
tag_in (sort.Open u) = opened (open_kind (sort.Open u)) (sort.Open u)
tag_in (sort.OpenConstant c) = opened (open_kind (sort.OpenConstant c)) (sort.OpenConstant c)
tag_in x = sort.Unknown

abbrev pub tag_of : Option Part → Stands
tag_of None = sort.Value boolean
tag_of (Some x) = tag_in (sort_of x)

abbrev pub last_of_list : Parts → Option Part
last_of_list [] = None
last_of_list (x ∷ []) = x
last_of_list (x ∷ xs) = last_of_list xs

abbrev pub tag_behind : Option Part → Stands
tag_behind (Some (typed (form.Held kind.LateTag) i j l ps)) = tag_of (last_of_list (list_of ps))
tag_behind (Some (typed (form.Held kind.InitializedTag) i j l ps)) = tag_of (last_of_list (list_of ps))
tag_behind x = tag_of x

-- the local that an entry of parameters declares
abbrev pub name_in : Option Part → Option ℕ
name_in None = None
name_in (Some x) = local_of (form_of x)

abbrev pub first_name : Parts → Option ℕ
first_name [] = None
first_name (x ∷ xs) = name_in x

abbrev pub entry_name : Part → Option ℕ
entry_name x = if is_parameter (form_of x) then first_name (list_of (parts_of x)) else local_of (form_of x)

abbrev pub entry_names : Parts → List (Option ℕ)
entry_names [] = []
entry_names (None ∷ xs) = entry_names xs
entry_names (Some x ∷ xs) = entry_name x ∷ entry_names xs

abbrev pub with_parameter : Option ℕ → Option TypeTree → Frame → Frame
with_parameter (Some n) (Some t) s = with_local n (sort.Value t) s
with_parameter n t s = s

abbrev pub with_parameters : List (Option ℕ) → List (Option TypeTree) → Frame → Frame
with_parameters (n ∷ ns) (t ∷ ts) s = with_parameters ns ts (with_parameter n t s)
with_parameters _ _ s = s

abbrev pub head : Parts → Option Part
head [] = None
head (x ∷ xs) = x

abbrev pub first_parts : Option Part → Parts
first_parts (Some x) = parts_in (head (list_of (parts_of x)))
first_parts None = []

abbrev pub signature_results : Frame → Option TypeTree → List TypeTree
signature_results s (Some t) = types_in (results_of (underlying_of (rights_of s) t))
signature_results s None = []

-- behind a signature its parameters are declared, and the results of the function are known
abbrev pub behind_signature : Option Part → Frame → Frame
behind_signature g s = with_parameters (entry_names (first_parts g)) (entry_types (first_parts g)) (record s { results = signature_results s (part_type g) })

abbrev pub in_function : Parts → Frame → Frame
in_function (g ∷ []) s = behind_signature g s
in_function xs s = s

abbrev pub in_switch : Parts → Frame → Frame
in_switch (x ∷ []) s = record s { tag = tag_behind x }
in_switch xs s = s

abbrev pub source_kept : Parts → Frame → Frame
source_kept [] s = record s { source = None }
source_kept xs s = s

-- `iota` is the number of the specification
abbrev pub in_constants : Parts → Frame → Frame
in_constants xs s = with_iota (length xs) (source_kept xs s)

-- What is known before the part behind the parts xs of a node
abbrev pub entering : Kind → Parts → Frame → Frame
entering (kind.Declaration declaring.Constant) xs s = in_constants xs s
entering (kind.Group declaring.Constant) xs s = in_constants xs s
entering kind.Switch xs s = in_switch xs s
entering kind.FunctionDeclaration xs s = in_function xs s
entering k xs s = s

abbrev pub with_type : Option ℕ → Frame → Frame
with_type (Some n) s = with_local n (sort.IsType (declared (s.types n))) s
with_type None s = s

-- a local type is declared from its name on
abbrev pub beginning : Kind → ℕ → Frame → Frame
beginning (kind.Specification declaring.Type) i s = with_type (local_named (s.around.objects i)) s
beginning k i s = s

-- ---- what is known behind a node

abbrev pub declares_sort : Option ℕ → Stands → Frame → Frame
declares_sort (Some n) sort.Nothing s = s
declares_sort (Some n) x s = with_local n x s
declares_sort None x s = s

abbrev pub is_new : Form → Option ℕ
is_new (form.New n) = Some n
is_new (form.Declared n) = Some n
is_new f = None

abbrev pub declares_name : Option Part → Frame → Frame
declares_name None s = s
declares_name (Some x) s = declares_sort (is_new (form_of x)) (sort_of x) s

abbrev pub declares_all : Parts → Frame → Frame
declares_all [] s = s
declares_all (x ∷ xs) s = declares_all xs (declares_name x s)

abbrev pub part_source : Trees → Option Tree → Option Tree
part_source (more ns (more r none)) old = Some r
part_source ps old = old

abbrev pub right_side : Parts → Option TypeTree
right_side (n ∷ t ∷ []) = part_type t
right_side xs = None

-- `iota` and the tag are again those in front of the node
abbrev pub back : Frame → Frame → Frame
back before s = with_iota before.around.iota (record s { tag = before.tag; results = before.results })

abbrev pub leaving : Kind → ℕ → Trees → Part → Frame → Frame
leaving (kind.Specification declaring.Type) i ps x s = with_own_right (type_number s i) (right_side (list_of (parts_of x))) s
leaving (kind.Specification declaring.Variable) i ps x s = declares_all (list_of (parts_of x)) s
leaving (kind.Specification declaring.Constant) i ps x s = declares_all (list_of (parts_of x)) (record s { source = part_source ps s.source })
leaving kind.Define i ps x s = declares_all (list_of (parts_of x)) s
leaving kind.DefiningRange i ps x s = declares_all (list_of (parts_of x)) s
leaving k i ps x s = s

-- ---- the engine

-- a typed tree, its nodes with their rules that fail, and what is known behind it
pub data Reading : Type 0 where
  read : Part → Found → Frame → Reading

pub data Readings : Type 0 where
  all_read : Parts → Found → Frame → Readings

-- a specification of constants without values repeats the last one's, where they are written
abbrev pub repeated : Frame → Option Tree → Option Part
repeated s None = None
repeated s (Some r) = Some (holding s value r)

abbrev pub repeated_faults : Frame → Option Tree → Found
repeated_faults s None = []
repeated_faults s (Some r) = held_faults s value r

abbrev pub left_out : Frame → Kind → Option Part
left_out s (kind.Specification declaring.Constant) = repeated s s.source
left_out s k = None

abbrev pub left_out_faults : Frame → Kind → Found
left_out_faults s (kind.Specification declaring.Constant) = repeated_faults s s.source
left_out_faults s k = []

-- statements, declarations, and the nodes that hold statements
abbrev pub is_statement : Kind → Bool
is_statement kind.FunctionDeclaration = true
is_statement (kind.Declaration d) = true
is_statement (kind.Group d) = true
is_statement (kind.Specification d) = true
is_statement kind.Block = true
is_statement kind.Return = true
is_statement kind.Break = true
is_statement kind.Continue = true
is_statement kind.Fallthrough = true
is_statement kind.ExpressionStatement = true
is_statement (kind.StepStatement o) = true
is_statement kind.Assignment = true
is_statement (kind.OperatorAssignment o) = true
is_statement kind.Define = true
is_statement kind.If = true
is_statement kind.Else = true
is_statement kind.LateCondition = true
is_statement kind.InitializedCondition = true
is_statement kind.Switch = true
is_statement kind.LateTag = true
is_statement kind.InitializedTag = true
is_statement kind.Case = true
is_statement kind.Default = true
is_statement kind.For = true
is_statement kind.ForClause = true
is_statement kind.InitializedForClause = true
is_statement kind.Range = true
is_statement kind.AssigningRange = true
is_statement kind.DefiningRange = true
is_statement k = false

abbrev pub completed : Frame → Kind → ℕ → Trees → Part → Found → List TypeFault → Frame → Reading
completed before k i ps x fs own s = read x (fs ++ own ∷ []) (leaving k i ps x (back before s))

abbrev pub closed_on : Frame → Kind → Form → ℕ → ℕ → Trees → Parts → Found → List TypeFault → Frame → Reading
closed_on before k f i j ps ys fs own s = completed before k i ps (built_by s k f i j ys own) fs own s

abbrev pub closed_by : Frame → Kind → Form → ℕ → ℕ → Trees → Parts → Found → Frame → Reading
closed_by before k f i j ps ys fs s = closed_on before k f i j ps ys fs (own_faults s k f i j ys) s

-- the node over its parts
abbrev pub closed : Frame → Kind → ℕ → ℕ → Trees → Readings → Reading
closed before k i j ps (all_read xs fs s) = closed_by before k (form_by k xs) i j ps (layout s k i xs) fs s

-- what follows a part, with what was read of it
abbrev pub after : Reading → (Part → Found → Frame → Readings) → Readings
after (read x fs s) next = next x fs s

abbrev mutual
  pub reading : Frame → Hint → Tree → Reading
  reading s h (node k i j ps) =
      if is_statement k then closed s k i j ps (readings (beginning k i s) k h ps [] [] ps)
      else read (holding s h (node k i j ps)) (held_faults s h (node k i j ps)) s

  -- the parts that are read, with what is known behind them, and those that are left
  pub readings : Frame → Kind → Hint → Trees → Parts → Found → Trees → Readings
  readings s k h all xs fs none = all_read xs fs s
  readings s k h all xs fs (more p ps) =
      after (reading (entering k xs s) (told k h all xs (kind_of p)) p) (λ x gs t. readings t k h all (xs ++ Some x ∷ []) (fs ++ gs) ps)
  readings s k h all xs fs (skip ps) = readings (entering k xs s) k h all (xs ++ left_out (entering k xs s) k ∷ []) (fs ++ left_out_faults (entering k xs s) k) ps
