-- The induction over a reading.
use Rattle.std.proofs.Common.{◌≡◌, ℕ, Bool, true, false, cond, [], ◌∷◌, ◌++◌, Some, None, refl, sym, ap, subst, ◌∙◌, append_assoc, append-nil, IsTrue}
use Rattle.go_grammar.specs.declared.kind.Category.{Category}
use Rattle.go_grammar.specs.declared.kind.Category.TheVariants as category
use Rattle.go_grammar.specs.declared.kind.Kind.{Kind}
use Rattle.go_grammar.specs.declared.kind.Kind.TheVariants as kind
use Rattle.go_grammar.specs.declared.kind.Place.{Place}
use Rattle.go_grammar.specs.declared.kind.Sort.TheVariants as declaring
use Rattle.go_grammar.specs.Categories.{within, place_of, is_expression}
use Rattle.go_grammar.specs.Categories as categories
use Rattle.go_grammar.specs.Grammar.{rule}
use Rattle.go_grammar.specs.Rules.{Rule, End, Then, Maybe, Unless, Many, item}
use Rattle.go_grammar.specs.Trees.{Tree, node, Trees, none, more, skip, kind_of}
use Rattle.go_typed.specs.declared.form.Form.TheVariants as form
use Rattle.go_typed.specs.Trees.{form_of}
use Rattle.go_exprs_rules.specs.Faults.{reported}
use Rattle.go_exprs_rules.specs.Scopes.{Hint}
use Rattle.go_exprs_rules.specs.Settling.{Part}
use Rattle.go_exprs_rules.specs.Tables.{Parts}
use Rattle.go_stmts_defs.specs.Frames.{Frame}
use Rattle.go_stmts_defs.specs.Laying.{told, layout, form_by, is_group}
use Rattle.go_stmts_defs.specs.Reading.{Found, Reading, read, Readings, all_read, reading, readings, entering, beginning, left_out, left_out_faults, holding, held_faults, is_statement, closed}
use Rattle.go_stmts_defs.specs.Rules.{own_faults}
use Rattle.go_stmts_final_types.specs.Holes.{HolesTyped}
use Rattle.go_stmts_final_types.specs.Shapes.{IsShaped, AreShaped}
use Rattle.go_stmts_final_types.proofs.Headers.{Stated, IfHeaderIs, SwitchHeaderIs, LoopHeaderIs, IsName}
use Rattle.go_stmts_final_types.proofs.Parts as parts
use Rattle.go_stmts_final_types.proofs.Reading.{tree_in, found_in, frame_in, parts_in, found_all, frame_all, after_is, reported_front, reported_back, one_none, row_front, RowRead, maybe_part, skip_row, skip_unless, Row, Sound, node_of}
use Rattle.go_stmts_final_types.proofs.Reading as reads
use Rattle.go_stmts_final_types.proofs.Categories.{ReadFine, ElseIs, Variables, Names, OwnNames, plain_read, no_both}
use Rattle.go_stmts_final_types.proofs.Rows.{ranked}

-- what is known of a node with statements, by its kind
abbrev pub KindRead : Kind → Part → Type 0
KindRead kind.FunctionDeclaration x = Stated x
KindRead (kind.Declaration d) x = Stated x
KindRead (kind.Group declaring.Variable) x = Variables x
KindRead (kind.Group declaring.Constant) x = Names IsName x
KindRead (kind.Group declaring.Type) x = Names (HolesTyped false) x
KindRead (kind.Specification declaring.Variable) x = Stated x × (is_group (form_of x) ≡ false)
KindRead (kind.Specification declaring.Constant) x = OwnNames IsName x
KindRead (kind.Specification declaring.Type) x = OwnNames (HolesTyped false) x
KindRead kind.Block x = Stated x
KindRead kind.Return x = Stated x
KindRead kind.Break x = Stated x
KindRead kind.Continue x = Stated x
KindRead kind.Fallthrough x = Stated x
KindRead kind.ExpressionStatement x = Stated x
KindRead (kind.StepStatement o) x = Stated x
KindRead kind.Assignment x = Stated x
KindRead (kind.OperatorAssignment o) x = Stated x
KindRead kind.Define x = Stated x
KindRead kind.If x = Stated x
KindRead kind.Else x = ElseIs x
KindRead kind.LateCondition x = IfHeaderIs x
KindRead kind.InitializedCondition x = IfHeaderIs x
KindRead kind.Switch x = Stated x
KindRead kind.LateTag x = SwitchHeaderIs (Some x)
KindRead kind.InitializedTag x = SwitchHeaderIs (Some x)
KindRead kind.Case x = Stated x
KindRead kind.Default x = Stated x
KindRead kind.For x = Stated x
KindRead kind.ForClause x = LoopHeaderIs (Some x)
KindRead kind.InitializedForClause x = LoopHeaderIs (Some x)
KindRead kind.Range x = LoopHeaderIs (Some x)
KindRead kind.AssigningRange x = LoopHeaderIs (Some x)
KindRead kind.DefiningRange x = LoopHeaderIs (Some x)
KindRead k x = Unit {0}

module _ (s : Frame) (h : Hint) (all : Trees) (p : Place) (i j : ℕ) where
  break_read : (xs : Parts) → Row s h all p i j kind.Break xs → Sound s kind.Break i j xs → Stated (node_of s kind.Break i j xs)
  break_read [] r e = reads.alone_read s h all p i j kind.Break form.Break refl refl e
  break_read (x ∷ xs) r e = elim r [ ]

  continue_read : (xs : Parts) → Row s h all p i j kind.Continue xs → Sound s kind.Continue i j xs → Stated (node_of s kind.Continue i j xs)
  continue_read [] r e = reads.alone_read s h all p i j kind.Continue form.Continue refl refl e
  continue_read (x ∷ xs) r e = elim r [ ]

  fallthrough_read : (xs : Parts) → Row s h all p i j kind.Fallthrough xs → Sound s kind.Fallthrough i j xs → Stated (node_of s kind.Fallthrough i j xs)
  fallthrough_read [] r e = reads.alone_read s h all p i j kind.Fallthrough form.Fallthrough refl refl e
  fallthrough_read (x ∷ xs) r e = elim r [ ]

  node_read : (k : Kind) (xs : Parts) → Row s h all p i j k xs → Sound s k i j xs → KindRead k (node_of s k i j xs)
  node_read kind.FunctionDeclaration xs r e = reads.function_read s h all p i j xs r e
  node_read (kind.Declaration d) xs r e = parts.declaration_read s h all p i j d xs r e
  node_read (kind.Group declaring.Variable) xs r e = parts.group_variables s h all p i j xs r
  node_read (kind.Group declaring.Constant) xs r e = parts.group_constants s h all p i j xs r
  node_read (kind.Group declaring.Type) xs r e = parts.group_types s h all p i j xs r
  node_read (kind.Specification declaring.Variable) xs r e = (parts.variables_read s h all p i j xs r e, parts.single_variables s h all p i j xs)
  node_read (kind.Specification declaring.Constant) xs r e = parts.constants_read s h all p i j xs r e
  node_read (kind.Specification declaring.Type) xs r e = parts.type_read s h all p i j xs r e
  node_read kind.Block xs r e = reads.block_read s h all p i j xs r e
  node_read kind.Return xs r e = reads.return_read s h all p i j xs r e
  node_read kind.Break xs r e = break_read xs r e
  node_read kind.Continue xs r e = continue_read xs r e
  node_read kind.Fallthrough xs r e = fallthrough_read xs r e
  node_read kind.ExpressionStatement xs r e = reads.expression_read s h all p i j xs r e
  node_read (kind.StepStatement o) xs r e = reads.step_read s h all p i j o xs r e
  node_read kind.Assignment xs r e = reads.assignment_read s h all p i j xs r e
  node_read (kind.OperatorAssignment o) xs r e = reads.operate_read s h all p i j o xs r e
  node_read kind.Define xs r e = reads.define_read s h all p i j xs r e
  node_read kind.If xs r e = reads.if_read s h all p i j xs r e
  node_read kind.Else xs r e = parts.else_read s h all p i j xs r
  node_read kind.LateCondition xs r e = parts.late_condition_read s h all p i j xs r
  node_read kind.InitializedCondition xs r e = parts.initialized_condition_read s h all p i j xs r
  node_read kind.Switch xs r e = reads.switch_read s h all p i j xs r e
  node_read kind.LateTag xs r e = parts.late_tag_read s h all p i j xs r
  node_read kind.InitializedTag xs r e = parts.initialized_tag_read s h all p i j xs r
  node_read kind.Case xs r e = reads.case_read s h all p i j xs r e
  node_read kind.Default xs r e = reads.default_read s h all p i j xs r e
  node_read kind.For xs r e = reads.for_read s h all p i j xs r e
  node_read kind.ForClause xs r e = parts.clause_read s h all p i j xs r
  node_read kind.InitializedForClause xs r e = parts.whole_read s h all p i j xs r
  node_read kind.Range xs r e = parts.range_read s h all p i j xs r
  node_read kind.AssigningRange xs r e = parts.assigning_read s h all p i j xs r
  node_read kind.DefiningRange xs r e = parts.defining_read s h all p i j xs r e
  node_read k xs r e = tt

-- ---- from kinds to categories

stated_statement : (k : Kind) (x : Part) → categories.is_statement k ≡ true → KindRead k x → Stated x
stated_statement (kind.Declaration d) x e h = h
stated_statement kind.Return x e h = h
stated_statement kind.Break x e h = h
stated_statement kind.Continue x e h = h
stated_statement kind.Fallthrough x e h = h
stated_statement kind.Block x e h = h
stated_statement kind.If x e h = h
stated_statement kind.Switch x e h = h
stated_statement kind.For x e h = h
stated_statement kind.ExpressionStatement x e h = h
stated_statement (kind.StepStatement o) x e h = h
stated_statement kind.Assignment x e h = h
stated_statement (kind.OperatorAssignment o) x e h = h
stated_statement kind.Define x e h = h
stated_statement k x e h = cc

stated_simple : (k : Kind) (x : Part) → categories.is_simple k ≡ true → KindRead k x → Stated x
stated_simple kind.ExpressionStatement x e h = h
stated_simple (kind.StepStatement o) x e h = h
stated_simple kind.Assignment x e h = h
stated_simple (kind.OperatorAssignment o) x e h = h
stated_simple kind.Define x e h = h
stated_simple k x e h = cc

stated_post : (k : Kind) (x : Part) → categories.is_post k ≡ true → KindRead k x → Stated x
stated_post kind.ExpressionStatement x e h = h
stated_post (kind.StepStatement o) x e h = h
stated_post kind.Assignment x e h = h
stated_post (kind.OperatorAssignment o) x e h = h
stated_post k x e h = cc

stated_block : (k : Kind) (x : Part) → IsTrue (within category.Block k) → KindRead k x → Stated x
stated_block kind.Block x e h = h
stated_block k x e h = cc

stated_branch : (k : Kind) (x : Part) → IsTrue (within category.Branch k) → KindRead k x → Stated x
stated_branch kind.If x e h = h
stated_branch kind.Block x e h = h
stated_branch k x e h = cc

stated_clause : (k : Kind) (x : Part) → IsTrue (within category.Clause k) → KindRead k x → Stated x
stated_clause kind.Case x e h = h
stated_clause kind.Default x e h = h
stated_clause k x e h = cc

stated_declaration : (k : Kind) (x : Part) → IsTrue (within category.Declaration k) → KindRead k x → Stated x
stated_declaration (kind.Declaration d) x e h = h
stated_declaration kind.FunctionDeclaration x e h = h
stated_declaration k x e h = cc

else_is : (k : Kind) (x : Part) → IsTrue (within category.Else k) → KindRead k x → ElseIs x
else_is kind.Else x e h = h
else_is k x e h = cc

if_header_is : (k : Kind) (x : Part) → is_statement k ≡ true → IsTrue (within category.IfHeader k) → KindRead k x → IfHeaderIs x
if_header_is kind.LateCondition x m e h = h
if_header_is kind.InitializedCondition x m e h = h
if_header_is k x m e h = no_both k e m

switch_header_is : (k : Kind) (x : Part) → is_statement k ≡ true → IsTrue (within category.SwitchHeader k) → KindRead k x → SwitchHeaderIs (Some x)
switch_header_is kind.LateTag x m e h = h
switch_header_is kind.InitializedTag x m e h = h
switch_header_is k x m e h = no_both k e m

loop_header_is : (k : Kind) (x : Part) → is_statement k ≡ true → IsTrue (within category.ForHeader k) → KindRead k x → LoopHeaderIs (Some x)
loop_header_is kind.ForClause x m e h = h
loop_header_is kind.InitializedForClause x m e h = h
loop_header_is kind.Range x m e h = h
loop_header_is kind.AssigningRange x m e h = h
loop_header_is kind.DefiningRange x m e h = h
loop_header_is k x m e h = no_both k e m

variables_are : (k : Kind) (x : Part) → IsTrue (within (category.DeclarationBody declaring.Variable) k) → KindRead k x → Variables x
variables_are (kind.Specification declaring.Variable) x e h = parts.one_variables_of x h.0 h.1
variables_are (kind.Group declaring.Variable) x e h = h
variables_are (kind.Specification declaring.Constant) x e h = cc
variables_are (kind.Specification declaring.Type) x e h = cc
variables_are (kind.Group declaring.Constant) x e h = cc
variables_are (kind.Group declaring.Type) x e h = cc
variables_are k x e h = cc

constants_are : (k : Kind) (x : Part) → IsTrue (within (category.DeclarationBody declaring.Constant) k) → KindRead k x → Names IsName x
constants_are (kind.Specification declaring.Constant) x e h = parts.one_names_of IsName x h
constants_are (kind.Group declaring.Constant) x e h = h
constants_are (kind.Specification declaring.Variable) x e h = cc
constants_are (kind.Specification declaring.Type) x e h = cc
constants_are (kind.Group declaring.Variable) x e h = cc
constants_are (kind.Group declaring.Type) x e h = cc
constants_are k x e h = cc

types_are : (k : Kind) (x : Part) → IsTrue (within (category.DeclarationBody declaring.Type) k) → KindRead k x → Names (HolesTyped false) x
types_are (kind.Specification declaring.Type) x e h = parts.one_names_of (HolesTyped false) x h
types_are (kind.Group declaring.Type) x e h = h
types_are (kind.Specification declaring.Variable) x e h = cc
types_are (kind.Specification declaring.Constant) x e h = cc
types_are (kind.Group declaring.Variable) x e h = cc
types_are (kind.Group declaring.Constant) x e h = cc
types_are k x e h = cc

own_variables : (k : Kind) (x : Part) → IsTrue (within (category.Specification declaring.Variable) k) → KindRead k x → Stated x × (is_group (form_of x) ≡ false)
own_variables (kind.Specification declaring.Variable) x e h = h
own_variables (kind.Specification declaring.Constant) x e h = cc
own_variables (kind.Specification declaring.Type) x e h = cc
own_variables k x e h = cc

own_constants : (k : Kind) (x : Part) → IsTrue (within (category.Specification declaring.Constant) k) → KindRead k x → OwnNames IsName x
own_constants (kind.Specification declaring.Constant) x e h = h
own_constants (kind.Specification declaring.Variable) x e h = cc
own_constants (kind.Specification declaring.Type) x e h = cc
own_constants k x e h = cc

own_types : (k : Kind) (x : Part) → IsTrue (within (category.Specification declaring.Type) k) → KindRead k x → OwnNames (HolesTyped false) x
own_types (kind.Specification declaring.Type) x e h = h
own_types (kind.Specification declaring.Variable) x e h = cc
own_types (kind.Specification declaring.Constant) x e h = cc
own_types k x e h = cc

-- categories that hold no statements
list_kind : {X : Type 0} (p : Place) (k : Kind) → IsTrue (within (category.ExpressionList p) k) → is_statement k ≡ true → X
list_kind p kind.ExpressionList e m = cc
list_kind p k e m = cc

targets_kind : {X : Type 0} (p : Place) (k : Kind) → IsTrue (within (category.Targets p) k) → is_statement k ≡ true → X
targets_kind p kind.Targets e m = cc
targets_kind p k e m = cc

names_kind : {X : Type 0} (p : Place) (k : Kind) → IsTrue (within (category.NewNames p) k) → is_statement k ≡ true → X
names_kind p kind.NewNames e m = cc
names_kind p k e m = cc

name_list_kind : {X : Type 0} (k : Kind) → IsTrue (within category.NameList k) → is_statement k ≡ true → X
name_list_kind kind.NameList e m = cc
name_list_kind k e m = cc

rest_kind : {X : Type 0} (k : Kind) → IsTrue (within category.VariableRest k) → is_statement k ≡ true → X
rest_kind kind.Values e m = cc
rest_kind kind.TypedValues e m = cc
rest_kind kind.Name e m = cc
rest_kind kind.ParenthesizedType e m = cc
rest_kind kind.SequenceType e m = cc
rest_kind kind.FunctionType e m = cc
rest_kind kind.StructType e m = cc
rest_kind k e m = cc

within_read : (c : Category) (k : Kind) (g : Hint) (x : Part) → is_statement k ≡ true → IsTrue (within c k) → KindRead k x → ReadFine c k g x
within_read (category.Expression l p) k g x m e h = no_both k (ranked l k e) m
within_read (category.ExpressionList p) k g x m e h = list_kind p k e m
within_read (category.Targets p) k g x m e h = targets_kind p k e m
within_read (category.NewNames p) k g x m e h = names_kind p k e m
within_read category.NameList k g x m e h = name_list_kind k e m
within_read category.VariableRest k g x m e h = rest_kind k e m
within_read category.Block k g x m e h = stated_block k x e h
within_read category.Branch k g x m e h = stated_branch k x e h
within_read category.Clause k g x m e h = stated_clause k x e h
within_read category.Statement k g x m e h = stated_statement k x e h
within_read category.Simple k g x m e h = stated_simple k x e h
within_read category.Post k g x m e h = stated_post k x e h
within_read category.Declaration k g x m e h = stated_declaration k x e h
within_read category.Else k g x m e h = else_is k x e h
within_read category.IfHeader k g x m e h = λ a. if_header_is k x m e h
within_read category.SwitchHeader k g x m e h = λ a. switch_header_is k x m e h
within_read category.ForHeader k g x m e h = λ a. loop_header_is k x m e h
within_read (category.DeclarationBody declaring.Variable) k g x m e h = variables_are k x e h
within_read (category.DeclarationBody declaring.Constant) k g x m e h = constants_are k x e h
within_read (category.DeclarationBody declaring.Type) k g x m e h = types_are k x e h
within_read (category.Specification declaring.Variable) k g x m e h = own_variables k x e h
within_read (category.Specification declaring.Constant) k g x m e h = own_constants k x e h
within_read (category.Specification declaring.Type) k g x m e h = own_types k x e h
within_read c k g x m e h = tt

-- ---- one node

closed_tree : (before : Frame) (k : Kind) (i j : ℕ) (ps : Trees) (r : Readings) → tree_in (closed before k i j ps r) ≡ node_of (frame_all r) k i j (parts_in r)
closed_tree before k i j ps (all_read xs fs s) = refl

closed_found : (before : Frame) (k : Kind) (i j : ℕ) (ps : Trees) (r : Readings)
    → found_in (closed before k i j ps r) ≡ found_all r ++ own_faults (frame_all r) k (form_by k (parts_in r)) i j (layout (frame_all r) k i (parts_in r)) ∷ []
closed_found before k i j ps (all_read xs fs s) = refl

-- what the rows of its parts say
abbrev pub Rows : Frame → Kind → Hint → Trees → Rule → Type 0
Rows s k h ps r = reported (found_all (readings s k h ps [] [] ps)) ≡ None → (ys : Parts) × (parts_in (readings s k h ps [] [] ps) ≡ [] ++ ys) × RowRead k h ps [] r ys

statement_reading : (s : Frame) (h : Hint) (c : Category) (k : Kind) (i j : ℕ) (ps : Trees) → is_statement k ≡ true → IsTrue (within c k) → Rows (beginning k i s) k h ps (rule (place_of c) k)
    → reported (found_in (closed s k i j ps (readings (beginning k i s) k h ps [] [] ps))) ≡ None → ReadFine c k h (tree_in (closed s k i j ps (readings (beginning k i s) k h ps [] [] ps)))
statement_reading s h c k i j ps m w rows e =
    let r = readings (beginning k i s) k h ps [] [] ps in
    let t = frame_all r in
    let own = own_faults t k (form_by k (parts_in r)) i j (layout t k i (parts_in r)) in
    let f : reported (found_all r ++ own ∷ []) ≡ None = sym (ap reported (closed_found s k i j ps r)) ∙ e in
    let row = rows (reported_front (found_all r) (own ∷ []) f) in
    let same : row.0 ≡ parts_in r = sym row.1 in
    let here : RowRead k h ps [] (rule (place_of c) k) (parts_in r) = subst (RowRead k h ps [] (rule (place_of c) k)) same row.2 in
    subst (ReadFine c k h) (sym (closed_tree s k i j ps r)) (within_read c k h (node_of t k i j (parts_in r)) m w (node_read t h ps (place_of c) i j k (parts_in r) here (one_none own (reported_back (found_all r) (own ∷ []) f))))

abbrev pub over : Frame → Hint → Kind → ℕ → ℕ → Trees → Bool → Reading
over s h k i j ps b = cond b (closed s k i j ps (readings (beginning k i s) k h ps [] [] ps)) (read (holding s h (node k i j ps)) (held_faults s h (node k i j ps)) s)

node_reading : (s : Frame) (h : Hint) (c : Category) (k : Kind) (i j : ℕ) (ps : Trees) → IsShaped c (node k i j ps) → Rows (beginning k i s) k h ps (rule (place_of c) k) → (b : Bool) → is_statement k ≡ b
    → reported (found_in (over s h k i j ps b)) ≡ None → ReadFine c k h (tree_in (over s h k i j ps b))
node_reading s h c k i j ps w rows true m e = statement_reading s h c k i j ps m w.0 rows e
node_reading s h c k i j ps w rows false m e = plain_read s h c k i j ps w m

-- ---- the induction

-- the parts behind xs
abbrev pub RowsFrom : Frame → Kind → Hint → Trees → Parts → Found → Trees → Rule → Type 0
RowsFrom s k h all xs fs ps r = (ys : Parts) × (parts_in (readings s k h all xs fs ps) ≡ xs ++ ys) × RowRead k h all xs r ys

-- a part in front of others
pub front : (s : Frame) (k : Kind) (h : Hint) (all : Trees) (xs : Parts) (fs : Found) (p : Tree) (ps : Trees) → let q = reading (entering k xs s) (told k h all xs (kind_of p)) p in
    reported (found_all (readings s k h all xs fs (more p ps))) ≡ None → (reported (found_in q) ≡ None) × (reported (found_all (readings (frame_in q) k h all (xs ++ Some (tree_in q) ∷ []) (fs ++ found_in q) ps)) ≡ None)
front s k h all xs fs p ps e =
    let q = reading (entering k xs s) (told k h all xs (kind_of p)) p in
    let f = sym (ap (λ z. reported (found_all z)) (after_is q (λ x gs t. readings t k h all (xs ++ Some x ∷ []) (fs ++ gs) ps))) ∙ e in
    (reported_back fs (found_in q) (row_front (frame_in q) k h all (xs ++ Some (tree_in q) ∷ []) (fs ++ found_in q) ps f), f)

-- where its rows are known behind it
pub joined : (s : Frame) (k : Kind) (h : Hint) (all : Trees) (xs : Parts) (fs : Found) (p : Tree) (ps : Trees) (ys : Parts) → let q = reading (entering k xs s) (told k h all xs (kind_of p)) p in
    parts_in (readings (frame_in q) k h all (xs ++ Some (tree_in q) ∷ []) (fs ++ found_in q) ps) ≡ (xs ++ Some (tree_in q) ∷ []) ++ ys → parts_in (readings s k h all xs fs (more p ps)) ≡ xs ++ Some (tree_in q) ∷ ys
joined s k h all xs fs p ps ys e =
    let q = reading (entering k xs s) (told k h all xs (kind_of p)) p in
    ap parts_in (after_is q (λ x gs t. readings t k h all (xs ++ Some x ∷ []) (fs ++ gs) ps)) ∙ (e ∙ append_assoc xs (Some (tree_in q) ∷ []) ys)

mutual
  pub reading_fine : (s : Frame) (h : Hint) (c : Category) (t : Tree) → IsShaped c t → reported (found_in (reading s h t)) ≡ None → ReadFine c (kind_of t) h (tree_in (reading s h t))
  reading_fine s h c (node k i j ps) w e = node_reading s h c k i j ps w (λ m. readings_fine (beginning k i s) k h ps [] [] ps (rule (place_of c) k) w.1 m) (is_statement k) refl e

  pub readings_fine : (s : Frame) (k : Kind) (h : Hint) (all : Trees) (xs : Parts) (fs : Found) (ps : Trees) (r : Rule) → AreShaped r ps → reported (found_all (readings s k h all xs fs ps)) ≡ None → RowsFrom s k h all xs fs ps r
  readings_fine s k h all xs fs none (End ws) w e = ([], sym (append-nil xs), tt)
  readings_fine s k h all xs fs none (Then ws c r) w e = elim w [ ]
  readings_fine s k h all xs fs none (Maybe ws c r) w e = elim w [ ]
  readings_fine s k h all xs fs none (Unless ws c us r) w e = elim w [ ]
  readings_fine s k h all xs fs none (Many ws l) w e = ([], sym (append-nil xs), tt)
  readings_fine s k h all xs fs (more p ps) (End ws) w e = elim w [ ]
  readings_fine s k h all xs fs (more p ps) (Then ws c r) w e =
      let g = told k h all xs (kind_of p) in
      let q = reading (entering k xs s) g p in
      let f = front s k h all xs fs p ps e in
      let own = reading_fine (entering k xs s) g c p w.0 f.0 in
      let m = readings_fine (frame_in q) k h all (xs ++ Some (tree_in q) ∷ []) (fs ++ found_in q) ps r w.1 f.1 in
      (Some (tree_in q) ∷ m.0, joined s k h all xs fs p ps m.0 m.1, ((kind_of p, own), m.2))
  readings_fine s k h all xs fs (more p ps) (Maybe ws c r) w e =
      let g = told k h all xs (kind_of p) in
      let q = reading (entering k xs s) g p in
      let f = front s k h all xs fs p ps e in
      let own = reading_fine (entering k xs s) g c p w.0 f.0 in
      let m = readings_fine (frame_in q) k h all (xs ++ Some (tree_in q) ∷ []) (fs ++ found_in q) ps r w.1 f.1 in
      (Some (tree_in q) ∷ m.0, joined s k h all xs fs p ps m.0 m.1, (maybe_part k (reads.PartRead k h all xs c (tree_in q)) (kind_of p, own), m.2))
  readings_fine s k h all xs fs (more p ps) (Unless ws c us r) w e =
      let g = told k h all xs (kind_of p) in
      let q = reading (entering k xs s) g p in
      let f = front s k h all xs fs p ps e in
      let own = reading_fine (entering k xs s) g c p w.0 f.0 in
      let m = readings_fine (frame_in q) k h all (xs ++ Some (tree_in q) ∷ []) (fs ++ found_in q) ps r w.1 f.1 in
      (Some (tree_in q) ∷ m.0, joined s k h all xs fs p ps m.0 m.1, (maybe_part k (reads.PartRead k h all xs c (tree_in q)) (kind_of p, own), m.2))
  readings_fine s k h all xs fs (more p ps) (Many ws l) w e =
      let g = told k h all xs (kind_of p) in
      let q = reading (entering k xs s) g p in
      let f = front s k h all xs fs p ps e in
      let own = reading_fine (entering k xs s) g (item l) p w.0 f.0 in
      let m = readings_fine (frame_in q) k h all (xs ++ Some (tree_in q) ∷ []) (fs ++ found_in q) ps (Many ws l) w.1 f.1 in
      (Some (tree_in q) ∷ m.0, joined s k h all xs fs p ps m.0 m.1, ((kind_of p, own), m.2))
  readings_fine s k h all xs fs (skip ps) (End ws) w e = elim w [ ]
  readings_fine s k h all xs fs (skip ps) (Then ws c r) w e = elim w [ ]
  readings_fine s k h all xs fs (skip ps) (Maybe ws c r) w e =
      let t = entering k xs s in
      let m = readings_fine t k h all (xs ++ left_out t k ∷ []) (fs ++ left_out_faults t k) ps r w e in
      (left_out t k ∷ m.0, m.1 ∙ append_assoc xs (left_out t k ∷ []) m.0, skip_row k t h all xs ws c r m.0 m.2)
  readings_fine s k h all xs fs (skip ps) (Unless ws c us r) w e =
      let t = entering k xs s in
      let m = readings_fine t k h all (xs ++ left_out t k ∷ []) (fs ++ left_out_faults t k) ps r w e in
      (left_out t k ∷ m.0, m.1 ∙ append_assoc xs (left_out t k ∷ []) m.0, skip_unless k t h all xs ws c us r m.0 m.2)
  readings_fine s k h all xs fs (skip ps) (Many ws l) w e = elim w [ ]
