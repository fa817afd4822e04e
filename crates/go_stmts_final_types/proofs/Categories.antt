-- What is known of parts that are read, by the categories that the grammar gives them.
use Rattle.std.proofs.Common.{◌≡◌, ℕ, Bool, true, false, cond, [], ◌∷◌, ◌++◌, List, Option, Some, None, refl, sym, ap, subst, ◌∙◌, append_assoc, append-nil, IsTrue}
use Rattle.go_grammar.specs.declared.kind.Category.{Category}
use Rattle.go_grammar.specs.declared.kind.Category.TheVariants as category
use Rattle.go_grammar.specs.declared.kind.Kind.{Kind}
use Rattle.go_grammar.specs.declared.kind.Kind.TheVariants as kind
use Rattle.go_grammar.specs.declared.kind.Level.TheVariants as level
use Rattle.go_grammar.specs.declared.kind.Place.{Place}
use Rattle.go_grammar.specs.declared.kind.Place.TheVariants as place
use Rattle.go_grammar.specs.declared.kind.Sort.{Sort as Declaring}
use Rattle.go_grammar.specs.declared.kind.Sort.TheVariants as declaring
use Rattle.go_grammar.specs.Categories.{within, is_expression}
use Rattle.go_grammar.specs.Categories as categories
use Rattle.go_grammar.specs.Grammar.{rule}
use Rattle.go_grammar.specs.Rules.{Again}
use Rattle.go_grammar.specs.Trees.{Tree, node, Trees, none, more, skip, kind_of}
use Rattle.go_tokens.specs.declared.token.TokenKind.TheVariants as token
use Rattle.go_tree.specs.declared.object.Object.{Object}
use Rattle.go_tree.specs.declared.object.Object.TheVariants as object
use Rattle.go_typed.specs.declared.form.Form.TheVariants as form
use Rattle.go_typed.specs.Trees.{typed, sort_of, form_of, parts_of, list_of}
use Rattle.go_exprs_rules.specs.Names.{declared_form}
use Rattle.go_exprs_rules.specs.Scopes.{Scope, Hint, several, declares, type_place}
use Rattle.go_exprs_rules.specs.Settling.{Part}
use Rattle.go_exprs_rules.specs.Tables.{Parts, leaf, is_held, held, all_held, first_cut, is_type}
use Rattle.go_exprs_rules.specs.Typing.{typing}
use Rattle.go_stmts_defs.specs.Frames.{Frame, scope_of}
use Rattle.go_stmts_defs.specs.Laying.{behind_names, layout, typed_or_not, specifications, all_names, specified_names, is_group, header_parts, loop_header, loop_form}
use Rattle.go_stmts_defs.specs.Reading.{is_list, is_declared_name, list_node, name_node, holding, holdings, is_statement}
use Rattle.go_stmts_final_types.specs.Holes.{HolesTyped}
use Rattle.go_stmts_final_types.specs.Known.{is_object}
use Rattle.go_stmts_final_types.specs.Shapes.{IsShaped, AreShaped}
use Rattle.go_stmts_final_types.proofs.Given.{is_valued}
use Rattle.go_stmts_final_types.proofs.Headers.{Stated, IfHeaderIs, SwitchHeaderIs, LoopHeaderIs, clause, TypeIf, cut_ready, IsName}
use Rattle.go_stmts_final_types.proofs.Holders.{HeldOf, AreAll, many_all, list_row, only_held, held_are, holding_value, list_of_values, targets_held, new_names_held}
use Rattle.go_stmts_final_types.proofs.Places.{asks, typing_type}
use Rattle.go_stmts_final_types.proofs.Rows.{somes}
use Rattle.go_stmts_final_types.proofs.Statements.{Each}
use Rattle.go_stmts_final_types.proofs.Taken.{Valued, Says, IsBare}
use Rattle.go_stmts_final_types.proofs.Typing.{typing_fine}
use Rattle.clone_window.specs.Masses as masses

-- ---- parts of declarations

pub record IsNewName (x : Part) : Type 0 where
  pub bare : IsBare x
  pub name : IsName x

-- what stands behind the names of a specification of variables
pub record RestIs (x : Part) : Type 0 where
  pub type : Option Part
  pub values : List Part
  pub are : first_cut (typed_or_not (Some x)) ≡ type ∷ somes values
  pub typed : TypeIf type
  pub each : Each Valued values

pub record ElseIs (x : Part) : Type 0 where
  pub last : Part
  pub are : held (Some x) ≡ Some last ∷ []
  pub says : Says last

pub record Variables (x : Part) : Type 0 where
  pub all : List Part
  pub are : specifications (Some x ∷ []) ≡ somes all
  pub each : Each Stated all

-- the names that specifications declare
pub record Names (P : Part → Type 0) (x : Part) : Type 0 where
  pub all : List Part
  pub are : all_names (specifications (Some x ∷ [])) ≡ somes all
  pub each : Each P all

pub record OwnNames (P : Part → Type 0) (x : Part) : Type 0 where
  pub all : List Part
  pub are : specified_names (Some x) ≡ somes all
  pub each : Each P all
  pub single : is_group (form_of x) ≡ false

-- ---- by category; the kind is that of the part's tree, and the hint what it was told

abbrev pub ReadFine : Category → Kind → Hint → Part → Type 0
ReadFine (category.Expression l p) k g x = asks g ≡ true → Valued x
ReadFine (category.ExpressionList p) k g x = asks g ≡ true → HeldOf Valued x
ReadFine (category.Targets p) k g x = HeldOf Valued x
ReadFine (category.NewNames p) k g x = HeldOf IsBare x
ReadFine category.NameList k g x = HeldOf IsNewName x
ReadFine category.VariableRest k g x = g ≡ behind_names k several → RestIs x
ReadFine category.Block k g x = Stated x
ReadFine category.Branch k g x = Stated x
ReadFine category.Clause k g x = Stated x
ReadFine category.Statement k g x = Stated x
ReadFine category.Simple k g x = Stated x
ReadFine category.Post k g x = Stated x
ReadFine category.Declaration k g x = Stated x
ReadFine category.Else k g x = ElseIs x
ReadFine category.IfHeader k g x = asks g ≡ true → IfHeaderIs x
ReadFine category.SwitchHeader k g x = asks g ≡ true → SwitchHeaderIs (Some x)
ReadFine category.ForHeader k g x = asks g ≡ true → LoopHeaderIs (Some x)
ReadFine (category.DeclarationBody declaring.Variable) k g x = Variables x
ReadFine (category.DeclarationBody declaring.Constant) k g x = Names IsName x
ReadFine (category.DeclarationBody declaring.Type) k g x = Names (HolesTyped false) x
ReadFine (category.Specification declaring.Variable) k g x = Stated x × (is_group (form_of x) ≡ false)
ReadFine (category.Specification declaring.Constant) k g x = OwnNames IsName x
ReadFine (category.Specification declaring.Type) k g x = OwnNames (HolesTyped false) x
ReadFine c k g x = Unit {0}

-- ---- parts that hold no statements

pub no_both : {X : Type 0} (k : Kind) → is_expression k ≡ true → is_statement k ≡ true → X
no_both kind.Name e m = cc
no_both kind.Integer e m = cc
no_both kind.Rune e m = cc
no_both kind.Text e m = cc
no_both kind.Parenthesized e m = cc
no_both (kind.Unary o) e m = cc
no_both (kind.Binary o) e m = cc
no_both kind.Selector e m = cc
no_both kind.Bracketed e m = cc
no_both kind.Call e m = cc
no_both kind.Composite e m = cc
no_both kind.SequenceType e m = cc
no_both kind.FunctionType e m = cc
no_both kind.StructType e m = cc
no_both k e m = cc

-- an expression as a header
value_header : (x : Part) → is_held (form_of x) ≡ false → header_parts (Some x) ≡ None ∷ Some x ∷ []
value_header (typed (form.Held k) i j l ps) e = cc
value_header (typed f i j l ps) e = refl

value_loop : (x : Part) → is_held (form_of x) ≡ false → loop_header (Some x) ≡ None ∷ Some x ∷ None ∷ []
value_loop (typed (form.Held k) i j l ps) e = cc
value_loop (typed f i j l ps) e = refl

value_form : (x : Part) → is_held (form_of x) ≡ false → loop_form (Some x) ≡ form.For
value_form (typed (form.Held k) i j l ps) e = cc
value_form (typed f i j l ps) e = refl

if_value : (x : Part) → Valued x → IfHeaderIs x
if_value x v = record { first = None; value = x; are = value_header x v.sound.plain; says = tt; valued = v }

switch_value : (x : Part) → Valued x → SwitchHeaderIs (Some x)
switch_value x v = record { first = None; value = Some x; are = value_header x v.sound.plain; says = tt; valued = v }

loop_value : (x : Part) → Valued x → LoopHeaderIs (Some x)
loop_value x v = clause None (Some x) None (value_loop x v.sound.plain) (value_form x v.sound.plain) tt v tt

-- ---- names that are declared

own_name : (s : Scope) (o : Option Object) → is_object (declared_form s o) ≡ false → masses.is_expression (declared_form s o) ≡ false
own_name s None e = refl
own_name s (Some (object.Local f n)) e = refl
own_name s (Some object.Import) e = cc
own_name s (Some (object.Predeclared p)) e = cc
own_name s (Some (object.Package n)) e = cc

new_name_is : (s : Frame) (i j : ℕ) → IsNewName (name_node s i j)
new_name_is s i j = record { bare = record { alone = refl; nothing = refl }; name = record { alone = refl; own = own_name s.around (s.around.objects i) } }

declared_name_is : (s : Frame) (q : Tree) → IsShaped category.DeclaredName q → IsNewName (holding s declares q)
declared_name_is s (node kind.DeclaredName i j ps) w = new_name_is s i j
declared_name_is s (node k i j ps) w = let e = w.0 in cc

names_among : (s : Frame) (h : Hint) (all : Trees) (xs : Parts) (ps : Trees) → AreAll category.DeclaredName ps → (vs : List Part) × (holdings s kind.NameList h all xs ps ≡ xs ++ somes vs) × Each IsNewName vs
names_among s h all xs none w = ([], sym (append-nil xs), tt)
names_among s h all xs (more q ps) w =
    let x = holding s declares q in
    let r = names_among s h all (xs ++ Some x ∷ []) ps w.1 in
    (x ∷ r.0, r.1 ∙ append_assoc xs (Some x ∷ []) (somes r.0), (declared_name_is s q w.0, r.2))
names_among s h all xs (skip ps) w = elim w [ ]

name_list : (s : Frame) (g : Hint) (p : Place) (i j : ℕ) (ps : Trees) → AreShaped (rule p kind.NameList) ps → HeldOf IsNewName (holding s g (node kind.NameList i j ps))
name_list s g p i j none w = elim w [ ]
name_list s g p i j (skip ps) w = elim w [ ]
name_list s g p i j (more q ps) w =
    let r = names_among s g (more q ps) [] (more q ps) (w.0, many_all [] (Again category.DeclaredName token.Comma) ps w.1) in
    record { holder = refl; all = r.0; are = list_row (holdings s kind.NameList g (more q ps) [] (more q ps)) ∙ r.1; each = r.2 }

pub name_list_held : (s : Frame) (g : Hint) (t : Tree) → IsShaped category.NameList t → HeldOf IsNewName (holding s g t)
name_list_held s g (node kind.NameList i j ps) w = name_list s g place.Free i j ps w.1
name_list_held s g (node k i j ps) w = let e = w.0 in cc

-- ---- a type, with values or without

no_values : (x : Part) → is_held (form_of x) ≡ false → typed_or_not (Some x) ≡ Some x ∷ []
no_values (typed (form.Held k) i j l ps) e = cc
no_values (typed f i j l ps) e = refl

type_list : (k : Kind) → categories.is_type k ≡ true → is_list k ≡ false
type_list kind.NameList e = cc
type_list kind.NewNames e = cc
type_list kind.Targets e = cc
type_list kind.ExpressionList e = cc
type_list kind.TypedValues e = cc
type_list kind.Values e = cc
type_list k e = refl

type_declared : (k : Kind) → categories.is_type k ≡ true → is_declared_name k ≡ false
type_declared kind.DeclaredName e = cc
type_declared k e = refl

type_holding : (s : Frame) (k : Kind) (i j : ℕ) (ps : Trees) → categories.is_type k ≡ true → holding s type_place (node k i j ps) ≡ typing (scope_of s) type_place (node k i j ps)
type_holding s k i j ps e =
    let l = list_node s k i j (layout s k i (holdings s k type_place ps [] ps)) in
    ap (λ b. let x : Part = cond b l (cond (is_declared_name k) (name_node s i j) (typing (scope_of s) type_place (node k i j ps))) in x) (type_list k e)
    ∙ ap (λ b. let x : Part = cond b (name_node s i j) (typing (scope_of s) type_place (node k i j ps)) in x) (type_declared k e)

-- a type is no holder, and no value
pub record IsTypePart (x : Part) : Type 0 where
  pub plain : is_held (form_of x) ≡ false
  pub no_value : is_valued (sort_of x) ≡ false

type_part : (s : Frame) (t : Tree) → IsShaped category.Type t → IsTypePart (holding s type_place t)
type_part s (node k i j ps) w =
    subst IsTypePart (sym (type_holding s k i j ps w.0)) (record { plain = (typing_fine (scope_of s) type_place category.Type (node k i j ps) w).plain; no_value = typing_type (scope_of s) (node k i j ps) w })

type_rest : (x : Part) → IsTypePart x → RestIs x
type_rest x h = record {
  type = cond (is_type (sort_of x)) (Some (leaf x)) (Some x);
  values = [];
  are = ap first_cut (no_values x h.plain);
  typed = cut_ready x h.no_value (is_type (sort_of x)) refl;
  each = tt;
}

pub plain_held : (x : Part) → is_held (form_of x) ≡ false → held (Some x) ≡ Some x ∷ []
plain_held x e = ap (λ b. cond b (list_of (parts_of x)) (Some x ∷ [])) e

typed_rest : (s : Frame) (i j : ℕ) (x y : Part) → IsTypePart x → (h : HeldOf Valued y) → RestIs (list_node s kind.TypedValues i j (all_held (Some x ∷ Some y ∷ [])))
typed_rest s i j x y g h = record {
  type = cond (is_type (sort_of x)) (Some (leaf x)) (Some x);
  values = h.all;
  are = ap first_cut (list_row (all_held (Some x ∷ Some y ∷ [])) ∙ (ap (λ zs. zs ++ (held (Some y) ++ [])) (plain_held x g.plain) ∙ ap (λ zs. Some x ∷ zs) (append-nil (held (Some y)) ∙ held_are Valued y h)));
  typed = cut_ready x g.no_value (is_type (sort_of x)) refl;
  each = h.each;
}

values_rest : (s : Frame) (i j : ℕ) (y : Part) → (h : HeldOf Valued y) → RestIs (list_node s kind.Values i j (all_held (Some y ∷ [])))
values_rest s i j y h = record { type = None; values = h.all; are = ap (λ zs. None ∷ zs) (list_row (all_held (Some y ∷ [])) ∙ only_held Valued y h); typed = tt; each = h.each }

typed_values : (s : Frame) (g : Hint) (p : Place) (i j : ℕ) (ps : Trees) → asks g ≡ true → AreShaped (rule p kind.TypedValues) ps → RestIs (holding s g (node kind.TypedValues i j ps))
typed_values s g p i j none a w = elim w [ ]
typed_values s g p i j (skip ps) a w = elim w [ ]
typed_values s g p i j (more t none) a w = elim w.1 [ ]
typed_values s g p i j (more t (skip ps)) a w = elim w.1 [ ]
typed_values s g p i j (more t (more q none)) a w = typed_rest s i j (holding s type_place t) (holding s g q) (type_part s t w.0) (list_of_values s g place.Free q a w.1.0)
typed_values s g p i j (more t (more q (more r ps))) a w = elim w.1.1 [ ]
typed_values s g p i j (more t (more q (skip ps))) a w = elim w.1.1 [ ]

only_values : (s : Frame) (g : Hint) (p : Place) (i j : ℕ) (ps : Trees) → asks g ≡ true → AreShaped (rule p kind.Values) ps → RestIs (holding s g (node kind.Values i j ps))
only_values s g p i j none a w = elim w [ ]
only_values s g p i j (skip ps) a w = elim w [ ]
only_values s g p i j (more q none) a w = values_rest s i j (holding s g q) (list_of_values s g place.Free q a w.0)
only_values s g p i j (more q (more r ps)) a w = elim w.1 [ ]
only_values s g p i j (more q (skip ps)) a w = elim w.1 [ ]

rest_type : (s : Frame) (k : Kind) (i j : ℕ) (ps : Trees) → categories.is_type k ≡ true → IsShaped category.Type (node k i j ps) → RestIs (holding s type_place (node k i j ps))
rest_type s k i j ps e w = type_rest (holding s type_place (node k i j ps)) (type_part s (node k i j ps) w)

variable_rest : (s : Frame) (g : Hint) (t : Tree) → IsShaped category.VariableRest t → g ≡ behind_names (kind_of t) several → RestIs (holding s g t)
variable_rest s g (node kind.Values i j ps) w e = only_values s g place.Free i j ps (ap asks e) w.1
variable_rest s g (node kind.TypedValues i j ps) w e = typed_values s g place.Free i j ps (ap asks e) w.1
variable_rest s g (node kind.Name i j ps) w e = subst (λ z. RestIs (holding s z (node kind.Name i j ps))) (sym e) (rest_type s kind.Name i j ps refl w)
variable_rest s g (node kind.ParenthesizedType i j ps) w e = subst (λ z. RestIs (holding s z (node kind.ParenthesizedType i j ps))) (sym e) (rest_type s kind.ParenthesizedType i j ps refl w)
variable_rest s g (node kind.SequenceType i j ps) w e = subst (λ z. RestIs (holding s z (node kind.SequenceType i j ps))) (sym e) (rest_type s kind.SequenceType i j ps refl w)
variable_rest s g (node kind.FunctionType i j ps) w e = subst (λ z. RestIs (holding s z (node kind.FunctionType i j ps))) (sym e) (rest_type s kind.FunctionType i j ps refl w)
variable_rest s g (node kind.StructType i j ps) w e = subst (λ z. RestIs (holding s z (node kind.StructType i j ps))) (sym e) (rest_type s kind.StructType i j ps refl w)
variable_rest s g (node k i j ps) w e = let m = w.0 in cc

-- ---- each category

statement_kind : (k : Kind) → categories.is_statement k ≡ true → is_statement k ≡ true
statement_kind (kind.Declaration d) e = refl
statement_kind kind.Return e = refl
statement_kind kind.Break e = refl
statement_kind kind.Continue e = refl
statement_kind kind.Fallthrough e = refl
statement_kind kind.Block e = refl
statement_kind kind.If e = refl
statement_kind kind.Switch e = refl
statement_kind kind.For e = refl
statement_kind kind.ExpressionStatement e = refl
statement_kind (kind.StepStatement o) e = refl
statement_kind kind.Assignment e = refl
statement_kind (kind.OperatorAssignment o) e = refl
statement_kind kind.Define e = refl
statement_kind k e = cc

simple_kind : (k : Kind) → categories.is_simple k ≡ true → is_statement k ≡ true
simple_kind kind.ExpressionStatement e = refl
simple_kind (kind.StepStatement o) e = refl
simple_kind kind.Assignment e = refl
simple_kind (kind.OperatorAssignment o) e = refl
simple_kind kind.Define e = refl
simple_kind k e = cc

post_kind : (k : Kind) → categories.is_post k ≡ true → is_statement k ≡ true
post_kind kind.ExpressionStatement e = refl
post_kind (kind.StepStatement o) e = refl
post_kind kind.Assignment e = refl
post_kind (kind.OperatorAssignment o) e = refl
post_kind k e = cc

block_kind : (k : Kind) → IsTrue (within category.Block k) → is_statement k ≡ true
block_kind kind.Block e = refl
block_kind k e = cc

branch_kind : (k : Kind) → IsTrue (within category.Branch k) → is_statement k ≡ true
branch_kind kind.If e = refl
branch_kind kind.Block e = refl
branch_kind k e = cc

clause_kind : (k : Kind) → IsTrue (within category.Clause k) → is_statement k ≡ true
clause_kind kind.Case e = refl
clause_kind kind.Default e = refl
clause_kind k e = cc

declaration_kind : (k : Kind) → IsTrue (within category.Declaration k) → is_statement k ≡ true
declaration_kind (kind.Declaration d) e = refl
declaration_kind kind.FunctionDeclaration e = refl
declaration_kind k e = cc

else_kind : (k : Kind) → IsTrue (within category.Else k) → is_statement k ≡ true
else_kind kind.Else e = refl
else_kind k e = cc

body_kind : (d : Declaring) (k : Kind) → IsTrue (within (category.DeclarationBody d) k) → is_statement k ≡ true
body_kind d (kind.Specification t) e = refl
body_kind d (kind.Group t) e = refl
body_kind d k e = cc

specification_kind : (d : Declaring) (k : Kind) → IsTrue (within (category.Specification d) k) → is_statement k ≡ true
specification_kind d (kind.Specification t) e = refl
specification_kind d k e = cc

never : {X : Type 0} (b : Bool) → b ≡ true → b ≡ false → X
never true e f = cc
never false e f = cc

if_header : (s : Frame) (g : Hint) (k : Kind) (i j : ℕ) (ps : Trees) → IsShaped category.IfHeader (node k i j ps) → is_statement k ≡ false → asks g ≡ true → IfHeaderIs (holding s g (node k i j ps))
if_header s g kind.LateCondition i j ps w n a = cc
if_header s g kind.InitializedCondition i j ps w n a = cc
if_header s g k i j ps w n a = if_value (holding s g (node k i j ps)) (holding_value s g level.Either place.Header (node k i j ps) (w.0, w.1, w.2) a)

switch_header : (s : Frame) (g : Hint) (k : Kind) (i j : ℕ) (ps : Trees) → IsShaped category.SwitchHeader (node k i j ps) → is_statement k ≡ false → asks g ≡ true → SwitchHeaderIs (Some (holding s g (node k i j ps)))
switch_header s g kind.LateTag i j ps w n a = cc
switch_header s g kind.InitializedTag i j ps w n a = cc
switch_header s g k i j ps w n a = switch_value (holding s g (node k i j ps)) (holding_value s g level.Either place.Header (node k i j ps) (w.0, w.1, w.2) a)

for_header : (s : Frame) (g : Hint) (k : Kind) (i j : ℕ) (ps : Trees) → IsShaped category.ForHeader (node k i j ps) → is_statement k ≡ false → asks g ≡ true → LoopHeaderIs (Some (holding s g (node k i j ps)))
for_header s g kind.ForClause i j ps w n a = cc
for_header s g kind.InitializedForClause i j ps w n a = cc
for_header s g kind.Range i j ps w n a = cc
for_header s g kind.AssigningRange i j ps w n a = cc
for_header s g kind.DefiningRange i j ps w n a = cc
for_header s g k i j ps w n a = loop_value (holding s g (node k i j ps)) (holding_value s g level.Either place.Header (node k i j ps) (w.0, w.1, w.2) a)

pub plain_read : (s : Frame) (g : Hint) (c : Category) (k : Kind) (i j : ℕ) (ps : Trees) → IsShaped c (node k i j ps) → is_statement k ≡ false → ReadFine c k g (holding s g (node k i j ps))
plain_read s g (category.Expression l p) k i j ps w n = λ a. holding_value s g l p (node k i j ps) w a
plain_read s g (category.ExpressionList p) k i j ps w n = λ a. list_of_values s g p (node k i j ps) a w
plain_read s g (category.Targets p) k i j ps w n = targets_held s g p (node k i j ps) w
plain_read s g (category.NewNames p) k i j ps w n = new_names_held s g p (node k i j ps) w
plain_read s g category.NameList k i j ps w n = name_list_held s g (node k i j ps) w
plain_read s g category.VariableRest k i j ps w n = λ e. variable_rest s g (node k i j ps) w e
plain_read s g category.Block k i j ps w n = never (is_statement k) (block_kind k w.0) n
plain_read s g category.Branch k i j ps w n = never (is_statement k) (branch_kind k w.0) n
plain_read s g category.Clause k i j ps w n = never (is_statement k) (clause_kind k w.0) n
plain_read s g category.Statement k i j ps w n = never (is_statement k) (statement_kind k w.0) n
plain_read s g category.Simple k i j ps w n = never (is_statement k) (simple_kind k w.0) n
plain_read s g category.Post k i j ps w n = never (is_statement k) (post_kind k w.0) n
plain_read s g category.Declaration k i j ps w n = never (is_statement k) (declaration_kind k w.0) n
plain_read s g category.Else k i j ps w n = never (is_statement k) (else_kind k w.0) n
plain_read s g category.IfHeader k i j ps w n = λ a. if_header s g k i j ps w n a
plain_read s g category.SwitchHeader k i j ps w n = λ a. switch_header s g k i j ps w n a
plain_read s g category.ForHeader k i j ps w n = λ a. for_header s g k i j ps w n a
plain_read s g (category.DeclarationBody declaring.Variable) k i j ps w n = never (is_statement k) (body_kind declaring.Variable k w.0) n
plain_read s g (category.DeclarationBody declaring.Constant) k i j ps w n = never (is_statement k) (body_kind declaring.Constant k w.0) n
plain_read s g (category.DeclarationBody declaring.Type) k i j ps w n = never (is_statement k) (body_kind declaring.Type k w.0) n
plain_read s g (category.Specification declaring.Variable) k i j ps w n = never (is_statement k) (specification_kind declaring.Variable k w.0) n
plain_read s g (category.Specification declaring.Constant) k i j ps w n = never (is_statement k) (specification_kind declaring.Constant k w.0) n
plain_read s g (category.Specification declaring.Type) k i j ps w n = never (is_statement k) (specification_kind declaring.Type k w.0) n
plain_read s g c k i j ps w n = tt
