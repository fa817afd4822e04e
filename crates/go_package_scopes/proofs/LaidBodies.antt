-- The nodes of a typed body lie as those of its tree do: statements, loops and functions.
use Rattle.std.proofs.Common.{◌≡◌, ◌∙◌, ℕ, suc, ◌<◌, ◌≤◌, ◌⊎◌, inl, inr, Bool, true, false, List, [], ◌∷◌, ◌++◌, length, Option, Some, None, refl, sym, subst, ap, arith}
use Rattle.std.specs.Prelude.{if◌then◌else◌, ◌-◌}
use Rattle.go_grammar.specs.declared.kind.Kind.{Kind}
use Rattle.go_grammar.specs.declared.kind.Kind.TheVariants as kind
use Rattle.go_grammar.specs.declared.kind.Sort.TheVariants as declaring
use Rattle.go_grammar.specs.Categories.{is_expression}
use Rattle.go_grammar.specs.Trees.{Tree, node, Trees, kind_of, first, last}
use Rattle.go_grammar.specs.Trees as syntax
use Rattle.go_tree.specs.Views.{Tiles}
use Rattle.go_tree.specs.declared.context.Scope.{Scope as Extent}
use Rattle.go_tree.specs.declared.object.Object.{Object}
use Rattle.go_tree.specs.declared.object.Object.TheVariants as object
use Rattle.go_types.specs.Trees.{TypeTree}
use Rattle.go_types.specs.Relations.{Rights}
use Rattle.go_typed.specs.declared.form.Form.{Form}
use Rattle.go_typed.specs.declared.form.Form.TheVariants as form
use Rattle.go_typed.specs.Trees.{Label, typed, Typeds, row, list_of, first_of, last_of, form_of, sort_of, parts_of}
use Rattle.go_typed.specs.Trees as trees
use Rattle.go_exprs_rules.specs.declared.fault.TypeFault.{TypeFault}
use Rattle.go_exprs_rules.specs.Names.{object_form, declared_form, form_or_type, name_form, name_sort}
use Rattle.go_exprs_rules.specs.Scopes.{Scope, Hint, declares, free}
use Rattle.go_exprs_rules.specs.Settling.{Part}
use Rattle.go_exprs_rules.specs.Sorts.{Stands}
use Rattle.go_exprs_rules.specs.Tables.{Parts, behind_first, held, all_held, is_held, label, callee_form, selector_form, bracketed_form, on_first, is_sound}
use Rattle.go_exprs_rules.specs.Tables as expressions
use Rattle.go_exprs_rules.specs.Typing.{typing, typings}
use Rattle.go_stmts_defs.specs.Assigning.{Taking}
use Rattle.go_stmts_defs.specs.Frames.{Frame, scope_of}
use Rattle.go_stmts_defs.specs.Laying.{told, layout, form_by, loop_form, loop_header, for_parts, target_count, without_absent}
use Rattle.go_stmts_defs.specs.Reading.{Found, is_statement, holding, held_faults, entering, beginning, Reading, read, Readings, all_read, left_out, left_out_faults, closed, reading, readings}
use Rattle.go_stmts_defs.specs.Rules.{own_faults, all_given, taking, built_by}
use Rattle.go_stmts_scopes.specs.Standing.{behind_part, room_in}
use Rattle.go_stmts_scopes.specs.Statements.{tree_in}
use Rattle.go_package_scopes.specs.Laid.{is_shut, Laid, AllLaid}
use Rattle.go_package_scopes.proofs.Laid.{exact, unless_there, EachLaid, each_wider, append_laid, one_laid, row_laid, wider, ends}
use Rattle.go_package_scopes.proofs.LaidTypings.{Quiet, typing_laid}
use Rattle.go_package_scopes.proofs.LaidReadings.{faults_in, frame_in, parts_in, after_read, behind_given, form_room, form_names, is_told, layout_laid, inner_laid, loop_header_laid, holding_laid, all_given_laid}
use Rattle.go_package_scopes.proofs.Ranges.{Set, AllSet}
use Rattle.go_package_scopes.proofs.Roomed.{is_ranging, is_apart, is_silent, is_loop, is_clause, behind, block, room_at, Choice}
use Rattle.go_package_scopes.proofs.Roomed.{chosen_true, chosen_false, EndsInOperand, Roomed, AllRoomed, LoopRoomed, HeaderRoomed, each_lower, any_block, behind_first_parts}

-- what holds of both
pub one_reading : (P : Reading → Type 0) (b : Bool) (x y : Reading) → (b ≡ true → P x) → (b ≡ false → P y) → P (if b then x else y)
one_reading P true x y f g = f refl
one_reading P false x y f g = g refl

pub chosen : (P : Type 0) (b : Bool) (A B : Type 0) → (b ≡ true → A → P) → (b ≡ false → B → P) → Choice b A B → P
chosen P true A B f g h = f refl h
chosen P false A B f g h = g refl h

-- ---- kinds

told_kind : (k : Kind) → is_silent k ≡ false → is_apart k ≡ false → is_told k ≡ true
told_kind (kind.Specification declaring.Constant) e a = absurd (let z : true ≡ false = a in cc)
told_kind (kind.Specification declaring.Type) e a = absurd (let z : true ≡ false = a in cc)
told_kind (kind.Specification declaring.Variable) e a = refl
told_kind (kind.Declaration declaring.Constant) e a = absurd (let z : true ≡ false = e in cc)
told_kind (kind.Declaration declaring.Type) e a = absurd (let z : true ≡ false = e in cc)
told_kind (kind.Declaration declaring.Variable) e a = refl
told_kind kind.FunctionDeclaration e a = absurd (let z : true ≡ false = a in cc)
told_kind k e a = refl

pub none_left : (s : Frame) (k : Kind) → is_told k ≡ true → left_out s k ≡ None
none_left s (kind.Specification declaring.Constant) e = absurd (let z : false ≡ true = e in cc)
none_left s (kind.Specification declaring.Type) e = refl
none_left s (kind.Specification declaring.Variable) e = refl
none_left s k e = refl

pub loop_is : (k : Kind) → is_loop k ≡ true → k ≡ kind.For
loop_is kind.For e = refl
loop_is k e = absurd (let z : false ≡ true = e in cc)

-- range clauses, which hold their parts for the loop
abbrev pub is_range_form : Form → Bool
is_range_form (form.Held k) = is_ranging k
is_range_form f = false

loop_plain : (x : Part) → is_range_form (form_of x) ≡ false → loop_form (Some x) ≡ form.For
loop_plain (typed (form.Held kind.Range) i j l ps) e = absurd (let z : true ≡ false = e in cc)
loop_plain (typed (form.Held kind.AssigningRange) i j l ps) e = absurd (let z : true ≡ false = e in cc)
loop_plain (typed (form.Held kind.DefiningRange) i j l ps) e = absurd (let z : true ≡ false = e in cc)
loop_plain x e = refl

-- ---- rows

list_row : (xs : Parts) → list_of (row xs) ≡ xs
list_row [] = refl
list_row (None ∷ xs) = ap (λ ys. None ∷ ys) (list_row xs)
list_row (Some x ∷ xs) = ap (λ ys. Some x ∷ ys) (list_row xs)

length_given : (ks : List Taking) (ys : Parts) → length (all_given ks ys) ≡ length ys
length_given [] ys = refl
length_given (k ∷ ks) [] = refl
length_given (k ∷ ks) (None ∷ ys) = ap (λ n. suc n) (length_given ks ys)
length_given (k ∷ ks) (Some y ∷ ys) = ap (λ n. suc n) (length_given ks ys)

-- the last one is there, and holds no parts for the node above it
abbrev EndsUnheld : Parts → Type 0
EndsUnheld [] = ⊥
EndsUnheld (None ∷ []) = ⊥
EndsUnheld (Some x ∷ []) = is_held (form_of x) ≡ false
EndsUnheld (x ∷ y ∷ xs) = EndsUnheld (y ∷ xs)

ends_append : (xs : Parts) (x : Part) → is_held (form_of x) ≡ false → EndsUnheld (xs ++ Some x ∷ [])
ends_append [] x e = e
ends_append (y ∷ []) x e = e
ends_append (y ∷ z ∷ xs) x e = ends_append (z ∷ xs) x e

some_there : (xs : Parts) → EndsUnheld xs → 0 < length xs
some_there [] e = absurd e
some_there (x ∷ xs) e = omega arith

some_behind : (xs ys : Parts) → 0 < length ys → 0 < length (xs ++ ys)
some_behind [] ys u = u
some_behind (x ∷ xs) ys u = omega arith

some_held : (xs : Parts) → EndsUnheld xs → 0 < length (all_held xs)
some_held [] e = absurd e
some_held (None ∷ []) e = absurd e
some_held (Some x ∷ []) e = subst (λ (ys : Parts). 0 < length (ys ++ [])) (sym (one x e)) (let u : 0 < 1 = omega arith in u)
  where
    one : (x : Part) → is_held (form_of x) ≡ false → held (Some x) ≡ Some x ∷ []
    one x e = ap (λ b. if b then list_of (parts_of x) else Some x ∷ []) e
some_held (x ∷ y ∷ xs) e = some_behind (held x) (all_held (y ∷ xs)) (some_held (y ∷ xs) e)

some_laid : (s : Frame) (k : Kind) (i : ℕ) (xs : Parts) → is_ranging k ≡ true → EndsUnheld xs → 0 < length (layout s k i xs)
some_laid s kind.Range i xs e u = some_there xs u
some_laid s kind.AssigningRange i xs e u = some_held xs u
some_laid s kind.DefiningRange i xs e u = some_held xs u
some_laid s k i xs e u = absurd (let z : false ≡ true = e in cc)

-- ---- an expression that is read

object_unheld : (s : Scope) (x : Option Object) → is_held (object_form s x) ≡ false
object_unheld s None = refl
object_unheld s (Some object.Import) = refl
object_unheld s (Some (object.Predeclared p)) = refl
object_unheld s (Some (object.Package n)) = refl
object_unheld s (Some (object.Local f n)) = refl

declared_unheld : (s : Scope) (x : Option Object) → is_held (declared_form s x) ≡ false
declared_unheld s None = refl
declared_unheld s (Some object.Import) = refl
declared_unheld s (Some (object.Predeclared p)) = refl
declared_unheld s (Some (object.Package n)) = refl
declared_unheld s (Some (object.Local f n)) = refl

type_unheld : (x : Stands) (f : Form) → is_held f ≡ false → is_held (form_or_type x f) ≡ false
type_unheld (trees.IsType t) f e = refl
type_unheld x f e = e

name_unheld : (s : Scope) (h : Hint) (i : ℕ) → is_held (name_form s h i) ≡ false
name_unheld s declares i = declared_unheld s (s.objects i)
name_unheld s free i = declared_unheld s (s.objects i)
name_unheld s h i = type_unheld (name_sort s h i) (object_form s (s.objects i)) (object_unheld s (s.objects i))

selector_unheld : (rights : Rights) (name : List ℕ) (ys : Parts) → is_held (selector_form rights name ys) ≡ false
selector_unheld rights name [] = refl
selector_unheld rights name (Some x ∷ []) = refl
selector_unheld rights name (None ∷ xs) = refl
selector_unheld rights name (Some x ∷ y ∷ xs) = refl

bracketed_unheld : (ys : Parts) → is_held (bracketed_form ys) ≡ false
bracketed_unheld [] = refl
bracketed_unheld (x ∷ []) = refl
bracketed_unheld (x ∷ y ∷ []) = refl
bracketed_unheld (x ∷ y ∷ z ∷ xs) = refl

callee_unheld : (x : Stands) → is_held (callee_form x) ≡ false
callee_unheld (trees.IsType t) = refl
callee_unheld x = refl

call_unheld : (ys : Parts) → is_held (on_first form.Call (λ f xs. callee_form (sort_of f)) ys) ≡ false
call_unheld [] = refl
call_unheld (None ∷ xs) = refl
call_unheld (Some x ∷ xs) = callee_unheld (sort_of x)

form_unheld : (s : Scope) (k : Kind) (h : Hint) (i j : ℕ) (ys : Parts) → is_expression k ≡ true → is_held (expressions.form_by s k h i j ys) ≡ false
form_unheld s kind.Name h i j ys e = name_unheld s h i
form_unheld s kind.Integer h i j ys e = refl
form_unheld s kind.Rune h i j ys e = refl
form_unheld s kind.Text h i j ys e = refl
form_unheld s kind.Parenthesized h i j ys e = refl
form_unheld s (kind.Unary o) h i j ys e = refl
form_unheld s (kind.Binary o) h i j ys e = refl
form_unheld s kind.Selector h i j ys e = selector_unheld s.rights (s.texts (j - 1)) ys
form_unheld s kind.Bracketed h i j ys e = bracketed_unheld ys
form_unheld s kind.Call h i j ys e = call_unheld ys
form_unheld s kind.Composite h i j ys e = refl
form_unheld s kind.SequenceType h i j ys e = refl
form_unheld s kind.FunctionType h i j ys e = refl
form_unheld s kind.StructType h i j ys e = refl
form_unheld s k h i j ys e = absurd (let z : false ≡ true = e in cc)

typing_unheld : (s : Scope) (h : Hint) (k : Kind) (i j : ℕ) (ps : Trees) → is_expression k ≡ true → is_held (form_of (typing s h (node k i j ps))) ≡ false
typing_unheld s h k i j ps e =
    let ys : Parts = expressions.layout k (typings s k h ps [] ps) in by ys (is_sound k ys (expressions.own_faults s k h i j ys))
  where
    by : (ys : Parts) (b : Bool) → is_held (form_of (expressions.built_by s k h i j ys b)) ≡ false
    by ys true = form_unheld s k h i j ys e
    by ys false = form_unheld s k h i j ys e

pub operand_is : (s : Frame) (h : Hint) (k : Kind) (i j : ℕ) (ps : Trees) → is_expression k ≡ true → tree_in (reading s h (node k i j ps)) ≡ typing (scope_of s) h (node k i j ps)
operand_is s h kind.Name i j ps e = refl
operand_is s h kind.Integer i j ps e = refl
operand_is s h kind.Rune i j ps e = refl
operand_is s h kind.Text i j ps e = refl
operand_is s h kind.Parenthesized i j ps e = refl
operand_is s h (kind.Unary o) i j ps e = refl
operand_is s h (kind.Binary o) i j ps e = refl
operand_is s h kind.Selector i j ps e = refl
operand_is s h kind.Bracketed i j ps e = refl
operand_is s h kind.Call i j ps e = refl
operand_is s h kind.Composite i j ps e = refl
operand_is s h kind.SequenceType i j ps e = refl
operand_is s h kind.FunctionType i j ps e = refl
operand_is s h kind.StructType i j ps e = refl
operand_is s h k i j ps e = absurd (let z : false ≡ true = e in cc)

pub operand_unheld : (s : Frame) (h : Hint) (k : Kind) (i j : ℕ) (ps : Trees) → is_expression k ≡ true → is_held (form_of (tree_in (reading s h (node k i j ps)))) ≡ false
operand_unheld s h k i j ps e = subst (λ x. is_held (form_of x) ≡ false) (sym (operand_is s h k i j ps e)) (typing_unheld (scope_of s) h k i j ps e)

unranged : (f : Form) → is_held f ≡ false → is_range_form f ≡ false
unranged (form.Held k) e = absurd (let z : true ≡ false = e in cc)
unranged f e = refl

module _ (D : Extent → ℕ → Type 0) (mono : (r s : Extent) (n : ℕ) → s.from ≤ r.from → r.to ≤ s.to → D r n → D s n) where
  -- ---- a node over its parts

  node_by : (r : Extent) (k : Kind) (xs : Parts) (i j : ℕ) (l : Label TypeTree) (ps : Typeds TypeTree) → is_loop k ≡ false → i < j → AllLaid D (room_at r k i j) i j ps → Laid D r i j (typed (form_by k xs) i j l ps)
  node_by r k xs i j l ps e u h = (
    omega arith,
    u,
    omega arith,
    form_names D r k i xs,
    unless_there (is_shut (form_by k xs)) (AllLaid D (room_in r (form_by k xs) i j ps) i j ps) (subst (λ z. AllLaid D z i j ps) (sym (form_room r k xs i j ps e)) h),
  )

  built_node : (r : Extent) (s : Frame) (k : Kind) (i j : ℕ) (xs : Parts) (own : List TypeFault) → is_told k ≡ true → is_loop k ≡ false → i < j → EachLaid D (room_at r k i j) i j xs
      → Laid D r i j (built_by s k (form_by k xs) i j (layout s k i xs) own)
  built_node r s k i j xs [] t e u h =
      let f : Form = form_by k xs in
      let ys : Parts = layout s k i xs in
      let zs : Parts = all_given (taking s k f ys) ys in
      node_by r k xs i j (label f trees.Nothing ys) (row zs) e u (row_laid D (room_at r k i j) i j zs (all_given_laid D (room_at r k i j) i j (taking s k f ys) ys (layout_laid D (room_at r k i j) s k i i j xs t h)))
  built_node r s k i j xs (x ∷ own) t e u h =
      let f : Form = form_by k xs in
      let ys : Parts = layout s k i xs in
      node_by r k xs i j (label f trees.Nothing ys) (row ys) e u (row_laid D (room_at r k i j) i j ys (layout_laid D (room_at r k i j) s k i i j xs t h))

  closed_node : (r : Extent) (s : Frame) (k : Kind) (i j : ℕ) (ps : Trees) (rs : Readings) → is_told k ≡ true → is_loop k ≡ false → i < j → EachLaid D (room_at r k i j) i j (parts_in rs)
      → Laid D r i j (tree_in (closed s k i j ps rs))
  closed_node r s k i j ps (all_read xs fs t) w e u h = built_node r t k i j xs (own_faults t k (form_by k xs) i j (layout t k i xs)) w e u h

  -- ---- declarations of constants and types

  silent_built : (r : Extent) (s : Frame) (k : Kind) (f : Form) (i j : ℕ) (ys : Parts) (own : List TypeFault) → is_shut f ≡ true → (f ≡ form.Constants) ⊎ (f ≡ form.TypeNames) → i < j → Laid D r i j (built_by s k f i j ys own)
  silent_built r s k f i j ys [] e (inl c) u = subst (λ g. Laid D r i j (typed g i j (label f trees.Nothing ys) (row (all_given (taking s k f ys) ys)))) (sym c) (omega arith, u, omega arith, tt, tt)
  silent_built r s k f i j ys [] e (inr c) u = subst (λ g. Laid D r i j (typed g i j (label f trees.Nothing ys) (row (all_given (taking s k f ys) ys)))) (sym c) (omega arith, u, omega arith, tt, tt)
  silent_built r s k f i j ys (x ∷ own) e (inl c) u = subst (λ g. Laid D r i j (typed g i j (label f trees.Nothing ys) (row ys))) (sym c) (omega arith, u, omega arith, tt, tt)
  silent_built r s k f i j ys (x ∷ own) e (inr c) u = subst (λ g. Laid D r i j (typed g i j (label f trees.Nothing ys) (row ys))) (sym c) (omega arith, u, omega arith, tt, tt)

  closed_silent : (r : Extent) (s : Frame) (k : Kind) (i j : ℕ) (ps : Trees) (rs : Readings) → is_silent k ≡ true → i < j → Laid D r i j (tree_in (closed s k i j ps rs))
  closed_silent r s (kind.Declaration declaring.Constant) i j ps (all_read xs fs t) e u =
      let k : Kind = kind.Declaration declaring.Constant in silent_built r t k form.Constants i j (layout t k i xs) (own_faults t k form.Constants i j (layout t k i xs)) refl (inl refl) u
  closed_silent r s (kind.Declaration declaring.Type) i j ps (all_read xs fs t) e u =
      let k : Kind = kind.Declaration declaring.Type in silent_built r t k form.TypeNames i j (layout t k i xs) (own_faults t k form.TypeNames i j (layout t k i xs)) refl (inr refl) u
  closed_silent r s k i j ps rs e u = absurd (let z : false ≡ true = e in cc)

  -- ---- loops

  -- the header of a loop, whose room is r
  abbrev HeaderLaid : Extent → ℕ → Part → Type 0
  HeaderLaid r a x =
      ((is_range_form (form_of x) ≡ true) × Laid D (behind (last_of x) r) a (last_of x) x × (0 < length (list_of (parts_of x)))) ⊎ ((is_range_form (form_of x) ≡ false) × Laid D r a (last_of x) x)

  range_parts : (r : Extent) (d : Bool) (n i j e : ℕ) (l : Label TypeTree) (zs : Parts) → i < j → EachLaid D (record { from = e; to = j }) i j zs → behind_part n (row zs) ≤ e → Laid D r i j (typed (form.Range d n) i j l (row zs))
  range_parts r d n i j e l zs u h w =
      let room : Extent = record { from = behind_part n (row zs); to = j } in
      let v : j ≤ j = omega arith in
      (omega arith, u, omega arith, tt, row_laid D room i j zs (each_lower D mono (record { from = e; to = j }) room i j zs w v h))

  range_built : (r : Extent) (s : Frame) (d : Bool) (n i j e : ℕ) (ys : Parts) (own : List TypeFault) → i < j → EachLaid D (record { from = e; to = j }) i j ys → behind_part n (row ys) ≤ e
      → Laid D r i j (built_by s kind.For (form.Range d n) i j ys own)
  range_built r s d n i j e ys [] u h w =
      let f : Form = form.Range d n in
      let ks : List Taking = taking s kind.For f ys in
      range_parts r d n i j e (label f trees.Nothing ys) (all_given ks ys) u (all_given_laid D (record { from = e; to = j }) i j ks ys h) (subst (λ m. m ≤ e) (sym (behind_given n ks ys)) w)
  range_built r s d n i j e ys (x ∷ own) u h w = range_parts r d n i j e (label (form.Range d n) trees.Nothing ys) ys u h w

  -- the parts of a range clause, and the block
  range_row : (i j a e : ℕ) (k : Kind) (l : Label TypeTree) (ps : Typeds TypeTree) (b : Part) → Laid D (record { from = e; to = j }) i e (typed (form.Held k) a e l ps) → form_of b ≡ form.Block → Laid D (block i j) e j b
      → EachLaid D (record { from = e; to = j }) i j (list_of ps ++ Some b ∷ [])
  range_row i j a e k l ps b h f g =
      let room : Extent = record { from = e; to = j } in
      append_laid D room i e j (list_of ps) (Some b ∷ []) (inner_laid D room i e k a e l ps h) (one_laid D room e j b (any_block D (block i j) room e j b f g))

  range_behind : (n i j a e : ℕ) (k : Kind) (l : Label TypeTree) (ps : Typeds TypeTree) (b : Part) → n < length (list_of ps) → Laid D (record { from = e; to = j }) i e (typed (form.Held k) a e l ps)
      → behind_part n (row (list_of ps ++ Some b ∷ [])) ≤ e
  range_behind n i j a e k l ps b u h = let room : Extent = record { from = e; to = j } in behind_first_parts D room i e n (list_of ps) (Some b ∷ []) u (inner_laid D room i e k a e l ps h)

  less_one : (n : ℕ) → 0 < n → n - 1 < n
  less_one n u = omega (arith, u)

  ranging_built : (r : Extent) (s : Frame) (i j : ℕ) (x b : Part) (own : List TypeFault) → i < j → is_range_form (form_of x) ≡ true → Laid D (behind (last_of x) (block i j)) i (last_of x) x → 0 < length (list_of (parts_of x))
      → form_of b ≡ form.Block → Laid D (block i j) (last_of x) j b → Laid D r i j (built_by s kind.For (loop_form (Some x)) i j (for_parts (Some x ∷ Some b ∷ [])) own)
  ranging_built r s i j (typed (form.Held kind.Range) a e l ps) b own u c h n f g =
      range_built r s false 0 i j e (list_of ps ++ Some b ∷ []) own u (range_row i j a e kind.Range l ps b h f g) (range_behind 0 i j a e kind.Range l ps b n h)
  ranging_built r s i j (typed (form.Held kind.AssigningRange) a e l ps) b own u c h n f g =
      range_built r s false (target_count ps) i j e (list_of ps ++ Some b ∷ []) own u (range_row i j a e kind.AssigningRange l ps b h f g)
      (range_behind (target_count ps) i j a e kind.AssigningRange l ps b (less_one (length (list_of ps)) n) h)
  ranging_built r s i j (typed (form.Held kind.DefiningRange) a e l ps) b own u c h n f g =
      range_built r s true (target_count ps) i j e (list_of ps ++ Some b ∷ []) own u (range_row i j a e kind.DefiningRange l ps b h f g) (range_behind (target_count ps) i j a e kind.DefiningRange l ps b (less_one (length (list_of ps)) n) h)
  ranging_built r s i j x b own u c h n f g = absurd (let z : false ≡ true = c in cc)

  plain_built : (r : Extent) (s : Frame) (f : Form) (i j : ℕ) (ys : Parts) (own : List TypeFault) → f ≡ form.For → i < j → EachLaid D (block i j) i j ys → Laid D r i j (built_by s kind.For f i j ys own)
  plain_built r s f i j ys [] e u h =
      let ks : List Taking = taking s kind.For f ys in
      subst (λ g. Laid D r i j (typed g i j (label f trees.Nothing ys) (row (all_given ks ys)))) (sym e) (omega arith, u, omega arith, tt, row_laid D (block i j) i j (all_given ks ys) (all_given_laid D (block i j) i j ks ys h))
  plain_built r s f i j ys (x ∷ own) e u h = subst (λ g. Laid D r i j (typed g i j (label f trees.Nothing ys) (row ys))) (sym e) (omega arith, u, omega arith, tt, row_laid D (block i j) i j ys h)

  header_built : (r : Extent) (s : Frame) (i j : ℕ) (x b : Part) (own : List TypeFault) → i < j → HeaderLaid (block i j) i x → form_of b ≡ form.Block → Laid D (block i j) (last_of x) j b
      → Laid D r i j (built_by s kind.For (loop_form (Some x)) i j (for_parts (Some x ∷ Some b ∷ [])) own)
  header_built r s i j x b own u (inl h) f g = ranging_built r s i j x b own u h.0 h.1 h.2 f g
  header_built r s i j x b own u (inr h) f g =
      plain_built r s (loop_form (Some x)) i j (for_parts (Some x ∷ Some b ∷ [])) own (loop_plain x h.0) u
      (append_laid D (block i j) i (last_of x) j (loop_header (Some x)) (Some b ∷ []) (loop_header_laid D (block i j) i (last_of x) (Some x) (one_laid D (block i j) i (last_of x) x h.1)) (one_laid D (block i j) (last_of x) j b g))

  abbrev LoopLaid : (i j : ℕ) → Parts → Type 0
  LoopLaid i j (None ∷ Some b ∷ []) = Laid D (block i j) i j b
  LoopLaid i j (Some x ∷ Some b ∷ []) = HeaderLaid (block i j) i x × (form_of b ≡ form.Block) × Laid D (block i j) (last_of x) j b
  LoopLaid i j xs = ⊥

  loop_built : (r : Extent) (s : Frame) (i j : ℕ) (xs : Parts) (own : List TypeFault) → i < j → LoopLaid i j xs → Laid D r i j (built_by s kind.For (form_by kind.For xs) i j (layout s kind.For i xs) own)
  loop_built r s i j [] own u h = absurd h
  loop_built r s i j (x ∷ []) own u h = absurd (lone x h)
    where
      lone : (x : Option Part) → LoopLaid i j (x ∷ []) → ⊥
      lone None h = h
      lone (Some x) h = h
  loop_built r s i j (None ∷ None ∷ xs) own u h = absurd h
  loop_built r s i j (Some x ∷ None ∷ xs) own u h = absurd h
  loop_built r s i j (None ∷ Some b ∷ []) own u h = plain_built r s form.For i j (None ∷ None ∷ None ∷ Some b ∷ []) own refl u (one_laid D (block i j) i j b h)
  loop_built r s i j (Some x ∷ Some b ∷ []) own u h = header_built r s i j x b own u h.0 h.1 h.2
  loop_built r s i j (None ∷ Some b ∷ y ∷ ys) own u h = absurd h
  loop_built r s i j (Some x ∷ Some b ∷ y ∷ ys) own u h = absurd h

  closed_loop : (r : Extent) (s : Frame) (i j : ℕ) (ps : Trees) (rs : Readings) → i < j → LoopLaid i j (parts_in rs) → Laid D r i j (tree_in (closed s kind.For i j ps rs))
  closed_loop r s i j ps (all_read xs fs t) u h = loop_built r t i j xs (own_faults t kind.For (form_by kind.For xs) i j (layout t kind.For i xs)) u h

  header_wider : (r : Extent) (a c : ℕ) (x : Part) → c ≤ a → HeaderLaid r a x → HeaderLaid r c x
  header_wider r a c x u (inl h) = inl (h.0, wider D (behind (last_of x) r) a (last_of x) c (last_of x) x u (omega arith) h.1, h.2)
  header_wider r a c x u (inr h) = inr (h.0, wider D r a (last_of x) c (last_of x) x u (omega arith) h.1)

  range_header : (r : Extent) (s : Frame) (k : Kind) (i j : ℕ) (ys : Parts) (own : List TypeFault) → is_ranging k ≡ true → Laid D (behind j r) i j (built_by s k (form.Held k) i j ys own) → 0 < length ys
      → HeaderLaid r i (built_by s k (form.Held k) i j ys own)
  range_header r s k i j ys [] e h u =
      let zs : Parts = all_given (taking s k (form.Held k) ys) ys in
      inl (e, h, subst (λ n. 0 < n) (sym (ap (λ (ws : Parts). length ws) (list_row zs) ∙ length_given (taking s k (form.Held k) ys) ys)) u)
  range_header r s k i j ys (x ∷ own) e h u = inl (e, h, subst (λ (ws : Parts). 0 < length ws) (sym (list_row ys)) u)

  range_ends : (s : Frame) (k : Kind) (f : Form) (i j : ℕ) (ys : Parts) (own : List TypeFault) → last_of (built_by s k f i j ys own) ≤ j
  range_ends s k f i j ys [] = omega arith
  range_ends s k f i j ys (x ∷ own) = omega arith

  -- what is known of a header that was read
  abbrev HeaderRead : Extent → (i j : ℕ) → Part → Type 0
  HeaderRead r i j x = HeaderLaid r i x × (last_of x ≤ j)

  closed_range : (r : Extent) (s : Frame) (k : Kind) (i j : ℕ) (ps : Trees) (rs : Readings) → is_ranging k ≡ true → i < j → EachLaid D (behind j r) i j (parts_in rs) → EndsUnheld (parts_in rs)
      → HeaderRead r i j (tree_in (closed s k i j ps rs))
  closed_range r s kind.Range i j ps (all_read xs fs t) e u h w =
      let own : List TypeFault = own_faults t kind.Range (form.Held kind.Range) i j (layout t kind.Range i xs) in (
        range_header r t kind.Range i j (layout t kind.Range i xs) own refl (built_node (behind j r) t kind.Range i j xs own refl refl u h) (some_laid t kind.Range i xs refl w),
        range_ends t kind.Range (form.Held kind.Range) i j (layout t kind.Range i xs) own,
      )
  closed_range r s kind.AssigningRange i j ps (all_read xs fs t) e u h w =
      let own : List TypeFault = own_faults t kind.AssigningRange (form.Held kind.AssigningRange) i j (layout t kind.AssigningRange i xs) in (
        range_header r t kind.AssigningRange i j (layout t kind.AssigningRange i xs) own refl (built_node (behind j r) t kind.AssigningRange i j xs own refl refl u h) (some_laid t kind.AssigningRange i xs refl w),
        range_ends t kind.AssigningRange (form.Held kind.AssigningRange) i j (layout t kind.AssigningRange i xs) own,
      )
  closed_range r s kind.DefiningRange i j ps (all_read xs fs t) e u h w =
      let own : List TypeFault = own_faults t kind.DefiningRange (form.Held kind.DefiningRange) i j (layout t kind.DefiningRange i xs) in (
        range_header r t kind.DefiningRange i j (layout t kind.DefiningRange i xs) own refl (built_node (behind j r) t kind.DefiningRange i j xs own refl refl u h) (some_laid t kind.DefiningRange i xs refl w),
        range_ends t kind.DefiningRange (form.Held kind.DefiningRange) i j (layout t kind.DefiningRange i xs) own,
      )
  closed_range r s k i j ps rs e u h w = absurd (let z : false ≡ true = e in cc)

  clause_header : (r : Extent) (s : Frame) (k : Kind) (i j : ℕ) (ys : Parts) (own : List TypeFault) → is_ranging k ≡ false → Laid D r i j (built_by s k (form.Held k) i j ys own) → HeaderRead r i j (built_by s k (form.Held k) i j ys own)
  clause_header r s k i j ys [] e h = (inr (e, h), omega arith)
  clause_header r s k i j ys (x ∷ own) e h = (inr (e, h), omega arith)

  closed_clause : (r : Extent) (s : Frame) (k : Kind) (i j : ℕ) (ps : Trees) (rs : Readings) → is_clause k ≡ true → i < j → EachLaid D r i j (parts_in rs) → HeaderRead r i j (tree_in (closed s k i j ps rs))
  closed_clause r s kind.ForClause i j ps (all_read xs fs t) e u h =
      let own : List TypeFault = own_faults t kind.ForClause (form.Held kind.ForClause) i j xs in clause_header r t kind.ForClause i j xs own refl (built_node r t kind.ForClause i j xs own refl refl u h)
  closed_clause r s kind.InitializedForClause i j ps (all_read xs fs t) e u h =
      let own : List TypeFault = own_faults t kind.InitializedForClause (form.Held kind.InitializedForClause) i j xs in
      clause_header r t kind.InitializedForClause i j xs own refl (built_node r t kind.InitializedForClause i j xs own refl refl u h)
  closed_clause r s k i j ps rs e u h = absurd (let z : false ≡ true = e in cc)

  expression_header : (r : Extent) (a b : ℕ) (x : Part) → is_held (form_of x) ≡ false → Laid D r a b x → HeaderRead r a b x
  expression_header r a b x e h = (inr (unranged (form_of x) e, exact D r a b x h), ends D r a b x h)

  ranging_told : (k : Kind) → is_ranging k ≡ true → is_told k ≡ true
  ranging_told kind.Range e = refl
  ranging_told kind.AssigningRange e = refl
  ranging_told kind.DefiningRange e = refl
  ranging_told k e = absurd (let z : false ≡ true = e in cc)

  clause_told : (k : Kind) → is_clause k ≡ true → is_told k ≡ true
  clause_told kind.ForClause e = refl
  clause_told kind.InitializedForClause e = refl
  clause_told k e = absurd (let z : false ≡ true = e in cc)

  ranging_read : (s : Frame) (h : Hint) (k : Kind) (i j : ℕ) (ps : Trees) → is_ranging k ≡ true → reading s h (node k i j ps) ≡ closed s k i j ps (readings s k h ps [] [] ps)
  ranging_read s h kind.Range i j ps e = refl
  ranging_read s h kind.AssigningRange i j ps e = refl
  ranging_read s h kind.DefiningRange i j ps e = refl
  ranging_read s h k i j ps e = absurd (let z : false ≡ true = e in cc)

  clause_read : (s : Frame) (h : Hint) (k : Kind) (i j : ℕ) (ps : Trees) → is_clause k ≡ true → reading s h (node k i j ps) ≡ closed s k i j ps (readings s k h ps [] [] ps)
  clause_read s h kind.ForClause i j ps e = refl
  clause_read s h kind.InitializedForClause i j ps e = refl
  clause_read s h k i j ps e = absurd (let z : false ≡ true = e in cc)

  readings_end : (s : Frame) (k : Kind) (h : Hint) (all : Trees) (xs : Parts) (fs : Found) (ps : Trees) → EndsInOperand ps → EndsUnheld (parts_in (readings s k h all xs fs ps))
  readings_end s k h all xs fs syntax.none e = absurd e
  readings_end s k h all xs fs (syntax.skip ps) e = absurd e
  readings_end s k h all xs fs (syntax.more (node l i j qs) syntax.none) e =
      let r : Reading = reading (entering k xs s) (told k h all xs l) (node l i j qs) in
      subst (λ z. EndsUnheld (parts_in z)) (sym (after_read r (λ x gs t. readings t k h all (xs ++ Some x ∷ []) (fs ++ gs) syntax.none))) (ends_append xs (tree_in r) (operand_unheld (entering k xs s) (told k h all xs l) l i j qs e))
  readings_end s k h all xs fs (syntax.more p (syntax.more q ps)) e =
      let r : Reading = reading (entering k xs s) (told k h all xs (kind_of p)) p in
      subst (λ z. EndsUnheld (parts_in z)) (sym (after_read r (λ x gs t. readings t k h all (xs ++ Some x ∷ []) (fs ++ gs) (syntax.more q ps))))
      (readings_end (frame_in r) k h all (xs ++ Some (tree_in r) ∷ []) (fs ++ faults_in r) (syntax.more q ps) e)
  readings_end s k h all xs fs (syntax.more p (syntax.skip ps)) e = absurd e

  block_built : (s : Frame) (i j : ℕ) (ys : Parts) (own : List TypeFault) → form_of (built_by s kind.Block form.Block i j ys own) ≡ form.Block
  block_built s i j ys [] = refl
  block_built s i j ys (x ∷ own) = refl

  closed_block : (s : Frame) (i j : ℕ) (ps : Trees) (rs : Readings) → form_of (tree_in (closed s kind.Block i j ps rs)) ≡ form.Block
  closed_block s i j ps (all_read xs fs t) = block_built t i j xs (own_faults t kind.Block form.Block i j xs)

  block_read : (s : Frame) (h : Hint) (t : Tree) → kind_of t ≡ kind.Block → form_of (tree_in (reading s h t)) ≡ form.Block
  block_read s h (node k i j ps) e = subst (λ l. form_of (tree_in (reading s h (node l i j ps))) ≡ form.Block) (sym e) (closed_block s i j ps (readings s kind.Block h ps [] [] ps))

  block_inside : (t : Tree) → kind_of t ≡ kind.Block → is_apart (kind_of t) ≡ false
  block_inside (node k i j ps) e = ap is_apart e

  mutual
    pub reading_laid : (r : Extent) (s : Frame) (h : Hint) (t : Tree) → Set t → Roomed D r t → is_apart (kind_of t) ≡ false → Laid D r (first t) (last t) (tree_in (reading s h t))
    reading_laid r s h (node k i j ps) g m a =
        let rs : Readings = readings (beginning k i s) k h ps [] [] ps in
        let P : Type 0 = Laid D r i j (tree_in (closed s k i j ps rs)) in
        let u : i ≤ i = omega arith in
        one_reading (λ z. Laid D r i j (tree_in z)) (is_statement k) (closed s k i j ps rs) (read (holding s h (node k i j ps)) (held_faults s h (node k i j ps)) s)
        (
        λ e. chosen P (is_silent k) (Unit {0}) (Choice (is_loop k) (LoopRoomed D (block i j) ps) (AllRoomed D (room_at r k i j) ps)) (λ f z. closed_silent r s k i j ps rs f g.0)
        (
        λ f z. chosen P (is_loop k) (LoopRoomed D (block i j) ps) (AllRoomed D (room_at r k i j) ps)
        (
        λ c y. subst (λ l. Laid D r i j (tree_in (closed s l i j ps (readings (beginning l i s) l h ps [] [] ps)))) (sym (loop_is k c))
        (closed_loop r s i j ps (readings s kind.For h ps [] [] ps) g.0 (loop_laid s h ps ps i j g.1 g.2 y))
        )
        (λ c y. let w : is_told k ≡ true = told_kind k f a in closed_node r s k i j ps rs w c g.0 (readings_laid (room_at r k i j) (beginning k i s) k h ps [] [] ps i i j w u g.1 g.2 y)) z
        )
        (chosen_true (is_statement k) (Choice (is_silent k) (Unit {0}) (Choice (is_loop k) (LoopRoomed D (block i j) ps) (AllRoomed D (room_at r k i j) ps))) (Quiet D r i j) e m)
        )
        (
        λ e. holding_laid D r s h (node k i j ps) g
        (chosen_false (is_statement k) (Choice (is_silent k) (Unit {0}) (Choice (is_loop k) (LoopRoomed D (block i j) ps) (AllRoomed D (room_at r k i j) ps))) (Quiet D r i j) e m)
        )

    pub readings_laid : (r : Extent) (s : Frame) (k : Kind) (h : Hint) (all : Trees) (xs : Parts) (fs : Found) (ps : Trees) (a m j : ℕ) → is_told k ≡ true → EachLaid D r a m xs → Tiles m j ps → AllSet ps → AllRoomed D r ps
        → EachLaid D r a j (parts_in (readings s k h all xs fs ps))
    readings_laid r s k h all xs fs syntax.none a m j w g t u y = each_wider D r a m a j xs (omega arith) t g
    readings_laid r s k h all xs fs (syntax.more p ps) a m j w g t u y =
        let q : Reading = reading (entering k xs s) (told k h all xs (kind_of p)) p in
        let n : Laid D r (first p) (last p) (tree_in q) = reading_laid r (entering k xs s) (told k h all xs (kind_of p)) p u.0 y.1 y.0 in
        let v : Laid D r m (last p) (tree_in q) = wider D r (first p) (last p) m (last p) (tree_in q) t.0 (omega arith) n in
        subst (λ z. EachLaid D r a j (parts_in z)) (sym (after_read q (λ x gs f. readings f k h all (xs ++ Some x ∷ []) (fs ++ gs) ps)))
        (readings_laid r (frame_in q) k h all (xs ++ Some (tree_in q) ∷ []) (fs ++ faults_in q) ps a (last p) j w (append_laid D r a m (last p) xs (Some (tree_in q) ∷ []) g (one_laid D r m (last p) (tree_in q) v)) t.2 u.1 y.2)
    readings_laid r s k h all xs fs (syntax.skip ps) a m j w g t u y =
        let f : Frame = entering k xs s in
        let v : m ≤ m = omega arith in
        readings_laid r f k h all (xs ++ left_out f k ∷ []) (fs ++ left_out_faults f k) ps a m j w (subst (λ z. EachLaid D r a m (xs ++ z ∷ [])) (sym (none_left f k w)) (append_laid D r a m m xs (None ∷ []) g v)) t u y

    header_read : (r : Extent) (s : Frame) (h : Hint) (t : Tree) → Set t → HeaderRoomed D r t → HeaderRead r (first t) (last t) (tree_in (reading s h t))
    header_read r s h (node k i j ps) g m =
        let P : Type 0 = HeaderRead r i j (tree_in (reading s h (node k i j ps))) in
        let u : i ≤ i = omega arith in
        let rs : Readings = readings s k h ps [] [] ps in
        chosen P (is_ranging k) (AllRoomed D (behind j r) ps × EndsInOperand ps) (Choice (is_clause k) (AllRoomed D r ps) ((is_expression k ≡ true) × Quiet D r i j))
        (
        λ e y. subst (λ z. HeaderRead r i j (tree_in z)) (sym (ranging_read s h k i j ps e))
        (closed_range r s k i j ps rs e g.0 (readings_laid (behind j r) s k h ps [] [] ps i i j (ranging_told k e) u g.1 g.2 y.0) (readings_end s k h ps [] [] ps y.1))
        )
        (
        λ e y. chosen P (is_clause k) (AllRoomed D r ps) ((is_expression k ≡ true) × Quiet D r i j)
        (λ c z. subst (λ z. HeaderRead r i j (tree_in z)) (sym (clause_read s h k i j ps c)) (closed_clause r s k i j ps rs c g.0 (readings_laid r s k h ps [] [] ps i i j (clause_told k c) u g.1 g.2 z)))
        (
        λ c z. expression_header r i j (tree_in (reading s h (node k i j ps))) (operand_unheld s h k i j ps z.0)
        (subst (λ x. Laid D r i j x) (sym (operand_is s h k i j ps z.0)) (typing_laid D r (scope_of s) h (node k i j ps) g z.1))
        ) y
        )
        m

    loop_laid : (s : Frame) (h : Hint) (all ps : Trees) (i j : ℕ) → Tiles i j ps → AllSet ps → LoopRoomed D (block i j) ps → LoopLaid i j (parts_in (readings s kind.For h all [] [] ps))
    loop_laid s h all syntax.none i j t u m = absurd m
    loop_laid s h all (syntax.skip syntax.none) i j t u m = absurd m
    loop_laid s h all (syntax.skip (syntax.skip ps)) i j t u m = absurd m
    loop_laid s h all (syntax.skip (syntax.more b (syntax.more c ps))) i j t u m = absurd m
    loop_laid s h all (syntax.skip (syntax.more b (syntax.skip ps))) i j t u m = absurd m
    loop_laid s h all (syntax.more p syntax.none) i j t u m = absurd m.1
    loop_laid s h all (syntax.more p (syntax.skip ps)) i j t u m = absurd m.1
    loop_laid s h all (syntax.more p (syntax.more b (syntax.more c ps))) i j t u m = absurd m.1
    loop_laid s h all (syntax.more p (syntax.more b (syntax.skip ps))) i j t u m = absurd m.1
    loop_laid s h all (syntax.skip (syntax.more b syntax.none)) i j t u m =
        let q : Reading = reading s (told kind.For h all (None ∷ []) (kind_of b)) b in
        let n : Laid D (block i j) (first b) (last b) (tree_in q) = reading_laid (block i j) s (told kind.For h all (None ∷ []) (kind_of b)) b u.0 m.1 (block_inside b m.0) in
        subst (λ z. LoopLaid i j (parts_in z)) (sym (after_read q (λ x gs f. readings f kind.For h all (None ∷ Some x ∷ []) gs syntax.none))) (wider D (block i j) (first b) (last b) i j (tree_in q) t.0 t.2 n)
    loop_laid s h all (syntax.more p (syntax.more b syntax.none)) i j t u m =
        let to : Hint = told kind.For h all [] (kind_of p) in
        let o : Reading = reading s to p in
        let x : Part = tree_in o in
        let hint : Hint = told kind.For h all (Some x ∷ []) (kind_of b) in
        let q : Reading = reading (frame_in o) hint b in
        let w = header_read (block i j) s to p u.0 m.0 in
        let n : Laid D (block i j) (first b) (last b) (tree_in q) = reading_laid (block i j) (frame_in o) hint b u.1.0 m.1.1 (block_inside b m.1.0) in
        subst (λ z. LoopLaid i j (parts_in z)) (sym (after_read o (λ x gs f. readings f kind.For h all (Some x ∷ []) gs (syntax.more b syntax.none))))
        (subst (λ z. LoopLaid i j (parts_in z)) (sym (after_read q (λ y gs f. readings f kind.For h all (Some x ∷ Some y ∷ []) (faults_in o ++ gs) syntax.none))) (
          header_wider (block i j) (first p) i x t.0 w.0,
          block_read (frame_in o) hint b m.1.0,
          wider D (block i j) (first b) (last b) (last_of x) j (tree_in q) (omega (arith, w.1, t.2.0)) t.2.2 n,
        ))

  -- ---- functions

  abbrev pub FunctionRoomed : Extent → Trees → Type 0
  FunctionRoomed r (syntax.more g (syntax.more b syntax.none)) = (is_apart (kind_of b) ≡ false) × Roomed D r b
  FunctionRoomed r (syntax.more g (syntax.skip syntax.none)) = Unit {0}
  FunctionRoomed r ps = ⊥

  -- a function at these tokens whose body lies in this room
  pub record IsLaidFunction (r : Extent) (i j : ℕ) (x : Part) : Type 0 where
    pub label : Label TypeTree
    pub parts : Typeds TypeTree
    pub is : x ≡ typed form.Function i j label parts
    pub laid : AllLaid D r i j parts

  abbrev FunctionParts : Extent → (i j : ℕ) → Parts → Type 0
  FunctionParts r i j (x ∷ None ∷ []) = Unit {0}
  FunctionParts r i j (x ∷ Some b ∷ []) = Laid D r i j b
  FunctionParts r i j xs = ⊥

  function_row : (r : Extent) (i j : ℕ) (xs : Parts) → i < j → FunctionParts r i j xs → EachLaid D r i j (without_absent (behind_first xs))
  function_row r i j [] u h = absurd h
  function_row r i j (x ∷ []) u h = absurd h
  function_row r i j (x ∷ None ∷ []) u h = omega (arith, u)
  function_row r i j (x ∷ Some b ∷ []) u h = one_laid D r i j b h
  function_row r i j (x ∷ None ∷ y ∷ ys) u h = absurd h
  function_row r i j (x ∷ Some b ∷ y ∷ ys) u h = absurd h

  function_built : (r : Extent) (s : Frame) (i j : ℕ) (ys : Parts) (own : List TypeFault) → EachLaid D r i j ys → IsLaidFunction r i j (built_by s kind.FunctionDeclaration form.Function i j ys own)
  function_built r s i j ys [] h = record { label = label form.Function trees.Nothing ys; parts = row ys; is = refl; laid = row_laid D r i j ys h }
  function_built r s i j ys (x ∷ own) h = record { label = label form.Function trees.Nothing ys; parts = row ys; is = refl; laid = row_laid D r i j ys h }

  closed_function : (r : Extent) (s : Frame) (i j : ℕ) (ps : Trees) (rs : Readings) → i < j → FunctionParts r i j (parts_in rs) → IsLaidFunction r i j (tree_in (closed s kind.FunctionDeclaration i j ps rs))
  closed_function r s i j ps (all_read xs fs t) u h =
      let k : Kind = kind.FunctionDeclaration in function_built r t i j (layout t k i xs) (own_faults t k form.Function i j (layout t k i xs)) (function_row r i j xs u h)

  function_parts : (r : Extent) (s : Frame) (h : Hint) (all ps : Trees) (i j : ℕ) → Tiles i j ps → AllSet ps → FunctionRoomed r ps → FunctionParts r i j (parts_in (readings s kind.FunctionDeclaration h all [] [] ps))
  function_parts r s h all syntax.none i j t u m = absurd m
  function_parts r s h all (syntax.skip ps) i j t u m = absurd m
  function_parts r s h all (syntax.more g syntax.none) i j t u m = absurd m
  function_parts r s h all (syntax.more g (syntax.skip (syntax.skip ps))) i j t u m = absurd m
  function_parts r s h all (syntax.more g (syntax.skip (syntax.more b ps))) i j t u m = absurd m
  function_parts r s h all (syntax.more g (syntax.more b (syntax.skip ps))) i j t u m = absurd m
  function_parts r s h all (syntax.more g (syntax.more b (syntax.more c ps))) i j t u m = absurd m
  function_parts r s h all (syntax.more g (syntax.skip syntax.none)) i j t u m =
      let k : Kind = kind.FunctionDeclaration in
      let o : Reading = reading s (told k h all [] (kind_of g)) g in
      subst (λ z. FunctionParts r i j (parts_in z)) (sym (after_read o (λ x gs f. readings f k h all (Some x ∷ []) gs (syntax.skip syntax.none)))) tt
  function_parts r s h all (syntax.more g (syntax.more b syntax.none)) i j t u m =
      let k : Kind = kind.FunctionDeclaration in
      let o : Reading = reading s (told k h all [] (kind_of g)) g in
      let f : Frame = entering k (Some (tree_in o) ∷ []) (frame_in o) in
      let to : Hint = told k h all (Some (tree_in o) ∷ []) (kind_of b) in
      let q : Reading = reading f to b in
      let n : Laid D r (first b) (last b) (tree_in q) = reading_laid r f to b u.1.0 m.1 m.0 in
      subst (λ z. FunctionParts r i j (parts_in z)) (sym (after_read o (λ x gs w. readings w k h all (Some x ∷ []) gs (syntax.more b syntax.none))))
      (subst (λ z. FunctionParts r i j (parts_in z)) (sym (after_read q (λ y gs w. readings w k h all (Some (tree_in o) ∷ Some y ∷ []) (faults_in o ++ gs) syntax.none)))
      (wider D r (first b) (last b) i j (tree_in q) (omega (arith, t.0, t.1, t.2.0)) t.2.2 n))

  pub function_laid : (r : Extent) (s : Frame) (h : Hint) (i j : ℕ) (ps : Trees) → Set (node kind.FunctionDeclaration i j ps) → FunctionRoomed r ps → IsLaidFunction r i j (tree_in (reading s h (node kind.FunctionDeclaration i j ps)))
  function_laid r s h i j ps g m = closed_function r s i j ps (readings s kind.FunctionDeclaration h ps [] [] ps) g.0 (function_parts r s h ps ps i j g.1 g.2 m)
