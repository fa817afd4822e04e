-- Expression statements with variables in them.
use Rattle.std.proofs.Common.{◌≡◌, ◌∙◌, ℕ, ◌-◌, Bool, true, false, List, [], ◌∷◌, Option, Some, None, refl, sym, ap, subst}
use Rattle.std.specs.Prelude.{◌&&◌, not, if◌then◌else◌}
use Rattle.go_base.specs.declared.fault.FaultCode.TheVariants as code
use Rattle.go_grammar.specs.declared.kind.Category.{Category}
use Rattle.go_grammar.specs.declared.kind.Category.TheVariants as category
use Rattle.go_grammar.specs.declared.kind.Kind.{Kind}
use Rattle.go_grammar.specs.declared.kind.Kind.TheVariants as kind
use Rattle.go_grammar.specs.declared.kind.Level.TheVariants as level
use Rattle.go_grammar.specs.declared.kind.Place.{Place}
use Rattle.go_grammar.specs.declared.kind.Place.TheVariants as place
use Rattle.go_grammar.specs.Categories.{place_of}
use Rattle.go_grammar.specs.Grammar.{any, rule}
use Rattle.go_grammar.specs.Trees.{Tree, node, Trees, none, more, skip, kind_of}
use Rattle.go_tree.specs.declared.object.Object.{Object}
use Rattle.go_tree.specs.declared.object.Object.TheVariants as object
use Rattle.go_tree.specs.declared.object.Predeclared.TheVariants as predeclared
use Rattle.go_types.specs.Trees.{TypeTree, TypeRow}
use Rattle.go_types.specs.Trees as types
use Rattle.go_types.specs.Relations.{Rights}
use Rattle.go_types_relations.specs.Tests.{underlying_of}
use Rattle.go_typed.specs.declared.form.Form.{Form}
use Rattle.go_typed.specs.declared.form.Form.TheVariants as form
use Rattle.go_typed.specs.Trees.{Label, typed, Typeds, sort_of, form_of, row}
use Rattle.go_typed.specs.Trees as sort
use Rattle.go_exprs_rules.specs.Calls.{results_of, called, function_call_sort, call_sort, call_takes}
use Rattle.go_exprs_rules.specs.Names.{name_sort, name_form, object_form, declared_form, form_or_type}
use Rattle.go_exprs_rules.specs.Scopes.{Scope, Hint, callee, statement, declares, free}
use Rattle.go_exprs_rules.specs.Settling.{Part, stay}
use Rattle.go_exprs_rules.specs.Sorts.{Stands, is_open, own_type}
use Rattle.go_exprs_rules.specs.Tables.{Parts, in_parentheses, layout, present, call_parts, first_cut, is_make, is_type, leaf, callee_form, selector_form}
use Rattle.go_exprs_rules.specs.Tables.{bracketed_form, all_given, takes, form_by, sort_by, built_by, built_on, is_sound, own_faults, is_call, label}
use Rattle.go_exprs_rules.specs.Typing.{typing, typings}
use Rattle.go_stmts_defs.specs.Frames.{Frame, scope_of}
use Rattle.go_stmts_defs.specs.Reading.{reading, all_read}
use Rattle.go_stmts_defs.specs.Targets.{bare, acts, callee_passes, is_panic, is_panic_call, is_statement_call}
use Rattle.clone_window.specs.Masses.{is_hole, is_inside, is_expression}
use Rattle.clone_window.specs.Masses as masses
use Rattle.go_exprs_variables.specs.Over.{sort_over, varies_over}
use Rattle.go_exprs_variables.specs.Shapes.{IsShaped, AreShaped}
use Rattle.go_exprs_variables.specs.Variables.{Standin, Standins, at_hole, put_over, put, all_put, with_variables, all_with_variables, Proper, begun, Fits, no_rule_fails, ExpressionsTyped}
use Rattle.go_exprs_variables.specs.Variables as variables
use Rattle.go_exprs_variables.proofs.Public.{behind, expression_operand, form_unkeyed, is_key, is_keyed_kind, is_operand, news, passed, passes, plain_sort, typings_are}
use Rattle.go_stmts_variables.specs.Frames.{FramesStand}
use Rattle.go_stmts_variables.specs.Statements.{tree_in, found_in, frame_in}
use Rattle.go_stmts_variables.proofs.Expressions.{will, operand_reading}
use Rattle.go_stmts_variables.proofs.Endings.{is_calm}
use Rattle.go_stmts_variables.proofs.Frames.{back_stands}
use Rattle.go_stmts_variables.proofs.Nodes.{Reads, Old, old_rules, old_fits, rule_of, own_none, node_reads, judged}
use Rattle.go_stmts_variables.proofs.Puts.{IsStatementForm, fitting_put, hole_at, no_hole, value_put, node_put}
use Rattle.go_stmts_variables.proofs.Roles.{value_reads}
use Rattle.go_stmts_variables.proofs.Rows.{after_is}

-- what a call that is a statement stands for: nothing untyped, and no constant
record IsDone (z : Stands) : Type 0 where
  pub closed : is_open z ≡ false
  pub value : masses.is_constant z ≡ false

called_done : (t : TypeTree) (rs : TypeRow) → IsDone (called t rs)
called_done t types.none = record { closed = refl; value = refl }
called_done t (types.more r types.none) = record { closed = refl; value = refl }
called_done t (types.more r (types.more q rs)) = record { closed = refl; value = refl }

function_done : (rights : Rights) (o : Option TypeTree) → IsDone (function_call_sort rights o)
function_done rights None = record { closed = refl; value = refl }
function_done rights (Some t) = called_done t (results_of (underlying_of rights t))

call_done : (rights : Rights) (z : Stands) (xs : List Part) → is_call (callee_form z) ≡ true → acts z ≡ true → IsDone (call_sort rights z xs)
call_done rights (sort.IsType t) xs e a = cc
call_done rights (sort.Builtin predeclared.Copy) xs e a = record { closed = refl; value = refl }
call_done rights (sort.Builtin predeclared.Panic) xs e a = record { closed = refl; value = refl }
call_done rights (sort.Builtin p) xs e a = cc
call_done rights sort.Println xs e a = record { closed = refl; value = refl }
call_done rights z xs e a = function_done rights (own_type z)

two_true : (b c : Bool) → (b && c) ≡ true → (b ≡ true) × (c ≡ true)
two_true true true e = (refl, refl)
two_true true false e = cc
two_true false c e = cc

call_bare : (z : Stands) (i j : ℕ) (l : Label TypeTree) (qs : Typeds TypeTree) → bare (typed (callee_form z) i j l qs) ≡ typed (callee_form z) i j l qs
call_bare (sort.IsType t) i j l qs = refl
call_bare z i j l qs = refl

-- a node that is neither a call nor stands in parentheses is no statement
abbrev is_plain_form : Form → Bool
is_plain_form form.Expression = false
is_plain_form form.Block = false
is_plain_form form.If = false
is_plain_form form.Switch = false
is_plain_form (form.Case n) = false
is_plain_form form.Default = false
is_plain_form form.Call = false
is_plain_form form.Parenthesized = false
is_plain_form f = true

plain_bare : (f : Form) (i j : ℕ) (l : Label TypeTree) (qs : Typeds TypeTree) → is_plain_form f ≡ true → is_statement_call (typed f i j l qs) ≡ true → ⊥
plain_bare form.Call i j l qs e m = cc
plain_bare form.Parenthesized i j l qs e m = cc
plain_bare f i j l qs e m = cc

module _ (w : Standins) where
  acts_over : (v : Option Standin) (f : Form) (i j : ℕ) (l : Label TypeTree) (qs : Typeds TypeTree) → is_key f ≡ false → acts l.sort ≡ true → acts (sort_of (put_over v f i j l qs)) ≡ true
  acts_over (Some v) f i j l qs k e = refl
  acts_over None f i j l qs k e = ap acts (plain_sort f l.sort qs k) ∙ e

  acts_put : (a : Bool) (c : Part) → is_key (form_of c) ≡ false → acts (sort_of c) ≡ true → acts (sort_of (put w a c)) ≡ true
  acts_put a (typed f i j l ps) k e = acts_over (at_hole w (is_hole a f l) i) f i j l (all_put w (is_inside a f l) ps) k e

  inside_no : (f : Form) (l : Label TypeTree) → masses.is_constant l.sort ≡ false → is_inside false f l ≡ false
  inside_no f l e = ap (λ z. is_expression f && z) e ∙ by (is_expression f)
    where
      by : (b : Bool) → (b && false) ≡ false
      by true = refl
      by false = refl

  put_value : (f : Form) (i j : ℕ) (l : Label TypeTree) (ps : Typeds TypeTree) → masses.is_constant l.sort ≡ false → put w false (typed f i j l ps) ≡ put_over None f i j l (all_put w false ps)
  put_value f i j l ps e = ap (λ b. put_over (at_hole w b i) f i j l (all_put w (is_inside false f l) ps)) (no_hole w f l e) ∙ ap (λ b. put_over None f i j l (all_put w b ps)) (inside_no f l e)

  -- ---- what a statement call is, and that it stays one

  abbrev Acts : Part → Type 0
  Acts x = is_statement_call x ≡ true → IsDone (sort_of x) × (is_statement_call (put w false x) ≡ true)

  call_passes : (z : Stands) (i j : ℕ) (l : Label TypeTree) (c : Part) (qs : Typeds TypeTree) → is_statement_call (typed (callee_form z) i j l (sort.more c qs)) ≡ true → (is_call (callee_form z) ≡ true) × (acts (sort_of c) ≡ true)
  call_passes z i j l c qs e = two_true (is_call (callee_form z)) (acts (sort_of c)) (sym (ap (callee_passes acts) (call_bare z i j l (sort.more c qs))) ∙ e)

  call_kept : (z : Stands) (i j : ℕ) (l : Label TypeTree) (c : Part) (qs : Typeds TypeTree) → masses.is_constant l.sort ≡ false → is_key (form_of c) ≡ false → is_call (callee_form z) ≡ true → acts (sort_of c) ≡ true
      → is_statement_call (put w false (typed (callee_form z) i j l (sort.more c qs))) ≡ true
  call_kept z i j l c qs e k m a =
      let n : Label TypeTree = record { sort = sort_over (callee_form z) l.sort (sort.more (put w false c) (all_put w false qs)); varies = varies_over l.varies (sort.more (put w false c) (all_put w false qs)); calls = l.calls } in
      ap is_statement_call (put_value (callee_form z) i j l (sort.more c qs) e) ∙ ap (callee_passes acts) (call_bare z i j n (sort.more (put w false c) (all_put w false qs)))
      ∙ ap (λ b. b && acts (sort_of (put w false c))) m ∙ acts_put false c k a

  call_node : (rights : Rights) (z : Stands) (i j : ℕ) (v q : Bool) (c : Part) (qs : Typeds TypeTree) (xs : List Part) → z ≡ sort_of c → is_key (form_of c) ≡ false
      → Acts (typed (callee_form z) i j (record { sort = call_sort rights z xs; varies = v; calls = q }) (sort.more c qs))
  call_node rights z i j v q c qs xs m k e =
      let l : Label TypeTree = record { sort = call_sort rights z xs; varies = v; calls = q } in
      let both = call_passes z i j l c qs e in
      let done = call_done rights z xs both.0 (ap acts m ∙ both.1) in
      (done, call_kept z i j l c qs done.value k both.0 both.1)

  lost_node : (z : Stands) (i j : ℕ) (v q : Bool) (c : Part) (qs : Typeds TypeTree) → is_key (form_of c) ≡ false → Acts (typed (callee_form z) i j (record { sort = sort.Unknown; varies = v; calls = q }) (sort.more c qs))
  lost_node z i j v q c qs k e =
      let l : Label TypeTree = record { sort = sort.Unknown; varies = v; calls = q } in
      let both = call_passes z i j l c qs e in
      (record { closed = refl; value = refl }, call_kept z i j l c qs refl k both.0 both.1)

  call_built : (s : Scope) (h : Hint) (i j : ℕ) (c : Part) (ys : Parts) (b : Bool) → is_key (form_of c) ≡ false → Acts (built_by s kind.Call h i j (Some c ∷ ys) b)
  call_built s h i j c ys true k = call_node s.rights (sort_of c) i j (label (callee_form (sort_of c)) (call_sort s.rights (sort_of c) (present ys)) (Some c ∷ ys)).varies
      (label (callee_form (sort_of c)) (call_sort s.rights (sort_of c) (present ys)) (Some c ∷ ys)).calls c (row (all_given (call_takes s.rights (sort_of c) (present ys)) ys)) (present ys) refl k
  call_built s h i j c ys false k = lost_node (sort_of c) i j (label (callee_form (sort_of c)) sort.Unknown (Some c ∷ ys)).varies (label (callee_form (sort_of c)) sort.Unknown (Some c ∷ ys)).calls c (row ys) k

  -- in parentheses
  inner_node : (i j : ℕ) (l : Label TypeTree) (x : Part) → l.sort ≡ sort_of x → Acts x → Acts (typed form.Parenthesized i j l (sort.more x sort.none))
  inner_node i j l x m f e =
      let r = f e in
      (subst IsDone (sym m) r.0, ap is_statement_call (put_value form.Parenthesized i j l (sort.more x sort.none) (ap masses.is_constant m ∙ r.0.value)) ∙ r.1)

  lost_inner : (i j : ℕ) (v q : Bool) (x : Part) → Acts x → Acts (typed form.Parenthesized i j (record { sort = sort.Unknown; varies = v; calls = q }) (sort.more x sort.none))
  lost_inner i j v q x f e =
      (record { closed = refl; value = refl }, ap is_statement_call (put_value form.Parenthesized i j (record { sort = sort.Unknown; varies = v; calls = q }) (sort.more x sort.none) refl) ∙ (f e).1)

  inner_built : (s : Scope) (h : Hint) (i j : ℕ) (x : Part) (b : Bool) → Acts x → Acts (built_by s kind.Parenthesized h i j (Some x ∷ []) b)
  inner_built s h i j x true f = inner_node i j (label form.Parenthesized (sort_of x) (Some x ∷ [])) x refl f
  inner_built s h i j x false f = lost_inner i j (label form.Parenthesized sort.Unknown (Some x ∷ [])).varies (label form.Parenthesized sort.Unknown (Some x ∷ [])).calls x f

  plain_built : (s : Scope) (k : Kind) (h : Hint) (i j : ℕ) (ys : Parts) (b : Bool) → is_plain_form (form_by s k h i j ys) ≡ true → Acts (built_by s k h i j ys b)
  plain_built s k h i j ys true p e = absurd (plain_bare (form_by s k h i j ys) i j (label (form_by s k h i j ys) (sort_by s k h i j ys) ys) (row (all_given (takes s k h ys) ys)) p e)
  plain_built s k h i j ys false p e = absurd (plain_bare (form_by s k h i j ys) i j (label (form_by s k h i j ys) sort.Unknown ys) (row ys) p e)

  declared_plain : (s : Scope) (o : Option Object) → is_plain_form (declared_form s o) ≡ true
  declared_plain s None = refl
  declared_plain s (Some object.Import) = refl
  declared_plain s (Some (object.Predeclared p)) = refl
  declared_plain s (Some (object.Package n)) = refl
  declared_plain s (Some (object.Local f n)) = refl

  object_plain : (s : Scope) (z : Stands) (o : Option Object) → is_plain_form (form_or_type z (object_form s o)) ≡ true
  object_plain s (sort.IsType t) o = refl
  object_plain s z None = refl
  object_plain s z (Some object.Import) = refl
  object_plain s z (Some (object.Predeclared p)) = refl
  object_plain s z (Some (object.Package n)) = refl
  object_plain s z (Some (object.Local f n)) = refl

  name_plain : (s : Scope) (h : Hint) (i : ℕ) → is_plain_form (name_form s h i) ≡ true
  name_plain s declares i = declared_plain s (s.objects i)
  name_plain s free i = declared_plain s (s.objects i)
  name_plain s h i = object_plain s (name_sort s h i) (s.objects i)

  selector_plain : (rights : Rights) (name : List ℕ) (ys : Parts) → is_plain_form (selector_form rights name ys) ≡ true
  selector_plain rights name [] = refl
  selector_plain rights name (None ∷ ys) = refl
  selector_plain rights name (Some x ∷ []) = refl
  selector_plain rights name (Some x ∷ y ∷ ys) = refl

  bracketed_plain : (ys : Parts) → is_plain_form (bracketed_form ys) ≡ true
  bracketed_plain [] = refl
  bracketed_plain (x ∷ []) = refl
  bracketed_plain (x ∷ y ∷ []) = refl
  bracketed_plain (x ∷ y ∷ z ∷ ys) = refl

  keyed_operand : (k : Kind) → is_operand k ≡ true → is_keyed_kind k ≡ false
  keyed_operand kind.Keyed e = cc
  keyed_operand k e = refl

  unkeyed : (s : Scope) (h : Hint) (x : Tree) → is_operand (kind_of x) ≡ true → is_key (form_of (typing s h x)) ≡ false
  unkeyed s h (node k i j ps) e = by (is_sound k (layout k (typings s k h ps [] ps)) (own_faults s k h i j (layout k (typings s k h ps [] ps))))
    where
      by : (b : Bool) → is_key (form_of (built_by s k h i j (layout k (typings s k h ps [] ps)) b)) ≡ false
      by true = form_unkeyed s k h i j (layout k (typings s k h ps [] ps)) (keyed_operand k e)
      by false = form_unkeyed s k h i j (layout k (typings s k h ps [] ps)) (keyed_operand k e)

  leaf_key : (x : Part) → is_key (form_of (leaf x)) ≡ false
  leaf_key (typed f i j l ps) = refl

  -- ---- by kinds of nodes

  -- it holds of calls; of what stands in parentheses where it holds inside; and of what is neither
  abbrev OfCalls : (Part → Type 0) → Type 0
  OfCalls Q = (s : Scope) (h : Hint) (i j : ℕ) (c : Part) (ys : Parts) (b : Bool) → is_key (form_of c) ≡ false → Q (built_by s kind.Call h i j (Some c ∷ ys) b)

  abbrev OfInners : (Part → Type 0) → Type 0
  OfInners Q = (s : Scope) (h : Hint) (i j : ℕ) (x : Part) (b : Bool) → Q x → Q (built_by s kind.Parenthesized h i j (Some x ∷ []) b)

  abbrev OfPlains : (Part → Type 0) → Type 0
  OfPlains Q = (s : Scope) (k : Kind) (h : Hint) (i j : ℕ) (ys : Parts) (b : Bool) → is_plain_form (form_by s k h i j ys) ≡ true → Q (built_by s k h i j ys b)

  module _ (Q : Part → Type 0) (calls : OfCalls Q) (inners : OfInners Q) (plains : OfPlains Q) where
    laid_call : (s : Scope) (h : Hint) (i j : ℕ) (x : Part) (xs : Parts) (m t b : Bool) → is_key (form_of x) ≡ false → Q (built_by s kind.Call h i j (if m then Some x ∷ first_cut xs else (if t then Some (leaf x) else Some x) ∷ xs) b)
    laid_call s h i j x xs true t b k = calls s h i j x (first_cut xs) b k
    laid_call s h i j x xs false true b k = calls s h i j (leaf x) xs b (leaf_key x)
    laid_call s h i j x xs false false b k = calls s h i j x xs b k

    call_typed : (s : Scope) (h : Hint) (i j : ℕ) (x : Part) (xs : Parts) → is_key (form_of x) ≡ false → Q (built_on s kind.Call h i j (call_parts (Some x ∷ xs)))
    call_typed s h i j x xs k = let ys = call_parts (Some x ∷ xs) in laid_call s h i j x xs (is_make (sort_of x)) (is_type (sort_of x)) (is_sound kind.Call ys (own_faults s kind.Call h i j ys)) k

    mutual
      -- Then it holds of each expression.
      by_kinds : (s : Scope) (h : Hint) (c : Category) (x : Tree) → IsShaped c x → is_operand (kind_of x) ≡ true → Q (typing s h x)
      by_kinds s h c (node k i j ps) e o = by_kind s h (place_of c) k i j ps e.1 o

      by_kind : (s : Scope) (h : Hint) (p : Place) (k : Kind) (i j : ℕ) (ps : Trees) → AreShaped (rule p k) ps → is_operand k ≡ true → Q (typing s h (node k i j ps))
      by_kind s h p kind.Call i j none e o = elim e [ ]
      by_kind s h p kind.Call i j (skip qs) e o = elim e [ ]
      by_kind s h p kind.Call i j (more q qs) e o =
          let x = typing s callee q in
          subst (λ xs. Q (built_on s kind.Call h i j (call_parts xs))) (sym (typings_are s kind.Call h (more q qs) (Some x ∷ []) qs))
          (call_typed s h i j x (behind s kind.Call h (more q qs) (Some x ∷ []) qs) (unkeyed s callee q (expression_operand level.Primary p q e.0)))
      by_kind s h p kind.Parenthesized i j none e o = elim e [ ]
      by_kind s h p kind.Parenthesized i j (skip qs) e o = elim e [ ]
      by_kind s h p kind.Parenthesized i j (more q (more t qs)) e o = elim e.1 [ ]
      by_kind s h p kind.Parenthesized i j (more q (skip qs)) e o = elim e.1 [ ]
      by_kind s h p kind.Parenthesized i j (more q none) e o =
          let x = typing s (in_parentheses h) q in
          inners s h i j x (is_sound kind.Parenthesized (Some x ∷ []) (own_faults s kind.Parenthesized h i j (Some x ∷ [])))
          (by_kinds s (in_parentheses h) (category.Expression level.Either place.Free) q e.0 (expression_operand level.Either place.Free q e.0))
      by_kind s h p kind.Name i j ps e o = let ys = typings s kind.Name h ps [] ps in plains s kind.Name h i j ys (is_sound kind.Name ys (own_faults s kind.Name h i j ys)) (name_plain s h i)
      by_kind s h p kind.Selector i j ps e o = let ys = layout kind.Selector (typings s kind.Selector h ps [] ps) in plains s kind.Selector h i j ys (is_sound kind.Selector ys (own_faults s kind.Selector h i j ys))
          (selector_plain s.rights (s.texts (j - 1)) ys)
      by_kind s h p kind.Bracketed i j ps e o = let ys = layout kind.Bracketed (typings s kind.Bracketed h ps [] ps) in plains s kind.Bracketed h i j ys (is_sound kind.Bracketed ys (own_faults s kind.Bracketed h i j ys))
          (bracketed_plain ys)
      by_kind s h p kind.Integer i j ps e o = let ys = typings s kind.Integer h ps [] ps in plains s kind.Integer h i j ys (is_sound kind.Integer ys (own_faults s kind.Integer h i j ys)) refl
      by_kind s h p kind.Rune i j ps e o = let ys = typings s kind.Rune h ps [] ps in plains s kind.Rune h i j ys (is_sound kind.Rune ys (own_faults s kind.Rune h i j ys)) refl
      by_kind s h p kind.Text i j ps e o = let ys = typings s kind.Text h ps [] ps in plains s kind.Text h i j ys (is_sound kind.Text ys (own_faults s kind.Text h i j ys)) refl
      by_kind s h p (kind.Unary u) i j ps e o = let ys = typings s (kind.Unary u) h ps [] ps in plains s (kind.Unary u) h i j ys (is_sound (kind.Unary u) ys (own_faults s (kind.Unary u) h i j ys)) refl
      by_kind s h p (kind.Binary u) i j ps e o = let ys = typings s (kind.Binary u) h ps [] ps in plains s (kind.Binary u) h i j ys (is_sound (kind.Binary u) ys (own_faults s (kind.Binary u) h i j ys)) refl
      by_kind s h p kind.Composite i j ps e o = let ys = layout kind.Composite (typings s kind.Composite h ps [] ps) in plains s kind.Composite h i j ys (is_sound kind.Composite ys (own_faults s kind.Composite h i j ys)) refl
      by_kind s h p kind.LiteralValue i j ps e o = let ys = layout kind.LiteralValue (typings s kind.LiteralValue h ps [] ps) in plains s kind.LiteralValue h i j ys
          (is_sound kind.LiteralValue ys (own_faults s kind.LiteralValue h i j ys)) refl
      by_kind s h p kind.SequenceType i j ps e o = let ys = typings s kind.SequenceType h ps [] ps in plains s kind.SequenceType h i j ys (is_sound kind.SequenceType ys (own_faults s kind.SequenceType h i j ys)) refl
      by_kind s h p kind.FunctionType i j ps e o = let ys = typings s kind.FunctionType h ps [] ps in plains s kind.FunctionType h i j ys (is_sound kind.FunctionType ys (own_faults s kind.FunctionType h i j ys)) refl
      by_kind s h p kind.StructType i j ps e o = let ys = layout kind.StructType (typings s kind.StructType h ps [] ps) in plains s kind.StructType h i j ys (is_sound kind.StructType ys (own_faults s kind.StructType h i j ys)) refl
      by_kind s h p k i j ps e o = cc

  -- A call that is a statement is one with variables in it.
  acts_typed : (s : Scope) (h : Hint) (c : Category) (x : Tree) → IsShaped c x → is_operand (kind_of x) ≡ true → Acts (typing s h x)
  acts_typed s h c x e o = by_kinds Acts call_built inner_built plain_built s h c x e o

  -- ---- calls of `panic`

  -- It is a call of `panic` where it was, and such a call is no constant.
  record KeepsPanic (x : Part) : Type 0 where
    pub same : (a : Bool) → is_panic_call (put w a x) ≡ is_panic_call x
    pub done : is_panic_call x ≡ true → masses.is_constant (sort_of x) ≡ false

  constant_hole : (a : Bool) (f : Form) (l : Label TypeTree) → is_hole a f l ≡ true → masses.is_constant l.sort ≡ true
  constant_hole a f l e = (two_true (is_expression f) (masses.is_constant l.sort) (two_true (not a) (is_expression f && masses.is_constant l.sort) (two_true (not a && (is_expression f && masses.is_constant l.sort)) (not l.varies) e).0).1).1

  constant_no_panic : (z : Stands) → masses.is_constant z ≡ true → is_panic z ≡ false
  constant_no_panic (sort.Builtin predeclared.Panic) e = cc
  constant_no_panic (sort.Constant t c) e = refl
  constant_no_panic (sort.OpenConstant c) e = refl
  constant_no_panic z e = cc

  panic_over : (v : Option Standin) (a : Bool) (f : Form) (i j : ℕ) (l : Label TypeTree) (qs : Typeds TypeTree) → at_hole w (is_hole a f l) i ≡ v → is_key f ≡ false → is_panic (sort_of (put_over v f i j l qs)) ≡ is_panic l.sort
  panic_over (Some v) a f i j l qs at k = sym (constant_no_panic l.sort (constant_hole a f l (hole_at w (is_hole a f l) i v at).0))
  panic_over None a f i j l qs at k = ap is_panic (plain_sort f l.sort qs k)

  panic_put : (a : Bool) (c : Part) → is_key (form_of c) ≡ false → is_panic (sort_of (put w a c)) ≡ is_panic (sort_of c)
  panic_put a (typed f i j l ps) k = panic_over (at_hole w (is_hole a f l) i) a f i j l (all_put w (is_inside a f l) ps) refl k

  panic_done : (rights : Rights) (z : Stands) (xs : List Part) → (is_call (callee_form z) && is_panic z) ≡ true → masses.is_constant (call_sort rights z xs) ≡ false
  panic_done rights (sort.Builtin predeclared.Panic) xs e = refl
  panic_done rights (sort.IsType t) xs e = cc
  panic_done rights z xs e = let both = two_true (is_call (callee_form z)) (is_panic z) e in let never : false ≡ true = both.1 in cc

  differ : {X : Type 0} (b : Bool) → b ≡ true → b ≡ false → X
  differ true e f = cc
  differ false e f = cc

  no_both : (b : Bool) (P : Type 0) → (b ≡ true → P) → (P → ⊥) → b ≡ false
  no_both true P f g = absurd (g (f refl))
  no_both false P f g = refl

  panic_is : (z : Stands) (i j : ℕ) (l : Label TypeTree) (c : Part) (qs : Typeds TypeTree) → is_panic_call (typed (callee_form z) i j l (sort.more c qs)) ≡ (is_call (callee_form z) && is_panic (sort_of c))
  panic_is z i j l c qs = ap (callee_passes is_panic) (call_bare z i j l (sort.more c qs))

  call_over : (v : Option Standin) (a : Bool) (z : Stands) (i j : ℕ) (l : Label TypeTree) (c : Part) (qs : Typeds TypeTree) → at_hole w (is_hole a (callee_form z) l) i ≡ v → is_key (form_of c) ≡ false
      → ((is_call (callee_form z) && is_panic (sort_of c)) ≡ true → masses.is_constant l.sort ≡ false)
      → is_panic_call (put_over v (callee_form z) i j l (all_put w (is_inside a (callee_form z) l) (sort.more c qs))) ≡ is_panic_call (typed (callee_form z) i j l (sort.more c qs))
  call_over (Some v) a z i j l c qs at k d =
      let constant = constant_hole a (callee_form z) l (hole_at w (is_hole a (callee_form z) l) i v at).0 in
      sym (panic_is z i j l c qs ∙ no_both (is_call (callee_form z) && is_panic (sort_of c)) (masses.is_constant l.sort ≡ false) d (λ e. differ (masses.is_constant l.sort) constant e))
  call_over None a z i j l c qs at k d =
      let b = is_inside a (callee_form z) l in
      let ps : Typeds TypeTree = sort.more (put w b c) (all_put w b qs) in
      let n : Label TypeTree = record { sort = sort_over (callee_form z) l.sort ps; varies = varies_over l.varies ps; calls = l.calls } in
      panic_is z i j n (put w b c) (all_put w b qs) ∙ ap (λ q. is_call (callee_form z) && q) (panic_put b c k) ∙ sym (panic_is z i j l c qs)

  panic_node : (z : Stands) (i j : ℕ) (l : Label TypeTree) (c : Part) (qs : Typeds TypeTree) → is_key (form_of c) ≡ false → ((is_call (callee_form z) && is_panic (sort_of c)) ≡ true → masses.is_constant l.sort ≡ false)
      → KeepsPanic (typed (callee_form z) i j l (sort.more c qs))
  panic_node z i j l c qs k d = record {
    same = λ a. call_over (at_hole w (is_hole a (callee_form z) l) i) a z i j l c qs refl k d;
    done = λ e. d (sym (panic_is z i j l c qs) ∙ e);
  }

  panic_call : (s : Scope) (h : Hint) (i j : ℕ) (c : Part) (ys : Parts) (b : Bool) → is_key (form_of c) ≡ false → KeepsPanic (built_by s kind.Call h i j (Some c ∷ ys) b)
  panic_call s h i j c ys true k = panic_node (sort_of c) i j (label (callee_form (sort_of c)) (call_sort s.rights (sort_of c) (present ys)) (Some c ∷ ys)) c (row (all_given (call_takes s.rights (sort_of c) (present ys)) ys)) k
      (λ e. panic_done s.rights (sort_of c) (present ys) e)
  panic_call s h i j c ys false k = panic_node (sort_of c) i j (label (callee_form (sort_of c)) sort.Unknown (Some c ∷ ys)) c (row ys) k (λ e. refl)

  -- in parentheses
  inner_over : (v : Option Standin) (a : Bool) (i j : ℕ) (l : Label TypeTree) (x : Part) → at_hole w (is_hole a form.Parenthesized l) i ≡ v → KeepsPanic x → (masses.is_constant (sort_of x) ≡ false → masses.is_constant l.sort ≡ false)
      → is_panic_call (put_over v form.Parenthesized i j l (all_put w (is_inside a form.Parenthesized l) (sort.more x sort.none))) ≡ is_panic_call (typed form.Parenthesized i j l (sort.more x sort.none))
  inner_over (Some v) a i j l x at p d =
      let constant = constant_hole a form.Parenthesized l (hole_at w (is_hole a form.Parenthesized l) i v at).0 in
      sym (no_both (is_panic_call x) (masses.is_constant l.sort ≡ false) (λ e. d (p.done e)) (λ e. differ (masses.is_constant l.sort) constant e))
  inner_over None a i j l x at p d = p.same (is_inside a form.Parenthesized l)

  panic_inner : (s : Scope) (h : Hint) (i j : ℕ) (x : Part) (b : Bool) → KeepsPanic x → KeepsPanic (built_by s kind.Parenthesized h i j (Some x ∷ []) b)
  panic_inner s h i j x true p =
      let l : Label TypeTree = label form.Parenthesized (sort_of x) (Some x ∷ []) in
      record { same = λ a. inner_over (at_hole w (is_hole a form.Parenthesized l) i) a i j l x refl p (λ e. e); done = p.done }
  panic_inner s h i j x false p =
      let l : Label TypeTree = label form.Parenthesized sort.Unknown (Some x ∷ []) in
      record { same = λ a. inner_over (at_hole w (is_hole a form.Parenthesized l) i) a i j l x refl p (λ e. refl); done = λ e. refl }

  plain_no_panic : (f : Form) (i j : ℕ) (l : Label TypeTree) (qs : Typeds TypeTree) → is_plain_form f ≡ true → is_panic_call (typed f i j l qs) ≡ false
  plain_no_panic form.Call i j l qs e = cc
  plain_no_panic form.Parenthesized i j l qs e = cc
  plain_no_panic f i j l qs e = refl

  plain_over : (v : Option Standin) (f : Form) (i j : ℕ) (l : Label TypeTree) (qs : Typeds TypeTree) → is_plain_form f ≡ true → is_panic_call (put_over v f i j l qs) ≡ false
  plain_over (Some v) f i j l qs e = refl
  plain_over None f i j l qs e = plain_no_panic f i j (record { sort = sort_over f l.sort qs; varies = varies_over l.varies qs; calls = l.calls }) qs e

  plain_panic : (f : Form) (i j : ℕ) (l : Label TypeTree) (qs : Typeds TypeTree) → is_plain_form f ≡ true → KeepsPanic (typed f i j l qs)
  plain_panic f i j l qs e = record {
    same = λ a. plain_over (at_hole w (is_hole a f l) i) f i j l (all_put w (is_inside a f l) qs) e ∙ sym (plain_no_panic f i j l qs e);
    done = λ m. differ (is_panic_call (typed f i j l qs)) m (plain_no_panic f i j l qs e);
  }

  panic_plain : (s : Scope) (k : Kind) (h : Hint) (i j : ℕ) (ys : Parts) (b : Bool) → is_plain_form (form_by s k h i j ys) ≡ true → KeepsPanic (built_by s k h i j ys b)
  panic_plain s k h i j ys true p = plain_panic (form_by s k h i j ys) i j (label (form_by s k h i j ys) (sort_by s k h i j ys) ys) (row (all_given (takes s k h ys) ys)) p
  panic_plain s k h i j ys false p = plain_panic (form_by s k h i j ys) i j (label (form_by s k h i j ys) sort.Unknown ys) (row ys) p

  panic_typed : (s : Scope) (h : Hint) (c : Category) (x : Tree) → IsShaped c x → is_operand (kind_of x) ≡ true → KeepsPanic (typing s h x)
  panic_typed s h c x e o = by_kinds KeepsPanic panic_call panic_inner panic_plain s h c x e o

  -- ---- expressions terminate nothing

  abbrev IsCalm : Part → Type 0
  IsCalm x = is_calm (form_of x) ≡ true

  callee_calm : (z : Stands) → is_calm (callee_form z) ≡ true
  callee_calm (sort.IsType t) = refl
  callee_calm z = refl

  plain_calm : (f : Form) → is_plain_form f ≡ true → is_calm f ≡ true
  plain_calm form.Expression e = cc
  plain_calm form.Block e = cc
  plain_calm form.If e = cc
  plain_calm form.Switch e = cc
  plain_calm (form.Case n) e = cc
  plain_calm form.Default e = cc
  plain_calm f e = refl

  call_calm : (s : Scope) (h : Hint) (i j : ℕ) (c : Part) (ys : Parts) (b : Bool) → is_key (form_of c) ≡ false → IsCalm (built_by s kind.Call h i j (Some c ∷ ys) b)
  call_calm s h i j c ys true k = callee_calm (sort_of c)
  call_calm s h i j c ys false k = callee_calm (sort_of c)

  inner_calm : (s : Scope) (h : Hint) (i j : ℕ) (x : Part) (b : Bool) → IsCalm x → IsCalm (built_by s kind.Parenthesized h i j (Some x ∷ []) b)
  inner_calm s h i j x true e = refl
  inner_calm s h i j x false e = refl

  other_calm : (s : Scope) (k : Kind) (h : Hint) (i j : ℕ) (ys : Parts) (b : Bool) → is_plain_form (form_by s k h i j ys) ≡ true → IsCalm (built_by s k h i j ys b)
  other_calm s k h i j ys true e = plain_calm (form_by s k h i j ys) e
  other_calm s k h i j ys false e = plain_calm (form_by s k h i j ys) e

  pub calm_typed : (s : Scope) (h : Hint) (c : Category) (x : Tree) → IsShaped c x → is_operand (kind_of x) ≡ true → is_calm (form_of (typing s h x)) ≡ true
  calm_typed s h c x e o = by_kinds IsCalm call_calm inner_calm other_calm s h c x e o

  -- ---- the statement

  reading_acts : (f : Frame) (p : Place) (x : Tree) → IsShaped (any p) x → Acts (tree_in (reading f statement x))
  reading_acts f p x shape =
      let o = expression_operand level.Either p x shape in subst (λ r. Acts (tree_in r)) (sym (operand_reading w f statement x o)) (acts_typed (scope_of f) statement (any p) x shape o)

  reading_panic : (f : Frame) (p : Place) (x : Tree) → IsShaped (any p) x → KeepsPanic (tree_in (reading f statement x))
  reading_panic f p x shape =
      let o = expression_operand level.Either p x shape in subst (λ r. KeepsPanic (tree_in r)) (sym (operand_reading w f statement x o)) (panic_typed (scope_of f) statement (any p) x shape o)

  expression_form : IsStatementForm w form.Expression
  expression_form = record { held = refl; key = refl; call = refl; name = λ z. refl }

  module _ (f g : Frame) (h : Hint) (i j : ℕ) (p : Place) (x : Tree) (shape : IsShaped (any p) x) (st : FramesStand w f g) where
    abbrev old : Part
    old = tree_in (reading f statement x)

    expression_old : Old w f h kind.ExpressionStatement i j (more x none)
    expression_old = record {
      parts = Some old ∷ [];
      found = found_in (reading f statement x);
      behind = frame_in (reading f statement x);
      form = form.Expression;
      laid = Some old ∷ [];
      is = after_is (reading f statement x) (λ y gs t. all_read (Some y ∷ []) gs t);
      laid_is = refl;
      form_is = refl;
    }

    pub expression_reads : ExpressionsTyped → Proper w x → no_rule_fails (found_in (reading f h (node kind.ExpressionStatement i j (more x none)))) ≡ true
        → Fits w false (tree_in (reading f h (node kind.ExpressionStatement i j (more x none)))) → Reads w f g h (node kind.ExpressionStatement i j (more x none))
    unfolding expression_old
    expression_reads law proper good fits =
        let own = old_rules w f h kind.ExpressionStatement i j (more x none) refl expression_old good in
        let all = old_fits w f h kind.ExpressionStatement i j (more x none) refl expression_old own.1 fits in
        let S = frame_in (reading f statement x) in
        let known = judged w [] (Some old ∷ []) tt all in
        let is : is_statement_call old ≡ true = (passes (is_statement_call old) [] code.UnusedValue old (rule_of w f h kind.ExpressionStatement i j (more x none) refl S form.Expression (Some old ∷ []) known own.1)).0 in
        let acts = reading_acts f p x shape is in
        let v = value_reads w law f g statement p x shape refl st proper own.0 (will (variables.has acts.0.closed all.0)) in
        let new = tree_in (reading g statement (with_variables w x)) in
        let T = frame_in (reading g statement (with_variables w x)) in
        let now : is_statement_call (begun w false old) ≡ true = ap is_statement_call (fitting_put w old v.value.ready.held all.0) ∙ acts.1 in
        node_reads w f g h kind.ExpressionStatement i j (more x none) expression_old refl refl own.1
        (record {
          parts = Some new ∷ [];
          found = found_in (reading g statement (with_variables w x));
          behind = T;
          is = after_is (reading g statement (with_variables w x)) (λ y gs t. all_read (Some y ∷ []) gs t);
          laid_is = ap (λ y. Some y ∷ []) v.reads.tree;
          form_is = refl;
          good = v.reads.failing;
          rule = own_none w g h kind.ExpressionStatement i j (all_with_variables w (more x none)) refl T form.Expression (news w (Some old ∷ []))
              (passed (is_statement_call (begun w false old)) [] code.UnusedValue (begun w false old) now refl);
          node = node_put w form.Expression i j [] (Some old ∷ []) expression_form (value_put w stay old v.value.ready all.0, tt);
          frame = back_stands w f g S T st v.reads.frame;
          calm = (reading_panic f p x shape).same false;
        })
