-- Expressions and types whose names are known, and that have no faults, are known.
use Rattle.std.proofs.Common.{◌≡◌, ℕ, Bool, true, false, cond, [], ◌∷◌, ◌++◌, List, Option, Some, None, refl, sym, subst, ◌∙◌, true≢false}
use Rattle.std.specs.Prelude.{◌&&◌, ◌||◌, not, is_some}
use Rattle.go_grammar.specs.declared.kind.Category.{Category}
use Rattle.go_grammar.specs.declared.kind.Category.TheVariants as category
use Rattle.go_grammar.specs.declared.kind.Kind.{Kind}
use Rattle.go_grammar.specs.declared.kind.Kind.TheVariants as kind
use Rattle.go_grammar.specs.declared.kind.Place.TheVariants as place
use Rattle.go_grammar.specs.Categories.{place_of}
use Rattle.go_grammar.specs.Categories as categories
use Rattle.go_grammar.specs.Grammar.{rule, is_name}
use Rattle.go_grammar.specs.Rules.{Rule}
use Rattle.go_grammar.specs.Trees.{Tree, node, Trees, none, more, skip, kind_of}
use Rattle.go_tokens.specs.declared.token.TokenKind.TheVariants as token
use Rattle.go_types.specs.Trees.{TypeTree}
use Rattle.go_types.specs.Relations.{Rights}
use Rattle.go_typed.specs.declared.form.Form.{Form}
use Rattle.go_typed.specs.declared.form.Form.TheVariants as form
use Rattle.go_typed.specs.declared.form.Referent.TheVariants as referent
use Rattle.go_typed.specs.Trees.{Typeds, typed, sort_of, form_of, parts_of, list_of, row}
use Rattle.go_typed.specs.Trees as sort
use Rattle.go_exprs_rules.specs.declared.fault.TypeFault.{TypeFault}
use Rattle.go_exprs_rules.specs.Faults.{or_else, reported}
use Rattle.go_exprs_rules.specs.Names.{name_sort, name_form, place_failing}
use Rattle.go_exprs_rules.specs.Scopes.{Scope, Hint, declares, free, member}
use Rattle.go_exprs_rules.specs.Settling.{Part}
use Rattle.go_exprs_rules.specs.Sorts.{Stands, is_unknown, named_type}
use Rattle.go_exprs_rules.specs.Tables.{Parts, hint, part_scope, layout, held, has_no_low, is_package, is_make_call, cut, first_cut, is_type, takes, is_placed, is_judged, no_faults, own_faults, failing, placing, form_by, sort_by, selector_form, bracketed_form, callee_form, key_form, on_first, made, built_by, built, found, as_type_place}
use Rattle.go_exprs_rules.specs.Tables as tables
use Rattle.go_exprs_rules.specs.TypeNodes.{is_parameter, is_result_list, entry_of, entry_types, all_types, result_types}
use Rattle.go_exprs_rules.specs.Typing.{typing, typings, faults, faults_of_parts}
use Rattle.go_stmts_final_types.specs.Known.{VariableIsTyped, is_package_variable, DeclaresOwn, IsKnown}
use Rattle.go_stmts_final_types.specs.Names.{Standing, NameIsKnown, NodeIsKnown, standing_in, ExpressionIsKnown, ExpressionsAreKnown}
use Rattle.go_stmts_final_types.specs.Shapes.{IsShaped, AreShaped}
use Rattle.go_stmts_final_types.proofs.Entries.{entry_some, entry_next, one_some, parameters_some, results_some}
use Rattle.go_stmts_final_types.proofs.Facts.{Clear, Fact, Facts, EntryFact, is_typing, is_declaring, reads, type_asked, type_named, type_placed}
use Rattle.go_stmts_final_types.proofs.Holders.{list_row}
use Rattle.go_stmts_final_types.proofs.Known.{AllKnown, known_row, known_both, all_given_known, first_cut_known, optional_known, all_held_known, known_judged}
use Rattle.go_stmts_final_types.proofs.Operands.{name_fails}
use Rattle.go_stmts_final_types.proofs.Places as places
use Rattle.go_stmts_final_types.proofs.Reading.{reported_front, reported_back, one_none}
use Rattle.go_stmts_final_types.proofs.RowRules.{front, behind_front, shaped_front, shaped_behind, shaped_skip}
use Rattle.go_stmts_final_types.proofs.Rows.{ranked}
use Rattle.go_stmts_final_types.proofs.Stood.{node_fits, node_known, signature_typed}
use Rattle.go_stmts_final_types.proofs.Typing.{typings_are}

-- ---- parts as they are laid out

bounds_known : (b : Bool) (x : Option Part) → AllKnown (x ∷ []) → AllKnown (cond b (None ∷ held x) (held x))
bounds_known true x h = optional_known x h
bounds_known false x h = optional_known x h

selector_known : (b : Bool) (x : Part) → AllKnown (Some x ∷ []) → AllKnown (cond b [] (Some x ∷ []))
selector_known true x h = tt
selector_known false x h = h

call_known : (b : Bool) (x : Option Part) (xs : Parts) → AllKnown (x ∷ xs) → AllKnown (cond b (x ∷ first_cut xs) (cut x ∷ xs))
call_known true None xs h = first_cut_known xs h
call_known true (Some x) xs h = (h.0, first_cut_known xs h.1)
call_known false None xs h = h
call_known false (Some x) xs h = first_cut_known (Some x ∷ xs) h

one_of : (x : Option Part) (xs : Parts) → AllKnown (x ∷ xs) → AllKnown (x ∷ []) × AllKnown xs
one_of None xs h = (tt, h)
one_of (Some x) xs h = ((h.0, tt), h.1)

with_one : (x : Option Part) (xs : Parts) → AllKnown (x ∷ []) → AllKnown xs → AllKnown (x ∷ xs)
with_one None xs h g = g
with_one (Some x) xs h g = (h.0, g)

layout_known : (k : Kind) (xs : Parts) → AllKnown xs → AllKnown (layout k xs)
layout_known kind.Selector [] h = h
layout_known kind.Selector (None ∷ xs) h = h
layout_known kind.Selector (Some x ∷ []) h = selector_known (is_package (sort_of x)) x h
layout_known kind.Selector (Some x ∷ y ∷ ys) h = h
layout_known kind.Bracketed [] h = h
layout_known kind.Bracketed (x ∷ []) h = h
layout_known kind.Bracketed (x ∷ y ∷ ys) h = let a = one_of x (y ∷ ys) h in with_one x (cond (has_no_low y) (None ∷ held y) (held y)) a.0 (bounds_known (has_no_low y) y (one_of y ys a.1).0)
layout_known kind.Call [] h = h
layout_known kind.Call (x ∷ xs) h = call_known (is_make_call (x ∷ xs)) x xs h
layout_known kind.Composite xs h = first_cut_known xs h
layout_known kind.LiteralValue xs h = h
layout_known kind.Keyed [] h = h
layout_known kind.Keyed (x ∷ xs) h = (one_of x xs h).1
layout_known kind.Fields xs h = all_held_known xs h
layout_known kind.StructType xs h = all_held_known xs h
layout_known k xs h = h

-- ---- forms

-- neither a variable of the package nor a declaration of constants
abbrev is_plain : Form → Bool
is_plain (form.Object (referent.Variable n)) = false
is_plain form.Constants = false
is_plain f = true

abbrev pub is_constants : Form → Bool
is_constants form.Constants = true
is_constants f = false

plain_variable : (f : Form) → is_plain f ≡ true → is_package_variable f ≡ false
plain_variable (form.Object (referent.Variable n)) e = cc
plain_variable f e = refl

plain_constants : (f : Form) → is_plain f ≡ true → is_constants f ≡ false
plain_constants form.Constants e = cc
plain_constants f e = refl

pub no_constants : (f : Form) → is_constants f ≡ false → (ps : Typeds TypeTree) → DeclaresOwn f ps
no_constants form.Constants e ps = cc
no_constants f e ps = tt

callee_plain : (x : Stands) → is_plain (callee_form x) ≡ true
callee_plain (sort.IsType t) = refl
callee_plain x = refl

call_plain : (ys : Parts) → is_plain (on_first form.Call (λ f xs. callee_form (sort_of f)) ys) ≡ true
call_plain [] = refl
call_plain (None ∷ ys) = refl
call_plain (Some x ∷ ys) = callee_plain (sort_of x)

selector_plain : (rights : Rights) (name : List ℕ) (ys : Parts) → is_plain (selector_form rights name ys) ≡ true
selector_plain rights name [] = refl
selector_plain rights name (None ∷ ys) = refl
selector_plain rights name (Some x ∷ []) = refl
selector_plain rights name (Some x ∷ y ∷ ys) = refl

bracketed_plain : (ys : Parts) → is_plain (bracketed_form ys) ≡ true
bracketed_plain [] = refl
bracketed_plain (x ∷ []) = refl
bracketed_plain (x ∷ y ∷ []) = refl
bracketed_plain (x ∷ y ∷ z ∷ ys) = refl

key_plain : (rights : Rights) (h : Hint) (name : List ℕ) → is_plain (key_form rights h name) ≡ true
key_plain rights (member t) name = refl
key_plain rights h name = refl

form_plain : (s : Scope) (k : Kind) (h : Hint) (i j : ℕ) (ys : Parts) → is_name k ≡ false → is_plain (form_by s k h i j ys) ≡ true
form_plain s kind.Name h i j ys e = cc
form_plain s kind.Selector h i j ys e = selector_plain s.rights _ ys
form_plain s kind.Bracketed h i j ys e = bracketed_plain ys
form_plain s kind.Call h i j ys e = call_plain ys
form_plain s kind.Keyed h i j ys e = key_plain s.rights h (s.texts i)
form_plain s k h i j ys e = refl

pub nothing_typed : (b : Bool) → VariableIsTyped b sort.Nothing
nothing_typed true = refl
nothing_typed false = tt

name_variable : (r : Standing) (s : Scope) (h : Hint) (i : ℕ) → NameIsKnown r s h i → VariableIsTyped (is_package_variable (name_form s h i)) (name_sort s h i)
name_variable r s declares i n = nothing_typed (is_package_variable (name_form s declares i))
name_variable r s free i n = nothing_typed (is_package_variable (name_form s free i))
name_variable r s h i n = n.typed

variable_by : (r : Standing) (s : Scope) (k : Kind) (h : Hint) (i j : ℕ) (ys : Parts) (b : Bool) → is_name k ≡ b → NodeIsKnown k r s h i → VariableIsTyped (is_package_variable (form_by s k h i j ys)) (sort_by s k h i j ys)
variable_by r s kind.Name h i j ys b e n = name_variable r s h i n
variable_by r s k h i j ys true e n = cc
variable_by r s k h i j ys false e n = subst (λ z. VariableIsTyped z (sort_by s k h i j ys)) (sym (plain_variable (form_by s k h i j ys) (form_plain s k h i j ys e))) tt

constants_by : (s : Scope) (k : Kind) (h : Hint) (i j : ℕ) (ys : Parts) (b : Bool) → is_name k ≡ b → is_constants (form_by s k h i j ys) ≡ false
constants_by s kind.Name h i j ys b e = name_fails is_constants refl (λ r. refl) (λ n. refl) (λ n. refl) refl s h i
constants_by s k h i j ys true e = cc
constants_by s k h i j ys false e = plain_constants (form_by s k h i j ys) (form_plain s k h i j ys e)

-- ---- a node without faults

own_none : (b : Bool) (fs gs : List TypeFault) → b ≡ true → cond b (or_else fs gs) [] ≡ [] → (fs ≡ []) × (gs ≡ [])
own_none true [] gs m e = (refl, e)
own_none true (f ∷ fs) gs m e = cc
own_none false fs gs m e = cc

sound_by : (b j : Bool) (own : List TypeFault) → j ≡ true → own ≡ [] → (not b || (j && no_faults own)) ≡ true
sound_by true true [] m e = refl
sound_by true true (f ∷ fs) m e = cc
sound_by true false own m e = cc
sound_by false j own m e = refl

placed_by : (b : Bool) (fs : List TypeFault) → b ≡ true → cond b fs [] ≡ [] → fs ≡ []
placed_by true fs m e = e
placed_by false fs m e = cc

-- the node over its parts, where it is sound
abbrev over_parts : Scope → Hint → Kind → ℕ → ℕ → Parts → Part
over_parts s h k i j ys = made (form_by s k h i j ys) i j (sort_by s k h i j ys) ys (tables.all_given (takes s k h ys) ys)

abbrev laid : Scope → Hint → Kind → Trees → Parts
laid s h k ps = layout k (typings s k h ps [] ps)

-- what is known of a node without faults
record Node (r : Standing) (s : Scope) (h : Hint) (c : Category) (k : Kind) (i j : ℕ) (ps : Trees) : Type 0 where
  pub shape : IsShaped c (node k i j ps)
  pub names : NodeIsKnown k r s h i
  pub facts : Facts r s k h ps [] ps (rule (place_of c) k)
  pub parts : AllKnown (typings s k h ps [] ps)
  pub fails : failing s k h i j (laid s h k ps) ≡ []
  pub places : placing s k h i j (sort_by s k h i j (laid s h k ps)) ≡ []

module _ (r : Standing) (s : Scope) (h : Hint) (i j : ℕ) where
  sort_known : (c : Category) (k : Kind) (ps : Trees) → Node r s h c k i j ps → is_unknown (sort_by s k h i j (laid s h k ps)) ≡ false
  sort_known c k ps m = node_known r s h i j (place_of c) k ps m.shape.1 m.names m.facts m.fails m.parts

  part_known : (c : Category) (k : Kind) (ps : Trees) → Node r s h c k i j ps → IsKnown (over_parts s h k i j (laid s h k ps))
  part_known c k ps m =
      let ys = laid s h k ps in (
        sort_known c k ps m,
        variable_by r s k h i j ys (is_name k) refl m.names,
        no_constants (form_by s k h i j ys) (constants_by s k h i j ys (is_name k) refl) (row (tables.all_given (takes s k h ys) ys)),
        known_row (tables.all_given (takes s k h ys) ys) (all_given_known (takes s k h ys) ys (layout_known k (typings s k h ps [] ps) m.parts)),
      )

  part_clear : (c : Category) (k : Kind) (ps : Trees) → Node r s h c k i j ps → is_placed k ≡ true → (is_name k ≡ true → reads h ≡ true) → Clear r s.rights h (over_parts s h k i j (laid s h k ps))
  part_clear c k ps m p g = record {
    fits = node_fits r s h i j (place_of c) k ps m.shape.1 m.names m.facts m.fails p g;
    first = i;
    last = j;
    placed = placed_by (is_placed k) (place_failing s.rights h i j (sort_by s k h i j (laid s h k ps))) p m.places;
  }

  part_typed : (c : Category) (k : Kind) (ps : Trees) → Node r s h c k i j ps → categories.is_type k ≡ true → is_typing h ≡ true → is_type (sort_by s k h i j (laid s h k ps)) ≡ true
  part_typed c k ps m p t =
      let x = sort_by s k h i j (laid s h k ps) in
      type_placed s.rights h i j x t (placed_by (is_placed k) (place_failing s.rights h i j x) (places.type_placed k p) m.places) (sort_known c k ps m)

  -- ---- entries

  name_nothing : is_declaring h ≡ true → name_sort s h i ≡ sort.Nothing
  name_nothing d = by h d
    where
      by : (g : Hint) → is_declaring g ≡ true → name_sort s g i ≡ sort.Nothing
      by declares d = refl
      by g d = cc

  parameter_typed : (ps : Trees) → AreShaped (rule place.Free kind.Parameter) ps → Facts r s kind.Parameter h ps [] ps (rule place.Free kind.Parameter) → (next : Option TypeTree)
      → is_some (entry_of (over_parts s h kind.Parameter i j (laid s h kind.Parameter ps)) next) ≡ true
  parameter_typed none w f next = elim w [ ]
  parameter_typed (skip ps) w f next = elim w [ ]
  parameter_typed (more q none) w f next = elim w.1 [ ]
  parameter_typed (more q (skip ps)) w f next = elim w.1 [ ]
  parameter_typed (more q (more t none)) w f next = type_named (sort_of (typing s (as_type_place h) t)) (f.1.0.1 (type_asked h))
  parameter_typed (more q (more t (more o ps))) w f next = elim w.1.1 [ ]
  parameter_typed (more q (more t (skip ps))) w f next = elim w.1.1 [ ]

  type_entry : (k : Kind) (ps : Trees) → Node r s h category.Entry k i j ps → categories.is_type k ≡ true → is_name k ≡ false → is_parameter (form_by s k h i j (laid s h k ps)) ≡ false → EntryFact h k (over_parts s h k i j (laid s h k ps))
  type_entry k ps m p n f = record {
    typed = λ t next. entry_some (over_parts s h k i j (laid s h k ps)) f (part_typed category.Entry k ps m p t) next;
    named = λ d e next. absurd (true≢false (sym e ∙ n));
  }

  entry_fact : (k : Kind) (ps : Trees) → Node r s h category.Entry k i j ps → EntryFact h k (over_parts s h k i j (laid s h k ps))
  entry_fact kind.Parameter ps m = record { typed = λ t next. parameter_typed ps m.shape.1 m.facts next; named = λ d e next. absurd (true≢false (sym e)) }
  entry_fact kind.Name ps m =
      let x = over_parts s h kind.Name i j (laid s h kind.Name ps) in
      let p = name_fails is_parameter refl (λ r. refl) (λ n. refl) (λ n. refl) refl s h i in
      record { typed = λ t next. entry_some x p (part_typed category.Entry kind.Name ps m refl t) next; named = λ d e next. entry_next x p (name_nothing d) next }
  entry_fact kind.ParenthesizedType ps m = type_entry kind.ParenthesizedType ps m refl refl refl
  entry_fact kind.SequenceType ps m = type_entry kind.SequenceType ps m refl refl refl
  entry_fact kind.FunctionType ps m = type_entry kind.FunctionType ps m refl refl refl
  entry_fact kind.StructType ps m = type_entry kind.StructType ps m refl refl refl
  entry_fact k ps m = let e = m.shape.0 in cc

  parameters_fact : (k : Kind) (ps : Trees) → Node r s h category.Parameters k i j ps → is_typing h ≡ true → is_some (all_types (entry_types (list_of (parts_of (over_parts s h k i j (laid s h k ps)))))) ≡ true
  parameters_fact kind.Parameters ps m t =
      let xs = typings s kind.Parameters h ps [] ps in
      subst (λ zs. is_some (all_types (entry_types zs)) ≡ true) (sym (list_row xs ∙ typings_are s kind.Parameters h ps [] ps))
      (parameters_some r s h (token.LeftParenthesis ∷ []) token.Comma token.RightParenthesis ps m.shape.2 t m.facts)
  parameters_fact k ps m t = let e = m.shape.0 in cc

  named_result : (x : Part) → is_result_list (form_of x) ≡ false → is_type (sort_of x) ≡ true → is_some (all_types (result_types (Some x))) ≡ true
  named_result x e t = subst (λ b. is_some (all_types (cond b (entry_types (list_of (parts_of x))) (named_type (sort_of x) ∷ []))) ≡ true) (sym e) (one_some (named_type (sort_of x)) (type_named (sort_of x) t))

  result_fact : (k : Kind) (ps : Trees) → Node r s h category.Result k i j ps → is_typing h ≡ true → is_some (all_types (result_types (Some (over_parts s h k i j (laid s h k ps))))) ≡ true
  result_fact kind.Results ps m t =
      let xs = typings s kind.Results h ps [] ps in
      subst (λ zs. is_some (all_types (entry_types zs)) ≡ true) (sym (list_row xs ∙ typings_are s kind.Results h ps [] ps))
      (results_some r s h (token.LeftParenthesis ∷ []) token.Comma token.RightParenthesis ps [] ps m.shape.1 m.facts)
  result_fact kind.Name ps m t = named_result (over_parts s h kind.Name i j (laid s h kind.Name ps)) (name_fails is_result_list refl (λ r. refl) (λ n. refl) (λ n. refl) refl s h i) (part_typed category.Result kind.Name ps m refl t)
  result_fact kind.SequenceType ps m t = named_result (over_parts s h kind.SequenceType i j (laid s h kind.SequenceType ps)) refl (part_typed category.Result kind.SequenceType ps m refl t)
  result_fact kind.FunctionType ps m t = named_result (over_parts s h kind.FunctionType i j (laid s h kind.FunctionType ps)) refl (part_typed category.Result kind.FunctionType ps m refl t)
  result_fact kind.StructType ps m t = named_result (over_parts s h kind.StructType i j (laid s h kind.StructType ps)) refl (part_typed category.Result kind.StructType ps m refl t)
  result_fact k ps m t = let e = m.shape.0 in cc

  signature_fact : (k : Kind) (ps : Trees) → Node r s h category.Signature k i j ps → is_type (sort_by s k h i j (laid s h k ps)) ≡ true
  signature_fact kind.Signature ps m = signature_typed r s h i j place.Free ps m.shape.1 m.facts
  signature_fact k ps m = let e = m.shape.0 in cc

  -- ---- by category

  node_fact : (c : Category) (k : Kind) (ps : Trees) → Node r s h c k i j ps → Fact c r s.rights h k (over_parts s h k i j (laid s h k ps))
  node_fact (category.Expression l p) k ps m = λ e. part_clear (category.Expression l p) k ps m (places.expression_placed k (ranked l k m.shape.0)) (λ n. e)
  node_fact category.Type k ps m = (λ e. part_clear category.Type k ps m (places.type_placed k m.shape.0) (λ n. e), λ t. part_typed category.Type k ps m m.shape.0 t)
  node_fact category.Entry k ps m = entry_fact k ps m
  node_fact category.Parameters k ps m = parameters_fact k ps m
  node_fact category.Result k ps m = result_fact k ps m
  node_fact category.Signature k ps m = signature_fact k ps m
  node_fact c k ps m = tt

  -- what is built is that node
  built_known : (c : Category) (k : Kind) (ps : Trees) → IsShaped c (node k i j ps) → NodeIsKnown k r s h i → Facts r s k h ps [] ps (rule (place_of c) k) → AllKnown (typings s k h ps [] ps) → found s k h i j (typings s k h ps [] ps) ≡ []
      → IsKnown (built s k h i j (typings s k h ps [] ps)) × Fact c r s.rights h k (built s k h i j (typings s k h ps [] ps))
  built_known c k ps w n f a e =
      let ys = laid s h k ps in
      let j_ = known_judged ys (layout_known k (typings s k h ps [] ps) a) in
      let o = own_none (is_judged ys) (failing s k h i j ys) (placing s k h i j (sort_by s k h i j ys)) j_ e in
      let m : Node r s h c k i j ps = record { shape = w; names = n; facts = f; parts = a; fails = o.0; places = o.1 } in
      subst (λ b. IsKnown (built_by s k h i j ys b) × Fact c r s.rights h k (built_by s k h i j ys b)) (sym (sound_by (is_placed k) (is_judged ys) (own_faults s k h i j ys) j_ e)) (part_known c k ps m, node_fact c k ps m)

-- ---- whole trees

scope_rights : (s : Scope) (k : Kind) (xs : Parts) → (part_scope s k xs).rights ≡ s.rights
scope_rights s kind.SequenceType [] = refl
scope_rights s kind.SequenceType (x ∷ xs) = refl
scope_rights s k xs = refl

mutual
  pub typing_known : (r : Standing) (s : Scope) (h : Hint) (c : Category) (t : Tree) → IsShaped c t → ExpressionIsKnown r s h t → reported (faults s h t) ≡ None → IsKnown (typing s h t) × Fact c r s.rights h (kind_of t) (typing s h t)
  typing_known r s h c (node k i j ps) w n e =
      let own = found s k h i j (typings s k h ps [] ps) in
      let m = parts_known r s k h ps [] ps (rule (place_of c) k) w.1 n.1 (reported_front (faults_of_parts s k h ps [] ps) (own ∷ []) e) tt in
      built_known r s h i j c k ps w n.0 m.1 m.0 (one_none own (reported_back (faults_of_parts s k h ps [] ps) (own ∷ []) e))

  parts_known : (r : Standing) (s : Scope) (k : Kind) (h : Hint) (all : Trees) (xs : Parts) (ps : Trees) (w : Rule) → AreShaped w ps → ExpressionsAreKnown r s k h all xs ps → reported (faults_of_parts s k h all xs ps) ≡ None → AllKnown xs
      → AllKnown (typings s k h all xs ps) × Facts r s k h all xs ps w
  parts_known r s k h all xs none w g n e a = (a, tt)
  parts_known r s k h all xs (more p ps) w g n e a =
      let t = part_scope s k xs in
      let q = hint s k h all xs (kind_of p) in
      let x = typing t q p in
      let later = faults_of_parts s k h all (xs ++ Some x ∷ []) ps in
      let own = typing_known (standing_in r k xs (kind_of p)) t q (front w) p (shaped_front w p ps g) n.0 (reported_front (faults t q p) later e) in
      let rest = parts_known r s k h all (xs ++ Some x ∷ []) ps (behind_front w) (shaped_behind w p ps g) n.1 (reported_back (faults t q p) later e) (known_both xs (Some x ∷ []) a (own.0, tt)) in
      (rest.0, (subst (λ z. Fact (front w) (standing_in r k xs (kind_of p)) z q (kind_of p) x) (scope_rights s k xs) own.1, rest.1))
  parts_known r s k h all xs (skip ps) w g n e a = parts_known r s k h all (xs ++ None ∷ []) ps (behind_front w) (shaped_skip w ps g) n e (known_both xs (None ∷ []) a tt)
