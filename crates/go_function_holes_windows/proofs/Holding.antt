-- The parts of statements that are no statements: names, types, and expressions.
use Rattle.std.proofs.Common.{◌≡◌, ◌∙◌, ℕ, suc, Bool, true, false, if◌then◌else◌, [], ◌∷◌, ◌++◌, Some, None, refl, sym, ap, subst, append_assoc, append-nil}
use Rattle.go_grammar.specs.declared.kind.Category.{Category}
use Rattle.go_grammar.specs.declared.kind.Category.TheVariants as category
use Rattle.go_grammar.specs.declared.kind.Kind.{Kind}
use Rattle.go_grammar.specs.declared.kind.Kind.TheVariants as kind
use Rattle.go_grammar.specs.declared.kind.Level.TheVariants as level
use Rattle.go_grammar.specs.declared.kind.Place.{Place}
use Rattle.go_grammar.specs.declared.kind.Place.TheVariants as place
use Rattle.go_grammar.specs.Categories.{within, place_of, is_expression, is_type}
use Rattle.go_grammar.specs.Grammar.{rule, any, is_name}
use Rattle.go_grammar.specs.Rules.{Rule}
use Rattle.go_grammar.specs.Trees.{Tree, node, Trees, kind_of}
use Rattle.go_grammar.specs.Trees as syntax
use Rattle.go_rewriting.specs.Replacing.{next_category, next_rule, takes_level}
use Rattle.go_typed.specs.Trees.{form_of}
use Rattle.go_exprs_rules.specs.Scopes.{Scope, Hint, several, type_place, declares}
use Rattle.go_exprs_rules.specs.Settling.{Part}
use Rattle.go_exprs_rules.specs.Tables.{Parts, is_held, held, is_placed, is_sound, own_faults}
use Rattle.go_exprs_rules.specs.Tables as expressions
use Rattle.go_exprs_rules.specs.Typing.{typing, typings, faults}
use Rattle.go_stmts_defs.specs.Frames.{Frame, scope_of}
use Rattle.go_stmts_defs.specs.Laying.{told, layout, behind_names}
use Rattle.go_stmts_defs.specs.Reading.{is_list, is_declared_name, is_statement, list_node, name_node, holding, holdings, held_faults, all_held_faults}
use Rattle.go_stmts_final_types.specs.Shapes.{IsShaped, AreShaped}
use Rattle.extract_names_derived.specs.Holes.{gives_operands}
use Rattle.go_function_trees.specs.Lists.{Faultless, parts_behind}
use Rattle.go_function_holes.proofs.Public.{Below, TypedPart, back-faultless, behind-asked, behind-more, behind-skip, behind-there, by-form, differ, expression-kind, front-faultless, judges_values, rules-next, rules_behind, shaped-kind, shaped-more, shaped-skip, typed-part, typed-unheld}
use Rattle.go_function_holes_windows.proofs.Rows.{Fine, IsBare}
use Rattle.go_function_holes_windows.proofs.Read.{PartAs, ReadAs, RowAs, row-end, row-more, row-skip}
use Rattle.go_function_holes_windows.proofs.Lists.{left-as, list-as, name-bare, new-as, targets-as, type-rest, typed-rest, values-as, values-rest}
use Rattle.go_function_holes_windows.proofs.StatementKinds.{HeldRule, expression-undeclared, expression-unlisted, for-expression, foreign, held-more, held-skip, if-expression, is_sentence, list-rule, sentence-read, switch-expression, type-placed, type-undeclared, type-unlisted}
use Rattle.go_function_holes_windows.proofs.Loops.{headed-fine, is_assigning}
use Rattle.go_function_holes_windows.proofs.Within.{Within, operand-fine}
use Rattle.go_typed.specs.declared.form.Form.{Form}
use Rattle.go_typed.specs.declared.form.Form.TheVariants as form

-- parts that are read behind others
abbrev pub RowsAs : Category → Kind → Hint → Trees → Rule → ℕ → Parts → Parts → Type 0
RowsAs c k h all r n xs found = (ys : Parts) × (found ≡ xs ++ ys) × RowAs c k h all r n xs ys

-- ---- one part

module _ (s : Frame) (h : Hint) (k : Kind) (i j : ℕ) (ps : Trees) where
  abbrev t : Tree
  t = node k i j ps

  abbrev listed_node : Part
  listed_node = list_node s k i j (layout s k i (holdings s k h ps [] ps))

  held-list : is_list k ≡ true → holding s h t ≡ listed_node
  held-list e = ap (λ b. if b then listed_node else (if is_declared_name k then name_node s i j else typing (scope_of s) h t)) e

  list-faults : is_list k ≡ true → held_faults s h t ≡ all_held_faults s k h ps [] ps
  list-faults e = ap (λ b. if b then all_held_faults s k h ps [] ps else (if is_declared_name k then [] else faults (scope_of s) h t)) e

  held-typing : is_list k ≡ false → is_declared_name k ≡ false → holding s h t ≡ typing (scope_of s) h t
  held-typing e d = ap (λ b. if b then listed_node else (if is_declared_name k then name_node s i j else typing (scope_of s) h t)) e ∙ ap (λ b. if b then name_node s i j else typing (scope_of s) h t) d

  typing-faults : is_list k ≡ false → is_declared_name k ≡ false → held_faults s h t ≡ faults (scope_of s) h t
  typing-faults e d = ap (λ b. if b then all_held_faults s k h ps [] ps else (if is_declared_name k then [] else faults (scope_of s) h t)) e ∙ ap (λ b. if b then [] else faults (scope_of s) h t) d

  typed-held : (c : Category) → IsShaped c t → is_list k ≡ false → is_declared_name k ≡ false → Faultless (held_faults s h t) → TypedPart c t h (holding s h t)
  typed-held c w e d f = subst (TypedPart c t h) (sym (held-typing e d)) (typed-part c (scope_of s) h t w (subst Faultless (typing-faults e d) f))

  -- an expression
  expression-held : (c : Category) → IsShaped c t → is_expression k ≡ true → Faultless (held_faults s h t) → TypedPart c t h (holding s h t)
  expression-held c w e f = typed-held c w (expression-unlisted k e) (expression-undeclared k e) f

  -- as a header
  header-held : (o : Bool) (c : Category) → place_of c ≡ place.Header → takes_level level.Primary c ≡ true → IsShaped (any place.Header) t → is_expression k ≡ true → Faultless (held_faults s h t) → judges_values h ≡ true → Fine (Within o c t) (holding s h t)
  header-held o c p l w e f v = operand-fine o c (any place.Header) h t (holding s h t) (sym p) l refl e v (expression-held (any place.Header) w e f)

  type-unheld : is_type k ≡ true → is_held (form_of (typing (scope_of s) h t)) ≡ false
  type-unheld e = by k e refl where
    by : (q : Kind) → is_type q ≡ true → q ≡ k → is_held (form_of (typing (scope_of s) h (node q i j ps))) ≡ false
    by kind.Name u m = typed-unheld (scope_of s) h (node kind.Name i j ps) refl
    by kind.SequenceType u m = typed-unheld (scope_of s) h (node kind.SequenceType i j ps) refl
    by kind.FunctionType u m = typed-unheld (scope_of s) h (node kind.FunctionType i j ps) refl
    by kind.StructType u m = typed-unheld (scope_of s) h (node kind.StructType i j ps) refl
    by kind.ParenthesizedType u m =
        let ys = expressions.layout kind.ParenthesizedType (typings (scope_of s) kind.ParenthesizedType h ps [] ps) in
        ap is_held (by-form (scope_of s) kind.ParenthesizedType h i j ys (is_sound kind.ParenthesizedType ys (own_faults (scope_of s) kind.ParenthesizedType h i j ys)))
    by q u m = absurd (differ u)

  type-held : (c : Category) → IsShaped c t → is_type k ≡ true → Faultless (held_faults s h t) → TypedPart c t h (holding s h t) × (is_placed k ≡ true) × (is_held (form_of (holding s h t)) ≡ false)
  type-held c w e f = (typed-held c w (type-unlisted k e) (type-undeclared k e) f, type-placed k e, ap (λ x. is_held (form_of x)) (held-typing (type-unlisted k e) (type-undeclared k e)) ∙ type-unheld e)

  -- a list
  by-list : (o : Bool) (c : Category) → is_list k ≡ true → Faultless (held_faults s h t) → (Faultless (all_held_faults s k h ps [] ps) → RowsAs c k h ps (rule (place_of c) k) 0 [] (holdings s k h ps [] ps))
      → ((zs : Parts) → RowAs c k h ps (rule (place_of c) k) 0 [] zs → ReadAs o c h t (list_node s k i j (layout s k i zs))) → ReadAs o c h t (holding s h t)
  by-list o c e f rows g =
      let found = rows (subst Faultless (list-faults e) f) in
      subst (ReadAs o c h t) (sym (held-list e)) (subst (λ ys. ReadAs o c h t (list_node s k i j (layout s k i ys))) (sym found.1) (g found.0 found.2))

bare-built : (s : Scope) (i j : ℕ) (b : Bool) → IsBare (expressions.built_by s kind.Name declares i j [] b)
bare-built s i j true = record { alone = refl; plain = refl }
bare-built s i j false = record { alone = refl; plain = refl }

name-held : (s : Frame) (h : Hint) (k : Kind) (i j : ℕ) (ps : Trees) (q : Place) → AreShaped (rule q k) ps → h ≡ declares → is_name k ≡ true → IsBare (holding s h (node k i j ps))
name-held s h kind.Name i j syntax.none q w e n =
    subst (λ g. IsBare (holding s g (node kind.Name i j syntax.none))) (sym e) (bare-built (scope_of s) i j (is_sound kind.Name [] (own_faults (scope_of s) kind.Name declares i j [])))
name-held s h kind.Name i j (syntax.more p ps) q w e n = absurd w
name-held s h kind.Name i j (syntax.skip ps) q w e n = absurd w
name-held s h k i j ps q w e n = absurd (differ n)

type-behind : (k : Kind) → is_type k ≡ true → behind_names k several ≡ type_place
type-behind kind.TypedValues e = absurd (differ e)
type-behind kind.Values e = absurd (differ e)
type-behind k e = refl

unassigning : (f : Form) → is_held f ≡ false → is_assigning f ≡ false
unassigning (form.Held k) e = absurd (differ (sym e))
unassigning f e = refl

names-listed : (k : Kind) → within category.NameList k ≡ true → is_list k ≡ true
names-listed kind.NameList w = refl
names-listed k w = absurd (differ w)

values-listed : (q : Place) (k : Kind) → within (category.ExpressionList q) k ≡ true → is_list k ≡ true
values-listed q kind.ExpressionList w = refl
values-listed q k w = absurd (differ w)

left-listed : (q : Place) (k : Kind) → within (category.LeftList q) k ≡ true → is_list k ≡ true
left-listed q kind.ExpressionList w = refl
left-listed q k w = absurd (differ w)

targets-listed : (q : Place) (k : Kind) → within (category.Targets q) k ≡ true → is_list k ≡ true
targets-listed q kind.Targets w = refl
targets-listed q k w = absurd (differ w)

new-listed : (q : Place) (k : Kind) → within (category.NewNames q) k ≡ true → is_list k ≡ true
new-listed q kind.NewNames w = refl
new-listed q k w = absurd (differ w)

module _ (o : Bool) (s : Frame) (h : Hint) (i j : ℕ) (ps : Trees) where
  abbrev Rows : Category → Kind → Type 0
  Rows c k = is_list k ≡ true → Faultless (all_held_faults s k h ps [] ps) → RowsAs c k h ps (rule (place_of c) k) 0 [] (holdings s k h ps [] ps)

  rest-type : (k : Kind) → is_type k ≡ true → IsShaped category.VariableRest (node k i j ps) → Faultless (held_faults s h (node k i j ps)) → ReadAs o category.VariableRest h (node k i j ps) (holding s h (node k i j ps))
  rest-type k e w f =
      let t = node k i j ps in
      let x = holding s h t in
      let part = type-held s h k i j ps category.VariableRest w e f in
      λ u. type-rest (Below o category.VariableRest t) category.VariableRest t x part.1 part.2 (subst (λ g. TypedPart category.VariableRest t g x) (u ∙ type-behind k e) part.0)

  no-sentence : {A : Type 0} (c : Category) (k : Kind) → is_sentence c ≡ true → within c k ≡ true → is_statement k ≡ false → A
  no-sentence c k e w m = absurd (differ (sym m ∙ sentence-read c k e w))

  -- what stands behind the names of a specification of variables
  rest-held : (k : Kind) → IsShaped category.VariableRest (node k i j ps) → Faultless (held_faults s h (node k i j ps)) → Rows category.VariableRest k → ReadAs o category.VariableRest h (node k i j ps) (holding s h (node k i j ps))
  rest-held kind.Values w f rows = by-list s h kind.Values i j ps o category.VariableRest refl f (rows refl) (λ zs r e. values-rest o s h i j ps (ap judges_values e) zs r)
  rest-held kind.TypedValues w f rows = by-list s h kind.TypedValues i j ps o category.VariableRest refl f (rows refl) (λ zs r e. typed-rest o s h i j ps (ap judges_values e) zs r)
  rest-held kind.Name w f rows = rest-type kind.Name refl w f
  rest-held kind.ParenthesizedType w f rows = rest-type kind.ParenthesizedType refl w f
  rest-held kind.SequenceType w f rows = rest-type kind.SequenceType refl w f
  rest-held kind.FunctionType w f rows = rest-type kind.FunctionType refl w f
  rest-held kind.StructType w f rows = rest-type kind.StructType refl w f
  rest-held k w f rows = absurd (differ w.0)

  held-by : (c : Category) (k : Kind) → is_statement k ≡ false → IsShaped c (node k i j ps) → Faultless (held_faults s h (node k i j ps)) → Rows c k → ReadAs o c h (node k i j ps) (holding s h (node k i j ps))
  held-by (category.Expression l q) k m w f rows =
      let e = expression-kind l k w.0 in
      record { part = expression-held s h k i j ps (category.Expression l q) w e f; expression = e; name = λ d n. name-held s h k i j ps q w.1 d n }
  held-by category.Type k m w f rows = type-held s h k i j ps category.Type w w.0 f
  held-by category.DeclaredName k m w f rows = declared k w.0 where
    declared : (k : Kind) → within category.DeclaredName k ≡ true → ReadAs o category.DeclaredName h (node k i j ps) (holding s h (node k i j ps))
    declared kind.DeclaredName v = name-bare s i j
    declared k v = absurd (differ v)
  held-by category.NameList k m w f rows = let e = names-listed k w.0 in by-list s h k i j ps o category.NameList e f (rows e) (λ zs r. list-as o s h k i j ps zs w.0 r)
  held-by (category.ExpressionList q) k m w f rows = let e = values-listed q k w.0 in by-list s h k i j ps o (category.ExpressionList q) e f (rows e) (λ zs r. values-as o q s h k i j ps zs w.0 r)
  held-by (category.LeftList q) k m w f rows = let e = left-listed q k w.0 in by-list s h k i j ps o (category.LeftList q) e f (rows e) (λ zs r. left-as o q s h k i j ps zs w.0 r)
  held-by (category.Targets q) k m w f rows = let e = targets-listed q k w.0 in by-list s h k i j ps o (category.Targets q) e f (rows e) (λ zs r. targets-as o q s h k i j ps zs w.0 r)
  held-by (category.NewNames q) k m w f rows = let e = new-listed q k w.0 in by-list s h k i j ps o (category.NewNames q) e f (rows e) (λ zs r. new-as o q s h k i j ps zs w.0 w.2 r)
  held-by category.VariableRest k m w f rows = rest-held k w f rows
  held-by category.IfHeader k m w f rows = λ v. let e = if-expression k w.0 m in header-held s h k i j ps o category.IfHeader refl refl (e, w.1, w.2) e f v
  held-by category.SwitchHeader k m w f rows = λ v. let e = switch-expression k w.0 m in header-held s h k i j ps o category.SwitchHeader refl refl (e, w.1, w.2) e f v
  held-by category.ForHeader k m w f rows = λ v.
      let e = for-expression k w.0 m in
      let part = expression-held s h k i j ps (any place.Header) (e, w.1, w.2) e f in
      headed-fine (Within o category.ForHeader (node k i j ps)) (holding s h (node k i j ps)) (unassigning (form_of (holding s h (node k i j ps))) (part.unheld e)) (header-held s h k i j ps o category.ForHeader refl refl (e, w.1, w.2) e f v)
  held-by (category.Specification d) k m w f rows = no-sentence (category.Specification d) k refl w.0 m
  held-by (category.DeclarationBody d) k m w f rows = no-sentence (category.DeclarationBody d) k refl w.0 m
  held-by category.Block k m w f rows = no-sentence category.Block k refl w.0 m
  held-by category.Else k m w f rows = no-sentence category.Else k refl w.0 m
  held-by category.Branch k m w f rows = no-sentence category.Branch k refl w.0 m
  held-by category.Clause k m w f rows = no-sentence category.Clause k refl w.0 m
  held-by category.Statement k m w f rows = no-sentence category.Statement k refl w.0 m
  held-by category.Simple k m w f rows = no-sentence category.Simple k refl w.0 m
  held-by category.Post k m w f rows = no-sentence category.Post k refl w.0 m
  held-by c k m w f rows = tt

-- ---- whole parts

mutual
  pub holding-as : (o : Bool) (s : Frame) (h : Hint) (c : Category) (t : Tree) → is_statement (kind_of t) ≡ false → IsShaped c t → Faultless (held_faults s h t) → ReadAs o c h t (holding s h t)
  holding-as o s h c (node k i j ps) m w f =
      held-by o s h i j ps c k m w f (λ e g. holdings-row c k h ps s 0 (rule (place_of c) k) [] ps refl refl (list-rule (place_of c) k e) w.1 g)

  holdings-row : (c : Category) (k : Kind) (h : Hint) (all : Trees) (s : Frame) (n : ℕ) (r : Rule) (xs : Parts) (ps : Trees) → parts_behind n all ≡ ps → rules_behind n (rule (place_of c) k) ≡ r → HeldRule r → AreShaped r ps
      → Faultless (all_held_faults s k h all xs ps) → RowsAs c k h all r n xs (holdings s k h all xs ps)
  holdings-row c k h all s n r xs syntax.none at a e w f = ([], sym (append-nil xs), row-end c k h all r n xs w)
  holdings-row c k h all s n r xs (syntax.more p ps) at a e w f =
      let g = told k h all xs (kind_of p) in
      let x = holding s g p in
      let v = shaped-more r p ps w in
      let u = held-more r p ps w e in
      let rest = holdings-row c k h all s (suc n) (next_rule r) (xs ++ Some x ∷ []) ps (behind-more n all p ps at) (rules-next n (rule (place_of c) k) ∙ ap next_rule a) u.1 v.1 (back-faultless (held_faults s g p) _ f) in
      let part : PartAs c k h all n (next_category r) xs x = record {
        stood = p;
        at = λ z. record { there = behind-there n all p ps at; asked = behind-asked n (rule (place_of c) k) all p ps at ∙ ap (λ q. Some (next_category q)) a; holds = z };
        read = holding-as (gives_operands k n) s g (next_category r) p (foreign (next_category r) (kind_of p) u.0 (shaped-kind (next_category r) p v.0)) v.0 (front-faultless (held_faults s g p) _ f);
      } in
      (Some x ∷ rest.0, rest.1 ∙ append_assoc xs (Some x ∷ []) rest.0, row-more c k h all r n xs p ps x rest.0 w part rest.2)
  holdings-row c k h all s n r xs (syntax.skip ps) at a e w f =
      let rest = holdings-row c k h all s (suc n) (next_rule r) (xs ++ None ∷ []) ps (behind-skip n all ps at) (rules-next n (rule (place_of c) k) ∙ ap next_rule a) (held-skip r ps w e) (shaped-skip r ps w) f in
      (None ∷ rest.0, rest.1 ∙ append_assoc xs (None ∷ []) rest.0, row-skip c k h all r n xs ps None rest.0 w tt rest.2)
