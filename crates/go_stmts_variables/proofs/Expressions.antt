-- Expressions in statements, with variables in them.
use Rattle.std.proofs.Common.{◌≡◌, ◌∙◌, ◌⊎◌, inl, inr, ℕ, Bool, true, false, List, [], ◌∷◌, Option, Some, None, refl, ap, subst}
use Rattle.std.specs.Prelude.{◌-◌, ◌&&◌, ◌||◌, not, if◌then◌else◌}
use Rattle.go_grammar.specs.declared.kind.Category.TheVariants as category
use Rattle.go_grammar.specs.declared.kind.Kind.{Kind}
use Rattle.go_grammar.specs.declared.kind.Kind.TheVariants as kind
use Rattle.go_grammar.specs.declared.kind.Level.{Level}
use Rattle.go_grammar.specs.declared.kind.Place.{Place}
use Rattle.go_grammar.specs.Categories as categories
use Rattle.go_grammar.specs.Trees.{Tree, node, Trees, kind_of}
use Rattle.go_tree.specs.declared.object.Object.{Object}
use Rattle.go_tree.specs.declared.object.Object.TheVariants as object
use Rattle.go_types.specs.Trees.{TypeTree}
use Rattle.go_types.specs.Relations.{Rights}
use Rattle.go_typed.specs.declared.form.Form.TheVariants as form
use Rattle.go_typed.specs.Trees.{sort_of, form_of}
use Rattle.go_typed.specs.Trees as sort
use Rattle.go_exprs_rules.specs.declared.fault.TypeFault.{TypeFault}
use Rattle.go_exprs_rules.specs.Faults.{or_else}
use Rattle.go_exprs_rules.specs.Names.{place_failing, name_sort, name_form, object_form, form_or_type}
use Rattle.go_exprs_rules.specs.Scopes.{Scope, Hint, value, several, target, statement}
use Rattle.go_exprs_rules.specs.Settling.{Part, settled}
use Rattle.go_exprs_rules.specs.Sorts.{Stands, is_open, is_nil, is_unknown}
use Rattle.go_exprs_rules.specs.Tables.{Parts, layout, on_first, callee_form, selector_form, bracketed_form, form_by, is_type, is_placed, is_judged, is_sound, no_faults, own_faults, failing, placing, sort_by, built_by}
use Rattle.go_exprs_rules.specs.Typing.{typing, typings, faults}
use Rattle.go_stmts_defs.specs.Frames.{Frame, scope_of}
use Rattle.go_stmts_defs.specs.Reading.{read, reading, readings, is_statement, is_list, is_declared_name, is_new, holding, held_faults}
use Rattle.go_stmts_defs.specs.Reading as reads
use Rattle.go_stmts_defs.specs.Laying as laying
use Rattle.go_exprs_variables.specs.Shapes.{IsShaped}
use Rattle.go_exprs_variables.specs.Variables.{Standins, ends_at, may_be_constant, node_with, with_variables, all_with_variables, expresses, is_naming, StandsIn, Proper, Fits, WillFit, no_rule_fails, IsTypedWithVariables, ExpressionsTyped}
use Rattle.go_exprs_variables.specs.Variables as variables
use Rattle.go_exprs_variables.proofs.Public.{All, Ready, expression_operand, is_operand, known_sort, operand_facts, placed_kind, split_operand, valued_expresses}

-- ---- what stands in a place for values is no type

-- places that ask for a value
abbrev pub asks : Hint → Bool
asks value = true
asks several = true
asks target = true
asks statement = true
asks h = false

pub asks_naming : (h : Hint) → asks h ≡ true → is_naming h ≡ false
asks_naming value e = refl
asks_naming several e = refl
asks_naming target e = refl
asks_naming statement e = refl
asks_naming h e = cc

type_fails : (rights : Rights) (h : Hint) (i j : ℕ) (t : TypeTree) → asks h ≡ true → place_failing rights h i j (sort.IsType t) ≡ [] → ⊥
type_fails rights value i j t a e = cc
type_fails rights h i j t a e = cc

no_type : (rights : Rights) (h : Hint) (i j : ℕ) (x : Stands) → asks h ≡ true → place_failing rights h i j x ≡ [] → is_type x ≡ false
no_type rights h i j (sort.IsType t) a e = absurd (type_fails rights h i j t a e)
no_type rights h i j x a e = refl

none_fails : (fs : List TypeFault) → no_faults fs ≡ true → fs ≡ []
none_fails [] e = refl
none_fails (f ∷ fs) e = cc

no_placing : (b : Bool) (fs gs : List TypeFault) → (b && no_faults (if b then or_else fs gs else [])) ≡ true → gs ≡ []
no_placing true [] gs e = none_fails gs e
no_placing true (f ∷ fs) gs e = cc
no_placing false fs gs e = cc

placed_by : (P : Stands → Type 0) (s : Scope) (k : Kind) (h : Hint) (i j : ℕ) (ys : Parts) → is_placed k ≡ true → P sort.Unknown → (place_failing s.rights h i j (sort_by s k h i j ys) ≡ [] → P (sort_by s k h i j ys))
    → P (sort_of (built_by s k h i j ys (is_sound k ys (own_faults s k h i j ys))))
placed_by P s k h i j ys p u g = by (is_sound k ys (own_faults s k h i j ys)) refl
  where
    by : (b : Bool) → is_sound k ys (own_faults s k h i j ys) ≡ b → P (sort_of (built_by s k h i j ys b))
    by true e =
        let m : (is_judged ys && no_faults (own_faults s k h i j ys)) ≡ true = subst (λ b. (not b || (is_judged ys && no_faults (own_faults s k h i j ys))) ≡ true) p e in
        let r = no_placing (is_judged ys) (failing s k h i j ys) (placing s k h i j (sort_by s k h i j ys)) m in
        g (subst (λ b. (if b then place_failing s.rights h i j (sort_by s k h i j ys) else []) ≡ []) p r)
    by false e = u

literal_placed : (k : Kind) → categories.is_type_literal k ≡ true → is_placed k ≡ true
literal_placed kind.SequenceType e = refl
literal_placed kind.FunctionType e = refl
literal_placed kind.StructType e = refl
literal_placed k e = cc

-- ---- operands are no statements, nor do they hold other parts

pub record IsPlain (k : Kind) : Type 0 where
  pub statement : is_statement k ≡ false
  pub list : is_list k ≡ false
  pub declared : is_declared_name k ≡ false

plain_expression : (k : Kind) → expresses k ≡ true → IsPlain k
plain_expression kind.Name e = record { statement = refl; list = refl; declared = refl }
plain_expression kind.Integer e = record { statement = refl; list = refl; declared = refl }
plain_expression kind.Rune e = record { statement = refl; list = refl; declared = refl }
plain_expression kind.Text e = record { statement = refl; list = refl; declared = refl }
plain_expression kind.Parenthesized e = record { statement = refl; list = refl; declared = refl }
plain_expression (kind.Unary o) e = record { statement = refl; list = refl; declared = refl }
plain_expression (kind.Binary o) e = record { statement = refl; list = refl; declared = refl }
plain_expression kind.Selector e = record { statement = refl; list = refl; declared = refl }
plain_expression kind.Bracketed e = record { statement = refl; list = refl; declared = refl }
plain_expression kind.Call e = record { statement = refl; list = refl; declared = refl }
plain_expression kind.Composite e = record { statement = refl; list = refl; declared = refl }
plain_expression kind.LiteralValue e = record { statement = refl; list = refl; declared = refl }
plain_expression k e = cc

plain_literal : (k : Kind) → categories.is_type_literal k ≡ true → IsPlain k
plain_literal kind.SequenceType e = record { statement = refl; list = refl; declared = refl }
plain_literal kind.FunctionType e = record { statement = refl; list = refl; declared = refl }
plain_literal kind.StructType e = record { statement = refl; list = refl; declared = refl }
plain_literal k e = cc

abbrev laid : Frame → Kind → ℕ → Hint → Trees → Parts
laid f k i h ps = laying.layout f k i (reads.holdings f k h ps [] ps)

pub holding_plain : (f : Frame) (h : Hint) (k : Kind) (i j : ℕ) (ps : Trees) → IsPlain k → holding f h (node k i j ps) ≡ typing (scope_of f) h (node k i j ps)
holding_plain f h k i j ps p =
    ap (λ b. if b then reads.list_node f k i j (laid f k i h ps) else (if is_declared_name k then reads.name_node f i j else typing (scope_of f) h (node k i j ps))) p.list
    ∙ ap (λ b. if b then reads.name_node f i j else typing (scope_of f) h (node k i j ps)) p.declared

pub faults_plain : (f : Frame) (h : Hint) (k : Kind) (i j : ℕ) (ps : Trees) → IsPlain k → held_faults f h (node k i j ps) ≡ faults (scope_of f) h (node k i j ps)
faults_plain f h k i j ps p =
    ap (λ b. if b then reads.all_held_faults f k h ps [] ps else (if is_declared_name k then [] else faults (scope_of f) h (node k i j ps))) p.list
    ∙ ap (λ b. if b then [] else faults (scope_of f) h (node k i j ps)) p.declared

-- an operand is read as it is typed
pub reading_plain : (f : Frame) (h : Hint) (k : Kind) (i j : ℕ) (ps : Trees) → IsPlain k → reading f h (node k i j ps) ≡ read (typing (scope_of f) h (node k i j ps)) (faults (scope_of f) h (node k i j ps)) f
reading_plain f h k i j ps p =
    ap (λ b. if b then reads.closed f k i j ps (readings (reads.beginning k i f) k h ps [] [] ps) else read (holding f h (node k i j ps)) (held_faults f h (node k i j ps)) f) p.statement
    ∙ ap (λ x. read x (held_faults f h (node k i j ps)) f) (holding_plain f h k i j ps p) ∙ ap (λ gs. read (typing (scope_of f) h (node k i j ps)) gs f) (faults_plain f h k i j ps p)

-- ---- forms of operands

object_new : (s : Scope) (o : Option Object) → is_new (object_form s o) ≡ None
object_new s None = refl
object_new s (Some object.Import) = refl
object_new s (Some (object.Predeclared p)) = refl
object_new s (Some (object.Package n)) = refl
object_new s (Some (object.Local f n)) = refl

named_new : (s : Scope) (z : Stands) (o : Option Object) → is_new (form_or_type z (object_form s o)) ≡ None
named_new s (sort.IsType t) o = refl
named_new s z o = object_new s o

name_new : (s : Scope) (h : Hint) (i : ℕ) → asks h ≡ true → is_new (name_form s h i) ≡ None
name_new s value i e = named_new s (name_sort s value i) (s.objects i)
name_new s several i e = named_new s (name_sort s several i) (s.objects i)
name_new s target i e = named_new s (name_sort s target i) (s.objects i)
name_new s statement i e = named_new s (name_sort s statement i) (s.objects i)
name_new s h i e = cc

selector_new : (rights : Rights) (name : List ℕ) (ys : Parts) → is_new (selector_form rights name ys) ≡ None
selector_new rights name [] = refl
selector_new rights name (None ∷ ys) = refl
selector_new rights name (Some x ∷ []) = refl
selector_new rights name (Some x ∷ y ∷ ys) = refl

bracketed_new : (ys : Parts) → is_new (bracketed_form ys) ≡ None
bracketed_new [] = refl
bracketed_new (x ∷ []) = refl
bracketed_new (x ∷ y ∷ []) = refl
bracketed_new (x ∷ y ∷ z ∷ ys) = refl

callee_new : (z : Stands) → is_new (callee_form z) ≡ None
callee_new (sort.IsType t) = refl
callee_new z = refl

call_new : (ys : Parts) → is_new (on_first form.Call (λ f xs. callee_form (sort_of f)) ys) ≡ None
call_new [] = refl
call_new (None ∷ ys) = refl
call_new (Some x ∷ ys) = callee_new (sort_of x)

operand_form : (s : Scope) (k : Kind) (h : Hint) (i j : ℕ) (ys : Parts) → is_operand k ≡ true → asks h ≡ true → is_new (form_by s k h i j ys) ≡ None
operand_form s kind.Name h i j ys e a = name_new s h i a
operand_form s kind.Integer h i j ys e a = refl
operand_form s kind.Rune h i j ys e a = refl
operand_form s kind.Text h i j ys e a = refl
operand_form s kind.Parenthesized h i j ys e a = refl
operand_form s (kind.Unary o) h i j ys e a = refl
operand_form s (kind.Binary o) h i j ys e a = refl
operand_form s kind.Selector h i j ys e a = selector_new s.rights (s.texts (j - 1)) ys
operand_form s kind.Bracketed h i j ys e a = bracketed_new ys
operand_form s kind.Call h i j ys e a = call_new ys
operand_form s kind.Composite h i j ys e a = refl
operand_form s kind.LiteralValue h i j ys e a = refl
operand_form s kind.SequenceType h i j ys e a = refl
operand_form s kind.FunctionType h i j ys e a = refl
operand_form s kind.StructType h i j ys e a = refl
operand_form s k h i j ys e a = cc

built_form : (s : Scope) (k : Kind) (h : Hint) (i j : ℕ) (ys : Parts) (b : Bool) → is_new (form_by s k h i j ys) ≡ None → is_new (form_of (built_by s k h i j ys b)) ≡ None
built_form s k h i j ys true e = e
built_form s k h i j ys false e = e

module _ (w : Standins) where
  -- ---- expressions

  -- An expression will fit, or is `nil` and fits once it takes this type.
  pub data Will (rights : Rights) (x : Part) : Type 0 where
    will : WillFit rights w false x → Will rights x
    nil_will : is_nil (sort_of x) ≡ true → (t : TypeTree) → Fits w false (settled t x) → Will rights x

  pub plain_operand : (k : Kind) → is_operand k ≡ true → IsPlain k
  plain_operand k e = by (split_operand w k e)
    where
      by : (expresses k ≡ true) ⊎ (categories.is_type_literal k ≡ true) → IsPlain k
      by (inl x) = plain_expression k x
      by (inr l) = plain_literal k l

  operand_placed : (k : Kind) → is_operand k ≡ true → is_placed k ≡ true
  operand_placed k e = by (split_operand w k e)
    where
      by : (expresses k ≡ true) ⊎ (categories.is_type_literal k ≡ true) → is_placed k ≡ true
      by (inl x) = placed_kind k x
      by (inr l) = literal_placed k l

  operand_new : (b : Bool) (k : Kind) (i j : ℕ) (ps : Trees) → is_operand k ≡ true → is_operand (kind_of (node_with b k i j ps)) ≡ true
  operand_new true k i j ps e = refl
  operand_new false k i j ps e = e

  -- with variables an operand is one
  pub new_operand : (x : Tree) → is_operand (kind_of x) ≡ true → is_operand (kind_of (with_variables w x)) ≡ true
  new_operand (node k i j ps) e = operand_new (may_be_constant k && ends_at (w i) j) k i j (all_with_variables w ps) e

  pub operand_holding : (f : Frame) (h : Hint) (x : Tree) → is_operand (kind_of x) ≡ true → holding f h x ≡ typing (scope_of f) h x
  operand_holding f h (node k i j ps) e = holding_plain f h k i j ps (plain_operand k e)

  pub operand_faults : (f : Frame) (h : Hint) (x : Tree) → is_operand (kind_of x) ≡ true → held_faults f h x ≡ faults (scope_of f) h x
  operand_faults f h (node k i j ps) e = faults_plain f h k i j ps (plain_operand k e)

  pub operand_reading : (f : Frame) (h : Hint) (x : Tree) → is_operand (kind_of x) ≡ true → reading f h x ≡ read (typing (scope_of f) h x) (faults (scope_of f) h x) f
  operand_reading f h (node k i j ps) e = reading_plain f h k i j ps (plain_operand k e)

  value_by : (s : Scope) (h : Hint) (x : Tree) → is_operand (kind_of x) ≡ true → asks h ≡ true → is_type (sort_of (typing s h x)) ≡ false
  value_by s h (node k i j ps) e a =
      placed_by (λ x. is_type x ≡ false) s k h i j (layout k (typings s k h ps [] ps)) (operand_placed k e) refl (λ f. no_type s.rights h i j (sort_by s k h i j (layout k (typings s k h ps [] ps))) a f)

  -- it declares nothing
  pub value_form : (s : Scope) (h : Hint) (x : Tree) → is_operand (kind_of x) ≡ true → asks h ≡ true → is_new (form_of (typing s h x)) ≡ None
  value_form s h (node k i j ps) e a =
      let ys = layout k (typings s k h ps [] ps) in
      built_form s k h i j ys (is_sound k ys (own_faults s k h i j ys)) (operand_form s k h i j ys e a)

  -- what is known of an operand says nothing of right sides
  pub ready_any : (r q : Rights) (x : Part) → Ready r w false x → Ready q w false x
  ready_any r q x h = record { keys = h.keys; held = h.held; expression = h.expression; known = h.known; quiet = h.quiet }

  nil_closed : (z : Stands) → is_nil z ≡ true → (is_open z ≡ false) × (is_unknown z ≡ false)
  nil_closed sort.Nil e = (refl, refl)
  nil_closed z e = cc

  -- What is known of an expression that stands for a value.
  pub record IsValuePart (x : Part) : Type 0 where
    pub ready : Ready [] w false x
    pub nil : is_nil (sort_of x) ≡ true → (t : TypeTree) → Fits w false (settled t x) → Fits w false x
    pub plain : is_new (form_of x) ≡ None

  pub all_ready : (xs : List Part) → All IsValuePart xs → All (Ready [] w false) xs
  all_ready [] h = tt
  all_ready (x ∷ xs) h = (h.0.ready, all_ready xs h.1)

  pub record IsTypedValue (s t : Scope) (h : Hint) (x : Tree) : Type 0 where
    pub typed : IsTypedWithVariables w s t h x
    pub value : IsValuePart (typing s h x)

  module _ (law : ExpressionsTyped) where
    will_typed : (s t : Scope) (h : Hint) (l : Level) (p : Place) (x : Tree) → IsShaped (category.Expression l p) x → asks h ≡ true → StandsIn w s t → Proper w x → no_rule_fails (faults s h x) ≡ true
        → is_unknown (sort_of (typing s h x)) ≡ false
        → WillFit s.rights w false (typing s h x) → IsTypedValue s t h x
    will_typed s t h l p x shape a st proper f known fits =
        let o = expression_operand l p x shape in
        let plain = value_by s h x o a in
        record {
          typed = law w s t h (category.Expression l p) x shape (valued_expresses w s h (category.Expression l p) x shape o known plain) (asks_naming h a) st proper f fits;
          value = let facts = operand_facts w s h (category.Expression l p) x shape o proper in record { ready = ready_any s.rights [] (typing s h x) (facts.ready known plain); nil = facts.nil; plain = value_form s h x o a };
        }

    -- An expression that will fit, where a value is asked for, is typed with variables in it.
    pub value_typed : (s t : Scope) (h : Hint) (l : Level) (p : Place) (x : Tree) → IsShaped (category.Expression l p) x → asks h ≡ true → StandsIn w s t → Proper w x → no_rule_fails (faults s h x) ≡ true
        → Will s.rights (typing s h x) → IsTypedValue s t h x
    value_typed s t h l p x shape a st proper f (will fits) = will_typed s t h l p x shape a st proper f (known_sort w s.rights (typing s h x) fits) fits
    value_typed s t h l p x shape a st proper f (nil_will m u fits) =
        let n = nil_closed (sort_of (typing s h x)) m in
        will_typed s t h l p x shape a st proper f n.1 (variables.has n.0 ((operand_facts w s h (category.Expression l p) x shape (expression_operand l p x shape) proper).nil m u fits))
