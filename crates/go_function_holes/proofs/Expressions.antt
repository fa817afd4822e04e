-- The holes of an expression stand in its tree: the induction.
use Rattle.std.proofs.Common.{◌≡◌, ◌∙◌, ℕ, ◌-◌, Bool, true, false, if◌then◌else◌, List, [], ◌∷◌, Option, Some, None, refl, sym, ap, subst}
use Rattle.std.specs.Prelude.{◌&&◌, ◌||◌, not}
use Rattle.go_grammar.specs.declared.kind.Category.{Category}
use Rattle.go_grammar.specs.declared.kind.Category.TheVariants as category
use Rattle.go_grammar.specs.declared.kind.Kind.{Kind}
use Rattle.go_grammar.specs.declared.kind.Kind.TheVariants as kind
use Rattle.go_grammar.specs.declared.kind.Place.{Place}
use Rattle.go_grammar.specs.declared.kind.Place.TheVariants as place
use Rattle.go_grammar.specs.Categories.{within, place_of, is_expression}
use Rattle.go_grammar.specs.declared.kind.Level.TheVariants as level
use Rattle.go_grammar.specs.Grammar.{rule, any}
use Rattle.go_grammar.specs.Rules.{End}
use Rattle.go_grammar.specs.Trees.{Tree, node, Trees, kind_of, first, last}
use Rattle.go_grammar.specs.Trees as syntax
use Rattle.go_tokens.specs.declared.token.TokenKind.{TokenKind}
use Rattle.go_rewriting.specs.Replacing.{next_rule}
use Rattle.go_tree.specs.declared.object.Object.{Object}
use Rattle.go_tree.specs.declared.object.Object.TheVariants as object
use Rattle.go_types.specs.Relations.{Rights}
use Rattle.go_types.specs.Trees.{TypeTree, array, slice, structure}
use Rattle.go_typed.specs.declared.form.Form.{Form}
use Rattle.go_typed.specs.declared.form.Form.TheVariants as form
use Rattle.go_typed.specs.Trees.{typed, Typeds, row, list_of, first_of, last_of, form_of, sort_of, parts_of}
use Rattle.go_typed.specs.Trees as sort
use Rattle.go_exprs_rules.specs.declared.fault.TypeFault.{TypeFault}
use Rattle.go_exprs_rules.specs.Faults.{or_else}
use Rattle.go_exprs_rules.specs.Literals.{literal_sort}
use Rattle.go_exprs_rules.specs.Names.{object_form, declared_form, form_or_type, name_form, name_sort, place_failing}
use Rattle.go_exprs_rules.specs.Scopes.{Scope, Hint, value, type_place, callee, declares, free, member}
use Rattle.go_exprs_rules.specs.Settling.{Part}
use Rattle.go_exprs_rules.specs.Sorts.{Stands, is_unknown}
use Rattle.go_exprs_rules.specs.Tables.{Parts, is_held, held, told_type, on_first, is_type, leaf, cut, first_cut, is_make, literal_type, callee_form, key_form, selector_form, bracketed_form}
use Rattle.go_exprs_rules.specs.Tables.{form_by, sort_by, takes, all_given, failing, placing, own_faults, is_judged, no_faults, is_sound, is_placed, made, built_by, element_told, element_in, on_optional}
use Rattle.go_exprs_rules.specs.TypeNodes as type_nodes
use Rattle.clone_window.specs.Masses as masses
use Rattle.go_stmts_final_types.specs.Shapes.{IsShaped, AreShaped}
use Rattle.go_function_holes.specs.Holes.{applies, is_operand_place}
use Rattle.go_function_holes.proofs.Below.{Below}
use Rattle.go_function_holes.proofs.Holed.{OfHole, Holes, EachHoles, Sound, AllSound, EachSound, differ, is_whole, each-row}
use Rattle.go_function_holes.proofs.ExpressionKinds.{is_operand, expression-kind, judges_values}
use Rattle.go_function_holes.proofs.Typed.{TypedPart, is_bounds, Row, open-free}
use Rattle.go_function_holes.proofs.Typed.{operand-holes, row-holes-all, ToldValues, all-given-sound, cut-holes, type-cut}

-- ---- what nodes stand for, where no rule fails

abbrev pub whole : Scope → Kind → Hint → ℕ → ℕ → Parts → Part
whole s k h i j ys = made (form_by s k h i j ys) i j (sort_by s k h i j ys) ys (all_given (takes s k h ys) ys)

pub built-whole : (P : Part → Type 0) (s : Scope) (k : Kind) (h : Hint) (i j : ℕ) (ys : Parts) (b : Bool) → is_unknown (sort_of (built_by s k h i j ys b)) ≡ false → P (whole s k h i j ys) → P (built_by s k h i j ys b)
built-whole P s k h i j ys true u g = g
built-whole P s k h i j ys false u g = absurd (differ (sym u))

pub or-nothing : (fs gs : List TypeFault) → or_else fs gs ≡ [] → gs ≡ []
or-nothing [] gs e = e
or-nothing (f ∷ fs) gs e = absurd cc

pub is-judged : (p : Bool) (b : Bool) (c : Bool) → p ≡ true → (not p || (b && c)) ≡ true → b ≡ true
is-judged true true c e f = refl
is-judged true false c e f = f
is-judged false b c e f = absurd (differ e)

pub placing-placed : (s : Scope) (k : Kind) (h : Hint) (i j : ℕ) (x : Stands) → is_placed k ≡ true → placing s k h i j x ≡ [] → place_failing s.rights h i j x ≡ []
placing-placed s k h i j x e f = ap (λ b. if b then place_failing s.rights h i j x else []) (sym e) ∙ f

pub known-sound : (s : Scope) (k : Kind) (h : Hint) (i j : ℕ) (ys : Parts) (b : Bool) → is_unknown (sort_of (built_by s k h i j ys b)) ≡ false → b ≡ true
known-sound s k h i j ys true u = refl
known-sound s k h i j ys false u = absurd (differ (sym u))

-- a node that stands for something known is judged, and its place allows it
pub place-allows : (s : Scope) (k : Kind) (h : Hint) (i j : ℕ) (ys : Parts) → is_placed k ≡ true → own_faults s k h i j ys ≡ [] → is_unknown (sort_of (built_by s k h i j ys (is_sound k ys (own_faults s k h i j ys)))) ≡ false
    → place_failing s.rights h i j (sort_of (built_by s k h i j ys (is_sound k ys (own_faults s k h i j ys)))) ≡ []
place-allows s k h i j ys e f u =
    let b = is_sound k ys (own_faults s k h i j ys) in
    let t : b ≡ true = known-sound s k h i j ys b u in
    let judged : is_judged ys ≡ true = is-judged (is_placed k) (is_judged ys) (no_faults (own_faults s k h i j ys)) e t in
    let rules : or_else (failing s k h i j ys) (placing s k h i j (sort_by s k h i j ys)) ≡ [] = ap (λ q. if q then or_else (failing s k h i j ys) (placing s k h i j (sort_by s k h i j ys)) else []) (sym judged) ∙ f in
    let here : place_failing s.rights h i j (sort_by s k h i j ys) ≡ [] = placing-placed s k h i j (sort_by s k h i j ys) e (or-nothing (failing s k h i j ys) (placing s k h i j (sort_by s k h i j ys)) rules) in
    built-whole (λ x. place_failing s.rights h i j (sort_of x) ≡ []) s k h i j ys b u here

pub type-sorted : (o : Option TypeTree) → is_unknown (type_nodes.type_sort o) ≡ false → is_type (type_nodes.type_sort o) ≡ true
type-sorted (Some t) u = refl
type-sorted None u = absurd (differ (sym u))

pub two-sorted : (f : Option Part → Option Part → Option TypeTree) (ys : Parts) → is_unknown (on_optional sort.Unknown (λ n e. type_nodes.type_sort (f n e)) ys) ≡ false → is_type (on_optional sort.Unknown (λ n e. type_nodes.type_sort (f n e)) ys) ≡ true
two-sorted f [] u = absurd (differ (sym u))
two-sorted f (x ∷ []) u = absurd (differ (sym u))
two-sorted f (x ∷ y ∷ []) u = type-sorted (f x y) u
two-sorted f (x ∷ y ∷ z ∷ zs) u = absurd (differ (sym u))

-- ---- forms

pub key-no-expression : (rights : Rights) (h : Hint) (name : List ℕ) → masses.is_expression (key_form rights h name) ≡ false
key-no-expression rights (member t) name = refl
key-no-expression rights h name = refl

pub literal-value : (t : Option TypeTree) → masses.is_constant (literal_sort t) ≡ false
literal-value (Some t) = refl
literal-value None = refl

pub none-and : (a b : Bool) → b ≡ false → (a && b) ≡ false
none-and true b e = e
none-and false b e = refl

pub literal-none : (s : Scope) (h : Hint) (i j : ℕ) (ys : Parts) → masses.is_constant (sort_by s kind.LiteralValue h i j ys) ≡ false
literal-none s h i j [] = refl
literal-none s h i j (t ∷ ys) = literal-value (literal_type h t)

-- a constant expression is one by its kind
pub whole-kind : (s : Scope) (k : Kind) (h : Hint) (i j : ℕ) (ys : Parts) → is_operand k ≡ true → is_whole (whole s k h i j ys) ≡ true → is_expression k ≡ true
whole-kind s kind.Bounds h i j ys e w = absurd (differ w)
whole-kind s kind.BoundsFrom h i j ys e w = absurd (differ w)
whole-kind s kind.LiteralValue h i j ys e w = absurd (differ (sym (none-and true (masses.is_constant (sort_by s kind.LiteralValue h i j ys)) (literal-none s h i j ys)) ∙ w))
whole-kind s kind.Keyed h i j ys e w = absurd (differ (sym (ap (λ b. b && masses.is_constant (sort_by s kind.Keyed h i j ys)) (key-no-expression s.rights h (s.texts i))) ∙ w))
whole-kind s k h i j ys e w = e

-- ---- kinds of operands by their places

pub by-expression : (k : Kind) → is_expression k ≡ true → is_operand k ≡ true
by-expression kind.Bounds e = refl
by-expression kind.BoundsFrom e = refl
by-expression kind.LiteralValue e = refl
by-expression kind.Keyed e = refl
by-expression k e = e

pub bracket-operand : (k : Kind) → within category.Bracket k ≡ true → is_operand k ≡ true
bracket-operand kind.Bounds e = refl
bracket-operand kind.BoundsFrom e = refl
bracket-operand k e = by-expression k e

pub element-operand : (k : Kind) → within category.Element k ≡ true → is_operand k ≡ true
element-operand kind.LiteralValue e = refl
element-operand kind.Keyed e = refl
element-operand k e = by-expression k e

pub value-operand : (k : Kind) → within category.Value k ≡ true → is_operand k ≡ true
value-operand kind.LiteralValue e = refl
value-operand k e = by-expression k e

pub operand-kind : (c : Category) (k : Kind) → is_operand_place c ≡ true → within c k ≡ true → is_operand k ≡ true
operand-kind (category.Expression l p) k e w = by-expression k (expression-kind l k w)
operand-kind category.Bracket k e w = bracket-operand k w
operand-kind category.Element k e w = element-operand k w
operand-kind category.Value k e w = value-operand k w
operand-kind c k e w = absurd (differ e)

-- ---- hints

pub told-in : (t : TypeTree) (u : Option TypeTree) → judges_values (element_in t u) ≡ true
told-in t None = refl
told-in t (Some (array n e)) = refl
told-in t (Some (slice e)) = refl
told-in t (Some (structure ns ts)) = refl
told-in t u = refl

pub element-values : (rights : Rights) (o : Option TypeTree) → judges_values (element_told rights o) ≡ true
element-values rights None = refl
element-values rights (Some t) = told-in t _

-- ---- forms that hold nothing

pub object-unheld : (s : Scope) (o : Option Object) → is_held (object_form s o) ≡ false
object-unheld s None = refl
object-unheld s (Some object.Import) = refl
object-unheld s (Some (object.Predeclared p)) = refl
object-unheld s (Some (object.Package n)) = refl
object-unheld s (Some (object.Local f n)) = refl

pub declared-unheld : (s : Scope) (o : Option Object) → is_held (declared_form s o) ≡ false
declared-unheld s None = refl
declared-unheld s (Some object.Import) = refl
declared-unheld s (Some (object.Predeclared p)) = refl
declared-unheld s (Some (object.Package n)) = refl
declared-unheld s (Some (object.Local f n)) = refl

pub typed-unheld : (x : Stands) (f : Form) → is_held f ≡ false → is_held (form_or_type x f) ≡ false
typed-unheld (sort.IsType t) f h = refl
typed-unheld x f h = h

pub name-unheld : (s : Scope) (h : Hint) (i : ℕ) → is_held (name_form s h i) ≡ false
name-unheld s declares i = declared-unheld s (s.objects i)
name-unheld s free i = declared-unheld s (s.objects i)
name-unheld s h i = typed-unheld (name_sort s h i) (object_form s (s.objects i)) (object-unheld s (s.objects i))

pub selector-unheld : (rights : Rights) (name : List ℕ) (ys : Parts) → is_held (selector_form rights name ys) ≡ false
selector-unheld rights name [] = refl
selector-unheld rights name (None ∷ ys) = refl
selector-unheld rights name (Some x ∷ []) = refl
selector-unheld rights name (Some x ∷ y ∷ ys) = refl

pub bracketed-unheld : (ys : Parts) → is_held (bracketed_form ys) ≡ false
bracketed-unheld [] = refl
bracketed-unheld (x ∷ []) = refl
bracketed-unheld (x ∷ y ∷ []) = refl
bracketed-unheld (x ∷ y ∷ z ∷ ys) = refl

pub callee-unheld : (x : Stands) → is_held (callee_form x) ≡ false
callee-unheld (sort.IsType t) = refl
callee-unheld x = refl

pub call-unheld : (ys : Parts) → is_held (on_first form.Call (λ f xs. callee_form (sort_of f)) ys) ≡ false
call-unheld [] = refl
call-unheld (None ∷ ys) = refl
call-unheld (Some x ∷ ys) = callee-unheld (sort_of x)

pub form-unheld : (s : Scope) (k : Kind) (h : Hint) (i j : ℕ) (ys : Parts) → is_expression k ≡ true → is_held (form_by s k h i j ys) ≡ false
form-unheld s kind.Name h i j ys e = name-unheld s h i
form-unheld s kind.Integer h i j ys e = refl
form-unheld s kind.Rune h i j ys e = refl
form-unheld s kind.Text h i j ys e = refl
form-unheld s kind.Parenthesized h i j ys e = refl
form-unheld s (kind.Unary o) h i j ys e = refl
form-unheld s (kind.Binary o) h i j ys e = refl
form-unheld s kind.Selector h i j ys e = selector-unheld s.rights (s.texts (j - 1)) ys
form-unheld s kind.Bracketed h i j ys e = bracketed-unheld ys
form-unheld s kind.Call h i j ys e = call-unheld ys
form-unheld s kind.Composite h i j ys e = refl
form-unheld s kind.SequenceType h i j ys e = refl
form-unheld s kind.FunctionType h i j ys e = refl
form-unheld s kind.StructType h i j ys e = refl
form-unheld s k h i j ys e = absurd (differ e)

pub by-form : (s : Scope) (k : Kind) (h : Hint) (i j : ℕ) (ys : Parts) (b : Bool) → form_of (built_by s k h i j ys b) ≡ form_by s k h i j ys
by-form s k h i j ys true = refl
by-form s k h i j ys false = refl

-- ---- callees

pub make-no-type : (x : Stands) → is_make x ≡ true → is_type x ≡ false
make-no-type (sort.IsType t) e = absurd (differ e)
make-no-type x e = refl

pub make-no-constant : (x : Stands) → is_make x ≡ true → masses.is_constant x ≡ false
make-no-constant (sort.Constant t c) e = absurd (differ e)
make-no-constant (sort.OpenConstant c) e = absurd (differ e)
make-no-constant x e = refl

pub calls-value : (x : Stands) → is_type x ≡ false → callee_form x ≡ form.Call
calls-value (sort.IsType t) e = absurd (differ (sym e))
calls-value x e = refl

pub not-true : (b : Bool) → not b ≡ true → b ≡ false
not-true true e = absurd (differ e)
not-true false e = refl

pub no-whole : (x : Part) → masses.is_constant (sort_of x) ≡ false → is_whole x ≡ false
no-whole x e = none-and (masses.is_expression (form_of x)) (masses.is_constant (sort_of x)) e

pub placed-expression : (k : Kind) → is_expression k ≡ true → is_placed k ≡ true
placed-expression kind.Name e = refl
placed-expression kind.Integer e = refl
placed-expression kind.Rune e = refl
placed-expression kind.Text e = refl
placed-expression kind.Parenthesized e = refl
placed-expression (kind.Unary o) e = refl
placed-expression (kind.Binary o) e = refl
placed-expression kind.Selector e = refl
placed-expression kind.Bracketed e = refl
placed-expression kind.Call e = refl
placed-expression kind.Composite e = refl
placed-expression kind.SequenceType e = refl
placed-expression kind.FunctionType e = refl
placed-expression kind.StructType e = refl
placed-expression k e = absurd (differ e)

pub placed-literal : (q : Place) (k : Kind) → within (category.LiteralType q) k ≡ true → is_placed k ≡ true
placed-literal q kind.Name e = refl
placed-literal q kind.SequenceType e = refl
placed-literal q kind.StructType e = refl
placed-literal place.Free k e = absurd (differ e)
placed-literal place.Header k e = absurd (differ e)

pub shaped-kind : (c : Category) (t : Tree) → IsShaped c t → within c (kind_of t) ≡ true
shaped-kind c (node k i j ps) w = w.0

-- ---- the parts of each kind

pub end-holes : (P : OfHole) (ws : List TokenKind) (c : Category) (k : Kind) (all : Trees) (s : Scope) (h : Hint) (n : ℕ) (xs : Parts) (ps : Trees) (zs : Parts) → AreShaped (End ws) ps → Row c k all s h (End ws) n xs ps zs → EachHoles P zs
end-holes P ws c k all s h n xs syntax.none [] w g = tt
end-holes P ws c k all s h n xs syntax.none (z ∷ zs) w g = absurd g
end-holes P ws c k all s h n xs (syntax.more p ps) zs w g = absurd w
end-holes P ws c k all s h n xs (syntax.skip ps) zs w g = absurd w

-- typed parts behind a callee
abbrev pub Behind : Parts → Type 0
Behind [] = ⊥
Behind (None ∷ xs) = ⊥
Behind (Some x ∷ xs) = is_make (sort_of x) ≡ false

-- behind a callee and one more
abbrev pub FurtherBehind : Parts → Type 0
FurtherBehind [] = ⊥
FurtherBehind (None ∷ xs) = ⊥
FurtherBehind (Some x ∷ []) = ⊥
FurtherBehind (Some x ∷ y ∷ xs) = Unit {0}

abbrev pub Some-parts : Parts → Type 0
Some-parts [] = ⊥
Some-parts (x ∷ xs) = Unit {0}

abbrev pub Any : Parts → Type 0
Any xs = Unit {0}

-- between brackets stand bounds or an expression
pub bounds-or : {A : Type 0} {b : Bool} (k : Kind) → within category.Bracket k ≡ true → (is_bounds k ≡ true → A) → (is_expression k ≡ true → b ≡ false) → b ≡ true → A
bounds-or kind.Bounds w f g e = f refl
bounds-or kind.BoundsFrom w f g e = f refl
bounds-or k w f g e = absurd (differ (sym (g w) ∙ e))

module _ (c : Category) (s : Scope) (h : Hint) (i j : ℕ) (o : Bool) where
  abbrev B : Kind → Trees → OfHole
  B k ps = Below o c (node k i j ps)

  pub told-behind : (all : Trees) → ToldValues kind.Call all s h Behind
  told-behind all [] u = absurd u
  told-behind all (None ∷ xs) u = absurd u
  told-behind all (Some x ∷ []) u = ((λ q. ap (λ b. judges_values (if b then type_place else value)) u), λ y. u)
  told-behind all (Some x ∷ y ∷ xs) u = ((λ q. refl), λ z. u)

  pub told-further : (all : Trees) → ToldValues kind.Call all s h FurtherBehind
  told-further all [] u = absurd u
  told-further all (None ∷ xs) u = absurd u
  told-further all (Some x ∷ []) u = absurd u
  told-further all (Some x ∷ y ∷ xs) u = ((λ q. refl), λ z. tt)

  pub told-elements : (all : Trees) → ToldValues kind.Composite all s h Some-parts
  told-elements all [] u = absurd u
  told-elements all (t ∷ xs) u = ((λ q. element-values s.rights (type_nodes.part_type t)), λ z. tt)

  pub told-literal : (all : Trees) → ToldValues kind.LiteralValue all s h Any
  told-literal all xs u = ((λ q. element-values s.rights (told_type h)), λ z. tt)

  -- the arguments of a call
  pub call-holes : (f : Part) (p : Tree) (qs : Trees) (ws : Parts) → AreShaped (rule (place_of c) kind.Call) (syntax.more p qs)
      → Row c kind.Call (syntax.more p qs) s h (rule (place_of c) kind.Call) 0 [] (syntax.more p qs) (Some f ∷ ws) → (b : Bool) → is_make (sort_of f) ≡ b
      → Sound (whole s kind.Call h i j (if b then Some f ∷ first_cut ws else cut (Some f) ∷ ws)) → EachHoles (B kind.Call (syntax.more p qs)) (if b then Some f ∷ first_cut ws else cut (Some f) ∷ ws)
  call-holes f p qs ws w g true e sd =
      let ys = Some f ∷ first_cut ws in
      let sounds = all-given-sound (takes s kind.Call h ys) ys (each-row (all_given (takes s kind.Call h ys) ys) sd.3) in
      let k = open-free kind.Call refl refl in
      (operand-holes c kind.Call i j (syntax.more p qs) s h k o 0 _ p f (g.0 refl) refl callee g.1 sounds.0 (make-no-type (sort_of f) e) (λ q. absurd (differ (sym (no-whole f (make-no-constant (sort_of f) e)) ∙ q))), made-holes ws qs w.1 g.2 sounds.1) where
        made-holes : (vs : Parts) (rs : Trees) → AreShaped (next_rule (rule (place_of c) kind.Call)) rs → Row c kind.Call (syntax.more p qs) s h (next_rule (rule (place_of c) kind.Call)) 1 (Some f ∷ []) rs vs → EachSound (first_cut vs) → EachHoles (B kind.Call (syntax.more p qs)) (first_cut vs)
        made-holes [] rs v g sd = tt
        made-holes (None ∷ vs) syntax.none v g sd = absurd g
        made-holes (None ∷ vs) (syntax.more q rs) v g sd = absurd g
        made-holes (None ∷ vs) (syntax.skip rs) v g sd = absurd v
        made-holes (Some a ∷ vs) syntax.none v g sd = absurd g
        made-holes (Some a ∷ vs) (syntax.skip rs) v g sd = absurd v
        made-holes (Some a ∷ vs) (syntax.more q rs) v g sd = (
          type-cut (B kind.Call (syntax.more p qs)) (any place.Free) q a (placed-expression (kind_of q) (expression-kind level.Either (kind_of q) (shaped-kind (any place.Free) q v.0))) (subst (λ (d : Bool). TypedPart (any place.Free) q (if d then type_place else value) a) e g.1) sd.0,
          row-holes-all c kind.Call i j (syntax.more p qs) s h (open-free kind.Call refl refl) o FurtherBehind (told-further (syntax.more p qs)) (λ n. refl) (next_rule (rule (place_of c) kind.Call)) 2 (Some f ∷ Some a ∷ []) rs vs refl tt refl v.1 g.2 sd.1,
        )
  call-holes f p qs ws w g false e sd = (
    cut-holes (B kind.Call (syntax.more p qs)) f (λ t. by-value t),
    row-holes-all c kind.Call i j (syntax.more p qs) s h (open-free kind.Call refl refl) o Behind (told-behind (syntax.more p qs)) (λ n. refl) _ 1 (Some f ∷ []) qs ws refl e refl w.1 g.2 (sounds (all_given (takes s kind.Call h (cut (Some f) ∷ ws)) (cut (Some f) ∷ ws)) refl sd.3).1,
  ) where
    sounds : (vs : Parts) → vs ≡ all_given (takes s kind.Call h (cut (Some f) ∷ ws)) (cut (Some f) ∷ ws) → AllSound (row vs) → EachSound (cut (Some f) ∷ ws)
    sounds vs u v = all-given-sound (takes s kind.Call h (cut (Some f) ∷ ws)) (cut (Some f) ∷ ws) (subst EachSound u (each-row vs v))

    by-value : is_type (sort_of f) ≡ false → Holes (B kind.Call (syntax.more p qs)) f
    by-value t =
        let same : cut (Some f) ≡ Some f = ap (λ d. if d then Some (leaf f) else Some f) t in
        let sd2 = subst (λ y. Sound (whole s kind.Call h i j (y ∷ ws))) same sd in
        let f_call = calls-value (sort_of f) t in
        let applied : applies (callee_form (sort_of f)) (row (all_given (takes s kind.Call h (Some f ∷ ws)) (Some f ∷ ws))) ≡ true = sd2.1 in
        let none : masses.is_constant (sort_of f) ≡ false = not-true (masses.is_constant (sort_of f)) (sym (ap (λ g. applies g (row (all_given (takes s kind.Call h (Some f ∷ ws)) (Some f ∷ ws)))) f_call) ∙ applied) in
        let all = all-given-sound (takes s kind.Call h (Some f ∷ ws)) (Some f ∷ ws) (each-row (all_given (takes s kind.Call h (Some f ∷ ws)) (Some f ∷ ws)) sd2.3) in
        operand-holes c kind.Call i j (syntax.more p qs) s h (open-free kind.Call refl refl) o 0 _ p f (g.0 refl) refl callee g.1 all.0 t (λ q. absurd (differ (sym (no-whole f none) ∙ q)))

  pub bracket-sound : (q : Tree) (z : Part) → within category.Bracket (kind_of q) ≡ true → TypedPart category.Bracket q value z → EachSound (held (Some z)) → Sound z
  bracket-sound q z w part hs = by (is_held (form_of z)) refl hs where
    holder : (y : Part) → is_held (form_of y) ≡ true → is_unknown (sort_of y) ≡ false → EachSound (list_of (parts_of y)) → Sound y
    holder (typed (form.Held k) a b l ps) e u vs = (u, refl, tt, listed ps vs) where
      listed : (qs : Typeds TypeTree) → EachSound (list_of qs) → AllSound qs
      listed sort.none v = tt
      listed (sort.more x xs) v = (v.0, listed xs v.1)
      listed (sort.skip xs) v = listed xs v.1
    holder (typed f a b l ps) e u vs = absurd (differ e)

    known : is_held (form_of z) ≡ true → is_unknown (sort_of z) ≡ false
    known e = bounds-or (kind_of q) w part.bounds part.unheld e

    by : (b : Bool) → is_held (form_of z) ≡ b → EachSound (if b then list_of (parts_of z) else Some z ∷ []) → Sound z
    by true e vs = holder z e (known e) vs
    by false e vs = vs.0
