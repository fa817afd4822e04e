-- The holes of an expression stand in its tree: each kind, and whole trees.
use Rattle.std.proofs.Common.{◌≡◌, ◌∙◌, ℕ, suc, ◌-◌, Bool, true, false, if◌then◌else◌, List, [], ◌∷◌, ◌++◌, Option, Some, None, refl, sym, ap, subst, append_assoc, append-nil}
use Rattle.std.specs.Prelude.{◌&&◌, ◌||◌}
use Rattle.go_grammar.specs.declared.kind.Category.{Category}
use Rattle.go_grammar.specs.declared.kind.Category.TheVariants as category
use Rattle.go_grammar.specs.declared.kind.Kind.{Kind}
use Rattle.go_grammar.specs.declared.kind.Kind.TheVariants as kind
use Rattle.go_grammar.specs.Categories.{within, place_of, is_expression}
use Rattle.go_grammar.specs.Grammar.{rule}
use Rattle.go_grammar.specs.Rules.{Rule}
use Rattle.go_grammar.specs.Trees.{Tree, node, Trees, kind_of, first, last}
use Rattle.go_grammar.specs.Trees as syntax
use Rattle.go_rewriting.specs.Replacing.{next_category, next_rule}
use Rattle.std.specs.List.{list_any}
use Rattle.go_tree.specs.declared.object.Object.{Object}
use Rattle.go_tree.specs.declared.object.Object.TheVariants as object
use Rattle.go_types.specs.Relations.{Rights}
use Rattle.go_types.specs.Trees.{TypeTree}
use Rattle.go_typed.specs.declared.form.Form.{Form}
use Rattle.go_typed.specs.declared.form.Form.TheVariants as form
use Rattle.go_typed.specs.Trees.{typed, Typeds, row, list_of, first_of, last_of, form_of, sort_of, label_of, parts_of}
use Rattle.go_typed.specs.Trees as sort
use Rattle.go_exprs_rules.specs.Indexes.{value_or_unknown, named_field, selector_sort, index_sort}
use Rattle.go_exprs_rules.specs.Names.{object_form, declared_form, form_or_type, name_form, name_sort}
use Rattle.go_exprs_rules.specs.Scopes.{Scope, Hint, value, declares, free, member}
use Rattle.go_exprs_rules.specs.Settling.{Part}
use Rattle.go_exprs_rules.specs.Sorts.{Stands, is_unknown, is_text, byte, element_of, form_of_value, value_type}
use Rattle.go_exprs_rules.specs.TypeNodes as type_nodes
use Rattle.go_stmts_defs.specs.Targets.{is_variable, first_varies}
use Rattle.go_exprs_rules.specs.Tables.{is_variable_name, varies_in, callee_form, key_form, on_first}
use Rattle.go_exprs_rules.specs.Tables.{Parts, is_held, held, is_type, is_make, has_no_low, is_package, layout}
use Rattle.go_exprs_rules.specs.Tables.{form_by, sort_by, takes, all_given, own_faults, is_sound, made, built_by, built, hint, part_scope}
use Rattle.go_exprs_rules.specs.Typing.{typing, typings, faults, faults_of_parts}
use Rattle.clone_window.specs.Masses as masses
use Rattle.go_stmts_final_types.specs.Shapes.{IsShaped, AreShaped}
use Rattle.go_function_trees.specs.Lists.{Faultless, parts_behind}
use Rattle.go_function_holes.specs.Holes.{is_operand_place}
use Rattle.go_function_holes.proofs.Below.{Below}
use Rattle.go_function_holes.proofs.Holed.{OfHole, AllHoles, EachHoles, Sound, EachSound, differ, either, both, is_whole, row-holes, held-holes, each-row}
use Rattle.go_function_holes.proofs.ExpressionKinds.{is_operand, operand-takes, judges_values, no-type}
use Rattle.go_function_holes.proofs.Typed.{TypedPart, is_bounds, Row, open-free, rules_behind, behind-there, behind-asked, behind-more, behind-skip, rules-next, shaped-more, shaped-skip, front-faultless, back-faultless, sound-known}
use Rattle.go_function_holes.proofs.Typed.{operand-holes, row-holes-all, all-given-holes, all-given-sound, type-cut}
use Rattle.go_function_holes.proofs.Expressions.{whole, place-allows, two-sorted, whole-kind, operand-kind, form-unheld, by-form, not-true, no-whole, placed-expression, placed-literal, shaped-kind}
use Rattle.go_function_holes.proofs.Expressions.{end-holes, Any, Some-parts, told-elements, told-literal, call-holes, bracket-sound}

module _ (c : Category) (s : Scope) (h : Hint) (i j : ℕ) (o : Bool) where
  abbrev B : Kind → Trees → OfHole
  B k ps = Below o c (node k i j ps)

  abbrev Parted : Kind → Trees → Parts → Type 0
  Parted k ps zs = Row c k ps s h (rule (place_of c) k) 0 [] ps zs

  sounds : (k : Kind) (ys : Parts) → Sound (whole s k h i j ys) → EachSound ys
  sounds k ys sd = all-given-sound (takes s k h ys) ys (each-row (all_given (takes s k h ys) ys) sd.3)

  parenthesized : (ps : Trees) (zs : Parts) → AreShaped (rule (place_of c) kind.Parenthesized) ps → Parted kind.Parenthesized ps zs → EachSound zs → is_type (sort_by s kind.Parenthesized h i j zs) ≡ false → EachHoles (B kind.Parenthesized ps) zs
  parenthesized syntax.none zs w g sd t = absurd w
  parenthesized (syntax.skip ps) zs w g sd t = absurd w
  parenthesized (syntax.more p (syntax.more q ps)) zs w g sd t = absurd w.1
  parenthesized (syntax.more p (syntax.skip ps)) zs w g sd t = absurd w.1
  parenthesized (syntax.more p syntax.none) [] w g sd t = absurd g
  parenthesized (syntax.more p syntax.none) (None ∷ zs) w g sd t = absurd g
  parenthesized (syntax.more p syntax.none) (Some y ∷ z ∷ zs) w g sd t = absurd g.2
  parenthesized (syntax.more p syntax.none) (Some y ∷ []) w g sd t =
      (operand-holes c kind.Parenthesized i j (syntax.more p syntax.none) s h (open-free kind.Parenthesized refl refl) o 0 _ p y (g.0 refl) refl (hint s kind.Parenthesized h (syntax.more p syntax.none) [] (kind_of p)) g.1 sd.0 t (λ q. refl), tt)

  selector : (ps : Trees) (zs : Parts) → AreShaped (rule (place_of c) kind.Selector) ps → Parted kind.Selector ps zs → Sound (whole s kind.Selector h i j (layout kind.Selector zs)) → EachHoles (B kind.Selector ps) (layout kind.Selector zs)
  selector syntax.none zs w g sd = absurd w
  selector (syntax.skip ps) zs w g sd = absurd w
  selector (syntax.more p (syntax.more q ps)) zs w g sd = absurd w.1
  selector (syntax.more p (syntax.skip ps)) zs w g sd = absurd w.1
  selector (syntax.more p syntax.none) [] w g sd = absurd g
  selector (syntax.more p syntax.none) (None ∷ zs) w g sd = absurd g
  selector (syntax.more p syntax.none) (Some y ∷ z ∷ zs) w g sd = absurd g.2
  selector (syntax.more p syntax.none) (Some y ∷ []) w g sd = by (is_package (sort_of y)) sd where
    by : (b : Bool) → Sound (whole s kind.Selector h i j (if b then [] else Some y ∷ [])) → EachHoles (B kind.Selector (syntax.more p syntax.none)) (if b then [] else Some y ∷ [])
    by true u = tt
    by false u =
        let sound : Sound y = (sounds kind.Selector (Some y ∷ []) u).0 in
        let none : masses.is_constant (sort_of y) ≡ false = not-true (masses.is_constant (sort_of y)) u.1 in
        (operand-holes c kind.Selector i j (syntax.more p syntax.none) s h (open-free kind.Selector refl refl) o 0 _ p y (g.0 refl) refl value g.1 sound (g.1.no_type refl refl sound) (λ q. absurd (differ (sym (no-whole y none) ∙ q))), tt)

  bracketed : (ps : Trees) (zs : Parts) → AreShaped (rule (place_of c) kind.Bracketed) ps → Parted kind.Bracketed ps zs → EachSound (layout kind.Bracketed zs) → EachHoles (B kind.Bracketed ps) (layout kind.Bracketed zs)
  bracketed syntax.none zs w g sd = absurd w
  bracketed (syntax.skip ps) zs w g sd = absurd w
  bracketed (syntax.more p syntax.none) zs w g sd = absurd w.1
  bracketed (syntax.more p (syntax.skip qs)) zs w g sd = absurd w.1
  bracketed (syntax.more p (syntax.more q (syntax.more r qs))) zs w g sd = absurd w.1.1
  bracketed (syntax.more p (syntax.more q (syntax.skip qs))) zs w g sd = absurd w.1.1
  bracketed (syntax.more p (syntax.more q syntax.none)) [] w g sd = absurd g
  bracketed (syntax.more p (syntax.more q syntax.none)) (None ∷ zs) w g sd = absurd g
  bracketed (syntax.more p (syntax.more q syntax.none)) (Some y ∷ []) w g sd = absurd g.2
  bracketed (syntax.more p (syntax.more q syntax.none)) (Some y ∷ None ∷ zs) w g sd = absurd g.2
  bracketed (syntax.more p (syntax.more q syntax.none)) (Some y ∷ Some z ∷ v ∷ zs) w g sd = absurd g.2.2
  bracketed (syntax.more p (syntax.more q syntax.none)) (Some y ∷ Some z ∷ []) w g sd =
      let all = syntax.more p (syntax.more q syntax.none) in
      let k = open-free kind.Bracketed refl refl in
      let inner : EachSound (held (Some z)) = either (λ (xs : Parts). EachSound xs → EachSound (held (Some z))) (has_no_low (Some z)) (None ∷ held (Some z)) (held (Some z)) (λ e u. u.1) (λ e u. u) sd.1 in
      let sound : Sound z = bracket-sound c s h i j o q z (shaped-kind category.Bracket q w.1.0) g.2.1 inner in
      let holes = operand-holes c kind.Bracketed i j all s h k o 1 category.Bracket q z (g.2.0 refl) refl value g.2.1 sound (g.2.1.no_type refl refl sound) (λ u. refl) in
      let laid = held-holes (B kind.Bracketed all) (Some z) holes in (
        operand-holes c kind.Bracketed i j all s h k o 0 _ p y (g.0 refl) refl value g.1 sd.0 (g.1.no_type refl refl sd.0) (λ u. refl),
        both (EachHoles (B kind.Bracketed all)) (has_no_low (Some z)) (None ∷ held (Some z)) (held (Some z)) (tt, laid) laid,
      )

  composite : (ps : Trees) (zs : Parts) → AreShaped (rule (place_of c) kind.Composite) ps → Parted kind.Composite ps zs → EachSound (layout kind.Composite zs) → EachHoles (B kind.Composite ps) (layout kind.Composite zs)
  composite syntax.none zs w g sd = absurd w
  composite (syntax.skip ps) zs w g sd = absurd w
  composite (syntax.more p qs) [] w g sd = absurd g
  composite (syntax.more p qs) (None ∷ zs) w g sd = absurd g
  composite (syntax.more p qs) (Some t ∷ ws) w g sd = (
    type-cut (B kind.Composite (syntax.more p qs)) _ p t (placed-literal (place_of c) (kind_of p) (shaped-kind (category.LiteralType (place_of c)) p w.0)) g.1 sd.0,
    row-holes-all c kind.Composite i j (syntax.more p qs) s h (open-free kind.Composite refl refl) o Some-parts (told-elements c s h i j o (syntax.more p qs)) (λ n. refl) _ 1 (Some t ∷ []) qs ws refl tt refl w.1 g.2 sd.1,
  )

  keyed : (ps : Trees) (zs : Parts) → AreShaped (rule (place_of c) kind.Keyed) ps → Parted kind.Keyed ps zs → EachSound (layout kind.Keyed zs) → is_type (sort_by s kind.Keyed h i j (layout kind.Keyed zs)) ≡ false → EachHoles (B kind.Keyed ps) (layout kind.Keyed zs)
  keyed syntax.none zs w g sd t = absurd w
  keyed (syntax.skip ps) zs w g sd t = absurd w
  keyed (syntax.more p syntax.none) zs w g sd t = absurd w.1
  keyed (syntax.more p (syntax.skip qs)) zs w g sd t = absurd w.1
  keyed (syntax.more p (syntax.more q (syntax.more r qs))) zs w g sd t = absurd w.1.1
  keyed (syntax.more p (syntax.more q (syntax.skip qs))) zs w g sd t = absurd w.1.1
  keyed (syntax.more p (syntax.more q syntax.none)) [] w g sd t = absurd g
  keyed (syntax.more p (syntax.more q syntax.none)) (None ∷ zs) w g sd t = absurd g
  keyed (syntax.more p (syntax.more q syntax.none)) (Some y ∷ []) w g sd t = absurd g.2
  keyed (syntax.more p (syntax.more q syntax.none)) (Some y ∷ None ∷ zs) w g sd t = absurd g.2
  keyed (syntax.more p (syntax.more q syntax.none)) (Some y ∷ Some z ∷ v ∷ zs) w g sd t = absurd g.2.2
  keyed (syntax.more p (syntax.more q syntax.none)) (Some y ∷ Some z ∷ []) w g sd t =
      let all = syntax.more p (syntax.more q syntax.none) in
      (operand-holes c kind.Keyed i j all s h (open-free kind.Keyed refl refl) o 1 category.Value q z (g.2.0 refl) refl (hint s kind.Keyed h all (Some y ∷ []) (kind_of q)) g.2.1 sd.0 t (λ u. refl), tt)

  -- the value of an element is no type
  keyed-no-type : (ps : Trees) (zs : Parts) → AreShaped (rule (place_of c) kind.Keyed) ps → Parted kind.Keyed ps zs → EachSound (layout kind.Keyed zs) → judges_values h ≡ true → is_type (sort_by s kind.Keyed h i j (layout kind.Keyed zs)) ≡ false
  keyed-no-type syntax.none zs w g sd t = absurd w
  keyed-no-type (syntax.skip ps) zs w g sd t = absurd w
  keyed-no-type (syntax.more p syntax.none) zs w g sd t = absurd w.1
  keyed-no-type (syntax.more p (syntax.skip qs)) zs w g sd t = absurd w.1
  keyed-no-type (syntax.more p (syntax.more q (syntax.more r qs))) zs w g sd t = absurd w.1.1
  keyed-no-type (syntax.more p (syntax.more q (syntax.skip qs))) zs w g sd t = absurd w.1.1
  keyed-no-type (syntax.more p (syntax.more q syntax.none)) [] w g sd t = absurd g
  keyed-no-type (syntax.more p (syntax.more q syntax.none)) (None ∷ zs) w g sd t = absurd g
  keyed-no-type (syntax.more p (syntax.more q syntax.none)) (Some y ∷ []) w g sd t = absurd g.2
  keyed-no-type (syntax.more p (syntax.more q syntax.none)) (Some y ∷ None ∷ zs) w g sd t = absurd g.2
  keyed-no-type (syntax.more p (syntax.more q syntax.none)) (Some y ∷ Some z ∷ v ∷ zs) w g sd t = absurd g.2.2
  keyed-no-type (syntax.more p (syntax.more q syntax.none)) (Some y ∷ Some z ∷ []) w g sd t = g.2.1.no_type refl t sd.0

  function-type : (ps : Trees) (zs : Parts) → AreShaped (rule (place_of c) kind.FunctionType) ps → Parted kind.FunctionType ps zs → is_unknown (sort_by s kind.FunctionType h i j zs) ≡ false → is_type (sort_by s kind.FunctionType h i j zs) ≡ true
  function-type syntax.none zs w g u = absurd w
  function-type (syntax.skip ps) zs w g u = absurd w
  function-type (syntax.more p (syntax.more q ps)) zs w g u = absurd w.1
  function-type (syntax.more p (syntax.skip ps)) zs w g u = absurd w.1
  function-type (syntax.more p syntax.none) [] w g u = absurd g
  function-type (syntax.more p syntax.none) (None ∷ zs) w g u = absurd g
  function-type (syntax.more p syntax.none) (Some y ∷ z ∷ zs) w g u = absurd g.2
  function-type (syntax.more p syntax.none) (Some y ∷ []) w g u = g.1.signature (signature-kind (kind_of p) (shaped-kind category.Signature p w.0)) u where
    signature-kind : (k : Kind) → within category.Signature k ≡ true → k ≡ kind.Signature
    signature-kind kind.Signature e = refl
    signature-kind k e = absurd (differ e)

  plain-values : (k : Kind) (all : Trees) → ((xs : Parts) (q : Kind) → hint s k h all xs q ≡ value) → (xs : Parts) → Any xs → ((q : Kind) → judges_values (hint s k h all xs q) ≡ true) × ((y : Option Part) → Any (xs ++ y ∷ []))
  plain-values k all e xs u = ((λ q. ap judges_values (e xs q)), λ y. tt)

  pub operands : (k : Kind) (ps : Trees) (zs : Parts) → is_operand k ≡ true → AreShaped (rule (place_of c) k) ps → Parted k ps zs → Sound (whole s k h i j (layout k zs)) → is_type (sort_by s k h i j (layout k zs)) ≡ false → EachHoles (B k ps) (layout k zs)
  operands kind.Name ps zs e w g sd t = end-holes (B kind.Name ps) _ c kind.Name ps s h 0 [] ps zs w g
  operands kind.Integer ps zs e w g sd t = end-holes (B kind.Integer ps) _ c kind.Integer ps s h 0 [] ps zs w g
  operands kind.Rune ps zs e w g sd t = end-holes (B kind.Rune ps) _ c kind.Rune ps s h 0 [] ps zs w g
  operands kind.Text ps zs e w g sd t = end-holes (B kind.Text ps) _ c kind.Text ps s h 0 [] ps zs w g
  operands kind.Parenthesized ps zs e w g sd t = parenthesized ps zs w g (sounds kind.Parenthesized zs sd) t
  operands (kind.Unary b) ps zs e w g sd t =
      row-holes-all c (kind.Unary b) i j ps s h (open-free (kind.Unary b) refl refl) o Any (plain-values (kind.Unary b) ps (λ xs q. refl)) (λ n. refl) _ 0 [] ps zs refl tt (refl, tt) w g (sounds (kind.Unary b) zs sd)
  operands (kind.Binary b) ps zs e w g sd t =
      row-holes-all c (kind.Binary b) i j ps s h (open-free (kind.Binary b) refl refl) o Any (plain-values (kind.Binary b) ps (λ xs q. refl)) (λ n. refl) _ 0 [] ps zs refl tt (refl, (refl, tt)) w g (sounds (kind.Binary b) zs sd)
  operands kind.Bounds ps zs e w g sd t =
      row-holes-all c kind.Bounds i j ps s h (open-free kind.Bounds refl refl) o Any (plain-values kind.Bounds ps (λ xs q. refl)) (λ n. refl) _ 0 [] ps zs refl tt (refl, tt) w g (sounds kind.Bounds zs sd)
  operands kind.BoundsFrom ps zs e w g sd t =
      row-holes-all c kind.BoundsFrom i j ps s h (open-free kind.BoundsFrom refl refl) o Any (plain-values kind.BoundsFrom ps (λ xs q. refl)) (λ n. refl) _ 0 [] ps zs refl tt (refl, (refl, tt)) w g (sounds kind.BoundsFrom zs sd)
  operands kind.Selector ps zs e w g sd t = selector ps zs w g sd
  operands kind.Bracketed ps zs e w g sd t = bracketed ps zs w g (sounds kind.Bracketed (layout kind.Bracketed zs) sd)
  operands kind.Call syntax.none zs e w g sd t = absurd w
  operands kind.Call (syntax.skip ps) zs e w g sd t = absurd w
  operands kind.Call (syntax.more p qs) [] e w g sd t = absurd g
  operands kind.Call (syntax.more p qs) (None ∷ ws) e w g sd t = absurd g
  operands kind.Call (syntax.more p qs) (Some f ∷ ws) e w g sd t = call-holes c s h i j o f p qs ws w g (is_make (sort_of f)) refl sd
  operands kind.Composite ps zs e w g sd t = composite ps zs w g (sounds kind.Composite (layout kind.Composite zs) sd)
  operands kind.LiteralValue ps zs e w g sd t =
      (tt, row-holes-all c kind.LiteralValue i j ps s h (open-free kind.LiteralValue refl refl) o Any (told-literal c s h i j o ps) (λ n. refl) _ 0 [] ps zs refl tt refl w g (sounds kind.LiteralValue (None ∷ zs) sd).1)
  operands kind.Keyed ps zs e w g sd t = keyed ps zs w g (sounds kind.Keyed (layout kind.Keyed zs) sd) t
  operands kind.SequenceType ps zs e w g sd t = absurd (differ (sym t ∙ two-sorted (λ n q. type_nodes.sequence_type n (type_nodes.part_type q)) zs sd.0))
  operands kind.FunctionType ps zs e w g sd t = absurd (differ (sym t ∙ function-type ps zs w g sd.0))
  operands kind.StructType ps zs e w g sd t = absurd (differ (sym t))
  operands k ps zs e w g sd t = absurd (differ e)

-- ---- variables

-- may a variable be seen through a node of this form
abbrev passes : Form → Bool
passes form.Parenthesized = true
passes (form.Selector n) = true
passes form.Index = true
passes f = false

first-none : (rights : Rights) (f : Form) (ps : Typeds TypeTree) → passes f ≡ false → first_varies rights f ps ≡ false
first-none rights form.Parenthesized ps e = absurd (differ (sym e))
first-none rights (form.Selector n) ps e = absurd (differ (sym e))
first-none rights form.Index ps e = absurd (differ (sym e))
first-none rights f sort.none e = refl
first-none rights f (sort.more p ps) e = refl
first-none rights f (sort.skip ps) e = refl

object-passes : (s : Scope) (o : Option Object) → passes (object_form s o) ≡ false
object-passes s None = refl
object-passes s (Some object.Import) = refl
object-passes s (Some (object.Predeclared p)) = refl
object-passes s (Some (object.Package n)) = refl
object-passes s (Some (object.Local f n)) = refl

declared-passes : (s : Scope) (o : Option Object) → passes (declared_form s o) ≡ false
declared-passes s None = refl
declared-passes s (Some object.Import) = refl
declared-passes s (Some (object.Predeclared p)) = refl
declared-passes s (Some (object.Package n)) = refl
declared-passes s (Some (object.Local f n)) = refl

typed-passes : (x : Stands) (f : Form) → passes f ≡ false → passes (form_or_type x f) ≡ false
typed-passes (sort.IsType t) f h = refl
typed-passes x f h = h

name-passes : (s : Scope) (h : Hint) (i : ℕ) → passes (name_form s h i) ≡ false
name-passes s declares i = declared-passes s (s.objects i)
name-passes s free i = declared-passes s (s.objects i)
name-passes s h i = typed-passes (name_sort s h i) (object_form s (s.objects i)) (object-passes s (s.objects i))

callee-passes : (x : Stands) → passes (callee_form x) ≡ false
callee-passes (sort.IsType t) = refl
callee-passes x = refl

call-passes : (ys : Parts) → passes (on_first form.Call (λ f xs. callee_form (sort_of f)) ys) ≡ false
call-passes [] = refl
call-passes (None ∷ ys) = refl
call-passes (Some x ∷ ys) = callee-passes (sort_of x)

key-passes : (rights : Rights) (h : Hint) (name : List ℕ) → passes (key_form rights h name) ≡ false
key-passes rights (member t) name = refl
key-passes rights h name = refl

-- the kinds of such nodes
abbrev is_passing : Kind → Bool
is_passing kind.Parenthesized = true
is_passing kind.Selector = true
is_passing kind.Bracketed = true
is_passing k = false

form-passes : (s : Scope) (k : Kind) (h : Hint) (i j : ℕ) (ys : Parts) → is_passing k ≡ false → passes (form_by s k h i j ys) ≡ false
form-passes s kind.Parenthesized h i j ys e = absurd (differ (sym e))
form-passes s kind.Selector h i j ys e = absurd (differ (sym e))
form-passes s kind.Bracketed h i j ys e = absurd (differ (sym e))
form-passes s kind.Name h i j ys e = name-passes s h i
form-passes s kind.Call h i j ys e = call-passes ys
form-passes s kind.Keyed h i j ys e = key-passes s.rights h (s.texts i)
form-passes s k h i j ys e = refl

value-none : (o : Option TypeTree) → masses.is_constant (value_or_unknown o) ≡ false
value-none (Some t) = refl
value-none None = refl

selected-none : (rights : Rights) (name : List ℕ) (x : Stands) → masses.is_constant (selector_sort rights name x) ≡ false
selected-none rights name sort.Package = refl
selected-none rights name x = value-none (named_field (form_of_value rights x) name)

selector-none : (s : Scope) (h : Hint) (i j : ℕ) (ys : Parts) → masses.is_constant (sort_by s kind.Selector h i j ys) ≡ false
selector-none s h i j [] = refl
selector-none s h i j (None ∷ ys) = refl
selector-none s h i j (Some x ∷ []) = selected-none s.rights (s.texts (j - 1)) (sort_of x)
selector-none s h i j (Some x ∷ y ∷ ys) = refl

indexed-none : (rights : Rights) (x : Stands) → masses.is_constant (index_sort rights x) ≡ false
indexed-none rights x =
    let o = element_of (form_of_value rights x) in either (λ (y : Stands). masses.is_constant y ≡ false) (is_text rights x) (sort.Value byte) (value_or_unknown o) (λ e. refl) (λ e. value-none o)

bracketed-none : (s : Scope) (h : Hint) (i j : ℕ) (ys : Parts) → masses.is_constant (sort_by s kind.Bracketed h i j ys) ≡ false
bracketed-none s h i j [] = refl
bracketed-none s h i j (None ∷ ys) = refl
bracketed-none s h i j (Some x ∷ []) = refl
bracketed-none s h i j (Some x ∷ Some y ∷ []) = indexed-none s.rights (sort_of x)
bracketed-none s h i j (Some x ∷ None ∷ []) = refl
bracketed-none s h i j (Some x ∷ None ∷ z ∷ []) = value-none (value_type (sort_of x))
bracketed-none s h i j (Some x ∷ Some y ∷ z ∷ []) = value-none (value_type (sort_of x))
bracketed-none s h i j (Some x ∷ None ∷ z ∷ w ∷ ys) = refl
bracketed-none s h i j (Some x ∷ Some y ∷ z ∷ w ∷ ys) = refl

or-true : (a b : Bool) → (a || b) ≡ true → a ≡ false → b ≡ true
or-true true b e f = absurd (differ (sym f))
or-true false b e f = e

-- a node whose parts can't be seen through
module _ (rights : Rights) (f : Form) (i j : ℕ) (y : Stands) (ys zs : Parts) where
  abbrev node_here : Part
  node_here = made f i j y ys zs

  own-varies : is_variable_name f y ≡ true → (label_of node_here).varies ≡ true
  own-varies e = ap (λ b. b || list_any varies_in ys) e

  variable-by : (b : Bool) → is_variable_name f y ≡ b → (first_varies rights f (row zs) ≡ true → (label_of node_here).varies ≡ true) → (b || first_varies rights f (row zs)) ≡ true → (label_of node_here).varies ≡ true
  variable-by true e g u = own-varies e
  variable-by false e g u = g u

  variable-node : (first_varies rights f (row zs) ≡ true → (label_of node_here).varies ≡ true) → is_variable rights node_here ≡ true → (label_of node_here).varies ≡ true
  variable-node g u = variable-by (is_variable_name f y) refl g u

module _ (c : Category) (s : Scope) (h : Hint) (i j : ℕ) (rights : Rights) where
  parenthesized-varies : (ps : Trees) (zs : Parts) → AreShaped (rule (place_of c) kind.Parenthesized) ps → Row c kind.Parenthesized ps s h (rule (place_of c) kind.Parenthesized) 0 [] ps zs → is_variable rights (whole s kind.Parenthesized h i j zs) ≡ true
      → masses.is_constant (sort_by s kind.Parenthesized h i j zs) ≡ true → (label_of (whole s kind.Parenthesized h i j zs)).varies ≡ true
  parenthesized-varies syntax.none zs w g u t = absurd w
  parenthesized-varies (syntax.skip ps) zs w g u t = absurd w
  parenthesized-varies (syntax.more p (syntax.more q ps)) zs w g u t = absurd w.1
  parenthesized-varies (syntax.more p (syntax.skip ps)) zs w g u t = absurd w.1
  parenthesized-varies (syntax.more p syntax.none) [] w g u t = absurd g
  parenthesized-varies (syntax.more p syntax.none) (None ∷ zs) w g u t = absurd g
  parenthesized-varies (syntax.more p syntax.none) (Some y ∷ z ∷ zs) w g u t = absurd g.2
  parenthesized-varies (syntax.more p syntax.none) (Some y ∷ []) w g u t = ap (λ d. d || false) (g.1.variable rights u t)

  variable-kind : (k : Kind) (ps : Trees) (zs : Parts) → AreShaped (rule (place_of c) k) ps → Row c k ps s h (rule (place_of c) k) 0 [] ps zs → is_variable rights (whole s k h i j (layout k zs)) ≡ true
      → masses.is_constant (sort_by s k h i j (layout k zs)) ≡ true → (label_of (whole s k h i j (layout k zs))).varies ≡ true
  variable-kind kind.Parenthesized ps zs w g u t = parenthesized-varies ps zs w g u t
  variable-kind kind.Selector ps zs w g u t = absurd (differ (sym (selector-none s h i j (layout kind.Selector zs)) ∙ t))
  variable-kind kind.Bracketed ps zs w g u t = absurd (differ (sym (bracketed-none s h i j (layout kind.Bracketed zs)) ∙ t))
  variable-kind k ps zs w g u t =
      variable-node rights (form_by s k h i j (layout k zs)) i j (sort_by s k h i j (layout k zs)) (layout k zs) (all_given (takes s k h (layout k zs)) (layout k zs))
      (λ v. absurd (differ (sym (first-none rights (form_by s k h i j (layout k zs)) (row (all_given (takes s k h (layout k zs)) (layout k zs))) (form-passes s k h i j (layout k zs) refl)) ∙ v))) u

  variable-built : (k : Kind) (ps : Trees) (zs : Parts) (b : Bool) → AreShaped (rule (place_of c) k) ps → Row c k ps s h (rule (place_of c) k) 0 [] ps zs → is_variable rights (built_by s k h i j (layout k zs) b) ≡ true
      → masses.is_constant (sort_of (built_by s k h i j (layout k zs) b)) ≡ true → (label_of (built_by s k h i j (layout k zs) b)).varies ≡ true
  variable-built k ps zs true w g u t = variable-kind k ps zs w g u t
  variable-built k ps zs false w g u t = absurd (differ t)

-- ---- a node

bounds-known : (s : Scope) (k : Kind) (h : Hint) (i j : ℕ) (ys : Parts) → is_bounds k ≡ true → is_unknown (sort_of (built_by s k h i j ys (is_sound k ys (own_faults s k h i j ys)))) ≡ false
bounds-known s kind.Bounds h i j ys e = refl
bounds-known s kind.BoundsFrom h i j ys e = refl
bounds-known s k h i j ys e = absurd (differ e)

signature-known : (s : Scope) (k : Kind) (h : Hint) (i j : ℕ) (ys : Parts) → k ≡ kind.Signature → is_unknown (sort_of (built_by s k h i j ys (is_sound k ys (own_faults s k h i j ys)))) ≡ false
    → is_type (sort_of (built_by s k h i j ys (is_sound k ys (own_faults s k h i j ys)))) ≡ true
signature-known s kind.Signature h i j ys e u = two-sorted (λ n q. type_nodes.signature_type n q) ys u
signature-known s k h i j ys e u = subst (λ (q : Kind). is_unknown (sort_of (built_by s q h i j ys (is_sound q ys (own_faults s q h i j ys)))) ≡ false → is_type (sort_of (built_by s q h i j ys (is_sound q ys (own_faults s q h i j ys)))) ≡ true) (sym e)
    (λ v. two-sorted (λ n q. type_nodes.signature_type n q) ys v) u

module _ (c : Category) (s : Scope) (h : Hint) (i j : ℕ) where
  no-type-node : (k : Kind) (ps : Trees) (zs : Parts) → is_operand k ≡ true → AreShaped (rule (place_of c) k) ps → Row c k ps s h (rule (place_of c) k) 0 [] ps zs → own_faults s k h i j (layout k zs) ≡ [] → judges_values h ≡ true
      → Sound (built_by s k h i j (layout k zs) (is_sound k (layout k zs) (own_faults s k h i j (layout k zs)))) → is_type (sort_of (built_by s k h i j (layout k zs) (is_sound k (layout k zs) (own_faults s k h i j (layout k zs))))) ≡ false
  no-type-node kind.Bounds ps zs e w g none v sd = refl
  no-type-node kind.BoundsFrom ps zs e w g none v sd = refl
  no-type-node kind.Keyed ps zs e w g none v sd = keyed-no-type c s h i j true ps zs w g (sounds c s h i j true kind.Keyed (layout kind.Keyed zs) sd) v
  no-type-node kind.LiteralValue ps zs e w g none v sd =
      no-type s.rights h i j (sort_of (built s kind.LiteralValue h i j zs)) v (place-allows s kind.LiteralValue h i j (layout kind.LiteralValue zs) refl none (sound-known (built s kind.LiteralValue h i j zs) sd))
  no-type-node k ps zs e w g none v sd =
      no-type s.rights h i j (sort_of (built s k h i j zs)) v (place-allows s k h i j (layout k zs) (placed-expression k e) none (sound-known (built s k h i j zs) sd))

module _ (c : Category) (s : Scope) (k : Kind) (h : Hint) (i j : ℕ) (ps : Trees) (zs : Parts) (w : IsShaped c (node k i j ps)) (g : Row c k ps s h (rule (place_of c) k) 0 [] ps zs) (none : own_faults s k h i j (layout k zs) ≡ []) where
  abbrev ys : Parts
  ys = layout k zs

  abbrev b : Bool
  b = is_sound k ys (own_faults s k h i j ys)

  abbrev x : Part
  x = built_by s k h i j ys b

  whole-sound : (d : Bool) → Sound (built_by s k h i j ys d) → Sound (whole s k h i j ys)
  whole-sound true sd = sd
  whole-sound false sd = absurd (differ (sym sd.0))

  begins : (d : Bool) → first_of (built_by s k h i j ys d) ≡ i
  begins true = refl
  begins false = refl

  ends : (d : Bool) → last_of (built_by s k h i j ys d) ≡ j
  ends true = refl
  ends false = refl

  itself : (d : Bool) → is_operand_place c ≡ true → is_whole (built_by s k h i j ys d) ≡ true → (is_expression k ≡ true)
  itself true e u = whole-kind s k h i j ys (operand-kind c k e w.0) u
  itself false e u = absurd (differ (sym (none-unknown (masses.is_expression (form_by s k h i j ys))) ∙ u)) where
    none-unknown : (a : Bool) → (a && false) ≡ false
    none-unknown true = refl
    none-unknown false = refl

  inside : (d : Bool) → is_operand_place c ≡ true → Sound (built_by s k h i j ys d) → is_type (sort_of (built_by s k h i j ys d)) ≡ false → (o : Bool) → AllHoles (Below o c (node k i j ps)) (parts_of (built_by s k h i j ys d))
  inside true e sd t o =
      let P = Below o c (node k i j ps) in
      row-holes P (all_given (takes s k h ys) ys) (all-given-holes P (takes s k h ys) ys (operands c s h i j o k ps zs (operand-kind c k e w.0) w.1 g sd t))
  inside false e sd t o = absurd (differ (sym sd.0))

  pub node-part : TypedPart c (node k i j ps) h x
  node-part = record {
    placed = λ e u. (s.rights, place-allows s k h i j ys e none u);
    no_type = λ e v sd. no-type-node c s h i j k ps zs (operand-kind c k e w.0) w.1 g none v sd;
    operand = λ e sd t. record { begins = begins b; ends = ends b; itself = λ u. (itself b e u, operand-takes c e); inside = inside b e sd t };
    signature = λ e u. signature-known s k h i j ys e u;
    bounds = λ e. bounds-known s k h i j ys e;
    unheld = λ e. ap is_held (by-form s k h i j ys b) ∙ form-unheld s k h i j ys e;
    variable = λ rights u t. variable-built c s h i j rights k ps zs b w.1 g u t;
  }

-- ---- whole trees

abbrev Rest : Category → Kind → Trees → Scope → Hint → Rule → ℕ → Parts → Trees → Parts → Type 0
Rest c k all s h r n xs ps found = (zs : Parts) × (found ≡ xs ++ zs) × Row c k all s h r n xs ps zs

mutual
  pub typed-part : (c : Category) (s : Scope) (h : Hint) (t : Tree) → IsShaped c t → Faultless (faults s h t) → TypedPart c t h (typing s h t)
  typed-part c s h (node k i j ps) w f =
      let rest = typings-row c k ps s h (rule (place_of c) k) 0 [] ps refl refl w.1 (front-faultless (faults_of_parts s k h ps [] ps) _ f) in
      let found = typings s k h ps [] ps in
      let g = subst (Row c k ps s h (rule (place_of c) k) 0 [] ps) (sym rest.1) rest.2 in
      node-part c s k h i j ps found w g (back-faultless (faults_of_parts s k h ps [] ps) _ f).0

  typings-row : (c : Category) (k : Kind) (all : Trees) (s : Scope) (h : Hint) (r : Rule) (n : ℕ) (xs : Parts) (ps : Trees) → parts_behind n all ≡ ps → rules_behind n (rule (place_of c) k) ≡ r → AreShaped r ps → Faultless (faults_of_parts s k h all xs ps)
      → Rest c k all s h r n xs ps (typings s k h all xs ps)
  typings-row c k all s h r n xs syntax.none at a w f = ([], sym (append-nil xs), tt)
  typings-row c k all s h r n xs (syntax.more p ps) at a w f =
      let inner = part_scope s k xs in
      let to = hint s k h all xs (kind_of p) in
      let x = typing inner to p in
      let v = shaped-more r p ps w in
      let rest = typings-row c k all s h (next_rule r) (suc n) (xs ++ Some x ∷ []) ps (behind-more n all p ps at) (rules-next n (rule (place_of c) k) ∙ ap next_rule a) v.1 (back-faultless (faults inner to p) _ f) in (
        Some x ∷ rest.0,
        rest.1 ∙ append_assoc xs (Some x ∷ []) rest.0,
        (
          (λ e. record { there = behind-there n all p ps at; asked = behind-asked n (rule (place_of c) k) all p ps at ∙ ap (λ q. Some (next_category q)) a; holds = e }),
          typed-part (next_category r) inner to p v.0 (front-faultless (faults inner to p) _ f),
          rest.2,
        ),
      )
  typings-row c k all s h r n xs (syntax.skip ps) at a w f =
      let rest = typings-row c k all s h (next_rule r) (suc n) (xs ++ None ∷ []) ps (behind-skip n all ps at) (rules-next n (rule (place_of c) k) ∙ ap next_rule a) (shaped-skip r ps w) f in
      (None ∷ rest.0, rest.1 ∙ append_assoc xs (None ∷ []) rest.0, rest.2)

pub typed-unheld : (s : Scope) (h : Hint) (t : Tree) → is_expression (kind_of t) ≡ true → is_held (form_of (typing s h t)) ≡ false
typed-unheld s h (node k i j ps) e =
    let ys = layout k (typings s k h ps [] ps) in
    ap is_held (by-form s k h i j ys (is_sound k ys (own_faults s k h i j ys))) ∙ form-unheld s k h i j ys e
