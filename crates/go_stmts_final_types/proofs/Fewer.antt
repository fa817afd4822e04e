-- Where less is known, a tree is typed the same, or stands for nothing known.
use Rattle.std.proofs.Common.{◌≡◌, ℕ, ◌⊎◌, inl, inr, Bool, true, false, cond, [], ◌∷◌, ◌++◌, List, Option, Some, None, refl, sym, ap, subst, ◌∙◌, IsTrue}
use Rattle.std.specs.Prelude.{◌&&◌, ◌||◌, not}
use Rattle.std.specs.List.{list_any}
use Rattle.go_tokens.specs.declared.token.TokenKind.{TokenKind}
use Rattle.go_tokens.specs.declared.token.TokenKind.TheVariants as token
use Rattle.go_grammar.specs.declared.kind.Category.{Category}
use Rattle.go_grammar.specs.declared.kind.Category.TheVariants as category
use Rattle.go_grammar.specs.declared.kind.Kind.{Kind}
use Rattle.go_grammar.specs.declared.kind.Kind.TheVariants as kind
use Rattle.go_grammar.specs.declared.kind.Place.{Place}
use Rattle.go_grammar.specs.declared.kind.Place.TheVariants as place
use Rattle.go_grammar.specs.Categories.{is_expression, is_type, is_result, is_literal_type, within, place_of}
use Rattle.go_grammar.specs.Grammar.{rule, is_name}
use Rattle.go_grammar.specs.Rules.{Rule, End, Then, Maybe, Unless, Many, Items, Lines, Again, item}
use Rattle.go_grammar.specs.Trees.{Tree, node, Trees, none, more, skip, kind_of}
use Rattle.go_tree.specs.declared.object.Object.{Object}
use Rattle.go_tree.specs.declared.object.Object.TheVariants as object
use Rattle.go_types.specs.Trees.{TypeTree}
use Rattle.go_types.specs.Relations.{Rights}
use Rattle.go_typed.specs.declared.form.Form.{Form}
use Rattle.go_typed.specs.declared.form.Form.TheVariants as form
use Rattle.go_typed.specs.Trees.{typed, sort_of, form_of, parts_of, list_of}
use Rattle.go_typed.specs.Trees as sort
use Rattle.go_exprs_rules.specs.Faults.{or_else}
use Rattle.go_exprs_rules.specs.Names.{object_sort, need_of, name_sort, object_form, form_or_type, name_form, place_failing}
use Rattle.go_exprs_rules.specs.Scopes.{Needed, Scope, Hint, declares, free}
use Rattle.go_exprs_rules.specs.Settling.{Part}
use Rattle.go_exprs_rules.specs.Sorts.{Stands, is_unknown, named_type}
use Rattle.go_exprs_rules.specs.Tables.{Parts, hint, part_scope, is_held, held, all_held, leaf, cut, first_cut, is_make_call, call_parts, has_no_low, bounds_of, is_package, selector_parts, layout, form_by, selector_form, bracketed_form, callee_form, is_lost, is_judged, is_placed, own_faults, no_faults, is_sound, made, built_by, built_on, built}
use Rattle.go_exprs_rules.specs.Tables as tables
use Rattle.go_exprs_rules.specs.TypeNodes.{part_type, type_sort, is_parameter, second, entry_type, entry_of, first_entry, entry_types, with_front, all_types, is_result_list, result_types, parts_in, function_of, signature_type}
use Rattle.go_exprs_rules.specs.Typing.{typing}
use Rattle.go_stmts_final_types.specs.Fewer.{KnowsLess, knowing}
use Rattle.go_stmts_final_types.specs.Shapes.{IsShaped, AreShaped}
use Rattle.go_stmts_final_types.proofs.Holders.{list_row}
use Rattle.go_stmts_final_types.proofs.Operands.{name_fails, lone}
use Rattle.go_stmts_final_types.proofs.Rows.{ranked}
use Rattle.go_stmts_final_types.proofs.Typing.{behind, typings_are}

-- ---- what is lost

abbrev IsLost : Part → Type 0
IsLost x = is_unknown (sort_of x) ≡ true

abbrev AnyLost : Parts → Type 0
AnyLost xs = list_any is_lost xs ≡ true

-- by the kind of its tree
abbrev KindLost : Kind → Part → Type 0
KindLost kind.Name x = IsLost x
KindLost kind.Integer x = IsLost x
KindLost kind.Rune x = IsLost x
KindLost kind.Text x = IsLost x
KindLost kind.Parenthesized x = IsLost x
KindLost kind.ParenthesizedType x = IsLost x
KindLost (kind.Unary o) x = IsLost x
KindLost (kind.Binary o) x = IsLost x
KindLost kind.Selector x = IsLost x
KindLost kind.Bracketed x = IsLost x
KindLost kind.Call x = IsLost x
KindLost kind.Composite x = IsLost x
KindLost kind.LiteralValue x = IsLost x
KindLost kind.Keyed x = IsLost x
KindLost kind.SequenceType x = IsLost x
KindLost kind.FunctionType x = IsLost x
KindLost kind.StructType x = IsLost x
KindLost kind.Signature x = IsLost x
KindLost kind.Bounds x = AnyLost (bounds_of (Some x))
KindLost kind.BoundsFrom x = AnyLost (bounds_of (Some x))
KindLost kind.Fields x = AnyLost (held (Some x))
KindLost kind.Parameters x = all_types (entry_types (parts_in (Some x))) ≡ None
KindLost kind.Results x = all_types (result_types (Some x)) ≡ None
KindLost kind.Parameter x = (next : Option TypeTree) → entry_of x next ≡ None
KindLost kind.NameList x = ⊥
KindLost kind.DeclaredName x = ⊥
KindLost k x = Unit {0}

-- by its category
abbrev Lost : Category → Part → Type 0
Lost (category.Expression l p) x = IsLost x
Lost (category.LiteralType p) x = IsLost x
Lost category.Type x = IsLost x × (is_held (form_of x) ≡ false)
Lost category.Name x = IsLost x
Lost category.Element x = IsLost x
Lost category.Value x = IsLost x
Lost category.Signature x = IsLost x
Lost category.Bracket x = AnyLost (bounds_of (Some x))
Lost category.Entry x = (next : Option TypeTree) → entry_of x next ≡ None
Lost category.Parameters x = all_types (entry_types (parts_in (Some x))) ≡ None
Lost category.Result x = all_types (result_types (Some x)) ≡ None
Lost category.Fields x = AnyLost (held (Some x))
Lost category.NameList x = ⊥
Lost category.DeclaredName x = ⊥
Lost c x = Unit {0}

-- one of the parts of a row is lost
abbrev LostIn : Rule → Parts → Type 0
LostIn (End ws) xs = ⊥
LostIn (Then ws c r) [] = ⊥
LostIn (Then ws c r) (None ∷ xs) = LostIn r xs
LostIn (Then ws c r) (Some x ∷ xs) = Lost c x ⊎ LostIn r xs
LostIn (Maybe ws c r) [] = ⊥
LostIn (Maybe ws c r) (None ∷ xs) = LostIn r xs
LostIn (Maybe ws c r) (Some x ∷ xs) = Lost c x ⊎ LostIn r xs
LostIn (Unless ws c us r) [] = ⊥
LostIn (Unless ws c us r) (None ∷ xs) = LostIn r xs
LostIn (Unless ws c us r) (Some x ∷ xs) = Lost c x ⊎ LostIn r xs
LostIn (Many ws l) [] = ⊥
LostIn (Many ws l) (None ∷ xs) = LostIn (Many ws l) xs
LostIn (Many ws l) (Some x ∷ xs) = Lost (item l) x ⊎ LostIn (Many ws l) xs

-- ---- booleans and lists

or_behind : (a b : Bool) → b ≡ true → (a || b) ≡ true
or_behind true b e = refl
or_behind false b e = e

first_lost : (x : Part) (xs : Parts) → IsLost x → AnyLost (Some x ∷ xs)
first_lost x xs e = ap (λ b. b || list_any is_lost xs) e

later_lost : (x : Option Part) (xs : Parts) → AnyLost xs → AnyLost (x ∷ xs)
later_lost x xs e = or_behind (is_lost x) (list_any is_lost xs) e

or_assoc : (a b c : Bool) → (a || (b || c)) ≡ ((a || b) || c)
or_assoc true b c = refl
or_assoc false b c = refl

or_front : (a b : Bool) → a ≡ true → (a || b) ≡ true
or_front true b e = refl
or_front false b e = cc

any_append : (xs ys : Parts) → list_any is_lost (xs ++ ys) ≡ (list_any is_lost xs || list_any is_lost ys)
any_append [] ys = refl
any_append (x ∷ xs) ys = ap (λ b. is_lost x || b) (any_append xs ys) ∙ or_assoc (is_lost x) (list_any is_lost xs) (list_any is_lost ys)

front_lost : (xs ys : Parts) → AnyLost xs → AnyLost (xs ++ ys)
front_lost xs ys e = any_append xs ys ∙ or_front (list_any is_lost xs) (list_any is_lost ys) e

behind_lost : (xs ys : Parts) → AnyLost ys → AnyLost (xs ++ ys)
behind_lost xs ys e = any_append xs ys ∙ or_behind (list_any is_lost xs) (list_any is_lost ys) e

-- ---- as parts are laid out

leaf_same : (x : Part) → is_lost (Some (leaf x)) ≡ is_lost (Some x)
leaf_same (typed f i j l ps) = refl

cut_same : (o : Option Part) → is_lost (cut o) ≡ is_lost o
cut_same None = refl
cut_same (Some x) = by (tables.is_type (sort_of x))
  where
    by : (b : Bool) → is_lost (cond b (Some (leaf x)) (Some x)) ≡ is_lost (Some x)
    by true = leaf_same x
    by false = refl

cut_any : (xs : Parts) → list_any is_lost (first_cut xs) ≡ list_any is_lost xs
cut_any [] = refl
cut_any (x ∷ xs) = ap (λ b. b || list_any is_lost xs) (cut_same x)

call_any : (xs : Parts) → list_any is_lost (call_parts xs) ≡ list_any is_lost xs
call_any [] = refl
call_any (f ∷ xs) = by (is_make_call (f ∷ xs))
  where
    by : (b : Bool) → list_any is_lost (cond b (f ∷ first_cut xs) (cut f ∷ xs)) ≡ list_any is_lost (f ∷ xs)
    by true = ap (λ b. is_lost f || b) (cut_any xs)
    by false = ap (λ b. b || list_any is_lost xs) (cut_same f)

bounds_lost : (x : Option Part) → AnyLost (held x) → AnyLost (bounds_of x)
bounds_lost x e = by (has_no_low x)
  where
    by : (b : Bool) → AnyLost (cond b (None ∷ held x) (held x))
    by true = later_lost None (held x) e
    by false = e

selector_lost : (x : Part) (xs : Parts) → IsLost x → AnyLost (selector_parts (Some x ∷ xs))
selector_lost x [] e = by (sort_of x) e refl
  where
    by : (z : Stands) → is_unknown z ≡ true → sort_of x ≡ z → AnyLost (cond (is_package (sort_of x)) [] (Some x ∷ []))
    by sort.Unknown q m = subst (λ b. AnyLost (cond b [] (Some x ∷ []))) (sym (ap is_package m)) (first_lost x [] e)
    by z q m = cc
selector_lost x (None ∷ xs) e = first_lost x (None ∷ xs) e
selector_lost x (Some y ∷ xs) e = first_lost x (Some y ∷ xs) e

-- ---- forms

selector_plain : (rights : Rights) (name : List ℕ) (ys : Parts) → is_held (selector_form rights name ys) ≡ false
selector_plain rights name [] = refl
selector_plain rights name (None ∷ ys) = refl
selector_plain rights name (Some x ∷ []) = refl
selector_plain rights name (Some x ∷ y ∷ ys) = refl

bracketed_plain : (ys : Parts) → is_held (bracketed_form ys) ≡ false
bracketed_plain [] = refl
bracketed_plain (x ∷ []) = refl
bracketed_plain (x ∷ y ∷ []) = refl
bracketed_plain (x ∷ y ∷ z ∷ zs) = refl

callee_plain : (x : Stands) → is_held (callee_form x) ≡ false
callee_plain (sort.IsType t) = refl
callee_plain x = refl

call_plain : (s : Scope) (h : Hint) (i j : ℕ) (ys : Parts) → is_held (form_by s kind.Call h i j ys) ≡ false
call_plain s h i j [] = refl
call_plain s h i j (None ∷ ys) = refl
call_plain s h i j (Some f ∷ ys) = callee_plain (sort_of f)

form_plain : (s : Scope) (k : Kind) (h : Hint) (i j : ℕ) (ys : Parts) → (is_expression k || is_type k) ≡ true → is_held (form_by s k h i j ys) ≡ false
form_plain s kind.Name h i j ys e = name_fails is_held refl (λ r. refl) (λ n. refl) (λ n. refl) refl s h i
form_plain s kind.Integer h i j ys e = refl
form_plain s kind.Rune h i j ys e = refl
form_plain s kind.Text h i j ys e = refl
form_plain s kind.Parenthesized h i j ys e = refl
form_plain s kind.ParenthesizedType h i j ys e = refl
form_plain s (kind.Unary o) h i j ys e = refl
form_plain s (kind.Binary o) h i j ys e = refl
form_plain s kind.Selector h i j ys e = selector_plain s.rights _ ys
form_plain s kind.Bracketed h i j ys e = bracketed_plain ys
form_plain s kind.Call h i j ys e = call_plain s h i j ys
form_plain s kind.Composite h i j ys e = refl
form_plain s kind.SequenceType h i j ys e = refl
form_plain s kind.FunctionType h i j ys e = refl
form_plain s kind.StructType h i j ys e = refl
form_plain s k h i j ys e = cc

form_built : (s : Scope) (k : Kind) (h : Hint) (i j : ℕ) (ys : Parts) (b : Bool) → form_of (built_by s k h i j ys b) ≡ form_by s k h i j ys
form_built s k h i j ys true = refl
form_built s k h i j ys false = refl

no_parameter : (f : Form) → is_held f ≡ false → is_parameter f ≡ false
no_parameter (form.Held k) e = cc
no_parameter f e = refl

no_results : (f : Form) → is_held f ≡ false → is_result_list f ≡ false
no_results (form.Held k) e = cc
no_results f e = refl

-- ---- a node that is lost, by its category

-- Expressions and types hold no parts of others.
abbrev IsPlain : Kind → Part → Type 0
IsPlain k x = (is_expression k || is_type k) ≡ true → is_held (form_of x) ≡ false

expression_lost : (k : Kind) (x : Part) → is_expression k ≡ true → KindLost k x → IsLost x
expression_lost kind.Name x e h = h
expression_lost kind.Integer x e h = h
expression_lost kind.Rune x e h = h
expression_lost kind.Text x e h = h
expression_lost kind.Parenthesized x e h = h
expression_lost (kind.Unary o) x e h = h
expression_lost (kind.Binary o) x e h = h
expression_lost kind.Selector x e h = h
expression_lost kind.Bracketed x e h = h
expression_lost kind.Call x e h = h
expression_lost kind.Composite x e h = h
expression_lost kind.SequenceType x e h = h
expression_lost kind.FunctionType x e h = h
expression_lost kind.StructType x e h = h
expression_lost k x e h = cc

type_lost : (k : Kind) (x : Part) → is_type k ≡ true → KindLost k x → IsLost x
type_lost kind.Name x e h = h
type_lost kind.ParenthesizedType x e h = h
type_lost kind.SequenceType x e h = h
type_lost kind.FunctionType x e h = h
type_lost kind.StructType x e h = h
type_lost k x e h = cc

literal_type_lost : (p : Place) (k : Kind) (x : Part) → is_literal_type p k ≡ true → KindLost k x → IsLost x
literal_type_lost place.Free kind.Name x e h = h
literal_type_lost place.Header kind.Name x e h = h
literal_type_lost p kind.SequenceType x e h = h
literal_type_lost p kind.StructType x e h = h
literal_type_lost place.Free k x e h = cc
literal_type_lost place.Header k x e h = cc

element_lost : (k : Kind) (x : Part) → IsTrue (within category.Element k) → KindLost k x → IsLost x
element_lost kind.LiteralValue x e h = h
element_lost kind.Keyed x e h = h
element_lost k x e h = expression_lost k x e h

value_lost : (k : Kind) (x : Part) → IsTrue (within category.Value k) → KindLost k x → IsLost x
value_lost kind.LiteralValue x e h = h
value_lost k x e h = expression_lost k x e h

plain_lost : (x : Part) → is_held (form_of x) ≡ false → IsLost x → AnyLost (bounds_of (Some x))
plain_lost x e l = subst AnyLost (sym (lone x e)) (first_lost x [] l)

bracket_lost : (k : Kind) (x : Part) → IsTrue (within category.Bracket k) → IsPlain k x → KindLost k x → AnyLost (bounds_of (Some x))
bracket_lost kind.Bounds x e p h = h
bracket_lost kind.BoundsFrom x e p h = h
bracket_lost k x e p h = plain_lost x (p (ap (λ b. b || is_type k) e)) (expression_lost k x e h)

unknown_entry : (x : Stands) (next : Option TypeTree) → is_unknown x ≡ true → entry_type x next ≡ None
unknown_entry sort.Unknown next e = refl
unknown_entry x next e = cc

plain_entry : (x : Part) → is_held (form_of x) ≡ false → IsLost x → (next : Option TypeTree) → entry_of x next ≡ None
plain_entry x e l next = ap (λ b. cond b (part_type (second (list_of (parts_of x)))) (entry_type (sort_of x) next)) (no_parameter (form_of x) e) ∙ unknown_entry (sort_of x) next l

either_true : (a b : Bool) → b ≡ true → (a || b) ≡ true
either_true true b e = refl
either_true false b e = e

entry_lost : (k : Kind) (x : Part) → IsTrue (within category.Entry k) → IsPlain k x → KindLost k x → (next : Option TypeTree) → entry_of x next ≡ None
entry_lost kind.Parameter x e p h = h
entry_lost k x e p h = plain_entry x (p (either_true (is_expression k) (is_type k) e)) (type_lost k x e h)

front_none : (o : Option TypeTree) (ts : Option (List TypeTree)) → o ≡ None → with_front o ts ≡ None
front_none None ts e = refl
front_none (Some t) ts e = cc

rest_none : (o : Option TypeTree) (ts : Option (List TypeTree)) → ts ≡ None → with_front o ts ≡ None
rest_none None None e = refl
rest_none (Some t) None e = refl
rest_none o (Some ts) e = cc

unknown_named : (x : Stands) → is_unknown x ≡ true → named_type x ≡ None
unknown_named sort.Unknown e = refl
unknown_named x e = cc

plain_result : (x : Part) → is_held (form_of x) ≡ false → IsLost x → all_types (result_types (Some x)) ≡ None
plain_result x e l =
    ap (λ b. all_types (cond b (entry_types (list_of (parts_of x))) (named_type (sort_of x) ∷ []))) (no_results (form_of x) e) ∙ front_none (named_type (sort_of x)) (Some []) (unknown_named (sort_of x) l)

result_lost : (k : Kind) (x : Part) → is_result k ≡ true → IsPlain k x → KindLost k x → all_types (result_types (Some x)) ≡ None
result_lost kind.Results x e p h = h
result_lost kind.Name x e p h = plain_result x (p refl) h
result_lost kind.SequenceType x e p h = plain_result x (p refl) h
result_lost kind.FunctionType x e p h = plain_result x (p refl) h
result_lost kind.StructType x e p h = plain_result x (p refl) h
result_lost k x e p h = cc

name_lost : (k : Kind) (x : Part) → IsTrue (within category.Name k) → KindLost k x → IsLost x
name_lost kind.Name x e h = h
name_lost k x e h = cc

signature_lost : (k : Kind) (x : Part) → IsTrue (within category.Signature k) → KindLost k x → IsLost x
signature_lost kind.Signature x e h = h
signature_lost k x e h = cc

parameters_lost : (k : Kind) (x : Part) → IsTrue (within category.Parameters k) → KindLost k x → all_types (entry_types (parts_in (Some x))) ≡ None
parameters_lost kind.Parameters x e h = h
parameters_lost k x e h = cc

fields_lost : (k : Kind) (x : Part) → IsTrue (within category.Fields k) → KindLost k x → AnyLost (held (Some x))
fields_lost kind.Fields x e h = h
fields_lost k x e h = cc

names_lost : (k : Kind) (x : Part) → IsTrue (within category.NameList k) → KindLost k x → ⊥
names_lost kind.NameList x e h = h
names_lost k x e h = cc

declared_lost : (k : Kind) (x : Part) → IsTrue (within category.DeclaredName k) → KindLost k x → ⊥
declared_lost kind.DeclaredName x e h = h
declared_lost k x e h = cc

lost_as : (c : Category) (k : Kind) (x : Part) → IsTrue (within c k) → IsPlain k x → KindLost k x → Lost c x
lost_as (category.Expression l q) k x e p h = expression_lost k x (ranked l k e) h
lost_as (category.LiteralType q) k x e p h = literal_type_lost q k x e h
lost_as category.Type k x e p h = (type_lost k x e h, p (either_true (is_expression k) (is_type k) e))
lost_as category.Name k x e p h = name_lost k x e h
lost_as category.Element k x e p h = element_lost k x e h
lost_as category.Value k x e p h = value_lost k x e h
lost_as category.Signature k x e p h = signature_lost k x e h
lost_as category.Bracket k x e p h = bracket_lost k x e p h
lost_as category.Entry k x e p h = entry_lost k x e p h
lost_as category.Parameters k x e p h = parameters_lost k x e h
lost_as category.Result k x e p h = result_lost k x e p h
lost_as category.Fields k x e p h = fields_lost k x e h
lost_as category.NameList k x e p h = names_lost k x e h
lost_as category.DeclaredName k x e p h = declared_lost k x e h
lost_as c k x e p h = tt

-- ---- nodes over a part that is lost

not_judged : (b j n : Bool) → b ≡ true → j ≡ true → (not b || (not j && n)) ≡ false
not_judged true true n e f = refl
not_judged true false n e f = cc
not_judged false j n e f = cc

node_lost : (s : Scope) (k : Kind) (h : Hint) (i j : ℕ) (ys : Parts) → is_placed k ≡ true → AnyLost ys → IsLost (built_on s k h i j ys)
node_lost s k h i j ys e l = subst (λ b. IsLost (built_by s k h i j ys b)) (sym (not_judged (is_placed k) (list_any is_lost ys) (no_faults (own_faults s k h i j ys)) e l)) refl

many_lost : (ws : List TokenKind) (l : Items) → ((x : Part) → Lost (item l) x → IsLost x) → (xs : Parts) → LostIn (Many ws l) xs → AnyLost xs
many_lost ws l f [] h = absurd h
many_lost ws l f (None ∷ xs) h = later_lost None xs (many_lost ws l f xs h)
many_lost ws l f (Some x ∷ xs) (inl h) = first_lost x xs (f x h)
many_lost ws l f (Some x ∷ xs) (inr h) = later_lost (Some x) xs (many_lost ws l f xs h)

many_held : (ws : List TokenKind) (l : Items) → ((x : Part) → Lost (item l) x → AnyLost (held (Some x))) → (xs : Parts) → LostIn (Many ws l) xs → AnyLost (all_held xs)
many_held ws l f [] h = absurd h
many_held ws l f (None ∷ xs) h = behind_lost (held None) (all_held xs) (many_held ws l f xs h)
many_held ws l f (Some x ∷ xs) (inl h) = front_lost (held (Some x)) (all_held xs) (f x h)
many_held ws l f (Some x ∷ xs) (inr h) = behind_lost (held (Some x)) (all_held xs) (many_held ws l f xs h)

many_entries : (ws : List TokenKind) (l : Items) → ((x : Part) → Lost (item l) x → (next : Option TypeTree) → entry_of x next ≡ None) → (xs : Parts) → LostIn (Many ws l) xs → all_types (entry_types xs) ≡ None
many_entries ws l f [] h = absurd h
many_entries ws l f (None ∷ xs) h = many_entries ws l f xs h
many_entries ws l f (Some x ∷ xs) (inl h) = front_none (entry_of x (first_entry (entry_types xs))) (all_types (entry_types xs)) (f x h (first_entry (entry_types xs)))
many_entries ws l f (Some x ∷ xs) (inr h) = rest_none (entry_of x (first_entry (entry_types xs))) (all_types (entry_types xs)) (many_entries ws l f xs h)

first_none : (rs : Option (List TypeTree)) (ps : Option (List TypeTree)) → ps ≡ None → function_of ps rs ≡ None
first_none rs None e = refl
first_none rs (Some ps) e = cc

second_none : (ps : Option (List TypeTree)) (rs : Option (List TypeTree)) → rs ≡ None → function_of ps rs ≡ None
second_none None None e = refl
second_none (Some ps) None e = refl
second_none ps (Some rs) e = cc

no_type : (o : Option TypeTree) → o ≡ None → is_unknown (type_sort o) ≡ true
no_type None e = refl
no_type (Some t) e = cc

-- a category whose parts are lost where they stand for nothing known
abbrev Loses : Category → Type 0
Loses c = (x : Part) → Lost c x → IsLost x

abbrev RuleLoses : Rule → Type 0
RuleLoses (End ws) = Unit {0}
RuleLoses (Then ws c r) = Loses c × RuleLoses r
RuleLoses (Maybe ws c r) = Loses c × RuleLoses r
RuleLoses (Unless ws c us r) = Loses c × RuleLoses r
RuleLoses (Many ws l) = Loses (item l)

any_row : (r : Rule) → RuleLoses r → (xs : Parts) → LostIn r xs → AnyLost xs
any_row (End ws) f xs l = absurd l
any_row (Then ws c r) f [] l = absurd l
any_row (Then ws c r) f (None ∷ xs) l = later_lost None xs (any_row r f.1 xs l)
any_row (Then ws c r) f (Some x ∷ xs) (inl l) = first_lost x xs (f.0 x l)
any_row (Then ws c r) f (Some x ∷ xs) (inr l) = later_lost (Some x) xs (any_row r f.1 xs l)
any_row (Maybe ws c r) f [] l = absurd l
any_row (Maybe ws c r) f (None ∷ xs) l = later_lost None xs (any_row r f.1 xs l)
any_row (Maybe ws c r) f (Some x ∷ xs) (inl l) = first_lost x xs (f.0 x l)
any_row (Maybe ws c r) f (Some x ∷ xs) (inr l) = later_lost (Some x) xs (any_row r f.1 xs l)
any_row (Unless ws c us r) f [] l = absurd l
any_row (Unless ws c us r) f (None ∷ xs) l = later_lost None xs (any_row r f.1 xs l)
any_row (Unless ws c us r) f (Some x ∷ xs) (inl l) = first_lost x xs (f.0 x l)
any_row (Unless ws c us r) f (Some x ∷ xs) (inr l) = later_lost (Some x) xs (any_row r f.1 xs l)
any_row (Many ws l) f xs h = many_lost ws l f xs h

-- names that are declared, and keys, are the same
abbrev is_named : Kind → Bool
is_named kind.Parameter = true
is_named kind.Keyed = true
is_named k = false

module _ (s : Scope) (h : Hint) (i j : ℕ) (p : Place) where
  signature_row : (xs : Parts) → LostIn (rule p kind.Signature) xs → IsLost (built s kind.Signature h i j xs)
  signature_row [] l = absurd l
  signature_row (None ∷ []) l = refl
  signature_row (Some x ∷ []) l = refl
  signature_row (x ∷ y ∷ z ∷ zs) l = refl
  signature_row (None ∷ None ∷ []) l = absurd l
  signature_row (None ∷ Some y ∷ []) (inl l) = no_type (signature_type None (Some y)) (second_none (all_types (entry_types (parts_in None))) (all_types (result_types (Some y))) l)
  signature_row (None ∷ Some y ∷ []) (inr l) = absurd l
  signature_row (Some x ∷ None ∷ []) (inl l) = no_type (signature_type (Some x) None) (first_none (all_types (result_types None)) (all_types (entry_types (parts_in (Some x)))) l)
  signature_row (Some x ∷ None ∷ []) (inr l) = absurd l
  signature_row (Some x ∷ Some y ∷ []) (inl l) = no_type (signature_type (Some x) (Some y)) (first_none (all_types (result_types (Some y))) (all_types (entry_types (parts_in (Some x)))) l)
  signature_row (Some x ∷ Some y ∷ []) (inr (inl l)) = no_type (signature_type (Some x) (Some y)) (second_none (all_types (entry_types (parts_in (Some x)))) (all_types (result_types (Some y))) l)
  signature_row (Some x ∷ Some y ∷ []) (inr (inr l)) = absurd l

  selector_row : (xs : Parts) → LostIn (rule p kind.Selector) xs → IsLost (built s kind.Selector h i j xs)
  selector_row [] l = absurd l
  selector_row (None ∷ xs) l = absurd l
  selector_row (Some x ∷ xs) (inl l) = node_lost s kind.Selector h i j (selector_parts (Some x ∷ xs)) refl (selector_lost x xs l)
  selector_row (Some x ∷ xs) (inr l) = absurd l

  bracketed_row : (xs : Parts) → LostIn (rule p kind.Bracketed) xs → IsLost (built s kind.Bracketed h i j xs)
  bracketed_row [] l = absurd l
  bracketed_row (None ∷ []) l = absurd l
  bracketed_row (None ∷ None ∷ ys) l = absurd l
  bracketed_row (None ∷ Some y ∷ ys) (inl l) = node_lost s kind.Bracketed h i j (None ∷ bounds_of (Some y)) refl (later_lost None (bounds_of (Some y)) l)
  bracketed_row (None ∷ Some y ∷ ys) (inr l) = absurd l
  bracketed_row (Some x ∷ []) (inl l) = node_lost s kind.Bracketed h i j (Some x ∷ []) refl (first_lost x [] l)
  bracketed_row (Some x ∷ []) (inr l) = absurd l
  bracketed_row (Some x ∷ y ∷ ys) (inl l) = node_lost s kind.Bracketed h i j (Some x ∷ bounds_of y) refl (first_lost x (bounds_of y) l)
  bracketed_row (Some x ∷ None ∷ ys) (inr l) = absurd l
  bracketed_row (Some x ∷ Some y ∷ ys) (inr (inl l)) = node_lost s kind.Bracketed h i j (Some x ∷ bounds_of (Some y)) refl (later_lost (Some x) (bounds_of (Some y)) l)
  bracketed_row (Some x ∷ Some y ∷ ys) (inr (inr l)) = absurd l

  bounds_row : (xs : Parts) → LostIn (rule p kind.Bounds) xs → AnyLost (bounds_of (Some (built s kind.Bounds h i j xs)))
  bounds_row xs l = bounds_lost (Some (built s kind.Bounds h i j xs)) (subst AnyLost (sym (list_row xs)) (any_row (rule p kind.Bounds) (λ x q. q, tt) xs l))

  bounds_from_row : (xs : Parts) → LostIn (rule p kind.BoundsFrom) xs → AnyLost (bounds_of (Some (built s kind.BoundsFrom h i j xs)))
  bounds_from_row xs l = bounds_lost (Some (built s kind.BoundsFrom h i j xs)) (subst AnyLost (sym (list_row xs)) (any_row (rule p kind.BoundsFrom) (λ x q. q, (λ x q. q, tt)) xs l))

  plain_held : (x : Part) (xs : Parts) → is_held (form_of x) ≡ false → IsLost x → AnyLost (held (Some x) ++ xs)
  plain_held x xs e l = subst (λ ys. AnyLost (ys ++ xs)) (sym (ap (λ b. cond b (list_of (parts_of x)) (Some x ∷ [])) e)) (first_lost x xs l)

  fields_all : (xs : Parts) → LostIn (rule p kind.Fields) xs → AnyLost (all_held xs)
  fields_all [] l = absurd l
  fields_all (None ∷ []) l = absurd l
  fields_all (None ∷ None ∷ ys) l = absurd l
  fields_all (None ∷ Some y ∷ ys) (inl l) = behind_lost (held None) (held (Some y) ++ all_held ys) (plain_held y (all_held ys) l.1 l.0)
  fields_all (None ∷ Some y ∷ ys) (inr l) = absurd l
  fields_all (Some x ∷ ys) (inl l) = absurd l
  fields_all (Some x ∷ []) (inr l) = absurd l
  fields_all (Some x ∷ None ∷ ys) (inr l) = absurd l
  fields_all (Some x ∷ Some y ∷ ys) (inr (inl l)) = behind_lost (held (Some x)) (held (Some y) ++ all_held ys) (plain_held y (all_held ys) l.1 l.0)
  fields_all (Some x ∷ Some y ∷ ys) (inr (inr l)) = absurd l

  fields_row : (xs : Parts) → LostIn (rule p kind.Fields) xs → AnyLost (held (Some (built s kind.Fields h i j xs)))
  fields_row xs l = subst AnyLost (sym (list_row (all_held xs))) (fields_all xs l)

  parameters_row : (xs : Parts) → LostIn (rule p kind.Parameters) xs → all_types (entry_types (parts_in (Some (built s kind.Parameters h i j xs)))) ≡ None
  parameters_row xs l = subst (λ ys. all_types (entry_types ys) ≡ None) (sym (list_row xs)) (many_entries (token.LeftParenthesis ∷ []) (Lines false category.Entry token.Comma token.RightParenthesis) (λ x q. q) xs l)

  results_row : (xs : Parts) → LostIn (rule p kind.Results) xs → all_types (result_types (Some (built s kind.Results h i j xs))) ≡ None
  results_row xs l = subst (λ ys. all_types (entry_types ys) ≡ None) (sym (list_row xs)) (many_entries (token.LeftParenthesis ∷ []) (Lines false category.Type token.Comma token.RightParenthesis) (λ x q. plain_entry x q.1 q.0) xs l)

  no_names : (ws : List TokenKind) (t : TokenKind) (xs : Parts) → LostIn (Many ws (Again category.DeclaredName t)) xs → ⊥
  no_names ws t [] l = l
  no_names ws t (None ∷ xs) l = no_names ws t xs l
  no_names ws t (Some x ∷ xs) (inl l) = l
  no_names ws t (Some x ∷ xs) (inr l) = no_names ws t xs l

  names_row : (xs : Parts) → LostIn (rule p kind.NameList) xs → ⊥
  names_row [] l = l
  names_row (None ∷ xs) l = no_names [] token.Comma xs l
  names_row (Some x ∷ xs) (inl l) = l
  names_row (Some x ∷ xs) (inr l) = no_names [] token.Comma xs l

  node_row : (k : Kind) → is_named k ≡ false → (xs : Parts) → LostIn (rule p k) xs → KindLost k (built s k h i j xs)
  node_row kind.Name e xs l = absurd l
  node_row kind.Integer e xs l = absurd l
  node_row kind.Rune e xs l = absurd l
  node_row kind.Text e xs l = absurd l
  node_row kind.Parenthesized e xs l = node_lost s kind.Parenthesized h i j xs refl (any_row (rule p kind.Parenthesized) (λ x q. q, tt) xs l)
  node_row kind.ParenthesizedType e xs l = node_lost s kind.ParenthesizedType h i j xs refl (any_row (rule p kind.ParenthesizedType) (λ x q. q.0, tt) xs l)
  node_row (kind.Unary o) e xs l = node_lost s (kind.Unary o) h i j xs refl (any_row (rule p (kind.Unary o)) (λ x q. q, tt) xs l)
  node_row (kind.Binary o) e xs l = node_lost s (kind.Binary o) h i j xs refl (any_row (rule p (kind.Binary o)) (λ x q. q, (λ x q. q, tt)) xs l)
  node_row kind.Selector e xs l = selector_row xs l
  node_row kind.Bracketed e xs l = bracketed_row xs l
  node_row kind.Call e xs l = node_lost s kind.Call h i j (call_parts xs) refl (call_any xs ∙ any_row (rule p kind.Call) (λ x q. q, λ x q. q) xs l)
  node_row kind.Composite e xs l = node_lost s kind.Composite h i j (first_cut xs) refl (cut_any xs ∙ any_row (rule p kind.Composite) (λ x q. q, λ x q. q) xs l)
  node_row kind.LiteralValue e xs l = node_lost s kind.LiteralValue h i j (None ∷ xs) refl (later_lost None xs (any_row (rule p kind.LiteralValue) (λ x q. q) xs l))
  node_row kind.Keyed e xs l = cc
  node_row kind.SequenceType e xs l = node_lost s kind.SequenceType h i j xs refl (any_row (rule p kind.SequenceType) (λ x q. q, (λ x q. q.0, tt)) xs l)
  node_row kind.FunctionType e xs l = node_lost s kind.FunctionType h i j xs refl (any_row (rule p kind.FunctionType) (λ x q. q, tt) xs l)
  node_row kind.StructType e xs l = node_lost s kind.StructType h i j (all_held xs) refl (many_held (token.Struct ∷ token.LeftBrace ∷ []) (Lines false category.Fields token.Semicolon token.RightBrace) (λ x q. q) xs l)
  node_row kind.Signature e xs l = signature_row xs l
  node_row kind.Bounds e xs l = bounds_row xs l
  node_row kind.BoundsFrom e xs l = bounds_from_row xs l
  node_row kind.Fields e xs l = fields_row xs l
  node_row kind.Parameters e xs l = parameters_row xs l
  node_row kind.Results e xs l = results_row xs l
  node_row kind.Parameter e xs l = cc
  node_row kind.NameList e xs l = names_row xs l
  node_row kind.DeclaredName e xs l = l
  node_row k e xs l = tt

-- ---- the same node

hint_same : (s : Scope) (sorts : Needed → Object → Stands) (k : Kind) (h : Hint) (all : Trees) (xs : Parts) (n : Kind) → hint s k h all xs n ≡ hint (knowing s sorts) k h all xs n
hint_same s sorts k h all xs n = refl

scope_same : (s : Scope) (sorts : Needed → Object → Stands) (k : Kind) (xs : Parts) → knowing (part_scope s k xs) sorts ≡ part_scope (knowing s sorts) k xs
scope_same s sorts kind.SequenceType [] = refl
scope_same s sorts kind.SequenceType (x ∷ xs) = refl
scope_same s sorts k xs = refl

built_same : (s : Scope) (sorts : Needed → Object → Stands) (k : Kind) (h : Hint) (i j : ℕ) (xs : Parts) → is_name k ≡ false → built s k h i j xs ≡ built (knowing s sorts) k h i j xs
built_same s sorts kind.Name h i j xs e = cc
built_same s sorts k h i j xs e = refl

knows_less : (s : Scope) (sorts : Needed → Object → Stands) (k : Kind) (xs : Parts) → KnowsLess s sorts → KnowsLess (part_scope s k xs) sorts
knows_less s sorts kind.SequenceType [] f = record { same = f.same }
knows_less s sorts kind.SequenceType (x ∷ xs) f = f
knows_less s sorts k xs f = f

-- ---- names

module _ (s : Scope) (sorts : Needed → Object → Stands) (f : KnowsLess s sorts) where
  object_fewer : (need : Needed) (o : Option Object) → (object_sort s need o ≡ object_sort (knowing s sorts) need o) ⊎ (is_unknown (object_sort s need o) ≡ true)
  object_fewer need None = inl refl
  object_fewer need (Some object.Import) = inl refl
  object_fewer need (Some (object.Predeclared b)) = inl refl
  object_fewer need (Some (object.Package m)) = by (f.same need (object.Package m))
    where
      by : (s.sorts need (object.Package m) ≡ sorts need (object.Package m)) ⊎ (s.sorts need (object.Package m) ≡ sort.Unknown) → (s.sorts need (object.Package m) ≡ sorts need (object.Package m)) ⊎ (is_unknown (s.sorts need (object.Package m)) ≡ true)
      by (inl e) = inl e
      by (inr e) = inr (ap is_unknown e)
  object_fewer need (Some (object.Local g m)) = by (f.same need (object.Local g m))
    where
      by : (s.sorts need (object.Local g m) ≡ sorts need (object.Local g m)) ⊎ (s.sorts need (object.Local g m) ≡ sort.Unknown) → (s.sorts need (object.Local g m) ≡ sorts need (object.Local g m)) ⊎ (is_unknown (s.sorts need (object.Local g m)) ≡ true)
      by (inl e) = inl e
      by (inr e) = inr (ap is_unknown e)

  -- a name that stands for this
  abbrev named : Hint → ℕ → ℕ → Parts → Form → Stands → Bool → Part
  named h i j xs g z true = made g i j z xs xs
  named h i j xs g z false = made g i j sort.Unknown xs xs

  abbrev name_own : Hint → ℕ → ℕ → Parts → Stands → Bool
  name_own h i j xs z = is_judged xs && no_faults (cond (is_judged xs) (or_else [] (place_failing s.rights h i j z)) [])

  named_unknown : (h : Hint) (i j : ℕ) (xs : Parts) (g : Form) (z : Stands) (b : Bool) → is_unknown z ≡ true → IsLost (named h i j xs g z b)
  named_unknown h i j xs g z true e = e
  named_unknown h i j xs g z false e = refl

  name_is : (t : Scope) (h : Hint) (i j : ℕ) (xs : Parts) (b : Bool) → built_by t kind.Name h i j xs b ≡ named h i j xs (name_form t h i) (name_sort t h i) b
  name_is t h i j xs true = refl
  name_is t h i j xs false = refl

  form_same : (o : Option Object) → object_form s o ≡ object_form (knowing s sorts) o
  form_same None = refl
  form_same (Some object.Import) = refl
  form_same (Some (object.Predeclared b)) = refl
  form_same (Some (object.Package m)) = refl
  form_same (Some (object.Local g m)) = refl

  -- a name whose meaning is read
  read_fewer : (h : Hint) (i j : ℕ) (xs : Parts) → name_form s h i ≡ form_or_type (name_sort s h i) (object_form s (s.objects i))
      → name_form (knowing s sorts) h i ≡ form_or_type (name_sort (knowing s sorts) h i) (object_form (knowing s sorts) (s.objects i))
      → (name_sort s h i ≡ name_sort (knowing s sorts) h i) ⊎ (is_unknown (name_sort s h i) ≡ true)
      → (built s kind.Name h i j xs ≡ built (knowing s sorts) kind.Name h i j xs) ⊎ IsLost (built s kind.Name h i j xs)
  read_fewer h i j xs a b (inl e) =
      let z = name_sort s h i in
      let y = name_sort (knowing s sorts) h i in
      let o = s.objects i in
      inl (name_is s h i j xs (name_own h i j xs z) ∙ ap (λ g. named h i j xs g z (name_own h i j xs z)) a ∙ ap (λ v. named h i j xs (form_or_type v (object_form s o)) v (name_own h i j xs v)) e
      ∙ ap (λ g. named h i j xs (form_or_type y g) y (name_own h i j xs y)) (form_same o) ∙ ap (λ g. named h i j xs g y (name_own h i j xs y)) (sym b) ∙ sym (name_is (knowing s sorts) h i j xs (name_own h i j xs y)))
  read_fewer h i j xs a b (inr e) =
      let z = name_sort s h i in
      inr (subst IsLost (sym (name_is s h i j xs (name_own h i j xs z))) (named_unknown h i j xs (name_form s h i) z (name_own h i j xs z) e))

  name_fewer : (h : Hint) (i j : ℕ) (xs : Parts) → (built s kind.Name h i j xs ≡ built (knowing s sorts) kind.Name h i j xs) ⊎ IsLost (built s kind.Name h i j xs)
  name_fewer declares i j xs = inl refl
  name_fewer free i j xs = inl refl
  name_fewer h i j xs = read_fewer h i j xs refl refl (object_fewer (need_of s.needed h) (s.objects i))

-- a name that is declared, or a key
declared_same : (s : Scope) (sorts : Needed → Object → Stands) (t : Tree) → IsShaped category.Name t → typing s declares t ≡ typing (knowing s sorts) declares t
declared_same s sorts (node kind.Name i j none) w = refl
declared_same s sorts (node kind.Name i j (more p ps)) w = elim w.1 [ ]
declared_same s sorts (node kind.Name i j (skip ps)) w = elim w.1 [ ]
declared_same s sorts (node k i j ps) w = let e = w.0 in absurd cc

-- ---- whole trees

-- it is typed the same, or is lost
abbrev SameOrLost : Scope → (Needed → Object → Stands) → Category → Hint → Tree → Type 0
SameOrLost s sorts c h t = (typing s h t ≡ typing (knowing s sorts) h t) ⊎ Lost c (typing s h t)

built_plain : (s : Scope) (k : Kind) (h : Hint) (i j : ℕ) (xs : Parts) → IsPlain k (built s k h i j xs)
built_plain s k h i j xs e =
    let ys = layout k xs in
    ap is_held (form_built s k h i j ys (is_sound k ys (own_faults s k h i j ys))) ∙ form_plain s k h i j ys e

module _ (sorts : Needed → Object → Stands) where
  node_fewer : (s : Scope) (f : KnowsLess s sorts) (h : Hint) (c : Category) (k : Kind) (i j : ℕ) (xs ys : Parts) → IsTrue (within c k) → is_named k ≡ false → (xs ≡ ys) ⊎ LostIn (rule (place_of c) k) xs
      → (built s k h i j xs ≡ built (knowing s sorts) k h i j ys) ⊎ Lost c (built s k h i j xs)
  node_fewer s f h c k i j xs ys w n (inl e) = by (is_name k) refl
    where
      lost : k ≡ kind.Name → IsLost (built s k h i j xs) → Lost c (built s k h i j xs)
      lost q l = lost_as c k (built s k h i j xs) w (built_plain s k h i j xs) (subst (λ y. KindLost y (built s y h i j xs)) (sym q) (subst (λ y. IsLost (built s y h i j xs)) q l))

      named_kind : (y : Kind) → is_name y ≡ true → y ≡ kind.Name
      named_kind kind.Name q = refl
      named_kind y q = cc

      at_name : k ≡ kind.Name → (built s k h i j xs ≡ built (knowing s sorts) k h i j ys) ⊎ Lost c (built s k h i j xs)
      at_name q = of (name_fewer s sorts f h i j xs)
        where
          of : (built s kind.Name h i j xs ≡ built (knowing s sorts) kind.Name h i j xs) ⊎ IsLost (built s kind.Name h i j xs) → (built s k h i j xs ≡ built (knowing s sorts) k h i j ys) ⊎ Lost c (built s k h i j xs)
          of (inl z) = inl (ap (λ y. built s y h i j xs) q ∙ z ∙ ap (λ y. built (knowing s sorts) y h i j xs) (sym q) ∙ ap (built (knowing s sorts) k h i j) e)
          of (inr l) = inr (lost q (subst (λ y. IsLost (built s y h i j xs)) (sym q) l))

      by : (b : Bool) → is_name k ≡ b → (built s k h i j xs ≡ built (knowing s sorts) k h i j ys) ⊎ Lost c (built s k h i j xs)
      by true q = at_name (named_kind k q)
      by false q = inl (built_same s sorts k h i j xs q ∙ ap (built (knowing s sorts) k h i j) e)
  node_fewer s f h c k i j xs ys w n (inr l) = inr (lost_as c k (built s k h i j xs) w (built_plain s k h i j xs) (node_row s h i j (place_of c) k n xs l))

  -- a part, in front of others
  one_same : (s : Scope) (k : Kind) (h : Hint) (all : Trees) (xs : Parts) (p : Tree) → typing (part_scope s k xs) (hint s k h all xs (kind_of p)) p ≡ typing (knowing (part_scope s k xs) sorts) (hint s k h all xs (kind_of p)) p
      → typing (part_scope s k xs) (hint s k h all xs (kind_of p)) p ≡ typing (part_scope (knowing s sorts) k xs) (hint (knowing s sorts) k h all xs (kind_of p)) p
  one_same s k h all xs p e =
      e ∙ ap (λ z. typing z (hint s k h all xs (kind_of p)) p) (scope_same s sorts k xs) ∙ ap (λ z. typing (part_scope (knowing s sorts) k xs) z p) (hint_same s sorts k h all xs (kind_of p))

  abbrev RowSame : Scope → Kind → Hint → Trees → Parts → Trees → Rule → Type 0
  RowSame s k h all xs ps r = (behind s k h all xs ps ≡ behind (knowing s sorts) k h all xs ps) ⊎ LostIn r (behind s k h all xs ps)

  -- what follows of a row from its first part and the others
  then_same : (s : Scope) (k : Kind) (h : Hint) (all : Trees) (xs : Parts) (p : Tree) (ps : Trees) (c : Category) (r : Rule) (R : Type 0) → (Lost c (typing (part_scope s k xs) (hint s k h all xs (kind_of p)) p) → R)
      → (LostIn r (behind s k h all (xs ++ Some (typing (part_scope s k xs) (hint s k h all xs (kind_of p)) p) ∷ []) ps) → R)
      → SameOrLost (part_scope s k xs) sorts c (hint s k h all xs (kind_of p)) p → RowSame s k h all (xs ++ Some (typing (part_scope s k xs) (hint s k h all xs (kind_of p)) p) ∷ []) ps r
      → (behind s k h all xs (more p ps) ≡ behind (knowing s sorts) k h all xs (more p ps)) ⊎ R
  then_same s k h all xs p ps c r R a b (inr l) z = inr (a l)
  then_same s k h all xs p ps c r R a b (inl e) (inr l) = inr (b l)
  then_same s k h all xs p ps c r R a b (inl e) (inl g) =
      let x = typing (part_scope s k xs) (hint s k h all xs (kind_of p)) p in
      inl (subst (λ y. Some x ∷ behind s k h all (xs ++ Some x ∷ []) ps ≡ Some y ∷ behind (knowing s sorts) k h all (xs ++ Some y ∷ []) ps) (one_same s k h all xs p e) (ap (λ l. Some x ∷ l) g))

  skip_same : (s : Scope) (k : Kind) (h : Hint) (all : Trees) (xs : Parts) (ps : Trees) (r : Rule) (R : Type 0) → (LostIn r (behind s k h all (xs ++ None ∷ []) ps) → R) → RowSame s k h all (xs ++ None ∷ []) ps r
      → (behind s k h all xs (skip ps) ≡ behind (knowing s sorts) k h all xs (skip ps)) ⊎ R
  skip_same s k h all xs ps r R a (inl e) = inl (ap (λ l. None ∷ l) e)
  skip_same s k h all xs ps r R a (inr l) = inr (a l)

  -- the parts of nodes that have names of their own
  parameter_fewer : (s : Scope) (h : Hint) (c : Category) (i j : ℕ) (q v : Tree) → IsTrue (within c kind.Parameter) → IsShaped category.Name q → SameOrLost s sorts category.Type (hint s kind.Parameter h (more q (more v none)) (Some (typing s declares q) ∷ []) (kind_of v)) v
      → SameOrLost s sorts c h (node kind.Parameter i j (more q (more v none)))
  parameter_fewer s h c i j q v w n (inl e) =
      let all = more q (more v none) in
      let x = typing s declares q in
      let x2 = typing (knowing s sorts) declares q in
      let y = typing s (hint s kind.Parameter h all (Some x ∷ []) (kind_of v)) v in
      let same : x ≡ x2 = declared_same s sorts q n in
      inl (ap (λ zs. built (knowing s sorts) kind.Parameter h i j zs) (ap (λ z. Some z ∷ Some y ∷ []) same ∙ ap (λ z. Some x2 ∷ Some z ∷ []) e))
  parameter_fewer s h c i j q v w n (inr l) =
      let all = more q (more v none) in
      let x = typing s declares q in
      let y = typing s (hint s kind.Parameter h all (Some x ∷ []) (kind_of v)) v in
      let b = built s kind.Parameter h i j (Some x ∷ Some y ∷ []) in
      inr (lost_as c kind.Parameter b w (λ z. absurd cc) (λ next. unknown_named (sort_of y) l.0))

  keyed_fewer : (s : Scope) (h : Hint) (c : Category) (i j : ℕ) (q v : Tree) → IsTrue (within c kind.Keyed) → SameOrLost s sorts category.Value h v → SameOrLost s sorts c h (node kind.Keyed i j (more q (more v none)))
  keyed_fewer s h c i j q v w (inl e) = inl (ap (λ z. built (knowing s sorts) kind.Keyed h i j (Some (typing s free q) ∷ Some z ∷ [])) e)
  keyed_fewer s h c i j q v w (inr l) = inr (lost_as c kind.Keyed (built s kind.Keyed h i j (Some (typing s free q) ∷ Some (typing s h v) ∷ [])) w (λ z. absurd cc) l)

  mutual
    pub typing_fewer : (s : Scope) → KnowsLess s sorts → (h : Hint) (c : Category) (t : Tree) → IsShaped c t → SameOrLost s sorts c h t
    typing_fewer s f h c (node kind.Parameter i j none) w = elim w.1 [ ]
    typing_fewer s f h c (node kind.Parameter i j (skip ps)) w = elim w.1 [ ]
    typing_fewer s f h c (node kind.Parameter i j (more q none)) w = elim w.1.1 [ ]
    typing_fewer s f h c (node kind.Parameter i j (more q (skip ps))) w = elim w.1.1 [ ]
    typing_fewer s f h c (node kind.Parameter i j (more q (more v none))) w = parameter_fewer s h c i j q v w.0 w.1.0 (typing_fewer s f (hint s kind.Parameter h (more q (more v none)) (Some (typing s declares q) ∷ []) (kind_of v)) category.Type v w.1.1.0)
    typing_fewer s f h c (node kind.Parameter i j (more q (more v (more u ps)))) w = elim w.1.1.1 [ ]
    typing_fewer s f h c (node kind.Parameter i j (more q (more v (skip ps)))) w = elim w.1.1.1 [ ]
    typing_fewer s f h c (node kind.Keyed i j none) w = elim w.1 [ ]
    typing_fewer s f h c (node kind.Keyed i j (skip ps)) w = elim w.1 [ ]
    typing_fewer s f h c (node kind.Keyed i j (more q none)) w = elim w.1.1 [ ]
    typing_fewer s f h c (node kind.Keyed i j (more q (skip ps))) w = elim w.1.1 [ ]
    typing_fewer s f h c (node kind.Keyed i j (more q (more v none))) w = keyed_fewer s h c i j q v w.0 (typing_fewer s f h category.Value v w.1.1.0)
    typing_fewer s f h c (node kind.Keyed i j (more q (more v (more u ps)))) w = elim w.1.1.1 [ ]
    typing_fewer s f h c (node kind.Keyed i j (more q (more v (skip ps)))) w = elim w.1.1.1 [ ]
    typing_fewer s f h c (node k i j ps) w =
        let xs = behind s k h ps [] ps in
        let ys = behind (knowing s sorts) k h ps [] ps in
        subst (λ z. (built s k h i j z ≡ typing (knowing s sorts) h (node k i j ps)) ⊎ Lost c (built s k h i j z)) (sym (typings_are s k h ps [] ps))
        (subst (λ z. (built s k h i j xs ≡ built (knowing s sorts) k h i j z) ⊎ Lost c (built s k h i j xs)) (sym (typings_are (knowing s sorts) k h ps [] ps))
        (node_fewer s f h c k i j xs ys w.0 refl (row_fewer s f k h ps [] ps (rule (place_of c) k) w.1)))

    row_fewer : (s : Scope) → KnowsLess s sorts → (k : Kind) (h : Hint) (all : Trees) (xs : Parts) (ps : Trees) (r : Rule) → AreShaped r ps → RowSame s k h all xs ps r
    row_fewer s f k h all xs none r w = inl refl
    row_fewer s f k h all xs (more p ps) (End ws) w = elim w [ ]
    row_fewer s f k h all xs (more p ps) (Then ws c r) w =
        let x = typing (part_scope s k xs) (hint s k h all xs (kind_of p)) p in
        then_same s k h all xs p ps c r (Lost c x ⊎ LostIn r (behind s k h all (xs ++ Some x ∷ []) ps)) (λ l. inl l) (λ l. inr l) (typing_fewer (part_scope s k xs) (knows_less s sorts k xs f) (hint s k h all xs (kind_of p)) c p w.0)
        (row_fewer s f k h all (xs ++ Some x ∷ []) ps r w.1)
    row_fewer s f k h all xs (more p ps) (Maybe ws c r) w =
        let x = typing (part_scope s k xs) (hint s k h all xs (kind_of p)) p in
        then_same s k h all xs p ps c r (Lost c x ⊎ LostIn r (behind s k h all (xs ++ Some x ∷ []) ps)) (λ l. inl l) (λ l. inr l) (typing_fewer (part_scope s k xs) (knows_less s sorts k xs f) (hint s k h all xs (kind_of p)) c p w.0)
        (row_fewer s f k h all (xs ++ Some x ∷ []) ps r w.1)
    row_fewer s f k h all xs (more p ps) (Unless ws c us r) w =
        let x = typing (part_scope s k xs) (hint s k h all xs (kind_of p)) p in
        then_same s k h all xs p ps c r (Lost c x ⊎ LostIn r (behind s k h all (xs ++ Some x ∷ []) ps)) (λ l. inl l) (λ l. inr l) (typing_fewer (part_scope s k xs) (knows_less s sorts k xs f) (hint s k h all xs (kind_of p)) c p w.0)
        (row_fewer s f k h all (xs ++ Some x ∷ []) ps r w.1)
    row_fewer s f k h all xs (more p ps) (Many ws l) w =
        let x = typing (part_scope s k xs) (hint s k h all xs (kind_of p)) p in
        then_same s k h all xs p ps (item l) (Many ws l) (Lost (item l) x ⊎ LostIn (Many ws l) (behind s k h all (xs ++ Some x ∷ []) ps)) (λ z. inl z) (λ z. inr z)
        (typing_fewer (part_scope s k xs) (knows_less s sorts k xs f) (hint s k h all xs (kind_of p)) (item l) p w.0) (row_fewer s f k h all (xs ++ Some x ∷ []) ps (Many ws l) w.1)
    row_fewer s f k h all xs (skip ps) (End ws) w = elim w [ ]
    row_fewer s f k h all xs (skip ps) (Then ws c r) w = elim w [ ]
    row_fewer s f k h all xs (skip ps) (Maybe ws c r) w = skip_same s k h all xs ps r (LostIn r (behind s k h all (xs ++ None ∷ []) ps)) (λ l. l) (row_fewer s f k h all (xs ++ None ∷ []) ps r w)
    row_fewer s f k h all xs (skip ps) (Unless ws c us r) w = skip_same s k h all xs ps r (LostIn r (behind s k h all (xs ++ None ∷ []) ps)) (λ l. l) (row_fewer s f k h all (xs ++ None ∷ []) ps r w)
    row_fewer s f k h all xs (skip ps) (Many ws l) w = elim w [ ]

-- a type
pub type_fewer : (s : Scope) (sorts : Needed → Object → Stands) → KnowsLess s sorts → (h : Hint) (t : Tree) → IsShaped category.Type t → (typing s h t ≡ typing (knowing s sorts) h t) ⊎ (is_unknown (sort_of (typing s h t)) ≡ true)
type_fewer s sorts f h t w = by (typing_fewer sorts s f h category.Type t w)
  where
    by : SameOrLost s sorts category.Type h t → (typing s h t ≡ typing (knowing s sorts) h t) ⊎ (is_unknown (sort_of (typing s h t)) ≡ true)
    by (inl e) = inl e
    by (inr l) = inr l.0
