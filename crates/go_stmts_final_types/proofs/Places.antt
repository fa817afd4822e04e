-- What stands in a place for values is no type, and what stands in one for types is no value.
use Rattle.std.proofs.Common.{◌≡◌, ℕ, Bool, true, false, cond, [], ◌∷◌, List, refl, subst}
use Rattle.std.specs.Prelude.{◌&&◌, ◌||◌, not}
use Rattle.go_grammar.specs.declared.kind.Category.TheVariants as category
use Rattle.go_grammar.specs.declared.kind.Kind.{Kind}
use Rattle.go_grammar.specs.declared.kind.Kind.TheVariants as kind
use Rattle.go_grammar.specs.declared.kind.Level.{Level}
use Rattle.go_grammar.specs.declared.kind.Place.{Place}
use Rattle.go_grammar.specs.Categories.{is_expression}
use Rattle.go_grammar.specs.Categories as categories
use Rattle.go_grammar.specs.Trees.{Tree, node}
use Rattle.go_types.specs.Trees.{TypeTree}
use Rattle.go_types.specs.Relations.{Rights}
use Rattle.go_typed.specs.Trees.{sort_of}
use Rattle.go_typed.specs.Trees as sort
use Rattle.go_exprs_rules.specs.declared.fault.TypeFault.{TypeFault}
use Rattle.go_exprs_rules.specs.Faults.{or_else}
use Rattle.go_exprs_rules.specs.Names.{place_failing}
use Rattle.go_exprs_rules.specs.Scopes.{Scope, Hint, value, several, target, statement, type_place, element, member, elided}
use Rattle.go_exprs_rules.specs.Sorts.{Stands}
use Rattle.go_exprs_rules.specs.Tables.{Parts, layout, is_type, is_placed, is_judged, is_sound, no_faults, own_faults, failing, placing, sort_by, built_by, built_on}
use Rattle.go_exprs_rules.specs.Typing.{typing, typings}
use Rattle.go_stmts_final_types.specs.Shapes.{IsShaped}
use Rattle.go_stmts_final_types.proofs.Given.{is_valued}
use Rattle.go_stmts_final_types.proofs.Rows.{ranked}
use Rattle.go_stmts_final_types.proofs.Taken.{Valued}
use Rattle.go_stmts_final_types.proofs.Typing.{typing_fine}

-- places that ask for a value
abbrev pub asks : Hint → Bool
asks value = true
asks several = true
asks target = true
asks statement = true
asks (element t) = true
asks (member t) = true
asks elided = true
asks h = false

type_fails : (rights : Rights) (h : Hint) (i j : ℕ) (t : TypeTree) → asks h ≡ true → place_failing rights h i j (sort.IsType t) ≡ [] → ⊥
type_fails rights value i j t a e = cc
type_fails rights h i j t a e = cc

no_type : (rights : Rights) (h : Hint) (i j : ℕ) (x : Stands) → asks h ≡ true → place_failing rights h i j x ≡ [] → is_type x ≡ false
no_type rights h i j (sort.IsType t) a e = absurd (type_fails rights h i j t a e)
no_type rights h i j x a e = refl

no_value : (rights : Rights) (i j : ℕ) (x : Stands) → place_failing rights type_place i j x ≡ [] → is_valued x ≡ false
no_value rights i j (sort.IsType t) e = refl
no_value rights i j sort.Unknown e = refl
no_value rights i j x e = cc

-- ---- a node stands for nothing known, or its place has what it asks for

none_fails : (fs : List TypeFault) → no_faults fs ≡ true → fs ≡ []
none_fails [] e = refl
none_fails (f ∷ fs) e = cc

no_placing : (b : Bool) (fs gs : List TypeFault) → (b && no_faults (cond b (or_else fs gs) [])) ≡ true → gs ≡ []
no_placing true [] gs e = none_fails gs e
no_placing true (f ∷ fs) gs e = cc
no_placing false fs gs e = cc

placed_by : (P : Stands → Type 0) (s : Scope) (k : Kind) (h : Hint) (i j : ℕ) (ys : Parts) → is_placed k ≡ true → P sort.Unknown → (place_failing s.rights h i j (sort_by s k h i j ys) ≡ [] → P (sort_by s k h i j ys)) → P (sort_of (built_on s k h i j ys))
placed_by P s k h i j ys p u g = by (is_sound k ys (own_faults s k h i j ys)) refl
  where
    by : (b : Bool) → is_sound k ys (own_faults s k h i j ys) ≡ b → P (sort_of (built_by s k h i j ys b))
    by true e =
        let m : (is_judged ys && no_faults (own_faults s k h i j ys)) ≡ true = subst (λ b. (not b || (is_judged ys && no_faults (own_faults s k h i j ys))) ≡ true) p e in
        let r = no_placing (is_judged ys) (failing s k h i j ys) (placing s k h i j (sort_by s k h i j ys)) m in
        g (subst (λ b. cond b (place_failing s.rights h i j (sort_by s k h i j ys)) [] ≡ []) p r)
    by false e = u

pub expression_placed : (k : Kind) → is_expression k ≡ true → is_placed k ≡ true
expression_placed kind.Name e = refl
expression_placed kind.Integer e = refl
expression_placed kind.Rune e = refl
expression_placed kind.Text e = refl
expression_placed kind.Parenthesized e = refl
expression_placed (kind.Unary o) e = refl
expression_placed (kind.Binary o) e = refl
expression_placed kind.Selector e = refl
expression_placed kind.Bracketed e = refl
expression_placed kind.Call e = refl
expression_placed kind.Composite e = refl
expression_placed kind.SequenceType e = refl
expression_placed kind.FunctionType e = refl
expression_placed kind.StructType e = refl
expression_placed k e = cc

pub type_placed : (k : Kind) → categories.is_type k ≡ true → is_placed k ≡ true
type_placed kind.Name e = refl
type_placed kind.ParenthesizedType e = refl
type_placed kind.SequenceType e = refl
type_placed kind.FunctionType e = refl
type_placed kind.StructType e = refl
type_placed k e = cc

pub typing_value : (s : Scope) (h : Hint) (l : Level) (p : Place) (t : Tree) → IsShaped (category.Expression l p) t → asks h ≡ true → Valued (typing s h t)
typing_value s h l p (node k i j ps) w a = record {
  sound = typing_fine s h (category.Expression l p) (node k i j ps) w;
  value = placed_by (λ x. is_type x ≡ false) s k h i j (layout k (typings s k h ps [] ps)) (expression_placed k (ranked l k w.0)) refl (λ e. no_type s.rights h i j (sort_by s k h i j (layout k (typings s k h ps [] ps))) a e);
}

pub typing_type : (s : Scope) (t : Tree) → IsShaped category.Type t → is_valued (sort_of (typing s type_place t)) ≡ false
typing_type s (node k i j ps) w =
    placed_by (λ x. is_valued x ≡ false) s k type_place i j (layout k (typings s k type_place ps [] ps)) (type_placed k w.0) refl (λ e. no_value s.rights i j (sort_by s k type_place i j (layout k (typings s k type_place ps [] ps))) e)
