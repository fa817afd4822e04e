-- Trees with variables in them: what is known of them apart from the kinds of their nodes.
use Rattle.std.specs.Prelude.{◌≡◌, ℕ, true, false, ◌&&◌}
use Rattle.go_grammar.specs.declared.kind.Category.{Category}
use Rattle.go_grammar.specs.declared.kind.Kind.{Kind}
use Rattle.go_grammar.specs.Trees.{Tree, node, Trees}
use Rattle.go_typed.specs.Trees.{sort_of, label_of}
use Rattle.go_exprs_rules.specs.Scopes.{Scope, Hint}
use Rattle.go_exprs_rules.specs.Sorts.{is_constant}
use Rattle.go_exprs_rules.specs.Typing.{typing, faults}
use Rattle.go_exprs_variables.specs.Shapes.{IsShaped}
use Rattle.go_exprs_variables.specs.Variables.{Standins, StandsIn, ends_at, may_be_constant, expresses, Free, Proper, WillFit, no_rule_fails, IsTypedWithVariables, is_naming}

-- Where a variable stands in place of the expression, its name is typed as it stands in place of the hole.
abbrev pub HolesTyped : Type 0
HolesTyped = (w : Standins) (s t : Scope) (h : Hint) (k : Kind) (i j : ℕ) (ps : Trees) → StandsIn w s t → is_naming h ≡ false → (may_be_constant k && ends_at (w i) j) ≡ true → no_rule_fails (faults s h (node k i j ps)) ≡ true
    → WillFit s.rights w false (typing s h (node k i j ps)) → IsTypedWithVariables w s t h (node k i j ps)

-- Where none stands at the expressions of a tree, it is typed the same.
abbrev pub FreeTyped : Type 0
FreeTyped = (w : Standins) (s t : Scope) (h : Hint) (c : Category) (x : Tree) → IsShaped c x → StandsIn w s t → Free w x → no_rule_fails (faults s h x) ≡ true → IsTypedWithVariables w s t h x

-- So is a constant expression in place of which none stands: none stands in place of an expression in it.
abbrev pub ConstantsTyped : Type 0
ConstantsTyped = (w : Standins) (s t : Scope) (h : Hint) (c : Category) (k : Kind) (i j : ℕ) (ps : Trees) → IsShaped c (node k i j ps) → expresses k ≡ true → StandsIn w s t → Proper w (node k i j ps)
    → (may_be_constant k && ends_at (w i) j) ≡ false → is_constant (sort_of (typing s h (node k i j ps))) ≡ true → no_rule_fails (faults s h (node k i j ps)) ≡ true → WillFit s.rights w false (typing s h (node k i j ps))
    → IsTypedWithVariables w s t h (node k i j ps)

-- A constant expression has no call that isn't constant.
abbrev pub ConstantsAreQuiet : Type 0
ConstantsAreQuiet = (s : Scope) (h : Hint) (c : Category) (x : Tree) → IsShaped c x → is_constant (sort_of (typing s h x)) ≡ true → (label_of (typing s h x)).calls ≡ false
