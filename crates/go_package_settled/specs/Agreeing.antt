-- What is typed in scopes that agree, as the laws on these say it.
use Rattle.std.specs.Prelude.{◌≡◌, ℕ, Bool}
use Rattle.go_grammar.specs.Trees.{Tree}
use Rattle.go_types.specs.Relations.{Rights}
use Rattle.go_exprs_rules.specs.Scopes.{in_full, at_once, Scope, Hint}
use Rattle.go_package_laws.specs.Names.{EachNeed, ExpressionAgrees, limited_ways}
use Rattle.go_package_laws.specs.Reach.{AgreeOn, HintWithin, Standing, IsTypedSo}

abbrev pub ExpressionsAgree : Type 0
ExpressionsAgree = (within : ℕ → Bool) (s : Scope) (new : Rights) (r : Standing) (h : Hint) (t : Tree) → s.needed ≡ in_full → AgreeOn within s.rights new → ExpressionAgrees within s r t → HintWithin within h
    → IsTypedSo within s new r h t

abbrev pub TypesAgree : Type 0
TypesAgree = (within : ℕ → Bool) (s : Scope) (new : Rights) (r : Standing) (h : Hint) (t : Tree) → s.needed ≡ at_once → AgreeOn within s.rights new → EachNeed (limited_ways within s r) h t → HintWithin within h
    → IsTypedSo within s new r h t
