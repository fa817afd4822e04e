-- How parts are laid out, as the program goes about it.
use Rattle.std.proofs.Common.{◌≡◌, Bool, false, cond, List, [], ◌∷◌, ◌++◌, Option, Some, None, refl}
use Rattle.go_grammar.specs.Trees.{kind_of}
use Rattle.go_grammar.specs.Grammar.{ends_from, ends_named, is_parameter}
use Rattle.go_tree.specs.declared.node.Node.{Node}
use Rattle.go_tree.specs.Views.{view, views, parameter_at}
use Rattle.go_exprs_rules.specs.Tables.{Parts, cut, first_cut, is_make_call, call_parts, selector_parts, is_make}
use Rattle.go_typed.specs.Trees.{sort_of}
use Rattle.go_exprs_engine.specs.Layouts.{second_cut, is_package_alone}

pub call_is : (xs : Parts) → call_parts xs ≡ cond (is_make_call xs) (second_cut xs) (first_cut xs)
call_is [] = refl
call_is (None ∷ xs) = refl
call_is (Some f ∷ []) = alone (is_make (sort_of f))
  where
    alone : (b : Bool) → cond b (Some f ∷ []) (cut (Some f) ∷ []) ≡ cond b (Some f ∷ []) (cut (Some f) ∷ [])
    alone b = refl
call_is (Some f ∷ x ∷ xs) = refl

pub selector_is : (xs : Parts) → selector_parts xs ≡ cond (is_package_alone xs) [] xs
selector_is [] = refl
selector_is (None ∷ xs) = refl
selector_is (Some x ∷ []) = refl
selector_is (Some x ∷ y ∷ ys) = refl

-- ---- the last of written parts

ends_behind : (b : Bool) (ns : List (Option Node)) (x : Option Node) → ends_from b (views (ns ++ x ∷ [])) ≡ parameter_at x
ends_behind b [] None = refl
ends_behind b [] (Some n) = refl
ends_behind b (None ∷ ns) x = ends_behind false ns x
ends_behind b (Some n ∷ ns) x = ends_behind (is_parameter (kind_of (view n))) ns x

pub ends_last : (ns : List (Option Node)) (x : Option Node) → ends_named (views (ns ++ x ∷ [])) ≡ parameter_at x
ends_last ns x = ends_behind false ns x
