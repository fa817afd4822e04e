-- No path to a hole ends at the type of a composite literal, for which no expression is asked.
use Rattle.std.proofs.Common.{◌≡◌, ◌∙◌, ℕ, zero, suc, ◌+◌, Bool, true, false, not, ◌&&◌, List, [], ◌∷◌, Some, refl, ap, subst}
use Rattle.go_grammar.specs.declared.kind.Category.{Category}
use Rattle.go_grammar.specs.declared.kind.Category.TheVariants as category
use Rattle.go_grammar.specs.declared.kind.Kind.{Kind}
use Rattle.go_grammar.specs.declared.kind.Kind.TheVariants as kind
use Rattle.go_grammar.specs.declared.kind.Level.TheVariants as level
use Rattle.go_grammar.specs.declared.kind.Place.{Place}
use Rattle.go_grammar.specs.Categories.{place_of}
use Rattle.go_grammar.specs.Grammar.{rule}
use Rattle.go_grammar.specs.Rules.{Rule}
use Rattle.go_grammar.specs.Trees.{Tree, node, Trees, none, more, skip}
use Rattle.go_rewriting.specs.Lists.{run_at}
use Rattle.go_rewriting.specs.Places.{carry, carries}
use Rattle.go_rewriting.specs.Replacing.{subtree_in, asked_at, asked_in, next_category, next_rule, takes_level}
use Rattle.go_scopes_events.proofs.Public.{true_false}
use Rattle.extract_names_holes.specs.Spots.{HolesAreNoTypes, is_literal_part, is_no_literal_type, no_literal_type_in}
use Rattle.extract_names_holes.proofs.Edges.{type_at}
use Rattle.extract_names_holes.proofs.Runs.{in_carried, run_sub}

both : (a b : Bool) → a ≡ true → b ≡ true → (a && b) ≡ true
both true b h g = g
both false b h g = absurd (true_false false h refl)

module _ (asked : Category) (takes : takes_level level.Primary asked ≡ true) where
  -- the type of a literal is asked for there
  literal_asked : (p : Place) (ps : Trees) → asked_in (rule p kind.Composite) 0 [] ps ≡ Some asked → false ≡ true
  literal_asked p none e = absurd cc
  literal_asked p (more q ps) e = let same : category.LiteralType p ≡ asked = cc in ap (takes_level level.Primary) same ∙ takes
  literal_asked p (skip ps) e = absurd cc

  own_part : (p : Place) (k : Kind) (n : ℕ) (path : List ℕ) (ps : Trees) → asked_in (rule p k) n path ps ≡ Some asked → not (is_literal_part k n path) ≡ true
  own_part p kind.Composite zero [] ps e = literal_asked p ps e
  own_part p kind.Composite zero (m ∷ path) ps e = refl
  own_part p kind.Composite (suc n) path ps e = refl
  own_part p k n path ps e = refl

  mutual
    path_typeless : (path : List ℕ) (c : Category) (t : Tree) → asked_at c path t ≡ Some asked → is_no_literal_type path t ≡ true
    path_typeless [] c t e = refl
    path_typeless (n ∷ path) c (node k i j ps) e = both (not (is_literal_part k n path)) (no_literal_type_in n path ps) (own_part (place_of c) k n path ps e) (row_typeless n path (rule (place_of c) k) ps e)

    row_typeless : (n : ℕ) (path : List ℕ) (r : Rule) (ps : Trees) → asked_in r n path ps ≡ Some asked → no_literal_type_in n path ps ≡ true
    row_typeless n path r none e = refl
    row_typeless zero path r (more p ps) e = path_typeless path (next_category r) p e
    row_typeless (suc n) path r (more p ps) e = row_typeless n path (next_rule r) ps e
    row_typeless zero path r (skip ps) e = refl
    row_typeless (suc n) path r (skip ps) e = row_typeless n path (next_rule r) ps e

-- ---- elsewhere

module _ (v : ℕ → ℕ) where
  mutual
    typeless_carried : (path : List ℕ) (t : Tree) → is_no_literal_type path (carry v t) ≡ is_no_literal_type path t
    typeless_carried [] t = refl
    typeless_carried (n ∷ path) (node k a b ps) = ap (λ z. not (is_literal_part k n path) && z) (row_carried n path ps)

    row_carried : (n : ℕ) (path : List ℕ) (ps : Trees) → no_literal_type_in n path (carries v ps) ≡ no_literal_type_in n path ps
    row_carried n path none = refl
    row_carried zero path (more p ps) = typeless_carried path p
    row_carried (suc n) path (more p ps) = row_carried n path ps
    row_carried zero path (skip ps) = refl
    row_carried (suc n) path (skip ps) = row_carried n path ps

type_in : (n : ℕ) (path : List ℕ) (ps : Trees) (p : Tree) → subtree_in n [] ps ≡ Some p → is_no_literal_type path p ≡ true → no_literal_type_in n path ps ≡ true
type_in n path none p s h = refl
type_in zero path (more q ps) p s h = let same : p ≡ q = cc in subst (λ z. is_no_literal_type path z ≡ true) same h
type_in (suc n) path (more q ps) p s h = type_in n path ps p s h
type_in zero path (skip ps) p s h = refl
type_in (suc n) path (skip ps) p s h = type_in n path ps p s h

-- ---- a hole

pub no_type : HolesAreNoTypes
no_type v c (node k a b ps) front others number from upto h le run =
    let path : List ℕ = h.part ∷ h.path in
    let row = row_typeless h.category h.takes (front + number) path (rule (place_of c) k) ps h.asked in
    let top = type_at (front + number) path ps h.top row h.at_statement in
    type_in number path (carries v (run_at front others ps)) (carry v h.top) (in_carried v number [] (run_at front others ps) h.top (run_sub front others number [] ps h.top le run h.at_statement)) (typeless_carried v path h.top ∙ top)
