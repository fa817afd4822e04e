-- Rows of parts.
use Rattle.std.proofs.Common.{◌≡◌, ℕ, ◌<◌, ◌≤◌, List, [], ◌∷◌, length, Option, Some, None, refl, ap, ◌∙◌, arith}
use Rattle.go_grammar.specs.declared.kind.Kind.{Kind}
use Rattle.go_grammar.specs.declared.kind.Kind.TheVariants as kind
use Rattle.go_grammar.specs.declared.kind.Sort.{Sort}
use Rattle.go_grammar.specs.Trees.{Tree, node, Trees, none, more, skip, kind_of, parts}
use Rattle.go_tree.specs.declared.node.Node.{Node}
use Rattle.go_tree.specs.Views.{views}
use Rattle.go_stmts_defs.specs.Reading.{part_source}
use Rattle.go_package_defs.specs.Declarations.{declared, grouped}
use Rattle.go_declarations.specs.Views.{only_part, group_in}

-- ---- a row of two parts, or of one

pub less_than_two : (ns : List (Option Node)) (r : Option Tree) → length ns < 2 → r ≡ part_source (views ns) r
less_than_two [] r h = refl
less_than_two (None ∷ ns) r h = refl
less_than_two (Some n ∷ []) r h = refl
less_than_two (Some n ∷ m ∷ ns) r h = absurd (omega (arith, h))

pub more_than_two : (ns : List (Option Node)) (r : Option Tree) → 3 ≤ length ns → r ≡ part_source (views ns) r
more_than_two [] r h = refl
more_than_two (None ∷ ns) r h = refl
more_than_two (Some n ∷ []) r h = refl
more_than_two (Some n ∷ None ∷ ns) r h = refl
more_than_two (Some n ∷ Some m ∷ []) r h = absurd (omega (arith, h))
more_than_two (Some n ∷ Some m ∷ None ∷ ns) r h = refl
more_than_two (Some n ∷ Some m ∷ Some k ∷ ns) r h = refl

pub none_there : (ns : List (Option Node)) → length ns < 1 → None ≡ only_part (views ns)
none_there [] h = refl
none_there (n ∷ ns) h = absurd (omega (arith, h))

pub more_than_one : (ns : List (Option Node)) → 2 ≤ length ns → None ≡ only_part (views ns)
more_than_one [] h = refl
more_than_one (None ∷ ns) h = refl
more_than_one (Some n ∷ []) h = absurd (omega (arith, h))
more_than_one (Some n ∷ None ∷ ns) h = refl
more_than_one (Some n ∷ Some m ∷ ns) h = refl

-- ---- groups

pub group_of_none : (ps : Trees) → only_part ps ≡ None → group_in ps ≡ ps
group_of_none none e = refl
group_of_none (skip ps) e = refl
group_of_none (more p none) e = absurd cc
group_of_none (more (node (kind.Group g) i j qs) (more q ps)) e = refl
group_of_none (more (node (kind.Group g) i j qs) (skip ps)) e = refl
group_of_none (more (node k i j qs) (more q ps)) e = refl
group_of_none (more (node k i j qs) (skip ps)) e = refl

abbrev pub group_by : Kind → Trees → Trees → Trees
group_by (kind.Group g) qs ps = qs
group_by k qs ps = ps

pub group_of_one : (ps : Trees) (t : Tree) → only_part ps ≡ Some t → group_in ps ≡ group_by (kind_of t) (parts t) ps
group_of_one none t e = absurd cc
group_of_one (skip ps) t e = absurd cc
group_of_one (more p (more q ps)) t e = absurd cc
group_of_one (more p (skip ps)) t e = absurd cc
group_of_one (more p none) t e = one p t (let s : p ≡ t = cc in s)
  where
    same : (p : Tree) → group_in (more p none) ≡ group_by (kind_of p) (parts p) (more p none)
    same (node (kind.Group g) i j qs) = refl
    same (node k i j qs) = refl

    one : (p t : Tree) → p ≡ t → group_in (more p none) ≡ group_by (kind_of t) (parts t) (more p none)
    one p t e = same p ∙ ap (λ z. group_by (kind_of z) (parts z) (more p none)) e

pub declared_group : (n : ℕ) (s : Sort) (ps : Trees) → declared n s ps ≡ grouped n s 0 None (group_in ps)
declared_group n s none = refl
declared_group n s (skip ps) = refl
declared_group n s (more (node (kind.Group g) i j qs) none) = refl
declared_group n s (more (node (kind.Group g) i j qs) (more q ps)) = refl
declared_group n s (more (node (kind.Group g) i j qs) (skip ps)) = refl
declared_group n s (more (node k i j qs) none) = refl
declared_group n s (more (node k i j qs) (more q ps)) = refl
declared_group n s (more (node k i j qs) (skip ps)) = refl
