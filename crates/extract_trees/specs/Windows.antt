-- Windows that are the same, each copied under numbers of its own, have one copy.
use Rattle.std.specs.Prelude.{◌≡◌, ℕ, Bool, true, false, ◌&&◌, ◌||◌, not, nat_eq, if◌then◌else◌, List, [], ◌∷◌, ◌++◌, Option, Some, None, unwrap_or}
use Rattle.std.specs.List.{list_all, zip}
use Rattle.std.specs.Option.{option_map}
use Rattle.go_types.specs.Trees.{TypeTree}
use Rattle.go_types_relations.specs.Renaming.{renamed}
use Rattle.go_typed.specs.declared.form.Referent.{Referent}
use Rattle.go_typed.specs.Trees.{Typed, typed, Typeds, none, more, skip, EveryPart}
use Rattle.go_exprs_rules.specs.Sorts.{Stands}
use Rattle.clone_window.specs.Masses.{is_constant_expression, is_hole, is_inside}
use Rattle.clone_window.specs.Sameness.{same_values, value_of, are_alike, all_agree, is_same, is_one_to_one, local_pairs}
use Rattle.extract_trees.specs.Numberings.{Numbering}
use Rattle.extract_trees.specs.Copied.{window_copied}
use Rattle.extract_trees.specs.Standing.{Around, AreSettled, nothing_told}
use Rattle.extract_trees.specs.OneCopy.{AreOneCopy}

-- ---- holes

abbrev mutual
  -- the holes of a tree, which may stand inside a constant expression: their first tokens and what they stand for
  pub holes : Bool → Typed TypeTree → List (ℕ × Stands)
  holes a (typed f i j l ps) = if is_hole a f l then (i, l.sort) ∷ [] else all_holes (is_inside a f l) ps

  pub all_holes : Bool → Typeds TypeTree → List (ℕ × Stands)
  all_holes a none = []
  all_holes a (more p ps) = holes a p ++ all_holes a ps
  all_holes a (skip ps) = all_holes a ps

-- the pairs of holes at corresponding places
abbrev pub hole_pairs : Typeds TypeTree → Typeds TypeTree → List ((ℕ × Stands) × (ℕ × Stands))
hole_pairs ps qs = zip (all_holes false ps) (all_holes false qs)

-- one parameter, or none and one value
abbrev pub same_parameter : Option ℕ → Option ℕ → Bool → Bool
same_parameter (Some p) (Some q) same = nat_eq p q
same_parameter None None same = same
same_parameter _ _ same = false

abbrev pub is_one_parameter : Numbering → Numbering → ((ℕ × Stands) × (ℕ × Stands)) → Bool
is_one_parameter c d h = same_parameter (c.parameter h.0.0) (d.parameter h.1.0) (same_values (value_of h.0.1) (value_of h.1.1))

-- ---- constants that name variables, as the length of an array

-- told of the first node whether it is a hole, and of both whether they are constant expressions
abbrev pub constant_or : (TypeTree → TypeTree → Bool) → Bool → Bool → Bool → Stands → Stands → Bool → Bool
constant_or identical true p q s t rest = true
constant_or identical false true true s t rest = are_alike identical s t
constant_or identical false false false s t rest = rest
constant_or identical false p q s t rest = false

abbrev mutual
  -- Constant expressions that are no holes stand against such ones of identical types and equal values.
  pub constants_agree : (TypeTree → TypeTree → Bool) → Typed TypeTree → Typed TypeTree → Bool
  constants_agree identical (typed f i j l ps) (typed g k m n qs) =
      constant_or identical (is_hole false f l) (is_constant_expression f l) (is_constant_expression g n) l.sort n.sort (all_constants_agree identical ps qs)

  pub all_constants_agree : (TypeTree → TypeTree → Bool) → Typeds TypeTree → Typeds TypeTree → Bool
  all_constants_agree identical none none = true
  all_constants_agree identical (more p ps) (more q qs) = constants_agree identical p q && all_constants_agree identical ps qs
  all_constants_agree identical (skip ps) (skip qs) = all_constants_agree identical ps qs
  all_constants_agree identical _ _ = false

abbrev mutual
  -- whether no constant expression outside of others names a variable
  pub has_holes_alone : Typed TypeTree → Bool
  has_holes_alone (typed f i j l ps) = is_hole false f l || (not (is_constant_expression f l) && have_holes_alone ps)

  pub have_holes_alone : Typeds TypeTree → Bool
  have_holes_alone none = true
  have_holes_alone (more p ps) = has_holes_alone p && have_holes_alone ps
  have_holes_alone (skip ps) = have_holes_alone ps

-- Then there is nothing to compare.
abbrev pub HolesAloneAgree : Type 0
HolesAloneAgree =
    (identical : TypeTree → TypeTree → Bool) (ps qs : Typeds TypeTree) → all_agree identical false false ps qs ≡ true → have_holes_alone ps ≡ true → have_holes_alone qs ≡ true →
    all_constants_agree identical ps qs ≡ true

-- ---- the law

-- Locals at corresponding places have one number, and so have objects of the package and the types that the first window names;
-- corresponding holes have one parameter, or they have one value and none.
pub record AreNumberedAlike (c d : Numbering) (ps qs : Typeds TypeTree) : Type 0 where
  pub locals : list_all (λ p. nat_eq (c.local p.0) (d.local p.1)) (local_pairs ps qs) ≡ true
  pub holes : list_all (is_one_parameter c d) (hole_pairs ps qs) ≡ true
  pub referents : (r : Referent) → c.referent r ≡ d.referent r
  pub types : EveryPart (λ t. renamed c.type t ≡ renamed d.type t) ps

abbrev pub IsExact : (TypeTree → TypeTree → Bool) → Type 0
IsExact identical = (t u : TypeTree) → identical t u ≡ true → t ≡ u

abbrev pub SameWindowsHaveOneCopy : Type 0
SameWindowsHaveOneCopy =
    (identical : TypeTree → TypeTree → Bool) (w : Around) (here there : List Stands) (ps qs : Typeds TypeTree) (c d : Numbering) →
    IsExact identical → is_same identical here there ps qs ≡ true → AreSettled w here nothing_told ps → AreSettled w there nothing_told qs →
    all_constants_agree identical ps qs ≡ true → AreNumberedAlike c d ps qs → AreOneCopy (window_copied c ps) (window_copied d qs)

-- ---- numbers for the locals of the second window

-- the first local that is paired with this second one
abbrev pub partner : List (ℕ × ℕ) → ℕ → Option ℕ
partner [] m = None
partner (p ∷ pairs) m = if nat_eq p.1 m then Some p.0 else partner pairs m

-- the number of its partner, or its own one where it has none
abbrev pub local_beside : (ℕ → ℕ) → List (ℕ × ℕ) → ℕ → ℕ
local_beside local pairs m = unwrap_or (option_map local (partner pairs m)) m

-- Where locals are paired one to one, the two of each pair have one number so.
abbrev pub PairedLocalsHaveOneNumber : Type 0
PairedLocalsHaveOneNumber = (local : ℕ → ℕ) (pairs : List (ℕ × ℕ)) → is_one_to_one pairs ≡ true → list_all (λ p. nat_eq (local p.0) (local_beside local pairs p.1)) pairs ≡ true
