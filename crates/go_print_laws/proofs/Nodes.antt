-- Nodes, typed from their parts.
use Rattle.std.proofs.Common.{◌≡◌, ℕ, Bool, true, false, not, ◌&&◌, ◌||◌, if◌then◌else◌, List, [], ◌∷◌, ◌++◌, Some, None, refl, ap, ◌∙◌}
use Rattle.std.specs.List.{list_all}
use Rattle.go_grammar.specs.declared.kind.Kind.{Kind}
use Rattle.go_grammar.specs.Trees.{Tree, node, Trees}
use Rattle.go_types.specs.Trees.{TypeTree}
use Rattle.go_types.specs.Relations.{Rights}
use Rattle.go_typed.specs.declared.form.Form.TheVariants as form
use Rattle.go_typed.specs.Trees.{row, list_of, form_of, sort_of, parts_of}
use Rattle.go_typed.specs.Trees as sort
use Rattle.go_exprs_rules.specs.declared.fault.TypeFault.{TypeFault}
use Rattle.go_exprs_rules.specs.Faults.{or_else}
use Rattle.go_exprs_rules.specs.Sorts.{Stands}
use Rattle.go_exprs_rules.specs.Settling.{Part}
use Rattle.go_exprs_rules.specs.Scopes.{Scope, Hint}
use Rattle.go_exprs_rules.specs.Names.{place_failing}
use Rattle.go_exprs_rules.specs.Tables.{Parts, as_type_place, layout, failing, placing, sort_by, form_by, is_judged, is_placed, own_faults, no_faults, is_sound, built_by, is_held, held}
use Rattle.go_exprs_rules.specs.Typing.{typing, typings, faults, faults_of_parts}
use Rattle.go_tokens.proofs.Public.{and_both, both}
use Rattle.go_print_laws.specs.Reading.{IsTypedAs, IsTypePlace, at_place, in_loose}

pub list_row : (xs : Parts) → list_of (row xs) ≡ xs
list_row [] = refl
list_row (Some x ∷ xs) = ap (λ l. Some x ∷ l) (list_row xs)
list_row (None ∷ xs) = ap (λ l. None ∷ l) (list_row xs)

pub clear-append : (xs ys : List (List TypeFault)) → list_all no_faults xs ≡ true → list_all no_faults ys ≡ true → list_all no_faults (xs ++ ys) ≡ true
clear-append [] ys h k = k
clear-append (x ∷ xs) ys h k = let b = both (no_faults x) _ h in and_both (no_faults x) _ b.0 (clear-append xs ys b.1 k)

-- what stands here, where the rules on places refuse nothing
abbrev pub MayStand : Rights → Hint → ℕ → ℕ → Stands → Type 0
MayStand rights h i j x = (b : Bool) → (if b then place_failing rights h i j x else []) ≡ []

module _ (s : Scope) (k : Kind) (h : Hint) (i j : ℕ) (ys : Parts) where
  form_built : (b : Bool) → form_of (built_by s k h i j ys b) ≡ form_by s k h i j ys
  form_built true = refl
  form_built false = refl

  none_fail : (x : Stands) → MayStand s.rights h i j x → is_judged ys ≡ true → failing s k h i j ys ≡ [] → sort_by s k h i j ys ≡ x → own_faults s k h i j ys ≡ []
  none_fail x p judged fine stands =
      ap (λ b. if b then or_else (failing s k h i j ys) (placing s k h i j (sort_by s k h i j ys)) else []) judged
      ∙ ap (λ fs. or_else fs (placing s k h i j (sort_by s k h i j ys))) fine
      ∙ ap (λ y. if is_placed k then place_failing s.rights h i j y else []) stands
      ∙ p (is_placed k)

  or_last : (a b : Bool) → b ≡ true → (a || b) ≡ true
  or_last true b e = refl
  or_last false b e = e

  sound : is_judged ys ≡ true → own_faults s k h i j ys ≡ [] → is_sound k ys (own_faults s k h i j ys) ≡ true
  sound judged none = or_last (not (is_placed k)) _ (and_both (is_judged ys) _ judged (ap no_faults none))

  sort_built : is_judged ys ≡ true → own_faults s k h i j ys ≡ [] → sort_of (built_by s k h i j ys (is_sound k ys (own_faults s k h i j ys))) ≡ sort_by s k h i j ys
  sort_built judged none = ap (λ b. sort_of (built_by s k h i j ys b)) (sound judged none)

-- A node by its parts as they are laid out: they are judged, and no rule of the node's own fails.
pub node_stands : (s : Scope) (k : Kind) (h : Hint) (i j : ℕ) (ps : Trees) (ys : Parts) (x : Stands) → MayStand s.rights h i j x → layout k (typings s k h ps [] ps) ≡ ys
    → is_judged ys ≡ true → failing s k h i j ys ≡ [] → sort_by s k h i j ys ≡ x → list_all no_faults (faults_of_parts s k h ps [] ps) ≡ true → IsTypedAs s h (node k i j ps) x
node_stands s k h i j ps ys x p laid judged fine stands clear =
    let none = none_fail s k h i j ys x p judged fine stands in
    record {
      stands = ap (λ zs. sort_of (built_by s k h i j zs (is_sound k zs (own_faults s k h i j zs)))) laid ∙ sort_built s k h i j ys judged none ∙ stands;
      faultless = clear-append (faults_of_parts s k h ps [] ps) _ clear (ap (λ zs. no_faults (own_faults s k h i j zs) && true) laid ∙ ap (λ fs. no_faults fs && true) none);
    }

-- ---- types

pub same_place : (h : Hint) → IsTypePlace h → as_type_place h ≡ h
same_place h at_place = refl
same_place h in_loose = refl

placed_type : (rights : Rights) (h : Hint) (i j : ℕ) (t : TypeTree) → IsTypePlace h → MayStand rights h i j (sort.IsType t)
placed_type rights h i j t at_place true = refl
placed_type rights h i j t in_loose true = refl
placed_type rights h i j t p false = refl

-- A type stands here, and no rule fails.
pub record TypeAt (s : Scope) (h : Hint) (tree : Tree) (t : TypeTree) : Type 0 where
  pub stands : sort_of (typing s h tree) ≡ sort.IsType t
  pub form : form_of (typing s h tree) ≡ form.Type
  pub faultless : list_all no_faults (faults s h tree) ≡ true

pub node_type : (s : Scope) (k : Kind) (h : Hint) (i j : ℕ) (ps : Trees) (ys : Parts) (t : TypeTree) → IsTypePlace h → layout k (typings s k h ps [] ps) ≡ ys
    → is_judged ys ≡ true → failing s k h i j ys ≡ [] → sort_by s k h i j ys ≡ sort.IsType t → form_by s k h i j ys ≡ form.Type
    → list_all no_faults (faults_of_parts s k h ps [] ps) ≡ true → TypeAt s h (node k i j ps) t
node_type s k h i j ps ys t p laid judged fine stands shape clear =
    let at = node_stands s k h i j ps ys (sort.IsType t) (placed_type s.rights h i j t p) laid judged fine stands clear in
    record {
      stands = at.stands;
      form = ap (λ zs. form_of (built_by s k h i j zs (is_sound k zs (own_faults s k h i j zs)))) laid ∙ form_built s k h i j ys _ ∙ shape;
      faultless = at.faultless;
    }

pub held_type : (x : Part) → form_of x ≡ form.Type → held (Some x) ≡ Some x ∷ []
held_type x e = ap (λ f. if is_held f then list_of (parts_of x) else Some x ∷ []) e
