-- A table whose first types are no declared ones: what stays of it where the others are taken away.
use Rattle.std.proofs.Common.{◌≡◌, ℕ, ◌≤◌, List, [], length, take, drop, Option, Some, refl, ap, sym, subst, ◌∙◌, arith}
use Rattle.std.specs.Prelude.{slice_get, count_by}
use Rattle.std.proofs.lemmas.List.{take-append-le, take-append-drop, take_all}
use Rattle.go_types.specs.declared.shape.Shape.TheVariants as shape
use Rattle.go_types.specs.Tables.{Table, IsTable, is_declaration}
use Rattle.go_types.specs.Changes.{first_types, IsClosedBelow}
use Rattle.go_types.proofs.Public.{count_rises}
use Rattle.go_types_relations.specs.Extends.{Extends}

abbrev pub Bare : ℕ → Table → Type 0
Bare n t = count_by is_declaration (take n t.shapes) ≡ 0

-- no declared type is below the number
pub closed_below : (n : ℕ) (t : Table) → Bare n t → IsClosedBelow n t
closed_below n t bare i m r below there right = let rises = count_rises is_declaration t.shapes i n (shape.Named m) there refl below in absurd (omega (arith, rises, bare))

same_table : (s t : Table) → s.shapes ≡ t.shapes → s.rights ≡ t.rights → s ≡ t
same_table s t a b = λ i. record { shapes = a i; rights = b i }

none_taken : (rs : List (Option ℕ)) (k : ℕ) → k ≡ 0 → take k rs ≡ []
none_taken rs k e = ap (λ m. take m rs) e

pub no_rights : (n : ℕ) (t : Table) → Bare n t → (first_types n t).rights ≡ []
no_rights n t bare = none_taken t.rights (count_by is_declaration (take n t.shapes)) bare

-- a longer table has the same first types
pub first_same : (n : ℕ) (old new : Table) → n ≤ length old.shapes → Extends old new → take n new.shapes ≡ take n old.shapes
first_same n old new within e = ap (take n) e.shapes ∙ take-append-le n old.shapes e.added within

pub bare_longer : (n : ℕ) (old new : Table) → n ≤ length old.shapes → Extends old new → Bare n old → Bare n new
bare_longer n old new within e bare = ap (count_by is_declaration) (first_same n old new within e) ∙ bare

pub first_stays : (n : ℕ) (old new : Table) → n ≤ length old.shapes → Extends old new → Bare n old → first_types n new ≡ first_types n old
first_stays n old new within e bare =
    same_table (first_types n new) (first_types n old) (first_same n old new within e) (no_rights n new (bare_longer n old new within e bare) ∙ sym (no_rights n old bare))

-- a table extends its first types
pub first_extends : (n : ℕ) (t : Table) → Bare n t → Extends (first_types n t) t
first_extends n t bare = record { added = drop n t.shapes; shapes = sym (take-append-drop n t.shapes); rights = λ m r h. (let none : slice_get [] m ≡ Some (Some r) = subst (λ rs. slice_get rs m ≡ Some (Some r)) (no_rights n t bare) h in absurd cc) }

-- a table without declared types is the first types of a longer one
pub bare_whole : (old : Table) → IsTable old → old.rights ≡ [] → Bare (length old.shapes) old
bare_whole old ok none = ap (count_by is_declaration) (take_all (length old.shapes) old.shapes (let l : length old.shapes ≤ length old.shapes = omega arith in l)) ∙ sym ok.declarations ∙ ap length none

pub first_whole : (old : Table) → IsTable old → old.rights ≡ [] → first_types (length old.shapes) old ≡ old
first_whole old ok none =
    same_table (first_types (length old.shapes) old) old (take_all (length old.shapes) old.shapes (let l : length old.shapes ≤ length old.shapes = omega arith in l)) (no_rights (length old.shapes) old (bare_whole old ok none) ∙ sym none)
