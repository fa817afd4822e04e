-- What is found so far stays so in a table with more types.
use Rattle.std.proofs.Common.{◌≡◌, ℕ, List, [], ◌∷◌, length, Option, refl, ap, sym, ◌∙◌}
use Rattle.std.specs.Option.{option_map}
use Rattle.go_types.specs.Tables.{Table, IsTable, type_of}
use Rattle.go_types_relations.specs.Extends.{Extends, Grows}
use Rattle.go_package_rounds.proofs.Public.{right_more, right_stays}
use Rattle.go_package_order.specs.Progress.{KnownRights, HasRights, sides}

module _ (old new : Table) (ok : IsTable old) (e : Extends old new) where
  rights_more : (rs : List (Option ℕ)) → KnownRights (length old.shapes) rs → KnownRights (length new.shapes) rs
  rights_more [] a = tt
  rights_more (r ∷ rs) a = (right_more old new ok e r a.0, rights_more rs a.1)

  sides_stay : (rs : List (Option ℕ)) → KnownRights (length old.shapes) rs → sides new rs ≡ sides old rs
  sides_stay [] a = refl
  sides_stay (r ∷ rs) a = ap (λ x. x ∷ sides new rs) (right_stays old new ok e r a.0) ∙ ap (λ xs. option_map (type_of old.shapes) r ∷ xs) (sides_stay rs a.1)

module _ (old new : Table) (ok : IsTable old) (g : Grows old new) where
  pub has_more : (rs : List (Option ℕ)) → HasRights old rs → HasRights new rs
  has_more rs h = record { known = rights_more old new ok g.extends rs h.known; are = g.rights ∙ h.are ∙ sym (sides_stay old new ok g.extends rs h.known) }
