-- A rule on names that are looked up, one name after the other.
use Rattle.std.proofs.Common.{◌≡◌, ◌∙◌, refl, sym, ap, [], ◌∷◌, List, Option}
use Rattle.go_tree.specs.Failures.{Failure, place_if}
use Rattle.go_tree.specs.Lookups.{Asked}
use Rattle.go_scopes.specs.declared.lookups.LookupRule.{LookupRule}
use Rattle.go_scopes.specs.declared.lookups.LookupRule.TheVariants as rule
use Rattle.go_scopes.specs.LookupRules.{code_of, fails, place_by, places_by}
use Rattle.go_scopes.specs.Noted.{noted}
use Rattle.go_scopes.proofs.Least.{noted_place_if}

places_cons : (r : LookupRule) (a : Asked) (asks : List Asked) → places_by r (a ∷ asks) ≡ place_if (fails r a) (place_by r a) (places_by r asks)
places_cons rule.Undeclared a asks = refl
places_cons rule.OutsideName a asks = refl
places_cons rule.OutsideMember a asks = refl
places_cons rule.NotCalled a asks = refl
places_cons rule.Initialiser a asks = refl

-- the fault noted at a name, and those of the names behind it
pub noted_lookup : (f g : Option Failure) (r : LookupRule) (a : Asked) (asks : List Asked) → g ≡ noted f (code_of r) (place_if (fails r a) (place_by r a) []) → noted g (code_of r) (places_by r asks) ≡ noted f (code_of r) (places_by r (a ∷ asks))
noted_lookup f g r a asks e =
    ap (λ x. noted x (code_of r) (places_by r asks)) e
    ∙ sym (noted_place_if f (code_of r) (fails r a) (place_by r a) (places_by r asks))
    ∙ ap (λ l. noted f (code_of r) l) (sym (places_cons r a asks))
