-- The first place of a rule on names, by the first token that fails.
use Rattle.std.proofs.Common.{◌≡◌, ◌∙◌, ℕ, Bool, false, List, filter, map, Option, Some, None, refl, sym, ap}
use Rattle.std.specs.List.{list_any}
use Rattle.std.specs.Option.{option_map}
use Rattle.go_typed.specs.declared.walk.LocalUse.{LocalUse}
use Rattle.param_choose.specs.Holes.{is_fixed}
use Rattle.param_choose.specs.Locals.{declared_names}
use Rattle.param_choose.specs.Members.{Member, occurs_later}
use Rattle.escape_check.specs.Firsts.{first, first_where}
use Rattle.escape_check.specs.Names.{escaping, uses_behind}
use Rattle.escape_check.specs.Places.{Sources, first_of, token_place}
use Rattle.escape_check.proofs.Escaping.{filter-alike, first-place, none_escapes}

-- no constant and no type that the window declares occurs later
pub nothing_escapes : (s : Sources) (m : Member ℕ) → list_any (occurs_later m) (filter (is_fixed m) (declared_names m)) ≡ false → None ≡ first_of (escaping s m)
nothing_escapes s m h = sym (ap (λ us. first_of (map (λ u. token_place s m u.token) us)) (none_escapes (is_fixed m) (declared_names m) (uses_behind m) h))

token-of : (s : Sources) (m : Member ℕ) (o : Option LocalUse) → option_map (token_place s m) (option_map (λ u. u.token) o) ≡ option_map (λ u. token_place s m u.token) o
token-of s m None = refl
token-of s m (Some u) = refl

-- by a test that is alike
pub first_named : (s : Sources) (m : Member ℕ) (test rule : LocalUse → Bool) → ((u : LocalUse) → test u ≡ rule u) → (us : List LocalUse) (o : Option ℕ) →
    o ≡ option_map (λ u. u.token) (first_where test us) → option_map (token_place s m) o ≡ first_of (map (λ u. token_place s m u.token) (filter rule us))
first_named s m test rule e us o h =
    ap (option_map (token_place s m)) h
    ∙ token-of s m (first (filter test us))
    ∙ ap (λ xs. option_map (λ u. token_place s m u.token) (first xs)) (filter-alike test rule e us)
    ∙ sym (first-place (λ u. token_place s m u.token) (filter rule us))
