-- How one more entry changes the names that were told.
use Rattle.std.proofs.Common.{◌≡◌, ℕ, List, [], ◌∷◌, ◌++◌, Option, Some, None, Ok, Err, refl, ap, ◌∙◌}
use Rattle.std.specs.Option.{option_map}
use Rattle.port_io.specs.Listing.{Told, names_told}

-- no plain file
pub told_none : (told : List Told) → names_told (told ++ Ok None ∷ []) ≡ names_told told
told_none [] = refl
told_none (Err e ∷ told) = refl
told_none (Ok None ∷ told) = told_none told
told_none (Ok (Some name) ∷ told) = ap (option_map (λ names. name ∷ names)) (told_none told)

front_and_end : (first last : List ℕ) (names : Option (List (List ℕ)))
    → option_map (λ ns. first ∷ ns) (option_map (λ ns. ns ++ last ∷ []) names) ≡ option_map (λ ns. ns ++ last ∷ []) (option_map (λ ns. first ∷ ns) names)
front_and_end first last None = refl
front_and_end first last (Some names) = refl

-- the name of a plain file
pub told_name : (told : List Told) (last : List ℕ) → names_told (told ++ Ok (Some last) ∷ []) ≡ option_map (λ ns. ns ++ last ∷ []) (names_told told)
told_name [] last = refl
told_name (Err e ∷ told) last = refl
told_name (Ok None ∷ told) last = told_name told last
told_name (Ok (Some name) ∷ told) last = ap (option_map (λ ns. name ∷ ns)) (told_name told last) ∙ front_and_end name last (names_told told)
