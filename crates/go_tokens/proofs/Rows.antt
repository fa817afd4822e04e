-- Rows of tokens of one file.
use Rattle.std.proofs.Common.{◌≡◌, ◌∙◌, ℕ, List, [], ◌∷◌, ◌++◌, length, Some, slice_get, ap}
use Rattle.std.proofs.lemmas.List.{length-map, map_push}
use Rattle.std.proofs.lemmas.Option.{slice_get-map}
use Rattle.std.specs.Option.{option_map}
use Rattle.go_tokens.specs.declared.token.PlacedKind.{PlacedKind}
use Rattle.go_tokens.specs.declared.token.Token.{Token}
use Rattle.go_tokens.specs.Rows.{in_file, all_in_file}

pub length_in_file : (file : ℕ) (ps : List PlacedKind) → length (all_in_file file ps) ≡ length ps
length_in_file file ps = length-map ps (in_file file)

pub get_in_file : (file : ℕ) (ps : List PlacedKind) (i : ℕ) (p : PlacedKind) → slice_get ps i ≡ Some p → slice_get (all_in_file file ps) i ≡ Some (in_file file p)
get_in_file file ps i p e = slice_get-map (in_file file) ps i ∙ ap (option_map (in_file file)) e

pub push_in_file : (file : ℕ) (ps : List PlacedKind) (p : PlacedKind) (t : Token) → in_file file p ≡ t → all_in_file file (ps ++ p ∷ []) ≡ all_in_file file ps ++ t ∷ []
push_in_file file ps p t e = map_push (in_file file) ps p ∙ ap (λ (x : Token). all_in_file file ps ++ x ∷ []) e
