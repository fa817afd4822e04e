-- Refusals for names: what escapes from the window, what its new function can't name, what is spelled alike, and the name of the new
-- function.
use Rattle.std.specs.Prelude.{ℕ, ◌-◌, Bool, true, false, ◌&&◌, ◌||◌, not, is_some, nat_eq, nat_le, nat_lt, List, [], ◌∷◌, ◌++◌, map, filter, length, codes, slice_get}
use Rattle.std.specs.List.{list_any, list_all}
use Rattle.std.specs.Str.{chars, is_utf8}
use Rattle.go_tokens.specs.declared.token.Token.{Token}
use Rattle.go_tokens.specs.Characters.{is_letter, is_in_word}
use Rattle.go_tokens.specs.Editing.{is_identifier}
use Rattle.go_tokens.specs.Spellings.{same_text, listed, spelled, keywords}
use Rattle.go_tokens.specs.Tokens.{text_of}
use Rattle.go_tree.specs.File.{FileTree}
use Rattle.go_tree.specs.Predeclared.{known_in, known_names, unknown_names}
use Rattle.go_typed.specs.declared.form.Form.{Form}
use Rattle.go_typed.specs.declared.form.Form.TheVariants as form
use Rattle.go_typed.specs.declared.walk.LocalUse.{LocalUse}
use Rattle.go_typed.specs.Places.{nodes_among, covers}
use Rattle.go_typed.specs.Trees.{form_of}
use Rattle.go_typed.specs.Windows.{uses_from}
use Rattle.clone_window.specs.Sameness.{sort_at, standing}
use Rattle.param_choose.specs.Members.{Member, uses_within}
use Rattle.param_choose.specs.Locals.{free_locals, declared_names, has, is_outside}
use Rattle.param_choose.specs.Holes.{Hole, holes, is_fixed, is_outer}
use Rattle.escape_check.specs.Places.{Sources, Place, token_place, declaring_place, local_text}

-- ---- 7: a declared constant or type occurs later

-- the names of locals behind the window, in types and constants too
abbrev pub uses_behind : {T : Type 0} → Member T → List LocalUse
uses_behind m = uses_from m.tokens m.upto (length m.tokens - m.upto)

abbrev pub escapes : {T : Type 0} → Member T → LocalUse → Bool
escapes m u = has (declared_names m) u.local && is_fixed m u.local

abbrev pub escaping : {T : Type 0} → Sources → Member T → List Place
escaping s m = map (λ u. token_place s m u.token) (filter (escapes m) (uses_behind m))

-- ---- 8: a constant or type that is local to the function and declared outside the window is named where no hole stands, or a free
-- local stands inside a type or inside a constant declaration

-- a declaration of types has types, whose names stand in it too
abbrev pub is_closed : Form → Bool
is_closed form.Type = true
is_closed form.Constants = true
is_closed form.TypeNames = true
is_closed f = false

abbrev pub is_in_closed : {T : Type 0} → Member T → ℕ → Bool
is_in_closed m t = list_any (λ x. is_closed (form_of x) && covers x t) (nodes_among m.statements)

abbrev pub hole_covers : {T : Type 0} → Hole T → ℕ → Bool
hole_covers h t = nat_le h.from t && nat_lt t h.upto

abbrev pub is_in_hole : {T : Type 0} → Member T → ℕ → Bool
is_in_hole m t = list_any (λ h. hole_covers h t) (holes m)

-- a variable or a parameter
abbrev pub is_variable : {T : Type 0} → Member T → ℕ → Bool
is_variable m n = nat_eq (standing (sort_at m.locals n)) 1

-- one that is declared outside the window
abbrev pub is_free : {T : Type 0} → Member T → ℕ → Bool
is_free m n = is_variable m n && is_outside m n

abbrev pub is_unwritable : {T : Type 0} → Member T → LocalUse → Bool
is_unwritable m u = (is_outer m u && not (is_in_hole m u.token)) || (is_free m u.local && is_in_closed m u.token)

abbrev pub local_names : {T : Type 0} → Sources → Member T → List Place
local_names s m = map (λ u. token_place s m u.token) (filter (is_unwritable m) (uses_within m))

-- ---- 10: the name isn't an identifier, or is `_`, `init`, `main`, a keyword, a predeclared name of go1.22, or an identifier token of the
-- package (Go specification: Identifiers, Keywords, Predeclared identifiers)

abbrev pub begins_with_letter : List ℕ → Bool
begins_with_letter [] = false
begins_with_letter (x ∷ xs) = is_letter x

-- a letter, and then letters and digits
abbrev pub is_name_text : List ℕ → Bool
is_name_text xs = begins_with_letter xs && list_all is_in_word xs

abbrev pub is_keyword : List ℕ → Bool
is_keyword w = is_some (spelled keywords w)

abbrev pub is_reserved : List ℕ → Bool
is_reserved w = same_text w (codes "_") || same_text w (codes "init") || same_text w (codes "main")

abbrev pub is_predeclared : List ℕ → Bool
is_predeclared w = is_some (known_in known_names w) || listed unknown_names w

abbrev pub is_identifier_token : FileTree → List ℕ → Token → Bool
is_identifier_token f w t = is_identifier t.kind && same_text (text_of f.tokens t) w

abbrev pub names_file : List ℕ → FileTree → Bool
names_file w f = list_any (is_identifier_token f w) f.tokens.tokens

abbrev pub names_package : List ℕ → Sources → Bool
names_package w s = list_any (names_file w) s.files

abbrev pub is_in_use : Sources → List ℕ → Bool
is_in_use s w = not (is_utf8 w && is_name_text (chars w)) || is_reserved w || is_keyword w || is_predeclared w || names_package w s

-- ---- 11: a declared name is spelled like a free local of the same window

abbrev pub is_shadowing : {T : Type 0} → Sources → Member T → ℕ → Bool
is_shadowing s m n = list_any (λ v. same_text (local_text s m v.local) (local_text s m n)) (free_locals m)

-- the declaring identifiers of locals, which are in order of declaration
abbrev pub declaring_places : {T : Type 0} → Member T → List ℕ → List Place
declaring_places m [] = []
declaring_places m (n ∷ ns) = declaring_place (slice_get m.declared n) ++ declaring_places m ns

abbrev pub shadowing : {T : Type 0} → Sources → Member T → List Place
shadowing s m = declaring_places m (filter (is_shadowing s m) (declared_names m))
