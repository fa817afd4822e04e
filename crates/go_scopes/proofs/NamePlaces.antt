-- The places of names that stand twice are those of the rules on them.
use Rattle.std.proofs.Common.{◌≡◌, ◌∙◌, ℕ, suc, Bool, true, false, List, [], ◌∷◌, ◌++◌, map, refl, sym, ap}
use Rattle.std.specs.Prelude.{◌&&◌, if◌then◌else◌}
use Rattle.std.proofs.lemmas.List.{map-append}
use Rattle.go_tokens.specs.Tokens.{TokenList}
use Rattle.go_tree.specs.declared.event.Member.TheVariants as member
use Rattle.go_tree.specs.declared.event.Event.{Event}
use Rattle.go_tree.specs.declared.event.Event.TheVariants as event
use Rattle.go_tree.specs.Contexts.{is_package}
use Rattle.go_tree.specs.Units as names
use Rattle.go_tree.specs.Units.{Place, word, is_fmt, bytes_at}
use Rattle.go_tree.specs.Declarations.{Found, found, declarations}
use Rattle.go_tree.specs.Failures as failures
use Rattle.go_tree.specs.Failures.{of_files}
use Rattle.go_tree.specs.Duplicates.{is_duplicate, member_place, second_members}
use Rattle.go_tree.specs.Redeclared.{has_clash, second_declarations, has_import, hidden_imports, second_imports, none_new, redeclared}
use Rattle.go_tree.specs.Repeated.{NamePlace, name_place, place_if, second_names, hidden_names, redeclared_by, parameter_place, parameters_in, parameters_from, repeated_parameters}
use Rattle.go_scopes.specs.SecondMembers.{is_parameter, any_member, place_among, second_among}

abbrev places : List NamePlace → List Place
places ps = map (λ p. p.place) ps

placed_if : (b : Bool) (p : NamePlace) (ps : List NamePlace) → places (place_if b p ps) ≡ failures.place_if b p.place (places ps)
placed_if true p ps = refl
placed_if false p ps = refl

second_places : (before ds : List Found) → places (second_names before ds) ≡ second_declarations before ds
second_places before [] = refl
second_places before (d ∷ ds) = placed_if (has_clash d before) (name_place d) (second_names (before ++ d ∷ []) ds) ∙ ap (failures.place_if (has_clash d before) d.place) (second_places (before ++ d ∷ []) ds)

hidden_places : (b : Bool) (ds : List Found) → places (hidden_names b ds) ≡ hidden_imports b ds
hidden_places b [] = refl
hidden_places b (d ∷ ds) = placed_if (b && is_package d.it.block && is_fmt d.name) (name_place d) (hidden_names b ds) ∙ ap (failures.place_if (b && is_package d.it.block && is_fmt d.name) d.place) (hidden_places b ds)

pub redeclared_places : (us : List names.Unit) (ds : List Found) → redeclared us ds ≡ places (redeclared_by us ds) ++ of_files (second_imports false) 0 us ++ none_new ds (found us)
redeclared_places us ds =
    ap (λ ps. ps ++ of_files (second_imports false) 0 us ++ none_new ds (found us))
    (sym (map-append (λ p. p.place) (second_names [] ds) (hidden_names (has_import us) ds)
    ∙ ap (λ ps. ps ++ places (hidden_names (has_import us) ds)) (second_places [] ds)
    ∙ ap (λ ps. second_declarations [] ds ++ ps) (hidden_places (has_import us) ds)))

any_place : (before : List Event) (n : ℕ) (ts : TokenList) (e : Event) (ss : List Place) → place_among any_member before n ts e ss ≡ member_place before n ts e ss
any_place before n ts (event.Member m g x) ss = refl
any_place before n ts e ss = refl

pub any_second : (before : List Event) (n : ℕ) (ts : TokenList) (es : List Event) → second_among any_member before n ts es ≡ second_members before n ts es
any_second before n ts [] = refl
any_second before n ts (e ∷ es) = any_place before n ts e (second_among any_member (before ++ e ∷ []) n ts es) ∙ ap (member_place before n ts e) (any_second (before ++ e ∷ []) n ts es)

parameter_placed : (before : List Event) (n : ℕ) (ts : TokenList) (e : Event) (ps : List NamePlace) → places (parameter_place before n ts e ps) ≡ place_among is_parameter before n ts e (places ps)
parameter_placed before n ts (event.Member member.Parameter g x) ps = placed_if (is_duplicate member.Parameter g (word ts x) ts before) (record { file = n; token = x; place = bytes_at n ts x }) ps
parameter_placed before n ts (event.Member member.Field g x) ps = refl
parameter_placed before n ts (event.Member member.Key g x) ps = refl
parameter_placed before n ts e ps = refl

parameters_placed : (before : List Event) (n : ℕ) (ts : TokenList) (es : List Event) → places (parameters_in before n ts es) ≡ second_among is_parameter before n ts es
parameters_placed before n ts [] = refl
parameters_placed before n ts (e ∷ es) = parameter_placed before n ts e (parameters_in (before ++ e ∷ []) n ts es) ∙ ap (place_among is_parameter before n ts e) (parameters_placed (before ++ e ∷ []) n ts es)

from_placed : (n : ℕ) (us : List names.Unit) → places (parameters_from n us) ≡ of_files (second_among is_parameter []) n us
from_placed n [] = refl
from_placed n (u ∷ us) =
    map-append (λ p. p.place) (parameters_in [] n u.tokens u.events) (parameters_from (suc n) us)
    ∙ ap (λ ps. ps ++ places (parameters_from (suc n) us)) (parameters_placed [] n u.tokens u.events)
    ∙ ap (λ ps. second_among is_parameter [] n u.tokens u.events ++ ps) (from_placed (suc n) us)

pub parameter_places : (us : List names.Unit) → places (repeated_parameters us) ≡ of_files (second_among is_parameter []) 0 us
parameter_places us = from_placed 0 us

any_from : (n : ℕ) (us : List names.Unit) → of_files (second_among any_member []) n us ≡ of_files (second_members []) n us
any_from n [] = refl
any_from n (u ∷ us) =
    ap (λ ps. ps ++ of_files (second_among any_member []) (suc n) us) (any_second [] n u.tokens u.events)
    ∙ ap (λ ps. second_members [] n u.tokens u.events ++ ps) (any_from (suc n) us)

pub any_places : (us : List names.Unit) → of_files (second_among any_member []) 0 us ≡ of_files (second_members []) 0 us
any_places us = any_from 0 us
