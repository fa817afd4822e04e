-- What is written of windows over the types themselves is what is written by their numbers.
use Rattle.std.proofs.Common.{◌≡◌, ◌∙◌, ℕ, List, [], ◌∷◌, ◌++◌, length, map, Option, Some, None, slice_get, refl, sym, ap}
use Rattle.std.proofs.lemmas.List.{length-map}
use Rattle.std.specs.Option.{option_map}
use Rattle.go_types.specs.Tables.{rights_of, type_of}
use Rattle.go_types.specs.Trees.{TypeTree}
use Rattle.go_typed.specs.declared.window.Window.{Window}
use Rattle.go_typed.specs.Contents.{Content, content}
use Rattle.go_typed.specs.Funcs.{FuncView, tree_of}
use Rattle.go_typed.specs.Packages.{PackageView}
use Rattle.go_print_laws.specs.Calls.{Argument, variable}
use Rattle.go_print_laws.specs.Calls as calls
use Rattle.param_choose.specs.Choosing.{Choice, choice, chosen_in, chosen_of}
use Rattle.param_choose.specs.Handed.{Handed, handed_hole, hole_shown}
use Rattle.param_choose.specs.Holes.{holes}
use Rattle.param_choose.specs.Locals.{is_array}
use Rattle.param_choose.specs.Members.{Member, member_in, member_of, member_over, members_in, members_of, template_of}
use Rattle.param_choose.specs.Shown.{array_in}
use Rattle.param_choose.proofs.Public.{choice_mapped, choice-mapped, member_mapped, members-seen, template-seen}
use Rattle.escape_check.specs.declared.member.Member.{Member as Found}
use Rattle.escape_check.specs.Lookups.{locals_at}
use Rattle.escape_check.specs.Places.{Sources, local_text, sources_in}
use Rattle.escape_check.specs.Shown.{IsSound, member_by, member_view, unnumbered}
use Rattle.escape_check.specs.Types.{declared_text, hole_numbers}
use Rattle.extract_texts.specs.declared.template.Template.{Template}
use Rattle.extract_texts.specs.Fresh.{fresh_names}
use Rattle.extract_texts.specs.Shown.{IsTemplate}
use Rattle.extract_texts.specs.Texts.{call_among, call_at, call_of, call_text, constant_at, constants_at, function_among, function_for, function_text, function_with}
use Rattle.extract_texts.proofs.Mapped.{call-mapped, function-mapped}

-- ---- members

abbrev types : PackageView → ℕ → TypeTree
types p = type_of p.types.shapes

first-of : (c : Content) (ws : List Window) (w : Window) → slice_get ws 0 ≡ Some w → template_of c ws ≡ member_of c w
first-of c [] w e = cc
first-of c (v ∷ ws) w e = let same : v ≡ w = cc in ap (member_of c) same

-- a member as the package's content has it
pub member-there : (p : PackageView) (m : Found) → IsSound p m → member_of (content p) m.window ≡ Some (member_mapped (types p) (member_by p m))
member-there p m s =
    template-seen p (m.window ∷ [])
    ∙ ap (λ o. option_map (member_mapped (types p)) (option_map (λ (f : FuncView). member_over p.uses m.window f.locals f.tokens (tree_of f)) o)) s.func

pub template-there : (p : PackageView) (t : Template) → IsTemplate p t → template_of (content p) t.windows.now ≡ Some (member_mapped (types p) (member_by p t.member))
template-there p t i = first-of (content p) t.windows.now t.member.window i.first ∙ member-there p t.member i.sound

abbrev choice_by : PackageView → Template → Choice ℕ
choice_by p t = choice (array_in p.types) (members_in p t.windows.now) (member_by p t.member)

pub chosen-there : (p : PackageView) (t : Template) → IsTemplate p t → chosen_of (content p) t.windows.now ≡ choice_mapped (types p) (choice_by p t)
chosen-there p t i =
    let array = is_array (rights_of p.types) in
    ap (λ o. chosen_in array o (members_of (content p) t.windows.now)) (template-there p t i)
    ∙ ap (chosen_in array (Some (member_mapped (types p) (member_by p t.member)))) (members-seen p t.windows.now)
    ∙ choice-mapped (types p) array (members_in p t.windows.now) (member_by p t.member)

-- ---- no text speaks of the numbers of nodes

constants-alike : (m : Member ℕ) (ns : List ℕ) → constants_at ns (unnumbered m) ≡ constants_at ns m
constants-alike m [] = refl
constants-alike m (n ∷ ns) = ap (λ xs. constant_at (slice_get (holes m) n) ++ xs) (constants-alike m ns)

call-alike : (tree : ℕ → TypeTree) (s : Sources) (name : List ℕ) (t : Member ℕ) (h : Choice ℕ) (m : Member ℕ) → call_text tree s name (unnumbered t) h (unnumbered m) ≡ call_text tree s name t h m
call-alike tree s name t h m =
    let c = call_of tree s name t h m in
    let free = map variable (map (local_text s m) (locals_at t m h.free)) in
    let by : List Argument → List ℕ = λ gs. calls.call_text (declared_text s) (record { declared = c.declared; types = c.types; results = c.results; function = name; arguments = free ++ gs }) in
    ap by (constants-alike m (hole_numbers h.holes))

-- ---- texts

pub call_seen : (p : PackageView) (name : List ℕ) (t : Template) (m : Found) → IsTemplate p t → IsSound p m →
    call_text (type_of p.types.shapes) (sources_in p) name (member_view t.member) (choice (array_in p.types) (members_in p t.windows.now) (member_by p t.member)) (member_view m)
    ≡ call_at (content p) name t.windows.now m.window
call_seen p name t m i s =
    let h = choice_by p t in
    let c = content p in
    ap (λ x. call_text (types p) (sources_in p) name x h (member_view m)) i.sound.shown
    ∙ ap (call_text (types p) (sources_in p) name (unnumbered (member_by p t.member)) h) s.shown
    ∙ call-alike (types p) (sources_in p) name (member_by p t.member) h (member_by p m)
    ∙ sym (call-mapped (types p) (sources_in p) name (member_by p t.member) h (member_by p m))
    ∙ sym (
    ap (λ o. call_among c name o (chosen_of c t.windows.now) (member_of c m.window)) (template-there p t i)
    ∙ ap (λ x. call_among c name (Some (member_mapped (types p) (member_by p t.member))) x (member_of c m.window)) (chosen-there p t i)
    ∙ ap (call_among c name (Some (member_mapped (types p) (member_by p t.member))) (choice_mapped (types p) h)) (member-there p m s)
    )

pub function_seen : (p : PackageView) (name : List ℕ) (t : Template) → IsTemplate p t →
    function_text (type_of p.types.shapes) (sources_in p) name (member_view t.member) (choice (array_in p.types) (members_in p t.windows.now) (member_by p t.member))
    ≡ function_for (content p) name t.windows.now
function_seen p name t i =
    let h = choice_by p t in
    let c = content p in
    ap (λ x. function_text (types p) (sources_in p) name x h) i.sound.shown
    ∙ sym (function-mapped (types p) (sources_in p) name (member_by p t.member) h)
    ∙ sym (
    ap (λ o. function_among c name o (chosen_of c t.windows.now)) (template-there p t i)
    ∙ ap (function_among c name (Some (member_mapped (types p) (member_by p t.member)))) (chosen-there p t i)
    )

-- by fresh names that were found
pub function_given : (p : PackageView) (name : List ℕ) (t : Template) (fresh : List (List ℕ)) (text : List ℕ) → IsTemplate p t → fresh ≡ fresh_names (sources_in p) name (length t.choice.holes.items) →
    text ≡ function_with (type_of p.types.shapes) (sources_in p) name fresh (member_view t.member) (choice (array_in p.types) (members_in p t.windows.now) (member_by p t.member)) →
    text ≡ function_for (content p) name t.windows.now
function_given p name t fresh text i e f =
    let h = choice_by p t in
    let many : length t.choice.holes.items ≡ length h.holes =
    sym (length-map t.choice.holes.items hole_shown) ∙ ap (λ (x : Handed ℕ). length x.holes) i.choice ∙ length-map h.holes handed_hole in
    f
    ∙ ap (λ ns. function_with (types p) (sources_in p) name ns (member_view t.member) h) (e ∙ ap (fresh_names (sources_in p) name) many)
    ∙ function_seen p name t i
