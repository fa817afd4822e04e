-- Templates, and what is written from them.
use Rattle.std.proofs.Common.{◌≡◌, ◌∙◌, ℕ, false, List, ◌++◌, map, Some, codes, slice_get, sym, ap}
use Rattle.go_tree.specs.Units.{Place}
use Rattle.go_types.specs.Tables.{type_of}
use Rattle.go_typed.specs.declared.window.Window.{Window}
use Rattle.go_typed.specs.Funcs.{FuncView, tree_of}
use Rattle.go_typed.specs.Packages.{PackageView}
use Rattle.go_typed.specs.Views.{views}
use Rattle.go_print.specs.Texts.{listed}
use Rattle.go_print_laws.specs.Calls.{argument_text, assigning_text}
use Rattle.go_print_laws.specs.Headers.{header_text}
use Rattle.clone_window.specs.Sameness.{all_locals}
use Rattle.param_choose.specs.Choosing.{Choice, choice}
use Rattle.param_choose.specs.Handed.{choice_shown, handed}
use Rattle.param_choose.specs.Locals.{Variable, variables_where}
use Rattle.param_choose.specs.Members.{Member, member_over, members_in, occurs_later}
use Rattle.param_choose.specs.Shown.{array_in, variable_view}
use Rattle.escape_check.specs.declared.member.Member.{Member as Found}
use Rattle.escape_check.specs.Lookups.{locals_at}
use Rattle.escape_check.specs.Places.{local_text, sources_in}
use Rattle.escape_check.specs.Shown.{IsSound, member_by, member_view}
use Rattle.escape_check.specs.Types.{declared_text}
use Rattle.extract_texts.specs.declared.template.Template.{Template}
use Rattle.extract_texts.specs.Shown.{IsTemplate, KnowsLocals, declarations, locals_by, numbers_shown, places_at}
use Rattle.extract_texts.specs.Texts.{call_text, constants_at, file_text, function_with, header_of, hole_bytes, result_name, returning_text, variable_names, window_bytes, with_names}
use Rattle.extract_texts.proofs.Places.{places_told}
use Rattle.extract_texts.proofs.Rows.{assigned_told, both_names, call_told, declared_told, free_told, numbers_told}

-- what is made of the first window and its function
pub template_is : (p : PackageView) (t : Template) (w : Window) (f : FuncView) (ws : List Window) → t.windows.now ≡ ws → slice_get ws 0 ≡ Some w → t.member.window ≡ w → t.member.func.now ≡ f → IsSound p t.member →
    choice_shown t.choice ≡ handed (choice (array_in p.types) (members_in p ws) (member_over p.uses w f.locals f.tokens (tree_of f))) → KnowsLocals t → IsTemplate p t
template_is p t w f ws a first b c sound h k = record {
  first = ap (λ xs. slice_get xs 0) a ∙ first ∙ sym (ap Some b);
  sound = sound;
  choice =
      h
      ∙ ap (λ xs. handed (choice (array_in p.types) (members_in p xs) (member_over p.uses w f.locals f.tokens (tree_of f)))) (sym a)
      ∙ ap (λ v. handed (choice (array_in p.types) (members_in p t.windows.now) (member_over p.uses v f.locals f.tokens (tree_of f)))) (sym b)
      ∙ ap (λ (g : FuncView). handed (choice (array_in p.types) (members_in p t.windows.now) (member_over p.uses t.member.window g.locals g.tokens (tree_of g)))) (sym c);
  places = k;
}

-- the locals of a member that stand where some of the template do
locals_told : (t : Template) (m : Member ℕ) (others : List ℕ) (xs vs : List (Variable ℕ)) → others ≡ all_locals false m.statements → xs ≡ vs → locals_by t others xs ≡ locals_at (member_view t.member) m vs
locals_told t m others xs vs e f = ap (λ os. locals_by t os xs) e ∙ ap (λ ys. locals_at (member_view t.member) m ys) f

pub call_written : (p : PackageView) (t : Template) (x : Found) (h : Choice ℕ) (w : List ℕ) (others declared : List ℕ) (later : List (Variable ℕ)) (rs gs : List (List ℕ)) →
    choice_shown t.choice ≡ handed h → others ≡ all_locals false (views x.statements.now) → declared ≡ locals_by t others (map variable_view t.choice.declared.items) →
    later ≡ variables_where x.func.now.locals (occurs_later (member_view x)) declared →
    rs ≡ map (local_text (sources_in p) (member_view x)) (locals_by t others (map variable_view t.choice.assigned.items)) ++ map (result_name (sources_in p) (member_view x)) declared →
    gs ≡ map (local_text (sources_in p) (member_view x)) (locals_by t others (map variable_view t.choice.free.items)) ++ map argument_text (constants_at (numbers_shown t.choice.holes.items) (member_view x)) →
    declarations p (member_view x) later ++ assigning_text rs ++ w ++ codes "(" ++ listed gs ++ codes ")" ≡ call_text (type_of p.types.shapes) (sources_in p) w (member_view t.member) h (member_view x)
call_written p t x h w others declared later rs gs e o d l r g =
    let m = member_view x in
    let s = sources_in p in
    let u = member_view t.member in
    let named = d ∙ locals_told t m others (map variable_view t.choice.declared.items) h.declared o (declared_told t.choice h e) in
    call_told p w u h m (declarations p m later) rs gs
    (ap (declarations p m) (l ∙ ap (variables_where m.locals (occurs_later m)) named))
    (r
    ∙ ap (λ ns. map (local_text s m) ns ++ map (result_name s m) declared) (locals_told t m others (map variable_view t.choice.assigned.items) h.assigned o (assigned_told t.choice h e))
    ∙ ap (λ ns. map (local_text s m) (locals_at u m h.assigned) ++ map (result_name s m) ns) named)
    (g
    ∙ ap (λ ns. map (local_text s m) ns ++ map argument_text (constants_at (numbers_shown t.choice.holes.items) m)) (locals_told t m others (map variable_view t.choice.free.items) h.free o (free_told t.choice h e))
    ∙ ap (λ ns. map (local_text s m) (locals_at u m h.free) ++ map argument_text (constants_at ns m)) (numbers_told t.choice h e))

-- a function by its header, its places and its results
pub function_written : (p : PackageView) (t : Template) (w : List ℕ) (fresh : List (List ℕ)) (file header : List ℕ) (places : List Place) (rs : List (List ℕ)) → IsTemplate p t →
    let h = choice (array_in p.types) (members_in p t.windows.now) (member_by p t.member) in
    file ≡ file_text (sources_in p) (member_view t.member) → header ≡ header_text (declared_text (sources_in p)) (header_of (type_of p.types.shapes) (sources_in p) w fresh (member_view t.member) h) →
    places ≡ places_at (sources_in p) (member_view t.member) (numbers_shown t.choice.holes.items) →
    rs ≡ variable_names (sources_in p) (member_view t.member) (map variable_view t.choice.assigned.items) ++ variable_names (sources_in p) (member_view t.member) (map variable_view t.choice.declared.items) →
    codes "\n" ++ header ++ codes " {\n" ++ with_names file (window_bytes (sources_in p) (member_view t.member)).start (window_bytes (sources_in p) (member_view t.member)).end places fresh ++ codes "\n"
    ++ returning_text rs ++ codes "}\n" ≡ function_with (type_of p.types.shapes) (sources_in p) w fresh (member_view t.member) h
function_written p t w fresh file header places rs i f hd ps r =
    let s = sources_in p in
    let m = member_view t.member in
    let h = choice (array_in p.types) (members_in p t.windows.now) (member_by p t.member) in
    let b = window_bytes s m in
    let by : List ℕ → List ℕ → List Place → List (List ℕ) → List ℕ =
    λ hs xs qs ns. codes "\n" ++ hs ++ codes " {\n" ++ with_names xs b.start b.end qs fresh ++ codes "\n" ++ returning_text ns ++ codes "}\n" in
    let head = header_text (declared_text s) (header_of (type_of p.types.shapes) s w fresh m h) in
    let own = file_text s m in
    let holes = map (λ p. hole_bytes s m p.hole) h.holes in
    ap (λ hs. by hs file places rs) hd
    ∙ ap (λ xs. by head xs places rs) f
    ∙ ap (λ qs. by head own qs rs) (ps ∙ places_told s m (member_by p t.member) (array_in p.types) (members_in p t.windows.now) t.choice i.sound.shown i.choice)
    ∙ ap (by head own holes) (
    r
    ∙ ap (λ vs. variable_names s m vs ++ variable_names s m (map variable_view t.choice.declared.items)) (assigned_told t.choice h i.choice)
    ∙ ap (λ vs. variable_names s m h.assigned ++ variable_names s m vs) (declared_told t.choice h i.choice)
    ∙ both_names s m h.assigned h.declared
    )
