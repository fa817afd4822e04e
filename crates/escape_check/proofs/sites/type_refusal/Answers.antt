use Rattle.std.proofs.Common.{◌∙◌, Some, None, map, sym, ap}
use Rattle.std.specs.List.{list_any}
use Rattle.go_types.specs.Tables.{type_of}
use Rattle.param_choose.specs.Handed.{choice_shown}
use Rattle.escape_check.specs.Places.{Place, sources_in, template_refused, window_place}
use Rattle.escape_check.specs.Shown.{member_view, refused_view}
use Rattle.escape_check.specs.Types.{hidden_types_written, is_local_type, is_taken, local_types_written, written_names}
use Rattle.escape_check.specs.Written.{type_name_view}
use Rattle.escape_check.proofs.AtSites.{first_found, later_found, names_told, refused_with, template_free, template_there}
use Rattle.escape_check.proofs.sites.type_refusal.Goals as goal

pub returns-then-any_local : goal.returns-then-any_local
returns-then-any_local c = λ h e.
    let p = c.args.checked.now in
    let s = sources_in p in
    let tree = type_of p.types.shapes in
    let t = member_view c.args.template.now in
    let told = names_told p (choice_shown c.args.choice.now) h c.deref.result.now (map type_name_view c.in_ok-names.names.items) e (c.deref.ensures.value ∙ c.in_ok-types_of.ensures) c.in_ok-names.ensures in
    let local = c.any_local.ensures ∙ ap (λ xs. list_any (is_local_type s) (map type_name_view xs)) c.deref-2.ensures.value ∙ told (is_local_type s) in
    first_found (template_refused 15 (local_types_written tree s t h)) (template_refused 16 (hidden_types_written tree s t h)) (refused_view c.in_ok-refused_in.field-0) (
    ap Some c.in_ok-refused_in.ensures
    ∙ ap (λ (w : Place). Some (refused_with 15 w)) c.window_place-place.ensures
    ∙ template_there 15 (list_any (is_local_type s) (written_names tree s h)) (window_place s t) (sym local ∙ c.if-any_local.true)
    )

pub returns-then-any_taken : goal.returns-then-any_taken
returns-then-any_taken c = λ h e.
    let p = c.args.checked.now in
    let s = sources_in p in
    let tree = type_of p.types.shapes in
    let t = member_view c.args.template.now in
    let told = names_told p (choice_shown c.args.choice.now) h c.deref.result.now (map type_name_view c.in_ok-names.names.items) e (c.deref.ensures.value ∙ c.in_ok-types_of.ensures) c.in_ok-names.ensures in
    let local = c.any_local.ensures ∙ ap (λ xs. list_any (is_local_type s) (map type_name_view xs)) c.deref-2.ensures.value ∙ told (is_local_type s) in
    let taken = c.any_taken.ensures ∙ ap (λ xs. list_any (is_taken s) (map type_name_view xs)) c.deref-3.ensures.value ∙ told (is_taken s) in
    later_found (template_refused 15 (local_types_written tree s t h)) (template_refused 16 (hidden_types_written tree s t h)) (Some (refused_view c.in_ok-refused_in-2.field-0))
    (template_free 15 (list_any (is_local_type s) (written_names tree s h)) (window_place s t) (sym local ∙ c.if-any_local.false)) (
    ap Some c.in_ok-refused_in-2.ensures
    ∙ ap (λ (w : Place). Some (refused_with 16 w)) c.window_place-place.ensures
    ∙ template_there 16 (list_any (is_taken s) (written_names tree s h)) (window_place s t) (sym taken ∙ c.if-any_taken.true)
    )

pub returns : goal.returns
returns c = λ h e.
    let p = c.args.checked.now in
    let s = sources_in p in
    let tree = type_of p.types.shapes in
    let t = member_view c.args.template.now in
    let told = names_told p (choice_shown c.args.choice.now) h c.deref.result.now (map type_name_view c.in_ok-names.names.items) e (c.deref.ensures.value ∙ c.in_ok-types_of.ensures) c.in_ok-names.ensures in
    let local = c.any_local.ensures ∙ ap (λ xs. list_any (is_local_type s) (map type_name_view xs)) c.deref-2.ensures.value ∙ told (is_local_type s) in
    let taken = c.any_taken.ensures ∙ ap (λ xs. list_any (is_taken s) (map type_name_view xs)) c.deref-3.ensures.value ∙ told (is_taken s) in
    later_found (template_refused 15 (local_types_written tree s t h)) (template_refused 16 (hidden_types_written tree s t h)) None
    (template_free 15 (list_any (is_local_type s) (written_names tree s h)) (window_place s t) (sym local ∙ c.if-any_local.false))
    (template_free 16 (list_any (is_taken s) (written_names tree s h)) (window_place s t) (sym taken ∙ c.if-any_taken.false))
