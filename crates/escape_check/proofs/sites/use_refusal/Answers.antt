use Rattle.std.proofs.Common.{◌≡◌, ◌∙◌, None, List, map, nat_eq, sym, ap}
use Rattle.std.specs.Prelude.{◌&&◌, not, slice_get}
use Rattle.std.specs.HashSet as set
use Rattle.std.specs.Option.{option_map}
use Rattle.go_tree.specs.Units.{Unit}
use Rattle.escape_check.specs.Lookups.{imports, keeps_import, left_unused, lost_imports}
use Rattle.escape_check.specs.Places.{each_refused, sources_in}
use Rattle.escape_check.specs.Shown.{member_view, refused_view}
use Rattle.escape_check.proofs.AtSites.{if_told, imports_each, later_found, unused_each}
use Rattle.escape_check.proofs.sites.use_refusal.Goals as goal

pub returns : goal.returns
returns c = λ h e.
    let s = sources_in c.args.checked.now in
    let d = c.args.declared in
    let t = member_view d.template.now in
    let ms = map member_view c.args.members.now in
    let none : None ≡ each_refused 13 (lost_imports s t ms) ms =
    sym (ap (option_map refused_view) c.in_default.is)
    ∙ c.in_ok-refused.ensures
    ∙ imports_each s t ms ms (set.contains nat_eq c.in_ok-files.files)
    (λ n. c.in_ok-files.ensures n ∙ ap (λ (us : List Unit). imports (slice_get us n) && not (keeps_import s t ms n)) c.requires.units) in
    if_told _ _ (λ r k. later_found (each_refused 13 (lost_imports s t ms) ms) (each_refused 14 (left_unused s t h) ms) (option_map refused_view r) none (k ∙ unused_each s d h ms e))
    c.first_refused-2.result c.first_refused-2.ensures
