use Rattle.std.proofs.Common.{◌≡◌, ◌∙◌, ℕ, ◌++◌, map, Option, OnOk, sym, ap, subst}
use Rattle.std.proofs.lemmas.Option.{slice_get-map}
use Rattle.std.specs.Option.{option_map}
use Rattle.go_scopes_lookup.specs.Views.{place_of}
use Rattle.param_choose.specs.Holes.{Hole}
use Rattle.param_choose.specs.Shown.{hole_view}
use Rattle.escape_check.specs.Places.{sources_in}
use Rattle.escape_check.specs.Shown.{member_view}
use Rattle.extract_texts.specs.Shown.{place_at}
use Rattle.extract_texts.proofs.function.push_numbered.Goals as goal

pub returns : goal.returns
returns c =
    let s = sources_in c.args.checked.now in
    let m = member_view c.args.member.now in
    let there = ap (option_map hole_view) (sym c.hole_at.ensures) ∙ sym (slice_get-map hole_view c.args.holes.now c.args.number) in
    subst (λ (o : Option (Hole ℕ)). OnOk c.push_span.result (map place_of c.push_span.new.spans.items ≡ map place_of c.args.spans.now.items ++ place_at s m o)) there c.push_span.ensures
