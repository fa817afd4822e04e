use Rattle.std.proofs.Common.{◌≡◌, ◌∙◌, ℕ, ◌++◌, map, Option, OnOk, sym, ap, subst}
use Rattle.std.proofs.lemmas.Option.{slice_get-map}
use Rattle.std.specs.Option.{option_map}
use Rattle.go_print_laws.specs.Calls.{argument_text}
use Rattle.param_choose.specs.Holes.{Hole}
use Rattle.param_choose.specs.Shown.{hole_view}
use Rattle.extract_texts.specs.Texts.{constant_at}
use Rattle.extract_texts.proofs.held.push_numbered.Goals as goal

pub returns : goal.returns
returns c =
    let there = ap (option_map hole_view) (sym c.hole_at.ensures) ∙ sym (slice_get-map hole_view c.args.holes.now c.args.number) in
    subst (λ (o : Option (Hole ℕ)). OnOk c.push_constant.result (c.push_constant.new.texts.items ≡ c.args.texts.now.items ++ map argument_text (constant_at o))) there c.push_constant.ensures
