use Rattle.std.proofs.Common.{◌≡◌, ◌∙◌, Some, slice_get, ap}
use Rattle.std.specs.Option.{option_map}
use Rattle.escape_check.proofs.Sparing.{kept_at}
use Rattle.escape_check.proofs.keeping.leaves_end.Goals as goal

pub returns-in-Some-Some : goal.returns-in-Some-Some
returns-in-Some-Some c = λ e t fs f h at.
    let there : slice_get c.args.ends.now c.args.number ≡ Some (Some c.in-Some-Some.noted) =
    c.noted_of.ensures ∙ ap (option_map (λ o. o.now)) c.in-Some-Some.is ∙ ap Some c.in-Some-Some.field-0-is in
    kept_at t fs c.args.ends.now c.args.number f (Some c.in-Some-Some.noted) h at there c.args.gap (c.spares.ensures e)
