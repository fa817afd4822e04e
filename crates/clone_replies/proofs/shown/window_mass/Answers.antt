use Rattle.std.proofs.Common.{◌∙◌, ap}
use Rattle.std.specs.Option.{option_map}
use Rattle.clone_replies.proofs.Masses.{mass-told, mass-none}
use Rattle.clone_replies.proofs.shown.window_mass.Goals as goal

pub returns-in-Some : goal.returns-in-Some
returns-in-Some c =
    c.mass.ensures
    ∙ mass-told c.args.checked.now c.args.window c.in-Some.f.now (c.function.ensures ∙ ap (option_map (λ f. f.now)) c.in-Some.is) c.root-root.ensures.stands.nodes

pub returns-in-None : goal.returns-in-None
returns-in-None c = mass-none c.args.checked.now c.args.window (c.function.ensures ∙ ap (option_map (λ f. f.now)) c.in-None.is)
