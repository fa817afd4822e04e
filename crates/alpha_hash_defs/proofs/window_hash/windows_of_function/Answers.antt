use Rattle.std.proofs.Common.{◌≡◌, ◌∙◌, List, sym, ap, subst}
use Rattle.std.specs.Prelude.{IfOk}
use Rattle.std.specs.Option.{option_map}
use Rattle.go_typed.specs.declared.window.Window.{Window}
use Rattle.alpha_hash_defs.proofs.Functions.{own-windows, no-windows}
use Rattle.alpha_hash_defs.proofs.window_hash.windows_of_function.Goals as goal

pub returns-in-Some : goal.returns-in-Some
returns-in-Some c =
    subst (λ (ws : List Window). IfOk c.windows_of.result (λ v. v.items ≡ ws))
    (own-windows (record { fewest = c.args.min; least = c.args.mass }) c.args.checked.now.functions c.args.func c.in-Some.f.now c.types-types.ensures.stands.numbers
    (c.function.ensures ∙ ap (option_map (λ f. f.now)) c.in-Some.is))
    c.windows_of.ensures

pub returns-in-None : goal.returns-in-None
returns-in-None c =
    c.new.ensures.items
    ∙ sym (no-windows (record { fewest = c.args.min; least = c.args.mass }) c.args.checked.now.functions c.args.func (c.function.ensures ∙ ap (option_map (λ f. f.now)) c.in-None.is))
