use Rattle.std.proofs.Common.{◌≡◌, Some, refl, ap, sym, ◌∙◌}
use Rattle.std.specs.Prelude.{slice_get, Option}
use Rattle.go_types.specs.Trees.{declared}
use Rattle.go_typed.specs.declared.form.Referent.{Referent}
use Rattle.go_typed.specs.Scopes.{EnvView}
use Rattle.go_package_defs.specs.Knowledge.{referent_there}
use Rattle.go_package_defs.specs.Verdicts.{number_of_type}
use Rattle.go_package_rounds.proofs.judge.own_type.Goals as goal

pub returns-clause-known : goal.returns-clause-known
returns-clause-known c = (c.requires.named c.in-Some.place c.in-Some-named_type.named (sym c.named_type.ensures ∙ c.in-Some-named_type.is)).0

pub returns-clause-is : goal.returns-clause-is
returns-clause-is c =
    let n = c.args.number in
    let here = sym (ap (λ (e : EnvView). slice_get e.referents n) c.requires.env) ∙ c.in-Some.ensures in
    (c.requires.named c.in-Some.place c.in-Some-named_type.named (sym c.named_type.ensures ∙ c.in-Some-named_type.is)).1
    ∙ sym (ap (λ (o : Option Referent). declared (number_of_type (referent_there o))) here)
