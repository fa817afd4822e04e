use Rattle.std.proofs.Common.{subst}
use Rattle.std.proofs.lemmas.Bool.{eqb-true, eq-eqb}
use Rattle.go_types.specs.Tables.{IsTable}
use Rattle.go_types.proofs.TypeNumbers.{number_from_identical, identical_from_number}
use Rattle.go_types.proofs.types.Types.identical.Goals as goal

pub returns : goal.returns
returns c =
    let ok : IsTable c.args.self.now = subst IsTable c.self.view_is c.self.invariant.kept.resolved.table in
    (λ h. identical_from_number c.args.self.now c.args.a c.args.b (eqb-true c.args.a c.args.b h), λ h. eq-eqb c.args.a c.args.b (number_from_identical c.args.self.now ok c.args.a c.args.b c.requires.left c.requires.right h))
