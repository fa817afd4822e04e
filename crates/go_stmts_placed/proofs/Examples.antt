-- The worked functions.
use Rattle.std.proofs.Common.{◌≡◌, Option, Some, None, refl}
use Rattle.go_types.specs.Trees.{integer}
use Rattle.go_ints.specs.declared.kinds.Kind.TheVariants as integer_kind
use Rattle.go_typed.specs.Trees as sort
use Rattle.go_exprs_rules.specs.Sorts.{Stands}
use Rattle.go_stmts_placed.specs.Examples.{Examples}

no_local : {X : Type 0} (x : Stands) → (let o : Option (Option Stands) = Some None in o) ≡ Some (Some x) → X
no_local x e = cc

abbrev byte : Stands
byte = sort.Value (integer integer_kind.Int8)

pub worked : Examples
worked = record {
  returns = (tt, tt, ((tt, ((tt, ((tt, ((refl, tt), ((tt, tt), tt))), tt)), ((tt, tt), tt))), ((tt, tt, ((tt, tt, ((((byte, refl), tt), tt), tt)), tt)), tt)));
  shadows = (
    tt,
    tt,
    (
      (tt, ((tt, ((tt, ((refl, tt), ((tt, tt), tt))), tt)), tt)),
      (
        (
          tt,
          tt,
          (
            (
              tt,
              tt,
              (
                (tt, tt, ((tt, tt, ((((refl, tt), tt), tt), ((((byte, refl), tt), tt), tt))), ((tt, tt), tt))),
                ((tt, tt, ((tt, tt, (((((byte, refl), tt), tt), tt), ((((byte, refl), tt), tt), tt))), tt)), (tt, tt)),
              ),
            ),
            tt,
          ),
        ),
        tt,
      ),
    ),
  );
  ranges = (
    tt,
    tt,
    (
      (tt, ((tt, ((tt, ((refl, tt), ((tt, tt), tt))), tt)), tt)),
      (
        (
          tt,
          tt,
          (
            (
              tt,
              refl,
              (
                (tt, tt, ((((refl, tt), tt), tt), (((byte, refl), tt), tt))),
                ((tt, tt, ((tt, tt, (((((byte, refl), tt), tt), tt), ((((byte, refl), tt), tt), tt))), tt)), tt),
              ),
            ),
            tt,
          ),
        ),
        tt,
      ),
    ),
  );
  undeclared = λ h. no_local h.2.1.0.2.0.2.0.0.0.0 h.2.1.0.2.0.2.0.0.0.1;
  sooner = λ h. no_local h.2.1.0.2.0.2.0.2.0.2.1.0.0.0.0 h.2.1.0.2.0.2.0.2.0.2.1.0.0.0.1;
}
