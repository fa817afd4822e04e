-- The worked examples.
use Rattle.std.proofs.Common.{◌≡◌, false, true, refl}
use Rattle.go_stmts_final_types.specs.Examples.{Examples}

no_truth : {X : Type 0} → false ≡ true → X
no_truth e = cc

pub worked : Examples
worked = record {
  known = (tt, ((tt, ((tt, ((tt, ((refl, tt), ((record { fit = refl; family = tt; typed = tt }, tt), tt))), tt)), ((record { fit = refl; family = tt; typed = tt }, tt), tt))), ((tt, ((tt, (((record { fit = refl; family = tt; typed = tt }, tt), tt), tt)), tt)), tt)));
  unknown = λ h. no_truth h.1.1.0.1.0.1.0.0.0.fit;
}
