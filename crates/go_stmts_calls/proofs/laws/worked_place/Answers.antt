use Rattle.std.proofs.Common.{refl, inl, arith, nat_eq, false}
use Rattle.go_tree.specs.Predeclared.{known_names}
use Rattle.std.specs.Fmt.{digits}
use Rattle.go_stmts_calls.specs.Facts.{result}
use Rattle.go_stmts_calls.proofs.Quiet.{first_quiet}
use Rattle.go_stmts_calls.proofs.laws.worked_place.Goals as goal

pub returns : goal.returns
unfolding known_names digits
returns c = record {
  in_order = ((((tt, tt), tt), (((tt, (tt, tt)), tt), tt)), tt);
  statements = ((refl, refl), tt);
  no_types = ((refl, ((refl, tt), ((refl, ((refl, tt), ((refl, tt), tt))), tt))), tt);
  results_declared = (refl, inl (inl ((refl, refl), ((refl, ((refl, tt), ((refl, tt), tt))), tt)), tt), tt);
  others_stay = λ k e n. ((refl, ((first_quiet (nat_eq 1 k) false n, tt), ((refl, ((refl, tt), ((refl, tt), tt))), tt))), tt);
  written = (
    record { counts = refl; means = (0, refl); spells = refl; within = tt },
    (
      result (record { local = 1; counts = refl; means = (0, refl); is = inl (refl, refl, refl); room = refl }),
      tt,
      record { means = refl; stands = λ n. refl },
      (record { local = 0; counts = refl; stays = refl; means = (0, refl); stands = refl }, (record { read = omega arith; reads = refl; kind = refl; range = refl }, tt)),
    ),
  );
}
