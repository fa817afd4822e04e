-- The worked window, function and statement.
use Rattle.std.proofs.Common.{◌≡◌, ◌⊎◌, inl, inr, ℕ, zero, suc, ◌<◌, ◌≤◌, [], ◌∷◌, refl, subst, arith}
use Rattle.go_typed.specs.Trees.{first_of, last_of}
use Rattle.go_meaning_simulation.specs.Locals.{In}
use Rattle.extract_trees.specs.Examples.{statements}
use Rattle.extract_runs.specs.PackageExamples.{body}
use Rattle.go_stmts_scopes.specs.Examples.{Examples, all_locals, behind_definition, one_variable, whole_block, behind_window_definition, two_variables, no_variables, assignment}
use Rattle.go_stmts_scopes.specs.Standing.{Covers, BeginsIn, no_exits, Stands, AllStand, Declares, AnyDeclares, StandsInScope}

begins : BeginsIn one_variable behind_definition 0 3
begins s e = let q : behind_definition ≡ s = cc in subst (λ z. (3 ≤ z.from) × (6 ≤ z.from) × (z.to ≤ 20)) q (omega arith, omega arith, omega arith)

-- the tokens at which the variable is read and written
at_seven : Covers one_variable 0 7
at_seven = record { scope = behind_definition; is = refl; begins = omega arith; lasts = omega arith }

at_nine : Covers one_variable 0 9
at_nine = record { scope = behind_definition; is = refl; begins = omega arith; lasts = omega arith }

at_thirteen : Covers one_variable 0 13
at_thirteen = record { scope = behind_definition; is = refl; begins = omega arith; lasts = omega arith }

at_fifteen : Covers one_variable 0 15
at_fifteen = record { scope = behind_definition; is = refl; begins = omega arith; lasts = omega arith }

names : Stands all_locals [] one_variable (record { from = 0; to = 20 }) no_exits 0 20 body
names = (
  omega arith,
  omega arith,
  omega arith,
  tt,
  tt,
  tt,
  (
    (
      omega arith,
      omega arith,
      omega arith,
      tt,
      tt,
      tt,
      (
        (omega arith, omega arith, omega arith, tt, tt, (tt, tt), ((omega arith, omega arith, omega arith, (begins, refl), tt, tt, tt), ((omega arith, omega arith, omega arith, tt, tt, tt, tt), omega arith))),
        (
          (
            omega arith,
            omega arith,
            omega arith,
            tt,
            tt,
            ((refl, (tt, refl), tt), tt),
            (
              (omega arith, omega arith, omega arith, (at_seven, refl), tt, tt, tt),
              ((omega arith, omega arith, omega arith, tt, tt, tt, ((omega arith, omega arith, omega arith, (at_nine, refl), tt, tt, tt), ((omega arith, omega arith, omega arith, tt, tt, tt, tt), omega arith))), omega arith),
            ),
          ),
          (
            (
              omega arith,
              omega arith,
              omega arith,
              tt,
              tt,
              ((refl, (tt, refl), tt), tt),
              (
                (omega arith, omega arith, omega arith, (at_thirteen, refl), tt, tt, tt),
                ((omega arith, omega arith, omega arith, tt, tt, tt, ((omega arith, omega arith, omega arith, (at_fifteen, refl), tt, tt, tt), ((omega arith, omega arith, omega arith, tt, tt, tt, tt), omega arith))), omega arith),
              ),
            ),
            omega arith,
          ),
        ),
      ),
    ),
    omega arith,
  ),
)

begins_in_window : BeginsIn two_variables (record { from = 13; to = 30 }) 1 8
begins_in_window s e = let q : behind_window_definition ≡ s = cc in subst (λ z. (8 ≤ z.from) × (13 ≤ z.from) × (z.to ≤ 30)) q (omega arith, omega arith, omega arith)

at_ten : Covers two_variables 0 10
at_ten = record { scope = whole_block; is = refl; begins = omega arith; lasts = omega arith }

at_fourteen : Covers two_variables 1 14
at_fourteen = record { scope = behind_window_definition; is = refl; begins = omega arith; lasts = omega arith }

at_sixteen : Covers two_variables 1 16
at_sixteen = record { scope = behind_window_definition; is = refl; begins = omega arith; lasts = omega arith }

window_names : AllStand all_locals [] two_variables whole_block no_exits 8 19 statements
window_names = (
  (
    omega arith,
    omega arith,
    omega arith,
    tt,
    tt,
    (tt, tt),
    (
      (omega arith, omega arith, omega arith, (begins_in_window, refl), tt, tt, tt),
      ((omega arith, omega arith, omega arith, tt, tt, tt, ((omega arith, omega arith, omega arith, (at_ten, refl), tt, tt, tt), ((omega arith, omega arith, omega arith, tt, tt, tt, tt), omega arith))), omega arith),
    ),
  ),
  (
    (
      omega arith,
      omega arith,
      omega arith,
      tt,
      tt,
      ((refl, (tt, refl), tt), tt),
      (
        (omega arith, omega arith, omega arith, (at_fourteen, refl), tt, tt, tt),
        ((omega arith, omega arith, omega arith, tt, tt, tt, ((omega arith, omega arith, omega arith, (at_sixteen, refl), tt, tt, tt), ((omega arith, omega arith, omega arith, tt, tt, tt, tt), omega arith))), omega arith),
      ),
    ),
    omega arith,
  ),
)

declared_in_window : (k u : ℕ) → 8 ≤ u → u < 19 → Covers two_variables k u → In k (0 ∷ []) ⊎ AnyDeclares k statements
declared_in_window zero u l c o = inl (inl refl)
declared_in_window (suc zero) u l c o = inr (inl (inr (inl (inl refl))))
declared_in_window (suc (suc k)) u l c o = absurd (let e = o.is in cc)

declared : (k u : ℕ) → first_of body ≤ u → u < last_of body → Covers one_variable k u → In k [] ⊎ Declares k body
declared zero u l c o = inr (inr (inl (inr (inl (inr (inl (inl refl)))))))
declared (suc k) u l c o = absurd (let e = o.is in cc)

unknown : StandsInScope all_locals [] no_variables [] assignment → ⊥
unknown h = absurd (let e = h.names.6.0.3.0.is in cc)

pub worked : Examples
worked = record {
  window_shape = ((refl, (refl, (inr (refl, (inl refl, (inl refl, tt))), tt))), ((refl, (inl refl, (inr (refl, (inl refl, (inl refl, tt))), tt))), tt));
  window = (
    λ out. (refl, ((tt, (((inl refl, refl), tt), (tt, tt))), tt)),
    (λ out. ((refl, ((inl refl, refl), refl), tt), ((tt, (((inl refl, refl), tt), (tt, tt))), tt)), tt),
  );
  behind = refl;
  window_names = record { names = window_names; declared = declared_in_window };
  function_shape = (
    refl,
    ((refl, ((refl, (refl, (inl refl, tt))), ((refl, (inl refl, (inr (refl, (inl refl, (inl refl, tt))), tt))), ((refl, (inl refl, (inr (refl, (inl refl, (inl refl, tt))), tt))), tt)))), tt),
  );
  function = (
    λ out. (
      λ out. (refl, (tt, tt)),
      (λ out. ((refl, ((inl refl, refl), refl), tt), ((tt, (((inl refl, refl), tt), (tt, tt))), tt)), (λ out. ((refl, ((inl refl, refl), refl), tt), ((tt, (((inl refl, refl), tt), (tt, tt))), tt)), tt)),
    ),
    tt,
  );
  function_names = record { names = names; declared = declared };
  unknown_names = unknown;
  assignment_shape = (refl, (inl refl, (inr (refl, (inl refl, (inl refl, tt))), tt)));
  unknown = λ h. h.0.1.0.0;
}
