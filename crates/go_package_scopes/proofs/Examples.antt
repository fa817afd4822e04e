-- The worked function and window.
use Rattle.std.proofs.Common.{◌≡◌, ◌⊎◌, inl, inr, ℕ, zero, suc, ◌<◌, ◌≤◌, [], ◌∷◌, None, Some, refl, arith}
use Rattle.go_typed.specs.Trees.{first_of, last_of}
use Rattle.go_meaning_simulation.specs.Locals.{In}
use Rattle.extract_runs.specs.PackageExamples.{second, body}
use Rattle.go_stmts_scopes.specs.Examples.{all_locals}
use Rattle.go_stmts_scopes.specs.Standing.{Covers, AnyDeclares, Declares}
use Rattle.go_package_scopes.specs.Examples.{Examples, the_variable, declaring, lacking, window}
use Rattle.go_package_scopes.specs.Own.{extents_of, IsUsed, IsDeclaredHere, NamesAreOwn}

-- the tokens at which the variable is declared, read and written
here : IsDeclaredHere declaring 0 3 0
here = record { it = the_variable; there = refl; here = refl }

at_seven : IsUsed declaring 0 7 0
at_seven = record { it = the_variable; there = refl; variable = refl; elsewhere = λ e. omega (arith, e) }

at_nine : IsUsed declaring 0 9 0
at_nine = record { it = the_variable; there = refl; variable = refl; elsewhere = λ e. omega (arith, e) }

at_thirteen : IsUsed declaring 0 13 0
at_thirteen = record { it = the_variable; there = refl; variable = refl; elsewhere = λ e. omega (arith, e) }

at_fifteen : IsUsed declaring 0 15 0
at_fifteen = record { it = the_variable; there = refl; variable = refl; elsewhere = λ e. omega (arith, e) }

second_names : NamesAreOwn all_locals [] declaring 0 0 second
second_names = (tt, ((refl, (tt, refl), tt), tt), (((at_seven, refl), tt, tt), ((tt, tt, (((at_nine, refl), tt, tt), ((tt, tt, tt), tt))), tt)))

names : NamesAreOwn all_locals [] declaring 0 0 body
names = (
  tt,
  tt,
  (
    (
      tt,
      tt,
      (
        (tt, (tt, tt), (((here, refl), tt, tt), ((tt, tt, tt), tt))),
        (second_names, ((tt, ((refl, (tt, refl), tt), tt), (((at_thirteen, refl), tt, tt), ((tt, tt, (((at_fifteen, refl), tt, tt), ((tt, tt, tt), tt))), tt))), tt)),
      ),
    ),
    tt,
  ),
)

declared : (k m : ℕ) → first_of body ≤ m → m < last_of body → Covers (extents_of declaring 0 0) k m → In k [] ⊎ Declares k body
declared zero m l c o = inr (inr (inl (inr (inl (inr (inl (inl refl)))))))
declared (suc k) m l c o = absurd (let e = o.is in cc)

declared_in_window : (k m : ℕ) → 6 ≤ m → m < 12 → Covers (extents_of declaring 0 0) k m → In k (0 ∷ []) ⊎ AnyDeclares k window
declared_in_window zero m l c o = inl (inl refl)
declared_in_window (suc k) m l c o = absurd (let e = o.is in cc)

lacks : IsDeclaredHere lacking 0 3 0 → ⊥
lacks h = let e : None ≡ Some h.it = h.there in cc

pub worked : Examples
worked = record {
  function_names = record { names = names; declared = declared };
  run = inr (inl (refl, (refl, refl)));
  window_names = record { names = (second_names, tt); exits = ((tt, ((tt, tt), ((tt, ((tt, tt), ((tt, tt), tt))), tt))), tt); declared = declared_in_window };
  unknown = λ h. lacks h.names.2.0.2.0.2.0.0.0;
}
