use Rattle.std.proofs.Common.{true, false, lit<}
use Rattle.go_ints.proofs.Wrapped.{wrapped_same}
use Rattle.go_ints.proofs.laws.layouts.Goals as goal

pub returns : goal.returns
returns c = (
  λ z. wrapped_same 8 true z (lit< tt),
  (
    λ z. wrapped_same 16 true z (lit< tt),
    (
      λ z. wrapped_same 32 true z (lit< tt),
      (
        λ z. wrapped_same 64 true z (lit< tt),
        (
          λ z. wrapped_same 8 false z (lit< tt),
          (
            λ z. wrapped_same 16 false z (lit< tt),
            (
              λ z. wrapped_same 32 false z (lit< tt),
              (
                λ z. wrapped_same 64 false z (lit< tt),
                (
                  λ z. wrapped_same 64 true z (lit< tt),
                  (λ z. wrapped_same 64 false z (lit< tt), tt),
                ),
              ),
            ),
          ),
        ),
      ),
    ),
  ),
)
