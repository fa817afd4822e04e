-- What `copy` reads of a string.
use Rattle.std.proofs.Common.{◌≡◌, ℕ, zero, suc, pos, List, [], ◌∷◌, take, refl, sym, ap, ◌∙◌, rules}
use Rattle.go_meaning.specs.Values as meant
use Rattle.go_meaning.specs.Computations.{World}
use Rattle.go_meaning.specs.Operations.{bytes_as_values, source}
use Rattle.go_values.specs.Views.{view}
use Rattle.go_values.specs.declared.value.Value.{Value, Text, the_lemmas}

pub view_text : (bytes : List ℕ) → view (Text bytes) ≡ meant.Text bytes
view_text bytes = search (rules, the_lemmas)

take_bytes : (bytes : List ℕ) (n : ℕ) → bytes_as_values (take n bytes) ≡ take n (bytes_as_values bytes)
take_bytes bytes zero = refl
take_bytes [] (suc n) = refl
take_bytes (b ∷ bytes) (suc n) = ap (λ vs. meant.Whole (pos b) ∷ vs) (take_bytes bytes n)

pub text_read : (v : Value) (bytes front : List ℕ) (n : ℕ) (w : World) → v ≡ Text bytes → front ≡ take n bytes → bytes_as_values front ≡ take n (source (view v) w)
text_read v bytes front n w e f =
    let is : meant.Text bytes ≡ view v = sym (ap view e ∙ view_text bytes) in
    ap bytes_as_values f ∙ take_bytes bytes n ∙ ap (λ u. take n (source u w)) is
