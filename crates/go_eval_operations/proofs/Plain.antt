-- Values and parts of strings and slices, by what the operands are.
use Rattle.std.proofs.Common.{◌≡◌, ℤ, Bool, Result, subst, rules}
use Rattle.go_meaning.specs.Values as meant
use Rattle.go_meaning.specs.Values.{nth, whole_of}
use Rattle.go_meaning.specs.Computations.{World}
use Rattle.go_meaning.specs.Operations.{cut}
use Rattle.go_values.specs.declared.value.Value.{Value, Truth, NilSlice, the_lemmas}
use Rattle.go_values.specs.declared.panic.Stop.{Stop}
use Rattle.go_values.specs.Deeds.{IsDone}
use Rattle.go_values.specs.Views.{view}

pub view_truth : (b : Bool) → view (Truth b) ≡ meant.Truth b
view_truth b = search (rules, the_lemmas)

pub view_nil_slice : view NilSlice ≡ meant.NilSlice
view_nil_slice = search (rules, the_lemmas)

-- at equal operands
pub cut_same : (r : Result Value Stop) (w : World) (u v : meant.Value) (i j k l : ℤ) → u ≡ v → i ≡ k → j ≡ l → IsDone r w (cut u i j w) → IsDone r w (cut v k l w)
cut_same r w u v i j k l e f g h =
    subst (λ (x : ℤ). IsDone r w (cut v k x w)) g (subst (λ (x : ℤ). IsDone r w (cut v x j w)) f (subst (λ (x : meant.Value). IsDone r w (cut x i j w)) e h))
