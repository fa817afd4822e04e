-- What every hash of windows may rest on, and the windows of one function with their numbers.
use Rattle.std.specs.Prelude.{◌≡◌, ℕ, Bool, true, List, [], map, Option, Some, None, slice_get}
use Rattle.go_typed.specs.declared.window.Window.{Window}
use Rattle.go_typed.specs.Packages.{PackageView}
use Rattle.go_print.specs.Printed.{printed}
use Rattle.clone_window.specs.declared.bounds.Bounds.{Bounds}
use Rattle.clone_window.specs.declared.outline.Outline.{Outline}
use Rattle.clone_window.specs.Windows.{windows}
use Rattle.clone_window.specs.Bodies.{Body, are_same, bodies_of}
use Rattle.clone_window.specs.Fields.{field_text}
use Rattle.alpha_hash_defs.specs.Packages.{object_text}

-- Identical types of the two packages have one text, and what names of objects show has one name.
pub record ShareNames (identical : ℕ → ℕ → Bool) (p q : PackageView) : Type 0 where
  pub types : (t u : ℕ) → identical t u ≡ true → printed p t ≡ printed q u
  pub objects : (o : Outline) → object_text p o ≡ object_text q o

-- A number for each window that doesn't tell windows apart that are the same. In one package, where equal numbers stand for
-- identical types, nothing else is asked: types of one number have one text, and objects one name.
abbrev pub IsLawful : (PackageView → Window → ℕ) → Type 0
IsLawful number =
    (identical : ℕ → ℕ → Bool) (p q : PackageView) → ShareNames identical p q → (w v : Window) →
    are_same identical (field_text p.types) (field_text q.types) (bodies_of p.functions) (bodies_of q.functions) w v ≡ true → number p w ≡ number q v

-- the windows of a function, none where it is not there
abbrev pub windows_there : Bounds → ℕ → Option (Body ℕ) → List Window
windows_there bounds func None = []
windows_there bounds func (Some b) = windows bounds func b.root

-- the windows of the function of this number
abbrev pub windows_of_func : Bounds → List (Body ℕ) → ℕ → List Window
windows_of_func bounds bodies func = windows_there bounds func (slice_get bodies func)

-- windows with their numbers
abbrev pub numbered : (Window → ℕ) → List Window → List (Window × ℕ)
numbered number ws = map (λ w. (w, number w)) ws
