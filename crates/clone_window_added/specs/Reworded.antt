-- Typed trees with other types and with other numbers of the objects of the package, and windows of functions under other numbers.
use Rattle.std.specs.Prelude.{◌≡◌, ℕ, Bool, List, map, slice_get}
use Rattle.std.specs.Option.{option_map}
use Rattle.go_typed.specs.declared.form.Form.{Form}
use Rattle.go_typed.specs.declared.form.Form.TheVariants as form
use Rattle.go_typed.specs.declared.form.Referent.{Referent}
use Rattle.go_typed.specs.declared.window.Window.{Window}
use Rattle.go_typed.specs.Trees.{Typed, typed, Typeds, none, more, skip, sort_mapped, label_mapped}
use Rattle.clone_window.specs.Bodies.{Body}
use Rattle.clone_window.specs.Fields.{FieldNames}
use Rattle.clone_window.specs.Kinds.{referent_outline}
use Rattle.clone_window.specs.Sameness.{same_outline}

-- an object of the package by its other number
abbrev pub form_reworded : (Referent → Referent) → Form → Form
form_reworded r (form.Object o) = form.Object (r o)
form_reworded r f = f

abbrev mutual
  -- the tree with another word for each type, and another number for each object of the package
  pub reworded : {T U : Type 0} → (T → U) → (Referent → Referent) → Typed T → Typed U
  reworded g r (typed f i j l ps) = typed (form_reworded r f) i j (label_mapped g l) (all_reworded g r ps)

  pub all_reworded : {T U : Type 0} → (T → U) → (Referent → Referent) → Typeds T → Typeds U
  all_reworded g r none = none
  all_reworded g r (more p ps) = more (reworded g r p) (all_reworded g r ps)
  all_reworded g r (skip ps) = skip (all_reworded g r ps)

abbrev pub body_reworded : {T U : Type 0} → (T → U) → (Referent → Referent) → Body T → Body U
body_reworded g r b = record { locals = map (sort_mapped g) b.locals; root = reworded g r b.root }

-- Objects that differ have other numbers that differ, and each stays a constant, a type, a variable or a function.
abbrev pub KeepsObjects : (Referent → Referent) → Type 0
KeepsObjects r = (a b : Referent) → same_outline (referent_outline (r a)) (referent_outline (r b)) ≡ same_outline (referent_outline a) (referent_outline b)

-- A test of the other words says which types are identical as the first test does, types have fields of the same names, and the numbers of
-- objects tell these apart.
pub record IsRewording {T U : Type 0} (g : T → U) (r : Referent → Referent) (identical : T → T → Bool) (other : U → U → Bool) (fields : FieldNames T) (names : FieldNames U) : Type 0 where
  pub types : (t u : T) → other (g t) (g u) ≡ identical t u
  pub members : (t : T) (k : ℕ) → names (g t) k ≡ fields t k
  pub objects : KeepsObjects r

-- the window in a function of another number
abbrev pub window_in : (ℕ → ℕ) → Window → Window
window_in to w = record w { func = to w.func }

-- The function of the window has another number among the others, and is there the function that it was, reworded.
abbrev pub StaysThere : {T U : Type 0} → (T → U) → (Referent → Referent) → (ℕ → ℕ) → List (Body T) → List (Body U) → Window → Type 0
StaysThere g r to old new w = slice_get new (to w.func) ≡ option_map (body_reworded g r) (slice_get old w.func)
