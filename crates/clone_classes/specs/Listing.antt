-- The windows of a package, and its clone classes.
use Rattle.std.specs.Prelude.{ℕ, suc, Bool, nat_eq, List, [], ◌++◌, ◌∷◌, map}
use Rattle.go_typed.specs.declared.window.Class.{Class}
use Rattle.go_typed.specs.declared.window.Window.{Window}
use Rattle.go_typed.specs.Packages.{PackageView}
use Rattle.clone_window.specs.declared.bounds.Bounds.{Bounds}
use Rattle.clone_window.specs.Windows.{windows}
use Rattle.clone_window.specs.Bodies.{Body, are_same, bodies_of}
use Rattle.clone_window.specs.Fields.{FieldNames, field_text}
use Rattle.clone_classes.specs.Classes.{classes}

-- the windows of functions in order, the first of which has this number
abbrev pub windows_of_all : {T : Type 0} → Bounds → ℕ → List (Body T) → List Window
windows_of_all bounds func [] = []
windows_of_all bounds func (b ∷ bs) = windows bounds func b.root ++ windows_of_all bounds (suc func) bs

-- the clone classes of a package, whose types have fields of these names
abbrev pub listing : {T : Type 0} → (T → T → Bool) → FieldNames T → Bounds → List (Body T) → List (List Window)
listing identical fields bounds bodies = classes (are_same identical fields fields bodies bodies) (windows_of_all bounds 0 bodies)

-- those of a package that the program holds, in which equal numbers stand for identical types
abbrev pub listing_in : Bounds → PackageView → List (List Window)
listing_in bounds p = listing nat_eq (field_text p.types) bounds (bodies_of p.functions)

-- the members of classes
abbrev pub members_of : List Class → List (List Window)
members_of cs = map (λ c. c.members) cs
