-- Windows of functions that stay as they are in a package with one function more.
use Rattle.std.specs.Prelude.{◌≡◌, ℕ, false, List, ◌∷◌, ◌++◌, length, map, Some, Result, Ok, Err, slice_get}
use Rattle.go_types.specs.Relations.{Rights}
use Rattle.go_types.specs.Trees.{TypeTree}
use Rattle.go_types_relations.specs.Identity.{is_identical}
use Rattle.go_typed.specs.Contents.{FuncContent}
use Rattle.go_typed.specs.declared.window.Window.{Window}
use Rattle.go_exprs_rules.specs.declared.fault.TypeFault.{TypeFault}
use Rattle.go_exprs_elsewhere.specs.Elsewhere.{referent_moved}
use Rattle.go_package_defs.specs.Bodies.{Behind, Surroundings, typed_function}
use Rattle.go_package_defs.specs.Declarations.{Specification}
use Rattle.go_package_defs.specs.Sources.{Package}
use Rattle.go_heads_added.specs.Added.{Gap, beyond}
use Rattle.go_package_added.specs.OneMore.{function_moves}
use Rattle.clone_window.specs.Bodies.{Body, are_same, statements_at}
use Rattle.clone_window.specs.Fields.{field_by}
use Rattle.clone_window.specs.Masses.{masses}
use Rattle.clone_window.specs.Windows.{windows}
use Rattle.clone_window.specs.declared.bounds.Bounds.{Bounds}
use Rattle.clone_classes.specs.Classes.{classes}
use Rattle.clone_classes.specs.Listing.{windows_of_all}
use Rattle.clone_window_added.specs.Reworded.{body_reworded, window_in}

-- a function as windows see it, over the types themselves
abbrev pub body_in : FuncContent → Body TypeTree
body_in f = record { locals = f.locals; root = f.tree }

-- the function with the new numbers of functions
abbrev pub renumbered : Gap → Body TypeTree → Body TypeTree
renumbered g b = body_reworded (λ t. t) (referent_moved (function_moves g)) b

-- the window in its function under its new number
abbrev pub window_beyond : Gap → Window → Window
window_beyond g w = window_in (beyond g.functions) w

-- A function with its types in front of the appended one and behind it, and the same with the appended one: the locals stand for the same, and the
-- tree has the new numbers of functions; or the same fault is reported of it.
abbrev pub StaysBody : Gap → Result Behind TypeFault → Result Behind TypeFault → Type 0
StaysBody g (Ok b) (Ok c) = (body_in c.function ≡ renumbered g (body_in b.function)) × (c.rights ≡ b.rights)
StaysBody g (Err f) (Err e) = e ≡ f
StaysBody g r q = ⊥

abbrev pub KeepsBody : Package → Package → Gap → Surroundings → Surroundings → Specification → Type 0
KeepsBody p q g a b d = (rights : Rights) (number : ℕ) → StaysBody g (typed_function p a rights number d) (typed_function q b rights (beyond g.functions number) d)

-- The functions of a package, in front of the appended one and behind it, and the same with a function between, whatever that is.
abbrev pub with_between : Gap → Body TypeTree → List (Body TypeTree) → List (Body TypeTree) → List (Body TypeTree)
with_between g f front rest = map (renumbered g) front ++ f ∷ map (renumbered g) rest

-- Windows of the old functions stand in them under their new numbers, with the same masses. They are the same with one another exactly where
-- they were, so that they make the same classes among themselves.
pub record KeepsWindows (g : Gap) (f : Body TypeTree) (front rest : List (Body TypeTree)) : Type 0 where
  pub windows : (bounds : Bounds) → windows_of_all bounds 0 (with_between g f front rest)
      ≡ map (window_beyond g) (windows_of_all bounds 0 front) ++ (windows bounds g.functions f.root ++ map (window_beyond g) (windows_of_all bounds g.functions rest))
  pub masses : (w : Window) → masses false (statements_at (slice_get (with_between g f front rest) (beyond g.functions w.func)) (window_beyond g w)) ≡ masses false (statements_at (slice_get (front ++ rest) w.func) w)
  pub same : (rights : Rights) (w v : Window) → are_same is_identical (field_by rights) (field_by rights) (with_between g f front rest) (with_between g f front rest) (window_beyond g w) (window_beyond g v)
      ≡ are_same is_identical (field_by rights) (field_by rights) (front ++ rest) (front ++ rest) w v
  pub classes : (rights : Rights) (ws : List Window) → classes (are_same is_identical (field_by rights) (field_by rights) (with_between g f front rest) (with_between g f front rest)) (map (window_beyond g) ws)
      ≡ map (map (window_beyond g)) (classes (are_same is_identical (field_by rights) (field_by rights) (front ++ rest) (front ++ rest)) ws)

-- ---- all functions of a package

-- The function declares no types, so that the right sides behind it are those in front of it.
abbrev pub AddsNoRights : Package → Surroundings → ℕ → Specification → Type 0
AddsNoRights p a number d = (rights : Rights) (b : Behind) → typed_function p a rights number d ≡ Ok b → b.rights ≡ rights

-- The functions of a package, and those of the package with one more: this one stands at its number, and in front of it and behind it stand the
-- functions that there were, under their new numbers. So their windows stay.
pub record StaysBetween (g : Gap) (were are : List FuncContent) : Type 0 where
  pub front : List (Body TypeTree)
  pub rest : List (Body TypeTree)
  pub function : FuncContent
  pub was : map body_in were ≡ front ++ rest
  pub is : map body_in are ≡ with_between g (body_in function) front rest
  pub itself : slice_get are g.functions ≡ Some function
  pub place : length front ≡ g.functions
  pub windows : KeepsWindows g (body_in function) front rest
