-- Windows of functions that stay as they are, with one another.
use Rattle.std.proofs.Common.{◌≡◌, ◌∙◌, ℕ, Bool, List, map, ap, refl}
use Rattle.go_exprs_elsewhere.specs.Elsewhere.{referent_moved}
use Rattle.go_heads_added.specs.Added.{Gap, beyond}
use Rattle.go_package_added.specs.OneMore.{function_moves}
use Rattle.go_package_defs.specs.Checked.{Typing}
use Rattle.go_package_defs.specs.Sources.{Source}
use Rattle.go_typed.specs.declared.form.Referent.{Referent}
use Rattle.go_typed.specs.declared.window.Window.{Window}
use Rattle.go_types.specs.Relations.{Rights}
use Rattle.go_types.specs.Trees.{TypeTree}
use Rattle.go_types_relations.specs.Identity.{is_identical}
use Rattle.clone_window.specs.Bodies.{Body, are_same}
use Rattle.clone_window.specs.Fields.{field_by}
use Rattle.clone_window_added.specs.Extended.{IsExtended, KeepsClasses, KeepsTypes, StaysAsItIs}
use Rattle.clone_window_added.specs.Reworded.{IsRewording, StaysThere}
use Rattle.clone_window_added.specs.Unchanged.{body_in, window_beyond}
use Rattle.clone_window_added.proofs.Classes.{classes_kept}
use Rattle.clone_window_added.proofs.Compared.{windows_same}
use Rattle.clone_window_added.proofs.Placed.{objects_apart}

module _ (k : ℕ) (ss ms us : List Source) (names others : List (List ℕ)) (t z : Typing) (h : IsExtended k ss ms us names others t z)
    (typed : (n : ℕ) → StaysAsItIs k ss ms us names others t z h n → KeepsTypes h.keeps.gap n ss us t z) (all : z.bodies.rights ≡ t.bodies.rights) where
  abbrev g : Gap
  g = h.keeps.gap

  abbrev anew : Referent → Referent
  anew o = referent_moved (function_moves g) o

  abbrev old : List (Body TypeTree)
  old = map body_in t.bodies.functions

  abbrev new : List (Body TypeTree)
  new = map body_in z.bodies.functions

  abbrev Stays : Window → Type 0
  Stays w = StaysAsItIs k ss ms us names others t z h w.func

  abbrev same_old : Rights → Window → Window → Bool
  same_old rights w v = are_same is_identical (field_by rights) (field_by rights) old old w v

  abbrev same_new : Rights → Window → Window → Bool
  same_new rights w v = are_same is_identical (field_by rights) (field_by rights) new new w v

  rewording : (rights : Rights) → IsRewording (λ (y : TypeTree). y) anew is_identical is_identical (field_by rights) (field_by rights)
  rewording rights = record { types = λ y u. refl; members = λ y i. refl; objects = objects_apart g }

  stay : (w : Window) → Stays w → StaysThere (λ (y : TypeTree). y) anew (beyond g.functions) old new w
  stay w s = (typed w.func s).function

  same_by : (rights : Rights) (w v : Window) → Stays w → Stays v → same_new rights (window_beyond g w) (window_beyond g v) ≡ same_old rights w v
  same_by rights w v s r =
      windows_same (λ (y : TypeTree). y) anew is_identical is_identical (field_by rights) (field_by rights) (rewording rights) (beyond g.functions) old new w v (stay w s) (stay v r)

  same_here : (w v : Window) → Stays w → Stays v → same_new z.bodies.rights (window_beyond g w) (window_beyond g v) ≡ same_old t.bodies.rights w v
  same_here w v s r = ap (λ rights. same_new rights (window_beyond g w) (window_beyond g v)) all ∙ same_by t.bodies.rights w v s r

  pub keeps_classes : KeepsClasses k ss ms us names others t z h
  keeps_classes = record {
    same = same_here;
    classes = λ ws s. classes_kept (window_beyond g) (same_old t.bodies.rights) (same_new z.bodies.rights) Stays same_here ws s;
  }
