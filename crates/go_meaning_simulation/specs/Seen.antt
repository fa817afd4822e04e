-- What a plan sees of the parts of its node: which are there, their types, what sort of callee they are, whether they call, and
-- whether they are default clauses or keyed elements.
use Rattle.std.specs.Prelude.{ℕ, Bool, List, [], ◌∷◌, Option, Some, None}
use Rattle.go_tree.specs.declared.object.Predeclared.{Predeclared}
use Rattle.go_types.specs.Trees.{TypeTree}
use Rattle.go_typed.specs.declared.form.Form.{Form}
use Rattle.go_typed.specs.declared.form.Form.TheVariants as form
use Rattle.go_typed.specs.Forms.{is_default}
use Rattle.go_typed.specs.Trees.{Sort, Println, Builtin, Typed, typed, Typeds, none, more, skip}
use Rattle.go_meaning.specs.Planning.{sort_type}

-- what a callee is that is no function value
pub data Callee : Type 0 where
  Prints : Callee
  Predeclares : Predeclared → Callee
  Applies : Callee

abbrev pub callee_of : Sort TypeTree → Callee
callee_of Println = Prints
callee_of (Builtin b) = Predeclares b
callee_of s = Applies

abbrev pub key_of : Form → Option ℕ
key_of (form.Keyed n) = Some n
key_of f = None

pub record Seen : Type 0 where
  pub type : TypeTree
  pub callee : Callee
  pub calls : Bool
  pub default : Bool
  pub key : Option ℕ

abbrev pub seen_of : Typed TypeTree → Seen
seen_of (typed f i j l ps) = record { type = sort_type l.sort; callee = callee_of l.sort; calls = l.calls; default = is_default f; key = key_of f }

abbrev pub seen : Typeds TypeTree → List (Option Seen)
seen none = []
seen (more p ps) = Some (seen_of p) ∷ seen ps
seen (skip ps) = None ∷ seen ps
