-- What the tokens mean at which names of locals stand in a typed tree (Go specification: Declarations and scope).
use Rattle.std.specs.Prelude.{◌≡◌, ℕ, Option, Some}
use Rattle.go_tree.specs.declared.object.Object.{Object}
use Rattle.go_tree.specs.declared.object.Object.TheVariants as object
use Rattle.go_types.specs.Trees.{TypeTree}
use Rattle.go_typed.specs.declared.form.Form.{Form}
use Rattle.go_typed.specs.declared.form.Form.TheVariants as form
use Rattle.go_typed.specs.Trees.{Typed, typed, Typeds, none, more, skip}

-- a token that means the local of this number
abbrev pub MeansLocal : Option Object → ℕ → Type 0
MeansLocal (Some (object.Local f n)) k = n ≡ k
MeansLocal o k = ⊥

-- A local that is named or declared at a token is the one that the token means.
abbrev pub NameMeans : (ℕ → Option Object) → Form → ℕ → Type 0
NameMeans objects (form.Local k) i = MeansLocal (objects i) k
NameMeans objects (form.New k) i = MeansLocal (objects i) k
NameMeans objects (form.Declared k) i = MeansLocal (objects i) k
NameMeans objects f i = Unit {0}

-- so it is at each node
abbrev mutual
  pub NamesMean : (ℕ → Option Object) → Typed TypeTree → Type 0
  NamesMean objects (typed f i j l ps) = NameMeans objects f i × AllNamesMean objects ps

  pub AllNamesMean : (ℕ → Option Object) → Typeds TypeTree → Type 0
  AllNamesMean objects none = Unit {0}
  AllNamesMean objects (more p ps) = NamesMean objects p × AllNamesMean objects ps
  AllNamesMean objects (skip ps) = AllNamesMean objects ps
