-- What holds of the typed functions of a package that type-checks (Go specification: Blocks, Declarations and scope).
use Rattle.std.specs.Prelude.{◌≡◌, ℕ, ◌+◌, true, List, [], ◌∷◌, Some}
use Rattle.go_tree.specs.declared.object.Declared.{Declared}
use Rattle.go_tree.specs.declared.object.Object.TheVariants as object
use Rattle.go_tree.specs.Uses.{UsesView, object_of, local_of, is_within}
use Rattle.go_types.specs.Trees.{TypeTree}
use Rattle.go_typed.specs.declared.form.Form.{Form}
use Rattle.go_typed.specs.declared.form.Form.TheVariants as form
use Rattle.go_typed.specs.Contents.{FuncContent}
use Rattle.go_typed.specs.Trees.{Typed, typed, Typeds, none, more, skip}
use Rattle.go_stmts_scopes.specs.Shapes.{IsFunction}
use Rattle.go_stmts_scopes.specs.Standing.{Exits, no_exits, exits_in}

-- ---- shapes

abbrev pub HaveShape : List FuncContent → Type 0
HaveShape [] = Unit {0}
HaveShape (f ∷ fs) = IsFunction f.tree × HaveShape fs

-- ---- names

-- what holds of each local that is named or declared, with the token that it stands at
abbrev pub NameHas : (ℕ → ℕ → Type 0) → Form → ℕ → Type 0
NameHas Q (form.Local k) i = Q i k
NameHas Q (form.New k) i = Q i k
NameHas Q (form.Declared k) i = Q i k
NameHas Q f i = Unit {0}

abbrev mutual
  pub EachName : (ℕ → ℕ → Type 0) → Typed TypeTree → Type 0
  EachName Q (typed f i j l ps) = NameHas Q f i × EachNames Q ps

  pub EachNames : (ℕ → ℕ → Type 0) → Typeds TypeTree → Type 0
  EachNames Q none = Unit {0}
  EachNames Q (more p ps) = EachName Q p × EachNames Q ps
  EachNames Q (skip ps) = EachNames Q ps

-- The token t of the file n means a local, whose number this is in its function. It is declared, and the token is its name or one of those
-- where the name is in scope.
pub record IsInScope (u : UsesView) (n t k : ℕ) : Type 0 where
  pub function : ℕ
  pub meant : object_of u n t ≡ Some (object.Local function k)
  pub declared : Declared
  pub there : local_of u function k ≡ Some declared
  pub within : is_within declared n t ≡ true

-- The function begins at a token of a file, and each local that it names or declares is in scope at its token.
pub record HasNamesInScope (u : UsesView) (f : FuncContent) : Type 0 where
  pub file : ℕ
  pub first : ℕ
  pub names : EachName (λ i k. IsInScope u file (first + i) k) f.tree

abbrev pub HaveNamesInScope : UsesView → List FuncContent → Type 0
HaveNamesInScope u [] = Unit {0}
HaveNamesInScope u (f ∷ fs) = HasNamesInScope u f × HaveNamesInScope u fs

-- ---- branches

-- Where it is so told which branches may stand, one of them does (Go specification: Break statements, Continue statements, Fallthrough
-- statements).
abbrev pub MayLead : Exits → Form → Type 0
MayLead e form.Break = e.breaks ≡ true
MayLead e form.Continue = e.continues ≡ true
MayLead e form.Fallthrough = e.falls ≡ true
MayLead e f = Unit {0}

abbrev mutual
  -- each branch of the tree stands in what it leaves
  pub BranchesStand : Exits → Typed TypeTree → Type 0
  BranchesStand e (typed f i j l ps) = MayLead e f × AllBranchesStand (exits_in e f) ps

  pub AllBranchesStand : Exits → Typeds TypeTree → Type 0
  AllBranchesStand e none = Unit {0}
  AllBranchesStand e (more p ps) = BranchesStand e p × AllBranchesStand e ps
  AllBranchesStand e (skip ps) = AllBranchesStand e ps

-- no branch leads out of a function
abbrev pub HaveBranches : List FuncContent → Type 0
HaveBranches [] = Unit {0}
HaveBranches (f ∷ fs) = BranchesStand no_exits f.tree × HaveBranches fs
