-- When nodes that differ in their statements are terminating alike.
use Rattle.std.specs.Prelude.{◌≡◌, ℕ, true, [], ◌∷◌, ◌++◌, Option, Some, None}
use Rattle.go_grammar.specs.declared.kind.Kind.TheVariants as kind
use Rattle.go_types.specs.Trees.{TypeTree}
use Rattle.go_typed.specs.Forms.{is_default}
use Rattle.go_typed.specs.declared.form.Form.{Form}
use Rattle.go_typed.specs.declared.form.Form.TheVariants as form
use Rattle.go_typed.specs.Trees.{Label, typed, Typeds, row, form_of}
use Rattle.go_exprs_rules.specs.Settling.{Part}
use Rattle.go_exprs_rules.specs.Tables.{Parts}
use Rattle.go_stmts_defs.specs.Frames.{Frame}
use Rattle.go_stmts_defs.specs.Laying.{layout}
use Rattle.go_stmts_defs.specs.Rules.{own_faults}
use Rattle.go_stmts_defs.specs.Ending.{terminates, breaks, any_breaks, is_fallthrough}
use Rattle.go_stmts_defs.specs.Targets.{is_panic_call}

-- Two parts end what is around them alike: both are terminating or neither, leave it or don't, are a default clause, a `fallthrough` or a
-- call of `panic` or aren't.
pub record EndAlike (x y : Part) : Type 0 where
  pub ending : terminates y ≡ terminates x
  pub leaving : breaks y ≡ breaks x
  pub default_clause : is_default (form_of y) ≡ is_default (form_of x)
  pub falls : is_fallthrough (form_of y) ≡ is_fallthrough (form_of x)
  pub panics : is_panic_call y ≡ is_panic_call x

-- the same of parts one by one, each there in both or in neither
abbrev pub AllEndAlike : Parts → Parts → Type 0
AllEndAlike [] [] = Unit {0}
AllEndAlike (None ∷ xs) (None ∷ ys) = AllEndAlike xs ys
AllEndAlike (Some x ∷ xs) (Some y ∷ ys) = EndAlike x y × AllEndAlike xs ys
AllEndAlike xs ys = ⊥

-- a node that has a list of statements
abbrev pub HasList : Form → Type 0
HasList form.Block = Unit {0}
HasList (form.Case n) = Unit {0}
HasList form.Default = Unit {0}
HasList f = ⊥

-- Two nodes are terminating alike, and leave what is around them alike.
pub record NodesEndAlike (x y : Part) : Type 0 where
  pub ending : terminates y ≡ terminates x
  pub leaving : breaks y ≡ breaks x

-- nodes of one form over parts that end alike
abbrev pub NodesEnd : Type 0
NodesEnd = (f : Form) (i j a b : ℕ) (u v : Label TypeTree) (xs ys : Parts) → AllEndAlike xs ys → NodesEndAlike (typed f i j u (row xs)) (typed f a b v (row ys))

-- Lists of any statements whose last ones end alike, and that are left alike.
abbrev pub ListsEnd : Type 0
ListsEnd = (f : Form) → HasList f → (i j a b : ℕ) (u v : Label TypeTree) (xs ys : Parts) (s t : Part) → EndAlike s t → any_breaks (row ys) ≡ any_breaks (row xs) →
    NodesEndAlike (typed f i j u (row (xs ++ Some s ∷ []))) (typed f a b v (row (ys ++ Some t ∷ [])))

-- The rule on missing returns doesn't fail at a function whose block is terminating; g is its signature.
abbrev pub FunctionsEnd : Type 0
FunctionsEnd = (s : Frame) (i j : ℕ) (g : Option Part) (b : Part) → terminates b ≡ true → own_faults s kind.FunctionDeclaration form.Function i j (layout s kind.FunctionDeclaration i (g ∷ Some b ∷ [])) ≡ []

-- A block that ends in `return` is terminating.
abbrev pub ReturnsEnd : Type 0
ReturnsEnd = (i j a b : ℕ) (u v : Label TypeTree) (xs : Parts) (ps : Typeds TypeTree) → terminates (typed form.Block i j u (row (xs ++ Some (typed form.Return a b v ps) ∷ []))) ≡ true
