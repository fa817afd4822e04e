-- Statements that hold no others, and are lexically scoped (Go specification: Statements).
use Rattle.std.specs.Prelude.{◌≡◌, ℕ, zero, suc, Bool, true, false, List, Some}
use Rattle.go_grammar.specs.declared.kind.Kind.{Kind}
use Rattle.go_grammar.specs.declared.kind.Kind.TheVariants as kind
use Rattle.go_grammar.specs.Categories.{is_expression, is_post}
use Rattle.go_grammar.specs.Trees.{Tree, node, Trees, kind_of}
use Rattle.go_grammar.specs.Trees as syntax
use Rattle.go_types.specs.Trees.{TypeTree}
use Rattle.go_types.specs.Relations.{Rights}
use Rattle.go_typed.specs.declared.form.Form.{Form}
use Rattle.go_typed.specs.declared.form.Form.TheVariants as form
use Rattle.go_typed.specs.Trees.{Nothing, Label, Typed, typed, Typeds, none, more, skip}
use Rattle.go_exprs_rules.specs.Settling.{Part}
use Rattle.go_stmts_defs.specs.Reading.{Reading, read}
use Rattle.go_meaning_simulation.specs.Links.{Ways}
use Rattle.go_meaning_simulation.specs.Locals.{In}
use Rattle.extract_runs.specs.Lexical.{Locals, lexical_links}
use Rattle.extract_runs.specs.Sound.{SoundStatement}
use Rattle.go_stmts_scopes.specs.Runs.{AreExpressions, EachRead, AllRead, EachPlaced, HasBrackets}
use Rattle.go_stmts_scopes.specs.Scoped.{Reads}

-- statements all of whose parts are expressions: expression statements, `x++`, assignments
abbrev pub runs_parts : Form → Bool
runs_parts form.Expression = true
runs_parts (form.Step o) = true
runs_parts (form.Assign n) = true
runs_parts (form.Operate o) = true
runs_parts f = false

-- how many of their first parts are places
abbrev pub places_in : Form → ℕ
places_in (form.Step o) = 1
places_in (form.Assign n) = n
places_in (form.Operate o) = 1
places_in f = 0

-- declarations of constants and types, which do nothing when they are run
abbrev pub declares_only : Form → Bool
declares_only form.Constants = true
declares_only form.TypeNames = true
declares_only f = false

-- The first so many parts are places, and the others are run for their values.
abbrev pub ArePlaced : Rights → (R W : ℕ → Type 0) → ℕ → Typeds TypeTree → Type 0
ArePlaced rights R W n none = Unit {0}
ArePlaced rights R W zero (more p ps) = EachRead R p × ArePlaced rights R W zero ps
ArePlaced rights R W (suc n) (more p ps) = EachPlaced rights R W p × ArePlaced rights R W n ps
ArePlaced rights R W zero (skip ps) = ArePlaced rights R W zero ps
ArePlaced rights R W (suc n) (skip ps) = ArePlaced rights R W n ps

-- These locals are in scope in front of a statement, and a branch may lead to these scopes. It is lexically scoped, and leaves as many in
-- scope, where the locals that are read in it are in scope and may be named, and those that are written may be written; a `return` where
-- one may stand; and a branch where what it leads to knows no other locals.
pub record AreScoped (n : Locals) (rights : Rights) (local : ℕ → ℕ) (gone : ℕ → Bool) (W : Ways (List ℕ)) (s : List ℕ) : Type 0 where
  pub simple : (f : Form) (i j : ℕ) (l : Label TypeTree) (ps : Typeds TypeTree) → runs_parts f ≡ true → l.sort ≡ Nothing → AreExpressions ps → ArePlaced rights (Reads n s) n.written (places_in f) ps
      → SoundStatement (lexical_links n) rights local gone W s s (typed f i j l ps)
  pub declaration : (f : Form) (i j : ℕ) (l : Label TypeTree) (ps : Typeds TypeTree) → declares_only f ≡ true → l.sort ≡ Nothing → SoundStatement (lexical_links n) rights local gone W s s (typed f i j l ps)
  pub return : (i j : ℕ) (l : Label TypeTree) (ps : Typeds TypeTree) → l.sort ≡ Nothing → n.returns → AreExpressions ps → AllRead (Reads n s) ps → SoundStatement (lexical_links n) rights local gone W s s (typed form.Return i j l ps)
  pub break : (i j : ℕ) (l : Label TypeTree) (ps : Typeds TypeTree) (s1 : List ℕ) → l.sort ≡ Nothing → W.breaks ≡ Some s1 → ((k : ℕ) → In k s1 → In k s)
      → SoundStatement (lexical_links n) rights local gone W s s (typed form.Break i j l ps)
  pub continue : (i j : ℕ) (l : Label TypeTree) (ps : Typeds TypeTree) (s1 : List ℕ) → l.sort ≡ Nothing → W.continues ≡ Some s1 → ((k : ℕ) → In k s1 → In k s)
      → SoundStatement (lexical_links n) rights local gone W s s (typed form.Continue i j l ps)
  pub fallthrough : (i j : ℕ) (l : Label TypeTree) (ps : Typeds TypeTree) (s1 : List ℕ) → l.sort ≡ Nothing → W.falls ≡ Some s1 → ((k : ℕ) → In k s1 → In k s)
      → SoundStatement (lexical_links n) rights local gone W s s (typed form.Fallthrough i j l ps)

-- ---- as they are read

abbrev pub tree_in : Reading → Part
tree_in (read x fs s) = x

abbrev pub is_simple : Form → Bool
is_simple form.Return = true
is_simple f = runs_parts f

-- a statement of which the parts are expressions
abbrev pub IsSimple : Typed TypeTree → Type 0
IsSimple (typed f i j l ps) = (l.sort ≡ Nothing) × (is_simple f ≡ true) × AreExpressions ps

-- ---- as they are written

abbrev pub is_written_simple : Kind → Bool
is_written_simple kind.Return = true
is_written_simple k = is_post k

abbrev pub AllOperands : Trees → Type 0
AllOperands syntax.none = Unit {0}
AllOperands (syntax.more p ps) = (is_expression (kind_of p) ≡ true) × HasBrackets p × AllOperands ps
AllOperands (syntax.skip ps) = ⊥

abbrev pub IsOperandList : Tree → Type 0
IsOperandList (node kind.ExpressionList i j ps) = AllOperands ps
IsOperandList t = ⊥

abbrev pub AllOperandLists : Trees → Type 0
AllOperandLists syntax.none = Unit {0}
AllOperandLists (syntax.more p ps) = IsOperandList p × AllOperandLists ps
AllOperandLists (syntax.skip ps) = ⊥

abbrev pub IsTargetList : Tree → Type 0
IsTargetList (node kind.Targets i j ps) = AllOperandLists ps
IsTargetList t = ⊥

-- expression statements, `x++`, assignments and `return`
abbrev pub IsSimpleTree : Tree → Type 0
IsSimpleTree (node kind.ExpressionStatement i j ps) = AllOperands ps
IsSimpleTree (node (kind.StepStatement o) i j ps) = AllOperands ps
IsSimpleTree (node (kind.OperatorAssignment o) i j ps) = AllOperands ps
IsSimpleTree (node kind.Assignment i j (syntax.more t ps)) = IsTargetList t × AllOperandLists ps
IsSimpleTree (node kind.Return i j (syntax.skip syntax.none)) = Unit {0}
IsSimpleTree (node kind.Return i j ps) = AllOperandLists ps
IsSimpleTree t = ⊥
