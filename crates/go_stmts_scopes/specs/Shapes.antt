-- The shape of typed statements that evaluation asks for: which parts a node has (Go specification: Statements).
use Rattle.std.specs.Prelude.{◌≡◌, ℕ, zero, suc, Bool, true, false}
use Rattle.go_types.specs.Trees.{TypeTree}
use Rattle.go_typed.specs.declared.form.Form.{Form}
use Rattle.go_typed.specs.declared.form.Form.TheVariants as form
use Rattle.go_typed.specs.Trees.{Nothing, Typed, typed, Typeds, none, more, skip, form_of}
use Rattle.go_stmts_scopes.specs.Runs.{IsExpression, AreExpressions, is_given}
use Rattle.go_stmts_scopes.specs.Statements.{runs_parts}

-- a name that is declared, and is no constant, or another place
abbrev pub IsName : Typed TypeTree → Type 0
IsName (typed (form.New k) i j l ps) = is_given l.sort ≡ false
IsName (typed (form.Declared k) i j l ps) = is_given l.sort ≡ false
IsName x = IsExpression x

-- so many names, and expressions behind them
abbrev pub AreNames : ℕ → Typeds TypeTree → Type 0
AreNames zero ps = AreExpressions ps
AreNames (suc n) none = ⊥
AreNames (suc n) (more p ps) = IsName p × AreNames n ps
AreNames (suc n) (skip ps) = ⊥

-- a statement that may stand in front of a condition, and one that may stand behind it
abbrev pub IsPost : Typed TypeTree → Type 0
IsPost (typed f i j l ps) = (l.sort ≡ Nothing) × (runs_parts f ≡ true) × AreExpressions ps

abbrev pub IsFirst : Typed TypeTree → Type 0
IsFirst (typed (form.Define n) i j l ps) = (l.sort ≡ Nothing) × AreNames n ps
IsFirst x = IsPost x

-- blocks, and `if`, which may stand behind `else`
abbrev pub is_tail : Form → Bool
is_tail form.Block = true
is_tail form.If = true
is_tail f = false

abbrev mutual
  pub IsStatement : Typed TypeTree → Type 0
  IsStatement (typed form.Expression i j l ps) = (l.sort ≡ Nothing) × AreExpressions ps
  IsStatement (typed (form.Step o) i j l ps) = (l.sort ≡ Nothing) × AreExpressions ps
  IsStatement (typed (form.Assign n) i j l ps) = (l.sort ≡ Nothing) × AreExpressions ps
  IsStatement (typed (form.Operate o) i j l ps) = (l.sort ≡ Nothing) × AreExpressions ps
  IsStatement (typed form.Return i j l ps) = (l.sort ≡ Nothing) × AreExpressions ps
  IsStatement (typed (form.Define n) i j l ps) = (l.sort ≡ Nothing) × AreNames n ps
  IsStatement (typed (form.Specified n) i j l ps) = (l.sort ≡ Nothing) × AreNames n ps
  IsStatement (typed form.Variables i j l ps) = (l.sort ≡ Nothing) × AreStatements ps
  IsStatement (typed form.Constants i j l ps) = l.sort ≡ Nothing
  IsStatement (typed form.TypeNames i j l ps) = l.sort ≡ Nothing
  IsStatement (typed form.Break i j l ps) = l.sort ≡ Nothing
  IsStatement (typed form.Continue i j l ps) = l.sort ≡ Nothing
  IsStatement (typed form.Fallthrough i j l ps) = l.sort ≡ Nothing
  IsStatement (typed form.Block i j l ps) = (l.sort ≡ Nothing) × AreStatements ps
  IsStatement (typed form.If i j l ps) = (l.sort ≡ Nothing) × IsBranch ps
  IsStatement (typed form.Switch i j l ps) = (l.sort ≡ Nothing) × IsSwitch ps
  IsStatement (typed form.For i j l ps) = (l.sort ≡ Nothing) × IsLoop ps
  IsStatement (typed (form.Range defines n) i j l ps) = (l.sort ≡ Nothing) × IsRange n ps
  IsStatement x = ⊥

  pub AreStatements : Typeds TypeTree → Type 0
  AreStatements none = Unit {0}
  AreStatements (more p ps) = IsStatement p × AreStatements ps
  AreStatements (skip ps) = AreStatements ps

  -- first? condition block else?
  pub IsBranch : Typeds TypeTree → Type 0
  IsBranch none = ⊥
  IsBranch (more x ps) = IsFirst x × IsChoice ps
  IsBranch (skip ps) = IsChoice ps

  pub IsChoice : Typeds TypeTree → Type 0
  IsChoice (more c (more b rs)) = IsExpression c × ((is_tail (form_of b) ≡ true) × IsStatement b) × IsElse rs
  IsChoice ps = ⊥

  pub IsElse : Typeds TypeTree → Type 0
  IsElse none = Unit {0}
  IsElse (more x ps) = (is_tail (form_of x) ≡ true) × IsStatement x
  IsElse (skip ps) = Unit {0}

  -- first? tag? clauses..
  pub IsSwitch : Typeds TypeTree → Type 0
  IsSwitch none = ⊥
  IsSwitch (more x ps) = IsFirst x × HasTag ps
  IsSwitch (skip ps) = HasTag ps

  pub HasTag : Typeds TypeTree → Type 0
  HasTag none = ⊥
  HasTag (more x ps) = IsExpression x × AreClauses ps
  HasTag (skip ps) = AreClauses ps

  pub AreClauses : Typeds TypeTree → Type 0
  AreClauses none = Unit {0}
  AreClauses (more c cs) = IsClause c × AreClauses cs
  AreClauses (skip cs) = ⊥

  pub IsClause : Typed TypeTree → Type 0
  IsClause (typed (form.Case n) i j l ps) = (l.sort ≡ Nothing) × IsCase n ps
  IsClause (typed form.Default i j l ps) = (l.sort ≡ Nothing) × AreStatements ps
  IsClause x = ⊥

  -- so many values, and statements behind them
  pub IsCase : ℕ → Typeds TypeTree → Type 0
  IsCase zero none = Unit {0}
  IsCase zero (more p ps) = IsStatement p × AreStatements ps
  IsCase zero (skip ps) = AreStatements ps
  IsCase (suc n) none = ⊥
  IsCase (suc n) (more x ps) = IsExpression x × IsCase n ps
  IsCase (suc n) (skip ps) = ⊥

  -- first? condition? post? block
  pub IsLoop : Typeds TypeTree → Type 0
  IsLoop none = ⊥
  IsLoop (more x ps) = IsFirst x × HasCondition ps
  IsLoop (skip ps) = HasCondition ps

  pub HasCondition : Typeds TypeTree → Type 0
  HasCondition none = ⊥
  HasCondition (more c ps) = IsExpression c × HasPost ps
  HasCondition (skip ps) = HasPost ps

  pub HasPost : Typeds TypeTree → Type 0
  HasPost none = ⊥
  HasPost (more x ps) = IsPost x × HasBody ps
  HasPost (skip ps) = HasBody ps

  pub HasBody : Typeds TypeTree → Type 0
  HasBody (more b none) = (is_tail (form_of b) ≡ true) × IsStatement b
  HasBody ps = ⊥

  -- so many names, an operand, and a block
  pub IsRange : ℕ → Typeds TypeTree → Type 0
  IsRange zero (more x ps) = IsExpression x × HasBody ps
  IsRange (suc n) (more x ps) = IsName x × IsRange n ps
  IsRange n ps = ⊥

-- a function with its block, if it has one
abbrev pub IsFunction : Typed TypeTree → Type 0
IsFunction (typed form.Function i j l ps) = (l.sort ≡ Nothing) × AreStatements ps
IsFunction x = ⊥
