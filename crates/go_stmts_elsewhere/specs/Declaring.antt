-- What statements declare, and what they leave as it was: what is known behind them but for that.
use Rattle.std.specs.Prelude.{◌≡◌, ℕ, Bool, true, false, ◌⊎◌, nat_eq, [], ◌∷◌, Some, None}
use Rattle.go_grammar.specs.declared.kind.Kind.TheVariants as kind
use Rattle.go_grammar.specs.declared.kind.Sort.{Sort}
use Rattle.go_grammar.specs.declared.kind.Sort.TheVariants as declaring
use Rattle.go_grammar.specs.Trees.{Tree, node, Trees, none, more, skip, kind_of}
use Rattle.go_types.specs.Trees.{TypeTree}
use Rattle.go_typed.specs.declared.form.Form.{Form}
use Rattle.go_typed.specs.declared.form.Form.TheVariants as form
use Rattle.go_typed.specs.Trees.{typed, Typeds, list_of, parts_of, form_of, sort_of}
use Rattle.go_typed.specs.Trees as sort
use Rattle.go_exprs_rules.specs.Settling.{Part}
use Rattle.go_exprs_rules.specs.Tables.{Parts, is_placed}
use Rattle.go_stmts_defs.specs.Frames.{Frame, Locals, local_stands}
use Rattle.go_stmts_defs.specs.Reading.{is_new, is_statement}
use Rattle.go_exprs_elsewhere.specs.Elsewhere.{Moves}
use Rattle.go_stmts_elsewhere.specs.Frames.{has_room}
use Rattle.go_stmts_elsewhere.specs.Gaps.{run, parts_in, behind}
use Rattle.go_stmts_elsewhere.specs.Marked.{AlongAt}
use Rattle.go_stmts_elsewhere.specs.Replaced.{SaysAs, unsourced}

-- ---- what typed trees declare

-- whether a node of this form declares the local of this number
abbrev pub declares : ℕ → Form → Bool
declares n (form.New k) = nat_eq k n
declares n (form.Declared k) = nat_eq k n
declares n f = false

-- whether it declares types
abbrev pub declares_types : Form → Bool
declares_types form.TypeNames = true
declares_types f = false

abbrev mutual
  -- No node of the tree has a form that passes the test.
  pub Without : (Form → Bool) → Part → Type 0
  Without w (typed f i j l ps) = (w f ≡ false) × RowWithout w ps

  pub RowWithout : (Form → Bool) → Typeds TypeTree → Type 0
  RowWithout w sort.none = Unit {0}
  RowWithout w (sort.more x xs) = Without w x × RowWithout w xs
  RowWithout w (sort.skip xs) = RowWithout w xs

abbrev pub AllWithout : (Form → Bool) → Parts → Type 0
AllWithout w [] = Unit {0}
AllWithout w (None ∷ xs) = AllWithout w xs
AllWithout w (Some x ∷ xs) = Without w x × AllWithout w xs

-- Some part is so, and no node of those behind it has a form that passes the test.
abbrev pub Lastly : (Form → Bool) → (Part → Type 0) → Parts → Type 0
Lastly w P [] = ⊥
Lastly w P (None ∷ xs) = Lastly w P xs
Lastly w P (Some x ∷ xs) = (P x × AllWithout w xs) ⊎ Lastly w P xs

-- a name of the local, which is declared as a variable of the type
abbrev pub NamesVariable : ℕ → TypeTree → Part → Type 0
NamesVariable n t x = (is_new (form_of x) ≡ Some n) × (sort_of x ≡ sort.Value t)

-- The local is declared as a variable of the type by one of these parts, and not again behind it.
abbrev pub NameVariable : ℕ → TypeTree → Parts → Type 0
NameVariable n t xs = Lastly (declares n) (NamesVariable n t) xs

-- The statement itself declares it so: a definition, or one specification of a declaration.
abbrev pub DeclaresVariable : ℕ → TypeTree → Part → Type 0
DeclaresVariable n t (typed (form.Define m) i j l ps) = NameVariable n t (list_of ps)
DeclaresVariable n t (typed form.Variables i j l ps) = Lastly (declares n) (λ x. NameVariable n t (list_of (parts_of x))) (list_of ps)
DeclaresVariable n t x = ⊥

-- ---- how declarations stand in trees (Go specification: Declarations and scope)

abbrev mutual
  -- an expression or a type, or a node that only holds such
  pub IsValue : Tree → Type 0
  IsValue (node kind.TypedValues i j ps) = AreValues ps
  IsValue (node kind.Values i j ps) = AreValues ps
  IsValue (node kind.ExpressionList i j ps) = AreValues ps
  IsValue (node k i j ps) = is_placed k ≡ true

  pub AreValues : Trees → Type 0
  AreValues none = Unit {0}
  AreValues (more t ts) = IsValue t × AreValues ts
  AreValues (skip ts) = AreValues ts

abbrev pub HasNoStatement : Tree → Type 0
HasNoStatement t = is_statement (kind_of t) ≡ false

abbrev pub HaveNoStatement : Trees → Type 0
HaveNoStatement none = Unit {0}
HaveNoStatement (more t ts) = HasNoStatement t × HaveNoStatement ts
HaveNoStatement (skip ts) = HaveNoStatement ts

-- A specification has no statements in it; of constants it has names, and a type or values or nothing.
abbrev pub Specifies : Sort → Trees → Type 0
Specifies declaring.Constant (more ns (more r none)) = HasNoStatement ns × IsValue r
Specifies declaring.Constant (more ns (skip none)) = HasNoStatement ns
Specifies declaring.Constant ps = ⊥
Specifies declaring.Variable ps = HaveNoStatement ps
Specifies declaring.Type ps = HaveNoStatement ps

-- a specification of this sort
abbrev pub IsSpecification : Sort → Tree → Type 0
IsSpecification declaring.Constant (node (kind.Specification declaring.Constant) i j ps) = Specifies declaring.Constant ps
IsSpecification declaring.Variable (node (kind.Specification declaring.Variable) i j ps) = Specifies declaring.Variable ps
IsSpecification declaring.Type (node (kind.Specification declaring.Type) i j ps) = Specifies declaring.Type ps
IsSpecification d t = ⊥

abbrev pub AreSpecifications : Sort → Trees → Type 0
AreSpecifications d none = Unit {0}
AreSpecifications d (more t ts) = IsSpecification d t × AreSpecifications d ts
AreSpecifications d (skip ts) = ⊥

-- what is declared: one specification, or a group of them
abbrev pub IsDeclared : Sort → Trees → Type 0
IsDeclared declaring.Constant (more (node (kind.Group declaring.Constant) i j ps) none) = AreSpecifications declaring.Constant ps
IsDeclared declaring.Variable (more (node (kind.Group declaring.Variable) i j ps) none) = AreSpecifications declaring.Variable ps
IsDeclared declaring.Type (more (node (kind.Group declaring.Type) i j ps) none) = AreSpecifications declaring.Type ps
IsDeclared d (more t none) = IsSpecification d t
IsDeclared d ps = ⊥

abbrev mutual
  -- Specifications stand in declarations alone, and no function stands among statements.
  pub DeclaresInOrder : Tree → Type 0
  DeclaresInOrder (node (kind.Declaration d) i j ps) = IsDeclared d ps
  DeclaresInOrder (node (kind.Group d) i j ps) = ⊥
  DeclaresInOrder (node (kind.Specification d) i j ps) = ⊥
  DeclaresInOrder (node kind.FunctionDeclaration i j ps) = ⊥
  DeclaresInOrder (node k i j ps) = AllDeclareInOrder ps

  pub AllDeclareInOrder : Trees → Type 0
  AllDeclareInOrder none = Unit {0}
  AllDeclareInOrder (more t ts) = DeclaresInOrder t × AllDeclareInOrder ts
  AllDeclareInOrder (skip ts) = AllDeclareInOrder ts

-- ---- the law

-- Behind these statements a local that they don't declare stands for what it stood for, and none gets or loses its place. Right sides are
-- as they were where no types are declared, and so is, whatever is declared, what else is known.
pub record LeaveTheRest (f : Frame) (ts : Trees) : Type 0 where
  pub locals : (n : ℕ) → AllWithout (declares n) (parts_in (run f ts)) → local_stands (behind f ts).locals n ≡ local_stands f.locals n
  pub room : (n : ℕ) → has_room (behind f ts).locals n ≡ has_room f.locals n
  pub rights : AllWithout declares_types (parts_in (run f ts)) → (behind f ts).around.rights ≡ f.around.rights
  pub iota : (behind f ts).around.iota ≡ f.around.iota
  pub types : (behind f ts).types ≡ f.types
  pub tag : (behind f ts).tag ≡ f.tag
  pub results : (behind f ts).results ≡ f.results
  pub says : SaysAs f.around (behind f ts)

-- A local that one of these statements declares itself as a variable of a type, and none behind it declares, is one of this type behind them all.
abbrev pub DeclaredLocalsStand : Type 0
DeclaredLocalsStand = (f : Frame) (ts : Trees) → AllDeclareInOrder ts → (n : ℕ) (t : TypeTree) → has_room f.locals n ≡ true → Lastly (declares n) (DeclaresVariable n t) (parts_in (run f ts))
    → local_stands (behind f ts).locals n ≡ sort.Value t

-- Frames are related whatever constants repeat. The statements declare no types in the first one; then it is related behind them to the second
-- one with other locals, of which those that count stand for the same.
abbrev pub RelatedBehind : Type 0
RelatedBehind = (p q : ℕ → Bool) (m : Moves) (l : ℕ → Bool) (f g : Frame) (ts : Trees) (ls : Locals) → AllDeclareInOrder ts → AllWithout declares_types (parts_in (run f ts))
    → AlongAt p q m l (unsourced f) (unsourced g)
    → ((n : ℕ) → l n ≡ true → has_room ls (m.local n) ≡ has_room (behind f ts).locals n)
    → ((n : ℕ) → l n ≡ true → local_stands ls (m.local n) ≡ local_stands (behind f ts).locals n)
    → AlongAt p q m l (unsourced (behind f ts)) (unsourced (record g { locals = ls }))

-- what frames share that are related: right sides, what is judged, and the locals that count
pub record SharedAlong (m : Moves) (l : ℕ → Bool) (f g : Frame) : Type 0 where
  pub rights : g.around.rights ≡ f.around.rights
  pub limits : g.around.limits ≡ f.around.limits
  pub apart : (n k : ℕ) → l n ≡ true → l k ≡ true → m.local n ≡ m.local k → n ≡ k
  pub room : (n : ℕ) → l n ≡ true → has_room g.locals (m.local n) ≡ has_room f.locals n
  pub locals : (n : ℕ) → l n ≡ true → local_stands g.locals (m.local n) ≡ local_stands f.locals n
