-- Which locals are in scope at each place of a typed tree, and that those which are named there are among them (Go specification: Blocks,
-- Declarations and scope).
--
-- A scope is the list of the locals that are in scope. A statement that declares a local puts it in front for the statements behind it, and
-- at the end of a block the scope is again that in front of it.
use Rattle.std.specs.Prelude.{◌≡◌, ℕ, zero, suc, Bool, false, List, ◌∷◌, Some}
use Rattle.go_types.specs.Trees.{TypeTree}
use Rattle.go_types.specs.Relations.{Rights}
use Rattle.go_typed.specs.declared.form.Form.{Form}
use Rattle.go_typed.specs.declared.form.Form.TheVariants as form
use Rattle.go_typed.specs.Trees.{Typed, typed, Typeds, none, more, skip, form_of, first_of}
use Rattle.go_meaning_simulation.specs.Links.{Ways, loop_ways, clause_ways}
use Rattle.go_meaning_simulation.specs.Locals.{In}
use Rattle.extract_runs.specs.Lexical.{Locals, lexical_links}
use Rattle.extract_runs.specs.Sound.{SoundStatement, SoundChain}
use Rattle.go_stmts_scopes.specs.Runs.{EachRead, AllRead, EachPlaced}
use Rattle.go_stmts_scopes.specs.Scoped.{Reads}
use Rattle.go_stmts_scopes.specs.Shapes.{IsStatement, AreStatements, IsFunction}
use Rattle.go_stmts_scopes.specs.Statements.{places_in, ArePlaced}

-- ---- scopes

-- behind a name
abbrev pub put : Form → List ℕ → List ℕ
put (form.New k) s = k ∷ s
put (form.Declared k) s = k ∷ s
put f s = s

-- behind so many names
abbrev pub behind_names : ℕ → List ℕ → Typeds TypeTree → List ℕ
behind_names zero s ps = s
behind_names (suc n) s none = s
behind_names (suc n) s (more p ps) = behind_names n (put (form_of p) s) ps
behind_names (suc n) s (skip ps) = behind_names n s ps

abbrev mutual
  -- behind a statement
  pub behind : List ℕ → Typed TypeTree → List ℕ
  behind s (typed (form.Define n) i j l ps) = behind_names n s ps
  behind s (typed (form.Specified n) i j l ps) = behind_names n s ps
  behind s (typed form.Variables i j l ps) = behind_all s ps
  behind s x = s

  -- behind statements
  pub behind_all : List ℕ → Typeds TypeTree → List ℕ
  behind_all s none = s
  behind_all s (more p ps) = behind_all (behind s p) ps
  behind_all s (skip ps) = behind_all s ps

-- ---- locals that are named

module _ (n : Locals) (rights : Rights) where
  -- A name that is declared may be declared; another one is written, in front of the names and behind those that are in front of it.
  abbrev pub NameHas : (r s : List ℕ) → Typed TypeTree → Type 0
  NameHas r s (typed (form.New k) i j l ps) = n.declared k
  NameHas r s (typed (form.Declared k) i j l ps) = n.declared k
  NameHas r s x = EachPlaced rights (Reads n r) n.written x × EachPlaced rights (Reads n s) n.written x

  -- what stands behind the names is read in front of them
  abbrev pub NamesHave : ℕ → (r s : List ℕ) → Typeds TypeTree → Type 0
  NamesHave zero r s ps = AllRead (Reads n r) ps
  NamesHave (suc k) r s none = Unit {0}
  NamesHave (suc k) r s (more p ps) = NameHas r s p × NamesHave k r (put (form_of p) s) ps
  NamesHave (suc k) r s (skip ps) = Unit {0}

  abbrev pub PostHas : List ℕ → Typed TypeTree → Type 0
  PostHas s (typed f i j l ps) = ArePlaced rights (Reads n s) n.written (places_in f) ps

  abbrev pub FirstHas : List ℕ → Typed TypeTree → Type 0
  FirstHas s (typed (form.Define k) i j l ps) = NamesHave k s s ps
  FirstHas s x = PostHas s x

  -- no other local is known where a branch leads to
  pub record Leads (s s1 : List ℕ) : Type 0 where
    pub known : (k : ℕ) → In k s1 → In k s

  module _ (gone : ℕ → Bool) where
    abbrev mutual
      -- A statement where these locals are in scope, and branches lead to these scopes: the locals that are named outside of the statements
      -- that are gone are in scope and have the properties, and branches lead somewhere.
      pub StatementHas : Ways (List ℕ) → List ℕ → Typed TypeTree → Type 0
      StatementHas W s (typed form.Return i j l ps) = n.returns × AllRead (Reads n s) ps
      StatementHas W s (typed (form.Define k) i j l ps) = NamesHave k s s ps
      StatementHas W s (typed (form.Specified k) i j l ps) = NamesHave k s s ps
      StatementHas W s (typed form.Variables i j l ps) = ListHas W s ps
      StatementHas W s (typed form.Constants i j l ps) = Unit {0}
      StatementHas W s (typed form.TypeNames i j l ps) = Unit {0}
      StatementHas W s (typed form.Break i j l ps) = (s1 : List ℕ) × (W.breaks ≡ Some s1) × Leads s s1
      StatementHas W s (typed form.Continue i j l ps) = (s1 : List ℕ) × (W.continues ≡ Some s1) × Leads s s1
      StatementHas W s (typed form.Fallthrough i j l ps) = (s1 : List ℕ) × (W.falls ≡ Some s1) × Leads s s1
      StatementHas W s (typed form.Block i j l ps) = ListHas W s ps
      StatementHas W s (typed form.If i j l ps) = BranchHas W s ps
      StatementHas W s (typed form.Switch i j l ps) = SwitchHas W s ps
      StatementHas W s (typed form.For i j l ps) = LoopHas W s ps
      StatementHas W s (typed (form.Range defines k) i j l ps) = RangeHas W s s k ps
      StatementHas W s x = PostHas s x

      -- statements in order
      pub ListHas : Ways (List ℕ) → List ℕ → Typeds TypeTree → Type 0
      ListHas W s none = Unit {0}
      ListHas W s (more p ps) = (gone (first_of p) ≡ false → StatementHas W s p) × ListHas W (behind s p) ps
      ListHas W s (skip ps) = ListHas W s ps

      pub BranchHas : Ways (List ℕ) → List ℕ → Typeds TypeTree → Type 0
      BranchHas W s none = Unit {0}
      BranchHas W s (more x ps) = FirstHas s x × ChoiceHas W (behind s x) ps
      BranchHas W s (skip ps) = ChoiceHas W s ps

      pub ChoiceHas : Ways (List ℕ) → List ℕ → Typeds TypeTree → Type 0
      ChoiceHas W s (more c (more b rs)) = EachRead (Reads n s) c × StatementHas W s b × ElseHas W s rs
      ChoiceHas W s ps = Unit {0}

      pub ElseHas : Ways (List ℕ) → List ℕ → Typeds TypeTree → Type 0
      ElseHas W s none = Unit {0}
      ElseHas W s (more x ps) = StatementHas W s x
      ElseHas W s (skip ps) = Unit {0}

      pub SwitchHas : Ways (List ℕ) → List ℕ → Typeds TypeTree → Type 0
      SwitchHas W s none = Unit {0}
      SwitchHas W s (more x ps) = FirstHas s x × TagHas W s (behind s x) ps
      SwitchHas W s (skip ps) = TagHas W s s ps

      -- behind the switch the scope is s, and in it t
      pub TagHas : Ways (List ℕ) → (s t : List ℕ) → Typeds TypeTree → Type 0
      TagHas W s t none = Unit {0}
      TagHas W s t (more x ps) = EachRead (Reads n t) x × ClausesHave (clause_ways W s t) t ps
      TagHas W s t (skip ps) = ClausesHave (clause_ways W s t) t ps

      pub ClausesHave : Ways (List ℕ) → List ℕ → Typeds TypeTree → Type 0
      ClausesHave W s none = Unit {0}
      ClausesHave W s (more c cs) = ClauseHas W s c × ClausesHave W s cs
      ClausesHave W s (skip cs) = Unit {0}

      pub ClauseHas : Ways (List ℕ) → List ℕ → Typed TypeTree → Type 0
      ClauseHas W s (typed (form.Case k) i j l ps) = CaseHas W s k ps
      ClauseHas W s (typed form.Default i j l ps) = ListHas W s ps
      ClauseHas W s x = Unit {0}

      pub CaseHas : Ways (List ℕ) → List ℕ → ℕ → Typeds TypeTree → Type 0
      CaseHas W s zero none = Unit {0}
      CaseHas W s zero (more p ps) = (gone (first_of p) ≡ false → StatementHas W s p) × ListHas W (behind s p) ps
      CaseHas W s zero (skip ps) = ListHas W s ps
      CaseHas W s (suc k) none = Unit {0}
      CaseHas W s (suc k) (more x ps) = EachRead (Reads n s) x × CaseHas W s k ps
      CaseHas W s (suc k) (skip ps) = Unit {0}

      pub LoopHas : Ways (List ℕ) → List ℕ → Typeds TypeTree → Type 0
      LoopHas W s none = Unit {0}
      LoopHas W s (more x ps) = FirstHas s x × ConditionHas (loop_ways W (behind s x)) (behind s x) ps
      LoopHas W s (skip ps) = ConditionHas (loop_ways W s) s ps

      pub ConditionHas : Ways (List ℕ) → List ℕ → Typeds TypeTree → Type 0
      ConditionHas W s none = Unit {0}
      ConditionHas W s (more c ps) = EachRead (Reads n s) c × NextHas W s ps
      ConditionHas W s (skip ps) = NextHas W s ps

      pub NextHas : Ways (List ℕ) → List ℕ → Typeds TypeTree → Type 0
      NextHas W s none = Unit {0}
      NextHas W s (more x ps) = PostHas s x × BodyHas W s ps
      NextHas W s (skip ps) = BodyHas W s ps

      pub BodyHas : Ways (List ℕ) → List ℕ → Typeds TypeTree → Type 0
      BodyHas W s (more b ps) = StatementHas W s b
      BodyHas W s ps = Unit {0}

      -- the operand is read in front of the names
      pub RangeHas : Ways (List ℕ) → (r s : List ℕ) → ℕ → Typeds TypeTree → Type 0
      RangeHas W r s zero (more x ps) = EachRead (Reads n r) x × BodyHas (loop_ways W s) s ps
      RangeHas W r s (suc k) (more x ps) = NameHas r s x × RangeHas W r (put (form_of x) s) k ps
      RangeHas W r s k ps = Unit {0}

    -- a function, whose parameters are in scope
    abbrev pub FunctionHas : Ways (List ℕ) → List ℕ → Typed TypeTree → Type 0
    FunctionHas W s (typed f i j l ps) = ListHas W s ps

-- ---- statements that are lexically scoped

-- A statement and a function are lexically scoped where these locals are in scope in front of them, and branches lead to these scopes: where
-- what is named in them is in scope.
pub record IsLexical (n : Locals) (rights : Rights) (local : ℕ → ℕ) (gone : ℕ → Bool) (W : Ways (List ℕ)) (s : List ℕ) (x : Typed TypeTree) : Type 0 where
  pub statement : IsStatement x → StatementHas n rights gone W s x → SoundStatement (lexical_links n) rights local gone W s (behind s x) x
  pub function : IsFunction x → FunctionHas n rights gone W s x → SoundStatement (lexical_links n) rights local gone W s s x

-- So is a list of statements, as a window is one.
abbrev pub IsLexicalList : (n : Locals) (rights : Rights) (local : ℕ → ℕ) (gone : ℕ → Bool) (W : Ways (List ℕ)) (s : List ℕ) (ps : Typeds TypeTree) → Type 0
IsLexicalList n rights local gone W s ps = AreStatements ps → ListHas n rights gone W s ps → SoundChain (lexical_links n) rights local gone W s (behind_all s ps) ps
