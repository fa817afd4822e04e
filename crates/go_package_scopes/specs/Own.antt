-- When a function of a package that type-checks is lexically scoped, told by what its tokens mean (Go specification: Blocks, Declarations and
-- scope).
--
-- Its variables are in scope where the package declares them to be. Nothing is asked of the order of its tokens, nor of where what it declares
-- is in scope.
use Rattle.std.specs.Prelude.{◌≡◌, ℕ, ◌+◌, ◌-◌, ◌<◌, ◌≤◌, ◌⊎◌, Bool, true, if◌then◌else◌, List, [], ◌∷◌, Option, Some, None}
use Rattle.go_tree.specs.declared.context.Scope.{Scope}
use Rattle.go_tree.specs.declared.object.Declared.{Declared}
use Rattle.go_tree.specs.declared.object.Object.TheVariants as object
use Rattle.go_tree.specs.Declarations.{is_variable}
use Rattle.go_tree.specs.Uses.{UsesView, object_of, local_of}
use Rattle.go_types.specs.Relations.{Rights}
use Rattle.go_types.specs.Trees.{TypeTree}
use Rattle.go_typed.specs.declared.form.Form.{Form}
use Rattle.go_typed.specs.declared.form.Form.TheVariants as form
use Rattle.go_typed.specs.Contents.{FuncContent}
use Rattle.go_typed.specs.Trees.{Typed, typed, Typeds, none, more, skip, first_of, last_of}
use Rattle.go_meaning_simulation.specs.Links.{nowhere}
use Rattle.go_meaning_simulation.specs.Locals.{In}
use Rattle.extract_runs.specs.Lexical.{Locals, lexical_links}
use Rattle.extract_runs.specs.Sound.{SoundStatement}
use Rattle.go_stmts_scopes.specs.Runs.{is_given, Unless}
use Rattle.go_stmts_scopes.specs.Scoped.{tested}
use Rattle.go_stmts_scopes.specs.Standing.{Extents, Covers, AreTargets, targets_in, is_closed, Declares}
use Rattle.go_package_scopes.specs.Functions.{EachName}

-- where a variable is in scope, with tokens counted from the token b on
abbrev pub extent_in : ℕ → Option Declared → Option Scope
extent_in b None = None
extent_in b (Some d) = if is_variable d.entity then Some (record { from = d.scope.from - b; to = d.scope.to - b }) else None

-- The variables of the function f, which begins at the token b.
abbrev pub extents_of : UsesView → (f b : ℕ) → Extents
extents_of u f b k = extent_in b (local_of u f k)

-- a variable that isn't declared at this token
pub record IsUsed (u : UsesView) (f t k : ℕ) : Type 0 where
  pub it : Declared
  pub there : local_of u f k ≡ Some it
  pub variable : is_variable it.entity ≡ true
  pub elsewhere : it.name ≡ t → ⊥

-- one that is declared at this token
pub record IsDeclaredHere (u : UsesView) (f t k : ℕ) : Type 0 where
  pub it : Declared
  pub there : local_of u f k ≡ Some it
  pub here : it.name ≡ t

-- What is no constant is a variable that is used, and may be named; what is declared is declared here, and may be.
abbrev pub NameIsOwn : Locals → UsesView → (f b : ℕ) → Bool → Form → ℕ → Type 0
NameIsOwn ls u f b g (form.Local k) i = Unless g (IsUsed u f (b + i) k × ls.named k)
NameIsOwn ls u f b g (form.New k) i = IsDeclaredHere u f (b + i) k × ls.declared k
NameIsOwn ls u f b g (form.Declared k) i = IsDeclaredHere u f (b + i) k × ls.declared k
NameIsOwn ls u f b g h i = Unit {0}

module _ (ls : Locals) (rights : Rights) (u : UsesView) (f b : ℕ) where
  abbrev mutual
    pub NamesAreOwn : Typed TypeTree → Type 0
    NamesAreOwn (typed g i j l ps) = NameIsOwn ls u f b (is_given l.sort) g i × AreTargets ls rights (targets_in g) ps × Unless (is_closed g) (AllNamesAreOwn ps)

    pub AllNamesAreOwn : Typeds TypeTree → Type 0
    AllNamesAreOwn none = Unit {0}
    AllNamesAreOwn (more p ps) = NamesAreOwn p × AllNamesAreOwn ps
    AllNamesAreOwn (skip ps) = AllNamesAreOwn ps

-- Of a function, whose locals are those of the function f: each variable is used behind its declaration, and each name that is declared is new;
-- what is written is a place; and each variable that is in scope at one of its tokens is one of these locals, its parameters, or is declared in
-- it.
pub record IsOwnTree (ls : Locals) (rights : Rights) (u : UsesView) (b f : ℕ) (s : List ℕ) (t : Typed TypeTree) : Type 0 where
  pub names : NamesAreOwn ls rights u f b t
  pub declared : (k m : ℕ) → first_of t ≤ m → m < last_of t → Covers (extents_of u f b) k m → In k s ⊎ Declares k t

-- There is a token at which the function begins, and its locals are those of one function, so that it is lexically scoped, from its parameters
-- on, where its names are its own.
pub record IsLexicalByTokens (u : UsesView) (t : Typed TypeTree) : Type 0 where
  pub file : ℕ
  pub first : ℕ
  pub function : ℕ
  pub own : EachName (λ i k. object_of u file (first + i) ≡ Some (object.Local function k)) t
  pub scoped : (named written declared : ℕ → Bool) (rights : Rights) (local : ℕ → ℕ) (gone : ℕ → Bool) (s : List ℕ) →
      let ls = tested named written declared true in IsOwnTree ls rights u first function s t → SoundStatement (lexical_links ls) rights local gone nowhere s s t

abbrev pub AreLexicalByTokens : UsesView → List FuncContent → Type 0
AreLexicalByTokens u [] = Unit {0}
AreLexicalByTokens u (f ∷ fs) = IsLexicalByTokens u f.tree × AreLexicalByTokens u fs
