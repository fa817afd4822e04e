-- When a function of a package that type-checks is lexically scoped (Go specification: Blocks, Declarations and scope).
--
-- Of its names it is asked how they stand, by tokens. Its branches lead somewhere at any rate.
use Rattle.std.specs.Prelude.{ℕ, Bool, true, ◌<◌, ◌≤◌, ◌⊎◌, List, [], ◌∷◌}
use Rattle.go_tree.specs.declared.context.Scope.{Scope}
use Rattle.go_types.specs.Relations.{Rights}
use Rattle.go_types.specs.Trees.{TypeTree}
use Rattle.go_typed.specs.Contents.{FuncContent}
use Rattle.go_typed.specs.Trees.{Typed, typed, Typeds, none, more, skip, first_of, last_of}
use Rattle.go_meaning_simulation.specs.Links.{nowhere}
use Rattle.go_meaning_simulation.specs.Locals.{In}
use Rattle.extract_runs.specs.Lexical.{Locals, lexical_links}
use Rattle.extract_runs.specs.Sound.{SoundStatement}
use Rattle.go_stmts_scopes.specs.Runs.{is_given, Unless}
use Rattle.go_stmts_scopes.specs.Scoped.{tested}
use Rattle.go_stmts_scopes.specs.Standing.{Extents, Covers, NameStands, AreTargets, targets_in, room_in, is_closed, Declares}

module _ (ls : Locals) (rights : Rights) (x : Extents) where
  abbrev mutual
    -- The tokens of the tree lie from a up to b, those of its parts one behind the other; names and places stand where they may. Of branches
    -- nothing is asked.
    pub NamesStand : Scope → (a b : ℕ) → Typed TypeTree → Type 0
    NamesStand r a b (typed f i j l ps) = (a ≤ i) × (i < j) × (j ≤ b) × NameStands ls x r (is_given l.sort) f i × AreTargets ls rights (targets_in f) ps
        × Unless (is_closed f) (AllNamesStand (room_in r f i j ps) i j ps)

    pub AllNamesStand : Scope → (a b : ℕ) → Typeds TypeTree → Type 0
    AllNamesStand r a b none = a ≤ b
    AllNamesStand r a b (more p ps) = NamesStand r a b p × AllNamesStand r (last_of p) b ps
    AllNamesStand r a b (skip ps) = AllNamesStand r a b ps

-- The names of a function stand where they may, and each variable that is in scope at one of its tokens is one of these locals, its
-- parameters, or is declared in it.
pub record NamesStandInScope (ls : Locals) (rights : Rights) (x : Extents) (s : List ℕ) (t : Typed TypeTree) : Type 0 where
  pub names : NamesStand ls rights x (record { from = first_of t; to = last_of t }) (first_of t) (last_of t) t
  pub declared : (k u : ℕ) → first_of t ≤ u → u < last_of t → Covers x k u → In k s ⊎ Declares k t

-- Then it is lexically scoped, from its parameters on.
abbrev pub IsLexicalByNames : Typed TypeTree → Type 0
IsLexicalByNames t = (named written declared : ℕ → Bool) (rights : Rights) (x : Extents) (local : ℕ → ℕ) (gone : ℕ → Bool) (s : List ℕ) →
    let ls = tested named written declared true in NamesStandInScope ls rights x s t → SoundStatement (lexical_links ls) rights local gone nowhere s s t

abbrev pub AreLexicalByNames : List FuncContent → Type 0
AreLexicalByNames [] = Unit {0}
AreLexicalByNames (f ∷ fs) = IsLexicalByNames f.tree × AreLexicalByNames fs
