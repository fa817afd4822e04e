-- A function of a package that type-checks is lexically scoped where its names stand as they may.
use Rattle.std.proofs.Common.{ℕ, Bool, true, false, List, [], ◌∷◌, refl}
use Rattle.go_tree.specs.declared.context.Scope.{Scope}
use Rattle.go_types.specs.Relations.{Rights}
use Rattle.go_types.specs.Trees.{TypeTree}
use Rattle.go_typed.specs.declared.form.Form.{Form}
use Rattle.go_typed.specs.declared.form.Form.TheVariants as form
use Rattle.go_typed.specs.Contents.{FuncContent}
use Rattle.go_typed.specs.Trees.{Typed, typed, Typeds, last_of, first_of}
use Rattle.go_typed.specs.Trees as trees
use Rattle.go_meaning_simulation.specs.Links.{nowhere}
use Rattle.extract_runs.specs.Lexical.{Locals, lexical_links}
use Rattle.extract_runs.specs.Sound.{SoundStatement}
use Rattle.go_stmts_scopes.specs.Runs.{Unless}
use Rattle.go_stmts_scopes.specs.Scoped.{tested}
use Rattle.go_stmts_scopes.specs.Shapes.{IsFunction}
use Rattle.go_stmts_scopes.specs.Standing.{Extents, Exits, no_exits, exits_in, MayStand, room_in, is_closed, Stands, AllStand, StandsInScope}
use Rattle.go_package_scopes.specs.Functions.{HaveShape, MayLead, BranchesStand, AllBranchesStand, HaveBranches}
use Rattle.go_package_scopes.specs.Standing.{NamesStand, AllNamesStand, AreLexicalByNames}

unless_both : (b : Bool) (A B : Type 0) → (A → B) → Unless b A → Unless b B
unless_both true A B f h = tt
unless_both false A B f h = f h

module _ (ls : Locals) (rights : Rights) (x : Extents) (returns : ls.returns) where
  may_stand : (e : Exits) (f : Form) → MayLead e f → MayStand ls e f
  may_stand e form.Return h = returns
  may_stand e form.Break h = h
  may_stand e form.Continue h = h
  may_stand e form.Fallthrough h = h
  may_stand e f h = tt

  mutual
    stands : (r : Scope) (e : Exits) (a b : ℕ) (t : Typed TypeTree) → NamesStand ls rights x r a b t → BranchesStand e t → Stands ls rights x r e a b t
    stands r e a b (typed f i j l ps) n h = (
      n.0,
      n.1,
      n.2,
      n.3,
      may_stand e f h.0,
      n.4,
      unless_both (is_closed f) (AllNamesStand ls rights x (room_in r f i j ps) i j ps) (AllStand ls rights x (room_in r f i j ps) (exits_in e f) i j ps) (λ m. all_stand (room_in r f i j ps) (exits_in e f) i j ps m h.1) n.5,
    )

    all_stand : (r : Scope) (e : Exits) (a b : ℕ) (ps : Typeds TypeTree) → AllNamesStand ls rights x r a b ps → AllBranchesStand e ps → AllStand ls rights x r e a b ps
    all_stand r e a b trees.none n h = n
    all_stand r e a b (trees.more p ps) n h = (stands r e a b p n.0 h.0, all_stand r e (last_of p) b ps n.1 h.1)
    all_stand r e a b (trees.skip ps) n h = all_stand r e a b ps n h

-- ---- functions

-- what is covered is lexically scoped
abbrev pub AreCovered : Type 0
AreCovered = (named written declared : ℕ → Bool) (rights : Rights) (x : Extents) (gone : ℕ → Bool) (local : ℕ → ℕ) (s : List ℕ) (t : Typed TypeTree)
    → IsFunction t → StandsInScope (tested named written declared true) rights x s t → SoundStatement (lexical_links (tested named written declared true)) rights local gone nowhere s s t

pub all_lexical : AreCovered → (fs : List FuncContent) → HaveShape fs → HaveBranches fs → AreLexicalByNames fs
all_lexical c [] h b = tt
all_lexical c (f ∷ fs) h b = (
  λ named written declared rights x local gone s n. let ls : Locals = tested named written declared true in
      c named written declared rights x gone local s f.tree h.0
      (record { names = stands ls rights x refl (record { from = first_of f.tree; to = last_of f.tree }) no_exits (first_of f.tree) (last_of f.tree) f.tree n.names b.0; declared = n.declared }),
  all_lexical c fs h.1 b.1,
)
