-- Trees whose nodes lie in the order of their tokens, and holes that lie apart, in other words.
use Rattle.std.proofs.Common.{ℕ, ◌≡◌, List, [], ◌∷◌, refl, sym, subst}
use Rattle.go_types.specs.Trees.{TypeTree}
use Rattle.go_typed.specs.Trees.{Typed, typed, Typeds, none, more, skip, last_of, mapped, all_mapped}
use Rattle.param_choose.specs.Holes.{Hole}
use Rattle.go_function_holes.specs.Holes.{LieApart}
use Rattle.go_stmts_tokens.specs.Lying.{Lies, AllLie}
use Rattle.window_holes_apart.specs.Apart as apart

pub lie_apart : (i j : ℕ) (hs : List (Hole TypeTree)) → apart.LieApart i hs j → LieApart i hs j
lie_apart i j [] h = h
lie_apart i j (x ∷ hs) h = (h.0, h.1, lie_apart x.upto j hs h.2)

-- ---- under other numbers of declared types

module _ (g : TypeTree → TypeTree) where
  last_mapped : (x : Typed TypeTree) → last_of (mapped g x) ≡ last_of x
  last_mapped (typed f i j l ps) = refl

  mutual
    pub mapped_lies : (a b : ℕ) (x : Typed TypeTree) → Lies a b x → Lies a b (mapped g x)
    mapped_lies a b (typed f i j l ps) h = (h.0, h.1, h.2, all_mapped_lie i j ps h.3)

    all_mapped_lie : (a b : ℕ) (ps : Typeds TypeTree) → AllLie a b ps → AllLie a b (all_mapped g ps)
    all_mapped_lie a b none h = h
    all_mapped_lie a b (more p ps) h = (mapped_lies a b p h.0, subst (λ m. AllLie m b (all_mapped g ps)) (sym (last_mapped p)) (all_mapped_lie (last_of p) b ps h.1))
    all_mapped_lie a b (skip ps) h = all_mapped_lie a b ps h
