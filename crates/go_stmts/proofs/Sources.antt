-- What a specification of constants repeats.
use Rattle.std.proofs.Common.{◌≡◌, ℕ, ◌<◌, ◌≤◌, List, [], ◌∷◌, length, Option, Some, None, refl, sym, subst, arith}
use Rattle.std.specs.Prelude.{IfSome}
use Rattle.std.specs.Option.{option_map}
use Rattle.go_grammar.specs.Trees.{Tree, Trees, none, more, skip}
use Rattle.go_tree.specs.declared.node.Node.{Node}
use Rattle.go_tree.specs.Views.{views}
use Rattle.go_exprs_engine.specs.Literals.{AllRead, PartsRead}
use Rattle.go_stmts_defs.specs.Reading.{part_source}

pub less_than_two : (ns : List (Option Node)) (r : Option Tree) → length ns < 2 → r ≡ part_source (views ns) r
less_than_two [] r lt = refl
less_than_two (None ∷ ns) r lt = refl
less_than_two (Some n ∷ []) r lt = refl
less_than_two (Some n ∷ None ∷ ns) r lt = refl
less_than_two (Some n ∷ Some m ∷ ns) r lt = absurd (omega (arith, lt))

pub more_than_two : (ns : List (Option Node)) (r : Option Tree) → 3 ≤ length ns → r ≡ part_source (views ns) r
more_than_two [] r le = refl
more_than_two (None ∷ ns) r le = refl
more_than_two (Some n ∷ []) r le = refl
more_than_two (Some n ∷ None ∷ ns) r le = refl
more_than_two (Some n ∷ Some m ∷ []) r le = absurd (omega (arith, le))
more_than_two (Some n ∷ Some m ∷ None ∷ ns) r le = refl
more_than_two (Some n ∷ Some m ∷ Some q ∷ ns) r le = refl

module _ (texts : ℕ → List ℕ) where
  -- the literals of what is repeated can be read
  source_read : (ps : Trees) (r : Option Tree) → PartsRead texts ps → IfSome r (AllRead texts) → IfSome (part_source ps r) (AllRead texts)
  source_read none r h k = k
  source_read (skip ps) r h k = k
  source_read (more p none) r h k = k
  source_read (more p (skip ps)) r h k = k
  source_read (more p (more q none)) r h k = h.1.0
  source_read (more p (more q (more o ps))) r h k = k
  source_read (more p (more q (skip ps))) r h k = k

  module _ {A : Type 0} (f : A → Tree) where
    to_tree : (r : Option A) → IfSome r (λ x. AllRead texts (f x)) → IfSome (option_map f r) (AllRead texts)
    to_tree None h = h
    to_tree (Some x) h = h

    of_tree : (r : Option A) → IfSome (option_map f r) (AllRead texts) → IfSome r (λ x. AllRead texts (f x))
    of_tree None h = h
    of_tree (Some x) h = h

    pub source_kept : (ps : Trees) (r q : Option A) → option_map f q ≡ part_source ps (option_map f r) → PartsRead texts ps → IfSome r (λ x. AllRead texts (f x)) → IfSome q (λ x. AllRead texts (f x))
    source_kept ps r q e h k = of_tree q (subst (λ o. IfSome o (AllRead texts)) (sym e) (source_read ps (option_map f r) h (to_tree r k)))
