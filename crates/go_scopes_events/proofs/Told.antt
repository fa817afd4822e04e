-- What is told in a walk over the parts of a node, one part further.
use Rattle.std.proofs.Common.{◌≡◌, ℕ, suc, ◌+◌, Bool, List, ◌++◌, Some, Option, drop, slice_get, sym, ap, ◌∙◌, append_assoc, add-one, [], ◌∷◌, zero}
use Rattle.go_grammar.specs.declared.kind.Kind.{Kind}
use Rattle.go_grammar.specs.Trees.{Tree, Trees, more}
use Rattle.go_grammar.specs.Grammar.{ends_named}
use Rattle.go_tree.specs.declared.node.Node.{Node}
use Rattle.go_tree.specs.Views.{view, views}
use Rattle.go_tree.specs.declared.context.Context.{Context}
use Rattle.go_tree.specs.declared.event.Event.{Event}
use Rattle.go_tree.specs.Contexts.{enter}
use Rattle.go_tree.specs.Events.{pass, is_more, events, events_of}

-- the parts that are left at one that is there
pub views-at : (ps : List (Option Node)) (n : ℕ) (p : Node) → slice_get ps n ≡ Some (Some p) → views (drop n ps) ≡ more (view p) (views (drop (n + 1) ps))
views-at ps n p h = views-at-suc ps n p h ∙ ap (λ m. more (view p) (views (drop m ps))) (sym (add-one n))
  where
    views-at-suc : (ps : List (Option Node)) (n : ℕ) (p : Node) → slice_get ps n ≡ Some (Some p) → views (drop n ps) ≡ more (view p) (views (drop (suc n) ps))
    views-at-suc [] n p h = cc
    views-at-suc (q ∷ ps) zero p h = let same : q ≡ Some p = cc in ap (λ x. views (x ∷ ps)) same
    views-at-suc (q ∷ ps) (suc n) p h = views-at-suc ps n p h

pub told-more : (c d below : Context) (k : Kind) (i j : ℕ) (ps : Trees) (named : Bool) (n : ℕ) (t : Tree) (left rest : Trees) (b : Bool) (out now start : List Event) → left ≡ more t rest → named ≡ ends_named ps → b ≡ is_more rest → below ≡ enter c k i j ps named n t b → d ≡ pass c t → now ≡ out ++ events below t → out ++ events_of c k i j ps n left ≡ start → now ++ events_of d k i j ps (n + 1) rest ≡ start
told-more c d below k i j ps named n t left rest b out now start here all behind inside passed told before =
    let within : below ≡ enter c k i j ps (ends_named ps) n t (is_more rest) =
    inside ∙ ap (λ x. enter c k i j ps x n t b) all ∙ ap (λ x. enter c k i j ps (ends_named ps) n t x) behind in
    ap (λ l. l ++ events_of d k i j ps (n + 1) rest) told
    ∙ append_assoc out (events below t) (events_of d k i j ps (n + 1) rest)
    ∙ ap (λ x. out ++ (events x t ++ events_of d k i j ps (n + 1) rest)) within
    ∙ ap (λ x. out ++ (events (enter c k i j ps (ends_named ps) n t (is_more rest)) t ++ events_of x k i j ps (n + 1) rest)) passed
    ∙ ap (λ m. out ++ (events (enter c k i j ps (ends_named ps) n t (is_more rest)) t ++ events_of (pass c t) k i j ps m rest)) (add-one n)
    ∙ ap (λ ts. out ++ events_of c k i j ps n ts) (sym here)
    ∙ before
