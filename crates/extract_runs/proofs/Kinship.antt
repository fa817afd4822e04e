-- An old tree is kin to its image.
use Rattle.std.proofs.Common.{ℕ, ◌≤◌, arith}
use Rattle.go_types.specs.Trees.{TypeTree}
use Rattle.go_typed.specs.Trees.{Typed, Typeds}
use Rattle.go_meaning.specs.Plans.{Give, Local}
use Rattle.go_meaning_simulation.specs.Links.{Links, Ways}
use Rattle.go_meaning_simulation.specs.Kin.{Statement, Chain}
use Rattle.go_meaning_simulation.specs.Kin as kin
use Rattle.extract_runs.specs.Images.{Renewal, Image, Images, Listed}
use Rattle.extract_runs.specs.Images as images
use Rattle.extract_runs.specs.Sound.{SoundStatement, SoundChain}
use Rattle.extract_runs.proofs.Follows.{Agrees, Follow, Row, ListRow, none, more, skip, ends, value, next, left_out, window}
use Rattle.extract_runs.proofs.Nodes.{node_follows, list_follows, give_follows, loop_follows}
use Rattle.extract_runs.proofs.Rows as rows

module _ (l : Links) (r : Renewal) (k : ℕ) (g : Agrees l r k) where
  mutual
    pub follows : {n : ℕ} {t t' : Typed TypeTree} → Image r n t t' → Follow l r k n t t'
    follows (images.node p single e e' ps) = node_follows l r k g _ _ _ _ _ _ _ _ _ _ _ p single e e' (row_follows ps)
    follows (images.list p is e e' ps) = list_follows l r k g _ _ _ _ _ _ _ _ _ _ _ p is e e' (list_row_follows ps)
    follows (images.loop ps) = loop_follows l r k g _ _ _ _ _ _ _ _ _ (row_follows ps)
    follows (images.constant {v = v} e e') = give_follows l r k g _ _ _ _ _ _ _ _ _ _ _ _ e (λ s. kin.leaf (Give v) (Give _) e e' (kin.gives (g.values v)))
    follows (images.held {p = p} {v = v} e e' h) = give_follows l r k g _ _ _ _ _ _ _ _ _ _ _ _ e (λ s. kin.leaf (Give v) (Local p) e e' (kin.holds (g.holds s v p h)))
    follows (images.keyed {p = p} {v = v} e e' d h) = give_follows l r k g _ _ _ _ _ _ _ _ _ _ _ _ e (λ s. kin.keyed e e' d (g.holds s v p h))

    row_follows : {n : ℕ} {ps ps' : Typeds TypeTree} → Images r n ps ps' → Row l r k n ps ps'
    row_follows images.none = none
    row_follows (images.more a b ab t ts) = more a b ab (follows t) (row_follows ts)
    row_follows (images.skip ts) = skip (row_follows ts)

    list_row_follows : {n j : ℕ} {ps ps' : Typeds TypeTree} → Listed r n j ps ps' → ListRow l r k n j ps ps'
    list_row_follows images.ends = ends
    list_row_follows (images.value t ts) = value (follows t) (list_row_follows ts)
    list_row_follows (images.next a b ab there t ts) = next a b ab there (follows t) (list_row_follows ts)
    list_row_follows (images.left_out ts) = left_out (list_row_follows ts)
    list_row_follows (images.window bn e e' w ts) = window bn e e' w (list_row_follows ts)

  -- with at most n windows, which cost no more than a turn pays for
  pub images_are_kin : {n : ℕ} {t t' : Typed TypeTree} (W : Ways l.Scope) (s s' : l.Scope) → n ≤ k → Image r n t t' → SoundStatement l r.old r.local r.gone W s s' t → Statement l r.old r.new W s s' n t t'
  images_are_kin {n = n} W s s' nk image t = let f = follows image in f.statement nk W s s' n (le_refl n) t
    where
      le_refl : (n : ℕ) → n ≤ n
      le_refl n = omega arith

  pub lists_are_kin : {n : ℕ} {ps ps' : Typeds TypeTree} (W : Ways l.Scope) (s s' : l.Scope) → n ≤ k → Listed r n 0 ps ps' → SoundChain l r.old r.local r.gone W s s' ps → Chain l r.old r.new W s s' n ps ps'
  lists_are_kin {n = n} W s s' nk image c = rows.chain l r k g W s s' n nk (le_refl n) (list_row_follows image) c
    where
      le_refl : (n : ℕ) → n ≤ n
      le_refl n = omega arith
