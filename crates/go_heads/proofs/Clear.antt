-- What trees tell that lie outside all bodies, and what a body tells.
use Rattle.std.proofs.Common.{◌≡◌, ◌∙◌, ℕ, suc, ◌<◌, ◌≤◌, Bool, true, false, List, [], ◌∷◌, ◌++◌, Some, None, refl, ap, arith}
use Rattle.std.specs.Prelude.{if◌then◌else◌, ◌&&◌, not}
use Rattle.go_grammar.specs.declared.kind.Kind.{Kind}
use Rattle.go_grammar.specs.declared.kind.Kind.TheVariants as kind
use Rattle.go_grammar.specs.declared.kind.Sort.TheVariants as sort
use Rattle.go_grammar.specs.Trees.{Tree, node, Trees, none, more, skip}
use Rattle.go_grammar.specs.Grammar.{ends_named}
use Rattle.go_tree.specs.declared.context.Block.TheVariants as block
use Rattle.go_tree.specs.declared.context.Role.{Role}
use Rattle.go_tree.specs.declared.context.Role.TheVariants as role
use Rattle.go_tree.specs.declared.context.Context.{Context}
use Rattle.go_tree.specs.declared.event.Declaration.{Declaration}
use Rattle.go_tree.specs.declared.event.Event.{Event}
use Rattle.go_tree.specs.declared.event.Event.TheVariants as event
use Rattle.go_tree.specs.Contexts.{is_package, opens, block_in, enter}
use Rattle.go_tree.specs.Events.{name_events, own_events, statement_events, is_more, pass, begin, events, events_of}
use Rattle.go_scopes_events.specs.Orders.{AreInOrder, EachDeclared}
use Rattle.go_scopes_events.proofs.Public.{is_top, IsInner, AreInner, true_false, each_append, statement_each, misplaced_each, second_each}
use Rattle.go_heads.specs.Told.{declares, asks, new_name, asked_name, tell, told}
use Rattle.go_heads.proofs.Telling.{no_token}

order_grows : (i j : ℕ) (es : List Event) → AreInOrder i j es → i ≤ j
order_grows i j [] o = o
order_grows i j (event.Declaration d ∷ es) o = omega (arith, o.0, order_grows (suc d.name) j es o.1)
order_grows i j (event.Use u ∷ es) o = omega (arith, o.0, order_grows (suc u.name) j es o.1)
order_grows i j (e ∷ es) o = order_grows i j es o

abbrev pub IsLocal : Declaration → Type 0
IsLocal d = is_package d.block ≡ false

module _ (p : ℕ → Bool) where
  -- names of which none passes the test are all told
  pub told_clear : (i j : ℕ) (es : List Event) → AreInOrder i j es → ((n : ℕ) → i ≤ n → n < j → p n ≡ false) → told p es ≡ told no_token es
  told_clear i j [] o f = refl
  told_clear i j (event.Declaration d ∷ es) o f =
      ap (λ b. if is_package d.block && not b then declares (new_name d) ∷ told p es else told p es) (f d.name o.0 (omega (arith, order_grows (suc d.name) j es o.1)))
      ∙ ap (tell no_token (event.Declaration d)) (told_clear (suc d.name) j es o.1 (λ n lo hi. f n (omega (arith, lo, o.0)) hi))
  told_clear i j (event.Use u ∷ es) o f =
      ap (λ b. if b then told p es else asks (asked_name u) ∷ told p es) (f u.name o.0 (omega (arith, order_grows (suc u.name) j es o.1)))
      ∙ ap (tell no_token (event.Use u)) (told_clear (suc u.name) j es o.1 (λ n lo hi. f n (omega (arith, lo, o.0)) hi))
  told_clear i j (e ∷ es) o f = told_clear i j es o f

  -- where all pass and no name is declared in the package block nothing is told
  pub told_none : (i j : ℕ) (es : List Event) → AreInOrder i j es → EachDeclared IsLocal es → ((n : ℕ) → i ≤ n → n < j → p n ≡ true) → told p es ≡ []
  told_none i j [] o l f = refl
  told_none i j (event.Declaration d ∷ es) o l f =
      ap (λ b. if b && not (p d.name) then declares (new_name d) ∷ told p es else told p es) l.0
      ∙ told_none (suc d.name) j es o.1 l.1 (λ n lo hi. f n (omega (arith, lo, o.0)) hi)
  told_none i j (event.Use u ∷ es) o l f =
      ap (λ b. if b then told p es else asks (asked_name u) ∷ told p es) (f u.name o.0 (omega (arith, order_grows (suc u.name) j es o.1)))
      ∙ told_none (suc u.name) j es o.1 l (λ n lo hi. f n (omega (arith, lo, o.0)) hi)
  told_none i j (e ∷ es) o l f = told_none i j es o l f

-- ---- blocks

name_local : (c : Context) (i : ℕ) (r : Role) → is_package c.block ≡ false → EachDeclared IsLocal (name_events c i r)
name_local c i (role.New d) h = (h, tt)
name_local c i (role.Parameter g None) h = tt
name_local c i (role.Parameter g (Some s)) h = (refl, tt)
name_local c i r h = tt

own_local : (c : Context) (k : Kind) (i j : ℕ) (ps : Trees) → is_top k ≡ false → is_package c.block ≡ false → EachDeclared IsLocal (own_events c k i j ps)
own_local c kind.FunctionDeclaration i j ps e h = absurd (true_false true refl e)
own_local c (kind.Specification sort.Type) i j ps e h = (h, tt)
own_local c kind.DeclaredName i j ps e h = name_local c i c.role h
own_local c kind.Name i j ps e h = name_local c i c.role h
own_local c kind.Switch i j ps e h = second_each IsLocal false ps
own_local c kind.Break i j ps e h = misplaced_each IsLocal c.breaks i j
own_local c kind.Continue i j ps e h = misplaced_each IsLocal c.continues i j
own_local c kind.Fallthrough i j ps e h = misplaced_each IsLocal c.falls i j
own_local c k i j ps e h = tt

block_local : (c : Context) (k : Kind) (i : ℕ) → is_package c.block ≡ false → is_package (block_in c k i) ≡ false
block_local c k i h = elim (opens k) as (λ b. is_package (if b then block.Local i else c.block) ≡ false) [ true ↦ refl | false ↦ h ]

mutual
  tree_local : (c : Context) (t : Tree) → IsInner t → is_package c.block ≡ false → EachDeclared IsLocal (events c t)
  tree_local c (node k i j ps) x h =
      each_append IsLocal (statement_events c.listed i j ++ own_events c k i j ps) (events_of (begin c k) k i j ps 0 ps)
      (each_append IsLocal (statement_events c.listed i j) (own_events c k i j ps) (statement_each IsLocal c.listed i j) (own_local c k i j ps x.0 h))
      (parts_local (begin c k) k i j ps 0 ps x.1 (block_local c k i h))

  parts_local : (c : Context) (k : Kind) (i j : ℕ) (ps : Trees) (n : ℕ) (qs : Trees) → AreInner qs → is_package (block_in c k i) ≡ false → EachDeclared IsLocal (events_of c k i j ps n qs)
  parts_local c k i j ps n none x h = tt
  parts_local c k i j ps n (more q qs) x h =
      each_append IsLocal (events (enter c k i j ps (ends_named ps) n q (is_more qs)) q) (events_of (pass c q) k i j ps (suc n) qs)
      (tree_local (enter c k i j ps (ends_named ps) n q (is_more qs)) q x.0 h)
      (parts_local (pass c q) k i j ps (suc n) qs x.1 h)
  parts_local c k i j ps n (skip qs) x h = parts_local c k i j ps (suc n) qs x h

-- a block declares nothing in that of the package
pub block_declares : (c : Context) (i j : ℕ) (ps : Trees) → AreInner ps → EachDeclared IsLocal (events c (node kind.Block i j ps))
block_declares c i j ps x =
    each_append IsLocal (statement_events c.listed i j ++ []) (events_of (begin c kind.Block) kind.Block i j ps 0 ps)
    (each_append IsLocal (statement_events c.listed i j) [] (statement_each IsLocal c.listed i j) tt)
    (parts_local (begin c kind.Block) kind.Block i j ps 0 ps x refl)
