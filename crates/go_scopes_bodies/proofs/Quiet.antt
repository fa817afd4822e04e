-- What stands outside of functions has no statements and no switches.
use Rattle.std.proofs.Common.{◌≡◌, ℕ, suc, inl, inr, Bool, true, false, List, [], ◌∷◌, ◌++◌, Some, None, refl}
use Rattle.go_grammar.specs.declared.kind.Kind.{Kind}
use Rattle.go_grammar.specs.declared.kind.Kind.TheVariants as kind
use Rattle.go_grammar.specs.declared.kind.Sort.TheVariants as sort
use Rattle.go_grammar.specs.Trees.{Tree, node, Trees, none, more, skip}
use Rattle.go_grammar.specs.Grammar.{ends_named}
use Rattle.go_tree.specs.declared.context.Context.{Context}
use Rattle.go_tree.specs.declared.context.Role.{Role}
use Rattle.go_tree.specs.declared.context.Role.TheVariants as role
use Rattle.go_tree.specs.declared.event.Event.{Event}
use Rattle.go_tree.specs.declared.event.Event.TheVariants as event
use Rattle.go_tree.specs.Contexts.{listed_in, enter}
use Rattle.go_tree.specs.Events.{name_events, own_events, statement_events, is_more, pass, begin, events, events_of}
use Rattle.go_scopes_events.proofs.Public.{is_top, IsInner, AreInner, top_function, true_false, is_outer, is_function, IsOutside, AreOutside}

-- no statement of a list, none that is misplaced, and no second default
abbrev pub IsQuiet : Event → Type 0
IsQuiet (event.Statement i j) = ⊥
IsQuiet (event.Misplaced i j) = ⊥
IsQuiet (event.SecondDefault i) = ⊥
IsQuiet e = Unit {0}

abbrev pub AllQuiet : List Event → Type 0
AllQuiet [] = Unit {0}
AllQuiet (e ∷ es) = IsQuiet e × AllQuiet es

pub quiet_append : (es fs : List Event) → AllQuiet es → AllQuiet fs → AllQuiet (es ++ fs)
quiet_append [] fs h g = g
quiet_append (e ∷ es) fs h g = (h.0, quiet_append es fs h.1 g)

name_quiet : (c : Context) (i : ℕ) (r : Role) → AllQuiet (name_events c i r)
name_quiet c i (role.New d) = (tt, tt)
name_quiet c i (role.Field g) = (tt, tt)
name_quiet c i (role.Key g) = (tt, tt)
name_quiet c i (role.Parameter g None) = (tt, tt)
name_quiet c i (role.Parameter g (Some s)) = (tt, (tt, tt))
name_quiet c i r = (tt, tt)

own_quiet : (c : Context) (k : Kind) (i j : ℕ) (ps : Trees) → is_outer k ≡ true → AllQuiet (own_events c k i j ps)
own_quiet c kind.ImportPath i j ps e = (tt, tt)
own_quiet c kind.FunctionDeclaration i j ps e = cc
own_quiet c (kind.Specification sort.Type) i j ps e = (tt, tt)
own_quiet c kind.DeclaredName i j ps e = name_quiet c i c.role
own_quiet c kind.Name i j ps e = name_quiet c i c.role
own_quiet c kind.Switch i j ps e = cc
own_quiet c kind.Break i j ps e = cc
own_quiet c kind.Continue i j ps e = cc
own_quiet c kind.Fallthrough i j ps e = cc
own_quiet c k i j ps e = tt

statement_quiet : (b : Bool) (i j : ℕ) → b ≡ false → AllQuiet (statement_events b i j)
statement_quiet true i j e = cc
statement_quiet false i j e = tt

not_listed : (k : Kind) (n : ℕ) → is_outer k ≡ true → listed_in k n ≡ false
not_listed kind.Block n e = cc
not_listed kind.Case n e = cc
not_listed kind.Default n e = cc
not_listed k n e = refl

node_quiet : (c : Context) (k : Kind) (i j : ℕ) (ps : Trees) → IsOutside (node k i j ps) → is_top k ≡ false → c.listed ≡ false
    → (is_outer k ≡ true → AreOutside ps → AllQuiet (events_of (begin c k) k i j ps 0 ps)) → AllQuiet (events c (node k i j ps))
node_quiet c k i j ps (inl f) x l go = absurd (true_false (is_function k) f (top_function k x))
node_quiet c k i j ps (inr o) x l go =
    quiet_append (statement_events c.listed i j ++ own_events c k i j ps) (events_of (begin c k) k i j ps 0 ps)
    (quiet_append (statement_events c.listed i j) (own_events c k i j ps) (statement_quiet c.listed i j l) (own_quiet c k i j ps o.0))
    (go o.0 o.1)

mutual
  pub tree_quiet : (c : Context) (t : Tree) → IsOutside t → IsInner t → c.listed ≡ false → AllQuiet (events c t)
  tree_quiet c (node k i j ps) o x l = node_quiet c k i j ps o x.0 l (λ e a. parts_quiet (begin c k) k i j ps 0 ps e a x.1)

  parts_quiet : (c : Context) (k : Kind) (i j : ℕ) (ps : Trees) (n : ℕ) (qs : Trees) → is_outer k ≡ true → AreOutside qs → AreInner qs → AllQuiet (events_of c k i j ps n qs)
  parts_quiet c k i j ps n none e o x = tt
  parts_quiet c k i j ps n (more q qs) e o x =
      quiet_append (events (enter c k i j ps (ends_named ps) n q (is_more qs)) q) (events_of (pass c q) k i j ps (suc n) qs)
      (tree_quiet (enter c k i j ps (ends_named ps) n q (is_more qs)) q o.0 x.0 (not_listed k n e)) (parts_quiet (pass c q) k i j ps (suc n) qs e o.1 x.1)
  parts_quiet c k i j ps n (skip qs) e o x = parts_quiet c k i j ps (suc n) qs e o x
