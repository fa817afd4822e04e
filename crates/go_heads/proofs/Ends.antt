-- Where a block ends doesn't count for what stands in expressions, in signatures and in inner blocks.
use Rattle.std.proofs.Common.{◌≡◌, ◌∙◌, ℕ, suc, Bool, true, false, List, [], ◌++◌, refl, sym, ap, subst}
use Rattle.go_tokens.specs.declared.token.TokenKind.{TokenKind}
use Rattle.go_grammar.specs.declared.kind.Kind.{Kind}
use Rattle.go_grammar.specs.declared.kind.Kind.TheVariants as kind
use Rattle.go_grammar.specs.declared.kind.Category.TheVariants as category
use Rattle.go_grammar.specs.Categories.{within}
use Rattle.go_grammar.specs.Trees.{Tree, node, Trees, none, more, skip}
use Rattle.go_grammar.specs.Grammar.{Derives, ends_named}
use Rattle.go_tree.specs.declared.context.Role.{Role}
use Rattle.go_tree.specs.declared.context.Role.TheVariants as role
use Rattle.go_tree.specs.declared.context.Context.{Context}
use Rattle.go_tree.specs.Contexts.{end_in, file_context, enter}
use Rattle.go_tree.specs.Events.{name_events, own_events, statement_events, declaration_events, is_more, pass, begin, events, events_of}
use Rattle.go_scopes_events.proofs.Public.{Function, Holding, layer, IsPlain, ArePlain, AreLayered, derives_layered}

-- in front of another end
abbrev pub ending : Context → ℕ → Context
ending c e = record c { end = e }

name_end : (c : Context) (e i : ℕ) (r : Role) → name_events (ending c e) i r ≡ name_events c i r
name_end c e i (role.New d) = refl
name_end c e i (role.Field g) = refl
name_end c e i (role.Key g) = refl
name_end c e i (role.Parameter g s) = refl
name_end c e i r = refl

own_end : (c : Context) (e : ℕ) (k : Kind) (i j : ℕ) (ps : Trees) → layer k ≡ Holding → own_events (ending c e) k i j ps ≡ own_events c k i j ps
own_end c e (kind.Specification s) i j ps h = absurd cc
own_end c e kind.DeclaredName i j ps h = name_end c e i c.role
own_end c e kind.Name i j ps h = name_end c e i c.role
own_end c e k i j ps h = refl

begin_end : (c : Context) (e : ℕ) (k : Kind) → begin (ending c e) k ≡ ending (begin c k) e
begin_end c e (kind.Declaration s) = refl
begin_end c e k = refl

enter_end : (c : Context) (e : ℕ) (k : Kind) (i j : ℕ) (ps : Trees) (named : Bool) (n : ℕ) (p : Tree) (b : Bool) → layer k ≡ Holding
    → enter (ending c e) k i j ps named n p b ≡ ending (enter c k i j ps named n p b) (end_in (ending c e) k j)
enter_end c e (kind.Specification s) i j ps named n p b h = absurd cc
enter_end c e kind.Define i j ps named n p b h = absurd cc
enter_end c e kind.DefiningRange i j ps named n p b h = absurd cc
enter_end c e kind.FunctionDeclaration i j ps named n p b h = absurd cc
enter_end c e k i j ps named n p b h = refl

mutual
  pub plain_end : (c : Context) (e : ℕ) (t : Tree) → IsPlain t → events (ending c e) t ≡ events c t
  plain_end c e (node k i j ps) h =
      ap (λ es. (statement_events c.listed i j ++ es) ++ events_of (begin (ending c e) k) k i j ps 0 ps) (own_end c e k i j ps h.0)
      ∙ ap (λ x. (statement_events c.listed i j ++ own_events c k i j ps) ++ events_of x k i j ps 0 ps) (begin_end c e k)
      ∙ ap (λ es. (statement_events c.listed i j ++ own_events c k i j ps) ++ es) (parts_end (begin c k) e k i j ps 0 ps h.0 h.1)

  parts_end : (c : Context) (e : ℕ) (k : Kind) (i j : ℕ) (ps : Trees) (n : ℕ) (qs : Trees) → layer k ≡ Holding → ArePlain qs → events_of (ending c e) k i j ps n qs ≡ events_of c k i j ps n qs
  parts_end c e k i j ps n none h x = refl
  parts_end c e k i j ps n (more q qs) h x =
      ap (λ z. events z q ++ events_of (pass (ending c e) q) k i j ps (suc n) qs) (enter_end c e k i j ps (ends_named ps) n q (is_more qs) h)
      ∙ ap (λ es. es ++ events_of (pass (ending c e) q) k i j ps (suc n) qs) (plain_end (enter c k i j ps (ends_named ps) n q (is_more qs)) (end_in (ending c e) k j) q x.0)
      ∙ ap (λ es. events (enter c k i j ps (ends_named ps) n q (is_more qs)) q ++ es) (parts_end (pass c q) e k i j ps (suc n) qs h x.1)
  parts_end c e k i j ps n (skip qs) h x = parts_end c e k i j ps (suc n) qs h x

inner_end : (c : Context) (e : ℕ) (i j : ℕ) (ps : Trees) (n : ℕ) (qs : Trees) → events_of (ending c e) kind.Block i j ps n qs ≡ events_of c kind.Block i j ps n qs
inner_end c e i j ps n none = refl
inner_end c e i j ps n (more q qs) = ap (λ es. events (enter c kind.Block i j ps (ends_named ps) n q (is_more qs)) q ++ es) (inner_end (pass c q) e i j ps (suc n) qs)
inner_end c e i j ps n (skip qs) = inner_end c e i j ps (suc n) qs

block_kind : (k : Kind) → within category.Block k ≡ true → k ≡ kind.Block
block_kind kind.Block h = refl
block_kind _ h = cc

module _ (ts : List TokenKind) where
  block_end : (c : Context) (e : ℕ) (b : Tree) → Derives ts category.Block b → events (ending c e) b ≡ events c b
  block_end c e (node k i j ps) g =
      subst (λ x. events (ending c e) (node x i j ps) ≡ events c (node x i j ps)) (sym (block_kind k g.0))
      (ap (λ es. (statement_events c.listed i j ++ []) ++ es) (inner_end (begin c kind.Block) e i j ps 0 ps))

  pub function_end : (e l : ℕ) (i j : ℕ) (ps : Trees) → Derives ts category.Declaration (node kind.FunctionDeclaration i j ps)
      → events (file_context e) (node kind.FunctionDeclaration i j ps) ≡ events (file_context l) (node kind.FunctionDeclaration i j ps)
  function_end e l i j none h = absurd h.1
  function_end e l i j (skip ps) h = absurd h.1
  function_end e l i j (more s none) h = absurd h.1.2
  function_end e l i j (more s (skip (more q qs))) h = absurd h.1.2.2
  function_end e l i j (more s (skip (skip qs))) h = absurd h.1.2.2
  function_end e l i j (more s (more b (more q qs))) h = absurd h.1.2.2
  function_end e l i j (more s (more b (skip qs))) h = absurd h.1.2.2
  function_end e l i j (more s (skip none)) h =
      let ps = more s (skip none) in
      let layered : AreLayered Function ps = derives_layered ts (node kind.FunctionDeclaration i j ps) category.Declaration h in
      let around : Context = enter (begin (file_context l) kind.FunctionDeclaration) kind.FunctionDeclaration i j ps (ends_named ps) 0 s false in
      ap (λ es. declaration_events i j ps ++ (es ++ [])) (plain_end around e s layered.0)
  function_end e l i j (more s (more b none)) h =
      let ps = more s (more b none) in
      let layered : AreLayered Function ps = derives_layered ts (node kind.FunctionDeclaration i j ps) category.Declaration h in
      let front : Context = begin (file_context l) kind.FunctionDeclaration in
      let around : Context = enter front kind.FunctionDeclaration i j ps (ends_named ps) 0 s true in
      let inner : Context = enter (pass front s) kind.FunctionDeclaration i j ps (ends_named ps) 1 b false in
      ap (λ es. declaration_events i j ps ++ (es ++ (events (ending inner e) b ++ []))) (plain_end around e s layered.0)
      ∙ ap (λ es. declaration_events i j ps ++ (events around s ++ (es ++ []))) (block_end inner e b h.1.2.1)
