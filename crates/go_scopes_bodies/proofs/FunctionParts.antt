-- What a function tells stands in its signature or in its body, and what it declares but for itself is local.
use Rattle.std.proofs.Common.{◌≡◌, ◌∙◌, ℕ, zero, suc, ◌<◌, ◌≤◌, ◌⊎◌, inl, inr, Bool, true, false, List, [], ◌∷◌, ◌++◌, Option, Some, None, refl, sym, ap, subst, arith}
use Rattle.std.specs.Prelude.{if◌then◌else◌, nat_lt}
use Rattle.go_tokens.specs.declared.token.TokenKind.{TokenKind}
use Rattle.go_grammar.specs.declared.kind.Kind.{Kind}
use Rattle.go_grammar.specs.declared.kind.Kind.TheVariants as kind
use Rattle.go_grammar.specs.declared.kind.Sort.TheVariants as sort
use Rattle.go_grammar.specs.declared.kind.Category.TheVariants as category
use Rattle.go_grammar.specs.Trees.{Tree, node, Trees, none, more, skip, kind_of, first, last, parts}
use Rattle.go_grammar.specs.Grammar.{Derives, is_name, ends_named}
use Rattle.go_rewriting.specs.Lists.{InOrder}
use Rattle.go_rewriting.proofs.Public.{tree_order, derives_ordered}
use Rattle.go_tree.specs.declared.context.Block.{Block}
use Rattle.go_tree.specs.declared.context.Block.TheVariants as block
use Rattle.go_tree.specs.declared.context.Entity.{Entity}
use Rattle.go_tree.specs.declared.context.Entity.TheVariants as entity
use Rattle.go_tree.specs.declared.context.Role.{Role}
use Rattle.go_tree.specs.declared.context.Role.TheVariants as role
use Rattle.go_tree.specs.declared.context.Scope.{Scope}
use Rattle.go_tree.specs.declared.context.Context.{Context}
use Rattle.go_tree.specs.declared.event.Declaration.{Declaration}
use Rattle.go_tree.specs.declared.event.Event.{Event}
use Rattle.go_tree.specs.declared.event.Event.TheVariants as event
use Rattle.go_tree.specs.declared.event.Use.{Use}
use Rattle.go_tree.specs.Contexts.{is_there, is_package, file_context, opens, block_in, body_scope, source_of, role_in, called_in, if_name, if_first, field_role, key_role, parameter_role, entry_role, enter}
use Rattle.go_tree.specs.Events.{name_events, own_events, statement_events, function_events, declaration_events, is_more, pass, begin, events, events_of}
use Rattle.go_tree.specs.Lists.{is_function}
use Rattle.go_tree.specs.Views.{part_at}
use Rattle.go_scopes_events.specs.Orders.{EachDeclared, BeginsAt, BeginsIn, IsFollowed}
use Rattle.go_scopes_events.specs.Sited.{EachUsed}
use Rattle.go_scopes_events.proofs.Public.{is_top, IsInner, AreInner, derives_inner, each_between, true_false, Function as FunctionLayer, Holding, layer, IsPlain, ArePlain, AreLayered, derives_layered, IsOnly, each_append, each_map, statement_each, misplaced_each, second_each, plain_only, self_gives, body_behind, IsLaidOut, derives_laid, events_order}
use Rattle.go_heads.proofs.Public.{NamesIn, ordered_names, each_both, each_left, each_right, some_none, same_some}
use Rattle.go_scopes_bodies.proofs.Lying.{site_token, ListLies, AllLie, tree_lies}
use Rattle.go_scopes_bodies.proofs.Unused.{EndsBy, tree_ends}

-- ---- locals

abbrev IsLocal : Declaration → Type 0
IsLocal d = is_package d.block ≡ false

-- no name is declared
abbrev NamesNone : Role → Type 0
NamesNone (role.New d) = ⊥
NamesNone r = Unit {0}

name_plain : (c : Context) (i : ℕ) (r : Role) → NamesNone r → EachDeclared IsLocal (name_events c i r)
name_plain c i (role.New d) h = absurd h
name_plain c i (role.Parameter g None) h = tt
name_plain c i (role.Parameter g (Some s)) h = (refl, tt)
name_plain c i r h = tt

own_plain : (c : Context) (k : Kind) (i j : ℕ) (ps : Trees) → layer k ≡ Holding → NamesNone c.role → EachDeclared IsLocal (own_events c k i j ps)
own_plain c kind.FunctionDeclaration i j ps x h = cc
own_plain c (kind.Specification s) i j ps x h = cc
own_plain c kind.DeclaredName i j ps x h = name_plain c i c.role h
own_plain c kind.Name i j ps x h = name_plain c i c.role h
own_plain c kind.Switch i j ps x h = second_each IsLocal false ps
own_plain c kind.Break i j ps x h = misplaced_each IsLocal c.breaks i j
own_plain c kind.Continue i j ps x h = misplaced_each IsLocal c.continues i j
own_plain c kind.Fallthrough i j ps x h = misplaced_each IsLocal c.falls i j
own_plain c k i j ps x h = tt

if_none : (p : Tree) (r : Role) → NamesNone r → NamesNone (if_name p r)
if_none p r h = elim (is_name (kind_of p)) as (λ b. NamesNone (if b then r else role.Operand)) [ true ↦ h | false ↦ tt ]

first_none : (n : ℕ) (r : Role) → NamesNone r → NamesNone (if_first n r)
first_none zero r h = h
first_none (suc n) r h = tt

called_none : (r : Role) → NamesNone (called_in r)
called_none role.Called = tt
called_none r = tt

field_none : (group : Option ℕ) → NamesNone (field_role group)
field_none None = tt
field_none (Some g) = tt

key_none : (group : Option ℕ) → NamesNone (key_role group)
key_none None = tt
key_none (Some g) = tt

parameter_none : (group : Option ℕ) (s : Option Scope) → NamesNone (parameter_role group s)
parameter_none None s = tt
parameter_none (Some g) s = tt

entry_none : (named : Bool) (p : Tree) (group : ℕ) (s : Option Scope) → NamesNone (entry_role named p group s)
entry_none true p group s = if_none p (role.Parameter group s) tt
entry_none false p group s = tt

role_none : (c : Context) (k : Kind) (i j : ℕ) (named : Bool) (n : ℕ) (p : Tree) → layer k ≡ Holding → NamesNone c.role → NamesNone (role_in c k i j named n p)
role_none c (kind.Specification s) i j named n p x h = cc
role_none c kind.Define i j named n p x h = cc
role_none c kind.DefiningRange i j named n p x h = cc
role_none c kind.NameList i j named n p x h = h
role_none c kind.NewNames i j named n p x h = h
role_none c kind.ExpressionList i j named n p x h = if_none p c.role h
role_none c kind.Call i j named n p x h = first_none n role.Called tt
role_none c kind.Parenthesized i j named n p x h = called_none c.role
role_none c kind.Selector i j named n p x h = if_none p (role.Selected j _) tt
role_none c kind.Fields i j named n p x h = first_none n (field_role c.group) (field_none c.group)
role_none c kind.Keyed i j named n p x h = first_none n (key_role c.group) (key_none c.group)
role_none c kind.Parameters i j named n p x h = entry_none named p i c.parameters
role_none c kind.Parameter i j named n p x h = first_none n (parameter_role c.group c.parameters) (parameter_none c.group c.parameters)
role_none c k i j named n p x h = tt

mutual
  -- a signature declares locals
  plain_local : (c : Context) (t : Tree) → IsPlain t → NamesNone c.role → EachDeclared IsLocal (events c t)
  plain_local c (node k i j ps) x h =
      each_append IsLocal (statement_events c.listed i j ++ own_events c k i j ps) (events_of (begin c k) k i j ps 0 ps)
      (each_append IsLocal (statement_events c.listed i j) (own_events c k i j ps) (statement_each IsLocal c.listed i j) (own_plain c k i j ps x.0 h))
      (parts_plain (begin c k) k i j ps 0 ps x.0 x.1 h)

  parts_plain : (c : Context) (k : Kind) (i j : ℕ) (ps : Trees) (n : ℕ) (qs : Trees) → layer k ≡ Holding → ArePlain qs → NamesNone c.role → EachDeclared IsLocal (events_of c k i j ps n qs)
  parts_plain c k i j ps n none e x h = tt
  parts_plain c k i j ps n (more q qs) e x h =
      each_append IsLocal (events (enter c k i j ps (ends_named ps) n q (is_more qs)) q) (events_of (pass c q) k i j ps (suc n) qs)
      (plain_local (enter c k i j ps (ends_named ps) n q (is_more qs)) q x.0 (role_none c k i j (ends_named ps) n q e h)) (parts_plain (pass c q) k i j ps (suc n) qs e x.1 h)
  parts_plain c k i j ps n (skip qs) e x h = parts_plain c k i j ps (suc n) qs e x h

name_local : (c : Context) (i : ℕ) (r : Role) → is_package c.block ≡ false → EachDeclared IsLocal (name_events c i r)
name_local c i (role.New d) h = (h, tt)
name_local c i (role.Parameter g None) h = tt
name_local c i (role.Parameter g (Some s)) h = (refl, tt)
name_local c i r h = tt

own_local : (c : Context) (k : Kind) (i j : ℕ) (ps : Trees) → is_top k ≡ false → is_package (block_in c k i) ≡ false → EachDeclared IsLocal (own_events c k i j ps)
own_local c kind.FunctionDeclaration i j ps x h = absurd (true_false true refl x)
own_local c (kind.Specification sort.Type) i j ps x h = (h, tt)
own_local c kind.DeclaredName i j ps x h = name_local c i c.role h
own_local c kind.Name i j ps x h = name_local c i c.role h
own_local c kind.Switch i j ps x h = second_each IsLocal false ps
own_local c kind.Break i j ps x h = misplaced_each IsLocal c.breaks i j
own_local c kind.Continue i j ps x h = misplaced_each IsLocal c.continues i j
own_local c kind.Fallthrough i j ps x h = misplaced_each IsLocal c.falls i j
own_local c k i j ps x h = tt

inner_block : (b : Bool) (c : Block) (i : ℕ) → is_package c ≡ false → is_package (if b then block.Local i else c) ≡ false
inner_block true c i e = refl
inner_block false c i e = e

mutual
  -- so does a body
  body_local : (c : Context) (t : Tree) → IsInner t → is_package (block_in c (kind_of t) (first t)) ≡ false → EachDeclared IsLocal (events c t)
  body_local c (node k i j ps) x e =
      each_append IsLocal (statement_events c.listed i j ++ own_events c k i j ps) (events_of (begin c k) k i j ps 0 ps)
      (each_append IsLocal (statement_events c.listed i j) (own_events c k i j ps) (statement_each IsLocal c.listed i j) (own_local c k i j ps x.0 e))
      (parts_local (begin c k) k i j ps 0 ps x.1 e)

  parts_local : (c : Context) (k : Kind) (i j : ℕ) (ps : Trees) (n : ℕ) (qs : Trees) → AreInner qs → is_package (block_in c k i) ≡ false → EachDeclared IsLocal (events_of c k i j ps n qs)
  parts_local c k i j ps n none x e = tt
  parts_local c k i j ps n (more q qs) x e =
      each_append IsLocal (events (enter c k i j ps (ends_named ps) n q (is_more qs)) q) (events_of (pass c q) k i j ps (suc n) qs)
      (body_local (enter c k i j ps (ends_named ps) n q (is_more qs)) q x.0 (inner_block (opens (kind_of q)) (block_in c k i) (first q) e)) (parts_local (pass c q) k i j ps (suc n) qs x.1 e)
  parts_local c k i j ps n (skip qs) x e = parts_local c k i j ps (suc n) qs x e

opened : (c : Context) (k : Kind) (i : ℕ) → opens k ≡ true → is_package (block_in c k i) ≡ false
opened c k i e = ap (λ b. is_package (if b then block.Local i else c.block)) e

-- ---- names that are looked up

-- A name is looked up in front of the token m, or in a specification that begins from the token lo on and before the token z.
abbrev pub IsUsedIn : ℕ → ℕ → ℕ → Use → Type 0
IsUsedIn m lo z u = (u.name < m) ⊎ ListLies lo z (site_token u.site)

used_append : (Q : Use → Type 0) (es fs : List Event) → EachUsed Q es → EachUsed Q fs → EachUsed Q (es ++ fs)
used_append Q [] fs h g = g
used_append Q (event.Use u ∷ es) fs h g = (h.0, used_append Q es fs h.1 g)
used_append Q (e ∷ es) fs h g = used_append Q es fs h g

used_early : (lo m from z : ℕ) (es : List Event) → NamesIn lo m es → EachUsed (IsUsedIn m from z) es
used_early lo m from z [] h = tt
used_early lo m from z (event.Use u ∷ es) h = (inl h.1, used_early lo m from z es h.2)
used_early lo m from z (event.Declaration d ∷ es) h = used_early lo m from z es h.2
used_early lo m from z (e ∷ es) h = used_early lo m from z es h

lies_wider : (lo from z : ℕ) (o : Option ℕ) → from ≤ lo → ListLies lo z o → ListLies from z o
lies_wider lo from z None le h = tt
lies_wider lo from z (Some s) le h = (omega (arith, le, h.0), h.1)

used_late : (lo m from z : ℕ) (es : List Event) → from ≤ lo → AllLie lo z es → EachUsed (IsUsedIn m from z) es
used_late lo m from z [] le h = tt
used_late lo m from z (event.Use u ∷ es) le h = (inr (lies_wider lo from z (site_token u.site) le h.0.1), used_late lo m from z es le h.1)
used_late lo m from z (event.Declaration d ∷ es) le h = used_late lo m from z es le h.1
used_late lo m from z (event.Import i ∷ es) le h = used_late lo m from z es le h.1
used_late lo m from z (event.Member o g i ∷ es) le h = used_late lo m from z es le h.1
used_late lo m from z (event.Bodiless i j ∷ es) le h = used_late lo m from z es le h.1
used_late lo m from z (event.Statement i j ∷ es) le h = used_late lo m from z es le h.1
used_late lo m from z (event.Misplaced i j ∷ es) le h = used_late lo m from z es le h.1
used_late lo m from z (event.SecondDefault i ∷ es) le h = used_late lo m from z es le h.1

-- ---- a function

-- A declaration of a function that begins at the token a and ends at the token z: itself, or a local, which is in scope from the token m
-- on.
pub record IsOfFunction (a m z : ℕ) (d : Declaration) : Type 0 where
  pub itself : is_package d.block ≡ true → (d.name ≡ suc a) × (d.source ≡ Some a)
  pub local : is_package d.block ≡ false → (suc a < d.name) × (m ≤ d.scope.from) × (d.scope.to ≤ z)

-- The names in front of the token m stand in its signature, and the others in its body.
pub record TellsFunction (a z : ℕ) (es : List Event) : Type 0 where
  pub body : ℕ
  pub behind : a < body
  pub declared : EachDeclared (IsOfFunction a body z) es
  pub used : EachUsed (IsUsedIn body (suc a) z) es

at_name : (e : Entity) (name from : ℕ) → BeginsAt e name from → name ≤ from
at_name entity.Type name from h = omega (arith, h)
at_name entity.Function name from h = absurd h
at_name e name from h = omega (arith, h)

from_name : (b : Block) (e : Entity) (name from : ℕ) → BeginsIn b e name from → is_package b ≡ false → name ≤ from
from_name block.Package e name from h x = absurd (true_false true refl x)
from_name (block.Local i) e name from h x = at_name e name from h

no_source : (ts : List TokenKind) (s : Tree) (o : Option ℕ) → Derives ts category.Signature s → source_of o (kind_of s) (first s) (parts s) ≡ o
no_source ts (node kind.Signature i j ps) o h = refl
no_source ts (node k i j ps) o h = absurd (true_false false h.0 refl)

block_source : (ts : List TokenKind) (s : Tree) (o : Option ℕ) → Derives ts category.Block s → source_of o (kind_of s) (first s) (parts s) ≡ o
block_source ts (node kind.Block i j ps) o h = refl
block_source ts (node k i j ps) o h = absurd (true_false false h.0 refl)

module _ (ts : List TokenKind) (e : ℕ) where
  front_declared : (i j m z : ℕ) (ps : Trees) → EachDeclared (IsOfFunction i m z) (declaration_events i j ps)
  front_declared i j m z ps = by (nat_lt i j) (is_there (part_at ps 1))
    where
      by : (b y : Bool) → EachDeclared (IsOfFunction i m z) (if b then function_events i j y else [])
      by true true = (record { itself = λ e. (refl, refl); local = λ e. cc }, tt)
      by true false = (record { itself = λ e. (refl, refl); local = λ e. cc }, tt)
      by false y = tt

  front_used : (Q : Use → Type 0) (i j : ℕ) (ps : Trees) → EachUsed Q (declaration_events i j ps)
  front_used Q i j ps = by (nat_lt i j) (is_there (part_at ps 1))
    where
      by : (b y : Bool) → EachUsed Q (if b then function_events i j y else [])
      by true true = tt
      by true false = tt
      by false y = tt

  tells : (i j : ℕ) (ps : Trees) → Derives ts category.Declaration (node kind.FunctionDeclaration i j ps) → AreLayered FunctionLayer ps → IsLaidOut (node kind.FunctionDeclaration i j ps) → InOrder (node kind.FunctionDeclaration i j ps)
      → EachDeclared IsFollowed (events (file_context e) (node kind.FunctionDeclaration i j ps)) → EachDeclared (EndsBy j) (events (file_context e) (node kind.FunctionDeclaration i j ps))
      → TellsFunction i j (events (file_context e) (node kind.FunctionDeclaration i j ps))
  tells i j none h y l o f n = absurd h.1
  tells i j (skip ps) h y l o f n = absurd h.1
  tells i j (more s none) h y l o f n = absurd h.1.2
  tells i j (more s (skip (more q qs))) h y l o f n = absurd h.1.2.2
  tells i j (more s (skip (skip qs))) h y l o f n = absurd h.1.2.2
  tells i j (more s (more b (more q qs))) h y l o f n = absurd h.1.2.2
  tells i j (more s (more b (skip qs))) h y l o f n = absurd h.1.2.2
  tells i j (more s (skip none)) h y l o f n =
      let ps : Trees = more s (skip none) in
      let around : Context = enter (begin (file_context e) kind.FunctionDeclaration) kind.FunctionDeclaration i j ps (ends_named ps) 0 s false in
      let in_s : first s < last s = tree_order s o.1.1 in
      let names : NamesIn (first s) (last s) (events around s) = ordered_names (first s) (first s) (last s) (events around s) (omega arith) (events_order around s l.1.1) in
      record {
        body = last s;
        behind = omega (arith, o.1.0, in_s);
        declared =
            each_append (IsOfFunction i (last s) j) (declaration_events i j ps) (events around s ++ []) (front_declared i j (last s) j ps)
            (each_append (IsOfFunction i (last s) j) (events around s) []
            (each_map (IsOnly None) (IsOfFunction i (last s) j) (events around s) (λ d only. absurd (some_none d.scope only.same)) (plain_only None around s y.0 l.1.1 tt tt tt)) tt);
        used =
            used_append (IsUsedIn (last s) (suc i) j) (declaration_events i j ps) (events around s ++ []) (front_used (IsUsedIn (last s) (suc i) j) i j ps)
            (used_append (IsUsedIn (last s) (suc i) j) (events around s) [] (used_early (first s) (last s) (suc i) j (events around s) names) tt);
      }
  tells i j (more s (more b none)) h y l o f n =
      let ps : Trees = more s (more b none) in
      let front : Context = begin (file_context e) kind.FunctionDeclaration in
      let around : Context = enter front kind.FunctionDeclaration i j ps (ends_named ps) 0 s true in
      let inner : Context = enter (pass front s) kind.FunctionDeclaration i j ps (ends_named ps) 1 b false in
      let m : ℕ = last s in
      let Q : Declaration → Type 0 = IsOfFunction i m j in
      let name : suc (suc i) ≡ first s = h.1.0.1.1 in
      let in_s : first s < last s = tree_order s o.1.1 in
      let in_b : first b < last b = tree_order b o.1.2.1 in
      let bodily : last s ≤ first b = o.1.2.0 in
      let within : last b ≤ j = o.1.2.2 in
      let begun : suc (suc i) ≤ first b = omega (arith, name, in_s, bodily) in
      let names : NamesIn (first s) (last s) (events around s) = ordered_names (first s) (first s) (last s) (events around s) (omega arith) (events_order around s l.1.1) in
      let scope : Option Scope = body_scope true m j in
      let rest : List Event = events around s ++ (events inner b ++ []) in
      let rest_follows : EachDeclared IsFollowed rest = each_right IsFollowed (declaration_events i j ps) rest f in
      let rest_ends : EachDeclared (EndsBy j) rest = each_right (EndsBy j) (declaration_events i j ps) rest n in
      let in_signature : EachDeclared (λ d. (first s ≤ d.name) × (d.name < last s)) (events around s) = each_between (first s) (last s) (first s) (last s) (events around s) (omega arith) (omega arith) (events_order around s l.1.1) in
      let in_body : EachDeclared (λ d. (first b ≤ d.name) × (d.name < last b)) (events inner b) = each_between (first b) (last b) (first b) (last b) (events inner b) (omega arith) (omega arith) (events_order inner b l.1.2.1) in
      let no_list : ListLies (first b) j (source_of (source_of None (kind_of s) (first s) (parts s)) (kind_of b) (first b) (parts b)) =
      subst (ListLies (first b) j) (sym (block_source ts b (source_of None (kind_of s) (first s) (parts s)) h.1.2.1 ∙ no_source ts s None h.1.1)) tt in
      record {
        body = m;
        behind = omega (arith, name, in_s);
        declared =
            each_append Q (declaration_events i j ps) rest (front_declared i j m j ps)
            (each_append Q (events around s) (events inner b ++ [])
            (each_both (λ d. (first s ≤ d.name) × (d.name < last s)) (λ d. IsLocal d × IsOnly scope d) Q (events around s)
            (λ d there x. record {
              itself = λ p. absurd (true_false (is_package d.block) p x.0);
              local =
                  λ p.
                  let same : d.scope ≡ record { from = m; to = j } = same_some d.scope (record { from = m; to = j }) x.1.same in
                  (omega (arith, name, there.0), let q : d.scope.from ≡ m = ap (λ (z : Scope). z.from) same in omega (arith, q), let q : d.scope.to ≡ j = ap (λ (z : Scope). z.to) same in omega (arith, q));
            }) in_signature
            (each_both IsLocal (IsOnly scope) (λ d. IsLocal d × IsOnly scope d) (events around s) (λ d p q. (p, q)) (plain_local around s y.0 tt) (plain_only scope around s y.0 l.1.1 (body_behind true m j (omega (arith, bodily, in_b, within))) tt (self_gives scope))))
            (each_append Q (events inner b) []
            (each_both (λ d. (first b ≤ d.name) × (d.name < last b)) (λ d. IsLocal d × (IsFollowed d × EndsBy j d)) Q (events inner b)
            (λ d there x. record {
              itself = λ p. absurd (true_false (is_package d.block) p x.0);
              local = λ p. (omega (arith, begun, there.0), let q : d.name ≤ d.scope.from = from_name d.block d.entity d.name d.scope.from x.1.0.0 p in omega (arith, q, there.0, bodily), x.1.1 p);
            }) in_body
            (each_both IsLocal (λ d. IsFollowed d × EndsBy j d) (λ d. IsLocal d × (IsFollowed d × EndsBy j d)) (events inner b) (λ d p q. (p, q))
            (body_local inner b (derives_inner ts b category.Block refl h.1.2.1) (opened inner (kind_of b) (first b) y.1.0))
            (each_both IsFollowed (EndsBy j) (λ d. IsFollowed d × EndsBy j d) (events inner b) (λ d p q. (p, q))
            (each_left IsFollowed (events inner b) [] (each_right IsFollowed (events around s) (events inner b ++ []) rest_follows))
            (each_left (EndsBy j) (events inner b) [] (each_right (EndsBy j) (events around s) (events inner b ++ []) rest_ends)))))
            tt));
        used =
            used_append (IsUsedIn m (suc i) j) (declaration_events i j ps) rest (front_used (IsUsedIn m (suc i) j) i j ps)
            (used_append (IsUsedIn m (suc i) j) (events around s) (events inner b ++ []) (used_early (first s) m (suc i) j (events around s) names)
            (used_append (IsUsedIn m (suc i) j) (events inner b) []
            (used_late (first b) m (suc i) j (events inner b) (omega (arith, begun)) (tree_lies (first b) j inner b l.1.2.1 (omega arith) within tt tt tt (tt, tt, no_list))) tt));
      }

  -- what a function tells in its file
  pub function_tells : (t : Tree) → is_function (kind_of t) ≡ true → Derives ts category.Declaration t → EachDeclared IsFollowed (events (file_context e) t) → TellsFunction (first t) (last t) (events (file_context e) t)
  function_tells (node kind.FunctionDeclaration i j ps) x h f =
      let t : Tree = node kind.FunctionDeclaration i j ps in
      tells i j ps h (derives_layered ts t category.Declaration h) (derives_laid ts t category.Declaration h) (derives_ordered ts t category.Declaration h) f (tree_ends ts e t x h)
  function_tells (node k i j ps) x h f = absurd (true_false false x refl)
