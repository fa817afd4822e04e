-- Each declaration that a tree tells has the scope that its place in the tree gives it.
use Rattle.std.proofs.Common.{◌≡◌, ◌∙◌, ℕ, suc, ◌<◌, ◌≤◌, inl, inr, Bool, true, false, List, [], ◌∷◌, ◌++◌, Some, None, refl, sym, ap, subst, arith}
use Rattle.std.specs.Prelude.{nat_lt, if◌then◌else◌}
use Rattle.go_tokens.specs.declared.token.TokenKind.{TokenKind}
use Rattle.go_grammar.specs.declared.kind.Kind.{Kind}
use Rattle.go_grammar.specs.declared.kind.Kind.TheVariants as kind
use Rattle.go_grammar.specs.declared.kind.Sort.TheVariants as sort
use Rattle.go_grammar.specs.declared.kind.Category.TheVariants as category
use Rattle.go_grammar.specs.Trees.{Tree, node, Trees, none, more, skip, kind_of, first, last}
use Rattle.go_grammar.specs.Grammar.{IsFile, ends_named}
use Rattle.go_tree.specs.Views.{part_at}
use Rattle.go_tree.specs.declared.context.Scope.{Scope}
use Rattle.go_tree.specs.declared.context.Context.{Context}
use Rattle.go_tree.specs.declared.event.Declaration.{Declaration}
use Rattle.go_tree.specs.declared.event.Event.{Event}
use Rattle.go_tree.specs.Contexts.{is_there, file_context, opens, end_in, enter, body_scope}
use Rattle.go_tree.specs.Events.{statement_events, own_events, function_events, is_more, pass, begin, events, events_of}
use Rattle.go_tree.specs.declared.event.Event.TheVariants as event
use Rattle.go_scopes_events.specs.Orders.{AreInOrder, EachDeclared}
use Rattle.go_scopes_events.specs.Scoped.{IsBehind, IsScoped, IsAmong, IsInFunction}
use Rattle.go_scopes_events.proofs.Rising.{behind_name, IsLaidOut, LieIn, lie_order, derives_laid, events_order}
use Rattle.go_scopes_events.proofs.Layers.{Naming as NamingLayer, Function, Body, Holding, layer, ArePlain, IsLayered, AreLayered, layered_naming, derives_layered}
use Rattle.go_scopes_events.proofs.Nesting.{each_append, each_map, statement_each, own_only, plain_only, parts_only, IsOnly, Given, RoleGives, ScopeGives, some_is, behind_scope, naming_given, holding_given, self_gives, body_behind, not_both}
use Rattle.go_scopes_events.proofs.Inside.{each_between}

each_both : (P Q R : Declaration → Type 0) (es : List Event) → ((d : Declaration) → P d → Q d → R d) → EachDeclared P es → EachDeclared Q es → EachDeclared R es
each_both P Q R [] f h k = tt
each_both P Q R (event.Declaration d ∷ es) f h k = (f d h.0 k.0, each_both P Q R es f h.1 k.1)
each_both P Q R (e ∷ es) f h k = each_both P Q R es f h k

-- where only one scope is given, it is that of each
only_scope : (s : Scope) (d : Declaration) → IsOnly (Some s) d → d.scope ≡ s
only_scope s d h = some_is d.scope s h.same

only_none : (Q : Declaration → Type 0) (d : Declaration) → IsOnly None d → Q d
only_none Q d h = let no : Some d.scope ≡ None = h.same in absurd cc

each_none : (Q : Declaration → Type 0) (es : List Event) → EachDeclared (IsOnly None) es → EachDeclared Q es
each_none Q es h = each_map (IsOnly None) Q es (only_none Q) h

-- the names of a specification, a definition or a range
naming_scoped : (c : Context) (k : Kind) (i j : ℕ) (ps : Trees) (e : ℕ) → layer k ≡ NamingLayer → own_events c k i j ps ≡ [] → ArePlain ps → IsLaidOut (node k i j ps) → ScopeGives None c.parameters → j ≤ c.end → c.end ≡ e → EachDeclared (IsBehind e i j) (events c (node k i j ps))
naming_scoped c k i j ps e x own plain l s le end =
    let es = events c (node k i j ps) in
    let only : EachDeclared (IsOnly (behind_scope j c.end)) es =
    each_append (IsOnly (behind_scope j c.end)) (statement_events c.listed i j ++ own_events c k i j ps) (events_of (begin c k) k i j ps 0 ps)
    (each_append (IsOnly (behind_scope j c.end)) (statement_events c.listed i j) (own_events c k i j ps) (statement_each (IsOnly (behind_scope j c.end)) c.listed i j) (subst (EachDeclared (IsOnly (behind_scope j c.end))) (sym own) tt))
    (parts_only (behind_scope j c.end) (begin c k) k i j ps 0 ps (behind_name k i) plain l.1 (omega arith, le) (naming_given (begin c k) k i j ps x s)) in
    let order : AreInOrder i j es = events_order c (node k i j ps) l in
    each_both (IsOnly (behind_scope j c.end)) (λ d. (i ≤ d.name) × (d.name < j)) (IsBehind e i j) es
    (λ d o w. (w.0, w.1, only_scope (record { from = j; to = c.end }) d o ∙ ap (λ n. record { from = j; to = n }) end))
    only
    (each_between i j i j es (omega arith) (omega arith) order)

type_scoped : (c : Context) (i j : ℕ) (ps : Trees) (e : ℕ) → ArePlain ps → LieIn (suc i) j ps → ScopeGives None c.parameters → c.end ≡ e → EachDeclared (IsScoped e (node (kind.Specification sort.Type) i j ps)) (events c (node (kind.Specification sort.Type) i j ps))
type_scoped c i j ps e plain l s end =
    let k = kind.Specification sort.Type in
    let Q = IsScoped e (node k i j ps) in
    each_append Q (statement_events c.listed i j ++ own_events c k i j ps) (events_of (begin c k) k i j ps 0 ps)
    (each_append Q (statement_events c.listed i j) (own_events c k i j ps) (statement_each Q c.listed i j) ((refl, ap (λ n. record { from = i; to = n }) end), tt))
    (each_none Q (events_of (begin c k) k i j ps 0 ps) (parts_only None (begin c k) k i j ps 0 ps (suc i) plain l tt (record { role = λ z n p. tt; parameters = λ n p. s })))

-- the end of the block of the parts
end_is : (b : Bool) (j n e : ℕ) → (b ≡ false → n ≡ e) → (if b then j else n) ≡ (if b then j else e)
end_is true j n e f = refl
end_is false j n e f = f refl

holding_scoped : (c : Context) (k : Kind) (i j : ℕ) (ps : Trees) (e : ℕ) → layer k ≡ Holding → i < j → RoleGives None c.role → (opens k ≡ false → c.end ≡ e) → EachDeclared (IsAmong (end_in c k j) ps) (events_of (begin c k) k i j ps 0 ps) → EachDeclared (IsAmong (if opens k then j else e) ps) (events c (node k i j ps))
holding_scoped c k i j ps e x lt r f parts =
    let Q = IsAmong (if opens k then j else e) ps in
    each_append Q (statement_events c.listed i j ++ own_events c k i j ps) (events_of (begin c k) k i j ps 0 ps)
    (each_append Q (statement_events c.listed i j) (own_events c k i j ps) (statement_each Q c.listed i j) (each_none Q (own_events c k i j ps) (own_only None c k i j ps x lt tt r)))
    (subst (λ n. EachDeclared (IsAmong n ps) (events_of (begin c k) k i j ps 0 ps)) (end_is (opens k) j c.end e f) parts)

function_scoped : (c : Context) (i j : ℕ) (ps : Trees) (e : ℕ) → EachDeclared (IsInFunction j ps) (events_of (begin c kind.FunctionDeclaration) kind.FunctionDeclaration i j ps 0 ps) → EachDeclared (IsScoped e (node kind.FunctionDeclaration i j ps)) (events c (node kind.FunctionDeclaration i j ps))
function_scoped c i j ps e parts =
    let k = kind.FunctionDeclaration in
    let Q = IsScoped e (node k i j ps) in
    each_append Q (statement_events c.listed i j ++ own_events c k i j ps) (events_of (begin c k) k i j ps 0 ps)
    (each_append Q (statement_events c.listed i j) (own_events c k i j ps) (statement_each Q c.listed i j) (own (nat_lt i j) (is_there (part_at ps 1))))
    (each_map (IsInFunction j ps) Q (events_of (begin c k) k i j ps 0 ps) (λ d h. inr h) parts)
  where
    own : (b y : Bool) → EachDeclared (IsScoped e (node kind.FunctionDeclaration i j ps)) (if b then function_events i j y else [])
    own true true = (inl (refl, refl), tt)
    own true false = (inl (refl, refl), tt)
    own false y = tt

by_kind : (c : Context) (k : Kind) (i j : ℕ) (ps : Trees) (e : ℕ) → AreLayered (layer k) ps → IsLaidOut (node k i j ps) → RoleGives None c.role → ScopeGives None c.parameters → j ≤ e → (opens k ≡ false → c.end ≡ e) → (layer k ≡ Holding → AreLayered Holding ps → EachDeclared (IsAmong (end_in c k j) ps) (events_of (begin c k) k i j ps 0 ps)) → (AreLayered Function ps → LieIn (suc (suc i)) j ps → EachDeclared (IsInFunction j ps) (events_of (begin c kind.FunctionDeclaration) kind.FunctionDeclaration i j ps 0 ps)) → EachDeclared (IsScoped e (node k i j ps)) (events c (node k i j ps))
by_kind c kind.FunctionDeclaration i j ps e x l r s le f hold function = function_scoped c i j ps e (function x l.1)
by_kind c (kind.Specification sort.Constant) i j ps e x l r s le f hold function = naming_scoped c (kind.Specification sort.Constant) i j ps e refl refl (layered_naming ps x) l s (omega (arith, le, f refl)) (f refl)
by_kind c (kind.Specification sort.Variable) i j ps e x l r s le f hold function = naming_scoped c (kind.Specification sort.Variable) i j ps e refl refl (layered_naming ps x) l s (omega (arith, le, f refl)) (f refl)
by_kind c (kind.Specification sort.Type) i j ps e x l r s le f hold function = type_scoped c i j ps e (layered_naming ps x) l.1 s (f refl)
by_kind c kind.Define i j ps e x l r s le f hold function = naming_scoped c kind.Define i j ps e refl refl (layered_naming ps x) l s (omega (arith, le, f refl)) (f refl)
by_kind c kind.DefiningRange i j ps e x l r s le f hold function = naming_scoped c kind.DefiningRange i j ps e refl refl (layered_naming ps x) l s (omega (arith, le, f refl)) (f refl)
by_kind c k i j ps e x l r s le f hold function = holding_scoped c k i j ps e refl l.0 r f (hold refl x)

end_bound : (b : Bool) (j n e : ℕ) → (b ≡ false → n ≡ e) → j ≤ e → j ≤ (if b then j else n)
end_bound true j n e f le = omega arith
end_bound false j n e f le = omega (arith, le, f refl)

mutual
  scoped : (c : Context) (t : Tree) (e : ℕ) → IsLayered t → IsLaidOut t → RoleGives None c.role → ScopeGives None c.parameters → last t ≤ e → (opens (kind_of t) ≡ false → c.end ≡ e) → EachDeclared (IsScoped e t) (events c t)
  scoped c (node k i j ps) e x l r s le f =
      by_kind c k i j ps e x l r s le f
      (λ z y. parts_scoped (begin c k) k i j ps 0 ps (behind_name k i) y l.1 (holding_given None (begin c k) k i j ps z r s) (end_bound (opens k) j c.end e f le))
      (λ y m. function_parts (begin c kind.FunctionDeclaration) i j ps ps (suc (suc i)) y m s)

  parts_scoped : (c : Context) (k : Kind) (i j : ℕ) (ps : Trees) (n : ℕ) (qs : Trees) (a : ℕ) → AreLayered Holding qs → LieIn a j qs → Given None c k i j ps → j ≤ end_in c k j → EachDeclared (IsAmong (end_in c k j) qs) (events_of c k i j ps n qs)
  parts_scoped c k i j ps n none a x l g le = tt
  parts_scoped c k i j ps n (more p qs) a x l g le =
      let Q = IsAmong (end_in c k j) (more p qs) in
      let below = enter c k i j ps (ends_named ps) n p (is_more qs) in
      let high : last p ≤ j = lie_order (last p) j qs l.2 in
      each_append Q (events below p) (events_of (pass c p) k i j ps (suc n) qs)
      (each_map (IsScoped (end_in c k j) p) Q (events below p) (λ d h. inl h) (scoped below p (end_in c k j) x.0 l.1 (g.role c.source n p) (g.parameters n p) (omega (arith, high, le)) (λ no. refl)))
      (each_map (IsAmong (end_in c k j) qs) Q (events_of (pass c p) k i j ps (suc n) qs) (λ d h. inr h) (parts_scoped (pass c p) k i j ps (suc n) qs (last p) x.1 l.2 (record { role = g.role; parameters = g.parameters }) le))
  parts_scoped c k i j ps n (skip qs) a x l g le = parts_scoped c k i j ps (suc n) qs a x l g le

  function_parts : (c : Context) (i j : ℕ) (ps : Trees) (qs : Trees) (a : ℕ) → AreLayered Function qs → LieIn a j qs → ScopeGives None c.parameters → EachDeclared (IsInFunction j qs) (events_of c kind.FunctionDeclaration i j ps 0 qs)
  function_parts c i j ps none a x l s = tt
  function_parts c i j ps (more p qs) a x l s =
      let Q = IsInFunction j (more p qs) in
      let below = enter c kind.FunctionDeclaration i j ps (ends_named ps) 0 p (is_more qs) in
      let high : last p ≤ j = lie_order (last p) j qs l.2 in
      let b = is_there (part_at ps 1) in
      each_append Q (events below p) (events_of (pass c p) kind.FunctionDeclaration i j ps 1 qs)
      (each_both (IsOnly (body_scope b (last p) j)) (λ d. (first p ≤ d.name) × (d.name < last p)) Q (events below p)
      (λ d o w. inl (w.0, w.1, body_is b (last p) j d o))
      (plain_only (body_scope b (last p) j) below p x.0 l.1 (body_behind b (last p) j high) tt (self_gives (body_scope b (last p) j)))
      (each_between (first p) (last p) (first p) (last p) (events below p) (omega arith) (omega arith) (events_order below p l.1)))
      (each_map (IsAmong j qs) Q (events_of (pass c p) kind.FunctionDeclaration i j ps 1 qs) (λ d h. inr h) (bodies_scoped (pass c p) i j ps 0 qs (last p) x.1 l.2 s))
    where
      body_is : (b : Bool) (i j : ℕ) (d : Declaration) → IsOnly (body_scope b i j) d → d.scope ≡ record { from = i; to = j }
      body_is true i j d h = only_scope (record { from = i; to = j }) d h
      body_is false i j d h = only_none (λ d. d.scope ≡ record { from = i; to = j }) d h
  function_parts c i j ps (skip qs) a x l s = bodies_scoped c i j ps 0 qs a x l s

  bodies_scoped : (c : Context) (i j : ℕ) (ps : Trees) (n : ℕ) (qs : Trees) (a : ℕ) → AreLayered Body qs → LieIn a j qs → ScopeGives None c.parameters → EachDeclared (IsAmong j qs) (events_of c kind.FunctionDeclaration i j ps (suc n) qs)
  bodies_scoped c i j ps n none a x l s = tt
  bodies_scoped c i j ps n (more p qs) a x l s =
      let Q = IsAmong j (more p qs) in
      let below = enter c kind.FunctionDeclaration i j ps (ends_named ps) (suc n) p (is_more qs) in
      let high : last p ≤ j = lie_order (last p) j qs l.2 in
      each_append Q (events below p) (events_of (pass c p) kind.FunctionDeclaration i j ps (suc (suc n)) qs)
      (each_map (IsScoped j p) Q (events below p) (λ d h. inl h) (scoped below p j x.1 l.1 tt s high (λ no. absurd (not_both (opens (kind_of p)) x.0 no))))
      (each_map (IsAmong j qs) Q (events_of (pass c p) kind.FunctionDeclaration i j ps (suc (suc n)) qs) (λ d h. inr h) (bodies_scoped (pass c p) i j ps (suc n) qs (last p) x.2 l.2 s))
  bodies_scoped c i j ps n (skip qs) a x l s = bodies_scoped c i j ps (suc n) qs a x l s

pub file_scoped : (ts : List TokenKind) (t : Tree) → IsFile ts t → EachDeclared (IsScoped (last t) t) (events (file_context (last t)) t)
file_scoped ts t f = scoped (file_context (last t)) t (last t) (derives_layered ts t category.File f.derives) (derives_laid ts t category.File f.derives) tt tt (omega arith) (λ no. refl)
