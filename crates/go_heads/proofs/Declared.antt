-- A name of the package block is declared outside of bodies, and by no `:=`.
use Rattle.std.proofs.Common.{◌≡◌, ℕ, zero, suc, ◌<◌, ◌≤◌, inl, inr, Bool, true, false, List, [], ◌∷◌, ◌++◌, Option, Some, None, refl, sym, subst, arith}
use Rattle.std.specs.Prelude.{if◌then◌else◌, nat_lt}
use Rattle.go_tokens.specs.declared.token.TokenKind.{TokenKind}
use Rattle.go_grammar.specs.declared.kind.Kind.{Kind}
use Rattle.go_grammar.specs.declared.kind.Kind.TheVariants as kind
use Rattle.go_grammar.specs.declared.kind.Place.TheVariants as place
use Rattle.go_grammar.specs.declared.kind.Sort.TheVariants as sort
use Rattle.go_grammar.specs.declared.kind.Category.TheVariants as category
use Rattle.go_grammar.specs.Trees.{Tree, node, Trees, none, more, skip, kind_of, first, last, parts}
use Rattle.go_grammar.specs.Grammar.{IsFile, rule, Derives, is_name, ends_named}
use Rattle.go_rewriting.proofs.Public.{tree_order}
use Rattle.go_tree.specs.Views.{part_at}
use Rattle.go_tree.specs.declared.context.Manner.TheVariants as manner
use Rattle.go_tree.specs.declared.context.Scope.{Scope}
use Rattle.go_tree.specs.declared.context.Role.{Role}
use Rattle.go_tree.specs.declared.context.Role.TheVariants as role
use Rattle.go_tree.specs.declared.context.Context.{Context}
use Rattle.go_tree.specs.declared.event.Declaration.{Declaration}
use Rattle.go_tree.specs.declared.event.Event.{Event}
use Rattle.go_tree.specs.declared.event.Event.TheVariants as event
use Rattle.go_tree.specs.Contexts.{is_there, is_package, is_called, specified, file_context, role_in, enter, called_in, if_name, if_first, field_role, key_role, parameter_role, entry_role}
use Rattle.go_tree.specs.Events.{name_events, own_events, statement_events, function_events, declaration_events, is_more, pass, begin, events, events_of}
use Rattle.go_scopes_events.specs.Orders.{EachDeclared}
use Rattle.go_scopes_events.proofs.Public.{is_top, IsInner, AreInner, derives_inner, spells_inner, rule_inner, top_function, each_between, true_false, each_append, each_map, statement_each, misplaced_each, second_each, is_outer, is_function, IsOutside, AreOutside, derives_outside, IsLaidOut, derives_laid, events_order}
use Rattle.go_heads.specs.Heads.{in_bodies}
use Rattle.go_heads.proofs.Functions.{Framed, framed}
use Rattle.go_heads.proofs.Outlines.{Sits, AllSit, OthersSit, file_sat}
use Rattle.go_heads.proofs.Clear.{IsLocal, block_declares}
use Rattle.go_heads.proofs.Outside.{block_kind}

pub each_both : (Q R S : Declaration → Type 0) (es : List Event) → ((d : Declaration) → Q d → R d → S d) → EachDeclared Q es → EachDeclared R es → EachDeclared S es
each_both Q R S [] f q r = tt
each_both Q R S (event.Declaration d ∷ es) f q r = (f d q.0 r.0, each_both Q R S es f q.1 r.1)
each_both Q R S (e ∷ es) f q r = each_both Q R S es f q r

-- in the package block it is declared by no `:=`
abbrev IsPlain : Declaration → Type 0
IsPlain d = is_package d.block ≡ true → d.manner ≡ manner.Declared

abbrev NamesPlain : Role → Type 0
NamesPlain (role.New d) = d.manner ≡ manner.Declared
NamesPlain r = Unit {0}

name_plain : (c : Context) (i : ℕ) (r : Role) → NamesPlain r → EachDeclared IsPlain (name_events c i r)
name_plain c i (role.New d) h = (λ b. h, tt)
name_plain c i (role.Parameter g None) h = tt
name_plain c i (role.Parameter g (Some s)) h = (λ b. refl, tt)
name_plain c i r h = tt

own_plain : (c : Context) (k : Kind) (i j : ℕ) (ps : Trees) → is_top k ≡ false → NamesPlain c.role → EachDeclared IsPlain (own_events c k i j ps)
own_plain c kind.FunctionDeclaration i j ps e r = absurd (true_false true refl e)
own_plain c (kind.Specification sort.Type) i j ps e r = (λ b. refl, tt)
own_plain c kind.DeclaredName i j ps e r = name_plain c i c.role r
own_plain c kind.Name i j ps e r = name_plain c i c.role r
own_plain c kind.Switch i j ps e r = second_each IsPlain false ps
own_plain c kind.Break i j ps e r = misplaced_each IsPlain c.breaks i j
own_plain c kind.Continue i j ps e r = misplaced_each IsPlain c.continues i j
own_plain c kind.Fallthrough i j ps e r = misplaced_each IsPlain c.falls i j
own_plain c k i j ps e r = tt

if_plain : (p : Tree) (r : Role) → NamesPlain r → NamesPlain (if_name p r)
if_plain p r h = elim (is_name (kind_of p)) as (λ b. NamesPlain (if b then r else role.Operand)) [ true ↦ h | false ↦ tt ]

first_plain : (n : ℕ) (r : Role) → NamesPlain r → NamesPlain (if_first n r)
first_plain zero r h = h
first_plain (suc n) r h = tt

called_plain : (r : Role) → NamesPlain (called_in r)
called_plain role.Called = tt
called_plain r = tt

entry_plain : (named : Bool) (p : Tree) (group : ℕ) (s : Option Scope) → NamesPlain (entry_role named p group s)
entry_plain true p group s = if_plain p (role.Parameter group s) tt
entry_plain false p group s = tt

field_plain : (group : Option ℕ) → NamesPlain (field_role group)
field_plain None = tt
field_plain (Some g) = tt

key_plain : (group : Option ℕ) → NamesPlain (key_role group)
key_plain None = tt
key_plain (Some g) = tt

parameter_plain : (group : Option ℕ) (s : Option Scope) → NamesPlain (parameter_role group s)
parameter_plain None s = tt
parameter_plain (Some g) s = tt

role_plain : (c : Context) (k : Kind) (i j : ℕ) (named : Bool) (n : ℕ) (p : Tree) → is_outer k ≡ true → NamesPlain c.role → NamesPlain (role_in c k i j named n p)
role_plain c (kind.Specification sort.Constant) i j named n p e r = first_plain n (role.New (specified c sort.Constant i j)) refl
role_plain c (kind.Specification sort.Variable) i j named n p e r = first_plain n (role.New (specified c sort.Variable i j)) refl
role_plain c kind.Define i j named n p e r = absurd (true_false false e refl)
role_plain c kind.DefiningRange i j named n p e r = absurd (true_false false e refl)
role_plain c kind.NameList i j named n p e r = r
role_plain c kind.NewNames i j named n p e r = r
role_plain c kind.ExpressionList i j named n p e r = if_plain p c.role r
role_plain c kind.Call i j named n p e r = first_plain n role.Called tt
role_plain c kind.Parenthesized i j named n p e r = called_plain c.role
role_plain c kind.Selector i j named n p e r = if_plain p (role.Selected j (is_called c.role)) tt
role_plain c kind.Fields i j named n p e r = first_plain n (field_role c.group) (field_plain c.group)
role_plain c kind.Keyed i j named n p e r = first_plain n (key_role c.group) (key_plain c.group)
role_plain c kind.Parameters i j named n p e r = entry_plain named p i c.parameters
role_plain c kind.Parameter i j named n p e r = first_plain n (parameter_role c.group c.parameters) (parameter_plain c.group c.parameters)
role_plain c k i j named n p e r = tt

-- what a node tells, by what its parts tell
node_plain : (c : Context) (k : Kind) (i j : ℕ) (ps : Trees) → IsOutside (node k i j ps) → is_top k ≡ false → NamesPlain c.role
    → (is_outer k ≡ true → AreOutside ps → EachDeclared IsPlain (events_of (begin c k) k i j ps 0 ps)) → EachDeclared IsPlain (events c (node k i j ps))
node_plain c k i j ps (inl f) x r go = absurd (true_false (is_function k) f (top_function k x))
node_plain c k i j ps (inr o) x r go =
    each_append IsPlain (statement_events c.listed i j ++ own_events c k i j ps) (events_of (begin c k) k i j ps 0 ps)
    (each_append IsPlain (statement_events c.listed i j) (own_events c k i j ps) (statement_each IsPlain c.listed i j) (own_plain c k i j ps x r))
    (go o.0 o.1)

mutual
  tree_plain : (c : Context) (t : Tree) → IsOutside t → IsInner t → NamesPlain c.role → EachDeclared IsPlain (events c t)
  tree_plain c (node k i j ps) o x r = node_plain c k i j ps o x.0 r (λ e a. parts_plain (begin c k) k i j ps 0 ps e a x.1 r)

  parts_plain : (c : Context) (k : Kind) (i j : ℕ) (ps : Trees) (n : ℕ) (qs : Trees) → is_outer k ≡ true → AreOutside qs → AreInner qs → NamesPlain c.role → EachDeclared IsPlain (events_of c k i j ps n qs)
  parts_plain c k i j ps n none e o x r = tt
  parts_plain c k i j ps n (more q qs) e o x r =
      each_append IsPlain (events (enter c k i j ps (ends_named ps) n q (is_more qs)) q) (events_of (pass c q) k i j ps (suc n) qs)
      (tree_plain (enter c k i j ps (ends_named ps) n q (is_more qs)) q o.0 x.0 (role_plain c k i j (ends_named ps) n q e r))
      (parts_plain (pass c q) k i j ps (suc n) qs e o.1 x.1 r)
  parts_plain c k i j ps n (skip qs) e o x r = parts_plain c k i j ps (suc n) qs e o x r

-- ---- outside of bodies

module _ (ts : List TokenKind) (p : ℕ → Bool) where
  abbrev pub IsHeaded : Declaration → Type 0
  IsHeaded d = is_package d.block ≡ true → (d.manner ≡ manner.Declared) × (p d.name ≡ false)

  local_headed : (d : Declaration) → IsLocal d → IsHeaded d
  local_headed d h b = absurd (true_false (is_package d.block) b h)

  plain_headed : (c : Context) (t : Tree) → IsOutside t → IsInner t → IsLaidOut t → NamesPlain c.role → ((n : ℕ) → first t ≤ n → n < last t → p n ≡ false) → EachDeclared IsHeaded (events c t)
  plain_headed c t o x l r f =
      each_both IsPlain (λ d. (first t ≤ d.name) × (d.name < last t)) IsHeaded (events c t) (λ d a b h. (a h, f d.name b.0 b.1))
      (tree_plain c t o x r) (each_between (first t) (last t) (first t) (last t) (events c t) (omega arith) (omega arith) (events_order c t l))

  body_headed : (c : Context) (b : Tree) → Derives ts category.Block b → EachDeclared IsHeaded (events c b)
  body_headed c (node k i j ps) g =
      let inner : IsInner (node k i j ps) = derives_inner ts (node k i j ps) category.Block refl g in
      let own : EachDeclared IsLocal (events c (node k i j ps)) =
      subst (λ x. EachDeclared IsLocal (events c (node x i j ps))) (sym (block_kind k g.0)) (block_declares c i j ps inner.1) in
      each_map IsLocal IsHeaded (events c (node k i j ps)) local_headed own

  signature_headed : (c : Context) (s : Tree) → Derives ts category.Signature s → NamesPlain c.role → ((n : ℕ) → first s ≤ n → n < last s → p n ≡ false) → EachDeclared IsHeaded (events c s)
  signature_headed c s g r f = plain_headed c s (derives_outside ts s category.Signature refl g) (derives_inner ts s category.Signature refl g) (derives_laid ts s category.Signature g) r f

  own_headed : (i j : ℕ) (ps : Trees) → p (suc i) ≡ false → EachDeclared IsHeaded (declaration_events i j ps)
  own_headed i j ps e = by (nat_lt i j) (is_there (part_at ps 1))
    where
      by : (b y : Bool) → EachDeclared IsHeaded (if b then function_events i j y else [])
      by true true = (λ b. (refl, e), tt)
      by true false = (λ b. (refl, e), tt)
      by false y = tt

  front_headed : (c : Context) (i j : ℕ) (ps : Trees) → p (suc i) ≡ false → EachDeclared IsHeaded (statement_events c.listed i j ++ declaration_events i j ps)
  front_headed c i j ps e = each_append IsHeaded (statement_events c.listed i j) (declaration_events i j ps) (statement_each IsHeaded c.listed i j) (own_headed i j ps e)

  function_headed : (c : Context) (i j : ℕ) (ps : Trees) → Sits ts p (node kind.FunctionDeclaration i j ps) → EachDeclared IsHeaded (events c (node kind.FunctionDeclaration i j ps))
  function_headed c i j none h = absurd h.derives.1
  function_headed c i j (skip ps) h = absurd h.derives.1
  function_headed c i j (more s none) h = absurd h.derives.1.2
  function_headed c i j (more s (skip (more q qs))) h = absurd h.derives.1.2.2
  function_headed c i j (more s (skip (skip qs))) h = absurd h.derives.1.2.2
  function_headed c i j (more s (more b (more q qs))) h = absurd h.derives.1.2.2
  function_headed c i j (more s (more b (skip qs))) h = absurd h.derives.1.2.2
  function_headed c i j (more s (skip none)) h =
      let f : Framed p (node kind.FunctionDeclaration i j (more s (skip none))) = framed ts p (node kind.FunctionDeclaration i j (more s (skip none))) refl h in
      let name : suc (suc i) ≡ first s = h.derives.1.0.1.1 in
      let in_s : first s < last s = tree_order s f.order.1.1 in
      let ends : last s ≤ j = f.order.1.2 in
      let ps = more s (skip none) in
      let around = enter (begin c kind.FunctionDeclaration) kind.FunctionDeclaration i j ps (ends_named ps) 0 s false in
      each_append IsHeaded (statement_events c.listed i j ++ declaration_events i j ps) (events around s ++ [])
      (front_headed c i j ps (f.clear (suc i) (omega arith) (omega (arith, name, in_s, ends))))
      (each_append IsHeaded (events around s) [] (signature_headed around s h.derives.1.1 tt (λ n lo hi. f.clear n (omega (arith, lo, name)) (omega (arith, hi, ends)))) tt)
  function_headed c i j (more s (more b none)) h =
      let f : Framed p (node kind.FunctionDeclaration i j (more s (more b none))) = framed ts p (node kind.FunctionDeclaration i j (more s (more b none))) refl h in
      let name : suc (suc i) ≡ first s = h.derives.1.0.1.1 in
      let in_s : first s < last s = tree_order s f.order.1.1 in
      let ends : last s ≤ first b = f.order.1.2 in
      let ps = more s (more b none) in
      let within = begin c kind.FunctionDeclaration in
      let around = enter within kind.FunctionDeclaration i j ps (ends_named ps) 0 s true in
      let inside = enter (pass within s) kind.FunctionDeclaration i j ps (ends_named ps) 1 b false in
      each_append IsHeaded (statement_events c.listed i j ++ declaration_events i j ps) (events around s ++ (events inside b ++ []))
      (front_headed c i j ps (f.clear (suc i) (omega arith) (omega (arith, name, in_s, ends))))
      (each_append IsHeaded (events around s) (events inside b ++ [])
      (signature_headed around s h.derives.1.1 tt (λ n lo hi. f.clear n (omega (arith, lo, name)) (omega (arith, hi, ends))))
      (each_append IsHeaded (events inside b) [] (body_headed inside b h.derives.1.2.1) tt))

  declaration_headed : (c : Context) (d : Tree) → Sits ts p d → NamesPlain c.role → EachDeclared IsHeaded (events c d)
  declaration_headed c (node kind.FunctionDeclaration i j ps) h r = function_headed c i j ps h
  declaration_headed c (node (kind.Declaration s) i j ps) h r =
      let d : Tree = node (kind.Declaration s) i j ps in
      let inner : IsInner d = (refl, spells_inner ts ps (rule place.Free (kind.Declaration s)) i j (rule_inner place.Free (kind.Declaration s) refl) h.derives.1) in
      plain_headed c d (derives_outside ts d category.Declaration refl h.derives) inner (derives_laid ts d category.Declaration h.derives) r (λ n lo hi. h.own n lo hi)
  declaration_headed c (node k i j ps) h r = absurd (true_false false h.derives.0 refl)

  row_headed : (c : Context) (i j : ℕ) (ps : Trees) (n : ℕ) (ds : Trees) → AllSit ts p ds → EachDeclared IsHeaded (events_of c kind.File i j ps n ds)
  row_headed c i j ps n none h = tt
  row_headed c i j ps n (skip ds) h = row_headed c i j ps (suc n) ds h
  row_headed c i j ps n (more d ds) h =
      each_append IsHeaded (events (enter c kind.File i j ps (ends_named ps) n d (is_more ds)) d) (events_of (pass c d) kind.File i j ps (suc n) ds)
      (declaration_headed (enter c kind.File i j ps (ends_named ps) n d (is_more ds)) d h.0 tt) (row_headed (pass c d) i j ps (suc n) ds h.1)

pub file_headed : (ts : List TokenKind) (t : Tree) → IsFile ts t → EachDeclared (IsHeaded ts (in_bodies (parts t))) (events (file_context (last t)) t)
file_headed ts (node kind.File i j none) f = absurd f.derives.1
file_headed ts (node kind.File i j (skip ps)) f = row_headed ts (in_bodies ps) (begin (file_context j) kind.File) i j (skip ps) 0 (skip ps) (file_sat ts (node kind.File i j (skip ps)) f)
file_headed ts (node kind.File i j (more d ds)) f =
    let p : ℕ → Bool = in_bodies (more d ds) in
    let c = begin (file_context j) kind.File in
    let g : Derives ts category.Imports d = f.derives.1.1 in
    let sat : OthersSit ts p (more d ds) = file_sat ts (node kind.File i j (more d ds)) f in
    let ps = more d ds in
    each_append (IsHeaded ts p) (events (enter c kind.File i j ps (ends_named ps) 0 d (is_more ds)) d) (events_of (pass c d) kind.File i j ps 1 ds)
    (plain_headed ts p (enter c kind.File i j ps (ends_named ps) 0 d (is_more ds)) d (derives_outside ts d category.Imports refl g) (derives_inner ts d category.Imports refl g) (derives_laid ts d category.Imports g) tt sat.2)
    (row_headed ts p (pass c d) i j ps 1 ds sat.3)
file_headed ts (node k i j ps) f = absurd (true_false false f.derives.0 refl)
