-- The names of the package block that a part of a file declares, each with what it is declared as.
use Rattle.std.proofs.Common.{◌≡◌, ◌∙◌, ℕ, zero, suc, Bool, true, false, List, [], ◌∷◌, ◌++◌, Option, Some, None, refl, sym, ap, append_assoc}
use Rattle.std.specs.Prelude.{if◌then◌else◌}
use Rattle.go_grammar.specs.declared.kind.Kind.{Kind}
use Rattle.go_grammar.specs.declared.kind.Kind.TheVariants as kind
use Rattle.go_grammar.specs.declared.kind.Sort.TheVariants as declaring
use Rattle.go_grammar.specs.Trees.{Tree, node, Trees, none, more, skip, kind_of}
use Rattle.go_grammar.specs.Grammar.{is_name, ends_named}
use Rattle.go_tree.specs.declared.context.Block.TheVariants as block
use Rattle.go_tree.specs.declared.context.Context.{Context}
use Rattle.go_tree.specs.declared.context.Entity.{Entity}
use Rattle.go_tree.specs.declared.context.Role.{Role}
use Rattle.go_tree.specs.declared.context.Role.TheVariants as role
use Rattle.go_tree.specs.declared.context.Scope.{Scope}
use Rattle.go_tree.specs.declared.event.Declaration.{Declaration}
use Rattle.go_tree.specs.declared.event.Event.{Event}
use Rattle.go_tree.specs.declared.event.Event.TheVariants as event
use Rattle.go_tree.specs.Contexts.{is_package, opens, block_in, enter, role_in, called_in, if_name, if_first, field_role, key_role, parameter_role, entry_role, is_called}
use Rattle.go_tree.specs.Events.{name_events, statement_events, own_events, is_more, pass, begin, events, events_of}
use Rattle.go_package_defs.specs.Declarations.{Specification}
use Rattle.go_scopes_events.specs.Orders.{EachDeclared}
use Rattle.go_scopes_events.proofs.Public.{Holding, IsPlain, ArePlain, layer, each_append, statement_each, misplaced_each, second_each, IsInner, AreInner, true_false}

-- ---- names

abbrev pub shared : List Event → List (ℕ × Entity)
shared [] = []
shared (event.Declaration d ∷ es) = if is_package d.block then (d.name, d.entity) ∷ shared es else shared es
shared (e ∷ es) = shared es

abbrev pub named : Entity → List ℕ → List (ℕ × Entity)
named e [] = []
named e (t ∷ ts) = (t, e) ∷ named e ts

-- the names of specifications
abbrev pub all_named : List Specification → List (ℕ × Entity)
all_named [] = []
all_named (x ∷ xs) = named x.entity x.names ++ all_named xs

pub shared_append : (es fs : List Event) → shared (es ++ fs) ≡ shared es ++ shared fs
shared_append [] fs = refl
shared_append (event.Declaration d ∷ es) fs = by (is_package d.block) (shared_append es fs)
  where
    by : (b : Bool) → shared (es ++ fs) ≡ shared es ++ shared fs → (if b then (d.name, d.entity) ∷ shared (es ++ fs) else shared (es ++ fs)) ≡ (if b then (d.name, d.entity) ∷ shared es else shared es) ++ shared fs
    by true e = ap (λ xs. (d.name, d.entity) ∷ xs) e
    by false e = e
shared_append (event.Use u ∷ es) fs = shared_append es fs
shared_append (event.Import p ∷ es) fs = shared_append es fs
shared_append (event.Member m g i ∷ es) fs = shared_append es fs
shared_append (event.Bodiless i j ∷ es) fs = shared_append es fs
shared_append (event.Statement i j ∷ es) fs = shared_append es fs
shared_append (event.Misplaced i j ∷ es) fs = shared_append es fs
shared_append (event.SecondDefault i ∷ es) fs = shared_append es fs

pub named_append : (xs ys : List Specification) → all_named (xs ++ ys) ≡ all_named xs ++ all_named ys
named_append [] ys = refl
named_append (x ∷ xs) ys = ap (λ zs. named x.entity x.names ++ zs) (named_append xs ys) ∙ sym (append_assoc (named x.entity x.names) (all_named xs) (all_named ys))

pub shared_both : (es fs : List Event) (xs ys : List Specification) → shared es ≡ all_named xs → shared fs ≡ all_named ys → shared (es ++ fs) ≡ all_named (xs ++ ys)
shared_both es fs xs ys e f = shared_append es fs ∙ ap (λ zs. zs ++ shared fs) e ∙ ap (λ zs. all_named xs ++ zs) f ∙ sym (named_append xs ys)

statement_shared : (b : Bool) (i j : ℕ) → shared (statement_events b i j) ≡ []
statement_shared true i j = refl
statement_shared false i j = refl

-- of a node
pub node_shared : (c : Context) (k : Kind) (i j : ℕ) (ps : Trees) → shared (events c (node k i j ps)) ≡ shared (own_events c k i j ps) ++ shared (events_of (begin c k) k i j ps 0 ps)
node_shared c k i j ps =
    let st : List Event = statement_events c.listed i j in
    let own : List Event = own_events c k i j ps in
    let rest : List Event = events_of (begin c k) k i j ps 0 ps in
    shared_append (st ++ own) rest ∙ ap (λ xs. xs ++ shared rest) (shared_append st own ∙ ap (λ xs. xs ++ shared own) (statement_shared c.listed i j))

-- ---- locals

abbrev pub IsLocal : Declaration → Type 0
IsLocal d = is_package d.block ≡ false

pub none_shared : (es : List Event) → EachDeclared IsLocal es → shared es ≡ []
none_shared [] h = refl
none_shared (event.Declaration d ∷ es) h = ap (λ b. if b then (d.name, d.entity) ∷ shared es else shared es) h.0 ∙ none_shared es h.1
none_shared (event.Use u ∷ es) h = none_shared es h
none_shared (event.Import p ∷ es) h = none_shared es h
none_shared (event.Member m g i ∷ es) h = none_shared es h
none_shared (event.Bodiless i j ∷ es) h = none_shared es h
none_shared (event.Statement i j ∷ es) h = none_shared es h
none_shared (event.Misplaced i j ∷ es) h = none_shared es h
none_shared (event.SecondDefault i ∷ es) h = none_shared es h

told_each : (Q : Declaration → Type 0) (c : Context) (k : Kind) (i j : ℕ) (ps : Trees) → EachDeclared Q (own_events c k i j ps) → EachDeclared Q (events_of (begin c k) k i j ps 0 ps) → EachDeclared Q (events c (node k i j ps))
told_each Q c k i j ps own below =
    each_append Q (statement_events c.listed i j ++ own_events c k i j ps) (events_of (begin c k) k i j ps 0 ps)
    (each_append Q (statement_events c.listed i j) (own_events c k i j ps) (statement_each Q c.listed i j) own) below

-- ---- what declares nothing by itself

abbrev pub NotNew : Role → Type 0
NotNew (role.New d) = ⊥
NotNew r = Unit {0}

called_not : (r : Role) → NotNew (called_in r)
called_not role.Called = tt
called_not r = tt

name_not : (p : Tree) (r : Role) → NotNew r → NotNew (if_name p r)
name_not p r h = elim (is_name (kind_of p)) as (λ b. NotNew (if b then r else role.Operand)) [ true ↦ h | false ↦ tt ]

first_not : (n : ℕ) (r : Role) → NotNew r → NotNew (if_first n r)
first_not zero r h = h
first_not (suc n) r h = tt

field_not : (g : Option ℕ) → NotNew (field_role g)
field_not None = tt
field_not (Some g) = tt

key_not : (g : Option ℕ) → NotNew (key_role g)
key_not None = tt
key_not (Some g) = tt

parameter_not : (g : Option ℕ) (s : Option Scope) → NotNew (parameter_role g s)
parameter_not None s = tt
parameter_not (Some g) s = tt

entry_not : (named : Bool) (p : Tree) (i : ℕ) (s : Option Scope) → NotNew (entry_role named p i s)
entry_not true p i s = name_not p (role.Parameter i s) tt
entry_not false p i s = tt

pub part_not : (c : Context) (k : Kind) (i j : ℕ) (named : Bool) (n : ℕ) (p : Tree) → layer k ≡ Holding → NotNew c.role → NotNew (role_in c k i j named n p)
part_not c (kind.Specification s) i j named n p e r = absurd cc
part_not c kind.Define i j named n p e r = absurd cc
part_not c kind.DefiningRange i j named n p e r = absurd cc
part_not c kind.FunctionDeclaration i j named n p e r = absurd cc
part_not c kind.NameList i j named n p e r = r
part_not c kind.NewNames i j named n p e r = r
part_not c kind.Targets i j named n p e r = tt
part_not c kind.ExpressionList i j named n p e r = name_not p c.role r
part_not c kind.Call i j named n p e r = first_not n role.Called tt
part_not c kind.Parenthesized i j named n p e r = called_not c.role
part_not c kind.Selector i j named n p e r = name_not p (role.Selected j (is_called c.role)) tt
part_not c kind.Fields i j named n p e r = first_not n (field_role c.group) (field_not c.group)
part_not c kind.Keyed i j named n p e r = first_not n (key_role c.group) (key_not c.group)
part_not c kind.Parameters i j named n p e r = entry_not named p i c.parameters
part_not c kind.Parameter i j named n p e r = first_not n (parameter_role c.group c.parameters) (parameter_not c.group c.parameters)
part_not c k i j named n p e r = tt

name_local : (c : Context) (i : ℕ) (r : Role) → NotNew r → EachDeclared IsLocal (name_events c i r)
name_local c i (role.New d) h = absurd h
name_local c i (role.Field g) h = tt
name_local c i (role.Key g) h = tt
name_local c i (role.Parameter g None) h = tt
name_local c i (role.Parameter g (Some s)) h = (refl, tt)
name_local c i r h = tt

own_local : (c : Context) (k : Kind) (i j : ℕ) (ps : Trees) → layer k ≡ Holding → NotNew c.role → EachDeclared IsLocal (own_events c k i j ps)
own_local c kind.FunctionDeclaration i j ps e r = absurd cc
own_local c (kind.Specification s) i j ps e r = absurd cc
own_local c kind.DeclaredName i j ps e r = name_local c i c.role r
own_local c kind.Name i j ps e r = name_local c i c.role r
own_local c kind.Switch i j ps e r = second_each IsLocal false ps
own_local c kind.Break i j ps e r = misplaced_each IsLocal c.breaks i j
own_local c kind.Continue i j ps e r = misplaced_each IsLocal c.continues i j
own_local c kind.Fallthrough i j ps e r = misplaced_each IsLocal c.falls i j
own_local c k i j ps e r = tt

mutual
  -- no declaration of the package block stands in a plain tree
  pub plain_local : (c : Context) (t : Tree) → IsPlain t → NotNew c.role → EachDeclared IsLocal (events c t)
  plain_local c (node k i j ps) h r = told_each IsLocal c k i j ps (own_local c k i j ps h.0 r) (plain_parts (begin c k) k i j ps 0 ps h.0 h.1 r)

  plain_parts : (c : Context) (k : Kind) (i j : ℕ) (ps : Trees) (n : ℕ) (qs : Trees) → layer k ≡ Holding → ArePlain qs → NotNew c.role → EachDeclared IsLocal (events_of c k i j ps n qs)
  plain_parts c k i j ps n none e h r = tt
  plain_parts c k i j ps n (skip qs) e h r = plain_parts c k i j ps (suc n) qs e h r
  plain_parts c k i j ps n (more p qs) e h r =
      each_append IsLocal (events (enter c k i j ps (ends_named ps) n p (is_more qs)) p) (events_of (pass c p) k i j ps (suc n) qs)
      (plain_local (enter c k i j ps (ends_named ps) n p (is_more qs)) p h.0 (part_not c k i j (ends_named ps) n p e r))
      (plain_parts (pass c p) k i j ps (suc n) qs e h.1 r)

-- ---- what stands in a block

block_local : (c : Context) (k : Kind) (i : ℕ) → is_package c.block ≡ false → is_package (block_in c k i) ≡ false
block_local c k i b = elim (opens k) as (λ o. is_package (if o then block.Local i else c.block) ≡ false) [ true ↦ refl | false ↦ b ]

name_inside : (c : Context) (i : ℕ) (r : Role) → is_package c.block ≡ false → EachDeclared IsLocal (name_events c i r)
name_inside c i (role.New d) b = (b, tt)
name_inside c i (role.Field g) b = tt
name_inside c i (role.Key g) b = tt
name_inside c i (role.Parameter g None) b = tt
name_inside c i (role.Parameter g (Some s)) b = (refl, tt)
name_inside c i r b = tt

own_inside : (c : Context) (k : Kind) (i j : ℕ) (ps : Trees) → IsInner (node k i j ps) → is_package c.block ≡ false → EachDeclared IsLocal (own_events c k i j ps)
own_inside c kind.FunctionDeclaration i j ps h b = absurd (true_false true refl h.0)
own_inside c (kind.Specification declaring.Type) i j ps h b = (b, tt)
own_inside c kind.DeclaredName i j ps h b = name_inside c i c.role b
own_inside c kind.Name i j ps h b = name_inside c i c.role b
own_inside c kind.Switch i j ps h b = second_each IsLocal false ps
own_inside c kind.Break i j ps h b = misplaced_each IsLocal c.breaks i j
own_inside c kind.Continue i j ps h b = misplaced_each IsLocal c.continues i j
own_inside c kind.Fallthrough i j ps h b = misplaced_each IsLocal c.falls i j
own_inside c k i j ps h b = tt

mutual
  -- in a block that is not the package's all declarations are local
  inner_local : (c : Context) (t : Tree) → IsInner t → is_package c.block ≡ false → EachDeclared IsLocal (events c t)
  inner_local c (node k i j ps) h b = told_each IsLocal c k i j ps (own_inside c k i j ps h b) (inner_parts (begin c k) k i j ps 0 ps h.1 (block_local c k i b))

  inner_parts : (c : Context) (k : Kind) (i j : ℕ) (ps : Trees) (n : ℕ) (qs : Trees) → AreInner qs → is_package (block_in c k i) ≡ false → EachDeclared IsLocal (events_of c k i j ps n qs)
  inner_parts c k i j ps n none h b = tt
  inner_parts c k i j ps n (skip qs) h b = inner_parts c k i j ps (suc n) qs h b
  inner_parts c k i j ps n (more p qs) h b =
      each_append IsLocal (events (enter c k i j ps (ends_named ps) n p (is_more qs)) p) (events_of (pass c p) k i j ps (suc n) qs)
      (inner_local (enter c k i j ps (ends_named ps) n p (is_more qs)) p h.0 b)
      (inner_parts (pass c p) k i j ps (suc n) qs h.1 b)

-- where a node opens a block
own_opened : (c : Context) (k : Kind) (i j : ℕ) (ps : Trees) → opens k ≡ true → EachDeclared IsLocal (own_events c k i j ps)
own_opened c kind.FunctionDeclaration i j ps e = absurd cc
own_opened c (kind.Specification s) i j ps e = absurd cc
own_opened c kind.DeclaredName i j ps e = absurd cc
own_opened c kind.Name i j ps e = absurd cc
own_opened c kind.Switch i j ps e = second_each IsLocal false ps
own_opened c kind.Break i j ps e = misplaced_each IsLocal c.breaks i j
own_opened c kind.Continue i j ps e = misplaced_each IsLocal c.continues i j
own_opened c kind.Fallthrough i j ps e = misplaced_each IsLocal c.falls i j
own_opened c k i j ps e = tt

pub opened_local : (c : Context) (t : Tree) → opens (kind_of t) ≡ true → IsInner t → EachDeclared IsLocal (events c t)
opened_local c (node k i j ps) e h =
    told_each IsLocal c k i j ps (own_opened c k i j ps e) (inner_parts (begin c k) k i j ps 0 ps h.1 (ap (λ o. is_package (if o then block.Local i else c.block)) e))
