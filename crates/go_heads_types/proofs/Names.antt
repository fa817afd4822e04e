-- The names that a signature declares, wherever it stands and whatever stands behind it.
use Rattle.std.proofs.Common.{◌≡◌, ◌∙◌, ℕ, zero, suc, Bool, true, false, List, [], ◌∷◌, ◌++◌, map, Option, Some, None, refl, sym, ap}
use Rattle.std.specs.Prelude.{if◌then◌else◌, ◌||◌, is_some}
use Rattle.std.proofs.lemmas.List.{map-append}
use Rattle.go_grammar.specs.declared.kind.Kind.{Kind}
use Rattle.go_grammar.specs.declared.kind.Kind.TheVariants as kind
use Rattle.go_grammar.specs.Trees.{Tree, node, Trees, none, more, skip, kind_of, first}
use Rattle.go_grammar.specs.Grammar.{is_name, is_parameter, ends_from, ends_named}
use Rattle.go_rewriting.specs.Places.{carry, carries}
use Rattle.go_tree.specs.declared.context.Role.{Role}
use Rattle.go_tree.specs.declared.context.Role.TheVariants as role
use Rattle.go_tree.specs.declared.context.Scope.{Scope}
use Rattle.go_tree.specs.declared.context.Context.{Context}
use Rattle.go_tree.specs.declared.event.Event.{Event}
use Rattle.go_tree.specs.declared.event.Event.TheVariants as event
use Rattle.go_tree.specs.Contexts.{is_called, role_in, group_in, parameters_in, called_in, if_name, if_first, field_role, key_role, parameter_role, entry_role, enter}
use Rattle.go_tree.specs.Events.{name_events, own_events, statement_events, misplaced, is_default, default_events, second_defaults, is_more, pass, begin, events, events_of}
use Rattle.go_scopes_events.proofs.Public.{Holding, layer, IsPlain, ArePlain}

abbrev pub declared_names : List Event → List ℕ
declared_names [] = []
declared_names (event.Declaration d ∷ es) = d.name ∷ declared_names es
declared_names (e ∷ es) = declared_names es

pub names_append : (es fs : List Event) → declared_names (es ++ fs) ≡ declared_names es ++ declared_names fs
names_append [] fs = refl
names_append (event.Declaration d ∷ es) fs = ap (λ ns. d.name ∷ ns) (names_append es fs)
names_append (event.Use u ∷ es) fs = names_append es fs
names_append (event.Import k ∷ es) fs = names_append es fs
names_append (event.Member m g k ∷ es) fs = names_append es fs
names_append (event.Bodiless a k ∷ es) fs = names_append es fs
names_append (event.Statement a k ∷ es) fs = names_append es fs
names_append (event.Misplaced a k ∷ es) fs = names_append es fs
names_append (event.SecondDefault k ∷ es) fs = names_append es fs

pub statement_names : (b : Bool) (i j : ℕ) → declared_names (statement_events b i j) ≡ []
statement_names true i j = refl
statement_names false i j = refl

misplaced_names : (b : Bool) (i j : ℕ) → declared_names (misplaced b i j) ≡ []
misplaced_names true i j = refl
misplaced_names false i j = refl

default_names : (d b : Bool) (word : ℕ) → declared_names (default_events d b word) ≡ []
default_names true true word = refl
default_names true false word = refl
default_names false b word = refl

second_names : (b : Bool) (ps : Trees) → declared_names (second_defaults b ps) ≡ []
second_names b none = refl
second_names b (skip ps) = second_names b ps
second_names b (more t ps) =
    names_append (default_events (is_default (kind_of t)) b (first t)) (second_defaults (b || is_default (kind_of t)) ps)
    ∙ ap (λ ns. ns ++ declared_names (second_defaults (b || is_default (kind_of t)) ps)) (default_names (is_default (kind_of t)) b (first t))
    ∙ second_names (b || is_default (kind_of t)) ps

-- ---- whether a name is declared

abbrev pub declaring : Role → Bool
declaring (role.New d) = true
declaring (role.Parameter g (Some s)) = true
declaring r = false

abbrev name_if : Bool → ℕ → List ℕ
name_if true i = i ∷ []
name_if false i = []

name_names : (c : Context) (i : ℕ) (r : Role) → declared_names (name_events c i r) ≡ name_if (declaring r) i
name_names c i (role.New d) = refl
name_names c i (role.Field g) = refl
name_names c i (role.Key g) = refl
name_names c i (role.Parameter g None) = refl
name_names c i (role.Parameter g (Some s)) = refl
name_names c i r = refl

-- contexts in which the same names of a tree are declared
pub record Like (c d : Context) : Type 0 where
  pub role : declaring d.role ≡ declaring c.role
  pub parameters : is_some d.parameters ≡ is_some c.parameters
  pub group : is_some d.group ≡ is_some c.group

first_like : (n : ℕ) (r s : Role) → declaring s ≡ declaring r → declaring (if_first n s) ≡ declaring (if_first n r)
first_like zero r s e = e
first_like (suc n) r s e = refl

name_like : (p q : Tree) (r s : Role) → kind_of q ≡ kind_of p → declaring s ≡ declaring r → declaring (if_name q s) ≡ declaring (if_name p r)
name_like p q r s k e = ap (λ x. declaring (if is_name x then s else role.Operand)) k ∙ by (is_name (kind_of p))
  where
    by : (b : Bool) → declaring (if b then s else role.Operand) ≡ declaring (if b then r else role.Operand)
    by true = e
    by false = refl

called_like : (r s : Role) → declaring (called_in s) ≡ declaring (called_in r)
called_like r s = by_called s ∙ sym (by_called r)
  where
    by_called : (x : Role) → declaring (called_in x) ≡ false
    by_called role.Called = refl
    by_called x = refl

field_like : (g h : Option ℕ) → declaring (field_role h) ≡ declaring (field_role g)
field_like None None = refl
field_like None (Some h) = refl
field_like (Some g) None = refl
field_like (Some g) (Some h) = refl

key_like : (g h : Option ℕ) → declaring (key_role h) ≡ declaring (key_role g)
key_like None None = refl
key_like None (Some h) = refl
key_like (Some g) None = refl
key_like (Some g) (Some h) = refl

scope_like : (g h : ℕ) (s r : Option Scope) → is_some r ≡ is_some s → declaring (role.Parameter h r) ≡ declaring (role.Parameter g s)
scope_like g h None None e = refl
scope_like g h None (Some r) e = cc
scope_like g h (Some s) None e = cc
scope_like g h (Some s) (Some r) e = refl

parameter_like : (g h : Option ℕ) (s r : Option Scope) → is_some h ≡ is_some g → is_some r ≡ is_some s → declaring (parameter_role h r) ≡ declaring (parameter_role g s)
parameter_like None None s r f e = refl
parameter_like None (Some h) s r f e = cc
parameter_like (Some g) None s r f e = cc
parameter_like (Some g) (Some h) s r f e = scope_like g h s r e

entry_like : (named : Bool) (p q : Tree) (g h : ℕ) (s r : Option Scope) → kind_of q ≡ kind_of p → is_some r ≡ is_some s → declaring (entry_role named q h r) ≡ declaring (entry_role named p g s)
entry_like true p q g h s r k e = name_like p q (role.Parameter g s) (role.Parameter h r) k (scope_like g h s r e)
entry_like false p q g h s r k e = refl

role_like : (c d : Context) (k : Kind) (i j x y : ℕ) (named : Bool) (n : ℕ) (p q : Tree) → layer k ≡ Holding → kind_of q ≡ kind_of p → Like c d
    → declaring (role_in d k x y named n q) ≡ declaring (role_in c k i j named n p)
role_like c d (kind.Specification s) i j x y named n p q e f h = absurd cc
role_like c d kind.Define i j x y named n p q e f h = absurd cc
role_like c d kind.DefiningRange i j x y named n p q e f h = absurd cc
role_like c d kind.NameList i j x y named n p q e f h = h.role
role_like c d kind.NewNames i j x y named n p q e f h = h.role
role_like c d kind.ExpressionList i j x y named n p q e f h = name_like p q c.role d.role f h.role
role_like c d kind.Call i j x y named n p q e f h = first_like n role.Called role.Called refl
role_like c d kind.Parenthesized i j x y named n p q e f h = called_like c.role d.role
role_like c d kind.Selector i j x y named n p q e f h = name_like p q (role.Selected j (is_called c.role)) (role.Selected y (is_called d.role)) f refl
role_like c d kind.Fields i j x y named n p q e f h = first_like n (field_role c.group) (field_role d.group) (field_like c.group d.group)
role_like c d kind.Keyed i j x y named n p q e f h = first_like n (key_role c.group) (key_role d.group) (key_like c.group d.group)
role_like c d kind.Parameters i j x y named n p q e f h = entry_like named p q i x c.parameters d.parameters f h.parameters
role_like c d kind.Parameter i j x y named n p q e f h = first_like n (parameter_role c.group c.parameters) (parameter_role d.group d.parameters) (parameter_like c.group d.group c.parameters d.parameters h.group h.parameters)
role_like c d k i j x y named n p q e f h = refl

group_like : (c d : Context) (k : Kind) (i x : ℕ) → Like c d → is_some (group_in d k x) ≡ is_some (group_in c k i)
group_like c d kind.StructType i x h = refl
group_like c d kind.Composite i x h = refl
group_like c d kind.LiteralValue i x h = refl
group_like c d kind.Parameters i x h = refl
group_like c d k i x h = h.group

parameters_like : (c d : Context) (k : Kind) (j y : ℕ) (ps qs : Trees) (n : ℕ) (p q : Tree) → layer k ≡ Holding → Like c d → is_some (parameters_in d k y qs n q) ≡ is_some (parameters_in c k j ps n p)
parameters_like c d kind.FunctionDeclaration j y ps qs n p q e h = absurd cc
parameters_like c d kind.FunctionType j y ps qs n p q e h = refl
parameters_like c d k j y ps qs n p q e h = h.parameters

kind_carried : (m : ℕ → ℕ) (p : Tree) → kind_of (carry m p) ≡ kind_of p
kind_carried m (node k i j ps) = refl

ends_carried : (m : ℕ → ℕ) (b : Bool) (ps : Trees) → ends_from b (carries m ps) ≡ ends_from b ps
ends_carried m b none = refl
ends_carried m b (more (node k i j qs) ps) = ends_carried m (is_parameter k) ps
ends_carried m b (skip ps) = ends_carried m false ps

module _ (m : ℕ → ℕ) where
  if_placed : (b : Bool) (i : ℕ) → name_if b (m i) ≡ map m (name_if b i)
  if_placed true i = refl
  if_placed false i = refl

  own_role : (c d : Context) (i : ℕ) → Like c d → declared_names (name_events d (m i) d.role) ≡ map m (declared_names (name_events c i c.role))
  own_role c d i h = name_names d (m i) d.role ∙ ap (λ b. name_if b (m i)) h.role ∙ if_placed (declaring c.role) i ∙ sym (ap (map m) (name_names c i c.role))

  silent : (es fs : List Event) → declared_names es ≡ [] → declared_names fs ≡ [] → declared_names fs ≡ map m (declared_names es)
  silent es fs a b = b ∙ sym (ap (map m) a)

  own_placed : (c d : Context) (k : Kind) (i j : ℕ) (ps : Trees) → layer k ≡ Holding → Like c d → declared_names (own_events d k (m i) (m j) (carries m ps)) ≡ map m (declared_names (own_events c k i j ps))
  own_placed c d kind.FunctionDeclaration i j ps e h = absurd cc
  own_placed c d (kind.Specification s) i j ps e h = absurd cc
  own_placed c d kind.DeclaredName i j ps e h = own_role c d i h
  own_placed c d kind.Name i j ps e h = own_role c d i h
  own_placed c d kind.Switch i j ps e h = silent (second_defaults false ps) (second_defaults false (carries m ps)) (second_names false ps) (second_names false (carries m ps))
  own_placed c d kind.Break i j ps e h = silent (misplaced c.breaks i j) (misplaced d.breaks (m i) (m j)) (misplaced_names c.breaks i j) (misplaced_names d.breaks (m i) (m j))
  own_placed c d kind.Continue i j ps e h = silent (misplaced c.continues i j) (misplaced d.continues (m i) (m j)) (misplaced_names c.continues i j) (misplaced_names d.continues (m i) (m j))
  own_placed c d kind.Fallthrough i j ps e h = silent (misplaced c.falls i j) (misplaced d.falls (m i) (m j)) (misplaced_names c.falls i j) (misplaced_names d.falls (m i) (m j))
  own_placed c d k i j ps e h = refl

  both_placed : (us vs es fs : List Event) → declared_names us ≡ map m (declared_names es) → declared_names vs ≡ map m (declared_names fs) → declared_names (us ++ vs) ≡ map m (declared_names (es ++ fs))
  both_placed us vs es fs a b =
      names_append us vs ∙ ap (λ z. z ++ declared_names vs) a ∙ ap (λ z. map m (declared_names es) ++ z) b
      ∙ sym (map-append m (declared_names es) (declared_names fs)) ∙ ap (map m) (sym (names_append es fs))

  mutual
    pub names_placed : (c d : Context) (t : Tree) → IsPlain t → Like c d → declared_names (events d (carry m t)) ≡ map m (declared_names (events c t))
    names_placed c d (node k i j ps) p h =
        both_placed (statement_events d.listed (m i) (m j) ++ own_events d k (m i) (m j) (carries m ps)) (events_of (begin d k) k (m i) (m j) (carries m ps) 0 (carries m ps))
        (statement_events c.listed i j ++ own_events c k i j ps) (events_of (begin c k) k i j ps 0 ps)
        (both_placed (statement_events d.listed (m i) (m j)) (own_events d k (m i) (m j) (carries m ps)) (statement_events c.listed i j) (own_events c k i j ps)
        (silent (statement_events c.listed i j) (statement_events d.listed (m i) (m j)) (statement_names c.listed i j) (statement_names d.listed (m i) (m j)))
        (own_placed c d k i j ps p.0 h))
        (row_placed (begin c k) (begin d k) k i j ps 0 ps p.0 p.1 (record { role = h.role; parameters = h.parameters; group = h.group }))

    row_placed : (c d : Context) (k : Kind) (i j : ℕ) (ps : Trees) (n : ℕ) (qs : Trees) → layer k ≡ Holding → ArePlain qs → Like c d
        → declared_names (events_of d k (m i) (m j) (carries m ps) n (carries m qs)) ≡ map m (declared_names (events_of c k i j ps n qs))
    row_placed c d k i j ps n none e p h = refl
    row_placed c d k i j ps n (skip qs) e p h = row_placed c d k i j ps (suc n) qs e p h
    row_placed c d k i j ps n (more q qs) e p h =
        both_placed
        (events (enter d k (m i) (m j) (carries m ps) (ends_named (carries m ps)) n (carry m q) (is_more (carries m qs))) (carry m q)) (events_of (pass d (carry m q)) k (m i) (m j) (carries m ps) (suc n) (carries m qs))
        (events (enter c k i j ps (ends_named ps) n q (is_more qs)) q) (events_of (pass c q) k i j ps (suc n) qs)
        (ap (λ b. declared_names (events (enter d k (m i) (m j) (carries m ps) b n (carry m q) (is_more (carries m qs))) (carry m q))) (ends_carried m false ps)
        ∙ names_placed (enter c k i j ps (ends_named ps) n q (is_more qs)) (enter d k (m i) (m j) (carries m ps) (ends_named ps) n (carry m q) (is_more (carries m qs))) q p.0 (record {
          role = role_like c d k i j (m i) (m j) (ends_named ps) n q (carry m q) e (kind_carried m q) h;
          parameters = parameters_like c d k j (m j) ps (carries m ps) n q (carry m q) e h;
          group = group_like c d k i (m i) h;
        }))
        (row_placed (pass c q) (pass d (carry m q)) k i j ps (suc n) qs e p.1 (record { role = h.role; parameters = h.parameters; group = h.group }))
