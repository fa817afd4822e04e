-- A file with another end tells the same, to that end.
use Rattle.std.proofs.Common.{◌≡◌, ◌∙◌, ℕ, zero, suc, Bool, true, false, ◌&&◌, ◌||◌, not, List, [], ◌∷◌, ◌++◌, map, Option, Some, None, refl, sym, ap}
use Rattle.std.specs.Prelude.{if◌then◌else◌, nat_lt}
use Rattle.go_grammar.specs.declared.kind.Kind.{Kind}
use Rattle.go_grammar.specs.declared.kind.Kind.TheVariants as kind
use Rattle.go_grammar.specs.declared.kind.Sort.TheVariants as sort
use Rattle.go_grammar.specs.Trees.{Tree, node, Trees, none, more, skip, kind_of, first}
use Rattle.go_grammar.specs.Grammar.{ends_named, is_name}
use Rattle.go_tree.specs.Views.{part_at}
use Rattle.go_tree.specs.declared.context.Block.{Block}
use Rattle.go_tree.specs.declared.context.Block.TheVariants as block
use Rattle.go_tree.specs.declared.context.Entity.TheVariants as entity
use Rattle.go_tree.specs.declared.context.Manner.TheVariants as manner
use Rattle.go_tree.specs.declared.context.Naming.{Naming}
use Rattle.go_tree.specs.declared.context.Role.{Role}
use Rattle.go_tree.specs.declared.context.Role.TheVariants as role
use Rattle.go_tree.specs.declared.context.Scope.{Scope}
use Rattle.go_tree.specs.declared.context.Context.{Context}
use Rattle.go_tree.specs.declared.event.Event.{Event}
use Rattle.go_tree.specs.declared.event.Event.TheVariants as event
use Rattle.go_tree.specs.Contexts.{is_there, is_package, opens, block_in, specified, defined, ranged, is_called, called_in, if_name, if_first, field_role, key_role, parameter_role, entry_role, role_in, enter}
use Rattle.go_tree.specs.Declarations.{is_function}
use Rattle.go_tree.specs.Events.{statement_events, own_events, name_events, function_events, misplaced, is_default, default_events, second_defaults, is_more, pass, begin, events, events_of}
use Rattle.go_heads_added.specs.Added.{reaching}

-- ---- lists of events

map_append : (f : Event → Event) (xs ys : List Event) → map f (xs ++ ys) ≡ map f xs ++ map f ys
map_append f [] ys = refl
map_append f (x ∷ xs) ys = ap (λ zs. f x ∷ zs) (map_append f xs ys)

both : {A : Type 0} (f : List A → List A → List A) {a b c d : List A} → a ≡ b → c ≡ d → f a c ≡ f b d
both f {a} {b} {c} {d} e g = ap (λ x. f x c) e ∙ ap (f b) g

module _ (e : ℕ) where
  abbrev to : List Event → List Event
  to es = map (reaching e) es

  statement_same : (b : Bool) (i j : ℕ) → to (statement_events b i j) ≡ statement_events b i j
  statement_same true i j = refl
  statement_same false i j = refl

  misplaced_same : (b : Bool) (i j : ℕ) → to (misplaced b i j) ≡ misplaced b i j
  misplaced_same true i j = refl
  misplaced_same false i j = refl

  default_same : (d b : Bool) (word : ℕ) → to (default_events d b word) ≡ default_events d b word
  default_same true true word = refl
  default_same true false word = refl
  default_same false b word = refl

  second_same : (b : Bool) (ps : Trees) → to (second_defaults b ps) ≡ second_defaults b ps
  second_same b none = refl
  second_same b (skip ps) = second_same b ps
  second_same b (more p ps) =
      map_append (reaching e) (default_events (is_default (kind_of p)) b (first p)) (second_defaults (b || is_default (kind_of p)) ps)
      ∙ both (λ xs ys. xs ++ ys) (default_same (is_default (kind_of p)) b (first p)) (second_same (b || is_default (kind_of p)) ps)

  function_same : (b d : Bool) (i j : ℕ) → to (if b then function_events i j d else []) ≡ (if b then function_events i j d else [])
  function_same true true i j = refl
  function_same true false i j = refl
  function_same false d i j = refl

  -- ---- in blocks

  -- a declaration of a block has the scope that it had
  abbrev local_end : Block → Bool → ℕ → ℕ
  local_end b f end = if is_package b && f then e else end

  local_same : (b : Block) (f : Bool) (end : ℕ) → is_package b ≡ false → local_end b f end ≡ end
  local_same b f end h = ap (λ x. if x && f then e else end) h

  name_local : (c : Context) (i : ℕ) (r : Role) → is_package c.block ≡ false → to (name_events c i r) ≡ name_events c i r
  name_local c i (role.New d) h =
      ap (λ x. event.Declaration (record { name = i; entity = d.entity; manner = d.manner; block = c.block; scope = record { from = d.scope.from; to = x }; statement = d.statement; source = d.source; column = c.column }) ∷ [])
      (local_same c.block (not (is_function d.entity)) d.scope.to h)
  name_local c i (role.Field g) h = refl
  name_local c i (role.Key g) h = refl
  name_local c i (role.Parameter g None) h = refl
  name_local c i (role.Parameter g (Some s)) h = refl
  name_local c i r h = refl

  own_local : (c : Context) (k : Kind) (i j : ℕ) (ps : Trees) → is_package c.block ≡ false → to (own_events c k i j ps) ≡ own_events c k i j ps
  own_local c kind.FunctionDeclaration i j ps h = function_same (nat_lt i j) (is_there (part_at ps 1)) i j
  own_local c (kind.Specification sort.Type) i j ps h =
      ap (λ x. event.Declaration (record { name = i; entity = entity.Type; manner = manner.Declared; block = c.block; scope = record { from = i; to = x }; statement = i; source = Some i; column = 0 }) ∷ []) (local_same c.block true c.end h)
  own_local c kind.DeclaredName i j ps h = name_local c i c.role h
  own_local c kind.Name i j ps h = name_local c i c.role h
  own_local c kind.Switch i j ps h = second_same false ps
  own_local c kind.Break i j ps h = misplaced_same c.breaks i j
  own_local c kind.Continue i j ps h = misplaced_same c.continues i j
  own_local c kind.Fallthrough i j ps h = misplaced_same c.falls i j
  own_local c k i j ps h = refl

  block_local : (c : Context) (k : Kind) (i : ℕ) → is_package c.block ≡ false → is_package (block_in c k i) ≡ false
  block_local c k i h = elim (opens k) as (λ o. is_package (if o then block.Local i else c.block) ≡ false) [ true ↦ refl | false ↦ h ]

  mutual
    tree_local : (c : Context) (t : Tree) → is_package c.block ≡ false → to (events c t) ≡ events c t
    tree_local c (node k i j ps) h =
        map_append (reaching e) (statement_events c.listed i j ++ own_events c k i j ps) (events_of (begin c k) k i j ps 0 ps)
        ∙ both (λ xs ys. xs ++ ys)
        (map_append (reaching e) (statement_events c.listed i j) (own_events c k i j ps) ∙ both (λ xs ys. xs ++ ys) (statement_same c.listed i j) (own_local c k i j ps h))
        (parts_local (begin c k) k i j ps 0 ps (block_local c k i h))

    parts_local : (c : Context) (k : Kind) (i j : ℕ) (all : Trees) (n : ℕ) (qs : Trees) → is_package (block_in c k i) ≡ false → to (events_of c k i j all n qs) ≡ events_of c k i j all n qs
    parts_local c k i j all n none h = refl
    parts_local c k i j all n (skip qs) h = parts_local c k i j all (suc n) qs h
    parts_local c k i j all n (more p qs) h =
        map_append (reaching e) (events (enter c k i j all (ends_named all) n p (is_more qs)) p) (events_of (pass c p) k i j all (suc n) qs)
        ∙ both (λ xs ys. xs ++ ys) (tree_local (enter c k i j all (ends_named all) n p (is_more qs)) p h) (parts_local (pass c p) k i j all (suc n) qs h)

  -- ---- in the block of the package

  abbrev far_naming : Naming → Naming
  far_naming d = record d { scope = record { from = d.scope.from; to = if not (is_function d.entity) then e else d.scope.to } }

  abbrev far_role : Role → Role
  far_role (role.New d) = role.New (far_naming d)
  far_role r = r

  -- the context in a file with this end
  abbrev far : Context → Context
  far c = record c { end = e; role = far_role c.role }

  first_far : (n : ℕ) (r s : Role) → r ≡ far_role s → if_first n r ≡ far_role (if_first n s)
  first_far zero r s h = h
  first_far (suc n) r s h = refl

  name_far : (p : Tree) (r s : Role) → r ≡ far_role s → if_name p r ≡ far_role (if_name p s)
  name_far p r s h = by (is_name (kind_of p))
    where
      by : (b : Bool) → (if b then r else role.Operand) ≡ far_role (if b then s else role.Operand)
      by true = h
      by false = refl

  called_far : (r : Role) → called_in (far_role r) ≡ far_role (called_in r)
  called_far role.Called = refl
  called_far (role.New d) = refl
  called_far r = refl

  is_called_far : (r : Role) → is_called (far_role r) ≡ is_called r
  is_called_far (role.New d) = refl
  is_called_far r = refl

  field_far : (g : Option ℕ) → field_role g ≡ far_role (field_role g)
  field_far None = refl
  field_far (Some g) = refl

  key_far : (g : Option ℕ) → key_role g ≡ far_role (key_role g)
  key_far None = refl
  key_far (Some g) = refl

  parameter_far : (g : Option ℕ) (s : Option Scope) → parameter_role g s ≡ far_role (parameter_role g s)
  parameter_far None s = refl
  parameter_far (Some g) s = refl

  entry_far : (named : Bool) (p : Tree) (i : ℕ) (s : Option Scope) → entry_role named p i s ≡ far_role (entry_role named p i s)
  entry_far true p i s = name_far p (role.Parameter i s) (role.Parameter i s) refl
  entry_far false p i s = refl

  role_far : (c : Context) (k : Kind) (i j : ℕ) (named : Bool) (n : ℕ) (p : Tree) → role_in (far c) k i j named n p ≡ far_role (role_in c k i j named n p)
  role_far c (kind.Specification sort.Constant) i j named n p = first_far n (role.New (specified (far c) sort.Constant i j)) (role.New (specified c sort.Constant i j)) refl
  role_far c (kind.Specification sort.Variable) i j named n p = first_far n (role.New (specified (far c) sort.Variable i j)) (role.New (specified c sort.Variable i j)) refl
  role_far c (kind.Specification sort.Type) i j named n p = refl
  role_far c kind.Define i j named n p = first_far n (role.New (defined (far c) i j)) (role.New (defined c i j)) refl
  role_far c kind.DefiningRange i j named n p = first_far n (role.New (ranged (far c) i j)) (role.New (ranged c i j)) refl
  role_far c kind.NameList i j named n p = refl
  role_far c kind.NewNames i j named n p = refl
  role_far c kind.Targets i j named n p = refl
  role_far c kind.ExpressionList i j named n p = name_far p (far_role c.role) c.role refl
  role_far c kind.Call i j named n p = first_far n role.Called role.Called refl
  role_far c kind.Parenthesized i j named n p = called_far c.role
  role_far c kind.Selector i j named n p = ap (λ b. if_name p (role.Selected j b)) (is_called_far c.role) ∙ name_far p (role.Selected j (is_called c.role)) (role.Selected j (is_called c.role)) refl
  role_far c kind.Fields i j named n p = first_far n (field_role c.group) (field_role c.group) (field_far c.group)
  role_far c kind.Keyed i j named n p = first_far n (key_role c.group) (key_role c.group) (key_far c.group)
  role_far c kind.Parameters i j named n p = entry_far named p i c.parameters
  role_far c kind.Parameter i j named n p = first_far n (parameter_role c.group c.parameters) (parameter_role c.group c.parameters) (parameter_far c.group c.parameters)
  role_far c k i j named n p = refl

  enter_far : (c : Context) (k : Kind) (i j : ℕ) (all : Trees) (named : Bool) (n : ℕ) (p : Tree) (b : Bool) → opens k ≡ false → enter (far c) k i j all named n p b ≡ far (enter c k i j all named n p b)
  enter_far c kind.Block i j all named n p b o = absurd cc
  enter_far c kind.Case i j all named n p b o = absurd cc
  enter_far c kind.Default i j all named n p b o = absurd cc
  enter_far c kind.If i j all named n p b o = absurd cc
  enter_far c kind.Switch i j all named n p b o = absurd cc
  enter_far c kind.For i j all named n p b o = absurd cc
  enter_far c (kind.Specification sort.Constant) i j all named n p b o =
      ap (λ r. record (enter c (kind.Specification sort.Constant) i j all named n p b) { end = e; role = r }) (role_far c (kind.Specification sort.Constant) i j named n p)
  enter_far c (kind.Specification sort.Variable) i j all named n p b o =
      ap (λ r. record (enter c (kind.Specification sort.Variable) i j all named n p b) { end = e; role = r }) (role_far c (kind.Specification sort.Variable) i j named n p)
  enter_far c (kind.Specification sort.Type) i j all named n p b o = refl
  enter_far c k i j all named n p b o = ap (λ r. record (enter c k i j all named n p b) { end = e; role = r }) (role_far c k i j named n p)

  enter_opened : (c : Context) (k : Kind) (i j : ℕ) (all : Trees) (named : Bool) (n : ℕ) (p : Tree) (b : Bool) → opens k ≡ true → enter (far c) k i j all named n p b ≡ enter c k i j all named n p b
  enter_opened c kind.Block i j all named n p b o = refl
  enter_opened c kind.Case i j all named n p b o = refl
  enter_opened c kind.Default i j all named n p b o = refl
  enter_opened c kind.If i j all named n p b o = refl
  enter_opened c kind.Switch i j all named n p b o = refl
  enter_opened c kind.For i j all named n p b o = refl
  enter_opened c k i j all named n p b o = absurd cc

  begin_far : (c : Context) (k : Kind) → begin (far c) k ≡ far (begin c k)
  begin_far c (kind.Declaration s) = refl
  begin_far c k = refl

  -- in a block that is opened all is told as it was
  parts_opened : (c : Context) (k : Kind) (i j : ℕ) (all : Trees) (n : ℕ) (qs : Trees) → opens k ≡ true → events_of (far c) k i j all n qs ≡ events_of c k i j all n qs
  parts_opened c k i j all n none o = refl
  parts_opened c k i j all n (skip qs) o = parts_opened c k i j all (suc n) qs o
  parts_opened c k i j all n (more p qs) o =
      both (λ xs ys. xs ++ ys) (ap (λ x. events x p) (enter_opened c k i j all (ends_named all) n p (is_more qs) o)) (parts_opened (pass c p) k i j all (suc n) qs o)

  -- ---- names

  used_far : (c : Context) (i : ℕ) (r : Role) → c.role ≡ r → far_role r ≡ r
      → event.Use (record { name = i; role = far_role c.role; site = c.site; constant = c.constant; initial = c.initial }) ∷ [] ≡ event.Use (record { name = i; role = c.role; site = c.site; constant = c.constant; initial = c.initial }) ∷ []
  used_far c i r h f = ap (λ x. event.Use (record { name = i; role = x; site = c.site; constant = c.constant; initial = c.initial }) ∷ []) (ap far_role h ∙ f ∙ sym h)

  package_end : (b : Block) (f : Bool) (end : ℕ) → b ≡ block.Package → (if f then e else end) ≡ local_end b f end
  package_end b f end h = sym (ap (λ x. if is_package x && f then e else end) h)

  names_far : (c : Context) (i : ℕ) (r : Role) → c.role ≡ r → c.block ≡ block.Package → name_events (far c) i (far_role r) ≡ to (name_events c i r)
  names_far c i (role.New d) h p =
      ap (λ x. event.Declaration (record { name = i; entity = d.entity; manner = d.manner; block = c.block; scope = record { from = d.scope.from; to = x }; statement = d.statement; source = d.source; column = c.column }) ∷ [])
      (package_end c.block (not (is_function d.entity)) d.scope.to p)
  names_far c i (role.Field g) h p = refl
  names_far c i (role.Key g) h p = refl
  names_far c i (role.Parameter g None) h p = refl
  names_far c i (role.Parameter g (Some s)) h p = refl
  names_far c i role.Operand h p = used_far c i role.Operand h refl
  names_far c i role.Assigned h p = used_far c i role.Assigned h refl
  names_far c i role.Called h p = used_far c i role.Called h refl
  names_far c i (role.Selected l b) h p = used_far c i (role.Selected l b) h refl

  own_far : (c : Context) (k : Kind) (i j : ℕ) (ps : Trees) → c.block ≡ block.Package → own_events (far c) k i j ps ≡ to (own_events c k i j ps)
  own_far c kind.FunctionDeclaration i j ps p = sym (function_same (nat_lt i j) (is_there (part_at ps 1)) i j)
  own_far c (kind.Specification sort.Type) i j ps p =
      ap (λ x. event.Declaration (record { name = i; entity = entity.Type; manner = manner.Declared; block = c.block; scope = record { from = i; to = x }; statement = i; source = Some i; column = 0 }) ∷ []) (package_end c.block true c.end p)
  own_far c kind.DeclaredName i j ps p = names_far c i c.role refl p
  own_far c kind.Name i j ps p = names_far c i c.role refl p
  own_far c kind.Switch i j ps p = sym (second_same false ps)
  own_far c kind.Break i j ps p = sym (misplaced_same c.breaks i j)
  own_far c kind.Continue i j ps p = sym (misplaced_same c.continues i j)
  own_far c kind.Fallthrough i j ps p = sym (misplaced_same c.falls i j)
  own_far c k i j ps p = refl

  block_kept : (c : Context) (k : Kind) (i : ℕ) → c.block ≡ block.Package → opens k ≡ false → block_in c k i ≡ block.Package
  block_kept c k i p o = ap (λ x. if x then block.Local i else c.block) o ∙ p

  block_opened : (c : Context) (k : Kind) (i : ℕ) → opens k ≡ true → is_package (block_in c k i) ≡ false
  block_opened c k i o = ap (λ x. is_package (if x then block.Local i else c.block)) o

  mutual
    -- a tree of the block of the package
    pub tree_far : (c : Context) (t : Tree) → c.block ≡ block.Package → events (far c) t ≡ to (events c t)
    tree_far c (node k i j ps) p =
        both (λ xs ys. xs ++ ys)
        (both (λ xs ys. xs ++ ys) (sym (statement_same c.listed i j)) (own_far c k i j ps p) ∙ sym (map_append (reaching e) (statement_events c.listed i j) (own_events c k i j ps)))
        (ap (λ x. events_of x k i j ps 0 ps) (begin_far c k) ∙ parts_far (begin c k) k i j ps 0 ps p (opens k) refl)
        ∙ sym (map_append (reaching e) (statement_events c.listed i j ++ own_events c k i j ps) (events_of (begin c k) k i j ps 0 ps))

    pub parts_far : (c : Context) (k : Kind) (i j : ℕ) (all : Trees) (n : ℕ) (qs : Trees) → c.block ≡ block.Package → (o : Bool) → opens k ≡ o → events_of (far c) k i j all n qs ≡ to (events_of c k i j all n qs)
    parts_far c k i j all n none p o q = refl
    parts_far c k i j all n (skip qs) p o q = parts_far c k i j all (suc n) qs p o q
    parts_far c k i j all n (more t qs) p true q = parts_opened c k i j all n (more t qs) q ∙ sym (parts_local c k i j all n (more t qs) (block_opened c k i q))
    parts_far c k i j all n (more t qs) p false q =
        let inner : Context = enter c k i j all (ends_named all) n t (is_more qs) in
        both (λ xs ys. xs ++ ys) (ap (λ x. events x t) (enter_far c k i j all (ends_named all) n t (is_more qs) q) ∙ tree_far inner t (block_kept c k i p q)) (parts_far (pass c t) k i j all (suc n) qs p false q)
        ∙ sym (map_append (reaching e) (events inner t) (events_of (pass c t) k i j all (suc n) qs))
