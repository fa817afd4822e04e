-- What stands in the right side of a type stands behind the name of a type that is declared.
use Rattle.std.proofs.Common.{◌≡◌, ℕ, zero, suc, inl, inr, Bool, true, false, List, [], ◌∷◌, ◌++◌, Option, Some, None, refl}
use Rattle.std.specs.Prelude.{if◌then◌else◌, nat_eq, nat_lt, ◌||◌}
use Rattle.go_grammar.specs.declared.kind.Kind.{Kind}
use Rattle.go_grammar.specs.declared.kind.Kind.TheVariants as kind
use Rattle.go_grammar.specs.declared.kind.Sort.TheVariants as declaring
use Rattle.go_grammar.specs.Trees.{Tree, node, Trees, none, more, skip, kind_of, first, parts}
use Rattle.go_grammar.specs.Grammar.{ends_named, count}
use Rattle.go_tree.specs.Views.{part_at}
use Rattle.go_tree.specs.declared.context.Reach.TheVariants as reach
use Rattle.go_tree.specs.declared.context.Role.{Role}
use Rattle.go_tree.specs.declared.context.Role.TheVariants as role
use Rattle.go_tree.specs.declared.context.Site.{Site}
use Rattle.go_tree.specs.declared.context.Site.TheVariants as site
use Rattle.go_tree.specs.declared.context.Context.{Context}
use Rattle.go_tree.specs.declared.event.Declaration.{Declaration}
use Rattle.go_tree.specs.declared.event.Use.{Use}
use Rattle.go_tree.specs.declared.event.Event.{Event}
use Rattle.go_tree.specs.declared.event.Event.TheVariants as event
use Rattle.go_tree.specs.Contexts.{is_there, element_site, length_site, column_site, value_site, sequence_site, typed_site, function_site, site_in, enter, file_context}
use Rattle.go_tree.specs.Events.{statement_events, own_events, name_events, function_events, misplaced, is_default, default_events, second_defaults, is_more, pass, begin, events, events_of}
use Rattle.go_scopes_events.specs.Orders.{EachDeclared}
use Rattle.go_scopes_events.specs.Sited.{EachUsed}
use Rattle.go_package_defs.specs.Knowledge.{is_type}
use Rattle.go_package_settled.proofs.Specified.{AnyDeclared}

-- ---- what holds of each

declared_split : (Q : Declaration → Type 0) (es fs : List Event) → EachDeclared Q (es ++ fs) → EachDeclared Q es × EachDeclared Q fs
declared_split Q [] fs h = (tt, h)
declared_split Q (event.Declaration d ∷ es) fs h = let r = declared_split Q es fs h.1 in ((h.0, r.0), r.1)
declared_split Q (e ∷ es) fs h = declared_split Q es fs h

used_append : (Q : Use → Type 0) (es fs : List Event) → EachUsed Q es → EachUsed Q fs → EachUsed Q (es ++ fs)
used_append Q [] fs h g = g
used_append Q (event.Use u ∷ es) fs h g = (h.0, used_append Q es fs h.1 g)
used_append Q (e ∷ es) fs h g = used_append Q es fs h g

-- ---- sites

module _ (P : ℕ → Type 0) where
  -- In a right side, it is that of one of these.
  abbrev pub InRight : Site → Type 0
  InRight (site.Right s r) = P s
  InRight s = Unit {0}

  -- types are declared by these names alone
  abbrev pub TypesAre : List Event → Type 0
  TypesAre es = EachDeclared (λ d. is_type d.entity ≡ true → P d.name) es

  abbrev AreInRight : List Event → Type 0
  AreInRight es = EachUsed (λ u. InRight u.site) es

  statement_in : (b : Bool) (i j : ℕ) → AreInRight (statement_events b i j)
  statement_in true i j = tt
  statement_in false i j = tt

  misplaced_in : (b : Bool) (i j : ℕ) → AreInRight (misplaced b i j)
  misplaced_in true i j = tt
  misplaced_in false i j = tt

  default_in : (d b : Bool) (word : ℕ) → AreInRight (default_events d b word)
  default_in true true word = tt
  default_in true false word = tt
  default_in false b word = tt

  second_in : (b : Bool) (ps : Trees) → AreInRight (second_defaults b ps)
  second_in b none = tt
  second_in b (skip ps) = second_in b ps
  second_in b (more p ps) =
      used_append (λ u. InRight u.site) (default_events (is_default (kind_of p)) b (first p)) (second_defaults (b || is_default (kind_of p)) ps) (default_in (is_default (kind_of p)) b (first p)) (second_in (b || is_default (kind_of p)) ps)

  function_in : (b d : Bool) (i j : ℕ) → AreInRight (if b then function_events i j d else [])
  function_in true true i j = tt
  function_in true false i j = tt
  function_in false d i j = tt

  name_in : (c : Context) (i : ℕ) (r : Role) → InRight c.site → AreInRight (name_events c i r)
  name_in c i (role.New d) h = tt
  name_in c i (role.Field g) h = tt
  name_in c i (role.Key g) h = tt
  name_in c i (role.Parameter g None) h = tt
  name_in c i (role.Parameter g (Some s)) h = tt
  name_in c i r h = (h, tt)

  own_in : (c : Context) (k : Kind) (i j : ℕ) (ps : Trees) → InRight c.site → AreInRight (own_events c k i j ps)
  own_in c kind.FunctionDeclaration i j ps h = function_in (nat_lt i j) (is_there (part_at ps 1)) i j
  own_in c (kind.Specification declaring.Type) i j ps h = tt
  own_in c kind.DeclaredName i j ps h = name_in c i c.role h
  own_in c kind.Name i j ps h = name_in c i c.role h
  own_in c kind.Switch i j ps h = second_in false ps
  own_in c kind.Break i j ps h = misplaced_in c.breaks i j
  own_in c kind.Continue i j ps h = misplaced_in c.continues i j
  own_in c kind.Fallthrough i j ps h = misplaced_in c.falls i j
  own_in c k i j ps h = tt

  -- the right side of a specification of a type
  abbrev Opens : Kind → ℕ → Type 0
  Opens (kind.Specification declaring.Type) i = P i
  Opens k i = Unit {0}

  opens : (c : Context) (k : Kind) (i j : ℕ) (ps : Trees) → TypesAre (own_events c k i j ps) → Opens k i
  opens c (kind.Specification declaring.Type) i j ps h = h.0 refl
  opens c k i j ps h = tt

  value_in : (o : Option ℕ) (alone : Bool) → InRight (value_site o alone)
  value_in None alone = tt
  value_in (Some s) alone = tt

  length_in : (s : Site) → InRight s → InRight (length_site s)
  length_in (site.Right d r) h = h
  length_in s h = tt

  element_in : (b : Bool) (s : Site) → InRight s → InRight (element_site b s)
  element_in true s h = h
  element_in false (site.Right d reach.Direct) h = h
  element_in false s h = h

  column_in : (m : ℕ) (s : Site) → InRight s → InRight (column_site m s)
  column_in m (site.Value d x alone) h = tt
  column_in m s h = h

  sequence_in : (c : Context) (ps : Trees) (m : ℕ) → InRight c.site → InRight (sequence_site c ps m)
  sequence_in c ps zero h = length_in c.site h
  sequence_in c ps (suc m) h = element_in (is_there (part_at ps 0)) c.site h

  typed_in : (c : Context) (m : ℕ) (p : Tree) → InRight c.site → InRight (typed_site c m p)
  typed_in c zero p h = h
  typed_in c (suc m) p h = value_in c.specification (nat_eq (count (parts p)) 1)

  function_site_in : (i m : ℕ) → InRight (function_site i m)
  function_site_in i zero = tt
  function_site_in i (suc m) = tt

  part_in : (c : Context) (k : Kind) (i : ℕ) (ps : Trees) (m : ℕ) (p : Tree) → Opens k i → InRight c.site → InRight (site_in c k i ps m p)
  part_in c (kind.Specification declaring.Type) i ps m p o h = o
  part_in c (kind.Specification declaring.Constant) i ps m p o h = tt
  part_in c (kind.Specification declaring.Variable) i ps m p o h = tt
  part_in c kind.Values i ps m p o h = value_in c.specification (nat_eq (count (parts p)) 1)
  part_in c kind.TypedValues i ps m p o h = typed_in c m p h
  part_in c kind.ExpressionList i ps m p o h = column_in m c.site h
  part_in c kind.FunctionDeclaration i ps m p o h = function_site_in i m
  part_in c kind.SequenceType i ps m p o h = sequence_in c ps m h
  part_in c kind.FunctionType i ps m p o h = element_in false c.site h
  part_in c k i ps m p o h = h

  mutual
    pub tree_in : (c : Context) (t : Tree) → InRight c.site → TypesAre (events c t) → AreInRight (events c t)
    tree_in c (node k i j ps) h g =
        let Q : Use → Type 0 = λ u. InRight u.site in
        let R : Declaration → Type 0 = λ d. is_type d.entity ≡ true → P d.name in
        let st : List Event = statement_events c.listed i j in
        let own : List Event = own_events c k i j ps in
        let rest : List Event = events_of (begin c k) k i j ps 0 ps in
        let r = declared_split R (st ++ own) rest g in
        used_append Q (st ++ own) rest (used_append Q st own (statement_in c.listed i j) (own_in c k i j ps h))
        (parts_in (begin c k) k i j ps 0 ps (opens c k i j ps (declared_split R st own r.0).1) h r.1)

    parts_in : (c : Context) (k : Kind) (i j : ℕ) (all : Trees) (m : ℕ) (qs : Trees) → Opens k i → InRight c.site → TypesAre (events_of c k i j all m qs) → AreInRight (events_of c k i j all m qs)
    parts_in c k i j all m none o h g = tt
    parts_in c k i j all m (skip qs) o h g = parts_in c k i j all (suc m) qs o h g
    parts_in c k i j all m (more p qs) o h g =
        let inner : Context = enter c k i j all (ends_named all) m p (is_more qs) in
        let rest : List Event = events_of (pass c p) k i j all (suc m) qs in
        let r = declared_split (λ d. is_type d.entity ≡ true → P d.name) (events inner p) rest g in
        used_append (λ u. InRight u.site) (events inner p) rest (tree_in inner p (part_in c k i all m p o h) r.0) (parts_in (pass c p) k i j all (suc m) qs o h r.1)

-- ---- a file

-- A type is declared at the token.
abbrev pub IsTypeNamed : ℕ → Declaration → Type 0
IsTypeNamed s d = (d.name ≡ s) × (is_type d.entity ≡ true)

all_named : (all es : List Event) → ((R : Declaration → Type 0) → AnyDeclared R es → AnyDeclared R all) → EachDeclared (λ d. is_type d.entity ≡ true → AnyDeclared (IsTypeNamed d.name) all) es
all_named all [] f = tt
all_named all (event.Declaration d ∷ es) f = (λ e. f (IsTypeNamed d.name) (inl (refl, e)), all_named all es (λ R h. f R (inr h)))
all_named all (event.Use u ∷ es) f = all_named all es f
all_named all (event.Import p ∷ es) f = all_named all es f
all_named all (event.Member m g i ∷ es) f = all_named all es f
all_named all (event.Bodiless i j ∷ es) f = all_named all es f
all_named all (event.Statement i j ∷ es) f = all_named all es f
all_named all (event.Misplaced i j ∷ es) f = all_named all es f
all_named all (event.SecondDefault i ∷ es) f = all_named all es f

-- what is looked up in a right side stands in that of a type that the file declares
pub uses_in_types : (t : Tree) (end : ℕ) → EachUsed (λ u. InRight (λ s. AnyDeclared (IsTypeNamed s) (events (file_context end) t)) u.site) (events (file_context end) t)
uses_in_types t end =
    let es : List Event = events (file_context end) t in
    tree_in (λ s. AnyDeclared (IsTypeNamed s) es) (file_context end) t tt (all_named es es (λ R h. h))
