-- What a function with an empty body tells is of its own signature.
use Rattle.std.proofs.Common.{◌≡◌, ℕ, zero, suc, ◌≤◌, Bool, true, false, List, ◌++◌, Option, Some, None, refl, sym, subst, arith}
use Rattle.std.specs.Prelude.{if◌then◌else◌, nat_eq}
use Rattle.std.specs.List.{AllByRecursion}
use Rattle.go_tokens.specs.declared.token.TokenKind.{TokenKind}
use Rattle.go_grammar.specs.declared.kind.Kind.{Kind}
use Rattle.go_grammar.specs.declared.kind.Kind.TheVariants as kind
use Rattle.go_grammar.specs.declared.kind.Sort.TheVariants as sort
use Rattle.go_grammar.specs.declared.kind.Category.TheVariants as category
use Rattle.go_grammar.specs.Trees.{Tree, node, Trees, none, more, skip, kind_of, first, last, parts}
use Rattle.go_grammar.specs.Grammar.{Derives, ends_named, is_name, count}
use Rattle.go_tree.specs.Views.{part_at}
use Rattle.go_tree.specs.declared.context.Role.{Role}
use Rattle.go_tree.specs.declared.context.Role.TheVariants as role
use Rattle.go_tree.specs.declared.context.Reach.TheVariants as reach
use Rattle.go_tree.specs.declared.context.Scope.{Scope}
use Rattle.go_tree.specs.declared.context.Site.{Site}
use Rattle.go_tree.specs.declared.context.Site.TheVariants as site
use Rattle.go_tree.specs.declared.context.Context.{Context}
use Rattle.go_tree.specs.declared.event.Event.{Event}
use Rattle.go_tree.specs.Contexts.{is_there, is_called, called_in, if_name, if_first, field_role, key_role, parameter_role, entry_role, role_in, group_in, specification_in, value_site, element_site, length_site, column_site, typed_site, sequence_site, site_in, listed_in, enter}
use Rattle.go_tree.specs.Events.{statement_events, own_events, name_events, is_more, pass, begin, events, events_of}
use Rattle.go_scopes_events.proofs.Public.{IsLaidOut, LieIn, behind_name, derives_laid, laid_grows}
use Rattle.go_heads_added.specs.Appended.{context_behind, empty_function}
use Rattle.go_heads_added.specs.Within.{SiteBehind, SourceBehind, IsOfFunction}
use Rattle.go_heads_added.proofs.Bare.{IsBare, AreBare, derives_bare, is_bare}
use Rattle.go_heads_added.proofs.Parameters.{signature_context, function_tells}
use Rattle.go_heads_added.proofs.Texts.{all_both}

never : false ≡ true → ⊥
never e = cc

module _ (n : ℕ) where
  abbrev AreOf : List Event → Type 0
  AreOf es = AllByRecursion (IsOfFunction n) es

  -- what a name is for: nothing that is declared, or a member of a group behind the token n
  abbrev RoleBehind : Role → Type 0
  RoleBehind (role.New d) = ⊥
  RoleBehind (role.Field g) = n ≤ g
  RoleBehind (role.Key g) = n ≤ g
  RoleBehind (role.Parameter g x) = n ≤ g
  RoleBehind r = Prim.Unit {0}

  name_tells : (c : Context) (i : ℕ) (r : Role) → SiteBehind n c.site → RoleBehind r → AreOf (name_events c i r)
  name_tells c i (role.New d) z h = absurd h
  name_tells c i (role.Field g) z h = (h, tt)
  name_tells c i (role.Key g) z h = (h, tt)
  name_tells c i (role.Parameter g None) z h = (h, tt)
  name_tells c i (role.Parameter g (Some s)) z h = (h, ((refl, (λ e. refl), tt), tt))
  name_tells c i r z h = (z, tt)

  own_tells : (c : Context) (k : Kind) (i j : ℕ) (ps : Trees) → is_bare k ≡ true → RoleBehind c.role → SiteBehind n c.site → AreOf (own_events c k i j ps)
  own_tells c kind.ImportPath i j ps e r z = absurd (never e)
  own_tells c kind.FunctionDeclaration i j ps e r z = absurd (never e)
  own_tells c (kind.Specification sort.Type) i j ps e r z = absurd (never e)
  own_tells c kind.DeclaredName i j ps e r z = name_tells c i c.role z r
  own_tells c kind.Name i j ps e r z = name_tells c i c.role z r
  own_tells c kind.Switch i j ps e r z = absurd (never e)
  own_tells c kind.Break i j ps e r z = absurd (never e)
  own_tells c kind.Continue i j ps e r z = absurd (never e)
  own_tells c kind.Fallthrough i j ps e r z = absurd (never e)
  own_tells c k i j ps e r z = tt

  -- ---- contexts of parts

  first_behind : (m : ℕ) (r : Role) → RoleBehind r → RoleBehind (if_first m r)
  first_behind zero r h = h
  first_behind (suc m) r h = tt

  named_behind : (p : Tree) (r : Role) → RoleBehind r → RoleBehind (if_name p r)
  named_behind p r h = elim (is_name (kind_of p)) as (λ b. RoleBehind (if b then r else role.Operand)) [ true ↦ h | false ↦ tt ]

  called_behind : (r : Role) → RoleBehind (called_in r)
  called_behind role.Called = tt
  called_behind r = tt

  field_behind : (g : Option ℕ) → SourceBehind n g → RoleBehind (field_role g)
  field_behind None h = tt
  field_behind (Some g) h = h

  key_behind : (g : Option ℕ) → SourceBehind n g → RoleBehind (key_role g)
  key_behind None h = tt
  key_behind (Some g) h = h

  parameter_behind : (g : Option ℕ) (x : Option Scope) → SourceBehind n g → RoleBehind (parameter_role g x)
  parameter_behind None x h = tt
  parameter_behind (Some g) x h = h

  entry_behind : (named : Bool) (p : Tree) (i : ℕ) (x : Option Scope) → n ≤ i → RoleBehind (entry_role named p i x)
  entry_behind true p i x h = named_behind p (role.Parameter i x) h
  entry_behind false p i x h = tt

  part_role : (c : Context) (k : Kind) (i j : ℕ) (named : Bool) (m : ℕ) (p : Tree) → is_bare k ≡ true → n ≤ i → RoleBehind c.role → SourceBehind n c.group → RoleBehind (role_in c k i j named m p)
  part_role c (kind.Specification sort.Constant) i j named m p e l r g = absurd (never e)
  part_role c (kind.Specification sort.Variable) i j named m p e l r g = absurd (never e)
  part_role c (kind.Specification sort.Type) i j named m p e l r g = absurd (never e)
  part_role c kind.Define i j named m p e l r g = absurd (never e)
  part_role c kind.DefiningRange i j named m p e l r g = absurd (never e)
  part_role c kind.NameList i j named m p e l r g = r
  part_role c kind.NewNames i j named m p e l r g = r
  part_role c kind.Targets i j named m p e l r g = tt
  part_role c kind.ExpressionList i j named m p e l r g = named_behind p c.role r
  part_role c kind.Call i j named m p e l r g = first_behind m role.Called tt
  part_role c kind.Parenthesized i j named m p e l r g = called_behind c.role
  part_role c kind.Selector i j named m p e l r g = named_behind p (role.Selected j (is_called c.role)) tt
  part_role c kind.Fields i j named m p e l r g = first_behind m (field_role c.group) (field_behind c.group g)
  part_role c kind.Keyed i j named m p e l r g = first_behind m (key_role c.group) (key_behind c.group g)
  part_role c kind.Parameters i j named m p e l r g = entry_behind named p i c.parameters l
  part_role c kind.Parameter i j named m p e l r g = first_behind m (parameter_role c.group c.parameters) (parameter_behind c.group c.parameters g)
  part_role c k i j named m p e l r g = tt

  part_group : (c : Context) (k : Kind) (i : ℕ) → n ≤ i → SourceBehind n c.group → SourceBehind n (group_in c k i)
  part_group c kind.StructType i l g = l
  part_group c kind.Composite i l g = l
  part_group c kind.LiteralValue i l g = l
  part_group c kind.Parameters i l g = l
  part_group c k i l g = g

  part_specification : (c : Context) (k : Kind) (i : ℕ) → n ≤ i → SourceBehind n c.specification → SourceBehind n (specification_in c k i)
  part_specification c (kind.Specification x) i l h = l
  part_specification c k i l h = h

  values_behind : (o : Option ℕ) (alone : Bool) → SourceBehind n o → SiteBehind n (value_site o alone)
  values_behind None alone h = tt
  values_behind (Some x) alone h = h

  length_behind : (x : Site) → SiteBehind n x → SiteBehind n (length_site x)
  length_behind (site.Right d r) h = h
  length_behind site.Elsewhere h = tt
  length_behind (site.Type d) h = h
  length_behind (site.Value d m alone) h = h

  element_behind : (b : Bool) (x : Site) → SiteBehind n x → SiteBehind n (element_site b x)
  element_behind true x h = h
  element_behind false (site.Right d reach.Direct) h = h
  element_behind false (site.Right d reach.Indirect) h = h
  element_behind false (site.Right d reach.Length) h = h
  element_behind false site.Elsewhere h = tt
  element_behind false (site.Type d) h = h
  element_behind false (site.Value d m alone) h = h

  column_behind : (m : ℕ) (x : Site) → SiteBehind n x → SiteBehind n (column_site m x)
  column_behind m (site.Value d o alone) h = h
  column_behind m (site.Right d r) h = h
  column_behind m site.Elsewhere h = tt
  column_behind m (site.Type d) h = h

  typed_behind : (c : Context) (m : ℕ) (p : Tree) → SiteBehind n c.site → SourceBehind n c.specification → SiteBehind n (typed_site c m p)
  typed_behind c zero p h o = h
  typed_behind c (suc m) p h o = values_behind c.specification (nat_eq (count (parts p)) 1) o

  sequence_behind : (c : Context) (ps : Trees) (m : ℕ) → SiteBehind n c.site → SiteBehind n (sequence_site c ps m)
  sequence_behind c ps zero h = length_behind c.site h
  sequence_behind c ps (suc m) h = element_behind (is_there (part_at ps 0)) c.site h

  part_site : (c : Context) (k : Kind) (i : ℕ) (ps : Trees) (m : ℕ) (p : Tree) → is_bare k ≡ true → SiteBehind n c.site → SourceBehind n c.specification → SiteBehind n (site_in c k i ps m p)
  part_site c (kind.Specification sort.Constant) i ps m p e h o = absurd (never e)
  part_site c (kind.Specification sort.Type) i ps m p e h o = absurd (never e)
  part_site c (kind.Specification sort.Variable) i ps m p e h o = absurd (never e)
  part_site c kind.Values i ps m p e h o = values_behind c.specification (nat_eq (count (parts p)) 1) o
  part_site c kind.TypedValues i ps m p e h o = typed_behind c m p h o
  part_site c kind.ExpressionList i ps m p e h o = column_behind m c.site h
  part_site c kind.FunctionDeclaration i ps m p e h o = absurd (never e)
  part_site c kind.SequenceType i ps m p e h o = sequence_behind c ps m h
  part_site c kind.FunctionType i ps m p e h o = element_behind false c.site h
  part_site c k i ps m p e h o = h

  part_listed : (k : Kind) (m : ℕ) → is_bare k ≡ true → listed_in k m ≡ false
  part_listed kind.Block m e = absurd (never e)
  part_listed kind.Case m e = absurd (never e)
  part_listed kind.Default m e = absurd (never e)
  part_listed k m e = refl

  -- what is known around a node
  record IsAround (c : Context) : Type 0 where
    role : RoleBehind c.role
    group : SourceBehind n c.group
    site : SiteBehind n c.site
    specification : SourceBehind n c.specification
    listed : c.listed ≡ false

  around_begin : (c : Context) (k : Kind) → IsAround c → IsAround (begin c k)
  around_begin c k a = record { role = a.role; group = a.group; site = a.site; specification = a.specification; listed = a.listed }

  around_pass : (c : Context) (p : Tree) → IsAround c → IsAround (pass c p)
  around_pass c p a = record { role = a.role; group = a.group; site = a.site; specification = a.specification; listed = a.listed }

  around_part : (c : Context) (k : Kind) (i j : ℕ) (ps : Trees) (m : ℕ) (p : Tree) (b : Bool) → is_bare k ≡ true → n ≤ i → IsAround c → IsAround (enter c k i j ps (ends_named ps) m p b)
  around_part c k i j ps m p b e l a = record {
    role = part_role c k i j (ends_named ps) m p e l a.role a.group;
    group = part_group c k i l a.group;
    site = part_site c k i ps m p e a.site a.specification;
    specification = part_specification c k i l a.specification;
    listed = part_listed k m e;
  }

  begins_behind : (k : Kind) (i : ℕ) → n ≤ i → n ≤ behind_name k i
  begins_behind kind.FunctionDeclaration i l = omega (arith, l)
  begins_behind (kind.Specification sort.Type) i l = omega (arith, l)
  begins_behind (kind.Specification sort.Constant) i l = l
  begins_behind (kind.Specification sort.Variable) i l = l
  begins_behind kind.DeclaredName i l = omega (arith, l)
  begins_behind kind.Name i l = omega (arith, l)
  begins_behind k i l = l

  -- ---- trees

  mutual
    tree_tells : (c : Context) (t : Tree) → IsBare t → IsLaidOut t → n ≤ first t → IsAround c → AreOf (events c t)
    tree_tells c (node k i j ps) b l h a =
        all_both (IsOfFunction n) (statement_events c.listed i j ++ own_events c k i j ps) (events_of (begin c k) k i j ps 0 ps)
        (all_both (IsOfFunction n) (statement_events c.listed i j) (own_events c k i j ps) (subst (λ x. AreOf (statement_events x i j)) (sym a.listed) tt) (own_tells c k i j ps b.0 a.role a.site))
        (parts_tell (begin c k) k i j ps 0 ps (behind_name k i) b.0 b.1 l.1 h (begins_behind k i h) (around_begin c k a))

    parts_tell : (c : Context) (k : Kind) (i j : ℕ) (all : Trees) (m : ℕ) (qs : Trees) (lo : ℕ) → is_bare k ≡ true → AreBare qs → LieIn lo j qs → n ≤ i → n ≤ lo → IsAround c → AreOf (events_of c k i j all m qs)
    parts_tell c k i j all m none lo e b l h o a = tt
    parts_tell c k i j all m (skip qs) lo e b l h o a = parts_tell c k i j all (suc m) qs lo e b l h o a
    parts_tell c k i j all m (more p qs) lo e b l h o a =
        let inner : Context = enter c k i j all (ends_named all) m p (is_more qs) in
        let above = l.0 in
        let grows = laid_grows p l.1 in
        all_both (IsOfFunction n) (events inner p) (events_of (pass c p) k i j all (suc m) qs) (tree_tells inner p b.0 l.1 (omega (arith, above, o)) (around_part c k i j all m p (is_more qs) e h a))
        (parts_tell (pass c p) k i j all (suc m) qs (last p) e b.1 l.2 h (omega (arith, above, grows, o)) (around_pass c p a))

-- what a function with an empty body behind n tokens tells
pub function_of : (ts : List TokenKind) (n end i j a b : ℕ) (s : Tree) (ps : Trees) → Derives ts category.Declaration (empty_function i j s a b) → n ≤ i
    → AllByRecursion (IsOfFunction n) (events (context_behind end ps (empty_function i j s a b)) (empty_function i j s a b))
function_of ts n end i j a b s ps h l =
    let laid = derives_laid ts (empty_function i j s a b) category.Declaration h in
    let name = laid.1.0 in
    subst (AllByRecursion (IsOfFunction n)) (sym (function_tells end i j s a b ps laid.0)) (
      (refl, (λ e. absurd (never (sym e))), l),
      tree_tells n (signature_context end i j s a b ps) s (derives_bare ts s category.Signature refl h.1.1) laid.1.1 (omega (arith, name, l)) (record { role = tt; group = tt; site = l; specification = tt; listed = refl }),
    )
