-- Contexts that say the same of names outside of functions, where the second has tokens at other places.
use Rattle.std.proofs.Common.{◌≡◌, ◌∙◌, ℕ, zero, suc, Bool, true, false, Option, Some, None, refl, sym, ap}
use Rattle.std.specs.Prelude.{nat_eq, if◌then◌else◌, ◌&&◌, not, is_some}
use Rattle.go_grammar.specs.declared.kind.Kind.{Kind}
use Rattle.go_grammar.specs.declared.kind.Kind.TheVariants as kind
use Rattle.go_grammar.specs.declared.kind.Sort.{Sort}
use Rattle.go_grammar.specs.declared.kind.Sort.TheVariants as sort
use Rattle.go_grammar.specs.Trees.{Tree, node, Trees}
use Rattle.go_grammar.specs.Grammar.{is_name, count}
use Rattle.go_rewriting.specs.Places.{carry, carries}
use Rattle.go_tree.specs.Views.{part_at}
use Rattle.go_tree.specs.declared.context.Entity.{Entity}
use Rattle.go_tree.specs.declared.context.Entity.TheVariants as entity
use Rattle.go_tree.specs.declared.context.Manner.{Manner}
use Rattle.go_tree.specs.declared.context.Manner.TheVariants as manner
use Rattle.go_tree.specs.declared.context.Block.TheVariants as block
use Rattle.go_tree.specs.declared.context.Scope.{Scope}
use Rattle.go_tree.specs.declared.context.Role.{Role}
use Rattle.go_tree.specs.declared.context.Role.TheVariants as role
use Rattle.go_tree.specs.declared.context.Reach.TheVariants as reach
use Rattle.go_tree.specs.declared.context.Site.{Site}
use Rattle.go_tree.specs.declared.context.Site.TheVariants as site
use Rattle.go_tree.specs.declared.context.Context.{Context}
use Rattle.go_tree.specs.Contexts as contexts
use Rattle.go_tree.specs.Contexts.{is_there, opens, block_in, role_in, site_in, specification_in, source_in, source_at, has_values, group_in, specified, defined, ranged, is_called, is_package, package_value, initial_in, called_in, if_name, if_first, field_role, key_role, parameter_role, entry_role, value_site, values_site, column_site, typed_site, sequence_site, length_site, element_site, function_site, enter}
use Rattle.go_tree.specs.Events.{pass, begin}
use Rattle.go_heads.specs.Told.{place_of, site_of}
use Rattle.go_heads.proofs.Rows.{count_carried, there_carried}

-- what a name is for: it is declared so, or it is a field, a key or a parameter, or it is looked up
pub data Purpose : Type 0 where
  new : Entity → Manner → Option ℕ → Purpose
  member : Purpose
  looked_up : Purpose

abbrev pub purpose : Role → Purpose
purpose (role.New d) = new d.entity d.manner d.source
purpose (role.Field g) = member
purpose (role.Key g) = member
purpose (role.Parameter g s) = member
purpose r = looked_up

abbrev pub purpose_at : (ℕ → ℕ) → Purpose → Purpose
purpose_at m (new e a s) = new e a (place_of m s)
purpose_at m member = member
purpose_at m looked_up = looked_up

module _ (m : ℕ → ℕ) where
  pub record Alike (c d : Context) : Type 0 where
    pub outer : is_package d.block ≡ is_package c.block
    pub role : purpose d.role ≡ purpose_at m (purpose c.role)
    pub site : d.site ≡ site_of m c.site
    pub specification : d.specification ≡ place_of m c.specification
    pub source : d.source ≡ place_of m c.source
    pub column : d.column ≡ c.column
    pub grouped : is_some d.group ≡ is_some c.group
    pub constant : d.constant ≡ c.constant
    pub initial : d.initial ≡ c.initial

  -- ---- roles

  abbrev Serves : Role → Role → Type 0
  Serves r s = purpose s ≡ purpose_at m (purpose r)

  first_alike : (n : ℕ) (r s : Role) → Serves r s → Serves (if_first n r) (if_first n s)
  first_alike zero r s e = e
  first_alike (suc n) r s e = refl

  name_alike : (p : Tree) (r s : Role) → Serves r s → Serves (if_name p r) (if_name (carry m p) s)
  name_alike (node k i j ps) r s e = elim (is_name k) as (λ b. Serves (if b then r else role.Operand) (if b then s else role.Operand)) [ true ↦ e | false ↦ refl ]

  called_looked_up : (r : Role) → purpose (called_in r) ≡ looked_up
  called_looked_up role.Called = refl
  called_looked_up r = refl

  called_alike : (r s : Role) → Serves (called_in r) (called_in s)
  called_alike r s = called_looked_up s ∙ sym (ap (purpose_at m) (called_looked_up r))

  field_alike : (g h : Option ℕ) → is_some h ≡ is_some g → Serves (field_role g) (field_role h)
  field_alike None None e = refl
  field_alike (Some x) (Some y) e = refl
  field_alike None (Some y) e = cc
  field_alike (Some x) None e = cc

  key_alike : (g h : Option ℕ) → is_some h ≡ is_some g → Serves (key_role g) (key_role h)
  key_alike None None e = refl
  key_alike (Some x) (Some y) e = refl
  key_alike None (Some y) e = cc
  key_alike (Some x) None e = cc

  parameter_alike : (g h : Option ℕ) (a b : Option Scope) → is_some h ≡ is_some g → Serves (parameter_role g a) (parameter_role h b)
  parameter_alike None None a b e = refl
  parameter_alike (Some x) (Some y) a b e = refl
  parameter_alike None (Some y) a b e = cc
  parameter_alike (Some x) None a b e = cc

  entry_alike : (named : Bool) (p : Tree) (i : ℕ) (a b : Option Scope) → Serves (entry_role named p i a) (entry_role named (carry m p) (m i) b)
  entry_alike true p i a b = name_alike p (role.Parameter i a) (role.Parameter (m i) b) refl
  entry_alike false p i a b = refl

  -- ---- sites

  length_placed : (s : Site) → length_site (site_of m s) ≡ site_of m (length_site s)
  length_placed site.Elsewhere = refl
  length_placed (site.Type s) = refl
  length_placed (site.Value s column alone) = refl
  length_placed (site.Right s r) = refl

  element_placed : (b : Bool) (s : Site) → element_site b (site_of m s) ≡ site_of m (element_site b s)
  element_placed true s = refl
  element_placed false site.Elsewhere = refl
  element_placed false (site.Type s) = refl
  element_placed false (site.Value s column alone) = refl
  element_placed false (site.Right s reach.Direct) = refl
  element_placed false (site.Right s reach.Indirect) = refl
  element_placed false (site.Right s reach.Length) = refl

  column_placed : (n : ℕ) (s : Site) → column_site n (site_of m s) ≡ site_of m (column_site n s)
  column_placed n site.Elsewhere = refl
  column_placed n (site.Type s) = refl
  column_placed n (site.Value s column alone) = refl
  column_placed n (site.Right s r) = refl

  value_placed : (s : Option ℕ) (alone : Bool) → value_site (place_of m s) alone ≡ site_of m (value_site s alone)
  value_placed None alone = refl
  value_placed (Some s) alone = refl

  function_placed : (i n : ℕ) → function_site (m i) n ≡ site_of m (function_site i n)
  function_placed i zero = refl
  function_placed i (suc n) = refl

  -- ---- two contexts

  module _ (c d : Context) (h : Alike c d) where
    package_alike : (k : Kind) (i j : ℕ) → is_package (block_in d k j) ≡ is_package (block_in c k i)
    package_alike k i j = elim (opens k) as (λ b. is_package (if b then block.Local j else d.block) ≡ is_package (if b then block.Local i else c.block)) [ true ↦ refl | false ↦ h.outer ]

    role_alike : (k : Kind) (i j : ℕ) (named : Bool) (n : ℕ) (p : Tree) → Serves (role_in c k i j named n p) (role_in d k (m i) (m j) named n (carry m p))
    role_alike (kind.Specification sort.Constant) i j named n p = first_alike n (role.New (specified c sort.Constant i j)) (role.New (specified d sort.Constant (m i) (m j))) (ap (λ s. new entity.Constant manner.Declared s) h.source)
    role_alike (kind.Specification sort.Variable) i j named n p = first_alike n (role.New (specified c sort.Variable i j)) (role.New (specified d sort.Variable (m i) (m j))) (ap (λ s. new entity.Variable manner.Declared s) h.source)
    role_alike kind.Define i j named n p = first_alike n (role.New (defined c i j)) (role.New (defined d (m i) (m j))) refl
    role_alike kind.DefiningRange i j named n p = first_alike n (role.New (ranged c i j)) (role.New (ranged d (m i) (m j))) refl
    role_alike kind.NameList i j named n p = h.role
    role_alike kind.NewNames i j named n p = h.role
    role_alike kind.ExpressionList i j named n p = name_alike p c.role d.role h.role
    role_alike kind.Call i j named n p = first_alike n role.Called role.Called refl
    role_alike kind.Parenthesized i j named n p = called_alike c.role d.role
    role_alike kind.Selector i j named n p = name_alike p (role.Selected j (is_called c.role)) (role.Selected (m j) (is_called d.role)) refl
    role_alike kind.Fields i j named n p = first_alike n (field_role c.group) (field_role d.group) (field_alike c.group d.group h.grouped)
    role_alike kind.Keyed i j named n p = first_alike n (key_role c.group) (key_role d.group) (key_alike c.group d.group h.grouped)
    role_alike kind.Parameters i j named n p = entry_alike named p i c.parameters d.parameters
    role_alike kind.Parameter i j named n p = first_alike n (parameter_role c.group c.parameters) (parameter_role d.group d.parameters) (parameter_alike c.group d.group c.parameters d.parameters h.grouped)
    role_alike k i j named n p = refl

    values_alike : (p : Tree) → values_site d (carry m p) ≡ site_of m (values_site c p)
    values_alike (node k i j ps) =
        ap (λ s. value_site s (nat_eq (count (carries m ps)) 1)) h.specification
        ∙ ap (λ x. value_site (place_of m c.specification) (nat_eq x 1)) (count_carried m ps)
        ∙ value_placed c.specification (nat_eq (count ps) 1)

    typed_alike : (n : ℕ) (p : Tree) → typed_site d n (carry m p) ≡ site_of m (typed_site c n p)
    typed_alike zero p = h.site
    typed_alike (suc n) p = values_alike p

    sequence_alike : (ps : Trees) (n : ℕ) → sequence_site d (carries m ps) n ≡ site_of m (sequence_site c ps n)
    sequence_alike ps zero = ap length_site h.site ∙ length_placed c.site
    sequence_alike ps (suc n) =
        ap (λ b. element_site b d.site) (there_carried m ps 0) ∙ ap (element_site (is_there (part_at ps 0))) h.site ∙ element_placed (is_there (part_at ps 0)) c.site

    site_alike : (k : Kind) (i : ℕ) (ps : Trees) (n : ℕ) (p : Tree) → site_in d k (m i) (carries m ps) n (carry m p) ≡ site_of m (site_in c k i ps n p)
    site_alike (kind.Specification sort.Type) i ps n p = refl
    site_alike (kind.Specification sort.Constant) i ps n p = refl
    site_alike (kind.Specification sort.Variable) i ps n p = refl
    site_alike kind.Values i ps n p = values_alike p
    site_alike kind.TypedValues i ps n p = typed_alike n p
    site_alike kind.ExpressionList i ps n p = ap (column_site n) h.site ∙ column_placed n c.site
    site_alike kind.FunctionDeclaration i ps n p = function_placed i n
    site_alike kind.SequenceType i ps n p = sequence_alike ps n
    site_alike kind.FunctionType i ps n p = ap (element_site false) h.site ∙ element_placed false c.site
    site_alike k i ps n p = h.site

    specification_alike : (k : Kind) (i : ℕ) → specification_in d k (m i) ≡ place_of m (specification_in c k i)
    specification_alike (kind.Specification s) i = refl
    specification_alike k i = h.specification

    own_source_alike : (b : Bool) (i : ℕ) → (if b then Some (m i) else d.source) ≡ place_of m (if b then Some i else c.source)
    own_source_alike true i = refl
    own_source_alike false i = h.source

    has_alike : (s : Sort) (ps : Trees) → has_values s (carries m ps) ≡ has_values s ps
    has_alike sort.Constant ps = there_carried m ps 1
    has_alike sort.Type ps = refl
    has_alike sort.Variable ps = refl

    source_of_alike : (k : Kind) (i : ℕ) (ps : Trees) → contexts.source_of d.source k (m i) (carries m ps) ≡ place_of m (contexts.source_of c.source k i ps)
    source_of_alike (kind.Specification s) i ps = ap (λ b. if b then Some (m i) else d.source) (has_alike s ps) ∙ own_source_alike (has_values s ps) i
    source_of_alike k i ps = h.source

    pub source_alike : (p : Tree) → source_at d (carry m p) ≡ place_of m (source_at c p)
    source_alike (node k i j ps) = source_of_alike k i ps

    source_in_alike : (k : Kind) → source_in d k ≡ place_of m (source_in c k)
    source_in_alike (kind.Declaration s) = refl
    source_in_alike k = h.source

    grouped_alike : (k : Kind) (i j : ℕ) → is_some (group_in d k j) ≡ is_some (group_in c k i)
    grouped_alike kind.StructType i j = refl
    grouped_alike kind.Composite i j = refl
    grouped_alike kind.LiteralValue i j = refl
    grouped_alike kind.Parameters i j = refl
    grouped_alike k i j = h.grouped

    constant_alike : (k : Kind) → contexts.constant_in d k ≡ contexts.constant_in c k
    constant_alike (kind.Declaration s) = refl
    constant_alike k = h.constant

    value_alike : package_value d ≡ package_value c
    value_alike = ap (λ b. b && not d.constant) h.outer ∙ ap (λ b. is_package c.block && not b) h.constant

    typed_initial_alike : (n : ℕ) → contexts.typed_initial d n ≡ contexts.typed_initial c n
    typed_initial_alike zero = refl
    typed_initial_alike (suc n) = value_alike

    initial_alike : (k : Kind) (n : ℕ) → initial_in d k n ≡ initial_in c k n
    initial_alike kind.Values n = value_alike
    initial_alike kind.TypedValues n = typed_initial_alike n
    initial_alike k n = h.initial

    pub enter_alike : (k : Kind) (i j : ℕ) (ps : Trees) (named : Bool) (n : ℕ) (p : Tree) (b : Bool) → Alike (enter c k i j ps named n p b) (enter d k (m i) (m j) (carries m ps) named n (carry m p) b)
    enter_alike k i j ps named n p b = record {
      outer = package_alike k i (m i);
      role = role_alike k i j named n p;
      site = site_alike k i ps n p;
      specification = specification_alike k i;
      source = source_alike p;
      column = refl;
      grouped = grouped_alike k i (m i);
      constant = constant_alike k;
      initial = initial_alike k n;
    }

    pub begin_alike : (k : Kind) → Alike (begin c k) (begin d k)
    begin_alike k = record {
      outer = h.outer;
      role = h.role;
      site = h.site;
      specification = h.specification;
      source = source_in_alike k;
      column = h.column;
      grouped = h.grouped;
      constant = h.constant;
      initial = h.initial;
    }

    -- behind a part
    pub pass_alike : (p q : Tree) → source_at d q ≡ place_of m (source_at c p) → Alike (pass c p) (pass d q)
    pass_alike p q e = record {
      outer = h.outer;
      role = h.role;
      site = h.site;
      specification = h.specification;
      source = e;
      column = h.column;
      grouped = h.grouped;
      constant = h.constant;
      initial = h.initial;
    }
