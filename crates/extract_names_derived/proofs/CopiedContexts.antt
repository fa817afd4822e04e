-- The contexts of a copied run's parts, with names in the place of some of its expressions.
use Rattle.std.proofs.Common.{◌≡◌, ◌∙◌, ℕ, zero, suc, ◌<◌, Bool, true, false, Option, Some, None, refl, sym, ap, ne_eqb, arith}
use Rattle.std.specs.Prelude.{nat_eq, if◌then◌else◌, ◌&&◌, not}
use Rattle.go_grammar.specs.declared.kind.Kind.{Kind}
use Rattle.go_grammar.specs.declared.kind.Kind.TheVariants as kind
use Rattle.go_grammar.specs.declared.kind.Sort.{Sort}
use Rattle.go_grammar.specs.declared.kind.Sort.TheVariants as sort
use Rattle.go_grammar.specs.Trees.{Tree, node, Trees, kind_of, first, parts}
use Rattle.go_grammar.specs.Grammar.{is_name, ends_named, count}
use Rattle.go_tree.specs.Views.{part_at}
use Rattle.go_tree.specs.declared.context.Block.{Block}
use Rattle.go_tree.specs.declared.context.Block.TheVariants as block
use Rattle.go_tree.specs.declared.context.Scope.{Scope}
use Rattle.go_tree.specs.declared.context.Role.{Role}
use Rattle.go_tree.specs.declared.context.Role.TheVariants as role
use Rattle.go_tree.specs.declared.context.Reach.TheVariants as reach
use Rattle.go_tree.specs.declared.context.Site.{Site}
use Rattle.go_tree.specs.declared.context.Site.TheVariants as site
use Rattle.go_tree.specs.declared.context.Context.{Context}
use Rattle.go_tree.specs.Contexts as contexts
use Rattle.go_tree.specs.Contexts.{is_there, opens, block_in, end_in, role_in, site_in, specification_in, source_of, source_in, source_at, has_values, group_in, parameters_in, is_package, package_value, initial_in, is_called, called_in, if_name, if_first, field_role, key_role, parameter_role, entry_role, value_site, column_site, typed_site, sequence_site, length_site, element_site, enter}
use Rattle.go_tree.specs.Events.{pass, begin}
use Rattle.go_scopes_events.proofs.Public.{is_top, true_false}
use Rattle.go_scopes_bodies.specs.Carried.{carried_token, carried_scopes, carried_site}
use Rattle.extract_names.specs.Copies.{Copy, is_around, copied_block}
use Rattle.extract_names_derived.specs.Holes.{copied_role, copied_context, may_be_replaced, is_simple_part, name_over}

-- ---- sites and roles

length_carried : (v : ℕ → ℕ) (s : Site) → length_site (carried_site v s) ≡ carried_site v (length_site s)
length_carried v site.Elsewhere = refl
length_carried v (site.Type s) = refl
length_carried v (site.Value s column alone) = refl
length_carried v (site.Right s r) = refl

element_carried : (v : ℕ → ℕ) (b : Bool) (s : Site) → element_site b (carried_site v s) ≡ carried_site v (element_site b s)
element_carried v true s = refl
element_carried v false site.Elsewhere = refl
element_carried v false (site.Type s) = refl
element_carried v false (site.Value s column alone) = refl
element_carried v false (site.Right s reach.Direct) = refl
element_carried v false (site.Right s reach.Indirect) = refl
element_carried v false (site.Right s reach.Length) = refl

column_carried : (v : ℕ → ℕ) (m : ℕ) (s : Site) → column_site m (carried_site v s) ≡ carried_site v (column_site m s)
column_carried v m site.Elsewhere = refl
column_carried v m (site.Type s) = refl
column_carried v m (site.Value s column alone) = refl
column_carried v m (site.Right s r) = refl

value_carried : (v : ℕ → ℕ) (s : Option ℕ) (alone : Bool) → value_site (carried_token v s) alone ≡ carried_site v (value_site s alone)
value_carried v None alone = refl
value_carried v (Some s) alone = refl

own_carried : (v : ℕ → ℕ) (o : Option ℕ) (b : Bool) (i : ℕ) → (if b then Some (v i) else carried_token v o) ≡ carried_token v (if b then Some i else o)
own_carried v o true i = refl
own_carried v o false i = refl

source_in_carried : (v : ℕ → ℕ) (o : Option ℕ) (c : Context) (k : Kind) → source_in (record c { source = carried_token v o }) k ≡ carried_token v (source_in (record c { source = o }) k)
source_in_carried v o c (kind.Declaration s) = refl
source_in_carried v o c k = refl

-- ---- contexts by their parts

abbrev with_tokens : Context → Block → ℕ → Role → Site → Option ℕ → Option ℕ → Option ℕ → Option Scope → Context
with_tokens c b e r s specification source group parameters = record c { block = b; end = e; role = r; site = s; specification = specification; source = source; group = group; parameters = parameters }

abbrev with_tests : Context → Bool → Bool → Bool → Bool → Bool → Context
with_tests c constant initial breaks continues falls = record c { constant = constant; initial = initial; breaks = breaks; continues = continues; falls = falls }

same_tokens : (c : Context) (b b' : Block) (e e' : ℕ) (r r' : Role) (s s' : Site) (p p' q q' g g' : Option ℕ) (o o' : Option Scope) → b ≡ b' → e ≡ e' → r ≡ r' → s ≡ s' → p ≡ p' → q ≡ q' → g ≡ g' → o ≡ o' → with_tokens c b e r s p q g o ≡ with_tokens c b' e' r' s' p' q' g' o'
same_tokens c b b' e e' r r' s s' p p' q q' g g' o o' hb he hr hs hp hq hg ho =
    ap (λ x. with_tokens c x e r s p q g o) hb
    ∙ ap (λ x. with_tokens c b' x r s p q g o) he
    ∙ ap (λ x. with_tokens c b' e' x s p q g o) hr
    ∙ ap (λ x. with_tokens c b' e' r' x p q g o) hs
    ∙ ap (λ x. with_tokens c b' e' r' s' x q g o) hp
    ∙ ap (λ x. with_tokens c b' e' r' s' p' x g o) hq
    ∙ ap (λ x. with_tokens c b' e' r' s' p' q' x o) hg
    ∙ ap (λ x. with_tokens c b' e' r' s' p' q' g' x) ho

same_tests : (c : Context) (a a' b b' d d' e e' f f' : Bool) → a ≡ a' → b ≡ b' → d ≡ d' → e ≡ e' → f ≡ f' → with_tests c a b d e f ≡ with_tests c a' b' d' e' f'
same_tests c a a' b b' d d' e e' f f' ha hb hd he hf =
    ap (λ x. with_tests c x b d e f) ha
    ∙ ap (λ x. with_tests c a' x d e f) hb
    ∙ ap (λ x. with_tests c a' b' x e f) hd
    ∙ ap (λ x. with_tests c a' b' d' x f) he
    ∙ ap (λ x. with_tests c a' b' d' e' x) hf

-- No parameters are in scope behind the tree: in function types none have names that count.
abbrev pub NoScope : Role → Type 0
NoScope (role.Parameter g (Some s)) = ⊥
NoScope r = Unit {0}

pub record Fine (c : Context) : Type 0 where
  pub role : NoScope c.role
  pub parameters : c.parameters ≡ None

-- a part, and what stands in its place, alike but for tokens below
pub record Alike (v : ℕ → ℕ) (p q : Tree) : Type 0 where
  pub kind : kind_of q ≡ kind_of p
  pub first : first q ≡ v (first p)
  pub count : count (parts q) ≡ count (parts p)
  pub there : (m : ℕ) → is_there (part_at (parts q) m) ≡ is_there (part_at (parts p) m)

-- rows of parts that are alike where they stand side by side
pub record AlikeRows (ps qs : Trees) : Type 0 where
  pub there : (m : ℕ) → is_there (part_at qs m) ≡ is_there (part_at ps m)
  pub named : ends_named qs ≡ ends_named ps

module _ (cp : Copy) where
  abbrev v : ℕ → ℕ
  v = cp.place

  abbrev K : Context → Context
  K = copied_context cp

  -- ---- fine contexts

  name_fine : (p : Tree) (r : Role) → NoScope r → NoScope (if_name p r)
  name_fine p r h = elim (is_name (kind_of p)) as (λ b. NoScope (if b then r else role.Operand)) [ true ↦ h | false ↦ tt ]

  first_fine : (n : ℕ) (r : Role) → NoScope r → NoScope (if_first n r)
  first_fine zero r h = h
  first_fine (suc n) r h = tt

  called_fine : (r : Role) → NoScope (called_in r)
  called_fine role.Called = tt
  called_fine r = tt

  field_fine : (g : Option ℕ) → NoScope (field_role g)
  field_fine None = tt
  field_fine (Some g) = tt

  key_fine : (g : Option ℕ) → NoScope (key_role g)
  key_fine None = tt
  key_fine (Some g) = tt

  parameter_fine : (g : Option ℕ) (s : Option Scope) → s ≡ None → NoScope (parameter_role g s)
  parameter_fine None s e = tt
  parameter_fine (Some g) None e = tt
  parameter_fine (Some g) (Some s) e = absurd cc

  entry_fine : (named : Bool) (p : Tree) (i : ℕ) (s : Option Scope) → s ≡ None → NoScope (entry_role named p i s)
  entry_fine true p i None e = name_fine p (role.Parameter i None) tt
  entry_fine true p i (Some s) e = absurd cc
  entry_fine false p i s e = tt

  role_fine : (c : Context) (k : Kind) (i j : ℕ) (named : Bool) (n : ℕ) (p : Tree) → Fine c → NoScope (role_in c k i j named n p)
  role_fine c (kind.Specification sort.Constant) i j named n p h = first_fine n (role.New (contexts.specified c sort.Constant i j)) tt
  role_fine c (kind.Specification sort.Variable) i j named n p h = first_fine n (role.New (contexts.specified c sort.Variable i j)) tt
  role_fine c kind.Define i j named n p h = first_fine n (role.New (contexts.defined c i j)) tt
  role_fine c kind.DefiningRange i j named n p h = first_fine n (role.New (contexts.ranged c i j)) tt
  role_fine c kind.NameList i j named n p h = h.role
  role_fine c kind.NewNames i j named n p h = h.role
  role_fine c kind.ExpressionList i j named n p h = name_fine p c.role h.role
  role_fine c kind.Call i j named n p h = first_fine n role.Called tt
  role_fine c kind.Parenthesized i j named n p h = called_fine c.role
  role_fine c kind.Selector i j named n p h = name_fine p (role.Selected j (is_called c.role)) tt
  role_fine c kind.Fields i j named n p h = first_fine n (field_role c.group) (field_fine c.group)
  role_fine c kind.Keyed i j named n p h = first_fine n (key_role c.group) (key_fine c.group)
  role_fine c kind.Parameters i j named n p h = entry_fine named p i c.parameters h.parameters
  role_fine c kind.Parameter i j named n p h = first_fine n (parameter_role c.group c.parameters) (parameter_fine c.group c.parameters h.parameters)
  role_fine c k i j named n p h = tt

  parameters_fine : (c : Context) (k : Kind) (j : ℕ) (ps : Trees) (n : ℕ) (p : Tree) → is_top k ≡ false → c.parameters ≡ None → parameters_in c k j ps n p ≡ None
  parameters_fine c kind.FunctionDeclaration j ps n p top h = absurd (true_false true refl top)
  parameters_fine c kind.FunctionType j ps n p top h = refl
  parameters_fine c k j ps n p top h = h

  pub enter_fine : (c : Context) (k : Kind) (i j : ℕ) (ps : Trees) (named : Bool) (n : ℕ) (p : Tree) (b : Bool) → is_top k ≡ false → Fine c → Fine (enter c k i j ps named n p b)
  enter_fine c k i j ps named n p b top h = record { role = role_fine c k i j named n p h; parameters = parameters_fine c k j ps n p top h.parameters }

  pub source_fine : (c : Context) (s : Option ℕ) → Fine c → Fine (record c { source = s })
  source_fine c s h = record { role = h.role; parameters = h.parameters }

  -- ---- the parts of a context

  -- blocks that begin in the run are not the one around it
  inner_block : (i : ℕ) → cp.around < i → copied_block cp (block.Local i) ≡ block.Local (v i)
  inner_block i lt = ap (λ b. if b then block.Local cp.body else block.Local (v i)) (ne_eqb i cp.around (λ e. omega (arith, e, lt)))

  inner_around : (i : ℕ) → cp.around < i → is_around cp (block.Local i) ≡ false
  inner_around i lt = ne_eqb i cp.around (λ e. omega (arith, e, lt))

  block_copied : (c : Context) (k : Kind) (i : ℕ) → cp.around < i → block_in (K c) k (v i) ≡ copied_block cp (block_in c k i)
  block_copied c k i lt = elim (opens k) as (λ b. (if b then block.Local (v i) else copied_block cp c.block) ≡ copied_block cp (if b then block.Local i else c.block)) [ true ↦ sym (inner_block i lt) | false ↦ refl ]

  end_copied : (c : Context) (k : Kind) (i j : ℕ) → cp.around < i → end_in (K c) k (v j) ≡ (if is_around cp (block_in c k i) then cp.close else v (end_in c k j))
  end_copied c k i j lt =
      elim (opens k) as (λ b. (if b then v j else (if is_around cp c.block then cp.close else v c.end)) ≡ (if is_around cp (if b then block.Local i else c.block) then cp.close else v (if b then j else c.end))) [
        | true ↦ sym (ap (λ x. if x then cp.close else v j) (inner_around i lt))
        | false ↦ refl
      ]

  package_copied : (b : Block) → is_package (copied_block cp b) ≡ is_package b
  package_copied block.Package = refl
  package_copied (block.Local i) = elim (nat_eq i cp.around) as (λ b. is_package (if b then block.Local cp.body else block.Local (v i)) ≡ false) [ true ↦ refl | false ↦ refl ]

  name_copied : (b : Block) (p q : Tree) (r : Role) → kind_of q ≡ kind_of p → if_name q (copied_role cp b r) ≡ copied_role cp b (if_name p r)
  name_copied b p q r e =
      ap (λ k. if is_name k then copied_role cp b r else role.Operand) e
      ∙ elim (is_name (kind_of p)) as (λ x. (if x then copied_role cp b r else role.Operand) ≡ copied_role cp b (if x then r else role.Operand)) [ true ↦ refl | false ↦ refl ]

  head_copied : (b : Block) (n : ℕ) (r : Role) → if_first n (copied_role cp b r) ≡ copied_role cp b (if_first n r)
  head_copied b zero r = refl
  head_copied b (suc n) r = refl

  called_copied : (b : Block) (r : Role) → called_in (copied_role cp b r) ≡ copied_role cp b (called_in r)
  called_copied b role.Called = refl
  called_copied b (role.New d) = refl
  called_copied b role.Operand = refl
  called_copied b role.Assigned = refl
  called_copied b (role.Selected l x) = refl
  called_copied b (role.Field g) = refl
  called_copied b (role.Key g) = refl
  called_copied b (role.Parameter g s) = refl

  is_called_copied : (b : Block) (r : Role) → is_called (copied_role cp b r) ≡ is_called r
  is_called_copied b role.Called = refl
  is_called_copied b (role.New d) = refl
  is_called_copied b role.Operand = refl
  is_called_copied b role.Assigned = refl
  is_called_copied b (role.Selected l x) = refl
  is_called_copied b (role.Field g) = refl
  is_called_copied b (role.Key g) = refl
  is_called_copied b (role.Parameter g s) = refl

  field_copied : (b : Block) (g : Option ℕ) → field_role (carried_token v g) ≡ copied_role cp b (field_role g)
  field_copied b None = refl
  field_copied b (Some g) = refl

  key_copied : (b : Block) (g : Option ℕ) → key_role (carried_token v g) ≡ copied_role cp b (key_role g)
  key_copied b None = refl
  key_copied b (Some g) = refl

  parameter_copied : (b : Block) (g : Option ℕ) (s : Option Scope) → parameter_role (carried_token v g) (carried_scopes v s) ≡ copied_role cp b (parameter_role g s)
  parameter_copied b None s = refl
  parameter_copied b (Some g) s = refl

  entry_copied : (b : Block) (named : Bool) (p q : Tree) (i : ℕ) (s : Option Scope) → kind_of q ≡ kind_of p → entry_role named q (v i) (carried_scopes v s) ≡ copied_role cp b (entry_role named p i s)
  entry_copied b true p q i s e = name_copied b p q (role.Parameter i s) e
  entry_copied b false p q i s e = refl

  role_copied : (c : Context) (k : Kind) (i j : ℕ) (named : Bool) (n : ℕ) (p q : Tree) → kind_of q ≡ kind_of p → role_in (K c) k (v i) (v j) named n q ≡ copied_role cp (block_in c k i) (role_in c k i j named n p)
  role_copied c (kind.Specification sort.Constant) i j named n p q e = head_copied c.block n (role.New (contexts.specified c sort.Constant i j))
  role_copied c (kind.Specification sort.Variable) i j named n p q e = head_copied c.block n (role.New (contexts.specified c sort.Variable i j))
  role_copied c kind.Define i j named n p q e = head_copied c.block n (role.New (contexts.defined c i j))
  role_copied c kind.DefiningRange i j named n p q e = head_copied c.block n (role.New (contexts.ranged c i j))
  role_copied c kind.NameList i j named n p q e = refl
  role_copied c kind.NewNames i j named n p q e = refl
  role_copied c kind.ExpressionList i j named n p q e = name_copied c.block p q c.role e
  role_copied c kind.Call i j named n p q e = head_copied c.block n role.Called
  role_copied c kind.Parenthesized i j named n p q e = called_copied c.block c.role
  role_copied c kind.Selector i j named n p q e = ap (λ b. if_name q (role.Selected (v j) b)) (is_called_copied c.block c.role) ∙ name_copied c.block p q (role.Selected j (is_called c.role)) e
  role_copied c kind.Fields i j named n p q e = ap (if_first n) (field_copied c.block c.group) ∙ head_copied c.block n (field_role c.group)
  role_copied c kind.Keyed i j named n p q e = ap (if_first n) (key_copied c.block c.group) ∙ head_copied c.block n (key_role c.group)
  role_copied c kind.Parameters i j named n p q e = entry_copied c.block named p q i c.parameters e
  role_copied c kind.Parameter i j named n p q e = ap (if_first n) (parameter_copied c.block c.group c.parameters) ∙ head_copied c.block n (parameter_role c.group c.parameters)
  role_copied c k i j named n p q e = refl

  values_copied : (c : Context) (p q : Tree) → Alike v p q → contexts.values_site (K c) q ≡ carried_site v (contexts.values_site c p)
  values_copied c p q a = ap (λ m. value_site (carried_token v c.specification) (nat_eq m 1)) a.count ∙ value_carried v c.specification (nat_eq (count (parts p)) 1)

  typed_copied : (c : Context) (n : ℕ) (p q : Tree) → Alike v p q → typed_site (K c) n q ≡ carried_site v (typed_site c n p)
  typed_copied c zero p q a = refl
  typed_copied c (suc n) p q a = values_copied c p q a

  sequence_copied : (c : Context) (ps qs : Trees) (n : ℕ) → AlikeRows ps qs → sequence_site (K c) qs n ≡ carried_site v (sequence_site c ps n)
  sequence_copied c ps qs zero a = length_carried v c.site
  sequence_copied c ps qs (suc n) a = ap (λ b. element_site b (carried_site v c.site)) (a.there 0) ∙ element_carried v (is_there (part_at ps 0)) c.site

  site_copied : (c : Context) (k : Kind) (i : ℕ) (ps qs : Trees) (n : ℕ) (p q : Tree) → is_top k ≡ false → AlikeRows ps qs → Alike v p q → site_in (K c) k (v i) qs n q ≡ carried_site v (site_in c k i ps n p)
  site_copied c kind.FunctionDeclaration i ps qs n p q top a b = absurd (true_false true refl top)
  site_copied c (kind.Specification sort.Type) i ps qs n p q top a b = refl
  site_copied c (kind.Specification sort.Constant) i ps qs n p q top a b = refl
  site_copied c (kind.Specification sort.Variable) i ps qs n p q top a b = refl
  site_copied c kind.Values i ps qs n p q top a b = values_copied c p q b
  site_copied c kind.TypedValues i ps qs n p q top a b = typed_copied c n p q b
  site_copied c kind.ExpressionList i ps qs n p q top a b = column_carried v n c.site
  site_copied c kind.SequenceType i ps qs n p q top a b = sequence_copied c ps qs n a
  site_copied c kind.FunctionType i ps qs n p q top a b = element_carried v false c.site
  site_copied c k i ps qs n p q top a b = refl

  specification_copied : (c : Context) (k : Kind) (i : ℕ) → specification_in (K c) k (v i) ≡ carried_token v (specification_in c k i)
  specification_copied c (kind.Specification s) i = refl
  specification_copied c k i = refl

  has_copied : (s : Sort) (ps qs : Trees) → ((m : ℕ) → is_there (part_at qs m) ≡ is_there (part_at ps m)) → has_values s qs ≡ has_values s ps
  has_copied sort.Constant ps qs a = a 1
  has_copied sort.Type ps qs a = refl
  has_copied sort.Variable ps qs a = refl

  source_copied : (o : Option ℕ) (k l : Kind) (i x : ℕ) (ps qs : Trees) → l ≡ k → x ≡ v i → ((m : ℕ) → is_there (part_at qs m) ≡ is_there (part_at ps m)) → source_of (carried_token v o) l x qs ≡ carried_token v (source_of o k i ps)
  source_copied o k l i x ps qs e f a = ap (λ z. source_of (carried_token v o) z x qs) e ∙ ap (λ z. source_of (carried_token v o) k z qs) f ∙ by k
    where
      by : (k : Kind) → source_of (carried_token v o) k (v i) qs ≡ carried_token v (source_of o k i ps)
      by (kind.Specification s) = ap (λ b. if b then Some (v i) else carried_token v o) (has_copied s ps qs a) ∙ own_carried v o (has_values s ps) i
      by k = refl

  pub source_at_copied : (c : Context) (p q : Tree) → Alike v p q → source_at (K c) q ≡ carried_token v (source_at c p)
  source_at_copied c p q a = source_copied c.source (kind_of p) (kind_of q) (first p) (first q) (parts p) (parts q) a.kind a.first a.there

  group_copied : (c : Context) (k : Kind) (i : ℕ) → group_in (K c) k (v i) ≡ carried_token v (group_in c k i)
  group_copied c kind.StructType i = refl
  group_copied c kind.Composite i = refl
  group_copied c kind.LiteralValue i = refl
  group_copied c kind.Parameters i = refl
  group_copied c k i = refl

  parameters_copied : (c : Context) (k : Kind) (j : ℕ) (ps qs : Trees) (n : ℕ) (p q : Tree) → is_top k ≡ false → parameters_in (K c) k (v j) qs n q ≡ carried_scopes v (parameters_in c k j ps n p)
  parameters_copied c kind.FunctionDeclaration j ps qs n p q top = absurd (true_false true refl top)
  parameters_copied c kind.FunctionType j ps qs n p q top = refl
  parameters_copied c k j ps qs n p q top = refl

  value_package_copied : (c : Context) → package_value (K c) ≡ package_value c
  value_package_copied c = ap (λ b. b && not c.constant) (package_copied c.block)

  typed_initial_copied : (c : Context) (n : ℕ) → contexts.typed_initial (K c) n ≡ contexts.typed_initial c n
  typed_initial_copied c zero = refl
  typed_initial_copied c (suc n) = value_package_copied c

  initial_copied : (c : Context) (k : Kind) (n : ℕ) → initial_in (K c) k n ≡ initial_in c k n
  initial_copied c kind.Values n = value_package_copied c
  initial_copied c kind.TypedValues n = typed_initial_copied c n
  initial_copied c k n = refl

  constant_copied : (c : Context) (k : Kind) → contexts.constant_in (K c) k ≡ contexts.constant_in c k
  constant_copied c (kind.Declaration s) = refl
  constant_copied c k = refl

  breaks_copied : (c : Context) (k : Kind) → contexts.breaks_in (K c) k ≡ contexts.breaks_in c k
  breaks_copied c kind.For = refl
  breaks_copied c kind.Switch = refl
  breaks_copied c k = refl

  continues_copied : (c : Context) (k : Kind) → contexts.continues_in (K c) k ≡ contexts.continues_in c k
  continues_copied c kind.For = refl
  continues_copied c k = refl

  falls_copied : (c : Context) (k : Kind) (b : Bool) → contexts.falls_in (K c) k b ≡ contexts.falls_in c k b
  falls_copied c kind.Case b = refl
  falls_copied c kind.Default b = refl
  falls_copied c k b = refl

  -- the context of a part, where this is alike and where it is replaced
  enter_copied : (c : Context) (k : Kind) (i j : ℕ) (ps qs : Trees) (named : Bool) (n : ℕ) (p q : Tree) (b : Bool) → is_top k ≡ false → cp.around < i → role_in (K c) k (v i) (v j) named n q ≡ copied_role cp (block_in c k i) (role_in c k i j named n p)
      → site_in (K c) k (v i) qs n q ≡ carried_site v (site_in c k i ps n p) → source_at (K c) q ≡ carried_token v (source_at c p)
      → enter (K c) k (v i) (v j) qs named n q b ≡ K (enter c k i j ps named n p b)
  enter_copied c k i j ps qs named n p q b top lt r s o =
      same_tokens (enter (K c) k (v i) (v j) qs named n q b)
      _ _ _ _ _ _ _ _ _ _ _ _ _ _ _ _
      (block_copied c k i lt) (end_copied c k i j lt) r s
      (specification_copied c k i) o (group_copied c k i) (parameters_copied c k j ps qs n p q top)
      ∙ same_tests (K (enter c k i j ps named n p b))
      _ _ _ _ _ _ _ _ _ _
      (constant_copied c k) (initial_copied c k n) (breaks_copied c k) (continues_copied c k) (falls_copied c k b)

  pub enter_alike : (c : Context) (k : Kind) (i j : ℕ) (ps qs : Trees) (named : Bool) (n : ℕ) (p q : Tree) (b : Bool) → is_top k ≡ false → cp.around < i → AlikeRows ps qs → Alike v p q → enter (K c) k (v i) (v j) qs named n q b ≡ K (enter c k i j ps named n p b)
  enter_alike c k i j ps qs named n p q b top lt rows a =
      enter_copied c k i j ps qs named n p q b top lt (role_copied c k i j named n p q a.kind) (site_copied c k i ps qs n p q top rows a) (source_at_copied c p q a)

  pub begin_copied : (c : Context) (k : Kind) → begin (K c) k ≡ K (begin c k)
  begin_copied c k = ap (λ s. record (K c) { source = s }) (source_in_carried v c.source (K c) k ∙ ap (carried_token v) (by k))
    where
      by : (k : Kind) → source_in (record (K c) { source = c.source }) k ≡ source_in c k
      by (kind.Declaration s) = refl
      by k = refl

  pub pass_copied : (c : Context) (p q : Tree) → source_at (K c) q ≡ carried_token v (source_at c p) → pass (K c) q ≡ K (pass c p)
  pass_copied c p q e = ap (λ s. record (K c) { source = s }) e

  -- ---- in the place of an expression

  operand_copied : (o : Bool) (c : Context) (n : ℕ) (p q : Tree) → o ≡ true → (o ≡ true → c.role ≡ role.Operand) → if_name q (copied_role cp c.block c.role) ≡ copied_role cp c.block (if_name p c.role)
  operand_copied o c n p q e f = ap (λ r. if_name q (copied_role cp c.block r)) (f e) ∙ nothing q ∙ sym (ap (copied_role cp c.block) (nothing p)) ∙ sym (ap (λ r. copied_role cp c.block (if_name p r)) (f e))
    where
      nothing : (q : Tree) → if_name q role.Operand ≡ role.Operand
      nothing q = elim (is_name (kind_of q)) as (λ b. (if b then role.Operand else role.Operand) ≡ role.Operand) [ true ↦ refl | false ↦ refl ]

  first_behind : (n : ℕ) (b : Block) (r s : Role) → contexts.is_behind_first n ≡ true → if_first n r ≡ copied_role cp b (if_first n s)
  first_behind zero b r s e = absurd (true_false false e refl)
  first_behind (suc n) b r s e = refl

  role_replaced : (o : Bool) (c : Context) (k : Kind) (i j : ℕ) (named : Bool) (n : ℕ) (p q : Tree) → may_be_replaced o k n ≡ true → (o ≡ true → c.role ≡ role.Operand) → role_in (K c) k (v i) (v j) named n q ≡ copied_role cp (block_in c k i) (role_in c k i j named n p)
  role_replaced o c (kind.Specification s) i j named n p q e f = absurd (true_false false e refl)
  role_replaced o c kind.Define i j named n p q e f = first_behind n c.block _ (role.New (contexts.defined c i j)) e
  role_replaced o c kind.DefiningRange i j named n p q e f = first_behind n c.block _ (role.New (contexts.ranged c i j)) e
  role_replaced o c kind.NameList i j named n p q e f = absurd (true_false false e refl)
  role_replaced o c kind.NewNames i j named n p q e f = absurd (true_false false e refl)
  role_replaced o c kind.ExpressionList i j named n p q e f = operand_copied o c n p q e f
  role_replaced o c kind.Call i j named n p q e f = first_behind n c.block role.Called role.Called e
  role_replaced o c kind.Parenthesized i j named n p q e f = called_copied c.block c.role
  role_replaced o c kind.Selector i j named n p q e f = absurd (true_false false e refl)
  role_replaced o c kind.Fields i j named n p q e f = absurd (true_false false e refl)
  role_replaced o c kind.Keyed i j named n p q e f = first_behind n c.block (key_role (carried_token v c.group)) (key_role c.group) e
  role_replaced o c kind.Parameters i j named n p q e f = absurd (true_false false e refl)
  role_replaced o c kind.Parameter i j named n p q e f = absurd (true_false false e refl)
  role_replaced o c k i j named n p q e f = refl

  site_replaced : (o : Bool) (c : Context) (k : Kind) (i : ℕ) (ps qs : Trees) (n : ℕ) (p q : Tree) → may_be_replaced o k n ≡ true → AlikeRows ps qs → site_in (K c) k (v i) qs n q ≡ carried_site v (site_in c k i ps n p)
  site_replaced o c kind.FunctionDeclaration i ps qs n p q e a = absurd (true_false false e refl)
  site_replaced o c (kind.Specification s) i ps qs n p q e a = absurd (true_false false e refl)
  site_replaced o c kind.Values i ps qs n p q e a = absurd (true_false false e refl)
  site_replaced o c kind.TypedValues i ps qs n p q e a = absurd (true_false false e refl)
  site_replaced o c kind.ExpressionList i ps qs n p q e a = column_carried v n c.site
  site_replaced o c kind.SequenceType i ps qs n p q e a = sequence_copied c ps qs n a
  site_replaced o c kind.FunctionType i ps qs n p q e a = element_carried v false c.site
  site_replaced o c k i ps qs n p q e a = refl

  pub source_replaced : (c : Context) (p : Tree) (x : ℕ) → is_simple_part (kind_of p) ≡ true → source_at (K c) (name_over x) ≡ carried_token v (source_at c p)
  source_replaced c (node k i j ps) x e = by k e
    where
      by : (k : Kind) → is_simple_part k ≡ true → carried_token v c.source ≡ carried_token v (source_of c.source k i ps)
      by (kind.Specification s) e = absurd (true_false false e refl)
      by k e = refl

  pub enter_replaced : (o : Bool) (c : Context) (k : Kind) (i j : ℕ) (ps qs : Trees) (named : Bool) (n : ℕ) (p : Tree) (x : ℕ) (b : Bool) → is_top k ≡ false → cp.around < i → AlikeRows ps qs → may_be_replaced o k n ≡ true → (o ≡ true → c.role ≡ role.Operand)
      → is_simple_part (kind_of p) ≡ true → enter (K c) k (v i) (v j) qs named n (name_over x) b ≡ K (enter c k i j ps named n p b)
  enter_replaced o c k i j ps qs named n p x b top lt rows may f e =
      enter_copied c k i j ps qs named n p (name_over x) b top lt (role_replaced o c k i j named n p (name_over x) may f) (site_replaced o c k i ps qs n p (name_over x) may rows) (source_replaced c p x e)
