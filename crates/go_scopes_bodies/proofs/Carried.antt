-- What a tree tells whose tokens stand elsewhere is what the tree tells, carried along.
use Rattle.std.proofs.Common.{◌≡◌, ℕ, zero, suc, Bool, true, false, List, [], ◌∷◌, ◌++◌, map, Option, Some, None, refl, sym, ap, ◌∙◌}
use Rattle.std.specs.Prelude.{nat_lt, nat_eq, if◌then◌else◌, ◌||◌, ◌&&◌, not}
use Rattle.std.proofs.lemmas.List.{map-append}
use Rattle.go_grammar.specs.declared.kind.Kind.{Kind}
use Rattle.go_grammar.specs.declared.kind.Kind.TheVariants as kind
use Rattle.go_grammar.specs.declared.kind.Sort.{Sort}
use Rattle.go_grammar.specs.declared.kind.Sort.TheVariants as sort
use Rattle.go_grammar.specs.Trees.{Tree, node, Trees, none, more, skip}
use Rattle.go_grammar.specs.Grammar.{is_name, is_parameter, ends_from, ends_named, count}
use Rattle.go_tree.specs.Views.{part_at}
use Rattle.go_tree.specs.declared.context.Block.{Block}
use Rattle.go_tree.specs.declared.context.Block.TheVariants as block
use Rattle.go_tree.specs.declared.context.Scope.{Scope}
use Rattle.go_tree.specs.declared.context.Role.{Role}
use Rattle.go_tree.specs.declared.context.Role.TheVariants as role
use Rattle.go_tree.specs.declared.context.Reach.TheVariants as reach
use Rattle.go_tree.specs.declared.context.Entity.TheVariants as entity
use Rattle.go_tree.specs.declared.context.Manner.TheVariants as manner
use Rattle.go_tree.specs.declared.context.Site.{Site}
use Rattle.go_tree.specs.declared.context.Site.TheVariants as site
use Rattle.go_tree.specs.declared.context.Context.{Context}
use Rattle.go_tree.specs.declared.event.Event.{Event}
use Rattle.go_tree.specs.declared.event.Event.TheVariants as event
use Rattle.go_tree.specs.Contexts as contexts
use Rattle.go_tree.specs.Contexts.{is_there, opens, block_in, end_in, role_in, site_in, specification_in, source_in, source_at, has_values, group_in, parameters_in, function_parameters, body_scope, is_package, package_value, initial_in, is_called, called_in, if_name, if_first, field_role, key_role, parameter_role, entry_role, value_site, column_site, typed_site, sequence_site, length_site, element_site, enter}
use Rattle.go_tree.specs.Events.{name_events, declaration_events, function_events, misplaced, is_default, default_events, second_defaults, own_events, statement_events, is_more, pass, begin, events, events_of}
use Rattle.go_rewriting.specs.Places.{carry, carries}
use Rattle.go_scopes_bodies.specs.Carried.{carried_token, carried_scopes, carried_block, carried_role, carried_site, carried_context, carried_event, KeepsName, KeepsNames, AllKeepNames}

-- ---- rows of parts

count_carried : (v : ℕ → ℕ) (ps : Trees) → count (carries v ps) ≡ count ps
count_carried v none = refl
count_carried v (more p ps) = ap suc (count_carried v ps)
count_carried v (skip ps) = ap suc (count_carried v ps)

there_carried : (v : ℕ → ℕ) (ps : Trees) (m : ℕ) → is_there (part_at (carries v ps) m) ≡ is_there (part_at ps m)
there_carried v none m = refl
there_carried v (more p ps) zero = refl
there_carried v (more p ps) (suc m) = there_carried v ps m
there_carried v (skip ps) zero = refl
there_carried v (skip ps) (suc m) = there_carried v ps m

ends_carried : (v : ℕ → ℕ) (b : Bool) (ps : Trees) → ends_from b (carries v ps) ≡ ends_from b ps
ends_carried v b none = refl
ends_carried v b (more (node k i j qs) ps) = ends_carried v (is_parameter k) ps
ends_carried v b (skip ps) = ends_carried v false ps

more_carried : (v : ℕ → ℕ) (ps : Trees) → is_more (carries v ps) ≡ is_more ps
more_carried v none = refl
more_carried v (more p ps) = refl
more_carried v (skip ps) = more_carried v ps

-- ---- the parts of a context

package_carried : (v : ℕ → ℕ) (b : Block) → is_package (carried_block v b) ≡ is_package b
package_carried v block.Package = refl
package_carried v (block.Local i) = refl

block_carried : (v : ℕ → ℕ) (c : Context) (k : Kind) (i : ℕ) → block_in (carried_context v c) k (v i) ≡ carried_block v (block_in c k i)
block_carried v c k i = elim (opens k) as (λ b. (if b then block.Local (v i) else carried_block v c.block) ≡ carried_block v (if b then block.Local i else c.block)) [ true ↦ refl | false ↦ refl ]

end_carried : (v : ℕ → ℕ) (c : Context) (k : Kind) (j : ℕ) → end_in (carried_context v c) k (v j) ≡ v (end_in c k j)
end_carried v c k j = elim (opens k) as (λ b. (if b then v j else v c.end) ≡ v (if b then j else c.end)) [ true ↦ refl | false ↦ refl ]

name_carried : (v : ℕ → ℕ) (p : Tree) (r : Role) → if_name (carry v p) (carried_role v r) ≡ carried_role v (if_name p r)
name_carried v (node k i j ps) r = elim (is_name k) as (λ b. (if b then carried_role v r else role.Operand) ≡ carried_role v (if b then r else role.Operand)) [ true ↦ refl | false ↦ refl ]

head_carried : (v : ℕ → ℕ) (m : ℕ) (r : Role) → if_first m (carried_role v r) ≡ carried_role v (if_first m r)
head_carried v zero r = refl
head_carried v (suc m) r = refl

called_carried : (v : ℕ → ℕ) (r : Role) → called_in (carried_role v r) ≡ carried_role v (called_in r)
called_carried v role.Called = refl
called_carried v r = refl

is_called_carried : (v : ℕ → ℕ) (r : Role) → is_called (carried_role v r) ≡ is_called r
is_called_carried v role.Called = refl
is_called_carried v r = refl

field_carried : (v : ℕ → ℕ) (g : Option ℕ) → field_role (carried_token v g) ≡ carried_role v (field_role g)
field_carried v None = refl
field_carried v (Some g) = refl

key_carried : (v : ℕ → ℕ) (g : Option ℕ) → key_role (carried_token v g) ≡ carried_role v (key_role g)
key_carried v None = refl
key_carried v (Some g) = refl

parameter_carried : (v : ℕ → ℕ) (g : Option ℕ) (s : Option Scope) → parameter_role (carried_token v g) (carried_scopes v s) ≡ carried_role v (parameter_role g s)
parameter_carried v None s = refl
parameter_carried v (Some g) s = refl

entry_carried : (v : ℕ → ℕ) (named : Bool) (p : Tree) (i : ℕ) (s : Option Scope) → entry_role named (carry v p) (v i) (carried_scopes v s) ≡ carried_role v (entry_role named p i s)
entry_carried v true p i s = name_carried v p (role.Parameter i s)
entry_carried v false p i s = refl

role_carried : (v : ℕ → ℕ) (c : Context) (k : Kind) (i j : ℕ) (named : Bool) (m : ℕ) (p : Tree) → role_in (carried_context v c) k (v i) (v j) named m (carry v p) ≡ carried_role v (role_in c k i j named m p)
role_carried v c (kind.Specification sort.Constant) i j named m p = head_carried v m _
role_carried v c (kind.Specification sort.Variable) i j named m p = head_carried v m _
role_carried v c kind.Define i j named m p = head_carried v m _
role_carried v c kind.DefiningRange i j named m p = head_carried v m _
role_carried v c kind.NameList i j named m p = refl
role_carried v c kind.NewNames i j named m p = refl
role_carried v c kind.ExpressionList i j named m p = name_carried v p c.role
role_carried v c kind.Call i j named m p = head_carried v m role.Called
role_carried v c kind.Parenthesized i j named m p = called_carried v c.role
role_carried v c kind.Selector i j named m p = ap (λ b. if_name (carry v p) (role.Selected (v j) b)) (is_called_carried v c.role) ∙ name_carried v p (role.Selected j (is_called c.role))
role_carried v c kind.Fields i j named m p = ap (if_first m) (field_carried v c.group) ∙ head_carried v m (field_role c.group)
role_carried v c kind.Keyed i j named m p = ap (if_first m) (key_carried v c.group) ∙ head_carried v m (key_role c.group)
role_carried v c kind.Parameters i j named m p = entry_carried v named p i c.parameters
role_carried v c kind.Parameter i j named m p = ap (if_first m) (parameter_carried v c.group c.parameters) ∙ head_carried v m (parameter_role c.group c.parameters)
role_carried v c k i j named m p = refl

length_carried : (v : ℕ → ℕ) (s : Site) → length_site (carried_site v s) ≡ carried_site v (length_site s)
length_carried v site.Elsewhere = refl
length_carried v (site.Type s) = refl
length_carried v (site.Value s column alone) = refl
length_carried v (site.Right s r) = refl

element_carried : (v : ℕ → ℕ) (b : Bool) (s : Site) → element_site b (carried_site v s) ≡ carried_site v (element_site b s)
element_carried v true s = refl
element_carried v false site.Elsewhere = refl
element_carried v false (site.Type s) = refl
element_carried v false (site.Value s column alone) = refl
element_carried v false (site.Right s reach.Direct) = refl
element_carried v false (site.Right s reach.Indirect) = refl
element_carried v false (site.Right s reach.Length) = refl

column_carried : (v : ℕ → ℕ) (m : ℕ) (s : Site) → column_site m (carried_site v s) ≡ carried_site v (column_site m s)
column_carried v m site.Elsewhere = refl
column_carried v m (site.Type s) = refl
column_carried v m (site.Value s column alone) = refl
column_carried v m (site.Right s r) = refl

value_carried : (v : ℕ → ℕ) (s : Option ℕ) (alone : Bool) → value_site (carried_token v s) alone ≡ carried_site v (value_site s alone)
value_carried v None alone = refl
value_carried v (Some s) alone = refl

values_carried : (v : ℕ → ℕ) (c : Context) (p : Tree) → contexts.values_site (carried_context v c) (carry v p) ≡ carried_site v (contexts.values_site c p)
values_carried v c (node k i j ps) = ap (λ m. value_site (carried_token v c.specification) (nat_eq m 1)) (count_carried v ps) ∙ value_carried v c.specification (nat_eq (count ps) 1)

typed_carried : (v : ℕ → ℕ) (c : Context) (m : ℕ) (p : Tree) → typed_site (carried_context v c) m (carry v p) ≡ carried_site v (typed_site c m p)
typed_carried v c zero p = refl
typed_carried v c (suc m) p = values_carried v c p

function_carried : (v : ℕ → ℕ) (i m : ℕ) → contexts.function_site (v i) m ≡ carried_site v (contexts.function_site i m)
function_carried v i zero = refl
function_carried v i (suc m) = refl

sequence_carried : (v : ℕ → ℕ) (c : Context) (ps : Trees) (m : ℕ) → sequence_site (carried_context v c) (carries v ps) m ≡ carried_site v (sequence_site c ps m)
sequence_carried v c ps zero = length_carried v c.site
sequence_carried v c ps (suc m) = ap (λ b. element_site b (carried_site v c.site)) (there_carried v ps 0) ∙ element_carried v (is_there (part_at ps 0)) c.site

site_carried : (v : ℕ → ℕ) (c : Context) (k : Kind) (i : ℕ) (ps : Trees) (m : ℕ) (p : Tree) → site_in (carried_context v c) k (v i) (carries v ps) m (carry v p) ≡ carried_site v (site_in c k i ps m p)
site_carried v c (kind.Specification sort.Type) i ps m p = refl
site_carried v c (kind.Specification sort.Constant) i ps m p = refl
site_carried v c (kind.Specification sort.Variable) i ps m p = refl
site_carried v c kind.Values i ps m p = values_carried v c p
site_carried v c kind.TypedValues i ps m p = typed_carried v c m p
site_carried v c kind.ExpressionList i ps m p = column_carried v m c.site
site_carried v c kind.FunctionDeclaration i ps m p = function_carried v i m
site_carried v c kind.SequenceType i ps m p = sequence_carried v c ps m
site_carried v c kind.FunctionType i ps m p = element_carried v false c.site
site_carried v c k i ps m p = refl

specification_carried : (v : ℕ → ℕ) (c : Context) (k : Kind) (i : ℕ) → specification_in (carried_context v c) k (v i) ≡ carried_token v (specification_in c k i)
specification_carried v c (kind.Specification s) i = refl
specification_carried v c k i = refl

own_carried : (v : ℕ → ℕ) (o : Option ℕ) (b : Bool) (i : ℕ) → (if b then Some (v i) else carried_token v o) ≡ carried_token v (if b then Some i else o)
own_carried v o true i = refl
own_carried v o false i = refl

has_carried : (v : ℕ → ℕ) (s : Sort) (ps : Trees) → has_values s (carries v ps) ≡ has_values s ps
has_carried v sort.Constant ps = there_carried v ps 1
has_carried v sort.Type ps = refl
has_carried v sort.Variable ps = refl

source_carried : (v : ℕ → ℕ) (o : Option ℕ) (k : Kind) (i : ℕ) (ps : Trees) → contexts.source_of (carried_token v o) k (v i) (carries v ps) ≡ carried_token v (contexts.source_of o k i ps)
source_carried v o (kind.Specification s) i ps = ap (λ b. if b then Some (v i) else carried_token v o) (has_carried v s ps) ∙ own_carried v o (has_values s ps) i
source_carried v o k i ps = refl

source_at_carried : (v : ℕ → ℕ) (c : Context) (p : Tree) → source_at (carried_context v c) (carry v p) ≡ carried_token v (source_at c p)
source_at_carried v c (node k i j ps) = source_carried v c.source k i ps

source_in_carried : (v : ℕ → ℕ) (c : Context) (k : Kind) → source_in (carried_context v c) k ≡ carried_token v (source_in c k)
source_in_carried v c (kind.Declaration s) = refl
source_in_carried v c k = refl

group_carried : (v : ℕ → ℕ) (c : Context) (k : Kind) (i : ℕ) → group_in (carried_context v c) k (v i) ≡ carried_token v (group_in c k i)
group_carried v c kind.StructType i = refl
group_carried v c kind.Composite i = refl
group_carried v c kind.LiteralValue i = refl
group_carried v c kind.Parameters i = refl
group_carried v c k i = refl

body_carried : (v : ℕ → ℕ) (b : Bool) (from to : ℕ) → body_scope b (v from) (v to) ≡ carried_scopes v (body_scope b from to)
body_carried v true from to = refl
body_carried v false from to = refl

function_parameters_carried : (v : ℕ → ℕ) (c : Context) (j : ℕ) (ps : Trees) (m : ℕ) (p : Tree) → function_parameters (carried_context v c) (v j) (carries v ps) m (carry v p) ≡ carried_scopes v (function_parameters c j ps m p)
function_parameters_carried v c j ps zero (node k a b qs) = ap (λ x. body_scope x (v b) (v j)) (there_carried v ps 1) ∙ body_carried v (is_there (part_at ps 1)) b j
function_parameters_carried v c j ps (suc m) p = refl

parameters_carried : (v : ℕ → ℕ) (c : Context) (k : Kind) (j : ℕ) (ps : Trees) (m : ℕ) (p : Tree) → parameters_in (carried_context v c) k (v j) (carries v ps) m (carry v p) ≡ carried_scopes v (parameters_in c k j ps m p)
parameters_carried v c kind.FunctionDeclaration j ps m p = function_parameters_carried v c j ps m p
parameters_carried v c kind.FunctionType j ps m p = refl
parameters_carried v c k j ps m p = refl

value_package_carried : (v : ℕ → ℕ) (c : Context) → package_value (carried_context v c) ≡ package_value c
value_package_carried v c = ap (λ b. b && not c.constant) (package_carried v c.block)

typed_initial_carried : (v : ℕ → ℕ) (c : Context) (m : ℕ) → contexts.typed_initial (carried_context v c) m ≡ contexts.typed_initial c m
typed_initial_carried v c zero = refl
typed_initial_carried v c (suc m) = value_package_carried v c

initial_carried : (v : ℕ → ℕ) (c : Context) (k : Kind) (m : ℕ) → initial_in (carried_context v c) k m ≡ initial_in c k m
initial_carried v c kind.Values m = value_package_carried v c
initial_carried v c kind.TypedValues m = typed_initial_carried v c m
initial_carried v c k m = refl

constant_carried : (v : ℕ → ℕ) (c : Context) (k : Kind) → contexts.constant_in (carried_context v c) k ≡ contexts.constant_in c k
constant_carried v c (kind.Declaration s) = refl
constant_carried v c k = refl

breaks_carried : (v : ℕ → ℕ) (c : Context) (k : Kind) → contexts.breaks_in (carried_context v c) k ≡ contexts.breaks_in c k
breaks_carried v c kind.For = refl
breaks_carried v c kind.Switch = refl
breaks_carried v c k = refl

continues_carried : (v : ℕ → ℕ) (c : Context) (k : Kind) → contexts.continues_in (carried_context v c) k ≡ contexts.continues_in c k
continues_carried v c kind.For = refl
continues_carried v c k = refl

falls_carried : (v : ℕ → ℕ) (c : Context) (k : Kind) (b : Bool) → contexts.falls_in (carried_context v c) k b ≡ contexts.falls_in c k b
falls_carried v c kind.Case b = refl
falls_carried v c kind.Default b = refl
falls_carried v c k b = refl

-- ---- contexts

-- with other values in the places that have numbers of tokens or follow from them
abbrev pub with_tokens : Context → Block → ℕ → Role → Site → Option ℕ → Option ℕ → Option ℕ → Option Scope → Context
with_tokens c b e r s specification source group parameters = record c { block = b; end = e; role = r; site = s; specification = specification; source = source; group = group; parameters = parameters }

abbrev pub with_tests : Context → Bool → Bool → Bool → Bool → Bool → Context
with_tests c constant initial breaks continues falls = record c { constant = constant; initial = initial; breaks = breaks; continues = continues; falls = falls }

pub same_tokens : (c : Context) (b b' : Block) (e e' : ℕ) (r r' : Role) (s s' : Site) (p p' q q' g g' : Option ℕ) (o o' : Option Scope) → b ≡ b' → e ≡ e' → r ≡ r' → s ≡ s' → p ≡ p' → q ≡ q' → g ≡ g' → o ≡ o' → with_tokens c b e r s p q g o ≡ with_tokens c b' e' r' s' p' q' g' o'
same_tokens c b b' e e' r r' s s' p p' q q' g g' o o' hb he hr hs hp hq hg ho =
    ap (λ x. with_tokens c x e r s p q g o) hb
    ∙ ap (λ x. with_tokens c b' x r s p q g o) he
    ∙ ap (λ x. with_tokens c b' e' x s p q g o) hr
    ∙ ap (λ x. with_tokens c b' e' r' x p q g o) hs
    ∙ ap (λ x. with_tokens c b' e' r' s' x q g o) hp
    ∙ ap (λ x. with_tokens c b' e' r' s' p' x g o) hq
    ∙ ap (λ x. with_tokens c b' e' r' s' p' q' x o) hg
    ∙ ap (λ x. with_tokens c b' e' r' s' p' q' g' x) ho

pub same_tests : (c : Context) (a a' b b' d d' e e' f f' : Bool) → a ≡ a' → b ≡ b' → d ≡ d' → e ≡ e' → f ≡ f' → with_tests c a b d e f ≡ with_tests c a' b' d' e' f'
same_tests c a a' b b' d d' e e' f f' ha hb hd he hf =
    ap (λ x. with_tests c x b d e f) ha
    ∙ ap (λ x. with_tests c a' x d e f) hb
    ∙ ap (λ x. with_tests c a' b' x e f) hd
    ∙ ap (λ x. with_tests c a' b' d' x f) he
    ∙ ap (λ x. with_tests c a' b' d' e' x) hf

enter_carried : (v : ℕ → ℕ) (c : Context) (k : Kind) (i j : ℕ) (ps : Trees) (named : Bool) (m : ℕ) (p : Tree) (b : Bool) → enter (carried_context v c) k (v i) (v j) (carries v ps) named m (carry v p) b ≡ carried_context v (enter c k i j ps named m p b)
enter_carried v c k i j ps named m p b =
    same_tokens (enter (carried_context v c) k (v i) (v j) (carries v ps) named m (carry v p) b)
    _ _ _ _ _ _ _ _ _ _ _ _ _ _ _ _
    (block_carried v c k i) (end_carried v c k j) (role_carried v c k i j named m p) (site_carried v c k i ps m p)
    (specification_carried v c k i) (source_at_carried v c p) (group_carried v c k i) (parameters_carried v c k j ps m p)
    ∙ same_tests (carried_context v (enter c k i j ps named m p b))
    _ _ _ _ _ _ _ _ _ _
    (constant_carried v c k) (initial_carried v c k m) (breaks_carried v c k) (continues_carried v c k) (falls_carried v c k b)

begin_carried : (v : ℕ → ℕ) (c : Context) (k : Kind) → begin (carried_context v c) k ≡ carried_context v (begin c k)
begin_carried v c k = ap (λ s. record (carried_context v c) { source = s }) (source_in_carried v c k)

pass_carried : (v : ℕ → ℕ) (c : Context) (p : Tree) → pass (carried_context v c) (carry v p) ≡ carried_context v (pass c p)
pass_carried v c p = ap (λ s. record (carried_context v c) { source = s }) (source_at_carried v c p)

-- ---- what a node tells by itself

name_told : (v : ℕ → ℕ) (c : Context) (i : ℕ) (r : Role) → c.role ≡ r → name_events (carried_context v c) (v i) (carried_role v r) ≡ map (carried_event v) (name_events c i r)
name_told v c i (role.New d) e = refl
name_told v c i (role.Field g) e = refl
name_told v c i (role.Key g) e = refl
name_told v c i (role.Parameter g None) e = refl
name_told v c i (role.Parameter g (Some s)) e = refl
name_told v c i role.Operand e = refl
name_told v c i role.Assigned e = refl
name_told v c i role.Called e = refl
name_told v c i (role.Selected j b) e = refl

function_told : (v : ℕ → ℕ) (i j : ℕ) (b : Bool) → v (suc i) ≡ suc (v i) → function_events (v i) (v j) b ≡ map (carried_event v) (function_events i j b)
function_told v i j true h = ap (λ x. event.Declaration (record { name = x; entity = entity.Function; manner = manner.Declared; block = block.Package; scope = record { from = v i; to = v j }; statement = v i; source = Some (v i); column = 0 }) ∷ []) (sym h)
function_told v i j false h = ap (λ x. event.Declaration (record { name = x; entity = entity.Function; manner = manner.Declared; block = block.Package; scope = record { from = v i; to = v j }; statement = v i; source = Some (v i); column = 0 }) ∷ event.Bodiless (v i) (v j) ∷ []) (sym h)

if_told : (v : ℕ → ℕ) (b : Bool) (es : List Event) → (if b then map (carried_event v) es else []) ≡ map (carried_event v) (if b then es else [])
if_told v true es = refl
if_told v false es = refl

declaration_told : (v : ℕ → ℕ) (i j : ℕ) (ps : Trees) → KeepsName v kind.FunctionDeclaration i j → declaration_events (v i) (v j) (carries v ps) ≡ map (carried_event v) (declaration_events i j ps)
declaration_told v i j ps h =
    ap (λ b. if b then function_events (v i) (v j) (is_there (part_at (carries v ps) 1)) else []) h.1
    ∙ ap (λ b. if nat_lt i j then function_events (v i) (v j) b else []) (there_carried v ps 1)
    ∙ ap (λ es. if nat_lt i j then es else []) (function_told v i j (is_there (part_at ps 1)) h.0)
    ∙ if_told v (nat_lt i j) (function_events i j (is_there (part_at ps 1)))

misplaced_told : (v : ℕ → ℕ) (b : Bool) (i j : ℕ) → misplaced b (v i) (v j) ≡ map (carried_event v) (misplaced b i j)
misplaced_told v true i j = refl
misplaced_told v false i j = refl

default_told : (v : ℕ → ℕ) (d b : Bool) (word : ℕ) → default_events d b (v word) ≡ map (carried_event v) (default_events d b word)
default_told v true true word = refl
default_told v true false word = refl
default_told v false b word = refl

second_told : (v : ℕ → ℕ) (b : Bool) (ps : Trees) → second_defaults b (carries v ps) ≡ map (carried_event v) (second_defaults b ps)
second_told v b none = refl
second_told v b (skip ps) = second_told v b ps
second_told v b (more (node k i j qs) ps) =
    ap (λ es. es ++ second_defaults (b || is_default k) (carries v ps)) (default_told v (is_default k) b i)
    ∙ ap (λ es. map (carried_event v) (default_events (is_default k) b i) ++ es) (second_told v (b || is_default k) ps)
    ∙ sym (map-append (carried_event v) (default_events (is_default k) b i) (second_defaults (b || is_default k) ps))

own_told : (v : ℕ → ℕ) (c : Context) (k : Kind) (i j : ℕ) (ps : Trees) → KeepsName v k i j → own_events (carried_context v c) k (v i) (v j) (carries v ps) ≡ map (carried_event v) (own_events c k i j ps)
own_told v c kind.ImportPath i j ps h = refl
own_told v c kind.FunctionDeclaration i j ps h = declaration_told v i j ps h
own_told v c (kind.Specification sort.Type) i j ps h = refl
own_told v c (kind.Specification sort.Constant) i j ps h = refl
own_told v c (kind.Specification sort.Variable) i j ps h = refl
own_told v c kind.DeclaredName i j ps h = name_told v c i c.role refl
own_told v c kind.Name i j ps h = name_told v c i c.role refl
own_told v c kind.Switch i j ps h = second_told v false ps
own_told v c kind.Break i j ps h = misplaced_told v c.breaks i j
own_told v c kind.Continue i j ps h = misplaced_told v c.continues i j
own_told v c kind.Fallthrough i j ps h = misplaced_told v c.falls i j
own_told v c k i j ps h = refl

statement_told : (v : ℕ → ℕ) (b : Bool) (i j : ℕ) → statement_events b (v i) (v j) ≡ map (carried_event v) (statement_events b i j)
statement_told v true i j = refl
statement_told v false i j = refl

both_told : (v : ℕ → ℕ) (vs ws xs ys : List Event) → vs ≡ map (carried_event v) xs → ws ≡ map (carried_event v) ys → vs ++ ws ≡ map (carried_event v) (xs ++ ys)
both_told v vs ws xs ys a b = ap (λ z. z ++ ws) a ∙ ap (λ z. map (carried_event v) xs ++ z) b ∙ sym (map-append (carried_event v) xs ys)

mutual
  pub events_carried : (v : ℕ → ℕ) (c : Context) (t : Tree) → KeepsNames v t → events (carried_context v c) (carry v t) ≡ map (carried_event v) (events c t)
  events_carried v c (node k i j ps) h =
      both_told v (statement_events c.listed (v i) (v j) ++ own_events (carried_context v c) k (v i) (v j) (carries v ps)) (events_of (begin (carried_context v c) k) k (v i) (v j) (carries v ps) 0 (carries v ps)) (statement_events c.listed i j ++ own_events c k i j ps) (events_of (begin c k) k i j ps 0 ps)
      (both_told v (statement_events c.listed (v i) (v j)) (own_events (carried_context v c) k (v i) (v j) (carries v ps)) (statement_events c.listed i j) (own_events c k i j ps) (statement_told v c.listed i j) (own_told v c k i j ps h.0))
      (ap (λ x. events_of x k (v i) (v j) (carries v ps) 0 (carries v ps)) (begin_carried v c k) ∙ parts_carried v (begin c k) k i j ps 0 ps h.1)

  parts_carried : (v : ℕ → ℕ) (c : Context) (k : Kind) (i j : ℕ) (ps : Trees) (m : ℕ) (qs : Trees) → AllKeepNames v qs → events_of (carried_context v c) k (v i) (v j) (carries v ps) m (carries v qs) ≡ map (carried_event v) (events_of c k i j ps m qs)
  parts_carried v c k i j ps m none h = refl
  parts_carried v c k i j ps m (more p qs) h =
      both_told v (events (enter (carried_context v c) k (v i) (v j) (carries v ps) (ends_named (carries v ps)) m (carry v p) (is_more (carries v qs))) (carry v p)) (events_of (pass (carried_context v c) (carry v p)) k (v i) (v j) (carries v ps) (suc m) (carries v qs)) (events (enter c k i j ps (ends_named ps) m p (is_more qs)) p) (events_of (pass c p) k i j ps (suc m) qs)
      (ap (λ b. events (enter (carried_context v c) k (v i) (v j) (carries v ps) b m (carry v p) (is_more (carries v qs))) (carry v p)) (ends_carried v false ps)
      ∙ ap (λ b. events (enter (carried_context v c) k (v i) (v j) (carries v ps) (ends_named ps) m (carry v p) b) (carry v p)) (more_carried v qs)
      ∙ ap (λ x. events x (carry v p)) (enter_carried v c k i j ps (ends_named ps) m p (is_more qs))
      ∙ events_carried v (enter c k i j ps (ends_named ps) m p (is_more qs)) p h.0)
      (ap (λ x. events_of x k (v i) (v j) (carries v ps) (suc m) (carries v qs)) (pass_carried v c p) ∙ parts_carried v (pass c p) k i j ps (suc m) qs h.1)
  parts_carried v c k i j ps m (skip qs) h = parts_carried v c k i j ps (suc m) qs h
