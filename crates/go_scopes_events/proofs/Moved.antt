-- What a tree tells whose tokens stand further on is what the tree tells, moved.
use Rattle.std.proofs.Common.{◌≡◌, ◌+◌, ℕ, zero, suc, Bool, true, false, List, [], ◌∷◌, ◌++◌, map, Option, Some, None, refl, sym, ap, ◌∙◌, arith}
use Rattle.std.specs.Prelude.{nat_lt, nat_eq, if◌then◌else◌, ◌||◌, ◌&&◌, not}
use Rattle.std.proofs.lemmas.List.{map-append}
use Rattle.std.proofs.lemmas.Bool.Decides.{nat_tests}
use Rattle.go_grammar.specs.declared.kind.Kind.{Kind}
use Rattle.go_grammar.specs.declared.kind.Kind.TheVariants as kind
use Rattle.go_grammar.specs.declared.kind.Sort.{Sort}
use Rattle.go_grammar.specs.declared.kind.Sort.TheVariants as sort
use Rattle.go_grammar.specs.Trees.{Tree, node, Trees, none, more, skip}
use Rattle.go_grammar.specs.Grammar.{is_name, is_parameter, ends_from, ends_named, count}
use Rattle.go_tree.specs.Views.{part_at}
use Rattle.go_tree.specs.declared.context.Block.{Block}
use Rattle.go_tree.specs.declared.context.Block.TheVariants as block
use Rattle.go_tree.specs.declared.context.Scope.{Scope}
use Rattle.go_tree.specs.declared.context.Role.{Role}
use Rattle.go_tree.specs.declared.context.Role.TheVariants as role
use Rattle.go_tree.specs.declared.context.Reach.TheVariants as reach
use Rattle.go_tree.specs.declared.context.Entity.TheVariants as entity
use Rattle.go_tree.specs.declared.context.Manner.TheVariants as manner
use Rattle.go_tree.specs.declared.context.Site.{Site}
use Rattle.go_tree.specs.declared.context.Site.TheVariants as site
use Rattle.go_tree.specs.declared.context.Context.{Context}
use Rattle.go_tree.specs.declared.event.Event.{Event}
use Rattle.go_tree.specs.declared.event.Event.TheVariants as event
use Rattle.go_tree.specs.Contexts as contexts
use Rattle.go_tree.specs.Contexts.{is_there, opens, block_in, end_in, role_in, site_in, specification_in, source_in, source_at, has_values, group_in, parameters_in, function_parameters, body_scope, is_package, package_value, initial_in, is_called, called_in, if_name, if_first, field_role, key_role, parameter_role, entry_role, value_site, column_site, typed_site, sequence_site, length_site, element_site, enter}
use Rattle.go_tree.specs.Events.{name_events, declaration_events, function_events, misplaced, is_default, default_events, second_defaults, own_events, statement_events, is_more, pass, begin, events, events_of}
use Rattle.go_scopes_events.specs.Moved.{moved, all_moved, moved_token, moved_scopes, moved_block, moved_role, moved_site, moved_context, moved_event}

-- ---- numbers

behind_moved : (n i : ℕ) → suc (n + i) ≡ n + suc i
behind_moved n i = omega arith

less_moved : (n i j : ℕ) → nat_lt (n + i) (n + j) ≡ nat_lt i j
less_moved n i j = grind (arith, nat_tests)

-- ---- rows of parts

count_moved : (n : ℕ) (ps : Trees) → count (all_moved n ps) ≡ count ps
count_moved n none = refl
count_moved n (more p ps) = ap suc (count_moved n ps)
count_moved n (skip ps) = ap suc (count_moved n ps)

there_moved : (n : ℕ) (ps : Trees) (m : ℕ) → is_there (part_at (all_moved n ps) m) ≡ is_there (part_at ps m)
there_moved n none m = refl
there_moved n (more p ps) zero = refl
there_moved n (more p ps) (suc m) = there_moved n ps m
there_moved n (skip ps) zero = refl
there_moved n (skip ps) (suc m) = there_moved n ps m

ends_moved : (n : ℕ) (b : Bool) (ps : Trees) → ends_from b (all_moved n ps) ≡ ends_from b ps
ends_moved n b none = refl
ends_moved n b (more (node k i j qs) ps) = ends_moved n (is_parameter k) ps
ends_moved n b (skip ps) = ends_moved n false ps

more_moved : (n : ℕ) (ps : Trees) → is_more (all_moved n ps) ≡ is_more ps
more_moved n none = refl
more_moved n (more p ps) = refl
more_moved n (skip ps) = more_moved n ps

-- ---- the parts of a context

package_moved : (n : ℕ) (b : Block) → is_package (moved_block n b) ≡ is_package b
package_moved n block.Package = refl
package_moved n (block.Local i) = refl

block_moved : (n : ℕ) (c : Context) (k : Kind) (i : ℕ) → block_in (moved_context n c) k (n + i) ≡ moved_block n (block_in c k i)
block_moved n c k i = elim (opens k) as (λ b. (if b then block.Local (n + i) else moved_block n c.block) ≡ moved_block n (if b then block.Local i else c.block)) [ true ↦ refl | false ↦ refl ]

end_moved : (n : ℕ) (c : Context) (k : Kind) (j : ℕ) → end_in (moved_context n c) k (n + j) ≡ n + end_in c k j
end_moved n c k j = elim (opens k) as (λ b. (if b then n + j else n + c.end) ≡ n + (if b then j else c.end)) [ true ↦ refl | false ↦ refl ]

name_moved : (n : ℕ) (p : Tree) (r : Role) → if_name (moved n p) (moved_role n r) ≡ moved_role n (if_name p r)
name_moved n (node k i j ps) r = elim (is_name k) as (λ b. (if b then moved_role n r else role.Operand) ≡ moved_role n (if b then r else role.Operand)) [ true ↦ refl | false ↦ refl ]

head_moved : (n m : ℕ) (r : Role) → if_first m (moved_role n r) ≡ moved_role n (if_first m r)
head_moved n zero r = refl
head_moved n (suc m) r = refl

called_moved : (n : ℕ) (r : Role) → called_in (moved_role n r) ≡ moved_role n (called_in r)
called_moved n role.Called = refl
called_moved n r = refl

is_called_moved : (n : ℕ) (r : Role) → is_called (moved_role n r) ≡ is_called r
is_called_moved n role.Called = refl
is_called_moved n r = refl

field_moved : (n : ℕ) (g : Option ℕ) → field_role (moved_token n g) ≡ moved_role n (field_role g)
field_moved n None = refl
field_moved n (Some g) = refl

key_moved : (n : ℕ) (g : Option ℕ) → key_role (moved_token n g) ≡ moved_role n (key_role g)
key_moved n None = refl
key_moved n (Some g) = refl

parameter_moved : (n : ℕ) (g : Option ℕ) (s : Option Scope) → parameter_role (moved_token n g) (moved_scopes n s) ≡ moved_role n (parameter_role g s)
parameter_moved n None s = refl
parameter_moved n (Some g) s = refl

entry_moved : (n : ℕ) (named : Bool) (p : Tree) (i : ℕ) (s : Option Scope) → entry_role named (moved n p) (n + i) (moved_scopes n s) ≡ moved_role n (entry_role named p i s)
entry_moved n true p i s = name_moved n p (role.Parameter i s)
entry_moved n false p i s = refl

role_moved : (n : ℕ) (c : Context) (k : Kind) (i j : ℕ) (named : Bool) (m : ℕ) (p : Tree) → role_in (moved_context n c) k (n + i) (n + j) named m (moved n p) ≡ moved_role n (role_in c k i j named m p)
role_moved n c (kind.Specification sort.Constant) i j named m p = head_moved n m _
role_moved n c (kind.Specification sort.Variable) i j named m p = head_moved n m _
role_moved n c kind.Define i j named m p = head_moved n m _
role_moved n c kind.DefiningRange i j named m p = head_moved n m _
role_moved n c kind.NameList i j named m p = refl
role_moved n c kind.NewNames i j named m p = refl
role_moved n c kind.ExpressionList i j named m p = name_moved n p c.role
role_moved n c kind.Call i j named m p = head_moved n m role.Called
role_moved n c kind.Parenthesized i j named m p = called_moved n c.role
role_moved n c kind.Selector i j named m p = ap (λ b. if_name (moved n p) (role.Selected (n + j) b)) (is_called_moved n c.role) ∙ name_moved n p (role.Selected j (is_called c.role))
role_moved n c kind.Fields i j named m p = ap (if_first m) (field_moved n c.group) ∙ head_moved n m (field_role c.group)
role_moved n c kind.Keyed i j named m p = ap (if_first m) (key_moved n c.group) ∙ head_moved n m (key_role c.group)
role_moved n c kind.Parameters i j named m p = entry_moved n named p i c.parameters
role_moved n c kind.Parameter i j named m p = ap (if_first m) (parameter_moved n c.group c.parameters) ∙ head_moved n m (parameter_role c.group c.parameters)
role_moved n c k i j named m p = refl

length_moved : (n : ℕ) (s : Site) → length_site (moved_site n s) ≡ moved_site n (length_site s)
length_moved n site.Elsewhere = refl
length_moved n (site.Type s) = refl
length_moved n (site.Value s column alone) = refl
length_moved n (site.Right s r) = refl

element_moved : (n : ℕ) (b : Bool) (s : Site) → element_site b (moved_site n s) ≡ moved_site n (element_site b s)
element_moved n true s = refl
element_moved n false site.Elsewhere = refl
element_moved n false (site.Type s) = refl
element_moved n false (site.Value s column alone) = refl
element_moved n false (site.Right s reach.Direct) = refl
element_moved n false (site.Right s reach.Indirect) = refl
element_moved n false (site.Right s reach.Length) = refl

column_moved : (n m : ℕ) (s : Site) → column_site m (moved_site n s) ≡ moved_site n (column_site m s)
column_moved n m site.Elsewhere = refl
column_moved n m (site.Type s) = refl
column_moved n m (site.Value s column alone) = refl
column_moved n m (site.Right s r) = refl

value_moved : (n : ℕ) (s : Option ℕ) (alone : Bool) → value_site (moved_token n s) alone ≡ moved_site n (value_site s alone)
value_moved n None alone = refl
value_moved n (Some s) alone = refl

values_moved : (n : ℕ) (c : Context) (p : Tree) → contexts.values_site (moved_context n c) (moved n p) ≡ moved_site n (contexts.values_site c p)
values_moved n c (node k i j ps) = ap (λ m. value_site (moved_token n c.specification) (nat_eq m 1)) (count_moved n ps) ∙ value_moved n c.specification (nat_eq (count ps) 1)

typed_moved : (n : ℕ) (c : Context) (m : ℕ) (p : Tree) → typed_site (moved_context n c) m (moved n p) ≡ moved_site n (typed_site c m p)
typed_moved n c zero p = refl
typed_moved n c (suc m) p = values_moved n c p

function_moved : (n i m : ℕ) → contexts.function_site (n + i) m ≡ moved_site n (contexts.function_site i m)
function_moved n i zero = refl
function_moved n i (suc m) = refl

sequence_moved : (n : ℕ) (c : Context) (ps : Trees) (m : ℕ) → sequence_site (moved_context n c) (all_moved n ps) m ≡ moved_site n (sequence_site c ps m)
sequence_moved n c ps zero = length_moved n c.site
sequence_moved n c ps (suc m) = ap (λ b. element_site b (moved_site n c.site)) (there_moved n ps 0) ∙ element_moved n (is_there (part_at ps 0)) c.site

site_moved : (n : ℕ) (c : Context) (k : Kind) (i : ℕ) (ps : Trees) (m : ℕ) (p : Tree) → site_in (moved_context n c) k (n + i) (all_moved n ps) m (moved n p) ≡ moved_site n (site_in c k i ps m p)
site_moved n c (kind.Specification sort.Type) i ps m p = refl
site_moved n c (kind.Specification sort.Constant) i ps m p = refl
site_moved n c (kind.Specification sort.Variable) i ps m p = refl
site_moved n c kind.Values i ps m p = values_moved n c p
site_moved n c kind.TypedValues i ps m p = typed_moved n c m p
site_moved n c kind.ExpressionList i ps m p = column_moved n m c.site
site_moved n c kind.FunctionDeclaration i ps m p = function_moved n i m
site_moved n c kind.SequenceType i ps m p = sequence_moved n c ps m
site_moved n c kind.FunctionType i ps m p = element_moved n false c.site
site_moved n c k i ps m p = refl

specification_moved : (n : ℕ) (c : Context) (k : Kind) (i : ℕ) → specification_in (moved_context n c) k (n + i) ≡ moved_token n (specification_in c k i)
specification_moved n c (kind.Specification s) i = refl
specification_moved n c k i = refl

own_moved : (n : ℕ) (o : Option ℕ) (b : Bool) (i : ℕ) → (if b then Some (n + i) else moved_token n o) ≡ moved_token n (if b then Some i else o)
own_moved n o true i = refl
own_moved n o false i = refl

has_moved : (n : ℕ) (s : Sort) (ps : Trees) → has_values s (all_moved n ps) ≡ has_values s ps
has_moved n sort.Constant ps = there_moved n ps 1
has_moved n sort.Type ps = refl
has_moved n sort.Variable ps = refl

source_moved : (n : ℕ) (o : Option ℕ) (k : Kind) (i : ℕ) (ps : Trees) → contexts.source_of (moved_token n o) k (n + i) (all_moved n ps) ≡ moved_token n (contexts.source_of o k i ps)
source_moved n o (kind.Specification s) i ps = ap (λ b. if b then Some (n + i) else moved_token n o) (has_moved n s ps) ∙ own_moved n o (has_values s ps) i
source_moved n o k i ps = refl

source_at_moved : (n : ℕ) (c : Context) (p : Tree) → source_at (moved_context n c) (moved n p) ≡ moved_token n (source_at c p)
source_at_moved n c (node k i j ps) = source_moved n c.source k i ps

source_in_moved : (n : ℕ) (c : Context) (k : Kind) → source_in (moved_context n c) k ≡ moved_token n (source_in c k)
source_in_moved n c (kind.Declaration s) = refl
source_in_moved n c k = refl

group_moved : (n : ℕ) (c : Context) (k : Kind) (i : ℕ) → group_in (moved_context n c) k (n + i) ≡ moved_token n (group_in c k i)
group_moved n c kind.StructType i = refl
group_moved n c kind.Composite i = refl
group_moved n c kind.LiteralValue i = refl
group_moved n c kind.Parameters i = refl
group_moved n c k i = refl

body_moved : (n : ℕ) (b : Bool) (from to : ℕ) → body_scope b (n + from) (n + to) ≡ moved_scopes n (body_scope b from to)
body_moved n true from to = refl
body_moved n false from to = refl

function_parameters_moved : (n : ℕ) (c : Context) (j : ℕ) (ps : Trees) (m : ℕ) (p : Tree) → function_parameters (moved_context n c) (n + j) (all_moved n ps) m (moved n p) ≡ moved_scopes n (function_parameters c j ps m p)
function_parameters_moved n c j ps zero (node k a b qs) = ap (λ x. body_scope x (n + b) (n + j)) (there_moved n ps 1) ∙ body_moved n (is_there (part_at ps 1)) b j
function_parameters_moved n c j ps (suc m) p = refl

parameters_moved : (n : ℕ) (c : Context) (k : Kind) (j : ℕ) (ps : Trees) (m : ℕ) (p : Tree) → parameters_in (moved_context n c) k (n + j) (all_moved n ps) m (moved n p) ≡ moved_scopes n (parameters_in c k j ps m p)
parameters_moved n c kind.FunctionDeclaration j ps m p = function_parameters_moved n c j ps m p
parameters_moved n c kind.FunctionType j ps m p = refl
parameters_moved n c k j ps m p = refl

value_package_moved : (n : ℕ) (c : Context) → package_value (moved_context n c) ≡ package_value c
value_package_moved n c = ap (λ b. b && not c.constant) (package_moved n c.block)

typed_initial_moved : (n : ℕ) (c : Context) (m : ℕ) → contexts.typed_initial (moved_context n c) m ≡ contexts.typed_initial c m
typed_initial_moved n c zero = refl
typed_initial_moved n c (suc m) = value_package_moved n c

initial_moved : (n : ℕ) (c : Context) (k : Kind) (m : ℕ) → initial_in (moved_context n c) k m ≡ initial_in c k m
initial_moved n c kind.Values m = value_package_moved n c
initial_moved n c kind.TypedValues m = typed_initial_moved n c m
initial_moved n c k m = refl

constant_moved : (n : ℕ) (c : Context) (k : Kind) → contexts.constant_in (moved_context n c) k ≡ contexts.constant_in c k
constant_moved n c (kind.Declaration s) = refl
constant_moved n c k = refl

breaks_moved : (n : ℕ) (c : Context) (k : Kind) → contexts.breaks_in (moved_context n c) k ≡ contexts.breaks_in c k
breaks_moved n c kind.For = refl
breaks_moved n c kind.Switch = refl
breaks_moved n c k = refl

continues_moved : (n : ℕ) (c : Context) (k : Kind) → contexts.continues_in (moved_context n c) k ≡ contexts.continues_in c k
continues_moved n c kind.For = refl
continues_moved n c k = refl

falls_moved : (n : ℕ) (c : Context) (k : Kind) (b : Bool) → contexts.falls_in (moved_context n c) k b ≡ contexts.falls_in c k b
falls_moved n c kind.Case b = refl
falls_moved n c kind.Default b = refl
falls_moved n c k b = refl

-- ---- contexts

-- with other values in the places that have numbers of tokens or follow from them
abbrev with_tokens : Context → Block → ℕ → Role → Site → Option ℕ → Option ℕ → Option ℕ → Option Scope → Context
with_tokens c b e r s specification source group parameters = record c { block = b; end = e; role = r; site = s; specification = specification; source = source; group = group; parameters = parameters }

abbrev with_tests : Context → Bool → Bool → Bool → Bool → Bool → Context
with_tests c constant initial breaks continues falls = record c { constant = constant; initial = initial; breaks = breaks; continues = continues; falls = falls }

same_tokens : (c : Context) (b b' : Block) (e e' : ℕ) (r r' : Role) (s s' : Site) (p p' q q' g g' : Option ℕ) (o o' : Option Scope) → b ≡ b' → e ≡ e' → r ≡ r' → s ≡ s' → p ≡ p' → q ≡ q' → g ≡ g' → o ≡ o' → with_tokens c b e r s p q g o ≡ with_tokens c b' e' r' s' p' q' g' o'
same_tokens c b b' e e' r r' s s' p p' q q' g g' o o' hb he hr hs hp hq hg ho =
    ap (λ x. with_tokens c x e r s p q g o) hb
    ∙ ap (λ x. with_tokens c b' x r s p q g o) he
    ∙ ap (λ x. with_tokens c b' e' x s p q g o) hr
    ∙ ap (λ x. with_tokens c b' e' r' x p q g o) hs
    ∙ ap (λ x. with_tokens c b' e' r' s' x q g o) hp
    ∙ ap (λ x. with_tokens c b' e' r' s' p' x g o) hq
    ∙ ap (λ x. with_tokens c b' e' r' s' p' q' x o) hg
    ∙ ap (λ x. with_tokens c b' e' r' s' p' q' g' x) ho

same_tests : (c : Context) (a a' b b' d d' e e' f f' : Bool) → a ≡ a' → b ≡ b' → d ≡ d' → e ≡ e' → f ≡ f' → with_tests c a b d e f ≡ with_tests c a' b' d' e' f'
same_tests c a a' b b' d d' e e' f f' ha hb hd he hf =
    ap (λ x. with_tests c x b d e f) ha
    ∙ ap (λ x. with_tests c a' x d e f) hb
    ∙ ap (λ x. with_tests c a' b' x e f) hd
    ∙ ap (λ x. with_tests c a' b' d' x f) he
    ∙ ap (λ x. with_tests c a' b' d' e' x) hf

enter_moved : (n : ℕ) (c : Context) (k : Kind) (i j : ℕ) (ps : Trees) (named : Bool) (m : ℕ) (p : Tree) (b : Bool) → enter (moved_context n c) k (n + i) (n + j) (all_moved n ps) named m (moved n p) b ≡ moved_context n (enter c k i j ps named m p b)
enter_moved n c k i j ps named m p b =
    same_tokens (enter (moved_context n c) k (n + i) (n + j) (all_moved n ps) named m (moved n p) b)
    _ _ _ _ _ _ _ _ _ _ _ _ _ _ _ _
    (block_moved n c k i) (end_moved n c k j) (role_moved n c k i j named m p) (site_moved n c k i ps m p)
    (specification_moved n c k i) (source_at_moved n c p) (group_moved n c k i) (parameters_moved n c k j ps m p)
    ∙ same_tests (moved_context n (enter c k i j ps named m p b))
    _ _ _ _ _ _ _ _ _ _
    (constant_moved n c k) (initial_moved n c k m) (breaks_moved n c k) (continues_moved n c k) (falls_moved n c k b)

begin_moved : (n : ℕ) (c : Context) (k : Kind) → begin (moved_context n c) k ≡ moved_context n (begin c k)
begin_moved n c k = ap (λ s. record (moved_context n c) { source = s }) (source_in_moved n c k)

pass_moved : (n : ℕ) (c : Context) (p : Tree) → pass (moved_context n c) (moved n p) ≡ moved_context n (pass c p)
pass_moved n c p = ap (λ s. record (moved_context n c) { source = s }) (source_at_moved n c p)

-- ---- what a node tells by itself

name_told : (n : ℕ) (c : Context) (i : ℕ) (r : Role) → c.role ≡ r → name_events (moved_context n c) (n + i) (moved_role n r) ≡ map (moved_event n) (name_events c i r)
name_told n c i (role.New d) e = refl
name_told n c i (role.Field g) e = refl
name_told n c i (role.Key g) e = refl
name_told n c i (role.Parameter g None) e = refl
name_told n c i (role.Parameter g (Some s)) e = refl
name_told n c i role.Operand e = refl
name_told n c i role.Assigned e = refl
name_told n c i role.Called e = refl
name_told n c i (role.Selected j b) e = refl

function_told : (n i j : ℕ) (b : Bool) → function_events (n + i) (n + j) b ≡ map (moved_event n) (function_events i j b)
function_told n i j true = ap (λ x. event.Declaration (record { name = x; entity = entity.Function; manner = manner.Declared; block = block.Package; scope = record { from = n + i; to = n + j }; statement = n + i; source = Some (n + i); column = 0 }) ∷ []) (behind_moved n i)
function_told n i j false = ap (λ x. event.Declaration (record { name = x; entity = entity.Function; manner = manner.Declared; block = block.Package; scope = record { from = n + i; to = n + j }; statement = n + i; source = Some (n + i); column = 0 }) ∷ event.Bodiless (n + i) (n + j) ∷ []) (behind_moved n i)

if_told : (n : ℕ) (b : Bool) (es : List Event) → (if b then map (moved_event n) es else []) ≡ map (moved_event n) (if b then es else [])
if_told n true es = refl
if_told n false es = refl

declaration_told : (n i j : ℕ) (ps : Trees) → declaration_events (n + i) (n + j) (all_moved n ps) ≡ map (moved_event n) (declaration_events i j ps)
declaration_told n i j ps =
    ap (λ b. if b then function_events (n + i) (n + j) (is_there (part_at (all_moved n ps) 1)) else []) (less_moved n i j)
    ∙ ap (λ b. if nat_lt i j then function_events (n + i) (n + j) b else []) (there_moved n ps 1)
    ∙ ap (λ es. if nat_lt i j then es else []) (function_told n i j (is_there (part_at ps 1)))
    ∙ if_told n (nat_lt i j) (function_events i j (is_there (part_at ps 1)))

misplaced_told : (n : ℕ) (b : Bool) (i j : ℕ) → misplaced b (n + i) (n + j) ≡ map (moved_event n) (misplaced b i j)
misplaced_told n true i j = refl
misplaced_told n false i j = refl

default_told : (n : ℕ) (d b : Bool) (word : ℕ) → default_events d b (n + word) ≡ map (moved_event n) (default_events d b word)
default_told n true true word = refl
default_told n true false word = refl
default_told n false b word = refl

second_told : (n : ℕ) (b : Bool) (ps : Trees) → second_defaults b (all_moved n ps) ≡ map (moved_event n) (second_defaults b ps)
second_told n b none = refl
second_told n b (skip ps) = second_told n b ps
second_told n b (more (node k i j qs) ps) =
    ap (λ es. es ++ second_defaults (b || is_default k) (all_moved n ps)) (default_told n (is_default k) b i)
    ∙ ap (λ es. map (moved_event n) (default_events (is_default k) b i) ++ es) (second_told n (b || is_default k) ps)
    ∙ sym (map-append (moved_event n) (default_events (is_default k) b i) (second_defaults (b || is_default k) ps))

own_told : (n : ℕ) (c : Context) (k : Kind) (i j : ℕ) (ps : Trees) → own_events (moved_context n c) k (n + i) (n + j) (all_moved n ps) ≡ map (moved_event n) (own_events c k i j ps)
own_told n c kind.ImportPath i j ps = refl
own_told n c kind.FunctionDeclaration i j ps = declaration_told n i j ps
own_told n c (kind.Specification sort.Type) i j ps = refl
own_told n c (kind.Specification sort.Constant) i j ps = refl
own_told n c (kind.Specification sort.Variable) i j ps = refl
own_told n c kind.DeclaredName i j ps = name_told n c i c.role refl
own_told n c kind.Name i j ps = name_told n c i c.role refl
own_told n c kind.Switch i j ps = second_told n false ps
own_told n c kind.Break i j ps = misplaced_told n c.breaks i j
own_told n c kind.Continue i j ps = misplaced_told n c.continues i j
own_told n c kind.Fallthrough i j ps = misplaced_told n c.falls i j
own_told n c k i j ps = refl

statement_told : (n : ℕ) (b : Bool) (i j : ℕ) → statement_events b (n + i) (n + j) ≡ map (moved_event n) (statement_events b i j)
statement_told n true i j = refl
statement_told n false i j = refl

both_told : (n : ℕ) (vs ws xs ys : List Event) → vs ≡ map (moved_event n) xs → ws ≡ map (moved_event n) ys → vs ++ ws ≡ map (moved_event n) (xs ++ ys)
both_told n vs ws xs ys a b = ap (λ z. z ++ ws) a ∙ ap (λ z. map (moved_event n) xs ++ z) b ∙ sym (map-append (moved_event n) xs ys)

mutual
  pub events_moved : (n : ℕ) (c : Context) (t : Tree) → events (moved_context n c) (moved n t) ≡ map (moved_event n) (events c t)
  events_moved n c (node k i j ps) =
      both_told n (statement_events c.listed (n + i) (n + j) ++ own_events (moved_context n c) k (n + i) (n + j) (all_moved n ps)) (events_of (begin (moved_context n c) k) k (n + i) (n + j) (all_moved n ps) 0 (all_moved n ps)) (statement_events c.listed i j ++ own_events c k i j ps) (events_of (begin c k) k i j ps 0 ps)
      (both_told n (statement_events c.listed (n + i) (n + j)) (own_events (moved_context n c) k (n + i) (n + j) (all_moved n ps)) (statement_events c.listed i j) (own_events c k i j ps) (statement_told n c.listed i j) (own_told n c k i j ps))
      (ap (λ x. events_of x k (n + i) (n + j) (all_moved n ps) 0 (all_moved n ps)) (begin_moved n c k) ∙ parts_moved n (begin c k) k i j ps 0 ps)

  parts_moved : (n : ℕ) (c : Context) (k : Kind) (i j : ℕ) (ps : Trees) (m : ℕ) (qs : Trees) → events_of (moved_context n c) k (n + i) (n + j) (all_moved n ps) m (all_moved n qs) ≡ map (moved_event n) (events_of c k i j ps m qs)
  parts_moved n c k i j ps m none = refl
  parts_moved n c k i j ps m (more p qs) =
      both_told n (events (enter (moved_context n c) k (n + i) (n + j) (all_moved n ps) (ends_named (all_moved n ps)) m (moved n p) (is_more (all_moved n qs))) (moved n p)) (events_of (pass (moved_context n c) (moved n p)) k (n + i) (n + j) (all_moved n ps) (suc m) (all_moved n qs)) (events (enter c k i j ps (ends_named ps) m p (is_more qs)) p) (events_of (pass c p) k i j ps (suc m) qs)
      (ap (λ b. events (enter (moved_context n c) k (n + i) (n + j) (all_moved n ps) b m (moved n p) (is_more (all_moved n qs))) (moved n p)) (ends_moved n false ps)
      ∙ ap (λ b. events (enter (moved_context n c) k (n + i) (n + j) (all_moved n ps) (ends_named ps) m (moved n p) b) (moved n p)) (more_moved n qs)
      ∙ ap (λ x. events x (moved n p)) (enter_moved n c k i j ps (ends_named ps) m p (is_more qs))
      ∙ events_moved n (enter c k i j ps (ends_named ps) m p (is_more qs)) p)
      (ap (λ x. events_of x k (n + i) (n + j) (all_moved n ps) (suc m) (all_moved n qs)) (pass_moved n c p) ∙ parts_moved n (pass c p) k i j ps (suc m) qs)
  parts_moved n c k i j ps m (skip qs) = parts_moved n c k i j ps (suc m) qs
