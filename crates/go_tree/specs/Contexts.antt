-- What the context of a node's parts is, by the node's kind.
--
-- In each definition c is the context of the node, k its kind, i its first token and j the token behind its last one, ps its
-- parts; and p is the part in question and n its number.
use Rattle.std.specs.Prelude.{ℕ, zero, suc, Bool, true, false, ◌&&◌, not, if◌then◌else◌, nat_eq, Option, Some, None}
use Rattle.go_grammar.specs.declared.kind.Kind.{Kind}
use Rattle.go_grammar.specs.declared.kind.Kind.TheVariants as kind
use Rattle.go_grammar.specs.declared.kind.Sort.{Sort}
use Rattle.go_grammar.specs.declared.kind.Sort.TheVariants as sort
use Rattle.go_grammar.specs.Trees.{Tree, Trees, kind_of, first, last, parts}
use Rattle.go_grammar.specs.Grammar.{is_name, count}
use Rattle.go_tree.specs.Views.{part_at}
use Rattle.go_tree.specs.declared.context.Entity.{Entity}
use Rattle.go_tree.specs.declared.context.Entity.TheVariants as entity
use Rattle.go_tree.specs.declared.context.Manner.TheVariants as manner
use Rattle.go_tree.specs.declared.context.Block.{Block}
use Rattle.go_tree.specs.declared.context.Block.TheVariants as block
use Rattle.go_tree.specs.declared.context.Scope.{Scope}
use Rattle.go_tree.specs.declared.context.Naming.{Naming}
use Rattle.go_tree.specs.declared.context.Role.{Role}
use Rattle.go_tree.specs.declared.context.Role.TheVariants as role
use Rattle.go_tree.specs.declared.context.Reach.TheVariants as reach
use Rattle.go_tree.specs.declared.context.Site.{Site}
use Rattle.go_tree.specs.declared.context.Site.TheVariants as site
use Rattle.go_tree.specs.declared.context.Context.{Context}

abbrev pub is_there : Option Tree → Bool
is_there None = false
is_there (Some p) = true

-- the context of a whole file
abbrev pub file_context : ℕ → Context
file_context end = record {
  block = block.Package;
  end = end;
  role = role.Operand;
  site = site.Elsewhere;
  specification = None;
  source = None;
  column = 0;
  group = None;
  parameters = None;
  constant = false;
  initial = false;
  listed = false;
  breaks = false;
  continues = false;
  followed = false;
  falls = false;
}

-- Blocks: each block, each clause, and each if, for and switch statement with its header
abbrev pub opens : Kind → Bool
opens kind.Block = true
opens kind.Case = true
opens kind.Default = true
opens kind.If = true
opens kind.Switch = true
opens kind.For = true
opens k = false

abbrev pub block_in : Context → Kind → ℕ → Block
block_in c k i = if opens k then block.Local i else c.block

abbrev pub end_in : Context → Kind → ℕ → ℕ
end_in c k j = if opens k then j else c.end

-- What constants and variables are declared as. A local one is in scope behind its specification.
abbrev pub entity_of : Sort → Entity
entity_of sort.Constant = entity.Constant
entity_of sort.Type = entity.Type
entity_of sort.Variable = entity.Variable

abbrev pub specified : Context → Sort → ℕ → ℕ → Naming
specified c s i j = record { entity = entity_of s; manner = manner.Declared; scope = record { from = j; to = c.end }; statement = i; source = c.source }

-- What the names before `:=` are declared as: variables, in scope behind the statement
abbrev pub defined : Context → ℕ → ℕ → Naming
defined c i j = record { entity = entity.Variable; manner = manner.Defined; scope = record { from = j; to = c.end }; statement = i; source = None }

-- and behind the operand of a `range`
abbrev pub ranged : Context → ℕ → ℕ → Naming
ranged c i j = record { entity = entity.Variable; manner = manner.Ranged; scope = record { from = j; to = c.end }; statement = i; source = None }

abbrev pub is_called : Role → Bool
is_called role.Called = true
is_called r = false

-- what parentheses hand on: the callee of a call may stand in some
abbrev pub called_in : Role → Role
called_in role.Called = role.Called
called_in r = role.Operand

abbrev pub if_name : Tree → Role → Role
if_name p r = if is_name (kind_of p) then r else role.Operand

abbrev pub if_first : ℕ → Role → Role
if_first zero r = r
if_first (suc n) r = role.Operand

-- A name is a field, a key or a parameter in a group alone.
abbrev pub field_role : Option ℕ → Role
field_role None = role.Operand
field_role (Some group) = role.Field group

abbrev pub key_role : Option ℕ → Role
key_role None = role.Operand
key_role (Some group) = role.Key group

abbrev pub parameter_role : Option ℕ → Option Scope → Role
parameter_role None scope = role.Operand
parameter_role (Some group) scope = role.Parameter group scope

-- A name that is an entry of the parameters is a parameter where these have names, and a type where they have none.
abbrev pub entry_role : Bool → Tree → ℕ → Option Scope → Role
entry_role named p group scope = if named then if_name p (role.Parameter group scope) else role.Operand

-- What a name is for, if the part is one; `named` says whether the parts end with a parameter that has a name.
abbrev pub role_in : Context → Kind → ℕ → ℕ → Bool → ℕ → Tree → Role
role_in c (kind.Specification sort.Constant) i j named n p = if_first n (role.New (specified c sort.Constant i j))
role_in c (kind.Specification sort.Variable) i j named n p = if_first n (role.New (specified c sort.Variable i j))
role_in c kind.Define i j named n p = if_first n (role.New (defined c i j))
role_in c kind.DefiningRange i j named n p = if_first n (role.New (ranged c i j))
role_in c kind.NameList i j named n p = c.role
role_in c kind.NewNames i j named n p = c.role
role_in c kind.Targets i j named n p = role.Assigned
role_in c kind.ExpressionList i j named n p = if_name p c.role
role_in c kind.Call i j named n p = if_first n role.Called
role_in c kind.Parenthesized i j named n p = called_in c.role
role_in c kind.Selector i j named n p = if_name p (role.Selected j (is_called c.role))
role_in c kind.Fields i j named n p = if_first n (field_role c.group)
role_in c kind.Keyed i j named n p = if_first n (key_role c.group)
role_in c kind.Parameters i j named n p = entry_role named p i c.parameters
role_in c kind.Parameter i j named n p = if_first n (parameter_role c.group c.parameters)
role_in c k i j named n p = role.Operand

-- Declared names of slice elements and function types don't count in some cases; those of an array's length always do.
abbrev pub element_site : Bool → Site → Site
element_site true s = s
element_site false (site.Right d reach.Direct) = site.Right d reach.Indirect
element_site false s = s

abbrev pub length_site : Site → Site
length_site (site.Right d r) = site.Right d reach.Length
length_site s = s

abbrev pub column_site : ℕ → Site → Site
column_site n (site.Value d m alone) = site.Value d n alone
column_site n s = s

-- values of a specification
abbrev pub value_site : Option ℕ → Bool → Site
value_site None alone = site.Elsewhere
value_site (Some s) alone = site.Value s 0 alone

abbrev pub values_site : Context → Tree → Site
values_site c p = value_site c.specification (nat_eq (count (parts p)) 1)

abbrev pub sequence_site : Context → Trees → ℕ → Site
sequence_site c ps zero = length_site c.site
sequence_site c ps (suc n) = element_site (is_there (part_at ps 0)) c.site

-- a type, and the values behind it
abbrev pub typed_site : Context → ℕ → Tree → Site
typed_site c zero p = c.site
typed_site c (suc n) p = values_site c p

-- a function's signature, and the body behind it
abbrev pub function_site : ℕ → ℕ → Site
function_site i zero = site.Type i
function_site i (suc n) = site.Elsewhere

-- The part of a declaration.
abbrev pub site_in : Context → Kind → ℕ → Trees → ℕ → Tree → Site
site_in c (kind.Specification sort.Type) i ps n p = site.Right i reach.Direct
site_in c (kind.Specification s) i ps n p = site.Type i
site_in c kind.Values i ps n p = values_site c p
site_in c kind.TypedValues i ps n p = typed_site c n p
site_in c kind.ExpressionList i ps n p = column_site n c.site
site_in c kind.FunctionDeclaration i ps n p = function_site i n
site_in c kind.SequenceType i ps n p = sequence_site c ps n
site_in c kind.FunctionType i ps n p = element_site false c.site
site_in c k i ps n p = c.site

abbrev pub specification_in : Context → Kind → ℕ → Option ℕ
specification_in c (kind.Specification s) i = Some i
specification_in c k i = c.specification

abbrev pub has_values : Sort → Trees → Bool
has_values sort.Constant ps = is_there (part_at ps 1)
has_values s ps = true

abbrev pub own_source : Option ℕ → Sort → ℕ → Trees → Option ℕ
own_source source s i ps = if has_values s ps then Some i else source

abbrev pub source_of : Option ℕ → Kind → ℕ → Trees → Option ℕ
source_of source (kind.Specification s) i ps = own_source source s i ps
source_of source k i ps = source

-- The specification whose values a constant has, at the part and behind it
abbrev pub source_at : Context → Tree → Option ℕ
source_at c p = source_of c.source (kind_of p) (first p) (parts p)

-- and in front of a declaration's parts, where there is none
abbrev pub source_in : Context → Kind → Option ℕ
source_in c (kind.Declaration s) = None
source_in c k = c.source

abbrev pub group_in : Context → Kind → ℕ → Option ℕ
group_in c kind.StructType i = Some i
group_in c kind.Composite i = Some i
group_in c kind.LiteralValue i = Some i
group_in c kind.Parameters i = Some i
group_in c k i = c.group

abbrev pub body_scope : Bool → ℕ → ℕ → Option Scope
body_scope true from to = Some (record { from = from; to = to })
body_scope false from to = None

-- The parameters of a function with a body are in scope in that body.
abbrev pub function_parameters : Context → ℕ → Trees → ℕ → Tree → Option Scope
function_parameters c j ps zero p = body_scope (is_there (part_at ps 1)) (last p) j
function_parameters c j ps (suc n) p = c.parameters

abbrev pub parameters_in : Context → Kind → ℕ → Trees → ℕ → Tree → Option Scope
parameters_in c kind.FunctionDeclaration j ps n p = function_parameters c j ps n p
parameters_in c kind.FunctionType j ps n p = None
parameters_in c k j ps n p = c.parameters

abbrev pub is_constant : Sort → Bool
is_constant sort.Constant = true
is_constant s = false

abbrev pub constant_in : Context → Kind → Bool
constant_in c (kind.Declaration s) = is_constant s
constant_in c k = c.constant

abbrev pub is_package : Block → Bool
is_package block.Package = true
is_package (block.Local i) = false

-- whether values here are those of a package's variable
abbrev pub package_value : Context → Bool
package_value c = is_package c.block && not c.constant

abbrev pub typed_initial : Context → ℕ → Bool
typed_initial c zero = false
typed_initial c (suc n) = package_value c

abbrev pub initial_in : Context → Kind → ℕ → Bool
initial_in c kind.Values n = package_value c
initial_in c kind.TypedValues n = typed_initial c n
initial_in c k n = c.initial

abbrev pub is_behind_first : ℕ → Bool
is_behind_first zero = false
is_behind_first (suc n) = true

-- Statement lists: of blocks and of clauses
abbrev pub listed_in : Kind → ℕ → Bool
listed_in kind.Block n = true
listed_in kind.Case n = is_behind_first n
listed_in kind.Default n = true
listed_in k n = false

-- Break statements, Continue statements
abbrev pub breaks_in : Context → Kind → Bool
breaks_in c kind.For = true
breaks_in c kind.Switch = true
breaks_in c k = c.breaks

abbrev pub continues_in : Context → Kind → Bool
continues_in c kind.For = true
continues_in c k = c.continues

-- Fallthrough statements; the argument b says whether another part stands behind this one
abbrev pub followed_in : Kind → Bool → Bool
followed_in kind.Switch b = b
followed_in k b = false

abbrev pub falls_in : Context → Kind → Bool → Bool
falls_in c kind.Case b = c.followed && not b
falls_in c kind.Default b = c.followed && not b
falls_in c k b = false

-- The context of a part.
abbrev pub enter : Context → Kind → ℕ → ℕ → Trees → Bool → ℕ → Tree → Bool → Context
enter c k i j ps named n p b = record {
  block = block_in c k i;
  end = end_in c k j;
  role = role_in c k i j named n p;
  site = site_in c k i ps n p;
  specification = specification_in c k i;
  source = source_at c p;
  column = n;
  group = group_in c k i;
  parameters = parameters_in c k j ps n p;
  constant = constant_in c k;
  initial = initial_in c k n;
  listed = listed_in k n;
  breaks = breaks_in c k;
  continues = continues_in c k;
  followed = followed_in k b;
  falls = falls_in c k b;
}
