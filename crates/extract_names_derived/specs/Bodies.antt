-- A derived function whose body has two lists of statements, one behind the other.
use Rattle.std.specs.Prelude.{◌≡◌, ℕ, ◌<◌, true, false, List, ◌++◌, None}
use Rattle.go_grammar.specs.declared.kind.Kind.TheVariants as kind
use Rattle.go_grammar.specs.Grammar.{ends_named}
use Rattle.go_grammar.specs.Trees.{Tree, node, Trees, none, more, onto}
use Rattle.go_tree.specs.declared.context.Block.TheVariants as block
use Rattle.go_tree.specs.declared.context.Context.{Context}
use Rattle.go_tree.specs.declared.context.Role.TheVariants as role
use Rattle.go_tree.specs.declared.context.Site.TheVariants as site
use Rattle.go_tree.specs.declared.event.Event.{Event}
use Rattle.go_tree.specs.declared.event.Event.TheVariants as event
use Rattle.go_tree.specs.Contexts.{file_context, enter}
use Rattle.go_tree.specs.Events.{declaration_events, events}
use Rattle.go_heads.specs.Bodies.{function_events}
use Rattle.go_heads.specs.Functions.{Alone}
use Rattle.go_scopes_bodies.specs.Listed.{told_list}
use Rattle.extract_names.specs.Sites.{EachEvent}

-- A name stands in front of the token, in no value of a package's variable.
abbrev pub NamedBefore : ℕ → Event → Type 0
NamedBefore k (event.Declaration d) = d.name < k
NamedBefore k (event.Use u) = (u.name < k) × (u.initial ≡ false)
NamedBefore k (event.Member m g x) = g < k
NamedBefore k e = Unit {0}

-- the parts of a function, by its signature and its body
abbrev pub function_row : Tree → ℕ → ℕ → Trees → Trees → Trees
function_row s k e xs ys = more s (more (node kind.Block k e (onto xs ys)) none)

-- What the function tells is what its name and its signature tell, in front of the body; and behind that what the first statements tell and
-- what the others tell, in the list of the body, which has the tokens from k up to e.
pub record BodySplits (a : Alone) (k e : ℕ) (xs ys : Trees) : Type 0 where
  pub first_token : ℕ
  pub last_token : ℕ
  pub signature : Tree
  pub tree : a.tree ≡ node kind.FunctionDeclaration first_token last_token (function_row signature k e xs ys)
  pub head : List Event
  pub head_told : head ≡ declaration_events first_token last_token (function_row signature k e xs ys)
      ++ events (enter (file_context 0) kind.FunctionDeclaration first_token last_token (function_row signature k e xs ys) (ends_named (function_row signature k e xs ys)) 0 signature true) signature
  pub context : Context
  pub told : function_events a ≡ head ++ (told_list context false xs ++ told_list context false ys)
  pub before : EachEvent (NamedBefore k) head
  pub block : context.block ≡ block.Local k
  pub end : context.end ≡ e
  pub role : context.role ≡ role.Operand
  pub site : context.site ≡ site.Elsewhere
  pub specification : context.specification ≡ None
  pub source : context.source ≡ None
  pub group : context.group ≡ None
  pub parameters : context.parameters ≡ None
  pub constant : context.constant ≡ false
  pub initial : context.initial ≡ false
  pub breaks : context.breaks ≡ false
  pub continues : context.continues ≡ false
  pub column : context.column ≡ 0
  pub listed : context.listed ≡ true
  pub last : context.followed ≡ false
  pub falls : context.falls ≡ false
