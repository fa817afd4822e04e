-- What the context of an expression gives it, and what it refuses.
--
-- An expression is typed by itself, and what of it is untyped then takes the type that its context wants, or else its default type.
-- A value that its context refuses is judged last, as a rule of the node that gives the context.
use Rattle.std.specs.Prelude.{ℕ, ◌<◌, if◌then◌else◌, List, [], ◌∷◌, ◌++◌, None, Result}
use Rattle.go_base.specs.declared.fault.FaultCode.TheVariants as code
use Rattle.go_grammar.specs.Trees.{Tree}
use Rattle.go_types.specs.Trees.{TypeTree}
use Rattle.go_types.specs.Tables.{Table, type_of}
use Rattle.go_types.specs.Relations.{Rights}
use Rattle.go_typed.specs.Trees.{sort_of}
use Rattle.go_exprs_rules.specs.declared.fault.TypeFault.{TypeFault}
use Rattle.go_exprs_rules.specs.Faults.{judged, reported}
use Rattle.go_exprs_rules.specs.Sorts.{is_whole, int, uint}
use Rattle.go_exprs_rules.specs.Settling.{Part, Take, default, as_type, given, at_part, unrepresented, undefaulted, unassignable}
use Rattle.go_exprs_rules.specs.Operators.{is_count}
use Rattle.go_exprs_rules.specs.Indexes.{bound_failing}
use Rattle.go_exprs_rules.specs.Scopes.{Scope, value}
use Rattle.go_exprs_rules.specs.Typing.{typing, faults}
use Rattle.go_exprs.specs.declared.context.Context as program
use Rattle.go_exprs.specs.declared.context.Context.TheVariants as context

-- a value of which nothing is wanted; one that is given to a variable of a type; an index or a length of `make`; a shift's count
pub data Context : Type 0 where
  none : Context
  wanted : TypeTree → Context
  index : Context
  count : Context

-- what an untyped value takes: an index or a length is an `int`, a count a `uint`
abbrev pub taken : Context → Take
taken none = default
taken (wanted t) = as_type t
taken index = as_type int
taken count = as_type uint

-- the rules of the context that fail at a value
abbrev pub refusing : Rights → Context → Part → List TypeFault
refusing rights none x = undefaulted rights x
refusing rights (wanted t) x = unassignable rights t x
refusing rights index x = if is_whole rights (sort_of x) then bound_failing rights None x else at_part code.Operands x
refusing rights count x = if is_count rights (sort_of x) then unrepresented rights uint x else at_part code.Operands x

-- the typed tree, with final types
abbrev pub typed_in : Scope → Context → Tree → Part
typed_in s c t = given (taken c) (typing s value t)

-- for each node, in post-order, its rules that fail, and behind them those of the context
abbrev pub faults_in : Scope → Context → Tree → List (List TypeFault)
faults_in s c t = faults s value t ++ refusing s.rights c (typing s value t) ∷ []

-- the typed tree of an expression in its context; or, of the first node in post-order with a rule that fails, the least fault
abbrev pub answer_in : Scope → Context → Tree → Result Part TypeFault
answer_in s c t = judged (reported (faults_in s c t)) (typed_in s c t)

-- ---- in a table of types

abbrev pub context_seen : Table → program.Context → Context
context_seen t context.None = none
context_seen t (context.Wanted i) = wanted (type_of t.shapes i)
context_seen t context.Index = index
context_seen t context.Count = count

abbrev pub KnownContext : ℕ → program.Context → Type 0
KnownContext n (context.Wanted i) = i < n
KnownContext n c = Unit {0}
