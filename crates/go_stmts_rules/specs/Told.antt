-- What is known around a statement, as the program holds it.
use Rattle.std.specs.Prelude.{◌≡◌, ℕ, ◌<◌, [], List}
use Rattle.std.specs.List.{AllByRecursion}
use Rattle.go_grammar.specs.declared.kind.Kind.{Kind}
use Rattle.go_grammar.specs.declared.kind.Kind.TheVariants as kind
use Rattle.go_grammar.specs.declared.kind.Sort.TheVariants as declaring
use Rattle.go_types.specs.Tables.{Table, rights_of}
use Rattle.go_typed.specs.declared.form.Form.{Form}
use Rattle.go_typed.specs.Views.{sort_seen, KnownSort}
use Rattle.go_typed.specs.Scopes.{KnownLocals}
use Rattle.go_exprs_rules.specs.declared.fault.TypeFault.{TypeFault}
use Rattle.go_exprs_rules.specs.Tables.{Parts}
use Rattle.go_stmts_defs.specs.Frames.{Frame}
use Rattle.go_stmts_defs.specs.Rules.{failing}
use Rattle.go_stmts_rules.specs.declared.around.Around as program
use Rattle.go_stmts_rules.specs.Seen.{locals_in, types_seen}

-- the frame says the same as the program
pub record Agrees (t : Table) (a : program.Around) (s : Frame) : Type 0 where
  pub rights : s.around.rights ≡ rights_of t
  pub locals : s.locals ≡ locals_in t a.locals.now
  pub tag : s.tag ≡ sort_seen t a.tag.now
  pub results : s.results ≡ types_seen t a.results.now

-- the types are among the first n of a table
pub record KnownAround (n : ℕ) (a : program.Around) : Type 0 where
  pub locals : KnownLocals n a.locals.now
  pub tag : KnownSort n a.tag.now
  pub results : AllByRecursion (λ t. t < n) a.results.now

-- the rules of statements that fail, but for those of a type's right side
abbrev pub statement_failing : Frame → Kind → Form → ℕ → ℕ → Parts → List TypeFault
statement_failing s (kind.Specification declaring.Type) f i j ys = []
statement_failing s k f i j ys = failing s k f i j ys
