-- Expressions of a file, with their faults by bytes.
use Rattle.std.specs.Prelude.{◌≡◌, ℕ, ◌<◌, true, [], Option, Some, None, Result, Ok, Err, slice_get}
use Rattle.std.specs.Str.{chars}
use Rattle.go_tokens.specs.Tokens.{TokenList}
use Rattle.go_tree.specs.Failures.{Failure}
use Rattle.go_tree.specs.Units.{word, bytes_of}
use Rattle.go_tree.specs.Uses.{UsesView, object_of}
use Rattle.go_types.specs.Tables.{Table, rights_of}
use Rattle.go_typed.specs.Scopes.{EnvView, LocalsView}
use Rattle.go_typed.specs.Trees.{Sort, SortHas}
use Rattle.go_exprs_rules.specs.declared.fault.TypeFault.{TypeFault}
use Rattle.go_exprs_rules.specs.Scopes.{Scope, in_full}
use Rattle.go_exprs_types.specs.Naming.{sort_of_object, objects_seen, locals_seen, referent_in}
use Rattle.go_scopes.specs.Views.{failure_of}
use Rattle.go_exprs.specs.declared.error.TypeError.{TypeError}
use Rattle.go_exprs.specs.declared.error.TypeError.TheVariants as error

-- what the names of an expression mean: by the tokens of its file, and what they, the objects and the locals stand for
abbrev pub scope_of : Table → TokenList → UsesView → EnvView → LocalsView → Scope
scope_of t ts uses env locals = record {
  rights = rights_of t;
  iota = locals.iota;
  texts = word ts;
  characters = λ i. chars (word ts i);
  objects = object_of uses ts.file;
  sorts = λ need o. sort_of_object [] (objects_seen t env.objects) (locals_seen t locals.sorts) o;
  referents = referent_in env.referents;
  needed = in_full;
  limits = true;
}

-- The types that the names stand for are among the first n of a table.
pub record KnownNames (n : ℕ) (e : EnvView) (l : LocalsView) : Type 0 where
  pub objects : (k : ℕ) (x : Sort ℕ) → slice_get e.objects k ≡ Some x → SortHas (λ t. t < n) x
  pub locals : (k : ℕ) (x : Sort ℕ) → slice_get l.sorts k ≡ Some (Some x) → SortHas (λ t. t < n) x

-- a fault by the bytes of its tokens
abbrev pub failure_at : TokenList → TypeFault → Failure
failure_at ts f = record { code = f.code; place = bytes_of ts.file ts f.first f.last }

abbrev pub with_bytes : {A : Type 0} → TokenList → Result A TypeFault → Result A Failure
with_bytes ts (Ok x) = Ok x
with_bytes ts (Err f) = Err (failure_at ts f)

-- the fault that an error names
abbrev pub failure_named : TypeError → Option Failure
failure_named (error.Fault f) = Some (failure_of f)
failure_named error.Memory = None
