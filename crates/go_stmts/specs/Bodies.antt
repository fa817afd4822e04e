-- What surrounds a body where it begins, the declared types of its own, and what the walk over it leaves.
use Rattle.std.specs.Prelude.{◌≡◌, ℕ, suc, ◌+◌, ◌<◌, Bool, true, false, List, [], ◌∷◌, ◌++◌, length, replicate, Option, Some, None, Result, Ok, Err, slice_get}
use Rattle.std.specs.List.{AllByRecursion}
use Rattle.std.specs.Str.{chars}
use Rattle.go_tokens.specs.Tokens.{TokenList}
use Rattle.go_tree.specs.Units.{word}
use Rattle.go_tree.specs.Uses.{UsesView, object_of}
use Rattle.go_types.specs.Trees.{declared}
use Rattle.go_types.specs.Tables.{Table, type_of, rights_of}
use Rattle.go_typed.specs.Funcs.{FuncView}
use Rattle.go_typed.specs.Scopes.{EnvView, LocalsView, KnownLocals}
use Rattle.go_typed.specs.Trees.{Sort, SortHas}
use Rattle.go_typed.specs.Views.{seen, Known}
use Rattle.go_exprs_rules.specs.declared.fault.TypeError.{TypeError}
use Rattle.go_exprs_rules.specs.declared.fault.TypeError.TheVariants as errors
use Rattle.go_exprs_rules.specs.declared.fault.TypeFault.{TypeFault}
use Rattle.go_exprs_rules.specs.Faults.{judged, reported}
use Rattle.go_exprs_rules.specs.Settling.{Part}
use Rattle.go_exprs_rules.specs.Scopes.{Scope, in_full}
use Rattle.go_exprs_types.specs.Naming.{sort_of_object, objects_seen, referent_in}
use Rattle.go_stmts_defs.specs.Reading.{Reading}
use Rattle.go_package_defs.specs.Bodies.{local_type, count_types}
use Rattle.go_stmts_rules.specs.Seen.{locals_in}
use Rattle.go_stmts.specs.declared.state.Surroundings.{Surroundings}
use Rattle.go_stmts.specs.State.{names_in}
pub use Rattle.go_stmts.specs.Walks.{found_in, tree_in, frame_in, frame_behind}
use Rattle.go_stmts.specs.declared.body.Walked.{Walked}

-- ---- scopes

-- no local is declared
abbrev pub no_sorts : LocalsView
no_sorts = record { sorts = []; iota = 0 }

-- the scope around a body
abbrev pub scope_around : Table → Surroundings → Scope
scope_around t o = names_in t o no_sorts

-- the bytes of a token, counted from the token b on
abbrev pub text_from : TokenList → ℕ → ℕ → List ℕ
text_from ts b i = word ts (b + i)

-- The scope around a function whose first token has the number b, of whose locals some are types: these have no right sides yet.
abbrev pub function_scope : Table → TokenList → UsesView → EnvView → ℕ → List Bool → Scope
function_scope t ts uses env b bs = record {
  rights = rights_of t ++ replicate (count_types bs) None;
  iota = 0;
  texts = text_from ts b;
  characters = λ i. chars (text_from ts b i);
  objects = λ i. object_of uses ts.file (b + i);
  sorts = λ need x. sort_of_object [] (objects_seen t env.objects) [] x;
  referents = referent_in env.referents;
  needed = in_full;
  limits = true;
}

abbrev pub KnownObjects : ℕ → EnvView → Type 0
KnownObjects n e = (j : ℕ) (y : Sort ℕ) → slice_get e.objects j ≡ Some y → SortHas (λ i. i < n) y

-- ---- own types

-- the declared type that a table has more than another one, which has no right side yet
pub record IsNext (old new : Table) (i : ℕ) : Type 0 where
  pub known : i < length new.shapes
  pub is : type_of new.shapes i ≡ declared (length old.rights)
  pub count : length new.rights ≡ suc (length old.rights)
  pub rights : rights_of new ≡ rights_of old ++ None ∷ []

-- There is such a type where a local is one.
abbrev pub IsOwn : Table → Table → Bool → Option ℕ → Type 0
IsOwn old new true (Some i) = IsNext old new i
IsOwn old new false None = new ≡ old
IsOwn old new b o = ⊥

-- The numbers of the locals that are types, where the first one's declared type has the number m
abbrev pub AreOwn : Table → ℕ → List Bool → List (Option ℕ) → Type 0
AreOwn t m bs is = (n i : ℕ) → slice_get is n ≡ Some (Some i) → (i < length t.shapes) × (type_of t.shapes i ≡ declared (local_type m bs n))

-- The locals that are types are declared types of these numbers.
abbrev pub AreNumbered : Table → Surroundings → (ℕ → ℕ) → Type 0
AreNumbered t o own = (n i : ℕ) → slice_get o.types.now n ≡ Some (Some i) → type_of t.shapes i ≡ declared (own n)

-- ---- what the walk leaves

-- No rule fails, and the tree, the locals and the right sides of the table are what is read.
pub record ShowsWalked (t : Table) (w : Walked) (r : Reading) : Type 0 where
  pub sound : reported (found_in r) ≡ None
  pub tree : seen t w.root ≡ tree_in r
  pub locals : (frame_in r).locals ≡ locals_in t w.locals
  pub rights : (frame_in r).around.rights ≡ rights_of t

-- So it is, or the fault is the reported one.
abbrev pub IsWalked : Table → Result Walked TypeError → Reading → Type 0
IsWalked t (Ok w) r = ShowsWalked t w r
IsWalked t (Err errors.Memory) r = Unit {0}
IsWalked t (Err (errors.Fault f)) r = reported (found_in r) ≡ Some f

pub record KnownWalked (n : ℕ) (w : Walked) : Type 0 where
  pub root : Known n w.root
  pub locals : KnownLocals n w.locals

-- ---- functions

-- The types of a typed function are among the first n of a table.
pub record KnownFunction (n : ℕ) (f : FuncView) : Type 0 where
  pub signature : f.signature < n
  pub locals : AllByRecursion (λ x. SortHas (λ i. i < n) x) f.locals
  pub tree : Known n f.root

-- ---- variables

-- the typed tree of a specification of variables, or the fault that is reported of it
abbrev pub variables_answer : Reading → Result Part TypeFault
variables_answer r = judged (reported (found_in r)) (tree_in r)
