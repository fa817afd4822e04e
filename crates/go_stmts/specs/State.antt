-- What the program knows between two statements of a body, and the frames of the definition that show it.
use Rattle.std.specs.Prelude.{◌≡◌, ℕ, ◌+◌, ◌<◌, true, List, [], Option, Some, IfSome, length, slice_get}
use Rattle.std.specs.List.{AllByRecursion}
use Rattle.std.specs.Option.{option_map}
use Rattle.std.specs.Str.{chars}
use Rattle.go_tree.specs.declared.object.Object.{Object}
use Rattle.go_tree.specs.Units.{word}
use Rattle.go_tree.specs.Uses.{object_of}
use Rattle.go_tree.specs.Views.{view}
use Rattle.go_types.specs.Trees.{declared}
use Rattle.go_types.specs.Tables.{Table, type_of, rights_of}
use Rattle.go_typed.specs.declared.sort.Sort as program
use Rattle.go_typed.specs.Scopes.{LocalsView, KnownLocals}
use Rattle.go_typed.specs.Trees.{Sort, SortHas}
use Rattle.go_typed.specs.Views.{sort_seen, KnownSort}
use Rattle.go_exprs_rules.specs.Scopes.{Scope, Needed, in_full}
use Rattle.go_exprs_rules.specs.Seen.{AreBasics}
use Rattle.go_exprs_rules.specs.Sorts.{Stands}
use Rattle.go_exprs_types.specs.Naming.{sort_of_object, objects_seen, locals_seen, referent_in}
use Rattle.go_exprs_engine.specs.Literals.{AllRead}
use Rattle.go_stmts_defs.specs.Frames.{Frame, scope_of}
use Rattle.go_stmts_rules.specs.Seen.{locals_in, types_seen}
use Rattle.go_stmts.specs.declared.state.Surroundings.{Surroundings}
use Rattle.go_stmts.specs.declared.state.State.{State}

-- ---- what names mean

-- the bytes of a token, and what it means
abbrev pub text_of : Surroundings → ℕ → List ℕ
text_of o i = word o.tokens.now (o.base + i)

abbrev pub object_at : Surroundings → ℕ → Option Object
object_at o i = object_of o.uses.now o.tokens.now.file (o.base + i)

abbrev pub stands_in : Table → Surroundings → LocalsView → Needed → Object → Stands
stands_in t o ls need x = sort_of_object [] (objects_seen t o.env.now.objects) (locals_seen t ls.sorts) x

-- the scope of an expression in a table of types
abbrev pub names_in : Table → Surroundings → LocalsView → Scope
names_in t o ls = record {
  rights = rights_of t;
  iota = ls.iota;
  texts = text_of o;
  characters = λ i. chars (text_of o i);
  objects = object_at o;
  sorts = stands_in t o ls;
  referents = referent_in o.env.now.referents;
  needed = in_full;
  limits = true;
}

-- ---- frames

-- The frame says the same as the program, where the innermost tag is x and the results of the function are rs.
pub record Shows (t : Table) (o : Surroundings) (k : State) (x : program.Sort) (rs : List ℕ) (s : Frame) : Type 0 where
  pub names : scope_of s ≡ names_in t o k.locals
  pub locals : s.locals ≡ locals_in t k.locals
  pub source : s.source ≡ option_map (λ n. view n.now) k.source
  pub tag : s.tag ≡ sort_seen t x
  pub results : s.results ≡ types_seen t rs
  -- the locals that are types
  pub types : (n i : ℕ) → slice_get o.types.now n ≡ Some (Some i) → type_of t.shapes i ≡ declared (s.types n)

-- What surrounds the body is of the table, and so are its own declared types.
pub record KnownSurroundings (t : Table) (o : Surroundings) : Type 0 where
  pub basics : AreBasics t o.basics
  pub objects : (j : ℕ) (y : Sort ℕ) → slice_get o.env.now.objects j ≡ Some y → SortHas (λ n. n < length t.shapes) y
  pub types : (n i : ℕ) → slice_get o.types.now n ≡ Some (Some i) → i < length t.shapes

-- The types are of the table, and the literals of what is repeated can be read.
pub record KnownState (t : Table) (o : Surroundings) (k : State) (x : program.Sort) (rs : List ℕ) : Type 0 where
  pub around : KnownSurroundings t o
  pub locals : KnownLocals (length t.shapes) k.locals
  pub source : IfSome k.source (λ n. AllRead (text_of o) (view n.now))
  pub tag : KnownSort (length t.shapes) x
  pub results : AllByRecursion (λ n. n < length t.shapes) rs
