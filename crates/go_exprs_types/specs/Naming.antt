-- What the names of an expression mean, by what the program holds of the file, the package and the function around it.
use Rattle.std.specs.Prelude.{◌≡◌, ℕ, ◌+◌, ◌<◌, List, Option, Some, None, map, slice_get, unwrap_or}
use Rattle.std.specs.Option.{option_map}
use Rattle.std.specs.Str.{chars}
use Rattle.go_tree.specs.declared.object.Object.{Object}
use Rattle.go_tree.specs.declared.object.Object.TheVariants as object
use Rattle.go_tree.specs.Units.{word}
use Rattle.go_tree.specs.Uses.{object_of}
use Rattle.go_types.specs.Tables.{Table, type_of, rights_of}
use Rattle.go_typed.specs.declared.form.Referent.{Referent}
use Rattle.go_typed.specs.declared.form.Referent.TheVariants as referent
use Rattle.go_typed.specs.Trees as sort
use Rattle.go_typed.specs.Trees.{Sort, SortHas, sort_mapped}
use Rattle.go_exprs_rules.specs.Sorts.{Stands, known}
use Rattle.go_typed.specs.Views.{sort_seen, KnownSort}
use Rattle.go_exprs_rules.specs.Scopes.{Scope, in_full, at_once, loosely}
use Rattle.go_exprs_rules.specs.Scopes as scopes
use Rattle.go_exprs_types.specs.declared.scope.Scope as program
use Rattle.go_exprs_types.specs.declared.standing.Needed as needs
use Rattle.go_exprs_types.specs.declared.standing.Needed.TheVariants as need
use Rattle.go_exprs_types.specs.declared.standing.Standing.{Standing}

abbrev pub known_local : Option (Option Stands) → Stands
known_local (Some (Some x)) = x
known_local o = sort.Unknown

-- what is told of an object, or else what its package says
abbrev pub told_or : Option Stands → Option Stands → Stands
told_or (Some x) o = x
told_or None o = known o

-- What an object that is declared stands for, among the objects that are told, those of the package and the locals typed so far
abbrev pub sort_of_object : List Stands → List Stands → List (Option Stands) → Object → Stands
sort_of_object told objects locals (object.Package n) = told_or (slice_get told n) (slice_get objects n)
sort_of_object told objects locals (object.Local f n) = known_local (slice_get locals n)
sort_of_object told objects locals o = sort.Unknown

-- ---- by the way in which an object is needed

abbrev pub need_seen : needs.Needed → scopes.Needed
need_seen need.InFull = in_full
need_seen need.AtOnce = at_once
need_seen need.Loosely = loosely

abbrev pub by_need : {A : Type 0} → A → A → A → scopes.Needed → A
by_need x y z in_full = x
by_need x y z at_once = y
by_need x y z loosely = z

abbrev pub told_in_full : Table → List Standing → List Stands
told_in_full t xs = map (λ x. sort_seen t x.in_full) xs

abbrev pub told_at_once : Table → List Standing → List Stands
told_at_once t xs = map (λ x. sort_seen t x.at_once) xs

abbrev pub told_loosely : Table → List Standing → List Stands
told_loosely t xs = map (λ x. sort_seen t x.loosely) xs

-- what is told of the objects, where they are needed so
abbrev pub told_seen : Table → List Standing → scopes.Needed → List Stands
told_seen t xs need = by_need (told_in_full t xs) (told_at_once t xs) (told_loosely t xs) need

pub record KnownStanding (n : ℕ) (x : Standing) : Type 0 where
  pub in_full : KnownSort n x.in_full
  pub at_once : KnownSort n x.at_once
  pub loosely : KnownSort n x.loosely

-- the sorts with the types of a table
abbrev pub objects_seen : Table → List (Sort ℕ) → List Stands
objects_seen t xs = map (sort_mapped (type_of t.shapes)) xs

abbrev pub locals_seen : Table → List (Option (Sort ℕ)) → List (Option Stands)
locals_seen t xs = map (option_map (sort_mapped (type_of t.shapes))) xs

abbrev pub referent_in : List Referent → ℕ → Referent
referent_in rs n = unwrap_or (slice_get rs n) referent.Println

-- what an object that is declared stands for in a scope, where it is needed so
abbrev pub stands_for : Table → program.Scope → scopes.Needed → Object → Stands
stands_for t s need o = sort_of_object (told_seen t s.told.now need) (objects_seen t s.env.now.objects) (locals_seen t s.locals.now.sorts) o

-- the bytes of a token, and what it means
abbrev pub text_in : program.Scope → ℕ → List ℕ
text_in s i = word s.tokens.now (s.base + i)

abbrev pub object_in : program.Scope → ℕ → Option Object
object_in s i = object_of s.uses.now s.tokens.now.file (s.base + i)

-- the scope of an expression in a table of types
abbrev pub names : Table → program.Scope → Scope
names t s = record {
  rights = rights_of t;
  iota = s.locals.now.iota;
  texts = text_in s;
  characters = λ i. chars (text_in s i);
  objects = object_in s;
  sorts = stands_for t s;
  referents = referent_in s.env.now.referents;
  needed = need_seen s.needed;
  limits = s.limits;
}

-- The types that the names stand for are among the first n of a table.
pub record KnownScope (n : ℕ) (s : program.Scope) : Type 0 where
  pub told : (k : ℕ) (x : Standing) → slice_get s.told.now k ≡ Some x → KnownStanding n x
  pub objects : (k : ℕ) (x : Sort ℕ) → slice_get s.env.now.objects k ≡ Some x → SortHas (λ t. t < n) x
  pub locals : (k : ℕ) (x : Sort ℕ) → slice_get s.locals.now.sorts k ≡ Some (Some x) → SortHas (λ t. t < n) x
