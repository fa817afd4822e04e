-- The program's scope around a body says at its tokens what the package says.
use Rattle.std.proofs.Common.{◌≡◌, ℕ, zero, suc, ◌+◌, List, [], ◌++◌, Bool, None, Option, Some, Result, length, replicate, refl, ap, sym, ◌∙◌}
use Rattle.std.specs.Prelude.{slice_get}
use Rattle.std.specs.Option.{option_map}
use Rattle.std.specs.Str.{chars}
use Rattle.std.proofs.lemmas.List.{length-map}
use Rattle.std.proofs.lemmas.Option.{slice_get-map}
use Rattle.go_grammar.specs.Trees.{Tree}
use Rattle.go_tokens.specs.Tokens.{TokenList}
use Rattle.go_tree.specs.declared.object.Declared.{Declared}
use Rattle.go_tree.specs.declared.object.Object.{Object}
use Rattle.go_tree.specs.declared.object.Object.TheVariants as object
use Rattle.go_tree.specs.File.{FileTree}
use Rattle.go_tree.specs.Units.{word}
use Rattle.go_tree.specs.Uses.{UsesView, object_of}
use Rattle.go_types.specs.Tables.{Table, rights_of}
use Rattle.go_typed.specs.Scopes.{EnvView}
use Rattle.go_exprs_rules.specs.declared.fault.TypeFault.{TypeFault}
use Rattle.go_exprs_rules.specs.Scopes.{Needed}
use Rattle.go_exprs_rules.specs.Sorts.{Stands}
use Rattle.go_exprs_types.specs.Naming.{known_local, told_or, sort_of_object, objects_seen}
use Rattle.go_package_defs.specs.Bodies.{Behind, which_types, count_types, local_type, locals_there, stands_there, stands_among, own_object, function_in, typed_function, types_in}
use Rattle.go_package_defs.specs.Declarations.{Specification}
use Rattle.go_package_defs.specs.Sources.{tokens_in, tokens_there, source_of}
use Rattle.go_stmts_defs.specs.Bodies.{based}
use Rattle.go_stmts.specs.Bodies.{function_scope}
use Rattle.go_package_alike.specs.Portions.{SaysPortion}
use Rattle.go_package.specs.Functions.{package_in, around_in}

nothing_there : {A : Type 0} (n : ℕ) → (let xs : List A = [] in slice_get xs n) ≡ None
nothing_there zero = refl
nothing_there (suc n) = refl

package_stands : (o : Option Stands) → told_or None o ≡ stands_there o
package_stands None = refl
package_stands (Some x) = refl

-- no object is told, and no local is declared
pub sorts_are : (xs : List Stands) (need : Needed) (o : Object) → sort_of_object [] xs [] o ≡ stands_among xs need o
sorts_are xs need (object.Package n) = ap (λ z. told_or z (slice_get xs n)) (nothing_there n) ∙ package_stands (slice_get xs n)
sorts_are xs need (object.Local f n) = ap known_local (nothing_there n)
sorts_are xs need object.Import = refl
sorts_are xs need (object.Predeclared p) = refl

pub tokens_are : (files : List FileTree) (uses : UsesView) (n : ℕ) (file : FileTree) → slice_get files n ≡ Some file → tokens_in (package_in files uses) n ≡ file.tokens
tokens_are files uses n file there = ap tokens_there (slice_get-map source_of files n ∙ ap (option_map source_of) there)

module _ (t : Table) (files : List FileTree) (uses : UsesView) (env : EnvView) (d : Specification) (ts : TokenList) (is : tokens_in (package_in files uses) d.file ≡ ts) (number : ts.file ≡ d.file) where
  pub says : (bs : List Bool) → SaysPortion (package_in files uses) (around_in t env) (rights_of t ++ replicate (count_types bs) None) d (function_scope t ts uses env d.first bs)
  says bs = record {
    rights = refl;
    iota = refl;
    needed = refl;
    limits = refl;
    texts = λ i lt. ap (λ ts. word ts (d.first + i)) (sym is);
    characters = λ i lt. ap (λ ts. chars (word ts (d.first + i))) (sym is);
    objects = λ i lt. ap (λ n. own_object (object_of uses n (d.first + i))) number;
    sorts = λ need o. sorts_are (objects_seen t env.objects) need o;
    referents = λ n. refl;
  }

-- the same answer by the locals as the program has them
module _ (t : Table) (files : List FileTree) (uses : UsesView) (env : EnvView) (d : Specification) (ts : TokenList) (number : ℕ) (ds : List Declared) (locals : ds ≡ locals_there (slice_get uses.locals number)) (x : Tree) where
  abbrev answer_by : List Bool → Result Behind TypeFault
  answer_by bs = function_in (function_scope t ts uses env d.first bs) number (length bs) (local_type (length (rights_of t)) bs) (based d.first x)

  rights_counted : (t : Table) → length (rights_of t) ≡ length t.rights
  unfolding rights_of
  rights_counted t = length-map t.rights _

  pub function_there : typed_function (package_in files uses) (around_in t env) (rights_of t) number d ≡ answer_by (types_in (package_in files uses) number)
      → typed_function (package_in files uses) (around_in t env) (rights_of t) number d ≡ function_in (function_scope t ts uses env d.first (which_types ds)) number (length ds) (local_type (length t.rights) (which_types ds))
      (based d.first x)
  function_there law =
      law ∙ ap (λ xs. answer_by (which_types xs)) (sym locals)
      ∙ ap (λ n. function_in (function_scope t ts uses env d.first (which_types ds)) number n (local_type (length (rights_of t)) (which_types ds)) (based d.first x)) (length-map ds _)
      ∙ ap (λ n. function_in (function_scope t ts uses env d.first (which_types ds)) number (length ds) (local_type n (which_types ds)) (based d.first x)) (rights_counted t)
