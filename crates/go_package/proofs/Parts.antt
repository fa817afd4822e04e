-- The package of the parts that the phases answer.
use Rattle.std.proofs.Common.{◌≡◌, ℕ, List, Result, Ok, Err, length, map, ap, sym, ◌∙◌}
use Rattle.std.specs.List.{AllByRecursion}
use Rattle.go_base.specs.Gives.{◌>>=◌}
use Rattle.go_tree.specs.declared.context.Entity.TheVariants as entity
use Rattle.go_tree.specs.Failures.{Failure}
use Rattle.go_tree.specs.File.{FileTree}
use Rattle.go_tree.specs.Uses.{UsesView}
use Rattle.go_types.specs.Tables.{Table, IsTable, type_of, rights_of}
use Rattle.go_types_relations.specs.Extends.{Extends}
use Rattle.go_typed.specs.declared.form.Referent.{Referent}
use Rattle.go_typed.specs.declared.node.TypedNode.{TypedNode}
use Rattle.go_typed.specs.Contents.{Content, func_content, content}
use Rattle.go_typed.specs.Funcs.{FuncView}
use Rattle.go_typed.specs.Packages.{PackageView, referents}
use Rattle.go_typed.specs.Scopes.{EnvView}
use Rattle.go_typed.specs.Views.{seen}
use Rattle.go_exprs_rules.specs.Settling.{Part}
use Rattle.go_exprs_rules.specs.Sorts.{Stands}
use Rattle.go_exprs_types.specs.Naming.{objects_seen}
use Rattle.go_exprs_engine.proofs.Public.{sorts_stay}
use Rattle.go_package_defs.specs.Answer.{Environment}
use Rattle.go_package_defs.specs.Bodies.{Surroundings, Functions, functions_from, those_of, variables_of}
use Rattle.go_package_defs.specs.Checked.{Typing, surroundings_of, content_of, origins}
use Rattle.go_package_types.specs.Answers.{environment_seen}
use Rattle.go_package.specs.Functions.{KnownObjects, KnownFunction}
use Rattle.go_package.specs.Functions.{package_in, around_in, specified, functions_seen}
use Rattle.go_package.proofs.Rows.{contents_stay, around_stays}
use Rattle.go_package.specs.Checks.{sources_in, functions_behind, bodies_behind}

module _ (files : List FileTree) (uses : UsesView) (env : EnvView) where
  -- behind the variables all is as it was behind the functions
  pub bodies_shown : (first mid last : Table) → IsTable first → IsTable mid → Extends first mid → Extends mid last → KnownObjects (length first.shapes) env → rights_of last ≡ rights_of mid
      → (fs : List FuncView) (vs : List TypedNode) → AllByRecursion (KnownFunction (length mid.shapes)) fs → functions_behind first files uses env ≡ Ok (functions_seen mid fs)
      → map (seen last) vs ≡ variables_of (package_in files uses) (around_in mid env) (rights_of mid) (those_of entity.Variable (specified files))
      → (functions_behind first files uses env ≡ Ok (functions_seen last fs)) × (variables_of (package_in files uses) (around_in first env) (rights_of last) (those_of entity.Variable (specified files)) ≡ map (seen last) vs)
  bodies_shown first mid last ok again e more known rights fs vs all functions variables = (
    functions
        ∙ ap (λ xs. let b : Functions = record { functions = xs; rights = rights_of mid } in let r : Result Functions Failure = Ok b in r) (sym (contents_stay mid last again more fs all))
        ∙ ap (λ rs. let b : Functions = record { functions = map (func_content (type_of last.shapes)) fs; rights = rs } in let r : Result Functions Failure = Ok b in r) (sym rights),
    ap (λ a. variables_of (package_in files uses) a (rights_of last) (those_of entity.Variable (specified files))) (sym (around_stays first mid ok e env known))
        ∙ ap (λ rs. variables_of (package_in files uses) (around_in mid env) rs (those_of entity.Variable (specified files))) rights
        ∙ sym variables,
  )

  module _ (names : List (List ℕ)) (old new : Table) (ok : IsTable old) (e : Extends old new) (known : KnownObjects (length old.shapes) env) (numbers : env.referents ≡ referents uses.package_level) where
    abbrev environment : Environment
    environment = environment_seen old env

    surround : surroundings_of uses environment ≡ around_in old env
    surround = ap (λ rs. let a : Surroundings = record { objects = objects_seen old env.objects; referents = rs } in a) (sym numbers)

    functions_are : functions_from (package_in files uses) (surroundings_of uses environment) (rights_of old) 0 (those_of entity.Function (specified files)) ≡ functions_behind old files uses env
    functions_are = ap (λ a. functions_from (package_in files uses) a (rights_of old) 0 (those_of entity.Function (specified files))) surround

    abbrev typing : Functions → Typing
    typing b = record { uses = uses; environment = environment; bodies = b; specifications = specified files }

    abbrev finished : Result Functions Failure → Result Content Failure
    finished r = r >>= (λ b. Ok (typing b)) >>= (λ t. Ok (content_of names files (sources_in files) t))

    pub bodies_fail : (g : Failure) → functions_behind old files uses env ≡ Err g → bodies_behind names files uses environment ≡ Err g
    bodies_fail g h = ap finished (functions_are ∙ h)

    module _ (fs : List FuncView) (vs : List TypedNode) where
      abbrev made : List Stands → List Referent → List Part → Content
      made os rs xs = record { names = names; files = files; uses = uses; rights = rights_of new; origins = origins uses; objects = os; referents = rs; variables = xs; functions = map (func_content (type_of new.shapes)) fs }

      pub bodies_are : (functions_behind old files uses env ≡ Ok (functions_seen new fs)) → (variables_of (package_in files uses) (around_in old env) (rights_of new) (those_of entity.Variable (specified files)) ≡ map (seen new) vs)
          → (c : PackageView) → c ≡ record { names = names; files = files; uses = uses; types = new; origins = origins uses; env = env; variables = vs; functions = fs } → bodies_behind names files uses environment ≡ Ok (content c)
      bodies_are functions variables c is =
          let there = variables_of (package_in files uses) (surroundings_of uses environment) (rights_of new) (those_of entity.Variable (specified files)) in
          ap finished (functions_are ∙ functions)
          ∙ ap (λ z. let r : Result Content Failure = Ok z in r)
          (ap (λ os. made os (referents uses.package_level) there) (sym (sorts_stay old new ok e env.objects known))
          ∙ ap (λ rs. made (objects_seen new env.objects) rs there) (sym numbers)
          ∙ ap (made (objects_seen new env.objects) env.referents) (ap (λ a. variables_of (package_in files uses) a (rights_of new) (those_of entity.Variable (specified files))) surround ∙ variables)
          ∙ ap content (sym is))
