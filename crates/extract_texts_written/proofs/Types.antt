-- Types of a package that type-checks can be written.
use Rattle.std.proofs.Common.{◌≡◌, ℕ, ◌<◌, ◌^◌, true, List, [], ◌∷◌, map, arith}
use Rattle.std.specs.Prelude.{nat_lt}
use Rattle.std.specs.List.{AllByRecursion}
use Rattle.go_types.specs.Trees.{TypeTree, TypeRow, boolean, text, integer, array, slice, structure, function, declared}
use Rattle.go_types.specs.Trees as types
use Rattle.go_types_relations.specs.Renaming.{renamed, renamed_row}
use Rattle.go_typed.specs.Contents.{FuncContent, func_renamed}
use Rattle.go_typed.specs.Trees.{Sort, Typed, typed, Typeds, SortHas, Every, EveryPart, sort_mapped, mapped, all_mapped}
use Rattle.go_typed.specs.Trees as trees
use Rattle.go_exprs_rules.specs.Scopes.{Scope}
use Rattle.go_package_laws.specs.Reach.{Within, RowWithin}
use Rattle.go_print_laws.specs.Lexemes.{IsName}
use Rattle.go_print_laws.specs.Reading.{IsWithin, RowIsWithin}
use Rattle.go_print_laws.specs.Types.{CanBeWritten, RowCanBeWritten}
use Rattle.go_stmts_limits.specs.Limits.{AllStandWithin}
use Rattle.go_stmts_limits.specs.Packages.{AllFunctionsWithin}
use Rattle.go_stmts_written.specs.Named.{IsNamed, RowIsNamed, AllStandNamed, AllFunctionsNamed}
use Rattle.extract_texts_written.proofs.Tables.{below}

wide : (n : ℕ) → n < 2 ^ 32 → n < 10 ^ 64
wide n l = omega (arith, l)

-- what a function's locals and nodes stand for can be written
pub record FunctionWritten (name : ℕ → List ℕ) (f : FuncContent) : Type 0 where
  pub locals : AllByRecursion (λ x. SortHas (CanBeWritten name) x) f.locals
  pub tree : Every (CanBeWritten name) f.tree

-- so many declared types are named
pub record FunctionBelow (count : ℕ) (f : FuncContent) : Type 0 where
  pub locals : AllByRecursion (λ x. SortHas (Within (below count)) x) f.locals
  pub tree : Every (Within (below count)) f.tree

module _ (text_of : ℕ → List ℕ) (limit : Scope) (count : ℕ) (name : ℕ → ℕ) (named : (n : ℕ) → nat_lt (name n) count ≡ true → IsName (text_of (name n))) where
  mutual
    type_written : (t : TypeTree) → IsWithin limit t → IsNamed (renamed name t) → Within (below count) (renamed name t) → CanBeWritten text_of (renamed name t)
    type_written boolean w n b = tt
    type_written text w n b = tt
    type_written (integer k) w n b = tt
    type_written (array m t) w n b = (wide m w.0, type_written t w.2 n b)
    type_written (slice t) w n b = type_written t w n b
    type_written (structure ns ts) w n b = (n.0, row_written ts w n.1 b)
    type_written (function ps rs) w n b = (row_written ps w.0 n.0 b.0, row_written rs w.1 n.1 b.1)
    type_written (declared m) w n b = named m b

    row_written : (ts : TypeRow) → RowIsWithin limit ts → RowIsNamed (renamed_row name ts) → RowWithin (below count) (renamed_row name ts) → RowCanBeWritten text_of (renamed_row name ts)
    row_written types.none w n b = tt
    row_written (types.more t ts) w n b = (type_written t w.0 n.0 b.0, row_written ts w.1 n.1 b.1)

  sort_written : (x : Sort TypeTree) → SortHas (IsWithin limit) x → SortHas IsNamed (sort_mapped (renamed name) x) → SortHas (Within (below count)) (sort_mapped (renamed name) x)
      → SortHas (CanBeWritten text_of) (sort_mapped (renamed name) x)
  sort_written (trees.IsType t) w n b = type_written t w n b
  sort_written (trees.Value t) w n b = type_written t w n b
  sort_written (trees.Constant t c) w n b = type_written t w n b
  sort_written (trees.Results t) w n b = type_written t w n b
  sort_written x w n b = tt

  locals_written : (xs : List (Sort TypeTree)) → AllStandWithin limit xs → AllStandNamed (map (sort_mapped (renamed name)) xs)
      → AllByRecursion (λ x. SortHas (Within (below count)) x) (map (sort_mapped (renamed name)) xs) → AllByRecursion (λ x. SortHas (CanBeWritten text_of) x) (map (sort_mapped (renamed name)) xs)
  locals_written [] w n b = tt
  locals_written (x ∷ xs) w n b = (sort_written x w.0 n.0 b.0, locals_written xs w.1 n.1 b.1)

  mutual
    node_written : (x : Typed TypeTree) → Every (IsWithin limit) x → Every IsNamed (mapped (renamed name) x) → Every (Within (below count)) (mapped (renamed name) x)
        → Every (CanBeWritten text_of) (mapped (renamed name) x)
    node_written (typed f i j l ps) w n b = (sort_written l.sort w.0 n.0 b.0, parts_written ps w.1 n.1 b.1)

    parts_written : (ps : Typeds TypeTree) → EveryPart (IsWithin limit) ps → EveryPart IsNamed (all_mapped (renamed name) ps) → EveryPart (Within (below count)) (all_mapped (renamed name) ps)
        → EveryPart (CanBeWritten text_of) (all_mapped (renamed name) ps)
    parts_written trees.none w n b = tt
    parts_written (trees.more p ps) w n b = (node_written p w.0 n.0 b.0, parts_written ps w.1 n.1 b.1)
    parts_written (trees.skip ps) w n b = parts_written ps w n b

  pub functions_written : (fs : List FuncContent) → AllFunctionsWithin limit fs → AllFunctionsNamed (map (func_renamed name) fs) → AllByRecursion (FunctionBelow count) (map (func_renamed name) fs)
      → AllByRecursion (FunctionWritten text_of) (map (func_renamed name) fs)
  functions_written [] w n b = tt
  functions_written (f ∷ fs) w n b =
      (record { locals = locals_written f.locals w.0.locals n.0.locals b.0.locals; tree = node_written f.tree w.0.tree n.0.tree b.0.tree }, functions_written fs w.1 n.1 b.1)
