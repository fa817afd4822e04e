-- The declared type that a name is.
use Rattle.std.proofs.Common.{◌≡◌, ℕ, ◌<◌, ◌≤◌, List, [], ◌∷◌, length, map, Option, Some, None, refl, ap, sym, subst, ◌∙◌, arith}
use Rattle.std.specs.Option.{option_map}
use Rattle.go_types.specs.Trees.{TypeTree, declared}
use Rattle.go_types.specs.Tables.{Table, type_of, rights_of}
use Rattle.go_typed.specs.Trees.{IsType, Nothing}
use Rattle.go_typed.specs.declared.sort.Sort as program
use Rattle.go_exprs_rules.specs.Scopes.{Scope}
use Rattle.go_exprs_rules.specs.Settling.{Part}
use Rattle.go_exprs_rules.specs.Sorts.{Stands}
use Rattle.go_stmts_defs.specs.Frames.{Frame}
use Rattle.go_stmts_defs.specs.Laying.{local_named, type_number, type_sort}
use Rattle.go_stmts_defs.specs.Reading.{right_side}
use Rattle.go_stmts.specs.declared.state.Surroundings.{Surroundings}
use Rattle.go_stmts.specs.declared.state.State.{State}
use Rattle.go_stmts.specs.State.{object_at, Shows}
use Rattle.go_stmts.specs.Types.{AreNamed, placed_or}

module _ (t : Table) (o : Surroundings) (k : State) (x : program.Sort) (rs : List ℕ) (s : Frame) (has : Shows t o k x rs s) where
  pub number_is : (i : ℕ) → type_number s i ≡ option_map s.types (local_named (object_at o i))
  number_is i = ap (λ (c : Scope). option_map s.types (local_named (c.objects i))) has.names

  pub named_by : (i n j : ℕ) → local_named (object_at o i) ≡ Some n → type_of t.shapes j ≡ declared (s.types n) → AreNamed t (Some j) (type_number s i)
  named_by i n j e is = subst (AreNamed t (Some j)) (sym (number_is i ∙ ap (option_map s.types) e)) is

  pub named_none : (i : ℕ) → local_named (object_at o i) ≡ None → AreNamed t None (type_number s i)
  named_none i e = subst (AreNamed t None) (sym (number_is i ∙ ap (option_map s.types) e)) tt

module _ (t : Table) where
  pub sort_of_named : (i : ℕ) (m : Option ℕ) → AreNamed t (Some i) m → IsType (type_of t.shapes i) ≡ type_sort m
  sort_of_named i (Some m) h = ap (λ (y : TypeTree). let z : Stands = IsType y in z) h
  sort_of_named i None h = absurd h

  pub sort_of_blank : (m : Option ℕ) → AreNamed t None m → Nothing ≡ type_sort m
  sort_of_blank (Some m) h = absurd h
  sort_of_blank None h = refl

  pub rights_same : (r : Option TypeTree) (m : Option ℕ) → AreNamed t None m → rights_of t ≡ placed_or m r (rights_of t)
  rights_same r (Some m) a = absurd a
  rights_same r None a = refl

-- ---- a right side is one part

module _ {A : Type 0} (f : A → Option Part) (n : Option Part) where
  pub none_there : (ns : List A) → length ns < 1 → None ≡ right_side (n ∷ map f ns)
  none_there [] h = refl
  none_there (m ∷ ns) h = absurd (omega (arith, h))

  pub more_than_one : (ns : List A) → 2 ≤ length ns → None ≡ right_side (n ∷ map f ns)
  more_than_one [] h = absurd (omega (arith, h))
  more_than_one (m ∷ []) h = absurd (omega (arith, h))
  more_than_one (m ∷ k ∷ ns) h = refl
