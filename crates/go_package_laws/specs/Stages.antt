-- Stages at which the objects of a package are known: a round more finds the same, and each name is known before what it stands in, with the
-- types that it stands for.
use Rattle.std.specs.Prelude.{◌≡◌, ℕ, ◌<◌, ◌≤◌, Bool, true, false, nat_le, List, length, Option, Some, None, slice_get}
use Rattle.go_grammar.specs.Trees.{Tree}
use Rattle.go_tree.specs.declared.object.Object.{Object}
use Rattle.go_tree.specs.declared.object.Object.TheVariants as object
use Rattle.go_tree.specs.Uses.{object_of}
use Rattle.go_types_relations.specs.Questions.{entry}
use Rattle.go_exprs_rules.specs.Scopes.{Needed, in_full}
use Rattle.go_package_defs.specs.Declarations.{Specification}
use Rattle.go_package_defs.specs.Knowledge.{Outline, State, state_of, is_type, rights_of}
use Rattle.go_package_defs.specs.Sources.{Package}
use Rattle.go_package_defs.specs.Verdicts.{own_value, next_states}
use Rattle.go_package_laws.specs.Names.{Ways, EachName}
use Rattle.go_package_laws.specs.Reach.{MaybeWithin, StandsWithin}
use Rattle.go_package_laws.specs.Ranks.{Ranks, reached, NeedBefore, NeedsBefore, type_object}

-- The types that an object stands for are known before the round k with all that they reach.
abbrev pub TypesBefore : List State → Ranks → ℕ → Option Object → Type 0
TypesBefore found s k (Some (object.Package m)) = StandsWithin (reached s k) (state_of found m).stands
TypesBefore found s k o = Unit {0}

-- So is the object, where it is needed so, with all that it needs: f tells when.
abbrev pub StageBefore : List Outline → List State → Ranks → (ℕ → ℕ) → ℕ → Needed → Option Object → Type 0
StageBefore os found s f k n o = NeedBefore os f s.stand k n o × TypesBefore found s k o

module _ (p : Package) (os : List Outline) (found : List State) (s : Ranks) where
  -- the names of an expression of the declaration d
  abbrev pub NamesStaged : ℕ → Specification → Option Tree → Type 0
  NamesStaged k d None = Unit {0}
  NamesStaged k d (Some t) = EachName (λ i. StageBefore os found s s.own k in_full (object_of p.uses d.file i)) t

  -- the names of a type, where no limit is judged
  abbrev pub told_stages : ℕ → Specification → Ways
  told_stages k d = record {
    named = λ n i. NeedBefore os s.told s.stand k n (object_of p.uses d.file i);
    counted = λ i. StageBefore os found s s.told k in_full (object_of p.uses d.file i);
    anywhere = λ i. ⊥;
  }

  -- and where limits are
  abbrev pub own_stages : ℕ → Specification → Ways
  own_stages k d = record {
    named = λ n i. StageBefore os found s s.own k n (object_of p.uses d.file i);
    counted = λ i. StageBefore os found s s.own k in_full (object_of p.uses d.file i);
    anywhere = λ i. ⊥;
  }

  -- The names of a constant, a variable or a function are known before it.
  pub record IsStaged (n : ℕ) (d : Specification) (c : ℕ) : Type 0 where
    pub later : 0 < s.own n
    pub stands : s.own n ≤ s.stand n
    pub right : s.own n ≤ s.told n
    pub of : NamesStaged (s.own n) d d.type_tree
    pub value : NamesStaged (s.own n) d (own_value d c)

  -- Those of a type are known before its right side, and before the rules are judged that fail in it.
  pub record IsStagedType (n : ℕ) (d : Specification) : Type 0 where
    pub later : 0 < s.told n
    pub first : s.stand n ≤ s.told n
    pub right : s.told n ≤ s.own n
    pub of : NeedsBefore p os found s (told_stages (s.told n) d) d.type_tree
    pub limits : NeedsBefore p os found s (own_stages (s.own n) d) d.type_tree

  abbrev pub IsStagedAs : ℕ → Outline → Bool → Type 0
  IsStagedAs n o true = IsStagedType n o.specification
  IsStagedAs n o false = IsStaged n o.specification o.column

-- A further round finds the same, each object's names are known before it, and a type is known with all that it reaches where its right
-- side is, and those of the types in it.
pub record AreStaged (p : Package) (os : List Outline) (found : List State) (s : Ranks) : Type 0 where
  pub declared : length p.uses.package_level ≡ length os
  pub same : next_states p os found 0 os ≡ found
  pub each : (n : ℕ) (o : Outline) → slice_get os n ≡ Some o → IsStagedAs p os found s n o (is_type o.specification.entity)
  pub reaches : (t n : ℕ) → type_object p.uses.package_level t ≡ Some n → s.told n ≤ s.reach t
  pub closed : (t : ℕ) → MaybeWithin (λ u. nat_le (s.reach u) (s.reach t)) (entry (rights_of p found) t)
