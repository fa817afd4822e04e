-- What is found in stages is found one behind the other.
use Rattle.std.proofs.Common.{◌≡◌, ℕ, ◌+◌, Bool, true, false, List, length, Option, Some, None, refl, sym, ap, ◌∙◌, arith}
use Rattle.std.specs.Prelude.{slice_get}
use Rattle.go_grammar.specs.Trees.{Tree}
use Rattle.go_tree.specs.declared.context.Entity.{Entity}
use Rattle.go_tree.specs.declared.context.Entity.TheVariants as entity
use Rattle.go_tree.specs.declared.object.Object.{Object}
use Rattle.go_tree.specs.declared.object.Object.TheVariants as object
use Rattle.go_tree.specs.Uses.{object_of}
use Rattle.go_exprs_rules.specs.Scopes.{Needed, in_full, type_place}
use Rattle.go_package_defs.specs.Declarations.{Specification}
use Rattle.go_package_defs.specs.Knowledge.{Outline, State, state_there, state_of, is_type, is_sound, is_told, passes, stands_if, stands_where, free_scope, told_scope}
use Rattle.go_package_defs.specs.Sources.{Package}
use Rattle.go_package_defs.specs.Verdicts.{own_type, own_value, own_faults, value_state, type_state, state_by, known}
use Rattle.go_package_laws.specs.Names.{ObjectWithin}
use Rattle.go_package_laws.specs.Reach.{StandsWithin}
use Rattle.go_package_laws.specs.Ranks.{Ranks, reached, ReachedBefore, NamesBefore, told_ways, own_ways, NeedsBefore, IsFoundAs, AreFound, AreAtMost}
use Rattle.go_package_laws.specs.Stages.{TypesBefore, StageBefore, NamesStaged, told_stages, own_stages, IsStagedAs, AreStaged}
use Rattle.go_package_laws.proofs.Needs.{each_more, needs_more}
use Rattle.go_package_laws.proofs.Rounds.{at_next, next_length, settled}

-- ---- objects

module _ (os : List Outline) (found : List State) (s : Ranks) where
  if_within : (k : ℕ) (b : Bool) (z : State) → StandsWithin (reached s k) z.stands → StandsWithin (reached s k) (stands_if b z)
  if_within k true z h = h
  if_within k false z h = tt

  object_within : (test : State → Bool) (k : ℕ) (n : Needed) (o : Option Object) → TypesBefore found s k o → ObjectWithin (reached s k) (stands_where test os found) n o
  object_within test k n None h = tt
  object_within test k n (Some object.Import) h = tt
  object_within test k n (Some (object.Predeclared i)) h = tt
  object_within test k n (Some (object.Local i m)) h = tt
  object_within test k n (Some (object.Package m)) h = if_within k (passes test os found n m) (state_of found m) h

  stage_reached : (test : State → Bool) (f : ℕ → ℕ) (k : ℕ) (n : Needed) (o : Option Object) → StageBefore os found s f k n o → ReachedBefore os s f k (stands_where test os found) n o
  stage_reached test f k n o h = (h.0, object_within test k n o h.1)

-- ---- declarations

module _ (p : Package) (os : List Outline) (found : List State) (s : Ranks) (a : AreStaged p os found s) where
  names_before : (k : ℕ) (d : Specification) (o : Option Tree) → NamesStaged p os found s k d o → NamesBefore p os found s k d o
  names_before k d None h = tt
  names_before k d (Some t) h =
      each_more (λ i. StageBefore os found s s.own k in_full (object_of p.uses d.file i))
      (λ i. ReachedBefore os s s.own k (stands_where is_sound os found) in_full (object_of p.uses d.file i))
      (λ i q. stage_reached os found s is_sound s.own k in_full (object_of p.uses d.file i) q) t h

  told_before : (k : ℕ) (d : Specification) (o : Option Tree) → NeedsBefore p os found s (told_stages p os found s k d) o → NeedsBefore p os found s (told_ways p os found s k d) o
  told_before k d None h = tt
  told_before k d (Some t) h =
      needs_more (told_stages p os found s k d) (told_ways p os found s k d) (λ n i q. q)
      (λ i q. stage_reached os found s is_told s.told k in_full (object_of p.uses d.file i) q) (λ i q. absurd q) type_place t h

  own_before : (k : ℕ) (d : Specification) (o : Option Tree) → NeedsBefore p os found s (own_stages p os found s k d) o → NeedsBefore p os found s (own_ways p os found s k d) o
  own_before k d None h = tt
  own_before k d (Some t) h =
      needs_more (own_stages p os found s k d) (own_ways p os found s k d) (λ n i q. stage_reached os found s is_sound s.own k n (object_of p.uses d.file i) q)
      (λ i q. stage_reached os found s is_sound s.own k in_full (object_of p.uses d.file i) q) (λ i q. absurd q) type_place t h

  judged_at : (n : ℕ) (o : Outline) → slice_get os n ≡ Some o → state_of found n ≡ state_by o.specification.entity p os found n o.specification o.column
  judged_at n o e = ap (λ ss. state_of ss n) (sym a.same) ∙ ap state_there (at_next p os found 0 n n os o e (let q : n ≡ 0 + n = omega arith in q))

  as_type : (e : Entity) (n : ℕ) (d : Specification) (c : ℕ) → is_type e ≡ true → state_by e p os found n d c ≡ type_state (own_type p n) (told_scope p os found d) (free_scope p os found d) d
  as_type entity.Type n d c t = refl
  as_type x n d c t = absurd cc

  as_value : (e : Entity) (n : ℕ) (d : Specification) (c : ℕ) → is_type e ≡ false → state_by e p os found n d c ≡ value_state (free_scope p os found d) d c (own_faults (free_scope p os found d) d c)
  as_value entity.Type n d c t = absurd cc
  as_value x n d c t = refl

  found_as : (n : ℕ) (o : Outline) → slice_get os n ≡ Some o → (b : Bool) → is_type o.specification.entity ≡ b → IsStagedAs p os found s n o b → IsFoundAs p os found s n o b
  found_as n o e true t h =
      let d = o.specification in
      record {
        is = judged_at n o e ∙ as_type d.entity n d o.column t;
        later = h.later;
        first = h.first;
        right = h.right;
        of = told_before (s.told n) d d.type_tree h.of;
        limits = own_before (s.own n) d d.type_tree h.limits;
      }
  found_as n o e false t h =
      let d = o.specification in
      record {
        is = judged_at n o e ∙ as_value d.entity n d o.column t;
        later = h.later;
        stands = h.stands;
        right = h.right;
        of = names_before (s.own n) d d.type_tree h.of;
        value = names_before (s.own n) d (own_value d o.column) h.value;
      }

  pub are_found : AreFound p os found s
  are_found = record {
    as_many = sym (ap length a.same) ∙ next_length p os found 0 os;
    declared = a.declared;
    each = λ n o e. found_as n o e (is_type o.specification.entity) refl (a.each n o e);
    reaches = a.reaches;
    closed = a.closed;
  }

  pub staged : (k : ℕ) → AreAtMost s k → known p os k ≡ found
  staged k m = settled p os found s are_found k m
