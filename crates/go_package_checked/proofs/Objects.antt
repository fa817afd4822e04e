-- What the objects of a package without faults stand for is known, where the names in its declarations stand as they may.
use Rattle.std.proofs.Common.{◌≡◌, ℕ, zero, suc, ◌<◌, Bool, true, false, cond, List, [], ◌∷◌, ◌++◌, length, map, Option, Some, None, refl, sym, ap, subst, ◌∙◌, arith}
use Rattle.std.specs.Prelude.{◌==◌, ◌&&◌, not, is_some, slice_get}
use Rattle.std.specs.List.{AllByRecursion}
use Rattle.std.proofs.lemmas.Bool.Decides.{nat_tests}
use Rattle.go_base.specs.declared.fault.FaultCode.TheVariants as code
use Rattle.go_grammar.specs.declared.kind.Category.TheVariants as category
use Rattle.go_grammar.specs.declared.kind.Place.TheVariants as place
use Rattle.go_grammar.specs.Trees.{Tree}
use Rattle.go_grammar.specs.Grammar.{any}
use Rattle.go_tree.specs.declared.context.Entity.{Entity}
use Rattle.go_tree.specs.declared.context.Entity.TheVariants as entity
use Rattle.go_tree.specs.declared.object.Object.{Object}
use Rattle.go_tree.specs.declared.object.Object.TheVariants as object
use Rattle.go_tree.specs.Declarations.{is_variable}
use Rattle.go_tree.specs.Uses.{object_of}
use Rattle.go_types.specs.Relations.{Rights}
use Rattle.go_typed.specs.declared.form.Referent.TheVariants as referent
use Rattle.go_typed.specs.Trees.{sort_of}
use Rattle.go_typed.specs.Trees as sort
use Rattle.go_exprs_rules.specs.declared.fault.TypeFault.{TypeFault}
use Rattle.go_exprs_rules.specs.Faults.{fault_at, joined, reported}
use Rattle.go_exprs_rules.specs.Scopes.{in_full, Scope, Hint, value, several, type_place, free}
use Rattle.go_exprs_rules.specs.Settling.{Part}
use Rattle.go_exprs_rules.specs.Sorts.{Stands, is_unknown, is_open}
use Rattle.go_exprs_rules.specs.Tables.{no_faults, is_lost}
use Rattle.go_exprs_rules.specs.TypeNodes.{part_type}
use Rattle.go_exprs_rules.specs.Typing.{typing, faults}
use Rattle.go_stmts_defs.specs.Assigning.{constants_failing}
use Rattle.go_stmts_defs.specs.Frames.{Locals}
use Rattle.go_stmts_defs.specs.Rules.{variables_failing}
use Rattle.go_package_defs.specs.Declarations.{Specification, is_alone}
use Rattle.go_package_defs.specs.Knowledge.{Outline, outlines, State, state_there, state_of, no_state, is_sound, all_pass, passes, needs_of, need_in, stands_if, stands_where, rights_of, referent_at, free_scope}
use Rattle.go_package_defs.specs.Knowledge as knowledge
use Rattle.go_package_defs.specs.Sources.{Package}
use Rattle.go_package_defs.specs.Verdicts.{type_hint, value_hint, part_in, faults_in, typed_type, typed_values, type_faults, values_faults, expression_faults, own_value, own_faults, Assigned, assigned_as, assigned_if, are_judged, own_type, state_with, value_state, known_parts, counted, constants_failing_in, specification_failing, specification_rule}
use Rattle.go_package_laws.specs.Names.{EachName}
use Rattle.go_package_laws.specs.Ranks.{Ranks, AllBefore, ReachedBefore, NamesBefore, IsFound, IsFoundType, IsFoundAs, AreFound}
use Rattle.go_stmts_final_types.specs.Names.{alone, ExpressionIsKnown}
use Rattle.go_stmts_final_types.specs.Placed.{IsKnownObject, IsGood, ExpressionIsPlaced}
use Rattle.go_stmts_final_types.specs.Shapes.{IsShaped}
use Rattle.go_stmts_final_types.proofs.Public.{MeansGood, Clear, clear_given, clear_single, typing_known, known_sort, reads, type_named}
use Rattle.go_package_checked.specs.Names.{MaybeStands, AllStand, SpecificationStands, NamesStand}
use Rattle.go_package_checked.proofs.Assigned.{IsAssigned, IsTyped, constant_good, known_passes, KnownValue, variable_good, function_good}
use Rattle.go_package_checked.proofs.Derived.{type_category, MaybeShaped, HasParts, is_parameter, IsDerived, IsDerivedIfNamed}
use Rattle.go_package_checked.proofs.Failing.{IsFine, IsRuled, outline_has}
use Rattle.go_package_checked.proofs.Known.{expression_known}

-- ---- lists

some_same : {A : Type 0} (a b : A) → (let o : Option A = Some a in o) ≡ Some b → a ≡ b
some_same a b q = cc

front_none : (xs ys : List TypeFault) → xs ++ ys ≡ [] → xs ≡ []
front_none [] ys e = refl
front_none (x ∷ xs) ys e = cc

behind_none : (xs ys : List TypeFault) → xs ++ ys ≡ [] → ys ≡ []
behind_none [] ys e = e
behind_none (x ∷ xs) ys e = cc

none_reported : (fs : List (List TypeFault)) → joined fs ≡ [] → reported fs ≡ None
none_reported [] e = refl
none_reported ([] ∷ fs) e = none_reported fs e
none_reported ((f ∷ gs) ∷ fs) e = cc

outside : {A B : Type 0} (xs : List A) (ys : List B) (n : ℕ) → length ys ≡ length xs → slice_get xs n ≡ None → slice_get ys n ≡ None
outside [] [] n l e = refl
outside [] (y ∷ ys) n l e = cc
outside (x ∷ xs) [] n l e = cc
outside (x ∷ xs) (y ∷ ys) zero l e = cc
outside (x ∷ xs) (y ∷ ys) (suc n) l e = outside xs ys n (omega (arith, l)) e

inside : {A : Type 0} (xs : List A) (n : ℕ) → n < length xs → (x : A) × (slice_get xs n ≡ Some x)
inside [] n l = absurd (omega (arith, l))
inside (x ∷ xs) zero l = (x, refl)
inside (x ∷ xs) (suc n) l = inside xs n (omega (arith, l))

none_declared : (n : ℕ) (x : Stands) → (let ls : Locals = [] in slice_get ls n) ≡ Some (Some x) → ⊥
none_declared n x e = cc

-- ---- values of a specification

module _ (s : Scope) (h : Hint) where
  typed_at : (ts : List Tree) (n : ℕ) → slice_get (map (typing s h) ts) n ≡ part_in s h (slice_get ts n)
  typed_at [] n = refl
  typed_at (t ∷ ts) zero = refl
  typed_at (t ∷ ts) (suc n) = typed_at ts n

  faults_at : (ts : List Tree) (n : ℕ) → values_faults s h ts ≡ [] → faults_in s h (slice_get ts n) ≡ []
  faults_at [] n e = refl
  faults_at (t ∷ ts) zero e = front_none (joined (faults s h t)) (values_faults s h ts) e
  faults_at (t ∷ ts) (suc n) e = faults_at ts n (behind_none (joined (faults s h t)) (values_faults s h ts) e)

shaped_at : (ts : List Tree) (n : ℕ) → AllByRecursion (IsShaped (any place.Free)) ts → MaybeShaped (any place.Free) (slice_get ts n)
shaped_at [] n w = tt
shaped_at (t ∷ ts) zero w = w.0
shaped_at (t ∷ ts) (suc n) w = shaped_at ts n w.1

stands_at : (count : ℕ) (s : Scope) (h : Hint) (ts : List Tree) (n : ℕ) → AllStand count s h ts → MaybeStands count s h (slice_get ts n)
stands_at count s h [] n w = tt
stands_at count s h (t ∷ ts) zero w = w.0
stands_at count s h (t ∷ ts) (suc n) w = stands_at count s h ts n w.1

-- ---- objects

constant_alone : (d : Specification) → d.entity ≡ entity.Constant → is_alone d ≡ false
constant_alone d e = ap (λ z. is_variable z && (length d.values == 1)) e

full_is : (e : Entity) → knowledge.is_type e ≡ false → need_in e ≡ in_full
full_is entity.Type e = absurd cc
full_is x e = refl

values_length : (s : Scope) (h : Hint) (ts : List Tree) → length (map (typing s h) ts) ≡ length ts
values_length s h [] = refl
values_length s h (t ∷ ts) = ap suc (values_length s h ts)

equal_by : (m n : ℕ) → (m == n) ≡ true → m ≡ n
equal_by m n e = grind (arith, nat_tests, e)

module _ (p : Package) (ds : List Specification) (found : List State) (ranks : Ranks) (a : AreFound p (outlines p ds) found ranks)
    (fine : AllByRecursion (IsFine p (outlines p ds) found) ds) (ruled : AllByRecursion (IsRuled p (outlines p ds) found) ds) (names : NamesStand p ds found) (derived : AllByRecursion IsDerivedIfNamed ds) where
  abbrev os : List Outline
  os = outlines p ds

  abbrev rights : Rights
  rights = rights_of p found

  abbrev free_of : Specification → Scope
  free_of d = free_scope p os found d

  -- ---- what is known of an object

  record GoodState (n : ℕ) (o : Outline) : Type 0 where
    known : IsKnownObject rights (state_of found n).stands
    typed : o.specification.entity ≡ entity.Variable → is_open (state_of found n).stands ≡ false

  abbrev Sound : ℕ → Type 0
  Sound k = (n : ℕ) → ranks.own n < k → is_sound (state_of found n) ≡ true

  abbrev Good : ℕ → Type 0
  Good k = (n : ℕ) (o : Outline) → slice_get os n ≡ Some o → ranks.own n < k → GoodState n o

  all_sound : (k : ℕ) → Sound k → (ns : List ℕ) → AllBefore ranks.own k ns → all_pass is_sound found ns ≡ true
  all_sound k w [] h = refl
  all_sound k w (n ∷ ns) h = ap (λ b. b && all_pass is_sound found ns) (w n h.0) ∙ all_sound k w ns h.1

  -- what the names of a specification mean is good
  abbrev Named : ℕ → Specification → ℕ → Type 0
  Named k d i = ReachedBefore os ranks ranks.own k (stands_where is_sound os found) in_full (object_of p.uses d.file i)

  object_good : (k : ℕ) (d : Specification) → Sound k → Good k → (o : Option Object) → ReachedBefore os ranks ranks.own k (stands_where is_sound os found) in_full o → MeansGood (length os) [] (free_of d) o
  object_good k d w g None h = tt
  object_good k d w g (Some object.Import) h = tt
  object_good k d w g (Some (object.Predeclared b)) h = tt
  object_good k d w g (Some (object.Local f m)) h = λ l. let never = none_declared m l.0 l.1 in absurd never
  object_good k d w g (Some (object.Package m)) h = λ l.
      let o = inside os m l in
      let pass : passes is_sound os found in_full m ≡ true = all_sound k w (m ∷ needs_of in_full (slice_get os m)) h.0 in
      let q = g m o.0 o.1 h.0.0 in
      let good : IsGood rights (referent_at p m) (state_of found m).stands = record { known = q.known; typed = λ j e. q.typed (names.variables m j o.0 o.1 e) } in
      subst (λ b. IsGood rights (referent_at p m) (stands_if b (state_of found m))) (sym pass) good

  -- ---- the type and the value of an object

  module _ (k : ℕ) (w : Sound k) (g : Good k) (d : Specification) (full : need_in d.entity ≡ in_full) where
    abbrev s : Scope
    s = free_of d

    named_known : (h : Hint) (t : Tree) → EachName (Named k d) t → ExpressionIsPlaced (length os) [] alone s h t → ExpressionIsKnown alone s h t
    named_known h t q b =
        expression_known (length os) (Named k d) alone s h t (record { full = full; means = λ i q. object_good k d w g (object_of p.uses d.file i) q }) q b

    record TypeFact (o : Option Part) (t : Option Tree) : Type 0 where
      lost : is_lost o ≡ false
      typed : is_some t ≡ true → is_some (part_type o) ≡ true

    type_by : (t : Tree) → IsShaped category.Type t → EachName (Named k d) t → ExpressionIsPlaced (length os) [] alone s type_place t → joined (faults s type_place t) ≡ [] → TypeFact (Some (typing s type_place t)) (Some t)
    type_by t v q b f =
        let m = typing_known alone s type_place category.Type t v (named_known type_place t q b) (none_reported (faults s type_place t) f) in
        record { lost = known_sort (typing s type_place t) m.0; typed = λ e. type_named (sort_of (typing s type_place t)) (m.1.1 refl) }

    type_fact : (e : Entity) (t : Option Tree) → MaybeShaped (type_category e) t → NamesBefore p os found ranks k d t → MaybeStands (length os) s (type_hint e) t → faults_in s (type_hint e) t ≡ [] → TypeFact (part_in s (type_hint e) t) t
    type_fact e None v q b f = record { lost = refl; typed = λ m. cc }
    type_fact entity.Function (Some t) v q b f =
        let m = typing_known alone s free category.Signature t v (named_known free t q b) (none_reported (faults s free t) f) in
        record { lost = known_sort (typing s free t) m.0; typed = λ e. type_named (sort_of (typing s free t)) m.1 }
    type_fact e (Some t) v q b f = type_by t v q b f

    record ValueFact (h : Hint) (o : Option Part) : Type 0 where
      lost : is_lost o ≡ false
      clear : (x : Part) → o ≡ Some x → Clear alone rights h x
      known : (x : Part) → o ≡ Some x → is_unknown (sort_of x) ≡ false

    value_by : (h : Hint) → reads h ≡ true → (t : Tree) → IsShaped (any place.Free) t → EachName (Named k d) t → ExpressionIsPlaced (length os) [] alone s h t → joined (faults s h t) ≡ [] → ValueFact h (Some (typing s h t))
    value_by h r t v q b f =
        let m = typing_known alone s h (any place.Free) t v (named_known h t q b) (none_reported (faults s h t) f) in
        let own : is_unknown (sort_of (typing s h t)) ≡ false = known_sort (typing s h t) m.0 in
        record {
          lost = own;
          clear = λ x e. subst (Clear alone rights h) (some_same (typing s h t) x e) (m.1 r);
          known = λ x e. subst (λ z. is_unknown (sort_of z) ≡ false) (some_same (typing s h t) x e) own;
        }

    value_fact : (b : Bool) (t : Option Tree) → MaybeShaped (any place.Free) t → NamesBefore p os found ranks k d t → MaybeStands (length os) s (cond b several value) t → faults_in s (cond b several value) t ≡ []
        → ValueFact (cond b several value) (part_in s (cond b several value) t)
    value_fact b None v q n f = record { lost = refl; clear = λ x e. absurd cc; known = λ x e. absurd cc }
    value_fact true (Some t) v q n f = value_by several refl t v q n f
    value_fact false (Some t) v q n f = value_by value refl t v q n f

  -- ---- what it is assigned

  record GoodAssigned (e : Entity) (x : Assigned) : Type 0 where
    own : IsAssigned rights x
    typed : e ≡ entity.Variable → is_open x.stands ≡ false

  typed_good : (e : Entity) (x : Assigned) → IsTyped rights x → GoodAssigned e x
  typed_good e x h = record { own = h.assigned; typed = λ m. h.typed }

  module _ (k : ℕ) (w : Sound k) (g : Good k) (d : Specification) (c : ℕ) (full : need_in d.entity ≡ in_full) where
    abbrev scope : Scope
    scope = free_of d

    abbrev type_part : Option Part
    type_part = typed_type scope d

    abbrev value_part : Option Part
    value_part = part_in scope (value_hint d) (own_value d c)

    -- the value of a variable
    value_known : (b : Bool) (o : Option Part) → ValueFact k w g d full (cond b several value) o → KnownValue rights b o
    value_known b None f = tt
    value_known true (Some x) f = clear_given rights false x (f.clear x refl)
    value_known false (Some x) f = (clear_given rights true x (f.clear x refl), clear_single rights x (f.clear x refl))

    variable_is : d.entity ≡ entity.Variable → IsDerived d → c < length d.names → TypeFact k w g d full type_part d.type_tree → ValueFact k w g d full (value_hint d) value_part → specification_rule scope d ≡ []
        → IsTyped rights (assigned_as entity.Variable rights d c (part_type type_part) value_part)
    variable_is e v l t x r =
        let xs = typed_values scope d in
        let b = is_alone d in
        let same : slice_get xs (cond b 0 c) ≡ value_part = typed_at scope (value_hint d) d.values (cond b 0 c) in
        let alone_is : b ≡ (length xs == 1) = ap (λ z. is_variable z && (length d.values == 1)) e ∙ ap (λ m. m == 1) (sym (values_length scope (value_hint d) d.values)) in
        let rule : variables_failing rights d.first d.last (length d.names) (part_type type_part) xs ≡ [] = subst (λ z. specification_failing z rights d (part_type type_part) xs ≡ []) e r in
        let parts : d.values ≡ [] → is_some d.type_tree ≡ true = subst (λ z. HasParts z d.type_tree d.values) e v.parts in
        subst (λ z. IsTyped rights (assigned_as entity.Variable rights d c (part_type type_part) z)) same
        (variable_good rights d.first d.last (length d.names) c (part_type type_part) xs b l (λ m. t.typed (parts (none_mapped d.values m))) alone_is (subst (KnownValue rights b) (sym same) (value_known b value_part x)) rule)
      where
        none_mapped : (ts : List Tree) → map (typing scope (value_hint d)) ts ≡ [] → ts ≡ []
        none_mapped [] m = refl
        none_mapped (t ∷ ts) m = cc

    constant_is : d.entity ≡ entity.Constant → c < length d.names → ValueFact k w g d full (value_hint d) value_part → specification_rule scope d ≡ [] → IsAssigned rights (assigned_as entity.Constant rights d c (part_type type_part) value_part)
    constant_is e l x r =
        let t = part_type type_part in
        let xs = typed_values scope d in
        let rule : constants_failing_in rights d t xs ≡ [] = subst (λ z. specification_failing z rights d t xs ≡ []) e r in
        let count : (length d.names == length xs) ≡ true = counted_as (length d.names == length xs) rule in
        let most : c < length xs = omega (arith, l, equal_by (length d.names) (length xs) count) in
        let z = inside xs c most in
        let here : slice_get xs (cond (is_alone d) 0 c) ≡ slice_get xs c = ap (λ b. slice_get xs (cond b 0 c)) (constant_alone d e) in
        let there : value_part ≡ Some z.0 = sym (typed_at scope (value_hint d) d.values (cond (is_alone d) 0 c)) ∙ here ∙ z.1 in
        let passes_ = known_passes rights t xs c z.0 (behind_none (counted d.first d.last (length d.names) (length xs)) (constants_failing rights t (known_parts xs)) rule) z.1 (x.known z.0 there) in
        let clear = x.clear z.0 there in
        subst (λ o. IsAssigned rights (assigned_as entity.Constant rights d c t o)) (sym there) (constant_good rights t z.0 clear.fits.fit clear.fits.family passes_)
      where
        counted_as : (b : Bool) → cond b [] (fault_at code.Count d.first d.last) ++ constants_failing rights (part_type type_part) (known_parts (typed_values scope d)) ≡ [] → b ≡ true
        counted_as true e = refl
        counted_as false e = cc

    function_is : d.entity ≡ entity.Function → IsDerived d → TypeFact k w g d full type_part d.type_tree → IsTyped rights (assigned_as entity.Function rights d c (part_type type_part) value_part)
    function_is e v t = function_good rights (part_type type_part) (t.typed (subst (λ z. HasParts z d.type_tree d.values) e v.parts))

    assigned_good : (z : Entity) → d.entity ≡ z → knowledge.is_type z ≡ false → IsDerived d → c < length d.names → TypeFact k w g d full type_part d.type_tree → ValueFact k w g d full (value_hint d) value_part → specification_rule scope d ≡ []
        → GoodAssigned z (assigned_as z rights d c (part_type type_part) value_part)
    assigned_good entity.Constant e y v l t x r = record { own = constant_is e l x r; typed = λ m. let never : ⊥ = cc in absurd never }
    assigned_good entity.Variable e y v l t x r = typed_good entity.Variable _ (variable_is e v l t x r)
    assigned_good entity.Function e y v l t x r = typed_good entity.Function _ (function_is e v t)
    assigned_good entity.Type e y v l t x r = cc
    assigned_good entity.Parameter e y v l t x r = let never : is_parameter entity.Parameter ≡ false = ap is_parameter (sym e) ∙ v.sort in cc

  -- ---- one object

  own_fine : (n : ℕ) (o : Outline) → slice_get os n ≡ Some o → expression_faults (free_of o.specification) o.specification ≡ []
  own_fine n o e = outline_has (IsFine p os found) refl p ds fine n o e

  own_ruled : (n : ℕ) (o : Outline) → slice_get os n ≡ Some o → specification_rule (free_of o.specification) o.specification ≡ []
  own_ruled n o e = outline_has (IsRuled p os found) refl p ds ruled n o e

  own_derived : (n : ℕ) (o : Outline) → slice_get os n ≡ Some o → IsDerived o.specification
  own_derived n o e = outline_has IsDerivedIfNamed (λ l. absurd (omega (arith, l))) p ds derived n o e (let l = names.columns n o e in omega (arith, l))

  own_stands : (n : ℕ) (o : Outline) → slice_get os n ≡ Some o → SpecificationStands (length os) p os found o.specification
  own_stands n o e = outline_has (SpecificationStands (length os) p os found) (record { of = tt; values = tt }) p ds names.specifications n o e

  record Whole (n : ℕ) (o : Outline) : Type 0 where
    sound : is_sound (state_of found n) ≡ true
    good : GoodState n o

  type_whole : (n : ℕ) (o : Outline) → slice_get os n ≡ Some o → knowledge.is_type o.specification.entity ≡ true → IsFoundType p os found ranks n o.specification → Whole n o
  type_whole n o e y f =
      let d = o.specification in
      let none : type_faults (free_of d) d ≡ [] = front_none (type_faults (free_of d) d) (values_faults (free_of d) (value_hint d) d.values) (own_fine n o e) in
      let stands_ : (state_of found n).stands ≡ sort.IsType (own_type p n) = ap (λ (z : State). z.stands) f.is in
      record {
        sound = ap is_sound f.is ∙ ap (λ fs. no_faults fs && true) none;
        good = record {
          known = subst (IsKnownObject rights) (sym stands_) (record { fit = refl; family = tt });
          typed = λ m. let never : knowledge.is_type entity.Variable ≡ true = ap knowledge.is_type (sym m) ∙ y in cc;
        };
      }

  judged_is : (t x : Option Part) (z : Assigned) → is_lost t ≡ false → is_lost x ≡ false → assigned_if (are_judged [] t x) z ≡ z
  judged_is t x z m n = ap (λ b. assigned_if (not b && not (is_lost x)) z) m ∙ ap (λ b. assigned_if (not b) z) n

  value_whole : (n : ℕ) (o : Outline) → slice_get os n ≡ Some o → knowledge.is_type o.specification.entity ≡ false → IsFound p os found ranks n o.specification o.column → Sound (ranks.own n) → Good (ranks.own n) → Whole n o
  value_whole n o e y f w g =
      let d = o.specification in
      let c = o.column in
      let k = ranks.own n in
      let s = free_of d in
      let full = full_is d.entity y in
      let v = own_derived n o e in
      let b = own_stands n o e in
      let l = names.columns n o e in
      let none = own_fine n o e in
      let of_none : type_faults s d ≡ [] = front_none (type_faults s d) (values_faults s (value_hint d) d.values) none in
      let values_none : values_faults s (value_hint d) d.values ≡ [] = behind_none (type_faults s d) (values_faults s (value_hint d) d.values) none in
      let m = cond (is_alone d) 0 c in
      let value_none : faults_in s (value_hint d) (own_value d c) ≡ [] = faults_at s (value_hint d) d.values m values_none in
      let t = type_fact k w g d full d.entity d.type_tree v.of f.of b.of of_none in
      let x = value_fact k w g d full (is_alone d) (own_value d c) (shaped_at d.values m v.values) f.value (stands_at (length os) s (value_hint d) d.values m b.values) value_none in
      let z = assigned_as d.entity rights d c (part_type (typed_type s d)) (part_in s (value_hint d) (own_value d c)) in
      let q = assigned_good k w g d c full d.entity refl y v l t x (own_ruled n o e) in
      let own_none : own_faults s d c ≡ [] = ap (λ fs. fs ++ faults_in s (value_hint d) (own_value d c)) of_none ∙ value_none in
      let is : state_of found n ≡ state_with [] z = f.is ∙ ap (value_state s d c) own_none ∙ ap (state_with []) (judged_is (typed_type s d) (part_in s (value_hint d) (own_value d c)) z t.lost x.lost) in
      record {
        sound = ap is_sound is ∙ ap no_faults q.own.none;
        good = record {
          known = subst (λ (u : State). IsKnownObject rights u.stands) (sym is) q.own.known;
          typed = λ r. subst (λ (u : State). is_open u.stands ≡ false) (sym is) (q.typed r);
        };
      }

  object_whole : (n : ℕ) (o : Outline) (b : Bool) → knowledge.is_type o.specification.entity ≡ b → slice_get os n ≡ Some o → IsFoundAs p os found ranks n o b → Sound (ranks.own n) → Good (ranks.own n) → Whole n o
  object_whole n o true y e f w g = type_whole n o e y f
  object_whole n o false y e f w g = value_whole n o e y f w g

  sound_at : (n : ℕ) (o : Option Outline) → slice_get os n ≡ o → Sound (ranks.own n) → Good (ranks.own n) → is_sound (state_of found n) ≡ true
  sound_at n None e w g = ap (λ z. is_sound (state_there z)) (outside os found n a.as_many e)
  sound_at n (Some o) e w g = (object_whole n o (knowledge.is_type o.specification.entity) refl e (a.each n o e) w g).sound

  good_at : (n : ℕ) (o : Outline) → slice_get os n ≡ Some o → Sound (ranks.own n) → Good (ranks.own n) → GoodState n o
  good_at n o e w g = (object_whole n o (knowledge.is_type o.specification.entity) refl e (a.each n o e) w g).good

  both : (k : ℕ) → Sound k × Good k
  both zero = (λ n l. absurd (omega (arith, l)), λ n o e l. absurd (omega (arith, l)))
  both (suc k) =
      let h = both k in (
        λ n l. sound_at n (slice_get os n) refl (λ m q. h.0 m (omega (arith, l, q))) (λ m o e q. h.1 m o e (omega (arith, l, q))),
        λ n o e l. good_at n o e (λ m q. h.0 m (omega (arith, l, q))) (λ m u f q. h.1 m u f (omega (arith, l, q))),
      )

  -- what an object stands for
  pub object_known : (n : ℕ) (o : Outline) → slice_get os n ≡ Some o → IsKnownObject rights (state_of found n).stands
  object_known n o e = ((both (suc (ranks.own n))).1 n o e (omega arith)).known

  pub object_typed : (n k : ℕ) (o : Outline) → slice_get os n ≡ Some o → referent_at p n ≡ referent.Variable k → is_open (state_of found n).stands ≡ false
  object_typed n k o e r = ((both (suc (ranks.own n))).1 n o e (omega arith)).typed (names.variables n k o e r)
