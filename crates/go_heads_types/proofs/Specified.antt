-- Specifications of packages with equal heads are the same, with what their tokens mean and what they need.
use Rattle.std.proofs.Common.{◌≡◌, ◌∙◌, ℕ, zero, suc, ◌+◌, ◌<◌, Bool, true, false, List, [], ◌∷◌, ◌++◌, map, length, Option, Some, None, refl, sym, ap, subst, arith}
use Rattle.std.specs.Prelude.{if◌then◌else◌, max, nat_eq, nat_lt}
use Rattle.std.proofs.lemmas.Bool.Decides.{nat_tests}
use Rattle.go_grammar.specs.Trees.{Tree, parts}
use Rattle.go_tree.specs.declared.object.Declared.{Declared}
use Rattle.go_tree.specs.declared.object.Object.{Object}
use Rattle.go_tree.specs.declared.object.Object.TheVariants as object
use Rattle.go_tree.specs.Uses.{uses, object_of}
use Rattle.go_heads.specs.Heads.{File, in_bodies}
use Rattle.go_package_defs.specs.Bodies.{own_object}
use Rattle.go_package_defs.specs.Declarations.{Specification}
use Rattle.go_package_defs.specs.Knowledge.{Outline, following, place_of, column_of, no_specification, found_or, declaring, outline_by}
use Rattle.go_package_defs.specs.Sources.{Package, text_at, number_in, number_at, number_before, needed_at}
use Rattle.go_package_defs.specs.Verdicts.{first_name, needed_columns, numbers_of}
use Rattle.go_heads.specs.Objects as by_files
use Rattle.go_heads.specs.Objects.{units_of, file_in, head_place}
use Rattle.go_heads.proofs.Public.{Entry, entry, Every}
use Rattle.go_heads.specs.Lookups.{AtOnePlace}
use Rattle.go_heads.specs.Meanings.{StandsOutside, KeepsMeanings}
use Rattle.go_heads_types.specs.Needs.{KeepsNeeds}
use Rattle.go_heads_types.proofs.Looked.{same_test, place_test}
use Rattle.go_heads_types.specs.Outside.{KeepsOutside}
use Rattle.go_heads_types.specs.Specifications.{AllBelow, IsOne, AreOne}
use Rattle.go_heads_types.specs.Same.{SameSpecification, SameOutline, SameSpecifications, SameOutlines}
use Rattle.go_heads_types.proofs.Starts.{test, maybe_read, all_read}

below_test : (i w : ℕ) → nat_lt i w ≡ true → i < w
below_test i w e = grind (arith, nat_tests)

number_own : (o : Option Object) → number_in o ≡ number_in (own_object o)
number_own None = refl
number_own (Some (object.Local f n)) = refl
number_own (Some o) = refl

mapped_count : {A B : Type 0} (f : A → B) (xs : List A) → length (map f xs) ≡ length xs
mapped_count f [] = refl
mapped_count f (x ∷ xs) = ap suc (mapped_count f xs)

-- Two packages and their files.
pub record Both (p q : Package) (old new : List File) : Type 0 where
  pub uses_old : p.uses ≡ uses (units_of old)
  pub uses_new : q.uses ≡ uses (units_of new)
  pub text_old : (n t : ℕ) → text_at p n t ≡ by_files.text_at old n t
  pub text_new : (n t : ℕ) → text_at q n t ≡ by_files.text_at new n t
  pub meanings : KeepsMeanings old new
  pub outside : KeepsOutside old new
  pub needs : KeepsNeeds p q old new
  pub start : (n : ℕ) → AtOnePlace old new n 0 0

module _ (p q : Package) (old new : List File) (h : Both p q old new) where
  texts_same : (n t u : ℕ) → AtOnePlace old new n t u → text_at q n u ≡ text_at p n t
  texts_same n t u at = h.text_new n u ∙ h.meanings.text n t u at.before at.after at.place ∙ sym (h.text_old n t)

  objects_same : (n t u : ℕ) → AtOnePlace old new n t u → own_object (object_of q.uses n u) ≡ own_object (object_of p.uses n t)
  objects_same n t u at =
      ap (λ v. own_object (object_of v n u)) h.uses_new ∙ h.outside.objects n t u at ∙ sym (ap (λ v. own_object (object_of v n t)) h.uses_old)

  number_same : (n t u : ℕ) → AtOnePlace old new n t u → number_at q n u ≡ number_at p n t
  number_same n t u at = number_own (object_of q.uses n u) ∙ ap number_in (objects_same n t u at) ∙ sym (number_own (object_of p.uses n t))

  numbers_same : (n a b w : ℕ) → ((i : ℕ) → i < w → AtOnePlace old new n (a + i) (b + i)) → (ns : List ℕ) → AllBelow w ns → numbers_of q n (map (λ i. b + i) ns) ≡ numbers_of p n (map (λ i. a + i) ns)
  numbers_same n a b w f [] g = refl
  numbers_same n a b w f (i ∷ ns) g =
      ap (λ o. number_before o (numbers_of q n (map (λ i. b + i) ns))) (number_same n (a + i) (b + i) (f i g.0))
      ∙ ap (number_before (number_at p n (a + i))) (numbers_same n a b w f ns g.1)

  first_at : (n a b w : ℕ) → ((i : ℕ) → i < w → AtOnePlace old new n (a + i) (b + i)) → (ns : List ℕ) → AllBelow w ns → AtOnePlace old new n (first_name (map (λ i. a + i) ns)) (first_name (map (λ i. b + i) ns))
  first_at n a b w f [] g = h.start n
  first_at n a b w f (i ∷ ns) g = f i g.0

  abbrev columns : Package → ℕ → ℕ → ℕ → List ℕ
  columns r n t zero = []
  columns r n t (suc c) = columns r n t c ++ needed_at r n t c false

  by_columns : (r : Package) (d : Specification) (c : ℕ) → needed_columns r d c ≡ columns r d.file (first_name d.names) c
  by_columns r d zero = refl
  by_columns r d (suc c) = ap (λ ns. ns ++ needed_at r d.file (first_name d.names) c false) (by_columns r d c)

  columns_same : (n t u : ℕ) → AtOnePlace old new n t u → (c : ℕ) → columns q n u c ≡ columns p n t c
  columns_same n t u at zero = refl
  columns_same n t u at (suc c) =
      ap (λ ns. ns ++ needed_at q n u c false) (columns_same n t u at c) ∙ ap (λ ns. columns p n t c ++ ns) (h.needs.needed n t u at c false)

  pub one_same : (d e : Specification) → IsOne old new d e → SameSpecification p q d e
  one_same d e x =
      let n : ℕ = d.file in
      let names_d : d.names ≡ map (λ i. x.from + i) x.one.names = x.before.names in
      let names_e : e.names ≡ map (λ i. x.to + i) x.one.names = x.after.names in
      let count_d : max (length d.names) (length d.values) ≡ max (length x.one.names) (length x.one.values) =
      ap (λ (ns : List ℕ). max (length ns) (length d.values)) names_d ∙ ap (λ k. max k (length d.values)) (mapped_count (λ i. x.from + i) x.one.names)
      ∙ ap (λ (ts : List Tree). max (length x.one.names) (length ts)) x.before.values ∙ ap (max (length x.one.names)) (mapped_count _ x.one.values) in
      let count_e : max (length e.names) (length e.values) ≡ max (length x.one.names) (length x.one.values) =
      ap (λ (ns : List ℕ). max (length ns) (length e.values)) names_e ∙ ap (λ k. max k (length e.values)) (mapped_count (λ i. x.to + i) x.one.names)
      ∙ ap (λ (ts : List Tree). max (length x.one.names) (length ts)) x.after.values ∙ ap (max (length x.one.names)) (mapped_count _ x.one.values) in
      let first : AtOnePlace old new n (first_name d.names) (first_name e.names) =
      subst (λ ns. AtOnePlace old new n (first_name ns) (first_name e.names)) (sym names_d)
      (subst (λ ns. AtOnePlace old new n (first_name (map (λ i. x.from + i) x.one.names)) (first_name ns)) (sym names_e) (first_at n x.from x.to x.width x.places x.one.names x.lies.names)) in
      record {
        one = x.one;
        from = x.from;
        to = x.to;
        before = x.before;
        after = x.after;
        file = x.file;
        test = test x.width;
        type_read = maybe_read x.width x.one.type_tree x.lies.type_tree;
        values_read = all_read x.width x.one.values x.lies.values;
        texts = λ i g. ap (λ k. text_at q k (x.to + i)) x.file ∙ texts_same n (x.from + i) (x.to + i) (x.places i (below_test i x.width g));
        objects = λ i g. ap (λ k. own_object (object_of q.uses k (x.to + i))) x.file ∙ objects_same n (x.from + i) (x.to + i) (x.places i (below_test i x.width g));
        numbers =
            ap (λ k. numbers_of q k e.names) x.file ∙ ap (numbers_of q n) names_e ∙ numbers_same n x.from x.to x.width x.places x.one.names x.lies.names ∙ sym (ap (numbers_of p n) names_d);
        needed =
            by_columns q e (max (length e.names) (length e.values)) ∙ ap (columns q e.file (first_name e.names)) count_e
            ∙ ap (λ k. columns q k (first_name e.names) (max (length x.one.names) (length x.one.values))) x.file
            ∙ columns_same n (first_name d.names) (first_name e.names) first (max (length x.one.names) (length x.one.values))
            ∙ sym (by_columns p d (max (length d.names) (length d.values)) ∙ ap (columns p n (first_name d.names)) count_d);
      }

  pub all_same : (ds es : List Specification) → AreOne old new ds es → SameSpecifications p q ds es
  all_same [] [] x = tt
  all_same [] (e ∷ es) x = absurd x
  all_same (d ∷ ds) [] x = absurd x
  all_same (d ∷ ds) (e ∷ es) x = (one_same d e x.0, all_same ds es x.1)

  -- ---- objects with their specifications

  place_same : (n a b w t u : ℕ) → AtOnePlace old new n t u → ((i : ℕ) → i < w → AtOnePlace old new n (a + i) (b + i)) → (ns : List ℕ) → AllBelow w ns
      → place_of u (map (λ i. b + i) ns) ≡ place_of t (map (λ i. a + i) ns)
  place_same n a b w t u at f [] g = refl
  place_same n a b w t u at f (i ∷ ns) g =
      let x = f i g.0 in
      let bodies_new : ℕ → Bool = in_bodies (parts (file_in new n).tree) in
      let bodies_old : ℕ → Bool = in_bodies (parts (file_in old n).tree) in
      let test : nat_eq u (b + i) ≡ nat_eq t (a + i) =
      sym (place_test bodies_new u (b + i) at.after x.after)
      ∙ ap (λ k. nat_eq k (head_place new n (b + i))) at.place ∙ ap (nat_eq (head_place old n t)) x.place
      ∙ place_test bodies_old t (a + i) at.before x.before in
      ap (λ c. if c then Some 0 else following (place_of u (map (λ i. b + i) ns))) test
      ∙ ap (λ o. if nat_eq t (a + i) then Some 0 else following o) (place_same n a b w t u at f ns g.1)

  column_same : (d e : Specification) → IsOne old new d e → (n t u : ℕ) → AtOnePlace old new n t u → column_of n u e ≡ column_of n t d
  column_same d e x n t u at = ap (λ k. if nat_eq k n then place_of u e.names else None) x.file ∙ by (nat_eq d.file n) refl
    where
      by : (c : Bool) → nat_eq d.file n ≡ c → (if c then place_of u e.names else None) ≡ (if c then place_of t d.names else None)
      by false g = refl
      by true g =
          let same : d.file ≡ n = same_test d.file n g in
          ap (place_of u) x.after.names
          ∙ place_same n x.from x.to x.width t u at (λ i lt. subst (λ k. AtOnePlace old new k (x.from + i) (x.to + i)) same (x.places i lt)) x.one.names x.lies.names
          ∙ sym (ap (place_of t) x.before.names)

  none_same : SameSpecification p q no_specification no_specification
  none_same = record {
    one = no_specification;
    from = 0;
    to = 0;
    before = record { entity = refl; iota = refl; names = refl; type_tree = refl; values = refl };
    after = record { entity = refl; iota = refl; names = refl; type_tree = refl; values = refl };
    file = refl;
    test = λ i. false;
    type_read = tt;
    values_read = tt;
    texts = λ i g. absurd cc;
    objects = λ i g. absurd cc;
    numbers = refl;
    needed = refl;
  }

  -- the specification that declares a name, and its number there
  abbrev SamePair : Specification × ℕ → Specification × ℕ → Type 0
  SamePair x y = SameSpecification p q x.0 y.0 × (y.1 ≡ x.1)

  found_same : (d e : Specification) → SameSpecification p q d e → (o : Option ℕ) (x y : Specification × ℕ) → SamePair x y → SamePair (found_or d o x) (found_or e o y)
  found_same d e s (Some c) x y g = (s, refl)
  found_same d e s None x y g = g

  declaring_same : (ds es : List Specification) → AreOne old new ds es → (n t u : ℕ) → AtOnePlace old new n t u → SamePair (declaring ds n t) (declaring es n u)
  declaring_same [] [] x n t u at = (none_same, refl)
  declaring_same [] (e ∷ es) x n t u at = absurd x
  declaring_same (d ∷ ds) [] x n t u at = absurd x
  declaring_same (d ∷ ds) (e ∷ es) x n t u at =
      subst (λ o. SamePair (found_or d (column_of n t d) (declaring ds n t)) (found_or e o (declaring es n u))) (sym (column_same d e x.0 n t u at))
      (found_same d e (one_same d e x.0) (column_of n t d) (declaring ds n t) (declaring es n u) (declaring_same ds es x.1 n t u at))

  module _ (ds es : List Specification) (ones : AreOne old new ds es) where
    abbrev outline : Package → List Specification → Declared → Outline
    outline r zs d = outline_by r d (declaring zs d.file d.name)

    pair_same : (c d : Declared) → d.file ≡ c.file → AtOnePlace old new c.file c.name d.name → (x y : Specification × ℕ) → SamePair x y → SameOutline p q (outline_by p c x) (outline_by q d y)
    pair_same c d f at (a, i) (b, j) g = record {
      specification = g.0;
      column = g.1;
      partly = ap (λ k. needed_at q k d.name j false) f ∙ ap (λ k. needed_at q c.file d.name k false) g.1 ∙ h.needs.needed c.file c.name d.name at i false;
      fully = ap (λ k. needed_at q k d.name j true) f ∙ ap (λ k. needed_at q c.file d.name k true) g.1 ∙ h.needs.needed c.file c.name d.name at i true;
    }

    object_same : (c d : Declared) → entry new d ≡ entry old c → StandsOutside old c.file c.name → StandsOutside new d.file d.name → SameOutline p q (outline p ds c) (outline q es d)
    object_same c d e x y =
        let f : d.file ≡ c.file = ap (λ (z : Entry). z.file) e in
        let at : AtOnePlace old new c.file c.name d.name = record {
          before = x;
          after = subst (λ k. StandsOutside new k d.name) f y;
          place = sym (ap (λ k. head_place new k d.name) f) ∙ ap (λ (z : Entry). z.place) e;
        } in
        pair_same c d f at (declaring ds c.file c.name) (declaring es d.file d.name)
        (subst (λ k. SamePair (declaring ds c.file c.name) (declaring es k d.name)) (sym f) (declaring_same ds es ones c.file c.name d.name at))

    pub outlines_same : (xs ys : List Declared) → map (entry new) ys ≡ map (entry old) xs → Every (λ (x : Declared). StandsOutside old x.file x.name) xs → Every (λ (x : Declared). StandsOutside new x.file x.name) ys
        → SameOutlines p q (map (outline p ds) xs) (map (outline q es) ys)
    outlines_same [] [] e x y = tt
    outlines_same [] (d ∷ ys) e x y = absurd (no_entry (entry new d) (map (entry new) ys) e)
      where
        no_entry : (z : Entry) (zs : List Entry) → (z ∷ zs) ≡ [] → ⊥
        no_entry z zs e = cc
    outlines_same (c ∷ xs) [] e x y = absurd (no_entry (entry old c) (map (entry old) xs) e)
      where
        no_entry : (z : Entry) (zs : List Entry) → [] ≡ (z ∷ zs) → ⊥
        no_entry z zs e = cc
    outlines_same (c ∷ xs) (d ∷ ys) e x y = (
      object_same c d (first_entry (entry new d) (entry old c) (map (entry new) ys) (map (entry old) xs) e) x.0 y.0,
      outlines_same xs ys (other_entries (entry new d) (entry old c) (map (entry new) ys) (map (entry old) xs) e) x.1 y.1,
    )
      where
        first_entry : (a b : Entry) (us vs : List Entry) → (a ∷ us) ≡ (b ∷ vs) → a ≡ b
        first_entry a b us vs e = cc

        other_entries : (a b : Entry) (us vs : List Entry) → (a ∷ us) ≡ (b ∷ vs) → us ≡ vs
        other_entries a b us vs e = cc
