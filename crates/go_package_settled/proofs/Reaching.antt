-- The declared types that an object reaches, by what it needs.
use Rattle.std.proofs.Common.{◌≡◌, ℕ, zero, suc, ◌+◌, ◌<◌, ◌≤◌, Bool, true, false, List, [], ◌∷◌, Option, Some, None, refl, sym, ap, ◌∙◌, subst, arith}
use Rattle.std.specs.Prelude.{slice_get, nat_lt}
use Rattle.std.proofs.lemmas.Bool.{lt-ltb}
use Rattle.go_tree.specs.declared.context.Entity.{Entity}
use Rattle.go_tree.specs.declared.context.Entity.TheVariants as entity
use Rattle.go_tree.specs.declared.object.Declared.{Declared}
use Rattle.go_typed.specs.declared.form.Referent.TheVariants as referent
use Rattle.go_typed.specs.Packages.{Counts, no_counts, counted, referent_of, referents_from}
use Rattle.go_package_defs.specs.Knowledge.{is_type, referent_there, referent_at, following}
use Rattle.go_package_defs.specs.Sources.{Package}
use Rattle.go_package_defs.specs.Verdicts.{number_of_type}
use Rattle.go_package_laws.specs.Ranks.{type_object, number_or}
use Rattle.go_package_settled.specs.Heights.{Needing, AreOrdered, is_within, is_partly_within, by_sort, stage, told_height, own_height, told_stage, reach_stage}
use Rattle.go_package_settled.specs.Ordered.{reach_of}
use Rattle.go_package_settled.proofs.Counting.{greatest_over, greatest_under, greatest_more}
use Rattle.go_package_settled.proofs.Lists.{one_or, one_first, one_later}

-- whether a declared type is an object that passes; what is none has no right side
abbrev pub near_there : (ℕ → Bool) → Option ℕ → Bool
near_there test None = true
near_there test (Some m) = test m

-- whether an object needs it in full, or is it
abbrev pub near : List Declared → Needing → ℕ → ℕ → Bool
near ds x n t = near_there (is_within x n) (type_object ds t)

module _ (x : Needing) (a : AreOrdered x) where
  pub within_through : (n m k : ℕ) → is_within x n m ≡ true → is_within x m k ≡ true → is_within x n k ≡ true
  within_through n m k e f =
      one_or k m (x.full m k) f
      (λ q. subst (λ i. is_within x n i ≡ true) (sym q) e)
      (λ q. one_later k n (x.full n k) (one_or m n (x.full n m) e (λ s. subst (λ i. x.full i k ≡ true) s q) (λ s. a.through n m k s q)))

  -- what an object needs lies among what is needed by one that needs it
  pub needed_within : (n m k : ℕ) → x.full n m ≡ true → is_within x m k ≡ true → x.full n k ≡ true
  needed_within n m k e f = one_or k m (x.full m k) f (λ q. subst (λ i. x.full n i ≡ true) (sym q) e) (λ q. a.through n m k e q)

  pub partly_within : (n m k : ℕ) → x.part n m ≡ true → is_partly_within x m k ≡ true → x.part n k ≡ true
  partly_within n m k e f = one_or k m (x.part m k) f (λ q. subst (λ i. x.part n i ≡ true) (sym q) e) (λ q. a.partly_through n m k e q)

  there_through : (n m : ℕ) (o : Option ℕ) → is_within x n m ≡ true → near_there (is_within x m) o ≡ true → near_there (is_within x n) o ≡ true
  there_through n m None e f = refl
  there_through n m (Some k) e f = within_through n m k e f

  -- the right side of an object is known no later than those of what it reaches
  pub told_most : (n : ℕ) (o : Option Bool) → x.sort n ≡ o → told_stage x n ≤ reach_stage x n
  told_most n None s = let e = ap (λ p. by_sort p (stage x (told_height x n)) (stage x (own_height x n))) s in omega (arith, e)
  told_most n (Some b) s = greatest_over (is_within x n) (told_stage x) n x.size (a.inside n b s) (one_first n (x.full n n))

  module _ (ds : List Declared) where
    pub near_through : (n m t : ℕ) → is_within x n m ≡ true → near ds x m t ≡ true → near ds x n t ≡ true
    near_through n m t e f = there_through n m (type_object ds t) e f

    abbrev reach : ℕ → ℕ
    reach t = reach_of x (type_object ds t)

    -- a type that an object reaches has no greater reach than the object's own type
    reach_there : (n : ℕ) (o : Option ℕ) → near_there (is_within x n) o ≡ true → reach_of x o ≤ reach_stage x n
    reach_there n None e = omega arith
    reach_there n (Some m) e = greatest_more (is_within x m) (is_within x n) (told_stage x) x.size (λ k f. within_through n m k e f)

    pub reach_most : (n u : ℕ) → near ds x n u ≡ true → reach u ≤ reach_stage x n
    reach_most n u e = reach_there n (type_object ds u) e

    -- a stage behind all right sides that an object needs is behind the types that it reaches
    pub reach_under : (k n u : ℕ) → 0 < k → ((m : ℕ) → is_within x n m ≡ true → told_stage x m < k) → near ds x n u ≡ true → nat_lt (reach u) k ≡ true
    reach_under k n u z h e =
        let l = greatest_under (is_within x n) (told_stage x) k x.size z h in
        let m = reach_most n u e in
        lt-ltb (reach u) k (omega (arith, l, m))

-- ---- the number of a type

-- The n-th declaration is a type of this number, behind so many others.
pub record IsNumbered (c : Counts) (ds : List Declared) (n : ℕ) : Type 0 where
  pub number : ℕ
  pub referent : slice_get (referents_from c ds) n ≡ Some (referent.Type (c.types + number))
  pub object : type_object ds number ≡ Some n

next_object : (e : Entity) (ds : List Declared) (d : Declared) (t n : ℕ) → d.entity ≡ e → is_type e ≡ true → type_object ds t ≡ Some n → type_object (d ∷ ds) (suc t) ≡ Some (suc n)
next_object e ds d t n q f g = ap (λ x. number_or (is_type x) (suc t) (λ u. type_object ds u)) q ∙ ap (λ b. number_or b (suc t) (λ u. type_object ds u)) f ∙ ap following g

same_object : (e : Entity) (ds : List Declared) (d : Declared) (t n : ℕ) → d.entity ≡ e → is_type e ≡ false → type_object ds t ≡ Some n → type_object (d ∷ ds) t ≡ Some (suc n)
same_object e ds d t n q f g = ap (λ x. number_or (is_type x) t (λ u. type_object ds u)) q ∙ ap (λ b. number_or b t (λ u. type_object ds u)) f ∙ ap following g

first_type : (c : Counts) (d : Declared) (ds : List Declared) (e : Entity) → d.entity ≡ e → is_type e ≡ true → IsNumbered c (d ∷ ds) 0
first_type c d ds entity.Type q f = record {
  number = 0;
  referent = ap (λ x. Some (referent_of c x)) q ∙ ap (λ k. Some (referent.Type k)) (let h : c.types ≡ c.types + 0 = omega arith in h);
  object = ap (λ x. number_or (is_type x) 0 (λ u. type_object ds u)) q;
}
first_type c d ds e q f = absurd cc

later_type : (c : Counts) (d : Declared) (ds : List Declared) (n : ℕ) (e : Entity) → d.entity ≡ e → IsNumbered (counted c e) ds n → IsNumbered c (d ∷ ds) (suc n)
later_type c d ds n entity.Type q h =
    let m : suc c.types + h.number ≡ c.types + suc h.number = omega arith in
    record {
      number = suc h.number;
      referent = ap (λ x. slice_get (referents_from (counted c x) ds) n) q ∙ h.referent ∙ ap (λ k. Some (referent.Type k)) m;
      object = next_object entity.Type ds d h.number n q refl h.object;
    }
later_type c d ds n entity.Constant q h = record {
  number = h.number;
  referent = ap (λ x. slice_get (referents_from (counted c x) ds) n) q ∙ h.referent;
  object = same_object entity.Constant ds d h.number n q refl h.object;
}
later_type c d ds n entity.Variable q h = record {
  number = h.number;
  referent = ap (λ x. slice_get (referents_from (counted c x) ds) n) q ∙ h.referent;
  object = same_object entity.Variable ds d h.number n q refl h.object;
}
later_type c d ds n entity.Parameter q h = record {
  number = h.number;
  referent = ap (λ x. slice_get (referents_from (counted c x) ds) n) q ∙ h.referent;
  object = same_object entity.Parameter ds d h.number n q refl h.object;
}
later_type c d ds n entity.Function q h = record {
  number = h.number;
  referent = ap (λ x. slice_get (referents_from (counted c x) ds) n) q ∙ h.referent;
  object = same_object entity.Function ds d h.number n q refl h.object;
}

same_declared : (d e : Declared) → ◌≡◌ {A = Option Declared} (Some d) (Some e) → d ≡ e
same_declared d e q = cc

numbered : (c : Counts) (ds : List Declared) (n : ℕ) (d : Declared) → slice_get ds n ≡ Some d → is_type d.entity ≡ true → IsNumbered c ds n
numbered c [] n d e f = absurd cc
numbered c (x ∷ xs) zero d e f = first_type c x xs x.entity refl (ap (λ (y : Declared). is_type y.entity) (same_declared x d e) ∙ f)
numbered c (x ∷ xs) (suc n) d e f = later_type c x xs n x.entity refl (numbered (counted c x.entity) xs n d e f)

-- the object of a type's own number
pub own_object : (p : Package) (n : ℕ) (d : Declared) → slice_get p.uses.package_level n ≡ Some d → is_type d.entity ≡ true → type_object p.uses.package_level (number_of_type (referent_at p n)) ≡ Some n
own_object p n d e f =
    let ds = p.uses.package_level in
    let h = numbered no_counts ds n d e f in
    let z : 0 + h.number ≡ h.number = omega arith in
    ap (λ o. type_object ds (number_of_type (referent_there o))) h.referent ∙ ap (type_object ds) z ∙ h.object
