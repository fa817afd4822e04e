-- The body of a function in a package is ordered.
use Rattle.std.proofs.Common.{◌≡◌, ◌∙◌, ℕ, zero, suc, ◌+◌, ◌-◌, ◌<◌, ◌≤◌, Bool, List, [], ◌∷◌, ◌++◌, map, Option, Some, None, refl, sym, ap, subst, arith}
use Rattle.std.specs.Prelude.{slice_get}
use Rattle.std.proofs.lemmas.List.{map-append}
use Rattle.go_grammar.specs.declared.kind.Kind.{Kind}
use Rattle.go_grammar.specs.declared.kind.Kind.TheVariants as kind
use Rattle.go_grammar.specs.declared.kind.Sort.TheVariants as declaring
use Rattle.go_grammar.specs.Trees.{Tree, node, Trees, none, more, skip}
use Rattle.go_tree.specs.declared.object.Object.{Object}
use Rattle.go_tree.specs.declared.object.Object.TheVariants as object
use Rattle.go_tree.specs.Uses.{object_of, object_there}
use Rattle.go_stmts_defs.specs.Bodies.{based, all_based}
use Rattle.go_stmts_defs.specs.Laying.{local_named}
use Rattle.go_package_defs.specs.Bodies.{own_object, objects_from, portion_of, types_in}
use Rattle.go_package_defs.specs.Declarations.{Specification}
use Rattle.go_package_defs.specs.Sources.{Package}
use Rattle.go_stmts_steady.specs.Ordered.{next}
use Rattle.go_package_steady.specs.Begun.{locals_at}
use Rattle.go_package_steady.specs.Declared.{locals_of_file}
use Rattle.go_package_steady.specs.Packages.{AreAmong, FunctionsAreOrdered}
use Rattle.go_package_steady.specs.Rising.{place_in, type_places, all_type_places, IsLaterType, LocalsRise}
use Rattle.go_package_steady.proofs.Begun.{bodies_ordered}
use Rattle.go_package_steady.proofs.Declared.{locals_rise_there}

-- ---- tokens that are counted from the first one

module _ (b : ℕ) where
  abbrev counted : List ℕ → List ℕ
  counted is = map (λ i. i - b) is

  place_counted : (d : Kind) (i : ℕ) → place_in d (i - b) ≡ counted (place_in d i)
  place_counted (kind.Specification declaring.Type) i = refl
  place_counted d i = refl

  mutual
    places_counted : (x : Tree) → type_places (based b x) ≡ counted (type_places x)
    places_counted (node d i j ps) =
        ap (λ l. l ++ all_type_places (all_based b ps)) (place_counted d i) ∙ ap (λ l. counted (place_in d i) ++ l) (all_counted ps) ∙ sym (map-append (λ n. n - b) (place_in d i) (all_type_places ps))

    all_counted : (ps : Trees) → all_type_places (all_based b ps) ≡ counted (all_type_places ps)
    all_counted none = refl
    all_counted (skip ps) = all_counted ps
    all_counted (more p ps) =
        ap (λ l. l ++ all_type_places (all_based b ps)) (places_counted p) ∙ ap (λ l. counted (type_places p) ++ l) (all_counted ps) ∙ sym (map-append (λ n. n - b) (type_places p) (all_type_places ps))

-- ---- locals of a function by itself

own_named : (o : Option Object) → local_named (own_object o) ≡ local_named o
own_named None = refl
own_named (Some (object.Local f n)) = refl
own_named (Some o) = refl

module _ (p : Package) (n : ℕ) where
  object_here : (t k m : ℕ) → m < k → slice_get (objects_from p n t k) m ≡ Some (own_object (object_of p.uses n (t + m)))
  object_here t zero m l = absurd (omega (arith, l))
  object_here t (suc k) zero l = let e : t ≡ t + 0 = omega (arith) in ap (λ z. Some (own_object (object_of p.uses n z))) e
  object_here t (suc k) (suc m) l = let e : suc t + m ≡ t + suc m = omega (arith) in object_here (suc t) k m (omega (arith, l)) ∙ ap (λ z. Some (own_object (object_of p.uses n z))) e

module _ (p : Package) (d : Specification) where
  same_local : (i : ℕ) → d.first ≤ i → i < d.last → locals_at (portion_of p d) (i - d.first) ≡ locals_of_file p.uses d.file i
  same_local i l g =
      let e : d.first + (i - d.first) ≡ i = omega (arith, l) in
      ap (λ o. local_named (object_there o)) (object_here p d.file d.first (d.last - d.first) (i - d.first) (omega (arith, l, g)))
      ∙ own_named (object_of p.uses d.file (d.first + (i - d.first))) ∙ ap (locals_of_file p.uses d.file) e

  counted_rise : (bs : List Bool) (c : ℕ) (is : List ℕ) → AreAmong d.first d.last is → LocalsRise (locals_of_file p.uses d.file) bs c is → LocalsRise (locals_at (portion_of p d)) bs c (counted d.first is)
  counted_rise bs c [] h r = tt
  counted_rise bs c (i ∷ is) h r =
      let e = sym (same_local i h.0.0 h.0.1) in (
        subst (IsLaterType bs c) e r.0,
        subst (λ o. LocalsRise (locals_at (portion_of p d)) bs (next o c) (counted d.first is)) e (counted_rise bs (next (locals_of_file p.uses d.file i) c) is h.1 r.1),
      )

pub functions_ordered : FunctionsAreOrdered
functions_ordered p a rights number d g b h below =
    let bs = types_in p number in
    let rise = locals_rise_there p.uses d.file number (type_places b) h.complete h.ascend h.declared in
    bodies_ordered a rights bs (portion_of p d) (based d.first g) (based d.first b) h.signature h.body below
    (subst (LocalsRise (locals_at (portion_of p d)) bs 0) (sym (places_counted d.first b)) (counted_rise p d bs 0 (type_places b) h.among rise))
