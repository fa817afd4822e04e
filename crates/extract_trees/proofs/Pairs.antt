-- Two windows that are the same, node by node: what they agree in, with what is known of the locals and the holes of each pair of
-- nodes.
use Rattle.std.proofs.Common.{◌≡◌, ◌∙◌, ℕ, Bool, true, false, List, [], ◌∷◌, ◌++◌, length, None, refl, sym, ap, arith, length-append}
use Rattle.std.specs.Prelude.{◌&&◌, nat_eq, if◌then◌else◌}
use Rattle.std.specs.List.{list_all, zip}
use Rattle.std.specs.Option.{option_to_list}
use Rattle.std.proofs.lemmas.Bool.{eqb-true, and_parts, and_from}
use Rattle.std.proofs.lemmas.List.{append-nil}
use Rattle.go_grammar.specs.declared.kind.Kind.{Kind}
use Rattle.go_types.specs.Trees.{TypeTree}
use Rattle.go_typed.specs.declared.form.Form.{Form}
use Rattle.go_typed.specs.declared.form.Form.TheVariants as form
use Rattle.go_typed.specs.Forms.{is_holder, local_of}
use Rattle.go_typed.specs.Trees.{Label, Typed, typed, Typeds}
use Rattle.go_typed.specs.Trees as trees
use Rattle.go_exprs_rules.specs.Sorts.{Stands}
use Rattle.clone_window.specs.Kinds.{outline}
use Rattle.clone_window.specs.Masses.{is_constant_expression, is_hole, is_inside}
use Rattle.clone_window.specs.Sameness.{agree, all_agree, agree_at, agree_besides, compared, final, same_final, same_outline, are_alike, sort_at, locals, all_locals, local_pairs, is_same, is_one_to_one, is_matched}
use Rattle.clone_window.proofs.Public.{all-as-many}
use Rattle.extract_trees.specs.Numberings.{Numbering}
use Rattle.extract_trees.specs.Standing.{known}
use Rattle.extract_trees.specs.OneCopy.{AreOneSort}
use Rattle.extract_trees.specs.Windows.{IsExact, AreNumberedAlike, constants_agree, all_constants_agree, constant_or, holes, all_holes, hole_pairs, is_one_parameter}
use Rattle.extract_trees.proofs.Forms.{AreOneForm, one_form}
use Rattle.extract_trees.proofs.Forms as forms
use Rattle.extract_trees.proofs.Sorts.{locals_alike}

-- ---- tests of all pairs

split_pairs : {A : Type 0} (test : A × A → Bool) (xs ys xs' ys' : List A) → length xs ≡ length ys → list_all test (zip (xs ++ xs') (ys ++ ys')) ≡ true →
    (list_all test (zip xs ys) ≡ true) × (list_all test (zip xs' ys') ≡ true)
split_pairs test [] [] xs' ys' e h = (refl, h)
split_pairs test [] (y ∷ ys) xs' ys' e h = absurd (omega (arith, e))
split_pairs test (x ∷ xs) [] xs' ys' e h = absurd (omega (arith, e))
split_pairs test (x ∷ xs) (y ∷ ys) xs' ys' e h =
    let p = and_parts (test (x, y)) (list_all test (zip (xs ++ xs') (ys ++ ys'))) h in
    let q = split_pairs test xs ys xs' ys' (omega (arith, e)) p.1 in
    (and_from (test (x, y)) (list_all test (zip xs ys)) p.0 q.0, q.1)

-- ---- as many locals and holes

one_as_many : (d : TypeTree → TypeTree → Bool) (p q : Typed TypeTree) → agree d false false p q ≡ true → length (locals false p) ≡ length (locals false q)
one_as_many d p q h =
    let e : length (locals false p ++ []) ≡ length (locals false q ++ []) = all-as-many d false false (trees.more p trees.none) (trees.more q trees.none) (and_from (agree d false false p q) true h refl) in
    sym (ap length (append-nil (locals false p))) ∙ e ∙ ap length (append-nil (locals false q))

holes_at : (d : TypeTree → TypeTree → Bool) (x y : Bool) (f g : Form) (s t : Stands) (parts : Bool) (a b : ℕ × Stands) (xs ys : List (ℕ × Stands)) →
    (parts ≡ true → length xs ≡ length ys) → agree_at d x y f g s t parts ≡ true → length (if x then a ∷ [] else xs) ≡ length (if y then b ∷ [] else ys)
holes_at d true true f g s t parts a b xs ys k h = refl
holes_at d true false f g s t parts a b xs ys k h = cc
holes_at d false true f g s t parts a b xs ys k h = cc
holes_at d false false f g s t parts a b xs ys k h = k (and_parts (same_outline (outline f) (outline g) && agree_besides d (compared f) (compared g) s t) parts h).1

mutual
  as_many_holes : (d : TypeTree → TypeTree → Bool) (a b : Bool) (p q : Typed TypeTree) → agree d a b p q ≡ true → length (holes a p) ≡ length (holes b q)
  as_many_holes d a b (typed f i j l ps) (typed g k m n qs) h =
      holes_at d (is_hole a f l) (is_hole b g n) f g l.sort n.sort (all_agree d (is_inside a f l) (is_inside b g n) ps qs) (i, l.sort) (k, n.sort)
      (all_holes (is_inside a f l) ps) (all_holes (is_inside b g n) qs) (λ e. all_as_many_holes d (is_inside a f l) (is_inside b g n) ps qs e) h

  all_as_many_holes : (d : TypeTree → TypeTree → Bool) (a b : Bool) (ps qs : Typeds TypeTree) → all_agree d a b ps qs ≡ true → length (all_holes a ps) ≡ length (all_holes b qs)
  all_as_many_holes d a b trees.none trees.none h = refl
  all_as_many_holes d a b trees.none (trees.more q qs) h = cc
  all_as_many_holes d a b trees.none (trees.skip qs) h = cc
  all_as_many_holes d a b (trees.more p ps) trees.none h = cc
  all_as_many_holes d a b (trees.more p ps) (trees.more q qs) h =
      let c = and_parts (agree d a b p q) (all_agree d a b ps qs) h in
      let x : length (holes a p) ≡ length (holes b q) = as_many_holes d a b p q c.0 in
      let y : length (all_holes a ps) ≡ length (all_holes b qs) = all_as_many_holes d a b ps qs c.1 in
      omega (arith, length-append (holes a p) (all_holes a ps), length-append (holes b q) (all_holes b qs))
  all_as_many_holes d a b (trees.more p ps) (trees.skip qs) h = cc
  all_as_many_holes d a b (trees.skip ps) trees.none h = cc
  all_as_many_holes d a b (trees.skip ps) (trees.more q qs) h = cc
  all_as_many_holes d a b (trees.skip ps) (trees.skip qs) h = all_as_many_holes d a b ps qs h

-- ---- pairs of nodes

module _ (identical : TypeTree → TypeTree → Bool) (exact : IsExact identical) (here there : List Stands) (c d : Numbering) where
  -- one form, in which two locals that are paired stand for one thing and have one new number
  pub data AreForms : Form → Form → Type 0 where
    one : {f : Form} → local_of f ≡ None → is_holder f ≡ false → AreForms f f
    used : {n m : ℕ} → AreOneSort (known (sort_at here n)) (known (sort_at there m)) → c.local n ≡ d.local m → AreForms (form.Local n) (form.Local m)
    new : {n m : ℕ} → AreOneSort (known (sort_at here n)) (known (sort_at there m)) → c.local n ≡ d.local m → AreForms (form.New n) (form.New m)
    declared : {n m : ℕ} → AreOneSort (known (sort_at here n)) (known (sort_at there m)) → c.local n ≡ d.local m → AreForms (form.Declared n) (form.Declared m)
    holders : {k k' : Kind} → AreForms (form.Held k) (form.Held k')

  mutual
    pub data IsPair : Typed TypeTree → Typed TypeTree → Type 0 where
      hole : {f g : Form} {i j k m : ℕ} {l n : Label TypeTree} {ps qs : Typeds TypeTree} → is_hole false f l ≡ true → is_hole false g n ≡ true → same_final identical (final l.sort) (final n.sort) ≡ true →
          is_one_parameter c d ((i, l.sort), (k, n.sort)) ≡ true → IsPair (typed f i j l ps) (typed g k m n qs)
      constant : {f g : Form} {i j k m : ℕ} {l n : Label TypeTree} {ps qs : Typeds TypeTree} → is_hole false f l ≡ false → is_hole false g n ≡ false →
          is_constant_expression f l ≡ true → is_constant_expression g n ≡ true → AreForms f g → are_alike identical l.sort n.sort ≡ true → IsPair (typed f i j l ps) (typed g k m n qs)
      node : {f g : Form} {i j k m : ℕ} {l n : Label TypeTree} {ps qs : Typeds TypeTree} → is_constant_expression f l ≡ false → is_constant_expression g n ≡ false →
          AreForms f g → agree_besides identical (compared f) (compared g) l.sort n.sort ≡ true → ArePairs ps qs → IsPair (typed f i j l ps) (typed g k m n qs)

    pub data ArePairs : Typeds TypeTree → Typeds TypeTree → Type 0 where
      none : ArePairs trees.none trees.none
      more : {p q : Typed TypeTree} {ps qs : Typeds TypeTree} → IsPair p q → ArePairs ps qs → ArePairs (trees.more p ps) (trees.more q qs)
      skip : {ps qs : Typeds TypeTree} → ArePairs ps qs → ArePairs (trees.skip ps) (trees.skip qs)

  -- what is asked of a pair of locals and of one of holes
  abbrev paired : ℕ × ℕ → Bool
  paired p = nat_eq (c.local p.0) (d.local p.1) && are_alike identical (sort_at here p.0) (sort_at there p.1)

  forms_by : (f g : Form) → AreOneForm f g → list_all paired (zip (option_to_list (local_of f)) (option_to_list (local_of g))) ≡ true → AreForms f g
  forms_by f g (forms.one e h) k = one e h
  forms_by f g (forms.used {n = n} {m = m}) k =
      let p = and_parts (nat_eq (c.local n) (d.local m)) (are_alike identical (sort_at here n) (sort_at there m)) (and_parts (paired (n, m)) true k).0 in
      used (locals_alike identical exact (sort_at here n) (sort_at there m) p.1) (eqb-true (c.local n) (d.local m) p.0)
  forms_by f g (forms.new {n = n} {m = m}) k =
      let p = and_parts (nat_eq (c.local n) (d.local m)) (are_alike identical (sort_at here n) (sort_at there m)) (and_parts (paired (n, m)) true k).0 in
      new (locals_alike identical exact (sort_at here n) (sort_at there m) p.1) (eqb-true (c.local n) (d.local m) p.0)
  forms_by f g (forms.declared {n = n} {m = m}) k =
      let p = and_parts (nat_eq (c.local n) (d.local m)) (are_alike identical (sort_at here n) (sort_at there m)) (and_parts (paired (n, m)) true k).0 in
      declared (locals_alike identical exact (sort_at here n) (sort_at there m) p.1) (eqb-true (c.local n) (d.local m) p.0)
  forms_by f g forms.holders k = holders

  as_many_named : (f g : Form) → AreOneForm f g → length (option_to_list (local_of f)) ≡ length (option_to_list (local_of g))
  as_many_named f g (forms.one e h) = refl
  as_many_named f g forms.used = refl
  as_many_named f g forms.new = refl
  as_many_named f g forms.declared = refl
  as_many_named f g forms.holders = refl

  -- What is asked of two nodes and of their parts, told whether they are holes and whether they are constant expressions.
  record Asked (x y p q : Bool) (f g : Form) (i k : ℕ) (l n : Label TypeTree) (ps qs : Typeds TypeTree) : Type 0 where
    agreeing : agree_at identical x y f g l.sort n.sort (all_agree identical p q ps qs) ≡ true
    constants : constant_or identical x p q l.sort n.sort (all_constants_agree identical ps qs) ≡ true
    named : list_all paired (zip (if x then [] else option_to_list (local_of f) ++ all_locals p ps) (if y then [] else option_to_list (local_of g) ++ all_locals q qs)) ≡ true
    holed : list_all (is_one_parameter c d) (zip (if x then (i, l.sort) ∷ [] else all_holes p ps) (if y then (k, n.sort) ∷ [] else all_holes q qs)) ≡ true

  -- what follows of parts that agree
  abbrev Parts : Bool → Bool → Typeds TypeTree → Typeds TypeTree → Type 0
  Parts p q ps qs = p ≡ false → q ≡ false → all_agree identical p q ps qs ≡ true → all_constants_agree identical ps qs ≡ true →
      list_all paired (zip (all_locals p ps) (all_locals q qs)) ≡ true → list_all (is_one_parameter c d) (zip (all_holes p ps) (all_holes q qs)) ≡ true → ArePairs ps qs

  whole_by : (p q : Bool) (f g : Form) (i j k m : ℕ) (l n : Label TypeTree) (ps qs : Typeds TypeTree) → is_hole false f l ≡ false → is_hole false g n ≡ false →
      is_constant_expression f l ≡ p → is_constant_expression g n ≡ q → AreForms f g → agree_besides identical (compared f) (compared g) l.sort n.sort ≡ true →
      (p ≡ false → q ≡ false → all_constants_agree identical ps qs ≡ true → ArePairs ps qs) → constant_or identical false p q l.sort n.sort (all_constants_agree identical ps qs) ≡ true →
      IsPair (typed f i j l ps) (typed g k m n qs)
  whole_by true true f g i j k m l n ps qs e e' u u' o b rest h = constant e e' u u' o h
  whole_by true false f g i j k m l n ps qs e e' u u' o b rest h = cc
  whole_by false true f g i j k m l n ps qs e e' u u' o b rest h = cc
  whole_by false false f g i j k m l n ps qs e e' u u' o b rest h = node u u' o b (rest refl refl h)

  pair_by : (x y p q : Bool) (f g : Form) (i j k m : ℕ) (l n : Label TypeTree) (ps qs : Typeds TypeTree) → is_hole false f l ≡ x → is_hole false g n ≡ y →
      is_constant_expression f l ≡ p → is_constant_expression g n ≡ q → Parts p q ps qs → Asked x y p q f g i k l n ps qs → IsPair (typed f i j l ps) (typed g k m n qs)
  pair_by true true p q f g i j k m l n ps qs e e' u u' rest a = hole e e' a.agreeing (and_parts (is_one_parameter c d ((i, l.sort), (k, n.sort))) true a.holed).0
  pair_by true false p q f g i j k m l n ps qs e e' u u' rest a = let z = a.agreeing in cc
  pair_by false true p q f g i j k m l n ps qs e e' u u' rest a = let z = a.agreeing in cc
  pair_by false false p q f g i j k m l n ps qs e e' u u' rest a =
      let s = and_parts (same_outline (outline f) (outline g) && agree_besides identical (compared f) (compared g) l.sort n.sort) (all_agree identical p q ps qs) a.agreeing in
      let t = and_parts (same_outline (outline f) (outline g)) (agree_besides identical (compared f) (compared g) l.sort n.sort) s.0 in
      let o : AreOneForm f g = one_form f g t.0 in
      let z = split_pairs paired (option_to_list (local_of f)) (option_to_list (local_of g)) (all_locals p ps) (all_locals q qs) (as_many_named f g o) a.named in
      whole_by p q f g i j k m l n ps qs e e' u u' (forms_by f g o z.0) t.1 (λ v w r. rest v w s.1 r z.1 a.holed) a.constants

  parts_from : (p q : Bool) (ps qs : Typeds TypeTree) → (all_agree identical false false ps qs ≡ true → all_constants_agree identical ps qs ≡ true → list_all paired (local_pairs ps qs) ≡ true →
      list_all (is_one_parameter c d) (hole_pairs ps qs) ≡ true → ArePairs ps qs) → Parts p q ps qs
  parts_from true q ps qs r e e' v w x y = cc
  parts_from false true ps qs r e e' v w x y = cc
  parts_from false false ps qs r e e' v w x y = r v w x y

  mutual
    pair : (t u : Typed TypeTree) → agree identical false false t u ≡ true → constants_agree identical t u ≡ true → list_all paired (zip (locals false t) (locals false u)) ≡ true →
        list_all (is_one_parameter c d) (zip (holes false t) (holes false u)) ≡ true → IsPair t u
    pair (typed f i j l ps) (typed g k m n qs) h s a b =
        pair_by (is_hole false f l) (is_hole false g n) (is_constant_expression f l) (is_constant_expression g n) f g i j k m l n ps qs refl refl refl refl
        (parts_from (is_constant_expression f l) (is_constant_expression g n) ps qs (λ v w x y. pairs ps qs v w x y)) (record { agreeing = h; constants = s; named = a; holed = b })

    pub pairs : (ps qs : Typeds TypeTree) → all_agree identical false false ps qs ≡ true → all_constants_agree identical ps qs ≡ true → list_all paired (local_pairs ps qs) ≡ true →
        list_all (is_one_parameter c d) (hole_pairs ps qs) ≡ true → ArePairs ps qs
    pairs trees.none trees.none h s a b = none
    pairs trees.none (trees.more q qs) h s a b = cc
    pairs trees.none (trees.skip qs) h s a b = cc
    pairs (trees.more p ps) trees.none h s a b = cc
    pairs (trees.more p ps) (trees.more q qs) h s a b =
        let x = and_parts (agree identical false false p q) (all_agree identical false false ps qs) h in
        let y = and_parts (constants_agree identical p q) (all_constants_agree identical ps qs) s in
        let z = split_pairs paired (locals false p) (locals false q) (all_locals false ps) (all_locals false qs) (one_as_many identical p q x.0) a in
        let w = split_pairs (is_one_parameter c d) (holes false p) (holes false q) (all_holes false ps) (all_holes false qs) (as_many_holes identical false false p q x.0) b in
        more (pair p q x.0 y.0 z.0 w.0) (pairs ps qs x.1 y.1 z.1 w.1)
    pairs (trees.more p ps) (trees.skip qs) h s a b = cc
    pairs (trees.skip ps) trees.none h s a b = cc
    pairs (trees.skip ps) (trees.more q qs) h s a b = cc
    pairs (trees.skip ps) (trees.skip qs) h s a b = skip (pairs ps qs h s a b)

  -- both tests of a pair of locals
  both_tests : (xs : List (ℕ × ℕ)) → list_all (λ p. nat_eq (c.local p.0) (d.local p.1)) xs ≡ true → list_all (is_matched identical here there) xs ≡ true → list_all paired xs ≡ true
  both_tests [] h k = refl
  both_tests (x ∷ xs) h k =
      let a = and_parts (nat_eq (c.local x.0) (d.local x.1)) (list_all (λ p. nat_eq (c.local p.0) (d.local p.1)) xs) h in
      let b = and_parts (is_matched identical here there x) (list_all (is_matched identical here there) xs) k in
      and_from (paired x) (list_all paired xs) (and_from (nat_eq (c.local x.0) (d.local x.1)) (are_alike identical (sort_at here x.0) (sort_at there x.1)) a.0 b.0) (both_tests xs a.1 b.1)

  -- windows that are the same, under numbers that are alike
  pub same_pairs : (ps qs : Typeds TypeTree) → is_same identical here there ps qs ≡ true → all_constants_agree identical ps qs ≡ true → AreNumberedAlike c d ps qs → ArePairs ps qs
  same_pairs ps qs h s n =
      let p = and_parts (all_agree identical false false ps qs && is_one_to_one (local_pairs ps qs)) (list_all (is_matched identical here there) (local_pairs ps qs)) h in
      let q = and_parts (all_agree identical false false ps qs) (is_one_to_one (local_pairs ps qs)) p.0 in
      pairs ps qs q.0 s (both_tests (local_pairs ps qs) n.locals p.1) n.holes
