-- Parts behind others.
use Rattle.std.proofs.Common.{◌≡◌, ◌∙◌, ℕ, zero, suc, ◌+◌, ◌<◌, ◌≤◌, List, [], ◌∷◌, ◌++◌, length, map, take, drop, set, get_or, Option, Some, None, refl, sym, ap, subst, append-nil, arith}
use Rattle.std.proofs.lemmas.List.{append_assoc, map-append, take_all, drop_all}
use Rattle.std.specs.Option.{option_map}
use Rattle.go_types.specs.Tables.{Table}
use Rattle.go_typed.specs.declared.node.TypedNode.{TypedNode}
use Rattle.go_typed.specs.Views.{seen, AllKnown}
use Rattle.go_exprs_rules.specs.Tables.{held}
use Rattle.go_stmts_defs.specs.Laying.{header_parts, if_parts, without_absent}
use Rattle.go_exprs_engine.proofs.Public.{known_append}

pub appended : (t : Table) (xs ys zs : List (Option TypedNode)) → zs ≡ xs ++ ys → map (option_map (seen t)) zs ≡ map (option_map (seen t)) xs ++ map (option_map (seen t)) ys
appended t xs ys zs e = ap (map (option_map (seen t))) e ∙ map-append (option_map (seen t)) xs ys

pub known_appended : (k : ℕ) (xs ys zs : List (Option TypedNode)) → zs ≡ xs ++ ys → AllKnown k xs → AllKnown k ys → AllKnown k zs
known_appended k xs ys zs e h g = subst (AllKnown k) (sym e) (known_append k xs ys h g)

pub known_taken : (k n : ℕ) (xs : List (Option TypedNode)) → AllKnown k xs → AllKnown k (take n xs)
known_taken k zero xs h = tt
known_taken k (suc n) [] h = tt
known_taken k (suc n) (None ∷ xs) h = known_taken k n xs h
known_taken k (suc n) (Some x ∷ xs) h = (h.0, known_taken k n xs h.1)

-- ---- each part is changed by g

module _ {A B : Type 0} (f : A → B) (g : B → B) where
  abbrev pub changed_so_far : ℕ → List A → List B
  changed_so_far i xs = map f (take i xs) ++ map g (map f (drop i xs))

  stepped : (xs : List A) (i : ℕ) (y d : A) → i < length xs → f y ≡ g (f (get_or xs i d)) → changed_so_far (suc i) (set xs i y) ≡ changed_so_far i xs
  stepped [] i y d lt e = absurd (omega (arith, lt))
  stepped (x ∷ xs) zero y d lt e = ap (λ z. z ∷ map g (map f xs)) e
  stepped (x ∷ xs) (suc i) y d lt e = ap (λ zs. f x ∷ zs) (stepped xs i y d (omega (arith, lt)) e)

  pub one_changed : (xs : List A) (i : ℕ) (y d : A) → i < length xs → f y ≡ g (f (get_or xs i d)) → changed_so_far (i + 1) (set xs i y) ≡ changed_so_far i xs
  one_changed xs i y d lt e = let at : suc i ≡ i + 1 = omega arith in ap (λ n. changed_so_far n (set xs i y)) (sym at) ∙ stepped xs i y d lt e

  pub all_changed : (xs : List A) (i : ℕ) → length xs ≤ i → changed_so_far i xs ≡ map f xs
  all_changed xs i le = ap (λ ys. map f ys ++ map g (map f (drop i xs))) (take_all i xs le) ∙ ap (λ ys. map f xs ++ map g (map f ys)) (drop_all i xs le) ∙ append-nil (map f xs)

-- ---- three parts

pub three : {A : Type 0} (xs ys zs rs : List A) (h b e : A) → xs ≡ ys ++ e ∷ [] → ys ≡ zs ++ b ∷ [] → zs ≡ rs ++ h ∷ [] → length xs ≡ 3 → xs ≡ h ∷ b ∷ e ∷ []
three {A = A} xs ys zs [] h b e p q r l = p ∙ ap (λ us. us ++ e ∷ []) (q ∙ ap (λ us. us ++ b ∷ []) r)
three {A = A} xs ys zs (x ∷ rs) h b e p q r l =
    let whole : xs ≡ ((x ∷ rs ++ h ∷ []) ++ b ∷ []) ++ e ∷ [] = p ∙ ap (λ us. us ++ e ∷ []) (q ∙ ap (λ us. us ++ b ∷ []) r) in
    absurd (too_long rs h b e (ap length (sym whole) ∙ l))
  where
    more : (us : List A) (u : A) → length (us ++ u ∷ []) ≡ suc (length us)
    more [] u = refl
    more (v ∷ us) u = ap suc (more us u)

    too_long : (rs : List A) (h b e : A) → length (((x ∷ rs ++ h ∷ []) ++ b ∷ []) ++ e ∷ []) ≡ 3 → ⊥
    too_long rs h b e l =
        let one = more ((x ∷ rs ++ h ∷ []) ++ b ∷ []) e in
        let two = more (x ∷ rs ++ h ∷ []) b in
        let three = more (x ∷ rs) h in
        omega (arith, l, one, two, three)

pub known_middle : (k : ℕ) (h b e : Option TypedNode) → AllKnown k (h ∷ b ∷ e ∷ []) → AllKnown k (b ∷ [])
known_middle k None None e g = tt
known_middle k None (Some b) e g = (g.0, tt)
known_middle k (Some h) None e g = tt
known_middle k (Some h) (Some b) e g = (g.1.0, tt)

pub if_is : (t : Table) (h b e : Option TypedNode) (out with_block all : List (Option TypedNode)) → map (option_map (seen t)) out ≡ header_parts (option_map (seen t) h) → with_block ≡ out ++ b ∷ []
    → map (option_map (seen t)) all ≡ map (option_map (seen t)) with_block ++ held (option_map (seen t) e)
    → map (option_map (seen t)) all ≡ if_parts (map (option_map (seen t)) (h ∷ b ∷ e ∷ []))
if_is t h b e out with_block all p q r =
    let f = option_map (seen t) in
    r ∙ ap (λ xs. xs ++ held (f e)) (appended t out (b ∷ []) with_block q ∙ ap (λ xs. xs ++ f b ∷ []) p) ∙ append_assoc (header_parts (f h)) (f b ∷ []) (held (f e))

pub one_present : (t : Table) (out more xs ys : List (Option TypedNode)) (n : TypedNode) → more ≡ out ++ Some n ∷ [] → xs ≡ Some n ∷ ys
    → map (option_map (seen t)) more ++ without_absent (map (option_map (seen t)) ys) ≡ map (option_map (seen t)) out ++ without_absent (map (option_map (seen t)) xs)
one_present t out more xs ys n p q =
    let f = option_map (seen t) in
    ap (λ zs. zs ++ without_absent (map f ys)) (appended t out (Some n ∷ []) more p) ∙ append_assoc (map f out) (f (Some n) ∷ []) (without_absent (map f ys)) ∙ sym (ap (λ zs. map f out ++ without_absent (map f zs)) q)
