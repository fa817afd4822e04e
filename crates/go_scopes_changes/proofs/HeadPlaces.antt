-- Declarations of the package at the places of the heads: they need the same there, after any number of rounds.
use Rattle.std.proofs.Common.{◌≡◌, ◌∙◌, ℕ, zero, suc, ◌+◌, ◌-◌, ◌<◌, inl, inr, ◌⊎◌, Bool, true, false, List, [], ◌∷◌, ◌++◌, map, refl, sym, ap, arith}
use Rattle.std.specs.Prelude.{if◌then◌else◌, ◌&&◌, ◌||◌, nat_eq}
use Rattle.std.proofs.lemmas.Bool.Decides.{nat_tests}
use Rattle.go_grammar.specs.Trees.{parts}
use Rattle.go_tree.specs.declared.context.Block.TheVariants as block
use Rattle.go_tree.specs.Declarations.{Found}
use Rattle.go_tree.specs.Lookups.{Asked}
use Rattle.go_tree.specs.Needs.{Needed, needs, is_same, needs_of, is_among, same_way, is_known, with_one, with_all, all_needed, needs_itself}
use Rattle.go_heads.specs.Heads.{File, in_bodies, place_outside}
use Rattle.go_heads.specs.Names.{no_place}
use Rattle.go_heads.specs.Objects.{file_in}
use Rattle.go_heads.specs.Told.{place_of}
use Rattle.go_heads.proofs.Public.{Every, every_append, place_next, place_order}
use Rattle.go_scopes_changes.proofs.Sited.{SourceOut}

-- ---- places

equal_test : (n : ℕ) → nat_eq n n ≡ true
equal_test n = grind (arith, nat_tests)

pub same_test : (a b : ℕ) → nat_eq a b ≡ true → a ≡ b
same_test a b e = grind (arith, nat_tests)

less_test : (a b : ℕ) → a < b → nat_eq a b ≡ false
less_test a b lt = grind (arith, nat_tests)

more_test : (a b : ℕ) → b < a → nat_eq a b ≡ false
more_test a b lt = grind (arith, nat_tests)

module _ (p : ℕ → Bool) where
  less_place : (a b : ℕ) → p a ≡ false → a < b → place_outside p a < place_outside p b
  less_place a b e lt =
      let z : suc a + (b - suc a) ≡ b = omega (arith, lt) in
      omega (arith, place_next p a e, place_order p (suc a) (b - suc a), ap (place_outside p) z)

  -- two tokens outside of bodies are one exactly where their places are
  pub place_test : (a b : ℕ) → p a ≡ false → p b ≡ false → nat_eq (place_outside p a) (place_outside p b) ≡ nat_eq a b
  place_test a b e f = by (order a b)
    where
      order : (a b : ℕ) → (a < b) ⊎ (b < a) ⊎ (a ≡ b)
      order a b = grind arith

      by : (a < b) ⊎ (b < a) ⊎ (a ≡ b) → nat_eq (place_outside p a) (place_outside p b) ≡ nat_eq a b
      by (inl lt) = less_test (place_outside p a) (place_outside p b) (less_place a b e lt) ∙ sym (less_test a b lt)
      by (inr (inl lt)) = more_test (place_outside p a) (place_outside p b) (less_place b a f lt) ∙ sym (more_test a b lt)
      by (inr (inr q)) = ap (λ c. nat_eq (place_outside p a) (place_outside p c)) (sym q) ∙ equal_test (place_outside p a) ∙ sym (ap (λ c. nat_eq a c) (sym q) ∙ equal_test a)

-- ---- declarations

pub map_append : {A B : Type 0} (f : A → B) (xs ys : List A) → map f (xs ++ ys) ≡ map f xs ++ map f ys
map_append f [] ys = refl
map_append f (x ∷ xs) ys = ap (λ zs. f x ∷ zs) (map_append f xs ys)

module _ (fs : List File) where
  abbrev pub bodies : ℕ → ℕ → Bool
  bodies n = in_bodies (parts (file_in fs n).tree)

  abbrev pub place_at : ℕ → ℕ → ℕ
  place_at n = place_outside (bodies n)

  -- a declaration at the place of the head, with its specification
  abbrev pub at_head : Found → Found
  at_head d = record {
    file = d.file;
    name = d.name;
    place = no_place;
    it = record {
      name = place_at d.file d.it.name;
      entity = d.it.entity;
      manner = d.it.manner;
      block = block.Package;
      scope = record { from = 0; to = 0 };
      statement = 0;
      source = place_of (place_at d.file) d.it.source;
      column = d.it.column;
    };
  }

  abbrev pub need_at_head : Needed → Needed
  need_at_head x = record { it = at_head x.it; full = x.full }

  -- Its name stands outside of bodies, with its specification.
  pub record IsOut (d : Found) : Type 0 where
    pub name : bodies d.file d.it.name ≡ false
    pub source : SourceOut (bodies d.file) d.it.source

  abbrev pub AreOut : List Needed → Type 0
  AreOut = Every (λ x. IsOut x.it)

  same_at_head : (d e : Found) → IsOut d → IsOut e → is_same (at_head d) (at_head e) ≡ is_same d e
  same_at_head d e h k = by (nat_eq d.file e.file) refl
    where
      by : (c : Bool) → nat_eq d.file e.file ≡ c → (c && nat_eq (place_at d.file d.it.name) (place_at e.file e.it.name)) ≡ (c && nat_eq d.it.name e.it.name)
      by false f = refl
      by true f =
          let same : d.file ≡ e.file = same_test d.file e.file f in
          ap (λ i. nat_eq (place_at d.file d.it.name) (place_at i e.it.name)) (sym same) ∙ place_test (bodies d.file) d.it.name e.it.name h.name (ap (λ i. bodies i e.it.name) same ∙ k.name)

  known_at_head : (x : Needed) (xs : List Needed) → IsOut x.it → AreOut xs → is_known (need_at_head x) (map need_at_head xs) ≡ is_known x xs
  known_at_head x [] h k = refl
  known_at_head x (y ∷ xs) h k =
      ap (λ b. (b && same_way x.full y.full) || is_known (need_at_head x) (map need_at_head xs)) (same_at_head x.it y.it h k.0)
      ∙ ap (λ b. (is_same x.it y.it && same_way x.full y.full) || b) (known_at_head x xs h k.1)

  among_at_head : (d : Found) (xs : List Needed) → IsOut d → AreOut xs → is_among (at_head d) (map need_at_head xs) ≡ is_among d xs
  among_at_head d [] h k = refl
  among_at_head d (x ∷ xs) h k =
      ap (λ b. b || is_among (at_head d) (map need_at_head xs)) (same_at_head d x.it h k.0) ∙ ap (λ b. is_same d x.it || b) (among_at_head d xs h k.1)

  one_at_head : (x : Needed) (xs : List Needed) → IsOut x.it → AreOut xs → with_one (need_at_head x) (map need_at_head xs) ≡ map need_at_head (with_one x xs)
  one_at_head x xs h k = ap (λ b. if b then map need_at_head xs else map need_at_head xs ++ need_at_head x ∷ []) (known_at_head x xs h k) ∙ by (is_known x xs)
    where
      by : (b : Bool) → (if b then map need_at_head xs else map need_at_head xs ++ need_at_head x ∷ []) ≡ map need_at_head (if b then xs else xs ++ x ∷ [])
      by true = refl
      by false = sym (map_append need_at_head xs (x ∷ []))

  one_out : (x : Needed) (xs : List Needed) → IsOut x.it → AreOut xs → AreOut (with_one x xs)
  one_out x xs h k = by (is_known x xs)
    where
      by : (b : Bool) → AreOut (if b then xs else xs ++ x ∷ [])
      by true = k
      by false = every_append (λ y. IsOut y.it) xs (x ∷ []) k (h, tt)

  all_at_head : (ys xs : List Needed) → AreOut ys → AreOut xs → with_all (map need_at_head ys) (map need_at_head xs) ≡ map need_at_head (with_all ys xs)
  all_at_head [] xs h k = refl
  all_at_head (y ∷ ys) xs h k = ap (with_all (map need_at_head ys)) (one_at_head y xs h.0 k) ∙ all_at_head ys (with_one y xs) h.1 (one_out y xs h.0 k)

  all_out : (ys xs : List Needed) → AreOut ys → AreOut xs → AreOut (with_all ys xs)
  all_out [] xs h k = k
  all_out (y ∷ ys) xs h k = all_out ys (with_one y xs) h.1 (one_out y xs h.0 k)

  -- What it needs at once is needed at the places of the heads, and stands outside of bodies.
  pub record NeedsSo (asks others : List Asked) (x : Needed) : Type 0 where
    pub same : needs others (need_at_head x) ≡ map need_at_head (needs asks x)
    pub out : AreOut (needs asks x)

  module _ (asks others : List Asked) (each : (x : Needed) → IsOut x.it → NeedsSo asks others x) where
    round_at_head : (xs : List Needed) → AreOut xs → needs_of others (map need_at_head xs) ≡ map need_at_head (needs_of asks xs)
    round_at_head [] h = refl
    round_at_head (x ∷ xs) h =
        ap (λ l. l ++ needs_of others (map need_at_head xs)) (each x h.0).same ∙ ap (λ l. map need_at_head (needs asks x) ++ l) (round_at_head xs h.1) ∙ sym (map_append need_at_head (needs asks x) (needs_of asks xs))

    round_out : (xs : List Needed) → AreOut xs → AreOut (needs_of asks xs)
    round_out [] h = tt
    round_out (x ∷ xs) h = every_append (λ y. IsOut y.it) (needs asks x) (needs_of asks xs) (each x h.0).out (round_out xs h.1)

    rounds_at_head : (k : ℕ) (xs : List Needed) → AreOut xs → all_needed others k (map need_at_head xs) ≡ map need_at_head (all_needed asks k xs)
    rounds_at_head zero xs h = refl
    rounds_at_head (suc k) xs h =
        ap (λ l. all_needed others k (with_all l (map need_at_head xs))) (round_at_head xs h)
        ∙ ap (all_needed others k) (all_at_head (needs_of asks xs) xs (round_out xs h) h)
        ∙ rounds_at_head k (with_all (needs_of asks xs) xs) (all_out (needs_of asks xs) xs (round_out xs h) h)

    rounds_out : (k : ℕ) (xs : List Needed) → AreOut xs → AreOut (all_needed asks k xs)
    rounds_out zero xs h = h
    rounds_out (suc k) xs h = rounds_out k (with_all (needs_of asks xs) xs) (all_out (needs_of asks xs) xs (round_out xs h) h)

    -- It needs itself at the places of the heads where it does.
    pub itself_at_head : (k : ℕ) (d : Found) → IsOut d → needs_itself others k (at_head d) ≡ needs_itself asks k d
    itself_at_head k d h =
        let first : Needed = record { it = d; full = false } in
        let one : NeedsSo asks others first = each first h in
        let begun : List Needed = with_all (needs asks first) [] in
        let out : AreOut begun = all_out (needs asks first) [] one.out tt in
        ap (λ l. is_among (at_head d) (all_needed others k (with_all l []))) one.same
        ∙ ap (λ l. is_among (at_head d) (all_needed others k l)) (all_at_head (needs asks first) [] one.out tt)
        ∙ ap (is_among (at_head d)) (rounds_at_head k begun out)
        ∙ among_at_head d (all_needed asks k begun) h (rounds_out k begun out)
