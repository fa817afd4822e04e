-- No name is declared twice in a block of a package where none is in its own block, and none in a function by itself.
use Rattle.std.proofs.Common.{◌≡◌, ◌∙◌, ℕ, ◌+◌, Bool, true, false, List, [], ◌∷◌, ◌++◌, map, refl, sym, ap, append_assoc, arith}
use Rattle.std.specs.Prelude.{if◌then◌else◌, ◌&&◌, ◌||◌, not, nat_eq}
use Rattle.std.proofs.lemmas.Bool.Decides.{nat_tests}
use Rattle.go_tokens.specs.Spellings.{same_text}
use Rattle.go_tokens.specs.Tokens.{TokenList}
use Rattle.go_tree.specs.declared.context.Block.{Block}
use Rattle.go_tree.specs.declared.context.Block.TheVariants as block
use Rattle.go_tree.specs.Contexts.{is_package}
use Rattle.go_tree.specs.Declarations.{Found, are_one_block, same_block}
use Rattle.go_tree.specs.Failures.{place_if}
use Rattle.go_tree.specs.Redeclared.{are_parameters, clashes, has_clash, second_declarations}
use Rattle.go_tree.specs.Units.{Place}
use Rattle.go_scopes_events.specs.Moved.{moved_block}
use Rattle.go_heads.specs.Names.{in_file}
use Rattle.go_heads.proofs.Public.{Every, every_append, eq_moved}
use Rattle.go_scopes_bodies.proofs.Lists.{none_left, none_right, no_place, a_place, or_right, or_both, or_assoc, second_false}

abbrev pub NoClash : List Found → List Found → Type 0
NoClash before ds = second_declarations before ds ≡ []

-- ---- tests

apart_clash : (d x : Found) → same_block d x ≡ false → clashes d x ≡ false
apart_clash d x e = second_false (same_text d.name x.name) (same_block d x) (not (are_parameters d.it.entity x.it.entity)) e

-- ---- lists

pub nothing_behind : (xs : List Found) → xs ++ [] ≡ xs
nothing_behind [] = refl
nothing_behind (x ∷ xs) = ap (λ ys. x ∷ ys) (nothing_behind xs)

clash_both : (d : Found) (xs ys : List Found) → has_clash d (xs ++ ys) ≡ (has_clash d xs || has_clash d ys)
clash_both d [] ys = refl
clash_both d (x ∷ xs) ys = ap (λ b. clashes d x || b) (clash_both d xs ys) ∙ or_assoc (clashes d x) (has_clash d xs) (has_clash d ys)

pub one_apart : (d : Found) (xs : List Found) → Every (λ x. same_block d x ≡ false) xs → has_clash d xs ≡ false
one_apart d [] h = refl
one_apart d (x ∷ xs) h = or_both (clashes d x) (has_clash d xs) (apart_clash d x h.0) (one_apart d xs h.1)

pub second_both : (b xs ys : List Found) → second_declarations b (xs ++ ys) ≡ second_declarations b xs ++ second_declarations (b ++ xs) ys
second_both b [] ys = ap (λ c. second_declarations c ys) (sym (nothing_behind b))
second_both b (x ∷ xs) ys =
    ap (place_if (has_clash x b) x.place) (second_both (b ++ x ∷ []) xs ys ∙ ap (λ c. second_declarations (b ++ x ∷ []) xs ++ second_declarations c ys) (append_assoc b (x ∷ []) xs))
    ∙ by (has_clash x b) (second_declarations (b ++ x ∷ []) xs) (second_declarations (b ++ x ∷ xs) ys)
  where
    by : (c : Bool) (ps qs : List Place) → place_if c x.place (ps ++ qs) ≡ place_if c x.place ps ++ qs
    by true ps qs = refl
    by false ps qs = refl

-- What stands in front of all matters where it clashes alone.
pub front_apart : (b c ys : List Found) → Every (λ d. has_clash d b ≡ false) ys → NoClash c ys → NoClash (b ++ c) ys
front_apart b c [] h e = refl
front_apart b c (d ∷ ys) h e =
    let x = no_place (has_clash d c) d.place (second_declarations (c ++ d ∷ []) ys) e in
    a_place (has_clash d (b ++ c)) d.place (second_declarations ((b ++ c) ++ d ∷ []) ys) (clash_both d b c ∙ or_both (has_clash d b) (has_clash d c) h.0 x.0)
    (ap (λ z. second_declarations z ys) (append_assoc b c (d ∷ [])) ∙ front_apart b (c ++ d ∷ []) ys h.1 x.1)

-- Where no name clashes, none does with less in front.
pub less_front : (b c ys : List Found) → NoClash (b ++ c) ys → NoClash c ys
less_front b c [] e = refl
less_front b c (d ∷ ys) e =
    let x = no_place (has_clash d (b ++ c)) d.place (second_declarations ((b ++ c) ++ d ∷ []) ys) e in
    a_place (has_clash d c) d.place (second_declarations (c ++ d ∷ []) ys) (or_right (has_clash d b) (has_clash d c) (sym (clash_both d b c) ∙ x.0))
    (less_front b (c ++ d ∷ []) ys (sym (ap (λ z. second_declarations z ys) (append_assoc b c (d ∷ []))) ∙ x.1))

-- the names of a function among those of its package
pub within : (xs ys zs : List Found) → NoClash [] (xs ++ (ys ++ zs)) → NoClash [] ys
within xs ys zs e =
    let f : NoClash xs (ys ++ zs) = none_right (second_declarations [] xs) (second_declarations xs (ys ++ zs)) (sym (second_both [] xs (ys ++ zs)) ∙ e) in
    let g : NoClash xs ys = none_left (second_declarations xs ys) (second_declarations (xs ++ ys) zs) (sym (second_both xs ys zs) ∙ f) in
    less_front xs [] ys (ap (λ b. second_declarations b ys) (nothing_behind xs) ∙ g)

-- ---- those that pass a test, where others clash with none of them

module _ (p : Found → Bool) where
  abbrev pub kept : List Found → List Found
  kept [] = []
  kept (d ∷ ds) = if p d then d ∷ kept ds else kept ds

  pub kept_both : (xs ys : List Found) → kept (xs ++ ys) ≡ kept xs ++ kept ys
  kept_both [] ys = refl
  kept_both (x ∷ xs) ys = by (p x) (kept_both xs ys)
    where
      by : (b : Bool) → kept (xs ++ ys) ≡ kept xs ++ kept ys → (if b then x ∷ kept (xs ++ ys) else kept (xs ++ ys)) ≡ (if b then x ∷ kept xs else kept xs) ++ kept ys
      by true e = ap (λ zs. x ∷ zs) e
      by false e = e

  module _ (closed : (d x : Found) → p d ≡ true → p x ≡ false → clashes d x ≡ false) where
    clash_kept : (d : Found) (xs : List Found) → p d ≡ true → has_clash d xs ≡ has_clash d (kept xs)
    clash_kept d [] e = refl
    clash_kept d (x ∷ xs) e = by (p x) refl (clash_kept d xs e)
      where
        by : (b : Bool) → p x ≡ b → has_clash d xs ≡ has_clash d (kept xs) → (clashes d x || has_clash d xs) ≡ has_clash d (if b then x ∷ kept xs else kept xs)
        by true f g = ap (λ z. clashes d x || z) g
        by false f g = ap (λ z. z || has_clash d xs) (closed d x e f) ∙ g

    pub kept_clash : (b ds : List Found) → NoClash b ds → NoClash (kept b) (kept ds)
    kept_clash b [] e = refl
    kept_clash b (d ∷ ds) e =
        let x = no_place (has_clash d b) d.place (second_declarations (b ++ d ∷ []) ds) e in
        by (p d) refl x.0 (ap (λ z. second_declarations z (kept ds)) (sym (kept_both b (d ∷ []))) ∙ kept_clash (b ++ d ∷ []) ds x.1)
      where
        by : (c : Bool) → p d ≡ c → has_clash d b ≡ false → NoClash (kept b ++ (if c then d ∷ [] else [])) (kept ds) → NoClash (kept b) (if c then d ∷ kept ds else kept ds)
        by true f g h = a_place (has_clash d (kept b)) d.place (second_declarations (kept b ++ d ∷ []) (kept ds)) (sym (clash_kept d b f) ∙ g) h
        by false f g h = sym (ap (λ z. second_declarations z (kept ds)) (nothing_behind (kept b))) ∙ h

-- ---- names of the package, and locals

abbrev pub is_shared : Found → Bool
is_shared d = is_package d.it.block

abbrev pub is_local : Found → Bool
is_local d = not (is_package d.it.block)

other_blocks : (m k : ℕ) (b c : Block) → is_package b ≡ true → is_package c ≡ false → are_one_block m b k c ≡ false
other_blocks m k block.Package block.Package e f = cc
other_blocks m k block.Package (block.Local j) e f = refl
other_blocks m k (block.Local i) c e f = cc

other_blocks_too : (m k : ℕ) (b c : Block) → not (is_package b) ≡ true → not (is_package c) ≡ false → are_one_block m b k c ≡ false
other_blocks_too m k block.Package c e f = cc
other_blocks_too m k (block.Local i) block.Package e f = refl
other_blocks_too m k (block.Local i) (block.Local j) e f = cc

shared_closed : (d x : Found) → is_shared d ≡ true → is_shared x ≡ false → clashes d x ≡ false
shared_closed d x e f = apart_clash d x (other_blocks d.file x.file d.it.block x.it.block e f)

local_closed : (d x : Found) → is_local d ≡ true → is_local x ≡ false → clashes d x ≡ false
local_closed d x e f = apart_clash d x (other_blocks_too d.file x.file d.it.block x.it.block e f)

pub shared_clash : (ds : List Found) → NoClash [] ds → NoClash [] (kept is_shared ds)
shared_clash ds e = kept_clash is_shared shared_closed [] ds e

pub local_clash : (ds : List Found) → NoClash [] ds → NoClash [] (kept is_local ds)
local_clash ds e = kept_clash is_local local_closed [] ds e

-- Where neither names of the package clash nor locals, no names do.
both_clash : (b ds : List Found) → NoClash (kept is_shared b) (kept is_shared ds) → NoClash (kept is_local b) (kept is_local ds) → NoClash b ds
both_clash b [] e f = refl
both_clash b (d ∷ ds) e f = by (is_package d.it.block) refl (λ x y. both_clash (b ++ d ∷ []) ds (ap (λ z. second_declarations z (kept is_shared ds)) (kept_both is_shared b (d ∷ [])) ∙ x) (ap (λ z. second_declarations z (kept is_local ds)) (kept_both is_local b (d ∷ [])) ∙ y)) e f
  where
    by : (c : Bool) → is_package d.it.block ≡ c
        → (NoClash (kept is_shared b ++ (if c then d ∷ [] else [])) (kept is_shared ds) → NoClash (kept is_local b ++ (if not c then d ∷ [] else [])) (kept is_local ds) → NoClash (b ++ d ∷ []) ds)
        → NoClash (kept is_shared b) (if c then d ∷ kept is_shared ds else kept is_shared ds) → NoClash (kept is_local b) (if not c then d ∷ kept is_local ds else kept is_local ds) → NoClash b (d ∷ ds)
    by true s go e f =
        let x = no_place (has_clash d (kept is_shared b)) d.place (second_declarations (kept is_shared b ++ d ∷ []) (kept is_shared ds)) e in
        a_place (has_clash d b) d.place (second_declarations (b ++ d ∷ []) ds) (clash_kept is_shared shared_closed d b s ∙ x.0)
        (go x.1 (ap (λ z. second_declarations z (kept is_local ds)) (nothing_behind (kept is_local b)) ∙ f))
    by false s go e f =
        let x = no_place (has_clash d (kept is_local b)) d.place (second_declarations (kept is_local b ++ d ∷ []) (kept is_local ds)) f in
        a_place (has_clash d b) d.place (second_declarations (b ++ d ∷ []) ds) (clash_kept is_local local_closed d b (ap not s) ∙ x.0)
        (go (ap (λ z. second_declarations z (kept is_shared ds)) (nothing_behind (kept is_shared b)) ∙ e) x.1)

pub shared_and_local : (ds : List Found) → NoClash [] (kept is_shared ds) → NoClash [] (kept is_local ds) → NoClash [] ds
shared_and_local ds e f = both_clash [] ds e f

-- ---- elsewhere

one_block : (n a : ℕ) (m k : ℕ) (b c : Block) → m ≡ 0 → k ≡ 0 → are_one_block n (moved_block a b) n (moved_block a c) ≡ are_one_block m b k c
one_block n a m k block.Package block.Package e f = refl
one_block n a m k block.Package (block.Local j) e f = refl
one_block n a m k (block.Local i) block.Package e f = refl
one_block n a m k (block.Local i) (block.Local j) e f =
    let x : nat_eq n n ≡ nat_eq m k = let y : nat_eq n n ≡ true = grind (arith, nat_tests) in let z : nat_eq m k ≡ true = grind (arith, nat_tests) in y ∙ sym z in
    ap (λ c. c && nat_eq (a + i) (a + j)) x ∙ ap (λ c. nat_eq m k && c) (eq_moved a i j)

module _ (n : ℕ) (l : TokenList) (a : ℕ) where
  abbrev up : Found → Found
  up = in_file n l a

  clash_up : (d x : Found) → d.file ≡ 0 → x.file ≡ 0 → clashes (up d) (up x) ≡ clashes d x
  clash_up d x e f = ap (λ b. same_text d.name x.name && b && not (are_parameters d.it.entity x.it.entity)) (one_block n a d.file x.file d.it.block x.it.block e f)

  has_up : (d : Found) (xs : List Found) → d.file ≡ 0 → Every (λ x. x.file ≡ 0) xs → has_clash (up d) (map up xs) ≡ has_clash d xs
  has_up d [] e h = refl
  has_up d (x ∷ xs) e h = ap (λ b. b || has_clash (up d) (map up xs)) (clash_up d x e h.0) ∙ ap (λ b. clashes d x || b) (has_up d xs e h.1)

  map_both : (xs ys : List Found) → map up (xs ++ ys) ≡ map up xs ++ map up ys
  map_both [] ys = refl
  map_both (x ∷ xs) ys = ap (λ zs. up x ∷ zs) (map_both xs ys)

  pub up_from : (b ds : List Found) → Every (λ x. x.file ≡ 0) b → Every (λ x. x.file ≡ 0) ds → NoClash b ds → NoClash (map up b) (map up ds)
  up_from b [] h g e = refl
  up_from b (d ∷ ds) h g e =
      let x = no_place (has_clash d b) d.place (second_declarations (b ++ d ∷ []) ds) e in
      a_place (has_clash (up d) (map up b)) (up d).place (second_declarations (map up b ++ up d ∷ []) (map up ds)) (has_up d b g.0 h ∙ x.0)
      (ap (λ z. second_declarations z (map up ds)) (sym (map_both b (d ∷ []))) ∙ up_from (b ++ d ∷ []) ds (every_append (λ x. x.file ≡ 0) b (d ∷ []) h (g.0, tt)) g.1 x.1)

  pub up_to : (b ds : List Found) → Every (λ x. x.file ≡ 0) b → Every (λ x. x.file ≡ 0) ds → NoClash (map up b) (map up ds) → NoClash b ds
  up_to b [] h g e = refl
  up_to b (d ∷ ds) h g e =
      let x = no_place (has_clash (up d) (map up b)) (up d).place (second_declarations (map up b ++ up d ∷ []) (map up ds)) e in
      a_place (has_clash d b) d.place (second_declarations (b ++ d ∷ []) ds) (sym (has_up d b g.0 h) ∙ x.0)
      (up_to (b ++ d ∷ []) ds (every_append (λ x. x.file ≡ 0) b (d ∷ []) h (g.0, tt)) g.1 (ap (λ z. second_declarations z (map up ds)) (map_both b (d ∷ [])) ∙ x.1))
