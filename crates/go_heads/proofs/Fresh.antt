-- Which names of a function are new follows from the function by itself.
use Rattle.std.proofs.Common.{◌≡◌, ◌∙◌, ℕ, zero, suc, ◌+◌, ◌<◌, ◌≤◌, Bool, true, false, List, [], ◌∷◌, ◌++◌, map, refl, sym, ap, arith}
use Rattle.std.specs.Prelude.{if◌then◌else◌, ◌&&◌, ◌||◌, not, nat_eq, nat_lt, slice_get}
use Rattle.std.proofs.lemmas.Bool.Decides.{nat_tests}
use Rattle.go_tokens.specs.Tokens.{TokenList}
use Rattle.go_tree.specs.declared.context.Block.{Block}
use Rattle.go_tree.specs.declared.context.Block.TheVariants as block
use Rattle.go_tree.specs.declared.context.Manner.TheVariants as manner
use Rattle.go_tree.specs.declared.event.Declaration.{Declaration}
use Rattle.go_tree.specs.declared.event.Event.{Event}
use Rattle.go_tree.specs.declared.event.Event.TheVariants as event
use Rattle.go_tree.specs.Contexts.{is_package}
use Rattle.go_tree.specs.Declarations.{Found, found_in, are_one_block, same_block, is_variable, is_reused_of, is_reused, may_be_reused, is_new, new_among}
use Rattle.go_tokens.specs.Spellings.{same_text}
use Rattle.go_tree.specs.Units.{word, is_blank}
use Rattle.go_scopes_events.specs.Moved.{moved_block, moved_declaration, moved_event}
use Rattle.go_scopes_events.specs.Orders.{EachDeclared}
use Rattle.go_scopes_events.proofs.Public.{true_false}
use Rattle.go_heads.specs.Functions.{texts_from}
use Rattle.go_heads.specs.Names.{text_there, no_place, found_by, in_file}
use Rattle.go_heads.proofs.Blocks.{In, IsIn}

-- ---- lists

abbrev pub Every : {A : Type 0} → (A → Type 0) → List A → Type 0
Every Q [] = Unit {0}
Every Q (x ∷ xs) = Q x × Every Q xs

pub every_append : {A : Type 0} (Q : A → Type 0) (xs ys : List A) → Every Q xs → Every Q ys → Every Q (xs ++ ys)
every_append Q [] ys h g = g
every_append Q (x ∷ xs) ys h g = (h.0, every_append Q xs ys h.1 g)

pub every_map : {A : Type 0} (Q R : A → Type 0) (xs : List A) → ((x : A) → Q x → R x) → Every Q xs → Every R xs
every_map Q R [] f h = tt
every_map Q R (x ∷ xs) f h = (f x h.0, every_map Q R xs f h.1)

pub each_unmap : (Q : Declaration → Type 0) (a : ℕ) (es : List Event) → EachDeclared Q (map (moved_event a) es) → EachDeclared (λ d. Q (moved_declaration a d)) es
each_unmap Q a [] h = tt
each_unmap Q a (event.Declaration d ∷ es) h = (h.0, each_unmap Q a es h.1)
each_unmap Q a (e ∷ es) h = each_unmap Q a es h

pub texts_at : (l : TokenList) (a k t : ℕ) → t < k → text_there (slice_get (texts_from l a k) t) ≡ word l (a + t)
texts_at l a zero t lt = absurd (omega (arith, lt))
texts_at l a (suc k) zero lt = ap (word l) (let z : a ≡ a + 0 = omega arith in z)
texts_at l a (suc k) (suc t) lt = texts_at l (suc a) k t (omega (arith, lt)) ∙ ap (word l) (let z : suc a + t ≡ a + suc t = omega arith in z)

-- ---- declarations elsewhere

-- in no block that begins from the token a up to z of the file n
abbrev pub Aside : ℕ → ℕ → ℕ → Found → Type 0
Aside n a z x = (y : ℕ) → a ≤ y → y < z → are_one_block n (block.Local y) x.file x.it.block ≡ false

other_block : (n m y : ℕ) (b : Block) → nat_eq n m ≡ false → are_one_block n (block.Local y) m b ≡ false
other_block n m y block.Package e = refl
other_block n m y (block.Local j) e = ap (λ x. x && nat_eq y j) e

-- in another file than n
abbrev pub Other : ℕ → Found → Type 0
Other n x = nat_eq n x.file ≡ false

pub other_found : (n m : ℕ) (l : TokenList) (es : List Event) → nat_eq n m ≡ false → Every (Other n) (found_in m l es)
other_found n m l [] e = tt
other_found n m l (event.Declaration d ∷ es) e = (e, other_found n m l es e)
other_found n m l (x ∷ es) e = other_found n m l es e

pub other_aside : (n a z : ℕ) (xs : List Found) → Every (Other n) xs → Every (Aside n a z) xs
other_aside n a z xs h = every_map (Other n) (Aside n a z) xs (λ x e y lo hi. other_block n x.file y x.it.block e) h

second_false : (b c : Bool) → c ≡ false → (b && c) ≡ false
second_false true c e = e
second_false false c e = refl

block_aside : (n a z lo hi y : ℕ) (b : Block) → ((x : ℕ) → lo ≤ x → x < hi → a ≤ x → x < z → ⊥) → In lo hi b → a ≤ y → y < z → are_one_block n (block.Local y) n b ≡ false
block_aside n a z lo hi y block.Package f h low high = refl
block_aside n a z lo hi y (block.Local j) f h low high = second_false (nat_eq n n) (nat_eq y j) (by (nat_eq y j) refl)
  where
    by : (c : Bool) → nat_eq y j ≡ c → c ≡ false
    by false e = refl
    by true e = let same : y ≡ j = grind (arith, nat_tests) in absurd (f j h.0 h.1 (omega (arith, low, same)) (omega (arith, high, same)))

pub same_aside : (n a z lo hi : ℕ) (l : TokenList) (es : List Event) → ((x : ℕ) → lo ≤ x → x < hi → a ≤ x → x < z → ⊥) → EachDeclared (IsIn lo hi) es → Every (Aside n a z) (found_in n l es)
same_aside n a z lo hi l [] f h = tt
same_aside n a z lo hi l (event.Declaration d ∷ es) f h = (λ y low high. block_aside n a z lo hi y d.block f h.0 low high, same_aside n a z lo hi l es f h.1)
same_aside n a z lo hi l (x ∷ es) f h = same_aside n a z lo hi l es f h

-- ---- reused names

or_assoc : (x y z : Bool) → (x || (y || z)) ≡ ((x || y) || z)
or_assoc true y z = refl
or_assoc false y z = refl

or_false : (x : Bool) → (x || false) ≡ x
or_false true = refl
or_false false = refl

reused_append : (d : Found) (xs ys : List Found) → is_reused d (xs ++ ys) ≡ (is_reused d xs || is_reused d ys)
reused_append d [] ys = refl
reused_append d (x ∷ xs) ys = ap (λ b. is_reused_of d x || b) (reused_append d xs ys) ∙ or_assoc (is_reused_of d x) (is_reused d xs) (is_reused d ys)

no_reuse : (a b c d : Bool) → c ≡ false → (a && b && c && d) ≡ false
no_reuse false b c d e = refl
no_reuse true false c d e = refl
no_reuse true true c d e = ap (λ z. z && d) e

apart_reused : (d : Found) (xs : List Found) → Every (λ x. same_block d x ≡ false) xs → is_reused d xs ≡ false
apart_reused d [] h = refl
apart_reused d (x ∷ xs) h =
    ap (λ b. b || is_reused d xs) (no_reuse (is_variable x.it.entity) (nat_lt x.it.name d.it.statement) (same_block d x) (same_text d.name x.name) h.0) ∙ apart_reused d xs h.1

between : (d : Found) (xs fs ys : List Found) → Every (λ x. same_block d x ≡ false) xs → Every (λ x. same_block d x ≡ false) ys → is_reused d (xs ++ (fs ++ ys)) ≡ is_reused d fs
between d xs fs ys h g =
    reused_append d xs (fs ++ ys) ∙ ap (λ b. b || is_reused d (fs ++ ys)) (apart_reused d xs h)
    ∙ reused_append d fs ys ∙ ap (λ b. is_reused d fs || b) (apart_reused d ys g) ∙ or_false (is_reused d fs)

-- ---- a function's names

eq_self : (n : ℕ) → nat_eq n n ≡ true
eq_self n = grind (arith, nat_tests)

eq_moved : (a i j : ℕ) → nat_eq (a + i) (a + j) ≡ nat_eq i j
eq_moved a i j = grind (arith, nat_tests)

less_moved : (a i j : ℕ) → nat_lt (a + i) (a + j) ≡ nat_lt i j
less_moved a i j = grind (arith, nat_tests)

module _ (n : ℕ) (l : TokenList) (a : ℕ) (w : ℕ → List ℕ) where
  abbrev up : Found → Found
  up = in_file n l a

  abbrev own : Declaration → Found
  own d = record { file = 0; name = w d.name; place = no_place; it = d }

  pub found_moved : (es : List Event) → EachDeclared (λ d. w d.name ≡ word l (a + d.name)) es → found_in n l (map (moved_event a) es) ≡ map up (found_by w es)
  found_moved [] h = refl
  found_moved (event.Declaration d ∷ es) h =
      ap (λ x. let it : Found = record (up (own d)) { name = x } in it ∷ found_in n l (map (moved_event a) es)) (sym h.0) ∙ ap (λ xs. up (own d) ∷ xs) (found_moved es h.1)
  found_moved (e ∷ es) h = found_moved es h

  block_moved : (b c : Block) → are_one_block n (moved_block a b) n (moved_block a c) ≡ are_one_block 0 b 0 c
  block_moved block.Package block.Package = refl
  block_moved block.Package (block.Local j) = refl
  block_moved (block.Local i) block.Package = refl
  block_moved (block.Local i) (block.Local j) = ap (λ x. x && nat_eq (a + i) (a + j)) (eq_self n) ∙ eq_moved a i j

  reused_of_up : (d x : Declaration) → is_reused_of (up (own d)) (up (own x)) ≡ is_reused_of (own d) (own x)
  reused_of_up d x =
      ap (λ y. is_variable x.entity && y && are_one_block n (moved_block a d.block) n (moved_block a x.block) && same_text (w d.name) (w x.name)) (less_moved a x.name d.statement)
      ∙ ap (λ y. is_variable x.entity && nat_lt x.name d.statement && y && same_text (w d.name) (w x.name)) (block_moved d.block x.block)

  reused_up : (d : Declaration) (es : List Event) → is_reused (up (own d)) (map up (found_by w es)) ≡ is_reused (own d) (found_by w es)
  reused_up d [] = refl
  reused_up d (event.Declaration x ∷ es) =
      ap (λ b. b || is_reused (up (own d)) (map up (found_by w es))) (reused_of_up d x) ∙ ap (λ b. is_reused_of (own d) (own x) || b) (reused_up d es)
  reused_up d (e ∷ es) = reused_up d es

  module _ (all : List Found) (whole : List Event) where
    abbrev pub Fine : Declaration → Type 0
    Fine d = is_new all (up (own d)) ≡ is_new (found_by w whole) (own d)

    new_by : (d : Declaration) (b : Bool) → is_package d.block ≡ b → (is_package d.block ≡ true → d.manner ≡ manner.Declared)
        → (is_package d.block ≡ false → is_reused (up (own d)) all ≡ is_reused (own d) (found_by w whole)) → Fine d
    new_by d true e m r =
        ap (λ x. not (is_blank (w d.name)) && not (may_be_reused x && is_reused (up (own d)) all)) (m e)
        ∙ sym (ap (λ x. not (is_blank (w d.name)) && not (may_be_reused x && is_reused (own d) (found_by w whole))) (m e))
    new_by d false e m r = ap (λ x. not (is_blank (w d.name)) && not (may_be_reused d.manner && x)) (r e)

    if_up : (b : Bool) (d : Found) (xs : List Found) → (if b then up d ∷ map up xs else map up xs) ≡ map up (if b then d ∷ xs else xs)
    if_up true d xs = refl
    if_up false d xs = refl

    pub all_new : (es : List Event) → EachDeclared Fine es → new_among all (map up (found_by w es)) ≡ map up (new_among (found_by w whole) (found_by w es))
    all_new [] h = refl
    all_new (event.Declaration d ∷ es) h =
        ap (λ b. if b then up (own d) ∷ new_among all (map up (found_by w es)) else new_among all (map up (found_by w es))) h.0
        ∙ ap (λ xs. if is_new (found_by w whole) (own d) then up (own d) ∷ xs else xs) (all_new es h.1)
        ∙ if_up (is_new (found_by w whole) (own d)) (own d) (new_among (found_by w whole) (found_by w es))
    all_new (e ∷ es) h = all_new es h

  -- A function whose names stand between others that are in none of its blocks.
  module _ (z : ℕ) (whole : List Event) (before behind : List Found) (front : Every (Aside n a z) before) (back : Every (Aside n a z) behind) where
    abbrev all_found : List Found
    all_found = before ++ (map up (found_by w whole) ++ behind)

    apart : (b : Block) (xs : List Found) → is_package b ≡ false → In a z (moved_block a b) → Every (Aside n a z) xs → Every (λ x. are_one_block n (moved_block a b) x.file x.it.block ≡ false) xs
    apart block.Package xs e h g = absurd (true_false true refl e)
    apart (block.Local i) xs e h g = every_map (Aside n a z) (λ x. are_one_block n (block.Local (a + i)) x.file x.it.block ≡ false) xs (λ x f. f (a + i) h.0 h.1) g

    pub one_fine : (d : Declaration) → In a z (moved_block a d.block) → (is_package d.block ≡ true → d.manner ≡ manner.Declared) → Fine all_found whole d
    one_fine d h m =
        new_by all_found whole d (is_package d.block) refl m
        (λ e. between (up (own d)) before (map up (found_by w whole)) behind (apart d.block before e h front) (apart d.block behind e h back) ∙ reused_up d whole)
