-- The local meanings of a file stand in order and nest, as its events do.
use Rattle.std.proofs.Common.{◌≡◌, ℕ, suc, ◌<◌, ◌≤◌, Bool, true, false, if◌then◌else◌, nat_eq, List, [], ◌∷◌, ◌++◌, refl, sym, ap, subst, arith}
use Rattle.std.proofs.lemmas.Bool.Decides.{nat_tests}
use Rattle.go_tokens.specs.Tokens.{TokenList}
use Rattle.go_tree.specs.declared.context.Block.{Block}
use Rattle.go_tree.specs.declared.context.Block.TheVariants as block
use Rattle.go_tree.specs.declared.context.Entity.{Entity}
use Rattle.go_tree.specs.declared.context.Entity.TheVariants as entity
use Rattle.go_tree.specs.declared.context.Scope.{Scope}
use Rattle.go_tree.specs.declared.event.Declaration.{Declaration}
use Rattle.go_tree.specs.declared.event.Event.{Event}
use Rattle.go_tree.specs.declared.event.Event.TheVariants as event
use Rattle.go_tree.specs.Units.{word, bytes_at}
use Rattle.go_tree.specs.Declarations.{Found, found_in, found_from, found, is_new, new_among, declarations}
use Rattle.go_tree.specs.Imports.{imports_fmt}
use Rattle.go_tree.specs.Meanings.{Meaning, Numbers, first_numbers, own_number, numbers_behind, numbered, imported_meaning, imported_from, meanings}
use Rattle.go_tree.specs.Extents as extents
use Rattle.go_tree.specs.Meanings as meanings
use Rattle.go_tree.specs.Units as units
use Rattle.go_scopes_events.specs.Orders.{AreInOrder, EachDeclared, Nests, ScopesNest, BeginsAt, BeginsIn, IsFollowed}
use Rattle.go_scopes_events.specs.Scopes.{is_local, locals_of, scope_of, Each, AreNested, token_of, AreSwept, AreOrderly}

swept_from : (i k : ℕ) (ms : List Meaning) → i ≤ k → AreSwept k ms → AreSwept i ms
swept_from i k [] le h = tt
swept_from i k (m ∷ ms) le h = (omega (arith, le, h.0), h.1, h.2, h.3)

begins_behind : (e : Entity) (name from : ℕ) → BeginsAt e name from → name ≤ from
begins_behind entity.Type name from h = omega (arith, h)
begins_behind entity.Function name from h = absurd h
begins_behind entity.Constant name from h = omega (arith, h)
begins_behind entity.Variable name from h = omega (arith, h)
begins_behind entity.Parameter name from h = omega (arith, h)

module _ (n : ℕ) (all : List Found) where
  -- the local meanings in the file n of declarations
  abbrev locals : Numbers → List Found → List Meaning
  locals p ds = locals_of n (numbered p (new_among all ds))

  abbrev found_at : ℕ → TokenList → Declaration → Found
  found_at k ts d = record { file = k; name = word ts d.name; place = bytes_at k ts d.name; it = d }

  -- One more declaration in front. What holds of the others, and of them with it if it is local in the file, holds of all.
  one_more : (Q : List Meaning → Type 0) (k : ℕ) (ts : TokenList) (d : Declaration) (ds : List Found) (p : Numbers) → ((p : Numbers) → Q (locals p ds)) → ((i : ℕ) (m : Meaning) (p : Numbers) → nat_eq k n ≡ true → d.block ≡ block.Local i → token_of m.source ≡ d.name → scope_of m.extent ≡ d.scope → Q (m ∷ locals p ds)) → Q (locals p (found_at k ts d ∷ ds))
  one_more Q k ts d ds p f g = by (is_new all (found_at k ts d))
    where
      in_block : (b : Block) → d.block ≡ b → (m : Meaning) → m.extent ≡ extents.extent_by k d.scope b → token_of m.source ≡ d.name → (p : Numbers) → Q (if is_local n m.extent then m ∷ locals p ds else locals p ds)
      in_block block.Package e m h t p = subst (λ x. Q (if is_local n x then m ∷ locals p ds else locals p ds)) (sym h) (f p)
      in_block (block.Local i) e m h t p = subst (λ x. Q (if is_local n x then m ∷ locals p ds else locals p ds)) (sym h) (in_file (nat_eq k n) refl)
        where
          in_file : (c : Bool) → nat_eq k n ≡ c → Q (if c then m ∷ locals p ds else locals p ds)
          in_file true c = g i m p c e t (ap scope_of h)
          in_file false c = f p

      by : (b : Bool) → Q (locals_of n (numbered p (if b then found_at k ts d ∷ new_among all ds else new_among all ds)))
      by true = in_block d.block refl (meanings.declared_meaning (found_at k ts d) (own_number p d.block)) refl refl (numbers_behind p d.entity d.block)
      by false = f p

  true_false : (b : Bool) → b ≡ true → b ≡ false → ⊥
  true_false true e f = cc
  true_false false e f = cc

  -- the declarations of another file are none of these
  other_file : (Q : List Meaning → Type 0) (k : ℕ) (ts : TokenList) (es : List Event) (rest : List Found) → nat_eq k n ≡ false → ((p : Numbers) → Q (locals p rest)) → (p : Numbers) → Q (locals p (found_in k ts es ++ rest))
  other_file Q k ts [] rest differ f p = f p
  other_file Q k ts (event.Declaration d ∷ es) rest differ f p = one_more Q k ts d (found_in k ts es ++ rest) p (other_file Q k ts es rest differ f) (λ i m p same b t s. absurd (true_false (nat_eq k n) same differ))
  other_file Q k ts (e ∷ es) rest differ f p = other_file Q k ts es rest differ f p

  each_nests : (r : Scope) (k : ℕ) (ts : TokenList) (es : List Event) (rest : List Found) → EachDeclared (λ e. Nests r e.scope) es → ((p : Numbers) → locals p rest ≡ []) → (p : Numbers) → Each (λ x. Nests r (scope_of x.extent)) (locals p (found_in k ts es ++ rest))
  each_nests r k ts [] rest h none p = subst (λ ms. Each (λ x. Nests r (scope_of x.extent)) ms) (sym (none p)) tt
  each_nests r k ts (event.Declaration d ∷ es) rest h none p =
      let others = each_nests r k ts es rest h.1 none in
      one_more (λ ms. Each (λ x. Nests r (scope_of x.extent)) ms) k ts d (found_in k ts es ++ rest) p others
      (λ i m p same b t s. (subst (λ x. Nests r x) (sym s) h.0, others p))
  each_nests r k ts (e ∷ es) rest h none p = each_nests r k ts es rest h none p

  abbrev AreGood : ℕ → List Meaning → Type 0
  AreGood i ms = AreSwept i ms × AreNested ms

  own_file : (k : ℕ) (ts : TokenList) (es : List Event) (rest : List Found) (i j : ℕ) → AreInOrder i j es → ScopesNest es → EachDeclared IsFollowed es → ((p : Numbers) → locals p rest ≡ []) → (p : Numbers) → AreGood i (locals p (found_in k ts es ++ rest))
  own_file k ts [] rest i j o h g none p = subst (λ ms. AreGood i ms) (sym (none p)) (tt, tt)
  own_file k ts (event.Declaration d ∷ es) rest i j o h g none p =
      let others = own_file k ts es rest (suc d.name) j o.1 h.1 g.1 none in
      one_more (AreGood i) k ts d (found_in k ts es ++ rest) p
      (λ p. let x = others p in (swept_from i (suc d.name) (locals p (found_in k ts es ++ rest)) (omega (arith, o.0)) x.0, x.1))
      (λ q m p same b t s.
      let x = others p in
      let follows : BeginsAt d.entity d.name d.scope.from = subst (λ y. BeginsIn y d.entity d.name d.scope.from) b g.0.0 in
      let low : d.name ≤ d.scope.from = begins_behind d.entity d.name d.scope.from follows in
      let same : (scope_of m.extent).from ≡ d.scope.from = ap (λ y. y.from) s in
      let ends : (scope_of m.extent).from ≤ (scope_of m.extent).to = subst (λ y. y.from ≤ y.to) (sym s) g.0.1 in (
        (omega (arith, o.0, t), omega (arith, low, t, same), ends, swept_from (token_of m.source) (suc d.name) (locals p (found_in k ts es ++ rest)) (omega (arith, t)) x.0),
        (subst (λ y. Each (λ x. Nests y (scope_of x.extent)) (locals p (found_in k ts es ++ rest))) (sym s) (each_nests d.scope k ts es rest h.0 none p), x.1),
      ))
  own_file k ts (event.Use u ∷ es) rest i j o h g none p = let x = own_file k ts es rest (suc u.name) j o.1 h g none p in (swept_from i (suc u.name) (locals p (found_in k ts es ++ rest)) (omega (arith, o.0)) x.0, x.1)
  own_file k ts (e ∷ es) rest i j o h g none p = own_file k ts es rest i j o h g none p

  later_files : (k : ℕ) (us : List units.Unit) → n < k → (p : Numbers) → locals p (found_from k us) ≡ []
  later_files k [] lt p = refl
  later_files k (u ∷ us) lt p = other_file (λ ms. ms ≡ []) k u.tokens u.events (found_from (suc k) us) (grind (arith, nat_tests)) (later_files (suc k) us (omega (arith, lt))) p

  all_files : (k : ℕ) (us : List units.Unit) → AreOrderly us → (p : Numbers) → AreGood 0 (locals p (found_from k us))
  all_files k [] h p = (tt, tt)
  all_files k (u ∷ us) h p = by (nat_eq k n) refl (all_files (suc k) us h.1)
    where
      by : (c : Bool) → nat_eq k n ≡ c → ((p : Numbers) → AreGood 0 (locals p (found_from (suc k) us))) → AreGood 0 (locals p (found_in k u.tokens u.events ++ found_from (suc k) us))
      by true c f = own_file k u.tokens u.events (found_from (suc k) us) 0 h.0.end h.0.order h.0.nest h.0.follow (later_files (suc k) us (grind (arith, nat_tests))) p
      by false c f = other_file (AreGood 0) k u.tokens u.events (found_from (suc k) us) c f p

  imports_aside : (k : ℕ) (us : List units.Unit) (ms : List Meaning) → AreGood 0 (locals_of n ms) → AreGood 0 (locals_of n (imported_from k us ++ ms))
  imports_aside k [] ms h = h
  imports_aside k (u ∷ us) ms h = by (imports_fmt u.tokens u.events) (imports_aside (suc k) us ms h)
    where
      by : (b : Bool) → AreGood 0 (locals_of n (imported_from (suc k) us ++ ms)) → AreGood 0 (locals_of n ((if b then imported_meaning k ∷ imported_from (suc k) us else imported_from (suc k) us) ++ ms))
      by true g = g
      by false g = g

pub locals_good : (us : List units.Unit) → AreOrderly us → (n : ℕ) → AreSwept 0 (locals_of n (meanings us)) × AreNested (locals_of n (meanings us))
locals_good us h n = imports_aside n (found us) 0 us (numbered first_numbers (declarations us)) (all_files n (found us) 0 us h first_numbers)
