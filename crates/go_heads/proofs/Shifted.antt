-- What a function's own names mean, so many tokens further on in a file.
use Rattle.std.proofs.Common.{◌≡◌, ◌∙◌, ℕ, ◌+◌, Bool, true, false, List, [], ◌∷◌, ◌++◌, map, Option, Some, None, refl, sym, ap, arith}
use Rattle.std.specs.Prelude.{if◌then◌else◌, ◌&&◌, nat_eq, nat_le, nat_lt, option_map}
use Rattle.std.proofs.lemmas.Bool.Decides.{nat_tests}
use Rattle.go_tokens.specs.Tokens.{TokenList}
use Rattle.go_tokens.specs.Spellings.{same_text}
use Rattle.go_tree.specs.declared.context.Block.{Block}
use Rattle.go_tree.specs.declared.context.Block.TheVariants as block
use Rattle.go_tree.specs.declared.object.Extent.{Extent}
use Rattle.go_tree.specs.declared.object.Extent.TheVariants as extent
use Rattle.go_tree.specs.declared.object.Object.{Object}
use Rattle.go_tree.specs.Declarations.{Found}
use Rattle.go_tree.specs.Extents.{covers, lies_inside, extent_by}
use Rattle.go_tree.specs.Meanings.{Meaning, Numbers, own_number, numbers_behind, numbered}
use Rattle.go_tree.specs.Objects.{is_declared_at, own_object}
use Rattle.go_scopes_events.specs.Moved.{moved_scope, moved_block}
use Rattle.go_scopes_events.specs.Scopes.{is_local, locals_of, inner, over, inmost}
use Rattle.go_heads.specs.Names.{in_file}
use Rattle.go_heads.proofs.Meanings.{Every}

-- ---- a function by itself

-- a name of the package, or a local of the function, whose file has the number 0
abbrev pub IsOwnExtent : Extent → Type 0
IsOwnExtent extent.Everywhere = Unit {0}
IsOwnExtent (extent.Throughout n) = ⊥
IsOwnExtent (extent.Between k s) = k ≡ 0

abbrev pub IsOwnSource : Option Found → Type 0
IsOwnSource None = Unit {0}
IsOwnSource (Some d) = d.file ≡ 0

pub record IsOwn (m : Meaning) : Type 0 where
  pub extent : IsOwnExtent m.extent
  pub source : IsOwnSource m.source

abbrev MayBeOwn : Option Meaning → Type 0
MayBeOwn None = Unit {0}
MayBeOwn (Some m) = IsOwnExtent m.extent

own_extent : (d : Found) (b : Block) → d.file ≡ 0 → IsOwnExtent (extent_by d.file d.it.scope b)
own_extent d block.Package e = tt
own_extent d (block.Local i) e = e

pub numbered_own : (k : Numbers) (ds : List Found) → Every (λ d. d.file ≡ 0) ds → Every IsOwn (numbered k ds)
numbered_own k [] h = tt
numbered_own k (d ∷ ds) h = (record { extent = own_extent d d.it.block h.0; source = h.0 }, numbered_own (numbers_behind k d.it.entity d.it.block) ds h.1)

-- the object that the function declares at a token, else another
abbrev pub own_by : Option Object → ℕ → List Meaning → Option Object
own_by o x [] = o
own_by o x (m ∷ ms) = if is_declared_at 0 x m.source then Some m.object else own_by o x ms

-- ---- tests

eq_self : (n : ℕ) → nat_eq n n ≡ true
eq_self n = grind (arith, nat_tests)

both_zero : (k m : ℕ) → k ≡ 0 → m ≡ 0 → nat_eq k m ≡ true
both_zero k m e f = grind (arith, nat_tests)

pub eq_moved : (a i j : ℕ) → nat_eq (a + i) (a + j) ≡ nat_eq i j
eq_moved a i j = grind (arith, nat_tests)

less_moved : (a i j : ℕ) → nat_lt (a + i) (a + j) ≡ nat_lt i j
less_moved a i j = grind (arith, nat_tests)

at_most_moved : (a i j : ℕ) → nat_le (a + i) (a + j) ≡ nat_le i j
at_most_moved a i j = grind (arith, nat_tests)

all_three : (p q r s t u : Bool) → p ≡ s → q ≡ t → r ≡ u → (p && q && r) ≡ (s && t && u)
all_three p q r s t u e f g = ap (λ x. x && q && r) e ∙ ap (λ x. s && x && r) f ∙ ap (λ x. s && t && x) g

both : (p q s t : Bool) → p ≡ s → q ≡ t → (p && q) ≡ (s && t)
both p q s t e f = ap (λ x. x && q) e ∙ ap (λ x. s && x) f

-- ---- in a file

module _ (n : ℕ) (l : TokenList) (a : ℕ) where
  abbrev pub up : Found → Found
  up = in_file n l a

  abbrev pub up_extent : Extent → Extent
  up_extent extent.Everywhere = extent.Everywhere
  up_extent (extent.Throughout k) = extent.Throughout k
  up_extent (extent.Between k s) = extent.Between n (moved_scope a s)

  abbrev pub up_meaning : Meaning → Meaning
  up_meaning m = record { name = m.name; extent = up_extent m.extent; object = m.object; source = option_map up m.source }

  module _ (k : Numbers) (d : Found) where
    abbrev shifted : Block → Meaning
    shifted b = record { name = d.name; extent = extent_by n (moved_scope a d.it.scope) (moved_block a b); object = own_number k (moved_block a b); source = Some (up d) }

    abbrev plain : Block → Meaning
    plain b = record { name = d.name; extent = extent_by d.file d.it.scope b; object = own_number k b; source = Some d }

    shifted_one : (ds : List Found) (b : Block) → ((j : Numbers) → numbered j (map up ds) ≡ map up_meaning (numbered j ds))
        → shifted b ∷ numbered (numbers_behind k d.it.entity (moved_block a b)) (map up ds) ≡ up_meaning (plain b) ∷ map up_meaning (numbered (numbers_behind k d.it.entity b) ds)
    shifted_one ds block.Package g = ap (λ ms. shifted block.Package ∷ ms) (g (numbers_behind k d.it.entity block.Package))
    shifted_one ds (block.Local i) g = ap (λ ms. shifted (block.Local i) ∷ ms) (g (numbers_behind k d.it.entity (block.Local i)))

  pub numbered_up : (k : Numbers) (ds : List Found) → numbered k (map up ds) ≡ map up_meaning (numbered k ds)
  numbered_up k [] = refl
  numbered_up k (d ∷ ds) = shifted_one k d ds d.it.block (λ j. numbered_up j ds)

  local_up : (e : Extent) → IsOwnExtent e → is_local n (up_extent e) ≡ is_local 0 e
  local_up extent.Everywhere h = refl
  local_up (extent.Throughout k) h = absurd h
  local_up (extent.Between k s) h = eq_self n ∙ sym (both_zero k 0 h refl)

  covers_up : (x : ℕ) (e : Extent) → IsOwnExtent e → covers (up_extent e) n (a + x) ≡ covers e 0 x
  covers_up x extent.Everywhere h = refl
  covers_up x (extent.Throughout k) h = absurd h
  covers_up x (extent.Between k s) h =
      all_three (nat_eq n n) (nat_le (a + s.from) (a + x)) (nat_lt (a + x) (a + s.to)) (nat_eq k 0) (nat_le s.from x) (nat_lt x s.to)
      (eq_self n ∙ sym (both_zero k 0 h refl)) (at_most_moved a s.from x) (less_moved a x s.to)

  inside_up : (e r : Extent) → IsOwnExtent e → IsOwnExtent r → lies_inside (up_extent e) (up_extent r) ≡ lies_inside e r
  inside_up extent.Everywhere extent.Everywhere h g = refl
  inside_up (extent.Between k s) extent.Everywhere h g = refl
  inside_up extent.Everywhere (extent.Between m r) h g = refl
  inside_up (extent.Throughout k) r h g = absurd h
  inside_up e (extent.Throughout m) h g = absurd g
  inside_up (extent.Between k s) (extent.Between m r) h g =
      all_three (nat_eq n n) (nat_le (a + r.from) (a + s.from)) (nat_le (a + s.to) (a + r.to)) (nat_eq k m) (nat_le r.from s.from) (nat_le s.to r.to)
      (eq_self n ∙ sym (both_zero k m h g)) (at_most_moved a r.from s.from) (at_most_moved a s.to r.to)

  -- ---- the innermost

  inner_up : (o : Option Meaning) (m : Meaning) → MayBeOwn o → IsOwnExtent m.extent → inner (option_map up_meaning o) (up_meaning m) ≡ option_map up_meaning (inner o m)
  inner_up None m h g = refl
  inner_up (Some b) m h g = ap (λ c. if c then Some (up_meaning b) else Some (up_meaning m)) (inside_up b.extent m.extent h g) ∙ either (lies_inside b.extent m.extent)
    where
      either : (c : Bool) → (if c then Some (up_meaning b) else Some (up_meaning m)) ≡ option_map up_meaning (if c then Some b else Some m)
      either true = refl
      either false = refl

  inner_own : (o : Option Meaning) (m : Meaning) → MayBeOwn o → IsOwnExtent m.extent → MayBeOwn (inner o m)
  inner_own None m h g = g
  inner_own (Some b) m h g = either (lies_inside b.extent m.extent)
    where
      either : (c : Bool) → MayBeOwn (if c then Some b else Some m)
      either true = h
      either false = g

  module _ (x : ℕ) (w : List ℕ) where
    over_up : (o : Option Meaning) (m : Meaning) → MayBeOwn o → IsOwnExtent m.extent → over n (a + x) w (option_map up_meaning o) (up_meaning m) ≡ option_map up_meaning (over 0 x w o m)
    over_up o m h g =
        ap (λ c. if same_text m.name w && c then inner (option_map up_meaning o) (up_meaning m) else option_map up_meaning o) (covers_up x m.extent g)
        ∙ ap (λ z. if same_text m.name w && covers m.extent 0 x then z else option_map up_meaning o) (inner_up o m h g)
        ∙ either (same_text m.name w && covers m.extent 0 x)
      where
        either : (c : Bool) → (if c then option_map up_meaning (inner o m) else option_map up_meaning o) ≡ option_map up_meaning (if c then inner o m else o)
        either true = refl
        either false = refl

    over_own : (o : Option Meaning) (m : Meaning) → MayBeOwn o → IsOwnExtent m.extent → MayBeOwn (over 0 x w o m)
    over_own o m h g = either (same_text m.name w && covers m.extent 0 x)
      where
        either : (c : Bool) → MayBeOwn (if c then inner o m else o)
        either true = inner_own o m h g
        either false = h

    pub inmost_up : (o : Option Meaning) (ms : List Meaning) → MayBeOwn o → Every IsOwn ms → inmost n (a + x) w (option_map up_meaning o) (locals_of n (map up_meaning ms)) ≡ option_map up_meaning (inmost 0 x w o (locals_of 0 ms))
    inmost_up o [] h g = refl
    inmost_up o (m ∷ ms) h g =
        ap (λ c. inmost n (a + x) w (option_map up_meaning o) (if c then up_meaning m ∷ locals_of n (map up_meaning ms) else locals_of n (map up_meaning ms))) (local_up m.extent g.0.extent)
        ∙ by (is_local 0 m.extent) (inmost_up o ms h g.1) (inmost_up (over 0 x w o m) ms (over_own o m h g.0.extent) g.1)
      where
        by : (c : Bool) → inmost n (a + x) w (option_map up_meaning o) (locals_of n (map up_meaning ms)) ≡ option_map up_meaning (inmost 0 x w o (locals_of 0 ms))
            → inmost n (a + x) w (option_map up_meaning (over 0 x w o m)) (locals_of n (map up_meaning ms)) ≡ option_map up_meaning (inmost 0 x w (over 0 x w o m) (locals_of 0 ms))
            → inmost n (a + x) w (option_map up_meaning o) (if c then up_meaning m ∷ locals_of n (map up_meaning ms) else locals_of n (map up_meaning ms))
            ≡ option_map up_meaning (inmost 0 x w o (if c then m ∷ locals_of 0 ms else locals_of 0 ms))
        by true e f = ap (λ z. inmost n (a + x) w z (locals_of n (map up_meaning ms))) (over_up o m h g.0.extent) ∙ f
        by false e f = e

    -- ---- what the function declares

    declared_up : (o : Option Found) → IsOwnSource o → is_declared_at n (a + x) (option_map up o) ≡ is_declared_at 0 x o
    declared_up None h = refl
    declared_up (Some d) h = both (nat_eq n n) (nat_eq (a + d.it.name) (a + x)) (nat_eq d.file 0) (nat_eq d.it.name x) (eq_self n ∙ sym (both_zero d.file 0 h refl)) (eq_moved a d.it.name x)

    pub own_up : (all rest ms : List Meaning) → Every IsOwn ms → own_object n (a + x) w all (map up_meaning ms ++ rest) ≡ own_by (own_object n (a + x) w all rest) x ms
    own_up all rest [] h = refl
    own_up all rest (m ∷ ms) h =
        ap (λ c. if c then Some m.object else own_object n (a + x) w all (map up_meaning ms ++ rest)) (declared_up m.source h.0.source)
        ∙ ap (λ z. if is_declared_at 0 x m.source then Some m.object else z) (own_up all rest ms h.1)
