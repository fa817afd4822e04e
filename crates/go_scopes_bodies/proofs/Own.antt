-- The objects of a function by itself, where others stand in front of it.
use Rattle.std.proofs.Common.{◌≡◌, ◌∙◌, ℕ, suc, ◌+◌, ◌-◌, ◌<◌, Bool, true, false, List, [], ◌∷◌, map, Option, Some, None, refl, sym, ap, arith}
use Rattle.std.specs.Prelude.{if◌then◌else◌, ◌&&◌, nat_eq, option_map}
use Rattle.go_tokens.specs.Spellings.{same_text}
use Rattle.go_tree.specs.declared.context.Block.{Block}
use Rattle.go_tree.specs.declared.context.Block.TheVariants as block
use Rattle.go_tree.specs.declared.event.Event.{Event}
use Rattle.go_tree.specs.declared.event.Event.TheVariants as event
use Rattle.go_tree.specs.declared.object.Object.{Object}
use Rattle.go_tree.specs.declared.object.Object.TheVariants as object
use Rattle.go_tree.specs.Declarations.{Found, is_function}
use Rattle.go_tree.specs.Extents.{covers, lies_inside, extent_of}
use Rattle.go_tree.specs.Meanings.{Meaning, Numbers, own_number, behind_shared, numbers_behind, numbered}
use Rattle.go_tree.specs.Objects.{is_declared_at}
use Rattle.go_scopes_events.specs.Scopes.{is_local, locals_of, inner, over, inmost}
use Rattle.go_heads.proofs.Public.{BeginsFunction, own_by, local_object}
use Rattle.go_scopes_bodies.specs.Meant.{Meant, own, or_outside, own_declared, told_object, shifted, in_package}

module _ (s k : ℕ) where
  abbrev pub up : Meaning → Meaning
  up m = record { name = m.name; extent = m.extent; object = shifted s k m.object; source = m.source }

  -- numbers with so many objects and functions in front
  pub record Behind (i j : Numbers) : Type 0 where
    pub shared : i.shared ≡ s + j.shared
    pub functions : i.functions ≡ k + j.functions
    pub local : i.local ≡ j.local

  behind_one : (i j : Numbers) (b : Bool) → Behind i j → Behind (behind_shared i b) (behind_shared j b)
  behind_one i j true h = record { shared = omega (arith, h.shared); functions = omega (arith, h.functions); local = refl }
  behind_one i j false h = record { shared = omega (arith, h.shared); functions = h.functions; local = h.local }

  begun_one : (j : Numbers) (b : Bool) → 0 < j.functions → 0 < (behind_shared j b).functions
  begun_one j true lt = omega arith
  begun_one j false lt = lt

  pub numbered_behind : (i j : Numbers) (ds : List Found) → Behind i j → 0 < j.functions → numbered i ds ≡ map up (numbered j ds)
  numbered_behind i j [] h lt = refl
  numbered_behind i j (d ∷ ds) h lt = by d.it.block (λ a b. numbered_behind a b ds)
    where
      by : (c : Block) → ((a b : Numbers) → Behind a b → 0 < b.functions → numbered a ds ≡ map up (numbered b ds))
          → record { name = d.name; extent = extent_of d; object = own_number i c; source = Some d } ∷ numbered (numbers_behind i d.it.entity c) ds
          ≡ up (record { name = d.name; extent = extent_of d; object = own_number j c; source = Some d }) ∷ map up (numbered (numbers_behind j d.it.entity c) ds)
      by block.Package go =
          ap (λ o. record { name = d.name; extent = extent_of d; object = object.Package o; source = Some d } ∷ numbered (behind_shared i (is_function d.it.entity)) ds) h.shared
          ∙ ap (λ ms. record { name = d.name; extent = extent_of d; object = object.Package (s + j.shared); source = Some d } ∷ ms) (go (behind_shared i (is_function d.it.entity)) (behind_shared j (is_function d.it.entity)) (behind_one i j (is_function d.it.entity) h) (begun_one j (is_function d.it.entity) lt))
      by (block.Local c) go =
          let number : i.functions - 1 ≡ k + (j.functions - 1) = omega (arith, h.functions, lt) in
          ap (λ f. record { name = d.name; extent = extent_of d; object = object.Local f i.local; source = Some d } ∷ numbered (record i { local = suc i.local }) ds) number
          ∙ ap (λ l. record { name = d.name; extent = extent_of d; object = object.Local (k + (j.functions - 1)) l; source = Some d } ∷ numbered (record i { local = suc i.local }) ds) h.local
          ∙ ap (λ ms. record { name = d.name; extent = extent_of d; object = object.Local (k + (j.functions - 1)) j.local; source = Some d } ∷ ms) (go (record i { local = suc i.local }) (record j { local = suc j.local }) (record { shared = h.shared; functions = h.functions; local = ap suc h.local }) lt)

  -- a function in front
  begun_behind : (i j : Numbers) (d : Found) (ds : List Found) → d.it.block ≡ block.Package → is_function d.it.entity ≡ true → Behind i j → numbered i (d ∷ ds) ≡ map up (numbered j (d ∷ ds))
  begun_behind i j d ds e f h =
      let first : (n : Numbers) → numbered n (d ∷ ds) ≡ record { name = d.name; extent = extent_of d; object = object.Package n.shared; source = Some d } ∷ numbered (behind_shared n true) ds =
      λ n. ap (λ c. record { name = d.name; extent = extent_of d; object = own_number n c; source = Some d } ∷ numbered (numbers_behind n d.it.entity c) ds) e ∙ ap (λ b. record { name = d.name; extent = extent_of d; object = object.Package n.shared; source = Some d } ∷ numbered (behind_shared n b) ds) f in
      first i
      ∙ ap (λ o. record { name = d.name; extent = extent_of d; object = object.Package o; source = Some d } ∷ numbered (behind_shared i true) ds) h.shared
      ∙ ap (λ ms. record { name = d.name; extent = extent_of d; object = object.Package (s + j.shared); source = Some d } ∷ ms) (numbered_behind (behind_shared i true) (behind_shared j true) ds (behind_one i j true h) (omega arith))
      ∙ sym (ap (map up) (first j))

  pub function_behind : (i j : Numbers) (ds : List Found) → BeginsFunction ds → Behind i j → numbered i ds ≡ map up (numbered j ds)
  function_behind i j ds g h = ap (numbered i) g.whole ∙ begun_behind i j g.function g.others g.block (ap is_function g.entity) h ∙ sym (ap (λ ds. map up (numbered j ds)) g.whole)

  -- ---- what names mean

  over_up : (x : ℕ) (w : List ℕ) (o : Option Meaning) (m : Meaning) → over 0 x w (option_map up o) (up m) ≡ option_map up (over 0 x w o m)
  over_up x w o m = by (same_text m.name w && covers m.extent 0 x) o
    where
      either : (b : Bool) (a : Meaning) → (if b then Some (up a) else Some (up m)) ≡ option_map up (if b then Some a else Some m)
      either true a = refl
      either false a = refl

      by : (b : Bool) (o : Option Meaning) → (if b then inner (option_map up o) (up m) else option_map up o) ≡ option_map up (if b then inner o m else o)
      by true None = refl
      by true (Some a) = either (lies_inside a.extent m.extent) a
      by false o = refl

  pub inmost_up : (x : ℕ) (w : List ℕ) (o : Option Meaning) (ms : List Meaning) → inmost 0 x w (option_map up o) (locals_of 0 (map up ms)) ≡ option_map up (inmost 0 x w o (locals_of 0 ms))
  inmost_up x w o [] = refl
  inmost_up x w o (m ∷ ms) = by (is_local 0 m.extent) (λ p. inmost_up x w p ms)
    where
      by : (b : Bool) → ((p : Option Meaning) → inmost 0 x w (option_map up p) (locals_of 0 (map up ms)) ≡ option_map up (inmost 0 x w p (locals_of 0 ms)))
          → inmost 0 x w (option_map up o) (if b then up m ∷ locals_of 0 (map up ms) else locals_of 0 (map up ms)) ≡ option_map up (inmost 0 x w o (if b then m ∷ locals_of 0 ms else locals_of 0 ms))
      by true go = ap (λ p. inmost 0 x w p (locals_of 0 (map up ms))) (over_up x w o m) ∙ go (over 0 x w o m)
      by false go = go o

  abbrev pub there : Option Meant → Option Object
  there o = option_map (in_package s k) o

  local_there : (l : Option Meaning) (o : Option Object) → local_object (option_map up l) o ≡ there (or_outside l o)
  local_there None None = refl
  local_there None (Some o) = refl
  local_there (Some m) o = refl

  pub meant_there : (b : Bool) (l : Option Meaning) (o : Option Object) → (if b then None else local_object (option_map up l) o) ≡ there (if b then None else or_outside l o)
  meant_there true l o = refl
  meant_there false l o = local_there l o

  pub declared_there : (o : Option Meant) (x : ℕ) (ms : List Meaning) → own_by (there o) x (map up ms) ≡ there (own_declared o x ms)
  declared_there o x [] = refl
  declared_there o x (m ∷ ms) = by (is_declared_at 0 x m.source) (declared_there o x ms)
    where
      by : (b : Bool) → own_by (there o) x (map up ms) ≡ there (own_declared o x ms) → (if b then Some (shifted s k m.object) else own_by (there o) x (map up ms)) ≡ there (if b then Some (own m.object) else own_declared o x ms)
      by true e = refl
      by false e = e

  -- the object of the token, as head_tokens chooses it
  abbrev pub chosen : Option Object → Option Object → ℕ → List Event → Option Object
  chosen used declared x [] = None
  chosen used declared x (event.Use u ∷ es) = if nat_eq u.name x then used else chosen used declared x es
  chosen used declared x (event.Declaration d ∷ es) = if nat_eq d.name x then declared else chosen used declared x es
  chosen used declared x (e ∷ es) = chosen used declared x es

  if_there : (b : Bool) (o p : Option Meant) (q : Option Object) → q ≡ there p → (if b then there o else q) ≡ there (if b then o else p)
  if_there true o p q e = refl
  if_there false o p q e = e

  pub chosen_there : (used declared : Option Meant) (x : ℕ) (es : List Event) → chosen (there used) (there declared) x es ≡ there (told_object used declared x es)
  chosen_there used declared x [] = refl
  chosen_there used declared x (event.Use u ∷ es) = if_there (nat_eq u.name x) used (told_object used declared x es) (chosen (there used) (there declared) x es) (chosen_there used declared x es)
  chosen_there used declared x (event.Declaration d ∷ es) = if_there (nat_eq d.name x) declared (told_object used declared x es) (chosen (there used) (there declared) x es) (chosen_there used declared x es)
  chosen_there used declared x (event.Import i ∷ es) = chosen_there used declared x es
  chosen_there used declared x (event.Member m g i ∷ es) = chosen_there used declared x es
  chosen_there used declared x (event.Bodiless i j ∷ es) = chosen_there used declared x es
  chosen_there used declared x (event.Statement i j ∷ es) = chosen_there used declared x es
  chosen_there used declared x (event.Misplaced i j ∷ es) = chosen_there used declared x es
  chosen_there used declared x (event.SecondDefault i ∷ es) = chosen_there used declared x es
