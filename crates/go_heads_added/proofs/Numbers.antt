-- The numbers of objects where declarations are put in.
use Rattle.std.proofs.Common.{◌≡◌, ℕ, suc, ◌-◌, ◌<◌, ◌≤◌, Bool, true, false, ◌&&◌, ◌||◌, not, List, [], ◌∷◌, ◌++◌, map, Some, refl, sym, ap, ◌∙◌, arith}
use Rattle.std.specs.Prelude.{if◌then◌else◌, nat_eq}
use Rattle.go_tree.specs.declared.context.Scope.{Scope}
use Rattle.go_tree.specs.Contexts.{is_package}
use Rattle.std.specs.Option.{option_map}
use Rattle.std.proofs.lemmas.Bool.Decides.{nat_tests}
use Rattle.go_tree.specs.declared.context.Block.{Block}
use Rattle.go_tree.specs.declared.context.Block.TheVariants as block
use Rattle.go_tree.specs.declared.context.Entity.{Entity}
use Rattle.go_tree.specs.declared.object.Object.{Object}
use Rattle.go_tree.specs.declared.object.Object.TheVariants as object
use Rattle.go_tree.specs.Declarations.{Found, is_function}
use Rattle.go_tree.specs.Extents.{extent_by}
use Rattle.go_tree.specs.Meanings.{Meaning, Numbers, first_numbers, declared_meaning, own_number, behind_shared, numbers_behind, numbered}
use Rattle.go_heads_added.specs.Added.{Gap, beyond, shifted, longer, behind, housed, MayStand, AreHoused}

pub numbered_append : (k : Numbers) (ds es : List Found) → numbered k (ds ++ es) ≡ numbered k ds ++ numbered (behind k ds) es
numbered_append k [] es = refl
numbered_append k (d ∷ ds) es = ap (λ l. declared_meaning d (own_number k d.it.block) ∷ l) (numbered_append (numbers_behind k d.it.entity d.it.block) ds es)

module _ (file end : ℕ) (g : Gap) where
  -- a meaning by the new numbers
  abbrev pub moved : Meaning → Meaning
  moved m = record { name = m.name; extent = m.extent; object = shifted g m.object; source = option_map (longer file end) m.source }

  below : (a n : ℕ) → n < a → beyond a n ≡ n
  below a n h = grind (arith, nat_tests)

  above : (a n : ℕ) → a ≤ n → beyond a n ≡ suc n
  above a n h = grind (arith, nat_tests)

  -- ---- in front of the function

  -- so many stand in front of it
  record IsBefore (k : Numbers) : Type 0 where
    shared : k.shared ≤ g.shared
    functions : k.functions ≤ g.functions

  rises_block : (k : Numbers) (e : Entity) (b : Block) → (k.shared ≤ (numbers_behind k e b).shared) × (k.functions ≤ (numbers_behind k e b).functions)
  rises_block k e block.Package = by (is_function e)
    where
      by : (f : Bool) → (k.shared ≤ (behind_shared k f).shared) × (k.functions ≤ (behind_shared k f).functions)
      by true = (omega arith, omega arith)
      by false = (omega arith, omega arith)
  rises_block k e (block.Local i) = (omega arith, omega arith)

  rises : (k : Numbers) (ds : List Found) → (k.shared ≤ (behind k ds).shared) × (k.functions ≤ (behind k ds).functions)
  rises k [] = (omega arith, omega arith)
  rises k (d ∷ ds) =
      let one = rises_block k d.it.entity d.it.block in
      let rest = rises (numbers_behind k d.it.entity d.it.block) ds in
      (omega (arith, one.0, rest.0), omega (arith, one.1, rest.1))

  number_kept : (k : Numbers) (b : Bool) (e : Entity) (x : Block) → (b ≡ true → 0 < k.functions) → MayStand b x → (numbers_behind k e x).shared ≤ g.shared → k.functions ≤ g.functions → shifted g (own_number k x) ≡ own_number k x
  number_kept k b e block.Package h m s f = ap (λ n. object.Package n) (below g.shared k.shared (by (is_function e) s))
    where
      by : (t : Bool) → (behind_shared k t).shared ≤ g.shared → k.shared < g.shared
      by true l = omega (arith, l)
      by false l = omega (arith, l)
  number_kept k b e (block.Local i) h m s f = let z = h m in ap (λ n. object.Local n k.local) (below g.functions (k.functions - 1) (omega arith))

  housed_behind : (k : Numbers) (b : Bool) (e : Entity) (x : Block) → (b ≡ true → 0 < k.functions) → housed b x e ≡ true → 0 < (numbers_behind k e x).functions
  housed_behind k b e block.Package h t = by (is_function e) t
    where
      by : (f : Bool) → (f || b) ≡ true → 0 < (behind_shared k f).functions
      by true q = omega arith
      by false q = h q
  housed_behind k b e (block.Local i) h t = h t

  -- a declaration of the package is in scope everywhere, whatever its end
  extent_block : (n : ℕ) (s : Scope) (x : Block) (b f : Bool) → extent_by n (record { from = s.from; to = if b && (is_package x && f) then end else s.to }) x ≡ extent_by n s x
  extent_block n s block.Package b f = refl
  extent_block n s (block.Local i) true f = refl
  extent_block n s (block.Local i) false f = refl

  pub longer_meaning : (d : Found) (o p : Object) → o ≡ shifted g p → declared_meaning (longer file end d) o ≡ moved (declared_meaning d p)
  longer_meaning d o p e =
      ap (λ q. declared_meaning (longer file end d) q) e
      ∙ ap (λ x. record { name = d.name; extent = x; object = shifted g p; source = Some (longer file end d) }) (extent_block d.file d.it.scope d.it.block (nat_eq d.file file) (not (is_function d.it.entity)))

  pub front_kept : (b : Bool) (k : Numbers) (ds : List Found) → AreHoused b ds → (b ≡ true → 0 < k.functions) → (behind k ds).shared ≤ g.shared → (behind k ds).functions ≤ g.functions
      → numbered k (map (longer file end) ds) ≡ map moved (numbered k ds)
  front_kept b k [] a h s f = refl
  front_kept b k (d ∷ ds) a h s f =
      let one = rises_block k d.it.entity d.it.block in
      let rest = rises (numbers_behind k d.it.entity d.it.block) ds in
      ap (λ x. x ∷ numbered (numbers_behind k d.it.entity d.it.block) (map (longer file end) ds)) (longer_meaning d (own_number k d.it.block) (own_number k d.it.block) (sym (number_kept k b d.it.entity d.it.block h a.0 (omega (arith, rest.0, s)) (omega (arith, one.1, rest.1, f)))))
      ∙ ap (λ l. moved (declared_meaning d (own_number k d.it.block)) ∷ l) (front_kept (housed b d.it.block d.it.entity) (numbers_behind k d.it.entity d.it.block) ds a.1 (housed_behind k b d.it.entity d.it.block h) s f)

  -- ---- behind it

  -- one object and one function more are in front; behind a function locals have their numbers
  pub record Level (k l : Numbers) (b : Bool) : Type 0 where
    pub shared : l.shared ≡ suc k.shared
    pub functions : l.functions ≡ suc k.functions
    pub past : g.shared ≤ k.shared
    pub past_functions : g.functions ≤ k.functions
    pub local : b ≡ true → (l.local ≡ k.local) × (g.functions < k.functions)

  level_behind : (k l : Numbers) (b : Bool) (e : Entity) (x : Block) → Level k l b → Level (numbers_behind k e x) (numbers_behind l e x) (housed b x e)
  level_behind k l b e block.Package v = by (is_function e)
    where
      by : (f : Bool) → Level (behind_shared k f) (behind_shared l f) (f || b)
      by true = record { shared = ap (λ n. suc n) v.shared; functions = ap (λ n. suc n) v.functions; past = let p = v.past in omega arith; past_functions = let p = v.past_functions in omega arith; local = λ q. (refl, let p = v.past_functions in omega arith) }
      by false = record { shared = ap (λ n. suc n) v.shared; functions = v.functions; past = let p = v.past in omega arith; past_functions = v.past_functions; local = λ q. v.local q }
  level_behind k l b e (block.Local i) v = record { shared = v.shared; functions = v.functions; past = v.past; past_functions = v.past_functions; local = λ q. (ap (λ n. suc n) (v.local q).0, (v.local q).1) }

  number_moved : (k l : Numbers) (b : Bool) (x : Block) → Level k l b → MayStand b x → own_number l x ≡ shifted g (own_number k x)
  number_moved k l b block.Package v m = ap (λ n. object.Package n) (v.shared ∙ sym (above g.shared k.shared v.past))
  number_moved k l b (block.Local i) v m =
      let o = v.local m in
      ap (λ n. object.Local n l.local) (number k.functions l.functions v.functions o.1 ∙ sym (above g.functions (k.functions - 1) (low k.functions o.1)))
      ∙ ap (λ n. object.Local (beyond g.functions (k.functions - 1)) n) o.0
    where
      number : (a c : ℕ) → c ≡ suc a → g.functions < a → c - 1 ≡ suc (a - 1)
      number a c e h = omega arith

      low : (a : ℕ) → g.functions < a → g.functions ≤ a - 1
      low a h = omega arith

  pub rest_moved : (b : Bool) (k l : Numbers) (ds : List Found) → Level k l b → AreHoused b ds → numbered l (map (longer file end) ds) ≡ map moved (numbered k ds)
  rest_moved b k l [] v a = refl
  rest_moved b k l (d ∷ ds) v a =
      ap (λ x. x ∷ numbered (numbers_behind l d.it.entity d.it.block) (map (longer file end) ds)) (longer_meaning d (own_number l d.it.block) (own_number k d.it.block) (number_moved k l b d.it.block v a.0))
      ∙ ap (λ x. moved (declared_meaning d (own_number k d.it.block)) ∷ x) (rest_moved (housed b d.it.block d.it.entity) (numbers_behind k d.it.entity d.it.block) (numbers_behind l d.it.entity d.it.block) ds (level_behind k l b d.it.entity d.it.block v) a.1)

  behind_longer : (k : Numbers) (ds : List Found) → behind k (map (longer file end) ds) ≡ behind k ds
  behind_longer k [] = refl
  behind_longer k (d ∷ ds) = behind_longer (numbers_behind k d.it.entity d.it.block) ds

  -- ---- all

  -- of declarations that are put in, what their numbers are
  pub together : (ds es fs : List Found) → AreHoused false ds → AreHoused false fs → g ≡ record { shared = (behind first_numbers ds).shared; functions = (behind first_numbers ds).functions }
      → Level (behind first_numbers ds) (behind (behind first_numbers ds) es) false
      → numbered first_numbers (map (longer file end) ds ++ (es ++ map (longer file end) fs))
      ≡ map moved (numbered first_numbers ds) ++ (numbered (behind first_numbers ds) es ++ map moved (numbered (behind first_numbers ds) fs))
  together ds es fs h i e v =
      numbered_append first_numbers (map (longer file end) ds) (es ++ map (longer file end) fs)
      ∙ ap (λ l. l ++ numbered (behind first_numbers (map (longer file end) ds)) (es ++ map (longer file end) fs))
      (front_kept false first_numbers ds h (λ q. absurd (false_true q)) (omega (arith, ap (λ x. x.shared) e)) (omega (arith, ap (λ x. x.functions) e)))
      ∙ ap (λ k. map moved (numbered first_numbers ds) ++ numbered k (es ++ map (longer file end) fs)) (behind_longer first_numbers ds)
      ∙ ap (λ l. map moved (numbered first_numbers ds) ++ l)
      (numbered_append (behind first_numbers ds) es (map (longer file end) fs)
      ∙ ap (λ l. numbered (behind first_numbers ds) es ++ l) (rest_moved false (behind first_numbers ds) (behind (behind first_numbers ds) es) fs v i))
    where
      false_true : false ≡ true → ⊥
      false_true q = cc
