-- The numbers of objects behind declarations follow from the objects of the package among these.
use Rattle.std.proofs.Common.{◌≡◌, ◌∙◌, ℕ, suc, ◌<◌, Bool, true, false, List, [], ◌∷◌, ◌++◌, map, Some, refl, sym, ap, arith}
use Rattle.std.specs.Prelude.{if◌then◌else◌}
use Rattle.go_tree.specs.declared.context.Block.{Block}
use Rattle.go_tree.specs.declared.context.Block.TheVariants as block
use Rattle.go_tree.specs.declared.context.Entity.{Entity}
use Rattle.go_tree.specs.declared.context.Entity.TheVariants as entity
use Rattle.go_tree.specs.declared.object.Object.TheVariants as object
use Rattle.go_tree.specs.Contexts.{is_package}
use Rattle.go_tree.specs.Declarations.{Found, is_function}
use Rattle.go_tree.specs.Extents.{extent_of}
use Rattle.go_tree.specs.Meanings.{Meaning, Numbers, declared_meaning, own_number, behind_shared, numbers_behind, numbered}
use Rattle.go_tree.specs.Uses.{declared_by, declared_in_package}
use Rattle.go_heads.specs.Heads.{File}
use Rattle.go_heads.proofs.Files.{first_same, others_same}
use Rattle.go_heads.proofs.Meanings.{Every}
use Rattle.go_heads.proofs.Objects.{Entry, entry}

-- ---- behind declarations

abbrev pub behind_all : Numbers → List Found → Numbers
behind_all k [] = k
behind_all k (d ∷ ds) = behind_all (numbers_behind k d.it.entity d.it.block) ds

pub numbered_append : (k : Numbers) (xs ys : List Found) → numbered k (xs ++ ys) ≡ numbered k xs ++ numbered (behind_all k xs) ys
numbered_append k [] ys = refl
numbered_append k (d ∷ xs) ys = ap (λ ms. declared_meaning d (own_number k d.it.block) ∷ ms) (numbered_append (numbers_behind k d.it.entity d.it.block) xs ys)

-- ---- by the objects of the package

abbrev pub behind_entries : Numbers → List Entry → Numbers
behind_entries k [] = k
behind_entries k (x ∷ xs) = behind_entries (behind_shared k (is_function x.entity)) xs

-- the same but for the number of the next local
pub record SameNumbers (j k : Numbers) : Type 0 where
  pub shared : j.shared ≡ k.shared
  pub functions : j.functions ≡ k.functions

behind_same : (j k : Numbers) (b : Bool) → SameNumbers j k → SameNumbers (behind_shared j b) (behind_shared k b)
behind_same j k true h = record { shared = ap suc h.shared; functions = ap suc h.functions }
behind_same j k false h = record { shared = ap suc h.shared; functions = h.functions }

pub numbers_by : (fs : List File) (j k : Numbers) (ds : List Found) → SameNumbers j k → SameNumbers (behind_all j ds) (behind_entries k (map (entry fs) (declared_in_package ds)))
numbers_by fs j k [] h = h
numbers_by fs j k (d ∷ ds) h = by d.it.block (λ i l. numbers_by fs i l ds)
  where
    by : (b : Block) → ((i l : Numbers) → SameNumbers i l → SameNumbers (behind_all i ds) (behind_entries l (map (entry fs) (declared_in_package ds))))
        → SameNumbers (behind_all (numbers_behind j d.it.entity b) ds) (behind_entries k (map (entry fs) (if is_package b then declared_by d ∷ declared_in_package ds else declared_in_package ds)))
    by block.Package g = g (behind_shared j (is_function d.it.entity)) (behind_shared k (is_function d.it.entity)) (behind_same j k (is_function d.it.entity) h)
    by (block.Local i) g = g (numbers_behind j d.it.entity (block.Local i)) k (record { shared = h.shared; functions = h.functions })

-- What begins with a function of the package is numbered the same whatever the next local would be.
pub record BeginsFunction (ds : List Found) : Type 0 where
  pub function : Found
  pub others : List Found
  pub whole : ds ≡ function ∷ others
  pub block : function.it.block ≡ block.Package
  pub entity : function.it.entity ≡ entity.Function

abbrev made : ℕ → ℕ → Found → List Found → List Meaning
made s f d ds = record { name = d.name; extent = extent_of d; object = object.Package s; source = Some d } ∷ numbered (record { shared = suc s; functions = suc f; local = 0 }) ds

begun : (k : Numbers) (d : Found) (ds : List Found) → d.it.block ≡ block.Package → d.it.entity ≡ entity.Function → numbered k (d ∷ ds) ≡ made k.shared k.functions d ds
begun k d ds b e =
    ap (λ (c : Block). let m : Meaning = record { name = d.name; extent = extent_of d; object = own_number k c; source = Some d } in m ∷ numbered (numbers_behind k d.it.entity c) ds) b
    ∙ ap (λ (c : Entity). let m : Meaning = record { name = d.name; extent = extent_of d; object = object.Package k.shared; source = Some d } in m ∷ numbered (behind_shared k (is_function c)) ds) e

pub numbered_same : (j k : Numbers) (ds : List Found) → SameNumbers j k → BeginsFunction ds → numbered j ds ≡ numbered k ds
numbered_same j k ds h g =
    ap (numbered j) g.whole ∙ begun j g.function g.others g.block g.entity
    ∙ ap (λ s. made s j.functions g.function g.others) h.shared ∙ ap (λ f. made k.shared f g.function g.others) h.functions
    ∙ sym (ap (numbered k) g.whole ∙ begun k g.function g.others g.block g.entity)

-- ---- one object among the others

-- an object in front of the one that is declared in the file n at the place p of its head
abbrev pub IsEarlier : ℕ → ℕ → Entry → Type 0
IsEarlier n p x = x.file ≡ n → x.place < p

pub record IsThere (n p : ℕ) (x : Entry) : Type 0 where
  pub file : x.file ≡ n
  pub place : x.place ≡ p

not_earlier : (n p : ℕ) (x : Entry) → IsThere n p x → IsEarlier n p x → ⊥
not_earlier n p x h g = absurd (omega (arith, g h.file, h.place))

there_too : (n p : ℕ) (x y : Entry) → x ≡ y → IsThere n p x → IsThere n p y
there_too n p x y e h = record { file = ap (λ (z : Entry). z.file) (sym e) ∙ h.file; place = ap (λ (z : Entry). z.place) (sym e) ∙ h.place }

pub one_front : (n p : ℕ) (xs zs : List Entry) (x z : Entry) (ys us : List Entry) → Every (IsEarlier n p) xs → Every (IsEarlier n p) zs → IsThere n p x → IsThere n p z → xs ++ (x ∷ ys) ≡ zs ++ (z ∷ us) → xs ≡ zs
one_front n p [] [] x z ys us h g s t e = refl
one_front n p [] (c ∷ zs) x z ys us h g s t e = absurd (not_earlier n p c (there_too n p x c (first_same x c ys (zs ++ (z ∷ us)) e) s) g.0)
one_front n p (b ∷ xs) [] x z ys us h g s t e = absurd (not_earlier n p b (there_too n p z b (sym (first_same b z (xs ++ (x ∷ ys)) us e)) t) h.0)
one_front n p (b ∷ xs) (c ∷ zs) x z ys us h g s t e =
    ap (λ d. d ∷ xs) (first_same b c (xs ++ (x ∷ ys)) (zs ++ (z ∷ us)) e)
    ∙ ap (λ ds. c ∷ ds) (one_front n p xs zs x z ys us h.1 g.1 s t (others_same b c (xs ++ (x ∷ ys)) (zs ++ (z ∷ us)) e))
