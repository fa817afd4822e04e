-- Declarations of two packages that are the same but for where they stand.
use Rattle.std.specs.Prelude.{◌≡◌, ℕ, ◌+◌, Bool, true, List, [], ◌∷◌, map, Option, Some, None, option_map}
use Rattle.go_grammar.specs.Trees.{Tree}
use Rattle.go_rewriting.specs.Lists.{InOrder}
use Rattle.go_rewriting.specs.Places.{carry}
use Rattle.go_tree.specs.Uses.{object_of}
use Rattle.go_typed.specs.Packages.{referents}
use Rattle.go_package_defs.specs.Answer.{is_main}
use Rattle.go_package_defs.specs.Bodies.{own_object}
use Rattle.go_package_defs.specs.Declarations.{Specification}
use Rattle.go_package_defs.specs.Knowledge.{Outline, outlines}
use Rattle.go_package_defs.specs.Sources.{Package, text_at}
use Rattle.go_package_defs.specs.Verdicts.{numbers_of, needed_by_all}
use Rattle.go_package_alike.specs.Scopes.{AllTokens}

-- The specification declares what the first one does, with each token so many further on.
pub record IsFurther (n : ℕ) (r d : Specification) : Type 0 where
  pub entity : d.entity ≡ r.entity
  pub iota : d.iota ≡ r.iota
  pub names : d.names ≡ map (λ i. n + i) r.names
  pub type_tree : d.type_tree ≡ option_map (carry (λ i. n + i)) r.type_tree
  pub values : d.values ≡ map (carry (λ i. n + i)) r.values

-- The tree is read by tokens that pass the test alone, and its nodes have tokens in order.
abbrev pub IsReadBy : (ℕ → Bool) → Tree → Type 0
IsReadBy p t = InOrder t × AllTokens p t

abbrev pub MaybeReadBy : (ℕ → Bool) → Option Tree → Type 0
MaybeReadBy p None = Unit {0}
MaybeReadBy p (Some t) = IsReadBy p t

abbrev pub AllReadBy : (ℕ → Bool) → List Tree → Type 0
AllReadBy p [] = Unit {0}
AllReadBy p (t ∷ ts) = IsReadBy p t × AllReadBy p ts

-- Specifications of two packages, in files of one number, are one, counted from two tokens: those that it is read by say the same and
-- mean the same, its names have the same objects, and it needs the same objects.
pub record SameSpecification (p q : Package) (d e : Specification) : Type 0 where
  pub one : Specification
  pub from : ℕ
  pub to : ℕ
  pub before : IsFurther from one d
  pub after : IsFurther to one e
  pub file : e.file ≡ d.file
  pub test : ℕ → Bool
  pub type_read : MaybeReadBy test one.type_tree
  pub values_read : AllReadBy test one.values
  pub texts : (i : ℕ) → test i ≡ true → text_at q e.file (to + i) ≡ text_at p d.file (from + i)
  pub objects : (i : ℕ) → test i ≡ true → own_object (object_of q.uses e.file (to + i)) ≡ own_object (object_of p.uses d.file (from + i))
  pub numbers : numbers_of q e.file e.names ≡ numbers_of p d.file d.names
  pub needed : needed_by_all q e ≡ needed_by_all p d

-- The same of objects with their specifications, which need the same objects in both ways.
pub record SameOutline (p q : Package) (x y : Outline) : Type 0 where
  pub specification : SameSpecification p q x.specification y.specification
  pub column : y.column ≡ x.column
  pub partly : y.partly ≡ x.partly
  pub fully : y.fully ≡ x.fully

abbrev pub SameSpecifications : Package → Package → List Specification → List Specification → Type 0
SameSpecifications p q [] [] = Unit {0}
SameSpecifications p q (d ∷ ds) (e ∷ es) = SameSpecification p q d e × SameSpecifications p q ds es
SameSpecifications p q _ _ = ⊥

abbrev pub SameOutlines : Package → Package → List Outline → List Outline → Type 0
SameOutlines p q [] [] = Unit {0}
SameOutlines p q (x ∷ xs) (y ∷ ys) = SameOutline p q x y × SameOutlines p q xs ys
SameOutlines p q _ _ = ⊥

-- The specifications of two packages are the same one by one, and so are their objects: of the same sort, with the same numbers by sort,
-- and the same is the function `main`.
pub record SameDeclarations (p q : Package) (ds es : List Specification) : Type 0 where
  pub entities : map (λ d. d.entity) q.uses.package_level ≡ map (λ d. d.entity) p.uses.package_level
  pub referents : referents q.uses.package_level ≡ referents p.uses.package_level
  pub mains : map (is_main q) q.uses.package_level ≡ map (is_main p) p.uses.package_level
  pub specifications : SameSpecifications p q ds es
  pub outlines : SameOutlines p q (outlines p ds) (outlines q es)
