-- The answers of packages with equal heads.
use Rattle.std.proofs.Common.{◌≡◌, ◌∙◌, ℕ, zero, suc, Bool, List, [], ◌∷◌, map, None, refl, sym, ap, subst, arith}
use Rattle.std.specs.Prelude.{◌&&◌, slice_get, codes}
use Rattle.go_tokens.specs.Spellings.{same_text}
use Rattle.go_tree.specs.declared.object.Declared.{Declared}
use Rattle.go_tree.specs.Faults.{reported}
use Rattle.go_tree.specs.Units.{word}
use Rattle.go_tree.specs.Uses.{UsesView, uses}
use Rattle.go_typed.specs.Packages.{referents}
use Rattle.go_heads.specs.Functions.{AreRead}
use Rattle.go_heads.specs.Heads.{File, heads}
use Rattle.go_package_defs.specs.Answer.{specifications, is_main_package, is_main}
use Rattle.go_package_defs.specs.Sources.{Source, Package, package_of, unit_of, tokens_there, text_at}
use Rattle.go_heads_types.specs.Portions.{files_of, AreNamed}
use Rattle.go_heads.specs.Objects as by_files
use Rattle.go_heads.specs.Objects.{units_of, package_objects, file_in, KeepsObjects}
use Rattle.go_heads.proofs.Public.{Entry, entry, entries_same, Every}
use Rattle.go_heads.specs.Locals as functions
use Rattle.go_heads.specs.Meanings.{StandsOutside, KeepsMeanings}
use Rattle.go_heads_types.specs.Needs.{KeepsNeeds}
use Rattle.go_heads_types.proofs.Kept.{units_same}
use Rattle.go_heads_types.proofs.Meant.{OrderRead, ordered}
use Rattle.go_heads_types.specs.Outside.{KeepsOutside}
use Rattle.go_heads_types.proofs.Shared.{objects_outside}
use Rattle.go_heads_types.specs.HeadPortions.{IsFaultless}
use Rattle.go_heads_types.specs.Specifications.{AreOne}
use Rattle.go_heads_types.specs.Same.{SameDeclarations}
use Rattle.go_heads_types.specs.States.{SameKnowledge}
use Rattle.go_heads_types.specs.Answers.{KeepsAnswer}
use Rattle.go_heads_types.proofs.Specified.{Both, all_same, outlines_same}
use Rattle.go_heads_types.proofs.Starts.{start_at}

tokens_same : (names : List (List ℕ)) (ss : List Source) → AreNamed names ss → (n : ℕ) → (file_in (files_of names ss) n).tokens ≡ tokens_there (slice_get ss n)
tokens_same [] [] e n = refl
tokens_same [] (s ∷ ss) e n = absurd (omega (arith, e))
tokens_same (w ∷ ws) [] e n = absurd (omega (arith, e))
tokens_same (w ∷ ws) (s ∷ ss) e zero = refl
tokens_same (w ∷ ws) (s ∷ ss) e (suc n) = tokens_same ws ss (omega (arith, e)) n

mapped_twice : {A B C : Type 0} (f : B → C) (g : A → B) (xs : List A) → map (λ x. f (g x)) xs ≡ map f (map g xs)
mapped_twice f g [] = refl
mapped_twice f g (x ∷ xs) = ap (λ ys. f (g x) ∷ ys) (mapped_twice f g xs)

mapped_same : {A B : Type 0} (f g : A → B) (xs : List A) → ((x : A) → f x ≡ g x) → map f xs ≡ map g xs
mapped_same f g [] h = refl
mapped_same f g (x ∷ xs) h = ap (λ y. y ∷ map f xs) (h x) ∙ ap (λ ys. g x ∷ ys) (mapped_same f g xs h)

abbrev main_by : Bool → Entry → Bool
main_by b x = b && same_text x.text (codes "main")

module _ (ss us : List Source) (ws vs : List (List ℕ)) (x : AreNamed ws ss) (y : AreNamed vs us) (h : AreRead (files_of ws ss)) (k : AreRead (files_of vs us)) (e : heads (files_of ws ss) ≡ heads (files_of vs us)) (order : OrderRead)
    (objects : KeepsObjects (files_of ws ss) (files_of vs us)) (meanings : KeepsMeanings (files_of ws ss) (files_of vs us)) (outside : KeepsOutside (files_of ws ss) (files_of vs us))
    (needs : KeepsNeeds (package_of ss (uses (map unit_of ss))) (package_of us (uses (map unit_of us))) (files_of ws ss) (files_of vs us))
    (ones : AreOne (files_of ws ss) (files_of vs us) (specifications 0 ss) (specifications 0 us)) where
  abbrev old : List File
  old = files_of ws ss

  abbrev new : List File
  new = files_of vs us

  abbrev p : Package
  p = package_of ss (uses (map unit_of ss))

  abbrev q : Package
  q = package_of us (uses (map unit_of us))

  uses_old : p.uses ≡ uses (units_of old)
  uses_old = ap uses (sym (units_same ws ss x))

  uses_new : q.uses ≡ uses (units_of new)
  uses_new = ap uses (sym (units_same vs us y))

  text_old : (n t : ℕ) → text_at p n t ≡ by_files.text_at old n t
  text_old n t = ap (λ l. word l t) (sym (tokens_same ws ss x n))

  text_new : (n t : ℕ) → text_at q n t ≡ by_files.text_at new n t
  text_new n t = ap (λ l. word l t) (sym (tokens_same vs us y n))

  both : Both p q old new
  both = record {
    uses_old = uses_old;
    uses_new = uses_new;
    text_old = text_old;
    text_new = text_new;
    meanings = meanings;
    outside = outside;
    needs = needs;
    start = λ n. start_at old new h k n 0 (omega arith);
  }

  abbrev levels : UsesView → List Declared
  levels u = u.package_level

  entries : map (entry new) q.uses.package_level ≡ map (entry old) p.uses.package_level
  entries = ap (λ u. map (entry new) (levels u)) uses_new ∙ entries_same old new h k e ∙ sym (ap (λ u. map (entry old) (levels u)) uses_old)

  entities_kept : map (λ (d : Declared). d.entity) q.uses.package_level ≡ map (λ (d : Declared). d.entity) p.uses.package_level
  entities_kept =
      mapped_twice (λ (z : Entry). z.entity) (entry new) q.uses.package_level ∙ ap (map (λ (z : Entry). z.entity)) entries ∙ sym (mapped_twice (λ (z : Entry). z.entity) (entry old) p.uses.package_level)

  main_package : is_main_package q ≡ is_main_package p
  main_package =
      let at = start_at old new h k 0 1 (omega arith) in
      ap (λ w. same_text w (codes "main")) (text_new 0 1 ∙ meanings.text 0 1 1 at.before at.after at.place ∙ sym (text_old 0 1))

  mains_kept : map (is_main q) q.uses.package_level ≡ map (is_main p) p.uses.package_level
  mains_kept =
      mapped_same (is_main q) (λ d. main_by (is_main_package q) (entry new d)) q.uses.package_level (λ d. ap (λ w. is_main_package q && same_text w (codes "main")) (text_new d.file d.name))
      ∙ mapped_twice (main_by (is_main_package q)) (entry new) q.uses.package_level
      ∙ ap (map (main_by (is_main_package q))) entries
      ∙ ap (λ b. map (main_by b) (map (entry old) p.uses.package_level)) main_package
      ∙ sym (mapped_same (is_main p) (λ d. main_by (is_main_package p) (entry old d)) p.uses.package_level (λ d. ap (λ w. is_main_package p && same_text w (codes "main")) (text_old d.file d.name))
      ∙ mapped_twice (main_by (is_main_package p)) (entry old) p.uses.package_level)

  outside_old : Every (λ (z : Declared). StandsOutside old z.file z.name) p.uses.package_level
  outside_old = subst (λ u. Every (λ (z : Declared). StandsOutside old z.file z.name) (levels u)) (sym uses_old) (objects_outside old (ordered order old) h)

  outside_new : Every (λ (z : Declared). StandsOutside new z.file z.name) q.uses.package_level
  outside_new = subst (λ u. Every (λ (z : Declared). StandsOutside new z.file z.name) (levels u)) (sym uses_new) (objects_outside new (ordered order new) k)

  pub declarations_same : SameDeclarations p q (specifications 0 ss) (specifications 0 us)
  declarations_same = record {
    entities = entities_kept;
    referents = ap (λ u. referents (levels u)) uses_new ∙ objects.referents ∙ sym (ap (λ u. referents (levels u)) uses_old);
    mains = mains_kept;
    specifications = all_same p q old new both (specifications 0 ss) (specifications 0 us) ones;
    outlines = outlines_same p q old new both (specifications 0 ss) (specifications 0 us) ones p.uses.package_level q.uses.package_level entries outside_old outside_new;
  }

-- the names of packages that are free of faults
pub by_uses : (ss us : List Source) (u v : UsesView) → u ≡ uses (map unit_of ss) → v ≡ uses (map unit_of us)
    → SameKnowledge (package_of ss (uses (map unit_of ss))) (package_of us (uses (map unit_of us))) (specifications 0 ss) (specifications 0 us) → KeepsAnswer ss us u v
by_uses ss us u v e f h =
    subst (λ z. KeepsAnswer ss us z v) (sym e) (subst (KeepsAnswer ss us (uses (map unit_of ss))) (sym f) (record { before = h.before; after = h.after }))

pub clean : (ss : List Source) (u : UsesView) (ws : List (List ℕ)) → IsFaultless (package_of ss u) ws → reported (units_of (files_of ws ss)) ≡ None
clean ss u ws h = ap reported (units_same ws ss h.named) ∙ h.faultless

pub named : ((fs : List File) → AreRead fs → reported (units_of fs) ≡ None → functions.AreNamed fs) → (ss : List Source) (u : UsesView) (ws : List (List ℕ)) → IsFaultless (package_of ss u) ws → functions.AreNamed (files_of ws ss)
named f ss u ws h = f (files_of ws ss) h.read (clean ss u ws h)
