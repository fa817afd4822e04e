-- The portions of functions in packages with equal heads.
use Rattle.std.proofs.Common.{◌≡◌, ◌∙◌, ℕ, zero, suc, ◌+◌, ◌-◌, ◌<◌, Bool, true, false, List, [], ◌∷◌, ◌++◌, map, Some, None, refl, sym, ap, arith}
use Rattle.std.specs.Prelude.{slice_get, if◌then◌else◌, option_map}
use Rattle.std.proofs.lemmas.List.{map-append}
use Rattle.std.proofs.lemmas.Option.{slice_get-map}
use Rattle.go_grammar.specs.Trees.{Tree, node, Trees, none, more, skip, kind_of, first, last, parts}
use Rattle.go_tree.specs.Faults.{reported}
use Rattle.go_tree.specs.Lists.{is_function, functions}
use Rattle.go_tree.specs.Uses.{uses, object_of}
use Rattle.go_heads.specs.Functions.{Function, AreRead, all_functions, body_texts}
use Rattle.go_heads.specs.Heads.{File}
use Rattle.go_heads.proofs.Public.{same_some}
use Rattle.go_package_defs.specs.Answer.{specifications}
use Rattle.go_package_defs.specs.Bodies.{own_object, objects_from, portion_of}
use Rattle.go_package_defs.specs.Declarations.{Specification, declaration, declarations, function, in_file}
use Rattle.go_package_defs.specs.Sources.{Source, Package}
use Rattle.go_heads_types.specs.Portions.{files_of, AreNamed, SameBody, KeepsPortions, function_specifications}
use Rattle.go_heads_types.proofs.Portions.{one_portion}
use Rattle.go_heads_types.proofs.Specifications.{IsOf, chosen, chosen_append, own, of_one, all_of, of_at}
use Rattle.go_heads.specs.Locals as locals
use Rattle.go_heads.specs.Objects.{units_of}
use Rattle.go_heads_types.specs.Packages.{IsResolved, KeepsNames}
use Rattle.go_heads_types.proofs.Packages.{units_same, by_units}
use Rattle.go_heads_types.specs.HeadPortions.{IsFaultless, KeepsTypedFunctions}
use Rattle.go_heads.specs.Tokens.{function_files, KeepsTokens}

-- ---- the files of specifications

abbrev file_of : Specification → ℕ
file_of d = d.file

one_file : (n : ℕ) (d : Tree) (ds : Trees) (rest : List Specification) → map file_of rest ≡ map (λ (t : Tree). n) (functions ds)
    → map file_of (own n d ++ rest) ≡ map (λ (t : Tree). n) (if is_function (kind_of d) then d ∷ functions ds else functions ds)
one_file n (node k i j ps) ds rest e = by (is_function k) refl
  where
    by : (c : Bool) → is_function k ≡ c → map file_of (own n (node k i j ps) ++ rest) ≡ map (λ (t : Tree). n) (if c then node k i j ps ∷ functions ds else functions ds)
    by true f = ap (λ b. map file_of ((if b then function n (node k i j ps) i j ps ∷ [] else []) ++ rest)) f ∙ ap (λ ns. n ∷ ns) e
    by false f = ap (λ b. map file_of ((if b then function n (node k i j ps) i j ps ∷ [] else []) ++ rest)) f ∙ e

row_files : (n : ℕ) (ps : Trees) → map file_of (chosen (declarations n ps)) ≡ map (λ (t : Tree). n) (functions ps)
row_files n none = refl
row_files n (more d ds) =
    ap (map file_of) (chosen_append (declaration n d) (declarations n ds) ∙ ap (λ l. l ++ chosen (declarations n ds)) (of_one n d))
    ∙ one_file n d ds (chosen (declarations n ds)) (row_files n ds)
row_files n (skip ds) = row_files n ds

tree_files : (n : ℕ) (t : Tree) → map file_of (chosen (in_file n t)) ≡ map (λ (t : Tree). n) (functions (parts t))
tree_files n (node k i j ps) = row_files n ps

all_files : (n : ℕ) (names : List (List ℕ)) (ss : List Source) → AreNamed names ss → map file_of (chosen (specifications n ss)) ≡ function_files n (files_of names ss)
all_files n [] [] e = refl
all_files n [] (s ∷ ss) e = absurd (omega (arith, e))
all_files n (w ∷ ws) [] e = refl
all_files n (w ∷ ws) (s ∷ ss) e =
    ap (map file_of) (chosen_append (in_file n s.tree) (specifications (suc n) ss))
    ∙ map-append file_of (chosen (in_file n s.tree)) (chosen (specifications (suc n) ss))
    ∙ ap (λ ns. ns ++ map file_of (chosen (specifications (suc n) ss))) (tree_files n s.tree)
    ∙ ap (λ ns. map (λ (t : Tree). n) (functions (parts s.tree)) ++ ns) (all_files (suc n) ws ss (omega (arith, e)))

file_at : (p : Package) (names : List (List ℕ)) → AreNamed names p.sources → (k : ℕ) (d : Specification) (n : ℕ) → slice_get (function_specifications p) k ≡ Some d
    → slice_get (function_files 0 (files_of names p.sources)) k ≡ Some n → d.file ≡ n
file_at p names e k d n s t =
    same_some d.file n (sym (ap (option_map file_of) s) ∙ sym (slice_get-map file_of (function_specifications p) k) ∙ ap (λ ns. slice_get ns k) (all_files 0 names p.sources e) ∙ t)

-- ---- objects

objects_equal : (p q : Package) (n t u k : ℕ) → ((x : ℕ) → x < k → object_of q.uses n (u + x) ≡ object_of p.uses n (t + x)) → objects_from q n u k ≡ objects_from p n t k
objects_equal p q n t u zero h = refl
objects_equal p q n t u (suc k) h =
    let v : u ≡ u + 0 = omega arith in
    let w : t + 0 ≡ t = omega arith in
    let here : object_of q.uses n u ≡ object_of p.uses n t = ap (object_of q.uses n) v ∙ h 0 (omega arith) ∙ ap (object_of p.uses n) w in
    ap (λ o. own_object o ∷ objects_from q n (suc u) k) here
    ∙ ap (λ os. own_object (object_of p.uses n t) ∷ os)
    (objects_equal p q n (suc t) (suc u) k (λ x lt. let a : suc u + x ≡ u + suc x = omega arith in let b : t + suc x ≡ suc t + x = omega arith in ap (object_of q.uses n) a ∙ h (suc x) (omega (arith, lt)) ∙ ap (object_of p.uses n) b))

-- ---- two packages

abbrev AllNamed : Type 0
AllNamed = (fs : List File) → AreRead fs → reported (units_of fs) ≡ None → locals.AreNamed fs

pub resolved : AllNamed → (p : Package) (names : List (List ℕ)) → IsFaultless p names → IsResolved p names
resolved f p names h = record { named = h.named; read = h.read; functions = f (files_of names p.sources) h.read (ap reported (units_same names p.sources h.named) ∙ h.faultless); uses = h.uses }

module _ (p q : Package) (names others : List (List ℕ)) (h : IsResolved p names) (k : IsResolved q others) where
  abbrev old : List File
  old = files_of names p.sources

  abbrev new : List File
  new = files_of others q.sources

  objects_same : (n : ℕ) (d e : Specification) (s : SameBody p q names others n d e) → KeepsTokens old new n s.old s.new → (portion_of q e).objects ≡ (portion_of p d).objects
  objects_same n d e s keeps =
      let a : IsOf p d s.old = of_at p (function_specifications p) (all_functions old) (all_of p names h.named) n d s.old s.old_specified s.old_stands in
      let b : IsOf q e s.new = of_at q (function_specifications q) (all_functions new) (all_of q others k.named) n e s.new s.new_specified s.new_stands in
      let count : ℕ = last s.old.tree - first s.old.tree in
      let width_d : d.last - d.first ≡ count = ap (λ i. i - d.first) a.last ∙ ap (λ i. last s.old.tree - i) a.first in
      let width_e : e.last - e.first ≡ count = ap (λ i. i - e.first) b.last ∙ ap (λ i. last s.new.tree - i) b.first ∙ keeps.count in
      let each : (x : ℕ) → x < count → object_of q.uses keeps.file (first s.new.tree + x) ≡ object_of p.uses keeps.file (first s.old.tree + x) =
      λ x lt.
      ap (λ u. object_of u keeps.file (first s.new.tree + x)) (by_units q others k) ∙ keeps.objects x lt
      ∙ sym (ap (λ u. object_of u keeps.file (first s.old.tree + x)) (by_units p names h)) in
      ap (λ i. objects_from q i e.first (e.last - e.first)) (file_at q others k.named n e keeps.file s.new_specified keeps.after)
      ∙ ap (λ i. objects_from q keeps.file i (e.last - e.first)) b.first
      ∙ ap (objects_from q keeps.file (first s.new.tree)) width_e
      ∙ objects_equal p q keeps.file (first s.old.tree) (first s.new.tree) count each
      ∙ sym (
      ap (λ i. objects_from p i d.first (d.last - d.first)) (file_at p names h.named n d keeps.file s.old_specified keeps.before)
      ∙ ap (λ i. objects_from p keeps.file i (d.last - d.first)) a.first
      ∙ ap (objects_from p keeps.file (first s.old.tree)) width_d)

  pub typed_kept : KeepsPortions p q names others → KeepsNames p q names others
      → ((n : ℕ) (f g : Function) → slice_get (all_functions old) n ≡ Some f → slice_get (all_functions new) n ≡ Some g → body_texts g ≡ body_texts f → KeepsTokens old new n f g)
      → KeepsTypedFunctions p q names others
  typed_kept portions keeps tokens = record {
    portions =
        λ n d e s.
        one_portion (portion_of p d) (portion_of q e) (portions.portions n d e s) (objects_same n d e s (tokens n s.old s.new s.old_stands s.new_stands s.bodies));
    typed =
        λ n d e s a rights.
        portions.typed n d e s (objects_same n d e s (tokens n s.old s.new s.old_stands s.new_stands s.bodies)) (keeps.types n d e s) a rights;
  }
