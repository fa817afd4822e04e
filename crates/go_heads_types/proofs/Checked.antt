-- What a package that type-checks owes its files and their names.
use Rattle.std.proofs.Common.{◌≡◌, ◌∙◌, ℕ, suc, List, [], ◌∷◌, map, Option, Some, None, Result, Ok, Err, refl, sym, ap, subst}
use Rattle.std.proofs.lemmas.List.{length-map}
use Rattle.go_base.specs.declared.bytes.FileText.{FileText}
use Rattle.go_base.specs.Gives.{◌>>=◌}
use Rattle.go_tokens.specs.Files.{IsLexing}
use Rattle.go_tree.specs.declared.context.Entity.TheVariants as entity
use Rattle.go_tree.specs.Failures.{Failure}
use Rattle.go_tree.specs.Faults.{reported}
use Rattle.go_tree.specs.File.{FileTree}
use Rattle.go_tree.specs.Units as names
use Rattle.go_tree.specs.Uses.{UsesView, uses}
use Rattle.go_typed.specs.Contents.{Content}
use Rattle.go_typed.specs.Packages.{PackageView}
use Rattle.go_package_defs.specs.Answer.{Environment, package_answer, specifications, unless}
use Rattle.go_package_defs.specs.Bodies.{Functions, functions_from, those_of}
use Rattle.go_package_defs.specs.Checked.{IsRead, AreRead, IsCheckedPackage, Typing, content_of, files_answer, names_answer, bodies_answer, sources_answer, surroundings_of, texts_of}
use Rattle.go_package_defs.specs.Declarations.{Specification}
use Rattle.go_package_defs.specs.Sources.{Source, source_of, unit_of, package_of}
use Rattle.go_heads_types.specs.Portions.{files_of, AreNamed}
use Rattle.go_heads.specs.Functions as heads
use Rattle.go_heads.specs.Heads.{File}
use Rattle.go_heads.specs.Heads as head
use Rattle.go_heads.specs.Objects.{units_of}
use Rattle.go_heads.specs.Locals as functions
use Rattle.go_heads_types.specs.Packages.{IsResolved}
use Rattle.go_heads_types.proofs.Packages.{units_same}
use Rattle.go_heads_types.specs.WindowPackages.{sources_of, package_read, package_files}

-- ---- answers

-- the value that an answer goes on with
record Bound {A B F : Type 0} (r : Result A F) (f : A → Result B F) (y : B) : Type 0 where
  value : A
  is : r ≡ Ok value
  rest : f value ≡ Ok y

bound : {A B F : Type 0} (r : Result A F) (f : A → Result B F) (y : B) → r >>= f ≡ Ok y → Bound r f y
bound (Ok x) f y e = record { value = x; is = refl; rest = e }
bound (Err g) f y e = absurd cc

same_ok : {A F : Type 0} (x y : A) → ◌≡◌ {A = Result A F} (Ok x) (Ok y) → x ≡ y
same_ok x y e = cc

record Passed {A : Type 0} (o : Option Failure) (x y : A) : Type 0 where
  none : o ≡ None
  same : x ≡ y

passed : {A : Type 0} (o : Option Failure) (x y : A) → unless o x ≡ Ok y → Passed o x y
passed None x y e = record { none = refl; same = same_ok x y e }
passed (Some f) x y e = absurd cc

names_stay : (ss : List Source) (ds : List Specification) (u : UsesView) (e : Environment) (t : Typing) → bodies_answer ss ds u e ≡ Ok t → u ≡ t.uses
names_stay ss ds u e t h =
    let typing : Functions → Typing = λ b. record { uses = u; environment = e; bodies = b; specifications = ds } in
    let b = bound (functions_from (package_of ss u) (surroundings_of u e) e.rights 0 (those_of entity.Function ds)) (λ b. Ok (typing b)) t h in
    ap (λ (x : Typing). x.uses) (same_ok (typing b.value) t b.rest)

-- what files are checked as
record Answered (fs : List FileTree) (c : Content) : Type 0 where
  files : c.files ≡ fs
  none : reported (map unit_of (map source_of fs)) ≡ None
  meanings : c.uses ≡ uses (map unit_of (map source_of fs))

answered : (ns : List (List ℕ)) (files : List FileTree) (c : Content) → files_answer ns files ≡ Ok c → Answered files c
answered ns files c e =
    let ss : List Source = map source_of files in
    let us : List names.Unit = map unit_of ss in
    let all = bound (sources_answer ss) (λ t. Ok (content_of ns files ss t)) c e in
    let t : Typing = all.value in
    let resolved = bound (names_answer us) (λ u. package_answer ss u >>= λ x. bodies_answer ss (specifications 0 ss) u x) t all.is in
    let u : UsesView = resolved.value in
    let named = passed (reported us) (uses us) u resolved.is in
    let declared = bound (package_answer ss u) (λ x. bodies_answer ss (specifications 0 ss) u x) t resolved.rest in
    let it : content_of ns files ss t ≡ c = same_ok (content_of ns files ss t) c all.rest in
    record {
      files = sym (ap (λ (x : Content). x.files) it);
      none = named.none;
      meanings = sym (named.same ∙ names_stay ss (specifications 0 ss) u declared.value t declared.rest ∙ ap (λ (x : Content). x.uses) it);
    }

-- ---- files

one_read : (n : ℕ) (w : List ℕ) (x : FileText) (f : FileTree) → IsRead n x f → head.IsRead (record { name = w; tokens = (source_of f).tokens; tree = (source_of f).tree })
one_read n w x f h = record {
  lexing =
      subst (λ m. IsLexing m f.tokens.text f.tokens.tokens f.tokens.comments) (sym h.number)
      (subst (λ bytes. IsLexing n bytes f.tokens.tokens f.tokens.comments) (sym h.bytes) h.lexing);
  tree = h.tree;
}

all_read : (n : ℕ) (xs : List FileText) (ns : List (List ℕ)) (fs : List FileTree) → AreRead n xs fs → heads.AreRead (files_of ns (map source_of fs))
all_read n xs [] [] h = tt
all_read n xs [] (f ∷ fs) h = tt
all_read n xs (w ∷ ns) [] h = tt
all_read n [] (w ∷ ns) (f ∷ fs) h = absurd h
all_read n (x ∷ xs) (w ∷ ns) (f ∷ fs) h = (one_read n w x f h.0, all_read (suc n) xs ns fs h.1)

-- ---- packages

-- functions have names in files whose names have no fault
abbrev pub NamesFunctions : Type 0
NamesFunctions = (fs : List File) → heads.AreRead fs → reported (units_of fs) ≡ None → functions.AreNamed fs

module _ (p : PackageView) (h : IsCheckedPackage p) where
  abbrev answer : Answered h.checked.files h.given
  answer = answered _ h.checked.files h.given h.checked.answer

  files_same : p.files ≡ h.checked.files
  files_same = h.same.1.files ∙ answer.files

  faultless_units : reported (map unit_of (sources_of p)) ≡ None
  faultless_units = ap (λ fs. reported (map unit_of (map source_of fs))) files_same ∙ answer.none

  named : AreNamed p.names (sources_of p)
  named = h.numbers.names ∙ sym (length-map p.files source_of)

  read : heads.AreRead (package_files p)
  read = all_read 0 (texts_of p) p.names p.files (subst (AreRead 0 (texts_of p)) (sym files_same) h.checked.read)

  pub faultless : reported (units_of (package_files p)) ≡ None
  faultless = ap reported (units_same p.names (sources_of p) named) ∙ faultless_units

  pub resolved : NamesFunctions → IsResolved (package_read p) p.names
  resolved law = record {
    named = named;
    read = read;
    functions = law (package_files p) read faultless;
    uses = h.same.1.uses ∙ answer.meanings ∙ sym (ap (λ fs. uses (map unit_of (map source_of fs))) files_same);
  }
