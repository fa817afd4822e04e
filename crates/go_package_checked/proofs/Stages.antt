-- What the answer of a check says of its stages.
use Rattle.std.proofs.Common.{◌≡◌, ◌∙◌, ℕ, suc, List, [], ◌∷◌, map, Option, Some, None, Result, Ok, Err, refl, ap}
use Rattle.std.specs.List.{AllByRecursion}
use Rattle.go_base.specs.declared.bytes.FileText.{FileText}
use Rattle.go_base.specs.Gives.{◌>>=◌}
use Rattle.go_grammar.specs.Grammar.{IsFile}
use Rattle.go_tokens.specs.Tokens.{kinds}
use Rattle.go_tree.specs.declared.context.Entity.TheVariants as entity
use Rattle.go_tree.specs.Failures.{Failure}
use Rattle.go_tree.specs.Faults.{reported}
use Rattle.go_tree.specs.File.{FileTree}
use Rattle.go_tree.specs.Units as names
use Rattle.go_tree.specs.Uses.{UsesView, uses}
use Rattle.go_typed.specs.Contents.{Content}
use Rattle.go_package_defs.specs.Answer.{specifications, package_answer, unless}
use Rattle.go_package_defs.specs.Bodies.{functions_from, those_of}
use Rattle.go_package_defs.specs.Checked.{Typing, surroundings_of, names_answer, bodies_answer, sources_answer, content_of, AreRead, IsChecked, names_of}
use Rattle.go_package_defs.specs.Declarations.{Specification}
use Rattle.go_package_defs.specs.Sources.{Source, package_of, source_of, unit_of}

bound : {A B F : Type 0} (r : Result A F) (f : A → Result B F) (y : B) → (r >>= f) ≡ Ok y → (x : A) × (r ≡ Ok x) × (f x ≡ Ok y)
bound (Ok x) f y e = (x, refl, e)
bound (Err g) f y e = cc

ok_same : {A F : Type 0} (x y : A) → (let r : Result A F = Ok x in r) ≡ Ok y → x ≡ y
ok_same x y e = cc

unless_ok : (o : Option Failure) (x y : UsesView) → unless o x ≡ Ok y → (o ≡ None) × (x ≡ y)
unless_ok None x y e = (refl, ok_same x y e)
unless_ok (Some f) x y e = absurd cc

-- No rule on names fails, and the declarations have this answer.
pub record HasStages (ss : List Source) (t : Typing) : Type 0 where
  pub names : reported (map unit_of ss) ≡ None
  pub answer : package_answer ss (uses (map unit_of ss)) ≡ Ok t.environment

pub stages : (ss : List Source) (t : Typing) → sources_answer ss ≡ Ok t → HasStages ss t
stages ss t h =
    let us : List names.Unit = map unit_of ss in
    let ds : List Specification = specifications 0 ss in
    let u = bound (names_answer us) (λ u. package_answer ss u >>= λ e. bodies_answer ss ds u e) t h in
    let n = unless_ok (reported us) (uses us) u.0 u.1 in
    let e = bound (package_answer ss u.0) (λ e. bodies_answer ss ds u.0 e) t u.2 in
    let b = bound (functions_from (package_of ss u.0) (surroundings_of u.0 e.0) e.0.rights 0 (those_of entity.Function ds)) (λ b. Ok (record { uses = u.0; environment = e.0; bodies = b; specifications = ds })) t e.2 in
    let same : e.0 ≡ t.environment = ap (λ (z : Typing). z.environment) (ok_same (record { uses = u.0; environment = e.0; bodies = b.0; specifications = ds }) t b.2) in
    record { names = n.0; answer = ap (package_answer ss) n.1 ∙ e.1 ∙ ap (λ x. Ok x) same }

-- ---- from bytes on

pub all_files : (n : ℕ) (texts : List FileText) (fs : List FileTree) → AreRead n texts fs → AllByRecursion (λ s. IsFile (kinds s.tokens.tokens) s.tree) (map source_of fs)
all_files n [] [] h = tt
all_files n [] (f ∷ fs) h = absurd h
all_files n (x ∷ xs) [] h = absurd h
all_files n (x ∷ xs) (f ∷ fs) h = (h.0.tree, all_files (suc n) xs fs h.1)

-- the typing of a package that type-checks
pub record HasTyping (ss : List Source) : Type 0 where
  pub typing : Typing
  pub answer : sources_answer ss ≡ Ok typing

pub typing_of : (texts : List FileText) (c : Content) (h : IsChecked texts c) → HasTyping (map source_of h.files)
typing_of texts c h =
    let ss = map source_of h.files in
    let r = bound (sources_answer ss) (λ t. Ok (content_of (names_of texts) h.files ss t)) c h.answer in
    record { typing = r.0; answer = r.1 }
