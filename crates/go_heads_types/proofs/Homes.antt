-- The name of a declared type, by where it stands.
use Rattle.std.proofs.Common.{◌≡◌, ◌∙◌, ℕ, zero, suc, ◌+◌, ◌-◌, List, [], ◌∷◌, length, Option, Some, None, refl, sym, ap, subst, arith}
use Rattle.std.specs.Prelude.{slice_get, option_map, unwrap_or}
use Rattle.std.proofs.lemmas.Option.{slice_get-map}
use Rattle.go_base.specs.Optional.{◌>>=◌}
use Rattle.go_grammar.specs.Trees.{Tree, first, parts}
use Rattle.go_types.proofs.Public.{all_at}
use Rattle.go_tree.specs.declared.object.Declared.{Declared}
use Rattle.go_tree.specs.File.{FileTree}
use Rattle.go_tree.specs.Functions.{function_declaration_of}
use Rattle.go_tree.specs.Lists.{functions}
use Rattle.go_tree.specs.Spans.{token_text}
use Rattle.go_tree.specs.Units.{word}
use Rattle.go_tree.specs.Uses.{UsesView, uses, local_in}
use Rattle.go_typed.specs.declared.origin.Origin.{Origin}
use Rattle.go_typed.specs.declared.origin.Origin.TheVariants as origin
use Rattle.go_typed.specs.Packages.{PackageView}
use Rattle.go_print.specs.Names.{text_in, name_of, name_at, declared_name}
use Rattle.go_heads.specs.Functions.{Function, AreRead, all_functions, function_alone}
use Rattle.go_heads.specs.Heads.{File, body_of}
use Rattle.go_heads.specs.Objects.{units_of}
use Rattle.go_heads.specs.Names.{own_text, DeclaresByItself}
use Rattle.go_heads.specs.Locals.{own_locals, local_in_file, all_locals}
use Rattle.go_heads.specs.FunctionNames.{function_name}
use Rattle.go_heads.proofs.Public.{IsThere, is_there, locals_as_many}
use Rattle.go_heads_types.specs.Packages.{IsResolved}
use Rattle.go_heads_types.proofs.Packages.{by_units}
use Rattle.clone_classes.specs.Heads.{Home, in_package, in_function, FunctionAt, texts_of, home_in, home_at, home_of}
use Rattle.go_heads_types.specs.WindowPackages.{package_read, package_files}
use Rattle.go_heads_types.proofs.Locals.{IsPlaced, placed, own_spelled}
use Rattle.go_heads_types.proofs.Texts.{token_there, text_named, function_at, functions_same}

-- ---- what a name is by its home

-- the function of this name whose body has these texts, and a name at its i-th token
pub record IsLocalName (fs : List File) (name : List ℕ) (body : List (List ℕ)) (i : ℕ) (w : List ℕ) : Type 0 where
  pub number : ℕ
  pub function : Function
  pub there : slice_get (all_functions fs) number ≡ Some function
  pub named : function_name function ≡ name
  pub texts : texts_of function.file.tokens (body_of function.tree) ≡ body
  pub text : w ≡ own_text (function_alone function) i

abbrev pub IsNameAt : List File → Option Home → List ℕ → Type 0
IsNameAt fs None w = w ≡ []
IsNameAt fs (Some (in_package a)) w = w ≡ a
IsNameAt fs (Some (in_function a s i)) w = IsLocalName fs a s i w

-- ---- in the package block

spelled_there : (fs : List File) (o : Option (List ℕ)) → IsNameAt fs (option_map in_package o) (unwrap_or o [])
spelled_there fs None = refl
spelled_there fs (Some w) = refl

file_there : (fs : List File) (o : Option FileTree) (t : ℕ) → IsNameAt fs (o >>= λ f. option_map in_package (token_text f.tokens t)) (text_in o t)
file_there fs None t = refl
file_there fs (Some f) t = spelled_there fs (token_text f.tokens t)

object_there : (fs : List File) (p : PackageView) (o : Option Declared) → IsNameAt fs (o >>= λ d. slice_get p.files d.file >>= λ f. option_map in_package (token_text f.tokens d.name)) (name_of p o)
object_there fs p None = refl
object_there fs p (Some d) = file_there fs (slice_get p.files d.file) d.name

-- ---- in a function

none_too : {A B : Type 0} (xs : List A) (ys : List B) (i : ℕ) → length xs ≡ length ys → slice_get xs i ≡ None → slice_get ys i ≡ None
none_too xs [] i e h = refl
none_too [] (y ∷ ys) i e h = absurd (omega (arith, e))
none_too (x ∷ xs) (y ∷ ys) zero e h = absurd cc
none_too (x ∷ xs) (y ∷ ys) (suc i) e h = none_too xs ys i (omega (arith, e)) h

abbrev pub DeclareByThemselves : Type 0
DeclareByThemselves = (fs : List File) → AreRead fs → (n : ℕ) (f : File) → slice_get fs n ≡ Some f → (i : ℕ) (t : Tree) → slice_get (functions (parts f.tree)) i ≡ Some t → DeclaresByItself fs n f t

abbrev pub LocalsFollow : List File → Type 0
LocalsFollow fs = (uses (units_of fs)).locals ≡ all_locals 0 fs

module _ (p : PackageView) (h : IsResolved (package_read p) p.names) (law : DeclareByThemselves) (follow : LocalsFollow (package_files p)) where
  abbrev fs : List File
  fs = package_files p

  locals_there : p.uses.locals ≡ all_locals 0 fs
  locals_there = ap (λ (u : UsesView). u.locals) (by_units (package_read p) p.names h) ∙ follow

  -- the home of a local, by its function
  abbrev home_by : FunctionAt → Option Declared → Option Home
  home_by f o = o >>= λ d. function_declaration_of f.tree >>= home_in f d

  abbrev local_home_by : Option FunctionAt → Option (List Declared) → ℕ → Option Home
  local_home_by f o n = f >>= λ x. o >>= λ ds. home_by x (slice_get ds n)

  module _ (k : ℕ) (g : Function) (there : slice_get (all_functions fs) k ≡ Some g) where
    abbrev at : IsPlaced 0 fs (all_locals 0 fs) k g
    at = placed 0 fs k g there

    abbrev in_it : Declared → Declared
    in_it d = local_in_file (0 + at.number) (first g.tree) d

    spelled : (x : Declared) (n : ℕ) → slice_get (own_locals (function_alone g)) n ≡ Some x → name_of p (Some (in_it x)) ≡ own_text (function_alone g) x.name
    spelled x n e =
        text_named p.names p.files (0 + at.number) (first g.tree + x.name) g.file (ap (slice_get fs) (let z : 0 + at.number ≡ at.number = omega arith in z) ∙ at.file)
        ∙ all_at (λ (y : Declared). word g.file.tokens (first g.tree + y.name) ≡ own_text (function_alone g) y.name) (own_locals (function_alone g)) n x
        (own_spelled fs at.number g.file g.tree (law fs h.read at.number g.file at.file at.place g.tree at.tree)) e

    one_local : (n : ℕ) (o : Option Declared) → slice_get (own_locals (function_alone g)) n ≡ o → IsNameAt fs (home_by (function_at g) (option_map in_it o)) (name_of p (option_map in_it o))
    one_local n None e = refl
    one_local n (Some x) e =
        let it : IsThere g = is_there fs h.read k g there in
        let w : List ℕ = name_of p (Some (in_it x)) in
        let body : List (List ℕ) = texts_of g.file.tokens (body_of g.tree) in
        let i : ℕ = first g.tree + x.name - first g.tree in
        let same : x.name ≡ i = omega arith in
        let local : IsLocalName fs (function_name g) body i w = record {
          number = k;
          function = g;
          there = there;
          named = refl;
          texts = refl;
          text = spelled x n e ∙ ap (own_text (function_alone g)) same;
        } in
        subst (λ d. IsNameAt fs (d >>= home_in (function_at g) (in_it x)) w) (sym it.made.declares)
        (subst (λ o. IsNameAt fs (o >>= λ name. Some (in_function name body i)) w) (sym (token_there g.file.tokens (suc (first g.tree)) (omega (arith, it.made.named, it.made.ends, it.within)))) local)

    locals_named : (n : ℕ) → IsNameAt fs (local_home_by (Some (function_at g)) (slice_get p.uses.locals k) n) (name_of p (local_in (slice_get p.uses.locals k) n))
    locals_named n =
        let own : List Declared = own_locals (function_alone g) in
        subst (λ o. IsNameAt fs (local_home_by (Some (function_at g)) o n) (name_of p (local_in o n))) (sym (ap (λ dss. slice_get dss k) locals_there ∙ at.locals))
        (subst (λ o. IsNameAt fs (home_by (function_at g) o) (name_of p o)) (sym (slice_get-map in_it own n)) (one_local n (slice_get own n) refl))

  by_function : (k n : ℕ) (o : Option Function) → slice_get (all_functions fs) k ≡ o → IsNameAt fs (local_home_by (option_map function_at o) (slice_get p.uses.locals k) n) (name_of p (local_in (slice_get p.uses.locals k) n))
  by_function k n None e =
      subst (λ o. name_of p (local_in o n) ≡ []) (sym (ap (λ dss. slice_get dss k) locals_there ∙ none_too (all_functions fs) (all_locals 0 fs) k (sym (locals_as_many 0 fs)) e)) refl
  by_function k n (Some g) e = locals_named k g e n

  home_named : (o : Option Origin) → IsNameAt fs (home_at p o) (name_at p o)
  home_named None = refl
  home_named (Some (origin.Package n)) = object_there fs p (slice_get p.uses.package_level n)
  home_named (Some (origin.Local k n)) =
      subst (λ f. IsNameAt fs (local_home_by f (slice_get p.uses.locals k) n) (name_of p (local_in (slice_get p.uses.locals k) n)))
      (sym (ap (λ gs. slice_get gs k) (functions_same p.names p.files h.named h.read) ∙ slice_get-map function_at (all_functions fs) k))
      (by_function k n (slice_get (all_functions fs) k) refl)

  pub named_by_home : (n : ℕ) → IsNameAt fs (home_of p n) (declared_name p n)
  named_by_home n = home_named (slice_get p.origins n)
