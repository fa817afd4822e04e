-- The specifications of functions are the functions of the files, in order.
use Rattle.std.proofs.Common.{◌≡◌, ℕ, zero, suc, ◌+◌, Bool, true, false, List, [], ◌∷◌, ◌++◌, map, Option, Some, None, refl, sym, ap, ◌∙◌, subst, length, arith}
use Rattle.std.specs.Prelude.{slice_get, if◌then◌else◌}
use Rattle.go_grammar.specs.declared.kind.Kind.TheVariants as kind
use Rattle.go_grammar.specs.declared.kind.Sort.{Sort}
use Rattle.go_grammar.specs.declared.kind.Sort.TheVariants as declaring
use Rattle.go_grammar.specs.Trees.{Tree, node, Trees, none, more, skip, kind_of, first, last, parts}
use Rattle.go_tree.specs.declared.context.Entity.TheVariants as entity
use Rattle.go_tree.specs.Lists.{is_function, functions}
use Rattle.go_heads.specs.Functions.{Function, functions_in, all_functions}
use Rattle.go_heads.specs.Heads.{File}
use Rattle.go_package_defs.specs.Answer.{specifications}
use Rattle.go_package_defs.specs.Bodies.{is_this, those_of}
use Rattle.go_package_defs.specs.Declarations.{Specification, grouped, declared, declaration, declarations, in_file, function, source_behind}
use Rattle.go_package_defs.specs.Sources.{Source, Package, tokens_in, tokens_there}
use Rattle.go_heads_types.specs.Portions.{files_of, AreNamed}

abbrev pub chosen : List Specification → List Specification
chosen ds = those_of entity.Function ds

pub chosen_append : (ds es : List Specification) → chosen (ds ++ es) ≡ chosen ds ++ chosen es
chosen_append [] es = refl
chosen_append (d ∷ ds) es = go (is_this entity.Function d.entity) (chosen_append ds es)
  where
    go : (c : Bool) → chosen (ds ++ es) ≡ chosen ds ++ chosen es → (if c then d ∷ chosen (ds ++ es) else chosen (ds ++ es)) ≡ (if c then d ∷ chosen ds else chosen ds) ++ chosen es
    go true e = ap (λ l. d ∷ l) e
    go false e = e

no_grouped : (n : ℕ) (s : Sort) (k : ℕ) (r : Option Tree) (ps : Trees) → chosen (grouped n s k r ps) ≡ []
no_grouped n s k r none = refl
no_grouped n declaring.Constant k r (more (node l i j qs) ps) = no_grouped n declaring.Constant (suc k) (source_behind r (node l i j qs)) ps
no_grouped n declaring.Type k r (more (node l i j qs) ps) = no_grouped n declaring.Type (suc k) (source_behind r (node l i j qs)) ps
no_grouped n declaring.Variable k r (more (node l i j qs) ps) = no_grouped n declaring.Variable (suc k) (source_behind r (node l i j qs)) ps
no_grouped n s k r (skip ps) = no_grouped n s k r ps

no_declared : (n : ℕ) (s : Sort) (ps : Trees) → chosen (declared n s ps) ≡ []
no_declared n s (more (node (kind.Group g) i j ps) none) = no_grouped n s 0 None ps
no_declared n s ps = no_grouped n s 0 None ps

-- the specification of a function, if it is one
abbrev pub own : ℕ → Tree → List Specification
own n (node k i j ps) = if is_function k then function n (node k i j ps) i j ps ∷ [] else []

pub of_one : (n : ℕ) (d : Tree) → chosen (declaration n d) ≡ own n d
of_one n (node (kind.Declaration s) i j ps) = no_declared n s ps
of_one n (node kind.FunctionDeclaration i j ps) = refl
of_one n (node _ i j ps) = refl

-- ---- what a specification is of

-- It is that of the function, in the package.
pub record IsOf (p : Package) (d : Specification) (f : Function) : Type 0 where
  pub tokens : tokens_in p d.file ≡ f.file.tokens
  pub tree : d.tree ≡ Some f.tree
  pub first : d.first ≡ first f.tree
  pub last : d.last ≡ last f.tree

module _ (p : Package) where
  abbrev AreOf : List Specification → List Function → Type 0
  AreOf [] [] = Unit {0}
  AreOf [] (f ∷ fs) = ⊥
  AreOf (d ∷ ds) [] = ⊥
  AreOf (d ∷ ds) (f ∷ fs) = IsOf p d f × AreOf ds fs

  of_append : (ds es : List Specification) (fs gs : List Function) → AreOf ds fs → AreOf es gs → AreOf (ds ++ es) (fs ++ gs)
  of_append [] es [] gs h k = k
  of_append [] es (f ∷ fs) gs h k = absurd h
  of_append (d ∷ ds) es [] gs h k = absurd h
  of_append (d ∷ ds) es (f ∷ fs) gs h k = (h.0, of_append ds es fs gs h.1 k)

  module _ (f : File) (n : ℕ) (there : tokens_in p n ≡ f.tokens) where
    abbrev in_it : List Tree → List Function
    in_it ts = map (λ t. record { file = f; tree = t }) ts

    one_of : (d : Tree) (ds : List Specification) (fs : List Tree) → AreOf ds (in_it fs) → AreOf (own n d ++ ds) (in_it (if is_function (kind_of d) then d ∷ fs else fs))
    one_of (node k i j ps) ds fs h = go (is_function k)
      where
        go : (c : Bool) → AreOf ((if c then function n (node k i j ps) i j ps ∷ [] else []) ++ ds) (in_it (if c then node k i j ps ∷ fs else fs))
        go true = (record { tokens = there; tree = refl; first = refl; last = refl }, h)
        go false = h

    rows_of : (ps : Trees) → AreOf (chosen (declarations n ps)) (in_it (functions ps))
    rows_of none = tt
    rows_of (more d ds) =
        subst (λ l. AreOf l (in_it (functions (more d ds)))) (sym (chosen_append (declaration n d) (declarations n ds) ∙ ap (λ l. l ++ chosen (declarations n ds)) (of_one n d)))
        (one_of d (chosen (declarations n ds)) (functions ds) (rows_of ds))
    rows_of (skip ds) = rows_of ds

    file_of : (t : Tree) → AreOf (chosen (in_file n t)) (in_it (functions (parts t)))
    file_of (node k i j ps) = rows_of ps

  -- the files from the number n on
  abbrev StandFrom : ℕ → List Source → Type 0
  StandFrom n [] = Unit {0}
  StandFrom n (s ∷ ss) = (tokens_in p n ≡ s.tokens) × StandFrom (suc n) ss

  files_from : (n : ℕ) (names : List (List ℕ)) (ss : List Source) → AreNamed names ss → StandFrom n ss → AreOf (chosen (specifications n ss)) (all_functions (files_of names ss))
  files_from n [] [] e h = tt
  files_from n [] (s ∷ ss) e h = absurd (omega (arith, e))
  files_from n (w ∷ ws) [] e h = tt
  files_from n (w ∷ ws) (s ∷ ss) e h =
      let f : File = record { name = w; tokens = s.tokens; tree = s.tree } in
      subst (λ l. AreOf l (all_functions (files_of (w ∷ ws) (s ∷ ss)))) (sym (chosen_append (in_file n s.tree) (specifications (suc n) ss)))
      (of_append (chosen (in_file n s.tree)) (chosen (specifications (suc n) ss)) (functions_in f) (all_functions (files_of ws ss)) (file_of f n h.0 s.tree) (files_from (suc n) ws ss (omega (arith, e)) h.1))

  stand_from : (n : ℕ) (ss : List Source) → ((k : ℕ) → slice_get p.sources (n + k) ≡ slice_get ss k) → StandFrom n ss
  stand_from n [] h = tt
  stand_from n (s ∷ ss) h =
      (ap tokens_there (ap (slice_get p.sources) (let z : n ≡ n + 0 = omega arith in z) ∙ h 0), stand_from (suc n) ss (λ k. ap (slice_get p.sources) (let z : suc n + k ≡ n + suc k = omega arith in z) ∙ h (suc k)))

  pub all_of : (names : List (List ℕ)) → AreNamed names p.sources → AreOf (chosen (specifications 0 p.sources)) (all_functions (files_of names p.sources))
  all_of names e = files_from 0 names p.sources e (stand_from 0 p.sources (λ k. ap (slice_get p.sources) (let z : 0 + k ≡ k = omega arith in z)))

  pub of_count : (ds : List Specification) (fs : List Function) → AreOf ds fs → length ds ≡ length fs
  of_count [] [] h = refl
  of_count [] (f ∷ fs) h = absurd h
  of_count (d ∷ ds) [] h = absurd h
  of_count (d ∷ ds) (f ∷ fs) h = ap suc (of_count ds fs h.1)

  same_one : {A : Type 0} (x y : A) → Some x ≡ Some y → x ≡ y
  same_one x y e = cc

  nothing : {A : Type 0} (x : A) → None ≡ Some x → ⊥
  nothing x e = cc

  pub of_at : (ds : List Specification) (fs : List Function) → AreOf ds fs → (n : ℕ) (d : Specification) (f : Function) → slice_get ds n ≡ Some d → slice_get fs n ≡ Some f → IsOf p d f
  of_at [] [] h n d f x y = absurd (nothing d x)
  of_at [] (g ∷ fs) h n d f x y = absurd h
  of_at (e ∷ ds) [] h n d f x y = absurd h
  of_at (e ∷ ds) (g ∷ fs) h zero d f x y = subst (λ z. IsOf p z f) (same_one e d x) (subst (λ z. IsOf p e z) (same_one g f y) h.0)
  of_at (e ∷ ds) (g ∷ fs) h (suc n) d f x y = of_at ds fs h.1 n d f x y
