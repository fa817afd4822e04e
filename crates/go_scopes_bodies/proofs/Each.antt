-- What holds of each function of a package, by the list of files and by numbers.
use Rattle.std.proofs.Common.{◌≡◌, ℕ, zero, suc, List, [], ◌∷◌, ◌++◌, map, Some, refl, sym, subst}
use Rattle.std.specs.Prelude.{slice_get}
use Rattle.go_grammar.specs.Trees.{Tree, parts}
use Rattle.go_tree.specs.Lists.{functions}
use Rattle.go_tree.specs.Units.{Place}
use Rattle.go_heads.specs.Functions.{Function, all_functions, functions_in}
use Rattle.go_heads.specs.Heads.{File}
use Rattle.go_heads.specs.Tokens.{function_files}
use Rattle.go_heads.proofs.Public.{Every, some_none, same_some}
use Rattle.go_scopes_bodies.specs.Faults.{GoesByFunctions}

pub record Iff (A B : Type 0) : Type 0 where
  pub to : A → B
  pub from : B → A

-- what holds of each function with the number of its file; the files are numbered from n on
abbrev pub EachOwn : (ℕ → Function → Type 0) → ℕ → List File → Type 0
EachOwn Own n [] = Unit {0}
EachOwn Own n (f ∷ fs) = Every (Own n) (functions_in f) × EachOwn Own (suc n) fs

module _ (Own : ℕ → Function → Type 0) where
  abbrev Numbered : List Function → List ℕ → Type 0
  Numbered gs ns = (k n : ℕ) (g : Function) → slice_get gs k ≡ Some g → slice_get ns k ≡ Some n → Own n g

  module _ (n : ℕ) (f : File) where
    abbrev in_f : Tree → Function
    in_f t = record { file = f; tree = t }

    in_file : (ts : List Tree) → Every (Own n) (map in_f ts) → (gs : List Function) (ns : List ℕ) → Numbered gs ns → Numbered (map in_f ts ++ gs) (map (λ (t : Tree). n) ts ++ ns)
    in_file [] h gs ns go k m g e i = go k m g e i
    in_file (t ∷ ts) h gs ns go zero m g e i = subst (λ z. Own z g) (same_some n m i) (subst (Own n) (same_some (in_f t) g e) h.0)
    in_file (t ∷ ts) h gs ns go (suc k) m g e i = in_file ts h.1 gs ns go k m g e i

    of_file : (ts : List Tree) (gs : List Function) (ns : List ℕ) → Numbered (map in_f ts ++ gs) (map (λ (t : Tree). n) ts ++ ns) → Every (Own n) (map in_f ts) × Numbered gs ns
    of_file [] gs ns h = (tt, h)
    of_file (t ∷ ts) gs ns h = let rest = of_file ts gs ns (λ k m g e i. h (suc k) m g e i) in ((h zero n (in_f t) refl refl, rest.0), rest.1)

  pub by_number : (n : ℕ) (fs : List File) → EachOwn Own n fs → Numbered (all_functions fs) (function_files n fs)
  by_number n [] h k m g e i = absurd (some_none g (sym e))
  by_number n (f ∷ fs) h k m g e i = in_file n f (functions (parts f.tree)) h.0 (all_functions fs) (function_files (suc n) fs) (by_number (suc n) fs h.1) k m g e i

  pub by_list : (n : ℕ) (fs : List File) → Numbered (all_functions fs) (function_files n fs) → EachOwn Own n fs
  by_list n [] h = tt
  by_list n (f ∷ fs) h = let here = of_file n f (functions (parts f.tree)) (all_functions fs) (function_files (suc n) fs) h in (here.0, by_list (suc n) fs here.1)

-- the form of the laws, from that of the lemmas
pub by_functions : (fs : List File) (own : ℕ → Function → List Place) (outside whole : List Place) → Iff (whole ≡ []) ((outside ≡ []) × EachOwn (λ n f. own n f ≡ []) 0 fs) → GoesByFunctions fs own outside whole
by_functions fs own outside whole law = record {
  apart = λ e. let x = law.to e in (x.0, by_number (λ n f. own n f ≡ []) 0 fs x.1);
  together = λ e h. law.from (e, by_list (λ n f. own n f ≡ []) 0 fs h);
}
