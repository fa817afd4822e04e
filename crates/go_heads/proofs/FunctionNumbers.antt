-- The numbers of functions by their names.
use Rattle.std.proofs.Common.{◌≡◌, ◌∙◌, ℕ, suc, ◌+◌, ◌-◌, Bool, true, false, List, length, Some, refl, sym, ap, arith}
use Rattle.std.specs.Prelude.{slice_get, option_map, if◌then◌else◌}
use Rattle.std.proofs.lemmas.Option.{slice_get-map}
use Rattle.go_grammar.specs.Trees.{Tree, node, none, more, skip, first, last}
use Rattle.go_tree.specs.Lists.{is_function}
use Rattle.go_tree.specs.Units.{word}
use Rattle.go_types.proofs.Public.{get_within, get_there}
use Rattle.go_heads.specs.Functions.{Function, Alone, AreRead, KeepsFunctions, all_functions, signature_alone, texts_from}
use Rattle.go_heads.specs.Heads.{File, without_body}
use Rattle.go_heads.proofs.Words.{texts_length, texts_apart}
use Rattle.go_heads.specs.FunctionNames.{function_name}
use Rattle.go_heads.proofs.Parts.{IsThere, is_there}
use Rattle.go_heads.proofs.Told.{names_of}

begins : (t : Tree) → first (without_body t) ≡ first t
begins (node k i j none) = refl
begins (node k i j (skip ps)) = refl
begins (node k i j (more s none)) = refl
begins (node k i j (more s (skip ps))) = refl
begins (node k i j (more s (more b ps))) = by (is_function k)
  where
    by : (c : Bool) → first (if c then node k i (first b) (more s (skip ps)) else node k i j (more s (more b ps))) ≡ i
    by true = refl
    by false = refl

-- functions with one signature have one name
one_name : (f g : Function) → IsThere f → signature_alone g ≡ signature_alone f → function_name g ≡ function_name f
one_name f g h e =
    let t : Tree = without_body f.tree in
    let u : Tree = without_body g.tree in
    let texts : texts_from g.file.tokens (first u) (last u - first u) ≡ texts_from f.file.tokens (first t) (last t - first t) = ap (λ (a : Alone). a.texts) e in
    let wide : last u - first u ≡ last t - first t = sym (texts_length g.file.tokens (first u) (last u - first u)) ∙ ap length texts ∙ texts_length f.file.tokens (first t) (last t - first t) in
    let a : first t ≡ first f.tree = begins f.tree in
    let b : first u ≡ first g.tree = begins g.tree in
    ap (word g.file.tokens) (let z : suc (first g.tree) ≡ first u + 1 = omega (arith, b) in z)
    ∙ texts_apart f.file.tokens g.file.tokens (first t) (first u) (last t - first t) (ap (texts_from g.file.tokens (first u)) (sym wide) ∙ texts) 1 (omega (arith, h.made.named, a))
    ∙ ap (word f.file.tokens) (let z : first t + 1 ≡ suc (first f.tree) = omega (arith, a) in z)

pub name_at : (fs : List File) (k : ℕ) (f : Function) → slice_get (all_functions fs) k ≡ Some f → slice_get (names_of fs) k ≡ Some (function_name f)
name_at fs k f e = slice_get-map function_name (all_functions fs) k ∙ ap (option_map function_name) e

-- where functions of one name are one
abbrev pub HaveOwnNames : List File → Type 0
HaveOwnNames fs = (k l : ℕ) (f g : Function) → slice_get (all_functions fs) k ≡ Some f → slice_get (all_functions fs) l ≡ Some g → function_name g ≡ function_name f → k ≡ l

pub one_number : (old new : List File) → AreRead old → KeepsFunctions old new → HaveOwnNames old → (k l : ℕ) (f g : Function)
    → slice_get (all_functions old) k ≡ Some f → slice_get (all_functions new) l ≡ Some g → function_name g ≡ function_name f → k ≡ l
one_number old new h keeps own k l f g s t e =
    let there = get_there (all_functions old) l (omega (arith, get_within (all_functions new) l g t, keeps.count)) in
    own k l f there.0 s there.1 (sym (one_name there.0 g (is_there old h l there.0 there.1) (keeps.signatures l there.0 g there.1 t)) ∙ e)
