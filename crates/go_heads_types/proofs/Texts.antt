-- The names of objects and the tokens of functions, in the files of a package.
use Rattle.std.proofs.Common.{◌≡◌, ◌∙◌, ℕ, zero, suc, ◌<◌, List, [], ◌∷◌, ◌++◌, map, length, Option, Some, None, refl, sym, ap, arith}
use Rattle.std.specs.Prelude.{slice_get, option_map, unwrap_or}
use Rattle.std.proofs.lemmas.List.{map-append}
use Rattle.go_tokens.specs.declared.token.Token.{Token}
use Rattle.go_tokens.specs.Tokens.{TokenList, kinds, text_of}
use Rattle.go_grammar.specs.Trees.{Tree, parts}
use Rattle.go_types.proofs.Public.{get_there}
use Rattle.go_tree.specs.File.{FileTree}
use Rattle.go_tree.specs.Lists.{functions}
use Rattle.go_tree.specs.Spans.{token_text}
use Rattle.go_tree.specs.Units as names
use Rattle.go_tree.specs.Units.{word}
use Rattle.go_tree.specs.Views.{view}
use Rattle.go_print.specs.Names.{text_in}
use Rattle.go_package_defs.specs.Sources.{Source, source_of, tokens_there}
use Rattle.go_heads_types.specs.Portions.{files_of, AreNamed}
use Rattle.go_heads.specs.Functions.{Function, AreRead, functions_in, all_functions}
use Rattle.go_heads.specs.Heads.{File}
use Rattle.go_heads.proofs.Public.{some_none, same_some, behind_imports}
use Rattle.clone_classes.specs.Heads as classes
use Rattle.clone_classes.specs.Heads.{FunctionAt}

-- ---- tokens

there_or_nothing : (l : TokenList) (o : Option Token) → unwrap_or (option_map (text_of l) o) [] ≡ names.text_in l o
there_or_nothing l None = refl
there_or_nothing l (Some t) = refl

pub token_there : (l : TokenList) (n : ℕ) → n < length l.tokens → token_text l n ≡ Some (word l n)
token_there l n lt =
    let t = get_there l.tokens n lt in
    ap (option_map (text_of l)) t.1 ∙ sym (ap (λ o. Some (names.text_in l o)) t.1)

-- a token of a file of the package
pub text_there : (fs : List FileTree) (n t : ℕ) → text_in (slice_get fs n) t ≡ word (tokens_there (slice_get (map source_of fs) n)) t
text_there [] n t = refl
text_there (f ∷ fs) zero t = there_or_nothing f.tokens (slice_get f.tokens.tokens t)
text_there (f ∷ fs) (suc n) t = text_there fs n t

tokens_named : (ns : List (List ℕ)) (ss : List Source) (n : ℕ) (f : File) → slice_get (files_of ns ss) n ≡ Some f → tokens_there (slice_get ss n) ≡ f.tokens
tokens_named [] [] n f e = absurd (some_none f (sym e))
tokens_named [] (s ∷ ss) n f e = absurd (some_none f (sym e))
tokens_named (w ∷ ns) [] n f e = absurd (some_none f (sym e))
tokens_named (w ∷ ns) (s ∷ ss) zero f e = ap (λ (x : File). x.tokens) (same_some (record { name = w; tokens = s.tokens; tree = s.tree }) f e)
tokens_named (w ∷ ns) (s ∷ ss) (suc n) f e = tokens_named ns ss n f e

pub text_named : (ns : List (List ℕ)) (fs : List FileTree) (n t : ℕ) (f : File) → slice_get (files_of ns (map source_of fs)) n ≡ Some f → text_in (slice_get fs n) t ≡ word f.tokens t
text_named ns fs n t f e = text_there fs n t ∙ ap (λ l. word l t) (tokens_named ns (map source_of fs) n f e)

-- ---- functions

abbrev pub function_at : Function → FunctionAt
function_at g = record { tokens = g.file.tokens; tree = g.tree }

abbrev at_tokens : TokenList → List Tree → List FunctionAt
at_tokens l us = map (λ t. let x : FunctionAt = record { tokens = l; tree = t } in x) us

row_same : (f : File) (us : List Tree) → at_tokens f.tokens us ≡ map function_at (map (λ t. let x : Function = record { file = f; tree = t } in x) us)
row_same f [] = refl
row_same f (t ∷ us) = ap (λ xs. let x : FunctionAt = record { tokens = f.tokens; tree = t } in x ∷ xs) (row_same f us)

pub functions_same : (ns : List (List ℕ)) (fs : List FileTree) → AreNamed ns (map source_of fs) → AreRead (files_of ns (map source_of fs)) → classes.functions_in fs ≡ map function_at (all_functions (files_of ns (map source_of fs)))
functions_same [] [] e h = refl
functions_same [] (f ∷ fs) e h = absurd (omega (arith, e))
functions_same (w ∷ ns) [] e h = absurd (omega (arith, e))
functions_same (w ∷ ns) (f ∷ fs) e h =
    let x : File = record { name = w; tokens = f.tokens; tree = view f.root } in
    let gs : List Function = all_functions (files_of ns (map source_of fs)) in
    ap (λ us. at_tokens f.tokens us ++ classes.functions_in fs) (behind_imports (kinds f.tokens.tokens) (view f.root) h.0.tree)
    ∙ ap (λ xs. at_tokens f.tokens (functions (parts (view f.root))) ++ xs) (functions_same ns fs (omega (arith, e)) h.1)
    ∙ ap (λ xs. xs ++ map function_at gs) (row_same x (functions (parts (view f.root))))
    ∙ sym (map-append function_at (functions_in x) gs)
