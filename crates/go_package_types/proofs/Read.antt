-- The literals of the specifications of a package may be read.
use Rattle.std.proofs.Common.{◌≡◌, ℕ, zero, suc, ◌+◌, List, [], ◌∷◌, ◌++◌, map, Option, Some, None, refl, ap, sym, subst, ◌∙◌, arith}
use Rattle.std.specs.Prelude.{slice_get}
use Rattle.std.specs.List.{AllByRecursion}
use Rattle.std.specs.Option.{option_map}
use Rattle.std.proofs.lemmas.Option.{slice_get-map}
use Rattle.go_grammar.specs.declared.kind.Kind.TheVariants as kind
use Rattle.go_grammar.specs.declared.kind.Sort.{Sort}
use Rattle.go_grammar.specs.declared.kind.Sort.TheVariants as declaring
use Rattle.go_grammar.specs.Grammar.{IsFile}
use Rattle.go_grammar.specs.Trees.{Tree, node, Trees, none, more, skip}
use Rattle.go_tokens.specs.Files.{IsLexing}
use Rattle.go_tokens.specs.Tokens.{TokenList, kinds}
use Rattle.go_tree.specs.File.{FileTree}
use Rattle.go_tree.specs.Units.{word}
use Rattle.go_tree.specs.Uses.{UsesView}
use Rattle.go_tree.specs.Views.{view}
use Rattle.go_exprs_engine.specs.Literals.{AllRead}
use Rattle.go_package_defs.specs.Answer.{specifications}
use Rattle.go_package_defs.specs.Declarations.{Specification, specification_of, source_behind, grouped, declared, declaration, declarations, in_file}
use Rattle.go_package_defs.specs.Sources.{package_of, source_of, tokens_there, text_at}
use Rattle.go_declarations.specs.declared.specification.Specification as program
use Rattle.go_declarations.specs.Reads.{SpecificationRead}
use Rattle.go_declarations.specs.Views.{specification_view, seen_all}
use Rattle.go_package_types.specs.Answers.{AreLexedFiles}

-- ---- the file of a specification

abbrev AllIn : ℕ → List Specification → Type 0
AllIn n ds = AllByRecursion (λ d. d.file ≡ n) ds

one_in : (n : ℕ) (s : Sort) (k : ℕ) (r : Option Tree) (t : Tree) → (specification_of n s k r t).file ≡ n
one_in n declaring.Type k r (node l i j ps) = refl
one_in n declaring.Constant k r (node l i j ps) = refl
one_in n declaring.Variable k r (node l i j ps) = refl

grouped_in : (n : ℕ) (s : Sort) (k : ℕ) (r : Option Tree) (ps : Trees) → AllIn n (grouped n s k r ps)
grouped_in n s k r none = tt
grouped_in n s k r (more p ps) = (one_in n s k r p, grouped_in n s (suc k) (source_behind r p) ps)
grouped_in n s k r (skip ps) = grouped_in n s k r ps

declared_in : (n : ℕ) (s : Sort) (ps : Trees) → AllIn n (declared n s ps)
declared_in n s none = tt
declared_in n s (skip ps) = grouped_in n s 0 None (skip ps)
declared_in n s (more (node (kind.Group x) i j qs) none) = grouped_in n s 0 None qs
declared_in n s (more (node (kind.Group x) i j qs) (more q ps)) = grouped_in n s 0 None (more (node (kind.Group x) i j qs) (more q ps))
declared_in n s (more (node (kind.Group x) i j qs) (skip ps)) = grouped_in n s 0 None (more (node (kind.Group x) i j qs) (skip ps))
declared_in n s (more (node k i j qs) ps) = grouped_in n s 0 None (more (node k i j qs) ps)

declaration_in : (n : ℕ) (t : Tree) → AllIn n (declaration n t)
declaration_in n (node (kind.Declaration s) i j ps) = declared_in n s ps
declaration_in n (node kind.FunctionDeclaration i j ps) = (refl, tt)
declaration_in n (node k i j ps) = tt

both_in : (n : ℕ) (xs ys : List Specification) → AllIn n xs → AllIn n ys → AllIn n (xs ++ ys)
both_in n [] ys h k = k
both_in n (x ∷ xs) ys h k = (h.0, both_in n xs ys h.1 k)

declarations_in : (n : ℕ) (ps : Trees) → AllIn n (declarations n ps)
declarations_in n none = tt
declarations_in n (more p ps) = both_in n (declaration n p) (declarations n ps) (declaration_in n p) (declarations_in n ps)
declarations_in n (skip ps) = declarations_in n ps

in_file_in : (n : ℕ) (t : Tree) → AllIn n (in_file n t)
in_file_in n (node k i j ps) = declarations_in n ps

-- ---- all files

abbrev Readable : (ℕ → ℕ → List ℕ) → Specification → Type 0
Readable texts d = SpecificationRead (texts d.file) d

each_read : (texts : ℕ → ℕ → List ℕ) (n : ℕ) (ds : List Specification) → AllByRecursion (SpecificationRead (texts n)) ds → AllIn n ds → AllByRecursion (Readable texts) ds
each_read texts n [] h g = tt
each_read texts n (d ∷ ds) h g = (subst (λ m. SpecificationRead (texts m) d) (sym g.0) h.0, each_read texts n ds h.1 g.1)

both_read : (texts : ℕ → ℕ → List ℕ) (xs ys : List Specification) → AllByRecursion (Readable texts) xs → AllByRecursion (Readable texts) ys → AllByRecursion (Readable texts) (xs ++ ys)
both_read texts [] ys h k = k
both_read texts (x ∷ xs) ys h k = (h.0, both_read texts xs ys h.1 k)

-- what the laws of literals say
abbrev FileLaw : Type 0
FileLaw = (file : ℕ) (l : TokenList) (t : Tree) → IsLexing file l.text l.tokens l.comments → IsFile (kinds l.tokens) t → AllRead (word l) t

abbrev SpecificationLaw : Type 0
SpecificationLaw = (texts : ℕ → List ℕ) (file : ℕ) (t : Tree) → AllRead texts t → AllByRecursion (SpecificationRead texts) (in_file file t)

module _ (file_law : FileLaw) (specification_law : SpecificationLaw) (texts : ℕ → ℕ → List ℕ) where
  files_read : (n : ℕ) (fs : List FileTree) → AreLexedFiles n fs → ((k : ℕ) (f : FileTree) → slice_get fs k ≡ Some f → texts (n + k) ≡ word f.tokens) → AllByRecursion (Readable texts) (specifications n (map source_of fs))
  files_read n [] h g = tt
  files_read n (f ∷ fs) h g =
      let here : texts n ≡ word f.tokens = ap texts (let e : n ≡ n + 0 = omega arith in e) ∙ g 0 f refl in
      let read : AllRead (texts n) (view f.root) = subst (λ (w : ℕ → List ℕ). AllRead w (view f.root)) (sym here) (file_law n f.tokens (view f.root) h.0.lexing h.0.tree) in
      both_read texts (in_file n (view f.root)) (specifications (suc n) (map source_of fs)) (each_read texts n (in_file n (view f.root)) (specification_law (texts n) n (view f.root) read) (in_file_in n (view f.root)))
      (files_read (suc n) fs h.1 (λ k x e. ap texts (let d : suc n + k ≡ n + suc k = omega arith in d) ∙ g (suc k) x e))

  read_at : (ds : List Specification) → AllByRecursion (Readable texts) ds → (k : ℕ) (d : Specification) → slice_get ds k ≡ Some d → Readable texts d
  read_at [] h k d e = absurd cc
  read_at (x ∷ ds) h zero d e = subst (Readable texts) (let is : x ≡ d = cc in is) h.0
  read_at (x ∷ ds) h (suc k) d e = read_at ds h.1 k d e

pub specifications_read : FileLaw → SpecificationLaw → (fs : List FileTree) (u : UsesView) (specs : List program.Specification) → AreLexedFiles 0 fs → seen_all specs ≡ specifications 0 (map source_of fs)
    → (k : ℕ) (s : program.Specification) → slice_get specs k ≡ Some s → SpecificationRead (text_at (package_of (map source_of fs) u) s.file) (specification_view s)
specifications_read file_law specification_law fs u specs lexed seen k s at =
    let p = package_of (map source_of fs) u in
    read_at file_law specification_law (text_at p) (specifications 0 (map source_of fs))
    (files_read file_law specification_law (text_at p) 0 fs lexed (λ m f e. ap (text_at p) (let is : 0 + m ≡ m = omega arith in is) ∙ ap (λ o. word (tokens_there o)) (slice_get-map source_of fs m ∙ ap (option_map source_of) e)))
    k (specification_view s) (ap (λ ds. slice_get ds k) (sym seen) ∙ slice_get-map specification_view specs k ∙ ap (option_map specification_view) at)
