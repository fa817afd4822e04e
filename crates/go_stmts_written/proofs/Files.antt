-- Names in the files of a package that type-checks are spelled as names are.
use Rattle.std.proofs.Common.{◌≡◌, ℕ, zero, suc, ◌+◌, List, [], ◌∷◌, ◌++◌, map, Some, refl, sym, ap, subst, arith}
use Rattle.std.specs.Prelude.{slice_get}
use Rattle.std.specs.List.{AllByRecursion}
use Rattle.std.specs.Option.{option_map}
use Rattle.go_base.specs.declared.bytes.FileText.{FileText}
use Rattle.go_tokens.specs.declared.token.Token.{Token}
use Rattle.go_tokens.specs.declared.token.TokenKind.TheVariants as token
use Rattle.go_tokens.specs.Files.{IsLexing}
use Rattle.go_tokens.specs.Tokens.{TokenList, kinds}
use Rattle.go_grammar.specs.declared.kind.Category.{Category}
use Rattle.go_grammar.specs.declared.kind.Category.TheVariants as category
use Rattle.go_grammar.specs.declared.kind.Kind.{Kind}
use Rattle.go_grammar.specs.declared.kind.Kind.TheVariants as kind
use Rattle.go_grammar.specs.declared.kind.Place.{Place}
use Rattle.go_grammar.specs.Categories.{place_of}
use Rattle.go_grammar.specs.Grammar.{rule, Derives, Spells, Goes, IsAt}
use Rattle.go_grammar.specs.Rules.{Items, Rule, End, Then, Maybe, Unless, Many, item}
use Rattle.go_grammar.specs.Trees.{Tree, node, Trees, none, more, skip, last}
use Rattle.go_tree.specs.File.{FileTree}
use Rattle.go_tree.specs.Units.{text_in, word}
use Rattle.go_tree.specs.Uses.{UsesView}
use Rattle.go_tree.specs.Views.{view}
use Rattle.go_scopes_events.proofs.Public.{derives_laid}
use Rattle.go_print_laws.specs.Lexemes.{IsName, NamesAreNames}
use Rattle.go_package_defs.specs.Answer.{specifications}
use Rattle.go_package_defs.specs.Checked.{IsRead, AreRead}
use Rattle.go_package_defs.specs.Declarations.{Specification, in_file}
use Rattle.go_package_defs.specs.Sources.{source_of, Package, package_of, tokens_there, text_at}
use Rattle.go_stmts_written.specs.Named.{NodeIsNamed, TreeIsNamed, TreesAreNamed}
use Rattle.go_stmts_written.proofs.Rounds.{Holds}
use Rattle.go_stmts_written.proofs.Specified.{SpecificationIsNamed, Stands, file_named}

-- ---- a file

-- each name is spelled so
pub record IsSpelled (l : TokenList) : Type 0 where
  pub number : ℕ
  pub lexing : IsLexing number l.text l.tokens l.comments

module _ (law : NamesAreNames) (l : TokenList) (s : IsSpelled l) where
  kind_there : (ts : List Token) (i : ℕ) → slice_get (map (λ (t : Token). t.kind) ts) i ≡ Some token.Identifier → (t : Token) × (slice_get ts i ≡ Some t) × (t.kind ≡ token.Identifier)
  kind_there [] i e = absurd cc
  kind_there (t ∷ ts) zero e = (t, refl, cc)
  kind_there (t ∷ ts) (suc i) e = kind_there ts i e

  pub word_named : (i : ℕ) → IsAt (kinds l.tokens) i token.Identifier → IsName (word l i)
  word_named i e =
      let t = kind_there l.tokens i e in
      law l.text (word l i) (record {
        file = s.number;
        tokens = l.tokens;
        comments = l.comments;
        number = i;
        found = t.0;
        lexing = s.lexing;
        is_found = t.1;
        kind_is = t.2;
        spelled_is = sym (ap (text_in l) t.1);
      })

  node_named : (p : Place) (k : Kind) (i j : ℕ) (ps : Trees) → Spells (kinds l.tokens) (rule p k) i ps j → NodeIsNamed (word l) k i
  node_named p kind.DeclaredName i j none h = word_named i h.0
  node_named p kind.DeclaredName i j (more q ps) h = absurd h
  node_named p kind.DeclaredName i j (skip ps) h = absurd h
  node_named p k i j ps h = tt

  mutual
    pub derives_named : (t : Tree) (c : Category) → Derives (kinds l.tokens) c t → TreeIsNamed (word l) t
    derives_named (node k i j ps) c h = (node_named (place_of c) k i j ps h.1, spells_named ps (rule (place_of c) k) i j h.1)

    spells_named : (ps : Trees) (r : Rule) (i j : ℕ) → Spells (kinds l.tokens) r i ps j → TreesAreNamed (word l) ps
    spells_named none r i j h = tt
    spells_named (more p ps) (End ws) i j h = absurd h
    spells_named (skip ps) (End ws) i j h = absurd h
    spells_named (more p ps) (Then ws c r) i j h = (derives_named p c h.1, spells_named ps r (last p) j h.2)
    spells_named (skip ps) (Then ws c r) i j h = absurd h
    spells_named (more p ps) (Maybe ws c r) i j h = (derives_named p c h.1, spells_named ps r (last p) j h.2)
    spells_named (skip ps) (Maybe ws c r) i j h = spells_named ps r h.0 j h.2
    spells_named (more p ps) (Unless ws c us r) i j h = (derives_named p c h.1, spells_named ps r (last p) j h.2)
    spells_named (skip ps) (Unless ws c us r) i j h = spells_named ps r h.0 j h.3
    spells_named (more p ps) (Many ws m) i j h = (derives_named p (item m) h.3, goes_named ps m (last p) j h.4)
    spells_named (skip ps) (Many ws m) i j h = absurd h

    goes_named : (ps : Trees) (m : Items) (i j : ℕ) → Goes (kinds l.tokens) m i ps j → TreesAreNamed (word l) ps
    goes_named none m i j h = tt
    goes_named (more p ps) m i j h = (derives_named p (item m) h.3, goes_named ps m (last p) j h.4)
    goes_named (skip ps) m i j h = absurd h

-- ---- the files of a package

both : (P : Specification → Type 0) (xs ys : List Specification) → AllByRecursion P xs → AllByRecursion P ys → AllByRecursion P (xs ++ ys)
both P [] ys h k = k
both P (x ∷ xs) ys h k = (h.0, both P xs ys h.1 k)

pub read_spelled : (n : ℕ) (x : FileText) (f : FileTree) → IsRead n x f → IsSpelled f.tokens
read_spelled n x f h = record { number = n; lexing = subst (λ b. IsLexing n b f.tokens.tokens f.tokens.comments) (sym h.bytes) h.lexing }

-- the sources from the number n on are these files
abbrev pub StandFrom : Package → ℕ → List FileTree → Type 0
StandFrom p n [] = Unit {0}
StandFrom p n (f ∷ fs) = (slice_get p.sources n ≡ Some (source_of f)) × StandFrom p (suc n) fs

module _ (law : NamesAreNames) (p : Package) where
  abbrev Has : Specification → Type 0
  Has d = Holds p d

  text_is : (n : ℕ) (f : FileTree) → slice_get p.sources n ≡ Some (source_of f) → word f.tokens ≡ text_at p n
  text_is n f e = ap (λ o. word (tokens_there o)) (sym e)

  each_has : (n : ℕ) (ds : List Specification) → AllByRecursion (Stands (text_at p n) n) ds → AllByRecursion Has ds
  each_has n [] h = tt
  each_has n (d ∷ ds) h = (subst (λ m. SpecificationIsNamed (text_at p m) d) (sym h.0.0) h.0.1, each_has n ds h.1)

  file_has : (n : ℕ) (x : FileText) (f : FileTree) → IsRead n x f → slice_get p.sources n ≡ Some (source_of f) → AllByRecursion Has (in_file n (view f.root))
  file_has n x f h e =
      let named : TreeIsNamed (text_at p n) (view f.root) = subst (λ w. TreeIsNamed w (view f.root)) (text_is n f e) (derives_named law f.tokens (read_spelled n x f h) (view f.root) category.File h.tree.derives) in
      each_has n (in_file n (view f.root)) (file_named (text_at p n) n (view f.root) (derives_laid (kinds f.tokens.tokens) (view f.root) category.File h.tree.derives) named)

  pub files_named : (n : ℕ) (xs : List FileText) (fs : List FileTree) → AreRead n xs fs → StandFrom p n fs → AllByRecursion Has (specifications n (map source_of fs))
  files_named n [] [] h s = tt
  files_named n (x ∷ xs) [] h s = absurd h
  files_named n [] (f ∷ fs) h s = absurd h
  files_named n (x ∷ xs) (f ∷ fs) h s =
      both Has (in_file n (view f.root)) (specifications (suc n) (map source_of fs)) (file_has n x f h.0 s.0) (files_named (suc n) xs fs h.1 s.1)

-- the sources of the files
stand_from : (p : Package) (gs fs : List FileTree) (n : ℕ) → ((k : ℕ) (f : FileTree) → slice_get fs k ≡ Some f → slice_get p.sources (n + k) ≡ Some (source_of f)) → StandFrom p n fs
stand_from p gs [] n h = tt
stand_from p gs (f ∷ fs) n h = (
  subst (λ k. slice_get p.sources k ≡ Some (source_of f)) (let z : n + 0 ≡ n = omega arith in z) (h 0 f refl),
  stand_from p gs fs (suc n) (λ k g e. subst (λ i. slice_get p.sources i ≡ Some (source_of g)) (let z : n + suc k ≡ suc n + k = omega arith in z) (h (suc k) g e)),
)

mapped_there : (fs : List FileTree) (k : ℕ) (f : FileTree) → slice_get fs k ≡ Some f → slice_get (map source_of fs) k ≡ Some (source_of f)
mapped_there [] k f e = absurd cc
mapped_there (g ∷ fs) zero f e = ap (option_map source_of) e
mapped_there (g ∷ fs) (suc k) f e = mapped_there fs k f e

pub all_stand : (u : UsesView) (fs : List FileTree) → StandFrom (package_of (map source_of fs) u) 0 fs
all_stand u fs = stand_from (package_of (map source_of fs) u) fs fs 0 (λ k f e. subst (λ i. slice_get (map source_of fs) i ≡ Some (source_of f)) (let z : k ≡ 0 + k = omega arith in z) (mapped_there fs k f e))
