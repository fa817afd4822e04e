-- What a package declares has a name (Go specification: Declarations and scope).
use Rattle.std.proofs.Common.{◌≡◌, ℕ, zero, suc, ◌+◌, Bool, true, false, List, [], ◌∷◌, ◌++◌, map, Some, refl, sym, ap, subst, ◌∙◌, arith}
use Rattle.std.specs.Prelude.{if◌then◌else◌, slice_get}
use Rattle.std.specs.List.{AllByRecursion}
use Rattle.go_base.specs.declared.bytes.FileText.{FileText}
use Rattle.go_tokens.specs.declared.token.Token.{Token}
use Rattle.go_tokens.specs.declared.token.TokenKind.TheVariants as token
use Rattle.go_tokens.specs.Tokens.{kinds}
use Rattle.go_grammar.specs.declared.kind.Category.TheVariants as category
use Rattle.go_grammar.specs.Grammar.{IsAt}
use Rattle.go_grammar.specs.Trees.{last}
use Rattle.go_tree.specs.declared.event.Event.{Event}
use Rattle.go_tree.specs.declared.event.Event.TheVariants as event
use Rattle.go_tree.specs.declared.object.Declared.{Declared}
use Rattle.go_tree.specs.Contexts.{file_context, is_package}
use Rattle.go_tree.specs.Declarations.{Found, found, found_in, found_from, is_new, new_among, declarations}
use Rattle.go_tree.specs.Events.{events}
use Rattle.go_tree.specs.File.{FileTree}
use Rattle.go_tree.specs.Units.{text_in, word}
use Rattle.go_tree.specs.Uses.{declared_by, declared_in_package, begins_function, own_locals, function_locals, uses}
use Rattle.go_tree.specs.Views.{view}
use Rattle.go_scopes_events.specs.Orders.{EachDeclared}
use Rattle.go_package_defs.specs.Checked.{IsRead, AreRead}
use Rattle.go_package_defs.specs.Sources.{source_of, unit_of}
use Rattle.go_print_laws.specs.Lexemes.{IsName, NamesAreNames}
use Rattle.extract_texts_written.proofs.Identifiers.{IsNamed, derives_each}

-- A token of one of the files is a name.
pub record HasName (files : List FileTree) (file token : ℕ) : Type 0 where
  pub there : FileTree
  pub is : slice_get files file ≡ Some there
  pub name : IsName (word there.tokens token)

-- ---- a file

kind_there : (ts : List Token) (i : ℕ) → slice_get (kinds ts) i ≡ Some token.Identifier → (t : Token) × (slice_get ts i ≡ Some t) × (t.kind ≡ token.Identifier)
kind_there [] i e = absurd cc
kind_there (t ∷ ts) zero e = (t, refl, cc)
kind_there (t ∷ ts) (suc i) e = kind_there ts i e

word_is : NamesAreNames → (n : ℕ) (x : FileText) (f : FileTree) → IsRead n x f → (i : ℕ) → IsAt (kinds f.tokens.tokens) i token.Identifier → IsName (word f.tokens i)
word_is law n x f h i e =
    let t = kind_there f.tokens.tokens i e in
    law x.bytes (word f.tokens i) (record {
      file = n;
      tokens = f.tokens.tokens;
      comments = f.tokens.comments;
      number = i;
      found = t.0;
      lexing = h.lexing;
      is_found = t.1;
      kind_is = t.2;
      spelled_is = sym (ap (text_in f.tokens) t.1 ∙ ap (λ b. text_in (record { file = f.tokens.file; text = b; tokens = f.tokens.tokens; comments = f.tokens.comments }) (Some t.0)) h.bytes);
    })

module _ (law : NamesAreNames) (files : List FileTree) where
  abbrev Named : Found → Type 0
  Named d = HasName files d.file d.it.name

  in_file : (n : ℕ) (x : FileText) (f : FileTree) → IsRead n x f → slice_get files n ≡ Some f → (es : List Event) → EachDeclared (IsNamed (kinds f.tokens.tokens)) es → AllByRecursion Named (found_in n f.tokens es)
  in_file n x f h at [] g = tt
  in_file n x f h at (event.Declaration d ∷ es) g = (record { there = f; is = at; name = word_is law n x f h d.name g.0 }, in_file n x f h at es g.1)
  in_file n x f h at (e ∷ es) g = in_file n x f h at es g

  both : (xs ys : List Found) → AllByRecursion Named xs → AllByRecursion Named ys → AllByRecursion Named (xs ++ ys)
  both [] ys h k = k
  both (x ∷ xs) ys h k = (h.0, both xs ys h.1 k)

  in_files : (n : ℕ) (xs : List FileText) (fs : List FileTree) → AreRead n xs fs → ((k : ℕ) (f : FileTree) → slice_get fs k ≡ Some f → slice_get files (n + k) ≡ Some f)
      → AllByRecursion Named (found_from n (map unit_of (map source_of fs)))
  in_files n [] [] h at = tt
  in_files n (x ∷ xs) [] h at = absurd h
  in_files n [] (f ∷ fs) h at = absurd h
  in_files n (x ∷ xs) (f ∷ fs) h at =
      let t = view f.root in
      both (found_in n f.tokens (events (file_context (last t)) t)) (found_from (suc n) (map unit_of (map source_of fs)))
      (in_file n x f h.0 (subst (λ k. slice_get files k ≡ Some f) (let z : n + 0 ≡ n = omega arith in z) (at 0 f refl)) (events (file_context (last t)) t)
      (derives_each (kinds f.tokens.tokens) (file_context (last t)) t category.File h.0.tree.derives))
      (in_files (suc n) xs fs h.1 (λ k g e. subst (λ i. slice_get files i ≡ Some g) (let z : n + suc k ≡ suc n + k = omega arith in z) (at (suc k) g e)))

  -- ---- what is declared

  new_named : (all ds : List Found) → AllByRecursion Named ds → AllByRecursion Named (new_among all ds)
  new_named all [] h = tt
  new_named all (d ∷ ds) h = by (is_new all d) (new_named all ds h.1)
    where
      by : (b : Bool) → AllByRecursion Named (new_among all ds) → AllByRecursion Named (if b then d ∷ new_among all ds else new_among all ds)
      by true g = (h.0, g)
      by false g = g

  abbrev pub IsDeclared : Declared → Type 0
  IsDeclared d = HasName files d.file d.name

  package_named : (ds : List Found) → AllByRecursion Named ds → AllByRecursion IsDeclared (declared_in_package ds)
  package_named [] h = tt
  package_named (d ∷ ds) h = by (is_package d.it.block) (package_named ds h.1)
    where
      by : (b : Bool) → AllByRecursion IsDeclared (declared_in_package ds) → AllByRecursion IsDeclared (if b then declared_by d ∷ declared_in_package ds else declared_in_package ds)
      by true g = (h.0, g)
      by false g = g

  own_named : (ds : List Found) → AllByRecursion Named ds → AllByRecursion IsDeclared (own_locals ds)
  own_named [] h = tt
  own_named (d ∷ ds) h = by (begins_function d) (is_package d.it.block) (own_named ds h.1)
    where
      by : (b c : Bool) → AllByRecursion IsDeclared (own_locals ds) → AllByRecursion IsDeclared (if b then [] else if c then own_locals ds else declared_by d ∷ own_locals ds)
      by true c g = tt
      by false true g = g
      by false false g = (h.0, g)

  locals_named : (ds : List Found) → AllByRecursion Named ds → AllByRecursion (λ ls. AllByRecursion IsDeclared ls) (function_locals ds)
  locals_named [] h = tt
  locals_named (d ∷ ds) h = by (begins_function d) (locals_named ds h.1)
    where
      by : (b : Bool) → AllByRecursion (λ ls. AllByRecursion IsDeclared ls) (function_locals ds) → AllByRecursion (λ ls. AllByRecursion IsDeclared ls) (if b then own_locals ds ∷ function_locals ds else function_locals ds)
      by true g = (own_named ds h.1, g)
      by false g = g

-- What files declare has names, in the package block and in functions.
pub record AreDeclared (files : List FileTree) : Type 0 where
  pub shared : AllByRecursion (λ (d : Declared). HasName files d.file d.name) (uses (map unit_of (map source_of files))).package_level
  pub locals : AllByRecursion (λ ls. AllByRecursion (λ (d : Declared). HasName files d.file d.name) ls) (uses (map unit_of (map source_of files))).locals

pub files_declare : NamesAreNames → (xs : List FileText) (fs : List FileTree) → AreRead 0 xs fs → AreDeclared fs
files_declare law xs fs h =
    let us = map unit_of (map source_of fs) in
    let all = in_files law fs 0 xs fs h (λ k f e. subst (λ i. slice_get fs i ≡ Some f) (let z : k ≡ 0 + k = omega arith in z) e) in
    let new = new_named law fs (found us) (found us) all in
    record { shared = package_named law fs (declarations us) new; locals = locals_named law fs (declarations us) new }
