-- What is known of the members of windows of a package that type-checks.
use Rattle.std.proofs.Common.{◌≡◌, ◌∙◌, ℕ, zero, suc, ◌+◌, ◌-◌, ◌<◌, List, [], ◌∷◌, length, map, Some, refl, sym, ap, subst, arith}
use Rattle.std.specs.Prelude.{slice_get}
use Rattle.go_base.specs.declared.bytes.FileText.{FileText}
use Rattle.go_tokens.specs.Lexing.{Lexes, width}
use Rattle.go_tokens.specs.Tokens.{span_of, AreOrdered}
use Rattle.go_tokens.proofs.Public.{placed}
use Rattle.go_grammar.specs.declared.kind.Category.TheVariants as categories
use Rattle.go_rewriting.specs.Rewriting.{IsRange}
use Rattle.go_tree.specs.declared.object.Declared.{Declared}
use Rattle.go_tree.specs.File.{FileTree}
use Rattle.go_tree.specs.Units.{end_in, start_in}
use Rattle.go_tree.specs.Views.{view}
use Rattle.go_types.specs.Trees.{TypeTree}
use Rattle.go_typed.specs.Contents.{Content}
use Rattle.go_scopes.specs.Numbering.{spot_of}
use Rattle.go_package_defs.specs.Checked.{AreRead}
use Rattle.param_choose.specs.Members.{Member, member_of}
use Rattle.escape_check.specs.Places.{file_of, sources_of}
use Rattle.extract_texts.specs.Texts.{window_bytes}
use Rattle.go_function_places.specs.Places.{FunctionPlace, name_spot}
use Rattle.extract_rewrite_files.proofs.CheckedFiles.{HasText, text_there}
use Rattle.extract_rewrite_files.proofs.FileEdits.{HasBytes}
use Rattle.extract_rewrite_files.proofs.Ordered.{ends_before, ends_within, inside_some}
use Rattle.extract_rewrite_files.specs.Sites.{HasSite}
use Rattle.extract_rewrite_files.proofs.Sites.{Known, range_some, site_range}
use Rattle.extract_rewrite_files.proofs.Splits.{same_some}
use Rattle.extract_rewrite_files.proofs.Written.{first_written}

-- A member of its window, at a path of the tree of its file, behind the first token of that.
pub record Fact (c : Content) (m : Member TypeTree) : Type 0 where
  pub own : member_of c m.window ≡ Some m
  pub place : HasSite c m
  pub behind : 0 < m.first

module _ (known : Known) (c : Content) (texts : List FileText) (read : AreRead 0 texts c.files) where
  -- a file of the package, as it is read
  pub file_read : (n : ℕ) (f : FileTree) → slice_get c.files n ≡ Some f → HasText texts n 0 f
  file_read n f e = text_there texts c.files n 0 f read e

  -- its lexing
  pub lexes_of : (n : ℕ) (f : FileTree) (h : HasText texts n 0 f) → Lexes n h.read.lexing.text f.tokens.tokens f.tokens.comments
  lexes_of n f h = subst (λ k. Lexes k h.read.lexing.text f.tokens.tokens f.tokens.comments) (let z : 0 + n ≡ n = omega arith in z) h.read.lexing.lexes

  module _ (m : Member TypeTree) (q : Fact c m) where
    abbrev here : HasText texts (file_of (sources_of c) m) 0 q.place.file
    here = file_read (file_of (sources_of c) m) q.place.file q.place.there

    abbrev lexed : Lexes (file_of (sources_of c) m) here.read.lexing.text q.place.file.tokens.tokens q.place.file.tokens.comments
    lexed = lexes_of (file_of (sources_of c) m) q.place.file here

    abbrev pub range_of_member : IsRange q.place.file.tokens.tokens (m.first + m.from) (m.first + m.upto) (window_bytes (sources_of c) m).start (window_bytes (sources_of c) m).end
    range_of_member = site_range known (file_of (sources_of c) m) q.place.file here.read.lexing.text lexed here.read.tree.derives (sources_of c) m q.place.there q.place.site

    ordered : AreOrdered 0 (map span_of q.place.file.tokens.tokens) (width here.read.lexing.text)
    ordered = (placed (file_of (sources_of c) m) here.read.lexing.text q.place.file.tokens.tokens q.place.file.tokens.comments (width here.read.lexing.text) lexed refl).tokens

    -- the tokens of its file, in order up to a place
    pub tokens_ordered : (size : ℕ) × AreOrdered 0 (map span_of q.place.file.tokens.tokens) size
    tokens_ordered = (width here.read.lexing.text, ordered)

    long : width here.read.lexing.text ≡ length q.place.file.tokens.text
    unfolding width
    long = ap length (here.read.lexing.is_text.encoded ∙ sym here.read.bytes)

    pub has_bytes : HasBytes c m
    has_bytes = record {
      file = q.place.file;
      there = q.place.there;
      some = range_some known (file_of (sources_of c) m) q.place.file here.read.lexing.text lexed here.read.tree.derives (m.first + m.from) (m.first + m.upto)
          (window_bytes (sources_of c) m).start (window_bytes (sources_of c) m).end range_of_member;
      within = (
          let r = range_of_member in
          let e : end_in (slice_get q.place.file.tokens.tokens (m.first + m.upto - 1)) ≡ r.last.span.end = ap end_in r.has_last in
          let le = ends_within q.place.file.tokens.tokens 0 (width here.read.lexing.text) ordered (m.first + m.upto - 1) (inside_some q.place.file.tokens.tokens (m.first + m.upto - 1) r.last r.has_last) in
          omega (arith, e, le, r.ends, long)
          );
    }

    -- the first token of the file stands in front
    pub some_before : 0 < (window_bytes (sources_of c) m).start
    some_before =
        let r = range_of_member in
        let first = first_written (file_of (sources_of c) m) here.read.lexing.text q.place.file.tokens.tokens q.place.file.tokens.comments lexed categories.File (view q.place.file.root) refl here.read.tree.derives in
        let zero_is : slice_get q.place.file.tokens.tokens 0 ≡ Some first.token = ap (slice_get q.place.file.tokens.tokens) (sym here.read.tree.begins) ∙ first.is in
        let ends : end_in (slice_get q.place.file.tokens.tokens 0) ≡ first.token.span.end = ap end_in zero_is in
        let starts : start_in (slice_get q.place.file.tokens.tokens (m.first + m.from)) ≡ r.first.span.start = ap start_in r.has_first in
        let some = q.behind in
        let le = ends_before q.place.file.tokens.tokens 0 (width here.read.lexing.text) ordered 0 (m.first + m.from) (omega (arith, some)) (inside_some q.place.file.tokens.tokens (m.first + m.from) r.first r.has_first) in
        let w = first.written in
        omega (arith, ends, starts, le, w, r.begins)

-- ---- functions stand behind the first token of their file

-- a place has a name
pub declared_there : (ps : List FunctionPlace) (ds : List Declared) (k : ℕ) (p : FunctionPlace) → map name_spot ps ≡ map spot_of ds → slice_get ps k ≡ Some p → (d : Declared) × (slice_get ds k ≡ Some d) × (spot_of d ≡ name_spot p)
declared_there [] ds k p e h = absurd cc
declared_there (q ∷ ps) [] k p e h = absurd cc
declared_there (q ∷ ps) (d ∷ ds) zero p e h = let one : name_spot q ≡ spot_of d = cc in (d, refl, sym one ∙ ap name_spot (same_some q p h))
declared_there (q ∷ ps) (d ∷ ds) (suc k) p e h = let more : map name_spot ps ≡ map spot_of ds = cc in declared_there ps ds k p more h
