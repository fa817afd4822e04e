-- Windows at paths of the tree of a file, and their tokens.
use Rattle.std.proofs.Common.{◌≡◌, ◌∙◌, ℕ, ◌+◌, ◌-◌, ◌<◌, ◌≤◌, true, List, map, Some, refl, sym, ap, subst, arith}
use Rattle.std.specs.Prelude.{max, slice_get}
use Rattle.go_tokens.specs.declared.token.Token.{Token}
use Rattle.go_tokens.specs.declared.token.TokenKind.{TokenKind}
use Rattle.go_tokens.specs.Lexing.{Lexes, width}
use Rattle.go_tokens.specs.Tokens.{AreOrdered, kinds, span_of}
use Rattle.go_tokens.proofs.Public.{placed}
use Rattle.go_grammar.specs.declared.kind.Category.{Category}
use Rattle.go_grammar.specs.declared.kind.Category.TheVariants as categories
use Rattle.go_grammar.specs.Grammar.{Derives}
use Rattle.go_grammar.specs.Rules.{Items, item}
use Rattle.go_grammar.specs.Trees.{Tree, Trees, parts}
use Rattle.go_rewriting.specs.Endings.{ends_well}
use Rattle.go_rewriting.specs.Lists.{IsRun, RunStands, Subtree, run_at}
use Rattle.go_rewriting.specs.Places.{Range}
use Rattle.go_rewriting.specs.Replacing.{Run, asked_at, subtree_at}
use Rattle.go_rewriting.specs.Rewriting.{IsRange}
use Rattle.go_tree.specs.File.{FileTree}
use Rattle.go_tree.specs.Units.{end_in, start_in}
use Rattle.go_tree.specs.Units as units
use Rattle.go_tree.specs.Views.{view}
use Rattle.go_types.specs.Trees.{TypeTree}
use Rattle.go_print_laws.specs.Calls.{AreStatements, of_block, of_clause}
use Rattle.param_choose.specs.Members.{Member}
use Rattle.escape_check.specs.Places.{Sources, bytes_in, bytes_of, file_of, place}
use Rattle.extract_texts.specs.Texts.{window_bytes}
use Rattle.extract_rewrite_files.specs.Sites.{IsSite}
use Rattle.extract_rewrite_files.proofs.Ordered.{begins_before, begins_strictly, inside_some}
use Rattle.extract_rewrite_files.proofs.Splits.{same_some}
use Rattle.extract_rewrite_files.proofs.Written.{RunsEndWell, begins_well, run_range_of}

-- what the laws on trees say
pub record Known : Type 0 where
  pub subtrees : (ts : List TokenKind) (c : Category) (t s : Tree) (path : List ℕ) → Derives ts c t → subtree_at path t ≡ Some s → Subtree ts c t path s
  pub items : (ts : List TokenKind) (c : Category) (t : Tree) (f n : ℕ) (list : Items) → IsRun ts c t f n list → RunStands ts t f n list
  pub runs : RunsEndWell

statements_begin : (l : Items) → AreStatements l → begins_well (item l) ≡ true
statements_begin l of_block = refl
statements_begin l of_clause = refl

statements_end : (l : Items) → AreStatements l → ends_well (item l) ≡ true
statements_end l of_block = refl
statements_end l of_clause = refl

-- the node is a text of what is asked for there
pub stands : Known → (ts : List TokenKind) (t s : Tree) (path : List ℕ) (c : Category) → Derives ts categories.File t → subtree_at path t ≡ Some s → asked_at categories.File path t ≡ Some c → Derives ts c s
stands known ts t s path c d at asked =
    let sub = known.subtrees ts categories.File t s path d at in
    let same : sub.category ≡ c = same_some sub.category c (sym sub.asked ∙ asked) in
    subst (λ x. Derives ts x s) same sub.derives

module _ (known : Known) (n : ℕ) (f : FileTree) (text : List ℕ) (l : Lexes n text f.tokens.tokens f.tokens.comments) (derives : Derives (kinds f.tokens.tokens) categories.File (view f.root)) where
  abbrev ts : List Token
  ts = f.tokens.tokens

  pub site_run : (m : Member TypeTree) (q : IsSite f m) → IsRun (kinds ts) q.category q.stood q.front q.others q.list
  site_run m q = record { derives = stands known (kinds ts) (view f.root) q.stood q.path q.category derives q.at_path q.asked; is_list = q.is_list; has = q.has }

  abbrev RunIn : Items → Trees → Range → Type 0
  RunIn list new r = Run (kinds ts) list new r.from r.upto

  site_tokens : (m : Member TypeTree) (q : IsSite f m) → IsRange ts (m.first + m.from) (m.first + m.upto) (start_in (slice_get ts (m.first + m.from))) (end_in (slice_get ts (m.first + m.upto - 1)))
  site_tokens m q =
      let run = subst (RunIn q.list (run_at q.front q.others (parts q.stood))) q.place (known.items (kinds ts) q.category q.stood q.front q.others q.list (site_run m q)) in
      run_range_of n text ts f.tokens.comments l known.runs q.list (run_at q.front q.others (parts q.stood)) (m.first + m.from) (m.first + m.upto) (statements_begin q.list q.statements) (statements_end q.list q.statements) run

  ordered : AreOrdered 0 (map span_of ts) (width text)
  ordered = (placed n text ts f.tokens.comments (width text) l refl).tokens

  -- the bytes of tokens end where the last one ends
  pub bytes_end : (k from upto : ℕ) (s e : ℕ) → IsRange ts from upto s e → (units.bytes_of k f.tokens from upto).end ≡ end_in (slice_get ts (upto - 1))
  bytes_end k from upto s e r =
      let order = r.order in
      let le = begins_before ts 0 (width text) ordered from (upto - 1) (omega (arith, order)) (inside_some ts (upto - 1) r.last r.has_last) in
      largest (start_in (slice_get ts from)) (end_in (slice_get ts (upto - 1))) le
    where
      largest : (a b : ℕ) → a ≤ b → max a b ≡ b
      largest a b le = omega (arith, le)

  -- a range has bytes
  pub range_some : (from upto s e : ℕ) → IsRange ts from upto s e → s < e
  range_some from upto s e r =
      let order = r.order in
      let a : start_in (slice_get ts from) ≡ r.first.span.start = ap start_in r.has_first in
      let b : end_in (slice_get ts from) ≡ r.first.span.end = ap end_in r.has_first in
      let c : end_in (slice_get ts (upto - 1)) ≡ r.last.span.end = ap end_in r.has_last in
      let w = r.first_written in
      let lt = begins_strictly ts 0 (width text) ordered from (upto - 1) (omega (arith, a, b, w)) (omega (arith, order)) (inside_some ts (upto - 1) r.last r.has_last) in
      omega (arith, lt, a, c, r.begins, r.ends)

  -- the bytes of tokens of a member's function
  pub place_range : (s : Sources) (m : Member TypeTree) (i j : ℕ) → slice_get s.files (file_of s m) ≡ Some f → IsRange ts (m.first + i) (m.first + j) (start_in (slice_get ts (m.first + i))) (end_in (slice_get ts (m.first + j - 1)))
      → IsRange ts (m.first + i) (m.first + j) (bytes_of s (place s m i j)).start (bytes_of s (place s m i j)).end
  place_range s m i j there r =
      let shown : bytes_of s (place s m i j) ≡ units.bytes_of (file_of s m) f.tokens (m.first + i) (m.first + j) = ap (bytes_in (place s m i j)) there in
      subst (λ (p : units.Place). IsRange ts (m.first + i) (m.first + j) p.start p.end) (sym shown)
      (subst (IsRange ts (m.first + i) (m.first + j) (start_in (slice_get ts (m.first + i)))) (sym (bytes_end (file_of s m) (m.first + i) (m.first + j) _ _ r)) r)

  -- the bytes of a window
  pub site_range : (s : Sources) (m : Member TypeTree) → slice_get s.files (file_of s m) ≡ Some f → IsSite f m → IsRange ts (m.first + m.from) (m.first + m.upto) (window_bytes s m).start (window_bytes s m).end
  site_range s m there q = place_range s m m.from m.upto there (site_tokens m q)
