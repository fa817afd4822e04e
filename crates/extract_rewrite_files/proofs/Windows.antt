-- The windows of a file, cut out of its characters.
use Rattle.std.proofs.Common.{◌≡◌, ◌∙◌, ℕ, ◌+◌, ◌-◌, ◌≤◌, Bool, true, false, ◌&&◌, List, [], ◌∷◌, ◌++◌, Option, Some, refl, sym, subst, arith}
use Rattle.std.specs.Prelude.{slice_get}
use Rattle.std.specs.List.{AllByRecursion}
use Rattle.go_tokens.specs.declared.token.Token.{Token}
use Rattle.go_tokens.specs.Lexing.{Lexes, width}
use Rattle.go_tokens.specs.Tokens.{kinds}
use Rattle.go_tokens.proofs.Public.{width-append, width-nil}
use Rattle.go_grammar.specs.declared.kind.Category.TheVariants as categories
use Rattle.go_grammar.specs.Grammar.{Derives}
use Rattle.go_grammar.specs.Trees.{Tree}
use Rattle.go_rewriting.specs.Rewriting.{AddedFits, IsRange, IsTail}
use Rattle.go_rewriting.specs.Sites.{all_clear, is_clear, items}
use Rattle.go_tree.specs.File.{FileTree}
use Rattle.go_tree.specs.Views.{view}
use Rattle.go_types.specs.Trees.{TypeTree}
use Rattle.go_print_laws.specs.Calls.{CallCanBeWritten, call_trees}
use Rattle.param_choose.specs.Choosing.{Choice}
use Rattle.param_choose.specs.Members.{Member}
use Rattle.escape_check.specs.Places.{Sources, file_of}
use Rattle.escape_check.specs.Types.{declared_text}
use Rattle.extract_texts.specs.Texts.{call_of, window_bytes}
use Rattle.extract_files.specs.Extracted.{AreMembers, IsExtracted}
use Rattle.extract_files.specs.Files.{AreWindows, IsWindow, Window, call_sites, file_text}
use Rattle.extract_rewrite_files.specs.NewFiles.{called_file}
use Rattle.extract_rewrite_files.specs.Sites.{IsSite}
use Rattle.extract_rewrite_files.proofs.Sites.{Known, range_some, site_range}
use Rattle.extract_rewrite_files.proofs.Splits.{Divided, both_parts, divided_on, one_cut, token_of, two_cut, two_wide}

-- Windows lie behind a place, one behind the other.
abbrev pub InRow : Sources → ℕ → List (Member TypeTree) → Type 0
InRow s at [] = Unit {0}
InRow s at (m ∷ ms) = (at ≤ (window_bytes s m).start) × InRow s (window_bytes s m).end ms

-- A member of a file, whose call can be written.
pub record IsMember (s : Sources) (name : List ℕ) (t : Member TypeTree) (h : Choice TypeTree) (f : FileTree) (m : Member TypeTree) : Type 0 where
  pub there : slice_get s.files (file_of s m) ≡ Some f
  pub site : IsSite f m
  pub written : CallCanBeWritten (declared_text s) (call_of (λ x. x) s name t h m)

-- The characters behind a place, cut into windows, those in front of each, and those behind the last.
record Cut (s : Sources) (name : List ℕ) (t : Member TypeTree) (h : Choice TypeTree) (ts : List Token) (tree : Tree) (at : ℕ) (text : List ℕ) (ms : List (Member TypeTree)) : Type 0 where
  windows : List Window
  rest : List ℕ
  whole : text ≡ file_text windows rest
  are : AreWindows (declared_text s) ts tree at windows
  members : AreMembers s name t h at ms windows
  clear : all_clear tree (call_sites windows) ≡ true

pub record Cutting (s : Sources) (name : List ℕ) (t : Member TypeTree) (h : Choice TypeTree) (n : ℕ) (f : FileTree) (text tail : List ℕ) (added : Option Tree) (ms : List (Member TypeTree)) : Type 0 where
  pub windows : List Window
  pub rest : List ℕ
  pub tail_tokens : List Token
  pub text_is : text ≡ file_text windows rest
  pub extracted : IsExtracted s name t h ms (called_file s n f windows rest tail tail_tokens added)

pub both_true : (a b : Bool) → a ≡ true → b ≡ true → (a && b) ≡ true
both_true true b e f = f
both_true false b e f = e

module _ (known : Known) (s : Sources) (name : List ℕ) (t : Member TypeTree) (h : Choice TypeTree) (n : ℕ) (f : FileTree) (text : List ℕ) (l : Lexes n text f.tokens.tokens f.tokens.comments)
    (derives : Derives (kinds f.tokens.tokens) categories.File (view f.root)) where
  cut : (ms : List (Member TypeTree)) (pre behind : List ℕ) → text ≡ pre ++ behind → AllByRecursion (IsMember s name t h f) ms → InRow s (width pre) ms → Cut s name t h f.tokens.tokens (view f.root) (width pre) behind ms
  cut [] pre behind e a o = record { windows = []; rest = behind; whole = refl; are = tt; members = tt; clear = refl }
  cut (m ∷ ms) pre behind e a o =
      let q = a.0.site in
      let from = m.first + m.from in
      let upto = m.first + m.upto in
      let r : IsRange f.tokens.tokens (m.first + m.from) (m.first + m.upto) (window_bytes s m).start (window_bytes s m).end = site_range known n f text l derives s m a.0.there q in
      let low : Divided text 0 (window_bytes s m).start = subst (Divided text 0) r.begins (token_of n text f.tokens.tokens f.tokens.comments l from r.first r.has_first).begins in
      let high : Divided text 0 (window_bytes s m).end = subst (Divided text 0) r.ends (token_of n text f.tokens.tokens f.tokens.comments l (upto - 1) r.last r.has_last).ends in
      let a1 = divided_on text pre behind (window_bytes s m).start e low o.0 in
      let p1 = a1.place in
      let one : width (pre ++ a1.front) ≡ (window_bytes s m).start = omega (arith, p1, width-append pre a1.front) in
      let e1 : text ≡ (pre ++ a1.front) ++ a1.behind = one_cut text pre behind a1.front a1.behind e a1.whole in
      let some = range_some known n f text l derives from upto (window_bytes s m).start (window_bytes s m).end r in
      let a2 = divided_on text (pre ++ a1.front) a1.behind (window_bytes s m).end e1 high (omega (arith, one, some)) in
      let p2 = a2.place in
      let both : width (pre ++ (a1.front ++ a2.front)) ≡ (window_bytes s m).end = omega (arith, one, p2, two_wide pre a1.front a2.front, width-append pre a1.front) in
      let e2 : text ≡ (pre ++ (a1.front ++ a2.front)) ++ a2.behind = two_cut text pre behind a1.front a1.behind a2.front a2.behind e a1.whole a2.whole in
      let others = cut ms (pre ++ (a1.front ++ a2.front)) a2.behind e2 a.1 (subst (λ k. InRow s k ms) (sym both) o.1) in
      let start : (window_bytes s m).start ≡ width pre + width a1.front = p1 in
      let place : width (pre ++ (a1.front ++ a2.front)) ≡ width pre + width a1.front + width a2.front = two_wide pre a1.front a2.front in
      let end : (window_bytes s m).end ≡ width pre + width a1.front + width a2.front = sym both ∙ place in
      let call = call_of (λ x. x) s name t h m in
      let x : Window = record { kept = a1.front; old = a2.front; from = from; upto = upto; path = q.path; front = q.front; others = q.others; call = call_of (λ x. x) s name t h m } in
      let range : IsRange f.tokens.tokens from upto (width pre + width a1.front) (width pre + width a1.front + width a2.front) = subst (λ k. IsRange f.tokens.tokens from upto k (width pre + width a1.front + width a2.front)) start
      (subst (IsRange f.tokens.tokens from upto (window_bytes s m).start) end r) in
      let is : IsWindow (declared_text s) f.tokens.tokens (view f.root) (width pre) x = record {
        at_tokens = range;
        stood = q.stood;
        category = q.category;
        at_path = q.at_path;
        asked = q.asked;
        list = q.list;
        statements = q.statements;
        is_list = q.is_list;
        has = q.has;
        place = q.place;
        written = a.0.written;
      } in
      record {
        windows = x ∷ others.windows;
        rest = others.rest;
        whole = both_parts behind a1.front a1.behind a2.front a2.behind (file_text others.windows others.rest) a1.whole a2.whole others.whole;
        are = (is, subst (λ k. AreWindows (declared_text s) f.tokens.tokens (view f.root) k others.windows) place others.are);
        members = (start, end, refl, subst (λ k. AreMembers s name t h k ms others.windows) place others.members);
        clear = both_true (is_clear q.path (items q.front q.others (call_trees 0 call)) (view f.root)) (all_clear (view f.root) (call_sites others.windows)) (q.clear (call_trees 0 call)) others.clear;
      }

  -- the file, with what is appended
  pub called : (ms : List (Member TypeTree)) → AllByRecursion (IsMember s name t h f) ms → InRow s 0 ms → (tail : List ℕ) (us : List Token) (added : Option Tree) → IsTail n tail us → AddedFits (kinds us) added
      → Cutting s name t h n f text tail added ms
  called ms a o tail us added tl fits =
      let c = cut ms [] text refl a (subst (λ k. InRow s k ms) (sym width-nil) o) in
      record {
        windows = c.windows;
        rest = c.rest;
        tail_tokens = us;
        text_is = c.whole;
        extracted = record {
          called = record {
            windows = subst (λ k. AreWindows (declared_text s) f.tokens.tokens (view f.root) k c.windows) width-nil c.are;
            clear = c.clear;
            derives = derives;
            lexes = subst (λ x. Lexes n x f.tokens.tokens f.tokens.comments) c.whole l;
            appended = tl;
            added_fits = fits;
          };
          names = refl;
          members = subst (λ k. AreMembers s name t h k ms c.windows) width-nil c.members;
        };
      }
