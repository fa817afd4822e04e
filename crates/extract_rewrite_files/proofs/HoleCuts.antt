-- The holes of a template, cut out of its characters.
use Rattle.std.proofs.Common.{◌≡◌, ◌∙◌, ℕ, ◌+◌, ◌-◌, ◌≤◌, true, List, [], ◌∷◌, ◌++◌, length, map, Some, refl, sym, subst, arith}
use Rattle.std.specs.Prelude.{slice_get}
use Rattle.std.specs.List.{AllByRecursion}
use Rattle.go_tokens.specs.declared.token.Token.{Token}
use Rattle.go_tokens.specs.Lexing.{Lexes, width}
use Rattle.go_tokens.specs.Tokens.{kinds}
use Rattle.go_tokens.proofs.Public.{width-append}
use Rattle.go_grammar.specs.declared.kind.Category.{Category}
use Rattle.go_grammar.specs.declared.kind.Category.TheVariants as categories
use Rattle.go_grammar.specs.declared.kind.Place.{Place}
use Rattle.go_grammar.specs.declared.kind.Place.TheVariants as place
use Rattle.go_grammar.specs.Categories.{place_of}
use Rattle.go_grammar.specs.Grammar.{Derives, any}
use Rattle.go_grammar.specs.Trees.{Tree, last}
use Rattle.go_rewriting.specs.Places.{Change, carry, moved_by}
use Rattle.go_rewriting.specs.Rewriting.{IsRange}
use Rattle.go_rewriting.specs.Sites.{all_clear, is_clear, whole}
use Rattle.go_tree.specs.File.{FileTree}
use Rattle.go_tree.specs.Units.{end_in, start_in}
use Rattle.go_tree.specs.Views.{view}
use Rattle.go_types.specs.Trees.{TypeTree}
use Rattle.go_print_laws.specs.Lexemes.{AreNames}
use Rattle.go_print_laws.specs.Trees.{name_at}
use Rattle.param_choose.specs.Choosing.{HoleParameter}
use Rattle.param_choose.specs.Holes.{Hole}
use Rattle.param_choose.specs.Members.{Member}
use Rattle.escape_check.specs.Places.{Sources, file_of}
use Rattle.extract_texts.specs.Texts.{hole_bytes}
use Rattle.extract_files.specs.Functions.{AreAt}
use Rattle.extract_files.specs.Holes.{AreHoles, IsHole, name_sites, named, whole_text}
use Rattle.extract_files.specs.Holes as holes
use Rattle.extract_rewrite_files.specs.Sites.{IsHoleSite}
use Rattle.extract_rewrite_files.proofs.Expressions.{as_expression}
use Rattle.extract_rewrite_files.proofs.Sites.{Known, place_range, range_some}
use Rattle.extract_rewrite_files.proofs.Splits.{Divided, both_parts, divided_front, divided_on, one_cut, same_some, token_of, two_cut, two_wide}
use Rattle.extract_rewrite_files.proofs.Windows.{both_true}
use Rattle.extract_rewrite_files.proofs.Written.{TextsEndWell, begins_well, tree_range_of}

-- Holes lie behind a place, one behind the other, up to another place.
abbrev pub HolesInRow : Sources → Member TypeTree → ℕ → ℕ → List (HoleParameter TypeTree) → Type 0
HolesInRow s m at end [] = Unit {0}
HolesInRow s m at end (p ∷ ps) = (at ≤ (hole_bytes s m p.hole).start) × ((hole_bytes s m p.hole).end ≤ end) × HolesInRow s m (hole_bytes s m p.hole).end end ps

-- The characters behind a place, cut into holes, those in front of each, and those behind the last.
pub record HoleCut (s : Sources) (m : Member TypeTree) (ts : List Token) (c : Category) (tree : Tree) (at : ℕ) (text : List ℕ) (ps : List (HoleParameter TypeTree)) (names : List (List ℕ)) : Type 0 where
  pub holes : List holes.Hole
  pub rest : List ℕ
  pub is_text : text ≡ whole_text holes rest
  pub are : AreHoles ts c tree at holes
  pub named : AreAt (map (λ p. hole_bytes s m p.hole) ps) names at holes
  pub clear : (xs : List Change) → all_clear tree (name_sites xs holes) ≡ true

any_begins : (p : Place) → begins_well (any p) ≡ true
any_begins place.Free = refl
any_begins place.Header = refl

module _ (known : Known) (texts : TextsEndWell) (s : Sources) (m : Member TypeTree) (n : ℕ) (f : FileTree) (text : List ℕ) (l : Lexes n text f.tokens.tokens f.tokens.comments)
    (derives : Derives (kinds f.tokens.tokens) categories.File (view f.root)) (there : slice_get s.files (file_of s m) ≡ Some f) where
  abbrev ts : List Token
  ts = f.tokens.tokens

  module _ (c : Category) (tree : Tree) (d : Derives (kinds f.tokens.tokens) c tree) where
    pub hole_range : (h : Hole TypeTree) (q : IsHoleSite c tree m h) → IsRange ts (m.first + h.from) (m.first + h.upto) (hole_bytes s m h).start (hole_bytes s m h).end
    hole_range h q =
        let sub = known.subtrees (kinds ts) c tree q.stood (q.statement ∷ q.part ∷ q.path) d q.at_path in
        let same : sub.category ≡ q.category = same_some sub.category q.category (sym sub.asked ∙ q.asked) in
        let free : Derives (kinds ts) (any (place_of q.category)) q.stood = as_expression (kinds ts) q.category q.stood q.takes q.expression (subst (λ x. Derives (kinds ts) x q.stood) same sub.derives) in
        let r = tree_range_of n text ts f.tokens.comments l texts (any (place_of q.category)) q.stood (any_begins (place_of q.category)) refl free in
        let moved : IsRange ts (m.first + h.from) (m.first + h.upto) (start_in (slice_get ts (m.first + h.from))) (end_in (slice_get ts (m.first + h.upto - 1))) =
        subst (λ j. IsRange ts (m.first + h.from) j (start_in (slice_get ts (m.first + h.from))) (end_in (slice_get ts (j - 1)))) q.ends
        (subst (λ i. IsRange ts i (last q.stood) (start_in (slice_get ts i)) (end_in (slice_get ts (last q.stood - 1)))) q.begins r) in
        place_range known n f text l derives s m h.from h.upto there moved

    pub hole_cut : (front behind : List ℕ) → text ≡ front ++ behind → (ps : List (HoleParameter TypeTree)) (names : List (List ℕ)) (pre rest : List ℕ) → front ≡ pre ++ rest → length names ≡ length ps → AreNames names
        → AllByRecursion (λ p. IsHoleSite c tree m p.hole) ps → HolesInRow s m (width pre) (width front) ps → HoleCut s m ts c tree (width pre) rest ps names
    hole_cut front behind e [] [] pre rest g z a q o = record { holes = []; rest = rest; is_text = refl; are = tt; named = tt; clear = λ xs. refl }
    hole_cut front behind e [] (y ∷ names) pre rest g z a q o = absurd (omega (arith, z))
    hole_cut front behind e (p ∷ ps) [] pre rest g z a q o = absurd (omega (arith, z))
    hole_cut front behind e (p ∷ ps) (y ∷ names) pre rest g z a q o =
        let h = p.hole in
        let site = q.0 in
        let from = m.first + h.from in
        let upto = m.first + h.upto in
        let b = hole_bytes s m p.hole in
        let r : IsRange ts from upto (hole_bytes s m p.hole).start (hole_bytes s m p.hole).end = hole_range p.hole site in
        let some = range_some known n f text l derives from upto (hole_bytes s m p.hole).start (hole_bytes s m p.hole).end r in
        let low0 : Divided text 0 (hole_bytes s m p.hole).start = subst (Divided text 0) r.begins (token_of n text ts f.tokens.comments l from r.first r.has_first).begins in
        let high0 : Divided text 0 (hole_bytes s m p.hole).end = subst (Divided text 0) r.ends (token_of n text ts f.tokens.comments l (upto - 1) r.last r.has_last).ends in
        let low : Divided front 0 (hole_bytes s m p.hole).start = divided_front front behind (hole_bytes s m p.hole).start (subst (λ x. Divided x 0 (hole_bytes s m p.hole).start) e low0) (omega (arith, some, o.1)) in
        let high : Divided front 0 (hole_bytes s m p.hole).end = divided_front front behind (hole_bytes s m p.hole).end (subst (λ x. Divided x 0 (hole_bytes s m p.hole).end) e high0) o.1 in
        let a1 = divided_on front pre rest (hole_bytes s m p.hole).start g low o.0 in
        let p1 = a1.place in
        let one : width (pre ++ a1.front) ≡ (hole_bytes s m p.hole).start = omega (arith, p1, width-append pre a1.front) in
        let e1 : front ≡ (pre ++ a1.front) ++ a1.behind = one_cut front pre rest a1.front a1.behind g a1.whole in
        let a2 = divided_on front (pre ++ a1.front) a1.behind (hole_bytes s m p.hole).end e1 high (omega (arith, one, some)) in
        let p2 = a2.place in
        let both : width (pre ++ (a1.front ++ a2.front)) ≡ (hole_bytes s m p.hole).end = omega (arith, one, p2, two_wide pre a1.front a2.front, width-append pre a1.front) in
        let e2 : front ≡ (pre ++ (a1.front ++ a2.front)) ++ a2.behind = two_cut front pre rest a1.front a1.behind a2.front a2.behind g a1.whole a2.whole in
        let others = hole_cut front behind e ps names (pre ++ (a1.front ++ a2.front)) a2.behind e2 (omega (arith, z)) a.1 q.1 (subst (λ k. HolesInRow s m k (width front) ps) (sym both) o.2) in
        let start : (hole_bytes s m p.hole).start ≡ width pre + width a1.front = p1 in
        let place : width (pre ++ (a1.front ++ a2.front)) ≡ width pre + width a1.front + width a2.front = two_wide pre a1.front a2.front in
        let end : (hole_bytes s m p.hole).end ≡ width pre + width a1.front + width a2.front = sym both ∙ place in
        let x : holes.Hole = record { kept = a1.front; old = a2.front; from = from; upto = upto; statement = site.statement; part = site.part; path = site.path; name = y } in
        let range : IsRange ts from upto (width pre + width a1.front) (width pre + width a1.front + width a2.front) =
        subst (λ k. IsRange ts from upto k (width pre + width a1.front + width a2.front)) start (subst (IsRange ts from upto (hole_bytes s m p.hole).start) end r) in
        let is : IsHole ts c tree (width pre) x = record {
          range = range;
          name = a.0;
          stood = site.stood;
          category = site.category;
          at_path = site.at_path;
          asked = site.asked;
          takes = site.takes;
          expression = site.expression;
          begins = site.begins;
          ends = site.ends;
        } in
        record {
          holes = x ∷ others.holes;
          rest = others.rest;
          is_text = both_parts rest a1.front a1.behind a2.front a2.behind (whole_text others.holes others.rest) a1.whole a2.whole others.is_text;
          are = (is, subst (λ k. AreHoles ts c tree k others.holes) place others.are);
          named = (start, end, refl, subst (λ k. AreAt (map (λ p. hole_bytes s m p.hole) ps) names k others.holes) place others.named);
          clear = λ xs. both_true (is_clear (site.statement ∷ site.part ∷ site.path) (whole (carry (λ k. moved_by xs from + k) (name_at 0))) tree) (all_clear tree (name_sites xs others.holes))
              (site.clear (carry (λ k. moved_by xs from + k) (name_at 0))) (others.clear xs);
        }
