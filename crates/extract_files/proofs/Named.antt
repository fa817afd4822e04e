-- Names in place of expressions of a tree.
use Rattle.std.proofs.Common.{◌≡◌, ℕ, zero, suc, ◌+◌, true, List, [], ◌∷◌, ◌++◌, length, drop, Some, refl, sym, ap, ◌∙◌, subst, append_assoc, arith}
use Rattle.std.specs.Prelude.{slice_get}
use Rattle.go_tokens.specs.declared.token.Token.{Token}
use Rattle.go_tokens.specs.declared.token.TokenKind.{TokenKind}
use Rattle.go_tokens.specs.declared.token.TokenKind.TheVariants as token
use Rattle.go_tokens.specs.Lexing.{width}
use Rattle.go_tokens.specs.Spellings.{ends_statement_kind}
use Rattle.go_tokens.specs.Tokens.{kinds}
use Rattle.go_grammar.specs.declared.kind.Category.{Category}
use Rattle.go_grammar.specs.declared.kind.Category.TheVariants as category
use Rattle.go_grammar.specs.declared.kind.Level.{Level}
use Rattle.go_grammar.specs.declared.kind.Level.TheVariants as level
use Rattle.go_grammar.specs.Categories.{place_of, is_expression}
use Rattle.go_grammar.specs.Grammar.{rule, Derives}
use Rattle.go_grammar.specs.Rules.{Items, item}
use Rattle.go_grammar.specs.Trees.{Tree, node, Trees, kind_of, first, last, parts}
use Rattle.go_rewriting.specs.Endings.{ends_well, Ending}
use Rattle.go_rewriting.specs.Lists.{Subtree, IsRun, RunStands, no_clause, Elsewhere, in_block, in_clause, items_at, run_at}
use Rattle.go_rewriting.specs.Places.{carry, carries, Ascending, Change, changed, moved_by, ranges, range, Range, agreed}
use Rattle.go_rewriting.specs.Replacing.{subtree_at, takes_level, moved, Edge, Run}
use Rattle.go_rewriting.specs.Rewriting.{IsRange}
use Rattle.go_rewriting.specs.Sites.{Site, whole, patch_of, with_sites, all_clear, AreSites, AllSit, Sits, IsChange, NewText, NewTextFits, site_ranges, run_range, range_in, Local}
use Rattle.go_print_laws.specs.Calls.{AreStatements, of_block, of_clause}
use Rattle.go_print_laws.specs.Trees.{name_at}
use Rattle.extract_files.specs.Holes.{Hole, path_of, named, name_sites, named_tree, IsHole, AreHoles}
use Rattle.extract_files.proofs.Deep.{names_below, kind_is, run_stays, range_moves}
use Rattle.extract_files.proofs.Filled.{TextHoles}
use Rattle.extract_files.proofs.Fronts.{expressions_are_safe}
use Rattle.extract_files.proofs.Numbers.{get_right}

-- what is known of trees in which places are replaced
pub record Known : Type 0 where
  pub sites : (ts : List TokenKind) (xs : List Change) (c : Category) (t : Tree) (ss : List Site) → Derives ts c t → AreSites ts xs c t ss → Derives (changed xs ts) c (with_sites xs ss t)
  pub fits : (ts : List TokenKind) (xs : List Change) (n : ℕ) (x : Change) (ws : List TokenKind) → IsChange ts xs n x ws → (c : Category) (t u : Tree) → NewText x ws c t u → NewTextFits ts xs x c t u
  pub operands : (ts : List TokenKind) (l : Level) (c : Category) (t : Tree) → Derives ts (category.Expression l (place_of c)) t → takes_level l c ≡ true → Derives ts c t
  pub clear : (ts : List TokenKind) (m : ℕ → ℕ) (c : Category) (t : Tree) (ss : List Site) → Derives ts c t → all_clear t ss ≡ true → agreed m t (patch_of ss) ≡ true
  pub subtrees : (ts : List TokenKind) (c : Category) (t s : Tree) (path : List ℕ) → Derives ts c t → subtree_at path t ≡ Some s → Subtree ts c t path s
  pub items : (ts : List TokenKind) (c : Category) (t : Tree) (f n : ℕ) (list : Items) → IsRun ts c t f n list → RunStands ts t f n list
  pub elsewhere : (ts us : List TokenKind) (i j to : ℕ) → Elsewhere ts us i j to → (l : Items) (new : Trees) → no_clause (item l) ≡ true → Run ts l new i j → Run us l (carries (moved i to) new) to (moved i to j)
  pub text_ends : (ts : List TokenKind) (c : Category) (t : Tree) → ends_well c ≡ true → Derives ts c t → Ending ts (last t)
  pub run_ends : (ts : List TokenKind) (l : Items) (new : Trees) (a b : ℕ) → ends_well (item l) ≡ true → Run ts l new a b → Ending ts b
  pub ranges : (ts : List Token) (from upto start end : ℕ) (r : IsRange ts from upto start end) → Ending (kinds ts) upto → ends_statement_kind r.last.kind ≡ true
  pub blocks : (ts : List TokenKind) (new : Trees) (a b : ℕ) → Run ts in_clause new a b → Run ts in_block new a b

pub in_blocks : Known → (ts : List TokenKind) (l : Items) → AreStatements l → (new : Trees) (a b : ℕ) → Run ts l new a b → Run ts in_block new a b
in_blocks k ts l of_block new a b r = r
in_blocks k ts l of_clause new a b r = k.blocks ts new a b r

get_drop : {A : Type 0} (n : ℕ) (xs : List A) → slice_get (drop n xs) 0 ≡ slice_get xs n
get_drop zero xs = refl
get_drop (suc n) [] = refl
get_drop (suc n) (x ∷ xs) = get_drop n xs

some_one : {A : Type 0} (x y : A) → Some x ≡ Some y → x ≡ y
some_one x y e = cc

-- an expression where more may stand is one
expressed : (ts : List TokenKind) (c : Category) (t : Tree) → takes_level level.Primary c ≡ true → is_expression (kind_of t) ≡ true → Derives ts c t → Derives ts (category.Expression level.Either (place_of c)) t
expressed ts (category.Expression m p) (node k a b ps) e x h = (x, h.1, h.2, h.3)
expressed ts category.Bracket (node k a b ps) e x h = (x, h.1, h.2, h.3)
expressed ts category.Element (node k a b ps) e x h = (x, h.1, h.2, h.3)
expressed ts category.Value (node k a b ps) e x h = (x, h.1, h.2, h.3)
expressed ts category.IfHeader (node k a b ps) e x h = (x, h.1, h.2, h.3)
expressed ts category.SwitchHeader (node k a b ps) e x h = (x, h.1, h.2, h.3)
expressed ts category.ForHeader (node k a b ps) e x h = (x, h.1, h.2, h.3)
expressed ts _ t e x h = cc

module _ (k : Known) (ts : List Token) (c : Category) (t : Tree) (h : Derives (kinds ts) c t) where
  -- the last token of a hole ends a statement at a line's end
  hole_closes : (at : ℕ) (x : Hole) (y : IsHole ts c t at x) → ends_statement_kind y.range.last.kind ≡ true
  hole_closes at x y =
      let s = k.subtrees (kinds ts) c t y.stood (path_of x) h y.at_path in
      let same : s.category ≡ y.category = some_one s.category y.category (sym s.asked ∙ y.asked) in
      let is : Derives (kinds ts) y.category y.stood = subst (λ d. Derives (kinds ts) d y.stood) same s.derives in
      let end = k.text_ends (kinds ts) (category.Expression level.Either (place_of y.category)) y.stood refl (expressed (kinds ts) y.category y.stood y.takes y.expression is) in
      k.ranges ts x.from x.upto _ _ y.range (subst (Ending (kinds ts)) y.ends end)

  pub text_holes : (at : ℕ) (hs : List Hole) → AreHoles ts c t at hs → TextHoles ts at hs
  text_holes at [] a = tt
  text_holes at (x ∷ xs) a = (record { range = a.0.range; name = a.0.name; closes = hole_closes at x a.0 }, text_holes (at + width x.kept + width x.old) xs a.1)

  range_at : (from upto i j : ℕ) → i ≡ from → j ≡ upto → range from upto ≡ range i j
  range_at from upto i j e f = ap (λ n. range n upto) (sym e) ∙ ap (λ n. range i n) (sym f)

  stood_range : (s new : Tree) → range (first s) (last s) ≡ range_in (Some s) (whole new)
  stood_range (node k a b ps) new = refl

  hole_places : (at : ℕ) (all : List Change) (hs : List Hole) → AreHoles ts c t at hs → ranges (named hs) ≡ site_ranges t (name_sites all hs)
  hole_places at all [] a = refl
  hole_places at all (x ∷ xs) a =
      let new : Local = whole (carry (λ n. moved_by all x.from + n) (name_at 0)) in
      let here : range x.from x.upto ≡ range_in (subtree_at (path_of x) t) (whole (carry (λ n. moved_by all x.from + n) (name_at 0))) =
      range_at x.from x.upto (first a.0.stood) (last a.0.stood) a.0.begins a.0.ends ∙ stood_range a.0.stood (carry (λ n. moved_by all x.from + n) (name_at 0)) ∙ ap (λ o. range_in o (whole (carry (λ n. moved_by all x.from + n) (name_at 0)))) (sym a.0.at_path) in
      ap (λ r. r ∷ ranges (named xs)) here ∙ ap (λ rs. range_in (subtree_at (path_of x) t) (whole (carry (λ n. moved_by all x.from + n) (name_at 0))) ∷ rs) (hole_places (at + width x.kept + width x.old) all xs a.1)

  -- where all lie one behind the other
  module _ (f : ℕ) (list : Items) (statements : AreStatements list) (is_list : items_at f (rule (place_of c) (kind_of t)) ≡ Some list) (all : List Change) (ascend : Ascending 0 (ranges all) (length (kinds ts))) where
    name_edge : (at : ℕ) (x : Hole) → IsHole ts c t at x → Edge (kinds ts) (token.Identifier ∷ []) x.from 0
    name_edge at x y = record { brace = λ e. cc; result = λ n next is e. absurd (expressions_are_safe (kinds ts) c y.category t y.stood f x.statement (x.part ∷ x.path) list statements h is_list y.at_path y.asked y.takes n (next ∙ sym y.begins) is) }

    hole_sits : (pre : List Change) (at : ℕ) (x : Hole) (rest : List Change) → all ≡ pre ++ (record { from = x.from; upto = x.upto; words = token.Identifier ∷ [] } ∷ rest) → (y : IsHole ts c t at x)
        → Sits (kinds ts) (changed all (kinds ts)) (moved_by all) c t (record { path = path_of x; change = whole (carry (λ n. moved_by all x.from + n) (name_at 0)) })
    hole_sits pre at x rest e y =
        let change : Change = record { from = x.from; upto = x.upto; words = token.Identifier ∷ [] } in
        let new : List TokenKind = changed all (kinds ts) in
        let ws : List TokenKind = drop (moved_by all x.upto) new in
        let number : length pre ≡ length pre + 0 = omega arith in
        record {
          old = y.stood;
          category = y.category;
          stood = y.at_path;
          asked = y.asked;
          fits = k.fits (kinds ts) all (length pre) (record { from = x.from; upto = x.upto; words = token.Identifier ∷ [] }) (drop (moved_by all x.upto) (changed all (kinds ts)))
              (record {
                ascend = ascend;
                among = ap (λ l. slice_get l (length pre)) e ∙ ap (slice_get (pre ++ (record { from = x.from; upto = x.upto; words = token.Identifier ∷ [] } ∷ rest))) number ∙ get_right pre (record { from = x.from; upto = x.upto; words = token.Identifier ∷ [] } ∷ rest) 0;
                edge = name_edge at x y;
                some = omega arith;
                behind = sym (get_drop (moved_by all x.upto) (changed all (kinds ts)));
              })
              y.category y.stood (name_at 0)
              (record {
                from = y.begins;
                upto = y.ends;
                derives = k.operands ((token.Identifier ∷ []) ++ drop (moved_by all x.upto) (changed all (kinds ts))) level.Primary y.category (name_at 0) (refl, (refl, refl), refl, refl) y.takes;
                begins = refl;
                ends = refl;
              });
        }

    holes_sit : (pre : List Change) (at : ℕ) (hs : List Hole) → all ≡ pre ++ named hs → AreHoles ts c t at hs → AllSit (kinds ts) (changed all (kinds ts)) (moved_by all) c t (name_sites all hs)
    holes_sit pre at [] e a = tt
    holes_sit pre at (x ∷ xs) e a = (
      hole_sits pre at x (named xs) e a.0,
      holes_sit (pre ++ (record { from = x.from; upto = x.upto; words = token.Identifier ∷ [] } ∷ [])) (at + width x.kept + width x.old) xs (e ∙ sym (append_assoc pre (record { from = x.from; upto = x.upto; words = token.Identifier ∷ [] } ∷ []) (named xs))) a.1,
    )

  -- The tree with the names stands, and its items are a run.
  pub named_derives : (f : ℕ) (list : Items) → AreStatements list → items_at f (rule (place_of c) (kind_of t)) ≡ Some list → (at : ℕ) (hs : List Hole) → AreHoles ts c t at hs → Ascending 0 (ranges (named hs)) (length (kinds ts)) → all_clear t (name_sites (named hs) hs) ≡ true → Derives (changed (named hs) (kinds ts)) c (named_tree hs t)
  named_derives f list s is at hs a ascend clear = k.sites (kinds ts) (named hs) c t (name_sites (named hs) hs) h (record {
    places = hole_places at (named hs) hs a;
    ascend = ascend;
    sit = holes_sit f list s is (named hs) ascend [] at hs refl a;
    agrees = k.clear (kinds ts) (moved_by (named hs)) c t (name_sites (named hs) hs) h clear;
  })

  pub named_run : (at : ℕ) (hs : List Hole) (f n : ℕ) (list : Items) → AreStatements list → IsRun (kinds ts) c t f n list → AreHoles ts c t at hs → Ascending 0 (ranges (named hs)) (length (kinds ts)) → all_clear t (name_sites (named hs) hs) ≡ true
      → Run (changed (named hs) (kinds ts)) list (run_at f n (parts (named_tree hs t))) (moved_by (named hs) (run_range f n (parts t)).from) (moved_by (named hs) (run_range f n (parts t)).upto)
  named_run at hs f n list s r a ascend clear =
      let q = patch_of (name_sites (named hs) hs) in
      let d = names_below (named hs) hs in
      let m = moved_by (named hs) in
      let there = k.items (changed (named hs) (kinds ts)) c (named_tree hs t) f n list (record {
        derives = named_derives f list s r.is_list at hs a ascend clear;
        is_list = ap (λ x. items_at f (rule (place_of c) x)) (kind_is m t q d) ∙ r.is_list;
        has = run_stays m t q f n d ∙ r.has;
      }) in
      subst (λ (x : Range). Run (changed (named hs) (kinds ts)) list (run_at f n (parts (named_tree hs t))) x.from x.upto) (range_moves m t q f n d r.has) there
