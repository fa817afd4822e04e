-- A rule on the events of a file that looks back at those in front, where each function tells of itself alone.
use Rattle.std.proofs.Common.{◌≡◌, ◌∙◌, ℕ, ◌+◌, ◌<◌, ◌≤◌, List, [], ◌∷◌, ◌++◌, map, Some, sym, ap, subst, arith}
use Rattle.std.specs.Prelude.{slice_get}
use Rattle.go_tokens.specs.Tokens.{TokenList, kinds}
use Rattle.go_grammar.specs.declared.kind.Category.TheVariants as category
use Rattle.go_grammar.specs.Trees.{Tree, first, last, parts}
use Rattle.go_tree.specs.declared.event.Event.{Event}
use Rattle.go_tree.specs.Contexts.{file_context}
use Rattle.go_tree.specs.Failures.{of_files}
use Rattle.go_tree.specs.Lists.{functions}
use Rattle.go_tree.specs.Units.{Place}
use Rattle.go_scopes_events.proofs.Public.{IsLaidOut, laid_grows, derives_laid}
use Rattle.go_heads.specs.Functions.{Function, AreRead, functions_in}
use Rattle.go_heads.specs.Heads.{File, IsRead, in_bodies}
use Rattle.go_heads.specs.Locals.{AreNamed}
use Rattle.go_heads.specs.Objects.{units_of}
use Rattle.go_heads.specs.Told.{file_events}
use Rattle.go_heads.proofs.Public.{Every, Stands, AllStand, file_stands}
use Rattle.go_scopes_bodies.specs.Outside.{outside_events, outside_units}
use Rattle.go_scopes_bodies.proofs.Each.{Iff, EachOwn}
use Rattle.go_scopes_bodies.proofs.Lists.{none_left, none_right, none_both}
use Rattle.go_scopes_bodies.proofs.Lying.{AllLie, tree_lies}
use Rattle.go_scopes_bodies.proofs.Pieces.{Piece, around, function, told_by, told_around, trees_of, ArePlaced, file_pieces}
use Rattle.go_scopes_bodies.proofs.Rules.{IsFileRule, told_in, rule_by_files}

-- The rule has the events in front as its first argument. Where all that these speak of begins in front of a token, and all that
-- the others speak of behind it, they don't matter.
pub record LooksBack (rule : List Event → List Event → List Place) (Before From : ℕ → List Event → Type 0) : Type 0 where
  pub none : (z : ℕ) → Before z []
  pub append : (z : ℕ) (xs ys : List Event) → Before z xs → Before z ys → Before z (xs ++ ys)
  pub later : (y z : ℕ) (xs : List Event) → y ≤ z → Before y xs → Before z xs
  pub lie_before : (lo hi : ℕ) (es : List Event) → AllLie lo hi es → Before hi es
  pub lie_from : (z lo hi : ℕ) (es : List Event) → z ≤ lo → AllLie lo hi es → From z es
  pub nothing : (b : List Event) → rule b [] ≡ []
  pub both : (b xs ys : List Event) → rule b (xs ++ ys) ≡ rule b xs ++ rule (b ++ xs) ys
  pub alone : (z : ℕ) (b es : List Event) → Before z b → From z es → rule b es ≡ rule [] es

-- ---- the pieces of a file

module _ (rule : List Event → List Event → List Place) (Before From : ℕ → List Event → Type 0) (looks : LooksBack rule Before From) where
  abbrev FailsNowhere : List Event → Type 0
  FailsNowhere es = rule [] es ≡ []

  -- one piece, and those behind it
  split : (z : ℕ) (b es fs : List Event) → Before z b → From z es → rule b (es ++ fs) ≡ rule [] es ++ rule (b ++ es) fs
  split z b es fs h k = looks.both b es fs ∙ ap (λ ps. ps ++ rule (b ++ es) fs) (looks.alone z b es h k)

  -- what is in front of the next piece
  further : (z lo hi : ℕ) (b es : List Event) → z ≤ lo → lo ≤ hi → Before z b → AllLie lo hi es → Before hi (b ++ es)
  further z lo hi b es from grows h lie = looks.append hi b es (looks.later z hi b (omega (arith, from, grows)) h) (looks.lie_before lo hi es lie)

  module _ (tells : Tree → List Event) (lies : (t : Tree) → IsLaidOut t → AllLie (first t) (last t) (tells t)) where
    -- the places of each piece by itself
    abbrev pub EachPiece : List Piece → Type 0
    EachPiece [] = Unit {0}
    EachPiece (around es ∷ ps) = FailsNowhere es × EachPiece ps
    EachPiece (function t ∷ ps) = FailsNowhere (tells t) × EachPiece ps

    pub pieces_apart : (z : ℕ) (b : List Event) (ps : List Piece) → ArePlaced z ps → Before z b → rule b (told_by tells ps) ≡ [] → EachPiece ps
    pieces_apart z b [] p h e = tt
    pieces_apart z b (around es ∷ ps) p h e =
        let x = p.0 in
        let both : rule [] es ++ rule (b ++ es) (told_by tells ps) ≡ [] = sym (split z b es (told_by tells ps) h (looks.lie_from z x.from x.upto es x.behind x.lie)) ∙ e in (
          none_left (rule [] es) (rule (b ++ es) (told_by tells ps)) both,
          pieces_apart x.upto (b ++ es) ps p.1 (further z x.from x.upto b es x.behind x.grows h x.lie) (none_right (rule [] es) (rule (b ++ es) (told_by tells ps)) both),
        )
    pieces_apart z b (function t ∷ ps) p h e =
        let es : List Event = tells t in
        let lie : AllLie (first t) (last t) es = lies t p.1 in
        let grows : first t ≤ last t = let g : first t < last t = laid_grows t p.1 in omega (arith, g) in
        let both : rule [] es ++ rule (b ++ es) (told_by tells ps) ≡ [] = sym (split z b es (told_by tells ps) h (looks.lie_from z (first t) (last t) es p.0 lie)) ∙ e in (
          none_left (rule [] es) (rule (b ++ es) (told_by tells ps)) both,
          pieces_apart (last t) (b ++ es) ps p.2 (further z (first t) (last t) b es p.0 grows h lie) (none_right (rule [] es) (rule (b ++ es) (told_by tells ps)) both),
        )

    pub pieces_together : (z : ℕ) (b : List Event) (ps : List Piece) → ArePlaced z ps → Before z b → EachPiece ps → rule b (told_by tells ps) ≡ []
    pieces_together z b [] p h e = looks.nothing b
    pieces_together z b (around es ∷ ps) p h e =
        let x = p.0 in
        split z b es (told_by tells ps) h (looks.lie_from z x.from x.upto es x.behind x.lie)
        ∙ none_both (rule [] es) (rule (b ++ es) (told_by tells ps)) e.0
        (pieces_together x.upto (b ++ es) ps p.1 (further z x.from x.upto b es x.behind x.grows h x.lie) e.1)
    pieces_together z b (function t ∷ ps) p h e =
        let es : List Event = tells t in
        let lie : AllLie (first t) (last t) es = lies t p.1 in
        let grows : first t ≤ last t = let g : first t < last t = laid_grows t p.1 in omega (arith, g) in
        split z b es (told_by tells ps) h (looks.lie_from z (first t) (last t) es p.0 lie)
        ∙ none_both (rule [] es) (rule (b ++ es) (told_by tells ps)) e.0
        (pieces_together (last t) (b ++ es) ps p.2 (further z (first t) (last t) b es p.0 grows h lie) e.1)

    -- the same without the functions
    pub around_apart : (z : ℕ) (b : List Event) (ps : List Piece) → ArePlaced z ps → Before z b → EachPiece ps → rule b (told_around ps) ≡ []
    around_apart z b [] p h e = looks.nothing b
    around_apart z b (around es ∷ ps) p h e =
        let x = p.0 in
        split z b es (told_around ps) h (looks.lie_from z x.from x.upto es x.behind x.lie)
        ∙ none_both (rule [] es) (rule (b ++ es) (told_around ps)) e.0
        (around_apart x.upto (b ++ es) ps p.1 (further z x.from x.upto b es x.behind x.grows h x.lie) e.1)
    around_apart z b (function t ∷ ps) p h e =
        let le : z ≤ last t = let f : z ≤ first t = p.0 in let g : first t < last t = laid_grows t p.1 in omega (arith, f, g) in
        around_apart (last t) b ps p.2 (looks.later z (last t) b le h) e.1

    pub each_function : (ps : List Piece) → EachPiece ps → Every (λ t. FailsNowhere (tells t)) (trees_of ps)
    each_function [] e = tt
    each_function (around es ∷ ps) e = each_function ps e.1
    each_function (function t ∷ ps) e = (e.0, each_function ps e.1)

    pub each_piece : (z : ℕ) (b : List Event) (ps : List Piece) → ArePlaced z ps → Before z b → rule b (told_around ps) ≡ [] → Every (λ t. FailsNowhere (tells t)) (trees_of ps) → EachPiece ps
    each_piece z b [] p h e f = tt
    each_piece z b (around es ∷ ps) p h e f =
        let x = p.0 in
        let both : rule [] es ++ rule (b ++ es) (told_around ps) ≡ [] = sym (split z b es (told_around ps) h (looks.lie_from z x.from x.upto es x.behind x.lie)) ∙ e in (
          none_left (rule [] es) (rule (b ++ es) (told_around ps)) both,
          each_piece x.upto (b ++ es) ps p.1 (further z x.from x.upto b es x.behind x.grows h x.lie) (none_right (rule [] es) (rule (b ++ es) (told_around ps)) both) f,
        )
    each_piece z b (function t ∷ ps) p h e f =
        let le : z ≤ last t = let x : z ≤ first t = p.0 in let g : first t < last t = laid_grows t p.1 in omega (arith, x, g) in
        (f.0, each_piece (last t) b ps p.2 (looks.later z (last t) b le h) e f.1)

-- ---- files

abbrev pub BackRule : Type 0
BackRule = ℕ → TokenList → List Event → List Event → List Place

-- what the rule says of all events of a file
abbrev pub whole : BackRule → ℕ → TokenList → List Event → List Place
whole rule n l es = rule n l [] es

module _ (all : List File) (rule : BackRule) (Before From : ℕ → List Event → Type 0) (looks : (n : ℕ) (l : TokenList) → LooksBack (rule n l) Before From) (Own : ℕ → Function → Type 0) where
  -- In a function the rule says by itself whether it fails.
  abbrev pub IsOwnBack : Type 0
  IsOwnBack = (n : ℕ) (f : File) → IsRead f → slice_get all n ≡ Some f → (t : Tree) → IsLaidOut t → Stands (kinds f.tokens.tokens) (in_bodies (parts f.tree)) (last f.tree) (file_events f) t
      → Iff (rule n f.tokens [] (told_in f t) ≡ []) (Own n (record { file = f; tree = t }))

  module _ (by_itself : IsOwnBack) (n : ℕ) (f : File) (r : IsRead f) (there : slice_get all n ≡ Some f) where
    abbrev StandIn : List Tree → Type 0
    StandIn ts = AllStand (kinds f.tokens.tokens) (in_bodies (parts f.tree)) (last f.tree) (file_events f) ts

    abbrev in_f : Tree → Function
    in_f t = record { file = f; tree = t }

    abbrev There : Tree → Type 0
    There t = rule n f.tokens [] (told_in f t) ≡ []

    lies : (t : Tree) → IsLaidOut t → AllLie (first t) (last t) (told_in f t)
    lies t laid = tree_lies (first t) (last t) (file_context (last f.tree)) t laid (omega arith) (omega arith) tt tt tt (tt, tt, tt)

    one_function : (t : Tree) → Stands (kinds f.tokens.tokens) (in_bodies (parts f.tree)) (last f.tree) (file_events f) t → Iff (There t) (Own n (in_f t))
    one_function t stands = by_itself n f r there t (derives_laid (kinds f.tokens.tokens) t category.Declaration stands.sits.derives) stands

    to_own : (ts : List Tree) → StandIn ts → Every There ts → Every (Own n) (map in_f ts)
    to_own [] h e = tt
    to_own (t ∷ ts) h e = ((one_function t h.0).to e.0, to_own ts h.1 e.1)

    from_own : (ts : List Tree) → StandIn ts → Every (Own n) (map in_f ts) → Every There ts
    from_own [] h e = tt
    from_own (t ∷ ts) h e = ((one_function t h.0).from e.0, from_own ts h.1 e.1)

    one_file : Iff (rule n f.tokens [] (file_events f) ≡ []) ((rule n f.tokens [] (outside_events f) ≡ []) × Every (Own n) (functions_in f))
    one_file =
        let p = file_pieces (kinds f.tokens.tokens) f.tree r.tree in
        let stand = file_stands (kinds f.tokens.tokens) f.tree r.tree in
        let by : List Event → List Event → List Place = rule n f.tokens in
        let back : LooksBack by Before From = looks n f.tokens in
        record {
          to =
              λ e.
              let x = pieces_apart by Before From back (told_in f) lies 0 [] p.pieces p.placed (back.none 0) (ap (by []) (sym p.whole) ∙ e) in (
                ap (by []) p.outside ∙ around_apart by Before From back (told_in f) lies 0 [] p.pieces p.placed (back.none 0) x,
                to_own (functions (parts f.tree)) stand (subst (Every There) (sym p.trees) (each_function by Before From back (told_in f) lies p.pieces x)),
              );
          from =
              λ e.
              let x = each_piece by Before From back (told_in f) lies 0 [] p.pieces p.placed (back.none 0) (ap (by []) (sym p.outside) ∙ e.0) (subst (Every There) p.trees (from_own (functions (parts f.tree)) stand e.1)) in
              ap (by []) p.whole ∙ pieces_together by Before From back (told_in f) lies 0 [] p.pieces p.placed (back.none 0) x;
        }

  -- The rule fails nowhere where it fails neither outside of functions nor in one of these by itself.
  pub back_by_functions : IsOwnBack → AreRead all → AreNamed all → Iff (of_files (whole rule) 0 (units_of all) ≡ []) ((of_files (whole rule) 0 (outside_units all) ≡ []) × EachOwn Own 0 all)
  back_by_functions by_itself h g = rule_by_files all (whole rule) Own by_file 0 all (λ k. let z : 0 + k ≡ k = omega arith in ap (slice_get all) z) h g
    where
      by_file : IsFileRule all (whole rule) Own
      by_file n f r there named = one_file by_itself n f r there
