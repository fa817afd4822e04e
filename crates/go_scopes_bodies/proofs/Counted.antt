-- Statements are counted function by function.
use Rattle.std.proofs.Common.{◌≡◌, ◌∙◌, ℕ, zero, suc, ◌+◌, ◌≤◌, List, [], ◌∷◌, ◌++◌, map, length, Some, refl, sym, ap, arith, drop}
use Rattle.std.specs.Prelude.{slice_get}
use Rattle.go_tokens.specs.Tokens.{TokenList, kinds}
use Rattle.go_grammar.specs.Trees.{Tree, first, last, parts}
use Rattle.go_tree.specs.Branches.{statements, first_place}
use Rattle.go_tree.specs.declared.event.Event.{Event}
use Rattle.go_tree.specs.declared.event.Event.TheVariants as event
use Rattle.go_tree.specs.Failures.{of_files}
use Rattle.go_tree.specs.Lists.{functions}
use Rattle.go_tree.specs.Units.{Place, bytes_of}
use Rattle.go_scopes_events.specs.Moved.{moved_event}
use Rattle.go_heads.specs.Bodies.{function_events}
use Rattle.go_heads.specs.Functions.{Function, AreRead, alone, functions_in, all_functions}
use Rattle.go_heads.specs.Heads.{File, IsRead, in_bodies}
use Rattle.go_heads.specs.Objects.{units_of}
use Rattle.go_heads.specs.Told.{file_events}
use Rattle.go_heads.proofs.Public.{AllStand, file_stands}
use Rattle.go_heads.proofs.Public as heads
use Rattle.go_scopes_bodies.specs.Faults.{no_tokens, own_statements, statements_of, CountsStatements}
use Rattle.go_scopes_bodies.specs.Outside.{outside_events, outside_units}
use Rattle.go_scopes_bodies.proofs.Nothing.{nothing_outside}
use Rattle.go_scopes_bodies.proofs.Pieces.{Piece, around, function, told_by, told_around, trees_of, file_pieces}
use Rattle.go_scopes_bodies.proofs.Rules.{told_in}

many : {A : Type 0} (xs ys : List A) → length (xs ++ ys) ≡ length xs + length ys
many [] ys = omega arith
many (x ∷ xs) ys = let e : length (xs ++ ys) ≡ length xs + length ys = many xs ys in omega (arith, e)

module _ (n : ℕ) (l : TokenList) where
  statements_both : (es fs : List Event) → statements n l (es ++ fs) ≡ statements n l es ++ statements n l fs
  statements_both [] fs = refl
  statements_both (event.Statement i j ∷ es) fs = ap (λ ps. bytes_of n l i j ∷ ps) (statements_both es fs)
  statements_both (e ∷ es) fs = statements_both es fs

  abbrev count : List Event → ℕ
  count es = length (statements n l es)

  count_both : (es fs : List Event) → count (es ++ fs) ≡ count es + count fs
  count_both es fs = ap length (statements_both es fs) ∙ many (statements n l es) (statements n l fs)

  count_moved : (a : ℕ) (es : List Event) → count (map (moved_event a) es) ≡ length (statements 0 no_tokens es)
  count_moved a [] = refl
  count_moved a (event.Statement i j ∷ es) = ap suc (count_moved a es)
  count_moved a (event.Use u ∷ es) = count_moved a es
  count_moved a (event.Declaration d ∷ es) = count_moved a es
  count_moved a (event.Import i ∷ es) = count_moved a es
  count_moved a (event.Member m g i ∷ es) = count_moved a es
  count_moved a (event.Bodiless i j ∷ es) = count_moved a es
  count_moved a (event.Misplaced i j ∷ es) = count_moved a es
  count_moved a (event.SecondDefault i ∷ es) = count_moved a es

  module _ (tells : Tree → List Event) where
    abbrev in_trees : List Tree → ℕ
    in_trees [] = 0
    in_trees (t ∷ ts) = count (tells t) + in_trees ts

    pieces_counted : (ps : List Piece) → count (told_by tells ps) ≡ count (told_around ps) + in_trees (trees_of ps)
    pieces_counted [] = omega arith
    pieces_counted (around es ∷ ps) =
        let rest : count (told_by tells ps) ≡ count (told_around ps) + in_trees (trees_of ps) = pieces_counted ps in
        let whole : count (es ++ told_by tells ps) ≡ count es + count (told_by tells ps) = count_both es (told_by tells ps) in
        let out : count (es ++ told_around ps) ≡ count es + count (told_around ps) = count_both es (told_around ps) in
        omega (arith, rest, whole, out)
    pieces_counted (function t ∷ ps) =
        let rest : count (told_by tells ps) ≡ count (told_around ps) + in_trees (trees_of ps) = pieces_counted ps in
        let whole : count (tells t ++ told_by tells ps) ≡ count (tells t) + count (told_by tells ps) = count_both (tells t) (told_by tells ps) in
        omega (arith, rest, whole)

module _ (all : List File) (n : ℕ) (f : File) (r : IsRead f) (there : slice_get all n ≡ Some f) where
  abbrev in_f : Tree → Function
  in_f t = record { file = f; tree = t }

  own_counted : (ts : List Tree) → AllStand (kinds f.tokens.tokens) (in_bodies (parts f.tree)) (last f.tree) (file_events f) ts → in_trees n f.tokens (told_in f) ts ≡ statements_of (map in_f ts)
  own_counted [] h = refl
  own_counted (t ∷ ts) h =
      let here : count n f.tokens (told_in f t) ≡ length (own_statements (alone f.tokens t)) = ap (count n f.tokens) (heads.tell all n f r there t h.0) ∙ count_moved n f.tokens (first t) (function_events (alone f.tokens t)) in
      let rest : in_trees n f.tokens (told_in f) ts ≡ statements_of (map in_f ts) = own_counted ts h.1 in
      omega (arith, here, rest)

  file_counted : count n f.tokens (file_events f) ≡ count n f.tokens (outside_events f) + statements_of (functions_in f)
  file_counted =
      let p = file_pieces (kinds f.tokens.tokens) f.tree r.tree in
      let trees : in_trees n f.tokens (told_in f) (trees_of p.pieces) ≡ in_trees n f.tokens (told_in f) (functions (parts f.tree)) = ap (in_trees n f.tokens (told_in f)) (sym p.trees) in
      let own : in_trees n f.tokens (told_in f) (functions (parts f.tree)) ≡ statements_of (functions_in f) = own_counted (functions (parts f.tree)) (file_stands (kinds f.tokens.tokens) f.tree r.tree) in
      let whole : count n f.tokens (file_events f) ≡ count n f.tokens (told_by (told_in f) p.pieces) = ap (count n f.tokens) p.whole in
      let out : count n f.tokens (outside_events f) ≡ count n f.tokens (told_around p.pieces) = ap (count n f.tokens) p.outside in
      let parted : count n f.tokens (told_by (told_in f) p.pieces) ≡ count n f.tokens (told_around p.pieces) + in_trees n f.tokens (told_in f) (trees_of p.pieces) = pieces_counted n f.tokens (told_in f) p.pieces in
      omega (arith, trees, own, whole, out, parted)

functions_counted : (gs hs : List Function) → statements_of (gs ++ hs) ≡ statements_of gs + statements_of hs
functions_counted [] hs = omega arith
functions_counted (g ∷ gs) hs = let e : statements_of (gs ++ hs) ≡ statements_of gs + statements_of hs = functions_counted gs hs in omega (arith, e)

files_counted : (all : List File) (n : ℕ) (fs : List File) → ((k : ℕ) → slice_get all (n + k) ≡ slice_get fs k) → AreRead fs
    → length (of_files statements n (units_of fs)) ≡ length (of_files statements n (outside_units fs)) + statements_of (all_functions fs)
files_counted all n [] there h = omega arith
files_counted all n (f ∷ fs) there h =
    let z : n ≡ n + 0 = omega arith in
    let next : (i : ℕ) → suc n + i ≡ n + suc i = λ i. omega arith in
    let here : length (statements n f.tokens (file_events f)) ≡ length (statements n f.tokens (outside_events f)) + statements_of (functions_in f) = file_counted all n f h.0 (ap (slice_get all) z ∙ there 0) in
    let rest : length (of_files statements (suc n) (units_of fs)) ≡ length (of_files statements (suc n) (outside_units fs)) + statements_of (all_functions fs) = files_counted all (suc n) fs (λ i. ap (slice_get all) (next i) ∙ there (suc i)) h.1 in
    let whole : length (statements n f.tokens (file_events f) ++ of_files statements (suc n) (units_of fs)) ≡ length (statements n f.tokens (file_events f)) + length (of_files statements (suc n) (units_of fs)) = many (statements n f.tokens (file_events f)) (of_files statements (suc n) (units_of fs)) in
    let out : length (statements n f.tokens (outside_events f) ++ of_files statements (suc n) (outside_units fs)) ≡ length (statements n f.tokens (outside_events f)) + length (of_files statements (suc n) (outside_units fs)) = many (statements n f.tokens (outside_events f)) (of_files statements (suc n) (outside_units fs)) in
    let own : statements_of (functions_in f ++ all_functions fs) ≡ statements_of (functions_in f) + statements_of (all_functions fs) = functions_counted (functions_in f) (all_functions fs) in
    omega (arith, here, rest, whole, out, own)

-- ---- the limit

first_none : (xs : List Place) → first_place xs ≡ [] → xs ≡ []
first_none [] e = refl
first_none (x ∷ xs) e = cc

none_dropped : (n : ℕ) (xs : List Place) → length xs ≤ n → drop n xs ≡ []
none_dropped zero [] h = refl
none_dropped zero (x ∷ xs) h = absurd (omega (arith, h))
none_dropped (suc n) [] h = refl
none_dropped (suc n) (x ∷ xs) h = none_dropped n xs (omega (arith, h))

few : (n : ℕ) (xs : List Place) → drop n xs ≡ [] → length xs ≤ n
few zero [] e = omega arith
few zero (x ∷ xs) e = cc
few (suc n) [] e = omega arith
few (suc n) (x ∷ xs) e = let h : length xs ≤ n = few n xs e in omega (arith, h)

pub statements_by_functions : (fs : List File) → AreRead fs → CountsStatements fs
statements_by_functions fs h = record {
  counted =
      let out : length (of_files statements 0 (outside_units fs)) ≡ 0 = ap length (nothing_outside fs h).statements in
      let all : length (of_files statements 0 (units_of fs)) ≡ length (of_files statements 0 (outside_units fs)) + statements_of (all_functions fs) = files_counted fs 0 fs (λ k. let z : 0 + k ≡ k = omega arith in ap (slice_get fs) z) h in
      omega (arith, out, all);
  within = λ e. few 65536 (of_files statements 0 (units_of fs)) (first_none (drop 65536 (of_files statements 0 (units_of fs))) e);
  enough = λ e. ap first_place (none_dropped 65536 (of_files statements 0 (units_of fs)) e);
}
