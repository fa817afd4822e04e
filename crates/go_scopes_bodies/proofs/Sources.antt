-- The specifications of what is declared around a function stand in front of it or behind it.
use Rattle.std.proofs.Common.{◌≡◌, ◌∙◌, ℕ, suc, ◌<◌, ◌≤◌, Bool, true, false, List, [], ◌∷◌, ◌++◌, Option, Some, refl, sym, subst, append_assoc, arith}
use Rattle.go_grammar.specs.Trees.{Tree, first, last}
use Rattle.go_tree.specs.declared.event.Declaration.{Declaration}
use Rattle.go_tree.specs.declared.event.Event.{Event}
use Rattle.go_tree.specs.declared.event.Event.TheVariants as event
use Rattle.go_tree.specs.Contexts.{is_package}
use Rattle.go_scopes_events.specs.Orders.{EachDeclared}
use Rattle.go_scopes_events.proofs.Public.{IsLaidOut, laid_grows, each_append, each_map}
use Rattle.go_heads.proofs.Public.{Every, each_both}
use Rattle.go_scopes_bodies.proofs.FunctionParts.{IsOfFunction}
use Rattle.go_scopes_bodies.proofs.Lying.{ListLies, AllLie}
use Rattle.go_scopes_bodies.proofs.Pieces.{Piece, around, function, told_by, trees_of, ArePlaced}

abbrev pub SourceBefore : ℕ → Declaration → Type 0
SourceBefore z d = (s : ℕ) → d.source ≡ Some s → s < z

abbrev pub SourceFrom : ℕ → Declaration → Type 0
SourceFrom z d = (s : ℕ) → d.source ≡ Some s → z ≤ s

lies_before : (lo hi : ℕ) (o : Option ℕ) → ListLies lo hi o → (s : ℕ) → o ≡ Some s → s < hi
lies_before lo hi o h s e = let x : ListLies lo hi (Some s) = subst (ListLies lo hi) e h in x.1

lies_from : (lo hi z : ℕ) (o : Option ℕ) → z ≤ lo → ListLies lo hi o → (s : ℕ) → o ≡ Some s → z ≤ s
lies_from lo hi z o le h s e = let x : ListLies lo hi (Some s) = subst (ListLies lo hi) e h in omega (arith, le, x.0)

module _ (lo hi : ℕ) where
  sources_before : (es : List Event) → AllLie lo hi es → EachDeclared (SourceBefore hi) es
  sources_before [] h = tt
  sources_before (event.Declaration d ∷ es) h = (lies_before lo hi d.source h.0.3, sources_before es h.1)
  sources_before (event.Use u ∷ es) h = sources_before es h.1
  sources_before (event.Import i ∷ es) h = sources_before es h.1
  sources_before (event.Member m g x ∷ es) h = sources_before es h.1
  sources_before (event.Bodiless i j ∷ es) h = sources_before es h.1
  sources_before (event.Statement i j ∷ es) h = sources_before es h.1
  sources_before (event.Misplaced i j ∷ es) h = sources_before es h.1
  sources_before (event.SecondDefault i ∷ es) h = sources_before es h.1

  sources_from : (z : ℕ) (es : List Event) → z ≤ lo → AllLie lo hi es → EachDeclared (SourceFrom z) es
  sources_from z [] le h = tt
  sources_from z (event.Declaration d ∷ es) le h = (lies_from lo hi z d.source le h.0.3, sources_from z es le h.1)
  sources_from z (event.Use u ∷ es) le h = sources_from z es le h.1
  sources_from z (event.Import i ∷ es) le h = sources_from z es le h.1
  sources_from z (event.Member m g x ∷ es) le h = sources_from z es le h.1
  sources_from z (event.Bodiless i j ∷ es) le h = sources_from z es le h.1
  sources_from z (event.Statement i j ∷ es) le h = sources_from z es le h.1
  sources_from z (event.Misplaced i j ∷ es) le h = sources_from z es le h.1
  sources_from z (event.SecondDefault i ∷ es) le h = sources_from z es le h.1

later_before : (y z : ℕ) → y ≤ z → (d : Declaration) → SourceBefore y d → SourceBefore z d
later_before y z le d h s e = omega (arith, le, h s e)

earlier_from : (y z : ℕ) → y ≤ z → (d : Declaration) → SourceFrom z d → SourceFrom y d
earlier_from y z le d h s e = omega (arith, le, h s e)

-- ---- the pieces of a file

-- A function among what is told: what is told in front of it has specifications in front, and what is told behind it behind.
pub record IsAround (all told : List Event) (a z : ℕ) : Type 0 where
  pub before : List Event
  pub behind : List Event
  pub whole : all ≡ before ++ (told ++ behind)
  pub front : EachDeclared (SourceBefore a) before
  pub back : EachDeclared (SourceFrom z) behind

module _ (tells : Tree → List Event) (lies : (t : Tree) → IsLaidOut t → AllLie (first t) (last t) (tells t)) where
  all_from : (lo : ℕ) (ps : List Piece) → ArePlaced lo ps → EachDeclared (SourceFrom lo) (told_by tells ps)
  all_from lo [] p = tt
  all_from lo (around es ∷ ps) p =
      let x = p.0 in
      each_append (SourceFrom lo) es (told_by tells ps) (sources_from x.from x.upto lo es x.behind x.lie)
      (each_map (SourceFrom x.upto) (SourceFrom lo) (told_by tells ps) (earlier_from lo x.upto (omega (arith, x.behind, x.grows))) (all_from x.upto ps p.1))
  all_from lo (function t ∷ ps) p =
      let grows : first t < last t = laid_grows t p.1 in
      each_append (SourceFrom lo) (tells t) (told_by tells ps) (sources_from (first t) (last t) lo (tells t) p.0 (lies t p.1))
      (each_map (SourceFrom (last t)) (SourceFrom lo) (told_by tells ps) (earlier_from lo (last t) (omega (arith, p.0, grows))) (all_from (last t) ps p.2))

  around_from : (all : List Event) (lo : ℕ) (ps : List Piece) (front : List Event) → ArePlaced lo ps → EachDeclared (SourceBefore lo) front → all ≡ front ++ told_by tells ps
      → Every (λ t. IsAround all (tells t) (first t) (last t)) (trees_of ps)
  around_from all lo [] front p h e = tt
  around_from all lo (around es ∷ ps) front p h e =
      let x = p.0 in
      around_from all x.upto ps (front ++ es) p.1
      (each_append (SourceBefore x.upto) front es (each_map (SourceBefore lo) (SourceBefore x.upto) front (later_before lo x.upto (omega (arith, x.behind, x.grows))) h) (sources_before x.from x.upto es x.lie))
      (e ∙ sym (append_assoc front es (told_by tells ps)))
  around_from all lo (function t ∷ ps) front p h e =
      let grows : first t < last t = laid_grows t p.1 in (
        record {
          before = front;
          behind = told_by tells ps;
          whole = e;
          front = each_map (SourceBefore lo) (SourceBefore (first t)) front (later_before lo (first t) p.0) h;
          back = all_from (last t) ps p.2;
        },
        around_from all (last t) ps (front ++ tells t) p.2
            (each_append (SourceBefore (last t)) front (tells t) (each_map (SourceBefore lo) (SourceBefore (last t)) front (later_before lo (last t) (omega (arith, p.0, grows))) h) (sources_before (first t) (last t) (tells t) (lies t p.1)))
            (e ∙ sym (append_assoc front (tells t) (told_by tells ps))),
      )

  -- each function of a file
  pub all_around : (all : List Event) (ps : List Piece) → ArePlaced 0 ps → all ≡ told_by tells ps → Every (λ t. IsAround all (tells t) (first t) (last t)) (trees_of ps)
  all_around all ps p e = around_from all 0 ps [] p tt e

-- ---- a function

-- What has a specification in the function's body stands in it.
abbrev pub IsSourcedIn : ℕ → ℕ → Declaration → Type 0
IsSourcedIn a z d = (s : ℕ) → d.source ≡ Some s → suc a ≤ s → s < z → (suc a < d.name) × (d.name < z)

pub all_sourced : (all told : List Event) (a m z : ℕ) → IsAround all told a z → EachDeclared (IsOfFunction a m z) told → EachDeclared (λ d. (a ≤ d.name) × (d.name < z)) told → EachDeclared (IsSourcedIn a z) all
all_sourced all told a m z x declared names =
    let Q : Declaration → Type 0 = IsSourcedIn a z in
    subst (EachDeclared Q) (sym x.whole)
    (each_append Q x.before (told ++ x.behind) (each_map (SourceBefore a) Q x.before (λ d h s e lo hi. absurd (omega (arith, h s e, lo))) x.front)
    (each_append Q told x.behind (each_both (IsOfFunction a m z) (λ d. (a ≤ d.name) × (d.name < z)) Q told inside declared names)
    (each_map (SourceFrom z) Q x.behind (λ d h s e lo hi. absurd (omega (arith, h s e, hi))) x.back)))
  where
    same_token : (s : ℕ) (o : Option ℕ) → o ≡ Some s → o ≡ Some a → s ≡ a
    same_token s o e f = let g : Some s ≡ Some a = sym e ∙ f in cc

    inside : (d : Declaration) → IsOfFunction a m z d → (a ≤ d.name) × (d.name < z) → IsSourcedIn a z d
    inside d it names s e lo hi = by (is_package d.block) refl
      where
        by : (b : Bool) → is_package d.block ≡ b → (suc a < d.name) × (d.name < z)
        by true p = let x = it.itself p in let same : s ≡ a = same_token s d.source e x.1 in absurd (omega (arith, same, lo))
        by false p = let x = it.local p in (x.0, names.1)
