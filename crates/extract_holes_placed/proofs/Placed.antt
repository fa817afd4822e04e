-- The holes of a member have sites.
use Rattle.std.proofs.Common.{◌≡◌, ◌∙◌, ℕ, ◌+◌, ◌-◌, List, [], ◌∷◌, Option, Some, sym, ap, subst, arith}
use Rattle.std.specs.Prelude.{slice_get}
use Rattle.std.specs.Option.{option_map}
use Rattle.go_grammar.specs.Trees.{first}
use Rattle.go_rewriting.specs.Places.{range}
use Rattle.go_types.specs.Trees.{TypeTree}
use Rattle.go_typed.specs.declared.window.Window.{Window}
use Rattle.go_typed.specs.Contents.{Content, FuncContent}
use Rattle.go_typed.specs.Trees.{Typeds, none, more, skip}
use Rattle.go_typed.specs.Windows.{Range}
use Rattle.clone_window.specs.Spans.{last_from, range_over}
use Rattle.clone_window.specs.Windows.{window_statements}
use Rattle.param_choose.specs.Holes.{Hole, holes}
use Rattle.param_choose.specs.Members.{Member, first_in, first_token, member_over, template_of}
use Rattle.escape_check.specs.Places.{file_in}
use Rattle.go_function_trees.specs.Functions.{WindowStands}
use Rattle.go_function_holes.specs.Holes.{LieApart, HoleOfWindow, HolesStand}
use Rattle.extract_rewrite_files.specs.Sites.{HasSite, HasHoles, HolesLie, IsHoleSite}

same_some : {A : Type 0} (x y : A) → Some x ≡ Some y → x ≡ y
same_some x y e = cc

range_ends : (ps : Typeds TypeTree) (r : Range) → range_over ps ≡ Some r → (first_in ps ≡ r.from) × (last_from 0 ps ≡ r.to)
range_ends none r e = absurd cc
range_ends (more p ps) r e = let same = same_some _ r e in (ap (λ (x : Range). x.from) same, ap (λ (x : Range). x.to) same)
range_ends (skip ps) r e = absurd cc

lie_apart : (i j : ℕ) (hs : List (Hole TypeTree)) → LieApart i hs j → HolesLie i hs j
lie_apart i j [] h = h
lie_apart i j (x ∷ hs) h = (h.0, h.1, lie_apart x.upto j hs h.2)

module _ (c : Content) (w : Window) (f : FuncContent) (r : Range) (is : range_over (window_statements f.tree w) ≡ Some r) (s : WindowStands c w f r) where
  abbrev member : Member TypeTree
  member = member_over c.uses w f.locals f.tokens f.tree

  first_is : member.first ≡ first s.function.declaration
  first_is =
      let named : member.first ≡ s.function.declared.name - 1 = ap first_token s.function.there in
      let begins = s.function.begins in
      omega (arith, named, begins)

  from_is : first s.function.declaration + r.from ≡ member.first + member.from
  from_is = let a = first_is in let b = (range_ends (window_statements f.tree w) r is).0 in omega (arith, a, b)

  upto_is : first s.function.declaration + r.to ≡ member.first + member.upto
  upto_is = let a = first_is in let b = (range_ends (window_statements f.tree w) r is).1 in omega (arith, a, b)

  abbrev site_of : HasSite c member
  site_of = record {
    file = s.function.file;
    there = ap (slice_get c.files) (ap file_in s.function.there) ∙ s.function.in_file;
    site = record {
      path = s.stands.path;
      stood = s.stands.stood;
      category = s.stands.category;
      at_path = s.stands.at_path;
      asked = s.stands.asked;
      list = s.stands.list;
      statements = s.stands.statements;
      front = s.front;
      others = s.others;
      is_list = s.run.is_list;
      has = s.run.has;
      place = s.run.place ∙ (λ j. range (from_is j) (upto_is j));
      clear = s.stands.clear s.front s.others;
    };
  }

  hole_site : (h : Hole TypeTree) → HoleOfWindow c w f r s h → IsHoleSite s.stands.category s.stands.stood member h
  hole_site h g = record {
    statement = s.front + g.number;
    part = g.hole.part;
    path = g.hole.path;
    stood = g.hole.stood;
    category = g.hole.category;
    at_path = g.hole.at_path;
    asked = g.hole.asked;
    takes = g.hole.takes;
    expression = g.hole.expression;
    begins = g.hole.begins ∙ ap (λ n. n + h.from) (sym first_is);
    ends = g.hole.ends ∙ ap (λ n. n + h.upto) (sym first_is);
    clear = g.hole.clear;
  }

  member_holes : HolesStand c w f r s → HasHoles c member
  member_holes g =
      let e = range_ends (window_statements f.tree w) r is in record {
        site = site_of;
        holes_at = λ n h t. hole_site h (g.stand n h t);
        apart = subst (λ i. HolesLie i (holes member) member.upto) (sym e.0) (subst (λ j. HolesLie r.from (holes member) j) (sym e.1) (lie_apart r.from r.to (holes member) g.apart));
      }

-- ---- the template

pub template_holes : (c : Content) (w : Window) (ws : List Window) (t : Member TypeTree) (f : FuncContent) (r : Range) (s : WindowStands c w f r) → slice_get c.functions w.func ≡ Some f → range_over (window_statements f.tree w) ≡ Some r
    → template_of c (w ∷ ws) ≡ Some t → HolesStand c w f r s → HasHoles c t
template_holes c w ws t f r s there is e g =
    let over : Option (Member TypeTree) = Some (member_over c.uses w f.locals f.tokens f.tree) in
    let own : over ≡ Some t = sym (ap (option_map (λ (f : FuncContent). member_over c.uses w f.locals f.tokens f.tree)) there) ∙ e in
    subst (HasHoles c) (same_some (member_over c.uses w f.locals f.tokens f.tree) t own) (member_holes c w f r is s g)
