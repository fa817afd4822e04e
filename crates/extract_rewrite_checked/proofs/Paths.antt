-- The members of windows at their paths.
use Rattle.std.proofs.Common.{◌≡◌, ◌∙◌, ◌+◌, ◌-◌, Some, ap, arith}
use Rattle.std.specs.Prelude.{slice_get}
use Rattle.go_grammar.specs.Trees.{first}
use Rattle.go_rewriting.specs.Places.{range}
use Rattle.go_types.specs.Trees.{TypeTree}
use Rattle.go_typed.specs.declared.window.Window.{Window}
use Rattle.go_typed.specs.Contents.{Content, FuncContent}
use Rattle.go_typed.specs.Trees.{Typeds, none, more, skip}
use Rattle.go_typed.specs.Windows.{Range}
use Rattle.clone_window.specs.Spans.{last_from, range_over}
use Rattle.clone_window.specs.Windows.{window_statements}
use Rattle.param_choose.specs.Members.{Member, first_in, first_token, member_over}
use Rattle.escape_check.specs.Places.{file_in}
use Rattle.go_function_trees.specs.Functions.{WindowStands}
use Rattle.extract_rewrite_files.specs.Sites.{HasSite}

pub same_some : {A : Type 0} (x y : A) → Some x ≡ Some y → x ≡ y
same_some x y e = cc

range_ends : (ps : Typeds TypeTree) (r : Range) → range_over ps ≡ Some r → (first_in ps ≡ r.from) × (last_from 0 ps ≡ r.to)
range_ends none r e = absurd cc
range_ends (more p ps) r e = let same = same_some _ r e in (ap (λ (x : Range). x.from) same, ap (λ (x : Range). x.to) same)
range_ends (skip ps) r e = absurd cc

module _ (c : Content) (w : Window) (f : FuncContent) (r : Range) (is : range_over (window_statements f.tree w) ≡ Some r) (s : WindowStands c w f r) where
  abbrev pub member : Member TypeTree
  member = member_over c.uses w f.locals f.tokens f.tree

  pub first_is : member.first ≡ first s.function.declaration
  first_is =
      let named : member.first ≡ s.function.declared.name - 1 = ap first_token s.function.there in
      let begins = s.function.begins in
      omega (arith, named, begins)

  pub from_is : first s.function.declaration + r.from ≡ member.first + member.from
  from_is = let a = first_is in let b = (range_ends (window_statements f.tree w) r is).0 in omega (arith, a, b)

  pub upto_is : first s.function.declaration + r.to ≡ member.first + member.upto
  upto_is = let a = first_is in let b = (range_ends (window_statements f.tree w) r is).1 in omega (arith, a, b)

  abbrev pub site_of : HasSite c member
  site_of = record {
    file = s.function.file;
    there = ap (slice_get c.files) (ap file_in s.function.there) ∙ s.function.in_file;
    site = record {
      path = s.stands.path;
      stood = s.stands.stood;
      category = s.stands.category;
      at_path = s.stands.at_path;
      asked = s.stands.asked;
      list = s.stands.list;
      statements = s.stands.statements;
      front = s.front;
      others = s.others;
      is_list = s.run.is_list;
      has = s.run.has;
      place = s.run.place ∙ (λ j. range (from_is j) (upto_is j));
      clear = s.stands.clear s.front s.others;
    };
  }
