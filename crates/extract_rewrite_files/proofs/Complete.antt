-- Each member has an edit of its own.
use Rattle.std.proofs.Common.{◌≡◌, ◌∙◌, ℕ, suc, ◌+◌, ◌-◌, ◌<◌, ◌≤◌, inl, inr, Bool, true, false, List, [], ◌∷◌, map, Some, refl, sym, ap, subst, arith, eqb-true}
use Rattle.std.specs.Prelude.{nat_eq, slice_get}
use Rattle.std.specs.List.{AllByRecursion}
use Rattle.std.proofs.lemmas.Bool.{and_parts, cases_lt}
use Rattle.std.proofs.lemmas.Bool.Decides.{nat_tests}
use Rattle.go_base.specs.declared.bytes.FileText.{FileText}
use Rattle.go_rewriting.specs.Rewriting.{IsRange}
use Rattle.go_tree.specs.File.{FileTree}
use Rattle.go_tree.specs.Units.{end_in, start_in}
use Rattle.go_tree.specs.Uses.{functions_among}
use Rattle.go_types.specs.Trees.{TypeTree}
use Rattle.go_typed.specs.declared.window.Window.{Window}
use Rattle.go_typed.specs.Contents.{Content, FuncContent}
use Rattle.go_package_defs.specs.Checked.{AreRead}
use Rattle.edit_apply.specs.declared.edits.Edit.{Edit}
use Rattle.param_choose.specs.Members.{Member, first_token}
use Rattle.escape_check.specs.Apart as tokens
use Rattle.escape_check.specs.Places.{file_in, file_of, sources_of}
use Rattle.escape_check.specs.Tokens.{has_token}
use Rattle.extract_texts.specs.Texts.{window_bytes}
use Rattle.extract_rewrite.specs.Edits.{window_edit}
use Rattle.extract_rewrite.specs.Order.{begin_together, put_all, put_in}
use Rattle.go_function_places.specs.Places.{FunctionPlace, HavePlaces}
use Rattle.go_function_places.specs.Places as places
use Rattle.extract_rewrite_files.proofs.Facts.{Fact, has_bytes, declared_there, range_of_member, tokens_ordered}
use Rattle.extract_rewrite_files.proofs.FileEdits.{bytes_file}
use Rattle.extract_rewrite_files.proofs.Functions.{in_front, place_there, window_ends}
use Rattle.extract_rewrite_files.proofs.Members.{over}
use Rattle.extract_rewrite_files.proofs.Ordered.{inside_some, same_start}
use Rattle.extract_rewrite_files.proofs.Placed.{IsIn, all_kept, put_there}
use Rattle.extract_rewrite_files.proofs.Sites.{Known}
use Rattle.extract_rewrite_files.proofs.Splits.{all_at, same_some}

-- A member's function has a place, and the member ends in it.
pub record InFunction (c : Content) (ps : List FunctionPlace) (m : Member TypeTree) : Type 0 where
  pub place : FunctionPlace
  pub there : slice_get ps m.window.func ≡ Some place
  pub file : file_of (sources_of c) m ≡ place.file
  pub first : m.first ≡ place.first
  pub ends : m.upto ≤ place.last - place.first

-- the member of a window of a function, whose place stands behind the first token of its file
pub in_function : (c : Content) (h : HavePlaces c) (w : Window) (f : FuncContent) → slice_get c.functions w.func ≡ Some f → InFunction c h.places (over c w f) × (0 < (over c w f).first)
in_function c h w f e =
    let p = place_there h.places c.functions w.func f h.statements e in
    let d = declared_there h.places (functions_among c.uses.package_level) w.func p.0 h.named p.1 in
    let name : d.0.name ≡ suc p.0.first = ap (λ x. x.1) d.2 in
    let first : (over c w f).first ≡ d.0.name - 1 = ap first_token d.1 in
    let stands = all_at (places.StandsIn c.files) h.places w.func p.0 h.stand p.1 in
    let behind = stands.behind in (
      record {
        place = p.0;
        there = p.1;
        file = ap file_in d.1 ∙ ap (λ x. x.0) d.2;
        first = omega (arith, name, first);
        ends = window_ends (p.0.last - p.0.first) f.tree w p.2;
      },
      omega (arith, name, first, behind),
    )

module _ (known : Known) (c : Content) (texts : List FileText) (read : AreRead 0 texts c.files) (h : HavePlaces c) where
  abbrev pub Placed : Member TypeTree → Type 0
  Placed m = Fact c m × InFunction c h.places m

  has : (m : Member TypeTree) (func k : ℕ) → func ≡ m.window.func → m.from ≤ k → k < m.upto → has_token func k m ≡ true
  has m func k same low high = grind (arith, nat_tests)

  -- two that begin together have a token in common
  not_together : (m n : Member TypeTree) → Placed m → Placed n → tokens.AreApart m n → file_of (sources_of c) m ≡ file_of (sources_of c) n → (window_bytes (sources_of c) m).start ≡ (window_bytes (sources_of c) n).start → ⊥
  not_together m n p q apart files starts =
      let one : p.0.place.file ≡ q.0.place.file = same_some p.0.place.file q.0.place.file (sym p.0.place.there ∙ ap (slice_get c.files) files ∙ q.0.place.there) in
      let r = range_of_member known c texts read m p.0 in
      let s = subst (λ (f : FileTree). IsRange f.tokens.tokens (n.first + n.from) (n.first + n.upto) (window_bytes (sources_of c) n).start (window_bytes (sources_of c) n).end) (sym one) (range_of_member known c texts read n q.0) in
      let ts = p.0.place.file.tokens.tokens in
      let o = tokens_ordered known c texts read m p.0 in
      let i = m.first + m.from in
      let j = n.first + n.from in
      let a : start_in (slice_get p.0.place.file.tokens.tokens (m.first + m.from)) ≡ r.first.span.start = ap start_in r.has_first in
      let b : end_in (slice_get p.0.place.file.tokens.tokens (m.first + m.from)) ≡ r.first.span.end = ap end_in r.has_first in
      let d : start_in (slice_get p.0.place.file.tokens.tokens (n.first + n.from)) ≡ s.first.span.start = ap start_in s.has_first in
      let e : end_in (slice_get p.0.place.file.tokens.tokens (n.first + n.from)) ≡ s.first.span.end = ap end_in s.has_first in
      let u = r.first_written in
      let v = s.first_written in
      let same : m.first + m.from ≡ n.first + n.from = same_start ts 0 o.0 o.1 (m.first + m.from) (n.first + n.from) (inside_some ts (m.first + m.from) r.first r.has_first) (inside_some ts (n.first + n.from) s.first s.has_first)
      (omega (arith, a, b, u)) (omega (arith, d, e, v)) (omega (arith, a, d, r.begins, s.begins, starts)) in
      let some = r.order in
      let others = s.order in
      let x = p.1 in
      let y = q.1 in
      let z : x.place.file ≡ y.place.file = sym x.file ∙ files ∙ y.file in
      elim (cases_lt m.window.func n.window.func) [
        | inl less ↦ (let front = in_front h.places m.window.func n.window.func x.place y.place h.order less x.there y.there z in omega (arith, front, same, some, x.first, x.ends, y.first))
        | inr more ↦ elim (cases_lt n.window.func m.window.func) [
          | inl less ↦ (let front = in_front h.places n.window.func m.window.func y.place x.place h.order less y.there x.there (sym z) in omega (arith, front, same, others, y.first, y.ends, x.first))
          | inr least ↦
              let func : m.window.func ≡ n.window.func = omega (arith, more, least) in
              let place : x.place ≡ y.place = same_some x.place y.place (sym x.there ∙ ap (slice_get h.places) func ∙ y.there) in
              let firsts : x.place.first ≡ y.place.first = ap (λ (k : FunctionPlace). k.first) place in
              let from : m.from ≡ n.from = omega (arith, same, firsts, x.first, y.first) in
              let no : has_token m.window.func m.from n ≡ false = apart m.window.func m.from (has m m.window.func m.from refl (omega arith) (omega (arith, some))) in
              let yes : has_token m.window.func m.from n ≡ true = has n m.window.func m.from func (omega (arith, from)) (omega (arith, from, others)) in
              absurd cc
        ]
      ]

  module _ (name : List ℕ) (ws : List Window) where
    abbrev edit : Member TypeTree → Edit
    edit m = window_edit c name ws m

    edit_file : (m : Member TypeTree) → Fact c m → (edit m).file ≡ file_of (sources_of c) m
    edit_file m p = bytes_file c m (has_bytes known c texts read m p)

    apart_edits : (m n : Member TypeTree) → Placed m → Placed n → tokens.AreApart m n → begin_together (edit n) (edit m) ≡ false
    apart_edits m n p q apart = by (begin_together (edit n) (edit m)) refl
      where
        by : (b : Bool) → begin_together (edit n) (edit m) ≡ b → begin_together (edit n) (edit m) ≡ false
        by false k = k
        by true k =
            let both = and_parts (nat_eq (edit n).file (edit m).file) (nat_eq (edit n).start (edit m).start) k in
            let files = eqb-true (edit n).file (edit m).file both.0 in
            let starts = eqb-true (edit n).start (edit m).start both.1 in
            absurd (not_together m n p q apart (sym (edit_file m p.0) ∙ sym files ∙ edit_file n q.0) (sym starts))

    apart_from : (m : Member TypeTree) (ns : List (Member TypeTree)) → Placed m → AllByRecursion Placed ns → AllByRecursion (tokens.AreApart m) ns → AllByRecursion (λ e. begin_together e (edit m) ≡ false) (map edit ns)
    apart_from m [] p q a = tt
    apart_from m (n ∷ ns) p q a = (apart_edits m n p q.0 a.0, apart_from m ns p q.1 a.1)

    pub all_in : (ds : List Edit) (ms : List (Member TypeTree)) → AllByRecursion Placed ms → tokens.AllApart ms → AllByRecursion (λ m. IsIn (edit m) (put_all ds (map edit ms))) ms
    all_in ds [] p a = tt
    all_in ds (m ∷ ms) p a = (all_kept (put_in ds (edit m)) (map edit ms) (edit m) (apart_from m ms p.0 p.1 a.0) (put_there ds (edit m)), all_in (put_in ds (edit m)) ms p.1 a.1)
