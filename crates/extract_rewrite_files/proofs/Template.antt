-- The template with its holes, cut out of its file.
use Rattle.std.proofs.Common.{◌≡◌, ◌∙◌, ℕ, ◌+◌, ◌-◌, ◌<◌, List, ◌++◌, append_assoc, length, Some, refl, sym, ap, subst, arith}
use Rattle.std.specs.Prelude.{slice_get}
use Rattle.std.specs.List.{AllByRecursion}
use Rattle.go_tokens.specs.Encoding.{IsText}
use Rattle.go_tokens.specs.Lexing.{Lexes, width}
use Rattle.go_tokens.specs.Tokens.{kinds}
use Rattle.go_tokens.proofs.Public.{width-append, width-nil}
use Rattle.go_grammar.specs.declared.kind.Category.TheVariants as categories
use Rattle.go_grammar.specs.Grammar.{Derives}
use Rattle.go_rewriting.specs.Excerpts.{IsPart, Part}
use Rattle.go_rewriting.specs.Rewriting.{IsRange}
use Rattle.go_tree.specs.File.{FileTree}
use Rattle.go_tree.specs.Views.{view}
use Rattle.go_types.specs.Trees.{TypeTree}
use Rattle.go_print_laws.specs.Lexemes.{AreNames}
use Rattle.param_choose.specs.Choosing.{Choice}
use Rattle.param_choose.specs.Members.{Member}
use Rattle.escape_check.specs.Places.{Sources, file_of}
use Rattle.extract_texts.specs.Texts.{text_of, window_bytes}
use Rattle.extract_files.specs.Functions.{IsTemplateOf}
use Rattle.extract_files.specs.Holes.{Template, named}
use Rattle.extract_rewrite_files.specs.Sites.{IsHoleSite, IsSite}
use Rattle.extract_rewrite_files.proofs.HoleCuts.{HolesInRow, hole_cut}
use Rattle.extract_rewrite_files.proofs.Sites.{Known, range_some, site_range, site_run}
use Rattle.extract_rewrite_files.proofs.Splits.{Divided, divided_on, one_cut, token_of}
use Rattle.extract_rewrite_files.proofs.Texts.{inner_of}
use Rattle.extract_rewrite_files.proofs.Written.{TextsEndWell}

module _ (known : Known) (texts : TextsEndWell) (s : Sources) (m : Member TypeTree) (h : Choice TypeTree) (n : ℕ) (f : FileTree) (text : List ℕ) (is_text : IsText text f.tokens.text)
    (l : Lexes n text f.tokens.tokens f.tokens.comments) (derives : Derives (kinds f.tokens.tokens) categories.File (view f.root)) (there : slice_get s.files (file_of s m) ≡ Some f) (q : IsSite f m) where
  abbrev range : IsRange f.tokens.tokens (m.first + m.from) (m.first + m.upto) (window_bytes s m).start (window_bytes s m).end
  range = site_range known n f text l derives s m there q

  abbrev some : (window_bytes s m).start < (window_bytes s m).end
  some = range_some known n f text l derives (m.first + m.from) (m.first + m.upto) (window_bytes s m).start (window_bytes s m).end range

  low : Divided text 0 (window_bytes s m).start
  low = subst (Divided text 0) range.begins (token_of n text f.tokens.tokens f.tokens.comments l (m.first + m.from) range.first range.has_first).begins

  high : Divided text 0 (window_bytes s m).end
  high = subst (Divided text 0) range.ends (token_of n text f.tokens.tokens f.tokens.comments l (m.first + m.upto - 1) range.last range.has_last).ends

  -- the template of these names
  pub template_of : (names : List (List ℕ)) → length names ≡ length h.holes → AreNames names → 0 < (window_bytes s m).start
      → AllByRecursion (λ p. IsHoleSite q.category q.stood m p.hole) h.holes → HolesInRow s m (window_bytes s m).start (window_bytes s m).end h.holes
      → (w : Template) × IsTemplateOf s names m h w × (w.part.file ≡ n) × (w.tree ≡ q.stood)
  template_of names many are front sites row =
      let d = low in
      let e = divided_on text d.before d.behind (window_bytes s m).end d.whole high (let p = d.place in omega (arith, p, some)) in
      let pre : width d.before ≡ (window_bytes s m).start = (let p = d.place in omega (arith, p)) in
      let end : (window_bytes s m).end ≡ width d.before + width e.front = e.place in
      let both : text ≡ (d.before ++ e.front) ++ e.behind = one_cut text d.before d.behind e.front e.behind d.whole e.whole in
      let whole : text ≡ d.before ++ (e.front ++ e.behind) = both ∙ append_assoc d.before e.front e.behind in
      let wide : width (d.before ++ e.front) ≡ (window_bytes s m).end = omega (arith, end, width-append d.before e.front) in
      let run = site_run known n f text l derives m q in
      let c = hole_cut known texts s m n f text l derives there q.category q.stood run.derives (d.before ++ e.front) e.behind both h.holes names d.before e.front refl many are sites
      (subst (λ k. HolesInRow s m k (width (d.before ++ e.front)) h.holes) (sym pre) (subst (λ k. HolesInRow s m (window_bytes s m).start k h.holes) (sym wide) row)) in
      let inner = inner_of text f.tokens.text d.before e.front e.behind is_text whole (λ z. let p = d.place in let w = ap width z in omega (arith, p, w, width-nil, front)) in
      let part : Part = record { file = n; text = text; tokens = f.tokens.tokens; comments = f.tokens.comments; from = m.first + m.from; upto = m.first + m.upto; inner = e.front } in
      let here : IsRange f.tokens.tokens (m.first + m.from) (m.first + m.upto) (width d.before) (width d.before + width e.front) =
      subst (λ k. IsRange f.tokens.tokens (m.first + m.from) (m.first + m.upto) k (width d.before + width e.front)) (sym pre) (subst (IsRange f.tokens.tokens (m.first + m.from) (m.first + m.upto) (window_bytes s m).start) end range) in
      let is_part : IsPart part = record { lexes = l; before = d.before; behind = e.behind; whole = whole; range = here } in
      let w : Template = record { part = part; category = q.category; tree = q.stood; front = q.front; others = q.others; holes = c.holes; rest = c.rest } in (
        w,
        record {
          template = record {
            is_part = is_part;
            inner = c.is_text;
            scalars = inner.scalars;
            plain = inner.plain;
            items = q.list;
            statements = q.statements;
            run = run;
            place = q.place;
            holes = c.are;
            clear = c.clear (named c.holes);
          };
          bytes = ap text_of there ∙ sym is_text.encoded;
          start = sym pre;
          end = end;
          holes = c.named;
        },
        refl,
        refl,
      )
