-- The template of a package that type-checks, and the function behind its file.
use Rattle.std.proofs.Common.{◌≡◌, ◌∙◌, ℕ, ◌+◌, ◌-◌, ◌<◌, ◌≤◌, true, List, ◌++◌, length, map, Some, refl, sym, ap, subst, arith}
use Rattle.std.specs.Prelude.{slice_get}
use Rattle.std.specs.List.{AllByRecursion}
use Rattle.go_base.specs.declared.bytes.FileText.{FileText}
use Rattle.go_base.specs.Package.{most_bytes, total_bytes}
use Rattle.go_tokens.specs.declared.token.Token.{Token}
use Rattle.go_tokens.specs.Encoding.{IsText}
use Rattle.go_tokens.specs.Lexing.{Lexes, width}
use Rattle.go_tokens.specs.Tokens.{AreOrdered, kinds, span_of}
use Rattle.go_tokens.proofs.Public.{placed}
use Rattle.go_grammar.specs.Trees.{depth, depths, kind_of}
use Rattle.go_rewriting.specs.Lists.{IsRun}
use Rattle.go_rewriting.specs.Rewriting.{IsRange}
use Rattle.go_tree.specs.File.{FileTree}
use Rattle.go_tree.specs.Units.{end_in, start_in}
use Rattle.go_tree.specs.Views.{view}
use Rattle.go_types.specs.Trees.{TypeTree}
use Rattle.go_typed.specs.declared.window.Window.{Window}
use Rattle.go_typed.specs.Contents.{Content}
use Rattle.go_package_defs.specs.Checked.{AreRead}
use Rattle.go_function_headers.specs.Functions.{FunctionReads}
use Rattle.go_function_headers.proofs.Public.{function_low}
use Rattle.go_print_laws.specs.Functions.{FunctionStands, function_tree, function_words}
use Rattle.go_print_laws.specs.Headers.{HeaderCanBeWritten, signature_tree}
use Rattle.go_print_laws.specs.Lexemes.{AreNames}
use Rattle.param_choose.specs.Choosing.{HoleParameter, chosen_in, chosen_of}
use Rattle.param_choose.specs.Holes.{Hole, holes}
use Rattle.param_choose.specs.Locals.{is_array}
use Rattle.param_choose.specs.Members.{Member, member_of, members_of, template_of}
use Rattle.escape_check.specs.Places.{file_of, sources_of}
use Rattle.escape_check.specs.Types.{declared_text}
use Rattle.extract_texts.specs.Fresh.{AreEnough}
use Rattle.extract_texts.specs.Texts.{function_among, function_with, header_of, hole_bytes, variable_names, window_bytes}
use Rattle.extract_files.specs.Functions.{ExtractedFunctionsRead, ExtractedFunctionsStand, extracted_function}
use Rattle.extract_files.specs.Holes.{IsTemplate, Template, named_trees, named_words}
use Rattle.extract_rewrite_files.specs.Behind.{HasTemplate, ReadsBehind, StandsBehind, names_for, signature_levels}
use Rattle.extract_rewrite_files.proofs.CheckedFiles.{HasText}
use Rattle.extract_rewrite_files.proofs.Depths.{KeepsDepth, lists_statements, lists_them_all, named_low, two_above}
use Rattle.extract_rewrite_files.proofs.Enough.{has_room, one_short}
use Rattle.extract_rewrite_files.proofs.Facts.{Fact, file_read, has_bytes, lexes_of, some_before}
use Rattle.extract_rewrite_files.specs.Sites.{HasHoles, IsHoleSite}
use Rattle.extract_rewrite_files.proofs.HoleCuts.{HolesInRow, hole_range}
use Rattle.extract_rewrite_files.proofs.Ordered.{inside_some, starts_rise}
use Rattle.extract_rewrite_files.proofs.Rows.{Row, all_parameters, bytes_row, count, each_place, row_of}
use Rattle.extract_rewrite_files.proofs.Sites.{Known, range_some, site_range, site_run}
use Rattle.extract_rewrite_files.proofs.Splits.{all_to, same_some}
use Rattle.extract_rewrite_files.proofs.Template as template
use Rattle.extract_rewrite_files.proofs.Written.{TextsEndWell}

module _ (known : Known) (texts : TextsEndWell) (enough : AreEnough) (keeps : KeepsDepth) (c : Content) (files : List FileText) (read : AreRead 0 files c.files)
    (small : total_bytes files ≤ most_bytes) (name : List ℕ) (ws : List Window) (t : Member TypeTree) (there : template_of c ws ≡ Some t) (own : member_of c t.window ≡ Some t) (behind : 0 < t.first) (q : HasHoles c t) where
  abbrev fact : Fact c t
  fact = record { own = own; place = q.site; behind = behind }

  abbrev n : ℕ
  n = file_of (sources_of c) t

  abbrev f : FileTree
  f = q.site.file

  abbrev here : HasText files n 0 f
  here = file_read known c files read n f q.site.there

  abbrev text : List ℕ
  text = here.read.lexing.text

  abbrev lexed : Lexes n text f.tokens.tokens f.tokens.comments
  lexed = lexes_of known c files read n f here

  abbrev ts : List Token
  ts = f.tokens.tokens

  ordered : AreOrdered 0 (map span_of ts) (width text)
  ordered = (placed n text ts f.tokens.comments (width text) lexed refl).tokens

  abbrev range : IsRange ts (t.first + t.from) (t.first + t.upto) (window_bytes (sources_of c) t).start (window_bytes (sources_of c) t).end
  range = site_range known n f text lexed here.read.tree.derives (sources_of c) t q.site.there q.site.site

  abbrev Sited : Hole TypeTree → Type 0
  Sited x = IsHoleSite q.site.site.category q.site.site.stood t x

  sites : AllByRecursion Sited (holes t)
  sites = each_place Sited (holes t) q.holes_at

  chosen : chosen_of c ws ≡ chosen_in (is_array c.rights) (Some t) (members_of c ws)
  chosen = ap (λ o. chosen_in (is_array c.rights) o (members_of c ws)) there

  abbrev parameters : List (HoleParameter TypeTree)
  parameters = (chosen_of c ws).holes

  abbrev Parameter : HoleParameter TypeTree → Type 0
  Parameter p = Sited p.hole

  parameter_sites : AllByRecursion Parameter parameters
  parameter_sites = subst (λ h. AllByRecursion Parameter h.holes) (sym chosen) (all_parameters (members_of c ws) t Sited 0 (holes t) sites)

  run : IsRun (kinds ts) q.site.site.category q.site.site.stood q.site.site.front q.site.site.others q.site.site.list
  run = site_run known n f text lexed here.read.tree.derives t q.site.site

  abbrev Ranged : HoleParameter TypeTree → Type 0
  Ranged p = IsRange ts (t.first + p.hole.from) (t.first + p.hole.upto) (hole_bytes (sources_of c) t p.hole).start (hole_bytes (sources_of c) t p.hole).end

  ranges : AllByRecursion Ranged parameters
  ranges = all_to {P = Parameter} {Q = Ranged} (λ p k. hole_range known texts (sources_of c) t n f text lexed here.read.tree.derives q.site.there q.site.site.category q.site.site.stood run.derives p.hole k) parameters parameter_sites

  rows : HolesInRow (sources_of c) t (window_bytes (sources_of c) t).start (window_bytes (sources_of c) t).end parameters
  rows =
      let r = range in
      let starts : start_in (slice_get ts (t.first + t.from)) ≡ (window_bytes (sources_of c) t).start = ap start_in r.has_first ∙ r.begins in
      let ends : end_in (slice_get ts (t.first + t.upto - 1)) ≡ (window_bytes (sources_of c) t).end = ap end_in r.has_last ∙ r.ends in
      let inside = inside_some ts (t.first + t.upto - 1) r.last r.has_last in
      bytes_row (members_of c ws) t (sources_of c) ts (width text) (window_bytes (sources_of c) t).end ordered parameters (window_bytes (sources_of c) t).start t.from t.upto
      (λ k u v. let le = starts_rise ts 0 (width text) ordered (t.first + t.from) k u v in omega (arith, le, starts)) (omega (arith, inside)) (omega (arith, ends)) ranges
      (subst (λ h. Row (members_of c ws) t t.from t.upto h.holes) (sym chosen) (row_of (members_of c ws) t 0 t.from (holes t) t.upto q.apart))

  many : length (names_for c name ws) ≡ length (chosen_of c ws).holes
  many =
      let b = has_bytes known c files read t fact in
      let few = count (members_of c ws) t (sources_of c) parameters (window_bytes (sources_of c) t).start (window_bytes (sources_of c) t).end (let some = b.some in omega (arith, some)) rows
      (all_to {P = Ranged} {Q = λ p. (hole_bytes (sources_of c) t p.hole).start < (hole_bytes (sources_of c) t p.hole).end}
      (λ p k. range_some known n f text lexed here.read.tree.derives (t.first + p.hole.from) (t.first + p.hole.upto) (hole_bytes (sources_of c) t p.hole).start (hole_bytes (sources_of c) t p.hole).end k) parameters ranges) in
      let short = one_short files n here.text here.there in
      let same : b.file ≡ f = same_some b.file f (sym b.there ∙ q.site.there) in
      let long : length b.file.tokens.text ≡ length here.text.bytes = ap (λ (g : FileTree). length g.tokens.text) same ∙ ap length here.read.bytes in
      let within = b.within in
      enough (sources_of c) name (length parameters) (has_room files c.files (length parameters) read small (omega (arith, few, short, long, within, small)))

  listed : lists_statements (kind_of q.site.site.stood) ≡ true
  listed = lists_them_all q.site.site.category q.site.site.stood q.site.site.list q.site.site.front q.site.site.statements q.site.site.is_list

  -- the node of the template's statements lies below two others
  node_low : depth q.site.site.stood ≤ 99
  node_low =
      let r = two_above known.subtrees (kinds ts) q.site.site.path (view f.root) q.site.site.stood here.read.tree.derives q.site.site.at_path listed in
      let all = here.read.tree.shallow in
      omega (arith, r, all)

  trees_low : (w : Template) → IsTemplate w → w.tree ≡ q.site.site.stood → depths (named_trees w) ≤ 98
  trees_low w i same =
      named_low keeps w.part.tokens w.category w.tree (width i.is_part.before) w.part.from w.front w.others w.holes (subst (λ z. depth z ≤ 99) (sym same) node_low)
      (subst (λ z. lists_statements (kind_of z) ≡ true) (sym same) listed) i.holes

  -- the template as a part of its file
  pub template_for : AreNames (names_for c name ws) → HasTemplate c name ws t
  template_for names =
      let is_text : IsText text f.tokens.text = subst (IsText text) (sym here.read.bytes) here.read.lexing.is_text in
      let r = template.template_of known texts (sources_of c) t (chosen_of c ws) n f text is_text lexed here.read.tree.derives q.site.there q.site.site (names_for c name ws) many names
      (some_before known c files read t fact) parameter_sites rows in
      record {
        template = r.0;
        is_template = (r.1, r.2);
        low = trees_low r.0 r.1.template r.3;
        shallow = λ low. function_low (extracted_function (sources_of c) name (names_for c name ws) t (chosen_of c ws)) (length (named_words r.0)) (named_trees r.0) low (trees_low r.0 r.1.template r.3);
      }

  pub stands_behind : ExtractedFunctionsStand → HeaderCanBeWritten (declared_text (sources_of c)) (header_of (λ x. x) (sources_of c) name (names_for c name ws) t (chosen_of c ws))
      → AreNames (variable_names (sources_of c) t ((chosen_of c ws).assigned ++ (chosen_of c ws).declared)) → AreNames (names_for c name ws)
      → signature_levels c name ws t ≤ 99 → StandsBehind c name ws t
  stands_behind law header returned names low =
      let r = template_for names in
      let words = function_words (declared_text (sources_of c)) (extracted_function (sources_of c) name (names_for c name ws) t (chosen_of c ws)) (named_words r.template) in
      let tree = function_tree (extracted_function (sources_of c) name (names_for c name ws) t (chosen_of c ws)) (length (named_words r.template)) (named_trees r.template) in
      let stands = law (sources_of c) name (names_for c name ws) t (chosen_of c ws) r.template header returned r.is_template.0 (r.shallow low) in
      record {
        template = r.template;
        is_template = r.is_template;
        stands = subst (λ b. FunctionStands n b words tree) (sym (ap (λ o. function_among c name o (chosen_of c ws)) there))
            (subst (λ k. FunctionStands k (function_with (λ x. x) (sources_of c) name (names_for c name ws) t (chosen_of c ws)) words tree) r.is_template.1 stands);
      }

  pub reads_behind : ExtractedFunctionsRead → HeaderCanBeWritten (declared_text (sources_of c)) (header_of (λ x. x) (sources_of c) name (names_for c name ws) t (chosen_of c ws))
      → AreNames (variable_names (sources_of c) t ((chosen_of c ws).assigned ++ (chosen_of c ws).declared)) → AreNames (names_for c name ws) → ReadsBehind c name ws t
  reads_behind law header returned names =
      let r = template_for names in
      let words = function_words (declared_text (sources_of c)) (extracted_function (sources_of c) name (names_for c name ws) t (chosen_of c ws)) (named_words r.template) in
      let signature = signature_tree 2 (header_of (λ x. x) (sources_of c) name (names_for c name ws) t (chosen_of c ws)) in
      let reads = law (sources_of c) name (names_for c name ws) t (chosen_of c ws) r.template header returned r.is_template.0 r.low in
      record {
        words = words;
        reads = subst (λ b. FunctionReads n b words signature) (sym (ap (λ o. function_among c name o (chosen_of c ws)) there))
            (subst (λ k. FunctionReads k (function_with (λ x. x) (sources_of c) name (names_for c name ws) t (chosen_of c ws)) words signature) r.is_template.1 reads);
      }
