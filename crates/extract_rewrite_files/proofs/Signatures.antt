-- The signature of the new function has few levels where an extraction is accepted.
use Rattle.std.proofs.Common.{◌≡◌, ◌∙◌, ℕ, ◌+◌, true, cond, List, [], ◌++◌, refl, sym, ap, subst, arith, eq-eqb}
use Rattle.std.specs.Prelude.{◌==◌}
use Rattle.go_base.specs.declared.Span.{Span}
use Rattle.go_tokens.specs.declared.token.Token.{Token}
use Rattle.go_tokens.specs.Files.{IsLexing}
use Rattle.go_types.specs.Trees.{TypeTree}
use Rattle.go_typed.specs.declared.window.Window.{Window}
use Rattle.go_typed.specs.Contents.{Content, content}
use Rattle.go_package_defs.specs.Checked.{IsRead}
use Rattle.go_print_laws.specs.Headers.{signature_tree}
use Rattle.edit_apply.specs.declared.edits.Edit.{Edit}
use Rattle.param_choose.specs.Choosing.{chosen_of}
use Rattle.param_choose.specs.Members.{Member}
use Rattle.escape_check.specs.Places.{file_of, sources_of}
use Rattle.extract_texts.specs.Texts.{function_for, header_of}
use Rattle.extract_files.specs.Levels.{FunctionsMayBeAppended, HasSignature}
use Rattle.extract_rewrite.specs.Answers.{texts_after}
use Rattle.extract_rewrite.specs.Edits.{edits}
use Rattle.extract_rewrite.specs.Limits.{IsWithinLimits}
use Rattle.extract_rewrite_files.specs.Behind.{FunctionsReadBehind, names_for}
use Rattle.extract_rewrite_files.specs.NewFiles.{behind_file}
use Rattle.extract_rewrite_files.specs.Signatures.{FilesHaveFronts, SignaturesAreShallow}
use Rattle.extract_rewrite_files.proofs.Accepted.{made}
use Rattle.extract_rewrite_files.proofs.Levels.{one_tree, read_there}

function_there : (c : Content) (name : List ℕ) (ws : List Window) (t : Member TypeTree) → behind_file c name ws t (file_of (sources_of c) t) ≡ function_for c name ws
function_there c name ws t = ap (λ b. cond b (function_for c name ws) []) (let yes : (file_of (sources_of c) t == file_of (sources_of c) t) ≡ true = eq-eqb (file_of (sources_of c) t) (file_of (sources_of c) t) refl in yes)

pub signatures_are_shallow : FilesHaveFronts → FunctionsReadBehind → FunctionsMayBeAppended → ((file : ℕ) (bytes : List ℕ) (ts us : List Token) (cs ds : List Span) → IsLexing file bytes ts cs → IsLexing file bytes us ds → (ts ≡ us) × (cs ≡ ds))
    → SignaturesAreShallow
signatures_are_shallow fronts functions append law p name ws t e taken calls holes written x =
    let c = content p in
    let n = file_of (sources_of (content p)) t in
    let signature = signature_tree 2 (header_of (λ x. x) (sources_of (content p)) name (names_for (content p) name ws) t (chosen_of (content p) ws)) in
    let b = fronts p name ws t taken calls (file_of (sources_of (content p)) t) holes.site.file holes.site.there in
    let same = made (content p) name ws t e taken.template x.made in
    let within : IsWithinLimits (texts_after (content p) e.edits) = x.within in
    let there = subst (λ (es : List Edit). IsWithinLimits (texts_after (content p) es)) (sym same) within in
    let f = functions p name ws t taken holes written in
    let whole = append n b.front b.one_tree (function_for (content p) name ws) f.words signature f.reads in
    let h : HasSignature n b.text.bytes signature = subst (λ y. HasSignature n y signature) (sym (b.is ∙ ap (λ y. b.front ++ y) (function_there (content p) name ws t))) whole in
    let r = read_there (texts_after (content p) (edits (content p) name ws)) there.files n 0 b.text there.read b.there in
    let is = one_tree law n b.text r.0 (subst (λ m. IsRead m b.text r.0) (let z : 0 + n ≡ n = omega arith in z) r.1) h.one_tree in
    omega (arith, h.above, is.shallow)
