use Rattle.std.proofs.Common.{rules, ◌≡◌, Some, length, slice_get, refl, subst, arith}
use Rattle.std.proofs.lemmas.Option.{slice_get_read}
use Rattle.go_tokens.specs.Encoding.{IsEncodingFault}
use Rattle.go_base.specs.Gives.{Unless}
use Rattle.go_package_defs.specs.Refusals.{check_refusal}
use Rattle.go_package.specs.Reading.{IsLexedOr}
use Rattle.go_package.proofs.Files.{NoneBefore, LexedSoFar, ended_later, none_more, lexed_more, later_more, stopped}
use Rattle.go_package.proofs.read.lex_files.Goals.{in-Ok+in_ok-push-in-Ok, in-Err}
use Rattle.go_package.proofs.read.lex_files.Goals as goal

pub loop-text-preserved : goal.loop-text-preserved
loop-text-preserved c =
    let xs = c.args.texts.now in
    let i = c.loop-text.text-index in
    let x = c.text-item.result in
    let there : slice_get xs i ≡ Some x = slice_get_read xs (length xs) i x refl c.loop-text-test.true c.text-item.is in
    let at : c.loop-text.number ≡ i = c.loop-text.invariant.number in
    let r = c.in_ok-tokens.field-0 in
    let done : IsLexedOr i x r = subst (λ n. IsLexedOr n x r) at c.in_ok-tokens.ensures in
    record {
      number = omega (arith, at);
      encoding = none_more c.one_fault.ensures.none xs i x r c.loop-text.invariant.encoding there done;
      lexed = elim c.match-branch-2.branch [
        | in-Ok+in_ok-push-in-Ok w ↦ lexed_more xs i c.loop-text.files.items x w.in-Ok.tokens c.match-branch-2.files.items c.loop-text.later c.match-branch-2.later c.loop-text.invariant.lexed there (search rules) (search rules) (search rules)
        | in-Err w ↦ later_more c.one_fault.ensures.none xs i c.loop-text.files.items x w.in-Err.fault c.match-branch-2.files.items c.loop-text.later c.match-branch-2.later c.loop-text.invariant.lexed there (search rules) (search rules)
      ];
    }

pub returns-in-Some : goal.returns-in-Some
returns-in-Some c =
    let xs = c.args.texts.now in
    let ended : c.loop-text.text-index ≡ length xs = omega (arith, c.loop-text-test.false, c.loop-text.auto.text-index-end) in
    ended_later xs c.in-Some.fault (subst (NoneBefore xs) ended c.loop-text.invariant.encoding) (subst (LexedSoFar xs c.loop-text.text-index c.loop-text.files.items) c.in-Some.is c.loop-text.invariant.lexed)

pub returns-in_err-tokens : goal.returns-in_err-tokens
returns-in_err-tokens c =
    let xs = c.args.texts.now in
    let i = c.loop-text.text-index in
    let x = c.text-item.result in
    let there : slice_get xs i ≡ Some x = slice_get_read xs (length xs) i x refl c.loop-text-test.true c.text-item.is in
    let e = c.in_err-tokens.field-0.0 in
    stopped xs i x e c.from_residual.result c.loop-text.invariant.encoding there (subst (λ n. Unless (check_refusal e) (IsEncodingFault n x.bytes)) c.loop-text.invariant.number c.in_err-tokens.ensures) (search rules)
