use Rattle.std.proofs.Common.{◌≡◌, ◌∙◌, ◌+◌, ◌∷◌, [], suc, Some, length, slice_get, drop, drop-cons, add-one, refl, sym, ap, subst}
use Rattle.std.proofs.lemmas.Option.{slice_get_read}
use Rattle.std.proofs.Math.ListN.{drop_of_length-le}
use Rattle.extract_rewrite.specs.Reading.{IsCounted}
use Rattle.extract_rewrite.proofs.FilesRead.{read_both, goes_on, ends, stops}
use Rattle.extract_rewrite.proofs.reading.all_statements.Goals as goal

pub file_statements-requires-clause-read : goal.file_statements-requires-clause-read
file_statements-requires-clause-read c = read_both c.loop-number.number c.args.before.now c.args.files.now _ _ c.requires.read c.text_at-old.ensures c.file_at-file.ensures

pub returns-in-None : goal.returns-in-None
returns-in-None c =
    let xs = c.args.after.now in
    let i = c.loop-number.number in
    let x = c.index-after-number.result in
    let there : slice_get xs i ≡ Some x = slice_get_read xs (length xs) i x refl c.loop-number-test.true c.index-after-number.is in
    stops xs i x there (subst (IsCounted i x) c.in-None.is c.in_ok-count.ensures)

pub loop-number-preserved : goal.loop-number-preserved
loop-number-preserved c =
    let xs = c.args.after.now in
    let i = c.loop-number.number in
    let x = c.index-after-number.result in
    let here : drop i xs ≡ x ∷ drop (i + 1) xs = drop-cons xs i x c.loop-number-test.true ∙ ap (λ y. y ∷ drop (suc i) xs) (sym c.index-after-number.is) ∙ ap (λ k. x ∷ drop k xs) (sym (add-one i)) in
    goes_on xs i c.loop-number.total c.in-Some.count c.in_ok-total-in-Some.total x c.loop-number.invariant here (subst (IsCounted i x) c.in-Some.is c.in_ok-count.ensures) c.in_ok-total-in-Some.ensures

pub returns : goal.returns
returns c =
    let xs = c.args.after.now in
    let i = c.loop-number.number in
    let here : drop i xs ≡ [] = drop_of_length-le xs c.loop-number-test.false in
    ends xs i c.loop-number.total c.loop-number.invariant here
