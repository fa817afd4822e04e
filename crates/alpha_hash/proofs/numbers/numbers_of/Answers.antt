use Rattle.std.proofs.Common.{◌∙◌, ◌+◌, ◌++◌, ◌∷◌, [], refl, ap}
use Rattle.std.specs.Prelude.{◌%◌, ◌^◌, nat_eq}
use Rattle.std.specs.HashMap.{get}
use Rattle.alpha_hash_defs.specs.Hash.{mix}
use Rattle.alpha_hash.specs.Shown.{shown}
use Rattle.alpha_hash.proofs.Folds.{rolled-more}
use Rattle.alpha_hash.proofs.Rows.{word-at}
use Rattle.alpha_hash.proofs.numbers.numbers_of.Goals as goal

pub loop-index-preserved : goal.loop-index-preserved
loop-index-preserved c =
    rolled-more (shown c.args.words.now) c.loop-index.index c.loop-index.fold c.loop-index.terms (get nat_eq c.loop-index.places) (get nat_eq c.term_of.new.places) c.loop-index.numbers.items c.push-in-loop-index.new.self.items
    _ c.mix-fold.result ((c.loop-index.terms + c.in_ok-terms.field-0) % 2 ^ 64) c.in_ok-terms.field-0
    (word-at c.args.words.now c.loop-index.index _ c.loop-index-test.true) c.loop-index.invariant (c.mix-fold.ensures ∙ ap (mix c.loop-index.fold) c.value_of.ensures) c.in_ok-terms.ensures.term refl c.in_ok-terms.ensures.places
    (c.in_ok-push-2.ensures.items ∙ ap (λ m. c.loop-index.numbers.items ++ m ∷ []) c.mix-in-loop-index.ensures)
