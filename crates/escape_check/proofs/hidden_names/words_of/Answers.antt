use Rattle.std.proofs.Common.{arith}
use Rattle.std.specs.HashSet as set
use Rattle.go_tokens.specs.Spellings.{same_text}
use Rattle.escape_check.specs.Texts.{same_bytes}
use Rattle.escape_check.specs.Types.{TypeName}
use Rattle.escape_check.proofs.Hiding.{names_left, word_more}
use Rattle.escape_check.proofs.hidden_names.words_of.Goals as goal

pub loop-name-preserved : goal.loop-name-preserved
loop-name-preserved c = λ w.
    word_more c.args.names.now c.loop-name.name-index _ w.now (set.contains same_bytes c.loop-name.words w) (set.contains same_bytes c.insert.new.self w) _ c.loop-name-test.true
    (c.in_ok-insert.ensures.updates.0 w) (c.loop-name.invariant w)

pub returns : goal.returns
returns c = λ w.
    names_left (λ (x : TypeName). same_text x.name w.now) c.args.names.now c.loop-name.name-index (set.contains same_bytes c.loop-name.words w) _ (omega (arith, c.loop-name-test.false)) (c.loop-name.invariant w)
