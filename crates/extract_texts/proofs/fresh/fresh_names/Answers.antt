use Rattle.std.proofs.Common.{◌∙◌, ◌-◌, ◌≢◌, length, sym}
use Rattle.escape_check.specs.Places.{sources_in}
use Rattle.extract_texts.specs.Fresh.{is_used}
use Rattle.extract_texts.proofs.Unused.{few_more, names_more, none_wanted}
use Rattle.extract_texts.proofs.fresh.fresh_names.Goals as goal

pub loop-number-preserved : goal.loop-number-preserved
loop-number-preserved c =
    let s = sources_in c.args.checked.now in
    let used = is_used s c.args.name.now in
    let n = c.loop-number.number in
    let names = c.loop-number.names.items in
    let added = c.in_ok-push_unused.ensures s (c.in_ok-identifiers.ensures s (sym c.files.ensures)) in
    let differ : length names ≢ c.args.count = λ e. c.if-len-count.false (c.len.ensures ∙ c.loop-number.names.ok.0 ∙ e) in
    record {
      few = few_more used n c.args.count names _ c.loop-number.invariant.few differ added;
      names = names_more used n c.args.count c.in-Some.room names _ _ c.loop-number.invariant.few differ c.loop-number-test.true added c.loop-number.invariant.names;
    }

pub returns-then-len-count : goal.returns-then-len-count
returns-then-len-count c =
    let used = is_used (sources_in c.args.checked.now) c.args.name.now in
    let names = c.loop-number.names.items in
    sym (none_wanted used c.loop-number.number c.args.count (c.in-Some.room - c.loop-number.number) names (sym (c.len.ensures ∙ c.loop-number.names.ok.0) ∙ c.if-len-count.true)) ∙ c.loop-number.invariant.names
