use Rattle.std.proofs.Common.{◌≡◌, ◌∙◌, length, count_by, sum_by, ap}
use Rattle.std.specs.Prelude.{nat_eq}
use Rattle.std.specs.Set.{distinct_count}
use Rattle.go_typed.specs.Funcs.{tree_of}
use Rattle.go_package_defs.specs.Checked.{origins}
use Rattle.clone_replies.specs.Numbers.{has_body}
use Rattle.clone_replies.proofs.Told.{six-equal, told}
use Rattle.clone_replies.proofs.numbers.numbers_of.Goals as goal

pub returns : goal.returns
returns c = λ whole checked listed.
    let p = c.args.checked.now in
    let law = c.numbers_follow_from_the_texts.ensures in
    let hs = c.in_ok-hashes.hashes.items in
    let files : c.in_ok-files.files ≡ length p.files = c.in_ok-files.ensures ∙ ap length c.files.ensures in
    let bytes : c.in_ok-bytes.bytes ≡ sum_by (λ f. length f.tokens.text) p.files = c.in_ok-bytes.ensures ∙ ap (sum_by (λ f. length f.tokens.text)) c.files-2.ensures in
    let functions : c.in_ok-functions.functions ≡ count_by (λ f. has_body (tree_of f)) p.functions = c.in_ok-functions.ensures ∙ ap (count_by (λ f. has_body (tree_of f))) c.functions.ensures in
    let windows : c.in_ok-windows.windows ≡ length hs = c.in_ok-windows.ensures ∙ c.len.ensures ∙ c.in_ok-hashes.hashes.ok.0 in
    let distinct : c.in_ok-distinct.distinct ≡ distinct_count nat_eq hs = c.in_ok-distinct.ensures ∙ ap (distinct_count nat_eq) c.deref.ensures.value in
    let placed : length p.origins ≡ length (origins p.uses) = c.in_ok-all_placed.ensures in
    six-equal files bytes functions windows distinct c.in_ok-classes.ensures
    ∙ told (record { fewest = c.args.min; least = c.args.mass }) p whole hs c.args.classes.now c.types-types.ensures.stands.names
    (law.functions p whole c.requires.checked checked) (c.in_ok-hashes.ensures ∙ law.hashes (record { fewest = c.args.min; least = c.args.mass }) p whole c.requires.checked placed checked) listed
