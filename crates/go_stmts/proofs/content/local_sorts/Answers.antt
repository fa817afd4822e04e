use Rattle.std.proofs.Common.{◌≡◌, ◌++◌, ◌∷◌, [], length, map, ap, ◌∙◌}
use Rattle.std.proofs.lemmas.List.{map-append}
use Rattle.go_typed.specs.Views.{sort_seen, KnownSort}
use Rattle.go_stmts_defs.specs.Frames.{local_stands}
use Rattle.go_stmts_rules.specs.Seen.{locals_in}
use Rattle.go_stmts.proofs.Known.{all_more}
use Rattle.go_stmts.proofs.Contents.{numbers_more}
use Rattle.go_stmts.proofs.content.local_sorts.Goals as goal

pub loop-number-preserved : goal.loop-number-preserved
loop-number-preserved c =
    let t = c.args.types.now in
    let f = sort_seen t in
    let x = c.in_ok-sort.sort in
    let more : c.push.new.self.items ≡ c.loop-number.sorts.items ++ x ∷ [] = c.in_ok-push.ensures.items in
    record {
      known = all_more (KnownSort (length t.shapes)) c.loop-number.sorts.items c.push.new.self.items x c.loop-number.invariant.known c.in_ok-sort.ensures.known more;
      tree = numbers_more (local_stands (locals_in t c.args.locals.now)) (map f c.loop-number.sorts.items) (map f c.push.new.self.items) c.loop-number.number (f x) c.loop-number.invariant.tree c.in_ok-sort.ensures.tree
          (ap (map f) more ∙ map-append f c.loop-number.sorts.items (x ∷ []));
    }
