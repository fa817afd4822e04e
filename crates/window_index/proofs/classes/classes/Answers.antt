use Rattle.std.proofs.lemmas.Result.{IfOk-weaker}
use Rattle.clone_window.specs.Bodies.{bodies_of}
use Rattle.clone_classes.specs.Listing.{windows_of_all}
use Rattle.alpha_hash_defs.proofs.Public.{lawful-alone}
use Rattle.window_index.proofs.Members.{windows-held}
use Rattle.window_index.proofs.classes.classes.Goals as goal

pub returns : goal.returns
returns g c =
    let p = c.args.checked.now in
    let i = c.args.index.now in
    let number = g.H.WindowHash.number i.hash p in
    IfOk-weaker c.listed.result _ _
    (λ cs are. c.groups_are_the_classes.ensures number p i.bounds i.buckets c.in_ok-groups.groups.items cs.items (lawful-alone (g.H.WindowHash.number i.hash) (g.met.H.WindowHash.lawful i.hash) p) c.requires.holds.fits
    (windows-held number (windows_of_all i.bounds 0 (bodies_of p.functions)) _ c.requires.holds.all)
    (c.windows_lie_in_order.ensures p i.bounds c.requires.checked c.bounds-bounds.ensures.within.some)
    c.in_ok-groups.ensures are)
    c.listed.ensures
