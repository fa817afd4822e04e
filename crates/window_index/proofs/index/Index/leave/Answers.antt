use Rattle.std.proofs.Common.{◌≡◌, ℕ, List, sym, subst}
use Rattle.std.specs.Prelude.{nat_eq}
use Rattle.go_typed.specs.declared.window.Window.{Window}
use Rattle.clone_window.specs.declared.bounds.Bounds.{Bounds}
use Rattle.clone_window.specs.Bodies.{bodies_of, same_in}
use Rattle.clone_window.specs.Fields.{field_text}
use Rattle.clone_classes.specs.Listing.{windows_of_all}
use Rattle.clone_classes.proofs.Public.{within, numbers}
use Rattle.window_index.specs.Buckets.{Bucket}
use Rattle.window_index.specs.Fitting.{Fits, FitsPackage}
use Rattle.window_index.proofs.Staying.{fits-left}
use Rattle.window_index.proofs.index.Index.leave.Goals as goal

pub returns-clause-fits : goal.returns-clause-fits
returns-clause-fits g c = λ p fits.
    let bodies = bodies_of p.functions in
    let bounds : Bounds = record { fewest = c.self.inside.min; least = c.self.inside.mass } in
    let number : Window → ℕ = g.H.WindowHash.number c.self.inside.hash p in
    let bs = c.self.inside.buckets.entries in
    let old : Fits number (same_in p) (windows_of_all bounds 0 bodies) bs = subst (FitsPackage g.H.WindowHash.number p) (sym c.self.view_is) fits in
    subst (λ (es : List Bucket). Fits number (same_in p) (windows_of_all bounds 0 bodies) es) (sym c.take_out.ensures)
    (fits-left number (same_in p) (windows_of_all bounds 0 bodies) c.args.func bs (within nat_eq numbers (field_text p.types) bodies) old)
