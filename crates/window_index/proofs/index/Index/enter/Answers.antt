use Rattle.std.proofs.Common.{◌≡◌, ◌∙◌, ◌+◌, ◌≤◌, ◌++◌, ℕ, List, true, false, ap, sym, subst, take}
use Rattle.std.specs.Prelude.{nat_eq}
use Rattle.std.specs.List.{AllByRecursion}
use Rattle.std.specs.List.Sorted.{IsPermutation}
use Rattle.go_typed.specs.declared.window.Window.{Window}
use Rattle.clone_window.specs.declared.bounds.Bounds.{Bounds}
use Rattle.clone_window.specs.Bodies.{bodies_of, same_in}
use Rattle.clone_window.specs.Fields.{field_text}
use Rattle.clone_classes.specs.Listing.{windows_of_all}
use Rattle.clone_classes.proofs.Public.{within, numbers}
use Rattle.alpha_hash_defs.specs.Sharing.{numbered, windows_of_func}
use Rattle.window_index.specs.Buckets.{Bucket, all_entered, held, is_of, left}
use Rattle.window_index.specs.Counting.{rivals}
use Rattle.window_index.specs.Fitting.{Fits, FitsPackage, IndexView}
use Rattle.window_index.proofs.Entering.{held-all-entered}
use Rattle.window_index.proofs.Keeping.{fits-all-entered}
use Rattle.window_index.proofs.Leaving.{all-undone}
use Rattle.window_index.proofs.Owners.{own-first, own-windows, windows-among}
use Rattle.window_index.proofs.index.Index.enter.Goals as goal

pub returns-in-Ok-clause-fits : goal.returns-in-Ok-clause-fits
returns-in-Ok-clause-fits g c =
    let p = c.args.checked.now in
    let bodies = bodies_of p.functions in
    let bounds : Bounds = record { fewest = c.self.inside.min; least = c.self.inside.mass } in
    let number : Window → ℕ = g.H.WindowHash.number c.self.inside.hash p in
    let ws = windows_of_func bounds bodies c.args.func in
    let bs = c.self.inside.buckets.entries in
    let hs : c.deref.result.now ≡ numbered number ws = c.deref.ensures.value ∙ c.in_ok-hashes.ensures in
    let old : Fits number (same_in p) (windows_of_all bounds 0 bodies) bs = subst (FitsPackage g.H.WindowHash.number p) (sym c.self.view_is) c.requires.fits in
    subst (λ (es : List Bucket). Fits number (same_in p) (windows_of_all bounds 0 bodies) es) (sym (c.in-Ok.ensures.ok ∙ ap (λ l. all_entered (same_in p) l bs) hs))
    (fits-all-entered number (same_in p) (windows_of_all bounds 0 bodies) ws bs (within nat_eq numbers (field_text p.types) bodies) old (windows-among bounds bodies c.args.func))

pub returns-in-Ok-clause-held : goal.returns-in-Ok-clause-held
returns-in-Ok-clause-held g c =
    let p = c.args.checked.now in
    let bodies = bodies_of p.functions in
    let bounds : Bounds = record { fewest = c.self.inside.min; least = c.self.inside.mass } in
    let number : Window → ℕ = g.H.WindowHash.number c.self.inside.hash p in
    let ws = windows_of_func bounds bodies c.args.func in
    let bs = c.self.inside.buckets.entries in
    let hs : c.deref.result.now ≡ numbered number ws = c.deref.ensures.value ∙ c.in_ok-hashes.ensures in
    subst (λ (i : IndexView _). IsPermutation (held i.buckets ++ numbered (g.H.WindowHash.number i.hash p) (windows_of_func i.bounds bodies c.args.func)) (held c.put_all.new.buckets.entries)) c.self.view_is
    (subst (λ (es : List Bucket). IsPermutation (held bs ++ numbered number ws) (held es)) (sym (c.in-Ok.ensures.ok ∙ ap (λ l. all_entered (same_in p) l bs) hs))
    (held-all-entered (same_in p) (numbered number ws) bs))

pub returns-in-Ok-clause-buckets : goal.returns-in-Ok-clause-buckets
returns-in-Ok-clause-buckets g c =
    let p = c.args.checked.now in
    let bodies = bodies_of p.functions in
    let bs = c.self.inside.buckets.entries in
    subst (λ (i : IndexView _). c.put_all.new.buckets.entries ≡ all_entered (same_in p) (numbered (g.H.WindowHash.number i.hash p) (windows_of_func i.bounds bodies c.args.func)) i.buckets) c.self.view_is
    (c.in-Ok.ensures.ok ∙ ap (λ l. all_entered (same_in p) l bs) (c.deref.ensures.value ∙ c.in_ok-hashes.ensures))

pub returns-in-Ok-clause-compared : goal.returns-in-Ok-clause-compared
returns-in-Ok-clause-compared g c =
    let p = c.args.checked.now in
    let bodies = bodies_of p.functions in
    let bs = c.self.inside.buckets.entries in
    subst (λ (i : IndexView _). c.put_all.new.steps.compared ≤ c.args.steps.now.compared + rivals (same_in p) (numbered (g.H.WindowHash.number i.hash p) (windows_of_func i.bounds bodies c.args.func)) i.buckets) c.self.view_is
    (subst (λ (l : List (Window × ℕ)). c.put_all.new.steps.compared ≤ c.args.steps.now.compared + rivals (same_in p) l bs) (c.deref.ensures.value ∙ c.in_ok-hashes.ensures) c.in-Ok.ensures.compared)

pub returns-clause-compared : goal.returns-clause-compared
returns-clause-compared g c =
    let p = c.args.checked.now in
    let bodies = bodies_of p.functions in
    let bs = c.self.inside.buckets.entries in
    subst (λ (i : IndexView _). c.put_all.new.steps.compared ≤ c.args.steps.now.compared + rivals (same_in p) (numbered (g.H.WindowHash.number i.hash p) (windows_of_func i.bounds bodies c.args.func)) i.buckets) c.self.view_is
    (subst (λ (l : List (Window × ℕ)). c.put_all.new.steps.compared ≤ c.args.steps.now.compared + rivals (same_in p) l bs) (c.deref.ensures.value ∙ c.in_ok-hashes.ensures) c.in-Err.ensures.compared)

pub returns-clause-err : goal.returns-clause-err
returns-clause-err g c =
    let p = c.args.checked.now in
    let bodies = bodies_of p.functions in
    let bounds : Bounds = record { fewest = c.self.inside.min; least = c.self.inside.mass } in
    let number : Window → ℕ = g.H.WindowHash.number c.self.inside.hash p in
    let ws = windows_of_func bounds bodies c.args.func in
    let bs = c.self.inside.buckets.entries in
    let xs = c.deref.result.now in
    let hs : xs ≡ numbered number ws = c.deref.ensures.value ∙ c.in_ok-hashes.ensures in
    let old : Fits number (same_in p) (windows_of_all bounds 0 bodies) bs = subst (FitsPackage g.H.WindowHash.number p) (sym c.self.view_is) c.requires.fits in
    let none : AllByRecursion (λ x. is_of c.args.func x.0 ≡ false) (held bs) = subst (λ (i : IndexView _). AllByRecursion (λ x. is_of c.args.func x.0 ≡ false) (held i.buckets)) (sym c.self.view_is) c.requires.absent in
    let own : AllByRecursion (λ x. is_of c.args.func x.0 ≡ true) xs =
    subst (λ (l : List (Window × ℕ)). AllByRecursion (λ x. is_of c.args.func x.0 ≡ true) l) (sym hs) (own-windows number bounds bodies c.args.func) in
    let part = c.in-Err.ensures.err in
    let back : c.take_out.new.buckets.entries ≡ bs =
    c.take_out.ensures
    ∙ ap (left c.args.func) part.1
    ∙ all-undone (same_in p) c.args.func (take part.0 xs) bs old.filled old.groups none (own-first (λ x. is_of c.args.func x.0 ≡ true) part.0 xs own) in
    ap (λ (es : List Bucket). record { hash = c.self.inside.hash; bounds = bounds; buckets = es }) back ∙ c.self.view_is
