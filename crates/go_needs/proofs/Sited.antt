-- Only names that stand in parts of declarations call for objects.
use Rattle.std.proofs.Common.{◌≡◌, ◌∙◌, ◌&&◌, List, [], ◌∷◌, refl, ap}
use Rattle.std.specs.Prelude.{if◌then◌else◌}
use Rattle.go_tree.specs.declared.context.Site.{Site}
use Rattle.go_tree.specs.declared.context.Site.TheVariants as site
use Rattle.go_tree.specs.Lookups.{Asked}
use Rattle.go_tree.specs.Uses.{UsesView}
use Rattle.go_scopes_lookup.specs.Sited.{is_sited, sited}
use Rattle.go_scopes_cycles.specs.Needs.{source_of}
use Rattle.go_needs.specs.declared.owners.Owner.{Owner}
use Rattle.go_needs.specs.Calls.{is_counted, call_if, call_of, with_call, calls_of, fits_if, fits_one, fits}

one_call : (u : UsesView) (all : List Owner) (a : Asked) (asks : List Asked) (s : Site) → a.it.site ≡ s → calls_of u all (if is_sited s then a ∷ asks else asks) ≡ with_call (call_if (is_counted all a.file s) u a (source_of a.meaning)) (calls_of u all asks)
one_call u all a asks site.Elsewhere e = refl
one_call u all a asks (site.Type t) e = ap (λ s. with_call (call_if (is_counted all a.file s) u a (source_of a.meaning)) (calls_of u all asks)) e
one_call u all a asks (site.Value t c alone) e = ap (λ s. with_call (call_if (is_counted all a.file s) u a (source_of a.meaning)) (calls_of u all asks)) e
one_call u all a asks (site.Right t r) e = ap (λ s. with_call (call_if (is_counted all a.file s) u a (source_of a.meaning)) (calls_of u all asks)) e

pub calls_sited : (u : UsesView) (all : List Owner) (asks : List Asked) → calls_of u all (sited asks) ≡ calls_of u all asks
calls_sited u all [] = refl
calls_sited u all (a ∷ asks) = one_call u all a (sited asks) a.it.site refl ∙ ap (with_call (call_of u all a)) (calls_sited u all asks)

one_fit : (u : UsesView) (os all : List Owner) (a : Asked) (asks : List Asked) (s : Site) → a.it.site ≡ s → fits u os all (if is_sited s then a ∷ asks else asks) ≡ (fits_if (is_counted all a.file s) u os (source_of a.meaning) && fits u os all asks)
one_fit u os all a asks site.Elsewhere e = refl
one_fit u os all a asks (site.Type t) e = ap (λ s. fits_if (is_counted all a.file s) u os (source_of a.meaning) && fits u os all asks) e
one_fit u os all a asks (site.Value t c alone) e = ap (λ s. fits_if (is_counted all a.file s) u os (source_of a.meaning) && fits u os all asks) e
one_fit u os all a asks (site.Right t r) e = ap (λ s. fits_if (is_counted all a.file s) u os (source_of a.meaning) && fits u os all asks) e

pub fits_sited : (u : UsesView) (os all : List Owner) (asks : List Asked) → fits u os all (sited asks) ≡ fits u os all asks
fits_sited u os all [] = refl
fits_sited u os all (a ∷ asks) = one_fit u os all a (sited asks) a.it.site refl ∙ ap (λ b. fits_one u os all a && b) (fits_sited u os all asks)
