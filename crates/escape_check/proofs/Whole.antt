-- All refusals of windows, by what they are about and by members as the program holds them.
use Rattle.std.proofs.Common.{◌≡◌, ◌∙◌, ℕ, List, ◌++◌, map, Option, Some, None, refl, sym, ap}
use Rattle.go_types.specs.Tables.{type_of}
use Rattle.go_typed.specs.declared.window.Window.{Window}
use Rattle.go_typed.specs.Contents.{content}
use Rattle.go_typed.specs.Funcs.{FuncView, tree_of}
use Rattle.go_typed.specs.Packages.{PackageView}
use Rattle.param_choose.specs.Choosing.{choice}
use Rattle.param_choose.specs.Members.{Member, member_over}
use Rattle.param_choose.specs.Shown.{array_in}
use Rattle.escape_check.specs.declared.member.Member.{Member as Found}
use Rattle.escape_check.specs.Places.{Refused, first_refused, or_refused, sources_in}
use Rattle.escape_check.specs.Refusals.{escape_refusals, name_refusals, refused_by, site_refusals, statement_refusals}
use Rattle.escape_check.specs.Shown.{IsSound, member_view, unnumbered}
use Rattle.escape_check.proofs.Alike.{first_both}
use Rattle.escape_check.proofs.Unnumbered.{escapes_unnumbered, names_unnumbered, sites_unnumbered, statements_unnumbered}

or_regrouped : (x y z : Option Refused) → or_refused (or_refused x y) z ≡ or_refused x (or_refused y z)
or_regrouped None y z = refl
or_regrouped (Some x) y z = refl

-- those that don't rest on what is handed over
abbrev pub early : PackageView → List ℕ → List (Member ℕ) → Option Refused
early p w vs =
    or_refused (first_refused (statement_refusals (sources_in p) vs))
    (or_refused (first_refused (escape_refusals (sources_in p) (content p).functions vs)) (first_refused (name_refusals (sources_in p) w vs)))

-- the others
abbrev pub late : PackageView → List (Member ℕ) → Member ℕ → List (Member ℕ) → Member ℕ → Option Refused
late p ms t vs v = first_refused (site_refusals (type_of p.types.shapes) (sources_in p) vs v (choice (array_in p.types) ms t))

by-parts : (p : PackageView) (w : List ℕ) (ms : List (Member ℕ)) (t : Member ℕ) → refused_by p w ms t ≡ or_refused (early p w ms) (late p ms t ms t)
by-parts p w ms t =
    let s = sources_in p in
    let xs = statement_refusals s ms in
    let ys = escape_refusals s (content p).functions ms in
    let zs = name_refusals s w ms in
    let last = late p ms t ms t in
    first_both (xs ++ ys ++ zs) (site_refusals (type_of p.types.shapes) s ms t (choice (array_in p.types) ms t))
    ∙ ap (λ o. or_refused o last) (first_both (xs ++ ys) zs)
    ∙ ap (λ o. or_refused (or_refused o (first_refused zs)) last) (first_both xs ys)
    ∙ ap (λ o. or_refused o last) (or_regrouped (first_refused xs) (first_refused ys) (first_refused zs))

early-unnumbered : (p : PackageView) (w : List ℕ) (ms : List (Member ℕ)) → early p w (map unnumbered ms) ≡ early p w ms
early-unnumbered p w ms =
    let s = sources_in p in
    let fs = (content p).functions in
    let us = map unnumbered ms in
    ap (λ xs. or_refused (first_refused xs) (or_refused (first_refused (escape_refusals s fs us)) (first_refused (name_refusals s w us)))) (statements_unnumbered s ms)
    ∙ ap (λ ys. or_refused (first_refused (statement_refusals s ms)) (or_refused (first_refused ys) (first_refused (name_refusals s w us)))) (escapes_unnumbered s fs ms)
    ∙ ap (λ zs. or_refused (first_refused (statement_refusals s ms)) (or_refused (first_refused (escape_refusals s fs ms)) (first_refused zs))) (names_unnumbered s w ms)

late-unnumbered : (p : PackageView) (ms : List (Member ℕ)) (t : Member ℕ) → late p ms t (map unnumbered ms) (unnumbered t) ≡ late p ms t ms t
late-unnumbered p ms t = ap first_refused (sites_unnumbered (type_of p.types.shapes) (sources_in p) ms t (choice (array_in p.types) ms t))

pub whole-is : (p : PackageView) (w : List ℕ) (ms : List (Member ℕ)) (t : Member ℕ) (vs : List (Member ℕ)) (v : Member ℕ) → vs ≡ map unnumbered ms → v ≡ unnumbered t →
    refused_by p w ms t ≡ or_refused (early p w vs) (late p ms t vs v)
whole-is p w ms t vs v e h =
    by-parts p w ms t
    ∙ ap (λ o. or_refused o (late p ms t ms t)) (sym (early-unnumbered p w ms))
    ∙ ap (or_refused (early p w (map unnumbered ms))) (sym (late-unnumbered p ms t))
    ∙ ap (λ us. or_refused (early p w us) (late p ms t us (unnumbered t))) (sym e)
    ∙ ap (λ u. or_refused (early p w vs) (late p ms t vs u)) (sym h)

-- ---- what was found

pub found_early : (p : PackageView) (w : List ℕ) (ms : List (Member ℕ)) (t : Member ℕ) (vs : List (Member ℕ)) (r : Refused) → vs ≡ map unnumbered ms → Some r ≡ early p w vs →
    Some r ≡ refused_by p w ms t
found_early p w ms t vs r e f = sym (whole-is p w ms t vs (unnumbered t) e refl ∙ ap (λ o. or_refused o (late p ms t vs (unnumbered t))) (sym f))

pub found_late : (p : PackageView) (w : List ℕ) (ms : List (Member ℕ)) (t : Member ℕ) (vs : List (Member ℕ)) (v : Member ℕ) (o : Option Refused) → vs ≡ map unnumbered ms → v ≡ unnumbered t →
    None ≡ early p w vs → o ≡ late p ms t vs v → o ≡ refused_by p w ms t
found_late p w ms t vs v o e h n s = s ∙ sym (whole-is p w ms t vs v e h ∙ ap (λ x. or_refused x (late p ms t vs v)) (sym n))

-- the template as the program holds it
pub template_shown : (p : PackageView) (m : Found) (w : Window) (f : FuncView) → IsSound p m → m.window ≡ w → m.func.now ≡ f →
    member_view m ≡ unnumbered (member_over p.uses w f.locals f.tokens (tree_of f))
template_shown p m w f s e h =
    s.shown
    ∙ ap (λ x. unnumbered (member_over p.uses x m.func.now.locals m.func.now.tokens (tree_of m.func.now))) e
    ∙ ap (λ (g : FuncView). unnumbered (member_over p.uses w g.locals g.tokens (tree_of g))) h
