-- The hashes of one more function.
use Rattle.std.proofs.Common.{◌≡◌, ◌∙◌, ℕ, ◌+◌, true, List, [], ◌∷◌, ◌++◌, map, drop, Some, slice_get, refl, sym, ap, arith}
use Rattle.std.proofs.lemmas.List.{append_assoc, map-append}
use Rattle.go_typed.specs.declared.window.Window.{Window}
use Rattle.go_typed.specs.Funcs.{FuncView}
use Rattle.go_typed.specs.Packages.{are_numbered}
use Rattle.clone_window.specs.declared.bounds.Bounds.{Bounds}
use Rattle.clone_window.specs.Windows.{windows}
use Rattle.clone_window.specs.Bodies.{body_of, bodies_of}
use Rattle.clone_classes.specs.Listing.{windows_of_all}
use Rattle.clone_classes.proofs.Public.{number-is, functions-step}
use Rattle.alpha_hash_defs.specs.Sharing.{numbered, windows_of_func}
use Rattle.alpha_hash_defs.proofs.Public.{own-windows}

numbers-of : (number : Window → ℕ) (ws : List Window) → map (λ x. x.1) (numbered number ws) ≡ map number ws
numbers-of number [] = refl
numbers-of number (w ∷ ws) = ap (λ ns. number w ∷ ns) (numbers-of number ws)

-- the windows from a function on are its own and those behind it
pub windows-split : (bounds : Bounds) (fs : List FuncView) (i : ℕ) (f : FuncView) → are_numbered 0 fs ≡ true → slice_get fs i ≡ Some f →
    windows_of_all bounds i (bodies_of (drop i fs)) ≡ windows_of_func bounds (bodies_of fs) f.number ++ windows_of_all bounds (i + 1) (bodies_of (drop (i + 1) fs))
windows-split bounds fs i f h e =
    let here : f.number ≡ i = number-is fs 0 i f h e ∙ (let z : 0 + i ≡ i = omega arith in z) in
    functions-step bounds fs i f (windows_of_all bounds i (bodies_of (drop i fs))) [] (windows bounds f.number (body_of f).root) h e refl refl
    ∙ ap (λ ws. ws ++ windows_of_all bounds (i + 1) (bodies_of (drop (i + 1) fs))) (own-windows bounds fs i f h e ∙ ap (windows_of_func bounds (bodies_of fs)) (sym here))

pub hashes-step : (number : Window → ℕ) (bounds : Bounds) (fs : List FuncView) (i : ℕ) (f : FuncView) (all old new : List ℕ) → are_numbered 0 fs ≡ true → slice_get fs i ≡ Some f →
    all ≡ old ++ map number (windows_of_all bounds i (bodies_of (drop i fs))) → new ≡ old ++ map (λ x. x.1) (numbered number (windows_of_func bounds (bodies_of fs) f.number)) →
    all ≡ new ++ map number (windows_of_all bounds (i + 1) (bodies_of (drop (i + 1) fs)))
hashes-step number bounds fs i f all old new h e a n =
    let own = windows_of_func bounds (bodies_of fs) f.number in
    let rest = windows_of_all bounds (i + 1) (bodies_of (drop (i + 1) fs)) in
    a
    ∙ ap (λ ws. old ++ map number ws) (windows-split bounds fs i f h e)
    ∙ ap (λ ns. old ++ ns) (map-append number own rest)
    ∙ sym (append_assoc old (map number own) (map number rest))
    ∙ ap (λ ns. (old ++ ns) ++ map number rest) (sym (numbers-of number own))
    ∙ ap (λ ns. ns ++ map number rest) (sym n)
