-- Members one by one.
use Rattle.std.proofs.Common.{◌≡◌, ◌∙◌, ℕ, zero, suc, ◌+◌, List, [], ◌∷◌, ◌++◌, drop, get_or, length, ◌<◌, Some, None, slice_get, refl, ap, arith}
use Rattle.std.proofs.lemmas.Option.{slice_get_read}
use Rattle.std.specs.Option.{option_map, option_to_list}
use Rattle.go_typed.specs.declared.window.Window.{Window}
use Rattle.go_typed.specs.Funcs.{FuncView, tree_of}
use Rattle.go_typed.specs.Packages.{PackageView}
use Rattle.param_choose.specs.Members.{member_over, member_in, members_in}

-- the members of windows from one of them on
members-at : (p : PackageView) (ws : List Window) (i : ℕ) (w : Window) → slice_get ws i ≡ Some w →
    members_in p (drop i ws) ≡ option_to_list (member_in p w) ++ members_in p (drop (i + 1) ws)
members-at p [] i w e = cc
members-at p (v ∷ ws) zero w e = let same : v ≡ w = cc in ap (λ x. option_to_list (member_in p x) ++ members_in p ws) same
members-at p (v ∷ ws) (suc i) w e =
    let s : suc (i + 1) ≡ suc i + 1 = omega arith in
    members-at p ws i w e ∙ ap (λ j. option_to_list (member_in p w) ++ members_in p (drop j (v ∷ ws))) s

pub member-there : (p : PackageView) (ws : List Window) (i : ℕ) (w : Window) (f : FuncView) → slice_get ws i ≡ Some w → slice_get p.functions w.func ≡ Some f →
    members_in p (drop i ws) ≡ member_over p.uses w f.locals f.tokens (tree_of f) ∷ members_in p (drop (i + 1) ws)
member-there p ws i w f e h =
    members-at p ws i w e
    ∙ ap (λ o. option_to_list (option_map (λ g. member_over p.uses w g.locals g.tokens (tree_of g)) o) ++ members_in p (drop (i + 1) ws)) h

pub member-missing : (p : PackageView) (ws : List Window) (i : ℕ) (w : Window) → slice_get ws i ≡ Some w → slice_get p.functions w.func ≡ None →
    members_in p (drop i ws) ≡ members_in p (drop (i + 1) ws)
member-missing p ws i w e h =
    members-at p ws i w e
    ∙ ap (λ o. option_to_list (option_map (λ (g : FuncView). member_over p.uses w g.locals g.tokens (tree_of g)) o) ++ members_in p (drop (i + 1) ws)) h

-- as loops tell it
pub member_there : (p : PackageView) (ws : List Window) (i : ℕ) (w : Window) (f : FuncView) → i < length ws → w ≡ get_or ws i w → slice_get p.functions w.func ≡ Some f →
    members_in p (drop i ws) ≡ member_over p.uses w f.locals f.tokens (tree_of f) ∷ members_in p (drop (i + 1) ws)
member_there p ws i w f l e h = member-there p ws i w f (slice_get_read ws (length ws) i w refl l e) h

pub member_missing : (p : PackageView) (ws : List Window) (i : ℕ) (w : Window) → i < length ws → w ≡ get_or ws i w → slice_get p.functions w.func ≡ None →
    members_in p (drop i ws) ≡ members_in p (drop (i + 1) ws)
member_missing p ws i w l e h = member-missing p ws i w (slice_get_read ws (length ws) i w refl l e) h
