-- Members one by one.
use Rattle.std.proofs.Common.{◌≡◌, ◌∙◌, ℕ, zero, suc, ◌+◌, ◌<◌, Bool, true, false, cond, List, [], ◌∷◌, ◌++◌, length, map, drop, get_or, Option, Some, None, slice_get, refl, sym, ap, append_assoc, arith}
use Rattle.std.proofs.lemmas.List.{drop_more}
use Rattle.std.proofs.lemmas.Option.{slice_get_read, slice_get-map}
use Rattle.std.specs.List.{AllByRecursion}
use Rattle.std.specs.Option.{option_map, option_to_list}
use Rattle.go_tree.specs.declared.object.Declared.{Declared}
use Rattle.go_tree.specs.Declarations.{is_function}
use Rattle.go_tree.specs.Uses.{UsesView, functions_among}
use Rattle.go_typed.specs.declared.window.Window.{Window}
use Rattle.go_typed.specs.Funcs.{FuncView, tree_of}
use Rattle.go_typed.specs.Packages.{PackageView}
use Rattle.go_typed.specs.Trees.{Sort, Typed, Typeds}
use Rattle.clone_window.specs.Spans.{last_from}
use Rattle.clone_window.specs.Windows.{window_statements}
use Rattle.param_choose.specs.Ends.{ends_of}
use Rattle.param_choose.specs.Members.{Member, first_in, first_token, locals_there, member_over, member_in, members_in}
use Rattle.escape_check.specs.Shown.{unnumbered}

-- the members of windows from one of them on
members_at : (p : PackageView) (ws : List Window) (i : ℕ) (w : Window) → slice_get ws i ≡ Some w →
    members_in p (drop i ws) ≡ option_to_list (member_in p w) ++ members_in p (drop (i + 1) ws)
members_at p [] i w e = cc
members_at p (v ∷ ws) zero w e = let same : v ≡ w = cc in ap (λ x. option_to_list (member_in p x) ++ members_in p ws) same
members_at p (v ∷ ws) (suc i) w e =
    let s : suc (i + 1) ≡ suc i + 1 = omega arith in
    members_at p ws i w e ∙ ap (λ j. option_to_list (member_in p w) ++ members_in p (drop j (v ∷ ws))) s

-- as loops tell it
pub member_there : (p : PackageView) (ws : List Window) (i : ℕ) (w : Window) (f : FuncView) → i < length ws → w ≡ get_or ws i w → slice_get p.functions w.func ≡ Some f →
    members_in p (drop i ws) ≡ member_over p.uses w f.locals f.tokens (tree_of f) ∷ members_in p (drop (i + 1) ws)
member_there p ws i w f l e h =
    members_at p ws i w (slice_get_read ws (length ws) i w refl l e)
    ∙ ap (λ o. option_to_list (option_map (λ g. member_over p.uses w g.locals g.tokens (tree_of g)) o) ++ members_in p (drop (i + 1) ws)) h

pub member_missing : (p : PackageView) (ws : List Window) (i : ℕ) (w : Window) → i < length ws → w ≡ get_or ws i w → slice_get p.functions w.func ≡ None →
    members_in p (drop i ws) ≡ members_in p (drop (i + 1) ws)
member_missing p ws i w l e h =
    members_at p ws i w (slice_get_read ws (length ws) i w refl l e)
    ∙ ap (λ o. option_to_list (option_map (λ (g : FuncView). member_over p.uses w g.locals g.tokens (tree_of g)) o) ++ members_in p (drop (i + 1) ws)) h

pub sound_more : {A : Type 0} (P : A → Type 0) (xs : List A) (x : A) → AllByRecursion P xs → P x → AllByRecursion P (xs ++ x ∷ [])
sound_more P [] x h e = (e, tt)
sound_more P (y ∷ xs) x h e = (h.0, sound_more P xs x h.1 e)

-- ---- functions among objects

-- the functions of a list from one object on
pub functions_next : (fs ds : List Declared) (i : ℕ) (d : Declared) → i < length ds → (fs ++ functions_among (get_or ds i d ∷ [])) ++ functions_among (drop (i + 1) ds) ≡ fs ++ functions_among (drop i ds)
functions_next fs ds i d lt =
    let next = get_or ds i d in
    append_assoc fs (functions_among (next ∷ [])) (functions_among (drop (i + 1) ds))
    ∙ ap (λ xs. fs ++ xs) (one_more next (drop (i + 1) ds) (is_function next.entity) refl ∙ ap functions_among (sym (drop_more ds i d lt)))
  where
    one_more : (x : Declared) (xs : List Declared) (b : Bool) → is_function x.entity ≡ b → functions_among (x ∷ []) ++ functions_among xs ≡ functions_among (x ∷ xs)
    one_more x xs true is = ap (λ c. cond c (x ∷ []) [] ++ functions_among xs) is ∙ sym (ap (λ c. cond c (x ∷ functions_among xs) (functions_among xs)) is)
    one_more x xs false is = ap (λ c. cond c (x ∷ []) [] ++ functions_among xs) is ∙ sym (ap (λ c. cond c (x ∷ functions_among xs) (functions_among xs)) is)

-- what is read of a window's function, part by part
pub shown_by : (u : UsesView) (w : Window) (locals : List (Sort ℕ)) (tokens : List (Option ℕ)) (root : Typed ℕ) (ds : List Declared) (first : ℕ) (ps : Typeds ℕ) (i j : ℕ) →
    ds ≡ locals_there (slice_get u.locals w.func) → first ≡ first_token (slice_get (functions_among u.package_level) w.func) → ps ≡ window_statements root w → i ≡ first_in ps → j ≡ last_from 0 ps →
    record { window = w; locals = locals; declared = ds; first = first; tokens = tokens; statements = ps; start = 0; from = i; upto = j } ≡ unnumbered (member_over u w locals tokens root)
shown_by u w locals tokens root ds first ps i j d f s a b =
    let t = unnumbered (member_over u w locals tokens root) in
    let with : List Declared → ℕ → Typeds ℕ → ℕ → ℕ → Member ℕ = λ xs k qs m n. record { window = w; locals = locals; declared = xs; first = k; tokens = tokens; statements = qs; start = 0; from = m; upto = n } in
    ap (λ m. with ds first ps m j) a
    ∙ ap (λ n. with ds first ps (first_in ps) n) b
    ∙ ap (λ qs. with ds first qs (first_in qs) (last_from 0 qs)) s
    ∙ ap (λ xs. with xs first t.statements t.from t.upto) d
    ∙ ap (λ k. with t.declared k t.statements t.from t.upto) f

-- the row of a function
pub row_at : (fs : List FuncView) (rows : List (List ℕ)) (k : ℕ) (f : FuncView) → rows ≡ map ends_of fs → slice_get fs k ≡ Some f → slice_get rows k ≡ Some (ends_of f)
row_at fs rows k f e h = ap (λ rs. slice_get rs k) e ∙ slice_get-map ends_of fs k ∙ ap (option_map ends_of) h
