-- What a listing keeps of windows where a function is put between others.
use Rattle.std.proofs.Common.{◌≡◌, ◌∙◌, ℕ, zero, suc, ◌+◌, ◌≤◌, false, List, [], ◌∷◌, ◌++◌, length, map, slice_get, ap, refl, sym, arith, append_assoc}
use Rattle.std.specs.Option.{option_map}
use Rattle.std.specs.List.{AllByRecursion}
use Rattle.std.proofs.lemmas.Option.{slice_get-map}
use Rattle.std.proofs.lemmas.List.{map-append}
use Rattle.go_types.specs.Relations.{Rights}
use Rattle.go_types.specs.Trees.{TypeTree}
use Rattle.go_types_relations.specs.Identity.{is_identical}
use Rattle.go_typed.specs.declared.window.Window.{Window}
use Rattle.go_exprs_elsewhere.specs.Elsewhere.{referent_moved}
use Rattle.go_heads_added.specs.Added.{Gap, beyond}
use Rattle.go_package_added.specs.OneMore.{function_moves}
use Rattle.clone_window.specs.Bodies.{Body, are_same, statements_at}
use Rattle.clone_window.specs.Fields.{field_by}
use Rattle.clone_window.specs.Masses.{masses}
use Rattle.clone_window.specs.Windows.{windows}
use Rattle.clone_window.specs.declared.bounds.Bounds.{Bounds}
use Rattle.clone_classes.specs.Listing.{windows_of_all}
use Rattle.clone_window_added.specs.Reworded.{IsRewording, StaysThere}
use Rattle.clone_window_added.specs.Unchanged.{KeepsWindows, renumbered, window_beyond, with_between}
use Rattle.clone_window_added.proofs.Classes.{classes_kept, in_tree}
use Rattle.clone_window_added.proofs.Compared.{windows_same}
use Rattle.go_typed.specs.declared.form.Referent.{Referent}
use Rattle.go_package_added.proofs.Public.{beyond_first, beyond_suc, beyond_zero, behind_it, in_front}
use Rattle.clone_window_added.proofs.Placed.{objects_apart}
use Rattle.clone_window_added.proofs.Reworded.{masses_kept, statements_there, windows_kept}

module _ (g : Gap) (f : Body TypeTree) where
  abbrev to : Body TypeTree → Body TypeTree
  to b = renumbered g b

  abbrev anew : Referent → Referent
  anew o = referent_moved (function_moves g) o

  -- ---- the functions

  pub found_between : (front rest : List (Body TypeTree)) (n : ℕ) → slice_get (map (renumbered g) front ++ f ∷ map (renumbered g) rest) (beyond (length front) n) ≡ option_map (renumbered g) (slice_get (front ++ rest) n)
  found_between [] rest n = ap (slice_get (f ∷ map (renumbered g) rest)) (beyond_first n) ∙ slice_get-map (renumbered g) rest n
  found_between (x ∷ xs) rest zero = ap (slice_get (to x ∷ (map (renumbered g) xs ++ f ∷ map (renumbered g) rest))) (beyond_zero (length xs))
  found_between (x ∷ xs) rest (suc n) = ap (slice_get (to x ∷ (map (renumbered g) xs ++ f ∷ map (renumbered g) rest))) (beyond_suc (length xs) n) ∙ found_between xs rest n

  -- ---- the windows

  module _ (bounds : Bounds) where
    one_body : (n m : ℕ) (b : Body TypeTree) → beyond g.functions n ≡ m → windows bounds m (to b).root ≡ map (window_beyond g) (windows bounds n b.root)
    one_body n m b e = windows_kept (λ t. t) anew bounds m 0 b.root ∙ ap (λ i. windows bounds i b.root) (sym e) ∙ in_tree (beyond g.functions) bounds n 0 b.root

    behind_windows : (n : ℕ) (bs : List (Body TypeTree)) → g.functions ≤ n → windows_of_all bounds (suc n) (map (renumbered g) bs) ≡ map (window_beyond g) (windows_of_all bounds n bs)
    behind_windows n [] l = refl
    behind_windows n (b ∷ bs) l =
        ap (λ ws. ws ++ windows_of_all bounds (suc (suc n)) (map (renumbered g) bs)) (one_body n (suc n) b (behind_it g.functions n l))
        ∙ ap (λ ws. map (window_beyond g) (windows bounds n b.root) ++ ws) (behind_windows (suc n) bs (omega (arith, l)))
        ∙ sym (map-append (window_beyond g) (windows bounds n b.root) (windows_of_all bounds (suc n) bs))

    all_windows : (n : ℕ) (front rest : List (Body TypeTree)) → n + length front ≡ g.functions → windows_of_all bounds n (map (renumbered g) front ++ f ∷ map (renumbered g) rest)
        ≡ map (window_beyond g) (windows_of_all bounds n front) ++ (windows bounds g.functions f.root ++ map (window_beyond g) (windows_of_all bounds g.functions rest))
    all_windows n [] rest e =
        ap (λ i. windows bounds i f.root ++ windows_of_all bounds (suc i) (map (renumbered g) rest)) (let z : n ≡ g.functions = omega (arith, e) in z)
        ∙ ap (λ ws. windows bounds g.functions f.root ++ ws) (behind_windows g.functions rest (omega arith))
    all_windows n (x ∷ xs) rest e =
        let last = windows bounds g.functions f.root ++ map (window_beyond g) (windows_of_all bounds g.functions rest) in
        ap (λ ws. ws ++ windows_of_all bounds (suc n) (map (renumbered g) xs ++ f ∷ map (renumbered g) rest)) (one_body n n x (in_front g.functions n (omega (arith, e))))
        ∙ ap (λ ws. map (window_beyond g) (windows bounds n x.root) ++ ws) (all_windows (suc n) xs rest (omega (arith, e)))
        ∙ sym (append_assoc (map (window_beyond g) (windows bounds n x.root)) (map (window_beyond g) (windows_of_all bounds (suc n) xs)) last)
        ∙ ap (λ ws. ws ++ last) (sym (map-append (window_beyond g) (windows bounds n x.root) (windows_of_all bounds (suc n) xs)))

  -- ---- sameness and masses

  rewording : (rights : Rights) → IsRewording (λ (t : TypeTree). t) anew is_identical is_identical (field_by rights) (field_by rights)
  rewording rights = record { types = λ t u. refl; members = λ t k. refl; objects = objects_apart g }

  module _ (front rest : List (Body TypeTree)) (place : length front ≡ g.functions) where
    stays : (w : Window) → StaysThere (λ (t : TypeTree). t) anew (beyond g.functions) (front ++ rest) (with_between g f front rest) w
    stays w = ap (λ a. slice_get (with_between g f front rest) (beyond a w.func)) (sym place) ∙ found_between front rest w.func

    all_stay : (ws : List Window) → AllByRecursion (λ (w : Window). Unit {0}) ws
    all_stay [] = tt
    all_stay (w ∷ ws) = (tt, all_stay ws)

    same : (rights : Rights) (w v : Window) → are_same is_identical (field_by rights) (field_by rights) (with_between g f front rest) (with_between g f front rest) (window_beyond g w) (window_beyond g v)
        ≡ are_same is_identical (field_by rights) (field_by rights) (front ++ rest) (front ++ rest) w v
    same rights w v =
        windows_same (λ t. t) anew is_identical is_identical (field_by rights) (field_by rights) (rewording rights) (beyond g.functions) (front ++ rest) (with_between g f front rest) w v (stays w) (stays v)

    pub keeps_windows : KeepsWindows g f front rest
    keeps_windows = record {
      windows = λ bounds. all_windows bounds 0 front rest (omega (arith, place));
      masses = λ w.
          ap (λ o. masses false (statements_at o (window_beyond g w))) (stays w) ∙ ap (masses false) (statements_there (λ t. t) anew (beyond g.functions) (slice_get (front ++ rest) w.func) w)
          ∙ masses_kept (λ t. t) anew false (statements_at (slice_get (front ++ rest) w.func) w);
      same = same;
      classes = λ rights ws.
          classes_kept (window_beyond g) (are_same is_identical (field_by rights) (field_by rights) (front ++ rest) (front ++ rest))
          (are_same is_identical (field_by rights) (field_by rights) (with_between g f front rest) (with_between g f front rest)) (λ w. Unit {0}) (λ w v a b. same rights w v) ws (all_stay ws);
    }
