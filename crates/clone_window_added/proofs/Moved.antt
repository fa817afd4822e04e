-- A function with other numbers of its declared types, and with other numbers of functions: its body, and its windows.
use Rattle.std.proofs.Common.{◌≡◌, ◌∙◌, ℕ, map, ap, refl, sym}
use Rattle.std.specs.Prelude.{Result, Ok, Err}
use Rattle.go_typed.specs.Contents.{FuncContent, func_renamed}
use Rattle.go_typed.specs.declared.form.Form.{Form}
use Rattle.go_typed.specs.declared.form.Form.TheVariants as form
use Rattle.go_typed.specs.declared.form.Referent.{Referent}
use Rattle.go_typed.specs.declared.window.Window.{Window}
use Rattle.go_typed.specs.Trees.{Typed, typed, Typeds, none, more, skip, mapped, all_mapped, sort_mapped, label_mapped}
use Rattle.go_types.specs.Trees.{TypeTree}
use Rattle.go_types_relations.specs.Renaming.{renamed}
use Rattle.go_exprs_elsewhere.specs.Elsewhere.{referent_moved}
use Rattle.go_exprs_rules.specs.declared.fault.TypeFault.{TypeFault}
use Rattle.go_package_defs.specs.Bodies.{Behind}
use Rattle.go_renumbering.specs.Functions.{RenamedFunctions, shifted}
use Rattle.go_heads_added.specs.Added.{Gap, beyond}
use Rattle.go_package_added.specs.OneMore.{function_moves}
use Rattle.clone_window.specs.Bodies.{Body}
use Rattle.clone_window.specs.Windows.{window_mass, windows}
use Rattle.clone_window.specs.declared.bounds.Bounds.{Bounds}
use Rattle.clone_window_added.specs.Reworded.{all_reworded, body_reworded, form_reworded, reworded}
use Rattle.clone_window_added.specs.Unchanged.{StaysBody, body_in, window_beyond}
use Rattle.clone_window_added.proofs.Classes.{in_tree}
use Rattle.clone_window_added.proofs.Placed.{label_kept, sorts_kept}
use Rattle.clone_window_added.proofs.Reworded.{window_mass_kept, windows_kept}

-- ---- trees

form_stays : (f : Form) → form_reworded (λ o. o) f ≡ f
form_stays (form.Object o) = refl
form_stays f = refl

form_twice : (r : Referent → Referent) (f : Form) → form_reworded (λ o. o) (form_reworded r f) ≡ form_reworded r f
form_twice r (form.Object o) = refl
form_twice r f = refl

module _ (h : TypeTree → TypeTree) where
  mutual
    tree_mapped : (x : Typed TypeTree) → mapped h x ≡ reworded h (λ o. o) x
    tree_mapped (typed f i j l ps) =
        ap (λ z. typed z i j (label_mapped h l) (all_mapped h ps)) (sym (form_stays f)) ∙ ap (typed (form_reworded (λ o. o) f) i j (label_mapped h l)) (row_mapped ps)

    row_mapped : (ps : Typeds TypeTree) → all_mapped h ps ≡ all_reworded h (λ o. o) ps
    row_mapped none = refl
    row_mapped (more x xs) = ap (λ z. more z (all_mapped h xs)) (tree_mapped x) ∙ ap (more (reworded h (λ o. o) x)) (row_mapped xs)
    row_mapped (skip xs) = ap skip (row_mapped xs)

  module _ (r : Referent → Referent) where
    mutual
      tree_twice : (x : Typed TypeTree) → reworded h (λ o. o) (reworded (λ t. t) r x) ≡ reworded h r x
      tree_twice (typed f i j l ps) =
          let rest = all_reworded h (λ o. o) (all_reworded (λ t. t) r ps) in
          ap (λ z. typed z i j (label_mapped h (label_mapped (λ t. t) l)) rest) (form_twice r f) ∙ ap (λ z. typed (form_reworded r f) i j (label_mapped h z) rest) (label_kept l)
          ∙ ap (typed (form_reworded r f) i j (label_mapped h l)) (row_twice ps)

      row_twice : (ps : Typeds TypeTree) → all_reworded h (λ o. o) (all_reworded (λ t. t) r ps) ≡ all_reworded h r ps
      row_twice none = refl
      row_twice (more x xs) = ap (λ z. more z (all_reworded h (λ o. o) (all_reworded (λ t. t) r xs))) (tree_twice x) ∙ ap (more (reworded h r x)) (row_twice xs)
      row_twice (skip xs) = ap skip (row_twice xs)

    body_twice : (b : Body TypeTree) → body_reworded h (λ o. o) (body_reworded (λ t. t) r b) ≡ body_reworded h r b
    body_twice b =
        ap (λ ls. let z : Body TypeTree = record { locals = map (sort_mapped h) ls; root = reworded h (λ o. o) (reworded (λ t. t) r b.root) } in z) (sorts_kept b.locals)
        ∙ ap (λ x. let z : Body TypeTree = record { locals = map (sort_mapped h) b.locals; root = x } in z) (tree_twice b.root)

renamed_body : (name : ℕ → ℕ) (f : FuncContent) → body_in (func_renamed name f) ≡ body_reworded (renamed name) (λ o. o) (body_in f)
renamed_body name f = ap (λ x. let z : Body TypeTree = record { locals = map (sort_mapped (renamed name)) f.locals; root = x } in z) (tree_mapped (renamed name) f.tree)

-- ---- functions

-- Both functions are one, with its types from the number k on behind so many others.
pub record IsOneBody (g : Gap) (k m n : ℕ) (old new : FuncContent) : Type 0 where
  pub function : Body TypeTree
  pub old_body : body_in old ≡ body_reworded (renamed (shifted k m)) (λ o. o) function
  pub new_body : body_in new ≡ body_reworded (renamed (shifted k n)) (referent_moved (function_moves g)) function

pub one_body : (g : Gap) (k m n : ℕ) (r q : Result Behind TypeFault) (x y : Behind) → StaysBody g r q → RenamedFunctions (shifted k m) r (Ok x) → RenamedFunctions (shifted k n) q (Ok y) → IsOneBody g k m n x.function y.function
one_body g k m n (Ok u) (Ok v) x y s a b =
    let old = renamed (shifted k m) in
    let new = renamed (shifted k n) in
    record {
      function = body_in u.function;
      old_body = ap body_in a.0 ∙ renamed_body (shifted k m) u.function;
      new_body =
          ap body_in b.0 ∙ renamed_body (shifted k n) v.function ∙ ap (body_reworded new (λ o. o)) s.0 ∙ body_twice new (referent_moved (function_moves g)) (body_in u.function);
    }
one_body g k m n (Ok u) (Err e) x y s a b = absurd s
one_body g k m n (Err e) (Ok v) x y s a b = absurd s
one_body g k m n (Err e) (Err f) x y s a b = absurd a

-- ---- windows

module _ (g : Gap) (k m n : ℕ) (old new : FuncContent) (one : IsOneBody g k m n old new) where
  abbrev body : Body TypeTree
  body = one.function

  pub windows_moved : (number : ℕ) (bounds : Bounds) → windows bounds (beyond g.functions number) new.tree ≡ map (window_beyond g) (windows bounds number old.tree)
  windows_moved number bounds =
      let at = beyond g.functions number in
      ap (λ (b : Body TypeTree). windows bounds at b.root) one.new_body
      ∙ windows_kept (renamed (shifted k n)) (referent_moved (function_moves g)) bounds at 0 body.root
      ∙ sym (windows_kept (renamed (shifted k m)) (λ o. o) bounds at 0 body.root)
      ∙ sym (ap (λ (b : Body TypeTree). windows bounds at b.root) one.old_body)
      ∙ in_tree (beyond g.functions) bounds number 0 old.tree

  pub masses_moved : (w : Window) → window_mass new.tree (window_beyond g w) ≡ window_mass old.tree w
  masses_moved w =
      ap (λ (b : Body TypeTree). window_mass b.root w) one.new_body
      ∙ window_mass_kept (renamed (shifted k n)) (referent_moved (function_moves g)) body.root w
      ∙ sym (window_mass_kept (renamed (shifted k m)) (λ o. o) body.root w)
      ∙ sym (ap (λ (b : Body TypeTree). window_mass b.root w) one.old_body)
