-- The root of a node by its fields.
use Rattle.std.proofs.Common.{◌≡◌, ◌∙◌, ℕ, Bool, true, false, List, Option, None, sym, ap}
use Rattle.std.specs.Prelude.{if◌then◌else◌}
use Rattle.go_typed.specs.declared.form.Form.{Form}
use Rattle.go_typed.specs.declared.form.Form.TheVariants as form
use Rattle.go_typed.specs.declared.node.TypedNode.{TypedNode}
use Rattle.go_typed.specs.declared.node.TypedNode.TheViews.{out-TypedNode}
use Rattle.go_typed.specs.Trees.{Sort}
use Rattle.go_typed.specs.Views.{view, views, label_at}
use Rattle.clone_window.specs.Fields.{operand}
use Rattle.clone_window.proofs.Public.{view_out}
use Rattle.param_choose.specs.Locals.{first_root, is_value, root, root_by}

-- by what its form is
root-form : (holds : Sort ℕ → Bool) (x : TypedNode) (f : Form) → (out-TypedNode x).form ≡ f →
    root holds (view x) ≡ root_by f (is_value (label_at (out-TypedNode x)).sort) (holds (operand (views (out-TypedNode x).parts.items))) (first_root holds (views (out-TypedNode x).parts.items))
root-form holds x f e =
    let n = out-TypedNode x in
    ap (root holds) (view_out x)
    ∙ ap (λ g. root_by g (is_value (label_at n).sort) (holds (operand (views n.parts.items))) (first_root holds (views n.parts.items))) e

pub root_parenthesized : (holds : Sort ℕ → Bool) (x : TypedNode) (ps : List (Option TypedNode)) (r : Option ℕ) →
    (out-TypedNode x).form ≡ form.Parenthesized → ps ≡ (out-TypedNode x).parts.items → r ≡ first_root holds (views ps) → r ≡ root holds (view x)
root_parenthesized holds x ps r f p e = e ∙ ap (λ qs. first_root holds (views qs)) p ∙ sym (root-form holds x form.Parenthesized f)

pub root_selected : (holds : Sort ℕ → Bool) (x : TypedNode) (n : ℕ) (ps : List (Option TypedNode)) (r : Option ℕ) →
    (out-TypedNode x).form ≡ form.Selector n → ps ≡ (out-TypedNode x).parts.items → r ≡ first_root holds (views ps) → r ≡ root holds (view x)
root_selected holds x n ps r f p e = e ∙ ap (λ qs. first_root holds (views qs)) p ∙ sym (root-form holds x (form.Selector n) f)

pub root_indexed : (holds : Sort ℕ → Bool) (x : TypedNode) (b : Bool) (ps qs : List (Option TypedNode)) (r : Option ℕ) →
    (out-TypedNode x).form ≡ form.Index → ps ≡ (out-TypedNode x).parts.items → b ≡ holds (operand (views ps)) → b ≡ true →
    qs ≡ (out-TypedNode x).parts.items → r ≡ first_root holds (views qs) → r ≡ root holds (view x)
root_indexed holds x b ps qs r f p h t q e =
    let n = out-TypedNode x in
    let is : holds (operand (views n.parts.items)) ≡ true = sym (h ∙ ap (λ rs. holds (operand (views rs))) p) ∙ t in
    e ∙ ap (λ rs. first_root holds (views rs)) q
    ∙ sym (root-form holds x form.Index f ∙ ap (λ a. if a then first_root holds (views n.parts.items) else None) is)

pub root_elsewhere : (holds : Sort ℕ → Bool) (x : TypedNode) (b : Bool) (ps : List (Option TypedNode)) →
    (out-TypedNode x).form ≡ form.Index → ps ≡ (out-TypedNode x).parts.items → b ≡ holds (operand (views ps)) → b ≡ false → None ≡ root holds (view x)
root_elsewhere holds x b ps f p h t =
    let n = out-TypedNode x in
    let is : holds (operand (views n.parts.items)) ≡ false = sym (h ∙ ap (λ rs. holds (operand (views rs))) p) ∙ t in
    sym (root-form holds x form.Index f ∙ ap (λ a. if a then first_root holds (views n.parts.items) else None) is)
