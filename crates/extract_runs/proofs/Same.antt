-- An image stays one where it is put in other words.
use Rattle.std.proofs.Common.{◌≡◌, ℕ, refl, sym, ap, ◌∙◌}
use Rattle.go_types.specs.Trees.{TypeTree}
use Rattle.go_types.specs.Relations.{Rights}
use Rattle.go_typed.specs.declared.form.Form.{Form}
use Rattle.go_typed.specs.Trees.{Label, Typed, typed, Typeds}
use Rattle.go_typed.specs.Trees as trees
use Rattle.go_meaning.specs.Values.{Value}
use Rattle.go_meaning.specs.Plans.{Plan, Give, Once}
use Rattle.go_meaning.specs.Planning.{plan}
use Rattle.extract_trees.specs.Numberings.{Numbering}
use Rattle.extract_runs.specs.Images.{Renewal, Image, Images, Listed, is_list, plan_moved}
use Rattle.go_typed.specs.declared.form.Form.TheVariants as form
use Rattle.go_meaning.specs.Planning.{sort_type, form_plan, sort_plan}
use Rattle.extract_runs.specs.Images as images
use Rattle.extract_runs.specs.Holes.{copies}
use Rattle.extract_runs.specs.Same.{IsSame, AreSame, alike, loop, constant, none, more, skip}
use Rattle.extract_runs.proofs.Plans.{one_plan, is_give, differ, no_loop}

module _ (c : Numbering) (s : ℕ → ℕ) (old new : Rights) (held : Value → ℕ → Type 0) where
  abbrev r : Renewal
  r = copies c s old new held

  given_image : {n : ℕ} {f f' : Form} {i i' j j' : ℕ} {e e' : Label TypeTree} {ps ps' : Typeds TypeTree} (p : Plan) (v : Value) → plan old f e ps ≡ Once p → plan_moved s c.local p ≡ Give v → plan new f' e' ps' ≡ Once (Give v) → Image r n (typed f i j e ps) (typed f' i' j' e' ps')
  given_image (Give w) v o m d = images.constant o (d ∙ ap Once (sym m))
  given_image p v o m d = differ is_give refl refl (sym m)

  mutual
    same_image : {n : ℕ} {t u u' : Typed TypeTree} → Image r n t u → IsSame new u u' → Image r n t u'
    same_image (images.node p single o d parts) (alike q e e' qs) = images.node p single o (e' ∙ ap Once (one_plan e d)) (same_images parts qs)
    same_image (images.node p single o d parts) (loop qs) = no_loop d
    same_image (images.node p single o d parts) (constant {v = v} e e') = given_image p v o (one_plan d e) e'
    same_image (images.list p is o d parts) (alike q e e' qs) = images.list p is o (e' ∙ ap Once (one_plan e d)) (listed_same parts qs)
    same_image (images.list p is o d parts) (loop qs) = no_loop d
    same_image (images.list p is o d parts) (constant e e') = differ is_list is refl (one_plan d e)
    same_image (images.loop parts) (alike q e e' qs) = no_loop e
    same_image (images.loop parts) (loop qs) = images.loop (same_images parts qs)
    same_image (images.loop parts) (constant e e') = no_loop e
    same_image (images.constant {v = v} o d) (alike q e e' qs) = images.constant {v = v} o (e' ∙ ap Once (one_plan e d))
    same_image (images.constant {v = v} o d) (loop qs) = no_loop d
    same_image (images.constant {v = v} o d) (constant e e') = images.constant {v = v} o (e' ∙ ap Once (one_plan e d))
    same_image (images.held {v = v} o d h) (alike q e e' qs) = images.held {v = v} o (e' ∙ ap Once (one_plan e d)) h
    same_image (images.held {v = v} o d h) (loop qs) = no_loop d
    same_image (images.held {v = v} o d h) (constant e e') = differ is_give refl refl (one_plan e d)
    same_image (images.keyed {v = v} o d k h) (alike q e e' (more (alike q1 e1 e1' us) qs)) = images.keyed {v = v} o (e' ∙ ap Once (one_plan e d)) (e1' ∙ ap Once (one_plan e1 k)) h
    same_image (images.keyed {v = v} o d k h) (alike q e e' (more (loop us) qs)) = no_loop k
    same_image (images.keyed {v = v} o d k h) (alike q e e' (more (constant e1 e1') qs)) = differ is_give refl refl (one_plan e1 k)
    same_image (images.keyed {v = v} o d k h) (loop qs) = no_loop d
    same_image (images.keyed {v = v} o d k h) (constant e e') = differ is_give refl refl (one_plan e d)

    same_images : {n : ℕ} {ts us us' : Typeds TypeTree} → Images r n ts us → AreSame new us us' → Images r n ts us'
    same_images images.none none = images.none
    same_images (images.more a b ab t ts) (more u us) = images.more a b ab (same_image t u) (same_images ts us)
    same_images (images.skip ts) (skip us) = images.skip (same_images ts us)

    pub listed_same : {n k : ℕ} {ts us us' : Typeds TypeTree} → Listed r n k ts us → AreSame new us us' → Listed r n k ts us'
    listed_same images.ends none = images.ends
    listed_same (images.value t ts) (more u us) = images.value (same_image t u) (listed_same ts us)
    listed_same (images.next a b ab un t ts) (more u us) = images.next a b ab un (same_image t u) (listed_same ts us)
    listed_same (images.left_out ts) (skip us) = images.left_out (listed_same ts us)
    listed_same (images.window le e e' w ts) us = absurd w

mutual
  pub same_as_itself : (rights : Rights) (t : Typed TypeTree) → IsSame rights t t
  same_as_itself rights (typed form.For i j e ps) = loop (all_same_as_themselves rights ps)
  same_as_itself rights (typed f i j e ps) = alike (sort_plan e.sort (form_plan rights f (sort_type e.sort) ps)) refl refl (all_same_as_themselves rights ps)

  pub all_same_as_themselves : (rights : Rights) (ps : Typeds TypeTree) → AreSame rights ps ps
  all_same_as_themselves rights trees.none = none
  all_same_as_themselves rights (trees.more p ps) = more (same_as_itself rights p) (all_same_as_themselves rights ps)
  all_same_as_themselves rights (trees.skip ps) = skip (all_same_as_themselves rights ps)
