-- A copy is an image.
use Rattle.std.proofs.Common.{◌≡◌, ℕ, zero, suc, refl, sym, ap, ◌∙◌, arith, Option, Some, None}
use Rattle.std.specs.Prelude.{Bool, true, false}
use Rattle.go_types.specs.Trees.{TypeTree}
use Rattle.go_types.specs.Relations.{Rights}
use Rattle.go_types_relations.specs.Renaming.{renamed}
use Rattle.go_typed.specs.declared.form.Form.{Form}
use Rattle.go_typed.specs.declared.form.Form.TheVariants as form
use Rattle.go_typed.specs.Trees.{Sort, Constant, Label, Typed, typed, Typeds, none, more, skip, sort_of, sort_mapped, all_mapped}
use Rattle.go_meaning.specs.Values.{Value, const_value}
use Rattle.go_meaning.specs.Plans.{Plan, Inner, Sequence, CaseOf, Otherwise, Once}
use Rattle.go_meaning.specs.Planning.{sort_type, form_plan, sort_plan, plan}
use Rattle.clone_window.specs.Masses.{is_expression, is_hole, is_inside}
use Rattle.go_typed.specs.Trees as trees
use Rattle.extract_trees.specs.Numberings.{Numbering, node_numbered, sort_over}
use Rattle.extract_trees.specs.Copied.{parameter_node, parameter_at, copy_over, copied, all_copied, window_copied}
use Rattle.go_meaning_simulation.specs.Seen.{seen}
use Rattle.go_meaning_simulation.proofs.Public.{sight}
use Rattle.extract_runs.specs.Quiet.{IsKeyed, IsQuiet, AreQuiet}
use Rattle.extract_runs.proofs.Seeing.{hole_expression, copied_seen}
use Rattle.extract_runs.specs.Images.{Renewal, Image, Images, Listed, is_list, values_in, plan_moved}
use Rattle.extract_runs.specs.Images as images
use Rattle.extract_runs.specs.Renumbering.{Renumbers}
use Rattle.extract_runs.specs.Holes.{no_window, never, renewal, copies, HasParameter, IsNoKey, IsValue, HasHoles, HaveHoles}
use Rattle.extract_runs.proofs.Numbered.{node_plan}

list_stays : (s local : ℕ → ℕ) (p : Plan) → is_list p ≡ true → plan_moved s local p ≡ p
list_stays s local Sequence e = refl
list_stays s local (CaseOf n) e = refl
list_stays s local Otherwise e = refl
list_stays s local p e = absurd cc

-- ---- a node with other numbers

module _ (r : Renewal) {n : ℕ} {f f' : Form} {i i' j j' : ℕ} {e e' : Label TypeTree} {ps qs : Typeds TypeTree} (parts : Images r n ps qs) (rows : (k : ℕ) → Listed r n k ps qs) where
  pub by_plan : (p : Plan) → plan r.old f e ps ≡ Once p → plan r.new f' e' qs ≡ Once (plan_moved r.functions r.local p) → (b : Bool) → is_list p ≡ b → Image r n (typed f i j e ps) (typed f' i' j' e' qs)
  by_plan p old new false is = images.node p is old new parts
  by_plan p old new true is = images.list p is old (new ∙ ap Once (list_stays r.functions r.local p is)) (rows (values_in p))

module _ (c : Numbering) (s : ℕ → ℕ) (old new : Rights) (g : Renumbers c s old new) (held : Value → ℕ → Type 0) (windows : Typeds TypeTree → Typeds TypeTree → Type 0) (gone : ℕ → Bool) where
  abbrev any : Renewal
  any = renewal c s old new held windows gone

  -- that is no element for a field, where its plan sees its parts as they were
  pub plan_image : {n : ℕ} {i j : ℕ} (l : Label TypeTree) (ps qs : Typeds TypeTree) (f : Form) → ((t : TypeTree) → form_plan new f t qs ≡ form_plan new f t (all_mapped (renamed c.type) ps)) → Images any n ps qs →
      ((k : ℕ) → Listed any n k ps qs) → IsNoKey c held f → Image any n (typed f i j l ps) (node_numbered c f i j l qs)
  plan_image l ps qs (form.Keyed m) sees parts rows k = absurd k
  plan_image l ps qs form.For sees parts rows k = images.loop parts
  plan_image l ps qs f sees parts rows k = by_plan any parts rows (sort_plan l.sort (form_plan old f (sort_type l.sort) ps)) refl (ap Once (node_plan c s old new g ps qs f sees l)) _ refl

  pub numbered_image : {n : ℕ} {i j : ℕ} (l : Label TypeTree) (ps qs : Typeds TypeTree) → seen qs ≡ seen (all_mapped (renamed c.type) ps) → Images any n ps qs → ((k : ℕ) → Listed any n k ps qs) →
      (f : Form) → IsNoKey c held f → Image any n (typed f i j l ps) (node_numbered c f i j l qs)
  numbered_image l ps qs same parts rows f k = plan_image l ps qs f (λ t. sight new qs (all_mapped (renamed c.type) ps) same f t) parts rows k

  -- an element for a field whose value is no hole, or that has no value
  pub keyed_numbered : {n i j m : ℕ} (l : Label TypeTree) (ps qs : Typeds TypeTree) → seen qs ≡ seen (all_mapped (renamed c.type) ps) → Images any n ps qs → (e : Label TypeTree) → e.sort ≡ sort_mapped (renamed c.type) l.sort → {i' j' : ℕ} → Image any n (typed (form.Keyed m) i j l ps) (typed (form.Keyed m) i' j' e qs)
  keyed_numbered {m = m} l ps qs same parts e is = images.node (sort_plan l.sort Inner) (no_list l.sort) refl (ap (λ x. Once (sort_plan x Inner)) is ∙ ap Once (node_plan c s old new g ps qs (form.Keyed m) (λ t. sight new qs (all_mapped (renamed c.type) ps) same (form.Keyed m) t) l)) parts
    where
      no_list : (x : Sort TypeTree) → is_list (sort_plan x Inner) ≡ false
      no_list (Constant t v) = refl
      no_list (trees.OpenConstant v) = refl
      no_list x = refl

  pub no_key_sort : (f : Form) (x : Sort TypeTree) (qs : Typeds TypeTree) → IsNoKey c held f → sort_over f x qs ≡ x
  no_key_sort (form.Keyed m) x qs k = absurd k
  no_key_sort f x qs k = refl

module _ (c : Numbering) (s : ℕ → ℕ) (old new : Rights) (g : Renumbers c s old new) (held : Value → ℕ → Type 0) where
  abbrev r : Renewal
  r = copies c s old new held

  -- ---- holes

  expression_plan : (rights : Rights) (f : Form) (e : Label TypeTree) (ps : Typeds TypeTree) → is_expression f ≡ true → plan rights f e ps ≡ Once (sort_plan e.sort (form_plan rights f (sort_type e.sort) ps))
  expression_plan rights form.For e ps is = absurd cc
  expression_plan rights f e ps is = refl

  hole_image : {n i j i' j' : ℕ} (f : Form) (e : Label TypeTree) (ps : Typeds TypeTree) → is_expression f ≡ true → (p : ℕ) → HasParameter c held e.sort p → Image r n (typed f i j e ps) (parameter_node c p i' j' e.sort)
  hole_image {n = n} {i = i} {j = j} {i' = i'} {j' = j'} f e ps ex p h = by_sort e.sort refl h
    where
      by_sort : (x : Sort TypeTree) → e.sort ≡ x → HasParameter c held x p → Image r n (typed f i j e ps) (parameter_node c p i' j' x)
      by_sort (Constant t v) is h = images.held {v = const_value v} (expression_plan old f e ps ex ∙ ap (λ y. Once (sort_plan y (form_plan old f (sort_type e.sort) ps))) is) refl h
      by_sort (trees.Nothing) is h = absurd h
      by_sort x is h = absurd h

  module _ {n i j m : ℕ} (l : Label TypeTree) (f1 : Form) (i1 j1 : ℕ) (l1 : Label TypeTree) (us us' ps qs : Typeds TypeTree) (is : l.sort ≡ l1.sort) (key : IsNoKey c held f1) where
    keyed_over : (o : Option ℕ) → ((p : ℕ) → o ≡ Some p → HasParameter c held l1.sort p) → seen (more (copy_over c o f1 i1 j1 l1 us') qs) ≡ seen (all_mapped (renamed c.type) (more (typed f1 i1 j1 l1 us) ps)) → Images r n (more (typed f1 i1 j1 l1 us) ps) (more (copy_over c o f1 i1 j1 l1 us') qs) →
        Image r n (typed (form.Keyed m) i j l (more (typed f1 i1 j1 l1 us) ps)) (node_numbered c (form.Keyed m) i j l (more (copy_over c o f1 i1 j1 l1 us') qs))
    keyed_over None h same parts = keyed_numbered c s old new g held no_window never l (more (typed f1 i1 j1 l1 us) ps) _ same parts _ (no_key_sort c s old new g held no_window never f1 (sort_mapped (renamed c.type) l1.sort) us' key ∙ ap (sort_mapped (renamed c.type)) (sym is))
    keyed_over (Some p) h same parts = by_sort l1.sort is (h p refl)
      where
        by_sort : (x : Sort TypeTree) → l.sort ≡ x → HasParameter c held x p → Image r n (typed (form.Keyed m) i j l (more (typed f1 i1 j1 l1 us) ps)) (node_numbered c (form.Keyed m) i j l (more (parameter_node c p i1 j1 x) qs))
        by_sort (Constant t v) e h = images.keyed {v = const_value v} (ap (λ y. Once (sort_plan y Inner)) e) refl refl h
        by_sort (trees.Nothing) e h = absurd h
        by_sort x e h = absurd h

  holds_at : (a : Bool) (f : Form) (l : Label TypeTree) (i : ℕ) → (is_hole a f l ≡ true → (p : ℕ) → c.parameter i ≡ Some p → HasParameter c held l.sort p) → (b : Bool) → is_hole a f l ≡ b → (p : ℕ) → parameter_at c b i ≡ Some p → HasParameter c held l.sort p
  holds_at a f l i h true is p e = h is p e
  holds_at a f l i h false is p e = absurd cc

  hole_at : (a : Bool) (f : Form) (l : Label TypeTree) (i : ℕ) (b : Bool) → is_hole a f l ≡ b → (p : ℕ) → parameter_at c b i ≡ Some p → is_expression f ≡ true
  hole_at a f l i true is p e = hole_expression a f l is
  hole_at a f l i false is p e = absurd cc

  keyed_image : {n i j m : ℕ} (b : Bool) (l : Label TypeTree) (ps : Typeds TypeTree) → seen (all_copied c b ps) ≡ seen (all_mapped (renamed c.type) ps) → Images r n ps (all_copied c b ps) → IsKeyed (form.Keyed m) l.sort ps → IsValue c held (form.Keyed m) ps → HaveHoles c held b ps →
      Image r n (typed (form.Keyed m) i j l ps) (node_numbered c (form.Keyed m) i j l (all_copied c b ps))
  keyed_image b l none same parts k v h = keyed_numbered c s old new g held no_window never l none none same parts _ refl
  keyed_image b l (skip ps) same parts k v h = keyed_numbered c s old new g held no_window never l (skip ps) _ same parts _ refl
  keyed_image b l (more (typed f1 i1 j1 l1 us) ps) same parts k v h =
      keyed_over l f1 i1 j1 l1 us (all_copied c (is_inside b f1 l1) us) ps (all_copied c b ps) k v (parameter_at c (is_hole b f1 l1) i1) (holds_at b f1 l1 i1 h.0.0 (is_hole b f1 l1) refl) same parts

  any_image : {n i j : ℕ} (b : Bool) (f : Form) (l : Label TypeTree) (ps : Typeds TypeTree) → seen (all_copied c b ps) ≡ seen (all_mapped (renamed c.type) ps) → Images r n ps (all_copied c b ps) → ((k : ℕ) → Listed r n k ps (all_copied c b ps)) → IsKeyed f l.sort ps → IsValue c held f ps → HaveHoles c held b ps →
      Image r n (typed f i j l ps) (node_numbered c f i j l (all_copied c b ps))
  any_image b (form.Keyed m) l ps same parts rows k v h = keyed_image b l ps same parts k v h
  any_image b f l ps same parts rows k v h = numbered_image c s old new g held no_window never l ps (all_copied c b ps) same parts rows f tt

  -- ---- trees

  over : {n i j : ℕ} (f : Form) (l : Label TypeTree) (ps qs : Typeds TypeTree) (o : Option ℕ) → ((p : ℕ) → o ≡ Some p → HasParameter c held l.sort p) → ((p : ℕ) → o ≡ Some p → is_expression f ≡ true) → Image r n (typed f i j l ps) (node_numbered c f i j l qs) → Image r n (typed f i j l ps) (copy_over c o f i j l qs)
  over f l ps qs None h ex image = image
  over f l ps qs (Some p) h ex image = hole_image f l ps (ex p refl) p (h p refl)

  mutual
    pub copies_are_images : (a : Bool) (t : Typed TypeTree) → IsQuiet a t → HasHoles c held a t → Image r 0 t (copied c a t)
    copies_are_images a (typed f i j l ps) q h =
        over f l ps (all_copied c (is_inside a f l) ps) (parameter_at c (is_hole a f l) i) (holds_at a f l i h.0 (is_hole a f l) refl) (hole_at a f l i (is_hole a f l) refl)
        (any_image (is_inside a f l) f l ps (copied_seen c (is_inside a f l) ps q.3) (all_images (is_inside a f l) ps q.3 h.2) (λ k. listed (is_inside a f l) k ps q.3 h.2) q.2 h.1 h.2)

    all_images : (a : Bool) (ps : Typeds TypeTree) → AreQuiet a ps → HaveHoles c held a ps → Images r 0 ps (all_copied c a ps)
    all_images a none q h = images.none
    all_images a (more p ps) q h = images.more 0 0 (omega arith) (copies_are_images a p q.0 h.0) (all_images a ps q.1 h.1)
    all_images a (skip ps) q h = images.skip (all_images a ps q h)

    listed : (a : Bool) (k : ℕ) (ps : Typeds TypeTree) → AreQuiet a ps → HaveHoles c held a ps → Listed r 0 k ps (all_copied c a ps)
    listed a k none q h = images.ends
    listed a k (skip ps) q h = images.left_out (listed a k ps q h)
    listed a zero (more p ps) q h = images.next 0 0 (omega arith) refl (copies_are_images a p q.0 h.0) (listed a 0 ps q.1 h.1)
    listed a (suc k) (more p ps) q h = images.value (copies_are_images a p q.0 h.0) (listed a k ps q.1 h.1)

  -- the statements of a window
  pub windows_are_images : (ps : Typeds TypeTree) → AreQuiet false ps → HaveHoles c held false ps → Listed r 0 0 ps (window_copied c ps)
  windows_are_images ps q h = listed false 0 ps q h
