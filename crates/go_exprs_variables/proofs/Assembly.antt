-- Nodes with any number of parts: what is made over parts with variables in them is what was made, with the variables in it.
use Rattle.std.proofs.Common.{◌≡◌, ◌∙◌, ℕ, Bool, true, false, [], ◌∷◌, Option, Some, None, refl, sym, ap}
use Rattle.std.specs.Prelude.{◌&&◌, ◌||◌, not, if◌then◌else◌}
use Rattle.std.specs.List.{list_any}
use Rattle.go_types.specs.Trees.{TypeTree}
use Rattle.go_types.specs.Relations.{Rights}
use Rattle.go_typed.specs.declared.form.Form.{Form}
use Rattle.go_typed.specs.Trees.{Sort, Label, Typed, typed, Typeds, sort_of, form_of, label_of, row}
use Rattle.go_typed.specs.Trees as sort
use Rattle.go_exprs_rules.specs.Settling.{Part, settled, all_settled}
use Rattle.go_exprs_rules.specs.Sorts.{Stands, is_constant, is_open, takes_type, retyped}
use Rattle.go_exprs_rules.specs.Tables.{Parts, label, made, is_held, varies_in, calls_in, is_variable_name, is_call}
use Rattle.clone_window.specs.Masses.{is_hole, is_inside, is_expression}
use Rattle.clone_window.specs.Masses as masses
use Rattle.go_exprs_variables.specs.Over.{any_varies, varies_over}
use Rattle.go_exprs_variables.specs.Variables.{Standins, at_hole, put_over, put, all_put, wanted, all_wanted, first_wanted, begun}
use Rattle.go_exprs_variables.proofs.Trees.{is_key, plain_sort, hole_kept, inside_kept, retyped_label}
use Rattle.go_exprs_variables.proofs.Begun.{begun_by, settled_is, open_takes}
use Rattle.go_exprs_variables.proofs.Steps.{no_hole, not_inside}

-- ---- trees that have a type

pub closed_still : (t u : TypeTree) (s : Stands) → takes_type (retyped u s) ≡ false
closed_still t u (sort.Open k) = refl
closed_still t u sort.Nil = refl
closed_still t u (sort.OpenConstant c) = refl
closed_still t u (sort.Value v) = refl
closed_still t u (sort.Constant v c) = refl
closed_still t u sort.Nothing = refl
closed_still t u sort.Unknown = refl
closed_still t u sort.Blank = refl
closed_still t u (sort.Builtin b) = refl
closed_still t u sort.Println = refl
closed_still t u sort.Package = refl
closed_still t u (sort.IsType v) = refl
closed_still t u (sort.Results v) = refl

pub settled_by : (t : TypeTree) (f : Form) (i j : ℕ) (l : Label TypeTree) (ps : Typeds TypeTree) (b : Bool) → takes_type l.sort ≡ b → settled t (typed f i j l ps) ≡ (if b then typed f i j (retyped_label t l) (all_settled t ps) else typed f i j l ps)
settled_by t f i j l ps b e = ap (λ c. if c then typed f i j (retyped_label t l) (all_settled t ps) else typed f i j l ps) e

-- what has a type takes no other one
pub keeps_type : (t : TypeTree) (x : Part) → takes_type (sort_of x) ≡ false → settled t x ≡ x
keeps_type t (typed f i j l ps) e = settled_by t f i j l ps false e

pub has_taken : (u : TypeTree) (x : Part) → takes_type (sort_of (settled u x)) ≡ false
has_taken u (typed f i j l ps) = by_test (takes_type l.sort) refl
  where
    by_test : (b : Bool) → takes_type l.sort ≡ b → takes_type (sort_of (settled u (typed f i j l ps))) ≡ false
    by_test true e = ap (λ z. takes_type (sort_of z)) (settled_by u f i j l ps true e) ∙ closed_still u u l.sort
    by_test false e = ap (λ z. takes_type (sort_of z)) (settled_by u f i j l ps false e) ∙ e

pub taken_once : (t u : TypeTree) (x : Part) → settled t (settled u x) ≡ settled u x
taken_once t u x = keeps_type t (settled u x) (has_taken u x)

not_open : (s : Stands) → takes_type s ≡ false → is_open s ≡ false
not_open (sort.Open k) e = cc
not_open sort.Nil e = refl
not_open (sort.OpenConstant c) e = cc
not_open (sort.Value v) e = refl
not_open (sort.Constant v c) e = refl
not_open sort.Nothing e = refl
not_open sort.Unknown e = refl
not_open sort.Blank e = refl
not_open (sort.Builtin b) e = refl
not_open sort.Println e = refl
not_open sort.Package e = refl
not_open (sort.IsType v) e = refl
not_open (sort.Results v) e = refl

pub varies_settled : (t : TypeTree) (x : Part) → (label_of (settled t x)).varies ≡ (label_of x).varies
varies_settled t (typed f i j l ps) = by_test (takes_type l.sort)
  where
    by_test : (b : Bool) → (label_of (if b then typed f i j (retyped_label t l) (all_settled t ps) else typed f i j l ps)).varies ≡ l.varies
    by_test true = refl
    by_test false = refl

module _ (rights : Rights) (w : Standins) (a : Bool) where
  -- variables in a tree that takes a type first, or none
  abbrev pub putting : Option TypeTree → Part → Part
  putting (Some t) x = put w a (settled t x)
  putting None x = put w a x

  abbrev pub all_putting : Option TypeTree → Typeds TypeTree → Typeds TypeTree
  all_putting (Some t) xs = all_put w a (all_settled t xs)
  all_putting None xs = all_put w a xs

  pub putting_closed : (o : Option TypeTree) (x : Part) → takes_type (sort_of x) ≡ false → putting o x ≡ put w a x
  putting_closed (Some t) x e = ap (put w a) (keeps_type t x e)
  putting_closed None x e = refl

  -- ---- what becomes of the parts of a node that wants the type o, if it wants one

  -- Of the parts ys, of what they are given, of those with variables in them, and of what these are given.
  pub data Become (o : Option TypeTree) : Parts → Parts → Parts → Parts → Type 0 where
    no_more : Become o [] [] [] []
    left_out : (ys zs us vs : Parts) → Become o ys zs us vs → Become o (None ∷ ys) (None ∷ zs) (None ∷ us) (None ∷ vs)
    one : (y z u v : Part) (ys zs us vs : Parts) → v ≡ putting o z → (label_of u).calls ≡ (label_of y).calls → (label_of v).varies ≡ (label_of u).varies
        → Become o ys zs us vs → Become o (Some y ∷ ys) (Some z ∷ zs) (Some u ∷ us) (Some v ∷ vs)

  rows : (o : Option TypeTree) (ys zs us vs : Parts) → Become o ys zs us vs → row vs ≡ all_putting o (row zs)
  rows (Some t) ys zs us vs no_more = refl
  rows None ys zs us vs no_more = refl
  rows (Some t) ys zs us vs (left_out ys' zs' us' vs' b) = ap sort.skip (rows (Some t) ys' zs' us' vs' b)
  rows None ys zs us vs (left_out ys' zs' us' vs' b) = ap sort.skip (rows None ys' zs' us' vs' b)
  rows (Some t) ys zs us vs (one y z u v ys' zs' us' vs' e c r b) = ap (λ q. sort.more q (row vs')) e ∙ ap (sort.more (putting (Some t) z)) (rows (Some t) ys' zs' us' vs' b)
  rows None ys zs us vs (one y z u v ys' zs' us' vs' e c r b) = ap (λ q. sort.more q (row vs')) e ∙ ap (sort.more (putting None z)) (rows None ys' zs' us' vs' b)

  calls_same : (o : Option TypeTree) (ys zs us vs : Parts) → Become o ys zs us vs → list_any calls_in us ≡ list_any calls_in ys
  calls_same o ys zs us vs no_more = refl
  calls_same o ys zs us vs (left_out ys' zs' us' vs' b) = calls_same o ys' zs' us' vs' b
  calls_same o ys zs us vs (one y z u v ys' zs' us' vs' e c r b) = ap (λ q. q || list_any calls_in us') c ∙ ap (λ q. (label_of y).calls || q) (calls_same o ys' zs' us' vs' b)

  varies_more : (x : Part) (qs : Typeds TypeTree) → any_varies (sort.more x qs) ≡ ((label_of x).varies || any_varies qs)
  varies_more (typed f i j l ps) qs = refl

  varies_same : (o : Option TypeTree) (ys zs us vs : Parts) → Become o ys zs us vs → list_any varies_in us ≡ any_varies (row vs)
  varies_same o ys zs us vs no_more = refl
  varies_same o ys zs us vs (left_out ys' zs' us' vs' b) = varies_same o ys' zs' us' vs' b
  varies_same o ys zs us vs (one y z u v ys' zs' us' vs' e c r b) =
      ap (λ q. q || list_any varies_in us') (sym r) ∙ ap (λ q. (label_of v).varies || q) (varies_same o ys' zs' us' vs' b) ∙ sym (varies_more v (row vs'))

  -- ---- the node

  -- the node with variables in its parts, which stands for a value
  abbrev over : Form → ℕ → ℕ → Bool → Stands → Typeds TypeTree → Part
  over f i j c s qs = typed f i j (record { sort = s; varies = any_varies qs; calls = c }) qs

  abbrev pub is_some_row : Parts → Bool
  is_some_row [] = false
  is_some_row (y ∷ ys) = true

  varies_row : (b : Bool) (vs : Parts) → is_some_row vs ≡ true → varies_over b (row vs) ≡ any_varies (row vs)
  varies_row b [] e = cc
  varies_row b (None ∷ vs) e = refl
  varies_row b (Some v ∷ vs) e = refl

  module _ (f : Form) (i j : ℕ) (l : Label TypeTree) (zs : Parts) (key : is_key f ≡ false) (held : is_held f ≡ false) (value : masses.is_constant l.sort ≡ false) where
    abbrev node : Part
    node = typed f i j l (row zs)

    abbrev sort_taking : Option TypeTree → Stands
    sort_taking (Some t) = retyped t l.sort
    sort_taking None = l.sort

    wanted_node : (b : Bool) → is_open l.sort ≡ b → wanted w a node ≡ (if b then all_wanted w a (row zs) else None)
    wanted_node b e =
        ap (λ c. if c then first_wanted (at_hole w (is_hole a f l) i) (all_wanted w (is_inside a f l) (row zs)) else None) e
        ∙ ap (λ c. if b then first_wanted (at_hole w c i) (all_wanted w (is_inside a f l) (row zs)) else None) (no_hole a f l value)
        ∙ ap (λ c. if b then all_wanted w c (row zs) else None) (not_inside a f l value)

    put_node : put w a node ≡ typed f i j (record { sort = l.sort; varies = varies_over l.varies (all_put w a (row zs)); calls = l.calls }) (all_put w a (row zs))
    put_node =
        ap (λ b. put_over (at_hole w b i) f i j l (all_put w (is_inside a f l) (row zs))) (no_hole a f l value)
        ∙ ap (λ b. put_over None f i j l (all_put w b (row zs))) (not_inside a f l value)
        ∙ ap (λ s. typed f i j (record { sort = s; varies = varies_over l.varies (all_put w a (row zs)); calls = l.calls }) (all_put w a (row zs))) (plain_sort f l.sort (all_put w a (row zs)) key)

    put_typed_node : (t : TypeTree) → is_open l.sort ≡ true
        → put w a (settled t node) ≡ typed f i j (record { sort = retyped t l.sort; varies = varies_over l.varies (all_put w a (all_settled t (row zs))); calls = l.calls }) (all_put w a (all_settled t (row zs)))
    put_typed_node t o =
        let qs : Typeds TypeTree = all_put w a (all_settled t (row zs)) in
        ap (put w a) (settled_is w t f i j l (row zs) (open_takes w l.sort o))
        ∙ ap (λ b. put_over (at_hole w b i) f i j (retyped_label t l) (all_put w (is_inside a f (retyped_label t l)) (all_settled t (row zs)))) (hole_kept t a f l ∙ no_hole a f l value)
        ∙ ap (λ b. put_over None f i j (retyped_label t l) (all_put w b (all_settled t (row zs)))) (inside_kept t a f l ∙ not_inside a f l value)
        ∙ ap (λ s. typed f i j (record { sort = s; varies = varies_over l.varies qs; calls = l.calls }) qs) (plain_sort f (retyped t l.sort) qs key)

    begun_node : (o : Option TypeTree) → o ≡ (if is_open l.sort then all_wanted w a (row zs) else None)
        → begun w a node ≡ typed f i j (record { sort = sort_taking o; varies = varies_over l.varies (all_putting o (row zs)); calls = l.calls }) (all_putting o (row zs))
    begun_node None e = begun_by rights w a f i j l (row zs) None held (wanted_node (is_open l.sort) refl ∙ sym e) ∙ put_node
    begun_node (Some t) e = begun_by rights w a f i j l (row zs) (Some t) held (wanted_node (is_open l.sort) refl ∙ sym e) ∙ put_typed_node t (is_open_by (is_open l.sort) e)
      where
        is_open_by : (b : Bool) → Some t ≡ (if b then all_wanted w a (row zs) else None) → b ≡ true
        is_open_by true g = refl
        is_open_by false g = cc

  -- What a node takes that wants the type o: the type, or none.
  abbrev pub sort_with : Option TypeTree → Stands → Stands
  sort_with (Some t) s = retyped t s
  sort_with None s = s

  -- The node made over the parts with variables in them is the node that was made, with the variables in it.
  pub assembled : (f : Form) (i j : ℕ) (x z : Stands) (ys zs us vs : Parts) (o : Option TypeTree) → is_key f ≡ false → is_held f ≡ false → masses.is_constant x ≡ false → is_some_row vs ≡ true
      → is_variable_name f z ≡ false → (is_call f && not (is_constant z)) ≡ (is_call f && not (is_constant x)) → z ≡ sort_with o x → o ≡ (if is_open x then all_wanted w a (row zs) else None)
      → Become o ys zs us vs → made f i j z us vs ≡ begun w a (made f i j x ys zs)
  assembled f i j x z ys zs us vs o key held value some name call is want b =
      let c : ((is_call f && not (is_constant z)) || list_any calls_in us) ≡ ((is_call f && not (is_constant x)) || list_any calls_in ys) =
      ap (λ q. q || list_any calls_in us) call ∙ ap (λ q. (is_call f && not (is_constant x)) || q) (calls_same o ys zs us vs b) in
      let v : (is_variable_name f z || list_any varies_in us) ≡ varies_over (label f x ys).varies (all_putting o (row zs)) =
      ap (λ q. q || list_any varies_in us) name ∙ varies_same o ys zs us vs b ∙ sym (varies_row (label f x ys).varies vs some) ∙ ap (varies_over (label f x ys).varies) (rows o ys zs us vs b) in
      ap (λ s. typed f i j (record { sort = s; varies = is_variable_name f z || list_any varies_in us; calls = (is_call f && not (is_constant z)) || list_any calls_in us }) (row vs)) (is ∙ sorts o)
      ∙ ap (λ q. typed f i j (record { sort = sort_taking f i j (label f x ys) zs key held value o; varies = q; calls = (is_call f && not (is_constant z)) || list_any calls_in us }) (row vs)) v
      ∙ ap (λ q. typed f i j (record { sort = sort_taking f i j (label f x ys) zs key held value o; varies = varies_over (label f x ys).varies (all_putting o (row zs)); calls = q }) (row vs)) c
      ∙ ap (λ q. typed f i j (record { sort = sort_taking f i j (label f x ys) zs key held value o; varies = varies_over (label f x ys).varies (all_putting o (row zs)); calls = (label f x ys).calls }) q) (rows o ys zs us vs b)
      ∙ sym (begun_node f i j (label f x ys) zs key held value o want)
    where
      sorts : (o : Option TypeTree) → sort_with o x ≡ sort_taking f i j (label f x ys) zs key held value o
      sorts (Some t) = refl
      sorts None = refl
