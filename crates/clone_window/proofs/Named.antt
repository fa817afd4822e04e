-- Fields of the same names: an equivalence on trees that agree.
use Rattle.std.proofs.Common.{◌≡◌, ℕ, Bool, true, false, List, [], ◌∷◌, refl, ap, sym, ◌∙◌}
use Rattle.std.specs.Prelude.{◌&&◌, ◌||◌, not, nat_eq}
use Rattle.std.specs.List.{list_any}
use Rattle.std.proofs.lemmas.Bool.{and_parts, and_from, eqb-true}
use Rattle.go_types_relations.specs.Identity.{same_name}
use Rattle.go_typed.specs.declared.form.Form.{Form}
use Rattle.go_typed.specs.Trees.{Sort, Typed, typed, Typeds, none, more, skip}
use Rattle.clone_window.specs.declared.outline.Outline.{Outline}
use Rattle.clone_window.specs.Kinds.{outline}
use Rattle.clone_window.specs.Masses.{is_hole, is_inside}
use Rattle.clone_window.specs.Sameness.{same_outline, compared, agree_besides, agree_at, agree, all_agree}
use Rattle.clone_window.proofs.Equivalence.{name-refl, name-sym, name-trans}
use Rattle.clone_window.specs.Fields.{FieldNames, names_field, field_name, same_field, fields_agree, all_fields_agree}

or-right : (a b : Bool) → b ≡ true → (a || b) ≡ true
or-right true b h = refl
or-right false b h = h

-- ---- one node

own-refl : (b : Bool) (x : List ℕ) → same_field b x x ≡ true
own-refl b x = or-right (not b) (same_name x x) (name-refl x)

own-sym : (b : Bool) (x y : List ℕ) → same_field b x y ≡ true → same_field b y x ≡ true
own-sym true x y h = name-sym x y h
own-sym false x y h = refl

own-trans : (b : Bool) (x y z : List ℕ) → same_field b x y ≡ true → same_field b y z ≡ true → same_field b x z ≡ true
own-trans true x y z h k = name-trans x y z h k
own-trans false x y z h k = refl

-- nodes that show the same name fields alike
alike-named : (o p : Outline) → same_outline o p ≡ true → names_field o ≡ names_field p
alike-named o p h =
    let u = and_parts (nat_eq o.kind p.kind && nat_eq o.operator p.operator) (nat_eq o.count p.count) h in
    let k = (and_parts (nat_eq o.kind p.kind) (nat_eq o.operator p.operator) u.0).0 in
    ap (λ n. list_any (nat_eq n) (36 ∷ 51 ∷ [])) (eqb-true o.kind p.kind k)

turned-own : (o p : Outline) (x y : List ℕ) → same_outline o p ≡ true → same_field (names_field o) x y ≡ true → same_field (names_field p) y x ≡ true
turned-own o p x y h k = own-sym (names_field p) x y (sym (ap (λ b. same_field b x y) (alike-named o p h)) ∙ k)

joined-own : (o p : Outline) (x y z : List ℕ) → same_outline o p ≡ true → same_field (names_field o) x y ≡ true → same_field (names_field p) y z ≡ true → same_field (names_field o) x z ≡ true
joined-own o p x y z h k l = own-trans (names_field o) x y z k (ap (λ b. same_field b y z) (alike-named o p h) ∙ l)

-- Where one of two nodes is a hole, so is the other; else what they name themselves decides, and what their parts do.
turned-at : {T : Type 0} (d : T → T → Bool) (x y : Bool) (f g : Form) (s t : Sort T) (parts own rest back behind : Bool) →
    agree_at d x y f g s t parts ≡ true → (x || (own && rest)) ≡ true →
    (same_outline (outline f) (outline g) ≡ true → own ≡ true → back ≡ true) → (parts ≡ true → rest ≡ true → behind ≡ true) → (y || (back && behind)) ≡ true
turned-at d x true f g s t parts own rest back behind h k one all = refl
turned-at d true false f g s t parts own rest back behind h k one all = cc
turned-at d false false f g s t parts own rest back behind h k one all =
    let p = and_parts (same_outline (outline f) (outline g) && agree_besides d (compared f) (compared g) s t) parts h in
    let q = and_parts (same_outline (outline f) (outline g)) (agree_besides d (compared f) (compared g) s t) p.0 in
    let r = and_parts own rest k in
    and_from back behind (one q.0 r.0) (all p.1 r.1)

joined-at : {T : Type 0} (d e : T → T → Bool) (x y z : Bool) (f g h : Form) (s t u : Sort T) (front parts one two both first_rest second_rest rest : Bool) →
    agree_at d x y f g s t front ≡ true → agree_at e y z g h t u parts ≡ true → (x || (one && first_rest)) ≡ true → (y || (two && second_rest)) ≡ true →
    (same_outline (outline f) (outline g) ≡ true → one ≡ true → two ≡ true → both ≡ true) →
    (front ≡ true → parts ≡ true → first_rest ≡ true → second_rest ≡ true → rest ≡ true) → (x || (both && rest)) ≡ true
joined-at d e true y z f g h s t u front parts one two both first_rest second_rest rest i j k l own all = refl
joined-at d e false true z f g h s t u front parts one two both first_rest second_rest rest i j k l own all = cc
joined-at d e false false true f g h s t u front parts one two both first_rest second_rest rest i j k l own all = cc
joined-at d e false false false f g h s t u front parts one two both first_rest second_rest rest i j k l own all =
    let p = and_parts (same_outline (outline f) (outline g) && agree_besides d (compared f) (compared g) s t) front i in
    let q = and_parts (same_outline (outline f) (outline g)) (agree_besides d (compared f) (compared g) s t) p.0 in
    let r = and_parts (same_outline (outline g) (outline h) && agree_besides e (compared g) (compared h) t u) parts j in
    let v = and_parts one first_rest k in
    let w = and_parts two second_rest l in
    and_from both rest (own q.0 v.0 w.0) (all p.1 r.1 v.1 w.1)

-- ---- trees

mutual
  tree-refl : {T : Type 0} (n : FieldNames T) (a : Bool) (s : Sort T) (p : Typed T) → fields_agree n n a a s s p p ≡ true
  tree-refl n a s (typed f i j l ps) =
      let o = outline f in
      let x = field_name n s o ps in
      or-right (is_hole a f l) (same_field (names_field o) x x && all_fields_agree n n (is_inside a f l) (is_inside a f l) l.sort l.sort ps ps)
      (and_from (same_field (names_field o) x x) (all_fields_agree n n (is_inside a f l) (is_inside a f l) l.sort l.sort ps ps)
      (own-refl (names_field o) x) (fields-refl n (is_inside a f l) l.sort ps))

  pub fields-refl : {T : Type 0} (n : FieldNames T) (a : Bool) (s : Sort T) (ps : Typeds T) → all_fields_agree n n a a s s ps ps ≡ true
  fields-refl n a s none = refl
  fields-refl n a s (more p ps) = and_from (fields_agree n n a a s s p p) (all_fields_agree n n a a s s ps ps) (tree-refl n a s p) (fields-refl n a s ps)
  fields-refl n a s (skip ps) = fields-refl n a s ps

mutual
  tree-sym : {T : Type 0} (d : T → T → Bool) (n m : FieldNames T) (a b : Bool) (s t : Sort T) (p q : Typed T) → agree d a b p q ≡ true →
      fields_agree n m a b s t p q ≡ true → fields_agree m n b a t s q p ≡ true
  tree-sym d n m a b s t (typed f i j l ps) (typed g u v r qs) h k =
      let x = field_name n s (outline f) ps in
      let y = field_name m t (outline g) qs in
      turned-at d (is_hole a f l) (is_hole b g r) f g l.sort r.sort (all_agree d (is_inside a f l) (is_inside b g r) ps qs)
      (same_field (names_field (outline f)) x y) (all_fields_agree n m (is_inside a f l) (is_inside b g r) l.sort r.sort ps qs)
      (same_field (names_field (outline g)) y x) (all_fields_agree m n (is_inside b g r) (is_inside a f l) r.sort l.sort qs ps) h k
      (λ e w. turned-own (outline f) (outline g) x y e w) (λ e w. fields-sym d n m (is_inside a f l) (is_inside b g r) l.sort r.sort ps qs e w)

  pub fields-sym : {T : Type 0} (d : T → T → Bool) (n m : FieldNames T) (a b : Bool) (s t : Sort T) (ps qs : Typeds T) → all_agree d a b ps qs ≡ true →
      all_fields_agree n m a b s t ps qs ≡ true → all_fields_agree m n b a t s qs ps ≡ true
  fields-sym d n m a b s t none none h k = refl
  fields-sym d n m a b s t none (more q qs) h k = refl
  fields-sym d n m a b s t none (skip qs) h k = refl
  fields-sym d n m a b s t (more p ps) none h k = refl
  fields-sym d n m a b s t (more p ps) (more q qs) h k =
      let u = and_parts (agree d a b p q) (all_agree d a b ps qs) h in
      let v = and_parts (fields_agree n m a b s t p q) (all_fields_agree n m a b s t ps qs) k in
      and_from (fields_agree m n b a t s q p) (all_fields_agree m n b a t s qs ps) (tree-sym d n m a b s t p q u.0 v.0) (fields-sym d n m a b s t ps qs u.1 v.1)
  fields-sym d n m a b s t (more p ps) (skip qs) h k = refl
  fields-sym d n m a b s t (skip ps) none h k = refl
  fields-sym d n m a b s t (skip ps) (more q qs) h k = refl
  fields-sym d n m a b s t (skip ps) (skip qs) h k = fields-sym d n m a b s t ps qs h k

mutual
  tree-trans : {T : Type 0} (d e : T → T → Bool) (n m o : FieldNames T) (a b c : Bool) (s t u : Sort T) (p q r : Typed T) → agree d a b p q ≡ true → agree e b c q r ≡ true →
      fields_agree n m a b s t p q ≡ true → fields_agree m o b c t u q r ≡ true → fields_agree n o a c s u p r ≡ true
  tree-trans d e n m o a b c s t u (typed f i1 j1 l ps) (typed g i2 j2 v qs) (typed h i3 j3 w rs) i j k z =
      let x = field_name n s (outline f) ps in
      let y = field_name m t (outline g) qs in
      let x' = field_name o u (outline h) rs in
      joined-at d e (is_hole a f l) (is_hole b g v) (is_hole c h w) f g h l.sort v.sort w.sort
      (all_agree d (is_inside a f l) (is_inside b g v) ps qs) (all_agree e (is_inside b g v) (is_inside c h w) qs rs)
      (same_field (names_field (outline f)) x y) (same_field (names_field (outline g)) y x') (same_field (names_field (outline f)) x x')
      (all_fields_agree n m (is_inside a f l) (is_inside b g v) l.sort v.sort ps qs) (all_fields_agree m o (is_inside b g v) (is_inside c h w) v.sort w.sort qs rs)
      (all_fields_agree n o (is_inside a f l) (is_inside c h w) l.sort w.sort ps rs) i j k z
      (λ q1 q2 q3. joined-own (outline f) (outline g) x y x' q1 q2 q3)
      (λ q1 q2 q3 q4. fields-trans d e n m o (is_inside a f l) (is_inside b g v) (is_inside c h w) l.sort v.sort w.sort ps qs rs q1 q2 q3 q4)

  pub fields-trans : {T : Type 0} (d e : T → T → Bool) (n m o : FieldNames T) (a b c : Bool) (s t u : Sort T) (ps qs rs : Typeds T) → all_agree d a b ps qs ≡ true → all_agree e b c qs rs ≡ true →
      all_fields_agree n m a b s t ps qs ≡ true → all_fields_agree m o b c t u qs rs ≡ true → all_fields_agree n o a c s u ps rs ≡ true
  fields-trans d e n m o a b c s t u none qs rs h i j k = refl
  fields-trans d e n m o a b c s t u (more p ps) none rs h i j k = cc
  fields-trans d e n m o a b c s t u (more p ps) (more q qs) none h i j k = refl
  fields-trans d e n m o a b c s t u (more p ps) (more q qs) (more r rs) h i j k =
      let v = and_parts (agree d a b p q) (all_agree d a b ps qs) h in
      let w = and_parts (agree e b c q r) (all_agree e b c qs rs) i in
      let x = and_parts (fields_agree n m a b s t p q) (all_fields_agree n m a b s t ps qs) j in
      let y = and_parts (fields_agree m o b c t u q r) (all_fields_agree m o b c t u qs rs) k in
      and_from (fields_agree n o a c s u p r) (all_fields_agree n o a c s u ps rs)
      (tree-trans d e n m o a b c s t u p q r v.0 w.0 x.0 y.0) (fields-trans d e n m o a b c s t u ps qs rs v.1 w.1 x.1 y.1)
  fields-trans d e n m o a b c s t u (more p ps) (more q qs) (skip rs) h i j k = refl
  fields-trans d e n m o a b c s t u (more p ps) (skip qs) rs h i j k = cc
  fields-trans d e n m o a b c s t u (skip ps) none rs h i j k = cc
  fields-trans d e n m o a b c s t u (skip ps) (more q qs) rs h i j k = cc
  fields-trans d e n m o a b c s t u (skip ps) (skip qs) none h i j k = refl
  fields-trans d e n m o a b c s t u (skip ps) (skip qs) (more r rs) h i j k = refl
  fields-trans d e n m o a b c s t u (skip ps) (skip qs) (skip rs) h i j k = fields-trans d e n m o a b c s t u ps qs rs h i j k
