-- What is typed before the node above gives it a type, as an operand.
use Rattle.std.proofs.Common.{◌≡◌, ◌∙◌, ◌⊎◌, inl, inr, ℕ, Bool, true, false, [], Option, Some, None, refl, sym, ap, subst}
use Rattle.std.specs.Prelude.{◌&&◌, ◌||◌, not, if◌then◌else◌}
use Rattle.go_constants.specs.declared.values.Const.{Const}
use Rattle.go_types.specs.Trees.{TypeTree}
use Rattle.go_types.specs.Relations.{Rights}
use Rattle.go_typed.specs.declared.form.Form.{Form}
use Rattle.go_typed.specs.Trees.{Sort, Label, Typed, typed, Typeds, sort_of, form_of}
use Rattle.go_typed.specs.Trees as sort
use Rattle.go_exprs_rules.specs.declared.family.OpenKind.{OpenKind}
use Rattle.go_exprs_rules.specs.Settling.{Part, settled, all_settled, unrepresented, all_unrepresented, unrepresented_constant}
use Rattle.go_exprs_rules.specs.Sorts.{Stands, is_open, is_constant, takes_type, is_nil, retyped, open_kind, constant_of, suits}
use Rattle.go_exprs_rules.specs.Tables.{is_held}
use Rattle.clone_window.specs.Masses.{is_hole, is_inside, is_expression}
use Rattle.clone_window.specs.Masses as masses
use Rattle.go_exprs_variables.specs.Over.{varies_over}
use Rattle.go_exprs_variables.specs.Stood.{Stood, as_before, in_place, early}
use Rattle.go_exprs_variables.specs.Variables.{Standin, Standins, at_hole, ends_at, put_over, put, all_put, wanted, all_wanted, first_wanted, or_wanted, put_with, begun, all_begun, final_type, FitsAt, Fits, AllFit}
use Rattle.go_exprs_variables.proofs.Parts.{Operand}
use Rattle.go_exprs_variables.proofs.Trees.{is_key, Keyless, plain_sort, hole_kept, inside_kept, retyped_label, put_in_range}

-- ---- what an untyped expression wants

pub unless_none : {A : Type 0} (b : Bool) (o : Option A) → o ≡ None → (if b then o else None) ≡ None
unless_none true o e = e
unless_none false o e = refl

module _ (w : Standins) where
  mutual
    -- inside a constant expression nothing
    none_inside : (x : Part) → wanted w true x ≡ None
    none_inside (typed f i j l ps) = unless_none (is_open l.sort) (all_wanted w true ps) (none_among ps)

    none_among : (ps : Typeds TypeTree) → all_wanted w true ps ≡ None
    none_among sort.none = refl
    none_among (sort.more p ps) = ap (λ o. or_wanted o (all_wanted w true ps)) (none_inside p) ∙ none_among ps
    none_among (sort.skip ps) = none_among ps

  -- ---- a variable at a hole of an untyped constant has the type that this takes

  type_taken : (t s : TypeTree) (k : Stands) → is_open k ≡ true → masses.is_constant k ≡ true → final_type (retyped t k) ≡ Some s → s ≡ t
  type_taken t s (sort.OpenConstant c) e f g = cc
  type_taken t s (sort.Open u) e f g = cc
  type_taken t s (sort.Value u) e f g = cc
  type_taken t s (sort.Constant u c) e f g = cc
  type_taken t s sort.Nothing e f g = cc
  type_taken t s sort.Unknown e f g = cc
  type_taken t s sort.Blank e f g = cc
  type_taken t s sort.Nil e f g = cc
  type_taken t s (sort.Builtin b) e f g = cc
  type_taken t s sort.Println e f g = cc
  type_taken t s sort.Package e f g = cc
  type_taken t s (sort.IsType u) e f g = cc
  type_taken t s (sort.Results u) e f g = cc

  pub open_takes : (k : Stands) → is_open k ≡ true → takes_type k ≡ true
  open_takes k e = ap (λ b. b || is_nil k) e

  pub there : (b : Bool) (i : ℕ) (v : Standin) → at_hole w b i ≡ Some v → (b ≡ true) × (w i ≡ Some v)
  there true i v e = (refl, e)
  there false i v e = cc

  pub hole_constant : (a : Bool) (f : Form) (l : Label TypeTree) → is_hole a f l ≡ true → masses.is_constant l.sort ≡ true
  hole_constant true f l e = cc
  hole_constant false f l e = second (is_expression f) (masses.is_constant l.sort) (not l.varies) e
    where
      second : (b c d : Bool) → ((b && c) && d) ≡ true → c ≡ true
      second true true d e = refl
      second true false d e = cc
      second false c d e = cc

  fit_type : (t : TypeTree) (a : Bool) (f : Form) (i j : ℕ) (l : Label TypeTree) (v : Standin) → is_open l.sort ≡ true → at_hole w (is_hole a f l) i ≡ Some v → FitsAt w a f i j (retyped_label t l) → v.type ≡ t
  fit_type t a f i j l v e at fits =
      let is = there (is_hole a f l) i v at in
      let hole : is_hole a f (retyped_label t l) ≡ true = hole_kept t a f l ∙ is.0 in
      let fit = fits v is.1 (or_true (ends_at (Some v) j) (is_hole a f (retyped_label t l)) hole) in
      type_taken t v.type l.sort e (hole_constant a f l is.0) fit.type
    where
      or_true : (b c : Bool) → c ≡ true → (b || c) ≡ true
      or_true true c e = refl
      or_true false c e = e

  -- the tree with its type: a node that is untyped takes it, and with it its parts
  pub settled_is : (t : TypeTree) (f : Form) (i j : ℕ) (l : Label TypeTree) (ps : Typeds TypeTree) → takes_type l.sort ≡ true → settled t (typed f i j l ps) ≡ typed f i j (retyped_label t l) (all_settled t ps)
  settled_is t f i j l ps e = ap (λ b. if b then typed f i j (retyped_label t l) (all_settled t ps) else typed f i j l ps) e

  -- the law for the parts of a node
  abbrev PartsWant : TypeTree → TypeTree → Typeds TypeTree → Type 0
  PartsWant t s ps = (a : Bool) → all_wanted w a ps ≡ Some s → AllFit w a (all_settled t ps) → s ≡ t

  wanted_at : (t s : TypeTree) (a : Bool) (f : Form) (i j : ℕ) (l : Label TypeTree) (ps : Typeds TypeTree) (v : Option Standin) → PartsWant t s ps → at_hole w (is_hole a f l) i ≡ v → is_open l.sort ≡ true
      → first_wanted v (all_wanted w (is_inside a f l) ps) ≡ Some s → Fits w a (typed f i j (retyped_label t l) (all_settled t ps)) → s ≡ t
  wanted_at t s a f i j l ps (Some v) h at o e fits = let same : s ≡ v.type = cc in same ∙ fit_type t a f i j l v o at fits.0
  wanted_at t s a f i j l ps None h at o e fits = h (is_inside a f l) e (subst (λ b. AllFit w b (all_settled t ps)) (inside_kept t a f l) fits.2)

  wanted_open : (t s : TypeTree) (a : Bool) (f : Form) (i j : ℕ) (l : Label TypeTree) (ps : Typeds TypeTree) (b : Bool) → PartsWant t s ps → is_open l.sort ≡ b
      → (if b then first_wanted (at_hole w (is_hole a f l) i) (all_wanted w (is_inside a f l) ps) else None) ≡ Some s → Fits w a (settled t (typed f i j l ps)) → s ≡ t
  wanted_open t s a f i j l ps false h o e fits = cc
  wanted_open t s a f i j l ps true h o e fits =
      let all : Fits w a (typed f i j (retyped_label t l) (all_settled t ps)) = subst (Fits w a) (settled_is t f i j l ps (open_takes l.sort o)) fits in
      wanted_at t s a f i j l ps (at_hole w (is_hole a f l) i) h refl o e all

  wanted_first : (t s : TypeTree) (o : Option TypeTree) (P Q : Type 0) (rest : Option TypeTree) → (o ≡ Some s → P → s ≡ t) → (rest ≡ Some s → Q → s ≡ t) → or_wanted o rest ≡ Some s → P → Q → s ≡ t
  wanted_first t s (Some u) P Q rest f g e p q = f e p
  wanted_first t s None P Q rest f g e p q = g e q

  mutual
    -- The type that is wanted is the one that the expression takes.
    pub wanted_is : (t s : TypeTree) (a : Bool) (x : Part) → wanted w a x ≡ Some s → Fits w a (settled t x) → s ≡ t
    wanted_is t s a (typed f i j l ps) e fits = wanted_open t s a f i j l ps (is_open l.sort) (λ b g h. wanted_among t s b ps g h) refl e fits

    wanted_among : (t s : TypeTree) (a : Bool) (ps : Typeds TypeTree) → all_wanted w a ps ≡ Some s → AllFit w a (all_settled t ps) → s ≡ t
    wanted_among t s a sort.none e fits = cc
    wanted_among t s a (sort.skip ps) e fits = wanted_among t s a ps e fits
    wanted_among t s a (sort.more p ps) e fits =
        wanted_first t s (wanted w a p) (Fits w a (settled t p)) (AllFit w a (all_settled t ps)) (all_wanted w a ps) (λ g h. wanted_is t s a p g h) (λ g h. wanted_among t s a ps g h) e fits.0 fits.1

-- ---- an operand

module _ (rights : Rights) (w : Standins) where
  constant_type : (s : Stands) (t : TypeTree) → final_type s ≡ Some t → (c : Const) × (s ≡ sort.Constant t c)
  constant_type (sort.Constant u c) t e = (c, cc)
  constant_type (sort.Value u) t e = cc
  constant_type (sort.Open u) t e = cc
  constant_type (sort.OpenConstant c) t e = cc
  constant_type sort.Nothing t e = cc
  constant_type sort.Unknown t e = cc
  constant_type sort.Blank t e = cc
  constant_type sort.Nil t e = cc
  constant_type (sort.Builtin b) t e = cc
  constant_type sort.Println t e = cc
  constant_type sort.Package t e = cc
  constant_type (sort.IsType u) t e = cc
  constant_type (sort.Results u) t e = cc

  -- what a tree with variables stands for, where it wants none
  stands_put : (o : Option TypeTree) (a : Bool) (f : Form) (i j : ℕ) (l : Label TypeTree) (ps : Typeds TypeTree) (v : Option Standin) → at_hole w (is_hole a f l) i ≡ v → is_key f ≡ false → FitsAt w a f i j l
      → Stood rights o l.sort (sort_of (put_over v f i j l (all_put w (is_inside a f l) ps)))
  stands_put o a f i j l ps None at k fits = subst (Stood rights o l.sort) (sym (plain_sort f l.sort (all_put w (is_inside a f l) ps) k)) (as_before o l.sort)
  stands_put o a f i j l ps (Some v) at k fits =
      let is = there w (is_hole a f l) i v at in
      let c = constant_type l.sort v.type (fits v is.1 (or_hole (ends_at (Some v) j) (is_hole a f l) is.0)).type in
      subst (λ s. Stood rights o s (sort.Value v.type)) (sym c.1) (in_place o v.type c.0)
    where
      or_hole : (b c : Bool) → c ≡ true → (b || c) ≡ true
      or_hole true c e = refl
      or_hole false c e = e

  pub not_wanted : (a : Bool) (f : Form) (i j : ℕ) (l : Label TypeTree) (ps : Typeds TypeTree) → is_open l.sort ≡ false → wanted w a (typed f i j l ps) ≡ None
  not_wanted a f i j l ps e = ap (λ b. if b then first_wanted (at_hole w (is_hole a f l) i) (all_wanted w (is_inside a f l) ps) else None) e

  pub begun_by : (a : Bool) (f : Form) (i j : ℕ) (l : Label TypeTree) (ps : Typeds TypeTree) (o : Option TypeTree) → is_held f ≡ false → wanted w a (typed f i j l ps) ≡ o → begun w a (typed f i j l ps) ≡ put_with w a o (typed f i j l ps)
  begun_by a f i j l ps o e g =
      ap (λ b. if b then typed f i j (record l { varies = varies_over l.varies (all_begun w a ps) }) (all_begun w a ps) else put_with w a (wanted w a (typed f i j l ps)) (typed f i j l ps)) e
      ∙ ap (λ z. put_with w a z (typed f i j l ps)) g

  -- An operand that has its type stands in its place.
  pub typed_operand : (o : Option TypeTree) (a : Bool) (x : Part) → Keyless x → is_held (form_of x) ≡ false → is_open (sort_of x) ≡ false → Fits w a x → Operand rights o x (begun w a x)
  typed_operand o a (typed f i j l ps) keys h e fits =
      let is : begun w a (typed f i j l ps) ≡ put w a (typed f i j l ps) = begun_by a f i j l ps None h (not_wanted a f i j l ps e) in
      record {
        stands = subst (λ y. Stood rights o l.sort (sort_of y)) (sym is) (stands_put o a f i j l ps (at_hole w (is_hole a f l) i) refl keys.0 fits.0);
        range = λ t r. ap (unrepresented rights t) is ∙ put_in_range w rights t a (typed f i j l ps) keys.1 r;
      }

  -- ---- an untyped operand, which takes the type t

  stands_settled : (t : TypeTree) (a : Bool) (f : Form) (i j : ℕ) (l : Label TypeTree) (qs : Typeds TypeTree) (k : OpenKind) (v : Option Standin) → at_hole w (is_hole a f l) i ≡ v → is_key f ≡ false
      → masses.is_constant l.sort ≡ false ⊎ ((u : Standin) × (v ≡ Some u) × (u.type ≡ t)) → open_kind l.sort ≡ Some k → suits rights k t ≡ true
      → Stood rights (Some t) l.sort (sort_of (put_over v f i j (retyped_label t l) qs))
  stands_settled t a f i j l qs k (Some v) at key (inr (u, is, same)) o e =
      let one : v.type ≡ t = let two : v ≡ u = cc in ap (λ z. z.type) two ∙ same in
      subst (λ z. Stood rights (Some t) l.sort (sort.Value z)) (sym one) (early t l.sort k o e)
  stands_settled t a f i j l qs k (Some v) at key (inl c) o e = absurd (no_hole (hole_constant w a f l (there w (is_hole a f l) i v at).0) c)
    where
      no_hole : {b : Bool} → b ≡ true → b ≡ false → ⊥
      no_hole e f = cc
  stands_settled t a f i j l qs k None at key (inr (u, is, same)) o e = cc
  stands_settled t a f i j l qs k None at key (inl c) o e =
      subst (Stood rights (Some t) l.sort) (sym (plain_sort f (retyped t l.sort) qs key)) (open_value l.sort c o)
    where
      open_value : (s : Stands) → masses.is_constant s ≡ false → open_kind s ≡ Some k → Stood rights (Some t) s (retyped t s)
      open_value (sort.Open u) c o = early t (sort.Open u) k o e
      open_value (sort.OpenConstant v) c o = cc
      open_value (sort.Value u) c o = cc
      open_value (sort.Constant u v) c o = cc
      open_value sort.Nothing c o = cc
      open_value sort.Unknown c o = cc
      open_value sort.Blank c o = cc
      open_value sort.Nil c o = cc
      open_value (sort.Builtin b) c o = cc
      open_value sort.Println c o = cc
      open_value sort.Package c o = cc
      open_value (sort.IsType u) c o = cc
      open_value (sort.Results u) c o = cc

  closed_retyped : (t : TypeTree) (s : Stands) → is_open (retyped t s) ≡ false
  closed_retyped t (sort.Open u) = refl
  closed_retyped t sort.Nil = refl
  closed_retyped t (sort.OpenConstant c) = refl
  closed_retyped t (sort.Value u) = refl
  closed_retyped t (sort.Constant u c) = refl
  closed_retyped t sort.Nothing = refl
  closed_retyped t sort.Unknown = refl
  closed_retyped t sort.Blank = refl
  closed_retyped t (sort.Builtin b) = refl
  closed_retyped t sort.Println = refl
  closed_retyped t sort.Package = refl
  closed_retyped t (sort.IsType u) = refl
  closed_retyped t (sort.Results u) = refl

  -- what has a type refuses nothing
  settled_range : (t r : TypeTree) (f : Form) (i j : ℕ) (l : Label TypeTree) (qs : Typeds TypeTree) (v : Option Standin) → is_key f ≡ false → unrepresented rights r (put_over v f i j (retyped_label t l) qs) ≡ []
  settled_range t r f i j l qs (Some v) k = refl
  settled_range t r f i j l qs None k =
      ap (λ z. unrepresented rights r (typed f i j (record { sort = z; varies = varies_over l.varies qs; calls = l.calls }) qs)) (plain_sort f (retyped t l.sort) qs k)
      ∙ ap (λ b. if b then (if is_constant (retyped t l.sort) then unrepresented_constant rights r i j (constant_of (retyped t l.sort)) else all_unrepresented rights r qs) else []) (closed_retyped t l.sort)

  -- where an expression wants a type it has a variable for itself, or isn't constant
  wants : (s : TypeTree) (a : Bool) (f : Form) (i j : ℕ) (l : Label TypeTree) (ps : Typeds TypeTree) (v : Option Standin) (c : Bool) → is_expression f ≡ true → masses.is_constant l.sort ≡ c
      → first_wanted v (all_wanted w (is_inside a f l) ps) ≡ Some s → (masses.is_constant l.sort ≡ false) ⊎ ((u : Standin) × (v ≡ Some u) × (u.type ≡ s))
  wants s a f i j l ps (Some v) c x e g = inr (v, refl, cc)
  wants s a f i j l ps None false x e g = inl e
  wants s a f i j l ps None true x e g =
      let inside : is_inside a f l ≡ true = ap (λ b. a || (b && masses.is_constant l.sort)) x ∙ ap (λ b. a || b) e ∙ or_last a in
      let nothing : all_wanted w (is_inside a f l) ps ≡ None = ap (λ b. all_wanted w b ps) inside ∙ none_among w ps in
      cc
    where
      or_last : (a : Bool) → (a || true) ≡ true
      or_last true = refl
      or_last false = refl

  pub wanted_open_is : (a : Bool) (f : Form) (i j : ℕ) (l : Label TypeTree) (ps : Typeds TypeTree) → is_open l.sort ≡ true → wanted w a (typed f i j l ps) ≡ first_wanted (at_hole w (is_hole a f l) i) (all_wanted w (is_inside a f l) ps)
  wanted_open_is a f i j l ps e = ap (λ b. if b then first_wanted (at_hole w (is_hole a f l) i) (all_wanted w (is_inside a f l) ps) else None) e

  pub not_at_hole : (v : Option Standin) (o : Option TypeTree) → first_wanted v o ≡ None → v ≡ None
  not_at_hole None o e = refl
  not_at_hole (Some v) o e = cc

  open_by : (t : TypeTree) (k : OpenKind) (a : Bool) (f : Form) (i j : ℕ) (l : Label TypeTree) (ps : Typeds TypeTree) (o : Option TypeTree) → Keyless (typed f i j l ps) → is_held f ≡ false → is_expression f ≡ true → is_open l.sort ≡ true
      → open_kind l.sort ≡ Some k → suits rights k t ≡ true → Fits w a (settled t (typed f i j l ps)) → wanted w a (typed f i j l ps) ≡ o → Operand rights (Some t) (typed f i j l ps) (begun w a (typed f i j l ps))
  open_by t k a f i j l ps None keys h x e m n fits is =
      let first : first_wanted (at_hole w (is_hole a f l) i) (all_wanted w (is_inside a f l) ps) ≡ None = sym (wanted_open_is a f i j l ps e) ∙ is in
      let at : at_hole w (is_hole a f l) i ≡ None = not_at_hole (at_hole w (is_hole a f l) i) (all_wanted w (is_inside a f l) ps) first in
      let same : begun w a (typed f i j l ps) ≡ put w a (typed f i j l ps) = begun_by a f i j l ps None h is in
      let plain : put w a (typed f i j l ps) ≡ put_over None f i j l (all_put w (is_inside a f l) ps) = ap (λ v. put_over v f i j l (all_put w (is_inside a f l) ps)) at in
      let stands : sort_of (put_over None f i j l (all_put w (is_inside a f l) ps)) ≡ l.sort = plain_sort f l.sort (all_put w (is_inside a f l) ps) keys.0 in
      record {
        stands = subst (Stood rights (Some t) l.sort) (sym (ap sort_of (same ∙ plain) ∙ stands)) (as_before (Some t) l.sort);
        range = λ r g. ap (unrepresented rights r) same ∙ put_in_range w rights r a (typed f i j l ps) keys.1 g;
      }
  open_by t k a f i j l ps (Some s) keys h x e m n fits is =
      let one : s ≡ t = wanted_is w t s a (typed f i j l ps) is fits in
      let first : first_wanted (at_hole w (is_hole a f l) i) (all_wanted w (is_inside a f l) ps) ≡ Some s = sym (wanted_open_is a f i j l ps e) ∙ is in
      let qs : Typeds TypeTree = all_put w (is_inside a f (retyped_label t l)) (all_settled t ps) in
      let after : begun w a (typed f i j l ps) ≡ put_over (at_hole w (is_hole a f l) i) f i j (retyped_label t l) qs =
      begun_by a f i j l ps (Some s) h is ∙ ap (λ z. put w a (settled z (typed f i j l ps))) one ∙ ap (put w a) (settled_is w t f i j l ps (open_takes w l.sort e))
      ∙ ap (λ b. put_over (at_hole w b i) f i j (retyped_label t l) qs) (hole_kept t a f l) in
      let why = wants t a f i j l ps (at_hole w (is_hole a f l) i) (masses.is_constant l.sort) x refl (first ∙ ap Some one) in
      record {
        stands = subst (λ y. Stood rights (Some t) l.sort (sort_of y)) (sym after) (stands_settled t a f i j l qs k (at_hole w (is_hole a f l) i) refl keys.0 why m n);
        range = λ r g. ap (unrepresented rights r) after ∙ settled_range t r f i j l qs (at_hole w (is_hole a f l) i) keys.0;
      }

  -- An untyped operand that takes the type t stands in its place: untyped still, or as a value of that type.
  pub open_operand : (t : TypeTree) (k : OpenKind) (a : Bool) (x : Part) → Keyless x → is_held (form_of x) ≡ false → is_expression (form_of x) ≡ true → is_open (sort_of x) ≡ true → open_kind (sort_of x) ≡ Some k → suits rights k t ≡ true
      → Fits w a (settled t x) → Operand rights (Some t) x (begun w a x)
  open_operand t k a (typed f i j l ps) keys h x e m n fits = open_by t k a f i j l ps (wanted w a (typed f i j l ps)) keys h x e m n fits refl
