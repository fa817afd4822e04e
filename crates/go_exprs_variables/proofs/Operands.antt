-- Parts of a node, with variables in them: what they are as operands, and what they are once the node has given them what it gives.
use Rattle.std.proofs.Common.{◌≡◌, ◌∙◌, ℕ, Bool, true, false, Option, Some, None, refl, sym, ap, subst}
use Rattle.std.specs.Prelude.{if◌then◌else◌}
use Rattle.std.specs.Option.{option_map}
use Rattle.go_types.specs.Trees.{TypeTree}
use Rattle.go_types.specs.Relations.{Rights}
use Rattle.go_typed.specs.declared.form.Form.{Form}
use Rattle.go_typed.specs.declared.form.Form.TheVariants as form
use Rattle.go_typed.specs.Trees.{Sort, Label, Typed, typed, Typeds, sort_of, form_of, label_of}
use Rattle.go_typed.specs.Trees as sort
use Rattle.go_exprs_rules.specs.declared.family.OpenKind.{OpenKind}
use Rattle.go_exprs_rules.specs.Settling.{Part, settled, all_settled, Take, stay, default, as_type, given, defaulted}
use Rattle.go_exprs_rules.specs.Sorts.{Stands, is_open, takes_type, is_unknown, retyped, open_kind, default_type, suits}
use Rattle.go_exprs_rules.specs.Tables.{is_held}
use Rattle.clone_window.specs.Masses.{is_hole, is_inside, is_expression}
use Rattle.clone_window.specs.Masses as masses
use Rattle.go_exprs_variables.specs.Over.{varies_over}
use Rattle.go_exprs_variables.specs.Stood.{Stood, as_before, in_place, early}
use Rattle.go_exprs_variables.specs.Variables.{Standin, Standins, at_hole, put_over, put, all_put, wanted, all_wanted, first_wanted, put_with, begun, Fits}
use Rattle.go_exprs_variables.proofs.Defaults.{default_suits}
use Rattle.go_exprs_variables.proofs.Parts.{Operand}
use Rattle.go_exprs_variables.proofs.Trees.{is_key, KeyAgrees, Agrees, AllAgree, Keyless, plain_sort, retyped_label, varies_kept, commutes}
use Rattle.go_exprs_variables.proofs.Begun.{begun_by, wanted_is, there, hole_constant, not_wanted, typed_operand, open_operand, wanted_open_is, not_at_hole}
use Rattle.go_exprs_variables.proofs.Assembly.{keeps_type, has_taken, taken_once, varies_settled, putting, putting_closed}

module _ (t : TypeTree) where
  retyped_closed : (s : Stands) → takes_type s ≡ false → retyped t s ≡ s
  retyped_closed (sort.Open k) e = cc
  retyped_closed sort.Nil e = cc
  retyped_closed (sort.OpenConstant c) e = cc
  retyped_closed s e = refl

  -- what a tree stands for that takes a type
  pub settled_sort : (x : Part) → sort_of (settled t x) ≡ retyped t (sort_of x)
  settled_sort (typed f i j l ps) = by_test (takes_type l.sort) refl
    where
      by_test : (b : Bool) → takes_type l.sort ≡ b → sort_of (settled t (typed f i j l ps)) ≡ retyped t l.sort
      by_test true e = ap (λ c. sort_of (if c then typed f i j (retyped_label t l) (all_settled t ps) else typed f i j l ps)) e
      by_test false e = ap (λ c. sort_of (if c then typed f i j (retyped_label t l) (all_settled t ps) else typed f i j l ps)) e ∙ sym (retyped_closed l.sort e)

  key_kept : (f : Form) (s : Stands) (ps : Typeds TypeTree) → KeyAgrees f s ps → KeyAgrees f (retyped t s) (all_settled t ps)
  key_kept (form.Keyed n) s (sort.more p sort.none) h = ap (retyped t) h ∙ sym (settled_sort p)
  key_kept (form.Keyed n) s sort.none h = absurd h
  key_kept (form.Keyed n) s (sort.skip ps) h = absurd h
  key_kept (form.Keyed n) s (sort.more p (sort.more q ps)) h = absurd h
  key_kept (form.Keyed n) s (sort.more p (sort.skip ps)) h = absurd h
  key_kept f s ps h = tt

  keys_by : (b : Bool) (f : Form) (i j : ℕ) (l : Label TypeTree) (ps : Typeds TypeTree) → KeyAgrees f l.sort ps → varies_over l.varies ps ≡ l.varies → AllAgree ps → AllAgree (all_settled t ps) → Agrees (if b then typed f i j (retyped_label t l) (all_settled t ps) else typed f i j l ps)
  keys_by true f i j l ps h v n k = (key_kept f l.sort ps h, varies_kept t l.varies ps ∙ v, k)
  keys_by false f i j l ps h v n k = (h, v, n)

  mutual
    pub keys_kept : (x : Part) → Agrees x → Agrees (settled t x)
    keys_kept (typed f i j l ps) h = keys_by (takes_type l.sort) f i j l ps h.0 h.1 h.2 (keys_among ps h.2)

    pub keys_among : (ps : Typeds TypeTree) → AllAgree ps → AllAgree (all_settled t ps)
    keys_among sort.none h = h
    keys_among (sort.more p ps) h = (keys_kept p h.0, keys_among ps h.1)
    keys_among (sort.skip ps) h = keys_among ps h

module _ (rights : Rights) (w : Standins) (a : Bool) where
  -- What is known of an operand, whatever variables there are.
  pub record Ready (x : Part) : Type 0 where
    pub keys : Keyless x
    pub held : is_held (form_of x) ≡ false
    pub expression : is_open (sort_of x) ≡ true → is_expression (form_of x) ≡ true
    pub known : is_unknown (sort_of x) ≡ false
    pub quiet : masses.is_constant (sort_of x) ≡ true → (label_of x).calls ≡ false

  -- An operand that has its type, or takes this one, and fits then.
  pub data Fitting (t : TypeTree) (x : Part) : Type 0 where
    closed_so : is_open (sort_of x) ≡ false → Fits w a x → Fitting t x
    open_so : (k : OpenKind) → open_kind (sort_of x) ≡ Some k → suits rights k t ≡ true → Fits w a (settled t x) → Fitting t x

  is_open_by : (s : Stands) (k : OpenKind) → open_kind s ≡ Some k → is_open s ≡ true
  is_open_by (sort.Open u) k e = refl
  is_open_by (sort.OpenConstant c) k e = refl
  is_open_by (sort.Value u) k e = cc
  is_open_by (sort.Constant u c) k e = cc
  is_open_by sort.Nothing k e = cc
  is_open_by sort.Unknown k e = cc
  is_open_by sort.Blank k e = cc
  is_open_by sort.Nil k e = cc
  is_open_by (sort.Builtin b) k e = cc
  is_open_by sort.Println k e = cc
  is_open_by sort.Package k e = cc
  is_open_by (sort.IsType u) k e = cc
  is_open_by (sort.Results u) k e = cc

  pub operand : (t : TypeTree) (x : Part) → Ready x → Fitting t x → Operand rights (Some t) x (begun w a x)
  operand t x r (closed_so e fits) = typed_operand rights w (Some t) a x r.keys r.held e fits
  operand t x r (open_so k e s fits) = let o = is_open_by (sort_of x) k e in open_operand rights w t k a x r.keys r.held (r.expression o) o e s fits

  -- ---- calls

  calls_put : (v : Option Standin) (f : Form) (i j : ℕ) (l : Label TypeTree) (qs : Typeds TypeTree) → at_hole w (is_hole a f l) i ≡ v → (masses.is_constant l.sort ≡ true → l.calls ≡ false) → (label_of (put_over v f i j l qs)).calls ≡ l.calls
  calls_put None f i j l qs e q = refl
  calls_put (Some v) f i j l qs e q = sym (q (hole_constant w a f l (there w (is_hole a f l) i v e).0))

  same_constant : (t : TypeTree) (s : Stands) → masses.is_constant (retyped t s) ≡ true → masses.is_constant s ≡ true
  same_constant t (sort.Open u) e = cc
  same_constant t (sort.OpenConstant c) e = refl
  same_constant t (sort.Value u) e = cc
  same_constant t (sort.Constant u c) e = refl
  same_constant t sort.Nothing e = cc
  same_constant t sort.Unknown e = cc
  same_constant t sort.Blank e = cc
  same_constant t sort.Nil e = cc
  same_constant t (sort.Builtin b) e = cc
  same_constant t sort.Println e = cc
  same_constant t sort.Package e = cc
  same_constant t (sort.IsType u) e = cc
  same_constant t (sort.Results u) e = cc

  calls_typed : (t : TypeTree) (f : Form) (i j : ℕ) (l : Label TypeTree) (ps : Typeds TypeTree) (b : Bool) → (masses.is_constant l.sort ≡ true → l.calls ≡ false)
      → (label_of (put w a (if b then typed f i j (retyped_label t l) (all_settled t ps) else typed f i j l ps))).calls ≡ l.calls
  calls_typed t f i j l ps true q = calls_put (at_hole w (is_hole a f (retyped_label t l)) i) f i j (retyped_label t l) (all_put w (is_inside a f (retyped_label t l)) (all_settled t ps)) refl (λ e. q (same_constant t l.sort e))
  calls_typed t f i j l ps false q = calls_put (at_hole w (is_hole a f l) i) f i j l (all_put w (is_inside a f l) ps) refl q

  calls_with : (o : Option TypeTree) (f : Form) (i j : ℕ) (l : Label TypeTree) (ps : Typeds TypeTree) → (masses.is_constant l.sort ≡ true → l.calls ≡ false) → (label_of (put_with w a o (typed f i j l ps))).calls ≡ l.calls
  calls_with None f i j l ps q = calls_put (at_hole w (is_hole a f l) i) f i j l (all_put w (is_inside a f l) ps) refl q
  calls_with (Some t) f i j l ps q = calls_typed t f i j l ps (takes_type l.sort) q

  -- A node has a call with variables in it where it had one: a constant, which may be a hole, has none.
  pub calls_kept : (x : Part) → Ready x → (label_of (begun w a x)).calls ≡ (label_of x).calls
  calls_kept (typed f i j l ps) r =
      ap (λ y. (label_of y).calls) (begun_by rights w a f i j l ps (wanted w a (typed f i j l ps)) r.held refl) ∙ calls_with (wanted w a (typed f i j l ps)) f i j l ps r.quiet

  -- ---- what is given

  pub begun_as : (x : Part) (o : Option TypeTree) → Ready x → wanted w a x ≡ o → begun w a x ≡ put_with w a o x
  begun_as (typed f i j l ps) o r e = begun_by rights w a f i j l ps o r.held e

  pub closed_wants : (x : Part) → is_open (sort_of x) ≡ false → wanted w a x ≡ None
  closed_wants (typed f i j l ps) e = not_wanted rights w a f i j l ps e

  -- the type that it takes, and that it wants, if it wants one
  given_by : (t : TypeTree) (x : Part) (o : Option TypeTree) → Ready x → wanted w a x ≡ o → (is_open (sort_of x) ≡ true → Fits w a (settled t x)) → is_open (sort_of x) ≡ true → settled t (put_with w a o x) ≡ put w a (settled t x)
  given_by t x None r e fits o = commutes w t a x r.keys.1
  given_by t x (Some s) r e fits o =
      let is : s ≡ t = wanted_is w t s a x e (fits o) in
      commutes w t a (settled s x) (keys_kept s x r.keys.1) ∙ ap (put w a) (taken_once t s x) ∙ ap (λ z. put w a (settled z x)) is

  open_or_not : (t : TypeTree) (x : Part) (b : Bool) → is_open (sort_of x) ≡ b → Ready x → (is_open (sort_of x) ≡ true → Fits w a (settled t x)) → settled t (begun w a x) ≡ put w a (settled t x)
  open_or_not t x true e r fits = ap (settled t) (begun_as x (wanted w a x) r refl) ∙ given_by t x (wanted w a x) r refl fits e
  open_or_not t x false e r fits = ap (settled t) (begun_as x None r (closed_wants x e)) ∙ commutes w t a x r.keys.1

  settles : (t : TypeTree) (x : Part) → Fitting t x → is_open (sort_of x) ≡ true → Fits w a (settled t x)
  settles t x (closed_so e fits) o = absurd (no_both e o)
    where
      no_both : {b : Bool} → b ≡ false → b ≡ true → ⊥
      no_both e f = cc
  settles t x (open_so k e s fits) o = fits

  -- What takes a type with variables in it is what took it, with the variables in it.
  pub given_type : (t : TypeTree) (x : Part) → Ready x → Fitting t x → settled t (begun w a x) ≡ put w a (settled t x)
  given_type t x r f = open_or_not t x (is_open (sort_of x)) refl r (settles t x f)

  -- under any node
  pub given_under : (o : Option TypeTree) (t : TypeTree) (x : Part) → Ready x → Fitting t x → settled t (begun w a x) ≡ putting rights w a o (settled t x)
  given_under o t x r f = given_type t x r f ∙ sym (putting_closed rights w a o (settled t x) (has_taken t x))

  -- ---- what has its type, and takes nothing

  pub closed_part : (o : Option TypeTree) (x : Part) → Ready x → takes_type (sort_of x) ≡ false → is_open (sort_of x) ≡ false → begun w a x ≡ putting rights w a o x
  closed_part o x r e f = begun_as x None r (closed_wants x f) ∙ sym (putting_closed rights w a o x e)

  -- ---- default types

  pub data Defaulting (x : Part) : Type 0 where
    closed_default : is_open (sort_of x) ≡ false → Fits w a x → Defaulting x
    open_default : (k : OpenKind) → open_kind (sort_of x) ≡ Some k → Fits w a (settled (default_type k) x) → Defaulting x

  fitting_default : (k : OpenKind) (x : Part) → open_kind (sort_of x) ≡ Some k → Fits w a (settled (default_type k) x) → Fitting (default_type k) x
  fitting_default k x e fits = open_so k e (default_suits rights k) fits

  pub default_operand : (x : Part) → Ready x → Defaulting x → Operand rights (option_map default_type (open_kind (sort_of x))) x (begun w a x)
  default_operand x r (closed_default e fits) = typed_operand rights w (option_map default_type (open_kind (sort_of x))) a x r.keys r.held e fits
  default_operand x r (open_default k e fits) = subst (λ o. Operand rights o x (begun w a x)) (sym (ap (option_map default_type) e)) (operand (default_type k) x r (fitting_default k x e fits))

  no_kind : (s : Stands) → is_open s ≡ false → open_kind s ≡ None
  no_kind (sort.Open u) e = cc
  no_kind (sort.OpenConstant c) e = cc
  no_kind (sort.Value u) e = refl
  no_kind (sort.Constant u c) e = refl
  no_kind sort.Nothing e = refl
  no_kind sort.Unknown e = refl
  no_kind sort.Blank e = refl
  no_kind sort.Nil e = refl
  no_kind (sort.Builtin b) e = refl
  no_kind sort.Println e = refl
  no_kind sort.Package e = refl
  no_kind (sort.IsType u) e = refl
  no_kind (sort.Results u) e = refl

  still_closed : (o : Option TypeTree) (s z : Stands) → Stood rights o s z → is_open s ≡ false → open_kind z ≡ None
  still_closed o s z (as_before v c) e = no_kind c e
  still_closed o s z (in_place v t c) e = refl
  still_closed o s z (early t c k m n) e = refl

  by_stood : (k : OpenKind) (o : Option TypeTree) (s z : Stands) (x y : Part) → Stood rights o s z → s ≡ sort_of x → z ≡ sort_of y → o ≡ Some (default_type k) → open_kind s ≡ Some k → settled (default_type k) y ≡ put w a (settled (default_type k) x)
      → given default y ≡ put w a (settled (default_type k) x)
  by_stood k o s z x y (as_before v c) e f g m h = ap (λ q. defaulted q y) (ap open_kind (sym f) ∙ m) ∙ h
  by_stood k o s z x y (in_place v t c) e f g m h = cc
  by_stood k o s z x y (early t c k' m' n) e f g m h = ap (λ q. defaulted (open_kind q) y) (sym f) ∙ sym (keeps_type (default_type k) y (ap takes_type (sym f))) ∙ h

  -- What takes its default type with variables in it is what took it.
  pub given_default : (o : Option TypeTree) (x : Part) → Ready x → takes_type (sort_of x) ≡ is_open (sort_of x) → Defaulting x → given default (begun w a x) ≡ putting rights w a o (given default x)
  given_default o x r n (closed_default e fits) =
      let z = default_operand x r (closed_default e fits) in
      ap (λ q. defaulted q (begun w a x)) (still_closed (option_map default_type (open_kind (sort_of x))) (sort_of x) (sort_of (begun w a x)) z.stands e)
      ∙ closed_part o x r (n ∙ e) e ∙ ap (λ q. putting rights w a o (defaulted q x)) (sym (no_kind (sort_of x) e))
  given_default o x r n (open_default k e fits) =
      let z = default_operand x r (open_default k e fits) in
      by_stood k (option_map default_type (open_kind (sort_of x))) (sort_of x) (sort_of (begun w a x)) x (begun w a x) z.stands refl refl (ap (option_map default_type) e) e (given_type (default_type k) x r (fitting_default k x e fits))
      ∙ sym (putting_closed rights w a o (settled (default_type k) x) (has_taken (default_type k) x)) ∙ ap (λ q. putting rights w a o (defaulted q x)) (sym e)

  -- ---- what takes the type of its node later

  -- under a node that wants what this part wants
  pub stays : (x : Part) (o : Option TypeTree) → Ready x → wanted w a x ≡ o → begun w a x ≡ putting rights w a o x
  stays x None r e = begun_as x None r e
  stays x (Some t) r e = begun_as x (Some t) r e

  -- under a node that wants a type of another part's
  pub sooner_taken : (t : TypeTree) (x : Part) → Ready x → Fits w a (settled t x) → settled t (begun w a x) ≡ putting rights w a (Some t) x
  sooner_taken t x r fits = open_or_not t x (is_open (sort_of x)) refl r (λ e. fits)

  -- ---- labels

  pub varies_given : (k : Take) (x : Part) → (label_of (given k x)).varies ≡ (label_of x).varies
  varies_given stay x = refl
  varies_given (as_type t) x = varies_settled t x
  varies_given default x = by_kind (open_kind (sort_of x))
    where
      by_kind : (k : Option OpenKind) → (label_of (defaulted k x)).varies ≡ (label_of x).varies
      by_kind (Some k) = varies_settled (default_type k) x
      by_kind None = refl

  -- ---- what operands stand for that wait for their type

  -- one that wants a type is a value of it
  typed_by : (t : TypeTree) (o : Option TypeTree) (s z : Stands) → Stood rights o s z → o ≡ Some t → is_open s ≡ true → takes_type z ≡ false → z ≡ sort.Value t
  typed_by t o s z (as_before v c) e f g = absurd (untyped c f g)
    where
      untyped : (c : Stands) → is_open c ≡ true → takes_type c ≡ false → ⊥
      untyped (sort.Open u) f g = cc
      untyped (sort.OpenConstant u) f g = cc
      untyped sort.Nil f g = cc
      untyped (sort.Value u) f g = cc
      untyped (sort.Constant u v) f g = cc
      untyped sort.Nothing f g = cc
      untyped sort.Unknown f g = cc
      untyped sort.Blank f g = cc
      untyped (sort.Builtin b) f g = cc
      untyped sort.Println f g = cc
      untyped sort.Package f g = cc
      untyped (sort.IsType u) f g = cc
      untyped (sort.Results u) f g = cc
  typed_by t o s z (in_place v u c) e f g = cc
  typed_by t o s z (early u c k m n) e f g = let same : u ≡ t = cc in ap sort.Value same

  pub wanting_is : (t u : TypeTree) (x : Part) → Ready x → Fitting t x → wanted w a x ≡ Some u → (u ≡ t) × (sort_of (begun w a x) ≡ sort.Value t)
  wanting_is t u x r (closed_so e fits) is = absurd (none_some (sym (closed_wants x e) ∙ is))
    where
      none_some : None ≡ Some u → ⊥
      none_some e = cc
  wanting_is t u x r (open_so k e s fits) is =
      let same : u ≡ t = wanted_is w t u a x is fits in
      let ops = operand t x r (open_so k e s fits) in
      let after : begun w a x ≡ put w a (settled u x) = begun_as x (Some u) r is in
      let typed_now : takes_type (sort_of (begun w a x)) ≡ false = ap (λ y. takes_type (sort_of y)) (after ∙ sym (commutes w u a x r.keys.1)) ∙ has_taken u (put w a x) in
      (same, typed_by t (Some t) (sort_of x) (sort_of (begun w a x)) ops.stands refl (is_open_by (sort_of x) k e) typed_now)

  -- one that wants none is untyped as before
  quiet_sort : (f : Form) (i j : ℕ) (l : Label TypeTree) (ps : Typeds TypeTree) → is_key f ≡ false → is_open l.sort ≡ true → wanted w a (typed f i j l ps) ≡ None → sort_of (put w a (typed f i j l ps)) ≡ l.sort
  quiet_sort f i j l ps k e is =
      let first : first_wanted (at_hole w (is_hole a f l) i) (all_wanted w (is_inside a f l) ps) ≡ None = sym (wanted_open_is rights w a f i j l ps e) ∙ is in
      ap (λ v. sort_of (put_over v f i j l (all_put w (is_inside a f l) ps))) (not_at_hole rights w (at_hole w (is_hole a f l) i) (all_wanted w (is_inside a f l) ps) first) ∙ plain_sort f l.sort (all_put w (is_inside a f l) ps) k

  pub quiet_is : (x : Part) → Ready x → is_open (sort_of x) ≡ true → wanted w a x ≡ None → sort_of (begun w a x) ≡ sort_of x
  quiet_is (typed f i j l ps) r e is = ap sort_of (begun_as (typed f i j l ps) None r is) ∙ quiet_sort f i j l ps r.keys.0 e is
