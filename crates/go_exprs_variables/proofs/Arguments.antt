-- Values that a node gives types: whether they fit, and what they are with variables in them.
use Rattle.std.proofs.Common.{◌≡◌, ◌∙◌, Bool, true, false, [], Option, Some, None, refl, ap, subst}
use Rattle.std.specs.Prelude.{◌||◌, is_some}
use Rattle.std.specs.Option.{option_map}
use Rattle.go_base.specs.declared.fault.FaultCode.TheVariants as code
use Rattle.go_types.specs.Trees.{TypeTree}
use Rattle.go_types.specs.Relations.{Rights}
use Rattle.go_typed.specs.Trees.{Sort, typed, sort_of}
use Rattle.go_typed.specs.Trees as sort
use Rattle.go_exprs_rules.specs.declared.family.OpenKind.{OpenKind}
use Rattle.go_exprs_rules.specs.Settling.{Part, settled, unrepresented, Take, default, as_type, given, defaulted, unassignable_by, unassignable, untyped_unassignable}
use Rattle.go_exprs_rules.specs.Sorts.{Stands, is_constant, is_open, is_nil, is_unknown, takes_type, open_kind, default_type, suits}
use Rattle.go_exprs_rules.specs.Tables.{is_type}
use Rattle.go_exprs_variables.specs.Operands.{Operand}
use Rattle.go_exprs_variables.specs.Stood.{Stood, as_before, in_place, early}
use Rattle.go_exprs_variables.specs.Variables as variables
use Rattle.go_exprs_variables.specs.Variables.{Standins, begun, put, Fits, WillFit}
use Rattle.go_exprs_variables.proofs.Assembly.{keeps_type}
use Rattle.go_exprs_variables.proofs.Defaults.{default_suits}
use Rattle.go_exprs_variables.proofs.Given.{passes, no_place}
use Rattle.go_exprs_variables.proofs.Operands.{Ready, Fitting, closed_so, open_so, Defaulting, closed_default, open_default, operand, default_operand, given_under, given_default}
use Rattle.go_exprs_variables.proofs.Ready.{Facts}

pub still_known : (rights : Rights) (u : Option TypeTree) (b c : Stands) → Stood rights u b c → is_unknown b ≡ false → is_unknown c ≡ false
still_known rights u b c (as_before v z) e = e
still_known rights u b c (in_place v t z) e = refl
still_known rights u b c (early t z k m n) e = refl

module _ (w : Standins) (rights : Rights) where
  -- A value that a node gives something: it will fit, and with variables in it is given what it was, with the variables in it.
  pub record Given (k : Take) (u : Option TypeTree) (x : Part) : Type 0 where
    pub ready : Ready rights w false x
    pub fits : WillFit rights w false x
    pub operand : Operand rights u x (begun w false x)
    pub gives : given k (begun w false x) ≡ put w false (given k x)
    pub known : is_unknown (sort_of (begun w false x)) ≡ false

  -- ---- a type

  pub given_fitting : (t : TypeTree) (x : Part) → Ready rights w false x → Fitting rights w false t x → WillFit rights w false x → Given (as_type t) (Some t) x
  given_fitting t x r f fits =
      let ops = operand rights w false t x r f in
      record {
        ready = r;
        fits = fits;
        operand = ops;
        gives = given_under rights w false None t x r f;
        known = still_known rights (Some t) (sort_of x) (sort_of (begun w false x)) ops.stands r.known;
      }

  pub closed_given : (t : TypeTree) (x : Part) → Ready rights w false x → is_open (sort_of x) ≡ false → Fits w false x → Given (as_type t) (Some t) x
  closed_given t x r e fits = given_fitting t x r (closed_so e fits) (variables.has e fits)

  open_known : (z : Stands) (k : OpenKind) → open_kind z ≡ Some k → is_unknown z ≡ false
  open_known sort.Unknown k e = cc
  open_known z k e = refl

  open_given : (t : TypeTree) (x : Part) (z : Stands) (o : Option OpenKind) → open_kind z ≡ o → sort_of x ≡ z → Facts w rights x → is_type z ≡ false → untyped_unassignable rights t o x ≡ [] → Fits w false (settled t x) → Given (as_type t) (Some t) x
  open_given t x z None m is facts n e fits = absurd (no_place code.Assignable x e)
  open_given t x z (Some k) m is facts n e fits =
      let p = passes (suits rights k t) (unrepresented rights t x) code.Assignable x e in
      let at : open_kind (sort_of x) ≡ Some k = ap open_kind is ∙ m in
      let r = facts.ready (open_known (sort_of x) k at) (ap is_type is ∙ n) in
      given_fitting t x r (open_so k at p.0 fits) (variables.takes t k at p.0 (λ c. p.1) fits)

  given_by : (t : TypeTree) (x : Part) (z : Stands) → sort_of x ≡ z → Facts w rights x → is_unknown z ≡ false → unassignable_by rights t z x ≡ [] → Fits w false (settled t x) → Given (as_type t) (Some t) x
  given_by t x (sort.Value u) is facts known e fits =
      let r = facts.ready (ap is_unknown is) (ap is_type is) in
      closed_given t x r (ap is_open is) (subst (Fits w false) (keeps_type t x (ap takes_type is)) fits)
  given_by t x (sort.Constant u c) is facts known e fits =
      let r = facts.ready (ap is_unknown is) (ap is_type is) in
      closed_given t x r (ap is_open is) (subst (Fits w false) (keeps_type t x (ap takes_type is)) fits)
  given_by t x sort.Nil is facts known e fits =
      let r = facts.ready (ap is_unknown is) (ap is_type is) in
      closed_given t x r (ap is_open is) (facts.nil (ap is_nil is) t fits)
  given_by t x (sort.Open u) is facts known e fits = open_given t x (sort.Open u) (open_kind (sort.Open u)) refl is facts refl e fits
  given_by t x (sort.OpenConstant c) is facts known e fits = open_given t x (sort.OpenConstant c) (open_kind (sort.OpenConstant c)) refl is facts refl e fits
  given_by t x sort.Unknown is facts known e fits = cc
  given_by t x z is facts known e fits = absurd (no_place code.Assignable x e)

  -- A value that may be given to a variable of the type t, and fits once it has that type.
  pub given_value : (t : TypeTree) (x : Part) → Facts w rights x → is_unknown (sort_of x) ≡ false → unassignable rights t x ≡ [] → Fits w false (settled t x) → Given (as_type t) (Some t) x
  given_value t x facts known e fits = given_by t x (sort_of x) refl facts known e fits

  -- ---- the default type

  abbrev pub default_of : Part → Option TypeTree
  default_of x = option_map default_type (open_kind (sort_of x))

  default_by : (x : Part) (o : Option OpenKind) → open_kind (sort_of x) ≡ o → Ready rights w false x → is_nil (sort_of x) ≡ false → (is_constant (sort_of x) ≡ false → (k : OpenKind) → open_kind (sort_of x) ≡ Some k → unrepresented rights (default_type k) x ≡ [])
      → Fits w false (defaulted o x) → Defaulting rights w false x × WillFit rights w false x
  default_by x None is r unnil range fits = let e : is_open (sort_of x) ≡ false = ap is_some is in (closed_default e fits, variables.has e fits)
  default_by x (Some k) is r unnil range fits = (open_default k is fits, variables.takes (default_type k) k is (default_suits rights k) (λ c. range c k is) fits)

  pub given_by_default : (x : Part) → Ready rights w false x → is_nil (sort_of x) ≡ false → (is_constant (sort_of x) ≡ false → (k : OpenKind) → open_kind (sort_of x) ≡ Some k → unrepresented rights (default_type k) x ≡ []) → Fits w false (given default x)
      → Given default (default_of x) x
  given_by_default x r unnil range fits =
      let both = default_by x (open_kind (sort_of x)) refl r unnil range fits in
      let ops = default_operand rights w false x r both.0 in
      record {
        ready = r;
        fits = both.1;
        operand = ops;
        gives = given_default rights w false None x r (takes_by (sort_of x) unnil) both.0;
        known = still_known rights (default_of x) (sort_of x) (sort_of (begun w false x)) ops.stands r.known;
      }
    where
      takes_by : (z : Stands) → is_nil z ≡ false → takes_type z ≡ is_open z
      takes_by z e = ap (λ b. is_open z || b) e ∙ or_false (is_open z)
        where
          or_false : (b : Bool) → (b || false) ≡ b
          or_false true = refl
          or_false false = refl
