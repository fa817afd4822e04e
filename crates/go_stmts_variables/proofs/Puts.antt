-- What parts of statements are with variables in them, once they are given what they are given.
use Rattle.std.proofs.Common.{◌≡◌, ◌∙◌, ℕ, Bool, true, false, List, [], ◌∷◌, ◌++◌, length, Option, Some, None, refl, sym, ap}
use Rattle.std.specs.Prelude.{◌&&◌, ◌||◌, not, is_some}
use Rattle.go_types.specs.Trees.{TypeTree}
use Rattle.go_typed.specs.declared.form.Form.{Form}
use Rattle.go_typed.specs.declared.form.Form.TheVariants as form
use Rattle.go_typed.specs.Trees.{Label, typed, Typeds, sort_of, form_of, label_of, row}
use Rattle.go_typed.specs.Trees as sort
use Rattle.go_exprs_rules.specs.declared.family.OpenKind.{OpenKind}
use Rattle.go_exprs_rules.specs.Settling.{Part, settled, Take, stay, default, as_type, given, defaulted}
use Rattle.go_exprs_rules.specs.Sorts.{Stands, is_open, takes_type, open_kind, default_type}
use Rattle.go_exprs_rules.specs.Tables.{Parts, is_held, is_variable_name, is_call, label, made}
use Rattle.go_stmts_defs.specs.Assigning.{Taking, takes, stands, rests}
use Rattle.go_stmts_defs.specs.Rules.{given_part, all_given, rest}
use Rattle.clone_window.specs.Masses.{is_hole, is_inside, is_expression}
use Rattle.clone_window.specs.Masses as masses
use Rattle.go_exprs_variables.specs.Over.{sort_over}
use Rattle.go_exprs_variables.specs.Stood.{Stood, as_before, in_place, early}
use Rattle.go_exprs_variables.specs.Variables.{Standin, Standins, ends_at, at_hole, put_over, put, wanted, all_wanted, first_wanted, or_wanted, put_with, begun, final_type, FitsAt, Fits, AllFit}
use Rattle.go_exprs_variables.proofs.Public.{All, Become, Ready, assembled, begun_by, calls_kept, commutes, each, has_taken, is_key, is_some_row, keys_kept, left_out, new_part, news, no_more, not_wanted, one, quiet_is, taken_once}
use Rattle.go_exprs_variables.proofs.Public.{typed_operand, unless_none, varies_given, wanted_is}

module _ (w : Standins) where
  pub hole_at : (b : Bool) (i : ℕ) (v : Standin) → at_hole w b i ≡ Some v → (b ≡ true) × (w i ≡ Some v)
  hole_at true i v e = (refl, e)
  hole_at false i v e = cc

  -- ---- what fits already wants no type

  untyped_final : (z : Stands) (t : TypeTree) → is_open z ≡ true → final_type z ≡ Some t → ⊥
  untyped_final (sort.Constant u c) t o e = cc
  untyped_final z t o e = cc

  or_right : (b c : Bool) → c ≡ true → (b || c) ≡ true
  or_right true c e = refl
  or_right false c e = e

  at_none : (a : Bool) (f : Form) (i j : ℕ) (l : Label TypeTree) (v : Option Standin) → at_hole w (is_hole a f l) i ≡ v → is_open l.sort ≡ true → FitsAt w a f i j l → v ≡ None
  at_none a f i j l None at o fits = refl
  at_none a f i j l (Some v) at o fits =
      let is = hole_at (is_hole a f l) i v at in
      absurd (untyped_final l.sort v.type o (fits v is.1 (or_right (ends_at (Some v) j) (is_hole a f l) is.0)).type)

  none_at : (a : Bool) (f : Form) (i j : ℕ) (l : Label TypeTree) (ps : Typeds TypeTree) (b : Bool) → is_open l.sort ≡ b → FitsAt w a f i j l → all_wanted w (is_inside a f l) ps ≡ None → wanted w a (typed f i j l ps) ≡ None
  none_at a f i j l ps false e fits inner = not_wanted [] w a f i j l ps e
  none_at a f i j l ps true e fits inner =
      unless_none (is_open l.sort) (first_wanted (at_hole w (is_hole a f l) i) (all_wanted w (is_inside a f l) ps))
      (ap (λ v. first_wanted v (all_wanted w (is_inside a f l) ps)) (at_none a f i j l (at_hole w (is_hole a f l) i) refl e fits) ∙ inner)

  mutual
    fits_wants_none : (a : Bool) (x : Part) → Fits w a x → wanted w a x ≡ None
    fits_wants_none a (typed f i j l ps) fits = none_at a f i j l ps (is_open l.sort) refl fits.0 (all_want_none (is_inside a f l) ps fits.2)

    all_want_none : (a : Bool) (ps : Typeds TypeTree) → AllFit w a ps → all_wanted w a ps ≡ None
    all_want_none a sort.none fits = refl
    all_want_none a (sort.more p ps) fits = ap (λ o. or_wanted o (all_wanted w a ps)) (fits_wants_none a p fits.0) ∙ all_want_none a ps fits.1
    all_want_none a (sort.skip ps) fits = all_want_none a ps fits

  pub begun_as : (x : Part) (o : Option TypeTree) → is_held (form_of x) ≡ false → wanted w false x ≡ o → begun w false x ≡ put_with w false o x
  begun_as (typed f i j l ps) o h e = begun_by [] w false f i j l ps o h e

  -- What fits already is as it will be.
  pub fitting_put : (x : Part) → is_held (form_of x) ≡ false → Fits w false x → begun w false x ≡ put w false x
  fitting_put x h fits = begun_as x None h (fits_wants_none false x fits)

  abbrev ready : Part → Type 0
  ready x = Ready [] w false x

  -- ---- what takes a type

  closed_none : (x : Part) → is_open (sort_of x) ≡ false → wanted w false x ≡ None
  closed_none (typed f i j l ps) e = not_wanted [] w false f i j l ps e

  type_by : (t : TypeTree) (x : Part) (o : Option TypeTree) (b : Bool) → ready x → wanted w false x ≡ o → is_open (sort_of x) ≡ b → (is_open (sort_of x) ≡ true → Fits w false (settled t x))
      → settled t (put_with w false o x) ≡ put w false (settled t x)
  type_by t x None b r e c fits = commutes w t false x r.keys.1
  type_by t x (Some s) false r e c fits = let never : None ≡ Some s = sym (closed_none x c) ∙ e in cc
  type_by t x (Some s) true r e c fits =
      let is : s ≡ t = wanted_is w t s false x e (fits c) in
      commutes w t false (settled s x) (keys_kept s x r.keys.1) ∙ ap (put w false) (taken_once t s x) ∙ ap (λ z. put w false (settled z x)) is

  type_put : (t : TypeTree) (x : Part) → ready x → Fits w false (settled t x) → settled t (begun w false x) ≡ put w false (settled t x)
  type_put t x r fits = ap (settled t) (begun_as x (wanted w false x) r.held refl) ∙ type_by t x (wanted w false x) (is_open (sort_of x)) r refl refl (λ c. fits)

  -- ---- what takes its default type

  no_kind : (z : Stands) → takes_type z ≡ false → open_kind z ≡ None
  no_kind (sort.Open u) e = cc
  no_kind (sort.OpenConstant c) e = cc
  no_kind z e = refl

  kind_open : (z : Stands) (k : OpenKind) → open_kind z ≡ Some k → is_open z ≡ true
  kind_open z k e = ap is_some e

  kind_closed : (z : Stands) → open_kind z ≡ None → is_open z ≡ false
  kind_closed z e = ap is_some e

  still_closed : (a b : Stands) (o : Option TypeTree) → Stood [] o a b → open_kind a ≡ None → open_kind b ≡ None
  still_closed a b o (as_before v c) e = e
  still_closed a b o (in_place v t c) e = refl
  still_closed a b o (early t c k m n) e = refl

  -- an untyped one that wants no type takes it as it took it
  wanting_by : (k : OpenKind) (x : Part) (o : Option TypeTree) → ready x → wanted w false x ≡ o → open_kind (sort_of x) ≡ Some k → Fits w false (settled (default_type k) x)
      → given default (begun w false x) ≡ put w false (settled (default_type k) x)
  wanting_by k x None r e m fits =
      ap (λ z. defaulted (open_kind z) (begun w false x)) (quiet_is [] w false x r (kind_open (sort_of x) k m) e) ∙ ap (λ q. defaulted q (begun w false x)) m ∙ type_put (default_type k) x r fits
  wanting_by k x (Some s) r e m fits =
      let is : s ≡ default_type k = wanted_is w (default_type k) s false x e fits in
      let now : begun w false x ≡ put w false (settled s x) = begun_as x (Some s) r.held e in
      let closed : open_kind (sort_of (put w false (settled s x))) ≡ None = no_kind (sort_of (put w false (settled s x))) (ap (λ z. takes_type (sort_of z)) (sym (commutes w s false x r.keys.1)) ∙ has_taken s (put w false x)) in
      ap (given default) now ∙ ap (λ q. defaulted q (put w false (settled s x))) closed ∙ ap (λ z. put w false (settled z x)) is

  default_by : (x : Part) (o : Option OpenKind) → ready x → open_kind (sort_of x) ≡ o → Fits w false (defaulted o x) → given default (begun w false x) ≡ put w false (defaulted o x)
  default_by x (Some k) r e fits = wanting_by k x (wanted w false x) r refl e fits
  default_by x None r e fits =
      ap (λ q. defaulted q (begun w false x)) (still_closed (sort_of x) (sort_of (begun w false x)) None (typed_operand [] w None false x r.keys r.held (kind_closed (sort_of x) e) fits).stands e) ∙ fitting_put x r.held fits

  -- What takes what its place gives it, with variables in it, is what took it.
  pub given_put : (k : Take) (x : Part) → ready x → Fits w false (given k x) → given k (begun w false x) ≡ put w false (given k x)
  given_put stay x r fits = fitting_put x r.held fits
  given_put (as_type t) x r fits = type_put t x r fits
  given_put default x r fits = default_by x (open_kind (sort_of x)) r refl fits

  -- ---- rows

  -- one part, with what it takes or stands for
  pub record Put (k : Taking) (x : Part) : Type 0 where
    pub given : given_part k (begun w false x) ≡ put w false (given_part k x)
    pub calls : (label_of (begun w false x)).calls ≡ (label_of x).calls

  pub value_put : (k : Take) (x : Part) → ready x → Fits w false (given k x) → Put (takes k) x
  value_put k x r fits = record { given = given_put k x r fits; calls = calls_kept [] w false x r }

  abbrev pub Puts : List Taking → Parts → Type 0
  Puts ks [] = Unit {0}
  Puts [] (None ∷ ys) = Puts [] ys
  Puts [] (Some y ∷ ys) = Put rests y × Puts [] ys
  Puts (k ∷ ks) (None ∷ ys) = Puts ks ys
  Puts (k ∷ ks) (Some y ∷ ys) = Put k y × Puts ks ys

  pub varies_taken : (k : Taking) (x : Part) → (label_of (given_part k x)).varies ≡ (label_of x).varies
  varies_taken (takes k) x = varies_given [] w false k x
  varies_taken (stands z) (typed f i j l ps) = refl

  pub puts_become : (ks : List Taking) (ys : Parts) → Puts ks ys → Become [] w false None ys (all_given ks ys) (news w ys) (all_given ks (news w ys))
  puts_become [] [] h = no_more
  puts_become (k ∷ ks) [] h = no_more
  puts_become [] (None ∷ ys) h = left_out ys ys (news w ys) (news w ys) (puts_become [] ys h)
  puts_become [] (Some y ∷ ys) h = one y y (begun w false y) (begun w false y) ys ys (news w ys) (news w ys) h.0.given h.0.calls refl (puts_become [] ys h.1)
  puts_become (k ∷ ks) (None ∷ ys) h = left_out ys (all_given ks ys) (news w ys) (all_given ks (news w ys)) (puts_become ks ys h)
  puts_become (k ∷ ks) (Some y ∷ ys) h =
      one y (given_part k y) (begun w false y) (given_part k (begun w false y)) ys (all_given ks ys) (news w ys) (all_given ks (news w ys)) h.0.given h.0.calls (varies_taken k (begun w false y)) (puts_become ks ys h.1)

  pub puts_rest : (xs : List Part) (ks : List Taking) (ys : Parts) → All (Put rests) xs → Puts ks ys → Puts (rest (length xs) ++ ks) (each xs ++ ys)
  puts_rest [] ks ys h g = g
  puts_rest (x ∷ xs) ks ys h g = (h.0, puts_rest xs ks ys h.1 g)

  -- ---- nodes

  some_row : (ks : List Taking) (y : Option Part) (ys : Parts) → is_some_row [] w false (all_given ks (y ∷ ys)) ≡ true
  some_row [] y ys = refl
  some_row (k ∷ ks) y ys = refl

  -- a statement over parts with variables in them
  pub record IsStatementForm (f : Form) : Type 0 where
    pub held : is_held f ≡ false
    pub key : is_key f ≡ false
    pub call : is_call f ≡ false
    pub name : (z : Stands) → is_variable_name f z ≡ false

  -- a node without parts
  over_none : (f : Form) (z : Stands) → sort_over f z sort.none ≡ z
  over_none (form.Keyed n) z = refl
  over_none f z = refl

  pub no_hole : (f : Form) (l : Label TypeTree) → masses.is_constant l.sort ≡ false → is_hole false f l ≡ false
  no_hole f l c = ap (λ z. (is_expression f && z) && not l.varies) c ∙ by (is_expression f)
    where
      by : (b : Bool) → ((b && false) && not l.varies) ≡ false
      by true = refl
      by false = refl

  pub put_bare : (f : Form) (i j : ℕ) (l : Label TypeTree) → masses.is_constant l.sort ≡ false → put w false (typed f i j l sort.none) ≡ typed f i j l sort.none
  put_bare f i j l c = ap (λ b. put_over (at_hole w b i) f i j l sort.none) (no_hole f l c) ∙ ap (λ z. typed f i j (record { sort = z; varies = l.varies; calls = l.calls }) sort.none) (over_none f l.sort)

  pub begun_bare : (f : Form) (i j : ℕ) (l : Label TypeTree) → is_held f ≡ false → masses.is_constant l.sort ≡ false → is_open l.sort ≡ false → begun w false (typed f i j l sort.none) ≡ typed f i j l sort.none
  begun_bare f i j l h c o = begun_by [] w false f i j l sort.none None h (not_wanted [] w false f i j l sort.none o) ∙ put_bare f i j l c

  pub node_put : (f : Form) (i j : ℕ) (ks : List Taking) (ys : Parts) → IsStatementForm f → Puts ks ys
      → made f i j sort.Nothing (news w ys) (all_given ks (news w ys)) ≡ begun w false (made f i j sort.Nothing ys (all_given ks ys))
  node_put f i j [] [] is h = sym (begun_bare f i j (label f sort.Nothing []) is.held refl refl)
  node_put f i j (k ∷ ks) [] is h = sym (begun_bare f i j (label f sort.Nothing []) is.held refl refl)
  node_put f i j ks (y ∷ ys) is h =
      assembled [] w false f i j sort.Nothing sort.Nothing (y ∷ ys) (all_given ks (y ∷ ys)) (news w (y ∷ ys)) (all_given ks (news w (y ∷ ys))) None is.key is.held refl (some_row ks (new_part w y) (news w ys))
      (is.name sort.Nothing) refl refl refl
      (puts_become ks (y ∷ ys) h)

  -- ---- values

  -- nothing is told of what they stand for
  abbrev pub AllTake : List Taking → Type 0
  AllTake [] = Unit {0}
  AllTake (takes k ∷ ks) = AllTake ks
  AllTake (stands z ∷ ks) = ⊥

  pub fits_put : (ks : List Taking) (xs : List Part) → AllTake ks → All ready xs → AllFit w false (row (all_given ks (each xs))) → Puts ks (each xs)
  fits_put [] [] t r fits = tt
  fits_put (k ∷ ks) [] t r fits = tt
  fits_put [] (x ∷ xs) t r fits = (value_put stay x r.0 fits.0, fits_put [] xs tt r.1 fits.1)
  fits_put (takes k ∷ ks) (x ∷ xs) t r fits = (value_put k x r.0 fits.0, fits_put ks xs t r.1 fits.1)
  fits_put (stands z ∷ ks) (x ∷ xs) t r fits = elim t [ ]
