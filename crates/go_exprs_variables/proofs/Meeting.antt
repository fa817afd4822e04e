-- The type in which two operands meet, where variables stand in place of constants in them.
use Rattle.std.proofs.Common.{◌≡◌, ◌∙◌, ◌⊎◌, inl, inr, Bool, true, false, Option, Some, None, refl, sym, ap, subst}
use Rattle.std.specs.Prelude.{if◌then◌else◌}
use Rattle.go_types.specs.Trees.{TypeTree}
use Rattle.go_types.specs.Relations.{Rights}
use Rattle.go_types_relations.specs.Identity.{is_identical}
use Rattle.go_types_relations.specs.Tests.{underlying_of}
use Rattle.go_typed.specs.Trees.{Sort}
use Rattle.go_typed.specs.Trees as sort
use Rattle.go_exprs_rules.specs.declared.family.OpenKind.{OpenKind}
use Rattle.go_exprs_rules.specs.declared.family.OpenKind.TheVariants as untyped_kind
use Rattle.go_exprs_rules.specs.Operators.{Common, in_type, in_kind, common, common_by, common_kind, kind_common, one_typed, open_kinds}
use Rattle.go_exprs_rules.specs.Sorts.{Stands, own_type, open_kind, constant_of, suits, is_family, family_of_open, family_of_type}
pub use Rattle.go_exprs_variables.specs.Operands.{meeting_take}
use Rattle.go_exprs_variables.specs.Stood.{Stood, as_before, in_place, early, taken}

-- ---- what is asked of operands

-- The operand has the type or the kind that it had; or it was untyped, and has the type that it takes.
pub data Seen (rights : Rights) (o : Option TypeTree) (a b : Stands) : Type 0 where
  unchanged : own_type b ≡ own_type a → open_kind b ≡ open_kind a → Seen rights o a b
  closed : (t : TypeTree) (k : OpenKind) → own_type a ≡ None → open_kind a ≡ Some k → own_type b ≡ Some t → open_kind b ≡ None → o ≡ Some t → suits rights k t ≡ true → Seen rights o a b

no_type : (a : Stands) (k : OpenKind) → open_kind a ≡ Some k → own_type a ≡ None
no_type (sort.Open u) k e = refl
no_type (sort.OpenConstant c) k e = refl
no_type sort.Nothing k e = refl
no_type sort.Unknown k e = refl
no_type sort.Blank k e = refl
no_type sort.Nil k e = refl
no_type (sort.Builtin b) k e = refl
no_type sort.Println k e = refl
no_type sort.Package k e = refl
no_type (sort.IsType t) k e = refl
no_type (sort.Results t) k e = refl
no_type (sort.Value t) k e = cc
no_type (sort.Constant t c) k e = cc

pub seen : (rights : Rights) (o : Option TypeTree) (a b : Stands) → Stood rights o a b → Seen rights o a b
seen rights o a b (as_before v c) = unchanged refl refl
seen rights o a b (in_place v t c) = unchanged refl refl
seen rights o a b (early t c k e f) = closed t k (no_type c k e) e refl refl refl f

-- A constant stays one, with its value, or is none.
pub constants : (rights : Rights) (o : Option TypeTree) (a b : Stands) → Stood rights o a b → (constant_of b ≡ constant_of a) ⊎ (constant_of b ≡ None)
constants rights o a b (as_before v c) = inl refl
constants rights o a b (in_place v t c) = inr refl
constants rights o a b (early t c k e f) = inr refl

-- ---- where they meet

-- by types and kinds alone
abbrev pub meet : Rights → Option TypeTree → Option OpenKind → Option TypeTree → Option OpenKind → Option Common
meet rights (Some t) k (Some u) l = if is_identical t u then Some (in_type t) else None
meet rights (Some t) k None l = one_typed rights t l
meet rights None k (Some u) l = one_typed rights u k
meet rights None k None l = open_kinds k l

pub common_is : (rights : Rights) (a b : Stands) (t u : Option TypeTree) → common_by rights a b t u ≡ meet rights t (open_kind a) u (open_kind b)
common_is rights a b (Some t) (Some u) = refl
common_is rights a b (Some t) None = refl
common_is rights a b None (Some u) = refl
common_is rights a b None None = refl

pub common_meets : (rights : Rights) (a b : Stands) → common rights a b ≡ meet rights (own_type a) (open_kind a) (own_type b) (open_kind b)
common_meets rights a b = common_is rights a b (own_type a) (own_type b)

-- They meet where they met; or they were both untyped, and meet in the type that the node takes, which is of their kind.
pub data Meets (rights : Rights) (u : Option TypeTree) (c : Common) (new : Option Common) : Type 0 where
  there : new ≡ Some c → Meets rights u c new
  sooner : (t : TypeTree) (k : OpenKind) → c ≡ in_kind k → u ≡ Some t → suits rights k t ≡ true → new ≡ Some (in_type t) → Meets rights u c new

-- ---- kinds

pub both_of : (k l m : OpenKind) → common_kind k l ≡ Some m → (family_of_open l ≡ family_of_open k) × (family_of_open m ≡ family_of_open k)
both_of untyped_kind.Boolean untyped_kind.Boolean m e = (refl, let s : m ≡ untyped_kind.Boolean = cc in ap family_of_open s)
both_of untyped_kind.Text untyped_kind.Text m e = (refl, let s : m ≡ untyped_kind.Text = cc in ap family_of_open s)
both_of untyped_kind.Integer untyped_kind.Integer m e = (refl, let s : m ≡ untyped_kind.Integer = cc in ap family_of_open s)
both_of untyped_kind.Integer untyped_kind.Rune m e = (refl, let s : m ≡ untyped_kind.Rune = cc in ap family_of_open s)
both_of untyped_kind.Rune untyped_kind.Integer m e = (refl, let s : m ≡ untyped_kind.Rune = cc in ap family_of_open s)
both_of untyped_kind.Rune untyped_kind.Rune m e = (refl, let s : m ≡ untyped_kind.Rune = cc in ap family_of_open s)
both_of untyped_kind.Boolean untyped_kind.Integer m e = cc
both_of untyped_kind.Boolean untyped_kind.Rune m e = cc
both_of untyped_kind.Boolean untyped_kind.Text m e = cc
both_of untyped_kind.Integer untyped_kind.Boolean m e = cc
both_of untyped_kind.Integer untyped_kind.Text m e = cc
both_of untyped_kind.Rune untyped_kind.Boolean m e = cc
both_of untyped_kind.Rune untyped_kind.Text m e = cc
both_of untyped_kind.Text untyped_kind.Boolean m e = cc
both_of untyped_kind.Text untyped_kind.Integer m e = cc
both_of untyped_kind.Text untyped_kind.Rune m e = cc

module _ (rights : Rights) (itself : (t : TypeTree) → is_identical t t ≡ true) where
  pub by_family : (k l : OpenKind) (t : TypeTree) → family_of_open l ≡ family_of_open k → suits rights k t ≡ true → suits rights l t ≡ true
  by_family k l t e f = ap (λ g. is_family g (family_of_type (underlying_of rights t))) e ∙ f

  identical_meet : (t u : TypeTree) (k l : Option OpenKind) → t ≡ u → meet rights (Some t) k (Some u) l ≡ Some (in_type t)
  identical_meet t u k l e = ap (λ z. if is_identical t z then Some (in_type t) else None) (sym e) ∙ ap (λ b. if b then Some (in_type t) else None) (itself t)

  pub one_meets : (t : TypeTree) (k : OpenKind) → suits rights k t ≡ true → one_typed rights t (Some k) ≡ Some (in_type t)
  one_meets t k e = ap (λ b. if b then Some (in_type t) else None) e

  -- of one typed operand and an untyped one
  pub one_is : (t : TypeTree) (k : OpenKind) (c : Common) (b : Bool) → (if b then Some (in_type t) else None) ≡ Some c → c ≡ in_type t
  one_is t k c true e = cc
  one_is t k c false e = cc

  pub kinds_are : (o : Option OpenKind) (c : Common) → kind_common o ≡ Some c → (m : OpenKind) × (o ≡ Some m) × (c ≡ in_kind m)
  kinds_are (Some m) c e = (m, refl, cc)
  kinds_are None c e = cc

  same_taken : (c : Common) (t s : TypeTree) (u : Option TypeTree) (a : Stands) → c ≡ in_type s → taken (meeting_take c) u a ≡ Some t → t ≡ s
  same_taken (in_type s) t r u a e f = cc
  same_taken (in_kind k) t r u a e f = cc

  taken_later : (c : Common) (k : OpenKind) (t : TypeTree) (u : Option TypeTree) (a : Stands) → c ≡ in_kind k → taken (meeting_take c) u a ≡ Some t → u ≡ Some t
  taken_later (in_type s) k t u a e f = cc
  taken_later (in_kind m) k t u a e f = f

  -- the left operand was untyped; the other one is as before
  left_meets : (u : Option TypeTree) (a : Stands) (c : Common) (t : TypeTree) (k : OpenKind) (v : Option TypeTree) (l : Option OpenKind) → suits rights k t ≡ true → taken (meeting_take c) u a ≡ Some t
      → meet rights None (Some k) v l ≡ Some c → Meets rights u c (meet rights (Some t) None v l)
  left_meets u a c t k (Some s) l f g e =
      let is : c ≡ in_type s = one_is s k c (suits rights k s) e in
      let same : t ≡ s = same_taken c t s u a is g in
      there (identical_meet t s None l same ∙ ap (λ z. Some (in_type z)) same ∙ sym (ap Some is))
  left_meets u a c t k None None f g e = cc
  left_meets u a c t k None (Some l) f g e =
      let is = kinds_are (common_kind k l) c e in
      let one = both_of k l is.0 is.1 in
      sooner t is.0 is.2 (taken_later c is.0 t u a is.2 g) (by_family k is.0 t one.1 f) (one_meets t l (by_family k l t one.0 f))

  right_meets : (u : Option TypeTree) (b : Stands) (c : Common) (t : TypeTree) (l : OpenKind) (v : Option TypeTree) (k : Option OpenKind) → suits rights l t ≡ true → taken (meeting_take c) u b ≡ Some t
      → meet rights v k None (Some l) ≡ Some c → Meets rights u c (meet rights v k (Some t) None)
  right_meets u b c t l (Some s) k f g e =
      let is : c ≡ in_type s = one_is s l c (suits rights l s) e in
      let same : t ≡ s = same_taken c t s u b is g in
      there (identical_meet s t k None (sym same) ∙ sym (ap Some is))
  right_meets u b c t l None None f g e = cc
  right_meets u b c t l None (Some k) f g e =
      let is = kinds_are (common_kind k l) c e in
      let one = both_of k l is.0 is.1 in
      let first : suits rights k t ≡ true = by_family l k t (sym one.0) f in
      sooner t is.0 is.2 (taken_later c is.0 t u b is.2 g) (by_family k is.0 t one.1 first) (one_meets t k first)

  both_meet : (u : Option TypeTree) (a b : Stands) (c : Common) (t s : TypeTree) (k l : OpenKind) → suits rights k t ≡ true → taken (meeting_take c) u a ≡ Some t → taken (meeting_take c) u b ≡ Some s
      → open_kinds (Some k) (Some l) ≡ Some c → Meets rights u c (meet rights (Some t) None (Some s) None)
  both_meet u a b c t s k l f g h e =
      let is = kinds_are (common_kind k l) c e in
      let one = both_of k l is.0 is.1 in
      let left : u ≡ Some t = taken_later c is.0 t u a is.2 g in
      let right : u ≡ Some s = taken_later c is.0 s u b is.2 h in
      let same : t ≡ s = cc in
      sooner t is.0 is.2 left (by_family k is.0 t one.1 f) (identical_meet t s None None same)

  -- The operands a and b meet in c, and what stands for them meets there or sooner.
  pub meets : (u o q : Option TypeTree) (a b x y : Stands) (c : Common) → Seen rights o a x → Seen rights q b y → taken (meeting_take c) u a ≡ o → taken (meeting_take c) u b ≡ q
      → common rights a b ≡ Some c → Meets rights u c (common rights x y)
  meets u o q a b x y c (unchanged e f) (unchanged g h) l r is =
      there (common_meets rights x y ∙ ap (λ z. meet rights z (open_kind x) (own_type y) (open_kind y)) e ∙ ap (λ z. meet rights (own_type a) z (own_type y) (open_kind y)) f
      ∙ ap (λ z. meet rights (own_type a) (open_kind a) z (open_kind y)) g ∙ ap (λ z. meet rights (own_type a) (open_kind a) (own_type b) z) h ∙ sym (common_meets rights a b) ∙ is)
  meets u o q a b x y c (closed t k n m v w s d) (unchanged g h) l r is =
      let old : meet rights None (Some k) (own_type b) (open_kind b) ≡ Some c =
      ap (λ z. meet rights z (Some k) (own_type b) (open_kind b)) (sym n) ∙ ap (λ z. meet rights (own_type a) z (own_type b) (open_kind b)) (sym m) ∙ sym (common_meets rights a b) ∙ is in
      let new : common rights x y ≡ meet rights (Some t) None (own_type b) (open_kind b) =
      common_meets rights x y ∙ ap (λ z. meet rights z (open_kind x) (own_type y) (open_kind y)) v ∙ ap (λ z. meet rights (Some t) z (own_type y) (open_kind y)) w
      ∙ ap (λ z. meet rights (Some t) None z (open_kind y)) g ∙ ap (λ z. meet rights (Some t) None (own_type b) z) h in
      subst (Meets rights u c) (sym new) (left_meets u a c t k (own_type b) (open_kind b) d (l ∙ s) old)
  meets u o q a b x y c (unchanged e f) (closed t k n m v w s d) l r is =
      let old : meet rights (own_type a) (open_kind a) None (Some k) ≡ Some c =
      ap (λ z. meet rights (own_type a) (open_kind a) z (Some k)) (sym n) ∙ ap (λ z. meet rights (own_type a) (open_kind a) (own_type b) z) (sym m) ∙ sym (common_meets rights a b) ∙ is in
      let new : common rights x y ≡ meet rights (own_type a) (open_kind a) (Some t) None =
      common_meets rights x y ∙ ap (λ z. meet rights z (open_kind x) (own_type y) (open_kind y)) e ∙ ap (λ z. meet rights (own_type a) z (own_type y) (open_kind y)) f
      ∙ ap (λ z. meet rights (own_type a) (open_kind a) z (open_kind y)) v ∙ ap (λ z. meet rights (own_type a) (open_kind a) (Some t) z) w in
      subst (Meets rights u c) (sym new) (right_meets u b c t k (own_type a) (open_kind a) d (r ∙ s) old)
  meets u o q a b x y c (closed t k n m v w s d) (closed i p g h e f z j) l r is =
      let old : open_kinds (Some k) (Some p) ≡ Some c =
      ap (λ z. meet rights None (Some k) None z) (sym h) ∙ ap (λ z. meet rights None (Some k) z (open_kind b)) (sym g)
      ∙ ap (λ z. meet rights z (Some k) (own_type b) (open_kind b)) (sym n) ∙ ap (λ z. meet rights (own_type a) z (own_type b) (open_kind b)) (sym m) ∙ sym (common_meets rights a b) ∙ is in
      let new : common rights x y ≡ meet rights (Some t) None (Some i) None =
      common_meets rights x y ∙ ap (λ z. meet rights z (open_kind x) (own_type y) (open_kind y)) v ∙ ap (λ z. meet rights (Some t) z (own_type y) (open_kind y)) w
      ∙ ap (λ z. meet rights (Some t) None z (open_kind y)) e ∙ ap (λ z. meet rights (Some t) None (Some i) z) f in
      subst (Meets rights u c) (sym new) (both_meet u a b c t i k p d (l ∙ s) (r ∙ z) old)
